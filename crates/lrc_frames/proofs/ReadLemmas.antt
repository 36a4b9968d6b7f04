-- What is read off the cells of lists and of the items of bindings.
use Rattle.std.proofs.Common.{◌≡◌, ℕ, ℤ, Bool, true, false, List, [], ◌∷◌, refl, sym, ap, ◌∙◌, Some, nat_eq}
use Rattle.lrc_meaning.specs.Tree.{Tree}
use Rattle.lrc_visit_meaning.specs.Values.{Datum, value, binding, value_in, binding_in}
use Rattle.lrc_store.specs.Cells.{CellTree, nil, number, pair}
use Rattle.lrc_store.specs.Standing.{Standing, Stands, IsKnown, meant}
use Rattle.lrc_store.specs.Words.{Reads}
use Rattle.lrc_store.specs.declared.cells.Handle.{Handle}
use Rattle.lrc_store.proofs.Known.{known-stands}
use Rattle.lrc_store.proofs.Lasting.{lasts-same}
use Rattle.lrc_code.specs.Forms.{list_cell, tree_cell}
use Rattle.lrc_call_meaning.specs.Forms.{datum_cell}
use Rattle.lrc_call_meaning.specs.Decoding.{datum_in}
use Rattle.lrc_call_meaning.specs.Spelled.{IsSpelledDatum}
use Rattle.lrc_call_meaning.proofs.DecodingLemmas.{datum-back}
use Rattle.lrc_eval.specs.declared.values.Val.{Val}
use Rattle.lrc_eval.specs.declared.values.Val.TheVariants as v
use Rattle.lrc_eval.specs.Values.{Means, IsMeant}
use Rattle.lrc_frames.specs.Frames.{MeansBinding}
use Rattle.lrc_frames.specs.Lists.{IsFront, is_binding}

-- a store that was not touched was only read
pub reads_same : (s : Standing) → Reads s s
reads_same s = record {
  stays = record { lasts = lasts-same s; made = refl; drawn = refl; quota = refl; blocks = refl; dry = refl };
  memo = refl;
  missed = refl;
}

-- ---- fronts of lists

pub cons_first : {X : Type 0} (x y : X) (xs ys : List X) → x ∷ xs ≡ y ∷ ys → x ≡ y
cons_first x y xs ys e = cc

pub cons_rest : {X : Type 0} (x y : X) (xs ys : List X) → x ∷ xs ≡ y ∷ ys → xs ≡ ys
cons_rest x y xs ys e = cc

pair-item : (tag tag' : ℕ) (a b c d : CellTree) → pair tag a b ≡ pair tag' c d → a ≡ c
pair-item tag tag' a b c d e = cc

pair-rest : (tag tag' : ℕ) (a b c d : CellTree) → pair tag a b ≡ pair tag' c d → b ≡ d
pair-rest tag tag' a b c d e = cc

-- what is shown as nil has no items, what is shown as a pair has a front, and nothing is shown as a number
pub no_front : (items : List CellTree) → list_cell items ≡ nil → items ≡ []
no_front [] e = refl
no_front (item ∷ items) e = absurd (cc)

pub no_number : (items : List CellTree) (z : ℤ) → list_cell items ≡ number z → ⊥
no_number [] z e = absurd (cc)
no_number (item ∷ items) z e = absurd (cc)

pub front_shown : (s : Standing) (items : List CellTree) (tag : ℕ) (item rest : Handle) → IsKnown s item.0 → IsKnown s rest.0
    → list_cell items ≡ pair tag (meant s item.0) (meant s rest.0) → IsFront s items (record { item = item; rest = rest })
front_shown s [] tag item rest known there e = absurd (cc)
front_shown s (x ∷ xs) tag item rest known there e = record {
  first = x;
  others = xs;
  all = refl;
  item = known-stands s item.0 known ∙ ap Some (sym (pair-item 4 tag x (list_cell xs) (meant s item.0) (meant s rest.0) e));
  rest = known-stands s rest.0 there ∙ ap Some (sym (pair-rest 4 tag x (list_cell xs) (meant s item.0) (meant s rest.0) e));
}

-- ---- items of bindings

-- by what is read back of its cell
sort_by : (d : Datum) (cell : CellTree) → IsSpelledDatum d → datum_cell d ≡ cell → is_binding d ≡ is_binding (datum_in cell)
sort_by d cell spelled e = ap is_binding (sym (datum-back d spelled) ∙ ap datum_in e)

pub nil_is_binding : (d : Datum) → IsSpelledDatum d → datum_cell d ≡ nil → true ≡ is_binding d
nil_is_binding d spelled e = sym (sort_by d nil spelled e)

pub number_is_value : (d : Datum) (z : ℤ) → IsSpelledDatum d → datum_cell d ≡ number z → false ≡ is_binding d
number_is_value d z spelled e = sym (sort_by d (number z) spelled e)

pub pair_by_tag : (d : Datum) (tag : ℕ) (left right : CellTree) → IsSpelledDatum d → datum_cell d ≡ pair tag left right → nat_eq tag 4 ≡ is_binding d
pair_by_tag d tag left right spelled e = over (nat_eq tag 4) refl ∙ sym (sort_by d (pair tag left right) spelled e) where
  over : (b : Bool) → nat_eq tag 4 ≡ b → nat_eq tag 4 ≡ is_binding (datum_in (pair tag left right))
  over true same = rw same refl
  over false same = rw same refl

-- what is a binding is read as one, and what is a value as one
pub binding_shown : (s : Standing) (item : Handle) (d : Datum) → is_binding d ≡ true → Stands s item.0 (datum_cell d) → IsSpelledDatum d → MeansBinding s (v.Ref item) (binding_in d)
binding_shown s item (value t) e stands spelled = absurd (cc)
binding_shown s item (binding ds) e stands spelled = (stands, spelled)

pub nothing_shown : (s : Standing) (d : Datum) → is_binding d ≡ false → Stands s 0 nil → MeansBinding s (v.Ref (record { 0 = 0 })) (binding_in d)
nothing_shown s (value t) e stands = (stands, tt)
nothing_shown s (binding ds) e stands = absurd (cc)

pub value_cell : (s : Standing) (item : Handle) (d : Datum) → is_binding d ≡ false → Stands s item.0 (datum_cell d) → Stands s item.0 (tree_cell (value_in d))
value_cell s item (value t) e stands = stands
value_cell s item (binding ds) e stands = absurd (cc)

pub value_stands : (s : Standing) (item : Handle) (d : Datum) → is_binding d ≡ false → Stands s item.0 (datum_cell d) → (t : Tree) × Stands s item.0 (tree_cell t)
value_stands s item d e stands = (value_in d, value_cell s item d e stands)

pub value_shown : (s : Standing) (shown : Val) (d : Datum) → is_binding d ≡ false → IsSpelledDatum d → Means s shown (value_in d) → IsMeant s shown (value_in d)
value_shown s shown (value t) e spelled means = record { means = means; spelled = spelled }
value_shown s shown (binding ds) e spelled means = absurd (cc)

pub no_value_shown : (s : Standing) (d : Datum) → is_binding d ≡ true → IsMeant s (v.Bool false) (value_in d)
no_value_shown s (value t) e = absurd (cc)
no_value_shown s (binding ds) e = record { means = refl; spelled = tt }
