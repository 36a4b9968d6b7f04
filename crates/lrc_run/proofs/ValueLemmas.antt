-- The text of values, as it is appended value by value, and the number that the first of them is.
use Rattle.std.proofs.Common.{◌≡◌, ℕ, ◌+◌, ◌<◌, ℤ, pos, true, false, cond, List, [], ◌∷◌, ◌++◌, length, drop, get_or, Some, None, ◌⊎◌, inl, inr, refl, sym, ap, ◌∙◌, append_assoc}
use Rattle.std.specs.List.{AllByRecursion}
use Rattle.std.proofs.lemmas.List.{append-nil}
use Rattle.std.proofs.Math.Seq.{drop-length}
use Rattle.lrc_base.specs.declared.grammar.Attr.{Attr}
use Rattle.lrc_base.specs.declared.grammar.Production.{Production}
use Rattle.lrc_meaning.specs.Tree.{Tree, int, bool, name, node}
use Rattle.lrc_meaning.specs.Text.{named_values, synthesised_attrs}
use Rattle.lrc_grammar.proofs.ListLemmas.{next_left}
use Rattle.lrc_store.specs.Cells.{nil, number, pair}
use Rattle.lrc_store.specs.Standing.{Standing, Stands, meant}
use Rattle.lrc_store.specs.declared.cells.Cell.{Cell}
use Rattle.lrc_store.specs.declared.cells.Cell.TheVariants as cell
use Rattle.lrc_store.specs.declared.cells.Handle.{Handle}
use Rattle.lrc_store.specs.Words.{Shows}
use Rattle.lrc_store.proofs.Known.{stands-meant}
use Rattle.lrc_code.specs.Forms.{tree_cell}
use Rattle.lrc_call_meaning.specs.Forms.{values_cell}
use Rattle.lrc_call_meaning.specs.Spelled.{IsSpelled}
use Rattle.lrc_eval.proofs.ValueLemmas.{number-tree}
use Rattle.lrc_run.specs.Lines.{first_number}
use Rattle.lrc_run.specs.Values.{Begins, Pushes}

-- the text of the values that the handle stands for, by these attributes, completes a whole
pub record Completes (prods : List Production) (s : Standing) (attrs : List Attr) (left : ℕ) (text whole : List ℕ) : Type 0 where
  pub own : List Tree
  pub spelled : AllByRecursion IsSpelled own
  pub stands : Stands s left (values_cell own)
  pub completes : text ++ named_values prods (synthesised_attrs attrs) own ≡ whole

-- no value is left
no_value : (prods : List Production) (attrs : List Attr) → named_values prods attrs [] ≡ []
no_value prods [] = refl
no_value prods (a ∷ attrs) = refl

-- the synthesised of an attribute and others
inherited_first : (a : Attr) (rest : List Attr) → a.inherited ≡ true → synthesised_attrs (a ∷ rest) ≡ synthesised_attrs rest
inherited_first a rest e = ap (λ b. cond b (synthesised_attrs rest) (a ∷ synthesised_attrs rest)) e

synthesised_first : (a : Attr) (rest : List Attr) → a.inherited ≡ false → synthesised_attrs (a ∷ rest) ≡ a ∷ synthesised_attrs rest
synthesised_first a rest e = ap (λ b. cond b (synthesised_attrs rest) (a ∷ synthesised_attrs rest)) e

module _ (prods : List Production) (attrs : List Attr) (i : ℕ) (a : Attr) (there : i < length attrs) (is : a ≡ get_or attrs i a) (whole : List ℕ) where
  -- an inherited attribute is passed over
  pub passed_over : (s : Standing) (left : ℕ) (text : List ℕ) → a.inherited ≡ true → Completes prods s (drop i attrs) left text whole → Completes prods s (drop (i + 1) attrs) left text whole
  passed_over s left text e c = record {
    own = c.own;
    spelled = c.spelled;
    stands = c.stands;
    completes = ap (λ xs. text ++ named_values prods xs c.own) (sym (ap synthesised_attrs (next_left attrs i a there is) ∙ inherited_first a (drop (i + 1) attrs) e)) ∙ c.completes;
  }

  longer : (own : List Tree) (text : List ℕ) → a.inherited ≡ false → text ++ named_values prods (synthesised_attrs (drop i attrs)) own ≡ text ++ named_values prods (a ∷ synthesised_attrs (drop (i + 1) attrs)) own
  longer own text e = ap (λ xs. text ++ named_values prods xs own) (ap synthesised_attrs (next_left attrs i a there is) ∙ synthesised_first a (drop (i + 1) attrs) e)

  -- the value of a synthesised one is appended
  pub appended : (s u : Standing) (left : ℕ) (text more : List ℕ) (rest : Handle) → a.inherited ≡ false → (c : Completes prods s (drop i attrs) left text whole) → Pushes prods u a c.own text more (Some rest) →
      Completes prods u (drop (i + 1) attrs) rest.0 more whole
  appended s u left text more rest e c p = over c.own c.spelled c.completes p where
    over : (own : List Tree) → AllByRecursion IsSpelled own → text ++ named_values prods (synthesised_attrs (drop i attrs)) own ≡ whole → Pushes prods u a own text more (Some rest) →
        Completes prods u (drop (i + 1) attrs) rest.0 more whole
    over [] spelled completes never = absurd never
    over (v ∷ vs) spelled completes pushed = record {
      own = vs;
      spelled = spelled.1;
      stands = pushed.1;
      completes =
          ap (λ t. t ++ named_values prods (synthesised_attrs (drop (i + 1) attrs)) vs) pushed.0
          ∙ (simp append_assoc)
          ∙ (sym (longer (v ∷ vs) text e) ∙ completes);
    }

  -- no value is left for it
  pub none_left : (s u : Standing) (left : ℕ) (text more : List ℕ) → a.inherited ≡ false → (c : Completes prods s (drop i attrs) left text whole) → Pushes prods u a c.own text more None → more ≡ whole
  none_left s u left text more e c p = over c.own c.completes p where
    over : (own : List Tree) → text ++ named_values prods (synthesised_attrs (drop i attrs)) own ≡ whole → Pushes prods u a own text more None → more ≡ whole
    over [] completes same =
        same ∙ sym (ap (λ t. text ++ t) (no_value prods (synthesised_attrs (drop i attrs))) ∙ append-nil text) ∙ completes
    over (v ∷ vs) completes never = absurd never

-- no attribute is left
pub all_passed : (prods : List Production) (s : Standing) (attrs : List Attr) (i left : ℕ) (text whole : List ℕ) → i ≡ length attrs → Completes prods s (drop i attrs) left text whole → text ≡ whole
all_passed prods s attrs i left text whole e c =
    sym (ap (λ xs. text ++ named_values prods (synthesised_attrs xs) c.own) (ap (λ n. drop n attrs) e ∙ drop-length attrs) ∙ append-nil text) ∙ c.completes

-- ---- the first value, as a number

-- the number that is shown, or 0
abbrev shown_number : Cell → ℤ
shown_number cell.Nil = pos 0
shown_number (cell.Number n) = n
shown_number (cell.Pair tag left right) = pos 0

is_number : (v : Tree) (vs : List Tree) (n : ℤ) → tree_cell v ≡ number n → n ≡ first_number (v ∷ vs)
is_number v vs n e = ap (λ t. first_number (t ∷ vs)) (sym (number-tree v n e))

is_no_number : (v : Tree) (vs : List Tree) → ((n : ℤ) → ¬ (tree_cell v ≡ number n)) → pos 0 ≡ first_number (v ∷ vs)
is_no_number (int n) vs other = absurd (other n refl)
is_no_number (bool b) vs other = refl
is_no_number (name bytes) vs other = refl
is_no_number (node p kids) vs other = refl

pub number_shown : (s t : Standing) (vs : List Tree) (found : Handle × Handle) (shown : Cell) → Begins s vs (Some found) → Shows t shown (meant s found.0.0) → shown_number shown ≡ first_number vs
number_shown s t [] found shown begins shows = absurd begins
number_shown s t (v ∷ vs) found cell.Nil begins shows =
    let stands = stands-meant s found.0.0 (tree_cell v) begins.0 in
    is_no_number v vs (λ n e. let apart : nil ≡ number n = sym shows ∙ stands ∙ e in absurd (cc))
number_shown s t (v ∷ vs) found (cell.Number n) begins shows = is_number v vs n (sym (stands-meant s found.0.0 (tree_cell v) begins.0) ∙ shows)
number_shown s t (v ∷ vs) found (cell.Pair tag left right) begins shows =
    let stands = stands-meant s found.0.0 (tree_cell v) begins.0 in
    is_no_number v vs (λ n e. let apart : pair tag (meant t left.0) (meant t right.0) ≡ number n = sym shows.2 ∙ stands ∙ e in absurd (cc))

-- what is shown is no number
pub none_shown : (shown : Cell) → (shown ≡ cell.Nil) ⊎ ((tag : ℕ) × (left : Handle) × (right : Handle) × (shown ≡ cell.Pair tag left right)) → pos 0 ≡ shown_number shown
none_shown shown (inl is) = ap shown_number (sym is)
none_shown shown (inr (tag, left, right, is)) = ap shown_number (sym is)
