-- Patterns of text: at most one, and its words name children.
use Rattle.std.proofs.Common.{◌≡◌, ℕ, ◌<◌, Bool, true, false, not, ◌&&◌, ◌||◌, List, [], ◌∷◌, ◌++◌, map, flat_map, length, Option, Some, None, bytes_eq, refl, sym, ap, ◌∙◌, subst, lt-ltb}
use Rattle.std.specs.Prelude.{option_map, ⊤}
use Rattle.std.specs.Option.{option_map_or}
use Rattle.std.specs.List.{list_any, list_all}
use Rattle.std.proofs.lemmas.Bool.{not-false, not_from_true, or_left}
use Rattle.std.proofs.lemmas.Option.{slice_get_within}
use Rattle.std.proofs.lemmas.List.Folds.{list_any-append}
use Rattle.lrc_base.specs.declared.grammar.Kid.{Kid}
use Rattle.lrc_base.specs.declared.grammar.Piece.{Piece}
use Rattle.lrc_base.specs.declared.grammar.Piece.TheVariants as piece
use Rattle.lrc_base.specs.declared.grammar.Production.{Production}
use Rattle.lrc_base.specs.declared.raw.RawKid.{RawKid}
use Rattle.lrc_base.specs.declared.raw.RawPiece.{RawPiece}
use Rattle.lrc_base.specs.declared.raw.RawPiece.TheVariants as rp
use Rattle.lrc_base.specs.declared.raw.RawSort.{RawSort}
use Rattle.lrc_base.specs.declared.raw.RawItem.{RawItem}
use Rattle.lrc_base.specs.declared.raw.RawItem.TheVariants as item
use Rattle.lrc_base.specs.declared.raw.RawProd.{RawProd}
use Rattle.lrc_meaning.specs.Grammar.{is_piece_right}
use Rattle.lrc_meaning.specs.Naming.{each_some, kid_number, named_piece, pattern_of, only_pattern, named_pattern}
use Rattle.lrc_fault_meaning.specs.Faults.{Name, fault, unknown, is_among, kid_names, is_pattern, piece_faults}
use Rattle.lrc_fault_laws.proofs.Lists.{number_at, number_any, any_number, position-number, Every, every_from, all_pass, Each, each_map, each_gives, each_gives_right, every_has, each_named, named_each, Names, none_where, where_none, After, empty_each, each_empty}
use Rattle.lrc_fault_laws.proofs.Names.{any_named}
use Rattle.lrc_fault_laws.proofs.Heads.{IsKid}

-- ---- at most one

abbrev pub AtMostOne : {A : Type 0} → List A → Type 0
AtMostOne [] = ⊤
AtMostOne (x ∷ []) = ⊤
AtMostOne (x ∷ (y ∷ rest)) = ⊥

abbrev pub IsFirstPattern : List RawItem → RawItem → Type 0
IsFirstPattern before i = (is_pattern i && list_any is_pattern before) ≡ false

no_more : (before : List RawItem) (i : RawItem) → is_pattern i ≡ false → list_any is_pattern (before ++ i ∷ []) ≡ true → list_any is_pattern before ≡ true
no_more before i e h = by (list_any is_pattern before) (is_pattern i) e (sym (list_any-append is_pattern before (i ∷ [])) ∙ h)
  where
    by : (b c : Bool) → c ≡ false → (b || (c || false)) ≡ true → b ≡ true
    by true c e h = refl
    by false true e h = absurd (cc)
    by false false e h = h

one_more : (before : List RawItem) (i : RawItem) → is_pattern i ≡ true → list_any is_pattern (before ++ i ∷ []) ≡ true
one_more before i e = list_any-append is_pattern before (i ∷ []) ∙ by (list_any is_pattern before) (is_pattern i) e
  where
    by : (b c : Bool) → c ≡ true → (b || (c || false)) ≡ true
    by true c e = refl
    by false true e = refl
    by false false e = absurd (cc)

pub one_pattern : (before items : List RawItem) → After IsFirstPattern before items → (list_any is_pattern before ≡ true → flat_map pattern_of items ≡ []) × AtMostOne (flat_map pattern_of items)
one_pattern before [] h = (λ e. refl, tt)
one_pattern before (item.Local n kind x ∷ items) h =
    let rest = one_pattern (before ++ item.Local n kind x ∷ []) items h.1 in
    (λ e. rest.0 (list_any-append is_pattern before (item.Local n kind x ∷ []) ∙ or_left (list_any is_pattern before) false e), rest.1)
one_pattern before (item.Attach n sort x ∷ items) h =
    let rest = one_pattern (before ++ item.Attach n sort x ∷ []) items h.1 in
    (λ e. rest.0 (list_any-append is_pattern before (item.Attach n sort x ∷ []) ∙ or_left (list_any is_pattern before) false e), rest.1)
one_pattern before (item.Own n x ∷ items) h =
    let rest = one_pattern (before ++ item.Own n x ∷ []) items h.1 in
    (λ e. rest.0 (list_any-append is_pattern before (item.Own n x ∷ []) ∙ or_left (list_any is_pattern before) false e), rest.1)
one_pattern before (item.OfKid c n x ∷ items) h =
    let rest = one_pattern (before ++ item.OfKid c n x ∷ []) items h.1 in
    (λ e. rest.0 (list_any-append is_pattern before (item.OfKid c n x ∷ []) ∙ or_left (list_any is_pattern before) false e), rest.1)
one_pattern before (item.Pattern pieces ∷ items) h =
    let rest = one_pattern (before ++ item.Pattern pieces ∷ []) items h.1 in
    let none : flat_map pattern_of items ≡ [] = rest.0 (one_more before (item.Pattern pieces) refl) in
    (λ e. absurd (let here : list_any is_pattern before ≡ false = h.0 in cc), rw none tt)

only_one : {A : Type 0} (x : A) (xs : List A) → AtMostOne (x ∷ xs) → xs ≡ []
only_one x [] h = refl
only_one x (y ∷ xs) h = absurd h

pub first_pattern : (before items : List RawItem) → (list_any is_pattern before ≡ true → flat_map pattern_of items ≡ []) → AtMostOne (flat_map pattern_of items) → After IsFirstPattern before items
first_pattern before [] none one = tt
first_pattern before (item.Local n kind x ∷ items) none one =
    (refl, first_pattern (before ++ item.Local n kind x ∷ []) items (λ e. none (no_more before (item.Local n kind x) refl e)) one)
first_pattern before (item.Attach n sort x ∷ items) none one =
    (refl, first_pattern (before ++ item.Attach n sort x ∷ []) items (λ e. none (no_more before (item.Attach n sort x) refl e)) one)
first_pattern before (item.Own n x ∷ items) none one =
    (refl, first_pattern (before ++ item.Own n x ∷ []) items (λ e. none (no_more before (item.Own n x) refl e)) one)
first_pattern before (item.OfKid c n x ∷ items) none one =
    (refl, first_pattern (before ++ item.OfKid c n x ∷ []) items (λ e. none (no_more before (item.OfKid c n x) refl e)) one)
first_pattern before (item.Pattern pieces ∷ items) none one =
    (fresh' (list_any is_pattern before) refl, first_pattern (before ++ item.Pattern pieces ∷ []) items (λ e. only_one pieces (flat_map pattern_of items) one) (rw (only_one pieces (flat_map pattern_of items) one) tt))
  where
    fresh' : (b : Bool) → list_any is_pattern before ≡ b → list_any is_pattern before ≡ false
    fresh' true e = absurd (let more : pieces ∷ flat_map pattern_of items ≡ [] = none e in cc)
    fresh' false e = e

-- ---- its words

module _ (raw : List RawSort) (p : RawProd) (kids : List Kid) (are : Each (IsKid raw) p.kids kids) where
  abbrev kid_called : Name → Kid → Bool
  kid_called n kid = bytes_eq kid.name n

  among_kids : (n : Name) → is_among (kid_names p.kids) n ≡ list_any (kid_called n) kids
  among_kids n =
      ap (λ l. is_among l n) (sym (each_map (IsKid raw) (λ (a : RawKid). a.name) (λ (b : Kid). b.name) (λ a b h. h.name) p.kids kids are))
      ∙ any_named (λ (b : Kid). b.name) n kids

  pub kid_there : (n : Name) → is_among (kid_names p.kids) n ≡ true → (i : ℕ) × (kid_number kids n ≡ Some i)
  kid_there n e =
      let found = any_number (kid_called n) kids (sym (among_kids n) ∙ e) in
      (found.0, position-number (kid_called n) kids ∙ found.1)

  pub there_kid : (n : Name) (i : ℕ) → kid_number kids n ≡ Some i → is_among (kid_names p.kids) n ≡ true
  there_kid n i e = among_kids n ∙ number_any (kid_called n) kids i (sym (position-number (kid_called n) kids) ∙ e)

  kid_within : (n : Name) (i : ℕ) → kid_number kids n ≡ Some i → i < length kids
  kid_within n i e =
      let found = number_at (kid_called n) kids i (sym (position-number (kid_called n) kids) ∙ e) in
      slice_get_within kids i found.0 found.1

  abbrev HasPiece : RawPiece → Type 0
  HasPiece x = (q : Piece) × (named_piece kids x ≡ Some q)

  piece_named : (x : RawPiece) → piece_faults p x ≡ [] → HasPiece x
  piece_named (rp.Text bytes) e = (piece.Text bytes, refl)
  piece_named (rp.Kid n) e =
      let found = kid_there n (not-false (is_among (kid_names p.kids) n) (none_where (not (is_among (kid_names p.kids) n)) (fault unknown p.name n) e)) in
      (piece.Kid found.0, rw found.1 refl)

  piece_faultless : (x : RawPiece) (q : Piece) → named_piece kids x ≡ Some q → piece_faults p x ≡ []
  piece_faultless (rp.Text bytes) q e = refl
  piece_faultless (rp.Kid n) q e = by (kid_number kids n) refl e
    where
      by : (o : Option ℕ) → kid_number kids n ≡ o → option_map piece.Kid o ≡ Some q → piece_faults p (rp.Kid n) ≡ []
      by None is h = absurd (cc)
      by (Some i) is h =
          where_none (not (is_among (kid_names p.kids) n)) (fault unknown p.name n) (not_from_true (is_among (kid_names p.kids) n) (there_kid n i is))

  piece_right : (P : Production) → P.kids ≡ kids → (x : RawPiece) (q : Piece) → named_piece kids x ≡ Some q → is_piece_right P q ≡ true
  piece_right P same (rp.Text bytes) q e = let is : piece.Text bytes ≡ q = cc in subst (λ q. is_piece_right P q ≡ true) is refl
  piece_right P same (rp.Kid n) q e = by (kid_number kids n) refl e
    where
      by : (o : Option ℕ) → kid_number kids n ≡ o → option_map piece.Kid o ≡ Some q → is_piece_right P q ≡ true
      by None is h = absurd (cc)
      by (Some i) is h =
          let one : piece.Kid i ≡ q = cc in
          subst (λ q. is_piece_right P q ≡ true) one (lt-ltb i (length P.kids) (subst (λ l. i < length l) (sym same) (kid_within n i is)))

  -- ---- the pattern of a production

  abbrev pub AreRight : List RawPiece → Type 0
  AreRight pieces = flat_map (piece_faults p) pieces ≡ []

  abbrev pub PatternOf : List RawItem → Type 0
  PatternOf items = (o : Option (List Piece)) × (named_pattern kids items ≡ Some o) × ((P : Production) → P.kids ≡ kids → option_map_or (list_all (is_piece_right P)) o true ≡ true)

  pieces_named : (pieces : List RawPiece) → AreRight pieces → (qs : List Piece) × Each (Names (named_piece kids)) pieces qs
  pieces_named pieces e =
      every_has (Names (named_piece kids)) pieces (every_from HasPiece (λ x. piece_faults p x ≡ []) piece_named pieces (empty_each (piece_faults p) pieces e))

  pieces_right : (P : Production) → P.kids ≡ kids → (pieces : List RawPiece) (qs : List Piece) → Each (Names (named_piece kids)) pieces qs → list_all (is_piece_right P) qs ≡ true
  pieces_right P same pieces qs h =
      all_pass (is_piece_right P) qs (each_gives_right (Names (named_piece kids)) (λ q. is_piece_right P q ≡ true) (piece_right P same) pieces qs h)

  pub pattern_right : (items : List RawItem) → After IsFirstPattern [] items → Every AreRight (flat_map pattern_of items) → PatternOf items
  pattern_right items first right = by (flat_map pattern_of items) refl (one_pattern [] items first).1 right
    where
      by : (all : List (List RawPiece)) → flat_map pattern_of items ≡ all → AtMostOne all → Every AreRight all → (o : Option (List Piece)) × (only_pattern kids all ≡ Some o) × ((P : Production) → P.kids ≡ kids → option_map_or (list_all (is_piece_right P)) o true ≡ true)
      by [] is one h = (None, refl, λ P same. refl)
      by (pieces ∷ []) is one h =
          let named = pieces_named pieces h.0 in
          (Some named.0, rw (named_each (named_piece kids) pieces named.0 named.1) refl, λ P same. pieces_right P same pieces named.0 named.1)
      by (pieces ∷ (more ∷ rest)) is one h = absurd one

  pub pattern_was_right : (items : List RawItem) (o : Option (List Piece)) → named_pattern kids items ≡ Some o → After IsFirstPattern [] items × Every AreRight (flat_map pattern_of items)
  pattern_was_right items o e = let both = by (flat_map pattern_of items) e in (first_pattern [] items (λ e. absurd (cc)) both.0, both.1)
    where
      named_right : (pieces : List RawPiece) (named : Option (List Piece)) → each_some (map (named_piece kids) pieces) ≡ named → option_map (λ ps. Some ps) named ≡ Some o → AreRight pieces
      named_right pieces None is h = absurd (cc)
      named_right pieces (Some qs) is h =
          each_empty (piece_faults p) pieces (each_gives (Names (named_piece kids)) (λ x. piece_faults p x ≡ []) piece_faultless pieces qs (each_named (named_piece kids) pieces qs is))

      by : (all : List (List RawPiece)) → only_pattern kids all ≡ Some o → AtMostOne all × Every AreRight all
      by [] h = (tt, tt)
      by (pieces ∷ []) h = (tt, (named_right pieces (each_some (map (named_piece kids) pieces)) refl h, tt))
      by (pieces ∷ (more ∷ rest)) h = absurd (cc)
