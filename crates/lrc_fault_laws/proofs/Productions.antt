-- A production has no fault exactly where it is named and is right by number.
use Rattle.std.proofs.Common.{◌≡◌, true, not, ◌&&◌, ◌||◌, List, [], ◌∷◌, ◌++◌, map, flat_map, length, Option, Some, nat_lt, refl, sym, ap, ap₂, ◌∙◌, subst, lt-ltb}
use Rattle.std.specs.Option.{option_map_or}
use Rattle.std.specs.List.{list_all}
use Rattle.std.proofs.lemmas.Bool.{and_from}
use Rattle.lrc_base.specs.declared.grammar.Attr.{Attr}
use Rattle.lrc_base.specs.declared.grammar.Sort.{Sort}
use Rattle.lrc_base.specs.declared.grammar.Kid.{Kid}
use Rattle.lrc_base.specs.declared.grammar.Extra.{Extra}
use Rattle.lrc_base.specs.declared.grammar.Equation.{Equation}
use Rattle.lrc_base.specs.declared.grammar.Piece.{Piece}
use Rattle.lrc_base.specs.declared.grammar.Production.{Production}
use Rattle.lrc_base.specs.declared.raw.RawAttr.{RawAttr}
use Rattle.lrc_base.specs.declared.raw.RawKid.{RawKid}
use Rattle.lrc_base.specs.declared.raw.RawItem.{RawItem}
use Rattle.lrc_base.specs.declared.raw.RawPiece.{RawPiece}
use Rattle.lrc_base.specs.declared.raw.RawProd.{RawProd}
use Rattle.lrc_base.specs.declared.raw.RawGrammar.{RawGrammar}
use Rattle.lrc_meaning.specs.Tree.{is_sort}
use Rattle.lrc_meaning.specs.Grammar.{attrs_of_sort, occurrences_of, is_known, names_of, is_equation_right, is_defined_once, is_piece_right}
use Rattle.lrc_meaning.specs.Naming.{each_some, sort_number, named_kid, named_extras, named_equations, pattern_of, named_pattern}
use Rattle.lrc_meaning.proofs.NamedLemmas.{known_to}
use Rattle.lrc_fault_meaning.specs.Faults.{attrs_named, Declared, local, attached, declared_name, body_faults, item_faults, piece_faults, missing, each_after}
use Rattle.lrc_fault_laws.proofs.Lists.{Every, every_from, every_middle, every_flat, every_of_flat, every_has, every_passes, all_pass, Each, each_map, each_gives_right, each_right, each_left, each_named, named_each, Names, After, none_after, after_none, after_from, after_of_whole, every_of_after, empty_parts, empty_both}
use Rattle.lrc_fault_laws.proofs.Sorts.{SortsRight, IsAttr, attrs_at, kind_is_known, is_that_sort}
use Rattle.lrc_fault_laws.proofs.Heads.{declared_in, declared_kind, own_names, IsKid, IsExtra, are_kids, are_extras, Head}
use Rattle.lrc_fault_laws.proofs.Patterns.{IsFirstPattern, PatternOf, pattern_right, pattern_was_right}
use Rattle.lrc_fault_laws.proofs.Places.{places_of}
use Rattle.lrc_fault_laws.proofs.Equations.{RawEquation, raw_equations, named_raw, equations_named, RightAt, right_named, named_right, ItemRight, item_right, item_faultless, DefinesLeft}
use Rattle.lrc_fault_laws.proofs.Counts.{IsNewTarget, IsOnce, is_once, once_same, all_once, none_missing, once_item}

module _ (g : RawGrammar) (sorts : List Sort) where
  -- ---- what is right of a head that is named

  module _ (r : SortsRight g.sorts sorts) (p : RawProd) (P : Production) (el : sort_number g.sorts p.left ≡ Some P.left) (ek : each_some (map (named_kid g.sorts) p.kids) ≡ Some P.kids) (ex : named_extras g.sorts p.items ≡ Some P.extras) where
    kids : Each (IsKid g.sorts) p.kids P.kids
    kids = are_kids g.sorts p.kids P.kids ek

    extras : Each (IsExtra g.sorts) (declared_in p.items) P.extras
    extras = are_extras g.sorts p.items P.extras ex

    pub names_same : names_of sorts P ≡ own_names g.sorts p
    names_same =
        ap₂ ◌++◌ (each_map (IsAttr g.sorts) (λ (a : RawAttr). a.name) (λ (a : Attr). a.name) (λ a b h. h.name) (attrs_named g.sorts p.left) (attrs_of_sort sorts P.left) (attrs_at g.sorts sorts r.named p.left P.left el).0) (ap₂ ◌++◌ (each_map (IsKid g.sorts) (λ (a : RawKid). a.name) (λ (a : Kid). a.name) (λ a b h. h.name) p.kids P.kids kids) (each_map (IsExtra g.sorts) declared_name (λ (x : Extra). x.name) (λ d x h. h.name) (declared_in p.items) P.extras extras))

    pub left_within : nat_lt P.left (length sorts) ≡ true
    left_within = lt-ltb P.left (length sorts) (attrs_at g.sorts sorts r.named p.left P.left el).1

    pub kids_known : list_all (λ (kid : Kid). is_known sorts kid.kind) P.kids ≡ true
    kids_known =
        all_pass (λ (kid : Kid). is_known sorts kid.kind) P.kids (each_gives_right (IsKid g.sorts) (λ (b : Kid). is_known sorts b.kind ≡ true) (λ a b h. kind_is_known g.sorts sorts r.named a.kind b.kind h.kind) p.kids P.kids kids)

    extra_right : (d : Declared) (x : Extra) → IsExtra g.sorts d x → (is_known sorts x.kind && (not x.attached || is_sort x.kind)) ≡ true
    extra_right (local n kind) x h =
        and_from (is_known sorts x.kind) (not x.attached || is_sort x.kind) (kind_is_known g.sorts sorts r.named kind x.kind h.kind) (rw (h.attached) refl)
    extra_right (attached n sort) x h =
        and_from (is_known sorts x.kind) (not x.attached || is_sort x.kind) (kind_is_known g.sorts sorts r.named (declared_kind (attached n sort)) x.kind h.kind) (rw (h.attached) (is_that_sort g.sorts sort x.kind (λ y. is_sort y ≡ true) h.kind (λ i e. refl)))

    pub extras_right : list_all (λ (x : Extra). is_known sorts x.kind && (not x.attached || is_sort x.kind)) P.extras ≡ true
    extras_right =
        all_pass (λ (x : Extra). is_known sorts x.kind && (not x.attached || is_sort x.kind)) P.extras (each_gives_right (IsExtra g.sorts) (λ (x : Extra). (is_known sorts x.kind && (not x.attached || is_sort x.kind)) ≡ true) extra_right (declared_in p.items) P.extras extras)

  -- ---- the body of a production

  module _ (r : SortsRight g.sorts sorts) (p : RawProd) (P : Production) (head : Head g.sorts p P.left P.kids P.extras) (prods : List Production) (made : Each (λ q Q. Head g.sorts q Q.left Q.kids Q.extras) g.prods prods) where
    abbrev Right : List RawItem → RawItem → Type 0
    Right = ItemRight g sorts r.named p P head prods made

    abbrev raw_all : List RawEquation
    raw_all = flat_map raw_equations p.items

    abbrev IsNumbered : RawEquation → Equation → Type 0
    IsNumbered = Names (named_raw g sorts r.named p P head prods made)

    abbrev RightEquation : RawEquation → Type 0
    RightEquation = RightAt g sorts r.named p P head prods made

    items_right : each_after (item_faults g p) [] p.items ≡ [] → After Right [] p.items
    items_right e =
        after_from p.items (λ b i. item_faults g p b i ≡ []) Right (item_right g sorts r.named p P head prods made) [] p.items refl (none_after (item_faults g p) [] p.items e)

    all_right : After Right [] p.items → Every RightEquation raw_all
    all_right h =
        every_flat RightEquation raw_equations p.items (every_of_after (λ i. Every RightEquation (raw_equations i)) [] p.items (after_from p.items Right (λ b i. Every RightEquation (raw_equations i)) (λ b i rest w k. k.each) [] p.items refl h))

    numbered : (qs : List Equation) → named_equations (known_to g sorts P) p.items ≡ Some qs → Each IsNumbered raw_all qs
    numbered qs e =
        each_named (named_raw g sorts r.named p P head prods made) raw_all qs (ap each_some (sym (equations_named g sorts r.named p P head prods made p.items)) ∙ e)

    -- the words of a pattern name children
    abbrev AreKids : List RawPiece → Type 0
    AreKids pieces = flat_map (piece_faults p) pieces ≡ []

    pieces_right : After Right [] p.items → Every AreKids (flat_map pattern_of p.items)
    pieces_right h =
        every_flat AreKids pattern_of p.items (every_of_after (λ i. Every AreKids (pattern_of i)) [] p.items (after_from p.items Right (λ b i. Every AreKids (pattern_of i)) (λ b i rest w k. k.pieces) [] p.items refl h))

    -- a body without faults has equations and a pattern by number
    pub body_named : (patterns : After IsFirstPattern [] p.items) → body_faults g p ≡ [] → ((qs : List Equation) × (named_equations (known_to g sorts P) p.items ≡ Some qs)) × ((o : Option (List Piece)) × (named_pattern P.kids p.items ≡ Some o))
    body_named patterns e =
        let parts = empty_parts (each_after (item_faults g p) [] p.items) (missing g.sorts p) e in
        let items = items_right parts.0 in
        let qs = every_has IsNumbered raw_all (every_from (λ r'. (q : Equation) × IsNumbered r' q) RightEquation (λ r' h. let found = right_named g sorts r.named p P head prods made r' h in (found.0, found.1)) raw_all (all_right items)) in
        let pattern = pattern_right g.sorts p P.kids (are_kids g.sorts p.kids P.kids head.of_kids) p.items patterns (pieces_right items) in
        ((qs.0, ap each_some (equations_named g sorts r.named p P head prods made p.items) ∙ named_each (named_raw g sorts r.named p P head prods made) raw_all qs.0 qs.1), (pattern.0, pattern.1))

    -- each equation is right, each place has one, and the pattern is right
    pub record BodyRight : Type 0 where
      pub equations : list_all (is_equation_right sorts prods P) P.equations ≡ true
      pub once : is_defined_once P (occurrences_of sorts P) ≡ true
      pub pattern : option_map_or (list_all (is_piece_right P)) P.pattern true ≡ true

    pub body_right : named_equations (known_to g sorts P) p.items ≡ Some P.equations → named_pattern P.kids p.items ≡ Some P.pattern → After IsFirstPattern [] p.items → body_faults g p ≡ [] → BodyRight
    body_right eq ep patterns e =
        let parts = empty_parts (each_after (item_faults g p) [] p.items) (missing g.sorts p) e in
        let items = items_right parts.0 in
        let right = all_right items in
        let new = after_from p.items Right IsNewTarget (λ b i rest w k. k.new) [] p.items refl items in
        let left = every_of_after (DefinesLeft g sorts r.named p P head prods made) [] p.items (after_from p.items Right (λ b i. DefinesLeft g sorts r.named p P head prods made i) (λ b i rest w k. k.defines_left) [] p.items refl items) in
        let once = all_once g sorts r.named p P head prods made r.attrs new left parts.1 in
        record {
          equations = all_pass (is_equation_right sorts prods P) P.equations (each_right IsNumbered RightEquation (λ q. is_equation_right sorts prods P q ≡ true) same_equation raw_all P.equations (numbered P.equations eq) right);
          once = once_same g sorts r.named p P head prods made r.attrs (numbered P.equations eq) ∙ all_pass (is_once g sorts r.named p P head prods made r.attrs) (places_of g.sorts p) once;
          pattern = pattern_of_it P.pattern ep (pattern_right g.sorts p P.kids (are_kids g.sorts p.kids P.kids head.of_kids) p.items patterns (pieces_right items));
        }
      where
        same_equation : (r' : RawEquation) (q : Equation) → IsNumbered r' q → RightEquation r' → is_equation_right sorts prods P q ≡ true
        same_equation r' q n h =
            let found = right_named g sorts r.named p P head prods made r' h in
            let same : found.0 ≡ q = (let both : Some found.0 ≡ Some q = sym found.1 ∙ n in cc) in
            subst (λ q. is_equation_right sorts prods P q ≡ true) same found.2

        pattern_of_it : (o : Option (List Piece)) → named_pattern P.kids p.items ≡ Some o → PatternOf g.sorts p P.kids (are_kids g.sorts p.kids P.kids head.of_kids) p.items → option_map_or (list_all (is_piece_right P)) o true ≡ true
        pattern_of_it o e found =
            let same : found.0 ≡ o = (let both : Some found.0 ≡ Some o = sym found.1 ∙ e in cc) in
            subst (λ o. option_map_or (list_all (is_piece_right P)) o true ≡ true) same (found.2 P refl)

    -- and back
    pub body_faultless : named_equations (known_to g sorts P) p.items ≡ Some P.equations → named_pattern P.kids p.items ≡ Some P.pattern → BodyRight → body_faults g p ≡ []
    body_faultless eq ep h =
        let right = each_left IsNumbered RightEquation (λ q. is_equation_right sorts prods P q ≡ true) (named_right g sorts r.named p P head prods made) raw_all P.equations (numbered P.equations eq) (every_passes (is_equation_right sorts prods P) P.equations h.equations) in
        let once = every_passes (is_once g sorts r.named p P head prods made r.attrs) (places_of g.sorts p) (sym (once_same g sorts r.named p P head prods made r.attrs (numbered P.equations eq)) ∙ h.once) in
        let pieces = (pattern_was_right g.sorts p P.kids (are_kids g.sorts p.kids P.kids head.of_kids) p.items P.pattern ep).1 in
        let items = after_of_whole (λ b i. item_faults g p b i ≡ []) [] p.items p.items refl (λ b i rest w. item_faultless g sorts r.named p P head prods made b i rest w (one_item right once pieces b i rest w)) in
        empty_both (each_after (item_faults g p) [] p.items) (missing g.sorts p) (after_none (item_faults g p) [] p.items items) (none_missing g sorts r.named p P head prods made r.attrs once)
      where
        one_item : Every RightEquation raw_all → Every (IsOnce g sorts r.named p P head prods made r.attrs) (places_of g.sorts p) → Every AreKids (flat_map pattern_of p.items) → (b : List RawItem) (i : RawItem) (rest : List RawItem) → b ++ i ∷ rest ≡ p.items → Right b i
        one_item right once pieces b i rest w =
            let both = once_item g sorts r.named p P head prods made r.attrs once right b i rest w in
            record {
              each = every_middle (λ i. Every RightEquation (raw_equations i)) b i rest (subst (Every (λ i. Every RightEquation (raw_equations i))) (sym w) (every_of_flat RightEquation raw_equations p.items right));
              new = both.0;
              defines_left = both.1;
              pieces = every_middle (λ i. Every AreKids (pattern_of i)) b i rest (subst (Every (λ i. Every AreKids (pattern_of i))) (sym w) (every_of_flat AreKids pattern_of p.items pieces));
            }
