-- A grammar as it is written has no fault exactly where it is named and well formed.
use Rattle.std.proofs.Common.{◌≡◌, ℕ, Bool, true, false, not, ◌&&◌, ◌||◌, cond, List, [], ◌∷◌, ◌++◌, map, flat_map, length, Option, Some, None, nat_lt, is_none, IsTrue, codes, refl, sym, ap, ◌∙◌, subst, lt-ltb}
use Rattle.std.specs.Prelude.{option_map, option_and_then}
use Rattle.std.specs.Option.{option_map_or}
use Rattle.std.specs.List.{list_all}
use Rattle.std.proofs.lemmas.Bool.{and_parts, and_from, not-true, not_from_false}
use Rattle.std.proofs.lemmas.Option.{option_and_then_some}
use Rattle.lrc_base.specs.declared.grammar.Attr.{Attr}
use Rattle.lrc_base.specs.declared.grammar.Sort.{Sort}
use Rattle.lrc_base.specs.declared.grammar.Kid.{Kid}
use Rattle.lrc_base.specs.declared.grammar.Extra.{Extra}
use Rattle.lrc_base.specs.declared.grammar.Production.{Production}
use Rattle.lrc_base.specs.declared.raw.RawAttr.{RawAttr}
use Rattle.lrc_base.specs.declared.raw.RawProd.{RawProd}
use Rattle.lrc_base.specs.declared.raw.RawGrammar.{RawGrammar}
use Rattle.lrc_meaning.specs.Tree.{is_sort}
use Rattle.lrc_meaning.specs.Grammar.{Grammar, attrs_of_sort, occurrences_of, all_distinct, is_known, names_of, is_sort_right, is_equation_right, is_defined_once, is_piece_right, is_production_right, is_start_right, is_well_formed}
use Rattle.lrc_meaning.specs.Naming.{each_some, sort_number, named_sort, named_production, named_grammar}
use Rattle.lrc_fault_meaning.specs.Faults.{Name, Fault, fault, twice, unknown, start_inherits, where_true, is_among, attrs_named, sort_faults, kid_faults, head_faults, first_inherited, start_faults, declaration_faults, body_faults, each_after, faults, first, first_fault}
use Rattle.lrc_meaning.proofs.NamedLemmas.{named_parts, named_whole}
use Rattle.lrc_fault_laws.specs.Laws.{NoFaultIsNamed, NamedHasNoFault}
use Rattle.lrc_fault_laws.proofs.Lists.{Every, every_from, every_with, every_has, every_passes, all_pass, Each, each_map, each_right, each_left, each_with, each_with_right, each_named, named_each, Names, After, none_after, after_none, after_from, after_both, every_of_after, after_of_every, empty_parts, empty_both, empty_each, each_empty, none_where, where_none, first_none}
use Rattle.lrc_fault_laws.proofs.Names.{IsNew, new_distinct, distinct_new}
use Rattle.lrc_fault_laws.proofs.Sorts.{SortsRight, sorts_right, sorts_faultless, sorts_are_right, sorts_were_right, IsAttr, attrs_at, numbered_sort, sort_numbered}
use Rattle.lrc_fault_laws.proofs.Heads.{Head, Declares, declares, declaration_faultless, head_right, head_kids, head_declares}
use Rattle.lrc_fault_laws.proofs.Patterns.{IsFirstPattern, pattern_was_right}
use Rattle.lrc_fault_laws.proofs.Heads.{are_kids}
use Rattle.lrc_fault_laws.proofs.Productions.{names_same, left_within, kids_known, extras_right, body_named, body_right, body_faultless}

-- ---- the parts of the list of faults

pub record Faultless (raw : RawGrammar) : Type 0 where
  pub sorts : each_after (sort_faults raw.sorts) [] raw.sorts ≡ []
  pub heads : each_after (head_faults raw.sorts) [] raw.prods ≡ []
  pub start : start_faults raw.sorts raw.start ≡ []
  pub declarations : Every (λ (p : RawProd). each_after (declaration_faults raw.sorts p) [] p.items ≡ []) raw.prods
  pub bodies : Every (λ (p : RawProd). body_faults raw p ≡ []) raw.prods

module _ (raw : RawGrammar) where
  abbrev sort_list : List Fault
  sort_list = each_after (sort_faults raw.sorts) [] raw.sorts

  abbrev head_list : List Fault
  head_list = each_after (head_faults raw.sorts) [] raw.prods

  abbrev start_list : List Fault
  start_list = start_faults raw.sorts raw.start

  abbrev declared_faults : RawProd → List Fault
  declared_faults p = each_after (declaration_faults raw.sorts p) [] p.items

  abbrev declaration_list : List Fault
  declaration_list = flat_map declared_faults raw.prods

  abbrev body_list : List Fault
  body_list = flat_map (body_faults raw) raw.prods

  pub faultless : first_fault raw ≡ None → Faultless raw
  faultless e =
      let one = empty_parts sort_list (head_list ++ (start_list ++ (declaration_list ++ body_list))) (first_none (faults raw) e) in
      let two = empty_parts head_list (start_list ++ (declaration_list ++ body_list)) one.1 in
      let three = empty_parts start_list (declaration_list ++ body_list) two.1 in
      let four = empty_parts declaration_list body_list three.1 in
      record {
        sorts = one.0;
        heads = two.0;
        start = three.0;
        declarations = empty_each declared_faults raw.prods four.0;
        bodies = empty_each (body_faults raw) raw.prods four.1;
      }

  pub no_fault : Faultless raw → first_fault raw ≡ None
  no_fault f =
      ap first (empty_both sort_list (head_list ++ (start_list ++ (declaration_list ++ body_list))) f.sorts (empty_both head_list (start_list ++ (declaration_list ++ body_list)) f.heads (empty_both start_list (declaration_list ++ body_list) f.start (empty_both declaration_list body_list (each_empty declared_faults raw.prods f.declarations) (each_empty (body_faults raw) raw.prods f.bodies)))))

  -- ---- the start

  no_inherited : (place : Name) (attrs : List RawAttr) → first_inherited place attrs ≡ [] → Every (λ (a : RawAttr). a.inherited ≡ false) attrs
  no_inherited place [] e = tt
  no_inherited place (a ∷ attrs) e = by a.inherited refl e (no_inherited place attrs)
    where
      by : (b : Bool) → a.inherited ≡ b → cond b (fault start_inherits place a.name ∷ []) (first_inherited place attrs) ≡ [] → (first_inherited place attrs ≡ [] → Every (λ (a : RawAttr). a.inherited ≡ false) attrs) → (a.inherited ≡ false) × Every (λ (a : RawAttr). a.inherited ≡ false) attrs
      by true is e rest = absurd (cc)
      by false is e rest = (is, rest e)

  inherited_none : (place : Name) (attrs : List RawAttr) → Every (λ (a : RawAttr). a.inherited ≡ false) attrs → first_inherited place attrs ≡ []
  inherited_none place [] h = refl
  inherited_none place (a ∷ attrs) h = rw (h.0) (inherited_none place attrs h.1)

  module _ (sorts : List Sort) (r : SortsRight raw.sorts sorts) where
    abbrev start_attrs : List RawAttr
    start_attrs = attrs_named raw.sorts raw.start

    start_parts : start_list ≡ [] → (where_true (is_none (sort_number raw.sorts raw.start)) (fault unknown (codes "start") raw.start) ≡ []) × (first_inherited (codes "start") start_attrs ≡ [])
    start_parts e =
        empty_parts (where_true (is_none (sort_number raw.sorts raw.start)) (fault unknown (codes "start") raw.start)) (first_inherited (codes "start") start_attrs) e

    start_right : start_list ≡ [] → (i : ℕ) × (sort_number raw.sorts raw.start ≡ Some i) × (is_start_right sorts i ≡ true)
    start_right e =
        let parts = start_parts e in
        let found = numbered_sort raw.sorts raw.start (fault unknown (codes "start") raw.start) parts.0 in
        let at = attrs_at raw.sorts sorts r.named raw.start found.0 found.1 in
        let none = each_right (IsAttr raw.sorts) (λ (a : RawAttr). a.inherited ≡ false) (λ (b : Attr). not b.inherited ≡ true) (λ a b h e. not_from_false b.inherited (h.inherited ∙ e)) start_attrs (attrs_of_sort sorts found.0) at.0 (no_inherited (codes "start") start_attrs parts.1) in
        (found.0, found.1, and_from (nat_lt found.0 (length sorts)) (list_all (λ (a : Attr). not a.inherited) (attrs_of_sort sorts found.0)) (lt-ltb found.0 (length sorts) at.1) (all_pass (λ (a : Attr). not a.inherited) (attrs_of_sort sorts found.0) none))

    start_faultless : (i : ℕ) → sort_number raw.sorts raw.start ≡ Some i → is_start_right sorts i ≡ true → start_list ≡ []
    start_faultless i e h =
        let parts = and_parts (nat_lt i (length sorts)) (list_all (λ (a : Attr). not a.inherited) (attrs_of_sort sorts i)) h in
        let at = attrs_at raw.sorts sorts r.named raw.start i e in
        let none = each_left (IsAttr raw.sorts) (λ (a : RawAttr). a.inherited ≡ false) (λ (b : Attr). not b.inherited ≡ true) (λ a b h e. sym h.inherited ∙ not-true b.inherited e) start_attrs (attrs_of_sort sorts i) at.0 (every_passes (λ (a : Attr). not a.inherited) (attrs_of_sort sorts i) parts.1) in
        empty_both (where_true (is_none (sort_number raw.sorts raw.start)) (fault unknown (codes "start") raw.start)) (first_inherited (codes "start") start_attrs) (sort_numbered raw.sorts raw.start (fault unknown (codes "start") raw.start) i e) (inherited_none (codes "start") start_attrs none)

    -- ---- productions

    abbrev IsHead : RawProd → Production → Type 0
    IsHead p P = Head raw.sorts p P.left P.kids P.extras

    abbrev HeadFree : RawProd → Type 0
    HeadFree p = ((i : ℕ) × (sort_number raw.sorts p.left ≡ Some i)) × (each_after (kid_faults raw.sorts p) [] p.kids ≡ [])

    abbrev head_twice : List RawProd → RawProd → List Fault
    head_twice before p = where_true (is_among (map (λ (q : RawProd). q.name) before) p.name) (fault twice p.name p.name)

    abbrev left_unknown : RawProd → List Fault
    left_unknown p = where_true (is_none (sort_number raw.sorts p.left)) (fault unknown p.name p.left)

    abbrev kid_list : RawProd → List Fault
    kid_list p = each_after (kid_faults raw.sorts p) [] p.kids

    head_free : (before : List RawProd) (p : RawProd) → head_faults raw.sorts before p ≡ [] → (is_among (map (λ (q : RawProd). q.name) before) p.name ≡ false) × HeadFree p
    head_free before p e =
        let one = empty_parts (head_twice before p) (left_unknown p ++ kid_list p) e in
        let two = empty_parts (left_unknown p) (kid_list p) one.1 in
        (none_where (is_among (map (λ (q : RawProd). q.name) before) p.name) (fault twice p.name p.name) one.0, (numbered_sort raw.sorts p.left (fault unknown p.name p.left) two.0, two.1))

    free_head : (before : List RawProd) (p : RawProd) → is_among (map (λ (q : RawProd). q.name) before) p.name ≡ false → HeadFree p → head_faults raw.sorts before p ≡ []
    free_head before p new h =
        empty_both (head_twice before p) (left_unknown p ++ kid_list p) (where_none (is_among (map (λ (q : RawProd). q.name) before) p.name) (fault twice p.name p.name) new) (empty_both (left_unknown p) (kid_list p) (sort_numbered raw.sorts p.left (fault unknown p.name p.left) h.0.0 h.0.1) h.1)

    abbrev DeclaresAll : RawProd → Type 0
    DeclaresAll p = After (Declares raw.sorts p) [] p.items

    abbrev HasHead : RawProd → Type 0
    HasHead p = (P : Production) × IsHead p P

    has_head : (p : RawProd) → HeadFree p → DeclaresAll p → HasHead p
    has_head p h d =
        let found = head_right raw.sorts p r.attrs h.0.0 h.0.1 h.1 d in
        (record { name = p.name; left = found.0; kids = found.1; extras = found.2; equations = []; pattern = None }, found.3)

    first_patterns : (p : RawProd) → DeclaresAll p → After IsFirstPattern [] p.items
    first_patterns p d = after_from p.items (Declares raw.sorts p) IsFirstPattern (λ b i rest w k. k.first_pattern) [] p.items refl d

    -- what is known of a production without faults
    record Free (p : RawProd) : Type 0 where
      declares_all : DeclaresAll p
      body : body_faults raw p ≡ []
      head : HasHead p

    abbrev HasNumber : RawProd → Type 0
    HasNumber p = (P : Production) × (named_production raw sorts p ≡ Some P)

    module _ (prods : List Production) (made : Each IsHead raw.prods prods) where
      has_number : (p : RawProd) → Free p → HasNumber p
      has_number p f =
          let P = (f.head).0 in
          let head = (f.head).1 in
          let found = body_named raw sorts r p P head prods made (first_patterns p f.declares_all) f.body in
          let whole : Production = record { name = p.name; left = P.left; kids = P.kids; extras = P.extras; equations = found.0.0; pattern = found.1.0 } in
          (whole, named_whole raw sorts p whole (record { of_name = refl; of_left = head.of_left; of_kids = head.of_kids; of_extras = head.of_extras; of_equations = found.0.1; of_pattern = found.1.1 }))

      production_right : (p : RawProd) (P : Production) → named_production raw sorts p ≡ Some P → Free p → is_production_right sorts prods P ≡ true
      production_right p P e f =
          let n = named_parts raw sorts p P e in
          let head : IsHead p P = record { of_left = n.of_left; of_kids = n.of_kids; of_extras = n.of_extras; distinct = ((f.head).1).distinct } in
          let body = body_right raw sorts r p P head prods made n.of_equations n.of_pattern (first_patterns p f.declares_all) f.body in
          let names = ap all_distinct (names_same raw sorts r p P n.of_left n.of_kids n.of_extras) ∙ head.distinct in
          let one = and_from (nat_lt P.left (length sorts)) (list_all (λ (kid : Kid). is_known sorts kid.kind) P.kids) (left_within raw sorts r p P n.of_left n.of_kids n.of_extras) (kids_known raw sorts r p P n.of_left n.of_kids n.of_extras) in
          let two = and_from _ (list_all (λ (x : Extra). is_known sorts x.kind && (not x.attached || is_sort x.kind)) P.extras) one (extras_right raw sorts r p P n.of_left n.of_kids n.of_extras) in
          let three = and_from _ (all_distinct (names_of sorts P)) two names in
          let four = and_from _ (list_all (is_equation_right sorts prods P) P.equations) three body.equations in
          let five = and_from _ (is_defined_once P (occurrences_of sorts P)) four body.once in
          and_from _ (option_map_or (list_all (is_piece_right P)) P.pattern true) five body.pattern

    head_of_free : (p : RawProd) (P : Production) → named_production raw sorts p ≡ Some P → Free p → IsHead p P
    head_of_free p P e f =
        let n = named_parts raw sorts p P e in
        record { of_left = n.of_left; of_kids = n.of_kids; of_extras = n.of_extras; distinct = ((f.head).1).distinct }

    all_free : Faultless raw → Every Free raw.prods
    all_free f =
        let heads = every_of_after HeadFree [] raw.prods (after_from raw.prods (λ b p. head_faults raw.sorts b p ≡ []) (λ b p. HeadFree p) (λ b p rest w h. (head_free b p h).1) [] raw.prods refl (none_after (head_faults raw.sorts) [] raw.prods f.heads)) in
        let declared = every_from DeclaresAll (λ p. declared_faults p ≡ []) (λ p e. after_from p.items (λ b i. declaration_faults raw.sorts p b i ≡ []) (Declares raw.sorts p) (λ b i rest w h. declares raw.sorts p b i h) [] p.items refl (none_after (declaration_faults raw.sorts p) [] p.items e)) raw.prods f.declarations in
        let both = every_with HeadFree DeclaresAll (λ p. DeclaresAll p × HasHead p) (λ p h d. (d, has_head p h d)) raw.prods heads declared in
        every_with (λ p. DeclaresAll p × HasHead p) (λ p. body_faults raw p ≡ []) Free (λ p h e. record { declares_all = h.0; body = e; head = h.1 }) raw.prods both f.bodies

    names_distinct : Faultless raw → all_distinct (map (λ (p : RawProd). p.name) raw.prods) ≡ true
    names_distinct f =
        new_distinct [] (λ (p : RawProd). p.name) raw.prods refl (after_from raw.prods (λ b p. head_faults raw.sorts b p ≡ []) (IsNew [] (λ (p : RawProd). p.name)) (λ b p rest w h. (head_free b p h).0) [] raw.prods refl (none_after (head_faults raw.sorts) [] raw.prods f.heads))

    prod_names : (prods : List Production) → Each (Names (named_production raw sorts)) raw.prods prods → map (λ (P : Production). P.name) prods ≡ map (λ (p : RawProd). p.name) raw.prods
    prod_names prods are =
        each_map (Names (named_production raw sorts)) (λ (p : RawProd). p.name) (λ (P : Production). P.name) (λ p P e. (named_parts raw sorts p P e).of_name) raw.prods prods are

    grammar_there : Faultless raw → (g : Grammar) × (named_grammar raw ≡ Some g) × IsTrue (is_well_formed g)
    grammar_there f =
        let free = all_free f in
        let heads = every_has IsHead raw.prods (every_from HasHead Free (λ p h. h.head) raw.prods free) in
        let prods = every_has (Names (named_production raw sorts)) raw.prods (every_from HasNumber Free (has_number heads.0 heads.1) raw.prods free) in
        let made = each_with (Names (named_production raw sorts)) Free IsHead head_of_free raw.prods prods.0 prods.1 free in
        let right = each_right (Names (named_production raw sorts)) Free (λ P. is_production_right sorts prods.0 P ≡ true) (production_right prods.0 made) raw.prods prods.0 prods.1 free in
        let start = start_right f.start in
        let g : Grammar = record { sorts = sorts; prods = prods.0; start = start.0 } in
        let of_sorts = sorts_are_right raw.sorts sorts r.named r in
        let names = ap all_distinct (prod_names prods.0 prods.1) ∙ names_distinct f in
        let one = and_from (all_distinct (map (λ (s : Sort). s.name) sorts)) (list_all (is_sort_right sorts) sorts) of_sorts.0 of_sorts.1 in
        let two = and_from _ (all_distinct (map (λ (P : Production). P.name) prods.0)) one names in
        let three = and_from _ (list_all (is_production_right sorts prods.0) prods.0) two (all_pass (is_production_right sorts prods.0) prods.0 right) in
        (g, rw (named_each (named_sort raw.sorts) raw.sorts sorts r.named, named_each (named_production raw sorts) raw.prods prods.0 prods.1, start.1) refl, and_from _ (is_start_right sorts start.0) three start.2)

  pub no_fault_is_named : NoFaultIsNamed raw
  no_fault_is_named e =
      let f = faultless e in
      let sorts = sorts_right raw.sorts f.sorts in
      grammar_there sorts.0 sorts.1 f

  -- ---- and back

  module _ (sorts : List Sort) (r : SortsRight raw.sorts sorts) where
    record Parts (prods : List Production) (P : Production) : Type 0 where
      distinct : all_distinct (names_of sorts P) ≡ true
      equations : list_all (is_equation_right sorts prods P) P.equations ≡ true
      once : is_defined_once P (occurrences_of sorts P) ≡ true
      pattern : option_map_or (list_all (is_piece_right P)) P.pattern true ≡ true

    right_parts : (prods : List Production) (P : Production) → is_production_right sorts prods P ≡ true → Parts prods P
    right_parts prods P e =
        let five = and_parts _ (option_map_or (list_all (is_piece_right P)) P.pattern true) e in
        let four = and_parts _ (is_defined_once P (occurrences_of sorts P)) five.0 in
        let three = and_parts _ (list_all (is_equation_right sorts prods P) P.equations) four.0 in
        let two = and_parts _ (all_distinct (names_of sorts P)) three.0 in
        record { distinct = two.1; equations = three.1; once = four.1; pattern = five.1 }

    abbrev IsProduction : RawProd → Production → Type 0
    IsProduction p P = named_production raw sorts p ≡ Some P

    head_of_right : (prods : List Production) (p : RawProd) (P : Production) → IsProduction p P → is_production_right sorts prods P ≡ true → Head raw.sorts p P.left P.kids P.extras
    head_of_right prods p P e h =
        let n = named_parts raw sorts p P e in
        record {
          of_left = n.of_left;
          of_kids = n.of_kids;
          of_extras = n.of_extras;
          distinct = ap all_distinct (sym (names_same raw sorts r p P n.of_left n.of_kids n.of_extras)) ∙ (right_parts prods P h).distinct;
        }

    -- the faults of a production, none of which is there
    record NoneOf (p : RawProd) : Type 0 where
      head : HeadFree sorts r p
      declarations : declared_faults p ≡ []
      body : body_faults raw p ≡ []

    module _ (prods : List Production) (made : Each (λ p P. Head raw.sorts p P.left P.kids P.extras) raw.prods prods) where
      none_of : (p : RawProd) (P : Production) → IsProduction p P → is_production_right sorts prods P ≡ true → NoneOf p
      none_of p P e h =
          let n = named_parts raw sorts p P e in
          let head = head_of_right prods p P e h in
          let parts = right_parts prods P h in
          let patterns = (pattern_was_right raw.sorts p P.kids (are_kids raw.sorts p.kids P.kids n.of_kids) p.items P.pattern n.of_pattern).0 in
          let declared = head_declares raw.sorts p P.left P.kids P.extras head patterns in
          record {
            head = ((P.left, n.of_left), head_kids raw.sorts p P.left P.kids P.extras head);
            declarations = after_none (declaration_faults raw.sorts p) [] p.items (after_from p.items (Declares raw.sorts p) (λ b i. declaration_faults raw.sorts p b i ≡ []) (λ b i rest w k. declaration_faultless raw.sorts p b i k) [] p.items refl declared);
            body = body_faultless raw sorts r p P head prods made n.of_equations n.of_pattern (record { equations = parts.equations; once = parts.once; pattern = parts.pattern });
          }

    none_of_all : (prods : List Production) (start : ℕ) → Each IsProduction raw.prods prods → sort_number raw.sorts raw.start ≡ Some start → all_distinct (map (λ (P : Production). P.name) prods) ≡ true → list_all (is_production_right sorts prods) prods ≡ true → is_start_right sorts start ≡ true → Faultless raw
    none_of_all prods start are e names rights s =
        let right = every_passes (is_production_right sorts prods) prods rights in
        let made = each_with_right IsProduction (λ P. is_production_right sorts prods P ≡ true) (λ p P. Head raw.sorts p P.left P.kids P.extras) (head_of_right prods) raw.prods prods are right in
        let none = each_left IsProduction NoneOf (λ P. is_production_right sorts prods P ≡ true) (none_of prods made) raw.prods prods are right in
        let new = distinct_new [] (λ (p : RawProd). p.name) raw.prods (ap all_distinct (sym (prod_names sorts r prods are)) ∙ names) in
        let heads = after_both (IsNew [] (λ (p : RawProd). p.name)) (λ b p. HeadFree sorts r p) [] raw.prods new (after_of_every (HeadFree sorts r) [] raw.prods (every_from (HeadFree sorts r) NoneOf (λ p h. h.head) raw.prods none)) in
        record {
          sorts = sorts_faultless raw.sorts sorts r;
          heads = after_none (head_faults raw.sorts) [] raw.prods (after_from raw.prods (λ b p. IsNew [] (λ (p : RawProd). p.name) b p × HeadFree sorts r p) (λ b p. head_faults raw.sorts b p ≡ []) (λ b p rest w h. free_head sorts r b p h.0 h.1) [] raw.prods refl heads);
          start = start_faultless sorts r start e s;
          declarations = every_from (λ p. declared_faults p ≡ []) NoneOf (λ p h. h.declarations) raw.prods none;
          bodies = every_from (λ p. body_faults raw p ≡ []) NoneOf (λ p h. h.body) raw.prods none;
        }

  well_formed_faultless : (sorts : List Sort) (prods : List Production) (start : ℕ) → Each (Names (named_sort raw.sorts)) raw.sorts sorts → Each (Names (named_production raw sorts)) raw.prods prods → sort_number raw.sorts raw.start ≡ Some start → IsTrue (is_well_formed (record { sorts = sorts; prods = prods; start = start })) →
      Faultless raw
  well_formed_faultless sorts prods start of_sorts are e h =
      let four = and_parts _ (is_start_right sorts start) h in
      let three = and_parts _ (list_all (is_production_right sorts prods) prods) four.0 in
      let two = and_parts _ (all_distinct (map (λ (P : Production). P.name) prods)) three.0 in
      let one = and_parts (all_distinct (map (λ (s : Sort). s.name) sorts)) (list_all (is_sort_right sorts) sorts) two.0 in
      none_of_all sorts (sorts_were_right raw.sorts sorts of_sorts one.0 one.1) prods start are e two.1 three.1 four.1

  abbrev finished : List Sort → List Production → ℕ → Grammar
  finished sorts prods start = record { sorts = sorts; prods = prods; start = start }

  abbrev with_start : List Sort → List Production → Option Grammar
  with_start sorts prods = option_map (finished sorts prods) (sort_number raw.sorts raw.start)

  abbrev with_prods : List Sort → Option Grammar
  with_prods sorts = option_and_then (with_start sorts) (each_some (map (named_production raw sorts) raw.prods))

  started : (sorts : List Sort) (prods : List Production) (g : Grammar) (o : Option ℕ) → sort_number raw.sorts raw.start ≡ o → option_map (finished sorts prods) o ≡ Some g → Each (Names (named_sort raw.sorts)) raw.sorts sorts → Each (Names (named_production raw sorts)) raw.prods prods → IsTrue (is_well_formed g) → Faultless raw
  started sorts prods g None is e of_sorts are h = absurd (cc)
  started sorts prods g (Some start) is e of_sorts are h =
      let same : finished sorts prods start ≡ g = cc in
      well_formed_faultless sorts prods start of_sorts are is (subst (λ g. IsTrue (is_well_formed g)) (sym same) h)

  pub named_has_no_fault : NamedHasNoFault raw
  named_has_no_fault g e h =
      no_fault (option_and_then_some with_prods (each_some (map (named_sort raw.sorts) raw.sorts)) g e (λ sorts es f. option_and_then_some (with_start sorts) (each_some (map (named_production raw sorts) raw.prods)) g f (λ prods ep l. started sorts prods g (sort_number raw.sorts raw.start) refl l (each_named (named_sort raw.sorts) raw.sorts sorts es) (each_named (named_production raw sorts) raw.prods prods ep) h)))
