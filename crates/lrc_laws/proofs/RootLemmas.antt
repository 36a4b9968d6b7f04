-- Attributions of trees of the start sort, and the one visit of their roots.
use Rattle.std.proofs.Common.{◌≡◌, ℕ, zero, suc, ◌+◌, ◌-◌, ◌<◌, ◌≤◌, max, Bool, true, false, not, ◌&&◌, ◌==◌, IsTrue, cond, List, [], ◌∷◌, map, length, All, get_or, Contains, Some, inl, inr, ◌↔◌, slice_get, refl, sym, ap, ◌∙◌, subst, arith}
use Rattle.std.specs.Prelude.{filter, slice_index_or}
use Rattle.std.specs.Option.{option_map_or}
use Rattle.std.specs.List.{range_with_len}
use Rattle.std.proofs.lemmas.Bool.{cases_lt, true≢false, and_from, eq-eqb, and_left}
use Rattle.std.proofs.lemmas.Option.{none-some, same_Some, slice_get-get_or, get_or_from_slice_get, slice_get_within}
use Rattle.std.proofs.lemmas.List.{nil_from_length}
use Rattle.std.proofs.lemmas.List.FromFn.{fill_by_all, length-range_with_len}
use Rattle.lrc_base.specs.declared.grammar.Attr.{Attr}
use Rattle.lrc_base.specs.declared.grammar.Kind.TheVariants as k
use Rattle.lrc_base.specs.declared.grammar.Production.{Production}
use Rattle.lrc_meaning.specs.Tree.{Tree, is_left, fits}
use Rattle.lrc_meaning.specs.Grammar.{Grammar, attrs_of_sort, is_well_formed}
use Rattle.lrc_meaning.specs.Attribution.{Decorated, bare, attributes_of, production_of, IsAttribution, height, synthesised, Attributes}
use Rattle.lrc_meaning.proofs.KindLemmas.{left_kind}
use Rattle.lrc_order_meaning.specs.Ordered.{IsGivenThere, Partitions, ArePartitions}
use Rattle.lrc_plan_meaning.specs.Items.{is_of, visit_of, visits_of, attrs_of_visit}
use Rattle.lrc_plan_meaning.specs.Sound.{IsSound}
use Rattle.lrc_visit_meaning.specs.Values.{Result, no_data, no_tree, root_call}
use Rattle.lrc_visit_meaning.specs.Visits.{is_of_kind, plain_visit}
use Rattle.lrc_laws.specs.Laws.{RootGives}
use Rattle.lrc_visit_meaning.specs.Demand.{Met, demand, reach}
use Rattle.lrc_laws.proofs.ReachLemmas.{demand_reach}
use Rattle.lrc_laws.proofs.FuelLemmas.{visit_same, none_below, max_left, max_right}
use Rattle.lrc_laws.proofs.NodeLemmas.{Face, asked, Serves, ServesOne}
use Rattle.lrc_laws.proofs.PartLemmas.{bare_of_kind, fits_of_kind, attributes_count}
use Rattle.lrc_laws.proofs.DecoratedLemmas.{AreSound, face_of, serves, sort_same}
use Rattle.lrc_laws.proofs.UniqueLemmas.{unique}
use Rattle.lrc_laws.proofs.BackLemmas.{IsWhole, plain_whole}
use Rattle.lrc_laws.proofs.TreeLemmas.{TreeBuilt, build}
use Rattle.lrc_laws.proofs.PartitionLemmas.{each_some, each_visited, start_there, start_plain, start_visits}

-- A well-formed grammar with its partitions, whose visit sequences are sound for each production.
pub record HasSoundPlan (g : Grammar) (found : Partitions) : Type 0 where
  pub formed : IsTrue (is_well_formed g)
  pub given : All (IsGivenThere g.sorts) found.given
  pub partitions : ArePartitions g found
  pub sound : All (IsSound g.sorts found.sorts) g.prods

filter_none : (test : ℕ → Bool) (a n : ℕ) → ((i : ℕ) → a ≤ i → i < a + n → test i ≡ false) → filter test (range_with_len a n) ≡ []
filter_none test a zero h = refl
filter_none test a (suc n) h =
    ap (λ b. cond b (a ∷ filter test (range_with_len (a + 1) n)) (filter test (range_with_len (a + 1) n))) (h a (omega arith) (omega arith))
    ∙ filter_none test (a + 1) n (λ i low high. h i (omega arith) (omega arith))

filter_all : (test : ℕ → Bool) (a n : ℕ) → ((i : ℕ) → a ≤ i → i < a + n → test i ≡ true) → filter test (range_with_len a n) ≡ range_with_len a n
filter_all test a zero h = refl
filter_all test a (suc n) h =
    ap (λ b. cond b (a ∷ filter test (range_with_len (a + 1) n)) (filter test (range_with_len (a + 1) n))) (h a (omega arith) (omega arith))
    ∙ ap (λ xs. a ∷ xs) (filter_all test (a + 1) n (λ i low high. h i (omega arith) (omega arith)))

-- where nothing is inherited all values are synthesised
synthesised_all : (attrs : List Attr) (vs : List Tree) → length vs ≡ length attrs → ((x : ℕ) (attr : Attr) → slice_get attrs x ≡ Some attr → attr.inherited ≡ false) → synthesised attrs vs ≡ vs
synthesised_all [] [] l h = refl
synthesised_all [] (v ∷ vs) l h = absurd (omega arith)
synthesised_all (a ∷ attrs) [] l h = absurd (omega arith)
synthesised_all (a ∷ attrs) (v ∷ vs) l h =
    ap (λ b. cond b (synthesised attrs vs) (v ∷ synthesised attrs vs)) (h 0 a refl)
    ∙ ap (λ ws. v ∷ ws) (synthesised_all attrs vs (omega arith) (λ x. h (suc x)))

module _ (g : Grammar) (found : Partitions) (plan : HasSoundPlan g found) where
  abbrev start_attrs : List Attr
  start_attrs = attrs_of_sort g.sorts g.start

  sound : AreSound g found.sorts
  sound n q there =
      let less = slice_get_within g.prods n q there in
      subst (IsSound g.sorts found.sorts) (get_or_from_slice_get g.prods n q q there) (plan.sound n q less)

  plain_at : (x : ℕ) → x < length start_attrs → (attr : Attr) × (slice_get start_attrs x ≡ Some attr) × (attr.inherited ≡ false)
  plain_at x less =
      let d : Attr = record { name = []; inherited = true; kind = k.Int } in
      let at = slice_get-get_or start_attrs x d less in
      (get_or start_attrs x d, at, start_plain g found plan.partitions plan.formed plan.given x (get_or start_attrs x d) at)

  one : visits_of found.sorts g.start ≡ 1
  one = start_visits g found plan.partitions plan.formed plan.given

  nothing_taken : (v : ℕ) → attrs_of_visit g.sorts found.sorts true g.start v ≡ []
  nothing_taken v =
      filter_none (λ x. is_of start_attrs true x && (visit_of found.sorts g.start x == v)) 0 (length start_attrs)
      (λ x low high.
      let attr = plain_at x (omega arith) in
      and_left (is_of start_attrs true x) (visit_of found.sorts g.start x == v) (ap (λ o. option_map_or (λ (attr : Attr). attr.inherited) o false) attr.1 ∙ attr.2))

  all_given : attrs_of_visit g.sorts found.sorts false g.start 1 ≡ range_with_len 0 (length start_attrs)
  all_given =
      filter_all (λ x. is_of start_attrs false x && (visit_of found.sorts g.start x == 1)) 0 (length start_attrs)
      (λ x low high.
      let attr = plain_at x (omega arith) in
      let bounds = each_visited g found plan.partitions g.start x (omega arith) in
      let b0 = bounds.0 in
      let b1 = bounds.1 in
      let single = one in
      and_from (is_of start_attrs false x) (visit_of found.sorts g.start x == 1)
      (ap (λ o. option_map_or (λ (attr : Attr). not attr.inherited) o false) attr.1 ∙ ap not attr.2)
      (eq-eqb (visit_of found.sorts g.start x) 1 (omega (arith, b0, b1, single))))

  -- what a face asks of the root's visit is the root's call
  root_asked : (f : Face) (t : Tree) → asked g found.sorts f g.start t 1 ≡ root_call t
  root_asked f t = ap (λ xs. record { tree = t; visit = 1; inherited = map f.attr xs; bindings = [] }) (nothing_taken 1)

  -- an attribution of a tree of the start sort is of that sort
  of_start : (t : Tree) (d : Decorated) → bare d ≡ t → IsTrue (fits g.prods t (k.Sort g.start)) → IsTrue (is_left g.prods (production_of d) (k.Sort g.start))
  of_start t d is h =
      sym (bare_of_kind g.prods d (k.Sort g.start)) ∙ ap (λ u. is_of_kind g.prods u (k.Sort g.start)) is ∙ fits_of_kind g.prods t (k.Sort g.start) h

  pub attributions_unique : (t : Tree) (d e : Decorated) → IsTrue (fits g.prods t (k.Sort g.start)) → IsAttribution g t d → IsAttribution g t e → d ≡ e
  attributions_unique t d e h a b =
      unique g found.sorts plan.formed sound (each_visited g found plan.partitions) (max (height d) (height e)) d e a.is_right b.is_right
      (max_left (height d) (height e)) (max_right (height d) (height e)) (a.is_bare ∙ sym b.is_bare)
      (λ s left x attr has inherits.
      let here = left_kind g.prods (production_of d) (k.Sort s) left in
      let there = left_kind g.prods (production_of d) (k.Sort g.start) (of_start t d a.is_bare h) in
      let same : here.0 ≡ there.0 = same_Some here.0 there.0 (sym here.1 ∙ there.1) in
      let sort : s ≡ g.start = sort_same s g.start (sym here.2 ∙ ap (λ (q : Production). k.Sort q.left) same ∙ there.2) in
      absurd (true≢false (sym inherits ∙ start_plain g found plan.partitions plan.formed plan.given x attr (ap (λ r. slice_get (attrs_of_sort g.sorts r) x) (sym sort) ∙ has))))

  -- the attributes within a limit are given by the root's visit
  pub attributes_given : (limit : ℕ) (t : Tree) (vs : List Tree) → Attributes g limit t vs → RootGives g found limit t vs
  attributes_given limit t vs a =
      let d = a.attribution in
      let left = of_start t d a.is_attribution.is_bare a.fitting in
      let served = serves g found.sorts plan.formed sound limit d g.start a.is_attribution.is_right a.within left 1 (omega arith) (let single = one in omega (arith, single)) in
      let count : length (attributes_of d) ≡ length start_attrs = attributes_count g d (k.Sort g.start) a.is_attribution.is_right left in
      let own : attributes_of d ≡ map (λ x. slice_index_or (attributes_of d) x no_tree) (range_with_len 0 (length start_attrs)) =
      fill_by_all (λ x. slice_index_or (attributes_of d) x no_tree) (attributes_of d) (length start_attrs) no_tree count (λ x less. refl) in
      record {
        result = served.result;
        is_result = ap (plain_visit g found.sorts limit) (ap root_call (sym a.is_attribution.is_bare) ∙ sym (root_asked (face_of g found.sorts d) (bare d))) ∙ served.is_result;
        values =
            served.answers.synthesised
            ∙ ap (map (λ x. slice_index_or (attributes_of d) x no_tree)) all_given
            ∙ sym own
            ∙ sym (synthesised_all start_attrs (attributes_of d) count (start_plain g found plan.partitions plan.formed plan.given))
            ∙ sym a.values;
      }

  module _ (limit : ℕ) (t : Tree) (h : IsTrue (fits g.prods t (k.Sort g.start))) (r : Result) (is : plain_visit g found.sorts limit (root_call t) ≡ Some r) where
    -- what the result shows
    abbrev root_face : Face
    root_face = record { attr = λ x. slice_index_or r.synthesised x no_tree; bound = λ u w. no_data }

    root_whole : IsWhole g found.sorts g.start 1 r
    root_whole = plain_whole g found.sorts limit (root_call t) g.start r (fits_of_kind g.prods t (k.Sort g.start) h) is

    root_count : length r.synthesised ≡ length start_attrs
    root_count = root_whole.values ∙ ap (length {A = ℕ}) all_given ∙ length-range_with_len 0 (length start_attrs)

    root_shows : r.synthesised ≡ map root_face.attr (range_with_len 0 (length start_attrs))
    root_shows = fill_by_all root_face.attr r.synthesised (length start_attrs) no_tree root_count (λ x less. refl)

    none_later : visits_of found.sorts g.start - 1 ≡ 0
    none_later = let single = one in omega (arith, single)

    no_bindings : r.bindings ≡ []
    no_bindings = nil_from_length r.bindings (root_whole.bindings ∙ length-range_with_len 2 (visits_of found.sorts g.start - 1) ∙ none_later)

    root_served : ServesOne g found.sorts (plain_visit g found.sorts limit) root_face g.start t 1
    root_served = record {
      result = r;
      is_result = ap (plain_visit g found.sorts limit) (root_asked root_face t) ∙ is;
      answers = record {
        synthesised = root_shows ∙ ap (map root_face.attr) (sym all_given);
        bindings = no_bindings ∙ ap (λ n. map (λ w. root_face.bound 1 w) (range_with_len 2 n)) (sym none_later);
      };
    }

    root_serves : Serves g found.sorts (plain_visit g found.sorts limit) root_face g.start t
    root_serves v low high =
        let single = one in
        let at : 1 ≡ v = omega (arith, single) in
        subst (λ w. ServesOne g found.sorts (plain_visit g found.sorts limit) root_face g.start t w) at root_served

    root_built : TreeBuilt g limit root_face g.start t
    root_built =
        build g found.sorts plan.formed sound (each_visited g found plan.partitions) (each_some g found plan.partitions) limit root_face g.start t
        (start_there g found plan.partitions plan.formed plan.given) root_serves (fits_of_kind g.prods t (k.Sort g.start) h)

    built_values : attributes_of root_built.decorated ≡ r.synthesised
    built_values = root_built.attrs ∙ sym root_shows

    built_synthesised : synthesised start_attrs (attributes_of root_built.decorated) ≡ r.synthesised
    built_synthesised =
        synthesised_all start_attrs (attributes_of root_built.decorated) (ap (length {A = Tree}) built_values ∙ root_count) (start_plain g found plan.partitions plan.formed plan.given) ∙ built_values

    result_attributes : Attributes g limit t r.synthesised
    result_attributes = record {
      fitting = h;
      attribution = root_built.decorated;
      is_attribution = record { is_bare = root_built.is_bare; is_right = root_built.right };
      within = root_built.low;
      values = sym built_synthesised;
    }

  -- what the root's visit gives are the attributes within its fuel
  pub given_attributes : (limit : ℕ) (t : Tree) (vs : List Tree) → IsTrue (fits g.prods t (k.Sort g.start)) → RootGives g found limit t vs → Attributes g limit t vs
  given_attributes limit t vs h gives = subst (Attributes g limit t) gives.values (result_attributes limit t h gives.result gives.is_result)

  -- the root's visit is as high as the attribution
  pub root_height : (fuel : ℕ) (t : Tree) (d : Decorated) (r : Result) → IsTrue (fits g.prods t (k.Sort g.start)) → IsAttribution g t d → plain_visit g found.sorts fuel (root_call t) ≡ Some r
      → r.height ≡ height d
  root_height fuel t d r h a e =
      let at_height = visit_same g found.sorts fuel r.height (root_call t) r e (omega arith) in
      let other = given_attributes r.height t r.synthesised h (record { result = r; is_result = at_height; values = refl }) in
      let same = attributions_unique t other.attribution d h other.is_attribution a in
      let within = other.within in
      let low : height d ≤ r.height = subst (λ x. height x ≤ r.height) same within in
      elim (cases_lt (height d) r.height) [
        | inl below ↦
            let given = attributes_given (height d) t (synthesised start_attrs (attributes_of d)) (record { fitting = h; attribution = d; is_attribution = a; within = omega arith; values = refl }) in
            absurd (none-some given.result (sym (none_below g found.sorts fuel (height d) (root_call t) r e below) ∙ given.is_result))
        | inr above ↦ omega (arith, low, above)
      ]

  -- demand is the reach of the root's visit
  pub demand_is_reach : (fuel : ℕ) (t : Tree) (d : Decorated) (x : Met) → IsTrue (fits g.prods t (k.Sort g.start)) → IsAttribution g t d → height d ≤ fuel
      → Contains (demand g found.sorts d) x ↔ Contains (reach g found.sorts fuel (root_call t)) x
  demand_is_reach fuel t d x h a low =
      let left = of_start t d a.is_bare h in
      let both = demand_reach g found.sorts plan.formed sound fuel d g.start a.is_right low left x in
      let call : asked g found.sorts (face_of g found.sorts d) g.start (bare d) 1 ≡ root_call t = root_asked (face_of g found.sorts d) (bare d) ∙ ap root_call a.is_bare in
      let single = one in (
        λ c.
            let r = both.there c in
            let low_visit = r.first in
            let high_visit = r.last in
            let at : r.visit ≡ 1 = omega (arith, low_visit, high_visit, single) in
            subst (λ y. Contains (reach g found.sorts fuel y) x) (ap (λ v. asked g found.sorts (face_of g found.sorts d) g.start (bare d) v) at ∙ call) r.member,
        λ c. both.back (record { visit = 1; first = omega arith; last = omega (arith, single); member = subst (λ y. Contains (reach g found.sorts fuel y) x) (sym call) c }),
      )
