-- The settled tables hold exactly the induced dependencies.
use Rattle.std.proofs.Common.{◌≡◌, All, IsTrue, true, ℕ, zero, suc, ◌+◌, ◌<◌, List, [], ◌∷◌, map, length, get_or, Contains, ◌⊎◌, ◌↔◌, inl, inr, refl, sym, ap, ◌∙◌, subst, arith}
use Rattle.std.specs.List.{AllZip}
use Rattle.lrc_base.specs.declared.grammar.Sort.{Sort}
use Rattle.lrc_base.specs.declared.grammar.Production.{Production}
use Rattle.lrc_base.specs.declared.grammar.Given.{Given}
use Rattle.std.proofs.lemmas.List.Elements.{All-weaker, All-contains}
use Rattle.lrc_meaning.specs.Grammar.{Grammar, attrs_of_sort, occurrences_of, is_production_right, is_well_formed}
use Rattle.lrc_order_meaning.specs.declared.Need.{Need}
use Rattle.lrc_order_meaning.specs.Ordered.{IsSmall, IsGivenThere}
use Rattle.lrc_order_meaning.proofs.MemberLemmas.{member_of_map}
use Rattle.lrc_ordered.proofs.PlaceLemmas.{places_within}
use Rattle.lrc_ordered.proofs.RangeLemmas.{places_placed, needs_within, production_right}
use Rattle.lrc_ordered.proofs.SettleLemmas.{all_tables}
use Rattle.lrc_graph.specs.Pairs.{Pairs, Has, step, IsTransitive}
use Rattle.lrc_graph.proofs.PairsLemmas.{along}
use Rattle.lrc_order_meaning.specs.declared.Place.{Place}
use Rattle.lrc_order_meaning.specs.Needs.{need, needs_of, places_of}
use Rattle.lrc_order_meaning.specs.Induced.{Leads, by_need, by_sort, onward, Induced, is_given, is_joined}
use Rattle.std.proofs.lemmas.Bool.{false≢true}
use Rattle.std.proofs.lemmas.List.{length-map}
use Rattle.lrc_graph.specs.Pairs.{paired}
use Rattle.lrc_ordered.specs.Tables.{nothing, FitsIn, AreTables, AreSettled, table_at, HasAt, Reached, by_table, by_place, by_path, Handed, by_sort_table, by_joining}
use Rattle.lrc_ordered.specs.Setup.{IsNeedBelow, HasNeeds, IsEmptyTable, AreInduced}
use Rattle.lrc_ordered.proofs.SetupLemmas.{IsPut, zip_at, zip_length, map_at}

-- what stands at a place of a list that is there
pub item_at : {X : Type 0} (xs : List X) (i : ℕ) → i < length xs → (x : X) × (get_or xs i x ≡ x)
item_at [] i h = absurd (omega arith)
item_at (x ∷ xs) zero h = (x, refl)
item_at (x ∷ xs) (suc i) h = item_at xs i (omega arith)

-- The tables at first: the needs of each production, and of each sort the pairs that are given.
pub record Begin (g : Grammar) (given : List Given) (relations sorts : List Pairs) (all : List (List Place)) : Type 0 where
  pub number : length relations ≡ length g.prods
  pub needs : (i : ℕ) (p : Production) → i < length g.prods → get_or g.prods i p ≡ p → HasNeeds g.sorts p (table_at relations i)
  pub places : (i : ℕ) (p : Production) → i < length g.prods → get_or g.prods i p ≡ p → get_or all i [] ≡ places_of g.sorts p
  pub each : (list : List Place) → Contains all list → (p : Production) × Contains g.prods p × (places_of g.sorts p ≡ list)
  pub has_each : (p : Production) → Contains g.prods p → Contains all (places_of g.sorts p)
  pub put : (s x y : ℕ) → HasAt sorts s x y ↔ IsPut all given s x y
  pub points : (s : ℕ) → (table_at sorts s).points ≡ length (attrs_of_sort g.sorts s)

module _ (g : Grammar) (given : List Given) (relations sorts : List Pairs) (places : List (List Place)) (start : Begin g given relations sorts places) where
  mutual
    leads_reached : (p : Production) (x y : ℕ) → Leads g given p x y → (i : ℕ) → i < length g.prods → get_or g.prods i p ≡ p → Reached relations sorts places i x y
    leads_reached _ _ _ (by_need p x y n) i h is = by_table i x y (((start.needs i p h is).pairs x y).1 (step x y n))
    leads_reached _ _ _ (by_sort p place a b x y at pair x_is y_is) i h is =
        by_place i place a b x y (subst (λ list. Contains list place) (sym (start.places i p h is)) at) (induced_handed place.sort a b pair) x_is y_is
    leads_reached _ _ _ (onward p x y z one other) i h is = by_path i x y z (leads_reached p x y one i h is) (leads_reached p y z other i h is)

    induced_handed : (s a b : ℕ) → Induced g given s a b → Handed relations sorts places s a b
    induced_handed _ _ _ (is_given p s a b there stands pair) =
        by_sort_table s a b
        ((start.put s a b).1 (
          pair,
          record {
            list = places_of g.sorts p;
            is_list = start.has_each p there;
            among = record { place = stands.place; is_place = stands.is_place; of_sort = stands.of_sort };
          },
        ))
    induced_handed _ _ _ (is_joined p place s a b there at of_sort a_in b_in path) =
        let points = start.points s in
        let number = start.number in
        let small = there.1 in
        by_joining there.0 place s a b (omega arith)
        (subst (λ list. Contains list place) (sym (start.places there.0 p there.1 there.2)) at) of_sort (omega arith) (omega arith)
        (leads_reached p (place.start + a) (place.start + b) path there.0 there.1 there.2)

  mutual
    reached_leads : (i x y : ℕ) → Reached relations sorts places i x y → (p : Production) → i < length g.prods → get_or g.prods i p ≡ p → Leads g given p x y
    reached_leads _ _ _ (by_table i x y held) p h is =
        along (λ a b. Contains (needs_of g.sorts p) (need a b)) (Leads g given p) (λ a b n. by_need p a b n) (λ a b c one other. onward p a b c one other) x y
        (((start.needs i p h is).pairs x y).0 held)
    reached_leads _ _ _ (by_place i place a b x y at pair x_is y_is) p h is =
        by_sort p place a b x y (subst (λ list. Contains list place) (start.places i p h is) at) (handed_induced place.sort a b pair) x_is y_is
    reached_leads _ _ _ (by_path i x y z one other) p h is = onward p x y z (reached_leads i x y one p h is) (reached_leads i y z other p h is)

    handed_induced : (s a b : ℕ) → Handed relations sorts places s a b → Induced g given s a b
    handed_induced _ _ _ (by_sort_table s a b held) =
        let put = (start.put s a b).0 held in
        let w = put.1 in
        let found = start.each w.list w.is_list in
        is_given found.0 s a b found.1
        (record { place = w.among.place; is_place = subst (λ list. Contains list w.among.place) (sym found.2) w.among.is_place; of_sort = w.among.of_sort }) put.0
    handed_induced _ _ _ (by_joining i place s a b there at of_sort a_in b_in path) =
        let points = start.points s in
        let number = start.number in
        let small : i < length g.prods = omega arith in
        let found = item_at g.prods i small in
        is_joined found.0 place s a b (i, small, found.1)
        (subst (λ list. Contains list place) (start.places i found.0 small found.1) at) of_sort (omega arith) (omega arith)
        (reached_leads i (place.start + a) (place.start + b) path found.0 small found.1)

  pub leads_iff : (i x y : ℕ) (p : Production) → i < length g.prods → get_or g.prods i p ≡ p → Reached relations sorts places i x y ↔ Leads g given p x y
  leads_iff i x y p h is = (λ r. reached_leads i x y r p h is, λ l. leads_reached p x y l i h is)

  pub induced_iff : (s a b : ℕ) → Handed relations sorts places s a b ↔ Induced g given s a b
  induced_iff s a b = (handed_induced s a b, induced_handed s a b)

-- an empty table for each sort has as many points as the sort has attributes
pub empty_points : (sorts : List Sort) (tables : List Pairs) → AllZip IsEmptyTable sorts tables → (s : ℕ) → (table_at tables s).points ≡ length (attrs_of_sort sorts s)
empty_points [] [] all s = refl
empty_points [] (t ∷ ts) all s = absurd all
empty_points (x ∷ xs) [] all s = absurd all
empty_points (x ∷ xs) (t ∷ ts) all zero = all.0.points
empty_points (x ∷ xs) (t ∷ ts) all (suc s) = empty_points xs ts all.1 s

pub empty_pairs : (sorts : List Sort) (tables : List Pairs) → AllZip IsEmptyTable sorts tables → (s x y : ℕ) → ¬ HasAt tables s x y
unfolding paired
empty_pairs [] [] all s x y h = absurd (false≢true h)
empty_pairs [] (t ∷ ts) all s x y h = absurd all
empty_pairs (z ∷ zs) [] all s x y h = absurd all
empty_pairs (z ∷ zs) (t ∷ ts) all zero x y h = all.0.empty x y h
empty_pairs (z ∷ zs) (t ∷ ts) all (suc s) x y h = empty_pairs zs ts all.1 s x y h

-- the tables that are made begin so
pub begun : (g : Grammar) (given : List Given) (relations olds sorts : List Pairs) (places : List (List Place))
    → AllZip (HasNeeds g.sorts) g.prods relations → places ≡ map (places_of g.sorts) g.prods → AllZip IsEmptyTable g.sorts olds
    → ((s : ℕ) → (table_at sorts s).points ≡ (table_at olds s).points)
    → ((s x y : ℕ) → HasAt sorts s x y ↔ (HasAt olds s x y ⊎ IsPut places given s x y))
    → Begin g given relations sorts places
begun g given relations olds sorts places needs made empty points put = record {
  number = zip_length (HasNeeds g.sorts) g.prods relations needs;
  needs = λ i p h is. subst (λ (q : Production). HasNeeds g.sorts q (table_at relations i)) is (zip_at (HasNeeds g.sorts) g.prods relations i p nothing needs h);
  places = λ i p h is.
      ap (λ (all : List (List Place)). get_or all i []) made ∙ map_at (places_of g.sorts) g.prods i [] p h ∙ ap (places_of g.sorts) is;
  each = λ list m. member_of_map (places_of g.sorts) g.prods list (subst (λ (all : List (List Place)). Contains all list) made m);
  has_each = λ p m.
      let small = m.1 in
      let count = length-map g.prods (places_of g.sorts) in
      subst (λ (all : List (List Place)). Contains all (places_of g.sorts p)) (sym made)
      (m.0, omega arith, map_at (places_of g.sorts) g.prods m.0 (places_of g.sorts p) p m.1 ∙ ap (places_of g.sorts) m.2);
  put = λ s x y. (
    λ h. elim ((put s x y).0 h) [ inl p ↦ absurd (empty_pairs g.sorts olds empty s x y p) | inr p ↦ p ],
    λ h. (put s x y).1 (inr h),
  );
  points = λ s. points s ∙ empty_points g.sorts olds empty s;
}

pub closed_within : (g : Grammar) → IsTrue (is_well_formed g) → All (λ p. All (IsNeedBelow (length (occurrences_of g.sorts p))) (needs_of g.sorts p)) g.prods
closed_within g well =
    All-weaker (λ p. is_production_right g.sorts g.prods p ≡ true) (λ p. All (IsNeedBelow (length (occurrences_of g.sorts p))) (needs_of g.sorts p))
    (λ p right. needs_within g.sorts g.prods p right) g.prods (production_right g well)

abbrev pub IsGivenIn : List Pairs → Given → Type 0
IsGivenIn tables x = (x.sort < length tables) × (x.first < (table_at tables x.sort).points) × (x.then < (table_at tables x.sort).points)

pub given_within : (sorts : List Sort) (given : List Given) (tables : List Pairs) → AllZip IsEmptyTable sorts tables → All (IsGivenThere sorts) given → All (IsGivenIn tables) given
given_within sorts given tables empty there =
    All-weaker (IsGivenThere sorts) (IsGivenIn tables)
    (λ x h.
    let count = zip_length IsEmptyTable sorts tables empty in
    let points = empty_points sorts tables empty x.sort in
    let s = h.sort in
    let a = h.first in
    let b = h.then in
    (omega arith, omega arith, omega arith)) given there

module _ (g : Grammar) (well : IsTrue (is_well_formed g)) (small : IsSmall g) (given : List Given) (relations olds sorts : List Pairs) (places : List (List Place))
    (needs : AllZip (HasNeeds g.sorts) g.prods relations) (made : places ≡ map (places_of g.sorts) g.prods) (empty : AllZip IsEmptyTable g.sorts olds)
    (number : length sorts ≡ length olds) (points : (s : ℕ) → (table_at sorts s).points ≡ (table_at olds s).points)
    (put : (s x y : ℕ) → HasAt sorts s x y ↔ (HasAt olds s x y ⊎ IsPut places given s x y)) where
  abbrev start : Begin g given relations sorts places
  start = begun g given relations olds sorts places needs made empty points put

  has_needs : (i : ℕ) → i < length relations → (p : Production) × (get_or g.prods i p ≡ p) × HasNeeds g.sorts p (table_at relations i)
  has_needs i h =
      let e = start.number in
      let there : i < length g.prods = omega arith in
      let found = item_at g.prods i there in
      (found.0, found.1, start.needs i found.0 there found.1)

  fits : (i : ℕ) → i < length relations → All (FitsIn sorts (table_at relations i).points) (get_or places i [])
  fits i h =
      let e = start.number in
      let there : i < length g.prods = omega arith in
      let found = item_at g.prods i there in
      let p : Production = found.0 in
      let held = start.needs i p there found.1 in
      let right = All-contains (λ q. is_production_right g.sorts g.prods q ≡ true) g.prods p (production_right g well) (i, there, found.1) in
      let count = zip_length IsEmptyTable g.sorts olds empty in
      subst (λ ps. All (FitsIn sorts (table_at relations i).points) ps) (sym (start.places i p there found.1))
      (λ k d l.
      let place : Place = get_or (places_of g.sorts p) k d in
      let within = places_within g.sorts p k d l in
      let sort_there = (places_placed g.sorts g.prods p right k d l).sort_there in
      let as_many = held.points in
      let attrs = start.points place.sort in
      (omega arith, omega arith))

  pub ready : AreTables relations sorts places
  ready = record {
    productions = ap length made ∙ length-map g.prods (places_of g.sorts) ∙ sym start.number;
    few = all_tables (λ (r : Pairs). r.points < 1024) relations
        (λ i h.
        let found = has_needs i h in
        let as_many = found.2.points in
        let e = start.number in
        let there : i < length g.prods = omega arith in
        let few = All-contains (λ q. length (occurrences_of g.sorts q) < 1024) g.prods found.0 small.occurrences (i, there, found.1) in
        omega arith);
    within = fits;
    closed = all_tables (λ (r : Pairs). IsTransitive (Has r)) relations (λ i h. (has_needs i h).2.closed);
  }

  pub induced_made : (new news : List Pairs) (all_needs : List (List Need)) → all_needs ≡ map (needs_of g.sorts) g.prods → AreSettled relations new sorts news places
      → AreInduced g given places all_needs new news
  induced_made new news all_needs needs_made settled = record {
    places_are = made;
    needs_are = needs_made;
    productions = settled.relations ∙ start.number;
    points = λ i p h is. let e = start.number in settled.relation_points i (omega arith) ∙ (start.needs i p h is).points;
    leads = λ i x y p h is.
        let e = start.number in
        let one = settled.reached i x y (omega arith) in
        let two = leads_iff g given relations sorts places start i x y p h is in
        (λ r. two.0 (one.0 r), λ r. one.1 (two.1 r));
    tables = settled.sorts ∙ number ∙ zip_length IsEmptyTable g.sorts olds empty;
    sort_points = λ s. settled.sort_points s ∙ start.points s;
    induced = λ s a b.
        let one = settled.handed s a b in
        let two = induced_iff g given relations sorts places start s a b in
        (λ r. two.0 (one.0 r), λ r. one.1 (two.1 r));
  }
