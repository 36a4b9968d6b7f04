-- Tables that hold the induced dependencies and the order of each sort hold the extended dependencies.
use Rattle.std.proofs.Common.{◌≡◌, ℕ, ◌<◌, IsTrue, true, List, [], All, Contains, length, get_or, ◌⊎◌, ◌↔◌, inl, inr, sym, ap, ◌∙◌, subst, arith}
use Rattle.std.proofs.lemmas.List.{length-map}
use Rattle.std.proofs.lemmas.List.Elements.{All-contains}
use Rattle.lrc_base.specs.declared.grammar.Production.{Production}
use Rattle.lrc_base.specs.declared.grammar.Given.{Given}
use Rattle.lrc_meaning.specs.Grammar.{Grammar, attrs_of_sort, occurrences_of, is_production_right, is_well_formed}
use Rattle.lrc_graph.specs.Pairs.{Pairs, Has, HasExactly, step, IsTransitive}
use Rattle.lrc_graph.proofs.PairsLemmas.{joined}
use Rattle.lrc_order_meaning.specs.declared.Need.{Need}
use Rattle.lrc_order_meaning.specs.declared.Place.{Place}
use Rattle.lrc_order_meaning.specs.declared.Partition.{Partition}
use Rattle.lrc_order_meaning.specs.Needs.{places_of}
use Rattle.lrc_order_meaning.specs.Induced.{Leads, by_need, by_sort, onward}
use Rattle.lrc_order_meaning.specs.Sets.{Before}
use Rattle.lrc_order_meaning.specs.Extended.{Extended, ExtendedPath}
use Rattle.lrc_order_meaning.specs.Ordered.{IsSmall, Partitions, ArePartitions}
use Rattle.lrc_ordered.specs.Tables.{nothing, table_at, HasAt, Closed, HandedAmong, FitsIn}
use Rattle.lrc_ordered.specs.Setup.{AreInduced, orders_of}
use Rattle.lrc_ordered.proofs.PlaceLemmas.{places_within}
use Rattle.lrc_ordered.proofs.RangeLemmas.{places_placed, production_right}
use Rattle.lrc_ordered.proofs.SetupLemmas.{map_at}
use Rattle.lrc_ordered.proofs.SettleLemmas.{all_tables}
use Rattle.lrc_ordered.proofs.SpreadLemmas.{path_map, path_flat}
use Rattle.lrc_ordered.proofs.BridgeLemmas.{item_at}
use Rattle.lrc_ordered.proofs.NumberedLemmas.{slice_at}

module _ (g : Grammar) (given : List Given) where
  leads_extended : (p : Production) (x y : ℕ) → Leads g given p x y → ExtendedPath g given p x y
  leads_extended _ _ _ (by_need p x y n) = step x y (inl n)
  leads_extended _ _ _ (by_sort p place a b x y at pair x_is y_is) =
      step x y (inr (record { place = place; is_place = at; first = a; then = b; before = inl pair; x_is = x_is; y_is = y_is }))
  leads_extended _ _ _ (onward p x y z one other) =
      joined (Extended g given p) x y z (leads_extended p x y one) (leads_extended p y z other)

  module _ (p : Production) (old new : Pairs) (orders : List Pairs) (leads : (x y : ℕ) → Has old x y ↔ Leads g given p x y)
      (exact : (place : Place) → Contains (places_of g.sorts p) place → HasExactly (table_at orders place.sort) (Before g given place.sort))
      (closed : Closed old new (HandedAmong orders (places_of g.sorts p))) where
    abbrev Either : ℕ → ℕ → Type 0
    Either x y = Has old x y ⊎ HandedAmong orders (places_of g.sorts p) x y

    either_extended : (x y : ℕ) → Either x y → ExtendedPath g given p x y
    either_extended x y (inl h) = leads_extended p x y ((leads x y).0 h)
    either_extended x y (inr h) =
        step x y
        (inr (record {
          place = h.place;
          is_place = h.is_place;
          first = h.handed.first;
          then = h.handed.then;
          before = (exact h.place h.is_place h.handed.first h.handed.then).0 h.handed.pair;
          x_is = h.handed.x_is;
          y_is = h.handed.y_is;
        }))

    extended_either : (x y : ℕ) → Extended g given p x y → Either x y
    extended_either x y (inl n) = inl ((leads x y).1 (by_need p x y n))
    extended_either x y (inr h) =
        inr (record {
          place = h.place;
          is_place = h.is_place;
          handed = record { first = h.first; then = h.then; pair = (exact h.place h.is_place h.first h.then).1 h.before; x_is = h.x_is; y_is = h.y_is };
        })

    pub extended_iff : (x y : ℕ) → Has new x y ↔ ExtendedPath g given p x y
    extended_iff x y = (
      λ h. path_flat Either (Extended g given p) either_extended x y ((closed.exact x y).0 h),
      λ h. (closed.exact x y).1 (path_map (Extended g given p) Either extended_either x y h),
    )

module _ (g : Grammar) (well : IsTrue (is_well_formed g)) (small : IsSmall g) (given : List Given) (found : Partitions) (kept : found.given ≡ given)
    (are : ArePartitions g found) (places : List (List Place)) (needs : List (List Need)) (relations sorts : List Pairs)
    (made : AreInduced g given places needs relations sorts) where
  abbrev orders : List Pairs
  orders = orders_of found.sorts

  partition_at : (s : ℕ) → s < length g.sorts → (table_at orders s).points ≡ length (attrs_of_sort g.sorts s) × HasExactly (table_at orders s) (Before g given s)
  partition_at s there =
      let count = are.sorts in
      let x = slice_at found.sorts s (omega arith) in
      let is = are.each s x.0 x.1 in
      let at : table_at orders s ≡ x.0.before =
      map_at (λ (f : Partition). f.before) found.sorts s nothing x.0 (omega arith) ∙ ap (λ (f : Partition). f.before) (x.2 x.0) in (
        ap (λ (r : Pairs). r.points) at ∙ is.points,
        subst (λ (r : Pairs). HasExactly r (Before g given s)) (sym at) (subst (λ (list : List Given). HasExactly x.0.before (Before g list s)) kept is.before),
      )

  right_at : (p : Production) → Contains g.prods p → is_production_right g.sorts g.prods p ≡ true
  right_at p there = All-contains (λ q. is_production_right g.sorts g.prods q ≡ true) g.prods p (production_right g well) there

  sort_there : (p : Production) → Contains g.prods p → (place : Place) → Contains (places_of g.sorts p) place → place.sort < length g.sorts
  sort_there p there place at =
      let l = at.1 in
      subst (λ (q : Place). q.sort < length g.sorts) at.2 (places_placed g.sorts g.prods p (right_at p there) at.0 place l).sort_there

  places_at : (i : ℕ) (p : Production) → i < length g.prods → get_or g.prods i p ≡ p → get_or places i [] ≡ places_of g.sorts p
  places_at i p h is =
      ap (λ (all : List (List Place)). get_or all i []) made.places_are ∙ map_at (places_of g.sorts) g.prods i [] p h ∙ ap (places_of g.sorts) is

  pub as_many : length places ≡ length relations
  as_many = ap length made.places_are ∙ length-map g.prods (places_of g.sorts) ∙ sym made.productions

  pub few_points : All (λ (r : Pairs). r.points < 1024) relations
  few_points =
      all_tables (λ (r : Pairs). r.points < 1024) relations
      (λ i h.
      let e = made.productions in
      let there : i < length g.prods = omega arith in
      let p = item_at g.prods i there in
      let points = made.points i p.0 there p.1 in
      let few = All-contains (λ q. length (occurrences_of g.sorts q) < 1024) g.prods p.0 small.occurrences (i, there, p.1) in
      omega arith)

  pub all_closed : All (λ (r : Pairs). IsTransitive (Has r)) relations
  all_closed =
      all_tables (λ (r : Pairs). IsTransitive (Has r)) relations
      (λ i h a b c one other.
      let e = made.productions in
      let there : i < length g.prods = omega arith in
      let p = item_at g.prods i there in
      (made.leads i a c p.0 there p.1).1
      (onward p.0 a b c ((made.leads i a b p.0 there p.1).0 one) ((made.leads i b c p.0 there p.1).0 other)))

  pub orders_fit : (i : ℕ) → i < length relations → All (FitsIn orders (table_at relations i).points) (get_or places i [])
  orders_fit i h =
      let e = made.productions in
      let there : i < length g.prods = omega arith in
      let p = item_at g.prods i there in
      let points = made.points i p.0 there p.1 in
      let count = are.sorts in
      let many = length-map found.sorts (λ (f : Partition). f.before) in
      subst (λ ps. All (FitsIn orders (table_at relations i).points) ps) (sym (places_at i p.0 there p.1))
      (λ k d l.
      let place : Place = get_or (places_of g.sorts p.0) k d in
      let within = places_within g.sorts p.0 k d l in
      let known = (places_placed g.sorts g.prods p.0 (right_at p.0 (i, there, p.1)) k d l).sort_there in
      let attrs = (partition_at place.sort known).0 in
      (omega arith, omega arith))

  pub extended_same : (new : List Pairs) → ((i : ℕ) → i < length relations → Closed (table_at relations i) (table_at new i) (HandedAmong orders (get_or places i [])))
      → (i x y : ℕ) (p : Production) → i < length g.prods → get_or g.prods i p ≡ p → HasAt new i x y ↔ ExtendedPath g given p x y
  extended_same new closed i x y p there is =
      let e = made.productions in
      extended_iff g given p (table_at relations i) (table_at new i) orders (λ a b. made.leads i a b p there is)
      (λ place at. (partition_at place.sort (sort_there p (i, there, is) place at)).1)
      (subst (λ ps. Closed (table_at relations i) (table_at new i) (HandedAmong orders ps)) (places_at i p there is) (closed i (omega arith))) x y
