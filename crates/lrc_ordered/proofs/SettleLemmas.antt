-- Rounds of gathering and spreading.
use Rattle.std.proofs.lemmas.List.{get_or_default}
use Rattle.lrc_ordered.proofs.GatherLemmas.{same_fits}
use Rattle.std.proofs.Common.{◌≡◌, Bool, ℕ, ◌+◌, ◌<◌, false, List, [], length, get_or, All, ◌⊎◌, inl, inr, sym, refl, ◌∙◌, subst, arith}
use Rattle.std.proofs.lemmas.List.Elements.{All-weaker}
use Rattle.lrc_graph.specs.Pairs.{Pairs, Has, step, IsTransitive}
use Rattle.lrc_graph.proofs.PairsLemmas.{along}
use Rattle.lrc_order_meaning.specs.declared.Place.{Place}
use Rattle.lrc_ordered.specs.Tables.{nothing, table_at, HasAt, GatheredAll, JoinedIn, FitsIn, Closed, HandedAmong, Reached, by_table, by_place, by_path, Handed, by_sort_table, by_joining, AreTables, AreSettled}

-- by the number of each table
pub all_tables : (P : Pairs → Type 0) (xs : List Pairs) → ((i : ℕ) → i < length xs → P (table_at xs i)) → All P xs
all_tables P xs each k d h = subst P (get_or_default xs k nothing d h) (each k h)

pub of_table : (P : Pairs → Type 0) (xs : List Pairs) → All P xs → (i : ℕ) → i < length xs → P (table_at xs i)
of_table P xs all i h = all i nothing h

-- What tables hold follows from those at first and keeps them.
pub record Follow (old new olds news : List Pairs) (places : List (List Place)) : Type 0 where
  pub tables : AreTables new news places
  pub relations : length new ≡ length old
  pub relation_points : (i : ℕ) → i < length old → (table_at new i).points ≡ (table_at old i).points
  pub reached : (i x y : ℕ) → i < length old → HasAt new i x y → Reached old olds places i x y
  pub kept : (i x y : ℕ) → i < length old → HasAt old i x y → HasAt new i x y
  pub sorts : length news ≡ length olds
  pub sort_points : (s : ℕ) → (table_at news s).points ≡ (table_at olds s).points
  pub handed : (s a b : ℕ) → HasAt news s a b → Handed old olds places s a b
  pub sorts_kept : (s a b : ℕ) → HasAt olds s a b → HasAt news s a b

-- And each place has been handed what the sorts hold.
pub record AreSpread (old new olds news : List Pairs) (places : List (List Place)) : Type 0 where
  pub follow : Follow old new olds news places
  pub spread : (i x y : ℕ) → i < length old → HandedAmong news (get_or places i []) x y → HasAt new i x y

pub begin : (old olds : List Pairs) (places : List (List Place)) → AreTables old olds places → Follow old old olds olds places
begin old olds places tables = record {
  tables = tables;
  relations = refl;
  relation_points = λ i h. refl;
  reached = λ i x y h p. by_table i x y p;
  kept = λ i x y h p. p;
  sorts = refl;
  sort_points = λ s. refl;
  handed = λ s a b p. by_sort_table s a b p;
  sorts_kept = λ s a b p. p;
}

module _ (old now new olds news : List Pairs) (places : List (List Place)) (before : Follow old now olds news places) (number : length new ≡ length now)
    (passes : (i : ℕ) → i < length now → Closed (table_at now i) (table_at new i) (HandedAmong news (get_or places i []))) where
  pass : (i : ℕ) → i < length old → Closed (table_at now i) (table_at new i) (HandedAmong news (get_or places i []))
  pass i h = let e = before.relations in passes i (omega arith)

  reached : (i x y : ℕ) → i < length old → HasAt new i x y → Reached old olds places i x y
  reached i x y h p =
      along (λ a b. HasAt now i a b ⊎ HandedAmong news (get_or places i []) a b) (Reached old olds places i)
      (λ a b s.
      elim s [
        | inl q ↦ before.reached i a b h q
        | inr q ↦
            by_place i q.place q.handed.first q.handed.then a b q.is_place
            (before.handed q.place.sort q.handed.first q.handed.then q.handed.pair) q.handed.x_is q.handed.y_is
      ]) (λ a b c q r. by_path i a b c q r) x y (((pass i h).exact x y).0 p)

  pub spread_step : AreSpread old new olds news places
  spread_step = record {
    follow = record {
      tables = record {
        productions = before.tables.productions ∙ sym number;
        few = all_tables (λ (r : Pairs). r.points < 1024) new
            (λ i h.
            let there : i < length now = omega arith in
            let e = (passes i there).points in
            let few = of_table (λ (r : Pairs). r.points < 1024) now before.tables.few i there in
            omega arith);
        within = λ i h.
            let there : i < length now = omega arith in
            subst (λ n. All (FitsIn news n) (get_or places i [])) (sym (passes i there).points) (before.tables.within i there);
        closed = all_tables (λ (r : Pairs). IsTransitive (Has r)) new (λ i h. (passes i (omega arith)).closed);
      };
      relations = number ∙ before.relations;
      relation_points = λ i h. (pass i h).points ∙ before.relation_points i h;
      reached = reached;
      kept = λ i x y h p. ((pass i h).exact x y).1 (step x y (inl (before.kept i x y h p)));
      sorts = before.sorts;
      sort_points = before.sort_points;
      handed = before.handed;
      sorts_kept = before.sorts_kept;
    };
    spread = λ i x y h p. ((pass i h).exact x y).1 (step x y (inr p));
  }

module _ (old now olds mid news : List Pairs) (places : List (List Place)) (before : Follow old now olds mid places) where
  handed_more : (found : Bool) → GatheredAll mid news found (JoinedIn mid now places) → (s a b : ℕ) → HasAt news s a b → Handed old olds places s a b
  handed_more found pass s a b p =
      elim ((pass.exact s a b).0 p) [
        | inl q ↦ before.handed s a b q
        | inr j ↦
            let w = j.joined in
            let e = before.relations in
            let small = j.is_there in
            let there : j.production < length old = omega arith in
            let points = before.sort_points s in
            let x_in = w.joined.x_in in
            let y_in = w.joined.y_in in
            by_joining j.production w.place s a b there w.is_place w.of_sort (omega arith) (omega arith)
            (before.reached j.production (w.place.start + a) (w.place.start + b) there w.joined.pair)
      ]

  pub gather_step : (found : Bool) → GatheredAll mid news found (JoinedIn mid now places) → Follow old now olds news places
  gather_step found pass = record {
    tables = record {
      productions = before.tables.productions;
      few = before.tables.few;
      within = λ i h.
          All-weaker (FitsIn mid (table_at now i).points) (FitsIn news (table_at now i).points)
          (same_fits mid news (table_at now i).points pass.tables pass.points) (get_or places i []) (before.tables.within i h);
      closed = before.tables.closed;
    };
    relations = before.relations;
    relation_points = before.relation_points;
    reached = before.reached;
    kept = before.kept;
    sorts = pass.tables ∙ before.sorts;
    sort_points = λ s. pass.points s ∙ before.sort_points s;
    handed = handed_more found pass;
    sorts_kept = λ s a b p. (pass.exact s a b).1 (inl (before.sorts_kept s a b p));
  }

module _ (old now olds mid news : List Pairs) (places : List (List Place)) (state : AreSpread old now olds mid places)
    (pass : GatheredAll mid news false (JoinedIn mid now places)) where
  abbrev follow : Follow old now olds mid places
  follow = state.follow

  mutual
    reached_in : (i x y : ℕ) → Reached old olds places i x y → i < length old → HasAt now i x y
    reached_in _ _ _ (by_table i x y p) h = follow.kept i x y h p
    reached_in _ _ _ (by_place i place a b x y at pair x_is y_is) h =
        state.spread i x y h
        (record {
          place = place;
          is_place = at;
          handed = record { first = a; then = b; pair = handed_in place.sort a b pair; x_is = x_is; y_is = y_is };
        })
    reached_in _ _ _ (by_path i x y z p q) h =
        let e = follow.relations in
        of_table (λ (r : Pairs). IsTransitive (Has r)) now follow.tables.closed i (omega arith) x y z (reached_in i x y p h) (reached_in i y z q h)

    handed_in : (s a b : ℕ) → Handed old olds places s a b → HasAt mid s a b
    handed_in _ _ _ (by_sort_table s a b p) = follow.sorts_kept s a b p
    handed_in _ _ _ (by_joining i place s a b there at of_sort a_in b_in path) =
        let e = follow.relations in
        let points = follow.sort_points s in
        pass.same refl s a b
        ((pass.exact s a b).1
        (inr (record {
          production = i;
          is_there = omega arith;
          joined = record {
            place = place;
            is_place = at;
            of_sort = of_sort;
            joined = record { x_in = omega arith; y_in = omega arith; pair = reached_in i (place.start + a) (place.start + b) path there };
          };
        })))

  pub settled : AreSettled old now olds news places
  settled = record {
    relations = follow.relations;
    relation_points = follow.relation_points;
    closed = follow.tables.closed;
    reached = λ i x y h. (follow.reached i x y h, λ p. reached_in i x y p h);
    sorts = pass.tables ∙ follow.sorts;
    sort_points = λ s. pass.points s ∙ follow.sort_points s;
    handed = λ s a b. (
      λ p. follow.handed s a b (pass.same refl s a b p),
      λ p. (pass.exact s a b).1 (inl (handed_in s a b p)),
    );
  }
