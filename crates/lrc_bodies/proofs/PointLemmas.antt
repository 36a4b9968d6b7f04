-- A body begins at its start, goes on by what its next action gives, has no result where that gives nothing, and ends with
-- the result of its call.
use Rattle.std.proofs.Common.{◌≡◌, ℕ, suc, ◌+◌, ◌<◌, ◌≤◌, max, true, false, IsTrue, cond, List, [], ◌∷◌, ◌++◌, length, drop, All, Contains, Option, Some, None, ◌⊎◌, inl, inr, slice_get, refl, sym, ap, ◌∙◌, subst, arith, append-nil, append_assoc}
use Rattle.std.specs.Prelude.{flat_map}
use Rattle.std.specs.Option.{option_map, option_map_or, option_and_then}
use Rattle.std.proofs.lemmas.Option.{same_Some, slice_get_within, get_or_from_slice_get}
use Rattle.std.proofs.lemmas.List.{drop_more, drop_all}
use Rattle.std.proofs.lemmas.List.Elements.{All-contains, Contains-append_left, Contains-append_right, Contains-append_cases}
use Rattle.lrc_base.specs.declared.grammar.Production.{Production}
use Rattle.lrc_meaning.specs.Tree.{Trees, node}
use Rattle.lrc_meaning.specs.Grammar.{Grammar}
use Rattle.lrc_order_meaning.specs.declared.Partition.{Partition}
use Rattle.lrc_plan_meaning.specs.declared.Action.{Action}
use Rattle.lrc_plan_meaning.specs.declared.Bound.{Bound}
use Rattle.lrc_plan_meaning.specs.Items.{values_of_visit, needs, makes}
use Rattle.lrc_plan_meaning.specs.Bindings.{binding}
use Rattle.lrc_plan_meaning.specs.Sound.{handed_in, AreReady, IsSound}
use Rattle.lrc_visit_meaning.specs.Values.{Call, Result}
use Rattle.lrc_visit_meaning.specs.Visits.{Given, Walked, walked_on, walk, is_visited, result_of, step, visit_of_node, visit_of_tree, plain_visit}
use Rattle.lrc_visit_meaning.specs.Demand.{Met, called, answered, walk_met, action_met, node_met, tree_met, reach}
use Rattle.lrc_frames.specs.Frames.{Run, at_start, after}
use Rattle.lrc_frames.specs.Steps.{IsProper, IsDone}
use Rattle.lrc_order_meaning.proofs.MemberLemmas.{member_first, member_later, member_cases, no_member}
use Rattle.lrc_laws.proofs.FuelLemmas.{mapped, bound_by, max_right, walk_rises}
use Rattle.lrc_laws.proofs.AlikeLemmas.{bound_gained}
use Rattle.lrc_cell_laws.proofs.ReachedLemmas.{call_met}
use Rattle.lrc_bodies.specs.Points.{walk_on, met_on, segment_of, left_of, Meets, itself, earlier, later, outcome, Point}
use Rattle.lrc_bodies.proofs.ProperLemmas.{holding_proper, called as is_called, start_proper, step_proper}

-- what is left from a place on, where this stands there, and where nothing does
pub left_at : {X : Type 0} (xs : List X) (i : ℕ) (x : X) → slice_get xs i ≡ Some x → drop i xs ≡ x ∷ drop (i + 1) xs
left_at xs i x e =
    drop_more xs i x (slice_get_within xs i x e) ∙ ap (λ y. y ∷ drop (i + 1) xs) (get_or_from_slice_get xs i x x e)

module _ (g : Grammar) (parts : List Partition) where
  -- the plain visit of a node is the walk of its segment, and meets what that meets
  module _ (fuel : ℕ) (c : Call) (number : ℕ) (p : Production) (kids : Trees) (tree : c.tree ≡ node number kids) (there : slice_get g.prods number ≡ Some p)
      (visited : IsTrue (is_visited g parts p kids c)) where
    abbrev start : Run
    start = at_start g parts p kids c

    abbrev own_result : List Met
    own_result = option_map_or (λ r. answered r ∷ []) (plain_visit g parts (suc fuel) c) []

    visit_is : plain_visit g parts (suc fuel) c ≡ option_map (result_of g parts p c.visit) (walk_on g parts fuel start 0 (segment_of g parts c start))
    unfolding plain_visit
    visit_is =
        ap (λ t. visit_of_tree g parts (plain_visit g parts fuel) t c) tree
        ∙ ap (option_and_then (λ q. visit_of_node g parts (plain_visit g parts fuel) q kids c)) there
        ∙ ap (λ b. cond b (option_map (result_of g parts p c.visit) (walk_on g parts fuel start 0 (segment_of g parts c start))) None) visited

    reach_is : reach g parts (suc fuel) c ≡ called c ∷ (met_on g parts fuel start 0 (segment_of g parts c start) ++ own_result)
    unfolding reach
    reach_is =
        ap (λ ms. called c ∷ (ms ++ own_result))
        (ap (λ t. tree_met g parts (plain_visit g parts fuel) (reach g parts fuel) t c) tree
        ∙ ap (λ o. option_map_or (λ q. node_met g parts (plain_visit g parts fuel) (reach g parts fuel) q kids c) o []) there
        ∙ ap (λ b. cond b (met_on g parts fuel start 0 (segment_of g parts c start)) []) visited)

  -- a result of the call is what it answers
  answered_of : (fuel : ℕ) (c : Call) (met still : List Met) (o : Option Result) (x : Met) → plain_visit g parts (suc fuel) c ≡ o
      → Contains (option_map_or (λ r. answered r ∷ []) o []) x → Meets g parts fuel c met still x
  answered_of fuel c met still None x is h = absurd (no_member x h)
  answered_of fuel c met still (Some r) x is h =
      elim (member_cases (answered r) [] x h) [ inl e ↦ outcome r is e | inr more ↦ absurd (no_member x more) ]

  -- a result is met
  pub result_met : (fuel : ℕ) (c : Call) (q : Result) → plain_visit g parts (suc fuel) c ≡ Some q → Contains (reach g parts (suc fuel) c) (answered q)
  unfolding reach
  result_met fuel c q e =
      let walked = tree_met g parts (plain_visit g parts fuel) (reach g parts fuel) c.tree c in
      let own = option_map_or (λ r. answered r ∷ []) (plain_visit g parts (suc fuel) c) [] in
      member_later (called c) (walked ++ own) (answered q)
      (Contains-append_right walked own (answered q)
      (subst (λ o. Contains (option_map_or (λ r. answered r ∷ []) o []) (answered q)) (sym e) (member_first (answered q) [])))

  -- A body begins with nothing done.
  pub begins : (fuel : ℕ) (c : Call) (number : ℕ) (p : Production) (kids : Trees) → IsSound g.sorts parts p → c.tree ≡ node number kids → slice_get g.prods number ≡ Some p
      → IsTrue (is_visited g parts p kids c) → Point g parts fuel c number (at_start g parts p kids c) 0 0 []
  begins fuel c number p kids sound tree there visited =
      let is = is_called g parts p kids c visited in
      let seg = segment_of g parts c (at_start g parts p kids c) in
      let own = own_result fuel c number p kids tree there visited in
      let met = met_on g parts fuel (at_start g parts p kids c) 0 seg in
      let all = reach_is fuel c number p kids tree there visited in
      record {
        tree = tree;
        there = there;
        visited = visited;
        ready = sound.runs.ready c.visit is.first is.last;
        available = refl;
        proper = λ x h.
            elim (Contains-append_cases (values_of_visit g.sorts parts true p.left 0 c.visit) (flat_map (makes g.sorts parts p) seg) x h) [
              | inl inherited ↦ inr (start_proper g parts p c sound is x inherited)
              | inr made ↦ inl made
            ];
        walks = refl;
        within = λ x h.
            subst (λ ms. Contains ms x) (sym all)
            (member_later (called c) (met ++ own) x (Contains-append_left met own x h));
        covers = λ x h.
            elim (member_cases (called c) (met ++ own) x (subst (λ ms. Contains ms x) all h)) [
              | inl e ↦ itself e
              | inr behind ↦
                  elim (Contains-append_cases met own x behind) [
                    | inl walked ↦ later walked
                    | inr last ↦ answered_of fuel c [] met (plain_visit g parts (suc fuel) c) x refl last
                  ]
            ];
      }

  module _ (fuel : ℕ) (c : Call) (number : ℕ) (r : Run) (at height : ℕ) (met : List Met) (point : Point g parts fuel c number r at height met) where
    abbrev made_by : List Action → List Bound
    made_by xs = flat_map (makes g.sorts parts r.production) xs

    abbrev left : ℕ → List Action
    left i = left_of g parts c r i

    abbrev stepped : Action → Option Given
    stepped x = step g parts (plain_visit g parts fuel) r.production r.kids r.held x

    -- what the call's visit gives
    pub outcome_is : plain_visit g parts (suc fuel) c ≡ option_map (result_of g parts r.production c.visit) (walk_on g parts fuel r height (left at))
    outcome_is =
        visit_is fuel c number r.production r.kids point.tree point.there point.visited
        ∙ ap (option_map (result_of g parts r.production c.visit)) (sym point.walks)

    module _ (x : Action) (next : slice_get (segment_of g parts c r) at ≡ Some x) where
      abbrev acts : List Met
      acts = action_met g parts (reach g parts fuel) r.production r.kids r.held x

      left_is : left at ≡ x ∷ left (at + 1)
      left_is = left_at (segment_of g parts c r) at x next

      -- the next action finds what it needs
      pub needed : All (Contains r.available) (needs g.sorts parts r.production x)
      needed = (subst (AreReady g.sorts parts r.production r.available) left_is point.ready).0

      -- what it meets is in the call's reach
      pub next_within : (y : Met) → Contains acts y → Contains (reach g parts (suc fuel) c) y
      next_within y h =
          point.within y
          (Contains-append_right met (met_on g parts fuel r height (left at)) y
          (subst (λ xs. Contains (met_on g parts fuel r height xs) y) (sym left_is) (Contains-append_left acts _ y h)))

      -- where it gives nothing the call has no result
      pub stops : stepped x ≡ None → plain_visit g parts (suc fuel) c ≡ None
      stops none =
          outcome_is
          ∙ ap (λ xs. option_map (result_of g parts r.production c.visit) (walk_on g parts fuel r height xs)) left_is
          ∙ ap (λ o. option_map (result_of g parts r.production c.visit)
          (option_and_then (λ given. walk (makes g.sorts parts r.production) (step g parts (plain_visit g parts fuel) r.production r.kids) (left (at + 1)) (walked_on (makes g.sorts parts r.production) x (record { height = height; held = r.held }) given)) o)) none

      -- where the call has a result the action gives something, which is lower
      pub gives_lower : (q : Result) → plain_visit g parts (suc fuel) c ≡ Some q → (given : Given) × (stepped x ≡ Some given) × (given.height < q.height)
      gives_lower q some =
          let makes_of = makes g.sorts parts r.production in
          let one = step g parts (plain_visit g parts fuel) r.production r.kids in
          let before : Walked = record { height = height; held = r.held } in
          let end = mapped (result_of g parts r.production c.visit) (walk_on g parts fuel r height (left at)) q (sym outcome_is ∙ some) in
          let found = bound_by (λ given. walk makes_of one (left (at + 1)) (walked_on makes_of x before given)) (stepped x) end.0 (ap (walk_on g parts fuel r height) (sym left_is) ∙ end.1) in
          let rise = walk_rises makes_of one one (left (at + 1)) (walked_on makes_of x before found.0) end.0 found.2 in
          let up = max_right height found.0.height in
          let high : suc end.0.height ≡ q.height = ap (λ (s : Result). s.height) end.2 in
          (found.0, found.1, omega (arith, rise, up, high))

      module _ (given : Given) (gives : stepped x ≡ Some given) where
        abbrev here : List Bound
        here = makes g.sorts parts r.production x

        abbrev next_run : Run
        next_run = after g parts r x given.made

        abbrev next_height : ℕ
        next_height = max height given.height

        -- the walk of the rest, and what it meets
        abbrev go : Given → Option Walked
        go found = walk (makes g.sorts parts r.production) (step g parts (plain_visit g parts fuel) r.production r.kids) (left (at + 1)) (walked_on (makes g.sorts parts r.production) x (record { height = height; held = r.held }) found)

        abbrev go_met : Given → List Met
        go_met found =
            walk_met (makes g.sorts parts r.production) (step g parts (plain_visit g parts fuel) r.production r.kids) (action_met g parts (reach g parts fuel) r.production r.kids)
            (left (at + 1)) (walked_on (makes g.sorts parts r.production) x (record { height = height; held = r.held }) found)

        walk_is : walk_on g parts fuel r height (left at) ≡ walk_on g parts fuel next_run next_height (left (at + 1))
        walk_is = ap (walk_on g parts fuel r height) left_is ∙ ap (option_and_then go) gives

        met_is : met_on g parts fuel r height (left at) ≡ acts ++ met_on g parts fuel next_run next_height (left (at + 1))
        met_is = ap (met_on g parts fuel r height) left_is ∙ ap (λ o. acts ++ option_map_or go_met o []) gives

        proper_on : (y : Bound) → Contains (made_by (left at)) y ⊎ IsProper y (r.held y) → Contains (made_by (left (at + 1))) y ⊎ IsProper y (next_run.held y)
        proper_on y (inr proper) = inr (holding_proper g parts here given.made r.held y (step_proper g parts fuel r.production r.kids r.held x given gives) (inr proper))
        proper_on y (inl lacking) =
            elim (Contains-append_cases here (made_by (left (at + 1))) y (subst (λ xs. Contains (made_by xs) y) left_is lacking)) [
              | inl now ↦ inr (holding_proper g parts here given.made r.held y (step_proper g parts fuel r.production r.kids r.held x given gives) (inl now))
              | inr more ↦ inl more
            ]

        covers_on : (also : List Met) → acts ≡ also → (y : Met) → Meets g parts fuel c met (met_on g parts fuel r height (left at)) y
            → Meets g parts fuel c (met ++ also) (met_on g parts fuel next_run next_height (left (at + 1))) y
        covers_on also same y (itself e) = itself e
        covers_on also same y (earlier h) = earlier (Contains-append_left met also y h)
        covers_on also same y (outcome q is e) = outcome q is e
        covers_on also same y (later h) =
            elim (Contains-append_cases acts (met_on g parts fuel next_run next_height (left (at + 1))) y (subst (λ ms. Contains ms y) met_is h)) [
              | inl now ↦ earlier (Contains-append_right met also y (subst (λ ms. Contains ms y) same now))
              | inr more ↦ later more
            ]

        all_is : (also : List Met) → acts ≡ also → (met ++ also) ++ met_on g parts fuel next_run next_height (left (at + 1)) ≡ met ++ met_on g parts fuel r height (left at)
        all_is also same =
            let rest = met_on g parts fuel next_run next_height (left (at + 1)) in
            append_assoc met also rest ∙ ap (λ ms. met ++ (ms ++ rest)) (sym same) ∙ ap (λ ms. met ++ ms) (sym met_is)

        -- Where it gives something the body stands behind it, with what it met.
        pub moves_on : (also : List Met) → acts ≡ also → Point g parts fuel c number next_run (at + 1) next_height (met ++ also)
        moves_on also same = record {
          tree = point.tree;
          there = point.there;
          visited = point.visited;
          ready = (subst (AreReady g.sorts parts r.production r.available) left_is point.ready).1;
          available =
              append_assoc r.available here (made_by (left (at + 1)))
              ∙ ap (λ xs. r.available ++ made_by xs) (sym left_is)
              ∙ point.available;
          proper = λ y h. proper_on y (point.proper y h);
          walks = sym walk_is ∙ point.walks;
          within = λ y h. point.within y (subst (λ ms. Contains ms y) (all_is also same) h);
          covers = λ y h. covers_on also same y (point.covers y h);
        }

    module _ (sound : IsSound g.sorts parts r.production) (last : length (segment_of g parts c r) ≤ at) where
      none_left : left at ≡ []
      none_left = drop_all at (segment_of g parts c r) last

      abbrev pub result : Result
      result = result_of g parts r.production c.visit (record { height = height; held = r.held })

      -- At the end the call has its result,
      pub ends : plain_visit g parts (suc fuel) c ≡ Some result
      ends =
          outcome_is ∙ ap (λ xs. option_map (result_of g parts r.production c.visit) (walk_on g parts fuel r height xs)) none_left

      all_available : r.available ≡ handed_in g.sorts parts r.production c.visit ++ made_by (segment_of g parts c r)
      all_available = sym (append-nil r.available) ∙ ap (λ xs. r.available ++ made_by xs) (sym none_left) ∙ point.available

      done_proper : (y : Bound) → Contains (made_by (left at)) y ⊎ IsProper y (r.held y) → IsProper y (r.held y)
      done_proper y (inl lacking) = absurd (no_member y (subst (λ xs. Contains (made_by xs) y) none_left lacking))
      done_proper y (inr proper) = proper

      -- all that it is to give is available,
      pub is_done : IsDone g parts r c.visit
      is_done =
          let is = is_called g parts r.production r.kids c point.visited in
          let all = handed_in g.sorts parts r.production c.visit ++ made_by (segment_of g parts c r) in
          record {
            gives = λ x h.
                subst (λ xs. Contains xs x) (sym all_available)
                (All-contains (Contains all) (values_of_visit g.sorts parts false r.production.left 0 c.visit) x (sound.gives c.visit is.first is.last) h);
            hands_on = λ w x h. (
              subst (λ xs. Contains xs x) (sym all_available)
                  (All-contains (Contains all) (binding g.sorts parts r.production c.visit w) x (sound.runs.hands_on c.visit w is.first is.last) h),
              done_proper x (point.proper x (bound_gained g.sorts parts r.production c.visit w x h)),
            );
          }

      -- and its reach is the call, what was met, and the result.
      abbrev pub whole : List Met
      whole = called c ∷ (met ++ answered result ∷ [])

      met_whole : (x : Met) → Meets g parts fuel c met (met_on g parts fuel r height (left at)) x → Contains whole x
      met_whole x (itself e) = subst (Contains whole) e (member_first (called c) (met ++ answered result ∷ []))
      met_whole x (earlier h) =
          member_later (called c) (met ++ answered result ∷ []) x (Contains-append_left met (answered result ∷ []) x h)
      met_whole x (later h) = absurd (no_member x (subst (λ xs. Contains (met_on g parts fuel r height xs) x) none_left h))
      met_whole x (outcome q is e) =
          let same : q ≡ result = same_Some q result (sym is ∙ ends) in
          member_later (called c) (met ++ answered result ∷ []) x
          (Contains-append_right met (answered result ∷ []) x
          (subst (Contains (answered result ∷ [])) (ap answered (sym same) ∙ e) (member_first (answered result) [])))

      pub all_met : (x : Met) → Contains (reach g parts (suc fuel) c) x → Contains whole x
      all_met x h = met_whole x (point.covers x h)

      pub met_all : (x : Met) → Contains whole x → Contains (reach g parts (suc fuel) c) x
      met_all x h =
          elim (member_cases (called c) (met ++ answered result ∷ []) x h) [
            | inl e ↦ subst (Contains (reach g parts (suc fuel) c)) e (call_met g parts fuel c)
            | inr behind ↦
                elim (Contains-append_cases met (answered result ∷ []) x behind) [
                  | inl done ↦ point.within x (Contains-append_left met (met_on g parts fuel r height (left at)) x done)
                  | inr last ↦
                      elim (member_cases (answered result) [] x last) [
                        | inl e ↦ subst (Contains (reach g parts (suc fuel) c)) e (result_met fuel c result ends)
                        | inr more ↦ absurd (no_member x more)
                      ]
                ]
          ]
