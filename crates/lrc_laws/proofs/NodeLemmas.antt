-- What a node shows to the node above it, and that a node on which all is made serves each of its visits.
use Rattle.std.proofs.Common.{◌≡◌, ℕ, ◌+◌, ◌-◌, ◌<◌, ◌≤◌, Bool, true, false, IsTrue, ◌==◌, ◌&&◌, nat_le, cond, List, [], ◌∷◌, ◌++◌, map, length, Contains, Option, Some, None, inr, slice_get, refl, sym, ap, ◌∙◌, subst, arith}
use Rattle.std.specs.Prelude.{flat_map}
use Rattle.std.specs.Option.{option_map, option_and_then}
use Rattle.std.specs.List.{range_with_len}
use Rattle.std.proofs.lemmas.Bool.{and_from, eq-eqb, le-leb}
use Rattle.std.proofs.lemmas.List.{map-append, length-map}
use Rattle.lrc_base.specs.declared.grammar.Kind.TheVariants as k
use Rattle.lrc_base.specs.declared.grammar.Production.{Production}
use Rattle.lrc_meaning.specs.Tree.{Tree, Trees, node}
use Rattle.lrc_meaning.specs.Grammar.{Grammar, attrs_of_sort}
use Rattle.lrc_order_meaning.specs.declared.Place.{Place}
use Rattle.lrc_order_meaning.specs.declared.Partition.{Partition}
use Rattle.lrc_plan_meaning.specs.declared.Action.{Action}
use Rattle.lrc_plan_meaning.specs.declared.Action.TheVariants as a
use Rattle.lrc_plan_meaning.specs.declared.Bound.{Bound}
use Rattle.lrc_plan_meaning.specs.declared.Bound.TheVariants as b
use Rattle.lrc_plan_meaning.specs.Items.{visits_of, visit_of, is_of, values_of_visit, attrs_of_visit, symbol_at, makes}
use Rattle.lrc_plan_meaning.specs.Sequences.{segment}
use Rattle.lrc_plan_meaning.specs.Bindings.{binding as items_between}
use Rattle.lrc_plan_meaning.specs.Sound.{handed_in, IsDone, IsSound}
use Rattle.lrc_visit_meaning.specs.Values.{Datum, value, binding, data_row, data_list, value_in, binding_in, Call, Result}
use Rattle.lrc_visit_meaning.specs.Visits.{Held, nothing_held, holding, Walked, walk, are_of_kinds, are_of_lengths, is_of_kind, is_call, tree_at, call_of, given_by, held_at_start, result_of, step, visit_of_node, one_visit}
pub use Rattle.lrc_visit_meaning.specs.Shown.{Face, asked}
use Rattle.std.proofs.lemmas.List.Folds.{flat_map-map}
use Rattle.std.proofs.lemmas.Simd.{map-map}
use Rattle.lrc_order_meaning.proofs.MemberLemmas.{member_map, member_of_filter, member_of_range}
use Rattle.lrc_plan.proofs.ListLemmas.{map_agree, map_flat, flat_agree}
use Rattle.lrc_laws.proofs.HeldLemmas.{Agree, agree_part, holding_agrees, IsMade, walk_follows}
use Rattle.lrc_laws.proofs.ReadLemmas.{step_reads}

-- each value item holds a value, and each other one a binding
pub record IsProper (m : Held) : Type 0 where
  pub values : (o : ℕ) → m (b.Value o) ≡ value (value_in (m (b.Value o)))
  pub bindings : (s i j : ℕ) → m (b.Kid s i j) ≡ binding (binding_in (m (b.Kid s i j)))

pub list_of_row : (ds : List Datum) → data_list (data_row ds) ≡ ds
list_of_row [] = refl
list_of_row (d ∷ ds) = ap (λ xs. d ∷ xs) (list_of_row ds)

-- bindings of what these items hold are of their lengths
rows_of_lengths : (m : Held) (items : ℕ → List Bound) (us : List ℕ) → IsTrue (are_of_lengths (map (λ u. data_row (map m (items u))) us) (map (λ u. length (items u)) us))
rows_of_lengths m items [] = refl
rows_of_lengths m items (u ∷ us) =
    and_from (length (data_list (data_row (map m (items u)))) == length (items u)) _
    (eq-eqb _ (length (items u)) (ap (length {A = Datum}) (list_of_row (map m (items u))) ∙ length-map (items u) m)) (rows_of_lengths m items us)

module _ (g : Grammar) (parts : List Partition) where
  -- what a visit answers
  pub record Answers (f : Face) (s v : ℕ) (r : Result) : Type 0 where
    pub synthesised : r.synthesised ≡ map f.attr (attrs_of_visit g.sorts parts false s v)
    pub bindings : r.bindings ≡ map (λ w. f.bound v w) (range_with_len (v + 1) (visits_of parts s - v))

  -- one visit gives what the face shows
  pub record ServesOne (visit : Call → Option Result) (f : Face) (s : ℕ) (t : Tree) (v : ℕ) : Type 0 where
    pub result : Result
    pub is_result : visit (asked g parts f s t v) ≡ Some result
    pub answers : Answers f s v result

  -- each visit does
  abbrev pub Serves : (Call → Option Result) → Face → ℕ → Tree → Type 0
  Serves visit f s t = (v : ℕ) → 1 ≤ v → v ≤ visits_of parts s → ServesOne visit f s t v

  -- what a node shows to the one above it, and what it sees of a symbol
  abbrev pub own_face : Production → Held → Face
  own_face p m = record {
    attr = λ x. value_in (m (b.Value (0 + x)));
    bound = λ u w. data_row (map m (items_between g.sorts parts p u w));
  }

  abbrev pub symbol_face : Production → Held → ℕ → Face
  symbol_face p m s = record {
    attr = λ x. value_in (m (b.Value ((symbol_at g.sorts p s).start + x)));
    bound = λ u w. binding_in (m (b.Kid s u w));
  }

  -- each action of the plan is made on m
  abbrev pub AllMade : (Call → Option Result) → Production → Trees → Held → Type 0
  AllMade visit p kids m = (x : Action) → IsDone g.sorts parts p x → IsMade g.sorts parts p (step g parts visit p kids) m x

  module _ (visit : Call → Option Result) (p : Production) (kids : Trees) (m : Held) (proper : IsProper m) where
    -- the values of some attributes of a place
    pub values_held : (start : ℕ) (xs : List ℕ) → map value (map (λ x. value_in (m (b.Value (start + x)))) xs) ≡ map m (map (λ x. b.Value (start + x)) xs)
    values_held start xs =
        map-map value (λ x. value_in (m (b.Value (start + x)))) xs
        ∙ map_agree (λ x. value (value_in (m (b.Value (start + x))))) (λ x. m (b.Value (start + x))) xs (λ x c. sym (proper.values (start + x)))
        ∙ sym (map-map m (λ x. b.Value (start + x)) xs)

    bindings_held : (v : ℕ) (us : List ℕ)
        → flat_map data_list (map (λ u. data_row (map m (items_between g.sorts parts p u v))) us) ≡ map m (flat_map (λ u. items_between g.sorts parts p u v) us)
    bindings_held v us =
        flat_map-map data_list (λ u. data_row (map m (items_between g.sorts parts p u v))) us
        ∙ flat_agree (λ u. data_list (data_row (map m (items_between g.sorts parts p u v)))) (λ u. map m (items_between g.sorts parts p u v)) us
        (λ u c. list_of_row (map m (items_between g.sorts parts p u v)))
        ∙ sym (map_flat m (λ u. items_between g.sorts parts p u v) us)

    module _ (n v : ℕ) where
      abbrev pub call : Call
      call = asked g parts (own_face p m) p.left (node n kids) v

      -- at the start the call's items hold what they hold on m
      given_held : map value call.inherited ++ flat_map data_list call.bindings ≡ map m (handed_in g.sorts parts p v)
      given_held =
          ap (λ ds. ds ++ flat_map data_list call.bindings) (values_held 0 (attrs_of_visit g.sorts parts true p.left v))
          ∙ ap (λ ds. map m (values_of_visit g.sorts parts true p.left 0 v) ++ ds) (bindings_held v (range_with_len 1 (v - 1)))
          ∙ sym (map-append m (values_of_visit g.sorts parts true p.left 0 v) (flat_map (λ u. items_between g.sorts parts p u v) (range_with_len 1 (v - 1))))

      pub start_agrees : Agree (handed_in g.sorts parts p v) (held_at_start g parts p call) m
      start_agrees x c =
          subst (λ ds. holding (handed_in g.sorts parts p v) ds nothing_held x ≡ m x) (sym given_held)
          (holding_agrees (handed_in g.sorts parts p v) nothing_held m x (inr c))

      -- at the end what is answered is what m shows
      end_answers : (w : Walked) → Agree (values_of_visit g.sorts parts false p.left 0 v) w.held m → ((u : ℕ) → Agree (items_between g.sorts parts p v u) w.held m)
          → Answers (own_face p m) p.left v (result_of g parts p v w)
      end_answers w agrees hands = record {
        synthesised =
            map-map (λ x. value_in (w.held x)) (λ x. b.Value (0 + x)) (attrs_of_visit g.sorts parts false p.left v)
            ∙ map_agree (λ x. value_in (w.held (b.Value (0 + x)))) (λ x. value_in (m (b.Value (0 + x)))) (attrs_of_visit g.sorts parts false p.left v)
            (λ x c. ap value_in (agrees (b.Value (0 + x)) (member_map (λ x. b.Value (0 + x)) (attrs_of_visit g.sorts parts false p.left v) x c)));
        bindings =
            map_agree (λ u. data_row (map w.held (items_between g.sorts parts p v u))) (λ u. data_row (map m (items_between g.sorts parts p v u))) (range_with_len (v + 1) (visits_of parts p.left - v))
            (λ u c. ap data_row (map_agree w.held m (items_between g.sorts parts p v u) (λ x d. hands u x d)));
      }

    -- what the node asks of its own visits are calls
    own_call : (n v : ℕ) → 1 ≤ v → v ≤ visits_of parts p.left → IsTrue (is_call g parts p (asked g parts (own_face p m) p.left (node n kids) v))
    unfolding is_call
    own_call n v first last =
        let values = attrs_of_visit g.sorts parts true p.left v in
        let earlier = range_with_len 1 (v - 1) in
        and_from (nat_le 1 v && nat_le v (visits_of parts p.left)) _ (and_from (nat_le 1 v) (nat_le v (visits_of parts p.left)) (le-leb 1 v first) (le-leb v (visits_of parts p.left) last))
        (and_from (length (map (own_face p m).attr values) == length values) _ (eq-eqb _ (length values) (length-map values (own_face p m).attr))
        (rows_of_lengths m (λ u. items_between g.sorts parts p u v) earlier))

    -- A node on which all is made serves each of its visits.
    pub node_serves : (n : ℕ) → slice_get g.prods n ≡ Some p → IsSound g.sorts parts p → IsTrue (are_of_kinds g.prods kids p.kids) → AllMade visit p kids m
        → Serves (one_visit g parts visit) (own_face p m) p.left (node n kids)
    node_serves n there sound kinds made v first last =
        let c = asked g parts (own_face p m) p.left (node n kids) v in
        let start : Walked = record { height = 0; held = held_at_start g parts p c } in
        let seg = segment g.sorts parts p v in
        let walks = walk_follows g.sorts parts p (step g parts visit p kids) (step_reads g parts visit p kids) seg start (handed_in g.sorts parts p v) m
        (start_agrees n v) (sound.runs.ready v first last) (λ x d. made x (v, first, last, d)) in
        record {
          result = result_of g parts p v walks.walked;
          is_result =
              ap (option_and_then (λ q. visit_of_node g parts visit q kids c)) there
              ∙ ap (λ k. cond k (option_map (result_of g parts p v) (walk (makes g.sorts parts p) (step g parts visit p kids) seg start)) None)
              (and_from (is_call g parts p c) (are_of_kinds g.prods kids p.kids) (own_call n v first last) kinds)
              ∙ ap (option_map (result_of g parts p v)) walks.is_walked;
          answers = end_answers n v walks.walked
              (agree_part (values_of_visit g.sorts parts false p.left 0 v) (handed_in g.sorts parts p v ++ flat_map (makes g.sorts parts p) seg) walks.walked.held m (sound.gives v first last) walks.agrees)
              (λ u. agree_part (items_between g.sorts parts p v u) (handed_in g.sorts parts p v ++ flat_map (makes g.sorts parts p) seg) walks.walked.held m (sound.runs.hands_on v u first last) walks.agrees);
        }

-- the same attributes of a sort, and the same bindings
pub record AreAlike (n : ℕ) (e f : Face) : Type 0 where
  pub attr : (x : ℕ) → x < n → e.attr x ≡ f.attr x
  pub bound : (u w : ℕ) → e.bound u w ≡ f.bound u w

module _ (g : Grammar) (parts : List Partition) (s : ℕ) where
  -- the attributes of a visit are those of the sort
  pub within_sort : (inherited : Bool) (v x : ℕ) → Contains (attrs_of_visit g.sorts parts inherited s v) x → x < length (attrs_of_sort g.sorts s)
  within_sort inherited v x c =
      let there = member_of_filter (λ y. is_of (attrs_of_sort g.sorts s) inherited y && (visit_of parts s y == v)) (range_with_len 0 (length (attrs_of_sort g.sorts s))) x c in
      let within = (member_of_range 0 (length (attrs_of_sort g.sorts s)) x there.0).1 in
      omega (arith, within)

  module _ (e f : Face) (alike : AreAlike (length (attrs_of_sort g.sorts s)) e f) where
    same_attrs : (inherited : Bool) (v : ℕ) → map e.attr (attrs_of_visit g.sorts parts inherited s v) ≡ map f.attr (attrs_of_visit g.sorts parts inherited s v)
    same_attrs inherited v =
        map_agree e.attr f.attr (attrs_of_visit g.sorts parts inherited s v) (λ x c. alike.attr x (within_sort inherited v x c))

    pub same_asked : (t : Tree) (v : ℕ) → asked g parts e s t v ≡ asked g parts f s t v
    same_asked t v =
        ap (λ vs. record { tree = t; visit = v; inherited = vs; bindings = map (λ u. e.bound u v) (range_with_len 1 (v - 1)) }) (same_attrs true v)
        ∙ ap (λ bs. record { tree = t; visit = v; inherited = map f.attr (attrs_of_visit g.sorts parts true s v); bindings = bs })
        (map_agree (λ u. e.bound u v) (λ u. f.bound u v) (range_with_len 1 (v - 1)) (λ u c. alike.bound u v))

    pub serves_alike : (visit : Call → Option Result) (t : Tree) → Serves g parts visit e s t → Serves g parts visit f s t
    serves_alike visit t serves v first last =
        let one = serves v first last in
        record {
          result = one.result;
          is_result = ap visit (sym (same_asked t v)) ∙ one.is_result;
          answers = record {
            synthesised = one.answers.synthesised ∙ same_attrs false v;
            bindings = one.answers.bindings
                ∙ map_agree (λ w. e.bound v w) (λ w. f.bound v w) (range_with_len (v + 1) (visits_of parts s - v)) (λ w c. alike.bound v w);
          };
        }

module _ (g : Grammar) (parts : List Partition) (visit : Call → Option Result) (p : Production) (kids : Trees) (m : Held) (s v : ℕ) where
  abbrev place : Place
  place = symbol_at g.sorts p s

  -- the call of a symbol's visit is what its face asks
  pub call_asks : call_of g parts p kids m s v ≡ asked g parts (symbol_face g parts p m s) place.sort (tree_at g p kids m s) v
  call_asks =
      ap (λ vs. record { tree = tree_at g p kids m s; visit = v; inherited = vs; bindings = map (λ u. binding_in (m (b.Kid s u v))) (range_with_len 1 (v - 1)) })
      (map-map (λ x. value_in (m x)) (λ x. b.Value (place.start + x)) (attrs_of_visit g.sorts parts true place.sort v))

  module _ (proper : IsProper m) where
    -- what a symbol's visit makes is there where its tree serves it
    pub visit_made : IsTrue (is_of_kind g.prods (tree_at g p kids m s) (k.Sort place.sort))
        → ServesOne g parts visit (symbol_face g parts p m s) place.sort (tree_at g p kids m s) v → IsMade g.sorts parts p (step g parts visit p kids) m (a.Visit s v)
    visit_made kind one = record {
      given = given_by one.result;
      is_given =
          ap (λ c. cond c (option_map given_by (visit (call_of g parts p kids m s v))) None) kind
          ∙ ap (λ c. option_map given_by (visit c)) call_asks
          ∙ ap (option_map given_by) one.is_result;
      made =
          ap (λ vs. map value vs ++ map binding one.result.bindings) one.answers.synthesised
          ∙ ap (λ bs. map value (map (symbol_face g parts p m s).attr (attrs_of_visit g.sorts parts false place.sort v)) ++ map binding bs) one.answers.bindings
          ∙ ap (λ ds. ds ++ map binding (map (λ w. binding_in (m (b.Kid s v w))) (range_with_len (v + 1) (visits_of parts place.sort - v))))
          (values_held g parts visit p kids m proper place.start (attrs_of_visit g.sorts parts false place.sort v))
          ∙ ap (λ ds. map m (values_of_visit g.sorts parts false place.sort place.start v) ++ ds)
          (map-map binding (λ w. binding_in (m (b.Kid s v w))) (range_with_len (v + 1) (visits_of parts place.sort - v))
          ∙ map_agree (λ w. binding (binding_in (m (b.Kid s v w)))) (λ w. m (b.Kid s v w)) (range_with_len (v + 1) (visits_of parts place.sort - v)) (λ w c. sym (proper.bindings s v w))
          ∙ sym (map-map m (λ w. b.Kid s v w) (range_with_len (v + 1) (visits_of parts place.sort - v))))
          ∙ sym (map-append m (values_of_visit g.sorts parts false place.sort place.start v) (map (λ w. b.Kid s v w) (range_with_len (v + 1) (visits_of parts place.sort - v))));
    }
