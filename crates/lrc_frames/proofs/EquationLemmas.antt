-- The equation of an occurrence: it is found by its number, it fits the node, and all that it reads is shown.
use Rattle.std.proofs.Common.{◌≡◌, ℕ, suc, ◌+◌, ◌<◌, ◌≤◌, Bool, true, false, ◌&&◌, cond, IsTrue, List, [], ◌∷◌, length, Contains, Option, Some, None, IsSome, slice_get, get_or, refl, sym, ap, ◌∙◌, subst, arith}
use Rattle.std.specs.Prelude.{find, ◌==◌}
use Rattle.std.specs.Option.{option_map_or, option_and_then}
use Rattle.std.specs.List.{position_from}
use Rattle.std.proofs.lemmas.Bool.{and_parts, false≢true}
use Rattle.std.proofs.lemmas.Option.{none-some, same_Some, slice_get-get_or, slice_get_within, get_or_from_slice_get}
use Rattle.std.proofs.lemmas.List.FromFn.{get_or-map-range_with_len, length-map-range_with_len}
use Rattle.std.proofs.lemmas.List.Elements.{All-contains}
use Rattle.lrc_base.specs.declared.expr.Op.{Op}
use Rattle.lrc_base.specs.declared.expr.Op.TheVariants as o
use Rattle.lrc_base.specs.declared.grammar.Kind.{Kind}
use Rattle.lrc_base.specs.declared.grammar.Kind.TheVariants as k
use Rattle.lrc_base.specs.declared.grammar.Kid.{Kid}
use Rattle.lrc_base.specs.declared.grammar.Sort.{Sort}
use Rattle.lrc_base.specs.declared.grammar.Equation.{Equation}
use Rattle.lrc_base.specs.declared.grammar.Production.{Production}
use Rattle.lrc_meaning.specs.Tree.{Trees, none, more, same_kind, in_order}
use Rattle.lrc_meaning.specs.Expression.{Expression, literal, occurrence, leaf, binary, choice, make, Expressions, no_more, and_more, expression}
use Rattle.lrc_meaning.specs.Grammar.{Grammar, Occurrence, occurrences_of, common_kind, of_kind, operated_kind, leaf_kind, expression_kind, have_kinds, is_equation_right, is_well_formed}
use Rattle.lrc_meaning.specs.Limits.{IsWithinLimits}
use Rattle.lrc_meaning.specs.Signature as signature
use Rattle.lrc_meaning.specs.Signature.{signed_occurrences}
use Rattle.lrc_meaning.proofs.ListLemmas.{list_all-at}
use Rattle.lrc_meaning.proofs.SignatureLemmas.{signed_count}
use Rattle.lrc_order_meaning.specs.declared.Partition.{Partition}
use Rattle.lrc_plan_meaning.specs.declared.Action.TheVariants as a
use Rattle.lrc_plan_meaning.specs.declared.Bound.TheVariants as b
use Rattle.lrc_plan_meaning.specs.Items.{needs}
use Rattle.lrc_visit_meaning.specs.Values.{value_in}
use Rattle.lrc_visit_meaning.specs.Visits.{is_of_kind, are_of_kinds, equation_of, values_in}
use Rattle.lrc_laws.proofs.FuelLemmas.{mapped, bound_by, where_true}
use Rattle.lrc_laws.proofs.FormedLemmas.{production_right}
use Rattle.lrc_laws.proofs.ReadLemmas.{found_there, read_needed}
use Rattle.lrc_store.specs.Standing.{Standing}
use Rattle.lrc_eval.specs.declared.values.Val.{Val}
use Rattle.lrc_eval.specs.Evaluating.{Inputs, FitsNode, EachFitsNode, AreGiven}
use Rattle.lrc_functions.specs.declared.function.Operation.TheVariants as op
use Rattle.lrc_functions.specs.Functions.{operation_of}
use Rattle.lrc_frames.specs.declared.body.Body.{Body}
use Rattle.lrc_frames.specs.Frames.{Run}
use Rattle.lrc_frames.specs.Writing.{CanEvaluate}
use Rattle.lrc_frames.proofs.ItemLemmas.{occurrence_below}

-- ---- an equation by its number

-- the item at the place that was found is what is found
record FoundAt {X : Type 0} (test : X → Bool) (xs : List X) (from n : ℕ) : Type 0 where
  passed : ℕ
  place : n ≡ from + passed
  item : X
  at : slice_get xs passed ≡ Some item
  found : find test xs ≡ Some item

module _ {X : Type 0} (test : X → Bool) where
  found-over : (x : X) (xs : List X) (from n : ℕ) (c : Bool) → test x ≡ c → cond c (Some from) (position_from test (from + 1) xs) ≡ Some n
      → (position_from test (from + 1) xs ≡ Some n → FoundAt test xs (from + 1) n) → FoundAt test (x ∷ xs) from n
  found-over x xs from n true is e rest =
      let here : from ≡ n = same_Some from n e in
      record { passed = 0; place = omega arith; item = x; at = refl; found = ap (λ c. cond c (Some x) (find test xs)) is }
  found-over x xs from n false is e rest =
      let later = rest e in
      record { passed = suc later.passed; place = (let place = later.place in omega arith); item = later.item; at = later.at; found = ap (λ c. cond c (Some x) (find test xs)) is ∙ later.found }

  found-at : (xs : List X) (from n : ℕ) → position_from test from xs ≡ Some n → FoundAt test xs from n
  found-at [] from n e = absurd (none-some n e)
  found-at (x ∷ xs) from n e = found-over x xs from n (test x) refl e (found-at xs (from + 1) n)

  nowhere-over : (x : X) (xs : List X) (from : ℕ) (c : Bool) → cond c (Some from) (position_from test (from + 1) xs) ≡ None → (position_from test (from + 1) xs ≡ None → find test xs ≡ None)
      → cond c (Some x) (find test xs) ≡ None
  nowhere-over x xs from true e rest = absurd (none-some from (sym e))
  nowhere-over x xs from false e rest = rest e

  nowhere : (xs : List X) (from : ℕ) → position_from test from xs ≡ None → find test xs ≡ None
  nowhere [] from e = refl
  nowhere (x ∷ xs) from e = nowhere-over x xs from (test x) e (nowhere xs (from + 1))

same-equation : (x : ℕ) (m n : Option ℕ) → op.Eval x m ≡ op.Eval x n → m ≡ n
same-equation x m n e = cc

module _ (sorts : List Sort) (parts : List Partition) (p : Production) (x : ℕ) (equation : Option ℕ) (less : x < length (occurrences_of sorts p)) (operation : operation_of sorts parts p (a.Eval x) ≡ op.Eval x equation) where
  equation-number : signature.equation_of p.equations x ≡ equation
  equation-number =
      let count = signed_count sorts p in
      let at = get_or-map-range_with_len (signature.equation_of p.equations) 0 (length (signed_occurrences sorts p.left p.kids p.extras)) x x None (omega (arith, count, less)) (omega arith) in
      sym at ∙ same-equation x _ equation operation

  -- the equation of this number defines the occurrence
  pub equation-found : (n : ℕ) → equation ≡ Some n → (e : Equation) × (slice_get p.equations n ≡ Some e) × (equation_of p x ≡ Some e)
  equation-found n is =
      let found = found-at (λ (e : Equation). e.target == x) p.equations 0 n (equation-number ∙ is) in
      let place : n ≡ found.passed = (let place = found.place in omega arith) in
      (found.item, ap (slice_get p.equations) place ∙ found.at, found.found)

  -- where it has no number there is none
  pub no-equation : equation ≡ None → equation_of p x ≡ None
  no-equation is = nowhere (λ (e : Equation). e.target == x) p.equations 0 (equation-number ∙ is)

-- ---- it fits the node

kind-there : (f : Kind → Bool) (kind : Option Kind) → option_map_or f kind false ≡ true → (x : Kind) × (kind ≡ Some x)
kind-there f None h = absurd (false≢true h)
kind-there f (Some x) h = (x, refl)

-- both kinds are there
abbrev BothThere : Option Kind → Option Kind → Type 0
BothThere x y = ((c : Kind) × (x ≡ Some c)) × ((d : Kind) × (y ≡ Some d))

common-there : (x y : Option Kind) (kind : Kind) → common_kind x y ≡ Some kind → BothThere x y
common-there x y kind e =
    let one = bound_by (λ c. option_and_then (λ d. cond (same_kind c d) (Some c) None) y) x kind e in
    let other = bound_by (λ d. cond (same_kind one.0 d) (Some one.0) None) y kind one.2 in
    ((one.0, one.1), (other.0, other.1))

needed-there : (needed gives kind : Kind) (x y : Option Kind) → of_kind needed gives (common_kind x y) ≡ Some kind → BothThere x y
needed-there needed gives kind x y e =
    let found = bound_by (λ c. cond (same_kind c needed) (Some gives) None) (common_kind x y) kind e in common-there x y found.0 found.1

operands-there : (f : Op) (x y : Option Kind) (kind : Kind) → operated_kind f x y ≡ Some kind → BothThere x y
operands-there o.Add x y kind e = needed-there k.Int k.Int kind x y e
operands-there o.Sub x y kind e = needed-there k.Int k.Int kind x y e
operands-there o.Mul x y kind e = needed-there k.Int k.Int kind x y e
operands-there o.Equal x y kind e = let found = mapped (λ c. k.Bool) (common_kind x y) kind e in common-there x y found.0 found.1
operands-there o.Less x y kind e = needed-there k.Int k.Bool kind x y e

leaf-there : (kind : Option Kind) (x : Kind) → kind ≡ Some x → IsSome kind
leaf-there kind x e = subst IsSome (sym e) refl

module _ (prods : List Production) (occurrences : List Occurrence) (kids : List Kid) (few : length prods ≤ 65280) where
  mutual
    -- an expression that has a kind reads leaves that are there, and makes nodes of productions that are
    pub kind-fits : (e : Expression) (kind : Kind) → expression_kind prods occurrences kids e ≡ Some kind → FitsNode kids e
    kind-fits (literal t) kind h = tt
    kind-fits (occurrence i) kind h = tt
    kind-fits (leaf i) kind h = leaf-there (leaf_kind kids i) kind h
    kind-fits (binary f x y) kind h =
        let both = operands-there f (expression_kind prods occurrences kids x) (expression_kind prods occurrences kids y) kind h in
        (kind-fits x both.0.0 both.0.1, kind-fits y both.1.0 both.1.1)
    kind-fits (choice c x y) kind h =
        let shared = common_kind (expression_kind prods occurrences kids x) (expression_kind prods occurrences kids y) in
        let condition = bound_by (λ w. cond (same_kind w k.Bool) shared None) (expression_kind prods occurrences kids c) kind h in
        let inside = where_true (same_kind condition.0 k.Bool) shared kind condition.2 in
        let both = common-there (expression_kind prods occurrences kids x) (expression_kind prods occurrences kids y) kind inside.1 in
        (kind-fits c condition.0 condition.1, kind-fits x both.0.0 both.0.1, kind-fits y both.1.0 both.1.1)
    kind-fits (make p args) kind h =
        let found = bound_by (λ (q : Production). cond (have_kinds prods occurrences kids args q.kids) (Some (k.Sort q.left)) None) (slice_get prods p) kind h in
        let within = slice_get_within prods p found.0 found.1 in
        let inside = where_true (have_kinds prods occurrences kids args found.0.kids) (Some (k.Sort found.0.left)) kind found.2 in
        (omega (arith, within, few), kinds-fit args found.0.kids inside.0)

    kinds-fit : (es : Expressions) (declared : List Kid) → have_kinds prods occurrences kids es declared ≡ true → EachFitsNode kids es
    kinds-fit no_more declared h = tt
    kinds-fit (and_more e es) [] h = absurd (false≢true h)
    kinds-fit (and_more e es) (kid ∷ rest) h =
        let both = and_parts _ _ h in
        let found = kind-there (λ x. same_kind x kid.kind) (expression_kind prods occurrences kids e) both.0 in
        (kind-fits e found.0 found.1, kinds-fit es rest both.1)

target-kind : (e : Equation) (kind : Option Kind) (target : Option Occurrence)
    → option_map_or (λ (t : Occurrence). t.is_defined && option_map_or (same_kind t.kind) kind false) target false ≡ true → (x : Kind) × (kind ≡ Some x)
target-kind e kind None h = absurd (false≢true h)
target-kind e kind (Some t) h = kind-there (same_kind t.kind) kind (and_parts _ _ h).1

-- an equation of a well-formed grammar fits its node
equation-fits : (g : Grammar) → IsTrue (is_well_formed g) → length g.prods ≤ 65280 → (i : ℕ) (p : Production) → slice_get g.prods i ≡ Some p → (n : ℕ) (e : Equation) → slice_get p.equations n ≡ Some e
    → FitsNode p.kids (expression e.expr)
equation-fits g formed few i p there n e at =
    let all = (and_parts _ _ (and_parts _ _ (and_parts _ _ (production_right g formed i p there)).0).0).1 in
    let right : is_equation_right g.sorts g.prods p e ≡ true = list_all-at (is_equation_right g.sorts g.prods p) p.equations n e all at in
    let kind = target-kind e (expression_kind g.prods (occurrences_of g.sorts p) p.kids (expression e.expr)) (slice_get (occurrences_of g.sorts p) e.target) right in
    kind-fits g.prods (occurrences_of g.sorts p) p.kids few (expression e.expr) kind.0 kind.1

-- ---- what it reads is shown

-- the children of a node are as many as are declared
pub kinds-count : (prods : List Production) (ts : Trees) (kids : List Kid) → IsTrue (are_of_kinds prods ts kids) → length (in_order ts) ≡ length kids
kinds-count prods none [] h = refl
kinds-count prods none (kid ∷ kids) h = absurd (false≢true h)
kinds-count prods (more t ts) [] h = absurd (false≢true h)
kinds-count prods (more t ts) (kid ∷ kids) h = let rest : length (in_order ts) ≡ length kids = kinds-count prods ts kids (and_parts (is_of_kind prods t kid.kind) (are_of_kinds prods ts kids) h).1 in omega arith

-- ---- what is read off lists

module _ {X : Type 0} (xs read : List X) (i : ℕ) (x : X) (there : slice_get xs i ≡ Some x) (same : read ≡ xs) where
  read-within : i < length read
  read-within = let within = slice_get_within xs i x there in let size = ap length same in omega (arith, within, size)

  read-is : (y : X) → y ≡ get_or read i y → y ≡ x
  read-is y e = e ∙ ap (λ (ys : List X). get_or ys i y) same ∙ get_or_from_slice_get xs i x y there

-- what an equation of the body is evaluated over
abbrev pub inputs : Grammar → Body → Run → Inputs
inputs g body r = record { values = values_in g r.production r.held; production = body.production; trees = r.kids; kids = r.production.kids }

-- the equation defines the occurrence, and what it reads is given
pub record IsEquation (g : Grammar) (s : Standing) (frame : List Val) (body : Body) (x : ℕ) (r : Run) (e : Equation) : Type 0 where
  pub found : equation_of r.production x ≡ Some e
  pub given : AreGiven s frame body.tree (inputs g body r) (expression e.expr)

module _ (g : Grammar) (parts : List Partition) (formed : IsTrue (is_well_formed g)) (few : IsWithinLimits g) where
  fits-tags : length g.prods ≤ 65280
  fits-tags = let most = few.prods in omega (arith, most)

  given : (s : Standing) (frame : List Val) (body : Body) (x : ℕ) (equation : Option ℕ) (r : Run) → CanEvaluate g parts s frame body x equation r
      → (n : ℕ) (e : Equation) → slice_get r.production.equations n ≡ Some e → equation_of r.production x ≡ Some e → AreGiven s frame body.tree (inputs g body r) (expression e.expr)
  given s frame body x equation r can n e at found = record {
    node = record { stands = can.runs.tree; spelled = can.runs.spelled; count = kinds-count g.prods r.kids r.production.kids can.runs.kinds };
    set = λ i c.
        let there = found_there (λ (y : Equation). y.target == x) r.production.equations e found in
        let needed = read_needed r.production.equations e x i there.0 there.1 c in
        let available = All-contains (Contains r.available) (needs g.sorts parts r.production (a.Eval x)) (b.Value i) can.needed needed in
        let shown = can.runs.holds (b.Value i) available in
        let less = occurrence_below g.sorts parts r.production i (can.runs.listed (b.Value i) available) in
        let total = length (occurrences_of g.sorts r.production) in
        let value_at = λ (y : ℕ). value_in (r.held (b.Value y)) in
        let size = length-map-range_with_len value_at 0 total in
        let inside : i < length (values_in g r.production r.held) = omega (arith, size, less) in
        record {
          value = shown.value;
          tree = value_at i;
          is_there = shown.there;
          of_tree = slice_get-get_or (values_in g r.production r.held) i (value_at i) inside ∙ ap Some (get_or-map-range_with_len value_at 0 total i i (value_at i) less (omega arith));
          meant = shown.shows;
        };
    fits = equation-fits g formed fits-tags body.production r.production can.runs.there n e at;
  }

  module _ (s : Standing) (frame : List Val) (body : Body) (x : ℕ) (equation : Option ℕ) (r : Run) (can : CanEvaluate g parts s frame body x equation r) where
    pub production-within : (prods : List Production) → prods ≡ g.prods → body.production < length prods
    production-within prods same = read-within g.prods prods body.production r.production can.runs.there same

    -- the equation of this number, as it is read off the grammar
    module _ (n : ℕ) (is : equation ≡ Some n) (prods : List Production) (q : Production) (equations : List Equation) (same : prods ≡ g.prods) (q-is : q ≡ get_or prods body.production q) (same-equations : equations ≡ q.equations) where
      there : (e : Equation) × (slice_get r.production.equations n ≡ Some e) × (equation_of r.production x ≡ Some e)
      there = equation-found g.sorts parts r.production x equation can.occurrence can.operation n is

      read-same : equations ≡ r.production.equations
      read-same = same-equations ∙ ap (λ (p : Production). p.equations) (read-is g.prods prods body.production r.production can.runs.there same q q-is)

      pub equation-within : n < length equations
      equation-within = read-within r.production.equations equations n there.0 there.1 read-same

      module _ (e : Equation) (e-is : e ≡ get_or equations n e) where
        own : there.0 ≡ e
        own = sym (read-is r.production.equations equations n there.0 there.1 read-same e e-is)

        pub equation-there : IsEquation g s frame body x r e
        equation-there =
            let found : equation_of r.production x ≡ Some e = there.2 ∙ ap Some own in
            record { found = found; given = given s frame body x equation r can n e (there.1 ∙ ap Some own) found }
