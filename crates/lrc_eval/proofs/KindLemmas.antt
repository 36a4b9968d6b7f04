-- An expression of a kind, over values and children of theirs, has a value, and it is of the kind.
use Rattle.std.proofs.Common.{◌≡◌, ℕ, zero, suc, ◌≤◌, ℤ, Bool, true, false, List, [], ◌∷◌, ◌++◌, length, refl, sym, ◌∙◌, ap, subst, arith, Option, Some, None, Contains, IsSome, IsTrue, cond}
use Rattle.std.specs.Prelude.{slice_get, option_map, option_and_then, Result, Ok, Err, IsErr}
use Rattle.std.specs.Option.{option_map_or}
use Rattle.std.proofs.lemmas.Bool.{false≢true, and_parts}
use Rattle.std.proofs.lemmas.Option.{none-some, same_Some, slice_get_within}
use Rattle.std.proofs.lemmas.List.Elements.{Contains-append_left, Contains-append_right}
use Rattle.lrc_base.specs.declared.grammar.Kind.{Kind}
use Rattle.lrc_base.specs.declared.grammar.Kind.TheVariants as k
use Rattle.lrc_base.specs.declared.grammar.Kid.{Kid}
use Rattle.lrc_base.specs.declared.grammar.Production.{Production}
use Rattle.lrc_base.specs.declared.expr.Op.{Op}
use Rattle.lrc_base.specs.declared.expr.Op.TheVariants as o
use Rattle.lrc_meaning.specs.Tree.{Tree, Trees, int, bool, name, node, none, more, same_kind, is_sort, kind_of}
use Rattle.lrc_meaning.specs.Expression.{Expression, literal, occurrence, leaf, binary, choice, make, Expressions, no_more, and_more, bool_in, operated, chosen, value_of, values_of}
use Rattle.lrc_meaning.specs.Grammar.{Occurrence, read_kind, leaf_kind, of_kind, common_kind, operated_kind, expression_kind, have_kinds}
use Rattle.lrc_meaning.proofs.KindLemmas.{one_kind}
use Rattle.lrc_order_meaning.specs.Needs.{reads, reads_of_each}
use Rattle.lrc_visit_meaning.specs.Visits.{leaf_in, is_of_kind, are_of_kinds}
use Rattle.lrc_store.specs.Standing.{Standing}
use Rattle.lrc_store.specs.declared.cells.Handle.{Handle}
use Rattle.lrc_store.specs.declared.stores.Full.{Full}
use Rattle.lrc_eval.specs.declared.values.Val.{Val}
use Rattle.lrc_eval.specs.Evaluating.{Inputs, leaves, FitsNode, EachFitsNode, AreGiven, Evaluates}
use Rattle.lrc_eval.specs.Kinds.{HasKind, AreOfKinds, AreGivenOfKinds, EvaluatesTo}

-- ---- trees of a kind

sort-no-int : (o : Option Production) → option_map (λ (q : Production). k.Sort q.left) o ≡ Some k.Int → ⊥
sort-no-int None e = absurd (none-some k.Int e)
sort-no-int (Some q) e = false≢true (ap is_sort (sym (same_Some (k.Sort q.left) k.Int e)))

sort-no-bool : (o : Option Production) → option_map (λ (q : Production). k.Sort q.left) o ≡ Some k.Bool → ⊥
sort-no-bool None e = absurd (none-some k.Bool e)
sort-no-bool (Some q) e = false≢true (ap is_sort (sym (same_Some (k.Sort q.left) k.Bool e)))

abbrev is_int_kind : Kind → Bool
is_int_kind k.Int = true
is_int_kind k.Bool = false
is_int_kind k.Name = false
is_int_kind (k.Sort s) = false

abbrev is_bool_kind : Kind → Bool
is_bool_kind k.Int = false
is_bool_kind k.Bool = true
is_bool_kind k.Name = false
is_bool_kind (k.Sort s) = false

int-tree : (prods : List Production) (t : Tree) → kind_of prods t ≡ Some k.Int → (i : ℤ) × (t ≡ int i)
int-tree prods (int i) e = (i, refl)
int-tree prods (bool b) e = absurd (false≢true (ap is_int_kind (same_Some k.Bool k.Int e)))
int-tree prods (name n) e = absurd (false≢true (ap is_int_kind (same_Some k.Name k.Int e)))
int-tree prods (node p kids) e = absurd (sort-no-int (slice_get prods p) e)

bool-tree : (prods : List Production) (t : Tree) → kind_of prods t ≡ Some k.Bool → (b : Bool) × (t ≡ bool b)
bool-tree prods (int i) e = absurd (false≢true (ap is_bool_kind (same_Some k.Int k.Bool e)))
bool-tree prods (bool b) e = (b, refl)
bool-tree prods (name n) e = absurd (false≢true (ap is_bool_kind (same_Some k.Name k.Bool e)))
bool-tree prods (node p kids) e = absurd (sort-no-bool (slice_get prods p) e)

-- ---- kinds that an operator and a choice ask

common-kinds : (a b : Option Kind) (kind : Kind) → common_kind a b ≡ Some kind → (a ≡ Some kind) × (b ≡ Some kind)
common-kinds None b kind e = absurd (none-some kind e)
common-kinds (Some x) None kind e = absurd (none-some kind e)
common-kinds (Some x) (Some y) kind e = over (same_kind x y) refl e where
  over : (t : Bool) → same_kind x y ≡ t → cond t (Some x) None ≡ Some kind → (Some x ≡ Some kind) × (Some y ≡ Some kind)
  over true f h = (h, ap (λ (z : Kind). Some z) (sym (one_kind x y f)) ∙ h)
  over false f h = absurd (none-some kind h)

number-kinds : (gives : Kind) (a b : Option Kind) (kind : Kind) → of_kind k.Int gives (common_kind a b) ≡ Some kind → (a ≡ Some k.Int) × (b ≡ Some k.Int) × (gives ≡ kind)
number-kinds gives a b kind e = over (common_kind a b) refl e where
  at : (x : Kind) → common_kind a b ≡ Some x → (t : Bool) → same_kind x k.Int ≡ t → cond t (Some gives) None ≡ Some kind → (a ≡ Some k.Int) × (b ≡ Some k.Int) × (gives ≡ kind)
  at x f true g h =
      let int_kind = ap (λ (z : Kind). Some z) (one_kind x k.Int g) in
      let both = common-kinds a b x f in
      (both.0 ∙ int_kind, both.1 ∙ int_kind, same_Some gives kind h)
  at x f false g h = absurd (none-some kind h)

  over : (c : Option Kind) → common_kind a b ≡ c → of_kind k.Int gives c ≡ Some kind → (a ≡ Some k.Int) × (b ≡ Some k.Int) × (gives ≡ kind)
  over None f h = absurd (none-some kind h)
  over (Some x) f h = at x f (same_kind x k.Int) refl h

equal-kinds : (a b : Option Kind) (kind : Kind) → operated_kind o.Equal a b ≡ Some kind → (x : Kind) × (a ≡ Some x) × (b ≡ Some x) × (k.Bool ≡ kind)
equal-kinds a b kind e = over (common_kind a b) refl e where
  over : (c : Option Kind) → common_kind a b ≡ c → option_map (λ (z : Kind). k.Bool) c ≡ Some kind → (x : Kind) × (a ≡ Some x) × (b ≡ Some x) × (k.Bool ≡ kind)
  over None f h = absurd (none-some kind h)
  over (Some x) f h = let both = common-kinds a b x f in (x, both.0, both.1, same_Some k.Bool kind h)

-- the operands have kinds
operand-kinds : (op : Op) (a b : Option Kind) (kind : Kind) → operated_kind op a b ≡ Some kind → (x : Kind) × (a ≡ Some x) × (b ≡ Some x)
operand-kinds o.Add a b kind e = let both = number-kinds k.Int a b kind e in (k.Int, both.0, both.1)
operand-kinds o.Sub a b kind e = let both = number-kinds k.Int a b kind e in (k.Int, both.0, both.1)
operand-kinds o.Mul a b kind e = let both = number-kinds k.Int a b kind e in (k.Int, both.0, both.1)
operand-kinds o.Equal a b kind e = let both = equal-kinds a b kind e in (both.0, both.1, both.2)
operand-kinds o.Less a b kind e = let both = number-kinds k.Bool a b kind e in (k.Int, both.0, both.1)

choice-kinds : (c a b : Option Kind) (kind : Kind) → option_and_then (λ x. cond (same_kind x k.Bool) (common_kind a b) None) c ≡ Some kind → (c ≡ Some k.Bool) × (a ≡ Some kind) × (b ≡ Some kind)
choice-kinds None a b kind e = absurd (none-some kind e)
choice-kinds (Some x) a b kind e = over (same_kind x k.Bool) refl e where
  over : (t : Bool) → same_kind x k.Bool ≡ t → cond t (common_kind a b) None ≡ Some kind → (Some x ≡ Some k.Bool) × (a ≡ Some kind) × (b ≡ Some kind)
  over true f h = let both = common-kinds a b kind h in (ap (λ (z : Kind). Some z) (one_kind x k.Bool f), both.0, both.1)
  over false f h = absurd (none-some kind h)

-- a production whose children are of the arguments' kinds
record Made (prods : List Production) (p : ℕ) (kind : Kind) (test : List Kid → Bool) : Type 0 where
  production : Production
  is_there : slice_get prods p ≡ Some production
  children : test production.kids ≡ true
  left : k.Sort production.left ≡ kind

make-kinds : (prods : List Production) (p : ℕ) (kind : Kind) (test : List Kid → Bool) → option_and_then (λ (q : Production). cond (test q.kids) (Some (k.Sort q.left)) None) (slice_get prods p) ≡ Some kind → Made prods p kind test
make-kinds prods p kind test e = over (slice_get prods p) refl e where
  at : (q : Production) → slice_get prods p ≡ Some q → (b : Bool) → test q.kids ≡ b → cond b (Some (k.Sort q.left)) None ≡ Some kind → Made prods p kind test
  at q f true g h = record { production = q; is_there = f; children = g; left = same_Some (k.Sort q.left) kind h }
  at q f false g h = absurd (none-some kind h)

  over : (found : Option Production) → slice_get prods p ≡ found → option_and_then (λ (q : Production). cond (test q.kids) (Some (k.Sort q.left)) None) found ≡ Some kind → Made prods p kind test
  over None f h = absurd (none-some kind h)
  over (Some q) f h = at q f (test q.kids) refl h

-- the kind of the first argument, which its child has
argument-kind : (found : Option Kind) (wanted : Kind) → option_map_or (λ x. same_kind x wanted) found false ≡ true → found ≡ Some wanted
argument-kind None wanted e = absurd (false≢true e)
argument-kind (Some x) wanted e = ap (λ (z : Kind). Some z) (one_kind x wanted e)

-- ---- children of their kinds

child-kind : (prods : List Production) (t : Tree) (kind : Kind) → is_of_kind prods t kind ≡ true → kind_of prods t ≡ Some kind
child-kind prods t kind e = argument-kind (kind_of prods t) kind e

leaf-at : (prods : List Production) (kid : Kid) (t : Tree) (kind : Kind) → is_of_kind prods t kid.kind ≡ true → cond (is_sort kid.kind) None (Some kid.kind) ≡ Some kind → HasKind prods (cond (is_sort kid.kind) None (Some t)) kind
leaf-at prods kid t kind f e = over (is_sort kid.kind) e where
  over : (b : Bool) → cond b None (Some kid.kind) ≡ Some kind → HasKind prods (cond b None (Some t)) kind
  over true h = absurd (none-some kind h)
  over false h = (t, refl, child-kind prods t kid.kind f ∙ h)

leaf-kind-there : (prods : List Production) (ts : Trees) (kids : List Kid) (i : ℕ) (kind : Kind) → are_of_kinds prods ts kids ≡ true → leaf_kind kids i ≡ Some kind → HasKind prods (leaf_in kids ts i) kind
leaf-kind-there prods none [] i kind f e = absurd (none-some kind e)
leaf-kind-there prods none (kid ∷ kids) i kind f e = absurd (false≢true f)
leaf-kind-there prods (more t ts) [] i kind f e = absurd (none-some kind e)
leaf-kind-there prods (more t ts) (kid ∷ kids) zero kind f e = leaf-at prods kid t kind (and_parts (is_of_kind prods t kid.kind) (are_of_kinds prods ts kids) f).0 e
leaf-kind-there prods (more t ts) (kid ∷ kids) (suc i) kind f e = leaf-kind-there prods ts kids i kind (and_parts (is_of_kind prods t kid.kind) (are_of_kinds prods ts kids) f).1 e

-- ---- values

module _ (prods : List Production) (occurrences : List Occurrence) (x : Inputs) (children : IsTrue (are_of_kinds prods x.trees x.kids)) where
  abbrev kind_in : Expression → Option Kind
  kind_in e = expression_kind prods occurrences x.kids e

  abbrev value_in : Expression → Option Tree
  value_in e = value_of x.values (leaves x) e

  abbrev values_in : Expressions → Option Trees
  values_in es = values_of x.values (leaves x) es

  abbrev AreRead : List ℕ → Type 0
  AreRead read = (i : ℕ) (own : Kind) → Contains read i → read_kind occurrences i ≡ Some own → HasKind prods (slice_get x.values i) own

  read-left : (xs ys : List ℕ) → AreRead (xs ++ ys) → AreRead xs
  read-left xs ys h i own held = h i own (Contains-append_left xs ys i held)

  read-right : (xs ys : List ℕ) → AreRead (xs ++ ys) → AreRead ys
  read-right xs ys h i own held = h i own (Contains-append_right xs ys i held)

  -- what an operator gives of two values
  operated-is : (op : Op) (a b : Expression) (p q : Tree) → value_in a ≡ Some p → value_in b ≡ Some q → value_in (binary op a b) ≡ operated op p q
  operated-is op a b p q e f = ap (option_and_then (λ u. option_and_then (operated op u) (value_in b))) e ∙ ap (option_and_then (operated op p)) f

  of-numbers : (op : Op) (a b : Expression) (gives kind : Kind) (f : ℤ → ℤ → Tree) → ((i j : ℤ) → operated op (int i) (int j) ≡ Some (f i j)) → ((i j : ℤ) → kind_of prods (f i j) ≡ Some gives) → gives ≡ kind →
      HasKind prods (value_in a) k.Int → HasKind prods (value_in b) k.Int → HasKind prods (value_in (binary op a b)) kind
  of-numbers op a b gives kind f is of e (p, pe, pk) (q, qe, qk) =
      let i = int-tree prods p pk in
      let j = int-tree prods q qk in (
        f i.0 j.0,
        operated-is op a b p q pe qe ∙ ap (λ u. operated op u q) i.1 ∙ ap (operated op (int i.0)) j.1 ∙ is i.0 j.0,
        of i.0 j.0 ∙ ap (λ (z : Kind). Some z) e,
      )

  of-choice : (c a b : Expression) (kind : Kind) → HasKind prods (value_in c) k.Bool → HasKind prods (value_in a) kind → HasKind prods (value_in b) kind → HasKind prods (value_in (choice c a b)) kind
  of-choice c a b kind (p, pe, pk) one other = over (bool-tree prods p pk) where
    is : (d : Bool) → p ≡ bool d → value_in (choice c a b) ≡ chosen d (value_in a) (value_in b)
    is d e = ap (option_and_then (λ u. option_and_then (λ t. chosen t (value_in a) (value_in b)) (bool_in u))) (pe ∙ ap (λ (t : Tree). Some t) e)

    over : (d : Bool) × (p ≡ bool d) → HasKind prods (value_in (choice c a b)) kind
    over (true, e) = (one.0, is true e ∙ one.1, one.2)
    over (false, e) = (other.0, is false e ∙ other.1, other.2)

  mutual
    value-kind : (e : Expression) (kind : Kind) → kind_in e ≡ Some kind → AreRead (reads e) → HasKind prods (value_in e) kind
    value-kind (literal t) kind h r = (t, refl, h)
    value-kind (occurrence i) kind h r = r i kind (0, omega arith, refl) h
    value-kind (leaf i) kind h r = leaf-kind-there prods x.trees x.kids i kind children h
    value-kind (binary o.Add a b) kind h r =
        let kinds = number-kinds k.Int (kind_in a) (kind_in b) kind h in
        of-numbers o.Add a b k.Int kind _ (λ i j. refl) (λ i j. refl) kinds.2
        (value-kind a k.Int kinds.0 (read-left (reads a) (reads b) r)) (value-kind b k.Int kinds.1 (read-right (reads a) (reads b) r))
    value-kind (binary o.Sub a b) kind h r =
        let kinds = number-kinds k.Int (kind_in a) (kind_in b) kind h in
        of-numbers o.Sub a b k.Int kind _ (λ i j. refl) (λ i j. refl) kinds.2
        (value-kind a k.Int kinds.0 (read-left (reads a) (reads b) r)) (value-kind b k.Int kinds.1 (read-right (reads a) (reads b) r))
    value-kind (binary o.Mul a b) kind h r =
        let kinds = number-kinds k.Int (kind_in a) (kind_in b) kind h in
        of-numbers o.Mul a b k.Int kind _ (λ i j. refl) (λ i j. refl) kinds.2
        (value-kind a k.Int kinds.0 (read-left (reads a) (reads b) r)) (value-kind b k.Int kinds.1 (read-right (reads a) (reads b) r))
    value-kind (binary o.Less a b) kind h r =
        let kinds = number-kinds k.Bool (kind_in a) (kind_in b) kind h in
        of-numbers o.Less a b k.Bool kind _ (λ i j. refl) (λ i j. refl) kinds.2
        (value-kind a k.Int kinds.0 (read-left (reads a) (reads b) r)) (value-kind b k.Int kinds.1 (read-right (reads a) (reads b) r))
    value-kind (binary o.Equal a b) kind h r =
        let kinds = equal-kinds (kind_in a) (kind_in b) kind h in
        let one = value-kind a kinds.0 kinds.1 (read-left (reads a) (reads b) r) in
        let other = value-kind b kinds.0 kinds.2 (read-right (reads a) (reads b) r) in
        (_, operated-is o.Equal a b one.0 other.0 one.1 other.1, ap (λ (z : Kind). Some z) kinds.3)
    value-kind (choice c a b) kind h r =
        let kinds = choice-kinds (kind_in c) (kind_in a) (kind_in b) kind h in
        let rest = read-right (reads c) (reads a ++ reads b) r in
        of-choice c a b kind (value-kind c k.Bool kinds.0 (read-left (reads c) (reads a ++ reads b) r))
        (value-kind a kind kinds.1 (read-left (reads a) (reads b) rest)) (value-kind b kind kinds.2 (read-right (reads a) (reads b) rest))
    value-kind (make p es) kind h r =
        let made = make-kinds prods p kind (have_kinds prods occurrences x.kids es) h in
        let ts = values-there es made.production.kids made.children r in
        (node p ts.0, ap (option_map (node p)) ts.1, ap (option_map (λ (q : Production). k.Sort q.left)) made.is_there ∙ ap (λ (z : Kind). Some z) made.left)

    values-there : (es : Expressions) (kids : List Kid) → have_kinds prods occurrences x.kids es kids ≡ true → AreRead (reads_of_each es) → (ts : Trees) × (values_in es ≡ Some ts)
    values-there no_more kids h r = (none, refl)
    values-there (and_more e es) [] h r = absurd (false≢true h)
    values-there (and_more e es) (kid ∷ kids) h r =
        let both = and_parts (option_map_or (λ z. same_kind z kid.kind) (kind_in e) false) (have_kinds prods occurrences x.kids es kids) h in
        let one = value-kind e kid.kind (argument-kind (kind_in e) kid.kind both.0) (read-left (reads e) (reads_of_each es) r) in
        let rest = values-there es kids both.1 (read-right (reads e) (reads_of_each es) r) in
        (more one.0 rest.0, ap (option_and_then (λ u. option_map (more u) (values_in es))) one.1 ∙ ap (option_map (more one.0)) rest.1)

-- ---- what the kinds tell of leaves and productions

module _ (prods : List Production) (occurrences : List Occurrence) (kids : List Kid) (few : length prods ≤ 65280) where
  mutual
    pub fits-kind : (e : Expression) (kind : Kind) → expression_kind prods occurrences kids e ≡ Some kind → FitsNode kids e
    fits-kind (literal t) kind h = tt
    fits-kind (occurrence i) kind h = tt
    fits-kind (leaf i) kind h = subst IsSome (sym h) refl
    fits-kind (binary op a b) kind h =
        let kinds = operand-kinds op (expression_kind prods occurrences kids a) (expression_kind prods occurrences kids b) kind h in
        (fits-kind a kinds.0 kinds.1, fits-kind b kinds.0 kinds.2)
    fits-kind (choice c a b) kind h =
        let kinds = choice-kinds (expression_kind prods occurrences kids c) (expression_kind prods occurrences kids a) (expression_kind prods occurrences kids b) kind h in
        (fits-kind c k.Bool kinds.0, fits-kind a kind kinds.1, fits-kind b kind kinds.2)
    fits-kind (make p es) kind h =
        let made = make-kinds prods p kind (have_kinds prods occurrences kids es) h in
        let within = slice_get_within prods p made.production made.is_there in
        (omega (arith, within, few), each-fits-kind es made.production.kids made.children)

    each-fits-kind : (es : Expressions) (wanted : List Kid) → have_kinds prods occurrences kids es wanted ≡ true → EachFitsNode kids es
    each-fits-kind no_more wanted h = tt
    each-fits-kind (and_more e es) [] h = absurd (false≢true h)
    each-fits-kind (and_more e es) (kid ∷ wanted) h =
        let both = and_parts (option_map_or (λ z. same_kind z kid.kind) (expression_kind prods occurrences kids e) false) (have_kinds prods occurrences kids es wanted) h in
        (fits-kind e kid.kind (argument-kind (expression_kind prods occurrences kids e) kid.kind both.0), each-fits-kind es wanted both.1)

-- ---- answers

pub value-of-kind : (prods : List Production) (occurrences : List Occurrence) (x : Inputs) (e : Expression) (kind : Kind) → AreOfKinds prods occurrences x e kind → HasKind prods (value_of x.values (leaves x) e) kind
value-of-kind prods occurrences x e kind h = value-kind prods occurrences x h.children e kind h.whole h.values

pub given-of-kinds : (s : Standing) (values : List Val) (handle : Handle) (prods : List Production) (occurrences : List Occurrence) (x : Inputs) (e : Expression) (kind : Kind) →
    AreGivenOfKinds s values handle prods occurrences x e kind → AreGiven s values handle x e
given-of-kinds s values handle prods occurrences x e kind h =
    record { node = h.node; set = h.set; fits = fits-kind prods occurrences x.kids h.few e kind h.kinds.whole }

pub never-none : (s t : Standing) (prods : List Production) (x : Inputs) (e : Expression) (kind : Kind) → HasKind prods (value_of x.values (leaves x) e) kind → Evaluates s t x e (Ok None) → ⊥
never-none s t prods x e kind (tree, is, of) h = none-some tree (sym h.found ∙ is)

pub to-value : (s t : Standing) (prods : List Production) (x : Inputs) (e : Expression) (kind : Kind) (value : Val) → HasKind prods (value_of x.values (leaves x) e) kind → Evaluates s t x e (Ok (Some value)) →
    EvaluatesTo s t prods x e kind (Ok value)
to-value s t prods x e kind value (tree, is, of) h =
    record {
      evaluates = h;
      of_kind = (h.found.0, h.found.2, ap (kind_of prods) (same_Some h.found.0 tree (sym h.found.1 ∙ is)) ∙ of);
    }

pub to-full : (s t : Standing) (prods : List Production) (x : Inputs) (e : Expression) (kind : Kind) (fault : Full) (answer : Result Val Full) → Evaluates s t x e (Err fault) → IsErr answer → EvaluatesTo s t prods x e kind answer
to-full s t prods x e kind fault (Ok value) h err = absurd (false≢true err)
to-full s t prods x e kind fault (Err other) h err = record { evaluates = record { adds = h.adds; found = tt; seen = tt; full = h.full }; of_kind = tt }
