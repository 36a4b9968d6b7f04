-- The parts of a leaf, of a negation, of a sum and of a `Let`.
use Rattle.std.proofs.Common.{◌≡◌, ◌≢◌, ℕ, ◌+◌, ◌*◌, ◌<◌, ◌≤◌, true, false, ◌==◌, if◌then◌else◌, cond, nat_lt, Result, Ok, Err, OnOk, is_ok, pos, List, [], ◌∷◌, ◌++◌, length, codes, refl, sym, ap, ◌∙◌, subst, arith, append_assoc}
use Rattle.std.proofs.lemmas.Bool.{cond-true, cond-false}
use Rattle.std.proofs.lemmas.Bool.Decides.{nat_tests}
use Rattle.std.proofs.lemmas.Grind.{common_steps}
use Rattle.lrc_base.specs.declared.raw_term.RawTermTree.{RawTermTree}
use Rattle.lrc_base.specs.declared.raw_term.RawTermTree.TheVariants as t
use Rattle.lrc_base.specs.declared.item.RawTermItem.TheVariants as i
use Rattle.lrc_base.specs.RawTerms.{raw_grown}
use Rattle.lrc_gen.specs.declared.tasks.Task.{Task}
use Rattle.lrc_gen.specs.declared.tasks.Task.TheVariants as task
use Rattle.lrc_gen.specs.Drawing.{Drawing, draw}
use Rattle.lrc_gen.specs.Generated.{letter, var, num, add, let_in, var_leaf, num_leaf, leaf, neg_leaf, let_fork, add_fork, fork, left_nodes, right_nodes, tree}
use Rattle.lrc_gen.specs.Tasks.{Making, with_tree, does, Parts}
use Rattle.lrc_gen.proofs.TaskLemmas.{joined_last}
use Rattle.lrc_gen.proofs.TreeLemmas.{tree_parts}

-- ---- where there was memory

pub on_ok : {T E P Q : Type 0} (r : Result T E) → OnOk r P → (P → Q) → OnOk r Q
on_ok (Ok v) h f = f h
on_ok (Err e) h f = tt

pub on_extended : {T E Q : Type 0} (r : Result T E) (before more after : List Task) → after ≡ cond (is_ok r) (before ++ more) before → (after ≡ before ++ more → Q) → OnOk r Q
on_extended (Ok v) before more after e f = f e
on_extended (Err e) before more after g f = tt

-- ---- trees and drawings

-- one of two drawings, by a number that was drawn
zero_first : {A : Type 0} (first second : Drawing A) (kind : ℕ) → kind ≡ 0 → (if kind == 0 then first else second) ≡ first
zero_first first second kind e = let test : (kind == 0) ≡ true = grind (arith, nat_tests) in cond-true (kind == 0) first second test

other_second : {A : Type 0} (first second : Drawing A) (kind : ℕ) → kind ≢ 0 → (if kind == 0 then first else second) ≡ second
other_second first second kind e = let test : (kind == 0) ≡ false = grind (arith, nat_tests) in cond-false (kind == 0) first second test

-- the tree that a drawing gives was put behind these trees
put_behind : (drawing : Drawing RawTermTree) (ts : List RawTermTree) (x : ℕ) (u : RawTermTree) (y : ℕ) → drawing x ≡ (u, y) → (ts ++ u ∷ [], y) ≡ with_tree drawing (ts, x)
put_behind drawing ts x u y e = ap (λ (p : RawTermTree × ℕ). (ts ++ p.0 ∷ [], p.1)) (sym e)

-- a node over the last tree
over_one : (name : List ℕ) (ts : List RawTermTree) (u : RawTermTree) → raw_grown (ts ++ u ∷ []) (i.Node name 1) ≡ ts ++ t.Node name (u ∷ []) ∷ []
over_one name ts u = joined_last (t.Node name) 1 ts (u ∷ []) refl

-- a node over the last two
over_two : (name : List ℕ) (ts : List RawTermTree) (u v : RawTermTree) →
    raw_grown ((ts ++ u ∷ []) ++ v ∷ []) (i.Node name 2) ≡ ts ++ t.Node name (u ∷ v ∷ []) ∷ []
over_two name ts u v =
    ap (λ us. raw_grown us (i.Node name 2)) (append_assoc ts (u ∷ []) (v ∷ [])) ∙ joined_last (t.Node name) 2 ts (u ∷ v ∷ []) refl

-- a node over the last three
over_three : (name : List ℕ) (ts : List RawTermTree) (u v w : RawTermTree) →
    raw_grown (((ts ++ u ∷ []) ++ v ∷ []) ++ w ∷ []) (i.Node name 3) ≡ ts ++ t.Node name (u ∷ v ∷ w ∷ []) ∷ []
over_three name ts u v w =
    ap (λ us. raw_grown us (i.Node name 3)) (append_assoc (ts ++ u ∷ []) (v ∷ []) (w ∷ []) ∙ append_assoc ts (u ∷ []) (v ∷ w ∷ []))
    ∙ joined_last (t.Node name) 3 ts (u ∷ v ∷ w ∷ []) refl

-- ---- leaves

pub var_parts : (before after : List Task) (x kind y z : ℕ) (name : List ℕ) → kind ≡ (draw 4 x).0 → y ≡ (draw 4 x).1 → kind ≡ 0 →
    name ≡ letter (draw 4 y).0 → z ≡ (draw 4 y).1 → after ≡ before ++ (task.Item (i.Node (codes "Var") 1) ∷ task.Item (i.Name name) ∷ []) →
    Parts leaf 3 before x after z
var_parts before after x kind y z name is_kind is_y e is_name is_z grown = record {
  parts = task.Item (i.Node (codes "Var") 1) ∷ task.Item (i.Name name) ∷ [];
  tasks = grown;
  makes = λ ts. ap (λ (us : List RawTermTree). (us, z)) (over_one (codes "Var") ts (t.Name name)) ∙ put_behind leaf ts x (var name) z drawn;
  fed = λ ts. (grind (arith, common_steps), (omega arith, tt));
  lighter = omega arith;
}
  where
    drawn : leaf x ≡ (var name, z)
    drawn = ap (λ (f : Drawing RawTermTree). f (draw 4 x).1) (zero_first var_leaf num_leaf (draw 4 x).0 (sym is_kind ∙ e)) ∙ ap var_leaf (sym is_y) ∙ ap (λ (n : List ℕ). (var n, (draw 4 y).1)) (sym is_name) ∙ ap (λ (s : ℕ). (var name, s)) (sym is_z)

pub num_parts : (before after : List Task) (x kind y z n : ℕ) → kind ≡ (draw 4 x).0 → y ≡ (draw 4 x).1 → kind ≢ 0 →
    n ≡ (draw 100 y).0 → z ≡ (draw 100 y).1 → after ≡ before ++ (task.Item (i.Node (codes "Num") 1) ∷ task.Item (i.Int (pos n)) ∷ []) →
    Parts leaf 3 before x after z
num_parts before after x kind y z n is_kind is_y e is_n is_z grown = record {
  parts = task.Item (i.Node (codes "Num") 1) ∷ task.Item (i.Int (pos n)) ∷ [];
  tasks = grown;
  makes = λ ts. ap (λ (us : List RawTermTree). (us, z)) (over_one (codes "Num") ts (t.Int (pos n))) ∙ put_behind leaf ts x (num n) z drawn;
  fed = λ ts. (grind (arith, common_steps), (omega arith, tt));
  lighter = omega arith;
}
  where
    drawn : leaf x ≡ (num n, z)
    drawn = ap (λ (f : Drawing RawTermTree). f (draw 4 x).1) (other_second var_leaf num_leaf (draw 4 x).0 (λ zero_there. e (is_kind ∙ zero_there))) ∙ ap num_leaf (sym is_y) ∙ ap (λ (m : ℕ). (num m, (draw 100 y).1)) (sym is_n) ∙ ap (λ (s : ℕ). (num n, s)) (sym is_z)

-- ---- a negation

pub neg_parts : (before pushed after : List Task) (x y : ℕ) → pushed ≡ before ++ task.Item (i.Node (codes "Neg") 1) ∷ [] → Parts leaf 3 pushed x after y →
    Parts neg_leaf 15 before x after y
neg_parts before pushed after x y e p = record {
  parts = task.Item (i.Node (codes "Neg") 1) ∷ p.parts;
  tasks = p.tasks ∙ ap (λ qs. qs ++ p.parts) e ∙ append_assoc before (task.Item (i.Node (codes "Neg") 1) ∷ []) p.parts;
  makes = λ ts. ap (does (task.Item (i.Node (codes "Neg") 1))) (p.makes ts) ∙ ap (λ (us : List RawTermTree). (us, (leaf x).1)) (over_one (codes "Neg") ts (leaf x).0);
  fed = λ ts. (subst (λ (m : Making). 1 ≤ length m.0) (sym (p.makes ts)) (grind (arith, common_steps)), p.fed ts);
  lighter = omega (arith, p.lighter);
}

-- ---- two trees

pub let_parts : (before after : List Task) (n l r x kind y z : ℕ) (name : List ℕ) → 3 ≤ n → l ≡ left_nodes n → r ≡ right_nodes n →
    kind ≡ (draw 4 x).0 → y ≡ (draw 4 x).1 → kind ≡ 0 → name ≡ letter (draw 4 y).0 → z ≡ (draw 4 y).1 →
    after ≡ before ++ (task.Item (i.Node (codes "Let") 3) ∷ task.Tree r ∷ task.Tree l ∷ task.Item (i.Name name) ∷ []) →
    Parts (fork (tree (left_nodes n)) (tree (right_nodes n))) (6 * n + 3) before x after z
let_parts before after n l r x kind y z name many is_l is_r is_kind is_y e is_name is_z grown = record {
  parts = task.Item (i.Node (codes "Let") 3) ∷ task.Tree r ∷ task.Tree l ∷ task.Item (i.Name name) ∷ [];
  tasks = grown;
  makes = λ ts. ap (λ (us : List RawTermTree). (us, (tree r (tree l z).1).1)) (over_three (codes "Let") ts (t.Name name) (tree l z).0 (tree r (tree l z).1).0)
      ∙ put_behind (fork (tree (left_nodes n)) (tree (right_nodes n))) ts x (let_in name (tree l z).0 (tree r (tree l z).1).0) (tree r (tree l z).1).1 drawn;
  fed = λ ts. (grind (arith, common_steps), (omega arith, (omega arith, (omega arith, tt))));
  lighter = omega arith;
}
  where
    drawn : fork (tree (left_nodes n)) (tree (right_nodes n)) x ≡ (let_in name (tree l z).0 (tree r (tree l z).1).0, (tree r (tree l z).1).1)
    drawn = ap (λ (a : ℕ). fork (tree a) (tree (right_nodes n)) x) (sym is_l)
        ∙ ap (λ (b : ℕ). fork (tree l) (tree b) x) (sym is_r)
        ∙ ap (λ (f : Drawing RawTermTree). f (draw 4 x).1) (zero_first (let_fork (tree l) (tree r)) (add_fork (tree l) (tree r)) (draw 4 x).0 (sym is_kind ∙ e))
        ∙ ap (let_fork (tree l) (tree r)) (sym is_y)
        ∙ ap (λ (v : List ℕ). (let_in v (tree l (draw 4 y).1).0 (tree r (tree l (draw 4 y).1).1).0, (tree r (tree l (draw 4 y).1).1).1)) (sym is_name)
        ∙ ap (λ (s : ℕ). (let_in name (tree l s).0 (tree r (tree l s).1).0, (tree r (tree l s).1).1)) (sym is_z)

pub add_parts : (before after : List Task) (n l r x kind y : ℕ) → 3 ≤ n → l ≡ left_nodes n → r ≡ right_nodes n →
    kind ≡ (draw 4 x).0 → y ≡ (draw 4 x).1 → kind ≢ 0 →
    after ≡ before ++ (task.Item (i.Node (codes "Add") 2) ∷ task.Tree r ∷ task.Tree l ∷ []) →
    Parts (fork (tree (left_nodes n)) (tree (right_nodes n))) (6 * n + 3) before x after y
add_parts before after n l r x kind y many is_l is_r is_kind is_y e grown = record {
  parts = task.Item (i.Node (codes "Add") 2) ∷ task.Tree r ∷ task.Tree l ∷ [];
  tasks = grown;
  makes = λ ts. ap (λ (us : List RawTermTree). (us, (tree r (tree l y).1).1)) (over_two (codes "Add") ts (tree l y).0 (tree r (tree l y).1).0)
      ∙ put_behind (fork (tree (left_nodes n)) (tree (right_nodes n))) ts x (add (tree l y).0 (tree r (tree l y).1).0) (tree r (tree l y).1).1 drawn;
  fed = λ ts. (grind (arith, common_steps), (omega arith, (omega arith, tt)));
  lighter = omega arith;
}
  where
    drawn : fork (tree (left_nodes n)) (tree (right_nodes n)) x ≡ (add (tree l y).0 (tree r (tree l y).1).0, (tree r (tree l y).1).1)
    drawn = ap (λ (a : ℕ). fork (tree a) (tree (right_nodes n)) x) (sym is_l)
        ∙ ap (λ (b : ℕ). fork (tree l) (tree b) x) (sym is_r)
        ∙ ap (λ (f : Drawing RawTermTree). f (draw 4 x).1) (other_second (let_fork (tree l) (tree r)) (add_fork (tree l) (tree r)) (draw 4 x).0 (λ zero_there. e (is_kind ∙ zero_there)))
        ∙ ap (add_fork (tree l) (tree r)) (sym is_y)

-- ---- any tree

-- the parts of a drawing are those of an equal one, within a greater limit
pub as_parts : (drawing other : Drawing RawTermTree) (limit more : ℕ) (before after : List Task) (x y : ℕ) → other ≡ drawing → limit ≤ more →
    Parts drawing limit before x after y → Parts other more before x after y
as_parts drawing other limit more before after x y e h p = record {
  parts = p.parts;
  tasks = p.tasks;
  makes = λ ts. p.makes ts ∙ ap (λ (f : Drawing RawTermTree). with_tree f (ts, x)) (sym e);
  fed = p.fed;
  lighter = omega (arith, p.lighter);
}

pub tree_leaf : (n : ℕ) → n < 2 → tree n ≡ leaf
tree_leaf n h =
    let test : nat_lt n 2 ≡ true = grind (arith, nat_tests) in
    tree_parts n ∙ cond-true (nat_lt n 2) leaf (if nat_lt n 3 then neg_leaf else fork (tree (left_nodes n)) (tree (right_nodes n))) test

pub tree_neg : (n : ℕ) → 2 ≤ n → n < 3 → tree n ≡ neg_leaf
tree_neg n g h =
    let first : nat_lt n 2 ≡ false = grind (arith, nat_tests) in
    let second : nat_lt n 3 ≡ true = grind (arith, nat_tests) in
    tree_parts n ∙ cond-false (nat_lt n 2) leaf (if nat_lt n 3 then neg_leaf else fork (tree (left_nodes n)) (tree (right_nodes n))) first
    ∙ cond-true (nat_lt n 3) neg_leaf (fork (tree (left_nodes n)) (tree (right_nodes n))) second

pub tree_fork : (n : ℕ) → 3 ≤ n → tree n ≡ fork (tree (left_nodes n)) (tree (right_nodes n))
tree_fork n h =
    let first : nat_lt n 2 ≡ false = grind (arith, nat_tests) in
    let second : nat_lt n 3 ≡ false = grind (arith, nat_tests) in
    tree_parts n ∙ cond-false (nat_lt n 2) leaf (if nat_lt n 3 then neg_leaf else fork (tree (left_nodes n)) (tree (right_nodes n))) first
    ∙ cond-false (nat_lt n 3) neg_leaf (fork (tree (left_nodes n)) (tree (right_nodes n))) second
