-- What is drawn of a generated job names trees that fit, and each of its sessions is found.
use Rattle.std.proofs.Common.{◌≡◌, ℕ, zero, suc, ◌+◌, Bool, true, false, ◌==◌, if◌then◌else◌, nat_lt, List, [], ◌∷◌, length, All, Ok, pos, refl, ap}
use Rattle.std.proofs.lemmas.Bool.{and_from}
use Rattle.std.proofs.lemmas.List.Elements.{All-nil, All-cons, All-head, All-tail}
use Rattle.lrc_base.specs.declared.grammar.Kind.TheVariants as k
use Rattle.lrc_base.specs.declared.raw_term.RawTermTree.{RawTermTree}
use Rattle.lrc_base.specs.declared.job.RawEdit.{RawEdit}
use Rattle.lrc_base.specs.declared.job.RawScript.{RawScript}
use Rattle.lrc_meaning.specs.Tree.{Tree, int, name, node, row}
use Rattle.lrc_meaning.specs.Editing as editing
use Rattle.lrc_meaning.specs.Editing.{Change}
use Rattle.lrc_naming.proofs.NamingLemmas.{named_tree_equations}
use Rattle.lrc_job.specs.TermLaws.{NamesFitting}
use Rattle.lrc_job.specs.Job as job
use Rattle.lrc_job.specs.Job.{Session}
use Rattle.lrc_job.specs.Laws.{IsChangeOf, AreChangesOf, IsSessionOf}
use Rattle.lrc_job.proofs.LawLemmas.{session_is_found}
use Rattle.lrc_gen.specs.Drawing as drawing
use Rattle.lrc_gen.specs.Drawing.{Drawing, draw}
use Rattle.lrc_gen.specs.Generated.{letter, root, var, num, neg, add, let_in, var_leaf, num_leaf, leaf, neg_leaf, let_fork, add_fork, fork, left_nodes, right_nodes, tree_over, tree_within, tree, further, path, put, session, generated}
use Rattle.lrc_gen_laws.specs.LetsGrammar.{lets_prods, lets_grammar}

-- ---- terms

-- the term names a tree of this sort
record OfSort (sort : ℕ) (raw : RawTermTree) : Type 0 where
  named : Tree
  fitting : NamesFitting lets_prods raw named (k.Sort sort)

abbrev IsExp : RawTermTree → Type 0
IsExp = OfSort 1

num_is : (n : ℕ) → IsExp (num n)
num_is n = record { named = node 1 (row (int (pos n) ∷ [])); fitting = record { named = simp named_tree_equations refl; fitting = refl } }

var_is : (x : List ℕ) → IsExp (var x)
var_is x = record { named = node 2 (row (name x ∷ [])); fitting = record { named = simp named_tree_equations refl; fitting = refl } }

neg_is : (e : RawTermTree) → IsExp e → IsExp (neg e)
neg_is e h = record {
  named = node 4 (row (h.named ∷ []));
  fitting = record { named = simp (named_tree_equations, h.fitting.named) refl; fitting = and_from _ _ h.fitting.fitting refl };
}

add_is : (l r : RawTermTree) → IsExp l → IsExp r → IsExp (add l r)
add_is l r h i = record {
  named = node 3 (row (h.named ∷ i.named ∷ []));
  fitting = record {
    named = simp (named_tree_equations, h.fitting.named, i.fitting.named) refl;
    fitting = and_from _ _ h.fitting.fitting (and_from _ _ i.fitting.fitting refl);
  };
}

let_is : (x : List ℕ) (e b : RawTermTree) → IsExp e → IsExp b → IsExp (let_in x e b)
let_is x e b h i = record {
  named = node 5 (row (name x ∷ h.named ∷ i.named ∷ []));
  fitting = record {
    named = simp (named_tree_equations, h.fitting.named, i.fitting.named) refl;
    fitting = and_from _ _ h.fitting.fitting (and_from _ _ i.fitting.fitting refl);
  };
}

root_is : (e : RawTermTree) → IsExp e → OfSort 0 (root e)
root_is e h = record {
  named = node 0 (row (h.named ∷ []));
  fitting = record { named = simp (named_tree_equations, h.fitting.named) refl; fitting = and_from _ _ h.fitting.fitting refl };
}

-- ---- what is drawn

-- whatever the state, what is drawn is so
abbrev Draws : {A : Type 0} → (A → Type 0) → Drawing A → Type 0
Draws P d = (x : ℕ) → P (d x).0

either : {A : Type 0} (P : A → Type 0) (test : Bool) (d e : Drawing A) → Draws P d → Draws P e → Draws P (if test then d else e)
either P true d e h i = h
either P false d e h i = i

row_draws : {A : Type 0} (P : A → Type 0) (d : Drawing A) → Draws P d → (n : ℕ) → Draws (All P) (drawing.row n d)
unfolding drawing.row
row_draws P d h zero x = All-nil P
row_draws P d h (suc n) x = All-cons P (d x).0 (drawing.row n d (d x).1).0 (h x) (row_draws P d h n (d x).1)

row_length : {A : Type 0} (d : Drawing A) (n x : ℕ) → length (drawing.row n d x).0 ≡ n
unfolding drawing.row
row_length d zero x = refl
row_length d (suc n) x = ap suc (row_length d n (d x).1)

-- ---- trees

leaf_draws : Draws IsExp leaf
leaf_draws x = either IsExp ((draw 4 x).0 == 0) var_leaf num_leaf (λ y. var_is (letter (draw 4 y).0)) (λ y. num_is (draw 100 y).0) (draw 4 x).1

module _ (left right : Drawing RawTermTree) (l : Draws IsExp left) (r : Draws IsExp right) where
  let_draws : Draws IsExp (let_fork left right)
  let_draws x =
      let y : ℕ = (draw 4 x).1 in
      let_is (letter (draw 4 x).0) (left y).0 (right (left y).1).0 (l y) (r (left y).1)

  add_draws : Draws IsExp (add_fork left right)
  add_draws x = add_is (left x).0 (right (left x).1).0 (l x) (r (left x).1)

  fork_draws : Draws IsExp (fork left right)
  fork_draws x = either IsExp ((draw 4 x).0 == 0) (let_fork left right) (add_fork left right) let_draws add_draws (draw 4 x).1

  tree_over_draws : (n : ℕ) → Draws IsExp (tree_over n left right)
  tree_over_draws n =
      either IsExp (nat_lt n 2) leaf (if nat_lt n 3 then neg_leaf else fork left right) leaf_draws
      (either IsExp (nat_lt n 3) neg_leaf (fork left right) (λ x. neg_is (leaf x).0 (leaf_draws x)) fork_draws)

within_draws : (levels n : ℕ) → Draws IsExp (tree_within levels n)
unfolding tree_within
within_draws zero n = leaf_draws
within_draws (suc levels) n =
    tree_over_draws (tree_within levels (left_nodes n)) (tree_within levels (right_nodes n)) (within_draws levels (left_nodes n)) (within_draws levels (right_nodes n)) n

tree_draws : (n : ℕ) → Draws IsExp (tree n)
unfolding tree
tree_draws n = within_draws n n

-- ---- edits

-- the edit asks for a change
record HasChange (edit : RawEdit) : Type 0 where
  change : Change
  is_change : IsChangeOf lets_prods edit change

put_draws : (nodes : ℕ) → Draws HasChange (put nodes)
put_draws nodes x =
    let m = draw 4 x in
    let place = path (m.0 + further nodes) m.1 in
    let h = num_is (draw 100 place.1).0 in
    record { change = editing.put place.0.steps (k.Sort 1) h.named; is_change = (k.Sort 1, h.named, h.fitting, refl) }

changes_of : (edits : List RawEdit) → All HasChange edits → (cs : List Change) × AreChangesOf lets_prods edits cs
changes_of [] h = ([], refl)
changes_of (e ∷ es) h =
    let one = All-head HasChange e es h in
    let rest = changes_of es (All-tail HasChange e es h) in
    (one.change ∷ rest.0, (one.change, rest.0, one.is_change, rest.1, refl))

-- ---- sessions

-- the session is found
record HasSession (script : RawScript) : Type 0 where
  found : Session
  is_session : IsSessionOf lets_grammar script found

session_draws : (nodes : ℕ) (whole : RawTermTree) → OfSort 0 whole → Draws HasSession (session nodes whole)
session_draws nodes whole h x =
    let changes = changes_of (drawing.row 4 (put nodes) x).0 (row_draws HasChange (put nodes) (put_draws nodes) 4 x) in
    record {
      found = record { opening = h.named; changes = changes.0 };
      is_session = record { opening = h.fitting; changes = changes.1 };
    }

-- sessions that are numbered from s on, as many as are written
pub record AreFound (s : ℕ) (scripts : List RawScript) : Type 0 where
  pub found : List Session
  pub are_found : job.sessions_of lets_grammar s scripts ≡ Ok found
  pub count : length found ≡ length scripts

each_found : (s : ℕ) (scripts : List RawScript) → All HasSession scripts → AreFound s scripts
each_found s [] h = record { found = []; are_found = refl; count = refl }
each_found s (x ∷ xs) h =
    let one = All-head HasSession x xs h in
    let rest = each_found (job.next s) xs (All-tail HasSession x xs h) in
    record {
      found = one.found ∷ rest.found;
      are_found = rw (session_is_found lets_grammar s x one.found one.is_session, rest.are_found) refl;
      count = ap suc rest.count;
    }

pub generated_found : (seed nodes sessions : ℕ) → AreFound 1 (generated seed nodes sessions).sessions × (length (generated seed nodes sessions).sessions ≡ sessions)
generated_found seed nodes sessions =
    let e = tree nodes seed in
    let each : Drawing RawScript = session nodes (root e.0) in
    let each_draws = session_draws nodes (root e.0) (root_is e.0 (tree_draws nodes seed)) in
    let all = row_draws HasSession each each_draws sessions e.1 in
    (each_found 1 (drawing.row sessions each e.1).0 all, row_length each sessions e.1)
