-- Trees that are the same are equal, and where their names are spelled so are their cells.
use Rattle.std.proofs.Common.{◌≡◌, ℕ, ℤ, Bool, true, false, refl, sym, ◌∙◌, ap, IsTrue, Some}
use Rattle.std.specs.Prelude.{◌↔◌}
use Rattle.std.proofs.lemmas.Bool.{false≢true, and_parts, and_from}
use Rattle.std.proofs.lemmas.Bool.Decides.{Decides-eqb, Decides-int_eq}
use Rattle.std.proofs.lemmas.Slice.Eq.{bytes_eq-Decides}
use Rattle.lrc_meaning.specs.Tree.{Tree, Trees, int, bool, name, node, none, more, same_tree, same_trees, if_same}
use Rattle.lrc_store.specs.Standing.{Standing, meant}
use Rattle.lrc_store.proofs.Known.{stands-meant}
use Rattle.lrc_code.specs.Forms.{tree_cell}
use Rattle.lrc_code.specs.Decoding.{tree_in}
use Rattle.lrc_call_meaning.specs.Spelled.{IsSpelled}
use Rattle.lrc_call_meaning.proofs.DecodingLemmas.{value-back}
use Rattle.lrc_eval.specs.declared.values.Val.TheVariants as v
use Rattle.lrc_eval.specs.Values.{Means, is_name_or_node}

bool-itself : (b : Bool) → if_same b b ≡ true
bool-itself true = refl
bool-itself false = refl

bool-equal : (a b : Bool) → if_same a b ≡ true → a ≡ b
bool-equal true true e = refl
bool-equal true false e = absurd (false≢true e)
bool-equal false true e = absurd (false≢true e)
bool-equal false false e = refl

mutual
  tree-itself : (t : Tree) → same_tree t t ≡ true
  tree-itself (int i) = (Decides-int_eq i i).1 refl
  tree-itself (bool b) = bool-itself b
  tree-itself (name n) = (bytes_eq-Decides n n).1 refl
  tree-itself (node p kids) = and_from _ _ ((Decides-eqb p p).1 refl) (trees-themselves kids)

  trees-themselves : (ts : Trees) → same_trees ts ts ≡ true
  trees-themselves none = refl
  trees-themselves (more t ts) = and_from _ _ (tree-itself t) (trees-themselves ts)

same-node : (p q : ℕ) (ks ls : Trees) → p ≡ q → ks ≡ ls → node p ks ≡ node q ls
same-node p q ks ls e f = cc

same-more : (t u : Tree) (ts us : Trees) → t ≡ u → ts ≡ us → more t ts ≡ more u us
same-more t u ts us e f = cc

mutual
  tree-equal : (t u : Tree) → same_tree t u ≡ true → t ≡ u
  tree-equal (int i) (int j) e = ap int ((Decides-int_eq i j).0 e)
  tree-equal (int i) (bool b) e = absurd (false≢true e)
  tree-equal (int i) (name n) e = absurd (false≢true e)
  tree-equal (int i) (node p kids) e = absurd (false≢true e)
  tree-equal (bool a) (int j) e = absurd (false≢true e)
  tree-equal (bool a) (bool b) e = ap bool (bool-equal a b e)
  tree-equal (bool a) (name n) e = absurd (false≢true e)
  tree-equal (bool a) (node p kids) e = absurd (false≢true e)
  tree-equal (name m) (int j) e = absurd (false≢true e)
  tree-equal (name m) (bool b) e = absurd (false≢true e)
  tree-equal (name m) (name n) e = ap name ((bytes_eq-Decides m n).0 e)
  tree-equal (name m) (node p kids) e = absurd (false≢true e)
  tree-equal (node q kids) (int j) e = absurd (false≢true e)
  tree-equal (node q kids) (bool b) e = absurd (false≢true e)
  tree-equal (node q kids) (name n) e = absurd (false≢true e)
  tree-equal (node q kids) (node p others) e =
      let both = and_parts _ _ e in same-node q p kids others ((Decides-eqb q p).0 both.0) (trees-equal kids others both.1)

  trees-equal : (ts us : Trees) → same_trees ts us ≡ true → ts ≡ us
  trees-equal none none e = refl
  trees-equal none (more u us) e = absurd (false≢true e)
  trees-equal (more t ts) none e = absurd (false≢true e)
  trees-equal (more t ts) (more u us) e =
      let both = and_parts _ _ e in same-more t u ts us (tree-equal t u both.0) (trees-equal ts us both.1)

cells-equal : (t u : Tree) → IsSpelled t → IsSpelled u → tree_cell t ≡ tree_cell u → t ≡ u
cells-equal t u h k e = sym (value-back t h) ∙ ap tree_in e ∙ value-back u k

-- trees are the same exactly where their cells are equal
pub same-by-cells : (t u : Tree) → IsSpelled t → IsSpelled u → (same_tree t u ≡ true) ↔ (tree_cell t ≡ tree_cell u)
same-by-cells t u h k = (λ e. ap tree_cell (tree-equal t u e), λ e. ap (same_tree t) (sym (cells-equal t u h k e)) ∙ tree-itself t)

-- ---- values

-- a test that is true just where another one is
tests-same : (a b : Bool) → (a ≡ true → b ≡ true) → (b ≡ true → a ≡ true) → a ≡ b
tests-same true b f g = sym (f refl)
tests-same false true f g = g refl
tests-same false false f g = refl

-- names and trees by their handles
pub refs-same : (s : Standing) (h k : ℕ) (x y : Tree) (answer : Bool) → s.known h ≡ Some (tree_cell x) → s.known k ≡ Some (tree_cell y) → IsSpelled x → IsSpelled y →
    (IsTrue answer ↔ (meant s h ≡ meant s k)) → answer ≡ same_tree x y
refs-same s h k x y answer e f p q told =
    let one = stands-meant s h (tree_cell x) e in
    let other = stands-meant s k (tree_cell y) f in
    let law = same-by-cells x y p q in
    tests-same answer (same_tree x y)
    (λ yes. law.1 (sym one ∙ told.0 yes ∙ other))
    (λ yes. told.1 (one ∙ law.0 yes ∙ sym other))

-- a number or a truth value is no name or node
pub no-number-ref : (s : Standing) (n : ℤ) (x y : Tree) → Means s (v.Int n) x → IsTrue (is_name_or_node y) → false ≡ same_tree x y
no-number-ref s n (int i) (int j) e f = absurd (false≢true f)
no-number-ref s n (int i) (bool b) e f = refl
no-number-ref s n (int i) (name m) e f = refl
no-number-ref s n (int i) (node p kids) e f = refl
no-number-ref s n (bool a) y e f = absurd (cc)
no-number-ref s n (name m) y e f = absurd (cc)
no-number-ref s n (node p kids) y e f = absurd (cc)
