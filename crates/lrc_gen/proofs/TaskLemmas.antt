-- Tasks: how they begin, what stands behind each of them, and how they end.
use Rattle.std.proofs.Common.{◌≡◌, ℕ, ◌+◌, ◌-◌, ◌*◌, ◌<◌, ◌≤◌, List, [], ◌∷◌, ◌++◌, length, take, drop, codes, refl, sym, ap, ◌∙◌, subst, arith}
use Rattle.std.proofs.lemmas.Grind.{common_steps}
use Rattle.lrc_base.specs.declared.raw_term.RawTermTree.{RawTermTree}
use Rattle.lrc_base.specs.declared.item.RawTermItem.{RawTermItem}
use Rattle.lrc_base.specs.declared.item.RawTermItem.TheVariants as i
use Rattle.lrc_base.specs.Forest.{joined}
use Rattle.lrc_base.specs.RawTerms.{raw_grown}
use Rattle.lrc_gen.specs.declared.tasks.Task.{Task}
use Rattle.lrc_gen.specs.declared.tasks.Task.TheVariants as task
use Rattle.lrc_gen.specs.Generated.{root, tree}
use Rattle.lrc_gen.specs.Tasks.{Making, does, resumed, needs, Fed, weights, Parts, Makes, Performs}

-- the last trees become one
pub joined_last : {A : Type 0} (node : List A → A) (n : ℕ) (a b : List A) → length b ≡ n → joined node n (a ++ b) ≡ a ++ node b ∷ []
joined_last {A = A} node n a b e =
    ap (λ m. take m (a ++ b) ++ node (drop m (a ++ b)) ∷ []) behind ∙ ap (λ xs. xs ++ node (drop (length a) (a ++ b)) ∷ []) (front a) ∙ ap (λ xs. a ++ node xs ∷ []) (back a)
  where
    behind : length (a ++ b) - n ≡ length a
    behind = grind (arith, common_steps)

    front : (c : List A) → take (length c) (c ++ b) ≡ c
    front [] = refl
    front (x ∷ xs) = ap (λ ys. x ∷ ys) (front xs)

    back : (c : List A) → drop (length c) (c ++ b) ≡ b
    back [] = refl
    back (x ∷ xs) = back xs

-- ---- tasks behind tasks

pub resumed_behind : (ts us : List Task) (m : Making) → resumed (ts ++ us) m ≡ resumed ts (resumed us m)
resumed_behind [] us m = refl
resumed_behind (t ∷ ts) us m = ap (does t) (resumed_behind ts us m)

pub fed_behind : (ts us : List Task) (m : Making) → Fed ts (resumed us m) → Fed us m → Fed (ts ++ us) m
fed_behind [] us m f g = g
fed_behind (t ∷ ts) us m f g =
    (subst (λ (q : Making). needs t ≤ length q.0) (sym (resumed_behind ts us m)) f.0, fed_behind ts us m f.1 g)

fed_before : (ts us : List Task) (m : Making) → Fed (ts ++ us) m → Fed ts (resumed us m)
fed_before [] us m f = tt
fed_before (t ∷ ts) us m f =
    (subst (λ (q : Making). needs t ≤ length q.0) (resumed_behind ts us m) f.0, fed_before ts us m f.1)

fed_last : (ts us : List Task) (m : Making) → Fed (ts ++ us) m → Fed us m
fed_last [] us m f = f
fed_last (t ∷ ts) us m f = fed_last ts us m f.1

pub weights_behind : (ts us : List Task) → weights (ts ++ us) ≡ weights ts + weights us
weights_behind [] us = omega arith
weights_behind (t ∷ ts) us = omega (arith, weights_behind ts us)

-- ---- steps

-- `Root` over a tree of n nodes
pub begun : (n x : ℕ) (tasks : List Task) (ts : List RawTermTree) → tasks ≡ task.Item (i.Node (codes "Root") 1) ∷ task.Tree n ∷ [] → ts ≡ [] →
    Makes tasks (ts, x) (root (tree n x).0 ∷ [], (tree n x).1)
begun n x tasks ts e f =
    let first : List Task = task.Item (i.Node (codes "Root") 1) ∷ task.Tree n ∷ [] in
    record {
      same = ap (λ qs. resumed qs (ts, x)) e ∙ ap (λ (us : List RawTermTree). resumed first (us, x)) f;
      fed = subst (λ qs. Fed qs (ts, x)) (sym e) (subst (λ (us : List RawTermTree). Fed first (us, x)) (sym f) (omega arith, (omega arith, tt)));
    }

-- the trees that the last task takes are there
pub room : (before rest : List Task) (t : Task) (m whole : Making) → Makes before m whole → before ≡ rest ++ t ∷ [] → needs t ≤ length m.0
room before rest t m whole makes e = (fed_last rest (t ∷ []) m (subst (λ ts. Fed ts m) e makes.fed)).0

-- a tree was parted
pub tree_performed : (n : ℕ) (before after : List Task) (ts : List RawTermTree) (x y : ℕ) → Parts (tree n) (6 * n + 3) before x after y →
    Performs (task.Tree n) before (ts, x) after (ts, y)
tree_performed n before after ts x y p = record {
  same = ap (λ qs. resumed qs (ts, y)) p.tasks ∙ resumed_behind before p.parts (ts, y) ∙ ap (resumed before) (p.makes ts);
  fed = λ f. subst (λ qs. Fed qs (ts, y)) (sym p.tasks) (fed_behind before p.parts (ts, y) (subst (Fed before) (sym (p.makes ts)) f) (p.fed ts));
  lighter = let left = ap weights p.tasks ∙ weights_behind before p.parts in omega (arith, left, p.lighter);
}

-- an item was added
pub item_performed : (item : RawTermItem) (before : List Task) (ts us : List RawTermTree) (x : ℕ) → us ≡ raw_grown ts item →
    Performs (task.Item item) before (ts, x) before (us, x)
item_performed item before ts us x g = record {
  same = ap (λ (vs : List RawTermTree). resumed before (vs, x)) g;
  fed = λ f. subst (λ (vs : List RawTermTree). Fed before (vs, x)) (sym g) f;
  lighter = omega arith;
}

-- the last task was done
pub next_made : (before rest after : List Task) (t : Task) (m n whole : Making) → Makes before m whole → before ≡ rest ++ t ∷ [] → Performs t rest m after n → Makes after n whole
next_made before rest after t m n whole makes e p = record {
  same = p.same ∙ sym (resumed_behind rest (t ∷ []) m) ∙ ap (λ qs. resumed qs m) (sym e) ∙ makes.same;
  fed = p.fed (fed_before rest (t ∷ []) m (subst (λ qs. Fed qs m) e makes.fed));
}

-- what is left is lighter
pub next_lighter : (before rest after : List Task) (t : Task) (m n : Making) → before ≡ rest ++ t ∷ [] → Performs t rest m after n → weights after < weights before
next_lighter before rest after t m n e p =
    let all = ap weights e ∙ weights_behind rest (t ∷ []) in
    omega (arith, all, p.lighter)

-- nothing is left to be done
pub made : (tasks : List Task) (ts us : List RawTermTree) (x y : ℕ) → Makes tasks (ts, x) (us, y) → tasks ≡ [] → (ts ≡ us) × (x ≡ y)
made tasks ts us x y makes e =
    let all = ap (λ qs. resumed qs (ts, x)) (sym e) ∙ makes.same in
    (ap (λ (m : Making). m.0) all, ap (λ (m : Making). m.1) all)
