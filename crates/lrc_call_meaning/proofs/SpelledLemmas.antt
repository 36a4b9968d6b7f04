-- Names, terms and expressions are spelled, part by part.
use Rattle.std.proofs.Common.{◌≡◌, ◌⊎◌, inl, inr, ℕ, zero, suc, ◌+◌, ◌-◌, ◌<◌, ◌≤◌, ℤ, Bool, List, [], ◌∷◌, length, map, get_or, refl, sym, ◌∙◌, ap, subst, arith, Some, Contains}
use Rattle.std.specs.Prelude.{slice_get}
use Rattle.std.proofs.lemmas.Bool.{cases_lt}
use Rattle.std.proofs.lemmas.List.{take-append-drop}
use Rattle.std.proofs.lemmas.Option.{same_Some, slice_get_within}
use Rattle.lrc_base.specs.Name.{IsName}
use Rattle.lrc_base.specs.declared.term.TermTree.{TermTree}
use Rattle.lrc_base.specs.declared.item.TermItem.{TermItem}
use Rattle.lrc_base.specs.declared.item.TermItem.TheVariants as i
use Rattle.lrc_base.specs.Terms.{wanted, forest}
use Rattle.lrc_base.proofs.ItemLemmas.{forest_none, forest_all}
use Rattle.lrc_base.specs.declared.expr.Op.{Op}
use Rattle.lrc_base.specs.declared.expr.Expr.{Expr}
use Rattle.lrc_base.specs.declared.expr.Expr.TheVariants as w
use Rattle.lrc_meaning.specs.Tree.{Tree, tree, row}
use Rattle.lrc_meaning.specs.Expression.{expression, expression_row}
use Rattle.lrc_meaning.proofs.ExpressionLemmas.{expression-Int, expression-Bool, expression-Name, expression-Occ, expression-Leaf, expression-Op, expression-If, expression-Make}
use Rattle.lrc_code.specs.Forms.{EachNameBelow}
use Rattle.lrc_code.specs.Stack.{last_of, all_but}
use Rattle.lrc_code.proofs.FlatLemmas.{Each, each-front, each-end, each-both, item_tree, trees_at, trees-next}
use Rattle.lrc_call_meaning.specs.Spelled.{IsSpelledName, IsSpelled, AreLiteralsSpelled, AreAllLiteralsSpelled}

not-zero : (bytes : List ℕ) (byte : ℕ) → ¬ Contains bytes 0 → Contains bytes byte → 1 ≤ byte
not-zero bytes zero h held = absurd (h held)
not-zero bytes (suc n) h held = omega arith

pub name-spelled : (bytes : List ℕ) → IsName bytes → ((byte : ℕ) → Contains bytes byte → byte < 256) → IsSpelledName bytes
name-spelled bytes is below = (is.some, λ byte held. (not-zero bytes byte is.no_zero held, below byte held))

-- what holds of each of the first items, and of the next
pub next-item : {X : Type 0} (P : X → Type 0) (xs : List X) (n : ℕ) (x : X) → ((i : ℕ) (y : X) → i < n → slice_get xs i ≡ Some y → P y) →
    slice_get xs n ≡ Some x → P x → (i : ℕ) (y : X) → i < n + 1 → slice_get xs i ≡ Some y → P y
next-item P xs n x before at held i y l e = over (cases_lt i n) where
  over : (i < n) ⊎ (n ≤ i) → P y
  over (inl k) = before i y k e
  over (inr k) = let last : n ≡ i = omega (arith, l, k) in subst P (same_Some x y (sym at ∙ ap (slice_get xs) last ∙ e)) held

-- what holds of the items that were seen, which are all
pub all-items : {X : Type 0} (P : X → Type 0) (seen items : List X) (n : ℕ) → seen ≡ items → length seen ≤ n → ((i : ℕ) (y : X) → i < n → slice_get seen i ≡ Some y → P y) →
    (i : ℕ) (y : X) → slice_get items i ≡ Some y → P y
all-items P seen items n same all before i y e =
    let at = ap (λ xs. slice_get xs i) same ∙ e in
    let within = slice_get_within seen i y at in
    before i y (omega (arith, within, all)) at

-- ---- the trees that the items of a term make

row-spelled : (kids : List Tree) → Each IsSpelled kids → EachNameBelow IsSpelledName (row kids)
row-spelled [] h = tt
row-spelled (kid ∷ kids) h = (h.0, row-spelled kids h.1)

-- those that an item takes, and those before them
split-spelled : (n : ℕ) (ts : List Tree) → Each IsSpelled ts → Each IsSpelled (all_but n ts) × Each IsSpelled (last_of n ts)
split-spelled n ts h =
    let both = subst (Each IsSpelled) (sym (take-append-drop (length ts - n) ts)) h in
    (each-front IsSpelled (all_but n ts) (last_of n ts) both, each-end IsSpelled (all_but n ts) (last_of n ts) both)

item-spelled : (item : TermItem) (ts : List Tree) → ((bytes : List ℕ) → item ≡ i.Name bytes → IsSpelledName bytes) → Each IsSpelled ts → IsSpelled (item_tree item ts)
item-spelled (i.Int x) ts named h = tt
item-spelled (i.Bool b) ts named h = tt
item-spelled (i.Name bytes) ts named h = named bytes refl
item-spelled (i.Node p n) ts named h = row-spelled (last_of n ts) (split-spelled n ts h).1

-- an item that is a name is this name alone
pub only-name : (item : TermItem) (found bytes : List ℕ) → item ≡ i.Name found → item ≡ i.Name bytes → IsSpelledName found → IsSpelledName bytes
only-name item found bytes e f h = let same : found ≡ bytes = cc in subst IsSpelledName same h

pub next-spelled : (items : List TermItem) (k : ℕ) (item : TermItem) → k < length items → item ≡ get_or items k item → ((bytes : List ℕ) → item ≡ i.Name bytes → IsSpelledName bytes) →
    Each IsSpelled (trees_at items k) → Each IsSpelled (trees_at items (k + 1))
next-spelled items k item there is named h =
    let ts = trees_at items k in
    subst (Each IsSpelled) (sym (trees-next items k item there is))
    (each-both IsSpelled (all_but (wanted item) ts) (item_tree item ts ∷ []) (split-spelled (wanted item) ts h).0 (item-spelled item ts named h, tt))

pub none-spelled : (items : List TermItem) → Each IsSpelled (trees_at items 0)
none-spelled items = subst (λ us. Each IsSpelled (map tree us)) (sym forest_none) tt

pub all-spelled : (items seen : List TermItem) (k : ℕ) (term : TermTree) → seen ≡ items → forest items ≡ term ∷ [] → length seen ≤ k → Each IsSpelled (trees_at seen k) → IsSpelled (tree term)
all-spelled items seen k term same e all h = (subst (λ us. Each IsSpelled (map tree us)) (forest_all seen k all ∙ ap forest same ∙ e) h).0

-- ---- expressions

pub literal-int : (x : Expr) (i : ℤ) → x ≡ w.Int i → AreLiteralsSpelled (expression x)
literal-int x i e = subst AreLiteralsSpelled (sym (ap expression e ∙ expression-Int i)) tt

pub literal-bool : (x : Expr) (b : Bool) → x ≡ w.Bool b → AreLiteralsSpelled (expression x)
literal-bool x b e = subst AreLiteralsSpelled (sym (ap expression e ∙ expression-Bool b)) tt

pub literal-name : (x : Expr) (bytes : List ℕ) → x ≡ w.Name bytes → IsSpelledName bytes → AreLiteralsSpelled (expression x)
literal-name x bytes e h = subst AreLiteralsSpelled (sym (ap expression e ∙ expression-Name bytes)) h

pub literals-occ : (x : Expr) (i : ℕ) → x ≡ w.Occ i → AreLiteralsSpelled (expression x)
literals-occ x i e = subst AreLiteralsSpelled (sym (ap expression e ∙ expression-Occ i)) tt

pub literals-leaf : (x : Expr) (i : ℕ) → x ≡ w.Leaf i → AreLiteralsSpelled (expression x)
literals-leaf x i e = subst AreLiteralsSpelled (sym (ap expression e ∙ expression-Leaf i)) tt

pub literals-op : (x : Expr) (op : Op) (a b : Expr) → x ≡ w.Op op a b → AreLiteralsSpelled (expression a) → AreLiteralsSpelled (expression b) → AreLiteralsSpelled (expression x)
literals-op x op a b e h k = subst AreLiteralsSpelled (sym (ap expression e ∙ expression-Op op a b)) (h, k)

pub literals-if : (x c a b : Expr) → x ≡ w.If c a b → AreLiteralsSpelled (expression c) → AreLiteralsSpelled (expression a) → AreLiteralsSpelled (expression b) → AreLiteralsSpelled (expression x)
literals-if x c a b e h k l = subst AreLiteralsSpelled (sym (ap expression e ∙ expression-If c a b)) (h, k, l)

parts-spelled : (parts : List Expr) → ((i : ℕ) (part : Expr) → slice_get parts i ≡ Some part → AreLiteralsSpelled (expression part)) → AreAllLiteralsSpelled (expression_row (map expression parts))
parts-spelled [] h = tt
parts-spelled (part ∷ parts) h = (h 0 part refl, parts-spelled parts (λ i. h (suc i)))

pub literals-make : (x : Expr) (p : ℕ) (parts : List Expr) → x ≡ w.Make p parts → ((i : ℕ) (part : Expr) → slice_get parts i ≡ Some part → AreLiteralsSpelled (expression part)) → AreLiteralsSpelled (expression x)
literals-make x p parts e h = subst AreLiteralsSpelled (sym (ap expression e ∙ expression-Make p parts)) (parts-spelled parts h)
