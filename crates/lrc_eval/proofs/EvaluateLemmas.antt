-- What is answered of an expression, from what is answered of its parts.
use Rattle.std.proofs.Common.{◌≡◌, ◌⊎◌, inl, inr, ℕ, zero, suc, ◌<◌, ℤ, Bool, true, false, List, [], ◌∷◌, ◌++◌, length, refl, sym, ◌∙◌, ap, subst, Option, Some, None, cond}
use Rattle.std.specs.Prelude.{Result, Ok, Err, IsErr, IfSome, slice_get, slice_index_or, option_and_then}
use Rattle.std.specs.Option.{option_map_or}
use Rattle.std.proofs.lemmas.Bool.{false≢true}
use Rattle.std.proofs.lemmas.Option.{same_Some, slice_get_within}
use Rattle.lrc_base.specs.declared.expr.Op.{Op}
use Rattle.lrc_meaning.specs.Tree.{Tree, int, bool, name, node}
use Rattle.lrc_meaning.specs.Expression.{Expression, literal, occurrence, binary, choice, bool_in, operated, chosen, value_of}
use Rattle.lrc_visit_meaning.specs.Demand.{built_in}
use Rattle.lrc_store.specs.Cells.{CellTree, parts, IsWithin}
use Rattle.lrc_store.specs.Standing.{Standing, Told}
use Rattle.lrc_store.specs.Words.{Adds, LacksOne, Reads}
use Rattle.lrc_store.specs.declared.cells.Handle.{Handle}
use Rattle.lrc_store.specs.declared.stores.Full.{Full}
use Rattle.lrc_store.proofs.Lasting.{adds-same, adds-more, stays-gains, lacks-more}
use Rattle.lrc_code.specs.Forms.{name_cell}
use Rattle.lrc_eval.specs.declared.values.Val.{Val}
use Rattle.lrc_eval.specs.declared.values.Val.TheVariants as v
use Rattle.lrc_eval.specs.Values.{Means, IsMeant, Finds}
use Rattle.lrc_eval.specs.Evaluating.{Inputs, leaves, IsSet, NamesValue, cells_of_trees, built_cells, AreSeen, Evaluates}
use Rattle.lrc_eval.proofs.CellLemmas.{cells-left, cells-right, cells-each, cells-one, cells-only, told-none, told-less, told-lasts, told-each, adds-in}
use Rattle.lrc_eval.proofs.GivenLemmas.{meant-lasts}

-- ---- answers

-- full
pub ends-full : (s t : Standing) (x : Inputs) (e : Expression) (answer : Result (Option Val) Full) → Adds s t (built_cells x e) → LacksOne t (built_cells x e) → IsErr answer → Evaluates s t x e answer
ends-full s t x e (Ok found) adds lacks h = absurd (false≢true h)
ends-full s t x e (Err f) adds lacks h = record { adds = adds; found = tt; seen = tt; full = lacks }

-- no value
pub ends-none : (s t : Standing) (x : Inputs) (e : Expression) → Adds s t (built_cells x e) → value_of x.values (leaves x) e ≡ None → Evaluates s t x e (Ok None)
ends-none s t x e adds none = record { adds = adds; found = none; seen = tt; full = tt }

-- a value
pub ends-some : (s t : Standing) (x : Inputs) (e : Expression) (value : Val) (tree : Tree) → Adds s t (built_cells x e) → value_of x.values (leaves x) e ≡ Some tree → IsMeant t value tree → AreSeen t (built_cells x e) →
    Evaluates s t x e (Ok (Some value))
ends-some s t x e value tree adds is means seen = record { adds = adds; found = (tree, is, means); seen = seen; full = tt }

if-some : {A : Type 0} (found : Option A) (P : Type 0) → P → IfSome found (λ _. P)
if-some None P p = tt
if-some (Some a) P p = p

-- ---- literals, occurrences and leaves, of which nothing is built

-- where nothing is built, a value of the store as it was read
pub ends-unbuilt : (s t : Standing) (x : Inputs) (e : Expression) (value : Val) (tree : Tree) → built_in x.values (leaves x) e ≡ [] → Reads s t → value_of x.values (leaves x) e ≡ Some tree → IsMeant t value tree →
    Evaluates s t x e (Ok (Some value))
ends-unbuilt s t x e value tree none reads is means =
    ends-some s t x e value tree
    (record { gains = stays-gains s t (built_cells x e) reads.stays; memo = reads.memo; missed = reads.missed })
    is means
    (subst (λ (ts : List Tree). Told t.seen (IsWithin (cells_of_trees ts))) (sym none) (told-none t.seen))

pub ends-same : (s : Standing) (x : Inputs) (e : Expression) (value : Val) (tree : Tree) → built_in x.values (leaves x) e ≡ [] → value_of x.values (leaves x) e ≡ Some tree → IsMeant s value tree →
    Evaluates s s x e (Ok (Some value))
ends-same s x e value tree none is means =
    ends-some s s x e value tree (adds-same s (built_cells x e)) is means
    (subst (λ (ts : List Tree). Told s.seen (IsWithin (cells_of_trees ts))) (sym none) (told-none s.seen))

pub number-literal : (s : Standing) (x : Inputs) (n z : ℤ) → z ≡ n → Evaluates s s x (literal (int n)) (Ok (Some (v.Int z)))
number-literal s x n z e = ends-same s x (literal (int n)) (v.Int z) (int n) refl refl (record { means = ap int (sym e); spelled = tt })

pub truth-literal : (s : Standing) (x : Inputs) (b : Bool) → Evaluates s s x (literal (bool b)) (Ok (Some (v.Bool b)))
truth-literal s x b = ends-same s x (literal (bool b)) (v.Bool b) (bool b) refl refl (record { means = refl; spelled = tt })

pub name-full : (s t : Standing) (x : Inputs) (bytes : List ℕ) (f : Full) (answer : Result (Option Val) Full) → NamesValue s t bytes (Err f) → IsErr answer → Evaluates s t x (literal (name bytes)) answer
name-full s t x bytes f answer h err =
    ends-full s t x (literal (name bytes)) answer
    (adds-more s t (parts (name_cell bytes)) (built_cells x (literal (name bytes))) (cells-one (name bytes)) h.adds)
    (lacks-more t (parts (name_cell bytes)) (built_cells x (literal (name bytes))) (cells-one (name bytes)) h.full)
    err

pub name-literal : (s t : Standing) (x : Inputs) (bytes : List ℕ) (value : Val) → NamesValue s t bytes (Ok value) → Evaluates s t x (literal (name bytes)) (Ok (Some value))
name-literal s t x bytes value h =
    ends-some s t x (literal (name bytes)) value (name bytes)
    (adds-more s t (parts (name_cell bytes)) (built_cells x (literal (name bytes))) (cells-one (name bytes)) h.adds)
    refl h.ok.0
    (told-less t.seen (built_cells x (literal (name bytes))) (parts (name_cell bytes)) (cells-only (name bytes)) h.ok.1)

item-read : (values : List Val) (i : ℕ) (d value : Val) → slice_get values i ≡ Some value → slice_index_or values i d ≡ value
item-read [] i d value e = absurd (cc)
item-read (w ∷ ws) zero d value e = same_Some w value e
item-read (w ∷ ws) (suc i) d value e = item-read ws i d value e

pub set-within : (s : Standing) (values : List Val) (trees : List Tree) (i : ℕ) → IsSet s values trees i → i < length values
set-within s values trees i h = slice_get_within values i h.value h.is_there

pub occurrence-value : (s : Standing) (values : List Val) (x : Inputs) (i : ℕ) (d : Val) → IsSet s values x.values i → Evaluates s s x (occurrence i) (Ok (Some (slice_index_or values i d)))
occurrence-value s values x i d h =
    ends-same s x (occurrence i) (slice_index_or values i d) h.tree refl h.of_tree
    (subst (λ (value : Val). IsMeant s value h.tree) (sym (item-read values i d h.value h.is_there)) h.meant)

-- ---- operators

module _ (x : Inputs) (op : Op) (a b : Expression) where
  left-in : IsWithin (built_cells x a) (built_cells x (binary op a b))
  left-in = cells-left (built_in x.values (leaves x) a) (built_in x.values (leaves x) b)

  right-in : IsWithin (built_cells x b) (built_cells x (binary op a b))
  right-in = cells-right (built_in x.values (leaves x) a) (built_in x.values (leaves x) b)

  pub left-full : (s t : Standing) (f : Full) (answer : Result (Option Val) Full) → Evaluates s t x a (Err f) → IsErr answer → Evaluates s t x (binary op a b) answer
  left-full s t f answer h err =
      ends-full s t x (binary op a b) answer (adds-more s t (built_cells x a) (built_cells x (binary op a b)) left-in h.adds)
      (lacks-more t (built_cells x a) (built_cells x (binary op a b)) left-in h.full) err

  pub left-none : (s t : Standing) → Evaluates s t x a (Ok None) → Evaluates s t x (binary op a b) (Ok None)
  left-none s t h =
      ends-none s t x (binary op a b) (adds-more s t (built_cells x a) (built_cells x (binary op a b)) left-in h.adds)
      (ap (option_and_then (λ p. option_and_then (operated op p) (value_of x.values (leaves x) b))) h.found)

  both-added : (s t u : Standing) → Adds s t (built_cells x a) → Adds t u (built_cells x b) → Adds s u (built_cells x (binary op a b))
  both-added s t u f g =
      adds-in s t u (built_cells x b) (built_cells x (binary op a b)) right-in
      (adds-more s t (built_cells x a) (built_cells x (binary op a b)) left-in f) g

  pub right-full : (s t u : Standing) (value : Val) (f : Full) (answer : Result (Option Val) Full) → Evaluates s t x a (Ok (Some value)) → Evaluates t u x b (Err f) → IsErr answer → Evaluates s u x (binary op a b) answer
  right-full s t u value f answer h k err =
      ends-full s u x (binary op a b) answer (both-added s t u h.adds k.adds)
      (lacks-more u (built_cells x b) (built_cells x (binary op a b)) right-in k.full) err

  pub right-none : (s t u : Standing) (value : Val) → Evaluates s t x a (Ok (Some value)) → Evaluates t u x b (Ok None) → Evaluates s u x (binary op a b) (Ok None)
  right-none s t u value h k =
      ends-none s u x (binary op a b) (both-added s t u h.adds k.adds)
      (ap (option_and_then (λ p. option_and_then (operated op p) (value_of x.values (leaves x) b))) h.found.1
      ∙ ap (option_and_then (operated op h.found.0)) k.found)

  -- what the operands mean where both have a value
  pub both-meant : (s t u : Standing) (left right : Val) → Evaluates s t x a (Ok (Some left)) → Evaluates t u x b (Ok (Some right)) → (p : Tree) × (q : Tree) × IsMeant u left p × IsMeant u right q
  both-meant s t u left right h k = (h.found.0, k.found.0, meant-lasts t u left h.found.0 k.adds.gains.lasts.known h.found.2, k.found.2)

  pub both-there : (s t u : Standing) (left right : Val) (found : Option Val) → Evaluates s t x a (Ok (Some left)) → Evaluates t u x b (Ok (Some right)) →
      ((p q : Tree) → IsMeant u left p → IsMeant u right q → Finds u (operated op p q) found) → Evaluates s u x (binary op a b) (Ok found)
  both-there s t u left right found h k gives =
      let is : value_of x.values (leaves x) (binary op a b) ≡ operated op h.found.0 k.found.0 =
      ap (option_and_then (λ p. option_and_then (operated op p) (value_of x.values (leaves x) b))) h.found.1
      ∙ ap (option_and_then (operated op h.found.0)) k.found.1 in
      record {
        adds = both-added s t u h.adds k.adds;
        found = subst (λ wanted. Finds u wanted found) (sym is) (gives h.found.0 k.found.0 (meant-lasts t u left h.found.0 k.adds.gains.lasts.known h.found.2) k.found.2);
        seen = if-some found (AreSeen u (built_cells x (binary op a b)))
            (told-each u.seen (built_cells x a) (built_cells x b) (built_cells x (binary op a b))
            (λ seen one other. cells-each (built_in x.values (leaves x) a) (built_in x.values (leaves x) b) seen one other)
            (told-lasts t.seen u.seen (built_cells x a) k.adds.gains.lasts.seen h.seen) k.seen);
        full = tt;
      }

-- ---- choices

abbrev is_truth : Val → Bool
is_truth (v.Int n) = false
is_truth (v.Bool d) = true
is_truth (v.Ref h) = false
is_truth v.Unset = false

-- a number, a name, a tree and what is not set are no truth values
pub no-truth-value : (value : Val) → ((n : ℤ) × (value ≡ v.Int n)) ⊎ (((h : Handle) × (value ≡ v.Ref h)) ⊎ (value ≡ v.Unset)) → (d : Bool) → value ≡ v.Bool d → ⊥
no-truth-value value (inl (n, e)) d f = false≢true (ap is_truth (sym e ∙ f))
no-truth-value value (inr (inl (h, e))) d f = false≢true (ap is_truth (sym e ∙ f))
no-truth-value value (inr (inr e)) d f = false≢true (ap is_truth (sym e ∙ f))

module _ (x : Inputs) (c a b : Expression) where
  condition-in : IsWithin (built_cells x c) (built_cells x (choice c a b))
  condition-in = cells-left (built_in x.values (leaves x) c) (option_map_or (λ taken. cond taken (built_in x.values (leaves x) a) (built_in x.values (leaves x) b)) (option_and_then bool_in (value_of x.values (leaves x) c)) [])

  pub condition-full : (s t : Standing) (f : Full) (answer : Result (Option Val) Full) → Evaluates s t x c (Err f) → IsErr answer → Evaluates s t x (choice c a b) answer
  condition-full s t f answer h err =
      ends-full s t x (choice c a b) answer (adds-more s t (built_cells x c) (built_cells x (choice c a b)) condition-in h.adds)
      (lacks-more t (built_cells x c) (built_cells x (choice c a b)) condition-in h.full) err

  pub condition-none : (s t : Standing) → Evaluates s t x c (Ok None) → Evaluates s t x (choice c a b) (Ok None)
  condition-none s t h =
      ends-none s t x (choice c a b) (adds-more s t (built_cells x c) (built_cells x (choice c a b)) condition-in h.adds)
      (ap (option_and_then (λ p. option_and_then (λ taken. chosen taken (value_of x.values (leaves x) a) (value_of x.values (leaves x) b)) (bool_in p))) h.found)

  -- a value that is no truth value chooses nothing
  no-truth : (s : Standing) (value : Val) (p : Tree) → ((d : Bool) → value ≡ v.Bool d → ⊥) → Means s value p → bool_in p ≡ None
  no-truth s (v.Int n) p other m = ap bool_in m
  no-truth s (v.Bool d) p other m = absurd (other d refl)
  no-truth s (v.Ref h) (int i) other m = refl
  no-truth s (v.Ref h) (bool d) other m = absurd (false≢true m.0)
  no-truth s (v.Ref h) (name n) other m = refl
  no-truth s (v.Ref h) (node q kids) other m = refl
  no-truth s v.Unset p other m = absurd m

  pub condition-other : (s t : Standing) (value : Val) → ((d : Bool) → value ≡ v.Bool d → ⊥) → Evaluates s t x c (Ok (Some value)) → Evaluates s t x (choice c a b) (Ok None)
  condition-other s t value other h =
      ends-none s t x (choice c a b) (adds-more s t (built_cells x c) (built_cells x (choice c a b)) condition-in h.adds)
      (ap (option_and_then (λ p. option_and_then (λ taken. chosen taken (value_of x.values (leaves x) a) (value_of x.values (leaves x) b)) (bool_in p))) h.found.1
      ∙ ap (option_and_then (λ taken. chosen taken (value_of x.values (leaves x) a) (value_of x.values (leaves x) b))) (no-truth t value h.found.0 other h.found.2.means))

  -- what is built and what the value is where the condition is known
  truth-there : (t : Standing) (d : Bool) (value : Val) (p : Tree) → value ≡ v.Bool d → value_of x.values (leaves x) c ≡ Some p → IsMeant t value p → value_of x.values (leaves x) c ≡ Some (bool d)
  truth-there t d value p e is m = is ∙ ap (λ (q : Tree). Some q) (subst (λ (w : Val). Means t w p) e m.means)

  built-chosen : (d : Bool) → value_of x.values (leaves x) c ≡ Some (bool d) → built_in x.values (leaves x) (choice c a b) ≡ built_in x.values (leaves x) c ++ cond d (built_in x.values (leaves x) a) (built_in x.values (leaves x) b)
  built-chosen d e =
      ap (λ (o : Option Tree). built_in x.values (leaves x) c ++ option_map_or (λ taken. cond taken (built_in x.values (leaves x) a) (built_in x.values (leaves x) b)) (option_and_then bool_in o) []) e

  value-chosen : (d : Bool) → value_of x.values (leaves x) c ≡ Some (bool d) → value_of x.values (leaves x) (choice c a b) ≡ cond d (value_of x.values (leaves x) a) (value_of x.values (leaves x) b)
  value-chosen d e = ap (option_and_then (λ p. option_and_then (λ taken. chosen taken (value_of x.values (leaves x) a) (value_of x.values (leaves x) b)) (bool_in p))) e

  -- the branch that is taken gives the answer
  follows : (s t u : Standing) (e : Expression) (condition : Val) (answer : Result (Option Val) Full) →
      built_in x.values (leaves x) (choice c a b) ≡ built_in x.values (leaves x) c ++ built_in x.values (leaves x) e → value_of x.values (leaves x) (choice c a b) ≡ value_of x.values (leaves x) e →
      Evaluates s t x c (Ok (Some condition)) → Evaluates t u x e answer → Evaluates s u x (choice c a b) answer
  follows s t u e condition answer built is h k = over answer k where
    whole : List CellTree
    whole = built_cells x (choice c a b)

    branch-in : IsWithin (built_cells x e) whole
    branch-in = subst (λ (ts : List Tree). IsWithin (built_cells x e) (cells_of_trees ts)) (sym built) (cells-right (built_in x.values (leaves x) c) (built_in x.values (leaves x) e))

    adds : Adds t u (built_cells x e) → Adds s u whole
    adds g = adds-in s t u (built_cells x e) whole branch-in (adds-more s t (built_cells x c) whole condition-in h.adds) g

    seen : Adds t u (built_cells x e) → AreSeen u (built_cells x e) → AreSeen u whole
    seen g f =
        told-each u.seen (built_cells x c) (built_cells x e) whole
        (λ cells one other. subst (λ (ts : List Tree). IsWithin (cells_of_trees ts) cells) (sym built) (cells-each (built_in x.values (leaves x) c) (built_in x.values (leaves x) e) cells one other))
        (told-lasts t.seen u.seen (built_cells x c) g.gains.lasts.seen h.seen) f

    over : (ans : Result (Option Val) Full) → Evaluates t u x e ans → Evaluates s u x (choice c a b) ans
    over (Ok None) k' = ends-none s u x (choice c a b) (adds k'.adds) (is ∙ k'.found)
    over (Ok (Some value)) k' = ends-some s u x (choice c a b) value k'.found.0 (adds k'.adds) (is ∙ k'.found.1) k'.found.2 (seen k'.adds k'.seen)
    over (Err f) k' = ends-full s u x (choice c a b) (Err f) (adds k'.adds) (lacks-more u (built_cells x e) whole branch-in k'.full) refl

  pub then-chosen : (s t u : Standing) (condition : Val) (answer : Result (Option Val) Full) → condition ≡ v.Bool true → Evaluates s t x c (Ok (Some condition)) → Evaluates t u x a answer → Evaluates s u x (choice c a b) answer
  then-chosen s t u condition answer e h k =
      let is = truth-there t true condition h.found.0 e h.found.1 h.found.2 in
      follows s t u a condition answer (built-chosen true is) (value-chosen true is) h k

  pub other-chosen : (s t u : Standing) (condition : Val) (answer : Result (Option Val) Full) → condition ≡ v.Bool false → Evaluates s t x c (Ok (Some condition)) → Evaluates t u x b answer → Evaluates s u x (choice c a b) answer
  other-chosen s t u condition answer e h k =
      let is = truth-there t false condition h.found.0 e h.found.1 h.found.2 in
      follows s t u b condition answer (built-chosen false is) (value-chosen false is) h k
