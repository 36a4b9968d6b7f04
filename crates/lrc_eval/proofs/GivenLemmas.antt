-- What is given to the parts of an expression, and what stays given while a store grows.
use Rattle.std.proofs.Common.{◌≡◌, ℕ, zero, suc, ◌<◌, Bool, true, false, List, length, refl, ◌∙◌, ap, arith, Option, Some, None, IsSome, cond}
use Rattle.std.specs.Prelude.{slice_get, option_and_then}
use Rattle.std.proofs.lemmas.List.Elements.{Contains-append_left, Contains-append_right}
use Rattle.std.proofs.lemmas.Bool.{false≢true}
use Rattle.std.proofs.lemmas.Option.{slice_get_within}
use Rattle.lrc_base.specs.declared.grammar.Kid.{Kid}
use Rattle.lrc_base.specs.declared.expr.Op.{Op}
use Rattle.lrc_base.specs.declared.expr.Op.TheVariants as o
use Rattle.lrc_meaning.specs.Tree.{Tree, Trees, none, more, node, in_order, is_sort}
use Rattle.lrc_meaning.specs.Expression.{Expression, occurrence, leaf, binary, choice, make, Expressions, and_more}
use Rattle.lrc_order_meaning.specs.Needs.{reads, reads_of_each}
use Rattle.lrc_store.specs.Standing.{Standing, meant}
use Rattle.lrc_store.specs.Words.{Keeps}
use Rattle.lrc_store.specs.declared.cells.Handle.{Handle}
use Rattle.lrc_store.proofs.Known.{stands-meant}
use Rattle.lrc_code.specs.Forms.{tree_cell, kid_cells, EachNameBelow}
use Rattle.lrc_code.specs.Reading.{HasKid}
use Rattle.lrc_call_meaning.specs.Spelled.{IsSpelledName, IsSpelled}
use Rattle.lrc_eval.specs.declared.values.Val.{Val}
use Rattle.lrc_eval.specs.declared.values.Val.TheVariants as v
use Rattle.lrc_eval.specs.Values.{Means, IsMeant}
use Rattle.lrc_eval.specs.Evaluating.{Inputs, leaves, IsSet, IsNode, AreGiven, AreGivenForEach}
use Rattle.lrc_eval.proofs.CellLemmas.{kid-cell}

-- ---- what stays given

means-lasts : (s t : Standing) (value : Val) (x : Tree) → Keeps s t → Means s value x → Means t value x
means-lasts s t (v.Int n) x k m = m
means-lasts s t (v.Bool b) x k m = m
means-lasts s t (v.Ref h) x k m = (m.0, k h.0 (tree_cell x) m.1)
means-lasts s t v.Unset x k m = m

pub meant-lasts : (s t : Standing) (value : Val) (x : Tree) → Keeps s t → IsMeant s value x → IsMeant t value x
meant-lasts s t value x k m = record { means = means-lasts s t value x k m.means; spelled = m.spelled }

set-lasts : (s t : Standing) (values : List Val) (trees : List Tree) (i : ℕ) → Keeps s t → IsSet s values trees i → IsSet t values trees i
set-lasts s t values trees i k h =
    record { value = h.value; tree = h.tree; is_there = h.is_there; of_tree = h.of_tree; meant = meant-lasts s t h.value h.tree k h.meant }

node-lasts : (s t : Standing) (handle : Handle) (x : Inputs) → Keeps s t → IsNode s handle x → IsNode t handle x
node-lasts s t handle x k h =
    record { stands = k handle.0 (tree_cell (node x.production x.trees)) h.stands; spelled = h.spelled; count = h.count }

pub given-lasts : (s t : Standing) (values : List Val) (handle : Handle) (x : Inputs) (e : Expression) → Keeps s t → AreGiven s values handle x e → AreGiven t values handle x e
given-lasts s t values handle x e k g =
    record { node = node-lasts s t handle x k g.node; set = λ i h. set-lasts s t values x.values i k (g.set i h); fits = g.fits }

pub each-given-lasts : (s t : Standing) (values : List Val) (handle : Handle) (x : Inputs) (es : Expressions) → Keeps s t → AreGivenForEach s values handle x es → AreGivenForEach t values handle x es
each-given-lasts s t values handle x es k g =
    record { node = node-lasts s t handle x k g.node; set = λ i h. set-lasts s t values x.values i k (g.set i h); fits = g.fits }

-- ---- what the parts are given

module _ (s : Standing) (values : List Val) (handle : Handle) (x : Inputs) where
  pub given-left : (op : Op) (a b : Expression) → AreGiven s values handle x (binary op a b) → AreGiven s values handle x a
  given-left op a b g = record { node = g.node; set = λ i h. g.set i (Contains-append_left (reads a) (reads b) i h); fits = g.fits.0 }

  pub given-right : (op : Op) (a b : Expression) → AreGiven s values handle x (binary op a b) → AreGiven s values handle x b
  given-right op a b g = record { node = g.node; set = λ i h. g.set i (Contains-append_right (reads a) (reads b) i h); fits = g.fits.1 }

  pub given-condition : (c a b : Expression) → AreGiven s values handle x (choice c a b) → AreGiven s values handle x c
  given-condition c a b g = record { node = g.node; set = λ i h. g.set i (Contains-append_left (reads c) (reads (binary o.Equal a b)) i h); fits = g.fits.0 }

  pub given-then : (c a b : Expression) → AreGiven s values handle x (choice c a b) → AreGiven s values handle x a
  given-then c a b g = record {
    node = g.node;
    set = λ i h. g.set i (Contains-append_right (reads c) (reads (binary o.Equal a b)) i (Contains-append_left (reads a) (reads b) i h));
    fits = g.fits.1;
  }

  pub given-other : (c a b : Expression) → AreGiven s values handle x (choice c a b) → AreGiven s values handle x b
  given-other c a b g = record {
    node = g.node;
    set = λ i h. g.set i (Contains-append_right (reads c) (reads (binary o.Equal a b)) i (Contains-append_right (reads a) (reads b) i h));
    fits = g.fits.2;
  }

  pub given-arguments : (p : ℕ) (es : Expressions) → AreGiven s values handle x (make p es) → AreGivenForEach s values handle x es
  given-arguments p es g = record { node = g.node; set = g.set; fits = g.fits.1 }

  pub given-first : (e : Expression) (es : Expressions) → AreGivenForEach s values handle x (and_more e es) → AreGiven s values handle x e
  given-first e es g = record { node = g.node; set = λ i h. g.set i (Contains-append_left (reads e) (reads_of_each es) i h); fits = g.fits.0 }

  pub given-rest : (e : Expression) (es : Expressions) → AreGivenForEach s values handle x (and_more e es) → AreGivenForEach s values handle x es
  given-rest e es g = record { node = g.node; set = λ i h. g.set i (Contains-append_right (reads e) (reads_of_each es) i h); fits = g.fits.1 }

  pub given-value : (i : ℕ) → AreGiven s values handle x (occurrence i) → IsSet s values x.values i
  given-value i g = g.set i (0, omega arith, refl)

-- ---- leaves

-- a leaf of a node is a child of its cell, whose names are spelled
pub record LeafThere (s : Standing) (handle : Handle) (x : Inputs) (i : ℕ) : Type 0 where
  pub tree : Tree
  pub of_tree : leaves x i ≡ Some tree
  pub kid : HasKid (meant s handle.0) i (tree_cell tree)
  pub spelled : IsSpelled tree

item-there : (ts : Trees) (i : ℕ) → i < length (in_order ts) → EachNameBelow IsSpelledName ts → (t : Tree) × (slice_get (in_order ts) i ≡ Some t) × IsSpelled t
item-there none i l h = absurd (omega arith)
item-there (more t ts) zero l h = (t, refl, h.0)
item-there (more t ts) (suc i) l h = item-there ts i (omega arith) h.1

pub leaf-there : (s : Standing) (values : List Val) (handle : Handle) (x : Inputs) (i : ℕ) → AreGiven s values handle x (leaf i) → LeafThere s handle x i
leaf-there s values handle x i g = over (slice_get x.kids i) refl g.fits where
  at : (kid : Kid) → slice_get x.kids i ≡ Some kid → (b : Bool) → is_sort kid.kind ≡ b → IsSome (cond b None (Some kid.kind)) → LeafThere s handle x i
  at kid e true f h = absurd (false≢true h)
  at kid e false f h =
      let within = slice_get_within x.kids i kid e in
      let item = item-there x.trees i (omega (arith, within, g.node.count)) g.node.spelled in
      record {
        tree = item.0;
        of_tree = ap (option_and_then (λ (k : Kid). cond (is_sort k.kind) None (slice_get (in_order x.trees) i))) e
            ∙ ap (λ b. cond b None (slice_get (in_order x.trees) i)) f ∙ item.1;
        kid = (x.production, kid_cells x.trees, stands-meant s handle.0 (tree_cell (node x.production x.trees)) g.node.stands, kid-cell x.trees i item.0 item.1);
        spelled = item.2;
      }

  over : (o : Option Kid) → slice_get x.kids i ≡ o → IsSome (option_and_then (λ (k : Kid). cond (is_sort k.kind) None (Some k.kind)) o) → LeafThere s handle x i
  over None e h = absurd (false≢true h)
  over (Some kid) e h = at kid e (is_sort kid.kind) refl h
