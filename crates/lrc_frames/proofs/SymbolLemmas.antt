-- The tree of a symbol stands where the symbol's origin says, and is found there.
use Rattle.std.proofs.Common.{◌≡◌, ℕ, zero, suc, ◌+◌, ◌<◌, Bool, true, false, cond, IsTrue, List, [], ◌∷◌, ◌++◌, length, Contains, Option, Some, None, slice_get, refl, sym, ap, ◌∙◌, subst, arith, append_assoc}
use Rattle.std.specs.Prelude.{slice_index_or}
use Rattle.std.specs.Option.{option_map_or}
use Rattle.std.proofs.lemmas.Bool.{and_parts, false≢true}
use Rattle.std.proofs.lemmas.Option.{none-some, same_Some, slice_get-get_or}
use Rattle.lrc_base.specs.declared.grammar.Kind.{Kind}
use Rattle.lrc_base.specs.declared.grammar.Kind.TheVariants as k
use Rattle.lrc_base.specs.declared.grammar.Kid.{Kid}
use Rattle.lrc_base.specs.declared.grammar.Extra.{Extra}
use Rattle.lrc_base.specs.declared.grammar.Sort.{Sort}
use Rattle.lrc_base.specs.declared.grammar.Production.{Production}
use Rattle.lrc_base.specs.declared.signature.Origin.{Origin}
use Rattle.lrc_base.specs.declared.signature.Origin.TheVariants as origin
use Rattle.lrc_base.specs.declared.signature.Symbol.{Symbol}
use Rattle.lrc_meaning.specs.Tree.{Tree, Trees, node, none, more, in_order, is_sort}
use Rattle.lrc_meaning.specs.Grammar.{Grammar}
use Rattle.lrc_meaning.specs.Signature.{kid_attributes, extra_attributes, signed_symbol, signed_kids, signed_extras, signed_symbols}
use Rattle.lrc_order_meaning.specs.declared.Place.{Place}
use Rattle.lrc_order_meaning.specs.declared.Partition.{Partition}
use Rattle.lrc_order_meaning.specs.Needs.{left_place, symbols_of}
use Rattle.lrc_order_meaning.specs.Signed.{place_of}
use Rattle.lrc_order_meaning.specs.Signed as signed
use Rattle.lrc_order_meaning.proofs.SignedLemmas.{signed_places}
use Rattle.lrc_order_meaning.proofs.MemberLemmas.{member_first}
use Rattle.lrc_plan_meaning.specs.declared.Bound.{Bound}
use Rattle.lrc_plan_meaning.specs.declared.Bound.TheVariants as b
use Rattle.lrc_plan_meaning.specs.Items.{tree_of, symbol_at}
use Rattle.lrc_visit_meaning.specs.Values.{value_in, no_tree}
use Rattle.lrc_visit_meaning.specs.Visits.{is_of_kind, are_of_kinds, symbol_trees, tree_at}
use Rattle.lrc_laws.proofs.OccurrenceLemmas.{of_mapped}
use Rattle.lrc_store.specs.Standing.{Standing, Stands, IsKnown, meant}
use Rattle.lrc_store.specs.declared.cells.Handle.{Handle}
use Rattle.lrc_store.proofs.Known.{known-stands, stands-meant}
use Rattle.lrc_code.specs.Forms.{tree_cell, kid_cells, EachNameBelow}
use Rattle.lrc_code.specs.Reading.{HasKid}
use Rattle.lrc_call_meaning.specs.Spelled.{IsSpelledName, IsSpelled}
use Rattle.lrc_eval.specs.declared.values.Val.{Val}
use Rattle.lrc_eval.specs.declared.values.Val.TheVariants as v
use Rattle.lrc_eval.specs.Values.{Means, is_name_or_node}
use Rattle.lrc_eval.proofs.CellLemmas.{one-kid, kid-cell}
use Rattle.lrc_functions.specs.Functions.{origin_of}
use Rattle.lrc_frames.specs.declared.body.Body.{Body}
use Rattle.lrc_frames.specs.Frames.{Run, RunsAt}
use Rattle.lrc_frames.specs.Writing.{StandsAt}

-- ---- handles of trees

-- a value that is no handle means a number or a truth value
pub no-handle : (s : Standing) (value : Val) (t : Tree) → ((handle : Handle) → value ≡ v.Ref handle → ⊥) → Means s value t → is_name_or_node t ≡ false
no-handle s (v.Int n) t unheld m = ap is_name_or_node m
no-handle s (v.Bool c) t unheld m = ap is_name_or_node m
no-handle s (v.Ref handle) t unheld m = absurd (unheld handle refl)
no-handle s v.Unset t unheld m = absurd m

-- a child's handle stands for it
pub kid-stands : (s u : Standing) (parent kid i : ℕ) (t : Tree) → HasKid (meant s parent) i (tree_cell t) → IsKnown u kid → HasKid (meant s parent) i (meant u kid) → Stands u kid (tree_cell t)
kid-stands s u parent kid i t own known found = subst (Stands u kid) (one-kid (meant s parent) i (meant u kid) (tree_cell t) found own) (known-stands u kid known)

-- ---- the children

same-child : (i j : ℕ) → origin.Child i ≡ origin.Child j → i ≡ j
same-child i j e = cc

no-child : (start i : ℕ) → origin.Value start ≡ origin.Child i → ⊥
no-child start i e = cc

-- the n-th of these symbols' trees is child i, where the children are numbered on from this number
record KidAt (i : ℕ) (ts : Trees) (symbols : List Tree) (from n : ℕ) : Type 0 where
  passed : ℕ
  place : i ≡ from + passed
  at : slice_get (in_order ts) passed ≡ Some (slice_index_or symbols n no_tree)

module _ (i : ℕ) where
  -- no such symbol is a child
  abbrev NoChild : List Symbol → Type 0
  NoChild symbols = (m : ℕ) (y : Symbol) → slice_get symbols m ≡ Some y → y.origin ≡ origin.Child i → ⊥

  extra-over : (called : List ℕ) (kind : Kind) (attached : Bool) (start : ℕ) (later : List Symbol) → NoChild later → NoChild (cond attached (signed_symbol called kind (origin.Value start) (start + 1)) [] ++ later)
  extra-over called kind false start later childless m y e is = childless m y e is
  extra-over called k.Int true start later childless m y e is = childless m y e is
  extra-over called k.Bool true start later childless m y e is = childless m y e is
  extra-over called k.Name true start later childless m y e is = childless m y e is
  extra-over called (k.Sort s) true start later childless zero y e is = no-child start i (ap (λ (z : Symbol). z.origin) (same_Some _ y e) ∙ is)
  extra-over called (k.Sort s) true start later childless (suc m) y e is = childless m y e is

  extras-none : (sorts : List Sort) (start : ℕ) (xs : List Extra) → NoChild (signed_extras sorts start xs)
  extras-none sorts start [] m y e is = absurd (none-some y e)
  extras-none sorts start (x ∷ xs) m y e is =
      extra-over x.name x.kind x.attached start (signed_extras sorts (start + length (extra_attributes sorts x)) xs) (extras-none sorts (start + length (extra_attributes sorts x)) xs) m y e is

  kid-later : (t : Tree) (ts : Trees) (trees : List Tree) (from m : ℕ) → KidAt i ts trees (from + 1) m → KidAt i (more t ts) trees from m
  kid-later t ts trees from m r = record { passed = suc r.passed; place = (let place = r.place in omega (arith, place)); at = r.at }

  kid-over : (called : List ℕ) (kind : Kind) (start from n : ℕ) (t : Tree) (ts : Trees) (later : List Symbol) (trees : List Tree) (x : Symbol) → ((m : ℕ) → slice_get later m ≡ Some x → KidAt i ts trees (from + 1) m)
      → slice_get (signed_symbol called kind (origin.Child from) start ++ later) n ≡ Some x → x.origin ≡ origin.Child i → KidAt i (more t ts) (cond (is_sort kind) (t ∷ trees) trees) from n
  kid-over called k.Int start from n t ts later trees x rest e is = kid-later t ts trees from n (rest n e)
  kid-over called k.Bool start from n t ts later trees x rest e is = kid-later t ts trees from n (rest n e)
  kid-over called k.Name start from n t ts later trees x rest e is = kid-later t ts trees from n (rest n e)
  kid-over called (k.Sort s) start from zero t ts later trees x rest e is =
      let same : from ≡ i = same-child from i (ap (λ (z : Symbol). z.origin) (same_Some _ x e) ∙ is) in
      record { passed = 0; place = omega arith; at = refl }
  kid-over called (k.Sort s) start from (suc m) t ts later trees x rest e is =
      let r = rest m e in
      record { passed = suc r.passed; place = (let place = r.place in omega (arith, place)); at = r.at }

  kid-at : (prods : List Production) (sorts : List Sort) (start from n : ℕ) (kids : List Kid) (ts : Trees) (x : Symbol) (rest : List Symbol) → NoChild rest → IsTrue (are_of_kinds prods ts kids)
      → slice_get (signed_kids sorts start from kids ++ rest) n ≡ Some x → x.origin ≡ origin.Child i → KidAt i ts (symbol_trees kids ts) from n
  kid-at prods sorts start from n [] ts x rest childless h e is = absurd (childless n x e is)
  kid-at prods sorts start from n (kid ∷ kids) none x rest childless h e is = absurd (false≢true h)
  kid-at prods sorts start from n (kid ∷ kids) (more t ts) x rest childless h e is =
      let own = signed_symbol kid.name kid.kind (origin.Child from) start in
      let next = start + length (kid_attributes sorts kid) in
      let later = signed_kids sorts next (from + 1) kids in
      kid-over kid.name kid.kind start from n t ts (later ++ rest) (symbol_trees kids ts) x
      (λ m f. kid-at prods sorts next (from + 1) m kids ts x rest childless (and_parts (is_of_kind prods t kid.kind) (are_of_kinds prods ts kids) h).1 f is)
      (ap (λ (ys : List Symbol). slice_get ys n) (sym (append_assoc own later rest)) ∙ e) is

child-spelled : (ts : Trees) (i : ℕ) (t : Tree) → slice_get (in_order ts) i ≡ Some t → EachNameBelow IsSpelledName ts → IsSpelled t
child-spelled none i t e h = absurd (none-some t e)
child-spelled (more u us) zero t e h = subst IsSpelled (same_Some u t e) h.0
child-spelled (more u us) (suc i) t e h = child-spelled us i t e h.1

-- ---- the tree of a symbol

-- the tree stands there, and its names are spelled
pub record TreeThere (s : Standing) (frame : List Val) (body : Body) (from : Origin) (t : Tree) : Type 0 where
  pub stands : StandsAt s frame body from t
  pub spelled : IsSpelled t

module _ (g : Grammar) (parts : List Partition) (s : Standing) (frame : List Val) (body : Body) (r : Run) (n : ℕ) (runs : RunsAt g parts s frame body r)
    (less : n < length (symbols_of g.sorts r.production)) (taken : (x : Bound) → Contains (tree_of (symbol_at g.sorts r.production n)) x → Contains r.available x) where
  abbrev p : Production
  p = r.production

  abbrev place : Place
  place = symbol_at g.sorts p n

  abbrev tree : Tree
  tree = tree_at g p r.kids r.held n

  symbol : (x : Symbol) × (slice_get (signed_symbols g.sorts p.left p.kids p.extras) n ≡ Some x) × (place_of x ≡ place)
  symbol =
      of_mapped place_of (signed_symbols g.sorts p.left p.kids p.extras) n place
      (ap (λ (ps : List Place). slice_get ps n) (signed_places g.sorts p) ∙ slice_get-get_or (symbols_of g.sorts p) n (left_place p) less)

  origin-is : origin_of g.sorts parts p n ≡ symbol.0.origin
  origin-is = ap (λ q. option_map_or (λ (x : Symbol). x.origin) q (origin.Child 0)) symbol.1

  tree-place : place.tree ≡ signed.tree_at symbol.0.origin
  tree-place = sym (ap (λ (q : Place). q.tree) symbol.2)

  abbrev child_or : Option ℕ → Tree
  child_or q = option_map_or (λ x. value_in (r.held (b.Value x))) q (slice_index_or (symbol_trees p.kids r.kids) n no_tree)

  child-there : (i : ℕ) → symbol.0.origin ≡ origin.Child i → TreeThere s frame body (origin.Child i) tree
  child-there i is =
      let found = kid-at i g.prods g.sorts _ 0 n p.kids r.kids symbol.0 _ (extras-none i g.sorts _ p.extras) runs.kinds symbol.1 is in
      let same : found.passed ≡ i = (let place = found.place in omega (arith, place)) in
      let tree-is : child_or None ≡ tree = ap child_or (sym (tree-place ∙ ap signed.tree_at is)) in
      let at : slice_get (in_order r.kids) i ≡ Some tree = ap (slice_get (in_order r.kids)) (sym same) ∙ found.at ∙ ap Some tree-is in
      record {
        stands = (body.production, kid_cells r.kids, stands-meant s body.tree.0 (tree_cell (node body.production r.kids)) runs.tree, kid-cell r.kids i tree at);
        spelled = child-spelled r.kids i tree at runs.spelled;
      }

  value-there : (x : ℕ) → symbol.0.origin ≡ origin.Value x → TreeThere s frame body (origin.Value x) tree
  value-there x is =
      let tree-in : place.tree ≡ Some x = tree-place ∙ ap signed.tree_at is in
      let own : Contains (tree_of place) (b.Value x) = subst (λ q. Contains (option_map_or (λ t. b.Value t ∷ []) q []) (b.Value x)) (sym tree-in) (member_first (b.Value x) []) in
      let shown = runs.holds (b.Value x) (taken (b.Value x) own) in
      let same : value_in (r.held (b.Value x)) ≡ tree = ap child_or (sym tree-in) in
      subst (TreeThere s frame body (origin.Value x)) same (record { stands = (shown.value, shown.there, shown.shows.means); spelled = shown.shows.spelled })

  there-over : (from : Origin) → symbol.0.origin ≡ from → TreeThere s frame body from tree
  there-over (origin.Child i) is = child-there i is
  there-over (origin.Value x) is = value-there x is

  pub tree-there : TreeThere s frame body (origin_of g.sorts parts p n) tree
  tree-there = there-over (origin_of g.sorts parts p n) (sym origin-is)
