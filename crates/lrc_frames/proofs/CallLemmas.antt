-- A call is made of the symbol's tree and of what stands at the numbers of its callee; and what its making answers.
use Rattle.std.proofs.Common.{◌≡◌, ℕ, ◌+◌, ◌-◌, ◌≤◌, true, cond, List, [], ◌++◌, map, Contains, Option, Some, None, refl, sym, ap, ◌∙◌, subst, arith, inl, inr}
use Rattle.std.specs.Prelude.{Result, Ok, Err, IsErr}
use Rattle.std.specs.List.{range_with_len}
use Rattle.std.proofs.Math.Logic.{∥∥₁_elim}
use Rattle.std.proofs.lemmas.Bool.{false≢true, cases_lt}
use Rattle.std.proofs.lemmas.List.Elements.{All-contains, Contains-append_left, Contains-append_right}
use Rattle.lrc_base.specs.declared.grammar.Kind.TheVariants as k
use Rattle.lrc_base.specs.declared.grammar.Production.{Production}
use Rattle.lrc_base.specs.declared.signature.Origin.{Origin}
use Rattle.lrc_meaning.specs.Tree.{Tree}
use Rattle.lrc_meaning.specs.Grammar.{Grammar}
use Rattle.lrc_meaning.specs.Limits.{IsWithinLimits}
use Rattle.lrc_order_meaning.specs.declared.Place.{Place}
use Rattle.lrc_order_meaning.specs.declared.Partition.{Partition}
use Rattle.lrc_order_meaning.specs.Ordered.{Partitions, HasOrder}
use Rattle.lrc_plan_meaning.specs.declared.Bound.{Bound}
use Rattle.lrc_plan_meaning.specs.declared.Bound.TheVariants as b
use Rattle.lrc_plan_meaning.specs.Items.{attrs_of_visit, values_of_visit, tree_of, taken, symbol_at}
use Rattle.lrc_plan_meaning.specs.Sound.{IsVisitThere}
use Rattle.lrc_visit_meaning.specs.Values.{Call}
use Rattle.lrc_visit_meaning.specs.Visits.{is_of_kind, call_of}
use Rattle.lrc_cell_laws.proofs.TagLemmas.{nine_visits}
use Rattle.lrc_store.specs.Cells.{CellTree, pair, parts as parts_of, IsWithin}
use Rattle.lrc_store.specs.Standing.{Standing, Stands, IsKnown, meant}
use Rattle.lrc_store.specs.Words.{Keeps, Reads, Adds, LacksOne}
use Rattle.lrc_store.specs.declared.cells.Handle.{Handle}
use Rattle.lrc_store.specs.declared.stores.Full.{Full}
use Rattle.lrc_store.proofs.Known.{stands-known, stands-meant}
use Rattle.lrc_store.proofs.Lasting.{lasts-then, stays-gains}
use Rattle.lrc_code.specs.Forms.{list_cell, tree_cell, call_cell}
use Rattle.lrc_code.specs.Building.{Builds}
use Rattle.lrc_code.proofs.Growing.{left-within, right-within, builds-then}
use Rattle.lrc_call_meaning.specs.Forms.{values_cell, bindings_cell, binding_cell, call_form}
use Rattle.lrc_call_meaning.specs.Spelled.{IsSpelledCall}
use Rattle.lrc_eval.specs.declared.values.Val.{Val}
use Rattle.lrc_functions.specs.Numbers.{number}
use Rattle.lrc_functions.specs.declared.function.Callee.{Callee}
use Rattle.lrc_frames.specs.declared.body.Body.{Body}
use Rattle.lrc_frames.specs.Frames.{Run}
use Rattle.lrc_frames.specs.Steps.{is_callable, call_cells, Calls}
use Rattle.lrc_frames.specs.Writing.{AreHeld, StandsAt, FindsNode, CanCall}
use Rattle.lrc_frames.proofs.MadeLemmas.{held-lasts, one-stopped, other-stopped, both-built}
use Rattle.lrc_frames.proofs.ShownLemmas.{IsShown, values-held, values-spelled, bounds-held, bounds-spelled}
use Rattle.lrc_frames.proofs.SymbolLemmas.{TreeThere, tree-there}

-- the number of a visit has room in the tag of its call
pub visit-fits : (g : Grammar) (found : Partitions) → ∥ HasOrder g found ∥₁ → IsWithinLimits g → (p : Production) (n v : ℕ) → IsVisitThere g.sorts found.sorts p n v → v ≤ 223
visit-fits g found order few p n v there =
    elim (cases_lt 223 v) [
      | inl more ↦
          let no_two : IsProp ⊥ = hlevel in
          absurd (∥∥₁_elim order no_two (λ is. let most = nine_visits g found is few (symbol_at g.sorts p n).sort in let last = there.last in omega (arith, more, most, last)))
      | inr le ↦ le
    ]

-- what was only read adds nothing
pub reads-adds : (s t : Standing) (cells : List CellTree) → Reads s t → Adds s t cells
reads-adds s t cells reads = record { gains = stays-gains s t cells reads.stays; memo = reads.memo; missed = reads.missed }

-- ---- the cell

inherited-within : (tree inherited bindings : CellTree) (v : ℕ) → IsWithin (parts_of inherited) (parts_of (call_cell tree v inherited bindings))
inherited-within tree inherited bindings v part h = right-within (32 + v) tree (pair 5 inherited bindings) part (left-within 5 inherited bindings part h)

bindings-within : (tree inherited bindings : CellTree) (v : ℕ) → IsWithin (parts_of bindings) (parts_of (call_cell tree v inherited bindings))
bindings-within tree inherited bindings v part h = right-within (32 + v) tree (pair 5 inherited bindings) part (right-within 5 inherited bindings part h)

form-is : (c : Call) → call_cell (tree_cell c.tree) c.visit (values_cell c.inherited) (bindings_cell c.bindings) ≡ call_form c
unfolding call_form
form-is c = refl

module _ (c : Call) where
  abbrev values_of : CellTree
  values_of = values_cell c.inherited

  abbrev bounds_of : CellTree
  bounds_of = bindings_cell c.bindings

  values-in : IsWithin (parts_of values_of) (parts_of (call_form c))
  values-in = subst (λ (w : CellTree). IsWithin (parts_of values_of) (parts_of w)) (form-is c) (inherited-within (tree_cell c.tree) values_of bounds_of c.visit)

  bounds-in : IsWithin (parts_of bounds_of) (parts_of (call_form c))
  bounds-in = subst (λ (w : CellTree). IsWithin (parts_of bounds_of) (parts_of w)) (form-is c) (bindings-within (tree_cell c.tree) values_of bounds_of c.visit)

  module _ (s s1 t : Standing) (reads : Reads s s1) where
    after-reading : (w : Standing) (answer : Result Handle Full) → Builds s1 w (call_form c) answer → Builds s w (call_form c) answer
    after-reading w answer h = builds-then s s1 w (call_form c) (call_form c) answer (λ _ h. h) (reads-adds s s1 (parts_of (call_form c)) reads) h

    stopped-at-values : (e : Full) → Builds s1 t values_of (Err e) → Builds s t (call_form c) (Err e)
    stopped-at-values e first = after-reading t (Err e) (one-stopped values_of bounds_of (call_form c) values-in bounds-in s1 t e (Err e) refl first)

    module _ (u : Standing) (one : Handle) (first : Builds s1 t values_of (Ok one)) where
      stopped-at-bindings : (e : Full) → Builds t u bounds_of (Err e) → Builds s u (call_form c) (Err e)
      stopped-at-bindings e second = after-reading u (Err e) (other-stopped values_of bounds_of (call_form c) values-in bounds-in s1 t u one e (Err e) refl first second)

      all-built : (w : Standing) (two : Handle) (tree : CellTree) (answer : Result Handle Full) → Builds t u bounds_of (Ok two) → tree ≡ tree_cell c.tree
          → Builds u w (call_cell tree c.visit (meant u one.0) (meant u two.0)) answer → Builds s w (call_form c) answer
      all-built w two tree answer second same third =
          after-reading w answer
          (both-built values_of bounds_of (call_form c) values-in bounds-in s1 t u w one two (call_cell tree c.visit) answer (ap (λ x. call_cell x c.visit values_of bounds_of) same ∙ form-is c) first second third)

-- ---- a symbol that can be called

module _ (g : Grammar) (parts : List Partition) (s : Standing) (frame : List Val) (body : Body) (callee : Callee) (r : Run) (n v : ℕ) (can : CanCall g parts s frame body callee r n v) where
  abbrev place : Place
  place = symbol_at g.sorts r.production n

  abbrev call : Call
  call = call_of g parts r.production r.kids r.held n v

  abbrev attrs : List ℕ
  attrs = attrs_of_visit g.sorts parts true place.sort v

  abbrev inherited : List Bound
  inherited = values_of_visit g.sorts parts true place.sort place.start v

  abbrev visits : List ℕ
  visits = range_with_len 1 (v - 1)

  abbrev earlier : List Bound
  earlier = map (λ u. b.Kid n u v) visits

  available : (x : Bound) → Contains (taken g.sorts parts place n v) x → Contains r.available x
  available x c = All-contains (Contains r.available) (taken g.sorts parts place n v) x can.taken c

  pub tree-stands : TreeThere s frame body callee.tree call.tree
  tree-stands =
      subst (λ (from : Origin). TreeThere s frame body from call.tree) (sym (ap (λ (c : Callee). c.tree) can.is_callee))
      (tree-there g parts s frame body r n can.runs can.is_there.symbol (λ x c. available x (Contains-append_left (tree_of place) (inherited ++ earlier) x c)))

  value-shown : (x : Bound) → Contains inherited x → IsShown g parts r.production s frame r.held x
  value-shown x c = can.runs.holds x (available x (Contains-append_right (tree_of place) (inherited ++ earlier) x (Contains-append_left inherited earlier x c)))

  bound-shown : (x : Bound) → Contains earlier x → IsShown g parts r.production s frame r.held x
  bound-shown x c = can.runs.holds x (available x (Contains-append_right (tree_of place) (inherited ++ earlier) x (Contains-append_right inherited earlier x c)))

  -- what it takes stands at the numbers of its callee, later too
  module _ (t : Standing) (keeps : Keeps s t) where
    inherited-held : (read : List ℕ) → read ≡ callee.inherited → AreHeld t frame read (map tree_cell call.inherited)
    inherited-held read e =
        let is = ap (λ (c : Callee). c.inherited) can.is_callee in
        subst (λ (ns : List ℕ). AreHeld t frame ns (map tree_cell call.inherited)) (sym (e ∙ is))
        (held-lasts s t frame (map (λ x. place.start + x) attrs) (map tree_cell call.inherited) keeps (values-held g parts r.production s frame r.held place.start attrs value-shown))

    earlier-held : (read : List ℕ) → read ≡ callee.earlier → AreHeld t frame read (map binding_cell call.bindings)
    earlier-held read e =
        let is = ap (λ (c : Callee). c.earlier) can.is_callee in
        subst (λ (ns : List ℕ). AreHeld t frame ns (map binding_cell call.bindings)) (sym (e ∙ is))
        (held-lasts s t frame (map (λ u. number g.sorts parts r.production (b.Kid n u v)) visits) (map binding_cell call.bindings) keeps (bounds-held g parts r.production s frame r.held n v visits bound-shown))

  call-spelled : IsSpelledCall call
  call-spelled = record {
    tree = tree-stands.spelled;
    inherited = values-spelled g parts r.production s frame r.held place.start attrs value-shown;
    bindings = bounds-spelled g parts r.production s frame r.held n v visits bound-shown;
  }

  visit-is : callee.visit ≡ v
  visit-is = ap (λ (c : Callee). c.visit) can.is_callee

  sort-is : callee.sort ≡ place.sort
  sort-is = ap (λ (c : Callee). c.sort) can.is_callee

  kind-is : (prods : List Production) → prods ≡ g.prods → is_of_kind prods call.tree (k.Sort callee.sort) ≡ is_callable g parts r n
  kind-is prods same = ap (λ (qs : List Production). is_of_kind qs call.tree (k.Sort callee.sort)) same ∙ ap (λ n. is_of_kind g.prods call.tree (k.Sort n)) sort-is

  pub visit-within : v ≤ 223 → callee.visit ≤ 223
  visit-within fits = let same = visit-is in omega (arith, same, fits)

  -- ---- the steps of its call

  -- the tree is no node of the sort, and nothing is made
  pub not-found : (prods : List Production) → prods ≡ g.prods → (t : Standing) → Reads s t → ((x : Tree) → StandsAt s frame body callee.tree x → FindsNode prods t callee.sort x None) → Calls g parts s t r n v (Ok None)
  not-found prods same t reads finds =
      record { adds = reads-adds s t (call_cells g parts r n v) reads; ok = sym (kind-is prods same) ∙ finds call.tree tree-stands.stands; full = tt }

  -- the tree is found
  pub record IsFound (t : Standing) (tree : Handle) : Type 0 where
    pub reads : Reads s t
    pub callable : is_callable g parts r n ≡ true
    pub stands : Stands t tree.0 (tree_cell call.tree)

  pub found : (prods : List Production) → prods ≡ g.prods → (t : Standing) (tree : Handle) → Reads s t → ((x : Tree) → StandsAt s frame body callee.tree x → FindsNode prods t callee.sort x (Some tree)) → IsFound t tree
  found prods same t tree reads finds =
      let node = finds call.tree tree-stands.stands in record { reads = reads; callable = sym (kind-is prods same) ∙ node.0; stands = node.1 }

  -- then the list of the values is put
  pub record IsListed (t u : Standing) (tree one : Handle) : Type 0 where
    pub found : IsFound t tree
    pub first : Builds t u (values_cell call.inherited) (Ok one)

  -- and then that of the bindings
  pub record IsReady (t u w : Standing) (tree one two : Handle) : Type 0 where
    pub listed : IsListed t u tree one
    pub second : Builds u w (bindings_cell call.bindings) (Ok two)

  module _ (callable : is_callable g parts r n ≡ true) where
    abbrev whole : List CellTree
    whole = parts_of (call_form call)

    cells-are : whole ≡ call_cells g parts r n v
    cells-are = ap (λ c. cond c whole []) (sym callable)

    called : (z : Standing) (handle : Handle) → Builds s z (call_form call) (Ok handle) → Calls g parts s z r n v (Ok (Some handle))
    called z handle built = record { adds = subst (Adds s z) cells-are built.adds; ok = (callable, built.ok, call-spelled); full = tt }

    stopped : (z : Standing) (e : Full) (answer : Result (Option Handle) Full) → IsErr answer → Builds s z (call_form call) (Err e) → Calls g parts s z r n v answer
    stopped z e (Ok made) is built = absurd (false≢true is)
    stopped z e (Err f) is built = record { adds = subst (Adds s z) cells-are built.adds; ok = tt; full = subst (LacksOne z) cells-are built.full }

  -- the values are put from the store where the tree was found
  module _ (t : Standing) (tree : Handle) (h : IsFound t tree) (read : List ℕ) (same : read ≡ callee.inherited) where
    pub values-there : AreHeld t frame read (map tree_cell call.inherited)
    values-there = inherited-held t h.reads.stays.lasts.known read same

    -- what putting them answers
    abbrev PutsValues : Standing → Result Handle Full → Type 0
    PutsValues u answer = (cells : List CellTree) → AreHeld t frame read cells → Builds t u (list_cell cells) answer

    pub values-stopped : (u : Standing) (e : Full) (answer : Result (Option Handle) Full) → IsErr answer → PutsValues u (Err e) → Calls g parts s u r n v answer
    values-stopped u e answer is puts =
        stopped h.callable u e answer is (stopped-at-values call s t u h.reads e (puts (map tree_cell call.inherited) values-there))

    pub listed : (u : Standing) (one : Handle) → PutsValues u (Ok one) → IsListed t u tree one
    listed u one puts = record { found = h; first = puts (map tree_cell call.inherited) values-there }

  -- and the bindings behind them
  module _ (t u : Standing) (tree one : Handle) (h : IsListed t u tree one) (read : List ℕ) (same : read ≡ callee.earlier) where
    pub bindings-there : AreHeld u frame read (map binding_cell call.bindings)
    bindings-there = earlier-held u (lasts-then s t u h.found.reads.stays.lasts h.first.adds.gains.lasts).known read same

    abbrev PutsBindings : Standing → Result Handle Full → Type 0
    PutsBindings w answer = (cells : List CellTree) → AreHeld u frame read cells → Builds u w (list_cell cells) answer

    pub bindings-stopped : (w : Standing) (e : Full) (answer : Result (Option Handle) Full) → IsErr answer → PutsBindings w (Err e) → Calls g parts s w r n v answer
    bindings-stopped w e answer is puts =
        stopped h.found.callable w e answer is (stopped-at-bindings call s t u h.found.reads w one h.first e (puts (map binding_cell call.bindings) bindings-there))

    pub ready : (w : Standing) (two : Handle) → PutsBindings w (Ok two) → IsReady t u w tree one two
    ready w two puts = record { listed = h; second = puts (map binding_cell call.bindings) bindings-there }

  -- and the call over all three
  module _ (t u w : Standing) (tree one two : Handle) (h : IsReady t u w tree one two) where
    tree-later : Stands w tree.0 (tree_cell call.tree)
    tree-later = h.second.adds.gains.lasts.known tree.0 (tree_cell call.tree) (h.listed.first.adds.gains.lasts.known tree.0 (tree_cell call.tree) h.listed.found.stands)

    pub tree-known : IsKnown w tree.0
    tree-known = stands-known w tree.0 (tree_cell call.tree) tree-later

    pub values-known : IsKnown w one.0
    values-known = stands-known w one.0 (values_cell call.inherited) (h.second.adds.gains.lasts.known one.0 (values_cell call.inherited) h.listed.first.ok.stands)

    pub bindings-known : IsKnown w two.0
    bindings-known = stands-known w two.0 (bindings_cell call.bindings) h.second.ok.stands

    abbrev PutsCall : Standing → Result Handle Full → Type 0
    PutsCall z answer = Builds w z (call_cell (meant w tree.0) callee.visit (meant w one.0) (meant w two.0)) answer

    built : (z : Standing) (answer : Result Handle Full) → PutsCall z answer → Builds s z (call_form call) answer
    built z answer puts =
        all-built call s t u h.listed.found.reads w one h.listed.first z two (meant w tree.0) answer h.second (stands-meant w tree.0 (tree_cell call.tree) tree-later)
        (subst (λ x. Builds w z (call_cell (meant w tree.0) x (meant w one.0) (meant w two.0)) answer) visit-is puts)

    pub call-stopped : (z : Standing) (e : Full) (answer : Result (Option Handle) Full) → IsErr answer → PutsCall z (Err e) → Calls g parts s z r n v answer
    call-stopped z e answer is puts = stopped h.listed.found.callable z e answer is (built z (Err e) puts)

    pub calls : (z : Standing) (handle : Handle) → PutsCall z (Ok handle) → Calls g parts s z r n v (Ok (Some handle))
    calls z handle puts = called h.listed.found.callable z handle (built z (Ok handle) puts)
