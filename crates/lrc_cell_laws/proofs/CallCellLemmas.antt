-- The cells of calls among the cells of what was met: values, results and the lists of a call have none within.
use Rattle.std.proofs.Common.{◌≡◌, ℕ, zero, suc, ◌+◌, ◌≤◌, ℤ, true, false, nat_lt, List, [], ◌∷◌, ◌++◌, map, drop, length, Contains, inl, inr, refl, sym, ap, ◌∙◌, subst, arith}
use Rattle.std.specs.Int.{div_ceil}
use Rattle.std.specs.List.{AllByRecursion}
use Rattle.std.proofs.lemmas.Bool.{true≢false, and_from, and_right, lt-ltb, le-ltb}
use Rattle.std.proofs.lemmas.List.Elements.{Contains-append_cases}
use Rattle.lrc_meaning.specs.Tree.{Tree, int, bool, name, node, Trees, none, more}
use Rattle.lrc_visit_meaning.specs.Values.{Datum, value, binding, Data, no_data, data_then, Call, Result}
use Rattle.lrc_visit_meaning.specs.Demand.{Met, called, answered, built}
use Rattle.lrc_store.specs.Cells.{CellTree, nil, number, pair, parts}
use Rattle.lrc_code.specs.Forms.{words_cell, name_cell, list_cell, tree_cell, kid_cells}
use Rattle.lrc_order_meaning.proofs.MemberLemmas.{member_first, member_cases, no_member, member_filter, member_of_filter}
use Rattle.lrc_call_meaning.specs.Forms.{datum_cell, data_cells, binding_cell, values_cell, bindings_cell, call_form, result_form}
use Rattle.lrc_call_meaning.specs.Reached.{met_cell, cells_of, is_call_cell, calls_in}
use Rattle.lrc_cell_laws.specs.Laws.{HaveTags}
use Rattle.lrc_cell_laws.proofs.ClosedLemmas.{met_parts, of_met}

-- neither the cell nor any of its parts is a call's
abbrev HasNoCalls : CellTree → Type 0
HasNoCalls cell = (x : CellTree) → Contains (parts cell) x → is_call_cell x ≡ false

nil_without : HasNoCalls nil
nil_without x c = absurd (no_member x c)

number_without : (n : ℤ) → HasNoCalls (number n)
number_without n x c =
    elim (member_cases (number n) [] x c) [ inl e ↦ ap is_call_cell (sym e) | inr later ↦ absurd (no_member x later) ]

-- what a pair has within is itself, or within one of its sides
sides_without : (tag : ℕ) (left right x : CellTree) → HasNoCalls left → HasNoCalls right → Contains (parts left ++ parts right) x → is_call_cell x ≡ false
sides_without tag left right x one other c =
    elim (Contains-append_cases (parts left) (parts right) x c) [ inl l ↦ one x l | inr r ↦ other x r ]

pair_without : (tag : ℕ) (left right : CellTree) → is_call_cell (pair tag left right) ≡ false → HasNoCalls left → HasNoCalls right → HasNoCalls (pair tag left right)
pair_without tag left right is one other x c =
    elim (member_cases (pair tag left right) (parts left ++ parts right) x c) [
      | inl e ↦ ap is_call_cell (sym e) ∙ is
      | inr later ↦ sides_without tag left right x one other later
    ]

list_without : (cells : List CellTree) → AllByRecursion HasNoCalls cells → HasNoCalls (list_cell cells)
list_without [] h = nil_without
list_without (c ∷ cells) h = pair_without 4 c (list_cell cells) refl h.0 (list_without cells h.1)

words_without : (n : ℕ) (bytes : List ℕ) → HasNoCalls (words_cell n bytes)
words_without zero bytes = nil_without
words_without (suc n) bytes = pair_without 3 _ (words_cell n (drop 8 bytes)) refl (number_without _) (words_without n (drop 8 bytes))

name_without : (bytes : List ℕ) → HasNoCalls (name_cell bytes)
unfolding name_cell
name_without bytes = words_without (div_ceil (length bytes) 8) bytes

mutual
  tree_without : (t : Tree) → HasNoCalls (tree_cell t)
  tree_without (int i) = number_without i
  tree_without (bool true) = pair_without 2 nil nil refl nil_without nil_without
  tree_without (bool false) = pair_without 1 nil nil refl nil_without nil_without
  tree_without (name bytes) = name_without bytes
  tree_without (node p kids) =
      pair_without (256 + p) (list_cell (kid_cells kids)) nil (and_right (nat_lt 32 (256 + p)) (nat_lt (256 + p) 256) (le-ltb (256 + p) 256 (omega arith)))
      (list_without (kid_cells kids) (kids_without kids)) nil_without

  kids_without : (ts : Trees) → AllByRecursion HasNoCalls (kid_cells ts)
  kids_without none = tt
  kids_without (more t ts) = (tree_without t, kids_without ts)

mutual
  datum_without : (d : Datum) → HasNoCalls (datum_cell d)
  datum_without (value t) = tree_without t
  datum_without (binding ds) = list_without (data_cells ds) (data_without ds)

  data_without : (ds : Data) → AllByRecursion HasNoCalls (data_cells ds)
  data_without no_data = tt
  data_without (data_then d ds) = (datum_without d, data_without ds)

each_without : {X : Type 0} (cell : X → CellTree) (xs : List X) → ((x : X) → HasNoCalls (cell x)) → AllByRecursion HasNoCalls (map cell xs)
each_without cell [] h = tt
each_without cell (x ∷ xs) h = (h x, each_without cell xs h)

values_without : (ts : List Tree) → HasNoCalls (values_cell ts)
values_without ts = list_without (map tree_cell ts) (each_without tree_cell ts tree_without)

bindings_without : (bs : List Data) → HasNoCalls (bindings_cell bs)
bindings_without bs = list_without (map binding_cell bs) (each_without binding_cell bs (λ ds. list_without (data_cells ds) (data_without ds)))

-- the two lists of a call or a result
lists_without : (ts : List Tree) (bs : List Data) → HasNoCalls (pair 5 (values_cell ts) (bindings_cell bs))
lists_without ts bs = pair_without 5 (values_cell ts) (bindings_cell bs) refl (values_without ts) (bindings_without bs)

result_without : (r : Result) → HasNoCalls (result_form r)
unfolding result_form
result_without r = pair_without 6 _ (pair 5 (values_cell r.synthesised) (bindings_cell r.bindings)) refl (number_without _) (lists_without r.synthesised r.bindings)

-- a call's cell is the only one of a call within it
call_alone : (c : Call) (x : CellTree) → Contains (parts (call_form c)) x → is_call_cell x ≡ true → x ≡ call_form c
unfolding call_form
call_alone c x h is =
    elim (member_cases (call_form c) (parts (tree_cell c.tree) ++ parts (pair 5 (values_cell c.inherited) (bindings_cell c.bindings))) x h) [
      | inl e ↦ sym e
      | inr later ↦
          absurd (true≢false (sym is ∙ sides_without (32 + c.visit) (tree_cell c.tree) (pair 5 (values_cell c.inherited) (bindings_cell c.bindings)) x (tree_without c.tree) (lists_without c.inherited c.bindings) later))
    ]

call_first : (c : Call) → Contains (parts (call_form c)) (call_form c)
unfolding call_form
call_first c = member_first (call_form c) (parts (tree_cell c.tree) ++ parts (pair 5 (values_cell c.inherited) (bindings_cell c.bindings)))

-- the tags of calls
pub call_tagged : (c : Call) → 1 ≤ c.visit → c.visit ≤ 223 → is_call_cell (call_form c) ≡ true
unfolding call_form
call_tagged c low high =
    and_from (nat_lt 32 (32 + c.visit)) (nat_lt (32 + c.visit) 256) (lt-ltb 32 (32 + c.visit) (omega arith)) (lt-ltb (32 + c.visit) 256 (omega arith))

-- a call's cell among those of something that was met is that of a call that was met
met_call : (m : Met) (x : CellTree) → Contains (parts (met_cell m)) x → is_call_cell x ≡ true → (c : Call) × (m ≡ called c) × (x ≡ call_form c)
unfolding met_cell
met_call (called c) x h is = (c, refl, call_alone c x h is)
met_call (answered r) x h is = absurd (true≢false (sym is ∙ result_without r x h))
met_call (built t) x h is = absurd (true≢false (sym is ∙ tree_without t x h))

call_part : (c : Call) → Contains (parts (met_cell (called c))) (call_form c)
unfolding met_cell
call_part c = call_first c

pub calls_met : (ms : List Met) (x : CellTree) → Contains (calls_in (cells_of ms)) x → (c : Call) × Contains ms (called c) × (x ≡ call_form c)
calls_met ms x h =
    let kept = member_of_filter is_call_cell (cells_of ms) x h in
    let of = of_met ms x kept.0 in
    let call = met_call of.0 x of.2 kept.1 in
    (call.0, subst (Contains ms) call.1 of.1, call.2)

pub met_calls : (ms : List Met) (c : Call) → HaveTags ms → Contains ms (called c) → Contains (calls_in (cells_of ms)) (call_form c)
met_calls ms c tags h =
    let tag = tags c h in
    member_filter is_call_cell (cells_of ms) (call_form c) (met_parts ms (called c) (call_form c) h (call_part c)) (call_tagged c tag.0 tag.1)
