-- How a call's body begins: the node that it visits, and what it hands in.
use Rattle.std.specs.Prelude.{◌≡◌, ℕ, ◌≤◌, Bool, true, false, List, [], length, Option, Some, None, IsTrue, slice_get}
use Rattle.lrc_base.specs.declared.grammar.Production.{Production}
use Rattle.lrc_meaning.specs.Tree.{Trees, node}
use Rattle.lrc_meaning.specs.Grammar.{Grammar, occurrences_of}
use Rattle.lrc_order_meaning.specs.declared.Partition.{Partition}
use Rattle.lrc_plan_meaning.specs.Items.{visits_of}
use Rattle.lrc_visit_meaning.specs.Values.{Call, Result}
use Rattle.lrc_visit_meaning.specs.Visits.{are_of_kinds, is_call, nothing_held, one_visit}
use Rattle.lrc_store.specs.Standing.{Standing, Stands}
use Rattle.lrc_code.specs.declared.calls.CallParts.{CallParts}
use Rattle.lrc_call_meaning.specs.Forms.{values_cell, bindings_cell}
use Rattle.lrc_call_meaning.specs.Spelled.{IsSpelledCall}
use Rattle.lrc_eval.specs.declared.values.Val.{Val}
use Rattle.lrc_functions.specs.declared.function.Function.{Function}
use Rattle.lrc_functions.specs.Functions.{function_of}
use Rattle.lrc_frames.specs.declared.body.Body.{Body}
use Rattle.lrc_frames.specs.Frames.{Run, RunsAt, at_start}

-- the run in which nothing is available yet
abbrev pub bare : Production → Trees → Run
bare p kids = record { production = p; kids = kids; available = []; held = nothing_held }

module _ (g : Grammar) (parts : List Partition) where
  -- The call's tree is a node of production n, which is there; the visit is one of the left side's, and the children are of
  -- their kinds.
  pub record IsOfNode (c : Call) (n : ℕ) : Type 0 where
    pub production : Production
    pub kids : Trees
    pub tree : c.tree ≡ node n kids
    pub there : slice_get g.prods n ≡ Some production
    pub first : 1 ≤ c.visit
    pub last : c.visit ≤ visits_of parts production.left
    pub kinds : IsTrue (are_of_kinds g.prods kids production.kids)

  -- or the call has no result
  abbrev pub IsOfNodeIf : Call → Option ℕ → Type 0
  IsOfNodeIf c None = (visit : Call → Option Result) → one_visit g parts visit c ≡ None
  IsOfNodeIf c (Some n) = IsOfNode c n

  -- the lists of a call, which are to be put into a frame for the function of its visit
  pub record HandsIn (s : Standing) (frame : List Val) (body : Body) (p : Production) (kids : Trees) (c : Call) (function : Function) (occurrences : ℕ) (lists : CallParts) : Type 0 where
    pub runs : RunsAt g parts s frame body (bare p kids)
    pub first : 1 ≤ c.visit
    pub last : c.visit ≤ visits_of parts p.left
    pub is_function : function ≡ function_of g.sorts parts p c.visit
    pub counted : occurrences ≡ length (occurrences_of g.sorts p)
    pub inherited : Stands s lists.inherited.0 (values_cell c.inherited)
    pub bindings : Stands s lists.bindings.0 (bindings_cell c.bindings)
    pub spelled : IsSpelledCall c

  -- the body is at its start, where the call has the form of one
  abbrev pub HandedIf : Standing → List Val → Body → Production → Trees → Call → Bool → Type 0
  HandedIf s frame body p kids c false = is_call g parts p c ≡ false
  HandedIf s frame body p kids c true = (is_call g parts p c ≡ true) × RunsAt g parts s frame body (at_start g parts p kids c)
