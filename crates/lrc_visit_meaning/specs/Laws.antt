-- A law of the plain visit: what does not have the form of a call has no result.
use Rattle.std.specs.Prelude.{◌≡◌, ℕ, false, List, Some, None, slice_get}
use Rattle.lrc_base.specs.declared.grammar.Production.{Production}
use Rattle.lrc_meaning.specs.Tree.{Trees, node}
use Rattle.lrc_meaning.specs.Grammar.{Grammar}
use Rattle.lrc_order_meaning.specs.declared.Partition.{Partition}
use Rattle.lrc_visit_meaning.specs.Values.{Call}
use Rattle.lrc_visit_meaning.specs.Visits.{is_call, plain_visit}

-- of a node of production p, whatever the fuel
abbrev pub NoCallHasNone : Type 0
NoCallHasNone = (g : Grammar) (parts : List Partition) (fuel n : ℕ) (p : Production) (kids : Trees) (c : Call) → c.tree ≡ node n kids → slice_get g.prods n ≡ Some p
    → is_call g parts p c ≡ false → plain_visit g parts fuel c ≡ None
