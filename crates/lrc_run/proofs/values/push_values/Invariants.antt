use Rattle.std.proofs.Common.{◌≡◌, ◌++◌, List, drop}
use Rattle.std.specs.List.{AllByRecursion}
use Rattle.lrc_meaning.specs.Tree.{Tree}
use Rattle.lrc_meaning.specs.Text.{named_values, synthesised_attrs}
use Rattle.lrc_store.specs.Standing.{Stands}
use Rattle.lrc_store.specs.Words.{Reads}
use Rattle.lrc_call_meaning.specs.Forms.{values_cell}
use Rattle.lrc_call_meaning.specs.Spelled.{IsSpelled}
use Rattle.lrc_run.proofs.ValueLemmas.{Completes}
use Rattle.lrc_run.proofs.values.push_values.Given as goal

-- the text of the values that are left completes the whole
abbrev pub invariant-loop-attr : goal.invariant-loop-attr
invariant-loop-attr g l = record {
  left : (vs : List Tree) → AllByRecursion IsSpelled vs → Stands (g.St.Store.state l.fn.store) l.fn.values.0 (values_cell vs) →
      Completes l.grammar.prods (g.St.Store.state l.store) (drop l.attr-index l.attrs) l.left.0 l.text.items (l.fn.text.items ++ named_values l.grammar.prods (synthesised_attrs l.attrs) vs);
  reads : Reads (g.St.Store.state l.fn.store) (g.St.Store.state l.store);
  same_meaning : g.St.Store.meaning l.store ≡ g.St.Store.meaning l.fn.store;
}
