-- Threads may share the visit functions of a plan: the parts of a grammar, from an expression, which holds itself, up to the plan.
use denote.Param.Send.{IsSync, sendable}
use denote.Param.SendFields.{as_row_sync, declared_sync}
use Rattle.std.proofs.Crossing.{crosses}
use Rattle.std.proofs.option.Option.TheSendSync as option
use Rattle.sqlite_items.proofs.items.Items.TheSendSync as items
use Rattle.sqlite_items.proofs.boxed.Boxed.TheSendSync as boxed
use Rattle.lrc_base.proofs.expr.Expr.TheLaws.TheKnot as knot
use Rattle.lrc_base.proofs.name.NameText.TheSendSync as name
use Rattle.lrc_base.proofs.grammar.Kid.TheSendSync as kid
use Rattle.lrc_base.proofs.grammar.Extra.TheSendSync as extra
use Rattle.lrc_base.proofs.grammar.Piece.TheSendSync as piece
use Rattle.lrc_base.proofs.grammar.Sort.TheSendSync as sort
use Rattle.lrc_base.proofs.signature.Signature.TheSendSync as signature
use Rattle.lrc_base.specs.contracts.expr.Expr as expr
use Rattle.lrc_base.specs.contracts.grammar.Equation as equation
use Rattle.lrc_base.specs.contracts.grammar.Production as production
use Rattle.lrc_grammar.specs.contracts.grammar.Grammar as grammar
use Rattle.lrc_ordered.proofs.partitions.Partitions.TheSendSync as partitions
use Rattle.lrc_plan_meaning.proofs.Sequences.TheSendSync as sequences
use Rattle.lrc_plan.specs.contracts.sequenced.Plan as plan
use Rattle.lrc_functions.proofs.function.Function.TheSendSync as function
use Rattle.lrc_functions.specs.contracts.functions.Functions as functions

expr_sync : IsSync expr.the_row
expr_sync = search (knot.crosses, items.the_sync, boxed.the_sync, sendable, crosses) depth 30

equation_sync : IsSync equation.the_row
equation_sync = search (expr_sync, declared_sync, as_row_sync, sendable) depth 30

production_sync : IsSync production.the_row
production_sync = search (equation_sync, name.the_sync, kid.the_sync, extra.the_sync, piece.the_sync, items.the_sync, option.the_sync, declared_sync, as_row_sync, sendable) depth 30

grammar_sync : IsSync grammar.the_row
grammar_sync = search (production_sync, sort.the_sync, signature.the_sync, items.the_sync, declared_sync, as_row_sync, sendable) depth 30

plan_sync : IsSync plan.the_row
plan_sync = search (grammar_sync, partitions.the_sync, sequences.the_sync, items.the_sync, declared_sync, as_row_sync, sendable) depth 30

pub functions_sync : IsSync functions.the_row
functions_sync = search (plan_sync, function.the_sync, items.the_sync, declared_sync, as_row_sync, sendable) depth 30
