use Rattle.std.proofs.Common.{Some, None}
use Rattle.lrc_meaning.specs.Expression.{expression}
use Rattle.lrc_eval.proofs.FormLemmas.{evaluates-at}
use Rattle.lrc_eval.proofs.KindLemmas.{value-of-kind, given-of-kinds, never-none, to-value, to-full}
use Rattle.lrc_eval.proofs.kinds.eval.Goals as goal

pub evaluate-requires : goal.evaluate-requires
evaluate-requires g c =
    let (x, prods, occurrences, kind, h) = c.requires.given in
    record { given = (x, given-of-kinds (g.St.Store.state c.args.store.now) c.args.values.now c.args.node prods occurrences x (expression c.args.expr.now) kind h) }

pub returns-in_err-value-clause-evaluates : goal.returns-in_err-value-clause-evaluates
returns-in_err-value-clause-evaluates g c x prods occurrences kind h =
    let s = g.St.Store.state c.args.store.now in
    let e = expression c.args.expr.now in
    to-full s (g.St.Store.state c.evaluate.new.store) prods x e kind c.in_err-value.field-0.0 c.from_residual.result
    (c.in_err-value.ensures.evaluates x (given-of-kinds s c.args.values.now c.args.node prods occurrences x e kind h)) c.from_residual.ensures.0

pub unreachable-requires : goal.unreachable-requires
unreachable-requires g c =
    let s = g.St.Store.state c.args.store.now in
    let t = g.St.Store.state c.evaluate.new.store in
    let e = expression c.args.expr.now in
    let (x, prods, occurrences, kind, h) = c.requires.given in
    never-none s t prods x e kind (value-of-kind prods occurrences x e kind h.kinds)
    (evaluates-at s t x e c.in_ok-value.field-0 None c.in-None.is
    (c.in_ok-value.ensures.evaluates x (given-of-kinds s c.args.values.now c.args.node prods occurrences x e kind h)))

pub returns-clause-evaluates : goal.returns-clause-evaluates
returns-clause-evaluates g c x prods occurrences kind h =
    let s = g.St.Store.state c.args.store.now in
    let t = g.St.Store.state c.evaluate.new.store in
    let e = expression c.args.expr.now in
    to-value s t prods x e kind c.in-Some.value (value-of-kind prods occurrences x e kind h.kinds)
    (evaluates-at s t x e c.in_ok-value.field-0 (Some c.in-Some.value) c.in-Some.is
    (c.in_ok-value.ensures.evaluates x (given-of-kinds s c.args.values.now c.args.node prods occurrences x e kind h)))
