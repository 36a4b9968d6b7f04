use Rattle.std.proofs.Common.{ap, sym, subst, []}
use Rattle.lrc_base.specs.declared.grammar.Kind.TheVariants as k
use Rattle.lrc_meaning.specs.Expression.{expression}
use Rattle.lrc_meaning.specs.Grammar.{expression_kind}
use Rattle.lrc_visit_tests.specs.Nodes.{ReadsNum, num_kids, over_five}
use Rattle.lrc_visit_tests.proofs.NodeLemmas.{nothing-read-of-kind, reads-sum}
use Rattle.lrc_visit_tests.proofs.kinds.evaluated.Goals as goal

pub eval-requires : goal.eval-requires
eval-requires g c =
    let e = c.requires.expression in
    record {
      given = (
        over_five,
        [],
        [],
        k.Int,
        nothing-read-of-kind (g.S.Store.state c.args.store.now) c.args.node (expression c.args.expr.now) k.Int c.requires.node
            (subst ReadsNum (sym e) reads-sum) (ap (expression_kind [] [] num_kids) e),
      );
    }
