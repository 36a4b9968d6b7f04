use Rattle.std.proofs.Common.{◌∷◌, [], sym, subst, w64, to_z, of_z}
use Rattle.lrc_meaning.proofs.ExpressionLemmas.{expression-Occ}
use Rattle.lrc_eval.specs.declared.values.Val.TheVariants as v
use Rattle.lrc_eval.specs.Evaluating.{AreGiven}
use Rattle.lrc_visit_tests.proofs.NodeLemmas.{over_value, value-given}
use Rattle.lrc_visit_tests.proofs.equations.occurrence.Goals as goal

pub evaluate-requires : goal.evaluate-requires
evaluate-requires g c =
    let s = g.S.Store.state c.args.store.now in
    let n = to_z w64 (of_z w64 c.args.value) in
    record { given = (over_value n, subst (AreGiven s (v.Int n ∷ []) c.args.node (over_value n)) (sym (expression-Occ 0)) (value-given s c.args.node n c.requires)) }
