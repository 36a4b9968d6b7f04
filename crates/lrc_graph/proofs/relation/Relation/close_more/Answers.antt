use Rattle.std.proofs.Common.{◌≡◌, ◌<◌, arith, subst, ◌∙◌}
use Rattle.std.proofs.lemmas.Bool.{both_ways}
use Rattle.lrc_graph.specs.Pairs.{Has, HasExactly, With}
use Rattle.lrc_graph.proofs.PairsLemmas.{old-paths, bridged-paths, rows-all, before-within, bridged-more, bridged-same, closed-paths, Before, After, RowsBelow}
use Rattle.lrc_graph.proofs.relation.Relation.close_more.Goals as goal
use Rattle.lrc_graph.proofs.relation.Relation.close_more.Goals.{then-is_or_has, else-is_or_has}

pub points-preserved : goal.points-preserved
points-preserved c =
    let R = Has c.args.self.now in
    let a = c.args.a in
    let b = c.args.b in
    let now = c.points.self in
    let held = c.points.invariant in
    elim c.if-is_or_has.branch [
      | then-is_or_has w ↦
          rw w.self-is
          (record {
            points = w.add.ensures.points ∙ w.join_row.ensures.points ∙ held.points;
            pairs = bridged-more R a b now w.join_row.new.self w.add.new.self c.points.x held.pairs
                (c.is_or_has.ensures.0 w.if-is_or_has.true) w.join_row.ensures.pairs w.add.ensures.pairs;
          })
      | else-is_or_has w ↦
          rw w.self-is
          (record {
            points = held.points;
            pairs = bridged-same R a b now c.points.x held.pairs
                (λ before. both_ways c.is_or_has.result w.if-is_or_has.false (c.is_or_has.ensures.1 before));
          })
    ]

pub returns-then-has-clause-pairs : goal.returns-then-has-clause-pairs
returns-then-has-clause-pairs c =
    old-paths (Has c.args.self.now) c.args.a c.args.b c.requires.closed (c.has.ensures.0 c.if-has.true)

pub returns-clause-pairs : goal.returns-clause-pairs
returns-clause-pairs c =
    let R = Has c.args.self.now in
    let a = c.args.a in
    let b = c.args.b in
    let points = c.points-x-end in
    let end : c.points.x ≡ points.result = omega arith in
    let small : a < points.result = omega arith in
    bridged-paths R a b c.requires.closed c.points.self
    (rows-all R (Before R a) (After R b) c.points.self points.result
    (subst (λ n. HasExactly c.points.self (RowsBelow R (Before R a) (After R b) n)) end c.points.invariant.pairs)
    (before-within R a points.result small points.ensures.within))

pub returns-clause-closed : goal.returns-clause-closed
returns-clause-closed c =
    closed-paths (With (Has c.args.self.now) c.args.a c.args.b) c.points.self (returns-clause-pairs c)
