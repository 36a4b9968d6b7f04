use Rattle.std.proofs.Common.{◌<◌, inl, inr, arith, length}
use Rattle.lrc_ordered.proofs.TurnLemmas.{filled_left, filled_next}
use Rattle.lrc_ordered.proofs.turns.fill_set.Goals as goal
use Rattle.lrc_ordered.proofs.turns.fill_set.Goals.{then-sets-attr-eq0+then-is_next, else-sets-attr-eq0, else-sets-attr-eq0-via-then-sets-attr-eq0+else-is_next, else-sets-attr-eq0-via-else-sets-attr-eq0}

pub attributes-preserved : goal.attributes-preserved
attributes-preserved c =
    let attrs = c.args.attrs.now in
    let sort = c.args.sort.now in
    let old = c.args.sets.now in
    let now = c.attributes.sets in
    let n = c.attributes.attr in
    let value = c.points-attr-end.ensures.value in
    let points = c.requires.attributes in
    let test = c.attributes-test.true in
    let there : n < length attrs = omega arith in
    elim c.if-sets-attr-eq0.branch [
      | then-sets-attr-eq0+then-is_next w ↦
          rw w.sets-is
          (filled_next attrs sort old now c.args.inherited c.args.set n c.requires.set there c.requires.sets c.attributes.invariant
          w.if-sets-attr-eq0.true (w.is_next.ensures.0 w.if-is_next.true))
      | else-sets-attr-eq0 w ↦
          rw w.sets-is
          (filled_left attrs sort old now c.args.inherited c.args.set n c.requires.set there c.requires.sets c.attributes.invariant
          (elim w.else-sets-attr-eq0.branch [
            | else-sets-attr-eq0-via-then-sets-attr-eq0+else-is_next v ↦
                inr (λ h. let yes_next = v.is_next.ensures.1 h in let not_next = v.if-is_next.false in absurd (cc))
            | else-sets-attr-eq0-via-else-sets-attr-eq0 v ↦ inl v.if-sets-attr-eq0.false
          ]))
    ]
