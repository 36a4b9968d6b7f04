use Rattle.std.proofs.Common.{true, false, ◌≡◌, ◌+◌, ◌*◌, suc, ◌∙◌, subst, arith}
use Rattle.lrc_ordered.specs.Numbered.{AreNumbered}
use Rattle.lrc_ordered.proofs.VisitLemmas.{even, within_filled, fewer_left, numbered_visit}
use Rattle.lrc_ordered.proofs.visits.fill_visit.Goals as goal

pub returns-clause-within : goal.returns-clause-within
returns-clause-within c = λ small.
    let attrs = c.args.attrs.now in
    let count = c.fill_set.ensures.count in
    let again = c.fill_set-2.ensures.count in
    let n = c.requires.sets in
    within_filled attrs c.args.sort.now c.fill_set.new.sets c.fill_set-2.new.sets true (2 * c.args.later + 2) (2 * c.args.later + 1) (omega arith) (omega arith)
    c.fill_set-2.ensures.filled
    (within_filled attrs c.args.sort.now c.args.sets.now c.fill_set.new.sets false (2 * c.args.later + 1) (2 * c.args.later) (omega arith) (omega arith)
    c.fill_set.ensures.filled small)

pub returns-clause-numbered : goal.returns-clause-numbered
returns-clause-numbered c = λ g given s table before.
    let attrs = c.args.attrs.now in
    let count = c.fill_set.ensures.count in
    let again = c.fill_set-2.ensures.count in
    let n = c.requires.sets in
    let grown : suc (suc (2 * c.args.later)) ≡ 2 * c.args.later + 2 = omega arith in
    subst (λ k. AreNumbered g given s k c.fill_set-2.new.sets) grown
    (numbered_visit attrs c.args.sort.now c.args.sets.now c.fill_set.new.sets c.fill_set-2.new.sets (2 * c.args.later + 1) (2 * c.args.later + 2)
    (omega arith) (omega arith) c.fill_set.ensures.filled c.fill_set-2.ensures.filled g given s (2 * c.args.later) (even c.args.later) (omega arith) (omega arith)
    (omega arith) (omega arith) table before)

pub returns-clause-fewer : goal.returns-clause-fewer
returns-clause-fewer c = λ whole none some.
    let count = c.fill_set.ensures.count in
    let again = c.fill_set-2.ensures.count in
    fewer_left c.args.attrs.now c.args.sort.now c.args.sets.now c.fill_set.new.sets c.fill_set-2.new.sets (2 * c.args.later + 1) (2 * c.args.later + 2)
    (omega arith) (omega arith) c.fill_set.ensures.filled c.fill_set-2.ensures.filled c.requires.sets (again ∙ count) whole none some
