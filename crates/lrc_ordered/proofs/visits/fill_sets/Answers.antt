use Rattle.std.proofs.Common.{◌∙◌, ap, length, arith}
use Rattle.lrc_ordered.proofs.VisitLemmas.{left_le, none_numbered, first_round, more_rounds, all_rounds}
use Rattle.lrc_ordered.proofs.visits.fill_sets.Goals as goal

pub visits-init : goal.visits-init
visits-init c =
    let count = c.fill_visit.ensures.count in
    let n = c.requires.sets in
    let few = left_le c.fill_visit.new.sets in
    record {
      count = count ∙ n;
      some = omega arith;
      few = omega arith;
      within = c.fill_visit.ensures.within (λ a. let e = c.requires.empty a in omega arith);
      rounds = λ g given s table.
          first_round g given s c.fill_visit.new.sets
          (c.fill_visit.ensures.numbered g given s table (none_numbered g given s c.args.sets.now c.requires.empty));
    }

pub visits-preserved : goal.visits-preserved
visits-preserved c =
    let held = c.visits.invariant in
    let some = c.is_left.ensures.0 c.visits-test.true in
    let fewer = c.fill_visit-in-visits.ensures.fewer c.requires.transitive c.requires.acyclic some in
    let few = held.few in
    record {
      count = c.fill_visit-in-visits.ensures.count ∙ held.count;
      some = omega arith;
      few = omega arith;
      within = λ a. let small = c.fill_visit-in-visits.ensures.within held.within a in omega arith;
      rounds = λ g given s table.
          let before = held.rounds g given s table in
          more_rounds g given s c.visits.visits c.visits.sets c.fill_visit-in-visits.new.sets (held.count ∙ ap length table.attributes) some before
          (c.fill_visit-in-visits.ensures.numbered g given s table before.numbered);
    }

pub returns-clause-sets : goal.returns-clause-sets
returns-clause-sets c = λ g given s table.
    let held = c.visits.invariant in
    all_rounds g given s c.visits.visits c.visits.sets held.some (held.count ∙ ap length table.attributes)
    (λ some. let yes_left = c.is_left.ensures.1 some in let none_left = c.visits-test.false in absurd (cc)) (held.rounds g given s table)
