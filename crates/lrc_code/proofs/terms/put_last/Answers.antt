use Rattle.std.proofs.Common.{◌∙◌, ◌<◌, ◌≤◌, ◌+◌, length, arith}
use Rattle.lrc_code.specs.Forms.{list_cell}
use Rattle.lrc_code.specs.Stack.{last_of, meant_each}
use Rattle.lrc_code.proofs.Growing.{adds-behind, more-stopped}
use Rattle.lrc_code.proofs.StackLemmas.{next_taken, last-known, known-later, list-next, fewer-within}
use Rattle.lrc_code.proofs.terms.put_last.Goals as goal

pub put_list-requires-clause-first_known : goal.put_list-requires-clause-first_known
put_list-requires-clause-first_known g c =
    let o = g.St.Store.state c.args.store.now in
    let s = g.St.Store.state c.loop-taken.store in
    let held = c.args.stack.now.held in
    let n = c.loop-taken._taken in
    let last = c.take_last-last.result in
    let there : n < length held = omega (arith, c.loop-taken-test.true, c.requires.enough) in
    let next = next_taken n held c.loop-taken.stack.held c.take_last-last.new.self.held last there c.loop-taken.invariant.held c.take_last-last.ensures.held in
    known-later o s last.0 c.loop-taken.invariant.adds.gains.lasts (last-known o n held last c.requires.known next.1)

pub returns-in_err-list-clause-builds : goal.returns-in_err-list-clause-builds
returns-in_err-list-clause-builds g c =
    let o = g.St.Store.state c.args.store.now in
    let s = g.St.Store.state c.loop-taken.store in
    let u = g.St.Store.state c.put_list.new.store in
    let held = c.args.stack.now.held in
    let n = c.loop-taken._taken in
    let last = c.take_last-last.result in
    let there : n < length held = omega (arith, c.loop-taken-test.true, c.requires.enough) in
    let more : n + 1 ≤ c.args.count = omega (arith, c.loop-taken-test.true) in
    let next = next_taken n held c.loop-taken.stack.held c.take_last-last.new.self.held last there c.loop-taken.invariant.held c.take_last-last.ensures.held in
    more-stopped o s u (list_cell (last_of (n + 1) (meant_each o held))) (list_cell (last_of c.args.count (meant_each o held))) c.in_err-list.field-0.0 c.from_residual.result
    (fewer-within o (n + 1) c.args.count held more c.requires.enough) c.loop-taken.invariant.adds c.from_residual.ensures.0
    (list-next o s u n held last c.loop-taken.list _ c.requires.known c.loop-taken.invariant.adds.gains.lasts next.1 c.loop-taken.invariant.tells c.in_err-list.ensures.builds)

pub loop-taken-preserved : goal.loop-taken-preserved
loop-taken-preserved g c =
    let o = g.St.Store.state c.args.store.now in
    let s = g.St.Store.state c.loop-taken.store in
    let u = g.St.Store.state c.put_list.new.store in
    let held = c.args.stack.now.held in
    let n = c.loop-taken._taken in
    let last = c.take_last-last.result in
    let there : n < length held = omega (arith, c.loop-taken-test.true, c.requires.enough) in
    let more : n + 1 ≤ c.args.count = omega (arith, c.loop-taken-test.true) in
    let next = next_taken n held c.loop-taken.stack.held c.take_last-last.new.self.held last there c.loop-taken.invariant.held c.take_last-last.ensures.held in
    let builds = list-next o s u n held last c.loop-taken.list _ c.requires.known c.loop-taken.invariant.adds.gains.lasts next.1 c.loop-taken.invariant.tells c.in_ok-list.ensures.builds in
    record {
      held = next.0;
      room = c.take_last-last.ensures.room ∙ c.loop-taken.invariant.room;
      adds = adds-behind o s u (list_cell (last_of (n + 1) (meant_each o held))) (list_cell (last_of c.args.count (meant_each o held))) _
          (fewer-within o (n + 1) c.args.count held more c.requires.enough) c.loop-taken.invariant.adds builds;
      tells = builds.ok;
      same_meaning = c.in_ok-list.ensures.same_meaning ∙ c.loop-taken.invariant.same_meaning;
    }
