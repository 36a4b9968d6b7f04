use Rattle.lrc_visit_meaning.specs.Values.{root_call}
use Rattle.lrc_call_meaning.specs.Forms.{result_form}
use Rattle.lrc_store.proofs.Lasting.{reads-then}
use Rattle.lrc_code.specs.Forms.{tree_cell}
use Rattle.lrc_session.proofs.SessionLemmas.{opened}
use Rattle.lrc_session.proofs.session.Session.settle.Goals as goal

pub returns-clause-settles : goal.returns-clause-settles
returns-clause-settles g c t asked given =
    let s = g.St.Store.state c.args.store.now in
    let u = g.St.Store.state c.tree_of_call-self.new.store in
    let v = g.St.Store.state c.values_of_result-self.new.store in
    let functions = c.args.functions.now in
    let first = c.tree_of_call-self.ensures in
    let then = c.values_of_result-self.ensures in
    let (whole, vs, has) = c.requires.session in
    opened functions s v t c.args.call.0 c.args.given.0 _ (reads-then s u v first.reads then.reads).stays.lasts asked given
    (then.reads.stays.lasts.known c.tree_of_call-self.result.0 (tree_cell t) (first.tree (root_call t) asked.asked.stands))
    (then.values given.outcome (first.reads.stays.lasts.known c.args.given.0 (result_form given.outcome) given.stands))
    has.frames

pub returns-clause-reads : goal.returns-clause-reads
returns-clause-reads g c =
    reads-then (g.St.Store.state c.args.store.now) (g.St.Store.state c.tree_of_call-self.new.store) (g.St.Store.state c.values_of_result-self.new.store)
    c.tree_of_call-self.ensures.reads c.values_of_result-self.ensures.reads
