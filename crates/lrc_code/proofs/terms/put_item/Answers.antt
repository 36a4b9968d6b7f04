use Rattle.lrc_code.specs.Stack.{meant_each}
use Rattle.lrc_code.proofs.TurnLemmas.{node-stopped, node-over}
use Rattle.lrc_code.proofs.terms.put_item.Goals as goal

pub returns-in_err-kids-in-Node-clause-builds : goal.returns-in_err-kids-in-Node-clause-builds
returns-in_err-kids-in-Node-clause-builds g c =
    let s = g.St.Store.state c.args.store.now in
    node-stopped s (g.St.Store.state c.put_last.new.store) c.args.item.now c.in-Node.production c.in-Node.count (meant_each s c.args.stack.now.held)
    c.in_err-kids-in-Node.field-0.0 c.from_residual.result c.in-Node.is c.from_residual.ensures.0 c.in_err-kids-in-Node.ensures.builds

pub returns-in_ok-kids-in-Node-clause-builds : goal.returns-in_ok-kids-in-Node-clause-builds
returns-in_ok-kids-in-Node-clause-builds g c =
    let s = g.St.Store.state c.args.store.now in
    node-over s (g.St.Store.state c.put_last.new.store) (g.St.Store.state c.put_node.new.store) c.args.item.now c.in-Node.production c.in-Node.count (meant_each s c.args.stack.now.held)
    c.in_ok-kids-in-Node.kids c.put_node.result c.in-Node.is c.in_ok-kids-in-Node.ensures.builds c.put_node.ensures.builds
