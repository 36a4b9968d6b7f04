use Rattle.lrc_grammar.specs.Grammar.{grammar_of}
use Rattle.lrc_frames.proofs.CallLemmas.{visit-fits, tree-stands, visit-within, not-found, found, values-there, values-stopped, listed, bindings-there, bindings-stopped, ready, tree-known, values-known, bindings-known, call-stopped, calls}
use Rattle.lrc_frames.proofs.calling.make_call.Goals as goal

pub symbol_tree-requires-clause-tree : goal.symbol_tree-requires-clause-tree
symbol_tree-requires-clause-tree g c =
    let q = c.requires in
    (_, (tree-stands (grammar_of c.args.functions.now.plan.grammar) c.args.functions.now.plan.parts.sorts (g.St.Store.state c.args.store.now) c.args.frame.now c.args.body c.args.callee.now q.0 q.1 q.2 q.3).stands)

pub returns-in_default-clause-calls : goal.returns-in_default-clause-calls
returns-in_default-clause-calls g c r n v can =
    let gr = grammar_of c.args.functions.now.plan.grammar in
    let parts = c.args.functions.now.plan.parts.sorts in
    let s = g.St.Store.state c.args.store.now in
    let t = g.St.Store.state c.symbol_tree.new.store in
    not-found gr parts s c.args.frame.now c.args.body c.args.callee.now r n v can c.as_slice-prods.result.now c.as_slice-prods.ensures t c.in_default.ensures.reads c.in_default.ensures.finds

pub put_items-requires : goal.put_items-requires
put_items-requires g c =
    let q = c.requires in
    let gr = grammar_of c.args.functions.now.plan.grammar in
    let parts = c.args.functions.now.plan.parts.sorts in
    let s = g.St.Store.state c.args.store.now in
    let t = g.St.Store.state c.symbol_tree.new.store in
    let tree = found gr parts s c.args.frame.now c.args.body c.args.callee.now q.0 q.1 q.2 q.3 c.as_slice-prods.result.now c.as_slice-prods.ensures t c.in-Some.tree c.in-Some.ensures.reads c.in-Some.ensures.finds in
    (_, values-there gr parts s c.args.frame.now c.args.body c.args.callee.now q.0 q.1 q.2 q.3 t c.in-Some.tree tree c.as_slice.result.now c.as_slice.ensures)

pub returns-in_err-inherited-clause-calls : goal.returns-in_err-inherited-clause-calls
returns-in_err-inherited-clause-calls g c r n v can =
    let gr = grammar_of c.args.functions.now.plan.grammar in
    let parts = c.args.functions.now.plan.parts.sorts in
    let s = g.St.Store.state c.args.store.now in
    let t = g.St.Store.state c.symbol_tree.new.store in
    let tree = found gr parts s c.args.frame.now c.args.body c.args.callee.now r n v can c.as_slice-prods.result.now c.as_slice-prods.ensures t c.in-Some.tree c.in-Some.ensures.reads c.in-Some.ensures.finds in
    values-stopped gr parts s c.args.frame.now c.args.body c.args.callee.now r n v can t c.in-Some.tree tree c.as_slice.result.now c.as_slice.ensures (g.St.Store.state c.put_items.new.store) _ _ c.from_residual.ensures.0 c.in_err-inherited.ensures.builds

pub put_items-requires-2 : goal.put_items-requires-2
put_items-requires-2 g c =
    let q = c.requires in
    let gr = grammar_of c.args.functions.now.plan.grammar in
    let parts = c.args.functions.now.plan.parts.sorts in
    let s = g.St.Store.state c.args.store.now in
    let t = g.St.Store.state c.symbol_tree.new.store in
    let tree = found gr parts s c.args.frame.now c.args.body c.args.callee.now q.0 q.1 q.2 q.3 c.as_slice-prods.result.now c.as_slice-prods.ensures t c.in-Some.tree c.in-Some.ensures.reads c.in-Some.ensures.finds in
    let u = g.St.Store.state c.put_items.new.store in
    let values = listed gr parts s c.args.frame.now c.args.body c.args.callee.now q.0 q.1 q.2 q.3 t c.in-Some.tree tree c.as_slice.result.now c.as_slice.ensures u c.in_ok-inherited.inherited c.in_ok-inherited.ensures.builds in
    (_, bindings-there gr parts s c.args.frame.now c.args.body c.args.callee.now q.0 q.1 q.2 q.3 t u c.in-Some.tree c.in_ok-inherited.inherited values c.as_slice-2.result.now c.as_slice-2.ensures)

pub returns-in_err-bindings-clause-calls : goal.returns-in_err-bindings-clause-calls
returns-in_err-bindings-clause-calls g c r n v can =
    let gr = grammar_of c.args.functions.now.plan.grammar in
    let parts = c.args.functions.now.plan.parts.sorts in
    let s = g.St.Store.state c.args.store.now in
    let t = g.St.Store.state c.symbol_tree.new.store in
    let tree = found gr parts s c.args.frame.now c.args.body c.args.callee.now r n v can c.as_slice-prods.result.now c.as_slice-prods.ensures t c.in-Some.tree c.in-Some.ensures.reads c.in-Some.ensures.finds in
    let u = g.St.Store.state c.put_items.new.store in
    let values = listed gr parts s c.args.frame.now c.args.body c.args.callee.now r n v can t c.in-Some.tree tree c.as_slice.result.now c.as_slice.ensures u c.in_ok-inherited.inherited c.in_ok-inherited.ensures.builds in
    bindings-stopped gr parts s c.args.frame.now c.args.body c.args.callee.now r n v can t u c.in-Some.tree c.in_ok-inherited.inherited values c.as_slice-2.result.now c.as_slice-2.ensures (g.St.Store.state c.put_items-2.new.store)
    _ _ c.from_residual-in_err-bindings.ensures.0 c.in_err-bindings.ensures.builds

pub put_call-requires-clause-visit_to : goal.put_call-requires-clause-visit_to
put_call-requires-clause-visit_to g c =
    let q = c.requires in
    let plan = c.args.functions.now.plan in
    let gr = grammar_of plan.grammar in
    visit-within gr plan.parts.sorts (g.St.Store.state c.args.store.now) c.args.frame.now c.args.body c.args.callee.now q.0 q.1 q.2 q.3
    (visit-fits gr plan.parts plan.ordered plan.grammar.few q.0.production q.1 q.2 q.3.is_there)

pub put_call-requires-clause-tree_known : goal.put_call-requires-clause-tree_known
put_call-requires-clause-tree_known g c =
    let q = c.requires in
    let gr = grammar_of c.args.functions.now.plan.grammar in
    let parts = c.args.functions.now.plan.parts.sorts in
    let s = g.St.Store.state c.args.store.now in
    let t = g.St.Store.state c.symbol_tree.new.store in
    let tree = found gr parts s c.args.frame.now c.args.body c.args.callee.now q.0 q.1 q.2 q.3 c.as_slice-prods.result.now c.as_slice-prods.ensures t c.in-Some.tree c.in-Some.ensures.reads c.in-Some.ensures.finds in
    let u = g.St.Store.state c.put_items.new.store in
    let values = listed gr parts s c.args.frame.now c.args.body c.args.callee.now q.0 q.1 q.2 q.3 t c.in-Some.tree tree c.as_slice.result.now c.as_slice.ensures u c.in_ok-inherited.inherited c.in_ok-inherited.ensures.builds in
    let w = g.St.Store.state c.put_items-2.new.store in
    let all = ready gr parts s c.args.frame.now c.args.body c.args.callee.now q.0 q.1 q.2 q.3 t u c.in-Some.tree c.in_ok-inherited.inherited values c.as_slice-2.result.now c.as_slice-2.ensures w c.in_ok-bindings.bindings c.in_ok-bindings.ensures.builds in
    tree-known gr parts s c.args.frame.now c.args.body c.args.callee.now q.0 q.1 q.2 q.3 t u w c.in-Some.tree c.in_ok-inherited.inherited c.in_ok-bindings.bindings all

pub put_call-requires-clause-inherited_known : goal.put_call-requires-clause-inherited_known
put_call-requires-clause-inherited_known g c =
    let q = c.requires in
    let gr = grammar_of c.args.functions.now.plan.grammar in
    let parts = c.args.functions.now.plan.parts.sorts in
    let s = g.St.Store.state c.args.store.now in
    let t = g.St.Store.state c.symbol_tree.new.store in
    let tree = found gr parts s c.args.frame.now c.args.body c.args.callee.now q.0 q.1 q.2 q.3 c.as_slice-prods.result.now c.as_slice-prods.ensures t c.in-Some.tree c.in-Some.ensures.reads c.in-Some.ensures.finds in
    let u = g.St.Store.state c.put_items.new.store in
    let values = listed gr parts s c.args.frame.now c.args.body c.args.callee.now q.0 q.1 q.2 q.3 t c.in-Some.tree tree c.as_slice.result.now c.as_slice.ensures u c.in_ok-inherited.inherited c.in_ok-inherited.ensures.builds in
    let w = g.St.Store.state c.put_items-2.new.store in
    let all = ready gr parts s c.args.frame.now c.args.body c.args.callee.now q.0 q.1 q.2 q.3 t u c.in-Some.tree c.in_ok-inherited.inherited values c.as_slice-2.result.now c.as_slice-2.ensures w c.in_ok-bindings.bindings c.in_ok-bindings.ensures.builds in
    values-known gr parts s c.args.frame.now c.args.body c.args.callee.now q.0 q.1 q.2 q.3 t u w c.in-Some.tree c.in_ok-inherited.inherited c.in_ok-bindings.bindings all

pub put_call-requires-clause-bindings_known : goal.put_call-requires-clause-bindings_known
put_call-requires-clause-bindings_known g c =
    let q = c.requires in
    let gr = grammar_of c.args.functions.now.plan.grammar in
    let parts = c.args.functions.now.plan.parts.sorts in
    let s = g.St.Store.state c.args.store.now in
    let t = g.St.Store.state c.symbol_tree.new.store in
    let tree = found gr parts s c.args.frame.now c.args.body c.args.callee.now q.0 q.1 q.2 q.3 c.as_slice-prods.result.now c.as_slice-prods.ensures t c.in-Some.tree c.in-Some.ensures.reads c.in-Some.ensures.finds in
    let u = g.St.Store.state c.put_items.new.store in
    let values = listed gr parts s c.args.frame.now c.args.body c.args.callee.now q.0 q.1 q.2 q.3 t c.in-Some.tree tree c.as_slice.result.now c.as_slice.ensures u c.in_ok-inherited.inherited c.in_ok-inherited.ensures.builds in
    let w = g.St.Store.state c.put_items-2.new.store in
    let all = ready gr parts s c.args.frame.now c.args.body c.args.callee.now q.0 q.1 q.2 q.3 t u c.in-Some.tree c.in_ok-inherited.inherited values c.as_slice-2.result.now c.as_slice-2.ensures w c.in_ok-bindings.bindings c.in_ok-bindings.ensures.builds in
    bindings-known gr parts s c.args.frame.now c.args.body c.args.callee.now q.0 q.1 q.2 q.3 t u w c.in-Some.tree c.in_ok-inherited.inherited c.in_ok-bindings.bindings all

pub returns-in_err-put_call-clause-calls : goal.returns-in_err-put_call-clause-calls
returns-in_err-put_call-clause-calls g c r n v can =
    let gr = grammar_of c.args.functions.now.plan.grammar in
    let parts = c.args.functions.now.plan.parts.sorts in
    let s = g.St.Store.state c.args.store.now in
    let t = g.St.Store.state c.symbol_tree.new.store in
    let tree = found gr parts s c.args.frame.now c.args.body c.args.callee.now r n v can c.as_slice-prods.result.now c.as_slice-prods.ensures t c.in-Some.tree c.in-Some.ensures.reads c.in-Some.ensures.finds in
    let u = g.St.Store.state c.put_items.new.store in
    let values = listed gr parts s c.args.frame.now c.args.body c.args.callee.now r n v can t c.in-Some.tree tree c.as_slice.result.now c.as_slice.ensures u c.in_ok-inherited.inherited c.in_ok-inherited.ensures.builds in
    let w = g.St.Store.state c.put_items-2.new.store in
    let all = ready gr parts s c.args.frame.now c.args.body c.args.callee.now r n v can t u c.in-Some.tree c.in_ok-inherited.inherited values c.as_slice-2.result.now c.as_slice-2.ensures w c.in_ok-bindings.bindings c.in_ok-bindings.ensures.builds in
    call-stopped gr parts s c.args.frame.now c.args.body c.args.callee.now r n v can t u w c.in-Some.tree c.in_ok-inherited.inherited c.in_ok-bindings.bindings all (g.St.Store.state c.put_call.new.store)
    _ _ c.from_residual-in_err-put_call.ensures.0 c.in_err-put_call.ensures.builds

pub returns-clause-calls : goal.returns-clause-calls
returns-clause-calls g c r n v can =
    let gr = grammar_of c.args.functions.now.plan.grammar in
    let parts = c.args.functions.now.plan.parts.sorts in
    let s = g.St.Store.state c.args.store.now in
    let t = g.St.Store.state c.symbol_tree.new.store in
    let tree = found gr parts s c.args.frame.now c.args.body c.args.callee.now r n v can c.as_slice-prods.result.now c.as_slice-prods.ensures t c.in-Some.tree c.in-Some.ensures.reads c.in-Some.ensures.finds in
    let u = g.St.Store.state c.put_items.new.store in
    let values = listed gr parts s c.args.frame.now c.args.body c.args.callee.now r n v can t c.in-Some.tree tree c.as_slice.result.now c.as_slice.ensures u c.in_ok-inherited.inherited c.in_ok-inherited.ensures.builds in
    let w = g.St.Store.state c.put_items-2.new.store in
    let all = ready gr parts s c.args.frame.now c.args.body c.args.callee.now r n v can t u c.in-Some.tree c.in_ok-inherited.inherited values c.as_slice-2.result.now c.as_slice-2.ensures w c.in_ok-bindings.bindings c.in_ok-bindings.ensures.builds in
    calls gr parts s c.args.frame.now c.args.body c.args.callee.now r n v can t u w c.in-Some.tree c.in_ok-inherited.inherited c.in_ok-bindings.bindings all (g.St.Store.state c.put_call.new.store)
    c.in_ok-put_call.field-0 c.in_ok-put_call.ensures.builds
