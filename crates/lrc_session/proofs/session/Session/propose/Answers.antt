use Rattle.std.proofs.Common.{arith}
use Rattle.lrc_base.specs.declared.grammar.Kind.TheVariants as k
use Rattle.lrc_meaning.specs.Tree.{tree}
use Rattle.lrc_meaning.proofs.HeightLemmas.{height_agrees}
use Rattle.lrc_visit_meaning.specs.Values.{root_call}
use Rattle.lrc_store.specs.Cells.{parts}
use Rattle.lrc_store.proofs.Lasting.{adds-then, adds-more, lacks-more}
use Rattle.lrc_code.specs.Forms.{tree_cell}
use Rattle.lrc_call_meaning.specs.Forms.{call_form}
use Rattle.lrc_places.proofs.PlaceLemmas.{productions-below, children-few}
use Rattle.lrc_session.specs.Sessions.{grammar, sorts, demands}
use Rattle.lrc_session.proofs.HighLemmas.{no_higher}
use Rattle.lrc_session.proofs.RootLemmas.{few_productions, call_demanded, tree_demanded}
use Rattle.lrc_session.proofs.session.Session.propose.Goals as goal

pub returns-then-height-depth-clause-too_deep : goal.returns-then-height-depth-clause-too_deep
returns-then-height-depth-clause-too_deep g c e =
    let same = height_agrees c.args.term.now in
    let is = c.height.ensures in
    let test = c.if-height-depth.true in
    omega (arith, same, is, test)

pub returns-in_err-frames-clause-high : goal.returns-in_err-frames-clause-high
returns-in_err-frames-clause-high g c high = absurd (no_higher c.args.term.now c.height.result c.args.depth c.height.ensures c.if-height-depth.false high)

pub returns-in_err-root-clause-high : goal.returns-in_err-root-clause-high
returns-in_err-root-clause-high g c high = absurd (no_higher c.args.term.now c.height.result c.args.depth c.height.ensures c.if-height-depth.false high)

pub returns-in_err-call-clause-high : goal.returns-in_err-call-clause-high
returns-in_err-call-clause-high g c high = absurd (no_higher c.args.term.now c.height.result c.args.depth c.height.ensures c.if-height-depth.false high)

pub returns-clause-high : goal.returns-clause-high
returns-clause-high g c high = absurd (no_higher c.args.term.now c.height.result c.args.depth c.height.ensures c.if-height-depth.false high)

pub put_term-requires-clause-few : goal.put_term-requires-clause-few
put_term-requires-clause-few g c =
    let functions = c.args.functions.now in
    children-few functions.plan.grammar.prods functions.plan.grammar.few.parts (tree c.args.term.now) (k.Sort functions.plan.grammar.start) c.requires.tree

pub put_term-requires-clause-room : goal.put_term-requires-clause-room
put_term-requires-clause-room g c =
    let same = height_agrees c.args.term.now in
    let is = c.height.ensures in
    let test = c.if-height-depth.false in
    let room = c.in_ok-frames.ensures.stack in
    omega (arith, same, is, test, room)

pub put_term-requires-clause-below : goal.put_term-requires-clause-below
put_term-requires-clause-below g c =
    let functions = c.args.functions.now in
    productions-below functions.plan.grammar.prods 65280 (few_productions (grammar functions) functions.plan.grammar.few) (tree c.args.term.now) (k.Sort functions.plan.grammar.start) c.requires.tree

pub returns-in_err-root-clause-adds : goal.returns-in_err-root-clause-adds
returns-in_err-root-clause-adds g c =
    let functions = c.args.functions.now in
    let t = tree c.args.term.now in
    adds-more (g.St.Store.state c.args.store.now) (g.St.Store.state c.put_term.new.store) (parts (tree_cell t)) (demands functions c.args.depth t)
    (tree_demanded (grammar functions) (sorts functions) c.args.depth t) c.in_err-root.ensures.builds.adds

pub returns-in_err-root-clause-full : goal.returns-in_err-root-clause-full
returns-in_err-root-clause-full g c e =
    let functions = c.args.functions.now in
    let t = tree c.args.term.now in
    lacks-more (g.St.Store.state c.put_term.new.store) (parts (tree_cell t)) (demands functions c.args.depth t)
    (tree_demanded (grammar functions) (sorts functions) c.args.depth t) c.in_err-root.ensures.builds.full

pub returns-in_err-call-clause-adds : goal.returns-in_err-call-clause-adds
returns-in_err-call-clause-adds g c =
    let functions = c.args.functions.now in
    let s = g.St.Store.state c.args.store.now in
    let m = g.St.Store.state c.put_term.new.store in
    let u = g.St.Store.state c.put_root_call.new.store in
    let t = tree c.args.term.now in
    let all = demands functions c.args.depth t in
    adds-then s m u all
    (adds-more s m (parts (tree_cell t)) all (tree_demanded (grammar functions) (sorts functions) c.args.depth t) c.in_ok-root.ensures.builds.adds)
    (adds-more m u (parts (call_form (root_call t))) all (call_demanded (grammar functions) (sorts functions) c.args.depth t) (c.in_err-call.ensures.builds t c.in_ok-root.ensures.builds.ok.stands).adds)

pub returns-in_err-call-clause-full : goal.returns-in_err-call-clause-full
returns-in_err-call-clause-full g c e =
    let functions = c.args.functions.now in
    let t = tree c.args.term.now in
    lacks-more (g.St.Store.state c.put_root_call.new.store) (parts (call_form (root_call t))) (demands functions c.args.depth t)
    (call_demanded (grammar functions) (sorts functions) c.args.depth t) (c.in_err-call.ensures.builds t c.in_ok-root.ensures.builds.ok.stands).full

pub returns-clause-adds : goal.returns-clause-adds
returns-clause-adds g c =
    let functions = c.args.functions.now in
    let s = g.St.Store.state c.args.store.now in
    let m = g.St.Store.state c.put_term.new.store in
    let u = g.St.Store.state c.put_root_call.new.store in
    let t = tree c.args.term.now in
    let all = demands functions c.args.depth t in
    adds-then s m u all
    (adds-more s m (parts (tree_cell t)) all (tree_demanded (grammar functions) (sorts functions) c.args.depth t) c.in_ok-root.ensures.builds.adds)
    (adds-more m u (parts (call_form (root_call t))) all (call_demanded (grammar functions) (sorts functions) c.args.depth t) (c.in_ok-call.ensures.builds t c.in_ok-root.ensures.builds.ok.stands).adds)
