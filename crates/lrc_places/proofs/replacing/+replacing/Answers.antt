use Rattle.std.proofs.Common.{◌≡◌, ◌+◌, ◌-◌, ◌<◌, length, take, drop, get_or, arith}
use Rattle.std.proofs.lemmas.Grind.{common_steps}
use Rattle.lrc_meaning.specs.Tree.{replaced, replaced_among}
use Rattle.lrc_store.specs.Cells.{nil}
use Rattle.lrc_store.proofs.Known.{stands-known}
use Rattle.lrc_code.specs.Forms.{node_cell, more_cell, tree_cell}
use Rattle.lrc_code.proofs.Growing.{left-within, right-within}
use Rattle.lrc_places.specs.Places.{kids_cell}
use Rattle.lrc_places.proofs.BuildLemmas.{work, step-taken, kids-below, read-stands, stopped, node-over, first-over, others-over, node-replaced, first-replaced, others-replaced, each-below}
use Rattle.lrc_places.proofs.replacing.+replacing.Goals as goal

-- ---- the node

pub replaced-replaced_among-requires : goal.replaced-replaced_among-requires
replaced-replaced_among-requires g t c κs within =
    let steps = c.args.steps.now in
    let rest = take (length steps - 1) (drop 1 steps) in
    let all : work steps ≡ t = c.decreases in
    let less : get_or steps 0 0 + 1 + work rest < work steps = step-taken steps rest c.in-len1-up.len_at_least (grind (arith, common_steps)) in
    let s = g.St.Store.state c.args.store.now in
    let read = g.St.Store.state c.shape_of.new.store in
    let (tree, whole, below) = c.requires.tree in
    let (new, part) = c.requires.part in
    let (kids, is, list) = c.in-Node.ensures.shape tree whole in (
      omega (arith, all, less),
      (within.0, (within.1, ((kids, list, kids-below tree c.in-Node.production kids is below), (new, read-stands s read c.args.part (tree_cell new) c.shape_of.ensures.reads part)))),
    )

pub replaced-returns-in_err-kids-clause-builds : goal.replaced-returns-in_err-kids-clause-builds
replaced-returns-in_err-kids-clause-builds g t c tree new whole part =
    let s = g.St.Store.state c.args.store.now in
    let read = g.St.Store.state c.shape_of.new.store in
    let steps = c.args.steps.now in
    let rest = take (length steps - 1) (drop 1 steps) in
    let (kids, is, list) = c.in-Node.ensures.shape tree whole in
    let cell = kids_cell (replaced_among kids (get_or steps 0 0) rest new) in
    stopped s read (g.St.Store.state c.replaced_among.new.store) (tree_cell (replaced tree steps new)) c.from_residual.result c.shape_of.ensures.reads
    cell (node_cell c.in-Node.production cell) c.in_err-kids.field-0.0 (left-within (256 + c.in-Node.production) cell nil)
    (node-replaced tree new c.in-Node.production kids steps rest is c.in-len1-up.len_at_least (grind (arith, common_steps)))
    c.from_residual.ensures.0 (c.in_err-kids.ensures.builds kids new list (read-stands s read c.args.part (tree_cell new) c.shape_of.ensures.reads part))

pub replaced-put_node-requires-clause-kids_known : goal.replaced-put_node-requires-clause-kids_known
replaced-put_node-requires-clause-kids_known g t c =
    let s = g.St.Store.state c.args.store.now in
    let read = g.St.Store.state c.shape_of.new.store in
    let steps = c.args.steps.now in
    let (tree, whole, below) = c.requires.tree in
    let (new, part) = c.requires.part in
    let (kids, is, list) = c.in-Node.ensures.shape tree whole in
    let built = c.in_ok-kids.ensures.builds kids new list (read-stands s read c.args.part (tree_cell new) c.shape_of.ensures.reads part) in
    stands-known (g.St.Store.state c.replaced_among.new.store) c.in_ok-kids.kids.0 (kids_cell (replaced_among kids (get_or steps 0 0) (take (length steps - 1) (drop 1 steps)) new)) built.ok.stands

pub replaced-returns-clause-builds : goal.replaced-returns-clause-builds
replaced-returns-clause-builds g t c tree new whole part =
    let s = g.St.Store.state c.args.store.now in
    let read = g.St.Store.state c.shape_of.new.store in
    let steps = c.args.steps.now in
    let rest = take (length steps - 1) (drop 1 steps) in
    let (kids, is, list) = c.in-Node.ensures.shape tree whole in
    node-over s read (g.St.Store.state c.replaced_among.new.store) (tree_cell (replaced tree steps new)) c.put_node.result c.shape_of.ensures.reads (g.St.Store.state c.put_node.new.store)
    c.in-Node.production (kids_cell (replaced_among kids (get_or steps 0 0) rest new)) c.in_ok-kids.kids
    (node-replaced tree new c.in-Node.production kids steps rest is c.in-len1-up.len_at_least (grind (arith, common_steps)))
    (c.in_ok-kids.ensures.builds kids new list (read-stands s read c.args.part (tree_cell new) c.shape_of.ensures.reads part)) c.put_node.ensures.builds

-- ---- the child that the step names

pub replaced_among-replaced-requires : goal.replaced_among-replaced-requires
replaced_among-replaced-requires g t c κs within =
    let falls : c.args.step + 1 + work c.args.steps.now ≡ t = c.decreases in
    let s = g.St.Store.state c.args.store.now in
    let read = g.St.Store.state c.items_of.new.store in
    let (kids, list, below) = c.requires.kids in
    let (new, part) = c.requires.part in
    let (first, rest, is, here, others) = c.in-Some.ensures.first kids list in (
      omega (arith, falls),
      (within.0, (within.1, ((first, here, (each-below kids first rest is below).0), (new, read-stands s read c.args.part (tree_cell new) c.items_of.ensures.reads part)))),
    )

pub replaced_among-returns-in_err-kid-clause-builds : goal.replaced_among-returns-in_err-kid-clause-builds
replaced_among-returns-in_err-kid-clause-builds g t c kids new list part =
    let s = g.St.Store.state c.args.store.now in
    let read = g.St.Store.state c.items_of.new.store in
    let steps = c.args.steps.now in
    let (first, rest, is, here, others) = c.in-Some.ensures.first kids list in
    let cell = tree_cell (replaced first steps new) in
    stopped s read (g.St.Store.state c.replaced.new.store) (kids_cell (replaced_among kids c.args.step steps new)) c.from_residual.result c.items_of.ensures.reads
    cell (more_cell cell (kids_cell rest)) c.in_err-kid.field-0.0 (left-within 4 cell (kids_cell rest)) (first-replaced kids first rest c.args.step steps new is c.if-step-eq0.true)
    c.from_residual.ensures.0 (c.in_err-kid.ensures.builds first new here (read-stands s read c.args.part (tree_cell new) c.items_of.ensures.reads part))

pub replaced_among-put_list-requires-clause-first_known : goal.replaced_among-put_list-requires-clause-first_known
replaced_among-put_list-requires-clause-first_known g t c =
    let s = g.St.Store.state c.args.store.now in
    let read = g.St.Store.state c.items_of.new.store in
    let (kids, list, below) = c.requires.kids in
    let (new, part) = c.requires.part in
    let (first, rest, is, here, others) = c.in-Some.ensures.first kids list in
    let built = c.in_ok-kid.ensures.builds first new here (read-stands s read c.args.part (tree_cell new) c.items_of.ensures.reads part) in
    stands-known (g.St.Store.state c.replaced.new.store) c.in_ok-kid.kid.0 (tree_cell (replaced first c.args.steps.now new)) built.ok.stands

pub replaced_among-put_list-requires-clause-rest_known : goal.replaced_among-put_list-requires-clause-rest_known
replaced_among-put_list-requires-clause-rest_known g t c =
    let s = g.St.Store.state c.args.store.now in
    let read = g.St.Store.state c.items_of.new.store in
    let (kids, list, below) = c.requires.kids in
    let (new, part) = c.requires.part in
    let (first, rest, is, here, others) = c.in-Some.ensures.first kids list in
    let built = c.in_ok-kid.ensures.builds first new here (read-stands s read c.args.part (tree_cell new) c.items_of.ensures.reads part) in
    stands-known (g.St.Store.state c.replaced.new.store) c.in-Some.items.rest.0 (kids_cell rest) (built.adds.gains.lasts.known c.in-Some.items.rest.0 (kids_cell rest) others)

pub replaced_among-returns-in_ok-kid-clause-builds : goal.replaced_among-returns-in_ok-kid-clause-builds
replaced_among-returns-in_ok-kid-clause-builds g t c kids new list part =
    let s = g.St.Store.state c.args.store.now in
    let read = g.St.Store.state c.items_of.new.store in
    let steps = c.args.steps.now in
    let (first, rest, is, here, others) = c.in-Some.ensures.first kids list in
    first-over s read (g.St.Store.state c.replaced.new.store) (kids_cell (replaced_among kids c.args.step steps new)) c.put_list.result c.items_of.ensures.reads (g.St.Store.state c.put_list.new.store)
    (tree_cell (replaced first steps new)) (kids_cell rest) c.in_ok-kid.kid c.in-Some.items.rest (first-replaced kids first rest c.args.step steps new is c.if-step-eq0.true) others
    (c.in_ok-kid.ensures.builds first new here (read-stands s read c.args.part (tree_cell new) c.items_of.ensures.reads part)) c.put_list.ensures.builds

-- ---- the children behind

pub replaced_among-replaced_among-requires : goal.replaced_among-replaced_among-requires
replaced_among-replaced_among-requires g t c κs within =
    let falls : c.args.step + 1 + work c.args.steps.now ≡ t = c.decreases in
    let s = g.St.Store.state c.args.store.now in
    let read = g.St.Store.state c.items_of.new.store in
    let (kids, list, below) = c.requires.kids in
    let (new, part) = c.requires.part in
    let (first, rest, is, here, others) = c.in-Some.ensures.first kids list in (
      omega (arith, falls, c.if-step-eq0.false),
      (within.0, (within.1, ((rest, others, (each-below kids first rest is below).1), (new, read-stands s read c.args.part (tree_cell new) c.items_of.ensures.reads part)))),
    )

pub replaced_among-returns-in_err-rest-clause-builds : goal.replaced_among-returns-in_err-rest-clause-builds
replaced_among-returns-in_err-rest-clause-builds g t c kids new list part =
    let s = g.St.Store.state c.args.store.now in
    let read = g.St.Store.state c.items_of.new.store in
    let steps = c.args.steps.now in
    let (first, rest, is, here, others) = c.in-Some.ensures.first kids list in
    let cell = kids_cell (replaced_among rest (c.args.step - 1) steps new) in
    stopped s read (g.St.Store.state c.replaced_among.new.store) (kids_cell (replaced_among kids c.args.step steps new)) c.from_residual-in_err-rest.result c.items_of.ensures.reads
    cell (more_cell (tree_cell first) cell) c.in_err-rest.field-0.0 (right-within 4 (tree_cell first) cell) (others-replaced kids first rest c.args.step steps new is c.if-step-eq0.false)
    c.from_residual-in_err-rest.ensures.0 (c.in_err-rest.ensures.builds rest new others (read-stands s read c.args.part (tree_cell new) c.items_of.ensures.reads part))

pub replaced_among-put_list-requires-else-step-eq0-clause-rest_known : goal.replaced_among-put_list-requires-else-step-eq0-clause-rest_known
replaced_among-put_list-requires-else-step-eq0-clause-rest_known g t c =
    let s = g.St.Store.state c.args.store.now in
    let read = g.St.Store.state c.items_of.new.store in
    let (kids, list, below) = c.requires.kids in
    let (new, part) = c.requires.part in
    let (first, rest, is, here, others) = c.in-Some.ensures.first kids list in
    let built = c.in_ok-rest.ensures.builds rest new others (read-stands s read c.args.part (tree_cell new) c.items_of.ensures.reads part) in
    stands-known (g.St.Store.state c.replaced_among.new.store) c.in_ok-rest.rest.0 (kids_cell (replaced_among rest (c.args.step - 1) c.args.steps.now new)) built.ok.stands

pub replaced_among-returns-in_ok-rest-clause-builds : goal.replaced_among-returns-in_ok-rest-clause-builds
replaced_among-returns-in_ok-rest-clause-builds g t c kids new list part =
    let s = g.St.Store.state c.args.store.now in
    let read = g.St.Store.state c.items_of.new.store in
    let steps = c.args.steps.now in
    let (first, rest, is, here, others) = c.in-Some.ensures.first kids list in
    others-over s read (g.St.Store.state c.replaced_among.new.store) (kids_cell (replaced_among kids c.args.step steps new)) c.put_list-else-step-eq0.result c.items_of.ensures.reads
    (g.St.Store.state c.put_list-else-step-eq0.new.store)
    (tree_cell first) (kids_cell (replaced_among rest (c.args.step - 1) steps new)) c.in-Some.items.first c.in_ok-rest.rest (others-replaced kids first rest c.args.step steps new is c.if-step-eq0.false) here
    (c.in_ok-rest.ensures.builds rest new others (read-stands s read c.args.part (tree_cell new) c.items_of.ensures.reads part)) c.put_list-else-step-eq0.ensures.builds
