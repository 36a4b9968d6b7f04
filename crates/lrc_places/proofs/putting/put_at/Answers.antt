use Rattle.lrc_meaning.specs.Tree.{tree}
use Rattle.lrc_code.specs.Forms.{tree_cell}
use Rattle.lrc_places.proofs.PutLemmas.{along, term-full, whole-over}
use Rattle.lrc_places.proofs.putting.put_at.Goals as goal

pub returns-in_err-term-clause-builds : goal.returns-in_err-term-clause-builds
returns-in_err-term-clause-builds g c t old stands there =
    let s = g.St.Store.state c.args.store.now in
    let after = g.St.Store.state c.put_term.new.store in
    term-full s after after t (tree c.args.put.now.term.now) old c.args.put.now.path.now.steps there c.in_err-term.field-0.0 c.from_residual.result c.from_residual.ensures.0 c.in_err-term.ensures.builds

pub replaced-requires-clause-tree : goal.replaced-requires-clause-tree
replaced-requires-clause-tree g c =
    let (t, stands, below) = c.requires.whole in (t, c.in_ok-term.ensures.builds.adds.gains.lasts.known c.args.whole.0 (tree_cell t) stands, below)

pub returns-clause-builds : goal.returns-clause-builds
returns-clause-builds g c t old stands there =
    let s = g.St.Store.state c.args.store.now in
    let put = g.St.Store.state c.put_term.new.store in
    let after = g.St.Store.state c.replaced.new.store in
    let steps = c.args.put.now.path.now.steps in
    let new = tree c.args.put.now.term.now in
    whole-over s put after t new old steps there c.in_ok-term.term c.replaced.result c.in_ok-term.ensures.builds
    (along put after t new _ steps c.replaced.result c.as_slice.ensures
    (c.replaced.ensures.builds t new (c.in_ok-term.ensures.builds.adds.gains.lasts.known c.args.whole.0 (tree_cell t) stands) c.in_ok-term.ensures.builds.ok.stands))
