use Rattle.std.proofs.Common.{arith}
use Rattle.lrc_table.proofs.Follow.{Reads-refl, Reads-trans, Stands-later}
use Rattle.lrc_table.proofs.Probing.{number_depth, sides}
use Rattle.lrc_table.proofs.table.Pass.depth_of_content.Goals as goal

pub returns-then-content-eq0-clause-reads : goal.returns-then-content-eq0-clause-reads
returns-then-content-eq0-clause-reads g c = Reads-refl c.args.self.now c.requires.current

pub returns-then-content-eq0-clause-depth : goal.returns-then-content-eq0-clause-depth
returns-then-content-eq0-clause-depth g c = number_depth _ _ _ c.args.content c.requires.fits c.if-content-eq0.true

pub depth_of-left-requires-clause-known : goal.depth_of-left-requires-clause-known
depth_of-left-requires-clause-known g c = let s = sides _ _ _ c.args.content c.requires.fits c.if-content-eq0.false in (s.left, s.stands_left)

pub depth_of-right-requires-clause-known : goal.depth_of-right-requires-clause-known
depth_of-right-requires-clause-known g c = let s = sides _ _ _ c.args.content c.requires.fits c.if-content-eq0.false in
    (s.right, Stands-later c.args.self.now.view c.depth_of-left.new.self.view s.right _ c.requires.current c.depth_of-left.ensures.reads.follows s.stands_right)

pub returns-clause-reads : goal.returns-clause-reads
returns-clause-reads g c = Reads-trans _ _ _ c.depth_of-left.ensures.reads c.depth_of-right.ensures.reads

pub returns-clause-depth : goal.returns-clause-depth
returns-clause-depth g c = let s = sides _ _ _ c.args.content c.requires.fits c.if-content-eq0.false in
    let l = c.depth_of-left.ensures.depth s.left s.stands_left in
    let r = c.depth_of-right.ensures.depth s.right (Stands-later c.args.self.now.view c.depth_of-left.new.self.view s.right _ c.requires.current c.depth_of-left.ensures.reads.follows s.stands_right) in
    let d = s.deep in
    let m = c.depth_over.ensures in
    omega (arith, l, r, d, m)
