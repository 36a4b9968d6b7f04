use Rattle.std.proofs.Common.{◌-◌, ◌/◌, refl}
use Rattle.lrc_gen.proofs.PartLemmas.{on_extended, let_parts, add_parts}
use Rattle.lrc_gen.proofs.tasks.part_fork.Goals as goal

pub returns-then-draw-eq0 : goal.returns-then-draw-eq0
returns-then-draw-eq0 c =
    on_extended c.extend_from_slice.result c.args.tasks.now.items _ c.extend_from_slice.new.self.items c.extend_from_slice.ensures.items
    (λ grown. let_parts c.args.tasks.now.items c.extend_from_slice.new.self.items c.args.nodes ((c.args.nodes - 1) / 2) (c.args.nodes - 1 - (c.args.nodes - 1) / 2) c.args.draws.now.state
    c.draw.result c.draw.new.self.state c.letter.new.self.state c.letter.result c.requires refl refl c.draw.ensures.value c.draw.ensures.state c.if-draw-eq0.true
    c.letter.ensures.value c.letter.ensures.state (rw c.name.ensures at grown))

pub returns-else-draw-eq0 : goal.returns-else-draw-eq0
returns-else-draw-eq0 c =
    on_extended c.extend_from_slice-else-draw-eq0.result c.args.tasks.now.items _ c.extend_from_slice-else-draw-eq0.new.self.items c.extend_from_slice-else-draw-eq0.ensures.items
    (λ grown. add_parts c.args.tasks.now.items c.extend_from_slice-else-draw-eq0.new.self.items c.args.nodes ((c.args.nodes - 1) / 2) (c.args.nodes - 1 - (c.args.nodes - 1) / 2) c.args.draws.now.state
    c.draw.result c.draw.new.self.state c.requires refl refl c.draw.ensures.value c.draw.ensures.state c.if-draw-eq0.false (rw c.name-else-draw-eq0.ensures at grown))
