use Rattle.lrc_gen.proofs.PartLemmas.{on_ok, var_parts, num_parts}
use Rattle.lrc_gen.proofs.tasks.part_leaf.Goals as goal

pub returns-then-draw-eq0 : goal.returns-then-draw-eq0
returns-then-draw-eq0 c =
    on_ok c.push_over.result c.push_over.ensures
    (λ grown. var_parts c.args.tasks.now.items c.push_over.new.tasks.items c.args.draws.now.state c.draw.result c.draw.new.self.state c.letter.new.self.state c.letter.result
    c.draw.ensures.value c.draw.ensures.state c.if-draw-eq0.true c.letter.ensures.value c.letter.ensures.state (rw c.name.ensures at grown))

pub returns-else-draw-eq0 : goal.returns-else-draw-eq0
returns-else-draw-eq0 c =
    on_ok c.push_over-else-draw-eq0.result c.push_over-else-draw-eq0.ensures
    (λ grown. num_parts c.args.tasks.now.items c.push_over-else-draw-eq0.new.tasks.items c.args.draws.now.state c.draw.result c.draw.new.self.state c.draw-else-draw-eq0.new.self.state c.draw-else-draw-eq0.result
    c.draw.ensures.value c.draw.ensures.state c.if-draw-eq0.false c.draw-else-draw-eq0.ensures.value c.draw-else-draw-eq0.ensures.state (rw (c.name-else-draw-eq0.ensures, c.number_item-number.ensures) at grown))
