use Rattle.std.proofs.Common.{◌≡◌, length}
use Rattle.lrc_parse.specs.Reading.{on_took, took}
use Rattle.lrc_reader.specs.declared.lexeme.Mark.TheVariants as m
use Rattle.lrc_reader.specs.Reading.{pass, read_more_items, read_items}
use Rattle.lrc_reader.proofs.item.items.Given as goal

-- what is read from here on is what is read from the start
abbrev pub invariant-more : goal.invariant-more
invariant-more l = on_took (read_more_items 0 (l.items, l.count) l.cursor) (λ s r. on_took (pass m.RightBrace r) (λ _ q. took s.0 q)) ≡ read_items 0 l.fn.cursor

abbrev pub decreases-more : goal.decreases-more
decreases-more l = length l.cursor
