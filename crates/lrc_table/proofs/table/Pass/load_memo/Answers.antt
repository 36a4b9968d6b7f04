use Rattle.std.proofs.Common.{refl, sym, subst}
use Rattle.lrc_rule.specs.Layout.{IsLayout}
use Rattle.lrc_table.proofs.Recalling.{IsOf-memoes, memo_reads, known_word}
use Rattle.lrc_table.proofs.table.Pass.load_memo.Goals as goal

pub load_word-requires-clause-reach : goal.load_word-requires-clause-reach
load_word-requires-clause-reach g c = refl

pub returns-clause-of : goal.returns-clause-of
returns-clause-of g c = IsOf-memoes c.args.self.now c.load_word.new.self c.args.table.now _ c.load_word.ensures.table c.load_word.ensures.step c.requires.of

pub returns-clause-reads : goal.returns-clause-reads
returns-clause-reads g c = memo_reads c.args.self.now.view c.load_word.new.self.view _ c.published-rows.ensures.current c.published-rows.ensures.layout c.load_word.ensures.step

pub returns-clause-step : goal.returns-clause-step
returns-clause-step g c = c.load_word.ensures.step.follows.memo_steps

pub returns-clause-word : goal.returns-clause-word
returns-clause-word g c = let q = c.load_word.new.self.view in known_word _ _ q _ c.load_word.ensures.step.follows.current (subst IsLayout (sym c.load_word.ensures.step.follows.layout) c.published-rows.ensures.layout) c.load_word.ensures.word
