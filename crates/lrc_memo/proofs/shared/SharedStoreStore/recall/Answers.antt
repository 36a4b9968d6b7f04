use Rattle.std.proofs.Common.{refl, ap, ◌∙◌}
use Rattle.lrc_table.specs.Passes.{PassView, identity}
use Rattle.lrc_memo.specs.Shared.{shared_standing}
use Rattle.lrc_memo.proofs.Recalling.{missed_stays, misses, finds}
use Rattle.lrc_memo.proofs.shared.SharedStoreStore.recall.Goals as goal

pub returns-in-None-clause-stays : goal.returns-in-None-clause-stays
returns-in-None-clause-stays g c =
    missed_stays (shared_standing c.args.self.now) c.word_of-word.new.self.pass c.count_miss.new.self.pass c.word_of-word.new.self.missed _ (identity c.word_of-word.new.self.table) _ c.count_miss.ensures.kept.0
    (ap (λ t. identity t) c.count_miss.ensures.kept.1) c.word_of-word.ensures.reads.stays

pub returns-in-None-clause-answers : goal.returns-in-None-clause-answers
returns-in-None-clause-answers g c = misses (shared_standing c.args.self.now) c.count_miss.new.self.pass.view c.word_of-word.new.self.missed _ _ _ refl c.word_of-word.ensures.reads.missed c.count_miss.ensures.missed

pub returns-in-None-clause-step : goal.returns-in-None-clause-step
returns-in-None-clause-step g c = (c.word_of-word.result, ap (λ (p : PassView). p.view.learned.memo_steps) c.count_miss.ensures.kept.0 ∙ c.word_of-word.ensures.step, (refl, c.in-None.ensures))

pub returns-in-Some-clause-answers : goal.returns-in-Some-clause-answers
returns-in-Some-clause-answers g c =
    finds (g.N.Meaning.allows c.args.self.now.table.meaning) (g.N.Meaning.reach c.args.self.now.table.meaning) (shared_standing c.args.self.now) c.word_of-word.new.self.pass.view c.word_of-word.new.self.missed
    _ c.args.call.0 c.in-Some.outcome.0 c.word_of-word.result refl c.word_of-word.ensures.reads c.requires c.word_of-word.ensures.word c.in-Some.ensures
