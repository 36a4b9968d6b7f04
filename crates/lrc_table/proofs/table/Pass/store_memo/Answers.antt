use Rattle.std.proofs.Common.{ℕ, [], ◌∷◌, ◌++◌, ◌∙◌, ap}
use Rattle.lrc_rule.specs.Memo.{memo_store}
use Rattle.lrc_table.proofs.Recalling.{IsOf-memoes, memo_reads, pair_from}
use Rattle.lrc_table.proofs.table.Pass.store_memo.Goals as goal

pub store_word-requires-clause-pair : goal.store_word-requires-clause-pair
store_word-requires-clause-pair g c =
    pair_from _ _ c.args.self.now.view c.args.call.0 c.args.outcome.0 _ c.published-rows.ensures.current (g.M.Meaning.filled c.args.table.now.meaning)
    c.requires.call_known c.requires.outcome_known c.requires.allowed c.requires.reached c.pair.ensures

pub returns-clause-of : goal.returns-clause-of
returns-clause-of g c = IsOf-memoes c.args.self.now c.store_word.new.self c.args.table.now _ c.store_word.ensures.table c.store_word.ensures.step c.requires.of

pub returns-clause-reads : goal.returns-clause-reads
returns-clause-reads g c = memo_reads c.args.self.now.view c.store_word.new.self.view _ c.published-rows.ensures.current c.published-rows.ensures.layout c.store_word.ensures.step

pub returns-clause-step : goal.returns-clause-step
returns-clause-step g c = c.store_word.ensures.step.follows.memo_steps ∙ ap (λ (word : ℕ). c.args.self.now.view.learned.memo_steps ++ memo_store c.args.place word ∷ []) c.pair.ensures
