use Rattle.std.proofs.Common.{subst, inl, inr, Bool, ◌≡◌, ◌≢◌}
use Rattle.std.specs.Prelude.{MatchBool}
use Rattle.lrc_words.specs.declared.command.Verb.TheVariants as verb
use Rattle.lrc_cli.specs.Causes.{TakesSessions, too_many_rows, not_one_session}
use Rattle.lrc_cli.proofs.prepared.takes.Goals as goal

pub returns-then-has_many_rows-clause-fault : goal.returns-then-has_many_rows-clause-fault
returns-then-has_many_rows-clause-fault c = let many = c.has_many_rows.ensures.many c.if-has_many_rows.true in too_many_rows many.0 many.1

pub returns-then-takes_others-clause-fault : goal.returns-then-takes_others-clause-fault
returns-then-takes_others-clause-fault c =
    let other =
    subst (λ (b : Bool). MatchBool b ((c.args.command.now.verb ≡ verb.Solo) × (c.args.sessions ≢ 1)) (TakesSessions c.args.command.now.verb c.args.sessions)) c.if-takes_others.true c.takes_others.ensures in
    not_one_session other.0 (c.has_many_rows.ensures.few c.if-has_many_rows.false (inr (inl other.0))) other.1

pub returns-clause-rows : goal.returns-clause-rows
returns-clause-rows c = record {
  rows = c.has_many_rows.ensures.few c.if-has_many_rows.false;
  number =
      subst (λ (b : Bool). MatchBool b ((c.args.command.now.verb ≡ verb.Solo) × (c.args.sessions ≢ 1)) (TakesSessions c.args.command.now.verb c.args.sessions)) c.if-takes_others.false c.takes_others.ensures;
}
