use Rattle.std.proofs.Common.{◌≡◌, [], ◌∷◌, ◌++◌}
use Rattle.std.proofs.lemmas.Result.{IfOk-weaker}
use Rattle.lrc_run.specs.Lines.{reply_of, HasOneMore}
use Rattle.lrc_run.proofs.playing.push_fixed.Goals as goal

pub returns : goal.returns
returns c g =
    let line = c.in_ok-fixed_line.field-0 in
    IfOk-weaker c.push.result (λ _. c.push.new.self ≡ c.args.lines.now ++ line ∷ []) (λ _. HasOneMore g (reply_of c.args.outcome) c.args.lines.now c.push.new.self)
    (λ _ all. record { line = line; is_line = c.in_ok-fixed_line.ensures g; all = all }) c.push.ensures.ok
