use Rattle.std.proofs.Common.{ℕ, refl, ap, sym, subst, ◌∙◌, arith}
use Rattle.lrc_store.specs.Standing.{Stands}
use Rattle.lrc_table.specs.Passes.{PassView}
use Rattle.lrc_table.specs.Standings.{standing}
use Rattle.lrc_memo.specs.Shared.{shared_standing}
use Rattle.lrc_threads.proofs.PlayedLemmas.{play-answers, each-played, one_of}
use Rattle.lrc_threads.proofs.one.play_alone.Goals as goal

pub returns-clause-played : goal.returns-clause-played
returns-clause-played g c order =
    each-played c.args.functions.now c.args.sizes (shared_standing c.play-out.new.store) (standing c.into_pass.result.view) c.args.script.now c.play-out.result
    (λ handle cell h. subst (λ (p : PassView). Stands (standing p.view) handle cell) (sym c.into_pass.ensures.pass) h)
    (play-answers c.runs_out_of_rows.ensures c.args.functions.now c.args.sizes (shared_standing c.new-store.result) (shared_standing c.play-out.new.store) c.args.script.now c.play-out.result refl
    (ap (λ (p : PassView). p.view.owned.quota) c.new-store.ensures.parts.0 ∙ c.requires.ready.quota ∙ one_of c.args.sizes.rows) c.play-out.ensures.lasts (c.play-out.ensures.plays order))
