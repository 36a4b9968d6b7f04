use Rattle.lrc_run.proofs.SoloLemmas.{rows_run_out}
use Rattle.lrc_run.proofs.laws.runs_out_of_rows.Goals as goal

pub returns : goal.returns
returns c = rows_run_out
