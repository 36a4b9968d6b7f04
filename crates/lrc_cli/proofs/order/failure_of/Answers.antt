use Rattle.lrc_cli.specs.Causes.{has_no_memory}
use Rattle.lrc_cli.proofs.order.failure_of.Goals as goal

pub returns-in-Memory : goal.returns-in-Memory
returns-in-Memory c = has_no_memory
