use Rattle.lrc_rule.proofs.Counts.{passed-le}
use Rattle.lrc_rule.proofs.Unique.{IsAbsent-from_path}
use Rattle.lrc_rule.proofs.laws.a_probe_ends.Goals as goal

pub returns : goal.returns
returns c = record { ends = passed-le; absent = IsAbsent-from_path }
