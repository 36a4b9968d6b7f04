use Rattle.std.proofs.Common.{refl, arith}
use Rattle.lrc_code.proofs.Growing.{puts-builds}
use Rattle.lrc_code.proofs.pairs.put_pair.Goals as goal

pub returns-clause-builds : goal.returns-clause-builds
returns-clause-builds g c = puts-builds _ _ _ _ (0, omega arith, refl) c.cell.ensures.puts
