use Rattle.std.proofs.Common.{ap, refl, arith, w64}
use Rattle.std.proofs.lemmas.Int.{to_z-of_z}
use Rattle.lrc_store.specs.Cells.{number}
use Rattle.lrc_code.proofs.Growing.{builds-as, puts-builds}
use Rattle.lrc_code.proofs.pairs.put_number.Goals as goal

pub returns-clause-builds : goal.returns-clause-builds
returns-clause-builds g c = builds-as _ _ _ _ _ (ap number (to_z-of_z w64 c.args.value c.ranges.value)) (puts-builds _ _ _ _ (0, omega arith, refl) c.int.ensures.puts)
