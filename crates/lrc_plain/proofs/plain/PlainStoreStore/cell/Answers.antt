use Rattle.std.proofs.Common.{subst}
use Rattle.std.specs.Prelude.{IsErr, ◌↔◌}
use Rattle.lrc_store.specs.Cells.{CellTree}
use Rattle.lrc_store.specs.Words.{Puts}
use Rattle.lrc_plain.specs.Plain.{state_of, IsFullAt}
use Rattle.lrc_plain.proofs.Standings.{known-within}
use Rattle.lrc_plain.proofs.Calls.{whole-meant}
use Rattle.lrc_plain.proofs.plain.PlainStoreStore.cell.Goals as goal

pub put-requires : goal.put-requires
put-requires g c = (known-within _ _ c.requires.left_known, known-within _ _ c.requires.right_known)

pub returns-clause-puts : goal.returns-clause-puts
returns-clause-puts g c =
    let now = c.args.self.now in
    let new = c.put.new.self in
    let P : CellTree → Type 0 = λ tree. Puts (state_of now) (state_of new) tree c.put.result in
    subst P (whole-meant now.shelf c.args.tag c.args.left c.args.right c.requires.left_known c.requires.right_known) c.put.ensures.puts

pub returns-clause-exact : goal.returns-clause-exact
returns-clause-exact g c =
    let now = c.args.self.now in
    let P : CellTree → Type 0 = λ tree. IsErr c.put.result ↔ IsFullAt (state_of now) tree in
    subst P (whole-meant now.shelf c.args.tag c.args.left c.args.right c.requires.left_known c.requires.right_known) c.put.ensures.exact
