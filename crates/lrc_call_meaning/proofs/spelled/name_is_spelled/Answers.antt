use Rattle.std.proofs.Common.{◌<◌, List, ℕ, subst, Contains}
use Rattle.lrc_call_meaning.proofs.SpelledLemmas.{name-spelled}
use Rattle.lrc_call_meaning.proofs.spelled.name_is_spelled.Goals as goal

pub returns : goal.returns
returns c =
    let AreBelow : List ℕ → Type 0 = λ bytes. (byte : ℕ) → Contains bytes byte → byte < 256 in
    name-spelled c.args.name.now c.bytes.ensures.name (subst AreBelow c.bytes.ensures.value c.are_below_256.ensures)
