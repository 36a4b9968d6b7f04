-- The levels of a machine as lists.
use Rattle.lrc_machine.specs.declared.turns.Levels.{Levels}
use Rattle.lrc_machine.specs.Machine.{Slots}

abbrev pub slots_of : {Frame Mark : Type 0} → Levels Frame Mark → Slots Frame Mark
slots_of levels = record { frames = levels.frames.items; marks = levels.marks.items }
