-- The faults of a session's calls, by those of the calls that they make.
use Rattle.lrc_places.specs.declared.copying.CopyFault.{CopyFault}
use Rattle.lrc_places.specs.declared.copying.CopyFault.TheVariants as copy
use Rattle.lrc_places.specs.declared.putting.ReplaceFault.{ReplaceFault}
use Rattle.lrc_places.specs.declared.putting.ReplaceFault.TheVariants as place
use Rattle.lrc_visit.specs.declared.visits.VisitFault.{VisitFault}
use Rattle.lrc_visit.specs.declared.visits.VisitFault.TheVariants as visit
use Rattle.lrc_session.specs.declared.fault.StartFault.{StartFault}
use Rattle.lrc_session.specs.declared.fault.StartFault.TheVariants as start
use Rattle.lrc_session.specs.declared.fault.EditFault.{EditFault}
use Rattle.lrc_session.specs.declared.fault.EditFault.TheVariants as edit

abbrev pub start_fault : VisitFault → StartFault
start_fault visit.Full = start.Full
start_fault visit.TooDeep = start.TooDeep

abbrev pub edit_fault : VisitFault → EditFault
edit_fault visit.Full = edit.Full
edit_fault visit.TooDeep = edit.TooDeep

abbrev pub place_fault : ReplaceFault → EditFault
place_fault place.BadPath = edit.BadPath
place_fault place.WrongSort = edit.WrongSort
place_fault place.Full = edit.Full
place_fault place.TooHigh = edit.TooDeep

abbrev pub copy_fault : CopyFault → EditFault
copy_fault copy.BadPath = edit.BadPath
copy_fault copy.WrongSort = edit.WrongSort
copy_fault copy.Full = edit.Full
