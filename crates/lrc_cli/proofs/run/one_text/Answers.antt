use Rattle.lrc_cli.proofs.RunLemmas.{one_text_of, one_solo_of, one_summary_of}
use Rattle.lrc_cli.proofs.RoomLemmas.{with_room, solo_with_room}
use Rattle.lrc_cli.proofs.run.one_text.Goals as goal

pub returns-clause-one : goal.returns-clause-one
returns-clause-one c = one_text_of c.one_job.ensures c.attribution_is_unique.ensures

pub returns-clause-room : goal.returns-clause-room
returns-clause-room c = with_room

pub returns-clause-one_solo : goal.returns-clause-one_solo
returns-clause-one_solo c = one_solo_of c.one_job.ensures c.attribution_is_unique.ensures

pub returns-clause-solo_room : goal.returns-clause-solo_room
returns-clause-solo_room c = solo_with_room

pub returns-clause-one_summary : goal.returns-clause-one_summary
returns-clause-one_summary c = one_summary_of c.attribution_is_unique.ensures
