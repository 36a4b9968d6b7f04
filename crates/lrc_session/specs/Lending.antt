-- The frames of a session, lent: the session ends with those that are left there, and is else as it was.
use Rattle.std.specs.Borrow.{Lends, MutBor, Fml}
use Rattle.lrc_bodies.specs.declared.frames.Frames.{Frames}
use Rattle.lrc_bodies.specs.contracts.frames.Frames.{the_row as frames_row}
use Rattle.lrc_session.specs.declared.session.Session.{Session}
use Rattle.lrc_session.specs.contracts.session.Session.{the_row}

-- the session with other frames
abbrev pub with_frames : Session → Frames → Session
with_frames session frames = record session { frames = frames }

-- the session ends with the last frames behind the result
abbrev pub LendsFrames : MutBor Session → MutBor Frames → Fml
LendsFrames s r = Lends the_row frames_row s r (with_frames s.now)
