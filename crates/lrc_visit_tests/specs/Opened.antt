-- Sessions that are open, whatever their tree is.
use Rattle.std.specs.Prelude.{List}
use Rattle.lrc_meaning.specs.Tree.{Tree}
use Rattle.lrc_store.specs.Standing.{Standing}
use Rattle.lrc_functions.specs.declared.functions.Functions.{Functions}
use Rattle.lrc_session.specs.declared.session.Session.{Session}
use Rattle.lrc_session.specs.Sessions.{IsOpen}

-- the session has some tree, and the root's attributes have some values
abbrev pub IsOpened : Functions → Standing → Session → Type 0
IsOpened functions s session = (t : Tree) × (vs : List Tree) × IsOpen functions s session t vs
