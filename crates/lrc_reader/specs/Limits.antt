-- The limits of jobs. Each may be widened by the same number, its slack, which is 0 for the limits themselves.
use Rattle.std.specs.Prelude.{ℕ, ◌+◌}
use Rattle.lrc_base.specs.declared.limits.TheConstants.{SORT_LIMIT, ATTRIBUTE_LIMIT, PRODUCTION_LIMIT, CHILD_LIMIT, LOCAL_LIMIT, NODE_LIMIT, LEVEL_LIMIT, TERM_LEVEL_LIMIT, SESSION_LIMIT, EDIT_LIMIT}
use Rattle.lrc_parse.specs.Reading.{Cause, limit}
use Rattle.lrc_reader.specs.declared.fault.Limit.{Limit}
use Rattle.lrc_reader.specs.declared.fault.Limit.TheVariants.{Sorts, Attributes, Productions, Children, Locals, Nodes, Sessions, Edits}

abbrev pub sort_limit : ℕ → ℕ
sort_limit slack = SORT_LIMIT + slack

abbrev pub attribute_limit : ℕ → ℕ
attribute_limit slack = ATTRIBUTE_LIMIT + slack

abbrev pub production_limit : ℕ → ℕ
production_limit slack = PRODUCTION_LIMIT + slack

abbrev pub child_limit : ℕ → ℕ
child_limit slack = CHILD_LIMIT + slack

-- locals and nonterminal attributes together
abbrev pub local_limit : ℕ → ℕ
local_limit slack = LOCAL_LIMIT + slack

abbrev pub node_limit : ℕ → ℕ
node_limit slack = NODE_LIMIT + slack

abbrev pub session_limit : ℕ → ℕ
session_limit slack = SESSION_LIMIT + slack

abbrev pub edit_limit : ℕ → ℕ
edit_limit slack = EDIT_LIMIT + slack

-- expressions within one another
abbrev pub level_limit : ℕ → ℕ
level_limit slack = LEVEL_LIMIT + slack

-- terms within one another
abbrev pub term_level_limit : ℕ → ℕ
term_level_limit slack = TERM_LEVEL_LIMIT + slack

abbrev pub number_of : Limit → ℕ
number_of Sorts = 0
number_of Attributes = 1
number_of Productions = 2
number_of Children = 3
number_of Locals = 4
number_of Nodes = 5
number_of Sessions = 6
number_of Edits = 7

-- that the limit is passed
abbrev pub passing : Limit → Cause
passing what = limit (number_of what)
