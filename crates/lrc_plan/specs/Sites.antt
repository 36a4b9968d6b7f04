-- Where the parts of a production stand.
use Rattle.std.specs.Prelude.{◌≡◌, ℕ, ◌<◌, Some}
use Rattle.lrc_order_meaning.specs.declared.Place.{Place}

-- a nonterminal attribute's value stands before the attributes of its tree
abbrev pub IsBehindTree : Place → Type 0
IsBehindTree place = (tree : ℕ) → place.tree ≡ Some tree → tree < place.start
