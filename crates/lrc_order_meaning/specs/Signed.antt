-- What a signature tells of the symbols of a production: their places.
use Rattle.std.specs.Prelude.{◌≡◌, ℕ, List, map, Option, Some, None}
use Rattle.lrc_base.specs.declared.grammar.Sort.{Sort}
use Rattle.lrc_base.specs.declared.grammar.Production.{Production}
use Rattle.lrc_base.specs.declared.signature.Origin.{Origin}
use Rattle.lrc_base.specs.declared.signature.Origin.TheVariants as origin
use Rattle.lrc_base.specs.declared.signature.Symbol.{Symbol}
use Rattle.lrc_meaning.specs.Signature.{signature_of}
use Rattle.lrc_order_meaning.specs.declared.Place.{Place}
use Rattle.lrc_order_meaning.specs.Needs.{symbols_of}

-- the occurrence whose value is the tree
abbrev pub tree_at : Origin → Option ℕ
tree_at (origin.Child n) = None
tree_at (origin.Value o) = Some o

abbrev pub place_of : Symbol → Place
place_of s = record { sort = s.sort; start = s.start; tree = tree_at s.origin }

abbrev pub TellsSymbols : Type 0
TellsSymbols = (sorts : List Sort) (p : Production) → map place_of (signature_of sorts p).symbols ≡ symbols_of sorts p
