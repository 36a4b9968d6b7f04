-- Laws of the filled grammar, and of the pairs that order lines name.
use Rattle.std.specs.Prelude.{◌≡◌, List, [], flat_map, Ok, All}
use Rattle.lrc_base.specs.declared.grammar.Sort.{Sort}
use Rattle.lrc_base.specs.declared.grammar.Given.{Given}
use Rattle.lrc_base.specs.declared.raw.RawGrammar.{RawGrammar}
use Rattle.lrc_fault_meaning.specs.Faults.{missing}
use Rattle.lrc_order_meaning.specs.Ordered.{IsGivenThere}
use Rattle.lrc_augment.specs.declared.order.RawOrder.{RawOrder}
use Rattle.lrc_augment.specs.Filled.{filled}
use Rattle.lrc_augment.specs.Orders.{pairs_of}

-- a filled grammar has nothing more to be filled in
abbrev pub FilledOnce : RawGrammar → Type 0
FilledOnce g = filled (filled g) ≡ filled g

-- no equation is missing in any production
abbrev pub IsComplete : RawGrammar → Type 0
IsComplete g = flat_map (missing g.sorts) g.prods ≡ []

-- a grammar in which no equation is missing is left as it is
abbrev pub CompleteStays : RawGrammar → Type 0
CompleteStays g = IsComplete g → filled g ≡ g

-- pairs that order lines name are of sorts and attributes that are there
abbrev pub PairsAreThere : List Sort → List RawOrder → Type 0
PairsAreThere sorts lines = (pairs : List Given) → pairs_of sorts lines ≡ Ok pairs → All (IsGivenThere sorts) pairs
