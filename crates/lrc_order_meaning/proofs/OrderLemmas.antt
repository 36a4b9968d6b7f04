-- A well-formed grammar that passes the ordered test with given pairs is ordered with those that its partitions keep.
use Rattle.std.proofs.Common.{◌≡◌, IsTrue, List, All, sym, subst}
use Rattle.lrc_base.specs.declared.grammar.Given.{Given}
use Rattle.lrc_meaning.specs.Grammar.{Grammar, is_well_formed}
use Rattle.lrc_order_meaning.specs.Ordered.{IsGivenThere, IsOrdered, Partitions, ArePartitions, HasOrder}

pub has_order : (g : Grammar) (given : List Given) (found : Partitions) → IsTrue (is_well_formed g) → All (IsGivenThere g.sorts) given → IsOrdered g given → found.given ≡ given → ArePartitions g found
    → HasOrder g found
has_order g given found formed there ordered same partitions = record {
  formed = formed;
  given = subst (All (IsGivenThere g.sorts)) (sym same) there;
  partitions = partitions;
  ordered = subst (IsOrdered g) (sym same) ordered;
}
