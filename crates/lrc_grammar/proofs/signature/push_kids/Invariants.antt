use Rattle.std.proofs.Common.{◌≡◌, ◌+◌, ◌++◌, drop, length, flat_map}
use Rattle.lrc_meaning.specs.Signature.{kid_attributes, signed_kids}
use Rattle.lrc_grammar.proofs.signature.push_kids.Given as goal

abbrev pub invariant-loop-number : goal.invariant-loop-number
invariant-loop-number l = record {
  all : l.all ++ flat_map (kid_attributes l.sorts) (drop l.number l.kids) ≡ l.initial.all ++ flat_map (kid_attributes l.sorts) l.kids;
  symbols : l.symbols ++ signed_kids l.sorts (length l.all) l.number (drop l.number l.kids) ≡ l.initial.symbols ++ signed_kids l.sorts (length l.initial.all) 0 l.kids;
  count : length l.all + length (flat_map (kid_attributes l.sorts) (drop l.number l.kids)) ≡ length l.initial.all + length (flat_map (kid_attributes l.sorts) l.kids);
}
