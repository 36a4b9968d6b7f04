use Rattle.std.proofs.Common.{◌≡◌, ◌+◌, ◌++◌, drop, length, flat_map}
use Rattle.lrc_meaning.specs.Signature.{extra_attributes, signed_extras}
use Rattle.lrc_grammar.proofs.signature.push_extras.Given as goal

abbrev pub invariant-loop-extra : goal.invariant-loop-extra
invariant-loop-extra l = record {
  all : l.all ++ flat_map (extra_attributes l.sorts) (drop l.extra-index l.extras) ≡ l.initial.all ++ flat_map (extra_attributes l.sorts) l.extras;
  symbols : l.symbols ++ signed_extras l.sorts (length l.all) (drop l.extra-index l.extras) ≡ l.initial.symbols ++ signed_extras l.sorts (length l.initial.all) l.extras;
  count : length l.all + length (flat_map (extra_attributes l.sorts) (drop l.extra-index l.extras)) ≡ length l.initial.all + length (flat_map (extra_attributes l.sorts) l.extras);
}
