use Rattle.std.proofs.Common.{◌≡◌, map, take}
use Rattle.lrc_base.specs.declared.signature.Symbol.{Symbol}
use Rattle.lrc_plan.proofs.names.symbol_names.Given as goal

abbrev pub invariant-symbols : goal.invariant-symbols
invariant-symbols l = l.names ≡ map (λ (s : Symbol). s.name) (take l.symbol-index l.symbols)
