use Rattle.std.proofs.Common.{sym, ◌∙◌}
use Rattle.std.specs.Str.{bytes_eq}
use Rattle.lrc_base.specs.declared.raw.RawSort.{RawSort}
use Rattle.lrc_check.proofs.ListLemmas.{any_mapped}
use Rattle.lrc_check.proofs.names.has_sort.Goals as goal

pub returns : goal.returns
returns c = c.any_sort.ensures ∙ sym (any_mapped (bytes_eq c.args.name) (λ (s : RawSort). s.name) c.args.sorts.now)
