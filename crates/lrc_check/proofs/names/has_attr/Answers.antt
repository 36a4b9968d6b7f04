use Rattle.std.proofs.Common.{sym, ◌∙◌}
use Rattle.std.specs.Str.{bytes_eq}
use Rattle.lrc_base.specs.declared.raw.RawAttr.{RawAttr}
use Rattle.lrc_check.proofs.ListLemmas.{any_mapped}
use Rattle.lrc_check.proofs.names.has_attr.Goals as goal

pub returns : goal.returns
returns c = c.any_attr.ensures ∙ sym (any_mapped (bytes_eq c.args.name) (λ (a : RawAttr). a.name) c.args.attrs.now)
