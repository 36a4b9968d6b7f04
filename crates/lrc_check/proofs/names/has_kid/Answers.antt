use Rattle.std.proofs.Common.{sym, ◌∙◌}
use Rattle.std.specs.Str.{bytes_eq}
use Rattle.lrc_base.specs.declared.raw.RawKid.{RawKid}
use Rattle.lrc_check.proofs.ListLemmas.{any_mapped}
use Rattle.lrc_check.proofs.names.has_kid.Goals as goal

pub returns : goal.returns
returns c = c.any_kid.ensures ∙ sym (any_mapped (bytes_eq c.args.name) (λ (k : RawKid). k.name) c.args.kids.now)
