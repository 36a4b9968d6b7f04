use Rattle.std.proofs.Common.{sym, ◌∙◌}
use Rattle.std.specs.Str.{bytes_eq}
use Rattle.lrc_base.specs.declared.raw.RawProd.{RawProd}
use Rattle.lrc_check.proofs.ListLemmas.{any_mapped}
use Rattle.lrc_check.proofs.names.has_prod.Goals as goal

pub returns : goal.returns
returns c = c.any_prod.ensures ∙ sym (any_mapped (bytes_eq c.args.name) (λ (p : RawProd). p.name) c.args.prods.now)
