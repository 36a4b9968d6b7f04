use Rattle.std.proofs.Common.{◌<◌, List, length, sym, subst}
use Rattle.lrc_order_meaning.specs.declared.Place.{Place}
use Rattle.lrc_plan.proofs.SiteLemmas.{symbols_fit}
use Rattle.lrc_plan.proofs.site.Site.symbol.Goals as goal

pub returns-clause-within : goal.returns-clause-within
returns-clause-within c =
    let site = c.args.self.now in
    let there = subst (λ (places : List Place). c.args.number < length places) (sym c.symbols.ensures) c.requires in
    symbols_fit site.sorts.now site.production.now site.few c.symbols.result.now c.symbols.ensures c.args.number _ there
