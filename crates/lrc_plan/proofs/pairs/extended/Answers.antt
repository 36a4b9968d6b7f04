use Rattle.lrc_plan.proofs.SiteLemmas.{given_fit}
use Rattle.lrc_plan.proofs.pairs.extended.Goals as goal

pub push_ordered-requires : goal.push_ordered-requires
push_ordered-requires c =
    let site = c.args.site.now in given_fit site.sorts.now site.production.now site.few site.places.now site.placed c.places.place-index _ c.places-test.true
