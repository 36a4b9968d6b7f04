use Rattle.std.proofs.Common.{◌≡◌, ◌≤◌, length, ap, ◌∙◌, arith, rules}
use Rattle.lrc_base.specs.Terms.{forest, grown, wanted, higher}
use Rattle.lrc_base.proofs.ItemLemmas.{forest_snoc, one_height_more}
use Rattle.lrc_base.proofs.term_build.TermBuild.add.Goals as goal

pub invariant_of-self-else-is_err : goal.invariant_of-self-else-is_err
invariant_of-self-else-is_err c =
    let room : wanted c.args.item ≤ length c.self.inside.heights.items = search rules in
    let risen : c.rise.new.heights.items ≡ higher c.args.item c.self.inside.heights.items = search rules in
    one_height_more c.self.inside.items c.push.new.self c.args.item c.self.inside.heights.items c.rise.new.heights.items c.self.invariant room c.in_ok-push.ensures.ok risen

pub returns-clause-grown : goal.returns-clause-grown
returns-clause-grown c =
    ap forest c.in_ok-push.ensures.ok ∙ forest_snoc c.self.inside.items c.args.item ∙ ap (λ ts. grown ts c.args.item) c.self.view_is
