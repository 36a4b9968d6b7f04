use Rattle.std.proofs.Common.{◌≡◌, ◌≤◌, ◌-◌, ◌+◌, length, ap, ◌∙◌, sym, arith, rules, Fits, w64}
use Rattle.std.proofs.lemmas.Grind.{common_steps}
use Rattle.lrc_base.specs.RawTerms.{raw_forest, raw_grown}
use Rattle.lrc_base.specs.RawFlat.{HasWaiting}
use Rattle.lrc_base.proofs.RawItemLemmas.{raw_forest_snoc, waiting_more}
use Rattle.lrc_base.proofs.raw_term.RawTermBuild.add.Goals as goal

pub invariant_of-self-2 : goal.invariant_of-self-2
invariant_of-self-2 c =
    let next : c.in_ok-waiting.waiting ≡ c.self.inside.waiting - c.wanted-wanted.result + 1 = search rules in
    rw next (waiting_more c.self.inside.items c.push.new.self c.args.item c.self.inside.waiting c.wanted-wanted.result c.self.invariant c.wanted-wanted.ensures (omega arith) c.in_ok-push.ensures.ok)

pub returns-clause-grown : goal.returns-clause-grown
returns-clause-grown c =
    ap raw_forest c.in_ok-push.ensures.ok ∙ raw_forest_snoc c.self.inside.items c.args.item ∙ ap (λ ts. raw_grown ts c.args.item) c.self.view_is
