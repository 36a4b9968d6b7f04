use Rattle.std.proofs.Common.{◌≡◌, ◌+◌, ◌-◌, ◌++◌, ◌∷◌, [], List, ℕ, map, ap, ◌∙◌, arith}
use Rattle.std.specs.List.{range_with_len}
use Rattle.lrc_plan_meaning.specs.declared.Bound.TheVariants as b
use Rattle.lrc_plan.proofs.VisitLemmas.{row_more}
use Rattle.lrc_functions.specs.Numbers.{number_in, number}
use Rattle.lrc_functions.proofs.scene.Scene.later.Goals as goal

pub visits-preserved : goal.visits-preserved
visits-preserved c =
    let scene = c.args.self.now in
    let low = c.visits.auto.before in
    let one : c.push.new.self ≡ c.visits.numbers ++ number scene.sorts.now scene.parts.now scene.production.now (b.Kid c.args.symbol c.args.visit (c.visits.before + 1)) ∷ [] =
    c.in_ok-push.ensures.ok
    ∙ ap (λ n. c.visits.numbers ++ n ∷ []) (c.in_ok-of.ensures ∙ ap (λ (rows : List (List ℕ)). number_in rows (b.Kid c.args.symbol c.args.visit (c.visits.before + 1))) scene.numbered) in
    record {
      numbers = row_more (λ w. number scene.sorts.now scene.parts.now scene.production.now (b.Kid c.args.symbol c.args.visit w)) [] c.visits.numbers c.push.new.self (c.args.visit + 1) (c.visits.before - c.args.visit) (c.visits.before + 1) (c.visits.before + 1 - c.args.visit)
          c.visits.invariant.numbers one (omega arith) (omega arith);
      within = omega arith;
    }

pub returns : goal.returns
returns c =
    let scene = c.args.self.now in
    let end = c.visits-test.false in
    let within = c.visits.invariant.within in
    let low = c.visits.auto.before in
    let e : c.visits.before - c.args.visit ≡ c.args.visits - c.args.visit = omega arith in
    c.visits.invariant.numbers ∙ ap (λ n. map (λ w. number scene.sorts.now scene.parts.now scene.production.now (b.Kid c.args.symbol c.args.visit w)) (range_with_len (c.args.visit + 1) n)) e
