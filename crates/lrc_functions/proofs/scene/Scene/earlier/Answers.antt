use Rattle.std.proofs.Common.{◌≡◌, ◌+◌, ◌-◌, ◌++◌, ◌∷◌, [], List, ℕ, map, ap, ◌∙◌, arith}
use Rattle.std.specs.List.{range_with_len}
use Rattle.lrc_plan_meaning.specs.declared.Bound.TheVariants as b
use Rattle.lrc_plan.proofs.VisitLemmas.{row_more}
use Rattle.lrc_functions.specs.Numbers.{number_in, number}
use Rattle.lrc_functions.proofs.scene.Scene.earlier.Goals as goal

pub visits-preserved : goal.visits-preserved
visits-preserved c =
    let scene = c.args.self.now in
    let low = c.visits.auto.from in
    let one : c.push.new.self ≡ c.visits.numbers ++ number scene.sorts.now scene.parts.now scene.production.now (b.Kid c.args.symbol c.visits.from c.args.visit) ∷ [] =
    c.in_ok-push.ensures.ok
    ∙ ap (λ n. c.visits.numbers ++ n ∷ []) (c.in_ok-of.ensures ∙ ap (λ (rows : List (List ℕ)). number_in rows (b.Kid c.args.symbol c.visits.from c.args.visit)) scene.numbered) in
    record {
      numbers = row_more (λ u. number scene.sorts.now scene.parts.now scene.production.now (b.Kid c.args.symbol u c.args.visit)) [] c.visits.numbers c.push.new.self 1 (c.visits.from - 1) c.visits.from (c.visits.from + 1 - 1)
          c.visits.invariant.numbers one (omega arith) (omega arith);
      within = omega arith;
    }

pub returns : goal.returns
returns c =
    let scene = c.args.self.now in
    let end = c.visits-test.false in
    let within = c.visits.invariant.within in
    let low = c.visits.auto.from in
    let e : c.visits.from - 1 ≡ c.args.visit - 1 = omega arith in
    c.visits.invariant.numbers ∙ ap (λ n. map (λ u. number scene.sorts.now scene.parts.now scene.production.now (b.Kid c.args.symbol u c.args.visit)) (range_with_len 1 n)) e
