use Rattle.std.proofs.Common.{◌≡◌, ℕ, ◌+◌, ◌++◌, ◌∷◌, [], List, map, sym, ap, ◌∙◌, arith}
use Rattle.std.specs.List.{range_with_len}
use Rattle.std.proofs.lemmas.Simd.{map-map}
use Rattle.lrc_order_meaning.specs.declared.Place.{Place}
use Rattle.lrc_plan_meaning.specs.declared.Action.TheVariants as a
use Rattle.lrc_plan_meaning.specs.Items.{visits_of, symbol_at}
use Rattle.lrc_plan.specs.declared.waiting.Waiting.{Waiting}
use Rattle.lrc_plan.specs.Waiting.{waiting_of}
use Rattle.lrc_plan.proofs.VisitLemmas.{row_more}
use Rattle.lrc_plan.proofs.waiting.push_visits.Goals as goal

pub visits-preserved : goal.visits-preserved
visits-preserved c =
    let site = c.args.site.now in
    let f : ℕ → Waiting = λ v. waiting_of site.sorts.now site.parts.now site.production.now (a.Visit c.args.symbol v) in
    row_more f c.args.waiting.now.items c.visits.waiting.items c.push.new.self.items 1 c.visits.earlier (c.visits.earlier + 1) (c.visits.earlier + 1)
    c.visits.invariant (c.in_ok-push.ensures.items ∙ ap (λ w. c.visits.waiting.items ++ w ∷ []) c.in_ok-waiting_visit.ensures) (omega arith) (omega arith)

pub returns : goal.returns
returns c =
    let site = c.args.site.now in
    let of = waiting_of site.sorts.now site.parts.now site.production.now in
    let s = c.args.symbol in
    let n = visits_of site.parts.now (symbol_at site.sorts.now site.production.now s).sort in
    let visits : c.visits_of-earlier-end.result ≡ n = c.visits_of-earlier-end.ensures ∙ ap (λ (place : Place). visits_of site.parts.now place.sort) c.symbol.ensures.place in
    let end = c.visits-test.false in
    let all : c.visits.earlier ≡ n = omega arith in
    c.visits.invariant
    ∙ ap (λ k. c.args.waiting.now.items ++ map (λ v. of (a.Visit s v)) (range_with_len 1 k)) all
    ∙ ap (λ (ws : List Waiting). c.args.waiting.now.items ++ ws) (sym (map-map of (a.Visit s) (range_with_len 1 n)))
