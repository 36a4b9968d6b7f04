-- What stands at a body's mark: its function is there, and the next operation of it, or its end.
use Rattle.std.proofs.Common.{◌≡◌, ℕ, ◌-◌, ◌<◌, ◌≤◌, ◌^◌, inl, inr, List, length, map, Some, slice_get, get_or, refl, sym, ap, ◌∙◌, subst, arith}
use Rattle.std.specs.Prelude.{IfSome}
use Rattle.std.proofs.lemmas.Option.{slice_get_read}
use Rattle.std.proofs.lemmas.Bool.{cases_lt}
use Rattle.std.proofs.Math.Logic.{∥∥₁_elim}
use Rattle.lrc_base.specs.declared.grammar.Production.{Production}
use Rattle.lrc_meaning.specs.Grammar.{Grammar}
use Rattle.lrc_meaning.specs.Limits.{IsWithinLimits}
use Rattle.lrc_order_meaning.specs.Ordered.{Partitions, HasOrder}
use Rattle.lrc_grammar.specs.Grammar.{grammar_of}
use Rattle.lrc_plan_meaning.specs.Items.{visits_of}
use Rattle.lrc_plan.specs.Planned.{IsVisit}
use Rattle.lrc_plan.proofs.ReadLemmas.{if_some, in_some}
use Rattle.lrc_visit_meaning.specs.Values.{Call}
use Rattle.lrc_store.specs.Standing.{Standing}
use Rattle.lrc_cell_laws.proofs.TagLemmas.{nine_visits}
use Rattle.lrc_eval.specs.declared.values.Val.{Val}
use Rattle.lrc_functions.specs.declared.function.Function.{Function}
use Rattle.lrc_functions.specs.declared.function.Operation.{Operation}
use Rattle.lrc_functions.specs.Functions.{function_of, functions_of}
use Rattle.lrc_bodies.specs.declared.mark.Mark.{Mark}
use Rattle.lrc_bodies.specs.declared.remembered.VisitMeaning.{VisitMeaning}
use Rattle.lrc_bodies.specs.Bodies.{function_at, Runs}
use Rattle.lrc_bodies.specs.Advancing.{IsAtEnd, Faces}
use Rattle.lrc_bodies.proofs.AdvanceLemmas.{is_there, own_function}

-- the number of a call's visit has room in its tag
tag_fits : (g : Grammar) (found : Partitions) → ∥ HasOrder g found ∥₁ → IsWithinLimits g → (sort v : ℕ) → v ≤ visits_of found.sorts sort → v ≤ 223
tag_fits g found order few sort v last =
    elim (cases_lt 223 v) [
      | inl more ↦
          let no_two : IsProp ⊥ = hlevel in
          absurd (∥∥₁_elim order no_two (λ is. let most = nine_visits g found is few sort in omega (arith, more, most, last)))
      | inr le ↦ le
    ]

module _ (g : Grammar) (found : Partitions) (productions : List (List Function)) (made : productions ≡ map (functions_of g.sorts found.sorts) g.prods)
    (s : Standing) (frame : List Val) (level : ℕ) (c : Call) (mark : Mark) (runs : Runs g found.sorts s frame level c mark) where
  abbrev production : Production
  production = runs.run.production

  -- the visit at the mark is one of the production's
  pub visit_is_there : IfSome (slice_get g.prods mark.body.production) (λ p. IsVisit found p mark.body.visit)
  visit_is_there =
      let is = is_there g found.sorts productions made s frame level c mark runs in
      if_some (λ p. IsVisit found p mark.body.visit) (slice_get g.prods mark.body.production) production runs.point.there
      (subst (IsVisit found production) (sym runs.visit) (record { first = is.first; last = is.last }))

  module _ (function : Function) (read : IfSome (slice_get g.prods mark.body.production) (λ p. function ≡ function_of g.sorts found.sorts p mark.body.visit)) (operations : List Operation)
      (same : operations ≡ function.operations) where
    function_read : function ≡ function_of g.sorts found.sorts production mark.body.visit
    function_read = in_some (λ p. function ≡ function_of g.sorts found.sorts p mark.body.visit) (slice_get g.prods mark.body.production) production runs.point.there read

    operations_are : operations ≡ (function_at productions mark).operations
    operations_are = same ∙ ap (λ (f : Function). f.operations) (function_read ∙ sym (own_function g found.sorts productions made s frame level c mark runs))

    -- no operation is left
    pub at_end : ∥ HasOrder g found ∥₁ → IsWithinLimits g → (remembered : VisitMeaning) → grammar_of remembered.grammar ≡ g → remembered.parts ≡ found → length operations ≤ mark.at → level < 2 ^ 32 - 1
        → IsAtEnd g found.sorts s frame level c mark function remembered
    at_end order few remembered same_grammar same_parts last low = record {
      runs = runs;
      is_function = function_read;
      last = subst (λ (ops : List Operation). length ops ≤ mark.at) same last;
      low = low;
      tag = tag_fits g found order few production.left c.visit (is_there g found.sorts productions made s frame level c mark runs).last;
      same_grammar = same_grammar;
      same_parts = ap (λ (ps : Partitions). ps.sorts) same_parts;
    }

    -- this operation is next
    pub at_operation : length operations < 2 ^ 64 → mark.at < length operations → (next operation : Operation) → next ≡ get_or operations mark.at next → next ≡ operation
        → Faces g found.sorts productions s frame level c mark operation
    at_operation short less next operation is given = record {
      runs = runs;
      next = sym (ap (λ (ops : List Operation). slice_get ops mark.at) operations_are) ∙ slice_get_read operations (length operations) mark.at next refl less is ∙ ap (λ x. Some x) given;
      fits = omega (arith, short, less);
    }
