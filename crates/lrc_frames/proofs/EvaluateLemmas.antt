-- What the evaluation of an occurrence answers, by what the evaluation of its equation answers.
use Rattle.std.proofs.Common.{◌≡◌, ℕ, ◌<◌, Bool, true, false, List, [], ◌∷◌, ◌++◌, map, set, length, Contains, Option, Some, None, refl, sym, ap, ◌∙◌, subst}
use Rattle.std.specs.Prelude.{Result, Ok, Err, IsErr}
use Rattle.std.specs.Option.{option_map_or, option_and_then}
use Rattle.std.proofs.lemmas.Bool.{false≢true}
use Rattle.lrc_base.specs.declared.grammar.Equation.{Equation}
use Rattle.lrc_meaning.specs.Tree.{Tree}
use Rattle.lrc_meaning.specs.Expression.{Expression, expression, value_of}
use Rattle.lrc_meaning.specs.Grammar.{Grammar}
use Rattle.lrc_order_meaning.specs.declared.Partition.{Partition}
use Rattle.lrc_plan_meaning.specs.declared.Bound.TheVariants as b
use Rattle.lrc_plan_meaning.specs.Bindings.{items_of}
use Rattle.lrc_plan.proofs.ListedLemmas.{value_listed}
use Rattle.lrc_visit_meaning.specs.Visits.{leaf_in, equation_of, values_in, evaluated}
use Rattle.lrc_visit_meaning.specs.Demand.{built, equation_met, built_in}
use Rattle.lrc_call_meaning.specs.Reached.{met_cell, cells_of}
use Rattle.lrc_store.specs.Cells.{CellTree, parts as parts_of, IsWithin}
use Rattle.lrc_store.specs.Standing.{Standing, Told}
use Rattle.lrc_store.specs.Words.{Adds, LacksOne}
use Rattle.lrc_store.specs.declared.stores.Full.{Full}
use Rattle.lrc_store.proofs.Lasting.{adds-same}
use Rattle.lrc_code.specs.Forms.{tree_cell}
use Rattle.lrc_eval.specs.declared.values.Val.{Val}
use Rattle.lrc_eval.specs.Evaluating.{Inputs, AreGiven, cells_of_trees, built_cells}
use Rattle.lrc_eval.specs.Evaluating as eval
use Rattle.lrc_eval.proofs.FormLemmas.{evaluates-at}
use Rattle.lrc_frames.specs.declared.body.Body.{Body}
use Rattle.lrc_frames.specs.Frames.{Run}
use Rattle.lrc_frames.specs.Steps.{evaluation_cells, Evaluates}
use Rattle.lrc_frames.specs.Writing.{CanEvaluate}
use Rattle.lrc_frames.proofs.FrameLemmas.{within_frame, runs_last, runs_evaluated}
use Rattle.lrc_frames.proofs.EquationLemmas.{inputs, IsEquation}

built-are : (ts : List Tree) → cells_of (map built ts) ≡ cells_of_trees ts
unfolding cells_of met_cell
built-are [] = refl
built-are (t ∷ ts) = ap (λ cs. parts_of (tree_cell t) ++ cs) (built-are ts)

module _ (g : Grammar) (parts : List Partition) (s : Standing) (frame : List Val) (body : Body) (x : ℕ) (equation : Option ℕ) (r : Run) (can : CanEvaluate g parts s frame body x equation r) where
  abbrev cells : List CellTree
  cells = evaluation_cells g parts r x

  listed : Contains (items_of g.sorts parts r.production) (b.Value x)
  listed = value_listed g.sorts parts r.production x can.occurrence

  pub occurrence-within : x < length frame
  occurrence-within = within_frame g parts s body r frame (b.Value x) can.runs.room listed

  -- an occurrence without an equation has no value
  pub evaluates-nothing : equation_of r.production x ≡ None → Evaluates g parts s s frame body r x (Ok false)
  evaluates-nothing none = record {
    adds = adds-same s cells;
    ok = ap (option_and_then (λ (e : Equation). value_of (values_in g r.production r.held) (leaf_in r.production.kids r.kids) (expression e.expr))) none;
    full = tt;
  }

  module _ (e : Equation) (there : IsEquation g s frame body x r e) where
    abbrev right : Expression
    right = expression e.expr

    cells-are : built_cells (inputs g body r) right ≡ cells
    cells-are =
        sym (ap (λ q. option_map_or (λ (y : Equation). cells_of (equation_met g (values_in g r.production r.held) (leaf_in r.production.kids r.kids) y)) q []) there.found
        ∙ built-are (built_in (values_in g r.production r.held) (leaf_in r.production.kids r.kids) right))

    value-is : evaluated g r.production r.kids r.held x ≡ value_of (values_in g r.production r.held) (leaf_in r.production.kids r.kids) right
    value-is = ap (option_and_then (λ (y : Equation). value_of (values_in g r.production r.held) (leaf_in r.production.kids r.kids) (expression y.expr))) there.found

    module _ (t : Standing) where
      -- what the evaluation of its right side answers
      abbrev Answers : Result (Option Val) Full → Type 0
      Answers answer = (i : Inputs) → AreGiven s frame body.tree i right → eval.Evaluates s t i right answer

      adds : (answer : Result (Option Val) Full) → Answers answer → Adds s t cells
      adds answer h = subst (Adds s t) cells-are (h (inputs g body r) there.given).adds

      pub evaluates-none : (found : Option Val) → found ≡ None → Answers (Ok found) → Evaluates g parts s t frame body r x (Ok false)
      evaluates-none found is h =
          let nothing = evaluates-at s t (inputs g body r) right found None is (h (inputs g body r) there.given) in
          record { adds = adds (Ok found) h; ok = value-is ∙ nothing.found; full = tt }

      pub evaluates-full : (full : Full) (answer : Result Bool Full) → IsErr answer → Answers (Err full) → Evaluates g parts s t frame body r x answer
      evaluates-full full (Ok c) is h = absurd (false≢true is)
      evaluates-full full (Err f) is h =
          record { adds = adds (Err full) h; ok = tt; full = subst (LacksOne t) cells-are (h (inputs g body r) there.given).full }

      pub evaluates-some : (found : Option Val) (value : Val) → found ≡ Some value → Answers (Ok found) → Evaluates g parts s t (set frame x value) body r x (Ok true)
      evaluates-some found value is h =
          let made = evaluates-at s t (inputs g body r) right found (Some value) is (h (inputs g body r) there.given) in
          record {
            adds = adds (Ok found) h;
            ok = (
              made.found.0,
              value-is ∙ made.found.1,
              runs_evaluated g parts t body r frame x value made.found.0 listed made.found.2 (runs_last g parts s t frame body r made.adds.gains.lasts.known can.runs),
              subst (λ (cs : List CellTree). Told t.seen (IsWithin cs)) cells-are made.seen,
            );
            full = tt;
          }
