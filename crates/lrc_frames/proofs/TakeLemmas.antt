-- What is taken of a visit's result: its values, and then its bindings.
use Rattle.std.proofs.Common.{◌≡◌, ℕ, ◌+◌, ◌-◌, ◌^◌, min, Bool, true, false, List, [], ◌∷◌, length, map, Some, sym, ap, ◌∙◌, subst, arith}
use Rattle.std.specs.List.{range_with_len, AllByRecursion}
use Rattle.std.proofs.lemmas.List.{length-map}
use Rattle.std.proofs.lemmas.List.FromFn.{length-map-range_with_len}
use Rattle.lrc_meaning.specs.Tree.{Tree}
use Rattle.lrc_meaning.specs.Grammar.{Grammar}
use Rattle.lrc_order_meaning.specs.declared.Partition.{Partition}
use Rattle.lrc_order_meaning.proofs.MemberLemmas.{member_of_map}
use Rattle.lrc_plan_meaning.specs.declared.Bound.{Bound}
use Rattle.lrc_plan_meaning.specs.declared.Bound.TheVariants as b
use Rattle.lrc_plan_meaning.specs.Items.{visits_of, attrs_of_visit, values_of_visit, symbol_at}
use Rattle.lrc_visit_meaning.specs.Values.{Datum, value, binding, Data, Result}
use Rattle.lrc_store.specs.Cells.{CellTree}
use Rattle.lrc_store.specs.Standing.{Standing, Stands, meant}
use Rattle.lrc_store.specs.Words.{Keeps}
use Rattle.lrc_store.proofs.Known.{known-stands, stands-meant}
use Rattle.lrc_code.specs.Forms.{list_cell, result_cell}
use Rattle.lrc_code.specs.Reading.{IsResult, HasResultParts}
use Rattle.lrc_code.specs.declared.calls.ResultParts.{ResultParts}
use Rattle.lrc_call_meaning.specs.Forms.{datum_cell, values_cell, bindings_cell, result_form}
use Rattle.lrc_call_meaning.specs.Spelled.{IsSpelled, IsSpelledDatum, AreSpelledData}
use Rattle.lrc_eval.specs.declared.values.Val.{Val}
use Rattle.lrc_functions.specs.declared.function.Callee.{Callee}
use Rattle.lrc_frames.specs.declared.body.Body.{Body}
use Rattle.lrc_frames.specs.declared.reading.Reading.TheVariants as reading
use Rattle.lrc_frames.specs.Frames.{Run, RunsAt, gaining}
use Rattle.lrc_frames.specs.Lists.{Fills, FilledIf}
use Rattle.lrc_frames.specs.Taking.{TakesFrom, Takes}
use Rattle.lrc_frames.proofs.FrameLemmas.{runs_last}
use Rattle.lrc_frames.proofs.FillLemmas.{gaining_then}
use Rattle.lrc_frames.proofs.ItemLemmas.{map_map, symbol_listed, later_of, later_listed, values_numbered, later_numbered}

-- ---- lists of values and of bindings, as data

pub values_stand : (s : Standing) (handle : ℕ) (ts : List Tree) → Stands s handle (values_cell ts) → Stands s handle (list_cell (map datum_cell (map value ts)))
values_stand s handle ts stands = stands ∙ ap (λ (cells : List CellTree). Some (list_cell cells)) (sym (map_map datum_cell value ts))

pub bindings_stand : (s : Standing) (handle : ℕ) (rows : List Data) → Stands s handle (bindings_cell rows) → Stands s handle (list_cell (map datum_cell (map binding rows)))
bindings_stand s handle rows stands = stands ∙ ap (λ (cells : List CellTree). Some (list_cell cells)) (sym (map_map datum_cell binding rows))

pub values_spelled : (ts : List Tree) → AllByRecursion IsSpelled ts → AllByRecursion IsSpelledDatum (map value ts)
values_spelled [] h = tt
values_spelled (t ∷ ts) h = (h.0, values_spelled ts h.1)

pub bindings_spelled : (rows : List Data) → AllByRecursion AreSpelledData rows → AllByRecursion IsSpelledDatum (map binding rows)
bindings_spelled [] h = tt
bindings_spelled (ds ∷ rows) h = (h.0, bindings_spelled rows h.1)

-- ---- the parts of a result

pub is_result : (s : Standing) (handle : ℕ) (outcome : Result) → Stands s handle (result_form outcome) → IsResult (meant s handle)
unfolding result_form
is_result s handle outcome stands =
    (outcome.height, values_cell outcome.synthesised, bindings_cell outcome.bindings, stands-meant s handle (result_form outcome) stands)

-- the lists stand for what the result gives, and the height is told
pub record HasRead (t : Standing) (outcome : Result) (found : ResultParts) : Type 0 where
  pub values : Stands t found.synthesised.0 (values_cell outcome.synthesised)
  pub bindings : Stands t found.bindings.0 (bindings_cell outcome.bindings)
  pub told : found.height ≡ min outcome.height (2 ^ 32 - 1)

same_height : (h k : ℕ) (a c d e : CellTree) → result_cell h a c ≡ result_cell k d e → h ≡ k
same_height h k a c d e same = cc

same_values : (h k : ℕ) (a c d e : CellTree) → result_cell h a c ≡ result_cell k d e → a ≡ d
same_values h k a c d e same = cc

same_bindings : (h k : ℕ) (a c d e : CellTree) → result_cell h a c ≡ result_cell k d e → c ≡ e
same_bindings h k a c d e same = cc

pub result_read : (s t : Standing) (handle : ℕ) (outcome : Result) (found : ResultParts) → Stands s handle (result_form outcome) → HasResultParts t (meant s handle) found → HasRead t outcome found
unfolding result_form
result_read s t handle outcome found stands has =
    let height = has.whole.0 in
    let one = values_cell outcome.synthesised in
    let two = bindings_cell outcome.bindings in
    let left = meant t found.synthesised.0 in
    let right = meant t found.bindings.0 in
    let same : result_cell outcome.height one two ≡ result_cell height left right = sym (stands-meant s handle (result_form outcome) stands) ∙ has.whole.2 in
    record {
      values = known-stands t found.synthesised.0 has.synthesised ∙ ap Some (sym (same_values outcome.height height one two left right same));
      bindings = known-stands t found.bindings.0 has.bindings ∙ ap Some (sym (same_bindings outcome.height height one two left right same));
      told = has.whole.1 ∙ ap (λ (k : ℕ). min k (2 ^ 32 - 1)) (sym (same_height outcome.height height one two left right same));
    }

-- ---- what is taken

module _ (g : Grammar) (parts : List Partition) where
  -- where there are as many data as items, the run has them
  pub filled_all : (s : Standing) (frame : List Val) (body : Body) (r : Run) (items : List Bound) (given : List Datum) (b : Bool) → FilledIf g parts s frame body r items given b
      → length given ≡ length items → RunsAt g parts s frame body (gaining r items given)
  filled_all s frame body r items given true h same = h.1
  filled_all s frame body r items given false h same = absurd (h same)

  module _ (s : Standing) (frame : List Val) (body : Body) (r : Run) (callee : Callee) (handle n v : ℕ) (outcome : Result) (from : TakesFrom g parts s frame body r callee handle n v outcome) where
    abbrev pub values : List Bound
    values = values_of_visit g.sorts parts false (symbol_at g.sorts r.production n).sort (symbol_at g.sorts r.production n).start v

    abbrev pub later : List Bound
    later = later_of g.sorts parts r.production n v

    abbrev pub value_data : List Datum
    value_data = map value outcome.synthesised

    abbrev pub binding_data : List Datum
    binding_data = map binding outcome.bindings

    values_count : length value_data ≡ length values
    values_count =
        let all = from.formed.values in
        let given = length-map outcome.synthesised value in
        let items = length-map (attrs_of_visit g.sorts parts false (symbol_at g.sorts r.production n).sort v) (λ x. b.Value ((symbol_at g.sorts r.production n).start + x)) in
        omega arith

    later_count : length binding_data ≡ length later
    later_count =
        let all = from.formed.bindings in
        let given = length-map outcome.bindings binding in
        let items = length-map-range_with_len (λ w. b.Kid n v w) (v + 1) (visits_of parts (symbol_at g.sorts r.production n).sort - v) in
        omega arith

    module _ (t : Standing) (keeps : Keeps s t) (found : ResultParts) (read : HasRead t outcome found) where
      -- the values go into the frame first
      pub takes_values : (numbers : List ℕ) → numbers ≡ callee.synthesised → Fills g parts t frame body r numbers found.synthesised.0 reading.Values values value_data
      takes_values numbers are = record {
        runs = runs_last g parts s t frame body r keeps from.runs;
        numbered = are ∙ ap (λ (c : Callee). c.synthesised) from.called
            ∙ values_numbered g.sorts parts r.production false (symbol_at g.sorts r.production n).sort (symbol_at g.sorts r.production n).start v;
        listed = symbol_listed g.sorts parts r.production false n v from.visit.symbol;
        list = values_stand t found.synthesised.0 outcome.synthesised read.values;
        spelled = values_spelled outcome.synthesised from.spelled.synthesised;
        read = λ x d c k.
            let at = member_of_map (λ y. b.Value ((symbol_at g.sorts r.production n).start + y)) (attrs_of_visit g.sorts parts false (symbol_at g.sorts r.production n).sort v) x c in
            let of = member_of_map value outcome.synthesised d k in
            (((symbol_at g.sorts r.production n).start + at.0, sym at.2), (of.0, sym of.2));
      }

      -- and then the bindings
      pub takes_bindings : (u : Standing) (now : List Val) (all : Bool) (numbers : List ℕ) → Keeps t u → FilledIf g parts u now body r values value_data all → numbers ≡ callee.later
          → Fills g parts u now body (gaining r values value_data) numbers found.bindings.0 reading.Bindings later binding_data
      takes_bindings u now all numbers keeps_on filled are = record {
        runs = filled_all u now body r values value_data all filled values_count;
        numbered = are ∙ ap (λ (c : Callee). c.later) from.called ∙ later_numbered g.sorts parts r.production n v;
        listed = later_listed g.sorts parts r.production n v from.visit.symbol from.visit.first from.visit.last;
        list = keeps_on found.bindings.0 (list_cell (map datum_cell binding_data)) (bindings_stand t found.bindings.0 outcome.bindings read.bindings);
        spelled = bindings_spelled outcome.bindings from.spelled.bindings;
        read = λ x d c k.
            let at = member_of_map (λ w. b.Kid n v w) (range_with_len (v + 1) (visits_of parts (symbol_at g.sorts r.production n).sort - v)) x c in
            let of = member_of_map binding outcome.bindings d k in
            ((n, v, at.0, sym at.2), (of.0, sym of.2));
      }

      -- so all is taken
      pub takes_all : (u : Standing) (now : List Val) (all : Bool) → FilledIf g parts u now body (gaining r values value_data) later binding_data all
          → Takes g parts u now body r n v outcome found.height
      takes_all u now all filled = record {
        runs = subst (λ (q : Run). RunsAt g parts u now body q) (gaining_then r values later value_data binding_data values_count)
            (filled_all u now body (gaining r values value_data) later binding_data all filled later_count);
        told = read.told;
      }
