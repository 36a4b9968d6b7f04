-- The visit functions of a production, by the numbers of its items.
--
-- Source: Pennings, Generating Incremental Attribute Evaluators (1994); numbers of items are this project's.
use Rattle.std.specs.Prelude.{ℕ, ◌+◌, ◌-◌, Bool, true, false, List, map, Option, None, slice_get, slice_index_or}
use Rattle.std.specs.Option.{option_map_or}
use Rattle.std.specs.List.{range_with_len}
use Rattle.lrc_base.specs.declared.grammar.Sort.{Sort}
use Rattle.lrc_base.specs.declared.grammar.Production.{Production}
use Rattle.lrc_base.specs.declared.signature.Origin.{Origin}
use Rattle.lrc_base.specs.declared.signature.Origin.TheVariants as origin
use Rattle.lrc_base.specs.declared.signature.Symbol.{Symbol}
use Rattle.lrc_meaning.specs.Signature.{signature_of}
use Rattle.lrc_order_meaning.specs.declared.Partition.{Partition}
use Rattle.lrc_plan_meaning.specs.declared.Action.{Action}
use Rattle.lrc_plan_meaning.specs.declared.Action.TheVariants as a
use Rattle.lrc_plan_meaning.specs.declared.Bound.{Bound}
use Rattle.lrc_plan_meaning.specs.declared.Bound.TheVariants as b
use Rattle.lrc_plan_meaning.specs.Items.{visits_of, attrs_of_visit, symbol_at}
use Rattle.lrc_plan_meaning.specs.Sequences.{segment}
use Rattle.lrc_plan_meaning.specs.Bindings.{binding}
use Rattle.lrc_functions.specs.declared.function.Callee.{Callee}
use Rattle.lrc_functions.specs.declared.function.Operation.{Operation}
use Rattle.lrc_functions.specs.declared.function.Operation.TheVariants as o
use Rattle.lrc_functions.specs.declared.function.Function.{Function}
use Rattle.lrc_functions.specs.Numbers.{number}

-- the occurrences of the attributes that a visit of a sort takes, which are inherited, or gives, where they start at this one
abbrev pub values_from : List Sort → List Partition → Bool → ℕ → ℕ → ℕ → List ℕ
values_from sorts parts inherited s start v = map (λ x. start + x) (attrs_of_visit sorts parts inherited s v)

module _ (sorts : List Sort) (parts : List Partition) (p : Production) where
  abbrev pub numbers : List Bound → List ℕ
  numbers items = map (number sorts parts p) items

  -- where the tree of a symbol stands
  abbrev pub origin_of : ℕ → Origin
  origin_of s = option_map_or (λ (x : Symbol). x.origin) (slice_get (signature_of sorts p).symbols s) (origin.Child 0)

  -- visit v of the symbol of number s
  abbrev pub callee_of : ℕ → ℕ → Callee
  callee_of s v = let place = symbol_at sorts p s in record {
    visit = v;
    sort = place.sort;
    tree = origin_of s;
    inherited = values_from sorts parts true place.sort place.start v;
    earlier = map (λ u. number sorts parts p (b.Kid s u v)) (range_with_len 1 (v - 1));
    synthesised = values_from sorts parts false place.sort place.start v;
    later = map (λ w. number sorts parts p (b.Kid s v w)) (range_with_len (v + 1) (visits_of parts place.sort - v));
  }

  abbrev pub operation_of : Action → Operation
  operation_of (a.Eval x) = o.Eval x (slice_index_or (signature_of sorts p).equations x None)
  operation_of (a.Visit s v) = o.Visit (callee_of s v)

  -- The function of visit v of the left side.
  abbrev pub function_of : ℕ → Function
  function_of v = record {
    inherited = values_from sorts parts true p.left 0 v;
    earlier = map (λ u. numbers (binding sorts parts p u v)) (range_with_len 1 (v - 1));
    operations = map operation_of (segment sorts parts p v);
    synthesised = values_from sorts parts false p.left 0 v;
    later = map (λ w. numbers (binding sorts parts p v w)) (range_with_len (v + 1) (visits_of parts p.left - v));
  }

  -- The functions of all visits of the left side.
  abbrev pub functions_of : List Function
  functions_of = map function_of (range_with_len 1 (visits_of parts p.left))
