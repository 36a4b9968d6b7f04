-- What items declare, by name.
use Rattle.std.proofs.Common.{◌≡◌, Bool, true, false, ◌||◌, List, map, flat_map, Some, None, refl, ◌∙◌}
use Rattle.std.specs.List.{list_any}
use Rattle.std.specs.Str.{bytes_eq}
use Rattle.lrc_base.specs.declared.raw.RawItem.{RawItem}
use Rattle.lrc_base.specs.declared.raw.RawItem.TheVariants as item
use Rattle.lrc_fault_meaning.specs.Faults.{Name, is_among, declared_by, declared_name, Target, same_target, target_of, has_target}
use Rattle.lrc_check.specs.Declares.{declares, is_equation_of}
use Rattle.lrc_check.proofs.ListLemmas.{any_mapped, any_flat, any_same}

or_false : (b : Bool) → (b || false) ≡ b
or_false true = refl
or_false false = refl

declares_by : (n : Name) (i : RawItem) → list_any (λ d. bytes_eq n (declared_name d)) (declared_by i) ≡ declares n i
declares_by n (item.Local m kind x) = or_false (bytes_eq n m)
declares_by n (item.Attach m sort x) = or_false (bytes_eq n m)
declares_by n (item.Own m x) = refl
declares_by n (item.OfKid c m x) = refl
declares_by n (item.Pattern pieces) = refl

-- a name among those that are declared
pub among_declared : (items : List RawItem) (n : Name) → is_among (map declared_name (flat_map declared_by items)) n ≡ list_any (declares n) items
among_declared items n =
    any_mapped (bytes_eq n) declared_name (flat_map declared_by items)
    ∙ (any_flat (λ d. bytes_eq n (declared_name d)) declared_by items
    ∙ any_same (λ i. list_any (λ d. bytes_eq n (declared_name d)) (declared_by i)) (declares n) items (declares_by n))

equations_by : (t : Target) (i : RawItem) → list_any (same_target t) (target_of i) ≡ is_equation_of t i
equations_by t (item.Local m kind x) = refl
equations_by t (item.Attach m sort x) = refl
equations_by t (item.Own m x) = or_false (same_target t (record { owner = None; name = m }))
equations_by t (item.OfKid c m x) = or_false (same_target t (record { owner = Some c; name = m }))
equations_by t (item.Pattern pieces) = refl

-- a target among those of items
pub target_among : (items : List RawItem) (t : Target) → has_target items t ≡ list_any (is_equation_of t) items
target_among items t =
    any_flat (same_target t) target_of items
    ∙ any_same (λ i. list_any (same_target t) (target_of i)) (is_equation_of t) items (equations_by t)
