-- A target among those of items.
use Rattle.std.proofs.Common.{◌≡◌, Bool, true, false, ◌||◌, List, Some, None, refl, ◌∙◌}
use Rattle.std.specs.List.{list_any}
use Rattle.lrc_base.specs.declared.raw.RawItem.{RawItem}
use Rattle.lrc_base.specs.declared.raw.RawItem.TheVariants as item
use Rattle.lrc_fault_meaning.specs.Faults.{Name, Target, same_target, target_of, has_target}
use Rattle.lrc_augment.specs.Targets.{is_own, is_of_symbol}
use Rattle.lrc_augment.proofs.ListLemmas.{any_flat, any_same}

or_false : (b : Bool) → (b || false) ≡ b
or_false true = refl
or_false false = refl

abbrev own : Name → Target
own a = record { owner = None; name = a }

abbrev of_symbol : Name → Name → Target
of_symbol c a = record { owner = Some c; name = a }

own_by : (a : Name) (i : RawItem) → list_any (same_target (own a)) (target_of i) ≡ is_own a i
own_by a (item.Local m kind x) = refl
own_by a (item.Attach m sort x) = refl
own_by a (item.Own m x) = or_false (same_target (own a) (own m))
own_by a (item.OfKid c m x) = refl
own_by a (item.Pattern pieces) = refl

symbol_by : (c a : Name) (i : RawItem) → list_any (same_target (of_symbol c a)) (target_of i) ≡ is_of_symbol c a i
symbol_by c a (item.Local m kind x) = refl
symbol_by c a (item.Attach m sort x) = refl
symbol_by c a (item.Own m x) = refl
symbol_by c a (item.OfKid d m x) = or_false (same_target (of_symbol c a) (of_symbol d m))
symbol_by c a (item.Pattern pieces) = refl

pub own_among : (items : List RawItem) (a : Name) → has_target items (record { owner = None; name = a }) ≡ list_any (is_own a) items
own_among items a =
    any_flat (same_target (own a)) target_of items ∙ any_same (λ i. list_any (same_target (own a)) (target_of i)) (is_own a) items (own_by a)

pub of_symbol_among : (items : List RawItem) (c a : Name) → has_target items (record { owner = Some c; name = a }) ≡ list_any (is_of_symbol c a) items
of_symbol_among items c a =
    any_flat (same_target (of_symbol c a)) target_of items ∙ any_same (λ i. list_any (same_target (of_symbol c a)) (target_of i)) (is_of_symbol c a) items (symbol_by c a)
