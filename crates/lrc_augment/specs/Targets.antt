-- Which items are equations of an attribute.
use Rattle.std.specs.Prelude.{Bool, false, ◌&&◌, bytes_eq}
use Rattle.lrc_base.specs.declared.raw.RawItem.{RawItem}
use Rattle.lrc_base.specs.declared.raw.RawItem.TheVariants as item
use Rattle.lrc_fault_meaning.specs.Faults.{Name}

-- of this attribute of the left side
abbrev pub is_own : Name → RawItem → Bool
is_own a (item.Local n kind x) = false
is_own a (item.Attach n sort x) = false
is_own a (item.Own n x) = bytes_eq a n
is_own a (item.OfKid d n x) = false
is_own a (item.Pattern pieces) = false

-- of this attribute of this symbol
abbrev pub is_of_symbol : Name → Name → RawItem → Bool
is_of_symbol c a (item.Local n kind x) = false
is_of_symbol c a (item.Attach n sort x) = false
is_of_symbol c a (item.Own n x) = false
is_of_symbol c a (item.OfKid d n x) = bytes_eq c d && bytes_eq a n
is_of_symbol c a (item.Pattern pieces) = false
