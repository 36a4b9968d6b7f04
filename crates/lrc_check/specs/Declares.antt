-- What an item of a production declares, and what names mean in a production.
use Rattle.std.specs.Prelude.{Bool, false, Some, None, bytes_eq}
use Rattle.lrc_base.specs.declared.raw.RawItem.{RawItem}
use Rattle.lrc_base.specs.declared.raw.RawItem.TheVariants as item
use Rattle.lrc_fault_meaning.specs.Faults as f
use Rattle.lrc_check.specs.declared.declared.Declared.{Declared}
use Rattle.lrc_check.specs.declared.declared.Declared.TheVariants as d

-- the item declares this name
abbrev pub declares : f.Name → RawItem → Bool
declares name (item.Local n kind x) = bytes_eq name n
declares name (item.Attach n sort x) = bytes_eq name n
declares name (item.Own n x) = false
declares name (item.OfKid c n x) = false
declares name (item.Pattern pieces) = false

-- the local or nonterminal attribute that a `Declared` is
abbrev pub declaration : Declared → f.Declared
declaration (d.Local n kind) = f.local n kind
declaration (d.Attached n sort) = f.attached n sort

-- the item is an equation of this target
abbrev pub is_equation_of : f.Target → RawItem → Bool
is_equation_of t (item.Local n kind x) = false
is_equation_of t (item.Attach n sort x) = false
is_equation_of t (item.Own n x) = f.same_target t (record { owner = None; name = n })
is_equation_of t (item.OfKid c n x) = f.same_target t (record { owner = Some c; name = n })
is_equation_of t (item.Pattern pieces) = false
