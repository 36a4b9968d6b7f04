-- A production of a grammar, and what is kept of its names.
use Rattle.std.specs.Prelude.{◌≡◌, List, map, flat_map}
use Rattle.lrc_base.specs.declared.raw.RawAttr.{RawAttr}
use Rattle.lrc_base.specs.declared.raw.RawProd.{RawProd}
use Rattle.lrc_base.specs.declared.raw.RawGrammar.{RawGrammar}
use Rattle.lrc_fault_meaning.specs.Faults.{attrs_named, declared_by}
use Rattle.lrc_check.specs.declared.declared.Declared.{Declared}
use Rattle.lrc_check.specs.Declares.{declaration}

pub record Within : Type 0 where
  pub grammar : RawGrammar
  pub prod : RawProd

-- these are the left attributes, and the locals and nonterminal attributes in order of declaration
pub record AreNamesOf (grammar : RawGrammar) (prod : RawProd) (left : List RawAttr) (declared : List Declared) : Type 0 where
  pub of_left : left ≡ attrs_named grammar.sorts prod.left
  pub of_items : map declaration declared ≡ flat_map declared_by prod.items
