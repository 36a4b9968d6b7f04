-- Leaves by their names, and how many names can be numbered.
use Rattle.std.specs.Prelude.{ℕ, List, Bool, true, false, bytes_eq, ◌&&◌, cond, ◌≤◌, ◌<◌, ◌^◌, length, count_by}
use Rattle.lrc_base.specs.declared.limits.TheConstants.{ATTRIBUTE_LIMIT, CHILD_LIMIT, LOCAL_LIMIT}
use Rattle.lrc_base.specs.declared.grammar.Sort.{Sort}
use Rattle.lrc_base.specs.declared.grammar.Kid.{Kid}
use Rattle.lrc_base.specs.declared.raw.RawProd.{RawProd}
use Rattle.lrc_meaning.specs.Tree.{is_sort}
use Rattle.lrc_meaning.specs.Limits.{is_declaration}
use Rattle.lrc_meaning.specs.Naming.{Known}

-- a leaf of this name
abbrev pub is_leaf_of : List ℕ → Kid → Bool
is_leaf_of n kid = bytes_eq kid.name n && cond (is_sort kid.kind) false true

-- a sort of few attributes
abbrev pub HasFewAttrs : Sort → Type 0
HasFewAttrs s = length s.attrs ≤ ATTRIBUTE_LIMIT

-- a production of few children, and few locals and nonterminal attributes
pub record HasFewParts (p : RawProd) : Type 0 where
  pub kids : length p.kids ≤ CHILD_LIMIT
  pub locals : count_by is_declaration p.items ≤ LOCAL_LIMIT

-- names that can be numbered
pub record IsCounted (known : Known) : Type 0 where
  pub prods : length known.prods < 2 ^ 32
  pub occurrences : length known.occurrences < 2 ^ 32
  pub kids : length known.kids < 2 ^ 32
