-- How large a grammar may be, as it is written and by numbers, and how large a job. The numbers stand in lrc_base.
use Rattle.std.specs.Prelude.{ℕ, suc, ◌+◌, ◌≤◌, Bool, true, false, List, length, sum, count_by, All}
use Rattle.lrc_base.specs.declared.limits.TheConstants.{SORT_LIMIT, ATTRIBUTE_LIMIT, PRODUCTION_LIMIT, CHILD_LIMIT, LOCAL_LIMIT, NODE_LIMIT, SESSION_LIMIT, EDIT_LIMIT}
use Rattle.lrc_base.specs.declared.grammar.Sort.{Sort}
use Rattle.lrc_base.specs.declared.grammar.Equation.{Equation}
use Rattle.lrc_base.specs.declared.grammar.Production.{Production}
use Rattle.lrc_base.specs.declared.raw.RawExpr.{RawExpr}
use Rattle.lrc_base.specs.declared.raw.RawExpr.TheOpen.{RawExpr-F}
use Rattle.lrc_base.specs.declared.raw.RawExpr.TheFolds.{fold-RawExpr}
use Rattle.lrc_base.specs.declared.raw.RawItem.{RawItem}
use Rattle.lrc_base.specs.declared.raw.RawItem.TheVariants as item
use Rattle.lrc_base.specs.declared.raw.RawSort.{RawSort}
use Rattle.lrc_base.specs.declared.raw.RawProd.{RawProd}
use Rattle.lrc_base.specs.declared.raw.RawGrammar.{RawGrammar}
use Rattle.lrc_base.specs.declared.job.RawScript.{RawScript}
use Rattle.lrc_base.specs.declared.job.Job.{Job}
use Rattle.lrc_meaning.specs.Expression.{Expression, literal, occurrence, leaf, binary, choice, make, Expressions, no_more, and_more, expression}
use Rattle.lrc_meaning.specs.Grammar.{Grammar}

-- ---- nodes of expressions: each literal, reference, operator, choice and tree is one, a reference to an attribute of a
-- symbol too

-- one node, with the numbers of nodes of its parts in their places
abbrev pub written_nodes_step : RawExpr-F ℕ → ℕ
written_nodes_step (RawExpr-F.Int i) = 1
written_nodes_step (RawExpr-F.Bool b) = 1
written_nodes_step (RawExpr-F.Name n) = 1
written_nodes_step (RawExpr-F.One n) = 1
written_nodes_step (RawExpr-F.Two c a) = 1
written_nodes_step (RawExpr-F.Op op a b) = suc (a + b)
written_nodes_step (RawExpr-F.If c a b) = suc (c + (a + b))
written_nodes_step (RawExpr-F.Make n args) = suc (sum args)

-- how many nodes an expression has as it is written
unfoldable pub written_nodes : RawExpr → ℕ
written_nodes = fold-RawExpr ℕ written_nodes_step

abbrev mutual
  -- how many nodes an expression has
  pub nodes_of : Expression → ℕ
  nodes_of (literal t) = 1
  nodes_of (occurrence i) = 1
  nodes_of (leaf i) = 1
  nodes_of (binary op a b) = suc (nodes_of a + nodes_of b)
  nodes_of (choice c a b) = suc (nodes_of c + (nodes_of a + nodes_of b))
  nodes_of (make p args) = suc (nodes_among args)

  pub nodes_among : Expressions → ℕ
  nodes_among no_more = 0
  nodes_among (and_more e es) = nodes_of e + nodes_among es

-- ---- a grammar as it is written

-- an item that declares a local or a nonterminal attribute
abbrev pub is_declaration : RawItem → Bool
is_declaration (item.Local n kind x) = true
is_declaration (item.Attach n sort x) = true
is_declaration (item.Own n x) = false
is_declaration (item.OfKid c n x) = false
is_declaration (item.Pattern pieces) = false

-- how many nodes the right side of an item's equation has; a pattern has none
abbrev pub item_nodes : RawItem → ℕ
item_nodes (item.Local n kind x) = written_nodes x
item_nodes (item.Attach n sort x) = written_nodes x
item_nodes (item.Own n x) = written_nodes x
item_nodes (item.OfKid c n x) = written_nodes x
item_nodes (item.Pattern pieces) = 0

-- few sorts of few attributes, and few productions of few children, few locals and nonterminal attributes together, and
-- few nodes on each right side
pub record KeepsLimits (raw : RawGrammar) : Type 0 where
  pub sorts : length raw.sorts ≤ SORT_LIMIT
  pub prods : length raw.prods ≤ PRODUCTION_LIMIT
  pub attrs : All (λ (s : RawSort). length s.attrs ≤ ATTRIBUTE_LIMIT) raw.sorts
  pub kids : All (λ (p : RawProd). length p.kids ≤ CHILD_LIMIT) raw.prods
  pub locals : All (λ (p : RawProd). count_by is_declaration p.items ≤ LOCAL_LIMIT) raw.prods
  pub nodes : All (λ (p : RawProd). All (λ (i : RawItem). item_nodes i ≤ NODE_LIMIT) p.items) raw.prods

-- ---- a grammar by numbers

-- the same of a production by numbers
pub record IsFew (p : Production) : Type 0 where
  pub kids : length p.kids ≤ CHILD_LIMIT
  pub extras : length p.extras ≤ LOCAL_LIMIT
  pub nodes : All (λ (e : Equation). nodes_of (expression e.expr) ≤ NODE_LIMIT) p.equations

-- the same of a grammar by numbers
pub record IsWithinLimits (g : Grammar) : Type 0 where
  pub sorts : length g.sorts ≤ SORT_LIMIT
  pub prods : length g.prods ≤ PRODUCTION_LIMIT
  pub attrs : All (λ (s : Sort). length s.attrs ≤ ATTRIBUTE_LIMIT) g.sorts
  pub parts : All IsFew g.prods

-- ---- a job

-- few sessions of few edits
pub record KeepsCounts (job : Job) : Type 0 where
  pub sessions : length job.sessions ≤ SESSION_LIMIT
  pub edits : All (λ (s : RawScript). length s.edits ≤ EDIT_LIMIT) job.sessions
