-- What each part of the grammar reads at the head of some lexemes.
use Rattle.std.specs.Prelude.{ℕ, ◌+◌, nat_lt, Bool, true, false, Option, List, [], ◌∷◌, ◌++◌, length}
use Rattle.lrc_base.specs.declared.expr.Op.{Op}
use Rattle.lrc_base.specs.declared.raw.RawKind.{RawKind}
use Rattle.lrc_base.specs.declared.raw.RawKind.TheVariants as k
use Rattle.lrc_base.specs.declared.raw.RawAttr.{RawAttr}
use Rattle.lrc_base.specs.declared.raw.RawSort.{RawSort}
use Rattle.lrc_base.specs.declared.raw.RawKid.{RawKid}
use Rattle.lrc_base.specs.declared.raw.RawPiece.{RawPiece}
use Rattle.lrc_base.specs.declared.raw.RawExpr.{RawExpr}
use Rattle.lrc_base.specs.declared.raw.RawExpr.TheVariants as e
use Rattle.lrc_base.specs.declared.raw.RawItem.{RawItem}
use Rattle.lrc_base.specs.declared.raw.RawItem.TheVariants as item
use Rattle.lrc_base.specs.declared.raw.RawProd.{RawProd}
use Rattle.lrc_base.specs.declared.raw_term.RawTermTree.{RawTermTree}
use Rattle.lrc_base.specs.declared.raw_term.RawTermTree.TheVariants as t
use Rattle.lrc_base.specs.declared.raw.RawGrammar.{RawGrammar}
use Rattle.lrc_base.specs.declared.job.Path.{Path}
use Rattle.lrc_base.specs.declared.job.RawEdit.{RawEdit}
use Rattle.lrc_base.specs.declared.job.RawEdit.TheVariants as edit
use Rattle.lrc_base.specs.declared.job.RawScript.{RawScript}
use Rattle.lrc_base.specs.declared.job.Job.{Job}
use Rattle.lrc_parse.specs.Reading.{Reading, took, on_took, read_one, read_fixed, read_either, read_optional, read_within, read_loop, read_levels, read_many, read_most, read_others, read_others_most}
use Rattle.lrc_reader.specs.declared.lexeme.Lexeme.{Lexeme}
use Rattle.lrc_reader.specs.declared.lexeme.Mark.{Mark}
use Rattle.lrc_reader.specs.declared.lexeme.Mark.TheVariants as m
use Rattle.lrc_reader.specs.declared.fault.Limit.{Limit}
use Rattle.lrc_reader.specs.declared.fault.Limit.TheVariants.{Sorts, Attributes, Productions, Children, Locals, Nodes, Sessions, Edits}
use Rattle.lrc_reader.specs.Lexeme.{kind, number, word_of, path_of}
use Rattle.lrc_reader.specs.Limits.{sort_limit, attribute_limit, production_limit, child_limit, local_limit, node_limit, session_limit, edit_limit, level_limit, term_level_limit, passing}
use Rattle.lrc_reader.specs.First.{only, words, literals, directions, times, plus, comparisons, exprs, declarations, items, pieces, terms, edits}
use Rattle.lrc_reader.specs.Grammar.{Name, attr_of, sort_of, kid_of, Counted, literal_expr, times_of, plus_of, comparison_of, piece_of, equation_of, Items, prod_of, literal_term, one_of, grammar_of, count_of, script_of, job_of}

abbrev pub Reader : Type 0 → Type 0
Reader A = List Lexeme → Reading Lexeme A

infixl 10 ◌>>=◌
abbrev pub ◌>>=◌ : {A B : Type 0} → Reader A → (A → Reader B) → Reader B
read >>= next = λ u. on_took (read u) next

infixl 10 ◌>>◌
abbrev pub ◌>>◌ : {A B : Type 0} → Reader A → Reader B → Reader B
read >> next = read >>= (λ _. next)

abbrev pub pure : {A : Type 0} → A → Reader A
pure x = λ u. took x u

abbrev pub pass : Mark → Reader (Unit {0})
pass mark = read_fixed kind (number mark)

abbrev pub constant : {A : Type 0} → Mark → A → Reader A
constant mark x = pass mark >> pure x

-- there is room behind so many of them, at most a limit, for another that begins with these
unfoldable pub read_room : ℕ → ℕ → List ℕ → Limit → Reader (Unit {0})
read_room count most first what = read_within kind (nat_lt count most) first (passing what) (pure tt)

unfoldable pub read_word : Reader Name
read_word = read_one word_of

unfoldable pub read_path : Reader Path
read_path = read_one path_of

-- ---- sorts

unfoldable pub read_named_kind : Reader RawKind
read_named_kind = do
  name ← read_word
  pure (k.Named name)

unfoldable pub read_kind : Reader RawKind
read_kind =
    read_either kind (only m.Int) (constant m.Int k.Int) (read_either kind (only m.Bool) (constant m.Bool k.Bool) (read_either kind (only m.Name) (constant m.Name k.Name) read_named_kind))

unfoldable pub read_direction : Reader Bool
read_direction = read_either kind (only m.Inh) (constant m.Inh true) (constant m.Syn false)

unfoldable pub read_attr : Reader RawAttr
read_attr = do
  inherited ← read_direction
  name ← read_word
  pass m.Colon
  what ← read_kind
  pass m.Semicolon
  pure (attr_of inherited name what)

-- one attribute more behind these
unfoldable pub read_push_attr : List RawAttr → Reader (List RawAttr)
read_push_attr xs = do
  x ← read_attr
  pure (xs ++ x ∷ [])

-- the same within the limit
unfoldable pub read_another_attr : ℕ → List RawAttr → Reader (List RawAttr)
read_another_attr slack xs = read_room (length xs) (attribute_limit slack) directions Attributes >> read_push_attr xs

-- attributes behind these
unfoldable pub read_attrs : ℕ → List RawAttr → Reader (List RawAttr)
read_attrs slack = read_most kind (attribute_limit slack) directions (passing Attributes) read_attr

unfoldable pub read_sort : ℕ → Reader RawSort
read_sort slack = do
  pass m.Sort
  name ← read_word
  pass m.LeftBrace
  attrs ← read_attrs slack []
  pass m.RightBrace
  pure (sort_of name attrs)

-- ---- children

unfoldable pub read_kid : Reader RawKid
read_kid = do
  name ← read_word
  pass m.Colon
  what ← read_kind
  pure (kid_of name what)

-- one child more behind these
unfoldable pub read_push_kid : List RawKid → Reader (List RawKid)
read_push_kid xs = do
  x ← read_kid
  pure (xs ++ x ∷ [])

-- the same behind a comma, within the limit
unfoldable pub read_another_kid : ℕ → List RawKid → Reader (List RawKid)
read_another_kid slack xs = do
  pass m.Comma
  read_room (length xs) (child_limit slack) words Children
  read_push_kid xs

unfoldable pub read_more_kids : ℕ → List RawKid → Reader (List RawKid)
read_more_kids slack = read_others_most kind (number m.Comma) (child_limit slack) words (passing Children) read_kid

unfoldable pub read_some_kids : ℕ → Reader (List RawKid)
read_some_kids slack = read_push_kid [] >>= read_more_kids slack

unfoldable pub read_any_kids : ℕ → Reader (List RawKid)
read_any_kids slack = read_either kind words (read_some_kids slack) (pure [])

unfoldable pub read_kids : ℕ → Reader (List RawKid)
read_kids slack = do
  pass m.LeftParen
  kids ← read_any_kids slack
  pass m.RightParen
  pure kids

-- ---- expressions, behind so many nodes

-- the first lexeme of a node, which is one of these
abbrev pub read_node : {A : Type 0} → ℕ → ℕ → List ℕ → Reader A → Reader A
read_node slack nodes first read = read_room nodes (node_limit slack) first Nodes >> read

unfoldable pub read_literal : ℕ → ℕ → Reader Counted
read_literal slack nodes = do
  x ← read_node slack nodes literals (read_one literal_expr)
  pure (x, nodes + 1)

unfoldable pub read_name : ℕ → ℕ → Reader Name
read_name slack nodes = read_node slack nodes words read_word

unfoldable pub read_if_mark : ℕ → ℕ → Reader (Unit {0})
read_if_mark slack nodes = read_node slack nodes (only m.If) (pass m.If)

unfoldable pub read_times : ℕ → ℕ → Reader Op
read_times slack nodes = read_node slack nodes times (read_one times_of)

unfoldable pub read_plus : ℕ → ℕ → Reader Op
read_plus slack nodes = read_node slack nodes plus (read_one plus_of)

unfoldable pub read_comparison : ℕ → ℕ → Reader Op
read_comparison slack nodes = read_node slack nodes comparisons (read_one comparison_of)

unfoldable pub read_two : Name → ℕ → Reader Counted
read_two name nodes = do
  pass m.Dot
  attribute ← read_word
  pure (e.Two name attribute, nodes)

module _ (slack : ℕ) (inner : ℕ → Reader Counted) where
  unfoldable pub read_brackets : ℕ → Reader Counted
  read_brackets nodes = do
    pass m.LeftParen
    x ← inner nodes
    pass m.RightParen
    pure x

  -- one argument more behind these
  unfoldable pub read_push_argument : List RawExpr × ℕ → Reader (List RawExpr × ℕ)
  read_push_argument s = do
    x ← inner s.1
    pure (s.0 ++ x.0 ∷ [], x.1)

  -- the same behind a comma
  unfoldable pub read_argument : List RawExpr × ℕ → Reader (List RawExpr × ℕ)
  read_argument s = pass m.Comma >> read_push_argument s

  unfoldable pub read_more_arguments : List RawExpr × ℕ → Reader (List RawExpr × ℕ)
  read_more_arguments = read_loop kind (only m.Comma) read_argument

  unfoldable pub read_arguments : ℕ → Reader (List RawExpr × ℕ)
  read_arguments nodes = read_push_argument ([], nodes) >>= read_more_arguments

  unfoldable pub read_any_arguments : ℕ → Reader (List RawExpr × ℕ)
  read_any_arguments nodes = read_either kind exprs (read_arguments nodes) (pure ([], nodes))

  unfoldable pub read_make : Name → ℕ → Reader Counted
  read_make name nodes = do
    pass m.LeftParen
    s ← read_any_arguments nodes
    pass m.RightParen
    pure (e.Make name s.0, s.1)

  unfoldable pub read_named : ℕ → Reader Counted
  read_named nodes = do
    name ← read_name slack nodes
    read_either kind (only m.LeftParen) (read_make name (nodes + 1)) (read_either kind (only m.Dot) (read_two name (nodes + 1)) (pure (e.One name, nodes + 1)))

  unfoldable pub read_atom : ℕ → Reader Counted
  read_atom nodes = read_either kind literals (read_literal slack nodes) (read_either kind (only m.LeftParen) (read_brackets nodes) (read_named nodes))

  unfoldable pub read_factor : Counted → Reader Counted
  read_factor x = do
    o ← read_times slack x.1
    y ← read_atom (x.1 + 1)
    pure (e.Op o x.0 y.0, y.1)

  unfoldable pub read_factors : Counted → Reader Counted
  read_factors = read_loop kind times read_factor

  unfoldable pub read_product : ℕ → Reader Counted
  read_product nodes = read_atom nodes >>= read_factors

  unfoldable pub read_addend : Counted → Reader Counted
  read_addend x = do
    o ← read_plus slack x.1
    y ← read_product (x.1 + 1)
    pure (e.Op o x.0 y.0, y.1)

  unfoldable pub read_addends : Counted → Reader Counted
  read_addends = read_loop kind plus read_addend

  unfoldable pub read_sum : ℕ → Reader Counted
  read_sum nodes = read_product nodes >>= read_addends

  unfoldable pub read_compared : Counted → Reader Counted
  read_compared x = do
    o ← read_comparison slack x.1
    y ← read_sum (x.1 + 1)
    pure (e.Op o x.0 y.0, y.1)

  unfoldable pub read_compare : ℕ → Reader Counted
  read_compare nodes = do
    x ← read_sum nodes
    read_either kind comparisons (read_compared x) (pure x)

  unfoldable pub read_if : ℕ → Reader Counted
  read_if nodes = do
    read_if_mark slack nodes
    condition ← inner (nodes + 1)
    pass m.Then
    then_part ← inner condition.1
    pass m.Else
    else_part ← inner then_part.1
    pure (e.If condition.0 then_part.0 else_part.0, else_part.1)

  unfoldable pub read_expr_over : ℕ → Reader Counted
  read_expr_over nodes = read_either kind (only m.If) (read_if nodes) (read_compare nodes)

-- an expression with at most so many within one another, itself included
unfoldable pub read_expr_at : ℕ → ℕ → ℕ → Reader Counted
read_expr_at slack levels nodes = read_levels kind (read_expr_over slack) exprs levels nodes

unfoldable pub read_expr : ℕ → Reader RawExpr
read_expr slack = do
  x ← read_expr_at slack (level_limit slack) 0
  pure x.0

-- ---- items

unfoldable pub read_local : ℕ → Reader RawItem
read_local slack = do
  pass m.Local
  name ← read_word
  pass m.Colon
  what ← read_kind
  pass m.Equals
  x ← read_expr slack
  pass m.Semicolon
  pure (item.Local name what x)

unfoldable pub read_attach : ℕ → Reader RawItem
read_attach slack = do
  pass m.Attach
  name ← read_word
  pass m.Colon
  sort ← read_word
  pass m.Equals
  x ← read_expr slack
  pass m.Semicolon
  pure (item.Attach name sort x)

unfoldable pub read_declared : ℕ → Reader RawItem
read_declared slack = read_either kind (only m.Local) (read_local slack) (read_attach slack)

unfoldable pub read_piece : Reader RawPiece
read_piece = read_one piece_of

-- one piece more behind these
unfoldable pub read_another_piece : List RawPiece → Reader (List RawPiece)
read_another_piece xs = do
  x ← read_piece
  pure (xs ++ x ∷ [])

-- pieces behind these
unfoldable pub read_pieces : List RawPiece → Reader (List RawPiece)
read_pieces = read_many kind pieces read_piece

unfoldable pub read_pattern : Reader RawItem
read_pattern = do
  pass m.Text
  xs ← read_pieces []
  pass m.Semicolon
  pure (item.Pattern xs)

unfoldable pub read_dot_word : Reader Name
read_dot_word = pass m.Dot >> read_word

unfoldable pub read_attribute_of : Reader (Option Name)
read_attribute_of = read_optional kind (only m.Dot) read_dot_word

unfoldable pub read_equation : ℕ → Reader RawItem
read_equation slack = do
  name ← read_word
  attribute ← read_attribute_of
  pass m.Equals
  x ← read_expr slack
  pass m.Semicolon
  pure (equation_of name attribute x)

unfoldable pub read_undeclared : ℕ → Reader RawItem
read_undeclared slack = read_either kind (only m.Text) read_pattern (read_equation slack)

unfoldable pub read_declaration : ℕ → Items → Reader Items
read_declaration slack s = do
  x ← read_room s.1 (local_limit slack) declarations Locals >> read_declared slack
  pure (s.0 ++ x ∷ [], s.1 + 1)

unfoldable pub read_other : ℕ → Items → Reader Items
read_other slack s = do
  x ← read_undeclared slack
  pure (s.0 ++ x ∷ [], s.1)

-- one item more behind these
unfoldable pub read_another_item : ℕ → Items → Reader Items
read_another_item slack s = read_either kind declarations (read_declaration slack s) (read_other slack s)

-- items behind these
unfoldable pub read_more_items : ℕ → Items → Reader Items
read_more_items slack = read_loop kind items (read_another_item slack)

unfoldable pub read_items : ℕ → Reader (List RawItem)
read_items slack = do
  pass m.LeftBrace
  s ← read_more_items slack ([], 0)
  pass m.RightBrace
  pure s.0

-- ---- productions

unfoldable pub read_prod : ℕ → Reader RawProd
read_prod slack = do
  pass m.Prod
  name ← read_word
  pass m.Colon
  left ← read_word
  kids ← read_kids slack
  xs ← read_items slack
  pure (prod_of name left kids xs)

-- ---- terms

unfoldable pub read_leaf : Reader RawTermTree
read_leaf = read_one literal_term

module _ (inner : Reader RawTermTree) where
  -- one term more behind these
  unfoldable pub read_push_term : List RawTermTree → Reader (List RawTermTree)
  read_push_term xs = do
    x ← inner
    pure (xs ++ x ∷ [])

  -- the same behind a comma
  unfoldable pub read_another_term : List RawTermTree → Reader (List RawTermTree)
  read_another_term xs = pass m.Comma >> read_push_term xs

  unfoldable pub read_more_terms : List RawTermTree → Reader (List RawTermTree)
  read_more_terms = read_others kind (number m.Comma) inner

  unfoldable pub read_some_terms : Reader (List RawTermTree)
  read_some_terms = read_push_term [] >>= read_more_terms

  unfoldable pub read_any_terms : Reader (List RawTermTree)
  read_any_terms = read_either kind terms read_some_terms (pure [])

  unfoldable pub read_tree : Reader RawTermTree
  read_tree = do
    name ← read_word
    pass m.LeftParen
    arguments ← read_any_terms
    pass m.RightParen
    pure (t.Node name arguments)

unfoldable pub read_term_over : (Unit {0} → Reader RawTermTree) → Unit {0} → Reader RawTermTree
read_term_over inner q = read_either kind literals read_leaf (read_tree (inner q))

-- a term with at most so many within one another, itself included
unfoldable pub read_term_at : ℕ → Reader RawTermTree
read_term_at levels = read_levels kind read_term_over terms levels tt

unfoldable pub read_term : ℕ → Reader RawTermTree
read_term slack = read_term_at (term_level_limit slack)

-- ---- the header and the grammar

unfoldable pub read_one_number : Reader (Unit {0})
read_one_number = read_one one_of

unfoldable pub read_start : Reader Name
read_start = do
  pass m.Start
  name ← read_word
  pass m.Semicolon
  pure name

-- one sort more behind these, within the limit
unfoldable pub read_another_sort : ℕ → List RawSort → Reader (List RawSort)
read_another_sort slack xs = do
  read_room (length xs) (sort_limit slack) (only m.Sort) Sorts
  x ← read_sort slack
  pure (xs ++ x ∷ [])

-- sorts behind these
unfoldable pub read_sorts : ℕ → List RawSort → Reader (List RawSort)
read_sorts slack = read_most kind (sort_limit slack) (only m.Sort) (passing Sorts) (read_sort slack)

-- one production more behind these, within the limit
unfoldable pub read_another_prod : ℕ → List RawProd → Reader (List RawProd)
read_another_prod slack xs = do
  read_room (length xs) (production_limit slack) (only m.Prod) Productions
  x ← read_prod slack
  pure (xs ++ x ∷ [])

-- productions behind these
unfoldable pub read_prods : ℕ → List RawProd → Reader (List RawProd)
read_prods slack = read_most kind (production_limit slack) (only m.Prod) (passing Productions) (read_prod slack)

unfoldable pub read_grammar : ℕ → Reader RawGrammar
read_grammar slack = do
  sorts ← read_sorts slack []
  prods ← read_prods slack []
  start ← read_start
  pure (grammar_of sorts prods start)

-- ---- sessions and the whole

unfoldable pub read_put : ℕ → Reader RawEdit
read_put slack = do
  pass m.Put
  path ← read_path
  tree ← read_term slack
  pass m.Semicolon
  pure (edit.Put path tree)

unfoldable pub read_copy : Reader RawEdit
read_copy = do
  pass m.Copy
  from ← read_path
  to ← read_path
  pass m.Semicolon
  pure (edit.Copy from to)

unfoldable pub read_show : Reader RawEdit
read_show = do
  pass m.Show
  pass m.Semicolon
  pure edit.Show

unfoldable pub read_count : Reader ℕ
read_count = read_one count_of

unfoldable pub read_forget : Reader RawEdit
read_forget = do
  pass m.Forget
  count ← read_count
  pass m.Semicolon
  pure (edit.Forget count)

unfoldable pub read_edit : ℕ → Reader RawEdit
read_edit slack = read_either kind (only m.Put) (read_put slack) (read_either kind (only m.Copy) read_copy (read_either kind (only m.Show) read_show read_forget))

-- one edit more behind these, within the limit
unfoldable pub read_another_edit : ℕ → List RawEdit → Reader (List RawEdit)
read_another_edit slack xs = do
  read_room (length xs) (edit_limit slack) edits Edits
  x ← read_edit slack
  pure (xs ++ x ∷ [])

-- edits behind these
unfoldable pub read_edits : ℕ → List RawEdit → Reader (List RawEdit)
read_edits slack = read_most kind (edit_limit slack) edits (passing Edits) (read_edit slack)

unfoldable pub read_session : ℕ → Reader RawScript
read_session slack = do
  pass m.Session
  pass m.On
  tree ← read_term slack
  pass m.LeftBrace
  xs ← read_edits slack []
  pass m.RightBrace
  pure (script_of tree xs)

-- one session more behind these, within the limit
unfoldable pub read_another_session : ℕ → List RawScript → Reader (List RawScript)
read_another_session slack xs = do
  read_room (length xs) (session_limit slack) (only m.Session) Sessions
  x ← read_session slack
  pure (xs ++ x ∷ [])

-- sessions behind these
unfoldable pub read_sessions : ℕ → List RawScript → Reader (List RawScript)
read_sessions slack = read_most kind (session_limit slack) (only m.Session) (passing Sessions) (read_session slack)

unfoldable pub read_all : ℕ → Reader Job
read_all slack = do
  pass m.Lrc
  read_one_number
  grammar ← read_grammar slack
  sessions ← read_sessions slack []
  pure (job_of grammar sessions)
