-- The grammar of a job within its limits: which lexemes stand for which job, and which lexeme would pass a limit.
use Rattle.std.specs.Prelude.{ℕ, ℤ, ◌+◌, nat_lt, pos, Bool, true, false, if◌then◌else◌, unsigned_abs, Option, Some, None, List, [], ◌∷◌, ◌++◌}
use Rattle.std.specs.Ordering.{int_eq}
use Rattle.lrc_base.specs.declared.expr.Op.{Op}
use Rattle.lrc_base.specs.declared.expr.Op.TheVariants as op
use Rattle.lrc_base.specs.declared.raw.RawKind.{RawKind}
use Rattle.lrc_base.specs.declared.raw.RawKind.TheVariants as k
use Rattle.lrc_base.specs.declared.raw.RawAttr.{RawAttr}
use Rattle.lrc_base.specs.declared.raw.RawSort.{RawSort}
use Rattle.lrc_base.specs.declared.raw.RawKid.{RawKid}
use Rattle.lrc_base.specs.declared.raw.RawPiece.{RawPiece}
use Rattle.lrc_base.specs.declared.raw.RawPiece.TheVariants as piece
use Rattle.lrc_base.specs.declared.raw.RawExpr.{RawExpr}
use Rattle.lrc_base.specs.declared.raw.RawExpr.TheVariants as e
use Rattle.lrc_base.specs.declared.raw.RawItem.{RawItem}
use Rattle.lrc_base.specs.declared.raw.RawItem.TheVariants as item
use Rattle.lrc_base.specs.declared.raw.RawProd.{RawProd}
use Rattle.lrc_base.specs.declared.raw_term.RawTermTree.{RawTermTree}
use Rattle.lrc_base.specs.declared.raw_term.RawTermTree.TheVariants as t
use Rattle.lrc_base.specs.declared.raw.RawGrammar.{RawGrammar}
use Rattle.lrc_base.specs.declared.job.Path.{Path}
use Rattle.lrc_base.specs.declared.job.RawEdit.{RawEdit}
use Rattle.lrc_base.specs.declared.job.RawEdit.TheVariants as edit
use Rattle.lrc_base.specs.declared.job.RawScript.{RawScript}
use Rattle.lrc_base.specs.declared.job.Job.{Job}
use Rattle.lrc_parse.specs.Limited.{Limited, Empty, One, Given, Either, Optional, Within, Loop, Many, Most, Levels, Fixed, Separated, SeparatedMost}
use Rattle.lrc_reader.specs.declared.lexeme.Lexeme.{Lexeme}
use Rattle.lrc_reader.specs.declared.lexeme.Lexeme.TheVariants as l
use Rattle.lrc_reader.specs.declared.lexeme.Mark.{Mark}
use Rattle.lrc_reader.specs.declared.lexeme.Mark.TheVariants as m
use Rattle.lrc_reader.specs.declared.fault.Limit.TheVariants.{Sorts, Attributes, Productions, Children, Locals, Nodes, Sessions, Edits}
use Rattle.lrc_reader.specs.Lexeme.{kind, number, word_of, path_of}
use Rattle.lrc_reader.specs.First.{only, words, literals, directions, times, plus, comparisons, exprs, declarations, terms, edits}
use Rattle.lrc_reader.specs.Limits.{sort_limit, attribute_limit, production_limit, child_limit, local_limit, node_limit, session_limit, edit_limit, level_limit, term_level_limit, passing}

-- ---- one part after another, with its value

infixl 10 ◌>>=◌
abbrev pub ◌>>=◌ : {A B : Type 0} → Limited Lexeme A → (A → Limited Lexeme B) → Limited Lexeme B
L >>= M = Given L M

infixl 10 ◌>>◌
abbrev pub ◌>>◌ : {A B : Type 0} → Limited Lexeme A → Limited Lexeme B → Limited Lexeme B
L >> M = Given L (λ _. M)

abbrev pub pure : {A : Type 0} → A → Limited Lexeme A
pure x = Empty x

-- ---- lexemes

abbrev pub Name : Type 0
Name = List ℕ

abbrev pub IsWord : Limited Lexeme Name
IsWord = One word_of

abbrev pub IsPath : Limited Lexeme Path
IsPath = One path_of

abbrev pub mark : Mark → Limited Lexeme (Unit {0})
mark m = Fixed kind (number m)

-- a mark that stands for this value
abbrev pub constant : {A : Type 0} → Mark → A → Limited Lexeme A
constant m x = mark m >> pure x

-- what a literal is: a number, `true` or `false`, or a name behind a `'`
abbrev pub literal : {A : Type 0} → (ℤ → A) → (Bool → A) → (Name → A) → Lexeme → Option A
literal int bool name (l.Natural value) = Some (int value)
literal int bool name (l.Negative value) = Some (int value)
literal int bool name (l.Name x) = Some (name x)
literal int bool name (l.Mark m.True) = Some (bool true)
literal int bool name (l.Mark m.False) = Some (bool false)
literal int bool name _ = None

-- ---- sorts

-- Word, the name of a sort
abbrev pub IsNamedKind : Limited Lexeme RawKind
IsNamedKind = do
  name ← IsWord
  pure (k.Named name)

-- "Int" | "Bool" | "Name" | Word
abbrev pub IsKind : Limited Lexeme RawKind
IsKind = Either (constant m.Int k.Int) (Either (constant m.Bool k.Bool) (Either (constant m.Name k.Name) IsNamedKind))

-- "inh" | "syn", whether the attribute is inherited
abbrev pub IsDirection : Limited Lexeme Bool
IsDirection = Either (constant m.Inh true) (constant m.Syn false)

abbrev pub attr_of : Bool → Name → RawKind → RawAttr
attr_of inherited name what = record { name = name; inherited = inherited; kind = what }

-- ( "inh" | "syn" ) Word ":" kind ";"
abbrev pub IsAttr : Limited Lexeme RawAttr
IsAttr = do
  inherited ← IsDirection
  name ← IsWord
  mark m.Colon
  what ← IsKind
  mark m.Semicolon
  pure (attr_of inherited name what)

abbrev pub sort_of : Name → List RawAttr → RawSort
sort_of name attrs = record { name = name; attrs = attrs }

-- "sort" Word "{" { attr } "}"
abbrev pub IsSort : ℕ → Limited Lexeme RawSort
IsSort slack = do
  mark m.Sort
  name ← IsWord
  mark m.LeftBrace
  attrs ← Most kind (attribute_limit slack) directions (passing Attributes) IsAttr
  mark m.RightBrace
  pure (sort_of name attrs)

-- ---- children

abbrev pub kid_of : Name → RawKind → RawKid
kid_of name what = record { name = name; kind = what }

-- Word ":" kind
abbrev pub IsKid : Limited Lexeme RawKid
IsKid = do
  name ← IsWord
  mark m.Colon
  what ← IsKind
  pure (kid_of name what)

-- "(" [ kid { "," kid } ] ")"
abbrev pub IsKids : ℕ → Limited Lexeme (List RawKid)
IsKids slack = do
  mark m.LeftParen
  kids ← Either (SeparatedMost kind (number m.Comma) (child_limit slack) words (passing Children) IsKid) (pure [])
  mark m.RightParen
  pure kids

-- ---- expressions; each takes the number of nodes before it in the same equation, and gives the number behind it

abbrev pub Counted : Type 0
Counted = RawExpr × ℕ

abbrev pub literal_expr : Lexeme → Option RawExpr
literal_expr = literal e.Int e.Bool e.Name

-- the operators of a product, of a sum and of a comparison
abbrev pub times_of : Lexeme → Option Op
times_of (l.Mark m.Star) = Some op.Mul
times_of _ = None

abbrev pub plus_of : Lexeme → Option Op
plus_of (l.Mark m.Plus) = Some op.Add
plus_of (l.Mark m.Minus) = Some op.Sub
plus_of _ = None

abbrev pub comparison_of : Lexeme → Option Op
comparison_of (l.Mark m.SameAs) = Some op.Equal
comparison_of (l.Mark m.Less) = Some op.Less
comparison_of _ = None

-- the first lexeme of a node, one of these kinds, behind so many nodes
abbrev pub IsNode : {A : Type 0} → ℕ → ℕ → List ℕ → Limited Lexeme A → Limited Lexeme A
IsNode slack nodes first L = Within kind (nat_lt nodes (node_limit slack)) first (passing Nodes) L

-- an operator and the operand to its right, behind the operand to its left
abbrev pub IsStep : ℕ → List ℕ → (Lexeme → Option Op) → (ℕ → Limited Lexeme Counted) → Counted → Limited Lexeme Counted
IsStep slack first operator Operand x = do
  o ← IsNode slack x.1 first (One operator)
  y ← Operand (x.1 + 1)
  pure (e.Op o x.0 y.0, y.1)

-- a literal, which is one node
abbrev pub IsLiteral : ℕ → ℕ → Limited Lexeme Counted
IsLiteral slack nodes = do
  x ← IsNode slack nodes literals (One literal_expr)
  pure (x, nodes + 1)

-- "." Word, behind the name of a symbol
abbrev pub IsTwo : Name → ℕ → Limited Lexeme Counted
IsTwo name nodes = do
  mark m.Dot
  attribute ← IsWord
  pure (e.Two name attribute, nodes)

-- `Inner` is an expression within this one
module _ (slack : ℕ) (Inner : ℕ → Limited Lexeme Counted) where
  -- "(" expr ")"
  abbrev pub IsBrackets : ℕ → Limited Lexeme Counted
  IsBrackets nodes = do
    mark m.LeftParen
    x ← Inner nodes
    mark m.RightParen
    pure x

  -- an argument behind others
  abbrev pub IsArgument : List RawExpr × ℕ → Limited Lexeme (List RawExpr × ℕ)
  IsArgument s = do
    x ← Inner s.1
    pure (s.0 ++ x.0 ∷ [], x.1)

  -- expr { "," expr }
  abbrev pub IsArguments : ℕ → Limited Lexeme (List RawExpr × ℕ)
  IsArguments nodes = IsArgument ([], nodes) >>= Loop (λ s. mark m.Comma >> IsArgument s)

  -- "(" [ expr { "," expr } ] ")", behind the name of a production
  abbrev pub IsMake : Name → ℕ → Limited Lexeme Counted
  IsMake name nodes = do
    mark m.LeftParen
    s ← Either (IsArguments nodes) (pure ([], nodes))
    mark m.RightParen
    pure (e.Make name s.0, s.1)

  -- Word | Word "." Word | Word "(" [ expr { "," expr } ] ")"
  abbrev pub IsNamed : ℕ → Limited Lexeme Counted
  IsNamed nodes = do
    name ← IsNode slack nodes words IsWord
    Either (IsMake name (nodes + 1)) (Either (IsTwo name (nodes + 1)) (pure (e.One name, nodes + 1)))

  -- literal | "(" expr ")" | what a Word begins
  abbrev pub IsAtom : ℕ → Limited Lexeme Counted
  IsAtom nodes = Either (IsLiteral slack nodes) (Either (IsBrackets nodes) (IsNamed nodes))

  -- atom { "*" atom }
  abbrev pub IsProduct : ℕ → Limited Lexeme Counted
  IsProduct nodes = IsAtom nodes >>= Loop (IsStep slack times times_of IsAtom)

  -- product { ( "+" | "-" ) product }
  abbrev pub IsSum : ℕ → Limited Lexeme Counted
  IsSum nodes = IsProduct nodes >>= Loop (IsStep slack plus plus_of IsProduct)

  -- sum [ ( "==" | "<" ) sum ]
  abbrev pub IsCompare : ℕ → Limited Lexeme Counted
  IsCompare nodes = do
    x ← IsSum nodes
    Either (IsStep slack comparisons comparison_of IsSum x) (pure x)

  -- "if" expr "then" expr "else" expr
  abbrev pub IsIf : ℕ → Limited Lexeme Counted
  IsIf nodes = do
    IsNode slack nodes (only m.If) (mark m.If)
    condition ← Inner (nodes + 1)
    mark m.Then
    then_part ← Inner condition.1
    mark m.Else
    else_part ← Inner then_part.1
    pure (e.If condition.0 then_part.0 else_part.0, else_part.1)

  -- an expression whose parts in brackets, in arguments and of `if` are of `Inner`
  abbrev pub IsExprOver : ℕ → Limited Lexeme Counted
  IsExprOver nodes = Either (IsIf nodes) (IsCompare nodes)

-- an expression, with at most 1,000 within one another and 1,000 nodes
abbrev pub IsExpr : ℕ → Limited Lexeme RawExpr
IsExpr slack = do
  x ← Levels kind exprs (IsExprOver slack) (level_limit slack) 0
  pure x.0

-- ---- items

-- "local" Word ":" kind "=" expr ";"
abbrev pub IsLocal : ℕ → Limited Lexeme RawItem
IsLocal slack = do
  mark m.Local
  name ← IsWord
  mark m.Colon
  what ← IsKind
  mark m.Equals
  x ← IsExpr slack
  mark m.Semicolon
  pure (item.Local name what x)

-- "attach" Word ":" Word "=" expr ";"
abbrev pub IsAttach : ℕ → Limited Lexeme RawItem
IsAttach slack = do
  mark m.Attach
  name ← IsWord
  mark m.Colon
  sort ← IsWord
  mark m.Equals
  x ← IsExpr slack
  mark m.Semicolon
  pure (item.Attach name sort x)

-- a piece of a pattern: bytes, or the name of a child
abbrev pub piece_of : Lexeme → Option RawPiece
piece_of (l.Text bytes) = Some (piece.Text bytes)
piece_of (l.Word name) = Some (piece.Kid name)
piece_of _ = None

-- "text" { Text | Word } ";"
abbrev pub IsPattern : Limited Lexeme RawItem
IsPattern = do
  mark m.Text
  pieces ← Many (One piece_of)
  mark m.Semicolon
  pure (item.Pattern pieces)

abbrev pub equation_of : Name → Option Name → RawExpr → RawItem
equation_of name None x = item.Own name x
equation_of name (Some attribute) x = item.OfKid name attribute x

-- Word [ "." Word ] "=" expr ";"
abbrev pub IsEquation : ℕ → Limited Lexeme RawItem
IsEquation slack = do
  name ← IsWord
  attribute ← Optional (mark m.Dot >> IsWord)
  mark m.Equals
  x ← IsExpr slack
  mark m.Semicolon
  pure (equation_of name attribute x)

-- items, with the number of locals and nonterminal attributes among them
abbrev pub Items : Type 0
Items = List RawItem × ℕ

-- a local or a nonterminal attribute behind other items
abbrev pub IsDeclaration : ℕ → Items → Limited Lexeme Items
IsDeclaration slack s = do
  x ← Within kind (nat_lt s.1 (local_limit slack)) declarations (passing Locals) (Either (IsLocal slack) (IsAttach slack))
  pure (s.0 ++ x ∷ [], s.1 + 1)

-- another item behind these
abbrev pub IsOther : ℕ → Items → Limited Lexeme Items
IsOther slack s = do
  x ← Either IsPattern (IsEquation slack)
  pure (s.0 ++ x ∷ [], s.1)

-- "{" { item } "}"
abbrev pub IsItems : ℕ → Limited Lexeme (List RawItem)
IsItems slack = do
  mark m.LeftBrace
  s ← Loop (λ s. Either (IsDeclaration slack s) (IsOther slack s)) ([], 0)
  mark m.RightBrace
  pure s.0

-- ---- productions

abbrev pub prod_of : Name → Name → List RawKid → List RawItem → RawProd
prod_of name left kids items = record { name = name; left = left; kids = kids; items = items }

-- "prod" Word ":" Word kids items
abbrev pub IsProd : ℕ → Limited Lexeme RawProd
IsProd slack = do
  mark m.Prod
  name ← IsWord
  mark m.Colon
  left ← IsWord
  kids ← IsKids slack
  items ← IsItems slack
  pure (prod_of name left kids items)

-- ---- terms; `Inner` is a term within this one

abbrev pub literal_term : Lexeme → Option RawTermTree
literal_term = literal t.Int t.Bool t.Name

-- Word "(" [ term { "," term } ] ")"
abbrev pub IsTree : Limited Lexeme RawTermTree → Limited Lexeme RawTermTree
IsTree Inner = do
  name ← IsWord
  mark m.LeftParen
  kids ← Either (Separated kind (number m.Comma) Inner) (pure [])
  mark m.RightParen
  pure (t.Node name kids)

-- literal | tree
abbrev pub IsTermOver : (Unit {0} → Limited Lexeme RawTermTree) → Unit {0} → Limited Lexeme RawTermTree
IsTermOver Inner q = Either (One literal_term) (IsTree (Inner q))

-- a term, with at most 1,000 within one another
abbrev pub IsTerm : ℕ → Limited Lexeme RawTermTree
IsTerm slack = Levels kind terms IsTermOver (term_level_limit slack) tt

-- ---- the header and the grammar

-- a natural of value 1
abbrev pub one_of : Lexeme → Option (Unit {0})
one_of (l.Natural value) = if int_eq value (pos 1) then Some tt else None
one_of _ = None

-- "start" Word ";"
abbrev pub IsStart : Limited Lexeme Name
IsStart = do
  mark m.Start
  name ← IsWord
  mark m.Semicolon
  pure name

abbrev pub grammar_of : List RawSort → List RawProd → Name → RawGrammar
grammar_of sorts prods start = record { sorts = sorts; prods = prods; start = start }

-- { sort } { prod } start
abbrev pub IsGrammar : ℕ → Limited Lexeme RawGrammar
IsGrammar slack = do
  sorts ← Most kind (sort_limit slack) (only m.Sort) (passing Sorts) (IsSort slack)
  prods ← Most kind (production_limit slack) (only m.Prod) (passing Productions) (IsProd slack)
  start ← IsStart
  pure (grammar_of sorts prods start)

-- ---- sessions and the whole

-- "put" Path term ";"
abbrev pub IsPut : ℕ → Limited Lexeme RawEdit
IsPut slack = do
  mark m.Put
  path ← IsPath
  tree ← IsTerm slack
  mark m.Semicolon
  pure (edit.Put path tree)

-- "copy" Path Path ";"
abbrev pub IsCopy : Limited Lexeme RawEdit
IsCopy = do
  mark m.Copy
  from ← IsPath
  to ← IsPath
  mark m.Semicolon
  pure (edit.Copy from to)

-- "show" ";"
abbrev pub IsShow : Limited Lexeme RawEdit
IsShow = do
  mark m.Show
  mark m.Semicolon
  pure edit.Show

-- the number that a natural is
abbrev pub count_of : Lexeme → Option ℕ
count_of (l.Natural value) = Some (unsigned_abs value)
count_of _ = None

-- "forget" Natural ";"
abbrev pub IsForget : Limited Lexeme RawEdit
IsForget = do
  mark m.Forget
  count ← One count_of
  mark m.Semicolon
  pure (edit.Forget count)

-- put | copy | show | forget
abbrev pub IsEdit : ℕ → Limited Lexeme RawEdit
IsEdit slack = Either (IsPut slack) (Either IsCopy (Either IsShow IsForget))

abbrev pub script_of : RawTermTree → List RawEdit → RawScript
script_of tree edits = record { tree = tree; edits = edits }

-- "session" "on" term "{" { edit } "}"
abbrev pub IsSession : ℕ → Limited Lexeme RawScript
IsSession slack = do
  mark m.Session
  mark m.On
  tree ← IsTerm slack
  mark m.LeftBrace
  xs ← Most kind (edit_limit slack) edits (passing Edits) (IsEdit slack)
  mark m.RightBrace
  pure (script_of tree xs)

abbrev pub job_of : RawGrammar → List RawScript → Job
job_of grammar sessions = record { grammar = grammar; sessions = sessions }

-- "lrc" 1 grammar { session }
unfoldable pub IsJob : ℕ → Limited Lexeme Job
IsJob slack = do
  mark m.Lrc
  One one_of
  grammar ← IsGrammar slack
  sessions ← Most kind (session_limit slack) (only m.Session) (passing Sessions) (IsSession slack)
  pure (job_of grammar sessions)
