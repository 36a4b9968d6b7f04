-- An expression that is read has as many nodes as were counted on the way, and at most the limit.
use Rattle.std.proofs.Common.{◌≡◌, ℕ, zero, suc, ◌+◌, ◌<◌, ◌≤◌, true, false, Option, Some, List, [], sum_by, sym, ap, ◌∙◌, subst, arith, inl, inr}
use Rattle.std.proofs.lemmas.Bool.{ltb-true}
use Rattle.std.proofs.lemmas.List.Sums.{sum_by_push}
use Rattle.lrc_base.specs.declared.limits.TheConstants.{NODE_LIMIT}
use Rattle.lrc_base.specs.declared.expr.Op.{Op}
use Rattle.lrc_base.specs.declared.raw.RawExpr.{RawExpr}
use Rattle.lrc_base.specs.declared.raw.RawExpr.TheVariants as e
use Rattle.lrc_meaning.specs.Limits.{written_nodes}
use Rattle.lrc_meaning.proofs.NodeLemmas.{written_nodes-Int, written_nodes-Bool, written_nodes-Name, written_nodes-One, written_nodes-Two, written_nodes-Op, written_nodes-If, written_nodes-Make}
use Rattle.lrc_parse.specs.Language.{Turns}
use Rattle.lrc_parse.specs.Limited.{Limited, Given, Loop, Levels}
use Rattle.lrc_reader.specs.declared.lexeme.Lexeme.{Lexeme}
use Rattle.lrc_reader.specs.declared.lexeme.Lexeme.TheVariants as l
use Rattle.lrc_reader.specs.declared.lexeme.Mark.TheVariants as m
use Rattle.lrc_reader.specs.Lexeme.{kind}
use Rattle.lrc_reader.specs.First.{times, plus, comparisons, exprs}
use Rattle.lrc_reader.specs.Grammar.{Name, Counted, mark, literal_expr, times_of, plus_of, comparison_of, IsStep, IsLiteral, IsBrackets, IsArgument, IsArguments, IsMake, IsNamed, IsAtom, IsProduct, IsSum, IsCompare, IsIf, IsExprOver, IsExpr}

-- ---- literals

unwrapped : (x y : RawExpr) → Some x ≡ Some y → x ≡ y
unwrapped x y h = cc

literal_nodes : (t : Lexeme) (x : RawExpr) → literal_expr t ≡ Some x → written_nodes x ≡ 1
literal_nodes (l.Word name) x h = absurd (cc)
literal_nodes (l.Natural value) x h = ap written_nodes (sym (unwrapped (e.Int value) x h)) ∙ written_nodes-Int value
literal_nodes (l.Negative value) x h = ap written_nodes (sym (unwrapped (e.Int value) x h)) ∙ written_nodes-Int value
literal_nodes (l.Name name) x h = ap written_nodes (sym (unwrapped (e.Name name) x h)) ∙ written_nodes-Name name
literal_nodes (l.Text bytes) x h = absurd (cc)
literal_nodes (l.Path path) x h = absurd (cc)
literal_nodes l.Other x h = absurd (cc)
literal_nodes (l.Mark m.True) x h = ap written_nodes (sym (unwrapped (e.Bool true) x h)) ∙ written_nodes-Bool true
literal_nodes (l.Mark m.False) x h = ap written_nodes (sym (unwrapped (e.Bool false) x h)) ∙ written_nodes-Bool false
literal_nodes (l.Mark m.LeftBrace) x h = absurd (cc)
literal_nodes (l.Mark m.RightBrace) x h = absurd (cc)
literal_nodes (l.Mark m.LeftParen) x h = absurd (cc)
literal_nodes (l.Mark m.RightParen) x h = absurd (cc)
literal_nodes (l.Mark m.Colon) x h = absurd (cc)
literal_nodes (l.Mark m.Semicolon) x h = absurd (cc)
literal_nodes (l.Mark m.Comma) x h = absurd (cc)
literal_nodes (l.Mark m.Dot) x h = absurd (cc)
literal_nodes (l.Mark m.Equals) x h = absurd (cc)
literal_nodes (l.Mark m.SameAs) x h = absurd (cc)
literal_nodes (l.Mark m.Less) x h = absurd (cc)
literal_nodes (l.Mark m.Plus) x h = absurd (cc)
literal_nodes (l.Mark m.Minus) x h = absurd (cc)
literal_nodes (l.Mark m.Star) x h = absurd (cc)
literal_nodes (l.Mark m.Lrc) x h = absurd (cc)
literal_nodes (l.Mark m.Sort) x h = absurd (cc)
literal_nodes (l.Mark m.Prod) x h = absurd (cc)
literal_nodes (l.Mark m.Start) x h = absurd (cc)
literal_nodes (l.Mark m.Session) x h = absurd (cc)
literal_nodes (l.Mark m.Inh) x h = absurd (cc)
literal_nodes (l.Mark m.Syn) x h = absurd (cc)
literal_nodes (l.Mark m.Local) x h = absurd (cc)
literal_nodes (l.Mark m.Attach) x h = absurd (cc)
literal_nodes (l.Mark m.Text) x h = absurd (cc)
literal_nodes (l.Mark m.On) x h = absurd (cc)
literal_nodes (l.Mark m.Put) x h = absurd (cc)
literal_nodes (l.Mark m.Copy) x h = absurd (cc)
literal_nodes (l.Mark m.Show) x h = absurd (cc)
literal_nodes (l.Mark m.Forget) x h = absurd (cc)
literal_nodes (l.Mark m.If) x h = absurd (cc)
literal_nodes (l.Mark m.Then) x h = absurd (cc)
literal_nodes (l.Mark m.Else) x h = absurd (cc)
literal_nodes (l.Mark m.Int) x h = absurd (cc)
literal_nodes (l.Mark m.Bool) x h = absurd (cc)
literal_nodes (l.Mark m.Name) x h = absurd (cc)

-- ---- expressions: the count went up by the nodes, and is within the limit

abbrev Counts : ℕ → Counted → Type 0
Counts nodes x = (x.1 ≡ nodes + written_nodes x.0) × (x.1 ≤ NODE_LIMIT)

-- each expression of the language counts so
abbrev AllCount : (ℕ → Limited Lexeme Counted) → Type 0
AllCount N = (nodes : ℕ) (u : List Lexeme) (x : Counted) → (N nodes).derives u x → Counts nodes x

a_literal : AllCount (IsLiteral 0)
a_literal nodes u x d =
    let room : nodes < NODE_LIMIT = ltb-true nodes NODE_LIMIT d.4.0 in
    let one : written_nodes d.2 ≡ 1 = literal_nodes d.4.1.0 d.2 d.4.1.2 in
    subst (Counts nodes) (sym d.5.1) (omega (arith, one), omega (arith, room))

-- an operator with its operand to the right
a_step : (first : List ℕ) (operator : Lexeme → Option Op) (Operand : ℕ → Limited Lexeme Counted) → AllCount Operand → (nodes : ℕ) (x z : Counted) (u : List Lexeme) →
    (IsStep 0 first operator Operand x).derives u z → Counts nodes x → Counts nodes z
a_step first operator Operand each nodes x z u d c =
    let right : Counts (x.1 + 1) d.5.2 = each (x.1 + 1) _ d.5.2 d.5.4 in
    let counted : d.5.2.1 ≡ x.1 + 1 + written_nodes d.5.2.0 = right.0 in
    let before : x.1 ≡ nodes + written_nodes x.0 = c.0 in
    let all : written_nodes (e.Op d.2 x.0 d.5.2.0) ≡ suc (written_nodes x.0 + written_nodes d.5.2.0) = written_nodes-Op d.2 x.0 d.5.2.0 in
    subst (Counts nodes) (sym d.5.5.1) (omega (arith, counted, before, all), right.1)

steps : (first : List ℕ) (operator : Lexeme → Option Op) (Operand : ℕ → Limited Lexeme Counted) → AllCount Operand → (nodes n : ℕ) (x z : Counted) (u : List Lexeme) →
    Turns (λ y. (IsStep 0 first operator Operand y).derives) n x u z → Counts nodes x → Counts nodes z
steps first operator Operand each nodes zero x z u d c = subst (Counts nodes) (sym d.1) c
steps first operator Operand each nodes (suc n) x z u d c =
    steps first operator Operand each nodes n d.2 z d.1 d.5 (a_step first operator Operand each nodes x d.2 d.0 d.4 c)

-- one operand, and then operators with theirs
chained : (first : List ℕ) (operator : Lexeme → Option Op) (Operand : ℕ → Limited Lexeme Counted) → AllCount Operand →
    AllCount (λ nodes. Given (Operand nodes) (Loop (IsStep 0 first operator Operand)))
chained first operator Operand each nodes u x d =
    steps first operator Operand each nodes d.5.0 d.2 x _ d.5.1 (each nodes _ d.2 d.4)

-- ---- arguments

abbrev Adds : ℕ → List RawExpr × ℕ → Type 0
Adds nodes s = s.1 ≡ nodes + sum_by written_nodes s.0

abbrev CountsAll : ℕ → List RawExpr × ℕ → Type 0
CountsAll nodes s = Adds nodes s × (s.1 ≤ NODE_LIMIT)

-- ---- expressions over those within them

module _ (Inner : ℕ → Limited Lexeme Counted) (inner : AllCount Inner) where
  brackets : AllCount (IsBrackets 0 Inner)
  brackets nodes u x d = subst (Counts nodes) (sym d.5.5.5.1) (inner nodes _ d.5.2 d.5.4)

  argument : (nodes : ℕ) (s z : List RawExpr × ℕ) (u : List Lexeme) → (IsArgument 0 Inner s).derives u z → Adds nodes s → CountsAll nodes z
  argument nodes s z u d c =
      let one : Counts s.1 d.2 = inner s.1 _ d.2 d.4 in
      let counted : d.2.1 ≡ s.1 + written_nodes d.2.0 = one.0 in
      let all = sum_by_push written_nodes s.0 d.2.0 in
      subst (CountsAll nodes) (sym d.5.1) (omega (arith, counted, c, all), one.1)

  more_arguments : (nodes n : ℕ) (s z : List RawExpr × ℕ) (u : List Lexeme) → Turns (λ y. (Given (mark m.Comma) (λ _. IsArgument 0 Inner y)).derives) n s u z →
      CountsAll nodes s → CountsAll nodes z
  more_arguments nodes zero s z u d c = subst (CountsAll nodes) (sym d.1) c
  more_arguments nodes (suc n) s z u d c = more_arguments nodes n d.2 z d.1 d.5 (argument nodes s d.2 _ d.4.5 c.0)

  arguments : (nodes : ℕ) (z : List RawExpr × ℕ) (u : List Lexeme) → (IsArguments 0 Inner nodes).derives u z → CountsAll nodes z
  arguments nodes z u d = more_arguments nodes d.5.0 d.2 z _ d.5.1 (argument nodes ([], nodes) d.2 _ d.4 (omega arith))

  -- a tree behind its name, which was counted
  made : (name : Name) (nodes : ℕ) (x : Counted) (u : List Lexeme) → nodes < NODE_LIMIT → (IsMake 0 Inner name (nodes + 1)).derives u x → Counts nodes x
  made name nodes x u room d =
      let s : CountsAll (nodes + 1) d.5.2 = elim d.5.4 [
        | inl h ↦ arguments (nodes + 1) d.5.2 _ h
        | inr h ↦ subst (CountsAll (nodes + 1)) (sym h.1) (omega arith, omega (arith, room))
      ] in
      let counted : d.5.2.1 ≡ nodes + 1 + sum_by written_nodes d.5.2.0 = s.0 in
      let all : written_nodes (e.Make name d.5.2.0) ≡ suc (sum_by written_nodes d.5.2.0) = written_nodes-Make name d.5.2.0 in
      subst (Counts nodes) (sym d.5.5.5.1) (omega (arith, counted, all), s.1)

  named : AllCount (IsNamed 0 Inner)
  named nodes u x d =
      let room : nodes < NODE_LIMIT = ltb-true nodes NODE_LIMIT d.4.0 in
      elim d.5 [
        | inl h ↦ made d.2 nodes x _ room h
        | inr h ↦ elim h [
          | inl i ↦ (let one = written_nodes-Two d.2 i.5.2 in subst (Counts nodes) (sym i.5.5.1) (omega (arith, one), omega (arith, room)))
          | inr i ↦ (let one = written_nodes-One d.2 in subst (Counts nodes) (sym i.1) (omega (arith, one), omega (arith, room)))
        ]
      ]

  atom : AllCount (IsAtom 0 Inner)
  atom nodes u x (inl d) = a_literal nodes u x d
  atom nodes u x (inr (inl d)) = brackets nodes u x d
  atom nodes u x (inr (inr d)) = named nodes u x d

  product : AllCount (IsProduct 0 Inner)
  product = chained times times_of (IsAtom 0 Inner) atom

  a_sum : AllCount (IsSum 0 Inner)
  a_sum = chained plus plus_of (IsProduct 0 Inner) product

  compared : AllCount (IsCompare 0 Inner)
  compared nodes u x d =
      let left = a_sum nodes _ d.2 d.4 in
      elim d.5 [
        | inl h ↦ a_step comparisons comparison_of (IsSum 0 Inner) a_sum nodes d.2 x _ h left
        | inr h ↦ subst (Counts nodes) (sym h.1) left
      ]

  conditional : AllCount (IsIf 0 Inner)
  conditional nodes u x d =
      let condition = d.5 in
      let then_part = condition.5.5 in
      let else_part = then_part.5.5 in
      let first : Counts (nodes + 1) condition.2 = inner (nodes + 1) _ condition.2 condition.4 in
      let second : Counts condition.2.1 then_part.2 = inner condition.2.1 _ then_part.2 then_part.4 in
      let third : Counts then_part.2.1 else_part.2 = inner then_part.2.1 _ else_part.2 else_part.4 in
      let a : condition.2.1 ≡ nodes + 1 + written_nodes condition.2.0 = first.0 in
      let b : then_part.2.1 ≡ condition.2.1 + written_nodes then_part.2.0 = second.0 in
      let c : else_part.2.1 ≡ then_part.2.1 + written_nodes else_part.2.0 = third.0 in
      let all : written_nodes (e.If condition.2.0 then_part.2.0 else_part.2.0)
      ≡ suc (written_nodes condition.2.0 + (written_nodes then_part.2.0 + written_nodes else_part.2.0)) = written_nodes-If condition.2.0 then_part.2.0 else_part.2.0 in
      subst (Counts nodes) (sym else_part.5.1) (omega (arith, a, b, c, all), third.1)

  over : AllCount (IsExprOver 0 Inner)
  over nodes u x (inl d) = conditional nodes u x d
  over nodes u x (inr d) = compared nodes u x d

levels : (n : ℕ) → AllCount (λ nodes. Levels kind exprs (IsExprOver 0) n nodes)
unfolding Levels
levels zero nodes u x d = absurd d
levels (suc n) nodes u x d = over (λ k. Levels kind exprs (IsExprOver 0) n k) (levels n) nodes u x d

pub few_nodes : (u : List Lexeme) (x : RawExpr) → (IsExpr 0).derives u x → written_nodes x ≤ NODE_LIMIT
few_nodes u x d =
    let all : Counts 0 d.2 = levels _ 0 _ d.2 d.4 in
    let counted : d.2.1 ≡ 0 + written_nodes d.2.0 = all.0 in
    let within : d.2.1 ≤ NODE_LIMIT = all.1 in
    subst (λ y. written_nodes y ≤ NODE_LIMIT) (sym d.5.1) (omega (arith, counted, within))
