-- An expression has no fault exactly where it is named and has a kind, and then the kinds agree.
use Rattle.std.proofs.Common.{◌≡◌, ℕ, ℤ, Bool, true, false, not, ◌&&◌, cond, List, [], ◌∷◌, ◌++◌, map, flat_map, find, slice_get, nat_eq, Option, Some, None, bytes_eq, refl, sym, ap, ap₂, ◌∙◌, subst}
use Rattle.std.specs.Prelude.{option_map, option_and_then}
use Rattle.std.specs.Option.{option_map_or}
use Rattle.std.proofs.lemmas.Bool.{and_right}
use Rattle.lrc_base.specs.declared.grammar.Kind.{Kind}
use Rattle.lrc_base.specs.declared.grammar.Kind.TheVariants as k
use Rattle.lrc_base.specs.declared.grammar.Sort.{Sort}
use Rattle.lrc_base.specs.declared.grammar.Kid.{Kid}
use Rattle.lrc_base.specs.declared.grammar.Production.{Production}
use Rattle.lrc_base.specs.declared.expr.Op.{Op}
use Rattle.lrc_base.specs.declared.expr.Op.TheVariants as o
use Rattle.lrc_base.specs.declared.expr.Expr.{Expr}
use Rattle.lrc_base.specs.declared.expr.Expr.TheVariants as e
use Rattle.lrc_base.specs.declared.raw.RawKind.{RawKind}
use Rattle.lrc_base.specs.declared.raw.RawKind.TheVariants as rk
use Rattle.lrc_base.specs.declared.raw.RawAttr.{RawAttr}
use Rattle.lrc_base.specs.declared.raw.RawKid.{RawKid}
use Rattle.lrc_base.specs.declared.raw.RawProd.{RawProd}
use Rattle.lrc_base.specs.declared.raw.RawGrammar.{RawGrammar}
use Rattle.lrc_base.specs.declared.raw.RawExpr.{RawExpr, RawExpr-F, ind-RawExpr, map-RawExpr, roll-RawExpr, fold-roll-RawExpr}
use Rattle.lrc_base.specs.declared.raw.RawExpr.TheVariants as v
use Rattle.lrc_meaning.specs.Tree.{same_kind}
use Rattle.lrc_meaning.specs.Grammar.{Occurrence, occurrences_of, of_kind as kind_if, common_kind, operated_kind, expression_kind, have_kinds}
use Rattle.lrc_meaning.specs.Expression.{Expression, expression, Expressions, expression_row}
use Rattle.lrc_meaning.specs.Naming.{Known, named_kind, named_sort, named_expr, or_leaf, each_some}
use Rattle.lrc_meaning.proofs.ExpressionLemmas.{expression-Int, expression-Bool, expression-Name, expression-Occ, expression-Leaf, expression-Op, expression-If, expression-Make}
use Rattle.lrc_naming.proofs.NamingLemmas.{named_expr-Int, named_expr-Bool, named_expr-Name, named_expr-One, named_expr-Two, named_expr-Op, named_expr-If, named_expr-Make}
use Rattle.lrc_fault_meaning.specs.Faults.{Name, Target, Fault, fault, fault_of, unknown, not_normal, attr_in_sort, Means, nothing, left_attr, leaf, symbol, value, tree, means, symbol_sort, is_nothing, Found, at_fault, of_kind, behind, same_kind as same_raw_kind, read_alone, read_attr, read_of, checked, both_are_numbers, operated, operation, choice, are_right, constructed, found_step, found_of}
use Rattle.lrc_fault_meaning.proofs.FaultLemmas.{found_of-Int, found_of-Bool, found_of-One, found_of-Two, found_of-Op}
use Rattle.lrc_fault_laws.proofs.Lists.{number, position-number, Every, Each, Names, FoundAt, absent, there, found_at}
use Rattle.lrc_fault_laws.proofs.Sorts.{IsKind, same_kinds}
use Rattle.lrc_fault_laws.proofs.Heads.{IsKid, are_kids, Head}
use Rattle.lrc_fault_laws.proofs.Places.{Place, own_place, symbol_place, value_place, places_of, is_at}
use Rattle.lrc_fault_laws.proofs.Meanings.{alone, of_symbol, alone_place, symbol_place_of, find_alone, find_symbol}
use Rattle.lrc_fault_laws.proofs.Occurrences.{Stands, all_signed, occurrence_at, target_found, LeafAt, leaf_of_name}

-- ---- induction, variant by variant

module _ (P : RawExpr → Type 0) where
  abbrev Proved : Type 0
  Proved = (x : RawExpr) × P x

  every_proved : (args : List Proved) → Every P (map (λ (a : Proved). a.0) args)
  every_proved [] = tt
  every_proved (a ∷ args) = (a.1, every_proved args)

  pub record Steps : Type 0 where
    pub at_int : (i : ℤ) → P (v.Int i)
    pub at_bool : (b : Bool) → P (v.Bool b)
    pub at_name : (n : List ℕ) → P (v.Name n)
    pub at_one : (n : List ℕ) → P (v.One n)
    pub at_two : (c a : List ℕ) → P (v.Two c a)
    pub at_op : (op : Op) (a b : RawExpr) → P a → P b → P (v.Op op a b)
    pub at_if : (c a b : RawExpr) → P c → P a → P b → P (v.If c a b)
    pub at_make : (n : List ℕ) (args : List RawExpr) → Every P args → P (v.Make n args)

  module _ (steps : Steps) where
    of_layer : (y : RawExpr-F Proved) → P (roll-RawExpr (map-RawExpr Proved RawExpr (λ a. a.0) y))
    of_layer (RawExpr-F.Int i) = subst P (sym (v.rolls-Int i)) (steps.at_int i)
    of_layer (RawExpr-F.Bool b) = subst P (sym (v.rolls-Bool b)) (steps.at_bool b)
    of_layer (RawExpr-F.Name n) = subst P (sym (v.rolls-Name n)) (steps.at_name n)
    of_layer (RawExpr-F.One n) = subst P (sym (v.rolls-One n)) (steps.at_one n)
    of_layer (RawExpr-F.Two c a) = subst P (sym (v.rolls-Two c a)) (steps.at_two c a)
    of_layer (RawExpr-F.Op op a b) = subst P (sym (v.rolls-Op op a.0 b.0)) (steps.at_op op a.0 b.0 a.1 b.1)
    of_layer (RawExpr-F.If c a b) = subst P (sym (v.rolls-If c.0 a.0 b.0)) (steps.at_if c.0 a.0 b.0 c.1 a.1 b.1)
    of_layer (RawExpr-F.Make n args) = subst P (sym (v.rolls-Make n (map (λ (a : Proved). a.0) args))) (steps.at_make n (map (λ (a : Proved). a.0) args) (every_proved args))

    pub by_variant : (x : RawExpr) → P x
    by_variant = ind-RawExpr P (λ x y is. subst (λ z. P (roll-RawExpr z)) is (of_layer y))

-- ---- the equations of `found_of` for the other variants

module _ (g : RawGrammar) (p : RawProd) (wrong : Fault) where
  found_of-Name : (n : List ℕ) → found_of g p wrong (v.Name n) ≡ found_step g p wrong (RawExpr-F.Name n)
  unfolding found_of
  found_of-Name n = ap (found_of g p wrong) (sym (v.rolls-Name n)) ∙ fold-roll-RawExpr Found (found_step g p wrong) (RawExpr-F.Name n)

  found_of-If : (c a b : RawExpr) → found_of g p wrong (v.If c a b) ≡ found_step g p wrong (RawExpr-F.If (found_of g p wrong c) (found_of g p wrong a) (found_of g p wrong b))
  unfolding found_of
  found_of-If c a b = ap (found_of g p wrong) (sym (v.rolls-If c a b)) ∙ fold-roll-RawExpr Found (found_step g p wrong) (RawExpr-F.If c a b)

  found_of-Make : (n : List ℕ) (args : List RawExpr) → found_of g p wrong (v.Make n args) ≡ found_step g p wrong (RawExpr-F.Make n (map (found_of g p wrong) args))
  unfolding found_of
  found_of-Make n args = ap (found_of g p wrong) (sym (v.rolls-Make n args)) ∙ fold-roll-RawExpr Found (found_step g p wrong) (RawExpr-F.Make n args)

-- ---- kinds of operations

-- two of one kind that is a number are two numbers
if_numbers : (u w gives : Kind) → kind_if k.Int gives (common_kind (Some u) (Some w)) ≡ cond (same_kind u k.Int && same_kind w k.Int) (Some gives) None
if_numbers k.Int k.Int gives = refl
if_numbers k.Int k.Bool gives = refl
if_numbers k.Int k.Name gives = refl
if_numbers k.Int (k.Sort j) gives = refl
if_numbers k.Bool k.Int gives = refl
if_numbers k.Bool k.Bool gives = refl
if_numbers k.Bool k.Name gives = refl
if_numbers k.Bool (k.Sort j) gives = refl
if_numbers k.Name k.Int gives = refl
if_numbers k.Name k.Bool gives = refl
if_numbers k.Name k.Name gives = refl
if_numbers k.Name (k.Sort j) gives = refl
if_numbers (k.Sort i) k.Int gives = refl
if_numbers (k.Sort i) k.Bool gives = refl
if_numbers (k.Sort i) k.Name gives = refl
if_numbers (k.Sort i) (k.Sort j) gives = by (nat_eq i j)
  where
    by : (b : Bool) → kind_if k.Int gives (cond b (Some (k.Sort i)) None) ≡ None
    by true = refl
    by false = refl

if_equal : (b : Bool) (u : Kind) → option_map (λ a. k.Bool) (cond b (Some u) None) ≡ cond b (Some k.Bool) None
if_equal true u = refl
if_equal false u = refl

none_left : (op : Op) (y : Option Kind) → operated_kind op None y ≡ None
none_left o.Add y = refl
none_left o.Sub y = refl
none_left o.Mul y = refl
none_left o.Equal y = refl
none_left o.Less y = refl

none_right : (op : Op) (u : Kind) → operated_kind op (Some u) None ≡ None
none_right o.Add u = refl
none_right o.Sub u = refl
none_right o.Mul u = refl
none_right o.Equal u = refl
none_right o.Less u = refl

-- ---- agreement

module _ (g : RawGrammar) (sorts : List Sort) (named : Each (Names (named_sort g.sorts)) g.sorts sorts) (p : RawProd) (P : Production) (head : Head g.sorts p P.left P.kids P.extras) (prods : List Production) (made : Each (λ q Q. Head g.sorts q Q.left Q.kids Q.extras) g.prods prods) where
  abbrev pub known : Known
  known = record { prods = g.prods; occurrences = all_signed g.sorts sorts named p P head; kids = P.kids }

  abbrev pub kind_in : Expression → Option Kind
  kind_in = expression_kind prods (occurrences_of sorts P) P.kids

  abbrev pub kind_given : Option Expr → Option Kind
  kind_given x = option_and_then (λ y. kind_in (expression y)) x

  pub data Agrees (f : Found) (x : Option Expr) : Type 0 where
    right : (kind : RawKind) (y : Kind) (z : Expr) → f ≡ of_kind kind → x ≡ Some z → kind_in (expression z) ≡ Some y → named_kind g.sorts kind ≡ Some y → Agrees f x
    wrong : (c : Fault) (cs : List Fault) → f.faults ≡ c ∷ cs → kind_given x ≡ None → Agrees f x

  at_wrong : (c : Fault) (x : Option Expr) → kind_given x ≡ None → Agrees (at_fault c) x
  at_wrong c x h = wrong c [] refl h

  -- one more node, whose parts are right
  if_checked : (c : Fault) (b : Bool) (gives : RawKind) (y : Kind) (z : Expr) → named_kind g.sorts gives ≡ Some y → kind_in (expression z) ≡ cond b (Some y) None → Agrees (checked c b gives) (Some z)
  if_checked c true gives y z h e = right gives y z refl refl e h
  if_checked c false gives y z h e = at_wrong c (Some z) e

  -- ---- names

  abbrev places : List Place
  places = places_of g.sorts p

  abbrev occurrences : List Occurrence
  occurrences = occurrences_of sorts P

  abbrev FoundFor : Target → Type 0
  FoundFor t = FoundAt (Stands g.sorts) (is_at t) places occurrences

  -- an occurrence of this number agrees with its place
  occurrence_agrees : (c : Fault) (x : Place) (i : ℕ) (y : Occurrence) → slice_get occurrences i ≡ Some y → Stands g.sorts x y → Agrees (cond x.is_read (of_kind x.kind) (at_fault c)) (Some (e.Occ i))
  occurrence_agrees c x i y at is = by x.is_read refl
    where
      read : (b : Bool) → x.is_read ≡ b → kind_in (expression (e.Occ i)) ≡ cond b (Some y.kind) None
      read b h = ap kind_in (expression-Occ i) ∙ rw (at, is.is_read, h) refl

      by : (b : Bool) → x.is_read ≡ b → Agrees (cond b (of_kind x.kind) (at_fault c)) (Some (e.Occ i))
      by true h = right x.kind y.kind (e.Occ i) refl refl (read true h) is.kind
      by false h = at_wrong c (Some (e.Occ i)) (read false h)

  -- a place that is found, with its number
  place_agrees : (t : _) (c : Fault) (x : Place) (f : Option ℕ → Option Expr) → ((i : ℕ) → f (Some i) ≡ Some (e.Occ i)) → FoundFor t → find (is_at t) places ≡ Some x → Agrees (cond x.is_read (of_kind x.kind) (at_fault c)) (f (number (is_at t) places))
  place_agrees t c x f h (absent fs n) e' = absurd (let both : None ≡ Some x = sym fs ∙ e' in cc)
  place_agrees t c x f h (there i z y fs n at is yes') e' =
      let same : z ≡ x = (let both : Some z ≡ Some x = sym fs ∙ e' in cc) in
      subst (λ o. Agrees (cond x.is_read (of_kind x.kind) (at_fault c)) o) (sym (ap f n ∙ h i)) (occurrence_agrees c x i y at (subst (λ z. Stands g.sorts z y) same is))

  no_place : (t : _) → FoundFor t → find (is_at t) places ≡ None → number (is_at t) places ≡ None
  no_place t (absent fs n) e' = n
  no_place t (there i z y fs n at is yes') e' = absurd (let both : Some z ≡ None = sym fs ∙ e' in cc)

  one_agrees : (n : Name) (m : Means) → find (is_at (alone n)) places ≡ alone_place n m → LeafAt g.sorts sorts named p P head n m → Agrees (read_alone p.name n m) (or_leaf P.kids n (number (is_at (alone n)) places))
  one_agrees n nothing h lf =
      at_wrong (fault unknown p.name n) (or_leaf P.kids n (number (is_at (alone n)) places)) (rw (no_place (alone n) (target_found g.sorts sorts named p P head (alone n)) h, lf) refl)
  one_agrees n (left_attr a) h lf =
      place_agrees (alone n) (fault not_normal p.name n) (own_place a) (or_leaf P.kids n) (λ i. refl) (target_found g.sorts sorts named p P head (alone n)) h
  one_agrees n (leaf kind) h is =
      let none = no_place (alone n) (target_found g.sorts sorts named p P head (alone n)) h in
      rw none (rw (is.at) (right kind is.kind_there (e.Leaf is.number) refl refl (ap kind_in (expression-Leaf is.number) ∙ is.there) is.known))
  one_agrees n (symbol sort) h lf =
      at_wrong (fault not_normal p.name n) (or_leaf P.kids n (number (is_at (alone n)) places)) (rw (no_place (alone n) (target_found g.sorts sorts named p P head (alone n)) h, lf) refl)
  one_agrees n (value kind) h lf =
      place_agrees (alone n) (fault not_normal p.name n) (value_place n kind) (or_leaf P.kids n) (λ i. refl) (target_found g.sorts sorts named p P head (alone n)) h
  one_agrees n (tree sort) h lf =
      place_agrees (alone n) (fault not_normal p.name n) (value_place n (rk.Named sort)) (or_leaf P.kids n) (λ i. refl) (target_found g.sorts sorts named p P head (alone n)) h

  cond-not : (b : Bool) (x y : Found) → cond (not b) x y ≡ cond b y x
  cond-not true x y = refl
  cond-not false x y = refl

  attr_agrees : (c a : Name) (attr : Option RawAttr) → find (is_at (of_symbol c a)) places ≡ option_map (symbol_place c) attr → Agrees (read_attr p.name c a attr) (option_map e.Occ (number (is_at (of_symbol c a)) places))
  attr_agrees c a None h =
      at_wrong (fault_of unknown p.name c a) (option_map e.Occ (number (is_at (of_symbol c a)) places)) (rw (no_place (of_symbol c a) (target_found g.sorts sorts named p P head (of_symbol c a)) h) refl)
  attr_agrees c a (Some attr) h =
      subst (λ f. Agrees f (option_map e.Occ (number (is_at (of_symbol c a)) places))) (cond-not attr.inherited (of_kind attr.kind) (at_fault (fault_of not_normal p.name c a))) (place_agrees (of_symbol c a) (fault_of not_normal p.name c a) (symbol_place c attr) (option_map e.Occ) (λ i. refl) (target_found g.sorts sorts named p P head (of_symbol c a)) h)

  two_agrees : (c a : Name) (missing : Bool) (sort : Option Name) → find (is_at (of_symbol c a)) places ≡ symbol_place_of g.sorts c a sort → Agrees (read_of g.sorts p.name c a missing sort) (option_map e.Occ (number (is_at (of_symbol c a)) places))
  two_agrees c a missing None h =
      at_wrong (fault (cond missing unknown not_normal) p.name c) (option_map e.Occ (number (is_at (of_symbol c a)) places)) (rw (no_place (of_symbol c a) (target_found g.sorts sorts named p P head (of_symbol c a)) h) refl)
  two_agrees c a missing (Some sort) h = attr_agrees c a (attr_in_sort g.sorts sort a) h

  -- ---- operations

  kind_of_op : (op : Op) (z w : Expr) → kind_given (Some (e.Op op z w)) ≡ operated_kind op (kind_in (expression z)) (kind_in (expression w))
  kind_of_op op z w = ap kind_in (expression-Op op z w)

  -- what an operation gives agrees
  operated_agrees : (c : Fault) (op : Op) (a b : RawKind) (u w : Kind) (z : Expr) → IsKind g.sorts a u → IsKind g.sorts b w → kind_in (expression z) ≡ operated_kind op (Some u) (Some w) → Agrees (operated c op a b) (Some z)
  operated_agrees c o.Add a b u w z ha hb h =
      if_checked c (both_are_numbers a b) rk.Int k.Int z refl (h ∙ (if_numbers u w k.Int ∙ ap₂ (λ s t. cond (s && t) (Some k.Int) None) (sym (same_kinds g.sorts a rk.Int u k.Int ha refl)) (sym (same_kinds g.sorts b rk.Int w k.Int hb refl))))
  operated_agrees c o.Sub a b u w z ha hb h =
      if_checked c (both_are_numbers a b) rk.Int k.Int z refl (h ∙ (if_numbers u w k.Int ∙ ap₂ (λ s t. cond (s && t) (Some k.Int) None) (sym (same_kinds g.sorts a rk.Int u k.Int ha refl)) (sym (same_kinds g.sorts b rk.Int w k.Int hb refl))))
  operated_agrees c o.Mul a b u w z ha hb h =
      if_checked c (both_are_numbers a b) rk.Int k.Int z refl (h ∙ (if_numbers u w k.Int ∙ ap₂ (λ s t. cond (s && t) (Some k.Int) None) (sym (same_kinds g.sorts a rk.Int u k.Int ha refl)) (sym (same_kinds g.sorts b rk.Int w k.Int hb refl))))
  operated_agrees c o.Equal a b u w z ha hb h =
      if_checked c (same_raw_kind a b) rk.Bool k.Bool z refl (h ∙ (if_equal (same_kind u w) u ∙ ap (λ t. cond t (Some k.Bool) None) (sym (same_kinds g.sorts a b u w ha hb))))
  operated_agrees c o.Less a b u w z ha hb h =
      if_checked c (both_are_numbers a b) rk.Bool k.Bool z refl (h ∙ (if_numbers u w k.Bool ∙ ap₂ (λ s t. cond (s && t) (Some k.Bool) None) (sym (same_kinds g.sorts a rk.Int u k.Int ha refl)) (sym (same_kinds g.sorts b rk.Int w k.Int hb refl))))

  abbrev op_named : Op → Option Expr → Option Expr → Option Expr
  op_named op x y = option_and_then (λ z. option_map (λ w. e.Op op z w) y) x

  abbrev op_found : Fault → Op → Found → Found → Found
  op_found c op a b = behind (a.faults ++ b.faults) (operation c op a.kind b.kind)

  left_has_none : (op : Op) (x y : Option Expr) → kind_given x ≡ None → kind_given (op_named op x y) ≡ None
  left_has_none op None y h = refl
  left_has_none op (Some z) None h = refl
  left_has_none op (Some z) (Some w) h = kind_of_op op z w ∙ rw h (none_left op (kind_in (expression w)))

  right_has_none : (op : Op) (z : Expr) (u : Kind) (y : Option Expr) → kind_in (expression z) ≡ Some u → kind_given y ≡ None → kind_given (op_named op (Some z) y) ≡ None
  right_has_none op z u None hz h = refl
  right_has_none op z u (Some w) hz h = kind_of_op op z w ∙ rw (hz, h) (none_right op u)

  op_agrees : (c : Fault) (op : Op) (a b : Found) (x y : Option Expr) → Agrees a x → Agrees b y → Agrees (op_found c op a b) (op_named op x y)
  op_agrees c op a b x y (wrong d ds fa h) hb =
      wrong d (ds ++ b.faults ++ (operation c op a.kind b.kind).faults) (rw fa refl) (left_has_none op x y h)
  op_agrees c op a b x y (right ka u z fa nx kx is) (wrong d ds fb h) =
      wrong d (ds ++ (operation c op a.kind b.kind).faults) (rw (fa, fb) refl) (rw nx (right_has_none op z u y kx h))
  op_agrees c op a b x y (right ka u z fa nx kx is) (right kb w z' fb ny ky is') =
      rw (fa, fb, nx, ny) (operated_agrees c op ka kb u w (e.Op op z z') is is' (kind_of_op op z z' ∙ rw (kx, ky) refl))

  -- ---- choices

  abbrev if_kind : Option Kind → Option Kind → Option Kind → Option Kind
  if_kind c a b = option_and_then (λ x. cond (same_kind x k.Bool) (common_kind a b) None) c

  abbrev if_named : Option Expr → Option Expr → Option Expr → Option Expr
  if_named c a b = option_and_then (λ x. option_and_then (λ y. option_map (λ z. e.If x y z) b) a) c

  abbrev if_found : Fault → Found → Found → Found → Found
  if_found d c a b = behind (c.faults ++ (a.faults ++ b.faults)) (choice d c.kind a.kind b.kind)

  kind_of_if : (x y z : Expr) → kind_given (Some (e.If x y z)) ≡ if_kind (kind_in (expression x)) (kind_in (expression y)) (kind_in (expression z))
  kind_of_if x y z = ap kind_in (expression-If x y z)

  abbrev no_kind : Option Kind
  no_kind = None

  no_common : (b : Bool) → cond b no_kind no_kind ≡ no_kind
  no_common true = refl
  no_common false = refl

  test_has_none : (x y z : Option Expr) → kind_given x ≡ None → kind_given (if_named x y z) ≡ None
  test_has_none None y z h = refl
  test_has_none (Some x) None z h = refl
  test_has_none (Some x) (Some y) None h = refl
  test_has_none (Some x) (Some y) (Some z) h = kind_of_if x y z ∙ rw h refl

  first_has_none : (x : Expr) (u : Kind) (y z : Option Expr) → kind_in (expression x) ≡ Some u → kind_given y ≡ None → kind_given (if_named (Some x) y z) ≡ None
  first_has_none x u None z hx h = refl
  first_has_none x u (Some y) None hx h = refl
  first_has_none x u (Some y) (Some z) hx h = kind_of_if x y z ∙ rw (hx, h) (no_common (same_kind u k.Bool))

  second_has_none : (x y : Expr) (u w : Kind) (z : Option Expr) → kind_in (expression x) ≡ Some u → kind_in (expression y) ≡ Some w → kind_given z ≡ None → kind_given (if_named (Some x) (Some y) z) ≡ None
  second_has_none x y u w None hx hy h = refl
  second_has_none x y u w (Some z) hx hy h = kind_of_if x y z ∙ rw (hx, hy, h) (no_common (same_kind u k.Bool))

  if_same : (s t : Bool) (w : Kind) → cond s (cond t (Some w) None) None ≡ cond (s && t) (Some w) None
  if_same true t w = refl
  if_same false t w = refl

  if_agrees : (d : Fault) (c a b : Found) (x y z : Option Expr) → Agrees c x → Agrees a y → Agrees b z → Agrees (if_found d c a b) (if_named x y z)
  if_agrees d c a b x y z (wrong f fs fc h) ha hb =
      wrong f (fs ++ (a.faults ++ b.faults) ++ (choice d c.kind a.kind b.kind).faults) (rw fc refl) (test_has_none x y z h)
  if_agrees d c a b x y z (right kc u ex fc nx kx is) (wrong f fs fa h) hb =
      wrong f (fs ++ b.faults ++ (choice d c.kind a.kind b.kind).faults) (rw (fc, fa) refl) (rw nx (first_has_none ex u y z kx h))
  if_agrees d c a b x y z (right kc u ex fc nx kx is) (right ka w ey fa ny ky is') (wrong f fs fb h) =
      wrong f (fs ++ (choice d c.kind a.kind b.kind).faults) (rw (fc, fa, fb) refl) (rw (nx, ny) (second_has_none ex ey u w z kx ky h))
  if_agrees d c a b x y z (right kc u ex fc nx kx is) (right ka w ey fa ny ky is') (right kb t ez fb nz kz is'') =
      rw (fc, fa, fb, nx, ny, nz) (if_checked d (same_raw_kind kc rk.Bool && same_raw_kind ka kb) ka w (e.If ex ey ez) is' (kind_of_if ex ey ez ∙ (rw (kx, ky, kz) (if_same (same_kind u k.Bool) (same_kind w t) w) ∙ ap₂ (λ s t. cond (s && t) (Some w) None) (sym (same_kinds g.sorts kc rk.Bool u k.Bool is refl)) (sym (same_kinds g.sorts ka kb w t is' is'')))))

  -- ---- constructors

  abbrev row_of : List Expr → Expressions
  row_of es = expression_row (map expression es)

  abbrev kinds_of : List Expr → List Kid → Bool
  kinds_of es kids = have_kinds prods occurrences P.kids (row_of es) kids

  abbrev faults_of : List Found → List Fault
  faults_of fs = flat_map (λ (x : Found). x.faults) fs

  data ArgsAgree (fs : List Found) (xs : List (Option Expr)) : Type 0 where
    all_right : (es : List Expr) → faults_of fs ≡ [] → each_some xs ≡ Some es → ((raws : List RawKid) (kids : List Kid) → Each (IsKid g.sorts) raws kids → are_right fs raws ≡ kinds_of es kids) → ArgsAgree fs xs
    unnamed : (c : Fault) (cs : List Fault) → faults_of fs ≡ c ∷ cs → each_some xs ≡ None → ArgsAgree fs xs
    one_wrong : (c : Fault) (cs : List Fault) (es : List Expr) → faults_of fs ≡ c ∷ cs → each_some xs ≡ Some es → ((kids : List Kid) → kinds_of es kids ≡ false) → ArgsAgree fs xs

  wrong_first : (f : Found) (fs : List Found) (x : Option Expr) (xs : List (Option Expr)) (c : Fault) (cs : List Fault) → f.faults ≡ c ∷ cs → kind_given x ≡ None → (o : Option (List Expr)) → each_some xs ≡ o → ArgsAgree (f ∷ fs) (x ∷ xs)
  wrong_first f fs None xs c cs e' h o is = unnamed c (cs ++ faults_of fs) (rw e' refl) refl
  wrong_first f fs (Some z) xs c cs e' h None is = unnamed c (cs ++ faults_of fs) (rw e' refl) (rw is refl)
  wrong_first f fs (Some z) xs c cs e' h (Some es) is = one_wrong c (cs ++ faults_of fs) (z ∷ es) (rw e' refl) (rw is refl) none
    where
      none : (kids : List Kid) → kinds_of (z ∷ es) kids ≡ false
      none [] = refl
      none (kid ∷ kids) = rw h refl

  args_more : (f : Found) (fs : List Found) (x : Option Expr) (xs : List (Option Expr)) → Agrees f x → ArgsAgree fs xs → ArgsAgree (f ∷ fs) (x ∷ xs)
  args_more f fs x xs (wrong c cs e' h) rest = wrong_first f fs x xs c cs e' h (each_some xs) refl
  args_more f fs x xs (right kind u z ff nx kx is) (unnamed c cs e' n) = unnamed c cs (rw ff e') (rw (nx, n) refl)
  args_more f fs x xs (right kind u z ff nx kx is) (one_wrong c cs es e' n none) =
      one_wrong c cs (z ∷ es) (rw ff e') (rw (nx, n) refl) none'
    where
      none' : (kids : List Kid) → kinds_of (z ∷ es) kids ≡ false
      none' [] = refl
      none' (kid ∷ kids) = and_right (option_map_or (λ x. same_kind x kid.kind) (kind_in (expression z)) false) (kinds_of es kids) (none kids)
  args_more f fs x xs (right kind u z ff nx kx is) (all_right es e' n same) =
      all_right (z ∷ es) (rw ff e') (rw (nx, n) refl) same'
    where
      same' : (raws : List RawKid) (kids : List Kid) → Each (IsKid g.sorts) raws kids → are_right (f ∷ fs) raws ≡ kinds_of (z ∷ es) kids
      same' [] [] h = refl
      same' [] (b ∷ kids) h = absurd h
      same' (a ∷ raws) [] h = absurd h
      same' (a ∷ raws) (b ∷ kids) h = rw (ff, kx) (ap₂ ◌&&◌ (same_kinds g.sorts kind a.kind u b.kind is (h.0).kind) (same raws kids h.1))

  no_args : (raws : List RawKid) (kids : List Kid) → Each (IsKid g.sorts) raws kids → are_right [] raws ≡ kinds_of [] kids
  no_args [] [] h = refl
  no_args [] (b ∷ kids) h = absurd h
  no_args (a ∷ raws) [] h = absurd h
  no_args (a ∷ raws) (b ∷ kids) h = refl

  args_agree : (c : Fault) (args : List RawExpr) → Every (λ x. Agrees (found_of g p c x) (named_expr known x)) args → ArgsAgree (map (found_of g p c) args) (map (named_expr known) args)
  args_agree c [] h = all_right [] refl refl no_args
  args_agree c (x ∷ args) h =
      args_more (found_of g p c x) (map (found_of g p c) args) (named_expr known x) (map (named_expr known) args) h.0 (args_agree c args h.1)

  abbrev make_named : List (Option Expr) → Option ℕ → Option Expr
  make_named xs q = option_and_then (λ p. option_map (λ es. e.Make p es) (each_some xs)) q

  abbrev IsMade : RawProd → Production → Type 0
  IsMade q Q = Head g.sorts q Q.left Q.kids Q.extras

  kind_of_make : (i : ℕ) (Q : Production) (es : List Expr) → slice_get prods i ≡ Some Q → kind_given (Some (e.Make i es)) ≡ cond (kinds_of es Q.kids) (Some (k.Sort Q.left)) None
  kind_of_make i Q es at = ap kind_in (expression-Make i es) ∙ rw at refl

  make_agrees : (c : Fault) (n : Name) (fs : List Found) (xs : List (Option Expr)) → ArgsAgree fs xs → FoundAt IsMade (λ (q : RawProd). bytes_eq q.name n) g.prods prods →
      Agrees (behind (faults_of fs) (constructed c p.name n fs (find (λ (q : RawProd). bytes_eq q.name n) g.prods))) (make_named xs (number (λ (q : RawProd). bytes_eq q.name n) g.prods))
  make_agrees c n fs xs (all_right es e' na same) (absent f m) = rw (e', f, m) (at_wrong (fault unknown p.name n) None refl)
  make_agrees c n fs xs (unnamed d ds e' na) (absent f m) = rw (f, m) (wrong d (ds ++ fault unknown p.name n ∷ []) (rw e' refl) refl)
  make_agrees c n fs xs (one_wrong d ds es e' na none) (absent f m) = rw (f, m) (wrong d (ds ++ fault unknown p.name n ∷ []) (rw e' refl) refl)
  make_agrees c n fs xs (all_right es e' na same) (there i q Q f m at is yes') =
      rw (e', f, m, na) (if_checked c (are_right fs q.kids) (rk.Named q.left) (k.Sort Q.left) (e.Make i es) (rw (is.of_left) refl) (kind_of_make i Q es at ∙ ap (λ t. cond t (Some (k.Sort Q.left)) None) (sym (same q.kids Q.kids (are_kids g.sorts q.kids Q.kids is.of_kids)))))
  make_agrees c n fs xs (unnamed d ds e' na) (there i q Q f m at is yes') =
      rw (f, m, na) (wrong d (ds ++ (checked c (are_right fs q.kids) (rk.Named q.left)).faults) (rw e' refl) refl)
  make_agrees c n fs xs (one_wrong d ds es e' na none) (there i q Q f m at is yes') =
      rw (f, m, na) (wrong d (ds ++ (checked c (are_right fs q.kids) (rk.Named q.left)).faults) (rw e' refl) (kind_of_make i Q es at ∙ ap (λ t. cond t (Some (k.Sort Q.left)) None) (none Q.kids)))

  -- ---- all expressions

  module _ (c : Fault) where
    abbrev AgreesAt : RawExpr → Type 0
    AgreesAt x = Agrees (found_of g p c x) (named_expr known x)

    one_at : (n : Name) → AgreesAt (v.One n)
    one_at n =
        rw (found_of-One g p c n, named_expr-One known n, occurrence_at g.sorts sorts named p P head (alone n)) (one_agrees n (means g.sorts p n) (find_alone g.sorts p head.distinct n) (leaf_of_name g.sorts sorts named p P head n))

    two_at : (s a : Name) → AgreesAt (v.Two s a)
    two_at s a =
        rw (found_of-Two g p c s a, named_expr-Two known s a, occurrence_at g.sorts sorts named p P head (of_symbol s a)) (two_agrees s a (is_nothing (means g.sorts p s)) (symbol_sort (means g.sorts p s)) (find_symbol g.sorts p head.distinct s a))

    make_at : (n : Name) (args : List RawExpr) → Every AgreesAt args → AgreesAt (v.Make n args)
    make_at n args h =
        rw (found_of-Make g p c n args, named_expr-Make known n args, position-number (λ (q : RawProd). bytes_eq q.name n) g.prods) (make_agrees c n (map (found_of g p c) args) (map (named_expr known) args) (args_agree c args h) (found_at IsMade (λ (q : RawProd). bytes_eq q.name n) g.prods prods made))

    pub agrees : (x : RawExpr) → AgreesAt x
    agrees = by_variant AgreesAt (record {
      at_int = λ i. right rk.Int k.Int (e.Int i) (found_of-Int g p c i) (named_expr-Int known i) (ap kind_in (expression-Int i)) refl;
      at_bool = λ b. right rk.Bool k.Bool (e.Bool b) (found_of-Bool g p c b) (named_expr-Bool known b) (ap kind_in (expression-Bool b)) refl;
      at_name = λ n. right rk.Name k.Name (e.Name n) (found_of-Name g p c n) (named_expr-Name known n) (ap kind_in (expression-Name n)) refl;
      at_one = one_at;
      at_two = two_at;
      at_op = λ op a b ha hb. rw (found_of-Op g p c op a b, named_expr-Op known op a b) (op_agrees c op (found_of g p c a) (found_of g p c b) (named_expr known a) (named_expr known b) ha hb);
      at_if = λ t a b ht ha hb. rw (found_of-If g p c t a b, named_expr-If known t a b) (if_agrees c (found_of g p c t) (found_of g p c a) (found_of g p c b) (named_expr known t) (named_expr known a) (named_expr known b) ht ha hb);
      at_make = make_at;
    })
