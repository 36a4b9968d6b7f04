-- The faults of a grammar as it is written, all of them in order: the first is the one that is answered.
--
-- Behind a fault more may stand that would not be there without it; only the first of the list is told.
use Rattle.std.specs.Prelude.{ℕ, Bool, true, false, not, ◌&&◌, List, [], ◌∷◌, ◌++◌, map, flat_map, find, Option, Some, None, is_none, bytes_eq, cond, codes}
use Rattle.std.specs.List.{list_any}
use Rattle.lrc_base.specs.declared.expr.Op.{Op}
use Rattle.lrc_base.specs.declared.expr.Op.TheVariants as o
use Rattle.lrc_base.specs.declared.raw.RawKind.{RawKind}
use Rattle.lrc_base.specs.declared.raw.RawKind.TheVariants as rk
use Rattle.lrc_base.specs.declared.raw.RawAttr.{RawAttr}
use Rattle.lrc_base.specs.declared.raw.RawSort.{RawSort}
use Rattle.lrc_base.specs.declared.raw.RawKid.{RawKid}
use Rattle.lrc_base.specs.declared.raw.RawPiece.{RawPiece}
use Rattle.lrc_base.specs.declared.raw.RawPiece.TheVariants as piece
use Rattle.lrc_base.specs.declared.raw.RawItem.{RawItem}
use Rattle.lrc_base.specs.declared.raw.RawItem.TheVariants as item
use Rattle.lrc_base.specs.declared.raw.RawProd.{RawProd}
use Rattle.lrc_base.specs.declared.raw.RawGrammar.{RawGrammar}
use Rattle.lrc_base.specs.declared.raw.RawExpr.{RawExpr}
use Rattle.lrc_base.specs.declared.raw.RawExpr.TheOpen.{RawExpr-F}
use Rattle.lrc_base.specs.declared.raw.RawExpr.TheFolds.{fold-RawExpr}
use Rattle.lrc_meaning.specs.Naming.{sort_number, same_owner}

pub data FaultKind : Type 0 where
  twice : FaultKind
  unknown : FaultKind
  missing_equation : FaultKind
  double_equation : FaultKind
  not_normal : FaultKind
  wrong_kind : FaultKind
  start_inherits : FaultKind

abbrev pub Name : Type 0
Name = List ℕ

-- a fault: its kind, the sort or production or the word `start` where it stands, and the name at fault, of `c.a` with
-- its `c` where the `a` is at fault
pub record Fault : Type 0 where
  pub kind : FaultKind
  pub place : Name
  pub owner : Option Name
  pub name : Name

abbrev pub fault : FaultKind → Name → Name → Fault
fault kind place name = record { kind = kind; place = place; owner = None; name = name }

abbrev pub fault_of : FaultKind → Name → Name → Name → Fault
fault_of kind place owner name = record { kind = kind; place = place; owner = Some owner; name = name }

-- the faults of each item, by what stands before it
abbrev pub each_after : {A : Type 0} → (List A → A → List Fault) → List A → List A → List Fault
each_after f before [] = []
each_after f before (x ∷ xs) = f before x ++ each_after f (before ++ x ∷ []) xs

-- the fault, where it is one
abbrev pub where_true : Bool → Fault → List Fault
where_true b f = cond b (f ∷ []) []

abbrev pub is_among : List Name → Name → Bool
is_among names n = list_any (bytes_eq n) names

-- ---- sorts

abbrev pub kind_faults : List RawSort → Name → RawKind → List Fault
kind_faults sorts place rk.Int = []
kind_faults sorts place rk.Bool = []
kind_faults sorts place rk.Name = []
kind_faults sorts place (rk.Named n) = where_true (is_none (sort_number sorts n)) (fault unknown place n)

abbrev pub attr_faults : List RawSort → Name → List RawAttr → RawAttr → List Fault
attr_faults sorts place before a =
    where_true (is_among (map (λ (b : RawAttr). b.name) before) a.name) (fault twice place a.name) ++ kind_faults sorts place a.kind

abbrev pub sort_faults : List RawSort → List RawSort → RawSort → List Fault
sort_faults sorts before s =
    where_true (is_among (map (λ (t : RawSort). t.name) before) s.name) (fault twice s.name s.name)
    ++ each_after (attr_faults sorts s.name) [] s.attrs

-- ---- the heads of productions

abbrev pub attrs_in : Option RawSort → List RawAttr
attrs_in None = []
attrs_in (Some s) = s.attrs

-- the attributes of the sort of this name
abbrev pub attrs_named : List RawSort → Name → List RawAttr
attrs_named sorts n = attrs_in (find (λ (s : RawSort). bytes_eq s.name n) sorts)

abbrev pub attr_names : List RawSort → Name → List Name
attr_names sorts n = map (λ (a : RawAttr). a.name) (attrs_named sorts n)

abbrev pub kid_names : List RawKid → List Name
kid_names kids = map (λ (k : RawKid). k.name) kids

abbrev pub kid_faults : List RawSort → RawProd → List RawKid → RawKid → List Fault
kid_faults sorts p before kid =
    where_true (is_among (attr_names sorts p.left ++ kid_names before) kid.name) (fault twice p.name kid.name)
    ++ kind_faults sorts p.name kid.kind

abbrev pub head_faults : List RawSort → List RawProd → RawProd → List Fault
head_faults sorts before p =
    where_true (is_among (map (λ (q : RawProd). q.name) before) p.name) (fault twice p.name p.name)
    ++ (where_true (is_none (sort_number sorts p.left)) (fault unknown p.name p.left) ++ each_after (kid_faults sorts p) [] p.kids)

-- ---- the start

abbrev pub first_inherited : Name → List RawAttr → List Fault
first_inherited place [] = []
first_inherited place (a ∷ rest) = cond a.inherited (fault start_inherits place a.name ∷ []) (first_inherited place rest)

abbrev pub start_faults : List RawSort → Name → List Fault
start_faults sorts start =
    where_true (is_none (sort_number sorts start)) (fault unknown (codes "start") start) ++ first_inherited (codes "start") (attrs_named sorts start)

-- ---- locals, nonterminal attributes and patterns

-- a local's name and kind, or a nonterminal attribute's name and sort
pub data Declared : Type 0 where
  local : Name → RawKind → Declared
  attached : Name → Name → Declared

-- what an item declares
abbrev pub declared_by : RawItem → List Declared
declared_by (item.Local n kind x) = local n kind ∷ []
declared_by (item.Attach n sort x) = attached n sort ∷ []
declared_by (item.Own n x) = []
declared_by (item.OfKid c n x) = []
declared_by (item.Pattern pieces) = []

abbrev pub declared_name : Declared → Name
declared_name (local n kind) = n
declared_name (attached n sort) = n

abbrev pub is_pattern : RawItem → Bool
is_pattern (item.Local n kind x) = false
is_pattern (item.Attach n sort x) = false
is_pattern (item.Own n x) = false
is_pattern (item.OfKid c n x) = false
is_pattern (item.Pattern pieces) = true

-- the names of a production before an item: left attributes, children, earlier locals and nonterminal attributes
abbrev pub names_before : List RawSort → RawProd → List RawItem → List Name
names_before sorts p before =
    attr_names sorts p.left ++ (kid_names p.kids ++ map declared_name (flat_map declared_by before))

abbrev pub declaration_faults : List RawSort → RawProd → List RawItem → RawItem → List Fault
declaration_faults sorts p before (item.Local n kind x) =
    where_true (is_among (names_before sorts p before) n) (fault twice p.name n) ++ kind_faults sorts p.name kind
declaration_faults sorts p before (item.Attach n sort x) =
    where_true (is_among (names_before sorts p before) n) (fault twice p.name n) ++ kind_faults sorts p.name (rk.Named sort)
declaration_faults sorts p before (item.Own n x) = []
declaration_faults sorts p before (item.OfKid c n x) = []
declaration_faults sorts p before (item.Pattern pieces) = where_true (list_any is_pattern before) (fault twice p.name (codes "text"))

-- ---- what a name means in a production

-- a symbol is told with its sort
pub data Means : Type 0 where
  nothing : Means
  left_attr : RawAttr → Means
  leaf : RawKind → Means
  symbol : Name → Means
  value : RawKind → Means
  tree : Name → Means

abbrev pub kid_means : RawKid → RawKind → Means
kid_means kid rk.Int = leaf rk.Int
kid_means kid rk.Bool = leaf rk.Bool
kid_means kid rk.Name = leaf rk.Name
kid_means kid (rk.Named n) = symbol n

abbrev pub declared_means : Option Declared → Means
declared_means None = nothing
declared_means (Some (local n kind)) = value kind
declared_means (Some (attached n sort)) = tree sort

abbrev pub kid_or_declared : Option RawKid → Option Declared → Means
kid_or_declared (Some kid) declared = kid_means kid kid.kind
kid_or_declared None declared = declared_means declared

abbrev pub left_or_other : Option RawAttr → Means → Means
left_or_other (Some a) other = left_attr a
left_or_other None other = other

abbrev pub means : List RawSort → RawProd → Name → Means
means sorts p n =
    left_or_other (find (λ (a : RawAttr). bytes_eq a.name n) (attrs_named sorts p.left))
    (kid_or_declared (find (λ (k : RawKid). bytes_eq k.name n) p.kids) (find (λ d. bytes_eq (declared_name d) n) (flat_map declared_by p.items)))

-- the sort of a symbol: a child that is a tree, or a nonterminal attribute
abbrev pub symbol_sort : Means → Option Name
symbol_sort nothing = None
symbol_sort (left_attr a) = None
symbol_sort (leaf kind) = None
symbol_sort (symbol n) = Some n
symbol_sort (value kind) = None
symbol_sort (tree n) = Some n

abbrev pub is_nothing : Means → Bool
is_nothing nothing = true
is_nothing (left_attr a) = false
is_nothing (leaf kind) = false
is_nothing (symbol n) = false
is_nothing (value kind) = false
is_nothing (tree n) = false

-- ---- expressions

-- what is found of an expression: its faults, and its kind where that is known
pub record Found : Type 0 where
  pub faults : List Fault
  pub kind : Option RawKind

abbrev pub at_fault : Fault → Found
at_fault f = record { faults = f ∷ []; kind = None }

abbrev pub of_kind : RawKind → Found
of_kind kind = record { faults = []; kind = Some kind }

-- a fault of a node behind those of its parts
abbrev pub behind : List Fault → Found → Found
behind faults found = record found { faults = faults ++ found.faults }

abbrev pub same_kind : RawKind → RawKind → Bool
same_kind rk.Int rk.Int = true
same_kind rk.Int rk.Bool = false
same_kind rk.Int rk.Name = false
same_kind rk.Int (rk.Named n) = false
same_kind rk.Bool rk.Int = false
same_kind rk.Bool rk.Bool = true
same_kind rk.Bool rk.Name = false
same_kind rk.Bool (rk.Named n) = false
same_kind rk.Name rk.Int = false
same_kind rk.Name rk.Bool = false
same_kind rk.Name rk.Name = true
same_kind rk.Name (rk.Named n) = false
same_kind (rk.Named m) rk.Int = false
same_kind (rk.Named m) rk.Bool = false
same_kind (rk.Named m) rk.Name = false
same_kind (rk.Named m) (rk.Named n) = bytes_eq m n

-- a name alone: what is read is an inherited left attribute, a leaf, a local, or a nonterminal attribute's tree
abbrev pub read_alone : Name → Name → Means → Found
read_alone place n nothing = at_fault (fault unknown place n)
read_alone place n (left_attr a) = cond a.inherited (of_kind a.kind) (at_fault (fault not_normal place n))
read_alone place n (leaf kind) = of_kind kind
read_alone place n (symbol sort) = at_fault (fault not_normal place n)
read_alone place n (value kind) = of_kind kind
read_alone place n (tree sort) = of_kind (rk.Named sort)

-- an attribute of a symbol: what is read is synthesised
abbrev pub read_attr : Name → Name → Name → Option RawAttr → Found
read_attr place c a None = at_fault (fault_of unknown place c a)
read_attr place c a (Some attr) = cond attr.inherited (at_fault (fault_of not_normal place c a)) (of_kind attr.kind)

abbrev pub attr_in_sort : List RawSort → Name → Name → Option RawAttr
attr_in_sort sorts sort a = find (λ (b : RawAttr). bytes_eq b.name a) (attrs_named sorts sort)

abbrev pub read_of : List RawSort → Name → Name → Name → Bool → Option Name → Found
read_of sorts place c a missing (Some sort) = read_attr place c a (attr_in_sort sorts sort a)
read_of sorts place c a missing None = at_fault (fault (cond missing unknown not_normal) place c)

-- two operands of these kinds, and what is then given; no fault where one is not known, which has a fault before
abbrev pub checked : Fault → Bool → RawKind → Found
checked wrong right gives = cond right (of_kind gives) (at_fault wrong)

abbrev pub both_are_numbers : RawKind → RawKind → Bool
both_are_numbers a b = same_kind a rk.Int && same_kind b rk.Int

abbrev pub operated : Fault → Op → RawKind → RawKind → Found
operated wrong o.Add a b = checked wrong (both_are_numbers a b) rk.Int
operated wrong o.Sub a b = checked wrong (both_are_numbers a b) rk.Int
operated wrong o.Mul a b = checked wrong (both_are_numbers a b) rk.Int
operated wrong o.Less a b = checked wrong (both_are_numbers a b) rk.Bool
operated wrong o.Equal a b = checked wrong (same_kind a b) rk.Bool

abbrev pub not_known : Found
not_known = record { faults = []; kind = None }

abbrev pub operation : Fault → Op → Option RawKind → Option RawKind → Found
operation wrong op (Some a) (Some b) = operated wrong op a b
operation wrong op (Some a) None = not_known
operation wrong op None b = not_known

-- a truth value, and two of one kind
abbrev pub choice : Fault → Option RawKind → Option RawKind → Option RawKind → Found
choice wrong (Some c) (Some a) (Some b) = checked wrong (same_kind c rk.Bool && same_kind a b) a
choice wrong (Some c) (Some a) None = not_known
choice wrong (Some c) None b = not_known
choice wrong None a b = not_known

abbrev pub is_right : Option RawKind → RawKind → Bool
is_right None kind = true
is_right (Some found) kind = same_kind found kind

-- the arguments are as many as the children, and of their kinds as far as they are known
abbrev pub are_right : List Found → List RawKid → Bool
are_right [] [] = true
are_right [] (kid ∷ kids) = false
are_right (x ∷ xs) [] = false
are_right (x ∷ xs) (kid ∷ kids) = is_right x.kind kid.kind && are_right xs kids

abbrev pub constructed : Fault → Name → Name → List Found → Option RawProd → Found
constructed wrong place n args None = at_fault (fault unknown place n)
constructed wrong place n args (Some q) = checked wrong (are_right args q.kids) (rk.Named q.left)

-- one node, with what is found of its parts in their places; `wrong` is the fault where kinds do not agree
abbrev pub found_step : RawGrammar → RawProd → Fault → RawExpr-F Found → Found
found_step g p wrong (RawExpr-F.Int i) = of_kind rk.Int
found_step g p wrong (RawExpr-F.Bool b) = of_kind rk.Bool
found_step g p wrong (RawExpr-F.Name n) = of_kind rk.Name
found_step g p wrong (RawExpr-F.One n) = read_alone p.name n (means g.sorts p n)
found_step g p wrong (RawExpr-F.Two c a) = read_of g.sorts p.name c a (is_nothing (means g.sorts p c)) (symbol_sort (means g.sorts p c))
found_step g p wrong (RawExpr-F.Op op a b) = behind (a.faults ++ b.faults) (operation wrong op a.kind b.kind)
found_step g p wrong (RawExpr-F.If c a b) = behind (c.faults ++ (a.faults ++ b.faults)) (choice wrong c.kind a.kind b.kind)
found_step g p wrong (RawExpr-F.Make n args) =
    behind (flat_map (λ (x : Found). x.faults) args) (constructed wrong p.name n args (find (λ (q : RawProd). bytes_eq q.name n) g.prods))

unfoldable pub found_of : RawGrammar → RawProd → Fault → RawExpr → Found
found_of g p wrong = fold-RawExpr Found (found_step g p wrong)

-- last, the whole is of the target's kind
abbrev pub kind_agrees : Fault → RawKind → Option RawKind → List Fault
kind_agrees wrong kind None = []
kind_agrees wrong kind (Some found) = where_true (not (same_kind found kind)) wrong

abbrev pub expr_faults : RawGrammar → RawProd → Fault → RawKind → RawExpr → List Fault
expr_faults g p wrong kind x = (found_of g p wrong x).faults ++ kind_agrees wrong kind (found_of g p wrong x).kind

-- ---- equations

-- a target: its symbol, none for the left side, and its attribute
pub record Target : Type 0 where
  pub owner : Option Name
  pub name : Name

abbrev pub same_target : Target → Target → Bool
same_target s t = same_owner s.owner t.owner && bytes_eq s.name t.name

-- the targets of equations of attributes
abbrev pub target_of : RawItem → List Target
target_of (item.Local n kind x) = []
target_of (item.Attach n sort x) = []
target_of (item.Own n x) = record { owner = None; name = n } ∷ []
target_of (item.OfKid c n x) = record { owner = Some c; name = n } ∷ []
target_of (item.Pattern pieces) = []

abbrev pub has_target : List RawItem → Target → Bool
has_target items t = list_any (same_target t) (flat_map target_of items)

abbrev pub target_fault : FaultKind → Name → Target → Fault
target_fault kind place t = record { kind = kind; place = place; owner = t.owner; name = t.name }

-- an equation whose target is of this kind
abbrev pub equation_faults : RawGrammar → RawProd → List RawItem → Target → RawKind → RawExpr → List Fault
equation_faults g p before t kind x =
    where_true (has_target before t) (target_fault double_equation p.name t)
    ++ expr_faults g p (target_fault wrong_kind p.name t) kind x

-- what is defined of the left side is synthesised
abbrev pub own_equation : RawGrammar → RawProd → List RawItem → Name → RawExpr → Means → List Fault
own_equation g p before n x nothing = fault unknown p.name n ∷ []
own_equation g p before n x (left_attr a) =
    cond a.inherited (fault not_normal p.name n ∷ []) (equation_faults g p before (record { owner = None; name = n }) a.kind x)
own_equation g p before n x (leaf kind) = fault not_normal p.name n ∷ []
own_equation g p before n x (symbol sort) = fault not_normal p.name n ∷ []
own_equation g p before n x (value kind) = fault not_normal p.name n ∷ []
own_equation g p before n x (tree sort) = fault not_normal p.name n ∷ []

-- what is defined of a symbol is inherited
abbrev pub attr_equation : RawGrammar → RawProd → List RawItem → Name → Name → RawExpr → Option RawAttr → List Fault
attr_equation g p before c a x None = fault_of unknown p.name c a ∷ []
attr_equation g p before c a x (Some attr) =
    cond attr.inherited (equation_faults g p before (record { owner = Some c; name = a }) attr.kind x) (fault_of not_normal p.name c a ∷ [])

abbrev pub symbol_equation : RawGrammar → RawProd → List RawItem → Name → Name → RawExpr → Bool → Option Name → List Fault
symbol_equation g p before c a x missing (Some sort) = attr_equation g p before c a x (attr_in_sort g.sorts sort a)
symbol_equation g p before c a x missing None = fault (cond missing unknown not_normal) p.name c ∷ []

abbrev pub piece_faults : RawProd → RawPiece → List Fault
piece_faults p (piece.Text bytes) = []
piece_faults p (piece.Kid n) = where_true (not (is_among (kid_names p.kids) n)) (fault unknown p.name n)

abbrev pub item_faults : RawGrammar → RawProd → List RawItem → RawItem → List Fault
item_faults g p before (item.Local n kind x) = expr_faults g p (fault wrong_kind p.name n) kind x
item_faults g p before (item.Attach n sort x) = expr_faults g p (fault wrong_kind p.name n) (rk.Named sort) x
item_faults g p before (item.Own n x) = own_equation g p before n x (means g.sorts p n)
item_faults g p before (item.OfKid c a x) = symbol_equation g p before c a x (is_nothing (means g.sorts p c)) (symbol_sort (means g.sorts p c))
item_faults g p before (item.Pattern pieces) = flat_map (piece_faults p) pieces

-- a target that is to be defined and has no equation
abbrev pub missing_target : RawProd → Bool → Target → List Fault
missing_target p is_defined t = where_true (is_defined && not (has_target p.items t)) (target_fault missing_equation p.name t)

-- of the left side the synthesised attributes are to be defined, of a symbol the inherited ones
abbrev pub missing_of_left : RawProd → RawAttr → List Fault
missing_of_left p a = missing_target p (not a.inherited) (record { owner = None; name = a.name })

abbrev pub missing_of_symbol : RawProd → Name → RawAttr → List Fault
missing_of_symbol p c a = missing_target p a.inherited (record { owner = Some c; name = a.name })

abbrev pub attrs_of_kind : List RawSort → RawKind → List RawAttr
attrs_of_kind sorts rk.Int = []
attrs_of_kind sorts rk.Bool = []
attrs_of_kind sorts rk.Name = []
attrs_of_kind sorts (rk.Named n) = attrs_named sorts n

abbrev pub missing_of_kid : List RawSort → RawProd → RawKid → List Fault
missing_of_kid sorts p kid = flat_map (missing_of_symbol p kid.name) (attrs_of_kind sorts kid.kind)

abbrev pub missing_of_declared : List RawSort → RawProd → Declared → List Fault
missing_of_declared sorts p (local n kind) = []
missing_of_declared sorts p (attached n sort) = flat_map (missing_of_symbol p n) (attrs_named sorts sort)

-- the occurrences without an equation, in order of their numbers
abbrev pub missing : List RawSort → RawProd → List Fault
missing sorts p =
    flat_map (missing_of_left p) (attrs_named sorts p.left)
    ++ (flat_map (missing_of_kid sorts p) p.kids ++ flat_map (missing_of_declared sorts p) (flat_map declared_by p.items))

abbrev pub body_faults : RawGrammar → RawProd → List Fault
body_faults g p = each_after (item_faults g p) [] p.items ++ missing g.sorts p

-- All faults in order: sorts, heads of productions, the start, what productions declare, and then equations.
abbrev pub faults : RawGrammar → List Fault
faults raw =
    each_after (sort_faults raw.sorts) [] raw.sorts
    ++ (each_after (head_faults raw.sorts) [] raw.prods
    ++ (start_faults raw.sorts raw.start
    ++ (flat_map (λ (p : RawProd). each_after (declaration_faults raw.sorts p) [] p.items) raw.prods ++ flat_map (body_faults raw) raw.prods)))

abbrev pub first : List Fault → Option Fault
first [] = None
first (f ∷ fs) = Some f

-- the first fault of a grammar as it is written, or none
abbrev pub first_fault : RawGrammar → Option Fault
first_fault raw = first (faults raw)
