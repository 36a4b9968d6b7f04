-- The fault that is answered: the first.
use Rattle.std.specs.Prelude.{◌≡◌, Bool, false, List, [], ◌∷◌, ◌++◌, flat_map, Option, Some, None, codes, Result, Ok, Err, MatchResult}
use Rattle.lrc_base.specs.declared.raw.RawProd.{RawProd}
use Rattle.lrc_base.specs.declared.raw.RawGrammar.{RawGrammar}
use Rattle.lrc_base.specs.declared.raw.RawKind.{RawKind}
use Rattle.lrc_base.specs.declared.raw.RawKid.{RawKid}
use Rattle.lrc_fault_meaning.specs.Faults.{FaultKind, twice, unknown, missing_equation, double_equation, not_normal, wrong_kind, start_inherits, Fault, Found, of_kind, same_kind, are_right, each_after, sort_faults, head_faults, start_faults, declaration_faults}
use Rattle.lrc_check.specs.declared.fault.GrammarKind.{GrammarKind}
use Rattle.lrc_check.specs.declared.fault.GrammarKind.TheVariants as k
use Rattle.lrc_check.specs.declared.fault.GrammarFault.{GrammarFault}

abbrev pub kind_answered : FaultKind → GrammarKind
kind_answered twice = k.Twice
kind_answered unknown = k.Unknown
kind_answered missing_equation = k.MissingEquation
kind_answered double_equation = k.DoubleEquation
kind_answered not_normal = k.NotNormal
kind_answered wrong_kind = k.WrongKind
kind_answered start_inherits = k.StartInherits

-- a fault as it is answered
abbrev pub answered : Fault → GrammarFault
answered f = record { kind = kind_answered f.kind; place = f.place; owner = f.owner; name = f.name }

-- the answer for want of memory
abbrev pub no_memory : GrammarFault
no_memory = record { kind = k.Memory; place = codes "start"; owner = None; name = codes "start" }

-- all is right where there is no fault, and else the first one is answered
abbrev pub verdict : List Fault → Result (Unit {0}) GrammarFault
verdict [] = Ok tt
verdict (f ∷ fs) = Err (answered f)

-- what is found of an expression: its kind, or the first fault
abbrev pub Finds : Found → Result RawKind GrammarFault → Type 0
Finds found r = MatchResult r (λ kind. found ≡ of_kind kind) (λ fault. verdict found.faults ≡ Err fault)

-- what is found of arguments: whether they are right for these children, or the first fault
abbrev pub FindsAll : List Found → List RawKid → Result Bool GrammarFault → Type 0
FindsAll found kids r =
    MatchResult r (λ right. (flat_map (λ (x : Found). x.faults) found ≡ []) × (right ≡ are_right found kids)) (λ fault. verdict (flat_map (λ (x : Found). x.faults) found) ≡ Err fault)

-- the children of a production; none where there is no production
abbrev pub kids_of : Option RawProd → List RawKid
kids_of None = []
kids_of (Some p) = p.kids

-- there is a child, and it is of this kind
abbrev pub is_of_kind : Option RawKid → RawKind → Bool
is_of_kind None kind = false
is_of_kind (Some kid) kind = same_kind kind kid.kind

-- the faults that stand before those of bodies of productions
abbrev pub name_faults : RawGrammar → List Fault
name_faults raw =
    each_after (sort_faults raw.sorts) [] raw.sorts
    ++ (each_after (head_faults raw.sorts) [] raw.prods
    ++ (start_faults raw.sorts raw.start ++ flat_map (λ (p : RawProd). each_after (declaration_faults raw.sorts p) [] p.items) raw.prods))
