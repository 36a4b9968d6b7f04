-- What naming answers, beside what the definition gives.
use Rattle.std.specs.Prelude.{◌≡◌, ◌≢◌, List, [], ◌∷◌, Option, Some, None, Result, MatchResult}
use Rattle.lrc_naming.specs.declared.fault.NamingFault.{NamingFault}
use Rattle.lrc_naming.specs.declared.fault.NamingFault.TheVariants as fault

-- what is answered stands for just what is found, and a fault, but want of memory, for none
abbrev pub NamesAs : {A B : Type 0} → (A → B) → Result A NamingFault → Option B → Type 0
NamesAs f r found = MatchResult r (λ named. found ≡ Some (f named)) (λ e. e ≢ fault.Memory → found ≡ None)

-- the same where what is answered is what is found
abbrev pub Names : {A : Type 0} → Result A NamingFault → Option A → Type 0
Names r found = NamesAs (λ named. named) r found

-- what an item is, as the list of it; an item that is something else is nothing
abbrev pub part : {A : Type 0} → Option A → List (Option A)
part None = []
part (Some named) = Some named ∷ []

-- the same of an item, which may be something else
abbrev pub NamesPart : {A : Type 0} → Result (Option A) NamingFault → List (Option A) → Type 0
NamesPart r found = MatchResult r (λ named. found ≡ part named) (λ e. e ≢ fault.Memory → found ≡ None ∷ [])
