-- From the rules of a command to its arguments.
use Rattle.std.proofs.Common.{◌≡◌, ◌∙◌, ◌<◌, ap, ℕ, zero, suc, Bool, true, false, List, [], ◌∷◌, length, map, refl, sym, arith}
use Rattle.std.specs.List.{All, Any, filter, list_all, slice_index_or}
use Rattle.std.specs.Str.{bytes_eq}
use Rattle.std.proofs.lemmas.Bool.{eqb-true}
use Rattle.std.proofs.lemmas.List.Sums.{AllPass-from_list_all}
use Rattle.std.proofs.lemmas.List.Folds.{list_all-map}
use Rattle.clap.specs.Facts.{WantsDefault}
use Rattle.clap.specs.Texts.{items_of}
use Rattle.clap.specs.Walk.{Rule, Text, is_empty, is_simple_arg, rule_of, texts}
use Rattle.clap.specs.declared.builder.arg.Arg.{Arg}

abbrev head_or : {X : Type 0} → X → List X → X
head_or d [] = d
head_or d (x ∷ xs) = x

abbrev tail_of : {X : Type 0} → List X → List X
tail_of [] = []
tail_of (x ∷ xs) = xs

-- the rules with this id
abbrev pub named : Text → List Rule → List Rule
named id = filter (λ r. bytes_eq r.id id)

pub no_items : {X : Type 0} (xs : List X) → is_empty xs ≡ true → xs ≡ []
no_items [] e = refl
no_items (x ∷ xs) e =
    let none : length (x ∷ xs) ≡ 0 = eqb-true (length (x ∷ xs)) 0 e in
    absurd (omega arith)

-- nothing that passes is left out
none_passes : {X Y : Type 0} (p : Y → Bool) (f : X → Y) (xs : List X) (k : ℕ) (d : X) → filter p (map f xs) ≡ [] → k < length xs
    → p (f (slice_index_or xs k d)) ≡ true → ⊥
none_passes p f [] k d none lt same = absurd (omega arith)
none_passes p f (x ∷ xs) k d none lt same = go (λ j. none_passes p f xs j d) k lt same (p (f x)) refl
  where
    go : ((j : ℕ) → filter p (map f xs) ≡ [] → j < length xs → p (f (slice_index_or xs j d)) ≡ true → ⊥)
        → (j : ℕ) → j < length (x ∷ xs) → p (f (slice_index_or (x ∷ xs) j d)) ≡ true
        → (b : Bool) → p (f x) ≡ b → ⊥
    go rest j low at true is =
        let bad : f x ∷ filter p (map f xs) ≡ [] = rw is at none in
        cc
    go rest zero low at false is =
        let bad : p (f x) ≡ true = at in
        cc
    go rest (suc j) low at false is = rest j (rw is at none) (omega arith) at

-- what passes is the only one that does
only_passes : {X Y : Type 0} (p : Y → Bool) (f : X → Y) (r : Y) (xs : List X) (k : ℕ) (d : X) → filter p (map f xs) ≡ r ∷ []
    → k < length xs → p (f (slice_index_or xs k d)) ≡ true → f (slice_index_or xs k d) ≡ r
only_passes p f r [] k d one lt same = absurd (omega arith)
only_passes p f r (x ∷ xs) k d one lt same = go (λ j. only_passes p f r xs j d) k lt same (p (f x)) refl
  where
    go : ((j : ℕ) → filter p (map f xs) ≡ r ∷ [] → j < length xs → p (f (slice_index_or xs j d)) ≡ true → f (slice_index_or xs j d) ≡ r)
        → (j : ℕ) → j < length (x ∷ xs) → p (f (slice_index_or (x ∷ xs) j d)) ≡ true
        → (b : Bool) → p (f x) ≡ b → f (slice_index_or (x ∷ xs) j d) ≡ r
    go rest zero low at true is =
        let both : f x ∷ filter p (map f xs) ≡ r ∷ [] = rw is at one in
        ap (head_or r) both
    go rest zero low at false is =
        let bad : p (f x) ≡ true = at in
        cc
    go rest (suc j) low at true is =
        let both : f x ∷ filter p (map f xs) ≡ r ∷ [] = rw is at one in
        absurd (none_passes p f xs j d (ap tail_of both) (omega arith) at)
    go rest (suc j) low at false is = rest j (rw is at one) (omega arith) at

nothing_is_not_one : {Y : Type 0} (r : Y) → [] ≡ r ∷ [] → ⊥
nothing_is_not_one r bad = cc

-- and it is there
some_passes : {X Y : Type 0} (p : Y → Bool) (f : X → Y) (r : Y) (xs : List X) → filter p (map f xs) ≡ r ∷ [] → Any (λ a. p (f a) ≡ true) xs
some_passes p f r [] one = absurd (nothing_is_not_one r one)
some_passes p f r (x ∷ xs) one = go (some_passes p f r xs) (p (f x)) refl
  where
    go : (filter p (map f xs) ≡ r ∷ [] → Any (λ a. p (f a) ≡ true) xs) → (b : Bool) → p (f x) ≡ b → Any (λ a. p (f a) ≡ true) (x ∷ xs)
    go more true is = (0, x, omega arith, refl, is)
    go more false is =
        let rest = more (rw is at one) in
        (suc rest.0, rest.1, omega arith, rest.3, rest.4)

-- an argument with the id of one rule has that rule
pub only_rule : (id : Text) (r : Rule) (xs : List Arg) (k : ℕ) (d : Arg) → named id (map rule_of xs) ≡ r ∷ []
    → k < length xs → bytes_eq (slice_index_or xs k d).id.now id ≡ true → rule_of (slice_index_or xs k d) ≡ r
only_rule id = only_passes (λ r. bytes_eq r.id id) rule_of

-- a rule is some argument's
pub rule_has_arg : (id : Text) (r : Rule) (xs : List Arg) → named id (map rule_of xs) ≡ r ∷ []
    → Any (λ a. bytes_eq a.id.now id ≡ true) xs
rule_has_arg id = some_passes (λ r. bytes_eq r.id id) rule_of

-- arguments whose rules are simple are in no group
pub in_no_group : (xs : List Arg) → list_all (λ r. r.is_simple) (map rule_of xs) ≡ true → All (λ a. a.groups.items ≡ []) xs
in_no_group xs simple k d lt =
    let each = AllPass-from_list_all (λ a. is_simple_arg a) xs (sym (list_all-map (λ (r : Rule). r.is_simple) rule_of xs) ∙ simple) k d lt in
    no_items (slice_index_or xs k d).groups.items (grind arith)

-- an argument whose rule is simple and has a default has it under no condition
pub wants_default : (a : Arg) → is_simple_arg a ≡ true → 0 < length (texts (items_of a.default_vals)) → WantsDefault a
wants_default a simple some = (no_items a.default_vals_ifs.items (grind arith), go (items_of a.default_vals) some)
  where
    go : (xs : List _) → 0 < length (texts xs) → 0 < length xs
    go [] h = h
    go (x ∷ xs) h = omega arith
