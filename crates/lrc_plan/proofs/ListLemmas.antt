-- Lists that are made by mapping and joining.
use Rattle.std.proofs.Common.{◌≡◌, List, [], ◌∷◌, ◌++◌, map, Contains, inl, inr, refl, ap, ◌∙◌, subst}
use Rattle.std.specs.Prelude.{flat_map}
use Rattle.std.proofs.lemmas.List.{map-append}
use Rattle.lrc_order_meaning.proofs.MemberLemmas.{member_first, member_later, member_cases, no_member}

-- functions that agree at the members give the same list
pub map_agree : {X Y : Type 0} (f g : X → Y) (xs : List X) → ((x : X) → Contains xs x → f x ≡ g x) → map f xs ≡ map g xs
map_agree f g [] h = refl
map_agree f g (x ∷ xs) h =
    ap (λ y. y ∷ map f xs) (h x (member_first x xs)) ∙ ap (λ ys. g x ∷ ys) (map_agree f g xs (λ y c. h y (member_later x xs y c)))

-- and are told by it
pub map_told : {X Y : Type 0} (f g : X → Y) (xs : List X) → map f xs ≡ map g xs → (x : X) → Contains xs x → f x ≡ g x
map_told f g [] e x c = absurd (no_member x c)
map_told f g (y ∷ ys) e x c =
    let head : f y ≡ g y = cc in
    let tail : map f ys ≡ map g ys = cc in
    elim (member_cases y ys x c) [
      | inl same ↦ subst (λ z. f z ≡ g z) same head
      | inr later ↦ map_told f g ys tail x later
    ]

pub map_flat : {X Y Z : Type 0} (g : Y → Z) (f : X → List Y) (xs : List X) → map g (flat_map f xs) ≡ flat_map (λ x. map g (f x)) xs
map_flat g f [] = refl
map_flat g f (x ∷ xs) = map-append g (f x) (flat_map f xs) ∙ ap (λ ys. map g (f x) ++ ys) (map_flat g f xs)

pub flat_agree : {X Y : Type 0} (f g : X → List Y) (xs : List X) → ((x : X) → Contains xs x → f x ≡ g x) → flat_map f xs ≡ flat_map g xs
flat_agree f g [] h = refl
flat_agree f g (x ∷ xs) h =
    ap (λ y. y ++ flat_map f xs) (h x (member_first x xs)) ∙ ap (λ ys. g x ++ ys) (flat_agree f g xs (λ y c. h y (member_later x xs y c)))
