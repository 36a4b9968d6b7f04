-- Whether a cell is in a list, and lists without repeats side by side.
use Rattle.std.proofs.Common.{◌≡◌, List, [], ◌∷◌, ◌++◌, Contains, ◌⊎◌, inl, inr, sym, ◌∙◌, subst}
use Rattle.std.proofs.lemmas.List.Elements.{Contains-append_cases}
use Rattle.lrc_order_meaning.proofs.MemberLemmas.{member_first, member_later, member_cases, no_member}
use Rattle.lrc_store.specs.Cells.{CellTree, IsWithin}
use Rattle.lrc_store.specs.Standing.{HasNoRepeats}
use Rattle.lrc_cell_laws.proofs.SizeLemmas.{sized}

-- two members of a list without repeats stand at one place or at two
decide_same : (all : List CellTree) → HasNoRepeats all → (x y : CellTree) → Contains all x → Contains all y → (x ≡ y) ⊎ (¬ (x ≡ y))
decide_same [] once x y hx hy = absurd (no_member x hx)
decide_same (c ∷ all) once x y hx hy =
    elim (member_cases c all x hx) [
      | inl e ↦
          elim (member_cases c all y hy) [
            | inl f ↦ inl (sym e ∙ f)
            | inr later ↦ inr (λ s. once.0 (subst (Contains all) (sym (e ∙ s)) later))
          ]
      | inr first ↦
          elim (member_cases c all y hy) [
            | inl f ↦ inr (λ s. once.0 (subst (Contains all) (s ∙ sym f) first))
            | inr later ↦ decide_same all once.1 x y first later
          ]
    ]

decide_among : (all : List CellTree) → HasNoRepeats all → (x : CellTree) → Contains all x → (cells : List CellTree) → IsWithin cells all → Contains cells x ⊎ (¬ Contains cells x)
decide_among all once x here [] within = inr (no_member x)
decide_among all once x here (c ∷ cells) within =
    elim (decide_same all once c x (within c (member_first c cells)) here) [
      | inl e ↦ inl (subst (Contains (c ∷ cells)) e (member_first c cells))
      | inr other ↦
          elim (decide_among all once x here cells (λ y h. within y (member_later c cells y h))) [
            | inl later ↦ inl (member_later c cells x later)
            | inr none ↦ inr (λ h. elim (member_cases c cells x h) [ inl e ↦ other e | inr later ↦ none later ])
          ]
    ]

pub decide_member : (cells : List CellTree) (x : CellTree) → Contains cells x ⊎ (¬ Contains cells x)
decide_member cells x =
    let size = (sized (x ∷ cells)).1 in
    decide_among size.once size.no_repeats x ((size.same x).1 (member_first x cells)) cells (λ c h. (size.same c).1 (member_later x cells c h))

pub both_once : (xs ys : List CellTree) → HasNoRepeats xs → HasNoRepeats ys → ((c : CellTree) → Contains ys c → ¬ Contains xs c) → HasNoRepeats (xs ++ ys)
both_once [] ys a b apart = b
both_once (x ∷ xs) ys a b apart = (
  λ h. elim (Contains-append_cases xs ys x h) [ inl l ↦ a.0 l | inr r ↦ apart x r (member_first x xs) ],
  both_once xs ys a.1 b (λ c r l. apart c r (member_later x xs c l)),
)
