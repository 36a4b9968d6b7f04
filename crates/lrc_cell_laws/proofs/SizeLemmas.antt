-- A list of cells has a size, and one only, and lists with the same members have the same.
use Rattle.std.proofs.Common.{◌≡◌, ℕ, suc, ◌+◌, ◌≤◌, ℤ, Bool, true, false, List, [], ◌∷◌, ◌++◌, length, Contains, ◌⊎◌, inl, inr, refl, sym, ap, ◌∙◌, subst, arith, length-append}
use Rattle.std.specs.Ordering.{int_eq}
use Rattle.std.proofs.lemmas.Bool.{cases_eq, true≢false}
use Rattle.std.proofs.lemmas.Bool.Decides.{Decides-int_eq}
use Rattle.std.proofs.lemmas.List.Elements.{Contains-append_left, Contains-append_right, Contains-append_cases}
use Rattle.lrc_store.specs.Cells.{CellTree, nil, number, pair, IsWithin}
use Rattle.lrc_store.specs.Standing.{HasNoRepeats, HasSize}
use Rattle.lrc_order_meaning.proofs.MemberLemmas.{member_first, member_later, member_cases, no_member}
use Rattle.lrc_call_meaning.specs.Decoding.{left_in, right_in}
use Rattle.lrc_call_meaning.specs.Reached.{HaveSame}

-- ---- a list without repeats is no longer than one that has its members

-- a member stands between two parts
record IsBetween (cells : List CellTree) (c : CellTree) : Type 0 where
  left : List CellTree
  right : List CellTree
  is : cells ≡ left ++ c ∷ right

between : (cells : List CellTree) (c : CellTree) → Contains cells c → IsBetween cells c
between [] c h = absurd (no_member c h)
between (d ∷ cells) c h =
    elim (member_cases d cells c h) [
      | inl e ↦ record { left = []; right = cells; is = ap (λ x. x ∷ cells) e }
      | inr later ↦ let rest = between cells c later in record { left = d ∷ rest.left; right = rest.right; is = ap (λ xs. d ∷ xs) rest.is }
    ]

-- what is not the member stands in one of the parts
beside : (left right : List CellTree) (c x : CellTree) → Contains (left ++ c ∷ right) x → ¬ (c ≡ x) → Contains (left ++ right) x
beside left right c x h other =
    elim (Contains-append_cases left (c ∷ right) x h) [
      | inl l ↦ Contains-append_left left right x l
      | inr r ↦ elim (member_cases c right x r) [ inl e ↦ absurd (other e) | inr later ↦ Contains-append_right left right x later ]
    ]

pub no_longer : (cells others : List CellTree) → HasNoRepeats cells → IsWithin cells others → length cells ≤ length others
no_longer [] others once within = omega arith
no_longer (c ∷ cells) others once within =
    let at = between others c (within c (member_first c cells)) in
    let rest = no_longer cells (at.left ++ at.right) once.1
    (λ x h.
    beside at.left at.right c x (subst (λ xs. Contains xs x) at.is (within x (member_later c cells x h)))
    (λ e. once.0 (subst (Contains cells) (sym e) h))) in
    let all : length others ≡ length at.left + suc (length at.right) = ap (length {A = CellTree}) at.is ∙ length-append at.left (c ∷ at.right) in
    let parts = length-append at.left at.right in
    omega (arith, rest, all, parts)

pub size_within : (cells others : List CellTree) (m n : ℕ) → IsWithin cells others → HasSize cells m → HasSize others n → m ≤ n
size_within cells others m n within a b =
    let low = no_longer a.once b.once a.no_repeats (λ x h. (b.same x).1 (within x ((a.same x).0 h))) in
    omega (arith, low, a.count, b.count)

pub one_size : (cells others : List CellTree) (m n : ℕ) → HaveSame cells others → HasSize cells m → HasSize others n → m ≡ n
one_size cells others m n same a b =
    let low = size_within cells others m n (λ x. (same x).0) a b in
    let high = size_within others cells n m (λ x. (same x).1) b a in
    omega (arith, low, high)

pub same_size : (cells others : List CellTree) (n : ℕ) → HaveSame cells others → HasSize cells n → HasSize others n
same_size cells others n same a = record {
  once = a.once;
  no_repeats = a.no_repeats;
  same = λ x. (λ h. (same x).0 ((a.same x).0 h), λ h. (a.same x).1 ((same x).1 h));
  count = a.count;
}

-- ---- a list has a size

abbrev Decided : CellTree → CellTree → Type 0
Decided c d = (c ≡ d) ⊎ (¬ (c ≡ d))

abbrev tag_in : CellTree → ℕ
tag_in nil = 0
tag_in (number n) = 0
tag_in (pair tag left right) = tag

abbrev number_in : ℤ → CellTree → ℤ
number_in z nil = z
number_in z (number n) = n
number_in z (pair tag left right) = z

decide_number : (m n : ℤ) (b : Bool) → int_eq m n ≡ b → Decided (number m) (number n)
decide_number m n true is = inl (ap number ((Decides-int_eq m n).0 is))
decide_number m n false is = inr (λ e. true≢false (sym ((Decides-int_eq m n).1 (ap (number_in m) e)) ∙ is))

decide_pair : (s t : ℕ) (a b c d : CellTree) → Decided a c → Decided b d → Decided (pair s a b) (pair t c d)
decide_pair s t a b c d (inr other) right = inr (λ e. other (ap left_in e))
decide_pair s t a b c d (inl e) (inr other) = inr (λ f. other (ap right_in f))
decide_pair s t a b c d (inl e) (inl f) =
    elim (cases_eq s t) [
      | inl g ↦ inl (ap (λ n. pair n a b) g ∙ ap (λ x. pair t x b) e ∙ ap (λ x. pair t c x) f)
      | inr other ↦ inr (λ g. absurd (let h : s ≡ t = ap tag_in g in omega (arith, h, other)))
    ]

decide_cell : (c d : CellTree) → Decided c d
decide_cell nil nil = inl refl
decide_cell nil (number n) = inr (λ e. cc)
decide_cell nil (pair t l r) = inr (λ e. cc)
decide_cell (number m) nil = inr (λ e. cc)
decide_cell (number m) (number n) = decide_number m n (int_eq m n) refl
decide_cell (number m) (pair t l r) = inr (λ e. cc)
decide_cell (pair s a b) nil = inr (λ e. cc)
decide_cell (pair s a b) (number n) = inr (λ e. cc)
decide_cell (pair s a b) (pair t c d) = decide_pair s t a b c d (decide_cell a c) (decide_cell b d)

decide_member : (cells : List CellTree) (c : CellTree) → Contains cells c ⊎ (¬ Contains cells c)
decide_member [] c = inr (no_member c)
decide_member (d ∷ cells) c =
    elim (decide_cell d c) [
      | inl e ↦ inl (subst (Contains (d ∷ cells)) e (member_first d cells))
      | inr other ↦
          elim (decide_member cells c) [
            | inl later ↦ inl (member_later d cells c later)
            | inr none ↦ inr (λ h. elim (member_cases d cells c h) [ inl e ↦ other e | inr later ↦ none later ])
          ]
    ]

abbrev Sized : List CellTree → Type 0
Sized cells = (n : ℕ) × HasSize cells n

-- one cell more, which may be there
one_more : (c : CellTree) (cells : List CellTree) (n : ℕ) → HasSize cells n → Contains cells c ⊎ (¬ Contains cells c) → Sized (c ∷ cells)
one_more c cells n a (inl there) = (
  n,
  same_size cells (c ∷ cells) n
      (λ x. (member_later c cells x, λ h. elim (member_cases c cells x h) [ inl e ↦ subst (Contains cells) e there | inr later ↦ later ])) a,
)
one_more c cells n a (inr none) = (
  suc n,
  record {
    once = c ∷ a.once;
    no_repeats = (λ h. none ((a.same c).0 h), a.no_repeats);
    same = λ x. (
      λ h. elim (member_cases c a.once x h) [ inl e ↦ subst (Contains (c ∷ cells)) e (member_first c cells) | inr later ↦ member_later c cells x ((a.same x).0 later) ],
      λ h. elim (member_cases c cells x h) [ inl e ↦ subst (Contains (c ∷ a.once)) e (member_first c a.once) | inr later ↦ member_later c a.once x ((a.same x).1 later) ],
    );
    count = ap suc a.count;
  },
)

pub sized : (cells : List CellTree) → (n : ℕ) × HasSize cells n
sized [] = (0, record { once = []; no_repeats = tt; same = λ x. (λ h. h, λ h. h); count = refl })
sized (c ∷ cells) = let rest = sized cells in one_more c cells rest.0 rest.1 (decide_member cells c)
