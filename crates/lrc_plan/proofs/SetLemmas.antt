-- Flags of items: those of a new set, and what setting one does.
use Rattle.std.proofs.Common.{◌≡◌, ℕ, zero, suc, ◌+◌, ◌<◌, Bool, true, false, IsTrue, List, [], ◌∷◌, length, map, replicate, take, get_or, slice_set, Contains, ◌⊎◌, ◌↔◌, inl, inr, refl, sym, ap, ◌∙◌, subst, arith}
use Rattle.std.proofs.lemmas.Bool.{cases_eq, true≢false}
use Rattle.std.proofs.lemmas.List.{get_or-set_same, get_or-set_other, length-set}
use Rattle.lrc_plan_meaning.specs.declared.Bound.{Bound}
use Rattle.lrc_plan_meaning.specs.declared.Bound.TheVariants as b
use Rattle.lrc_ordered.proofs.GatherLemmas.{contains_more}
use Rattle.lrc_plan.specs.ItemSets.{Flags, row_of, holds, HasRoom}

replicated : {X : Type 0} (n i : ℕ) (x d : X) → (get_or (replicate n x) i d ≡ x) ⊎ (get_or (replicate n x) i d ≡ d)
replicated zero i x d = inr refl
replicated (suc n) zero x d = inl refl
replicated (suc n) (suc i) x d = replicated n i x d

flag_unset : (n i : ℕ) → get_or (replicate n false) i false ≡ false
flag_unset n i = elim (replicated n i false false) [ inl e ↦ e | inr e ↦ e ]

abbrev table : ℕ → List (List Bool)
table n = replicate (n + 1) (replicate (n + 1) false)

row_unset : (n i j : ℕ) → get_or (get_or (table n) i []) j false ≡ false
row_unset n i j =
    elim (replicated (n + 1) i (replicate (n + 1) false) []) [
      | inl e ↦ ap (λ (row : List Bool). get_or row j false) e ∙ flag_unset (n + 1) j
      | inr e ↦ ap (λ (row : List Bool). get_or row j false) e
    ]

kid_unset : (visits : List ℕ) (s i j : ℕ) → get_or (row_of (map table visits) s i) j false ≡ false
kid_unset [] s i j = refl
kid_unset (n ∷ ns) zero i j = row_unset n i j
kid_unset (n ∷ ns) (suc s) i j = kid_unset ns s i j

pub none_held : (f : Flags) (occurrences : ℕ) (visits : List ℕ) → f.values ≡ replicate occurrences false → f.kids ≡ map table visits
    → (x : Bound) → ¬ IsTrue (holds f x)
none_held f occurrences visits values kids (b.Value o) h =
    true≢false (sym h ∙ ap (λ (flags : List Bool). get_or flags o false) values ∙ flag_unset occurrences o)
none_held f occurrences visits values kids (b.Kid s i j) h =
    true≢false (sym h ∙ ap (λ (all : List (List (List Bool))). get_or (row_of all s i) j false) kids ∙ kid_unset visits s i j)

-- one flag of a symbol's bindings is set
module _ (f g : Flags) (s i j : ℕ) (values : g.values ≡ f.values)
    (kids : g.kids ≡ slice_set f.kids s (slice_set (get_or f.kids s []) i (slice_set (row_of f.kids s i) j true))) (room : HasRoom f (b.Kid s i j)) where
  within_list : {X : Type 0} (xs : List (List X)) (k n : ℕ) → n < length (get_or xs k []) → k < length xs
  within_list [] k n h = absurd (omega arith)
  within_list (x ∷ xs) zero n h = omega arith
  within_list (x ∷ xs) (suc k) n h = let l = within_list xs k n h in omega arith

  symbol_within : s < length f.kids
  symbol_within =
      let l = within_list (get_or f.kids s []) i j room in within_list f.kids s i l

  rows : get_or g.kids s [] ≡ slice_set (get_or f.kids s []) i (slice_set (row_of f.kids s i) j true)
  rows =
      ap (λ (all : List (List (List Bool))). get_or all s []) kids
      ∙ get_or-set_same f.kids s (slice_set (get_or f.kids s []) i (slice_set (row_of f.kids s i) j true)) [] symbol_within

  row : row_of g.kids s i ≡ slice_set (row_of f.kids s i) j true
  row =
      ap (λ (all : List (List Bool)). get_or all i []) rows
      ∙ get_or-set_same (get_or f.kids s []) i (slice_set (row_of f.kids s i) j true) [] (within_list (get_or f.kids s []) i j room)

  -- the rows of other bindings are as they were
  other_symbol : (t k : ℕ) → ¬ (t ≡ s) → row_of g.kids t k ≡ row_of f.kids t k
  other_symbol t k other =
      ap (λ (all : List (List (List Bool))). row_of all t k) kids
      ∙ ap (λ (all : List (List Bool)). get_or all k []) (get_or-set_other f.kids s t (slice_set (get_or f.kids s []) i (slice_set (row_of f.kids s i) j true)) [] other)

  other_visit : (t k : ℕ) → ¬ (k ≡ i) → row_of g.kids t k ≡ row_of f.kids t k
  other_visit t k other =
      elim (cases_eq t s) [
        | inl e ↦
            subst (λ n. row_of g.kids n k ≡ row_of f.kids n k) (sym e)
            (ap (λ (all : List (List Bool)). get_or all k []) rows ∙ get_or-set_other (get_or f.kids s []) i k (slice_set (row_of f.kids s i) j true) [] other)
        | inr ne ↦ other_symbol t k ne
      ]

  other_flag : (t k l : ℕ) → ¬ (b.Kid t k l ≡ b.Kid s i j) → get_or (row_of g.kids t k) l false ≡ get_or (row_of f.kids t k) l false
  other_flag t k l other =
      elim (cases_eq t s) [
        | inr ne ↦ ap (λ (flags : List Bool). get_or flags l false) (other_symbol t k ne)
        | inl e ↦
            elim (cases_eq k i) [
              | inr ne ↦ ap (λ (flags : List Bool). get_or flags l false) (other_visit t k ne)
              | inl q ↦
                  elim (cases_eq l j) [
                    | inl r ↦ absurd (other (cc))
                    | inr ne ↦
                        subst (λ n. get_or (row_of g.kids n k) l false ≡ get_or (row_of f.kids n k) l false) (sym e)
                        (subst (λ n. get_or (row_of g.kids s n) l false ≡ get_or (row_of f.kids s n) l false) (sym q)
                        (ap (λ (flags : List Bool). get_or flags l false) row ∙ get_or-set_other (row_of f.kids s i) j l true false ne))
                  ]
            ]
      ]

  this_flag : get_or (row_of g.kids s i) j false ≡ true
  this_flag = ap (λ (flags : List Bool). get_or flags j false) row ∙ get_or-set_same (row_of f.kids s i) j true false room

  same_kid : (t k l : ℕ) → (b.Kid t k l ≡ b.Kid s i j) ⊎ (¬ (b.Kid t k l ≡ b.Kid s i j))
  same_kid t k l =
      elim (cases_eq t s) [
        | inr ne ↦ inr (λ (h : b.Kid t k l ≡ b.Kid s i j). let q : t ≡ s = cc in ne q)
        | inl e ↦
            elim (cases_eq k i) [
              | inr ne ↦ inr (λ (h : b.Kid t k l ≡ b.Kid s i j). let q : k ≡ i = cc in ne q)
              | inl q ↦
                  elim (cases_eq l j) [
                    | inr ne ↦ inr (λ (h : b.Kid t k l ≡ b.Kid s i j). let r : l ≡ j = cc in ne r)
                    | inl r ↦ inl (cc)
                  ]
            ]
      ]

  pub kid_held : (x : Bound) → IsTrue (holds g x) ↔ (IsTrue (holds f x) ⊎ (x ≡ b.Kid s i j))
  kid_held (b.Value o) = (
    λ h. inl (subst (λ (flags : List Bool). IsTrue (get_or flags o false)) values h),
    λ h.
        elim h [
          | inl old ↦ subst (λ (flags : List Bool). IsTrue (get_or flags o false)) (sym values) old
          | inr e ↦ absurd (cc)
        ],
  )
  kid_held (b.Kid t k l) =
      elim (same_kid t k l) [
        | inl e ↦ (λ h. inr e, λ h. subst (λ (x : Bound). IsTrue (holds g x)) (sym e) this_flag)
        | inr ne ↦ (
          λ h. inl (sym (other_flag t k l ne) ∙ h),
          λ h. elim h [ inl old ↦ other_flag t k l ne ∙ old | inr e ↦ absurd (ne e) ],
        )
      ]

  length_row : (t k : ℕ) → length (row_of g.kids t k) ≡ length (row_of f.kids t k)
  length_row t k =
      elim (cases_eq t s) [
        | inr ne ↦ ap (length {A = Bool}) (other_symbol t k ne)
        | inl e ↦
            elim (cases_eq k i) [
              | inr ne ↦ ap (length {A = Bool}) (other_visit t k ne)
              | inl q ↦
                  subst (λ n. length (row_of g.kids n k) ≡ length (row_of f.kids n k)) (sym e)
                  (subst (λ n. length (row_of g.kids s n) ≡ length (row_of f.kids s n)) (sym q)
                  (ap (length {A = Bool}) row ∙ length-set (row_of f.kids s i) j true))
            ]
      ]

  pub kid_room : (x : Bound) → HasRoom f x → HasRoom g x
  kid_room (b.Value o) h = subst (λ (flags : List Bool). o < length flags) (sym values) h
  kid_room (b.Kid t k l) h = let e = length_row t k in omega arith

-- one item more was put in
pub items_more : (f g h : Flags) (items : List Bound) (i : ℕ) (x : Bound) → i < length items → x ≡ get_or items i x
    → ((y : Bound) → IsTrue (holds g y) ↔ (IsTrue (holds f y) ⊎ Contains (take i items) y))
    → ((y : Bound) → IsTrue (holds h y) ↔ (IsTrue (holds g y) ⊎ (y ≡ x)))
    → (y : Bound) → IsTrue (holds h y) ↔ (IsTrue (holds f y) ⊎ Contains (take (i + 1) items) y)
items_more f g h items i x there is before now y =
    let more = contains_more items i x y there is in (
      λ a.
          elim ((now y).0 a) [
            | inr e ↦ inr (more.1 (inr (sym e)))
            | inl old ↦ elim ((before y).0 old) [ inl q ↦ inl q | inr m ↦ inr (more.1 (inl m)) ]
          ],
      λ a.
          elim a [
            | inl q ↦ (now y).1 (inl ((before y).1 (inl q)))
            | inr m ↦ elim (more.0 m) [ inl earlier ↦ (now y).1 (inl ((before y).1 (inr earlier))) | inr e ↦ (now y).1 (inr (sym e)) ]
          ],
    )
