-- Names that differ: found one after another, and over a whole list.
use Rattle.std.proofs.Common.{◌≡◌, Bool, true, false, not, ◌&&◌, ◌||◌, ◌⊎◌, inl, inr, cond, List, [], ◌∷◌, ◌++◌, map, flat_map, bytes_eq, find, Some, None, refl, sym, ap, ◌∙◌, subst, append_assoc, append-nil}
use Rattle.std.specs.Bool.{one_answer}
use Rattle.std.specs.List.{list_any}
use Rattle.std.specs.Cmp.Lexicographic.{bytes_decides}
use Rattle.std.proofs.lemmas.Bool.{cases_Bool, and_parts, and_from, and_left, and_right, or_parts, or_from, or_left, or_right, not-true, not_from_true, not_from_false}
use Rattle.std.proofs.lemmas.List.Folds.{list_any-append}
use Rattle.std.proofs.lemmas.List.Concat.{flat_map_single}
use Rattle.lrc_meaning.specs.Grammar.{all_distinct}
use Rattle.lrc_fault_meaning.specs.Faults.{Name, is_among}
use Rattle.lrc_fault_laws.proofs.Lists.{After, after_from}

pub same_name : (m n : Name) → bytes_eq m n ≡ true → m ≡ n
same_name m n = (bytes_decides m n).0

pub own_name : (n : Name) → bytes_eq n n ≡ true
own_name n = (bytes_decides n n).1 refl

pub names_swap : (m n : Name) → bytes_eq m n ≡ bytes_eq n m
names_swap m n =
    one_answer (bytes_eq m n) (bytes_eq n m) (bytes_decides m n) (λ e. sym (same_name n m e), λ e. (bytes_decides n m).1 (sym e))

-- ---- one after another

abbrev pub fresh : List Name → List Name → Bool
fresh before [] = true
fresh before (n ∷ ns) = not (is_among before n) && fresh (before ++ n ∷ []) ns

pub fresh_both : (before xs ys : List Name) → fresh before xs ≡ true → fresh (before ++ xs) ys ≡ true → fresh before (xs ++ ys) ≡ true
fresh_both before [] ys h k = subst (λ l. fresh l ys ≡ true) (append-nil before) k
fresh_both before (x ∷ xs) ys h k =
    let parts = and_parts (not (is_among before x)) (fresh (before ++ x ∷ []) xs) h in
    and_from (not (is_among before x)) (fresh (before ++ x ∷ []) (xs ++ ys)) parts.0 (fresh_both (before ++ x ∷ []) xs ys parts.1 (subst (λ l. fresh l ys ≡ true) (sym (append_assoc before (x ∷ []) xs)) k))

pub fresh_parts : (before xs ys : List Name) → fresh before (xs ++ ys) ≡ true → (fresh before xs ≡ true) × (fresh (before ++ xs) ys ≡ true)
fresh_parts before [] ys h = (refl, subst (λ l. fresh l ys ≡ true) (sym (append-nil before)) h)
fresh_parts before (x ∷ xs) ys h =
    let parts = and_parts (not (is_among before x)) (fresh (before ++ x ∷ []) (xs ++ ys)) h in
    let rest = fresh_parts (before ++ x ∷ []) xs ys parts.1 in
    (and_from (not (is_among before x)) (fresh (before ++ x ∷ []) xs) parts.0 rest.0, subst (λ l. fresh l ys ≡ true) (append_assoc before (x ∷ []) xs) rest.1)

pub fresh_one : (before : List Name) (n : Name) → is_among before n ≡ false → fresh before (n ∷ []) ≡ true
fresh_one before n h = rw h refl

pub one_fresh : (before : List Name) (n : Name) → fresh before (n ∷ []) ≡ true → is_among before n ≡ false
one_fresh before n h = not-true (is_among before n) ((and_parts (not (is_among before n)) true h).0)

-- the names that each item gives are new
module _ {A : Type 0} (front : List Name) (names : A → List Name) where
  abbrev pub IsFresh : List A → A → Type 0
  IsFresh before x = fresh (front ++ flat_map names before) (names x) ≡ true

  names_pushed : (before : List A) (x : A) → (front ++ flat_map names before) ++ names x ≡ front ++ flat_map names (before ++ x ∷ [])
  names_pushed before x = append_assoc front (flat_map names before) (names x) ∙ ap (λ l. front ++ l) (pushed before)
    where
      pushed : (b : List A) → flat_map names b ++ names x ≡ flat_map names (b ++ x ∷ [])
      pushed [] = sym (append-nil (names x))
      pushed (y ∷ b) = append_assoc (names y) (flat_map names b) (names x) ∙ ap (λ l. names y ++ l) (pushed b)

  pub fresh_after : (before xs : List A) → After IsFresh before xs → fresh (front ++ flat_map names before) (flat_map names xs) ≡ true
  fresh_after before [] h = refl
  fresh_after before (x ∷ xs) h =
      fresh_both (front ++ flat_map names before) (names x) (flat_map names xs) h.0 (subst (λ l. fresh l (flat_map names xs) ≡ true) (sym (names_pushed before x)) (fresh_after (before ++ x ∷ []) xs h.1))

  pub after_fresh : (before xs : List A) → fresh (front ++ flat_map names before) (flat_map names xs) ≡ true → After IsFresh before xs
  after_fresh before [] h = tt
  after_fresh before (x ∷ xs) h =
      let parts = fresh_parts (front ++ flat_map names before) (names x) (flat_map names xs) h in
      (parts.0, after_fresh (before ++ x ∷ []) xs (subst (λ l. fresh l (flat_map names xs) ≡ true) (names_pushed before x) parts.1))

-- ---- over a whole list

distinct_push : (ns : List Name) (n : Name) → all_distinct ns ≡ true → is_among ns n ≡ false → all_distinct (ns ++ n ∷ []) ≡ true
distinct_push [] n h k = refl
distinct_push (m ∷ ns) n h k =
    let parts = and_parts (not (list_any (bytes_eq m) ns)) (all_distinct ns) h in
    let others = or_parts (bytes_eq n m) (is_among ns n) k in
    let none = not-true (list_any (bytes_eq m) ns) parts.0 in
    let here : list_any (bytes_eq m) (ns ++ n ∷ []) ≡ false = list_any-append (bytes_eq m) ns (n ∷ []) ∙ or_from (list_any (bytes_eq m) ns) (bytes_eq m n || false) none (or_from (bytes_eq m n) false (names_swap m n ∙ others.0) refl) in
    and_from (not (list_any (bytes_eq m) (ns ++ n ∷ []))) (all_distinct (ns ++ n ∷ [])) (not_from_false (list_any (bytes_eq m) (ns ++ n ∷ [])) here) (distinct_push ns n parts.1 others.1)

among_both : (q : Name → Bool) (xs : List Name) (n : Name) (ys : List Name) → q n ≡ true → list_any q (xs ++ n ∷ ys) ≡ true
among_both q xs n ys h = list_any-append q xs (n ∷ ys) ∙ or_right (list_any q xs) (q n || list_any q ys) (or_left (q n) (list_any q ys) h)

twice_is_not_distinct : (before : List Name) (n : Name) (ns : List Name) → is_among before n ≡ true → all_distinct (before ++ n ∷ ns) ≡ false
twice_is_not_distinct [] n ns h = absurd (cc)
twice_is_not_distinct (m ∷ before) n ns h = by (cases_Bool (bytes_eq n m)) (λ k. twice_is_not_distinct before n ns k)
  where
    by : (bytes_eq n m ≡ true) ⊎ (bytes_eq n m ≡ false) → (is_among before n ≡ true → all_distinct (before ++ n ∷ ns) ≡ false) → all_distinct (m ∷ (before ++ n ∷ ns)) ≡ false
    by (inl is) rest =
        and_left (not (list_any (bytes_eq m) (before ++ n ∷ ns))) (all_distinct (before ++ n ∷ ns)) (not_from_true (list_any (bytes_eq m) (before ++ n ∷ ns)) (among_both (bytes_eq m) before n ns (names_swap m n ∙ is)))
    by (inr other) rest =
        and_right (not (list_any (bytes_eq m) (before ++ n ∷ ns))) (all_distinct (before ++ n ∷ ns)) (rest (subst (λ b. (b || is_among before n) ≡ true) other h))

pub fresh-distinct : (before ns : List Name) → all_distinct before ≡ true → fresh before ns ≡ all_distinct (before ++ ns)
fresh-distinct before [] h = sym (ap all_distinct (append-nil before) ∙ h)
fresh-distinct before (n ∷ ns) h = by (cases_Bool (is_among before n)) (λ k. fresh-distinct (before ++ n ∷ []) ns (distinct_push before n h k))
  where
    by : (is_among before n ≡ true) ⊎ (is_among before n ≡ false) → (is_among before n ≡ false → fresh (before ++ n ∷ []) ns ≡ all_distinct ((before ++ n ∷ []) ++ ns)) → fresh before (n ∷ ns) ≡ all_distinct (before ++ n ∷ ns)
    by (inl is) rest = rw is (sym (twice_is_not_distinct before n ns is))
    by (inr other) rest = rw other (rest other ∙ ap all_distinct (append_assoc before (n ∷ []) ns))

pub record Parted (xs ys : List Name) : Type 0 where
  pub front : all_distinct xs ≡ true
  pub back : all_distinct ys ≡ true
  pub apart : (n : Name) → is_among xs n ≡ true → is_among ys n ≡ false

pub distinct_parts : (xs ys : List Name) → all_distinct (xs ++ ys) ≡ true → Parted xs ys
distinct_parts [] ys h = record { front = refl; back = h; apart = λ n e. absurd (cc) }
distinct_parts (x ∷ xs) ys h = by (distinct_parts xs ys parts.1)
  where
    parts : (not (list_any (bytes_eq x) (xs ++ ys)) ≡ true) × (all_distinct (xs ++ ys) ≡ true)
    parts = and_parts (not (list_any (bytes_eq x) (xs ++ ys))) (all_distinct (xs ++ ys)) h

    none : (list_any (bytes_eq x) xs ≡ false) × (list_any (bytes_eq x) ys ≡ false)
    none = or_parts (list_any (bytes_eq x) xs) (list_any (bytes_eq x) ys) (sym (list_any-append (bytes_eq x) xs ys) ∙ not-true (list_any (bytes_eq x) (xs ++ ys)) parts.0)

    other : (n : Name) → (bytes_eq n x ≡ true) ⊎ (bytes_eq n x ≡ false) → (is_among xs n ≡ true → is_among ys n ≡ false) → (bytes_eq n x || is_among xs n) ≡ true → is_among ys n ≡ false
    other n (inl is) rest e = subst (λ m. is_among ys m ≡ false) (sym (same_name n x is)) none.1
    other n (inr not') rest e = rest (subst (λ b. (b || is_among xs n) ≡ true) not' e)

    by : Parted xs ys → Parted (x ∷ xs) ys
    by rest = record {
      front = and_from (not (list_any (bytes_eq x) xs)) (all_distinct xs) (not_from_false (list_any (bytes_eq x) xs) none.0) rest.front;
      back = rest.back;
      apart = λ n e. other n (cases_Bool (bytes_eq n x)) (rest.apart n) e;
    }

-- each item has a name of its own
module _ {A : Type 0} (front : List Name) (name : A → Name) where
  abbrev pub IsNew : List A → A → Type 0
  IsNew before x = is_among (front ++ map name before) (name x) ≡ false

  abbrev single : A → List Name
  single x = name x ∷ []

  pub new_distinct : (xs : List A) → all_distinct front ≡ true → After IsNew [] xs → all_distinct (front ++ map name xs) ≡ true
  new_distinct xs d h =
      let one = after_from xs IsNew (IsFresh front single) (λ b x rest e k. fresh_one (front ++ flat_map single b) (name x) (subst (λ l. is_among (front ++ l) (name x) ≡ false) (sym (flat_map_single name b)) k)) [] xs refl h in
      let all = subst (λ l. fresh l (flat_map single xs) ≡ true) (append-nil front) (fresh_after front single [] xs one) in
      sym (fresh-distinct front (map name xs) d) ∙ subst (λ l. fresh front l ≡ true) (flat_map_single name xs) all

  pub distinct_new : (xs : List A) → all_distinct (front ++ map name xs) ≡ true → After IsNew [] xs
  distinct_new xs h =
      let d = (distinct_parts front (map name xs) h).front in
      let all = subst (λ l. fresh front l ≡ true) (sym (flat_map_single name xs)) (fresh-distinct front (map name xs) d ∙ h) in
      let one = after_fresh front single [] xs (subst (λ l. fresh l (flat_map single xs) ≡ true) (sym (append-nil front)) all) in
      after_from xs (IsFresh front single) IsNew (λ b x rest e k. subst (λ l. is_among (front ++ l) (name x) ≡ false) (flat_map_single name b) (one_fresh (front ++ flat_map single b) (name x) k)) [] xs refl one

-- ---- items found by name

pub any_named : {A : Type 0} (name : A → Name) (n : Name) (xs : List A) → is_among (map name xs) n ≡ list_any (λ x. bytes_eq (name x) n) xs
any_named name n [] = refl
any_named name n (x ∷ xs) = rw (names_swap n (name x), any_named name n xs) refl

module _ {A : Type 0} (name : A → Name) (n : Name) where
  abbrev pub called : A → Bool
  called x = bytes_eq (name x) n

  pub name_among : (xs : List A) (x : A) → find called xs ≡ Some x → (is_among (map name xs) n ≡ true) × (name x ≡ n)
  name_among [] x e = absurd (cc)
  name_among (y ∷ xs) x e = by (called y) refl (name_among xs x) e
    where
      by : (b : Bool) → called y ≡ b → (find called xs ≡ Some x → (is_among (map name xs) n ≡ true) × (name x ≡ n)) → cond b (Some y) (find called xs) ≡ Some x → (is_among (map name (y ∷ xs)) n ≡ true) × (name x ≡ n)
      by true is rest e =
          let same : y ≡ x = cc in
          (or_left (bytes_eq n (name y)) (is_among (map name xs) n) (names_swap n (name y) ∙ is), subst (λ z. name z ≡ n) same (same_name (name y) n is))
      by false is rest e = let found = rest e in (or_right (bytes_eq n (name y)) (is_among (map name xs) n) found.0, found.1)

  pub name_absent : (xs : List A) → is_among (map name xs) n ≡ false → find called xs ≡ None
  name_absent [] e = refl
  name_absent (x ∷ xs) e =
      let parts = or_parts (bytes_eq n (name x)) (is_among (map name xs) n) e in
      rw (sym (names_swap n (name x)) ∙ parts.0) (name_absent xs parts.1)
