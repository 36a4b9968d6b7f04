-- Readings: what is read at the head of some tokens, with the next token alone to choose by.
use Rattle.std.specs.Prelude.{ℕ, zero, suc, ◌+◌, ◌==◌, nat_lt, Bool, cond, Option, Some, None, List, [], ◌∷◌, ◌++◌, length}
use Rattle.lrc_parse.specs.Kinds.{starts}

-- why a reading stops
pub data Cause : Type 0 where
  -- no sentence goes on through the next token, or through the end
  expected : Cause
  -- the next token begins what would be nested too deep
  nested : Cause
  -- the next token would pass the limit of this number
  limit : ℕ → Cause

-- a value with the tokens behind it, or the cause for which the reading stops with the tokens from there on
pub data Reading (T A : Type 0) : Type 0 where
  took : A → List T → Reading T A
  stops : Cause → List T → Reading T A

module _ {T : Type 0} where
  -- what follows a value that was read
  abbrev pub on_took : {A B : Type 0} → Reading T A → (A → List T → Reading T B) → Reading T B
  on_took (took x r) f = f x r
  on_took (stops c r) f = stops c r

  -- a value that a token has or lacks
  abbrev pub token_value : {A : Type 0} → Option A → T → List T → Reading T A
  token_value (Some x) t r = took x r
  token_value None t r = stops expected (t ∷ r)

  unfoldable pub read_empty : {A : Type 0} → A → List T → Reading T A
  read_empty a u = took a u

  unfoldable pub read_one : {A : Type 0} → (T → Option A) → List T → Reading T A
  read_one value [] = stops expected []
  read_one value (t ∷ r) = token_value (value t) t r

  unfoldable pub read_of : {A B : Type 0} → (A → B) → (List T → Reading T A) → List T → Reading T B
  read_of f a u = on_took (a u) (λ x r. took (f x) r)

  unfoldable pub read_then : {A B : Type 0} → (List T → Reading T A) → (List T → Reading T B) → List T → Reading T (A × B)
  read_then a b u = on_took (a u) (λ x r. on_took (b r) (λ y s. took (x, y) s))

  unfoldable pub read_given : {A B : Type 0} → (List T → Reading T A) → (A → List T → Reading T B) → List T → Reading T B
  read_given a b u = on_took (a u) b

  -- one item more behind `xs`
  unfoldable pub read_push : {A : Type 0} → (List T → Reading T A) → List A → List T → Reading T (List A)
  read_push item xs u = read_of (λ x. xs ++ x ∷ []) item u

module _ {T : Type 0} (kind : T → ℕ) where
  -- a token of the kind, and then what `next` reads
  abbrev pub past_token : {A : Type 0} → ℕ → (List T → Reading T A) → List T → Reading T A
  past_token k next [] = stops expected []
  past_token k next (t ∷ r) = cond (kind t == k) (next r) (stops expected (t ∷ r))

  unfoldable pub read_fixed : ℕ → List T → Reading T (Unit {0})
  read_fixed k u = past_token k (λ r. took tt r) u

  unfoldable pub read_skip : {A : Type 0} → ℕ → (List T → Reading T A) → List T → Reading T A
  read_skip k a u = past_token k a u

  unfoldable pub read_ends : {A : Type 0} → (List T → Reading T A) → ℕ → List T → Reading T A
  read_ends a k u = on_took (a u) (λ x r. past_token k (λ s. took x s) r)

  -- `a` where the next token is in `first`, else `b`
  unfoldable pub read_either : {A : Type 0} → List ℕ → (List T → Reading T A) → (List T → Reading T A) → List T → Reading T A
  read_either first a b u = cond (starts kind first u) (a u) (b u)

  unfoldable pub read_optional : {A : Type 0} → List ℕ → (List T → Reading T A) → List T → Reading T (Option A)
  read_optional first a u = read_either first (read_of Some a) (read_empty None) u

  -- nothing may stand here: the cause where the next token is in `first`
  unfoldable pub read_nothing : {A : Type 0} → List ℕ → Cause → List T → Reading T A
  read_nothing first cause u = cond (starts kind first u) (stops cause u) (stops expected u)

  unfoldable pub read_within : {A : Type 0} → Bool → List ℕ → Cause → (List T → Reading T A) → List T → Reading T A
  read_within room first cause a u = cond room (a u) (read_nothing first cause u)

  -- turns while the next token is in `first`, at most `n`, and as long as each takes a token
  unfoldable pub read_turns : {S : Type 0} → List ℕ → (S → List T → Reading T S) → ℕ → S → List T → Reading T S
  read_turns first step zero s u = took s u
  read_turns first step (suc n) s u =
      cond (starts kind first u)
      (on_took (step s u) (λ z r. cond (nat_lt (length r) (length u)) (read_turns first step n z r) (took z r)))
      (took s u)

  -- turns while the next token is in `first`
  unfoldable pub read_loop : {S : Type 0} → List ℕ → (S → List T → Reading T S) → S → List T → Reading T S
  read_loop first step s u = read_turns first step (length u) s u

  -- any number of items, behind `xs`
  unfoldable pub read_many : {A : Type 0} → List ℕ → (List T → Reading T A) → List A → List T → Reading T (List A)
  read_many first item xs u = read_loop first (read_push item) xs u

  -- one item more behind `xs`, where these are less than `n`
  unfoldable pub read_push_most : {A : Type 0} → ℕ → List ℕ → Cause → (List T → Reading T A) → List A → List T → Reading T (List A)
  read_push_most n first cause item xs u = read_within (nat_lt (length xs) n) first cause (read_push item xs) u

  -- items behind `xs`, at most `n` with these
  unfoldable pub read_most : {A : Type 0} → ℕ → List ℕ → Cause → (List T → Reading T A) → List A → List T → Reading T (List A)
  read_most n first cause item xs u = read_loop first (read_push_most n first cause item) xs u

  -- any number of items, behind `xs`, each with a token of the kind before it
  unfoldable pub read_others : {A : Type 0} → ℕ → (List T → Reading T A) → List A → List T → Reading T (List A)
  read_others k item xs u = read_loop (k ∷ []) (λ ys. read_skip k (read_push item ys)) xs u

  unfoldable pub read_separated : {A : Type 0} → ℕ → (List T → Reading T A) → List T → Reading T (List A)
  read_separated k item u = on_took (item u) (λ x r. read_others k item (x ∷ []) r)

  -- items behind `xs`, each with a token of the kind before it, at most `n` with these
  unfoldable pub read_others_most : {A : Type 0} → ℕ → ℕ → List ℕ → Cause → (List T → Reading T A) → List A → List T → Reading T (List A)
  read_others_most k n first cause item xs u =
      read_loop (k ∷ []) (λ ys. read_skip k (read_push_most n first cause item ys)) xs u

  unfoldable pub read_separated_most : {A : Type 0} → ℕ → ℕ → List ℕ → Cause → (List T → Reading T A) → List T → Reading T (List A)
  read_separated_most k n first cause item u =
      on_took (item u) (λ x r. read_others_most k n first cause item (x ∷ []) r)

  -- items that `f` joins to `x` from the left
  unfoldable pub read_joined : {A X : Type 0} → (A → X → A) → List ℕ → (List T → Reading T X) → A → List T → Reading T A
  read_joined f first item x u = read_loop first (λ y. read_of (f y) item) x u

  unfoldable pub read_chain : {A X : Type 0} → (A → X → A) → (List T → Reading T A) → List ℕ → (List T → Reading T X) → List T → Reading T A
  read_chain f a first item u = on_took (a u) (λ x r. read_joined f first item x r)

  -- at most `depth` bodies more within one another
  unfoldable pub read_nested : {A : Type 0} → ((List T → Reading T A) → List T → Reading T A) → List ℕ → ℕ → List T → Reading T A
  read_nested body first zero u = body (read_nothing first nested) u
  read_nested body first (suc depth) u = body (read_nested body first depth) u

  -- one item that `f` joins to the value so far, where the items so far are less than `n`
  unfoldable pub read_join_most : {A : Type 0} → ℕ → List ℕ → Cause → (A → A → A) → (List T → Reading T A) → A × ℕ → List T → Reading T (A × ℕ)
  read_join_most n first cause f item z u =
      read_within (nat_lt z.1 n) first cause (read_of (λ y. (f z.0 y, z.1 + 1)) item) u

  -- items that `f` joins to `x`, the value of `count` items, each with a token of the kind before it, at most `n` in all
  unfoldable pub read_joined_most : {A : Type 0} → ℕ → ℕ → List ℕ → Cause → (A → A → A) → (List T → Reading T A) → ℕ → A → List T → Reading T A
  read_joined_most {A} k n first cause f item count x u =
      read_of (λ (z : A × ℕ). z.0) (read_loop (k ∷ []) (λ z. read_skip k (read_join_most n first cause f item z)) (x, count)) u

  unfoldable pub read_folded_most : {A : Type 0} → ℕ → ℕ → List ℕ → Cause → (A → A → A) → (List T → Reading T A) → List T → Reading T A
  read_folded_most k n first cause f item u =
      on_took (item u) (λ x r. read_joined_most k n first cause f item 1 x r)

  -- at most `levels` bodies within one another; what stands within may hang on a value that goes along
  unfoldable pub read_levels : {Q A : Type 0} → ((Q → List T → Reading T A) → Q → List T → Reading T A) → List ℕ → ℕ → Q → List T → Reading T A
  read_levels body first zero q u = read_nothing first nested u
  read_levels body first (suc levels) q u = body (read_levels body first levels) q u
