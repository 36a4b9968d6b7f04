-- Where a reading stops: languages within limits that may be widened.
use Rattle.std.specs.Prelude.{◌≡◌, ℕ, ◌≤◌, ◌<◌, true, false, Option, Some, None, List, [], ◌∷◌, ◌++◌}
use Rattle.lrc_parse.specs.Kinds.{has, starts}
use Rattle.lrc_parse.specs.Language.{Lang}
use Rattle.lrc_parse.specs.Reading.{Cause, expected, nested, limit, Reading, took, stops}
use Rattle.lrc_parse.specs.Exact.{Shape, Exact}

-- the next token
abbrev pub next : {T : Type 0} → List T → Option T
next [] = None
next (t ∷ r) = Some t

-- the next token alone
abbrev pub front : {T : Type 0} → List T → List T
front [] = []
front (t ∷ r) = t ∷ []

-- what a sentence goes on through: nothing where another token is expected, and the token at fault where a limit is passed
abbrev pub through : {T : Type 0} → Cause → List T → List T
through expected r = []
through nested r = front r
through (limit n) r = front r

-- a limit is passed at a token, never at the end
abbrev pub Stands : {T : Type 0} → Cause → List T → Type 0
Stands expected r = Unit {0}
Stands {T} nested r = (t : T) × (q : List T) × (r ≡ t ∷ q)
Stands {T} (limit n) r = (t : T) × (q : List T) × (r ≡ t ∷ q)

-- `le i j` says that the limits `j` are as wide as `i` or wider
pub record Widening {I : Type 0} (le : I → I → Type 0) : Type 0 where
  pub same : (i : I) → le i i
  -- wider than both of two
  pub upper : (i j : I) → (k : I) × le i k × le j k

module _ {I T A : Type 0} where
  -- within some limits a sentence begins with these tokens
  abbrev pub Begins : (I → Lang T A) → List T → Type 0
  Begins L p = (i : I) × (q : List T) × (x : A) × L i (p ++ q) x

  -- wider limits keep each sentence
  abbrev pub Grows : (I → I → Type 0) → (I → Lang T A) → Type 0
  Grows le L = (i j : I) → le i j → (u : List T) (x : A) → L i u x → L j u x

-- the limits under which a stop stays: all that are wider, or these alone where one of them is passed
abbrev pub Stays : {I : Type 0} → (I → I → Type 0) → Cause → I → I → Type 0
Stays le expected i j = le i j
Stays le nested i j = i ≡ j
Stays le (limit n) i j = i ≡ j

module _ {T A : Type 0} (kind : T → ℕ) where
  -- what a reading does before a token with which no sentence begins
  pub record Tame (s : Shape) (read : List T → Reading T A) : Type 0 where
    pub misses : s.empty ≡ false → (u : List T) → starts kind s.first u ≡ false → read u ≡ stops expected u
    pub passes : s.empty ≡ true → (u : List T) → starts kind s.first u ≡ false → (x : A) × (read u ≡ took x u)

module _ {I T A : Type 0} (kind : T → ℕ) where
  -- a sentence begins with each token that may be the first
  pub record Rich (s : Shape) (L : I → Lang T A) : Type 0 where
    pub some : Begins L []
    pub nothing : s.empty ≡ true → (i : I) × (x : A) × L i [] x
    pub opens : (t : T) → has s.first (kind t) ≡ true → Begins L (t ∷ [])

module _ {I T A : Type 0} (le : I → I → Type 0) where
  -- a sentence was read, and is read again before any tokens that begin with the same one, within all wider limits
  abbrev pub Taken : (I → Lang T A) → (I → List T → Reading T A) → I → List T → A → List T → Type 0
  Taken L read i u x r = (p : List T) × (u ≡ p ++ r) × L i p x ×
      ((j : I) (w : List T) → le i j → next w ≡ next r → read j (p ++ w) ≡ took x w)

  -- a sentence begins with the tokens before the stop, and the reading stops there before any tokens that begin with the same one
  abbrev pub Ended : (I → Lang T A) → (I → List T → Reading T A) → I → Cause → List T → List T → Type 0
  Ended L read i c u r = (p : List T) × (u ≡ p ++ r) × Begins L (p ++ through c r) ×
      ((j : I) (w : List T) → Stays le c i j → next w ≡ next r → read j (p ++ w) ≡ stops c w) × Stands c r

  -- each reading within the limits `i` ends so
  pub record Placed (L : I → Lang T A) (read : I → List T → Reading T A) (i : I) : Type 0 where
    pub takes : (u : List T) (x : A) (r : List T) → read i u ≡ took x r → Taken L read i u x r
    pub ends : (c : Cause) (u r : List T) → read i u ≡ stops c r → Ended L read i c u r

module _ {I T A : Type 0} (kind : T → ℕ) (le : I → I → Type 0) where
  -- exact within each limits, with a place for each stop within the limits `i`
  pub record Full (s : Shape) (L : I → Lang T A) (read : I → List T → Reading T A) (i : I) : Type 0 where
    pub exact : (j : I) → Exact kind s (L j) (read j)
    pub grows : Grows le L
    pub tame : (j : I) → Tame kind s (read j)
    pub rich : Rich kind s L
    pub placed : Placed le L read i

-- limits that wider ones keep, and that some limits bring above any number
pub record Limit {I : Type 0} (le : I → I → Type 0) (n : I → ℕ) : Type 0 where
  pub keeps : (i j : I) → le i j → n i ≤ n j
  pub any : (m : ℕ) → (i : I) × (m < n i)

-- a sentence goes on behind `p`, and not with the next token; or it has not ended with the text
abbrev pub Wanting : {I T A : Type 0} → (I → Lang T A) → List T → List T → Type 0
Wanting {I} {T} {A} L p [] = Begins L p × ((i : I) (x : A) → ¬ L i p x)
Wanting L p (t ∷ r) = Begins L p × ¬ Begins L (p ++ t ∷ [])

-- a sentence goes on behind `p` with the next token, and none within the limits `i`
abbrev pub Passing : {I T A : Type 0} → (I → Lang T A) → I → List T → List T → Type 0
Passing L i p [] = ⊥
Passing {I} {T} {A} L i p (t ∷ r) = Begins L (p ++ t ∷ []) × ((q : List T) (x : A) → ¬ L i (p ++ t ∷ q) x)

-- what the cause of a stop says of its place
abbrev pub Caused : {I T A : Type 0} → (I → Lang T A) → I → Cause → List T → List T → Type 0
Caused L i expected p r = Wanting L p r
Caused L i nested p r = Passing L i p r
Caused L i (limit n) p r = Passing L i p r

-- limits with the depth to which bodies may stand within one another
abbrev pub Deeper : {I : Type 0} → (I → I → Type 0) → I × ℕ → I × ℕ → Type 0
Deeper le i j = le i.0 j.0 × (i.1 ≤ j.1)
