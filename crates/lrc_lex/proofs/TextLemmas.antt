-- Texts in quotes: the one that stands at the front, if any.
use Rattle.std.proofs.Common.{◌≡◌, ℕ, zero, suc, ◌+◌, ◌<◌, ◌≤◌, ◌==◌, Bool, true, false, cond, List, [], ◌∷◌, ◌++◌, length, get_or, take, drop, sym, ap, refl, ◌∙◌, subst, arith, add-one, drop-cons}
use Rattle.std.proofs.lemmas.Bool.{eq-eqb, eqb-true}
use Rattle.std.proofs.lemmas.Bool.Decides.{nat_tests}
use Rattle.std.proofs.lemmas.List.{drop_all, append-nil}
use Rattle.lrc_lex.specs.declared.TokenClass.TheVariants.{Text}
use Rattle.lrc_lex.specs.declared.scan.Step.{Step}
use Rattle.lrc_lex.specs.declared.scan.Step.TheVariants.{End, Skip, Take, Refuse}
use Rattle.lrc_lex.specs.Forms.{is_plain, is_escaped, IsTextRest, closed, plain, escaped}
use Rattle.lrc_lex.specs.Front.{text_step}
use Rattle.lrc_lex.specs.Quoted.{unquoted_from}

-- what one byte of a text makes of a step
abbrev pub text_step_on : Bool → ℕ → ℕ → List ℕ → Step
text_step_on true n c rest = cond (is_escaped c) (text_step false (suc n) rest) (Refuse n)
text_step_on false n c rest = cond (is_plain c) (text_step false (suc n) rest) (cond (c == 34) (Take Text (suc n)) (cond (c == 92) (text_step true (suc n) rest) (Refuse n)))

text_step_cons : (behind : Bool) (n c : ℕ) (rest : List ℕ) → text_step behind n (c ∷ rest) ≡ text_step_on behind n c rest
text_step_cons true n c rest = refl
text_step_cons false n c rest = refl

-- one byte more
pub text_step_at : (behind : Bool) (n : ℕ) (text : List ℕ) (i : ℕ) → i < length text
    → text_step behind n (drop i text) ≡ text_step_on behind n (get_or text i 0) (drop (i + 1) text)
text_step_at behind n text i h = rw add-one (ap (text_step behind n) (drop-cons text i 0 h) ∙ text_step_cons behind n (get_or text i 0) (drop (suc i) text))

-- at the end
pub text_step_end : (behind : Bool) (n : ℕ) (text : List ℕ) → text_step behind n (drop (length text) text) ≡ Refuse n
text_step_end behind n text = ap (text_step behind n) (drop_all (length text) text (omega arith)) ∙ end behind
  where
    end : (b : Bool) → text_step b n [] ≡ Refuse n
    end true = refl
    end false = refl

-- neither `"` nor `\` stands for itself
no_plain : (c : ℕ) → is_escaped c ≡ true → is_plain c ≡ false
no_plain c e = grind (arith, nat_tests)

-- a text at the front is the one that is taken
pub text_taken : {body : List ℕ} → IsTextRest body → (n : ℕ) (rest : List ℕ) → text_step false n (body ++ rest) ≡ Take Text (n + length body)
text_taken (closed {c = c} quote) n rest =
    let count : suc n ≡ n + 1 = omega arith in
    rw (no_plain c (subst (λ d. is_escaped d ≡ true) (sym quote) refl), eq-eqb c 34 quote) (ap (Take Text) count)
text_taken (plain {c = c} {rest = body} ok more) n rest =
    let count : suc n + length body ≡ n + suc (length body) = omega arith in
    rw ok (text_taken more (suc n) rest ∙ ap (Take Text) count)
text_taken (escaped {c = c} {d = d} {rest = body} slash ok more) n rest =
    let count : suc (suc n) + length body ≡ n + suc (suc (length body)) = omega arith in
    let no_quote : (c == 34) ≡ false = grind (arith, nat_tests) in
    rw (no_plain c (subst (λ d. is_escaped d ≡ true) (sym slash) refl), no_quote, eq-eqb c 92 slash, ok) (text_taken more (suc (suc n)) rest ∙ ap (Take Text) count)

-- What a step over a text of n bytes so far says of what follows them: a text ends there, or the place at fault is within.
pub record TextFront (left : List ℕ) (k : ℕ) : Type 0 where
  pub some : 1 ≤ k
  pub within : k ≤ length left
  pub form : IsTextRest (take k left)
  pub ascii : (j : ℕ) → j < k → get_or left j 0 < 128

pub record TextStop (left : List ℕ) (k : ℕ) : Type 0 where
  pub within : k ≤ length left
  pub ascii : (j : ℕ) → j < k → get_or left j 0 < 128
  pub more : List ℕ
  pub begun : IsTextRest (take k left ++ more)

-- a text goes on from nothing, and from a `\`
stop_here : (left : List ℕ) → TextStop left 0
stop_here left = record { within = omega arith; ascii = λ j h. absurd (omega arith); more = 34 ∷ []; begun = closed refl }

stop_behind : (c : ℕ) (left : List ℕ) → c ≡ 92 → TextStop (c ∷ left) 1
stop_behind c left slash = record { within = omega arith; ascii = at; more = 34 ∷ 34 ∷ []; begun = escaped slash refl (closed refl) }
  where
    at : (j : ℕ) → j < 1 → get_or (c ∷ left) j 0 < 128
    at zero below = omega arith
    at (suc j) below = absurd (omega arith)

abbrev pub TextSays : ℕ → List ℕ → Step → Type 0
TextSays n left End = ⊥
TextSays n left (Skip m) = ⊥
TextSays n left (Take class m) = (class ≡ Text) × (k : ℕ) × (m ≡ n + k) × TextFront left k
TextSays n left (Refuse m) = (k : ℕ) × (m ≡ n + k) × TextStop left k

-- one byte more in front
text_more : (n c : ℕ) (left : List ℕ) (step : Step) → is_plain c ≡ true → TextSays (suc n) left step → TextSays n (c ∷ left) step
text_more n c left End ok h = h
text_more n c left (Skip m) ok h = h
text_more n c left (Take class m) ok h =
    (h.0, suc h.1, omega (arith, h.2), record { some = omega arith; within = omega (arith, h.3.within); form = plain ok h.3.form; ascii = at })
  where
    at : (j : ℕ) → j < suc h.1 → get_or (c ∷ left) j 0 < 128
    at zero below = grind (arith, nat_tests)
    at (suc j) below = h.3.ascii j (omega arith)
text_more n c left (Refuse m) ok h =
    (suc h.0, omega (arith, h.1), record { within = omega (arith, h.2.within); ascii = at; more = h.2.more; begun = plain ok h.2.begun })
  where
    at : (j : ℕ) → j < suc h.0 → get_or (c ∷ left) j 0 < 128
    at zero below = grind (arith, nat_tests)
    at (suc j) below = h.2.ascii j (omega arith)

-- a `\` and what stands behind it
text_more_two : (n c d : ℕ) (left : List ℕ) (step : Step) → c ≡ 92 → is_escaped d ≡ true → TextSays (suc (suc n)) left step → TextSays n (c ∷ d ∷ left) step
text_more_two n c d left End slash ok h = h
text_more_two n c d left (Skip m) slash ok h = h
text_more_two n c d left (Take class m) slash ok h =
    (h.0, suc (suc h.1), omega (arith, h.2), record { some = omega arith; within = omega (arith, h.3.within); form = escaped slash ok h.3.form; ascii = at })
  where
    at : (j : ℕ) → j < suc (suc h.1) → get_or (c ∷ d ∷ left) j 0 < 128
    at zero below = omega arith
    at (suc zero) below = grind (arith, nat_tests)
    at (suc (suc j)) below = h.3.ascii j (omega arith)
text_more_two n c d left (Refuse m) slash ok h =
    (suc (suc h.0), omega (arith, h.1), record { within = omega (arith, h.2.within); ascii = at; more = h.2.more; begun = escaped slash ok h.2.begun })
  where
    at : (j : ℕ) → j < suc (suc h.0) → get_or (c ∷ d ∷ left) j 0 < 128
    at zero below = omega arith
    at (suc zero) below = grind (arith, nat_tests)
    at (suc (suc j)) below = h.2.ascii j (omega arith)

-- the closing `"`
text_closed : (c : ℕ) (rest : List ℕ) → c ≡ 34 → TextFront (c ∷ rest) 1
text_closed c rest quote = record { some = omega arith; within = omega arith; form = closed quote; ascii = at }
  where
    at : (j : ℕ) → j < 1 → get_or (c ∷ rest) j 0 < 128
    at zero below = omega arith
    at (suc j) below = absurd (omega arith)

pub text_says : (left : List ℕ) (n : ℕ) → TextSays n left (text_step false n left)
text_says [] n = (0, omega arith, stop_here [])
text_says (c ∷ []) n = over (is_plain c) (c == 34) (c == 92) refl refl refl
  where
    over : (ok quote slash : Bool) → is_plain c ≡ ok → (c == 34) ≡ quote → (c == 92) ≡ slash
        → TextSays n (c ∷ []) (cond ok (Refuse (suc n)) (cond quote (Take Text (suc n)) (cond slash (Refuse (suc n)) (Refuse n))))
    over true quote slash e f g = text_more n c [] (Refuse (suc n)) e (0, omega arith, stop_here [])
    over false true slash e f g = (refl, 1, omega arith, text_closed c [] (eqb-true c 34 f))
    over false false true e f g = (1, omega arith, stop_behind c [] (eqb-true c 92 g))
    over false false false e f g = (0, omega arith, stop_here (c ∷ []))
text_says (c ∷ d ∷ rest) n = over (is_plain c) (c == 34) (c == 92) (is_escaped d) refl refl refl refl (text_says (d ∷ rest) (suc n)) (text_says rest (suc (suc n)))
  where
    over : (ok quote slash second : Bool) → is_plain c ≡ ok → (c == 34) ≡ quote → (c == 92) ≡ slash → is_escaped d ≡ second
        → TextSays (suc n) (d ∷ rest) (text_step false (suc n) (d ∷ rest)) → TextSays (suc (suc n)) rest (text_step false (suc (suc n)) rest)
        → TextSays n (c ∷ d ∷ rest) (cond ok (text_step false (suc n) (d ∷ rest)) (cond quote (Take Text (suc n)) (cond slash (cond second (text_step false (suc (suc n)) rest) (Refuse (suc n))) (Refuse n))))
    over true quote slash second e f g h one two = text_more n c (d ∷ rest) _ e one
    over false true slash second e f g h one two = (refl, 1, omega arith, text_closed c (d ∷ rest) (eqb-true c 34 f))
    over false false true true e f g h one two = text_more_two n c d rest _ (eqb-true c 92 g) h two
    over false false true false e f g h one two = (1, omega arith, stop_behind c (d ∷ rest) (eqb-true c 92 g))
    over false false false second e f g h one two = (0, omega arith, stop_here (c ∷ d ∷ rest))

-- the place at fault is not before what was read
refuse_ge : (behind : Bool) (n : ℕ) (left : List ℕ) (r : ℕ) → text_step behind n left ≡ Refuse r → n ≤ r
refuse_ge true n [] r e = let same : n ≡ r = cc in omega arith
refuse_ge false n [] r e = let same : n ≡ r = cc in omega arith
refuse_ge true n (c ∷ rest) r e = over (is_escaped c) e (refuse_ge false (suc n) rest r)
  where
    over : (ok : Bool) → cond ok (text_step false (suc n) rest) (Refuse n) ≡ Refuse r → (text_step false (suc n) rest ≡ Refuse r → suc n ≤ r) → n ≤ r
    over true e more = omega (arith, more e)
    over false e more = let same : n ≡ r = cc in omega arith
refuse_ge false n (c ∷ rest) r e = over (is_plain c) (c == 34) (c == 92) e (refuse_ge false (suc n) rest r) (refuse_ge true (suc n) rest r)
  where
    over : (ok quote slash : Bool) → cond ok (text_step false (suc n) rest) (cond quote (Take Text (suc n)) (cond slash (text_step true (suc n) rest) (Refuse n))) ≡ Refuse r
        → (text_step false (suc n) rest ≡ Refuse r → suc n ≤ r) → (text_step true (suc n) rest ≡ Refuse r → suc n ≤ r) → n ≤ r
    over true quote slash e one two = omega (arith, one e)
    over false true slash e one two = absurd cc
    over false false true e one two = omega (arith, two e)
    over false false false e one two = let same : n ≡ r = cc in omega arith

-- and what stands behind that place is not looked at
refuse_local : (behind : Bool) (n : ℕ) (left : List ℕ) (m r : ℕ) (more : List ℕ) → text_step behind n left ≡ Refuse r → r < n + m → m ≤ length left → text_step behind n (take m left ++ more) ≡ Refuse r
refuse_local behind n left zero r more e below within = absurd (omega (arith, refuse_ge behind n left r e))
refuse_local behind n [] (suc m) r more e below within = absurd (omega arith)
refuse_local true n (c ∷ rest) (suc m) r more e below within = over (is_escaped c) e (λ f. refuse_local false (suc n) rest m r more f (omega arith) (omega arith))
  where
    over : (ok : Bool) → cond ok (text_step false (suc n) rest) (Refuse n) ≡ Refuse r → (text_step false (suc n) rest ≡ Refuse r → text_step false (suc n) (take m rest ++ more) ≡ Refuse r)
        → cond ok (text_step false (suc n) (take m rest ++ more)) (Refuse n) ≡ Refuse r
    over true e one = one e
    over false e one = e
refuse_local false n (c ∷ rest) (suc m) r more e below within =
    over (is_plain c) (c == 34) (c == 92) e (λ f. refuse_local false (suc n) rest m r more f (omega arith) (omega arith)) (λ f. refuse_local true (suc n) rest m r more f (omega arith) (omega arith))
  where
    over : (ok quote slash : Bool) → cond ok (text_step false (suc n) rest) (cond quote (Take Text (suc n)) (cond slash (text_step true (suc n) rest) (Refuse n))) ≡ Refuse r
        → (text_step false (suc n) rest ≡ Refuse r → text_step false (suc n) (take m rest ++ more) ≡ Refuse r)
        → (text_step true (suc n) rest ≡ Refuse r → text_step true (suc n) (take m rest ++ more) ≡ Refuse r)
        → cond ok (text_step false (suc n) (take m rest ++ more)) (cond quote (Take Text (suc n)) (cond slash (text_step true (suc n) (take m rest ++ more)) (Refuse n))) ≡ Refuse r
    over true quote slash e one two = one e
    over false true slash e one two = absurd cc
    over false false true e one two = two e
    over false false false e one two = e

-- so no text goes on past that place
pub text_stuck : (left : List ℕ) (n r m : ℕ) (more : List ℕ) → text_step false n left ≡ Refuse r → r < n + m → m ≤ length left → IsTextRest (take m left ++ more) → ⊥
text_stuck left n r m more e below within text =
    let stuck = refuse_local false n left m r more e below within in
    let taken = text_taken text n [] in
    let same : text_step false n ((take m left ++ more) ++ []) ≡ text_step false n (take m left ++ more) = ap (text_step false n) (append-nil (take m left ++ more)) in
    cc

-- what one byte of a text adds to what it stands for
abbrev pub unquoted_on : Bool → ℕ → List ℕ → List ℕ
unquoted_on true c rest = c ∷ unquoted_from false rest
unquoted_on false c rest = cond (c == 34) [] (cond (c == 92) (unquoted_from true rest) (c ∷ unquoted_from false rest))

unquoted_cons : (behind : Bool) (c : ℕ) (rest : List ℕ) → unquoted_from behind (c ∷ rest) ≡ unquoted_on behind c rest
unquoted_cons true c rest = refl
unquoted_cons false c rest = refl

pub unquoted_at : (behind : Bool) (text : List ℕ) (i : ℕ) → i < length text → unquoted_from behind (drop i text) ≡ unquoted_on behind (get_or text i 0) (drop (i + 1) text)
unquoted_at behind text i h = rw add-one (ap (unquoted_from behind) (drop-cons text i 0 h) ∙ unquoted_cons behind (get_or text i 0) (drop (suc i) text))

pub unquoted_end : (behind : Bool) (text : List ℕ) (i : ℕ) → length text ≤ i → unquoted_from behind (drop i text) ≡ []
unquoted_end behind text i h = ap (unquoted_from behind) (drop_all i text h) ∙ end behind
  where
    end : (b : Bool) → unquoted_from b [] ≡ []
    end true = refl
    end false = refl
