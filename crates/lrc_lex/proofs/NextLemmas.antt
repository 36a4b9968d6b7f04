-- What `next` says of the text: by its first character, and that a token is the longest one there.
use Rattle.std.proofs.Common.{◌≡◌, ℕ, zero, suc, ◌+◌, ◌-◌, ◌<◌, ◌≤◌, ◌==◌, ◌≢◌, Bool, true, false, cond, not, ◌&&◌, ◌||◌, inl, inr, List, [], ◌∷◌, ◌++◌, length, get_or, take, drop, IsUtf8, sym, ap, refl, ◌∙◌, subst, arith, length-take-le, take-append-drop}
use Rattle.std.proofs.lemmas.Bool.{false≢true, cases_lt, and_parts, eqb-true, eq-eqb}
use Rattle.std.proofs.lemmas.Bool.Decides.{nat_tests}
use Rattle.std.proofs.lemmas.List.{drop_all, take_rest}
use Rattle.std.proofs.lemmas.List.Sums.{prefix_len-le-length, prefix_len_passes, prefix_len_stops}
use Rattle.std.proofs.lemmas.List.Folds.{length-prefix_len}
use Rattle.std.proofs.lemmas.Str.{IsUtf8-drop, IsUtf8-nil, IsCharBoundary-before_ascii}
use Rattle.std.specs.Char.{is_ascii_digit, is_ascii_alphabetic}
use Rattle.std.specs.List.{prefix_len, AllPass}
use Rattle.std.specs.Str.{chars}
use Rattle.lrc_lex.specs.declared.TokenClass.{TokenClass}
use Rattle.lrc_lex.specs.declared.TokenClass.TheVariants.{Word, Natural, Negative, NameLit, Text, Path, Symbol}
use Rattle.lrc_lex.specs.declared.scan.Step.{Step}
use Rattle.lrc_lex.specs.declared.scan.Step.TheVariants.{End, Skip, Take, Refuse}
use Rattle.lrc_lex.specs.Forms.{is_blank, is_symbol, begins_with, IsDigits, IsWord, IsToken}
use Rattle.lrc_lex.specs.Front.{word_len, path_token_len, symbol_step, text_step, word_step, name_lit_step, next}
use Rattle.lrc_lex.specs.Place.{comment_len, separator_len, IsLongest, Begins, IsBad}
use Rattle.lrc_lex.proofs.DecimalLemmas.{digit_range}
use Rattle.lrc_lex.proofs.PathLemmas.{path_some, path_within, path_form, path_most, path_ascii}
use Rattle.lrc_lex.proofs.Runs.{passes_in_run, run_is_longest}
use Rattle.lrc_lex.proofs.Utf8Lemmas.{utf8_behind, word_front, word_longest, word_some, word_first, word_head, word_a, word_begun, utf8_front}
use Rattle.lrc_lex.proofs.TextLemmas.{TextStop, TextSays, text_says, text_taken, text_stuck}

-- nothing is left
pub next_end : (text : List ℕ) → length text ≡ 0 → next text ≡ End
unfolding next
next_end [] h = refl
next_end (c ∷ rest) h = absurd (omega arith)

-- A token that stands at the front of a text in UTF-8.
pub record Found (left : List ℕ) (class : TokenClass) (n : ℕ) : Type 0 where
  pub some : 1 ≤ n
  pub within : n ≤ length left
  pub form : IsToken class (take n left)
  pub behind : IsUtf8 (drop n left)

-- What separates tokens, at the front of a text in UTF-8.
pub record Separated (left : List ℕ) (n : ℕ) : Type 0 where
  pub some : 1 ≤ n
  pub within : n ≤ length left
  pub form : separator_len left ≡ n
  pub behind : IsUtf8 (drop n left)

-- The most characters with which a token begins.
pub record Stuck (left : List ℕ) (n : ℕ) : Type 0 where
  pub within : n ≤ length left
  pub front : IsUtf8 (take n left)
  pub begun : Begins (take n left)
  pub most : (m : ℕ) → n < m → m ≤ length left → IsUtf8 (take m left) → Begins (take m left) → ⊥

-- What a step says of the text.
abbrev pub Says : List ℕ → Step → Type 0
Says left End = left ≡ []
Says left (Skip n) = Separated left n
Says left (Take class n) = Found left class n
Says left (Refuse n) = Stuck left n

-- behind an ASCII character
behind_one : (c : ℕ) (rest : List ℕ) → IsUtf8 (c ∷ rest) → c < 128 → IsUtf8 rest
behind_one c rest u small = utf8_behind (c ∷ rest) 1 u (omega arith) at
  where
    at : (k : ℕ) → k < 1 → get_or (c ∷ rest) k 0 < 128
    at zero h = small
    at (suc k) h = absurd (omega arith)

small_digit : (c : ℕ) → is_ascii_digit c ≡ true → c < 128
small_digit c digit = omega (arith, digit_range c digit)

blank_says : (c : ℕ) (rest : List ℕ) → IsUtf8 (c ∷ rest) → is_blank c ≡ true → Says (c ∷ rest) (Skip 1)
blank_says c rest u blank = record {
  some = omega arith;
  within = omega arith;
  form = ap (λ b. cond b 1 (cond (c == 35) (comment_len (c ∷ rest)) 0)) blank;
  behind = behind_one c rest u (grind (arith, nat_tests));
}

comment_says : (c : ℕ) (rest : List ℕ) → IsUtf8 (c ∷ rest) → c ≡ 35 → Says (c ∷ rest) (Skip (comment_len (c ∷ rest)))
comment_says c rest u hash =
    let within = prefix_len-le-length (λ d. not (d == 10)) (c ∷ rest) in
    let first : comment_len (c ∷ rest) ≡ 1 + comment_len rest = subst (λ d. comment_len (d ∷ rest) ≡ 1 + comment_len rest) (sym hash) refl in
    record {
      some = omega (arith, first);
      within = within;
      form = subst (λ d. separator_len (d ∷ rest) ≡ comment_len (d ∷ rest)) (sym hash) refl;
      behind = elim (cases_lt (comment_len (c ∷ rest)) (length (c ∷ rest))) [
        | inl more ↦
            let stops = prefix_len_stops (λ d. not (d == 10)) (c ∷ rest) 0 more in
            let line_feed : get_or (c ∷ rest) (comment_len (c ∷ rest)) 0 ≡ 10 = over _ stops in
            IsUtf8-drop (c ∷ rest) _ u (IsCharBoundary-before_ascii (c ∷ rest) _ more (omega arith))
        | inr all ↦ subst IsUtf8 (sym (drop_all _ (c ∷ rest) all)) IsUtf8-nil
      ];
    }
  where
    over : (x : ℕ) → not (x == 10) ≡ false → x ≡ 10
    over x e = inner (x == 10) refl e
      where
        inner : (b : Bool) → (x == 10) ≡ b → not b ≡ false → x ≡ 10
        inner true f e = eqb-true x 10 f
        inner false f e = absurd (false≢true (sym e))

-- a run of digits is there where one digit is
run_some : (left : List ℕ) → begins_with is_ascii_digit left ≡ true → 1 ≤ prefix_len is_ascii_digit left
run_some [] digit = absurd (false≢true digit)
run_some (c ∷ rest) digit = rw digit (omega arith)

run_digits : (left : List ℕ) → begins_with is_ascii_digit left ≡ true → IsDigits (take (prefix_len is_ascii_digit left) left)
run_digits left digit = (omega (arith, length-prefix_len is_ascii_digit left, run_some left digit), passes_in_run is_ascii_digit left)

run_ascii : (left : List ℕ) (k : ℕ) → k < prefix_len is_ascii_digit left → get_or left k 0 < 128
run_ascii left k h = small_digit _ (prefix_len_passes is_ascii_digit left k 0 h)

natural_says : (c : ℕ) (rest : List ℕ) → IsUtf8 (c ∷ rest) → is_ascii_digit c ≡ true → Found (c ∷ rest) Natural (prefix_len is_ascii_digit (c ∷ rest))
natural_says c rest u digit =
    let within = prefix_len-le-length is_ascii_digit (c ∷ rest) in
    record {
      some = run_some (c ∷ rest) digit;
      within = within;
      form = run_digits (c ∷ rest) digit;
      behind = utf8_behind (c ∷ rest) _ u within (run_ascii (c ∷ rest));
    }

path_says : (c : ℕ) (rest : List ℕ) → IsUtf8 (c ∷ rest) → c ≡ 47 → Found (c ∷ rest) Path (path_token_len rest)
path_says c rest u slash = record {
  some = path_some rest;
  within = path_within c rest;
  form = path_form c rest slash;
  behind = utf8_behind (c ∷ rest) _ u (path_within c rest) (path_ascii c rest slash);
}

equality_says : (c : ℕ) (rest : List ℕ) → IsUtf8 (c ∷ rest) → c ≡ 61 → begins_with (λ d. d == 61) rest ≡ true → Found (c ∷ rest) Symbol 2
equality_says c [] u first second = absurd (false≢true second)
equality_says c (d ∷ rest) u first second =
    let next_one : d ≡ 61 = eqb-true d 61 second in
    record {
      some = omega arith;
      within = omega arith;
      form = inr (cc);
      behind = behind_one d rest (behind_one c (d ∷ rest) u (omega arith)) (omega arith);
    }

negative_says : (c : ℕ) (rest : List ℕ) → IsUtf8 (c ∷ rest) → c ≡ 45 → begins_with is_ascii_digit rest ≡ true → Found (c ∷ rest) Negative (suc (prefix_len is_ascii_digit rest))
negative_says c rest u minus digit =
    let within = prefix_len-le-length is_ascii_digit rest in
    record {
      some = omega arith;
      within = omega (arith, within);
      form = (eq-eqb c 45 minus, run_digits rest digit);
      behind = utf8_behind rest _ (behind_one c rest u (omega arith)) within (run_ascii rest);
    }

small_symbol : (c : ℕ) → is_symbol c ≡ true → c < 128
small_symbol c symbol = grind (arith, nat_tests)

symbol_says : (c : ℕ) (rest : List ℕ) → IsUtf8 (c ∷ rest) → is_symbol c ≡ true → Says (c ∷ rest) (symbol_step c rest)
symbol_says c rest u symbol = over (c == 61 && begins_with (λ d. d == 61) rest) (c == 45 && begins_with is_ascii_digit rest) refl refl
  where
    over : (equality negative : Bool) → (c == 61 && begins_with (λ d. d == 61) rest) ≡ equality → (c == 45 && begins_with is_ascii_digit rest) ≡ negative
        → Says (c ∷ rest) (cond equality (Take Symbol 2) (cond negative (Take Negative (suc (prefix_len is_ascii_digit rest))) (Take Symbol 1)))
    over true negative e f = let parts = and_parts _ _ e in equality_says c rest u (eqb-true c 61 parts.0) parts.1
    over false true e f = let parts = and_parts _ _ f in negative_says c rest u (eqb-true c 45 parts.0) parts.1
    over false false e f = record { some = omega arith; within = omega arith; form = inl (refl, symbol); behind = behind_one c rest u (small_symbol c symbol) }

-- What the first character of a token of each class is.
abbrev FirstOf : TokenClass → ℕ → Type 0
FirstOf Word c = c < 128 → (is_ascii_alphabetic c || c == 95) ≡ true
FirstOf Natural c = is_ascii_digit c ≡ true
FirstOf Negative c = (c == 45) ≡ true
FirstOf NameLit c = (c == 39) ≡ true
FirstOf Text c = (c == 34) ≡ true
FirstOf Path c = (c == 47) ≡ true
FirstOf Symbol c = is_symbol c ≡ true

first_of : (class : TokenClass) (c : ℕ) (rest : List ℕ) → IsToken class (c ∷ rest) → FirstOf class c
first_of Word c rest h = word_head c rest h
first_of Natural c rest h = h.1 0 0 (omega arith)
first_of Negative c rest h = h.0
first_of NameLit c rest h = h.0
first_of Text c rest h = h.0
first_of Path c rest h = h.0
first_of Symbol c rest h = elim h [ inl one ↦ one.1 | inr two ↦ let first : c ≡ 61 = cc in subst (λ d. is_symbol d ≡ true) (sym first) refl ]

-- so a `"` begins no other token than a text, and a `'` none but a name
only_text : (class : TokenClass) → FirstOf class 34 → class ≡ Text
only_text Word h = let letter : (is_ascii_alphabetic 34 || 34 == 95) ≡ true = h (omega arith) in absurd (false≢true letter)
only_text Natural h = absurd (false≢true h)
only_text Negative h = absurd (false≢true h)
only_text NameLit h = absurd (false≢true h)
only_text Text h = refl
only_text Path h = absurd (false≢true h)
only_text Symbol h = absurd (false≢true h)

only_name_lit : (class : TokenClass) → FirstOf class 39 → class ≡ NameLit
only_name_lit Word h = let letter : (is_ascii_alphabetic 39 || 39 == 95) ≡ true = h (omega arith) in absurd (false≢true letter)
only_name_lit Natural h = absurd (false≢true h)
only_name_lit Negative h = absurd (false≢true h)
only_name_lit NameLit h = refl
only_name_lit Text h = absurd (false≢true h)
only_name_lit Path h = absurd (false≢true h)
only_name_lit Symbol h = absurd (false≢true h)

only_word : (class : TokenClass) (c : ℕ) → is_ascii_digit c ≡ false → (c == 47) ≡ false → is_symbol c ≡ false → (c == 34) ≡ false → (c == 39) ≡ false → FirstOf class c → class ≡ Word
only_word Word c digit slash symbol quote tick h = refl
only_word Natural c digit slash symbol quote tick h = absurd (false≢true (sym digit ∙ h))
only_word Negative c digit slash symbol quote tick h = absurd (false≢true (sym symbol ∙ subst (λ d. is_symbol d ≡ true) (sym (eqb-true c 45 h)) refl))
only_word NameLit c digit slash symbol quote tick h = absurd (false≢true (sym tick ∙ h))
only_word Text c digit slash symbol quote tick h = absurd (false≢true (sym quote ∙ h))
only_word Path c digit slash symbol quote tick h = absurd (false≢true (sym slash ∙ h))
only_word Symbol c digit slash symbol quote tick h = absurd (false≢true (sym symbol ∙ h))

-- one ASCII character at the front
front_one : (c : ℕ) (rest : List ℕ) → IsUtf8 (c ∷ rest) → c < 128 → IsUtf8 (c ∷ [])
front_one c rest u small = utf8_front (c ∷ rest) 1 u (omega arith) at
  where
    at : (k : ℕ) → k < 1 → get_or (c ∷ rest) k 0 < 128
    at zero h = small
    at (suc k) h = absurd (omega arith)

quoted_stuck : (c : ℕ) (rest : List ℕ) → IsUtf8 (c ∷ rest) → c ≡ 34 → (k : ℕ) → text_step false 1 rest ≡ Refuse (suc k) → TextStop rest k → Stuck (c ∷ rest) (suc k)
quoted_stuck c rest u quote k e stop = record {
  within = omega (arith, stop.within);
  front = utf8_front (c ∷ rest) (suc k) u (omega (arith, stop.within)) at;
  begun = (Text, stop.more, (eq-eqb c 34 quote, stop.begun));
  most = none;
}
  where
    at : (j : ℕ) → j < suc k → get_or (c ∷ rest) j 0 < 128
    at zero h = omega arith
    at (suc j) h = stop.ascii j (omega arith)

    none : (m : ℕ) → suc k < m → m ≤ length (c ∷ rest) → IsUtf8 (take m (c ∷ rest)) → Begins (take m (c ∷ rest)) → ⊥
    none zero longer within front begun = absurd (omega arith)
    none (suc m) longer within front begun =
        let text : begun.0 ≡ Text = only_text begun.0 (subst (FirstOf begun.0) quote (first_of begun.0 c (take m rest ++ begun.1) begun.2)) in
        let token : IsToken Text (c ∷ (take m rest ++ begun.1)) = subst (λ class. IsToken class (c ∷ (take m rest ++ begun.1))) text begun.2 in
        text_stuck rest 1 (suc k) m begun.1 e (omega arith) (omega arith) token.1

name_lit_stuck : (c : ℕ) (rest : List ℕ) → IsUtf8 (c ∷ rest) → c ≡ 39 → word_len (chars rest) ≡ 0 → Stuck (c ∷ rest) 1
name_lit_stuck c rest u tick nothing = record {
  within = omega arith;
  front = front_one c rest u (omega arith);
  begun = (NameLit, 97 ∷ [], (eq-eqb c 39 tick, word_a));
  most = none;
}
  where
    none : (m : ℕ) → 1 < m → m ≤ length (c ∷ rest) → IsUtf8 (take m (c ∷ rest)) → Begins (take m (c ∷ rest)) → ⊥
    none zero longer within front begun = absurd (omega arith)
    none (suc m) longer within front begun =
        let name : begun.0 ≡ NameLit = only_name_lit begun.0 (subst (FirstOf begun.0) tick (first_of begun.0 c (take m rest ++ begun.1) begun.2)) in
        let token : IsToken NameLit (c ∷ (take m rest ++ begun.1)) = subst (λ class. IsToken class (c ∷ (take m rest ++ begun.1))) name begun.2 in
        let word = word_begun rest m begun.1 (omega arith) (omega arith) (behind_one c (take m rest) front (omega arith)) token.1 in
        omega (arith, word, nothing)

word_stuck : (c : ℕ) (rest : List ℕ) → ((class : TokenClass) → FirstOf class c → class ≡ Word) → word_len (chars (c ∷ rest)) ≡ 0 → Stuck (c ∷ rest) 0
word_stuck c rest only nothing = record {
  within = omega arith;
  front = IsUtf8-nil;
  begun = (Symbol, 61 ∷ 61 ∷ [], inr refl);
  most = none;
}
  where
    none : (m : ℕ) → 0 < m → m ≤ length (c ∷ rest) → IsUtf8 (take m (c ∷ rest)) → Begins (take m (c ∷ rest)) → ⊥
    none zero longer within front begun = absurd (omega arith)
    none (suc m) longer within front begun =
        let is_word : begun.0 ≡ Word = only begun.0 (first_of begun.0 c (take m rest ++ begun.1) begun.2) in
        let token : IsToken Word (c ∷ (take m rest ++ begun.1)) = subst (λ class. IsToken class (c ∷ (take m rest ++ begun.1))) is_word begun.2 in
        let word = word_begun (c ∷ rest) (suc m) begun.1 (omega arith) within front token in
        omega (arith, word, nothing)

quoted_says : (c : ℕ) (rest : List ℕ) → IsUtf8 (c ∷ rest) → c ≡ 34 → (step : Step) → text_step false 1 rest ≡ step → TextSays 1 rest step → Says (c ∷ rest) step
quoted_says c rest u quote End e h = absurd h
quoted_says c rest u quote (Skip m) e h = absurd h
quoted_says c rest u quote (Take class m) e h =
    let long : suc h.1 ≡ m = omega (arith, h.2) in
    let text : Found (c ∷ rest) Text (suc h.1) = record {
      some = omega arith;
      within = omega (arith, h.3.within);
      form = (eq-eqb c 34 quote, h.3.form);
      behind = utf8_behind rest _ (behind_one c rest u (omega arith)) h.3.within h.3.ascii;
    } in
    subst (λ k. Found (c ∷ rest) k m) (sym h.0) (subst (Found (c ∷ rest) Text) long text)
quoted_says c rest u quote (Refuse m) e h =
    let place : m ≡ suc h.0 = omega (arith, h.1) in
    subst (Stuck (c ∷ rest)) (sym place) (quoted_stuck c rest u quote h.0 (e ∙ ap Refuse place) h.2)

-- a length that isn't 0
not_none : (n : ℕ) → (suc n == 0) ≡ false
not_none n = grind (arith, nat_tests)

name_lit_says : (c : ℕ) (rest : List ℕ) → IsUtf8 (c ∷ rest) → c ≡ 39 → Says (c ∷ rest) (name_lit_step (word_len (chars rest)))
name_lit_says c rest u quote = over (word_len (chars rest)) refl
  where
    over : (n : ℕ) → word_len (chars rest) ≡ n → Says (c ∷ rest) (name_lit_step n)
    over zero e = name_lit_stuck c rest u quote e
    over (suc n) e =
        let front = word_front rest (behind_one c rest u (omega arith)) (omega (arith, e)) in
        let there : Found (c ∷ rest) NameLit (suc (suc n)) = record {
          some = omega arith;
          within = omega (arith, e, front.within);
          form = (eq-eqb c 39 quote, subst (λ k. IsWord (take k rest)) e front.word);
          behind = subst (λ k. IsUtf8 (drop k rest)) e front.behind;
        } in
        subst (λ b. Says (c ∷ rest) (cond b (Refuse 1) (Take NameLit (suc (suc n))))) (sym (not_none n)) there

word_says : (c : ℕ) (rest : List ℕ) → IsUtf8 (c ∷ rest) → ((class : TokenClass) → FirstOf class c → class ≡ Word) → Says (c ∷ rest) (word_step (word_len (chars (c ∷ rest))))
word_says c rest u only = over (word_len (chars (c ∷ rest))) refl
  where
    over : (n : ℕ) → word_len (chars (c ∷ rest)) ≡ n → Says (c ∷ rest) (word_step n)
    over zero e = word_stuck c rest only e
    over (suc n) e =
        let front = word_front (c ∷ rest) u (omega (arith, e)) in
        let there : Found (c ∷ rest) Word (suc n) = record {
          some = omega arith;
          within = omega (arith, e, front.within);
          form = subst (λ k. IsWord (take k (c ∷ rest))) e front.word;
          behind = subst (λ k. IsUtf8 (drop k (c ∷ rest))) e front.behind;
        } in
        subst (λ b. Says (c ∷ rest) (cond b (Refuse 0) (Take Word (suc n)))) (sym (not_none n)) there

-- What `next` says holds.
pub next_says : (left : List ℕ) → IsUtf8 left → Says left (next left)
unfolding next
next_says [] u = refl
next_says (c ∷ rest) u = over (is_blank c) (c == 35) (is_ascii_digit c) (c == 47) (is_symbol c) (c == 34) (c == 39) refl refl refl refl refl refl refl
  where
    over : (blank hash digit slash symbol quote tick : Bool) → is_blank c ≡ blank → (c == 35) ≡ hash → is_ascii_digit c ≡ digit → (c == 47) ≡ slash → is_symbol c ≡ symbol → (c == 34) ≡ quote → (c == 39) ≡ tick
        → Says (c ∷ rest) (cond blank (Skip 1) (cond hash (Skip (comment_len (c ∷ rest))) (cond digit (Take Natural (prefix_len is_ascii_digit (c ∷ rest))) (cond slash (Take Path (path_token_len rest)) (cond symbol (symbol_step c rest)
        (cond quote (text_step false 1 rest) (cond tick (name_lit_step (word_len (chars rest))) (word_step (word_len (chars (c ∷ rest)))))))))))
    over true hash digit slash symbol quote tick e f g h i j k = blank_says c rest u e
    over false true digit slash symbol quote tick e f g h i j k = comment_says c rest u (eqb-true c 35 f)
    over false false true slash symbol quote tick e f g h i j k = natural_says c rest u g
    over false false false true symbol quote tick e f g h i j k = path_says c rest u (eqb-true c 47 h)
    over false false false false true quote tick e f g h i j k = symbol_says c rest u i
    over false false false false false true tick e f g h i j k = quoted_says c rest u (eqb-true c 34 j) _ refl (text_says rest 1)
    over false false false false false false true e f g h i j k = name_lit_says c rest u (eqb-true c 39 k)
    over false false false false false false false e f g h i j k = word_says c rest u (λ class first. only_word class c g h i j k first)

-- What is taken where a token of so many bytes stands at the front: that one, or a longer one.
pub record Covers (left : List ℕ) (class : TokenClass) (m : ℕ) : Type 0 where
  pub other : TokenClass
  pub n : ℕ
  pub step : next left ≡ Take other n
  pub reach : m ≤ n
  pub same : m ≡ n → other ≡ class

-- the steps by the first character
step_natural : (c : ℕ) (rest : List ℕ) → is_ascii_digit c ≡ true → next (c ∷ rest) ≡ Take Natural (prefix_len is_ascii_digit (c ∷ rest))
unfolding next
step_natural c rest digit =
    let blank : is_blank c ≡ false = grind (arith, nat_tests) in
    let hash : (c == 35) ≡ false = grind (arith, nat_tests) in
    rw (blank, hash, digit) refl

step_path : (c : ℕ) (rest : List ℕ) → c ≡ 47 → next (c ∷ rest) ≡ Take Path (path_token_len rest)
unfolding next
step_path c rest slash = subst (λ d. next (d ∷ rest) ≡ Take Path (path_token_len rest)) (sym slash) refl

step_quoted : (c : ℕ) (rest : List ℕ) → c ≡ 34 → next (c ∷ rest) ≡ text_step false 1 rest
unfolding next
step_quoted c rest quote = subst (λ d. next (d ∷ rest) ≡ text_step false 1 rest) (sym quote) refl

step_name_lit : (c : ℕ) (rest : List ℕ) → c ≡ 39 → next (c ∷ rest) ≡ name_lit_step (word_len (chars rest))
unfolding next
step_name_lit c rest tick = subst (λ d. next (d ∷ rest) ≡ name_lit_step (word_len (chars rest))) (sym tick) refl

step_symbol : (c : ℕ) (rest : List ℕ) → is_symbol c ≡ true → next (c ∷ rest) ≡ symbol_step c rest
unfolding next
step_symbol c rest symbol =
    let blank : is_blank c ≡ false = grind (arith, nat_tests) in
    let hash : (c == 35) ≡ false = grind (arith, nat_tests) in
    let digit : is_ascii_digit c ≡ false = grind (arith, nat_tests) in
    let slash : (c == 47) ≡ false = grind (arith, nat_tests) in
    rw (blank, hash, digit, slash, symbol) refl

-- a letter, `_`, or no ASCII character
record IsOther (c : ℕ) : Type 0 where
  blank : is_blank c ≡ false
  hash : (c == 35) ≡ false
  digit : is_ascii_digit c ≡ false
  slash : (c == 47) ≡ false
  symbol : is_symbol c ≡ false
  quote : (c == 34) ≡ false
  tick : (c == 39) ≡ false

other_high : (c : ℕ) → 128 ≤ c → IsOther c
other_high c high = record {
  blank = grind (arith, nat_tests);
  hash = grind (arith, nat_tests);
  digit = grind (arith, nat_tests);
  slash = grind (arith, nat_tests);
  symbol = grind (arith, nat_tests);
  quote = grind (arith, nat_tests);
  tick = grind (arith, nat_tests);
}

other_letter : (c : ℕ) → (is_ascii_alphabetic c || c == 95) ≡ true → IsOther c
other_letter c letter = record {
  blank = grind (arith, nat_tests);
  hash = grind (arith, nat_tests);
  digit = grind (arith, nat_tests);
  slash = grind (arith, nat_tests);
  symbol = grind (arith, nat_tests);
  quote = grind (arith, nat_tests);
  tick = grind (arith, nat_tests);
}

step_word : (c : ℕ) (rest : List ℕ) → 1 ≤ word_len (chars (c ∷ rest)) → next (c ∷ rest) ≡ word_step (word_len (chars (c ∷ rest)))
unfolding next
step_word c rest some =
    let other : IsOther c = elim (cases_lt c 128) [ inl small ↦ other_letter c (word_first c rest small some) | inr high ↦ other_high c high ] in
    rw (other.blank, other.hash, other.digit, other.slash, other.symbol, other.quote, other.tick) refl

-- digits at the front are no more than the longest run
run_covers : (left : List ℕ) (m : ℕ) → m ≤ length left → AllPass is_ascii_digit (take m left) → m ≤ prefix_len is_ascii_digit left
run_covers left m within passes =
    elim (cases_lt (prefix_len is_ascii_digit left) m) [ inl longer ↦ absurd (run_is_longest is_ascii_digit left m longer within passes) | inr at_most ↦ at_most ]

first_digit : (left : List ℕ) (m : ℕ) → IsDigits (take m left) → begins_with is_ascii_digit left ≡ true
first_digit left zero h = absurd (omega (arith, h.0))
first_digit [] (suc m) h = absurd (omega (arith, h.0))
first_digit (c ∷ rest) (suc m) h = h.1 0 0 (omega arith)

natural_covers : (left : List ℕ) (m : ℕ) → m ≤ length left → IsToken Natural (take m left) → Covers left Natural m
natural_covers [] zero within h = absurd (omega (arith, h.0))
natural_covers [] (suc m) within h = absurd (omega (arith, h.0))
natural_covers (c ∷ rest) m within h = record {
  other = Natural;
  n = prefix_len is_ascii_digit (c ∷ rest);
  step = step_natural c rest (first_digit (c ∷ rest) m h);
  reach = run_covers (c ∷ rest) m within h.1;
  same = λ e. refl;
}

negative_covers : (left : List ℕ) (m : ℕ) → m ≤ length left → IsToken Negative (take m left) → Covers left Negative m
negative_covers left zero within h = absurd (false≢true h.0)
negative_covers [] (suc m) within h = absurd (false≢true h.0)
negative_covers (c ∷ rest) (suc m) within h =
    let minus : c ≡ 45 = eqb-true c 45 h.0 in
    let symbol : is_symbol c ≡ true = subst (λ d. is_symbol d ≡ true) (sym minus) refl in
    let equality : (c == 61) ≡ false = subst (λ d. (d == 61) ≡ false) (sym minus) refl in
    record {
      other = Negative;
      n = suc (prefix_len is_ascii_digit rest);
      step = step_symbol c rest symbol ∙ rw (equality, h.0, first_digit rest m h.1) refl;
      reach = omega (arith, run_covers rest m (omega arith) h.1.1);
      same = λ e. refl;
    }

name_lit_covers : (left : List ℕ) (m : ℕ) → m ≤ length left → IsToken NameLit (take m left) → Covers left NameLit m
name_lit_covers left zero within h = absurd (false≢true h.0)
name_lit_covers [] (suc m) within h = absurd (false≢true h.0)
name_lit_covers (c ∷ rest) (suc m) within h =
    let tick : c ≡ 39 = eqb-true c 39 h.0 in
    let most = word_longest rest m (omega arith) h.1 in
    over (word_len (chars rest)) (step_name_lit c rest tick) most
  where
    some : 1 ≤ m
    some = omega (arith, word_some (take m rest) h.1, length-take-le m rest (omega arith))

    over : (n : ℕ) → next (c ∷ rest) ≡ name_lit_step n → m ≤ n → Covers (c ∷ rest) NameLit (suc m)
    over zero e most = absurd (omega (arith, some))
    over (suc n) e most = record { other = NameLit; n = suc (suc n); step = e ∙ ap (λ b. cond b (Refuse 1) (Take NameLit (suc (suc n)))) (not_none n); reach = omega arith; same = λ _. refl }

word_covers : (left : List ℕ) (m : ℕ) → m ≤ length left → IsToken Word (take m left) → Covers left Word m
word_covers [] m within h = absurd (omega (arith, word_some (take m []) h, length-take-le {A = ℕ} m [] within))
word_covers (c ∷ rest) m within h =
    let some : 1 ≤ m = omega (arith, word_some (take m (c ∷ rest)) h, length-take-le m (c ∷ rest) within) in
    let most = word_longest (c ∷ rest) m within h in
    over some (word_len (chars (c ∷ rest))) (step_word c rest (omega (arith, some, most))) most
  where
    over : 1 ≤ m → (n : ℕ) → next (c ∷ rest) ≡ word_step n → m ≤ n → Covers (c ∷ rest) Word m
    over some zero e most = absurd (omega arith)
    over some (suc n) e most = record { other = Word; n = suc n; step = e ∙ ap (λ b. cond b (Refuse 0) (Take Word (suc n))) (not_none n); reach = most; same = λ _. refl }

text_covers : (left : List ℕ) (m : ℕ) → m ≤ length left → IsToken Text (take m left) → Covers left Text m
text_covers left zero within h = absurd (false≢true h.0)
text_covers [] (suc m) within h = absurd (false≢true h.0)
text_covers (c ∷ rest) (suc m) within h =
    let quote : c ≡ 34 = eqb-true c 34 h.0 in
    let taken = text_taken h.1 1 (drop m rest) in
    let long = length-take-le m rest (omega arith) in
    record {
      other = Text;
      n = 1 + length (take m rest);
      step = step_quoted c rest quote ∙ ap (text_step false 1) (sym (take-append-drop m rest)) ∙ taken;
      reach = omega (arith, long);
      same = λ _. refl;
    }

path_covers : (left : List ℕ) (m : ℕ) → m ≤ length left → IsToken Path (take m left) → Covers left Path m
path_covers left zero within h = absurd (false≢true h.0)
path_covers [] (suc m) within h = absurd (false≢true h.0)
path_covers (c ∷ rest) (suc m) within h = record {
  other = Path;
  n = path_token_len rest;
  step = step_path c rest (eqb-true c 47 h.0);
  reach = path_most c rest (suc m) within h;
  same = λ _. refl;
}

-- two `=`
record AreEquals (c : ℕ) (rest : List ℕ) (m : ℕ) : Type 0 where
  first : c ≡ 61
  second : begins_with (λ d. d == 61) rest ≡ true
  long : m ≡ 2

are_equals : (c : ℕ) (rest : List ℕ) (m : ℕ) → m ≤ length (c ∷ rest) → take m (c ∷ rest) ≡ 61 ∷ 61 ∷ [] → AreEquals c rest m
are_equals c rest zero within e = absurd (omega (arith, ap length e))
are_equals c rest (suc zero) within e = absurd (omega (arith, ap length e))
are_equals c [] (suc (suc m)) within e = absurd (omega arith)
are_equals c (d ∷ rest) (suc (suc m)) within e =
    let second : d ≡ 61 = cc in
    record { first = cc; second = eq-eqb d 61 second; long = omega (arith, ap length e, length-take-le (suc (suc m)) (c ∷ d ∷ rest) within) }

equality_covers : (c : ℕ) (rest : List ℕ) (m : ℕ) → AreEquals c rest m → Covers (c ∷ rest) Symbol m
equality_covers c rest m both =
    let symbol : is_symbol c ≡ true = subst (λ d. is_symbol d ≡ true) (sym both.first) refl in
    record {
      other = Symbol;
      n = 2;
      step = step_symbol c rest symbol ∙ rw (eq-eqb c 61 both.first, both.second) refl;
      reach = omega (arith, both.long);
      same = λ _. refl;
    }

one_covers : (c : ℕ) (rest : List ℕ) → is_symbol c ≡ true → Covers (c ∷ rest) Symbol 1
one_covers c rest symbol = over (c == 61 && begins_with (λ d. d == 61) rest) (c == 45 && begins_with is_ascii_digit rest) refl (step_symbol c rest symbol)
  where
    over : (equality negative : Bool) → (c == 45 && begins_with is_ascii_digit rest) ≡ negative
        → next (c ∷ rest) ≡ cond equality (Take Symbol 2) (cond negative (Take Negative (suc (prefix_len is_ascii_digit rest))) (Take Symbol 1)) → Covers (c ∷ rest) Symbol 1
    over true negative f e = record { other = Symbol; n = 2; step = e; reach = omega arith; same = λ _. refl }
    over false true f e =
        let some : 1 ≤ prefix_len is_ascii_digit rest = run_some rest (and_parts (c == 45) (begins_with is_ascii_digit rest) f).1 in
        record { other = Negative; n = suc (prefix_len is_ascii_digit rest); step = e; reach = omega arith; same = λ short. absurd (omega (arith, short, some)) }
    over false false f e = record { other = Symbol; n = 1; step = e; reach = omega arith; same = λ _. refl }

symbol_covers : (left : List ℕ) (m : ℕ) → m ≤ length left → IsToken Symbol (take m left) → Covers left Symbol m
symbol_covers left zero within h = elim h [ inl one ↦ absurd (omega (arith, one.0)) | inr two ↦ absurd (omega (arith, ap length two)) ]
symbol_covers [] (suc m) within h = absurd (omega arith)
symbol_covers (c ∷ rest) (suc m) within h =
    elim h [
      | inl one ↦
          let only : 1 ≡ suc m = omega (arith, one.0, length-take-le (suc m) (c ∷ rest) within) in
          subst (Covers (c ∷ rest) Symbol) only (one_covers c rest one.1)
      | inr two ↦ equality_covers c rest (suc m) (are_equals c rest (suc m) within two)
    ]

covers : (left : List ℕ) (class : TokenClass) (m : ℕ) → m ≤ length left → IsToken class (take m left) → Covers left class m
covers left Word m within h = word_covers left m within h
covers left Natural m within h = natural_covers left m within h
covers left Negative m within h = negative_covers left m within h
covers left NameLit m within h = name_lit_covers left m within h
covers left Text m within h = text_covers left m within h
covers left Path m within h = path_covers left m within h
covers left Symbol m within h = symbol_covers left m within h

-- what is taken is what stands there
pub found : (left : List ℕ) (class : TokenClass) (n : ℕ) → IsUtf8 left → next left ≡ Take class n → Found left class n
found left class n u e = subst (Says left) e (next_says left u)

pub separated : (left : List ℕ) (n : ℕ) → IsUtf8 left → next left ≡ Skip n → Separated left n
separated left n u e = subst (Says left) e (next_says left u)

pub end_from_next : (left : List ℕ) → IsUtf8 left → next left ≡ End → left ≡ []
end_from_next left u e = subst (Says left) e (next_says left u)

-- what separates tokens is skipped
pub next_separator : (left : List ℕ) (n : ℕ) → separator_len left ≡ n → 1 ≤ n → next left ≡ Skip n
unfolding next
next_separator [] n e some = absurd (omega (arith, e))
next_separator (c ∷ rest) n e some = over (is_blank c) (c == 35) e
  where
    over : (blank hash : Bool) → cond blank 1 (cond hash (comment_len (c ∷ rest)) 0) ≡ n
        → cond blank (Skip 1) (cond hash (Skip (comment_len (c ∷ rest))) (cond (is_ascii_digit c) (Take Natural (prefix_len is_ascii_digit (c ∷ rest))) (cond (c == 47) (Take Path (path_token_len rest)) (cond (is_symbol c) (symbol_step c rest)
        (cond (c == 34) (text_step false 1 rest) (cond (c == 39) (name_lit_step (word_len (chars rest))) (word_step (word_len (chars (c ∷ rest)))))))))) ≡ Skip n
    over true hash e = ap Skip e
    over false true e = ap Skip e
    over false false e = absurd (omega (arith, e))

-- where no token stands, and where the most characters end with which one begins
pub bad_from_next : (left : List ℕ) (n : ℕ) → IsUtf8 left → next left ≡ Refuse n → IsBad left n
bad_from_next left n u e =
    let stuck : Stuck left n = subst (Says left) e (next_says left u) in
    record {
      some = over left refl;
      no_separator = none (separator_len left) refl;
      no_token = λ class m within h. refused (covers left class m within h).step;
      within = stuck.within;
      front = stuck.front;
      begun = stuck.begun;
      most = stuck.most;
    }
  where
    over : (l : List ℕ) → left ≡ l → 1 ≤ length left
    over [] f = let ended : next left ≡ End = next_end left (ap length f) in absurd cc
    over (c ∷ rest) f = omega (arith, ap length f)

    none : (k : ℕ) → separator_len left ≡ k → separator_len left ≡ 0
    none zero f = f
    none (suc k) f = let skipped : next left ≡ Skip (suc k) = next_separator left (suc k) f (omega arith) in absurd cc

    refused : {class : TokenClass} {m : ℕ} → next left ≡ Take class m → ⊥
    refused f = cc

same_bad : (left : List ℕ) (n m : ℕ) → IsBad left n → IsBad left m → n ≡ m
same_bad left n m bad other =
    elim (cases_lt n m) [
      | inl below ↦ absurd (bad.most m below other.within other.front other.begun)
      | inr at_least ↦ elim (cases_lt m n) [ inl below ↦ absurd (other.most n below bad.within bad.front bad.begun) | inr at_most ↦ omega arith ]
    ]

pub next_from_bad : (left : List ℕ) (n : ℕ) → IsUtf8 left → IsBad left n → next left ≡ Refuse n
next_from_bad left n u bad = over (next left) refl (next_says left u)
  where
    over : (step : Step) → next left ≡ step → Says left step → next left ≡ Refuse n
    over End e says = absurd (omega (arith, bad.some, ap length says))
    over (Skip m) e says = absurd (omega (arith, says.some, says.form, bad.no_separator))
    over (Take class m) e says = absurd (bad.no_token class m says.within says.form)
    over (Refuse m) e says = e ∙ ap Refuse (same_bad left m n (bad_from_next left m u e) bad)

same_step : (left : List ℕ) {class other : TokenClass} {n m : ℕ} → next left ≡ Take class n → next left ≡ Take other m → n ≡ m
same_step left e f = cc

-- a taken token is the longest one
pub longest_from_next : (left : List ℕ) (class : TokenClass) (n : ℕ) → IsUtf8 left → next left ≡ Take class n → IsLongest left class n
longest_from_next left class n u e =
    let there = found left class n u e in
    record {
      within = there.within;
      form = there.form;
      longest = λ other m longer within h. let more = covers left other m within h in omega (arith, more.reach, same_step left e more.step);
    }

-- and the longest token is taken
pub next_from_longest : (left : List ℕ) (class : TokenClass) (n : ℕ) → IsUtf8 left → IsLongest left class n → next left ≡ Take class n
next_from_longest left class n u token =
    let more = covers left class n token.within token.form in
    let there = found left more.other more.n u more.step in
    elim (cases_lt n more.n) [
      | inl shorter ↦ absurd (token.longest more.other more.n shorter there.within there.form)
      | inr at_most ↦
          let long : n ≡ more.n = omega (arith, more.reach) in
          let same = more.same long in
          more.step ∙ ap (λ k. Take k more.n) same ∙ ap (Take class) (sym long)
    ]

-- what the code finds out of the first character
pub next_blank : (text : List ℕ) → 0 < length text → is_blank (get_or text 0 0) ≡ true → next text ≡ Skip 1
unfolding next
next_blank [] h blank = absurd (omega arith)
next_blank (c ∷ rest) h blank = rw blank refl

pub next_comment : (text : List ℕ) → 0 < length text → get_or text 0 0 ≡ 35 → next text ≡ Skip (comment_len text)
unfolding next
next_comment [] h hash = absurd (omega arith)
next_comment (c ∷ rest) h hash = subst (λ d. next (d ∷ rest) ≡ Skip (comment_len (d ∷ rest))) (sym hash) refl

pub next_natural : (text : List ℕ) → 0 < length text → is_ascii_digit (get_or text 0 0) ≡ true → next text ≡ Take Natural (prefix_len is_ascii_digit text)
next_natural [] h digit = absurd (omega arith)
next_natural (c ∷ rest) h digit = step_natural c rest digit

pub next_path : (text : List ℕ) → 0 < length text → get_or text 0 0 ≡ 47 → next text ≡ Take Path (path_token_len (drop 1 text))
next_path [] h slash = absurd (omega arith)
next_path (c ∷ rest) h slash = step_path c rest slash

pub next_symbol : (text : List ℕ) → 0 < length text → is_symbol (get_or text 0 0) ≡ true → next text ≡ symbol_step (get_or text 0 0) (drop 1 text)
next_symbol [] h symbol = absurd (omega arith)
next_symbol (c ∷ rest) h symbol = step_symbol c rest symbol

pub next_quoted : (text : List ℕ) → 0 < length text → get_or text 0 0 ≡ 34 → next text ≡ text_step false 1 (drop 1 text)
next_quoted [] h quote = absurd (omega arith)
next_quoted (c ∷ rest) h quote = step_quoted c rest quote

pub next_name_lit : (text : List ℕ) → 0 < length text → get_or text 0 0 ≡ 39 → next text ≡ name_lit_step (word_len (chars (drop 1 text)))
next_name_lit [] h tick = absurd (omega arith)
next_name_lit (c ∷ rest) h tick = step_name_lit c rest tick

-- what isn't true is false
false_from_not : (b : Bool) → ¬ (b ≡ true) → b ≡ false
false_from_not true h = absurd (h refl)
false_from_not false h = refl

pub next_word : (text : List ℕ) → 0 < length text → is_blank (get_or text 0 0) ≡ false → get_or text 0 0 ≢ 35 → is_ascii_digit (get_or text 0 0) ≡ false → get_or text 0 0 ≢ 47
    → is_symbol (get_or text 0 0) ≡ false → get_or text 0 0 ≢ 34 → get_or text 0 0 ≢ 39 → next text ≡ word_step (word_len (chars text))
unfolding next
next_word [] h blank hash digit slash symbol quote tick = absurd (omega arith)
next_word (c ∷ rest) h blank hash digit slash symbol quote tick =
    rw (blank, false_from_not (c == 35) (λ e. hash (eqb-true c 35 e)), digit, false_from_not (c == 47) (λ e. slash (eqb-true c 47 e)), symbol, false_from_not (c == 34) (λ e. quote (eqb-true c 34 e)), false_from_not (c == 39) (λ e. tick (eqb-true c 39 e))) refl

-- the bytes behind the first one, as the code cuts them
pub rest_is : (text bytes : List ℕ) (n : ℕ) → bytes ≡ text → n ≡ length text → take (n - 1) (drop 1 bytes) ≡ drop 1 text
rest_is text bytes n e long = ap (λ k. take (k - 1) (drop 1 bytes)) (long ∙ ap length (sym e)) ∙ take_rest bytes 1 ∙ ap (drop 1) e

pub not_empty : (text bytes : List ℕ) → bytes ≡ text → false ≡ (length bytes == 0) → 0 < length text
not_empty text bytes e some = over text (some ∙ ap (λ l. length l == 0) e)
  where
    over : (l : List ℕ) → false ≡ (length l == 0) → 0 < length l
    over [] h = absurd (false≢true h)
    over (c ∷ l) h = omega arith
