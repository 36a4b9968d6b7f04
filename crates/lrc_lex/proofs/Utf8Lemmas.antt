-- Where a text in UTF-8 may be cut, and the longest word at its front.
use Rattle.std.proofs.Common.{◌≡◌, ℕ, zero, suc, ◌+◌, ◌<◌, ◌≤◌, ◌==◌, Bool, true, false, cond, ◌||◌, nat_lt, inl, inr, List, [], ◌∷◌, ◌++◌, length, get_or, take, drop, IsUtf8, sym, ap, refl, ◌∙◌, subst, arith, append-nil, length-append, length-drop, length-take-le, take-append-drop}
use Rattle.std.specs.Prelude.{Contains}
use Rattle.std.specs.Char.{is_ascii_alphabetic, len_utf8}
use Rattle.std.specs.List.{list_all}
use Rattle.std.specs.Str.{chars, IsCharBoundary}
use Rattle.std.proofs.lemmas.Bool.{false≢true, and_parts, and_from}
use Rattle.std.proofs.lemmas.Bool.Decides.{nat_tests}
use Rattle.std.proofs.lemmas.List.Elements.{Contains-append_cases}
use Rattle.std.proofs.lemmas.Str.{IsUtf8-drop, IsUtf8-take, IsUtf8-encode, encode_ascii, IsCharBoundary-after_ascii, encodes-append, encodes-chars, chars-encodes, scalars-chars, chars-append, drop_past_char, chars_past_char, IsUtf8-past_char, IsCharBoundary-from_drop, IsCharBoundary-past_char, length-encode, len_utf8_bounds, inside_one}
use lib.Utf8.{scalars, encode, encodes}
use Rattle.unicode_ident.specs.Ident.{is_xid_start, is_xid_continue}
use Rattle.unicode_ident.proofs.IdentLemmas.{is_xid_start-ascii, is_xid_continue-ascii, is_xid_start-is_xid_continue}
use Rattle.lrc_lex.specs.Forms.{starts_word, is_word, IsWord}
use Rattle.lrc_lex.specs.Front.{run_len, word_len}

-- behind an ASCII character the text is UTF-8 again
pub boundary_behind : (text : List ℕ) → IsUtf8 text → 1 ≤ length text → get_or text 0 0 < 128 → IsCharBoundary text 1
boundary_behind text u some ascii = IsCharBoundary-after_ascii text 0 u (omega arith) ascii

-- and so it is behind a front of ASCII characters
pub utf8_behind : (text : List ℕ) (n : ℕ) → IsUtf8 text → n ≤ length text → ((k : ℕ) → k < n → get_or text k 0 < 128) → IsUtf8 (drop n text)
utf8_behind text zero u within ascii = u
utf8_behind text (suc n) u within ascii =
    let count : n + 1 ≡ suc n = omega arith in
    subst (λ k. IsUtf8 (drop k text)) count (IsUtf8-drop text (n + 1) u (IsCharBoundary-after_ascii text n u (omega arith) (ascii n (omega arith))))

take_front : (xs ys : List ℕ) → take (length xs) (xs ++ ys) ≡ xs
take_front [] ys = refl
take_front (x ∷ xs) ys = ap (λ l. x ∷ l) (take_front xs ys)

drop_front : (xs ys : List ℕ) → drop (length xs) (xs ++ ys) ≡ ys
drop_front [] ys = refl
drop_front (x ∷ xs) ys = drop_front xs ys

scalars_parts : (xs ys : List ℕ) → scalars (xs ++ ys) ≡ true → (scalars xs ≡ true) × (scalars ys ≡ true)
scalars_parts [] ys e = (refl, e)
scalars_parts (x ∷ xs) ys e = let parts = and_parts _ _ e in let more = scalars_parts xs ys parts.1 in (and_from _ _ parts.0 more.0, more.1)

length_cons : (c : ℕ) (cs : List ℕ) → length (encodes (c ∷ cs)) ≡ len_utf8 c + length (encodes cs)
length_cons c cs = length-append (encode c) (encodes cs) ∙ ap (λ n. n + length (encodes cs)) (length-encode c)

-- characters cut where the longest run of those that continue a word ends
record RunCut (cs : List ℕ) : Type 0 where
  front : List ℕ
  rest : List ℕ
  whole : cs ≡ front ++ rest
  run : list_all is_xid_continue front ≡ true
  long : run_len cs ≡ length (encodes front)

run_cut : (cs : List ℕ) → RunCut cs
run_cut [] = record { front = []; rest = []; whole = refl; run = refl; long = refl }
run_cut (c ∷ cs) = over (is_xid_continue c) refl (run_cut cs)
  where
    over : (b : Bool) → is_xid_continue c ≡ b → RunCut cs → RunCut (c ∷ cs)
    over true e cut = record {
      front = c ∷ cut.front;
      rest = cut.rest;
      whole = ap (λ l. c ∷ l) cut.whole;
      run = and_from _ _ e cut.run;
      long = ap (λ b. cond b (len_utf8 c + run_len cs) 0) e ∙ ap (λ n. len_utf8 c + n) cut.long ∙ sym (length_cons c cut.front);
    }
    over false e cut = record { front = []; rest = c ∷ cs; whole = refl; run = refl; long = ap (λ b. cond b (len_utf8 c + run_len cs) 0) e }

-- no run of them at the front is longer
run_most : (xs ys : List ℕ) → list_all is_xid_continue xs ≡ true → length (encodes xs) ≤ run_len (xs ++ ys)
run_most [] ys e = omega arith
run_most (x ∷ xs) ys e =
    let parts = and_parts _ _ e in
    let step : run_len (x ∷ (xs ++ ys)) ≡ len_utf8 x + run_len (xs ++ ys) = ap (λ b. cond b (len_utf8 x + run_len (xs ++ ys)) 0) parts.0 in
    omega (arith, step, length_cons x xs, run_most xs ys parts.1)

-- the longest word at the front of characters
record WordCut (cs : List ℕ) : Type 0 where
  front : List ℕ
  rest : List ℕ
  whole : cs ≡ front ++ rest
  word : is_word front ≡ true
  long : word_len cs ≡ length (encodes front)

word_cut : (cs : List ℕ) → 1 ≤ word_len cs → WordCut cs
word_cut [] some = absurd (omega arith)
word_cut (c ∷ cs) some = over (starts_word c) refl some
  where
    over : (b : Bool) → starts_word c ≡ b → 1 ≤ cond b (len_utf8 c + run_len cs) 0 → WordCut (c ∷ cs)
    over true e some =
        let cut = run_cut cs in
        record {
          front = c ∷ cut.front;
          rest = cut.rest;
          whole = ap (λ l. c ∷ l) cut.whole;
          word = and_from _ _ e cut.run;
          long = ap (λ b. cond b (len_utf8 c + run_len cs) 0) e ∙ ap (λ n. len_utf8 c + n) cut.long ∙ sym (length_cons c cut.front);
        }
    over false e some = absurd (omega arith)

word_most : (xs ys : List ℕ) → is_word xs ≡ true → length (encodes xs) ≤ word_len (xs ++ ys)
word_most [] ys e = absurd (false≢true e)
word_most (x ∷ xs) ys e =
    let parts = and_parts _ _ e in
    let step : word_len (x ∷ (xs ++ ys)) ≡ len_utf8 x + run_len (xs ++ ys) = ap (λ b. cond b (len_utf8 x + run_len (xs ++ ys)) 0) parts.0 in
    omega (arith, step, length_cons x xs, run_most xs ys parts.1)

-- The longest word at the front of a text is one, and the text is UTF-8 behind it.
pub record WordFront (text : List ℕ) (n : ℕ) : Type 0 where
  pub within : n ≤ length text
  pub word : IsWord (take n text)
  pub behind : IsUtf8 (drop n text)

pub word_front : (text : List ℕ) → IsUtf8 text → 1 ≤ word_len (chars text) → WordFront text (word_len (chars text))
word_front text u some =
    let cut = word_cut (chars text) some in
    let parts = scalars_parts cut.front cut.rest (subst (λ cs. scalars cs ≡ true) cut.whole (scalars-chars text u)) in
    let bytes : text ≡ encodes cut.front ++ encodes cut.rest = sym (encodes-chars text u) ∙ ap encodes cut.whole ∙ encodes-append cut.front cut.rest in
    let front : take (word_len (chars text)) text ≡ encodes cut.front = ap (λ n. take n text) cut.long ∙ ap (λ l. take (length (encodes cut.front)) l) bytes ∙ take_front (encodes cut.front) (encodes cut.rest) in
    let rest : drop (word_len (chars text)) text ≡ encodes cut.rest = ap (λ n. drop n text) cut.long ∙ ap (λ l. drop (length (encodes cut.front)) l) bytes ∙ drop_front (encodes cut.front) (encodes cut.rest) in
    record {
      within = omega (arith, cut.long, ap length bytes, length-append (encodes cut.front) (encodes cut.rest));
      word = subst IsWord (sym front) ((cut.front, (parts.0, refl)), ap is_word (chars-encodes cut.front parts.0) ∙ cut.word);
      behind = subst IsUtf8 (sym rest) (cut.rest, (parts.1, refl));
    }

-- no word at the front is longer
pub word_longest : (text : List ℕ) (m : ℕ) → m ≤ length text → IsWord (take m text) → m ≤ word_len (chars text)
word_longest text m within word =
    let whole : chars text ≡ chars (take m text) ++ chars (drop m text) = ap chars (sym (take-append-drop m text)) ∙ chars-append (take m text) (drop m text) word.0 in
    let most = word_most (chars (take m text)) (chars (drop m text)) word.1 in
    let bytes : length (encodes (chars (take m text))) ≡ m = ap length (encodes-chars (take m text) word.0) ∙ length-take-le m text within in
    omega (arith, bytes, ap word_len whole, most)

-- a word has one byte or more
pub word_some : (text : List ℕ) → IsWord text → 1 ≤ length text
unfolding chars
word_some [] word = absurd (false≢true word.1)
word_some (c ∷ rest) word = omega arith

-- a text that begins with an ASCII character has it as its first character
chars_more : List ℕ → List ℕ
chars_more [] = []
chars_more (d ∷ rest) = chars (d ∷ rest)

small_test : (x : ℕ) → x < 128 → nat_lt x 128 ≡ true
small_test x h = grind (arith, nat_tests)

chars_first : (c : ℕ) (rest : List ℕ) → c < 128 → chars (c ∷ rest) ≡ c ∷ chars_more rest
unfolding chars chars_more
chars_first c [] small = rw (small_test c small) refl
chars_first c (d ∷ rest) small = rw (small_test c small) refl

-- so it is a letter or `_` where a word begins there
pub word_first : (c : ℕ) (rest : List ℕ) → c < 128 → 1 ≤ word_len (chars (c ∷ rest)) → (is_ascii_alphabetic c || c == 95) ≡ true
word_first c rest small some =
    let begins : 1 ≤ word_len (c ∷ chars_more rest) = subst (λ cs. 1 ≤ word_len cs) (chars_first c rest small) some in
    over (starts_word c) refl begins
  where
    over : (b : Bool) → starts_word c ≡ b → 1 ≤ cond b (len_utf8 c + run_len (chars_more rest)) 0 → (is_ascii_alphabetic c || c == 95) ≡ true
    over true e some = ap (λ b. b || c == 95) (sym (is_xid_start-ascii c small)) ∙ e
    over false e some = absurd (omega arith)

-- no byte of a character but the first one is 0
no_zero_in : (c : ℕ) → 0 < c → ¬ Contains (encode c) 0
no_zero_in c some there =
    let zero_there : get_or (encode c) there.0 0 ≡ 0 = there.2 in
    let same : c ≡ get_or (encode c) there.0 0 = inside_one c [] (encode c) there.0 (sym (append-nil (encode c))) there.1 (omega (arith, zero_there)) in
    omega (arith, same, zero_there)

continues_some : (c : ℕ) → is_xid_continue c ≡ true → 0 < c
continues_some zero e = absurd (false≢true (sym (is_xid_continue-ascii 0 (omega arith)) ∙ e))
continues_some (suc c) e = omega arith

no_zero_run : (cs : List ℕ) → list_all is_xid_continue cs ≡ true → ¬ Contains (encodes cs) 0
no_zero_run [] e there = omega (arith, there.1)
no_zero_run (c ∷ cs) e there =
    let parts = and_parts _ _ e in
    elim (Contains-append_cases (encode c) (encodes cs) 0 there) [ inl here ↦ no_zero_in c (continues_some c parts.0) here | inr later ↦ no_zero_run cs parts.1 later ]

starts_continues : (c : ℕ) → starts_word c ≡ true → is_xid_continue c ≡ true
starts_continues c e = over (is_xid_start c) refl e
  where
    over : (b : Bool) → is_xid_start c ≡ b → (b || c == 95) ≡ true → is_xid_continue c ≡ true
    over true f g = is_xid_start-is_xid_continue c f
    over false f g = let same : c ≡ 95 = grind (arith, nat_tests) in subst (λ x. is_xid_continue x ≡ true) (sym same) (is_xid_continue-ascii 95 (omega arith))

word_continues : (cs : List ℕ) → is_word cs ≡ true → list_all is_xid_continue cs ≡ true
word_continues [] e = refl
word_continues (c ∷ cs) e = let parts = and_parts _ _ e in and_from _ _ (starts_continues c parts.0) parts.1

-- no byte of a word is 0
pub no_zero_word : (text : List ℕ) → IsWord text → ¬ Contains text 0
no_zero_word text word = subst (λ bytes. ¬ Contains bytes 0) (encodes-chars text word.0) (no_zero_run (chars text) (word_continues (chars text) word.1))

-- Each character up to a place continues a word.
pub record RunsTo (text : List ℕ) (at : ℕ) : Type 0 where
  pub within : at ≤ length text
  pub utf8 : IsUtf8 (drop at text)
  pub so_far : run_len (chars text) ≡ at + run_len (chars (drop at text))

pub runs_to_start : (text : List ℕ) → IsUtf8 text → RunsTo text 0
runs_to_start text u = record { within = omega arith; utf8 = u; so_far = omega arith }

-- the first character of what is left
pub run_more : (text : List ℕ) (at c : ℕ) (rest : List ℕ) → RunsTo text at → drop at text ≡ encode c ++ rest → is_xid_continue c ≡ true → RunsTo text (at + len_utf8 c)
run_more text at c rest r e ok =
    let behind : drop (at + len_utf8 c) text ≡ rest = drop_past_char text rest at c e in
    let first : chars (drop at text) ≡ c ∷ chars rest = chars_past_char (drop at text) rest c r.utf8 e in
    let step : run_len (c ∷ chars rest) ≡ len_utf8 c + run_len (chars rest) = ap (λ b. cond b (len_utf8 c + run_len (chars rest)) 0) ok in
    record {
      within = omega (arith, ap length e, length-append (encode c) rest, length-encode c, length-drop at text, r.within);
      utf8 = subst IsUtf8 (sym behind) (IsUtf8-past_char (drop at text) rest c r.utf8 e);
      so_far = omega (arith, r.so_far, ap run_len first, step, ap (λ l. run_len (chars l)) behind);
    }

pub run_stops : (text : List ℕ) (at c : ℕ) (rest : List ℕ) → RunsTo text at → drop at text ≡ encode c ++ rest → is_xid_continue c ≡ false → at ≡ run_len (chars text)
run_stops text at c rest r e other =
    let first : chars (drop at text) ≡ c ∷ chars rest = chars_past_char (drop at text) rest c r.utf8 e in
    let step : run_len (c ∷ chars rest) ≡ 0 = ap (λ b. cond b (len_utf8 c + run_len (chars rest)) 0) other in
    omega (arith, r.so_far, ap run_len first, step)

run_nil : (l : List ℕ) → length l ≡ 0 → run_len (chars l) ≡ 0
unfolding chars
run_nil [] e = refl
run_nil (c ∷ cs) e = absurd (omega arith)

pub run_ends : (text : List ℕ) (at : ℕ) → RunsTo text at → length (drop at text) ≡ 0 → at ≡ run_len (chars text)
run_ends text at r e = omega (arith, r.so_far, run_nil (drop at text) e)

-- a place of a text behind which it is UTF-8
pub boundary_at : (text : List ℕ) (at : ℕ) → RunsTo text at → IsCharBoundary text at
boundary_at text at r = IsCharBoundary-from_drop text at r.within r.utf8

-- the word that begins with the first character of a text
pub first_boundary : (text : List ℕ) (c : ℕ) (rest : List ℕ) → IsUtf8 text → text ≡ encode c ++ rest → IsCharBoundary text (len_utf8 c)
first_boundary text c rest u e =
    let count : 0 + len_utf8 c ≡ len_utf8 c = omega arith in
    subst (IsCharBoundary text) count (IsCharBoundary-past_char text rest 0 c (omega arith) u e)

pub word_len_at : (text : List ℕ) (c : ℕ) (rest : List ℕ) → IsUtf8 text → text ≡ encode c ++ rest → word_len (chars text) ≡ cond (starts_word c) (len_utf8 c + run_len (chars (drop (len_utf8 c) text))) 0
word_len_at text c rest u e =
    let count : 0 + len_utf8 c ≡ len_utf8 c = omega arith in
    let behind : drop (len_utf8 c) text ≡ rest = subst (λ n. drop n text ≡ rest) count (drop_past_char text rest 0 c e) in
    ap word_len (chars_past_char text rest c u e) ∙ ap (λ l. cond (starts_word c) (len_utf8 c + run_len (chars l)) 0) (sym behind)

-- and that of none
pub word_len_nil : (text : List ℕ) → length text ≡ 0 → word_len (chars text) ≡ 0
unfolding chars
word_len_nil [] e = refl
word_len_nil (c ∷ cs) e = absurd (omega arith)

-- a front of ASCII characters
pub utf8_front : (text : List ℕ) (n : ℕ) → IsUtf8 text → n ≤ length text → ((k : ℕ) → k < n → get_or text k 0 < 128) → IsUtf8 (take n text)
utf8_front text n u within ascii = IsUtf8-take text n u (IsCharBoundary-from_drop text n within (utf8_behind text n u within ascii))

-- a word that begins with an ASCII character
pub word_head : (c : ℕ) (rest : List ℕ) → IsWord (c ∷ rest) → c < 128 → (is_ascii_alphabetic c || c == 95) ≡ true
word_head c rest word small =
    let starts : starts_word c ≡ true = (and_parts _ _ (subst (λ cs. is_word cs ≡ true) (chars_first c rest small) word.1)).0 in
    ap (λ b. b || c == 95) (sym (is_xid_start-ascii c small)) ∙ starts

-- `a` is a word
pub word_a : IsWord (97 ∷ [])
unfolding chars_more
word_a =
    let small : 97 < 128 = omega arith in
    let starts : starts_word 97 ≡ true = ap (λ b. b || 97 == 95) (is_xid_start-ascii 97 small) in
    (subst IsUtf8 (encode_ascii 97 small) (IsUtf8-encode 97 refl), ap is_word (chars_first 97 [] small) ∙ and_from _ _ starts refl)

-- where a word begins with the first characters of a text, a word stands at its front
pub word_begun : (text : List ℕ) (m : ℕ) (more : List ℕ) → 1 ≤ m → m ≤ length text → IsUtf8 (take m text) → IsWord (take m text ++ more) → 1 ≤ word_len (chars text)
word_begun text m more some within u word =
    let whole : chars text ≡ chars (take m text) ++ chars (drop m text) = ap chars (sym (take-append-drop m text)) ∙ chars-append (take m text) (drop m text) u in
    let other : chars (take m text ++ more) ≡ chars (take m text) ++ chars more = chars-append (take m text) more u in
    let bytes : length (encodes (chars (take m text))) ≡ m = ap length (encodes-chars (take m text) u) ∙ length-take-le m text within in
    subst (λ cs. 1 ≤ word_len cs) (sym whole) (over (chars (take m text)) (omega (arith, bytes)) (subst (λ cs. is_word cs ≡ true) other word.1))
  where
    over : (front : List ℕ) → 1 ≤ length (encodes front) → is_word (front ++ chars more) ≡ true → 1 ≤ word_len (front ++ chars (drop m text))
    over [] some word = absurd (omega arith)
    over (c ∷ cs) some word =
        let starts = (and_parts _ _ word).0 in
        let step : word_len (c ∷ (cs ++ chars (drop m text))) ≡ len_utf8 c + run_len (cs ++ chars (drop m text)) = ap (λ b. cond b (len_utf8 c + run_len (cs ++ chars (drop m text))) 0) starts in
        omega (arith, step, len_utf8_bounds c)
