-- The tokens of a text, or its first fault: there is one list of them or one fault, each token is the longest at its place, and reading on completes what was read.
use Rattle.std.proofs.Common.{◌≡◌, ℕ, zero, suc, ◌+◌, ◌-◌, ◌<◌, ◌≤◌, Bool, true, false, List, [], ◌∷◌, ◌++◌, length, take, drop, IsUtf8, sym, ap, refl, ◌∙◌, subst, arith, length-drop, append_assoc, inl, inr, ◌⊎◌, Result, Ok, Err, IfOk, IfErr, ◌≢◌}
use Rattle.std.specs.Prelude.{All, slice_range}
use Rattle.std.specs.Str.{IsValidUpTo, is_utf8}
use Rattle.std.proofs.lemmas.Bool.{leb-true, false≢true, cases_lt}
use Rattle.std.proofs.lemmas.List.{append-nil, take_all, drop-drop}
use Rattle.std.proofs.lemmas.List.Elements.{All-nil, All-cons}
use Rattle.std.proofs.lemmas.Str.{IsUtf8-nil, IsUtf8-from_is_utf8, is_utf8-from_IsUtf8, utf8_valid_len-IsUtf8, utf8_valid_len-IsValidUpTo}
use Rattle.lrc_base.specs.declared.limits.TheConstants.{NAME_LIMIT}
use Rattle.lrc_base.specs.Name.{IsName}
use Rattle.lrc_lex.specs.declared.TokenClass.{TokenClass}
use Rattle.lrc_lex.specs.declared.TokenClass.TheVariants.{Word, Natural, Negative, NameLit, Text, Path, Symbol}
use Rattle.lrc_lex.specs.declared.Token.{Token}
use Rattle.lrc_lex.specs.declared.LexFault.{LexFault}
use Rattle.lrc_lex.specs.declared.LexFault.TheVariants.{NotUtf8, BadChar, Memory}
use Rattle.lrc_lex.specs.declared.scan.Step.{Step}
use Rattle.lrc_lex.specs.declared.scan.Step.TheVariants.{End, Skip, Take, Refuse}
use Rattle.lrc_lex.specs.Decimal.{IsNatural, IsNegative}
use Rattle.lrc_lex.specs.Forms.{IsToken, IsWord}
use Rattle.lrc_lex.specs.Front.{next}
use Rattle.lrc_lex.specs.Tokens.{fits, excess, are_steps_small, token_at, TokensFrom, ends, skips, takes, FaultFrom, refuses, exceeds, past_skip, past_token, Tokens, FirstFault, not_utf8, among_tokens}
use Rattle.lrc_lex.specs.Place.{IsLongest}
use Rattle.lrc_lex.specs.Longest.{IsTokenOf}
use Rattle.lrc_lex.proofs.Utf8Lemmas.{word_some, no_zero_word}
use Rattle.lrc_lex.proofs.NextLemmas.{Found, Separated, found, separated, end_from_next, longest_from_next, next_from_longest, next_separator, bad_from_next}
use Rattle.lrc_lex.proofs.Steps.{one_list_from, one_fault_from, never_both_from}

-- a text is UTF-8 or not
pub not_both_utf8 : {text : List ℕ} {n : ℕ} → IsUtf8 text → IsValidUpTo text n → ⊥
not_both_utf8 {text = text} {n = n} u v = omega (arith, utf8_valid_len-IsUtf8 text u, utf8_valid_len-IsValidUpTo text n v, v.short)

pub one_list : {text : List ℕ} {a b : List Token} → Tokens text a → Tokens text b → a ≡ b
one_list t s = one_list_from t.utf8 t.cut s.cut

pub one_fault : {text : List ℕ} {a b : LexFault} → FirstFault text a → FirstFault text b → a ≡ b
one_fault {text = text} (not_utf8 {n = n} v) (not_utf8 {n = m} w) = ap NotUtf8 (sym (utf8_valid_len-IsValidUpTo text n v) ∙ utf8_valid_len-IsValidUpTo text m w)
one_fault (not_utf8 v) (among_tokens u f) = absurd (not_both_utf8 u v)
one_fault (among_tokens u f) (not_utf8 v) = absurd (not_both_utf8 u v)
one_fault (among_tokens u f) (among_tokens w g) = one_fault_from u f g

pub never_both : {text : List ℕ} {tokens : List Token} {fault : LexFault} → Tokens text tokens → FirstFault text fault → ⊥
never_both t (not_utf8 v) = not_both_utf8 t.utf8 v
never_both t (among_tokens u f) = never_both_from u t.cut f

-- What a token that fits is, by its class.
record Fitting (class : TokenClass) (bytes : List ℕ) : Type 0 where
  name : class ≡ Word → IsName bytes
  quoted : class ≡ NameLit → IsName (drop 1 bytes)
  number : class ≡ Natural → IsNatural bytes
  negative : class ≡ Negative → IsNegative bytes
  path : class ≡ Path → are_steps_small bytes ≡ true

word_name : (bytes : List ℕ) → IsWord bytes → length bytes ≤ NAME_LIMIT → IsName bytes
word_name bytes word short = record { some = word_some bytes word; at_most = short; no_zero = no_zero_word bytes word }

fitting : (class : TokenClass) (bytes : List ℕ) → IsToken class bytes → fits class bytes ≡ true → Fitting class bytes
fitting Word bytes h fit = record { name = λ _. word_name bytes h (leb-true _ NAME_LIMIT fit); quoted = λ e. absurd cc; number = λ e. absurd cc; negative = λ e. absurd cc; path = λ e. absurd cc }
fitting Natural bytes h fit = record { name = λ e. absurd cc; quoted = λ e. absurd cc; number = λ _. record { some = h.0; digits_only = h.1; in_range = leb-true _ 9223372036854775807 fit }; negative = λ e. absurd cc; path = λ e. absurd cc }
fitting Negative bytes h fit = record { name = λ e. absurd cc; quoted = λ e. absurd cc; number = λ e. absurd cc; negative = λ _. record { minus = h.0; some = h.1.0; digits_only = h.1.1; in_range = leb-true _ 9223372036854775808 fit }; path = λ e. absurd cc }
fitting NameLit bytes h fit = record { name = λ e. absurd cc; quoted = λ _. word_name (drop 1 bytes) h.1 (omega (arith, length-drop 1 bytes, leb-true _ 65 fit)); number = λ e. absurd cc; negative = λ e. absurd cc; path = λ e. absurd cc }
fitting Text bytes h fit = record { name = λ e. absurd cc; quoted = λ e. absurd cc; number = λ e. absurd cc; negative = λ e. absurd cc; path = λ e. absurd cc }
fitting Path bytes h fit = record { name = λ e. absurd cc; quoted = λ e. absurd cc; number = λ e. absurd cc; negative = λ e. absurd cc; path = λ _. fit }
fitting Symbol bytes h fit = record { name = λ e. absurd cc; quoted = λ e. absurd cc; number = λ e. absurd cc; negative = λ e. absurd cc; path = λ e. absurd cc }

take_none : (k : ℕ) → take {A = ℕ} k [] ≡ []
take_none zero = refl
take_none (suc k) = refl

drop_of_take : (n : ℕ) (xs : List ℕ) → drop 1 (take n xs) ≡ take (n - 1) (drop 1 xs)
drop_of_take zero xs = refl
drop_of_take (suc n) [] = sym (take_none (suc n - 1))
drop_of_take (suc n) (x ∷ xs) = let count : suc n - 1 ≡ n = omega arith in ap (λ k. take k xs) (sym count)

-- what is left behind a place in a text, and the token there
token_of : (text : List ℕ) (at n : ℕ) (class : TokenClass) → at ≤ length text → Found (drop at text) class n → IsLongest (drop at text) class n → fits class (take n (drop at text)) ≡ true → IsTokenOf text (token_at class at n)
token_of text at n class within there longest fit =
    let count : at + n - at ≡ n = omega arith in
    let room : length (drop at text) ≡ length text - at = length-drop at text in
    let bytes : slice_range text at (at + n) ≡ take n (drop at text) = ap (λ k. take k (drop at text)) count in
    let inner_count : at + n - (at + 1) ≡ n - 1 = omega arith in
    let inner : slice_range text (at + 1) (at + n) ≡ drop 1 (take n (drop at text)) =
    ap (λ k. take k (drop (at + 1) text)) inner_count ∙ ap (take (n - 1)) (sym (drop-drop 1 at text)) ∙ sym (drop_of_take n (drop at text)) in
    let fit_there = fitting class (take n (drop at text)) there.form fit in
    record {
      some = omega (arith, there.some);
      within = omega (arith, there.within);
      form = rw bytes there.form;
      longest = λ other further longer inside h. longest.longest other (further - at) (omega arith) (omega arith) h;
      name = λ e. rw bytes (fit_there.name e);
      quoted = λ e. rw inner (fit_there.quoted e);
      number = λ e. rw bytes (fit_there.number e);
      negative = λ e. rw bytes (fit_there.negative e);
      path = λ e. rw bytes (fit_there.path e);
    }

-- each token from a place on is the longest at its own
each_token_from : (text : List ℕ) {left : List ℕ} {at : ℕ} {tokens : List Token} → left ≡ drop at text → at ≤ length text → IsUtf8 left → TokensFrom left at tokens → All (IsTokenOf text) tokens
each_token_from text place within u (ends e) = All-nil (IsTokenOf text)
each_token_from text place within u (skips {left = left} {at = at} {n = n} e some more) =
    let there : Separated left n = separated left n u (next_separator left n e some) in
    let room : length left ≡ length text - at = ap length place ∙ length-drop at text in
    each_token_from text (ap (drop n) place ∙ drop-drop n at text) (omega (arith, there.within)) there.behind more
each_token_from text place within u (takes {left = left} {at = at} {n = n} {class = class} {tokens = tokens} longest fit more) =
    let there : Found left class n = found left class n u (next_from_longest left class n u longest) in
    let room : length left ≡ length text - at = ap length place ∙ length-drop at text in
    All-cons (IsTokenOf text) _ tokens
    (token_of text at n class within (subst (λ bytes. Found bytes class n) place there) (subst (λ bytes. IsLongest bytes class n) place longest) (subst (λ bytes. fits class (take n bytes) ≡ true) place fit))
    (each_token_from text (ap (drop n) place ∙ drop-drop n at text) (omega (arith, there.within)) there.behind more)

pub each_token : (text : List ℕ) {tokens : List Token} → IsUtf8 text → TokensFrom text 0 tokens → All (IsTokenOf text) tokens
each_token text u tokens = each_token_from text refl (omega arith) u tokens

-- The tokens found up to a place: whatever the tokens from there on, or the fault, together they are those of the text.
pub record Reads (text : List ℕ) (tokens : List Token) (at : ℕ) : Type 0 where
  pub within : at ≤ length text
  pub utf8 : IsUtf8 (drop at text)
  pub completes : (rest : List Token) → TokensFrom (drop at text) at rest → TokensFrom text 0 (tokens ++ rest)
  pub faulty : (fault : LexFault) → FaultFrom (drop at text) at fault → FaultFrom text 0 fault

pub reads_none : (text : List ℕ) → IsUtf8 text → Reads text [] 0
reads_none text u = record {
  within = omega arith;
  utf8 = u;
  completes = λ rest tokens. tokens;
  faulty = λ fault h. h;
}

module _ (text : List ℕ) (tokens : List Token) (at : ℕ) (so_far : Reads text tokens at) where
  within_text : (n : ℕ) → n ≤ length (drop at text) → at + n ≤ length text
  within_text n h = omega (arith, length-drop at text, so_far.within)

  -- a step has one byte or more, and lies within the text
  pub skip_some : (n : ℕ) → next (drop at text) ≡ Skip n → (1 ≤ n) × (at + n ≤ length text)
  skip_some n e =
      let there = separated (drop at text) n so_far.utf8 e in
      (there.some, within_text n there.within)

  pub take_some : (class : TokenClass) (n : ℕ) → next (drop at text) ≡ Take class n → (1 ≤ n) × (at + n ≤ length text)
  take_some class n e =
      let there = found (drop at text) class n so_far.utf8 e in
      (there.some, within_text n there.within)

  pub take_form : (class : TokenClass) (n : ℕ) → next (drop at text) ≡ Take class n → IsToken class (take n (drop at text))
  take_form class n e = (found (drop at text) class n so_far.utf8 e).form

  pub refuse_within : (n : ℕ) → next (drop at text) ≡ Refuse n → at + n ≤ length text
  refuse_within n e = within_text n (bad_from_next (drop at text) n so_far.utf8 e).within

  pub reads_skip : (n : ℕ) → next (drop at text) ≡ Skip n → Reads text tokens (at + n)
  reads_skip n e =
      let there = separated (drop at text) n so_far.utf8 e in
      let place : drop n (drop at text) ≡ drop (at + n) text = drop-drop n at text in
      record {
        within = within_text n there.within;
        utf8 = subst IsUtf8 place there.behind;
        completes = λ rest more. so_far.completes rest (skips there.form there.some (subst (λ left. TokensFrom left (at + n) rest) (sym place) more));
        faulty = λ fault more. so_far.faulty fault (past_skip there.form there.some (subst (λ left. FaultFrom left (at + n) fault) (sym place) more));
      }

  pub reads_take : (class : TokenClass) (n : ℕ) → next (drop at text) ≡ Take class n → fits class (take n (drop at text)) ≡ true → Reads text (tokens ++ token_at class at n ∷ []) (at + n)
  reads_take class n e fit =
      let there = found (drop at text) class n so_far.utf8 e in
      let longest = longest_from_next (drop at text) class n so_far.utf8 e in
      let place : drop n (drop at text) ≡ drop (at + n) text = drop-drop n at text in
      record {
        within = within_text n there.within;
        utf8 = subst IsUtf8 place there.behind;
        completes = λ rest more. subst (TokensFrom text 0) (sym (append_assoc tokens (token_at class at n ∷ []) rest)) (so_far.completes (token_at class at n ∷ rest) (takes longest fit (subst (λ left. TokensFrom left (at + n) rest) (sym place) more)));
        faulty = λ fault more. so_far.faulty fault (past_token longest fit (subst (λ left. FaultFrom left (at + n) fault) (sym place) more));
      }

  pub reads_end : next (drop at text) ≡ End → TokensFrom text 0 tokens
  reads_end e = subst (TokensFrom text 0) (append-nil tokens) (so_far.completes [] (ends (end_from_next (drop at text) so_far.utf8 e)))

  pub reads_refuse : (n : ℕ) → next (drop at text) ≡ Refuse n → FaultFrom text 0 (BadChar (at + n))
  reads_refuse n e = so_far.faulty _ (refuses (bad_from_next (drop at text) n so_far.utf8 e))

  pub reads_exceeds : (class : TokenClass) (n : ℕ) → next (drop at text) ≡ Take class n → fits class (take n (drop at text)) ≡ false → FaultFrom text 0 (excess class at)
  reads_exceeds class n e fit = so_far.faulty _ (exceeds (longest_from_next (drop at text) class n so_far.utf8 e) fit)

-- the bytes of a token, as the code cuts them
pub part_is : (text bytes : List ℕ) (at n : ℕ) → bytes ≡ text → take (at + n - at) (drop at bytes) ≡ take n (drop at text)
part_is text bytes at n e =
    let count : at + n - at ≡ n = omega arith in
    ap (λ k. take k (drop at bytes)) count ∙ ap (λ l. take n (drop at l)) e

pub ok_each : (r : Result (List Token) LexFault) (text seen : List ℕ) → seen ≡ text → IsUtf8 text → IfOk r (λ tokens. TokensFrom seen 0 tokens) → IfOk r (λ tokens. All (IsTokenOf text) tokens)
ok_each (Ok tokens) text seen same u h = each_token text u (subst (λ l. TokensFrom l 0 tokens) same h)
ok_each (Err fault) text seen same u h = tt

pub err_fault : (r : Result (List Token) LexFault) (text seen : List ℕ) → seen ≡ text → IsUtf8 text → IfErr r (λ fault. fault ≢ Memory → FaultFrom seen 0 fault) → IfErr r (λ fault. fault ≢ Memory → FirstFault text fault)
err_fault (Ok tokens) text seen same u h = tt
err_fault (Err fault) text seen same u h = λ other. among_tokens u (subst (λ l. FaultFrom l 0 fault) same (h other))

pub err_only : (r : Result (List Token) LexFault) (text : List ℕ) → IfErr r (λ fault. fault ≢ Memory → FirstFault text fault) → IfErr r (λ fault. fault ≢ Memory → (tokens : List Token) → Tokens text tokens → ⊥)
err_only (Ok tokens) text h = tt
err_only (Err fault) text h = λ other tokens t. never_both t (h other)

cases_bool : (b : Bool) → (b ≡ true) ⊎ (b ≡ false)
cases_bool true = inl refl
cases_bool false = inr refl

-- what is left of a text in UTF-8 has tokens or a fault
abbrev Reading : List ℕ → ℕ → Type 0
Reading left at = ((tokens : List Token) × TokensFrom left at tokens) ⊎ ((fault : LexFault) × FaultFrom left at fault)

reading : (fuel : ℕ) (left : List ℕ) (at : ℕ) → length left < fuel → IsUtf8 left → Reading left at
reading zero left at room u = absurd (omega arith)
reading (suc fuel) left at room u = over (next left) refl (λ n short v. reading fuel (drop n left) (at + n) short v)
  where
    over : (step : Step) → next left ≡ step → ((n : ℕ) → length (drop n left) < fuel → IsUtf8 (drop n left) → Reading (drop n left) (at + n)) → Reading left at
    over End e rest = inl ([], ends (end_from_next left u e))
    over (Skip n) e rest =
        let there = separated left n u e in
        elim (rest n (omega (arith, there.some, there.within, length-drop n left)) there.behind) [
          | inl more ↦ inl (more.0, skips there.form there.some more.1)
          | inr more ↦ inr (more.0, past_skip there.form there.some more.1)
        ]
    over (Take class n) e rest =
        let there = found left class n u e in
        let longest = longest_from_next left class n u e in
        elim (cases_bool (fits class (take n left))) [
          | inl fit ↦ elim (rest n (omega (arith, there.some, there.within, length-drop n left)) there.behind) [
            | inl more ↦ inl (token_at class at n ∷ more.0, takes longest fit more.1)
            | inr more ↦ inr (more.0, past_token longest fit more.1)
          ]
          | inr fit ↦ inr (excess class at, exceeds longest fit)
        ]
    over (Refuse n) e rest = inr (BadChar (at + n), refuses (bad_from_next left n u e))

utf8_reading : (text : List ℕ) → IsUtf8 text → ((tokens : List Token) × Tokens text tokens) ⊎ ((fault : LexFault) × FirstFault text fault)
utf8_reading text u = elim (reading (suc (length text)) text 0 (omega arith) u) [
  | inl more ↦ inl (more.0, record { utf8 = u; cut = more.1 })
  | inr more ↦ inr (more.0, among_tokens u more.1)
]

-- the longest front of a text that is UTF-8
record LastFront (text : List ℕ) : Type 0 where
  n : ℕ
  front : IsUtf8 (take n text)
  longest : (m : ℕ) → n < m → ¬ IsUtf8 (take m text)

last_front : (text : List ℕ) (n : ℕ) → ((m : ℕ) → n < m → ¬ IsUtf8 (take m text)) → LastFront text
last_front text zero none = record { n = 0; front = IsUtf8-nil; longest = none }
last_front text (suc n) none = over (is_utf8 (take (suc n) text)) refl (λ fewer. last_front text n fewer)
  where
    over : (b : Bool) → is_utf8 (take (suc n) text) ≡ b → (((m : ℕ) → n < m → ¬ IsUtf8 (take m text)) → LastFront text) → LastFront text
    over true e more = record { n = suc n; front = IsUtf8-from_is_utf8 _ e; longest = none }
    over false e more = more (λ m longer u. elim (cases_lt (suc n) m) [
      | inl further ↦ none m further u
      | inr at_most ↦
          let same : m ≡ suc n = omega (arith, longer, at_most) in
          false≢true (sym e ∙ is_utf8-from_IsUtf8 _ (subst (λ k. IsUtf8 (take k text)) same u))
    ])

other_reading : (text : List ℕ) → ¬ IsUtf8 text → (fault : LexFault) × FirstFault text fault
other_reading text other =
    let last : LastFront text = last_front text (length text) (λ m longer u. other (subst IsUtf8 (take_all m text (omega arith)) u)) in (
      NotUtf8 last.n,
      not_utf8 (record {
        short = elim (cases_lt last.n (length text)) [ inl below ↦ below | inr whole ↦ absurd (other (subst IsUtf8 (take_all last.n text whole) last.front)) ];
        front = last.front;
        longest = last.longest;
      }),
    )

pub some_reading : (text : List ℕ) → ((tokens : List Token) × Tokens text tokens) ⊎ ((fault : LexFault) × FirstFault text fault)
some_reading text = over (is_utf8 text) refl
  where
    over : (b : Bool) → is_utf8 text ≡ b → ((tokens : List Token) × Tokens text tokens) ⊎ ((fault : LexFault) × FirstFault text fault)
    over true e = utf8_reading text (IsUtf8-from_is_utf8 text e)
    over false e = inr (other_reading text (λ u. false≢true (sym e ∙ is_utf8-from_IsUtf8 text u)))
