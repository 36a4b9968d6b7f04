-- Readings that look at the next lexeme, by what stands at place 0.
use Rattle.std.proofs.Common.{◌≡◌, ℕ, ◌==◌, ◌<◌, ◌≤◌, ltb, Bool, true, false, cond, Option, Some, None, List, [], ◌∷◌, drop, slice_get, slice_range, refl, sym, ap, ◌∙◌, arith}
use Rattle.std.proofs.lemmas.Bool.{lt-ltb, le-ltb}
use Rattle.std.proofs.lemmas.Bool.Decides.{nat_tests}
use Rattle.lrc_lex.specs.declared.Token.{Token}
use Rattle.lrc_lex.specs.declared.TokenClass.{TokenClass}
use Rattle.lrc_lex.specs.declared.TokenClass.TheVariants as class
use Rattle.lrc_parse.specs.Kinds.{has, starts}
use Rattle.lrc_parse.specs.Reading.{Cause, Reading, expected, took, stops, on_took, read_one, read_fixed, read_nothing, read_within, token_value}
use Rattle.lrc_parse.proofs.Steps.{read_within_passed, read_within_other}
use Rattle.lrc_reader.specs.declared.lexeme.Lexeme.{Lexeme}
use Rattle.lrc_reader.specs.declared.lexeme.Mark.{Mark}
use Rattle.lrc_reader.specs.Lexeme.{kind, seen, seen_as, lexemes, mark_seen, next_mark, kind_seen}

-- what is seen of a token is seen with the mark that it is
seen_is : (c : TokenClass) (spelling : List ℕ) → seen c spelling ≡ seen_as c spelling (mark_seen c spelling)
unfolding seen
seen_is class.Word spelling = refl
seen_is class.Symbol spelling = refl
seen_is class.Natural spelling = refl
seen_is class.Negative spelling = refl
seen_is class.NameLit spelling = refl
seen_is class.Text spelling = refl
seen_is class.Path spelling = refl

-- its kind
kind_as : (c : TokenClass) (spelling : List ℕ) (mark : Option Mark) → kind (seen_as c spelling mark) ≡ kind_seen c mark
kind_as class.Word spelling (Some m) = refl
kind_as class.Word spelling None = refl
kind_as class.Symbol spelling (Some m) = refl
kind_as class.Symbol spelling None = refl
kind_as class.Natural spelling mark = refl
kind_as class.Negative spelling mark = refl
kind_as class.NameLit spelling mark = refl
kind_as class.Text spelling mark = refl
kind_as class.Path spelling mark = refl

pub starts_next : (ks text : List ℕ) (tokens : List Token) (token : Token) (mark : Option Mark) → slice_get tokens 0 ≡ Some token → mark ≡ next_mark text tokens →
    starts kind ks (lexemes text tokens) ≡ has ks (kind_seen token.class mark)
starts_next ks text [] token mark e f = cc
starts_next ks text (t ∷ tokens) token mark e f =
    let g : t ≡ token = cc in
    ap (λ x. has ks (kind x)) (seen_is t.class (slice_range text t.at t.end) ∙ ap (seen_as t.class (slice_range text t.at t.end)) (sym f))
    ∙ ap (has ks) (kind_as t.class (slice_range text t.at t.end) mark ∙ ap (λ (s : Token). kind_seen s.class mark) g)

pub starts_end : (ks text : List ℕ) (tokens : List Token) → slice_get tokens 0 ≡ None → starts kind ks (lexemes text tokens) ≡ false
starts_end ks text [] e = refl
starts_end ks text (t ∷ tokens) e = cc

pub next_lexeme : (text : List ℕ) (tokens : List Token) (token : Token) (mark : Option Mark) → slice_get tokens 0 ≡ Some token → mark ≡ next_mark text tokens →
    Some (seen_as token.class (slice_range text token.at token.end) mark) ≡ slice_get (lexemes text tokens) 0
next_lexeme text [] token mark e f = cc
next_lexeme text (t ∷ tokens) token mark e f =
    let g : token ≡ t = cc in
    ap (λ (s : Token). Some (seen_as s.class (slice_range text s.at s.end) mark)) g
    ∙ ap (λ m. Some (seen_as t.class (slice_range text t.at t.end) m)) f
    ∙ ap Some (sym (seen_is t.class (slice_range text t.at t.end)))

-- a kind alone
pub has_only : (k n : ℕ) → has (k ∷ []) n ≡ (k == n)
has_only k n = only (k == n)
  where
    only : (b : Bool) → cond b true false ≡ b
    only true = refl
    only false = refl

pub one_took : {A : Type 0} (value : Lexeme → Option A) (u : List Lexeme) (t : Lexeme) (x : A) → slice_get u 0 ≡ Some t → value t ≡ Some x → read_one value u ≡ took x (drop 1 u)
unfolding read_one
one_took value [] t x e f = cc
one_took value (s ∷ u) t x e f = let g : s ≡ t = cc in let h : value s ≡ Some x = ap value g ∙ f in ap (λ o. token_value o s u) h

pub one_end : {A : Type 0} (value : Lexeme → Option A) (u : List Lexeme) → slice_get u 0 ≡ None → read_one value u ≡ stops expected u
unfolding read_one
one_end value [] e = refl
one_end value (s ∷ u) e = cc

pub one_other : {A : Type 0} (value : Lexeme → Option A) (u : List Lexeme) (t : Lexeme) → slice_get u 0 ≡ Some t → value t ≡ None → read_one value u ≡ stops expected u
unfolding read_one
one_other value [] t e f = cc
one_other value (s ∷ u) t e f = let g : s ≡ t = cc in let h : value s ≡ None = ap value g ∙ f in ap (λ o. token_value o s u) h

same_kind : (k n : ℕ) → (k == n) ≡ (n == k)
same_kind k n = grind (arith, nat_tests)

-- a kind alone, the other way round
only_next : (k : ℕ) (t : Lexeme) (u : List Lexeme) (b : Bool) → starts kind (k ∷ []) (t ∷ u) ≡ b → (kind t == k) ≡ b
only_next k t u b e = same_kind (kind t) k ∙ (sym (has_only k (kind t)) ∙ e)

pub fixed_took : (k : ℕ) (u : List Lexeme) → starts kind (k ∷ []) u ≡ true → read_fixed kind k u ≡ took tt (drop 1 u)
unfolding read_fixed
fixed_took k [] e = cc
fixed_took k (t ∷ u) e = rw (only_next k t u true e) refl

pub fixed_stops : (k : ℕ) (u : List Lexeme) → starts kind (k ∷ []) u ≡ false → read_fixed kind k u ≡ stops expected u
unfolding read_fixed
fixed_stops k [] e = refl
fixed_stops k (t ∷ u) e = rw (only_next k t u false e) refl

-- some room is left, or none is
pub room_left : {A : Type 0} (k n : ℕ) (ks : List ℕ) (c : Cause) (a : List Lexeme → Reading Lexeme A) (u : List Lexeme) →
    k < n → read_within kind (ltb k n) ks c a u ≡ a u
unfolding read_within
room_left k n ks c a u l = rw (lt-ltb k n l) refl

pub room_passed : {A : Type 0} (k n : ℕ) (ks : List ℕ) (c : Cause) (a : List Lexeme → Reading Lexeme A) (u : List Lexeme) →
    n ≤ k → starts kind ks u ≡ true → read_within kind (ltb k n) ks c a u ≡ stops c u
room_passed k n ks c a u l e = read_within_passed kind (ltb k n) ks c a u (le-ltb k n l) e

pub room_other : {A : Type 0} (k n : ℕ) (ks : List ℕ) (c : Cause) (a : List Lexeme → Reading Lexeme A) (u : List Lexeme) →
    n ≤ k → starts kind ks u ≡ false → read_within kind (ltb k n) ks c a u ≡ stops expected u
room_other k n ks c a u l e = read_within_other kind (ltb k n) ks c a u (le-ltb k n l) e

-- what is read where there is room
pub room_and : {A : Type 0} (room : Bool) (ks : List ℕ) (c : Cause) (a : List Lexeme → Reading Lexeme A) (u : List Lexeme) →
    on_took (read_within kind room ks c (λ v. let o : Unit {0} = tt in took o v) u) (λ _. a) ≡ read_within kind room ks c a u
unfolding read_within read_nothing
room_and true ks c a u = refl
room_and {A} false ks c a u = go (starts kind ks u)
  where
    go : (b : Bool) → on_took (cond b (stops c u) (stops expected u)) (λ (_ : Unit {0}). a) ≡ cond b (stops c u) (stops expected u)
    go true = refl
    go false = refl
