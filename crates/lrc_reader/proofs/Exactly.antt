-- Each reading reads exactly its part of the grammar, with a place for each stop.
use Rattle.std.proofs.Common.{◌≡◌, ℕ, ltb, Bool, true, false, cond, Option, List, [], refl}
use Rattle.lrc_parse.specs.Kinds.{has, disjoint}
use Rattle.lrc_parse.specs.Limited.{Limited, Empty, One, Given, Either, Within}
use Rattle.lrc_parse.specs.Reading.{took, on_took, read_empty, read_one, read_given, read_either, read_within}
use Rattle.lrc_parse.specs.Exact.{Shape, shape_one, shape_empty, shape_then, shape_either}
use Rattle.lrc_parse.specs.Faults.{Widening, Limit}
use Rattle.lrc_parse.proofs.Staged.{Staged, staged_as, staged_empty, staged_one, staged_fixed, staged_given, staged_either, staged_within, room_keeps, room_somewhere}
use Rattle.lrc_reader.specs.declared.lexeme.Lexeme.{Lexeme}
use Rattle.lrc_reader.specs.declared.lexeme.Lexeme.TheVariants as l
use Rattle.lrc_reader.specs.declared.lexeme.Mark.{Mark}
use Rattle.lrc_reader.specs.declared.lexeme.Mark.TheVariants as m
use Rattle.lrc_reader.specs.Lexeme.{kind, number, word_of, path_of}
use Rattle.lrc_reader.specs.declared.fault.Limit as what
use Rattle.lrc_reader.specs.Limits.{passing}
use Rattle.lrc_reader.specs.Grammar as g
use Rattle.lrc_reader.specs.First.{only, words, paths, directions, kinds}
use Rattle.lrc_reader.specs.Reading.{Reader, pass, constant, read_room, read_word, read_path, read_named_kind, read_kind, read_direction, read_attr, read_kid}
use Rattle.lrc_reader.proofs.Next.{room_and}
use Rattle.lrc_reader.proofs.Tables.{Tells, among, has_value, tells_word, tells_path}

-- ---- the combinators, with what their arguments tell left out

pub then : {I A B : Type 0} {le : I → I → Type 0} {o r p : Bool} {s t : Shape} {L : I → Limited Lexeme A} {M : A → I → Limited Lexeme B} {a : I → Reader A} {b : A → I → Reader B} {i : I}
    (w : Widening le) → Staged kind le o r p s L a i → ((x : A) → Staged kind le o (cond s.empty r false) p t (M x) (b x) i) → disjoint s.more t.first ≡ true →
    Staged kind le o r p (shape_then s t) (λ j. Given (L j) (λ x. M x j)) (λ j u. on_took (a j u) (λ x. b x j)) i
unfolding read_given
then {le = le} {o = o} {r = r} {p = p} {s = s} {t = t} {L = L} {M = M} {a = a} {b = b} {i = i} w e f d = staged_given kind le w o r p s t L M a b d i e f

pub end : {I A : Type 0} {le : I → I → Type 0} {o r p : Bool} {i : I} (w : Widening le) (x : A) → Staged kind le o r p shape_empty (λ _. Empty x) (λ _ u. took x u) i
unfolding read_empty
end {le = le} {o = o} {r = r} {p = p} {i = i} w x = staged_empty kind le w o r p x i

pub either : {I A : Type 0} {le : I → I → Type 0} {o r p : Bool} {s t : Shape} {L M : I → Limited Lexeme A} {a b : I → Reader A} {i : I} (w : Widening le) →
    Staged kind le o r p s L a i → Staged kind le o r p t M b i → disjoint s.first t.first ≡ true → s.empty ≡ false →
    Staged kind le o r p (shape_either s t) (λ j. Either (L j) (M j)) (λ j. read_either kind s.first (a j) (b j)) i
either {le = le} {o = o} {r = r} {p = p} {s = s} {t = t} {L = L} {M = M} {a = a} {b = b} {i = i} w e f d n = staged_either kind le w o r p s t L M a b d n i e f

pub one : {I A : Type 0} {le : I → I → Type 0} {o r p : Bool} {i : I} (w : Widening le) (ks : List ℕ) (value : Lexeme → Option A) → Tells ks value →
    (t : Lexeme) → has ks (kind t) ≡ true → Staged kind le o r p (shape_one ks) (λ _. One value) (λ _. read_one value) i
one {le = le} {o = o} {r = r} {p = p} {i = i} w ks value tells t h = staged_one kind le w o r p ks value (among ks value tells) (has_value ks value tells) t h i

-- where there is room for it
pub roomy : {I A : Type 0} {le : I → I → Type 0} {o r p : Bool} {s : Shape} {L : I → Limited Lexeme A} {a : I → Reader A} {i : I} (w : Widening le) (count : ℕ) (n : I → ℕ) (what : what.Limit) →
    Limit le n → s.empty ≡ false → Staged kind le o true p s L a i →
    Staged kind le o r p s (λ j. Within kind (ltb count (n j)) s.first (passing what) (L j)) (λ j u. on_took (read_room count (n j) s.first what u) (λ _. a j)) i
unfolding read_room
roomy {le = le} {o = o} {r = r} {p = p} {s = s} {L = L} {a = a} {i = i} w count n what lim z e =
    staged_as kind le w o r p s (λ j. Within kind (ltb count (n j)) s.first (passing what) (L j)) (λ j. Within kind (ltb count (n j)) s.first (passing what) (L j)) (λ j. read_within kind (ltb count (n j)) s.first (passing what) (a j))
    (λ j u. on_took (read_room count (n j) s.first what u) (λ _. a j)) i
    (staged_within kind le w o r p (λ j. ltb count (n j)) s (passing what) L a (λ h. cc) (room_keeps kind le w n lim count) (room_somewhere kind le w n lim count) z i e)
    (λ j u x d. d) (λ j u x d. d) (λ j c u t d. d) (λ j c u t d. d) (λ j u. room_and (ltb count (n j)) s.first (passing what) (a j) u)

-- what begins with one of these, and ends by itself
abbrev pub begins : List ℕ → Shape
begins ks = record { first = ks; empty = false; more = [] }

-- ---- lexemes

pub mark : {I : Type 0} {le : I → I → Type 0} {o r p : Bool} {i : I} (w : Widening le) (m : Mark) → Staged kind le o r p (begins (only m)) (λ _. g.mark m) (λ _. pass m) i
mark {le = le} {o = o} {r = r} {p = p} {i = i} w m = staged_fixed kind le w o r p (number m) (l.Mark m) refl i

pub word : {I : Type 0} {le : I → I → Type 0} {o r p : Bool} {i : I} (w : Widening le) → Staged kind le o r p (begins words) (λ _. g.IsWord) (λ _. read_word) i
unfolding read_word
word w = one w words word_of tells_word (l.Word []) refl

pub path : {I : Type 0} {le : I → I → Type 0} {o r p : Bool} {i : I} (w : Widening le) → Staged kind le o r p (begins paths) (λ _. g.IsPath) (λ _. read_path) i
unfolding read_path
path w = one w paths path_of tells_path (l.Path (record { steps = [] })) refl

constant_mark : {I A : Type 0} {le : I → I → Type 0} {o r p : Bool} {i : I} (w : Widening le) (m : Mark) (x : A) →
    Staged kind le o r p (begins (only m)) (λ _. g.constant m x) (λ _. constant m x) i
constant_mark w m x = then w (mark w m) (λ _. end w x) refl

-- ---- sorts and children

module _ {I : Type 0} {le : I → I → Type 0} (w : Widening le) where
  named_kind : {o r p : Bool} {i : I} → Staged kind le o r p (begins words) (λ _. g.IsNamedKind) (λ _. read_named_kind) i
  unfolding read_named_kind
  named_kind = then w (word w) (λ name. end w _) refl

  pub a_kind : {o r p : Bool} {i : I} → Staged kind le o r p (begins kinds) (λ _. g.IsKind) (λ _. read_kind) i
  unfolding read_kind
  a_kind = either w (constant_mark w m.Int _) (either w (constant_mark w m.Bool _) (either w (constant_mark w m.Name _) named_kind refl refl) refl refl) refl refl

  direction : {o r p : Bool} {i : I} → Staged kind le o r p (begins directions) (λ _. g.IsDirection) (λ _. read_direction) i
  unfolding read_direction
  direction = either w (constant_mark w m.Inh true) (constant_mark w m.Syn false) refl refl

  pub attr : {o r p : Bool} {i : I} → Staged kind le o r p (begins directions) (λ _. g.IsAttr) (λ _. read_attr) i
  unfolding read_attr
  attr = then w direction (λ inherited. then w (word w) (λ name. then w (mark w m.Colon) (λ _. then w a_kind (λ what. then w (mark w m.Semicolon) (λ _. end w _) refl) refl) refl) refl) refl

  pub kid : {o r p : Bool} {i : I} → Staged kind le o r p (begins words) (λ _. g.IsKid) (λ _. read_kid) i
  unfolding read_kid
  kid = then w (word w) (λ name. then w (mark w m.Colon) (λ _. then w a_kind (λ what. end w _) refl) refl) refl
