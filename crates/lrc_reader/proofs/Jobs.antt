-- The readings of the other parts of a job are exact, with a place for each stop.
use Rattle.std.proofs.Common.{◌≡◌, ℕ, ◌+◌, Bool, true, false, Some, List, [], ◌∷◌, refl, sym, inl, arith, pos}
use Rattle.lrc_base.specs.declared.limits.TheConstants.{ATTRIBUTE_LIMIT, CHILD_LIMIT, LOCAL_LIMIT, SORT_LIMIT, PRODUCTION_LIMIT, SESSION_LIMIT, EDIT_LIMIT}
use Rattle.lrc_base.specs.declared.raw_term.RawTermTree.{RawTermTree}
use Rattle.lrc_base.specs.declared.raw_term.RawTermTree.TheVariants as t
use Rattle.lrc_parse.specs.Kinds.{has, disjoint}
use Rattle.lrc_parse.specs.Limited.{Limited, Beyond, One, Given, Either, Optional, Loop, Many, Most, Levels, Separated, SeparatedMost}
use Rattle.lrc_parse.specs.Reading.{Cause, expected, nested, read_most, read_separated, read_separated_most}
use Rattle.lrc_parse.specs.Exact.{Shape, shape_empty, shape_then, shape_either, shape_skip, shape_many}
use Rattle.lrc_parse.specs.Faults.{Limit}
use Rattle.lrc_parse.proofs.Sets.{true_not_false}
use Rattle.lrc_parse.proofs.Parts.{exact_one}
use Rattle.lrc_parse.proofs.TameRich.{tame_one}
use Rattle.lrc_parse.proofs.Places.{placed_one}
use Rattle.lrc_parse.proofs.Passed.{passed_one}
use Rattle.lrc_parse.proofs.Staged.{Staged, staged_as, staged_loop, staged_optional, staged_many, staged_most, staged_separated, staged_separated_most, stages}
use Rattle.lrc_parse.proofs.Levels.{staged_levels, staged_chosen}
use Rattle.lrc_reader.specs.declared.lexeme.Lexeme.{Lexeme}
use Rattle.lrc_reader.specs.declared.lexeme.Lexeme.TheVariants as l
use Rattle.lrc_reader.specs.declared.lexeme.Mark.TheVariants as m
use Rattle.lrc_reader.specs.declared.fault.Limit.TheVariants.{Sorts, Attributes, Productions, Children, Locals, Sessions, Edits}
use Rattle.lrc_reader.specs.Lexeme.{kind, number}
use Rattle.lrc_reader.specs.Limits.{sort_limit, attribute_limit, production_limit, child_limit, local_limit, session_limit, edit_limit, term_level_limit, passing}
use Rattle.lrc_reader.specs.Grammar as g
use Rattle.lrc_reader.specs.Grammar.{Name, Items, literal_term, one_of, piece_of, count_of}
use Rattle.lrc_reader.specs.First.{only, words, naturals, literals, directions, declarations, others, items, pieces, terms, edits}
use Rattle.lrc_reader.specs.Reading.{Reader, read_kid, read_push_kid, read_more_kids, read_some_kids, read_any_kids, read_kids, read_attrs, read_sort, read_local, read_attach, read_declared, read_piece, read_pieces, read_pattern, read_dot_word, read_attribute_of, read_equation, read_undeclared, read_declaration, read_other, read_another_item, read_more_items, read_items, read_prod, read_leaf, read_push_term, read_some_terms, read_more_terms, read_any_terms, read_tree, read_term_over, read_term_at, read_term, read_one_number, read_start, read_sorts, read_prods, read_grammar, read_put, read_copy, read_show, read_count, read_forget, read_edit, read_edits, read_session, read_sessions, read_all}
use Rattle.lrc_reader.proofs.Tables.{tells_literal, tells_piece, tells_count}
use Rattle.lrc_reader.proofs.Turns.{separated_is, separated_most_is}
use Rattle.lrc_reader.proofs.Exactly.{then, end, either, one, roomy, begins, mark, word, path, a_kind, attr, kid}
use Rattle.lrc_reader.proofs.Expressions.{slacker, slack_wide, Room, roomier, wide, expr}

-- ---- terms

module _ (N : Room → Unit {0} → Limited Lexeme RawTermTree) (a : Room → Unit {0} → Reader RawTermTree) {o p : Bool} {j : Room} (inner : (q : Unit {0}) → Staged kind roomier o false p (begins terms) (λ k. N k q) (λ k. a k q) j) where
  some_terms : Staged kind roomier o false p (shape_then (begins terms) (shape_many (shape_skip (number m.Comma) (begins terms)))) (λ k. Separated kind (number m.Comma) (N k tt)) (λ k. read_some_terms (a k tt)) j
  unfolding read_some_terms read_push_term read_more_terms
  some_terms =
      staged_as kind roomier wide o false p _ (λ k. Separated kind (number m.Comma) (N k tt)) (λ k. Separated kind (number m.Comma) (N k tt)) (λ k. read_separated kind (number m.Comma) (a k tt)) (λ k. read_some_terms (a k tt)) j
      (staged_separated kind roomier wide o false p (number m.Comma) (l.Mark m.Comma) refl (begins terms) (λ k. N k tt) (λ k. a k tt) refl j (inner tt))
      (λ k u x d. d) (λ k u x d. d) (λ k c u t d. d) (λ k c u t d. d) (λ k u. sym (separated_is (number m.Comma) (a k tt) u))

  tree : {r : Bool} → Staged kind roomier o r p (begins words) (λ k. g.IsTree (N k tt)) (λ k. read_tree (a k tt)) j
  unfolding read_tree read_any_terms
  tree =
      then wide (word wide) (λ name. then wide (mark wide m.LeftParen) (λ _. then wide (either wide some_terms (end wide []) refl refl) (λ kids. then wide (mark wide m.RightParen) (λ _. end wide _) refl) refl) refl) refl

  pub term_over : {r : Bool} (q : Unit {0}) → Staged kind roomier o r p (begins terms) (λ k. g.IsTermOver (N k) q) (λ k. read_term_over (a k) q) j
  unfolding read_term_over read_leaf
  term_over q = either wide (one wide literals literal_term (tells_literal t.Int t.Bool t.Name) (l.Natural (pos 0)) refl) tree refl refl

a_leaf : (q : Unit {0}) → (i : ℕ) × (u : List Lexeme) × (x : RawTermTree) × (g.IsTermOver (λ _. Beyond kind terms nested) q).derives u x
a_leaf q = (0, l.Natural (pos 0) ∷ [], t.Int (pos 0), inl (l.Natural (pos 0), refl, refl))

pub term_at : (j : Room) → Staged kind roomier true true true (begins terms) (λ k. Levels kind terms g.IsTermOver k.1 tt) (λ k. read_term_at k.1) j
unfolding read_term_at
term_at j = staged_levels kind slacker slack_wide (begins terms) refl (λ _. g.IsTermOver) (λ _. read_term_over) a_leaf (λ o p N a i inner q. term_over N a inner {r = true} q) j tt

-- the levels of terms that a slack leaves
abbrev term_levels : ℕ → Room
term_levels i = (i, term_level_limit i)

term_levels_keep : (i j : ℕ) → slacker i j → roomier (term_levels i) (term_levels j)
term_levels_keep i j h = (h, omega (arith, h))

term_levels_reach : (k : Room) → (i : ℕ) × roomier k (term_levels i)
term_levels_reach k = (k.0 + k.1, (omega arith, omega arith))

pub term : {o r p : Bool} {i : ℕ} → Staged kind slacker o r p (begins terms) (λ j. g.IsTerm j) (λ j. read_term j) i
unfolding read_term
term {o} {r} {p} {i} =
    stages kind slacker o r p (begins terms) (λ j. g.IsTerm j) (λ j. read_term_at (term_level_limit j)) i
    (staged_chosen kind roomier slacker term_levels term_levels_keep term_levels_reach wide (begins terms) (λ k. Levels kind terms g.IsTermOver k.1 tt) (λ k. read_term_at k.1) i (term_at (term_levels i)))

-- ---- limits that are a number and the slack

a_limit : (n : ℕ) → Limit slacker (λ j. n + j)
a_limit n = record { keeps = λ i j h. omega (arith, h); any = λ m. (m + 1, omega arith) }

most : {A : Type 0} {o r p : Bool} {s : Shape} {L : ℕ → Limited Lexeme A} {a : ℕ → Reader A} {i : ℕ} (n : ℕ) (c : Cause) → (c ≡ expected → ⊥) → s.empty ≡ false → disjoint s.more s.first ≡ true →
    Staged kind slacker o true p s L a i → Staged kind slacker o r p (shape_many s) (λ j. Most kind (n + j) s.first c (L j)) (λ j. read_most kind (n + j) s.first c (a j) []) i
most {o = o} {r = r} {p = p} {s = s} {L = L} {a = a} {i = i} n c ne z d e = staged_most kind slacker slack_wide o r p (λ j. n + j) (a_limit n) s c ne L a z d i e

-- ---- sorts

attrs : {o r p : Bool} {i : ℕ} → Staged kind slacker o r p (shape_many (begins directions)) (λ j. Most kind (attribute_limit j) directions (passing Attributes) g.IsAttr) (λ j. read_attrs j []) i
unfolding read_attrs
attrs = most ATTRIBUTE_LIMIT (passing Attributes) (λ e. cc) refl refl (attr slack_wide)

pub sort : {o r p : Bool} {i : ℕ} → Staged kind slacker o r p (begins (only m.Sort)) (λ j. g.IsSort j) (λ j. read_sort j) i
unfolding read_sort
sort = then slack_wide (mark slack_wide m.Sort) (λ _. then slack_wide (word slack_wide) (λ name. then slack_wide (mark slack_wide m.LeftBrace) (λ _. then slack_wide attrs (λ xs. then slack_wide (mark slack_wide m.RightBrace) (λ _. end slack_wide _) refl) refl) refl) refl) refl

-- ---- children

some_kids : {o r p : Bool} {i : ℕ} → Staged kind slacker o r p (shape_then (begins words) (shape_many (shape_skip (number m.Comma) (begins words)))) (λ j. SeparatedMost kind (number m.Comma) (child_limit j) words (passing Children) g.IsKid) (λ j. read_some_kids j) i
unfolding read_some_kids read_push_kid read_more_kids
some_kids {o} {r} {p} {i} =
    staged_as kind slacker slack_wide o r p _ (λ j. SeparatedMost kind (number m.Comma) (child_limit j) words (passing Children) g.IsKid) (λ j. SeparatedMost kind (number m.Comma) (child_limit j) words (passing Children) g.IsKid)
    (λ j. read_separated_most kind (number m.Comma) (child_limit j) words (passing Children) read_kid) (λ j. read_some_kids j) i
    (staged_separated_most kind slacker slack_wide o r p (number m.Comma) (l.Mark m.Comma) refl (λ j. child_limit j) (a_limit CHILD_LIMIT) (λ j. omega arith) (begins words) (passing Children) (λ e. cc) (λ _. g.IsKid) (λ _. read_kid) refl refl i (kid slack_wide))
    (λ k u x d. d) (λ k u x d. d) (λ k c u t d. d) (λ k c u t d. d) (λ j u. sym (separated_most_is (number m.Comma) read_kid (child_limit j) words (passing Children) u))

kids : {o r p : Bool} {i : ℕ} → Staged kind slacker o r p (begins (only m.LeftParen)) (λ j. g.IsKids j) (λ j. read_kids j) i
unfolding read_kids read_any_kids
kids = then slack_wide (mark slack_wide m.LeftParen) (λ _. then slack_wide (either slack_wide some_kids (end slack_wide []) refl refl) (λ xs. then slack_wide (mark slack_wide m.RightParen) (λ _. end slack_wide _) refl) refl) refl

-- ---- items

local_item : {o r p : Bool} {i : ℕ} → Staged kind slacker o r p (begins (only m.Local)) (λ j. g.IsLocal j) (λ j. read_local j) i
unfolding read_local
local_item =
    then slack_wide (mark slack_wide m.Local) (λ _. then slack_wide (word slack_wide) (λ name. then slack_wide (mark slack_wide m.Colon) (λ _. then slack_wide (a_kind slack_wide) (λ what.
    then slack_wide (mark slack_wide m.Equals) (λ _. then slack_wide expr (λ x. then slack_wide (mark slack_wide m.Semicolon) (λ _. end slack_wide _) refl) refl) refl) refl) refl) refl) refl

attach_item : {o r p : Bool} {i : ℕ} → Staged kind slacker o r p (begins (only m.Attach)) (λ j. g.IsAttach j) (λ j. read_attach j) i
unfolding read_attach
attach_item =
    then slack_wide (mark slack_wide m.Attach) (λ _. then slack_wide (word slack_wide) (λ name. then slack_wide (mark slack_wide m.Colon) (λ _. then slack_wide (word slack_wide) (λ what.
    then slack_wide (mark slack_wide m.Equals) (λ _. then slack_wide expr (λ x. then slack_wide (mark slack_wide m.Semicolon) (λ _. end slack_wide _) refl) refl) refl) refl) refl) refl) refl

declared : {o r p : Bool} {i : ℕ} → Staged kind slacker o r p (begins declarations) (λ j. Either (g.IsLocal j) (g.IsAttach j)) (λ j. read_declared j) i
unfolding read_declared
declared = either slack_wide local_item attach_item refl refl

pub a_piece : {o r p : Bool} {i : ℕ} → Staged kind slacker o r p (begins pieces) (λ _. One piece_of) (λ _. read_piece) i
unfolding read_piece
a_piece = one slack_wide pieces piece_of tells_piece (l.Word []) refl

some_pieces : {o r p : Bool} {i : ℕ} → Staged kind slacker o r p (shape_many (begins pieces)) (λ _. Many (One piece_of)) (λ _. read_pieces []) i
unfolding read_pieces
some_pieces {o} {r} {p} {i} = staged_many kind slacker slack_wide o r p (begins pieces) (λ _. One piece_of) (λ _. read_piece) refl refl i a_piece

pattern : {o r p : Bool} {i : ℕ} → Staged kind slacker o r p (begins (only m.Text)) (λ _. g.IsPattern) (λ _. read_pattern) i
unfolding read_pattern
pattern = then slack_wide (mark slack_wide m.Text) (λ _. then slack_wide some_pieces (λ xs. then slack_wide (mark slack_wide m.Semicolon) (λ _. end slack_wide _) refl) refl) refl

dot_word : {o r p : Bool} {i : ℕ} → Staged kind slacker o r p (begins (only m.Dot)) (λ _. Given (g.mark m.Dot) (λ _. g.IsWord)) (λ _. read_dot_word) i
unfolding read_dot_word
dot_word = then slack_wide (mark slack_wide m.Dot) (λ _. word slack_wide) refl

attribute_of : {o r p : Bool} {i : ℕ} → Staged kind slacker o r p (shape_either (begins (only m.Dot)) shape_empty) (λ _. Optional (Given (g.mark m.Dot) (λ _. g.IsWord))) (λ _. read_attribute_of) i
unfolding read_attribute_of
attribute_of {o} {r} {p} {i} = staged_optional kind slacker slack_wide o r p (begins (only m.Dot)) (λ _. Given (g.mark m.Dot) (λ _. g.IsWord)) (λ _. read_dot_word) refl i dot_word

equation : {o r p : Bool} {i : ℕ} → Staged kind slacker o r p (begins words) (λ j. g.IsEquation j) (λ j. read_equation j) i
unfolding read_equation
equation =
    then slack_wide (word slack_wide) (λ name. then slack_wide attribute_of (λ attribute. then slack_wide (mark slack_wide m.Equals) (λ _. then slack_wide expr (λ x.
    then slack_wide (mark slack_wide m.Semicolon) (λ _. end slack_wide _) refl) refl) refl) refl) refl

undeclared : {o r p : Bool} {i : ℕ} → Staged kind slacker o r p (begins others) (λ j. Either g.IsPattern (g.IsEquation j)) (λ j. read_undeclared j) i
unfolding read_undeclared
undeclared = either slack_wide pattern equation refl refl

declaration : {o r p : Bool} {i : ℕ} (s : Items) → Staged kind slacker o r p (begins declarations) (λ j. g.IsDeclaration j s) (λ j. read_declaration j s) i
unfolding read_declaration
declaration s = then slack_wide (roomy slack_wide s.1 (λ j. local_limit j) Locals (a_limit LOCAL_LIMIT) refl declared) (λ x. end slack_wide _) refl

other : {o r p : Bool} {i : ℕ} (s : Items) → Staged kind slacker o r p (begins others) (λ j. g.IsOther j s) (λ j. read_other j s) i
unfolding read_other
other s = then slack_wide undeclared (λ x. end slack_wide _) refl

pub an_item : {o r p : Bool} {i : ℕ} (s : Items) → Staged kind slacker o r p (begins items) (λ j. Either (g.IsDeclaration j s) (g.IsOther j s)) (λ j. read_another_item j s) i
unfolding read_another_item
an_item s = either slack_wide (declaration s) (other s) refl refl

more_items : {o r p : Bool} {i : ℕ} (s : Items) → Staged kind slacker o r p (shape_many (begins items)) (λ j. Loop (λ z. Either (g.IsDeclaration j z) (g.IsOther j z)) s) (λ j. read_more_items j s) i
unfolding read_more_items
more_items {o} {r} {p} {i} s = staged_loop kind slacker slack_wide o r p (begins items) (λ z j. Either (g.IsDeclaration j z) (g.IsOther j z)) (λ z j. read_another_item j z) refl refl i (λ z. an_item z) s

all_items : {o r p : Bool} {i : ℕ} → Staged kind slacker o r p (begins (only m.LeftBrace)) (λ j. g.IsItems j) (λ j. read_items j) i
unfolding read_items
all_items = then slack_wide (mark slack_wide m.LeftBrace) (λ _. then slack_wide (more_items ([], 0)) (λ s. then slack_wide (mark slack_wide m.RightBrace) (λ _. end slack_wide _) refl) refl) refl

-- ---- productions

pub prod : {o r p : Bool} {i : ℕ} → Staged kind slacker o r p (begins (only m.Prod)) (λ j. g.IsProd j) (λ j. read_prod j) i
unfolding read_prod
prod =
    then slack_wide (mark slack_wide m.Prod) (λ _. then slack_wide (word slack_wide) (λ name. then slack_wide (mark slack_wide m.Colon) (λ _. then slack_wide (word slack_wide) (λ left.
    then slack_wide kids (λ xs. then slack_wide all_items (λ ys. end slack_wide _) refl) refl) refl) refl) refl) refl

-- ---- the grammar

start : {o r p : Bool} {i : ℕ} → Staged kind slacker o r p (begins (only m.Start)) (λ _. g.IsStart) (λ _. read_start) i
unfolding read_start
start = then slack_wide (mark slack_wide m.Start) (λ _. then slack_wide (word slack_wide) (λ name. then slack_wide (mark slack_wide m.Semicolon) (λ _. end slack_wide _) refl) refl) refl

sorts : {o r p : Bool} {i : ℕ} → Staged kind slacker o r p (shape_many (begins (only m.Sort))) (λ j. Most kind (sort_limit j) (only m.Sort) (passing Sorts) (g.IsSort j)) (λ j. read_sorts j []) i
unfolding read_sorts
sorts = most SORT_LIMIT (passing Sorts) (λ e. cc) refl refl sort

prods : {o r p : Bool} {i : ℕ} → Staged kind slacker o r p (shape_many (begins (only m.Prod))) (λ j. Most kind (production_limit j) (only m.Prod) (passing Productions) (g.IsProd j)) (λ j. read_prods j []) i
unfolding read_prods
prods = most PRODUCTION_LIMIT (passing Productions) (λ e. cc) refl refl prod

grammar : {o r p : Bool} {i : ℕ} → Staged kind slacker o r p (begins (number m.Sort ∷ number m.Prod ∷ number m.Start ∷ [])) (λ j. g.IsGrammar j) (λ j. read_grammar j) i
unfolding read_grammar
grammar = then slack_wide sorts (λ xs. then slack_wide prods (λ ys. then slack_wide start (λ name. end slack_wide _) refl) refl) refl

-- ---- sessions

put : {o r p : Bool} {i : ℕ} → Staged kind slacker o r p (begins (only m.Put)) (λ j. g.IsPut j) (λ j. read_put j) i
unfolding read_put
put = then slack_wide (mark slack_wide m.Put) (λ _. then slack_wide (path slack_wide) (λ place. then slack_wide term (λ x. then slack_wide (mark slack_wide m.Semicolon) (λ _. end slack_wide _) refl) refl) refl) refl

copy : {o r p : Bool} {i : ℕ} → Staged kind slacker o r p (begins (only m.Copy)) (λ _. g.IsCopy) (λ _. read_copy) i
unfolding read_copy
copy = then slack_wide (mark slack_wide m.Copy) (λ _. then slack_wide (path slack_wide) (λ from. then slack_wide (path slack_wide) (λ to. then slack_wide (mark slack_wide m.Semicolon) (λ _. end slack_wide _) refl) refl) refl) refl

show : {o r p : Bool} {i : ℕ} → Staged kind slacker o r p (begins (only m.Show)) (λ _. g.IsShow) (λ _. read_show) i
unfolding read_show
show = then slack_wide (mark slack_wide m.Show) (λ _. then slack_wide (mark slack_wide m.Semicolon) (λ _. end slack_wide _) refl) refl

count : {o r p : Bool} {i : ℕ} → Staged kind slacker o r p (begins naturals) (λ _. One count_of) (λ _. read_count) i
unfolding read_count
count = one slack_wide naturals count_of tells_count (l.Natural (pos 0)) refl

forget : {o r p : Bool} {i : ℕ} → Staged kind slacker o r p (begins (only m.Forget)) (λ _. g.IsForget) (λ _. read_forget) i
unfolding read_forget
forget = then slack_wide (mark slack_wide m.Forget) (λ _. then slack_wide count (λ n. then slack_wide (mark slack_wide m.Semicolon) (λ _. end slack_wide _) refl) refl) refl

pub an_edit : {o r p : Bool} {i : ℕ} → Staged kind slacker o r p (begins edits) (λ j. g.IsEdit j) (λ j. read_edit j) i
unfolding read_edit
an_edit = either slack_wide put (either slack_wide copy (either slack_wide show forget refl refl) refl refl) refl refl

all_edits : {o r p : Bool} {i : ℕ} → Staged kind slacker o r p (shape_many (begins edits)) (λ j. Most kind (edit_limit j) edits (passing Edits) (g.IsEdit j)) (λ j. read_edits j []) i
unfolding read_edits
all_edits = most EDIT_LIMIT (passing Edits) (λ e. cc) refl refl an_edit

pub session : {o r p : Bool} {i : ℕ} → Staged kind slacker o r p (begins (only m.Session)) (λ j. g.IsSession j) (λ j. read_session j) i
unfolding read_session
session =
    then slack_wide (mark slack_wide m.Session) (λ _. then slack_wide (mark slack_wide m.On) (λ _. then slack_wide term (λ tree. then slack_wide (mark slack_wide m.LeftBrace) (λ _.
    then slack_wide all_edits (λ xs. then slack_wide (mark slack_wide m.RightBrace) (λ _. end slack_wide _) refl) refl) refl) refl) refl) refl

sessions : {o r p : Bool} {i : ℕ} → Staged kind slacker o r p (shape_many (begins (only m.Session))) (λ j. Most kind (session_limit j) (only m.Session) (passing Sessions) (g.IsSession j)) (λ j. read_sessions j []) i
unfolding read_sessions
sessions = most SESSION_LIMIT (passing Sessions) (λ e. cc) refl refl session

-- ---- the whole

one_among : (t : Lexeme) (x : Unit {0}) → one_of t ≡ Some x → has naturals (kind t) ≡ true
one_among (l.Word name) x e = cc
one_among (l.Natural value) x e = refl
one_among (l.Negative value) x e = cc
one_among (l.Name name) x e = cc
one_among (l.Text bytes) x e = cc
one_among (l.Path path) x e = cc
one_among l.Other x e = cc
one_among (l.Mark m) x e = cc

-- of the naturals, 1 alone
one_number : {o p : Bool} {i : ℕ} → Staged kind slacker o false p (begins naturals) (λ _. One one_of) (λ _. read_one_number) i
unfolding read_one_number
one_number {o} {p} {i} = record {
  exact = λ _. exact_one kind naturals one_of one_among;
  passed = λ _. passed_one kind naturals one_of;
  grows = λ j k h u x d. d;
  tame = λ _. tame_one kind naturals one_of one_among;
  begins = λ _. (0, l.Natural (pos 1) ∷ [], tt, (l.Natural (pos 1), refl, refl));
  rich_there = λ _ h. absurd (true_not_false false h refl);
  placed = λ _ _. placed_one kind slacker slack_wide one_of (0, l.Natural (pos 1) ∷ [], tt, (l.Natural (pos 1), refl, refl)) i;
}

abbrev pub job_shape : Shape
job_shape = record { first = only m.Lrc; empty = false; more = only m.Session }

pub job : {o r p : Bool} {i : ℕ} → Staged kind slacker o r p job_shape (λ j. g.IsJob j) (λ j. read_all j) i
unfolding g.IsJob read_all
job = then slack_wide (mark slack_wide m.Lrc) (λ _. then slack_wide one_number (λ _. then slack_wide grammar (λ x. then slack_wide sessions (λ xs. end slack_wide _) refl) refl) refl) refl
