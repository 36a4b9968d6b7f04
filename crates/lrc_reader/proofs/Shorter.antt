-- The turns of each loop: a turn takes a lexeme, so that the loop ends.
use Rattle.std.proofs.Common.{◌≡◌, ℕ, ◌<◌, Bool, true, false, ltb, List, [], ◌∷◌, ◌++◌, length, refl, ap, sym, ◌∙◌, arith}
use Rattle.lrc_base.specs.declared.limits.TheConstants.{ATTRIBUTE_LIMIT, CHILD_LIMIT, SORT_LIMIT, PRODUCTION_LIMIT, SESSION_LIMIT, EDIT_LIMIT}
use Rattle.lrc_base.specs.declared.raw.RawAttr.{RawAttr}
use Rattle.lrc_base.specs.declared.raw.RawSort.{RawSort}
use Rattle.lrc_base.specs.declared.raw.RawKid.{RawKid}
use Rattle.lrc_base.specs.declared.raw.RawPiece.{RawPiece}
use Rattle.lrc_base.specs.declared.raw.RawExpr.{RawExpr}
use Rattle.lrc_base.specs.declared.raw.RawProd.{RawProd}
use Rattle.lrc_base.specs.declared.raw_term.RawTermTree.{RawTermTree}
use Rattle.lrc_base.specs.declared.job.RawEdit.{RawEdit}
use Rattle.lrc_base.specs.declared.job.RawScript.{RawScript}
use Rattle.lrc_parse.specs.Kinds.{starts}
use Rattle.lrc_parse.specs.Language.{Lang}
use Rattle.lrc_parse.specs.Limited.{Limited, Levels}
use Rattle.lrc_parse.specs.Reading.{Cause, Reading, expected, took, stops, on_took, read_of, read_fixed, read_nothing, read_within, read_push, read_many, read_most, read_push_most}
use Rattle.lrc_parse.specs.Exact.{Shape, Exact}
use Rattle.lrc_parse.proofs.Back.{same_rest, stops_not_took, on_took_back, cond_back, past_token_back}
use Rattle.lrc_parse.proofs.Loops.{read_loop_end}
use Rattle.lrc_parse.proofs.ListSteps.{read_many_end, read_most_end, read_others_end, read_others_most_end}
use Rattle.lrc_parse.proofs.Staged.{Staged, unrich}
use Rattle.lrc_parse.proofs.Whole.{shorter}
use Rattle.lrc_reader.specs.declared.lexeme.Lexeme.{Lexeme}
use Rattle.lrc_reader.specs.declared.lexeme.Mark.TheVariants as m
use Rattle.lrc_reader.specs.declared.fault.Limit.{Limit}
use Rattle.lrc_reader.specs.declared.fault.Limit.TheVariants.{Sorts, Attributes, Productions, Children, Edits, Sessions}
use Rattle.lrc_reader.specs.Lexeme.{kind, number}
use Rattle.lrc_reader.specs.Limits.{passing}
use Rattle.lrc_reader.specs.Grammar as g
use Rattle.lrc_reader.specs.Grammar.{Counted, Items}
use Rattle.lrc_reader.specs.First.{exprs, only, words, directions, items, times, plus, pieces, edits}
use Rattle.lrc_reader.specs.Reading.{Reader, read_room, read_attr, read_push_attr, read_another_attr, read_attrs, read_sort, read_another_sort, read_sorts, read_kid, read_push_kid, read_another_kid, read_more_kids, read_prod, read_another_prod, read_prods, read_piece, read_another_piece, read_pieces, read_another_item, read_more_items, read_expr_at, read_factor, read_factors, read_addend, read_addends, read_argument, read_more_arguments, read_term_at, read_push_term, read_another_term, read_more_terms, read_edit, read_another_edit, read_edits, read_session, read_another_session, read_sessions}
use Rattle.lrc_reader.proofs.Next.{room_and}
use Rattle.lrc_reader.proofs.Turns.{loop_turn, loop_stops, others_turn, others_stops, others_most_turn, others_most_stops}
use Rattle.lrc_reader.proofs.Exactly.{attr, kid}
use Rattle.lrc_reader.proofs.Expressions.{slacker, slack_wide, Room, roomier, expr_shape, expr_at, argument, factor, addend}
use Rattle.lrc_reader.proofs.Jobs.{sort, a_piece, an_item, prod, term_at, an_edit, session}

-- what an item takes, one more item takes
push_shorter : {A B : Type 0} (s : Shape) (L : Lang Lexeme A) (a : Reader A) → Exact kind s L a → s.empty ≡ false → (f : A → B) (z : B) (u r : List Lexeme) →
    on_took (a u) (λ x m. took (f x) m) ≡ took z r → length r < length u
push_shorter s L a e n f z u r h =
    let w : _ = on_took_back (a u) (λ x m. took (f x) m) z r h in
    let l : length w.1 < length u = shorter kind s L a e n u w.1 w.0 w.2 in
    let i : length w.1 ≡ length r = ap length (same_rest (f w.0) z w.1 r w.3) in
    omega (arith, l, i)

within_took : {A : Type 0} (room : Bool) (first : List ℕ) (c : Cause) (a : Reader A) (z : A) (u r : List Lexeme) → read_within kind room first c a u ≡ took z r → a u ≡ took z r
unfolding read_within read_nothing
within_took true first c a z u r h = h
within_took false first c a z u r h = absurd (stops_not_took c z u r (cond_back (starts kind first u) (stops c u) expected u z r h).1)

room_took : {A : Type 0} (count n : ℕ) (first : List ℕ) (what : Limit) (a : Reader A) (z : A) (u r : List Lexeme) →
    on_took (read_room count n first what u) (λ _. a) ≡ took z r → a u ≡ took z r
unfolding read_room
room_took count n first what a z u r h = within_took (ltb count n) first (passing what) a z u r (sym (room_and (ltb count n) first (passing what) a u) ∙ h)

behind_room : {A : Type 0} (o : Reading Lexeme (Unit {0})) (count n : ℕ) (first : List ℕ) (what : Limit) (a : Reader A) →
    on_took o (λ _ v. read_within kind (ltb count n) first (passing what) a v) ≡ on_took o (λ _ v. on_took (read_room count n first what v) (λ _. a))
unfolding read_room
behind_room (took x r) count n first what a = sym (room_and (ltb count n) first (passing what) a r)
behind_room (stops c r) count n first what a = refl

-- a loop whose items have a limit
most_turn : {A : Type 0} (n : ℕ) (first : List ℕ) (what : Limit) (item : Reader A) (xs zs : List A) (u r : List Lexeme) → starts kind first u ≡ true →
    on_took (read_room (length xs) n first what u) (λ _ v. on_took (item v) (λ x m. took (xs ++ x ∷ []) m)) ≡ took zs r → length r < length u →
    read_most kind n first (passing what) item xs u ≡ read_most kind n first (passing what) item zs r
unfolding read_room read_most read_push_most read_push read_of
most_turn n first what item xs zs u r e f l = loop_turn first _ xs zs u r e (sym (room_and (ltb (length xs) n) first (passing what) _ u) ∙ f) l

most_stops : {A : Type 0} (n : ℕ) (first : List ℕ) (what : Limit) (item : Reader A) (xs : List A) (c : Cause) (u r : List Lexeme) → starts kind first u ≡ true →
    on_took (read_room (length xs) n first what u) (λ _ v. on_took (item v) (λ x m. took (xs ++ x ∷ []) m)) ≡ stops c r →
    read_most kind n first (passing what) item xs u ≡ stops c r
unfolding read_room read_most read_push_most read_push read_of
most_stops n first what item xs c u r e f =
    loop_stops first (λ ys. read_within kind (ltb (length ys) n) first (passing what) (λ v. on_took (item v) (λ x m. took (ys ++ x ∷ []) m))) xs c u r e
    (sym (room_and (ltb (length xs) n) first (passing what) _ u) ∙ f)

-- and so what stands behind a mark
behind_mark : {A : Type 0} (k : ℕ) (a : Reader A) (z : A) (u r : List Lexeme) → ((v : List Lexeme) → a v ≡ took z r → length r < length v) →
    on_took (read_fixed kind k u) (λ _. a) ≡ took z r → length r < length u
unfolding read_fixed
behind_mark k a z u r less h =
    let w : _ = on_took_back (read_fixed kind k u) (λ _. a) z r h in
    let v : _ = past_token_back kind k (λ s. took tt s) u w.0 w.1 w.2 in
    let l : length r < length w.1 = less w.1 w.3 in
    let i : length v.1 ≡ length w.1 = ap length (same_rest tt w.0 v.1 w.1 v.4) in
    let j : length u ≡ length (v.0 ∷ v.1) = ap length v.2 in
    omega (arith, l, i, j)

-- the reading of an item within the limits, from what is known of it
known : {A : Type 0} (s : Shape) (L : ℕ → Limited Lexeme A) (a : ℕ → Reader A) → Staged kind slacker true true true s L a 0 → Exact kind s (L 0).derives (a 0)
known s L a e = e.exact 0

-- ---- attrs

pub attr_shorter : (xs zs : List RawAttr) (u r : List Lexeme) → read_another_attr 0 xs u ≡ took zs r → length r < length u
unfolding read_another_attr read_push_attr
attr_shorter xs zs u r h =
    push_shorter _ _ _ (known _ _ _ (attr slack_wide)) refl (λ x. xs ++ x ∷ []) zs u r (room_took (length xs) ATTRIBUTE_LIMIT directions Attributes _ zs u r h)

pub attr_turn : (xs zs : List RawAttr) (u r : List Lexeme) → starts kind directions u ≡ true → read_another_attr 0 xs u ≡ took zs r → read_attrs 0 xs u ≡ read_attrs 0 zs r
unfolding read_attrs read_another_attr read_push_attr
attr_turn xs zs u r e f = most_turn ATTRIBUTE_LIMIT directions Attributes read_attr xs zs u r e f (attr_shorter xs zs u r f)

pub attr_stops : (xs : List RawAttr) (c : Cause) (u r : List Lexeme) → starts kind directions u ≡ true → read_another_attr 0 xs u ≡ stops c r → read_attrs 0 xs u ≡ stops c r
unfolding read_attrs read_another_attr read_push_attr
attr_stops xs c u r e f = most_stops ATTRIBUTE_LIMIT directions Attributes read_attr xs c u r e f

pub attr_end : (xs : List RawAttr) (u : List Lexeme) → starts kind directions u ≡ false → read_attrs 0 xs u ≡ took xs u
unfolding read_attrs
attr_end xs u e = read_most_end kind ATTRIBUTE_LIMIT directions (passing Attributes) (read_attr) xs u e

-- ---- sorts

pub sort_shorter : (xs zs : List RawSort) (u r : List Lexeme) → read_another_sort 0 xs u ≡ took zs r → length r < length u
unfolding read_another_sort
sort_shorter xs zs u r h =
    push_shorter _ _ _ (known _ _ _ sort) refl (λ x. xs ++ x ∷ []) zs u r (room_took (length xs) SORT_LIMIT (only m.Sort) Sorts _ zs u r h)

pub sort_turn : (xs zs : List RawSort) (u r : List Lexeme) → starts kind (only m.Sort) u ≡ true → read_another_sort 0 xs u ≡ took zs r → read_sorts 0 xs u ≡ read_sorts 0 zs r
unfolding read_sorts read_another_sort
sort_turn xs zs u r e f = most_turn SORT_LIMIT (only m.Sort) Sorts (read_sort 0) xs zs u r e f (sort_shorter xs zs u r f)

pub sort_stops : (xs : List RawSort) (c : Cause) (u r : List Lexeme) → starts kind (only m.Sort) u ≡ true → read_another_sort 0 xs u ≡ stops c r → read_sorts 0 xs u ≡ stops c r
unfolding read_sorts read_another_sort
sort_stops xs c u r e f = most_stops SORT_LIMIT (only m.Sort) Sorts (read_sort 0) xs c u r e f

pub sort_end : (xs : List RawSort) (u : List Lexeme) → starts kind (only m.Sort) u ≡ false → read_sorts 0 xs u ≡ took xs u
unfolding read_sorts
sort_end xs u e = read_most_end kind SORT_LIMIT (only m.Sort) (passing Sorts) (read_sort 0) xs u e

-- ---- prods

pub prod_shorter : (xs zs : List RawProd) (u r : List Lexeme) → read_another_prod 0 xs u ≡ took zs r → length r < length u
unfolding read_another_prod
prod_shorter xs zs u r h =
    push_shorter _ _ _ (known _ _ _ prod) refl (λ x. xs ++ x ∷ []) zs u r (room_took (length xs) PRODUCTION_LIMIT (only m.Prod) Productions _ zs u r h)

pub prod_turn : (xs zs : List RawProd) (u r : List Lexeme) → starts kind (only m.Prod) u ≡ true → read_another_prod 0 xs u ≡ took zs r → read_prods 0 xs u ≡ read_prods 0 zs r
unfolding read_prods read_another_prod
prod_turn xs zs u r e f = most_turn PRODUCTION_LIMIT (only m.Prod) Productions (read_prod 0) xs zs u r e f (prod_shorter xs zs u r f)

pub prod_stops : (xs : List RawProd) (c : Cause) (u r : List Lexeme) → starts kind (only m.Prod) u ≡ true → read_another_prod 0 xs u ≡ stops c r → read_prods 0 xs u ≡ stops c r
unfolding read_prods read_another_prod
prod_stops xs c u r e f = most_stops PRODUCTION_LIMIT (only m.Prod) Productions (read_prod 0) xs c u r e f

pub prod_end : (xs : List RawProd) (u : List Lexeme) → starts kind (only m.Prod) u ≡ false → read_prods 0 xs u ≡ took xs u
unfolding read_prods
prod_end xs u e = read_most_end kind PRODUCTION_LIMIT (only m.Prod) (passing Productions) (read_prod 0) xs u e

-- ---- edits

pub edit_shorter : (xs zs : List RawEdit) (u r : List Lexeme) → read_another_edit 0 xs u ≡ took zs r → length r < length u
unfolding read_another_edit
edit_shorter xs zs u r h =
    push_shorter _ _ _ (known _ _ _ an_edit) refl (λ x. xs ++ x ∷ []) zs u r (room_took (length xs) EDIT_LIMIT edits Edits _ zs u r h)

pub edit_turn : (xs zs : List RawEdit) (u r : List Lexeme) → starts kind edits u ≡ true → read_another_edit 0 xs u ≡ took zs r → read_edits 0 xs u ≡ read_edits 0 zs r
unfolding read_edits read_another_edit
edit_turn xs zs u r e f = most_turn EDIT_LIMIT edits Edits (read_edit 0) xs zs u r e f (edit_shorter xs zs u r f)

pub edit_stops : (xs : List RawEdit) (c : Cause) (u r : List Lexeme) → starts kind edits u ≡ true → read_another_edit 0 xs u ≡ stops c r → read_edits 0 xs u ≡ stops c r
unfolding read_edits read_another_edit
edit_stops xs c u r e f = most_stops EDIT_LIMIT edits Edits (read_edit 0) xs c u r e f

pub edit_end : (xs : List RawEdit) (u : List Lexeme) → starts kind edits u ≡ false → read_edits 0 xs u ≡ took xs u
unfolding read_edits
edit_end xs u e = read_most_end kind EDIT_LIMIT edits (passing Edits) (read_edit 0) xs u e

-- ---- sessions

pub session_shorter : (xs zs : List RawScript) (u r : List Lexeme) → read_another_session 0 xs u ≡ took zs r → length r < length u
unfolding read_another_session
session_shorter xs zs u r h =
    push_shorter _ _ _ (known _ _ _ session) refl (λ x. xs ++ x ∷ []) zs u r (room_took (length xs) SESSION_LIMIT (only m.Session) Sessions _ zs u r h)

pub session_turn : (xs zs : List RawScript) (u r : List Lexeme) → starts kind (only m.Session) u ≡ true → read_another_session 0 xs u ≡ took zs r → read_sessions 0 xs u ≡ read_sessions 0 zs r
unfolding read_sessions read_another_session
session_turn xs zs u r e f = most_turn SESSION_LIMIT (only m.Session) Sessions (read_session 0) xs zs u r e f (session_shorter xs zs u r f)

pub session_stops : (xs : List RawScript) (c : Cause) (u r : List Lexeme) → starts kind (only m.Session) u ≡ true → read_another_session 0 xs u ≡ stops c r → read_sessions 0 xs u ≡ stops c r
unfolding read_sessions read_another_session
session_stops xs c u r e f = most_stops SESSION_LIMIT (only m.Session) Sessions (read_session 0) xs c u r e f

pub session_end : (xs : List RawScript) (u : List Lexeme) → starts kind (only m.Session) u ≡ false → read_sessions 0 xs u ≡ took xs u
unfolding read_sessions
session_end xs u e = read_most_end kind SESSION_LIMIT (only m.Session) (passing Sessions) (read_session 0) xs u e

-- ---- children

pub kid_shorter : (xs zs : List RawKid) (u r : List Lexeme) → read_another_kid 0 xs u ≡ took zs r → length r < length u
unfolding read_another_kid read_push_kid
kid_shorter xs zs u r h =
    behind_mark (number m.Comma) _ zs u r (λ v i. push_shorter _ _ _ (known _ _ _ (kid slack_wide)) refl (λ x. xs ++ x ∷ []) zs v r (room_took (length xs) CHILD_LIMIT words Children _ zs v r i)) h

pub kid_turn : (xs zs : List RawKid) (u r : List Lexeme) → starts kind (only m.Comma) u ≡ true → read_another_kid 0 xs u ≡ took zs r → read_more_kids 0 xs u ≡ read_more_kids 0 zs r
unfolding read_more_kids read_another_kid read_push_kid
kid_turn xs zs u r e f =
    others_most_turn (number m.Comma) read_kid CHILD_LIMIT words (passing Children) xs zs u r e (behind_room (read_fixed kind (number m.Comma) u) (length xs) CHILD_LIMIT words Children (read_push_kid xs) ∙ f) (kid_shorter xs zs u r f)

pub kid_stops : (xs : List RawKid) (c : Cause) (u r : List Lexeme) → starts kind (only m.Comma) u ≡ true → read_another_kid 0 xs u ≡ stops c r → read_more_kids 0 xs u ≡ stops c r
unfolding read_more_kids read_another_kid read_push_kid
kid_stops xs c u r e h =
    others_most_stops (number m.Comma) read_kid CHILD_LIMIT words (passing Children) xs c u r e (behind_room (read_fixed kind (number m.Comma) u) (length xs) CHILD_LIMIT words Children (read_push_kid xs) ∙ h)

pub kid_end : (xs : List RawKid) (u : List Lexeme) → starts kind (only m.Comma) u ≡ false → read_more_kids 0 xs u ≡ took xs u
unfolding read_more_kids
kid_end xs u e = read_others_most_end kind (number m.Comma) CHILD_LIMIT words (passing Children) read_kid xs u e

-- ---- pieces of a pattern

pub piece_shorter : (xs zs : List RawPiece) (u r : List Lexeme) → read_another_piece xs u ≡ took zs r → length r < length u
unfolding read_another_piece
piece_shorter xs zs u r h = push_shorter _ _ _ (known _ _ _ a_piece) refl (λ x. xs ++ x ∷ []) zs u r h

pub piece_turn : (xs zs : List RawPiece) (u r : List Lexeme) → starts kind pieces u ≡ true → read_another_piece xs u ≡ took zs r → read_pieces xs u ≡ read_pieces zs r
unfolding read_pieces read_many read_push read_of read_another_piece
piece_turn xs zs u r e f = loop_turn pieces _ xs zs u r e f (piece_shorter xs zs u r f)

pub piece_stops : (xs : List RawPiece) (c : Cause) (u r : List Lexeme) → starts kind pieces u ≡ true → read_another_piece xs u ≡ stops c r → read_pieces xs u ≡ stops c r
unfolding read_pieces read_many read_push read_of read_another_piece
piece_stops xs c u r e f = loop_stops pieces read_another_piece xs c u r e f

pub piece_end : (xs : List RawPiece) (u : List Lexeme) → starts kind pieces u ≡ false → read_pieces xs u ≡ took xs u
unfolding read_pieces
piece_end xs u e = read_many_end kind pieces read_piece xs u e

-- ---- terms

pub term_shorter : (levels : ℕ) (xs zs : List RawTermTree) (u r : List Lexeme) → read_another_term (read_term_at levels) xs u ≡ took zs r → length r < length u
unfolding read_another_term read_push_term
term_shorter levels xs zs u r h =
    behind_mark (number m.Comma) _ zs u r (λ v i. push_shorter _ _ _ ((term_at (0, levels)).exact (0, levels)) refl (λ x. xs ++ x ∷ []) zs v r i) h

pub term_turn : (levels : ℕ) (xs zs : List RawTermTree) (u r : List Lexeme) → starts kind (only m.Comma) u ≡ true →
    read_another_term (read_term_at levels) xs u ≡ took zs r → read_more_terms (read_term_at levels) xs u ≡ read_more_terms (read_term_at levels) zs r
unfolding read_more_terms read_another_term read_push_term
term_turn levels xs zs u r e f = others_turn (number m.Comma) (read_term_at levels) xs zs u r e f (term_shorter levels xs zs u r f)

pub term_stops : (levels : ℕ) (xs : List RawTermTree) (c : Cause) (u r : List Lexeme) → starts kind (only m.Comma) u ≡ true →
    read_another_term (read_term_at levels) xs u ≡ stops c r → read_more_terms (read_term_at levels) xs u ≡ stops c r
unfolding read_more_terms read_another_term read_push_term
term_stops levels xs c u r e h = others_stops (number m.Comma) (read_term_at levels) xs c u r e h

pub term_end : (levels : ℕ) (xs : List RawTermTree) (u : List Lexeme) → starts kind (only m.Comma) u ≡ false → read_more_terms (read_term_at levels) xs u ≡ took xs u
unfolding read_more_terms
term_end levels xs u e = read_others_end kind (number m.Comma) (read_term_at levels) xs u e

-- ---- items

pub item_shorter : (s z : Items) (u r : List Lexeme) → read_another_item 0 s u ≡ took z r → length r < length u
item_shorter s z u r h = shorter kind _ _ _ (known _ _ _ (an_item s)) refl u r z h

pub item_turn : (s z : Items) (u r : List Lexeme) → starts kind items u ≡ true → read_another_item 0 s u ≡ took z r → read_more_items 0 s u ≡ read_more_items 0 z r
unfolding read_more_items
item_turn s z u r e f = loop_turn items (read_another_item 0) s z u r e f (item_shorter s z u r f)

pub item_stops : (s : Items) (c : Cause) (u r : List Lexeme) → starts kind items u ≡ true → read_another_item 0 s u ≡ stops c r → read_more_items 0 s u ≡ stops c r
unfolding read_more_items
item_stops s c u r e f = loop_stops items (read_another_item 0) s c u r e f

pub item_end : (s : Items) (u : List Lexeme) → starts kind items u ≡ false → read_more_items 0 s u ≡ took s u
unfolding read_more_items
item_end s u e = read_loop_end kind items (read_another_item 0) s u e

-- ---- operators and arguments

-- expressions with at most so many within one another
abbrev inner_lang : Room → ℕ → Limited Lexeme Counted
inner_lang k n = Levels kind exprs (g.IsExprOver k.0) k.1 n

abbrev inner_read : Room → ℕ → Reader Counted
inner_read k n = read_expr_at k.0 k.1 n

inner : (levels n : ℕ) → Staged kind roomier true false true expr_shape (λ k. inner_lang k n) (λ k. inner_read k n) (0, levels)
inner levels n = unrich kind roomier true true true expr_shape (λ k. inner_lang k n) (λ k. inner_read k n) (0, levels) (expr_at (0, levels) n)

pub factor_shorter : (levels : ℕ) (s z : Counted) (u r : List Lexeme) → read_factor 0 (read_expr_at 0 levels) s u ≡ took z r → length r < length u
factor_shorter levels s z u r h = shorter kind _ _ _ ((factor inner_lang inner_read (inner levels) {r = false} s).exact (0, levels)) refl u r z h

pub factor_turn : (levels : ℕ) (s z : Counted) (u r : List Lexeme) → starts kind times u ≡ true →
    read_factor 0 (read_expr_at 0 levels) s u ≡ took z r → read_factors 0 (read_expr_at 0 levels) s u ≡ read_factors 0 (read_expr_at 0 levels) z r
unfolding read_factors
factor_turn levels s z u r e f = loop_turn times (read_factor 0 (read_expr_at 0 levels)) s z u r e f (factor_shorter levels s z u r f)

pub factor_stops : (levels : ℕ) (s : Counted) (c : Cause) (u r : List Lexeme) → starts kind times u ≡ true →
    read_factor 0 (read_expr_at 0 levels) s u ≡ stops c r → read_factors 0 (read_expr_at 0 levels) s u ≡ stops c r
unfolding read_factors
factor_stops levels s c u r e f = loop_stops times (read_factor 0 (read_expr_at 0 levels)) s c u r e f

pub factor_end : (levels : ℕ) (s : Counted) (u : List Lexeme) → starts kind times u ≡ false → read_factors 0 (read_expr_at 0 levels) s u ≡ took s u
unfolding read_factors
factor_end levels s u e = read_loop_end kind times (read_factor 0 (read_expr_at 0 levels)) s u e

pub addend_shorter : (levels : ℕ) (s z : Counted) (u r : List Lexeme) → read_addend 0 (read_expr_at 0 levels) s u ≡ took z r → length r < length u
addend_shorter levels s z u r h = shorter kind _ _ _ ((addend inner_lang inner_read (inner levels) {r = false} s).exact (0, levels)) refl u r z h

pub addend_turn : (levels : ℕ) (s z : Counted) (u r : List Lexeme) → starts kind plus u ≡ true →
    read_addend 0 (read_expr_at 0 levels) s u ≡ took z r → read_addends 0 (read_expr_at 0 levels) s u ≡ read_addends 0 (read_expr_at 0 levels) z r
unfolding read_addends
addend_turn levels s z u r e f = loop_turn plus (read_addend 0 (read_expr_at 0 levels)) s z u r e f (addend_shorter levels s z u r f)

pub addend_stops : (levels : ℕ) (s : Counted) (c : Cause) (u r : List Lexeme) → starts kind plus u ≡ true →
    read_addend 0 (read_expr_at 0 levels) s u ≡ stops c r → read_addends 0 (read_expr_at 0 levels) s u ≡ stops c r
unfolding read_addends
addend_stops levels s c u r e f = loop_stops plus (read_addend 0 (read_expr_at 0 levels)) s c u r e f

pub addend_end : (levels : ℕ) (s : Counted) (u : List Lexeme) → starts kind plus u ≡ false → read_addends 0 (read_expr_at 0 levels) s u ≡ took s u
unfolding read_addends
addend_end levels s u e = read_loop_end kind plus (read_addend 0 (read_expr_at 0 levels)) s u e

pub argument_shorter : (levels : ℕ) (s z : List RawExpr × ℕ) (u r : List Lexeme) → read_argument 0 (read_expr_at 0 levels) s u ≡ took z r → length r < length u
argument_shorter levels s z u r h = shorter kind _ _ _ ((argument inner_lang inner_read (inner levels) s).exact (0, levels)) refl u r z h

pub argument_turn : (levels : ℕ) (s z : List RawExpr × ℕ) (u r : List Lexeme) → starts kind (only m.Comma) u ≡ true →
    read_argument 0 (read_expr_at 0 levels) s u ≡ took z r → read_more_arguments 0 (read_expr_at 0 levels) s u ≡ read_more_arguments 0 (read_expr_at 0 levels) z r
unfolding read_more_arguments
argument_turn levels s z u r e f = loop_turn (only m.Comma) (read_argument 0 (read_expr_at 0 levels)) s z u r e f (argument_shorter levels s z u r f)

pub argument_stops : (levels : ℕ) (s : List RawExpr × ℕ) (c : Cause) (u r : List Lexeme) → starts kind (only m.Comma) u ≡ true →
    read_argument 0 (read_expr_at 0 levels) s u ≡ stops c r → read_more_arguments 0 (read_expr_at 0 levels) s u ≡ stops c r
unfolding read_more_arguments
argument_stops levels s c u r e f = loop_stops (only m.Comma) (read_argument 0 (read_expr_at 0 levels)) s c u r e f

pub argument_end : (levels : ℕ) (s : List RawExpr × ℕ) (u : List Lexeme) → starts kind (only m.Comma) u ≡ false → read_more_arguments 0 (read_expr_at 0 levels) s u ≡ took s u
unfolding read_more_arguments
argument_end levels s u e = read_loop_end kind (only m.Comma) (read_argument 0 (read_expr_at 0 levels)) s u e
