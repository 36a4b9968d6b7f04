-- A term is read as it begins, and what stands behind a child step by step; each step takes a lexeme.
use Rattle.std.proofs.Common.{◌≡◌, ℕ, zero, suc, pred, ◌<◌, ◌==◌, Bool, true, false, cond, Option, Some, None, List, [], ◌∷◌, ◌++◌, length, drop, refl, sym, ap, ◌∙◌, subst, arith}
use Rattle.lrc_base.specs.declared.raw_term.RawTermTree.{RawTermTree}
use Rattle.lrc_base.specs.declared.raw_term.RawTermTree.TheVariants as t
use Rattle.lrc_parse.specs.Kinds.{starts}
use Rattle.lrc_parse.specs.Reading.{Reading, expected, nested, took, stops, on_took, token_value, read_one, read_of, read_fixed, read_either, read_nothing, read_levels}
use Rattle.lrc_parse.proofs.Steps.{read_either_first, read_either_second}
use Rattle.lrc_reader.specs.declared.lexeme.Lexeme.{Lexeme}
use Rattle.lrc_reader.specs.declared.lexeme.Mark.TheVariants as m
use Rattle.lrc_reader.specs.Lexeme.{kind, number}
use Rattle.lrc_reader.specs.First.{only, literals, terms}
use Rattle.lrc_reader.specs.Grammar.{Name}
use Rattle.lrc_reader.specs.Reading.{Reader, pass, constant, read_word, read_leaf, read_push_term, read_another_term, read_more_terms, read_some_terms, read_any_terms, read_tree, read_term_over, read_term_at}
use Rattle.lrc_reader.specs.Steps.{Start, whole, opened, read_head, read_begin, read_next}
use Rattle.lrc_reader.proofs.Next.{fixed_took}
use Rattle.lrc_reader.proofs.Shorter.{term_turn, term_stops, term_end}

-- ---- what follows what was read

on_took_same : {A B : Type 0} (o : Reading Lexeme A) (f g : A → Reader B) → ((x : A) (r : List Lexeme) → f x r ≡ g x r) → on_took o f ≡ on_took o g
on_took_same (took x r) f g h = h x r
on_took_same (stops c r) f g h = refl

on_took_twice : {A B C : Type 0} (o : Reading Lexeme A) (f : A → Reader B) (g : B → Reader C) → on_took (on_took o f) g ≡ on_took o (λ x r. on_took (f x r) g)
on_took_twice (took x r) f g = refl
on_took_twice (stops c r) f g = refl

on_took_value : {A B C : Type 0} (o : Reading Lexeme A) (f : A → B) (g : B → Reader C) → on_took (on_took o (λ x r. took (f x) r)) g ≡ on_took o (λ x r. g (f x) r)
on_took_value (took x r) f g = refl
on_took_value (stops c r) f g = refl

on_took_cond : {A B : Type 0} (b : Bool) (x y : Reading Lexeme A) (z w : Reading Lexeme B) (f : A → Reader B) → z ≡ on_took x f → w ≡ on_took y f →
    cond b z w ≡ on_took (cond b x y) f
on_took_cond true x y z w f e g = e
on_took_cond false x y z w f e g = g

-- ---- a node whose children are being read: its name, and its children so far

abbrev pub Frame : Type 0
Frame = Name × List RawTermTree

-- the rest of the node from behind a child, where a child has at most k terms within one another
abbrev pub goes_on : ℕ → Frame → Reader RawTermTree
goes_on k f u = on_took (read_more_terms (read_term_at k) f.1 u) (λ xs v. on_took (pass m.RightParen v) (λ _ w. took (t.Node f.0 xs) w))

-- the node, where this was read of its next child
abbrev pub after : ℕ → Frame → Reading Lexeme RawTermTree → Reading Lexeme RawTermTree
after k f o = on_took o (λ x. goes_on k (f.0, f.1 ++ x ∷ []))

-- the term, of which so much was read
abbrev pub behind : ℕ → Start → Reader RawTermTree
behind k (whole x) v = took x v
behind k (opened name) v = after (pred k) (name, []) (read_term_at (pred k) v)

-- ---- how a term begins

some_is : (k : ℕ) (name : Name) (o : Reading Lexeme RawTermTree) →
    on_took (on_took (on_took o (λ x r. took ([] ++ x ∷ []) r)) (read_more_terms (read_term_at k))) (λ xs v. on_took (pass m.RightParen v) (λ _ w. took (t.Node name xs) w)) ≡ after k (name, []) o
some_is k name (took x r) = refl
some_is k name (stops c r) = refl

children_are : (k : ℕ) (name : Name) (u : List Lexeme) →
    on_took (read_any_terms (read_term_at k) u) (λ xs v. on_took (pass m.RightParen v) (λ _ w. took (t.Node name xs) w)) ≡
    on_took (read_either kind terms (λ v. took (opened name) v) (λ v. on_took (pass m.RightParen v) (λ _ w. took (whole (t.Node name [])) w)) u) (behind (suc k))
unfolding read_any_terms read_either read_some_terms read_push_term
children_are k name u = by_test (starts kind terms u)
  where
    by_test : (b : Bool) →
        on_took (cond b (on_took (on_took (read_term_at k u) (λ x r. took ([] ++ x ∷ []) r)) (read_more_terms (read_term_at k))) (took [] u)) (λ xs v. on_took (pass m.RightParen v) (λ _ w. took (t.Node name xs) w)) ≡
        on_took (cond b (took (opened name) u) (on_took (pass m.RightParen u) (λ _ w. took (whole (t.Node name [])) w))) (behind (suc k))
    by_test true = some_is k name (read_term_at k u)
    by_test false = sym (on_took_value (pass m.RightParen u) (λ _. whole (t.Node name [])) (behind (suc k)))

head_is : (k : ℕ) (u : List Lexeme) → read_tree (read_term_at k) u ≡ on_took (read_head u) (behind (suc k))
unfolding read_tree read_head
head_is k u =
    on_took_same (read_word u) _ _ (λ name v. on_took_same (pass m.LeftParen v) _ _ (λ _ w. children_are k name w) ∙ sym (on_took_twice (pass m.LeftParen v) _ (behind (suc k))))
    ∙ sym (on_took_twice (read_word u) _ (behind (suc k)))

leaf_is : (k : ℕ) (o : Reading Lexeme RawTermTree) → o ≡ on_took (on_took o (λ x r. took (whole x) r)) (behind k)
leaf_is k (took x r) = refl
leaf_is k (stops c r) = refl

pub begin_is : (k : ℕ) (u : List Lexeme) → read_term_at k u ≡ on_took (read_begin k u) (behind k)
unfolding read_term_at read_levels read_term_over read_begin read_nothing read_either read_of
begin_is zero u = on_took_cond (starts kind terms u) (stops nested u) (stops expected u) _ _ (behind zero) refl refl
begin_is (suc k) u = on_took_cond (starts kind literals u) _ (read_head u) _ _ (behind (suc k)) (leaf_is (suc k) (read_leaf u)) (head_is k u)

-- ---- what stands behind a child

more_are : (k : ℕ) (xs : List RawTermTree) (u : List Lexeme) → starts kind (only m.Comma) u ≡ true →
    read_more_terms (read_term_at k) xs u ≡ on_took (read_another_term (read_term_at k) xs u) (read_more_terms (read_term_at k))
more_are k xs u e = by_next (read_another_term (read_term_at k) xs u) refl
  where
    by_next : (o : Reading Lexeme (List RawTermTree)) → read_another_term (read_term_at k) xs u ≡ o → read_more_terms (read_term_at k) xs u ≡ on_took o (read_more_terms (read_term_at k))
    by_next (took zs r) f = term_turn k xs zs u r e f
    by_next (stops c r) f = term_stops k xs c u r e f

-- where the next lexeme goes on with this node
abbrev pub on_next : ℕ → Frame → Bool → Reader RawTermTree
on_next k f more v = cond more (after k f (read_term_at k v)) (took (t.Node f.0 f.1) v)

another_is : (k : ℕ) (f : Frame) (o : Reading Lexeme RawTermTree) →
    on_took (on_took (on_took o (λ x r. took (f.1 ++ x ∷ []) r)) (read_more_terms (read_term_at k))) (λ xs v. on_took (pass m.RightParen v) (λ _ w. took (t.Node f.0 xs) w)) ≡ after k f o
another_is k f (took x r) = refl
another_is k f (stops c r) = refl

comma_is : (k : ℕ) (f : Frame) (u : List Lexeme) → starts kind (only m.Comma) u ≡ true → goes_on k f u ≡ on_took (read_next u) (on_next k f)
unfolding read_another_term read_push_term read_next
comma_is k f u e =
    let comma : pass m.Comma u ≡ took tt (drop 1 u) = fixed_took (number m.Comma) u e in
    ap (λ o. on_took o (λ xs v. on_took (pass m.RightParen v) (λ _ w. took (t.Node f.0 xs) w))) (more_are k f.1 u e)
    ∙ ap (λ o. on_took (on_took (on_took o (λ _ v. on_took (read_term_at k v) (λ x r. took (f.1 ++ x ∷ []) r))) (read_more_terms (read_term_at k))) (λ xs v. on_took (pass m.RightParen v) (λ _ w. took (t.Node f.0 xs) w))) comma
    ∙ another_is k f (read_term_at k (drop 1 u))
    ∙ sym (ap (λ o. on_took o (on_next k f)) (read_either_first kind (only m.Comma) (constant m.Comma true) (constant m.RightParen false) u e ∙ ap (λ o. on_took o (λ _ r. took true r)) comma))

end_is : (k : ℕ) (f : Frame) (u : List Lexeme) → starts kind (only m.Comma) u ≡ false → goes_on k f u ≡ on_took (read_next u) (on_next k f)
unfolding read_next
end_is k f u e =
    ap (λ o. on_took o (λ xs v. on_took (pass m.RightParen v) (λ _ w. took (t.Node f.0 xs) w))) (term_end k f.1 u e)
    ∙ sym (ap (λ o. on_took o (on_next k f)) (read_either_second kind (only m.Comma) (constant m.Comma true) (constant m.RightParen false) u e)
    ∙ on_took_value (pass m.RightParen u) (λ _. false) (on_next k f))

pub next_is : (k : ℕ) (f : Frame) (u : List Lexeme) → goes_on k f u ≡ on_took (read_next u) (on_next k f)
next_is k f u = by_test (starts kind (only m.Comma) u) refl
  where
    by_test : (b : Bool) → starts kind (only m.Comma) u ≡ b → goes_on k f u ≡ on_took (read_next u) (on_next k f)
    by_test true e = comma_is k f u e
    by_test false e = end_is k f u e

-- ---- each step takes a lexeme

-- what is taken leaves less than this
abbrev Takes : {A : Type 0} → ℕ → Reading Lexeme A → Type 0
Takes n (took x r) = length r < n
Takes n (stops c r) = Unit {0}

one_takes : {A : Type 0} (value : Lexeme → Option A) (u : List Lexeme) → Takes (length u) (read_one value u)
unfolding read_one
one_takes value [] = tt
one_takes {A} value (t ∷ u) = by_value (value t)
  where
    by_value : (o : Option A) → Takes (length (t ∷ u)) (token_value o t u)
    by_value (Some x) = omega arith
    by_value None = tt

fixed_takes : (k : ℕ) (u : List Lexeme) → Takes (length u) (read_fixed kind k u)
unfolding read_fixed
fixed_takes k [] = tt
fixed_takes k (t ∷ u) = by_test (kind t == k)
  where
    by_test : (b : Bool) → Takes (length (t ∷ u)) (let o : Unit {0} = tt in cond b (took o u) (stops expected (t ∷ u)))
    by_test true = omega arith
    by_test false = tt

then_takes : {A B : Type 0} (n : ℕ) (o : Reading Lexeme A) (f : A → Reader B) → Takes n o → ((x : A) (r : List Lexeme) → length r < n → Takes n (f x r)) → Takes n (on_took o f)
then_takes n (took x r) f h g = g x r h
then_takes n (stops c r) f h g = tt

less_takes : {A : Type 0} (m n : ℕ) (o : Reading Lexeme A) → m < n → Takes m o → Takes n o
less_takes m n (took x r) l h = omega (arith, l, h)
less_takes m n (stops c r) l h = tt

cond_takes : {A : Type 0} (n : ℕ) (b : Bool) (x y : Reading Lexeme A) → Takes n x → Takes n y → Takes n (cond b x y)
cond_takes n true x y h g = h
cond_takes n false x y h g = g

end_takes : (n : ℕ) (name : Name) (u : List Lexeme) → length u < n →
    Takes n (read_either kind terms (λ v. took (opened name) v) (λ v. on_took (pass m.RightParen v) (λ _ w. took (whole (t.Node name [])) w)) u)
unfolding read_either
end_takes n name u l =
    cond_takes n (starts kind terms u) (took (opened name) u) (on_took (pass m.RightParen u) (λ _ w. took (whole (t.Node name [])) w)) l
    (then_takes n (pass m.RightParen u) (λ _ w. took (whole (t.Node name [])) w) (less_takes (length u) n (pass m.RightParen u) l (fixed_takes (number m.RightParen) u)) (λ _ r h. h))

head_takes : (u : List Lexeme) → Takes (length u) (read_head u)
unfolding read_head read_word
head_takes u =
    then_takes (length u) _ _ (one_takes _ u) (λ name v l.
    then_takes (length u) (pass m.LeftParen v) _ (less_takes (length v) (length u) (pass m.LeftParen v) l (fixed_takes (number m.LeftParen) v)) (λ _ w h. end_takes (length u) name w h))

leaf_takes : (u : List Lexeme) → Takes (length u) (on_took (read_leaf u) (λ x r. took (whole x) r))
unfolding read_leaf
leaf_takes u = then_takes (length u) _ _ (one_takes _ u) (λ x r h. h)

begin_takes : (k : ℕ) (u : List Lexeme) → Takes (length u) (read_begin k u)
unfolding read_begin read_nothing read_either read_of
begin_takes zero u = cond_takes (length u) (starts kind terms u) (stops nested u) (stops expected u) tt tt
begin_takes (suc k) u = cond_takes (length u) (starts kind literals u) _ (read_head u) (leaf_takes u) (head_takes u)

next_takes : (u : List Lexeme) → Takes (length u) (read_next u)
unfolding read_next read_either
next_takes u =
    cond_takes (length u) (starts kind (only m.Comma) u) (on_took (pass m.Comma u) (λ _ r. took true r)) (on_took (pass m.RightParen u) (λ _ r. took false r))
    (then_takes (length u) (pass m.Comma u) (λ _ r. took true r) (fixed_takes (number m.Comma) u) (λ _ r h. h))
    (then_takes (length u) (pass m.RightParen u) (λ _ r. took false r) (fixed_takes (number m.RightParen) u) (λ _ r h. h))

pub begin_shorter : (k : ℕ) (u r : List Lexeme) (x : Start) → read_begin k u ≡ took x r → length r < length u
begin_shorter k u r x e = subst (Takes (length u)) e (begin_takes k u)

pub next_shorter : (u r : List Lexeme) (more : Bool) → read_next u ≡ took more r → length r < length u
next_shorter u r more e = subst (Takes (length u)) e (next_takes u)
