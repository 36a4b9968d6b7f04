-- A text has at most one first fault, and none where it denotes a job.
use Rattle.std.proofs.Common.{◌≡◌, ℕ, ◌-◌, ◌<◌, ◌≤◌, List, [], ◌∷◌, ◌++◌, length, drop, refl, sym, ap, ◌∙◌, subst, arith, ◌⊎◌, inl, inr, append_assoc}
use Rattle.std.proofs.lemmas.List.{append-nil, map-append}
use Rattle.lrc_base.specs.declared.limits.TheConstants.{TEXT_LIMIT}
use Rattle.lrc_base.specs.declared.job.Job.{Job}
use Rattle.lrc_lex.specs.declared.Token.{Token}
use Rattle.lrc_lex.proofs.TokensLemmas.{one_list, one_fault, never_both}
use Rattle.lrc_parse.specs.Reading.{Cause, nested, stops}
use Rattle.lrc_parse.specs.Faults.{Begins, Wanting, Passing}
use Rattle.lrc_parse.proofs.Places.{same_cause, same_left}
use Rattle.lrc_reader.specs.declared.lexeme.Lexeme.{Lexeme}
use Rattle.lrc_reader.specs.declared.fault.Limit.{Limit}
use Rattle.lrc_reader.specs.declared.fault.Limit.TheVariants.{Sorts, Attributes, Productions, Children, Locals, Nodes, Sessions, Edits}
use Rattle.lrc_reader.specs.declared.fault.JobFault.{JobFault}
use Rattle.lrc_reader.specs.declared.fault.JobFault.TheVariants.{TooLong, Lex, Expected, LimitReached, NestedTooDeep, Memory}
use Rattle.lrc_reader.specs.Lexeme.{lexeme_of, lexemes}
use Rattle.lrc_reader.specs.Limits.{number_of, passing}
use Rattle.lrc_reader.specs.Reading.{read_all}
use Rattle.lrc_reader.specs.Denotes.{Denotes}
use Rattle.lrc_reader.specs.Faults.{Split, start_of, jobs, Unpassed, IsExpected, PassesNext, IsPassed, FirstTextFault}
use Rattle.lrc_reader.proofs.Verdict.{drop_front, length_lexemes, same_tokens, passes_stop}

-- the same list in two parts, twice: the one front is longer by what the other rest has in front
cut_two : {A : Type 0} (p r q s : List A) → p ++ r ≡ q ++ s → ((o : List A) × (q ≡ p ++ o) × (r ≡ o ++ s)) ⊎ ((o : List A) × (p ≡ q ++ o) × (s ≡ o ++ r))
cut_two [] r q s e = inl (q, refl, e)
cut_two (x ∷ p) r [] s e = inr (x ∷ p, refl, sym e)
cut_two {A} (x ∷ p) r (y ∷ q) s e =
    let h : x ≡ y = cc in
    let t : p ++ r ≡ q ++ s = cc in
    go h (cut_two p r q s t)
  where
    go : x ≡ y → ((o : List A) × (q ≡ p ++ o) × (r ≡ o ++ s)) ⊎ ((o : List A) × (p ≡ q ++ o) × (s ≡ o ++ r)) →
        ((o : List A) × (y ∷ q ≡ (x ∷ p) ++ o) × (r ≡ o ++ s)) ⊎ ((o : List A) × (x ∷ p ≡ (y ∷ q) ++ o) × (s ≡ o ++ r))
    go h (inl w) = inl (w.0, ap (λ v. v ∷ q) (sym h) ∙ ap (λ v. x ∷ v) w.1, w.2)
    go h (inr w) = inr (w.0, ap (λ v. v ∷ p) h ∙ ap (λ v. y ∷ v) w.1, w.2)

-- ---- lexemes

-- what goes on to a job, goes on from each of its fronts
shorter_begins : (p o : List Lexeme) (t : Lexeme) → Begins jobs (p ++ t ∷ o) → Begins jobs (p ++ t ∷ [])
shorter_begins p o t b =
    (b.0, o ++ b.1, b.2, subst (λ v. jobs b.0 v b.2) (append_assoc p (t ∷ o) b.1 ∙ sym (append_assoc p (t ∷ []) (o ++ b.1))) b.3)

begun : (p r : List Lexeme) → Wanting jobs p r → Begins jobs p
begun p [] w = w.0
begun p (t ∷ r) w = w.0

-- where another lexeme is wanted, none that begins a job comes next
wanting_next : (p r : List Lexeme) (t : Lexeme) (o : List Lexeme) → r ≡ t ∷ o → Wanting jobs p r → ¬ Begins jobs (p ++ t ∷ [])
wanting_next p r t o e w = (subst (Wanting jobs p) e w).1

longer_not_wanted : (p r q : List Lexeme) (t : Lexeme) (o s : List Lexeme) → Wanting jobs p r → r ≡ t ∷ (o ++ s) → q ≡ p ++ t ∷ o → Begins jobs q → ⊥
longer_not_wanted p r q t o s w e f b = wanting_next p r t (o ++ s) e w (shorter_begins p o t (subst (Begins jobs) f b))

same_end : (p r q s : List Lexeme) → p ++ r ≡ q ++ s → Wanting jobs p r → Wanting jobs q s → length r ≡ length s
same_end p r q s e w v = go (cut_two p r q s e)
  where
    first : (o : List Lexeme) → q ≡ p ++ o → r ≡ o ++ s → length r ≡ length s
    first [] f g = ap length g
    first (t ∷ o) f g = absurd (longer_not_wanted p r q t o s w g f (begun q s v))

    second : (o : List Lexeme) → p ≡ q ++ o → s ≡ o ++ r → length r ≡ length s
    second [] f g = sym (ap length g)
    second (t ∷ o) f g = absurd (longer_not_wanted q s p t o r v g f (begun p r w))

    go : ((o : List Lexeme) × (q ≡ p ++ o) × (r ≡ o ++ s)) ⊎ ((o : List Lexeme) × (p ≡ q ++ o) × (s ≡ o ++ r)) → length r ≡ length s
    go (inl h) = first h.0 h.1 h.2
    go (inr h) = second h.0 h.1 h.2

-- no lexeme is wanted where an earlier one passes a limit, nor where one does that begins a job
passed_or_wanted : (c : Cause) (p r q s : List Lexeme) → p ++ r ≡ q ++ s → PassesNext c p r → Passing jobs 0 p r → Wanting jobs q s → Unpassed q → ⊥
passed_or_wanted c p [] q s e n m w u = n
passed_or_wanted c p (t ∷ r) q s e n m w u = go (cut_two p (t ∷ r) q s e)
  where
    here : q ≡ p → s ≡ t ∷ r → ⊥
    here f g = wanting_next q s t r g w (subst (λ v. Begins jobs (v ++ t ∷ [])) (sym f) m.0)

    first : (o : List Lexeme) → q ≡ p ++ o → t ∷ r ≡ o ++ s → ⊥
    first [] f g = here (f ∙ append-nil p) (sym g)
    first (v ∷ o) f g = let i : t ≡ v = cc in u c p o t (f ∙ ap (λ x. p ++ x ∷ o) (sym i)) n

    second : (o : List Lexeme) → p ≡ q ++ o → s ≡ o ++ t ∷ r → ⊥
    second [] f g = here (sym (f ∙ append-nil q)) g
    second (v ∷ o) f g =
        longer_not_wanted q s (p ++ t ∷ []) v (o ++ t ∷ []) r w (g ∙ ap (λ x. v ∷ x) (sym (append_assoc o (t ∷ []) r)))
        (ap (λ x. x ++ t ∷ []) f ∙ append_assoc q (v ∷ o) (t ∷ [])) m.0

    go : ((o : List Lexeme) × (q ≡ p ++ o) × (t ∷ r ≡ o ++ s)) ⊎ ((o : List Lexeme) × (p ≡ q ++ o) × (s ≡ o ++ t ∷ r)) → ⊥
    go (inl h) = first h.0 h.1 h.2
    go (inr h) = second h.0 h.1 h.2

-- ---- tokens

split_lexemes : (text : List ℕ) (before rest : List Token) → lexemes text (before ++ rest) ≡ lexemes text before ++ lexemes text rest
split_lexemes text before rest = map-append (lexeme_of text) before rest

module _ (text : List ℕ) {at to : ℕ} (s : Split text at) (z : Split text to) where
  same_list : s.before ++ s.rest ≡ z.before ++ z.rest
  same_list = one_list s.cut z.cut

  same_lexemes : lexemes text s.before ++ lexemes text s.rest ≡ lexemes text z.before ++ lexemes text z.rest
  same_lexemes = sym (split_lexemes text s.before s.rest) ∙ ap (lexemes text) same_list ∙ split_lexemes text z.before z.rest

  -- as many lexemes left, the same place
  same_at : length (lexemes text s.rest) ≡ length (lexemes text z.rest) → at ≡ to
  same_at e =
      let n : length s.rest ≡ length z.rest = sym (length_lexemes text s.rest) ∙ (e ∙ length_lexemes text z.rest) in
      let f : s.rest ≡ z.rest =
      sym (drop_front s.before s.rest) ∙ ap (λ v. drop (length v - length s.rest) v) same_list ∙
      ap (λ k. drop (length (z.before ++ z.rest) - k) (z.before ++ z.rest)) n ∙ drop_front z.before z.rest in
      s.here ∙ ap (start_of text) f ∙ sym z.here

  -- limits that are passed are passed by the same cause at the same place
  same_passed : (c d : Cause) → PassesNext c (lexemes text s.before) (lexemes text s.rest) → PassesNext d (lexemes text z.before) (lexemes text z.rest) → (c ≡ d) × (at ≡ to)
  same_passed c d n m =
      let e : stops c (lexemes text s.rest) ≡ stops d (lexemes text z.rest) =
      sym (passes_stop c (lexemes text s.before) (lexemes text s.rest) n) ∙ ap (read_all 0) same_lexemes ∙ passes_stop d (lexemes text z.before) (lexemes text z.rest) m in
      (same_cause c d _ _ e, same_at (ap length (same_left c d _ _ e)))

limits_apart : (a b : Limit) → number_of a ≡ number_of b → a ≡ b
limits_apart Sorts Sorts e = refl
limits_apart Sorts Attributes e = absurd cc
limits_apart Sorts Productions e = absurd cc
limits_apart Sorts Children e = absurd cc
limits_apart Sorts Locals e = absurd cc
limits_apart Sorts Nodes e = absurd cc
limits_apart Sorts Sessions e = absurd cc
limits_apart Sorts Edits e = absurd cc
limits_apart Attributes Sorts e = absurd cc
limits_apart Attributes Attributes e = refl
limits_apart Attributes Productions e = absurd cc
limits_apart Attributes Children e = absurd cc
limits_apart Attributes Locals e = absurd cc
limits_apart Attributes Nodes e = absurd cc
limits_apart Attributes Sessions e = absurd cc
limits_apart Attributes Edits e = absurd cc
limits_apart Productions Sorts e = absurd cc
limits_apart Productions Attributes e = absurd cc
limits_apart Productions Productions e = refl
limits_apart Productions Children e = absurd cc
limits_apart Productions Locals e = absurd cc
limits_apart Productions Nodes e = absurd cc
limits_apart Productions Sessions e = absurd cc
limits_apart Productions Edits e = absurd cc
limits_apart Children Sorts e = absurd cc
limits_apart Children Attributes e = absurd cc
limits_apart Children Productions e = absurd cc
limits_apart Children Children e = refl
limits_apart Children Locals e = absurd cc
limits_apart Children Nodes e = absurd cc
limits_apart Children Sessions e = absurd cc
limits_apart Children Edits e = absurd cc
limits_apart Locals Sorts e = absurd cc
limits_apart Locals Attributes e = absurd cc
limits_apart Locals Productions e = absurd cc
limits_apart Locals Children e = absurd cc
limits_apart Locals Locals e = refl
limits_apart Locals Nodes e = absurd cc
limits_apart Locals Sessions e = absurd cc
limits_apart Locals Edits e = absurd cc
limits_apart Nodes Sorts e = absurd cc
limits_apart Nodes Attributes e = absurd cc
limits_apart Nodes Productions e = absurd cc
limits_apart Nodes Children e = absurd cc
limits_apart Nodes Locals e = absurd cc
limits_apart Nodes Nodes e = refl
limits_apart Nodes Sessions e = absurd cc
limits_apart Nodes Edits e = absurd cc
limits_apart Sessions Sorts e = absurd cc
limits_apart Sessions Attributes e = absurd cc
limits_apart Sessions Productions e = absurd cc
limits_apart Sessions Children e = absurd cc
limits_apart Sessions Locals e = absurd cc
limits_apart Sessions Nodes e = absurd cc
limits_apart Sessions Sessions e = refl
limits_apart Sessions Edits e = absurd cc
limits_apart Edits Sorts e = absurd cc
limits_apart Edits Attributes e = absurd cc
limits_apart Edits Productions e = absurd cc
limits_apart Edits Children e = absurd cc
limits_apart Edits Locals e = absurd cc
limits_apart Edits Nodes e = absurd cc
limits_apart Edits Sessions e = absurd cc
limits_apart Edits Edits e = refl

same_limit : (a b : Limit) → passing a ≡ passing b → a ≡ b
same_limit a b e = limits_apart a b cc

nested_is_no_limit : (a : Limit) → passing a ≡ nested → ⊥
nested_is_no_limit a e = cc

limit_is_not_nested : (a : Limit) → nested ≡ passing a → ⊥
limit_is_not_nested a e = cc

-- ---- texts

not_both : (text : List ℕ) (c : Cause) (at to : ℕ) → IsPassed text c at → IsExpected text to → ⊥
not_both text c at to f g =
    passed_or_wanted c _ _ _ _ (same_lexemes text f.0 g.0) f.1 f.2 g.1 g.2

long : (text : List ℕ) → TEXT_LIMIT < length text → length text ≤ TEXT_LIMIT → ⊥
long text a b = omega (arith, a, b)

pub one_first : (text : List ℕ) (f g : JobFault) → FirstTextFault text f → FirstTextFault text g → f ≡ g
one_first text TooLong TooLong a b = refl
one_first text TooLong (Lex g) a b = absurd (long text a b.0)
one_first text TooLong (Expected y) a b = absurd (long text a b.0.short)
one_first text TooLong (LimitReached y v) a b = absurd (long text a b.0.short)
one_first text TooLong (NestedTooDeep y) a b = absurd (long text a b.0.short)
one_first text (Lex f) TooLong a b = absurd (long text b a.0)
one_first text (Lex f) (Lex g) a b = ap Lex (one_fault a.1 b.1)
one_first text (Lex f) (Expected y) a b = absurd (never_both b.0.cut a.1)
one_first text (Lex f) (LimitReached y v) a b = absurd (never_both b.0.cut a.1)
one_first text (Lex f) (NestedTooDeep y) a b = absurd (never_both b.0.cut a.1)
one_first text (Expected x) TooLong a b = absurd (long text b a.0.short)
one_first text (Expected x) (Lex g) a b = absurd (never_both a.0.cut b.1)
one_first text (Expected x) (Expected y) a b = ap Expected (same_at text a.0 b.0 (same_end _ _ _ _ (same_lexemes text a.0 b.0) a.1 b.1))
one_first text (Expected x) (LimitReached y v) a b = absurd (not_both text (passing v) y x b a)
one_first text (Expected x) (NestedTooDeep y) a b = absurd (not_both text nested y x b a)
one_first text (LimitReached x w) TooLong a b = absurd (long text b a.0.short)
one_first text (LimitReached x w) (Lex g) a b = absurd (never_both a.0.cut b.1)
one_first text (LimitReached x w) (Expected y) a b = absurd (not_both text (passing w) x y a b)
one_first text (LimitReached x w) (LimitReached y v) a b =
    let e : _ = same_passed text a.0 b.0 (passing w) (passing v) a.1 b.1 in ap (λ k. LimitReached k w) e.1 ∙ ap (LimitReached y) (same_limit w v e.0)
one_first text (LimitReached x w) (NestedTooDeep y) a b = absurd (nested_is_no_limit w (same_passed text a.0 b.0 (passing w) nested a.1 b.1).0)
one_first text (NestedTooDeep x) TooLong a b = absurd (long text b a.0.short)
one_first text (NestedTooDeep x) (Lex g) a b = absurd (never_both a.0.cut b.1)
one_first text (NestedTooDeep x) (Expected y) a b = absurd (not_both text nested x y a b)
one_first text (NestedTooDeep x) (LimitReached y v) a b = absurd (limit_is_not_nested v (same_passed text a.0 b.0 nested (passing v) a.1 b.1).0)
one_first text (NestedTooDeep x) (NestedTooDeep y) a b = ap NestedTooDeep (same_passed text a.0 b.0 nested nested a.1 b.1).1
one_first text Memory g a b = absurd a
one_first text TooLong Memory a b = absurd b
one_first text (Lex f) Memory a b = absurd b
one_first text (Expected x) Memory a b = absurd b
one_first text (LimitReached x w) Memory a b = absurd b
one_first text (NestedTooDeep x) Memory a b = absurd b

-- where another lexeme is wanted, or one passes a limit, the whole is no job
wanting_none : (p r : List Lexeme) (x : Job) → Wanting jobs p r → jobs 0 (p ++ r) x → ⊥
wanting_none p [] x w d = w.1 0 x (subst (λ v. jobs 0 v x) (append-nil p) d)
wanting_none p (t ∷ r) x w d = w.1 (0, r, x, subst (λ v. jobs 0 v x) (sym (append_assoc p (t ∷ []) r)) d)

passing_none : (p r : List Lexeme) (x : Job) → Passing jobs 0 p r → jobs 0 (p ++ r) x → ⊥
passing_none p [] x m d = m
passing_none p (t ∷ r) x m d = m.1 r x d

split_job : (text : List ℕ) (at : ℕ) (s : Split text at) (x : Job) → Denotes text x → jobs 0 (lexemes text s.before ++ lexemes text s.rest) x
split_job text at s x d = subst (λ v. jobs 0 v x) (split_lexemes text s.before s.rest) (same_tokens text (s.before ++ s.rest) x s.cut d)

pub no_job : (text : List ℕ) (f : JobFault) (x : Job) → FirstTextFault text f → Denotes text x → ⊥
no_job text TooLong x a d = long text a d.short
no_job text (Lex f) x a d = never_both d.cut a.1
no_job text (Expected at) x a d = wanting_none _ _ x a.1 (split_job text at a.0 x d)
no_job text (LimitReached at w) x a d = passing_none _ _ x a.2 (split_job text at a.0 x d)
no_job text (NestedTooDeep at) x a d = passing_none _ _ x a.2 (split_job text at a.0 x d)
no_job text Memory x a d = a
