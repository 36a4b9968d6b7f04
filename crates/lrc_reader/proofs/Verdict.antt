-- What reading all lexemes says of a text: its job, or its first fault.
use Rattle.std.proofs.Common.{◌≡◌, ◌≢◌, true, ℕ, suc, ◌+◌, ◌-◌, ◌≤◌, List, [], ◌∷◌, ◌++◌, length, drop, refl, sym, ap, ◌∙◌, subst, arith, length-append, append_assoc}
use Rattle.std.proofs.lemmas.List.{append-nil, append_cancel_right}
use Rattle.lrc_base.specs.declared.limits.TheConstants.{TEXT_LIMIT}
use Rattle.lrc_base.specs.declared.job.Job.{Job}
use Rattle.lrc_lex.specs.declared.Token.{Token}
use Rattle.lrc_lex.specs.Tokens.{Tokens}
use Rattle.lrc_lex.proofs.TokensLemmas.{one_list}
use Rattle.lrc_parse.specs.Exact.{Exact}
use Rattle.lrc_parse.specs.Reading.{Cause, expected, nested, limit, took, stops}
use Rattle.lrc_parse.specs.Faults.{Full, Wanting, Passing}
use Rattle.lrc_parse.proofs.Staged.{Staged, whole}
use Rattle.lrc_parse.proofs.Whole.{read_whole, one_value, stops_none, rest_none}
use Rattle.lrc_parse.proofs.Back.{stops_not_took}
use Rattle.lrc_parse.proofs.Places.{same_left}
use Rattle.lrc_parse.proofs.Verdict.{stop_place, left_place}
use Rattle.lrc_reader.specs.declared.lexeme.Lexeme.{Lexeme}
use Rattle.lrc_reader.specs.declared.fault.JobFault.{JobFault}
use Rattle.lrc_reader.specs.declared.fault.JobFault.TheVariants as fault
use Rattle.lrc_reader.specs.declared.fault.Stop.{Stop}
use Rattle.lrc_reader.specs.declared.fault.Stop.TheVariants as stop
use Rattle.lrc_reader.specs.Lexeme.{kind, lexeme_of, lexemes}
use Rattle.lrc_reader.specs.Limits.{passing}
use Rattle.lrc_reader.specs.Gives.{cause_of, fault_at}
use Rattle.lrc_reader.specs.Grammar.{IsJob}
use Rattle.lrc_reader.specs.Reading.{read_all}
use Rattle.lrc_reader.specs.Denotes.{Denotes}
use Rattle.lrc_reader.specs.Faults.{Split, start_of, jobs, Unpassed, IsExpected, PassesNext, IsPassed, FirstTextFault}
use Rattle.lrc_reader.proofs.Expressions.{slacker, slack_wide}
use Rattle.lrc_reader.proofs.Jobs.{job_shape, job}

-- ---- what is read of lexemes

the_job : Staged kind slacker true true true job_shape (λ j. IsJob j) (λ j. read_all j) 0
the_job = job

exact_job : Exact kind job_shape (jobs 0) (read_all 0)
exact_job = the_job.exact 0

full_job : Full kind slacker job_shape jobs read_all 0
full_job = whole kind slacker job_shape (λ j. IsJob j) (λ j. read_all j) 0 the_job

pub one_job_of : (u : List Lexeme) (x y : Job) → jobs 0 u x → jobs 0 u y → x ≡ y
one_job_of u x y d e = one_value kind _ _ _ exact_job u x y d e

-- the reading stops where the next lexeme passes a limit
pub passes_stop : (c : Cause) (p r : List Lexeme) → PassesNext c p r → read_all 0 (p ++ r) ≡ stops c r
passes_stop c p [] h = absurd h
passes_stop c p (t ∷ r) h = (the_job.passed 0).meets c p t r h

-- before the end of what was read no limit is passed
unpassed : (u p r : List Lexeme) → u ≡ p ++ r → ((c : Cause) (s : List Lexeme) → read_all 0 u ≡ stops c s → length s ≤ length r) → Unpassed p
unpassed u p r e far c q o t i h =
    let f : u ≡ q ++ t ∷ (o ++ r) = e ∙ (ap (λ v. v ++ r) i ∙ append_assoc q (t ∷ o) r) in
    let g : read_all 0 u ≡ stops c (t ∷ (o ++ r)) = ap (read_all 0) f ∙ (the_job.passed 0).meets c q t (o ++ r) h in
    let l : length (t ∷ (o ++ r)) ≤ length r = far c (t ∷ (o ++ r)) g in
    let n : length (o ++ r) ≡ length o + length r = length-append o r in
    omega (arith, l, n)

stops_far : (u r : List Lexeme) (d : Cause) → read_all 0 u ≡ stops d r → (c : Cause) (s : List Lexeme) → read_all 0 u ≡ stops c s → length s ≤ length r
stops_far u r d h c s g = let e : length r ≡ length s = ap length (same_left d c r s (sym h ∙ g)) in omega (arith, e)

expected_place : (u r : List Lexeme) → read_all 0 u ≡ stops expected r → (p : List Lexeme) × (u ≡ p ++ r) × Wanting jobs p r × Unpassed p
expected_place u r h =
    let v : _ = stop_place kind slacker slack_wide job_shape jobs read_all 0 full_job expected u r h in
    (v.0, v.1, v.2, unpassed u v.0 r v.1 (stops_far u r expected h))

-- the same tokens before the rest
next_there : (c : Cause) (u r p : List Lexeme) → u ≡ p ++ r → (q : List Lexeme) × (t : Lexeme) × (o : List Lexeme) × (u ≡ q ++ r) × (r ≡ t ∷ o) × (IsJob 0).passes c q t → PassesNext c p r
next_there c u r p e w =
    subst (PassesNext c p) (sym w.4) (subst (λ v. (IsJob 0).passes c v w.1) (append_cancel_right w.0 p r (sym w.3 ∙ e)) w.5)

nested_place : (u r : List Lexeme) → read_all 0 u ≡ stops nested r → (p : List Lexeme) × (u ≡ p ++ r) × PassesNext nested p r × Passing jobs 0 p r
nested_place u r h =
    let v : _ = stop_place kind slacker slack_wide job_shape jobs read_all 0 full_job nested u r h in
    (v.0, v.1, next_there nested u r v.0 v.1 ((the_job.passed 0).reached nested u r (λ e. cc) h), v.2)

limit_place : (n : ℕ) (u r : List Lexeme) → read_all 0 u ≡ stops (limit n) r → (p : List Lexeme) × (u ≡ p ++ r) × PassesNext (limit n) p r × Passing jobs 0 p r
limit_place n u r h =
    let v : _ = stop_place kind slacker slack_wide job_shape jobs read_all 0 full_job (limit n) u r h in
    (v.0, v.1, next_there (limit n) u r v.0 v.1 ((the_job.passed 0).reached (limit n) u r (λ e. cc) h), v.2)

never_stops : (u r : List Lexeme) (x : Job) → read_all 0 u ≡ took x r → (n : ℕ) (c : Cause) (s : List Lexeme) → read_all 0 u ≡ stops c s → length s ≤ n
never_stops u r x h n c s g = absurd (stops_not_took c x s r (sym g ∙ h))

left_over : (u r : List Lexeme) (x : Job) → read_all 0 u ≡ took x r → (length r ≡ 0 → ⊥) → (p : List Lexeme) × (u ≡ p ++ r) × Wanting jobs p r × Unpassed p
left_over u [] x h n = absurd (n refl)
left_over u (t ∷ r) x h n =
    let w : _ = left_place kind slacker slack_wide job_shape jobs read_all 0 full_job u r t x h in
    (w.0, w.1, ((0, [], x, subst (λ v. jobs 0 v x) (sym (append-nil w.0)) w.2), w.3), unpassed u w.0 (t ∷ r) w.1 (never_stops u (t ∷ r) x h (length (t ∷ r))))

-- ---- the tokens of lexemes

-- lexemes in two parts are those of tokens in two parts
pub parted : (text : List ℕ) (found : List Token) (p r : List Lexeme) → lexemes text found ≡ p ++ r →
    (before : List Token) × (rest : List Token) × (found ≡ before ++ rest) × (lexemes text before ≡ p) × (lexemes text rest ≡ r)
parted text found [] r e = ([], found, refl, refl, e)
parted text [] (x ∷ p) r e = absurd cc
parted text (t ∷ found) (x ∷ p) r e =
    let head : lexeme_of text t ≡ x = cc in
    let tail : lexemes text found ≡ p ++ r = cc in
    let w : _ = parted text found p r tail in
    (t ∷ w.0, w.1, ap (λ v. t ∷ v) w.2, ap (λ v. lexeme_of text t ∷ v) w.3 ∙ ap (λ v. v ∷ p) head, w.4)

pub drop_front : (before rest : List Token) → drop (length (before ++ rest) - length rest) (before ++ rest) ≡ rest
drop_front [] rest = let e : length rest - length rest ≡ 0 = omega arith in ap (λ n. drop n rest) e
drop_front (t ∷ before) rest =
    let e : length (before ++ rest) ≡ length before + length rest = length-append before rest in
    let f : length (t ∷ (before ++ rest)) - length rest ≡ suc (length (before ++ rest) - length rest) = omega (arith, e) in
    ap (λ n. drop n (t ∷ (before ++ rest))) f ∙ drop_front before rest

pub length_lexemes : (text : List ℕ) (found : List Token) → length (lexemes text found) ≡ length found
length_lexemes text [] = refl
length_lexemes text (t ∷ found) = ap suc (length_lexemes text found)

-- the tokens that are left begin at the place
split_at : (text : List ℕ) (found : List Token) (p r : List Lexeme) (at left : ℕ) → length text ≤ TEXT_LIMIT → Tokens text found → lexemes text found ≡ p ++ r → left ≡ length r →
    at ≡ start_of text (drop (length found - left) found) → (s : Split text at) × (lexemes text s.before ≡ p) × (lexemes text s.rest ≡ r)
split_at text found p r at left short cut e l here =
    let w : _ = parted text found p r e in
    let n : left ≡ length w.1 = l ∙ (ap length (sym w.4) ∙ length_lexemes text w.1) in
    let d : drop (length found - left) found ≡ w.1 = ap (λ v. drop (length v - left) v) w.2 ∙ (ap (λ k. drop (length (w.0 ++ w.1) - k) (w.0 ++ w.1)) n ∙ drop_front w.0 w.1) in (
      record { short = short; before = w.0; rest = w.1; cut = subst (Tokens text) w.2 cut; here = here ∙ ap (start_of text) d },
      w.3,
      w.4,
    )

expected_at : (text : List ℕ) (found : List Token) (at left : ℕ) (r : List Lexeme) → length text ≤ TEXT_LIMIT → Tokens text found → left ≡ length r →
    at ≡ start_of text (drop (length found - left) found) → (p : List Lexeme) × (lexemes text found ≡ p ++ r) × Wanting jobs p r × Unpassed p → IsExpected text at
expected_at text found at left r short cut l here v =
    let w : _ = split_at text found v.0 r at left short cut v.1 l here in
    (w.0, subst (λ q. Wanting jobs (lexemes text w.0.before) q) (sym w.2) (subst (λ q. Wanting jobs q r) (sym w.1) v.2), subst Unpassed (sym w.1) v.3)

passed_at : (text : List ℕ) (found : List Token) (c : Cause) (at left : ℕ) (r : List Lexeme) → length text ≤ TEXT_LIMIT → Tokens text found → left ≡ length r →
    at ≡ start_of text (drop (length found - left) found) → (p : List Lexeme) × (lexemes text found ≡ p ++ r) × PassesNext c p r × Passing jobs 0 p r → IsPassed text c at
passed_at text found c at left r short cut l here v =
    let w : _ = split_at text found v.0 r at left short cut v.1 l here in (
      w.0,
      subst (λ q. PassesNext c (lexemes text w.0.before) q) (sym w.2) (subst (λ q. PassesNext c q r) (sym w.1) v.2),
      subst (λ q. Passing jobs 0 (lexemes text w.0.before) q) (sym w.2) (subst (λ q. Passing jobs 0 q r) (sym w.1) v.3),
    )

-- ---- the verdict on a text

pub same_tokens : (text : List ℕ) (found : List Token) (x : Job) → Tokens text found → Denotes text x → jobs 0 (lexemes text found) x
same_tokens text found x cut d = subst (λ v. jobs 0 (lexemes text v) x) (one_list d.cut cut) d.derived

pub one_job : (text : List ℕ) (x y : Job) → Denotes text x → Denotes text y → x ≡ y
one_job text x y d e = one_job_of (lexemes text d.found) x y d.derived (same_tokens text d.found y d.cut e)

pub read_up : (text : List ℕ) (found : List Token) (v r : List Lexeme) (x : Job) (left : ℕ) → length text ≤ TEXT_LIMIT → Tokens text found → v ≡ lexemes text found →
    read_all 0 v ≡ took x r → left ≡ length r → left ≡ 0 → Denotes text x
read_up text found v [] x left short cut same e l z =
    record { short = short; found = found; cut = cut; derived = subst (λ u. jobs 0 u x) same (read_whole kind _ _ _ exact_job v x e) }
read_up text found v (t ∷ r) x left short cut same e l z = absurd (omega (arith, l, z))

stop_fault : (text : List ℕ) (found : List Token) (r : List Lexeme) (why : Stop) (at left : ℕ) → length text ≤ TEXT_LIMIT → Tokens text found →
    why ≢ stop.Memory → read_all 0 (lexemes text found) ≡ stops (cause_of why) r → left ≡ length r → at ≡ start_of text (drop (length found - left) found) → FirstTextFault text (fault_at why at)
stop_fault text found r stop.Expected at left short cut n e l here = expected_at text found at left r short cut l here (expected_place _ r e)
stop_fault text found r stop.NestedTooDeep at left short cut n e l here = passed_at text found nested at left r short cut l here (nested_place _ r e)
stop_fault text found r (stop.LimitReached what) at left short cut n e l here = passed_at text found (passing what) at left r short cut l here (limit_place _ _ r e)
stop_fault text found r stop.Memory at left short cut n e l here = absurd (n refl)

not_memory : (why : Stop) (at : ℕ) (f : JobFault) → f ≡ fault_at why at → f ≢ fault.Memory → why ≢ stop.Memory
not_memory why at f e n m = n (e ∙ ap (λ w. fault_at w at) m)

pub stopped : (text : List ℕ) (found : List Token) (v r : List Lexeme) (why : Stop) (at left : ℕ) (f : JobFault) → length text ≤ TEXT_LIMIT → Tokens text found → v ≡ lexemes text found →
    (why ≢ stop.Memory → read_all 0 v ≡ stops (cause_of why) r) → left ≡ length r → at ≡ start_of text (drop (length found - left) found) → f ≡ fault_at why at →
    f ≢ fault.Memory → FirstTextFault text f
stopped text found v r why at left f short cut same e l here is n =
    let m : why ≢ stop.Memory = not_memory why at f is n in
    subst (FirstTextFault text) (sym is) (stop_fault text found r why at left short cut m (ap (read_all 0) (sym same) ∙ e m) l here)

pub stopped_only : (text : List ℕ) (found : List Token) (v r : List Lexeme) (why : Stop) (at : ℕ) (f : JobFault) → Tokens text found → v ≡ lexemes text found →
    (why ≢ stop.Memory → read_all 0 v ≡ stops (cause_of why) r) → f ≡ fault_at why at → f ≢ fault.Memory → (x : Job) → Denotes text x → ⊥
stopped_only text found v r why at f cut same e is n x d =
    stops_none kind _ _ _ exact_job v r (cause_of why) x (e (not_memory why at f is n)) (subst (λ u. jobs 0 u x) (sym same) (same_tokens text found x cut d))

pub rest_left : (text : List ℕ) (found : List Token) (v r : List Lexeme) (x : Job) (at left : ℕ) (f : JobFault) → length text ≤ TEXT_LIMIT → Tokens text found → v ≡ lexemes text found →
    read_all 0 v ≡ took x r → left ≡ length r → (left ≡ 0 → ⊥) → at ≡ start_of text (drop (length found - left) found) → f ≡ fault_at stop.Expected at → FirstTextFault text f
rest_left text found v r x at left f short cut same e l z here is =
    subst (FirstTextFault text) (sym is) (expected_at text found at left r short cut l here (left_over _ r x (ap (read_all 0) (sym same) ∙ e) (λ h. z (l ∙ h))))

pub rest_only : (text : List ℕ) (found : List Token) (v r : List Lexeme) (x : Job) (left : ℕ) → Tokens text found → v ≡ lexemes text found →
    read_all 0 v ≡ took x r → left ≡ length r → (left ≡ 0 → ⊥) → (y : Job) → Denotes text y → ⊥
rest_only text found v [] x left cut same e l z y d = z l
rest_only text found v (t ∷ r) x left cut same e l z y d =
    rest_none kind _ _ _ exact_job v r t y x e (subst (λ u. jobs 0 u y) (sym same) (same_tokens text found y cut d))
