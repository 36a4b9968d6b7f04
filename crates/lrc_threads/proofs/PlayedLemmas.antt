-- What sessions in a row are answered: one session, and the two halves of a list, whose last trees are in the store that met both.
use Rattle.std.proofs.Common.{◌≡◌, ◌≤◌, true, false, eqb-true, ℕ, suc, ◌+◌, ◌*◌, refl, sym, ◌∙◌, ap, subst, arith, length, length-append}
use Rattle.std.specs.Prelude.{List, [], ◌∷◌, ◌++◌, Option, Some, None, IfSome, Result, Ok, Err, IfOk, map}
use Rattle.std.specs.Bool.{◌==◌}
use Rattle.lrc_base.specs.declared.job.Script.{Script}
use Rattle.lrc_meaning.specs.Tree.{Tree, tree}
use Rattle.lrc_meaning.specs.Grammar.{Grammar}
use Rattle.lrc_meaning.specs.Editing.{Reply, Attempt, change}
use Rattle.lrc_meaning.specs.Text.{unparsed}
use Rattle.lrc_order_meaning.specs.Ordered.{HasOrder}
use Rattle.lrc_job.specs.Job.{Session, session}
use Rattle.lrc_store.specs.Standing.{Standing, IsSound}
use Rattle.lrc_store.specs.Words.{Keeps, Lasts}
use Rattle.lrc_store.specs.declared.cells.Handle.{Handle}
use Rattle.lrc_code.specs.Forms.{tree_cell}
use Rattle.lrc_functions.specs.declared.functions.Functions.{Functions}
use Rattle.lrc_session.specs.Sessions.{grammar, sorts}
use Rattle.lrc_run.specs.Rows.{RowsRunOut}
use Rattle.lrc_run.specs.Playing.{IsLast, Plays}
use Rattle.lrc_run.specs.Laws.{RunsOutOfRows}
use Rattle.lrc_run.specs.declared.reply.Line.{Line}
use Rattle.lrc_run.specs.declared.reply.Out.{Out}
use Rattle.lrc_call_meaning.specs.Spelled.{IsSpelled}
use Rattle.lrc_threads.specs.Runs.{AreRuns, no_session, one_more}
use Rattle.lrc_threads.specs.Sessions.{AreBlocks, AreAnswered}
use Rattle.lrc_threads.specs.Finals.{final_handles}
use Rattle.lrc_threads.specs.Halves.{AreKept, IsPlayed, ArePlayed, Answers, IsOnly, AreInOrder}
use Rattle.lrc_threads.specs.declared.outs.Sizes.{Sizes}
use Rattle.lrc_threads.specs.declared.outs.Played.{Played}
use Rattle.lrc_threads.specs.declared.outs.Outs.{Outs}
use Rattle.lrc_threads.proofs.FinalLemmas.{same-finals}

-- ---- lists of sessions, one behind the other

module _ (g : Grammar) (limit : ℕ) (full_may_come : List Attempt → Tree → Type 0) where
  runs-append : (one other : List Session) (replies more : List (List Reply)) (lasts others : List (Option Tree)) → AreRuns g limit full_may_come one replies lasts → AreRuns g limit full_may_come other more others →
      AreRuns g limit full_may_come (one ++ other) (replies ++ more) (lasts ++ others)
  runs-append one other replies more lasts others no_session h = h
  runs-append one other replies more lasts others (one_more a r l rest rs ls run runs) h = one_more a r l (rest ++ other) (rs ++ more) (ls ++ others) run (runs-append rest other rs more ls others runs h)

blocks-append : (g : Grammar) (replies more : List (List Reply)) (blocks others : List (List Line)) → AreBlocks g replies blocks → AreBlocks g more others → AreBlocks g (replies ++ more) (blocks ++ others)
blocks-append g [] more [] others h k = k
blocks-append g [] more (lines ∷ blocks) others h k = absurd h
blocks-append g (r ∷ replies) more [] others h k = absurd h
blocks-append g (r ∷ replies) more (lines ∷ blocks) others h k = (h.0, blocks-append g replies more blocks others h.1 k)

kept-append : (s : Standing) (lasts more : List (Option Tree)) (handles others : List (Option Handle)) → AreKept s lasts handles → AreKept s more others → AreKept s (lasts ++ more) (handles ++ others)
kept-append s [] more [] others h k = k
kept-append s [] more (handle ∷ handles) others h k = absurd h
kept-append s (last ∷ lasts) more [] others h k = absurd h
kept-append s (last ∷ lasts) more (handle ∷ handles) others h k = (h.0, h.1, kept-append s lasts more handles others h.2 k)

-- ---- what lasts

last-later : (s t : Standing) (last : Option Tree) (handle : Option Handle) → Keeps s t → IsLast s last handle → IsLast t last handle
last-later s t None None keeps h = tt
last-later s t None (Some handle) keeps h = absurd h
last-later s t (Some u) None keeps h = absurd h
last-later s t (Some u) (Some handle) keeps h = keeps handle.0 (tree_cell u) h

kept-later : (s t : Standing) (lasts : List (Option Tree)) (handles : List (Option Handle)) → Keeps s t → AreKept s lasts handles → AreKept t lasts handles
kept-later s t [] [] keeps h = tt
kept-later s t [] (handle ∷ handles) keeps h = absurd h
kept-later s t (last ∷ lasts) [] keeps h = absurd h
kept-later s t (last ∷ lasts) (handle ∷ handles) keeps h = (last-later s t last handle keeps h.0, h.1, kept-later s t lasts handles keeps h.2)

-- ---- one session, and both halves

map-append : (one other : List Script) → map session (one ++ other) ≡ map session one ++ map session other
map-append [] other = refl
map-append (a ∷ one) other = ap (λ xs. session a ∷ xs) (map-append one other)

module _ (functions : Functions) (sizes : Sizes) where
  abbrev OfRows : List Attempt → Tree → Type 0
  OfRows = RowsRunOut (grammar functions) (sorts functions) sizes.depth sizes.rows

  of-one : (s : Standing) (script : Script) (out : Out) (all : Played) → all.sessions ≡ out.lines ∷ [] → all.lasts ≡ out.last ∷ [] → IsPlayed functions sizes s script out → ArePlayed functions sizes s (script ∷ []) all
  of-one s script out all e f h = record {
    replies = h.replies ∷ [];
    lasts = h.last ∷ [];
    runs = one_more (session script) h.replies h.last [] [] [] h.run no_session;
    lines = subst (AreBlocks (grammar functions) (h.replies ∷ [])) (sym e) (h.lines, tt);
    kept = subst (AreKept s (h.last ∷ [])) (sym f) (h.is_last, h.spelled, tt);
  }

  pub answers-one : {E : Type 0} (s : Standing) (script : Script) (answer : Result Out E) (result : Result Played E) → IfOk result (IsOnly answer) → (HasOrder (grammar functions) functions.plan.parts → IfOk answer (IsPlayed functions sizes s script)) →
      IfOk result (Answers functions sizes s (script ∷ []))
  answers-one s script answer (Ok all) h k = record {
    count = ap length h.lasts;
    by_rules = λ order. of-one s script h.out all h.sessions h.lasts (subst (λ r. IfOk r (IsPlayed functions sizes s script)) h.answer_is (k order));
  }
  answers-one s script answer (Err e) h k = tt

  of-both : (s t u : Standing) (one other : List Script) (before after all : Played) → Keeps s u → Keeps t u → all.sessions ≡ before.sessions ++ after.sessions → all.lasts ≡ before.lasts ++ after.lasts →
      ArePlayed functions sizes s one before → ArePlayed functions sizes t other after → ArePlayed functions sizes u (one ++ other) all
  of-both s t u one other before after all keeps keeps_too e f h k = record {
    replies = h.replies ++ k.replies;
    lasts = h.lasts ++ k.lasts;
    runs = subst (λ sessions. AreRuns (grammar functions) sizes.depth OfRows sessions (h.replies ++ k.replies) (h.lasts ++ k.lasts)) (sym (map-append one other))
        (runs-append (grammar functions) sizes.depth OfRows (map session one) (map session other) h.replies k.replies h.lasts k.lasts h.runs k.runs);
    lines = subst (AreBlocks (grammar functions) (h.replies ++ k.replies)) (sym e) (blocks-append (grammar functions) h.replies k.replies before.sessions after.sessions h.lines k.lines);
    kept = subst (AreKept u (h.lasts ++ k.lasts)) (sym f)
        (kept-append u h.lasts k.lasts before.lasts after.lasts (kept-later s u h.lasts before.lasts keeps h.kept) (kept-later t u k.lasts after.lasts keeps_too k.kept));
  }

  pub answers-both : {E : Type 0} (s t u : Standing) (scripts one other : List Script) (left right result : Result Played E) → scripts ≡ one ++ other → Keeps s u → Keeps t u → IfOk result (AreInOrder left right) →
      IfOk left (Answers functions sizes s one) → IfOk right (Answers functions sizes t other) → IfOk result (Answers functions sizes u scripts)
  answers-both s t u scripts one other left right (Ok all) e keeps keeps_too h a b =
      let first = subst (λ r. IfOk r (Answers functions sizes s one)) h.left_is a in
      let second = subst (λ r. IfOk r (Answers functions sizes t other)) h.right_is b in
      subst (λ xs. Answers functions sizes u xs all) (sym e) (record {
        count = ap length h.lasts ∙ (length-append h.before.lasts h.after.lasts ∙ ((λ i. first.count i + second.count i) ∙ sym (length-append one other)));
        by_rules = λ order. of-both s t u one other h.before h.after all keeps keeps_too h.sessions h.lasts (first.by_rules order) (second.by_rules order);
      })
  answers-both s t u scripts one other left right (Err x) e keeps keeps_too h a b = tt

-- ---- what playing a session over a pass says of it

pub played-by : RunsOutOfRows → (functions : Functions) (sizes : Sizes) (s t : Standing) (script : Script) (out : Out) → s.pooled ≡ false → s.quota ≡ sizes.rows → Lasts s t → Plays functions sizes.depth s t script out →
    IsPlayed functions sizes t script out
played-by law functions sizes s t script out pooled quota lasts plays = record {
  replies = plays.replies;
  last = plays.last;
  run = record {
    attempts = plays.attempts;
    run =
        law functions sizes.depth sizes.rows (unparsed functions.plan.grammar.prods) t (tree script.tree) (map change script.edits) plays.replies plays.last plays.attempts (lasts.quota.fixed pooled ∙ quota)
        plays.runs;
  };
  lines = plays.lines;
  is_last = plays.is_last;
  spelled = plays.spelled;
}

-- the same in a store that stands for the same
pub played-in : (functions : Functions) (sizes : Sizes) (t u : Standing) (script : Script) (out : Out) → Keeps t u → IsPlayed functions sizes t script out → IsPlayed functions sizes u script out
played-in functions sizes t u script out keeps h = record { replies = h.replies; last = h.last; run = h.run; lines = h.lines; is_last = last-later t u h.last out.last keeps h.is_last; spelled = h.spelled }

-- an answer that is so where the grammar has an order
pub each-played : {E : Type 0} (functions : Functions) (sizes : Sizes) (t u : Standing) (script : Script) (answer : Result Out E) → Keeps t u → IfOk answer (IsPlayed functions sizes t script) → IfOk answer (IsPlayed functions sizes u script)
each-played functions sizes t u script (Ok out) keeps h = played-in functions sizes t u script out keeps h
each-played functions sizes t u script (Err e) keeps h = tt

pub play-answers : {E : Type 0} → RunsOutOfRows → (functions : Functions) (sizes : Sizes) (s t : Standing) (script : Script) (answer : Result Out E) → s.pooled ≡ false → s.quota ≡ sizes.rows → Lasts s t →
    IfOk answer (Plays functions sizes.depth s t script) → IfOk answer (IsPlayed functions sizes t script)
play-answers law functions sizes s t script (Ok out) pooled quota lasts h = played-by law functions sizes s t script out pooled quota lasts h
play-answers law functions sizes s t script (Err e) pooled quota lasts h = tt

pub one_of : (rows : ℕ) → rows * 1 ≡ rows
one_of rows = omega arith

-- ---- all sessions

pub none-answered : (functions : Functions) (limit rows : ℕ) (scripts : List Script) (outs : Outs) → scripts ≡ [] → outs.sessions ≡ [] → outs.finals ≡ [] → AreAnswered functions limit rows scripts outs
none-answered functions limit rows scripts outs none sessions finals =
    subst (λ (ss : List Script). AreAnswered functions limit rows ss outs) (sym none) (record {
      replies = [];
      lasts = [];
      runs = no_session;
      lines = subst (AreBlocks (grammar functions) []) (sym sessions) tt;
      finals = finals;
    })

pub all-answered : (functions : Functions) (sizes : Sizes) (s : Standing) (scripts : List Script) (played : Played) (outs : Outs) → IsSound s → ArePlayed functions sizes s scripts played → outs.sessions ≡ played.sessions
    → outs.finals ≡ final_handles played.lasts → AreAnswered functions sizes.depth sizes.rows scripts outs
all-answered functions sizes s scripts played outs sound h sessions finals = record {
  replies = h.replies;
  lasts = h.lasts;
  runs = h.runs;
  lines = subst (AreBlocks (grammar functions) h.replies) (sym sessions) h.lines;
  finals = finals ∙ same-finals s sound h.lasts played.lasts h.kept;
}

pub empty-list : {X : Type 0} (xs : List X) → (length xs == 0) ≡ true → xs ≡ []
empty-list [] e = refl
empty-list (x ∷ xs) e = let some = eqb-true (length (x ∷ xs)) 0 e in absurd (omega (arith, some))
