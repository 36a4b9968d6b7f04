-- A whole session: its opening, and its edits one after another.
use Rattle.std.proofs.Common.{◌≡◌, ℕ, ◌+◌, ◌-◌, ◌<◌, ◌^◌, IsTrue, List, [], ◌∷◌, ◌++◌, map, length, take, get_or, Some, None, sym, ap, ◌∙◌, subst, append_assoc}
use Rattle.std.proofs.lemmas.List.{append-nil}
use Rattle.std.proofs.lemmas.Bool.{false≢true, and_parts}
use Rattle.std.specs.List.{list_all}
use Rattle.lrc_base.specs.declared.grammar.Kind.TheVariants as k
use Rattle.lrc_base.specs.declared.job.Edit.{Edit}
use Rattle.lrc_base.specs.declared.job.Script.{Script}
use Rattle.lrc_meaning.specs.Tree.{Tree, tree, fits}
use Rattle.lrc_meaning.specs.Attribution.{Attributes}
use Rattle.lrc_meaning.specs.Text.{unparsed}
use Rattle.lrc_meaning.specs.Editing.{values, too_deep, full, Change, change, tried, gives, is_too_deep, is_full, done, opens, opens_too_deep, opens_full, all_unopened}
use Rattle.lrc_job.specs.Fitting.{edit_fits, script_fits}
use Rattle.lrc_order_meaning.specs.Ordered.{HasOrder}
use Rattle.lrc_store.specs.Standing.{Standing}
use Rattle.lrc_store.specs.Words.{Gains, LacksOne}
use Rattle.lrc_store.specs.Cells.{CellTree}
use Rattle.lrc_machine.specs.Counts.{Counted}
use Rattle.lrc_bodies.specs.Counting.{IsWhole}
use Rattle.lrc_store.specs.declared.cells.Handle.{Handle}
use Rattle.lrc_functions.specs.declared.functions.Functions.{Functions}
use Rattle.lrc_session.specs.declared.session.Session.{Session}
use Rattle.lrc_session.specs.Sessions.{grammar, sorts, demands, IsCalled, IsStartTree, IsTooDeep, IsOpen, Opens}
use Rattle.lrc_run.specs.declared.reply.Line.{Line}
use Rattle.lrc_run.specs.declared.reply.Out.{Out}
use Rattle.lrc_run.specs.Lines.{AreLines}
use Rattle.lrc_run.specs.Counts.{counts_of, IsCounted}
use Rattle.lrc_run.specs.Playing.{IsUnused, IsUncounted, RunsOut, IsLast, Plays}
use Rattle.lrc_run.specs.Editing.{GainsSome, IsTallied, IsEdited, AreEdited, IsPlayed}
use Rattle.lrc_run.proofs.RunLemmas.{run_weaker, one_more}
use Rattle.lrc_run.proofs.HoldsLemmas.{holds_none, holds_read, holds_more, out_later, runs_out}
use Rattle.lrc_run.proofs.LineLemmas.{one_line_more, changes_more}
use Rattle.lrc_run.proofs.TallyLemmas.{IsAnswered, tallied_none, tallied_read, tallied_then, line_counted}
use Rattle.lrc_run.proofs.CountedLemmas.{all_more, too_deep_counted, full_counted, counted_more}

module _ (functions : Functions) where
  -- the tree of a script that fits is one of the start sort
  pub script_starts : (script : Script) → IsTrue (script_fits functions.plan.grammar.prods functions.plan.grammar.start script) → IsStartTree functions (tree script.tree)
  script_starts script fit =
      let prods = functions.plan.grammar.prods in
      (and_parts (fits prods (tree script.tree) (k.Sort functions.plan.grammar.start)) (list_all (edit_fits prods) script.edits) fit).0

  -- ---- edits one after another

  -- no edit was made
  pub none_edited : (s : Standing) (limit : ℕ) (before : Tree) (own : List Tree) (session : Session) (lines : List Line) → IsOpen functions s session before own → AreEdited functions s s limit before [] session lines lines
  none_edited s limit before own session lines opened = record {
    replies = [];
    after = before;
    own = own;
    is_open = opened;
    own_lines = [];
    all = sym (append-nil lines);
    are_lines = tt;
    runs = λ order earlier h. record { attempts = earlier; run = done earlier before; holds = h; counted = λ _. tt; tallied = λ tallied _. tallied };
  }

  -- one more edit was made
  edited_more : (s t u : Standing) (limit : ℕ) (before : Tree) (cs : List Change) (c : Change) (session after : Session) (first lines : List Line) (line : Line) →
      (a : AreEdited functions s t limit before cs session first lines) → GainsSome t u → IsEdited functions t u limit a.after c after line →
      AreEdited functions s u limit before (cs ++ c ∷ []) after first (lines ++ line ∷ [])
  edited_more s t u limit before cs c session after first lines line a (cells, gains) e = record {
    replies = a.replies ++ e.reply ∷ [];
    after = e.after;
    own = e.own;
    is_open = e.is_open;
    own_lines = a.own_lines ++ line ∷ [];
    all = ap (λ (ls : List Line). ls ++ line ∷ []) a.all ∙ append_assoc first a.own_lines (line ∷ []);
    are_lines = one_line_more (grammar functions) a.replies a.own_lines e.reply line a.are_lines e.is_line;
    runs = λ order earlier h.
        let r = a.runs order earlier h in
        let step = e.steps order r.attempts r.holds in
        let text_of = unparsed functions.plan.grammar.prods in
        record {
          attempts = step.attempts;
          run =
              one_more (grammar functions) limit text_of (RunsOut functions limit u) earlier before cs a.replies a.after r.attempts c e.reply e.after step.attempts
              (run_weaker (grammar functions) limit text_of (RunsOut functions limit t) (RunsOut functions limit u)
              (λ some tree out. out_later functions limit t u cells some tree r.holds.sound gains out) earlier before cs a.replies a.after r.attempts r.run)
              step.step;
          holds = step.holds;
          counted = λ tallied.
              counted_more (grammar functions) (sorts functions) limit text_of (RunsOut functions limit t) earlier before cs a.replies a.after r.attempts c e.reply a.own_lines line r.run a.are_lines (r.counted tallied)
              (λ each. step.counted (r.tallied tallied each));
          tallied = λ tallied each. let both = all_more a.replies e.reply each in step.tallied (r.tallied tallied both.0) both.1;
        };
  }

  pub one_edit_more : (s t u : Standing) (limit depth : ℕ) (before : Tree) (edits : List Edit) (i : ℕ) (edit : Edit) (session after : Session) (first all lines : List Line) (line : Line) →
      i < length edits → edit ≡ get_or edits i edit → all ≡ lines ++ line ∷ [] → depth ≡ limit → (a : AreEdited functions s t limit before (map change (take i edits)) session first lines) → GainsSome t u →
      IsEdited functions t u depth a.after (change edit) after line → AreEdited functions s u limit before (map change (take (i + 1) edits)) after first all
  one_edit_more s t u limit depth before edits i edit session after first all lines line h is pushed same a gains e =
      subst (λ cs. AreEdited functions s u limit before cs after first all) (sym (changes_more edits i edit h is))
      (subst (λ ls. AreEdited functions s u limit before (map change (take i edits) ++ change edit ∷ []) after first ls) (sym pushed)
      (edited_more s t u limit before (map change (take i edits)) (change edit) session after first lines line a gains
      (subst (λ n. IsEdited functions t u n a.after (change edit) after line) same e)))

  -- ---- the opening

  module _ (s t : Standing) (limit : ℕ) (script : Script) (unused : IsUnused s) (gains : Gains s t (demands functions limit (tree script.tree))) where
    -- what is known of the opening's counts
    pub record IsOpening (session : Session) : Type 0 where
      pub whole : IsWhole (grammar functions) (sorts functions) s.memo → IsWhole (grammar functions) (sorts functions) t.memo
      pub counted : IsWhole (grammar functions) (sorts functions) s.memo → Counted s t (IsCalled functions limit (tree script.tree))
      pub runs : session.runs ≡ t.missed - s.missed

    pub played : (u : Standing) (session after : Session) (first lines : List Line) (handle : Handle) (o : Opens functions t limit (tree script.tree) session) → IsOpening session →
        HasOrder (grammar functions) functions.plan.parts → first ≡ [] → IsPlayed functions t u session after (tree script.tree) o.values (map change script.edits) first lines → handle ≡ after.tree →
        Plays functions limit s u script (record { lines = lines; last = Some handle })
    played u session after first lines handle o is order none p same =
        let attempt = tried (tree script.tree) (values o.values) in
        let v = p.middle in
        let a =
        subst (λ (ls : List Line). AreEdited functions v u limit (tree script.tree) (map change script.edits) after (ls ++ p.opening ∷ []) lines) none
        (subst (λ n. AreEdited functions v u n (tree script.tree) (map change script.edits) after (first ++ p.opening ∷ []) lines) o.depth p.edited) in
        let held = holds_read functions limit t v (attempt ∷ []) (holds_more functions limit s t [] attempt (holds_none functions limit s unused) gains (λ _. o.seen)) p.reads in
        let r = a.runs order (attempt ∷ []) held in
        let answered : IsUncounted s → IsAnswered functions limit s t [] attempt =
        λ fresh. let none = tallied_none functions limit s unused fresh in record {
          before = none;
          whole = is.whole none.whole;
          gains = gains;
          seen = o.seen;
          counted = is.counted none.whole;
          small = subst (λ (made : List CellTree). length made < 2 ^ 32) p.reads.stays.made p.counts.small;
        } in
        let tallied : IsUncounted s → IsTallied functions limit v (attempt ∷ []) =
        λ fresh. tallied_read functions limit t v (attempt ∷ []) (tallied_then functions limit s t [] attempt (answered fresh)) p.reads in
        record {
          replies = values o.values ∷ a.replies;
          last = Some a.after;
          attempts = r.attempts;
          runs = opens o.values a.replies a.after r.attempts (gives o.values (subst (λ n. Attributes (grammar functions) n (tree script.tree) o.values) o.depth (o.is_open.attributes order))) r.run;
          holds = r.holds;
          lines = subst (AreLines (grammar functions) (values o.values ∷ a.replies)) (sym a.all) (p.is_line, a.are_lines);
          is_last = subst (λ (x : Handle). IsLast u (Some a.after) (Some x)) (sym same) a.is_open.tree;
          spelled = a.is_open.spelled;
          counted = λ fresh.
              subst (λ (ls : List Line). IsCounted (grammar functions) (sorts functions) limit (tree script.tree) (map change script.edits) (values o.values ∷ a.replies) (map counts_of ls)) (sym a.all)
              (line_counted functions limit s t [] attempt (answered fresh) v session p.opening p.reads p.counts is.runs, r.counted (tallied fresh));
          tallies = λ fresh each. (r.tallied (tallied fresh) each).tallies;
        }

    module _ (fit : IsStartTree functions (tree script.tree)) (out : Out) (last : out.last ≡ None) where
      pub too_deep_played : IsTooDeep functions limit (tree script.tree) → AreLines (grammar functions) (too_deep ∷ all_unopened (map change script.edits)) out.lines → Plays functions limit s t script out
      too_deep_played deep lines =
          let opening = tree script.tree in
          record {
            replies = too_deep ∷ all_unopened (map change script.edits);
            last = None;
            attempts = tried opening too_deep ∷ [];
            runs = opens_too_deep (is_too_deep fit deep);
            holds = holds_more functions limit s t [] (tried opening too_deep) (holds_none functions limit s unused) gains (λ e. absurd (false≢true e));
            lines = lines;
            is_last = subst (λ x. IsLast t None x) (sym last) tt;
            spelled = tt;
            counted = λ _. too_deep_counted (grammar functions) (sorts functions) limit opening (map change script.edits) (all_unopened (map change script.edits)) out.lines lines;
            tallies = λ _ each. absurd (false≢true each);
          }

      pub full_played : LacksOne t (demands functions limit (tree script.tree)) → AreLines (grammar functions) (full ∷ all_unopened (map change script.edits)) out.lines → Plays functions limit s t script out
      full_played lacks lines =
          let opening = tree script.tree in
          let none = holds_none functions limit s unused in
          record {
            replies = full ∷ all_unopened (map change script.edits);
            last = None;
            attempts = tried opening full ∷ [];
            runs = opens_full (is_full fit (runs_out functions limit s t [] opening none gains lacks));
            holds = holds_more functions limit s t [] (tried opening full) none gains (λ e. absurd (false≢true e));
            lines = lines;
            is_last = subst (λ x. IsLast t None x) (sym last) tt;
            spelled = tt;
            counted = λ _. full_counted (grammar functions) (sorts functions) limit opening (map change script.edits) (all_unopened (map change script.edits)) out.lines lines;
            tallies = λ _ each. absurd (false≢true each);
          }
