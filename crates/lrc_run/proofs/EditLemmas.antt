-- One edit of an open session: from what the session answers to the edit's line. A put and a copy share one proof, as edits that ask for
-- a tree to be put at a place; a show and a forget only read.
use Rattle.std.proofs.Common.{◌≡◌, ◌≢◌, ℕ, ◌-◌, ◌<◌, ◌^◌, IsTrue, List, [], ◌∷◌, ◌++◌, length, Some, None, Result, Ok, Err, refl, sym, ap, ◌∙◌, subst}
use Rattle.std.specs.Prelude.{IfOk}
use Rattle.std.specs.Option.{option_map_or}
use Rattle.std.proofs.lemmas.Bool.{false≢true}
use Rattle.lrc_base.specs.declared.grammar.Kind.{Kind}
use Rattle.lrc_base.specs.declared.grammar.Kind.TheVariants as k
use Rattle.lrc_meaning.specs.Tree.{Tree, fits, kind_of, at_place, replaced}
use Rattle.lrc_meaning.specs.Grammar.{Grammar}
use Rattle.lrc_meaning.specs.Attribution.{Attributes}
use Rattle.lrc_meaning.specs.Text.{unparsed}
use Rattle.lrc_meaning.specs.Editing.{Change, put, copy, show, forget, Reply, values, bad_path, wrong_sort, too_deep, full, shown, forgot, Attempt, tried, asked, Attempted, gives, is_too_deep, is_full, EditStep, put_nowhere, put_other_kind, puts, copy_from_nowhere, copy_to_nowhere, copy_other_kind, copies, shows, forgets}
use Rattle.lrc_store.specs.Cells.{CellTree, IsWithin}
use Rattle.lrc_store.specs.Standing.{Standing, Told}
use Rattle.lrc_store.specs.Words.{Lasts, Reads, LacksOne}
use Rattle.lrc_store.proofs.Lasting.{reads-then, stays-gains}
use Rattle.lrc_code.specs.Forms.{tree_cell}
use Rattle.lrc_call_meaning.specs.Forms.{values_cell}
use Rattle.lrc_machine.specs.Counts.{Counted}
use Rattle.lrc_bodies.specs.Counting.{IsWhole}
use Rattle.lrc_places.proofs.DeclaredLemmas.{declared-kind, fits-declared, fits-put}
use Rattle.lrc_functions.specs.declared.functions.Functions.{Functions}
use Rattle.lrc_session.specs.declared.session.Session.{Session}
use Rattle.lrc_session.specs.declared.fault.EditFault.{EditFault}
use Rattle.lrc_session.specs.declared.fault.EditFault.TheVariants as f
use Rattle.lrc_session.specs.Sessions.{grammar, sorts, demands, IsCalled, IsTooDeep, IsOpen, Edits}
use Rattle.lrc_session.specs.Copying.{Copies, copies_nothing, copies_part}
use Rattle.lrc_run.specs.declared.reply.Line.{Line}
use Rattle.lrc_run.specs.Lines.{IsLine}
use Rattle.lrc_run.specs.Counts.{counts_of}
use Rattle.lrc_run.specs.Values.{HasCountsOf}
use Rattle.lrc_run.specs.Playing.{RunsOut}
use Rattle.lrc_run.specs.Editing.{GainsSome, IsCountedReply, IsTallied, IsAnswer, IsEdited}
use Rattle.lrc_run.proofs.GrowLemmas.{some_read}
use Rattle.lrc_run.proofs.HoldsLemmas.{holds_read, holds_more, out_later, runs_out}
use Rattle.lrc_run.proofs.TallyLemmas.{IsAnswered, tallied_read, tallied_then, line_counted}

-- ---- edits that put a tree at a place

module _ (g : Grammar) (limit : ℕ) (text_of : Tree → List ℕ) (P : List Attempt → Tree → Type 0) (before : Tree) where
  -- By the editing rules the change asks for this tree, which fits the kind, to be put at a place where one of the kind stands.
  pub record AsksFor (c : Change) (place : List ℕ) (new : Tree) (kind : Kind) : Type 0 where
    pub fit : IsTrue (fits g.prods new kind)
    pub asks : asked before c ≡ replaced before place new
    pub nowhere : (earlier : List Attempt) → at_place before place ≡ None → EditStep g limit text_of P earlier before c bad_path earlier before
    pub other_kind : (earlier : List Attempt) (old : Tree) → at_place before place ≡ Some old → kind_of g.prods old ≢ Some kind → EditStep g limit text_of P earlier before c wrong_sort earlier before
    pub tries : (earlier : List Attempt) (old : Tree) (reply : Reply) (after : Tree) → at_place before place ≡ Some old → kind_of g.prods old ≡ Some kind →
        Attempted g limit text_of P earlier before (replaced before place new) reply after →
        EditStep g limit text_of P earlier before c reply (earlier ++ tried (replaced before place new) reply ∷ []) after

  pub put_asks : (place : List ℕ) (new : Tree) (kind : Kind) → IsTrue (fits g.prods new kind) → AsksFor (put place kind new) place new kind
  put_asks place new kind fit = record {
    fit = fit;
    asks = refl;
    nowhere = λ earlier none. put_nowhere place kind new fit none;
    other_kind = λ earlier old there other. put_other_kind place kind new old fit there other;
    tries = λ earlier old reply after there same attempted. puts place kind new old reply after fit there same attempted;
  }

  -- a copy asks for the part at its first place, which fits its own kind
  pub copy_asks : (from to : List ℕ) (new : Tree) (sort kind : Kind) → IsTrue (fits g.prods before sort) → at_place before from ≡ Some new → kind_of g.prods new ≡ Some kind → AsksFor (copy from to) to new kind
  copy_asks from to new sort kind fitting is of_kind = record {
    fit = fits-declared g.prods before new sort kind from fitting is (declared-kind g.prods before new sort kind from fitting is of_kind);
    asks = ap (λ o. option_map_or (replaced before to) o before) is;
    nowhere = λ earlier none. copy_to_nowhere from to none;
    other_kind = λ earlier old there other. copy_other_kind from to new old is there (λ same. other (same ∙ of_kind));
    tries = λ earlier old reply after there same attempted. copies from to new old reply after is there (same ∙ sym of_kind) attempted;
  }

module _ (functions : Functions) where
  -- an open session stays open as long as what its handles stand for lasts
  pub open_later : (s t : Standing) (session : Session) (tree : Tree) (vs : List Tree) → IsOpen functions s session tree vs → Lasts s t → IsOpen functions t session tree vs
  open_later s t session tree vs o last = record {
    fitting = o.fitting;
    spelled = o.spelled;
    tree = last.known session.tree.0 (tree_cell tree) o.tree;
    spelled_values = o.spelled_values;
    values = last.known session.values.0 (values_cell vs) o.values;
    attributes = o.attributes;
    frames = o.frames;
  }

  -- a session is open, with some tree and its values
  abbrev pub IsOpenStill : Standing → Session → Type 0
  IsOpenStill s session = (tree : Tree) × (vs : List Tree) × IsOpen functions s session tree vs

  -- ---- edits without an attempt

  -- the store was only read, and the session keeps its tree
  was_read : (s u : Standing) (limit : ℕ) (whole : Tree) (vs : List Tree) (c : Change) (session : Session) (reply : Reply) (line : Line) → Reads s u → IsOpen functions u session whole vs → IsLine (grammar functions) reply line →
      ((earlier : List Attempt) → IsCountedReply (grammar functions) (sorts functions) limit earlier (asked whole c) reply (counts_of line)) →
      ((earlier : List Attempt) → EditStep (grammar functions) limit (unparsed functions.plan.grammar.prods) (RunsOut functions limit u) earlier whole c reply earlier whole) →
      IsEdited functions s u limit whole c session line
  was_read s u limit whole vs c session reply line reads opened is counted step = record {
    reply = reply;
    after = whole;
    own = vs;
    is_open = opened;
    is_line = is;
    steps = λ order earlier h. record {
      attempts = earlier;
      step = step earlier;
      holds = holds_read functions limit s u earlier h reads;
      counted = λ tallied. counted earlier;
      tallied = λ tallied on. tallied_read functions limit s u earlier tallied reads;
    };
  }

  module _ (s u : Standing) (whole : Tree) (vs : List Tree) (session : Session) (line : Line) (opened : IsOpen functions s session whole vs) (reads : Reads s u) where
    still_open : IsOpen functions u session whole vs
    still_open = open_later s u session whole vs opened reads.stays.lasts

    pub was_shown : IsLine (grammar functions) (shown (unparsed functions.plan.grammar.prods whole)) line → IsEdited functions s u session.depth whole show session line
    was_shown is = was_read s u session.depth whole vs show session (shown (unparsed functions.plan.grammar.prods whole)) line reads still_open is (λ earlier. tt) (λ earlier. shows)

    pub was_forgotten : (place : ℕ) → IsLine (grammar functions) forgot line → IsEdited functions s u session.depth whole (forget place) session line
    was_forgotten place is = was_read s u session.depth whole vs (forget place) session forgot line reads still_open is (λ earlier. tt) (λ earlier. forgets place)

  -- ---- puts and copies

  -- the session is open however an edit was answered
  abbrev pub open_put : (s t : Standing) (whole : Tree) (vs : List Tree) (before after : Session) (steps : List ℕ) (new : Tree) (kind : Kind) (answer : Result (Unit {0}) EditFault) → Edits functions s t whole vs before after steps new kind answer → IsOpenStill t after
  open_put s t whole vs before after steps new kind (Ok done) edits = (replaced whole steps new, edits.answers.1.values, edits.answers.1.is_open)
  open_put s t whole vs before after steps new kind (Err f.BadPath) edits = (whole, vs, edits.answers.2)
  open_put s t whole vs before after steps new kind (Err f.WrongSort) edits = (whole, vs, edits.answers.2)
  open_put s t whole vs before after steps new kind (Err f.TooDeep) edits = (whole, vs, edits.answers.2)
  open_put s t whole vs before after steps new kind (Err f.Full) edits = (whole, vs, edits.answers.2)

  -- the same of a copy, and that the store gained at most rows of some cells
  module _ (s t : Standing) (whole : Tree) (vs : List Tree) (before after : Session) (from to : List ℕ) (answer : Result (Unit {0}) EditFault) where
    abbrev pub open_copied : Copies functions s t whole vs before after from to answer → IsOpenStill t after
    open_copied (copies_nothing is nothing) = (whole, vs, nothing.is_open)
    open_copied (copies_part new kind there of_kind edits) = open_put s t whole vs before after to new kind answer edits

    pub copied_gains : Copies functions s t whole vs before after from to answer → GainsSome s t
    copied_gains (copies_nothing is nothing) = some_read s t nothing.reads
    copied_gains (copies_part new kind there of_kind edits) = (demands functions before.depth (replaced whole to new), edits.gains)

  module _ (s t u : Standing) (whole : Tree) (vs : List Tree) (before after : Session) (line : Line) (reads : Reads t u) where
    module _ (c : Change) (steps : List ℕ) (new : Tree) (kind : Kind) (asks : AsksFor (grammar functions) before.depth (unparsed functions.plan.grammar.prods) (RunsOut functions before.depth u) whole c steps new kind) where
      abbrev attempt : Tree
      attempt = replaced whole steps new

      -- the edit was made
      was_made : (made : Unit {0}) (edits : Edits functions s t whole vs before after steps new kind (Ok made)) → (IsWhole (grammar functions) (sorts functions) s.memo → IsWhole (grammar functions) (sorts functions) t.memo) →
          (IsWhole (grammar functions) (sorts functions) s.memo → Counted s t (IsCalled functions before.depth attempt)) → after.runs ≡ t.missed - s.missed → HasCountsOf u after line → IsLine (grammar functions) (values edits.answers.1.values) line →
          IsEdited functions s u before.depth whole c after line
      was_made made edits stays_whole counted runs counts is =
          let place = edits.answers.0 in
          let answer = edits.answers.1 in
          let reply = values answer.values in
          let seen = subst (λ n. Told t.seen (IsWithin (demands functions n attempt))) edits.depth answer.seen in
          let answered : (earlier : List Attempt) → IsTallied functions before.depth s earlier → IsAnswered functions before.depth s t earlier (tried attempt reply) =
          λ earlier h. record {
            before = h;
            whole = stays_whole h.whole;
            gains = edits.gains;
            seen = seen;
            counted = counted h.whole;
            small = subst (λ (made : List CellTree). length made < 2 ^ 32) reads.stays.made counts.small;
          } in
          record {
            reply = reply;
            after = attempt;
            own = answer.values;
            is_open = open_later t u after attempt answer.values answer.is_open reads.stays.lasts;
            is_line = is;
            steps = λ order earlier h. record {
              attempts = earlier ++ tried attempt reply ∷ [];
              step =
                  asks.tries earlier place.old reply attempt place.there place.of_kind
                  (gives answer.values (subst (λ n. Attributes (grammar functions) n attempt answer.values) edits.depth (answer.is_open.attributes order)));
              holds =
                  holds_read functions before.depth t u (earlier ++ tried attempt reply ∷ [])
                  (holds_more functions before.depth s t earlier (tried attempt reply) h edits.gains (λ _. seen)) reads;
              counted = λ h.
                  subst (λ tree. IsCountedReply (grammar functions) (sorts functions) before.depth earlier tree reply (counts_of line)) (sym asks.asks)
                  (line_counted functions before.depth s t earlier (tried attempt reply) (answered earlier h) u after line reads counts runs);
              tallied = λ h on. tallied_read functions before.depth t u (earlier ++ tried attempt reply ∷ []) (tallied_then functions before.depth s t earlier (tried attempt reply) (answered earlier h)) reads;
            };
          }

      -- what the edit asks for fits the start sort, where it stands in the place of a part of the same kind
      attempt_fits : (old : Tree) → IsOpen functions t after whole vs → at_place whole steps ≡ Some old → kind_of functions.plan.grammar.prods old ≡ Some kind →
          IsTrue (fits functions.plan.grammar.prods attempt (k.Sort functions.plan.grammar.start))
      attempt_fits old opened there of_kind =
          let prods = functions.plan.grammar.prods in
          let start = k.Sort functions.plan.grammar.start in
          fits-put prods whole new start kind steps opened.fitting (declared-kind prods whole old start kind steps opened.fitting there of_kind) asks.fit

      -- the edit was refused
      was_refused : (fault : EditFault) → Edits functions s t whole vs before after steps new kind (Err fault) → ((ws : List Tree) → IsAnswer (grammar functions) u after ws (Err fault) line) → IsEdited functions s u before.depth whole c after line
      was_refused f.BadPath edits is =
          was_read s u before.depth whole vs c after bad_path line (reads-then s t u edits.answers.1 reads) (open_later t u after whole vs edits.answers.2 reads.stays.lasts) (is vs) (λ earlier. tt)
          (λ earlier. asks.nowhere earlier edits.answers.0)
      was_refused f.WrongSort edits is =
          let other = edits.answers.0 in
          was_read s u before.depth whole vs c after wrong_sort line (reads-then s t u edits.answers.1 reads) (open_later t u after whole vs edits.answers.2 reads.stays.lasts) (is vs) (λ earlier. tt)
          (λ earlier. asks.other_kind earlier other.old other.there other.other)
      was_refused f.TooDeep edits is =
          let place = edits.answers.0 in
          record {
            reply = too_deep;
            after = whole;
            own = vs;
            is_open = open_later t u after whole vs edits.answers.2 reads.stays.lasts;
            is_line = is vs;
            steps = λ order earlier h. record {
              attempts = earlier ++ tried attempt too_deep ∷ [];
              step =
                  asks.tries earlier place.old too_deep whole place.there place.of_kind
                  (is_too_deep (attempt_fits place.old edits.answers.2 place.there place.of_kind) (subst (λ n. IsTooDeep functions n attempt) edits.depth edits.answers.1));
              holds =
                  holds_read functions before.depth t u (earlier ++ tried attempt too_deep ∷ [])
                  (holds_more functions before.depth s t earlier (tried attempt too_deep) h edits.gains (λ e. absurd (false≢true e))) reads;
              counted = λ _. tt;
              tallied = λ _ on. absurd (false≢true on);
            };
          }
      was_refused f.Full edits is =
          let place = edits.answers.0 in
          record {
            reply = full;
            after = whole;
            own = vs;
            is_open = open_later t u after whole vs edits.answers.2 reads.stays.lasts;
            is_line = is vs;
            steps = λ order earlier h. record {
              attempts = earlier ++ tried attempt full ∷ [];
              step =
                  asks.tries earlier place.old full whole place.there place.of_kind
                  (is_full (attempt_fits place.old edits.answers.2 place.there place.of_kind)
                  (out_later functions before.depth t u [] earlier attempt (edits.gains.lasts.sound h.sound) (stays-gains t u [] reads.stays)
                  (runs_out functions before.depth s t earlier attempt h edits.gains (subst (λ n. LacksOne t (demands functions n attempt)) edits.depth edits.answers.1))));
              holds =
                  holds_read functions before.depth t u (earlier ++ tried attempt full ∷ [])
                  (holds_more functions before.depth s t earlier (tried attempt full) h edits.gains (λ e. absurd (false≢true e))) reads;
              counted = λ _. tt;
              tallied = λ _ on. absurd (false≢true on);
            };
          }

      -- the edit was answered, and then its line was found
      pub was_answered : (answer : Result (Unit {0}) EditFault) (edits : Edits functions s t whole vs before after steps new kind answer) → (IsWhole (grammar functions) (sorts functions) s.memo → IsWhole (grammar functions) (sorts functions) t.memo) →
          (IsWhole (grammar functions) (sorts functions) s.memo → IfOk answer (λ _. Counted s t (IsCalled functions before.depth attempt))) → IfOk answer (λ _. after.runs ≡ t.missed - s.missed) →
          IsAnswer (grammar functions) u after (open_put s t whole vs before after steps new kind answer edits).1 answer line → IsEdited functions s u before.depth whole c after line
      was_answered (Ok made) edits stays_whole counted runs is = was_made made edits stays_whole counted runs is.1 is.0
      was_answered (Err fault) edits stays_whole counted runs is = was_refused fault edits (λ ws. is)

    -- a copy was answered, and then its line was found
    pub was_copied : (from to : List ℕ) (answer : Result (Unit {0}) EditFault) → IsOpen functions s before whole vs → (copied : Copies functions s t whole vs before after from to answer) →
        (IsWhole (grammar functions) (sorts functions) s.memo → IsWhole (grammar functions) (sorts functions) t.memo) →
        ((new : Tree) → at_place whole from ≡ Some new → IsWhole (grammar functions) (sorts functions) s.memo → IfOk answer (λ _. Counted s t (IsCalled functions before.depth (replaced whole to new)))) →
        IfOk answer (λ _. after.runs ≡ t.missed - s.missed) → IsAnswer (grammar functions) u after (open_copied s t whole vs before after from to answer copied).1 answer line →
        IsEdited functions s u before.depth whole (copy from to) after line
    was_copied from to answer opened (copies_nothing refused nothing) stays_whole counted runs is =
        was_read s u before.depth whole vs (copy from to) after bad_path line (reads-then s t u nothing.reads reads) (open_later t u after whole vs nothing.is_open reads.stays.lasts)
        (subst (λ a. IsAnswer (grammar functions) u after vs a line) refused is) (λ earlier. tt) (λ earlier. copy_from_nowhere from to nothing.none)
    was_copied from to answer opened (copies_part new kind there of_kind edits) stays_whole counted runs is =
        was_answered (copy from to) to new kind
        (copy_asks (grammar functions) before.depth (unparsed functions.plan.grammar.prods) (RunsOut functions before.depth u) whole from to new (k.Sort functions.plan.grammar.start) kind opened.fitting there of_kind) answer edits stays_whole
        (counted new there) runs is
