-- What a store of its own has, attempt by attempt, as long as each is answered with values: the cells that these demand, their calls
-- in its memo, and as many misses.
use Rattle.std.proofs.Common.{◌≡◌, ◌↔◌, ℕ, ◌+◌, ◌-◌, ◌<◌, ◌^◌, List, [], ◌∷◌, ◌++◌, length, Option, Some, None, Contains, ◌⊎◌, inl, inr, refl, sym, ap, ◌∙◌, subst, arith, length-append}
use Rattle.std.proofs.lemmas.List.Elements.{Contains-append_left, Contains-append_right, Contains-append_cases, Contains-push_cases}
use Rattle.lrc_meaning.specs.Tree.{Tree}
use Rattle.lrc_meaning.specs.Editing.{Attempt}
use Rattle.lrc_order_meaning.proofs.MemberLemmas.{member_first, no_member, member_flat}
use Rattle.lrc_visit_meaning.specs.Values.{root_call}
use Rattle.lrc_visit_meaning.specs.Demand.{reach}
use Rattle.lrc_store.specs.Cells.{CellTree, pair, parts as parts_of, IsWithin}
use Rattle.lrc_store.specs.Standing.{Standing, IsSound, HasNoRepeats, HasSize, IsRemembered, Told, TellsSeen}
use Rattle.lrc_store.specs.Words.{Reads, Gains}
use Rattle.lrc_call_meaning.specs.Forms.{call_form}
use Rattle.lrc_call_meaning.specs.Reached.{HaveSame}
use Rattle.lrc_cell_laws.proofs.SizeLemmas.{no_longer}
use Rattle.lrc_machine.specs.Counts.{Pairs, CountedPairs, CountedIn, Counted}
use Rattle.lrc_bodies.specs.Counting.{IsWhole}
use Rattle.lrc_bodies.proofs.MetCellLemmas.{called_cells}
use Rattle.lrc_functions.specs.declared.functions.Functions.{Functions}
use Rattle.lrc_session.specs.declared.session.Session.{Session}
use Rattle.lrc_session.specs.Sessions.{grammar, sorts, demanded}
use Rattle.lrc_run.specs.declared.reply.Line.{Line}
use Rattle.lrc_run.specs.Values.{HasCountsOf}
use Rattle.lrc_run.specs.Rows.{demands, wanted}
use Rattle.lrc_run.specs.Counts.{counts_of, IsCalled, IsCalledBefore, HasNewCalls, HasCounts, Tallies}
use Rattle.lrc_run.specs.Playing.{IsUnused, IsUncounted}
use Rattle.lrc_run.specs.Editing.{IsTallied}
use Rattle.lrc_run.proofs.MemberLemmas.{decide_member, both_once}
use Rattle.lrc_run.proofs.HoldsLemmas.{told_at, made_is_wanted, wanted_is_demanded, demanded_is_wanted}

-- a memo that is told is told again
told_pairs : (is_met : CellTree → Type 0) (before after : Option Pairs) (pairs : Pairs) (missed now : ℕ) → before ≡ Some pairs → CountedIn is_met before after missed now →
    (later : Pairs) × (after ≡ Some later) × CountedPairs is_met pairs later missed now
told_pairs is_met None after pairs missed now e c = absurd (cc)
told_pairs is_met (Some xs) None pairs missed now e c = absurd c
told_pairs is_met (Some xs) (Some ys) pairs missed now e c = let same : xs ≡ pairs = cc in (ys, refl, subst (λ ps. CountedPairs is_met ps ys missed now) same c)

-- the cell of a call is one of its parts
own_part : (cell : CellTree) (tag : ℕ) (left right : CellTree) → cell ≡ pair tag left right → Contains (parts_of cell) cell
own_part cell tag left right e = subst (λ c. Contains (parts_of c) c) (sym e) (member_first (pair tag left right) (parts_of left ++ parts_of right))

module _ (functions : Functions) (limit : ℕ) where
  abbrev called_by : Tree → CellTree → Type 0
  called_by t = IsCalled (grammar functions) (sorts functions) limit t

  abbrev called_before : List Attempt → CellTree → Type 0
  called_before earlier = IsCalledBefore (grammar functions) (sorts functions) limit earlier

  abbrev cells_of_tree : Tree → List CellTree
  cells_of_tree t = demanded (grammar functions) (sorts functions) limit t

  abbrev cells_before : List Attempt → List CellTree
  cells_before earlier = demands (grammar functions) (sorts functions) limit earlier

  -- ---- calls

  -- the calls that an attempt makes are among what it demands
  call_demanded : (t : Tree) (cell : CellTree) → called_by t cell → Contains (cells_of_tree t) cell
  unfolding call_form
  call_demanded t cell (c, met, is) =
      subst (Contains (cells_of_tree t)) (sym is)
      (called_cells (reach (grammar functions) (sorts functions) limit (root_call t)) c met (call_form c) (own_part (call_form c) _ _ _ refl))

  called_among : (earlier : List Attempt) (cell : CellTree) → called_before earlier cell → Contains (cells_before earlier) cell
  called_among earlier cell (attempt, among, called) = member_flat (λ (a : Attempt). cells_of_tree a.tree) earlier attempt cell among (call_demanded attempt.tree cell called)

  called_then : (earlier : List Attempt) (a : Attempt) (cell : CellTree) → called_before (earlier ++ a ∷ []) cell → called_before earlier cell ⊎ called_by a.tree cell
  called_then earlier a cell (attempt, among, called) =
      elim (Contains-push_cases earlier a attempt among) [
        | inl before ↦ inl (attempt, before, called)
        | inr same ↦ inr (subst (λ (x : Attempt). called_by x.tree cell) (sym same) called)
      ]

  called_still : (earlier : List Attempt) (a : Attempt) (cell : CellTree) → called_before earlier cell → called_before (earlier ++ a ∷ []) cell
  called_still earlier a cell (attempt, among, called) = (attempt, Contains-append_left earlier (a ∷ []) attempt among, called)

  called_now : (earlier : List Attempt) (a : Attempt) (cell : CellTree) → called_by a.tree cell → called_before (earlier ++ a ∷ []) cell
  called_now earlier a cell called = (a, Contains-append_right earlier (a ∷ []) a (member_first a []), called)

  -- ---- before the first attempt, and where a store is only read

  pub tallied_none : (s : Standing) → IsUnused s → IsUncounted s → IsTallied functions limit s []
  tallied_none s unused fresh = record {
    sound = unused.sound;
    whole = subst (IsWhole (grammar functions) (sorts functions)) (sym fresh.memo) (λ c r among. absurd (no_member (call_form c, _) among));
    tallies = record {
      made = subst (λ made. HaveSame made []) (sym unused.made) (λ cell. (λ h. h, λ h. h));
      pairs = [];
      memo = fresh.memo;
      remembered = λ cell. (λ (outcome, among). absurd (no_member (cell, outcome) among), λ (attempt, among, called). absurd (no_member attempt among));
      calls = [];
      once = tt;
      same = λ cell. (λ h. absurd (no_member cell h), λ (attempt, among, called). absurd (no_member attempt among));
      missed = sym fresh.missed;
    };
  }

  pub tallied_read : (s t : Standing) (attempts : List Attempt) → IsTallied functions limit s attempts → Reads s t → IsTallied functions limit t attempts
  tallied_read s t attempts h reads = record {
    sound = reads.stays.lasts.sound h.sound;
    whole = subst (IsWhole (grammar functions) (sorts functions)) (sym reads.memo) h.whole;
    tallies = record {
      made = subst (λ made. HaveSame made (cells_before attempts)) (sym reads.stays.made) h.tallies.made;
      pairs = h.tallies.pairs;
      memo = reads.memo ∙ h.tallies.memo;
      remembered = h.tallies.remembered;
      calls = h.tallies.calls;
      once = h.tallies.once;
      same = h.tallies.same;
      missed = h.tallies.missed ∙ sym reads.missed;
    };
  }

  -- ---- one attempt more

  -- an attempt was answered with values, behind others that were
  pub record IsAnswered (s t : Standing) (earlier : List Attempt) (a : Attempt) : Type 0 where
    pub before : IsTallied functions limit s earlier
    pub whole : IsWhole (grammar functions) (sorts functions) t.memo
    pub gains : Gains s t (cells_of_tree a.tree)
    pub seen : Told t.seen (IsWithin (cells_of_tree a.tree))
    pub counted : Counted s t (called_by a.tree)
    pub small : length t.made < 2 ^ 32

  module _ (s t : Standing) (earlier : List Attempt) (a : Attempt) (is : IsAnswered s t earlier a) where
    abbrev old : Tallies (grammar functions) (sorts functions) limit s earlier
    old = is.before.tallies

    sound_then : IsSound t
    sound_then = is.gains.lasts.sound is.before.sound

    told : (later : Pairs) × (t.memo ≡ Some later) × CountedPairs (called_by a.tree) old.pairs later s.missed t.missed
    told = told_pairs (called_by a.tree) s.memo t.memo old.pairs s.missed t.missed old.memo is.counted

    all_seen : t.seen ≡ Some t.made
    all_seen = subst (λ memo. TellsSeen memo t.seen t.made) told.1 sound_then.memo_seen

    -- just what was wanted was made
    made_wanted : HaveSame t.made (wanted (grammar functions) (sorts functions) limit earlier a.tree)
    made_wanted cell = (
      made_is_wanted functions limit s t earlier a.tree (λ c m. (old.made c).0 m) is.gains cell,
      λ w.
          elim (Contains-append_cases (cells_before earlier) (cells_of_tree a.tree) cell w) [
            | inl before ↦
                subst (λ cells. Contains cells cell) (sym is.gains.made.1) (Contains-append_left s.made is.gains.made.0 cell ((old.made cell).1 before))
            | inr now ↦ told_at t.seen t.made (IsWithin (cells_of_tree a.tree)) all_seen is.seen cell now
          ],
    )

    pub cells_counted : HasSize (wanted (grammar functions) (sorts functions) limit earlier a.tree) (length t.made)
    cells_counted = record { once = t.made; no_repeats = sound_then.made_once; same = made_wanted; count = refl }

    -- the calls that were missed are those that no earlier attempt made
    abbrev gained : List CellTree
    gained = told.2.new.0

    gained_same : (cell : CellTree) → Contains gained cell ↔ (called_by a.tree cell × (¬ called_before earlier cell))
    gained_same cell = (
      λ h. let new = (told.2.new.2 cell).0 h in (new.0, λ before. new.1 ((old.remembered cell).1 before)),
      λ new. (told.2.new.2 cell).1 (new.0, λ known. new.1 ((old.remembered cell).0 known)),
    )

    all_once : HasNoRepeats (old.calls ++ gained)
    all_once = both_once old.calls gained old.once told.2.new.1 (λ cell new before. ((gained_same cell).0 new).1 ((old.same cell).0 before))

    all_made : IsWithin (old.calls ++ gained) t.made
    all_made cell h =
        (made_wanted cell).1
        (elim (Contains-append_cases old.calls gained cell h) [
          | inl before ↦ Contains-append_left (cells_before earlier) (cells_of_tree a.tree) cell (called_among earlier cell ((old.same cell).0 before))
          | inr new ↦ Contains-append_right (cells_before earlier) (cells_of_tree a.tree) cell (call_demanded a.tree cell ((gained_same cell).0 new).0)
        ])

    sum_missed : t.missed ≡ s.missed + length gained
    sum_missed =
        let low = no_longer (old.calls ++ gained) t.made all_once all_made in
        let both = length-append old.calls gained in
        let count = old.missed in
        let now = told.2.new.3 in
        let small = is.small in
        omega (arith, low, both, count, now, small)

    pub bodies_counted : HasNewCalls (grammar functions) (sorts functions) limit earlier a.tree (t.missed - s.missed)
    bodies_counted = record { calls = gained; once = told.2.new.1; same = gained_same; number = let sum = sum_missed in omega (arith, sum) }

    all_called : (cell : CellTree) → Contains (old.calls ++ gained) cell ↔ called_before (earlier ++ a ∷ []) cell
    all_called cell = (
      λ h.
          elim (Contains-append_cases old.calls gained cell h) [
            | inl before ↦ called_still earlier a cell ((old.same cell).0 before)
            | inr new ↦ called_now earlier a cell ((gained_same cell).0 new).0
          ],
      λ called.
          elim (decide_member old.calls cell) [
            | inl there ↦ Contains-append_left old.calls gained cell there
            | inr none ↦
                elim (called_then earlier a cell called) [
                  | inl before ↦ absurd (none ((old.same cell).1 before))
                  | inr now ↦ Contains-append_right old.calls gained cell ((gained_same cell).1 (now, λ before. none ((old.same cell).1 before)))
                ]
          ],
    )

    all_remembered : (cell : CellTree) → IsRemembered told.0 cell ↔ called_before (earlier ++ a ∷ []) cell
    all_remembered cell = (
      λ h.
          elim ((told.2.memo cell).0 h) [
            | inl before ↦ called_still earlier a cell ((old.remembered cell).0 before)
            | inr now ↦ called_now earlier a cell now
          ],
      λ called.
          (told.2.memo cell).1
          (elim (called_then earlier a cell called) [ inl before ↦ inl ((old.remembered cell).1 before) | inr now ↦ inr now ]),
    )

    pub tallied_then : IsTallied functions limit t (earlier ++ a ∷ [])
    tallied_then = record {
      sound = sound_then;
      whole = is.whole;
      tallies = record {
        made = λ cell. (
          λ m. wanted_is_demanded functions limit earlier a cell ((made_wanted cell).0 m),
          λ d. (made_wanted cell).1 (demanded_is_wanted functions limit earlier a cell d),
        );
        pairs = told.0;
        memo = told.1;
        remembered = all_remembered;
        calls = old.calls ++ gained;
        once = all_once;
        same = all_called;
        missed = length-append old.calls gained ∙ ap (λ n. n + length gained) old.missed ∙ sym sum_missed;
      };
    }

    -- the line of the attempt's values, which only reads the store, has its counts
    pub line_counted : (u : Standing) (session : Session) (line : Line) → Reads t u → HasCountsOf u session line → session.runs ≡ t.missed - s.missed →
        HasCounts (grammar functions) (sorts functions) limit earlier a.tree (counts_of line)
    line_counted u session line reads counts runs = record {
      bodies = subst (HasNewCalls (grammar functions) (sorts functions) limit earlier a.tree) (sym (counts.bodies ∙ runs)) bodies_counted;
      cells =
          subst (HasSize (wanted (grammar functions) (sorts functions) limit earlier a.tree)) (ap (length {A = CellTree}) (sym reads.stays.made) ∙ sym counts.cells) cells_counted;
    }
