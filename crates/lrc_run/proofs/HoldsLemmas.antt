-- What a store has after attempts, when its rows have run out, and how both last.
use Rattle.std.proofs.Common.{◌≡◌, ℕ, suc, ◌+◌, ◌≤◌, IsTrue, List, [], ◌∷◌, ◌++◌, length, Option, Some, None, Contains, inl, inr, refl, sym, ap, ◌∙◌, subst, arith, length-append}
use Rattle.std.specs.Prelude.{flat_map}
use Rattle.std.proofs.lemmas.List.Concat.{flat_map-append, flat_map-cons}
use Rattle.std.proofs.lemmas.List.Elements.{Contains-append_left, Contains-append_right, Contains-append_cases, Contains-push_cases}
use Rattle.lrc_meaning.specs.Tree.{Tree}
use Rattle.lrc_meaning.specs.Editing.{Attempt}
use Rattle.lrc_order_meaning.proofs.MemberLemmas.{member_cases, no_member}
use Rattle.lrc_store.specs.Cells.{CellTree, IsWithin}
use Rattle.lrc_store.specs.Standing.{Standing, IsSound, IsHeld, HasSize, Told}
use Rattle.lrc_store.specs.Words.{Grows, Reads, Gains, LacksOne}
use Rattle.lrc_cell_laws.proofs.SizeLemmas.{sized, size_within}
use Rattle.lrc_functions.specs.declared.functions.Functions.{Functions}
use Rattle.lrc_session.specs.Sessions.{grammar, sorts, demanded}
use Rattle.lrc_run.specs.Rows.{demands, wanted, IsLessThanWanted}
use Rattle.lrc_run.specs.Playing.{IsUnused, RunsOut, Holds}

-- what is told grows
told_later : (a b : Option (List CellTree)) (seen : List CellTree) → a ≡ Some seen → Grows a b → (later : List CellTree) × (b ≡ Some later) × IsWithin seen later
told_later None b seen e g = absurd (cc)
told_later (Some xs) None seen e g = absurd g
told_later (Some xs) (Some ys) seen e g = let same : xs ≡ seen = cc in (ys, refl, subst (λ cells. IsWithin cells ys) same g)

pub told_at : (a : Option (List CellTree)) (seen : List CellTree) (P : List CellTree → Type 0) → a ≡ Some seen → Told a P → P seen
told_at a seen P e h = subst (λ o. Told o P) e h

module _ (functions : Functions) (limit : ℕ) where
  abbrev cells_at : Attempt → List CellTree
  cells_at attempt = demanded (grammar functions) (sorts functions) limit attempt.tree

  -- one attempt demands the cells of its tree
  one_demands : (attempt : Attempt) (cell : CellTree) → Contains (cells_at attempt) cell → Contains (demands (grammar functions) (sorts functions) limit (attempt ∷ [])) cell
  one_demands attempt cell h = subst (λ cells. Contains cells cell) (sym (flat_map-cons cells_at attempt [])) (Contains-append_left (cells_at attempt) (flat_map cells_at []) cell h)

  demanded_by_one : (attempt : Attempt) (cell : CellTree) → Contains (demands (grammar functions) (sorts functions) limit (attempt ∷ [])) cell → Contains (cells_at attempt) cell
  demanded_by_one attempt cell h =
      elim (Contains-append_cases (cells_at attempt) (flat_map cells_at []) cell (subst (λ cells. Contains cells cell) (flat_map-cons cells_at attempt []) h)) [
        | inl here ↦ here
        | inr more ↦ absurd (no_member cell more)
      ]

  -- with one attempt more all is demanded that was wanted at it
  pub wanted_is_demanded : (earlier : List Attempt) (attempt : Attempt) →
      IsWithin (wanted (grammar functions) (sorts functions) limit earlier attempt.tree) (demands (grammar functions) (sorts functions) limit (earlier ++ attempt ∷ []))
  wanted_is_demanded earlier attempt cell h =
      let before = flat_map cells_at earlier in
      let one = flat_map cells_at (attempt ∷ []) in
      subst (λ cells. Contains cells cell) (sym (flat_map-append cells_at earlier (attempt ∷ [])))
      (elim (Contains-append_cases before (cells_at attempt) cell h) [
        | inl among ↦ Contains-append_left before one cell among
        | inr here ↦ Contains-append_right before one cell (one_demands attempt cell here)
      ])

  pub demanded_is_wanted : (earlier : List Attempt) (attempt : Attempt) →
      IsWithin (demands (grammar functions) (sorts functions) limit (earlier ++ attempt ∷ [])) (wanted (grammar functions) (sorts functions) limit earlier attempt.tree)
  demanded_is_wanted earlier attempt cell h =
      let before = flat_map cells_at earlier in
      let one = flat_map cells_at (attempt ∷ []) in
      elim (Contains-append_cases before one cell (subst (λ cells. Contains cells cell) (flat_map-append cells_at earlier (attempt ∷ [])) h)) [
        | inl among ↦ Contains-append_left before (cells_at attempt) cell among
        | inr here ↦ Contains-append_right before (cells_at attempt) cell (demanded_by_one attempt cell here)
      ]

  -- what was made before an attempt, and in it, is wanted there
  pub made_is_wanted : (s t : Standing) (earlier : List Attempt) (tree : Tree) → IsWithin s.made (demands (grammar functions) (sorts functions) limit earlier) → Gains s t (demanded (grammar functions) (sorts functions) limit tree) →
      IsWithin t.made (wanted (grammar functions) (sorts functions) limit earlier tree)
  made_is_wanted s t earlier tree within gains cell h =
      let before = flat_map cells_at earlier in
      let here = demanded (grammar functions) (sorts functions) limit tree in
      elim (Contains-append_cases s.made gains.made.0 cell (subst (λ cells. Contains cells cell) gains.made.1 h)) [
        | inl old ↦ Contains-append_left before here cell (within cell old)
        | inr new ↦ Contains-append_right before here cell (gains.made.2 cell new)
      ]

  -- ---- what a store has

  pub holds_none : (s : Standing) → IsUnused s → Holds functions limit s []
  holds_none s unused = record {
    sound = unused.sound;
    made = λ cell h. absurd (no_member cell (subst (λ cells. Contains cells cell) unused.made h));
    seen = ([], unused.seen, λ attempt among. absurd (no_member attempt among));
  }

  pub holds_read : (s t : Standing) (earlier : List Attempt) → Holds functions limit s earlier → Reads s t → Holds functions limit t earlier
  holds_read s t earlier h reads =
      let later = told_later s.seen t.seen h.seen.0 h.seen.1 reads.stays.lasts.seen in
      record {
        sound = reads.stays.lasts.sound h.sound;
        made = λ cell m. h.made cell (subst (λ cells. Contains cells cell) reads.stays.made m);
        seen = (later.0, later.1, λ attempt among answered cell d. later.2 cell (h.seen.2 attempt among answered cell d));
      }

  pub holds_more : (s t : Standing) (earlier : List Attempt) (attempt : Attempt) → Holds functions limit s earlier → Gains s t (cells_at attempt) → (IsTrue attempt.answered → Told t.seen (IsWithin (cells_at attempt))) →
      Holds functions limit t (earlier ++ attempt ∷ [])
  holds_more s t earlier attempt h gains told =
      let later = told_later s.seen t.seen h.seen.0 h.seen.1 gains.lasts.seen in
      let own : IsTrue attempt.answered → IsWithin (cells_at attempt) later.0 = λ answered. told_at t.seen later.0 (IsWithin (cells_at attempt)) later.1 (told answered) in
      record {
        sound = gains.lasts.sound h.sound;
        made = λ cell m. wanted_is_demanded earlier attempt cell (made_is_wanted s t earlier attempt.tree h.made gains cell m);
        seen = (
          later.0,
          later.1,
          λ other among answered cell d.
              elim (Contains-push_cases earlier attempt other among) [
                | inl before ↦ later.2 cell (h.seen.2 other before answered cell d)
                | inr same ↦
                    own (subst (λ (a : Attempt). IsTrue a.answered) (sym same) answered) cell
                    (demanded_by_one attempt cell (subst (λ (a : Attempt). Contains (demands (grammar functions) (sorts functions) limit (a ∷ [])) cell) (sym same) d))
              ],
        );
      }

  -- ---- when its rows have run out

  pub out_later : (s t : Standing) (cells : List CellTree) (earlier : List Attempt) (tree : Tree) → IsSound s → Gains s t cells → RunsOut functions limit s earlier tree → RunsOut functions limit t earlier tree
  out_later s t cells earlier tree sound gains out =
      let longer : length t.made ≡ length s.made + length gains.made.0 = ap (length {A = CellTree}) gains.made.1 ∙ length-append s.made gains.made.0 in
      let within = (gains.lasts.sound sound).made_within in
      let quota = gains.lasts.quota.at_most in
      let used = out.used in
      let same : length s.made ≡ length t.made = omega (arith, longer, within, quota, used) in
      record {
        used = omega (arith, longer, within, quota, used);
        less = subst (λ rows. IsLessThanWanted (grammar functions) (sorts functions) limit rows earlier tree) same out.less;
        wants = out.wants;
      }

  -- a cell that is wanted and in no row makes what is wanted more than the rows
  less_than_wanted : (s t : Standing) (earlier : List Attempt) (tree : Tree) (cell : CellTree) → Holds functions limit s earlier → Gains s t (demanded (grammar functions) (sorts functions) limit tree) →
      Contains (demanded (grammar functions) (sorts functions) limit tree) cell → ¬ IsHeld t cell → IsLessThanWanted (grammar functions) (sorts functions) limit (length t.made) earlier tree
  less_than_wanted s t earlier tree cell h gains here unknown =
      let all = wanted (grammar functions) (sorts functions) limit earlier tree in
      let sound = gains.lasts.sound h.sound in
      let size = sized all in
      let own : HasSize (cell ∷ t.made) (suc (length t.made)) =
      record { once = cell ∷ t.made; no_repeats = (λ m. unknown (sound.made_held cell m), sound.made_once); same = λ c. (λ m. m, λ m. m); count = refl } in
      let within : IsWithin (cell ∷ t.made) all =
      λ c m.
      elim (member_cases cell t.made c m) [
        | inl e ↦ subst (Contains all) e (Contains-append_right (demands (grammar functions) (sorts functions) limit earlier) (demanded (grammar functions) (sorts functions) limit tree) cell here)
        | inr later ↦ made_is_wanted s t earlier tree h.made gains c later
      ] in
      let low : suc (length t.made) ≤ size.0 = size_within (cell ∷ t.made) all (suc (length t.made)) size.0 within own size.1 in
      (size.0, size.1, omega (arith, low))

  pub runs_out : (s t : Standing) (earlier : List Attempt) (tree : Tree) → Holds functions limit s earlier → Gains s t (demanded (grammar functions) (sorts functions) limit tree) →
      LacksOne t (demanded (grammar functions) (sorts functions) limit tree) → RunsOut functions limit t earlier tree
  runs_out s t earlier tree h gains (cell, here, full) =
      let later = told_later s.seen t.seen h.seen.0 h.seen.1 gains.lasts.seen in
      record {
        used = full.used;
        less = less_than_wanted s t earlier tree cell h gains here full.unknown;
        wants = (
          cell,
          here,
          λ attempt among answered d.
              told_at t.seen later.0 (λ seen. ¬ Contains seen cell) later.1 full.unseen (later.2 cell (h.seen.2 attempt among answered cell (one_demands attempt cell d))),
        );
      }
