-- What lasts from a store to itself, from step to step, and what is gained over more cells.
use Rattle.std.proofs.Common.{◌≡◌, ◌⊎◌, inl, inr, ◌+◌, ◌≤◌, zero, suc, Bool, true, false, List, [], ◌∷◌, ◌++◌, length, refl, sym, ◌∙◌, ap, arith, append_assoc, length-append, Option, Some, None, Contains}
use Rattle.std.proofs.lemmas.List.{append-nil}
use Rattle.std.proofs.lemmas.List.Elements.{Contains-append_cases}
use Rattle.std.proofs.lemmas.Bool.{false≢true}
use Rattle.std.specs.Prelude.{Result}
use Rattle.lrc_store.specs.Cells.{CellTree, IsWithin}
use Rattle.lrc_store.specs.Standing.{Standing}
use Rattle.lrc_store.specs.Words.{Grows, KeepsQuota, Lasts, Stays, Reads, Makes, Draws, Gains, Adds, LacksOne, Puts}
use Rattle.lrc_store.specs.declared.cells.Handle.{Handle}
use Rattle.lrc_store.specs.declared.stores.Full.{Full}

-- ---- what lasts

grows-same : (a : Option (List CellTree)) → Grows a a
grows-same None = tt
grows-same (Some cells) = λ cell h. h

grows-then : (a b c : Option (List CellTree)) → Grows a b → Grows b c → Grows a c
grows-then None None None g h = tt
grows-then None None (Some z) g h = absurd h
grows-then None (Some y) c g h = absurd g
grows-then (Some x) None c g h = absurd g
grows-then (Some x) (Some y) None g h = absurd h
grows-then (Some x) (Some y) (Some z) g h = λ cell k. h cell (g cell k)

-- where nothing was drawn, the quota stays
pub quota-same : (s t : Standing) → t.pooled ≡ s.pooled → t.quota ≡ s.quota → t.dry ≡ s.dry → t.blocks ≡ s.blocks → KeepsQuota s t
quota-same s t pooled quota dry blocks = record {
  pooled = pooled;
  at_most = omega (arith, quota);
  fixed = λ _. quota;
  till_dry = λ _. quota;
  dry = λ e. dry ∙ e;
  blocks = omega (arith, blocks);
}

quota-then : (s t u : Standing) → KeepsQuota s t → KeepsQuota t u → KeepsQuota s u
quota-then s t u a b = record {
  pooled = b.pooled ∙ a.pooled;
  at_most = omega (arith, a.at_most, b.at_most);
  fixed = λ e. b.fixed (a.pooled ∙ e) ∙ a.fixed e;
  till_dry = λ e. b.till_dry e ∙ a.till_dry (undry e);
  dry = λ e. b.dry (a.dry e);
  blocks = omega (arith, a.blocks, b.blocks);
} where
  undry : u.dry ≡ false → t.dry ≡ false
  undry e = over t.dry refl where
    over : (d : Bool) → t.dry ≡ d → t.dry ≡ false
    over false h = h
    over true h = absurd (false≢true (sym e ∙ b.dry h))

pub lasts-same : (s : Standing) → Lasts s s
lasts-same s = record {
  known = λ handle cell h. h;
  seen = grows-same s.seen;
  quota = quota-same s s refl refl refl refl;
  meets = refl;
  lives = refl;
  identity = refl;
  sound = λ h. h;
}

pub lasts-then : (s t u : Standing) → Lasts s t → Lasts t u → Lasts s u
lasts-then s t u a b = record {
  known = λ handle cell h. b.known handle cell (a.known handle cell h);
  seen = grows-then s.seen t.seen u.seen a.seen b.seen;
  quota = quota-then s t u a.quota b.quota;
  meets = b.meets ∙ a.meets;
  lives = b.lives ∙ a.lives;
  identity = b.identity ∙ a.identity;
  sound = λ h. b.sound (a.sound h);
}

-- ---- no row is made

pub stays-then : (s t u : Standing) → Stays s t → Stays t u → Stays s u
stays-then s t u a b = record {
  lasts = lasts-then s t u a.lasts b.lasts;
  made = b.made ∙ a.made;
  drawn = b.drawn ∙ a.drawn;
  quota = b.quota ∙ a.quota;
  blocks = b.blocks ∙ a.blocks;
  dry = b.dry ∙ a.dry;
}

pub reads-then : (s t u : Standing) → Reads s t → Reads t u → Reads s u
reads-then s t u a b = record {
  stays = stays-then s t u a.stays b.stays;
  memo = b.memo ∙ a.memo;
  missed = b.missed ∙ a.missed;
}

-- ---- rows are gained

none-within : (cells : List CellTree) → IsWithin [] cells
none-within cells cell h = absurd (omega (arith, h.1))

within-both : (xs ys zs : List CellTree) → IsWithin xs zs → IsWithin ys zs → IsWithin (xs ++ ys) zs
within-both xs ys zs f g c h = over (Contains-append_cases xs ys c h) where
  over : Contains xs c ⊎ Contains ys c → Contains zs c
  over (inl k) = f c k
  over (inr k) = g c k

draws-then : (a b c : Option CellTree) (cells : List CellTree) → Draws a b cells → Draws b c cells → Draws a c cells
draws-then a b c cells (inl e) (inl f) = inl (f ∙ e)
draws-then a b c cells (inr (cell, k, e)) (inl f) = inr (cell, k, f ∙ e)
draws-then a b c cells first (inr (cell, k, e)) = inr (cell, k, e)

draws-more : (a b : Option CellTree) (cells more : List CellTree) → IsWithin cells more → Draws a b cells → Draws a b more
draws-more a b cells more w (inl e) = inl e
draws-more a b cells more w (inr (cell, k, e)) = inr (cell, w cell k, e)

-- where no row is made, none is gained of any cells
pub stays-gains : (s t : Standing) (cells : List CellTree) → Stays s t → Gains s t cells
stays-gains s t cells h = record { lasts = h.lasts; made = ([], h.made ∙ sym (append-nil s.made), none-within cells); drawn = inl h.drawn }

pub gains-same : (s : Standing) (cells : List CellTree) → Gains s s cells
gains-same s cells = record { lasts = lasts-same s; made = ([], sym (append-nil s.made), none-within cells); drawn = inl refl }

pub gains-then : (s t u : Standing) (cells : List CellTree) → Gains s t cells → Gains t u cells → Gains s u cells
gains-then s t u cells f g = record {
  lasts = lasts-then s t u f.lasts g.lasts;
  made = (
    f.made.0 ++ g.made.0,
    g.made.1 ∙ ap (λ rows. rows ++ g.made.0) f.made.1 ∙ append_assoc s.made f.made.0 g.made.0,
    within-both f.made.0 g.made.0 cells f.made.2 g.made.2,
  );
  drawn = draws-then s.drawn t.drawn u.drawn cells f.drawn g.drawn;
}

pub gains-more : (s t : Standing) (cells more : List CellTree) → IsWithin cells more → Gains s t cells → Gains s t more
gains-more s t cells more w f = record {
  lasts = f.lasts;
  made = (f.made.0, f.made.1, λ cell h. w cell (f.made.2 cell h));
  drawn = draws-more s.drawn t.drawn cells more w f.drawn;
}

pub adds-same : (s : Standing) (cells : List CellTree) → Adds s s cells
adds-same s cells = record { gains = gains-same s cells; memo = refl; missed = refl }

pub adds-then : (s t u : Standing) (cells : List CellTree) → Adds s t cells → Adds t u cells → Adds s u cells
adds-then s t u cells f g = record { gains = gains-then s t u cells f.gains g.gains; memo = g.memo ∙ f.memo; missed = g.missed ∙ f.missed }

pub adds-more : (s t : Standing) (cells more : List CellTree) → IsWithin cells more → Adds s t cells → Adds s t more
adds-more s t cells more w f = record { gains = gains-more s t cells more w f.gains; memo = f.memo; missed = f.missed }

-- what lacks a cell of a list lacks one of each list that has these
pub lacks-more : (s : Standing) (cells more : List CellTree) → IsWithin cells more → LacksOne s cells → LacksOne s more
lacks-more s cells more w (cell, k, f) = (cell, w cell k, f)

-- ---- one row at most

-- at most one cell, which is this one
abbrev pub IsAtMost : List CellTree → List CellTree → CellTree → Type 0
IsAtMost before after cell = (after ≡ before) ⊎ (after ≡ before ++ cell ∷ [])

only : (one cell : CellTree) → Contains (one ∷ []) cell → one ≡ cell
only one cell (zero, h, e) = e
only one cell (suc i, h, e) = absurd (omega (arith, h))

makes-one : (before after : List CellTree) (cell : CellTree) → IsAtMost before after cell → Makes before after (cell ∷ [])
makes-one before after cell (inl e) = ([], e ∙ sym (append-nil before), none-within (cell ∷ []))
makes-one before after cell (inr e) = (cell ∷ [], e, λ c h. h)

length-one : (before after : List CellTree) (cell : CellTree) → IsAtMost before after cell → length after ≤ length before + 1
length-one before after cell (inl e) = omega (arith, ap length e)
length-one before after cell (inr e) = omega (arith, ap length e, length-append before (cell ∷ []))

one-made : (before after rows : List CellTree) (cell : CellTree) → after ≡ before ++ rows → IsWithin rows (cell ∷ []) → length after ≤ length before + 1 → IsAtMost before after cell
one-made before after [] cell e w h = inl (e ∙ append-nil before)
one-made before after (row ∷ []) cell e w h = inr (e ∙ ap (λ (c : CellTree). before ++ c ∷ []) (sym (only cell row (w row (0, omega arith, refl)))))
one-made before after (row ∷ other ∷ rows) cell e w h = absurd (omega (arith, h, ap length e, length-append before (row ∷ other ∷ rows)))

-- a call that puts a cell makes at most its row
pub puts-made : (s t : Standing) (cell : CellTree) (answer : Result Handle Full) → Puts s t cell answer → IsAtMost s.made t.made cell
puts-made s t cell answer p = let made = p.adds.gains.made in one-made s.made t.made made.0 cell made.1 made.2 p.once

-- what a call that puts a cell shows, where no rows come from a pool
pub adds-one : (s t : Standing) (cell : CellTree) → Lasts s t → IsAtMost s.made t.made cell → t.drawn ≡ s.drawn → t.memo ≡ s.memo → t.missed ≡ s.missed → Adds s t (cell ∷ [])
adds-one s t cell lasts made drawn memo missed = record { gains = record { lasts = lasts; made = makes-one s.made t.made cell made; drawn = inl drawn }; memo = memo; missed = missed }

pub once-made : (s t : Standing) (cell : CellTree) → IsAtMost s.made t.made cell → length t.made ≤ length s.made + 1
once-made s t cell made = length-one s.made t.made cell made
