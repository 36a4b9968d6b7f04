-- The trees that the items of a flat term make as it is written: none, one item more, and the item at a place.
use Rattle.std.proofs.Common.{◌≡◌, ℕ, ◌+◌, ◌-◌, ◌<◌, ◌≤◌, List, [], ◌∷◌, ◌++◌, length, take, get_or, refl, sym, ap, ◌∙◌, subst, arith}
use Rattle.std.proofs.lemmas.Grind.{common_steps}
use Rattle.lrc_base.specs.declared.raw_term.RawTermTree.{RawTermTree}
use Rattle.lrc_base.specs.declared.raw_term.RawTermTree.TheVariants as t
use Rattle.lrc_base.specs.declared.item.RawTermItem.{RawTermItem}
use Rattle.lrc_base.specs.declared.item.RawTermItem.TheVariants as i
use Rattle.lrc_base.specs.RawTerms.{raw_forest, RawFits, raw_grown, raw_wanted}
use Rattle.lrc_base.specs.RawFlat.{HasWaiting}
use Rattle.lrc_base.proofs.ForestLemmas.{grow_snoc, fit_snoc, fit_at, grow_next, grow_all, length_joined}

pub raw_forest_none : raw_forest [] ≡ []
unfolding raw_forest
raw_forest_none = refl

pub raw_forest_snoc : (is : List RawTermItem) (i : RawTermItem) → raw_forest (is ++ i ∷ []) ≡ raw_grown (raw_forest is) i
unfolding raw_forest
raw_forest_snoc is i = grow_snoc raw_wanted raw_grown [] is i

pub raw_fits_none : RawFits []
unfolding RawFits
raw_fits_none = tt

pub raw_fits_snoc : (is : List RawTermItem) (i : RawTermItem) → RawFits is → raw_wanted i ≤ length (raw_forest is) → RawFits (is ++ i ∷ [])
unfolding RawFits raw_forest
raw_fits_snoc is i f h = fit_snoc raw_wanted raw_grown [] is i f h

-- the item at a place finds as many trees as it takes
pub raw_wanted_at : (is : List RawTermItem) (k : ℕ) (i : RawTermItem) → RawFits is → k < length is → i ≡ get_or is k i →
    raw_wanted i ≤ length (raw_forest (take k is))
unfolding RawFits raw_forest
raw_wanted_at is k i f h e = fit_at raw_wanted raw_grown [] is k i f h e

-- the trees behind it
pub raw_forest_next : (is : List RawTermItem) (k : ℕ) (i : RawTermItem) → k < length is → i ≡ get_or is k i →
    raw_forest (take (k + 1) is) ≡ raw_grown (raw_forest (take k is)) i
unfolding raw_forest
raw_forest_next is k i h e = grow_next raw_wanted raw_grown [] is k i h e

-- the trees behind all items
pub raw_forest_all : (is : List RawTermItem) (k : ℕ) → length is ≤ k → raw_forest (take k is) ≡ raw_forest is
unfolding raw_forest
raw_forest_all is k h = grow_all raw_wanted raw_grown [] is k h

-- how many trees there are with one item more
pub length_raw_grown : (ts : List RawTermTree) (item : RawTermItem) → raw_wanted item ≤ length ts → length (raw_grown ts item) ≡ length ts - raw_wanted item + 1
length_raw_grown ts (i.Int x) h = grind (arith, common_steps)
length_raw_grown ts (i.Bool b) h = grind (arith, common_steps)
length_raw_grown ts (i.Name n) h = grind (arith, common_steps)
length_raw_grown ts (i.Node p n) h = length_joined (t.Node p) n ts h

pub no_waiting : (is : List RawTermItem) → is ≡ [] → HasWaiting is 0
no_waiting is e = record {
  fits = subst RawFits (sym e) raw_fits_none;
  waiting = ap length (sym (ap raw_forest e ∙ raw_forest_none));
}

pub waiting_more : (is more : List RawTermItem) (item : RawTermItem) (n w : ℕ) → HasWaiting is n → w ≡ raw_wanted item → w ≤ n → more ≡ is ++ item ∷ [] →
    HasWaiting more (n - w + 1)
waiting_more is more item n w has same h e =
    let room : raw_wanted item ≤ length (raw_forest is) = rw (← same, ← has.waiting) h in
    record {
      fits = subst RawFits (sym e) (raw_fits_snoc is item has.fits room);
      waiting = (ap (λ m. m - w + 1) has.waiting ∙ ap (λ m. length (raw_forest is) - m + 1) same) ∙ sym (length_raw_grown (raw_forest is) item room) ∙ ap length (sym (ap raw_forest e ∙ raw_forest_snoc is item));
    }
