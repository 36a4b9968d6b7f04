-- The trees that the items of a flat term make: none, one item more, and the item at a place.
use Rattle.std.proofs.Common.{◌≡◌, ℕ, ◌+◌, ◌-◌, ◌<◌, ◌≤◌, List, [], ◌∷◌, ◌++◌, length, map, take, get_or, refl, sym, ap, ◌∙◌, subst}
use Rattle.std.proofs.lemmas.List.{length-map}
use Rattle.lrc_base.specs.declared.term.TermTree.{TermTree}
use Rattle.lrc_base.specs.declared.item.TermItem.{TermItem}
use Rattle.lrc_base.specs.Terms.{forest, Fits, grown, wanted, higher, height_of}
use Rattle.lrc_base.specs.Flat.{HasHeights}
use Rattle.lrc_base.proofs.ForestLemmas.{grow_snoc, fit_snoc, fit_at, grow_next, grow_all}
use Rattle.lrc_base.proofs.HeightLemmas.{heights_grown}

pub forest_none : forest [] ≡ []
unfolding forest
forest_none = refl

pub forest_snoc : (is : List TermItem) (i : TermItem) → forest (is ++ i ∷ []) ≡ grown (forest is) i
unfolding forest
forest_snoc is i = grow_snoc wanted grown [] is i

pub fits_none : Fits []
unfolding Fits
fits_none = tt

pub fits_snoc : (is : List TermItem) (i : TermItem) → Fits is → wanted i ≤ length (forest is) → Fits (is ++ i ∷ [])
unfolding Fits forest
fits_snoc is i f h = fit_snoc wanted grown [] is i f h

-- the item at a place finds as many trees as it takes
pub wanted_at : (is : List TermItem) (k : ℕ) (i : TermItem) → Fits is → k < length is → i ≡ get_or is k i → wanted i ≤ length (forest (take k is))
unfolding Fits forest
wanted_at is k i f h e = fit_at wanted grown [] is k i f h e

-- the trees behind it
pub forest_next : (is : List TermItem) (k : ℕ) (i : TermItem) → k < length is → i ≡ get_or is k i → forest (take (k + 1) is) ≡ grown (forest (take k is)) i
unfolding forest
forest_next is k i h e = grow_next wanted grown [] is k i h e

-- the trees behind all items
pub forest_all : (is : List TermItem) (k : ℕ) → length is ≤ k → forest (take k is) ≡ forest is
unfolding forest
forest_all is k h = grow_all wanted grown [] is k h

pub no_heights : (is : List TermItem) (hs : List ℕ) → is ≡ [] → hs ≡ [] → HasHeights is hs
no_heights is hs e f = record {
  fits = subst Fits (sym e) fits_none;
  heights = f ∙ ap (map height_of) (sym (ap forest e ∙ forest_none));
}

pub one_height_more : (is more : List TermItem) (i : TermItem) (hs next : List ℕ) → HasHeights is hs → wanted i ≤ length hs → more ≡ is ++ i ∷ [] → next ≡ higher i hs →
    HasHeights more next
one_height_more is more i hs next has h e f =
    let many : length hs ≡ length (forest is) = ap length has.heights ∙ length-map (forest is) height_of in
    record {
      fits = subst Fits (sym e) (fits_snoc is i has.fits (subst (λ n. wanted i ≤ n) many h));
      heights = f ∙ ap (higher i) has.heights ∙ sym (heights_grown (forest is) i) ∙ ap (map height_of) (sym (ap forest e ∙ forest_snoc is i));
    }
