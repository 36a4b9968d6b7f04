-- Reading lists item by item.
use Rattle.std.proofs.Common.{◌≡◌, ℕ, suc, ◌+◌, ◌<◌, ◌≤◌, List, length, drop, get_or, sym, ◌∙◌, ap, arith, Some, drop-cons}
use Rattle.std.proofs.lemmas.Option.{slice_get-get_or}
use Rattle.lrc_store.specs.Cells.{CellTree, nil, pair}
use Rattle.lrc_code.specs.Forms.{list_cell}
use Rattle.lrc_code.specs.Reading.{IsPair, HasItem}

-- the cell is the rest of a list behind so many items, and the list has an item of this number
abbrev pub IsBehind : CellTree → ℕ → ℕ → CellTree → Type 0
IsBehind cell passed i rest = (items : List CellTree) × (cell ≡ list_cell items) × (i < length items) × (rest ≡ list_cell (drop passed items))

first-behind : (items : List CellTree) (k : ℕ) → k < length items → list_cell (drop k items) ≡ pair 4 (get_or items k nil) (list_cell (drop (suc k) items))
first-behind items k h = ap list_cell (drop-cons items k nil h)

pub behind-pair : (cell : CellTree) (k i : ℕ) (rest : CellTree) → k ≤ i → IsBehind cell k i rest → IsPair rest
behind-pair cell k i rest h (items, e, l, f) = (4, get_or items k nil, list_cell (drop (suc k) items), f ∙ first-behind items k (omega arith))

right-same : (tag tag' : ℕ) (a b c d : CellTree) → pair tag a b ≡ pair tag' c d → b ≡ d
right-same tag tag' a b c d e = cc

left-same : (tag tag' : ℕ) (a b c d : CellTree) → pair tag a b ≡ pair tag' c d → a ≡ c
left-same tag tag' a b c d e = cc

pub behind-more : (cell : CellTree) (k i tag : ℕ) (rest left right : CellTree) → k < i → rest ≡ pair tag left right → IsBehind cell k i rest → IsBehind cell (k + 1) i right
behind-more cell k i tag rest left right h is (items, e, l, f) =
    let more : suc k ≡ k + 1 = omega arith in
    (items, e, l, right-same tag 4 left right _ _ (sym is ∙ f ∙ first-behind items k (omega arith)) ∙ ap (λ n. list_cell (drop n items)) more)

pub behind-item : (cell : CellTree) (i tag : ℕ) (rest left right : CellTree) → rest ≡ pair tag left right → IsBehind cell i i rest → HasItem cell i left
behind-item cell i tag rest left right is (items, e, l, f) =
    (items, e, slice_get-get_or items i nil l ∙ ap (λ c. Some c) (sym (left-same tag 4 left right _ _ (sym is ∙ f ∙ first-behind items i l))))
