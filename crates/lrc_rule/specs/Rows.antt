-- What the words of a table say: rows that are published, the cells that handles stand for, and what is always true of the words.
use Rattle.std.specs.Prelude.{ℕ, zero, suc, ℤ, ◌≡◌, ◌≢◌, ◌+◌, ◌<◌, ◌≤◌, min, max, List, length, slice_index}
use Rattle.std.specs.Int.{cast_unsigned, cast_signed, w64}
use Rattle.lrc_store.specs.Cells.{CellTree, nil, number, pair}
use Rattle.lrc_rule.specs.declared.layout.Content.{Content}
use Rattle.lrc_rule.specs.declared.layout.Layout.{Layout}
use Rattle.lrc_rule.specs.Layout.{HasRoom, bucket_at, part_at}
use Rattle.lrc_rule.specs.Home.{place_on}

abbrev pub bucket : Layout → List ℕ → ℕ → ℕ
bucket l words place = slice_index words (bucket_at l place)

abbrev pub part : Layout → List ℕ → ℕ → ℕ → ℕ
part l words row k = slice_index words (part_at l row k)

-- the first three words of a row
abbrev pub content : Layout → List ℕ → ℕ → Content
content l words row = record { tag = part l words row 0; left = part l words row 1; right = part l words row 2 }

-- the bucket at the place is full, and names the row
abbrev pub Names : Layout → List ℕ → ℕ → ℕ → Type 0
Names l words place row = (place < l.buckets) × (bucket l words place ≡ suc row)

-- some bucket names the row
abbrev pub IsPublished : Layout → List ℕ → ℕ → Type 0
IsPublished l words row = (place : ℕ) × Names l words place row

-- how many of the first buckets are full
abbrev pub full_below : Layout → List ℕ → ℕ → ℕ
full_below l words zero = 0
full_below l words (suc place) = full_below l words place + min 1 (bucket l words place)

-- how many buckets are full
abbrev pub full_buckets : Layout → List ℕ → ℕ
full_buckets l words = full_below l words l.buckets

-- how many cells lie on the longest way into a cell, where nil counts none
abbrev pub depth : CellTree → ℕ
depth nil = 0
depth (number n) = 1
depth (pair tag left right) = suc (max (depth left) (depth right))

-- the three words are those of the number, which has 64 bits
abbrev pub IsNumber : ℤ → Content → Type 0
IsNumber n c = (c ≡ record { tag = 0; left = cast_unsigned w64 n; right = 0 }) × (cast_signed w64 (cast_unsigned w64 n) ≡ n)

-- the three words are a tag, which is not 0, and two handles with these properties
abbrev pub IsPair : ℕ → (ℕ → Type 0) → (ℕ → Type 0) → Content → Type 0
IsPair tag left right c = (c.tag ≡ tag) × left c.left × right c.right × (1 ≤ tag) × (tag ≤ 65535)

-- the handle is 1 more than a published row with this depth whose first three words have the property
pub record IsRow (l : Layout) (words : List ℕ) (fits : Content → Type 0) (deep handle : ℕ) : Type 0 where
  pub row : ℕ
  pub named : handle ≡ suc row
  pub published : IsPublished l words row
  pub fit : fits (content l words row)
  pub deep_as : part l words row 3 ≡ deep

-- the handle stands for the cell: it is 0 for nil, and else that of a published row which holds the cell
abbrev pub Stands : Layout → List ℕ → CellTree → ℕ → Type 0
Stands l words nil handle = handle ≡ 0
Stands l words (number n) handle = IsRow l words (IsNumber n) (depth (number n)) handle
Stands l words (pair tag left right) handle = IsRow l words (IsPair tag (Stands l words left) (Stands l words right)) (depth (pair tag left right)) handle

-- the three words are those of a row for the cell, which is not nil
abbrev pub Fits : Layout → List ℕ → CellTree → Content → Type 0
Fits l words nil c = ⊥
Fits l words (number n) c = IsNumber n c
Fits l words (pair tag left right) c = IsPair tag (Stands l words left) (Stands l words right) c

-- no handle stands for the cell
abbrev pub IsAbsent : Layout → List ℕ → CellTree → Type 0
IsAbsent l words cell = (handle : ℕ) → ¬ Stands l words cell handle

-- the bucket at the place is full, and its row holds another content
abbrev pub IsOther : Layout → List ℕ → Content → ℕ → Type 0
IsOther l words c place = (row : ℕ) × Names l words place row × (content l words row ≢ c)

-- so are all of the first places on the way from the home of the content
abbrev pub IsPassed : Layout → List ℕ → Content → ℕ → Type 0
IsPassed l words c steps = (i : ℕ) → i < steps → IsOther l words c (place_on l c i)

-- What is true of the words between any two steps.
--   whole      there are as many words as the layout says
--   within     a bucket is 0, or names a row that there is
--   once       no row is named by two buckets
--   standing   a published row holds a cell whose sides are in published rows, with the cell's depth
--   reached    a published row is on the way from the home of its content, behind full buckets of other contents
pub record IsTable (l : Layout) (words : List ℕ) : Type 0 where
  pub whole : HasRoom l (length words)
  pub within : (place : ℕ) → place < l.buckets → bucket l words place ≤ l.rows
  pub once : (one other row : ℕ) → Names l words one row → Names l words other row → one ≡ other
  pub standing : (row : ℕ) → IsPublished l words row → (cell : CellTree) × Stands l words cell (suc row)
  pub reached : (place row : ℕ) → Names l words place row →
      (steps : ℕ) × (steps < l.buckets) × (place ≡ place_on l (content l words row) steps) × IsPassed l words (content l words row) steps

-- full buckets and published rows stay as they are
pub record Grows (l : Layout) (before after : List ℕ) : Type 0 where
  pub buckets : (place row : ℕ) → Names l before place row → Names l after place row
  pub parts : (row k : ℕ) → IsPublished l before row → k < 4 → part l after row k ≡ part l before row k
