-- Cells as plain data, and their parts.
use Rattle.std.specs.Prelude.{ℕ, ℤ, ◌≡◌, ◌⊎◌, List, [], ◌∷◌, ◌++◌, Option, Some, None, Contains, refl}
use Rattle.std.specs.Coded.{Coded, code_by, coded_ℕ, coded_ℤ, coded_list, coded_option, coded⊎}
use Rattle.std.proofs.Common.{inl, inr, ap, ◌∙◌}

-- nil, a number, or a pair of a tag with a left and a right cell
pub data CellTree : Type 0 where
  nil : CellTree
  number : ℤ → CellTree
  pair : ℕ → CellTree → CellTree → CellTree

-- the cell and all cells within it, nil left out
abbrev pub parts : CellTree → List CellTree
parts nil = []
parts (number n) = number n ∷ []
parts (pair tag left right) = pair tag left right ∷ (parts left ++ parts right)

-- each part of the cell is in the list
abbrev pub HoldsParts : List CellTree → CellTree → Type 0
HoldsParts cells cell = (part : CellTree) → Contains (parts cell) part → Contains cells part

-- with each of its cells, the list holds all parts of that cell
abbrev pub IsClosed : List CellTree → Type 0
IsClosed cells = (cell : CellTree) → Contains cells cell → HoldsParts cells cell

-- each cell of the first list is in the second
abbrev pub IsWithin : List CellTree → List CellTree → Type 0
IsWithin cells others = (cell : CellTree) → Contains cells cell → Contains others cell

-- a step of writing a cell down: nil, a number, or the pair of the last two cells
abbrev pub Step : Type 0
Step = Option (ℤ ⊎ ℕ)

-- the steps that make a cell, before others
abbrev pub steps : CellTree → List Step → List Step
steps nil rest = None ∷ rest
steps (number n) rest = Some (inl n) ∷ rest
steps (pair tag left right) rest = steps left (steps right (Some (inr tag) ∷ rest))

-- the first cell of a list, or nil
abbrev pub first : List CellTree → CellTree
first [] = nil
first (cell ∷ cells) = cell

-- the first two cells are paired
abbrev pub join : ℕ → List CellTree → List CellTree
join tag [] = []
join tag (right ∷ []) = []
join tag (right ∷ left ∷ cells) = pair tag left right ∷ cells

-- the cells that the steps make
abbrev pub made_by : List Step → List CellTree → List CellTree
made_by [] cells = cells
made_by (None ∷ rest) cells = made_by rest (nil ∷ cells)
made_by (Some (inl n) ∷ rest) cells = made_by rest (number n ∷ cells)
made_by (Some (inr tag) ∷ rest) cells = made_by rest (join tag cells)

-- the steps make the cell that they were written for
pub made_by-steps : (cell : CellTree) (rest : List Step) (cells : List CellTree) → made_by (steps cell rest) cells ≡ made_by rest (cell ∷ cells)
made_by-steps nil rest cells = refl
made_by-steps (number n) rest cells = refl
made_by-steps (pair tag left right) rest cells =
    made_by-steps left (steps right (Some (inr tag) ∷ rest)) cells ∙ made_by-steps right (Some (inr tag) ∷ rest) (left ∷ cells)

abbrev pub write : CellTree → List Step
write cell = steps cell []

abbrev pub read : List Step → CellTree
read list = first (made_by list [])

pub read-write : (cell : CellTree) → read (write cell) ≡ cell
read-write cell = ap first (made_by-steps cell [] [])

-- a cell is stored as the steps that make it
abbrev pub coded_cell : Coded CellTree
coded_cell = code_by (List Step) (coded_list (coded_option (coded⊎ coded_ℤ coded_ℕ))) write read read-write
