-- The parts of a cell hold with each cell its parts, and leave out nil; and so do the cells of what was met.
use Rattle.std.proofs.Common.{List, [], ◌++◌, Contains, inl, inr, sym, subst}
use Rattle.std.proofs.lemmas.List.Elements.{Contains-append_left, Contains-append_right, Contains-append_cases}
use Rattle.lrc_visit_meaning.specs.Demand.{Met}
use Rattle.lrc_store.specs.Cells.{CellTree, nil, number, pair, parts, IsClosed}
use Rattle.lrc_order_meaning.proofs.MemberLemmas.{member_later, member_cases, no_member, member_flat, member_of_flat}
use Rattle.lrc_call_meaning.specs.Reached.{met_cell, cells_of}

pub parts_closed : (cell : CellTree) → IsClosed (parts cell)
parts_closed nil part c x d = absurd (no_member part c)
parts_closed (number n) part c x d =
    elim (member_cases (number n) [] part c) [
      | inl e ↦ subst (λ y. Contains (parts y) x) (sym e) d
      | inr later ↦ absurd (no_member part later)
    ]
parts_closed (pair tag left right) part c x d =
    elim (member_cases (pair tag left right) (parts left ++ parts right) part c) [
      | inl e ↦ subst (λ y. Contains (parts y) x) (sym e) d
      | inr later ↦
          member_later (pair tag left right) (parts left ++ parts right) x
          (elim (Contains-append_cases (parts left) (parts right) part later) [
            | inl l ↦ Contains-append_left (parts left) (parts right) x (parts_closed left part l x d)
            | inr r ↦ Contains-append_right (parts left) (parts right) x (parts_closed right part r x d)
          ])
    ]

no_nil : (cell : CellTree) → ¬ Contains (parts cell) nil
no_nil nil c = no_member nil c
no_nil (number n) c =
    elim (member_cases (number n) [] nil c) [ inl e ↦ cc | inr later ↦ no_member nil later ]
no_nil (pair tag left right) c =
    elim (member_cases (pair tag left right) (parts left ++ parts right) nil c) [
      | inl e ↦ cc
      | inr later ↦ elim (Contains-append_cases (parts left) (parts right) nil later) [ inl l ↦ no_nil left l | inr r ↦ no_nil right r ]
    ]

-- what was met has the parts of its cell among the cells
pub met_parts : (ms : List Met) (m : Met) (x : CellTree) → Contains ms m → Contains (parts (met_cell m)) x → Contains (cells_of ms) x
unfolding cells_of
met_parts ms m x c d = member_flat (λ m. parts (met_cell m)) ms m x c d

-- and they have no others
pub of_met : (ms : List Met) (x : CellTree) → Contains (cells_of ms) x → (m : Met) × Contains ms m × Contains (parts (met_cell m)) x
unfolding cells_of
of_met ms x c = member_of_flat (λ m. parts (met_cell m)) ms x c

pub cells_closed : (ms : List Met) → IsClosed (cells_of ms)
cells_closed ms part c x d =
    let r = of_met ms part c in met_parts ms r.0 x r.1 (parts_closed (met_cell r.0) part r.2 x d)

pub cells_without_nil : (ms : List Met) → ¬ Contains (cells_of ms) nil
cells_without_nil ms c = let r = of_met ms nil c in no_nil (met_cell r.0) r.2
