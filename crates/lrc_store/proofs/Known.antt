-- Known handles, and the cells that they stand for.
use Rattle.std.proofs.Common.{◌≡◌, ℕ, refl, sym, ap, subst, Option, Some, None, IsSome}
use Rattle.std.specs.Prelude.{unwrap_or}
use Rattle.lrc_store.specs.Cells.{CellTree, nil}
use Rattle.lrc_store.specs.Standing.{Standing, Stands, IsKnown, meant}
use Rattle.lrc_store.specs.Words.{Keeps}

-- what is there is its own value
pub some_meant : (o : Option CellTree) → IsSome o → o ≡ Some (unwrap_or o nil)
some_meant None h = cc
some_meant (Some c) h = refl

pub is_some_from : (o : Option CellTree) (c : CellTree) → o ≡ Some c → IsSome o
is_some_from o c e = subst IsSome (sym e) refl

-- a known handle stands for its cell
pub known-stands : (s : Standing) (handle : ℕ) → IsKnown s handle → Stands s handle (meant s handle)
known-stands s handle h = some_meant (s.known handle) h

pub stands-known : (s : Standing) (handle : ℕ) (c : CellTree) → Stands s handle c → IsKnown s handle
stands-known s handle c h = is_some_from (s.known handle) c h

pub stands-meant : (s : Standing) (handle : ℕ) (c : CellTree) → Stands s handle c → meant s handle ≡ c
stands-meant s handle c h = ap (λ (o : Option CellTree). unwrap_or o nil) h

-- a known handle stands for the same cell later
pub kept-meant : (s t : Standing) (handle : ℕ) → Keeps s t → IsKnown s handle → meant t handle ≡ meant s handle
kept-meant s t handle k h = stands-meant t handle (meant s handle) (k handle (meant s handle) (known-stands s handle h))
