-- One item of a flat term is put: what the stack holds, what the cell is made over, and what the stack tells then.
use Rattle.std.proofs.Common.{◌≡◌, ℕ, ◌+◌, ◌-◌, ◌<◌, ◌≤◌, List, [], ◌∷◌, ◌++◌, length, get_or, sym, ◌∙◌, ap, subst, arith}
use Rattle.std.specs.Prelude.{Result, Ok, Err, IsErr}
use Rattle.std.proofs.lemmas.List.{length-take, length-append}
use Rattle.lrc_base.specs.declared.item.TermItem.{TermItem}
use Rattle.lrc_base.specs.declared.item.TermItem.TheVariants as i
use Rattle.lrc_base.specs.Terms.{wanted, Fits}
use Rattle.lrc_base.proofs.ItemLemmas.{wanted_at}
use Rattle.lrc_store.specs.Cells.{CellTree, nil, parts, IsWithin}
use Rattle.lrc_store.specs.Standing.{Standing, meant}
use Rattle.lrc_store.specs.declared.cells.Handle.{Handle}
use Rattle.lrc_store.specs.declared.stores.Full.{Full}
use Rattle.lrc_store.proofs.Known.{stands-meant}
use Rattle.lrc_code.specs.Forms.{list_cell, node_cell, item_cell}
use Rattle.lrc_code.specs.Stack.{last_of, all_but, meant_each}
use Rattle.lrc_code.specs.Building.{Builds}
use Rattle.lrc_code.proofs.Growing.{left-within, builds-then, builds-stopped, builds-as}
use Rattle.lrc_code.proofs.StackLemmas.{AreTold, told-length, told-meant, told-next}
use Rattle.lrc_code.proofs.FlatLemmas.{AreParts, trees_at, cells_at, cells-next, length-cells, room-for}

-- ---- a node over the list of its children

over-list : (item : TermItem) (p n : ℕ) (cells : List CellTree) → item ≡ i.Node p n → node_cell p (list_cell (last_of n cells)) ≡ item_cell item cells
over-list item p n cells e = ap (λ (x : TermItem). item_cell x cells) (sym e)

list-within : (item : TermItem) (p n : ℕ) (cells : List CellTree) → item ≡ i.Node p n → IsWithin (parts (list_cell (last_of n cells))) (parts (item_cell item cells))
list-within item p n cells e =
    let kids = list_cell (last_of n cells) in
    subst (λ (cell : CellTree). IsWithin (parts kids) (parts cell)) (over-list item p n cells e) (left-within (256 + p) kids nil)

pub node-stopped : (s t : Standing) (item : TermItem) (p n : ℕ) (cells : List CellTree) (e : Full) (answer : Result Handle Full) → item ≡ i.Node p n → IsErr answer →
    Builds s t (list_cell (last_of n cells)) (Err e) → Builds s t (item_cell item cells) answer
node-stopped s t item p n cells e answer is h b = builds-stopped s t (list_cell (last_of n cells)) (item_cell item cells) e answer (list-within item p n cells is) h b

pub node-over : (s t u : Standing) (item : TermItem) (p n : ℕ) (cells : List CellTree) (kids : Handle) (answer : Result Handle Full) → item ≡ i.Node p n →
    Builds s t (list_cell (last_of n cells)) (Ok kids) → Builds t u (node_cell p (meant t kids.0)) answer → Builds s u (item_cell item cells) answer
node-over s t u item p n cells kids answer is b d =
    let list = list_cell (last_of n cells) in
    builds-then s t u list (item_cell item cells) answer (list-within item p n cells is) b.adds
    (builds-as t u (node_cell p (meant t kids.0)) (item_cell item cells) answer (ap (node_cell p) (stands-meant t kids.0 list b.ok.stands) ∙ over-list item p n cells is) d)

-- ---- a turn

module _ (s : Standing) (items : List TermItem) (k : ℕ) (item : TermItem) (held : List Handle) (there : k < length items) (is : item ≡ get_or items k item) (told : AreTold s held (cells_at items k)) where
  pub enough-held : Fits items → wanted item ≤ length held
  enough-held fits =
      let found = wanted_at items k item fits there is in
      let many = length-cells items k in
      let same = told-length s held (cells_at items k) told in
      omega (arith, found, many, same)

  -- there is room for the handle of the item
  pub room-to-push : (whole : CellTree) (room : ℕ) (next : List Handle) → AreParts whole room (trees_at items (k + 1)) → next ≡ all_but (wanted item) held → length next < room
  room-to-push whole room next are e =
      let cells = cells_at items k in
      let most = room-for whole room items (k + 1) are in
      let one = ap length (cells-next items k item there is) ∙ length-append (all_but (wanted item) cells) (item_cell item cells ∷ []) in
      let fewer = length-take (length cells - wanted item) cells in
      let left = ap length e ∙ length-take (length held - wanted item) held in
      let same = told-length s held cells told in
      omega (arith, most, one, fewer, left, same)

  -- the cell that is built is that of the item over the cells that are told
  pub as-told : (t : Standing) (answer : Result Handle Full) → Builds s t (item_cell item (meant_each s held)) answer → Builds s t (item_cell item (cells_at items k)) answer
  as-told t answer b = builds-as s t (item_cell item (meant_each s held)) (item_cell item (cells_at items k)) answer (ap (item_cell item) (told-meant s held (cells_at items k) told)) b

  -- the stack tells the next cells then
  pub told-then : (t : Standing) (next pushed : List Handle) (handle : Handle) → Builds s t (item_cell item (cells_at items k)) (Ok handle) → next ≡ all_but (wanted item) held → pushed ≡ next ++ handle ∷ [] →
      AreTold t pushed (cells_at items (k + 1))
  told-then t next pushed handle b e f =
      let cells = cells_at items k in
      subst (λ (cs : List CellTree). AreTold t pushed cs) (sym (cells-next items k item there is))
      (told-next s t (wanted item) held pushed cells handle (item_cell item cells) b.adds.gains.lasts told b.ok (f ∙ ap (λ (hs : List Handle). hs ++ handle ∷ []) e))
