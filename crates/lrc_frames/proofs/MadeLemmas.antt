-- Lists of cells that are made from the last item to the first, and the cells that values hold.
use lib.IntN.{pos}
use Rattle.std.proofs.Common.{◌≡◌, ℕ, zero, suc, ◌+◌, ◌-◌, ◌<◌, List, [], ◌∷◌, length, map, drop, get_or, refl, sym, ◌∙◌, ap, subst, arith, drop-cons, Some}
use Rattle.std.specs.Prelude.{Result, Ok, Err, IsErr, slice_get}
use Rattle.std.specs.Option.{option_map}
use Rattle.std.proofs.lemmas.Option.{slice_get-map, slice_get-get_or, slice_get_read, get_or_from_slice_get, slice_get_within}
use Rattle.lrc_meaning.specs.Tree.{Tree, int, bool}
use Rattle.lrc_store.specs.Cells.{CellTree, nil, parts, IsWithin}
use Rattle.lrc_store.specs.Standing.{Standing, Stands, IsSound, meant}
use Rattle.lrc_store.specs.Words.{Keeps, Adds, Tells}
use Rattle.lrc_store.specs.declared.cells.Handle.{Handle}
use Rattle.lrc_store.specs.declared.stores.Full.{Full}
use Rattle.lrc_store.proofs.Known.{stands-known, stands-meant}
use Rattle.lrc_store.proofs.Lasting.{adds-same}
use Rattle.lrc_code.specs.Forms.{more_cell, list_cell, tree_cell}
use Rattle.lrc_code.specs.Building.{Builds}
use Rattle.lrc_code.proofs.Growing.{left-within, right-within, builds-as, builds-then, builds-stopped, linked, adds-behind, more-stopped, tells-as}
use Rattle.lrc_eval.specs.declared.values.Val.{Val}
use Rattle.lrc_eval.specs.declared.values.Val.TheVariants as v
use Rattle.lrc_eval.specs.Values.{Means}
use Rattle.lrc_eval.proofs.ValueLemmas.{known-told}
use Rattle.lrc_frames.specs.Writing.{HoldsCell, HoldsAt, AreHeld, AreHeldEach}

-- ---- the cells that values hold

-- what a handle holds is in the store
pub handle-builds : (s : Standing) (value : Val) (handle : Handle) (cell : CellTree) → value ≡ v.Ref handle → IsSound s → HoldsCell s value cell → Builds s s cell (Ok handle)
handle-builds s value handle cell e sound holds =
    let stands : Stands s handle.0 cell = subst (λ (x : Val). HoldsCell s x cell) e holds in
    record {
      adds = adds-same s (parts cell);
      ok = tells-as s handle.0 (meant s handle.0) cell (stands-meant s handle.0 cell stands) (known-told s handle.0 sound (stands-known s handle.0 cell stands));
      full = tt;
    }

-- a value that is no handle holds the cell of the leaf that it means
pub leaf-held : (s : Standing) (value : Val) (cell : CellTree) → ((handle : Handle) → value ≡ v.Ref handle → ⊥) → HoldsCell s value cell → (t : Tree) × Means s value t × (tree_cell t ≡ cell)
leaf-held s (v.Int n) cell no-handle holds = (int n, refl, sym holds)
leaf-held s (v.Bool b) cell no-handle holds = (bool b, refl, sym holds)
leaf-held s (v.Ref handle) cell no-handle holds = absurd (no-handle handle refl)
leaf-held s v.Unset cell no-handle holds = absurd holds

holds-lasts : (s t : Standing) (value : Val) (cell : CellTree) → Keeps s t → HoldsCell s value cell → HoldsCell t value cell
holds-lasts s t (v.Int n) cell k h = h
holds-lasts s t (v.Bool b) cell k h = h
holds-lasts s t (v.Ref handle) cell k h = k handle.0 cell h
holds-lasts s t v.Unset cell k h = h

at-lasts : (s t : Standing) (frame : List Val) (n : ℕ) (cell : CellTree) → Keeps s t → HoldsAt s frame n cell → HoldsAt t frame n cell
at-lasts s t frame n cell k h = record { value = h.value; there = h.there; holds = holds-lasts s t h.value cell k h.holds }

pub held-lasts : (s t : Standing) (frame : List Val) (numbers : List ℕ) (cells : List CellTree) → Keeps s t → AreHeld s frame numbers cells → AreHeld t frame numbers cells
held-lasts s t frame numbers cells k h = record { count = h.count; each = λ i n cell e f. at-lasts s t frame n cell k (h.each i n cell e f) }

pub each-lasts : (s t : Standing) (frame : List Val) (lists : List (List ℕ)) (rows : List (List CellTree)) → Keeps s t → AreHeldEach s frame lists rows → AreHeldEach t frame lists rows
each-lasts s t frame lists rows k h = record { count = h.count; each = λ i numbers cells e f. held-lasts s t frame numbers cells k (h.each i numbers cells e f) }

-- what stands at the number of this place, later
pub record HeldItem (s : Standing) (frame : List Val) (n : ℕ) (cells : List CellTree) (i : ℕ) : Type 0 where
  pub cell : CellTree
  pub at : slice_get cells i ≡ Some cell
  pub within : n < length frame
  pub holds : HoldsCell s (get_or frame n (v.Int (pos 0))) cell

held-item : (s t : Standing) (frame : List Val) (numbers : List ℕ) (cells : List CellTree) (i : ℕ) → Keeps s t → AreHeld s frame numbers cells → i < length numbers → HeldItem t frame (get_or numbers i 0) cells i
held-item s t frame numbers cells i k h less =
    let inside : i < length cells = omega (arith, h.count) in
    let at = slice_get-get_or cells i nil inside in
    let there = h.each i (get_or numbers i 0) (get_or cells i nil) (slice_get-get_or numbers i 0 less) at in
    record {
      cell = get_or cells i nil;
      at = at;
      within = slice_get_within frame (get_or numbers i 0) there.value there.there;
      holds = subst (λ (x : Val). HoldsCell t x (get_or cells i nil)) (sym (get_or_from_slice_get frame (get_or numbers i 0) there.value (v.Int (pos 0)) there.there)) (holds-lasts s t there.value (get_or cells i nil) k there.holds);
    }

-- the list of what stands at this list of numbers, later
pub record HeldList (s : Standing) (frame : List Val) (numbers : List ℕ) (rows : List (List CellTree)) (i : ℕ) : Type 0 where
  pub cells : List CellTree
  pub at : slice_get (map list_cell rows) i ≡ Some (list_cell cells)
  pub held : AreHeld s frame numbers cells

held-list : (s t : Standing) (frame : List Val) (lists : List (List ℕ)) (rows : List (List CellTree)) (i : ℕ) (list read : List ℕ) → Keeps s t → AreHeldEach s frame lists rows →
    i < length lists → list ≡ get_or lists i list → read ≡ list → HeldList t frame read rows i
held-list s t frame lists rows i list read k h less is same =
    let inside : i < length rows = omega (arith, h.count) in
    let at = slice_get-get_or rows i [] inside in
    let there : slice_get lists i ≡ Some list = slice_get_read lists (length lists) i list refl less is in
    record {
      cells = get_or rows i [];
      at = slice_get-map list_cell rows i ∙ ap (option_map list_cell) at;
      held = subst (λ (ns : List ℕ). AreHeld t frame ns (get_or rows i [])) (sym same) (held-lasts s t frame list (get_or rows i []) k (h.each i list (get_or rows i []) there at));
    }

-- ---- a list, item by item

within-list : (k : ℕ) (cells : List CellTree) → IsWithin (parts (list_cell (drop k cells))) (parts (list_cell cells))
within-list zero cells part h = h
within-list (suc k) [] part h = h
within-list (suc k) (c ∷ cells) part h = right-within 4 c (list_cell cells) part (within-list k cells part h)

-- the item that stands before the last ones
next-item : (cells : List CellTree) (n done : ℕ) (c : CellTree) → n ≡ length cells → done < n → slice_get cells (n - 1 - done) ≡ Some c →
    list_cell (drop (n - (done + 1)) cells) ≡ more_cell c (list_cell (drop (n - done) cells))
next-item cells n done c all h e =
    let place : n - (done + 1) ≡ n - 1 - done = omega arith in
    let behind : suc (n - 1 - done) ≡ n - done = omega arith in
    let within : n - 1 - done < length cells = omega arith in
    ap (λ k. list_cell (drop k cells)) place
    ∙ ap list_cell (drop-cons cells (n - 1 - done) c within)
    ∙ ap (λ x. more_cell x (list_cell (drop (suc (n - 1 - done)) cells))) (get_or_from_slice_get cells (n - 1 - done) c c e)
    ∙ ap (λ k. more_cell c (list_cell (drop k cells))) behind

-- So many of a list's n items were put, the last ones: the handle stands for the list of them.
pub record IsMade (o s : Standing) (list : ℕ) (cells : List CellTree) (n done : ℕ) : Type 0 where
  pub all : n ≡ length cells
  pub adds : Adds o s (parts (list_cell cells))
  pub tells : Tells s list (list_cell (drop (n - done) cells))

-- what stands at the number of the next item
pub next-held : (o s : Standing) (frame : List Val) (numbers : List ℕ) (cells : List CellTree) (list done : ℕ) → IsMade o s list cells (length numbers) done → AreHeld o frame numbers cells → done < length numbers →
    HeldItem s frame (get_or numbers (length numbers - 1 - done) 0) cells (length numbers - 1 - done)
next-held o s frame numbers cells list done made held h =
    held-item o s frame numbers cells (length numbers - 1 - done) made.adds.gains.lasts.known held (omega (arith, h))

-- what stands at the next list of numbers
pub next-list : (o s : Standing) (frame : List Val) (lists : List (List ℕ)) (rows : List (List CellTree)) (list done : ℕ) (numbers read : List ℕ) → IsMade o s list (map list_cell rows) (length lists) done →
    AreHeldEach o frame lists rows → done < length lists → numbers ≡ get_or lists (length lists - 1 - done) numbers → read ≡ numbers → HeldList s frame read rows (length lists - 1 - done)
next-list o s frame lists rows list done numbers read made held h is same =
    held-list o s frame lists rows (length lists - 1 - done) numbers read made.adds.gains.lasts.known held (omega (arith, h)) is same

-- the next item, of this cell
module _ (o s t : Standing) (list : Handle) (cells : List CellTree) (n done : ℕ) (c : CellTree) (made : IsMade o s list.0 cells n done) (h : done < n) (at : slice_get cells (n - 1 - done) ≡ Some c) where
  abbrev longer : CellTree
  longer = more_cell c (list_cell (drop (n - done) cells))

  longer-within : IsWithin (parts longer) (parts (list_cell cells))
  longer-within = subst (λ (x : CellTree). IsWithin (parts x) (parts (list_cell cells))) (next-item cells n done c made.all h at) (within-list (n - (done + 1)) cells)

  -- it can't be put
  pub item-stopped : (e : Full) (answer : Result Handle Full) → IsErr answer → Builds s t c (Err e) → Builds o t (list_cell cells) answer
  item-stopped e answer is b =
      more-stopped o s t c (list_cell cells) e answer (λ part k. longer-within part (left-within 4 c (list_cell (drop (n - done) cells)) part k)) made.adds is b

  module _ (u : Standing) (item : Handle) (b : Builds s t c (Ok item)) where
    -- the list with it can't be put
    pub list-stopped : (e : Full) (answer : Result Handle Full) → IsErr answer → Builds t u (more_cell (meant t item.0) (meant t list.0)) (Err e) → Builds o u (list_cell cells) answer
    list-stopped e answer is b2 =
        more-stopped o s u longer (list_cell cells) e answer longer-within made.adds is (linked s t u 4 item list.0 c (list_cell (drop (n - done) cells)) (Err e) made.tells.stands b b2)

    -- the list is put with it
    pub list-more : (more : Handle) → Builds t u (more_cell (meant t item.0) (meant t list.0)) (Ok more) → IsMade o u more.0 cells n (done + 1)
    list-more more b2 =
        let whole = linked s t u 4 item list.0 c (list_cell (drop (n - done) cells)) (Ok more) made.tells.stands b b2 in
        record {
          all = made.all;
          adds = adds-behind o s u longer (list_cell cells) (Ok more) longer-within made.adds whole;
          tells = tells-as u more.0 longer (list_cell (drop (n - (done + 1)) cells)) (sym (next-item cells n done c made.all h at)) whole.ok;
        }

-- ---- two cells that a whole is made of

module _ (one other whole : CellTree) (one-within : IsWithin (parts one) (parts whole)) (other-within : IsWithin (parts other) (parts whole)) where
  pub one-stopped : (s t : Standing) (e : Full) (answer : Result Handle Full) → IsErr answer → Builds s t one (Err e) → Builds s t whole answer
  one-stopped s t e answer is first = builds-stopped s t one whole e answer one-within is first

  pub other-stopped : (s t u : Standing) (a : Handle) (e : Full) (answer : Result Handle Full) → IsErr answer → Builds s t one (Ok a) → Builds t u other (Err e) → Builds s u whole answer
  other-stopped s t u a e answer is first second =
      builds-then s t u one whole answer one-within first.adds (builds-stopped t u other whole e answer other-within is second)

  -- the whole over both, once they are in the store
  pub both-built : (s t u w : Standing) (a b : Handle) (joined : CellTree → CellTree → CellTree) (answer : Result Handle Full) → joined one other ≡ whole → Builds s t one (Ok a) → Builds t u other (Ok b)
      → Builds u w (joined (meant u a.0) (meant u b.0)) answer → Builds s w whole answer
  both-built s t u w a b joined answer is first second third =
      let left : meant u a.0 ≡ one = stands-meant u a.0 one (second.adds.gains.lasts.known a.0 one first.ok.stands) in
      let right : meant u b.0 ≡ other = stands-meant u b.0 other second.ok.stands in
      let same : joined (meant u a.0) (meant u b.0) ≡ whole = ap (λ c. joined c (meant u b.0)) left ∙ ap (joined one) right ∙ is in
      builds-then s t w one whole answer one-within first.adds
      (builds-then t u w other whole answer other-within second.adds (builds-as u w (joined (meant u a.0) (meant u b.0)) whole answer same third))
