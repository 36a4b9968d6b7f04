-- A table and its passes, as callers see them.
use Rattle.std.specs.Prelude.{ℕ, suc, ◌≡◌, ◌⊎◌, ◌<◌, List, [], ◌∷◌, ◌++◌, length, replicate, Result, IfOk, OnErr, refl}
use Rattle.std.specs.Coded.{Coded, code_by, coded_ℕ, coded×}
use Rattle.atomic_table.specs.Seated.{TableId, table_id_coded}
use Rattle.lrc_store.specs.Cells.{CellTree}
use Rattle.lrc_store.specs.declared.cells.Handle.{Handle}
use Rattle.lrc_store.specs.declared.stores.Full.{Full}
use Rattle.lrc_table.specs.declared.probe.Claim.{Claim}
use Rattle.lrc_table.specs.declared.probe.Claim.TheVariants as claim
use Rattle.lrc_rule.specs.declared.layout.Layout.{Layout}
use Rattle.lrc_rule.specs.declared.layout.Content.{Content}
use Rattle.lrc_rule.specs.Layout.{IsLayout}
use Rattle.lrc_rule.specs.Home.{place_on}
use Rattle.lrc_rule.specs.Rows.{Stands, Fits, IsAbsent, IsPassed, IsOther, Names, Grows}
use Rattle.lrc_rule.specs.Views.{View, coded_view, now}
use Rattle.lrc_rule.specs.Steps.{IsCurrent, Follows, IsDraftOf}

-- which table it is, where its words lie, and what its memo words mean
pub record TableView (M : Type 0) : Type 0 where
  pub id : TableId
  pub layout : Layout
  pub meaning : M

-- the table of a pass, and what the pass has learned and owns
pub record PassView : Type 0 where
  pub table : TableId
  pub view : View

abbrev pub coded_table_view : {M : Type 0} → Coded M → Coded (TableView M)
coded_table_view {M} m =
    code_by (TableId × ((ℕ × (ℕ × ℕ)) × M)) (coded× table_id_coded (coded× (coded× coded_ℕ (coded× coded_ℕ coded_ℕ)) m))
    (λ t. (t.id, ((t.layout.buckets, (t.layout.rows, t.layout.memo)), t.meaning)))
    (λ p. record { id = p.0; layout = record { buckets = p.1.0.0; rows = p.1.0.1.0; memo = p.1.0.1.1 }; meaning = p.1.1 }) (λ _. refl)

abbrev pub coded_pass_view : Coded PassView
coded_pass_view = code_by (TableId × View) (coded× table_id_coded coded_view) (λ p. (p.table, p.view)) (λ p. record { table = p.0; view = p.1 }) (λ _. refl)

-- the numbers that tell a table from any other: where its words lie, and which table it is
abbrev pub identity : {M : Type 0} → TableView M → List ℕ
identity t = t.layout.buckets ∷ t.layout.rows ∷ t.layout.memo ∷ t.id.words ∷ t.id.slots ∷ t.id.views_name ∷ t.id.atom ∷ t.id.block ∷ t.id.offset ∷ t.id.slot_names

-- the pass is one of this table
abbrev pub IsOf : {M : Type 0} → PassView → TableView M → Type 0
IsOf p t = (p.table ≡ t.id) × (p.view.layout ≡ t.layout)

-- what is true of every pass: its counts are those of its view, and it carries no slot
pub record IsPass {S : Type 0} (v : View) (carried : List (ℕ × S)) (first quota count : ℕ) : Type 0 where
  pub current : IsCurrent v
  pub layout : IsLayout v.layout
  pub none : carried ≡ []
  pub first_is : v.owned.from ≡ first
  pub quota_is : v.owned.quota ≡ quota
  pub count_is : length v.owned.made ≡ count

-- the pass made steps that only loaded words
pub record Reads (p q : PassView) : Type 0 where
  pub table : q.table ≡ p.table
  pub follows : Follows p.view q.view
  pub draft : q.view.learned.draft ≡ p.view.learned.draft
  pub notes : q.view.learned.notes ≡ p.view.learned.notes
  pub made : q.view.owned.made ≡ p.view.owned.made

-- the pass may publish its draft in the bucket at the place
pub record IsReady (v : View) (place : ℕ) : Type 0 where
  pub cell : CellTree
  pub drafted : IsDraftOf v.layout (now v) v.learned.draft cell
  pub steps : ℕ
  pub few : steps < v.layout.buckets
  pub at : place ≡ place_on v.layout drafted.content steps
  pub passed : IsPassed v.layout (now v) drafted.content steps

-- the cell may be sought in the bucket at the place
pub record IsSought (v : View) (cell : CellTree) (place : ℕ) : Type 0 where
  pub content : Content
  pub fits : Fits v.layout (now v) cell content
  pub steps : ℕ
  pub at : place ≡ place_on v.layout content steps
  pub passed : IsPassed v.layout (now v) content steps

-- a pass took in another: it knows what either knew, and owns what it owned
pub record Meets (p other q : PassView) : Type 0 where
  pub table : q.table ≡ p.table
  pub layout : q.view.layout ≡ p.view.layout
  pub grown : Grows p.view.layout (now p.view) (now q.view)
  pub grown_too : Grows p.view.layout (now other.view) (now q.view)
  pub before : IsCurrent p.view
  pub before_too : IsCurrent other.view
  pub layout_too : other.view.layout ≡ p.view.layout
  pub current : IsCurrent q.view
  pub draft : q.view.learned.draft ≡ p.view.learned.draft
  pub notes : q.view.learned.notes ≡ p.view.learned.notes
  pub memo_steps : q.view.learned.memo_steps ≡ p.view.learned.memo_steps
  pub owned : q.view.owned ≡ p.view.owned

-- the notes are those before, and a number of notes of this cell
abbrev pub AreNoted : ℕ → CellTree → List CellTree → List CellTree → Type 0
AreNoted count cell before after = after ≡ before ++ replicate count cell

-- the pass sought a cell, and made at most its row; it noted nothing but this cell
pub record Seeks (p q : PassView) (cell : CellTree) : Type 0 where
  pub table : q.table ≡ p.table
  pub follows : Follows p.view q.view
  pub made : (q.view.owned.made ≡ p.view.owned.made) ⊎ (q.view.owned.made ≡ p.view.owned.made ++ cell ∷ [])
  pub noted : (count : ℕ) × AreNoted count cell p.view.learned.notes q.view.learned.notes

-- all rows of the pass are used, and the cell was noted last, at a step at which no handle stood for it
pub record IsSpentFor (p q : PassView) (cell : CellTree) : Type 0 where
  pub used : length q.view.owned.made ≡ q.view.owned.quota
  pub made : q.view.owned.made ≡ p.view.owned.made
  pub absent : IsAbsent q.view.layout (now q.view) cell
  pub noted : (count : ℕ) × AreNoted (suc count) cell p.view.learned.notes q.view.learned.notes

-- a pass all of whose rows were used noted nothing
abbrev pub IsUnnoted : PassView → PassView → Type 0
IsUnnoted p q = length p.view.owned.made ≡ p.view.owned.quota → q.view.learned.notes ≡ p.view.learned.notes

-- the handle stands for the cell
abbrev pub StandsFor : PassView → Handle → CellTree → Type 0
StandsFor q handle cell = Stands q.view.layout (now q.view) cell handle.0

-- what is answered of a cell that was sought
abbrev pub Answers : PassView → PassView → CellTree → Result Handle Full → Type 0
Answers p q cell answer = IfOk answer (λ handle. StandsFor q handle cell × IsUnnoted p q) × OnErr answer (IsSpentFor p q cell)

-- the path of the cell's three words leads to this place, and the places before it hold others
pub record IsOnPath (v : View) (cell : CellTree) (content : Content) (place : ℕ) : Type 0 where
  pub fits : Fits v.layout (now v) cell content
  pub steps : ℕ
  pub few : steps < v.layout.buckets
  pub at : place ≡ place_on v.layout content steps
  pub passed : IsPassed v.layout (now v) content steps

-- what the bucket at a place holds after the pass tried to publish there
abbrev pub Claims : PassView → PassView → CellTree → ℕ → Claim → Type 0
Claims p q cell place claim.Full = IsSpentFor p q cell
Claims p q cell place (claim.Own handle) = StandsFor q handle cell × IsUnnoted p q
Claims p q cell place (claim.Taken handle) = ((row : ℕ) × (handle.0 ≡ suc row) × Names q.view.layout (now q.view) place row) × (q.view.owned.made ≡ p.view.owned.made) × IsUnnoted p q

-- the place holds the row of another cell, and no row was made
abbrev pub PassesBy : PassView → PassView → Content → ℕ → Type 0
PassesBy p q content place = IsOther q.view.layout (now q.view) content place × (q.view.owned.made ≡ p.view.owned.made) × IsUnnoted p q

-- the pass drafted a row
pub record Drafts (p q : PassView) (content : Content) (deep : ℕ) : Type 0 where
  pub table : q.table ≡ p.table
  pub follows : Follows p.view q.view
  pub draft : q.view.learned.draft ≡ content.tag ∷ content.left ∷ content.right ∷ deep ∷ []
  pub notes : q.view.learned.notes ≡ p.view.learned.notes
  pub made : q.view.owned.made ≡ p.view.owned.made
