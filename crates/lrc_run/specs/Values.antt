-- The list of values in a store, and its text, value by value.
use Rattle.std.specs.Prelude.{ℕ, ◌≡◌, ◌<◌, ◌^◌, List, [], ◌∷◌, ◌++◌, length, codes, Option, Some, None, ⊤}
use Rattle.lrc_base.specs.declared.grammar.Attr.{Attr}
use Rattle.lrc_base.specs.declared.grammar.Production.{Production}
use Rattle.lrc_meaning.specs.Tree.{Tree}
use Rattle.lrc_meaning.specs.Text.{limited, value_text}
use Rattle.lrc_store.specs.Standing.{Standing, Stands}
use Rattle.lrc_store.specs.declared.cells.Handle.{Handle}
use Rattle.lrc_code.specs.Forms.{tree_cell}
use Rattle.lrc_call_meaning.specs.Forms.{values_cell}
use Rattle.lrc_session.specs.declared.session.Session.{Session}
use Rattle.lrc_run.specs.declared.reply.Line.{Line}

-- the handles stand for the first of the values and for the list of the others; none where there is no value
abbrev pub Begins : Standing → List Tree → Option (Handle × Handle) → Type 0
Begins s [] None = ⊤
Begins s [] (Some found) = ⊥
Begins s (v ∷ vs) None = ⊥
Begins s (v ∷ vs) (Some found) = Stands s found.0.0 (tree_cell v) × Stands s found.1.0 (values_cell vs)

-- ` name=value`
abbrev pub named : List Production → Attr → Tree → List ℕ
named prods a v = codes " " ++ (a.name ++ (codes "=" ++ limited (value_text prods v)))

-- the first of the values was appended to a text, and the handle stands for the list of the others; none where there is no value
abbrev pub Pushes : List Production → Standing → Attr → List Tree → List ℕ → List ℕ → Option Handle → Type 0
Pushes prods s a [] before after None = after ≡ before
Pushes prods s a [] before after (Some rest) = ⊥
Pushes prods s a (v ∷ vs) before after None = ⊥
Pushes prods s a (v ∷ vs) before after (Some rest) = (after ≡ before ++ named prods a v) × Stands s rest.0 (values_cell vs)

-- the line has the counts of the bodies of a session's tree, and of the cells that the store made, which are few
pub record HasCountsOf (s : Standing) (session : Session) (line : Line) : Type 0 where
  pub bodies : line.bodies ≡ session.runs
  pub cells : line.cells ≡ length s.made
  pub small : length s.made < 2 ^ 32
