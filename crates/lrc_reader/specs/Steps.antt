-- Terms read step by step: how a term begins, and what stands behind a child of a node.
use Rattle.std.specs.Prelude.{◌≡◌, ℕ, zero, suc, Bool, true, false, []}
use Rattle.lrc_base.specs.declared.raw_term.RawTermTree.{RawTermTree}
use Rattle.lrc_base.specs.declared.raw_term.RawTermTree.TheVariants as t
use Rattle.lrc_base.specs.declared.item.RawTermItem.{RawTermItem}
use Rattle.lrc_base.specs.RawTerms.{raw_wanted, raw_grown, first_raw_tree}
use Rattle.lrc_parse.specs.Reading.{nested, read_of, read_either, read_nothing}
use Rattle.lrc_reader.specs.declared.lexeme.Mark.TheVariants as m
use Rattle.lrc_reader.specs.declared.term.Begun.{Begun}
use Rattle.lrc_reader.specs.declared.term.Begun.TheVariants as begun
use Rattle.lrc_reader.specs.Lexeme.{kind}
use Rattle.lrc_reader.specs.First.{only, literals, terms}
use Rattle.lrc_reader.specs.Grammar.{Name}
use Rattle.lrc_reader.specs.Reading.{Reader, ◌>>=◌, ◌>>◌, pure, pass, constant, read_word, read_leaf}

-- what was read of a term that has begun
pub data Start : Type 0 where
  -- all of it
  whole : RawTermTree → Start
  -- the name of a node with children, whose first is to follow
  opened : Name → Start

-- the term that an item without children is
abbrev pub leaf_of : RawTermItem → RawTermTree
leaf_of item = first_raw_tree (raw_grown [] item)

abbrev pub start_of : Begun → Start
start_of (begun.Ended item) = whole (leaf_of item)
start_of (begun.Opened name) = opened name

-- what is all of a term takes no terms
abbrev pub IsAlone : Begun → Type 0
IsAlone (begun.Ended item) = raw_wanted item ≡ 0
IsAlone (begun.Opened name) = Unit {0}

-- a node without children, or the head of one with children
unfoldable pub read_head : Reader Start
read_head = do
  name ← read_word
  pass m.LeftParen
  read_either kind terms (pure (opened name)) (pass m.RightParen >> pure (whole (t.Node name [])))

-- the beginning of a term with at most so many within one another, itself included
unfoldable pub read_begin : ℕ → Reader Start
read_begin zero = read_nothing kind terms nested
read_begin (suc levels) = read_either kind literals (read_of whole read_leaf) read_head

-- behind a child: a comma where another follows, or the end of the node
unfoldable pub read_next : Reader Bool
read_next = read_either kind (only m.Comma) (constant m.Comma true) (constant m.RightParen false)
