-- The spelling of trees: the tokens that stand for a tree over a grammar's productions. The spelling of a node is its production's
-- parts in order, a child as its own spelling. A tree can be spelled where each Name in it is one word that is no keyword, `true`
-- or `false`.
use Rattle.std.specs.Prelude.{◌≡◌, ◌⊎◌, ℕ, ℤ, pos, neg_ℤ, Bool, true, List, [], ◌∷◌, drop, flat_map, Contains, Option, Some, None, slice_get, slice_index_or}
use Rattle.lrc_base.specs.declared.grammar.Piece.{Piece}
use Rattle.lrc_base.specs.declared.grammar.Piece.TheVariants as piece
use Rattle.lrc_base.specs.declared.grammar.Production.{Production}
use Rattle.lrc_meaning.specs.Tree.{Tree, int, bool, name, node, Trees, none, more}
use Rattle.lrc_meaning.specs.Text.{bool_text}
use Rattle.lrc_lex.specs.declared.TokenClass.TheVariants.{Word, Natural, Negative}
use Rattle.lrc_lex.specs.Decimal.{natural_value, IsNatural, IsNegative}
use Rattle.lrc_syntax.specs.declared.part.Lexeme.{Lexeme}
use Rattle.lrc_syntax.specs.declared.part.Part.{Part}
use Rattle.lrc_syntax.specs.declared.part.Part.TheVariants as part
use Rattle.lrc_syntax.specs.Spelling.{Lexemes, word, AreParts}
use Rattle.lrc_syntax.specs.Faults.{may_stand}

-- a word in a pattern, or the name of a production that has none
abbrev pub HasKeyword : Option (List Piece) → List ℕ → List ℕ → Type 0
HasKeyword None called w = w ≡ called
HasKeyword (Some pieces) called w =
    (text : List ℕ) × (xs : List Lexeme) × Contains pieces (piece.Text text) × Lexemes text xs × Contains xs (word w)

-- the words by which no name is spelled
abbrev pub IsKeyword : List Production → List ℕ → Type 0
IsKeyword prods w = (q : Production) × Contains prods q × HasKeyword q.pattern q.name w

-- one word, which is no keyword, `true` or `false`
pub record IsPlainName (prods : List Production) (n : List ℕ) : Type 0 where
  pub one_word : Lexemes n (word n ∷ [])
  pub no_bool : may_stand Word n ≡ true
  pub no_keyword : ¬ IsKeyword prods n

-- a natural or a negative number of this value; leading zeros are allowed
abbrev pub SpellsInt : ℤ → Lexeme → Type 0
SpellsInt i x =
    ((x.class ≡ Natural) × IsNatural x.bytes × (i ≡ pos (natural_value x.bytes)))
    ⊎ ((x.class ≡ Negative) × IsNegative x.bytes × (i ≡ neg_ℤ (pos (natural_value (drop 1 x.bytes)))))

-- the tokens of a part, where the children are spelled by these
abbrev pub part_lexemes : List (List Lexeme) → Part → List Lexeme
part_lexemes spelled (part.Token x) = x ∷ []
part_lexemes spelled (part.Child i kind) = slice_index_or spelled i []

mutual
  -- The tree over these productions can be spelled, and this is a spelling of it.
  pub data Spells (prods : List Production) : Tree → List Lexeme → Type 0 where
    an_int : (i : ℤ) (x : Lexeme) → SpellsInt i x → Spells prods (int i) (x ∷ [])
    a_bool : (b : Bool) → Spells prods (bool b) (word (bool_text b) ∷ [])
    a_name : (n : List ℕ) → IsPlainName prods n → Spells prods (name n) (word n ∷ [])
    a_node : (p : ℕ) (q : Production) (kids : Trees) (parts : List Part) (spelled : List (List Lexeme)) (xs : List Lexeme)
        → slice_get prods p ≡ Some q → AreParts q parts → SpellEach prods kids spelled → xs ≡ flat_map (part_lexemes spelled) parts → Spells prods (node p kids) xs

  -- each of the trees, in order
  pub data SpellEach (prods : List Production) : Trees → List (List Lexeme) → Type 0 where
    no_more : SpellEach prods none []
    and_more : (t : Tree) (ts : Trees) (xs : List Lexeme) (rest : List (List Lexeme)) → Spells prods t xs → SpellEach prods ts rest → SpellEach prods (more t ts) (xs ∷ rest)
