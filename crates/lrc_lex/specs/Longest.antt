-- Each token of a text is the longest one at its place.
use Rattle.std.specs.Prelude.{◌≡◌, ℕ, ◌+◌, ◌<◌, ◌≤◌, IsTrue, List, length, slice_range}
use Rattle.lrc_base.specs.Name.{IsName}
use Rattle.lrc_lex.specs.declared.TokenClass.{TokenClass}
use Rattle.lrc_lex.specs.declared.TokenClass.TheVariants.{Word, Natural, Negative, NameLit, Path}
use Rattle.lrc_lex.specs.declared.Token.{Token}
use Rattle.lrc_lex.specs.Decimal.{IsNatural, IsNegative}
use Rattle.lrc_lex.specs.Forms.{IsToken}
use Rattle.lrc_lex.specs.Tokens.{are_steps_small}

-- The token is within the text, has the form of its class, and no longer token stands at its place. A word is a name, a number fits, and so do the steps of a path.
pub record IsTokenOf (text : List ℕ) (token : Token) : Type 0 where
  pub some : token.at < token.end
  pub within : token.end ≤ length text
  pub form : IsToken token.class (slice_range text token.at token.end)
  pub longest : (class : TokenClass) (further : ℕ) → token.end < further → further ≤ length text → IsToken class (slice_range text token.at further) → ⊥
  pub name : token.class ≡ Word → IsName (slice_range text token.at token.end)
  pub quoted : token.class ≡ NameLit → IsName (slice_range text (token.at + 1) token.end)
  pub number : token.class ≡ Natural → IsNatural (slice_range text token.at token.end)
  pub negative : token.class ≡ Negative → IsNegative (slice_range text token.at token.end)
  pub path : token.class ≡ Path → IsTrue (are_steps_small (slice_range text token.at token.end))
