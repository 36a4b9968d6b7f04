use Rattle.std.proofs.Common.{◌≡◌, take, map, All}
use Rattle.lrc_syntax.specs.Spelling.{lexeme}
use Rattle.lrc_syntax.specs.Faults.{IsTerminal}
use Rattle.lrc_syntax.specs.declared.part.Part.TheVariants as part
use Rattle.lrc_syntax.proofs.text.text_parts.Given as goal

-- the tokens so far, each of which a pattern may hold
abbrev pub invariant-loop-token : goal.invariant-loop-token
invariant-loop-token l = record {
  tokens : l.parts ≡ map part.Token (map (lexeme l.text) (take l.token-index l.token-items));
  terminals : All IsTerminal (map (lexeme l.text) (take l.token-index l.token-items));
}
