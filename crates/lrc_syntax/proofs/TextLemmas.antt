-- The tokens of a text so far, and a bad token among them.
use Rattle.std.proofs.Common.{◌≡◌, ℕ, zero, suc, inl, inr, ◌+◌, ◌<◌, false, Bool, true, ◌==◌, if◌then◌else◌, List, [], ◌∷◌, ◌++◌, length, map, get_or, take, All, codes, refl, sym, ap, subst, ◌∙◌, arith}
use Rattle.std.proofs.lemmas.List.{take_more, map-append, length-map}
use Rattle.std.proofs.lemmas.List.Elements.{All-append}
use Rattle.lrc_base.specs.declared.grammar.Kind.{Kind}
use Rattle.lrc_base.specs.declared.grammar.Kid.{Kid}
use Rattle.lrc_lex.specs.declared.Token.{Token}
use Rattle.lrc_lex.specs.Forms.{is_symbol}
use Rattle.lrc_lex.specs.Tokens.{Tokens}
use Rattle.lrc_syntax.specs.declared.part.Lexeme.{Lexeme}
use Rattle.lrc_syntax.specs.declared.part.Part.{Part}
use Rattle.lrc_syntax.specs.declared.part.Part.TheVariants as part
use Rattle.lrc_syntax.specs.Spelling.{lexeme, word, symbol, behind_comma, listed, plain_parts}
use Rattle.lrc_syntax.specs.Faults.{may_stand, IsTerminal, IsTerminalPart, AreTerminals, IsBadText}
use Rattle.lrc_syntax.proofs.ListLemmas.{all_push, all_cons, map_at}

pub bad_token : (text : List ℕ) (found items : List Token) (i : ℕ) (d : Token) → items ≡ found → Tokens text found → i < length items
    → may_stand (lexeme text (get_or items i d)).class (lexeme text (get_or items i d)).bytes ≡ false → IsBadText text
bad_token text found items i d same tokens lt bad =
    let x = lexeme text (get_or items i d) in
    inr (
      map (lexeme text) found,
      (found, tokens, refl),
      subst (λ (ts : List Token). (k : ℕ) × (y : Lexeme) × (k < length (map (lexeme text) ts)) × (get_or (map (lexeme text) ts) k y ≡ y) × (may_stand y.class y.bytes ≡ false)) same
          (i, x, omega (arith, length-map items (lexeme text), lt), map_at (lexeme text) items i d x lt, bad),
    )

lexemes_more : (text : List ℕ) (items : List Token) (i : ℕ) (d : Token) → i < length items → map (lexeme text) (take (i + 1) items) ≡ map (lexeme text) (take i items) ++ lexeme text (get_or items i d) ∷ []
lexemes_more text items i d lt = ap (map (lexeme text)) (take_more items i d lt) ∙ map-append (lexeme text) (take i items) (get_or items i d ∷ [])

pub tokens_more : (text : List ℕ) (items : List Token) (i : ℕ) (d : Token) (x : Lexeme) (parts more : List Part) → i < length items → x ≡ lexeme text (get_or items i d)
    → parts ≡ map part.Token (map (lexeme text) (take i items)) → more ≡ parts ++ part.Token x ∷ [] → more ≡ map part.Token (map (lexeme text) (take (i + 1) items))
tokens_more text items i d x parts more lt is before now =
    now
    ∙ ap (λ ps. ps ++ part.Token x ∷ []) before
    ∙ ap (λ y. map part.Token (map (lexeme text) (take i items)) ++ part.Token y ∷ []) is
    ∙ sym (map-append part.Token (map (lexeme text) (take i items)) (lexeme text (get_or items i d) ∷ []))
    ∙ ap (map part.Token) (sym (lexemes_more text items i d lt))

pub terminals_more : (text : List ℕ) (items : List Token) (i : ℕ) (d : Token) (x : Lexeme) → i < length items → x ≡ lexeme text (get_or items i d)
    → All IsTerminal (map (lexeme text) (take i items)) → IsTerminal x → All IsTerminal (map (lexeme text) (take (i + 1) items))
terminals_more text items i d x lt is before here =
    subst (λ (xs : List Lexeme). All IsTerminal xs) (sym (lexemes_more text items i d lt))
    (all_push IsTerminal (map (lexeme text) (take i items)) (lexeme text (get_or items i d)) before (subst (λ (y : Lexeme). IsTerminal y) is here))

pub all_tokens : (xs : List Lexeme) → All IsTerminal xs → AreTerminals (map part.Token xs)
all_tokens [] all k d lt = absurd (omega arith)
all_tokens (x ∷ xs) all zero d lt = all 0 x (omega arith)
all_tokens (x ∷ xs) all (suc k) d lt = all_tokens xs (λ j e h. all (suc j) e (omega arith)) k d (omega arith)

no_parts : AreTerminals []
no_parts k d lt = absurd (omega arith)

-- ---- without a pattern

symbol_stands : (c : ℕ) → is_symbol c ≡ true → IsTerminal (symbol (c ∷ []))
symbol_stands c is = (refl, inl (refl, is))

comma_terminals : (i : ℕ) (kind : Kind) → AreTerminals (behind_comma i kind)
comma_terminals i kind = by_test (i == 0)
  where
    by_test : (b : Bool) → AreTerminals (if b then part.Child i kind ∷ [] else part.Token (symbol (codes ",")) ∷ part.Child i kind ∷ [])
    by_test true = all_cons IsTerminalPart (part.Child i kind) [] tt no_parts
    by_test false = all_cons IsTerminalPart (part.Token (symbol (codes ","))) (part.Child i kind ∷ []) (symbol_stands 44 refl) (all_cons IsTerminalPart (part.Child i kind) [] tt no_parts)

listed_terminals : (i : ℕ) (kids : List Kid) → AreTerminals (listed i kids)
listed_terminals i [] = no_parts
listed_terminals i (kid ∷ kids) = All-append IsTerminalPart (behind_comma i kid.kind) (listed (suc i) kids) (comma_terminals i kid.kind) (listed_terminals (suc i) kids)

pub plain_terminals : (called : List ℕ) (kids : List Kid) → IsTerminal (word called) → AreTerminals (plain_parts called kids)
plain_terminals called kids name =
    let close = all_cons IsTerminalPart (part.Token (symbol (codes ")"))) [] (symbol_stands 41 refl) no_parts in
    all_cons IsTerminalPart (part.Token (word called)) (part.Token (symbol (codes "(")) ∷ (listed 0 kids ++ part.Token (symbol (codes ")")) ∷ [])) name
    (all_cons IsTerminalPart (part.Token (symbol (codes "("))) (listed 0 kids ++ part.Token (symbol (codes ")")) ∷ []) (symbol_stands 40 refl)
    (All-append IsTerminalPart (listed 0 kids) (part.Token (symbol (codes ")")) ∷ []) (listed_terminals 0 kids) close))
