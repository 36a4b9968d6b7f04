-- The kinds of lexemes with which parts of a job begin.
use Rattle.std.specs.Prelude.{ℕ, List, [], ◌∷◌, ◌++◌}
use Rattle.lrc_reader.specs.declared.lexeme.Mark.{Mark}
use Rattle.lrc_reader.specs.declared.lexeme.Mark.TheVariants as m
use Rattle.lrc_reader.specs.Lexeme.{number, word_kind, natural_kind, negative_kind, name_kind, text_kind, path_kind}

abbrev pub only : Mark → List ℕ
only mark = number mark ∷ []

abbrev pub words : List ℕ
words = word_kind ∷ []

abbrev pub naturals : List ℕ
naturals = natural_kind ∷ []

abbrev pub paths : List ℕ
paths = path_kind ∷ []

abbrev pub literals : List ℕ
literals = natural_kind ∷ negative_kind ∷ name_kind ∷ number m.True ∷ number m.False ∷ []

abbrev pub directions : List ℕ
directions = number m.Inh ∷ number m.Syn ∷ []

abbrev pub kinds : List ℕ
kinds = number m.Int ∷ number m.Bool ∷ number m.Name ∷ words

abbrev pub times : List ℕ
times = only m.Star

abbrev pub plus : List ℕ
plus = number m.Plus ∷ number m.Minus ∷ []

abbrev pub comparisons : List ℕ
comparisons = number m.SameAs ∷ number m.Less ∷ []

abbrev pub atoms : List ℕ
atoms = literals ++ number m.LeftParen ∷ words

abbrev pub exprs : List ℕ
exprs = number m.If ∷ atoms

abbrev pub declarations : List ℕ
declarations = number m.Local ∷ number m.Attach ∷ []

abbrev pub others : List ℕ
others = number m.Text ∷ words

abbrev pub items : List ℕ
items = declarations ++ others

abbrev pub pieces : List ℕ
pieces = text_kind ∷ words

abbrev pub terms : List ℕ
terms = literals ++ words

abbrev pub edits : List ℕ
edits = number m.Put ∷ number m.Copy ∷ number m.Show ∷ number m.Forget ∷ []
