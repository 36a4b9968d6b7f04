-- What a text in quotes stands for.
use Rattle.std.specs.Prelude.{ℕ, ◌==◌, Bool, true, false, if◌then◌else◌, List, [], ◌∷◌, drop}

-- up to the closing `"`, which is 34, without the `\`, which is 92, before a character that it escapes; whether such a `\` stands in front
abbrev pub unquoted_from : Bool → List ℕ → List ℕ
unquoted_from behind [] = []
unquoted_from true (c ∷ rest) = c ∷ unquoted_from false rest
unquoted_from false (c ∷ rest) =
    if c == 34 then []
    else (if c == 92 then unquoted_from true rest
    else c ∷ unquoted_from false rest)

-- the bytes that a token of this class stands for
abbrev pub unquoted : List ℕ → List ℕ
unquoted text = unquoted_from false (drop 1 text)
