-- The signature of a production: its occurrences and its symbols, by one walk over its left side, its children, and its
-- locals and nonterminal attributes.
use Rattle.std.specs.Prelude.{◌≡◌, ℕ, ◌+◌, true, not, ◌==◌, List, [], ◌∷◌, ◌++◌, map, flat_map, length, Option, Some, None, cond}
use Rattle.std.specs.List.{range_with_len, position_from}
use Rattle.lrc_base.specs.declared.grammar.Kind.{Kind}
use Rattle.lrc_base.specs.declared.grammar.Kind.TheVariants as k
use Rattle.lrc_base.specs.declared.grammar.Attr.{Attr}
use Rattle.lrc_base.specs.declared.grammar.Sort.{Sort}
use Rattle.lrc_base.specs.declared.grammar.Kid.{Kid}
use Rattle.lrc_base.specs.declared.grammar.Extra.{Extra}
use Rattle.lrc_base.specs.declared.grammar.Equation.{Equation}
use Rattle.lrc_base.specs.declared.grammar.Production.{Production}
use Rattle.lrc_base.specs.declared.signature.Occurrence.{Occurrence}
use Rattle.lrc_base.specs.declared.signature.Origin.{Origin}
use Rattle.lrc_base.specs.declared.signature.Origin.TheVariants as origin
use Rattle.lrc_base.specs.declared.signature.Symbol.{Symbol}
use Rattle.lrc_base.specs.declared.signature.Signature.{Signature}
use Rattle.lrc_meaning.specs.Grammar as grammar
use Rattle.lrc_meaning.specs.Grammar.{attrs_of_sort, attrs_of, occurrences_of}

-- an attribute of the left side: its equations read what is inherited and define what is synthesised
abbrev pub left_attribute : Attr → Occurrence
left_attribute a = record { owner = None; name = a.name; kind = a.kind; is_defined = not a.inherited; is_read = a.inherited }

-- an attribute of a symbol: what is inherited is defined, what is synthesised is read
abbrev pub symbol_attribute : List ℕ → Attr → Occurrence
symbol_attribute symbol a =
    record { owner = Some symbol; name = a.name; kind = a.kind; is_defined = a.inherited; is_read = not a.inherited }

-- an attribute of the left side, which has no owner, or of a symbol
abbrev pub attribute : Option (List ℕ) → Attr → Occurrence
attribute None a = left_attribute a
attribute (Some symbol) a = symbol_attribute symbol a

-- the value of a local or a nonterminal attribute
abbrev pub extra_value : Extra → Occurrence
extra_value x = record { owner = None; name = x.name; kind = x.kind; is_defined = true; is_read = true }

abbrev pub symbol_attributes : List Sort → List ℕ → Kind → List Occurrence
symbol_attributes sorts symbol kind = map (symbol_attribute symbol) (attrs_of sorts kind)

abbrev pub kid_attributes : List Sort → Kid → List Occurrence
kid_attributes sorts kid = symbol_attributes sorts kid.name kid.kind

-- a value, and behind a nonterminal attribute's value the attributes of its sort
abbrev pub extra_attributes : List Sort → Extra → List Occurrence
extra_attributes sorts x = extra_value x ∷ cond x.attached (symbol_attributes sorts x.name x.kind) []

-- The occurrences of a left side with these children, locals and nonterminal attributes, by number.
abbrev pub signed_occurrences : List Sort → ℕ → List Kid → List Extra → List Occurrence
signed_occurrences sorts left kids extras =
    map left_attribute (attrs_of_sort sorts left) ++ (flat_map (kid_attributes sorts) kids ++ flat_map (extra_attributes sorts) extras)

-- a symbol of this kind; a leaf is no symbol
abbrev pub signed_symbol : List ℕ → Kind → Origin → ℕ → List Symbol
signed_symbol name k.Int origin start = []
signed_symbol name k.Bool origin start = []
signed_symbol name k.Name origin start = []
signed_symbol name (k.Sort s) origin start = record { name = name; sort = s; origin = origin; start = start } ∷ []

-- the symbols among children that are numbered from n on, and whose occurrences start there
abbrev pub signed_kids : List Sort → ℕ → ℕ → List Kid → List Symbol
signed_kids sorts start n [] = []
signed_kids sorts start n (kid ∷ kids) =
    signed_symbol kid.name kid.kind (origin.Child n) start ++ signed_kids sorts (start + length (kid_attributes sorts kid)) (n + 1) kids

-- the nonterminal attributes among locals and nonterminal attributes whose occurrences start there
abbrev pub signed_extras : List Sort → ℕ → List Extra → List Symbol
signed_extras sorts start [] = []
signed_extras sorts start (x ∷ xs) =
    cond x.attached (signed_symbol x.name x.kind (origin.Value start) (start + 1)) []
    ++ signed_extras sorts (start + length (extra_attributes sorts x)) xs

-- The symbols of a left side with these children, locals and nonterminal attributes, by number.
abbrev pub signed_symbols : List Sort → ℕ → List Kid → List Extra → List Symbol
signed_symbols sorts left kids extras =
    let own = length (attrs_of_sort sorts left) in
    signed_kids sorts own 0 kids ++ signed_extras sorts (own + length (flat_map (kid_attributes sorts) kids)) extras

-- the number of the first equation of an occurrence
abbrev pub equation_of : List Equation → ℕ → Option ℕ
equation_of equations o = position_from (λ (e : Equation). e.target == o) 0 equations

-- The signature of a production.
abbrev pub signature_of : List Sort → Production → Signature
signature_of sorts p =
    let occurrences = signed_occurrences sorts p.left p.kids p.extras in
    record { occurrences = occurrences; equations = map (equation_of p.equations) (range_with_len 0 (length occurrences)); symbols = signed_symbols sorts p.left p.kids p.extras }

-- what well-formedness asks of an occurrence
abbrev pub role_of : Occurrence → grammar.Occurrence
role_of o = record { kind = o.kind; is_defined = o.is_defined; is_read = o.is_read }

-- A signature tells what stands at each occurrence of a production.
abbrev pub TellsRoles : Type 0
TellsRoles = (sorts : List Sort) (p : Production) → map role_of (signature_of sorts p).occurrences ≡ occurrences_of sorts p
