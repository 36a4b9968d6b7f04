-- The places of symbols, symbol by symbol.
use Rattle.std.proofs.Common.{◌≡◌, ℕ, ◌+◌, Bool, true, false, cond, List, [], ◌∷◌, ◌++◌, map, flat_map, length, Some, None, refl, sym, ap, ◌∙◌, length-append}
use Rattle.std.proofs.lemmas.List.{length-map, map-append}
use Rattle.lrc_base.specs.declared.grammar.Kind.{Kind}
use Rattle.lrc_base.specs.declared.grammar.Kind.TheVariants as k
use Rattle.lrc_base.specs.declared.grammar.Kid.{Kid}
use Rattle.lrc_base.specs.declared.grammar.Extra.{Extra}
use Rattle.lrc_base.specs.declared.grammar.Sort.{Sort}
use Rattle.lrc_base.specs.declared.grammar.Production.{Production}
use Rattle.lrc_base.specs.declared.signature.Origin.{Origin}
use Rattle.lrc_base.specs.declared.signature.Origin.TheVariants as origin
use Rattle.lrc_meaning.specs.Grammar.{attrs_of_sort, attrs_of, symbol_occurrence, extra_occurrences}
use Rattle.lrc_meaning.specs.Signature.{symbol_attribute, kid_attributes, extra_attributes, signed_symbol, signed_kids, signed_extras, signed_symbols, role_of}
use Rattle.lrc_meaning.proofs.SignatureLemmas.{map-parts, map-attributes, map-extra}
use Rattle.lrc_order_meaning.specs.Needs.{symbol_of, kid_symbols, extra_symbols, kid_count, symbols_of, own_end}
use Rattle.lrc_order_meaning.specs.Signed.{tree_at, place_of}

signed_place : (name : List ℕ) (kind : Kind) (from : Origin) (start : ℕ) → map place_of (signed_symbol name kind from start) ≡ symbol_of kind start (tree_at from)
signed_place name k.Int from start = refl
signed_place name k.Bool from start = refl
signed_place name k.Name from start = refl
signed_place name (k.Sort s) from start = refl

kid_places : (sorts : List Sort) (start n : ℕ) (kids : List Kid) → map place_of (signed_kids sorts start n kids) ≡ kid_symbols sorts start kids
kid_places sorts start n [] = refl
kid_places sorts start n (kid ∷ kids) =
    map-append place_of (signed_symbol kid.name kid.kind (origin.Child n) start) (signed_kids sorts (start + length (kid_attributes sorts kid)) (n + 1) kids)
    ∙ ap (λ ys. ys ++ map place_of (signed_kids sorts (start + length (kid_attributes sorts kid)) (n + 1) kids)) (signed_place kid.name kid.kind (origin.Child n) start)
    ∙ ap (λ ys. symbol_of kid.kind start None ++ ys)
    (kid_places sorts (start + length (kid_attributes sorts kid)) (n + 1) kids
    ∙ ap (λ m. kid_symbols sorts (start + m) kids) (length-map (attrs_of sorts kid.kind) (symbol_attribute kid.name)))

attached_place : (x : Extra) (start : ℕ) (attached : Bool)
    → map place_of (cond attached (signed_symbol x.name x.kind (origin.Value start) (start + 1)) []) ≡ cond attached (symbol_of x.kind (start + 1) (Some start)) []
attached_place x start true = signed_place x.name x.kind (origin.Value start) (start + 1)
attached_place x start false = refl

extra_length : (sorts : List Sort) (x : Extra) → length (extra_attributes sorts x) ≡ length (extra_occurrences sorts x)
extra_length sorts x = sym (length-map (extra_attributes sorts x) role_of) ∙ ap length (map-extra role_of sorts x)

extra_places : (sorts : List Sort) (start : ℕ) (xs : List Extra) → map place_of (signed_extras sorts start xs) ≡ extra_symbols sorts start xs
extra_places sorts start [] = refl
extra_places sorts start (x ∷ xs) =
    map-append place_of (cond x.attached (signed_symbol x.name x.kind (origin.Value start) (start + 1)) []) (signed_extras sorts (start + length (extra_attributes sorts x)) xs)
    ∙ ap (λ ys. ys ++ map place_of (signed_extras sorts (start + length (extra_attributes sorts x)) xs)) (attached_place x start x.attached)
    ∙ ap (λ ys. cond x.attached (symbol_of x.kind (start + 1) (Some start)) [] ++ ys)
    (extra_places sorts (start + length (extra_attributes sorts x)) xs
    ∙ ap (λ m. extra_symbols sorts (start + m) xs) (extra_length sorts x))

signed_kid_count : (sorts : List Sort) (kids : List Kid) → length (flat_map (kid_attributes sorts) kids) ≡ kid_count sorts kids
signed_kid_count sorts kids =
    sym (length-map (flat_map (kid_attributes sorts) kids) role_of)
    ∙ ap length (map-parts role_of (kid_attributes sorts) (λ (kid : Kid). map symbol_occurrence (attrs_of sorts kid.kind)) (λ kid. map-attributes role_of sorts kid.name (attrs_of sorts kid.kind)) kids)

pub signed_places : (sorts : List Sort) (p : Production) → map place_of (signed_symbols sorts p.left p.kids p.extras) ≡ symbols_of sorts p
signed_places sorts p =
    let own = own_end sorts p in
    map-append place_of (signed_kids sorts own 0 p.kids) (signed_extras sorts (own + length (flat_map (kid_attributes sorts) p.kids)) p.extras)
    ∙ ap (λ ys. ys ++ map place_of (signed_extras sorts (own + length (flat_map (kid_attributes sorts) p.kids)) p.extras)) (kid_places sorts own 0 p.kids)
    ∙ ap (λ ys. kid_symbols sorts own p.kids ++ ys)
    (extra_places sorts (own + length (flat_map (kid_attributes sorts) p.kids)) p.extras
    ∙ ap (λ m. extra_symbols sorts (own + m) p.extras) (signed_kid_count sorts p.kids))
