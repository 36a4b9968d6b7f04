-- The symbols of a production, item by item.
use Rattle.std.proofs.Common.{◌≡◌, ℕ, ◌+◌, ◌<◌, ◌≤◌, Bool, Option, All, List, [], ◌∷◌, ◌++◌, true, false, refl, drop, get_or, map, length, length-append, one-add, ap, ◌∙◌, arith}
use Rattle.std.proofs.lemmas.List.{length-map}
use Rattle.std.proofs.lemmas.List.Elements.{All-nil, All-cons, All-append, All-from_recursion}
use Rattle.lrc_base.specs.declared.grammar.Kind.{Kind}
use Rattle.lrc_base.specs.declared.grammar.Kind.TheVariants as k
use Rattle.lrc_order_meaning.specs.declared.Place.{Place}
use Rattle.lrc_base.specs.declared.grammar.Sort.{Sort}
use Rattle.lrc_base.specs.declared.grammar.Kid.{Kid}
use Rattle.lrc_base.specs.declared.grammar.Extra.{Extra}
use Rattle.lrc_base.specs.declared.grammar.Production.{Production}
use Rattle.std.specs.List.{flat_map}
use Rattle.lrc_meaning.specs.Grammar.{occurrences_of, own_occurrence, attrs_of_sort, attrs_of, symbol_occurrence, extra_occurrences}
use Rattle.lrc_order_meaning.specs.Needs.{left_place, symbols_of, places_of, own_end, symbol_of, kid_symbols, extra_symbols, kid_count, extra_count, kids_end}
use Rattle.lrc_base.specs.declared.signature.Signature.{Signature}
use Rattle.lrc_meaning.specs.Signature.{signature_of}
use Rattle.lrc_order_meaning.specs.Signed.{place_of}
use Rattle.lrc_order_meaning.proofs.SignedLemmas.{signed_places}
use Rattle.std.specs.Prelude.{None, Some, cond}

-- how many occurrences a production has
pub occurrence_count : (sorts : List Sort) (p : Production) → length (occurrences_of sorts p) ≡ kids_end sorts p + extra_count sorts p.extras
occurrence_count sorts p =
    let own = length-append (map own_occurrence (attrs_of_sort sorts p.left)) (flat_map (λ (kid : Kid). map symbol_occurrence (attrs_of sorts kid.kind)) p.kids ++ flat_map (extra_occurrences sorts) p.extras) in
    let more = length-append (flat_map (λ (kid : Kid). map symbol_occurrence (attrs_of sorts kid.kind)) p.kids) (flat_map (extra_occurrences sorts) p.extras) in
    let count = length-map (attrs_of_sort sorts p.left) own_occurrence in
    omega arith

pub attached_length : (sorts : List Sort) (x : Extra) → x.attached ≡ true → length (extra_occurrences sorts x) ≡ 1 + length (attrs_of sorts x.kind)
attached_length sorts x e = simp (e, length-map, one-add) refl

pub local_length : (sorts : List Sort) (x : Extra) → x.attached ≡ false → length (extra_occurrences sorts x) ≡ 1
local_length sorts x e = simp e refl

-- the places of a production, read off its signature
pub signed_places_of : (sorts : List Sort) (p : Production) (signature : Signature) → signature ≡ signature_of sorts p
    → left_place p ∷ map place_of signature.symbols ≡ places_of sorts p
signed_places_of sorts p signature is =
    ap (λ (s : Signature). left_place p ∷ map place_of s.symbols) is ∙ ap (λ places. left_place p ∷ places) (signed_places sorts p)

-- the attributes at a place are occurrences below a number
abbrev pub IsWithin : List Sort → ℕ → Place → Type 0
IsWithin sorts total place = place.start + length (attrs_of_sort sorts place.sort) ≤ total

symbol_within : (sorts : List Sort) (total : ℕ) (kind : Kind) (at : ℕ) (tree : Option ℕ) → at + length (attrs_of sorts kind) ≤ total
    → All (IsWithin sorts total) (symbol_of kind at tree)
symbol_within sorts total k.Int at tree h = All-nil (IsWithin sorts total)
symbol_within sorts total k.Bool at tree h = All-nil (IsWithin sorts total)
symbol_within sorts total k.Name at tree h = All-nil (IsWithin sorts total)
symbol_within sorts total (k.Sort s) at tree h = All-from_recursion (IsWithin sorts total) (record { sort = s; start = at; tree = tree } ∷ []) (h, tt)

kids_within : (sorts : List Sort) (total at : ℕ) (kids : List Kid) → at + kid_count sorts kids ≤ total → All (IsWithin sorts total) (kid_symbols sorts at kids)
kids_within sorts total at [] h = All-nil (IsWithin sorts total)
kids_within sorts total at (kid ∷ kids) h =
    let own = length-append (map symbol_occurrence (attrs_of sorts kid.kind)) (flat_map (λ (x : Kid). map symbol_occurrence (attrs_of sorts x.kind)) kids) in
    let count = length-map (attrs_of sorts kid.kind) symbol_occurrence in
    All-append (IsWithin sorts total) (symbol_of kid.kind at None) (kid_symbols sorts (at + length (attrs_of sorts kid.kind)) kids)
    (symbol_within sorts total kid.kind at None (omega arith))
    (kids_within sorts total (at + length (attrs_of sorts kid.kind)) kids (omega arith))

attached_within : (sorts : List Sort) (total at : ℕ) (x : Extra) (attached : Bool) → x.attached ≡ attached → at + length (extra_occurrences sorts x) ≤ total
    → All (IsWithin sorts total) (cond attached (symbol_of x.kind (at + 1) (Some at)) [])
attached_within sorts total at x true e h =
    let count = attached_length sorts x e in symbol_within sorts total x.kind (at + 1) (Some at) (omega arith)
attached_within sorts total at x false e h = All-nil (IsWithin sorts total)

extras_within : (sorts : List Sort) (total at : ℕ) (xs : List Extra) → at + extra_count sorts xs ≤ total → All (IsWithin sorts total) (extra_symbols sorts at xs)
extras_within sorts total at [] h = All-nil (IsWithin sorts total)
extras_within sorts total at (x ∷ xs) h =
    let own = length-append (extra_occurrences sorts x) (flat_map (extra_occurrences sorts) xs) in
    All-append (IsWithin sorts total) (cond x.attached (symbol_of x.kind (at + 1) (Some at)) []) (extra_symbols sorts (at + length (extra_occurrences sorts x)) xs)
    (attached_within sorts total at x x.attached refl (omega arith))
    (extras_within sorts total (at + length (extra_occurrences sorts x)) xs (omega arith))

-- the attributes at each place are occurrences of the production
pub places_within : (sorts : List Sort) (p : Production) → All (IsWithin sorts (length (occurrences_of sorts p))) (places_of sorts p)
places_within sorts p =
    let total = length (occurrences_of sorts p) in
    let count = occurrence_count sorts p in
    All-cons (IsWithin sorts total) (left_place p) (symbols_of sorts p) (omega arith)
    (All-append (IsWithin sorts total) (kid_symbols sorts (own_end sorts p) p.kids) (extra_symbols sorts (kids_end sorts p) p.extras)
    (kids_within sorts total (own_end sorts p) p.kids (omega arith))
    (extras_within sorts total (kids_end sorts p) p.extras (omega arith)))
