-- What a signature tells of occurrences, part by part, and how many a production has at most.
use Rattle.std.proofs.Common.{◌≡◌, ℕ, zero, suc, ◌+◌, ◌*◌, ◌≤◌, Bool, true, false, cond, List, [], ◌∷◌, ◌++◌, map, flat_map, length, refl, sym, ap, ◌∙◌, length-append, arith, All, zero-le}
use Rattle.std.proofs.lemmas.List.{length-map, map-append}
use Rattle.std.proofs.lemmas.Simd.{map-map}
use Rattle.lrc_base.specs.declared.grammar.Kind.{Kind}
use Rattle.lrc_base.specs.declared.grammar.Kind.TheVariants as k
use Rattle.lrc_base.specs.declared.grammar.Kid.{Kid}
use Rattle.lrc_base.specs.declared.grammar.Extra.{Extra}
use Rattle.lrc_base.specs.declared.grammar.Attr.{Attr}
use Rattle.lrc_base.specs.declared.grammar.Sort.{Sort}
use Rattle.lrc_base.specs.declared.grammar.Production.{Production}
use Rattle.lrc_base.specs.declared.signature.Occurrence.{Occurrence}
use Rattle.lrc_meaning.specs.Grammar.{attrs_of_sort, attrs_of, occurrences_of}
use Rattle.lrc_meaning.specs.Signature.{left_attribute, symbol_attribute, symbol_attributes, kid_attributes, extra_value, extra_attributes, signed_occurrences, signature_of, role_of}

-- what is told of each occurrence is told part by part
module _ {A : Type 0} (f : Occurrence → A) where
  module _ {X : Type 0} (parts : X → List Occurrence) (told : X → List A) (each : (x : X) → map f (parts x) ≡ told x) where
    pub map-parts : (xs : List X) → map f (flat_map parts xs) ≡ flat_map told xs
    map-parts [] = refl
    map-parts (x ∷ xs) =
        map-append f (parts x) (flat_map parts xs)
        ∙ ap (λ ys. ys ++ map f (flat_map parts xs)) (each x)
        ∙ ap (λ ys. told x ++ ys) (map-parts xs)

  pub map-attributes : (sorts : List Sort) (symbol : List ℕ) (attrs : List Attr) → map f (map (symbol_attribute symbol) attrs) ≡ map (λ a. f (symbol_attribute symbol a)) attrs
  map-attributes sorts symbol attrs = map-map f (symbol_attribute symbol) attrs

  map-attached : (sorts : List Sort) (x : Extra) (attached : Bool) → map f (cond attached (symbol_attributes sorts x.name x.kind) []) ≡ cond attached (map (λ a. f (symbol_attribute x.name a)) (attrs_of sorts x.kind)) []
  map-attached sorts x true = map-attributes sorts x.name (attrs_of sorts x.kind)
  map-attached sorts x false = refl

  pub map-extra : (sorts : List Sort) (x : Extra) → map f (extra_attributes sorts x) ≡ f (extra_value x) ∷ cond x.attached (map (λ a. f (symbol_attribute x.name a)) (attrs_of sorts x.kind)) []
  map-extra sorts x = ap (λ ys. f (extra_value x) ∷ ys) (map-attached sorts x x.attached)

  -- what is told of all occurrences
  pub map-signed : (sorts : List Sort) (left : ℕ) (kids : List Kid) (extras : List Extra) → map f (signed_occurrences sorts left kids extras)
      ≡ map (λ a. f (left_attribute a)) (attrs_of_sort sorts left) ++ (flat_map (λ (kid : Kid). map (λ a. f (symbol_attribute kid.name a)) (attrs_of sorts kid.kind)) kids
      ++ flat_map (λ x. f (extra_value x) ∷ cond x.attached (map (λ a. f (symbol_attribute x.name a)) (attrs_of sorts x.kind)) []) extras)
  map-signed sorts left kids extras =
      let own = map-map f left_attribute (attrs_of_sort sorts left) in
      let of_kids = map-parts (kid_attributes sorts) (λ (kid : Kid). map (λ a. f (symbol_attribute kid.name a)) (attrs_of sorts kid.kind)) (λ kid. map-attributes sorts kid.name (attrs_of sorts kid.kind)) kids in
      let of_extras = map-parts (extra_attributes sorts) (λ x. f (extra_value x) ∷ cond x.attached (map (λ a. f (symbol_attribute x.name a)) (attrs_of sorts x.kind)) []) (map-extra sorts) extras in
      map-append f (map left_attribute (attrs_of_sort sorts left)) (flat_map (kid_attributes sorts) kids ++ flat_map (extra_attributes sorts) extras)
      ∙ ap (λ ys. ys ++ map f (flat_map (kid_attributes sorts) kids ++ flat_map (extra_attributes sorts) extras)) own
      ∙ ap (λ ys. map (λ a. f (left_attribute a)) (attrs_of_sort sorts left) ++ ys)
      (map-append f (flat_map (kid_attributes sorts) kids) (flat_map (extra_attributes sorts) extras)
      ∙ ap (λ ys. ys ++ map f (flat_map (extra_attributes sorts) extras)) of_kids
      ∙ ap (λ ys. flat_map (λ (kid : Kid). map (λ a. f (symbol_attribute kid.name a)) (attrs_of sorts kid.kind)) kids ++ ys) of_extras)

pub signed_roles : (sorts : List Sort) (p : Production) → map role_of (signature_of sorts p).occurrences ≡ occurrences_of sorts p
signed_roles sorts p = map-signed role_of sorts p.left p.kids p.extras

-- as many occurrences as in any list of what is told of each
pub signed_count : (sorts : List Sort) (p : Production) → length (signature_of sorts p).occurrences ≡ length (occurrences_of sorts p)
signed_count sorts p = sym (length-map (signature_of sorts p).occurrences role_of) ∙ ap length (signed_roles sorts p)

few_of_sort : (sorts : List Sort) (s : ℕ) → All (λ (x : Sort). length x.attrs ≤ 16) sorts → length (attrs_of_sort sorts s) ≤ 16
few_of_sort [] s few = zero-le
few_of_sort (x ∷ xs) zero few = few 0 x (omega arith)
few_of_sort (x ∷ xs) (suc s) few = few_of_sort xs s (λ i d h. few (suc i) d (omega arith))

module _ (sorts : List Sort) (few : All (λ (x : Sort). length x.attrs ≤ 16) sorts) where
  few_of : (kind : Kind) → length (attrs_of sorts kind) ≤ 16
  few_of k.Int = zero-le
  few_of k.Bool = zero-le
  few_of k.Name = zero-le
  few_of (k.Sort s) = few_of_sort sorts s few

  few_at : (symbol : List ℕ) (kind : Kind) → length (symbol_attributes sorts symbol kind) ≤ 16
  few_at symbol kind = let count = length-map (attrs_of sorts kind) (symbol_attribute symbol) in let few = few_of kind in omega arith

  few_kids : (kids : List Kid) → length (flat_map (kid_attributes sorts) kids) ≤ 16 * length kids
  few_kids [] = zero-le
  few_kids (kid ∷ kids) =
      let rest = few_kids kids in
      let own = few_at kid.name kid.kind in
      let both = length-append (kid_attributes sorts kid) (flat_map (kid_attributes sorts) kids) in
      omega arith

  few_attached : (x : Extra) (attached : Bool) → length (cond attached (symbol_attributes sorts x.name x.kind) []) ≤ 16
  few_attached x true = few_at x.name x.kind
  few_attached x false = zero-le

  few_extras : (extras : List Extra) → length (flat_map (extra_attributes sorts) extras) ≤ 17 * length extras
  few_extras [] = zero-le
  few_extras (x ∷ extras) =
      let rest = few_extras extras in
      let own = few_attached x x.attached in
      let both = length-append (extra_attributes sorts x) (flat_map (extra_attributes sorts) extras) in
      omega arith

  -- at most 16 occurrences of the left side, 16 of each child, and 17 of each local or nonterminal attribute
  pub signed_few : (left : ℕ) (kids : List Kid) (extras : List Extra) → length (signed_occurrences sorts left kids extras) ≤ 16 + (16 * length kids + 17 * length extras)
  signed_few left kids extras =
      let own = few_of_sort sorts left few in
      let count = length-map (attrs_of_sort sorts left) left_attribute in
      let of_kids = few_kids kids in
      let of_extras = few_extras extras in
      let all = length-append (map left_attribute (attrs_of_sort sorts left)) (flat_map (kid_attributes sorts) kids ++ flat_map (extra_attributes sorts) extras) in
      let both = length-append (flat_map (kid_attributes sorts) kids) (flat_map (extra_attributes sorts) extras) in
      omega arith
