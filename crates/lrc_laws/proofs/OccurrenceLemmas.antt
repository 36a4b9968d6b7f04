-- Each occurrence of a production is to be defined, or inherited on its left side, or synthesised at a symbol.
use Rattle.std.proofs.Common.{◌≡◌, ℕ, zero, suc, ◌+◌, ◌-◌, Bool, true, false, cond, List, [], ◌∷◌, ◌++◌, map, length, Option, Some, None, ◌⊎◌, inl, inr, slice_get, refl, sym, ap, ◌∙◌, subst, arith}
use Rattle.std.specs.Prelude.{flat_map}
use Rattle.std.proofs.lemmas.Bool.{cases_lt}
use Rattle.std.proofs.lemmas.Option.{none-some, same_Some, slice_get_within}
use Rattle.std.proofs.lemmas.List.{length-map}
use Rattle.lrc_base.specs.declared.grammar.Kind.{Kind}
use Rattle.lrc_base.specs.declared.grammar.Kind.TheVariants as k
use Rattle.lrc_base.specs.declared.grammar.Attr.{Attr}
use Rattle.lrc_base.specs.declared.grammar.Sort.{Sort}
use Rattle.lrc_base.specs.declared.grammar.Kid.{Kid}
use Rattle.lrc_base.specs.declared.grammar.Extra.{Extra}
use Rattle.lrc_base.specs.declared.grammar.Production.{Production}
use Rattle.lrc_meaning.specs.Grammar.{Occurrence, attrs_of_sort, attrs_of, own_occurrence, symbol_occurrence, extra_occurrences, occurrences_of}
use Rattle.lrc_meaning.proofs.ListLemmas.{slice_left, slice_right}
use Rattle.lrc_order_meaning.specs.declared.Place.{Place}
use Rattle.lrc_order_meaning.specs.Needs.{symbol_of, kid_symbols, extra_symbols, own_end, kids_end, symbols_of}

pub of_mapped : {X Y : Type 0} (f : X → Y) (xs : List X) (i : ℕ) (y : Y) → slice_get (map f xs) i ≡ Some y → (x : X) × (slice_get xs i ≡ Some x) × (f x ≡ y)
of_mapped f [] i y e = absurd (none-some y e)
of_mapped f (x ∷ xs) zero y e = (x, refl, same_Some (f x) y e)
of_mapped f (x ∷ xs) (suc i) y e = of_mapped f xs i y e

-- the occurrence is an attribute of symbol i of some places
pub record IsOfSymbol (sorts : List Sort) (places : List Place) (o : ℕ) (x : Occurrence) : Type 0 where
  pub symbol : ℕ
  pub place : Place
  pub is_there : slice_get places symbol ≡ Some place
  pub attribute : ℕ
  pub attr : Attr
  pub has_attr : slice_get (attrs_of_sort sorts place.sort) attribute ≡ Some attr
  pub at : o ≡ place.start + attribute
  pub is : symbol_occurrence attr ≡ x

behind : (sorts : List Sort) (before places : List Place) (o : ℕ) (x : Occurrence) → IsOfSymbol sorts places o x → IsOfSymbol sorts (before ++ places) o x
behind sorts before places o x h = record {
  symbol = length before + h.symbol;
  place = h.place;
  is_there = slice_right before places (length before + h.symbol) h.symbol refl ∙ h.is_there;
  attribute = h.attribute;
  attr = h.attr;
  has_attr = h.has_attr;
  at = h.at;
  is = h.is;
}

ahead : (sorts : List Sort) (places after : List Place) (o : ℕ) (x : Occurrence) → IsOfSymbol sorts places o x → IsOfSymbol sorts (places ++ after) o x
ahead sorts places after o x h = record {
  symbol = h.symbol;
  place = h.place;
  is_there = slice_left places after h.symbol (slice_get_within places h.symbol h.place h.is_there) ∙ h.is_there;
  attribute = h.attribute;
  attr = h.attr;
  has_attr = h.has_attr;
  at = h.at;
  is = h.is;
}

module _ (sorts : List Sort) where
  -- an occurrence of a kind's attributes
  of_kind : (kind : Kind) (start i : ℕ) (tree : Option ℕ) (x : Occurrence) → slice_get (map symbol_occurrence (attrs_of sorts kind)) i ≡ Some x → IsOfSymbol sorts (symbol_of kind start tree) (start + i) x
  of_kind k.Int start i tree x e = absurd (none-some x e)
  of_kind k.Bool start i tree x e = absurd (none-some x e)
  of_kind k.Name start i tree x e = absurd (none-some x e)
  of_kind (k.Sort s) start i tree x e =
      let found = of_mapped symbol_occurrence (attrs_of_sort sorts s) i x e in
      record {
        symbol = 0;
        place = record { sort = s; start = start; tree = tree };
        is_there = refl;
        attribute = i;
        attr = found.0;
        has_attr = found.1;
        at = refl;
        is = found.2;
      }

  kid_occurrence : (kids : List Kid) (start i : ℕ) (x : Occurrence) → slice_get (flat_map (λ (kid : Kid). map symbol_occurrence (attrs_of sorts kid.kind)) kids) i ≡ Some x
      → IsOfSymbol sorts (kid_symbols sorts start kids) (start + i) x
  kid_occurrence [] start i x e = absurd (none-some x e)
  kid_occurrence (kid ∷ kids) start i x e =
      let here = map symbol_occurrence (attrs_of sorts kid.kind) in
      let rest = flat_map (λ (kid : Kid). map symbol_occurrence (attrs_of sorts kid.kind)) kids in
      let count = length-map (attrs_of sorts kid.kind) symbol_occurrence in
      elim (cases_lt i (length here)) [
        | inl less ↦
            ahead sorts (symbol_of kid.kind start None) (kid_symbols sorts (start + length (attrs_of sorts kid.kind)) kids) (start + i) x
            (of_kind kid.kind start i None x (sym (slice_left here rest i less) ∙ e))
        | inr beyond ↦
            let j = i - length here in
            let split : i ≡ length here + j = omega (arith, beyond) in
            let moved : start + length (attrs_of sorts kid.kind) + j ≡ start + i = omega (arith, beyond, count) in
            behind sorts (symbol_of kid.kind start None) (kid_symbols sorts (start + length (attrs_of sorts kid.kind)) kids) (start + i) x
            (subst (λ o. IsOfSymbol sorts (kid_symbols sorts (start + length (attrs_of sorts kid.kind)) kids) o x) moved
            (kid_occurrence kids (start + length (attrs_of sorts kid.kind)) j x (sym (slice_right here rest i j split) ∙ e)))
      ]

  attached_occurrence : (kind : Kind) (c : Bool) (start i : ℕ) (x : Occurrence) → slice_get (cond c (map symbol_occurrence (attrs_of sorts kind)) []) i ≡ Some x
      → IsOfSymbol sorts (cond c (symbol_of kind (start + 1) (Some start)) []) (start + 1 + i) x
  attached_occurrence kind true start i x e = of_kind kind (start + 1) i (Some start) x e
  attached_occurrence kind false start i x e = absurd (none-some x e)

  extra_here : (extra : Extra) (start i : ℕ) (x : Occurrence) → slice_get (extra_occurrences sorts extra) i ≡ Some x
      → (x.is_defined ≡ true) ⊎ IsOfSymbol sorts (cond extra.attached (symbol_of extra.kind (start + 1) (Some start)) []) (start + i) x
  extra_here extra start zero x e = let s = same_Some _ x e in inl (ap (λ (y : Occurrence). y.is_defined) (sym s))
  extra_here extra start (suc i) x e =
      let moved : start + 1 + i ≡ start + suc i = omega arith in
      inr (subst (λ o. IsOfSymbol sorts (cond extra.attached (symbol_of extra.kind (start + 1) (Some start)) []) o x) moved (attached_occurrence extra.kind extra.attached start i x e))

  extra_occurrence : (xs : List Extra) (start i : ℕ) (x : Occurrence) → slice_get (flat_map (extra_occurrences sorts) xs) i ≡ Some x
      → (x.is_defined ≡ true) ⊎ IsOfSymbol sorts (extra_symbols sorts start xs) (start + i) x
  extra_occurrence [] start i x e = absurd (none-some x e)
  extra_occurrence (y ∷ ys) start i x e =
      let here = extra_occurrences sorts y in
      let rest = flat_map (extra_occurrences sorts) ys in
      let first = cond y.attached (symbol_of y.kind (start + 1) (Some start)) [] in
      let later = extra_symbols sorts (start + length here) ys in
      elim (cases_lt i (length here)) [
        | inl less ↦
            elim (extra_here y start i x (sym (slice_left here rest i less) ∙ e)) [
              | inl d ↦ inl d
              | inr o ↦ inr (ahead sorts first later (start + i) x o)
            ]
        | inr beyond ↦
            let j = i - length here in
            let split : i ≡ length here + j = omega (arith, beyond) in
            let moved : start + length here + j ≡ start + i = omega (arith, beyond) in
            elim (extra_occurrence ys (start + length here) j x (sym (slice_right here rest i j split) ∙ e)) [
              | inl d ↦ inl d
              | inr o ↦ inr (behind sorts first later (start + i) x (subst (λ o. IsOfSymbol sorts later o x) moved o))
            ]
      ]

  -- an attribute of the left side
  pub record IsOwn (p : Production) (o : ℕ) (x : Occurrence) : Type 0 where
    pub attr : Attr
    pub has_attr : slice_get (attrs_of_sort sorts p.left) o ≡ Some attr
    pub is : own_occurrence attr ≡ x

  -- Each occurrence is one of the left side's attributes, or is to be defined, or is an attribute of a symbol.
  pub occurrence_cases : (p : Production) (o : ℕ) (x : Occurrence) → slice_get (occurrences_of sorts p) o ≡ Some x
      → IsOwn p o x ⊎ ((x.is_defined ≡ true) ⊎ IsOfSymbol sorts (symbols_of sorts p) o x)
  occurrence_cases p o x e =
      let own = map own_occurrence (attrs_of_sort sorts p.left) in
      let kids = flat_map (λ (kid : Kid). map symbol_occurrence (attrs_of sorts kid.kind)) p.kids in
      let extras = flat_map (extra_occurrences sorts) p.extras in
      let owns = length-map (attrs_of_sort sorts p.left) own_occurrence in
      elim (cases_lt o (length own)) [
        | inl less ↦
            let found = of_mapped own_occurrence (attrs_of_sort sorts p.left) o x (sym (slice_left own (kids ++ extras) o less) ∙ e) in
            inl (record { attr = found.0; has_attr = found.1; is = found.2 })
        | inr beyond ↦
            let i = o - length own in
            let split : o ≡ length own + i = omega (arith, beyond) in
            let f : slice_get (kids ++ extras) i ≡ Some x = sym (slice_right own (kids ++ extras) o i split) ∙ e in
            inr
            (elim (cases_lt i (length kids)) [
              | inl less ↦
                  let at : own_end sorts p + i ≡ o = omega (arith, beyond, owns) in
                  inr
                  (ahead sorts (kid_symbols sorts (own_end sorts p) p.kids) (extra_symbols sorts (kids_end sorts p) p.extras) o x
                  (subst (λ n. IsOfSymbol sorts (kid_symbols sorts (own_end sorts p) p.kids) n x) at
                  (kid_occurrence p.kids (own_end sorts p) i x (sym (slice_left kids extras i less) ∙ f))))
              | inr further ↦
                  let j = i - length kids in
                  let apart : i ≡ length kids + j = omega (arith, further) in
                  let at : kids_end sorts p + j ≡ o = omega (arith, beyond, owns, further) in
                  elim (extra_occurrence p.extras (kids_end sorts p) j x (sym (slice_right kids extras i j apart) ∙ f)) [
                    | inl d ↦ inl d
                    | inr s ↦
                        inr
                        (behind sorts (kid_symbols sorts (own_end sorts p) p.kids) (extra_symbols sorts (kids_end sorts p) p.extras) o x
                        (subst (λ n. IsOfSymbol sorts (extra_symbols sorts (kids_end sorts p) p.extras) n x) at s))
                  ]
            ])
      ]
