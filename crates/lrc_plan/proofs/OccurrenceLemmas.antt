-- What stands at an occurrence: it is defined, or inherited by the left side, or synthesised by a symbol.
use Rattle.std.proofs.Common.{◌≡◌, ℕ, zero, suc, ◌+◌, ◌-◌, ◌<◌, Bool, true, false, cond, List, [], ◌∷◌, ◌++◌, length, map, get_or, slice_get, Contains, Option, Some, None, ◌⊎◌, inl, inr, refl, sym, ap, ◌∙◌, length-append, arith}
use Rattle.std.specs.Prelude.{flat_map}
use Rattle.std.proofs.lemmas.Bool.{cases_lt}
use Rattle.std.proofs.lemmas.Option.{slice_get-get_or}
use Rattle.std.proofs.lemmas.List.{length-map, get_or-map, get_or_append_left, get_or-append-add}
use Rattle.std.proofs.lemmas.List.Elements.{Contains-append_left, Contains-append_right}
use Rattle.lrc_base.specs.declared.grammar.Kind.{Kind}
use Rattle.lrc_base.specs.declared.grammar.Kind.TheVariants as k
use Rattle.lrc_base.specs.declared.grammar.Attr.{Attr}
use Rattle.lrc_base.specs.declared.grammar.Sort.{Sort}
use Rattle.lrc_base.specs.declared.grammar.Kid.{Kid}
use Rattle.lrc_base.specs.declared.grammar.Extra.{Extra}
use Rattle.lrc_base.specs.declared.grammar.Production.{Production}
use Rattle.lrc_meaning.specs.Grammar.{Occurrence, attrs_of_sort, attrs_of, own_occurrence, symbol_occurrence, extra_occurrences, occurrences_of}
use Rattle.lrc_order_meaning.specs.declared.Place.{Place}
use Rattle.lrc_order_meaning.specs.Needs.{symbol_of, kid_symbols, extra_symbols, own_end, kids_end, symbols_of}
use Rattle.lrc_ordered.proofs.BridgeLemmas.{item_at}
use Rattle.lrc_order_meaning.proofs.MemberLemmas.{member_first}

-- occurrence number `at` is that of an attribute of one of the places
pub record OfPlace (sorts : List Sort) (places : List Place) (at : ℕ) (x : Occurrence) : Type 0 where
  pub place : Place
  pub is_place : Contains places place
  pub number : ℕ
  pub attr : Attr
  pub is_attr : slice_get (attrs_of_sort sorts place.sort) number ≡ Some attr
  pub stands : at ≡ place.start + number
  pub is : x ≡ symbol_occurrence attr

module _ (sorts : List Sort) where
  -- the attributes of a symbol of a kind
  of_symbol : (kind : Kind) (start : ℕ) (tree : Option ℕ) (i : ℕ) (d : Occurrence) → i < length (map symbol_occurrence (attrs_of sorts kind))
      → OfPlace sorts (symbol_of kind start tree) (start + i) (get_or (map symbol_occurrence (attrs_of sorts kind)) i d)
  of_symbol k.Int start tree i d less = absurd (omega arith)
  of_symbol k.Bool start tree i d less = absurd (omega arith)
  of_symbol k.Name start tree i d less = absurd (omega arith)
  of_symbol (k.Sort s) start tree i d less =
      let count = length-map (attrs_of_sort sorts s) symbol_occurrence in
      let attr = item_at (attrs_of_sort sorts s) i (omega arith) in
      record {
        place = record { sort = s; start = start; tree = tree };
        is_place = member_first (record { sort = s; start = start; tree = tree }) [];
        number = i;
        attr = attr.0;
        is_attr = slice_get-get_or (attrs_of_sort sorts s) i attr.0 (omega arith) ∙ ap Some attr.1;
        stands = refl;
        is = get_or-map symbol_occurrence (attrs_of_sort sorts s) i attr.0 d (omega arith) ∙ ap symbol_occurrence attr.1;
      }

  wider : (ps qs : List Place) (at : ℕ) (x : Occurrence) → OfPlace sorts ps at x → OfPlace sorts (ps ++ qs) at x
  wider ps qs at x h = record { place = h.place; is_place = Contains-append_left ps qs h.place h.is_place; number = h.number; attr = h.attr; is_attr = h.is_attr; stands = h.stands; is = h.is }

  wider_right : (ps qs : List Place) (at : ℕ) (x : Occurrence) → OfPlace sorts qs at x → OfPlace sorts (ps ++ qs) at x
  wider_right ps qs at x h = record { place = h.place; is_place = Contains-append_right ps qs h.place h.is_place; number = h.number; attr = h.attr; is_attr = h.is_attr; stands = h.stands; is = h.is }

  moved : (ps : List Place) (at to : ℕ) (x y : Occurrence) → at ≡ to → x ≡ y → OfPlace sorts ps at x → OfPlace sorts ps to y
  moved ps at to x y e f h = record { place = h.place; is_place = h.is_place; number = h.number; attr = h.attr; is_attr = h.is_attr; stands = sym e ∙ h.stands; is = sym f ∙ h.is }

  abbrev kid_part : Kid → List Occurrence
  kid_part kid = map symbol_occurrence (attrs_of sorts kid.kind)

  of_kids : (start : ℕ) (kids : List Kid) (i : ℕ) (d : Occurrence) → i < length (flat_map kid_part kids) → OfPlace sorts (kid_symbols sorts start kids) (start + i) (get_or (flat_map kid_part kids) i d)
  of_kids start [] i d less = absurd (omega arith)
  of_kids start (kid ∷ kids) i d less =
      let both = length-append (kid_part kid) (flat_map kid_part kids) in
      let count = length-map (attrs_of sorts kid.kind) symbol_occurrence in
      let rest = kid_symbols sorts (start + length (attrs_of sorts kid.kind)) kids in
      elim (cases_lt i (length (kid_part kid))) [
        | inl low ↦
            wider (symbol_of kid.kind start None) rest (start + i) (get_or (kid_part kid ++ flat_map kid_part kids) i d)
            (moved (symbol_of kid.kind start None) (start + i) (start + i) (get_or (kid_part kid) i d) (get_or (kid_part kid ++ flat_map kid_part kids) i d) refl
            (sym (get_or_append_left (kid_part kid) (flat_map kid_part kids) d i low)) (of_symbol kid.kind start None i d low))
        | inr high ↦
            let j = i - length (kid_part kid) in
            let at : (start + length (attrs_of sorts kid.kind)) + j ≡ start + i = omega arith in
            let e : length (kid_part kid) + j ≡ i = omega arith in
            wider_right (symbol_of kid.kind start None) rest (start + i) (get_or (kid_part kid ++ flat_map kid_part kids) i d)
            (moved rest ((start + length (attrs_of sorts kid.kind)) + j) (start + i) (get_or (flat_map kid_part kids) j d) (get_or (kid_part kid ++ flat_map kid_part kids) i d) at
            (sym (get_or-append-add (kid_part kid) (flat_map kid_part kids) j d) ∙ ap (λ n. get_or (kid_part kid ++ flat_map kid_part kids) n d) e)
            (of_kids (start + length (attrs_of sorts kid.kind)) kids j d (omega arith)))
      ]

  abbrev OfExtra : List Place → ℕ → Occurrence → Type 0
  OfExtra places at x = (x.is_defined ≡ true) ⊎ OfPlace sorts places at x

  of_attached : (kind : Kind) (attached : Bool) (start i : ℕ) (d : Occurrence) → i < length (cond attached (map symbol_occurrence (attrs_of sorts kind)) [])
      → OfPlace sorts (cond attached (symbol_of kind (start + 1) (Some start)) []) (start + 1 + i) (get_or (cond attached (map symbol_occurrence (attrs_of sorts kind)) []) i d)
  of_attached kind true start i d less = of_symbol kind (start + 1) (Some start) i d less
  of_attached kind false start i d less = absurd (omega arith)

  of_extra : (x : Extra) (start i : ℕ) (d : Occurrence) → i < length (extra_occurrences sorts x)
      → OfExtra (cond x.attached (symbol_of x.kind (start + 1) (Some start)) []) (start + i) (get_or (extra_occurrences sorts x) i d)
  of_extra x start zero d less = inl refl
  of_extra x start (suc i) d less =
      let at : start + 1 + i ≡ start + suc i = omega arith in
      inr (moved (cond x.attached (symbol_of x.kind (start + 1) (Some start)) []) (start + 1 + i) (start + suc i)
      (get_or (cond x.attached (map symbol_occurrence (attrs_of sorts x.kind)) []) i d) (get_or (extra_occurrences sorts x) (suc i) d) at refl (of_attached x.kind x.attached start i d (omega arith)))

  of_extras : (start : ℕ) (xs : List Extra) (i : ℕ) (d : Occurrence) → i < length (flat_map (extra_occurrences sorts) xs)
      → OfExtra (extra_symbols sorts start xs) (start + i) (get_or (flat_map (extra_occurrences sorts) xs) i d)
  of_extras start [] i d less = absurd (omega arith)
  of_extras start (x ∷ xs) i d less =
      let own = extra_occurrences sorts x in
      let others = flat_map (extra_occurrences sorts) xs in
      let both = length-append own others in
      let here = cond x.attached (symbol_of x.kind (start + 1) (Some start)) [] in
      let rest = extra_symbols sorts (start + length own) xs in
      elim (cases_lt i (length own)) [
        | inl low ↦
            let e = get_or_append_left own others d i low in
            elim (of_extra x start i d low) [
              | inl defined ↦ inl (ap (λ (y : Occurrence). y.is_defined) e ∙ defined)
              | inr h ↦ inr (wider here rest (start + i) (get_or (own ++ others) i d) (moved here (start + i) (start + i) (get_or own i d) (get_or (own ++ others) i d) refl (sym e) h))
            ]
        | inr high ↦
            let j = i - length own in
            let at : (start + length own) + j ≡ start + i = omega arith in
            let n : length own + j ≡ i = omega arith in
            let e : get_or others j d ≡ get_or (own ++ others) i d = sym (get_or-append-add own others j d) ∙ ap (λ m. get_or (own ++ others) m d) n in
            elim (of_extras (start + length own) xs j d (omega arith)) [
              | inl defined ↦ inl (sym (ap (λ (y : Occurrence). y.is_defined) e) ∙ defined)
              | inr h ↦ inr (wider_right here rest (start + i) (get_or (own ++ others) i d) (moved rest ((start + length own) + j) (start + i) (get_or others j d) (get_or (own ++ others) i d) at e h))
            ]
      ]

-- an attribute of the left side
pub record OfLeft (sorts : List Sort) (p : Production) (at : ℕ) (x : Occurrence) : Type 0 where
  pub attr : Attr
  pub is_attr : slice_get (attrs_of_sort sorts p.left) at ≡ Some attr
  pub is : x ≡ own_occurrence attr

pub stands_at : (sorts : List Sort) (p : Production) (o : ℕ) (d : Occurrence) → o < length (occurrences_of sorts p)
    → OfLeft sorts p o (get_or (occurrences_of sorts p) o d) ⊎ ((get_or (occurrences_of sorts p) o d).is_defined ≡ true) ⊎ OfPlace sorts (symbols_of sorts p) o (get_or (occurrences_of sorts p) o d)
stands_at sorts p o d less =
    let attrs = attrs_of_sort sorts p.left in
    let own = map own_occurrence attrs in
    let kids = flat_map (kid_part sorts) p.kids in
    let extras = flat_map (extra_occurrences sorts) p.extras in
    let size = length-map attrs own_occurrence in
    let both = length-append own (kids ++ extras) in
    let more = length-append kids extras in
    elim (cases_lt o (length own)) [
      | inl low ↦
          let attr = item_at attrs o (omega arith) in
          inl (record {
            attr = attr.0;
            is_attr = slice_get-get_or attrs o attr.0 (omega arith) ∙ ap Some attr.1;
            is = get_or_append_left own (kids ++ extras) d o low ∙ get_or-map own_occurrence attrs o attr.0 d (omega arith) ∙ ap own_occurrence attr.1;
          })
      | inr high ↦
          let j = o - length own in
          let n : length own + j ≡ o = omega arith in
          let e : get_or (kids ++ extras) j d ≡ get_or (own ++ (kids ++ extras)) o d = sym (get_or-append-add own (kids ++ extras) j d) ∙ ap (λ m. get_or (own ++ (kids ++ extras)) m d) n in
          elim (cases_lt j (length kids)) [
            | inl few ↦
                let at : own_end sorts p + j ≡ o = omega arith in
                inr (inr (wider sorts (kid_symbols sorts (own_end sorts p) p.kids) (extra_symbols sorts (kids_end sorts p) p.extras) o (get_or (own ++ (kids ++ extras)) o d)
                (moved sorts (kid_symbols sorts (own_end sorts p) p.kids) (own_end sorts p + j) o (get_or kids j d) (get_or (own ++ (kids ++ extras)) o d) at
                (sym (get_or_append_left kids extras d j few) ∙ e) (of_kids sorts (own_end sorts p) p.kids j d few))))
            | inr many ↦
                let i = j - length kids in
                let at : kids_end sorts p + i ≡ o = omega arith in
                let k2 : length kids + i ≡ j = omega arith in
                let f : get_or extras i d ≡ get_or (own ++ (kids ++ extras)) o d = sym (get_or-append-add kids extras i d) ∙ ap (λ m. get_or (kids ++ extras) m d) k2 ∙ e in
                elim (of_extras sorts (kids_end sorts p) p.extras i d (omega arith)) [
                  | inl defined ↦ inr (inl (sym (ap (λ (y : Occurrence). y.is_defined) f) ∙ defined))
                  | inr h ↦
                      inr (inr (wider_right sorts (kid_symbols sorts (own_end sorts p) p.kids) (extra_symbols sorts (kids_end sorts p) p.extras) o (get_or (own ++ (kids ++ extras)) o d)
                      (moved sorts (extra_symbols sorts (kids_end sorts p) p.extras) (kids_end sorts p + i) o (get_or extras i d) (get_or (own ++ (kids ++ extras)) o d) at f h)))
                ]
          ]
    ]
