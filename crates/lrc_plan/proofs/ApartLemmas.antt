-- No item becomes available twice in a greedy plan.
use Rattle.std.proofs.Common.{◌≡◌, ℕ, zero, suc, ◌+◌, ◌-◌, ◌<◌, ◌≤◌, Bool, true, false, not, ◌&&◌, ◌==◌, cond, IsTrue, List, [], ◌∷◌, ◌++◌, map, length, Contains, Option, Some, None, ◌⊎◌, inl, inr, slice_get, refl, sym, ap, ◌∙◌, subst, arith, length-append}
use Rattle.std.specs.Prelude.{flat_map, AllPairs}
use Rattle.std.specs.Option.{option_map, option_map_or}
use Rattle.std.specs.List.{range_with_len}
use Rattle.std.proofs.lemmas.Bool.{true≢false, false≢true, not-true, cases_order, and_parts, eqb-true}
use Rattle.std.proofs.lemmas.Option.{none-some, same_Some, slice_get-map, slice_get-get_or, slice_get_within}
use Rattle.std.proofs.lemmas.List.{length-map}
use Rattle.std.proofs.lemmas.List.Elements.{Contains-append_cases}
use Rattle.lrc_base.specs.declared.grammar.Attr.{Attr}
use Rattle.lrc_base.specs.declared.grammar.Kind.{Kind}
use Rattle.lrc_base.specs.declared.grammar.Kind.TheVariants as k
use Rattle.lrc_base.specs.declared.grammar.Kid.{Kid}
use Rattle.lrc_base.specs.declared.grammar.Extra.{Extra}
use Rattle.lrc_base.specs.declared.grammar.Sort.{Sort}
use Rattle.lrc_base.specs.declared.grammar.Production.{Production}
use Rattle.lrc_meaning.specs.Grammar.{Grammar, Occurrence, attrs_of_sort, attrs_of, own_occurrence, symbol_occurrence, extra_occurrences, occurrences_of}
use Rattle.lrc_meaning.proofs.ListLemmas.{slice_left, slice_right}
use Rattle.lrc_order_meaning.specs.declared.Place.{Place}
use Rattle.lrc_order_meaning.specs.declared.Partition.{Partition}
use Rattle.lrc_order_meaning.specs.Needs.{symbol_of, kid_symbols, extra_symbols, own_end, kids_end, kid_count, extra_count, symbols_of, left_place}
use Rattle.lrc_plan_meaning.specs.declared.Action.{Action}
use Rattle.lrc_plan_meaning.specs.declared.Action.TheVariants as a
use Rattle.lrc_plan_meaning.specs.declared.Bound.{Bound}
use Rattle.lrc_plan_meaning.specs.declared.Bound.TheVariants as b
use Rattle.lrc_plan_meaning.specs.Items.{visit_of, visits_of, is_of, attrs_of_visit, values_of_visit, symbol_at, makes}
use Rattle.lrc_plan_meaning.specs.Sequences.{is_defined, segment}
use Rattle.lrc_plan_meaning.specs.Bindings.{gained}
use Rattle.lrc_order_meaning.proofs.MemberLemmas.{member_cases, no_member, member_of_map, member_of_flat, member_of_filter, member_of_range}
use Rattle.lrc_plan.proofs.DistinctLemmas.{Distinct}
use Rattle.lrc_plan.proofs.OnceLemmas.{join_distinct, distinct_map, distinct_filter, distinct_range, distinct_flat, pairs_of_distinct, IsVisitOf, action_cases, segment_once, segments_apart, segment_actions}

attr_told : (o : Option Attr) (inherited : Bool) → option_map_or (λ (attr : Attr). cond inherited attr.inherited (not attr.inherited)) o false ≡ true
    → (attr : Attr) × (o ≡ Some attr) × (attr.inherited ≡ inherited)
attr_told None inherited h = absurd (false≢true h)
attr_told (Some attr) true h = (attr, refl, h)
attr_told (Some attr) false h = (attr, refl, not-true attr.inherited h)

-- an attribute of a visit is one of the sort, of its direction
pub attr_in_visit : (g : Grammar) (parts : List Partition) (s : ℕ) (inherited : Bool) (v x : ℕ) → Contains (attrs_of_visit g.sorts parts inherited s v) x
    → (attr : Attr) × (slice_get (attrs_of_sort g.sorts s) x ≡ Some attr) × (attr.inherited ≡ inherited)
attr_in_visit g parts s inherited v x c =
    let there = member_of_filter (λ y. is_of (attrs_of_sort g.sorts s) inherited y && (visit_of parts s y == v)) (range_with_len 0 (length (attrs_of_sort g.sorts s))) x c in
    attr_told (slice_get (attrs_of_sort g.sorts s) x) inherited (and_parts (is_of (attrs_of_sort g.sorts s) inherited x) (visit_of parts s x == v) there.1).0

module _ (sorts : List Sort) where
  abbrev size : Place → ℕ
  size place = length (attrs_of_sort sorts place.sort)

  -- places whose occurrences stand one behind the other, from a number up to another
  abbrev InRow : ℕ → List Place → ℕ → Type 0
  InRow start [] end = start ≤ end
  InRow start (place ∷ places) end = (start ≤ place.start) × InRow (place.start + size place) places end

  row_append : (xs ys : List Place) (start mid end : ℕ) → InRow start xs mid → InRow mid ys end → InRow start (xs ++ ys) end
  row_append [] ys start mid end one other = row_earlier ys start mid end one other
    where
      row_earlier : (ys : List Place) (start mid end : ℕ) → start ≤ mid → InRow mid ys end → InRow start ys end
      row_earlier [] start mid end le h = omega (arith, le, h)
      row_earlier (y ∷ ys) start mid end le h = let l = h.0 in (omega (arith, le, l), h.1)
  row_append (x ∷ xs) ys start mid end one other = (one.0, row_append xs ys (x.start + size x) mid end one.1 other)

  kind_row : (kind : Kind) (start : ℕ) (tree : Option ℕ) → InRow start (symbol_of kind start tree) (start + length (attrs_of sorts kind))
  kind_row k.Int start tree = omega arith
  kind_row k.Bool start tree = omega arith
  kind_row k.Name start tree = omega arith
  kind_row (k.Sort s) start tree = (omega arith, omega arith)

  kid_row : (kids : List Kid) (start : ℕ) → InRow start (kid_symbols sorts start kids) (start + kid_count sorts kids)
  kid_row [] start = omega arith
  kid_row (kid ∷ kids) start =
      let n = length (attrs_of sorts kid.kind) in
      let all = length-append (map symbol_occurrence (attrs_of sorts kid.kind)) (flat_map (λ (kid : Kid). map symbol_occurrence (attrs_of sorts kid.kind)) kids) in
      let one = length-map (attrs_of sorts kid.kind) symbol_occurrence in
      let at : start + n + kid_count sorts kids ≡ start + kid_count sorts (kid ∷ kids) = omega (arith, all, one) in
      row_append (symbol_of kid.kind start None) (kid_symbols sorts (start + n) kids) start (start + n) (start + kid_count sorts (kid ∷ kids))
      (kind_row kid.kind start None) (subst (InRow (start + n) (kid_symbols sorts (start + n) kids)) at (kid_row kids (start + n)))

  attached_row : (kind : Kind) (c : Bool) (start : ℕ) → InRow start (cond c (symbol_of kind (start + 1) (Some start)) []) (start + length (cond c (map symbol_occurrence (attrs_of sorts kind)) []) + 1)
  attached_row kind false start = omega arith
  attached_row kind true start =
      let count = length-map (attrs_of sorts kind) symbol_occurrence in
      let at : start + 1 + length (attrs_of sorts kind) ≡ start + length (map symbol_occurrence (attrs_of sorts kind)) + 1 = omega (arith, count) in
      let le : start ≤ start + 1 = omega arith in
      row_append [] (symbol_of kind (start + 1) (Some start)) start (start + 1) (start + length (map symbol_occurrence (attrs_of sorts kind)) + 1) le
      (subst (InRow (start + 1) (symbol_of kind (start + 1) (Some start))) at (kind_row kind (start + 1) (Some start)))

  extra_row : (xs : List Extra) (start : ℕ) → InRow start (extra_symbols sorts start xs) (start + extra_count sorts xs)
  extra_row [] start = omega arith
  extra_row (x ∷ xs) start =
      let n = length (extra_occurrences sorts x) in
      let all = length-append (extra_occurrences sorts x) (flat_map (extra_occurrences sorts) xs) in
      let at : start + n + extra_count sorts xs ≡ start + extra_count sorts (x ∷ xs) = omega (arith, all) in
      let first : start + length (cond x.attached (map symbol_occurrence (attrs_of sorts x.kind)) []) + 1 ≡ start + n = omega arith in
      row_append (cond x.attached (symbol_of x.kind (start + 1) (Some start)) []) (extra_symbols sorts (start + n) xs) start (start + n) (start + extra_count sorts (x ∷ xs))
      (subst (InRow start (cond x.attached (symbol_of x.kind (start + 1) (Some start)) [])) first (attached_row x.kind x.attached start))
      (subst (InRow (start + n) (extra_symbols sorts (start + n) xs)) at (extra_row xs (start + n)))

  symbols_row : (p : Production) → InRow (own_end sorts p) (symbols_of sorts p) (kids_end sorts p + extra_count sorts p.extras)
  symbols_row p =
      row_append (kid_symbols sorts (own_end sorts p) p.kids) (extra_symbols sorts (kids_end sorts p) p.extras) (own_end sorts p) (kids_end sorts p) (kids_end sorts p + extra_count sorts p.extras)
      (kid_row p.kids (own_end sorts p)) (extra_row p.extras (kids_end sorts p))

  row_low : (ps : List Place) (start end i : ℕ) (place : Place) → InRow start ps end → slice_get ps i ≡ Some place → start ≤ place.start
  row_low [] start end i place h e = absurd (none-some place e)
  row_low (x ∷ xs) start end zero place h e = subst (λ (pl : Place). start ≤ pl.start) (same_Some x place e) h.0
  row_low (x ∷ xs) start end (suc i) place h e = let l = h.0 in let r = row_low xs (x.start + size x) end i place h.1 e in omega (arith, l, r)

  row_apart : (ps : List Place) (start end i j : ℕ) (one other : Place) → InRow start ps end → i < j → slice_get ps i ≡ Some one → slice_get ps j ≡ Some other → one.start + size one ≤ other.start
  row_apart [] start end i j one other h less e f = absurd (none-some one e)
  row_apart (x ∷ xs) start end i zero one other h less e f = absurd (omega arith)
  row_apart (x ∷ xs) start end zero (suc j) one other h less e f =
      subst (λ (pl : Place). pl.start + size pl ≤ other.start) (same_Some x one e) (row_low xs (x.start + size x) end j other h.1 f)
  row_apart (x ∷ xs) start end (suc i) (suc j) one other h less e f = row_apart xs (x.start + size x) end i j one other h.1 (omega arith) e f

  -- an occurrence of a symbol, by its place and its attribute
  record StandsAt (places : List Occurrence) (start : ℕ) (place : Place) (x : ℕ) (attr : Attr) : Type 0 where
    offset : ℕ
    at : place.start + x ≡ start + offset
    is : slice_get places offset ≡ Some (symbol_occurrence attr)

  in_front : (front : List Occurrence) (rest : List Occurrence) (start on : ℕ) (place : Place) (x : ℕ) (attr : Attr) → on ≡ start + length front → StandsAt rest on place x attr → StandsAt (front ++ rest) start place x attr
  in_front front rest start on place x attr is h =
      let at = h.at in
      record { offset = length front + h.offset; at = omega (arith, at, is); is = slice_right front rest (length front + h.offset) h.offset refl ∙ h.is }

  at_end : (front : List Occurrence) (rest : List Occurrence) (start : ℕ) (place : Place) (x : ℕ) (attr : Attr) → StandsAt front start place x attr → StandsAt (front ++ rest) start place x attr
  at_end front rest start place x attr h = record {
    offset = h.offset;
    at = h.at;
    is = slice_left front rest h.offset (slice_get_within front h.offset (symbol_occurrence attr) h.is) ∙ h.is;
  }

  kind_stands : (kind : Kind) (start i : ℕ) (tree : Option ℕ) (place : Place) (x : ℕ) (attr : Attr) → slice_get (symbol_of kind start tree) i ≡ Some place → slice_get (attrs_of_sort sorts place.sort) x ≡ Some attr
      → StandsAt (map symbol_occurrence (attrs_of sorts kind)) start place x attr
  kind_stands k.Int start i tree place x attr e f = absurd (none-some place e)
  kind_stands k.Bool start i tree place x attr e f = absurd (none-some place e)
  kind_stands k.Name start i tree place x attr e f = absurd (none-some place e)
  kind_stands (k.Sort s) start zero tree place x attr e f =
      let same = same_Some _ place e in
      let sort : place.sort ≡ s = ap (λ (pl : Place). pl.sort) (sym same) in
      let begin : place.start ≡ start = ap (λ (pl : Place). pl.start) (sym same) in
      record {
        offset = x;
        at = omega (arith, begin);
        is = slice_get-map symbol_occurrence (attrs_of_sort sorts s) x ∙ ap (option_map symbol_occurrence) (ap (λ r. slice_get (attrs_of_sort sorts r) x) (sym sort) ∙ f);
      }
  kind_stands (k.Sort s) start (suc i) tree place x attr e f = absurd (none-some place e)

  either_slice : (xs ys : List Place) (i : ℕ) (place : Place) → slice_get (xs ++ ys) i ≡ Some place → ((j : ℕ) × (slice_get xs j ≡ Some place)) ⊎ ((j : ℕ) × (slice_get ys j ≡ Some place))
  either_slice [] ys i place e = inr (i, e)
  either_slice (x ∷ xs) ys zero place e = inl (0, e)
  either_slice (x ∷ xs) ys (suc i) place e = elim (either_slice xs ys i place e) [ inl l ↦ inl (suc l.0, l.1) | inr r ↦ inr r ]

  kid_stands : (kids : List Kid) (start i : ℕ) (place : Place) (x : ℕ) (attr : Attr) → slice_get (kid_symbols sorts start kids) i ≡ Some place → slice_get (attrs_of_sort sorts place.sort) x ≡ Some attr
      → StandsAt (flat_map (λ (kid : Kid). map symbol_occurrence (attrs_of sorts kid.kind)) kids) start place x attr
  kid_stands [] start i place x attr e f = absurd (none-some place e)
  kid_stands (kid ∷ kids) start i place x attr e f =
      let front = map symbol_occurrence (attrs_of sorts kid.kind) in
      let rest = flat_map (λ (kid : Kid). map symbol_occurrence (attrs_of sorts kid.kind)) kids in
      let on = start + length (attrs_of sorts kid.kind) in
      let count = length-map (attrs_of sorts kid.kind) symbol_occurrence in
      elim (either_slice (symbol_of kid.kind start None) (kid_symbols sorts on kids) i place e) [
        | inl l ↦ at_end front rest start place x attr (kind_stands kid.kind start l.0 None place x attr l.1 f)
        | inr r ↦ in_front front rest start on place x attr (omega (arith, count)) (kid_stands kids on r.0 place x attr r.1 f)
      ]

  attached_stands : (kind : Kind) (c : Bool) (first : Occurrence) (start i : ℕ) (place : Place) (x : ℕ) (attr : Attr) → slice_get (cond c (symbol_of kind (start + 1) (Some start)) []) i ≡ Some place
      → slice_get (attrs_of_sort sorts place.sort) x ≡ Some attr → StandsAt (first ∷ cond c (map symbol_occurrence (attrs_of sorts kind)) []) start place x attr
  attached_stands kind false first start i place x attr e f = absurd (none-some place e)
  attached_stands kind true first start i place x attr e f =
      in_front (first ∷ []) (map symbol_occurrence (attrs_of sorts kind)) start (start + 1) place x attr refl (kind_stands kind (start + 1) i (Some start) place x attr e f)

  extra_stands : (xs : List Extra) (start i : ℕ) (place : Place) (x : ℕ) (attr : Attr) → slice_get (extra_symbols sorts start xs) i ≡ Some place → slice_get (attrs_of_sort sorts place.sort) x ≡ Some attr
      → StandsAt (flat_map (extra_occurrences sorts) xs) start place x attr
  extra_stands [] start i place x attr e f = absurd (none-some place e)
  extra_stands (y ∷ ys) start i place x attr e f =
      let front = extra_occurrences sorts y in
      let rest = flat_map (extra_occurrences sorts) ys in
      let on = start + length front in
      elim (either_slice (cond y.attached (symbol_of y.kind (start + 1) (Some start)) []) (extra_symbols sorts on ys) i place e) [
        | inl l ↦ at_end front rest start place x attr (attached_stands y.kind y.attached (record { kind = y.kind; is_defined = true; is_read = true }) start l.0 place x attr l.1 f)
        | inr r ↦ in_front front rest start on place x attr refl (extra_stands ys on r.0 place x attr r.1 f)
      ]

  symbol_stands : (p : Production) (i : ℕ) (place : Place) (x : ℕ) (attr : Attr) → slice_get (symbols_of sorts p) i ≡ Some place → slice_get (attrs_of_sort sorts place.sort) x ≡ Some attr
      → slice_get (occurrences_of sorts p) (place.start + x) ≡ Some (symbol_occurrence attr)
  symbol_stands p i place x attr e f =
      let own = map own_occurrence (attrs_of_sort sorts p.left) in
      let kids = flat_map (λ (kid : Kid). map symbol_occurrence (attrs_of sorts kid.kind)) p.kids in
      let extras = flat_map (extra_occurrences sorts) p.extras in
      let owns = length-map (attrs_of_sort sorts p.left) own_occurrence in
      let stands : StandsAt (kids ++ extras) (own_end sorts p) place x attr =
      elim (either_slice (kid_symbols sorts (own_end sorts p) p.kids) (extra_symbols sorts (kids_end sorts p) p.extras) i place e) [
        | inl l ↦ at_end kids extras (own_end sorts p) place x attr (kid_stands p.kids (own_end sorts p) l.0 place x attr l.1 f)
        | inr r ↦ in_front kids extras (own_end sorts p) (kids_end sorts p) place x attr refl (extra_stands p.extras (kids_end sorts p) r.0 place x attr r.1 f)
      ] in
      let at = stands.at in
      let total : place.start + x ≡ length own + stands.offset = omega (arith, at, owns) in
      slice_right own (kids ++ extras) (place.start + x) stands.offset total ∙ stands.is

value_same_occurrence : (x y : ℕ) → b.Value x ≡ b.Value y → x ≡ y
value_same_occurrence x y e = cc

kid_same_visit : (s i j t u w : ℕ) → b.Kid s i j ≡ b.Kid t u w → (s ≡ t) × (i ≡ u) × (j ≡ w)
kid_same_visit s i j t u w e = (cc, cc, cc)

no_value_kid : (x s i j : ℕ) → b.Value x ≡ b.Kid s i j → ⊥
no_value_kid x s i j e = absurd (cc)

module _ (g : Grammar) (parts : List Partition) (p : Production) where
  -- the item is a synthesised attribute of a symbol's visit
  record IsGiven (s v : ℕ) (z : Bound) : Type 0 where
    attribute : ℕ
    among : Contains (attrs_of_visit g.sorts parts false (symbol_at g.sorts p s).sort v) attribute
    is : z ≡ b.Value ((symbol_at g.sorts p s).start + attribute)

  -- the item is a binding of a symbol's visit to a later one
  record IsHanded (s v : ℕ) (z : Bound) : Type 0 where
    later : ℕ
    is : z ≡ b.Kid s v later

  made_by_visit : (s v : ℕ) (z : Bound) → Contains (makes g.sorts parts p (a.Visit s v)) z → IsGiven s v z ⊎ IsHanded s v z
  made_by_visit s v z c =
      let place = symbol_at g.sorts p s in
      let later = range_with_len (v + 1) (visits_of parts place.sort - v) in
      elim (Contains-append_cases (values_of_visit g.sorts parts false place.sort place.start v) (map (λ w. b.Kid s v w) later) z c) [
        | inl l ↦ let r = member_of_map (λ x. b.Value (place.start + x)) (attrs_of_visit g.sorts parts false place.sort v) z l in inl (record { attribute = r.0; among = r.1; is = sym r.2 })
        | inr m ↦ let r = member_of_map (λ w. b.Kid s v w) later z m in inr (record { later = r.0; is = sym r.2 })
      ]

  symbol_there : (s : ℕ) → s < length (symbols_of g.sorts p) → slice_get (symbols_of g.sorts p) s ≡ Some (symbol_at g.sorts p s)
  symbol_there s less = slice_get-get_or (symbols_of g.sorts p) s (left_place p) less

  -- an attribute of a visit has this visit
  visit_told : (inherited : Bool) (s v x : ℕ) → Contains (attrs_of_visit g.sorts parts inherited s v) x → visit_of parts s x ≡ v
  visit_told inherited s v x c =
      let there = member_of_filter (λ y. is_of (attrs_of_sort g.sorts s) inherited y && (visit_of parts s y == v)) (range_with_len 0 (length (attrs_of_sort g.sorts s))) x c in
      eqb-true (visit_of parts s x) v (and_parts (is_of (attrs_of_sort g.sorts s) inherited x) (visit_of parts s x == v) there.1).1

  -- what a symbol's visit gives is not to be defined
  given_undefined : (s v : ℕ) (z : Bound) → s < length (symbols_of g.sorts p) → (h : IsGiven s v z) → is_defined (occurrences_of g.sorts p) ((symbol_at g.sorts p s).start + h.attribute) ≡ false
  given_undefined s v z less h =
      let place = symbol_at g.sorts p s in
      let attr = attr_in_visit g parts place.sort false v h.attribute h.among in
      ap (λ o. option_map_or (λ (x : Occurrence). x.is_defined) o false) (symbol_stands g.sorts p s place h.attribute attr.0 (symbol_there s less) attr.1) ∙ attr.2

  eval_given : (o s v : ℕ) (z : Bound) → IsTrue (is_defined (occurrences_of g.sorts p) o) → s < length (symbols_of g.sorts p) → z ≡ b.Value o → IsGiven s v z ⊎ IsHanded s v z → ⊥
  eval_given o s v z defined less is (inl h) =
      let same = value_same_occurrence o ((symbol_at g.sorts p s).start + h.attribute) (sym is ∙ h.is) in
      true≢false (sym defined ∙ ap (is_defined (occurrences_of g.sorts p)) same ∙ given_undefined s v z less h)
  eval_given o s v z defined less is (inr h) = no_value_kid o s v h.later (sym is ∙ h.is)

  -- two symbols with the same occurrence are one, and the attribute is the same
  same_place : (s t x y : ℕ) → s < length (symbols_of g.sorts p) → t < length (symbols_of g.sorts p)
      → x < length (attrs_of_sort g.sorts (symbol_at g.sorts p s).sort) → y < length (attrs_of_sort g.sorts (symbol_at g.sorts p t).sort)
      → (symbol_at g.sorts p s).start + x ≡ (symbol_at g.sorts p t).start + y → (s ≡ t) × (x ≡ y)
  same_place s t x y ls lt lx ly e =
      let row = symbols_row g.sorts p in
      let end = kids_end g.sorts p + extra_count g.sorts p.extras in
      elim (cases_order s t) [
        | inl same ↦ (same, let start : (symbol_at g.sorts p s).start ≡ (symbol_at g.sorts p t).start = ap (λ i. (symbol_at g.sorts p i).start) same in omega (arith, start, e))
        | inr other ↦
            elim other [
              | inl below ↦
                  let h = row_apart g.sorts (symbols_of g.sorts p) (own_end g.sorts p) end s t (symbol_at g.sorts p s) (symbol_at g.sorts p t) row below (symbol_there s ls) (symbol_there t lt) in
                  absurd (omega (arith, h, lx, e))
              | inr above ↦
                  let h = row_apart g.sorts (symbols_of g.sorts p) (own_end g.sorts p) end t s (symbol_at g.sorts p t) (symbol_at g.sorts p s) row above (symbol_there t lt) (symbol_there s ls) in
                  absurd (omega (arith, h, ly, e))
            ]
      ]

  given_within : (s v : ℕ) (z : Bound) (h : IsGiven s v z) → h.attribute < length (attrs_of_sort g.sorts (symbol_at g.sorts p s).sort)
  given_within s v z h =
      let attr = attr_in_visit g parts (symbol_at g.sorts p s).sort false v h.attribute h.among in
      slice_get_within (attrs_of_sort g.sorts (symbol_at g.sorts p s).sort) h.attribute attr.0 attr.1

  visits_same : (s v t w : ℕ) (z : Bound) → s < length (symbols_of g.sorts p) → t < length (symbols_of g.sorts p) → IsGiven s v z ⊎ IsHanded s v z → IsGiven t w z ⊎ IsHanded t w z → (s ≡ t) × (v ≡ w)
  visits_same s v t w z ls lt (inl h) (inl k) =
      let same = same_place s t h.attribute k.attribute ls lt (given_within s v z h) (given_within t w z k) (value_same_occurrence _ _ (sym h.is ∙ k.is)) in
      let sort : (symbol_at g.sorts p s).sort ≡ (symbol_at g.sorts p t).sort = ap (λ i. (symbol_at g.sorts p i).sort) same.0 in (
        same.0,
        sym (visit_told false (symbol_at g.sorts p s).sort v h.attribute h.among) ∙ ap (λ r. visit_of parts r h.attribute) sort ∙ ap (visit_of parts (symbol_at g.sorts p t).sort) same.1
            ∙ visit_told false (symbol_at g.sorts p t).sort w k.attribute k.among,
      )
  visits_same s v t w z ls lt (inl h) (inr k) = absurd (no_value_kid _ t w k.later (sym h.is ∙ k.is))
  visits_same s v t w z ls lt (inr h) (inl k) = absurd (no_value_kid _ s v h.later (sym k.is ∙ h.is))
  visits_same s v t w z ls lt (inr h) (inr k) = let same = kid_same_visit s v h.later t w k.later (sym h.is ∙ k.is) in (same.0, same.1)

  abbrev Cases : Action → Type 0
  Cases x = ((o : ℕ) × (x ≡ a.Eval o) × IsTrue (is_defined (occurrences_of g.sorts p) o)) ⊎ IsVisitOf g.sorts parts p x

  eval_makes : (x : Action) (o : ℕ) (z : Bound) → x ≡ a.Eval o → Contains (makes g.sorts parts p x) z → z ≡ b.Value o
  eval_makes x o z is c =
      elim (member_cases (b.Value o) [] z (subst (λ y. Contains (makes g.sorts parts p y) z) is c)) [ inl e ↦ sym e | inr none ↦ absurd (no_member z none) ]

  visit_makes : (x : Action) (z : Bound) (h : IsVisitOf g.sorts parts p x) → Contains (makes g.sorts parts p x) z → IsGiven h.symbol h.visit z ⊎ IsHanded h.symbol h.visit z
  visit_makes x z h c = made_by_visit h.symbol h.visit z (subst (λ y. Contains (makes g.sorts parts p y) z) h.is c)

  -- two actions that make one item are one
  same_action : (x y : Action) (z : Bound) → Cases x → Cases y → Contains (makes g.sorts parts p x) z → Contains (makes g.sorts parts p y) z → x ≡ y
  same_action x y z (inl e) (inl f) c d = e.1 ∙ ap a.Eval (value_same_occurrence e.0 f.0 (sym (eval_makes x e.0 z e.1 c) ∙ eval_makes y f.0 z f.1 d)) ∙ sym f.1
  same_action x y z (inl e) (inr f) c d = absurd (eval_given e.0 f.symbol f.visit z e.2 f.there (eval_makes x e.0 z e.1 c) (visit_makes y z f d))
  same_action x y z (inr e) (inl f) c d = absurd (eval_given f.0 e.symbol e.visit z f.2 e.there (eval_makes y f.0 z f.1 d) (visit_makes x z e c))
  same_action x y z (inr e) (inr f) c d =
      let same = visits_same e.symbol e.visit f.symbol f.visit z e.there f.there (visit_makes x z e c) (visit_makes y z f d) in
      e.is ∙ ap (λ s. a.Visit s e.visit) same.0 ∙ ap (a.Visit f.symbol) same.1 ∙ sym f.is

  attrs_distinct : (inherited : Bool) (s v : ℕ) → Distinct (attrs_of_visit g.sorts parts inherited s v)
  attrs_distinct inherited s v =
      distinct_filter (λ y. is_of (attrs_of_sort g.sorts s) inherited y && (visit_of parts s y == v)) (range_with_len 0 (length (attrs_of_sort g.sorts s))) (distinct_range 0 (length (attrs_of_sort g.sorts s)))

  values_distinct : (inherited : Bool) (s start v : ℕ) → Distinct (values_of_visit g.sorts parts inherited s start v)
  values_distinct inherited s start v =
      distinct_map (λ x. b.Value (start + x)) (attrs_of_visit g.sorts parts inherited s v) (λ x y e. let same = value_same_occurrence (start + x) (start + y) e in omega (arith, same)) (attrs_distinct inherited s v)

  makes_distinct : (x : Action) → Distinct (makes g.sorts parts p x)
  makes_distinct (a.Eval o) = (λ c. no_member (b.Value o) c, tt)
  makes_distinct (a.Visit s v) =
      let place = symbol_at g.sorts p s in
      let later = range_with_len (v + 1) (visits_of parts place.sort - v) in
      join_distinct (values_of_visit g.sorts parts false place.sort place.start v) (map (λ w. b.Kid s v w) later) (values_distinct false place.sort place.start v)
      (distinct_map (λ w. b.Kid s v w) later (λ x y e. (kid_same_visit s v x s v y e).2) (distinct_range (v + 1) (visits_of parts place.sort - v)))
      (λ z c d.
      let one = member_of_map (λ x. b.Value (place.start + x)) (attrs_of_visit g.sorts parts false place.sort v) z c in
      let two = member_of_map (λ w. b.Kid s v w) later z d in
      no_value_kid (place.start + one.0) s v two.0 (one.2 ∙ sym two.2))

  cases_in : (v : ℕ) (x : Action) → Contains (segment g.sorts parts p v) x → Cases x
  cases_in v x c = action_cases g.sorts parts p x (segment_actions g.sorts parts p v x c)

  -- what the left side inherits is made by no action
  own_unmade : (v : ℕ) (x : Action) (z : Bound) → Cases x → Contains (values_of_visit g.sorts parts true p.left 0 v) z → ¬ Contains (makes g.sorts parts p x) z
  own_unmade v x z cases c d =
      let own = member_of_map (λ x. b.Value (0 + x)) (attrs_of_visit g.sorts parts true p.left v) z c in
      let i = own.0 in
      let attr = attr_in_visit g parts p.left true v i own.1 in
      let within = slice_get_within (attrs_of_sort g.sorts p.left) i attr.0 attr.1 in
      let at : 0 + i ≡ i = omega arith in
      elim cases [
        | inl e ↦
            let same : i ≡ e.0 = sym at ∙ value_same_occurrence (0 + i) e.0 (own.2 ∙ eval_makes x e.0 z e.1 d) in
            let less : i < length (map own_occurrence (attrs_of_sort g.sorts p.left)) = subst (λ n. i < n) (sym (length-map (attrs_of_sort g.sorts p.left) own_occurrence)) within in
            let undefined : is_defined (occurrences_of g.sorts p) i ≡ false =
            ap (λ o. option_map_or (λ (x : Occurrence). x.is_defined) o false)
            (slice_left (map own_occurrence (attrs_of_sort g.sorts p.left)) _ i less ∙ slice_get-map own_occurrence (attrs_of_sort g.sorts p.left) i ∙ ap (option_map own_occurrence) attr.1)
            ∙ ap not attr.2 in
            true≢false (sym e.2 ∙ ap (is_defined (occurrences_of g.sorts p)) (sym same) ∙ undefined)
        | inr h ↦
            elim (visit_makes x z h d) [
              | inl given ↦
                  let low = row_low g.sorts (symbols_of g.sorts p) (own_end g.sorts p) (kids_end g.sorts p + extra_count g.sorts p.extras) h.symbol (symbol_at g.sorts p h.symbol) (symbols_row g.sorts p) (symbol_there h.symbol h.there) in
                  let same = value_same_occurrence (0 + i) ((symbol_at g.sorts p h.symbol).start + given.attribute) (own.2 ∙ given.is) in
                  omega (arith, low, same, within)
              | inr handed ↦ no_value_kid (0 + i) h.symbol h.visit handed.later (own.2 ∙ handed.is)
            ]
      ]

  gained_distinct : (v : ℕ) → Distinct (gained g.sorts parts p v (segment g.sorts parts p v))
  gained_distinct v =
      let seg = segment g.sorts parts p v in
      join_distinct (values_of_visit g.sorts parts true p.left 0 v) (flat_map (makes g.sorts parts p) seg) (values_distinct true p.left 0 v)
      (distinct_flat (makes g.sorts parts p) seg (segment_once g.sorts parts p v) (λ x c. makes_distinct x)
      (λ x y c d differ z e f. differ (same_action x y z (cases_in v x c) (cases_in v y d) e f)))
      (λ z c d. let r = member_of_flat (makes g.sorts parts p) seg z d in own_unmade v r.0 z (cases_in v r.0 r.1) c r.2)

  gained_apart : (u v : ℕ) → 1 ≤ u → u < v → (z : Bound) → Contains (gained g.sorts parts p u (segment g.sorts parts p u)) z → ¬ Contains (gained g.sorts parts p v (segment g.sorts parts p v)) z
  gained_apart u v low less z c d =
      let one = segment g.sorts parts p u in
      let two = segment g.sorts parts p v in
      elim (Contains-append_cases (values_of_visit g.sorts parts true p.left 0 u) (flat_map (makes g.sorts parts p) one) z c) [
        | inl own ↦
            elim (Contains-append_cases (values_of_visit g.sorts parts true p.left 0 v) (flat_map (makes g.sorts parts p) two) z d) [
              | inl also ↦
                  let x = member_of_map (λ x. b.Value (0 + x)) (attrs_of_visit g.sorts parts true p.left u) z own in
                  let y = member_of_map (λ x. b.Value (0 + x)) (attrs_of_visit g.sorts parts true p.left v) z also in
                  let plus = value_same_occurrence (0 + x.0) (0 + y.0) (x.2 ∙ sym y.2) in
                  let same : x.0 ≡ y.0 = omega (arith, plus) in
                  let visit : u ≡ v = sym (visit_told true p.left u x.0 x.1) ∙ ap (visit_of parts p.left) same ∙ visit_told true p.left v y.0 y.1 in
                  absurd (omega (arith, visit, less))
              | inr made ↦ let r = member_of_flat (makes g.sorts parts p) two z made in own_unmade u r.0 z (cases_in v r.0 r.1) own r.2
            ]
        | inr made ↦
            let r = member_of_flat (makes g.sorts parts p) one z made in
            elim (Contains-append_cases (values_of_visit g.sorts parts true p.left 0 v) (flat_map (makes g.sorts parts p) two) z d) [
              | inl own ↦ own_unmade v r.0 z (cases_in u r.0 r.1) own r.2
              | inr also ↦
                  let q = member_of_flat (makes g.sorts parts p) two z also in
                  let same = same_action r.0 q.0 z (cases_in u r.0 r.1) (cases_in v q.0 q.1) r.2 q.2 in
                  segments_apart g.sorts parts p u v low less r.0 r.1 (subst (Contains two) (sym same) q.1)
            ]
      ]

  -- In a greedy plan no item becomes available twice, in one visit or in two.
  pub plan_fresh : AllPairs (λ x y. ¬ (x ≡ y)) (flat_map (λ v. gained g.sorts parts p v (segment g.sorts parts p v)) (range_with_len 1 (visits_of parts p.left)))
  plan_fresh =
      pairs_of_distinct (flat_map (λ v. gained g.sorts parts p v (segment g.sorts parts p v)) (range_with_len 1 (visits_of parts p.left)))
      (distinct_flat (λ v. gained g.sorts parts p v (segment g.sorts parts p v)) (range_with_len 1 (visits_of parts p.left)) (distinct_range 1 (visits_of parts p.left)) (λ v c. gained_distinct v)
      (λ u v c d differ z e f.
      let bu = member_of_range 1 (visits_of parts p.left) u c in
      let bv = member_of_range 1 (visits_of parts p.left) v d in
      elim (cases_order u v) [
        | inl same ↦ differ same
        | inr other ↦ elim other [ inl below ↦ gained_apart u v bu.0 below z e f | inr above ↦ gained_apart v u bv.0 above z f e ]
      ]))
