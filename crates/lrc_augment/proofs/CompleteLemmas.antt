-- A production in which no equation is missing is left as it is: each copy is for what is to be defined and has no item.
use Rattle.std.proofs.Common.{◌≡◌, Bool, true, false, not, ◌&&◌, cond, List, [], ◌∷◌, ◌++◌, map, flat_map, filter, Some, None, refl, sym, ap, ◌∙◌}
use Rattle.std.proofs.lemmas.List.{append-nil}
use Rattle.std.proofs.lemmas.List.Concat.{flat_map-append}
use Rattle.lrc_base.specs.declared.raw.RawKind.{RawKind}
use Rattle.lrc_base.specs.declared.raw.RawKind.TheVariants as rk
use Rattle.lrc_base.specs.declared.raw.RawAttr.{RawAttr}
use Rattle.lrc_base.specs.declared.raw.RawSort.{RawSort}
use Rattle.lrc_base.specs.declared.raw.RawKid.{RawKid}
use Rattle.lrc_base.specs.declared.raw.RawItem.{RawItem}
use Rattle.lrc_base.specs.declared.raw.RawItem.TheVariants as item
use Rattle.lrc_base.specs.declared.raw.RawExpr.TheVariants as e
use Rattle.lrc_base.specs.declared.raw.RawProd.{RawProd}
use Rattle.lrc_base.specs.declared.raw.RawGrammar.{RawGrammar}
use Rattle.lrc_fault_meaning.specs.Faults.{Name, Fault, FaultKind, has_target, target_fault, missing_equation, attrs_named, attrs_of_kind, declared_by, missing_of_left, missing_of_symbol, missing_of_kid, missing_of_declared, missing}
use Rattle.lrc_augment.specs.Filled.{Symbol, symbol_of_kind, symbol_of_kid, symbol_of_item, symbols, has_inherited, has_synthesised, copy_down, copies_down, copy_of_only, copy_up, copies, filled_production, filled}

-- ---- lists

both_empty : {A : Type 0} (xs ys : List A) → xs ++ ys ≡ [] → (xs ≡ []) × (ys ≡ [])
both_empty [] ys h = (refl, h)
both_empty (x ∷ xs) ys h = absurd (cc)

-- where each that gives nothing by f gives nothing by g
nothing_from : {A B C : Type 0} (g : A → List B) (f : A → List C) (xs : List A) → ((x : A) → f x ≡ [] → g x ≡ []) → flat_map f xs ≡ [] → flat_map g xs ≡ []
nothing_from g f [] each none = refl
nothing_from g f (x ∷ xs) each none =
    let parts = both_empty (f x) (flat_map f xs) none in
    ap (λ ys. ys ++ flat_map g xs) (each x parts.0) ∙ nothing_from g f xs each parts.1

flat_flat : {A B C : Type 0} (g : B → List C) (s : A → List B) (xs : List A) → flat_map g (flat_map s xs) ≡ flat_map (λ x. flat_map g (s x)) xs
flat_flat g s [] = refl
flat_flat g s (x ∷ xs) = flat_map-append g (s x) (flat_map s xs) ∙ ap (λ ys. flat_map g (s x) ++ ys) (flat_flat g s xs)

-- ---- one attribute

no_down : (x y z : Bool) (fs : Fault) (made : List RawItem) → cond (x && not y) (fs ∷ []) [] ≡ [] → cond (x && (not y && z)) made [] ≡ []
no_down false y z fs made none = refl
no_down true true z fs made none = refl
no_down true false z fs made none = absurd (cc)

no_up : (b : Bool) (fs : Fault) (made : List RawItem) → cond b (fs ∷ []) [] ≡ [] → cond b made [] ≡ []
no_up true fs made none = absurd (cc)
no_up false fs made none = refl

-- ---- a production

module _ (sorts : List RawSort) (p : RawProd) where
  abbrev left : List RawAttr
  left = attrs_named sorts p.left

  attr_down : (c : Name) (a : RawAttr) → missing_of_symbol p c a ≡ [] → copy_down p.items left c a ≡ []
  attr_down c a none =
      no_down a.inherited (has_target p.items (record { owner = Some c; name = a.name })) (has_inherited left a) (target_fault missing_equation p.name (record { owner = Some c; name = a.name })) (item.OfKid c a.name (e.One a.name) ∷ []) none

  attrs_down : (c : Name) (attrs : List RawAttr) → flat_map (missing_of_symbol p c) attrs ≡ [] → flat_map (copies_down p.items left) (record { name = c; attrs = attrs } ∷ []) ≡ []
  attrs_down c attrs none =
      append-nil (flat_map (copy_down p.items left c) attrs) ∙ nothing_from (copy_down p.items left c) (missing_of_symbol p c) attrs (attr_down c) none

  kind_down : (c : Name) (kind : RawKind) → flat_map (missing_of_symbol p c) (attrs_of_kind sorts kind) ≡ [] → flat_map (copies_down p.items left) (symbol_of_kind sorts c kind) ≡ []
  kind_down c rk.Int none = refl
  kind_down c rk.Bool none = refl
  kind_down c rk.Name none = refl
  kind_down c (rk.Named n) none = attrs_down c (attrs_named sorts n) none

  item_down : (i : RawItem) → flat_map (missing_of_declared sorts p) (declared_by i) ≡ [] → flat_map (copies_down p.items left) (symbol_of_item sorts i) ≡ []
  item_down (item.Local n kind x) none = refl
  item_down (item.Attach n sort x) none =
      attrs_down n (attrs_named sorts sort) (both_empty (flat_map (missing_of_symbol p n) (attrs_named sorts sort)) [] none).0
  item_down (item.Own n x) none = refl
  item_down (item.OfKid c n x) none = refl
  item_down (item.Pattern pieces) none = refl

  attr_up : (all : List Symbol) (a : RawAttr) → missing_of_left p a ≡ [] → copy_up p.items all a ≡ []
  attr_up all a none =
      no_up (not a.inherited && not (has_target p.items (record { owner = None; name = a.name }))) (target_fault missing_equation p.name (record { owner = None; name = a.name })) (copy_of_only a.name (filter (λ (c : Symbol). has_synthesised c.attrs a) all)) none

  no_copies : missing sorts p ≡ [] → copies p.items left (symbols sorts p) ≡ []
  no_copies none =
      let of_left = flat_map (missing_of_left p) left in
      let of_kids = flat_map (missing_of_kid sorts p) p.kids in
      let of_items = flat_map (missing_of_declared sorts p) (flat_map declared_by p.items) in
      let parts = both_empty of_left (of_kids ++ of_items) none in
      let below = both_empty of_kids of_items parts.1 in
      let down = copies_down p.items left in
      let from_kids : flat_map down (flat_map (symbol_of_kid sorts) p.kids) ≡ [] =
      flat_flat down (symbol_of_kid sorts) p.kids
      ∙ nothing_from (λ (k : RawKid). flat_map down (symbol_of_kid sorts k)) (missing_of_kid sorts p) p.kids (λ k. kind_down k.name k.kind) below.0 in
      let from_items : flat_map down (flat_map (symbol_of_item sorts) p.items) ≡ [] =
      flat_flat down (symbol_of_item sorts) p.items
      ∙ nothing_from (λ i. flat_map down (symbol_of_item sorts i)) (λ i. flat_map (missing_of_declared sorts p) (declared_by i)) p.items item_down (sym (flat_flat (missing_of_declared sorts p) declared_by p.items) ∙ below.1) in
      ap (λ ys. ys ++ flat_map (copy_up p.items (symbols sorts p)) left)
      (flat_map-append down (flat_map (symbol_of_kid sorts) p.kids) (flat_map (symbol_of_item sorts) p.items)
      ∙ (ap (λ ys. ys ++ flat_map down (flat_map (symbol_of_item sorts) p.items)) from_kids ∙ from_items))
      ∙ nothing_from (copy_up p.items (symbols sorts p)) (missing_of_left p) left (attr_up (symbols sorts p)) parts.0

  production_stays : missing sorts p ≡ [] → filled_production sorts p ≡ p
  production_stays none =
      ap (λ is. let q : RawProd = record { name = p.name; left = p.left; kids = p.kids; items = is } in q)
      (ap (λ ys. p.items ++ ys) (no_copies none) ∙ append-nil p.items)

productions_stay : (sorts : List RawSort) (ps : List RawProd) → flat_map (missing sorts) ps ≡ [] → map (filled_production sorts) ps ≡ ps
productions_stay sorts [] none = refl
productions_stay sorts (p ∷ ps) none =
    let parts = both_empty (missing sorts p) (flat_map (missing sorts) ps) none in
    ap (λ q. q ∷ map (filled_production sorts) ps) (production_stays sorts p parts.0) ∙ ap (λ qs. p ∷ qs) (productions_stay sorts ps parts.1)

pub complete_stays : (g : RawGrammar) → flat_map (missing g.sorts) g.prods ≡ [] → filled g ≡ g
complete_stays g none = ap (λ ps. let h : RawGrammar = record { sorts = g.sorts; prods = ps; start = g.start } in h) (productions_stay g.sorts g.prods none)
