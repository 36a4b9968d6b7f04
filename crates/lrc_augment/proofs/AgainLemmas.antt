-- A filled production has nothing more to be filled in: each copy that was made is an item for what it defines, and no
-- copy is a symbol.
use Rattle.std.proofs.Common.{◌≡◌, ℕ, Bool, true, false, not, ◌&&◌, ◌||◌, ◌⊎◌, inl, inr, cond, List, [], ◌∷◌, ◌++◌, map, flat_map, filter, Some, None, refl, sym, ap, ◌∙◌, subst}
use Rattle.std.specs.List.{list_any}
use Rattle.std.specs.Str.{bytes_eq}
use Rattle.std.specs.Cmp.Lexicographic.{bytes_decides}
use Rattle.std.proofs.lemmas.List.{append-nil}
use Rattle.std.proofs.lemmas.List.Concat.{flat_map-append}
use Rattle.std.proofs.lemmas.List.Folds.{list_any-append}
use Rattle.lrc_base.specs.declared.raw.RawAttr.{RawAttr}
use Rattle.lrc_base.specs.declared.raw.RawSort.{RawSort}
use Rattle.lrc_base.specs.declared.raw.RawItem.{RawItem}
use Rattle.lrc_base.specs.declared.raw.RawItem.TheVariants as item
use Rattle.lrc_base.specs.declared.raw.RawExpr.TheVariants as e
use Rattle.lrc_base.specs.declared.raw.RawProd.{RawProd}
use Rattle.lrc_base.specs.declared.raw.RawGrammar.{RawGrammar}
use Rattle.lrc_fault_meaning.specs.Faults.{Name, Target, same_target, target_of, has_target, attrs_named}
use Rattle.lrc_augment.specs.Filled.{Symbol, symbol_of_kid, symbol_of_item, symbols, has_inherited, has_synthesised, copy_down, copies_down, copy_of_only, copy_up, copies, filled_production, filled}
use Rattle.lrc_augment.proofs.ListLemmas.{any_flat}

-- ---- lists

-- whatever has one that passes, the other has one too
abbrev IsWithin : List RawItem → List RawItem → Type 0
IsWithin xs ys = (q : RawItem → Bool) → list_any q xs ≡ true → list_any q ys ≡ true

or_left : (a b : Bool) → a ≡ true → (a || b) ≡ true
or_left true b h = refl
or_left false b h = absurd (cc)

or_right : (a b : Bool) → b ≡ true → (a || b) ≡ true
or_right true b h = refl
or_right false b h = h

front : (xs ys whole : List RawItem) → IsWithin (xs ++ ys) whole → IsWithin xs whole
front xs ys whole within q h = within q (list_any-append q xs ys ∙ or_left (list_any q xs) (list_any q ys) h)

back : (xs ys whole : List RawItem) → IsWithin (xs ++ ys) whole → IsWithin ys whole
back xs ys whole within q h = within q (list_any-append q xs ys ∙ or_right (list_any q xs) (list_any q ys) h)

-- where each that gave something within the whole now gives nothing
nothing_more : {A : Type 0} (g f : A → List RawItem) (whole : List RawItem) (xs : List A) → IsWithin (flat_map f xs) whole → ((x : A) → IsWithin (f x) whole → g x ≡ []) → flat_map g xs ≡ []
nothing_more g f whole [] within each = refl
nothing_more g f whole (x ∷ xs) within each =
    ap (λ ys. ys ++ flat_map g xs) (each x (front (f x) (flat_map f xs) whole within))
    ∙ nothing_more g f whole xs (back (f x) (flat_map f xs) whole within) each

-- ---- symbols: no copy is one

no_symbols : {A : Type 0} (sorts : List RawSort) (f : A → List RawItem) (xs : List A) → ((x : A) → flat_map (symbol_of_item sorts) (f x) ≡ []) → flat_map (symbol_of_item sorts) (flat_map f xs) ≡ []
no_symbols sorts f [] each = refl
no_symbols sorts f (x ∷ xs) each =
    flat_map-append (symbol_of_item sorts) (f x) (flat_map f xs)
    ∙ (ap (λ ys. ys ++ flat_map (symbol_of_item sorts) (flat_map f xs)) (each x) ∙ no_symbols sorts f xs each)

module _ (sorts : List RawSort) where
  quiet : (b : Bool) (xs : List RawItem) → flat_map (symbol_of_item sorts) xs ≡ [] → flat_map (symbol_of_item sorts) (cond b xs []) ≡ []
  quiet true xs none = none
  quiet false xs none = refl

  only_quiet : (a : Name) (cs : List Symbol) → flat_map (symbol_of_item sorts) (copy_of_only a cs) ≡ []
  only_quiet a [] = refl
  only_quiet a (c ∷ []) = refl
  only_quiet a (c ∷ (d ∷ more)) = refl

  down_quiet : (items : List RawItem) (left : List RawAttr) (c : Symbol) → flat_map (symbol_of_item sorts) (copies_down items left c) ≡ []
  down_quiet items left c =
      no_symbols sorts (copy_down items left c.name) c.attrs
      (λ a. quiet (a.inherited && (not (has_target items (record { owner = Some c.name; name = a.name })) && has_inherited left a)) (item.OfKid c.name a.name (e.One a.name) ∷ []) refl)

  up_quiet : (items : List RawItem) (all : List Symbol) (a : RawAttr) → flat_map (symbol_of_item sorts) (copy_up items all a) ≡ []
  up_quiet items all a =
      quiet (not a.inherited && not (has_target items (record { owner = None; name = a.name }))) (copy_of_only a.name (filter (λ (c : Symbol). has_synthesised c.attrs a) all)) (only_quiet a.name (filter (λ (c : Symbol). has_synthesised c.attrs a) all))

  copies_quiet : (items : List RawItem) (left : List RawAttr) (all : List Symbol) → flat_map (symbol_of_item sorts) (copies items left all) ≡ []
  copies_quiet items left all =
      flat_map-append (symbol_of_item sorts) (flat_map (copies_down items left) all) (flat_map (copy_up items all) left)
      ∙ (ap (λ ys. ys ++ flat_map (symbol_of_item sorts) (flat_map (copy_up items all) left)) (no_symbols sorts (copies_down items left) all (down_quiet items left))
      ∙ no_symbols sorts (copy_up items all) left (up_quiet items all))

  same_symbols : (p : RawProd) → symbols sorts (filled_production sorts p) ≡ symbols sorts p
  same_symbols p =
      let made = copies p.items (attrs_named sorts p.left) (symbols sorts p) in
      ap (λ ys. flat_map (symbol_of_kid sorts) p.kids ++ ys)
      (flat_map-append (symbol_of_item sorts) p.items made
      ∙ (ap (λ ys. flat_map (symbol_of_item sorts) p.items ++ ys) (copies_quiet p.items (attrs_named sorts p.left) (symbols sorts p)) ∙ append-nil (flat_map (symbol_of_item sorts) p.items)))

-- ---- copies: each is an item for what it defines

-- an item is for this target
abbrev is_for : Target → RawItem → Bool
is_for t i = list_any (same_target t) (target_of i)

has_append : (items more : List RawItem) (t : Target) → has_target (items ++ more) t ≡ (has_target items t || list_any (is_for t) more)
has_append items more t =
    ap (list_any (same_target t)) (flat_map-append target_of items more)
    ∙ (list_any-append (same_target t) (flat_map target_of items) (flat_map target_of more) ∙ ap (λ b. has_target items t || b) (any_flat (same_target t) target_of more))

-- a copy is made once: it is not made where the target has an item already or has one now
made_once : (x y z w : Bool) (xs : List RawItem) (q : RawItem → Bool) → list_any q xs ≡ true → (list_any q (cond (x && (not y && z)) xs []) ≡ true → w ≡ true) → cond (x && (not (y || w) && z)) xs [] ≡ []
made_once false y z w xs q is within = refl
made_once true true z w xs q is within = refl
made_once true false false true xs q is within = refl
made_once true false false false xs q is within = refl
made_once true false true true xs q is within = refl
made_once true false true false xs q is within = absurd (let h = within is in cc)

up_once : (x y w : Bool) (xs : List RawItem) (q : RawItem → Bool) → (xs ≡ []) ⊎ (list_any q xs ≡ true) → (list_any q (cond (not x && not y) xs []) ≡ true → w ≡ true) → cond (not x && not (y || w)) xs [] ≡ []
up_once true y w xs q is within = refl
up_once false true w xs q is within = refl
up_once false false true xs q is within = refl
up_once false false false xs q (inl none) within = none
up_once false false false xs q (inr is) within = absurd (let h = within is in cc)

own_name : (n : Name) → bytes_eq n n ≡ true
own_name n = (bytes_decides n n).1 refl

down_is_for : (c a : Name) → list_any (is_for (record { owner = Some c; name = a })) (item.OfKid c a (e.One a) ∷ []) ≡ true
down_is_for c a = rw (own_name c, own_name a) refl

only_is_for : (a : Name) (cs : List Symbol) → (copy_of_only a cs ≡ []) ⊎ (list_any (is_for (record { owner = None; name = a })) (copy_of_only a cs) ≡ true)
only_is_for a [] = inl refl
only_is_for a (c ∷ []) = inr (rw (own_name a) refl)
only_is_for a (c ∷ (d ∷ more)) = inl refl

module _ (items : List RawItem) (left : List RawAttr) (all : List Symbol) where
  abbrev made : List RawItem
  made = copies items left all

  no_down : (c : Name) (a : RawAttr) → IsWithin (copy_down items left c a) made → copy_down (items ++ made) left c a ≡ []
  no_down c a within =
      let t : Target = record { owner = Some c; name = a.name } in
      let copy = item.OfKid c a.name (e.One a.name) ∷ [] in
      ap (λ b. cond (a.inherited && (not b && has_inherited left a)) copy []) (has_append items made t)
      ∙ made_once a.inherited (has_target items t) (has_inherited left a) (list_any (is_for t) made) copy (is_for t) (down_is_for c a.name) (within (is_for t))

  no_up : (a : RawAttr) → IsWithin (copy_up items all a) made → copy_up (items ++ made) all a ≡ []
  no_up a within =
      let t : Target = record { owner = None; name = a.name } in
      let cs = filter (λ (c : Symbol). has_synthesised c.attrs a) all in
      ap (λ b. cond (not a.inherited && not b) (copy_of_only a.name cs) []) (has_append items made t)
      ∙ up_once a.inherited (has_target items t) (list_any (is_for t) made) (copy_of_only a.name cs) (is_for t) (only_is_for a.name cs) (within (is_for t))

  no_more : copies (items ++ made) left all ≡ []
  no_more =
      let down = flat_map (copies_down items left) all in
      let up = flat_map (copy_up items all) left in
      ap (λ ys. ys ++ flat_map (copy_up (items ++ made) all) left)
      (nothing_more (copies_down (items ++ made) left) (copies_down items left) made all (front down up made (λ q h. h))
      (λ c within. nothing_more (copy_down (items ++ made) left c.name) (copy_down items left c.name) made c.attrs within (no_down c.name)))
      ∙ nothing_more (copy_up (items ++ made) all) (copy_up items all) made left (back down up made (λ q h. h)) no_up

production_again : (sorts : List RawSort) (p : RawProd) → filled_production sorts (filled_production sorts p) ≡ filled_production sorts p
production_again sorts p =
    let left = attrs_named sorts p.left in
    let items = p.items ++ copies p.items left (symbols sorts p) in
    let same : items ++ copies items left (symbols sorts (filled_production sorts p)) ≡ items =
    ap (λ all. items ++ copies items left all) (same_symbols sorts p) ∙ (ap (λ ys. items ++ ys) (no_more p.items left (symbols sorts p)) ∙ append-nil items) in
    ap (λ is. let q : RawProd = record { name = p.name; left = p.left; kids = p.kids; items = is } in q) same

productions_again : (sorts : List RawSort) (ps : List RawProd) → map (filled_production sorts) (map (filled_production sorts) ps) ≡ map (filled_production sorts) ps
productions_again sorts [] = refl
productions_again sorts (p ∷ ps) =
    ap (λ q. q ∷ map (filled_production sorts) (map (filled_production sorts) ps)) (production_again sorts p)
    ∙ ap (λ qs. filled_production sorts p ∷ qs) (productions_again sorts ps)

pub filled_again : (g : RawGrammar) → filled (filled g) ≡ filled g
filled_again g = ap (λ ps. let h : RawGrammar = record { sorts = g.sorts; prods = ps; start = g.start } in h) (productions_again g.sorts g.prods)
