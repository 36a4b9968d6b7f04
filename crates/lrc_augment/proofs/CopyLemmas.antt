-- The copy of the only symbol, from the first symbol that passes and whether another passes behind it.
use Rattle.std.proofs.Common.{◌≡◌, ℕ, ◌+◌, ◌-◌, Bool, true, false, List, [], ◌∷◌, filter, length, get_or, take, drop, Option, Some, None, position, refl, sym, ap, ◌∙◌, subst}
use Rattle.std.specs.List.{list_any}
use Rattle.std.specs.Prelude.{option_to_list}
use Rattle.std.proofs.lemmas.List.{take_rest, get_or_default}
use Rattle.std.proofs.lemmas.List.Quantifiers.{position-Some}
use Rattle.lrc_base.specs.declared.raw.RawItem.{RawItem}
use Rattle.lrc_base.specs.declared.raw.RawItem.TheVariants as item
use Rattle.lrc_base.specs.declared.raw.RawExpr.TheVariants as e
use Rattle.lrc_fault_meaning.specs.Faults.{Name}
use Rattle.lrc_augment.specs.Filled.{Symbol, copy_of_only}
use Rattle.lrc_augment.proofs.ListLemmas.{no_first, none_pass, some_passes, first_passes}

module _ (a : Name) (p : Symbol → Bool) (all : List Symbol) where
  pub of_none : (copy : Option RawItem) → position p all ≡ None → copy ≡ None → copy_of_only a (filter p all) ≡ option_to_list copy
  of_none copy none is = ap (copy_of_only a) (no_first p all none) ∙ sym (ap option_to_list is)

  rest_is : (i : ℕ) (b : Bool) → list_any p (take (length all - (i + 1)) (drop (i + 1) all)) ≡ b → list_any p (drop (i + 1) all) ≡ b
  rest_is i b any = sym (ap (list_any p) (take_rest all (i + 1))) ∙ any

  pub of_more : (i : ℕ) → position p all ≡ Some i → list_any p (take (length all - (i + 1)) (drop (i + 1) all)) ≡ true → copy_of_only a (filter p all) ≡ []
  of_more i at any = by (some_passes p (drop (i + 1) all) (rest_is i true any))
    where
      by : (y : Symbol) × (ys : List Symbol) × (filter p (drop (i + 1) all) ≡ y ∷ ys) → copy_of_only a (filter p all) ≡ []
      by (y, ys, more) =
          let x = get_or all i y in
          ap (copy_of_only a) (first_passes p all i x at (get_or_default all i y x (position-Some p all i y at).0) ∙ ap (λ rest. x ∷ rest) more)

  pub of_one : (i : ℕ) (c : Symbol) → position p all ≡ Some i → list_any p (take (length all - (i + 1)) (drop (i + 1) all)) ≡ false → c ≡ get_or all i c →
      copy_of_only a (filter p all) ≡ item.Own a (e.Two c.name a) ∷ []
  of_one i c at none is =
      ap (copy_of_only a) (first_passes p all i c at is ∙ ap (λ rest. c ∷ rest) (none_pass p (drop (i + 1) all) (rest_is i false none)))
