-- What names mean in a production, from what is kept of its names.
use Rattle.std.proofs.Common.{◌≡◌, Bool, true, false, cond, List, [], ◌∷◌, map, Some, refl, sym, ap, ◌∙◌}
use Rattle.std.specs.Prelude.{find, option_map}
use Rattle.std.specs.Str.{bytes_eq}
use Rattle.lrc_base.specs.declared.raw.RawAttr.{RawAttr}
use Rattle.lrc_base.specs.declared.raw.RawKid.{RawKid}
use Rattle.lrc_base.specs.declared.raw.RawProd.{RawProd}
use Rattle.lrc_base.specs.declared.raw.RawGrammar.{RawGrammar}
use Rattle.lrc_fault_meaning.specs.Faults.{Name, attrs_named, declared_name, left_or_other, kid_or_declared, means}
use Rattle.lrc_check.specs.declared.declared.Declared.{Declared}
use Rattle.lrc_check.specs.Declares.{declaration}
use Rattle.lrc_check.specs.Meaning.{means_among}
use Rattle.lrc_check.specs.Within.{AreNamesOf}

pub find_mapped : {A B : Type 0} (p : B → Bool) (h : A → B) (xs : List A) → find p (map h xs) ≡ option_map h (find (λ x. p (h x)) xs)
find_mapped p h [] = refl
find_mapped p h (x ∷ xs) =
    elim (p (h x)) as (λ b. cond b (Some (h x)) (find p (map h xs)) ≡ option_map h (cond b (Some x) (find (λ y. p (h y)) xs)))
    [ true ↦ refl | false ↦ find_mapped p h xs ]

pub meaning_is : (g : RawGrammar) (p : RawProd) (left : List RawAttr) (kids : List RawKid) (declared : List Declared) (n : Name) → AreNamesOf g p left declared → kids ≡ p.kids →
    means_among left kids declared n ≡ means g.sorts p n
meaning_is g p left kids declared n are same =
    ap (λ (ls : List RawAttr). left_or_other (find (λ (a : RawAttr). bytes_eq a.name n) ls) (kid_or_declared (find (λ (k : RawKid). bytes_eq k.name n) kids) (option_map declaration (find (λ d. bytes_eq (declared_name (declaration d)) n) declared)))) are.of_left
    ∙ (ap (λ (ks : List RawKid). left_or_other (find (λ (a : RawAttr). bytes_eq a.name n) (attrs_named g.sorts p.left)) (kid_or_declared (find (λ (k : RawKid). bytes_eq k.name n) ks) (option_map declaration (find (λ d. bytes_eq (declared_name (declaration d)) n) declared)))) same
    ∙ ap (λ d. left_or_other (find (λ (a : RawAttr). bytes_eq a.name n) (attrs_named g.sorts p.left)) (kid_or_declared (find (λ (k : RawKid). bytes_eq k.name n) p.kids) d))
    (sym (find_mapped (λ d. bytes_eq (declared_name d) n) declaration declared) ∙ ap (find (λ d. bytes_eq (declared_name d) n)) are.of_items))
