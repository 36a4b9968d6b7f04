-- The equations that are missing, part by part.
use Rattle.std.proofs.Common.{◌≡◌, List, [], ◌++◌, map, flat_map, append_assoc, Ok, sym, ap, ◌∙◌}
use Rattle.std.proofs.lemmas.List.Folds.{flat_map-map}
use Rattle.lrc_base.specs.declared.raw.RawAttr.{RawAttr}
use Rattle.lrc_base.specs.declared.raw.RawSort.{RawSort}
use Rattle.lrc_base.specs.declared.raw.RawKid.{RawKid}
use Rattle.lrc_base.specs.declared.raw.RawProd.{RawProd}
use Rattle.lrc_base.specs.declared.raw.RawGrammar.{RawGrammar}
use Rattle.lrc_fault_meaning.specs.Faults.{Fault, attrs_named, declared_by, missing_of_left, missing_of_kid, missing_of_declared, missing, each_after, sort_faults, head_faults, start_faults, declaration_faults, body_faults, faults}
use Rattle.lrc_check.specs.declared.declared.Declared.{Declared}
use Rattle.lrc_check.specs.Declares.{declaration}
use Rattle.lrc_check.specs.Verdict.{verdict, name_faults}
use Rattle.lrc_check.proofs.ListLemmas.{and_then, verdict_append}

pub behind_right : (fs gs : List Fault) → Ok tt ≡ verdict fs → verdict (fs ++ gs) ≡ verdict gs
behind_right fs gs e = verdict_append fs gs ∙ ap (λ v. and_then v (verdict gs)) (sym e)

pub missing_declared : (sorts some all : List RawSort) (p q : RawProd) (left : List RawAttr) (kids : List RawKid) (declared : List Declared) →
    some ≡ sorts → all ≡ sorts → q ≡ p → left ≡ attrs_named sorts p.left → kids ≡ q.kids → map declaration declared ≡ flat_map declared_by p.items →
    Ok tt ≡ verdict (flat_map (missing_of_left q) left) → Ok tt ≡ verdict (flat_map (missing_of_kid some q) kids) →
    verdict (flat_map (λ (d : Declared). missing_of_declared all q (declaration d)) declared) ≡ verdict (missing sorts p)
missing_declared sorts some all p q left kids declared first same again of_left of_kids of_items right_left right_kids =
    let of_declared = flat_map (missing_of_declared sorts p) (flat_map declared_by p.items) in
    let here : Ok tt ≡ verdict (flat_map (missing_of_left p) (attrs_named sorts p.left)) =
    right_left
    ∙ (ap (λ r. verdict (flat_map (missing_of_left r) left)) again ∙ ap (λ ls. verdict (flat_map (missing_of_left p) ls)) of_left) in
    let below : Ok tt ≡ verdict (flat_map (missing_of_kid sorts p) p.kids) =
    right_kids
    ∙ (ap (λ ss. verdict (flat_map (missing_of_kid ss q) kids)) first
    ∙ (ap (λ r. verdict (flat_map (missing_of_kid sorts r) kids)) again
    ∙ ap (λ ks. verdict (flat_map (missing_of_kid sorts p) ks)) (of_kids ∙ ap (λ (r : RawProd). r.kids) again))) in
    ap (λ ss. verdict (flat_map (λ (d : Declared). missing_of_declared ss q (declaration d)) declared)) same
    ∙ (ap (λ r. verdict (flat_map (λ (d : Declared). missing_of_declared sorts r (declaration d)) declared)) again
    ∙ (ap verdict (sym (flat_map-map (missing_of_declared sorts p) declaration declared))
    ∙ (ap (λ ds. verdict (flat_map (missing_of_declared sorts p) ds)) of_items
    ∙ sym (behind_right (flat_map (missing_of_left p) (attrs_named sorts p.left)) (flat_map (missing_of_kid sorts p) p.kids ++ of_declared) here
    ∙ behind_right (flat_map (missing_of_kid sorts p) p.kids) of_declared below))))

-- four lists, and a fifth behind them
five_lists : {A : Type 0} (a b c d e : List A) → a ++ (b ++ (c ++ (d ++ e))) ≡ (a ++ (b ++ (c ++ d))) ++ e
five_lists a b c d e = sym (simp append_assoc)

pub faults_are : (raw : RawGrammar) → faults raw ≡ name_faults raw ++ flat_map (body_faults raw) raw.prods
faults_are raw =
    five_lists (each_after (sort_faults raw.sorts) [] raw.sorts) (each_after (head_faults raw.sorts) [] raw.prods) (start_faults raw.sorts raw.start) (flat_map (λ (p : RawProd). each_after (declaration_faults raw.sorts p) [] p.items) raw.prods) (flat_map (body_faults raw) raw.prods)
