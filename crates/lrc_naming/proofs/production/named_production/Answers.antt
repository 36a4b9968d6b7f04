use Rattle.std.proofs.Common.{◌≡◌, length, map, Some, arith, ap, sym, subst, ◌∙◌}
use Rattle.lrc_meaning.specs.Naming.{each_some, sort_number, named_kid, named_extras, named_with}
use Rattle.lrc_naming.specs.Names.{Names}
use Rattle.lrc_naming.proofs.CountLemmas.{length-named, length-named_extras}
use Rattle.lrc_naming.proofs.ProductionLemmas.{named_by_parts}
use Rattle.lrc_naming.proofs.production.named_production.Goals as goal

pub named_with-requires-clause-kids : goal.named_with-requires-clause-kids
named_with-requires-clause-kids c =
    omega (arith, c.requires.parts.kids, ap length c.as_slice.ensures, length-named (named_kid c.as_slice-raw_sorts.result.now) c.as_slice.result.now c.in_ok-kids.kids c.in_ok-kids.ensures)

pub named_with-requires-clause-extras : goal.named_with-requires-clause-extras
named_with-requires-clause-extras c =
    let many = subst (λ items. named_extras c.as_slice-raw_sorts.result.now items ≡ Some c.in_ok-extras.extras) c.as_slice-2.ensures c.in_ok-extras.ensures in
    omega (arith, c.requires.parts.locals, length-named_extras c.as_slice-raw_sorts.result.now c.args.prod.now.items c.in_ok-extras.extras many)

pub returns : goal.returns
returns c =
    let raw = c.args.raw.now in
    let p = c.args.prod.now in
    let left : sort_number raw.sorts p.left ≡ Some c.in_ok-left.left = ap (λ ss. sort_number ss p.left) (sym c.as_slice-raw_sorts.ensures) ∙ (sym c.sort_number.ensures ∙ c.in_ok-left.ensures.ok_part) in
    let kids : each_some (map (named_kid raw.sorts) p.kids) ≡ Some c.in_ok-kids.kids =
    ap (λ ss. each_some (map (named_kid ss) p.kids)) (sym c.as_slice-raw_sorts.ensures) ∙ (ap (λ ks. each_some (map (named_kid c.as_slice-raw_sorts.result.now) ks)) (sym c.as_slice.ensures) ∙ c.in_ok-kids.ensures) in
    let extras : named_extras raw.sorts p.items ≡ Some c.in_ok-extras.extras =
    ap (λ ss. named_extras ss p.items) (sym c.as_slice-raw_sorts.ensures) ∙ (ap (λ is. named_extras c.as_slice-raw_sorts.result.now is) (sym c.as_slice-2.ensures) ∙ c.in_ok-extras.ensures) in
    let found = subst (λ ps. Names c.named_with.result (named_with ps c.args.sorts.now p c.in_ok-left.left c.in_ok-kids.kids c.in_ok-extras.extras)) c.as_slice-3.ensures c.named_with.ensures in
    subst (λ z. Names c.named_with.result z) (sym (named_by_parts raw c.args.sorts.now p c.in_ok-left.left c.in_ok-kids.kids c.in_ok-extras.extras left kids extras)) found
