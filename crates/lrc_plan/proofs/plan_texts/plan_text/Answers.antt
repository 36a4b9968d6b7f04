use Rattle.std.proofs.Common.{◌≡◌, ◌<◌, ◌++◌, List, length, map, get_or, sym, ap, subst, ◌∙◌}
use Rattle.std.proofs.lemmas.List.{get_or-map}
use Rattle.lrc_base.specs.declared.grammar.Production.{Production}
use Rattle.lrc_base.specs.declared.signature.Signature.{Signature}
use Rattle.lrc_meaning.specs.Signature.{signature_of}
use Rattle.lrc_grammar.specs.declared.grammar.Grammar.{Grammar}
use Rattle.lrc_plan_meaning.specs.declared.Sequences.{Sequences}
use Rattle.lrc_plan_meaning.specs.Plans.{sequences_of}
use Rattle.lrc_plan.specs.Text.{production_lines}
use Rattle.lrc_plan.proofs.PairLemmas.{flat_list_more}
use Rattle.lrc_plan.proofs.plan_texts.plan_text.Goals as goal

pub productions-preserved : goal.productions-preserved
productions-preserved c =
    let plan = c.args.plan.now in
    let g = plan.grammar in
    let parts = plan.parts.sorts in
    let i = c.productions.number in
    let p = c.index-productions-number.result in
    let prods : c.as_slice-productions.result.now ≡ g.prods = c.as_slice-productions.ensures ∙ ap (λ (x : Grammar). x.prods) c.grammar-2.ensures in
    let signed : c.as_slice-signatures.result.now ≡ map (signature_of g.sorts) g.prods = c.as_slice-signatures.ensures ∙ ap (λ (x : Grammar). x.signatures) c.grammar.ensures ∙ g.signed in
    let there : i < length g.prods = subst (λ (ps : List Production). i < length ps) prods c.productions-test.true in
    let is : p ≡ get_or g.prods i p = c.index-productions-number.is ∙ ap (λ (ps : List Production). get_or ps i p) prods in
    let signature : c.index-signatures-number.result ≡ signature_of g.sorts p =
    c.index-signatures-number.is
    ∙ ap (λ (xs : List Signature). get_or xs i c.index-signatures-number.result) signed
    ∙ get_or-map (signature_of g.sorts) g.prods i p c.index-signatures-number.result there ∙ ap (signature_of g.sorts) (sym is) in
    let found : c.index-all-number.result ≡ sequences_of g.sorts parts p =
    c.index-all-number.is
    ∙ ap (λ (xs : List Sequences). get_or xs i c.index-all-number.result) (c.as_slice-all.ensures ∙ plan.made)
    ∙ get_or-map (sequences_of g.sorts parts) g.prods i p c.index-all-number.result there ∙ ap (sequences_of g.sorts parts) (sym is) in
    flat_list_more (λ (q : Production). production_lines (signature_of g.sorts q) q (sequences_of g.sorts parts q)) g.prods i p c.productions.text.items c.push_production.new.text.items there is
    c.productions.invariant
    (c.in_ok-push_production.ensures
    ∙ ap (λ (s : Signature). c.productions.text.items ++ production_lines s p c.index-all-number.result) signature
    ∙ ap (λ (s : Sequences). c.productions.text.items ++ production_lines (signature_of g.sorts p) p s) found)
