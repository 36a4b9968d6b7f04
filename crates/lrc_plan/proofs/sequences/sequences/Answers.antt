use Rattle.std.proofs.Common.{◌≡◌, ◌<◌, ◌^◌, List, length, All, sym, ap, subst, ◌∙◌}
use Rattle.lrc_base.specs.declared.grammar.Sort.{Sort}
use Rattle.lrc_meaning.specs.Grammar.{occurrences_of}
use Rattle.lrc_meaning.specs.Signature.{signature_of}
use Rattle.lrc_order_meaning.specs.Needs.{symbols_of, places_of, needs_of}
use Rattle.lrc_ordered.specs.Setup.{IsNeedBelow}
use Rattle.lrc_grammar.specs.Grammar.{grammar_of}
use Rattle.lrc_plan.specs.Sites.{IsBehindTree}
use Rattle.lrc_plan.proofs.FewLemmas.{few_occurrences, few_symbols, trees_before, needs_below}
use Rattle.lrc_plan.proofs.sequences.sequences.Goals as goal

pub invariant_of-site : goal.invariant_of-site
invariant_of-site c =
    let g = c.args.grammar.now in
    let p = c.args.production.now in
    let there = c.requires.there in
    let same : g.sorts ≡ c.as_slice.result.now = sym c.as_slice.ensures in
    let signed : c.args.signature.now ≡ signature_of c.as_slice.result.now p = c.requires.signature ∙ ap (λ (ss : List Sort). signature_of ss p) same in
    record {
      signed = signed;
      placed = c.as_slice-2.ensures ∙ c.in_ok-places.ensures c.as_slice.result.now signed;
      few = subst (λ (ss : List Sort). length (occurrences_of ss p) < 2 ^ 32) same (few_occurrences (grammar_of g) g.ok g.few p there);
      few_symbols = subst (λ (ss : List Sort). length (symbols_of ss p) < 2 ^ 32) same (few_symbols (grammar_of g) g.ok g.few p there);
      behind = subst (λ (ss : List Sort). All IsBehindTree (places_of ss p)) same (trees_before (grammar_of g) g.ok g.few p there);
      below = subst (λ (ss : List Sort). All (IsNeedBelow (length (occurrences_of ss p))) (needs_of ss p)) same (needs_below (grammar_of g) g.ok g.few p there);
    }
