use Rattle.std.proofs.Common.{ap, ◌∙◌}
use Rattle.std.proofs.lemmas.Result.{IfOk-weaker}
use Rattle.lrc_meaning.specs.Text.{limited}
use Rattle.lrc_unparse.specs.declared.styles.Style.TheVariants as a_style
use Rattle.lrc_unparse.specs.Styles.{text_of}
use Rattle.lrc_unparse.proofs.StyleLemmas.{value-style}
use Rattle.lrc_unparse.proofs.texts.value_text.Goals as goal

pub returns-clause-text : goal.returns-clause-text
returns-clause-text g c t spelled stands =
    let same = ap (λ prods. text_of a_style.Value prods t) c.as_slice.ensures ∙ value-style c.args.grammar.now.prods t in
    IfOk-weaker c.printed.result _ _ (λ text is. is ∙ ap limited same) (c.printed.ensures.text t spelled stands)
