-- Texts in a style: those of values are the texts of values, and those of trees the unparsed trees.
use Rattle.std.proofs.Common.{◌≡◌, List, ◌∷◌, refl, ap, ◌∙◌}
use Rattle.lrc_base.specs.declared.grammar.Production.{Production}
use Rattle.lrc_meaning.specs.Tree.{Tree, int, bool, name, node, Trees, none, more}
use Rattle.lrc_meaning.specs.Text.{production_name, applied, value_text, value_texts, patterned, pattern_of, unparsed, unparsed_all}
use Rattle.lrc_unparse.specs.declared.styles.Style.TheVariants as a_style
use Rattle.lrc_unparse.specs.Styles.{text_of, texts_of}

module _ (prods : List Production) where
  mutual
    pub value-style : (t : Tree) → text_of a_style.Value prods t ≡ value_text prods t
    value-style (int i) = refl
    value-style (bool b) = refl
    value-style (name n) = refl
    value-style (node p kids) = ap (applied (production_name prods p)) (values-style kids)

    values-style : (ts : Trees) → texts_of a_style.Value prods ts ≡ value_texts prods ts
    values-style none = refl
    values-style (more t ts) = ap (λ x. x ∷ texts_of a_style.Value prods ts) (value-style t) ∙ ap (λ xs. value_text prods t ∷ xs) (values-style ts)

  mutual
    pub tree-style : (t : Tree) → text_of a_style.Tree prods t ≡ unparsed prods t
    tree-style (int i) = refl
    tree-style (bool b) = refl
    tree-style (name n) = refl
    tree-style (node p kids) = ap (patterned prods (pattern_of prods p) (production_name prods p)) (trees-style kids)

    trees-style : (ts : Trees) → texts_of a_style.Tree prods ts ≡ unparsed_all prods ts
    trees-style none = refl
    trees-style (more t ts) = ap (λ x. x ∷ texts_of a_style.Tree prods ts) (tree-style t) ∙ ap (λ xs. unparsed prods t ∷ xs) (trees-style ts)
