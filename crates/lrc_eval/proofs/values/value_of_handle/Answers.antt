use Rattle.std.proofs.Common.{sym, ap, ◌∙◌, rules, w64, SFits}
use Rattle.std.proofs.lemmas.Int.{to_z-of_z}
use Rattle.lrc_meaning.specs.Tree.{int}
use Rattle.lrc_store.proofs.Known.{stands-meant}
use Rattle.lrc_code.specs.Forms.{tree_cell}
use Rattle.lrc_eval.proofs.ValueLemmas.{number-tree, false-tree, true-tree}
use Rattle.lrc_eval.proofs.values.value_of_handle.Goals as goal

pub returns-in-Number-clause-means : goal.returns-in-Number-clause-means
returns-in-Number-clause-means g c t e =
    let fits : SFits w64 c.in-Number.number = search rules in
    number-tree t c.in-Number.number (sym (stands-meant (g.St.Store.state c.args.store.now) c.args.handle.0 (tree_cell t) e) ∙ c.in-Number.ensures.shows)
    ∙ ap int (sym (to_z-of_z w64 c.in-Number.number fits))

pub returns-in-Pair-eq1-default-default-clause-means : goal.returns-in-Pair-eq1-default-default-clause-means
returns-in-Pair-eq1-default-default-clause-means g c t e =
    false-tree t _ _ _ (sym (stands-meant (g.St.Store.state c.args.store.now) c.args.handle.0 (tree_cell t) e) ∙ c.in-Pair-eq1-default-default.ensures.shows.2) c.in-Pair-eq1-default-default.field-0-test

pub returns-in-Pair-eq2-default-default-clause-means : goal.returns-in-Pair-eq2-default-default-clause-means
returns-in-Pair-eq2-default-default-clause-means g c t e =
    true-tree t _ _ _ (sym (stands-meant (g.St.Store.state c.args.store.now) c.args.handle.0 (tree_cell t) e) ∙ c.in-Pair-eq2-default-default.ensures.shows.2) c.in-Pair-eq2-default-default.field-0-test
