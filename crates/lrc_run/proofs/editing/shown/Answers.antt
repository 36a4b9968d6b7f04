use Rattle.std.proofs.Common.{ℕ, ◌++◌, List, refl, sym, ap, ◌∙◌, subst}
use Rattle.std.specs.Prelude.{codes}
use Rattle.lrc_store.specs.declared.cells.Handle.{Handle}
use Rattle.lrc_store.specs.Standing.{Stands}
use Rattle.lrc_code.specs.Forms.{tree_cell}
use Rattle.lrc_run.proofs.GrowLemmas.{some_read}
use Rattle.lrc_run.proofs.EditLemmas.{was_shown}
use Rattle.lrc_run.proofs.editing.shown.Goals as goal

pub returns-in_err-text-clause-gains : goal.returns-in_err-text-clause-gains
returns-in_err-text-clause-gains g c = some_read _ _ c.unparse.ensures.reads

pub returns-in_err-body-clause-gains : goal.returns-in_err-body-clause-gains
returns-in_err-body-clause-gains g c = some_read _ _ c.unparse.ensures.reads

pub returns-in_err-append-clause-gains : goal.returns-in_err-append-clause-gains
returns-in_err-append-clause-gains g c = some_read _ _ c.unparse.ensures.reads

pub returns-clause-edited : goal.returns-clause-edited
returns-clause-edited g c t vs opened =
    let s = g.St.Store.state c.args.store.now in
    let stands = subst (λ (h : Handle). Stands s h.0 (tree_cell t)) (sym c.tree.ensures) opened.tree in
    was_shown c.args.functions.now s (g.St.Store.state c.unparse.new.store) t vs c.args.session.now _ opened c.unparse.ensures.reads
    (record {
      outcome = tt;
      first = refl;
      body =
          c.in_ok-append.ensures
          ∙ ap (λ (front : List ℕ). front ++ c.in_ok-text.text) c.in_ok-body.ensures
          ∙ ap (λ (text : List ℕ). codes " shown " ++ text) (c.in_ok-text.ensures.text t opened.spelled stands);
    })

pub returns-clause-gains : goal.returns-clause-gains
returns-clause-gains g c = some_read _ _ c.unparse.ensures.reads
