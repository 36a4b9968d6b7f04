use Rattle.std.proofs.Common.{◌≡◌, true, Some, sym, ap, ◌∙◌, rules}
use Rattle.std.proofs.lemmas.Option.{same_Some}
use Rattle.lrc_store.proofs.Lasting.{reads-then}
use Rattle.lrc_code.specs.Forms.{tree_cell}
use Rattle.lrc_places.proofs.BuildLemmas.{read-stands}
use Rattle.lrc_places.proofs.copying.are_of_one_kind.Goals as goal

pub kind_of-requires : goal.kind_of-requires
kind_of-requires g c =
    let (u, below, is) = c.requires.other in
    (u, read-stands (g.St.Store.state c.args.store.now) (g.St.Store.state c.kind_of-kind.new.store) c.args.other (tree_cell u) c.kind_of-kind.ensures.reads below, is)

pub returns-clause-same : goal.returns-clause-same
returns-clause-same g c t u here below =
    let is : c.eq.result ≡ true → c.kind_of.result ≡ c.kind_of-kind.result = λ h. search rules in
    let so : c.kind_of.result ≡ c.kind_of-kind.result → c.eq.result ≡ true = λ h. search rules in
    let first = c.kind_of-kind.ensures.kind t here in
    let then = c.kind_of.ensures.kind u (read-stands (g.St.Store.state c.args.store.now) (g.St.Store.state c.kind_of-kind.new.store) c.args.other (tree_cell u) c.kind_of-kind.ensures.reads below) in
    (λ h. first ∙ ap Some (sym (is h)) ∙ sym then, λ e. so (same_Some c.kind_of.result c.kind_of-kind.result (sym then ∙ sym e ∙ first)))

pub returns-clause-reads : goal.returns-clause-reads
returns-clause-reads g c =
    reads-then (g.St.Store.state c.args.store.now) (g.St.Store.state c.kind_of-kind.new.store) (g.St.Store.state c.kind_of.new.store) c.kind_of-kind.ensures.reads c.kind_of.ensures.reads
