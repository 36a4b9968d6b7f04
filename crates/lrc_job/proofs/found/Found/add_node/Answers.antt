use Rattle.std.proofs.Common.{◌-◌, ◌++◌, ◌∷◌, [], Ok, Err, length, map, take, sym, ap, ◌∙◌}
use Rattle.lrc_base.specs.declared.item.RawTermItem.TheVariants as i
use Rattle.lrc_base.specs.declared.item.TermItem.TheVariants as ti
use Rattle.lrc_base.specs.Terms.{grown}
use Rattle.lrc_meaning.specs.Tree.{tree}
use Rattle.lrc_job.specs.Found.{found_with}
use Rattle.lrc_job.proofs.FoundLemmas.{node_of_slice, node_added, node_at_fault, node_kinds, pushed, pushed_kinds, only_memory, told}
use Rattle.lrc_job.proofs.found.Found.add_node.Goals as goal

pub returns-in_err-number-clause-fault : goal.returns-in_err-number-clause-fault
returns-in_err-number-clause-fault c =
    let ts = c.args.self.now.build in
    let kinds = c.args.self.now.kinds.items in
    let f = c.in_err-number.field-0.0 in
    told c.from_residual.result (found_with c.args.prods.now (map tree ts) (i.Node c.args.name c.args.count)) f c.from_residual.ensures.1
    (λ _. node_at_fault c.args.prods.now ts kinds c.args.name c.args.count f
    (node_of_slice c.args.prods.now ts kinds c.deref.result.now c.args.name c.len.result c.args.count (Err f) c.requires.kinds c.deref.ensures.value (c.len.ensures ∙ (sym c.deref.ensures.len ∙ ap length c.deref.ensures.value)) c.in_err-number.ensures))

pub returns-clause-found : goal.returns-clause-found
returns-clause-found c =
    let ts = c.args.self.now.build in
    let kinds = c.args.self.now.kinds.items in
    pushed c.push.result (found_with c.args.prods.now (map tree ts) (i.Node c.args.name c.args.count)) (grown ts (ti.Node c.in_ok-number.number c.args.count)) c.push.new.self.build
    (node_added c.args.prods.now ts kinds c.args.name c.args.count c.in_ok-number.number
    (node_of_slice c.args.prods.now ts kinds c.deref.result.now c.args.name c.len.result c.args.count (Ok c.in_ok-number.number) c.requires.kinds c.deref.ensures.value (c.len.ensures ∙ (sym c.deref.ensures.len ∙ ap length c.deref.ensures.value)) c.in_ok-number.ensures.0))
    c.push.ensures.terms

pub returns-clause-fault : goal.returns-clause-fault
returns-clause-fault c = only_memory c.push.result (found_with c.args.prods.now (map tree c.args.self.now.build) (i.Node c.args.name c.args.count)) c.push.ensures.memory

pub returns-clause-kinds : goal.returns-clause-kinds
returns-clause-kinds c =
    let ts = c.args.self.now.build in
    let kinds = c.args.self.now.kinds.items in
    pushed_kinds c.args.prods.now c.push.result (grown ts (ti.Node c.in_ok-number.number c.args.count)) c.push.new.self.build (take (length kinds - c.args.count) kinds ++ c.in_ok-number.kind ∷ []) c.push.new.self.kinds.items
    (node_kinds c.args.prods.now ts kinds c.args.count c.in_ok-number.number c.in_ok-number.kind c.requires.kinds c.in_ok-number.ensures.1)
    c.push.ensures.terms c.push.ensures.kinds
