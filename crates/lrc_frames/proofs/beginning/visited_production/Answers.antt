use Rattle.std.proofs.Common.{List, arith, sym, ap, ◌∙◌}
use Rattle.lrc_base.specs.declared.grammar.Kid.{Kid}
use Rattle.lrc_order_meaning.specs.declared.Partition.{Partition}
use Rattle.lrc_plan_meaning.specs.Items.{visits_of}
use Rattle.lrc_visit_meaning.specs.Visits.{are_of_kinds}
use Rattle.lrc_grammar.specs.Grammar.{grammar_of}
use Rattle.lrc_store.proofs.Lasting.{reads-then}
use Rattle.lrc_frames.proofs.BeginLemmas.{wrong_visit, wrong_kids, right_node}
use Rattle.lrc_frames.proofs.beginning.visited_production.Goals as goal
use Rattle.lrc_frames.proofs.beginning.visited_production.Goals.{then-visit-eq0-via-then-visit-eq0, then-visit-eq0-via-else-visit-eq0+then-visits_of-visit}

pub returns-then-visit-eq0-clause-visited : goal.returns-then-visit-eq0-clause-visited
returns-then-visit-eq0-clause-visited g c call stands same =
    let plan = c.args.plan.now in
    let t = g.St.Store.state c.node_of.new.store in
    let p = c.index-prods-node.result in
    let node = c.in_ok-node.ensures.node call.tree stands in
    wrong_visit (grammar_of plan.grammar) plan.parts.sorts t call c.as_slice-prods.result.now c.as_slice-prods.ensures c.in_ok-node.node node p c.index-prods-node.is
    (elim c.then-visit-eq0.branch [
      | then-visit-eq0-via-then-visit-eq0 w ↦ λ within. let first = within.0 in let none = w.if-visit-eq0.true in omega arith
      | then-visit-eq0-via-else-visit-eq0+then-visits_of-visit w ↦ λ within.
          let last = within.1 in
          let less = w.if-visits_of-visit.true in
          let visits = w.visits_of.ensures ∙ ap (λ (parts : List Partition). visits_of parts p.left) w.sorts.ensures in
          omega arith
    ])

pub returns-then-are_of_kinds-clause-visited : goal.returns-then-are_of_kinds-clause-visited
returns-then-are_of_kinds-clause-visited g c call stands same =
    let plan = c.args.plan.now in
    let t = g.St.Store.state c.node_of.new.store in
    let p = c.index-prods-node.result in
    let node = c.in_ok-node.ensures.node call.tree stands in
    let prods = c.as_slice-prods.result.now in
    let visits = c.visits_of.ensures ∙ ap (λ (parts : List Partition). visits_of parts p.left) c.sorts.ensures in
    let some = c.if-visit-eq0.false in
    let within = c.if-visits_of-visit.false in
    right_node (grammar_of plan.grammar) plan.parts.sorts t call prods c.as_slice-prods.ensures c.in_ok-node.node node p c.index-prods-node.is (omega arith) (omega arith)
    (ap (λ (kids : List Kid). are_of_kinds prods node.trees kids) (sym c.as_slice.ensures) ∙ sym (c.are_of_kinds.ensures.are node.trees node.children) ∙ c.if-are_of_kinds.true)

pub returns-then-are_of_kinds-clause-reads : goal.returns-then-are_of_kinds-clause-reads
returns-then-are_of_kinds-clause-reads g c =
    reads-then (g.St.Store.state c.args.store.now) (g.St.Store.state c.node_of.new.store) (g.St.Store.state c.are_of_kinds.new.store) c.node_of.ensures.reads c.are_of_kinds.ensures.reads

pub returns-else-are_of_kinds-clause-visited : goal.returns-else-are_of_kinds-clause-visited
returns-else-are_of_kinds-clause-visited g c call stands same =
    let plan = c.args.plan.now in
    let t = g.St.Store.state c.node_of.new.store in
    let p = c.index-prods-node.result in
    let node = c.in_ok-node.ensures.node call.tree stands in
    let prods = c.as_slice-prods.result.now in
    wrong_kids (grammar_of plan.grammar) plan.parts.sorts t call prods c.as_slice-prods.ensures c.in_ok-node.node node p c.index-prods-node.is
    (ap (λ (kids : List Kid). are_of_kinds prods node.trees kids) (sym c.as_slice.ensures) ∙ sym (c.are_of_kinds.ensures.are node.trees node.children) ∙ c.if-are_of_kinds.false)

pub returns-else-are_of_kinds-clause-reads : goal.returns-else-are_of_kinds-clause-reads
returns-else-are_of_kinds-clause-reads g c =
    reads-then (g.St.Store.state c.args.store.now) (g.St.Store.state c.node_of.new.store) (g.St.Store.state c.are_of_kinds.new.store) c.node_of.ensures.reads c.are_of_kinds.ensures.reads
