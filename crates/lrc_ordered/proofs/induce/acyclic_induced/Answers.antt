use Rattle.std.proofs.Common.{List, subst}
use Rattle.lrc_graph.specs.Pairs.{Pairs}
use Rattle.lrc_grammar.specs.Grammar.{grammar_of}
use Rattle.lrc_order_meaning.specs.Induced.{Leads}
use Rattle.lrc_ordered.specs.Cycles.{HasNone, IsFirst}
use Rattle.lrc_ordered.proofs.CycleLemmas.{no_cycle, first_is}
use Rattle.lrc_ordered.proofs.induce.acyclic_induced.Goals as goal

pub returns-in-Some-clause-fault : goal.returns-in-Some-clause-fault
returns-in-Some-clause-fault c =
    let g = c.args.grammar.now in
    let t = c.in-Ok.tables in
    let made = c.in-Ok.ensures in
    first_is g.prods (Leads (grammar_of g) c.args.given.now) t.relations.items made.productions made.leads c.in-Some.cycle.production c.in-Some.cycle.occurrence
    (subst (λ (rs : List Pairs). IsFirst rs c.in-Some.cycle.production c.in-Some.cycle.occurrence) c.as_slice.ensures.value c.in-Some.ensures)

pub returns-in-None-clause-acyclic : goal.returns-in-None-clause-acyclic
returns-in-None-clause-acyclic c =
    let g = c.args.grammar.now in
    let t = c.in-Ok.tables in
    let made = c.in-Ok.ensures in
    no_cycle g.prods (Leads (grammar_of g) c.args.given.now) t.relations.items made.productions made.leads
    (subst (λ (rs : List Pairs). HasNone rs) c.as_slice.ensures.value c.in-None.ensures)
