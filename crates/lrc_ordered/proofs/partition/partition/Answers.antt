use Rattle.std.proofs.Common.{rules, arith, take, take_all, ◌++◌, ◌≡◌, ℕ, ◌+◌, ◌-◌, ◌/◌, ◌∙◌, List, map, refl, subst, length}
use Rattle.std.proofs.lemmas.List.{take-append-le}
use Rattle.lrc_graph.specs.Pairs.{HasExactly}
use Rattle.lrc_ordered.specs.Numbered.{ComesBefore}
use Rattle.lrc_ordered.proofs.PartitionLemmas.{is_partition}
use Rattle.lrc_ordered.proofs.partition.partition.Goals as goal

pub returns : goal.returns
returns c = λ g given s table.
    let attrs = c.args.attrs.now in
    let induced = c.args.induced.now in
    let sets : List ℕ = c.fill_sets-visits.new.sets in
    let visits : ℕ = c.fill_sets-visits.result in
    let len : length sets ≡ c.in_ok-sets.sets.len = c.fill_sets-visits.ensures.count ∙ c.deref_mut.ensures.len in
    let whole : (rest : List ℕ) → take c.in_ok-sets.sets.len (sets ++ rest) ≡ sets =
    λ rest. take-append-le c.in_ok-sets.sets.len sets rest (omega arith) ∙ take_all c.in_ok-sets.sets.len sets (omega arith) in
    let one : c.deref.result.now ≡ sets = c.deref.ensures.value ∙ whole _ in
    let two : c.deref-2.result.now ≡ sets = c.deref-2.ensures.value ∙ whole _ in
    let count : length sets ≡ length attrs = search rules in
    is_partition g given s attrs induced table visits sets count c.fill_sets-visits.ensures.within (c.fill_sets-visits.ensures.sets g given s table)
    (record { visits = visits; visit_of = c.in_ok-visit_of.visit_of; before = c.in_ok-before.before })
    refl
    (subst (λ (list : List ℕ). c.in_ok-visit_of.visit_of ≡ map (λ set. visits + 1 - (set + 1) / 2) list) one c.in_ok-visit_of.ensures)
    (c.in_ok-before.ensures.points ∙ c.requires.attributes)
    (subst (λ (list : List ℕ). HasExactly c.in_ok-before.before (ComesBefore induced list)) two c.in_ok-before.ensures.pairs)
