use Rattle.std.proofs.Common.{◌≡◌, ◌-◌, ◌++◌, ◌∷◌, [], Ok, OnOk, length, map, take, sym, ap, ◌∙◌, rules}
use Rattle.lrc_base.specs.declared.grammar.Kind.TheVariants as k
use Rattle.lrc_base.specs.declared.item.TermItem.TheVariants as ti
use Rattle.lrc_base.specs.Terms.{grown}
use Rattle.lrc_meaning.specs.Tree.{tree}
use Rattle.lrc_meaning.proofs.ItemLemmas.{trees_grown}
use Rattle.lrc_job.specs.Found.{found_with}
use Rattle.lrc_job.proofs.FoundLemmas.{int_kinds, bool_kinds, name_kinds, pushed, pushed_kinds, only_memory}
use Rattle.lrc_job.proofs.found.Found.add.Goals as goal

pub returns-in-Int-clause-found : goal.returns-in-Int-clause-found
returns-in-Int-clause-found c =
    let ts = c.args.self.now.build in
    let found = found_with c.args.prods.now (map tree ts) in
    let terms : OnOk c.push.result (c.push.new.self.build ≡ grown ts (ti.Int c.in-Int.value)) = search rules in
    pushed c.push.result (found c.args.item) (grown ts (ti.Int c.in-Int.value)) c.push.new.self.build (ap found c.in-Int.is ∙ ap Ok (sym (trees_grown ts (ti.Int c.in-Int.value)))) terms

pub returns-in-Int-clause-fault : goal.returns-in-Int-clause-fault
returns-in-Int-clause-fault c = only_memory c.push.result (found_with c.args.prods.now (map tree c.args.self.now.build) c.args.item) c.push.ensures.memory

pub returns-in-Int-clause-kinds : goal.returns-in-Int-clause-kinds
returns-in-Int-clause-kinds c =
    let ts = c.args.self.now.build in
    let kinds = c.args.self.now.kinds.items in
    let terms : OnOk c.push.result (c.push.new.self.build ≡ grown ts (ti.Int c.in-Int.value)) = search rules in
    pushed_kinds c.args.prods.now c.push.result (grown ts (ti.Int c.in-Int.value)) c.push.new.self.build (take (length kinds - 0) kinds ++ k.Int ∷ []) c.push.new.self.kinds.items
    (int_kinds c.args.prods.now ts kinds c.in-Int.value c.requires.kinds) terms c.push.ensures.kinds

pub returns-in-Bool-clause-found : goal.returns-in-Bool-clause-found
returns-in-Bool-clause-found c =
    let ts = c.args.self.now.build in
    let found = found_with c.args.prods.now (map tree ts) in
    pushed c.push-in-Bool.result (found c.args.item) (grown ts (ti.Bool c.in-Bool.value)) c.push-in-Bool.new.self.build (ap found c.in-Bool.is ∙ ap Ok (sym (trees_grown ts (ti.Bool c.in-Bool.value)))) c.push-in-Bool.ensures.terms

pub returns-in-Bool-clause-fault : goal.returns-in-Bool-clause-fault
returns-in-Bool-clause-fault c = only_memory c.push-in-Bool.result (found_with c.args.prods.now (map tree c.args.self.now.build) c.args.item) c.push-in-Bool.ensures.memory

pub returns-in-Bool-clause-kinds : goal.returns-in-Bool-clause-kinds
returns-in-Bool-clause-kinds c =
    let ts = c.args.self.now.build in
    let kinds = c.args.self.now.kinds.items in
    pushed_kinds c.args.prods.now c.push-in-Bool.result (grown ts (ti.Bool c.in-Bool.value)) c.push-in-Bool.new.self.build (take (length kinds - 0) kinds ++ k.Bool ∷ []) c.push-in-Bool.new.self.kinds.items
    (bool_kinds c.args.prods.now ts kinds c.in-Bool.value c.requires.kinds) c.push-in-Bool.ensures.terms c.push-in-Bool.ensures.kinds

pub returns-in-Name-clause-found : goal.returns-in-Name-clause-found
returns-in-Name-clause-found c =
    let ts = c.args.self.now.build in
    let found = found_with c.args.prods.now (map tree ts) in
    pushed c.push-in-Name.result (found c.args.item) (grown ts (ti.Name c.in-Name.name)) c.push-in-Name.new.self.build (ap found c.in-Name.is ∙ ap Ok (sym (trees_grown ts (ti.Name c.in-Name.name)))) c.push-in-Name.ensures.terms

pub returns-in-Name-clause-fault : goal.returns-in-Name-clause-fault
returns-in-Name-clause-fault c = only_memory c.push-in-Name.result (found_with c.args.prods.now (map tree c.args.self.now.build) c.args.item) c.push-in-Name.ensures.memory

pub returns-in-Name-clause-kinds : goal.returns-in-Name-clause-kinds
returns-in-Name-clause-kinds c =
    let ts = c.args.self.now.build in
    let kinds = c.args.self.now.kinds.items in
    pushed_kinds c.args.prods.now c.push-in-Name.result (grown ts (ti.Name c.in-Name.name)) c.push-in-Name.new.self.build (take (length kinds - 0) kinds ++ k.Name ∷ []) c.push-in-Name.new.self.kinds.items
    (name_kinds c.args.prods.now ts kinds c.in-Name.name c.requires.kinds) c.push-in-Name.ensures.terms c.push-in-Name.ensures.kinds
