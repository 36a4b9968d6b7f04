use Rattle.std.proofs.Common.{◌≡◌, ◌↔◌, ◌⊎◌, IsTrue, subst, sym, ap}
use Rattle.lrc_plan_meaning.specs.declared.Bound as sequence
use Rattle.lrc_plan.specs.ItemSets.{Flags, holds, HasRoom}
use Rattle.lrc_plan.proofs.SetLemmas.{kid_held, kid_room}
use Rattle.lrc_plan.proofs.item_set.ItemSet.insert.Goals as goal

pub returns-in-Kid-clause-items : goal.returns-in-Kid-clause-items
returns-in-Kid-clause-items c =
    let s = c.in-Kid.symbol in
    let i = c.in-Kid.from in
    let j = c.in-Kid.to in
    let f = c.args.self.now in
    let g = c.insert_kid.new.self in
    subst (λ (item : sequence.Bound). (x : sequence.Bound) → IsTrue (holds g x) ↔ (IsTrue (holds f x) ⊎ (x ≡ item))) (sym c.in-Kid.is)
    (kid_held f g s i j (ap (λ (h : Flags). h.values) c.insert_kid.ensures) (ap (λ (h : Flags). h.kids) c.insert_kid.ensures)
    (subst (λ (item : sequence.Bound). HasRoom f item) c.in-Kid.is c.requires))

pub returns-in-Kid-clause-room : goal.returns-in-Kid-clause-room
returns-in-Kid-clause-room c =
    let s = c.in-Kid.symbol in
    let i = c.in-Kid.from in
    let j = c.in-Kid.to in
    let f = c.args.self.now in
    let g = c.insert_kid.new.self in
    kid_room f g s i j (ap (λ (h : Flags). h.values) c.insert_kid.ensures) (ap (λ (h : Flags). h.kids) c.insert_kid.ensures)
    (subst (λ (item : sequence.Bound). HasRoom f item) c.in-Kid.is c.requires)
