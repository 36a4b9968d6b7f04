use Rattle.std.proofs.Common.{◌≡◌, ◌⊎◌, ◌∙◌, ap, arith, sym, subst, length, take, drop, ◌++◌, take_at}
use Rattle.lrc_graph.specs.Pairs.{Has, HasExactly}
use Rattle.lrc_graph.specs.Shown.{shown}
use Rattle.lrc_graph.proofs.ShownLemmas.{points-shown}
use Rattle.lrc_graph.proofs.RowLemmas.{row-within, joined-rows, Joined}
use Rattle.lrc_graph.proofs.relation.Relation.join_row.Goals as goal

pub join_row-requires-clause-into : goal.join_row-requires-clause-into
join_row-requires-clause-into c =
    let s = c.self.inside in
    let points : s.points ≡ c.args.self.now.points = sym (points-shown s.points s.width s.words.items) ∙ ap (λ r. r.points) c.self.view_is in
    rw c.deref_mut.ensures.value (row-within s.points s.width s.words.items c.self.invariant c.args.into (omega arith))

pub join_row-requires-clause-from : goal.join_row-requires-clause-from
join_row-requires-clause-from c =
    let s = c.self.inside in
    let points : s.points ≡ c.args.self.now.points = sym (points-shown s.points s.width s.words.items) ∙ ap (λ r. r.points) c.self.view_is in
    rw c.deref_mut.ensures.value (row-within s.points s.width s.words.items c.self.invariant c.args.from (omega arith))

pub returns-clause-points : goal.returns-clause-points
returns-clause-points c =
    let s = c.self.inside in
    points-shown s.points s.width _ ∙ sym (points-shown s.points s.width s.words.items) ∙ ap (λ r. r.points) c.self.view_is

pub returns-clause-pairs : goal.returns-clause-pairs
returns-clause-pairs c =
    let s = c.self.inside in
    let points : s.points ≡ c.args.self.now.points = sym (points-shown s.points s.width s.words.items) ∙ ap (λ r. r.points) c.self.view_is in
    let words = c.join_row.new.table in
    let kept : take s.words.len (words ++ drop (length words) s.words.items) ≡ words = take_at words _ s.words.len (let len = s.words.ok.0 in omega arith) in
    let rows : Joined s.width c.args.into c.args.from s.words.items words = subst (λ old. Joined s.width c.args.into c.args.from old words) c.deref_mut.ensures.value (record { joined = c.join_row.ensures.joined; others = c.join_row.ensures.others }) in
    subst (λ new. HasExactly (shown s.points s.width new) (λ x y. Has c.args.self.now x y ⊎ ((x ≡ c.args.into) × Has c.args.self.now c.args.from y))) (sym kept)
    (subst (λ r. HasExactly (shown s.points s.width words) (λ x y. Has r x y ⊎ ((x ≡ c.args.into) × Has r c.args.from y))) c.self.view_is
    (joined-rows s.points s.width s.words.items words c.self.invariant c.args.into c.args.from (omega arith) (omega arith) rows))
