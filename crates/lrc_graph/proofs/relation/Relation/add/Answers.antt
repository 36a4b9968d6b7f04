use Rattle.std.proofs.Common.{◌≡◌, ◌+◌, ◌*◌, ◌/◌, ◌%◌, ◌^◌, ◌∙◌, ap, arith, sym, subst, get_or, set}
use Rattle.std.proofs.lemmas.List.{get_or_read}
use Rattle.std.specs.Prelude.{bit_or}
use Rattle.lrc_graph.specs.Pairs.{Has, HasExactly, With}
use Rattle.lrc_graph.specs.Shown.{shown}
use Rattle.lrc_graph.proofs.ShownLemmas.{points-shown}
use Rattle.lrc_graph.proofs.RowLemmas.{place-within, added}
use Rattle.lrc_graph.proofs.relation.Relation.add.Goals as goal

pub index_mut-requires : goal.index_mut-requires
index_mut-requires c =
    let s = c.self.inside in
    let points : s.points ≡ c.args.self.now.points = sym (points-shown s.points s.width s.words.items) ∙ ap (λ r. r.points) c.self.view_is in
    let at = place-within s.points s.width s.words.items c.self.invariant c.args.a c.args.b (omega arith) (omega arith) in
    let len = s.words.ok.0 in omega arith

pub returns-clause-points : goal.returns-clause-points
returns-clause-points c =
    let s = c.self.inside in
    points-shown s.points s.width _ ∙ sym (points-shown s.points s.width s.words.items) ∙ ap (λ r. r.points) c.self.view_is

pub returns-clause-pairs : goal.returns-clause-pairs
returns-clause-pairs c =
    let s = c.self.inside in
    let points : s.points ≡ c.args.self.now.points = sym (points-shown s.points s.width s.words.items) ∙ ap (λ r. r.points) c.self.view_is in
    let place = c.args.a * s.width + c.args.b / 64 in
    let at = place-within s.points s.width s.words.items c.self.invariant c.args.a c.args.b (omega arith) (omega arith) in
    let read = get_or_read s.words.items place c.index_mut.result.now at.0 c.index_mut.ensures.value 0 in
    subst (λ w. HasExactly (shown s.points s.width (set s.words.items place (bit_or w (1 * 2 ^ (c.args.b % 64) % 2 ^ 64)))) (With (Has c.args.self.now) c.args.a c.args.b)) (sym read)
    (subst (λ r. HasExactly (shown s.points s.width (set s.words.items place (bit_or (get_or s.words.items place 0) (1 * 2 ^ (c.args.b % 64) % 2 ^ 64)))) (With (Has r) c.args.a c.args.b)) c.self.view_is
    (added s.points s.width s.words.items c.self.invariant c.args.a c.args.b (omega arith) (omega arith)))
