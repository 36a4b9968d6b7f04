use Rattle.std.proofs.Common.{◌≡◌, ◌+◌, ◌*◌, ◌/◌, ◌%◌, ◌^◌, ◌∙◌, ap, arith, sym, subst, eqb, true}
use Rattle.std.proofs.lemmas.List.{get_or_read}
use Rattle.std.specs.Prelude.{bit_and, ◌↔◌}
use Rattle.lrc_graph.specs.Pairs.{Has}
use Rattle.lrc_graph.proofs.ShownLemmas.{points-shown}
use Rattle.lrc_graph.proofs.RowLemmas.{place-within, has-tested}
use Rattle.lrc_graph.proofs.relation.Relation.has.Goals as goal

pub index-word-requires : goal.index-word-requires
index-word-requires c =
    let s = c.self.inside in
    let points : s.points ≡ c.args.self.now.points = sym (points-shown s.points s.width s.words.items) ∙ ap (λ r. r.points) c.self.view_is in
    let at = place-within s.points s.width s.words.items c.self.invariant c.args.a c.args.b (omega arith) (omega arith) in
    let len = s.words.ok.0 in omega arith

pub returns : goal.returns
returns c =
    let s = c.self.inside in
    let points : s.points ≡ c.args.self.now.points = sym (points-shown s.points s.width s.words.items) ∙ ap (λ r. r.points) c.self.view_is in
    let at = place-within s.points s.width s.words.items c.self.invariant c.args.a c.args.b (omega arith) (omega arith) in
    let word = c.index-word.result.now in
    let read = get_or_read s.words.items (c.args.a * s.width + c.args.b / 64) word at.0 c.index-word.ensures 0 in
    subst (λ r. (eqb (bit_and (word / 2 ^ (c.args.b % 64)) 1) 1 ≡ true) ↔ Has r c.args.a c.args.b) c.self.view_is
    (has-tested s.points s.width s.words.items c.args.a c.args.b word (omega arith) (omega arith) read)
