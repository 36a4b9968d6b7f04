use Rattle.std.proofs.Common.{ℕ, ◌<◌, ◌∙◌, ap, sym, subst}
use Rattle.lrc_graph.specs.Pairs.{Has}
use Rattle.lrc_graph.proofs.ShownLemmas.{points-shown, within-shown}
use Rattle.lrc_graph.proofs.relation.Relation.points.Goals as goal

pub returns-clause-value : goal.returns-clause-value
returns-clause-value c =
    let s = c.self.inside in sym (points-shown s.points s.width s.words.items) ∙ ap (λ r. r.points) c.self.view_is

pub returns-clause-within : goal.returns-clause-within
returns-clause-within c =
    let s = c.self.inside in
    subst (λ r. (a b : ℕ) → Has r a b → (a < s.points) × (b < s.points)) c.self.view_is
    (within-shown s.points s.width s.words.items)
