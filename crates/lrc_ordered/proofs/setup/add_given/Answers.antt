use Rattle.std.proofs.Common.{ℕ, ◌≡◌, ◌<◌, get_or, length, length-set, ap, subst, ◌∙◌, ◌⊎◌, ◌↔◌, take_all, arith}
use Rattle.lrc_base.specs.declared.grammar.Given.{Given}
use Rattle.lrc_graph.specs.Pairs.{Pairs, Has, HasExactly, With}
use Rattle.lrc_ordered.specs.Tables.{nothing, table_at, HasAt}
use Rattle.std.proofs.lemmas.List.{get_or_default}
use Rattle.lrc_ordered.proofs.SetupLemmas.{IsPut, given_left, given_added, set_points}
use Rattle.lrc_ordered.proofs.setup.add_given.Goals as goal
use Rattle.lrc_ordered.proofs.setup.add_given.Goals.{then-is_in, else-is_in}

abbrev none : Given
none = record { sort = 0; first = 0; then = 0 }

pub given-preserved : goal.given-preserved
given-preserved c =
    let i = c.given.pair-index in
    let g : Given = get_or c.args.given.now i none in
    let old = c.args.tables.now in
    let now = c.given.tables in
    let held = c.given.invariant in
    let is = get_or_default c.args.given.now i none g c.given-test.true in
    let number = held.number in
    let there = (c.requires i none c.given-test.true).0 in
    let small : g.sort < length now = omega arith in
    elim c.if-is_in.branch [
      | then-is_in w ↦
          let found : get_or now g.sort w.index-tables-pair.result ≡ table_at now g.sort = get_or_default now g.sort w.index-tables-pair.result nothing small in
          rw w.tables-is
          (record {
            number = length-set now g.sort w.add.new.self ∙ held.number;
            points = λ s.
                set_points now g.sort w.add.new.self small (w.add.ensures.points ∙ ap (λ (r : Pairs). r.points) found) s ∙ held.points s;
            pairs = given_added old now c.args.places.now c.args.given.now i g c.given-test.true is held.pairs w.add.new.self small (c.is_in.ensures.0 w.if-is_in.true)
                (subst (λ (r : Pairs). HasExactly w.add.new.self (With (Has r) g.first g.then)) found w.add.ensures.pairs);
          })
      | else-is_in w ↦
          rw w.tables-is
          (record {
            number = held.number;
            points = held.points;
            pairs = given_left old now c.args.places.now c.args.given.now i g c.given-test.true is held.pairs
                (λ h. let yes_in = c.is_in.ensures.1 h in let not_in = w.if-is_in.false in absurd (cc));
          })
    ]

pub returns-clause-pairs : goal.returns-clause-pairs
returns-clause-pairs c =
    subst (λ given. (s x y : ℕ) → HasAt c.given.tables s x y ↔ (HasAt c.args.tables.now s x y ⊎ IsPut c.args.places.now given s x y))
    (take_all c.given.pair-index c.args.given.now c.given-test.false) c.given.invariant.pairs
