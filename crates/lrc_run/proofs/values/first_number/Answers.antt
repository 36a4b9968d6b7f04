use Rattle.std.proofs.Common.{◌∙◌, rules, w64, SFits}
use Rattle.std.proofs.lemmas.Int.{to_z-of_z}
use Rattle.lrc_store.specs.declared.cells.Cell.TheVariants as cell
use Rattle.lrc_store.proofs.Lasting.{reads-then}
use Rattle.lrc_run.proofs.ValueLemmas.{number_shown, none_shown}
use Rattle.lrc_run.proofs.values.first_number.Goals as goal

pub returns-in-Number-clause-number : goal.returns-in-Number-clause-number
returns-in-Number-clause-number g c vs stands =
    let n = c.in-Number.number in
    let fits : SFits w64 n = search rules in
    to_z-of_z w64 n fits
    ∙ number_shown (g.St.Store.state c.first_value.new.store) (g.St.Store.state c.look.new.self) vs (c.in-Some.first, c.in-Some._rest) (cell.Number n) (c.in-Some.ensures.begins vs stands) c.in-Number.ensures.shows

pub returns-in-Number-clause-reads : goal.returns-in-Number-clause-reads
returns-in-Number-clause-reads g c = reads-then _ _ _ c.first_value.ensures.reads c.look.ensures.reads

pub returns-in-Nil : goal.returns-in-Nil
returns-in-Nil g c = record {
  number = λ vs stands.
      none_shown c.look.result c.in-Nil.is
      ∙ number_shown (g.St.Store.state c.first_value.new.store) (g.St.Store.state c.look.new.self) vs (c.in-Some.first, c.in-Some._rest) c.look.result (c.in-Some.ensures.begins vs stands) c.look.ensures.shows;
  reads = reads-then _ _ _ c.first_value.ensures.reads c.look.ensures.reads;
  same_meaning = c.look.ensures.same_meaning ∙ c.first_value.ensures.same_meaning;
}
