use Rattle.std.proofs.Common.{arith, ◌≤◌, ◌<◌, ◌+◌, ◌*◌, length}
use Rattle.lrc_graph.proofs.RowLemmas.{done-more, rest-more}
use Rattle.lrc_graph.proofs.rows.join_row.Goals as goal

pub words-preserved : goal.words-preserved
words-preserved c =
    let small : c.words.k < c.args.width = omega arith in
    let fits : c.args.into * c.args.width + c.args.width ≤ length c.words.table = omega arith in
    let held = c.words.invariant in record {
      done = done-more c.args.width c.args.into c.args.from c.args.table.now c.words.table c.words.k small fits held.done held.rest;
      rest = rest-more c.args.width c.args.into c.args.from c.args.table.now c.words.table c.words.k small fits held.done held.rest;
    }
