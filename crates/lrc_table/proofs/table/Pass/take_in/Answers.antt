use Rattle.std.proofs.Common.{ap, ◌∙◌, arith}
use Rattle.atomic_table.specs.Table.{Me}
use Rattle.lrc_rule.specs.Views.{View}
use Rattle.lrc_rule.proofs.Keeping.{joins, loads}
use Rattle.lrc_rule.proofs.Places.{some_bucket, some_word}
use Rattle.lrc_table.proofs.Opened.{same_id, same_layout, bucket_of}
use Rattle.lrc_table.proofs.table.Pass.take_in.Goals as goal

pub join_seat-requires : goal.join_seat-requires
join_seat-requires g c =
    let s = c.self in (
      same_id _ _ _ _ s.view_is c.table.view_is c.requires.of,
      same_id _ _ _ _ c.other.view_is c.table.view_is c.requires.other_of,
      c.other.invariant.none,
      some_word _ _ c.table.invariant.1 c.table.invariant.3,
      joins _ _ _ _ _ s.invariant.current.live c.other.invariant.current.live,
    )

pub load-requires : goal.load-requires
load-requires g c =
    let s = c.self in
    let j = c.join_seat.ensures in (
      j.0 ∙ same_id _ _ _ _ s.view_is c.table.view_is c.requires.of,
      (let w = c.bucket-first.ensures.within in omega (arith, w, c.table.invariant.1)),
      loads _ _ _ _ _ (ap (λ (m : Me (Unit {0}) View). m.0.live) j.2 ∙ s.invariant.current.live)
          (bucket_of _ _ 0 _ (ap (λ (m : Me (Unit {0}) View). m.0.layout) j.2 ∙ same_layout _ _ _ _ s.view_is c.table.view_is c.requires.of) (some_bucket _ c.table.invariant.3) c.bucket-first.ensures.index),
    )
