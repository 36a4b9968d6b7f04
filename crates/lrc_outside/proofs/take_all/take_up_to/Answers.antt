use Rattle.std.proofs.Common.{◌≡◌, ℕ, ◌-◌, ◌<◌, ◌≤◌, Option, Result, Ok, Err, List, ◌++◌, length, take, arith, rules, length-append}
use Rattle.std.specs.Prelude.{OnErr}
use Rattle.std.proofs.lemmas.List.{take-append-le, length-take, length-take-le}
use Rattle.std.proofs.KnownBytes.{Consumes-trans}
use Rattle.std.specs.Io.KnownBytes.{Consumes}
use Rattle.lrc_outside.specs.Known.{LosesUpTo}
use Rattle.lrc_outside.proofs.take_all.take_up_to.Goals as goal

-- what was read before, and then the first bytes of the buffer
Consumes-more : (a b c : Option (List ℕ)) (old buf rest new : List ℕ) (n : ℕ) → Consumes a b old → Consumes b c (take n buf)
    → n ≤ length buf → new ≡ old ++ take n (buf ++ rest) → Consumes a c new
Consumes-more a b c old buf rest new n p q h e = rw (e, take-append-le) (Consumes-trans a b c _ _ p q)

-- the bytes of one more block keep the limit
within_limit : (old buf rest new : List ℕ) (n limit : ℕ) → n ≤ length buf → length buf ≤ limit - length old → length old < limit
    → new ≡ old ++ take n (buf ++ rest) → length new ≤ limit
within_limit old buf rest new n limit h room test e =
    rw (e, length-append, take-append-le, length-take-le n buf h) (omega arith)

-- what one more block gave is lost too
lost_more : {T E : Type 0} (r : Result T E) (limit n : ℕ) (a b c : Option (List ℕ)) (old buf : List ℕ) → Consumes a b old → Consumes b c (take n buf)
    → n ≤ length buf → length buf ≤ limit - length old → length old < limit → OnErr r (LosesUpTo limit a c)
lost_more (Ok _) limit n a b c old buf p q h room test = tt
lost_more (Err _) limit n a b c old buf p q h room test =
    (old ++ take n buf, rw (length-append, length-take-le n buf h) (omega arith), Consumes-trans a b c _ _ p q)

pub loop-block-preserved : goal.loop-block-preserved
loop-block-preserved g c =
    let e = c.in_ok-extend_from_slice.ensures.items in
    let within = c.in_ok-n.ensures.within in
    let sofar = c.loop-block.invariant in
    let old = c.loop-block.bytes in
    let room : length c.take.new.buf ≤ c.args.limit - length old.items = omega (arith, old.ok.0, c.take.auto.buf, length-take {A = ℕ}) in
    let test : length old.items < c.args.limit = omega (arith, old.ok.0) in (
      within_limit old.items c.take.new.buf _ _ c.in_ok-n.n c.args.limit within room test e,
      Consumes-more _ _ _ _ c.take.new.buf _ _ c.in_ok-n.n sofar.1 c.in_ok-n.ensures.given within e,
      omega (arith, sofar.2, c.in_ok-n.ensures.never_falls),
      search rules,
    )

pub returns-in_err-extend_from_slice-clause-lost :
    goal.returns-in_err-extend_from_slice-clause-lost
returns-in_err-extend_from_slice-clause-lost g c =
    let old = c.loop-block.bytes in
    let room : length c.take.new.buf ≤ c.args.limit - length old.items = omega (arith, old.ok.0, c.take.auto.buf, length-take {A = ℕ}) in
    let test : length old.items < c.args.limit = omega (arith, old.ok.0) in
    lost_more _ c.args.limit c.in_ok-n.n _ _ _ old.items c.take.new.buf c.loop-block.invariant.1 c.in_ok-n.ensures.given c.in_ok-n.ensures.within room test
