use Rattle.std.proofs.Common.{◌≡◌, ap, arith}
use Rattle.std.proofs.lemmas.Int.{ints}
use lib.IntN.{pos}
use mir.Syntax.{w64}
use mir.Val.{to_z, of_z}
use Rattle.lrc_store.specs.Cells.{number}
use Rattle.lrc_store.specs.Standing.{meant}
use Rattle.lrc_store.proofs.Known.{kept-meant, stands-meant}
use Rattle.lrc_code.proofs.Growing.{left-within, right-within, builds-stopped, builds-then, builds-as, same-pair, pair-then}
use Rattle.lrc_code.proofs.calls.put_result.Goals as goal

pub returns-in_err-number-clause-builds : goal.returns-in_err-number-clause-builds
returns-in_err-number-clause-builds g c =
    let s = g.St.Store.state c.args.store.now in
    let t = g.St.Store.state c.put_number.new.store in
    let height : number (to_z w64 (of_z w64 c.from.result)) ≡ number (pos c.args.height) = ap number (omega (arith, ints, c.from.ensures)) in
    builds-stopped s t (number (pos c.args.height)) _ _ _ (left-within _ _ _) c.from_residual.ensures.0 (builds-as s t _ _ _ height c.in_err-number.ensures.builds)

pub returns-in_err-lists-clause-builds : goal.returns-in_err-lists-clause-builds
returns-in_err-lists-clause-builds g c =
    let s = g.St.Store.state c.args.store.now in
    let t = g.St.Store.state c.put_number.new.store in
    let u = g.St.Store.state c.put_pair.new.store in
    let height : number (to_z w64 (of_z w64 c.from.result)) ≡ number (pos c.args.height) = ap number (omega (arith, ints, c.from.ensures)) in
    let made = builds-as s t _ _ _ height c.in_ok-number.ensures.builds in
    let lists = same-pair 5 (meant t c.args.synthesised.0) (meant t c.args.bindings.0) (meant s c.args.synthesised.0) (meant s c.args.bindings.0)
    (kept-meant s t c.args.synthesised.0 made.adds.gains.lasts.known c.requires.synthesised_known) (kept-meant s t c.args.bindings.0 made.adds.gains.lasts.known c.requires.bindings_known) in
    builds-then s t u (number (pos c.args.height)) _ _ (left-within _ _ _) made.adds
    (builds-stopped t u _ _ _ _ (right-within _ _ _) c.from_residual-in_err-lists.ensures.0 (builds-as t u _ _ _ lists c.in_err-lists.ensures.builds))

pub returns-clause-builds : goal.returns-clause-builds
returns-clause-builds g c =
    let s = g.St.Store.state c.args.store.now in
    let t = g.St.Store.state c.put_number.new.store in
    let u = g.St.Store.state c.put_pair.new.store in
    let v = g.St.Store.state c.put_pair-2.new.store in
    let height : number (to_z w64 (of_z w64 c.from.result)) ≡ number (pos c.args.height) = ap number (omega (arith, ints, c.from.ensures)) in
    let made = builds-as s t _ _ _ height c.in_ok-number.ensures.builds in
    let lists = same-pair 5 (meant t c.args.synthesised.0) (meant t c.args.bindings.0) (meant s c.args.synthesised.0) (meant s c.args.bindings.0)
    (kept-meant s t c.args.synthesised.0 made.adds.gains.lasts.known c.requires.synthesised_known) (kept-meant s t c.args.bindings.0 made.adds.gains.lasts.known c.requires.bindings_known) in
    let next = builds-as t u _ _ _ lists c.in_ok-lists.ensures.builds in
    builds-then s t v (number (pos c.args.height)) _ _ (left-within _ _ _) made.adds
    (pair-then t u v 6 c.in_ok-number.number.0 c.in_ok-lists.lists.0 _ _ _ _ _
    (stands-meant u c.in_ok-number.number.0 _ (next.adds.gains.lasts.known c.in_ok-number.number.0 _ made.ok.stands))
    (stands-meant u c.in_ok-lists.lists.0 _ next.ok.stands)
    (right-within _ _ _) next c.put_pair-2.ensures.builds)
