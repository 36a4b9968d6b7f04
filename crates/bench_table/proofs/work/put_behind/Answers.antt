use Rattle.std.proofs.Common.{to_z, of_z, w64, sym, subst}
use Rattle.std.specs.Prelude.{List}
use Rattle.lrc_store.specs.declared.cells.Handle.{Handle}
use Rattle.lrc_memo.specs.Shared.{shared_standing}
use Rattle.bench_table.specs.Numbers.{AreNumbers}
use Rattle.bench_table.proofs.Numbered.{stay, behind}
use Rattle.bench_table.proofs.work.put_behind.Goals as goal

pub returns-in_err-push : goal.returns-in_err-push
returns-in_err-push c = subst (λ (hs : List Handle). AreNumbers (shared_standing c.int.new.self) hs) (sym c.in_err-push.ensures.items)
    (stay (shared_standing c.args.store.now) (shared_standing c.int.new.self) c.args.handles.now.items c.in-Ok.ensures.puts.adds.gains.lasts.known c.requires)

pub returns-in_ok-push : goal.returns-in_ok-push
returns-in_ok-push c = subst (λ (hs : List Handle). AreNumbers (shared_standing c.int.new.self) hs) (sym c.in_ok-push.ensures.items)
    (behind (shared_standing c.args.store.now) (shared_standing c.int.new.self) c.args.handles.now.items c.in-Ok.handle (to_z w64 (of_z w64 c.from.result)) c.in-Ok.ensures.puts.adds.gains.lasts.known c.requires c.in-Ok.ensures.puts.ok.stands)

pub returns-in_default : goal.returns-in_default
returns-in_default c = stay (shared_standing c.args.store.now) (shared_standing c.int.new.self) c.args.handles.now.items c.in_default.ensures.puts.adds.gains.lasts.known c.requires
