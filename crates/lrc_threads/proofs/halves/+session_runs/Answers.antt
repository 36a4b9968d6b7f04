use mir.Syntax.{w32, static}
use Rattle.lrc_base.specs.contracts.job.Script as script_type
use Rattle.lrc_table.specs.contracts.table.Table as table_type
use Rattle.lrc_functions.specs.contracts.functions.Functions as functions
use mathlib.Core.List.{◌∷◌, []}
use denote.Struct.Tuple.{type_at}
use Rattle.lrc_threads.proofs.halves.+session_runs.Lts-session_runs.{arg-3-1}
use denote.Hole.{as_row}
use denote.Struct.Field.{row_field, u32-field}
use Rattle.lrc_table.specs.contracts.table.Pass as pass_type
use Rattle.lrc_bodies.specs.contracts.remembered.VisitMeaning as meaning
use Rattle.lrc_bodies.specs.contracts.remembered.VisitMeaningMeaning.TheImpl.{ghosts}
use denote.Plain.{UInt}
use mathlib.Core.List.{◌∷◌, []}
use denote.Struct.Tuple.{type_at}
use denote.Param.{param}
use Rattle.lrc_threads.specs.contracts.outs.Sizes as sizes_type
use denote.Param.Send.{IsSend, IsSync, plain_send, shr_send, shr_slice_send, param_send, arg_send}
use denote.Param.SendFields.{declared_send, as_row_send}
use Rattle.std.proofs.Common.{ap, sym, ◌++◌, ◌/◌, List, length, ◌∙◌}
use Rattle.std.proofs.lemmas.List.{take-append-drop}
use Rattle.std.proofs.alloc.Global.TheSendSync as heap
use Rattle.std.specs.Prelude.{take, drop}
use Rattle.lrc_base.proofs.job.Script.TheSendSync as script
use Rattle.lrc_base.specs.declared.job.Script.{Script}
use Rattle.lrc_table.proofs.table.Table.TheSendSync as table
use Rattle.lrc_table.proofs.table.Pass.TheSendSync as pass
use Rattle.lrc_table.specs.Standings.{standing}
use Rattle.lrc_threads.proofs.outs.Sizes.TheSendSync as sizes
use Rattle.lrc_threads.proofs.CrossingLemmas.{functions_sync}
use Rattle.lrc_threads.proofs.PlayedLemmas.{answers-both}
use Rattle.lrc_threads.proofs.halves.+session_runs.Goals as goal

pub join-one-requires-send-F : goal.join-one-requires-send-F
join-one-requires-send-F g t c κs within =
    let r : IsSync (param 0 g.row.R) = c.requires.sync.0 in
    let k : IsSync (param 1 g.row.G) = c.requires.sync.1 in
    let z : IsSend sizes_type.the_row = sizes.the_send in
    let u : IsSend (UInt w32) = plain_send _ _ _ _ _ in
    param_send 1 (arg-3-1 g.row.R g.row.G g.R.laws g.G.laws g.R.Threads-dict g.G.Gate-dict κs) (record {
      owned = λ x vs vss. (tt, ((shr_send static κs.1.1.1.1.1.1.0 (param 0 g.row.R) r).owned x.0 vss.0, (heap.the_send.owned x.1 vss.1.0, ((shr_send static κs.1.1.1.1.1.1.1.0 (table_type.the_row meaning.the_row ghosts) (table.the_sync meaning.the_row ghosts)).owned x.2 vss.1.1.0, ((shr_send static κs.1.1.1.1.1.1.1.1.0 functions.the_row functions_sync).owned x.3 vss.1.1.1.0, (z.owned x.4 vss.1.1.1.1.0, ((shr_send static κs.1.1.1.1.1.1.1.1.1.0 (param 1 g.row.G) k).owned x.5 vss.1.1.1.1.1.0, ((pass.the_send meaning.the_row ghosts).owned x.6 vss.1.1.1.1.1.1.0, ((shr_slice_send static κs.1.1.1.1.1.1.1.1.1.1.0 script_type.the_row script.the_sync).owned x.7 vss.1.1.1.1.1.1.1.0, (u.owned x.8 vss.1.1.1.1.1.1.1.1.0, tt))))))))));
      leaving = λ e x w. (tt, (tt, (tt, (tt, (tt, (tt, (tt, tt)))))));
    })

pub returns-clause-answers : goal.returns-clause-answers
returns-clause-answers g t c =
    let scripts = c.args.scripts.now in
    let left = c.split_at.result.0.now in
    let right = c.split_at.result.1.now in
    let half = length scripts / 2 in
    answers-both c.args.functions.now c.args.sizes (standing c.join-one.result.0.1.view) (standing c.join-one.result.1.1.view) (standing c.meet.new.self.view) scripts left right c.join-one.result.0.0 c.join-one.result.1.0
    c.joined.result
    (sym (take-append-drop half scripts) ∙ ap (λ (z : List Script). z ++ drop half scripts) (sym c.split_at.ensures.front) ∙ ap (λ (z : List Script). left ++ z) (sym c.split_at.ensures.back))
    c.meet.ensures.reads.stays.lasts.known c.meet.ensures.meets c.joined.ensures c.join-one.ensures.first.1 c.join-one.ensures.second.1
