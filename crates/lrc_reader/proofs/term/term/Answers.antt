use Rattle.std.proofs.Common.{◌≡◌, ◌≢◌, length, rules, refl, ap, ◌∙◌}
use Rattle.lrc_base.specs.declared.limits.TheConstants.{TERM_LEVEL_LIMIT}
use Rattle.lrc_parse.specs.Reading.{took, stops}
use Rattle.lrc_reader.specs.declared.fault.Stop.TheVariants.{Memory}
use Rattle.lrc_reader.specs.Gives.{cause_of}
use Rattle.lrc_reader.specs.Reading.{read_term}
use Rattle.lrc_reader.proofs.TermSteps.{begin_shorter, next_shorter}
use Rattle.lrc_reader.proofs.OpenNodes.{begins_there, ends_there}
use Rattle.lrc_reader.proofs.TermTurns.{begins_term, levels_left, begin_stops, begin_ended, begin_opened, none_open, whole_term, one_open, next_stops, next_more, next_ends, room, counted}
use Rattle.lrc_reader.proofs.term.term.Goals as goal

pub more-init : goal.more-init
more-init c = begins_term _ _ _ c.new-open.ensures c.new-trees.ensures

pub overflow_sub-len : goal.overflow_sub-len
overflow_sub-len c =
    let s = begins_there c.more.ended TERM_LEVEL_LIMIT c.more.open c.more.trees c.more.cursor (read_term 0 c.args.cursor.now) c.if-not-ended.true c.more.invariant in
    levels_left TERM_LEVEL_LIMIT c.more.open c.more.trees _ (read_term 0 c.args.cursor.now) c.len.result c.len.ensures s

pub returns-in_err-item : goal.returns-in_err-item
returns-in_err-item c =
    let s = begins_there c.more.ended TERM_LEVEL_LIMIT c.more.open c.more.trees c.more.cursor (read_term 0 c.args.cursor.now) c.if-not-ended.true c.more.invariant in
    let gives : c.in_err-item.field-0.0 ≢ Memory → read_term 0 c.args.cursor.now ≡ stops (cause_of c.in_err-item.field-0.0) c.begin.new.cursor =
    λ other. begin_stops TERM_LEVEL_LIMIT c.more.open c.more.trees c.more.cursor (read_term 0 c.args.cursor.now) c.len.result c.len.ensures s _ _ (c.in_err-item.ensures.gives other) in
    search (rules, gives)

pub more-smaller-in-Ended : goal.more-smaller-in-Ended
more-smaller-in-Ended c = begin_shorter _ _ _ _ c.in_ok-item.ensures.gives

pub more-preserved-in-Ended : goal.more-preserved-in-Ended
more-preserved-in-Ended c =
    let s = begins_there c.more.ended TERM_LEVEL_LIMIT c.more.open c.more.trees c.more.cursor (read_term 0 c.args.cursor.now) c.if-not-ended.true c.more.invariant in
    begin_ended TERM_LEVEL_LIMIT c.more.open c.more.trees c.more.cursor (read_term 0 c.args.cursor.now) c.len.result c.len.ensures s
    _ _ c.in_ok-item.field-0 c.in-Ended.item c.in_ok-item.ensures.gives c.in-Ended.is c.in_ok-item.ensures.alone c.in_ok-add-in-Ended.ensures

pub more-smaller-in-Opened : goal.more-smaller-in-Opened
more-smaller-in-Opened c = begin_shorter _ _ _ _ c.in_ok-item.ensures.gives

pub more-preserved-in-Opened : goal.more-preserved-in-Opened
more-preserved-in-Opened c =
    let s = begins_there c.more.ended TERM_LEVEL_LIMIT c.more.open c.more.trees c.more.cursor (read_term 0 c.args.cursor.now) c.if-not-ended.true c.more.invariant in
    begin_opened TERM_LEVEL_LIMIT c.more.open c.more.trees c.more.cursor (read_term 0 c.args.cursor.now) c.len.result c.len.ensures s
    _ _ c.in_ok-item.field-0 c.in-Opened.name c.in_ok-item.ensures.gives c.in-Opened.is c.in_ok-push-in-Opened.ensures.ok

pub only-requires : goal.only-requires
only-requires c =
    let s = ends_there c.more.ended TERM_LEVEL_LIMIT c.more.open c.more.trees c.more.cursor (read_term 0 c.args.cursor.now) c.if-not-ended.false c.more.invariant in
    ap length (none_open TERM_LEVEL_LIMIT c.more.open c.more.trees c.more.cursor (read_term 0 c.args.cursor.now) s c.in_default.ensures.0).1

pub returns-in_default : goal.returns-in_default
returns-in_default c =
    let s = ends_there c.more.ended TERM_LEVEL_LIMIT c.more.open c.more.trees c.more.cursor (read_term 0 c.args.cursor.now) c.if-not-ended.false c.more.invariant in
    whole_term TERM_LEVEL_LIMIT c.more.open c.more.trees c.more.cursor (read_term 0 c.args.cursor.now) s c.in_default.ensures.0 c.only.result c.only.ensures

pub returns-in_err-another : goal.returns-in_err-another
returns-in_err-another c =
    let s = ends_there c.more.ended TERM_LEVEL_LIMIT c.more.open c.more.trees c.more.cursor (read_term 0 c.args.cursor.now) c.if-not-ended.false c.more.invariant in
    let i = one_open TERM_LEVEL_LIMIT c.more.open c.pop.new.self c.in-Some.node c.more.trees c.more.cursor (read_term 0 c.args.cursor.now) s c.in-Some.ensures in
    let gives : c.in_err-another.field-0.0 ≢ Memory → read_term 0 c.args.cursor.now ≡ stops (cause_of c.in_err-another.field-0.0) c.another.new.cursor =
    λ other. next_stops TERM_LEVEL_LIMIT c.pop.new.self c.in-Some.node c.more.trees c.more.cursor (read_term 0 c.args.cursor.now) i _ _ (c.in_err-another.ensures other) in
    search (rules, gives)

pub more-smaller-then-branch : goal.more-smaller-then-branch
more-smaller-then-branch c = next_shorter _ _ _ c.in_ok-another.ensures

pub more-preserved-then-branch : goal.more-preserved-then-branch
more-preserved-then-branch c =
    let s = ends_there c.more.ended TERM_LEVEL_LIMIT c.more.open c.more.trees c.more.cursor (read_term 0 c.args.cursor.now) c.if-not-ended.false c.more.invariant in
    let i = one_open TERM_LEVEL_LIMIT c.more.open c.pop.new.self c.in-Some.node c.more.trees c.more.cursor (read_term 0 c.args.cursor.now) s c.in-Some.ensures in
    next_more TERM_LEVEL_LIMIT c.pop.new.self c.in-Some.node c.more.trees c.more.cursor (read_term 0 c.args.cursor.now) i _ _ c.in-Some.node.name c.in_ok-children.children
    (c.in_ok-another.ensures ∙ ap (λ b. took b c.another.new.cursor) c.if-branch.true) refl (counted _ _ _ _ c.checked_add.ensures c.in_ok-children.ensures.ok_part) c.in_ok-push.ensures.ok

pub add-requires-else-branch : goal.add-requires-else-branch
add-requires-else-branch c =
    let s = ends_there c.more.ended TERM_LEVEL_LIMIT c.more.open c.more.trees c.more.cursor (read_term 0 c.args.cursor.now) c.if-not-ended.false c.more.invariant in
    let i = one_open TERM_LEVEL_LIMIT c.more.open c.pop.new.self c.in-Some.node c.more.trees c.more.cursor (read_term 0 c.args.cursor.now) s c.in-Some.ensures in
    room TERM_LEVEL_LIMIT c.pop.new.self c.in-Some.node c.more.trees c.more.cursor (read_term 0 c.args.cursor.now) i c.in_ok-children.children (counted _ _ _ _ c.checked_add.ensures c.in_ok-children.ensures.ok_part)

pub more-smaller : goal.more-smaller
more-smaller c = next_shorter _ _ _ c.in_ok-another.ensures

pub more-preserved : goal.more-preserved
more-preserved c =
    let s = ends_there c.more.ended TERM_LEVEL_LIMIT c.more.open c.more.trees c.more.cursor (read_term 0 c.args.cursor.now) c.if-not-ended.false c.more.invariant in
    let i = one_open TERM_LEVEL_LIMIT c.more.open c.pop.new.self c.in-Some.node c.more.trees c.more.cursor (read_term 0 c.args.cursor.now) s c.in-Some.ensures in
    next_ends TERM_LEVEL_LIMIT c.pop.new.self c.in-Some.node c.more.trees c.more.cursor (read_term 0 c.args.cursor.now) i _ _ c.in_ok-children.children
    (c.in_ok-another.ensures ∙ ap (λ b. took b c.another.new.cursor) c.if-branch.false) (counted _ _ _ _ c.checked_add.ensures c.in_ok-children.ensures.ok_part) c.in_ok-add.ensures
