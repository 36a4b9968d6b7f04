use Rattle.std.proofs.Common.{◌≡◌, ◌+◌, ◌-◌, map, take, drop, length, ap, ◌∙◌, refl, arith, rules, pos, Some, None, w64, SFits, to_z, of_z}
use Rattle.std.specs.Prelude.{Ok}
use Rattle.std.proofs.lemmas.Int.{to_z-of_z}
use Rattle.lrc_meaning.specs.Tree.{int, bool, name, node}
use Rattle.lrc_meaning.specs.Expression.{expression, literal, occurrence, leaf, binary, choice, make, no_more, and_more, expression_row}
use Rattle.lrc_meaning.proofs.ExpressionLemmas.{expression-Int, expression-Bool, expression-Name, expression-Occ, expression-Leaf}
use Rattle.lrc_store.proofs.Known.{stands-known}
use Rattle.lrc_code.specs.Forms.{tree_cell}
use Rattle.lrc_eval.specs.declared.values.Val.TheVariants as v
use Rattle.lrc_eval.proofs.GivenLemmas.{given-lasts, each-given-lasts, given-left, given-right, given-condition, given-then, given-other, given-arguments, given-first, given-rest, given-value, leaf-there}
use Rattle.lrc_eval.proofs.EvaluateLemmas.{ends-unbuilt, number-literal, truth-literal, name-full, name-literal, set-within, occurrence-value, left-full, left-none, right-full, right-none, both-meant, both-there, condition-full, condition-none, condition-other, no-truth-value, then-chosen, other-chosen}
use Rattle.lrc_eval.proofs.MakeLemmas.{no-arguments, first-full, first-none, rest-full, rest-none, value-meant, item-full, item-known, rest-known, list-full, list-there, arguments-full, arguments-none, node-full, node-there, list-known, no-args, first-args}
use Rattle.lrc_eval.proofs.FormLemmas.{weight, weight_of_each, op-form, if-form, make-form, given-as, each-given-as, evaluates-as, each-evaluates-as, evaluates-at, each-evaluates-at}
use Rattle.lrc_eval.proofs.expression.+evaluate.Goals as goal

-- ---- operators

pub operation-evaluate-requires : goal.operation-evaluate-requires
operation-evaluate-requires g t c κs within =
    let falls : 1 + (weight (expression c.args.left.now) + weight (expression c.args.right.now)) ≡ t = c.decreases in
    let x = c.requires.given.0 in
    (omega (arith, falls), (within.0, (within.1, (x, given-left (g.St.Store.state c.args.store.now) c.args.values.now c.args.node x c.args.op (expression c.args.left.now) (expression c.args.right.now) c.requires.given.1))))

pub operation-returns-in_err-left-clause-evaluates : goal.operation-returns-in_err-left-clause-evaluates
operation-returns-in_err-left-clause-evaluates g t c x given =
    let s = g.St.Store.state c.args.store.now in
    left-full x c.args.op (expression c.args.left.now) (expression c.args.right.now) s (g.St.Store.state c.evaluate.new.store) c.in_err-left.field-0.0 c.from_residual.result
    (c.in_err-left.ensures.evaluates x (given-left s c.args.values.now c.args.node x c.args.op (expression c.args.left.now) (expression c.args.right.now) given)) c.from_residual.ensures.0

pub operation-returns-in_default-clause-evaluates : goal.operation-returns-in_default-clause-evaluates
operation-returns-in_default-clause-evaluates g t c x given =
    let s = g.St.Store.state c.args.store.now in
    let u = g.St.Store.state c.evaluate.new.store in
    left-none x c.args.op (expression c.args.left.now) (expression c.args.right.now) s u
    (evaluates-at s u x (expression c.args.left.now) c.in_ok-left.field-0 None c.in_default.is (c.in_ok-left.ensures.evaluates x (given-left s c.args.values.now c.args.node x c.args.op (expression c.args.left.now) (expression c.args.right.now) given)))

pub operation-evaluate-requires-2 : goal.operation-evaluate-requires-2
operation-evaluate-requires-2 g t c κs within =
    let s = g.St.Store.state c.args.store.now in
    let u = g.St.Store.state c.evaluate.new.store in
    let falls : 1 + (weight (expression c.args.left.now) + weight (expression c.args.right.now)) ≡ t = c.decreases in
    let x = c.requires.given.0 in
    let given = c.requires.given.1 in
    let first = c.evaluate.ensures.evaluates x (given-left s c.args.values.now c.args.node x c.args.op (expression c.args.left.now) (expression c.args.right.now) given) in
    (omega (arith, falls), (within.0, (within.1, (x, given-lasts s u c.args.values.now c.args.node x (expression c.args.right.now) first.adds.gains.lasts.known (given-right s c.args.values.now c.args.node x c.args.op (expression c.args.left.now) (expression c.args.right.now) given)))))

pub operation-returns-in_err-right-clause-evaluates : goal.operation-returns-in_err-right-clause-evaluates
operation-returns-in_err-right-clause-evaluates g t c x given =
    let s = g.St.Store.state c.args.store.now in
    let u = g.St.Store.state c.evaluate.new.store in
    let first = evaluates-at s u x (expression c.args.left.now) c.in_ok-left.field-0 (Some c.in-Some.left) c.in-Some.is (c.in_ok-left.ensures.evaluates x (given-left s c.args.values.now c.args.node x c.args.op (expression c.args.left.now) (expression c.args.right.now) given)) in
    let right = given-lasts s u c.args.values.now c.args.node x (expression c.args.right.now) first.adds.gains.lasts.known (given-right s c.args.values.now c.args.node x c.args.op (expression c.args.left.now) (expression c.args.right.now) given) in
    right-full x c.args.op (expression c.args.left.now) (expression c.args.right.now) s u (g.St.Store.state c.evaluate-2.new.store) c.in-Some.left c.in_err-right.field-0.0 c.from_residual-in_err-right.result
    first (c.in_err-right.ensures.evaluates x right) c.from_residual-in_err-right.ensures.0

pub operation-returns-in_default-2-clause-evaluates : goal.operation-returns-in_default-2-clause-evaluates
operation-returns-in_default-2-clause-evaluates g t c x given =
    let s = g.St.Store.state c.args.store.now in
    let u = g.St.Store.state c.evaluate.new.store in
    let first = evaluates-at s u x (expression c.args.left.now) c.in_ok-left.field-0 (Some c.in-Some.left) c.in-Some.is (c.in_ok-left.ensures.evaluates x (given-left s c.args.values.now c.args.node x c.args.op (expression c.args.left.now) (expression c.args.right.now) given)) in
    let right = given-lasts s u c.args.values.now c.args.node x (expression c.args.right.now) first.adds.gains.lasts.known (given-right s c.args.values.now c.args.node x c.args.op (expression c.args.left.now) (expression c.args.right.now) given) in
    let z = g.St.Store.state c.evaluate-2.new.store in
    right-none x c.args.op (expression c.args.left.now) (expression c.args.right.now) s u z c.in-Some.left first
    (evaluates-at u z x (expression c.args.right.now) c.in_ok-right.field-0 None c.in_default-2.is (c.in_ok-right.ensures.evaluates x right))

pub operation-operated-requires : goal.operation-operated-requires
operation-operated-requires g t c =
    let x = c.requires.given.0 in
    let given = c.requires.given.1 in
    let s = g.St.Store.state c.args.store.now in
    let u = g.St.Store.state c.evaluate.new.store in
    let first = evaluates-at s u x (expression c.args.left.now) c.in_ok-left.field-0 (Some c.in-Some.left) c.in-Some.is (c.in_ok-left.ensures.evaluates x (given-left s c.args.values.now c.args.node x c.args.op (expression c.args.left.now) (expression c.args.right.now) given)) in
    let right = given-lasts s u c.args.values.now c.args.node x (expression c.args.right.now) first.adds.gains.lasts.known (given-right s c.args.values.now c.args.node x c.args.op (expression c.args.left.now) (expression c.args.right.now) given) in
    let z = g.St.Store.state c.evaluate-2.new.store in
    let second = evaluates-at u z x (expression c.args.right.now) c.in_ok-right.field-0 (Some c.in-Some-2.right) c.in-Some-2.is (c.in_ok-right.ensures.evaluates x right) in
    both-meant x c.args.op (expression c.args.left.now) (expression c.args.right.now) s u z c.in-Some.left c.in-Some-2.right first second

pub operation-returns-clause-evaluates : goal.operation-returns-clause-evaluates
operation-returns-clause-evaluates g t c x given =
    let s = g.St.Store.state c.args.store.now in
    let u = g.St.Store.state c.evaluate.new.store in
    let first = evaluates-at s u x (expression c.args.left.now) c.in_ok-left.field-0 (Some c.in-Some.left) c.in-Some.is (c.in_ok-left.ensures.evaluates x (given-left s c.args.values.now c.args.node x c.args.op (expression c.args.left.now) (expression c.args.right.now) given)) in
    let right = given-lasts s u c.args.values.now c.args.node x (expression c.args.right.now) first.adds.gains.lasts.known (given-right s c.args.values.now c.args.node x c.args.op (expression c.args.left.now) (expression c.args.right.now) given) in
    let z = g.St.Store.state c.evaluate-2.new.store in
    let second = evaluates-at u z x (expression c.args.right.now) c.in_ok-right.field-0 (Some c.in-Some-2.right) c.in-Some-2.is (c.in_ok-right.ensures.evaluates x right) in
    both-there x c.args.op (expression c.args.left.now) (expression c.args.right.now) s u z c.in-Some.left c.in-Some-2.right c.operated.result first second c.operated.ensures

-- ---- choices

pub chosen-evaluate-requires : goal.chosen-evaluate-requires
chosen-evaluate-requires g t c κs within =
    let falls : 1 + (weight (expression c.args.condition.now) + (weight (expression c.args.then.now) + weight (expression c.args.other.now))) ≡ t = c.decreases in
    let x = c.requires.given.0 in
    (omega (arith, falls), (within.0, (within.1, (x, given-condition (g.St.Store.state c.args.store.now) c.args.values.now c.args.node x (expression c.args.condition.now) (expression c.args.then.now) (expression c.args.other.now) c.requires.given.1))))

pub chosen-returns-in_err-condition-clause-evaluates : goal.chosen-returns-in_err-condition-clause-evaluates
chosen-returns-in_err-condition-clause-evaluates g t c x given =
    let s = g.St.Store.state c.args.store.now in
    condition-full x (expression c.args.condition.now) (expression c.args.then.now) (expression c.args.other.now) s (g.St.Store.state c.evaluate.new.store) c.in_err-condition.field-0.0 c.from_residual.result
    (c.in_err-condition.ensures.evaluates x (given-condition s c.args.values.now c.args.node x (expression c.args.condition.now) (expression c.args.then.now) (expression c.args.other.now) given)) c.from_residual.ensures.0

pub chosen-returns-in_default-clause-evaluates : goal.chosen-returns-in_default-clause-evaluates
chosen-returns-in_default-clause-evaluates g t c x given =
    let s = g.St.Store.state c.args.store.now in
    let u = g.St.Store.state c.evaluate.new.store in
    condition-none x (expression c.args.condition.now) (expression c.args.then.now) (expression c.args.other.now) s u
    (evaluates-at s u x (expression c.args.condition.now) c.in_ok-condition.field-0 None c.in_default.is (c.in_ok-condition.ensures.evaluates x (given-condition s c.args.values.now c.args.node x (expression c.args.condition.now) (expression c.args.then.now) (expression c.args.other.now) given)))

pub chosen-evaluate-requires-in-Bool-true : goal.chosen-evaluate-requires-in-Bool-true
chosen-evaluate-requires-in-Bool-true g t c κs within =
    let falls : 1 + (weight (expression c.args.condition.now) + (weight (expression c.args.then.now) + weight (expression c.args.other.now))) ≡ t = c.decreases in
    let x = c.requires.given.0 in
    let given = c.requires.given.1 in
    let s = g.St.Store.state c.args.store.now in
    let u = g.St.Store.state c.evaluate.new.store in
    let first = evaluates-at s u x (expression c.args.condition.now) c.in_ok-condition.field-0 (Some c.in-Some.condition) c.in-Some.is (c.in_ok-condition.ensures.evaluates x (given-condition s c.args.values.now c.args.node x (expression c.args.condition.now) (expression c.args.then.now) (expression c.args.other.now) given)) in
    (omega (arith, falls), (within.0, (within.1, (x, given-lasts s u c.args.values.now c.args.node x (expression c.args.then.now) first.adds.gains.lasts.known (given-then s c.args.values.now c.args.node x (expression c.args.condition.now) (expression c.args.then.now) (expression c.args.other.now) given)))))

pub chosen-returns-in-Bool-true-clause-evaluates : goal.chosen-returns-in-Bool-true-clause-evaluates
chosen-returns-in-Bool-true-clause-evaluates g t c x given =
    let s = g.St.Store.state c.args.store.now in
    let u = g.St.Store.state c.evaluate.new.store in
    let first = evaluates-at s u x (expression c.args.condition.now) c.in_ok-condition.field-0 (Some c.in-Some.condition) c.in-Some.is (c.in_ok-condition.ensures.evaluates x (given-condition s c.args.values.now c.args.node x (expression c.args.condition.now) (expression c.args.then.now) (expression c.args.other.now) given)) in
    let taken = given-lasts s u c.args.values.now c.args.node x (expression c.args.then.now) first.adds.gains.lasts.known (given-then s c.args.values.now c.args.node x (expression c.args.condition.now) (expression c.args.then.now) (expression c.args.other.now) given) in
    then-chosen x (expression c.args.condition.now) (expression c.args.then.now) (expression c.args.other.now) s u (g.St.Store.state c.evaluate-in-Bool-true.new.store) c.in-Some.condition c.evaluate-in-Bool-true.result
    (c.in-Bool-true.is ∙ ap v.Bool c.in-Bool-true.field-0-test) first (c.evaluate-in-Bool-true.ensures.evaluates x taken)

pub chosen-evaluate-requires-in-Bool-false : goal.chosen-evaluate-requires-in-Bool-false
chosen-evaluate-requires-in-Bool-false g t c κs within =
    let falls : 1 + (weight (expression c.args.condition.now) + (weight (expression c.args.then.now) + weight (expression c.args.other.now))) ≡ t = c.decreases in
    let x = c.requires.given.0 in
    let given = c.requires.given.1 in
    let s = g.St.Store.state c.args.store.now in
    let u = g.St.Store.state c.evaluate.new.store in
    let first = evaluates-at s u x (expression c.args.condition.now) c.in_ok-condition.field-0 (Some c.in-Some.condition) c.in-Some.is (c.in_ok-condition.ensures.evaluates x (given-condition s c.args.values.now c.args.node x (expression c.args.condition.now) (expression c.args.then.now) (expression c.args.other.now) given)) in
    (omega (arith, falls), (within.0, (within.1, (x, given-lasts s u c.args.values.now c.args.node x (expression c.args.other.now) first.adds.gains.lasts.known (given-other s c.args.values.now c.args.node x (expression c.args.condition.now) (expression c.args.then.now) (expression c.args.other.now) given)))))

pub chosen-returns-in-Bool-false-clause-evaluates : goal.chosen-returns-in-Bool-false-clause-evaluates
chosen-returns-in-Bool-false-clause-evaluates g t c x given =
    let s = g.St.Store.state c.args.store.now in
    let u = g.St.Store.state c.evaluate.new.store in
    let first = evaluates-at s u x (expression c.args.condition.now) c.in_ok-condition.field-0 (Some c.in-Some.condition) c.in-Some.is (c.in_ok-condition.ensures.evaluates x (given-condition s c.args.values.now c.args.node x (expression c.args.condition.now) (expression c.args.then.now) (expression c.args.other.now) given)) in
    let taken = given-lasts s u c.args.values.now c.args.node x (expression c.args.other.now) first.adds.gains.lasts.known (given-other s c.args.values.now c.args.node x (expression c.args.condition.now) (expression c.args.then.now) (expression c.args.other.now) given) in
    other-chosen x (expression c.args.condition.now) (expression c.args.then.now) (expression c.args.other.now) s u (g.St.Store.state c.evaluate-in-Bool-false.new.store) c.in-Some.condition c.evaluate-in-Bool-false.result
    (c.in-Bool-false.is ∙ ap v.Bool c.in-Bool-false.field-0-test) first (c.evaluate-in-Bool-false.ensures.evaluates x taken)

pub chosen-returns-in-Int : goal.chosen-returns-in-Int
chosen-returns-in-Int g t c =
    let s = g.St.Store.state c.args.store.now in
    let u = g.St.Store.state c.evaluate.new.store in
    record {
      evaluates = λ x given.
          condition-other x (expression c.args.condition.now) (expression c.args.then.now) (expression c.args.other.now) s u c.in-Some.condition (no-truth-value c.in-Some.condition c.in-Int.is)
          (evaluates-at s u x (expression c.args.condition.now) c.in_ok-condition.field-0 (Some c.in-Some.condition) c.in-Some.is (c.in_ok-condition.ensures.evaluates x (given-condition s c.args.values.now c.args.node x (expression c.args.condition.now) (expression c.args.then.now) (expression c.args.other.now) given)));
      same_meaning = c.evaluate.ensures.same_meaning;
    }

-- ---- nodes

pub made-arguments-requires : goal.made-arguments-requires
made-arguments-requires g t c κs within =
    let falls : 1 + weight_of_each (expression_row (map expression c.args.args.now)) ≡ t = c.decreases in
    let x = c.requires.given.0 in
    (omega (arith, falls), (within.0, (within.1, (x, given-arguments (g.St.Store.state c.args.store.now) c.args.values.now c.args.node x c.args.production (expression_row (map expression c.args.args.now)) c.requires.given.1))))

pub made-returns-in_err-kids-clause-evaluates : goal.made-returns-in_err-kids-clause-evaluates
made-returns-in_err-kids-clause-evaluates g t c x given =
    let s = g.St.Store.state c.args.store.now in
    arguments-full x c.args.production (expression_row (map expression c.args.args.now)) s (g.St.Store.state c.arguments.new.store) c.in_err-kids.field-0.0 c.from_residual.result
    (c.in_err-kids.ensures.evaluates x (given-arguments s c.args.values.now c.args.node x c.args.production (expression_row (map expression c.args.args.now)) given)) c.from_residual.ensures.0

pub made-returns-in_default-clause-evaluates : goal.made-returns-in_default-clause-evaluates
made-returns-in_default-clause-evaluates g t c x given =
    let s = g.St.Store.state c.args.store.now in
    let u = g.St.Store.state c.arguments.new.store in
    arguments-none x c.args.production (expression_row (map expression c.args.args.now)) s u
    (each-evaluates-at s u x (expression_row (map expression c.args.args.now)) c.in_ok-kids.field-0 None c.in_default.is (c.in_ok-kids.ensures.evaluates x (given-arguments s c.args.values.now c.args.node x c.args.production (expression_row (map expression c.args.args.now)) given)))

pub made-put_node-requires-clause-below : goal.made-put_node-requires-clause-below
made-put_node-requires-clause-below g t c = c.requires.given.1.fits.0

pub made-put_node-requires-clause-kids_known : goal.made-put_node-requires-clause-kids_known
made-put_node-requires-clause-kids_known g t c =
    let x = c.requires.given.0 in
    let given = c.requires.given.1 in
    let s = g.St.Store.state c.args.store.now in
    let u = g.St.Store.state c.arguments.new.store in
    let list = each-evaluates-at s u x (expression_row (map expression c.args.args.now)) c.in_ok-kids.field-0 (Some c.in-Some.kids) c.in-Some.is (c.in_ok-kids.ensures.evaluates x (given-arguments s c.args.values.now c.args.node x c.args.production (expression_row (map expression c.args.args.now)) given)) in
    list-known x c.args.production (expression_row (map expression c.args.args.now)) s u u c.in-Some.kids list

pub made-returns-in_err-put_node-clause-evaluates : goal.made-returns-in_err-put_node-clause-evaluates
made-returns-in_err-put_node-clause-evaluates g t c x given =
    let s = g.St.Store.state c.args.store.now in
    let u = g.St.Store.state c.arguments.new.store in
    let list = each-evaluates-at s u x (expression_row (map expression c.args.args.now)) c.in_ok-kids.field-0 (Some c.in-Some.kids) c.in-Some.is (c.in_ok-kids.ensures.evaluates x (given-arguments s c.args.values.now c.args.node x c.args.production (expression_row (map expression c.args.args.now)) given)) in
    node-full x c.args.production (expression_row (map expression c.args.args.now)) s u (g.St.Store.state c.put_node.new.store) c.in-Some.kids list c.in_err-put_node.field-0.0 c.from_residual-in_err-put_node.result
    c.in_err-put_node.ensures.builds c.from_residual-in_err-put_node.ensures.0

pub made-returns-clause-evaluates : goal.made-returns-clause-evaluates
made-returns-clause-evaluates g t c x given =
    let s = g.St.Store.state c.args.store.now in
    let u = g.St.Store.state c.arguments.new.store in
    let list = each-evaluates-at s u x (expression_row (map expression c.args.args.now)) c.in_ok-kids.field-0 (Some c.in-Some.kids) c.in-Some.is (c.in_ok-kids.ensures.evaluates x (given-arguments s c.args.values.now c.args.node x c.args.production (expression_row (map expression c.args.args.now)) given)) in
    node-there x c.args.production (expression_row (map expression c.args.args.now)) s u (g.St.Store.state c.put_node.new.store) c.in-Some.kids list c.in_ok-put_node.field-0 c.in_ok-put_node.ensures.builds

-- ---- arguments

pub arguments-returns-in_default-clause-evaluates : goal.arguments-returns-in_default-clause-evaluates
arguments-returns-in_default-clause-evaluates g t c x given =
    let s = g.St.Store.state c.args.store.now in
    each-evaluates-as s s x (expression_row (map expression c.args.args.now)) no_more (Ok (Some c.empty_list.result)) (no-args c.args.args.now c.in_default.len_below)
    (no-arguments s x c.empty_list.result c.empty_list.ensures)

pub arguments-evaluate-requires : goal.arguments-evaluate-requires
arguments-evaluate-requires g t c κs within =
    let falls : weight_of_each (expression_row (map expression c.args.args.now)) ≡ t = c.decreases in
    let x = c.requires.given.0 in
    let given = c.requires.given.1 in
    let s = g.St.Store.state c.args.store.now in
    let form = first-args c.args.args.now c.first-item.result c.in-len1-up.len_at_least c.first-item.is in
    let all = each-given-as s c.args.values.now c.args.node x (expression_row (map expression c.args.args.now)) (and_more (expression c.first-item.result) (expression_row (map expression (take (length c.args.args.now - 1) (drop 1 c.args.args.now))))) form given in
    let less = ap weight_of_each form in
    (omega (arith, falls, less), (within.0, (within.1, (x, given-first s c.args.values.now c.args.node x (expression c.first-item.result) (expression_row (map expression (take (length c.args.args.now - 1) (drop 1 c.args.args.now)))) all))))

pub arguments-returns-in_err-value-clause-evaluates : goal.arguments-returns-in_err-value-clause-evaluates
arguments-returns-in_err-value-clause-evaluates g t c x given =
    let s = g.St.Store.state c.args.store.now in
    let form = first-args c.args.args.now c.first-item.result c.in-len1-up.len_at_least c.first-item.is in
    let all = each-given-as s c.args.values.now c.args.node x (expression_row (map expression c.args.args.now)) (and_more (expression c.first-item.result) (expression_row (map expression (take (length c.args.args.now - 1) (drop 1 c.args.args.now))))) form given in
    let u = g.St.Store.state c.evaluate.new.store in
    each-evaluates-as s u x (expression_row (map expression c.args.args.now)) (and_more (expression c.first-item.result) (expression_row (map expression (take (length c.args.args.now - 1) (drop 1 c.args.args.now))))) c.from_residual.result form
    (first-full x (expression c.first-item.result) (expression_row (map expression (take (length c.args.args.now - 1) (drop 1 c.args.args.now)))) s u c.in_err-value.field-0.0 c.from_residual.result
    (c.in_err-value.ensures.evaluates x (given-first s c.args.values.now c.args.node x (expression c.first-item.result) (expression_row (map expression (take (length c.args.args.now - 1) (drop 1 c.args.args.now)))) all)) c.from_residual.ensures.0)

pub arguments-returns-in_default-2-clause-evaluates : goal.arguments-returns-in_default-2-clause-evaluates
arguments-returns-in_default-2-clause-evaluates g t c x given =
    let s = g.St.Store.state c.args.store.now in
    let form = first-args c.args.args.now c.first-item.result c.in-len1-up.len_at_least c.first-item.is in
    let all = each-given-as s c.args.values.now c.args.node x (expression_row (map expression c.args.args.now)) (and_more (expression c.first-item.result) (expression_row (map expression (take (length c.args.args.now - 1) (drop 1 c.args.args.now))))) form given in
    let u = g.St.Store.state c.evaluate.new.store in
    each-evaluates-as s u x (expression_row (map expression c.args.args.now)) (and_more (expression c.first-item.result) (expression_row (map expression (take (length c.args.args.now - 1) (drop 1 c.args.args.now))))) (Ok None) form
    (first-none x (expression c.first-item.result) (expression_row (map expression (take (length c.args.args.now - 1) (drop 1 c.args.args.now)))) s u
    (evaluates-at s u x (expression c.first-item.result) c.in_ok-value.field-0 None c.in_default-2.is (c.in_ok-value.ensures.evaluates x (given-first s c.args.values.now c.args.node x (expression c.first-item.result) (expression_row (map expression (take (length c.args.args.now - 1) (drop 1 c.args.args.now)))) all))))

pub arguments-arguments-requires : goal.arguments-arguments-requires
arguments-arguments-requires g t c κs within =
    let falls : weight_of_each (expression_row (map expression c.args.args.now)) ≡ t = c.decreases in
    let x = c.requires.given.0 in
    let given = c.requires.given.1 in
    let s = g.St.Store.state c.args.store.now in
    let form = first-args c.args.args.now c.first-item.result c.in-len1-up.len_at_least c.first-item.is in
    let all = each-given-as s c.args.values.now c.args.node x (expression_row (map expression c.args.args.now)) (and_more (expression c.first-item.result) (expression_row (map expression (take (length c.args.args.now - 1) (drop 1 c.args.args.now))))) form given in
    let u = g.St.Store.state c.evaluate.new.store in
    let one = evaluates-at s u x (expression c.first-item.result) c.in_ok-value.field-0 (Some c.in-Some.value) c.in-Some.is (c.in_ok-value.ensures.evaluates x (given-first s c.args.values.now c.args.node x (expression c.first-item.result) (expression_row (map expression (take (length c.args.args.now - 1) (drop 1 c.args.args.now)))) all)) in
    let others = each-given-lasts s u c.args.values.now c.args.node x (expression_row (map expression (take (length c.args.args.now - 1) (drop 1 c.args.args.now)))) one.adds.gains.lasts.known (given-rest s c.args.values.now c.args.node x (expression c.first-item.result) (expression_row (map expression (take (length c.args.args.now - 1) (drop 1 c.args.args.now)))) all) in
    let less = ap weight_of_each form in
    (omega (arith, falls, less), (within.0, (within.1, (x, others))))

pub arguments-returns-in_err-list-clause-evaluates : goal.arguments-returns-in_err-list-clause-evaluates
arguments-returns-in_err-list-clause-evaluates g t c x given =
    let s = g.St.Store.state c.args.store.now in
    let form = first-args c.args.args.now c.first-item.result c.in-len1-up.len_at_least c.first-item.is in
    let all = each-given-as s c.args.values.now c.args.node x (expression_row (map expression c.args.args.now)) (and_more (expression c.first-item.result) (expression_row (map expression (take (length c.args.args.now - 1) (drop 1 c.args.args.now))))) form given in
    let u = g.St.Store.state c.evaluate.new.store in
    let one = evaluates-at s u x (expression c.first-item.result) c.in_ok-value.field-0 (Some c.in-Some.value) c.in-Some.is (c.in_ok-value.ensures.evaluates x (given-first s c.args.values.now c.args.node x (expression c.first-item.result) (expression_row (map expression (take (length c.args.args.now - 1) (drop 1 c.args.args.now)))) all)) in
    let others = each-given-lasts s u c.args.values.now c.args.node x (expression_row (map expression (take (length c.args.args.now - 1) (drop 1 c.args.args.now)))) one.adds.gains.lasts.known (given-rest s c.args.values.now c.args.node x (expression c.first-item.result) (expression_row (map expression (take (length c.args.args.now - 1) (drop 1 c.args.args.now)))) all) in
    let w = g.St.Store.state c.arguments.new.store in
    each-evaluates-as s w x (expression_row (map expression c.args.args.now)) (and_more (expression c.first-item.result) (expression_row (map expression (take (length c.args.args.now - 1) (drop 1 c.args.args.now))))) c.from_residual-in_err-list.result form
    (rest-full x (expression c.first-item.result) (expression_row (map expression (take (length c.args.args.now - 1) (drop 1 c.args.args.now)))) s u w c.in-Some.value one c.in_err-list.field-0.0 c.from_residual-in_err-list.result
    (c.in_err-list.ensures.evaluates x others) c.from_residual-in_err-list.ensures.0)

pub arguments-returns-in_default-3-clause-evaluates : goal.arguments-returns-in_default-3-clause-evaluates
arguments-returns-in_default-3-clause-evaluates g t c x given =
    let s = g.St.Store.state c.args.store.now in
    let form = first-args c.args.args.now c.first-item.result c.in-len1-up.len_at_least c.first-item.is in
    let all = each-given-as s c.args.values.now c.args.node x (expression_row (map expression c.args.args.now)) (and_more (expression c.first-item.result) (expression_row (map expression (take (length c.args.args.now - 1) (drop 1 c.args.args.now))))) form given in
    let u = g.St.Store.state c.evaluate.new.store in
    let one = evaluates-at s u x (expression c.first-item.result) c.in_ok-value.field-0 (Some c.in-Some.value) c.in-Some.is (c.in_ok-value.ensures.evaluates x (given-first s c.args.values.now c.args.node x (expression c.first-item.result) (expression_row (map expression (take (length c.args.args.now - 1) (drop 1 c.args.args.now)))) all)) in
    let others = each-given-lasts s u c.args.values.now c.args.node x (expression_row (map expression (take (length c.args.args.now - 1) (drop 1 c.args.args.now)))) one.adds.gains.lasts.known (given-rest s c.args.values.now c.args.node x (expression c.first-item.result) (expression_row (map expression (take (length c.args.args.now - 1) (drop 1 c.args.args.now)))) all) in
    let w = g.St.Store.state c.arguments.new.store in
    each-evaluates-as s w x (expression_row (map expression c.args.args.now)) (and_more (expression c.first-item.result) (expression_row (map expression (take (length c.args.args.now - 1) (drop 1 c.args.args.now))))) (Ok None) form
    (rest-none x (expression c.first-item.result) (expression_row (map expression (take (length c.args.args.now - 1) (drop 1 c.args.args.now)))) s u w c.in-Some.value one
    (each-evaluates-at u w x (expression_row (map expression (take (length c.args.args.now - 1) (drop 1 c.args.args.now)))) c.in_ok-list.field-0 None c.in_default-3.is (c.in_ok-list.ensures.evaluates x others)))

pub arguments-value_handle-requires : goal.arguments-value_handle-requires
arguments-value_handle-requires g t c =
    let x = c.requires.given.0 in
    let given = c.requires.given.1 in
    let s = g.St.Store.state c.args.store.now in
    let form = first-args c.args.args.now c.first-item.result c.in-len1-up.len_at_least c.first-item.is in
    let all = each-given-as s c.args.values.now c.args.node x (expression_row (map expression c.args.args.now)) (and_more (expression c.first-item.result) (expression_row (map expression (take (length c.args.args.now - 1) (drop 1 c.args.args.now))))) form given in
    let u = g.St.Store.state c.evaluate.new.store in
    let one = evaluates-at s u x (expression c.first-item.result) c.in_ok-value.field-0 (Some c.in-Some.value) c.in-Some.is (c.in_ok-value.ensures.evaluates x (given-first s c.args.values.now c.args.node x (expression c.first-item.result) (expression_row (map expression (take (length c.args.args.now - 1) (drop 1 c.args.args.now)))) all)) in
    let others = each-given-lasts s u c.args.values.now c.args.node x (expression_row (map expression (take (length c.args.args.now - 1) (drop 1 c.args.args.now)))) one.adds.gains.lasts.known (given-rest s c.args.values.now c.args.node x (expression c.first-item.result) (expression_row (map expression (take (length c.args.args.now - 1) (drop 1 c.args.args.now)))) all) in
    let w = g.St.Store.state c.arguments.new.store in
    let list = each-evaluates-at u w x (expression_row (map expression (take (length c.args.args.now - 1) (drop 1 c.args.args.now)))) c.in_ok-list.field-0 (Some c.in-Some-2.list) c.in-Some-2.is (c.in_ok-list.ensures.evaluates x others) in
    let means = value-meant x (expression c.first-item.result) (expression_row (map expression (take (length c.args.args.now - 1) (drop 1 c.args.args.now)))) s u w c.in-Some.value one c.in-Some-2.list list in
    (one.found.0, means)

pub arguments-returns-in_err-item-clause-evaluates : goal.arguments-returns-in_err-item-clause-evaluates
arguments-returns-in_err-item-clause-evaluates g t c x given =
    let s = g.St.Store.state c.args.store.now in
    let form = first-args c.args.args.now c.first-item.result c.in-len1-up.len_at_least c.first-item.is in
    let all = each-given-as s c.args.values.now c.args.node x (expression_row (map expression c.args.args.now)) (and_more (expression c.first-item.result) (expression_row (map expression (take (length c.args.args.now - 1) (drop 1 c.args.args.now))))) form given in
    let u = g.St.Store.state c.evaluate.new.store in
    let one = evaluates-at s u x (expression c.first-item.result) c.in_ok-value.field-0 (Some c.in-Some.value) c.in-Some.is (c.in_ok-value.ensures.evaluates x (given-first s c.args.values.now c.args.node x (expression c.first-item.result) (expression_row (map expression (take (length c.args.args.now - 1) (drop 1 c.args.args.now)))) all)) in
    let others = each-given-lasts s u c.args.values.now c.args.node x (expression_row (map expression (take (length c.args.args.now - 1) (drop 1 c.args.args.now)))) one.adds.gains.lasts.known (given-rest s c.args.values.now c.args.node x (expression c.first-item.result) (expression_row (map expression (take (length c.args.args.now - 1) (drop 1 c.args.args.now)))) all) in
    let w = g.St.Store.state c.arguments.new.store in
    let list = each-evaluates-at u w x (expression_row (map expression (take (length c.args.args.now - 1) (drop 1 c.args.args.now)))) c.in_ok-list.field-0 (Some c.in-Some-2.list) c.in-Some-2.is (c.in_ok-list.ensures.evaluates x others) in
    let means = value-meant x (expression c.first-item.result) (expression_row (map expression (take (length c.args.args.now - 1) (drop 1 c.args.args.now)))) s u w c.in-Some.value one c.in-Some-2.list list in
    let y = g.St.Store.state c.value_handle.new.store in
    each-evaluates-as s y x (expression_row (map expression c.args.args.now)) (and_more (expression c.first-item.result) (expression_row (map expression (take (length c.args.args.now - 1) (drop 1 c.args.args.now))))) c.from_residual-in_err-item.result form
    (item-full x (expression c.first-item.result) (expression_row (map expression (take (length c.args.args.now - 1) (drop 1 c.args.args.now)))) s u w c.in-Some.value one c.in-Some-2.list list y c.in_err-item.field-0.0 c.from_residual-in_err-item.result
    (c.in_err-item.ensures.builds one.found.0 means) c.from_residual-in_err-item.ensures.0)

pub arguments-put_list-requires-clause-first_known : goal.arguments-put_list-requires-clause-first_known
arguments-put_list-requires-clause-first_known g t c =
    let x = c.requires.given.0 in
    let given = c.requires.given.1 in
    let s = g.St.Store.state c.args.store.now in
    let form = first-args c.args.args.now c.first-item.result c.in-len1-up.len_at_least c.first-item.is in
    let all = each-given-as s c.args.values.now c.args.node x (expression_row (map expression c.args.args.now)) (and_more (expression c.first-item.result) (expression_row (map expression (take (length c.args.args.now - 1) (drop 1 c.args.args.now))))) form given in
    let u = g.St.Store.state c.evaluate.new.store in
    let one = evaluates-at s u x (expression c.first-item.result) c.in_ok-value.field-0 (Some c.in-Some.value) c.in-Some.is (c.in_ok-value.ensures.evaluates x (given-first s c.args.values.now c.args.node x (expression c.first-item.result) (expression_row (map expression (take (length c.args.args.now - 1) (drop 1 c.args.args.now)))) all)) in
    let others = each-given-lasts s u c.args.values.now c.args.node x (expression_row (map expression (take (length c.args.args.now - 1) (drop 1 c.args.args.now)))) one.adds.gains.lasts.known (given-rest s c.args.values.now c.args.node x (expression c.first-item.result) (expression_row (map expression (take (length c.args.args.now - 1) (drop 1 c.args.args.now)))) all) in
    let w = g.St.Store.state c.arguments.new.store in
    let list = each-evaluates-at u w x (expression_row (map expression (take (length c.args.args.now - 1) (drop 1 c.args.args.now)))) c.in_ok-list.field-0 (Some c.in-Some-2.list) c.in-Some-2.is (c.in_ok-list.ensures.evaluates x others) in
    let means = value-meant x (expression c.first-item.result) (expression_row (map expression (take (length c.args.args.now - 1) (drop 1 c.args.args.now)))) s u w c.in-Some.value one c.in-Some-2.list list in
    let y = g.St.Store.state c.value_handle.new.store in
    let item = c.in_ok-item.ensures.builds one.found.0 means in
    item-known x (expression c.first-item.result) (expression_row (map expression (take (length c.args.args.now - 1) (drop 1 c.args.args.now)))) s u w c.in-Some.value one c.in-Some-2.list list y c.in_ok-item.item item

pub arguments-put_list-requires-clause-rest_known : goal.arguments-put_list-requires-clause-rest_known
arguments-put_list-requires-clause-rest_known g t c =
    let x = c.requires.given.0 in
    let given = c.requires.given.1 in
    let s = g.St.Store.state c.args.store.now in
    let form = first-args c.args.args.now c.first-item.result c.in-len1-up.len_at_least c.first-item.is in
    let all = each-given-as s c.args.values.now c.args.node x (expression_row (map expression c.args.args.now)) (and_more (expression c.first-item.result) (expression_row (map expression (take (length c.args.args.now - 1) (drop 1 c.args.args.now))))) form given in
    let u = g.St.Store.state c.evaluate.new.store in
    let one = evaluates-at s u x (expression c.first-item.result) c.in_ok-value.field-0 (Some c.in-Some.value) c.in-Some.is (c.in_ok-value.ensures.evaluates x (given-first s c.args.values.now c.args.node x (expression c.first-item.result) (expression_row (map expression (take (length c.args.args.now - 1) (drop 1 c.args.args.now)))) all)) in
    let others = each-given-lasts s u c.args.values.now c.args.node x (expression_row (map expression (take (length c.args.args.now - 1) (drop 1 c.args.args.now)))) one.adds.gains.lasts.known (given-rest s c.args.values.now c.args.node x (expression c.first-item.result) (expression_row (map expression (take (length c.args.args.now - 1) (drop 1 c.args.args.now)))) all) in
    let w = g.St.Store.state c.arguments.new.store in
    let list = each-evaluates-at u w x (expression_row (map expression (take (length c.args.args.now - 1) (drop 1 c.args.args.now)))) c.in_ok-list.field-0 (Some c.in-Some-2.list) c.in-Some-2.is (c.in_ok-list.ensures.evaluates x others) in
    let means = value-meant x (expression c.first-item.result) (expression_row (map expression (take (length c.args.args.now - 1) (drop 1 c.args.args.now)))) s u w c.in-Some.value one c.in-Some-2.list list in
    let y = g.St.Store.state c.value_handle.new.store in
    let item = c.in_ok-item.ensures.builds one.found.0 means in
    rest-known x (expression c.first-item.result) (expression_row (map expression (take (length c.args.args.now - 1) (drop 1 c.args.args.now)))) s u w c.in-Some.value one c.in-Some-2.list list y c.in_ok-item.item item

pub arguments-returns-in_err-put_list-clause-evaluates : goal.arguments-returns-in_err-put_list-clause-evaluates
arguments-returns-in_err-put_list-clause-evaluates g t c x given =
    let s = g.St.Store.state c.args.store.now in
    let form = first-args c.args.args.now c.first-item.result c.in-len1-up.len_at_least c.first-item.is in
    let all = each-given-as s c.args.values.now c.args.node x (expression_row (map expression c.args.args.now)) (and_more (expression c.first-item.result) (expression_row (map expression (take (length c.args.args.now - 1) (drop 1 c.args.args.now))))) form given in
    let u = g.St.Store.state c.evaluate.new.store in
    let one = evaluates-at s u x (expression c.first-item.result) c.in_ok-value.field-0 (Some c.in-Some.value) c.in-Some.is (c.in_ok-value.ensures.evaluates x (given-first s c.args.values.now c.args.node x (expression c.first-item.result) (expression_row (map expression (take (length c.args.args.now - 1) (drop 1 c.args.args.now)))) all)) in
    let others = each-given-lasts s u c.args.values.now c.args.node x (expression_row (map expression (take (length c.args.args.now - 1) (drop 1 c.args.args.now)))) one.adds.gains.lasts.known (given-rest s c.args.values.now c.args.node x (expression c.first-item.result) (expression_row (map expression (take (length c.args.args.now - 1) (drop 1 c.args.args.now)))) all) in
    let w = g.St.Store.state c.arguments.new.store in
    let list = each-evaluates-at u w x (expression_row (map expression (take (length c.args.args.now - 1) (drop 1 c.args.args.now)))) c.in_ok-list.field-0 (Some c.in-Some-2.list) c.in-Some-2.is (c.in_ok-list.ensures.evaluates x others) in
    let means = value-meant x (expression c.first-item.result) (expression_row (map expression (take (length c.args.args.now - 1) (drop 1 c.args.args.now)))) s u w c.in-Some.value one c.in-Some-2.list list in
    let y = g.St.Store.state c.value_handle.new.store in
    let item = c.in_ok-item.ensures.builds one.found.0 means in
    let z = g.St.Store.state c.put_list.new.store in
    each-evaluates-as s z x (expression_row (map expression c.args.args.now)) (and_more (expression c.first-item.result) (expression_row (map expression (take (length c.args.args.now - 1) (drop 1 c.args.args.now))))) c.from_residual-in_err-put_list.result form
    (list-full x (expression c.first-item.result) (expression_row (map expression (take (length c.args.args.now - 1) (drop 1 c.args.args.now)))) s u w c.in-Some.value one c.in-Some-2.list list y c.in_ok-item.item item z c.in_err-put_list.field-0.0 c.from_residual-in_err-put_list.result
    c.in_err-put_list.ensures.builds c.from_residual-in_err-put_list.ensures.0)

pub arguments-returns-clause-evaluates : goal.arguments-returns-clause-evaluates
arguments-returns-clause-evaluates g t c x given =
    let s = g.St.Store.state c.args.store.now in
    let form = first-args c.args.args.now c.first-item.result c.in-len1-up.len_at_least c.first-item.is in
    let all = each-given-as s c.args.values.now c.args.node x (expression_row (map expression c.args.args.now)) (and_more (expression c.first-item.result) (expression_row (map expression (take (length c.args.args.now - 1) (drop 1 c.args.args.now))))) form given in
    let u = g.St.Store.state c.evaluate.new.store in
    let one = evaluates-at s u x (expression c.first-item.result) c.in_ok-value.field-0 (Some c.in-Some.value) c.in-Some.is (c.in_ok-value.ensures.evaluates x (given-first s c.args.values.now c.args.node x (expression c.first-item.result) (expression_row (map expression (take (length c.args.args.now - 1) (drop 1 c.args.args.now)))) all)) in
    let others = each-given-lasts s u c.args.values.now c.args.node x (expression_row (map expression (take (length c.args.args.now - 1) (drop 1 c.args.args.now)))) one.adds.gains.lasts.known (given-rest s c.args.values.now c.args.node x (expression c.first-item.result) (expression_row (map expression (take (length c.args.args.now - 1) (drop 1 c.args.args.now)))) all) in
    let w = g.St.Store.state c.arguments.new.store in
    let list = each-evaluates-at u w x (expression_row (map expression (take (length c.args.args.now - 1) (drop 1 c.args.args.now)))) c.in_ok-list.field-0 (Some c.in-Some-2.list) c.in-Some-2.is (c.in_ok-list.ensures.evaluates x others) in
    let means = value-meant x (expression c.first-item.result) (expression_row (map expression (take (length c.args.args.now - 1) (drop 1 c.args.args.now)))) s u w c.in-Some.value one c.in-Some-2.list list in
    let y = g.St.Store.state c.value_handle.new.store in
    let item = c.in_ok-item.ensures.builds one.found.0 means in
    let z = g.St.Store.state c.put_list.new.store in
    each-evaluates-as s z x (expression_row (map expression c.args.args.now)) (and_more (expression c.first-item.result) (expression_row (map expression (take (length c.args.args.now - 1) (drop 1 c.args.args.now))))) (Ok (Some c.in_ok-put_list.field-0)) form
    (list-there x (expression c.first-item.result) (expression_row (map expression (take (length c.args.args.now - 1) (drop 1 c.args.args.now)))) s u w c.in-Some.value one c.in-Some-2.list list y c.in_ok-item.item item z c.in_ok-put_list.field-0 c.in_ok-put_list.ensures.builds)

-- ---- expressions

pub evaluate-operation-requires : goal.evaluate-operation-requires
evaluate-operation-requires g t c κs within =
    let falls : weight (expression c.args.expr.now) ≡ t = c.decreases in
    let form = op-form c.args.expr.now c.in-Op.op c.in-Op.left c.in-Op.right c.get.result.now c.get-in-Op.result.now c.in-Op.is c.get.ensures c.get-in-Op.ensures in
    let less = ap weight form in
    let x = c.requires.given.0 in
    (omega (arith, falls, less), (within.0, (within.1, (x, given-as (g.St.Store.state c.args.store.now) c.args.values.now c.args.node x (expression c.args.expr.now) (binary c.in-Op.op (expression c.get.result.now) (expression c.get-in-Op.result.now)) form c.requires.given.1))))

pub evaluate-returns-in-Op-clause-evaluates : goal.evaluate-returns-in-Op-clause-evaluates
evaluate-returns-in-Op-clause-evaluates g t c x given =
    let s = g.St.Store.state c.args.store.now in
    let form = op-form c.args.expr.now c.in-Op.op c.in-Op.left c.in-Op.right c.get.result.now c.get-in-Op.result.now c.in-Op.is c.get.ensures c.get-in-Op.ensures in
    evaluates-as s (g.St.Store.state c.operation.new.store) x (expression c.args.expr.now) (binary c.in-Op.op (expression c.get.result.now) (expression c.get-in-Op.result.now)) c.operation.result form
    (c.operation.ensures.evaluates x (given-as s c.args.values.now c.args.node x (expression c.args.expr.now) (binary c.in-Op.op (expression c.get.result.now) (expression c.get-in-Op.result.now)) form given))

pub evaluate-chosen-requires : goal.evaluate-chosen-requires
evaluate-chosen-requires g t c κs within =
    let falls : weight (expression c.args.expr.now) ≡ t = c.decreases in
    let form = if-form c.args.expr.now c.in-If.condition c.in-If.then c.in-If.other c.get-in-If.result.now c.get-in-If-2.result.now c.get-in-If-3.result.now c.in-If.is c.get-in-If.ensures c.get-in-If-2.ensures c.get-in-If-3.ensures in
    let less = ap weight form in
    let x = c.requires.given.0 in
    (omega (arith, falls, less), (within.0, (within.1, (x, given-as (g.St.Store.state c.args.store.now) c.args.values.now c.args.node x (expression c.args.expr.now) (choice (expression c.get-in-If.result.now) (expression c.get-in-If-2.result.now) (expression c.get-in-If-3.result.now)) form c.requires.given.1))))

pub evaluate-returns-in-If-clause-evaluates : goal.evaluate-returns-in-If-clause-evaluates
evaluate-returns-in-If-clause-evaluates g t c x given =
    let s = g.St.Store.state c.args.store.now in
    let form = if-form c.args.expr.now c.in-If.condition c.in-If.then c.in-If.other c.get-in-If.result.now c.get-in-If-2.result.now c.get-in-If-3.result.now c.in-If.is c.get-in-If.ensures c.get-in-If-2.ensures c.get-in-If-3.ensures in
    evaluates-as s (g.St.Store.state c.chosen.new.store) x (expression c.args.expr.now) (choice (expression c.get-in-If.result.now) (expression c.get-in-If-2.result.now) (expression c.get-in-If-3.result.now)) c.chosen.result form
    (c.chosen.ensures.evaluates x (given-as s c.args.values.now c.args.node x (expression c.args.expr.now) (choice (expression c.get-in-If.result.now) (expression c.get-in-If-2.result.now) (expression c.get-in-If-3.result.now)) form given))

pub evaluate-made-requires : goal.evaluate-made-requires
evaluate-made-requires g t c κs within =
    let falls : weight (expression c.args.expr.now) ≡ t = c.decreases in
    let form = make-form c.args.expr.now c.in-Make.production c.in-Make.args c.as_slice.result.now c.in-Make.is c.as_slice.ensures in
    let less = ap weight form in
    let x = c.requires.given.0 in
    (omega (arith, falls, less), (within.0, (within.1, (x, given-as (g.St.Store.state c.args.store.now) c.args.values.now c.args.node x (expression c.args.expr.now) (make c.in-Make.production (expression_row (map expression c.as_slice.result.now))) form c.requires.given.1))))

pub evaluate-returns-in-Make-clause-evaluates : goal.evaluate-returns-in-Make-clause-evaluates
evaluate-returns-in-Make-clause-evaluates g t c x given =
    let s = g.St.Store.state c.args.store.now in
    let form = make-form c.args.expr.now c.in-Make.production c.in-Make.args c.as_slice.result.now c.in-Make.is c.as_slice.ensures in
    evaluates-as s (g.St.Store.state c.made.new.store) x (expression c.args.expr.now) (make c.in-Make.production (expression_row (map expression c.as_slice.result.now))) c.made.result form
    (c.made.ensures.evaluates x (given-as s c.args.values.now c.args.node x (expression c.args.expr.now) (make c.in-Make.production (expression_row (map expression c.as_slice.result.now))) form given))

pub evaluate-returns-in-Int-clause-evaluates : goal.evaluate-returns-in-Int-clause-evaluates
evaluate-returns-in-Int-clause-evaluates g t c x given =
    let s = g.St.Store.state c.args.store.now in
    let n = c.in-Int.number in
    let fits : SFits w64 n = search rules in
    evaluates-as s s x (expression c.args.expr.now) (literal (int n)) (Ok (Some (v.Int (to_z w64 (of_z w64 n))))) (ap expression c.in-Int.is ∙ expression-Int n)
    (number-literal s x n (to_z w64 (of_z w64 n)) (to_z-of_z w64 n fits))

pub evaluate-returns-in-Bool-clause-evaluates : goal.evaluate-returns-in-Bool-clause-evaluates
evaluate-returns-in-Bool-clause-evaluates g t c x given =
    let s = g.St.Store.state c.args.store.now in
    let b = c.in-Bool.b in
    evaluates-as s s x (expression c.args.expr.now) (literal (bool b)) (Ok (Some (v.Bool b))) (ap expression c.in-Bool.is ∙ expression-Bool b) (truth-literal s x b)

pub evaluate-returns-in_err-name_value-in-Name-clause-evaluates : goal.evaluate-returns-in_err-name_value-in-Name-clause-evaluates
evaluate-returns-in_err-name_value-in-Name-clause-evaluates g t c x given =
    let s = g.St.Store.state c.args.store.now in
    let u = g.St.Store.state c.name_value.new.store in
    let n = c.in-Name.name in
    evaluates-as s u x (expression c.args.expr.now) (literal (name n)) c.from_residual.result (ap expression c.in-Name.is ∙ expression-Name n)
    (name-full s u x n c.in_err-name_value-in-Name.field-0.0 c.from_residual.result c.in_err-name_value-in-Name.ensures.names c.from_residual.ensures.0)

pub evaluate-returns-in_ok-name_value-in-Name-clause-evaluates : goal.evaluate-returns-in_ok-name_value-in-Name-clause-evaluates
evaluate-returns-in_ok-name_value-in-Name-clause-evaluates g t c x given =
    let s = g.St.Store.state c.args.store.now in
    let u = g.St.Store.state c.name_value.new.store in
    let n = c.in-Name.name in
    let value = c.in_ok-name_value-in-Name.field-0 in
    evaluates-as s u x (expression c.args.expr.now) (literal (name n)) (Ok (Some value)) (ap expression c.in-Name.is ∙ expression-Name n)
    (name-literal s u x n value c.in_ok-name_value-in-Name.ensures.names)

pub evaluate-bounds-values-i : goal.evaluate-bounds-values-i
evaluate-bounds-values-i g t c =
    let s = g.St.Store.state c.args.store.now in
    let i = c.in-Occ.i in
    let x = c.requires.given.0 in
    set-within s c.args.values.now x.values i
    (given-value s c.args.values.now c.args.node x i (given-as s c.args.values.now c.args.node x (expression c.args.expr.now) (occurrence i) (ap expression c.in-Occ.is ∙ expression-Occ i) c.requires.given.1))

pub evaluate-returns-in-Occ-clause-evaluates : goal.evaluate-returns-in-Occ-clause-evaluates
evaluate-returns-in-Occ-clause-evaluates g t c x given =
    let s = g.St.Store.state c.args.store.now in
    let i = c.in-Occ.i in
    let form = ap expression c.in-Occ.is ∙ expression-Occ i in
    evaluates-as s s x (expression c.args.expr.now) (occurrence i) _ form
    (occurrence-value s c.args.values.now x i (v.Int (pos 0)) (given-value s c.args.values.now c.args.node x i (given-as s c.args.values.now c.args.node x (expression c.args.expr.now) (occurrence i) form given)))

pub evaluate-leaf_value-requires-clause-known : goal.evaluate-leaf_value-requires-clause-known
evaluate-leaf_value-requires-clause-known g t c =
    let x = c.requires.given.0 in
    stands-known (g.St.Store.state c.args.store.now) c.args.node.0 (tree_cell (node x.production x.trees)) c.requires.given.1.node.stands

pub evaluate-leaf_value-requires-clause-leaf : goal.evaluate-leaf_value-requires-clause-leaf
evaluate-leaf_value-requires-clause-leaf g t c =
    let s = g.St.Store.state c.args.store.now in
    let i = c.in-Leaf.i in
    let x = c.requires.given.0 in
    let there = leaf-there s c.args.values.now c.args.node x i (given-as s c.args.values.now c.args.node x (expression c.args.expr.now) (leaf i) (ap expression c.in-Leaf.is ∙ expression-Leaf i) c.requires.given.1) in
    (there.tree, there.kid)

pub evaluate-returns-in-Leaf-clause-evaluates : goal.evaluate-returns-in-Leaf-clause-evaluates
evaluate-returns-in-Leaf-clause-evaluates g t c x given =
    let s = g.St.Store.state c.args.store.now in
    let u = g.St.Store.state c.leaf_value.new.store in
    let i = c.in-Leaf.i in
    let form = ap expression c.in-Leaf.is ∙ expression-Leaf i in
    let there = leaf-there s c.args.values.now c.args.node x i (given-as s c.args.values.now c.args.node x (expression c.args.expr.now) (leaf i) form given) in
    evaluates-as s u x (expression c.args.expr.now) (leaf i) (Ok (Some c.leaf_value.result)) form
    (ends-unbuilt s u x (leaf i) c.leaf_value.result there.tree refl c.leaf_value.ensures.reads there.of_tree
    (record { means = c.leaf_value.ensures.means there.tree there.kid; spelled = there.spelled }))
