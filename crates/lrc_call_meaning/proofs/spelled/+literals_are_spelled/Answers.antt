use Rattle.std.proofs.Common.{refl, subst}
use Rattle.std.proofs.lemmas.Option.{slice_get_read}
use Rattle.lrc_base.specs.declared.expr.Expr.{Expr}
use Rattle.lrc_meaning.specs.Expression.{expression}
use Rattle.lrc_call_meaning.specs.Spelled.{AreLiteralsSpelled}
use Rattle.lrc_call_meaning.proofs.SpelledLemmas.{literal-int, literal-bool, literal-name, literals-occ, literals-leaf, literals-op, literals-if, literals-make, next-item, all-items}
use Rattle.lrc_call_meaning.proofs.spelled.+literals_are_spelled.Goals as goal

pub returns-in-Int : goal.returns-in-Int
returns-in-Int t c = literal-int c.args.expr.now _ c.in-Int.is

pub returns-in-Bool : goal.returns-in-Bool
returns-in-Bool t c = literal-bool c.args.expr.now _ c.in-Bool.is

pub returns-in-Occ : goal.returns-in-Occ
returns-in-Occ t c = literals-occ c.args.expr.now _ c.in-Occ.is

pub returns-in-Leaf : goal.returns-in-Leaf
returns-in-Leaf t c = literals-leaf c.args.expr.now _ c.in-Leaf.is

pub returns-in-Name : goal.returns-in-Name
returns-in-Name t c = literal-name c.args.expr.now c.in-Name.name c.in-Name.is c.name_is_spelled.ensures

pub returns-in-Op : goal.returns-in-Op
returns-in-Op t c =
    let IsFine = λ (e : Expr). AreLiteralsSpelled (expression e) in
    literals-op c.args.expr.now _ _ _ c.in-Op.is (subst IsFine c.get.ensures c.literals_are_spelled.ensures) (subst IsFine c.get-in-Op.ensures c.literals_are_spelled-in-Op.ensures)

pub returns-in-If : goal.returns-in-If
returns-in-If t c =
    let IsFine = λ (e : Expr). AreLiteralsSpelled (expression e) in
    literals-if c.args.expr.now _ _ _ c.in-If.is
    (subst IsFine c.get-in-If.ensures c.literals_are_spelled-in-If.ensures)
    (subst IsFine c.get-in-If-2.ensures c.literals_are_spelled-in-If-2.ensures)
    (subst IsFine c.get-in-If-3.ensures c.literals_are_spelled-in-If-3.ensures)

pub loop-part-preserved : goal.loop-part-preserved
loop-part-preserved t c =
    let at = slice_get_read _ _ c.loop-part.part-index c.part-item.result refl c.loop-part-test.true c.part-item.is in
    next-item (λ (part : Expr). AreLiteralsSpelled (expression part)) _ c.loop-part.part-index c.part-item.result c.loop-part.invariant at c.literals_are_spelled-in-loop-part.ensures

pub returns-after-loop-part : goal.returns-after-loop-part
returns-after-loop-part t c =
    literals-make c.args.expr.now _ c.in-Make.parts c.in-Make.is
    (all-items (λ (part : Expr). AreLiteralsSpelled (expression part)) c.as_slice-part-items.result.now c.in-Make.parts c.loop-part.part-index c.as_slice-part-items.ensures c.loop-part-test.false c.loop-part.invariant)
