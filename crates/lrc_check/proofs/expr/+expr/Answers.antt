use Rattle.std.proofs.Common.{◌≡◌, ◌+◌, ◌&&◌, Some, None, [], map, sym, ap, subst, ◌∙◌}
use Rattle.std.specs.Prelude.{find}
use Rattle.std.specs.Str.{bytes_eq}
use Rattle.lrc_base.specs.declared.raw.RawExpr.{RawExpr}
use Rattle.lrc_base.specs.declared.raw.RawKind.TheVariants as rk
use Rattle.lrc_base.specs.declared.raw.RawProd.{RawProd}
use Rattle.lrc_fault_meaning.specs.Faults.{wrong_kind, target_fault, Found, checked, are_right, found_of}
use Rattle.lrc_check.specs.Verdict.{verdict, Finds, kids_of}
use Rattle.lrc_check.proofs.ArgumentLemmas.{ArgumentsBefore, faults_of, no_arguments_yet, right_argument}
use Rattle.lrc_check.proofs.FoundLemmas.{Make_unknown, Make_known}
use Rattle.lrc_check.proofs.expr.+expr.Goals as goal
use Rattle.lrc_check.proofs.expr.+expr.Goals.{are_args_right-then-right, are_args_right-else-right}

pub are_args_right-loop-i-init : goal.are_args_right-loop-i-init
are_args_right-loop-i-init t c =
    no_arguments_yet (found_of c.args.scope.now.grammar c.args.scope.now.prod (target_fault wrong_kind c.args.scope.now.prod.name c.args.target.now)) c.args.args.now c.args.kids.now

pub are_args_right-loop-i-preserved : goal.are_args_right-loop-i-preserved
are_args_right-loop-i-preserved t c =
    let found = found_of c.args.scope.now.grammar c.args.scope.now.prod (target_fault wrong_kind c.args.scope.now.prod.name c.args.target.now) in
    let agrees = c.is_of_kind-agrees.result in
    let next : ArgumentsBefore found c.args.args.now c.args.kids.now (c.loop-i.i + 1) (c.loop-i.right && agrees) =
    right_argument found c.args.args.now c.args.kids.now c.loop-i.i c.loop-i.right agrees c.index-args-i.result c.in-Ok.kind c.loop-i.invariant c.loop-i-test.true c.index-args-i.is c.in-Ok.ensures (subst (λ kid. agrees ≡ Rattle.lrc_check.specs.Verdict.is_of_kind kid c.in-Ok.kind) c.at.ensures c.is_of_kind-agrees.ensures) in
    let before = ArgumentsBefore found c.args.args.now c.args.kids.now (c.loop-i.i + 1) in
    elim c.if-right.branch [
      | are_args_right-then-right w ↦ subst before (ap (λ r. r && agrees) w.if-right.true ∙ sym w.right-is) next
      | are_args_right-else-right w ↦ subst before (ap (λ r. r && agrees) w.if-right.false ∙ (sym w.if-right.false ∙ sym w.right-is)) next
    ]

pub expr_kind-returns-in-None : goal.expr_kind-returns-in-None
expr_kind-returns-in-None t c =
    let g = c.args.scope.now.grammar in
    let p = c.args.scope.now.prod in
    let wrong = target_fault wrong_kind p.name c.args.target.now in
    let name = c.in-Make.name in
    let ensured = c.in_ok-right-in-Make.ensures in
    let none : faults_of (map (found_of g p wrong) c.in-Make.args) ≡ [] = subst (λ args. faults_of (map (found_of g p wrong) args) ≡ []) c.as_slice.ensures ensured.0 in
    let absent : find (λ (q : RawProd). bytes_eq q.name name) g.prods ≡ None = subst (λ qs. find (λ (q : RawProd). bytes_eq q.name name) qs ≡ None) c.prods.ensures (sym c.in-None.ensures) in
    let made = Make_unknown g p wrong name c.in-Make.args none absent in
    ap (λ (e : RawExpr). verdict (found_of g p wrong e).faults) c.in-Make.is ∙ (ap (λ (f : Found). verdict f.faults) made ∙ cc)

pub expr_kind-returns-in-Some : goal.expr_kind-returns-in-Some
expr_kind-returns-in-Some t c =
    let g = c.args.scope.now.grammar in
    let p = c.args.scope.now.prod in
    let wrong = target_fault wrong_kind p.name c.args.target.now in
    let name = c.in-Make.name in
    let args = c.in-Make.args in
    let ensured = c.in_ok-right-in-Make.ensures in
    let q = c.in-Some.prod.now in
    let none : faults_of (map (found_of g p wrong) args) ≡ [] = subst (λ xs. faults_of (map (found_of g p wrong) xs) ≡ []) c.as_slice.ensures ensured.0 in
    let known : find (λ (q' : RawProd). bytes_eq q'.name name) g.prods ≡ Some q = subst (λ qs. find (λ (q' : RawProd). bytes_eq q'.name name) qs ≡ Some q) c.prods.ensures (sym c.in-Some.ensures) in
    let kids = c.kids_of.ensures ∙ ap kids_of (c.prod_named-found.ensures ∙ sym c.in-Some.ensures) in
    let right : c.in_ok-right-in-Make.right ≡ are_right (map (found_of g p wrong) args) q.kids =
    subst (λ xs. c.in_ok-right-in-Make.right ≡ are_right (map (found_of g p wrong) xs) q.kids) c.as_slice.ensures
    (subst (λ ks. c.in_ok-right-in-Make.right ≡ are_right (map (found_of g p wrong) c.as_slice.result.now) ks) kids ensured.1) in
    let made = Make_known g p wrong name args q c.in_ok-right-in-Make.right none known right in
    subst (λ f. Finds f c.checked.result) (sym (ap (found_of g p wrong) c.in-Make.is ∙ made))
    (subst (λ place. Finds (checked (target_fault wrong_kind place c.args.target.now) c.in_ok-right-in-Make.right (rk.Named q.left)) c.checked.result) c.place-in-Some.ensures c.checked.ensures)
