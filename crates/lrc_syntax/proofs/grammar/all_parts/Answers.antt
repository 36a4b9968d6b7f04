use Rattle.std.proofs.Common.{◌++◌, [], ◌∷◌, take, List, All, sym, subst}
use Rattle.lrc_base.specs.declared.grammar.Production.{Production}
use Rattle.lrc_syntax.specs.declared.part.Part.{Part}
use Rattle.lrc_syntax.specs.Spelling.{AreSpelled}
use Rattle.lrc_syntax.specs.Faults.{IsRight, AreTerminals}
use Rattle.lrc_syntax.proofs.ListLemmas.{all_push, all_take_more, take_one_more}
use Rattle.lrc_syntax.proofs.PartLemmas.{spelled_push}
use Rattle.lrc_syntax.proofs.grammar.all_parts.Goals as goal

pub loop-number-preserved : goal.loop-number-preserved
loop-number-preserved c =
    let prods = c.args.prods.now in
    let n = c.loop-number.number in
    let q = c.index-prods-number.result in
    let before = c.loop-number.invariant in
    let is = c.in_ok-push-in-Ok.ensures.ok in
    record {
      parts = subst (λ (qs : List Production). AreSpelled qs c.push.new.self) (sym (take_one_more prods n q c.loop-number-test.true c.index-prods-number.is))
          (subst (λ (all : List (List Part)). AreSpelled (take n prods ++ q ∷ []) all) (sym is) (spelled_push (take n prods) q c.loop-number.all c.in-Ok.parts before.parts c.in-Ok.ensures.parts));
      terminals = subst (λ (all : List (List Part)). All AreTerminals all) (sym is) (all_push AreTerminals c.loop-number.all c.in-Ok.parts before.terminals c.in-Ok.ensures.terminals);
      right = all_take_more IsRight prods n q before.right c.loop-number-test.true c.index-prods-number.is c.in-Ok.ensures.right;
    }
