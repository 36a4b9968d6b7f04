use Rattle.std.proofs.Common.{◌≡◌, [], arith, ◌∙◌, sym, ap, ◌++◌, ◌∷◌, ◌+◌, List, map}
use Rattle.std.specs.List.{range_with_len}
use Rattle.std.proofs.lemmas.List.FromFn.{map-range_with_len_more}
use Rattle.lrc_plan_meaning.specs.declared.Bound.{Bound}
use Rattle.lrc_plan_meaning.specs.Items.{firsts_of}
use Rattle.lrc_plan.proofs.pairs.empty_lists.Goals as goal

pub lists-preserved : goal.lists-preserved
lists-preserved c =
    let at : 0 + c.lists._list ≡ c.lists._list = omega arith in
    c.in_ok-push.ensures.items
    ∙ ap (λ (xs : List (List Bound)). xs ++ c.new.result ∷ []) c.lists.invariant
    ∙ ap (λ (x : List Bound). map (firsts_of []) (range_with_len 0 c.lists._list) ++ x ∷ []) c.new.ensures
    ∙ sym (map-range_with_len_more (firsts_of []) 0 c.lists._list c.lists._list at)
