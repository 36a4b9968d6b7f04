use Rattle.std.proofs.Common.{◌≡◌, ◌+◌, ◌≤◌, [], ◌∷◌, ◌++◌, take, get_or, length, Contains, inl, inr, sym, subst, arith}
use Rattle.std.proofs.lemmas.List.{take_more, take_all}
use Rattle.std.proofs.lemmas.List.Elements.{Contains-push_cases}
use Rattle.lrc_bodies.proofs.frames.greatest.Goals as goal
use Rattle.lrc_bodies.proofs.frames.greatest.Goals.{then-count-most, else-count-most}

pub counts-preserved : goal.counts-preserved
counts-preserved c n there =
    let xs = c.args.counts.now in
    let i = c.counts.count-index in
    let old = c.counts.invariant n in
    let more : take (i + 1) xs ≡ take i xs ++ get_or xs i 0 ∷ [] = take_more xs i 0 c.counts-test.true in
    elim (Contains-push_cases (take i xs) (get_or xs i 0) n (subst (λ ys. Contains ys n) more there)) [
      | inl before ↦
          let le = old before in
          elim c.if-count-most.branch [
            | then-count-most w ↦ let is = w.most-is in let above = w.if-count-most.true in omega arith
            | else-count-most w ↦ let is = w.most-is in omega arith
          ]
      | inr same ↦
          elim c.if-count-most.branch [
            | then-count-most w ↦ let is = w.most-is in let above = w.if-count-most.true in omega arith
            | else-count-most w ↦ let is = w.most-is in let below = w.if-count-most.false in omega arith
          ]
    ]

pub returns : goal.returns
returns c n there =
    let end = c.counts-test.false in
    let most = c.counts.auto.count-index-end in
    let whole : length c.args.counts.now ≤ c.counts.count-index = omega arith in
    c.counts.invariant n (subst (λ ys. Contains ys n) (sym (take_all c.counts.count-index c.args.counts.now whole)) there)
