use Rattle.std.proofs.Common.{◌≡◌, ◌≤◌, ◌+◌, take, drop, length, true, false, sym, ap, ◌∙◌, subst, arith}
use Rattle.std.proofs.lemmas.Str.{IsCharBoundary-from_drop}
use Rattle.lrc_lex.specs.Forms.{IsToken}
use Rattle.lrc_lex.specs.Front.{next}
use Rattle.lrc_lex.specs.declared.scan.Step.TheVariants.{Skip, Take, Refuse}
use Rattle.lrc_lex.specs.Tokens.{fits, FaultFrom}
use Rattle.lrc_lex.proofs.TokensLemmas.{skip_some, take_some, take_form, refuse_within, reads_skip, reads_take, reads_end, reads_refuse, reads_exceeds, part_is}
use Rattle.lrc_lex.proofs.tokens_of.Goals as goal
use Rattle.lrc_lex.proofs.tokens_of.Goals.{In-Skip, In-Take, In-Refuse}

-- what stands at the place of the loop
skip_there : (c : In-Skip) → next (drop c.loop-found.at c.args.text.now) ≡ Skip c.in-Skip.length
skip_there c = ap next (sym c.range_from.ensures.value) ∙ sym c.in-Skip.ensures

take_there : (c : In-Take) → next (drop c.loop-found.at c.args.text.now) ≡ Take c.in-Take.class c.in-Take.length
take_there c = ap next (sym c.range_from.ensures.value) ∙ sym c.in-Take.ensures

refuse_there : (c : In-Refuse) → next (drop c.loop-found.at c.args.text.now) ≡ Refuse c.in-Refuse.length
refuse_there c = ap next (sym c.range_from.ensures.value) ∙ sym c.in-Refuse.ensures

skip_at : (c : In-Skip) → (1 ≤ c.in-Skip.length) × (c.loop-found.at + c.in-Skip.length ≤ length c.args.text.now)
skip_at c = skip_some _ _ _ c.loop-found.invariant _ (skip_there c)

take_at : (c : In-Take) → (1 ≤ c.in-Take.length) × (c.loop-found.at + c.in-Take.length ≤ length c.args.text.now)
take_at c = take_some _ _ _ c.loop-found.invariant _ _ (take_there c)

refuse_at : (c : In-Refuse) → c.loop-found.at + c.in-Refuse.length ≤ length c.args.text.now
refuse_at c = refuse_within _ _ _ c.loop-found.invariant _ (refuse_there c)

pub range_from-requires : goal.range_from-requires
range_from-requires c _ = IsCharBoundary-from_drop c.args.text.now c.loop-found.at c.loop-found.invariant.within c.loop-found.invariant.utf8

pub returns-in-End-clause-ok : goal.returns-in-End-clause-ok
returns-in-End-clause-ok c = reads_end _ _ _ c.loop-found.invariant (ap next (sym c.range_from.ensures.value) ∙ sym c.in-End.ensures)

pub overflow_add-at : goal.overflow_add-at
overflow_add-at c = omega (arith, c.requires.short, skip_at (goal.at.overflow_add-at c).In-Skip)

pub loop-found-smaller-in-Skip : goal.loop-found-smaller-in-Skip
loop-found-smaller-in-Skip c = omega (arith, skip_at (goal.at.loop-found-smaller-in-Skip c).In-Skip)

pub loop-found-preserved-in-Skip : goal.loop-found-preserved-in-Skip
loop-found-preserved-in-Skip c = reads_skip _ _ _ c.loop-found.invariant _ (skip_there (goal.at.loop-found-preserved-in-Skip c).In-Skip)

pub overflow_add-result : goal.overflow_add-result
overflow_add-result c = omega (arith, c.requires.short, refuse_at (goal.at.overflow_add-result c).In-Refuse)

pub overflow_cast-result : goal.overflow_cast-result
overflow_cast-result c = omega (arith, c.requires.short, refuse_at (goal.at.overflow_cast-result c).In-Refuse)

pub returns-in-Refuse-clause-fault : goal.returns-in-Refuse-clause-fault
returns-in-Refuse-clause-fault c _ = reads_refuse _ _ _ c.loop-found.invariant _ (refuse_there (goal.at.returns-in-Refuse-clause-fault c).In-Refuse)

pub overflow_add-end : goal.overflow_add-end
overflow_add-end c = omega (arith, c.requires.short, take_at (goal.at.overflow_add-end c).In-Take)

pub slice_bounds-fits-end : goal.slice_bounds-fits-end
slice_bounds-fits-end c = omega (arith, ap length c.as_bytes.ensures.value, take_at (goal.at.slice_bounds-fits-end c).In-Take)

pub fits-requires : goal.fits-requires
fits-requires c = subst (IsToken c.in-Take.class) (sym (part_is _ _ _ _ c.as_bytes.ensures.value)) (take_form _ _ _ c.loop-found.invariant _ _ (take_there (goal.at.fits-requires c).In-Take))

pub returns-then-not-fits-clause-fault : goal.returns-then-not-fits-clause-fault
returns-then-not-fits-clause-fault c _ =
    let exceeds : fits c.in-Take.class (take c.in-Take.length (drop c.loop-found.at c.args.text.now)) ≡ false = ap (fits c.in-Take.class) (sym (part_is _ _ _ _ c.as_bytes.ensures.value)) ∙ sym c.if-not-fits.ensures in
    subst (FaultFrom c.args.text.now 0) (sym c.excess.ensures) (reads_exceeds _ _ _ c.loop-found.invariant _ _ (take_there (goal.at.returns-then-not-fits-clause-fault c).In-Take) exceeds)

pub loop-found-smaller : goal.loop-found-smaller
loop-found-smaller c = omega (arith, take_at (goal.at.loop-found-smaller c).In-Take)

pub loop-found-preserved : goal.loop-found-preserved
loop-found-preserved c =
    let keeps : fits c.in-Take.class (take c.in-Take.length (drop c.loop-found.at c.args.text.now)) ≡ true = ap (fits c.in-Take.class) (sym (part_is _ _ _ _ c.as_bytes.ensures.value)) ∙ sym c.if-not-fits.ensures in
    let read = reads_take _ _ _ c.loop-found.invariant _ _ (take_there (goal.at.loop-found-preserved c).In-Take) keeps in
    rw c.in_ok-push-in-Take.ensures.ok read
