use Rattle.std.proofs.Common.{sym, subst}
use lib.IntN.{pos}
use Rattle.std.proofs.lemmas.Option.{get_or_from_slice_get}
use Rattle.lrc_base.specs.declared.signature.Origin.{Origin}
use Rattle.lrc_eval.specs.declared.values.Val.{Val}
use Rattle.lrc_eval.specs.declared.values.Val.TheVariants as v
use Rattle.lrc_eval.specs.Values.{Means}
use Rattle.lrc_frames.specs.Writing.{StandsAt}
use Rattle.lrc_frames.proofs.SymbolLemmas.{kid-stands}
use Rattle.lrc_frames.proofs.calling.origin_tree.Goals as goal

pub returns-in-Child-clause-finds : goal.returns-in-Child-clause-finds
returns-in-Child-clause-finds g c t stands =
    let s = g.St.Store.state c.args.store.now in
    let own = subst (λ (from : Origin). StandsAt s c.args.frame.now c.args.body from t) c.in-Child.is stands in
    kid-stands s (g.St.Store.state c.kid_of.new.store) c.args.body.tree.0 c.kid_of.result.0 c.in-Child.number t own c.kid_of.ensures.known c.kid_of.ensures.kid

pub returns-in-Value-clause-finds : goal.returns-in-Value-clause-finds
returns-in-Value-clause-finds g c t stands =
    let s = g.St.Store.state c.args.store.now in
    let own = subst (λ (from : Origin). StandsAt s c.args.frame.now c.args.body from t) c.in-Value.is stands in
    c.handle_in.ensures s t (subst (λ (x : Val). Means s x t) (sym (get_or_from_slice_get c.args.frame.now c.in-Value.occurrence own.0 (v.Int (pos 0)) own.1)) own.2)
