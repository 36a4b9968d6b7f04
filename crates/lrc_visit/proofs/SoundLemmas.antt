-- The visit sequences of a grammar with an order are sound, where that it has one is known and no order is at hand: what the
-- order alone tells is decided by a test.
use Rattle.std.proofs.Common.{◌≡◌, ℕ, ◌+◌, ◌<◌, ◌≤◌, Bool, true, false, IsTrue, List, ◌++◌, map, get_or, Contains, refl, sym, ap, ◌∙◌, subst, arith}
use Rattle.std.specs.Prelude.{flat_map}
use Rattle.std.specs.List.{range_with_len}
use Rattle.std.proofs.Math.Logic.{∥∥₁_elim}
use Rattle.std.proofs.lemmas.Bool.{true≢false}
use Rattle.lrc_base.specs.declared.grammar.Production.{Production}
use Rattle.lrc_meaning.specs.Grammar.{Grammar, is_well_formed}
use Rattle.lrc_order_meaning.specs.Ordered.{Partitions, HasOrder}
use Rattle.lrc_order_meaning.proofs.MemberLemmas.{member_map, member_of_map, member_flat, member_of_flat, member_range, member_of_range}
use Rattle.lrc_plan_meaning.specs.declared.Action.{Action}
use Rattle.lrc_plan_meaning.specs.declared.Action.TheVariants as a
use Rattle.lrc_plan_meaning.specs.declared.Bound.{Bound}
use Rattle.lrc_plan_meaning.specs.declared.Bound.TheVariants as b
use Rattle.lrc_plan_meaning.specs.Items.{is_among, visits_of, makes, values_of_visit}
use Rattle.lrc_plan_meaning.specs.Sequences.{segment}
use Rattle.lrc_plan_meaning.specs.Sound.{handed_in, IsDone, GivesAll, IsComplete, IsSound}
use Rattle.lrc_plan_meaning.proofs.ItemLemmas.{contained, among}
use Rattle.lrc_plan.proofs.ListedLemmas.{all_ready}
use Rattle.lrc_plan.proofs.CompleteLemmas.{done_own}
use Rattle.lrc_plan.proofs.OnceLemmas.{plan_once}
use Rattle.lrc_plan.proofs.ApartLemmas.{plan_fresh}
use Rattle.lrc_plan.proofs.SoundLemmas.{ordered_is_sound}
use Rattle.lrc_grammar.specs.Grammar.{grammar_of}
use Rattle.lrc_visit_meaning.specs.Values.{Call}
use Rattle.lrc_store.specs.Standing.{Standing}
use Rattle.lrc_functions.specs.declared.functions.Functions.{Functions}
use Rattle.lrc_bodies.specs.Bodies.{AllSound, Asks}
use Rattle.lrc_visit.specs.Asked.{IsAsked}

-- a test that an order makes true is true where there is some order
decided : {A : Type 0} → ∥ A ∥₁ → (t : Bool) → (A → t ≡ true) → t ≡ true
decided some true made = refl
decided some false made =
    let no_two : IsProp ⊥ = hlevel in
    absurd (∥∥₁_elim some no_two (λ one. true≢false (sym (made one))))

-- an action as an item, so that a test of items serves for actions
abbrev sign : Action → Bound
sign (a.Eval o) = b.Value o
sign (a.Visit s v) = b.Kid s v 0

abbrev unsign : Bound → Action
unsign (b.Value o) = a.Eval o
unsign (b.Kid s i j) = a.Visit s i

unsigned : (x : Action) → unsign (sign x) ≡ x
unsigned (a.Eval o) = refl
unsigned (a.Visit s v) = refl

module _ (g : Grammar) (found : Partitions) (some : ∥ HasOrder g found ∥₁) where
  well : IsTrue (is_well_formed g)
  well = decided some (is_well_formed g) (λ order. order.formed)

  member : (items : List Bound) (x : Bound) → (HasOrder g found → Contains items x) → Contains items x
  member items x made = contained items x (decided some (is_among items x) (λ order. among items x (made order)))

  module _ (p : Production) (there : Contains g.prods p) where
    gives : GivesAll g.sorts found.sorts p
    gives v first last i d less =
        let items = handed_in g.sorts found.sorts p v ++ flat_map (makes g.sorts found.sorts p) (segment g.sorts found.sorts p v) in
        member items (get_or (values_of_visit g.sorts found.sorts false p.left 0 v) i d)
        (λ order. let is = ordered_is_sound g found order p there in is.gives v first last i d less)

    abbrev visits : List ℕ
    visits = range_with_len 1 (visits_of found.sorts p.left)

    abbrev all_actions : List Action
    all_actions = flat_map (segment g.sorts found.sorts p) visits

    within_last : (v : ℕ) → v ≤ visits_of found.sorts p.left → v < 1 + visits_of found.sorts p.left
    within_last v last = omega (arith, last)

    done : (x : Action) → (HasOrder g found → IsDone g.sorts found.sorts p x) → IsDone g.sorts found.sorts p x
    done x made =
        let signed = member (map sign all_actions) (sign x) (λ order.
        let d = made order in
        member_map sign all_actions x (member_flat (segment g.sorts found.sorts p) visits d.0 x (member_range 1 (visits_of found.sorts p.left) d.0 d.1 (within_last d.0 d.2)) d.3)) in
        let back = member_of_map sign all_actions (sign x) signed in
        let same : back.0 ≡ x = sym (unsigned back.0) ∙ ap unsign back.2 ∙ unsigned x in
        let at = member_of_flat (segment g.sorts found.sorts p) visits x (subst (Contains all_actions) same back.1) in
        let within = member_of_range 1 (visits_of found.sorts p.left) at.0 at.1 in
        let less = within.1 in
        (at.0, within.0, omega (arith, less), at.2)

    complete : IsComplete g.sorts found.sorts p
    complete = record {
      evaluates = λ o. (
        λ defined. done (a.Eval o) (λ order. let is = ordered_is_sound g found order p there in (is.complete.evaluates o).0 defined),
        λ made. done_own g.sorts found.sorts p (a.Eval o) made,
      );
      visits = λ s v. (
        λ is_there. done (a.Visit s v) (λ order. let is = ordered_is_sound g found order p there in (is.complete.visits s v).0 is_there),
        λ made. done_own g.sorts found.sorts p (a.Visit s v) made,
      );
    }

    sound : IsSound g.sorts found.sorts p
    sound = record {
      runs = all_ready g well found.sorts p there;
      gives = gives;
      complete = complete;
      once = plan_once g.sorts found.sorts p;
      fresh = plan_fresh g found.sorts p;
    }

  pub sound_by_order : AllSound g found.sorts
  sound_by_order = sound

-- who brings a handle of a spelled call asks for it as the bodies want it
pub can_ask : (functions : Functions) (s : Standing) (c : Call) (handle : ℕ) → IsAsked s c handle
    → Asks (grammar_of functions.plan.grammar) functions.plan.parts.sorts s c handle
can_ask functions s c handle asked = record {
  sound = sound_by_order (grammar_of functions.plan.grammar) functions.plan.parts functions.plan.ordered;
  spelled = asked.spelled;
  stands = asked.stands;
}
