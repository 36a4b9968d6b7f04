-- Attributes of a sort come in the order of their visits, what a visit takes before what it gives.
use Rattle.std.proofs.Common.{◌≡◌, ℕ, zero, suc, ◌+◌, ◌*◌, ◌/◌, ◌%◌, ◌<◌, ◌≤◌, Bool, true, false, not, length, slice_get, slice_index, All, Some, inl, inr, refl, sym, ap, ◌∙◌, arith}
use Rattle.std.proofs.lemmas.Option.{same_Some}
use Rattle.std.proofs.lemmas.Bool.{true≢false, cases_lt}
use Rattle.lrc_base.specs.declared.grammar.Attr.{Attr}
use Rattle.lrc_meaning.specs.Grammar.{Grammar, attrs_of_sort}
use Rattle.lrc_order_meaning.specs.declared.Partition.{Partition}
use Rattle.lrc_order_meaning.specs.Sets.{is_of_inherited, HasTurn, Placed, InSet}
use Rattle.lrc_order_meaning.specs.Ordered.{Partitions, ArePartitions, IsPartition, IsGivenThere}
use Rattle.lrc_order_meaning.proofs.GreatestLemmas.{greatest_turn}
use Rattle.lrc_plan_meaning.proofs.ExtendedLemmas.{partition_of}

even_over : (k : ℕ) → (is_of_inherited k ≡ true → k % 2 ≡ 0) × (is_of_inherited k ≡ false → k % 2 ≡ 1)
even_over zero = (λ e. refl, λ e. absurd (true≢false e))
even_over (suc k) =
    let r = even_over k in (λ e. let q = r.1 (not_true (is_of_inherited k) e) in omega arith, λ e. let q = r.0 (not_false (is_of_inherited k) e) in omega arith)
  where
    not_true : (b : Bool) → not b ≡ true → b ≡ false
    not_true true e = sym e
    not_true false e = refl

    not_false : (b : Bool) → not b ≡ false → b ≡ true
    not_false true e = refl
    not_false false e = sym e

module _ (g : Grammar) (found : Partitions) (are : ArePartitions g found) (there : All (IsGivenThere g.sorts) found.given) (s : ℕ) (known : s < length g.sorts) where
  abbrev pub part : Partition
  part = (partition_of g found are there s known).0

  abbrev partition : IsPartition g found.given s part
  partition = (partition_of g found are there s known).2

  -- the set of an attribute, and that its number tells the direction
  set_turn : (set a : ℕ) → InSet g found.given s set a → HasTurn g s set a
  set_turn zero a h = absurd (h.0)
  set_turn (suc k) a h =
      elim h.0 [
        | inl early ↦ absurd (h.1 k (omega arith) early)
        | inr now ↦ (greatest_turn g found.given s (suc k) (Placed g found.given s k) a now).turn
      ]

  pub record HasVisit (a : ℕ) (attr : Attr) : Type 0 where
    pub set : ℕ
    pub in_set : InSet g found.given s set a
    pub visit_is : slice_index part.visit_of a + (set + 1) / 2 ≡ part.visits + 1
    pub inherited_even : attr.inherited ≡ true → set % 2 ≡ 0
    pub synthesised_odd : attr.inherited ≡ false → set % 2 ≡ 1
    pub some : 1 ≤ set
    pub first : 1 ≤ slice_index part.visit_of a
    pub last : slice_index part.visit_of a ≤ part.visits

  pub has_visit : (a : ℕ) (attr : Attr) → slice_get (attrs_of_sort g.sorts s) a ≡ Some attr → a < length (attrs_of_sort g.sorts s) → HasVisit a attr
  has_visit a attr is less =
      let count = partition.attributes in
      let v = partition.visit_of a (omega arith) in
      let turn = set_turn v.set a v.in_set in
      let same : attr.inherited ≡ is_of_inherited v.set = ap (λ (x : Attr). x.inherited) (same_Some attr turn.attr (sym is ∙ turn.is_there)) ∙ turn.direction in
      let parity = even_over v.set in
      let all = partition.visits.0.all a less in
      let from = v.from_last in
      let some = positive v.set a v.in_set in
      let small = within v.set a v.in_set all in
      record {
        set = v.set;
        in_set = v.in_set;
        visit_is = v.from_last;
        inherited_even = λ e. parity.0 (sym same ∙ e);
        synthesised_odd = λ e. parity.1 (sym same ∙ e);
        some = some;
        first = omega arith;
        last = omega arith;
      }
    where
      positive : (set b : ℕ) → InSet g found.given s set b → 1 ≤ set
      positive zero b h = absurd (h.0)
      positive (suc k) b h = omega arith

      within : (set b : ℕ) → InSet g found.given s set b → Placed g found.given s (2 * part.visits) b → set ≤ 2 * part.visits
      within set b h placed = elim (cases_lt (2 * part.visits) set) [ inl early ↦ absurd (h.1 (2 * part.visits) early placed) | inr le ↦ le ]
