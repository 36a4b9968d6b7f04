-- The grammar of generated jobs is ordered: ranks of the occurrences of each production, and that they go up.
use Rattle.std.proofs.Common.{◌≡◌, ℕ, zero, suc, ◌+◌, ◌<◌, Bool, true, false, ◌&&◌, nat_lt, List, [], ◌∷◌, All, Contains, slice_get, slice_index, Some, length, refl, sym, ◌∙◌, ap, arith}
use Rattle.std.specs.Prelude.{codes}
use Rattle.std.specs.List.{list_all, range_with_len}
use Rattle.std.proofs.lemmas.Bool.{and_parts, true≢false}
use Rattle.std.proofs.lemmas.Bool.Decides.{nat_tests}
use Rattle.std.proofs.lemmas.Option.{none-some, same_Some}
use Rattle.std.proofs.lemmas.List.Elements.{All-from_recursion, All-contains}
use Rattle.std.proofs.lemmas.List.Sums.{AllPass-from_list_all}
use Rattle.lrc_base.specs.declared.grammar.Kind.TheVariants as k
use Rattle.lrc_base.specs.declared.grammar.Attr.{Attr}
use Rattle.lrc_base.specs.declared.grammar.Sort.{Sort}
use Rattle.lrc_base.specs.declared.grammar.Production.{Production}
use Rattle.lrc_meaning.specs.Grammar.{Grammar, attrs_of_sort}
use Rattle.lrc_meaning.proofs.ExpressionLemmas.{expression_equations}
use Rattle.lrc_order_meaning.specs.declared.Need.{Need}
use Rattle.lrc_order_meaning.specs.declared.Place.{Place}
use Rattle.lrc_order_meaning.specs.Needs.{need, needs_of, places_of}
use Rattle.lrc_order_meaning.specs.Ordered.{IsOrdered}
use Rattle.lrc_order_meaning.proofs.MemberLemmas.{member_range}
use Rattle.lrc_gen_laws.specs.LetsGrammar.{inh, syn, root, num, var, add, neg, let_in, empty, bind, lets_prods, lets_grammar}
use Rattle.lrc_gen_laws.proofs.RankLemmas.{IsRanked, InheritedFirst, ranked_is_ordered}

-- ---- a test of ranks

-- a test that all pass is passed by each
passes : {X : Type 0} (test : X → Bool) (xs : List X) → list_all test xs ≡ true → (x : X) → Contains xs x → test x ≡ true
passes test xs h x c = All-contains (λ y. test y ≡ true) xs x (AllPass-from_list_all test xs h) c

-- ranks by number of occurrence
abbrev goes_before : List ℕ → ℕ → ℕ → Bool
goes_before ranks x y = nat_lt (slice_index ranks x) (slice_index ranks y)

abbrev need_goes_up : List ℕ → Need → Bool
need_goes_up ranks n = goes_before ranks n.first n.then

abbrev pair_goes_up : List ℕ → Place → ℕ → ℕ → Bool
pair_goes_up ranks place b a = goes_before ranks (place.start + a) (place.start + b)

abbrev place_goes_up : List Sort → List ℕ → Place → Bool
place_goes_up sorts ranks place =
    list_all (λ b. list_all (pair_goes_up ranks place b) (range_with_len 0 b)) (range_with_len 0 (length (attrs_of_sort sorts place.sort)))

abbrev goes_up : List Sort → List ℕ → Production → Bool
goes_up sorts ranks p = list_all (need_goes_up ranks) (needs_of sorts p) && list_all (place_goes_up sorts ranks) (places_of sorts p)

-- what passes the test has ranks that go up
module _ (g : Grammar) (ranks : List ℕ) (p : Production) (h : goes_up g.sorts ranks p ≡ true) where
  both : (list_all (need_goes_up ranks) (needs_of g.sorts p) ≡ true) × (list_all (place_goes_up g.sorts ranks) (places_of g.sorts p) ≡ true)
  both = and_parts (list_all (need_goes_up ranks) (needs_of g.sorts p)) (list_all (place_goes_up g.sorts ranks) (places_of g.sorts p)) h

  needs_up : (x y : ℕ) → Contains (needs_of g.sorts p) (need x y) → slice_index ranks x < slice_index ranks y
  needs_up x y c = let test = passes (need_goes_up ranks) (needs_of g.sorts p) both.0 (need x y) c in grind (arith, nat_tests)

  places_up : (place : Place) (a b : ℕ) → Contains (places_of g.sorts p) place → a < b → b < length (attrs_of_sort g.sorts place.sort)
      → slice_index ranks (place.start + a) < slice_index ranks (place.start + b)
  places_up place a b c less within =
      let n : ℕ = length (attrs_of_sort g.sorts place.sort) in
      let at_place = passes (place_goes_up g.sorts ranks) (places_of g.sorts p) both.1 place c in
      let at_later = passes (λ d. list_all (pair_goes_up ranks place d) (range_with_len 0 d)) (range_with_len 0 n) at_place b (member_range 0 n b (omega arith) (omega arith)) in
      let test = passes (pair_goes_up ranks place b) (range_with_len 0 b) at_later a (member_range 0 b a (omega arith) (omega arith)) in
      grind (arith, nat_tests)

  is_ranked : IsRanked g p
  is_ranked = record { rank = slice_index ranks; goes_up = record { needs = needs_up; places = places_up } }

-- ---- the ranks of each production's occurrences

root_ranked : IsRanked lets_grammar root
root_ranked = is_ranked lets_grammar (2 ∷ 0 ∷ 1 ∷ []) root (simp expression_equations refl)

num_ranked : IsRanked lets_grammar num
num_ranked = is_ranked lets_grammar (0 ∷ 1 ∷ []) num (simp expression_equations refl)

var_ranked : IsRanked lets_grammar var
var_ranked = is_ranked lets_grammar (0 ∷ 4 ∷ 1 ∷ 2 ∷ 3 ∷ []) var (simp expression_equations refl)

add_ranked : IsRanked lets_grammar add
add_ranked = is_ranked lets_grammar (0 ∷ 5 ∷ 1 ∷ 2 ∷ 3 ∷ 4 ∷ []) add (simp expression_equations refl)

neg_ranked : IsRanked lets_grammar neg
neg_ranked = is_ranked lets_grammar (0 ∷ 3 ∷ 1 ∷ 2 ∷ []) neg (simp expression_equations refl)

let_ranked : IsRanked lets_grammar let_in
let_ranked = is_ranked lets_grammar (0 ∷ 5 ∷ 1 ∷ 2 ∷ 3 ∷ 4 ∷ []) let_in (simp expression_equations refl)

empty_ranked : IsRanked lets_grammar empty
empty_ranked = is_ranked lets_grammar (0 ∷ 1 ∷ []) empty (simp expression_equations refl)

bind_ranked : IsRanked lets_grammar bind
bind_ranked = is_ranked lets_grammar (0 ∷ 3 ∷ 1 ∷ 2 ∷ []) bind (simp expression_equations refl)

each_ranked : All (IsRanked lets_grammar) lets_prods
each_ranked =
    All-from_recursion (IsRanked lets_grammar) lets_prods
    (root_ranked, (num_ranked, (var_ranked, (add_ranked, (neg_ranked, (let_ranked, (empty_ranked, (bind_ranked, tt))))))))

-- ---- sorts

-- a synthesised attribute alone
alone : (v : Attr) → v.inherited ≡ false → (a : ℕ) (x : Attr) → slice_get (v ∷ []) a ≡ Some x → x.inherited ≡ true → ⊥
alone v is_syn zero x at is_inh = true≢false (sym is_inh ∙ ap (λ (c : Attr). c.inherited) (sym (same_Some v x at)) ∙ is_syn)
alone v is_syn (suc a) x at is_inh = none-some x at

-- an inherited attribute and a synthesised one behind it
pair_in_order : (i v : Attr) → i.inherited ≡ true → v.inherited ≡ false → (a b : ℕ) (x y : Attr) → slice_get (i ∷ v ∷ []) a ≡ Some x
    → slice_get (i ∷ v ∷ []) b ≡ Some y → x.inherited ≡ true → y.inherited ≡ false → a < b
pair_in_order i v first second zero zero x y at_a at_b is_inh is_syn =
    absurd (true≢false (sym first ∙ ap (λ (c : Attr). c.inherited) (same_Some i y at_b) ∙ is_syn))
pair_in_order i v first second zero (suc b) x y at_a at_b is_inh is_syn = omega arith
pair_in_order i v first second (suc a) b x y at_a at_b is_inh is_syn = absurd (alone v second a x at_a is_inh)

inherited_first : InheritedFirst lets_grammar
inherited_first zero a b x y at_a at_b is_inh is_syn = absurd (alone (syn (codes "val") k.Int) refl a x at_a is_inh)
inherited_first (suc zero) a b x y at_a at_b is_inh is_syn = pair_in_order (inh (codes "env") (k.Sort 2)) (syn (codes "val") k.Int) refl refl a b x y at_a at_b is_inh is_syn
inherited_first (suc (suc zero)) a b x y at_a at_b is_inh is_syn = pair_in_order (inh (codes "key") k.Name) (syn (codes "found") k.Int) refl refl a b x y at_a at_b is_inh is_syn
inherited_first (suc (suc (suc s))) a b x y at_a at_b is_inh is_syn = absurd (none-some x at_a)

pub lets_is_ordered : IsOrdered lets_grammar []
lets_is_ordered = ranked_is_ordered lets_grammar each_ranked inherited_first
