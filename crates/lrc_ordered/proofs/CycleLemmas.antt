-- What the tables' first cycle says of the induced dependencies.
use Rattle.std.proofs.Common.{◌≡◌, ℕ, zero, suc, ◌+◌, ◌<◌, ◌↔◌, List, [], ◌∷◌, ap, length-take-le, All, length, get_or, slice_get, Some, sym, subst, arith, get_or-take}
use Rattle.lrc_base.specs.declared.grammar.Production.{Production}
use Rattle.lrc_graph.specs.Pairs.{Pairs}
use Rattle.lrc_order_meaning.specs.Ordered.{IsAcyclic, IsFirstCycle}
use Rattle.lrc_ordered.specs.Tables.{HasAt}
use Rattle.lrc_ordered.specs.Cycles.{HasNoneBelow, HasNone, IsFirst}
use Rattle.lrc_ordered.proofs.BridgeLemmas.{item_at}
use Rattle.std.proofs.lemmas.List.{get_or_default}

slice_of : {X : Type 0} (xs : List X) (i : ℕ) (x : X) → i < length xs → get_or xs i x ≡ x → slice_get xs i ≡ Some x
slice_of [] i x h e = absurd (omega arith)
slice_of (y ∷ ys) zero x h e = ap Some e
slice_of (y ∷ ys) (suc i) x h e = slice_of ys i x (omega arith) e

module _ (prods : List Production) (Paths : Production → ℕ → ℕ → Type 0) (tables : List Pairs) (number : length tables ≡ length prods)
    (same : (i x y : ℕ) (p : Production) → i < length prods → get_or prods i p ≡ p → HasAt tables i x y ↔ Paths p x y) where
  none_below : (n : ℕ) → n < length prods + 1 → HasNoneBelow tables n → (i : ℕ) (d : Production) → i < n → i < length prods → IsAcyclic (Paths (get_or prods i d))
  none_below n small none i d h there x path =
      none i h x ((same i x x (get_or prods i d) there (get_or_default prods i (get_or prods i d) d there)).1 path)

  pub no_cycle : HasNone tables → All (λ p. IsAcyclic (Paths p)) prods
  no_cycle none i d h = none_below (length tables) (omega arith) none i d (omega arith) h

  pub first_is : (i x : ℕ) → IsFirst tables i x → IsFirstCycle prods Paths i x
  first_is i x first =
      let small = first.is_there in
      let there : i < length prods = omega arith in
      let found = item_at prods i there in
      let p : Production = found.0 in
      record {
        production = p;
        is_there = slice_of prods i p there found.1;
        none_earlier = λ k d h.
            let cut = length-take-le i prods (omega arith) in
            let less : k < i = omega arith in
            subst (λ q. IsAcyclic (Paths q)) (sym (get_or-take i prods k d less)) (none_below i (omega arith) first.none_earlier k d less (omega arith));
        least = (
          (same i x x p there found.1).0 first.least.0,
          λ y less path. first.least.1 y less ((same i y y p there found.1).1 path),
        );
      }
