-- What the table of a production's needs is made of, read off its signature.
use Rattle.std.proofs.Common.{◌≡◌, ℕ, ◌<◌, IsTrue, List, All, map, length, get_or, sym, ap, ◌∙◌, subst, arith}
use Rattle.lrc_base.specs.declared.grammar.Production.{Production}
use Rattle.lrc_base.specs.declared.signature.Signature.{Signature}
use Rattle.lrc_meaning.specs.Grammar.{Grammar, occurrences_of, is_well_formed}
use Rattle.lrc_meaning.specs.Signature.{signature_of}
use Rattle.lrc_meaning.proofs.SignatureLemmas.{signed_count}
use Rattle.lrc_order_meaning.specs.declared.Need.{Need}
use Rattle.lrc_order_meaning.specs.Needs.{needs_of}
use Rattle.lrc_ordered.specs.Setup.{IsNeedBelow}
use Rattle.lrc_ordered.proofs.SetupLemmas.{map_at, signed_length, signed_at}
use Rattle.lrc_ordered.proofs.BridgeLemmas.{closed_within}

-- a production of this number has these few occurrences
pub record IsFewAt (g : Grammar) (i count : ℕ) : Type 0 where
  pub production : Production
  pub index : i < length g.prods
  pub there : production ≡ get_or g.prods i production
  pub few : count < 1024
  pub points : count ≡ length (occurrences_of g.sorts production)

module _ (g : Grammar) (signatures : List Signature) (made : signatures ≡ map (signature_of g.sorts) g.prods) (few : All (λ p. length (occurrences_of g.sorts p) < 1024) g.prods) (i : ℕ) where
  pub few_at : (signature : Signature) → i < length signatures → signature ≡ get_or signatures i signature → IsFewAt g i (length signature.occurrences)
  few_at signature h s =
      let there : i < length g.prods = subst (λ n. i < n) (signed_length g.sorts g.prods signatures made) h in
      let at = signed_at g.sorts g.prods signatures made i signature there s in
      let count : length signature.occurrences ≡ length (occurrences_of g.sorts at.production) =
      ap (λ (x : Signature). length x.occurrences) at.is ∙ signed_count g.sorts at.production in
      let small : length (occurrences_of g.sorts at.production) < 1024 =
      subst (λ (q : Production). length (occurrences_of g.sorts q) < 1024) (sym at.there) (few i at.production there) in
      record { production = at.production; index = there; there = at.there; few = omega arith; points = count }

module _ (g : Grammar) (lists : List (List Need)) (made : lists ≡ map (needs_of g.sorts) g.prods) (i : ℕ) where
  pub needs_at : (list : List Need) (p : Production) → list ≡ get_or lists i list → i < length g.prods → p ≡ get_or g.prods i p → list ≡ needs_of g.sorts p
  needs_at list p l h there =
      l ∙ ap (λ (xs : List (List Need)). get_or xs i list) made ∙ map_at (needs_of g.sorts) g.prods i list p h ∙ ap (needs_of g.sorts) (sym there)

  pub within_at : (well : IsTrue (is_well_formed g)) (list : List Need) (count : ℕ) (few : IsFewAt g i count) → list ≡ get_or lists i list → All (IsNeedBelow count) list
  within_at well list count few l =
      let p : Production = few.production in
      let below : All (IsNeedBelow (length (occurrences_of g.sorts p))) (needs_of g.sorts p) =
      subst (λ (q : Production). All (IsNeedBelow (length (occurrences_of g.sorts q))) (needs_of g.sorts q)) (sym few.there) (closed_within g well i p few.index) in
      subst (λ (ns : List Need). All (IsNeedBelow count) ns) (sym (needs_at list p l few.index few.there))
      (subst (λ n. All (IsNeedBelow n) (needs_of g.sorts p)) (sym few.points) below)
