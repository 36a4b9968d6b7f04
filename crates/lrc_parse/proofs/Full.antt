-- The combinators of readings that are exact with a place for each stop.
use Rattle.std.proofs.Common.{◌≡◌, ℕ, true, false, Option, Some, List, [], ◌∷◌}
use Rattle.lrc_parse.specs.Kinds.{has, disjoint}
use Rattle.lrc_parse.specs.Language.{Lang, One, Of, Given, Either, Chain, Loop, Fixed, Skip, Ends}
use Rattle.lrc_parse.specs.Reading.{Reading, read_one, read_of, read_given, read_fixed, read_skip, read_ends, read_either, read_loop, read_chain}
use Rattle.lrc_parse.specs.Exact.{Shape, shape_one, shape_then, shape_either, shape_skip, shape_ends, shape_many}
use Rattle.lrc_parse.specs.Faults.{Widening, Rich, Full}
use Rattle.lrc_parse.proofs.Sets.{true_not_false}
use Rattle.lrc_parse.proofs.Same.{fixed_to, fixed_from, fixed_same, kind_value, skip_to, skip_same, ends_parts, ends_to, ends_from, ends_same, chain_parts, chain_to, chain_from, chain_same}
use Rattle.lrc_parse.proofs.Parts.{exact_as, exact_one, exact_of, exact_fixed, exact_skip, exact_given, exact_either}
use Rattle.lrc_parse.proofs.Loops.{exact_loop}
use Rattle.lrc_parse.proofs.Grow.{sub_of, sub_given, sub_either, sub_skip}
use Rattle.lrc_parse.proofs.TameRich.{tame_as, tame_one, tame_of, tame_given, tame_either, tame_loop, tame_fixed, tame_skip, rich_as, rich_one, rich_of, rich_given, rich_either, rich_loop, rich_fixed, rich_skip}
use Rattle.lrc_parse.proofs.Places.{placed_as, placed_one, placed_of, placed_given, placed_either}
use Rattle.lrc_parse.proofs.LoopPlaces.{loop_grows, placed_loop}

module _ {I T : Type 0} (kind : T → ℕ) (le : I → I → Type 0) (wide : Widening le) where
  pub full_as : {A : Type 0} (s : Shape) (L M : I → Lang T A) (a b : I → List T → Reading T A) (i : I) → Full kind le s L a i →
      ((j : I) (u : List T) (x : A) → L j u x → M j u x) → ((j : I) (u : List T) (x : A) → M j u x → L j u x) → ((j : I) (u : List T) → b j u ≡ a j u) →
      Full kind le s M b i
  full_as s L M a b i e to from same = record {
    exact = λ j. exact_as kind s (L j) (M j) (a j) (b j) (e.exact j) (to j) (from j) (same j);
    grows = λ j k l u x m. to k u x (e.grows j k l u x (from j u x m));
    tame = λ j. tame_as kind s (a j) (b j) (e.tame j) (same j);
    rich = rich_as kind s L M e.rich to;
    placed = placed_as kind le wide L M a b i e.placed to same;
  }

  -- each token of the kinds has a value, and there is one
  pub full_one : {A : Type 0} (ks : List ℕ) (value : T → Option A) → ((t : T) (x : A) → value t ≡ Some x → has ks (kind t) ≡ true) →
      ((t : T) → has ks (kind t) ≡ true → (x : A) × (value t ≡ Some x)) → (t : T) → has ks (kind t) ≡ true →
      (i : I) → Full kind le (shape_one ks) (λ _. One value) (λ _. read_one value) i
  full_one ks value among has_value t h i =
      let r : Rich {I = I} kind (shape_one ks) (λ _. One value) = rich_one kind ks value i has_value t h in record {
        exact = λ j. exact_one kind ks value among;
        grows = λ j k l u x m. m;
        tame = λ j. tame_one kind ks value among;
        rich = r;
        placed = placed_one kind le wide value r.some i;
      }

  pub full_of : {A B : Type 0} (f : A → B) (s : Shape) (L : I → Lang T A) (a : I → List T → Reading T A) (i : I) → Full kind le s L a i →
      Full kind le s (λ j. Of f (L j)) (λ j. read_of f (a j)) i
  full_of f s L a i e = record {
    exact = λ j. exact_of kind f s (L j) (a j) (e.exact j);
    grows = λ j k l. sub_of f (L j) (L k) (e.grows j k l);
    tame = λ j. tame_of kind f s (a j) (e.tame j);
    rich = rich_of kind f s L e.rich;
    placed = placed_of kind le wide f L a i e.placed;
  }

  pub full_given : {A B : Type 0} (s t : Shape) (L : I → Lang T A) (M : A → I → Lang T B) (a : I → List T → Reading T A) (b : A → I → List T → Reading T B) →
      disjoint s.more t.first ≡ true → (i : I) → Full kind le s L a i → ((x : A) → Full kind le t (M x) (b x) i) →
      Full kind le (shape_then s t) (λ j. Given (L j) (λ x. M x j)) (λ j. read_given (a j) (λ x. b x j)) i
  full_given s t L M a b d i e f = record {
    exact = λ j. exact_given kind s t (L j) (λ x. M x j) (a j) (λ x. b x j) d (e.exact j) (λ x. (f x).exact j);
    grows = λ j k l. sub_given (L j) (L k) (λ x. M x j) (λ x. M x k) (e.grows j k l) (λ x. (f x).grows j k l);
    tame = λ j. tame_given kind s t (a j) (λ x. b x j) (e.tame j) (λ x. (f x).tame j);
    rich = rich_given kind le wide s t L M e.grows (λ x. (f x).grows) e.rich (λ x. (f x).rich.some) (λ _ x. (f x).rich);
    placed = placed_given kind le wide L M a b e.grows (λ x. (f x).grows) (λ x. (f x).rich.some) i e.placed (λ x. (f x).placed);
  }

  pub full_either : {A : Type 0} (s t : Shape) (L M : I → Lang T A) (a b : I → List T → Reading T A) → disjoint s.first t.first ≡ true → s.empty ≡ false →
      (i : I) → Full kind le s L a i → Full kind le t M b i → Full kind le (shape_either s t) (λ j. Either (L j) (M j)) (λ j. read_either kind s.first (a j) (b j)) i
  full_either s t L M a b d n i e f = record {
    exact = λ j. exact_either kind s t (L j) (M j) (a j) (b j) d n (e.exact j) (f.exact j);
    grows = λ j k l. sub_either (L j) (L k) (M j) (M k) (e.grows j k l) (f.grows j k l);
    tame = λ j. tame_either kind s t (a j) (b j) (f.tame j);
    rich = rich_either kind s t L M e.rich f.rich;
    placed = placed_either kind le wide s.first L M a b i e.placed f.placed;
  }

  pub full_loop : {S : Type 0} (s : Shape) (step : S → I → Lang T S) (read : S → I → List T → Reading T S) → s.empty ≡ false → disjoint s.more s.first ≡ true →
      (i : I) → ((z : S) → Full kind le s (step z) (read z) i) → (z : S) →
      Full kind le (shape_many s) (λ j. Loop (λ x. step x j) z) (λ j. read_loop kind s.first (λ x. read x j) z) i
  full_loop s step read n d i e z = record {
    exact = λ j. exact_loop kind s (λ x. step x j) (λ x. read x j) n d (λ x. (e x).exact j) z;
    grows = loop_grows kind le wide step (λ x. (e x).grows) z;
    tame = λ j. tame_loop kind s (λ x. read x j) z;
    rich = rich_loop kind s step (λ x. (e x).rich) z;
    placed = placed_loop kind le wide s.first step read (λ x j y m. true_not_false _ (((e x).exact j).empty y m) n) (λ x. (e x).grows) i (λ x. (e x).placed) z;
  }

  pub full_fixed : (k : ℕ) (t : T) → kind t ≡ k → (i : I) → Full kind le (shape_one (k ∷ [])) (λ _. Fixed kind k) (λ _. read_fixed kind k) i
  full_fixed k t e i =
      let r : Rich {I = I} kind (shape_one (k ∷ [])) (λ _. Fixed kind k) = rich_fixed kind k i t e in record {
        exact = λ j. exact_fixed kind k;
        grows = λ j l w u x m. m;
        tame = λ j. tame_fixed kind k;
        rich = r;
        placed = placed_as kind le wide (λ _. One (kind_value kind k)) (λ _. Fixed kind k) (λ _. read_one (kind_value kind k)) (λ _. read_fixed kind k) i
            (placed_one kind le wide (kind_value kind k) (r.some.0, r.some.1, r.some.2, fixed_from kind k r.some.1 r.some.2 r.some.3) i) (λ _. fixed_to kind k) (λ _. fixed_same kind k);
      }

  pub full_skip : {A : Type 0} (k : ℕ) (t : T) → kind t ≡ k → (s : Shape) (L : I → Lang T A) (a : I → List T → Reading T A) (i : I) → Full kind le s L a i →
      Full kind le (shape_skip k s) (λ j. Skip kind k (L j)) (λ j. read_skip kind k (a j)) i
  full_skip {A} k t w s L a i e =
      let f : Full kind le (shape_one (k ∷ [])) (λ _. Fixed kind k) (λ _. read_fixed kind k) i = full_fixed k t w i in record {
        exact = λ j. exact_skip kind k s (L j) (a j) (e.exact j);
        grows = λ j l g. sub_skip kind k (L j) (L l) (e.grows j l g);
        tame = λ j. tame_skip kind k s (a j);
        rich = rich_skip kind k s L t w e.rich.some;
        placed = placed_as kind le wide (λ j. Given (Fixed kind k) (λ _. L j)) (λ j. Skip kind k (L j)) (λ j. read_given (read_fixed kind k) (λ _. a j)) (λ j. read_skip kind k (a j)) i
            (placed_given kind le wide (λ _. Fixed kind k) (λ _. L) (λ _. read_fixed kind k) (λ _. a) f.grows (λ _. e.grows) (λ _. e.rich.some) i f.placed (λ _. e.placed))
            (λ j. skip_to kind k (L j)) (λ j. skip_same kind k (a j));
      }

  pub full_ends : {A : Type 0} (s : Shape) (L : I → Lang T A) (a : I → List T → Reading T A) (k : ℕ) (t : T) → kind t ≡ k → disjoint s.more (k ∷ []) ≡ true →
      (i : I) → Full kind le s L a i → Full kind le (shape_ends s k) (λ j. Ends kind (L j) k) (λ j. read_ends kind (a j) k) i
  full_ends s L a k t w d i e =
      full_as (shape_ends s k) (λ j. ends_parts kind (L j) k) (λ j. Ends kind (L j) k) (λ j. read_given (a j) (λ x. read_of (λ _. x) (read_fixed kind k))) (λ j. read_ends kind (a j) k) i
      (full_given s (shape_one (k ∷ [])) L (λ x j. Of (λ _. x) (Fixed kind k)) a (λ x j. read_of (λ _. x) (read_fixed kind k)) d i e
      (λ x. full_of (λ _. x) (shape_one (k ∷ [])) (λ _. Fixed kind k) (λ _. read_fixed kind k) i (full_fixed k t w i)))
      (λ j. ends_to kind (L j) k) (λ j. ends_from kind (L j) k) (λ j. ends_same kind (a j) k)

  pub full_chain : {A X : Type 0} (f : A → X → A) (s t : Shape) (L : I → Lang T A) (M : I → Lang T X) (a : I → List T → Reading T A) (b : I → List T → Reading T X) →
      t.empty ≡ false → disjoint t.more t.first ≡ true → disjoint s.more t.first ≡ true → (i : I) → Full kind le s L a i → Full kind le t M b i →
      Full kind le (shape_then s (shape_many t)) (λ j. Chain f (L j) (M j)) (λ j. read_chain kind f (a j) t.first (b j)) i
  full_chain f s t L M a b n d h i e g =
      full_as (shape_then s (shape_many t)) (λ j. chain_parts f (L j) (M j)) (λ j. Chain f (L j) (M j))
      (λ j. read_given (a j) (λ x. read_loop kind t.first (λ y. read_of (f y) (b j)) x)) (λ j. read_chain kind f (a j) t.first (b j)) i
      (full_given s (shape_many t) L (λ x j. Loop (λ y. Of (f y) (M j)) x) a (λ x j. read_loop kind t.first (λ y. read_of (f y) (b j)) x) h i e
      (full_loop t (λ y j. Of (f y) (M j)) (λ y j. read_of (f y) (b j)) n d i (λ y. full_of (f y) t M b i g)))
      (λ j. chain_to f (L j) (M j)) (λ j. chain_from f (L j) (M j)) (λ j. chain_same kind f (a j) t.first (b j))
