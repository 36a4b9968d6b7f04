-- The grammar of generated jobs, as it is written, keeps the limits.
use Rattle.std.proofs.Common.{◌≡◌, ℕ, ◌≤◌, true, false, nat_le, List, [], ◌∷◌, length, refl, inl, inr, arith}
use Rattle.std.specs.Prelude.{All, count_by}
use Rattle.std.specs.List.{list_all}
use Rattle.std.proofs.lemmas.Bool.{and_parts}
use Rattle.std.proofs.lemmas.Bool.Decides.{leb_tells}
use Rattle.std.proofs.lemmas.List.Elements.{All-nil, All-cons}
use Rattle.lrc_base.specs.declared.raw.RawSort.{RawSort}
use Rattle.lrc_base.specs.declared.raw.RawItem.{RawItem}
use Rattle.lrc_base.specs.declared.raw.RawProd.{RawProd}
use Rattle.lrc_meaning.specs.Limits.{is_declaration, item_nodes, KeepsLimits}
use Rattle.lrc_meaning.proofs.NodeLemmas.{written_nodes-Int, written_nodes-One, written_nodes-Two, written_nodes-Op, written_nodes-If, written_nodes-Make}
use Rattle.lrc_gen.specs.Lets.{prog_sort, exp_sort, env_sort, root_items, root_prod, num_items, num_prod, var_items, var_prod, add_pattern, add_items, add_prod, neg_pattern, neg_items, neg_prod, let_pattern, bound, let_items, let_prod, empty_prod, found, bind_items, bind_prod, sorts, tree_prods, prods, lets}

-- a number that is tested to be at most another
at_most : (m n : ℕ) → nat_le m n ≡ true → m ≤ n
at_most m n h = elim (leb_tells m n) [
  | inl is ↦ is.1
  | inr is ↦ (let no = is.0 in absurd (cc))
]

each_at_most : {X : Type 0} (f : X → ℕ) (n : ℕ) (xs : List X) → list_all (λ x. nat_le (f x) n) xs ≡ true → All (λ x. f x ≤ n) xs
each_at_most f n [] h = All-nil (λ x. f x ≤ n)
each_at_most f n (x ∷ xs) h =
    let parts = and_parts (nat_le (f x) n) (list_all (λ y. nat_le (f y) n) xs) h in All-cons (λ y. f y ≤ n) x xs (at_most (f x) n parts.0) (each_at_most f n xs parts.1)

each_item_at_most : (n : ℕ) (ps : List RawProd) → list_all (λ (p : RawProd). list_all (λ (i : RawItem). nat_le (item_nodes i) n) p.items) ps ≡ true
    → All (λ (p : RawProd). All (λ (i : RawItem). item_nodes i ≤ n) p.items) ps
each_item_at_most n [] h = All-nil (λ (p : RawProd). All (λ (i : RawItem). item_nodes i ≤ n) p.items)
each_item_at_most n (p ∷ ps) h =
    let parts = and_parts (list_all (λ (i : RawItem). nat_le (item_nodes i) n) p.items) (list_all (λ (q : RawProd). list_all (λ (i : RawItem). nat_le (item_nodes i) n) q.items) ps) h in
    All-cons (λ (q : RawProd). All (λ (i : RawItem). item_nodes i ≤ n) q.items) p ps (each_at_most item_nodes n p.items parts.0) (each_item_at_most n ps parts.1)

few_nodes : list_all (λ (p : RawProd). list_all (λ (i : RawItem). nat_le (item_nodes i) 1000) p.items) lets.prods ≡ true
unfolding lets prods tree_prods root_prod root_items num_prod num_items var_prod var_items add_prod add_items add_pattern neg_prod neg_items neg_pattern let_prod let_items let_pattern bound empty_prod bind_prod bind_items found
few_nodes = simp (written_nodes-Int, written_nodes-One, written_nodes-Two, written_nodes-Op, written_nodes-If, written_nodes-Make) refl

few_attrs : list_all (λ (s : RawSort). nat_le (length s.attrs) 16) lets.sorts ≡ true
unfolding lets sorts prog_sort exp_sort env_sort
few_attrs = refl

few_kids : list_all (λ (p : RawProd). nat_le (length p.kids) 8) lets.prods ≡ true
unfolding lets prods tree_prods root_prod num_prod var_prod add_prod neg_prod let_prod empty_prod bind_prod
few_kids = refl

few_locals : list_all (λ (p : RawProd). nat_le (count_by is_declaration p.items) 16) lets.prods ≡ true
unfolding lets prods tree_prods root_prod root_items num_prod num_items var_prod var_items add_prod add_items add_pattern neg_prod neg_items neg_pattern let_prod let_items let_pattern empty_prod bind_prod bind_items
few_locals = refl

few_sorts : nat_le (length lets.sorts) 64 ≡ true
unfolding lets sorts
few_sorts = refl

few_prods : nat_le (length lets.prods) 256 ≡ true
unfolding lets prods tree_prods
few_prods = refl

pub lets_keep_limits : KeepsLimits lets
lets_keep_limits = record {
  sorts = at_most (length lets.sorts) 64 few_sorts;
  prods = at_most (length lets.prods) 256 few_prods;
  attrs = each_at_most (λ (s : RawSort). length s.attrs) 16 lets.sorts few_attrs;
  kids = each_at_most (λ (p : RawProd). length p.kids) 8 lets.prods few_kids;
  locals = each_at_most (λ (p : RawProd). count_by is_declaration p.items) 16 lets.prods few_locals;
  nodes = each_item_at_most 1000 lets.prods few_nodes;
}
