-- Finals by handles are finals by trees: handles of one store are equal exactly where the trees are that they stand for.
use Rattle.std.proofs.Common.{◌≡◌, ◌<◌, ◌≤◌, ℕ, zero, suc, ◌+◌, Bool, true, false, cond, refl, sym, ◌∙◌, ap, subst, arith, length, get_or, eqb, eqb-true, eq-eqb}
use Rattle.std.proofs.Math.Seq.{drop-cons}
use Rattle.std.proofs.lemmas.Bool.{false≢true}
use Rattle.std.specs.Prelude.{List, [], ◌∷◌, ◌++◌, Option, Some, None, IfSome, IsTrue, map, drop, nat_eq, if◌then◌else◌}
use Rattle.lrc_meaning.specs.Tree.{Tree, same_tree}
use Rattle.lrc_meaning.specs.Text.{is_same_last, first_with}
use Rattle.lrc_store.specs.Cells.{CellTree}
use Rattle.lrc_store.specs.Standing.{Standing, Stands, IsSound, meant}
use Rattle.lrc_store.proofs.Known.{stands-meant}
use Rattle.lrc_eval.proofs.SameLemmas.{refs-same}
use Rattle.lrc_store.specs.declared.cells.Handle.{Handle}
use Rattle.lrc_code.specs.Forms.{tree_cell}
use Rattle.lrc_call_meaning.specs.Spelled.{IsSpelled}
use Rattle.lrc_run.specs.Playing.{IsLast}
use Rattle.lrc_threads.specs.Runs.{final_of, finals_of}
use Rattle.lrc_threads.specs.Halves.{AreKept}
use Rattle.lrc_threads.specs.Finals.{is_handle, first_handle, final_handle, final_handles}

-- ---- looking through the list

pub first-step : (sought : Handle) (n : ℕ) (last : Option Handle) (rest : List (Option Handle)) → is_handle sought last ≡ false → first_handle sought n (last ∷ rest) ≡ first_handle sought (n + 1) rest
first-step sought n last rest e = ap (λ (b : Bool). if b then n else first_handle sought (n + 1) rest) e

pub first-hit : (sought : Handle) (n : ℕ) (last : Option Handle) (rest : List (Option Handle)) → is_handle sought last ≡ true → first_handle sought n (last ∷ rest) ≡ n
first-hit sought n last rest e = ap (λ (b : Bool). if b then n else first_handle sought (n + 1) rest) e

pub at-place : (sought : Handle) (n i : ℕ) (lasts : List (Option Handle)) (d : Option Handle) → i < length lasts →
    first_handle sought n (drop i lasts) ≡ first_handle sought n (get_or lasts i d ∷ drop (suc i) lasts)
at-place sought n i lasts d small = ap (first_handle sought n) (drop-cons lasts i d small)

-- ---- handles and trees

module _ (s : Standing) (sound : IsSound s) where
  same-handle : (t u : Tree) (one other : Handle) → Stands s one.0 (tree_cell t) → Stands s other.0 (tree_cell u) → IsSpelled t → IsSpelled u → nat_eq one.0 other.0 ≡ same_tree t u
  same-handle t u one other h k p q =
      let meant_one = stands-meant s one.0 (tree_cell t) h in
      let meant_other = stands-meant s other.0 (tree_cell u) k in
      refs-same s one.0 other.0 t u (nat_eq one.0 other.0) h k p q (
        λ e. ap (meant s) (eqb-true one.0 other.0 e),
        λ e. eq-eqb one.0 other.0 (sound.injective one.0 other.0 (tree_cell u) (h ∙ ap (λ (c : CellTree). Some c) (sym meant_one ∙ (e ∙ meant_other))) k),
      )

  same-last : (t : Tree) (one : Handle) (last : Option Tree) (handle : Option Handle) → Stands s one.0 (tree_cell t) → IsSpelled t → IsLast s last handle → IfSome last IsSpelled → is_handle one handle ≡ is_same_last t last
  same-last t one None None h p k q = refl
  same-last t one None (Some other) h p k q = absurd k
  same-last t one (Some u) None h p k q = absurd k
  same-last t one (Some u) (Some other) h p k q = same-handle t u one other h k p q

  same-first : (t : Tree) (one : Handle) (n : ℕ) (lasts : List (Option Tree)) (handles : List (Option Handle)) → Stands s one.0 (tree_cell t) → IsSpelled t → AreKept s lasts handles →
      first_handle one n handles ≡ first_with t n lasts
  same-first t one n [] [] h p k = refl
  same-first t one n [] (handle ∷ handles) h p k = absurd k
  same-first t one n (last ∷ lasts) [] h p k = absurd k
  same-first t one n (last ∷ lasts) (handle ∷ handles) h p k =
      let test = same-last t one last handle h p k.0 k.1 in
      let rest = same-first t one (n + 1) lasts handles h p k.2 in
      λ i. if test i then n else rest i

  same-final : (last : Option Tree) (handle : Option Handle) (lasts : List (Option Tree)) (handles : List (Option Handle)) → IsLast s last handle → IfSome last IsSpelled → AreKept s lasts handles →
      final_handle handles handle ≡ final_of lasts last
  same-final None None lasts handles h p k = refl
  same-final None (Some one) lasts handles h p k = absurd h
  same-final (Some t) None lasts handles h p k = absurd h
  same-final (Some t) (Some one) lasts handles h p k = ap (λ (n : ℕ). Some n) (same-first t one 1 lasts handles h p k)

  each-final : (all : List (Option Tree)) (all_handles : List (Option Handle)) (lasts : List (Option Tree)) (handles : List (Option Handle)) → AreKept s all all_handles → AreKept s lasts handles →
      map (final_handle all_handles) handles ≡ map (final_of all) lasts
  each-final all all_handles [] [] h k = refl
  each-final all all_handles [] (handle ∷ handles) h k = absurd k
  each-final all all_handles (last ∷ lasts) [] h k = absurd k
  each-final all all_handles (last ∷ lasts) (handle ∷ handles) h k =
      let first = same-final last handle all all_handles k.0 k.1 h in
      let rest = each-final all all_handles lasts handles h k.2 in
      λ i. first i ∷ rest i

  pub same-finals : (lasts : List (Option Tree)) (handles : List (Option Handle)) → AreKept s lasts handles → final_handles handles ≡ finals_of lasts
  same-finals lasts handles k = each-final lasts handles lasts handles k k
