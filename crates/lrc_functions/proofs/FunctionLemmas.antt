-- A function is told by its parts, and read off all functions by production and visit.
use Rattle.std.proofs.Common.{◌≡◌, ℕ, ◌+◌, ◌-◌, ◌<◌, ◌≤◌, List, length, map, get_or, slice_get, Some, sym, ap, ◌∙◌, refl, subst, arith}
use Rattle.std.specs.List.{range_with_len}
use Rattle.std.proofs.lemmas.List.{get_or-map, length-map, get_or_default}
use Rattle.std.proofs.lemmas.List.FromFn.{get_or-map-range_with_len, length-map-range_with_len}
use Rattle.lrc_base.specs.declared.grammar.Sort.{Sort}
use Rattle.lrc_base.specs.declared.grammar.Production.{Production}
use Rattle.lrc_order_meaning.specs.declared.Partition.{Partition}
use Rattle.lrc_plan_meaning.specs.Items.{visits_of}
use Rattle.lrc_functions.specs.declared.function.Operation.{Operation}
use Rattle.lrc_functions.specs.declared.function.Function.{Function}
use Rattle.lrc_functions.specs.Functions.{function_of, functions_of}

module _ {a b : List ℕ} {c d : List (List ℕ)} {e f : List Operation} {g h : List ℕ} {i j : List (List ℕ)} where
  pub same_function : a ≡ b → c ≡ d → e ≡ f → g ≡ h → i ≡ j
      → ◌≡◌ {A = Function} (record { inherited = a; earlier = c; operations = e; synthesised = g; later = i }) (record { inherited = b; earlier = d; operations = f; synthesised = h; later = j })
  same_function x y z u v =
      ap (λ k. record { inherited = k; earlier = c; operations = e; synthesised = g; later = i }) x
      ∙ ap (λ k. record { inherited = b; earlier = k; operations = e; synthesised = g; later = i }) y
      ∙ ap (λ k. record { inherited = b; earlier = d; operations = k; synthesised = g; later = i }) z
      ∙ ap (λ k. record { inherited = b; earlier = d; operations = f; synthesised = k; later = i }) u
      ∙ ap (λ k. record { inherited = b; earlier = d; operations = f; synthesised = h; later = k }) v

module _ (sorts : List Sort) (parts : List Partition) (p : Production) where
  pub visit_within : (functions : List Function) (v : ℕ) → functions ≡ functions_of sorts parts p → 1 ≤ v → v ≤ visits_of parts p.left → v - 1 < length functions
  visit_within functions v are one le =
      let count = length-map-range_with_len (function_of sorts parts p) 1 (visits_of parts p.left) in
      let same = ap length are in
      omega arith

  pub visit_read : (functions : List Function) (v : ℕ) (result : Function) → functions ≡ functions_of sorts parts p → 1 ≤ v → v ≤ visits_of parts p.left
      → result ≡ get_or functions (v - 1) result → result ≡ function_of sorts parts p v
  visit_read functions v result are one le is =
      is
      ∙ ap (λ (xs : List Function). get_or xs (v - 1) result) are
      ∙ get_or-map-range_with_len (function_of sorts parts p) 1 (visits_of parts p.left) (v - 1) v result (omega arith) (omega arith)

module _ (sorts : List Sort) (parts : List Partition) where
  pub production_read : (prods : List Production) (all : List (List Function)) (i : ℕ) (p : Production) (result : List Function) → slice_get prods i ≡ Some p → all ≡ map (functions_of sorts parts) prods
      → i < length prods → get_or prods i p ≡ p → result ≡ get_or all i result → result ≡ functions_of sorts parts p
  production_read prods all i p result at made there same is =
      is ∙ ap (λ (xs : List (List Function)). get_or xs i result) made ∙ get_or-map (functions_of sorts parts) prods i p result there ∙ ap (functions_of sorts parts) same
