-- The cells that the root's visit meets are those of the demand, where the tree has an attribution and where it has none.
use Rattle.std.proofs.Common.{◌≡◌, ℕ, ◌≤◌, IsTrue, List, Contains, Option, Some, None, inl, inr, refl, sym, ◌∙◌}
use Rattle.std.proofs.lemmas.Option.{none-some}
use Rattle.lrc_base.specs.declared.grammar.Kind.TheVariants as k
use Rattle.lrc_meaning.specs.Tree.{Tree, fits}
use Rattle.lrc_meaning.specs.Grammar.{Grammar, attrs_of_sort}
use Rattle.lrc_meaning.specs.Attribution.{Decorated, attributes_of, IsAttribution, height, synthesised}
use Rattle.lrc_order_meaning.specs.Ordered.{Partitions, HasOrder}
use Rattle.lrc_visit_meaning.specs.Values.{Result, root_call}
use Rattle.lrc_visit_meaning.specs.Visits.{plain_visit}
use Rattle.lrc_visit_meaning.specs.Demand.{Met, demand, reach}
use Rattle.lrc_store.specs.Cells.{CellTree}
use Rattle.lrc_laws.proofs.SoundLemmas.{sound_plan}
use Rattle.lrc_laws.proofs.RootLemmas.{attributes_given, given_attributes, demand_is_reach}
use Rattle.lrc_call_meaning.specs.Reached.{cells_of, IsAttributed, IsUnattributed, IsDemand}
use Rattle.lrc_cell_laws.proofs.ClosedLemmas.{met_parts, of_met}

-- what is among what was met has its cells there
pub cells_within : (ms ns : List Met) → ((m : Met) → Contains ms m → Contains ns m) → (x : CellTree) → Contains (cells_of ms) x → Contains (cells_of ns) x
cells_within ms ns h x c = let of = of_met ms x c in met_parts ns of.0 x (h of.0 of.1) of.2

module _ (g : Grammar) (found : Partitions) (order : HasOrder g found) (limit : ℕ) (t : Tree) (fit : IsTrue (fits g.prods t (k.Sort g.start))) where
  abbrev reached : List Met
  reached = reach g found.sorts limit (root_call t)

  with_attribution : (d : Decorated) → IsAttribution g t d → height d ≤ limit → IsAttributed g found.sorts limit t (cells_of reached)
  with_attribution d is low = record {
    attribution = d;
    is_attribution = is;
    within = low;
    same = λ cell. (
      cells_within reached (demand g found.sorts d) (λ m. (demand_is_reach g found (sound_plan g found order) limit t d m fit is low).1) cell,
      cells_within (demand g found.sorts d) reached (λ m. (demand_is_reach g found (sound_plan g found order) limit t d m fit is low).0) cell,
    );
  }

  with_result : (r : Result) → plain_visit g found.sorts limit (root_call t) ≡ Some r → IsAttributed g found.sorts limit t (cells_of reached)
  with_result r e =
      let has = given_attributes g found (sound_plan g found order) limit t r.synthesised fit (record { result = r; is_result = e; values = refl }) in
      with_attribution has.attribution has.is_attribution has.within

  without_result : plain_visit g found.sorts limit (root_call t) ≡ None → IsUnattributed g found.sorts limit t (cells_of reached)
  without_result e = record {
    none = λ d is low.
        let values = synthesised (attrs_of_sort g.sorts g.start) (attributes_of d) in
        let gives = attributes_given g found (sound_plan g found order) limit t values (record { fitting = fit; attribution = d; is_attribution = is; within = low; values = refl }) in
        absurd (none-some gives.result (sym e ∙ gives.is_result));
    same = λ cell. (λ c. c, λ c. c);
  }

  pub demand_is_cells : IsDemand g found.sorts limit t (cells_of reached)
  demand_is_cells = over (plain_visit g found.sorts limit (root_call t)) refl
    where
      over : (o : Option Result) → plain_visit g found.sorts limit (root_call t) ≡ o → IsDemand g found.sorts limit t (cells_of reached)
      over None e = inr (without_result e)
      over (Some r) e = inl (with_result r e)
