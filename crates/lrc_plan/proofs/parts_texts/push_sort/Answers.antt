use Rattle.std.proofs.Common.{◌≡◌, ℕ, ◌<◌, ◌++◌, List, [], length, get_or, slice_get, Some, sym, ap, ◌∙◌, append_assoc}
use Rattle.std.specs.Option.{option_map_or}
use Rattle.std.proofs.lemmas.Option.{slice_get-get_or}
use Rattle.lrc_base.specs.declared.grammar.Sort.{Sort}
use Rattle.lrc_grammar.specs.declared.grammar.Grammar.{Grammar}
use Rattle.lrc_plan.proofs.parts_texts.push_sort.Goals as goal

name_found : (sorts : List Sort) (i : ℕ) (x : Sort) → i < length sorts → x ≡ get_or sorts i x → x.name ≡ option_map_or (λ (found : Sort). found.name) (slice_get sorts i) []
name_found sorts i x there is = sym (ap (λ o. option_map_or (λ (found : Sort). found.name) o []) (slice_get-get_or sorts i x there ∙ ap Some (sym is)))

three_parts : (t a called b l one two three : List ℕ) → one ≡ t ++ a → a ≡ called → two ≡ one ++ b → three ≡ two ++ l → three ≡ t ++ (called ++ (b ++ l))
three_parts t a called b l one two three x y z w = rw (w, z, x, y) (simp append_assoc)

pub returns : goal.returns
returns c =
    let sorts : c.as_slice.result.now ≡ c.args.plan.now.grammar.sorts = c.as_slice.ensures ∙ ap (λ (g : Grammar). g.sorts) c.grammar.ensures in
    three_parts c.args.text.now.items _ _ _ _ c.extend_from_slice.new.self.items c.push_visits.new.text.items c.extend_from_slice-2.new.self.items
    c.in_ok-extend_from_slice.ensures.items (c.bytes.ensures.value ∙ ap (λ (x : Sort). x.name) (sym c.index-as_slice-sort.is) ∙ name_found c.args.plan.now.grammar.sorts c.args.sort c.index-as_slice-sort.result c.requires (c.index-as_slice-sort.is ∙ ap (λ (ss : List Sort). get_or ss c.args.sort c.index-as_slice-sort.result) sorts))
    c.in_ok-push_visits.ensures c.in_ok-extend_from_slice-2.ensures.items
