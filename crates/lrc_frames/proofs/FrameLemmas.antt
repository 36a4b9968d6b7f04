-- What a frame shows lasts while the store grows, and an item that is written at its number is shown besides.
use Rattle.std.proofs.Common.{◌≡◌, ◌≢◌, ℕ, ◌<◌, ◌≤◌, Bool, true, false, cond, List, [], ◌∷◌, ◌++◌, length, set, Contains, inl, inr, Some, slice_get, refl, sym, ap, ◌∙◌, subst, arith, length-set, get_or-set_same, get_or-set_other}
use Rattle.std.proofs.lemmas.Bool.{true≢false}
use Rattle.std.proofs.lemmas.Option.{same_Some, slice_get-get_or, slice_get_within}
use Rattle.std.proofs.lemmas.List.Elements.{Contains-append_cases}
use Rattle.lrc_meaning.specs.Tree.{Tree, node}
use Rattle.lrc_meaning.specs.Grammar.{Grammar}
use Rattle.lrc_order_meaning.specs.declared.Partition.{Partition}
use Rattle.lrc_order_meaning.proofs.MemberLemmas.{member_cases, no_member}
use Rattle.lrc_plan_meaning.specs.declared.Action.TheVariants as a
use Rattle.lrc_plan_meaning.specs.declared.Bound.{Bound}
use Rattle.lrc_plan_meaning.specs.declared.Bound.TheVariants as b
use Rattle.lrc_plan_meaning.specs.Items.{same_item}
use Rattle.lrc_plan_meaning.specs.Bindings.{items_of}
use Rattle.lrc_plan_meaning.proofs.ItemLemmas.{same_items, item_itself}
use Rattle.lrc_visit_meaning.specs.Values.{Datum, value, value_in, binding_in}
use Rattle.lrc_store.specs.Standing.{Standing}
use Rattle.lrc_store.specs.Words.{Keeps}
use Rattle.lrc_code.specs.Forms.{tree_cell}
use Rattle.lrc_call_meaning.specs.Forms.{binding_cell}
use Rattle.lrc_eval.specs.declared.values.Val.{Val}
use Rattle.lrc_eval.specs.declared.values.Val.TheVariants as v
use Rattle.lrc_eval.specs.Values.{IsMeant}
use Rattle.lrc_eval.proofs.GivenLemmas.{meant-lasts}
use Rattle.lrc_functions.specs.Numbers.{number}
use Rattle.lrc_functions.proofs.NumberLemmas.{told}
use Rattle.lrc_frames.specs.declared.body.Body.{Body}
use Rattle.lrc_frames.specs.Frames.{Shows, ShowsAt, Run, RunsAt, gaining, after}

-- ---- what lasts

shows_last : (s t : Standing) (shown : Val) (x : Bound) (d : Datum) → Keeps s t → Shows s shown x d → Shows t shown x d
shows_last s t shown (b.Value o) d keeps h = meant-lasts s t shown (value_in d) keeps h
shows_last s t (v.Ref handle) (b.Kid n i j) d keeps h = (keeps handle.0 (binding_cell (binding_in d)) h.0, h.1)
shows_last s t (v.Int n) (b.Kid m i j) d keeps h = absurd h
shows_last s t (v.Bool c) (b.Kid m i j) d keeps h = absurd h
shows_last s t v.Unset (b.Kid m i j) d keeps h = absurd h

shown_lasts : (s t : Standing) (frame : List Val) (n : ℕ) (x : Bound) (d : Datum) → Keeps s t → ShowsAt s frame n x d → ShowsAt t frame n x d
shown_lasts s t frame n x d keeps h =
    record { value = h.value; there = h.there; shows = shows_last s t h.value x d keeps h.shows }

pub runs_last : (g : Grammar) (parts : List Partition) (s t : Standing) (frame : List Val) (body : Body) (r : Run) → Keeps s t → RunsAt g parts s frame body r → RunsAt g parts t frame body r
runs_last g parts s t frame body r keeps h = record {
  there = h.there;
  tree = keeps body.tree.0 (tree_cell (node body.production r.kids)) h.tree;
  spelled = h.spelled;
  kinds = h.kinds;
  listed = h.listed;
  room = h.room;
  holds = λ x c. shown_lasts s t frame (number g.sorts parts r.production x) x (r.held x) keeps (h.holds x c);
}

-- ---- what is written

written_here : (frame : List Val) (n m : ℕ) (shown : Val) → n < length frame → n ≡ m → slice_get (set frame n shown) m ≡ Some shown
written_here frame n m shown within same =
    let size : length (set frame n shown) ≡ length frame = length-set frame n shown in
    let less : n < length (set frame n shown) = omega (arith, size, within) in
    ap (slice_get (set frame n shown)) (sym same)
    ∙ slice_get-get_or (set frame n shown) n shown less
    ∙ ap Some (get_or-set_same frame n shown shown within)

written_elsewhere : (frame : List Val) (n m : ℕ) (shown other : Val) → m ≢ n → slice_get frame m ≡ Some other → slice_get (set frame n shown) m ≡ Some other
written_elsewhere frame n m shown other apart there =
    let within : m < length frame = slice_get_within frame m other there in
    let size : length (set frame n shown) ≡ length frame = length-set frame n shown in
    let less : m < length (set frame n shown) = omega (arith, size, within) in
    slice_get-get_or (set frame n shown) m shown less
    ∙ ap Some (get_or-set_other frame n m shown shown apart)
    ∙ sym (slice_get-get_or frame m shown within)
    ∙ there

module _ (g : Grammar) (parts : List Partition) (s : Standing) (body : Body) (r : Run) where
  abbrev numbered : Bound → ℕ
  numbered = number g.sorts parts r.production

  abbrev Listed : Bound → Type 0
  Listed = Contains (items_of g.sorts parts r.production)

  -- two items that are listed have numbers of their own
  apart : (x y : Bound) → Listed x → Listed y → numbered y ≡ numbered x → y ≡ x
  apart x y one other same =
      same_Some y x
      (sym (told g.sorts parts r.production y other)
      ∙ ap (slice_get (items_of g.sorts parts r.production)) same
      ∙ told g.sorts parts r.production x one)

  pub within_frame : (frame : List Val) (x : Bound) → length (items_of g.sorts parts r.production) ≤ length frame → Listed x → numbered x < length frame
  within_frame frame x room there =
      let less = slice_get_within (items_of g.sorts parts r.production) (numbered x) x (told g.sorts parts r.production x there) in
      omega (arith, less, room)

  module _ (frame : List Val) (x : Bound) (d : Datum) (shown : Val) (there : Listed x) (shows : Shows s shown x d) where
    shown_more : RunsAt g parts s frame body r → (y : Bound) → Contains (r.available ++ x ∷ []) y
        → (e : Bool) → same_item x y ≡ e → ShowsAt s (set frame (numbered x) shown) (numbered y) y (cond e d (r.held y))
    shown_more h y c true e =
        let is : x ≡ y = same_items x y e in record {
          value = shown;
          there = written_here frame (numbered x) (numbered y) shown (within_frame frame x h.room there) (ap numbered is);
          shows = subst (λ z. Shows s shown z d) is shows;
        }
    shown_more h y c false e =
        let differ : x ≢ y = λ is. true≢false (sym (item_itself x) ∙ ap (same_item x) is ∙ e) in
        let before : Contains r.available y =
        elim (Contains-append_cases r.available (x ∷ []) y c) [
          | inl k ↦ k
          | inr k ↦ elim (member_cases x [] y k) [ inl is ↦ absurd (differ is) | inr none ↦ absurd (no_member y none) ]
        ] in
        let at = h.holds y before in record {
          value = at.value;
          there = written_elsewhere frame (numbered x) (numbered y) shown at.value (λ same. differ (sym (apart x y there (h.listed y before) same))) at.there;
          shows = at.shows;
        }

    -- an item is written at its number
    pub runs_more : RunsAt g parts s frame body r → RunsAt g parts s (set frame (numbered x) shown) body (gaining r (x ∷ []) (d ∷ []))
    runs_more h = record {
      there = h.there;
      tree = h.tree;
      spelled = h.spelled;
      kinds = h.kinds;
      listed = λ y c.
          elim (Contains-append_cases r.available (x ∷ []) y c) [
            | inl k ↦ h.listed y k
            | inr k ↦ elim (member_cases x [] y k) [ inl is ↦ subst Listed is there | inr none ↦ absurd (no_member y none) ]
          ];
      room = let size = length-set frame (numbered x) shown in let room = h.room in omega arith;
      holds = λ y c. shown_more h y c (same_item x y) refl;
    }

  -- the value of an occurrence is written
  pub runs_evaluated : (frame : List Val) (o : ℕ) (shown : Val) (t : Tree) → Listed (b.Value o) → IsMeant s shown t → RunsAt g parts s frame body r
      → RunsAt g parts s (set frame o shown) body (after g parts r (a.Eval o) (value t ∷ []))
  runs_evaluated frame o shown t there meant h = runs_more frame (b.Value o) (value t) shown there meant h
