-- Each step keeps the rule.
use Rattle.std.proofs.Math.ListN.{get_or-append, length-replicate}
use Rattle.std.proofs.Math.Seq.{get_or-append_seam}
use Rattle.std.proofs.Common.{◌≡◌, ◌≢◌, ◌⊎◌, inl, inr, ⊎_elim, ℕ, suc, zero, ◌+◌, ◌-◌, ◌<◌, ◌≤◌, true, false, List, [], ◌∷◌, ◌++◌, length, get_or, set, take, replicate, eqb, refl, sym, ◌∙◌, ap, subst, arith, length-append, length-take, length-set, get_or-take, eq-eqb, ne_eqb}
use Rattle.std.proofs.lemmas.Bool.{false≢true}
use mathlib.Core.Logic.{dite}
use mathlib.Core.Option.{some, none, some-injective, some-ne-none}
use native.Mathlib.Decide.{ℕ_discrete, dec_le, dec_lt}
use lib.ListN.{get_elem?}
use lib.Seq.{set-get_or}
use prog.Atomic.{either}
use Rattle.atomic_table.specs.Table.{State, Me, step, keeps, stepped, opening, Allows, Splits, Joins}
use Rattle.atomic_table.proofs.Lists.{at_set, set_else}
use Rattle.lrc_store.specs.Cells.{CellTree}
use Rattle.lrc_rule.specs.declared.layout.Content.{Content}
use Rattle.lrc_rule.specs.declared.layout.Layout.{Layout}
use Rattle.lrc_rule.specs.Layout.{word_count, bucket_at, part_at, memo_at, IsBucketOrPart}
use Rattle.lrc_rule.specs.Home.{place_on}
use Rattle.lrc_rule.specs.Memo.{Relation, Reach, IsMemoPair, IsMemoWord, IsMemo, MemoStep, memo_load, memo_store, memo_clear}
use Rattle.lrc_rule.specs.Rows.{part, content, IsPublished, depth, Fits, IsAbsent, IsPassed, IsTable, Grows}
use Rattle.lrc_rule.specs.Views.{View, Owned, now, next, AllGrow, Knows, IsRange, Owns, Rule, spent, opening_view}
use Rattle.lrc_rule.specs.Steps.{IsCurrent, Follows, Notes, Stores, IsDraftOf, IsMade, Publishes, Memoes, loaded, sought, stored, exchanged, recalled, remembered, cleared, noting, left_of, right_of, both}
use Rattle.lrc_rule.proofs.Growth.{Grows-refl, AllGrow-trans, AllGrow-append, AreMade-grown, AreMade-append, Fits-grown, IsPassed-grown, IsMemoWord-grown, IsMemo-grown}
use Rattle.lrc_rule.proofs.Unique.{IsAbsent-from_path, fitting_cell_unique}
use Rattle.lrc_rule.proofs.Places.{same_part, same_memo}
use Rattle.lrc_rule.proofs.Extends.{store-part_same, store-part_other, store-published, store-grows, store-table, store-memo, memo-part, memo-published, memo-grows, memo-table, memo-words, publish-memo, publish-grows, publish-part, publish-published, publish-stands, publish-table}

-- what other seats know and own stays, where only rows of one seat change
knows_still : (l : Layout) (words after : List ℕ) (owner : ℕ → ℕ) (id seat : ℕ) (v : View) → Grows l words after
    → ((row k : ℕ) → row < l.rows → k < 4 → (owner row ≡ id → ⊥) → part l after row k ≡ part l words row k) → seat ≢ id → Knows l words v → Owns l words owner seat v.owned → Knows l after v
knows_still l words after owner id seat v g parts other k o = record {
  layout = k.layout;
  past = AllGrow-trans l v.learned.past words after k.past g;
  room = k.room;
  four = k.four;
  draft = λ j small. let room = k.room (omega (arith, small)) in let four = k.four in
      parts (next v) j (let range = o.range in omega (arith, range.within, room)) (omega (arith, small, four)) (λ e. other (sym (o.own (next v) (omega arith) (omega (arith, room))) ∙ e)) ∙ k.draft j small;
}

owns_still : (l : Layout) (words after : List ℕ) (owner : ℕ → ℕ) (id seat : ℕ) (o : Owned) → Grows l words after
    → ((row : ℕ) → (owner row ≡ id → ⊥) → IsPublished l after row → IsPublished l words row) → seat ≢ id → Owns l words owner seat o → Owns l after owner seat o
owns_still l words after owner id seat o g published other w = record {
  range = record { within = w.range.within; count = w.range.count; made = AreMade-grown l words after g o.from o.made w.range.made };
  own = w.own;
  unmade = λ row from to h. w.unmade row from to (published row (λ e. other (sym (w.own row (omega (arith, from)) to) ∙ e)) h);
}

-- the view after a step
abbrev moved : View → List ℕ → List ℕ → List CellTree → List CellTree → View
moved v words draft notes made = record v { learned = record { past = words ∷ []; draft = draft; notes = notes; memo_steps = v.learned.memo_steps }; owned = record v.owned { made = made } }

follow : (v : View) (words draft : List ℕ) (notes made : List CellTree) → v.live ≡ true → AllGrow v.layout v.learned.past words → IsTable v.layout words
    → IsRange v.layout words (record v.owned { made = made }) → Follows v (moved v words draft notes made)
follow v words draft notes made live grown table range = record {
  layout = refl;
  grown = grown;
  current = record { live = live; past = refl; table = table; range = range };
  from = refl;
  quota = refl;
  memo_steps = refl;
}

only_past : (l : Layout) (v : View) (words : List ℕ) → v.learned.past ≡ now v ∷ [] → AllGrow l v.learned.past words → Grows l (now v) words
only_past l v words e h = let g = subst (λ past. AllGrow l past words) e h in g.0

-- the notes after a bucket was loaded
abbrev notes_after : List CellTree → CellTree → ℕ → List CellTree
notes_after notes cell zero = notes ++ cell ∷ []
notes_after notes cell (suc found) = notes

noted : (v : View) (words : List ℕ) (cell : CellTree) (found : ℕ) → (found ≡ 0 → IsAbsent v.layout words cell)
    → Notes v (moved v words v.learned.draft (notes_after v.learned.notes cell found) v.owned.made) cell found
noted v words cell zero absent = (absent refl, refl)
noted v words cell (suc found) absent = refl

same_words : (draft : List ℕ) (c d : Content) (n m : ℕ) → draft ≡ c.tag ∷ c.left ∷ c.right ∷ n ∷ [] → draft ≡ d.tag ∷ d.left ∷ d.right ∷ m ∷ [] → c ≡ d
same_words draft c d n m h k =
    let e = sym h ∙ k in
    (λ i. record { tag = ap (λ (xs : List ℕ). get_or xs 0 0) e i; left = ap (λ (xs : List ℕ). get_or xs 1 0) e i; right = ap (λ (xs : List ℕ). get_or xs 2 0) e i })

-- a draft is a row for one cell
pub drafted_once : (l : Layout) (words draft : List ℕ) (cell other : CellTree) → IsDraftOf l words draft cell → IsDraftOf l words draft other → cell ≡ other
drafted_once l words draft cell other h k =
    fitting_cell_unique l words cell other h.content h.fits (subst (Fits l words other) (sym (same_words draft h.content k.content _ _ h.whole k.whole)) k.fits)

module _ {S : Type 0} {allows : Relation} {reach : Reach} (l : Layout) where
  -- a state in which one seat has a new view, and only rows of that seat changed
  rule_with : (s : State S View) (r : Rule allows reach l s) (id : ℕ) (w : View) (words : List ℕ) → IsTable l words → IsMemo allows reach l words → Grows l s.words words
      → ((row k : ℕ) → row < l.rows → k < 4 → (r.owner row ≡ id → ⊥) → part l words row k ≡ part l s.words row k)
      → ((row : ℕ) → (r.owner row ≡ id → ⊥) → IsPublished l words row → IsPublished l s.words row)
      → Knows l words w → Owns l words r.owner id w.owned
      → Rule allows reach l (record { words = words; homes = s.homes; views = set s.views id w })
  rule_with s r id w words table memo_words g parts published knows owns = record {
    table = table;
    memo = memo_words;
    owner = r.owner;
    knows = λ seat v at live. ⊎_elim (λ (t : (seat ≡ id) × (w ≡ v)). subst (Knows l words) t.1 knows)
        (λ (t : (seat ≢ id) × (get_elem? s.views seat ≡ some v)). knows_still l s.words words r.owner id seat v g parts t.0 (r.knows seat v t.1 live) (r.owns seat v t.1 live)) (at_set s.views id seat w v at);
    owns = λ seat v at live. ⊎_elim (λ (t : (seat ≡ id) × (w ≡ v)). subst (λ (x : ℕ × View). Owns l words r.owner x.0 x.1.owned) (λ i. (sym t.0 i, t.1 i)) owns)
        (λ (t : (seat ≢ id) × (get_elem? s.views seat ≡ some v)). owns_still l s.words words r.owner id seat v.owned g published t.0 (r.owns seat v t.1 live)) (at_set s.views id seat w v at);
  }

  -- a step that changes no word
  unmoved : (s : State S View) (r : Rule allows reach l s) (i id : ℕ) (v : View) (notes : List CellTree) (cs : List (ℕ × S)) → get_elem? s.views id ≡ some v → v.live ≡ true
      → Rule allows reach l (stepped s i (get_or s.words i 0) id cs (moved v s.words v.learned.draft notes v.owned.made) keeps)
  unmoved s r i id v notes cs at live =
      let k = r.knows id v at live in
      let w = moved v s.words v.learned.draft notes v.owned.made in
      subst (λ (ws : List ℕ). Rule allows reach l (record { words = ws; homes = s.homes; views = set s.views id w })) (sym (set-get_or s.words i 0))
      (rule_with s r id w s.words r.table r.memo (Grows-refl l s.words) (λ _ _ _ _ _. refl) (λ _ _ h. h)
      (record { layout = k.layout; past = (Grows-refl l s.words, tt); room = k.room; four = k.four; draft = k.draft }) (r.owns id v at live))

  -- a step on a memo word that changes no word
  unmoved_noting : (s : State S View) (r : Rule allows reach l s) (i id : ℕ) (v : View) (entry : MemoStep) (cs : List (ℕ × S)) → get_elem? s.views id ≡ some v → v.live ≡ true
      → Rule allows reach l (stepped s i (get_or s.words i 0) id cs (moved (noting v entry) s.words v.learned.draft v.learned.notes v.owned.made) keeps)
  unmoved_noting s r i id v entry cs at live =
      let k = r.knows id v at live in
      let w = moved (noting v entry) s.words v.learned.draft v.learned.notes v.owned.made in
      subst (λ (ws : List ℕ). Rule allows reach l (record { words = ws; homes = s.homes; views = set s.views id w })) (sym (set-get_or s.words i 0))
      (rule_with s r id w s.words r.table r.memo (Grows-refl l s.words) (λ _ _ _ _ _. refl) (λ _ _ h. h)
      (record { layout = k.layout; past = (Grows-refl l s.words, tt); room = k.room; four = k.four; draft = k.draft }) (r.owns id v at live))

  -- a pass's layout is that of the rule
  at_layout : (slots id i : ℕ) (me : Me S View) (f : ℕ → ℕ) (then : ℕ → Me S View → Type 0) → me.0.live ≡ true → Allows (Rule allows reach me.0.layout) slots id me i f then → Allows (Rule allows reach l) slots id me i f then
  at_layout slots id i me f then live may s r h at small =
      let e = (r.knows id me.0 at live).layout in
      let a = may s (subst (λ m. Rule allows reach m s) (sym e) r) h at small in
      (a.0, a.1, a.2, subst (λ m. Rule allows reach m (stepped s i (f (get_or s.words i 0)) id me.1 a.0 a.1)) e a.3, a.4)

module _ {S : Type 0} (slots id : ℕ) (me : Me S View) where
  abbrev v : View
  v = me.0

  drafted : (ws after draft : List ℕ) (row k value : ℕ) → k ≤ length draft → ((j : ℕ) → j < length draft → part v.layout ws row j ≡ get_or draft j 0) → part v.layout after row k ≡ value
      → ((j : ℕ) → j < k → part v.layout after row j ≡ part v.layout ws row j) → (j : ℕ) → j < length (take k draft ++ value ∷ []) → part v.layout after row j ≡ get_or (take k draft ++ value ∷ []) j 0
  drafted ws after draft row k value few before new old j small =
      let kept : length (take k draft) ≡ k = (let e = length-take k draft in omega (arith, e, few)) in
      let long : j < suc k = (let e = length-append (take k draft) (value ∷ []) in omega (arith, e, kept, small)) in
      dite (dec_lt j k)
      (λ less. old j less ∙ (before j (omega (arith, less, few)) ∙ sym (get_or-append (take k draft) (value ∷ []) 0 j (omega (arith, kept, less)) ∙ get_or-take k draft j 0 less)))
      (λ more. let e : j ≡ k = omega (arith, more, long) in
      ap (part v.layout after row) e ∙ (new ∙ sym (ap (λ n. get_or (take k draft ++ value ∷ []) n 0) (e ∙ sym kept) ∙ get_or-append_seam (take k draft) value [] 0)))

  lost : (i : ℕ) (ws : List ℕ) (found : ℕ) → found ≢ 0 → found ≡ get_or ws i 0 → Publishes v (moved v ws v.learned.draft v.learned.notes v.owned.made) i found
  lost i ws zero n e = absurd (n refl)
  lost i ws (suc found) n e = (e, refl, refl)

  module _ {allows : Relation} {reach : Reach} where
    load_own : (i : ℕ) → v.live ≡ true → IsBucketOrPart v.layout i → Allows (Rule allows reach v.layout) slots id me i (λ n. n) (loaded (step slots i 0 0 none) me)
    load_own i live is s r _ at _ =
        let k = r.knows id v at live in let o = r.owns id v at live in (
          moved v s.words v.learned.draft v.learned.notes v.owned.made,
          keeps,
          tt,
          unmoved v.layout s r i id v v.learned.notes me.1 at live,
          (is, refl, record { follows = follow v s.words v.learned.draft v.learned.notes v.owned.made live k.past r.table o.range; found = refl; draft = refl; made = refl }, refl),
        )

    pub loads : (l : Layout) (i : ℕ) → v.live ≡ true → IsBucketOrPart v.layout i → Allows (Rule allows reach l) slots id me i (λ n. n) (loaded (step slots i 0 0 none) me)
    loads l i live is = at_layout l slots id i me (λ n. n) (loaded (step slots i 0 0 none) me) live (load_own i live is)

    seek_own : (cell : CellTree) (c : Content) (steps : ℕ) → IsCurrent v → place_on v.layout c steps < v.layout.buckets → Fits v.layout (now v) cell c → IsPassed v.layout (now v) c steps
        → Allows (Rule allows reach v.layout) slots id me (bucket_at v.layout (place_on v.layout c steps)) (λ n. n) (sought cell (step slots (bucket_at v.layout (place_on v.layout c steps)) 0 0 none) me)
    seek_own cell c steps current inside fits passed s r _ at _ =
        let i = bucket_at v.layout (place_on v.layout c steps) in
        let live = current.live in
        let k = r.knows id v at live in let o = r.owns id v at live in
        let g = only_past v.layout v s.words current.past k.past in
        let notes = notes_after v.learned.notes cell (get_or s.words i 0) in (
          moved v s.words v.learned.draft notes v.owned.made,
          keeps,
          tt,
          unmoved v.layout s r i id v notes me.1 at live,
          (
            (place_on v.layout c steps, inside, refl),
            refl,
            record { follows = follow v s.words v.learned.draft notes v.owned.made live k.past r.table o.range; found = refl; draft = refl; made = refl },
            noted v s.words cell (get_or s.words i 0)
                (λ e. IsAbsent-from_path v.layout s.words r.table cell c steps (Fits-grown v.layout (now v) s.words g cell c fits) (IsPassed-grown v.layout (now v) s.words g c steps passed) e),
          ),
        )

    pub seeks : (l : Layout) (i : ℕ) (cell : CellTree) (c : Content) (steps : ℕ) → IsCurrent v → i ≡ bucket_at v.layout (place_on v.layout c steps) → place_on v.layout c steps < v.layout.buckets → Fits v.layout (now v) cell c → IsPassed v.layout (now v) c steps
        → Allows (Rule allows reach l) slots id me i (λ n. n) (sought cell (step slots i 0 0 none) me)
    seeks l i cell c steps current at inside fits passed = at_layout l slots id i me (λ n. n) (sought cell (step slots i 0 0 none) me) current.live
        (subst (λ (j : ℕ). Allows (Rule allows reach v.layout) slots id me j (λ n. n) (sought cell (step slots j 0 0 none) me)) (sym at) (seek_own cell c steps current inside fits passed))

    store_own : (k value : ℕ) → IsCurrent v → k < 4 → k ≤ length v.learned.draft → length v.owned.made < v.owned.quota
        → Allows (Rule allows reach v.layout) slots id me (part_at v.layout (next v) k) (λ _. value) (λ _. stored (step slots (part_at v.layout (next v) k) value 0 none) me value)
    store_own k value current small few room s r _ at _ =
        let i = part_at v.layout (next v) k in
        let live = current.live in
        let t = r.table in
        let n = r.knows id v at live in let o = r.owns id v at live in
        let range = o.range in
        let draft = take k v.learned.draft ++ value ∷ [] in
        let after = set s.words i value in
        let there : next v < v.layout.rows = omega (arith, range.within, room) in
        let mine = o.own (next v) (omega arith) (omega (arith, room)) in
        let free = o.unmade (next v) (omega arith) (omega (arith, room)) in
        let g = store-grows v.layout s.words t (next v) k value small there free in
        let table = store-table v.layout s.words t (next v) k value small there free in
        let made = AreMade-grown v.layout s.words after g v.owned.from v.owned.made range.made in
        let long : length draft ≡ suc k = length-append (take k v.learned.draft) (value ∷ []) ∙ (let e = length-take k v.learned.draft in omega (arith, e, few)) in
        let w = moved v after draft v.learned.notes v.owned.made in (
          w,
          keeps,
          tt,
          rule_with v.layout s r id w after table (IsMemo-grown allows reach v.layout s.words after g (store-memo v.layout s.words t (next v) k value small there free) r.memo) g
              (λ row j _ less other. store-part_other v.layout s.words t (next v) k value small there free row j less (λ e _. other (subst (λ x. r.owner x ≡ id) e mine)))
              (λ row other h. store-published v.layout s.words t (next v) k value small there free row h)
              (record {
                layout = refl;
                past = (Grows-refl v.layout after, tt);
                room = λ _. room;
                four = omega (arith, long, small);
                draft = drafted s.words after v.learned.draft (next v) k value few n.draft (store-part_same v.layout s.words t (next v) k value small there free)
                    (λ j less. store-part_other v.layout s.words t (next v) k value small there free (next v) j (omega (arith, less, small)) (λ _ e. omega (arith, e, less)));
              })
              (record {
                range = record { within = range.within; count = range.count; made = made };
                own = o.own;
                unmade = λ row from to h. o.unmade row from to (store-published v.layout s.words t (next v) k value small there free row h);
              }),
          (
            refl,
            λ j less e. let same = (same_part v.layout (next v) k (next v) j small less e).1 in subst (λ m. Stores v w m value) same (record {
              follows = follow v after draft v.learned.notes v.owned.made live (AllGrow-trans v.layout v.learned.past s.words after n.past g) table (record { within = range.within; count = range.count; made = made });
              draft = refl;
              made = refl;
              notes = refl;
            }),
          ),
        )

    pub stores : (l : Layout) (i k value : ℕ) → IsCurrent v → i ≡ part_at v.layout (next v) k → k < 4 → k ≤ length v.learned.draft → length v.owned.made < v.owned.quota
        → Allows (Rule allows reach l) slots id me i (λ _. value) (λ _. stored (step slots i value 0 none) me value)
    stores l i k value current at small few room = at_layout l slots id i me (λ _. value) (λ _. stored (step slots i value 0 none) me value) current.live
        (subst (λ (j : ℕ). Allows (Rule allows reach v.layout) slots id me j (λ _. value) (λ _. stored (step slots j value 0 none) me value)) (sym at) (store_own k value current small few room))

    publish_own : (cell : CellTree) (steps : ℕ) → IsCurrent v → (d : IsDraftOf v.layout (now v) v.learned.draft cell) → steps < v.layout.buckets → place_on v.layout d.content steps < v.layout.buckets
        → IsPassed v.layout (now v) d.content steps → length v.owned.made < v.owned.quota
        → Allows (Rule allows reach v.layout) slots id me (bucket_at v.layout (place_on v.layout d.content steps)) (λ n. either (eqb n 0) (suc (next v)) n)
        (exchanged (step slots (bucket_at v.layout (place_on v.layout d.content steps)) 0 (suc (next v)) none) me)
    publish_own cell steps current d few inside passed room s r _ at _ =
        let i = bucket_at v.layout (place_on v.layout d.content steps) in
        let x : ℕ = get_or s.words i 0 in
        let live = current.live in
        let t = r.table in
        let n = r.knows id v at live in let o = r.owns id v at live in
        let range = o.range in
        let g = only_past v.layout v s.words current.past n.past in
        let there : next v < v.layout.rows = omega (arith, range.within, room) in
        let mine = o.own (next v) (omega arith) (omega (arith, room)) in
        let free = o.unmade (next v) (omega arith) (omega (arith, room)) in
        let fits = Fits-grown v.layout (now v) s.words g cell d.content d.fits in
        let past = IsPassed-grown v.layout (now v) s.words g d.content steps passed in
        let four = d.whole in
        let written : (j : ℕ) → j < 4 → part v.layout s.words (next v) j ≡ get_or (d.content.tag ∷ d.content.left ∷ d.content.right ∷ depth cell ∷ []) j 0
        = λ j less. n.draft j (let e = ap (λ (xs : List ℕ). length xs) four in omega (arith, e, less)) ∙ ap (λ (xs : List ℕ). get_or xs j 0) four in
        let same : content v.layout s.words (next v) ≡ d.content = (λ j. record { tag = written 0 (omega arith) j; left = written 1 (omega arith) j; right = written 2 (omega arith) j }) in
        dite (ℕ_discrete x 0)
        (λ hit.
        let after = set s.words i (suc (next v)) in
        let made = v.owned.made ++ cell ∷ [] in
        let grown = publish-grows v.layout s.words t (next v) steps cell d.content same there free few hit past fits (written 3 (omega arith)) inside in
        let table = publish-table v.layout s.words t (next v) steps cell d.content same there free few hit past fits (written 3 (omega arith)) inside in
        let stands = publish-stands v.layout s.words t (next v) steps cell d.content same there free few hit past fits (written 3 (omega arith)) inside in
        let published : (row : ℕ) → IsPublished v.layout after row → (row ≡ next v) ⊎ IsPublished v.layout s.words row
        = publish-published v.layout s.words t (next v) steps cell d.content same there free few hit past fits (written 3 (omega arith)) inside in
        let long : length made ≡ suc (length v.owned.made) = (let e = length-append v.owned.made (cell ∷ []) in omega (arith, e)) in
        let in_range : IsRange v.layout after (record v.owned { made = made }) = record {
          within = range.within;
          count = omega (arith, long, room);
          made = AreMade-append v.layout after v.owned.from v.owned.made cell (AreMade-grown v.layout s.words after grown v.owned.from v.owned.made range.made) stands;
        } in
        let w = moved v after [] v.learned.notes made in (
          w,
          keeps,
          tt,
          subst (λ b. Rule allows reach v.layout (stepped s i (either b (suc (next v)) x) id me.1 w keeps)) (sym (eq-eqb x 0 hit))
              (rule_with v.layout s r id w after table
              (IsMemo-grown allows reach v.layout s.words after grown (λ place _. publish-memo v.layout s.words t (next v) steps cell d.content same there free few hit past fits (written 3 (omega arith)) inside place) r.memo) grown
              (λ row j _ less _. publish-part v.layout s.words t (next v) steps cell d.content same there free few hit past fits (written 3 (omega arith)) inside row j)
              (λ row other h. elim (published row h) [ inl e ↦ absurd (other (ap r.owner e ∙ mine)) | inr p ↦ p ])
              (record { layout = refl; past = (Grows-refl v.layout after, tt); room = λ none_drafted. absurd (omega (arith, none_drafted)); four = omega arith; draft = λ j none_drafted. absurd (omega (arith, none_drafted)) })
              (record {
                range = in_range;
                own = o.own;
                unmade = λ row from to h. elim (published row h) [
                  | inl e ↦ absurd (omega (arith, e, from, long))
                  | inr p ↦ o.unmade row (omega (arith, from, long)) to p
                ];
              })),
          (
            (place_on v.layout d.content steps, inside, refl),
            refl,
            record {
              follows = follow v after [] v.learned.notes made live (AllGrow-trans v.layout v.learned.past s.words after n.past grown) table in_range;
              notes = refl;
              publishes = subst (λ m. Publishes v w i m) (sym hit) (λ other drafts.
                  subst (IsMade v w) (drafted_once v.layout (now v) v.learned.draft cell other d drafts) (record { stands = stands; made = refl; draft = refl }));
            },
          ),
        ))
        (λ miss. (
          moved v s.words v.learned.draft v.learned.notes v.owned.made,
          keeps,
          tt,
          subst (λ b. Rule allows reach v.layout (stepped s i (either b (suc (next v)) x) id me.1 (moved v s.words v.learned.draft v.learned.notes v.owned.made) keeps)) (sym (ne_eqb x 0 miss))
              (unmoved v.layout s r i id v v.learned.notes me.1 at live),
          (
            (place_on v.layout d.content steps, inside, refl),
            refl,
            record { follows = follow v s.words v.learned.draft v.learned.notes v.owned.made live n.past t range; notes = refl; publishes = lost i s.words x miss refl },
          ),
        ))

    pub publishes : (l : Layout) (i new : ℕ) (cell : CellTree) (steps : ℕ) → IsCurrent v → (d : IsDraftOf v.layout (now v) v.learned.draft cell) → i ≡ bucket_at v.layout (place_on v.layout d.content steps) → steps < v.layout.buckets
        → place_on v.layout d.content steps < v.layout.buckets → IsPassed v.layout (now v) d.content steps → length v.owned.made < v.owned.quota → new ≡ suc (next v)
        → Allows (Rule allows reach l) slots id me i (λ n. either (eqb n 0) new n) (exchanged (step slots i 0 new none) me)
    publishes l i new cell steps current d at few inside passed room named = at_layout l slots id i me (λ n. either (eqb n 0) new n) (exchanged (step slots i 0 new none) me) current.live
        (subst (λ (x : ℕ × ℕ). Allows (Rule allows reach v.layout) slots id me x.0 (λ n. either (eqb n 0) x.1 n) (exchanged (step slots x.0 0 x.1 none) me)) (λ j. (sym at j, sym named j))
        (publish_own cell steps current d few inside passed room))

-- ---- memo words

-- the view after a step on a memo word
abbrev noted_view : View → MemoStep → List ℕ → View
noted_view v entry words = moved (noting v entry) words v.learned.draft v.learned.notes v.owned.made

memoes : (v : View) (entry : MemoStep) (words : List ℕ) → v.live ≡ true → AllGrow v.layout v.learned.past words → IsTable v.layout words → IsRange v.layout words v.owned → Memoes v (noted_view v entry words) entry
memoes v entry words live grown table range = record {
  follows = follow (noting v entry) words v.learned.draft v.learned.notes v.owned.made live grown table range;
  draft = refl;
  notes = refl;
  made = refl;
}

module _ {S : Type 0} {allows : Relation} {reach : Reach} (slots id : ℕ) (me : Me S View) where
  memo_load_own : (place : ℕ) → me.0.live ≡ true → place < me.0.layout.memo
      → Allows (Rule allows reach me.0.layout) slots id me (memo_at me.0.layout place) (λ n. n) (recalled allows reach (step slots (memo_at me.0.layout place) 0 0 none) me)
  memo_load_own place live small s r _ at _ =
      let v = me.0 in
      let i = memo_at v.layout place in
      let found : ℕ = get_or s.words i 0 in
      let entry = memo_load place found in (
        noted_view v entry s.words,
        keeps,
        tt,
        unmoved_noting v.layout s r i id v entry me.1 at live,
        (
          refl,
          r.memo place small,
          λ other e. subst (λ p. Memoes v (noted_view v entry s.words) (memo_load p found)) (same_memo v.layout place other e)
              (memoes v entry s.words live (r.knows id v at live).past r.table (r.owns id v at live).range),
        ),
      )

  pub memo_loads : (l : Layout) (i place : ℕ) → me.0.live ≡ true → i ≡ memo_at me.0.layout place → place < me.0.layout.memo
      → Allows (Rule allows reach l) slots id me i (λ n. n) (recalled allows reach (step slots i 0 0 none) me)
  memo_loads l i place live at small = at_layout l slots id i me (λ n. n) (recalled allows reach (step slots i 0 0 none) me) live
      (subst (λ (j : ℕ). Allows (Rule allows reach me.0.layout) slots id me j (λ n. n) (recalled allows reach (step slots j 0 0 none) me)) (sym at) (memo_load_own place live small))

  -- a word that may be there is stored
  memo_store_own : (place value : ℕ) (entry : MemoStep) → IsCurrent me.0 → place < me.0.layout.memo → IsMemoWord allows reach me.0.layout (now me.0) value
      → Allows (Rule allows reach me.0.layout) slots id me (memo_at me.0.layout place) (λ _. value) (λ _ me'. (me'.1 ≡ me.1) × Memoes me.0 me'.0 entry)
  memo_store_own place value entry current small may s r _ at _ =
      let v = me.0 in
      let i = memo_at v.layout place in
      let live = current.live in
      let t = r.table in
      let n = r.knows id v at live in let o = r.owns id v at live in
      let range = o.range in
      let after = set s.words i value in
      let g = memo-grows v.layout s.words t place value small in
      let table = memo-table v.layout s.words t place value small in
      let may_now = IsMemoWord-grown allows reach v.layout (now v) s.words (only_past v.layout v s.words current.past n.past) value may in
      let made = AreMade-grown v.layout s.words after g v.owned.from v.owned.made range.made in
      let in_range : IsRange v.layout after v.owned = record { within = range.within; count = range.count; made = made } in (
        noted_view v entry after,
        keeps,
        tt,
        rule_with v.layout s r id (noted_view v entry after) after table (memo-words v.layout s.words t place value small allows reach r.memo may_now) g
            (λ row j there less _. memo-part v.layout s.words t place value small row j there less)
            (λ row _ h. memo-published v.layout s.words t place value small row h)
            (record {
              layout = refl;
              past = (Grows-refl v.layout after, tt);
              room = n.room;
              four = n.four;
              draft = λ j less. memo-part v.layout s.words t place value small (next v) j (let room = n.room (omega (arith, less)) in omega (arith, range.within, room)) (let four = n.four in omega (arith, less, four)) ∙ n.draft j less;
            })
            (record { range = in_range; own = o.own; unmade = λ row from to h. o.unmade row from to (memo-published v.layout s.words t place value small row h) }),
        (refl, memoes v entry after live (AllGrow-trans v.layout v.learned.past s.words after n.past g) table in_range),
      )

  pub memo_stores : (l : Layout) (i place value : ℕ) → IsCurrent me.0 → i ≡ memo_at me.0.layout place → place < me.0.layout.memo → IsMemoPair allows reach me.0.layout (now me.0) value
      → Allows (Rule allows reach l) slots id me i (λ _. value) (λ _. remembered (step slots i value 0 none) me value)
  memo_stores l i place value current at small may = at_layout l slots id i me (λ _. value) (λ _. remembered (step slots i value 0 none) me value) current.live
      (subst (λ (j : ℕ). Allows (Rule allows reach me.0.layout) slots id me j (λ _. value) (λ _. remembered (step slots j value 0 none) me value)) (sym at)
      (λ s r h there less. let a = memo_store_own place value (memo_store place value) current small (inr may) s r h there less in
      (a.0, a.1, a.2, a.3, (a.4.0, λ other e. subst (λ p. Memoes me.0 a.0 (memo_store p value)) (same_memo me.0.layout place other e) a.4.1))))

  pub memo_clears : (l : Layout) (i place : ℕ) → IsCurrent me.0 → i ≡ memo_at me.0.layout place → place < me.0.layout.memo
      → Allows (Rule allows reach l) slots id me i (λ _. 0) (λ _. cleared (step slots i 0 0 none) me 0)
  memo_clears l i place current at small = at_layout l slots id i me (λ _. 0) (λ _. cleared (step slots i 0 0 none) me 0) current.live
      (subst (λ (j : ℕ). Allows (Rule allows reach me.0.layout) slots id me j (λ _. 0) (λ _. cleared (step slots j 0 0 none) me 0)) (sym at)
      (λ s r h there less. let a = memo_store_own place 0 (memo_clear place) current small (inl refl) s r h there less in
      (a.0, a.1, a.2, a.3, (a.4.0, λ other e. subst (λ p. Memoes me.0 a.0 (memo_clear p)) (same_memo me.0.layout place other e) a.4.1))))

-- ---- splitting and meeting

false_is : false ≡ true → ⊥
false_is e = false≢true e

at_last_or : {A : Type 0} (xs : List A) (a b : A) (i : ℕ) → get_elem? (xs ++ a ∷ []) i ≡ some b → (get_elem? xs i ≡ some b) ⊎ ((i ≡ length xs) × (a ≡ b))
at_last_or [] a b zero e = inr (refl, some-injective a b e)
at_last_or [] a b (suc i) e = absurd (some-ne-none b (sym e))
at_last_or (x ∷ xs) a b zero e = inl e
at_last_or (x ∷ xs) a b (suc i) e = ⊎_elim inl (λ t. inr (ap suc t.0, t.1)) (at_last_or xs a b i e)

at_less : {A : Type 0} (xs : List A) (b : A) (i : ℕ) → get_elem? xs i ≡ some b → i < length xs
at_less [] b i e = absurd (some-ne-none b (sym e))
at_less (x ∷ xs) b zero e = omega arith
at_less (x ∷ xs) b (suc i) e = let h = at_less xs b i e in omega (arith, h)

-- the rows of a range have a new owner
owner_with : (low high new : ℕ) → (ℕ → ℕ) → ℕ → ℕ
owner_with low high new owner row = dite (dec_le low row) (λ _. dite (dec_lt row high) (λ _. new) (λ _. owner row)) (λ _. owner row)

-- what a choice gives on either side
dite_yes : {L : Type 0} (d : Dec L) (a b : ℕ) → L → dite d (λ _. a) (λ _. b) ≡ a
dite_yes (yes h) a b l = refl
dite_yes (no n) a b l = absurd (n l)

dite_no : {L : Type 0} (d : Dec L) (a b : ℕ) → (L → ⊥) → dite d (λ _. a) (λ _. b) ≡ b
dite_no (yes h) a b n = absurd (n h)
dite_no (no m) a b n = refl

owner_in : (low high new : ℕ) (owner : ℕ → ℕ) (row : ℕ) → low ≤ row → row < high → owner_with low high new owner row ≡ new
unfolding owner_with
owner_in low high new owner row from to = dite_yes (dec_le low row) _ _ from ∙ dite_yes (dec_lt row high) _ _ to

owner_out : (low high new : ℕ) (owner : ℕ → ℕ) (row : ℕ) → (low ≤ row → row < high → ⊥) → owner_with low high new owner row ≡ owner row
unfolding owner_with
owner_out low high new owner row out = dite (dec_le low row)
    (λ from. dite_yes (dec_le low row) _ _ from ∙ dite_no (dec_lt row high) _ _ (out from))
    (λ not_from. dite_no (dec_le low row) _ _ not_from)

module _ {S : Type 0} {allows : Relation} {reach : Reach} (l : Layout) (id : ℕ) where
  pub splits : (v : View) (amount : ℕ) → v.live ≡ true → amount + length v.owned.made ≤ v.owned.quota → Splits {S = S} (Rule allows reach l) id v (left_of amount v) (right_of amount v)
  splits v amount live fits s r at =
      let k = r.knows id v at live in
      let o = r.owns id v at live in
      let range = o.range in
      let low : ℕ = v.owned.from + (v.owned.quota - amount) in
      let high : ℕ = low + amount in
      let new : ℕ = length s.views in
      let owner = owner_with low high new r.owner in
      let fresh : length (set s.views id (left_of amount v)) ≡ new = length-set s.views id (left_of amount v) in
      record {
        table = r.table;
        memo = r.memo;
        owner = owner;
        knows = λ seat w h lives. ⊎_elim
            (λ (e : get_elem? (set s.views id (left_of amount v)) seat ≡ some w). ⊎_elim
            (λ (t : (seat ≡ id) × (left_of amount v ≡ w)). subst (Knows l s.words) t.1 (record {
              layout = k.layout;
              past = k.past;
              room = λ none_drafted. absurd (omega (arith, none_drafted));
              four = omega arith;
              draft = λ j none_drafted. absurd (omega (arith, none_drafted));
            }))
            (λ (t : (seat ≢ id) × (get_elem? s.views seat ≡ some w)). r.knows seat w t.1 lives)
            (at_set s.views id seat (left_of amount v) w e))
            (λ (t : (seat ≡ length (set s.views id (left_of amount v))) × (right_of amount v ≡ w)). subst (Knows l s.words) t.1 (record {
              layout = k.layout;
              past = k.past;
              room = λ none_drafted. absurd (omega (arith, none_drafted));
              four = omega arith;
              draft = λ j none_drafted. absurd (omega (arith, none_drafted));
            }))
            (at_last_or (set s.views id (left_of amount v)) (right_of amount v) w seat h);
        owns = λ seat w h lives. ⊎_elim
            (λ (e : get_elem? (set s.views id (left_of amount v)) seat ≡ some w). ⊎_elim
            (λ (t : (seat ≡ id) × (left_of amount v ≡ w)). subst (λ (x : ℕ × View). Owns l s.words owner x.0 x.1.owned) (λ i. (sym t.0 i, t.1 i)) (record {
              range = record { within = omega (arith, range.within); count = omega (arith, fits); made = range.made };
              own = λ row from to. owner_out low high new r.owner row (λ a b. omega (arith, a, b, to, fits)) ∙ o.own row from (omega (arith, to, fits));
              unmade = λ row from to. o.unmade row from (omega (arith, to, fits));
            }))
            (λ (t : (seat ≢ id) × (get_elem? s.views seat ≡ some w)). let p = r.owns seat w t.1 lives in record {
              range = p.range;
              own = λ row from to. owner_out low high new r.owner row (λ a b. t.0 (sym (p.own row from to) ∙ o.own row (omega (arith, a, fits)) (omega (arith, b, fits)))) ∙ p.own row from to;
              unmade = p.unmade;
            })
            (at_set s.views id seat (left_of amount v) w e))
            (λ (t : (seat ≡ length (set s.views id (left_of amount v))) × (right_of amount v ≡ w)). subst (λ (x : ℕ × View). Owns l s.words owner x.0 x.1.owned) (λ i. (sym (t.0 ∙ fresh) i, t.1 i)) (record {
              range = record { within = omega (arith, range.within, fits); count = omega arith; made = tt };
              own = λ row from to. owner_in low high new r.owner row from to;
              unmade = λ row from to. o.unmade row (omega (arith, from, fits)) (omega (arith, to, fits));
            }))
            (at_last_or (set s.views id (left_of amount v)) (right_of amount v) w seat h);
      }

  pub joins : (v : View) (other : ℕ) (w : View) → v.live ≡ true → w.live ≡ true → Joins {S = S} (Rule allows reach l) id v other w (both v w) spent
  joins v other w live lives s r at apart there =
      let k = r.knows id v at live in
      let o = r.owns id v at live in
      let was : get_elem? s.views other ≡ some w = sym (set_else s.views id other (both v w) apart) ∙ there in
      let j = r.knows other w was lives in
      let kept : (seat : ℕ) (x : View) → get_elem? (set (set s.views id (both v w)) other spent) seat ≡ some x → x.live ≡ true → ((seat ≡ id) × (both v w ≡ x)) ⊎ (get_elem? s.views seat ≡ some x)
      = λ seat x h l_x. ⊎_elim
      (λ (t : (seat ≡ other) × (spent ≡ x)). absurd (false_is (ap (λ (y : View). y.live) t.1 ∙ l_x)))
      (λ (t : (seat ≢ other) × (get_elem? (set s.views id (both v w)) seat ≡ some x)). ⊎_elim inl (λ u. inr u.1) (at_set s.views id seat (both v w) x t.1))
      (at_set (set s.views id (both v w)) other seat spent x h) in
      record {
        table = r.table;
        memo = r.memo;
        owner = r.owner;
        knows = λ seat x h l_x. ⊎_elim
            (λ (t : (seat ≡ id) × (both v w ≡ x)). subst (Knows l s.words) t.1 (record {
              layout = k.layout;
              past = AllGrow-append l v.learned.past w.learned.past s.words k.past j.past;
              room = k.room;
              four = k.four;
              draft = k.draft;
            }))
            (λ (e : get_elem? s.views seat ≡ some x). r.knows seat x e l_x) (kept seat x h l_x);
        owns = λ seat x h l_x. ⊎_elim
            (λ (t : (seat ≡ id) × (both v w ≡ x)). subst (λ (y : ℕ × View). Owns l s.words r.owner y.0 y.1.owned) (λ i. (sym t.0 i, t.1 i)) o)
            (λ (e : get_elem? s.views seat ≡ some x). r.owns seat x e l_x) (kept seat x h l_x);
      }

-- ---- a new table

none_at : (n i : ℕ) → get_or (replicate {A = ℕ} n 0) i 0 ≡ 0
none_at zero i = refl
none_at (suc n) zero = refl
none_at (suc n) (suc i) = none_at n i

zeros : (l : Layout) (i : ℕ) → get_or (replicate {A = ℕ} (word_count l) 0) i 0 ≡ 0
zeros l i = none_at (word_count l) i

pub IsTable-zeros : (l : Layout) → IsTable l (replicate (word_count l) 0)
IsTable-zeros l = record {
  whole = length-replicate (word_count l) 0;
  within = λ place _. let e = zeros l (bucket_at l place) in omega (arith, e);
  once = λ one other row h. let e : 0 ≡ suc row = sym (zeros l (bucket_at l one)) ∙ h.1 in absurd (omega (arith, e));
  standing = λ row h. let e : 0 ≡ suc row = sym (zeros l (bucket_at l h.0)) ∙ h.1.1 in absurd (omega (arith, e));
  reached = λ place row h. let e : 0 ≡ suc row = sym (zeros l (bucket_at l place)) ∙ h.1 in absurd (omega (arith, e));
}

pub opens : {S : Type 0} {allows : Relation} {reach : Reach} (l : Layout) → Rule allows reach l (opening {S = S} (replicate (word_count l) 0) [] (opening_view l))
opens l = record {
  table = IsTable-zeros l;
  memo = λ place _. inl (zeros l (memo_at l place));
  owner = λ _. 0;
  knows = λ seat v h live. only seat v h (λ _ w. Knows l (replicate (word_count l) 0) w) (record {
    layout = refl;
    past = (Grows-refl l (replicate (word_count l) 0), tt);
    room = λ none_drafted. absurd (omega (arith, none_drafted));
    four = omega arith;
    draft = λ j none_drafted. absurd (omega (arith, none_drafted));
  });
  owns = λ seat v h live. only seat v h (λ j w. Owns l (replicate (word_count l) 0) (λ _. 0) j w.owned) (record {
    range = record { within = omega arith; count = omega arith; made = tt };
    own = λ row _ _. refl;
    unmade = λ row _ _ p. let e : 0 ≡ suc row = sym (zeros l (bucket_at l p.0)) ∙ p.1.1 in omega (arith, e);
  });
}
  where
    only : (seat : ℕ) (v : View) → get_elem? (opening_view l ∷ []) seat ≡ some v → (P : ℕ → View → Type 0) → P 0 (opening_view l) → P seat v
    only zero v h P p = subst (P 0) (some-injective (opening_view l) v h) p
    only (suc seat) v h P p = absurd (some-ne-none v (sym h))
