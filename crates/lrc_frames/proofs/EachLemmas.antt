-- What is in the bindings of a list goes into a frame, one binding after another.
use Rattle.std.proofs.Common.{◌≡◌, ℕ, suc, ◌+◌, ◌<◌, Bool, true, false, not, ◌&&◌, List, [], ◌∷◌, length, map, drop, drop-cons, get_or, Option, Some, None, refl, sym, ap, ◌∙◌, subst, arith}
use Rattle.std.specs.Prelude.{flat_map}
use Rattle.std.specs.Option.{is_some}
use Rattle.std.specs.List.{AllByRecursion}
use Rattle.std.proofs.lemmas.Bool.{ne_eqb, eq-eqb}
use Rattle.lrc_meaning.specs.Grammar.{Grammar}
use Rattle.lrc_order_meaning.specs.declared.Partition.{Partition}
use Rattle.lrc_plan_meaning.specs.declared.Bound.{Bound}
use Rattle.lrc_visit_meaning.specs.Values.{Data, no_data, data_then, data_list}
use Rattle.lrc_visit_meaning.specs.Visits.{are_of_lengths}
use Rattle.lrc_store.specs.Cells.{CellTree}
use Rattle.lrc_store.specs.Standing.{Standing}
use Rattle.lrc_store.specs.Words.{Keeps}
use Rattle.lrc_code.specs.Forms.{list_cell}
use Rattle.lrc_call_meaning.specs.Forms.{datum_cell, data_cells, binding_cell, bindings_cell}
use Rattle.lrc_call_meaning.specs.Spelled.{IsSpelledDatum, AreSpelledData}
use Rattle.lrc_eval.specs.declared.values.Val.{Val}
use Rattle.lrc_functions.specs.Numbers.{number}
use Rattle.lrc_frames.specs.declared.body.Body.{Body}
use Rattle.lrc_frames.specs.declared.lists.Front.{Front}
use Rattle.lrc_frames.specs.declared.reading.Reading.{Reading}
use Rattle.lrc_frames.specs.Frames.{Run, RunsAt, gaining}
use Rattle.lrc_frames.specs.Lists.{IsFront, HasFront, Fills, FillsEach, FilledEachIf}
use Rattle.lrc_frames.proofs.FrameLemmas.{runs_last}
use Rattle.lrc_frames.proofs.ReadLemmas.{cons_first, cons_rest}
use Rattle.lrc_frames.proofs.FillLemmas.{gaining_none, gaining_then}

-- ---- a binding as a list of data

listed_cells : (ds : Data) → data_cells ds ≡ map datum_cell (data_list ds)
listed_cells no_data = refl
listed_cells (data_then d ds) = ap (λ (cells : List CellTree). datum_cell d ∷ cells) (listed_cells ds)

listed_spelled : (ds : Data) → AreSpelledData ds → AllByRecursion IsSpelledDatum (data_list ds)
listed_spelled no_data h = tt
listed_spelled (data_then d ds) h = (h.0, listed_spelled ds h.1)

module _ (g : Grammar) (parts : List Partition) where
  -- after some of the bindings were put, these lists of numbers and this list are left of the visits
  pub record LeftEach (s : Standing) (frame : List Val) (body : Body) (r : Run) (lists : List (List ℕ)) (handle : ℕ) (reading : Reading) (items : ℕ → List Bound) (visits : List ℕ) (rows : List Data) : Type 0 where
    pub run : Run
    pub later : List ℕ
    pub more : List Data
    pub fills : FillsEach g parts s frame body run lists handle reading items later more
    pub whole : are_of_lengths more (map (λ u. length (items u)) later) ≡ true
        → gaining run (flat_map items later) (flat_map data_list more) ≡ gaining r (flat_map items visits) (flat_map data_list rows)
    pub decide : are_of_lengths rows (map (λ u. length (items u)) visits) ≡ are_of_lengths more (map (λ u. length (items u)) later)

  -- at the start all is left
  pub each_left : (s : Standing) (frame : List Val) (body : Body) (r : Run) (lists : List (List ℕ)) (handle : ℕ) (reading : Reading) (items : ℕ → List Bound) (visits : List ℕ) (rows : List Data)
      → FillsEach g parts s frame body r lists handle reading items visits rows → LeftEach s frame body r lists handle reading items visits rows
  each_left s frame body r lists handle reading items visits rows fills =
      record { run = r; later = visits; more = rows; fills = fills; whole = λ e. refl; decide = refl }

  -- with a list of numbers that was not passed that list is left, and those behind it
  pub list_there : (s : Standing) (frame : List Val) (body : Body) (r : Run) (lists : List (List ℕ)) (i : ℕ) (numbers : List ℕ) (handle : ℕ) (reading : Reading) (items : ℕ → List Bound) (visits : List ℕ) (rows : List Data)
      → i < length lists → numbers ≡ get_or lists i numbers
      → LeftEach s frame body r (drop i lists) handle reading items visits rows → LeftEach s frame body r (numbers ∷ drop (i + 1) lists) handle reading items visits rows
  list_there s frame body r lists i numbers handle reading items visits rows less is left =
      let next : suc i ≡ i + 1 = omega arith in
      subst (λ (later : List (List ℕ)). LeftEach s frame body r later handle reading items visits rows)
      (drop-cons lists i numbers less ∙ ap (λ (ns : List ℕ). ns ∷ drop (suc i) lists) (sym is) ∙ ap (λ (k : ℕ). numbers ∷ drop k lists) next) left

  module _ (s t : Standing) (keeps : Keeps s t) (frame : List Val) (body : Body) (numbers : List ℕ) (lists : List (List ℕ)) (handle : ℕ) (reading : Reading) (items : ℕ → List Bound) where
    module _ (front : Front) where
      -- what is left of the next binding
      pub record Now (run : Run) (later : List ℕ) (more : List Data) : Type 0 where
        pub visit : ℕ
        pub then : List ℕ
        pub row : Data
        pub others : List Data
        pub visits_are : later ≡ visit ∷ then
        pub rows_are : more ≡ row ∷ others
        pub fills : Fills g parts t frame body run numbers front.item.0 reading (items visit) (data_list row)

      pub now_left : (run : Run) (later : List ℕ) (more : List Data) → FillsEach g parts s frame body run (numbers ∷ lists) handle reading items later more
          → IsFront t (map binding_cell more) front → Now run later more
      now_left run [] more h f = absurd (let e = h.numbered in cc)
      now_left run (u ∷ us) [] h f = absurd (let e = f.all in cc)
      now_left run (u ∷ us) (ds ∷ rows) h f =
          record {
            visit = u;
            then = us;
            row = ds;
            others = rows;
            visits_are = refl;
            rows_are = refl;
            fills = record {
              runs = runs_last g parts s t frame body run keeps h.runs;
              numbered = cons_first numbers (map (number g.sorts parts run.production) (items u)) lists (map (λ w. map (number g.sorts parts run.production) (items w)) us) h.numbered;
              listed = h.listed u;
              list = f.item ∙ ap Some (sym (cons_first (binding_cell ds) f.first (map binding_cell rows) f.others f.all)) ∙ ap (λ (cells : List CellTree). Some (list_cell cells)) (listed_cells ds);
              spelled = listed_spelled ds h.spelled.0;
              read = λ x d c k. h.read u x d c;
            };
          }

      -- it has another count of data than of items
      pub row_short : (r run : Run) (visits later : List ℕ) (rows more : List Data) (now : Now run later more) → are_of_lengths rows (map (λ u. length (items u)) visits) ≡ are_of_lengths more (map (λ u. length (items u)) later)
          → ¬ (length (data_list now.row) ≡ length (items now.visit)) → are_of_lengths rows (map (λ u. length (items u)) visits) ≡ false
      row_short r run visits later rows more now decide differ =
          decide
          ∙ ap (λ (ns : List ℕ). are_of_lengths more (map (λ u. length (items u)) ns)) now.visits_are
          ∙ ap (λ (xs : List Data). are_of_lengths xs (length (items now.visit) ∷ map (λ u. length (items u)) now.then)) now.rows_are
          ∙ ap (λ (b : Bool). b && are_of_lengths now.others (map (λ u. length (items u)) now.then)) (ne_eqb (length (data_list now.row)) (length (items now.visit)) differ)

      row_long : (run : Run) (later : List ℕ) (more : List Data) (now : Now run later more) → length (data_list now.row) ≡ length (items now.visit)
          → are_of_lengths more (map (λ u. length (items u)) later) ≡ are_of_lengths now.others (map (λ u. length (items u)) now.then)
      row_long run later more now same =
          ap (λ (ns : List ℕ). are_of_lengths more (map (λ u. length (items u)) ns)) now.visits_are
          ∙ ap (λ (xs : List Data). are_of_lengths xs (length (items now.visit) ∷ map (λ u. length (items u)) now.then)) now.rows_are
          ∙ ap (λ (b : Bool). b && are_of_lengths now.others (map (λ u. length (items u)) now.then)) (eq-eqb (length (data_list now.row)) (length (items now.visit)) same)

      row_gained : (run : Run) (later : List ℕ) (more : List Data) (now : Now run later more) → length (data_list now.row) ≡ length (items now.visit)
          → gaining (gaining run (items now.visit) (data_list now.row)) (flat_map items now.then) (flat_map data_list now.others) ≡ gaining run (flat_map items later) (flat_map data_list more)
      row_gained run later more now same =
          gaining_then run (items now.visit) (flat_map items now.then) (data_list now.row) (flat_map data_list now.others) same
          ∙ ap (λ (ns : List ℕ). gaining run (flat_map items ns) (flat_map data_list (now.row ∷ now.others))) (sym now.visits_are)
          ∙ ap (λ (xs : List Data). gaining run (flat_map items later) (flat_map data_list xs)) (sym now.rows_are)

      module _ (u : Standing) (after : List Val) (keeps_on : Keeps t u) where
        -- what is left when it was put
        pub behind : (r run : Run) (visits later : List ℕ) (rows more : List Data) (h : FillsEach g parts s frame body run (numbers ∷ lists) handle reading items later more) (f : IsFront t (map binding_cell more) front)
            → (are_of_lengths more (map (λ w. length (items w)) later) ≡ true → gaining run (flat_map items later) (flat_map data_list more) ≡ gaining r (flat_map items visits) (flat_map data_list rows))
            → are_of_lengths rows (map (λ w. length (items w)) visits) ≡ are_of_lengths more (map (λ w. length (items w)) later)
            → length (data_list (now_left run later more h f).row) ≡ length (items (now_left run later more h f).visit)
            → RunsAt g parts u after body (gaining run (items (now_left run later more h f).visit) (data_list (now_left run later more h f).row))
            → LeftEach u after body r lists front.rest.0 reading items visits rows
        unfolding now_left
        behind r run visits [] rows more h f whole decide same runs = absurd (let e = h.numbered in cc)
        behind r run visits (v ∷ vs) rows [] h f whole decide same runs = absurd (let e = f.all in cc)
        behind r run visits (v ∷ vs) rows (ds ∷ others) h f whole decide same runs =
            let now = now_left run (v ∷ vs) (ds ∷ others) h f in
            let long = row_long run (v ∷ vs) (ds ∷ others) now same in
            record {
              run = gaining run (items v) (data_list ds);
              later = vs;
              more = others;
              fills = record {
                runs = runs;
                numbered = cons_rest numbers (map (number g.sorts parts run.production) (items v)) lists (map (λ w. map (number g.sorts parts run.production) (items w)) vs) h.numbered;
                listed = h.listed;
                list = keeps_on front.rest.0 (bindings_cell others)
                    (f.rest ∙ ap (λ (cells : List CellTree). Some (list_cell cells)) (sym (cons_rest (binding_cell ds) f.first (map binding_cell others) f.others f.all)));
                spelled = h.spelled.1;
                read = h.read;
              };
              whole = λ e. row_gained run (v ∷ vs) (ds ∷ others) now same ∙ whole (long ∙ e);
              decide = decide ∙ long;
            }

  module _ (s t : Standing) (keeps : Keeps s t) (frame : List Val) (body : Body) (handle : ℕ) (reading : Reading) (r : Run) (items : ℕ → List Bound) (visits : List ℕ) (rows : List Data) where
    -- numbers are left, and no binding
    pub no_row : (numbers : List ℕ) (lists : List (List ℕ)) (left : LeftEach s frame body r (numbers ∷ lists) handle reading items visits rows) → map binding_cell left.more ≡ []
        → are_of_lengths rows (map (λ u. length (items u)) visits) ≡ false
    no_row numbers lists left none = left.decide ∙ over left.later left.more left.fills.numbered none where
      over : (later : List ℕ) (more : List Data) → numbers ∷ lists ≡ map (λ u. map (number g.sorts parts left.run.production) (items u)) later → map binding_cell more ≡ []
          → are_of_lengths more (map (λ u. length (items u)) later) ≡ false
      over [] more e none = absurd (cc)
      over (u ∷ us) [] e none = refl
      over (u ∷ us) (ds ∷ more) e none = absurd (cc)

    -- no numbers are left, and what the list has in front tells whether there are as many bindings
    pub each_ends : (left : LeftEach s frame body r [] handle reading items visits rows) (found : Option Front) (b : Bool) → is_some found ≡ not b → HasFront t (map binding_cell left.more) found
        → FilledEachIf g parts t frame body r items visits rows b
    each_ends left found b is front = over left.later left.more left.fills left.whole left.decide found b is front where
      over : (later : List ℕ) (more : List Data) → FillsEach g parts s frame body left.run [] handle reading items later more
          → (are_of_lengths more (map (λ u. length (items u)) later) ≡ true → gaining left.run (flat_map items later) (flat_map data_list more) ≡ gaining r (flat_map items visits) (flat_map data_list rows))
          → are_of_lengths rows (map (λ u. length (items u)) visits) ≡ are_of_lengths more (map (λ u. length (items u)) later)
          → (found : Option Front) (b : Bool) → is_some found ≡ not b → HasFront t (map binding_cell more) found → FilledEachIf g parts t frame body r items visits rows b
      over (u ∷ us) more h whole decide found b is front = absurd (let e = h.numbered in cc)
      over [] [] h whole decide None true is front =
          (decide, subst (λ (q : Run). RunsAt g parts t frame body q) (sym (gaining_none left.run) ∙ whole refl) (runs_last g parts s t frame body left.run keeps h.runs))
      over [] [] h whole decide None false is front = absurd (cc)
      over [] [] h whole decide (Some front) b is f = absurd (let e = f.all in cc)
      over [] (ds ∷ more) h whole decide None b is front = absurd (cc)
      over [] (ds ∷ more) h whole decide (Some front) true is f = absurd (cc)
      over [] (ds ∷ more) h whole decide (Some front) false is f = decide
