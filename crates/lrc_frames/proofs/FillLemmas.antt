-- Items of a list go into a frame one after another: what is left to be put, from the first to behind the last.
use Rattle.std.proofs.Common.{◌≡◌, ℕ, suc, ◌+◌, ◌<◌, Bool, true, false, not, List, [], ◌∷◌, ◌++◌, length, map, set, Option, Some, None, drop, drop-cons, get_or, refl, sym, ap, ◌∙◌, subst, arith, append_assoc}
use Rattle.std.specs.Option.{is_some}
use Rattle.std.proofs.lemmas.List.{append-nil}
use Rattle.lrc_meaning.specs.Grammar.{Grammar}
use Rattle.lrc_order_meaning.specs.declared.Partition.{Partition}
use Rattle.lrc_order_meaning.proofs.MemberLemmas.{member_first, member_later}
use Rattle.lrc_plan_meaning.specs.declared.Bound.{Bound}
use Rattle.lrc_visit_meaning.specs.Values.{Datum}
use Rattle.lrc_visit_meaning.specs.Visits.{Held, holding}
use Rattle.lrc_store.specs.Cells.{CellTree}
use Rattle.lrc_store.specs.Standing.{Standing, Stands}
use Rattle.lrc_store.specs.Words.{Keeps}
use Rattle.lrc_code.specs.Forms.{list_cell}
use Rattle.lrc_call_meaning.specs.Forms.{datum_cell}
use Rattle.lrc_call_meaning.specs.Spelled.{IsSpelledDatum}
use Rattle.lrc_eval.specs.declared.values.Val.{Val}
use Rattle.lrc_functions.specs.Numbers.{number}
use Rattle.lrc_frames.specs.declared.body.Body.{Body}
use Rattle.lrc_frames.specs.declared.lists.Front.{Front}
use Rattle.lrc_frames.specs.declared.reading.Reading.{Reading}
use Rattle.lrc_frames.specs.Frames.{Shows, Run, RunsAt, gaining}
use Rattle.lrc_frames.specs.Lists.{IsFront, HasFront, IsReadAs, Fills, FilledIf}
use Rattle.lrc_frames.proofs.ReadLemmas.{cons_first, cons_rest}
use Rattle.lrc_frames.proofs.FrameLemmas.{runs_last, runs_more, within_frame}

-- ---- runs that gain items

abbrev run_of : Run → List Bound → Held → Run
run_of r available held = record r { available = available; held = held }

-- nothing is gained
pub gaining_none : (r : Run) → gaining r [] [] ≡ r
gaining_none r = ap (λ (available : List Bound). run_of r available r.held) (append-nil r.available)

-- an item, and then others
pub gaining_more : (r : Run) (x : Bound) (xs : List Bound) (d : Datum) (ds : List Datum) → gaining (gaining r (x ∷ []) (d ∷ [])) xs ds ≡ gaining r (x ∷ xs) (d ∷ ds)
gaining_more r x xs d ds =
    ap (λ (available : List Bound). run_of r available (holding (x ∷ xs) (d ∷ ds) r.held)) (append_assoc r.available (x ∷ []) xs)

-- some, as many as their data, and then others
pub gaining_then : (r : Run) (xs ys : List Bound) (ds es : List Datum) → length ds ≡ length xs → gaining (gaining r xs ds) ys es ≡ gaining r (xs ++ ys) (ds ++ es)
gaining_then r [] ys [] es same = ap (λ (q : Run). gaining q ys es) (gaining_none r)
gaining_then r [] ys (d ∷ ds) es same = absurd (omega (arith, same))
gaining_then r (x ∷ xs) ys [] es same = absurd (omega (arith, same))
gaining_then r (x ∷ xs) ys (d ∷ ds) es same =
    let next = gaining r (x ∷ []) (d ∷ []) in
    ap (λ (q : Run). gaining q ys es) (sym (gaining_more r x xs d ds))
    ∙ gaining_then next xs ys ds es (omega (arith, same))
    ∙ gaining_more r x (xs ++ ys) d (ds ++ es)

-- ---- what is left

module _ (g : Grammar) (parts : List Partition) where
  -- after some of the data were put, these numbers and this list are left of the items
  pub record Left (s : Standing) (frame : List Val) (body : Body) (r : Run) (numbers : List ℕ) (list : ℕ) (reading : Reading) (items : List Bound) (given : List Datum) : Type 0 where
    pub run : Run
    pub later : List Bound
    pub more : List Datum
    pub fills : Fills g parts s frame body run numbers list reading later more
    pub whole : gaining run later more ≡ gaining r items given
    pub ahead : length given + length later ≡ length more + length items

  -- at the start all is left
  pub all_left : (s : Standing) (frame : List Val) (body : Body) (r : Run) (numbers : List ℕ) (list : ℕ) (reading : Reading) (items : List Bound) (given : List Datum)
      → Fills g parts s frame body r numbers list reading items given → Left s frame body r numbers list reading items given
  all_left s frame body r numbers list reading items given fills =
      record { run = r; later = items; more = given; fills = fills; whole = refl; ahead = refl }

  -- with a number that was not passed that number is left, and those behind it
  pub left_there : (s : Standing) (frame : List Val) (body : Body) (r : Run) (numbers : List ℕ) (i list : ℕ) (reading : Reading) (items : List Bound) (given : List Datum) → i < length numbers
      → Left s frame body r (drop i numbers) list reading items given → Left s frame body r (get_or numbers i 0 ∷ drop (i + 1) numbers) list reading items given
  left_there s frame body r numbers i list reading items given less left =
      let next : suc i ≡ i + 1 = omega arith in
      subst (λ (ns : List ℕ). Left s frame body r ns list reading items given)
      (drop-cons numbers i 0 less ∙ ap (λ (k : ℕ). get_or numbers i 0 ∷ drop k numbers) next) left

  module _ (s t : Standing) (keeps : Keeps s t) (frame : List Val) (body : Body) (n : ℕ) (ns : List ℕ) (list : ℕ) (reading : Reading) (front : Front) where
    -- the next item, and the next datum, whose cell stands in front
    pub record Next (run : Run) (later : List Bound) (more : List Datum) : Type 0 where
      pub item : Bound
      pub datum : Datum
      pub read : IsReadAs reading n item datum
      pub stands : Stands t front.item.0 (datum_cell datum)
      pub spelled : IsSpelledDatum datum
      pub within : n < length frame

    pub next : (run : Run) (later : List Bound) (more : List Datum) → Fills g parts s frame body run (n ∷ ns) list reading later more
        → IsFront t (map datum_cell more) front → Next run later more
    next run [] more h f = absurd (let e = h.numbered in cc)
    next run (x ∷ xs) [] h f = absurd (let e = f.all in cc)
    next run (x ∷ xs) (d ∷ ds) h f =
        let is : n ≡ number g.sorts parts run.production x = cons_first n (number g.sorts parts run.production x) ns (map (number g.sorts parts run.production) xs) h.numbered in record {
          item = x;
          datum = d;
          read = subst (λ (m : ℕ). IsReadAs reading m x d) (sym is) (h.read x d (member_first x xs) (member_first d ds));
          stands = f.item ∙ ap Some (sym (cons_first (datum_cell d) f.first (map datum_cell ds) f.others f.all));
          spelled = h.spelled.0;
          within = subst (λ (m : ℕ). m < length frame) (sym is) (within_frame g parts s body run frame x h.runs.room (h.listed x (member_first x xs)));
        }

    module _ (u : Standing) (keeps_on : Keeps t u) (shown : Val)
        (shows : (x : Bound) (d : Datum) → IsReadAs reading n x d → Stands t front.item.0 (datum_cell d) → IsSpelledDatum d → Shows u shown x d) where
      -- what is left when the next was put
      put : (r run : Run) (items later : List Bound) (given more : List Datum) → Fills g parts s frame body run (n ∷ ns) list reading later more → gaining run later more ≡ gaining r items given
          → length given + length later ≡ length more + length items → IsFront t (map datum_cell more) front → Left u (set frame n shown) body r ns front.rest.0 reading items given
      unfolding next
      put r run items [] given more h whole ahead f = absurd (let e = h.numbered in cc)
      put r run items (x ∷ xs) given [] h whole ahead f = absurd (let e = f.all in cc)
      put r run items (x ∷ xs) given (d ∷ ds) h whole ahead f =
          let now = next run (x ∷ xs) (d ∷ ds) h f in
          let is : n ≡ number g.sorts parts run.production x = cons_first n (number g.sorts parts run.production x) ns (map (number g.sorts parts run.production) xs) h.numbered in
          let lasts : Keeps s u = λ handle cell k. keeps_on handle cell (keeps handle cell k) in
          record {
            run = gaining run (x ∷ []) (d ∷ []);
            later = xs;
            more = ds;
            fills = record {
              runs = subst (λ (m : ℕ). RunsAt g parts u (set frame m shown) body (gaining run (x ∷ []) (d ∷ []))) (sym is)
                  (runs_more g parts u body run frame x d shown (h.listed x (member_first x xs)) (shows x d now.read now.stands now.spelled) (runs_last g parts s u frame body run lasts h.runs));
              numbered = cons_rest n (number g.sorts parts run.production x) ns (map (number g.sorts parts run.production) xs) h.numbered;
              listed = λ y c. h.listed y (member_later x xs y c);
              list = keeps_on front.rest.0 (list_cell (map datum_cell ds))
                  (f.rest ∙ ap (λ (cells : List CellTree). Some (list_cell cells)) (sym (cons_rest (datum_cell d) f.first (map datum_cell ds) f.others f.all)));
              spelled = h.spelled.1;
              read = λ y e c k. h.read y e (member_later x xs y c) (member_later d ds e k);
            };
            whole = gaining_more run x xs d ds ∙ whole;
            ahead = omega (arith, ahead);
          }

      pub left_behind : (r : Run) (items : List Bound) (given : List Datum) (left : Left s frame body r (n ∷ ns) list reading items given) → IsFront t (map datum_cell left.more) front
          → Left u (set frame n shown) body r ns front.rest.0 reading items given
      left_behind r items given left f = put r left.run items left.later given left.more left.fills left.whole left.ahead f

  module _ (s t : Standing) (keeps : Keeps s t) (frame : List Val) (body : Body) (list : ℕ) (reading : Reading) (r : Run) (items : List Bound) (given : List Datum) where
    -- numbers are left, and no data
    data_end : (n : ℕ) (ns : List ℕ) (run : Run) (later : List Bound) (more : List Datum) → n ∷ ns ≡ map (number g.sorts parts run.production) later → length given + length later ≡ length more + length items
        → map datum_cell more ≡ [] → ¬ (length given ≡ length items)
    data_end n ns run [] more e ahead none same = absurd (cc)
    data_end n ns run (x ∷ xs) [] e ahead none same = absurd (omega (arith, ahead, same))
    data_end n ns run (x ∷ xs) (d ∷ ds) e ahead none same = absurd (cc)

    pub ends_early : (n : ℕ) (ns : List ℕ) (left : Left s frame body r (n ∷ ns) list reading items given) → map datum_cell left.more ≡ [] → FilledIf g parts t frame body r items given false
    ends_early n ns left none = data_end n ns left.run left.later left.more left.fills.numbered left.ahead none

    -- no numbers are left
    numbers_end : (run : Run) (later : List Bound) (more : List Datum) (front : Front) → [] ≡ map (number g.sorts parts run.production) later → length given + length later ≡ length more + length items
        → IsFront t (map datum_cell more) front → ¬ (length given ≡ length items)
    numbers_end run (x ∷ xs) more front e ahead f same = absurd (cc)
    numbers_end run [] [] front e ahead f same = absurd (let h = f.all in cc)
    numbers_end run [] (d ∷ ds) front e ahead f same = absurd (omega (arith, ahead, same))

    pub ends_late : (front : Front) (left : Left s frame body r [] list reading items given) → IsFront t (map datum_cell left.more) front → FilledIf g parts t frame body r items given false
    ends_late front left f = numbers_end left.run left.later left.more front left.fills.numbered left.ahead f

    both_end : (run : Run) (later : List Bound) (more : List Datum) → Fills g parts s frame body run [] list reading later more → gaining run later more ≡ gaining r items given
        → length given + length later ≡ length more + length items → map datum_cell more ≡ [] → FilledIf g parts t frame body r items given true
    both_end run (x ∷ xs) more h whole ahead none = absurd (let e = h.numbered in cc)
    both_end run [] (d ∷ ds) h whole ahead none = absurd (cc)
    both_end run [] [] h whole ahead none =
        (omega (arith, ahead), subst (λ (q : Run). RunsAt g parts t frame body q) (sym (gaining_none run) ∙ whole) (runs_last g parts s t frame body run keeps h.runs))

    pub ends_together : (left : Left s frame body r [] list reading items given) → map datum_cell left.more ≡ [] → FilledIf g parts t frame body r items given true
    ends_together left none = both_end left.run left.later left.more left.fills left.whole left.ahead none

    -- no numbers are left, and what the list has in front tells whether there are as many data as items
    pub ends : (found : Option Front) (b : Bool) → is_some found ≡ not b → (left : Left s frame body r [] list reading items given) → HasFront t (map datum_cell left.more) found
        → FilledIf g parts t frame body r items given b
    ends None true e left none = ends_together left none
    ends None false e left none = absurd (cc)
    ends (Some front) true e left f = absurd (cc)
    ends (Some front) false e left f = ends_late front left f
