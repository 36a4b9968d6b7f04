-- The turns of the loop that reads a term: what each leaves of what is to be read, and what the loop answers.
use Rattle.std.proofs.Common.{◌≡◌, ℕ, zero, suc, ◌+◌, ◌-◌, ◌<◌, ◌≤◌, Bool, true, false, cond, Option, Some, None, SomeIff, List, [], ◌∷◌, ◌++◌, length, take, drop, refl, sym, ap, ◌∙◌, subst, arith, append_assoc, length-append}
use Rattle.std.proofs.lemmas.List.{append-nil}
use Rattle.lrc_base.specs.declared.limits.TheConstants.{TERM_LEVEL_LIMIT}
use Rattle.lrc_base.specs.declared.item.RawTermItem.{RawTermItem}
use Rattle.lrc_base.specs.declared.item.RawTermItem.TheVariants as i
use Rattle.lrc_base.specs.declared.raw_term.RawTermTree.{RawTermTree}
use Rattle.lrc_base.specs.declared.raw_term.RawTermTree.TheVariants as t
use Rattle.lrc_base.specs.Forest.{joined}
use Rattle.lrc_base.specs.RawTerms.{raw_wanted, raw_grown, first_raw_tree}
use Rattle.lrc_base.proofs.ForestLemmas.{joined_none}
use Rattle.lrc_parse.specs.Reading.{Cause, Reading, nested, expected, took, stops, on_took, read_nothing}
use Rattle.lrc_parse.specs.Kinds.{starts}
use Rattle.lrc_reader.specs.declared.lexeme.Lexeme.{Lexeme}
use Rattle.lrc_reader.specs.declared.term.Begun.{Begun}
use Rattle.lrc_reader.specs.declared.term.Begun.TheVariants as begun
use Rattle.lrc_reader.specs.declared.term.OpenNode.{OpenNode}
use Rattle.lrc_reader.specs.Lexeme.{kind}
use Rattle.lrc_reader.specs.First.{terms}
use Rattle.lrc_reader.specs.Grammar.{Name}
use Rattle.lrc_reader.specs.Reading.{read_term}
use Rattle.lrc_reader.specs.Steps.{Start, whole, opened, leaf_of, start_of, IsAlone, read_begin, read_next}
use Rattle.lrc_reader.proofs.TermSteps.{Frame, goes_on, behind, on_next, begin_is, next_is}
use Rattle.lrc_reader.proofs.OpenNodes.{open_of, opens_of, trees_of, resume, resume_stops, length_opens, Stands, Begins, Ends}

pub begins_term : (opens : List OpenNode) (trees : List RawTermTree) (u : List Lexeme) → opens ≡ [] → trees ≡ [] → Begins TERM_LEVEL_LIMIT opens trees u (read_term 0 u)
unfolding read_term
begins_term opens trees u e f = record { k = TERM_LEVEL_LIMIT; frames = []; level = omega arith; nodes = e; children = f; gives = refl }

-- ---- the beginning of a term

pub levels_left : (levels : ℕ) (opens : List OpenNode) (trees : List RawTermTree) (next : ℕ → Reading Lexeme RawTermTree) (all : Reading Lexeme RawTermTree) (n : ℕ) → n ≡ length opens →
    Stands levels opens trees next all → n ≤ levels
levels_left levels opens trees next all n many s =
    let e : length opens ≡ length s.frames = ap length s.nodes ∙ length_opens s.frames in
    let f : s.k + length s.frames ≡ levels = s.level in omega (arith, many, e, f)

left_is : (levels : ℕ) (opens : List OpenNode) (trees : List RawTermTree) (next : ℕ → Reading Lexeme RawTermTree) (all : Reading Lexeme RawTermTree) →
    (s : Stands levels opens trees next all) → s.k ≡ levels - length opens
left_is levels opens trees next all s =
    let e : length opens ≡ length s.frames = ap length s.nodes ∙ length_opens s.frames in
    let f : s.k + length s.frames ≡ levels = s.level in omega (arith, e, f)

-- at no level anything is taken
not_at_none : (u r : List Lexeme) (x : Start) → read_begin 0 u ≡ took x r → ⊥
unfolding read_begin read_nothing
not_at_none u r x = never (starts kind terms u)
  where
    never : (b : Bool) → cond b (stops nested u) (stops expected u) ≡ took x r → ⊥
    never true h = cc
    never false h = cc

-- an item that takes no trees stands behind them
grown_alone : (ts : List RawTermTree) (item : RawTermItem) → raw_wanted item ≡ 0 → raw_grown ts item ≡ ts ++ leaf_of item ∷ []
grown_alone ts (i.Int x) e = refl
grown_alone ts (i.Bool b) e = refl
grown_alone ts (i.Name n) e = refl
grown_alone ts (i.Node p n) e = ap (λ m. joined (t.Node p) m ts) e ∙ joined_none (t.Node p) ts ∙ ap (λ m. ts ++ first_raw_tree (joined (t.Node p) m []) ∷ []) (sym e)

-- so many levels are left where so many nodes are open
module _ (levels : ℕ) (opens : List OpenNode) (trees : List RawTermTree) (u : List Lexeme) (all : Reading Lexeme RawTermTree) (n : ℕ) (many : n ≡ length opens) (s : Begins levels opens trees u all) where
  begun_is : (o : Reading Lexeme Start) → read_begin (levels - n) u ≡ o → read_begin s.k u ≡ o
  begun_is o e = ap (λ k. read_begin k u) (left_is levels opens trees _ all s ∙ ap (λ m. levels - m) (sym many)) ∙ e

  begun_gives : (o : Reading Lexeme Start) → read_begin (levels - n) u ≡ o → resume s.k s.frames (on_took o (behind s.k)) ≡ all
  begun_gives o e = sym (ap (resume s.k s.frames) (begin_is s.k u ∙ ap (λ p. on_took p (behind s.k)) (begun_is o e))) ∙ s.gives

  pub begin_stops : (r : List Lexeme) (c : Cause) → read_begin (levels - n) u ≡ stops c r → all ≡ stops c r
  begin_stops r c e = sym (begun_gives (stops c r) e) ∙ resume_stops s.k s.frames c r

  pub begin_ended : (r : List Lexeme) (more : List RawTermTree) (b : Begun) (item : RawTermItem) → read_begin (levels - n) u ≡ took (start_of b) r → b ≡ begun.Ended item → IsAlone b → more ≡ raw_grown trees item →
      Ends levels opens more r all
  begin_ended r more b item e f g h = record {
    last = leaf_of item;
    before = trees;
    split = h ∙ grown_alone trees item (subst IsAlone f g);
    stands = record {
      k = s.k;
      frames = s.frames;
      level = s.level;
      nodes = s.nodes;
      children = s.children;
      gives = begun_gives (took (whole (leaf_of item)) r) (e ∙ ap (λ d. took (start_of d) r) f);
    };
  }

  pub begin_opened : (r : List Lexeme) (more : List OpenNode) (b : Begun) (name : Name) → read_begin (levels - n) u ≡ took (start_of b) r → b ≡ begun.Opened name →
      more ≡ opens ++ record { name = name; children = 0 } ∷ [] → Begins levels more trees r all
  begin_opened r more b name e f g = by_level s.k s.level (begun_is _ taken) (begun_gives _ taken)
    where
      taken : read_begin (levels - n) u ≡ took (opened name) r
      taken = e ∙ ap (λ d. took (start_of d) r) f

      by_level : (k : ℕ) → k + length s.frames ≡ levels → read_begin k u ≡ took (opened name) r → resume k s.frames (behind k (opened name) r) ≡ all → Begins levels more trees r all
      by_level zero l h j = absurd (not_at_none u r (opened name) h)
      by_level (suc k) l h j = record {
        k = k;
        frames = (name, []) ∷ s.frames;
        level = omega (arith, l);
        nodes = g ∙ ap (λ ns. ns ++ record { name = name; children = 0 } ∷ []) s.nodes;
        children = s.children ∙ sym (append-nil (trees_of s.frames));
        gives = j;
      }

-- ---- behind a child

not_snoc : {A : Type 0} (xs : List A) (x : A) → [] ≡ xs ++ x ∷ [] → ⊥
not_snoc [] x e = cc
not_snoc (y ∷ xs) x e = cc

snoc_parts : {A : Type 0} (xs ys : List A) (x y : A) → xs ++ x ∷ [] ≡ ys ++ y ∷ [] → (xs ≡ ys) × (x ≡ y)
snoc_parts [] [] x y e = (refl, cc)
snoc_parts [] (b ∷ ys) x y e = let f : [] ≡ ys ++ y ∷ [] = cc in absurd (not_snoc ys y f)
snoc_parts (a ∷ xs) [] x y e = let f : [] ≡ xs ++ x ∷ [] = cc in absurd (not_snoc xs x f)
snoc_parts (a ∷ xs) (b ∷ ys) x y e =
    let f : xs ++ x ∷ [] ≡ ys ++ y ∷ [] = cc in
    let g : a ≡ b = cc in
    let h : _ = snoc_parts xs ys x y f in
    let i : xs ≡ ys = h.0 in
    (cc, h.1)

-- where no node is open the term has ended
pub none_open : (levels : ℕ) (opens : List OpenNode) (trees : List RawTermTree) (u : List Lexeme) (all : Reading Lexeme RawTermTree) →
    Ends levels opens trees u all → opens ≡ [] → (x : RawTermTree) × (trees ≡ x ∷ []) × (all ≡ took x u)
none_open levels opens trees u all s e = by_frames s.stands.frames s.stands.k s.stands.nodes s.stands.children s.stands.gives
  where
    by_frames : (fs : List Frame) (k : ℕ) → opens ≡ opens_of fs → s.before ≡ trees_of fs → resume k fs (took s.last u) ≡ all → (x : RawTermTree) × (trees ≡ x ∷ []) × (all ≡ took x u)
    by_frames [] k h i j = (s.last, s.split ∙ ap (λ ts. ts ++ s.last ∷ []) i, sym j)
    by_frames (f ∷ fs) k h i j = absurd (not_snoc (opens_of fs) (open_of f) (sym e ∙ h))

pub whole_term : (levels : ℕ) (opens : List OpenNode) (trees : List RawTermTree) (u : List Lexeme) (all : Reading Lexeme RawTermTree) →
    Ends levels opens trees u all → opens ≡ [] → (x : RawTermTree) → trees ≡ x ∷ [] → all ≡ took x u
whole_term levels opens trees u all s e x f =
    let w : _ = none_open levels opens trees u all s e in
    let g : w.0 ∷ [] ≡ x ∷ [] = sym w.1 ∙ f in
    let h : w.0 ≡ x = cc in
    w.2 ∙ ap (λ y. took y u) h

-- the innermost open node behind a child, within these
pub record Inside (levels : ℕ) (opens : List OpenNode) (node : OpenNode) (trees : List RawTermTree) (rest : List Lexeme) (all : Reading Lexeme RawTermTree) : Type 0 where
  pub k : ℕ
  pub frame : Frame
  pub frames : List Frame
  pub level : suc k + length frames ≡ levels
  pub nodes : opens ≡ opens_of frames
  pub name : node.name ≡ frame.0
  pub count : node.children + 1 ≡ length frame.1
  pub children : trees ≡ trees_of frames ++ frame.1
  pub gives : resume (suc k) frames (goes_on k frame rest) ≡ all

pub one_open : (levels : ℕ) (opens fewer : List OpenNode) (node : OpenNode) (trees : List RawTermTree) (u : List Lexeme) (all : Reading Lexeme RawTermTree) →
    Ends levels opens trees u all → opens ≡ fewer ++ node ∷ [] → Inside levels fewer node trees u all
one_open levels opens fewer node trees u all s e = by_frames s.stands.frames s.stands.k s.stands.level s.stands.nodes s.stands.children s.stands.gives
  where
    by_frames : (fs : List Frame) (k : ℕ) → k + length fs ≡ levels → opens ≡ opens_of fs → s.before ≡ trees_of fs → resume k fs (took s.last u) ≡ all → Inside levels fewer node trees u all
    by_frames [] k l h i j = absurd (not_snoc fewer node (sym h ∙ e))
    by_frames (f ∷ fs) k l h i j =
        let parts : _ = snoc_parts fewer (opens_of fs) node (open_of f) (sym e ∙ h) in
        let more : length (f.1 ++ s.last ∷ []) ≡ length f.1 + 1 = length-append f.1 (s.last ∷ []) in
        let count : node.children ≡ length f.1 = ap (λ (n : OpenNode). n.children) parts.1 in
        record {
          k = k;
          frame = (f.0, f.1 ++ s.last ∷ []);
          frames = fs;
          level = omega (arith, l);
          nodes = parts.0;
          name = ap (λ (n : OpenNode). n.name) parts.1;
          count = omega (arith, more, count);
          children = s.split ∙ ap (λ ts. ts ++ s.last ∷ []) i ∙ append_assoc (trees_of fs) f.1 (s.last ∷ []);
          gives = j;
        }

module _ (levels : ℕ) (opens : List OpenNode) (node : OpenNode) (trees : List RawTermTree) (u : List Lexeme) (all : Reading Lexeme RawTermTree) (s : Inside levels opens node trees u all) where
  follows : (o : Reading Lexeme Bool) → read_next u ≡ o → resume (suc s.k) s.frames (on_took o (on_next s.k s.frame)) ≡ all
  follows o e = sym (ap (resume (suc s.k) s.frames) (next_is s.k s.frame u ∙ ap (λ p. on_took p (on_next s.k s.frame)) e)) ∙ s.gives

  pub next_stops : (r : List Lexeme) (c : Cause) → read_next u ≡ stops c r → all ≡ stops c r
  next_stops r c e = sym (follows (stops c r) e) ∙ resume_stops (suc s.k) s.frames c r

  pub next_more : (r : List Lexeme) (more : List OpenNode) (name : Name) (n : ℕ) → read_next u ≡ took true r → name ≡ node.name → n ≡ node.children + 1 →
      more ≡ opens ++ record { name = name; children = n } ∷ [] → Begins levels more trees r all
  next_more r more name n e f g h = record {
    k = s.k;
    frames = s.frame ∷ s.frames;
    level = let l : suc s.k + length s.frames ≡ levels = s.level in omega (arith, l);
    nodes =
        h ∙ ap (λ ns. ns ++ record { name = name; children = n } ∷ []) s.nodes
        ∙ ap (λ m. opens_of s.frames ++ record { name = m; children = n } ∷ []) (f ∙ s.name)
        ∙ ap (λ m. opens_of s.frames ++ record { name = s.frame.0; children = m } ∷ []) (g ∙ s.count);
    children = s.children;
    gives = follows (took true r) e;
  }

  pub room : (n : ℕ) → n ≡ node.children + 1 → n ≤ length trees
  room n e =
      let c : node.children + 1 ≡ length s.frame.1 = s.count in
      let f : length trees ≡ length (trees_of s.frames) + length s.frame.1 = ap length s.children ∙ length-append (trees_of s.frames) s.frame.1 in
      omega (arith, c, e, f)

-- what stands last becomes one
take_first : {A : Type 0} (xs ys : List A) → take (length xs) (xs ++ ys) ≡ xs
take_first [] [] = refl
take_first [] (y ∷ ys) = refl
take_first (x ∷ xs) ys = ap (λ zs. x ∷ zs) (take_first xs ys)

drop_first : {A : Type 0} (xs ys : List A) → drop (length xs) (xs ++ ys) ≡ ys
drop_first [] [] = refl
drop_first [] (y ∷ ys) = refl
drop_first (x ∷ xs) ys = drop_first xs ys

joined_last : {A : Type 0} (over : List A → A) (n : ℕ) (xs ys : List A) → n ≡ length ys → joined over n (xs ++ ys) ≡ xs ++ over ys ∷ []
joined_last over n xs ys e =
    let f : length (xs ++ ys) ≡ length xs + length ys = length-append xs ys in
    let g : length (xs ++ ys) - n ≡ length xs = omega (arith, e, f) in
    ap (λ m. take m (xs ++ ys) ++ over (drop m (xs ++ ys)) ∷ []) g
    ∙ ap (λ zs. zs ++ over (drop (length xs) (xs ++ ys)) ∷ []) (take_first xs ys)
    ∙ ap (λ zs. xs ++ over zs ∷ []) (drop_first xs ys)

module _ (levels : ℕ) (opens : List OpenNode) (node : OpenNode) (trees : List RawTermTree) (u : List Lexeme) (all : Reading Lexeme RawTermTree) (s : Inside levels opens node trees u all) where
  pub next_ends : (r : List Lexeme) (more : List RawTermTree) (n : ℕ) → read_next u ≡ took false r → n ≡ node.children + 1 → more ≡ raw_grown trees (i.Node node.name n) →
      Ends levels opens more r all
  next_ends r more n e f g = record {
    last = t.Node s.frame.0 s.frame.1;
    before = trees_of s.frames;
    split =
        g ∙ ap (λ ts. joined (t.Node node.name) n ts) s.children ∙ joined_last (t.Node node.name) n (trees_of s.frames) s.frame.1 (f ∙ s.count)
        ∙ ap (λ name. trees_of s.frames ++ t.Node name s.frame.1 ∷ []) s.name;
    stands = record { k = suc s.k; frames = s.frames; level = s.level; nodes = s.nodes; children = refl; gives = follows levels opens node trees u all s (took false r) e };
  }

-- one child more has been counted
pub counted : (children n : ℕ) (limit : ℕ) (o : Option ℕ) → SomeIff o (children + 1 < limit) (children + 1) → o ≡ Some n → n ≡ children + 1
counted children n limit (Some m) e f = let g : m ≡ n = cc in sym g ∙ e.1
counted children n limit None e f = cc
