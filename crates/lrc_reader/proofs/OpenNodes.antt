-- The open nodes of a term that is being read, the innermost last, and the whole that their readings give.
use Rattle.std.proofs.Common.{◌≡◌, ℕ, suc, ◌+◌, Bool, true, false, List, [], ◌∷◌, ◌++◌, length, refl, subst, arith, length-append}
use Rattle.lrc_base.specs.declared.raw_term.RawTermTree.{RawTermTree}
use Rattle.lrc_parse.specs.Reading.{Cause, Reading, took, stops}
use Rattle.lrc_reader.specs.declared.lexeme.Lexeme.{Lexeme}
use Rattle.lrc_reader.specs.declared.term.OpenNode.{OpenNode}
use Rattle.lrc_reader.specs.Reading.{read_term_at}
use Rattle.lrc_reader.proofs.TermSteps.{Frame, after}

-- the nodes whose children are being read stand here with the innermost first
abbrev pub open_of : Frame → OpenNode
open_of f = record { name = f.0; children = length f.1 }

abbrev pub opens_of : List Frame → List OpenNode
opens_of [] = []
opens_of (f ∷ fs) = opens_of fs ++ open_of f ∷ []

-- their children so far
abbrev pub trees_of : List Frame → List RawTermTree
trees_of [] = []
trees_of (f ∷ fs) = trees_of fs ++ f.1

-- the outermost of them, where this was read of the next child of the innermost, which has at most k terms within one another
abbrev pub resume : ℕ → List Frame → Reading Lexeme RawTermTree → Reading Lexeme RawTermTree
resume k [] o = o
resume k (f ∷ fs) o = resume (suc k) fs (after k f o)

pub resume_stops : (k : ℕ) (fs : List Frame) (c : Cause) (r : List Lexeme) → resume k fs (stops c r) ≡ stops c r
resume_stops k [] c r = refl
resume_stops k (f ∷ fs) c r = resume_stops (suc k) fs c r

pub length_opens : (fs : List Frame) → length (opens_of fs) ≡ length fs
length_opens [] = refl
length_opens (f ∷ fs) =
    let e : length (opens_of fs ++ open_of f ∷ []) ≡ length (opens_of fs) + 1 = length-append (opens_of fs) (open_of f ∷ []) in
    let g : length (opens_of fs) ≡ length fs = length_opens fs in omega (arith, e, g)

-- With these open nodes and these trees that no node has taken, what is read of the next child gives the whole.
pub record Stands (levels : ℕ) (opens : List OpenNode) (trees : List RawTermTree) (next : ℕ → Reading Lexeme RawTermTree) (whole : Reading Lexeme RawTermTree) : Type 0 where
  pub k : ℕ
  pub frames : List Frame
  pub level : k + length frames ≡ levels
  pub nodes : opens ≡ opens_of frames
  pub children : trees ≡ trees_of frames
  pub gives : resume k frames (next k) ≡ whole

-- a term begins with the rest
abbrev pub Begins : ℕ → List OpenNode → List RawTermTree → List Lexeme → Reading Lexeme RawTermTree → Type 0
Begins levels opens trees rest whole = Stands levels opens trees (λ k. read_term_at k rest) whole

-- the last of the trees has ended before the rest
pub record Ends (levels : ℕ) (opens : List OpenNode) (trees : List RawTermTree) (rest : List Lexeme) (whole : Reading Lexeme RawTermTree) : Type 0 where
  pub last : RawTermTree
  pub before : List RawTermTree
  pub split : trees ≡ before ++ last ∷ []
  pub stands : Stands levels opens before (λ _. took last rest) whole

-- a term begins, or the last of the trees has ended
abbrev pub Reads : Bool → ℕ → List OpenNode → List RawTermTree → List Lexeme → Reading Lexeme RawTermTree → Type 0
Reads true levels opens trees rest whole = Ends levels opens trees rest whole
Reads false levels opens trees rest whole = Begins levels opens trees rest whole

pub begins_there : (ended : Bool) (levels : ℕ) (opens : List OpenNode) (trees : List RawTermTree) (rest : List Lexeme) (whole : Reading Lexeme RawTermTree) →
    ended ≡ false → Reads ended levels opens trees rest whole → Begins levels opens trees rest whole
begins_there ended levels opens trees rest whole e s = subst (λ b. Reads b levels opens trees rest whole) e s

pub ends_there : (ended : Bool) (levels : ℕ) (opens : List OpenNode) (trees : List RawTermTree) (rest : List Lexeme) (whole : Reading Lexeme RawTermTree) →
    ended ≡ true → Reads ended levels opens trees rest whole → Ends levels opens trees rest whole
ends_there ended levels opens trees rest whole e s = subst (λ b. Reads b levels opens trees rest whole) e s
