-- Editing rules: what each edit of a session is answered, and which tree it leaves.
--
-- The rules are this project's own. A reply with values is the attribution of the tree as it is after the edit.
use Rattle.std.specs.Prelude.{◌≡◌, ◌≢◌, ℕ, Bool, true, false, IsTrue, List, [], ◌∷◌, ◌++◌, Option, Some, None, cond, ⊤}
use Rattle.std.specs.Option.{option_map_or}
use Rattle.lrc_base.specs.declared.grammar.Kind.{Kind}
use Rattle.lrc_base.specs.declared.grammar.Kind.TheVariants as k
use Rattle.lrc_base.specs.declared.job.Edit.{Edit}
use Rattle.lrc_base.specs.declared.job.Edit.TheVariants as edit
use Rattle.lrc_meaning.specs.Tree.{Tree, tree, fits, kind_of, at_place, replaced}
use Rattle.lrc_meaning.specs.Grammar.{Grammar}
use Rattle.lrc_meaning.specs.Attribution.{Attributes}

-- an edit of a tree: put a term of a kind at a place, copy the tree at one place to another, show the tree, or
-- forget what is remembered at a place of the store
pub data Change : Type 0 where
  put : List ℕ → Kind → Tree → Change
  copy : List ℕ → List ℕ → Change
  show : Change
  forget : ℕ → Change

-- the change that an `Edit` asks for
abbrev pub change : Edit → Change
change (edit.Put path kind term) = put path.steps kind (tree term)
change (edit.Copy from to) = copy from.steps to.steps
change edit.Show = show
change (edit.Forget place) = forget place

pub data Reply : Type 0 where
  -- the root's synthesised attributes, in order of declaration
  values : List Tree → Reply
  bad_path : Reply
  wrong_sort : Reply
  too_deep : Reply
  full : Reply
  unopened : Reply
  -- the tree's text
  shown : List ℕ → Reply
  forgot : Reply

-- the reply has the values of an attempt
abbrev pub has_values : Reply → Bool
has_values (values vs) = true
has_values bad_path = false
has_values wrong_sort = false
has_values too_deep = false
has_values full = false
has_values unopened = false
has_values (shown text) = false
has_values forgot = false

-- An attempt: the tree that an opening, a put or a copy asked for, once its places were there and of one kind, and
-- whether it was answered with values.
pub record Attempt : Type 0 where
  pub tree : Tree
  pub answered : Bool

abbrev pub tried : Tree → Reply → Attempt
tried t reply = record { tree = t; answered = has_values reply }

-- each edit of a session whose opening failed is answered `unopened`
abbrev pub all_unopened : List Change → List Reply
all_unopened [] = []
all_unopened (c ∷ cs) = unopened ∷ all_unopened cs

-- `full_may_come` says of the earlier attempts of a session and the tree at hand that the store may be full.
module _ (g : Grammar) (limit : ℕ) (text_of : Tree → List ℕ) (full_may_come : List Attempt → Tree → Type 0) where
  -- An attempt at a tree of the start sort, where `before` is the session's tree and `earlier` are its attempts so far:
  -- its attributes, and it is the session's tree; or it has none within the limit, or the store is full, and the session
  -- keeps its tree.
  pub data Attempted (earlier : List Attempt) (before attempt : Tree) : Reply → Tree → Type 0 where
    gives : (vs : List Tree) → Attributes g limit attempt vs → Attempted earlier before attempt (values vs) attempt
    is_too_deep : IsTrue (fits g.prods attempt (k.Sort g.start)) → ((vs : List Tree) → ¬ Attributes g limit attempt vs) → Attempted earlier before attempt too_deep before
    is_full : IsTrue (fits g.prods attempt (k.Sort g.start)) → full_may_come earlier attempt → Attempted earlier before attempt full before

  -- One edit: from the attempts so far and the session's tree to its reply, the attempts and the tree after it. The term
  -- of a put fits the kind beside it.
  pub data EditStep (earlier : List Attempt) (before : Tree) : Change → Reply → List Attempt → Tree → Type 0 where
    put_nowhere : (place : List ℕ) (kind : Kind) (new : Tree) → IsTrue (fits g.prods new kind) → at_place before place ≡ None →
        EditStep earlier before (put place kind new) bad_path earlier before
    put_other_kind : (place : List ℕ) (kind : Kind) (new old : Tree) → IsTrue (fits g.prods new kind) → at_place before place ≡ Some old → kind_of g.prods old ≢ Some kind →
        EditStep earlier before (put place kind new) wrong_sort earlier before
    puts : (place : List ℕ) (kind : Kind) (new old : Tree) (reply : Reply) (after : Tree) → IsTrue (fits g.prods new kind) → at_place before place ≡ Some old → kind_of g.prods old ≡ Some kind →
        Attempted earlier before (replaced before place new) reply after →
        EditStep earlier before (put place kind new) reply (earlier ++ tried (replaced before place new) reply ∷ []) after
    copy_from_nowhere : (from to : List ℕ) → at_place before from ≡ None →
        EditStep earlier before (copy from to) bad_path earlier before
    copy_to_nowhere : (from to : List ℕ) → at_place before to ≡ None →
        EditStep earlier before (copy from to) bad_path earlier before
    copy_other_kind : (from to : List ℕ) (new old : Tree) → at_place before from ≡ Some new → at_place before to ≡ Some old → kind_of g.prods old ≢ kind_of g.prods new →
        EditStep earlier before (copy from to) wrong_sort earlier before
    copies : (from to : List ℕ) (new old : Tree) (reply : Reply) (after : Tree) → at_place before from ≡ Some new → at_place before to ≡ Some old → kind_of g.prods old ≡ kind_of g.prods new →
        Attempted earlier before (replaced before to new) reply after →
        EditStep earlier before (copy from to) reply (earlier ++ tried (replaced before to new) reply ∷ []) after
    shows : EditStep earlier before show (shown (text_of before)) earlier before
    forgets : (place : ℕ) → EditStep earlier before (forget place) forgot earlier before

  -- The edits of an opened session, one after another: their replies, the session's last tree, and all its attempts.
  pub data EditRun : List Attempt → Tree → List Change → List Reply → Tree → List Attempt → Type 0 where
    done : (earlier : List Attempt) (t : Tree) → EditRun earlier t [] [] t earlier
    then : (earlier : List Attempt) (before : Tree) (c : Change) (reply : Reply) (attempts : List Attempt) (after : Tree) (cs : List Change) (replies : List Reply) (last : Tree) (all : List Attempt) →
        EditStep earlier before c reply attempts after → EditRun attempts after cs replies last all →
        EditRun earlier before (c ∷ cs) (reply ∷ replies) last all

  -- A session: its tree and its edits, the replies, its last tree, none where the opening failed, and its attempts.
  pub data ReplyRun (opening : Tree) (changes : List Change) : List Reply → Option Tree → List Attempt → Type 0 where
    opens : (vs : List Tree) (replies : List Reply) (last : Tree) (all : List Attempt) → Attempted [] opening opening (values vs) opening →
        EditRun (tried opening (values vs) ∷ []) opening changes replies last all → ReplyRun opening changes (values vs ∷ replies) (Some last) all
    opens_too_deep : Attempted [] opening opening too_deep opening →
        ReplyRun opening changes (too_deep ∷ all_unopened changes) None (tried opening too_deep ∷ [])
    opens_full : Attempted [] opening opening full opening → ReplyRun opening changes (full ∷ all_unopened changes) None (tried opening full ∷ [])

-- where no store is in the way, no reply is `full`
abbrev pub never_full : List Attempt → Tree → Type 0
never_full earlier attempt = ⊥

-- the reply is one to an attempt
abbrev pub is_of_attempt : Reply → Bool
is_of_attempt (values vs) = true
is_of_attempt bad_path = false
is_of_attempt wrong_sort = false
is_of_attempt too_deep = true
is_of_attempt full = true
is_of_attempt unopened = false
is_of_attempt (shown text) = false
is_of_attempt forgot = false

-- the tree that an edit asks for, where `before` is the session's tree
abbrev pub asked : Tree → Change → Tree
asked before (put place kind new) = replaced before place new
asked before (copy from to) = option_map_or (replaced before to) (at_place before from) before
asked before show = before
asked before (forget place) = before

-- The session's tree after an edit, its last tree, and its attempts, each read off the edits and their replies.
abbrev pub tree_after : Tree → Change → Reply → Tree
tree_after before c reply = cond (has_values reply) (asked before c) before

abbrev pub last_from : Tree → List Change → List Reply → Tree
last_from before [] replies = before
last_from before (c ∷ cs) [] = before
last_from before (c ∷ cs) (r ∷ rs) = last_from (tree_after before c r) cs rs

abbrev pub last_of : Tree → List Change → List Reply → Option Tree
last_of opening changes [] = None
last_of opening changes (r ∷ rs) = cond (has_values r) (Some (last_from opening changes rs)) None

abbrev pub attempts_from : Tree → List Change → List Reply → List Attempt
attempts_from before [] replies = []
attempts_from before (c ∷ cs) [] = []
attempts_from before (c ∷ cs) (r ∷ rs) =
    cond (is_of_attempt r) (tried (asked before c) r ∷ []) [] ++ attempts_from (tree_after before c r) cs rs

abbrev pub attempts_of : Tree → List Change → List Reply → List Attempt
attempts_of opening changes [] = []
attempts_of opening changes (r ∷ rs) = tried opening r ∷ attempts_from opening changes rs

-- `full` may come at every attempt; a run under any other condition is a run under this one
abbrev pub ever_full : List Attempt → Tree → Type 0
ever_full earlier attempt = ⊤

-- a session's last tree and its attempts are fixed by its tree, its edits and their replies
abbrev pub RepliesTellTheRest : Type 0
RepliesTellTheRest =
    (g : Grammar) (limit : ℕ) (text_of : Tree → List ℕ) (opening : Tree) (changes : List Change) (replies : List Reply) (last : Option Tree) (all : List Attempt) →
    ReplyRun g limit text_of ever_full opening changes replies last all → (last ≡ last_of opening changes replies) × (all ≡ attempts_of opening changes replies)
