-- The first half of a copy: where a part stands at the first place, it ends as the first half of a put of that part does.
use Rattle.std.proofs.Common.{◌≡◌, IsTrue, ℕ, List, Some, Result, Ok, Err, IsErrAnd, sym, ap, ◌∙◌, subst, arith}
use Rattle.lrc_base.specs.declared.grammar.Kind.{Kind}
use Rattle.lrc_base.specs.declared.grammar.Kind.TheVariants as k
use Rattle.lrc_base.specs.declared.grammar.Production.{Production}
use Rattle.lrc_meaning.specs.Tree.{Tree, fits, tree_height, at_place, kind_of, replaced}
use Rattle.lrc_visit_meaning.specs.Values.{root_call}
use Rattle.lrc_store.specs.Cells.{parts as parts_of}
use Rattle.lrc_store.specs.Standing.{Standing, Stands}
use Rattle.lrc_store.specs.declared.cells.Handle.{Handle}
use Rattle.lrc_store.specs.declared.stores.Full.{Full}
use Rattle.lrc_store.proofs.Lasting.{lacks-more}
use Rattle.lrc_code.specs.Forms.{tree_cell}
use Rattle.lrc_code.specs.Building.{Builds}
use Rattle.lrc_call_meaning.specs.Forms.{call_form}
use Rattle.lrc_call_meaning.specs.Spelled.{IsSpelledName}
use Rattle.lrc_places.specs.Replacing.{Replaces}
use Rattle.lrc_places.specs.Copying.{PartAnswers, CopiesPart, Copies, from_nowhere, of_part}
use Rattle.lrc_places.specs.declared.copying.CopyFault.{CopyFault}
use Rattle.lrc_places.specs.declared.copying.CopyFault.TheVariants as copy
use Rattle.lrc_places.proofs.PlaceLemmas.{named-place}
use Rattle.lrc_places.proofs.DeclaredLemmas.{declared-kind, fits-declared}
use Rattle.lrc_functions.specs.declared.functions.Functions.{Functions}
use Rattle.lrc_session.specs.declared.session.Session.{Session}
use Rattle.lrc_session.specs.declared.fault.EditFault.{EditFault}
use Rattle.lrc_session.specs.declared.fault.EditFault.TheVariants as edit
use Rattle.lrc_session.specs.Faults.{copy_fault}
use Rattle.lrc_session.specs.Sessions.{IsStartTree, IsOpen}
use Rattle.lrc_session.specs.Proposals.{ProposalAnswers}
use Rattle.lrc_session.specs.Copying.{ProposesCopy, proposes_nothing, proposes_part}
use Rattle.lrc_session.proofs.FaultLemmas.{is_fault}
use Rattle.lrc_session.proofs.PutLemmas.{changed, needed, tree_needed, open_after, stopped, stopped_at_call, proposed}

module _ (functions : Functions) (whole : Tree) (from to : List ℕ) where
  abbrev prods : List Production
  prods = functions.plan.grammar.prods

  -- what copying answers, where the plan's productions were read
  pub copied_by_plan : (s t : Standing) (root : ℕ) (read : List Production) (answer : Result Handle CopyFault) → read ≡ prods → IsStartTree functions whole → Stands s root (tree_cell whole)
      → ((w : Tree) (sort : Kind) → IsTrue (fits read w sort) → Stands s root (tree_cell w) → Copies read s t w from to answer) → Copies prods s t whole from to answer
  copied_by_plan s t root read answer same fitting stands copies =
      let start = k.Sort functions.plan.grammar.start in
      subst (λ ps. Copies ps s t whole from to answer) same (copies whole start (subst (λ ps. IsTrue (fits ps whole start)) (sym same) fitting) stands)

  module _ (new : Tree) (kind : Kind) where
    -- where the part was not copied
    part_answers : (s t : Standing) (limit : ℕ) (fault : CopyFault) → PartAnswers prods s t whole to new kind (Err fault) → ProposalAnswers functions s t limit whole to new kind (Err (copy_fault fault))
    part_answers s t limit copy.BadPath a = a
    part_answers s t limit copy.WrongSort a = a
    part_answers s t limit copy.Full a =
        (a.0, lacks-more t (parts_of (tree_cell (changed functions whole to new kind))) (needed functions whole to new kind limit) (tree_needed functions whole to new kind limit) a.1)

    -- a copy of the part is a put of it, where the limit is its own height
    as_put : (s t : Standing) (root : Handle) → CopiesPart prods s t whole to new kind (Ok root) → Replaces prods s t whole to new kind (tree_height new) (Ok root)
    as_put s t root did = record { adds = did.adds; answers = (did.answers.0, omega arith, did.answers.1) }

    -- a part of the tree fits its kind
    part_fits : IsStartTree functions whole → at_place whole from ≡ Some new → kind_of prods new ≡ Some kind → IsTrue (fits prods new kind)
    part_fits fitting there of_kind =
        let start = k.Sort functions.plan.grammar.start in
        fits-declared prods whole new start kind from fitting there (declared-kind prods whole new start kind from fitting there of_kind)

  module _ (s : Standing) (vs : List Tree) (before after : Session) (h : IsOpen functions s before whole vs) (tree : after.tree ≡ before.tree) (values : after.values ≡ before.values)
      (depth : after.depth ≡ before.depth) (runs : after.runs ≡ before.runs) (levels : after.frames.levels ≡ before.frames.levels)
      (room : after.frames.stack.room ≡ before.frames.stack.room) where
    -- nothing was copied
    pub uncopied : (t : Standing) (fault : CopyFault) (answer : Result Handle EditFault) → IsErrAnd answer (λ e. e ≡ copy_fault fault) → Copies prods s t whole from to (Err fault)
        → ProposesCopy functions s t whole vs before after from to answer
    uncopied t fault answer is (from_nowhere none was reads) =
        let path : fault ≡ copy.BadPath = cc in
        proposes_nothing (is_fault answer (copy_fault fault) is ∙ ap (λ f. Err (copy_fault f)) path)
        (record { none = none; reads = reads; is_open = open_after functions whole to whole k.Int s vs before after h tree values depth runs levels room t reads.stays.lasts.known; depth = depth; runs = runs })
    uncopied t fault answer is (of_part new kind there of_kind did) =
        proposes_part new kind there of_kind
        (stopped functions whole to new kind s vs before after h tree values depth runs levels room t (copy_fault fault) answer is did.adds (part_answers new kind s t before.depth fault did.answers))

    module _ (t u : Standing) (root : Handle) where
      -- the call can't be put
      pub copy_uncalled : (e : Full) (answer : Result Handle EditFault) → IsErrAnd answer (λ f. f ≡ edit.Full)
          → ((w : Tree) → Stands t root.0 (tree_cell w) → Builds t u (call_form (root_call w)) (Err e)) → Copies prods s t whole from to (Ok root)
          → ProposesCopy functions s u whole vs before after from to answer
      copy_uncalled e answer is built (from_nowhere none was reads) = absurd (cc)
      copy_uncalled e answer is built (of_part new kind there of_kind did) =
          let put = as_put new kind s t root did in
          proposes_part new kind there of_kind
          (stopped_at_call functions whole to new kind s vs before after h tree values depth runs levels room t u root (tree_height new) put e answer is (built (replaced whole to new) put.answers.2.stands))

      -- all is there
      pub copy_called : (call : Handle) → ((w : Tree) → Stands t root.0 (tree_cell w) → Builds t u (call_form (root_call w)) (Ok call)) → Copies prods s t whole from to (Ok root)
          → ProposesCopy functions s u whole vs before after from to (Ok call)
      copy_called call built (from_nowhere none was reads) = absurd (cc)
      copy_called call built (of_part new kind there of_kind did) =
          let put = as_put new kind s t root did in
          proposes_part new kind there of_kind
          (proposed functions whole to new kind s vs before after h tree values depth runs levels room t u root (tree_height new) put call (part_fits new kind h.fitting there of_kind)
          (named-place IsSpelledName whole new from h.spelled there) (built (replaced whole to new) put.answers.2.stands))
