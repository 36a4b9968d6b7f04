-- A whole put: each end of it answers as an edit does.
use Rattle.std.proofs.Common.{◌≡◌, ℕ, List, None, Result, Ok, Err, IsErrAnd, refl, sym, ◌∙◌, subst}
use Rattle.lrc_base.specs.declared.grammar.Kind.{Kind}
use Rattle.lrc_meaning.specs.Tree.{Tree, replaced}
use Rattle.lrc_visit_meaning.specs.Values.{root_call}
use Rattle.lrc_visit_meaning.specs.Visits.{plain_visit}
use Rattle.lrc_store.specs.Standing.{Standing}
use Rattle.lrc_store.specs.Words.{Gains, LacksOne, Reads}
use Rattle.lrc_store.specs.declared.cells.Handle.{Handle}
use Rattle.lrc_store.proofs.Lasting.{stays-gains, gains-then}
use Rattle.lrc_functions.specs.declared.functions.Functions.{Functions}
use Rattle.lrc_visit.specs.declared.visits.VisitFault.{VisitFault}
use Rattle.lrc_visit.specs.declared.visits.VisitFault.TheVariants as visit
use Rattle.lrc_session.specs.declared.session.Session.{Session}
use Rattle.lrc_session.specs.declared.fault.EditFault.{EditFault}
use Rattle.lrc_session.specs.declared.fault.EditFault.TheVariants as edit
use Rattle.lrc_session.specs.Faults.{edit_fault}
use Rattle.lrc_session.specs.Sessions.{grammar, sorts, demands, HasFrames, IsTooDeep, IsOpen, Opens, EditAnswers, Edits}
use Rattle.lrc_session.specs.Proposals.{IsRootAsked, ProposalAnswers, ProposesPut}
use Rattle.lrc_session.proofs.DeepLemmas.{too_high, put_high}
use Rattle.lrc_session.proofs.FaultLemmas.{is_fault}
use Rattle.lrc_session.proofs.RootLemmas.{root_lacks}
use Rattle.lrc_session.proofs.SessionLemmas.{still_open, asked_later}

module _ (functions : Functions) (s t : Standing) (whole : Tree) (vs : List Tree) (before mid : Session) (steps : List ℕ) (new : Tree) (kind : Kind) where
  abbrev pub changed : Tree
  changed = replaced whole steps new

  refused_answers : (fault : EditFault) → ProposalAnswers functions s t before.depth whole steps new kind (Err fault) → mid.depth ≡ before.depth → IsOpen functions t mid whole vs
      → EditAnswers functions s t whole vs mid steps new kind (Err fault)
  refused_answers edit.BadPath a depth has = (a.0, a.1, has)
  refused_answers edit.WrongSort a depth has = (a.0, a.1, has)
  refused_answers edit.TooDeep a depth has =
      (a.0, subst (λ n. IsTooDeep functions n changed) (sym depth) (too_high (grammar functions) before.depth changed (put_high whole new steps a.0.old before.depth a.0.there a.1)), has)
  refused_answers edit.Full a depth has = (a.0, subst (λ n. LacksOne t (demands functions n changed)) (sym depth) a.1, has)

  -- the first half was refused
  pub refused : (fault : EditFault) (answer : Result (Unit {0}) EditFault) → IsErrAnd answer (λ e. e ≡ fault) → ProposesPut functions s t whole vs before mid steps new kind (Err fault)
      → Edits functions s t whole vs before mid steps new kind answer
  refused fault answer is first = record {
    gains = first.adds.gains;
    depth = first.depth;
    answers = subst (EditAnswers functions s t whole vs mid steps new kind) (sym (is_fault answer fault is)) (refused_answers fault first.answers first.depth first.is_open);
  }

  module _ (call : Handle) (first : ProposesPut functions s t whole vs before mid steps new kind (Ok call)) where
    pub asked : IsRootAsked functions t changed call.0
    asked = first.answers.1

    -- the visit gains no more, and keeps the session
    module _ (u : Standing) (after : Session) (gains : Gains t u (demands functions mid.depth changed)) where
      gains_both : Gains s u (demands functions before.depth changed)
      gains_both = gains-then s t u (demands functions before.depth changed) first.adds.gains (subst (λ n. Gains t u (demands functions n changed)) first.depth gains)

      module _ (tree : after.tree ≡ mid.tree) (values : after.values ≡ mid.values) (depth : after.depth ≡ mid.depth) (frames : HasFrames functions after.frames mid.depth) where
        pub open_on : IsOpen functions u after whole vs
        open_on = still_open functions t u whole vs mid after gains.lasts.known tree values depth (subst (HasFrames functions after.frames) (sym depth) frames) first.is_open

        -- it has no result
        visit_answers : (fault : VisitFault) → ((let visited : Result Handle VisitFault = Err fault in visited ≡ Err visit.Full) → LacksOne u (demands functions mid.depth changed))
            → ((let visited : Result Handle VisitFault = Err fault in visited ≡ Err visit.TooDeep) → plain_visit (grammar functions) (sorts functions) mid.depth (root_call changed) ≡ None)
            → EditAnswers functions s u whole vs after steps new kind (Err (edit_fault fault))
        visit_answers visit.Full full deep = (first.answers.0, subst (λ n. LacksOne u (demands functions n changed)) (sym depth) (full refl), open_on)
        visit_answers visit.TooDeep full deep =
            (first.answers.0, subst (λ n. IsTooDeep functions n changed) (sym depth) (root_lacks (grammar functions) functions.plan.parts mid.depth changed functions.plan.ordered (deep refl)), open_on)

        pub unvisited : (fault : VisitFault) (answer : Result (Unit {0}) EditFault) → IsErrAnd answer (λ e. e ≡ edit_fault fault)
            → ((let visited : Result Handle VisitFault = Err fault in visited ≡ Err visit.Full) → LacksOne u (demands functions mid.depth changed))
            → ((let visited : Result Handle VisitFault = Err fault in visited ≡ Err visit.TooDeep) → plain_visit (grammar functions) (sorts functions) mid.depth (root_call changed) ≡ None)
            → Edits functions s u whole vs before after steps new kind answer
        unvisited fault answer is full deep = record {
          gains = gains_both;
          depth = depth ∙ first.depth;
          answers = subst (EditAnswers functions s u whole vs after steps new kind) (sym (is_fault answer (edit_fault fault) is)) (visit_answers fault full deep);
        }

        pub asked_on : IsRootAsked functions u changed call.0
        asked_on = asked_later functions t u changed call.0 gains.lasts.known asked

      -- the session has its result
      pub edited : (v : Standing) (done : Unit {0}) (last : Session) → Reads u v → last.depth ≡ mid.depth → Opens functions v mid.depth changed last
          → Edits functions s v whole vs before last steps new kind (Ok done)
      edited v done last reads depth opens = record {
        gains = gains-then s u v (demands functions before.depth changed) gains_both (stays-gains u v (demands functions before.depth changed) reads.stays);
        depth = depth ∙ first.depth;
        answers = (first.answers.0, subst (λ n. Opens functions v n changed last) (sym depth) opens);
      }
