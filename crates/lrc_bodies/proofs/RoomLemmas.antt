-- Room in frames, one frame more at a time.
use Rattle.std.proofs.Common.{◌≡◌, zero, suc, List, [], ◌∷◌, ◌++◌, slice_get, subst, sym, ap, ◌∙◌, arith}
use Rattle.std.proofs.lemmas.Option.{slice_get_within}
use Rattle.lrc_machine.specs.Machine.{HaveRoom}

pub no_room : {Frame : Type 0} (fits : Frame → Type 0) (frames : List Frame) → frames ≡ [] → HaveRoom fits frames
no_room fits frames none n frame there = let w = slice_get_within [] n frame (ap (λ fs. slice_get fs n) (sym none) ∙ there) in absurd (omega arith)

room_behind : {Frame : Type 0} (fits : Frame → Type 0) (frames : List Frame) (one : Frame) → fits one → HaveRoom fits frames → HaveRoom fits (frames ++ one ∷ [])
room_behind fits [] one fit rooms zero frame there = let same : one ≡ frame = cc in subst fits same fit
room_behind fits [] one fit rooms (suc n) frame there = let w = slice_get_within [] n frame there in absurd (omega arith)
room_behind fits (f ∷ fs) one fit rooms zero frame there = rooms zero frame there
room_behind fits (f ∷ fs) one fit rooms (suc n) frame there = room_behind fits fs one fit (λ k g e. rooms (suc k) g e) n frame there

pub room_more : {Frame : Type 0} (fits : Frame → Type 0) (frames more : List Frame) (one : Frame) → more ≡ frames ++ one ∷ [] → fits one → HaveRoom fits frames → HaveRoom fits more
room_more fits frames more one is fit rooms = subst (HaveRoom fits) (sym is) (room_behind fits frames one fit rooms)
