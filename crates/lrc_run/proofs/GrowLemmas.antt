-- A store that gains at most rows of some cells, step by step.
use Rattle.std.proofs.Common.{[], ◌++◌}
use Rattle.std.proofs.lemmas.List.Elements.{Contains-append_left, Contains-append_right}
use Rattle.lrc_store.specs.Standing.{Standing}
use Rattle.lrc_store.specs.Words.{Reads}
use Rattle.lrc_store.proofs.Lasting.{stays-gains, gains-same, gains-then, gains-more}
use Rattle.lrc_run.specs.Editing.{GainsSome}

pub some_same : (s : Standing) → GainsSome s s
some_same s = ([], gains-same s [])

pub some_read : (s t : Standing) → Reads s t → GainsSome s t
some_read s t reads = ([], stays-gains s t [] reads.stays)

pub some_then : (s t u : Standing) → GainsSome s t → GainsSome t u → GainsSome s u
some_then s t u (xs, first) (ys, then) = (
  xs ++ ys,
  gains-then s t u (xs ++ ys)
      (gains-more s t xs (xs ++ ys) (λ cell h. Contains-append_left xs ys cell h) first)
      (gains-more t u ys (xs ++ ys) (λ cell h. Contains-append_right xs ys cell h) then),
)
