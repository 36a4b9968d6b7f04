use Rattle.std.proofs.Common.{List, flat_map, subst, append_assoc}
use native.Mathlib.Omega.{arith}
use Rattle.lrc_run.specs.declared.reply.Line.{Line}
use Rattle.lrc_cli.specs.Printed.{IsSumOf}
use Rattle.lrc_cli.proofs.summary.summary_text.Goals as goal

pub returns : goal.returns
returns c = (
  c.in_ok-summary.summary,
  subst (λ (ls : List (List Line)). IsSumOf (flat_map (λ (lines : List Line). lines) ls) c.in_ok-summary.summary) c.as_slice.ensures c.in_ok-summary.ensures,
  grind (arith, append_assoc),
)
