-- What is printed for sessions, by their lines and finals: for one with counts, and for many.
use Rattle.std.specs.Prelude.{ℕ, ◌≡◌, ◌+◌, ℤ, ◌+ℤ◌, pos, Bool, true, false, not, cond, ◌&&◌, List, [], ◌∷◌, ◌++◌, length, flat_map, Option, Some, None, codes, decimal}
use Rattle.std.specs.Int.{int_wrap, w64}
use Rattle.std.specs.Fmt.{signed_decimal}
use Rattle.lrc_meaning.specs.Editing.{has_values}
use Rattle.lrc_meaning.specs.Text.{line_feed}
use Rattle.lrc_store.specs.declared.cells.Handle.{Handle}
use Rattle.lrc_run.specs.Counts.{counts_of, stops_counts, counts_text}
use Rattle.lrc_run.specs.Lines.{reply_of}
use Rattle.lrc_run.specs.declared.reply.Line.{Line}
use Rattle.lrc_run.specs.declared.reply.Out.{Out}
use Rattle.lrc_run.specs.declared.reply.Outcome.{Outcome}
use Rattle.lrc_threads.specs.declared.outs.Outs.{Outs}
use Rattle.lrc_cli.specs.declared.summary.Summary.{Summary}

-- whether counts are printed at this outcome and behind it, if they were up to it
abbrev pub goes_on : Bool → Outcome → Bool
goes_on counted outcome = counted && not (stops_counts (reply_of outcome))

-- the counts of a line, where they are printed and it has values
abbrev pub line_counts : Bool → Line → List ℕ
line_counts counted line = cond (counted && has_values (reply_of line.outcome)) (counts_text (counts_of line)) []

-- the lines, numbered from n on
abbrev pub numbered_lines : Bool → ℕ → List Line → List ℕ
numbered_lines counted n [] = []
numbered_lines counted n (line ∷ rest) =
    decimal n ++ (line.body ++ (line_counts counted line ++ (line_feed ++ numbered_lines (goes_on counted line.outcome) (n + 1) rest)))

-- the block of a session, by its number
abbrev pub block : Bool → ℕ → List Line → List ℕ
block counted number lines = codes "session " ++ (decimal number ++ (line_feed ++ numbered_lines counted 0 lines))

-- the blocks of sessions, numbered from n on
abbrev pub blocks : ℕ → List (List Line) → List ℕ
blocks n [] = []
blocks n (lines ∷ rest) = block false n lines ++ blocks (n + 1) rest

-- the final of a session
abbrev pub final_text : Option ℕ → List ℕ
final_text (Some first) = decimal first
final_text None = codes "-"

abbrev pub final_line : ℕ → Option ℕ → List ℕ
final_line number final = codes "final " ++ (decimal number ++ (codes " " ++ (final_text final ++ line_feed)))

-- the finals of sessions, numbered from n on
abbrev pub final_lines : ℕ → List (Option ℕ) → List ℕ
final_lines n [] = []
final_lines n (final ∷ rest) = final_line n final ++ final_lines (n + 1) rest

-- the one session's last tree is the first of its kind
abbrev pub own_final : Option Handle → Option ℕ
own_final (Some last) = Some 1
own_final None = None

-- what is printed of one session, with counts
abbrev pub one_session : Out → List ℕ
one_session out = block true 1 out.lines ++ final_line 1 (own_final out.last)

-- what is printed of the sessions of a job
abbrev pub all_sessions : Outs → List ℕ
all_sessions outs = blocks 1 outs.sessions ++ final_lines 1 outs.finals

-- how many of the lines have no values
abbrev pub refused_lines : List Line → ℕ
refused_lines [] = 0
refused_lines (line ∷ lines) = cond (has_values (reply_of line.outcome)) 0 1 + refused_lines lines

-- the sum of their first numbers
abbrev pub total_of_lines : List Line → ℤ
total_of_lines [] = pos 0
total_of_lines (line ∷ lines) = line.first +ℤ total_of_lines lines

-- what is summed up of lines
pub record IsSumOf (lines : List Line) (summary : Summary) : Type 0 where
  pub replies : summary.replies ≡ length lines
  pub refused : summary.refused ≡ refused_lines lines
  pub sum : summary.sum ≡ int_wrap w64 (total_of_lines lines)

-- the lines of all sessions
abbrev pub lines_of : Outs → List Line
lines_of outs = flat_map (λ (lines : List Line). lines) outs.sessions

-- what is printed of a summary
abbrev pub summary_body : Summary → List ℕ
summary_body summary =
    codes "replies " ++ (decimal summary.replies ++ (line_feed
    ++ (codes "refused " ++ (decimal summary.refused ++ (line_feed
    ++ (codes "sum " ++ (signed_decimal summary.sum ++ line_feed)))))))
