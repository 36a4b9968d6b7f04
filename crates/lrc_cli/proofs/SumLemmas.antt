-- What is summed up of lines is so of their replies.
use Rattle.std.proofs.Common.{◌≡◌, ℕ, ◌+◌, ℤ, ◌+ℤ◌, pos, Bool, true, false, cond, List, [], ◌∷◌, ◌++◌, length, take, get_or, flat_map, ◌<◌, append_assoc, subst, sym, ap, ◌∙◌, refl, arith}
use Rattle.std.proofs.lemmas.List.{length-append, append-nil, take_more, take_all}
use Rattle.std.proofs.lemmas.Grind.{flat_map-append}
use Rattle.std.specs.Int.{int_wrap, w64}
use Rattle.std.proofs.Math.IntN.{+ℤ_comm, +ℤ_assoc}
use Rattle.std.proofs.lemmas.Int.{int_wrap-add_left, int_wrap_fits}
use Rattle.lrc_meaning.specs.Grammar.{Grammar}
use Rattle.lrc_meaning.specs.Editing.{Reply, has_values}
use Rattle.lrc_run.specs.declared.reply.Line.{Line}
use Rattle.lrc_run.specs.Lines.{AreLines, number_of, reply_of}
use Rattle.lrc_threads.specs.Sessions.{AreBlocks}
use Rattle.lrc_threads.specs.declared.outs.Outs.{Outs}
use Rattle.lrc_cli.specs.Printed.{refused_lines, total_of_lines, IsSumOf, lines_of, summary_body}
use Rattle.lrc_cli.specs.Summary.{refused, total, all_of, summary_text}
use Rattle.lrc_cli.specs.declared.summary.Summary.{Summary}
use Rattle.lrc_cli.proofs.TextLemmas.{kept}

-- ---- one line more

pub refused_more : (lines : List Line) (line : Line) → refused_lines (lines ++ line ∷ []) ≡ refused_lines lines + cond (has_values (reply_of line.outcome)) 0 1
refused_more [] line = omega arith
refused_more (l ∷ lines) line = let more = refused_more lines line in omega arith

pub total_more : (lines : List Line) (line : Line) → total_of_lines (lines ++ line ∷ []) ≡ total_of_lines lines +ℤ line.first
total_more [] line = +ℤ_comm line.first (pos 0)
total_more (l ∷ lines) line = ap (λ (n : ℤ). l.first +ℤ n) (total_more lines line) ∙ sym (+ℤ_assoc l.first (total_of_lines lines) line.first)

-- a summary with a line more
pub sum_more : (lines : List Line) (line : Line) (before after : Summary) → IsSumOf lines before → after.replies ≡ before.replies + 1 → after.refused ≡ before.refused + cond (has_values (reply_of line.outcome)) 0 1
    → after.sum ≡ int_wrap w64 (before.sum +ℤ line.first) → IsSumOf (lines ++ line ∷ []) after
sum_more lines line before after is replies refused sum = record {
  replies = let had = is.replies in let more = length-append lines (line ∷ []) in omega arith;
  refused = let had = is.refused in let more = refused_more lines line in omega arith;
  sum = sum ∙ ap (λ (n : ℤ). int_wrap w64 (n +ℤ line.first)) is.sum ∙ int_wrap-add_left w64 (total_of_lines lines) line.first ∙ ap (int_wrap w64) (sym (total_more lines line));
}

-- one line more was taken in, and the lines of one session more
pub one_line_in : (before lines : List Line) (i : ℕ) (line : Line) (summary after : Summary) → i < length lines → line ≡ get_or lines i line → IsSumOf (before ++ take i lines) summary
    → ((ls : List Line) → IsSumOf ls summary → IsSumOf (ls ++ line ∷ []) after) → IsSumOf (before ++ take (i + 1) lines) after
one_line_in before lines i line summary after h is so_far more =
    subst (λ (ls : List Line). IsSumOf ls after) (append_assoc before (take i lines) (line ∷ []) ∙ ap (λ (ls : List Line). before ++ ls) (ap (λ (l : Line). take i lines ++ l ∷ []) is ∙ sym (take_more lines i line h)))
    (more (before ++ take i lines) so_far)

pub all_lines_in : (before lines : List Line) (i : ℕ) (summary : Summary) → i ≡ length lines → IsSumOf (before ++ take i lines) summary → IsSumOf (before ++ lines) summary
all_lines_in before lines i summary e so_far = subst (λ (ls : List Line). IsSumOf (before ++ ls) summary) (take_all i lines (omega arith)) so_far

-- ---- the sums of replies

lines_join : (g : Grammar) (rs qs : List Reply) (ls ms : List Line) → AreLines g rs ls → AreLines g qs ms → AreLines g (rs ++ qs) (ls ++ ms)
lines_join g [] qs [] ms a b = b
lines_join g [] qs (l ∷ ls) ms a b = absurd a
lines_join g (r ∷ rs) qs [] ms a b = absurd a
lines_join g (r ∷ rs) qs (l ∷ ls) ms a b = (a.0, lines_join g rs qs ls ms a.1 b)

all_lines : (g : Grammar) (all : List (List Reply)) (sessions : List (List Line)) → AreBlocks g all sessions → AreLines g (all_of all) (flat_map (λ (lines : List Line). lines) sessions)
all_lines g [] [] are = tt
all_lines g [] (ls ∷ rest) are = absurd are
all_lines g (rs ∷ all) [] are = absurd are
all_lines g (rs ∷ all) (ls ∷ rest) are = lines_join g rs (all_of all) ls (flat_map (λ (lines : List Line). lines) rest) are.0 (all_lines g all rest are.1)

same_length : (g : Grammar) (rs : List Reply) (ls : List Line) → AreLines g rs ls → length ls ≡ length rs
same_length g [] [] are = refl
same_length g [] (l ∷ ls) are = absurd are
same_length g (r ∷ rs) [] are = absurd are
same_length g (r ∷ rs) (l ∷ ls) are = let rest = same_length g rs ls are.1 in omega arith

same_refused : (g : Grammar) (rs : List Reply) (ls : List Line) → AreLines g rs ls → refused_lines ls ≡ refused rs
same_refused g [] [] are = refl
same_refused g [] (l ∷ ls) are = absurd are
same_refused g (r ∷ rs) [] are = absurd are
same_refused g (r ∷ rs) (l ∷ ls) are =
    ap (λ (b : Bool). cond b 0 1 + refused_lines ls) (kept l.outcome r are.0.outcome).0 ∙ ap (λ (n : ℕ). cond (has_values r) 0 1 + n) (same_refused g rs ls are.1)

same_total : (g : Grammar) (rs : List Reply) (ls : List Line) → AreLines g rs ls → total_of_lines ls ≡ total rs
same_total g [] [] are = refl
same_total g [] (l ∷ ls) are = absurd are
same_total g (r ∷ rs) [] are = absurd are
same_total g (r ∷ rs) (l ∷ ls) are = ap (λ (n : ℤ). n +ℤ total_of_lines ls) are.0.first ∙ ap (λ (n : ℤ). number_of r +ℤ n) (same_total g rs ls are.1)

-- the summary of the lines is that of the replies
pub summary_text-lines : (g : Grammar) (all : List (List Reply)) (outs : Outs) (summary : Summary) → AreBlocks g all outs.sessions → IsSumOf (lines_of outs) summary → summary_text all ≡ summary_body summary
summary_text-lines g all outs summary are sum =
    let lines = all_lines g all outs.sessions are in
    let replies : summary.replies ≡ length (all_of all) = sum.replies ∙ same_length g (all_of all) (lines_of outs) lines in
    let none : summary.refused ≡ refused (all_of all) = sum.refused ∙ same_refused g (all_of all) (lines_of outs) lines in
    let whole : summary.sum ≡ int_wrap w64 (total (all_of all)) = sum.sum ∙ ap (int_wrap w64) (same_total g (all_of all) (lines_of outs) lines) in
    simp (replies, none, whole)

-- ---- sessions one after another

pub nothing_summed : IsSumOf [] (record { replies = 0; refused = 0; sum = pos 0 })
nothing_summed = record { replies = refl; refused = refl; sum = sym (int_wrap_fits w64 (pos 0) (grind arith)) }

pub one_session_in : (sessions : List (List Line)) (i : ℕ) (session lines : List Line) (summary after : Summary) → i < length sessions → session ≡ get_or sessions i session → lines ≡ session
    → IsSumOf (flat_map (λ (ls : List Line). ls) (take i sessions)) summary → ((before : List Line) → IsSumOf before summary → IsSumOf (before ++ lines) after) → IsSumOf (flat_map (λ (ls : List Line). ls) (take (i + 1) sessions)) after
one_session_in sessions i session lines summary after h is same so_far more =
    subst (λ (ls : List Line). IsSumOf ls after)
    (ap (λ (ls : List Line). flat_map (λ (l : List Line). l) (take i sessions) ++ ls) same ∙ sym (flat_more sessions i session h is))
    (more (flat_map (λ (ls : List Line). ls) (take i sessions)) so_far)
  where
    flat_more : (sessions : List (List Line)) (i : ℕ) (session : List Line) → i < length sessions → session ≡ get_or sessions i session
        → flat_map (λ (l : List Line). l) (take (i + 1) sessions) ≡ flat_map (λ (l : List Line). l) (take i sessions) ++ session
    flat_more sessions i session h is =
        ap (flat_map (λ (l : List Line). l)) (take_more sessions i session h ∙ ap (λ (x : List Line). take i sessions ++ x ∷ []) (sym is))
        ∙ flat_map-append (λ (l : List Line). l) (take i sessions) (session ∷ []) ∙ ap (λ (ls : List Line). flat_map (λ (l : List Line). l) (take i sessions) ++ ls) (append-nil session)
