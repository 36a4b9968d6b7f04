-- Lemmas on printed texts.
use Rattle.std.proofs.Common.{◌≡◌, ℕ, ◌+◌, ◌<◌, List, [], ◌∷◌, ◌++◌, codes, decimal, drop, length, get_or, map, ap, sym, ◌∙◌, refl, Bool, true, false, not, cond, Option, Some, None, eq-eqb, append_assoc}
use Rattle.std.proofs.lemmas.List.{append-nil}
use Rattle.std.proofs.lemmas.Bool.{and_from}
use Rattle.std.proofs.Math.Seq.{drop-length}
use Rattle.lrc_meaning.specs.Tree.{Tree, int, bool, name, node, Trees, none, more, same_tree, same_trees, if_same}
use Rattle.lrc_meaning.specs.Editing.{Reply, values, bad_path, wrong_sort, too_deep, full, unopened, shown, forgot, has_values}
use Rattle.lrc_meaning.specs.Text as text
use Rattle.lrc_meaning.specs.Text.{line_feed, run_text}
use Rattle.lrc_meaning.specs.Grammar.{Grammar}
use Rattle.lrc_grammar.proofs.ListLemmas.{next_left}
use Rattle.lrc_store.specs.Standing.{Standing}
use Rattle.lrc_store.specs.declared.cells.Handle.{Handle}
use Rattle.lrc_run.specs.declared.reply.Line.{Line}
use Rattle.lrc_run.specs.declared.reply.Out.{Out}
use Rattle.lrc_run.specs.declared.reply.Outcome.{Outcome}
use Rattle.lrc_run.specs.declared.reply.Outcome.TheVariants as outcome
use Rattle.lrc_run.specs.Lines.{IsOutcome, AreLines, reply_of}
use Rattle.lrc_run.specs.Counts.{counts_of, stops_counts, counts_text, counted_lines}
use Rattle.lrc_run.specs.Playing.{IsLast}
use Rattle.lrc_cli.specs.Headline.{solo_text}
use Rattle.lrc_threads.specs.Runs.{final_of, finals_of}
use Rattle.lrc_threads.specs.Sessions.{AreBlocks}
use Rattle.lrc_threads.specs.declared.outs.Outs.{Outs}
use Rattle.lrc_cli.specs.Printed.{goes_on, line_counts, numbered_lines, block, blocks, final_text, final_line, final_lines, own_final, one_session, all_sessions}
use Rattle.std.proofs.lemmas.Slice.Eq.{bytes_eq-Decides}
use Rattle.std.proofs.lemmas.Bool.Decides.{Decides-int_eq}

bool_again : (b : Bool) → if_same b b ≡ true
bool_again true = refl
bool_again false = refl

-- a tree is the same as itself
mutual
  pub same_tree-itself : (t : Tree) → same_tree t t ≡ true
  same_tree-itself (int i) = (Decides-int_eq i i).1 refl
  same_tree-itself (bool b) = bool_again b
  same_tree-itself (name n) = (bytes_eq-Decides n n).1 refl
  same_tree-itself (node p kids) = and_from _ _ (eq-eqb p p refl) (same_trees-itself kids)

  same_trees-itself : (ts : Trees) → same_trees ts ts ≡ true
  same_trees-itself none = refl
  same_trees-itself (more t ts) = and_from _ _ (same_tree-itself t) (same_trees-itself ts)

-- what is left to print of the lines
next_lines : (counted : Bool) (i : ℕ) (lines : List Line) (line : Line) → i < length lines → line ≡ get_or lines i line →
    numbered_lines counted i (drop i lines) ≡ decimal i ++ (line.body ++ (line_counts counted line ++ (line_feed ++ numbered_lines (goes_on counted line.outcome) (i + 1) (drop (i + 1) lines))))
next_lines counted i lines line h is = ap (numbered_lines counted i) (next_left lines i line h is)

pub one_line_more : (counted : Bool) (i : ℕ) (lines : List Line) (line : Line) (before after : List ℕ) → i < length lines → line ≡ get_or lines i line →
    after ≡ before ++ (decimal i ++ (line.body ++ (line_counts counted line ++ line_feed))) →
    after ++ numbered_lines (goes_on counted line.outcome) (i + 1) (drop (i + 1) lines) ≡ before ++ numbered_lines counted i (drop i lines)
one_line_more counted i lines line before after h is e =
    let left = next_lines counted i lines line h is in simp (left, e, append_assoc)

-- after the last line nothing is left to print
pub no_line_more : (counted : Bool) (i : ℕ) (lines : List Line) (text : List ℕ) → i ≡ length lines → text ++ numbered_lines counted i (drop i lines) ≡ text
no_line_more counted i lines text e = ap (λ (z : List Line). text ++ numbered_lines counted i z) (ap (λ n. drop n lines) e ∙ drop-length lines) ∙ append-nil text

-- the lines are those of the replies
lines_are : (g : Grammar) (n : ℕ) (replies : List Reply) (lines : List Line) → AreLines g replies lines → text.reply_lines g n replies ≡ numbered_lines false n lines
lines_are g n [] [] are = refl
lines_are g n [] (line ∷ lines) are = absurd are
lines_are g n (reply ∷ replies) [] are = absurd are
lines_are g n (reply ∷ replies) (line ∷ lines) are =
    ap (λ z. decimal n ++ (z ++ (line_feed ++ text.reply_lines g (n + 1) replies))) (sym are.0.body)
    ∙ ap (λ z. decimal n ++ (line.body ++ (line_feed ++ z))) (lines_are g (n + 1) replies lines are.1)

-- a line's outcome tells of its reply whether it has values, and whether it stops the counts
pub kept : (o : Outcome) (reply : Reply) → IsOutcome o reply → (has_values (reply_of o) ≡ has_values reply) × (stops_counts (reply_of o) ≡ stops_counts reply)
kept outcome.Values (values vs) is = (refl, refl)
kept outcome.Values bad_path is = absurd is
kept outcome.Values wrong_sort is = absurd is
kept outcome.Values too_deep is = absurd is
kept outcome.Values full is = absurd is
kept outcome.Values unopened is = absurd is
kept outcome.Values (shown t) is = absurd is
kept outcome.Values forgot is = absurd is
kept outcome.BadPath (values vs) is = absurd is
kept outcome.BadPath bad_path is = (refl, refl)
kept outcome.BadPath wrong_sort is = absurd is
kept outcome.BadPath too_deep is = absurd is
kept outcome.BadPath full is = absurd is
kept outcome.BadPath unopened is = absurd is
kept outcome.BadPath (shown t) is = absurd is
kept outcome.BadPath forgot is = absurd is
kept outcome.WrongSort (values vs) is = absurd is
kept outcome.WrongSort bad_path is = absurd is
kept outcome.WrongSort wrong_sort is = (refl, refl)
kept outcome.WrongSort too_deep is = absurd is
kept outcome.WrongSort full is = absurd is
kept outcome.WrongSort unopened is = absurd is
kept outcome.WrongSort (shown t) is = absurd is
kept outcome.WrongSort forgot is = absurd is
kept outcome.TooDeep (values vs) is = absurd is
kept outcome.TooDeep bad_path is = absurd is
kept outcome.TooDeep wrong_sort is = absurd is
kept outcome.TooDeep too_deep is = (refl, refl)
kept outcome.TooDeep full is = absurd is
kept outcome.TooDeep unopened is = absurd is
kept outcome.TooDeep (shown t) is = absurd is
kept outcome.TooDeep forgot is = absurd is
kept outcome.Full (values vs) is = absurd is
kept outcome.Full bad_path is = absurd is
kept outcome.Full wrong_sort is = absurd is
kept outcome.Full too_deep is = absurd is
kept outcome.Full full is = (refl, refl)
kept outcome.Full unopened is = absurd is
kept outcome.Full (shown t) is = absurd is
kept outcome.Full forgot is = absurd is
kept outcome.Unopened (values vs) is = absurd is
kept outcome.Unopened bad_path is = absurd is
kept outcome.Unopened wrong_sort is = absurd is
kept outcome.Unopened too_deep is = absurd is
kept outcome.Unopened full is = absurd is
kept outcome.Unopened unopened is = (refl, refl)
kept outcome.Unopened (shown t) is = absurd is
kept outcome.Unopened forgot is = absurd is
kept outcome.Shown (values vs) is = absurd is
kept outcome.Shown bad_path is = absurd is
kept outcome.Shown wrong_sort is = absurd is
kept outcome.Shown too_deep is = absurd is
kept outcome.Shown full is = absurd is
kept outcome.Shown unopened is = absurd is
kept outcome.Shown (shown t) is = (refl, refl)
kept outcome.Shown forgot is = absurd is
kept outcome.Forgot (values vs) is = absurd is
kept outcome.Forgot bad_path is = absurd is
kept outcome.Forgot wrong_sort is = absurd is
kept outcome.Forgot too_deep is = absurd is
kept outcome.Forgot full is = absurd is
kept outcome.Forgot unopened is = absurd is
kept outcome.Forgot (shown t) is = absurd is
kept outcome.Forgot forgot is = (refl, refl)

-- what stops the counts has no values
no_values : (reply : Reply) → stops_counts reply ≡ true → has_values reply ≡ false
no_values (values vs) stops = absurd (cc)
no_values bad_path stops = refl
no_values wrong_sort stops = refl
no_values too_deep stops = refl
no_values full stops = refl
no_values unopened stops = refl
no_values (shown t) stops = refl
no_values forgot stops = refl

-- the one session's last tree is that of the first session
final_text-is : (s : Standing) (last : Option Tree) (handle : Option Handle) → IsLast s last handle → text.final_number (last ∷ []) last ≡ final_text (own_final handle)
final_text-is s None None is = refl
final_text-is s None (Some handle) is = absurd is
final_text-is s (Some t) None is = absurd is
final_text-is s (Some t) (Some handle) is = let same = same_tree-itself t in simp (same)

-- the texts of a line, with its counts or behind the last of them
one_counted : (number body told counts plain counted : List ℕ) (numbered : Bool → List ℕ) (stops has : Bool) → told ≡ body → (stops ≡ true → has ≡ false) → plain ≡ numbered false → counted ≡ numbered true →
    cond stops (number ++ (body ++ (line_feed ++ plain))) (number ++ ((body ++ cond has counts []) ++ (line_feed ++ counted)))
    ≡ number ++ (told ++ (cond has counts [] ++ (line_feed ++ numbered (not stops))))
one_counted number body told counts plain counted numbered true has e h p c = let without = h refl in simp (e, p, without)
one_counted number body told counts plain counted numbered false has e h p c = simp (e, c, append_assoc)

-- the lines with counts are those of the replies with theirs
counted_are : (g : Grammar) (n : ℕ) (replies : List Reply) (lines : List Line) → AreLines g replies lines → counted_lines g n replies (map counts_of lines) ≡ numbered_lines true n lines
counted_are g n [] [] are = refl
counted_are g n [] (line ∷ lines) are = absurd are
counted_are g n (reply ∷ replies) [] are = absurd are
counted_are g n (reply ∷ replies) (line ∷ lines) are =
    one_counted (decimal n) (text.reply_body g reply) line.body (counts_text (counts_of line)) (text.reply_lines g (n + 1) replies) (counted_lines g (n + 1) replies (map counts_of lines))
    (λ (b : Bool). numbered_lines b (n + 1) lines) (stops_counts reply) (has_values reply) are.0.body (no_values reply) (lines_are g (n + 1) replies lines are.1) (counted_are g (n + 1) replies lines are.1)
    ∙ ap (λ (b : Bool). decimal n ++ (line.body ++ (cond b (counts_text (counts_of line)) [] ++ (line_feed ++ numbered_lines (not (stops_counts reply)) (n + 1) lines)))) (sym (kept line.outcome reply are.0.outcome).0)
    ∙ ap (λ (b : Bool). decimal n ++ (line.body ++ (line_counts true line ++ (line_feed ++ numbered_lines (not b) (n + 1) lines)))) (sym (kept line.outcome reply are.0.outcome).1)

-- the lines of the one session and its final are those of a run of it with its counts
pub solo_text-one_session : (g : Grammar) (s : Standing) (replies : List Reply) (last : Option Tree) (out : Out) → AreLines g replies out.lines → IsLast s last out.last →
    solo_text g replies (map counts_of out.lines) last ≡ one_session out
solo_text-one_session g s replies last out are is =
    let lines = counted_are g 0 replies out.lines are in
    let final = final_text-is s last out.last is in simp (lines, final, append_assoc)

-- ---- the texts of many sessions

-- the blocks are those of the replies to each session
blocks_are : (g : Grammar) (n : ℕ) (all : List (List Reply)) (sessions : List (List Line)) → AreBlocks g all sessions → text.sessions_text g n all ≡ blocks n sessions
blocks_are g n [] [] are = refl
blocks_are g n [] (lines ∷ rest) are = absurd are
blocks_are g n (replies ∷ all) [] are = absurd are
blocks_are g n (replies ∷ all) (lines ∷ rest) are =
    ap (λ z. (codes "session " ++ (decimal n ++ (line_feed ++ z))) ++ text.sessions_text g (n + 1) all) (lines_are g 0 replies lines are.0)
    ∙ ap (λ z. block false n lines ++ z) (blocks_are g (n + 1) all rest are.1)

final_is : (lasts : List (Option Tree)) (last : Option Tree) → text.final_number lasts last ≡ final_text (final_of lasts last)
final_is lasts None = refl
final_is lasts (Some t) = refl

-- and the finals are those of the last trees
finals_are : (lasts : List (Option Tree)) (n : ℕ) (ls : List (Option Tree)) → text.finals_text lasts n ls ≡ final_lines n (map (final_of lasts) ls)
finals_are lasts n [] = refl
finals_are lasts n (last ∷ rest) =
    let one = final_is lasts last in
    let others = finals_are lasts (n + 1) rest in simp (one, others, append_assoc)

pub run_text-all_sessions : (g : Grammar) (all : List (List Reply)) (lasts : List (Option Tree)) (outs : Outs) → AreBlocks g all outs.sessions → outs.finals ≡ finals_of lasts → run_text g all lasts ≡ all_sessions outs
run_text-all_sessions g all lasts outs are finals =
    ap (λ z. z ++ text.finals_text lasts 1 lasts) (blocks_are g 1 all outs.sessions are)
    ∙ ap (λ z. blocks 1 outs.sessions ++ z) (finals_are lasts 1 lasts ∙ ap (final_lines 1) (sym finals))

-- what is left to print of the blocks, and of the finals
pub one_block_more : (i : ℕ) (sessions : List (List Line)) (lines : List Line) (before after : List ℕ) → i < length sessions → lines ≡ get_or sessions i lines →
    after ≡ before ++ block false (i + 1) lines → after ++ blocks (i + 1 + 1) (drop (i + 1) sessions) ≡ before ++ blocks (i + 1) (drop i sessions)
one_block_more i sessions lines before after h is e =
    let left = ap (blocks (i + 1)) (next_left sessions i lines h is) in simp (left, e, append_assoc)

pub no_block_more : (i : ℕ) (sessions : List (List Line)) (text : List ℕ) → i ≡ length sessions → text ++ blocks (i + 1) (drop i sessions) ≡ text
no_block_more i sessions text e = ap (λ (z : List (List Line)). text ++ blocks (i + 1) z) (ap (λ n. drop n sessions) e ∙ drop-length sessions) ∙ append-nil text

pub one_final_more : (i : ℕ) (finals : List (Option ℕ)) (final : Option ℕ) (before after : List ℕ) → i < length finals → final ≡ get_or finals i final →
    after ≡ before ++ final_line (i + 1) final → after ++ final_lines (i + 1 + 1) (drop (i + 1) finals) ≡ before ++ final_lines (i + 1) (drop i finals)
one_final_more i finals final before after h is e =
    let left = ap (final_lines (i + 1)) (next_left finals i final h is) in simp (left, e, append_assoc)

pub no_final_more : (i : ℕ) (finals : List (Option ℕ)) (text : List ℕ) → i ≡ length finals → text ++ final_lines (i + 1) (drop i finals) ≡ text
no_final_more i finals text e = ap (λ (z : List (Option ℕ)). text ++ final_lines (i + 1) z) (ap (λ n. drop n finals) e ∙ drop-length finals) ∙ append-nil text
