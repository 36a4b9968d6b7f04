-- What holds of the command.
use Rattle.std.proofs.Common.{◌≡◌, true, [], ◌∷◌, codes, refl}
use Rattle.std.specs.List.{list_all}
use Rattle.clap.specs.Words.{is_simple}
use Rattle.clap.specs.Faults.{is_simple_and_free}
use Rattle.lrc_base.specs.declared.limits.TheConstants.{ROW_LIMIT, MEMO_LIMIT, DEPTH_LIMIT, SEED_LIMIT, TREE_LIMIT, SESSION_LIMIT}
use Rattle.lrc_words.specs.CommandLine.{COMMAND, whole_number}
use Rattle.lrc_words.proofs.RuleLemmas.{named}

pub is_simple_command : is_simple COMMAND ≡ true
unfolding COMMAND
is_simple_command = refl

pub is_free_command : is_simple_and_free COMMAND ≡ true
unfolding COMMAND
is_free_command = refl

pub is_plain_command : COMMAND.top.is_plain ≡ true
unfolding COMMAND
is_plain_command = refl

pub has_simple_rules : list_all (λ r. r.is_simple) COMMAND.top.rules ≡ true
unfolding COMMAND
has_simple_rules = refl

pub rows_rule : named (codes "rows") COMMAND.top.rules ≡ whole_number (codes "rows") 1 ROW_LIMIT (codes "262144") ∷ []
unfolding COMMAND
rows_rule = refl

pub memo_rule : named (codes "memo") COMMAND.top.rules ≡ whole_number (codes "memo") 1 MEMO_LIMIT (codes "65536") ∷ []
unfolding COMMAND
memo_rule = refl

pub depth_rule : named (codes "depth") COMMAND.top.rules ≡ whole_number (codes "depth") 1 DEPTH_LIMIT (codes "500") ∷ []
unfolding COMMAND
depth_rule = refl

pub seed_rule : named (codes "seed") COMMAND.top.rules ≡ whole_number (codes "seed") 0 SEED_LIMIT (codes "1") ∷ []
unfolding COMMAND
seed_rule = refl

pub nodes_rule : named (codes "nodes") COMMAND.top.rules ≡ whole_number (codes "nodes") 1 TREE_LIMIT (codes "1000") ∷ []
unfolding COMMAND
nodes_rule = refl

pub sessions_rule : named (codes "sessions") COMMAND.top.rules ≡ whole_number (codes "sessions") 1 SESSION_LIMIT (codes "1") ∷ []
unfolding COMMAND
sessions_rule = refl
