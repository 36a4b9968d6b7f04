use Rattle.std.proofs.Common.{◌≡◌, ◌∙◌, sym, arith, inr, codes, None}
use Rattle.clap.specs.Words.{found_of}
use Rattle.lrc_base.specs.declared.limits.TheConstants.{ROW_LIMIT, MEMO_LIMIT, DEPTH_LIMIT, SEED_LIMIT, TREE_LIMIT, SESSION_LIMIT}
use Rattle.lrc_words.specs.CommandLine.{texts, verb_of}
use Rattle.lrc_words.proofs.ParseLemmas.{if_err, number_said, verb_said, within_all}
use Rattle.lrc_words.proofs.reading.read_words.Goals as goal

pub returns-in_err-verb-clause-usage : goal.returns-in_err-verb-clause-usage
returns-in_err-verb-clause-usage c =
    let verb : c.verb.result ≡ verb_of (texts c.args.words.now) = c.verb.ensures ∙ verb_said (texts c.args.words.now) c.in_ok-matches.matches c.in_ok-matches.ensures.ok in
    let none : verb_of (texts c.args.words.now) ≡ None = sym verb ∙ c.in_err-verb.ensures.ok_part in
    if_err c.from_residual-in_err-verb.result _ _ (λ fault gives usage. inr none) c.from_residual-in_err-verb.ensures.1

pub number-requires : goal.number-requires
number-requires c = within_all (found_of c.in_ok-matches.matches) (codes "rows") 1 ROW_LIMIT (omega arith) c.in_ok-matches.ensures.ok.rows

pub number-requires-2 : goal.number-requires-2
number-requires-2 c = within_all (found_of c.in_ok-matches.matches) (codes "memo") 1 MEMO_LIMIT (omega arith) c.in_ok-matches.ensures.ok.memo

pub number-requires-3 : goal.number-requires-3
number-requires-3 c = within_all (found_of c.in_ok-matches.matches) (codes "depth") 1 DEPTH_LIMIT (omega arith) c.in_ok-matches.ensures.ok.depth

pub number-requires-4 : goal.number-requires-4
number-requires-4 c = within_all (found_of c.in_ok-matches.matches) (codes "seed") 0 SEED_LIMIT (omega arith) c.in_ok-matches.ensures.ok.seed

pub number-requires-5 : goal.number-requires-5
number-requires-5 c = within_all (found_of c.in_ok-matches.matches) (codes "nodes") 1 TREE_LIMIT (omega arith) c.in_ok-matches.ensures.ok.nodes

pub number-requires-6 : goal.number-requires-6
number-requires-6 c = within_all (found_of c.in_ok-matches.matches) (codes "sessions") 1 SESSION_LIMIT (omega arith) c.in_ok-matches.ensures.ok.sessions

pub returns-clause-says : goal.returns-clause-says
returns-clause-says c =
    let parse = c.in_ok-matches.ensures.ok in
    let verb : c.verb.result ≡ verb_of (texts c.args.words.now) = c.verb.ensures ∙ verb_said (texts c.args.words.now) c.in_ok-matches.matches parse in
    record {
      taken = parse.taken;
      verb = sym verb ∙ c.in_ok-verb.ensures.ok_part;
      rows = number_said (texts c.args.words.now) c.in_ok-matches.matches (codes "rows") c.number.result parse c.number.ensures.number;
      memo = number_said (texts c.args.words.now) c.in_ok-matches.matches (codes "memo") c.number-2.result parse c.number-2.ensures.number;
      depth = number_said (texts c.args.words.now) c.in_ok-matches.matches (codes "depth") c.number-3.result parse c.number-3.ensures.number;
      seed = number_said (texts c.args.words.now) c.in_ok-matches.matches (codes "seed") c.number-4.result parse c.number-4.ensures.number;
      nodes = number_said (texts c.args.words.now) c.in_ok-matches.matches (codes "nodes") c.number-5.result parse c.number-5.ensures.number;
      sessions = number_said (texts c.args.words.now) c.in_ok-matches.matches (codes "sessions") c.number-6.result parse c.number-6.ensures.number;
    }

pub returns-clause-ranges : goal.returns-clause-ranges
returns-clause-ranges c =
    let parse = c.in_ok-matches.ensures.ok in
    record {
      rows = c.number.ensures.range 1 ROW_LIMIT (omega arith) parse.rows;
      memo = c.number-2.ensures.range 1 MEMO_LIMIT (omega arith) parse.memo;
      depth = c.number-3.ensures.range 1 DEPTH_LIMIT (omega arith) parse.depth;
      seed = (c.number-4.ensures.range 0 SEED_LIMIT (omega arith) parse.seed).1;
      nodes = c.number-5.ensures.range 1 TREE_LIMIT (omega arith) parse.nodes;
      sessions = c.number-6.ensures.range 1 SESSION_LIMIT (omega arith) parse.sessions;
    }
