-- What a parse of the command tells of the words.
use Rattle.std.proofs.Common.{◌≡◌, ◌≢◌, ◌∙◌, ◌≤◌, ap, Bool, true, false, List, [], ◌∷◌, codes, refl, sym, inl, inr, arith, ℕ}
use Rattle.std.specs.Prelude.{Result, Ok, Err, Some, option_map, option_and_then}
use Rattle.std.specs.Result.{IfErr, IsErrAnd}
use Rattle.std.specs.List.{list_all}
use Rattle.std.specs.Str.{bytes_eq}
use Rattle.std.proofs.lemmas.Int.{ints}
use Rattle.clap.specs.Built.{IsParsedFrom}
use Rattle.clap.specs.Faults.{fault_of, is_simple_and_free}
use Rattle.clap.specs.Kinds.{HasKind, Kinds}
use Rattle.clap.specs.Matches.{first_value, found_of, one_text}
use Rattle.clap.proofs.WalkLemmas.{first_value-rows, one_text-rows}
use Rattle.clap.specs.Simple.{App, HasMatchesOf, app_of, is_simple, matches_of}
use Rattle.clap.specs.Takes.{takes}
use Rattle.clap.specs.Values.{kind_of}
use Rattle.clap.specs.Walk.{Text, first_of, one_of}
use Rattle.clap.specs.declared.builder.command.Command.{Command}
use Rattle.clap.specs.declared.error.Error.{Error}
use Rattle.clap.specs.declared.error.kind.ErrorKind.{ErrorKind}
use Rattle.clap.specs.declared.error.kind.ErrorKind.TheVariants.{OutOfMemory}
use Rattle.clap.specs.declared.parser.matches.ArgMatches.{ArgMatches}
use Rattle.clap.specs.declared.parser.matches.Found.{Found}
use Rattle.lrc_base.specs.declared.limits.TheConstants.{ROW_LIMIT, MEMO_LIMIT, DEPTH_LIMIT, SEED_LIMIT, TREE_LIMIT, SESSION_LIMIT}
use Rattle.lrc_words.specs.CommandLine.{AreRefused, COMMAND, number_in, number_of, verb_named, verb_of, whole_number}
use Rattle.lrc_words.specs.Parsed.{HasNumber, IsParse}
use Rattle.lrc_words.proofs.CommandLemmas.{depth_rule, has_simple_rules, is_free_command, is_plain_command, is_simple_command, memo_rule, nodes_rule, rows_rule, seed_rule, sessions_rule}
use Rattle.lrc_words.proofs.DefaultLemmas.{has_number}
use Rattle.lrc_words.proofs.RuleLemmas.{named}

option_number : (c : Command) (m : ArgMatches) → app_of c ≡ COMMAND → IsParsedFrom c m → (id usual : Text) (low high : ℕ)
    → named id COMMAND.top.rules ≡ whole_number id low high usual ∷ []
    → bytes_eq id [] ≡ false → bytes_eq id (codes "help") ≡ false → bytes_eq id (codes "version") ≡ false → HasNumber (found_of m) id low high
option_number c m is p id usual low high rule = has_number c m p id usual low high
    (ap (λ (a : App). a.top.is_plain) is ∙ is_plain_command)
    (ap (λ (a : App). list_all (λ r. r.is_simple) a.top.rules) is ∙ has_simple_rules)
    (ap (λ (a : App). named id a.top.rules) is ∙ rule)

pub is_parse : (c : Command) (m : ArgMatches) (words : List Text) → app_of c ≡ COMMAND → IsParsedFrom c m
    → HasMatchesOf (app_of c) words m → (is_simple_and_free (app_of c) ≡ true → fault_of (app_of c) words ≡ [])
    → IsParse words m
is_parse c m words is p matches kinds =
    record {
      taken = ap (λ (a : App). fault_of a words) (sym is) ∙ kinds (ap is_simple_and_free is ∙ is_free_command);
      rows_are = (matches (ap is_simple is ∙ is_simple_command)).0 ∙ ap (λ (a : App). matches_of a words) is;
      rows = option_number c m is p (codes "rows") (codes "262144") 1 ROW_LIMIT rows_rule refl refl refl;
      memo = option_number c m is p (codes "memo") (codes "65536") 1 MEMO_LIMIT memo_rule refl refl refl;
      depth = option_number c m is p (codes "depth") (codes "500") 1 DEPTH_LIMIT depth_rule refl refl refl;
      seed = option_number c m is p (codes "seed") (codes "1") 0 SEED_LIMIT seed_rule refl refl refl;
      nodes = option_number c m is p (codes "nodes") (codes "1000") 1 TREE_LIMIT nodes_rule refl refl refl;
      sessions = option_number c m is p (codes "sessions") (codes "1") 1 SESSION_LIMIT sessions_rule refl refl refl;
    }

not_true : (b : Bool) → (b ≡ true → ⊥) → b ≡ false
not_true true h = absurd (h refl)
not_true false h = refl

has_a_kind : (kinds : Kinds) (e : Error) → HasKind kinds e → kind_of e ≢ OutOfMemory → kinds ≡ [] → ⊥
has_a_kind kinds e (inl out) other none = other out
has_a_kind [] e (inr among) other none = among
has_a_kind (k ∷ ks) e (inr among) other none = cc

pub are_refused : (a : App) (words : List Text) (e : Error) → a ≡ COMMAND
    → (takes a words ≡ true → kind_of e ≡ OutOfMemory)
    → (is_simple_and_free a ≡ true → HasKind (fault_of a words) e)
    → kind_of e ≢ OutOfMemory → AreRefused words
are_refused a words e is passes kinds other =
    let kind = kinds (ap is_simple_and_free is ∙ is_free_command) in (
      ap (λ (x : App). takes x words) (sym is) ∙ not_true (takes a words) (λ taken. other (passes taken)),
      (λ taken. has_a_kind (fault_of a words) e kind other (ap (λ (x : App). fault_of x words) is ∙ taken)),
    )

-- a range that is wider
pub within_all : (found : Found) (name : Text) (low high : ℕ) → high ≤ 4294967295 → HasNumber found name low high → HasNumber found name 0 4294967295
within_all found name low high most number =
    let least = number.2.2 in
    let greatest = number.2.3 in
    (number.0, number.1, (number.2.0, number.2.1, omega (arith, ints), omega (arith, ints)))

-- of an error more is known
pub if_err : {T E : Type 0} (r : Result T E) (P Q : E → Type 0) → ((e : E) → P e → Q e) → IsErrAnd r P → IfErr r Q
if_err (Ok x) P Q more known = absurd known
if_err (Err e) P Q more known = more e known

-- what the getters give, as what the words say
pub number_said : (words : List Text) (m : ArgMatches) (name : Text) (n : ℕ) → IsParse words m
    → option_map number_in (one_text (found_of m) name) ≡ Some n → number_of name words ≡ Some n
number_said words m name n parse read =
    ap (option_map number_in) (ap (one_of name) (sym parse.rows_are) ∙ sym (one_text-rows (found_of m) name)) ∙ read

pub verb_said : (words : List Text) (m : ArgMatches) → IsParse words m
    → option_and_then verb_named (first_value (found_of m) (codes "command")) ≡ verb_of words
verb_said words m parse =
    ap (option_and_then verb_named) (first_value-rows (found_of m) (codes "command") ∙ ap (first_of (codes "command")) parse.rows_are)

-- a fault is some fault
pub some_fault : (kinds : Kinds) (k : ErrorKind) (rest : Kinds) → kinds ≡ k ∷ rest → kinds ≡ [] → ⊥
some_fault kinds k rest is none =
    let bad : k ∷ rest ≡ [] = sym is ∙ none in
    cc
