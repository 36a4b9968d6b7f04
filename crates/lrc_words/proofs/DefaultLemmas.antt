-- An option with a default and a range has a text that passed, whether it was given or not.
use Rattle.std.proofs.Common.{◌≡◌, ◌∙◌, ◌<◌, ◌≤◌, ap, ℕ, zero, suc, Bool, true, false, List, [], ◌∷◌, length, map, is_some, Option, Some, None, refl, sym, subst, inl, inr, arith, codes}
use Rattle.std.specs.List.{All, Any, list_all, slice_index_or}
use Rattle.std.specs.Prelude.{find, option_map, option_and_then, unwrap_or, slice_get, pos}
use Rattle.std.specs.Str.{bytes_eq}
use Rattle.std.specs.Borrow.{Bor}
use Rattle.std.proofs.lemmas.Bool.{cases_lt}
use Rattle.std.proofs.lemmas.Slice.Eq.{bytes_eq-Decides}
use Rattle.std.proofs.lemmas.List.Elements.{All-drop, All-get_or}
use Rattle.clap.specs.Built.{IsAuto, IsParsedFrom, SameRules}
use Rattle.clap.specs.Facts.{AllowsNone, Entry, EntryPasses, EntryValuesPass, HasId, HasReading, IsCountArg, IsFilledEntry, IsGroupEntry, MayBeEmpty, ReadsByParser, ValuesPass, PassesArg, args_of, groups_of, least_values, parser_of, parser_of_value}
use Rattle.clap.specs.Matches.{found_of, matched_of}
use Rattle.clap.specs.Simple.{app_of}
use Rattle.clap.specs.Values.{Accepts, IsSignedIn, read_as, reading_of}
use Rattle.clap.specs.Lexer.{without_minus}
use Rattle.clap.specs.Walk.{Text, is_empty, rule_of}
use Rattle.clap.specs.declared.builder.action.ArgAction.{ArgAction}
use Rattle.clap.specs.declared.builder.action.ArgAction.TheVariants.{Count, Set}
use Rattle.clap.specs.declared.builder.arg.Arg.{Arg}
use Rattle.clap.specs.declared.builder.command.Command.{Command}
use Rattle.clap.specs.declared.builder.command.Command.TheViews.{out-Command}
use Rattle.clap.specs.declared.builder.value_parser.Reading.{Reading}
use Rattle.clap.specs.declared.builder.value_parser.Reading.TheVariants.{WithoutMinus}
use Rattle.clap.specs.declared.builder.value_parser.ValueParser.{ValueParser}
use Rattle.clap.specs.declared.builder.value_parser.ValueParser.TheVariants.{Signed}
use Rattle.clap.specs.declared.parser.matches.ArgMatches.{ArgMatches}
use Rattle.clap.specs.declared.parser.matches.MatchedArg.{MatchedArg}
use Rattle.clap.proofs.CallerLemmas.{default_present}
use Rattle.lrc_words.specs.CommandLine.{whole_number}
use Rattle.lrc_words.specs.Parsed.{HasNumber}
use Rattle.lrc_words.proofs.RuleLemmas.{in_no_group, named, no_items, only_rule, rule_has_arg, wants_default}

-- an argument of a built command, as one of its whole numbers
record IsWholeNumber (y : Arg) (low high : ℕ) : Type 0 where
  pub parser : parser_of y ≡ Signed (pos low) (pos high)
  pub ignores_case : y.ignore_case ≡ false
  pub action : y.action ≡ Some Set
  pub least : 1 ≤ least_values y
  pub delimiter : is_some y.val_delim ≡ false

number_by_rule : (a y : Arg) (id : Text) (low high : ℕ) (usual : Text) → rule_of a ≡ whole_number id low high usual
    → SameRules a y → IsWholeNumber y low high
number_by_rule a y id low high usual is same =
    let action : a.action ≡ Some Set = ap (λ r. r.action) is in
    let parser : a.value_parser ≡ Some (Signed (pos low) (pos high)) = ap (λ r. r.parser) is in
    let range : a.num_vals ≡ None = ap (λ r. r.range) is in
    let least : 1 ≤ least_values a = rw range (omega arith) in
    let simple = ap (λ r. r.is_simple) is in
    let delimiter : is_some a.val_delim ≡ false = grind arith in
    record {
      parser = ap parser_of_value (same.parser (Signed (pos low) (pos high)) parser);
      ignores_case = same.ignore_case ∙ ap (λ r. r.ignore_case) is;
      action = same.action Set action;
      least = same.least action least;
      delimiter = ap is_some same.val_delim ∙ delimiter;
    }

-- the entry of an id
entry_of : (P : Entry → Type 0) (xs : List Entry) (id : Text) (i : ℕ) → All P xs → i < length xs
    → ((d : Entry) → bytes_eq (slice_index_or xs i d).0.now id ≡ true)
    → (e : Entry) × (option_map (λ x. x.1) (find (λ x. bytes_eq x.0.now id) xs) ≡ Some e.1) × (bytes_eq e.0.now id ≡ true) × P e
entry_of P [] id i all lt at = absurd (omega arith)
entry_of P (x ∷ xs) id i all lt at = go (λ j low hit. entry_of P xs id j (All-drop P 1 (x ∷ xs) all) low hit) (bytes_eq x.0.now id) refl i lt at
  where
    go : ((j : ℕ) → j < length xs → ((d : Entry) → bytes_eq (slice_index_or xs j d).0.now id ≡ true)
        → (e : Entry) × (option_map (λ y. y.1) (find (λ y. bytes_eq y.0.now id) xs) ≡ Some e.1) × (bytes_eq e.0.now id ≡ true) × P e)
        → (b : Bool) → bytes_eq x.0.now id ≡ b → (j : ℕ) → j < length (x ∷ xs)
        → ((d : Entry) → bytes_eq (slice_index_or (x ∷ xs) j d).0.now id ≡ true)
        → (e : Entry) × (option_map (λ y. y.1) (find (λ y. bytes_eq y.0.now id) (x ∷ xs)) ≡ Some e.1) × (bytes_eq e.0.now id ≡ true) × P e
    go rest true is j low hit = (x, rw is refl, is, All-get_or P (x ∷ xs) 0 x (omega arith) all)
    go rest false is zero low hit =
        let same : bytes_eq x.0.now id ≡ true = hit x in
        cc
    go rest false is (suc j) low hit = rw is (rest j (omega arith) hit)

-- the arguments of the command with this id are whole numbers
AreNumbers : Command → Text → ℕ → ℕ → Type 0
AreNumbers c id low high = (y : Arg) → Any (λ x. x ≡ y) (args_of c) → bytes_eq y.id.now id ≡ true → IsWholeNumber y low high

-- one that something is said of
one_of_them : (c : Command) (id : Text) (low high : ℕ) (P : Arg → Type 0) → AreNumbers c id low high
    → Any (λ a. (bytes_eq a.id.now id ≡ true) × P a) (args_of c) → (y : Arg) × IsWholeNumber y low high × P y
unfolding AreNumbers
one_of_them c id low high P args any = (any.1, args any.1 (any.0, any.1, any.2, any.3, refl) any.4.0, any.4.1)

is_in_range : (y : Arg) (low high : ℕ) (text : Text) → IsWholeNumber y low high → Accepts y.ignore_case (parser_of y) text
    → IsSignedIn (pos low) (pos high) text
is_in_range y low high text number accepts = subst (λ (q : ValueParser). Accepts y.ignore_case q text) number.parser accepts

-- the first of some values, each of which passed
first_number : (c : Command) (id : Text) (low high : ℕ) (vs : List (Bor Text)) → AreNumbers c id low high
    → 0 < length vs → All (λ v. PassesArg c id v.now) vs
    → (text : Text) × (option_map (λ s. s.now) (slice_get vs 0) ≡ Some text) × IsSignedIn (pos low) (pos high) text
first_number c id low high [] args some all = absurd (omega arith)
first_number c id low high (v ∷ vs) args some all = (
  v.now,
  refl,
  passed (one_of_them c id low high (λ a. Accepts a.ignore_case (parser_of a) v.now) args
      (All-get_or (λ v. PassesArg c id v.now) (v ∷ vs) 0 v (omega arith) all)),
)
  where
    passed : (y : Arg) × IsWholeNumber y low high × Accepts y.ignore_case (parser_of y) v.now → IsSignedIn (pos low) (pos high) v.now
    passed p = is_in_range p.0 low high v.now p.1 p.2

some_of_none : (n : ℕ) → 1 ≤ n → n ≡ 0 → ⊥
some_of_none n some none = omega arith

set_counts_nothing : (action : Option ArgAction) → action ≡ Some Set → unwrap_or action Set ≡ Count → ⊥
set_counts_nothing action is counts =
    let bad : Set ≡ Count = rw is at counts in
    cc

true_is_not_false : false ≡ true → ⊥
true_is_not_false bad = cc

no_count : (y : Arg) (low high : ℕ) → IsWholeNumber y low high → unwrap_or y.action Set ≡ Count → ⊥
no_count y low high number = set_counts_nothing y.action number.action

none_empty : (y : Arg) (low high : ℕ) → IsWholeNumber y low high → MayBeEmpty y → ⊥
none_empty y low high number (inl none) = some_of_none (least_values y) number.least none
none_empty y low high number (inr delimited) = true_is_not_false (sym number.delimiter ∙ delimited)

is_read : (y : Arg) (low high : ℕ) (how : Reading) → IsWholeNumber y low high → reading_of (parser_of y) ≡ how → how ≡ WithoutMinus
is_read y low high how number read = sym read ∙ ap reading_of number.parser

counts_none : (c : Command) (id : Text) (low high : ℕ) → AreNumbers c id low high → IsCountArg c id → ⊥
counts_none c id low high args any =
    let one = one_of_them c id low high (λ a. unwrap_or a.action Set ≡ Count) args any in
    no_count one.0 low high one.1 one.2

has_values : (c : Command) (id : Text) (low high : ℕ) → AreNumbers c id low high → AllowsNone c id → ⊥
has_values c id low high args any =
    let one = one_of_them c id low high (λ a. MayBeEmpty a) args any in
    none_empty one.0 low high one.1 one.2

reads_numbers : (c : Command) (id : Text) (low high : ℕ) (how : Reading) → AreNumbers c id low high → HasReading c id how → how ≡ WithoutMinus
reads_numbers c id low high how args any =
    let one = one_of_them c id low high (λ a. reading_of (parser_of a) ≡ how) args any in
    is_read one.0 low high how one.1 one.2

-- an entry is no group's, where the command has none
no_group : (c : Command) (id : Text) (e : Entry) → groups_of c ≡ [] → (id ≡ [] → ⊥) → e.0.now ≡ id → IsGroupEntry c e → e.1.is_group ≡ true → ⊥
no_group c id e none given key group is = elim (group is) [
  | inl empty ↦ given (sym key ∙ empty)
  | inr some ↦ some_of_none _ some (ap length none)
]

values_there : (c : Command) (id : Text) (low high : ℕ) (e : Entry) → AreNumbers c id low high → (e.1.is_group ≡ true → ⊥)
    → e.0.now ≡ id → IsFilledEntry c e → 0 < length e.1.vals.items
values_there c id low high e args own key (inl group) = absurd (own group.0)
values_there c id low high e args own key (inr (inl values)) = values
values_there c id low high e args own key (inr (inr (inl counts))) =
    absurd (counts_none c id low high args (subst (λ (w : Text). IsCountArg c w) key counts.1))
values_there c id low high e args own key (inr (inr (inr none))) =
    absurd (has_values c id low high args (subst (λ (w : Text). AllowsNone c w) key none))

values_pass : (c : Command) (id : Text) (e : Entry) → (e.1.is_group ≡ true → ⊥) → e.0.now ≡ id → EntryValuesPass c e
    → All (λ v. PassesArg c id v.now) e.1.vals.items
values_pass c id e own key (inl group) = absurd (own group)
values_pass c id e own key (inr all) = subst (λ (w : Text). All (λ v. PassesArg c w v.now) e.1.vals.items) key all

entry_reads : (c : Command) (id : Text) (low high : ℕ) (e : Entry) → AreNumbers c id low high → (e.1.is_group ≡ true → ⊥)
    → e.0.now ≡ id → ReadsByParser c e → e.1.reading ≡ WithoutMinus
entry_reads c id low high e args own key (inl group) = absurd (own group)
entry_reads c id low high e args own key (inr read) =
    reads_numbers c id low high e.1.reading args (subst (λ (w : Text). HasReading c w e.1.reading) key read)

as_read : (how : Reading) (vs : List (Bor Text)) (text : Text) → how ≡ WithoutMinus → option_map (λ s. s.now) (slice_get vs 0) ≡ Some text
    → option_map (λ s. read_as how s.now) (slice_get vs 0) ≡ Some (without_minus text)
as_read how [] text is first = cc
as_read how (v ∷ vs) text is first =
    let same : v.now ≡ text = ap (λ o. unwrap_or o v.now) first in
    rw (is, same) refl

-- what the entry of an option gives
number_in_entry : (c : Command) (id : Text) (low high : ℕ) (e : Entry) → groups_of c ≡ [] → (id ≡ [] → ⊥)
    → AreNumbers c id low high → e.0.now ≡ id → EntryPasses c e
    → (text : Text) × (option_map (λ s. read_as e.1.reading s.now) (slice_get e.1.vals.items 0) ≡ Some (without_minus text))
    × IsSignedIn (pos low) (pos high) text
number_in_entry c id low high e none given args key pass = go (no_group c id e none given key pass.3)
  where
    finish : ((text : Text) × (option_map (λ s. s.now) (slice_get e.1.vals.items 0) ≡ Some text) × IsSignedIn (pos low) (pos high) text)
        → e.1.reading ≡ WithoutMinus
        → (text : Text) × (option_map (λ s. read_as e.1.reading s.now) (slice_get e.1.vals.items 0) ≡ Some (without_minus text))
        × IsSignedIn (pos low) (pos high) text
    finish first reading = (first.0, as_read e.1.reading e.1.vals.items first.0 reading first.1, first.2)

    go : (e.1.is_group ≡ true → ⊥)
        → (text : Text) × (option_map (λ s. read_as e.1.reading s.now) (slice_get e.1.vals.items 0) ≡ Some (without_minus text))
        × IsSignedIn (pos low) (pos high) text
    go own = finish
        (first_number c id low high e.1.vals.items args (values_there c id low high e args own key pass.1) (values_pass c id e own key pass.0))
        (entry_reads c id low high e args own key pass.4)

-- the arguments of a built command with an id are those of the caller, with their rules
number_as_built : (c : Command) (m : ArgMatches) (p : IsParsedFrom c m) (id usual : Text) (low high : ℕ)
    → named id (map rule_of (args_of c)) ≡ whole_number id low high usual ∷ []
    → (id ≡ codes "help" → ⊥) → (id ≡ codes "version" → ⊥)
    → AreNumbers p.built id low high
unfolding AreNumbers
number_as_built c m p id usual low high one not_help not_version y any same =
    let at : slice_index_or (args_of p.built) any.0 any.1 ≡ y = any.3 ∙ any.4 in
    let y_id : y.id.now ≡ id = (bytes_eq-Decides y.id.now id).0 same in
    elim (cases_lt any.0 (length (args_of c))) [
      | inl own ↦
          let a = slice_index_or (args_of c) any.0 any.1 in
          let kept : SameRules a y = subst (λ w. SameRules a w) at (p.from.kept any.0 any.1 own).1 in
          let a_id : bytes_eq a.id.now id ≡ true = rw (← kept.id) same in
          number_by_rule a y id low high usual (only_rule id (whole_number id low high usual) (args_of c) any.0 any.1 one own a_id) kept
      | inr added ↦
          let auto = subst IsAuto at (p.from.extra any.0 any.1 added any.2) in
          elim auto [
            | inl h ↦ absurd (not_help (sym y_id ∙ h))
            | inr h ↦ absurd (not_version (sym y_id ∙ h))
          ]
    ]

other_text : (a b : Text) → bytes_eq a b ≡ false → a ≡ b → ⊥
other_text a b differs same =
    let yes : bytes_eq a b ≡ true = (bytes_eq-Decides a b).1 same in
    let bad : false ≡ true = sym differs ∙ yes in
    cc

-- an option that has a default has an entry
has_entry : (c : Command) (m : ArgMatches) (p : IsParsedFrom c m) (id usual : Text) (low high : ℕ)
    → (out-Command c).has_globals ≡ false
    → named id (map rule_of (args_of c)) ≡ whole_number id low high usual ∷ [] → HasId (found_of m) id
has_entry c m p id usual low high globals one = go (rule_has_arg id (whole_number id low high usual) (args_of c) one)
  where
    default : (k : ℕ) (x : Arg) → k < length (args_of c) → rule_of (slice_index_or (args_of c) k x) ≡ whole_number id low high usual
        → (slice_index_or (args_of c) k x).id.now ≡ id → HasId (found_of m) id
    default k x lt is same = subst (λ (w : Text). HasId (found_of m) w) same (default_present c m p globals k x lt
        (wants_default (slice_index_or (args_of c) k x) (ap (λ r. r.is_simple) is)
        (subst (λ (ds : List Text). 0 < length ds) (sym (ap (λ r. r.defaults) is)) (omega arith))))

    found : (k : ℕ) (x : Arg) → k < length (args_of c) → bytes_eq (slice_index_or (args_of c) k x).id.now id ≡ true → HasId (found_of m) id
    found k x lt same = default k x lt (only_rule id (whole_number id low high usual) (args_of c) k x one lt same)
        ((bytes_eq-Decides (slice_index_or (args_of c) k x).id.now id).0 same)

    go : Any (λ a. bytes_eq a.id.now id ≡ true) (args_of c) → HasId (found_of m) id
    go any = found any.0 any.1 any.2 (subst (λ (w : Arg). bytes_eq w.id.now id ≡ true) (sym any.3) any.4)

as_found : (o : Option MatchedArg) (x : MatchedArg) (text : Text) → o ≡ Some x
    → option_map (λ s. read_as x.reading s.now) (slice_get x.vals.items 0) ≡ Some (without_minus text)
    → option_and_then (λ y. option_map (λ s. read_as y.reading s.now) (slice_get y.vals.items 0)) o ≡ Some (without_minus text)
as_found o x text is first = rw is first

-- an option of a whole number has one within its range, where a parse of the command succeeds
pub has_number : (c : Command) (m : ArgMatches) (p : IsParsedFrom c m) (id usual : Text) (low high : ℕ)
    → (app_of c).top.is_plain ≡ true → list_all (λ r. r.is_simple) (app_of c).top.rules ≡ true
    → named id (app_of c).top.rules ≡ whole_number id low high usual ∷ []
    → bytes_eq id [] ≡ false → bytes_eq id (codes "help") ≡ false → bytes_eq id (codes "version") ≡ false
    → HasNumber (found_of m) id low high
has_number c m p id usual low high plain simple one empty help version = go (grind arith) (grind arith)
  where
    read : (e : Entry) × (matched_of (found_of m) id ≡ Some e.1) × (bytes_eq e.0.now id ≡ true) × EntryPasses p.built e
        → groups_of p.built ≡ [] → HasNumber (found_of m) id low high
    read got groups =
        let number = number_in_entry p.built id low high got.0 groups (other_text id [] empty)
        (number_as_built c m p id usual low high one (other_text id (codes "help") help) (other_text id (codes "version") version))
        ((bytes_eq-Decides got.0.0.now id).0 got.2) got.3 in
        (number.0, as_found (matched_of (found_of m) id) got.0.1 number.0 got.1 number.1, number.2)

    entry : HasId (found_of m) id → ValuesPass p.built (found_of m)
        → (e : Entry) × (matched_of (found_of m) id ≡ Some e.1) × (bytes_eq e.0.now id ≡ true) × EntryPasses p.built e
    entry has values = entry_of (EntryPasses p.built) (found_of m).entries.items id has.0 values has.1 has.2

    go : (out-Command c).has_globals ≡ false → is_empty (groups_of c) ≡ true → HasNumber (found_of m) id low high
    go globals few = read (entry (has_entry c m p id usual low high globals one) (p.parsed (p.from.globals ∙ globals)).values)
        ((p.from.same_groups (in_no_group (args_of c) simple)).1 ∙ no_items (groups_of c) few)
