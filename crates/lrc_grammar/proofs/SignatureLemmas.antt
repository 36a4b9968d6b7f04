-- Signatures, item by item: symbols and occurrences of children, locals and nonterminal attributes, and the equations of
-- occurrences; and that each production of a grammar within the limits has few occurrences.
use Rattle.std.specs.Prelude.{nat_le}
use Rattle.std.proofs.Common.{◌≡◌, ℕ, zero, suc, ◌+◌, ◌<◌, ◌≤◌, ◌^◌, ◌==◌, Bool, true, false, cond, IsTrue, List, [], ◌∷◌, ◌++◌, map, flat_map, length, drop, get_or, slice_set, Option, Some, None, refl, sym, ap, ◌∙◌, subst, length-append, arith, All}
use Rattle.std.specs.List.{range_with_len, position_from, list_all}
use Rattle.std.proofs.lemmas.Bool.{and_parts, leb-true, eq-eqb, ne_eqb}
use Rattle.std.proofs.Math.Seq.{drop-length}
use Rattle.std.proofs.lemmas.List.{length-map}
use Rattle.std.proofs.lemmas.List.FromFn.{map-range_with_len_more, length-map-range_with_len}
use Rattle.lrc_base.specs.declared.grammar.Sort.{Sort}
use Rattle.lrc_base.specs.declared.grammar.Kid.{Kid}
use Rattle.lrc_base.specs.declared.grammar.Extra.{Extra}
use Rattle.lrc_base.specs.declared.grammar.Equation.{Equation}
use Rattle.lrc_base.specs.declared.grammar.Production.{Production}
use Rattle.lrc_base.specs.declared.signature.Origin.TheVariants as origin
use Rattle.lrc_meaning.specs.Grammar.{Grammar, attrs_of_sort, attrs_of}
use Rattle.lrc_meaning.specs.Signature.{left_attribute, symbol_attribute, kid_attributes, extra_attributes, signed_occurrences, signed_symbol, signed_kids, signed_extras, equation_of}
use Rattle.lrc_meaning.proofs.SignatureLemmas.{signed_few}
use Rattle.lrc_base.specs.declared.limits.TheConstants.{ATTRIBUTE_LIMIT, CHILD_LIMIT, LOCAL_LIMIT}
use Rattle.lrc_meaning.specs.Limits.{IsFew}
use Rattle.lrc_grammar.proofs.ListLemmas.{next_left}

pub next_signed_kids : (sorts : List Sort) (at n : ℕ) (kids : List Kid) (i : ℕ) (kid : Kid) → i < length kids → kid ≡ get_or kids i kid
    → signed_kids sorts at n (drop i kids)
    ≡ signed_symbol kid.name kid.kind (origin.Child n) at ++ signed_kids sorts (at + length (kid_attributes sorts kid)) (n + 1) (drop (i + 1) kids)
next_signed_kids sorts at n kids i kid h e = ap (signed_kids sorts at n) (next_left kids i kid h e)

pub next_kid_attributes : (sorts : List Sort) (kids : List Kid) (i : ℕ) (kid : Kid) → i < length kids → kid ≡ get_or kids i kid
    → flat_map (kid_attributes sorts) (drop i kids) ≡ kid_attributes sorts kid ++ flat_map (kid_attributes sorts) (drop (i + 1) kids)
next_kid_attributes sorts kids i kid h e = ap (flat_map (kid_attributes sorts)) (next_left kids i kid h e)

pub kid_attributes_count : (sorts : List Sort) (all : List _) (kid : Kid) → length (all ++ kid_attributes sorts kid) ≡ length all + length (kid_attributes sorts kid)
kid_attributes_count sorts all kid = length-append all (kid_attributes sorts kid)

pub next_kid_count : (sorts : List Sort) (kids : List Kid) (i : ℕ) (kid : Kid) → i < length kids → kid ≡ get_or kids i kid
    → length (flat_map (kid_attributes sorts) (drop i kids)) ≡ length (kid_attributes sorts kid) + length (flat_map (kid_attributes sorts) (drop (i + 1) kids))
next_kid_count sorts kids i kid h e =
    ap length (next_kid_attributes sorts kids i kid h e) ∙ length-append (kid_attributes sorts kid) (flat_map (kid_attributes sorts) (drop (i + 1) kids))

pub ruleset kid_steps = (next_signed_kids, next_kid_attributes, kid_attributes_count, next_kid_count)

pub next_signed_extras : (sorts : List Sort) (at : ℕ) (xs : List Extra) (i : ℕ) (x : Extra) → i < length xs → x ≡ get_or xs i x
    → signed_extras sorts at (drop i xs)
    ≡ cond x.attached (signed_symbol x.name x.kind (origin.Value at) (at + 1)) [] ++ signed_extras sorts (at + length (extra_attributes sorts x)) (drop (i + 1) xs)
next_signed_extras sorts at xs i x h e = ap (signed_extras sorts at) (next_left xs i x h e)

pub next_extra_attributes : (sorts : List Sort) (xs : List Extra) (i : ℕ) (x : Extra) → i < length xs → x ≡ get_or xs i x
    → flat_map (extra_attributes sorts) (drop i xs) ≡ extra_attributes sorts x ++ flat_map (extra_attributes sorts) (drop (i + 1) xs)
next_extra_attributes sorts xs i x h e = ap (flat_map (extra_attributes sorts)) (next_left xs i x h e)

pub extra_attributes_count : (sorts : List Sort) (all : List _) (x : Extra) → length (all ++ extra_attributes sorts x) ≡ length all + length (extra_attributes sorts x)
extra_attributes_count sorts all x = length-append all (extra_attributes sorts x)

pub next_extra_count : (sorts : List Sort) (xs : List Extra) (i : ℕ) (x : Extra) → i < length xs → x ≡ get_or xs i x
    → length (flat_map (extra_attributes sorts) (drop i xs)) ≡ length (extra_attributes sorts x) + length (flat_map (extra_attributes sorts) (drop (i + 1) xs))
next_extra_count sorts xs i x h e =
    ap length (next_extra_attributes sorts xs i x h e) ∙ length-append (extra_attributes sorts x) (flat_map (extra_attributes sorts) (drop (i + 1) xs))

pub ruleset extra_steps = (next_signed_extras, next_extra_attributes, extra_attributes_count, next_extra_count)

-- a number below those of a list is none of them
unlike_later : {X : Type 0} (f : ℕ → X) (t a n : ℕ) (y : X) → t < a → map (λ o. cond (t == o) y (f o)) (range_with_len a n) ≡ map f (range_with_len a n)
unlike_later f t a zero y h = refl
unlike_later f t a (suc n) y h =
    let other : (t == a) ≡ false = ne_eqb t a (λ e. absurd (omega arith)) in
    ap (λ b. cond b y (f a) ∷ map (λ o. cond (t == o) y (f o)) (range_with_len (a + 1) n)) other
    ∙ ap (λ ys. f a ∷ ys) (unlike_later f t (a + 1) n y (omega arith))

-- one item of a list that is numbered from a on is set
set_numbered : {X : Type 0} (f : ℕ → X) (a n i t : ℕ) (y : X) → i < n → t ≡ a + i
    → slice_set (map f (range_with_len a n)) i y ≡ map (λ o. cond (t == o) y (f o)) (range_with_len a n)
set_numbered f a zero i t y h e = absurd (omega arith)
set_numbered f a (suc n) zero t y h e =
    let same : (t == a) ≡ true = eq-eqb t a (omega arith) in
    ap (λ ys. y ∷ ys) (sym (unlike_later f t (a + 1) n y (omega arith)))
    ∙ ap (λ b. cond b y (f a) ∷ map (λ o. cond (t == o) y (f o)) (range_with_len (a + 1) n)) (sym same)
set_numbered f a (suc n) (suc i) t y h e =
    let other : (t == a) ≡ false = ne_eqb t a (λ d. absurd (omega arith)) in
    ap (λ ys. f a ∷ ys) (set_numbered f (a + 1) n i t y (omega arith) (omega arith))
    ∙ ap (λ b. cond b y (f a) ∷ map (λ o. cond (t == o) y (f o)) (range_with_len (a + 1) n)) (sym other)

-- a number behind those of a list is none of them
unlike_earlier : {X : Type 0} (f : ℕ → X) (t a n : ℕ) (y : X) → a + n ≤ t → map (λ o. cond (t == o) y (f o)) (range_with_len a n) ≡ map f (range_with_len a n)
unlike_earlier f t a zero y h = refl
unlike_earlier f t a (suc n) y h =
    let other : (t == a) ≡ false = ne_eqb t a (λ e. absurd (omega arith)) in
    ap (λ b. cond b y (f a) ∷ map (λ o. cond (t == o) y (f o)) (range_with_len (a + 1) n)) other
    ∙ ap (λ ys. f a ∷ ys) (unlike_earlier f t (a + 1) n y (omega arith))

-- the first equation of an occurrence from the k-th equation on
abbrev pub equation_from : List Equation → ℕ → ℕ → Option ℕ
equation_from es k o = position_from (λ (e : Equation). e.target == o) k (drop k es)

abbrev pub equations_from : List Equation → ℕ → ℕ → List (Option ℕ)
equations_from es k count = map (equation_from es k) (range_with_len 0 count)

next_equations : (es : List Equation) (k count : ℕ) (e : Equation) → k < length es → e ≡ get_or es k e
    → equations_from es k count ≡ map (λ o. cond (e.target == o) (Some k) (equation_from es (k + 1) o)) (range_with_len 0 count)
next_equations es k count e h g =
    ap (λ ds. map (λ o. position_from (λ (x : Equation). x.target == o) k ds) (range_with_len 0 count)) (next_left es k e h g)

pub near_equation : (es : List Equation) (k count : ℕ) (e : Equation) → k < length es → e ≡ get_or es k e → e.target < count
    → slice_set (equations_from es (k + 1) count) e.target (Some k) ≡ equations_from es k count
near_equation es k count e h g l =
    set_numbered (equation_from es (k + 1)) 0 count e.target e.target (Some k) l (omega arith) ∙ sym (next_equations es k count e h g)

pub far_equation : (es : List Equation) (k count : ℕ) (e : Equation) → k < length es → e ≡ get_or es k e → count ≤ e.target
    → equations_from es (k + 1) count ≡ equations_from es k count
far_equation es k count e h g l =
    sym (unlike_earlier (equation_from es (k + 1)) e.target 0 count (Some k) (omega arith)) ∙ sym (next_equations es k count e h g)

-- no equation is left behind the last
pub no_equation_left : (es : List Equation) (count : ℕ) → map (λ o. None) (range_with_len 0 count) ≡ equations_from es (length es) count
no_equation_left es count =
    ap (λ ds. map (λ o. position_from (λ (x : Equation). x.target == o) (length es) ds) (range_with_len 0 count)) (sym (drop-length es))

pub one_more : (n : ℕ) → map {B = Option ℕ} (λ o. None) (range_with_len 0 (n + 1)) ≡ map (λ o. None) (range_with_len 0 n) ++ None ∷ []
one_more n = map-range_with_len_more {X = Option ℕ} (λ o. None) 0 n n (omega arith)

pub ruleset equation_steps = (near_equation, far_equation, no_equation_left, length-map-range_with_len, one_more)

-- few enough to be numbered
pub record CanBeNumbered (sorts : List Sort) (p : Production) : Type 0 where
  pub occurrences : length (signed_occurrences sorts p.left p.kids p.extras) < 2 ^ 32
  pub kids : length p.kids < 2 ^ 32

-- of sorts with few attributes, a production with few children, locals and nonterminal attributes is
few_production : (sorts : List Sort) (p : Production) → All (λ (s : Sort). length s.attrs ≤ ATTRIBUTE_LIMIT) sorts → IsFew p → CanBeNumbered sorts p
few_production sorts p few parts =
    let kids : length p.kids ≤ CHILD_LIMIT = parts.kids in
    let extras : length p.extras ≤ LOCAL_LIMIT = parts.extras in
    let all = signed_few sorts few p.left p.kids p.extras in
    record { occurrences = omega arith; kids = omega arith }

few_there : (sorts : List Sort) (prods : List Production) (i : ℕ) (p : Production) → All (λ (s : Sort). length s.attrs ≤ ATTRIBUTE_LIMIT) sorts → All IsFew prods
    → i < length prods → p ≡ get_or prods i p → CanBeNumbered sorts p
few_there sorts prods i p few parts h e =
    subst (CanBeNumbered sorts) (sym e) (few_production sorts (get_or prods i p) few (parts i p h))

pub few_occurrences : (sorts : List Sort) (prods : List Production) (i : ℕ) (p : Production) → All (λ (s : Sort). length s.attrs ≤ ATTRIBUTE_LIMIT) sorts → All IsFew prods
    → i < length prods → p ≡ get_or prods i p → length (signed_occurrences sorts p.left p.kids p.extras) < 2 ^ 32
few_occurrences sorts prods i p few parts h e = (few_there sorts prods i p few parts h e).occurrences

pub few_kids : (sorts : List Sort) (prods : List Production) (i : ℕ) (p : Production) → All (λ (s : Sort). length s.attrs ≤ ATTRIBUTE_LIMIT) sorts → All IsFew prods
    → i < length prods → p ≡ get_or prods i p → length p.kids < 2 ^ 32
few_kids sorts prods i p few parts h e = (few_there sorts prods i p few parts h e).kids

pub ruleset few_at = (few_occurrences, few_kids)

pub kids_count : (sorts : List Sort) (left : ℕ) (kids : List Kid) → length (map left_attribute (attrs_of_sort sorts left) ++ flat_map (kid_attributes sorts) kids) ≡ length (attrs_of_sort sorts left) + length (flat_map (kid_attributes sorts) kids)
kids_count sorts left kids =
    length-append (map left_attribute (attrs_of_sort sorts left)) (flat_map (kid_attributes sorts) kids)
    ∙ ap (λ n. n + length (flat_map (kid_attributes sorts) kids)) (length-map (attrs_of_sort sorts left) left_attribute)

pub ruleset signed_lengths = (kids_count, length-map, length-append)
