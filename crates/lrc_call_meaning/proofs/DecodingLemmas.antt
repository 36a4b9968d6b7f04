-- Reading calls and results back, by which their forms are injective.
use Rattle.std.proofs.Common.{◌≡◌, ℕ, zero, suc, ◌+◌, ◌-◌, ◌≤◌, true, false, List, [], ◌∷◌, length, refl, sym, ◌∙◌, ap, arith, Some, None, cond, map, nat_lt, ◌&&◌}
use Rattle.std.proofs.lemmas.Bool.{ne_eqb, lt-ltb}
use Rattle.std.proofs.lemmas.Option.{same_Some}
use Rattle.std.proofs.lemmas.Grind.{div_ceil_times}
use Rattle.std.specs.Int.{div_ceil}
use Rattle.std.specs.List.{AllByRecursion}
use Rattle.lrc_meaning.specs.Tree.{Tree, Trees, int, bool, name, node, none, more}
use Rattle.lrc_visit_meaning.specs.Values.{Datum, value, binding, Data, no_data, data_then, Call, Result}
use Rattle.lrc_store.specs.Cells.{CellTree, nil, number, pair}
use Rattle.lrc_code.specs.Forms.{words_cell, name_cell, list_cell, tree_cell, kid_cells, IsSpelling, EachNameBelow, AreSpelled}
use Rattle.lrc_code.specs.Decoding.{tree_in}
use Rattle.lrc_code.proofs.Decoding.{items-back, tree-back}
use Rattle.lrc_call_meaning.specs.Spelled.{IsSpelledName, IsSpelled, IsSpelledDatum, AreSpelledData, IsSpelledCall, IsSpelledResult}
use Rattle.lrc_call_meaning.specs.Forms.{datum_cell, binding_cell, values_cell, bindings_cell, call_form, result_form}
use Rattle.lrc_call_meaning.specs.Decoding.{datum_in, data_in, values_in, bindings_in, call_of, read_call, result_of, read_result}

-- what is spelled without empty names is spelled
mutual
  each-spelled : (t : Tree) → IsSpelled t → AreSpelled t
  each-spelled (int i) h = tt
  each-spelled (bool b) h = tt
  each-spelled (name bytes) h = h.1
  each-spelled (node p kids) h = each-spelled-below kids h

  each-spelled-below : (ts : Trees) → EachNameBelow IsSpelledName ts → EachNameBelow IsSpelling ts
  each-spelled-below none h = tt
  each-spelled-below (more t ts) h = (each-spelled t h.0, each-spelled-below ts h.1)

pub value-back : (t : Tree) → IsSpelled t → tree_in (tree_cell t) ≡ t
value-back t h = tree-back t (each-spelled t h)

-- a pair that is no list is read as a value
no-list : (tag : ℕ) (left right : CellTree) → (tag ≡ 4 → ⊥) → datum_in (pair tag left right) ≡ value (tree_in (pair tag left right))
no-list tag left right h =
    ap (λ b. cond b (binding (data_then (datum_in left) (data_in right))) (value (tree_in (pair tag left right)))) (ne_eqb tag 4 h)

words-no-list : (n : ℕ) (bytes : List ℕ) → 1 ≤ n → datum_in (words_cell n bytes) ≡ value (tree_in (words_cell n bytes))
words-no-list zero bytes h = absurd (omega arith)
words-no-list (suc n) bytes h = refl

name-no-list : (bytes : List ℕ) → 1 ≤ length bytes → datum_in (name_cell bytes) ≡ value (tree_in (name_cell bytes))
unfolding name_cell
name-no-list bytes h = words-no-list (div_ceil (length bytes) 8) bytes (let times = (div_ceil_times (length bytes) 8 (omega arith)).0 in omega (arith, times))

-- the cell of a value is no list's
tree-no-list : (t : Tree) → IsSpelled t → datum_in (tree_cell t) ≡ value (tree_in (tree_cell t))
tree-no-list (int i) h = refl
tree-no-list (bool true) h = refl
tree-no-list (bool false) h = refl
tree-no-list (name bytes) h = name-no-list bytes h.0
tree-no-list (node p kids) h = no-list (256 + p) (list_cell (kid_cells kids)) nil (λ e. omega (arith, e))

mutual
  pub datum-back : (d : Datum) → IsSpelledDatum d → datum_in (datum_cell d) ≡ d
  datum-back (value t) h = tree-no-list t h ∙ ap value (value-back t h)
  datum-back (binding no_data) h = refl
  datum-back (binding (data_then d ds)) h = ap binding (data-back (data_then d ds) h)

  data-back : (ds : Data) → AreSpelledData ds → data_in (binding_cell ds) ≡ ds
  data-back no_data h = refl
  data-back (data_then d ds) h = ap (λ x. data_then x (data_in (binding_cell ds))) (datum-back d h.0) ∙ ap (data_then d) (data-back ds h.1)

pub bindings-injective : (one other : Data) → AreSpelledData one → AreSpelledData other → binding_cell one ≡ binding_cell other → one ≡ other
bindings-injective one other h k e = sym (data-back one h) ∙ ap data_in e ∙ data-back other k

-- a list whose items are read back
each-back : {X : Type 0} (IsFine : X → Type 0) (cell : X → CellTree) (read : CellTree → X) → ((x : X) → IsFine x → read (cell x) ≡ x) →
    (xs : List X) → AllByRecursion IsFine xs → map read (map cell xs) ≡ xs
each-back IsFine cell read back [] h = refl
each-back IsFine cell read back (x ∷ xs) h = ap (λ y. y ∷ map read (map cell xs)) (back x h.0) ∙ ap (λ ys. x ∷ ys) (each-back IsFine cell read back xs h.1)

values-back : (ts : List Tree) → AllByRecursion IsSpelled ts → values_in (values_cell ts) ≡ ts
values-back ts h = ap (map tree_in) (items-back (map tree_cell ts)) ∙ each-back IsSpelled tree_cell tree_in value-back ts h

bindings-back : (bs : List Data) → AllByRecursion AreSpelledData bs → bindings_in (bindings_cell bs) ≡ bs
bindings-back bs h = ap (map data_in) (items-back (map binding_cell bs)) ∙ each-back AreSpelledData binding_cell data_in data-back bs h

same-call : (t u : Tree) (v w : ℕ) (is js : List Tree) (bs cs : List Data) → t ≡ u → v ≡ w → is ≡ js → bs ≡ cs →
    (let one : Call = record { tree = t; visit = v; inherited = is; bindings = bs } in let other : Call = record { tree = u; visit = w; inherited = js; bindings = cs } in one ≡ other)
same-call t u v w is js bs cs e f g h = cc

same-result : (height : ℕ) (ss ts : List Tree) (bs cs : List Data) → ss ≡ ts → bs ≡ cs →
    (let one : Result = record { height = height; synthesised = ss; bindings = bs } in let other : Result = record { height = height; synthesised = ts; bindings = cs } in one ≡ other)
same-result height ss ts bs cs e f = cc

call-parts-back : (c : Call) → IsSpelledCall c → call_of (32 + c.visit) (tree_cell c.tree) (pair 5 (values_cell c.inherited) (bindings_cell c.bindings)) ≡ c
call-parts-back c h = same-call _ _ _ _ _ _ _ _ (value-back c.tree h.tree) (let e : 32 + c.visit - 32 ≡ c.visit = omega arith in e) (values-back c.inherited h.inherited) (bindings-back c.bindings h.bindings)

result-parts-back : (r : Result) → IsSpelledResult r → result_of (pair 5 (values_cell r.synthesised) (bindings_cell r.bindings)) r.height ≡ r
result-parts-back r h = same-result r.height _ _ _ _ (values-back r.synthesised h.synthesised) (bindings-back r.bindings h.bindings)

-- the tags of calls
tag-right : (v : ℕ) → v ≤ 223 → (nat_lt 31 (32 + v) && nat_lt (32 + v) 256) ≡ true
tag-right v h = ap (λ b. b && nat_lt (32 + v) 256) (lt-ltb 31 (32 + v) (omega arith)) ∙ lt-ltb (32 + v) 256 (omega arith)

pub call-back : (c : Call) → IsSpelledCall c → c.visit ≤ 223 → read_call (call_form c) ≡ Some c
unfolding call_form read_call
call-back c h l =
    ap (λ b. cond b (Some (call_of (32 + c.visit) (tree_cell c.tree) (pair 5 (values_cell c.inherited) (bindings_cell c.bindings)))) None) (tag-right c.visit l)
    ∙ ap (λ d. Some d) (call-parts-back c h)

pub result-back : (r : Result) → IsSpelledResult r → read_result (result_form r) ≡ Some r
unfolding result_form read_result
result-back r h = ap (λ d. Some d) (result-parts-back r h)

-- the parts of a cell, whatever its tag
abbrev call_at : CellTree → Call
call_at nil = call_of 0 nil nil
call_at (number n) = call_of 0 nil nil
call_at (pair tag tree lists) = call_of tag tree lists

call-at-back : (c : Call) → IsSpelledCall c → call_at (call_form c) ≡ c
unfolding call_form
call-at-back c h = call-parts-back c h

pub calls-injective : (one other : Call) → IsSpelledCall one → IsSpelledCall other → call_form one ≡ call_form other → one ≡ other
calls-injective one other h k e = sym (call-at-back one h) ∙ ap call_at e ∙ call-at-back other k

pub results-injective : (one other : Result) → IsSpelledResult one → IsSpelledResult other → result_form one ≡ result_form other → one ≡ other
results-injective one other h k e = same_Some one other (sym (result-back one h) ∙ ap read_result e ∙ result-back other k)
