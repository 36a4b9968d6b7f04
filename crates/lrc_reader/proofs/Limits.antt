-- A job that is read keeps the limits.
use Rattle.std.proofs.Common.{◌≡◌, ℕ, zero, suc, ◌+◌, ◌<◌, ◌≤◌, Bool, true, false, cond, Option, Some, None, List, [], ◌∷◌, ◌++◌, All, length, count_by, refl, sym, ap, ◌∙◌, subst, arith, lit≤, inl, inr, Result, Ok, Err, IfOk}
use Rattle.std.specs.List.{AllByRecursion}
use Rattle.std.proofs.lemmas.Bool.{ltb-true}
use Rattle.std.proofs.lemmas.List.Elements.{All-from_recursion, All-weaker, All-nil, All-push}
use Rattle.std.proofs.lemmas.List.Sums.{sum_by-append}
use Rattle.lrc_base.specs.declared.limits.TheConstants.{ATTRIBUTE_LIMIT, CHILD_LIMIT, LOCAL_LIMIT, NODE_LIMIT, EDIT_LIMIT}
use Rattle.lrc_base.specs.declared.raw.RawSort.{RawSort}
use Rattle.lrc_base.specs.declared.raw.RawKid.{RawKid}
use Rattle.lrc_base.specs.declared.raw.RawExpr.{RawExpr}
use Rattle.lrc_base.specs.declared.raw.RawItem.{RawItem}
use Rattle.lrc_base.specs.declared.raw.RawProd.{RawProd}
use Rattle.lrc_base.specs.declared.raw.RawGrammar.{RawGrammar}
use Rattle.lrc_base.specs.declared.job.RawScript.{RawScript}
use Rattle.lrc_base.specs.declared.job.Job.{Job}
use Rattle.lrc_meaning.specs.Limits.{written_nodes, is_declaration, item_nodes, KeepsLimits, KeepsCounts}
use Rattle.lrc_parse.specs.Language.{Many, Turns}
use Rattle.lrc_parse.specs.Limited.{Either}
use Rattle.lrc_reader.specs.declared.fault.JobFault.{JobFault}
use Rattle.lrc_reader.specs.declared.lexeme.Lexeme.{Lexeme}
use Rattle.lrc_reader.specs.Grammar.{IsSort, IsKids, IsLocal, IsAttach, IsPattern, IsEquation, Items, IsDeclaration, IsOther, IsItems, IsProd, IsGrammar, IsSession, IsJob, equation_of}
use Rattle.lrc_reader.specs.Denotes.{Denotes}
use Rattle.lrc_reader.proofs.Nodes.{few_nodes}

few_attrs : (u : List Lexeme) (s : RawSort) → (IsSort 0).derives u s → length s.attrs ≤ ATTRIBUTE_LIMIT
few_attrs u s d =
    let attrs = d.5.5.5 in subst (λ (z : RawSort). length z.attrs ≤ ATTRIBUTE_LIMIT) (sym attrs.5.5.1) attrs.4.1

few_attrs_each : (u : List Lexeme) (ss : List RawSort) → Many (IsSort 0).derives u ss → AllByRecursion (λ (s : RawSort). length s.attrs ≤ ATTRIBUTE_LIMIT) ss
few_attrs_each u [] d = tt
few_attrs_each u (s ∷ ss) d = (few_attrs _ s d.3, few_attrs_each d.1 ss d.4)

few_kids : (u : List Lexeme) (kids : List RawKid) → (IsKids 0).derives u kids → length kids ≤ CHILD_LIMIT
few_kids u kids d = subst (λ (z : List RawKid). length z ≤ CHILD_LIMIT) (sym d.5.5.5.1)
    (elim d.5.4 [ inl h ↦ h.1 | inr h ↦ subst (λ (z : List RawKid). length z ≤ CHILD_LIMIT) (sym h.1) (lit≤ tt) ])

few_kids_of : (u : List Lexeme) (p : RawProd) → (IsProd 0).derives u p → length p.kids ≤ CHILD_LIMIT
few_kids_of u p d =
    let kids = d.5.5.5.5 in subst (λ (z : RawProd). length z.kids ≤ CHILD_LIMIT) (sym kids.5.5.1) (few_kids _ _ kids.4)

few_kids_each : (u : List Lexeme) (ps : List RawProd) → Many (IsProd 0).derives u ps → AllByRecursion (λ (p : RawProd). length p.kids ≤ CHILD_LIMIT) ps
few_kids_each u [] d = tt
few_kids_each u (p ∷ ps) d = (few_kids_of _ p d.3, few_kids_each d.1 ps d.4)

-- the number of locals and nonterminal attributes with one item more
one_more : (xs : List RawItem) (x : RawItem) (b : Bool) → is_declaration x ≡ b → count_by is_declaration (xs ++ x ∷ []) ≡ count_by is_declaration xs + cond {A = ℕ} b 1 0
one_more xs x b e =
    let f : count_by is_declaration (xs ++ x ∷ []) ≡ count_by is_declaration xs + (count_by is_declaration (x ∷ [])) = sum_by-append (λ (j : RawItem). cond {A = ℕ} (is_declaration j) 1 0) xs (x ∷ []) in
    let g : count_by is_declaration (x ∷ []) ≡ cond {A = ℕ} b 1 0 = alone x b e in
    f ∙ ap (λ n. count_by is_declaration xs + n) g
  where
    alone : (x : RawItem) (b : Bool) → is_declaration x ≡ b → count_by is_declaration (x ∷ []) ≡ cond {A = ℕ} b 1 0
    alone x b e = let f : cond {A = ℕ} (is_declaration x) 1 0 ≡ cond {A = ℕ} b 1 0 = ap (λ (c : Bool). cond {A = ℕ} c 1 0) e in omega (arith, f)

declared : (u : List Lexeme) (x : RawItem) → (Either (IsLocal 0) (IsAttach 0)).derives u x → is_declaration x ≡ true
declared u x (inl d) = ap is_declaration d.5.5.5.5.5.5.5.1
declared u x (inr d) = ap is_declaration d.5.5.5.5.5.5.5.1

equation_declares : (n : List ℕ) (o : Option (List ℕ)) (x : RawExpr) → is_declaration (equation_of n o x) ≡ false
equation_declares n None x = refl
equation_declares n (Some a) x = refl

undeclared : (u : List Lexeme) (x : RawItem) → (Either IsPattern (IsEquation 0)).derives u x → is_declaration x ≡ false
undeclared u x (inl d) = ap is_declaration d.5.5.5.1
undeclared u x (inr d) = ap is_declaration d.5.5.5.5.5.1 ∙ equation_declares _ _ _

-- the right side of an item's equation has few nodes
abbrev Few : RawItem → Type 0
Few x = item_nodes x ≤ NODE_LIMIT

few_declared : (u : List Lexeme) (x : RawItem) → (Either (IsLocal 0) (IsAttach 0)).derives u x → Few x
few_declared u x (inl d) = let right = d.5.5.5.5.5 in subst Few (sym right.5.5.1) (few_nodes _ right.2 right.4)
few_declared u x (inr d) = let right = d.5.5.5.5.5 in subst Few (sym right.5.5.1) (few_nodes _ right.2 right.4)

equation_nodes : (n : List ℕ) (o : Option (List ℕ)) (x : RawExpr) → written_nodes x ≤ NODE_LIMIT → Few (equation_of n o x)
equation_nodes n None x few = few
equation_nodes n (Some a) x few = few

few_undeclared : (u : List Lexeme) (x : RawItem) → (Either IsPattern (IsEquation 0)).derives u x → Few x
few_undeclared u x (inl d) = subst Few (sym d.5.5.5.1) (lit≤ tt)
few_undeclared u x (inr d) =
    let right = d.5.5.5 in subst Few (sym right.5.5.1) (equation_nodes _ _ right.2 (few_nodes _ right.2 right.4))

-- the number goes along with the items, and is within the limit; each item has few nodes
record Counts (s : Items) : Type 0 where
  same : count_by is_declaration s.0 ≡ s.1
  within : s.1 ≤ LOCAL_LIMIT
  few : All Few s.0

an_item : (s z : Items) (u : List Lexeme) → (Either (IsDeclaration 0 s) (IsOther 0 s)).derives u z → Counts s → Counts z
an_item s z u (inl d) c =
    let room : s.1 < LOCAL_LIMIT = ltb-true s.1 LOCAL_LIMIT d.4.0 in
    let e : count_by is_declaration (s.0 ++ d.2 ∷ []) ≡ count_by is_declaration s.0 + 1 = one_more s.0 d.2 true (declared _ d.2 d.4.1) in
    let f : count_by is_declaration s.0 ≡ s.1 = c.same in
    subst Counts (sym d.5.1) (record { same = omega (arith, e, f); within = omega (arith, room); few = All-push Few s.0 d.2 c.few (few_declared _ d.2 d.4.1) })
an_item s z u (inr d) c =
    let e : count_by is_declaration (s.0 ++ d.2 ∷ []) ≡ count_by is_declaration s.0 + 0 = one_more s.0 d.2 false (undeclared _ d.2 d.4) in
    let f : count_by is_declaration s.0 ≡ s.1 = c.same in
    subst Counts (sym d.5.1) (record { same = omega (arith, e, f); within = c.within; few = All-push Few s.0 d.2 c.few (few_undeclared _ d.2 d.4) })

the_items : (n : ℕ) (s z : Items) (u : List Lexeme) → Turns (λ y. (Either (IsDeclaration 0 y) (IsOther 0 y)).derives) n s u z → Counts s → Counts z
the_items zero s z u d c = subst Counts (sym d.1) c
the_items (suc n) s z u d c = the_items n d.2 z d.1 d.5 (an_item s d.2 d.0 d.4 c)

-- few locals and nonterminal attributes, and few nodes on each right side
record AreFew (xs : List RawItem) : Type 0 where
  locals : count_by is_declaration xs ≤ LOCAL_LIMIT
  nodes : All Few xs

few_items : (u : List Lexeme) (xs : List RawItem) → (IsItems 0).derives u xs → AreFew xs
few_items u xs d =
    let w = d.5 in
    let c : Counts w.2 = the_items w.4.0 ([], 0) w.2 _ w.4.1 (record { same = refl; within = lit≤ tt; few = All-nil Few }) in
    let e : count_by is_declaration w.2.0 ≡ w.2.1 = c.same in
    let l : w.2.1 ≤ LOCAL_LIMIT = c.within in
    subst AreFew (sym w.5.5.1) (record { locals = omega (arith, e, l); nodes = c.few })

few_items_of : (u : List Lexeme) (p : RawProd) → (IsProd 0).derives u p → AreFew p.items
few_items_of u p d =
    let kids = d.5.5.5.5 in
    let items = kids.5 in subst (λ (z : RawProd). AreFew z.items) (sym items.5.1) (few_items _ _ items.4)

few_items_each : (u : List Lexeme) (ps : List RawProd) → Many (IsProd 0).derives u ps → AllByRecursion (λ (p : RawProd). AreFew p.items) ps
few_items_each u [] d = tt
few_items_each u (p ∷ ps) d = (few_items_of _ p d.3, few_items_each d.1 ps d.4)

-- ---- the whole

grammar_keeps : (u : List Lexeme) (g : RawGrammar) → (IsGrammar 0).derives u g → KeepsLimits g
grammar_keeps u g d =
    let prods = d.5 in
    let each = few_items_each _ _ prods.4.0 in
    let items = All-from_recursion (λ (p : RawProd). AreFew p.items) prods.2 each in
    subst KeepsLimits (sym prods.5.5.1) (record {
      sorts = d.4.1;
      prods = prods.4.1;
      attrs = All-from_recursion (λ (s : RawSort). length s.attrs ≤ ATTRIBUTE_LIMIT) d.2 (few_attrs_each _ _ d.4.0);
      kids = All-from_recursion (λ (p : RawProd). length p.kids ≤ CHILD_LIMIT) prods.2 (few_kids_each _ _ prods.4.0);
      locals = All-weaker (λ (p : RawProd). AreFew p.items) (λ (p : RawProd). count_by is_declaration p.items ≤ LOCAL_LIMIT) (λ p few. few.locals) prods.2 items;
      nodes = All-weaker (λ (p : RawProd). AreFew p.items) (λ (p : RawProd). All Few p.items) (λ p few. few.nodes) prods.2 items;
    })

few_edits : (u : List Lexeme) (s : RawScript) → (IsSession 0).derives u s → length s.edits ≤ EDIT_LIMIT
few_edits u s d =
    let edits = d.5.5.5.5 in subst (λ (z : RawScript). length z.edits ≤ EDIT_LIMIT) (sym edits.5.5.1) edits.4.1

few_edits_each : (u : List Lexeme) (ss : List RawScript) → Many (IsSession 0).derives u ss → AllByRecursion (λ (s : RawScript). length s.edits ≤ EDIT_LIMIT) ss
few_edits_each u [] d = tt
few_edits_each u (s ∷ ss) d = (few_edits _ s d.3, few_edits_each d.1 ss d.4)

job_keeps : (u : List Lexeme) (job : Job) → (IsJob 0).derives u job → KeepsLimits job.grammar × KeepsCounts job
unfolding IsJob
job_keeps u job d =
    let grammar = d.5.5 in
    let sessions = grammar.5 in
    subst (λ (z : Job). KeepsLimits z.grammar × KeepsCounts z) (sym sessions.5.1) (
      grammar_keeps _ _ grammar.4,
      record {
        sessions = sessions.4.1;
        edits = All-from_recursion (λ (s : RawScript). length s.edits ≤ EDIT_LIMIT) sessions.2 (few_edits_each _ _ sessions.4.0);
      },
    )

-- the same of what a reading answers
pub ok_keeps_limits : (text : List ℕ) (r : Result Job JobFault) → IfOk r (Denotes text) → IfOk r (λ job. KeepsLimits job.grammar)
ok_keeps_limits text (Ok job) d = (job_keeps _ job d.derived).0
ok_keeps_limits text (Err fault) d = tt

pub ok_keeps_counts : (text : List ℕ) (r : Result Job JobFault) → IfOk r (Denotes text) → IfOk r KeepsCounts
ok_keeps_counts text (Ok job) d = (job_keeps _ job d.derived).1
ok_keeps_counts text (Err fault) d = tt
