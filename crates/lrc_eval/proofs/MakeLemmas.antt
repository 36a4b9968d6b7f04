-- What is answered of a node that is made and of its arguments, from what is answered of each argument.
use Rattle.std.proofs.Common.{◌≡◌, ℕ, ◌+◌, ◌<◌, ◌≤◌, ◌-◌, List, [], ◌∷◌, map, length, take, drop, get_or, refl, sym, ◌∙◌, ap, subst, arith, Option, Some, None}
use Rattle.std.specs.Prelude.{Result, Ok, Err, IsErr, option_map, option_and_then}
use Rattle.std.specs.Option.{option_map_or}
use Rattle.std.proofs.lemmas.Bool.{false≢true}
use Rattle.std.proofs.lemmas.List.{take_all}
use Rattle.lrc_base.specs.declared.expr.Expr.{Expr}
use Rattle.lrc_meaning.specs.Tree.{Tree, Trees, none, more, node}
use Rattle.lrc_meaning.specs.Expression.{Expression, make, Expressions, no_more, and_more, expression, expression_row, value_of, values_of}
use Rattle.lrc_visit_meaning.specs.Demand.{built_in, built_in_each}
use Rattle.lrc_store.specs.Cells.{CellTree, nil, parts, IsWithin}
use Rattle.lrc_store.specs.Standing.{Standing, Stands, IsKnown, meant, Told}
use Rattle.lrc_store.specs.Words.{Adds, LacksOne, Tells}
use Rattle.lrc_store.specs.declared.cells.Handle.{Handle}
use Rattle.lrc_store.specs.declared.stores.Full.{Full}
use Rattle.lrc_store.proofs.Known.{stands-meant, stands-known}
use Rattle.lrc_store.proofs.Lasting.{adds-same, adds-more, lacks-more}
use Rattle.lrc_code.specs.Forms.{more_cell, list_cell, node_cell, tree_cell, kid_cells}
use Rattle.lrc_code.specs.Building.{Builds}
use Rattle.lrc_code.proofs.Growing.{left-within, right-within}
use Rattle.lrc_eval.specs.declared.values.Val.{Val}
use Rattle.lrc_eval.specs.declared.values.Val.TheVariants as v
use Rattle.lrc_eval.specs.Values.{Means}
use Rattle.lrc_eval.specs.Evaluating.{Inputs, leaves, cells_of_trees, built_cells, argument_cells, Evaluates, EvaluatesEach}
use Rattle.lrc_eval.proofs.CellLemmas.{within-left, within-right, within-each, cells-left, cells-right, cells-each, cells-one, cells-only, told-none, told-lasts, told-each, adds-in}
use Rattle.lrc_eval.proofs.GivenLemmas.{meant-lasts}
use Rattle.lrc_eval.proofs.EvaluateLemmas.{ends-full, ends-none, ends-some}

-- the parts of the list of values, where there are values
abbrev list_parts : Option Trees → List CellTree
list_parts values = option_map_or (λ ts. parts (list_cell (kid_cells ts))) values []

-- ---- answers for arguments

each-full : (s t : Standing) (x : Inputs) (es : Expressions) (answer : Result (Option Handle) Full) → Adds s t (argument_cells x es) → LacksOne t (argument_cells x es) → IsErr answer → EvaluatesEach s t x es answer
each-full s t x es (Ok found) adds lacks h = absurd (false≢true h)
each-full s t x es (Err f) adds lacks h = record { adds = adds; found = tt; seen = tt; full = lacks }

each-none : (s t : Standing) (x : Inputs) (es : Expressions) → Adds s t (argument_cells x es) → values_of x.values (leaves x) es ≡ None → EvaluatesEach s t x es (Ok None)
each-none s t x es adds is = record { adds = adds; found = is; seen = tt; full = tt }

-- the empty list
pub no-arguments : (s : Standing) (x : Inputs) (handle : Handle) → Tells s handle.0 nil → EvaluatesEach s s x no_more (Ok (Some handle))
no-arguments s x handle h = record { adds = adds-same s (argument_cells x no_more); found = (none, refl, h, tt); seen = told-none s.seen; full = tt }

-- ---- the first argument and the rest

module _ (x : Inputs) (e : Expression) (es : Expressions) where
  first-in : IsWithin (built_cells x e) (argument_cells x (and_more e es))
  first-in c h =
      within-left (cells_of_trees (built_in_each x.values (leaves x) (and_more e es))) (list_parts (values_of x.values (leaves x) (and_more e es))) c
      (cells-left (built_in x.values (leaves x) e) (built_in_each x.values (leaves x) es) c h)

  -- the values of all arguments where the first one has a value
  values-rest : (y : Tree) → value_of x.values (leaves x) e ≡ Some y → values_of x.values (leaves x) (and_more e es) ≡ option_map (more y) (values_of x.values (leaves x) es)
  values-rest y is = ap (option_and_then (λ u. option_map (more u) (values_of x.values (leaves x) es))) is

  -- the list of the rest is a part of the list of all
  list-rest : (y : Tree) (values : Option Trees) → IsWithin (list_parts values) (list_parts (option_map (more y) values))
  list-rest y None c h = h
  list-rest y (Some ts) c h = right-within 4 (tree_cell y) (list_cell (kid_cells ts)) c h

  rest-in : (y : Tree) → value_of x.values (leaves x) e ≡ Some y → IsWithin (argument_cells x es) (argument_cells x (and_more e es))
  rest-in y is =
      within-each (cells_of_trees (built_in_each x.values (leaves x) es)) (list_parts (values_of x.values (leaves x) es)) (argument_cells x (and_more e es))
      (λ c h. within-left (cells_of_trees (built_in_each x.values (leaves x) (and_more e es))) (list_parts (values_of x.values (leaves x) (and_more e es))) c
      (cells-right (built_in x.values (leaves x) e) (built_in_each x.values (leaves x) es) c h))
      (λ c h. within-right (cells_of_trees (built_in_each x.values (leaves x) (and_more e es))) (list_parts (values_of x.values (leaves x) (and_more e es))) c
      (subst (λ (values : Option Trees). IsWithin (list_parts (values_of x.values (leaves x) es)) (list_parts values)) (sym (values-rest y is)) (list-rest y (values_of x.values (leaves x) es)) c h))

  -- the values of all arguments
  values-all : (y : Tree) (ts : Trees) → value_of x.values (leaves x) e ≡ Some y → values_of x.values (leaves x) es ≡ Some ts → values_of x.values (leaves x) (and_more e es) ≡ Some (more y ts)
  values-all y ts is are = values-rest y is ∙ ap (option_map (more y)) are

  -- the list of all values is built
  list-in : (ts : Trees) → values_of x.values (leaves x) (and_more e es) ≡ Some ts → IsWithin (parts (list_cell (kid_cells ts))) (argument_cells x (and_more e es))
  list-in ts are c h =
      within-right (cells_of_trees (built_in_each x.values (leaves x) (and_more e es))) (list_parts (values_of x.values (leaves x) (and_more e es))) c
      (subst (λ (values : Option Trees). IsWithin (parts (list_cell (kid_cells ts))) (list_parts values)) (sym are) (λ d k. k) c h)

  pub first-full : (s t : Standing) (f : Full) (answer : Result (Option Handle) Full) → Evaluates s t x e (Err f) → IsErr answer → EvaluatesEach s t x (and_more e es) answer
  first-full s t f answer h err =
      each-full s t x (and_more e es) answer (adds-more s t (built_cells x e) (argument_cells x (and_more e es)) first-in h.adds)
      (lacks-more t (built_cells x e) (argument_cells x (and_more e es)) first-in h.full) err

  pub first-none : (s t : Standing) → Evaluates s t x e (Ok None) → EvaluatesEach s t x (and_more e es) (Ok None)
  first-none s t h =
      each-none s t x (and_more e es) (adds-more s t (built_cells x e) (argument_cells x (and_more e es)) first-in h.adds)
      (ap (option_and_then (λ u. option_map (more u) (values_of x.values (leaves x) es))) h.found)

  module _ (s t u : Standing) (value : Val) (h : Evaluates s t x e (Ok (Some value))) where
    rest-added : Adds t u (argument_cells x es) → Adds s u (argument_cells x (and_more e es))
    rest-added g =
        adds-in s t u (argument_cells x es) (argument_cells x (and_more e es)) (rest-in h.found.0 h.found.1)
        (adds-more s t (built_cells x e) (argument_cells x (and_more e es)) first-in h.adds) g

    pub rest-full : (f : Full) (answer : Result (Option Handle) Full) → EvaluatesEach t u x es (Err f) → IsErr answer → EvaluatesEach s u x (and_more e es) answer
    rest-full f answer k err =
        each-full s u x (and_more e es) answer (rest-added k.adds)
        (lacks-more u (argument_cells x es) (argument_cells x (and_more e es)) (rest-in h.found.0 h.found.1) k.full) err

    pub rest-none : EvaluatesEach t u x es (Ok None) → EvaluatesEach s u x (and_more e es) (Ok None)
    rest-none k =
        each-none s u x (and_more e es) (rest-added k.adds) (values-rest h.found.0 h.found.1 ∙ ap (option_map (more h.found.0)) k.found)

    module _ (list : Handle) (k : EvaluatesEach t u x es (Ok (Some list))) where
      -- the value of the first argument is still meant
      pub value-meant : Means u value h.found.0
      value-meant = (meant-lasts t u value h.found.0 k.adds.gains.lasts.known h.found.2).means

      item-in : IsWithin (parts (tree_cell h.found.0)) (argument_cells x (and_more e es))
      item-in c held =
          list-in (more h.found.0 k.found.0) (values-all h.found.0 k.found.0 h.found.1 k.found.1) c
          (left-within 4 (tree_cell h.found.0) (list_cell (kid_cells k.found.0)) c held)

      pub item-full : (w : Standing) (f : Full) (answer : Result (Option Handle) Full) → Builds u w (tree_cell h.found.0) (Err f) → IsErr answer → EvaluatesEach s w x (and_more e es) answer
      item-full w f answer b err =
          each-full s w x (and_more e es) answer
          (adds-in s u w (parts (tree_cell h.found.0)) (argument_cells x (and_more e es)) item-in (rest-added k.adds) b.adds)
          (lacks-more w (parts (tree_cell h.found.0)) (argument_cells x (and_more e es)) item-in b.full) err

      module _ (w : Standing) (item : Handle) (b : Builds u w (tree_cell h.found.0) (Ok item)) where
        pub item-known : IsKnown w item.0
        item-known = stands-known w item.0 (tree_cell h.found.0) b.ok.stands

        rest-stands : Stands w list.0 (list_cell (kid_cells k.found.0))
        rest-stands = b.adds.gains.lasts.known list.0 (list_cell (kid_cells k.found.0)) k.found.2.stands

        pub rest-known : IsKnown w list.0
        rest-known = stands-known w list.0 (list_cell (kid_cells k.found.0)) rest-stands

        whole-cell : more_cell (meant w item.0) (meant w list.0) ≡ list_cell (kid_cells (more h.found.0 k.found.0))
        whole-cell =
            ap (λ c. more_cell c (meant w list.0)) (stands-meant w item.0 (tree_cell h.found.0) b.ok.stands)
            ∙ ap (more_cell (tree_cell h.found.0)) (stands-meant w list.0 (list_cell (kid_cells k.found.0)) rest-stands)

        whole-in : IsWithin (parts (more_cell (meant w item.0) (meant w list.0))) (argument_cells x (and_more e es))
        whole-in =
            subst (λ (c : CellTree). IsWithin (parts c) (argument_cells x (and_more e es))) (sym whole-cell)
            (list-in (more h.found.0 k.found.0) (values-all h.found.0 k.found.0 h.found.1 k.found.1))

        whole-added : (z : Standing) → Adds w z (parts (more_cell (meant w item.0) (meant w list.0))) → Adds s z (argument_cells x (and_more e es))
        whole-added z g =
            adds-in s w z (parts (more_cell (meant w item.0) (meant w list.0))) (argument_cells x (and_more e es)) whole-in
            (adds-in s u w (parts (tree_cell h.found.0)) (argument_cells x (and_more e es)) item-in (rest-added k.adds) b.adds) g

        pub list-full : (z : Standing) (f : Full) (answer : Result (Option Handle) Full) → Builds w z (more_cell (meant w item.0) (meant w list.0)) (Err f) → IsErr answer → EvaluatesEach s z x (and_more e es) answer
        list-full z f answer d err =
            each-full s z x (and_more e es) answer (whole-added z d.adds)
            (lacks-more z (parts (more_cell (meant w item.0) (meant w list.0))) (argument_cells x (and_more e es)) whole-in d.full) err

        -- what is built, first by the first argument, then by the rest, and then the list
        in-order : (seen : List CellTree) → IsWithin (built_cells x e) seen → IsWithin (argument_cells x es) seen → IsWithin (parts (list_cell (kid_cells (more h.found.0 k.found.0)))) seen →
            IsWithin (argument_cells x (and_more e es)) seen
        in-order seen one others list_seen =
            within-each (cells_of_trees (built_in_each x.values (leaves x) (and_more e es))) (list_parts (values_of x.values (leaves x) (and_more e es))) seen
            (cells-each (built_in x.values (leaves x) e) (built_in_each x.values (leaves x) es) seen one
            (λ c held. others c (within-left (cells_of_trees (built_in_each x.values (leaves x) es)) (list_parts (values_of x.values (leaves x) es)) c held)))
            (subst (λ (values : Option Trees). IsWithin (list_parts values) seen) (sym (values-all h.found.0 k.found.0 h.found.1 k.found.1)) list_seen)

        told-all : (o : Option (List CellTree)) → Told o (IsWithin (built_cells x e)) → Told o (IsWithin (argument_cells x es)) → Told o (IsWithin (parts (list_cell (kid_cells (more h.found.0 k.found.0))))) →
            Told o (IsWithin (argument_cells x (and_more e es)))
        told-all None one others list_seen = tt
        told-all (Some seen) one others list_seen = in-order seen one others list_seen

        pub list-there : (z : Standing) (handle : Handle) → Builds w z (more_cell (meant w item.0) (meant w list.0)) (Ok handle) → EvaluatesEach s z x (and_more e es) (Ok (Some handle))
        list-there z handle d =
            let tells : Tells z handle.0 (list_cell (kid_cells (more h.found.0 k.found.0))) = subst (λ (c : CellTree). Tells z handle.0 c) whole-cell d.ok in
            record {
              adds = whole-added z d.adds;
              found = (more h.found.0 k.found.0, values-all h.found.0 k.found.0 h.found.1 k.found.1, tells, (h.found.2.spelled, k.found.3));
              seen = told-all z.seen
                  (told-lasts w.seen z.seen (built_cells x e) d.adds.gains.lasts.seen (told-lasts u.seen w.seen (built_cells x e) b.adds.gains.lasts.seen (told-lasts t.seen u.seen (built_cells x e) k.adds.gains.lasts.seen h.seen)))
                  (told-lasts w.seen z.seen (argument_cells x es) d.adds.gains.lasts.seen (told-lasts u.seen w.seen (argument_cells x es) b.adds.gains.lasts.seen k.seen))
                  tells.seen;
              full = tt;
            }

-- ---- the node

module _ (x : Inputs) (p : ℕ) (es : Expressions) where
  -- the list of the children is a part of the node
  list-of-node : (values : Option Trees) → IsWithin (list_parts values) (cells_of_trees (option_map_or (λ t. t ∷ []) (option_map (node p) values) []))
  list-of-node None c h = h
  list-of-node (Some ts) c h = cells-one (node p ts) c (left-within (256 + p) (list_cell (kid_cells ts)) nil c h)

  arguments-in : IsWithin (argument_cells x es) (built_cells x (make p es))
  arguments-in =
      within-each (cells_of_trees (built_in_each x.values (leaves x) es)) (list_parts (values_of x.values (leaves x) es)) (built_cells x (make p es))
      (cells-left (built_in_each x.values (leaves x) es) (option_map_or (λ t. t ∷ []) (value_of x.values (leaves x) (make p es)) []))
      (λ c h. cells-right (built_in_each x.values (leaves x) es) (option_map_or (λ t. t ∷ []) (value_of x.values (leaves x) (make p es)) []) c
      (list-of-node (values_of x.values (leaves x) es) c h))

  pub arguments-full : (s t : Standing) (f : Full) (answer : Result (Option Val) Full) → EvaluatesEach s t x es (Err f) → IsErr answer → Evaluates s t x (make p es) answer
  arguments-full s t f answer h err =
      ends-full s t x (make p es) answer (adds-more s t (argument_cells x es) (built_cells x (make p es)) arguments-in h.adds)
      (lacks-more t (argument_cells x es) (built_cells x (make p es)) arguments-in h.full) err

  pub arguments-none : (s t : Standing) → EvaluatesEach s t x es (Ok None) → Evaluates s t x (make p es) (Ok None)
  arguments-none s t h =
      ends-none s t x (make p es) (adds-more s t (argument_cells x es) (built_cells x (make p es)) arguments-in h.adds) (ap (option_map (node p)) h.found)

  module _ (s t u : Standing) (list : Handle) (h : EvaluatesEach s t x es (Ok (Some list))) where
    value-is : value_of x.values (leaves x) (make p es) ≡ Some (node p h.found.0)
    value-is = ap (option_map (node p)) h.found.1

    whole-node : node_cell p (meant t list.0) ≡ tree_cell (node p h.found.0)
    whole-node = ap (node_cell p) (stands-meant t list.0 (list_cell (kid_cells h.found.0)) h.found.2.stands)

    node-in : IsWithin (parts (tree_cell (node p h.found.0))) (built_cells x (make p es))
    node-in c held =
        cells-right (built_in_each x.values (leaves x) es) (option_map_or (λ t. t ∷ []) (value_of x.values (leaves x) (make p es)) []) c
        (subst (λ (o : Option Tree). IsWithin (parts (tree_cell (node p h.found.0))) (cells_of_trees (option_map_or (λ t. t ∷ []) o []))) (sym value-is) (cells-one (node p h.found.0)) c held)

    made-in : IsWithin (parts (node_cell p (meant t list.0))) (built_cells x (make p es))
    made-in = subst (λ (c : CellTree). IsWithin (parts c) (built_cells x (make p es))) (sym whole-node) node-in

    node-added : Adds t u (parts (node_cell p (meant t list.0))) → Adds s u (built_cells x (make p es))
    node-added g =
        adds-in s t u (parts (node_cell p (meant t list.0))) (built_cells x (make p es)) made-in
        (adds-more s t (argument_cells x es) (built_cells x (make p es)) arguments-in h.adds) g

    pub node-full : (f : Full) (answer : Result (Option Val) Full) → Builds t u (node_cell p (meant t list.0)) (Err f) → IsErr answer → Evaluates s u x (make p es) answer
    node-full f answer d err =
        ends-full s u x (make p es) answer (node-added d.adds)
        (lacks-more u (parts (node_cell p (meant t list.0))) (built_cells x (make p es)) made-in d.full) err

    node-seen : (seen : List CellTree) → IsWithin (argument_cells x es) seen → IsWithin (parts (tree_cell (node p h.found.0))) seen → IsWithin (built_cells x (make p es)) seen
    node-seen seen all whole =
        cells-each (built_in_each x.values (leaves x) es) (option_map_or (λ t. t ∷ []) (value_of x.values (leaves x) (make p es)) []) seen
        (λ c held. all c (within-left (cells_of_trees (built_in_each x.values (leaves x) es)) (list_parts (values_of x.values (leaves x) es)) c held))
        (subst (λ (o : Option Tree). IsWithin (cells_of_trees (option_map_or (λ t. t ∷ []) o [])) seen) (sym value-is)
        (λ c held. whole c (cells-only (node p h.found.0) c held)))

    pub node-there : (handle : Handle) → Builds t u (node_cell p (meant t list.0)) (Ok handle) → Evaluates s u x (make p es) (Ok (Some (v.Ref handle)))
    node-there handle d =
        let tells : Tells u handle.0 (tree_cell (node p h.found.0)) = subst (λ (c : CellTree). Tells u handle.0 c) whole-node d.ok in
        ends-some s u x (make p es) (v.Ref handle) (node p h.found.0) (node-added d.adds) value-is
        (record { means = (refl, tells.stands); spelled = h.found.3 })
        (told-each u.seen (argument_cells x es) (parts (tree_cell (node p h.found.0))) (built_cells x (make p es)) node-seen
        (told-lasts t.seen u.seen (argument_cells x es) d.adds.gains.lasts.seen h.seen) tells.seen)

    pub list-known : IsKnown t list.0
    list-known = stands-known t list.0 (list_cell (kid_cells h.found.0)) h.found.2.stands

-- ---- the arguments as they are read

pub no-args : (args : List Expr) → length args < 1 → expression_row (map expression args) ≡ no_more
no-args [] h = refl
no-args (a ∷ args) h = absurd (omega arith)

pub first-args : (args : List Expr) (first : Expr) → 1 ≤ length args → first ≡ get_or args 0 first →
    expression_row (map expression args) ≡ and_more (expression first) (expression_row (map expression (take (length args - 1) (drop 1 args))))
first-args [] first h e = absurd (omega arith)
first-args (a ∷ args) first h e =
    let rest : take (length (a ∷ args) - 1) args ≡ args = take_all (length (a ∷ args) - 1) args (omega arith) in
    ap (λ (f : Expr). and_more (expression f) (expression_row (map expression args))) (sym e)
    ∙ ap (λ (fs : List Expr). and_more (expression first) (expression_row (map expression fs))) (sym rest)
