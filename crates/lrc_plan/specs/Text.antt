-- The texts of a plan: the visits of each sort, and the segments and bindings of each production.
use Rattle.std.specs.Prelude.{ℕ, ◌+◌, Bool, true, false, List, [], ◌∷◌, ◌++◌, map, flat_map, length, slice_get, slice_index_or, codes, decimal}
use Rattle.std.specs.Option.{option_map_or}
use Rattle.std.specs.List.{range_with_len}
use Rattle.lrc_base.specs.declared.grammar.Attr.{Attr}
use Rattle.lrc_base.specs.declared.grammar.Sort.{Sort}
use Rattle.lrc_base.specs.declared.grammar.Production.{Production}
use Rattle.lrc_base.specs.declared.signature.Occurrence.{Occurrence}
use Rattle.lrc_base.specs.declared.signature.Symbol.{Symbol}
use Rattle.lrc_base.specs.declared.signature.Signature.{Signature}
use Rattle.lrc_meaning.specs.Grammar.{Grammar, attrs_of_sort}
use Rattle.lrc_meaning.specs.Signature.{signature_of}
use Rattle.lrc_meaning.specs.Text.{line_feed}
use Rattle.lrc_order_meaning.specs.declared.Partition.{Partition}
use Rattle.lrc_plan_meaning.specs.declared.Action.{Action}
use Rattle.lrc_plan_meaning.specs.declared.Action.TheVariants as a
use Rattle.lrc_plan_meaning.specs.declared.Bound.{Bound}
use Rattle.lrc_plan_meaning.specs.declared.Bound.TheVariants as b
use Rattle.lrc_plan_meaning.specs.declared.Sequences.{Sequences}
use Rattle.lrc_plan_meaning.specs.Items.{visits_of, attrs_of_visit}
use Rattle.lrc_plan_meaning.specs.Plans.{sequences_of}

-- how an occurrence prints: an attribute of a symbol behind the symbol's name
abbrev pub occurrence_name : Occurrence → List ℕ
occurrence_name o = option_map_or (λ symbol. symbol ++ (codes "." ++ o.name)) o.owner o.name

-- How the occurrences of a production print, by number.
abbrev pub occurrence_names : Signature → List (List ℕ)
occurrence_names signature = map occurrence_name signature.occurrences

-- How its symbols print, by number.
abbrev pub symbol_names : Signature → List (List ℕ)
symbol_names signature = map (λ (s : Symbol). s.name) signature.symbols

-- names, by number
abbrev pub name_at : List (List ℕ) → ℕ → List ℕ
name_at names i = slice_index_or names i []

module _ (occurrences symbols : List (List ℕ)) where
  abbrev pub action_text : Action → List ℕ
  action_text (a.Eval o) = codes "eval " ++ name_at occurrences o
  action_text (a.Visit s v) = codes "visit " ++ (name_at symbols s ++ (codes " " ++ decimal v))

  abbrev pub bound_text : Bound → List ℕ
  bound_text (b.Value o) = name_at occurrences o
  bound_text (b.Kid s i j) = name_at symbols s ++ (codes " " ++ (decimal i ++ (codes " " ++ decimal j)))

  abbrev pub more_actions : List Action → List ℕ
  more_actions xs = flat_map (λ x. codes "; " ++ action_text x) xs

  -- the first stands after a space, the others after `; `
  abbrev pub actions_text : List Action → List ℕ
  actions_text [] = []
  actions_text (x ∷ xs) = codes " " ++ (action_text x ++ more_actions xs)

  abbrev pub more_bounds : List Bound → List ℕ
  more_bounds xs = flat_map (λ x. codes "; " ++ bound_text x) xs

  abbrev pub bounds_text : List Bound → List ℕ
  bounds_text [] = []
  bounds_text (x ∷ xs) = codes " " ++ (bound_text x ++ more_bounds xs)

  -- `  V: ` and the actions of visit V
  abbrev pub segment_line : ℕ → List Action → List ℕ
  segment_line v actions = codes "  " ++ (decimal v ++ (codes ":" ++ (actions_text actions ++ line_feed)))

  -- `  bind V W: ` and the items of the binding from visit V to visit W
  abbrev pub binding_line : ℕ → ℕ → List Bound → List ℕ
  binding_line v w items =
      codes "  bind " ++ (decimal v ++ (codes " " ++ (decimal w ++ (codes ":" ++ (bounds_text items ++ line_feed)))))

  -- the lines of segments, and of the bindings from visit V, by the later visit
  abbrev pub segment_lines : List (List Action) → List ℕ
  segment_lines segments = flat_map (λ k. segment_line (k + 1) (slice_index_or segments k [])) (range_with_len 0 (length segments))

  abbrev pub later_lines : ℕ → List (List Bound) → List ℕ
  later_lines v later = flat_map (λ k. binding_line v (v + k + 1) (slice_index_or later k [])) (range_with_len 0 (length later))

  abbrev pub binding_lines : List (List (List Bound)) → List ℕ
  binding_lines bindings = flat_map (λ k. later_lines (k + 1) (slice_index_or bindings k [])) (range_with_len 0 (length bindings))

  abbrev pub sequences_lines : Sequences → List ℕ
  sequences_lines found = segment_lines found.actions ++ binding_lines found.bindings

-- `prod NAME`, the segments, and the bindings
abbrev pub production_lines : Signature → Production → Sequences → List ℕ
production_lines signature p found =
    codes "prod " ++ (p.name ++ (line_feed ++ sequences_lines (occurrence_names signature) (symbol_names signature) found))

-- The text of a plan.
abbrev pub plan_text : Grammar → List Partition → List ℕ
plan_text g parts = flat_map (λ p. production_lines (signature_of g.sorts p) p (sequences_of g.sorts parts p)) g.prods

-- the name of an attribute by its number
abbrev pub attr_name : List Attr → ℕ → List ℕ
attr_name attrs x = option_map_or (λ (found : Attr). found.name) (slice_get attrs x) []

-- names of attributes with a comma between them
abbrev pub comma_joined : List Attr → List ℕ → List ℕ
comma_joined attrs [] = []
comma_joined attrs (x ∷ xs) = attr_name attrs x ++ flat_map (λ y. codes "," ++ attr_name attrs y) xs

-- the attributes of a direction that a visit has
abbrev pub visit_names : List Sort → List Partition → ℕ → ℕ → Bool → List ℕ
visit_names sorts parts s v inherited = comma_joined (attrs_of_sort sorts s) (attrs_of_visit sorts parts inherited s v)

-- ` [inherited,..>synthesised,..]`
abbrev pub visit_text : List Sort → List Partition → ℕ → ℕ → List ℕ
visit_text sorts parts s v =
    codes " [" ++ (visit_names sorts parts s v true ++ (codes ">" ++ (visit_names sorts parts s v false ++ codes "]")))

-- a sort's name and its visits
abbrev pub sort_text : List Sort → List Partition → ℕ → List ℕ
sort_text sorts parts s =
    option_map_or (λ (found : Sort). found.name) (slice_get sorts s) []
    ++ (flat_map (visit_text sorts parts s) (range_with_len 1 (visits_of parts s)) ++ line_feed)

-- The text of the partitions.
abbrev pub parts_text : Grammar → List Partition → List ℕ
parts_text g parts = flat_map (sort_text g.sorts parts) (range_with_len 0 (length g.sorts))
