-- The grammar of generated jobs, as it is written, is the one by numbers: its sorts, its start, and production by production.
use Rattle.std.proofs.Common.{◌≡◌, map, Some, refl}
use Rattle.lrc_meaning.specs.Naming.{each_some, sort_number, named_sort, named_production, named_grammar}
use Rattle.lrc_naming.proofs.NamingLemmas.{named_expr_equations}
use Rattle.lrc_gen.specs.Lets.{prog_sort, exp_sort, env_sort, root_items, root_prod, num_items, num_prod, var_items, var_prod, add_pattern, add_items, add_prod, neg_pattern, neg_items, neg_prod, let_pattern, bound, let_items, let_prod, empty_prod, found, bind_items, bind_prod, sorts, tree_prods, prods, lets}
use Rattle.lrc_gen_laws.specs.LetsGrammar.{root, num, var, add, neg, let_in, empty, bind, lets_sorts, lets_prods, lets_grammar}

sorts_named : each_some (map (named_sort lets.sorts) lets.sorts) ≡ Some lets_sorts
unfolding lets sorts prog_sort exp_sort env_sort
sorts_named = refl

start_named : sort_number lets.sorts lets.start ≡ Some 0
unfolding lets sorts prog_sort exp_sort env_sort
start_named = refl

-- ---- productions; one that makes trees reads the names of all

root_named : named_production lets lets_sorts root_prod ≡ Some root
unfolding lets sorts prog_sort exp_sort env_sort prods tree_prods root_prod num_prod var_prod add_prod neg_prod let_prod empty_prod bind_prod root_items
root_named = simp named_expr_equations refl

num_named : named_production lets lets_sorts num_prod ≡ Some num
unfolding lets sorts prog_sort exp_sort env_sort num_prod num_items
num_named = simp named_expr_equations refl

var_named : named_production lets lets_sorts var_prod ≡ Some var
unfolding lets sorts prog_sort exp_sort env_sort var_prod var_items
var_named = simp named_expr_equations refl

add_named : named_production lets lets_sorts add_prod ≡ Some add
unfolding lets sorts prog_sort exp_sort env_sort add_prod add_items add_pattern
add_named = simp named_expr_equations refl

neg_named : named_production lets lets_sorts neg_prod ≡ Some neg
unfolding lets sorts prog_sort exp_sort env_sort neg_prod neg_items neg_pattern
neg_named = simp named_expr_equations refl

let_named : named_production lets lets_sorts let_prod ≡ Some let_in
unfolding lets sorts prog_sort exp_sort env_sort prods tree_prods root_prod num_prod var_prod add_prod neg_prod let_prod empty_prod bind_prod let_items let_pattern bound
let_named = simp named_expr_equations refl

empty_named : named_production lets lets_sorts empty_prod ≡ Some empty
unfolding lets sorts prog_sort exp_sort env_sort empty_prod
empty_named = simp named_expr_equations refl

bind_named : named_production lets lets_sorts bind_prod ≡ Some bind
unfolding lets sorts prog_sort exp_sort env_sort bind_prod bind_items found
bind_named = simp named_expr_equations refl

-- ---- the whole

prods_named : each_some (map (named_production lets lets_sorts) lets.prods) ≡ Some lets_prods
unfolding lets prods tree_prods
prods_named = rw (root_named, num_named, var_named, add_named, neg_named, let_named, empty_named, bind_named) refl

pub lets_named : named_grammar lets ≡ Some lets_grammar
lets_named = rw (sorts_named, prods_named, start_named) refl
