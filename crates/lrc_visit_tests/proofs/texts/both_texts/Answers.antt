use Rattle.lrc_base.specs.declared.grammar.Kind.TheVariants as k
use Rattle.lrc_meaning.specs.Tree.{tree}
use Rattle.lrc_grammar.specs.Grammar.{grammar_of}
use Rattle.lrc_places.proofs.PlaceLemmas.{productions-below, children-few}
use Rattle.lrc_session.proofs.RootLemmas.{few_productions}
use Rattle.lrc_visit_tests.proofs.SessionLemmas.{script_parts}
use Rattle.lrc_visit_tests.proofs.texts.both_texts.Goals as goal

pub put_term-requires-clause-few : goal.put_term-requires-clause-few
put_term-requires-clause-few c =
    let grammar = c.args.grammar.now in
    children-few grammar.prods grammar.few.parts (tree c.args.script.now.tree) (k.Sort grammar.start) (script_parts grammar.prods grammar.start c.args.script.now c.requires).0

pub put_term-requires-clause-below : goal.put_term-requires-clause-below
put_term-requires-clause-below c =
    let grammar = c.args.grammar.now in
    productions-below grammar.prods 65280 (few_productions (grammar_of grammar) grammar.few) (tree c.args.script.now.tree) (k.Sort grammar.start)
    (script_parts grammar.prods grammar.start c.args.script.now c.requires).0
