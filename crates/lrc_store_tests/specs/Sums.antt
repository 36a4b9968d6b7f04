-- The tree that the tests put into stores.
use Rattle.std.specs.Prelude.{pos}
use Rattle.lrc_meaning.specs.Tree.{Tree, int, node, none, more}

-- `Add(Num(1), Num(2))`: productions 0 and 1 over numbers
abbrev pub one_and_two : Tree
one_and_two = node 1 (more (node 0 (more (int (pos 1)) none)) (more (node 0 (more (int (pos 2)) none)) none))
