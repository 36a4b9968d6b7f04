use Rattle.std.proofs.Common.{◌≡◌, ◌++◌}
use Rattle.lrc_store.specs.Standing.{meant}
use Rattle.lrc_store.specs.Words.{Reads}
use Rattle.lrc_code.specs.Decoding.{tree_in}
use Rattle.lrc_unparse.specs.Styles.{text_of}
use Rattle.lrc_unparse.specs.Printing.{IsShort, AreKnown, cut, pending_text, pending_size}
use Rattle.lrc_unparse.proofs.texts.printed.Given as goal

-- what is printed and what is pending make the text of the tree, as far as it is made
abbrev pub invariant-loop-style : goal.invariant-loop-style
invariant-loop-style g l = record {
  whole : cut (l.printer.text.items ++ pending_text l.style l.prods (g.St.Store.state l.store) l.printer.pending) ≡ cut (text_of l.style l.prods (tree_in (meant (g.St.Store.state l.fn.store) l.fn.tree.0)));
  short : IsShort l.printer;
  known : AreKnown (g.St.Store.state l.store) l.printer.pending;
  reads : Reads (g.St.Store.state l.fn.store) (g.St.Store.state l.store);
  same_meaning : g.St.Store.meaning l.store ≡ g.St.Store.meaning l.fn.store;
}

-- each part is larger than what it opens
abbrev pub decreases-loop-style : goal.decreases-loop-style
decreases-loop-style g l = pending_size l.style l.prods (g.St.Store.state l.store) l.printer.pending
