use Rattle.std.proofs.Common.{take}
use Rattle.lrc_code.specs.Decoding.{nonzero}
use Rattle.lrc_unparse.specs.Printing.{Puts}
use Rattle.lrc_unparse.proofs.printer.Printer.put_word.Given as goal

-- the bytes so far that are no padding are put
abbrev pub invariant-loop-byte : goal.invariant-loop-byte
invariant-loop-byte l = Puts l.fn.self (nonzero (take l.byte-index l.byte-items)) l.self
