use Rattle.std.proofs.Common.{◌≡◌, ◌++◌, ◌∙◌, length, refl, ap, arith}
use Rattle.lrc_unparse.specs.Printing.{cut}
use Rattle.lrc_unparse.proofs.TextLemmas.{cut-short, cut-put}
use Rattle.lrc_unparse.proofs.printer.Printer.put.Goals as goal

pub returns : goal.returns
returns c =
    let before = c.args.self.now.text.items in
    let bytes = c.args.bytes.now in
    let put : c.extend_from_slice.new.self.items ≡ cut (before ++ bytes) =
    c.in_ok-extend_from_slice.ensures.items ∙ cut-put c.min.result before bytes c.requires (omega (arith, c.min.ensures, c.len.ensures)) in
    let made : length c.extend_from_slice.new.self.items ≡ length (cut (before ++ bytes)) = ap length put in
    let short = cut-short (before ++ bytes) in
    record { text = put; short = omega (arith, made, short); pending = refl }
