use Rattle.std.proofs.Common.{◌≡◌, [], ◌∷◌, length, take, get_or, refl, sym, ap, subst, arith}
use Rattle.lrc_code.specs.Decoding.{nonzero}
use Rattle.lrc_unparse.specs.Printing.{Puts}
use Rattle.lrc_unparse.proofs.TextLemmas.{nonzero-more}
use Rattle.lrc_unparse.proofs.StepLemmas.{puts-nothing, puts-then}
use Rattle.lrc_unparse.proofs.printer.Printer.put_word.Goals as goal

pub loop-byte-init : goal.loop-byte-init
loop-byte-init c = puts-nothing c.args.self.now c.requires

pub loop-byte-preserved : goal.loop-byte-preserved
loop-byte-preserved c =
    let bytes = c.to_le_bytes-bytes.result in
    let i = c.loop-byte.byte-index in
    let byte = get_or bytes i 0 in
    let eight : length bytes ≡ 8 = ap length c.to_le_bytes-bytes.ensures in
    subst (λ put. Puts c.args.self.now put c.put_byte.new.self) (sym (nonzero-more bytes i byte (omega (arith, eight, c.loop-byte-test.true)) refl))
    (puts-then c.args.self.now c.loop-byte.self c.put_byte.new.self (nonzero (take i bytes)) (nonzero (byte ∷ [])) c.loop-byte.invariant c.in_ok-put_byte.ensures)
