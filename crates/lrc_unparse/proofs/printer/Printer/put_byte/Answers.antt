use Rattle.std.proofs.Common.{[], ◌∷◌, sym, ap, subst}
use Rattle.lrc_code.specs.Decoding.{nonzero}
use Rattle.lrc_unparse.specs.Printing.{Puts}
use Rattle.lrc_unparse.proofs.StepLemmas.{puts-nothing}
use Rattle.lrc_unparse.proofs.printer.Printer.put_byte.Goals as goal

pub returns-then-byte-eq0 : goal.returns-then-byte-eq0
returns-then-byte-eq0 c =
    subst (λ bytes. Puts c.args.self.now bytes c.args.self.now) (sym (ap (λ b. nonzero (b ∷ [])) c.if-byte-eq0.true)) (puts-nothing c.args.self.now c.requires)
