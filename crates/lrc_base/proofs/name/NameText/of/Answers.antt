use Rattle.std.proofs.Common.{◌≡◌, ℕ, ◌<◌, ◌≤◌, List, length, get_or, take, refl, arith}
use Rattle.std.proofs.lemmas.Grind.{common_steps}
use Rattle.std.proofs.lemmas.List.{ext_get_or, get_or-replicate}
use Rattle.std.proofs.lemmas.Bool.Decides.{nat_tests}
use Rattle.lrc_base.proofs.name.NameText.of.Invariants.{IsCopied}
use Rattle.lrc_base.proofs.name.NameText.of.Goals as goal

copied_bytes : (bytes padded : List ℕ) (i : ℕ) → i ≡ length bytes → i ≤ 64 → IsCopied bytes padded i → take (length bytes) padded ≡ bytes
copied_bytes bytes padded i e h k =
    ext_get_or 0 _ bytes (grind (arith, common_steps, k.whole)) (λ j lt. let same : j < i → get_or padded j 0 ≡ get_or bytes j 0 = k.copied j in grind (arith, common_steps, k.whole))

pub loop-i-init : goal.loop-i-init
loop-i-init c =
    record { whole = refl; copied = λ k h. absurd (omega arith); rest = λ k h l. get_or-replicate 64 k 0 0 l }

pub returns : goal.returns
returns c =
    (copied_bytes _ _ c.loop-i.i (omega arith) (omega arith) c.loop-i.invariant, record { some = grind (arith, common_steps); at_most = grind (arith, common_steps); no_zero = λ h. let f = c.if-contains.ensures.cases h.0 0 (omega arith) h.1 in let g : get_or c.args.bytes.now h.0 0 ≡ 0 = h.2 in grind (arith, nat_tests) })
