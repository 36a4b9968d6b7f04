-- Looking up by number: past the end there is the default.
use Rattle.std.proofs.Common.{◌≡◌, ℕ, List, slice_get, get_or, None, sym, ap, ◌∙◌}
use Rattle.std.specs.Prelude.{unwrap_or}
use Rattle.std.proofs.lemmas.Option.{unwrap_or-slice_get}

pub past_default : {X : Type 0} (xs : List X) (i : ℕ) (d : X) → slice_get xs i ≡ None → get_or xs i d ≡ d
past_default xs i d e = sym (unwrap_or-slice_get xs i d) ∙ ap (λ o. unwrap_or o d) e
