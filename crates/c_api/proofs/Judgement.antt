-- An answer's number and value, told of an equal answer.
use mathlib.Core.Path.{◌≡◌, ap, ◌∙◌}
use Prim.Native.Nat.{ℕ}
use Rattle.spec_ask.specs.declared.ask_rough.Judged.{Judged}
use Rattle.spec_ask.specs.ask_rough.Rough.{number_of, told_of}

pub number_told : (j k : Judged) (r : ℕ) → j ≡ k → r ≡ number_of j → r ≡ number_of k
number_told j k r e p = p ∙ ap number_of e

pub place_told : (j k : Judged) (r n : ℕ) → j ≡ k → r ≡ told_of j n → r ≡ told_of k n
place_told j k r n e p = p ∙ ap (λ (x : Judged). told_of x n) e
