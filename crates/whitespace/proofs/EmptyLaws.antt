-- What `is_empty` says of what is left.
use Prim.Native.Nat.{ℕ, ◌≤◌, ◌<◌}
use mathlib.Core.Path.{◌≡◌, sym, ◌∙◌}
use mathlib.Core.Bool.{Bool, true, false}
use mathlib.Core.List.{List}
use native.Mathlib.Omega.{arith}
use borrow.Author.Tests.{eqb-true}
use lib.Dec.{eqb}
use lib.ListN.{length}
use Rattle.spec_base.proofs.base.Laws.{pos_of}

pub some_left : (t : List ℕ) (e : Bool) → e ≡ eqb (length t) 0 → e ≡ false → 0 < length t
some_left t e q h = pos_of _ (sym q ∙ h)

pub none_left : (t : List ℕ) (e : Bool) → e ≡ eqb (length t) 0 → e ≡ true → length t ≤ 0
none_left t e q h = let z : length t ≡ 0 = eqb-true _ _ (sym q ∙ h) in omega arith
