-- What holds of 0 and of every number in a chain of refusals holds of its answer.
use Prim.Native.Nat.{ℕ, zero, suc}
use mathlib.Core.Bool.{Bool, true, false, cond}
use Rattle.spec_base.specs.base.Refusal.{◌or_else◌, fault_unless, first_of}

module _ (P : ℕ → Type 0) where
  pub else_numbers : (a b : ℕ) → P a → P b → P (a or_else b)
  unfolding ◌or_else◌
  else_numbers zero b p q = q
  else_numbers (suc a) b p q = p

  pub cond_numbers : (t : Bool) (a b : ℕ) → P a → P b → P (cond t a b)
  cond_numbers true a b p q = p
  cond_numbers false a b p q = q

  pub unless_numbers : P 0 → (t : Bool) (k : ℕ) → P k → P (fault_unless t k)
  unfolding fault_unless
  unless_numbers z true k p = z
  unless_numbers z false k p = p

  pub first_numbers : P 0 → (f : ℕ → ℕ) → ((i : ℕ) → P (f i)) → (i k : ℕ) → P (first_of f i k)
  unfolding first_of
  first_numbers z f p i zero = z
  first_numbers z f p i (suc k) = else_numbers (f i) (first_of f (suc i) k) (p i) (first_numbers z f p (suc i) k)
