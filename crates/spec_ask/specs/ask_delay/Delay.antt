-- A delay, and a time under it.
use Rattle.std.specs.Prelude.{ℕ, suc, ◌+◌, ◌-◌, ◌/◌, ◌%◌, ◌≤◌, cond, ltb, eqb, ℤ, pos, negsuc, neg_ℤ, Option, Some, None}

unfoldable pub delayed_of : ℕ → ℤ → Option ℕ
delayed_of t (pos n) = Some (t + n)
delayed_of t (negsuc n) = cond (ltb t (suc n)) None (Some (t - suc n))

unfoldable pub delay_of : ℕ → ℤ
delay_of k = cond (eqb (k % 2) 1) (pos (k / 2 + 1)) (neg_ℤ (pos (k / 2)))

abbrev pub near : ℤ → ℕ
near (pos n) = n
near (negsuc n) = suc n

abbrev pub Near : ℤ → Type 0
Near d = near d ≤ 6000
