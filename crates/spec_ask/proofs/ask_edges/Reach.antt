-- The least time whose tick is at least k is k in units, rounded up.
use mathlib.Core.Path.{◌≡◌, refl}
use mathlib.Core.Bool.{Bool, true, false}
use Prim.Native.Nat.{ℕ, ◌+◌, ◌-◌, ◌*◌, ◌/◌, ◌≤◌, ◌<◌}
use native.Mathlib.Nat.{le-div_iff_mul-le, div-lt_iff_lt-mul, add-mul, le_trans, div-mul-le_self, mul-le-mul_right, lt-div-mul-add}
use native.Mathlib.Omega.{arith}
use borrow.Author.Tests.{ltb-true, ltb-false, leb-true, leb-false}
use lib.Dec.{ltb, leb}
use Rattle.spec_time.specs.caption_time.Convert.{scaled_up, ticks_of, end_units}

up_low : (n T : ℕ) → 0 < T → n ≤ (n + (T - 1)) / T * T
up_low n T h = let l : n + (T - 1) < (n + (T - 1)) / T * T + T = lt-div-mul-add h in omega arith

pub reach : (T U S k : ℕ) → 0 < T → 0 < U → end_units T U k ≤ S → k ≤ ticks_of T U S
unfolding ticks_of end_units scaled_up
reach T U S k hT hU h = (le-div_iff_mul-le hU).1 (le_trans (up_low (k * U) T hT) (mul-le-mul_right T h))

pub reached : (T U S k : ℕ) → 0 < T → 0 < U → k ≤ ticks_of T U S → end_units T U k ≤ S
unfolding ticks_of end_units scaled_up
reached T U S k hT hU h =
    let a : k * U ≤ S * T = le_trans (mul-le-mul_right U h) (div-mul-le_self (S * T) U) in
    let b : (k * U + (T - 1)) / T < S + 1 = (div-lt_iff_lt-mul hT).1 (rw add-mul (omega arith)) in
    omega arith

module _ (T U : ℕ) (hT : 0 < T) (hU : 0 < U) where
  -- k is at most the tick of S: S is at least k in units
  pub at_least : (S k : ℕ) → leb k (ticks_of T U S) ≡ leb (end_units T U k) S
  at_least S k = go (leb k (ticks_of T U S)) (leb (end_units T U k) S) refl refl
    where
      go : (x y : Bool) → leb k (ticks_of T U S) ≡ x → leb (end_units T U k) S ≡ y → x ≡ y
      go true true e f = refl
      go false false e f = refl
      go true false e f =
          let a : end_units T U k ≤ S = reached T U S k hT hU (leb-true k (ticks_of T U S) e) in
          absurd (omega (arith, a, leb-false (end_units T U k) S f))
      go false true e f =
          let a : k ≤ ticks_of T U S = reach T U S k hT hU (leb-true (end_units T U k) S f) in
          absurd (omega (arith, a, leb-false k (ticks_of T U S) e))

  -- the tick of S is below k: S is below k in units
  pub below : (S k : ℕ) → ltb (ticks_of T U S) k ≡ ltb S (end_units T U k)
  below S k = go (ltb (ticks_of T U S) k) (ltb S (end_units T U k)) refl refl
    where
      go : (x y : Bool) → ltb (ticks_of T U S) k ≡ x → ltb S (end_units T U k) ≡ y → x ≡ y
      go true true e f = refl
      go false false e f = refl
      go true false e f =
          let a : k ≤ ticks_of T U S = reach T U S k hT hU (ltb-false S (end_units T U k) f) in
          absurd (omega (arith, a, ltb-true (ticks_of T U S) k e))
      go false true e f =
          let a : end_units T U k ≤ S = reached T U S k hT hU (ltb-false (ticks_of T U S) k e) in
          absurd (omega (arith, a, ltb-true S (end_units T U k) f))
