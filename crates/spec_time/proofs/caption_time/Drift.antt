-- The drift bounds hold for any T and U above 0, and for any source start q and output start o: however many stretches came before.
use Prim.Native.Nat.{ℕ, ◌+◌, ◌-◌, ◌*◌, ◌≤◌, ◌<◌}
use mathlib.Core.Path.{◌≡◌, sym, ◌∙◌, ap}
use native.Mathlib.Nat.{add-mul, mul_comm}
use native.Mathlib.Omega.{arith}
use Rattle.spec_time.specs.caption_time.Convert.{ticks_of, start_units, end_units}
use Rattle.spec_time.specs.caption_time.Near.{NearStart, NearEnd}
use Rattle.spec_time.proofs.caption_time.Conversions.{ticks_low, ticks_high, start_low, start_high, end_low, end_high}

-- the move of ticks a from q to o, times U
moved_times : (U q o a : ℕ) → q ≤ a → (o + (a - q)) * U + U * q ≡ a * U + U * o
moved_times U q o a h =
    let e : o + (a - q) + q ≡ a + o = omega arith in
    ap (λ (n : ℕ). (o + (a - q)) * U + n) (mul_comm U q) ∙ sym (add-mul (o + (a - q)) q U) ∙ ap (λ (n : ℕ). n * U) e ∙ add-mul a o U ∙
    ap (λ (n : ℕ). a * U + n) (mul_comm o U)

module _ (T U q o units : ℕ) (hT : 0 < T) (hU : 0 < U) (h : q ≤ ticks_of T U units) where
  pub near_start : NearStart T U q o units (start_units T U (o + (ticks_of T U units - q)))
  near_start =
      let k = o + (ticks_of T U units - q) in
      let e = moved_times U q o (ticks_of T U units) h in
      record {
        low = omega (arith, e, ticks_high T U units hU, start_high T U k hT);
        high = omega (arith, e, ticks_low T U units, start_low T U k);
      }

  pub near_end : NearEnd T U q o units (end_units T U (o + (ticks_of T U units - q)))
  near_end =
      let k = o + (ticks_of T U units - q) in
      let e = moved_times U q o (ticks_of T U units) h in
      record {
        low = omega (arith, e, ticks_high T U units hU, end_low T U k hT);
        high = omega (arith, e, ticks_low T U units, end_high T U k hT);
      }
