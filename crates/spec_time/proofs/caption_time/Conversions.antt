-- Laws of the three conversions, for any T and U above 0: how each rounds, and that larger times give larger ones.
use Prim.Native.Nat.{ℕ, ◌+◌, ◌*◌, ◌≤◌, ◌<◌}
use Rattle.spec_time.specs.caption_time.Convert.{ticks_of, start_units, end_units}
use Rattle.spec_time.proofs.caption_time.Scale.{down_low, down_high, up_low, up_high, up_down, down_up, down_mono, up_mono, down_add}

module _ (T U : ℕ) where
  -- ticks: the largest k with k×U ≤ units×T
  pub ticks_low : (units : ℕ) → ticks_of T U units * U ≤ units * T
  unfolding ticks_of
  ticks_low units = down_low (units * T) U

  pub ticks_high : (units : ℕ) → 0 < U → units * T < ticks_of T U units * U + U
  unfolding ticks_of
  ticks_high units h = down_high (units * T) h

  pub ticks_mono : {a b : ℕ} → 0 < U → a ≤ b → ticks_of T U a ≤ ticks_of T U b
  unfolding ticks_of
  ticks_mono h l = down_mono T h l

  -- a written start: the largest n with n×T ≤ ticks×U
  pub start_low : (ticks : ℕ) → start_units T U ticks * T ≤ ticks * U
  unfolding start_units
  start_low ticks = down_low (ticks * U) T

  pub start_high : (ticks : ℕ) → 0 < T → ticks * U < start_units T U ticks * T + T
  unfolding start_units
  start_high ticks h = down_high (ticks * U) h

  pub start_mono : {a b : ℕ} → 0 < T → a ≤ b → start_units T U a ≤ start_units T U b
  unfolding start_units
  start_mono h l = down_mono U h l

  -- a written end: the least n with ticks×U ≤ n×T
  pub end_low : (ticks : ℕ) → 0 < T → ticks * U ≤ end_units T U ticks * T
  unfolding end_units
  end_low ticks h = up_low ticks U h

  pub end_high : (ticks : ℕ) → 0 < T → end_units T U ticks * T < ticks * U + T
  unfolding end_units
  end_high ticks h = up_high ticks U h

  pub end_mono : {a b : ℕ} → 0 < T → a ≤ b → end_units T U a ≤ end_units T U b
  unfolding end_units
  end_mono h l = up_mono U h l

  -- the end of a tick is its start, or one unit later
  pub start_end : (ticks : ℕ) → 0 < T → start_units T U ticks ≤ end_units T U ticks
  unfolding start_units end_units
  start_end ticks h = down_up ticks U h

  pub end_start : (ticks : ℕ) → 0 < T → end_units T U ticks ≤ start_units T U ticks + 1
  unfolding start_units end_units
  end_start ticks h = up_down ticks U h

  -- two lengths rounded one by one are at most their sum rounded once
  pub ticks_add : (a b : ℕ) → 0 < U → ticks_of T U a + ticks_of T U b ≤ ticks_of T U (a + b)
  unfolding ticks_of
  ticks_add a b h = down_add a b T h
