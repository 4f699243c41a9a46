-- Facts about a delay as a signed number. Assumes nothing.
use Prim.Native.Nat.{ℕ, zero, suc, ◌+◌, ◌-◌, ◌≤◌, ◌<◌}
use mathlib.Core.Path.{◌≡◌, refl}
use mathlib.Core.Bool.{true, false, true≢false}
use native.Mathlib.Omega.{arith}
use native.Mathlib.Nat.{not-suc-le-zero}
use borrow.Author.Tests.{lt-ltb, le-ltb, ltb-true}
use borrow.Author.Rules.{sfits_of}
use lib.Dec.{T}
use lib.IntN.{ℤ, pos, negsuc, neg_ℤ, nat_abs, ◌-ℤ◌, +ℤ_idl}
use lib.Signed.{lt_z, non_neg}
use mir.Syntax.{w64}
use mir.Val.{SFits, Fits}
use Rattle.std.specs.Prelude.{Some, None}
use Rattle.spec_ask.specs.ask_delay.Delay.{delayed_of, Near}

pub zero_less : (d : ℤ) → pos 0 -ℤ d ≡ neg_ℤ d
zero_less d = +ℤ_idl (neg_ℤ d)

pub neg_fits : (d : ℤ) → Near d → SFits w64 (neg_ℤ d)
neg_fits (pos zero) h = sfits_of (omega arith)
neg_fits (pos (suc n)) h = sfits_of (omega arith)
neg_fits (negsuc n) h = sfits_of (omega arith)

pub neg_cast : (d : ℤ) → Near d → lt_z d (pos 0) ≡ true → T (non_neg (neg_ℤ d)) × Fits w64 (nat_abs (neg_ℤ d))
neg_cast (pos n) h t = absurd (not-suc-le-zero (ltb-true n 0 t))
neg_cast (negsuc n) h t = (tt, record { fits = omega arith })

pub pos_cast : (d : ℤ) → Near d → lt_z d (pos 0) ≡ false → T (non_neg d) × Fits w64 (nat_abs d)
pos_cast (pos n) h t = (tt, record { fits = omega arith })
pos_cast (negsuc n) h t = absurd (true≢false t)

pub neg_below : (t : ℕ) (d : ℤ) → lt_z d (pos 0) ≡ true → t < nat_abs (neg_ℤ d) → None ≡ delayed_of t d
unfolding delayed_of
neg_below t (pos n) h k = absurd (not-suc-le-zero (ltb-true n 0 h))
neg_below t (negsuc n) h k = rw (lt-ltb t (suc n) (omega arith))

pub neg_at : (t : ℕ) (d : ℤ) → lt_z d (pos 0) ≡ true → nat_abs (neg_ℤ d) ≤ t → Some (t - nat_abs (neg_ℤ d)) ≡ delayed_of t d
unfolding delayed_of
neg_at t (pos n) h k = absurd (not-suc-le-zero (ltb-true n 0 h))
neg_at t (negsuc n) h k = rw (le-ltb t (suc n) (omega arith))

pub pos_at : (t : ℕ) (d : ℤ) → lt_z d (pos 0) ≡ false → Some (t + nat_abs d) ≡ delayed_of t d
unfolding delayed_of
pos_at t (pos n) h = refl
pos_at t (negsuc n) h = absurd (true≢false h)

pub pos_small : (d : ℤ) → Near d → lt_z d (pos 0) ≡ false → nat_abs d ≤ 6000
pos_small (pos n) h t = h
pos_small (negsuc n) h t = absurd (true≢false t)
