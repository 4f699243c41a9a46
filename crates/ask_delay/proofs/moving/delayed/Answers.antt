use mathlib.Core.Path.{◌≡◌, sym, ap, ◌∙◌}
use native.Mathlib.Omega.{arith}
use lib.IntN.{ℤ, pos}
use lib.Signed.{lt_z}
use mir.Syntax.{w64}
use mir.Val.{to_z, of_z, SFits}
use mathlib.Core.Bool.{Bool}
use mir.ValLaws.{to_z-of_z}
use Rattle.spec_ask.proofs.ask_delay.Signed.{zero_less, neg_fits, neg_cast, pos_cast, neg_below, neg_at, pos_at, pos_small}
use Rattle.ask_delay.proofs.moving.delayed.Goals as goal

sign : {b : Bool} (d : ℤ) (f : SFits w64 d) → lt_z (to_z w64 (of_z w64 d)) (pos 0) ≡ b → lt_z d (pos 0) ≡ b
sign d f e = ap (λ (z : ℤ). lt_z z (pos 0)) (sym (to_z-of_z w64 d f)) ∙ e

pub overflow_sub-n : goal.overflow_sub-n
overflow_sub-n c = let d = c.args.d in rw (to_z-of_z w64 d c.ranges.d, zero_less d) (neg_fits d c.requires.1)

pub overflow_cast-n : goal.overflow_cast-n
overflow_cast-n c = let d = c.args.d in rw (to_z-of_z w64 d c.ranges.d, zero_less d, to_z-of_z w64 _ (neg_fits d c.requires.1)) (neg_cast d c.requires.1 (sign c.args.d c.ranges.d c.if-d-lt0.true))

pub returns-then-t-n : goal.returns-then-t-n
returns-then-t-n c = let d = c.args.d in let k = rw (to_z-of_z w64 d c.ranges.d, zero_less d, to_z-of_z w64 _ (neg_fits d c.requires.1)) at c.if-t-n.true in neg_below c.args.t d (sign c.args.d c.ranges.d c.if-d-lt0.true) k

pub returns-then-d-lt0 : goal.returns-then-d-lt0
returns-then-d-lt0 c = let d = c.args.d in let k = rw (to_z-of_z w64 d c.ranges.d, zero_less d, to_z-of_z w64 _ (neg_fits d c.requires.1)) at c.if-t-n.false in rw (to_z-of_z w64 d c.ranges.d, zero_less d, to_z-of_z w64 _ (neg_fits d c.requires.1)) (neg_at c.args.t d (sign c.args.d c.ranges.d c.if-d-lt0.true) k)

pub overflow_cast-n-2 : goal.overflow_cast-n-2
overflow_cast-n-2 c = let d = c.args.d in rw (to_z-of_z w64 d c.ranges.d) (pos_cast d c.requires.1 (sign c.args.d c.ranges.d c.if-d-lt0.false))

pub overflow_add-result : goal.overflow_add-result
overflow_add-result c = let d = c.args.d in rw (to_z-of_z w64 d c.ranges.d) (record { fits = omega (arith, pos_small d c.requires.1 (sign c.args.d c.ranges.d c.if-d-lt0.false)) })

pub returns : goal.returns
returns c = let d = c.args.d in rw (to_z-of_z w64 d c.ranges.d) (pos_at c.args.t d (sign c.args.d c.ranges.d c.if-d-lt0.false))
