use Prim.Native.Nat.{◌/◌, ◌+◌, ◌%◌}
use native.Mathlib.Omega.{arith}
use borrow.Author.Tests.{eq-eqb, ne_eqb}
use lib.IntN.{pos}
use mir.Syntax.{w64}
use mir.ValLaws.{to_z-of_z, to_z_pos}
use Rattle.spec_ask.specs.ask_delay.Delay.{delay_of}
use Rattle.spec_ask.proofs.ask_delay.Signed.{zero_less, neg_fits}
use Rattle.ask_delay.proofs.moving.delay_at.Goals as goal

pub returns-then-k-eq1 : goal.returns-then-k-eq1
unfolding delay_of
returns-then-k-eq1 c = let k = c.args.k in rw (c.from.ensures, to_z_pos w64 (k / 2 + 1) (omega arith), eq-eqb (k % 2) 1 c.if-k-eq1.true)

pub returns-else-k-eq1 : goal.returns-else-k-eq1
unfolding delay_of
returns-else-k-eq1 c = let k = c.args.k in rw (c.from-else-k-eq1.ensures, to_z_pos w64 (k / 2) (omega arith), zero_less (pos (k / 2)), to_z-of_z w64 _ (neg_fits (pos (k / 2)) (omega arith)), ne_eqb (k % 2) 1 c.if-k-eq1.false)
