use Prim.Native.Nat.{◌^◌}
use native.Mathlib.Omega.{arith}
use Rattle.spec_time.proofs.caption_time.Scale.{down_split, part_bound}
use Rattle.caption_time.proofs.convert.scale_down.Goals as goal

pub overflow_mul-result : goal.overflow_mul-result
overflow_mul-result c = let a = c.args in omega (arith, down_split a.x a.by c.requires.0)

pub overflow_mul-result-2 : goal.overflow_mul-result-2
overflow_mul-result-2 c = let a = c.args in omega (arith, part_bound a.x a.by (2 ^ 30) (2 ^ 30) c.requires.0 c.requires.1.1.0 c.requires.1.0)

pub overflow_add-result : goal.overflow_add-result
overflow_add-result c = let a = c.args in omega (arith, down_split a.x a.by c.requires.0)

pub returns : goal.returns
returns c = let a = c.args in down_split a.x a.by c.requires.0
