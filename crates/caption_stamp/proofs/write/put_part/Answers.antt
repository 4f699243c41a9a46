use Prim.Native.Nat.{◌-◌}
use mathlib.Core.Path.{refl, ◌∙◌}
use mathlib.Core.List.{[], ◌∷◌}
use native.Mathlib.Omega.{arith}
use lib.ListN.{length, set, length-set}
use borrow.Rule.Slice.PartMut.{same_len_mid}
use Rattle.spec_time.specs.caption_stamp.Write.{pad}
use Rattle.spec_base.proofs.base.PartLaws.{rest_length}
use Rattle.spec_base.proofs.base.PutLaws.{put_back, put_one}
use Rattle.caption_stamp.proofs.write.put_part.Goals as goal

pub slice_bounds-put_digits-count : goal.slice_bounds-put_digits-count
slice_bounds-put_digits-count c = rw length-set (omega arith)

pub slice_bounds-put_digits-start : goal.slice_bounds-put_digits-start
slice_bounds-put_digits-start c = simp length-set (omega arith)

pub put_digits-requires : goal.put_digits-requires
put_digits-requires c = let a = c.args in omega (arith, rest_length 1 (set a.out.now 0 a.mark), length-set a.out.now 0 a.mark)

pub shape_of-out : goal.shape_of-out
shape_of-out c = let a = c.args in let l = set a.out.now 0 a.mark in same_len_mid 1 (length l - 1) l c.put_digits.new.out c.put_digits.auto.out ∙ length-set a.out.now 0 a.mark

pub returns : goal.returns
returns c = let a = c.args in let l = set a.out.now 0 a.mark in put_back 1 (a.mark ∷ []) (pad a.k a.n) a.out.now l c.put_digits.new.out (put_one a.out.now a.mark (omega arith)) refl c.put_digits.ensures
