use Prim.Native.Nat.{◌/◌}
use mathlib.Core.Path.{refl, sym, ◌∙◌}
use native.Mathlib.Omega.{arith}
use native.Mathlib.Nat.{div-le_self}
use Rattle.spec_time.specs.caption_stamp.Write.{text_with}
use Rattle.spec_time.proofs.caption_stamp.Pad.{width_le}
use Rattle.spec_time.proofs.caption_stamp.Written.{text_length, text_put}
use Rattle.spec_base.proofs.base.PutLaws.{placed_yes, placed_no, length_yes, length_no}
use Rattle.caption_stamp.proofs.write.write_with.Goals as goal

pub overflow_add-size : goal.overflow_add-size
overflow_add-size c = let a = c.args in omega (arith, c.digits_of-w.ensures, width_le (a.units / a.unit / 60 / 60), div-le_self a.units a.unit)

pub overflow_add-size-2 : goal.overflow_add-size-2
overflow_add-size-2 c = let a = c.args in omega (arith, c.digits_of-w.ensures, width_le (a.units / a.unit / 60 / 60), div-le_self a.units a.unit)

pub returns-then-out-size : goal.returns-then-out-size
returns-then-out-size c = let a = c.args in let t = text_with a.unit a.frac a.least a.mark a.units in let o = a.out.now in let n = text_length a.unit a.frac a.least a.mark a.units in let w = c.digits_of-w.ensures in (sym (length_no t o (omega arith)), sym (placed_no t o (omega arith)))

pub returns : goal.returns
returns c = let a = c.args in let t = text_with a.unit a.frac a.least a.mark a.units in let o = a.out.now in let n = text_length a.unit a.frac a.least a.mark a.units in let w = c.digits_of-w.ensures in let room = c.if-out-size.false in (sym (length_yes t o (omega arith) ∙ omega arith), text_put a.unit a.frac a.least a.mark a.units c.digits_of-w.result o c.put_digits.new.out c.put_part.new.out c.put_part-2.new.out c.put_part-3.new.out w _ _ c.put_digits.ensures c.put_part.ensures refl c.put_part-2.ensures refl c.put_part-3.ensures ∙ sym (placed_yes t o (omega arith)))
