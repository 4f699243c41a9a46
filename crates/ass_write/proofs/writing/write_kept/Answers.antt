use mathlib.Core.Path.{◌∙◌}
use Prim.Native.Nat.{◌^◌, ◌<◌, ◌≤◌}
use lib.ListN.{length, replicate}
use native.Mathlib.Omega.{arith}
use Rattle.spec_time.specs.caption_stamp.Write.{time_text}
use Rattle.spec_time.proofs.caption_stamp.Written.{text_23}
use Rattle.spec_ass.proofs.ass_write.WriteLaws.{text_held_lem}
use Rattle.ass_write.proofs.writing.write_kept.Goals as goal

pub returns : goal.returns
returns c =
    let a = c.args in
    let n = c.write_time-n in
    let m = c.write_time-m in
    let start_small : a.times.start < 2 ^ 64 = omega arith in
    let stop_small : a.times.stop < 2 ^ 64 = omega arith in
    let first_fits : length (time_text a.kind a.times.start_mark a.times.start) ≤ 24 = omega (arith, text_23 a.kind a.times.start_mark a.times.start start_small) in
    let last_fits : length (time_text a.kind a.times.stop_mark a.times.stop) ≤ 24 = omega (arith, text_23 a.kind a.times.stop_mark a.times.stop stop_small) in
    let ea = text_held_lem _ (replicate 24 0) n.new.out n.result first_fits n.ensures.0 n.ensures.1 in
    let eb = text_held_lem _ (replicate 24 0) m.new.out m.result last_fits m.ensures.0 m.ensures.1 in
    let w = c.write_line.ensures in
    (rw (c.front.ensures ∙ ea, c.front-2.ensures ∙ eb) at w.0, rw (c.front.ensures ∙ ea, c.front-2.ensures ∙ eb) at w.1)
