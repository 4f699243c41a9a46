use Rattle.spec_time.specs.caption_stamp.Write.{time_text}
use Prim.Native.Nat.{◌<◌, ◌^◌}
use native.Mathlib.Omega.{arith}
use Rattle.spec_time.proofs.caption_stamp.Written.{text_23}
use Rattle.spec_cue.proofs.block_cue.WriteLaws.{frame_written}
use Rattle.block_cue.proofs.srt.write_kept.Goals as goal

pub returns : goal.returns
returns c =
    let first : c.args.new.start < 2 ^ 64 = omega arith in
    let last : c.args.new.stop < 2 ^ 64 = omega arith in
    frame_written _ (time_text c.args.kind c.args.new.start_mark c.args.new.start) (time_text c.args.kind c.args.new.stop_mark c.args.new.stop) _ _ _ _ _ _ _ _ _ _ _ _ _ _ _ _ _ _ (text_23 _ _ _ first) (text_23 _ _ _ last) c.requires c.put_at-a.ensures c.write_time_at-b.ensures c.put_at-c.ensures c.write_time_at-d.ensures c.put_at-e.ensures c.put_at-f.ensures c.put_at.ensures
