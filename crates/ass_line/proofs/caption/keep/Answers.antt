use Prim.Native.Nat.{◌^◌, ◌<◌}
use native.Mathlib.Omega.{arith}
use Rattle.spec_ass.proofs.ass_line.TellLaws.{keep_told}
use Rattle.ass_line.proofs.caption.keep.Goals as goal

pub returns : goal.returns
returns c =
    let first : c.args.r.start < 2 ^ 64 = omega arith in
    let last : c.args.r.stop < 2 ^ 64 = omega arith in
    keep_told _ _ c.args.old.start c.args.old.start_mark c.args.old.stop c.args.old.stop_mark c.args.columns _ _ _ c.args.r _ _ _ _ _ _ _ _ first last c.requires.0 c.tag_cut-tag.ensures c.counted_by-counted.ensures c.write_kept-written.ensures c.warn-warned.ensures
