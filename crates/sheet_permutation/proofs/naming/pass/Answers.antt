use native.Mathlib.Omega.{arith}
use mathlib.Core.Path.{◌≡◌}
use borrow.Author.Rules.{rules}
use Rattle.spec_base.proofs.base.RefusalLaws.{left_done, left_start}
use Rattle.spec_sheet.specs.sheet_frames.Frames.{decode_of}
use Rattle.spec_sheet.proofs.sheet_frames.FrameLaws.{decode_is}
use Rattle.spec_sheet.proofs.sheet_permutation.NamingLaws.{seen_none, repeat_high, repeat_met, repeat_none, seen_more}
use Rattle.sheet_permutation.proofs.naming.pass.Goals as goal
use Rattle.sheet_permutation.proofs.naming.pass.Goals.{then-n-d-via-then-n-d, then-n-d-via-else-n-d+then-set_bit}

pub loop-i-init : goal.loop-i-init
loop-i-init g c = (search rules, search rules, search seen_none, left_start _ _ _ _ (omega arith))

pub returns-then-n-d : goal.returns-then-n-d
returns-then-n-d g c =
    elim c.then-n-d.branch [ then-n-d-via-then-n-d w ↦ search (repeat_high, decode_is) | then-n-d-via-else-n-d+then-set_bit w ↦ search (repeat_met, decode_is) ]

pub loop-i-preserved : goal.loop-i-preserved
loop-i-preserved g c =
    let e : c.decode_by-d.result.0 ≡ decode_of c.args.s.now c.loop-i.i = search decode_is in (search rules, search rules, search seen_more, search repeat_none)

pub returns : goal.returns
returns g c = search left_done
