use Rattle.std.proofs.Common.{◌∙◌, sym, ap, arith}
use Rattle.spec_caption.specs.caption_fate.Hit.{hit_of}
use Rattle.spec_records.proofs.map_records.RecordLaws.{hit_here, hit_next, record_miss}
use Rattle.map_records.proofs.meeting.find_hit.Goals as goal

pub returns-then-is_met : goal.returns-then-is_met
returns-then-is_met c =
    let a = c.args in
    c.hit_at.ensures ∙ sym (ap hit_of c.loop-i.invariant.1 ∙ hit_here a.map.now c.loop-i.i a.start a.end c.loop-i-test.true (sym c.is_met.ensures ∙ c.if-is_met.true))

pub loop-i-preserved : goal.loop-i-preserved
loop-i-preserved c =
    let a = c.args in
    (omega arith, c.loop-i.invariant.1 ∙ hit_next a.map.now c.loop-i.i a.start a.end c.loop-i-test.true (sym c.is_met.ensures ∙ c.if-is_met.false))

pub returns : goal.returns
returns c = let a = c.args in sym (ap hit_of c.loop-i.invariant.1 ∙ record_miss a.map.now c.loop-i.i a.start a.end (omega arith) (omega arith))
