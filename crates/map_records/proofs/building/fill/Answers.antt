use Rattle.std.proofs.Common.{◌*◌, ◌∙◌, take, refl, arith}
use Rattle.std.proofs.Math.ListN.{length-set}
use Rattle.spec_map.specs.segment.Segment.{segments_of}
use Rattle.spec_records.specs.map_records.Records.{narrowed}
use Rattle.spec_records.proofs.map_records.RecordLaws.{read_length, read_at, record_turn, record_start, record_done}
use Rattle.map_records.proofs.building.fill.Goals as goal

pub loop-i-init : goal.loop-i-init
loop-i-init c = let a = c.args in (omega arith, refl, record_start (narrowed (segments_of (take (6 * a.count) a.flat.now))) a.map.now)

pub loop-i-preserved : goal.loop-i-preserved
loop-i-preserved c =
    let a = c.args in
    let l = c.loop-i in
    let v = narrowed (segments_of (take (6 * a.count) a.flat.now)) in
    let long = read_length a.count a.flat.now c.requires.0 in
    let e = read_at a.count l.i a.flat.now c.requires.0 c.loop-i-test.true in
    let t = record_turn v a.map.now l.i (omega (arith, long)) (omega (arith, long)) in
    (omega arith, length-set _ _ _ ∙ l.invariant.1, cc (l.invariant.2, e, t, c.segment_of.ensures))

pub returns : goal.returns
returns c =
    let a = c.args in
    record_done (narrowed (segments_of (take (6 * a.count) a.flat.now))) a.map.now _ c.loop-i.i (omega (arith, read_length a.count a.flat.now c.requires.0)) c.loop-i.invariant.2
