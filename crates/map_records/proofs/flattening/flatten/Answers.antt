use Rattle.std.proofs.Common.{◌≡◌, length, refl, arith}
use Rattle.spec_records.proofs.map_records.RecordLaws.{flat_short, flat_start, flat_turn, flat_done}
use Rattle.map_records.proofs.flattening.flatten.Goals as goal

pub returns-then-flat-map : goal.returns-then-flat-map
returns-then-flat-map c = flat_short c.args.map.now c.args.flat.now c.if-flat-map.true

pub loop-i-init : goal.loop-i-init
loop-i-init c = (omega arith, refl, omega arith, flat_start c.args.map.now c.args.flat.now)

pub loop-i-preserved : goal.loop-i-preserved
loop-i-preserved c =
    let l = c.loop-i in
    let same : length c.numbers_at.new.flat ≡ length c.args.flat.now = omega arith in
    let more = flat_turn c.args.map.now c.args.flat.now l.flat c.numbers_at.new.flat l.i c.loop-i-test.true l.invariant.3 c.numbers_at.ensures in
    (omega arith, same, l.invariant.2, more)

pub returns : goal.returns
returns c = flat_done c.args.map.now c.args.flat.now _ c.loop-i.i (omega arith) c.loop-i.invariant.2 c.loop-i.invariant.3
