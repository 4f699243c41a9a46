use Rattle.std.proofs.Common.{◌≡◌, ◌≤◌, List, ℕ, length, replicate, arith, length-take}
use Rattle.std.proofs.Math.ListN.{length-replicate}
use Rattle.spec_map.specs.declared.segment.Segment.{Segment}
use Rattle.spec_map.specs.declared.segmap.Made.{Made}
use Rattle.spec_map.specs.segmap.Map.{made_of}
use Rattle.spec_records.specs.map_records.Records.{recorded, map_into, no_segment}
use Rattle.spec_records.proofs.map_records_own.ThroughLaws.{in_records, through_told, through_bytes, through_flat}
use Rattle.map_records_own.proofs.own.through_own.Goals as goal

-- the records before the map is built
none : List Segment
none = replicate 1024 no_segment

none_long : length none ≡ 1024
unfolding none
none_long = length-replicate 1024 no_segment

-- the built map has at most as many records as stand in the array
few : (s list : List ℕ) (d : ℕ) (wk : List ℕ) (z : List Segment) (r : Made) → r ≡ made_of (map_into s list d none (length wk)) → z ≡ recorded (map_into s list d none (length wk)).segments none
    → r.count ≤ 1024
few s list d wk z r e w = in_records s list d wk none z none_long r e w

pub slice_bounds-map-end : goal.slice_bounds-map-end
unfolding none
slice_bounds-map-end c =
    let a = c.args in
    let b = c.build-made in
    omega (arith, b.auto.map, few a.sheet.now a.list.now a.direction a.work.now b.new.map b.result b.ensures.0 b.ensures.2)

pub slice_bounds-records-end : goal.slice_bounds-records-end
unfolding none
slice_bounds-records-end c =
    let a = c.args in
    let b = c.build-made in
    omega (arith, b.auto.map, length-take b.result.count b.new.map, few a.sheet.now a.list.now a.direction a.work.now b.new.map b.result b.ensures.0 b.ensures.2)

pub returns : goal.returns
unfolding none
returns c =
    let a = c.args in
    let b = c.build-made in (
      through_told a.sheet.now a.list.now a.direction a.work.now none b.new.map none_long b.result b.ensures.0 b.ensures.2 a.start a.end c.find_hit-hit.result c.find_hit-hit.ensures,
      through_bytes a.sheet.now a.list.now a.direction a.work.now none b.new.map none_long b.result b.ensures.0 b.ensures.2 b.new.work b.ensures.1,
      through_flat a.sheet.now a.list.now a.direction a.work.now none b.new.map none_long b.result b.ensures.0 b.ensures.2 a.flat.now c.flatten.new.flat c.requires c.flatten.ensures.1,
    )
