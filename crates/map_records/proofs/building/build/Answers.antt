use Rattle.std.proofs.Common.{◌≡◌, length, replicate, arith}
use Rattle.spec_base.specs.base.Put.{put}
use Rattle.spec_map.specs.segment.Segment.{flat_of}
use Rattle.spec_map.specs.segmap.Map.{map_of, map_work, made_of}
use Rattle.spec_records.proofs.map_records.BuildLaws.{short_number, short_bytes, short_records, count_few, built_number, built_bytes, built_records}
use Rattle.map_records.proofs.building.build.Goals as goal

pub returns-then-map-lt-MOST_SEGMENTS : goal.returns-then-map-lt-MOST_SEGMENTS
returns-then-map-lt-MOST_SEGMENTS c =
    let a = c.args in
    let h = c.if-map-lt-MOST_SEGMENTS.true in
    (short_number a.sheet.now a.list.now a.direction a.work.now a.map.now h, short_bytes a.sheet.now a.list.now a.direction a.work.now a.map.now h, short_records a.sheet.now a.list.now a.direction a.work.now a.map.now h)

pub fill-requires : goal.fill-requires
fill-requires c =
    let a = c.args in
    let told : c.make-made.result ≡ made_of (map_of a.sheet.now a.list.now a.direction 6144 (length a.work.now)) = c.make-made.ensures.value in
    let few = count_few a.sheet.now a.list.now a.direction 6144 (length a.work.now) c.make-made.result told in
    (omega (arith, few, c.make-made.auto.map), omega (arith, few, c.if-map-lt-MOST_SEGMENTS.false))

pub returns : goal.returns
returns c =
    let a = c.args in
    let r = c.make-made.result in
    let enough = c.if-map-lt-MOST_SEGMENTS.false in
    let told : r ≡ made_of (map_of a.sheet.now a.list.now a.direction 6144 (length a.work.now)) = c.make-made.ensures.value in
    let left : c.make-made.new.work ≡ map_work a.sheet.now a.direction 6144 a.work.now = c.make-made.ensures.work_after in
    let flat : c.make-made.new.map ≡ put (flat_of (map_of a.sheet.now a.list.now a.direction 6144 (length a.work.now)).segments) (replicate 6144 0) = c.make-made.ensures.map_after in (
      built_number a.sheet.now a.list.now a.direction a.work.now a.map.now enough r told,
      built_bytes a.sheet.now a.list.now a.direction a.work.now a.map.now enough r told _ left,
      built_records a.sheet.now a.list.now a.direction a.work.now a.map.now enough r told _ _ _ flat c.fill.ensures,
    )
