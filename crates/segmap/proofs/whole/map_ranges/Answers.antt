use Prim.Native.Nat.{◌≤◌}
use mathlib.Core.Path.{refl}
use Rattle.spec_base.specs.base.Limits.{most_segments}
use native.Mathlib.Omega.{arith}
use Rattle.std.proofs.lemmas.Result.{err_from_is_err_and}
use Rattle.refusals.proofs.Laws.{refused_not_0}
use Rattle.spec_map.proofs.segmap.MapLaws.{frames_few, count_few, list_made, list_map, ranges_made, ranges_map, whole_made, whole_map}
use borrow.Author.Rules.{rules}
use Rattle.segmap.proofs.whole.map_ranges.Goals as goal

pub returns-in_err-count-clause-value : goal.returns-in_err-count-clause-value
returns-in_err-count-clause-value c = let p = err_from_is_err_and c.from_residual.result c.from_residual.ensures.1 in rw (p.1, p.2) (search (list_made, refused_not_0, c.in_err-count.ensures.value))

pub returns-in_err-count-clause-map_after : goal.returns-in_err-count-clause-map_after
returns-in_err-count-clause-map_after c = search (list_map, refused_not_0, c.in_err-count.ensures.value)

pub keep-requires : goal.keep-requires
keep-requires c =
    let e = c.in_ok-count.ensures in
    let few : c.in_ok-count.count ≤ most_segments = count_few _ _ e.value refl in
    (search frames_few, search rules, few, omega arith, omega arith)

pub returns-in_err-keep-clause-value : goal.returns-in_err-keep-clause-value
returns-in_err-keep-clause-value c =
    let p = err_from_is_err_and c.from_residual-in_err-keep.result c.from_residual-in_err-keep.ensures.1 in
    rw (p.1, p.2) (search (ranges_made, refused_not_0, c.in_ok-count.ensures.value, c.in_ok-count.ensures.ranges_after, c.in_err-keep.ensures.value) fits 20000)

pub returns-in_err-keep-clause-map_after : goal.returns-in_err-keep-clause-map_after
returns-in_err-keep-clause-map_after c = search (ranges_map, refused_not_0, c.in_ok-count.ensures.value, c.in_ok-count.ensures.ranges_after, c.in_err-keep.ensures.value, c.in_err-keep.ensures.map_unchanged) fits 20000

pub returns-clause-value : goal.returns-clause-value
returns-clause-value c = let e = c.in_ok-count.ensures in whole_made _ _ _ _ _ c.requires.s_value.1 e.value _ _ e.ranges_after refl c.snap.ensures _ c.in_ok-keep.ensures.value _ _ refl refl refl

pub returns-clause-map_after : goal.returns-clause-map_after
returns-clause-map_after c = search (whole_map, c.in_ok-count.ensures.value, c.in_ok-count.ensures.ranges_after, c.in_ok-keep.ensures.value, c.in_ok-keep.ensures.map_after) fits 20000
