use Rattle.std.proofs.Common.{◌≡◌, ◌∙◌, refl, ap, ℕ, min, length, arith}
use Rattle.std.specs.Slice.Iter.{chunks_rest}
use Rattle.spec_map.proofs.segment.GroupLaws.{survey_parts, survey_many, survey_short, survey_start, survey_again, survey_done}
use Rattle.segment.proofs.RowLaws.{row_front, row_rest}
use Rattle.segment.proofs.grouping.survey.Goals as goal
use Rattle.segment.proofs.grouping.survey.Goals.{then-map-ne0-via-then-map-ne0, then-map-ne0-via-else-map-ne0+then-map, then-map-ne0-via-else-map-ne0+else-map+then-groups-lt-GROUP_PLACES}

pub returns-then-map-ne0 : goal.returns-then-map-ne0
returns-then-map-ne0 c =
    elim c.then-map-ne0.branch [
      | then-map-ne0-via-then-map-ne0 w ↦ survey_parts _ _ _ refl w.if-map-ne0.true
      | then-map-ne0-via-else-map-ne0+then-map w ↦ search survey_many
      | then-map-ne0-via-else-map-ne0+else-map+then-groups-lt-GROUP_PLACES w ↦ search survey_short
    ]

pub loop-row-init : goal.loop-row-init
loop-row-init c = let e = c.into_iter-row-iterator.ensures.into_iter_gives in rw e (c.chunks-row-items.ensures.size, rw c.chunks-row-items.ensures.rest (survey_start c.args.map.now _ _ refl c.if-map-ne0.false c.if-map.false c.if-groups-lt-GROUP_PLACES.false))

pub loop-row-preserved : goal.loop-row-preserved
loop-row-preserved c =
    let s = c.in-Some.ensures.steps in
    let f : length c.in-Some.row.now ≡ min 96 (length (chunks_rest c.loop-row.row-iterator)) = s.1.1 ∙ ap (λ (n : ℕ). min n (length (chunks_rest c.loop-row.row-iterator))) c.loop-row.invariant.0 in
    let g = c.group_of-group.ensures in
    (s.0 ∙ c.loop-row.invariant.0, survey_again _ _ _ _ _ _ _ _ _ _ _ _ _ c.loop-row.invariant.1 s.1.2 (row_front _ _ _ s.1.0 f) g.low_value g.high_value g.excess_value g.excess_bound c.put_at-count.ensures.0 c.put_at-count.ensures.1 (row_rest _ _ _ s.1.0 f))

pub returns : goal.returns
returns c = survey_done _ _ _ _ _ _ _ c.loop-row.invariant.1 (omega (arith, c.in-None.ensures.steps.1.0)) refl c.if-map-ne0.false c.if-map.false
