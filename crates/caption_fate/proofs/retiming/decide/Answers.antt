use mathlib.Core.Path.{sym, ◌∙◌}
use Rattle.spec_caption.proofs.caption_fate.DecideLaws.{decide_gone, decide_source, decide_output, hit_meets}
use Rattle.spec_caption.proofs.caption_fate.GroupedLaws.{by_room, by_kept}
use Rattle.caption_fate.proofs.retiming.decide.Goals as goal
use Rattle.caption_fate.proofs.retiming.decide.Goals.{then-end_bad-via-then-end_bad, then-end_bad-via-else-end_bad+then-end_bad-2}

pub returns-then-end_bad : goal.returns-then-end_bad
returns-then-end_bad c =
    elim c.then-end_bad.branch [ then-end_bad-via-then-end_bad w ↦ search decide_source depth 16 | then-end_bad-via-else-end_bad+then-end_bad-2 w ↦ search decide_output depth 18 ]

pub retime-requires-clause-place_in_bounds : goal.retime-requires-clause-place_in_bounds
retime-requires-clause-place_in_bounds c = search by_room

pub retime-requires-clause-b_value : goal.retime-requires-clause-b_value
retime-requires-clause-b_value c = (search hit_meets, sym c.end_bad.ensures ∙ c.if-end_bad.false, sym c.end_bad-else-end_bad.ensures ∙ c.if-end_bad-2.false)

pub returns-in-None : goal.returns-in-None
returns-in-None c = search decide_gone depth 16

pub returns-else-end_bad-2 : goal.returns-else-end_bad-2
returns-else-end_bad-2 c = search by_kept depth 22
