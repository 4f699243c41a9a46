use Rattle.number_lines.proofs.LineLaws.{spaced_room, spaced_sum, spaced_after, spaced_put}
use Rattle.number_lines.proofs.writing.spaced_at.Goals as goal

pub slice_bounds-last_digits-count : goal.slice_bounds-last_digits-count
slice_bounds-last_digits-count c = search spaced_room

pub slice_bounds-last_digits-start : goal.slice_bounds-last_digits-start
slice_bounds-last_digits-start c = search spaced_room

pub overflow_add-result : goal.overflow_add-result
overflow_add-result c = record { fits = search spaced_sum }

pub returns : goal.returns
returns c = (search spaced_after, search spaced_put)
