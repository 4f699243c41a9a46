use Rattle.map_json_segments.proofs.SegmentLaws.{other_byte, other_row, segment_some, segment_fits_1, segment_fits_2, segment_fits_3}
use Rattle.map_json_segments.proofs.number.segment_in.Goals as goal

pub returns-then-get_or-ne123 : goal.returns-then-get_or-ne123
returns-then-get_or-ne123 c = search other_byte

pub overflow_add-e : goal.overflow_add-e
overflow_add-e c = record { fits = search (segment_fits_1, c.in-Some.ensures) }

pub overflow_add-e-in-Some : goal.overflow_add-e-in-Some
overflow_add-e-in-Some c = record { fits = search (segment_fits_2, c.in-Some.ensures) }

pub overflow_add-result : goal.overflow_add-result
overflow_add-result c = record { fits = search (segment_fits_3, c.in-Some.ensures) }

pub returns-in-Some : goal.returns-in-Some
returns-in-Some c = search (segment_some, c.in-Some.ensures)

pub returns-in-None : goal.returns-in-None
returns-in-None c = search (other_row, c.in-None.ensures)
