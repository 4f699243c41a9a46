-- The first cause that applies, each edge from both sides, and the limits of the two times: by computation.
use mathlib.Core.Path.{◌≡◌, refl}
use mathlib.Core.List.{[], ◌∷◌}
use Rattle.spec_base.specs.base.Refusal.{◌or_else◌, fault_unless}
use Rattle.spec_time.specs.caption_time.Kind.{kind_bad}
use Rattle.spec_time.specs.caption_time.Convert.{timescale_bad}
use Rattle.spec_map.specs.segment.Segment.{segments_of, any_bad, map_bad}
use Rattle.spec_ask.specs.ask_reason.Reason.{cause_parts, why_number}

-- a segment from 10 to 20: one that ends at 10 or starts at 20 does not meet it; from 19 to 11 meets it
pub edge_rows : cause_parts 10 10 0 10 ∷ cause_parts 10 10 20 30 ∷ cause_parts 10 10 0 11 ∷ cause_parts 10 10 19 30 ∷ cause_parts 10 10 19 11 ∷ [] ≡ 3 ∷ 2 ∷ 0 ∷ 0 ∷ 0 ∷ []
unfolding cause_parts
edge_rows = refl

-- turned round, from 30 to 5: it has ended before the start, and starts behind the end: 2. Without length it is 1, wherever it lies
pub first_rows : cause_parts 10 10 30 5 ∷ cause_parts 10 0 30 5 ∷ cause_parts 10 0 0 5 ∷ cause_parts 10 0 20 30 ∷ cause_parts 10 0 0 30 ∷ [] ≡ 2 ∷ 1 ∷ 1 ∷ 1 ∷ 1 ∷ []
unfolding cause_parts
first_rows = refl

-- each time up to 2^36
pub time_rows : why_number [] 1 0 68719476736 68719476736 0 ∷ why_number [] 1 0 68719476737 0 0 ∷ why_number [] 1 0 0 68719476737 0 ∷ [] ≡ 0 ∷ 16 ∷ 16 ∷ []
unfolding why_number ◌or_else◌ fault_unless timescale_bad kind_bad map_bad any_bad segments_of
time_rows = refl
