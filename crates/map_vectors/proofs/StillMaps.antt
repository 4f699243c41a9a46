-- Maps of sheets of the second layout, by computation: still pictures that last minutes, and 26.
use mathlib.Core.Path.{◌≡◌, refl}
use mathlib.Core.List.{[], ◌∷◌}
use Rattle.spec_base.specs.base.Refusal.{◌or_else◌, fault_unless}
use Rattle.spec_sheet.specs.checked_blocks.Block.{word_at}
use Rattle.spec_sheet.specs.sheet_frames.Frames.{long_of, record_word, decode_of, duration_of, ticks_from}
use Rattle.sheet_vectors.specs.Long.{slides, shared}
use Rattle.spec_trim.specs.plan.Snap.{overlaps_fault}
use Rattle.spec_map.specs.segment.Segment.{flat_of}
use Rattle.spec_map.specs.segmap.Build.{source_start, range_ticks, kept_ticks, range_fault, ranges_fault, kept_number, segment_in, segments_in}

-- `Trim(0,0) ++ Trim(1,1)` of the two slides
two_slides : flat_of (segments_in slides 0 (0 ∷ 1 ∷ 1 ∷ 2 ∷ []))
    ≡ 0 ∷ 1 ∷ 0 ∷ 1 ∷ 0 ∷ 300000000000 ∷ 1 ∷ 2 ∷ 300000000000 ∷ 1 ∷ 300000000000 ∷ 400000000000 ∷ []
unfolding flat_of segments_in segment_in source_start range_ticks ticks_from slides decode_of duration_of long_of record_word word_at
two_slides = refl

-- two ranges that share samples have more than 2^53 ticks together (26), though all samples have not; one of them alone is good
both_ranges : kept_number shared 4 (0 ∷ 2 ∷ 2 ∷ 4 ∷ []) ≡ 26
unfolding kept_number kept_ticks range_ticks ticks_from overlaps_fault ranges_fault range_fault fault_unless ◌or_else◌ shared decode_of duration_of long_of record_word word_at
both_ranges = refl

one_range : kept_number shared 4 (0 ∷ 2 ∷ []) ≡ 0
unfolding kept_number kept_ticks range_ticks ticks_from overlaps_fault ranges_fault range_fault fault_unless ◌or_else◌ shared decode_of duration_of long_of record_word word_at
one_range = refl
