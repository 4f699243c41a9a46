-- Snapping by rows: ten frames, of which 0, 3 and 6 are sync frames. By computation.
use mathlib.Core.Path.{◌≡◌, refl}
use mathlib.Core.List.{List, [], ◌∷◌, ◌++◌, map}
use Prim.Native.Nat.{ℕ}
use lib.ListN.{replicate}
use Rattle.spec_base.specs.base.Refusal.{◌or_else◌, fault_unless}
use Rattle.spec_sheet.specs.checked_blocks.Block.{word_at}
use Rattle.spec_sheet.specs.sheet_frames.Frames.{long_of, record_word, sync_of}
use Rattle.spec_trim.specs.plan.Snap.{last_below, first_from, floor_sync, ceil_sync, snap_start, snap_end, snap_all, overlaps_fault}

-- a record is eight bytes from byte 516 on; bit 31 is in the fourth
abbrev frames : List ℕ
frames = replicate 519 0 ++ 128 ∷ replicate 23 0 ++ 128 ∷ replicate 23 0 ++ 128 ∷ []

-- the last sync frame at or before, the first at or after, else 0 and 10
pub sync_rows : (map (floor_sync frames 10) (0 ∷ 2 ∷ 3 ∷ 5 ∷ 6 ∷ 9 ∷ 10 ∷ []) ≡ 0 ∷ 0 ∷ 3 ∷ 3 ∷ 6 ∷ 6 ∷ 6 ∷ [])
    × (map (ceil_sync frames 10) (0 ∷ 1 ∷ 3 ∷ 4 ∷ 6 ∷ 7 ∷ 10 ∷ []) ≡ 0 ∷ 3 ∷ 3 ∷ 6 ∷ 6 ∷ 10 ∷ 10 ∷ [])
unfolding floor_sync ceil_sync last_below first_from sync_of long_of record_word word_at
sync_rows = (refl, refl)

-- outward, then inward
pub snap_rows : (snap_all frames 10 0 (1 ∷ 3 ∷ 6 ∷ 9 ∷ []) ≡ 0 ∷ 3 ∷ 6 ∷ 10 ∷ []) × (snap_all frames 10 1 (1 ∷ 7 ∷ 6 ∷ 9 ∷ 7 ∷ 10 ∷ []) ≡ 3 ∷ 6 ∷ 6 ∷ 6 ∷ 10 ∷ 6 ∷ [])
unfolding snap_all snap_start snap_end floor_sync ceil_sync last_below first_from sync_of long_of record_word word_at
snap_rows = (refl, refl)

-- ranges may touch, and may not overlap
pub overlap_rows : overlaps_fault 0 (0 ∷ 3 ∷ 3 ∷ 6 ∷ []) ∷ overlaps_fault 0 (0 ∷ 3 ∷ 2 ∷ 6 ∷ []) ∷ overlaps_fault 0 (0 ∷ 3 ∷ 4 ∷ 6 ∷ 5 ∷ 9 ∷ []) ∷ [] ≡ 0 ∷ 8 ∷ 8 ∷ []
unfolding overlaps_fault fault_unless ◌or_else◌
overlap_rows = refl
