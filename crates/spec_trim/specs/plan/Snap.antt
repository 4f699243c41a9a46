-- Snapping (document 01, "plan.rs"): ranges of display frames moved to sync frames, and the refusal of ranges that then overlap.
-- s is the sheet's bytes and n its frame count. A list of ranges is flat: start, end, start, end, the end excluded.
use Rattle.std.specs.Prelude.{ℕ, zero, suc, ◌+◌, ◌-◌, min, cond, List, [], ◌∷◌, leb}
use Rattle.spec_base.specs.base.Refusal.{◌or_else◌, fault_unless}
use Rattle.spec_sheet.specs.sheet_frames.Frames.{sync_of}

-- the last sync frame below k, else 0
unfoldable pub last_below : List ℕ → ℕ → ℕ
last_below s zero = 0
last_below s (suc k) = cond (sync_of s k) k (last_below s k)

-- the first sync frame of the k frames from i on, else i + k
unfoldable pub first_from : List ℕ → ℕ → ℕ → ℕ
first_from s i zero = i
first_from s i (suc k) = cond (sync_of s i) i (first_from s (suc i) k)

-- of n frames, the last sync frame at or before x, else 0
unfoldable pub floor_sync : List ℕ → ℕ → ℕ → ℕ
floor_sync s n x = last_below s (min (x + 1) n)

-- of n frames, the first sync frame at or after x, else n
unfoldable pub ceil_sync : List ℕ → ℕ → ℕ → ℕ
ceil_sync s n x = first_from s (min x n) (n - x)

-- ---- a range, by direction: 0 is outward, any other inward
unfoldable pub snap_start : List ℕ → ℕ → ℕ → ℕ → ℕ
snap_start s n zero a = floor_sync s n a
snap_start s n (suc d) a = ceil_sync s n a

unfoldable pub snap_end : List ℕ → ℕ → ℕ → ℕ → ℕ
snap_end s n zero e = ceil_sync s n e
snap_end s n (suc d) e = floor_sync s n e

-- each range of a list; a lone number at the end is no range and stays
unfoldable pub snap_all : List ℕ → ℕ → ℕ → List ℕ → List ℕ
snap_all s n d [] = []
snap_all s n d (a ∷ []) = a ∷ []
snap_all s n d (a ∷ e ∷ r) = snap_start s n d a ∷ snap_end s n d e ∷ snap_all s n d r

-- overlap (8): a start below the end p of the range before
unfoldable pub overlaps_fault : ℕ → List ℕ → ℕ
overlaps_fault p [] = 0
overlaps_fault p (a ∷ []) = 0
overlaps_fault p (a ∷ e ∷ r) = fault_unless (leb p a) 8 or_else overlaps_fault e r
