-- The work bytes by rows: how many 0, 1, 8 and 9 frames need, and two lent bytes of which 8 frames need one.
use mathlib.Core.Path.{◌≡◌, refl}
use mathlib.Core.List.{[], ◌∷◌}
use Rattle.spec_base.specs.base.Put.{put, placed}
use Rattle.spec_sheet.specs.sheet_permutation.Once.{work_bytes, work_once}

pub bytes_rows : work_bytes 0 ∷ work_bytes 1 ∷ work_bytes 8 ∷ work_bytes 9 ∷ [] ≡ 0 ∷ 1 ∷ 1 ∷ 2 ∷ []
unfolding work_bytes
bytes_rows = refl

pub once_row : work_once 8 (7 ∷ 9 ∷ []) ≡ 0 ∷ 9 ∷ []
unfolding work_once work_bytes placed put
once_row = refl
