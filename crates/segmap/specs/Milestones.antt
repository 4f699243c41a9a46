-- Sums of durations kept at every 1,024th sample while they are added up. Only contracts of functions within this crate speak of them.
use Rattle.std.specs.Prelude.{◌≡◌, List, ℕ, ◌*◌, ◌≤◌, ◌<◌, length, get_or}
use Rattle.spec_base.specs.base.Limits.{most_frames}
use Rattle.spec_sheet.specs.sheet_frames.Frames.{ticks_from}

-- milestone j is the sum of all samples before the 1,024 * j-th
abbrev pub Milestone : (s milestones : List ℕ) → ℕ → Type 0
Milestone s milestones j = get_or milestones j 0 ≡ ticks_from s 0 (1024 * j)

-- milestones l became m: what was a milestone still is, and so are those past `from` as far as `to`
pub record Noted (s : List ℕ) (from to : ℕ) (l m : List ℕ) : Type 0 where
  pub size : length m ≡ length l
  pub still : (j : ℕ) → Milestone s l j → Milestone s m j
  pub fresh : (j : ℕ) → from < 1024 * j → 1024 * j ≤ to → Milestone s m j

-- the sum has come to `ticks`, that of all samples before `decode`, and the milestones are there as far
pub record Carried (s : List ℕ) (decode ticks : ℕ) (milestones : List ℕ) : Type 0 where
  pub size : length milestones ≡ 1025
  pub few : decode ≤ most_frames
  pub sum : ticks ≡ ticks_from s 0 decode
  pub kept : (j : ℕ) → 1024 * j ≤ decode → Milestone s milestones j
