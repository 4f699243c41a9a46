-- The frame count between two display indices (document 01, order.rs).
use Rattle.std.specs.Prelude.{ℕ, ◌-◌}
use Rattle.spec_sheet.specs.declared.order.DisplayIdx.{DisplayIdx}

-- end minus start; 0 where the end is below the start
abbrev pub frame_count : DisplayIdx → DisplayIdx → ℕ
frame_count start end = end.0 - start.0
