-- Choice by whether a width is zero. (Choice by a test is the library's `cond`.)
use Rattle.std.specs.Prelude.{ℕ, zero, suc}

-- none at width 0, else what `next` makes of the width less one
abbrev pub by_width : {A : Type 0} → ℕ → A → (ℕ → A) → A
by_width zero none next = none
by_width (suc k) none next = next k
