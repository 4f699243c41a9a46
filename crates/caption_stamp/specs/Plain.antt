-- Times in the form that most texts have. For the private functions.
use Rattle.std.specs.Prelude.{◌≡◌, List, ℕ, ◌+◌, ◌-◌, ◌*◌, ◌≤◌, ◌<◌}
use Rattle.spec_base.specs.base.Limits.{most_minutes, most_seconds}
use Rattle.spec_time.specs.caption_time.Kind.{units_of, mark_of}
use Rattle.spec_time.specs.caption_stamp.Read.{stamp, mark_in, time_with}

-- r is the value of the digits a and b
abbrev pub Pair : (a b r : ℕ) → Type 0
Pair a b r = (48 ≤ a) × (a ≤ 57) × (48 ≤ b) × (b ≤ 57) × (r ≡ (a - 48) * 10 + (b - 48))

-- r is the units of parts within their limits
abbrev pub Parts : (h m s f U r : ℕ) → Type 0
Parts h m s f U r = (h ≤ 99) × (m ≤ most_minutes) × (s ≤ most_seconds) × (f < U) × (r ≡ ((h * 60 + m) * 60 + s) * U + f)

-- r is the units that the trimmed text t says, with the mark of its kind
abbrev pub Read : (kind : ℕ) → List ℕ → (r : ℕ) → Type 0
Read kind t r = stamp r (mark_of kind) ≡ time_with (units_of kind) (mark_in kind t) t
