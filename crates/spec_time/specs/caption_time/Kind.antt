-- The kinds of captions, 0 ASS, 1 SRT and 2 WebVTT, and what each of them fixes about times.
use Rattle.std.specs.Prelude.{ℕ, Bool, true, false, cond, eqb}

-- there is no such kind (16)
unfoldable pub kind_bad : ℕ → Bool
kind_bad kind = cond (eqb kind 0) false (cond (eqb kind 1) false (cond (eqb kind 2) false true))

-- U, the units of a second: 100 for ASS, 1000 for SRT and WebVTT
unfoldable pub units_of : ℕ → ℕ
units_of kind = cond (eqb kind 0) 100 (cond (eqb kind 1) 1000 (cond (eqb kind 2) 1000 0))

-- the mark before the fraction: `.` in ASS and WebVTT, `,` in SRT
unfoldable pub mark_of : ℕ → ℕ
mark_of kind = cond (eqb kind 0) 46 (cond (eqb kind 1) 44 (cond (eqb kind 2) 46 0))

-- the digits of a written fraction: two in ASS, three in SRT and WebVTT
unfoldable pub fraction_digits : ℕ → ℕ
fraction_digits kind = cond (eqb kind 0) 2 (cond (eqb kind 1) 3 (cond (eqb kind 2) 3 0))

-- the least digits of written hours: ASS has no padding, SRT and WebVTT at least two
unfoldable pub hour_digits : ℕ → ℕ
hour_digits kind = cond (eqb kind 0) 1 (cond (eqb kind 1) 2 (cond (eqb kind 2) 2 0))
