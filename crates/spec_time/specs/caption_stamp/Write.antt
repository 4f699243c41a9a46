-- A caption time as text, written.
use Rattle.std.specs.Prelude.{ℕ, zero, suc, ◌+◌, ◌/◌, ◌%◌, max, true, false, cond, List, [], ◌∷◌, ◌++◌, leb}
use Rattle.spec_time.specs.caption_time.Kind.{kind_bad, units_of, fraction_digits, hour_digits}

-- the last k decimal digits of n
unfoldable pub pad : ℕ → ℕ → List ℕ
pad zero n = []
pad (suc k) n = pad k (n / 10) ++ (48 + n % 10) ∷ []

-- how many decimal digits n has; `most` bounds them
unfoldable pub width_under : ℕ → ℕ → ℕ
width_under zero n = 1
width_under (suc most) n = elim (leb 10 n) [ true ↦ suc (width_under most (n / 10)) | false ↦ 1 ]

unfoldable pub width : ℕ → ℕ
width n = width_under n n

-- the same, at least `least`
abbrev pub widest : ℕ → ℕ → ℕ
widest least n = max (width n) least

-- hours, `:`, minutes, `:`, seconds, the mark and the fraction
unfoldable pub text_with : (U frac least mark units : ℕ) → List ℕ
text_with U frac least mark units =
    pad (widest least (units / U / 60 / 60)) (units / U / 60 / 60) ++
    (58 ∷ pad 2 (units / U / 60 % 60)) ++
    (58 ∷ pad 2 (units / U % 60)) ++ (mark ∷ pad frac (units % U))

-- the text of a time in a kind, with a mark; none where there is no such kind
unfoldable pub time_text : (kind mark units : ℕ) → List ℕ
time_text kind mark units = cond (kind_bad kind) [] (text_with (units_of kind) (fraction_digits kind) (hour_digits kind) mark units)
