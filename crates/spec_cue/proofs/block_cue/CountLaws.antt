-- The lines of a block, counted.
use mathlib.Core.Path.{◌≡◌}
use mathlib.Core.List.{List}
use Prim.Native.Nat.{ℕ, suc, ◌+◌, ◌≤◌, ◌<◌}
use native.Mathlib.Omega.{arith}
use lib.ListN.{length, drop, length-drop}
use Rattle.spec_text.specs.text.Line.{line_length, lines_of, line_count}
use Rattle.spec_text.proofs.text.LineLaws.{line_some, lines_cut, lines_end}

pub count_more : (s t u : List ℕ) (n k : ℕ) → line_count (lines_of s) ≡ n + line_count (lines_of t) → 0 < length t → k ≡ line_length t → u ≡ drop k t
    → line_count (lines_of s) ≡ n + 1 + line_count (lines_of u)
count_more s t u n k h p e f =
    let g : line_count (lines_of t) ≡ suc (line_count (lines_of u)) = rw (lines_cut t p, f, e) in
    omega arith

pub lines_room : (s t u : List ℕ) (n k : ℕ) → n + length t ≤ length s → 0 < length t → k ≡ line_length t → u ≡ drop k t → n + 1 + length u ≤ length s
lines_room s t u n k h p e f = rw (f, length-drop) (omega (arith, line_some t p))

pub lines_over : (s t : List ℕ) (n : ℕ) → line_count (lines_of s) ≡ n + line_count (lines_of t) → length t ≤ 0 → n ≡ line_count (lines_of s)
lines_over s t n h p = let g : line_count (lines_of t) ≡ 0 = rw (lines_end t p) in omega arith
