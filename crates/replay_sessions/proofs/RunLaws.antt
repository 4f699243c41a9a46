-- Lengths through a run.
use Rattle.std.proofs.Common.{◌≡◌, ℕ, ◌<◌, ◌≤◌, List, length, drop, ap, ◌∙◌, arith, length-drop}

pub size_is : (xs ys : List ℕ) (n : ℕ) → length xs ≡ length ys → length ys ≡ n → length xs ≡ n
size_is xs ys n p q = p ∙ q

pub still_fits : (w : ℕ) (xs ys : List ℕ) → w ≤ length ys → length xs ≡ length ys → w ≤ length xs
still_fits w xs ys h e = omega arith

pub at_most : (w a b : ℕ) → w ≤ a → a ≡ b → w ≤ b
at_most w a b h e = omega arith

pub fits_first : (w : ℕ) (ys zs : List ℕ) → w ≤ length ys → length ys ≡ length zs → w ≤ length zs
fits_first w ys zs h e = omega arith

pub piece_less : (t u : List ℕ) (k : ℕ) → u ≡ drop k t → 0 < length t → 1 ≤ k → length u < length t
piece_less t u k e h p = omega (arith, ap length e, length-drop k t)
