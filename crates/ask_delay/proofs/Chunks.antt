-- A chunk taken from the front of what is left, and a chunk of six taken from its end.
use mathlib.Core.Path.{◌≡◌, sym, ap, ◌∙◌}
use mathlib.Core.List.{List, ◌++◌}
use Prim.Native.Nat.{ℕ, ◌+◌, ◌-◌, ◌*◌, ◌/◌, ◌%◌, ◌≤◌, ◌<◌}
use native.Mathlib.Omega.{arith}
use lib.ListN.{length, drop, get_or, get_or-append, length-append}
use Rattle.std.proofs.Common.{append_assoc}
use lib.Seq.{drop-append_seam}

-- x is the first k of t, and u is left
pub record Chunk (k : ℕ) (t x u : List ℕ) : Type 0 where
  pub long : k ≤ length t
  pub left : u ≡ drop k t
  pub at : (j : ℕ) → j < k → get_or x j 0 ≡ get_or t j 0

pub chunk : (k : ℕ) (t x u : List ℕ) → t ≡ x ++ u → length x ≡ k → Chunk k t x u
chunk k t x u e l =
    record {
      long = omega (arith, ap length e, length-append x u);
      left = rw (e, ← l) (sym (drop-append_seam x u));
      at = λ j h. rw e (sym (get_or-append x u 0 j (omega arith)));
    }

-- x is the last six of the whole sixes of r, the front of m, and u is left
pub record LastSix (m r x u : List ℕ) : Type 0 where
  pub some : 0 < length r / 6
  pub inside : 6 * (length r / 6) ≤ length m
  pub less : length u / 6 ≡ length r / 6 - 1
  pub at : (j : ℕ) → j < 6 → get_or x j 0 ≡ get_or (drop (6 * (length r / 6 - 1)) m) j 0
  pub tail : (s : List ℕ) × (m ≡ u ++ s)

pub last_six : (k : ℕ) (m r x u after tail : List ℕ) → k ≡ 6 → m ≡ r ++ tail → r ≡ (u ++ x) ++ after → length x ≡ k → length after ≡ length r % k → LastSix m r x u
last_six k m r x u after tail ek em er lx ly =
    let la : length after ≡ length r % 6 = rw ek at ly in
    let n : length r ≡ length u + 6 + length r % 6 = omega (arith, ap length er, length-append (u ++ x) after, length-append u x) in
    let q : length u ≡ 6 * (length r / 6 - 1) = omega arith in
    let e : m ≡ u ++ (x ++ (after ++ tail)) = em ∙ ap (λ (l : List ℕ). l ++ tail) er ∙ simp append_assoc in
    let d : drop (6 * (length r / 6 - 1)) m ≡ x ++ (after ++ tail) = rw (e, ← q) (drop-append_seam u (x ++ (after ++ tail))) in
    record {
      some = omega arith;
      inside = omega (arith, ap length em, length-append r tail);
      less = omega arith;
      at = λ j h. rw d (sym (get_or-append x (after ++ tail) 0 j (omega arith)));
      tail = (x ++ (after ++ tail), e);
    }
