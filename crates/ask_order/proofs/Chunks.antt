-- A chunk taken from the front of what is left.
use mathlib.Core.Path.{◌≡◌, sym, ap}
use mathlib.Core.List.{List, ◌++◌}
use Prim.Native.Nat.{ℕ, ◌≤◌, ◌<◌}
use native.Mathlib.Omega.{arith}
use lib.ListN.{length, drop, get_or, get_or-append, length-append}
use lib.Seq.{drop-append_seam}

-- x is the first k of t, and u is left
pub record Chunk (k : ℕ) (t x u : List ℕ) : Type 0 where
  pub long : k ≤ length t
  pub left : u ≡ drop k t
  pub at : (j : ℕ) → j < k → get_or x j 0 ≡ get_or t j 0

pub chunk : (k : ℕ) (t x u : List ℕ) → t ≡ x ++ u → length x ≡ k → Chunk k t x u
chunk k t x u e l = record {
  long = omega (arith, ap length e, length-append x u);
  left = rw (e, ← l) (sym (drop-append_seam x u));
  at = λ j h. rw e (sym (get_or-append x u 0 j (omega arith)));
}
