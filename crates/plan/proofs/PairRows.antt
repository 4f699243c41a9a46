-- Laws of a flat list of ranges read as arrays of two numbers: m is the list, s its arrays, of which the first n are read.
use Rattle.std.proofs.Common.{◌≡◌, refl, sym, ap, ◌∙◌, ℕ, zero, suc, ◌+◌, ◌*◌, ◌/◌, ◌≤◌, ◌<◌, min, Bool, true, false, List, length, take, drop, get_or, leb, arith}
use Rattle.std.proofs.lemmas.List.{length-take, drop-drop, get_or-take, get_or-drop}
use borrow.Author.Tests.{leb-true, leb-false}
use Rattle.std.specs.Simd.{first_chunks}
use Rattle.spec_trim.specs.plan.Snap.{overlaps_fault}
use Rattle.spec_trim.proofs.plan.PairLaws.{left_of}
use Rattle.spec_trim.proofs.plan.SnapLaws.{crossing_short, crossing_done, crossing_here, crossing_next}

two_at : (k i : ℕ) (m : List ℕ) (d : List ℕ) → i < k → get_or (first_chunks 2 k m) i d ≡ take 2 (drop (2 * i) m)
two_at zero i m d h = absurd (omega arith)
two_at (suc k) zero m d h = refl
two_at (suc k) (suc i) m d h = let e : 2 * suc i ≡ 2 + 2 * i = omega arith in two_at k i (drop 2 m) d (omega arith) ∙ ap (take 2) (drop-drop (2 * i) 2 m ∙ ap (λ (n : ℕ). drop n m) (sym e))

-- the i-th range x
pub record Pair (m x : List ℕ) (count i : ℕ) : Type 0 where
  pub more : i < count
  pub room : 2 * i + 2 ≤ length m
  pub start : get_or x 0 0 ≡ get_or m (2 * i) 0
  pub end : get_or x 1 0 ≡ get_or m (2 * i + 1) 0

pub pair_at : (m : List ℕ) (s : List (List ℕ)) (count n i : ℕ) (d : List ℕ) → s ≡ first_chunks 2 (length m / 2) m → length s ≡ length m / 2 → n ≡ min count (length s) → i < length (take n s)
    → Pair m (get_or (take n s) i d) count i
pair_at m s count n i d es ls en h =
    let l : i < min n (length s) = omega (arith, length-take n s) in
    let e : get_or (take n s) i d ≡ take 2 (drop (2 * i) m) = get_or-take n s i d (omega arith) ∙ ap (λ (l : List (List ℕ)). get_or l i d) es ∙ two_at (length m / 2) i m d (omega arith) in
    let z : 2 * i + 0 ≡ 2 * i = omega arith in
    record {
      more = omega arith;
      room = omega arith;
      start = ap (λ (l : List ℕ). get_or l 0 0) e ∙ get_or-take 2 (drop (2 * i) m) 0 0 (omega arith) ∙ get_or-drop (2 * i) m 0 0 ∙ ap (λ (k : ℕ). get_or m k 0) z;
      end = ap (λ (l : List ℕ). get_or l 1 0) e ∙ get_or-take 2 (drop (2 * i) m) 1 0 (omega arith) ∙ get_or-drop (2 * i) m 1 0;
    }

-- ---- overlaps: p is the end of the range before, v the whole answer
module _ (m : List ℕ) (s : List (List ℕ)) (count n i p v : ℕ) (d : List ℕ) (inv : overlaps_fault p (left_of m count i) ≡ v) (es : s ≡ first_chunks 2 (length m / 2) m) (ls : length s ≡ length m / 2) (en : n ≡ min count (length s)) where
  pub overlap_met : i < length (take n s) → get_or (get_or (take n s) i d) 0 0 < p → 8 ≡ v
  overlap_met h b = let x = pair_at m s count n i d es ls en h in crossing_here m count i p v inv x.more (omega (arith, x.room)) (omega (arith, x.room)) (omega (arith, x.start))

  pub overlap_passed : i < length (take n s) → p ≤ get_or (get_or (take n s) i d) 0 0 → overlaps_fault (get_or (get_or (take n s) i d) 1 0) (left_of m count (i + 1)) ≡ v
  overlap_passed h b =
      let x = pair_at m s count n i d es ls en h in
      ap (λ (k : ℕ). overlaps_fault k (left_of m count (i + 1))) x.end ∙ crossing_next m count i p v inv x.more (omega (arith, x.room)) (omega (arith, x.room)) (omega (arith, x.start))

pub overlap_over : (m : List ℕ) (s : List (List ℕ)) (count n i p v : ℕ) → overlaps_fault p (left_of m count i) ≡ v → length s ≡ length m / 2 → n ≡ min count (length s) → 2 * i ≤ length m → length (take n s) ≤ i → 0 ≡ v
overlap_over m s count n i p v inv ls en k h = go (leb count i) refl
  where
    go : (t : Bool) → leb count i ≡ t → 0 ≡ v
    go true q = crossing_done m count i p v inv (leb-true count i q)
    go false q = crossing_short m count i p v inv k (omega (arith, leb-false count i q, length-take n s))
