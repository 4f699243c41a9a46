-- Laws of the test of ranges that are read as arrays of two numbers: m is the list, p its arrays, of which the first k are read; v is the whole answer.
use Rattle.std.proofs.Common.{◌≡◌, refl, ◌∙◌, ℕ, ◌+◌, ◌*◌, ◌/◌, ◌≤◌, ◌<◌, min, Bool, true, false, List, length, take, get_or, leb, arith}
use Rattle.std.proofs.lemmas.List.{length-take}
use borrow.Author.Tests.{leb-true, leb-false}
use Rattle.std.specs.Simd.{first_chunks}
use Rattle.plan.proofs.PairRows.{pair_at}
use Rattle.spec_trim.proofs.plan.PairLaws.{left_of}
use Rattle.spec_map.specs.segmap.Build.{range_fault, ranges_fault}
use Rattle.spec_map.proofs.segmap.BuildLaws.{testing_short, testing_done, testing_here, testing_next}

module _ (s : List ℕ) (n : ℕ) (m : List ℕ) (p : List (List ℕ)) (count k i v f : ℕ) (d : List ℕ) (inv : ranges_fault s n (left_of m count i) ≡ v) (ep : p ≡ first_chunks 2 (length m / 2) m) (lp : length p ≡ length m / 2) (ek : k ≡ min count (length p))
    (h : i < length (take k p)) (e : f ≡ range_fault s n (get_or (get_or (take k p) i d) 0 0) (get_or (get_or (take k p) i d) 1 0)) where
  told : f ≡ range_fault s n (get_or m (2 * i) 0) (get_or m (2 * i + 1) 0)
  told = let x = pair_at m p count k i d ep lp ek h in e ∙ rw (x.start, x.end) refl

  pub fault_met : (f ≡ 0 → ⊥) → f ≡ v
  fault_met z = let x = pair_at m p count k i d ep lp ek h in testing_here s n m count i v inv x.more (omega (arith, x.room)) (omega (arith, x.room)) f told z

  pub fault_passed : f ≡ 0 → ranges_fault s n (left_of m count (i + 1)) ≡ v
  fault_passed z = let x = pair_at m p count k i d ep lp ek h in testing_next s n m count i v inv x.more (omega (arith, x.room)) (omega (arith, x.room)) f told z

pub faults_over : (s : List ℕ) (n : ℕ) (m : List ℕ) (p : List (List ℕ)) (count k i v : ℕ) → ranges_fault s n (left_of m count i) ≡ v → length p ≡ length m / 2 → k ≡ min count (length p) → 2 * i ≤ length m → length (take k p) ≤ i → 0 ≡ v
faults_over s n m p count k i v inv lp ek b h = go (leb count i) refl
  where
    go : (t : Bool) → leb count i ≡ t → 0 ≡ v
    go true q = testing_done s n m count i v inv (leb-true count i q)
    go false q = testing_short s n m count i v inv b (omega (arith, leb-false count i q, length-take k p))
