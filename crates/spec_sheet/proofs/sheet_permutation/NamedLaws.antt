-- Records without a fault name each number below n exactly once; and a sum over them in display order is the sum in decode order.
use Prim.Native.Nat.{ℕ, zero, suc, ◌+◌, ◌*◌, ◌≤◌, ◌<◌}
use mathlib.Core.Path.{◌≡◌, refl, sym, ap, subst, ◌∙◌}
use mathlib.Core.Bool.{Bool, true, false, cond, ◌&&◌}
use mathlib.Core.Logic.{⊎_elim}
use mathlib.Core.List.{List}
use native.Mathlib.Omega.{arith}
use native.Mathlib.Nat.{eq-or-lt_of_le, one-mul, zero-mul, add-mul}
use borrow.Author.Tests.{eq-eqb, ne_eqb, lt-ltb, le-leb, eqb-true, eqb-false, ltb-true, leb-true}
use lib.Dec.{ltb, eqb}
use Rattle.spec_base.specs.base.Refusal.{first_of}
use Rattle.spec_base.proofs.base.RefusalLaws.{held, unless_held, else_none, else_zero, first_zero}
use Rattle.spec_base.proofs.base.Laws.{and_left, and_right}
use Rattle.spec_sheet.specs.sheet_frames.Frames.{decode_of}
use Rattle.spec_sheet.specs.sheet_permutation.Once.{times_named, repeat_fault, work_bytes, once_number, EachOnce}

abbrev one : Bool → ℕ
one t = cond t 1 0

abbrev pub sum : (ℕ → ℕ) → ℕ → ℕ
sum g zero = 0
sum g (suc n) = sum g n + g n

sum_add : (g h : ℕ → ℕ) (n : ℕ) → sum (λ d. g d + h d) n ≡ sum g n + sum h n
sum_add g h zero = refl
sum_add g h (suc n) = omega (arith, sum_add g h n)

sum_none : (v n : ℕ) → n ≤ v → sum (λ d. one (eqb v d)) n ≡ 0
sum_none v zero h = refl
sum_none v (suc n) h =
    let e : one (eqb v n) ≡ 0 = rw (ne_eqb v n (λ q. omega arith)) in
    omega (arith, e, sum_none v n (omega arith))

sum_one : (v n : ℕ) → v < n → sum (λ d. one (eqb v d)) n ≡ 1
sum_one v zero h = absurd (omega arith)
sum_one v (suc n) h = go (eqb v n) refl (λ l. sum_one v n l)
  where
    go : (t : Bool) → eqb v n ≡ t → (v < n → sum (λ d. one (eqb v d)) n ≡ 1) → sum (λ d. one (eqb v d)) n + one t ≡ 1
    go true e ih = omega (arith, sum_none v n (omega (arith, eqb-true v n e)))
    go false e ih =
        let l : v < n = ⊎_elim (λ (q : suc v ≡ suc n). absurd (eqb-false v n e (omega arith))) (λ q. omega arith) (eq-or-lt_of_le h) in
        omega (arith, ih l)

zero_sum : (n : ℕ) → sum (λ d. 0) n ≡ 0
zero_sum zero = refl
zero_sum (suc n) = omega (arith, zero_sum n)

small : (g : ℕ → ℕ) (n : ℕ) → ((d : ℕ) → d < n → g d ≤ 1) → sum g n ≤ n
small g zero h = omega arith
small g (suc n) h = omega (arith, small g n (λ d l. h d (omega arith)), h n (omega arith))

full : (g : ℕ → ℕ) (n : ℕ) → ((d : ℕ) → d < n → g d ≤ 1) → sum g n ≡ n → (d : ℕ) → d < n → g d ≡ 1
full g zero h e d l = absurd (omega arith)
full g (suc n) h e d l =
    let s = small g n (λ d l. h d (omega arith)) in
    let t = h n (omega arith) in
    ⊎_elim (λ (q : suc d ≡ suc n). subst (λ (x : ℕ). g x ≡ 1) (back d q) (omega arith)) (λ q. full g n (λ d l. h d (omega arith)) (omega arith) d (omega arith)) (eq-or-lt_of_le l)
  where
    back : (d : ℕ) → suc d ≡ suc n → n ≡ d
    back d q = omega arith

sum_same : (g h : ℕ → ℕ) (n : ℕ) → ((d : ℕ) → d < n → g d ≡ h d) → sum g n ≡ sum h n
sum_same g h zero e = refl
sum_same g h (suc n) e = omega (arith, sum_same g h n (λ d l. e d (omega arith)), e n (omega arith))

-- the one place v of the sum that counts
sum_past : (f : ℕ → ℕ) (v n : ℕ) → n ≤ v → sum (λ d. one (eqb v d) * f d) n ≡ 0
sum_past f v zero h = refl
sum_past f v (suc n) h =
    let e : one (eqb v n) * f n ≡ 0 = rw (ne_eqb v n (λ q. omega arith)) (zero-mul (f n)) in
    omega (arith, e, sum_past f v n (omega arith))

sum_at : (f : ℕ → ℕ) (v n : ℕ) → v < n → sum (λ d. one (eqb v d) * f d) n ≡ f v
sum_at f v zero h = absurd (omega arith)
sum_at f v (suc n) h = go (eqb v n) refl (λ l. sum_at f v n l)
  where
    go : (t : Bool) → eqb v n ≡ t → (v < n → sum (λ d. one (eqb v d) * f d) n ≡ f v) → sum (λ d. one (eqb v d) * f d) n + one t * f n ≡ f v
    go true e ih =
        let q : v ≡ n = eqb-true v n e in
        omega (arith, sum_past f v n (omega arith), one-mul (f n), ap f q)
    go false e ih =
        let l : v < n = ⊎_elim (λ (q : suc v ≡ suc n). absurd (eqb-false v n e (omega arith))) (λ q. omega arith) (eq-or-lt_of_le h) in
        omega (arith, ih l, zero-mul (f n))

-- no fault at each place: none at all
all_zero_lem : (f : ℕ → ℕ) (i k : ℕ) → ((j : ℕ) → i ≤ j → j < i + k → f j ≡ 0) → first_of f i k ≡ 0
unfolding first_of
all_zero_lem f i zero h = refl
all_zero_lem f i (suc k) h = else_none _ (h i (omega arith) (omega arith)) ∙ all_zero_lem f (suc i) k (λ j a b. h j (omega arith) (omega arith))

module _ (s : List ℕ) where
  -- k records below n are counted k times in all
  all_counted : (n k : ℕ) → ((i : ℕ) → i < k → decode_of s i < n) → sum (times_named s k) n ≡ k
  unfolding times_named
  all_counted n zero h = zero_sum n
  all_counted n (suc k) h =
      omega (arith, sum_add (times_named s k) (λ d. one (eqb (decode_of s k) d)) n, all_counted n k (λ i l. h i (omega arith)), sum_one (decode_of s k) n (h k (omega arith)))

  -- no repeat: none is counted twice
  seldom : (k : ℕ) → ((i : ℕ) → i < k → times_named s i (decode_of s i) ≡ 0) → (d : ℕ) → times_named s k d ≤ 1
  unfolding times_named
  seldom zero h d = omega arith
  seldom (suc k) h d = go (eqb (decode_of s k) d) refl (seldom k (λ i l. h i (omega arith)) d)
    where
      go : (t : Bool) → eqb (decode_of s k) d ≡ t → times_named s k d ≤ 1 → times_named s k d + one t ≤ 1
      go true e ih = omega (arith, h k (omega arith), ap (times_named s k) (eqb-true (decode_of s k) d e))
      go false e ih = omega (arith, ih)

  passes : (n i : ℕ) → repeat_fault s n i ≡ 0 → (ltb (decode_of s i) n && eqb (times_named s i (decode_of s i)) 0) ≡ true
  unfolding repeat_fault
  passes n i e = held _ 25 (omega arith) e

  pub first_once : (n : ℕ) → first_of (repeat_fault s n) 0 n ≡ 0 → EachOnce s n
  first_once n e =
      let p : (i : ℕ) → i < n → (ltb (decode_of s i) n && eqb (times_named s i (decode_of s i)) 0) ≡ true = λ i l. passes n i (first_zero _ _ _ e i (omega arith) (omega arith)) in
      let below : (i : ℕ) → i < n → decode_of s i < n = λ i l. ltb-true _ _ (and_left (ltb (decode_of s i) n) _ (p i l)) in
      let fresh : (i : ℕ) → i < n → times_named s i (decode_of s i) ≡ 0 = λ i l. eqb-true _ 0 (and_right (ltb (decode_of s i) n) _ (p i l)) in
      record { below = below; once = full (times_named s n) n (λ d l. seldom n fresh d) (all_counted n n below) }

  -- the number 0: enough bytes were lent, and each number below n is named exactly once
  pub number_once : (n lent : ℕ) → once_number s n lent ≡ 0 → (work_bytes n ≤ lent) × EachOnce s n
  unfolding once_number
  number_once n lent e =
      let p = else_zero _ _ e in
      (leb-true _ _ (held _ 16 (omega arith) p.0), first_once n p.1)

  -- and the way back: where each number below n is named exactly once, there is no fault
  more : (k d : ℕ) → times_named s k d ≤ times_named s (suc k) d
  unfolding times_named
  more k d = omega arith

  grows : (i n d : ℕ) → i ≤ n → times_named s i d ≤ times_named s n d
  grows i zero d h =
      let q : i ≡ 0 = omega arith in
      omega (arith, ap (λ (k : ℕ). times_named s k d) q)
  grows i (suc n) d h =
      ⊎_elim (λ (q : i ≡ suc n). omega (arith, ap (λ (k : ℕ). times_named s k d) q)) (λ (l : i < suc n). omega (arith, grows i n d (omega arith), more n d)) (eq-or-lt_of_le h)

  named_itself : (i : ℕ) → times_named s (suc i) (decode_of s i) ≡ times_named s i (decode_of s i) + 1
  unfolding times_named
  named_itself i = ap (λ (t : Bool). times_named s i (decode_of s i) + cond t 1 0) (eq-eqb (decode_of s i) (decode_of s i) refl)

  once_passes : (n i : ℕ) → EachOnce s n → i < n → repeat_fault s n i ≡ 0
  unfolding repeat_fault
  once_passes n i e l =
      let b : decode_of s i < n = e.below i l in
      let o : times_named s n (decode_of s i) ≡ 1 = e.once (decode_of s i) b in
      let g : times_named s (suc i) (decode_of s i) ≤ times_named s n (decode_of s i) = grows (suc i) n (decode_of s i) l in
      let z : times_named s i (decode_of s i) ≡ 0 = omega (arith, named_itself i) in
      unless_held 25 (ap (λ (t : Bool). t && eqb (times_named s i (decode_of s i)) 0) (lt-ltb (decode_of s i) n b) ∙ eq-eqb (times_named s i (decode_of s i)) 0 z)

  pub once_first : (n : ℕ) → EachOnce s n → first_of (repeat_fault s n) 0 n ≡ 0
  once_first n e = all_zero_lem (repeat_fault s n) 0 n (λ i a b. once_passes n i e (omega arith))

  pub once_number_lem : (n lent : ℕ) → work_bytes n ≤ lent → EachOnce s n → once_number s n lent ≡ 0
  unfolding once_number
  once_number_lem n lent h e = else_none _ (unless_held 16 (le-leb (work_bytes n) lent h)) ∙ once_first n e

  -- ---- a sum over the records, in display order, is the sum in decode order
  named_sum : (f : ℕ → ℕ) (n k : ℕ) → ((i : ℕ) → i < k → decode_of s i < n) → sum (λ i. f (decode_of s i)) k ≡ sum (λ d. times_named s k d * f d) n
  unfolding times_named
  named_sum f n zero h = sym (sum_same (λ d. 0 * f d) (λ d. 0) n (λ d l. omega arith) ∙ zero_sum n)
  named_sum f n (suc k) h =
      let x : ℕ = decode_of s k in
      let a : sum (λ d. (times_named s k d + one (eqb x d)) * f d) n ≡ sum (λ d. times_named s k d * f d + one (eqb x d) * f d) n =
      sum_same _ _ n (λ d l. add-mul (times_named s k d) (one (eqb x d)) (f d)) in
      omega (arith, a, sum_add (λ d. times_named s k d * f d) (λ d. one (eqb x d) * f d) n, named_sum f n k (λ i l. h i (omega arith)), sum_at f x n (h k (omega arith)))

  pub display_sum : (f : ℕ → ℕ) (n : ℕ) → EachOnce s n → sum (λ i. f (decode_of s i)) n ≡ sum f n
  display_sum f n e =
      named_sum f n n e.below ∙ sum_same _ _ n (λ d l. ap (λ (k : ℕ). k * f d) (e.once d l) ∙ one-mul (f d))
