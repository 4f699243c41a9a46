-- A flat list of ranges, two numbers each, read range by range: l is the list, i the ranges passed, and at most `count` are read.
use mathlib.Core.Path.{◌≡◌, refl, ap, ◌∙◌}
use mathlib.Core.List.{List, [], ◌∷◌}
use mathlib.Core.Bool.{Bool, true, false}
use Prim.Native.Nat.{ℕ, zero, suc, ◌+◌, ◌-◌, ◌*◌, ◌≤◌, ◌<◌}
use native.Mathlib.Omega.{arith}
use borrow.Author.Tests.{ltb-true, ltb-false}
use lib.Dec.{ltb}
use lib.ListN.{length, take, drop, get_or, set, length-take, length-drop, drop_of_length-le}
use lib.Seq.{sets, drop-cons, drop-set-lt, set-get_or}

-- what is left of the ranges
unfoldable pub left_of : List ℕ → (count i : ℕ) → List ℕ
left_of l count i = take (2 * (count - i)) (drop (2 * i) l)

drop_two : (l : List ℕ) (at : ℕ) → at + 2 ≤ length l → drop at l ≡ get_or l at 0 ∷ get_or l (at + 1) 0 ∷ drop (at + 2) l
drop_two l at h =
    let e : at + 1 ≡ suc at = omega arith in
    let f : at + 2 ≡ suc (suc at) = omega arith in
    rw (e, f) (drop-cons l at 0 (omega arith) ∙ ap (λ (t : List ℕ). get_or l at 0 ∷ t) (drop-cons l (suc at) 0 (omega arith)))

pub pairs_start : (l : List ℕ) (count : ℕ) → left_of l count 0 ≡ take (2 * count) l
unfolding left_of
pairs_start l count =
    let e : 2 * (count - 0) ≡ 2 * count = omega arith in
    ap (λ (m : ℕ). take m l) e

-- another range is there
pub left_cut : (l : List ℕ) (count i : ℕ) → i < count → 2 * i + 2 ≤ length l
    → left_of l count i ≡ get_or l (2 * i) 0 ∷ get_or l (2 * i + 1) 0 ∷ left_of l count (i + 1)
unfolding left_of
left_cut l count i h k =
    let e : 2 * (count - i) ≡ suc (suc (2 * (count - (i + 1)))) = omega arith in
    let f : 2 * i + 2 ≡ 2 * (i + 1) = omega arith in
    ap (λ (m : ℕ). take m (drop (2 * i) l)) e
    ∙ ap (take (suc (suc (2 * (count - (i + 1)))))) (drop_two l (2 * i) k)
    ∙ ap (λ (m : ℕ). get_or l (2 * i) 0 ∷ get_or l (2 * i + 1) 0 ∷ take (2 * (count - (i + 1))) (drop m l)) f

-- none is there
pub left_short : (l : List ℕ) (count i : ℕ) → length l < 2 * i + 2 → length (left_of l count i) < 2
unfolding left_of
left_short l count i h = simp (length-take, length-drop) (omega arith)

pub pairs_done : (l : List ℕ) (count i : ℕ) → count ≤ i → left_of l count i ≡ []
unfolding left_of
pairs_done l count i h =
    let e : 2 * (count - i) ≡ 0 = omega arith in
    ap (λ (m : ℕ). take m (drop (2 * i) l)) e

-- stores below what is left
pub left_stored : (l : List ℕ) (count i a e : ℕ) → left_of (set (set l (2 * i) a) (2 * i + 1) e) count (i + 1) ≡ left_of l count (i + 1)
unfolding left_of
left_stored l count i a e =
    ap (take (2 * (count - (i + 1))))
    (drop-set-lt (2 * (i + 1)) (set l (2 * i) a) (2 * i + 1) e (omega arith) ∙ drop-set-lt (2 * (i + 1)) l (2 * i) a (omega arith))

-- storing what is there
sets_same : (k at : ℕ) (l : List ℕ) → sets l at (take k (drop at l)) ≡ l
sets_same zero at l = refl
sets_same (suc k) at l = go (ltb at (length l)) refl (sets_same k (suc at) l)
  where
    go : (t : Bool) → ltb at (length l) ≡ t → sets l (suc at) (take k (drop (suc at) l)) ≡ l → sets l at (take (suc k) (drop at l)) ≡ l
    go true e ih =
        ap (λ (t : List ℕ). sets l at (take (suc k) t)) (drop-cons l at 0 (ltb-true at (length l) e))
        ∙ ap (λ (m : List ℕ). sets m (suc at) (take k (drop (suc at) l))) (set-get_or l at 0)
        ∙ ih
    go false e ih = ap (λ (t : List ℕ). sets l at (take (suc k) t)) (drop_of_length-le l (ltb-false at (length l) e))

pub left_same : (l : List ℕ) (count i : ℕ) → sets l (2 * i) (left_of l count i) ≡ l
unfolding left_of
left_same l count i = sets_same (2 * (count - i)) (2 * i) l
