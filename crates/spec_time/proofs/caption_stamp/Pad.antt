-- Laws of `pad` and `width`.
use Prim.Native.Nat.{ℕ, zero, suc, ◌+◌, ◌-◌, ◌*◌, ◌/◌, ◌%◌, ◌^◌, ◌≤◌, ◌<◌}
use mathlib.Core.Path.{◌≡◌, refl, ap, sym, ◌∙◌}
use mathlib.Core.Bool.{Bool, true, false}
use mathlib.Core.List.{List, [], ◌∷◌, ◌++◌}
use lib.Dec.{leb}
use lib.ListN.{length, drop, set, length-append, length-set}
use lib.Seq.{drop-cons, get_or-set_same, drop-set-lt, append_snoc}
use native.Mathlib.Nat.{pow-suc}
use native.Mathlib.Omega.{arith}
use borrow.Author.Tests.{le-leb, lt-leb, leb-true, leb-false}
use Rattle.spec_base.specs.base.Put.{put, placed}
use Rattle.spec_base.proofs.base.PutLaws.{placed_yes, placed_no}
use Rattle.spec_time.specs.caption_stamp.Write.{pad, width_under, width}

pub pad_length : (k n : ℕ) → length (pad k n) ≡ k
unfolding pad
pad_length zero n = refl
pad_length (suc k) n = length-append (pad k (n / 10)) ((48 + n % 10) ∷ []) ∙ omega (arith, pad_length k (n / 10))

-- one digit more, from the right
pub pad_store : (i n : ℕ) (o : List ℕ) → i < length o
    → pad i (n / 10) ++ drop i (set o i (48 + n % 10)) ≡ pad (suc i) n ++ drop (suc i) o
unfolding pad
pad_store i n o h =
    let d = 48 + n % 10 in
    let e : drop i (set o i d) ≡ d ∷ drop (suc i) o =
    drop-cons (set o i d) i 0 (rw length-set h) ∙
    ap {B = List ℕ} (λ r. r ∷ drop (suc i) (set o i d)) (get_or-set_same o i d 0 h) ∙
    ap {B = List ℕ} (λ r. d ∷ r) (drop-set-lt (suc i) o i d (omega arith)) in
    ap (λ (r : List ℕ). pad i (n / 10) ++ r) e ∙ sym (append_snoc (pad i (n / 10)) d (drop (suc i) o))

-- the same, as a loop that counts down has it
pub pad_back : (i n : ℕ) (o : List ℕ) → 0 < i → i ≤ length o
    → pad (i - 1) (n / 10) ++ drop (i - 1) (set o (i - 1) (48 + n % 10)) ≡ pad i n ++ drop i o
pad_back zero n o p h = absurd (omega arith)
pad_back (suc i) n o p h = let e : suc i - 1 ≡ i = omega arith in rw e (pad_store i n o h)

pub pad_none : (i n : ℕ) (o : List ℕ) → i ≤ 0 → pad i n ++ drop i o ≡ o
unfolding pad
pad_none zero n o h = refl
pad_none (suc i) n o h = absurd (omega arith)

width_small_under : (f n : ℕ) → n < 10 → width_under f n ≡ 1
unfolding width_under
width_small_under zero n h = refl
width_small_under (suc f) n h = rw (lt-leb 10 n h, width_under)

width_big_under : (f n : ℕ) → 10 ≤ n → width_under (suc f) n ≡ suc (width_under f (n / 10))
unfolding width_under
width_big_under f n h = rw (le-leb 10 n h, width_under)

-- by cases on an order
pub by_le : {A : Type 0} (a b : ℕ) → (b < a → A) → (a ≤ b → A) → A
by_le {A} a b more less = go (leb a b) refl
  where
    go : (t : Bool) → leb a b ≡ t → A
    go true e = less (leb-true a b e)
    go false e = more (leb-false a b e)

small_both : (f g n : ℕ) → n < 10 → width_under f n ≡ width_under g n
small_both f g n h = width_small_under f n h ∙ sym (width_small_under g n h)

enough : (f g n : ℕ) → n ≤ f → n ≤ g → width_under f n ≡ width_under g n
enough zero g n p q = small_both zero g n (omega arith)
enough (suc f) zero n p q = small_both (suc f) zero n (omega arith)
enough (suc f) (suc g) n p q =
    by_le 10 n (small_both (suc f) (suc g) n)
    (λ h. width_big_under f n h ∙ ap suc (enough f g (n / 10) (omega arith) (omega arith)) ∙ sym (width_big_under g n h))

pub width_small : {n : ℕ} → n < 10 → width n ≡ 1
unfolding width
width_small {n} h = width_small_under n n h

width_big_fuel : (f n : ℕ) → n ≤ f → 10 ≤ n → width_under f n ≡ suc (width (n / 10))
unfolding width
width_big_fuel zero n p h = absurd (omega arith)
width_big_fuel (suc f) n p h = width_big_under f n h ∙ ap suc (enough f (n / 10) (n / 10) (omega arith) (omega arith))

pub width_big : {n : ℕ} → 10 ≤ n → width n ≡ suc (width (n / 10))
unfolding width
width_big {n} h = width_big_fuel n n (omega arith) h

-- induction by tenths
module _ (P : ℕ → Type 0) (small : (n : ℕ) → n < 10 → P n) (big : (n : ℕ) → 10 ≤ n → P (n / 10) → P n) where
  tenths_under : (f n : ℕ) → n ≤ f → P n
  tenths_under zero n p = small n (omega arith)
  tenths_under (suc f) n p = by_le 10 n (small n) (λ h. big n h (tenths_under f (n / 10) (omega arith)))

  pub tenths : (n : ℕ) → P n
  tenths n = tenths_under n n (omega arith)

pub width_pos : (n : ℕ) → 1 ≤ width n
width_pos = tenths (λ n. 1 ≤ width n) (λ n h. omega (arith, width_small h)) (λ n h ih. omega (arith, width_big h))

pub width_le : (n : ℕ) → width n ≤ n + 1
width_le = tenths (λ n. width n ≤ n + 1) (λ n h. omega (arith, width_small h)) (λ n h ih. omega (arith, width_big h))

pub width_pow : (n : ℕ) → n < 10 ^ width n
width_pow =
    tenths (λ n. n < 10 ^ width n)
    (λ n h. rw (width_small h) h)
    (λ n h ih. rw (width_big h, pow-suc 10 (width (n / 10))) (omega arith))

pub width_bound : (k n : ℕ) → n < 10 ^ suc k → width n ≤ suc k
width_bound zero n h = omega (arith, width_small {n = n} h)
width_bound (suc k) n h =
    let small : n < 10 ^ suc k * 10 = rw pow-suc at h in
    by_le 10 n (λ l. omega (arith, width_small l))
    (λ l. omega (arith, width_big l, width_bound k (n / 10) (omega arith)))

-- ---- digits that fit, and digits that do not
pub pad_unfit : (k n : ℕ) (l : List ℕ) → length l < k → l ≡ placed (pad k n) l
pad_unfit k n l h = sym (placed_no (pad k n) l (omega (arith, pad_length k n)))

pub pad_fit : (k n : ℕ) (l m : List ℕ) → k ≤ length l → m ≡ put (pad k n) l → m ≡ placed (pad k n) l
pad_fit k n l m h e = e ∙ sym (placed_yes (pad k n) l (omega (arith, pad_length k n)))
