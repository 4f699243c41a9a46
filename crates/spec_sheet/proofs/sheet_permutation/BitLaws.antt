-- Laws of bits: one is set by a sum, and the others stay.
use Prim.Native.Nat.{ℕ, zero, suc, ◌+◌, ◌*◌, ◌/◌, ◌%◌, ◌^◌, ◌<◌}
use mathlib.Core.Path.{◌≡◌, refl, sym, ap, subst, ◌∙◌}
use mathlib.Core.Bool.{Bool, true, false, cond, ◌&&◌, ◌||◌, not}
use mathlib.Core.List.{List}
use mathlib.Core.Logic.{⊎_elim}
use native.Mathlib.Omega.{arith}
use native.Mathlib.Nat.{eq-or-lt_of_le}
use lib.Dec.{eqb, ltb}
use lib.ListN.{length, get_or, set}
use lib.Seq.{get_or-set_same, get_or-set_other}
use borrow.Author.Tests.{eqb-true, eqb-false, eq-eqb, ne_eqb, ltb-true}
use Rattle.spec_base.proofs.base.Laws.{and_left, and_right}
use Rattle.spec_sheet.specs.sheet_permutation.Once.{bit_of, with_bit}

-- bit e of the byte b
abbrev bit : ℕ → ℕ → ℕ
bit b e = b / 2 ^ e % 2

-- setting bit k, where it is 0, gives a byte, sets the bit and leaves bit e
abbrev holds : (b k e : ℕ) → Bool
holds b k e = ltb (b + 2 ^ k) 256 && eqb (bit (b + 2 ^ k) e) (cond (eqb e k) 1 (bit b e))

abbrev sound : (b k e : ℕ) → Bool
sound b k e = not (eqb (bit b k) 0) || holds b k e

-- a test of all numbers below n
abbrev all : (ℕ → Bool) → ℕ → Bool
all f zero = true
all f (suc n) = f n && all f n

all_at : (f : ℕ → Bool) (n : ℕ) → all f n ≡ true → (i : ℕ) → i < n → f i ≡ true
all_at f zero e i h = absurd (omega arith)
all_at f (suc n) e i h =
    ⊎_elim (λ q. subst (λ (x : ℕ). f x ≡ true) (back n i q) (and_left (f n) (all f n) e)) (λ l. all_at f n (and_right (f n) (all f n) e) i (omega arith)) (eq-or-lt_of_le h)
  where
    back : (n i : ℕ) → suc i ≡ suc n → n ≡ i
    back n i q = omega arith

-- every byte, by computation
every : all (λ b. all (λ k. all (λ e. sound b k e) 8) 8) 256 ≡ true
every = refl

table : (b k e : ℕ) → b < 256 → k < 8 → e < 8 → bit b k ≡ 0 → holds b k e ≡ true
table b k e hb hk he z =
    let t : sound b k e ≡ true =
    all_at (λ e. sound b k e) 8
    (all_at (λ k. all (λ e. sound b k e) 8) 8 (all_at (λ b. all (λ k. all (λ e. sound b k e) 8) 8) 256 every b hb) k hk) e he in
    sym (ap (λ (x : Bool). not x || holds b k e) (eq-eqb (bit b k) 0 z)) ∙ t

bit_set : (b k e : ℕ) → b < 256 → k < 8 → e < 8 → bit b k ≡ 0 → bit (b + 2 ^ k) e ≡ cond (eqb e k) 1 (bit b e)
bit_set b k e hb hk he z = eqb-true _ _ (and_right (ltb (b + 2 ^ k) 256) _ (table b k e hb hk he z))

byte_sum : (b k : ℕ) → b < 256 → k < 8 → bit b k ≡ 0 → b + 2 ^ k < 256
byte_sum b k hb hk z = ltb-true _ _ (and_left (ltb (b + 2 ^ k) 256) _ (table b k 0 hb hk (omega arith) z))

-- a bit that is not 1 is 0
bit_zero : (b k : ℕ) → (bit b k ≡ 1 → ⊥) → bit b k ≡ 0
bit_zero b k n = go (bit b k) n (omega arith)
  where
    go : (x : ℕ) → (x ≡ 1 → ⊥) → x < 2 → x ≡ 0
    go zero n h = refl
    go (suc zero) n h = absurd (n refl)
    go (suc (suc x)) n h = absurd (omega arith)

-- ---- one bit of the byte that stands at d / 8, as the code has it: 1 shifted by d % 8
every_power : all (λ k. eqb (1 * 2 ^ k % 256) (2 ^ k)) 8 ≡ true
every_power = refl

shifted : (d : ℕ) → 1 * 2 ^ (d % 8) % 256 ≡ 2 ^ (d % 8)
shifted d = eqb-true _ _ (all_at (λ k. eqb (1 * 2 ^ k % 256) (2 ^ k)) 8 every_power (d % 8) (omega arith))

pub sum_fits : (d old : ℕ) → old < 256 → (old / 2 ^ (d % 8) % 2 ≡ 1 → ⊥) → old + 1 * 2 ^ (d % 8) % 256 < 256
sum_fits d old h n =
    let f : old + 2 ^ (d % 8) < 256 = byte_sum old (d % 8) h (omega arith) (bit_zero old (d % 8) n) in
    subst (λ (p : ℕ). old + p < 256) (sym (shifted d)) f

module _ (w : List ℕ) (d : ℕ) where
  pub bit_old : get_or w (d / 8) 0 / 2 ^ (d % 8) % 2 ≡ 1 → (true ≡ bit_of w d) × (w ≡ with_bit w d)
  unfolding with_bit bit_of
  bit_old h =
      let b : eqb (get_or w (d / 8) 0 / 2 ^ (d % 8) % 2) 1 ≡ true = eq-eqb _ 1 h in
      (sym b, rw b)

  pub bit_new : (get_or w (d / 8) 0 / 2 ^ (d % 8) % 2 ≡ 1 → ⊥) → (false ≡ bit_of w d) × (set w (d / 8) (get_or w (d / 8) 0 + 1 * 2 ^ (d % 8) % 256) ≡ with_bit w d)
  unfolding with_bit bit_of
  bit_new h =
      let b : eqb (get_or w (d / 8) 0 / 2 ^ (d % 8) % 2) 1 ≡ false = ne_eqb _ 1 h in
      (sym b, ap (λ (p : ℕ). set w (d / 8) (get_or w (d / 8) 0 + p)) (shifted d) ∙ sym (rw b))

-- ---- all the bits
module _ (w : List ℕ) (d e : ℕ) (bytes : (j : ℕ) → get_or w j 0 < 256) (room : d / 8 < length w) where
  clear_zero : bit_of w d ≡ false → bit (get_or w (d / 8) 0) (d % 8) ≡ 0
  unfolding bit_of
  clear_zero q = bit_zero (get_or w (d / 8) 0) (d % 8) (eqb-false (bit (get_or w (d / 8) 0) (d % 8)) 1 q)

  -- the bytes with bit d set
  abbrev after : List ℕ
  after = set w (d / 8) (get_or w (d / 8) 0 + 2 ^ (d % 8))

  set_same : bit_of w d ≡ false → e / 8 ≡ d / 8 → bit_of after e ≡ eqb (cond (eqb (e % 8) (d % 8)) 1 (bit (get_or w (d / 8) 0) (e % 8))) 1
  unfolding bit_of
  set_same q p =
      let v : ℕ = get_or w (d / 8) 0 + 2 ^ (d % 8) in
      let g : get_or (set w (d / 8) v) (e / 8) 0 ≡ v = ap (λ (j : ℕ). get_or (set w (d / 8) v) j 0) p ∙ get_or-set_same w (d / 8) v 0 room in
      ap (λ (x : ℕ). eqb (x / 2 ^ (e % 8) % 2) 1) g
      ∙ ap (λ (x : ℕ). eqb x 1) (bit_set (get_or w (d / 8) 0) (d % 8) (e % 8) (bytes (d / 8)) (omega arith) (omega arith) (clear_zero q))

  set_here : bit_of w d ≡ false → e ≡ d → bit_of after e ≡ true
  set_here q p =
      set_same q (ap (λ (x : ℕ). x / 8) p)
      ∙ ap (λ (t : Bool). eqb (cond t 1 (bit (get_or w (d / 8) 0) (e % 8))) 1) (eq-eqb (e % 8) (d % 8) (ap (λ (x : ℕ). x % 8) p))

  set_near : bit_of w d ≡ false → (e ≡ d → ⊥) → e / 8 ≡ d / 8 → bit_of after e ≡ bit_of w e
  unfolding bit_of
  set_near q n p =
      set_same q p
      ∙ ap (λ (t : Bool). eqb (cond t 1 (bit (get_or w (d / 8) 0) (e % 8))) 1) (ne_eqb (e % 8) (d % 8) (λ r. n (omega (arith, p, r))))
      ∙ ap (λ (j : ℕ). eqb (get_or w j 0 / 2 ^ (e % 8) % 2) 1) (sym p)

  set_far : (e / 8 ≡ d / 8 → ⊥) → bit_of after e ≡ bit_of w e
  unfolding bit_of
  set_far n = ap (λ (x : ℕ). eqb (x / 2 ^ (e % 8) % 2) 1) (get_or-set_other w (d / 8) (e / 8) (get_or w (d / 8) 0 + 2 ^ (d % 8)) 0 n)

  set_other : bit_of w d ≡ false → (e ≡ d → ⊥) → bit_of after e ≡ bit_of w e
  set_other q n = go (eqb (e / 8) (d / 8)) refl
    where
      go : (t : Bool) → eqb (e / 8) (d / 8) ≡ t → bit_of after e ≡ bit_of w e
      go true p = set_near q n (eqb-true (e / 8) (d / 8) p)
      go false p = set_far (eqb-false (e / 8) (d / 8) p)

  -- afterwards bit e is set where it was, and where it is d
  pub bit_after : bit_of (with_bit w d) e ≡ cond (eqb e d) true (bit_of w e)
  unfolding with_bit
  bit_after = go (bit_of w d) refl (eqb e d) refl
    where
      go : (t : Bool) → bit_of w d ≡ t → (s : Bool) → eqb e d ≡ s → bit_of (cond t w after) e ≡ cond s true (bit_of w e)
      go true q true p = ap (bit_of w) (eqb-true e d p) ∙ q
      go true q false p = refl
      go false q true p = set_here q (eqb-true e d p)
      go false q false p = set_other q (eqb-false e d p)

-- and they are still bytes
pub byte_after : (w : List ℕ) (d j : ℕ) → ((j : ℕ) → get_or w j 0 < 256) → d / 8 < length w → get_or (with_bit w d) j 0 < 256
unfolding with_bit
byte_after w d j bytes room = go (bit_of w d) refl (eqb j (d / 8)) refl
  where
    v : ℕ
    v = get_or w (d / 8) 0 + 2 ^ (d % 8)

    go : (t : Bool) → bit_of w d ≡ t → (s : Bool) → eqb j (d / 8) ≡ s → get_or (cond t w (set w (d / 8) v)) j 0 < 256
    go true q s p = bytes j
    go false q true p =
        let f : v < 256 = byte_sum (get_or w (d / 8) 0) (d % 8) (bytes (d / 8)) (omega arith) (clear_zero w d 0 bytes room q) in
        subst (λ (x : ℕ). x < 256) (sym (ap (λ (k : ℕ). get_or (set w (d / 8) v) k 0) (eqb-true j (d / 8) p) ∙ get_or-set_same w (d / 8) v 0 room)) f
    go false q false p = subst (λ (x : ℕ). x < 256) (sym (get_or-set_other w (d / 8) j v 0 (eqb-false j (d / 8) p))) (bytes j)
