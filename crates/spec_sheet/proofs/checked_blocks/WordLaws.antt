-- Laws of words and of blocks.
use Prim.Native.Nat.{ℕ, ◌+◌, ◌*◌, ◌/◌, ◌%◌, ◌^◌, ◌≤◌, ◌<◌}
use mathlib.Core.Bool.{false}
use mathlib.Core.List.{List}
use mathlib.Core.Path.{◌≡◌, sym, ap, ◌∙◌}
use native.Mathlib.Omega.{arith}
use lib.Dec.{eqb}
use lib.ListN.{length, get_or, get_or-eq_default}
use borrow.Author.Tests.{le-leb, lt-leb, eq-eqb, ne_eqb}
use Rattle.spec_sheet.specs.checked_blocks.Block.{word_at, sum_words, block_holds}

-- ---- a word past the end, and one of which some bytes are there
pub word_past : (s : List ℕ) (i : ℕ) → length s / 4 < i → 0 ≡ word_at s i
unfolding word_at
word_past s i h =
    let a : get_or s (4 * i) 0 ≡ 0 = get_or-eq_default s 0 (omega arith) in
    let b : get_or s (4 * i + 1) 0 ≡ 0 = get_or-eq_default s 0 (omega arith) in
    let c : get_or s (4 * i + 2) 0 ≡ 0 = get_or-eq_default s 0 (omega arith) in
    let d : get_or s (4 * i + 3) 0 ≡ 0 = get_or-eq_default s 0 (omega arith) in
    omega arith

pub word_cut : (s : List ℕ) (at a b c r : ℕ) → at ≡ 4 * (length s / 4) → a ≡ get_or s at 0 → b ≡ get_or s (at + 1) 0 → c ≡ get_or s (at + 2) 0
    → r ≡ a + 256 * b + 65536 * c + 16777216 * 0 → r ≡ word_at s (length s / 4)
unfolding word_at
word_cut s at a b c r p ea eb ec er =
    let d : get_or s (4 * (length s / 4) + 3) 0 ≡ 0 = get_or-eq_default s 0 (omega arith) in
    let fa : a ≡ get_or s (4 * (length s / 4)) 0 = ea ∙ ap (λ (k : ℕ). get_or s k 0) p in
    let fb : b ≡ get_or s (4 * (length s / 4) + 1) 0 = eb ∙ ap (λ (k : ℕ). get_or s (k + 1) 0) p in
    let fc : c ≡ get_or s (4 * (length s / 4) + 2) 0 = ec ∙ ap (λ (k : ℕ). get_or s (k + 2) 0) p in
    omega arith

pub word_at_lem : (s : List ℕ) (i j r : ℕ) → r ≡ word_at s j → i ≤ j → j ≤ i → r ≡ word_at s i
word_at_lem s i j r e a b =
    let q : j ≡ i = omega arith in
    e ∙ ap (word_at s) q

-- a word is below 2 ^ 32 where the bytes are bytes
pub word_below : (s : List ℕ) (i : ℕ) → ((j : ℕ) → get_or s j 0 < 256) → word_at s i < 2 ^ 32
unfolding word_at
word_below s i h = omega (arith, h (4 * i), h (4 * i + 1), h (4 * i + 2), h (4 * i + 3))

-- ---- a block that is not there, one with another number, and one with its number
pub block_missing : (s : List ℕ) (b : ℕ) → length s / 512 ≤ b → false ≡ block_holds s b
unfolding block_holds
block_missing s b h = rw (lt-leb (512 * b + 512) (length s) (omega arith))

pub block_other : (s : List ℕ) (b w : ℕ) → b < length s / 512 → w ≡ word_at s (128 * b) → (w ≡ b → ⊥) → false ≡ block_holds s b
unfolding block_holds
block_other s b w h e n =
    rw (le-leb (512 * b + 512) (length s) (omega arith), ne_eqb (word_at s (128 * b)) b (λ q. n (e ∙ q)))

pub block_checked : (s : List ℕ) (b w check total : ℕ) → b < length s / 512 → w ≡ word_at s (128 * b) → w ≡ b
    → check ≡ word_at s (128 * b + 127) → total ≡ sum_words s (128 * b) 127 % 2 ^ 32 → eqb check total ≡ block_holds s b
unfolding block_holds
block_checked s b w check total h e q ec et =
    rw (le-leb (512 * b + 512) (length s) (omega arith), eq-eqb (word_at s (128 * b)) b (sym e ∙ q), ← ec, ← et)
