-- A row of blocks that holds is the one that is written with its own bytes.
use Prim.Native.Nat.{ℕ, zero, suc, ◌+◌, ◌*◌, ◌/◌, ◌%◌, ◌^◌, ◌≤◌, ◌<◌}
use mathlib.Core.Path.{◌≡◌, refl, ap, ap₂, sym, ◌∙◌}
use mathlib.Core.Bool.{true, ◌&&◌}
use mathlib.Core.List.{List, [], ◌∷◌, ◌++◌}
use lib.Dec.{eqb, leb}
use lib.ListN.{length, get_or, take, drop, replicate, length-drop, take-append-drop}
use lib.Seq.{length-take-le, take-add, take_all, take_at, drop_at, get_or-drop, drop-drop}
use native.Mathlib.Omega.{arith}
use borrow.Author.Tests.{eqb-true, leb-true}
use Rattle.spec_base.proofs.base.Laws.{and_left, and_right}
use Rattle.spec_sheet.specs.checked_blocks.Block.{word_at, sum_words, block_holds}
use Rattle.spec_parked_blocks.specs.parked_blocks.Sealed.{sealed_length, body_length, word_bytes, words_bytes, sealed, sealed_all, all_hold, bodies, room_of, all_zero, is_row}
use Rattle.spec_parked_blocks.proofs.parked_blocks.Bytes.{sum_past, sum_within}

-- ---- parts
-- two parts side by side are one
pub side_by_side : (n m k : ℕ) (l : List ℕ) → take n (drop k l) ++ take m (drop (k + n) l) ≡ take (n + m) (drop k l)
side_by_side n m k l = sym (take-add n m (drop k l) ∙ ap (λ (x : List ℕ). take n (drop k l) ++ take m x) (drop-drop n k l))

pub part_4 : (l : List ℕ) → 4 ≤ length l → take 4 l ≡ get_or l 0 0 ∷ get_or l 1 0 ∷ get_or l 2 0 ∷ get_or l 3 0 ∷ []
part_4 [] h = absurd (omega arith)
part_4 (a ∷ []) h = absurd (omega arith)
part_4 (a ∷ b ∷ []) h = absurd (omega arith)
part_4 (a ∷ b ∷ c ∷ []) h = absurd (omega arith)
part_4 (a ∷ b ∷ c ∷ d ∷ l) h = refl

-- zeros are nothing but zeros
pub zero_list : (l : List ℕ) → all_zero l ≡ true → l ≡ replicate (length l) 0
unfolding all_zero
zero_list [] h = refl
zero_list (b ∷ l) h = ap₂ (λ (x : ℕ) (y : List ℕ). x ∷ y) (eqb-true b 0 (and_left (eqb b 0) (all_zero l) h)) (zero_list l (and_right (eqb b 0) (all_zero l) h))

-- a block's words, counted in the row and in the block
pub block_sum : (s : List ℕ) (b : ℕ) → 512 * b + 512 ≤ length s → sum_words s (128 * b) 127 ≡ sum_words (take 508 (drop (512 * b) s)) 0 127
block_sum s b size =
    let D = drop (512 * b) s in
    let long : length (take 508 D) ≡ 508 = length-take-le 508 D (omega (arith, length-drop (512 * b) s, size)) in
    let begun : length (take (512 * b) s) ≡ 512 * b = length-take-le (512 * b) s (omega (arith, size)) in
    let four-times : length (take (512 * b) s) ≡ 4 * (128 * b) = omega (arith, begun) in
    let z : 128 * b + 0 ≡ 128 * b = omega arith in
    sym
    (sym (sum_within (take 508 D) (drop 508 D) 127 (omega (arith, long)))
    ∙ ap (λ (l : List ℕ). sum_words l 0 127) (take-append-drop 508 D)
    ∙ sym (sum_past (take (512 * b) s) D (128 * b) 0 127 four-times)
    ∙ ap₂ (λ (l : List ℕ) (k : ℕ). sum_words l k 127) (take-append-drop (512 * b) s) z)

-- ---- words
four : (a b c d : ℕ) → a < 256 → b < 256 → c < 256 → d < 256 → word_bytes (a + 256 * b + 65536 * c + 16777216 * d) ≡ a ∷ b ∷ c ∷ d ∷ []
unfolding word_bytes
four a b c d ha hb hc hd =
    let w = a + 256 * b + 65536 * c + 16777216 * d in
    let one : w / 256 ≡ b + 256 * c + 65536 * d = omega arith in
    let two : w / 256 / 256 ≡ c + 256 * d = ap (λ (n : ℕ). n / 256) one ∙ second in
    let three : w / 256 / 256 / 256 ≡ d = ap (λ (n : ℕ). n / 256) two ∙ third in
    let p : w % 256 ≡ a = omega arith in
    let q : w / 256 % 256 ≡ b = ap (λ (n : ℕ). n % 256) one ∙ second_low_lem in
    let r : w / 256 / 256 % 256 ≡ c = ap (λ (n : ℕ). n % 256) two ∙ third_low in
    let t : w / 256 / 256 / 256 % 256 ≡ d = ap (λ (n : ℕ). n % 256) three ∙ last_low in
    λ i. p i ∷ q i ∷ r i ∷ t i ∷ []
  where
    second : (b + 256 * c + 65536 * d) / 256 ≡ c + 256 * d
    second = omega arith

    third : (c + 256 * d) / 256 ≡ d
    third = omega arith

    second_low_lem : (b + 256 * c + 65536 * d) % 256 ≡ b
    second_low_lem = omega arith

    third_low : (c + 256 * d) % 256 ≡ c
    third_low = omega arith

    last_low : d % 256 ≡ d
    last_low = omega arith

-- n words from word i on
abbrev pub words_from : List ℕ → (i n : ℕ) → List ℕ
words_from s i zero = []
words_from s i (suc n) = word_at s i ∷ words_from s (suc i) n

module _ (s : List ℕ) (small : (j : ℕ) → get_or s j 0 < 256) where
  word_part : (i : ℕ) → 4 * i + 4 ≤ length s → word_bytes (word_at s i) ≡ take 4 (drop (4 * i) s)
  unfolding word_at
  word_part i h =
      let z : 4 * i + 0 ≡ 4 * i = omega arith in
      let first : get_or (drop (4 * i) s) 0 0 ≡ get_or s (4 * i) 0 = get_or-drop (4 * i) s 0 0 ∙ ap (λ (j : ℕ). get_or s j 0) z in
      let l = drop (4 * i) s in
      let same : get_or l 0 0 ∷ get_or l 1 0 ∷ get_or l 2 0 ∷ get_or l 3 0 ∷ [] ≡ get_or s (4 * i) 0 ∷ get_or s (4 * i + 1) 0 ∷ get_or s (4 * i + 2) 0 ∷ get_or s (4 * i + 3) 0 ∷ [] =
      λ x. first x ∷ get_or-drop (4 * i) s 1 0 x ∷ get_or-drop (4 * i) s 2 0 x ∷ get_or-drop (4 * i) s 3 0 x ∷ [] in
      four (get_or s (4 * i) 0) (get_or s (4 * i + 1) 0) (get_or s (4 * i + 2) 0) (get_or s (4 * i + 3) 0) (small (4 * i)) (small (4 * i + 1)) (small (4 * i + 2)) (small (4 * i + 3))
      ∙ sym (part_4 l (omega (arith, length-drop (4 * i) s)) ∙ same)

  -- words are written as they were read
  pub words_part : (i n : ℕ) → 4 * (i + n) ≤ length s → words_bytes (words_from s i n) ≡ take (4 * n) (drop (4 * i) s)
  unfolding words_bytes
  words_part i zero h = refl
  words_part i (suc n) h =
      let z : 4 * suc i ≡ 4 * i + 4 = omega arith in
      let y : 4 + 4 * n ≡ 4 * suc n = omega arith in
      ap₂ (λ (a b : List ℕ). a ++ b) (word_part i (omega arith)) (words_part (suc i) n (omega arith) ∙ ap (λ (k : ℕ). take (4 * n) (drop k s)) z)
      ∙ side_by_side 4 (4 * n) (4 * i) s
      ∙ ap (λ (k : ℕ). take k (drop (4 * i) s)) y

  -- ---- one block
  module _ (b : ℕ) (holds : block_holds s b ≡ true) where
    size : 512 * b + 512 ≤ length s
    unfolding block_holds
    size = leb-true (512 * b + 512) (length s) (and_left (leb (512 * b + 512) (length s)) _ holds)

    behind : (eqb (word_at s (128 * b)) b && eqb (word_at s (128 * b + 127)) (sum_words s (128 * b) 127 % 2 ^ 32)) ≡ true
    unfolding block_holds
    behind = and_right (leb (512 * b + 512) (length s)) _ holds

    number : word_at s (128 * b) ≡ b
    number = eqb-true (word_at s (128 * b)) b (and_left (eqb (word_at s (128 * b)) b) _ behind)

    check : word_at s (128 * b + 127) ≡ sum_words s (128 * b) 127 % 2 ^ 32
    check = eqb-true (word_at s (128 * b + 127)) (sum_words s (128 * b) 127 % 2 ^ 32) (and_right (eqb (word_at s (128 * b)) b) _ behind)

    D : List ℕ
    D = drop (512 * b) s

    body : List ℕ
    body = take body_length (drop (512 * b + 4) s)

    first : word_bytes b ≡ take 4 D
    unfolding D
    first =
        let z : 4 * (128 * b) ≡ 512 * b = omega arith in
        ap word_bytes (sym number) ∙ word_part (128 * b) (omega (arith, size)) ∙ ap (λ (k : ℕ). take 4 (drop k s)) z

    front : word_bytes b ++ body ≡ take 508 D
    unfolding D body
    front = ap (λ (l : List ℕ). l ++ body) first ∙ side_by_side 4 body_length (512 * b) s

    total : sum_words (take 508 D) 0 127 ≡ sum_words s (128 * b) 127
    unfolding D
    total = sym (block_sum s b size)

    last : word_bytes (sum_words (word_bytes b ++ body) 0 127 % 2 ^ 32) ≡ take 4 (drop (512 * b + 508) s)
    last =
        let z : 4 * (128 * b + 127) ≡ 512 * b + 508 = omega arith in
        ap (λ (l : List ℕ). word_bytes (sum_words l 0 127 % 2 ^ 32)) front
        ∙ ap (λ (n : ℕ). word_bytes (n % 2 ^ 32)) total
        ∙ ap word_bytes (sym check)
        ∙ word_part (128 * b + 127) (omega (arith, size))
        ∙ ap (λ (k : ℕ). take 4 (drop k s)) z

    pub block_again : sealed b (take body_length (drop (512 * b + 4) s)) ≡ take 512 (drop (512 * b) s)
    unfolding sealed body D
    block_again = ap₂ (λ (l m : List ℕ). l ++ m) front last ∙ side_by_side 508 4 (512 * b) s

  -- ---- a row of blocks
  all_again : (b n : ℕ) → all_hold s b n ≡ true → 512 * (b + n) ≤ length s → sealed_all b n (bodies s b n) ≡ take (512 * n) (drop (512 * b) s)
  unfolding all_hold sealed_all bodies
  all_again b zero h q = refl
  all_again b (suc n) h q =
      let one = take body_length (drop (512 * b + 4) s) in
      let rest = bodies s (suc b) n in
      let f : length one ≡ body_length = length-take-le body_length (drop (512 * b + 4) s) (omega (arith, length-drop (512 * b + 4) s)) in
      let z : 512 * suc b ≡ 512 * b + 512 = omega arith in
      let y : 512 + 512 * n ≡ 512 * suc n = omega arith in
      ap₂ (λ (l m : List ℕ). sealed b l ++ sealed_all (suc b) n m) (take_at one rest body_length f) (drop_at one rest body_length f)
      ∙ ap₂ (λ (l m : List ℕ). l ++ m)
      (block_again b (and_left (block_holds s b) (all_hold s (suc b) n) h))
      (all_again (suc b) n (and_right (block_holds s b) (all_hold s (suc b) n) h) (omega arith) ∙ ap (λ (k : ℕ). take (512 * n) (drop k s)) z)
      ∙ side_by_side 512 (512 * n) (512 * b) s
      ∙ ap (λ (k : ℕ). take k (drop (512 * b) s)) y

  -- the blocks with their own bytes in them, in order
  pub row_again : is_row s ≡ true → sealed 0 (take body_length (drop 4 s)) ++ sealed_all 1 17 (room_of s) ≡ s
  unfolding is_row all_hold
  row_again h =
      let n : length s ≡ sealed_length = eqb-true (length s) sealed_length (and_left (eqb (length s) sealed_length) (all_hold s 0 18) h) in
      let all : all_hold s 0 18 ≡ true = and_right (eqb (length s) sealed_length) (all_hold s 0 18) h in
      ap₂ (λ (l m : List ℕ). l ++ m)
      (block_again 0 (and_left (block_holds s 0) (all_hold s 1 17) all))
      (all_again 1 17 (and_right (block_holds s 0) (all_hold s 1 17) all) (omega arith))
      ∙ side_by_side 512 8704 0 s
      ∙ take_all 9216 s (omega arith)
