-- The blocks that are written hold, and their bytes are those that were put into them.
use Prim.Native.Nat.{ℕ, zero, suc, ◌+◌, ◌*◌, ◌%◌, ◌^◌, ◌≤◌, ◌<◌}
use mathlib.Core.Path.{◌≡◌, refl, ap, ap₂, sym, ◌∙◌}
use mathlib.Core.Bool.{true}
use mathlib.Core.List.{List, [], ◌∷◌, ◌++◌, append_assoc}
use lib.ListN.{length, get_or, take, drop, length-append, length-drop, get_or-append}
use lib.Seq.{take-append_seam, drop-append_seam, get_or-append-add, length-take-le, take-add}
use native.Mathlib.Omega.{arith}
use borrow.Author.Tests.{eq-eqb, le-leb}
use Rattle.spec_sheet.specs.checked_blocks.Block.{word_at, sum_words, block_holds}
use Rattle.spec_parked_blocks.specs.parked_blocks.Sealed.{body_length, word_bytes, words_bytes, sealed, sealed_all, all_hold, bodies}

-- ---- words
-- behind whole words
pub word_past : (p t : List ℕ) (k i : ℕ) → length p ≡ 4 * k → word_at (p ++ t) (k + i) ≡ word_at t i
unfolding word_at
word_past p t k i e =
    let at : (j : ℕ) → get_or (p ++ t) (4 * (k + i) + j) 0 ≡ get_or t (4 * i + j) 0 =
    λ j. let n : 4 * (k + i) + j ≡ length p + (4 * i + j) = omega arith in ap (λ (x : ℕ). get_or (p ++ t) x 0) n ∙ get_or-append-add p t (4 * i + j) 0 in
    let zero_at : get_or (p ++ t) (4 * (k + i)) 0 ≡ get_or t (4 * i) 0 =
    let n : 4 * (k + i) ≡ length p + 4 * i = omega arith in ap (λ (x : ℕ). get_or (p ++ t) x 0) n ∙ get_or-append-add p t (4 * i) 0 in
    omega (arith, zero_at, at 1, at 2, at 3)

-- within what stands first
pub word_within : (p t : List ℕ) (i : ℕ) → 4 * i + 4 ≤ length p → word_at (p ++ t) i ≡ word_at p i
unfolding word_at
word_within p t i h =
    omega (arith, get_or-append p t 0 (4 * i) (omega arith), get_or-append p t 0 (4 * i + 1) (omega arith), get_or-append p t 0 (4 * i + 2) (omega arith), get_or-append p t 0 (4 * i + 3) (omega arith))

pub word_is : (w : ℕ) (t : List ℕ) → w < 2 ^ 32 → word_at (word_bytes w ++ t) 0 ≡ w
unfolding word_at word_bytes
word_is w t h = omega arith

pub bytes_length : (w : ℕ) → length (word_bytes w) ≡ 4
unfolding word_bytes
bytes_length w = refl

pub sum_past : (p t : List ℕ) (k i n : ℕ) → length p ≡ 4 * k → sum_words (p ++ t) (k + i) n ≡ sum_words t i n
unfolding sum_words
sum_past p t k i zero e = refl
sum_past p t k i (suc n) e =
    let m : k + i + n ≡ k + (i + n) = omega arith in
    ap₂ (λ (a b : ℕ). a + b) (sum_past p t k i n e) (ap (word_at (p ++ t)) m ∙ word_past p t k (i + n) e)

pub sum_within : (p t : List ℕ) (n : ℕ) → 4 * n ≤ length p → sum_words (p ++ t) 0 n ≡ sum_words p 0 n
unfolding sum_words
sum_within p t zero h = refl
sum_within p t (suc n) h = ap₂ (λ (a b : ℕ). a + b) (sum_within p t n (omega arith)) (word_within p t (0 + n) (omega arith))

-- ---- one block
pub sealed_length_lem : (b : ℕ) (body : List ℕ) → length body ≡ body_length → length (sealed b body) ≡ 512
unfolding sealed
sealed_length_lem b body e = simp length-append (omega (arith, bytes_length b, bytes_length (sum_words (word_bytes b ++ body) 0 127 % 2 ^ 32)))

head_length : (b : ℕ) (body : List ℕ) → length body ≡ body_length → length (word_bytes b ++ body) ≡ 508
head_length b body e = omega (arith, length-append (word_bytes b) body, bytes_length b)

pub block_parts : (b : ℕ) (body r : List ℕ) → sealed b body ++ r ≡ (word_bytes b ++ body) ++ (word_bytes (sum_words (word_bytes b ++ body) 0 127 % 2 ^ 32) ++ r)
unfolding sealed
block_parts b body r = simp append_assoc

-- at the head of a text
sealed_number : (b : ℕ) (body r : List ℕ) → b < 2 ^ 32 → word_at (sealed b body ++ r) 0 ≡ b
sealed_number b body r h =
    let x = word_bytes (sum_words (word_bytes b ++ body) 0 127 % 2 ^ 32) ++ r in
    ap (λ (l : List ℕ). word_at l 0) (block_parts b body r ∙ append_assoc (word_bytes b) body x) ∙ word_is b (body ++ x) h

sealed_check : (b : ℕ) (body r : List ℕ) → length body ≡ body_length → word_at (sealed b body ++ r) 127 ≡ sum_words (sealed b body ++ r) 0 127 % 2 ^ 32
sealed_check b body r e =
    let p = word_bytes b ++ body in
    let x = sum_words p 0 127 % 2 ^ 32 in
    let size : length p ≡ 508 = head_length b body e in
    let four : length p ≡ 4 * 127 = size ∙ refl in
    let at : word_at (p ++ (word_bytes x ++ r)) (127 + 0) ≡ x = word_past p (word_bytes x ++ r) 127 0 four ∙ word_is x r (omega arith) in
    let sum : sum_words (p ++ (word_bytes x ++ r)) 0 127 ≡ sum_words p 0 127 = sum_within p (word_bytes x ++ r) 127 (omega arith) in
    ap (λ (l : List ℕ). word_at l 127) (block_parts b body r) ∙ at ∙ ap (λ (n : ℕ). n % 2 ^ 32) (sym sum) ∙ ap (λ (l : List ℕ). sum_words l 0 127 % 2 ^ 32) (sym (block_parts b body r))

-- block b behind b blocks
pub block_holds_lem : (p : List ℕ) (b : ℕ) (body r : List ℕ) → length p ≡ 512 * b → b < 2 ^ 32 → length body ≡ body_length → block_holds (p ++ (sealed b body ++ r)) b ≡ true
unfolding block_holds
block_holds_lem p b body r e h f =
    let t = sealed b body ++ r in
    let four : length p ≡ 4 * (128 * b) = omega arith in
    let size : 512 * b + 512 ≤ length (p ++ t) = omega (arith, length-append p t, length-append (sealed b body) r, sealed_length_lem b body f) in
    let z : 128 * b ≡ 128 * b + 0 = omega arith in
    let number : word_at (p ++ t) (128 * b) ≡ b = ap (word_at (p ++ t)) z ∙ word_past p t (128 * b) 0 four ∙ sealed_number b body r h in
    let check : word_at (p ++ t) (128 * b + 127) ≡ sum_words (p ++ t) (128 * b) 127 % 2 ^ 32 =
    word_past p t (128 * b) 127 four ∙ sealed_check b body r f ∙ ap (λ (n : ℕ). n % 2 ^ 32) (sym (sum_past p t (128 * b) 0 127 four) ∙ ap (λ (i : ℕ). sum_words (p ++ t) i 127) (sym z)) in
    rw (le-leb _ _ size, eq-eqb _ _ number, eq-eqb _ _ check)

pub block_body : (p : List ℕ) (b : ℕ) (body r : List ℕ) → length p ≡ 512 * b → length body ≡ body_length → take body_length (drop (512 * b + 4) (p ++ (sealed b body ++ r))) ≡ body
unfolding sealed word_bytes
block_body p b body r e f =
    let x = word_bytes (sum_words (word_bytes b ++ body) 0 127 % 2 ^ 32) in
    let n : 512 * b + 4 ≡ length (p ++ word_bytes b) = omega (arith, length-append p (word_bytes b), bytes_length b) in
    let g : p ++ ((word_bytes b ++ (body ++ x)) ++ r) ≡ (p ++ word_bytes b) ++ (body ++ (x ++ r)) = simp append_assoc in
    ap₂ (λ (k : ℕ) (l : List ℕ). take body_length (drop k l)) n g
    ∙ ap (take body_length) (drop-append_seam (p ++ word_bytes b) (body ++ (x ++ r)))
    ∙ ap (λ (k : ℕ). take k (body ++ (x ++ r))) (sym f) ∙ take-append_seam body (x ++ r)

-- ---- a row of blocks
next_length : (p : List ℕ) (b : ℕ) (body : List ℕ) → length p ≡ 512 * b → length body ≡ body_length → length (p ++ sealed b body) ≡ 512 * suc b
next_length p b body e f = omega (arith, length-append p (sealed b body), sealed_length_lem b body f)

pub all_hold_lem : (p : List ℕ) (b n : ℕ) (l r : List ℕ) → length p ≡ 512 * b → b + n < 2 ^ 32 → body_length * n ≤ length l → all_hold (p ++ (sealed_all b n l ++ r)) b n ≡ true
unfolding all_hold sealed_all
all_hold_lem p b zero l r e h q = refl
all_hold_lem p b (suc n) l r e h q =
    let body = take body_length l in
    let f : length body ≡ body_length = length-take-le body_length l (omega arith) in
    let rest = sealed_all (suc b) n (drop body_length l) in
    let g : p ++ ((sealed b body ++ rest) ++ r) ≡ p ++ (sealed b body ++ (rest ++ r)) = simp append_assoc in
    let k : p ++ ((sealed b body ++ rest) ++ r) ≡ (p ++ sealed b body) ++ (rest ++ r) = simp append_assoc in
    let one : block_holds (p ++ ((sealed b body ++ rest) ++ r)) b ≡ true = ap (λ (s : List ℕ). block_holds s b) g ∙ block_holds_lem p b body (rest ++ r) e (omega arith) f in
    let two : all_hold (p ++ ((sealed b body ++ rest) ++ r)) (suc b) n ≡ true =
    ap (λ (s : List ℕ). all_hold s (suc b) n) k
    ∙ all_hold_lem (p ++ sealed b body) (suc b) n (drop body_length l) r (next_length p b body e f) (omega arith) (omega (arith, length-drop body_length l)) in
    rw (one, two)

pub bodies_back : (p : List ℕ) (b n : ℕ) (l r : List ℕ) → length p ≡ 512 * b → body_length * n ≤ length l → bodies (p ++ (sealed_all b n l ++ r)) b n ≡ take (body_length * n) l
unfolding bodies sealed_all
bodies_back p b zero l r e q = refl
bodies_back p b (suc n) l r e q =
    let body = take body_length l in
    let f : length body ≡ body_length = length-take-le body_length l (omega arith) in
    let rest = sealed_all (suc b) n (drop body_length l) in
    let g : p ++ ((sealed b body ++ rest) ++ r) ≡ p ++ (sealed b body ++ (rest ++ r)) = simp append_assoc in
    let k : p ++ ((sealed b body ++ rest) ++ r) ≡ (p ++ sealed b body) ++ (rest ++ r) = simp append_assoc in
    let m : body_length * suc n ≡ body_length + body_length * n = omega arith in
    ap₂ (λ (x y : List ℕ). x ++ y)
    (ap (λ (s : List ℕ). take body_length (drop (512 * b + 4) s)) g ∙ block_body p b body (rest ++ r) e f)
    (ap (λ (s : List ℕ). bodies s (suc b) n) k ∙ bodies_back (p ++ sealed b body) (suc b) n (drop body_length l) r (next_length p b body e f) (omega (arith, length-drop body_length l)))
    ∙ sym (ap (λ (i : ℕ). take i l) m ∙ take-add body_length (body_length * n) l)

-- ---- the words of block 0
abbrev pub Words : List ℕ → Type 0
Words [] = Unit {0}
Words (w ∷ ws) = (w < 2 ^ 32) × Words ws

pub words_length_lem : (ws : List ℕ) → length (words_bytes ws) ≡ 4 * length ws
unfolding words_bytes
words_length_lem [] = refl
words_length_lem (w ∷ ws) = omega (arith, length-append (word_bytes w) (words_bytes ws), bytes_length w, words_length_lem ws)

pub words_at_lem : (ws t : List ℕ) (i : ℕ) → Words ws → i < length ws → word_at (words_bytes ws ++ t) i ≡ get_or ws i 0
unfolding words_bytes
words_at_lem [] t i h q = absurd (omega arith)
words_at_lem (w ∷ ws) t zero h q = ap (λ (l : List ℕ). word_at l 0) (append_assoc (word_bytes w) (words_bytes ws) t) ∙ word_is w (words_bytes ws ++ t) h.0
words_at_lem (w ∷ ws) t (suc i) h q =
    let e : suc i ≡ 1 + i = omega arith in
    let four : length (word_bytes w) ≡ 4 * 1 = bytes_length w in
    ap₂ word_at (append_assoc (word_bytes w) (words_bytes ws) t) e ∙ word_past (word_bytes w) (words_bytes ws ++ t) 1 i four ∙ words_at_lem ws t i h.1 (omega arith)

-- word 1 + i of a block that begins with the words ws
pub head_word_lem : (b : ℕ) (ws z r : List ℕ) (i : ℕ) → Words ws → i < length ws → word_at (sealed b (words_bytes ws ++ z) ++ r) (1 + i) ≡ get_or ws i 0
head_word_lem b ws z r i h q =
    let x = word_bytes (sum_words (word_bytes b ++ (words_bytes ws ++ z)) 0 127 % 2 ^ 32) ++ r in
    let four : length (word_bytes b) ≡ 4 * 1 = bytes_length b in
    ap (λ (l : List ℕ). word_at l (1 + i)) (block_parts b (words_bytes ws ++ z) r ∙ append_assoc (word_bytes b) (words_bytes ws ++ z) x ∙ ap (λ (l : List ℕ). word_bytes b ++ l) (append_assoc (words_bytes ws) z x))
    ∙ word_past (word_bytes b) (words_bytes ws ++ (z ++ x)) 1 i four
    ∙ words_at_lem ws (z ++ x) i h q

pub words_append : (a z : List ℕ) → words_bytes (a ++ z) ≡ words_bytes a ++ words_bytes z
unfolding words_bytes
words_append [] z = refl
words_append (w ∷ a) z = ap (λ (l : List ℕ). word_bytes w ++ l) (words_append a z) ∙ sym (append_assoc (word_bytes w) (words_bytes a) (words_bytes z))

-- ---- all of it
pub all_length : (b n : ℕ) (l : List ℕ) → body_length * n ≤ length l → length (sealed_all b n l) ≡ 512 * n
unfolding sealed_all
all_length b zero l q = refl
all_length b (suc n) l q =
    omega (
      arith,
      length-append (sealed b (take body_length l)) (sealed_all (suc b) n (drop body_length l)),
      sealed_length_lem b (take body_length l) (length-take-le body_length l (omega arith)),
      all_length (suc b) n (drop body_length l) (omega (arith, length-drop body_length l)),
    )
