-- Laws of the blocks' writers.
use Prim.Native.Nat.{ℕ, zero, suc, ◌+◌, ◌-◌, ◌*◌, ◌/◌, ◌%◌, ◌^◌, ◌≤◌, ◌<◌}
use mathlib.Core.Path.{◌≡◌, refl, ap, ap₂, sym, ◌∙◌}
use mathlib.Core.Bool.{◌&&◌, cond}
use mathlib.Core.List.{List, [], ◌∷◌, ◌++◌, append_assoc, append-nil}
use lib.Dec.{leb}
use lib.ListN.{length, get_or, set, take, drop, replicate, length-append, length-take, length-drop, length-replicate, drop_of_length-le}
use lib.Seq.{take-suc, drop-drop, length-take-le, take_all, get_or-append-add}
use borrow.Author.Tests.{le-leb, lt-leb}
use native.Mathlib.Omega.{arith}
use native.Mathlib.Numerals.{add-one}
use Rattle.spec_base.specs.base.Put.{put, put_at, placed_at, place_after}
use Rattle.spec_base.proofs.base.PutLaws.{put_snoc, put_nil, put_at_nil, put_at_zero, length_put, then_put, then_placed, put_back}
use Rattle.spec_sheet.specs.checked_blocks.Block.{word_at, sum_words}
use Rattle.spec_parked_blocks.specs.parked_blocks.Sealed.{sealed_length, body_length, room_length, word_bytes, words_bytes, sealed, sealed_all, filled, row_of, row_in}
use Rattle.spec_parked_blocks.specs.parked_blocks.First.{blocks_for, first_blocks, first_in}
use Rattle.spec_parked_blocks.proofs.parked_blocks.Bytes.{sum_within, words_append, bytes_length, words_length_lem, sealed_length_lem, all_length}
use Rattle.spec_base.proofs.base.Laws.{zero_at}

-- ---- one more element behind a piece
put_at_snoc : (at : ℕ) (v l : List ℕ) (b : ℕ) → at + length v < length l → set (put_at at v l) (at + length v) b ≡ put_at at (v ++ (b ∷ [])) l
unfolding put_at
put_at_snoc zero v l b h = let z : 0 + length v ≡ length v = omega arith in ap (λ (i : ℕ). set (put v l) i b) z ∙ put_snoc v l b (omega arith)
put_at_snoc (suc at) v [] b h = absurd (omega arith)
put_at_snoc (suc at) v (x ∷ l) b h =
    let z : suc at + length v ≡ suc (at + length v) = omega arith in
    ap (λ (i : ℕ). set (put_at (suc at) v (x ∷ l)) i b) z ∙ ap (λ (t : List ℕ). x ∷ t) (put_at_snoc at v l b (omega arith))

-- ---- a word
pub word_stored : (l : List ℕ) (at w : ℕ) → at + 4 ≤ length l
    → set (set (set (set l at (w % 256)) (at + 1) (w / 256 % 256)) (at + 2) (w / 256 / 256 % 256)) (at + 3) (w / 256 / 256 / 256 % 256) ≡ put_at at (word_bytes w) l
unfolding word_bytes
word_stored l at w h =
    let a = w % 256 in
    let b = w / 256 % 256 in
    let c = w / 256 / 256 % 256 in
    let d = w / 256 / 256 / 256 % 256 in
    let z : at ≡ at + 0 = omega arith in
    let one : set l at a ≡ put_at at (a ∷ []) l = ap₂ (λ (x : List ℕ) (i : ℕ). set x i a) (sym (put_at_nil at l)) z ∙ put_at_snoc at [] l a (omega arith) in
    let two : set (set l at a) (at + 1) b ≡ put_at at (a ∷ b ∷ []) l = ap (λ (x : List ℕ). set x (at + 1) b) one ∙ put_at_snoc at (a ∷ []) l b (omega arith) in
    let three : set (set (set l at a) (at + 1) b) (at + 2) c ≡ put_at at (a ∷ b ∷ c ∷ []) l = ap (λ (x : List ℕ). set x (at + 2) c) two ∙ put_at_snoc at (a ∷ b ∷ []) l c (omega arith) in
    ap (λ (x : List ℕ). set x (at + 3) d) three ∙ put_at_snoc at (a ∷ b ∷ c ∷ []) l d (omega arith)

-- ---- words
words_snoc : (ws : List ℕ) (i : ℕ) → i < length ws → words_bytes (take (i + 1) ws) ≡ words_bytes (take i ws) ++ word_bytes (get_or ws i 0)
unfolding words_bytes
words_snoc ws i h =
    rw (add-one, take-suc ws i 0) (words_append (take i ws) (get_or ws i 0 ∷ []) ∙ ap (λ (l : List ℕ). words_bytes (take i ws) ++ l) (append-nil (word_bytes (get_or ws i 0))))

pub words_more : (ws l xs ys : List ℕ) (i : ℕ) → i < length ws → xs ≡ put (words_bytes (take i ws)) l → ys ≡ put_at (4 * i) (word_bytes (get_or ws i 0)) xs
    → ys ≡ put (words_bytes (take (i + 1) ws)) l
words_more ws l xs ys i h e f =
    let n : 4 * i ≡ length (words_bytes (take i ws)) = sym (words_length_lem (take i ws) ∙ ap (λ (k : ℕ). 4 * k) (length-take-le i ws (omega arith))) in
    then_put (4 * i) (words_bytes (take i ws)) (word_bytes (get_or ws i 0)) l xs ys e n f ∙ ap (λ (v : List ℕ). put v l) (sym (words_snoc ws i h))

pub words_none : (ws l : List ℕ) → l ≡ put (words_bytes (take 0 ws)) l
unfolding words_bytes
words_none ws l = sym (put_nil l)

pub words_all : (ws l xs : List ℕ) (i : ℕ) → i ≤ length ws → length ws ≤ i → xs ≡ put (words_bytes (take i ws)) l → xs ≡ put (words_bytes ws) l
words_all ws l xs i a b e = e ∙ ap (λ (v : List ℕ). put (words_bytes v) l) (take_all i ws b)

-- ---- zeros
zeros_snoc : (k : ℕ) → ◌≡◌ {A = List ℕ} (replicate k 0 ++ (0 ∷ [])) (replicate (suc k) 0)
zeros_snoc zero = refl
zeros_snoc (suc k) = ap (λ (l : List ℕ). 0 ∷ l) (zeros_snoc k)

pub zeros_none : (l : List ℕ) (at : ℕ) → l ≡ put_at at (replicate (at - at) 0) l
zeros_none l at = let z : at - at ≡ 0 = omega arith in sym (ap (λ (k : ℕ). put_at at (replicate k 0) l) z ∙ put_at_nil at l)

pub zeros_more : (l xs : List ℕ) (at i end : ℕ) → at ≤ i → i < end → end ≤ length l → xs ≡ put_at at (replicate (i - at) 0) l → set xs i 0 ≡ put_at at (replicate (i + 1 - at) 0) l
zeros_more l xs at i end h k r e =
    let n : length (replicate {A = ℕ} (i - at) 0) ≡ i - at = length-replicate {A = ℕ} (i - at) 0 in
    let z : i ≡ at + length (replicate {A = ℕ} (i - at) 0) = omega arith in
    let s : suc (i - at) ≡ i + 1 - at = omega arith in
    ap₂ (λ (x : List ℕ) (j : ℕ). set x j 0) e z ∙ put_at_snoc at (replicate (i - at) 0) l 0 (omega arith)
    ∙ ap (λ (v : List ℕ). put_at at v l) (zeros_snoc (i - at) ∙ ap (λ (j : ℕ). replicate j 0) s)

pub zeros_all : (l xs : List ℕ) (at end i : ℕ) → i ≤ end → end ≤ i → xs ≡ put_at at (replicate (i - at) 0) l → xs ≡ put_at at (replicate (end - at) 0) l
zeros_all l xs at end i h k e = let z : i ≡ end = omega arith in e ∙ ap (λ (j : ℕ). put_at at (replicate (j - at) 0) l) z

-- ---- the sum
pub sum_none : (s : List ℕ) → 0 ≡ sum_words s 0 0 % 2 ^ 32
unfolding sum_words
sum_none s = refl

pub sum_more : (s : List ℕ) (k w total next : ℕ) → total ≡ sum_words s 0 k % 2 ^ 32 → w ≡ word_at s k → next ≡ (total + w) % 2 ^ 32 → next ≡ sum_words s 0 (k + 1) % 2 ^ 32
unfolding sum_words
sum_more s k w total next e f g =
    let z : 0 + k ≡ k = omega arith in
    let a : word_at s (0 + k) ≡ word_at s k = ap (word_at s) z in
    rw add-one (omega arith)

pub sum_all : (s : List ℕ) (m k total : ℕ) → k ≤ m → m ≤ k → total ≡ sum_words s 0 k % 2 ^ 32 → total ≡ sum_words s 0 m % 2 ^ 32
sum_all s m k total h g e = let z : k ≡ m = omega arith in e ∙ ap (λ (n : ℕ). sum_words s 0 n % 2 ^ 32) z

-- zeros add nothing
zero_behind : (p : List ℕ) (k j : ℕ) → length p ≤ j → get_or (p ++ replicate k 0) j 0 ≡ 0
zero_behind p k j h =
    let n : j ≡ length p + (j - length p) = omega arith in
    ap (λ (x : ℕ). get_or (p ++ replicate k 0) x 0) n ∙ get_or-append-add p (replicate k 0) (j - length p) 0 ∙ zero_at k (j - length p)

zero_word : (p : List ℕ) (k i : ℕ) → length p ≤ 4 * i → word_at (p ++ replicate k 0) i ≡ 0
unfolding word_at
zero_word p k i h =
    omega (arith, zero_behind p k (4 * i) h, zero_behind p k (4 * i + 1) (omega arith), zero_behind p k (4 * i + 2) (omega arith), zero_behind p k (4 * i + 3) (omega arith))

pub zero_sum : (p : List ℕ) (k m n : ℕ) → length p ≤ 4 * m → sum_words (p ++ replicate k 0) 0 (m + n) ≡ sum_words (p ++ replicate k 0) 0 m
unfolding sum_words
zero_sum p k m zero h = let z : m + 0 ≡ m = omega arith in ap (sum_words (p ++ replicate k 0) 0) z
zero_sum p k m (suc n) h =
    let z : m + suc n ≡ suc (m + n) = omega arith in
    let w : word_at (p ++ replicate k 0) (0 + (m + n)) ≡ 0 = zero_word p k (0 + (m + n)) (omega arith) in
    let s : sum_words (p ++ replicate k 0) 0 (m + n) + word_at (p ++ replicate k 0) (0 + (m + n)) ≡ sum_words (p ++ replicate k 0) 0 m = omega (arith, w, zero_sum p k m n h) in
    ap (sum_words (p ++ replicate k 0) 0) z ∙ s

-- ---- a block
module _ (l x1 x2 body : List ℕ) (b end : ℕ) (room : 512 ≤ length l) (small : length body ≤ body_length)
    (e1 : x1 ≡ put_at 0 (word_bytes b) l) (eEnd : end ≡ place_after 4 body x1) (e2 : x2 ≡ placed_at 4 body x1) where
  first : x1 ≡ put (word_bytes b) l
  first = e1 ∙ put_at_zero (word_bytes b) l

  front_length : length (word_bytes b ++ body) ≡ 4 + length body
  front_length = omega (arith, length-append (word_bytes b) body, bytes_length b)

  second : (x2 ≡ put (word_bytes b ++ body) l) × (end ≡ length (word_bytes b ++ body))
  second = then_placed 4 end (word_bytes b) body l x1 x2 first (sym (bytes_length b)) (omega (arith, front_length)) eEnd e2

  pub end_small : end ≤ 508
  end_small = omega (arith, second.1, front_length)

  pub end_lies : 508 ≤ length x2
  end_lies = omega (arith, ap length second.0, length_put (word_bytes b ++ body) l (omega (arith, front_length)))

  H : List ℕ
  H = word_bytes b ++ filled body_length body

  head_508 : length H ≡ 508
  unfolding H
  head_508 =
      omega (arith, length-append (word_bytes b) (filled body_length body), bytes_length b, length-append body (replicate (body_length - length body) 0), length-replicate {A = ℕ} (body_length - length body) 0)

  third : (x3 : List ℕ) → x3 ≡ put_at end (replicate (508 - end) 0) x2 → x3 ≡ put H l
  unfolding H
  third x3 e3 =
      let n : 508 - end ≡ body_length - length body = omega (arith, second.1, front_length) in
      then_put end (word_bytes b ++ body) (replicate (508 - end) 0) l x2 x3 second.0 second.1 e3
      ∙ ap (λ (v : List ℕ). put v l) (append_assoc (word_bytes b) body (replicate (508 - end) 0) ∙ ap (λ (k : ℕ). word_bytes b ++ (body ++ replicate k 0)) n)

  head_zeros : H ≡ (word_bytes b ++ body) ++ replicate (body_length - length body) 0
  unfolding H
  head_zeros = sym (append_assoc (word_bytes b) body (replicate (body_length - length body) 0))

  abbrev few : ℕ
  few = (length body + 7) / 4

  sum_first : sum_words (put H l) 0 few ≡ sum_words H 0 few
  unfolding put
  sum_first = sum_within H (drop (length H) l) few (omega (arith, head_508, small))

  sum_same : sum_words (put H l) 0 few ≡ sum_words H 0 127
  sum_same =
      let n : few + (127 - few) ≡ 127 = omega (arith, small) in
      let z = zero_sum (word_bytes b ++ body) (body_length - length body) few (127 - few) (omega (arith, front_length)) in
      sum_first ∙ ap (λ (x : List ℕ). sum_words x 0 few) head_zeros ∙ sym z ∙ ap₂ (λ (x : List ℕ) (j : ℕ). sum_words x 0 j) (sym head_zeros) n

  head_last : H ++ word_bytes (sum_words H 0 127 % 2 ^ 32) ≡ word_bytes b ++ (filled body_length body ++ word_bytes (sum_words (word_bytes b ++ filled body_length body) 0 127 % 2 ^ 32))
  unfolding H
  head_last = append_assoc (word_bytes b) (filled body_length body) (word_bytes (sum_words (word_bytes b ++ filled body_length body) 0 127 % 2 ^ 32))

  pub block_made : (x3 x4 : List ℕ) (check : ℕ) → x3 ≡ put_at end (replicate (508 - end) 0) x2 → check ≡ sum_words x3 0 few % 2 ^ 32
      → x4 ≡ put_at 508 (word_bytes check) x3 → x4 ≡ put (sealed b (filled body_length body)) l
  unfolding sealed word_bytes
  block_made x3 x4 check e3 ec e4 =
      let c : check ≡ sum_words H 0 127 % 2 ^ 32 = ec ∙ ap (λ (x : List ℕ). sum_words x 0 few % 2 ^ 32) (third x3 e3) ∙ ap (λ (n : ℕ). n % 2 ^ 32) sum_same in
      then_put 508 H (word_bytes check) l x3 x4 (third x3 e3) (sym head_508) e4
      ∙ ap (λ (v : List ℕ). put v l) (ap (λ (n : ℕ). H ++ word_bytes n) c ∙ head_last)

pub part_small : (held r : List ℕ) (n : ℕ) → r ≡ take body_length (drop (body_length * n) held) → length r ≤ body_length
part_small held r n e = omega (arith, ap length e, length-take body_length (drop (body_length * n) held))

pub part_is : (held x r : List ℕ) (n : ℕ) → x ≡ drop (body_length * n) held → r ≡ take body_length x → r ≡ take body_length (drop (body_length * n) held)
part_is held x r n e f = f ∙ ap (take body_length) e

-- ---- zeros behind a list, cut
pub take_zeros : (n k : ℕ) → n ≤ k → take n (replicate {A = ℕ} k 0) ≡ replicate n 0
take_zeros zero k h = refl
take_zeros (suc n) zero h = absurd (omega arith)
take_zeros (suc n) (suc k) h = ap (λ (l : List ℕ). 0 ∷ l) (take_zeros n k (omega arith))

pub drop_zeros : (n k : ℕ) → drop n (replicate {A = ℕ} k 0) ≡ replicate (k - n) 0
drop_zeros zero k = let z : k ≡ k - 0 = omega arith in ap (λ (i : ℕ). replicate i 0) z
drop_zeros (suc n) zero = let z : 0 ≡ 0 - suc n = omega arith in ap (λ (i : ℕ). replicate i 0) z
drop_zeros (suc n) (suc k) = let z : k - n ≡ suc k - suc n = omega arith in drop_zeros n k ∙ ap (λ (i : ℕ). replicate i 0) z

take_filled : (n k : ℕ) (l : List ℕ) → n ≤ length l + k → take n (l ++ replicate k 0) ≡ filled n (take n l)
take_filled zero k l h = let z : 0 ≡ 0 - 0 = omega arith in ap (λ (i : ℕ). replicate i 0) z
take_filled (suc n) k [] h = let z : suc n ≡ suc n - 0 = omega arith in take_zeros (suc n) k (omega arith) ∙ ap (λ (i : ℕ). replicate i 0) z
take_filled (suc n) k (x ∷ l) h =
    let z : n - length (take n l) ≡ suc n - suc (length (take n l)) = omega arith in
    ap (λ (y : List ℕ). x ∷ y) (take_filled n k l (omega arith) ∙ ap (λ (i : ℕ). take n l ++ replicate i 0) z)

pub drop_filled : (n k : ℕ) (l : List ℕ) → drop n (l ++ replicate k 0) ≡ drop n l ++ replicate (k - (n - length l)) 0
drop_filled zero k l = let z : k ≡ k - (0 - length l) = omega arith in ap (λ (i : ℕ). l ++ replicate i 0) z
drop_filled (suc n) k [] = let z : k - suc n ≡ k - (suc n - 0) = omega arith in drop_zeros (suc n) k ∙ ap (λ (i : ℕ). replicate i 0) z
drop_filled (suc n) k (x ∷ l) =
    let z : k - (n - length l) ≡ k - (suc n - suc (length l)) = omega arith in
    drop_filled n k l ∙ ap (λ (i : ℕ). drop n l ++ replicate i 0) z

filled_part : (n : ℕ) (l : List ℕ) → length l ≤ room_length → n < 17
    → take body_length (drop (body_length * n) (filled room_length l)) ≡ filled body_length (take body_length (drop (body_length * n) l))
filled_part n l h k =
    ap (take body_length) (drop_filled (body_length * n) (room_length - length l) l)
    ∙ take_filled body_length (room_length - length l - (body_length * n - length l)) (drop (body_length * n) l) (omega (arith, length-drop (body_length * n) l))

-- ---- a row of blocks
all_snoc : (b n : ℕ) (l : List ℕ) → sealed_all b (suc n) l ≡ sealed_all b n l ++ sealed (b + n) (take body_length (drop (body_length * n) l))
unfolding sealed_all
all_snoc b zero l =
    let z : b ≡ b + 0 = omega arith in
    append-nil (sealed b (take body_length l)) ∙ ap (λ (i : ℕ). sealed i (take body_length l)) z
all_snoc b (suc n) l =
    let z : suc b + n ≡ b + suc n = omega arith in
    let m : body_length + body_length * n ≡ body_length * suc n = omega arith in
    let v = sealed b (take body_length l) in
    ap (λ (y : List ℕ). v ++ y) (all_snoc (suc b) n (drop body_length l))
    ∙ sym (append_assoc v (sealed_all (suc b) n (drop body_length l)) (sealed (suc b + n) (take body_length (drop (body_length * n) (drop body_length l)))))
    ∙ ap₂ (λ (i : ℕ) (y : List ℕ). (v ++ sealed_all (suc b) n (drop body_length l)) ++ sealed i (take body_length y)) z
    (drop-drop (body_length * n) body_length l ∙ ap (λ (i : ℕ). drop i l) m)

pub filled_size : (n : ℕ) (l : List ℕ) → length l ≤ n → length (filled n l) ≡ n
filled_size n l h = omega (arith, length-append l (replicate (n - length l) 0), length-replicate {A = ℕ} (n - length l) 0)

pub held_none : (held l : List ℕ) → l ≡ put (sealed_all 1 0 (filled room_length held)) l
unfolding sealed_all
held_none held l = sym (put_nil l)

held_snoc : (n : ℕ) (held : List ℕ) → length held ≤ room_length → n < 17
    → sealed_all 1 (n + 1) (filled room_length held) ≡ sealed_all 1 n (filled room_length held) ++ sealed (n + 1) (filled body_length (take body_length (drop (body_length * n) held)))
held_snoc n held h k =
    let L = filled room_length held in
    let z : 1 + n ≡ n + 1 = omega arith in
    let s : n + 1 ≡ suc n = omega arith in
    ap (λ (i : ℕ). sealed_all 1 i L) s ∙ all_snoc 1 n L ∙ ap₂ (λ (i : ℕ) (y : List ℕ). sealed_all 1 n L ++ sealed i y) z (filled_part n held h k)

pub held_more : (held l xs ys part : List ℕ) (k n : ℕ) → length held ≤ room_length → k ≤ 17 → n < k → xs ≡ put (sealed_all 1 n (filled room_length held)) l
    → part ≡ take body_length (drop (body_length * n) held) → ys ≡ put_at (512 * n) (sealed (n + 1) (filled body_length part)) xs
    → ys ≡ put (sealed_all 1 (n + 1) (filled room_length held)) l
held_more held l xs ys part k n h few less e p f =
    let L = filled room_length held in
    let size : 512 * n ≡ length (sealed_all 1 n L) = sym (all_length 1 n L (omega (arith, filled_size room_length held h))) in
    then_put (512 * n) (sealed_all 1 n L) (sealed (n + 1) (filled body_length part)) l xs ys e size f
    ∙ ap (λ (v : List ℕ). put v l) (ap (λ (v : List ℕ). sealed_all 1 n L ++ sealed (n + 1) (filled body_length v)) p ∙ sym (held_snoc n held h (omega arith)))

pub held_all : (held l xs : List ℕ) (k n : ℕ) → n ≤ k → k ≤ n → xs ≡ put (sealed_all 1 n (filled room_length held)) l → xs ≡ put (sealed_all 1 k (filled room_length held)) l
held_all held l xs k n h g e = let z : n ≡ k = omega arith in e ∙ ap (λ (i : ℕ). put (sealed_all 1 i (filled room_length held)) l) z

-- ---- block 0 and k more
pub first_made : (k : ℕ) (head held l xs ys : List ℕ) → length head ≤ body_length → xs ≡ put (sealed 0 (filled body_length head)) l
    → ys ≡ put (sealed_all 1 k (filled room_length held)) (take (length xs - 512) (drop 512 xs))
    → take 512 xs ++ (ys ++ drop (length xs - 512) (drop 512 xs)) ≡ put (first_blocks k head held) l
unfolding first_blocks
first_made k head held l xs ys h e f =
    put_back 512 (sealed 0 (filled body_length head)) (sealed_all 1 k (filled room_length held)) l xs ys e (sym (sealed_length_lem 0 (filled body_length head) (filled_size body_length head h))) f

module _ (out head held : List ℕ) (n : ℕ) where
  abbrev First : List ℕ
  First = first_in (length out) n head held

  pub seal_short : length out < sealed_length → out ≡ put First out
  unfolding first_in
  seal_short h = rw (lt-leb sealed_length (length out) h) (sym (put_nil out))

  module _ (h : sealed_length ≤ length out) where
    pub seal_head : body_length < length head → out ≡ put First out
    unfolding first_in
    seal_head k = rw (le-leb sealed_length (length out) h, lt-leb (length head) body_length k) (sym (put_nil out))

    module _ (k : length head ≤ body_length) where
      pub seal_held : room_length < length held → out ≡ put First out
      unfolding first_in
      seal_held m = rw (le-leb sealed_length (length out) h, le-leb (length head) body_length k, lt-leb (length held) room_length m) (sym (put_nil out))

      pub seal_all : (xs : List ℕ) (j : ℕ) → length held ≤ room_length → j ≡ blocks_for n → xs ≡ put (first_blocks j head held) out → xs ≡ put First out
      unfolding first_in
      seal_all xs j m e f =
          rw (le-leb sealed_length (length out) h, le-leb (length head) body_length k, le-leb (length held) room_length m)
          (f ∙ ap (λ (i : ℕ). put (first_blocks i head held) out) e)

-- all 18
pub row_first : (head held : List ℕ) → first_blocks 17 head held ≡ row_of head held
unfolding first_blocks row_of
row_first head held = refl

pub seal_row : (out xs head held : List ℕ) → xs ≡ put (first_in (length out) room_length head held) out → xs ≡ put (row_in (length out) head held) out
unfolding first_in row_in blocks_for
seal_row out xs head held e =
    e ∙ ap (λ (v : List ℕ). put (cond (leb sealed_length (length out) && (leb (length head) body_length && leb (length held) room_length)) v []) out) (row_first head held)

-- ---- how many blocks bytes take
pub blocks_all : (n : ℕ) → room_length ≤ n → 17 ≡ blocks_for n
unfolding blocks_for
blocks_all n h = omega arith

pub blocks_some : (n : ℕ) → n < room_length → (n + 503) / 504 ≡ blocks_for n
unfolding blocks_for
blocks_some n h = omega arith

pub blocks_few : (n k : ℕ) → k ≡ blocks_for n → k ≤ 17
unfolding blocks_for
blocks_few n k e = omega arith

-- ---- the bytes of 16 words
pub sixteen : (words bytes : List ℕ) → length words ≡ 16 → bytes ≡ put (words_bytes words) (replicate 64 0) → bytes ≡ words_bytes words
unfolding put
sixteen words bytes n e =
    let h : length (replicate {A = ℕ} 64 0) ≤ length (words_bytes words) = omega (arith, words_length_lem words, length-replicate {A = ℕ} 64 0) in
    e ∙ ap (λ (l : List ℕ). words_bytes words ++ l) (drop_of_length-le (replicate 64 0) h) ∙ append-nil (words_bytes words)
