-- Laws of the first blocks of a row: blocks that are blank, and the row that the first blocks make over one whose other blocks are.
use Prim.Native.Nat.{ℕ, zero, suc, ◌+◌, ◌-◌, ◌*◌, ◌/◌, ◌%◌, ◌^◌, ◌≤◌, ◌<◌}
use mathlib.Core.Path.{◌≡◌, refl, ap, ap₂, sym, ◌∙◌}
use mathlib.Core.Bool.{Bool, true, false, ◌&&◌, cond}
use mathlib.Core.List.{List, [], ◌∷◌, ◌++◌, append_assoc, append-nil}
use lib.Dec.{eqb, leb}
use lib.ListN.{length, get_or, take, drop, replicate, length-append, length-drop, drop_of_length-le, take-append-drop}
use lib.Seq.{length-take-le, take_all, take_at, drop_at, get_or-drop, drop-drop}
use native.Mathlib.Omega.{arith}
use borrow.Author.Tests.{eq-eqb, ne_eqb, eqb-true, le-leb, lt-leb}
use Rattle.spec_base.specs.base.Put.{put}
use Rattle.spec_base.proofs.base.Laws.{and_left, and_right, and_assoc, and_false, and_true}
use Rattle.spec_base.proofs.base.PutLaws.{put_nil}
use Rattle.spec_sheet.specs.checked_blocks.Block.{word_at, sum_words, block_holds}
use Rattle.spec_parked_blocks.specs.parked_blocks.Sealed.{sealed_length, body_length, room_length, word_bytes, sealed, sealed_all, filled, row_of, all_hold, bodies, room_of, all_zero, is_row}
use Rattle.spec_parked_blocks.specs.parked_blocks.First.{blocks_for, first_blocks, first_room, blank_all, short_row, unsealed_first}
use Rattle.spec_parked_blocks.proofs.parked_blocks.Bytes.{word_past, word_within, word_is, bytes_length, sealed_length_lem, all_length}
use Rattle.spec_parked_blocks.proofs.parked_blocks.Again.{side_by_side, part_4, zero_list, block_sum}
use Rattle.spec_parked_blocks.proofs.parked_blocks.WriteLaws.{zero_sum, take_zeros, drop_zeros, drop_filled, filled_size, blocks_few}
use Rattle.spec_parked_blocks.proofs.parked_blocks.ReadLaws.{bodies_length, row_length}

-- ---- zeros
zero_append : (a b : List ℕ) → all_zero (a ++ b) ≡ (all_zero a && all_zero b)
unfolding all_zero
zero_append [] b = refl
zero_append (x ∷ a) b = ap (λ (t : Bool). eqb x 0 && t) (zero_append a b) ∙ sym (and_assoc (eqb x 0) (all_zero a) (all_zero b))

pub zero_drop : (n : ℕ) (l : List ℕ) → all_zero l ≡ true → all_zero (drop n l) ≡ true
unfolding all_zero
zero_drop zero l h = h
zero_drop (suc n) [] h = h
zero_drop (suc n) (x ∷ l) h = zero_drop n l (and_right (eqb x 0) (all_zero l) h)

-- zeros behind a list
pub zero_behind : (n : ℕ) (a z : List ℕ) → all_zero z ≡ true → all_zero (drop n (a ++ z)) ≡ all_zero (drop n a)
unfolding all_zero
zero_behind zero a z h = zero_append a z ∙ ap (λ (t : Bool). all_zero a && t) h ∙ and_true (all_zero a)
zero_behind (suc n) [] z h = zero_drop (suc n) z h
zero_behind (suc n) (x ∷ a) z h = zero_behind n a z h

-- ---- parts of a row
hold_split : (s : List ℕ) (b n m : ℕ) → all_hold s b (n + m) ≡ (all_hold s b n && all_hold s (b + n) m)
unfolding all_hold
hold_split s b zero m =
    let z : 0 + m ≡ m = omega arith in
    let y : b ≡ b + 0 = omega arith in
    ap₂ (all_hold s) y z
hold_split s b (suc n) m =
    let z : suc n + m ≡ suc (n + m) = omega arith in
    let y : suc b + n ≡ b + suc n = omega arith in
    ap (all_hold s b) z
    ∙ ap (λ (t : Bool). block_holds s b && t) (hold_split s (suc b) n m ∙ ap (λ (i : ℕ). all_hold s (suc b) n && all_hold s i m) y)
    ∙ sym (and_assoc (block_holds s b) (all_hold s (suc b) n) (all_hold s (b + suc n) m))

bodies_split : (s : List ℕ) (b n m : ℕ) → bodies s b (n + m) ≡ bodies s b n ++ bodies s (b + n) m
unfolding bodies
bodies_split s b zero m =
    let z : 0 + m ≡ m = omega arith in
    let y : b ≡ b + 0 = omega arith in
    ap₂ (bodies s) y z
bodies_split s b (suc n) m =
    let z : suc n + m ≡ suc (n + m) = omega arith in
    let y : suc b + n ≡ b + suc n = omega arith in
    let v = take body_length (drop (512 * b + 4) s) in
    ap (bodies s b) z
    ∙ ap (λ (l : List ℕ). v ++ l) (bodies_split s (suc b) n m ∙ ap (λ (i : ℕ). bodies s (suc b) n ++ bodies s i m) y)
    ∙ sym (append_assoc v (bodies s (suc b) n) (bodies s (b + suc n) m))

module _ (s : List ℕ) (k : ℕ) (size : length s ≡ sealed_length) (few : k ≤ 17) where
  room_split : room_of s ≡ bodies s 1 k ++ bodies s (1 + k) (17 - k)
  room_split = let z : 17 ≡ k + (17 - k) = omega arith in ap (bodies s 1) z ∙ bodies_split s 1 k (17 - k)

  first_long : length (bodies s 1 k) ≡ body_length * k
  first_long = bodies_length s 1 k (omega arith)

  pub room_first : take (body_length * k) (room_of s) ≡ bodies s 1 k
  room_first = ap (take (body_length * k)) room_split ∙ take_at (bodies s 1 k) (bodies s (1 + k) (17 - k)) (body_length * k) first_long

  room_behind : drop (body_length * k) (room_of s) ≡ bodies s (1 + k) (17 - k)
  room_behind = ap (drop (body_length * k)) room_split ∙ drop_at (bodies s 1 k) (bodies s (1 + k) (17 - k)) (body_length * k) first_long

-- ---- a block with nothing but zeros
one_word : (l : List ℕ) → sum_words l 0 1 ≡ word_at l 0
unfolding sum_words
one_word l = omega arith

-- the sum of a word and zeros
word_sum_lem : (p : List ℕ) → length p ≡ 4 → sum_words (p ++ replicate body_length 0) 0 127 ≡ word_at (p ++ replicate body_length 0) 0
word_sum_lem p e = zero_sum p body_length 1 126 (omega arith) ∙ one_word (p ++ replicate body_length 0)

module _ (s : List ℕ) (b : ℕ) (size : 512 * b + 512 ≤ length s) where
  D : List ℕ
  D = drop (512 * b) s

  abbrev Body : List ℕ
  Body = take body_length (drop (512 * b + 4) s)

  body_long : length Body ≡ body_length
  body_long = length-take-le body_length (drop (512 * b + 4) s) (omega (arith, length-drop (512 * b + 4) s, size))

  first_word : word_at (take 508 D) 0 ≡ word_at s (128 * b)
  unfolding D
  first_word =
      let long : length (take 508 D) ≡ 508 = length-take-le 508 D (omega (arith, length-drop (512 * b) s, size)) in
      let begun : length (take (512 * b) s) ≡ 512 * b = length-take-le (512 * b) s (omega (arith, size)) in
      let four-times : length (take (512 * b) s) ≡ 4 * (128 * b) = omega (arith, begun) in
      let z : 128 * b + 0 ≡ 128 * b = omega arith in
      sym (word_within (take 508 D) (drop 508 D) 0 (omega (arith, long)))
      ∙ ap (λ (l : List ℕ). word_at l 0) (take-append-drop 508 D)
      ∙ sym (word_past (take (512 * b) s) D (128 * b) 0 four-times)
      ∙ ap₂ word_at (take-append-drop (512 * b) s) z

  module _ (none : all_zero Body ≡ true) where
    body_zeros : Body ≡ replicate body_length 0
    body_zeros = zero_list Body none ∙ ap (λ (n : ℕ). replicate n 0) body_long

    front_zeros : take 508 D ≡ take 4 D ++ replicate body_length 0
    unfolding D
    front_zeros = sym (side_by_side 4 body_length (512 * b) s) ∙ ap (λ (l : List ℕ). take 4 (drop (512 * b) s) ++ l) body_zeros

    -- its sum is its number
    zero_total : sum_words s (128 * b) 127 ≡ word_at s (128 * b)
    unfolding D
    zero_total =
        let four : length (take 4 D) ≡ 4 = length-take-le 4 D (omega (arith, length-drop (512 * b) s, size)) in
        block_sum s b size ∙ ap (λ (l : List ℕ). sum_words l 0 127) front_zeros ∙ word_sum_lem (take 4 D) four ∙ ap (λ (l : List ℕ). word_at l 0) (sym front_zeros) ∙ first_word

  abbrev Blank : Bool
  Blank = block_holds s b && all_zero Body

  module _ (w : ℕ) (e : w ≡ word_at s (128 * b)) where
    blank_number : (w ≡ b → ⊥) → false ≡ Blank
    unfolding block_holds
    blank_number h = rw (le-leb (512 * b + 512) (length s) size, ne_eqb (word_at s (128 * b)) b (λ z. h (e ∙ z)))

    module _ (g : w ≡ b) (small : b < 2 ^ 32) (c : ℕ) (f : c ≡ word_at s (128 * b + 127)) where
      numbered : eqb (word_at s (128 * b)) b ≡ true
      numbered = eq-eqb (word_at s (128 * b)) b (sym e ∙ g)

      zero_sum_is : all_zero Body ≡ true → sum_words s (128 * b) 127 % 2 ^ 32 ≡ b
      zero_sum_is none = omega (arith, zero_total none, sym e ∙ g, small)

      by_check : (t : Bool) → eqb (word_at s (128 * b + 127)) b ≡ t → (u : Bool) → all_zero Body ≡ u → (t && u) ≡ Blank
      unfolding block_holds
      by_check t p true q =
          let z : eqb (word_at s (128 * b + 127)) (sum_words s (128 * b) 127 % 2 ^ 32) ≡ t = ap (eqb (word_at s (128 * b + 127))) (zero_sum_is q) ∙ p in
          rw (le-leb (512 * b + 512) (length s) size, numbered, z, q)
      by_check t p false q = rw q (sym (and_false t) ∙ and_false (block_holds s b))

      blank_check : (c ≡ b → ⊥) → false ≡ Blank
      blank_check h = by_check false (ne_eqb (word_at s (128 * b + 127)) b (λ z. h (f ∙ z))) (all_zero Body) refl

      blank_zeros : (p : List ℕ) (t : Bool) → c ≡ b → p ≡ Body → t ≡ all_zero p → t ≡ Blank
      blank_zeros p t h q r = r ∙ ap all_zero q ∙ by_check true (eq-eqb (word_at s (128 * b + 127)) b (sym f ∙ h)) (all_zero Body) refl

module _ (s : List ℕ) (b : ℕ) (long : length s ≡ sealed_length) (few : b ≤ 17) (w : ℕ) (e : w ≡ word_at s (128 * b)) where
  inside : 512 * b + 512 ≤ length s
  inside = omega arith

  pub number_wrong : (w ≡ b → ⊥) → false ≡ (block_holds s b && all_zero (take body_length (drop (512 * b + 4) s)))
  number_wrong h = blank_number s b inside w e h

  module _ (g : w ≡ b) (c : ℕ) (f : c ≡ word_at s (128 * b + 127)) where
    pub check_wrong : (c ≡ b → ⊥) → false ≡ (block_holds s b && all_zero (take body_length (drop (512 * b + 4) s)))
    check_wrong h = blank_check s b inside w e g (omega arith) c f h

    pub zeros_tell : (p : List ℕ) (t : Bool) → c ≡ b → p ≡ take body_length (drop (512 * b + 4) s) → t ≡ all_zero p → t ≡ (block_holds s b && all_zero (take body_length (drop (512 * b + 4) s)))
    zeros_tell p t h q r = blank_zeros s b inside w e g (omega arith) c f p t h q r

-- ---- blank blocks
swap : (a b c d : Bool) → ((a && b) && (c && d)) ≡ ((a && c) && (b && d))
swap false b c d = refl
swap true false c d = and_false c
swap true true c d = refl

module _ (s : List ℕ) where
  blank_part : (b n : ℕ) → blank_all s b (suc n) ≡ ((block_holds s b && all_zero (take body_length (drop (512 * b + 4) s))) && blank_all s (suc b) n)
  unfolding blank_all all_hold bodies
  blank_part b n =
      let v = take body_length (drop (512 * b + 4) s) in
      ap (λ (t : Bool). (block_holds s b && all_hold s (suc b) n) && t) (zero_append v (bodies s (suc b) n))
      ∙ swap (block_holds s b) (all_hold s (suc b) n) (all_zero v) (all_zero (bodies s (suc b) n))

  module _ (k b : ℕ) (h : b ≤ 18) (inv : blank_all s b (18 - b) ≡ blank_all s (k + 1) (17 - k)) where
    split : b < 18 → blank_all s b (18 - b) ≡ ((block_holds s b && all_zero (take body_length (drop (512 * b + 4) s))) && blank_all s (b + 1) (18 - (b + 1)))
    split l =
        let z : 18 - b ≡ suc (18 - (b + 1)) = omega arith in
        let y : suc b ≡ b + 1 = omega arith in
        ap (blank_all s b) z ∙ blank_part b (18 - (b + 1))
        ∙ ap (λ (i : ℕ). (block_holds s b && all_zero (take body_length (drop (512 * b + 4) s))) && blank_all s i (18 - (b + 1))) y

    pub blank_step : (t : Bool) → b < 18 → t ≡ (block_holds s b && all_zero (take body_length (drop (512 * b + 4) s))) → t ≡ true → blank_all s (b + 1) (18 - (b + 1)) ≡ blank_all s (k + 1) (17 - k)
    blank_step t l e f = ap (λ (u : Bool). u && blank_all s (b + 1) (18 - (b + 1))) (sym f ∙ e) ∙ sym (split l) ∙ inv

    pub blank_no : (t : Bool) → b < 18 → t ≡ (block_holds s b && all_zero (take body_length (drop (512 * b + 4) s))) → t ≡ false → false ≡ blank_all s (k + 1) (17 - k)
    blank_no t l e f = ap (λ (u : Bool). u && blank_all s (b + 1) (18 - (b + 1))) (sym f ∙ e) ∙ sym (split l) ∙ inv

    pub blank_all_lem : 18 ≤ b → true ≡ blank_all s (k + 1) (17 - k)
    unfolding blank_all all_hold bodies all_zero
    blank_all_lem l = let z : 0 ≡ 18 - b = omega arith in ap (blank_all s b) z ∙ inv

  pub blank_start : (k b : ℕ) → b ≡ k + 1 → k ≤ 17 → blank_all s b (18 - b) ≡ blank_all s (k + 1) (17 - k)
  blank_start k b e h = let z : 18 - b ≡ 17 - k = omega arith in ap₂ (blank_all s) e z

-- ---- a row with nothing but zeros behind its first blocks
module _ (s : List ℕ) (k : ℕ) where
  pub short_length : (length s ≡ sealed_length → ⊥) → false ≡ short_row s k
  unfolding short_row is_row
  short_length h = rw (ne_eqb (length s) sealed_length h)

  module _ (size : length s ≡ sealed_length) (few : k ≤ 17) where
    short_is : short_row s k ≡ (all_hold s 0 (k + 1) && blank_all s (k + 1) (17 - k))
    unfolding short_row is_row blank_all
    short_is =
        let z : 18 ≡ (k + 1) + (17 - k) = omega arith in
        let y : 0 + (k + 1) ≡ k + 1 = omega arith in
        let x : 1 + k ≡ k + 1 = omega arith in
        let all : all_hold s 0 18 ≡ (all_hold s 0 (k + 1) && all_hold s (k + 1) (17 - k)) =
        ap (all_hold s 0) z ∙ hold_split s 0 (k + 1) (17 - k) ∙ ap (λ (i : ℕ). all_hold s 0 (k + 1) && all_hold s i (17 - k)) y in
        let zeros : drop (body_length * k) (room_of s) ≡ bodies s (k + 1) (17 - k) = room_behind s k size few ∙ ap (λ (i : ℕ). bodies s i (17 - k)) x in
        (λ i. (eq-eqb (length s) sealed_length size i && all i) && all_zero (zeros i))
        ∙ and_assoc (all_hold s 0 (k + 1)) (all_hold s (k + 1) (17 - k)) (all_zero (bodies s (k + 1) (17 - k)))

    module _ (t : Bool) (e : t ≡ all_hold s 0 (k + 1)) where
      pub short_first : t ≡ false → false ≡ short_row s k
      short_first f = ap (λ (u : Bool). u && blank_all s (k + 1) (17 - k)) (sym f ∙ e) ∙ sym short_is

      pub short_rest : (u : Bool) → t ≡ true → u ≡ blank_all s (k + 1) (17 - k) → u ≡ short_row s k
      short_rest u f g = g ∙ ap (λ (x : Bool). x && blank_all s (k + 1) (17 - k)) (sym f ∙ e) ∙ sym short_is

pub short_long : (s : List ℕ) (k : ℕ) (t : Bool) → t ≡ short_row s k → t ≡ true → length s ≡ sealed_length
unfolding short_row
short_long s k t e f = row_length s (is_row s) refl (and_left (is_row s) _ (sym e ∙ f))

-- ---- what is handed out
module _ (s room : List ℕ) (n : ℕ) where
  pub first_short : length room < room_length → false ≡ unsealed_first s n (length room)
  unfolding unsealed_first
  first_short h = sym (ap (λ (t : Bool). short_row s (blocks_for n) && t) (lt-leb room_length (length room) h) ∙ sym (and_false (short_row s (blocks_for n))))

  module _ (k : ℕ) (t : Bool) (g : k ≡ blocks_for n) (e : t ≡ short_row s k) where
    is_short : (u : Bool) → t ≡ u → short_row s (blocks_for n) ≡ u
    is_short u f = ap (short_row s) (sym g) ∙ sym e ∙ f

    pub first_no : t ≡ false → false ≡ unsealed_first s n (length room)
    unfolding unsealed_first
    first_no f = ap (λ (u : Bool). u && leb room_length (length room)) (sym (is_short false f))

    pub first_yes : room_length ≤ length room → t ≡ true → true ≡ unsealed_first s n (length room)
    unfolding unsealed_first
    first_yes h f = λ i. sym (is_short true f) i && sym (le-leb room_length (length room) h) i

    pub first_copied : (xs : List ℕ) → t ≡ true → xs ≡ put (bodies s 1 k) room → xs ≡ put (cond true (first_room n s) []) room
    unfolding first_room
    first_copied xs f x =
        x ∙ ap (λ (v : List ℕ). put v room) (sym (room_first s k (short_long s k t e f) (blocks_few n k g)) ∙ ap (λ (j : ℕ). take (body_length * j) (room_of s)) g)

  pub first_none : room ≡ put (cond false (first_room n s) []) room
  first_none = sym (put_nil room)

-- ---- the first blocks over a row whose other blocks are blank make the whole row
small_word : (s : List ℕ) (i b : ℕ) → 4 * i + 4 ≤ length s → word_at s i ≡ b → b < 256 → take 4 (drop (4 * i) s) ≡ word_bytes b
unfolding word_at word_bytes
small_word s i b h e k =
    let l = drop (4 * i) s in
    let z : 4 * i + 0 ≡ 4 * i = omega arith in
    let first : get_or l 0 0 ≡ b % 256 = get_or-drop (4 * i) s 0 0 ∙ ap (λ (j : ℕ). get_or s j 0) z ∙ omega arith in
    let nil : b / 256 ≡ 0 = omega arith in
    let second : get_or l 1 0 ≡ b / 256 % 256 = get_or-drop (4 * i) s 1 0 ∙ omega arith in
    let third : get_or l 2 0 ≡ b / 256 / 256 % 256 = get_or-drop (4 * i) s 2 0 ∙ zero_third ∙ ap (λ (n : ℕ). n / 256 % 256) (sym nil) in
    let fourth : get_or l 3 0 ≡ b / 256 / 256 / 256 % 256 = get_or-drop (4 * i) s 3 0 ∙ zero_fourth ∙ ap (λ (n : ℕ). n / 256 / 256 % 256) (sym nil) in
    part_4 l (omega (arith, length-drop (4 * i) s)) ∙ (λ j. first j ∷ second j ∷ third j ∷ fourth j ∷ [])
  where
    zero_third : get_or s (4 * i + 2) 0 ≡ 0
    zero_third = omega arith

    zero_fourth : get_or s (4 * i + 3) 0 ≡ 0
    zero_fourth = omega arith

-- a blank block as it is written
zero_check : (b : ℕ) → b < 256 → sum_words (word_bytes b ++ replicate body_length 0) 0 127 % 2 ^ 32 ≡ b
zero_check b h = omega (arith, word_sum_lem (word_bytes b) (bytes_length b), word_is b (replicate body_length 0) (omega arith))

module _ (s : List ℕ) where
  blank_again : (b : ℕ) → b < 256 → 512 * b + 512 ≤ length s → block_holds s b ≡ true → all_zero (take body_length (drop (512 * b + 4) s)) ≡ true
      → take 512 (drop (512 * b) s) ≡ sealed b (replicate body_length 0)
  unfolding block_holds sealed D
  blank_again b h size holds none =
      let behind = and_right (leb (512 * b + 512) (length s)) (eqb (word_at s (128 * b)) b && eqb (word_at s (128 * b + 127)) (sum_words s (128 * b) 127 % 2 ^ 32)) holds in
      let number : word_at s (128 * b) ≡ b = eqb-true (word_at s (128 * b)) b (and_left (eqb (word_at s (128 * b)) b) _ behind) in
      let sum : word_at s (128 * b + 127) ≡ sum_words s (128 * b) 127 % 2 ^ 32 = eqb-true (word_at s (128 * b + 127)) (sum_words s (128 * b) 127 % 2 ^ 32) (and_right (eqb (word_at s (128 * b)) b) _ behind) in
      let check : word_at s (128 * b + 127) ≡ b = omega (arith, sum, zero_total s b size none, number, h) in
      let z : 4 * (128 * b) ≡ 512 * b = omega arith in
      let y : 4 * (128 * b + 127) ≡ 512 * b + 508 = omega arith in
      let first : take 4 (drop (512 * b) s) ≡ word_bytes b = ap (λ (k : ℕ). take 4 (drop k s)) (sym z) ∙ small_word s (128 * b) b (omega arith) number h in
      let last : take 4 (drop (512 * b + 508) s) ≡ word_bytes b = ap (λ (k : ℕ). take 4 (drop k s)) (sym y) ∙ small_word s (128 * b + 127) b (omega arith) check h in
      sym (side_by_side 508 4 (512 * b) s)
      ∙ ap₂ (λ (l m : List ℕ). l ++ m) (front_zeros s b size none ∙ ap (λ (l : List ℕ). l ++ replicate body_length 0) first) (last ∙ ap word_bytes (sym (zero_check b h)))

  blanks_again : (b n : ℕ) → b + n ≤ 256 → 512 * (b + n) ≤ length s → all_hold s b n ≡ true → all_zero (bodies s b n) ≡ true
      → take (512 * n) (drop (512 * b) s) ≡ sealed_all b n (replicate (body_length * n) 0)
  unfolding all_hold bodies sealed_all
  blanks_again b zero h q e f = refl
  blanks_again b (suc n) h q e f =
      let v = take body_length (drop (512 * b + 4) s) in
      let both : (all_zero v && all_zero (bodies s (suc b) n)) ≡ true = sym (zero_append v (bodies s (suc b) n)) ∙ f in
      let z : 512 * suc b ≡ 512 * b + 512 = omega arith in
      let y : 512 + 512 * n ≡ 512 * suc n = omega arith in
      let x : body_length * suc n - body_length ≡ body_length * n = omega arith in
      let one : take body_length (replicate {A = ℕ} (body_length * suc n) 0) ≡ replicate body_length 0 = take_zeros body_length (body_length * suc n) (omega arith) in
      let rest : drop body_length (replicate {A = ℕ} (body_length * suc n) 0) ≡ replicate (body_length * n) 0 = drop_zeros body_length (body_length * suc n) ∙ ap (λ (k : ℕ). replicate k 0) x in
      sym (side_by_side 512 (512 * n) (512 * b) s ∙ ap (λ (k : ℕ). take k (drop (512 * b) s)) y)
      ∙ ap₂ (λ (l m : List ℕ). l ++ m)
      (blank_again b (omega arith) (omega arith) (and_left (block_holds s b) (all_hold s (suc b) n) e) (and_left (all_zero v) (all_zero (bodies s (suc b) n)) both))
      (ap (λ (k : ℕ). take (512 * n) (drop k s)) (sym z) ∙ blanks_again (suc b) n (omega arith) (omega arith) (and_right (block_holds s b) (all_hold s (suc b) n) e) (and_right (all_zero v) (all_zero (bodies s (suc b) n)) both))
      ∙ sym (ap₂ (λ (l m : List ℕ). sealed b l ++ sealed_all (suc b) n m) one rest)

all_split : (b n m : ℕ) (l : List ℕ) → sealed_all b (n + m) l ≡ sealed_all b n l ++ sealed_all (b + n) m (drop (body_length * n) l)
unfolding sealed_all
all_split b zero m l =
    let z : 0 + m ≡ m = omega arith in
    let y : b ≡ b + 0 = omega arith in
    λ i. sealed_all (y i) (z i) l
all_split b (suc n) m l =
    let z : suc n + m ≡ suc (n + m) = omega arith in
    let y : suc b + n ≡ b + suc n = omega arith in
    let x : body_length + body_length * n ≡ body_length * suc n = omega arith in
    let v = sealed b (take body_length l) in
    ap (λ (j : ℕ). sealed_all b j l) z
    ∙ ap (λ (r : List ℕ). v ++ r)
    (all_split (suc b) n m (drop body_length l)
    ∙ ap₂ (λ (j : ℕ) (r : List ℕ). sealed_all (suc b) n (drop body_length l) ++ sealed_all j m r) y (drop-drop (body_length * n) body_length l ∙ ap (λ (j : ℕ). drop j l) x))
    ∙ sym (append_assoc v (sealed_all (suc b) n (drop body_length l)) (sealed_all (b + suc n) m (drop (body_length * suc n) l)))

module _ (out head held : List ℕ) (k : ℕ) (few : k ≤ 17) (small : length head ≤ body_length) (short : length held ≤ body_length * k) (e : short_row out k ≡ true) where
  row : is_row out ≡ true
  unfolding short_row
  row = and_left (is_row out) _ e

  size : length out ≡ sealed_length
  size = row_length out (is_row out) refl row

  tests : (all_hold out 0 (k + 1) && blank_all out (k + 1) (17 - k)) ≡ true
  tests = sym (short_is out k size few) ∙ e

  blank : blank_all out (k + 1) (17 - k) ≡ true
  blank = and_right (all_hold out 0 (k + 1)) _ tests

  F : List ℕ
  F = first_blocks k head held

  R : List ℕ
  R = sealed_all (k + 1) (17 - k) (replicate (body_length * (17 - k)) 0)

  first_size : length F ≡ 512 * (k + 1)
  unfolding F first_blocks
  first_size =
      omega (
        arith,
        length-append (sealed 0 (filled body_length head)) (sealed_all 1 k (filled room_length held)),
        sealed_length_lem 0 (filled body_length head) (filled_size body_length head small),
        all_length 1 k (filled room_length held) (omega (arith, filled_size room_length held (omega arith))),
      )

  rest_is : drop (512 * (k + 1)) out ≡ R
  unfolding R blank_all
  rest_is =
      let holds : all_hold out (k + 1) (17 - k) ≡ true = and_left (all_hold out (k + 1) (17 - k)) (all_zero (bodies out (k + 1) (17 - k))) blank in
      let none : all_zero (bodies out (k + 1) (17 - k)) ≡ true = and_right (all_hold out (k + 1) (17 - k)) (all_zero (bodies out (k + 1) (17 - k))) blank in
      sym (take_all (512 * (17 - k)) (drop (512 * (k + 1)) out) (omega (arith, length-drop (512 * (k + 1)) out, size)))
      ∙ blanks_again out (k + 1) (17 - k) (omega arith) (omega (arith, size)) holds none

  row_parts : row_of head held ≡ F ++ R
  unfolding F R first_blocks row_of
  row_parts =
      let z : 17 ≡ k + (17 - k) = omega arith in
      let y : 1 + k ≡ k + 1 = omega arith in
      let x : room_length - length held - (body_length * k - length held) ≡ body_length * (17 - k) = omega arith in
      let L = filled room_length held in
      let zeros : drop (body_length * k) L ≡ replicate (body_length * (17 - k)) 0 =
      drop_filled (body_length * k) (room_length - length held) held
      ∙ ap₂ (λ (l : List ℕ) (n : ℕ). l ++ replicate n 0) (drop_of_length-le held short) x in
      let H = sealed 0 (filled body_length head) in
      ap (λ (l : List ℕ). H ++ l) (ap (λ (n : ℕ). sealed_all 1 n L) z ∙ all_split 1 k (17 - k) L ∙ ap₂ (λ (j : ℕ) (l : List ℕ). sealed_all 1 k L ++ sealed_all j (17 - k) l) y zeros)
      ∙ sym (append_assoc H (sealed_all 1 k L) (sealed_all (k + 1) (17 - k) (replicate (body_length * (17 - k)) 0)))

  pub first_over : put (first_blocks k head held) out ≡ put (row_of head held) out
  unfolding put F
  first_over =
      let long : length (row_of head held) ≡ sealed_length = ap length (row_parts ∙ ap (λ (l : List ℕ). F ++ l) (sym rest_is)) ∙ omega (arith, length-append F (drop (512 * (k + 1)) out), length-drop (512 * (k + 1)) out, first_size, size) in
      let past : length out ≤ length (row_of head held) = omega (arith, long, size) in
      let none : drop (length (row_of head held)) out ≡ [] = drop_of_length-le out past in
      ap (λ (n : ℕ). F ++ drop n out) first_size ∙ ap (λ (l : List ℕ). F ++ l) rest_is ∙ sym row_parts
      ∙ sym (ap (λ (l : List ℕ). row_of head held ++ l) none ∙ append-nil (row_of head held))
