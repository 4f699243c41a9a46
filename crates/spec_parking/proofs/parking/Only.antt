-- What is taken up is what is stored: the 18 blocks of a session that is taken up are those of that session under the same mark.
use Prim.Native.Nat.{ℕ, ◌+◌, ◌-◌, ◌*◌, ◌≤◌, ◌<◌}
use mathlib.Core.Path.{◌≡◌, refl, ap, ap₂, sym, ◌∙◌}
use mathlib.Core.Bool.{Bool, true, false, ◌&&◌, ◌||◌, not, cond, true≢false}
use mathlib.Core.List.{List, [], ◌∷◌, ◌++◌}
use lib.Dec.{eqb}
use lib.ListN.{length, get_or, take, drop, replicate, length-take, length-drop, take-append-drop}
use lib.Seq.{length-take-le, take-take}
use native.Mathlib.Omega.{arith}
use borrow.Author.Tests.{eqb-true}
use Rattle.spec_base.specs.base.Limits.{most_held}
use Rattle.spec_base.specs.base.Refusal.{◌or_else◌, fault_unless}
use Rattle.spec_base.proofs.base.Laws.{and_left, and_right}
use Rattle.spec_sheet.specs.checked_blocks.Block.{word_at}
use Rattle.spec_session.specs.session_state.View.{held_of, foreign_of}
use Rattle.spec_session.proofs.session_state.ViewLaws.{held_plain, native_room}
use Rattle.spec_machine.specs.session_counts.Session.{is_outcome}
use Rattle.spec_parked_blocks.specs.parked_blocks.Sealed.{sealed_length, body_length, room_length, words_bytes, sealed, sealed_all, filled, row_of, room_of, all_zero, is_row}
use Rattle.spec_parked_blocks.proofs.parked_blocks.Bytes.{word_past, word_within}
use Rattle.spec_parked_blocks.proofs.parked_blocks.ReadLaws.{room_length_lem, row_length}
use Rattle.spec_parked_blocks.proofs.parked_blocks.Again.{side_by_side, zero_list, words_from, words_part, row_again}
use Rattle.spec_parking.specs.parking.Parked.{flag, head_words, kept_bytes, parked_of, is_mark, is_flag, unused_zero, is_parked, session_in}
use Rattle.spec_parking.specs.parking.Parkings.{take_number, OnlyParked}

-- ---- flags
flag_word : (w : ℕ) → is_flag w ≡ true → flag (eqb w 1) ≡ w
flag_word w h = go (eqb w 0) (eqb w 1) refl refl
  where
    go : (t u : Bool) → eqb w 0 ≡ t → eqb w 1 ≡ u → flag u ≡ w
    go t true p q = sym (eqb-true w 1 q)
    go true false p q = sym (eqb-true w 0 p)
    go false false p q = absurd (true≢false (sym h ∙ ap₂ (λ (x y : Bool). x || y) p q))

-- ---- what the number says
passed : (f g : Bool) → (fault_unless f 27 or_else fault_unless (not g) 17) ≡ 0 → (f ≡ true) × (g ≡ false)
unfolding fault_unless ◌or_else◌
passed true true z = absurd (let y : ◌≡◌ {A = ℕ} 17 0 = z in omega arith)
passed true false z = (refl, refl)
passed false g z = absurd (let y : ◌≡◌ {A = ℕ} 27 0 = z in omega arith)

module _ (b : List ℕ) (number : take_number b ≡ 0) (small : (j : ℕ) → get_or b j 0 < 256) where
  both : (is_parked b ≡ true) × (foreign_of (session_in b) ≡ false)
  unfolding take_number
  both = passed (is_parked b) (foreign_of (session_in b)) number

  -- ---- the tests, one by one
  row : is_row b ≡ true
  unfolding is_parked
  row = and_left (is_row b) _ both.0

  after_row : (is_mark (word_at b 1) && (is_flag (word_at b 4) && (is_outcome (word_at b 5) && (is_flag (word_at b 12) && unused_zero b)))) ≡ true
  unfolding is_parked
  after_row = and_right (is_row b) _ both.0

  after_mark : (is_flag (word_at b 4) && (is_outcome (word_at b 5) && (is_flag (word_at b 12) && unused_zero b))) ≡ true
  after_mark = and_right (is_mark (word_at b 1)) _ after_row

  after_ended : (is_outcome (word_at b 5) && (is_flag (word_at b 12) && unused_zero b)) ≡ true
  after_ended = and_right (is_flag (word_at b 4)) _ after_mark

  after_outcome : (is_flag (word_at b 12) && unused_zero b) ≡ true
  after_outcome = and_right (is_outcome (word_at b 5)) _ after_ended

  ended_flag : is_flag (word_at b 4) ≡ true
  ended_flag = and_left (is_flag (word_at b 4)) _ after_mark

  events_flag : is_flag (word_at b 12) ≡ true
  events_flag = and_left (is_flag (word_at b 12)) _ after_outcome

  unused : unused_zero b ≡ true
  unused = and_right (is_flag (word_at b 12)) _ after_outcome

  spare : all_zero (take 440 (drop 68 b)) ≡ true
  unfolding unused_zero
  spare = and_left (all_zero (take 440 (drop 68 b))) _ unused

  by_end : cond (eqb (word_at b 4) 0) (all_zero (drop (word_at b 16) (room_of b))) (eqb (word_at b 7) 0 && (all_zero (take 20 (drop 48 b)) && all_zero (room_of b))) ≡ true
  unfolding unused_zero
  by_end = and_right (all_zero (take 440 (drop 68 b))) _ unused

  size : length b ≡ sealed_length
  size = row_length b (is_row b) refl row

  room_size : length (room_of b) ≡ room_length
  room_size = room_length_lem b size

  -- ---- an ended session
  module _ (e : word_at b 4 ≡ 1) where
    dead : (eqb (word_at b 7) 0 && (all_zero (take 20 (drop 48 b)) && all_zero (room_of b))) ≡ true
    dead = sym (ap (λ (w : ℕ). cond (eqb w 0) (all_zero (drop (word_at b 16) (room_of b))) (eqb (word_at b 7) 0 && (all_zero (take 20 (drop 48 b)) && all_zero (room_of b)))) e) ∙ by_end

    no_lines : word_at b 7 ≡ 0
    no_lines = eqb-true (word_at b 7) 0 (and_left (eqb (word_at b 7) 0) _ dead)

    five : take 20 (drop 48 b) ≡ replicate 20 0
    five =
        let n : length (take 20 (drop 48 b)) ≡ 20 = length-take-le 20 (drop 48 b) (omega (arith, length-drop 48 b, size)) in
        zero_list (take 20 (drop 48 b)) (and_left (all_zero (take 20 (drop 48 b))) (all_zero (room_of b)) (and_right (eqb (word_at b 7) 0) _ dead)) ∙ ap (λ (k : ℕ). replicate k 0) n

    room_dead : room_of b ≡ replicate room_length 0
    room_dead =
        zero_list (room_of b) (and_right (all_zero (take 20 (drop 48 b))) (all_zero (room_of b)) (and_right (eqb (word_at b 7) 0) _ dead)) ∙ ap (λ (k : ℕ). replicate k 0) room_size

    -- words 12 to 16
    past : (i : ℕ) → i < 5 → word_at b (12 + i) ≡ word_at (replicate 20 0) i
    past i h =
        let begun : length (take 48 b) ≡ 4 * 12 = length-take-le 48 b (omega (arith, size)) in
        let n : length (take 20 (drop 48 b)) ≡ 20 = length-take-le 20 (drop 48 b) (omega (arith, length-drop 48 b, size)) in
        ap (λ (l : List ℕ). word_at l (12 + i)) (sym (take-append-drop 48 b))
        ∙ word_past (take 48 b) (drop 48 b) 12 i begun
        ∙ ap (λ (l : List ℕ). word_at l i) (sym (take-append-drop 20 (drop 48 b)))
        ∙ word_within (take 20 (drop 48 b)) (drop 20 (drop 48 b)) i (omega (arith, n))
        ∙ ap (λ (l : List ℕ). word_at l i) five

    none_12 : word_at b 12 ≡ 0
    unfolding word_at
    none_12 = past 0 (omega arith)

    none_13 : word_at b 13 ≡ 0
    unfolding word_at
    none_13 = past 1 (omega arith)

    none_14 : word_at b 14 ≡ 0
    unfolding word_at
    none_14 = past 2 (omega arith)

    none_15 : word_at b 15 ≡ 0
    unfolding word_at
    none_15 = past 3 (omega arith)

    none_16 : word_at b 16 ≡ 0
    unfolding word_at
    none_16 = past 4 (omega arith)

    dead_words : head_words (word_at b 1) (session_in b) ≡ words_from b 1 16
    unfolding head_words session_in
    dead_words = λ i.
        word_at b 1 ∷ word_at b 2 ∷ word_at b 3 ∷ flag_word (word_at b 4) ended_flag i ∷ word_at b 5 ∷ word_at b 6 ∷ (is_dead (word_at b 7) ∙ sym no_lines) i ∷
        word_at b 8 ∷ word_at b 9 ∷ word_at b 10 ∷ word_at b 11 ∷
        (is_dead (flag (eqb (word_at b 12) 1)) ∙ sym none_12) i ∷ (is_dead (word_at b 13) ∙ sym none_13) i ∷ (is_dead (word_at b 14) ∙ sym none_14) i ∷
        (is_dead (word_at b 15) ∙ sym none_15) i ∷ (is_dead (word_at b 16) ∙ sym none_16) i ∷ []
      where
        is_dead : (w : ℕ) → cond (eqb (word_at b 4) 1) 0 w ≡ 0
        is_dead w = ap (λ (k : ℕ). cond (eqb k 1) 0 w) e

    dead_room : filled room_length (kept_bytes (session_in b)) ≡ room_of b
    unfolding kept_bytes session_in
    dead_room = ap (λ (k : ℕ). filled room_length (cond (eqb k 1) [] (held_of (word_at b 16) (take most_held (room_of b))))) e ∙ sym room_dead

  -- ---- a live one
  module _ (e : word_at b 4 ≡ 0) where
    live_words : head_words (word_at b 1) (session_in b) ≡ words_from b 1 16
    unfolding head_words session_in
    live_words = λ i.
        word_at b 1 ∷ word_at b 2 ∷ word_at b 3 ∷ flag_word (word_at b 4) ended_flag i ∷ word_at b 5 ∷ word_at b 6 ∷ is_live (word_at b 7) i ∷
        word_at b 8 ∷ word_at b 9 ∷ word_at b 10 ∷ word_at b 11 ∷
        (is_live (flag (eqb (word_at b 12) 1)) ∙ flag_word (word_at b 12) events_flag) i ∷ is_live (word_at b 13) i ∷ is_live (word_at b 14) i ∷
        is_live (word_at b 15) i ∷ is_live (word_at b 16) i ∷ []
      where
        is_live : (w : ℕ) → cond (eqb (word_at b 4) 1) 0 w ≡ w
        is_live w = ap (λ (k : ℕ). cond (eqb k 1) 0 w) e

    behind : all_zero (drop (word_at b 16) (room_of b)) ≡ true
    behind = sym (ap (λ (w : ℕ). cond (eqb w 0) (all_zero (drop (word_at b 16) (room_of b))) (eqb (word_at b 7) 0 && (all_zero (take 20 (drop 48 b)) && all_zero (room_of b)))) e) ∙ by_end

    few : word_at b 16 ≤ most_held
    unfolding session_in
    few = native_room (session_in b) both.1

    held_is : held_of (word_at b 16) (take most_held (room_of b)) ≡ take (word_at b 16) (room_of b)
    held_is =
        let n : length (take most_held (room_of b)) ≡ most_held = length-take-le most_held (room_of b) (omega (arith, room_size)) in
        held_plain (word_at b 16) (take most_held (room_of b)) (omega (arith, n, few)) ∙ take-take (word_at b 16) most_held (room_of b) few

    zeros : replicate (room_length - length (take (word_at b 16) (room_of b))) 0 ≡ drop (word_at b 16) (room_of b)
    zeros =
        let n : room_length - length (take (word_at b 16) (room_of b)) ≡ length (drop (word_at b 16) (room_of b)) =
        omega (arith, length-take (word_at b 16) (room_of b), length-drop (word_at b 16) (room_of b), room_size, few) in
        ap (λ (k : ℕ). replicate k 0) n ∙ sym (zero_list (drop (word_at b 16) (room_of b)) behind)

    live_room : filled room_length (kept_bytes (session_in b)) ≡ room_of b
    unfolding kept_bytes session_in
    live_room =
        ap (λ (k : ℕ). filled room_length (cond (eqb k 1) [] (held_of (word_at b 16) (take most_held (room_of b))))) e
        ∙ ap (filled room_length) held_is
        ∙ ap (λ (l : List ℕ). take (word_at b 16) (room_of b) ++ l) zeros
        ∙ take-append-drop (word_at b 16) (room_of b)

  -- ---- both
  by_flag : (t : Bool) → eqb (word_at b 4) 1 ≡ t → (head_words (word_at b 1) (session_in b) ≡ words_from b 1 16) × (filled room_length (kept_bytes (session_in b)) ≡ room_of b)
  by_flag true p = let e : word_at b 4 ≡ 1 = eqb-true (word_at b 4) 1 p in (dead_words e, dead_room e)
  by_flag false p = let e : word_at b 4 ≡ 0 = sym (flag_word (word_at b 4) ended_flag) ∙ ap flag p in (live_words e, live_room e)

  words : words_bytes (head_words (word_at b 1) (session_in b)) ≡ take 64 (drop 4 b)
  words = ap words_bytes (by_flag (eqb (word_at b 4) 1) refl).0 ∙ words_part b small 1 16 (omega (arith, size))

  block_0 : filled body_length (words_bytes (head_words (word_at b 1) (session_in b))) ≡ take body_length (drop 4 b)
  block_0 =
      let n : length (take 64 (drop 4 b)) ≡ 64 = length-take-le 64 (drop 4 b) (omega (arith, length-drop 4 b, size)) in
      let m : length (take 440 (drop 68 b)) ≡ 440 = length-take-le 440 (drop 68 b) (omega (arith, length-drop 68 b, size)) in
      let z : body_length - length (take 64 (drop 4 b)) ≡ length (take 440 (drop 68 b)) = omega (arith, n, m) in
      ap (filled body_length) words
      ∙ ap (λ (l : List ℕ). take 64 (drop 4 b) ++ l) (ap (λ (k : ℕ). replicate k 0) z ∙ sym (zero_list (take 440 (drop 68 b)) spare))
      ∙ side_by_side 64 440 4 b

  stored_again : b ≡ parked_of (word_at b 1) (session_in b)
  unfolding parked_of row_of
  stored_again =
      sym (row_again b small row)
      ∙ sym (ap₂ (λ (h r : List ℕ). sealed 0 h ++ sealed_all 1 17 r) block_0 (by_flag (eqb (word_at b 4) 1) refl).1)

pub only_parked : OnlyParked
only_parked b number small = stored_again b number small
