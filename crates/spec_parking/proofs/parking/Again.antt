-- A parked session, taken up: the blocks are sound, and they name what is remembered of it.
use Prim.Native.Nat.{ℕ, zero, suc, ◌+◌, ◌-◌, ◌%◌, ◌^◌, ◌≤◌, ◌<◌}
use mathlib.Core.Path.{◌≡◌, refl, ap, ap₂, sym, subst, ◌∙◌}
use mathlib.Core.Logic.{inl, inr}
use mathlib.Core.Bool.{Bool, true, false, ◌&&◌, cond}
use mathlib.Core.List.{List, [], ◌∷◌, ◌++◌, append_assoc, append-nil}
use lib.Dec.{eqb}
use lib.ListN.{length, get_or, take, drop, replicate, length-append, length-replicate}
use lib.Seq.{take-append_seam, drop-append_seam, take-length, take-append-add}
use native.Mathlib.Omega.{arith}
use borrow.Author.Tests.{eq-eqb}
use Rattle.spec_base.specs.base.Limits.{most_held}
use Rattle.spec_sheet.specs.checked_blocks.Block.{word_at, sum_words, block_holds}
use Rattle.spec_session.specs.declared.session_state.Session.{Session}
use Rattle.spec_session.specs.session_state.View.{held_of}
use Rattle.spec_machine.specs.session_counts.Session.{is_outcome}
use Rattle.spec_session.proofs.session_state.ViewLaws.{held_length}
use Rattle.spec_parking.specs.parking.Parked.{flag, head_words, kept_bytes, parked_of, is_mark, is_flag, unused_zero, is_parked, session_in, remembered}
use Rattle.spec_parking.specs.parking.Parkings.{Mark}
use Rattle.spec_parked_blocks.specs.parked_blocks.Sealed.{sealed_length, body_length, room_length, word_bytes, words_bytes, sealed, sealed_all, filled, row_of, all_hold, room_of, all_zero, is_row}
use Rattle.spec_parked_blocks.proofs.parked_blocks.Bytes.{Words, sealed_length_lem, block_holds_lem, all_hold_lem, bodies_back, head_word_lem, words_append, all_length, block_parts}
use Rattle.spec_parked_blocks.proofs.parked_blocks.WriteLaws.{filled_size, take_zeros}

-- ---- zeros
zeros : (n : ℕ) → all_zero (replicate n 0) ≡ true
unfolding all_zero
zeros zero = refl
zeros (suc n) = zeros n

filled_drop : (n : ℕ) (l : List ℕ) → drop (length l) (filled n l) ≡ replicate (n - length l) 0
filled_drop n l = drop-append_seam l (replicate (n - length l) 0)

filled_take : (n m : ℕ) (l : List ℕ) → length l ≤ m → m ≤ n → take m (filled n l) ≡ filled m l
filled_take n m l h q =
    let e : m ≡ length l + (m - length l) = omega arith in
    ap (λ (k : ℕ). take k (filled n l)) e ∙ take-append-add l (replicate (n - length l) 0) (m - length l)
    ∙ ap (λ (z : List ℕ). l ++ z) (take_zeros (m - length l) (n - length l) (omega arith))

module _ (k : ℕ) (s : Session) (mark : Mark k) (words : Words (head_words k s)) (outcome : is_outcome s.outcome ≡ true) (small : s.held_len ≤ most_held) where
  H : List ℕ
  H = head_words k s

  B : List ℕ
  B = filled body_length (words_bytes H)

  L : List ℕ
  L = filled room_length (kept_bytes s)

  P : List ℕ
  P = parked_of k s

  kept_length : length (kept_bytes s) ≡ cond s.ended 0 s.held_len
  unfolding kept_bytes
  kept_length = go s.ended
    where
      go : (t : Bool) → length (cond t [] (held_of s.held_len s.held)) ≡ cond t 0 s.held_len
      go true = refl
      go false = held_length s.held_len s.held

  kept_small : length (kept_bytes s) ≤ most_held
  kept_small = subst (λ (n : ℕ). n ≤ most_held) (sym kept_length) (go s.ended)
    where
      go : (t : Bool) → cond t 0 s.held_len ≤ most_held
      go true = omega arith
      go false = small

  head_count : length H ≡ 16
  unfolding H head_words
  head_count = refl

  words_count : length (words_bytes H) ≡ 64
  unfolding H head_words words_bytes word_bytes
  words_count = refl

  body_count : length B ≡ body_length
  unfolding B
  body_count = filled_size body_length (words_bytes H) (omega (arith, words_count))

  room_count : length L ≡ room_length
  unfolding L
  room_count = filled_size room_length (kept_bytes s) (omega (arith, kept_small))

  parked_is : P ≡ sealed 0 B ++ (sealed_all 1 17 L ++ [])
  unfolding P B L H parked_of row_of
  parked_is = ap (λ (l : List ℕ). sealed 0 B ++ l) (sym (append-nil (sealed_all 1 17 L)))

  word_at_lem : (i : ℕ) → i < 16 → word_at P (1 + i) ≡ get_or H i 0
  unfolding B H
  word_at_lem i h = ap (λ (l : List ℕ). word_at l (1 + i)) parked_is ∙ head_word_lem 0 H (replicate (body_length - length (words_bytes H)) 0) (sealed_all 1 17 L ++ []) i words (omega (arith, head_count))

  room_is : room_of P ≡ L
  room_is =
      ap room_of parked_is
      ∙ bodies_back (sealed 0 B) 1 17 L [] (sealed_length_lem 0 B body_count) (omega (arith, room_count))
      ∙ ap (λ (n : ℕ). take n L) (sym room_count) ∙ take-length L

  held_is : take most_held (room_of P) ≡ filled most_held (kept_bytes s)
  unfolding L
  held_is = ap (take most_held) room_is ∙ filled_take room_length most_held (kept_bytes s) kept_small (omega arith)

  flag_back : (t : Bool) → eqb (flag t) 1 ≡ t
  flag_back true = refl
  flag_back false = refl

  event_back : (t e : Bool) → eqb (cond t 0 (flag e)) 1 ≡ cond t false e
  event_back true e = refl
  event_back false true = refl
  event_back false false = refl

  -- what the blocks name is what is remembered
  pub session_is : session_in (parked_of k s) ≡ remembered s
  unfolding P session_in remembered H head_words
  session_is =
      λ i.
      record {
        config = record { kind = word_at_lem 1 (omega arith) i; timescale = word_at_lem 2 (omega arith) i };
        ended = (ap (λ (n : ℕ). eqb n 1) (word_at_lem 3 (omega arith)) ∙ flag_back s.ended) i;
        outcome = word_at_lem 4 (omega arith) i;
        taken = word_at_lem 5 (omega arith) i;
        lines = word_at_lem 6 (omega arith) i;
        counts = record { shifted = word_at_lem 7 (omega arith) i; clipped = word_at_lem 8 (omega arith) i; dropped = word_at_lem 9 (omega arith) i; passed = word_at_lem 10 (omega arith) i };
        columns = record {
          events = (ap (λ (n : ℕ). eqb n 1) (word_at_lem 11 (omega arith)) ∙ event_back s.ended s.columns.events) i;
          columns = word_at_lem 12 (omega arith) i;
          start = word_at_lem 13 (omega arith) i;
          «end» = word_at_lem 14 (omega arith) i;
        };
        held_len = word_at_lem 15 (omega arith) i;
        held = held_is i;
      }

  -- ---- no unused byte is other than zero
  zero_word : length (word_bytes 0) ≡ 4
  unfolding word_bytes
  zero_word = refl

  zero_tail : (r : List ℕ) → P ≡ (word_bytes 0 ++ words_bytes H) ++ (replicate 440 0 ++ r) → all_zero (take 440 (drop 68 P)) ≡ true
  zero_tail r e =
      let n : length (word_bytes 0 ++ words_bytes H) ≡ 68 = head_68 in
      ap (λ (l : List ℕ). all_zero (take 440 (drop 68 l))) e
      ∙ ap (λ (m : ℕ). all_zero (take 440 (drop m ((word_bytes 0 ++ words_bytes H) ++ (replicate 440 0 ++ r))))) (sym n)
      ∙ ap (λ (l : List ℕ). all_zero (take 440 l)) (drop-append_seam (word_bytes 0 ++ words_bytes H) (replicate 440 0 ++ r))
      ∙ zeros_front r
    where
      head_68 : length (word_bytes 0 ++ words_bytes H) ≡ 68
      head_68 = omega (arith, length-append (word_bytes 0) (words_bytes H), words_count, zero_word)

      zeros_front : (r : List ℕ) → all_zero (take 440 (replicate 440 0 ++ r)) ≡ true
      zeros_front r = ap (λ (m : ℕ). all_zero (take m (replicate 440 0 ++ r))) (sym (length-replicate {A = ℕ} 440 0)) ∙ ap all_zero (take-append_seam (replicate 440 0) r) ∙ zeros 440

  -- the words, the zeros of block 0, and what is behind them
  after : List ℕ
  after = word_bytes (sum_words (word_bytes 0 ++ B) 0 127 % 2 ^ 32) ++ (sealed_all 1 17 L ++ [])

  zero_count : body_length - length (words_bytes H) ≡ 440
  zero_count = omega (arith, words_count)

  body_is : B ≡ words_bytes H ++ replicate 440 0
  unfolding B
  body_is = ap (λ (n : ℕ). words_bytes H ++ replicate n 0) zero_count

  laid : P ≡ (word_bytes 0 ++ words_bytes H) ++ (replicate 440 0 ++ after)
  unfolding after
  laid =
      parked_is ∙ block_parts 0 B (sealed_all 1 17 L ++ [])
      ∙ ap (λ (l : List ℕ). (word_bytes 0 ++ l) ++ after) body_is
      ∙ regroup (word_bytes 0) (words_bytes H) (replicate 440 0) after
    where
      regroup : (a b c d : List ℕ) → (a ++ (b ++ c)) ++ d ≡ (a ++ b) ++ (c ++ d)
      regroup a b c d = simp append_assoc

  -- words 12 to 16, given whether the session has ended
  A : List ℕ
  A = k ∷ s.config.kind ∷ s.config.timescale ∷ flag s.ended ∷ s.outcome ∷ s.taken ∷ cond s.ended 0 s.lines ∷ s.counts.shifted ∷ s.counts.clipped ∷ s.counts.dropped ∷ s.counts.passed ∷ []

  Z : Bool → List ℕ
  Z t = cond t 0 (flag s.columns.events) ∷ cond t 0 s.columns.columns ∷ cond t 0 s.columns.start ∷ cond t 0 s.columns.«end» ∷ cond t 0 s.held_len ∷ []

  head_parts : H ≡ A ++ Z s.ended
  unfolding H head_words A Z
  head_parts = refl

  first_count : length (word_bytes 0 ++ words_bytes A) ≡ 48
  unfolding A words_bytes word_bytes
  first_count = refl

  last_count : (t : Bool) → length (words_bytes (Z t)) ≡ 20
  unfolding Z words_bytes word_bytes
  last_count t = refl

  zero_five : all_zero (words_bytes (Z true)) ≡ true
  unfolding Z words_bytes word_bytes all_zero
  zero_five = refl

  five : (r : List ℕ) → P ≡ (word_bytes 0 ++ words_bytes H) ++ r → take 20 (drop 48 P) ≡ words_bytes (Z s.ended)
  five r e =
      let g : P ≡ (word_bytes 0 ++ words_bytes A) ++ (words_bytes (Z s.ended) ++ r) =
      e ∙ ap (λ (l : List ℕ). (word_bytes 0 ++ l) ++ r) (ap words_bytes head_parts ∙ words_append A (Z s.ended)) ∙ regroup (word_bytes 0) (words_bytes A) (words_bytes (Z s.ended)) r in
      ap (λ (l : List ℕ). take 20 (drop 48 l)) g
      ∙ ap (λ (m : ℕ). take 20 (drop m ((word_bytes 0 ++ words_bytes A) ++ (words_bytes (Z s.ended) ++ r)))) (sym first_count)
      ∙ ap (take 20) (drop-append_seam (word_bytes 0 ++ words_bytes A) (words_bytes (Z s.ended) ++ r))
      ∙ ap (λ (m : ℕ). take m (words_bytes (Z s.ended) ++ r)) (sym (last_count s.ended)) ∙ take-append_seam (words_bytes (Z s.ended)) r
    where
      regroup : (a b c d : List ℕ) → (a ++ (b ++ c)) ++ d ≡ (a ++ b) ++ (c ++ d)
      regroup a b c d = simp append_assoc

  room_behind : s.ended ≡ false → all_zero (drop s.held_len (room_of P)) ≡ true
  unfolding L
  room_behind e =
      let n : s.held_len ≡ length (kept_bytes s) = sym (kept_length ∙ ap (λ (t : Bool). cond t 0 s.held_len) e) in
      ap₂ (λ (i : ℕ) (l : List ℕ). all_zero (drop i l)) n room_is ∙ ap all_zero (filled_drop room_length (kept_bytes s)) ∙ zeros (room_length - length (kept_bytes s))

  room_none : s.ended ≡ true → all_zero (room_of P) ≡ true
  unfolding L kept_bytes
  room_none e = ap all_zero (room_is ∙ ap (λ (t : Bool). filled room_length (cond t [] (held_of s.held_len s.held))) e) ∙ zeros room_length

  unused_by : (t : Bool) → s.ended ≡ t → cond (eqb (word_at P 4) 0) (all_zero (drop (word_at P 16) (room_of P))) (eqb (word_at P 7) 0 && (all_zero (take 20 (drop 48 P)) && all_zero (room_of P))) ≡ true
  unfolding H head_words
  unused_by true e =
      let four : word_at P 4 ≡ 1 = word_at_lem 3 (omega arith) ∙ ap flag e in
      let seven : word_at P 7 ≡ 0 = word_at_lem 6 (omega arith) ∙ ap (λ (t : Bool). cond t 0 s.lines) e in
      let z : all_zero (take 20 (drop 48 P)) ≡ true = ap all_zero (five (replicate 440 0 ++ after) laid ∙ ap (λ (t : Bool). words_bytes (Z t)) e) ∙ zero_five in
      rw (four, seven, z, room_none e)
  unused_by false e =
      let four : word_at P 4 ≡ 0 = word_at_lem 3 (omega arith) ∙ ap flag e in
      let sixteen : word_at P 16 ≡ s.held_len = word_at_lem 15 (omega arith) ∙ ap (λ (t : Bool). cond t 0 s.held_len) e in
      rw (four, sixteen) (room_behind e)

  unused : unused_zero P ≡ true
  unfolding unused_zero
  unused = rw (zero_tail after laid) (unused_by s.ended refl)

  mark_is : is_mark (word_at P 1) ≡ true
  unfolding H head_words
  mark_is = ap is_mark (word_at_lem 0 (omega arith)) ∙ go mark
    where
      go : Mark k → is_mark k ≡ true
      go (inl e) = ap is_mark e
      go (inr e) = ap is_mark e

  flag_is : (t : Bool) → is_flag (flag t) ≡ true
  flag_is true = refl
  flag_is false = refl

  event_is : (t e : Bool) → is_flag (cond t 0 (flag e)) ≡ true
  event_is true e = refl
  event_is false e = flag_is e

  all_sealed : all_hold P 0 18 ≡ true
  unfolding all_hold
  all_sealed =
      let one : block_holds P 0 ≡ true = ap (λ (l : List ℕ). block_holds l 0) parked_is ∙ block_holds_lem [] 0 B (sealed_all 1 17 L ++ []) refl (omega arith) body_count in
      let two : all_hold P 1 17 ≡ true = ap (λ (l : List ℕ). all_hold l 1 17) parked_is ∙ all_hold_lem (sealed 0 B) 1 17 L [] (sealed_length_lem 0 B body_count) (omega arith) (omega (arith, room_count)) in
      rw (one) two

  pub whole_length : length (parked_of k s) ≡ sealed_length
  unfolding P
  whole_length =
      ap length parked_is
      ∙ omega (arith, length-append (sealed 0 B) (sealed_all 1 17 L ++ []), length-append (sealed_all 1 17 L) [], sealed_length_lem 0 B body_count, all_length 1 17 L (omega (arith, room_count)))

  pub parked_sound : is_parked (parked_of k s) ≡ true
  unfolding P is_parked is_row H head_words
  parked_sound =
      let f4 : is_flag (word_at P 4) ≡ true = ap is_flag (word_at_lem 3 (omega arith)) ∙ flag_is s.ended in
      let o5 : is_outcome (word_at P 5) ≡ true = ap is_outcome (word_at_lem 4 (omega arith)) ∙ outcome in
      let f12 : is_flag (word_at P 12) ≡ true = ap is_flag (word_at_lem 11 (omega arith)) ∙ event_is s.ended s.columns.events in
      rw (eq-eqb _ _ whole_length, all_sealed, mark_is, f4, o5, f12, unused)
