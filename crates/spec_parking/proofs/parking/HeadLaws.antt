-- Laws of a session taken in by its numbers, and stored in the place of another.
use Prim.Native.Nat.{ℕ, ◌+◌, ◌-◌, ◌*◌, ◌≤◌, ◌<◌, max}
use mathlib.Core.Path.{◌≡◌, refl, ap, ap₂, sym, ◌∙◌}
use mathlib.Core.Bool.{Bool, true, false, ◌&&◌, cond, true≢false}
use mathlib.Core.List.{List, []}
use lib.Dec.{eqb, leb}
use lib.ListN.{length, take, drop, drop_of_length-le}
use lib.Seq.{length-take-le, take-take, drop-drop}
use native.Mathlib.Omega.{arith}
use borrow.Author.Tests.{le-leb, lt-leb, leb-true, leb-false}
use Rattle.spec_base.specs.base.Limits.{most_held}
use Rattle.spec_base.specs.base.Refusal.{◌or_else◌, fault_unless}
use Rattle.spec_base.specs.base.Put.{put}
use Rattle.spec_base.proofs.base.Laws.{and_left, and_right}
use Rattle.spec_base.proofs.base.PutLaws.{put_nil, take_put}
use Rattle.spec_sheet.specs.checked_blocks.Block.{word_at}
use Rattle.spec_ass.specs.declared.ass_columns.Columns.{Columns}
use Rattle.spec_caption.specs.declared.caption_fate.Config.{Config}
use Rattle.spec_machine.specs.declared.session_counts.Counts.{Counts}
use Rattle.spec_machine.specs.session_counts.Session.{is_outcome}
use Rattle.spec_machine.specs.session_counts.Session as model
use Rattle.spec_session.specs.declared.session_state.Session.{Session}
use Rattle.spec_session.specs.declared.session_state.Head.{Head}
use Rattle.spec_session.specs.session_state.Head.{head_of}
use Rattle.spec_session.specs.session_state.View.{held_of, stored}
use Rattle.spec_session.proofs.session_state.ViewLaws.{held_padded}
use Rattle.spec_parked_blocks.specs.parked_blocks.Sealed.{sealed_length, body_length, room_length, row_of, room_of, all_zero, is_row}
use Rattle.spec_parked_blocks.specs.parked_blocks.First.{blocks_for, first_blocks, first_in, first_room, short_row, unsealed_first}
use Rattle.spec_parked_blocks.proofs.parked_blocks.ReadLaws.{row_length, room_length_lem}
use Rattle.spec_parked_blocks.proofs.parked_blocks.WriteLaws.{blocks_few}
use Rattle.spec_parked_blocks.proofs.parked_blocks.FirstLaws.{zero_drop, first_over}
use Rattle.spec_parking.specs.parking.Parked.{kept_bytes, parked_of, is_mark, is_flag, unused_zero, is_parked, session_in}
use Rattle.spec_parking.specs.parking.Head.{head_numbers, head_in, in_number, copied_in, TakesIn, head_bytes, restored}
use Rattle.spec_parking.proofs.parking.StoreLaws.{head_length, same_words}

-- ---- how far blocks reach
blocks_reach : (m : ℕ) → body_length * blocks_for m < m → room_length ≤ body_length * blocks_for m
unfolding blocks_for
blocks_reach m h = omega arith

blocks_hold : (n m : ℕ) → n ≤ m → n ≤ room_length → n ≤ body_length * blocks_for m
unfolding blocks_for
blocks_hold n m h k = omega arith

-- ---- a parked session has nothing but zeros behind the blocks that its held bytes take
module _ (b : List ℕ) (e : is_parked b ≡ true) where
  pub parked_row : is_row b ≡ true
  unfolding is_parked
  parked_row = and_left (is_row b) _ e

  unused : unused_zero b ≡ true
  unfolding is_parked
  unused =
      let tests = and_right (is_row b) (is_mark (word_at b 1) && (is_flag (word_at b 4) && (is_outcome (word_at b 5) && (is_flag (word_at b 12) && unused_zero b)))) e in
      let words = and_right (is_mark (word_at b 1)) (is_flag (word_at b 4) && (is_outcome (word_at b 5) && (is_flag (word_at b 12) && unused_zero b))) tests in
      let flags = and_right (is_flag (word_at b 4)) (is_outcome (word_at b 5) && (is_flag (word_at b 12) && unused_zero b)) words in
      and_right (is_flag (word_at b 12)) (unused_zero b) (and_right (is_outcome (word_at b 5)) (is_flag (word_at b 12) && unused_zero b) flags)

  room_size : length (room_of b) ≡ room_length
  room_size = room_length_lem b (row_length b (is_row b) refl parked_row)

  behind : all_zero (drop (word_at b 16) (room_of b)) ≡ true
  unfolding unused_zero
  behind = go (eqb (word_at b 4) 0) (and_right (all_zero (take 440 (drop 68 b))) _ unused)
    where
      go : (t : Bool) → cond t (all_zero (drop (word_at b 16) (room_of b))) (eqb (word_at b 7) 0 && (all_zero (take 20 (drop 48 b)) && all_zero (room_of b))) ≡ true → all_zero (drop (word_at b 16) (room_of b)) ≡ true
      go true h = h
      go false h = zero_drop (word_at b 16) (room_of b) (and_right (all_zero (take 20 (drop 48 b))) (all_zero (room_of b)) (and_right (eqb (word_at b 7) 0) _ h))

  rest_zero : (d : ℕ) → (d < word_at b 16 → room_length ≤ d) → all_zero (drop d (room_of b)) ≡ true
  unfolding all_zero
  rest_zero d h = go (leb (word_at b 16) d) refl
    where
      go : (t : Bool) → leb (word_at b 16) d ≡ t → all_zero (drop d (room_of b)) ≡ true
      go true p =
          let z : d ≡ word_at b 16 + (d - word_at b 16) = omega (arith, leb-true (word_at b 16) d p) in
          ap (λ (k : ℕ). all_zero (drop k (room_of b))) z ∙ ap all_zero (sym (drop-drop (d - word_at b 16) (word_at b 16) (room_of b))) ∙ zero_drop (d - word_at b 16) (drop (word_at b 16) (room_of b)) behind
      go false p =
          let past : length (room_of b) ≤ d = omega (arith, room_size, h (leb-false (word_at b 16) d p)) in
          ap all_zero (drop_of_length-le (room_of b) past)

  pub parked_short : (m : ℕ) → word_at b 16 ≤ m → short_row b (blocks_for m) ≡ true
  unfolding short_row
  parked_short m h =
      let far : body_length * blocks_for m < word_at b 16 → room_length ≤ body_length * blocks_for m = λ q. blocks_reach m (omega arith) in
      let zeros : all_zero (drop (body_length * blocks_for m) (room_of b)) ≡ true = rest_zero (body_length * blocks_for m) far in
      λ i. parked_row i && zeros i

-- ---- the number, and what is copied
module _ (b room : List ℕ) where
  pub in_16 : length room < room_length → 16 ≡ in_number b (length room)
  unfolding in_number fault_unless ◌or_else◌
  in_16 h = rw (lt-leb room_length (length room) h)

  pub copied_16 : length room < room_length → room ≡ put (copied_in b (length room)) room
  unfolding copied_in unsealed_first
  copied_16 h = go (short_row b (blocks_for (word_at b 16)))
    where
      go : (t : Bool) → room ≡ put (cond (t && leb room_length (length room)) (first_room (word_at b 16) b) []) room
      go true = rw (lt-leb room_length (length room) h) (sym (put_nil room))
      go false = sym (put_nil room)

  module _ (long : room_length ≤ length room) (n : ℕ) (g : n ≡ word_at b 16) (t : Bool) (e : t ≡ unsealed_first b n (length room)) where
    by_parked : (p : Bool) → is_parked b ≡ p → fault_unless p 27 ≡ in_number b (length room)
    unfolding in_number fault_unless ◌or_else◌
    by_parked p f = rw (le-leb room_length (length room) long, f)

    and_one : (u : Bool) → (u && true) ≡ u
    and_one true = refl
    and_one false = refl

    handed : unsealed_first b n (length room) ≡ short_row b (blocks_for (word_at b 16))
    unfolding unsealed_first
    handed =
        ap (λ (i : ℕ). short_row b (blocks_for i) && leb room_length (length room)) g
        ∙ ap (λ (u : Bool). short_row b (blocks_for (word_at b 16)) && u) (le-leb room_length (length room) long)
        ∙ and_one (short_row b (blocks_for (word_at b 16)))

    pub in_27 : t ≡ false → 27 ≡ in_number b (length room)
    unfolding fault_unless
    in_27 f = by_parked false (go (is_parked b) refl)
      where
        go : (p : Bool) → is_parked b ≡ p → is_parked b ≡ false
        go true q = absurd (true≢false (sym (parked_short b q (word_at b 16) (omega arith)) ∙ sym handed ∙ sym e ∙ f))
        go false q = q

    pub copied_is : (xs : List ℕ) → xs ≡ put (cond t (first_room n b) []) room → xs ≡ put (copied_in b (length room)) room
    unfolding copied_in
    copied_is xs x = x ∙ (λ i. put (cond ((e ∙ ap (λ (j : ℕ). unsealed_first b j (length room)) g) i) (first_room (g i) b) []) room)

    module _ (f : t ≡ true) where
      short : short_row b (blocks_for n) ≡ true
      unfolding unsealed_first
      short = and_left (short_row b (blocks_for n)) (leb room_length (length room)) (sym e ∙ f)

      pub in_row : is_row b ≡ true
      unfolding short_row
      in_row = and_left (is_row b) _ short

      module _ (k : ℕ) (xs part : List ℕ) (m : k ≡ blocks_for n) (x : xs ≡ put (cond t (first_room n b) []) room) (q : part ≡ take (504 * k) xs) where
        size : length (first_room n b) ≡ body_length * blocks_for n
        unfolding first_room
        size = length-take-le (body_length * blocks_for n) (room_of b) (omega (arith, room_length_lem b (row_length b (is_row b) refl in_row), blocks_few n (blocks_for n) refl))

        part_is : part ≡ first_room n b
        part_is =
            let z : 504 * k ≡ length (first_room n b) = omega (arith, size, m) in
            q ∙ ap₂ take z (x ∙ ap (λ (u : Bool). put (cond u (first_room n b) []) room) f) ∙ take_put (first_room n b) room

        part_size : length part ≡ body_length * blocks_for n
        part_size = ap length part_is ∙ size

        pub in_shows : part ≡ take (length part) (room_of b)
        unfolding first_room
        in_shows = part_is ∙ ap (λ (j : ℕ). take j (room_of b)) (sym part_size)

        pub in_rest : all_zero (drop (length part) (room_of b)) ≡ true
        unfolding short_row
        in_rest = ap (λ (j : ℕ). all_zero (drop j (room_of b))) part_size ∙ and_right (is_row b) _ short

      pub in_0 : (p : Bool) → p ≡ is_parked b → p ≡ true → 0 ≡ in_number b (length room)
      unfolding fault_unless
      in_0 p h z = by_parked true (sym h ∙ z)

      pub in_unsound : (p : Bool) → p ≡ is_parked b → p ≡ false → 27 ≡ in_number b (length room)
      unfolding fault_unless
      in_unsound p h z = by_parked false (sym h ∙ z)

-- ---- the numbers
pub head_made : (s : List ℕ) (g : Config) (n : Counts) (m : Columns) (e o t l h : ℕ)
    → g ≡ (session_in s).config → n ≡ (session_in s).counts → m ≡ (session_in s).columns
    → e ≡ word_at s 4 → o ≡ word_at s 5 → t ≡ word_at s 6 → l ≡ word_at s 7 → h ≡ word_at s 16
    → ◌≡◌ {A = Head} (record { config = g; ended = eqb e 1; outcome = o; taken = t; lines = l; counts = n; columns = m; held_len = h }) (head_in s)
unfolding head_in session_in
head_made s g n m e o t l h a b c p4 p5 p6 p7 p16 =
    λ i. record { config = a i; ended = eqb (p4 i) 1; outcome = p5 i; taken = p6 i; lines = p7 i; counts = b i; columns = c i; held_len = p16 i }

pub length_in : (s : List ℕ) (h : Head) → h ≡ head_in s → h.held_len ≡ word_at s 16
unfolding head_in session_in
length_in s h e = ap (λ (x : Head). x.held_len) e

pub taken_in_lem : (b : List ℕ) (h : Head) (k : ℕ) (room room' : List ℕ) → h ≡ head_in b → k ≡ in_number b (length room) → room' ≡ put (copied_in b (length room)) room
    → TakesIn b (record { number = k; head = h }) room room'
taken_in_lem b h k room room' e f g = record { number = f; head = e; bytes = g }

-- the held bytes stand at the start
pub held_stands : (b room room' : List ℕ) → is_parked b ≡ true → room_length ≤ length room → room' ≡ put (copied_in b (length room)) room → word_at b 16 ≤ most_held
    → take (word_at b 16) room' ≡ take (word_at b 16) (session_in b).held
unfolding copied_in unsealed_first first_room session_in
held_stands b room room' e long f few =
    let w = word_at b 16 in
    let R = room_of b in
    let d = body_length * blocks_for w in
    let yes : (short_row b (blocks_for w) && leb room_length (length room)) ≡ true = λ i. parked_short b e w (omega arith) i && le-leb room_length (length room) long i in
    let size : length (take d R) ≡ d = length-take-le d R (omega (arith, room_size b e, blocks_few w (blocks_for w) refl)) in
    let reach : w ≤ d = blocks_hold w w (omega arith) (omega arith) in
    let start : take d room' ≡ take d R =
    ap (λ (j : ℕ). take j room') (sym size) ∙ ap (take (length (take d R))) (f ∙ ap (λ (u : Bool). put (cond u (take d R) []) room) yes) ∙ take_put (take d R) room in
    sym (take-take w d room' reach) ∙ ap (take w) start ∙ take-take w d R reach ∙ sym (take-take w most_held R few)

-- ---- stored
pub restored_made : (b held words out : List ℕ) (h : Head) (old n : ℕ) → words ≡ head_bytes h → n ≡ max (length held) old → out ≡ put (first_in (length b) n words held) b → out ≡ restored h held old b
unfolding restored
restored_made b held words out h old n e f g = g ∙ ap₂ (λ (i : ℕ) (w : List ℕ). put (first_in (length b) i w held) b) f e

-- over a parked session
module _ (b held : List ℕ) (h : Head) (old : ℕ) (e : is_parked b ≡ true) (o : old ≡ word_at b 16) (small : length held ≤ room_length) where
  abbrev most : ℕ
  most = max (length held) old

  restored_row : restored h held old b ≡ put (row_of (head_bytes h) held) b
  unfolding restored first_in
  restored_row =
      let lent : sealed_length ≤ length b = omega (arith, row_length b (is_row b) refl (parked_row b e)) in
      let short : length (head_bytes h) ≤ body_length = omega (arith, head_length h) in
      (λ i. put (cond (le-leb sealed_length (length b) lent i && (le-leb (length (head_bytes h)) body_length short i && le-leb (length held) room_length small i)) (first_blocks (blocks_for most) (head_bytes h) held) []) b)
      ∙ first_over b (head_bytes h) held (blocks_for most) (blocks_few most (blocks_for most) refl) short (blocks_hold (length held) most (omega arith) small) (parked_short b e most (omega (arith, o)))

  -- the session s: these words, and these bytes held
  pub restored_is : (s : Session) → head_bytes h ≡ head_bytes (head_numbers s) → kept_bytes s ≡ held → restored h held old b ≡ put (parked_of 2 s) b
  unfolding parked_of
  restored_is s p q = restored_row ∙ ap₂ (λ (x y : List ℕ). put (row_of x y) b) (p ∙ same_words s) (sym q)

-- the model's session t, whose held bytes are none once ended
pub restored_stored : (b : List ℕ) (t : model.Session Columns) (old : ℕ) → is_parked b ≡ true → old ≡ word_at b 16 → length t.held ≤ most_held → (t.ended ≡ true → t.held ≡ [])
    → restored (head_of t) t.held old b ≡ put (parked_of 2 (stored t)) b
unfolding stored kept_bytes
restored_stored b t old e o few none = restored_is b t.held (head_of t) old e o (omega arith) (stored t) refl (go t.ended refl)
  where
    go : (u : Bool) → t.ended ≡ u → kept_bytes (stored t) ≡ t.held
    go true p = ap (λ (x : Bool). cond x [] (held_of (length t.held) (stored t).held)) p ∙ sym (none p)
    go false p = ap (λ (x : Bool). cond x [] (held_of (length t.held) (stored t).held)) p ∙ held_padded t.held few
