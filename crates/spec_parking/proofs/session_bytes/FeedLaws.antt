-- Laws of `feed`: the text that is made of the held bytes and the piece, and the call that its answer is.
use mathlib.Core.Path.{◌≡◌, refl, sym, ap, ap₂, subst, ◌∙◌}
use mathlib.Core.Logic.{◌⊎◌, inl, inr}
use mathlib.Core.Bool.{Bool, true, false, ◌||◌, cond, true≢false}
use mathlib.Core.List.{List, [], ◌∷◌, ◌++◌, append_assoc}
use Prim.Native.Nat.{ℕ, ◌+◌, ◌-◌, ◌*◌, ◌/◌, ◌≤◌, ◌<◌}
use lib.Dec.{eqb, leb, ltb}
use lib.ListN.{length, take, drop, length-append, length-take}
use lib.Seq.{length-take-le, take_all, take-take, take_at, drop_at}
use native.Mathlib.Omega.{arith}
use borrow.Author.Tests.{ne_eqb, le-leb, lt-leb, le-ltb, leb-true, leb-false, ltb-false}
use Rattle.spec_base.specs.base.Limits.{most_piece, most_held, most_taken, least_output, least_places}
use Rattle.spec_base.specs.base.Refusal.{◌or_else◌, fault_unless}
use Rattle.spec_base.specs.base.Put.{put, put_at, placed_at, place_after}
use Rattle.spec_base.proofs.base.Laws.{or_left, or_right}
use Rattle.spec_base.proofs.base.RefusalLaws.{else_found}
use Rattle.spec_base.proofs.base.PutLaws.{put_nil, length_put, at_yes, after_yes}
use Rattle.spec_sheet.specs.checked_blocks.Block.{word_at}
use Rattle.spec_map.specs.segment.Segment.{map_bad}
use Rattle.spec_caption.specs.caption_fate.Emit.{Emit, output_of, warnings_of, places_of}
use Rattle.spec_ass.specs.declared.ass_columns.Columns.{Columns}
use Rattle.spec_machine.specs.session_counts.Machine.{Run, going, stopped, run}
use Rattle.spec_machine.specs.session_counts.Session.{Gate, refuse, admit, gate, foreign, respond, settle, resume}
use Rattle.spec_machine.specs.session_counts.Session as model
use Rattle.spec_machine.specs.kinds.Takes.{State, machine_of}
use Rattle.spec_machine.specs.kinds.Kit.{kit}
use Rattle.spec_session.specs.declared.session_state.Session.{Session}
use Rattle.spec_session.specs.declared.session_state.Head.{Head}
use Rattle.spec_session.specs.session_state.Head.{head_of}
use Rattle.spec_session.specs.session_state.View.{held_of, view, stored, foreign_of}
use Rattle.spec_session.proofs.session_state.ViewLaws.{held_plain, native_view}
use Rattle.spec_session.proofs.session_state.ForeignLaws.{foreign_large}
use Rattle.spec_session.specs.declared.session.Fed.{Fed}
use Rattle.spec_session.specs.session.SessionCalls.{feed_call, answer_of, session_gate, gate_number, lengths_bad, next_by, next_of, Answered}
use Rattle.spec_session.proofs.session.CallLaws.{gate_passed, answer_by, settled_small}
use Rattle.spec_session.specs.declared.session_text.TextFed.{TextFed}
use Rattle.spec_session.specs.session_text.Answer.{text_session, text_bad, text_gate, text_answer, head_by, kept_by, text_head, text_kept, TextTells, TextAnswered}
use Rattle.spec_parked_blocks.specs.parked_blocks.Sealed.{sealed_length, room_length, body_length, room_of, is_row}
use Rattle.spec_parked_blocks.specs.parked_blocks.First.{blocks_for, first_room, unsealed_first}
use Rattle.spec_parked_blocks.proofs.parked_blocks.ReadLaws.{row_length, room_length_lem}
use Rattle.spec_parking.specs.declared.parking.TakenUp.{TakenUp}
use Rattle.spec_parking.specs.declared.parking.TakenIn.{TakenIn}
use Rattle.spec_parking.specs.parking.Parked.{parked_of, is_parked, session_in}
use Rattle.spec_parking.specs.parking.Parkings.{take_number, keep_number, when_done, TakesUp}
use Rattle.spec_parking.specs.parking.Head.{head_in, in_number, copied_in, TakesIn, restored}
use Rattle.spec_parking.proofs.parking.HeadLaws.{parked_row, held_stands, restored_stored}
use Rattle.spec_parking.specs.declared.session_bytes.Told.{Told}
use Rattle.spec_parking.specs.declared.session_bytes.TextIn.{TextIn}
use Rattle.spec_parking.specs.session_bytes.ByteCalls.{refuses, call_number, kept_next, Called}
use Rattle.spec_parking.specs.session_bytes.Text.{feed_number, feed_text, TakesText, kept_text}
use Rattle.spec_parking.proofs.session_bytes.NumberLaws.{take_refuses}
use Rattle.spec_parking.proofs.session_bytes.CallLaws.{refused_is, call_made}

-- ---- the number of the text
by_test : (p : Bool) (k : ℕ) → (p ≡ true → k ≡ 0) → (k ≡ 0 → ⊥) → p ≡ false
by_test true k f h = absurd (h (f refl))
by_test false k f h = refl

module _ (b : List ℕ) where
  pub unsound_27 : is_parked b ≡ false → feed_number b ≡ 27
  unfolding feed_number fault_unless ◌or_else◌
  unsound_27 e = rw e

  sound_is : is_parked b ≡ true → feed_number b ≡ fault_unless (leb (word_at b 16) most_held) 17
  unfolding feed_number fault_unless ◌or_else◌
  sound_is e = rw e

  pub large_17 : is_parked b ≡ true → most_held < word_at b 16 → feed_number b ≡ 17
  unfolding fault_unless
  large_17 e h = sound_is e ∙ ap (λ (t : Bool). fault_unless t 17) (lt-leb (word_at b 16) most_held h)

  pub small_0 : is_parked b ≡ true → word_at b 16 ≤ most_held → feed_number b ≡ 0
  unfolding fault_unless
  small_0 e h = sound_is e ∙ ap (λ (t : Bool). fault_unless t 17) (le-leb (word_at b 16) most_held h)

  -- what 0 says
  zero_says : (p q : Bool) → is_parked b ≡ p → leb (word_at b 16) most_held ≡ q → (fault_unless p 27 or_else fault_unless q 17) ≡ 0 → (is_parked b ≡ true) × (word_at b 16 ≤ most_held)
  unfolding fault_unless ◌or_else◌
  zero_says false q e f z = absurd (let y : ◌≡◌ {A = ℕ} 27 0 = z in omega arith)
  zero_says true false e f z = absurd (let y : ◌≡◌ {A = ℕ} 17 0 = z in omega arith)
  zero_says true true e f z = (e, leb-true (word_at b 16) most_held f)

  text_zero : feed_number b ≡ 0 → (is_parked b ≡ true) × (word_at b 16 ≤ most_held)
  unfolding feed_number
  text_zero z = zero_says (is_parked b) (leb (word_at b 16) most_held) refl refl z

  -- a number that is not 0 is take_up's
  large_foreign : most_held < word_at b 16 → foreign_of (session_in b) ≡ true
  unfolding session_in
  large_foreign h = sym (foreign_large (session_in b) h)

  number_says : (p q : Bool) → is_parked b ≡ p → leb (word_at b 16) most_held ≡ q → ((fault_unless p 27 or_else fault_unless q 17) ≡ 0 → ⊥) → (fault_unless p 27 or_else fault_unless q 17) ≡ take_number b
  unfolding take_number fault_unless ◌or_else◌
  number_says false q e f z = rw e
  number_says true false e f z = let g = large_foreign (past f) in rw (e, g)
    where
      past : leb (word_at b 16) most_held ≡ false → most_held < word_at b 16
      past x = leb-false (word_at b 16) most_held x
  number_says true true e f z = absurd (z refl)

  pub text_take : (feed_number b ≡ 0 → ⊥) → feed_number b ≡ take_number b
  unfolding feed_number
  text_take z = number_says (is_parked b) (leb (word_at b 16) most_held) refl refl z

-- ---- the text is made
copied_short : (b room : List ℕ) → is_parked b ≡ true → length (copied_in b (length room)) ≤ room_length
unfolding copied_in first_room
copied_short b room e = go (unsealed_first b (word_at b 16) (length room))
  where
    go : (t : Bool) → length (cond t (take (body_length * blocks_for (word_at b 16)) (room_of b)) []) ≤ room_length
    go true = omega (arith, length-take (body_length * blocks_for (word_at b 16)) (room_of b), room_length_lem b (row_length b (is_row b) refl (parked_row b e)))
    go false = omega arith

room_held : (b : List ℕ) → word_at b 16 ≤ most_held → take (word_at b 16) (session_in b).held ≡ take (word_at b 16) (room_of b)
unfolding session_in
room_held b h = take-take (word_at b 16) most_held (room_of b) h

module _ (b piece room room₁ : List ℕ) (up : TakenIn) (long : 9216 ≤ length room) (u : TakesIn b up room room₁) where
  number_in_lem : up.number ≡ fault_unless (is_parked b) 27
  unfolding in_number fault_unless ◌or_else◌
  number_in_lem = u.number ∙ ap (λ (t : Bool). fault_unless t 16 or_else fault_unless (is_parked b) 27) (le-leb room_length (length room) (omega arith))

  unparked : (up.number ≡ 0 → ⊥) → is_parked b ≡ false
  unfolding fault_unless
  unparked h = by_test (is_parked b) up.number (λ e. number_in_lem ∙ ap (λ (t : Bool). fault_unless t 27) e) h

  parked : up.number ≡ 0 → is_parked b ≡ true
  unfolding fault_unless
  parked z = go (is_parked b) refl
    where
      go : (t : Bool) → is_parked b ≡ t → is_parked b ≡ true
      go true e = e
      go false e = absurd (let y : ◌≡◌ {A = ℕ} 27 0 = sym (number_in_lem ∙ ap (λ (t : Bool). fault_unless t 27) e) ∙ z in omega arith)

  held_in : up.head.held_len ≡ word_at b 16
  unfolding head_in session_in
  held_in = ap (λ (h : Head). h.held_len) u.head

  none : (k : ℕ) → (k ≡ 0 → ⊥) → take 0 room₁ ≡ cond (eqb k 0) (feed_text b piece) []
  none k h = sym (ap (λ (t : Bool). cond t (feed_text b piece) []) (ne_eqb k 0 h))

  pub text_27 : (up.number ≡ 0 → ⊥) → TakesText b piece (record { number = up.number; length = 0; head = up.head }) room₁
  unfolding fault_unless
  text_27 h =
      record {
        number = number_in_lem ∙ ap (λ (t : Bool). fault_unless t 27) (unparked h) ∙ sym (unsound_27 b (unparked h));
        head = u.head;
        text = none up.number h;
      }

  module _ (z : up.number ≡ 0) where
    pub text_17 : most_held < up.head.held_len → TakesText b piece (record { number = 17; length = 0; head = up.head }) room₁
    text_17 h =
        record {
          number = sym (large_17 b (parked z) (omega (arith, held_in)));
          head = u.head;
          text = none 17 (λ e. omega arith);
        }

    module _ (few : up.head.held_len ≤ most_held) (v room₂ : List ℕ) (n : ℕ) (ev : v ≡ take 1024 piece) (en : n ≡ place_after up.head.held_len v room₁) (er : room₂ ≡ placed_at up.head.held_len v room₁) where
      m : ℕ
      m = up.head.held_len

      grown : length room₁ ≡ length room
      grown = ap length u.bytes ∙ length_put (copied_in b (length room)) room (omega (arith, copied_short b room (parked z)))

      fits : m + length v ≤ length room₁
      unfolding m
      fits = omega (arith, grown, ap length ev, length-take 1024 piece)

      held_there : take m room₁ ≡ take (word_at b 16) (room_of b)
      unfolding m
      held_there =
          ap (λ (i : ℕ). take i room₁) held_in
          ∙ held_stands b room room₁ (parked z) (omega arith) u.bytes (omega (arith, held_in))
          ∙ room_held b (omega (arith, held_in))

      both : take m room₁ ++ v ≡ feed_text b piece
      unfolding feed_text
      both = ap₂ (λ (x y : List ℕ). x ++ y) held_there ev

      stands : take n room₂ ≡ feed_text b piece
      unfolding m put_at put
      stands =
          let first : length (take m room₁) ≡ m = length-take-le m room₁ (omega (arith, fits)) in
          let size : length (take m room₁ ++ v) ≡ n = length-append (take m room₁) v ∙ ap (λ (i : ℕ). i + length v) first ∙ sym (en ∙ after_yes m v room₁ fits) in
          let rest = drop (length v) (drop m room₁) in
          ap (take n) (er ∙ at_yes m v room₁ fits ∙ sym (append_assoc (take m room₁) v rest)) ∙ take_at (take m room₁ ++ v) rest n size ∙ both

      pub text_0 : TakesText b piece (record { number = 0; length = n; head = up.head }) room₂
      text_0 = record { number = sym (small_0 b (parked z) (omega (arith, held_in))); head = u.head; text = stands }

-- ---- the bytes afterwards
module _ (k : ℕ) (i : Bool) (h : Head) (held : List ℕ) (old : ℕ) (b : List ℕ) where
  pub kept_nothing : i ≡ true → b ≡ kept_text k i h held old b
  unfolding kept_text
  kept_nothing e = sym (ap (λ (t : Bool). cond t b (restored h held old b)) (ap (λ (t : Bool). refuses k || t) e ∙ or_true (refuses k)))
    where
      or_true : (t : Bool) → (t || true) ≡ true
      or_true true = refl
      or_true false = refl

  module _ (t : Bool) (e : t ≡ refuses k) where
    pub kept_refused : t ≡ true → b ≡ kept_text k i h held old b
    unfolding kept_text
    kept_refused f = sym (ap (λ (u : Bool). cond (u || i) b (restored h held old b)) (sym e ∙ f))

    pub kept_new : (b' : List ℕ) → i ≡ false → t ≡ false → b' ≡ restored h held old b → b' ≡ kept_text k i h held old b
    unfolding kept_text
    kept_new b' g f r = r ∙ sym (ap₂ (λ (u v : Bool). cond (u || v) b (restored h held old b)) (sym e ∙ f) g)

-- ---- a feed of the text is the call
gate_cases : (f e m a : Bool) → (refuses (gate_number (gate f e m a)) ≡ true) ⊎ (gate f e m a ≡ admit)
unfolding refuses
gate_cases true e m a = inl refl
gate_cases false true m a = inl refl
gate_cases false false true a = inl refl
gate_cases false false false true = inl refl
gate_cases false false false false = inr refl

number_gate : (g : Gate) (v : model.Session Columns) (m piece : List ℕ) (o w : ℕ) → refuses (gate_number g) ≡ true → (respond kit g v (feed_call m piece o w)).number ≡ gate_number g
unfolding refuses
number_gate (refuse k) v m piece o w e = refl
number_gate admit v m piece o w e = absurd (true≢false (sym e))

next_fed : (s : Session) (m piece : List ℕ) (o w : ℕ) (t : model.Session Columns) → eqb (length piece) 0 ≡ false → next_by admit s (feed_call m piece o w) t ≡ stored t
next_fed s m [] o w t e = absurd (true≢false e)
next_fed s m (y ∷ p) o w t e = refl

-- an ended session holds nothing
settled_none : (v : model.Session Columns) (t : ℕ) (m : List ℕ) (q : Run State) → (settle kit v t m q).session.ended ≡ true → (settle kit v t m q).session.held ≡ []
settled_none v t m (going st n h ps) e = absurd (true≢false (sym e))
settled_none v t m (stopped k ps) e = refl

-- what an admitted call has passed
admitted : (s : Session) (m piece : List ℕ) (o p : ℕ) → session_gate s (feed_call m piece o p) ≡ admit → (foreign_of s ≡ false) × (map_bad m ≡ false) × (lengths_bad s.taken (length piece) o p ≡ false)
unfolding session_gate
admitted s m piece o p e =
    let g = gate_passed (foreign_of s) s.ended (map_bad m) (lengths_bad s.taken (length piece) o p) (ap gate_number e) in
    (g.0, g.2, g.3)

module _ (b piece map : List ℕ) (o p : ℕ) (z : feed_number b ≡ 0) where
  abbrev s : Session
  s = session_in b

  abbrev h : Head
  h = head_in b

  abbrev x : model.Call
  x = feed_call map piece o p

  sound : is_parked b ≡ true
  sound = (text_zero b z).0

  few : word_at b 16 ≤ most_held
  few = (text_zero b z).1

  room_long : length (room_of b) ≡ room_length
  room_long = room_length_lem b (row_length b (is_row b) refl (parked_row b sound))

  held_long : length (take (word_at b 16) (room_of b)) ≡ word_at b 16
  held_long = length-take-le (word_at b 16) (room_of b) (omega (arith, room_long, few))

  T : List ℕ
  T = feed_text b piece

  text_long : length T ≡ word_at b 16 + length (take most_piece piece)
  unfolding T feed_text
  text_long = length-append (take (word_at b 16) (room_of b)) (take most_piece piece) ∙ ap (λ (n : ℕ). n + length (take most_piece piece)) held_long

  text_held_lem : take (word_at b 16) T ≡ held_of (word_at b 16) (take most_held (room_of b))
  unfolding T feed_text
  text_held_lem =
      let size : length (take most_held (room_of b)) ≡ most_held = length-take-le most_held (room_of b) (omega (arith, room_long)) in
      take_at (take (word_at b 16) (room_of b)) (take most_piece piece) (word_at b 16) held_long
      ∙ sym (held_plain (word_at b 16) (take most_held (room_of b)) (omega (arith, size, few)) ∙ take-take (word_at b 16) most_held (room_of b) few)

  text_new_lem : drop (word_at b 16) T ≡ take most_piece piece
  unfolding T feed_text
  text_new_lem = drop_at (take (word_at b 16) (room_of b)) (take most_piece piece) (word_at b 16) held_long

  view_is : text_session h T ≡ view s
  unfolding head_in session_in
  view_is =
      λ i. record {
        config = s.config;
        taken = s.taken;
        lines = s.lines;
        held = text_held_lem i;
        known = s.columns;
        counts = s.counts;
        outcome = s.outcome;
        ended = s.ended;
      }

  abbrev L : Bool
  L = lengths_bad s.taken (length piece) o p

  -- where the lengths are good, so are the text's
  text_good : L ≡ false → text_bad false h (length T) o p ≡ false
  unfolding text_bad head_in session_in
  text_good e =
      let e1 = or_right (ltb most_piece (length piece)) _ e in
      let e2 = or_right (ltb o least_output) _ e1 in
      let a : length piece ≤ most_piece = ltb-false most_piece (length piece) (or_left (ltb most_piece (length piece)) _ e) in
      let c : least_output ≤ o = ltb-false o least_output (or_left (ltb o least_output) _ e1) in
      let d : least_places ≤ p = ltb-false p least_places (or_left (ltb p least_places) _ e2) in
      let t : word_at b 6 + length piece ≤ most_taken = ltb-false most_taken (word_at b 6 + length piece) (or_right (ltb p least_places) _ e2) in
      let n : length T ≡ word_at b 16 + length piece = text_long ∙ ap (λ (l : List ℕ). word_at b 16 + length l) (take_all most_piece piece a) in
      rw (
        le-ltb (length T) (word_at b 16) (omega (arith, n)),
        le-ltb most_taken (word_at b 6 + (length T - word_at b 16)) (omega (arith, n, t)),
        le-ltb o (3 * length T) (omega (arith, n, a, c, few)),
        le-ltb p (length T / 3 + 4) (omega (arith, n, a, d, few)),
      )

  text_bad_lem : (t : Bool) → L ≡ t → text_bad t h (length T) o p ≡ L
  unfolding text_bad
  text_bad_lem true e = sym e
  text_bad_lem false e = text_good e ∙ sym e

  gate_is : text_gate h map T L o p ≡ session_gate s x
  unfolding text_gate session_gate foreign_of head_in
  gate_is = λ i. gate (foreign kit (view_is i)) s.ended (map_bad map) (text_bad_lem L refl i)

  answer_is : text_answer h map T L o p ≡ answer_of s x
  unfolding text_answer head_in session_in
  answer_is =
      (λ i. respond kit (gate_is i) (view_is i) (feed_call map (text_new_lem i) o p)) ∙ go (session_gate s x) refl ∙ sym (answer_by s x)
    where
      go : (g : Gate) → session_gate s x ≡ g → respond kit g (view s) (feed_call map (take most_piece piece) o p) ≡ respond kit g (view s) x
      go (refuse k) e = refl
      go admit e =
          let bad : L ≡ false = (admitted s map piece o p e).2 in
          ap (λ (l : List ℕ). respond kit admit (view s) (feed_call map l o p)) (take_all most_piece piece (ltb-false most_piece (length piece) (or_left (ltb most_piece (length piece)) _ bad)))

  -- ---- a foreign session
  module _ (e : foreign_of s ≡ true) where
    taken_17 : take_number b ≡ 17
    unfolding take_number fault_unless ◌or_else◌
    taken_17 = rw (sound, e)

    gate_17 : session_gate s x ≡ refuse 17
    unfolding session_gate
    gate_17 = ap (λ (t : Bool). gate t s.ended (map_bad map) L) e

    answer_17 : answer_of s x ≡ record { number = 17; session = view s; emits = [] }
    answer_17 = answer_by s x ∙ ap (λ (g : Gate). respond kit g (view s) x) gate_17

    call_17 : call_number b x ≡ 17
    unfolding call_number ◌or_else◌
    call_17 = ap (λ (k : ℕ). k or_else (answer_of s x).number) taken_17

  -- ---- one that is not
  module _ (e : foreign_of s ≡ false) where
    taken_0 : take_number b ≡ 0
    unfolding take_number fault_unless ◌or_else◌
    taken_0 = rw (sound, e)

    up : TakenUp
    up = record { number = 0; session = s }

    takes_up : TakesUp b up
    unfolding up
    takes_up = record { number = sym taken_0; session = refl }

    -- the session that an admitted call leads to, stored over the old one
    next_stored : session_gate s x ≡ admit → eqb (length piece) 0 ≡ false → restored (head_of (answer_of s x).session) (answer_of s x).session.held (word_at b 16) b ≡ put (parked_of 2 (next_of s x)) b
    unfolding next_of
    next_stored g y =
        let a = answer_by s x ∙ ap (λ (j : Gate). respond kit j (view s) x) g in
        let q = run (machine_of s.config.kind) (resume kit (view s)) piece in
        let t = (settle kit (view s) (s.taken + length piece) map q).session in
        ap (λ (j : model.Answer Columns). restored (head_of j.session) j.session.held (word_at b 16) b) a
        ∙ restored_stored b t (word_at b 16) sound refl
        (settled_small (view s) (native_view s e) map piece (admitted s map piece o p g).1 (s.taken + length piece))
        (settled_none (view s) (s.taken + length piece) map q)
        ∙ ap (λ (j : Session). put (parked_of 2 j) b)
        (sym (ap₂ (λ (i : Gate) (j : model.Answer Columns). next_by i s x j.session) g a ∙ next_fed s map piece o p t y))

-- ---- the call
row_lent : (b : List ℕ) → is_parked b ≡ true → keep_number (length b) ≡ 0
unfolding fault_unless
row_lent b e = ap (λ (t : Bool). fault_unless t 16) (le-leb sealed_length (length b) (omega (arith, row_length b (is_row b) refl (parked_row b e))))

-- a number that does not refuse the call is that of an admitted one
open_gate : (s : Session) (m piece : List ℕ) (o p k : ℕ) → refuses k ≡ false → k ≡ (answer_of s (feed_call m piece o p)).number → session_gate s (feed_call m piece o p) ≡ admit
unfolding session_gate
open_gate s m piece o p k f n = go (gate_cases (foreign_of s) s.ended (map_bad m) (lengths_bad s.taken (length piece) o p))
  where
    go : (refuses (gate_number (session_gate s (feed_call m piece o p))) ≡ true) ⊎ (session_gate s (feed_call m piece o p) ≡ admit) → session_gate s (feed_call m piece o p) ≡ admit
    go (inr g) = g
    go (inl g) =
        let q : k ≡ gate_number (session_gate s (feed_call m piece o p)) = n ∙ ap (λ (a : model.Answer Columns). a.number) (answer_by s (feed_call m piece o p)) ∙ number_gate (session_gate s (feed_call m piece o p)) (view s) m piece o p g in
        absurd (true≢false (sym (ap refuses q ∙ g) ∙ f))

module _ (b piece map out out' places places' : List ℕ) (z : feed_number b ≡ 0) (r : TextFed)
    (ta : TextAnswered (head_in b) map (feed_text b piece) (lengths_bad (session_in b).taken (length piece) (length out) (length places)) r out out' places places') where
  abbrev S : Session
  S = session_in b

  abbrev X : model.Call
  X = feed_call map piece (length out) (length places)

  abbrev A : model.Answer Columns
  A = answer_of S X

  abbrev G : Gate
  G = session_gate S X

  tells : TextTells A (head_by G (head_in b) A.session) (kept_by G (feed_text b piece) A.session.held) (feed_text b piece) r out out' places places'
  unfolding text_head text_kept T
  tells =
      let one =
      subst (λ (g : Gate).
      TextTells (text_answer (head_in b) map (feed_text b piece) (lengths_bad S.taken (length piece) (length out) (length places)) (length out) (length places))
      (head_by g (head_in b) (text_answer (head_in b) map (feed_text b piece) (lengths_bad S.taken (length piece) (length out) (length places)) (length out) (length places)).session)
      (kept_by g (feed_text b piece) (text_answer (head_in b) map (feed_text b piece) (lengths_bad S.taken (length piece) (length out) (length places)) (length out) (length places)).session.held) (feed_text b piece) r out out' places places')
      (gate_is b piece map (length out) (length places) z) ta in
      subst (λ (a : model.Answer Columns). TextTells a (head_by G (head_in b) a.session) (kept_by G (feed_text b piece) a.session.held) (feed_text b piece) r out out' places places') (answer_is b piece map (length out) (length places) z) one

  told : Told
  told = record { number = r.number; written = r.written; warned = r.warned }

  -- refused by 17
  call_foreign : (b' : List ℕ) → foreign_of S ≡ true → b' ≡ kept_text r.number (eqb (length piece) 0) r.head (drop r.begin (feed_text b piece)) (word_at b 16) b → Called X told b b' out out' places places'
  unfolding told output_of warnings_of places_of refuses kept_text
  call_foreign b' e k =
      let a : A ≡ record { number = 17; session = view S; emits = [] } = answer_17 b piece map (length out) (length places) z e in
      let n : r.number ≡ 17 = tells.number ∙ ap (λ (j : model.Answer Columns). j.number) a in
      let c : call_number b X ≡ 17 = call_17 b piece map (length out) (length places) z e in
      let none : A.emits ≡ [] = ap (λ (j : model.Answer Columns). j.emits) a in
      let t : out' ≡ out = tells.text ∙ ap (λ (l : List Emit). put (output_of l) out) none ∙ put_nil out in
      let w : places' ≡ places = tells.warnings ∙ ap (λ (l : List Emit). put (places_of (warnings_of l)) places) none ∙ put_nil places in
      let same : b' ≡ b = k ∙ ap (λ (j : ℕ). cond (refuses j || eqb (length piece) 0) b (restored r.head (drop r.begin (feed_text b piece)) (word_at b 16) b)) n in
      let d : Called X told b b out out places places =
      refused_is b X told out places (n ∙ sym c) (tells.written ∙ ap (λ (l : List Emit). length (output_of l)) none) (tells.warned ∙ ap (λ (l : List Emit). length (places_of (warnings_of l))) none) (ap refuses c) in
      subst (λ (l : List ℕ). Called X told b l out out' places places') (sym same)
      (subst (λ (l : List ℕ). Called X told b b out l places places') (sym t) (subst (λ (l : List ℕ). Called X told b b out out places l) (sym w) d))

  module _ (e : foreign_of S ≡ false) where
    fed : Fed
    fed = record { number = r.number; written = r.written; warned = r.warned; session = next_of S X }

    answered : Answered S X fed out out' places places'
    unfolding fed
    answered = record { number = tells.number; written = tells.written; warned = tells.warned; session = refl; text = tells.text; warnings = tells.warnings }

    -- what is stored is the next session
    kept_next_lem : kept_text r.number (eqb (length piece) 0) r.head (drop r.begin (feed_text b piece)) (word_at b 16) b ≡ kept_next r.number (eqb (length piece) 0) (next_of S X) b
    unfolding kept_text kept_next
    kept_next_lem = go (refuses r.number) (eqb (length piece) 0) refl refl
      where
        lent : keep_number (length b) ≡ 0
        lent = row_lent b (sound b piece map (length out) (length places) z)

        go : (u v : Bool) → refuses r.number ≡ u → eqb (length piece) 0 ≡ v
            → cond (u || v) b (restored r.head (drop r.begin (feed_text b piece)) (word_at b 16) b) ≡ put (cond (u || v) [] (when_done (keep_number (length b)) (parked_of 2 (next_of S X)))) b
        go true v p q = sym (put_nil b)
        go false true p q = sym (put_nil b)
        go false false p q =
            let g : G ≡ admit = open_gate S map piece (length out) (length places) r.number p tells.number in
            let h : r.head ≡ head_of A.session = tells.head ∙ ap (λ (j : Gate). head_by j (head_in b) A.session) g in
            let k : drop r.begin (feed_text b piece) ≡ A.session.held = tells.held ∙ ap (λ (j : Gate). kept_by j (feed_text b piece) A.session.held) g in
            ap₂ (λ (i : Head) (l : List ℕ). restored i l (word_at b 16) b) h k
            ∙ next_stored b piece map (length out) (length places) z e g q
            ∙ ap (λ (n : ℕ). put (when_done n (parked_of 2 (next_of S X))) b) (sym lent)

    call_calm : (b' : List ℕ) → b' ≡ kept_text r.number (eqb (length piece) 0) r.head (drop r.begin (feed_text b piece)) (word_at b 16) b → Called X told b b' out out' places places'
    unfolding told fed up
    call_calm b' k =
        call_made b X (up b piece map (length out) (length places) z e) (takes_up b piece map (length out) (length places) z e) refl fed out out' places places' answered b' (k ∙ kept_next_lem)

pub call_fed : (b piece map out out' places places' b' text held : List ℕ) (h : Head) (bad : Bool) (r : TextFed) → feed_number b ≡ 0 → h ≡ head_in b → text ≡ feed_text b piece
    → bad ≡ lengths_bad h.taken (length piece) (length out) (length places) → TextAnswered h map text bad r out out' places places'
    → held ≡ drop r.begin text → b' ≡ kept_text r.number (eqb (length piece) 0) r.head held h.held_len b
    → Called (feed_call map piece (length out) (length places)) (record { number = r.number; written = r.written; warned = r.warned }) b b' out out' places places'
unfolding told head_in session_in
call_fed b piece map out out' places places' b' text held h bad r z eh et eb ta ed ek =
    let bad_is : bad ≡ lengths_bad (session_in b).taken (length piece) (length out) (length places) = eb ∙ ap (λ (j : Head). lengths_bad j.taken (length piece) (length out) (length places)) eh in
    let t1 = subst (λ (j : Head). TextAnswered j map text bad r out out' places places') eh ta in
    let t2 = subst (λ (l : List ℕ). TextAnswered (head_in b) map l bad r out out' places places') et t1 in
    let t3 = subst (λ (t : Bool). TextAnswered (head_in b) map (feed_text b piece) t r out out' places places') bad_is t2 in
    let kept : b' ≡ kept_text r.number (eqb (length piece) 0) r.head (drop r.begin (feed_text b piece)) (word_at b 16) b =
    ek ∙ (λ i. kept_text r.number (eqb (length piece) 0) r.head ((ed ∙ ap (drop r.begin) et) i) (ap (λ (j : Head). j.held_len) eh i) b) in
    go (foreign_of (session_in b)) refl t3 kept
  where
    go : (t : Bool) → foreign_of (session_in b) ≡ t
        → TextAnswered (head_in b) map (feed_text b piece) (lengths_bad (session_in b).taken (length piece) (length out) (length places)) r out out' places places'
        → b' ≡ kept_text r.number (eqb (length piece) 0) r.head (drop r.begin (feed_text b piece)) (word_at b 16) b
        → Called (feed_call map piece (length out) (length places)) (record { number = r.number; written = r.written; warned = r.warned }) b b' out out' places places'
    go true e t k = call_foreign b piece map out out' places places' z r t b' e k
    go false e t k = call_calm b piece map out out' places places' z r t e b' k

-- ---- before the call
module _ (b piece room : List ℕ) (up : TextIn) (u : TakesText b piece up room) where
  pub text_refused : (m out places : List ℕ) (r : Told) → (up.number ≡ 0 → ⊥) → r ≡ record { number = up.number; written = 0; warned = 0 }
      → Called (feed_call m piece (length out) (length places)) r b b out out places places
  unfolding call_number
  text_refused m out places r h e =
      let x = feed_call m piece (length out) (length places) in
      let t : feed_number b ≡ take_number b = text_take b (λ q. h (u.number ∙ q)) in
      let y : take_number b ≡ 0 → ⊥ = λ q. h (u.number ∙ t ∙ q) in
      let f : take_number b or_else (answer_of (session_in b) x).number ≡ take_number b = else_found (take_number b) (answer_of (session_in b) x).number y in
      refused_is b x r out places (ap (λ (j : Told). j.number) e ∙ u.number ∙ t ∙ sym f) (ap (λ (j : Told). j.written) e) (ap (λ (j : Told). j.warned) e) (ap refuses f ∙ take_refuses b y)

  module _ (z : up.number ≡ 0) where
    pub text_none : feed_number b ≡ 0
    text_none = sym u.number ∙ z

    pub text_head_lem : up.head ≡ head_in b
    text_head_lem = u.head

    pub text_is : (text : List ℕ) → text ≡ take up.length room → text ≡ feed_text b piece
    text_is text e = e ∙ u.text ∙ ap (λ (k : ℕ). cond (eqb k 0) (feed_text b piece) []) z
