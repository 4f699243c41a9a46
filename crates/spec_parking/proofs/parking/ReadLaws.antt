-- Laws of the functions that read a parked session.
use Prim.Native.Nat.{ℕ, ◌≤◌}
use mathlib.Core.Path.{◌≡◌, refl, ap, ap₂, sym, ◌∙◌}
use mathlib.Core.Bool.{Bool, true, false, ◌&&◌, ◌||◌, cond}
use mathlib.Core.List.{List, [], ◌++◌, append-nil}
use lib.Dec.{eqb}
use lib.ListN.{length, take, drop, replicate, length-replicate, drop_of_length-le, take-append-drop}
use lib.Seq.{length-take-le, take_all}
use native.Mathlib.Omega.{arith}
use borrow.Author.Tests.{eq-eqb, ne_eqb}
use Rattle.spec_base.specs.base.Limits.{most_held}
use Rattle.spec_base.specs.base.Put.{put, placed}
use Rattle.spec_base.proofs.base.Laws.{and_left}
use Rattle.spec_base.proofs.base.PutLaws.{placed_yes}
use Rattle.spec_sheet.specs.checked_blocks.Block.{word_at}
use Rattle.spec_caption.specs.declared.caption_fate.Config.{Config}
use Rattle.spec_ass.specs.declared.ass_columns.Columns.{Columns}
use Rattle.spec_machine.specs.declared.session_counts.Counts.{Counts}
use Rattle.spec_machine.specs.session_counts.Session.{is_outcome}
use Rattle.spec_session.specs.declared.session_state.Session.{Session}
use Rattle.spec_parked_blocks.specs.parked_blocks.Sealed.{room_length, room_of, all_zero, is_row, unsealed}
use Rattle.spec_parked_blocks.proofs.parked_blocks.ReadLaws.{room_length_lem, row_length}
use Rattle.spec_parked_blocks.proofs.parked_blocks.FirstLaws.{zero_behind}
use Rattle.spec_parking.specs.parking.Parked.{is_mark, is_flag, unused_zero, is_parked, session_in}

-- ---- the room of a row
put_whole : (v l : List ℕ) → length l ≤ length v → put v l ≡ v
unfolding put
put_whole v l h = ap (λ (r : List ℕ). v ++ r) (drop_of_length-le l h) ∙ append-nil v

module _ (s room : List ℕ) (r : Bool) (e : r ≡ unsealed s (length (replicate {A = ℕ} room_length 0))) (f : r ≡ true) where
  pub row_true : is_row s ≡ true
  row_true = and_left (is_row s) _ (sym e ∙ f)

  pub row_room : room ≡ put (cond r (room_of s) []) (replicate room_length 0) → room ≡ room_of s
  row_room g =
      let n : length (room_of s) ≡ room_length = room_length_lem s (row_length s (is_row s) refl row_true) in
      let h : length (replicate {A = ℕ} room_length 0) ≤ length (room_of s) = omega (arith, length-replicate {A = ℕ} room_length 0) in
      g ∙ ap (λ (t : Bool). put (cond t (room_of s) []) (replicate room_length 0)) f ∙ put_whole (room_of s) (replicate room_length 0) h

  pub room_long : room ≡ put (cond r (room_of s) []) (replicate room_length 0) → most_held ≤ length room
  room_long g = omega (arith, ap length (row_room g), room_length_lem s (row_length s (is_row s) refl row_true))

-- all of it
pub whole_shows : (s room : List ℕ) → room ≡ room_of s → room ≡ take (length room) (room_of s)
whole_shows s room e = e ∙ sym (take_all (length room) (room_of s) (omega (arith, ap length e)))

pub whole_rest : (s room : List ℕ) → room ≡ room_of s → all_zero (drop (length room) (room_of s)) ≡ true
unfolding all_zero
whole_rest s room e = let past : length (room_of s) ≤ length room = omega (arith, ap length e) in ap all_zero (drop_of_length-le (room_of s) past)

-- bytes that are the start of the room, with nothing but zeros in the rest of it
part_zero : (s room : List ℕ) → room ≡ take (length room) (room_of s) → all_zero (drop (length room) (room_of s)) ≡ true → (n : ℕ) → all_zero (drop n room) ≡ all_zero (drop n (room_of s))
part_zero s room e f n =
    sym (zero_behind n room (drop (length room) (room_of s)) f)
    ∙ ap (λ (l : List ℕ). all_zero (drop n l)) (ap (λ (l : List ℕ). l ++ drop (length room) (room_of s)) e ∙ take-append-drop (length room) (room_of s))

-- ---- the words
pub mark_1 : (k : ℕ) → k ≡ 1 → true ≡ is_mark k
mark_1 k e = sym (ap is_mark e)

pub mark_2 : (k : ℕ) → (k ≡ 1 → ⊥) → eqb k 2 ≡ is_mark k
mark_2 k h = ap (λ (t : Bool). t || eqb k 2) (sym (ne_eqb k 1 h))

pub flag_0 : (k : ℕ) → k ≡ 0 → true ≡ is_flag k
flag_0 k e = sym (ap is_flag e)

pub flag_1 : (k : ℕ) → (k ≡ 0 → ⊥) → eqb k 1 ≡ is_flag k
flag_1 k h = ap (λ (t : Bool). t || eqb k 1) (sym (ne_eqb k 0 h))

module _ (s : List ℕ) where
  abbrev Good : Bool
  Good = is_mark (word_at s 1) && (is_flag (word_at s 4) && (is_outcome (word_at s 5) && is_flag (word_at s 12)))

  by : (f : ℕ → Bool) (t u : Bool) (w i : ℕ) → t ≡ f w → w ≡ word_at s i → t ≡ u → f (word_at s i) ≡ u
  by f t u w i e p h = sym (e ∙ ap f p) ∙ h

  pub good_1 : (w : ℕ) (t : Bool) → w ≡ word_at s 1 → t ≡ is_mark w → t ≡ false → false ≡ Good
  good_1 w t p e h = ap (λ (x : Bool). x && (is_flag (word_at s 4) && (is_outcome (word_at s 5) && is_flag (word_at s 12)))) (sym (by is_mark t false w 1 e p h))

  pub good_4 : (w v : ℕ) (t u : Bool) → w ≡ word_at s 1 → t ≡ is_mark w → t ≡ true → v ≡ word_at s 4 → u ≡ is_flag v → u ≡ false → false ≡ Good
  good_4 w v t u p e h q f k =
      ap₂ (λ (x y : Bool). x && (y && (is_outcome (word_at s 5) && is_flag (word_at s 12)))) (sym (by is_mark t true w 1 e p h)) (sym (by is_flag u false v 4 f q k))

  module _ (w v o : ℕ) (t u x : Bool) (p : w ≡ word_at s 1) (e : t ≡ is_mark w) (h : t ≡ true) (q : v ≡ word_at s 4) (f : u ≡ is_flag v) (k : u ≡ true)
      (r : o ≡ word_at s 5) (g : x ≡ is_outcome o) where
    pub good_5 : x ≡ false → false ≡ Good
    good_5 l =
        let z : Good ≡ false = λ i. by is_mark t true w 1 e p h i && (by is_flag u true v 4 f q k i && (by is_outcome x false o 5 g r l i && is_flag (word_at s 12))) in
        sym z

    pub good_12 : x ≡ true → (n : ℕ) (y : Bool) → n ≡ word_at s 12 → y ≡ is_flag n → y ≡ Good
    good_12 l n y a b =
        let z : Good ≡ is_flag (word_at s 12) = λ i. by is_mark t true w 1 e p h i && (by is_flag u true v 4 f q k i && (by is_outcome x true o 5 g r l i && is_flag (word_at s 12))) in
        b ∙ ap is_flag a ∙ sym z

-- ---- unused bytes
cut_zero : (n k : ℕ) (s x p : List ℕ) (t u : Bool) → x ≡ drop k s → p ≡ take n x → t ≡ all_zero p → t ≡ u → all_zero (take n (drop k s)) ≡ u
cut_zero n k s x p t u e f g h = sym (g ∙ ap all_zero (f ∙ ap (take n) e)) ∙ h

module _ (s room : List ℕ) (w : ℕ) (a : w ≡ word_at s 7) where
  abbrev Ended : Bool
  Ended = eqb (word_at s 7) 0 && (all_zero (take 20 (drop 48 s)) && all_zero room)

  pub ended_7 : (w ≡ 0 → ⊥) → false ≡ Ended
  ended_7 h = ap (λ (t : Bool). t && (all_zero (take 20 (drop 48 s)) && all_zero room)) (sym (ne_eqb (word_at s 7) 0 (λ z. h (a ∙ z))))

  seven : w ≡ 0 → eqb (word_at s 7) 0 ≡ true
  seven h = eq-eqb (word_at s 7) 0 (sym a ∙ h)

  module _ (h : w ≡ 0) (x p : List ℕ) (t : Bool) (e : x ≡ drop 48 s) (f : p ≡ take 20 x) (g : t ≡ all_zero p) where
    pub ended_no : t ≡ false → false ≡ Ended
    ended_no k = ap₂ (λ (u v : Bool). u && (v && all_zero room)) (sym (seven h)) (sym (cut_zero 20 48 s x p t false e f g k))

    pub ended_room : t ≡ true → (r : Bool) → r ≡ all_zero room → r ≡ Ended
    ended_room k r q = q ∙ ap₂ (λ (u v : Bool). u && (v && all_zero room)) (sym (seven h)) (sym (cut_zero 20 48 s x p t true e f g k))

module _ (s x p : List ℕ) (t : Bool) (e : x ≡ drop 68 s) (f : p ≡ take 440 x) (g : t ≡ all_zero p) where
  abbrev Behind : Bool
  Behind = cond (eqb (word_at s 4) 0) (all_zero (drop (word_at s 16) (room_of s))) (eqb (word_at s 7) 0 && (all_zero (take 20 (drop 48 s)) && all_zero (room_of s)))

  pub unused_no : t ≡ false → false ≡ unused_zero s
  unfolding unused_zero
  unused_no k = ap (λ (u : Bool). u && Behind) (sym (cut_zero 440 68 s x p t false e f g k))

  used : t ≡ true → Behind ≡ unused_zero s
  unfolding unused_zero
  used k = ap (λ (u : Bool). u && Behind) (sym (cut_zero 440 68 s x p t true e f g k))

  module _ (k : t ≡ true) (room : List ℕ) (m : ℕ) (r : Bool) (a : m ≡ word_at s 4) (shows : room ≡ take (length room) (room_of s)) (rest : all_zero (drop (length room) (room_of s)) ≡ true) where
    pub unused_live : (q : List ℕ) (n : ℕ) → m ≡ 0 → n ≡ word_at s 16 → q ≡ drop n room → r ≡ all_zero q → r ≡ unused_zero s
    unused_live q n z b d v =
        v ∙ ap all_zero (d ∙ ap (λ (i : ℕ). drop i room) b) ∙ part_zero s room shows rest (word_at s 16)
        ∙ ap (λ (u : Bool). cond u (all_zero (drop (word_at s 16) (room_of s))) (eqb (word_at s 7) 0 && (all_zero (take 20 (drop 48 s)) && all_zero (room_of s)))) (sym (eq-eqb (word_at s 4) 0 (sym a ∙ z)))
        ∙ used k

    pub unused_ended : (m ≡ 0 → ⊥) → r ≡ (eqb (word_at s 7) 0 && (all_zero (take 20 (drop 48 s)) && all_zero room)) → r ≡ unused_zero s
    unused_ended z v =
        v ∙ ap (λ (x : Bool). eqb (word_at s 7) 0 && (all_zero (take 20 (drop 48 s)) && x)) (part_zero s room shows rest 0)
        ∙ ap (λ (u : Bool). cond u (all_zero (drop (word_at s 16) (room_of s))) (eqb (word_at s 7) 0 && (all_zero (take 20 (drop 48 s)) && all_zero (room_of s)))) (sym (ne_eqb (word_at s 4) 0 (λ q. z (a ∙ q))))
        ∙ used k

-- ---- all tests
and_move : (a b c d u : Bool) → (a && (b && (c && (d && u)))) ≡ ((a && (b && (c && d))) && u)
and_move false b c d u = refl
and_move true false c d u = refl
and_move true true false d u = refl
and_move true true true d u = refl

module _ (s : List ℕ) (row : is_row s ≡ true) (g : Bool) (b : g ≡ Good s) where
  tests : is_parked s ≡ (Good s && unused_zero s)
  unfolding is_parked
  tests =
      ap (λ (u : Bool). u && (is_mark (word_at s 1) && (is_flag (word_at s 4) && (is_outcome (word_at s 5) && (is_flag (word_at s 12) && unused_zero s))))) row
      ∙ and_move (is_mark (word_at s 1)) (is_flag (word_at s 4)) (is_outcome (word_at s 5)) (is_flag (word_at s 12)) (unused_zero s)

  pub parked_words : g ≡ false → false ≡ is_parked s
  parked_words l = ap (λ (u : Bool). u && unused_zero s) (sym l ∙ b) ∙ sym tests

  pub parked_all : g ≡ true → (r : Bool) → r ≡ unused_zero s → r ≡ is_parked s
  parked_all l r c = c ∙ ap (λ (u : Bool). u && unused_zero s) (sym l ∙ b) ∙ sym tests

-- ---- the session
module _ (s : List ℕ) where
  pub config_is : (k t : ℕ) → k ≡ word_at s 2 → t ≡ word_at s 3 → ◌≡◌ {A = Config} (record { kind = k; timescale = t }) (session_in s).config
  unfolding session_in
  config_is k t a b = λ i. record { kind = a i; timescale = b i }

  pub counts_are : (a b c d : ℕ) → a ≡ word_at s 8 → b ≡ word_at s 9 → c ≡ word_at s 10 → d ≡ word_at s 11
      → ◌≡◌ {A = Counts} (record { shifted = a; clipped = b; dropped = c; passed = d }) (session_in s).counts
  unfolding session_in
  counts_are a b c d p q r t = λ i. record { shifted = p i; clipped = q i; dropped = r i; passed = t i }

  pub columns_are : (a b c d : ℕ) → a ≡ word_at s 12 → b ≡ word_at s 13 → c ≡ word_at s 14 → d ≡ word_at s 15
      → ◌≡◌ {A = Columns} (record { events = eqb a 1; columns = b; start = c; «end» = d }) (session_in s).columns
  unfolding session_in
  columns_are a b c d p q r t = λ i. record { events = eqb (p i) 1; columns = q i; start = r i; «end» = t i }

  pub session_made : (room held : List ℕ) (g : Config) (n : Counts) (m : Columns) (e o t l h : ℕ) → room ≡ room_of s
      → g ≡ (session_in s).config → n ≡ (session_in s).counts → m ≡ (session_in s).columns → held ≡ take most_held room
      → e ≡ word_at s 4 → o ≡ word_at s 5 → t ≡ word_at s 6 → l ≡ word_at s 7 → h ≡ word_at s 16
      → ◌≡◌ {A = Session} (record { config = g; ended = eqb e 1; outcome = o; taken = t; lines = l; counts = n; columns = m; held_len = h; held = held }) (session_in s)
  unfolding session_in
  session_made room held g n m e o t l h r a b c d p4 p5 p6 p7 p16 =
      let q : held ≡ take most_held (room_of s) = d ∙ ap (take most_held) r in
      λ i. record { config = a i; ended = eqb (p4 i) 1; outcome = p5 i; taken = p6 i; lines = p7 i; counts = b i; columns = c i; held_len = p16 i; held = q i }

pub held_is : (room part held : List ℕ) → most_held ≤ length room → part ≡ take most_held room → held ≡ placed part (replicate most_held 0) → held ≡ take most_held room
held_is room part held h e f =
    let n : length part ≡ most_held = ap length e ∙ length-take-le most_held room h in
    let z : length (replicate {A = ℕ} most_held 0) ≡ most_held = length-replicate {A = ℕ} most_held 0 in
    f ∙ placed_yes part (replicate most_held 0) (omega arith) ∙ put_whole part (replicate most_held 0) (omega arith) ∙ e
