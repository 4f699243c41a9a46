-- Laws of the functions that store a session.
use Prim.Native.Nat.{ℕ, zero, suc, ◌+◌, ◌-◌, ◌*◌, ◌/◌, ◌%◌, ◌^◌, ◌≤◌, ◌<◌}
use mathlib.Core.Path.{◌≡◌, refl, ap, ap₂, sym, ◌∙◌}
use mathlib.Core.Bool.{Bool, true, false, ◌&&◌, not, cond}
use mathlib.Core.List.{List, [], ◌∷◌, ◌++◌, append_assoc}
use lib.Dec.{leb}
use lib.ListN.{length, take, drop, replicate, length-take, length-drop, length-append, length-replicate, replicate-append-replicate}
use lib.Seq.{take-append-le, drop-append-le}
use native.Mathlib.Omega.{arith}
use borrow.Author.Tests.{ne_eqb, le-leb, lt-leb, leb-true}
use Rattle.spec_base.specs.base.Limits.{most_held}
use Rattle.spec_base.specs.base.Refusal.{◌or_else◌, fault_unless}
use Rattle.spec_base.specs.base.Put.{put}
use Rattle.spec_base.proofs.base.PutLaws.{put_nil}
use Rattle.spec_session.specs.declared.session_state.Session.{Session}
use Rattle.spec_session.specs.declared.session_state.Head.{Head}
use Rattle.spec_session.specs.session_state.View.{held_of, foreign_of}
use Rattle.spec_parking.specs.parking.Parked.{flag, head_words, kept_bytes, parked_of}
use Rattle.spec_parking.specs.parking.Head.{head_numbers, bare_of, head_bytes}
use Rattle.spec_parking.specs.parking.Parkings.{park_number, Parks, Stores}
use Rattle.spec_parked_blocks.specs.parked_blocks.Sealed.{sealed_length, body_length, room_length, word_bytes, words_bytes, sealed, sealed_all, filled, row_of, row_in}
use Rattle.spec_parked_blocks.proofs.parked_blocks.Bytes.{words_append}

-- ---- any number's bytes are those of its low 32 bits
low_bytes : (n : ℕ) → word_bytes (n % 2 ^ 32) ≡ word_bytes n
unfolding word_bytes
low_bytes n =
    let one : n / 256 ≡ 16777216 * (n / 2 ^ 32) + n % 2 ^ 32 / 256 = omega arith in
    let two : n / 256 / 256 ≡ 65536 * (n / 2 ^ 32) + n % 2 ^ 32 / 256 / 256 = third (n / 256) (n / 2 ^ 32) (n % 2 ^ 32 / 256) one in
    let three : n / 256 / 256 / 256 ≡ 256 * (n / 2 ^ 32) + n % 2 ^ 32 / 256 / 256 / 256 = fourth (n / 256 / 256) (n / 2 ^ 32) (n % 2 ^ 32 / 256 / 256) two in
    let p : n % 2 ^ 32 % 256 ≡ n % 256 = omega arith in
    let q : n % 2 ^ 32 / 256 % 256 ≡ n / 256 % 256 = omega arith in
    let r : n % 2 ^ 32 / 256 / 256 % 256 ≡ n / 256 / 256 % 256 = sixth (n / 256 / 256) (n / 2 ^ 32) (n % 2 ^ 32 / 256 / 256) two in
    let t : n % 2 ^ 32 / 256 / 256 / 256 % 256 ≡ n / 256 / 256 / 256 % 256 = last (n / 256 / 256 / 256) (n / 2 ^ 32) (n % 2 ^ 32 / 256 / 256 / 256) three in
    λ i. p i ∷ q i ∷ r i ∷ t i ∷ []
  where
    third : (a q m : ℕ) → a ≡ 16777216 * q + m → a / 256 ≡ 65536 * q + m / 256
    third a q m e = omega arith

    fourth : (a q m : ℕ) → a ≡ 65536 * q + m → a / 256 ≡ 256 * q + m / 256
    fourth a q m e = omega arith

    sixth : (a q m : ℕ) → a ≡ 65536 * q + m → m % 256 ≡ a % 256
    sixth a q m e = omega arith

    last : (a q m : ℕ) → a ≡ 256 * q + m → m % 256 ≡ a % 256
    last a q m e = omega arith

-- ---- blocks end where their bytes do
all_append : (b n : ℕ) (l r : List ℕ) → body_length * n ≤ length l → sealed_all b n (l ++ r) ≡ sealed_all b n l
unfolding sealed_all
all_append b zero l r h = refl
all_append b (suc n) l r h =
    ap₂ (λ (x y : List ℕ). sealed b x ++ sealed_all (suc b) n y) (take-append-le body_length l r (omega arith)) (drop-append-le body_length l r (omega arith))
    ∙ ap (λ (y : List ℕ). sealed b (take body_length l) ++ y) (all_append (suc b) n (drop body_length l) r (omega (arith, length-drop body_length l)))

zeros_move : (part : List ℕ) (z y a w : ℕ) → z + y ≡ a + w → (part ++ replicate z 0) ++ replicate y 0 ≡ (part ++ replicate a 0) ++ replicate w 0
zeros_move part z y a w m =
    append_assoc part (replicate z 0) (replicate y 0)
    ∙ ap (λ (l : List ℕ). part ++ l) (replicate-append-replicate z y 0 ∙ ap (λ (i : ℕ). replicate i 0) m ∙ sym (replicate-append-replicate a w 0))
    ∙ sym (append_assoc part (replicate a 0) (replicate w 0))

room_zeros : (part : List ℕ) (z y a w : ℕ) → z + y ≡ a + w → room_length ≤ length part + a → sealed_all 1 17 ((part ++ replicate z 0) ++ replicate y 0) ≡ sealed_all 1 17 (part ++ replicate a 0)
room_zeros part z y a w m h =
    ap (sealed_all 1 17) (zeros_move part z y a w m)
    ∙ all_append 1 17 (part ++ replicate a 0) (replicate w 0) (omega (arith, length-append part (replicate a 0), length-replicate {A = ℕ} a 0))

-- zeros behind the bytes that are put into a row change nothing
row_zeros : (head part : List ℕ) (z : ℕ) → length part ≤ room_length → row_of head (part ++ replicate z 0) ≡ row_of head part
unfolding row_of
row_zeros head part z h =
    let n : length (part ++ replicate z 0) ≡ length part + z = length-append part (replicate z 0) ∙ ap (λ (i : ℕ). length part + i) (length-replicate {A = ℕ} z 0) in
    let m : z + (room_length - length (part ++ replicate z 0)) ≡ (room_length - length part) + (z + (room_length - length (part ++ replicate z 0)) - (room_length - length part)) = omega (arith, n) in
    ap (λ (l : List ℕ). sealed 0 (filled body_length head) ++ l) (room_zeros part z (room_length - length (part ++ replicate z 0)) (room_length - length part) _ m (omega arith))

-- ---- the words
module _ (h : Head) where
  -- words 1 to 16, given whether it has ended and its word for Events
  abbrev Words : Bool → ℕ → List ℕ
  Words t ev =
      2 ∷ h.config.kind ∷ h.config.timescale ∷ flag t ∷ h.outcome ∷ h.taken ∷ cond t 0 h.lines ∷
      h.counts.shifted ∷ h.counts.clipped ∷ h.counts.dropped ∷ h.counts.passed ∷
      cond t 0 ev ∷ cond t 0 h.columns.columns ∷ cond t 0 h.columns.start ∷ cond t 0 h.columns.«end» ∷ cond t 0 h.held_len ∷ []

  words_are : (t : Bool) → h.ended ≡ t → Words t (flag h.columns.events) ≡ head_words 2 (bare_of h)
  unfolding head_words
  words_are t e = ap (λ (u : Bool). Words u (flag h.columns.events)) (sym e)

  low : (n m : ℕ) → m ≡ n % 2 ^ 32 → word_bytes m ≡ word_bytes n
  low n m e = ap word_bytes e ∙ low_bytes n

  pub live_head : (ev w a b n : ℕ) → h.ended ≡ false → ev ≡ flag h.columns.events → w ≡ h.columns.columns % 2 ^ 32
      → a ≡ h.columns.start % 2 ^ 32 → b ≡ h.columns.«end» % 2 ^ 32 → n ≡ h.held_len % 2 ^ 32
      → words_bytes (2 ∷ h.config.kind ∷ h.config.timescale ∷ 0 ∷ h.outcome ∷ h.taken ∷ h.lines ∷ h.counts.shifted ∷ h.counts.clipped ∷ h.counts.dropped ∷ h.counts.passed ∷ ev ∷ w ∷ a ∷ b ∷ n ∷ [])
      ≡ head_bytes h
  unfolding words_bytes
  live_head ev w a b n e p q r t u =
      let w' = low h.columns.columns w q in
      let a' = low h.columns.start a r in
      let b' = low h.columns.«end» b t in
      let n' = low h.held_len n u in
      let first : List ℕ = 2 ∷ h.config.kind ∷ h.config.timescale ∷ 0 ∷ h.outcome ∷ h.taken ∷ h.lines ∷ h.counts.shifted ∷ h.counts.clipped ∷ h.counts.dropped ∷ h.counts.passed ∷ [] in
      let same : words_bytes (ev ∷ w ∷ a ∷ b ∷ n ∷ []) ≡ words_bytes (flag h.columns.events ∷ h.columns.columns ∷ h.columns.start ∷ h.columns.«end» ∷ h.held_len ∷ []) =
      λ i. word_bytes (p i) ++ (w' i ++ (a' i ++ (b' i ++ (n' i ++ [])))) in
      words_append first (ev ∷ w ∷ a ∷ b ∷ n ∷ [])
      ∙ ap (λ (l : List ℕ). words_bytes first ++ l) same
      ∙ sym (words_append first (flag h.columns.events ∷ h.columns.columns ∷ h.columns.start ∷ h.columns.«end» ∷ h.held_len ∷ []))
      ∙ ap words_bytes (words_are false e)

  pub ended_head : h.ended ≡ true
      → 2 ∷ h.config.kind ∷ h.config.timescale ∷ 1 ∷ h.outcome ∷ h.taken ∷ 0 ∷ h.counts.shifted ∷ h.counts.clipped ∷ h.counts.dropped ∷ h.counts.passed ∷ 0 ∷ 0 ∷ 0 ∷ 0 ∷ 0 ∷ [] ≡ head_words 2 (bare_of h)
  ended_head e = words_are true e

  pub head_length : length (head_bytes h) ≡ 64
  unfolding head_words words_bytes word_bytes
  head_length = refl

  pub number_bytes : (words head : List ℕ) → words_bytes words ≡ head_bytes h → head ≡ words_bytes words → head ≡ head_bytes h
  number_bytes words head e f = f ∙ e

  pub words_bytes_lem : (words : List ℕ) → words ≡ head_words 2 (bare_of h) → words_bytes words ≡ head_bytes h
  words_bytes_lem words e = ap words_bytes e

-- ---- the bytes
pub same_words : (s : Session) → head_bytes (head_numbers s) ≡ words_bytes (head_words 2 s)
unfolding head_words
same_words s = refl

pub head_bytes_lem : (s : Session) (h : Head) (head : List ℕ) → h ≡ head_numbers s → head ≡ head_bytes h → head ≡ words_bytes (head_words 2 s)
head_bytes_lem s h head e f = f ∙ ap head_bytes e ∙ same_words s

module _ (s : Session) (size : length s.held ≡ most_held) where
  row_is : (n : ℕ) (head part : List ℕ) → n ≡ cond s.ended 0 s.held_len → part ≡ take n s.held → row_of head part ≡ row_of head (kept_bytes s)
  unfolding kept_bytes held_of
  row_is n head part e p = ap (row_of head) (p ∙ ap (λ (i : ℕ). take i s.held) e) ∙ go s.ended
    where
      go : (t : Bool) → row_of head (take (cond t 0 s.held_len) s.held) ≡ row_of head (cond t [] (held_of s.held_len s.held))
      go true = refl
      go false = sym (row_zeros head (take s.held_len s.held) (s.held_len - length s.held) (omega (arith, length-take s.held_len s.held)))

  pub stored_is : (n : ℕ) (part head l out : List ℕ) → sealed_length ≤ length l → n ≡ cond s.ended 0 s.held_len → part ≡ take n s.held → head ≡ words_bytes (head_words 2 s)
      → out ≡ put (row_in (length l) head part) l → out ≡ put (parked_of 2 s) l
  unfolding parked_of row_in
  stored_is n part head l out r e p w o =
      let small : length part ≤ room_length = omega (arith, ap length p, length-take n s.held) in
      let short : length head ≤ body_length = omega (arith, ap length w, head_length (head_numbers s), ap length (same_words s)) in
      o ∙ (λ i. put (cond (le-leb sealed_length (length l) r i && (le-leb (length head) body_length short i && le-leb (length part) room_length small i)) (row_of head part) []) l)
      ∙ ap (λ (x : List ℕ). put x l) (row_is n head part e p ∙ ap (λ (x : List ℕ). row_of x (kept_bytes s)) w)

-- ---- the number
pub park_17 : (s : Session) (n : ℕ) (t : Bool) → t ≡ foreign_of s → t ≡ true → 17 ≡ park_number s n
unfolding park_number fault_unless ◌or_else◌
park_17 s n t e f = let z : foreign_of s ≡ true = sym e ∙ f in rw z

pub park_16 : (s : Session) (n : ℕ) (t : Bool) → t ≡ foreign_of s → t ≡ false → n < sealed_length → 16 ≡ park_number s n
unfolding park_number fault_unless ◌or_else◌
park_16 s n t e f h = let z : foreign_of s ≡ false = sym e ∙ f in rw (z, lt-leb sealed_length n h)

pub park_0 : (s : Session) (n : ℕ) (t : Bool) → t ≡ foreign_of s → t ≡ false → sealed_length ≤ n → 0 ≡ park_number s n
unfolding park_number fault_unless ◌or_else◌
park_0 s n t e f h = let z : foreign_of s ≡ false = sym e ∙ f in rw (z, le-leb sealed_length n h)

module _ (s : Session) (out : List ℕ) (k : ℕ) (e : k ≡ park_number s (length out)) where
  pub park_refused : (k ≡ 0 → ⊥) → Parks s k out out
  park_refused h = record { answer = e; bytes = sym (ap (λ (t : Bool). put (cond t (parked_of 2 s) []) out) (ne_eqb k 0 h) ∙ put_nil out) }

  by_number : (f r : Bool) → foreign_of s ≡ f → leb sealed_length (length out) ≡ r → 0 ≡ (fault_unless (not f) 17 or_else fault_unless r 16) → (foreign_of s ≡ false) × (sealed_length ≤ length out)
  unfolding fault_unless ◌or_else◌
  by_number true r p q z = absurd (let y : ◌≡◌ {A = ℕ} 0 17 = z in omega arith)
  by_number false false p q z = absurd (let y : ◌≡◌ {A = ℕ} 0 16 = z in omega arith)
  by_number false true p q z = (p, leb-true sealed_length (length out) q)

  pub park_passed : k ≡ 0 → (foreign_of s ≡ false) × (sealed_length ≤ length out)
  unfolding park_number
  park_passed z = by_number (foreign_of s) (leb sealed_length (length out)) refl refl (sym z ∙ e)

  pub park_done : (out' : List ℕ) → k ≡ 0 → out' ≡ put (parked_of 2 s) out → Parks s 0 out out'
  park_done out' z o = record { answer = sym z ∙ e; bytes = o }

-- ---- keep
module _ (s : Session) (out : List ℕ) where
  pub keep_16 : length out < sealed_length → Stores s 16 out out
  unfolding fault_unless
  keep_16 h = record { answer = sym (ap (λ (t : Bool). fault_unless t 16) (lt-leb sealed_length (length out) h)); bytes = sym (put_nil out) }

  pub keep_0 : (out' : List ℕ) → sealed_length ≤ length out → out' ≡ put (parked_of 2 s) out → Stores s 0 out out'
  unfolding fault_unless
  keep_0 out' h o = record { answer = sym (ap (λ (t : Bool). fault_unless t 16) (le-leb sealed_length (length out) h)); bytes = o }
