-- Laws of strings, as the code walks them.
use mathlib.Core.Path.{◌≡◌, refl, sym, ap, subst, ◌∙◌}
use mathlib.Core.Bool.{Bool, true, false, ◌&&◌, cond, true≢false}
use mathlib.Core.List.{List, [], ◌∷◌}
use Prim.Native.Nat.{ℕ, zero, suc, ◌+◌, ◌*◌, ◌-◌, ◌/◌, ◌%◌, ◌^◌, ◌≤◌, ◌<◌}
use native.Mathlib.Omega.{arith}
use borrow.Author.Tests.{eq-eqb, ne_eqb, ltb-true, lt-ltb, le-ltb}
use lib.Dec.{eqb, ltb, leb}
use lib.ListN.{length, take, drop, get_or, length-drop}
use Rattle.spec_base.proofs.base.Laws.{yes!, no!, and_right}
use Rattle.spec_base.specs.base.Put.{placed_at, place_after}
use Rattle.spec_text.specs.pattern.Find.{starts}
use Rattle.spec_text.specs.unicode.Encode.{encode}
use Rattle.spec_text.proofs.unicode.Trailing.{enc_1, enc_2, enc_3, enc_4}
use Rattle.spec_json.specs.declared.json.Piece.{Piece}
use Rattle.spec_json.specs.json.Piece.{PieceOf}
use Rattle.spec_json.specs.json.Str.{hex_digit, hex_join, hex_word, is_high, is_low, short_escape, pair_follows, unicode_width, unicode_point, escape_width, escape_bytes, char_wide, char_bytes}

-- ---- hexadecimal digits
join_most : (a b c d : ℕ) → hex_join a b c d ≤ 65536
join_most a b c d = go (ltb a 16) (ltb b 16) (ltb c 16) (ltb d 16) refl refl refl refl
  where
    go : (p q r t : Bool) → ltb a 16 ≡ p → ltb b 16 ≡ q → ltb c 16 ≡ r → ltb d 16 ≡ t
        → cond p (cond q (cond r (cond t (a * 4096 + b * 256 + c * 16 + d) 65536) 65536) 65536) 65536 ≤ 65536
    go true true true true h i j k = let h1 = ltb-true a 16 h in let i1 = ltb-true b 16 i in let j1 = ltb-true c 16 j in let k1 = ltb-true d 16 k in omega arith
    go true true true false h i j k = omega arith
    go true true false t h i j k = omega arith
    go true false r t h i j k = omega arith
    go false q r t h i j k = omega arith

pub word_most : (s : List ℕ) → hex_word s ≤ 65536
unfolding hex_word
word_most s = join_most (hex_digit (get_or s 0 0)) (hex_digit (get_or s 1 0)) (hex_digit (get_or s 2 0)) (hex_digit (get_or s 3 0))

high_most : (u : ℕ) → is_high u ≡ true → u < 0xDC00
high_most u e = ltb-true u 0xDC00 (and_right (leb 0xD800 u) (ltb u 0xDC00) e)

pub point_most : (s : List ℕ) (u : ℕ) → u ≡ unicode_point s → u < 1179648
unfolding unicode_point
point_most s u e = go (is_high (hex_word s)) refl (word_most s) (word_most (drop 6 s)) e
  where
    go : (t : Bool) → is_high (hex_word s) ≡ t → hex_word s ≤ 65536 → hex_word (drop 6 s) ≤ 65536
        → u ≡ cond t (0x10000 + (hex_word s - 0xD800) * 1024 + (hex_word (drop 6 s) - 0xDC00)) (hex_word s) → u < 1179648
    go true q a b e = let c = high_most (hex_word s) q in omega arith
    go false q a b e = omega arith

-- the sums of a pair fit
pub pair_fits : (s t : List ℕ) (u v x y : ℕ) (f : Bool) → u ≡ hex_word s → f ≡ is_high u → f ≡ true → v ≡ hex_word t → x ≡ u - 0xD800 → y ≡ v - 0xDC00 → 0x10000 + x * 1024 + y < 2 ^ 64
pair_fits s t u v x y f eu ef h ev ex ey =
    let a = high_most u (sym ef ∙ h) in let b = word_most t in omega arith

pub pair_fits_1 : (s : List ℕ) (u x : ℕ) (f : Bool) → u ≡ hex_word s → f ≡ is_high u → f ≡ true → x ≡ u - 0xD800 → x * 1024 < 2 ^ 64
pair_fits_1 s u x f eu ef h ex = let a = high_most u (sym ef ∙ h) in omega arith

pub pair_fits_2 : (s : List ℕ) (u x : ℕ) (f : Bool) → u ≡ hex_word s → f ≡ is_high u → f ≡ true → x ≡ u - 0xD800 → 0x10000 + x * 1024 < 2 ^ 64
pair_fits_2 s u x f eu ef h ex = let a = high_most u (sym ef ∙ h) in omega arith

-- ---- the width of a character is within the text
pub in_text : (s : List ℕ) (k : ℕ) → (get_or s k 0 ≡ 0 → ⊥) → k < length s
in_text [] k h = absurd (h refl)
in_text (b ∷ s) zero h = omega arith
in_text (b ∷ s) (suc k) h = let z = in_text s k h in omega arith

hex_some : (b : ℕ) → ltb (hex_digit b) 16 ≡ true → b ≡ 0 → ⊥
unfolding hex_digit
hex_some b h e = true≢false (sym h ∙ ap (λ (x : ℕ). ltb (hex_digit x) 16) e)

join_last : (a b c d : ℕ) → hex_join a b c d < 65536 → ltb d 16 ≡ true
join_last a b c d = go (ltb a 16) (ltb b 16) (ltb c 16) (ltb d 16)
  where
    go : (p q r t : Bool) → cond p (cond q (cond r (cond t (a * 4096 + b * 256 + c * 16 + d) 65536) 65536) 65536) 65536 < 65536 → t ≡ true
    go true true true true h = refl
    go true true true false h = absurd (omega arith)
    go true true false t h = absurd (omega arith)
    go true false r t h = absurd (omega arith)
    go false q r t h = absurd (omega arith)

word_in : (s : List ℕ) → hex_word s < 65536 → 4 ≤ length s
unfolding hex_word
word_in s h = let z = in_text s 3 (hex_some (get_or s 3 0) (join_last (hex_digit (get_or s 0 0)) (hex_digit (get_or s 1 0)) (hex_digit (get_or s 2 0)) (hex_digit (get_or s 3 0)) h)) in omega arith

pair_in : (s : List ℕ) → pair_follows s ≡ true → 10 ≤ length s
pair_in s e =
    let l : is_low (hex_word (drop 6 s)) ≡ true = and_right (eqb (get_or s 5 0) 0x75) _ (and_right (eqb (get_or s 4 0) 0x5C) _ e) in
    let u = ltb-true (hex_word (drop 6 s)) 0xE000 (and_right (leb 0xDC00 (hex_word (drop 6 s))) _ l) in
    let z = word_in (drop 6 s) (omega arith) in
    omega (arith, length-drop 6 s)

-- with the two bytes before it
unicode_in : (s : List ℕ) → unicode_width s ≤ length s + 2
unfolding unicode_width
unicode_in s = go (ltb (hex_word s) 65536) (is_high (hex_word s)) (pair_follows s) (is_low (hex_word s)) (λ e. word_in s (ltb-true _ _ e)) (pair_in s)
  where
    go : (p q r t : Bool) → (p ≡ true → 4 ≤ length s) → (r ≡ true → 10 ≤ length s) → cond p (cond q (cond r 12 0) (cond t 0 6)) 0 ≤ length s + 2
    go true true true t h k = let z = k refl in omega arith
    go true true false t h k = omega arith
    go true false r true h k = omega arith
    go true false r false h k = let z = h refl in omega arith
    go false q r t h k = omega arith

escape_in : (s : List ℕ) → escape_width s ≤ length s + 1
unfolding short_escape
escape_in [] = omega arith
escape_in (b ∷ s) = go (eqb b 0x75) (eqb (short_escape b) 0) (unicode_in s)
  where
    go : (p q : Bool) → unicode_width s ≤ length s + 2 → cond p (unicode_width s) (cond q 0 2) ≤ suc (length s) + 1
    go true q h = omega arith
    go false true h = omega arith
    go false false h = omega arith

pub char_in : (s : List ℕ) → char_wide s ≤ length s
unfolding char_wide
char_in [] = omega arith
char_in (b ∷ s) = go (ltb b 0x20) (eqb b 0x22) (eqb b 0x5C) (escape_in s)
  where
    go : (p q r : Bool) → escape_width s ≤ length s + 1 → cond p 0 (cond q 0 (cond r (escape_width s) 1)) ≤ suc (length s)
    go true q r h = omega arith
    go false true r h = omega arith
    go false false true h = omega arith
    go false false false h = omega arith

-- ---- the bytes of a character: one or more, and no more than its width
encode_size : (u : ℕ) → (1 ≤ length (encode u)) × (length (encode u) ≤ 4)
unfolding encode
encode_size u = go (ltb u 0x80) (ltb u 0x800) (ltb u 0x10000)
    (u ∷ []) ((0xC0 + u / 64) ∷ (0x80 + u % 64) ∷ []) ((0xE0 + u / 4096) ∷ (0x80 + u / 64 % 64) ∷ (0x80 + u % 64) ∷ [])
    ((0xF0 + u / 262144) ∷ (0x80 + u / 4096 % 64) ∷ (0x80 + u / 64 % 64) ∷ (0x80 + u % 64) ∷ [])
    refl refl refl refl
  where
    go : (p q r : Bool) (w x y z : List ℕ) → length w ≡ 1 → length x ≡ 2 → length y ≡ 3 → length z ≡ 4
        → (1 ≤ length (cond p w (cond q x (cond r y z)))) × (length (cond p w (cond q x (cond r y z))) ≤ 4)
    go true q r w x y z e f g h = (omega arith, omega arith)
    go false true r w x y z e f g h = (omega arith, omega arith)
    go false false true w x y z e f g h = (omega arith, omega arith)
    go false false false w x y z e f g h = (omega arith, omega arith)

unicode_six : (s : List ℕ) → (unicode_width s ≡ 0 → ⊥) → 6 ≤ unicode_width s
unfolding unicode_width
unicode_six s = go (ltb (hex_word s) 65536) (is_high (hex_word s)) (pair_follows s) (is_low (hex_word s))
  where
    go : (p q r t : Bool) → (◌≡◌ {A = ℕ} (cond p (cond q (cond r 12 0) (cond t 0 6)) 0) 0 → ⊥) → 6 ≤ cond p (cond q (cond r 12 0) (cond t 0 6)) 0
    go true true true t h = omega arith
    go true true false t h = absurd (h refl)
    go true false r true h = absurd (h refl)
    go true false r false h = omega arith
    go false q r t h = absurd (h refl)

escape_size : (s : List ℕ) → (escape_width s ≡ 0 → ⊥) → (1 ≤ length (escape_bytes s)) × (length (escape_bytes s) ≤ escape_width s)
escape_size s = go (eqb (get_or s 0 0) 0x75) (eqb (short_escape (get_or s 0 0)) 0) (encode_size (unicode_point (drop 1 s))) (unicode_six (drop 1 s))
  where
    u : ℕ
    u = unicode_width (drop 1 s)

    v : List ℕ
    v = encode (unicode_point (drop 1 s))

    go : (p q : Bool) → (1 ≤ length v) × (length v ≤ 4) → ((u ≡ 0 → ⊥) → 6 ≤ u) → (◌≡◌ {A = ℕ} (cond p u (cond q 0 2)) 0 → ⊥)
        → (1 ≤ length (cond p v (short_escape (get_or s 0 0) ∷ []))) × (length (cond p v (short_escape (get_or s 0 0) ∷ [])) ≤ cond p u (cond q 0 2))
    go true q e f h = let z = f h in (e.0, omega arith)
    go false true e f h = absurd (h refl)
    go false false e f h = (omega arith, omega arith)

char_by : (b : ℕ) (s : List ℕ) → (char_wide (b ∷ s) ≡ 0 → ⊥) → (1 ≤ length (char_bytes (b ∷ s))) × (length (char_bytes (b ∷ s)) ≤ char_wide (b ∷ s))
unfolding char_wide char_bytes
char_by b s = go (ltb b 0x20) (eqb b 0x22) (eqb b 0x5C) (escape_size s)
  where
    go : (p q r : Bool) → ((escape_width s ≡ 0 → ⊥) → (1 ≤ length (escape_bytes s)) × (length (escape_bytes s) ≤ escape_width s))
        → (◌≡◌ {A = ℕ} (cond p 0 (cond q 0 (cond r (escape_width s) 1))) 0 → ⊥)
        → (1 ≤ length (cond r (escape_bytes s) (b ∷ []))) × (length (cond r (escape_bytes s) (b ∷ [])) ≤ cond p 0 (cond q 0 (cond r (escape_width s) 1)))
    go true q r f h = absurd (h refl)
    go false true r f h = absurd (h refl)
    go false false true f h = f h
    go false false false f h = (omega arith, omega arith)

pub char_size : (s : List ℕ) (w : ℕ) → w ≡ char_wide s → (w ≡ 0 → ⊥) → (1 ≤ length (char_bytes s)) × (length (char_bytes s) ≤ w)
char_size [] w e h = absurd (let z = char_in [] in h (omega arith))
char_size (b ∷ s) w e h = let z = char_by b s (λ q. h (e ∙ q)) in (z.0, omega (arith, z.1))

-- ---- what the functions answer
pub pair_last : (s t : List ℕ) (a b u : ℕ) (f : Bool) → a ≡ get_or s 4 0 → a ≡ 0x5C → b ≡ get_or s 5 0 → b ≡ 0x75 → t ≡ drop 6 s → u ≡ hex_word t → f ≡ is_low u → f ≡ pair_follows s
pair_last s t a b u f ea ha eb hb dt eu ef =
    ef ∙ ap (λ (x : ℕ). is_low x) (eu ∙ ap hex_word dt)
    ∙ ap (λ (x : Bool). x && is_low (hex_word (drop 6 s))) (sym (eq-eqb (get_or s 5 0) 0x75 (sym eb ∙ hb)))
    ∙ ap (λ (x : Bool). x && (eqb (get_or s 5 0) 0x75 && is_low (hex_word (drop 6 s)))) (sym (eq-eqb (get_or s 4 0) 0x5C (sym ea ∙ ha)))

abbrev width_of : (u : ℕ) → Bool → ℕ
width_of u g = cond (ltb u 65536) (cond (is_high u) (cond g 12 0) (cond (is_low u) 0 6)) 0

by_word : (s : List ℕ) (u r : ℕ) → u ≡ hex_word s → r ≡ width_of u (pair_follows s) → r ≡ unicode_width s
unfolding unicode_width
by_word s u r e p = p ∙ ap (λ (x : ℕ). width_of x (pair_follows s)) e

pub word_none : (s : List ℕ) (u : ℕ) → u ≡ hex_word s → 65536 ≤ u → 0 ≡ unicode_width s
word_none s u e h = by_word s u 0 e (no! _ (le-ltb u 65536 h) refl)

module _ (s : List ℕ) (u : ℕ) (f : Bool) (e : u ≡ hex_word s) (l : u < 65536) (ef : f ≡ is_high u) where
  pub word_pair : (g : Bool) → f ≡ true → g ≡ pair_follows s → g ≡ true → 12 ≡ unicode_width s
  word_pair g h eg k = by_word s u 12 e (yes! _ (lt-ltb u 65536 l) (yes! _ (sym ef ∙ h) (yes! _ (sym eg ∙ k) refl)))

  pub word_lone : (g : Bool) → f ≡ true → g ≡ pair_follows s → g ≡ false → 0 ≡ unicode_width s
  word_lone g h eg k = by_word s u 0 e (yes! _ (lt-ltb u 65536 l) (yes! _ (sym ef ∙ h) (no! _ (sym eg ∙ k) refl)))

  pub word_low : (g : Bool) → f ≡ false → g ≡ is_low u → g ≡ true → 0 ≡ unicode_width s
  word_low g h eg k = by_word s u 0 e (yes! _ (lt-ltb u 65536 l) (no! _ (sym ef ∙ h) (yes! _ (sym eg ∙ k) refl)))

  pub word_one : (g : Bool) → f ≡ false → g ≡ is_low u → g ≡ false → 6 ≡ unicode_width s
  word_one g h eg k = by_word s u 6 e (yes! _ (lt-ltb u 65536 l) (no! _ (sym ef ∙ h) (no! _ (sym eg ∙ k) refl)))

pub point_pair : (s t : List ℕ) (u v x y : ℕ) (f : Bool) → u ≡ hex_word s → f ≡ is_high u → f ≡ true → t ≡ drop 6 s → v ≡ hex_word t → x ≡ u - 0xD800 → y ≡ v - 0xDC00 → 0x10000 + x * 1024 + y ≡ unicode_point s
unfolding unicode_point
point_pair s t u v x y f eu ef h dt ev ex ey =
    let w : v ≡ hex_word (drop 6 s) = ev ∙ ap hex_word dt in
    yes! _ (ap (λ (k : ℕ). is_high k) (sym eu) ∙ sym ef ∙ h) (omega arith)

pub point_one : (s : List ℕ) (u : ℕ) (f : Bool) → u ≡ hex_word s → f ≡ is_high u → f ≡ false → u ≡ unicode_point s
unfolding unicode_point
point_one s u f eu ef h = no! _ (ap (λ (k : ℕ). is_high k) (sym eu) ∙ sym ef ∙ h) eu

module _ (s : List ℕ) (b : ℕ) (e : b ≡ get_or s 0 0) where
  pub escape_unicode : (t : List ℕ) (w : ℕ) → b ≡ 0x75 → t ≡ drop 1 s → w ≡ unicode_width t → w ≡ escape_width s
  escape_unicode t w h d p = yes! _ (eq-eqb _ _ (sym e ∙ h)) (p ∙ ap unicode_width d)

  pub escape_none : (k : ℕ) → (b ≡ 0x75 → ⊥) → k ≡ short_escape b → k ≡ 0 → 0 ≡ escape_width s
  escape_none k h p z = no! _ (ne_eqb _ _ (λ q. h (e ∙ q))) (yes! _ (eq-eqb _ _ (ap short_escape (sym e) ∙ sym p ∙ z)) refl)

  pub escape_short : (k : ℕ) → (b ≡ 0x75 → ⊥) → k ≡ short_escape b → (k ≡ 0 → ⊥) → 2 ≡ escape_width s
  escape_short k h p z = no! _ (ne_eqb _ _ (λ q. h (e ∙ q))) (no! _ (ne_eqb _ _ (λ q. z (p ∙ ap short_escape e ∙ q))) refl)

  pub wide_low : b < 0x20 → 0 ≡ char_wide s
  unfolding char_wide
  wide_low h = yes! _ (lt-ltb _ _ (subst (λ (k : ℕ). k < 0x20) e h)) refl

  pub wide_quote : b ≡ 0x22 → 0 ≡ char_wide s
  unfolding char_wide
  wide_quote h = no! _ (le-ltb (get_or s 0 0) 0x20 (omega arith)) (yes! _ (eq-eqb _ _ (sym e ∙ h)) refl)

  pub wide_escape : (t : List ℕ) (w : ℕ) → b ≡ 0x5C → t ≡ drop 1 s → w ≡ escape_width t → w ≡ char_wide s
  unfolding char_wide
  wide_escape t w h d p = no! _ (le-ltb (get_or s 0 0) 0x20 (omega arith)) (no! _ (ne_eqb (get_or s 0 0) 0x22 (λ q. omega arith)) (yes! _ (eq-eqb _ _ (sym e ∙ h)) (p ∙ ap (λ (x : List ℕ). escape_width x) d)))

  pub wide_one : 0x20 ≤ b → (b ≡ 0x22 → ⊥) → (b ≡ 0x5C → ⊥) → 1 ≡ char_wide s
  unfolding char_wide
  wide_one h k l = no! _ (le-ltb (get_or s 0 0) 0x20 (omega arith)) (no! _ (ne_eqb _ _ (λ q. k (e ∙ q))) (no! _ (ne_eqb _ _ (λ q. l (e ∙ q))) refl))

-- ---- pieces
pub piece_one : (u : ℕ) (p : Piece) → PieceOf (u ∷ []) p → u < 0x80 → PieceOf (encode u) p
piece_one u p h l = subst (λ (v : List ℕ). PieceOf v p) (enc_1 u l) h

pub piece_two : (u : ℕ) → 0x80 ≤ u → u < 0x800 → PieceOf (encode u) (record { bytes = (0xC0 + u / 64) ∷ (0x80 + u % 64) ∷ 0 ∷ 0 ∷ []; len = 2 })
piece_two u k l = subst (λ (v : List ℕ). PieceOf v (record { bytes = (0xC0 + u / 64) ∷ (0x80 + u % 64) ∷ 0 ∷ 0 ∷ []; len = 2 })) (enc_2 u k l) (record { bytes = refl; size = refl })

pub piece_three : (u : ℕ) → 0x800 ≤ u → u < 0x10000 → PieceOf (encode u) (record { bytes = (0xE0 + u / 4096) ∷ (0x80 + u / 64 % 64) ∷ (0x80 + u % 64) ∷ 0 ∷ []; len = 3 })
piece_three u k l = subst (λ (v : List ℕ). PieceOf v (record { bytes = (0xE0 + u / 4096) ∷ (0x80 + u / 64 % 64) ∷ (0x80 + u % 64) ∷ 0 ∷ []; len = 3 })) (enc_3 u k l) (record { bytes = refl; size = refl })

pub piece_four : (u : ℕ) → 0x10000 ≤ u → PieceOf (encode u) (record { bytes = (0xF0 + u / 262144) ∷ (0x80 + u / 4096 % 64) ∷ (0x80 + u / 64 % 64) ∷ (0x80 + u % 64) ∷ []; len = 4 })
piece_four u k =
    subst (λ (v : List ℕ). PieceOf v (record { bytes = (0xF0 + u / 262144) ∷ (0x80 + u / 4096 % 64) ∷ (0x80 + u / 64 % 64) ∷ (0x80 + u % 64) ∷ []; len = 4 })) (enc_4 u k)
    (record { bytes = refl; size = refl })

module _ (s : List ℕ) (b : ℕ) (e : b ≡ get_or s 0 0) where
  pub piece_unicode : (t : List ℕ) (u : ℕ) (p : Piece) → b ≡ 0x75 → t ≡ drop 1 s → u ≡ unicode_point t → PieceOf (encode u) p → PieceOf (escape_bytes s) p
  piece_unicode t u p h d eu r = subst (λ (v : List ℕ). PieceOf v p) (yes! _ (eq-eqb _ _ (sym e ∙ h)) (ap encode (eu ∙ ap unicode_point d))) r

  pub piece_short : (k : ℕ) (p : Piece) → (b ≡ 0x75 → ⊥) → k ≡ short_escape b → PieceOf (k ∷ []) p → PieceOf (escape_bytes s) p
  piece_short k p h ek r = subst (λ (v : List ℕ). PieceOf v p) (no! _ (ne_eqb _ _ (λ q. h (e ∙ q))) (ap (λ (x : ℕ). x ∷ []) (ek ∙ ap short_escape e))) r

pub piece_none : (s : List ℕ) → length s ≡ 0 → PieceOf (char_bytes s) (record { bytes = 0 ∷ 0 ∷ 0 ∷ 0 ∷ []; len = 0 })
unfolding char_bytes
piece_none [] e = record { bytes = refl; size = refl }
piece_none (b ∷ s) e = absurd (omega arith)

pub piece_escape : (s t : List ℕ) (p : Piece) → get_or s 0 0 ≡ 0x5C → t ≡ drop 1 s → PieceOf (escape_bytes t) p → PieceOf (char_bytes s) p
unfolding char_bytes
piece_escape s t p h d r = subst (λ (v : List ℕ). PieceOf v p) (yes! _ (eq-eqb _ _ h) (ap (λ (x : List ℕ). escape_bytes x) d)) r

pub piece_plain : (s : List ℕ) (p : Piece) → (length s ≡ 0 → ⊥) → (get_or s 0 0 ≡ 0x5C → ⊥) → PieceOf (get_or s 0 0 ∷ []) p → PieceOf (char_bytes s) p
unfolding char_bytes
piece_plain [] p l h r = absurd (l refl)
piece_plain (b ∷ s) p l h r = subst (λ (v : List ℕ). PieceOf v p) (no! _ (ne_eqb b 0x5C h) refl) r

pub piece_after : (v x l : List ℕ) (at n : ℕ) (p : Piece) → PieceOf v p → x ≡ take p.len p.bytes → n ≡ place_after at x l → n ≡ place_after at v l
piece_after v x l at n p h e r = r ∙ ap (λ (y : List ℕ). place_after at y l) (e ∙ h.bytes)

pub piece_placed : (v x l l' : List ℕ) (at : ℕ) (p : Piece) → PieceOf v p → x ≡ take p.len p.bytes → l' ≡ placed_at at x l → l' ≡ placed_at at v l
piece_placed v x l l' at p h e r = r ∙ ap (λ (y : List ℕ). placed_at at y l) (e ∙ h.bytes)

pub piece_size : (v : List ℕ) (p : Piece) → PieceOf v p → p.len ≡ length v
piece_size v p h = h.size

-- a character that is no escape stands for itself
module _ (s x : List ℕ) (b : ℕ) (e : b ≡ get_or s 0 0) (h : b ≡ 0x5C → ⊥) (ex : x ≡ take 1 s) where
  plain_bytes : x ≡ char_bytes s
  unfolding char_bytes
  plain_bytes = no! _ (ne_eqb _ _ (λ q. h (e ∙ q))) ex

  pub plain_size : length x ≡ length (char_bytes s)
  plain_size = ap length plain_bytes

  pub plain_after : (l : List ℕ) (at n : ℕ) → n ≡ place_after at x l → n ≡ place_after at (char_bytes s) l
  plain_after l at n r = r ∙ ap (λ (y : List ℕ). place_after at y l) plain_bytes

  pub plain_placed : (l l' : List ℕ) (at : ℕ) → l' ≡ placed_at at x l → l' ≡ placed_at at (char_bytes s) l
  plain_placed l l' at r = r ∙ ap (λ (y : List ℕ). placed_at at y l) plain_bytes

pub piece_begins : (v x y : List ℕ) (f : Bool) (p : Piece) → PieceOf v p → x ≡ take p.len p.bytes → f ≡ starts x y → f ≡ true → p.len ≡ cond (starts v y) (length v) 0
piece_begins v x y f p h e ef t = yes! _ (ap (λ (z : List ℕ). starts z y) (sym h.bytes ∙ sym e) ∙ sym ef ∙ t) h.size

pub piece_other : (v x y : List ℕ) (f : Bool) (p : Piece) → PieceOf v p → x ≡ take p.len p.bytes → f ≡ starts x y → f ≡ false → 0 ≡ cond (starts v y) (length v) 0
piece_other v x y f p h e ef t = no! _ (ap (λ (z : List ℕ). starts z y) (sym h.bytes ∙ sym e) ∙ sym ef ∙ t) refl
