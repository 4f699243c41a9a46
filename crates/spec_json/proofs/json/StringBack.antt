-- A string that was written is read back, whatever stands behind it.
use Prim.Native.Nat.{ℕ, suc, ◌+◌, ◌/◌, ◌%◌, ◌≤◌, ◌<◌}
use mathlib.Core.Path.{◌≡◌, refl, ap, sym, subst, ◌∙◌}
use mathlib.Core.Bool.{Bool, true, false}
use mathlib.Core.List.{List, [], ◌∷◌, ◌++◌, append_assoc}
use lib.Dec.{eqb, ltb}
use lib.ListN.{length, length-append}
use native.Mathlib.Omega.{arith}
use borrow.Author.Tests.{lt-ltb, le-ltb, le-leb, lt-leb, ne_eqb, eqb-true, eqb-false, ltb-true, ltb-false}
use Rattle.spec_base.specs.base.Width.{by_width}
use Rattle.spec_text.specs.unicode.Encode.{encode}
use Rattle.spec_json.specs.json.Space.{more}
use Rattle.spec_json.specs.json.Str.{hex_digit, hex_word, short_escape, unicode_width, unicode_point, char_wide, char_bytes, chars_width, chars_bytes, string_width, string_bytes}
use Rattle.spec_json.specs.json.Quote.{hex_letter, escaped, escaped_all, quoted}
use Rattle.spec_json.proofs.json.CharsLaws.{plain_bytes}

by_eq : {A : Type 0} (a b : ℕ) → (a ≡ b → A) → ((a ≡ b → ⊥) → A) → A
by_eq {A} a b f g = go (eqb a b) refl
  where
    go : (t : Bool) → eqb a b ≡ t → A
    go true e = f (eqb-true a b e)
    go false e = g (eqb-false a b e)

by_lt : {A : Type 0} (a b : ℕ) → (a < b → A) → (b ≤ a → A) → A
by_lt {A} a b f g = go (ltb a b) refl
  where
    go : (t : Bool) → ltb a b ≡ t → A
    go true e = f (ltb-true a b e)
    go false e = g (ltb-false a b e)

-- ---- hexadecimal digits
letter_low : (n : ℕ) → n < 10 → hex_letter n ≡ 0x30 + n
unfolding hex_letter
letter_low n h = rw (lt-ltb n 10 h)

letter_high : (n : ℕ) → 10 ≤ n → hex_letter n ≡ 0x57 + n
unfolding hex_letter
letter_high n h = rw (le-ltb n 10 h)

digit_low : (n : ℕ) → n < 10 → hex_digit (0x30 + n) ≡ n
unfolding hex_digit
digit_low n h = rw (le-ltb (0x30 + n) 0x30 (omega arith), le-leb (0x30 + n) 0x39 (omega arith)) (omega arith)

digit_high : (n : ℕ) → 10 ≤ n → n < 16 → hex_digit (0x57 + n) ≡ n
unfolding hex_digit
digit_high n l h =
    rw (le-ltb (0x57 + n) 0x30 (omega arith), lt-leb (0x57 + n) 0x39 (omega arith), le-ltb (0x57 + n) 0x41 (omega arith), lt-leb (0x57 + n) 0x46 (omega arith), le-ltb (0x57 + n) 0x61 (omega arith), le-leb (0x57 + n) 0x66 (omega arith))
    (omega arith)

hex_digit_lem : (n : ℕ) → n < 16 → hex_digit (hex_letter n) ≡ n
hex_digit_lem n h =
    by_lt n 10 (λ l. ap hex_digit (letter_low n l) ∙ digit_low n l) (λ l. ap hex_digit (letter_high n l) ∙ digit_high n l h)

zero_digit : hex_digit 0x30 ≡ 0
unfolding hex_digit
zero_digit = refl

hex_word_lem : (b : ℕ) (t : List ℕ) → b < 0x20 → hex_word (0x30 ∷ 0x30 ∷ hex_letter (b / 16) ∷ hex_letter (b % 16) ∷ t) ≡ b
unfolding hex_word
hex_word_lem b t h =
    rw (zero_digit, hex_digit_lem (b / 16) (omega arith), hex_digit_lem (b % 16) (omega arith), lt-ltb (b / 16) 16 (omega arith), lt-ltb (b % 16) 16 (omega arith)) (omega arith)

-- ---- one byte
pub record Piece (b : ℕ) (e : List ℕ) : Type 0 where
  pub head : ℕ
  pub rest : List ℕ
  pub is : e ≡ head ∷ rest
  pub open_still : eqb head 0x22 ≡ false
  pub wide : (t : List ℕ) → char_wide (head ∷ (rest ++ t)) ≡ suc (length rest)
  pub bytes : (t : List ℕ) → char_bytes (head ∷ (rest ++ t)) ≡ b ∷ []

quote_piece : Piece 0x22 (escaped 0x22)
unfolding escaped char_wide char_bytes short_escape
quote_piece = record { head = 0x5C; rest = 0x22 ∷ []; is = refl; open_still = refl; wide = λ t. refl; bytes = λ t. refl }

slash_piece : Piece 0x5C (escaped 0x5C)
unfolding escaped char_wide char_bytes short_escape
slash_piece = record { head = 0x5C; rest = 0x5C ∷ []; is = refl; open_still = refl; wide = λ t. refl; bytes = λ t. refl }

back_piece : Piece 0x08 (escaped 0x08)
unfolding escaped char_wide char_bytes short_escape
back_piece = record { head = 0x5C; rest = 0x62 ∷ []; is = refl; open_still = refl; wide = λ t. refl; bytes = λ t. refl }

tab_piece : Piece 0x09 (escaped 0x09)
unfolding escaped char_wide char_bytes short_escape
tab_piece = record { head = 0x5C; rest = 0x74 ∷ []; is = refl; open_still = refl; wide = λ t. refl; bytes = λ t. refl }

lf_piece : Piece 0x0A (escaped 0x0A)
unfolding escaped char_wide char_bytes short_escape
lf_piece = record { head = 0x5C; rest = 0x6E ∷ []; is = refl; open_still = refl; wide = λ t. refl; bytes = λ t. refl }

ff_piece : Piece 0x0C (escaped 0x0C)
unfolding escaped char_wide char_bytes short_escape
ff_piece = record { head = 0x5C; rest = 0x66 ∷ []; is = refl; open_still = refl; wide = λ t. refl; bytes = λ t. refl }

cr_piece : Piece 0x0D (escaped 0x0D)
unfolding escaped char_wide char_bytes short_escape
cr_piece = record { head = 0x5C; rest = 0x72 ∷ []; is = refl; open_still = refl; wide = λ t. refl; bytes = λ t. refl }

-- a control byte without a letter of its own
control_is : (b : ℕ) → b < 0x20 → (b ≡ 0x08 → ⊥) → (b ≡ 0x09 → ⊥) → (b ≡ 0x0A → ⊥) → (b ≡ 0x0C → ⊥) → (b ≡ 0x0D → ⊥)
    → escaped b ≡ 0x5C ∷ 0x75 ∷ 0x30 ∷ 0x30 ∷ hex_letter (b / 16) ∷ hex_letter (b % 16) ∷ []
unfolding escaped
control_is b h n1 n2 n3 n4 n5 =
    rw (ne_eqb b 0x22 (λ e. omega arith), ne_eqb b 0x5C (λ e. omega arith), lt-ltb b 0x20 h, ne_eqb b 0x08 n1, ne_eqb b 0x09 n2, ne_eqb b 0x0A n3, ne_eqb b 0x0C n4, ne_eqb b 0x0D n5)

control_wide : (b : ℕ) (t : List ℕ) → b < 0x20 → unicode_width (0x30 ∷ 0x30 ∷ hex_letter (b / 16) ∷ hex_letter (b % 16) ∷ t) ≡ 6
unfolding unicode_width
control_wide b t h = rw (hex_word_lem b t h, lt-ltb b 65536 (omega arith), lt-leb 0xD800 b (omega arith), lt-leb 0xDC00 b (omega arith))

control_point : (b : ℕ) (t : List ℕ) → b < 0x20 → unicode_point (0x30 ∷ 0x30 ∷ hex_letter (b / 16) ∷ hex_letter (b % 16) ∷ t) ≡ b
unfolding unicode_point
control_point b t h = rw (hex_word_lem b t h, lt-leb 0xD800 b (omega arith))

encode_low : (b : ℕ) → b < 0x80 → encode b ≡ b ∷ []
unfolding encode
encode_low b h = rw (lt-ltb b 0x80 h)

control_piece : (b : ℕ) → b < 0x20 → escaped b ≡ 0x5C ∷ 0x75 ∷ 0x30 ∷ 0x30 ∷ hex_letter (b / 16) ∷ hex_letter (b % 16) ∷ [] → Piece b (escaped b)
unfolding char_wide char_bytes
control_piece b h e =
    record {
      head = 0x5C;
      rest = 0x75 ∷ 0x30 ∷ 0x30 ∷ hex_letter (b / 16) ∷ hex_letter (b % 16) ∷ [];
      is = e;
      open_still = refl;
      wide = λ t. control_wide b t h;
      bytes = λ t. ap encode (control_point b t h) ∙ encode_low b (omega arith);
    }

-- a byte that stands for itself
pub plain_is : (b : ℕ) → 0x20 ≤ b → (b ≡ 0x22 → ⊥) → (b ≡ 0x5C → ⊥) → escaped b ≡ b ∷ []
unfolding escaped
plain_is b h n1 n2 = rw (ne_eqb b 0x22 n1, ne_eqb b 0x5C n2, le-ltb b 0x20 h)

plain_wide : (b : ℕ) (t : List ℕ) → 0x20 ≤ b → (b ≡ 0x22 → ⊥) → (b ≡ 0x5C → ⊥) → char_wide (b ∷ t) ≡ 1
unfolding char_wide
plain_wide b t h n1 n2 = rw (le-ltb b 0x20 h, ne_eqb b 0x22 n1, ne_eqb b 0x5C n2)

plain_piece : (b : ℕ) → 0x20 ≤ b → (b ≡ 0x22 → ⊥) → (b ≡ 0x5C → ⊥) → Piece b (escaped b)
plain_piece b h n1 n2 =
    record {
      head = b;
      rest = [];
      is = plain_is b h n1 n2;
      open_still = ne_eqb b 0x22 n1;
      wide = λ t. plain_wide b t h n1 n2;
      bytes = λ t. plain_bytes b t n2;
    }

at : (b k : ℕ) → b ≡ k → Piece k (escaped k) → Piece b (escaped b)
at b k e p = subst (λ (x : ℕ). Piece x (escaped x)) (sym e) p

pub piece : (b : ℕ) → Piece b (escaped b)
piece b =
    by_eq b 0x22 (λ e. at b 0x22 e quote_piece) (λ n1.
    by_eq b 0x5C (λ e. at b 0x5C e slash_piece) (λ n2.
    by_lt b 0x20
    (λ h.
    by_eq b 0x08 (λ e. at b 0x08 e back_piece) (λ m1.
    by_eq b 0x09 (λ e. at b 0x09 e tab_piece) (λ m2.
    by_eq b 0x0A (λ e. at b 0x0A e lf_piece) (λ m3.
    by_eq b 0x0C (λ e. at b 0x0C e ff_piece) (λ m4.
    by_eq b 0x0D (λ e. at b 0x0D e cr_piece) (λ m5.
    control_piece b h (control_is b h m1 m2 m3 m4 m5)))))))
    (λ h. plain_piece b h n1 n2)))

-- ---- the characters
-- a character that does not close the string
open_width : (x : ℕ) (s : List ℕ) (w : ℕ) → eqb x 0x22 ≡ false → char_wide (x ∷ s) ≡ suc w → chars_width (x ∷ s) 0 ≡ more (chars_width s w)
unfolding chars_width
open_width x s w h e =
    subst (λ (t : Bool). elim t [ true ↦ 1 | false ↦ by_width (char_wide (x ∷ s)) 0 (λ k. more (chars_width s k)) ] ≡ more (chars_width s w)) (sym h)
    (ap (λ (k : ℕ). by_width k 0 (λ k. more (chars_width s k))) e)

open_bytes_lem : (x : ℕ) (s : List ℕ) (w : ℕ) → eqb x 0x22 ≡ false → char_wide (x ∷ s) ≡ suc w → chars_bytes (x ∷ s) 0 ≡ char_bytes (x ∷ s) ++ chars_bytes s w
unfolding chars_bytes
open_bytes_lem x s w h e =
    subst (λ (t : Bool). elim t [ true ↦ [] | false ↦ by_width (char_wide (x ∷ s)) [] (λ k. char_bytes (x ∷ s) ++ chars_bytes s k) ] ≡ char_bytes (x ∷ s) ++ chars_bytes s w) (sym h)
    (ap (λ (k : ℕ). by_width k [] (λ k. char_bytes (x ∷ s) ++ chars_bytes s k)) e)

-- bytes that are passed over
skip_width : (e t : List ℕ) (n : ℕ) → chars_width t 0 ≡ suc n → chars_width (e ++ t) (length e) ≡ suc (length e + n)
unfolding chars_width
skip_width [] t n h = h ∙ omega arith
skip_width (x ∷ e) t n h = ap more (skip_width e t n h) ∙ omega arith

skip_bytes : (e t : List ℕ) → chars_bytes (e ++ t) (length e) ≡ chars_bytes t 0
unfolding chars_bytes
skip_bytes [] t = refl
skip_bytes (x ∷ e) t = skip_bytes e t

-- a character before others
step_width : (b : ℕ) (e : List ℕ) (t : List ℕ) (n : ℕ) → Piece b e → chars_width t 0 ≡ suc n → chars_width (e ++ t) 0 ≡ suc (length e + n)
step_width b e t n p h =
    subst (λ (l : List ℕ). chars_width (l ++ t) 0 ≡ suc (length l + n)) (sym p.is)
    (open_width p.head (p.rest ++ t) (length p.rest) p.open_still (p.wide t) ∙ ap more (skip_width p.rest t n h) ∙ omega arith)

step_bytes : (b : ℕ) (e : List ℕ) (t : List ℕ) → Piece b e → chars_bytes (e ++ t) 0 ≡ b ∷ chars_bytes t 0
step_bytes b e t p =
    subst (λ (l : List ℕ). chars_bytes (l ++ t) 0 ≡ b ∷ chars_bytes t 0) (sym p.is)
    (open_bytes_lem p.head (p.rest ++ t) (length p.rest) p.open_still (p.wide t)
    ∙ ap (λ (l : List ℕ). l ++ chars_bytes (p.rest ++ t) (length p.rest)) (p.bytes t)
    ∙ ap (λ (l : List ℕ). b ∷ l) (skip_bytes p.rest t))

-- all of them, up to the quotation mark
pub chars_width_lem : (s r : List ℕ) → chars_width (escaped_all s ++ 0x22 ∷ r) 0 ≡ suc (length (escaped_all s))
unfolding escaped_all chars_width
chars_width_lem [] r = refl
chars_width_lem (b ∷ s) r =
    ap (λ (l : List ℕ). chars_width l 0) (append_assoc (escaped b) (escaped_all s) (0x22 ∷ r))
    ∙ step_width b (escaped b) (escaped_all s ++ 0x22 ∷ r) (length (escaped_all s)) (piece b) (chars_width_lem s r)
    ∙ omega (arith, length-append (escaped b) (escaped_all s))

pub chars_bytes_lem : (s r : List ℕ) → chars_bytes (escaped_all s ++ 0x22 ∷ r) 0 ≡ s
unfolding escaped_all chars_bytes
chars_bytes_lem [] r = refl
chars_bytes_lem (b ∷ s) r =
    ap (λ (l : List ℕ). chars_bytes l 0) (append_assoc (escaped b) (escaped_all s) (0x22 ∷ r))
    ∙ step_bytes b (escaped b) (escaped_all s ++ 0x22 ∷ r) (piece b)
    ∙ ap (λ (l : List ℕ). b ∷ l) (chars_bytes_lem s r)

-- a string that was written, and anything behind it
pub string_width_lem : (s r : List ℕ) → string_width (quoted s ++ r) ≡ length (quoted s)
unfolding string_width quoted
string_width_lem s r =
    ap (λ (l : List ℕ). more (chars_width l 0)) (append_assoc (escaped_all s) (0x22 ∷ []) r)
    ∙ ap more (chars_width_lem s r) ∙ omega (arith, length-append (escaped_all s) (0x22 ∷ []))

pub string_bytes_lem : (s r : List ℕ) → string_bytes (quoted s ++ r) ≡ s
unfolding string_bytes quoted
string_bytes_lem s r =
    ap (λ (l : List ℕ). chars_bytes l 0) (append_assoc (escaped_all s) (0x22 ∷ []) r) ∙ chars_bytes_lem s r
