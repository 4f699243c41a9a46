-- Reading what was written gives the units back (hours up to 9,999).
use Prim.Native.Nat.{ℕ, zero, suc, ◌+◌, ◌-◌, ◌*◌, ◌/◌, ◌%◌, ◌^◌, ◌≤◌, ◌<◌}
use mathlib.Core.Path.{◌≡◌, refl, ap, sym, subst, ◌∙◌}
use mathlib.Core.Bool.{Bool, true, false}
use mathlib.Core.List.{List, [], ◌∷◌, ◌++◌, append_assoc, append-nil}
use lib.ListN.{length, get_or, length-append}
use lib.Seq.{append_snoc}
use native.Mathlib.Nat.{div-add-mod', mod-lt, div-lt_iff_lt-mul, pow-le-pow_right, lt_of_lt_of_le, pow-suc, mul_assoc}
use native.Mathlib.Omega.{arith}
use borrow.Author.Tests.{eq-eqb, ne_eqb, lt-ltb, le-ltb, lt-leb}
use Rattle.std.specs.Prelude.{Some}
use Rattle.spec_base.proofs.base.Laws.{yes!, no! }
use Rattle.spec_text.specs.text.Number.{digits, value_from, natural, number}
use Rattle.spec_text.specs.pattern.Find.{first, contains, up_to, past}
use Rattle.spec_text.specs.pattern.Piece.{comma}
use Rattle.spec_text.specs.whitespace.White.{white, white_high, trim_head, trim_tail, trim}
use Rattle.spec_text.specs.unicode.Encode.{encode, Scalar}
use Rattle.spec_text.proofs.text.Laws.{digit_some, natural_value, unsigned_none}
use Rattle.spec_text.proofs.unicode.Encoding.{head_other}
use Rattle.spec_text.proofs.unicode.Trailing.{tail_other}
use Rattle.spec_base.specs.base.Limits.{most_hours, most_minutes, most_seconds}
use Rattle.spec_time.specs.caption_time.Kind.{kind_bad, units_of, mark_of, fraction_digits, hour_digits}
use Rattle.spec_time.specs.caption_stamp.Read.{stamp, colon, mark_in, point, time_with, wide_by, wide_from, vtt_time, time_in}
use Rattle.spec_time.specs.caption_stamp.Write.{pad, width, widest, text_with, time_text}
use Rattle.spec_time.proofs.caption_time.Limits.{units_low, fraction_low, fraction_holds}
use Rattle.spec_time.proofs.caption_stamp.Written.{text_some, text_none}
use Rattle.spec_text.proofs.pattern.Free.{Free, free_append, first_free, none_free, up_byte, past_byte, first_one}
use Rattle.spec_time.proofs.caption_stamp.Pad.{pad_length, width_pos, width_pow}

-- a list of digits, and a byte that is none
abbrev pub Digits : List ℕ → Type 0
Digits [] = Unit {0}
Digits (b ∷ s) = ((48 ≤ b) × (b ≤ 57)) × Digits s

abbrev Mark : ℕ → Type 0
Mark c = (b : ℕ) → 48 ≤ b → b ≤ 57 → c ≡ b → ⊥

pub digits_snoc : (xs : List ℕ) (b : ℕ) → Digits xs → 48 ≤ b → b ≤ 57 → Digits (xs ++ b ∷ [])
digits_snoc [] b d l h = ((l, h), tt)
digits_snoc (x ∷ xs) b d l h = (d.0, digits_snoc xs b d.1 l h)

pad_digits : (k n : ℕ) → Digits (pad k n)
unfolding pad
pad_digits zero n = tt
pad_digits (suc k) n = digits_snoc (pad k (n / 10)) (48 + n % 10) (pad_digits k (n / 10)) (omega arith) (omega arith)

digits_free : (c : ℕ) → Mark c → (s : List ℕ) → Digits s → Free c s
digits_free c m [] d = tt
digits_free c m (b ∷ s) d = (m b d.0.0 d.0.1, digits_free c m s d.1)

-- a number read back
pub digits_true : (xs : List ℕ) → Digits xs → digits xs ≡ true
unfolding digits
digits_true [] d = refl
digits_true (b ∷ s) d = sym (yes! _ (digit_some b d.0.0 d.0.1) (sym (digits_true s d.1)))

no_plus : (s : List ℕ) → Digits s → get_or s 0 0 ≡ 0x2B → ⊥
no_plus [] d e = omega arith
no_plus (b ∷ s) d e = omega arith

pub value_pad : (k a n : ℕ) (s : List ℕ) → n < 10 ^ k → value_from a (pad k n ++ s) ≡ value_from (a * 10 ^ k + n) s
unfolding pad value_from
value_pad zero a n s h = ap (λ (m : ℕ). value_from m s) (omega arith)
value_pad (suc k) a n s h =
    let small : n < 10 ^ k * 10 = rw pow-suc at h in
    let d = 48 + n % 10 in
    ap (value_from a) (append_snoc (pad k (n / 10)) d s) ∙ value_pad k a (n / 10) (d ∷ s) (omega arith) ∙
    ap (λ (m : ℕ). value_from m s) (omega (arith, pow-suc 10 k, mul_assoc a (10 ^ k) 10, ap (λ (m : ℕ). a * m) (pow-suc 10 k)))

pub value_nil : (v : ℕ) → value_from v [] ≡ v
unfolding value_from
value_nil v = refl

part_back : (most k n : ℕ) → 0 < k → n < 10 ^ k → n ≤ most → number most (pad k n) ≡ Some n
unfolding number
part_back most k n hk small le =
    let v : value_from 0 (pad k n) ≡ n = ap (value_from 0) (sym (append-nil (pad k n))) ∙ value_pad k 0 n [] small ∙ value_nil (0 * 10 ^ k + n) ∙ omega arith in
    ap (natural most) (sym (unsigned_none (pad k n) (get_or (pad k n) 0 0) refl (no_plus (pad k n) (pad_digits k n))))
    ∙ sym (natural_value most n (pad k n) (omega (arith, pad_length k n)) (digits_true (pad k n) (pad_digits k n)) v le)

-- white space at neither end
digit_white : (u : ℕ) → 48 ≤ u → u ≤ 57 → white u ≡ false
unfolding white white_high
digit_white u l h =
    rw (le-ltb u 9 (omega arith), lt-leb u 13 (omega arith), ne_eqb u 32 (λ e. omega arith), ne_eqb u 0x85 (λ e. omega arith), ne_eqb u 0xA0 (λ e. omega arith), ne_eqb u 0x1680 (λ e. omega arith), lt-ltb u 0x2000 (omega arith))

scalar : (u : ℕ) → u ≤ 57 → Scalar u
scalar u h = record { below = omega arith; plain = λ a b. omega arith }

encode_digit : (u : ℕ) → u ≤ 57 → encode u ≡ u ∷ []
unfolding encode
encode_digit u h = rw (lt-ltb u 0x80 (omega arith))

head_digit : (p r : List ℕ) → Digits p → 0 < length p → trim_head (p ++ r) ≡ p ++ r
head_digit [] r d h = absurd (omega arith)
head_digit (u ∷ p) r d h =
    subst (λ (e : List ℕ). trim_head (e ++ (p ++ r)) ≡ e ++ (p ++ r)) (encode_digit u d.0.1) (head_other u (scalar u d.0.1) (p ++ r) (digit_white u d.0.0 d.0.1))

tail_digit : (s : List ℕ) (u : ℕ) → 48 ≤ u → u ≤ 57 → trim_tail (s ++ u ∷ []) ≡ s ++ u ∷ []
tail_digit s u l h =
    subst (λ (e : List ℕ). trim_tail (s ++ e) ≡ s ++ e) (encode_digit u h) (tail_other u (scalar u h) s (digit_white u l h))

snoc_pad : (A : List ℕ) (mark k f : ℕ) → 0 < k → trim_tail (A ++ (mark ∷ pad k f)) ≡ A ++ (mark ∷ pad k f)
unfolding pad
snoc_pad A mark zero f p = absurd (omega arith)
snoc_pad A mark (suc k) f p =
    let d = 48 + f % 10 in
    let e : A ++ (mark ∷ pad (suc k) f) ≡ (A ++ (mark ∷ pad k (f / 10))) ++ d ∷ [] = sym (append_assoc A (mark ∷ pad k (f / 10)) (d ∷ [])) in
    ap trim_tail e ∙ tail_digit (A ++ (mark ∷ pad k (f / 10))) d (omega arith) (omega arith) ∙ sym e

with_tail : (U frac least mark units : ℕ) → 0 < frac → trim_tail (text_with U frac least mark units) ≡ text_with U frac least mark units
unfolding text_with
with_tail U frac least mark units p =
    snoc_pad (pad (widest least (units / U / 60 / 60)) (units / U / 60 / 60) ++ (58 ∷ pad 2 (units / U / 60 % 60)) ++ (58 ∷ pad 2 (units / U % 60))) mark frac (units % U) p

shape : (U frac least mark units : ℕ)
    → text_with U frac least mark units ≡
    pad (widest least (units / U / 60 / 60)) (units / U / 60 / 60) ++
    58 ∷ (pad 2 (units / U / 60 % 60) ++ 58 ∷ (pad 2 (units / U % 60) ++ mark ∷ pad frac (units % U)))
unfolding text_with
shape U frac least mark units = simp append_assoc

-- nothing to trim
trim_with : (U frac least mark units : ℕ) → 0 < frac → trim (text_with U frac least mark units) ≡ text_with U frac least mark units
unfolding trim
trim_with U frac least mark units hfrac = ap trim_tail headed ∙ with_tail U frac least mark units hfrac
  where
    headed : trim_head (text_with U frac least mark units) ≡ text_with U frac least mark units
    headed =
        let h = units / U / 60 / 60 in
        let w = widest least h in
        ap trim_head (shape U frac least mark units) ∙ head_digit (pad w h) _ (pad_digits w h) (omega (arith, pad_length w h, width_pos h)) ∙ sym (shape U frac least mark units)

module _ (U frac least mark units : ℕ) (hU : 0 < U) (hf : U ≤ 10 ^ frac) (hfrac : 0 < frac) (hm : Mark mark) (hh : units < 36000000 * U) where
  back_with : time_with U mark (text_with U frac least mark units) ≡ stamp units mark
  unfolding time_with
  back_with =
      let total = units / U in
      let h = total / 60 / 60 in
      let m = total / 60 % 60 in
      let s = total % 60 in
      let f = units % U in
      let w = widest least h in
      let t3 : List ℕ = pad 2 s ++ mark ∷ pad frac f in
      let t2 : List ℕ = pad 2 m ++ 58 ∷ t3 in
      let t1 : List ℕ = pad w h ++ 58 ∷ t2 in
      let cm : Mark 58 = λ b l r e. omega arith in
      let hours : total < 36000000 = (div-lt_iff_lt-mul hU).1 hh in
      let wide : h < 10 ^ w =
      lt_of_lt_of_le (width_pow h) (pow-le-pow_right {n = 10} (omega arith) {i = width h} {j = w} (omega arith)) in
      let e : text_with U frac least mark units ≡ t1 = shape U frac least mark units in
      let p1 : past colon t1 ≡ t2 = past_byte 58 (pad w h) t2 (digits_free 58 cm (pad w h) (pad_digits w h)) in
      let p2 : past colon t2 ≡ t3 = past_byte 58 (pad 2 m) t3 (digits_free 58 cm (pad 2 m) (pad_digits 2 m)) in
      let H : number most_hours (up_to colon t1) ≡ Some h =
      ap (number most_hours) (up_byte 58 (pad w h) t2 (digits_free 58 cm (pad w h) (pad_digits w h))) ∙ part_back most_hours w h (omega (arith, width_pos h)) wide (omega arith) in
      let M : number most_minutes (up_to colon t2) ≡ Some m =
      ap (number most_minutes) (up_byte 58 (pad 2 m) t3 (digits_free 58 cm (pad 2 m) (pad_digits 2 m))) ∙ part_back most_minutes 2 m (omega arith) (omega arith) (omega arith) in
      let S : number most_seconds (up_to (mark ∷ []) t3) ≡ Some s =
      ap (number most_seconds) (up_byte mark (pad 2 s) (pad frac f) (digits_free mark hm (pad 2 s) (pad_digits 2 s))) ∙ part_back most_seconds 2 s (omega arith) (omega arith) (omega arith) in
      let F : number (U - 1) (past (mark ∷ []) t3) ≡ Some f =
      ap (number (U - 1)) (past_byte mark (pad 2 s) (pad frac f) (digits_free mark hm (pad 2 s) (pad_digits 2 s))) ∙
      part_back (U - 1) frac f hfrac (omega (arith, mod-lt units hU)) (omega (arith, mod-lt units hU)) in
      let sum : ((h * 60 + m) * 60 + s) ≡ total = omega arith in
      rw (e, p1, p2, H, M, S, F)
      (ap (λ (n : ℕ). stamp n mark) (ap (λ (n : ℕ). n * U + f) sum ∙ div-add-mod' units U))

-- a byte found behind others
found_at : (c : ℕ) (s t : List ℕ) → Free c s → first (c ∷ []) (s ++ c ∷ t) ≡ length s
found_at c s t f = first_free c [] s (c ∷ t) f ∙ omega (arith, first_one c t)

has_byte : (c : ℕ) (s t : List ℕ) → Free c s → contains (c ∷ []) (s ++ c ∷ t) ≡ true
unfolding contains
has_byte c s t f =
    lt-ltb (first (c ∷ []) (s ++ c ∷ t)) (length (s ++ c ∷ t)) (omega (arith, found_at c s t f, length-append s (c ∷ t)))

-- what stands behind its second colon
with_last : (U frac least mark units : ℕ) → past colon (past colon (text_with U frac least mark units)) ≡ pad 2 (units / U % 60) ++ mark ∷ pad frac (units % U)
with_last U frac least mark units =
    let h = units / U / 60 / 60 in
    let m = units / U / 60 % 60 in
    let w = widest least h in
    let cm : Mark 58 = λ b l r e. omega arith in
    let t3 : List ℕ = pad 2 (units / U % 60) ++ mark ∷ pad frac (units % U) in
    let t2 : List ℕ = pad 2 m ++ 58 ∷ t3 in
    ap (λ (s : List ℕ). past colon (past colon s)) (shape U frac least mark units)
    ∙ ap (past colon) (past_byte 58 (pad w h) t2 (digits_free 58 cm (pad w h) (pad_digits w h)))
    ∙ past_byte 58 (pad 2 m) t3 (digits_free 58 cm (pad 2 m) (pad_digits 2 m))

-- a written time of ASS or SRT, read in its kind, is the time (hours up to 9,999), where the mark written is the one that its reading sees
module _ (kind mark units : ℕ) (e : kind_bad kind ≡ false) (z : kind ≡ 2 → ⊥) (hm : Mark mark)
    (seen : mark_in kind (text_with (units_of kind) (fraction_digits kind) (hour_digits kind) mark units) ≡ mark) (h : units < 36000000 * units_of kind) where
  time_back : time_in kind (time_text kind mark units) ≡ stamp units mark
  unfolding time_in
  time_back =
      let U = units_of kind in
      let f = fraction_digits kind in
      let d = hour_digits kind in
      let hU : 0 < U = omega (arith, units_low kind e) in
      let hf : 0 < f = omega (arith, fraction_low kind e) in
      sym
      (no! _ e
      (no! _ (ne_eqb kind 2 z)
      (sym
      (ap (λ (s : List ℕ). time_with U (mark_in kind (trim s)) (trim s)) (text_some kind mark units e) ∙
      ap (λ (s : List ℕ). time_with U (mark_in kind s) s) (trim_with U f d mark units hf) ∙
      ap (λ (k : ℕ). time_with U k (text_with U f d mark units)) seen ∙
      back_with U f d mark units hU (fraction_holds kind e) hf hm h))))

-- ASS has a point; SRT a comma or a point
pub ass_back : (units : ℕ) → units < 36000000 * units_of 0 → time_in 0 (time_text 0 46 units) ≡ stamp units 46
unfolding mark_in mark_of kind_bad
ass_back units h = time_back 0 46 units refl (λ z. omega arith) (λ b l r e. omega arith) refl h

plain_comma : Mark 44
plain_comma = λ b l r e. omega arith

pub comma_back : (units : ℕ) → units < 36000000 * units_of 1 → time_in 1 (time_text 1 44 units) ≡ stamp units 44
unfolding mark_in kind_bad
comma_back units h =
    let front : List ℕ = pad 2 (units / units_of 1 % 60) in
    let free : Free 44 front = digits_free 44 plain_comma front (pad_digits 2 (units / units_of 1 % 60)) in
    let seen : contains comma (front ++ 44 ∷ pad (fraction_digits 1) (units % units_of 1)) ≡ true = has_byte 44 front (pad (fraction_digits 1) (units % units_of 1)) free in
    time_back 1 44 units refl (λ z. omega arith) plain_comma (rw (with_last (units_of 1) (fraction_digits 1) (hour_digits 1) 44 units, seen)) h

pub point_back : (units : ℕ) → units < 36000000 * units_of 1 → time_in 1 (time_text 1 46 units) ≡ stamp units 46
unfolding mark_in kind_bad
point_back units h =
    let front : List ℕ = pad 2 (units / units_of 1 % 60) in
    let back : List ℕ = pad (fraction_digits 1) (units % units_of 1) in
    let f : Free 44 front = digits_free 44 plain_comma front (pad_digits 2 (units / units_of 1 % 60)) in
    let g : Free 44 back = digits_free 44 plain_comma back (pad_digits (fraction_digits 1) (units % units_of 1)) in
    let other : ◌≡◌ {A = ℕ} 44 46 → ⊥ = λ q. omega (arith, q) in
    let none : contains comma (front ++ 46 ∷ back) ≡ false = none_free 44 [] (front ++ 46 ∷ back) (free_append 44 front (46 ∷ back) f (other, g)) in
    time_back 1 46 units refl (λ z. omega arith) (λ b l r e. omega arith) (rw (with_last (units_of 1) (fraction_digits 1) (hour_digits 1) 46 units, none)) h

-- ---- WebVTT: digits of their widths
natural_back : (most k n : ℕ) → 0 < k → n < 10 ^ k → n ≤ most → natural most (pad k n) ≡ Some n
natural_back most k n hk small le =
    let v : value_from 0 (pad k n) ≡ n = ap (value_from 0) (sym (append-nil (pad k n))) ∙ value_pad k 0 n [] small ∙ value_nil (0 * 10 ^ k + n) ∙ omega arith in
    sym (natural_value most n (pad k n) (omega (arith, pad_length k n)) (digits_true (pad k n) (pad_digits k n)) v le)

wide_back : (most k n : ℕ) → 0 < k → n < 10 ^ k → n ≤ most → wide_by k most (pad k n) ≡ Some n
unfolding wide_by
wide_back most k n hk small le = sym (yes! _ (eq-eqb (length (pad k n)) k (pad_length k n)) (sym (natural_back most k n hk small le)))

from_back : (most k n : ℕ) → 2 ≤ k → n < 10 ^ k → n ≤ most → wide_from most (pad k n) ≡ Some n
unfolding wide_from
from_back most k n hk small le = sym (no! _ (le-ltb (length (pad k n)) 2 (omega (arith, pad_length k n))) (sym (natural_back most k n (omega arith) small le)))

pos : (n : ℕ) → 0 < n → 0 < n
pos n h = h

with_vtt : (units : ℕ) → units < 36000000 * 1000 → vtt_time (text_with 1000 3 2 46 units) ≡ stamp units 46
unfolding vtt_time
with_vtt units hh =
    let total = units / 1000 in
    let h = total / 60 / 60 in
    let m = total / 60 % 60 in
    let s = total % 60 in
    let f = units % 1000 in
    let w = widest 2 h in
    let t3 : List ℕ = pad 2 s ++ 46 ∷ pad 3 f in
    let t2 : List ℕ = pad 2 m ++ 58 ∷ t3 in
    let t1 : List ℕ = pad w h ++ 58 ∷ t2 in
    let cm : Mark 58 = λ b l r e. omega arith in
    let pm : Mark 46 = λ b l r e. omega arith in
    let hours : total < 36000000 = (div-lt_iff_lt-mul (pos 1000 (omega arith))).1 hh in
    let wide : h < 10 ^ w =
    lt_of_lt_of_le (width_pow h) (pow-le-pow_right {n = 10} (omega arith) {i = width h} {j = w} (omega arith)) in
    let e : text_with 1000 3 2 46 units ≡ t1 = shape 1000 3 2 46 units in
    let p1 : past colon t1 ≡ t2 = past_byte 58 (pad w h) t2 (digits_free 58 cm (pad w h) (pad_digits w h)) in
    let p2 : past colon t2 ≡ t3 = past_byte 58 (pad 2 m) t3 (digits_free 58 cm (pad 2 m) (pad_digits 2 m)) in
    let c2 : contains colon t2 ≡ true = has_byte 58 (pad 2 m) t3 (digits_free 58 cm (pad 2 m) (pad_digits 2 m)) in
    let H : wide_from most_hours (up_to colon t1) ≡ Some h =
    ap (wide_from most_hours) (up_byte 58 (pad w h) t2 (digits_free 58 cm (pad w h) (pad_digits w h))) ∙ from_back most_hours w h (omega arith) wide (omega arith) in
    let M : wide_by 2 most_minutes (up_to colon t2) ≡ Some m =
    ap (wide_by 2 most_minutes) (up_byte 58 (pad 2 m) t3 (digits_free 58 cm (pad 2 m) (pad_digits 2 m))) ∙ wide_back most_minutes 2 m (omega arith) (omega arith) (omega arith) in
    let S : wide_by 2 most_seconds (up_to point t3) ≡ Some s =
    ap (wide_by 2 most_seconds) (up_byte 46 (pad 2 s) (pad 3 f) (digits_free 46 pm (pad 2 s) (pad_digits 2 s))) ∙ wide_back most_seconds 2 s (omega arith) (omega arith) (omega arith) in
    let F : wide_by 3 999 (past point t3) ≡ Some f =
    ap (wide_by 3 999) (past_byte 46 (pad 2 s) (pad 3 f) (digits_free 46 pm (pad 2 s) (pad_digits 2 s))) ∙ wide_back 999 3 f (omega arith) (omega arith) (omega arith) in
    let sum : ((h * 60 + m) * 60 + s) ≡ total = omega arith in
    rw (e, p1, c2, p2, H, M, S, F)
    (ap (λ (n : ℕ). stamp n 46) (ap (λ (n : ℕ). n * 1000 + f) sum ∙ div-add-mod' units 1000))

-- WebVTT has a point
pub vtt_back : (units : ℕ) → units < 36000000 * units_of 2 → time_in 2 (time_text 2 46 units) ≡ stamp units 46
unfolding time_in kind_bad units_of fraction_digits hour_digits
vtt_back units h =
    ap (λ (s : List ℕ). vtt_time (trim s)) (text_some 2 46 units refl) ∙ ap vtt_time (trim_with 1000 3 2 46 units (omega arith)) ∙ with_vtt units h

-- a byte that is no digit, no `:` and not the mark does not stand in a written time
with_free : (U frac least mark units c : ℕ) → Mark c → (c ≡ 58 → ⊥) → (c ≡ mark → ⊥) → Free c (text_with U frac least mark units)
unfolding text_with
with_free U frac least mark units c m n k =
    let h = units / U / 60 / 60 in
    let w = widest least h in
    let p1 : List ℕ = pad w h in
    let p2 : List ℕ = 58 ∷ pad 2 (units / U / 60 % 60) in
    let p3 : List ℕ = 58 ∷ pad 2 (units / U % 60) in
    let p4 : List ℕ = mark ∷ pad frac (units % U) in
    let free : (j x : ℕ) → Free c (pad j x) = λ j x. digits_free c m (pad j x) (pad_digits j x) in
    free_append c (p1 ++ p2 ++ p3) p4
    (free_append c (p1 ++ p2) p3 (free_append c p1 p2 (free w h) (n, free 2 (units / U / 60 % 60))) (n, free 2 (units / U % 60)))
    (k, free frac (units % U))

pub text_free : (kind mark units c : ℕ) → ((b : ℕ) → 48 ≤ b → b ≤ 57 → c ≡ b → ⊥) → (c ≡ 58 → ⊥) → (c ≡ mark → ⊥) → Free c (time_text kind mark units)
text_free kind mark units c m n k = go (kind_bad kind) refl
  where
    go : (b : Bool) → kind_bad kind ≡ b → Free c (time_text kind mark units)
    go true e = rw (text_none kind mark units e) tt
    go false e = rw (text_some kind mark units e) (with_free (units_of kind) (fraction_digits kind) (hour_digits kind) mark units c m n k)
