-- A number that was written is read back, where what stands behind it goes on with no number.
use Prim.Native.Nat.{ℕ, zero, suc, ◌+◌, ◌*◌, ◌/◌, ◌%◌, ◌^◌, ◌≤◌, ◌<◌}
use mathlib.Core.Path.{◌≡◌, refl, ap, sym, subst, ◌∙◌}
use mathlib.Core.Bool.{Bool, true, false, ◌&&◌, cond}
use mathlib.Core.List.{List, [], ◌∷◌, ◌++◌, append-nil}
use lib.Dec.{eqb}
use lib.ListN.{length, get_or, drop}
use lib.Seq.{drop-append_seam}
use native.Mathlib.Omega.{arith}
use borrow.Author.Tests.{le-leb, ne_eqb, eqb-true}
use Rattle.spec_text.specs.text.Number.{digit, digits, value_from}
use Rattle.spec_text.specs.text.Line.{is_empty}
use Rattle.spec_text.proofs.text.Laws.{digit_some}
use Rattle.spec_time.specs.caption_stamp.Write.{pad, width}
use Rattle.spec_time.proofs.caption_stamp.Pad.{width_small, width_big, width_pow, tenths}
use Rattle.spec_json.specs.json.Num.{digit_run, int_width, minus_width, frac_width, is_exp, exp_width, tail_width, number_width, is_plain}
use Rattle.spec_json.specs.json.Quote.{decimal}
use Rattle.spec_time.proofs.caption_stamp.RoundTrip.{value_nil, value_pad, digits_snoc, digits_true, Digits}
use Rattle.spec_json.proofs.json.FrontLaws.{number_with}

-- ---- rows of digits
-- what stands behind a number: no digit, point or letter e
pub record Stops (r : List ℕ) : Type 0 where
  pub digit_not : digit (get_or r 0 0) ≡ false
  pub point_not : eqb (get_or r 0 0) 0x2E ≡ false
  pub e_not : eqb (get_or r 0 0) 0x65 ≡ false
  pub E-not : eqb (get_or r 0 0) 0x45 ≡ false

run_none : (r : List ℕ) → digit (get_or r 0 0) ≡ false → digit_run r ≡ 0
unfolding digit_run
run_none [] h = refl
run_none (b ∷ r) h = rw h

run_all : (s r : List ℕ) → Digits s → digit (get_or r 0 0) ≡ false → digit_run (s ++ r) ≡ length s
unfolding digit_run
run_all [] r d h = run_none r h
run_all (b ∷ s) r d h = rw (digit_some b d.0.0 d.0.1) (ap suc (run_all s r d.1 h))

-- ---- a number as it is written
pub record Plain (n : ℕ) (l : List ℕ) : Type 0 where
  pub head : ℕ
  pub rest : List ℕ
  pub is : l ≡ head ∷ rest
  pub low : 0x30 ≤ head
  pub high : head ≤ 0x39
  pub others : Digits rest
  pub lead : 1 ≤ n → head ≡ 0x30 → ⊥
  pub alone : n ≡ 0 → rest ≡ []

one_digit : (n : ℕ) → n < 10 → decimal n ≡ (0x30 + n % 10) ∷ []
unfolding decimal pad
one_digit n h = ap (λ (k : ℕ). pad k n) (width_small h)

more_digits : (n : ℕ) → 10 ≤ n → decimal n ≡ decimal (n / 10) ++ (0x30 + n % 10) ∷ []
unfolding decimal pad
more_digits n h = ap (λ (k : ℕ). pad k n) (width_big h)

pub plain : (n : ℕ) → Plain n (decimal n)
plain =
    tenths (λ n. Plain n (decimal n))
    (λ n h.
    record {
      head = 0x30 + n % 10;
      rest = [];
      is = one_digit n h;
      low = omega arith;
      high = omega arith;
      others = tt;
      lead = λ p e. omega arith;
      alone = λ e. refl;
    })
    (λ n h p.
    record {
      head = p.head;
      rest = p.rest ++ (0x30 + n % 10) ∷ [];
      is = more_digits n h ∙ ap (λ (l : List ℕ). l ++ (0x30 + n % 10) ∷ []) p.is;
      low = p.low;
      high = p.high;
      others = digits_snoc p.rest (0x30 + n % 10) p.others (omega arith) (omega arith);
      lead = λ q e. p.lead (omega arith) e;
      alone = λ e. absurd (omega arith);
    })

pub decimal_digits : (n : ℕ) → Digits (decimal n)
decimal_digits n = let p = plain n in subst Digits (sym p.is) ((p.low, p.high), p.others)

-- ---- its value
pub decimal_value : (n : ℕ) → value_from 0 (decimal n) ≡ n
unfolding decimal
decimal_value n =
    ap (value_from 0) (sym (append-nil (pad (width n) n))) ∙ value_pad (width n) 0 n [] (width_pow n) ∙ value_nil (0 * 10 ^ width n + n) ∙ omega arith

-- ---- as a plain number, and as a number of RFC 8259
plain_by : (most : ℕ) (b : ℕ) (s : List ℕ) → digits (b ∷ s) ≡ true → (b ≡ 0x30 → s ≡ []) → value_from 0 (b ∷ s) ≤ most → is_plain most (b ∷ s) ≡ true
unfolding is_plain
plain_by most b s d z v = rw (d, le-leb (value_from 0 (b ∷ s)) most v) (go (eqb b 0x30) refl)
  where
    go : (t : Bool) → eqb b 0x30 ≡ t → (cond t (is_empty s) true && true) ≡ true
    go true e = rw (z (eqb-true b 0x30 e))
    go false e = refl

by_zero : {A : Type 0} (n : ℕ) → (n ≡ 0 → A) → (1 ≤ n → A) → A
by_zero zero f g = f refl
by_zero (suc n) f g = g (omega arith)

pub decimal_plain : (most n : ℕ) → n ≤ most → is_plain most (decimal n) ≡ true
decimal_plain most n h =
    let p = plain n in
    let d : digits (p.head ∷ p.rest) ≡ true = subst (λ (l : List ℕ). digits l ≡ true) p.is (digits_true (decimal n) (decimal_digits n)) in
    let v : value_from 0 (p.head ∷ p.rest) ≡ n = ap (value_from 0) (sym p.is) ∙ decimal_value n in
    subst (λ (l : List ℕ). is_plain most l ≡ true) (sym p.is)
    (plain_by most p.head p.rest d (λ e. by_zero n (λ z. p.alone z) (λ q. absurd (p.lead q e))) (omega arith))

tail_none : (r : List ℕ) → Stops r → tail_width r ≡ 0
unfolding frac_width exp_width is_exp
tail_none r s = rw (s.point_not, s.e_not, s.E-not)

int_by : (b : ℕ) (s r : List ℕ) → Digits (b ∷ s) → (b ≡ 0x30 → s ≡ []) → digit (get_or r 0 0) ≡ false → int_width (b ∷ (s ++ r)) ≡ suc (length s)
unfolding int_width
int_by b s r d z h = go (eqb b 0x30) refl
  where
    go : (t : Bool) → eqb b 0x30 ≡ t → cond t 1 (digit_run (b ∷ (s ++ r))) ≡ suc (length s)
    go true e = rw (z (eqb-true b 0x30 e))
    go false e = run_all (b ∷ s) r d h

no_minus : (b : ℕ) (t : List ℕ) → 0x30 ≤ b → minus_width (b ∷ t) ≡ 0
no_minus b t h = rw (ne_eqb b 0x2D (λ e. omega arith))

number_by : (b : ℕ) (s r : List ℕ) → Digits (b ∷ s) → (b ≡ 0x30 → s ≡ []) → Stops r → number_width (b ∷ (s ++ r)) ≡ suc (length s)
number_by b s r d z h =
    let count : 0 + suc (length s) ≡ suc (length s) = omega arith in
    let behind : drop (0 + suc (length s)) (b ∷ (s ++ r)) ≡ r = ap (λ (k : ℕ). drop k (b ∷ (s ++ r))) count ∙ drop-append_seam s r in
    let none : tail_width (drop (0 + suc (length s)) (b ∷ (s ++ r))) ≡ 0 = ap tail_width behind ∙ tail_none r h in
    number_with (b ∷ (s ++ r)) 0 (length s) (no_minus b (s ++ r) d.0.0) (int_by b s r d z h.digit_not) ∙ omega (arith, none)

pub number_width_lem : (n : ℕ) (r : List ℕ) → Stops r → number_width (decimal n ++ r) ≡ length (decimal n)
number_width_lem n r h =
    let p = plain n in
    subst (λ (l : List ℕ). number_width (l ++ r) ≡ length l) (sym p.is)
    (number_by p.head p.rest r ((p.low, p.high), p.others) (λ e. by_zero n (λ z. p.alone z) (λ q. absurd (p.lead q e))) h)
