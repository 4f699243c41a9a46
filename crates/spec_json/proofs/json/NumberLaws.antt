-- Laws of numbers, as the code walks them.
use mathlib.Core.Path.{◌≡◌, refl, sym, ap, subst, ◌∙◌}
use mathlib.Core.Bool.{Bool, true, false, ◌&&◌, not, cond, true≢false}
use mathlib.Core.List.{List, [], ◌∷◌}
use Prim.Native.Nat.{ℕ, zero, suc, ◌+◌, ◌*◌, ◌-◌, ◌/◌, ◌^◌, ◌≤◌, ◌<◌}
use native.Mathlib.Nat.{le_trans}
use native.Mathlib.Omega.{arith}
use native.Mathlib.Numerals.{add-one}
use borrow.Author.Tests.{eq-eqb, ne_eqb, le-leb, lt-leb, eqb-true, eqb-false, not-true, not-false}
use lib.Dec.{eqb, leb}
use lib.ListN.{length, drop, get_or, length-drop, drop_of_length-le}
use lib.Seq.{drop-cons}
use Rattle.std.specs.Prelude.{Some, None}
use Rattle.spec_base.proofs.base.Laws.{yes!, no!, and_left, and_right}
use Rattle.spec_text.specs.text.Number.{digit, digits, value_from}
use Rattle.spec_text.specs.text.Line.{is_empty}
use Rattle.spec_text.proofs.text.Laws.{digit_low, digit_high, digit_some, digits_other, digits_end, value_step, value_end, value_more}
use Rattle.spec_json.specs.json.Space.{more}
use Rattle.spec_json.specs.json.Num.{digit_run, int_width, minus_width, frac_width, is_exp, sign_width, signed, exp_width, tail_width, number_width, is_plain}
use Rattle.spec_json.specs.json.Plain.{leads_zero, plain_of, plain_number, plain_values}

-- ---- digits
run_stop : (s : List ℕ) (i : ℕ) → digit_run s ≡ i + digit_run (drop i s) → i < length s → digit (get_or s i 0) ≡ false → i ≡ digit_run s
unfolding digit_run
run_stop s i inv h e = let z : digit_run (drop i s) ≡ 0 = rw (drop-cons s i 0 h, e) in omega arith

pub run_low : (s : List ℕ) (i : ℕ) → digit_run s ≡ i + digit_run (drop i s) → i < length s → get_or s i 0 < 0x30 → i ≡ digit_run s
run_low s i inv h e = run_stop s i inv h (digit_low _ e)

pub run_high : (s : List ℕ) (i : ℕ) → digit_run s ≡ i + digit_run (drop i s) → i < length s → 0x39 < get_or s i 0 → i ≡ digit_run s
run_high s i inv h e = run_stop s i inv h (digit_high _ e)

pub run_again : (s : List ℕ) (i : ℕ) → digit_run s ≡ i + digit_run (drop i s) → i < length s → 0x30 ≤ get_or s i 0 → get_or s i 0 ≤ 0x39
    → digit_run s ≡ i + 1 + digit_run (drop (i + 1) s)
unfolding digit_run
run_again s i inv h a b =
    let z : digit_run (drop i s) ≡ suc (digit_run (drop (suc i) s)) = rw (drop-cons s i 0 h, digit_some (get_or s i 0) a b) in
    rw add-one (omega arith)

pub run_all : (s : List ℕ) (i : ℕ) → digit_run s ≡ i + digit_run (drop i s) → length s ≤ i → i ≡ digit_run s
unfolding digit_run
run_all s i inv h = let z : digit_run (drop i s) ≡ 0 = rw (drop_of_length-le s h) in omega arith

pub run_le : (s : List ℕ) → digit_run s ≤ length s
unfolding digit_run
run_le [] = omega arith
run_le (b ∷ s) = go (digit b) (run_le s)
  where
    go : (t : Bool) → digit_run s ≤ length s → cond t (suc (digit_run s)) 0 ≤ suc (length s)
    go true h = omega arith
    go false h = omega arith

-- ---- a fraction and an exponent
pub frac_none : (s : List ℕ) (b : ℕ) → b ≡ get_or s 0 0 → (b ≡ 0x2E → ⊥) → 0 ≡ frac_width s
unfolding frac_width
frac_none s b e h = no! _ (ne_eqb _ _ (λ q. h (e ∙ q))) refl

pub more_some : (n : ℕ) → (n ≡ 0 → ⊥) → n + 1 ≡ more n
more_some zero h = absurd (h refl)
more_some (suc n) h = omega arith

pub frac_bad : (s t : List ℕ) (b n : ℕ) → b ≡ get_or s 0 0 → b ≡ 0x2E → t ≡ drop 1 s → n ≡ digit_run t → n ≡ 0 → 0 ≡ frac_width s
unfolding frac_width
frac_bad s t b n e h d r z = yes! _ (eq-eqb _ _ (sym e ∙ h)) (ap more (sym z ∙ r ∙ ap digit_run d))

pub frac_some : (s t : List ℕ) (b n : ℕ) → b ≡ get_or s 0 0 → b ≡ 0x2E → t ≡ drop 1 s → n ≡ digit_run t → (n ≡ 0 → ⊥) → n + 1 ≡ frac_width s
unfolding frac_width
frac_some s t b n e h d r z = yes! _ (eq-eqb _ _ (sym e ∙ h)) (more_some n z ∙ ap more (r ∙ ap digit_run d))

pub exp_none : (s : List ℕ) (b : ℕ) (f : Bool) → b ≡ get_or s 0 0 → f ≡ is_exp b → not f ≡ true → 0 ≡ exp_width s
unfolding exp_width
exp_none s b f e g h = no! _ (ap is_exp (sym e) ∙ sym g ∙ not-true f h) refl

module _ (s t u : List ℕ) (b k n : ℕ) (f : Bool) (e : b ≡ get_or s 0 0) (g : f ≡ is_exp b) (h : not f ≡ false) (d : t ≡ drop 1 s) (ek : k ≡ sign_width t) (du : u ≡ drop k t) (r : n ≡ digit_run u) where
  run_is : n ≡ digit_run (drop (sign_width (drop 1 s)) (drop 1 s))
  run_is = r ∙ ap digit_run (du ∙ ap (λ (m : ℕ). drop m t) ek ∙ ap (λ (x : List ℕ). drop (sign_width x) x) d)

  sign_is : k ≡ sign_width (drop 1 s)
  sign_is = ek ∙ ap sign_width d

  pub exp_bad : n ≡ 0 → 0 ≡ exp_width s
  unfolding exp_width
  exp_bad z = yes! _ (ap is_exp (sym e) ∙ sym g ∙ not-false f h) (ap (signed (sign_width (drop 1 s))) (sym z ∙ run_is))

  pub exp_some : (n ≡ 0 → ⊥) → k + n + 1 ≡ exp_width s
  unfolding exp_width
  exp_some z = yes! _ (ap is_exp (sym e) ∙ sym g ∙ not-false f h) (signed_some k n z ∙ ap (λ (m : ℕ). signed m n) sign_is ∙ ap (signed (sign_width (drop 1 s))) run_is)
    where
      signed_some : (k n : ℕ) → (n ≡ 0 → ⊥) → k + n + 1 ≡ signed k n
      signed_some k zero h = absurd (h refl)
      signed_some k (suc n) h = omega arith

pub frac_le : (s : List ℕ) → frac_width s ≤ length s
unfolding frac_width
frac_le [] = omega arith
frac_le (b ∷ s) = go (eqb b 0x2E) (digit_run s) (run_le s)
  where
    go : (t : Bool) (n : ℕ) → n ≤ length s → cond t (more n) 0 ≤ suc (length s)
    go true zero h = omega arith
    go true (suc n) h = omega arith
    go false n h = omega arith

sign_le : (s : List ℕ) → sign_width s ≤ 1
sign_le s = go (eqb (get_or s 0 0) 0x2D) (eqb (get_or s 0 0) 0x2B)
  where
    go : (t u : Bool) → cond t 1 (cond u 1 0) ≤ 1
    go true u = omega arith
    go false true = omega arith
    go false false = omega arith

pub exp_le : (s : List ℕ) → exp_width s ≤ length s
unfolding exp_width is_exp
exp_le [] = omega arith
exp_le (b ∷ s) = go (is_exp b) (sign_width s) (digit_run (drop (sign_width s) s)) (sign_le s) (subst (λ (m : ℕ). digit_run (drop (sign_width s) s) ≤ m) (length-drop (sign_width s) s) (run_le (drop (sign_width s) s)))
  where
    go : (t : Bool) (k n : ℕ) → k ≤ 1 → n ≤ length s - k → cond t (signed k n) 0 ≤ suc (length s)
    go true k zero a h = omega arith
    go true k (suc n) a h = omega arith
    go false k n a h = omega arith

-- the sums fit a word, as the length of a slice does
pub frac_fits : (s t : List ℕ) (n : ℕ) → length s < 2 ^ 64 → t ≡ drop 1 s → n ≡ digit_run t → n + 1 < 2 ^ 64
frac_fits s t n h d r = let a : digit_run t ≤ length s - 1 = subst (λ (k : ℕ). digit_run t ≤ k) (ap length d ∙ length-drop 1 s) (run_le t) in omega arith

pub exp_fits : (s t u : List ℕ) (k n : ℕ) → length s < 2 ^ 64 → t ≡ drop 1 s → k ≡ sign_width t → u ≡ drop k t → n ≡ digit_run u → k + n + 1 < 2 ^ 64
exp_fits s t u k n h d ek du r =
    let a : digit_run u ≤ length t - k = subst (λ (m : ℕ). digit_run u ≤ m) (ap length du ∙ length-drop k t) (run_le u) in
    let b : length t ≡ length s - 1 = ap length d ∙ length-drop 1 s in
    let c : sign_width t ≤ 1 = sign_le t in
    omega arith

pub exp_fits_2 : (s t u : List ℕ) (k n : ℕ) → length s < 2 ^ 64 → t ≡ drop 1 s → k ≡ sign_width t → u ≡ drop k t → n ≡ digit_run u → k + n < 2 ^ 64
exp_fits_2 s t u k n h d ek du r = let a = exp_fits s t u k n h d ek du r in omega arith

-- ---- a number
minus_le : (s : List ℕ) → minus_width s ≤ length s
minus_le [] = omega arith
minus_le (b ∷ s) = go (eqb b 0x2D)
  where
    go : (t : Bool) → cond t 1 0 ≤ suc (length s)
    go true = omega arith
    go false = omega arith

int_le : (s : List ℕ) → int_width s ≤ length s
unfolding int_width digit_run
int_le [] = omega arith
int_le (b ∷ s) = go (eqb b 0x30) (run_le (b ∷ s))
  where
    go : (t : Bool) → digit_run (b ∷ s) ≤ suc (length s) → cond t 1 (digit_run (b ∷ s)) ≤ suc (length s)
    go true h = omega arith
    go false h = h

pub cut_le : (f : List ℕ → ℕ) → ((s : List ℕ) → f s ≤ length s) → (s t : List ℕ) (m : ℕ) → t ≡ drop m s → f t ≤ length s - m
cut_le f le s t m e = subst (λ (k : ℕ). f t ≤ k) (ap length e ∙ length-drop m s) (le t)

pub tail_le : (s : List ℕ) → tail_width s ≤ length s
tail_le s =
    let f1 : frac_width s ≤ length s = frac_le s in
    let e1 : exp_width (drop (frac_width s) s) ≤ length s - frac_width s = cut_le exp_width exp_le s (drop (frac_width s) s) (frac_width s) refl in
    omega arith

pub tail_is : (s u : List ℕ) (f e : ℕ) → f ≡ frac_width s → u ≡ drop f s → e ≡ exp_width u → f + e ≡ tail_width s
tail_is s u f e ef du ee = ap (λ (k : ℕ). f + k) (ee ∙ ap exp_width du) ∙ ap (λ (k : ℕ). k + exp_width (drop k s)) ef

pub tail_fits : (s u : List ℕ) (f e : ℕ) → length s < 2 ^ 64 → f ≡ frac_width s → u ≡ drop f s → e ≡ exp_width u → f + e < 2 ^ 64
tail_fits s u f e h ef du ee = let q = tail_is s u f e ef du ee in let l = tail_le s in omega arith

module _ (s a t : List ℕ) (m n e : ℕ) (em : m ≡ minus_width s) (da : a ≡ drop m s) (en : n ≡ int_width a) (dt : t ≡ drop (m + n) s) (ee : e ≡ tail_width t) where
  pub number_part : m + n + e ≤ length s
  number_part =
      let m1 : minus_width s ≤ length s = minus_le s in
      let n1 : int_width a ≤ length s - m = cut_le int_width int_le s a m da in
      let f1 : tail_width t ≤ length s - (m + n) = cut_le (λ x. tail_width x) tail_le s t (m + n) dt in
      omega arith

  pub number_some : (n ≡ 0 → ⊥) → m + n + e ≡ number_width s
  unfolding number_width
  number_some z = go n z refl
    where
      go : (k : ℕ) → (k ≡ 0 → ⊥) → n ≡ k → m + n + e ≡ number_width s
      go zero z q = absurd (z refl)
      go (suc k) z q =
          let i : int_width (drop (minus_width s) s) ≡ suc k = ap (λ (j : ℕ). int_width (drop j s)) (sym em) ∙ ap int_width (sym da) ∙ sym en ∙ q in
          let w : m + n ≡ minus_width s + suc k = omega arith in
          let ft : e ≡ tail_width (drop (minus_width s + suc k) s) = ee ∙ ap (λ (x : List ℕ). tail_width x) (dt ∙ ap (λ (j : ℕ). drop j s) w) in
          rw i (omega arith)

  pub number_fits : length s < 2 ^ 64 → m + n + e < 2 ^ 64
  number_fits h = let q = number_part in omega arith

pub number_none : (s a : List ℕ) (m n : ℕ) → m ≡ minus_width s → a ≡ drop m s → n ≡ int_width a → n ≡ 0 → 0 ≡ number_width s
unfolding number_width
number_none s a m n em da en z =
    let i : int_width (drop (minus_width s) s) ≡ 0 = ap (λ (j : ℕ). int_width (drop j s)) (sym em) ∙ ap int_width (sym da) ∙ sym en ∙ z in
    rw i refl

pub int_part : (s a : List ℕ) (m n : ℕ) → m ≡ minus_width s → a ≡ drop m s → n ≡ int_width a → m + n ≤ length s
int_part s a m n em da en =
    let m1 : minus_width s ≤ length s = minus_le s in
    let n1 : int_width a ≤ length s - m = cut_le int_width int_le s a m da in
    omega arith

-- the sums fit
pub int_fits : (s a : List ℕ) (m n : ℕ) → length s < 2 ^ 64 → m ≡ minus_width s → a ≡ drop m s → n ≡ int_width a → m + n < 2 ^ 64
int_fits s a m n h em da en = let q = int_part s a m n em da en in omega arith

pub number_le : (s : List ℕ) → number_width s ≤ length s
number_le s = go (int_width (drop (minus_width s) s)) refl
  where
    a : List ℕ
    a = drop (minus_width s) s

    n : ℕ
    n = int_width a

    t : List ℕ
    t = drop (minus_width s + n) s

    go : (k : ℕ) → int_width (drop (minus_width s) s) ≡ k → number_width s ≤ length s
    go zero q = subst (λ (w : ℕ). w ≤ length s) (number_none s a (minus_width s) n refl refl refl q) (omega arith)
    go (suc k) q = subst (λ (w : ℕ). w ≤ length s) (number_some s a t (minus_width s) n (tail_width t) refl refl refl refl refl (λ z. omega arith)) (number_part s a t (minus_width s) n (tail_width t) refl refl refl refl refl)

-- ---- a known field
plain_no : (most : ℕ) (s : List ℕ) → is_plain most s ≡ false → None ≡ plain_of most s
unfolding plain_of
plain_no most s e = no! _ e refl

pub plain_none : (most : ℕ) (s : List ℕ) → length s ≡ 0 → None ≡ plain_of most s
unfolding is_plain
plain_none most [] e = plain_no most [] refl
plain_none most (b ∷ s) e = absurd (omega arith)

and_no : (a b c : Bool) → b ≡ false → (a && (b && c)) ≡ false
and_no true b c e = ap (λ (x : Bool). x && c) e
and_no false b c e = refl

and_last : (a b c : Bool) → c ≡ false → (a && (b && c)) ≡ false
and_last true true c e = e
and_last true false c e = refl
and_last false b c e = refl

lead_by : (most b : ℕ) (s : List ℕ) → b ≡ 0x30 → (length (b ∷ s) ≡ 1 → ⊥) → is_plain most (b ∷ s) ≡ false
unfolding is_plain
lead_by most b [] e h = absurd (h refl)
lead_by most b (c ∷ s) e h = and_no (digits (b ∷ c ∷ s)) (cond (eqb b 0x30) false true) (leb (value_from 0 (b ∷ c ∷ s)) most) (sym (yes! _ (eq-eqb b 0x30 e) refl))

pub plain_lead : (most : ℕ) (s : List ℕ) (f : Bool) → (length s ≡ 0 → ⊥) → f ≡ leads_zero s → f ≡ true → None ≡ plain_of most s
unfolding leads_zero
plain_lead most [] f l e h = absurd (l refl)
plain_lead most (b ∷ s) f l e h =
    let q = sym e ∙ h in
    plain_no most (b ∷ s) (lead_by most b s (eqb-true b 0x30 (and_left _ _ q)) (eqb-false _ _ (not-true _ (and_right (eqb b 0x30) _ q))))

zero_alone : (s : List ℕ) (f : Bool) → f ≡ leads_zero s → f ≡ false → get_or s 0 0 ≡ 0x30 → length s ≡ 1
unfolding leads_zero
zero_alone s f e h z = go (eqb (length s) 1) refl (ap (λ (t : Bool). t && not (eqb (length s) 1)) (sym (eq-eqb (get_or s 0 0) 0x30 z)) ∙ sym e ∙ h)
  where
    go : (t : Bool) → eqb (length s) 1 ≡ t → not t ≡ false → length s ≡ 1
    go true q r = eqb-true (length s) 1 q
    go false q r = absurd (true≢false r)

other_by : (most : ℕ) (s : List ℕ) → digits s ≡ false → is_plain most s ≡ false
unfolding is_plain
other_by most [] e = refl
other_by most (b ∷ s) e = ap (λ (t : Bool). t && (cond (eqb b 0x30) (is_empty s) true && leb (value_from 0 (b ∷ s)) most)) e

large_by : (most : ℕ) (s : List ℕ) → most < value_from 0 s → is_plain most s ≡ false
unfolding is_plain
large_by most [] e = refl
large_by most (b ∷ s) e = and_last (digits (b ∷ s)) (cond (eqb b 0x30) (is_empty s) true) (leb (value_from 0 (b ∷ s)) most) (lt-leb _ _ e)

pub plain_low : (most : ℕ) (s : List ℕ) (i : ℕ) → digits s ≡ digits (drop i s) → i < length s → get_or s i 0 < 0x30 → None ≡ plain_of most s
plain_low most s i inv l e = plain_no most s (other_by most s (inv ∙ digits_other s i l (digit_low _ e)))

pub plain_high : (most : ℕ) (s : List ℕ) (i : ℕ) → digits s ≡ digits (drop i s) → i < length s → 0x39 < get_or s i 0 → None ≡ plain_of most s
plain_high most s i inv l e = plain_no most s (other_by most s (inv ∙ digits_other s i l (digit_high _ e)))

plain_large : (most : ℕ) (s : List ℕ) (i v : ℕ) → value_from 0 s ≡ value_from v (drop i s) → i < length s → most < v * 10 + (get_or s i 0 - 0x30) → None ≡ plain_of most s
plain_large most s i v inv l h =
    plain_no most s
    (large_by most s
    (subst (λ (n : ℕ). most < n) (sym (inv ∙ value_step s i v l)) (le_trans h (value_more (drop (suc i) s) (v * 10 + (get_or s i 0 - 0x30))))))

pub plain_small : (most : ℕ) (s : List ℕ) (i v : ℕ) → value_from 0 s ≡ value_from v (drop i s) → i < length s → most < get_or s i 0 - 0x30 → None ≡ plain_of most s
plain_small most s i v inv l h = plain_large most s i v inv l (omega arith)

pub plain_over : (most : ℕ) (s : List ℕ) (i v : ℕ) → value_from 0 s ≡ value_from v (drop i s) → i < length s → get_or s i 0 - 0x30 ≤ most → (most - (get_or s i 0 - 0x30)) / 10 < v → None ≡ plain_of most s
plain_over most s i v inv l k h = plain_large most s i v inv l (omega arith)

value_by : (most v : ℕ) (s : List ℕ) → (length s ≡ 0 → ⊥) → (get_or s 0 0 ≡ 0x30 → length s ≡ 1) → digits s ≡ true → value_from 0 s ≡ v → v ≤ most → is_plain most s ≡ true
unfolding is_plain
value_by most v [] l z d e h = absurd (l refl)
value_by most v (b ∷ s) l z d e h =
    rw (d, le-leb (value_from 0 (b ∷ s)) most (subst (λ (n : ℕ). n ≤ most) (sym e) h)) (go (eqb b 0x30) refl s z)
  where
    go : (t : Bool) → eqb b 0x30 ≡ t → (s : List ℕ) → (b ≡ 0x30 → suc (length s) ≡ 1) → (cond t (is_empty s) true && true) ≡ true
    go true q [] z = refl
    go true q (c ∷ s) z = absurd (let w = z (eqb-true b 0x30 q) in omega arith)
    go false q s z = refl

pub plain_value : (most : ℕ) (s : List ℕ) (i v : ℕ) (f : Bool) → (length s ≡ 0 → ⊥) → f ≡ leads_zero s → f ≡ false → digits s ≡ digits (drop i s) → value_from 0 s ≡ value_from v (drop i s) → v ≤ most → length s ≤ i → Some v ≡ plain_of most s
unfolding plain_of
plain_value most s i v f l z w d e h k =
    let q : value_from 0 s ≡ v = e ∙ value_end s i v k in
    yes! _ (value_by most v s l (zero_alone s f z w) (d ∙ digits_end s i k) q h) (ap Some (sym q))

-- the number and the values of what a field's text says
pub plain_number_lem : (most : ℕ) (s : List ℕ) → plain_number (plain_of most s) ≡ cond (is_plain most s) 0 23
unfolding plain_of
plain_number_lem most s = go (is_plain most s)
  where
    go : (t : Bool) → plain_number (cond t (Some (value_from 0 s)) None) ≡ cond t 0 23
    go true = refl
    go false = refl

pub plain_values_lem : (most : ℕ) (s : List ℕ) → plain_values (plain_of most s) ≡ cond (is_plain most s) (value_from 0 s ∷ []) []
unfolding plain_of
plain_values_lem most s = go (is_plain most s)
  where
    go : (t : Bool) → plain_values (cond t (Some (value_from 0 s)) None) ≡ cond t (value_from 0 s ∷ []) []
    go true = refl
    go false = refl
