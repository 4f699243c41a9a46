-- Laws of x × b / m, for any m above 0.
use Prim.Native.Nat.{ℕ, ◌+◌, ◌-◌, ◌*◌, ◌/◌, ◌%◌, ◌≤◌, ◌<◌}
use mathlib.Core.Path.{◌≡◌, sym, ◌∙◌, ap}
use native.Mathlib.Nat.{div-add-mod', mod-lt, add-mul, mul_right_comm, mul-add-div_right, add_assoc, mul-le-mul, le_of_lt, le_trans, div-lt_iff_lt-mul, div-mul-le_self, lt-div-mul-add, le-div_iff_mul-le, mul-le-mul_right}
use native.Mathlib.Omega.{arith}
use Rattle.spec_time.specs.caption_time.Convert.{scaled_up}

-- a product, with its first factor split at m
pub mul_split : (x m b : ℕ) → x * b ≡ x / m * b * m + x % m * b
mul_split x m b =
    ap (λ (n : ℕ). n * b) (sym (div-add-mod' x m)) ∙ add-mul (x / m * m) (x % m) b ∙
    ap (λ (n : ℕ). n + x % m * b) (mul_right_comm (x / m) m b)

-- x × b / m, down, by parts
pub down_split : (x b : ℕ) {m : ℕ} → 0 < m → x / m * b + x % m * b / m ≡ x * b / m
down_split x b {m} h = sym (ap (λ (n : ℕ). n / m) (mul_split x m b) ∙ mul-add-div_right h (x / m * b) (x % m * b))

-- x × b / m, up, by parts
pub up_split : (x b : ℕ) {m : ℕ} → 0 < m → x / m * b + (x % m * b + (m - 1)) / m ≡ scaled_up x b m
unfolding scaled_up
up_split x b {m} h =
    sym
    (ap (λ (n : ℕ). (n + (m - 1)) / m) (mul_split x m b) ∙
    ap (λ (n : ℕ). n / m) (add_assoc (x / m * b * m) (x % m * b) (m - 1)) ∙
    mul-add-div_right h (x / m * b) (x % m * b + (m - 1)))

-- the part below m, times b, under numerals that bound m and b
pub part_bound : (x b M B : ℕ) {m : ℕ} → 0 < m → m ≤ M → b ≤ B → x % m * b ≤ M * B
part_bound x b M B {m} h hm hb = mul-le-mul (le_trans (le_of_lt (mod-lt x h)) hm) hb

-- rounding down and up, as bounds
pub down_low : (n : ℕ) (m : ℕ) → n / m * m ≤ n
down_low n m = div-mul-le_self n m

pub down_high : (n : ℕ) {m : ℕ} → 0 < m → n < n / m * m + m
down_high n h = lt-div-mul-add h

pub up_low : (x b : ℕ) {m : ℕ} → 0 < m → x * b ≤ scaled_up x b m * m
unfolding scaled_up
up_low x b {m} h = let l : x * b + (m - 1) < (x * b + (m - 1)) / m * m + m = lt-div-mul-add h in omega arith

pub up_high : (x b : ℕ) {m : ℕ} → 0 < m → scaled_up x b m * m < x * b + m
unfolding scaled_up
up_high x b {m} h = omega (arith, div-mul-le_self (x * b + (m - 1)) m)

-- a quotient below a bound
pub quotient_below : {x : ℕ} (k : ℕ) {m : ℕ} → 0 < m → x < k * m → x / m < k
quotient_below k h l = (div-lt_iff_lt-mul h).1 l

-- up is down, or one more
pub up_down : (x b : ℕ) {m : ℕ} → 0 < m → scaled_up x b m ≤ x * b / m + 1
unfolding scaled_up
up_down x b {m} h =
    let l : (x * b + (m - 1)) / m < x * b / m + 2 =
    quotient_below (x * b / m + 2) h (rw add-mul (omega (arith, down_high (x * b) h))) in
    omega arith

-- larger numbers give larger quotients
pub quotient_mono : {a b : ℕ} {m : ℕ} → 0 < m → a ≤ b → a / m ≤ b / m
quotient_mono {a} {b} {m} h l = (le-div_iff_mul-le h).1 (le_trans (div-mul-le_self a m) l)

pub down_mono : {a b : ℕ} (u : ℕ) {m : ℕ} → 0 < m → a ≤ b → a * u / m ≤ b * u / m
down_mono u h l = quotient_mono h (mul-le-mul_right u l)

pub up_mono : {a b : ℕ} (u : ℕ) {m : ℕ} → 0 < m → a ≤ b → scaled_up a u m ≤ scaled_up b u m
unfolding scaled_up
up_mono {a} {b} u {m} h l = quotient_mono h (omega (arith, mul-le-mul_right u l))

pub down_up : (x b : ℕ) {m : ℕ} → 0 < m → x * b / m ≤ scaled_up x b m
unfolding scaled_up
down_up x b {m} h = quotient_mono h (omega arith)

-- two lengths, each rounded down, are at most their sum rounded down
pub down_add : (a b u : ℕ) {m : ℕ} → 0 < m → a * u / m + b * u / m ≤ (a + b) * u / m
down_add a b u {m} h =
    (le-div_iff_mul-le h).1
    (rw (add-mul a b u, add-mul (a * u / m) (b * u / m) m)
    (omega (arith, div-mul-le_self (a * u) m, div-mul-le_self (b * u) m)))
