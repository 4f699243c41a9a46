-- What the kinds and the limits of conversions say, and that a conversion within them fits.
use Prim.Native.Nat.{ℕ, zero, suc, ◌*◌, ◌/◌, ◌^◌, ◌≤◌, ◌<◌}
use mathlib.Core.Path.{◌≡◌, refl, sym, ap, ◌∙◌}
use mathlib.Core.Bool.{Bool, true, false, cond, not, true≢false}
use native.Mathlib.Nat.{mul-le-mul}
use native.Mathlib.Omega.{arith}
use borrow.Author.Tests.{le-ltb, le-leb, lt-leb, eq-eqb, ne_eqb, leb-true, ltb-false, not-true}
use lib.Dec.{eqb, ltb, leb}
use Rattle.spec_base.specs.base.Limits.{most_timescale, most_units, most_ticks}
use Rattle.spec_base.specs.base.Refusal.{◌or_else◌, fault_unless}
use Rattle.spec_base.proofs.base.Laws.{yes!, no! }
use Rattle.spec_base.proofs.base.RefusalLaws.{held, unless_held, unless_failed, else_zero, else_here, else_next}
use Rattle.spec_time.specs.declared.caption_time.Converted.{Converted}
use Rattle.spec_time.specs.caption_time.Kind.{kind_bad, units_of, mark_of, fraction_digits, hour_digits}
use Rattle.spec_time.specs.caption_time.Convert.{scaled_up, ticks_of, start_units, end_units, timescale_bad, setting_number, units_number, ticks_number, converted_to, core_timescale, core_units, core_ticks, core_holds, ticks_within, start_within, end_within}
use Rattle.spec_time.proofs.caption_time.Scale.{quotient_below, up_down}

-- ---- kinds
-- by the kind: a claim about every known kind holds when it holds for each
pub by_kind : (P : ℕ → Type 0) → P 0 → P 1 → P 2 → (kind : ℕ) → kind_bad kind ≡ false → P kind
unfolding kind_bad
by_kind P a b c zero e = a
by_kind P a b c (suc zero) e = b
by_kind P a b c (suc (suc zero)) e = c
by_kind P a b c (suc (suc (suc k))) e =
    let none : true ≡ cond (eqb (suc (suc (suc k))) 0) false (cond (eqb (suc (suc (suc k))) 1) false (cond (eqb (suc (suc (suc k))) 2) false true)) =
    no! _ (ne_eqb (suc (suc (suc k))) 0 (λ z. omega arith))
    (no! _ (ne_eqb (suc (suc (suc k))) 1 (λ z. omega arith)) (no! _ (ne_eqb (suc (suc (suc k))) 2 (λ z. omega arith)) refl)) in
    absurd (true≢false (none ∙ e))

module _ (kind : ℕ) (e : kind_bad kind ≡ false) where
  pub units_low : 100 ≤ units_of kind
  unfolding units_of
  units_low = by_kind (λ k. 100 ≤ units_of k) (omega arith) (omega arith) (omega arith) kind e

  pub units_high : units_of kind ≤ 1000
  unfolding units_of
  units_high = by_kind (λ k. units_of k ≤ 1000) (omega arith) (omega arith) (omega arith) kind e

  pub fraction_low : 2 ≤ fraction_digits kind
  unfolding fraction_digits
  fraction_low = by_kind (λ k. 2 ≤ fraction_digits k) (omega arith) (omega arith) (omega arith) kind e

  pub fraction_high : fraction_digits kind ≤ 3
  unfolding fraction_digits
  fraction_high = by_kind (λ k. fraction_digits k ≤ 3) (omega arith) (omega arith) (omega arith) kind e

  pub hour_high : hour_digits kind ≤ 2
  unfolding hour_digits
  hour_high = by_kind (λ k. hour_digits k ≤ 2) (omega arith) (omega arith) (omega arith) kind e

  -- the fraction's digits hold every fraction
  pub fraction_holds : units_of kind ≤ 10 ^ fraction_digits kind
  unfolding units_of fraction_digits
  fraction_holds = by_kind (λ k. units_of k ≤ 10 ^ fraction_digits k) (omega arith) (omega arith) (omega arith) kind e

  -- the mark is no digit
  pub mark_plain : (b : ℕ) → 48 ≤ b → b ≤ 57 → mark_of kind ≡ b → ⊥
  unfolding mark_of
  mark_plain = by_kind (λ k. (b : ℕ) → 48 ≤ b → b ≤ 57 → mark_of k ≡ b → ⊥) (λ b l h z. omega arith) (λ b l h z. omega arith) (λ b l h z. omega arith) kind e

-- ---- limits
pub record Within (kind T mostT value most : ℕ) : Type 0 where
  pub kind_known : kind_bad kind ≡ false
  pub T-low : 1 ≤ T
  pub T-high : T ≤ mostT
  pub value_most : value ≤ most

-- T is good exactly from 1 to its limit
pub timescale_good : (T : ℕ) → 1 ≤ T → T ≤ most_timescale → timescale_bad T ≡ false
unfolding timescale_bad
timescale_good T l h = sym (no! _ (le-ltb T 1 l) (sym (le-ltb most_timescale T h)))

pub timescale_low : (T : ℕ) → timescale_bad T ≡ false → 1 ≤ T
unfolding timescale_bad
timescale_low T e = go (ltb T 1) refl e
  where
    go : (t : Bool) → ltb T 1 ≡ t → cond t true (ltb most_timescale T) ≡ false → 1 ≤ T
    go true q z = absurd (true≢false z)
    go false q z = ltb-false T 1 q

pub timescale_high : (T : ℕ) → timescale_bad T ≡ false → T ≤ most_timescale
unfolding timescale_bad
timescale_high T e = go (ltb T 1) e
  where
    go : (t : Bool) → cond t true (ltb most_timescale T) ≡ false → T ≤ most_timescale
    go true z = absurd (true≢false z)
    go false z = ltb-false most_timescale T z

-- ---- the numbers of lone conversions
pub setting_15 : (kind T : ℕ) (b : Bool) → b ≡ timescale_bad T → b ≡ true → 15 ≡ setting_number kind T
unfolding setting_number
setting_15 kind T b e h =
    else_here (fault_unless (not (timescale_bad T)) 15) _ 15 (sym (unless_failed 15 (ap not (sym e ∙ h)))) (λ z. omega arith)

module _ (kind T : ℕ) (a b : Bool) (ea : a ≡ timescale_bad T) (ha : a ≡ false) (eb : b ≡ kind_bad kind) where
  pub setting_16 : b ≡ true → 16 ≡ setting_number kind T
  unfolding setting_number
  setting_16 h =
      else_next (fault_unless (not (timescale_bad T)) 15) _ 0 16 (sym (unless_held 15 (ap not (sym ea ∙ ha)))) refl
      (sym (unless_failed 16 (ap not (sym eb ∙ h))))

  pub setting_0 : b ≡ false → 0 ≡ setting_number kind T
  unfolding setting_number
  setting_0 h =
      else_next (fault_unless (not (timescale_bad T)) 15) _ 0 0 (sym (unless_held 15 (ap not (sym ea ∙ ha)))) refl
      (sym (unless_held 16 (ap not (sym eb ∙ h))))

module _ (s r value most : ℕ) (e : r ≡ s) (z : r ≡ 0) where
  pub value_over : most < value → 16 ≡ s or_else fault_unless (leb value most) 16
  value_over h = else_next s _ r 16 e z (sym (unless_failed 16 (lt-leb value most h)))

  pub value_within : value ≤ most → 0 ≡ s or_else fault_unless (leb value most) 16
  value_within h = else_next s _ r 0 e z (sym (unless_held 16 (le-leb value most h)))

-- not refused: within the limits
setting_kind : (kind T : ℕ) → setting_number kind T ≡ 0 → (timescale_bad T ≡ false) × (kind_bad kind ≡ false)
unfolding setting_number
setting_kind kind T e =
    let p = else_zero (fault_unless (not (timescale_bad T)) 15) (fault_unless (not (kind_bad kind)) 16) e in
    (not-true _ (held _ 15 (λ z. omega arith) p.0), not-true _ (held _ 16 (λ z. omega arith) p.1))

accepted : (kind T value most : ℕ) → setting_number kind T or_else fault_unless (leb value most) 16 ≡ 0 → Within kind T most_timescale value most
accepted kind T value most e =
    let p = else_zero (setting_number kind T) (fault_unless (leb value most) 16) e in
    let q = setting_kind kind T p.0 in
    record {
      kind_known = q.1;
      T-low = timescale_low T q.0;
      T-high = timescale_high T q.0;
      value_most = leb-true value most (held _ 16 (λ z. omega arith) p.1);
    }

pub units_accepted : (kind T units : ℕ) → units_number kind T units ≡ 0 → Within kind T most_timescale units most_units
unfolding units_number
units_accepted kind T units e = accepted kind T units most_units e

pub ticks_accepted : (kind T ticks : ℕ) → ticks_number kind T ticks ≡ 0 → Within kind T most_timescale ticks most_ticks
unfolding ticks_number
ticks_accepted kind T ticks e = accepted kind T ticks most_ticks e

-- ---- captions' conversions: within the limits they are the conversions
pub core_within : (kind T value most : ℕ) → core_holds kind T value most ≡ true → Within kind T core_timescale value most
unfolding core_holds
core_within kind T value most e = go (kind_bad kind) refl (ltb T 1) refl (ltb core_timescale T) refl e
  where
    go : (a : Bool) → kind_bad kind ≡ a → (b : Bool) → ltb T 1 ≡ b → (c : Bool) → ltb core_timescale T ≡ c
        → cond a false (cond b false (cond c false (leb value most))) ≡ true → Within kind T core_timescale value most
    go true ea b eb c ec q = absurd (true≢false (sym q))
    go false ea true eb c ec q = absurd (true≢false (sym q))
    go false ea false eb true ec q = absurd (true≢false (sym q))
    go false ea false eb false ec q =
        record {
          kind_known = ea;
          T-low = ltb-false T 1 eb;
          T-high = ltb-false core_timescale T ec;
          value_most = leb-true value most q;
        }

core_holds_lem : {kind T value most : ℕ} → Within kind T core_timescale value most → core_holds kind T value most ≡ true
unfolding core_holds
core_holds_lem {kind} {T} {value} {most} w =
    sym (no! _ w.kind_known (no! _ (le-ltb T 1 w.T-low) (no! _ (le-ltb core_timescale T w.T-high) (sym (le-leb value most w.value_most)))))

pub ticks_within_lem : {kind T units : ℕ} → Within kind T core_timescale units core_units → ticks_within kind T units ≡ ticks_of T (units_of kind) units
unfolding ticks_within
ticks_within_lem w = sym (yes! _ (core_holds_lem w) refl)

pub start_within_lem : {kind T ticks : ℕ} → Within kind T core_timescale ticks core_ticks → start_within kind T ticks ≡ start_units T (units_of kind) ticks
unfolding start_within
start_within_lem w = sym (yes! _ (core_holds_lem w) refl)

pub end_within_lem : {kind T ticks : ℕ} → Within kind T core_timescale ticks core_ticks → end_within kind T ticks ≡ end_units T (units_of kind) ticks
unfolding end_within
end_within_lem w = sym (yes! _ (core_holds_lem w) refl)

-- and what a lone conversion takes is within them
widen : {kind T value most more : ℕ} → Within kind T most_timescale value most → most ≤ more → Within kind T core_timescale value more
widen w h =
    record {
      kind_known = w.kind_known;
      T-low = w.T-low;
      T-high = omega (arith, w.T-high);
      value_most = omega (arith, w.value_most);
    }

-- ---- what the calls of a lone conversion answered
pub number_refused : (n m v : ℕ) → n ≡ m → (n ≡ 0 → ⊥) → ◌≡◌ {A = Converted} (record { number = n; value = 0 }) (converted_to m v)
unfolding converted_to
number_refused n m v e h = λ i. record { number = e i; value = no! {r = 0} v (ne_eqb m 0 (λ z. h (e ∙ z))) refl i }

done : (n m v x : ℕ) → n ≡ m → n ≡ 0 → x ≡ v → ◌≡◌ {A = Converted} (record { number = 0; value = x }) (converted_to m v)
unfolding converted_to
done n m v x e z p = λ i. record { number = (sym z ∙ e) i; value = yes! {r = x} 0 (eq-eqb m 0 (sym e ∙ z)) p i }

module _ (kind T value n x : ℕ) (z : n ≡ 0) where
  pub ticks_done : n ≡ units_number kind T value → x ≡ ticks_within kind T value
      → ◌≡◌ {A = Converted} (record { number = 0; value = x }) (converted_to (units_number kind T value) (ticks_of T (units_of kind) value))
  ticks_done e p = done n _ _ x e z (p ∙ ticks_within_lem (widen (units_accepted kind T value (sym e ∙ z)) (omega arith)))

  pub start_done : n ≡ ticks_number kind T value → x ≡ start_within kind T value
      → ◌≡◌ {A = Converted} (record { number = 0; value = x }) (converted_to (ticks_number kind T value) (start_units T (units_of kind) value))
  start_done e p = done n _ _ x e z (p ∙ start_within_lem (widen (ticks_accepted kind T value (sym e ∙ z)) (omega arith)))

  pub end_done : n ≡ ticks_number kind T value → x ≡ end_within kind T value
      → ◌≡◌ {A = Converted} (record { number = 0; value = x }) (converted_to (ticks_number kind T value) (end_units T (units_of kind) value))
  end_done e p = done n _ _ x e z (p ∙ end_within_lem (widen (ticks_accepted kind T value (sym e ∙ z)) (omega arith)))

-- ---- what the calls of a caption's conversion answered
-- the limits that scaling asks for, with u the units of a second
abbrev Fits : ℕ → ℕ → ℕ → Type 0
Fits x by over = (1 ≤ over) × ((by ≤ 2 ^ 30) × ((over ≤ 2 ^ 30) × (x * by / over < 2 ^ 63)))

module _ (kind T value u : ℕ) (b : Bool) (hb : b ≡ true) (eu : u ≡ units_of kind) where
  pub units_fit : b ≡ core_holds kind T value core_units → Fits value T u
  units_fit e =
      let w = core_within kind T value core_units (sym e ∙ hb) in
      let l = units_low kind w.kind_known in
      let h = units_high kind w.kind_known in
      (omega arith, (omega arith, (omega arith, quotient_below (2 ^ 63) (omega arith) (omega (arith, mul-le-mul w.value_most w.T-high)))))

  pub ticks_fit : b ≡ core_holds kind T value core_ticks → Fits value u T
  ticks_fit e =
      let w = core_within kind T value core_ticks (sym e ∙ hb) in
      let l = units_low kind w.kind_known in
      let h : u ≤ 1000 = omega (arith, units_high kind w.kind_known) in
      (omega arith, (omega arith, (omega arith, quotient_below (2 ^ 63) (omega arith) (omega (arith, mul-le-mul w.value_most h)))))

  pub core_ticks_yes : (x : ℕ) → b ≡ core_holds kind T value core_units → x ≡ value * T / u → x ≡ ticks_within kind T value
  unfolding ticks_within ticks_of
  core_ticks_yes x e p = yes! _ (sym e ∙ hb) (p ∙ ap (λ (n : ℕ). value * T / n) eu)

  pub core_start_yes : (x : ℕ) → b ≡ core_holds kind T value core_ticks → x ≡ value * u / T → x ≡ start_within kind T value
  unfolding start_within start_units
  core_start_yes x e p = yes! _ (sym e ∙ hb) (p ∙ ap (λ (n : ℕ). value * n / T) eu)

  pub core_end_yes : (x : ℕ) → b ≡ core_holds kind T value core_ticks → x ≡ scaled_up value u T → x ≡ end_within kind T value
  unfolding end_within end_units
  core_end_yes x e p = yes! _ (sym e ∙ hb) (p ∙ ap (λ (n : ℕ). scaled_up value n T) eu)

-- a session's T and kind, and a value that is not too large: the conversion is exact
module _ (kind T value : ℕ) (k : kind_bad kind ≡ false) (t : timescale_bad T ≡ false) where
  good : (most : ℕ) → value ≤ most → Within kind T core_timescale value most
  good most h =
      record {
        kind_known = k;
        T-low = timescale_low T t;
        T-high = omega (arith, timescale_high T t);
        value_most = h;
      }

  pub ticks_good : value ≤ core_units → ticks_within kind T value ≡ ticks_of T (units_of kind) value
  ticks_good h = ticks_within_lem (good core_units h)

  pub start_good : value ≤ core_ticks → start_within kind T value ≡ start_units T (units_of kind) value
  start_good h = start_within_lem (good core_ticks h)

  pub end_good : value ≤ core_ticks → end_within kind T value ≡ end_units T (units_of kind) value
  end_good h = end_within_lem (good core_ticks h)

-- whatever is converted, the value is a word
pub start_word : (kind T ticks : ℕ) → start_within kind T ticks < 2 ^ 64
unfolding start_within start_units
start_word kind T ticks = go (core_holds kind T ticks core_ticks) refl
  where
    go : (b : Bool) → core_holds kind T ticks core_ticks ≡ b → cond b (ticks * units_of kind / T) 0 < 2 ^ 64
    go true e = omega (arith, (ticks_fit kind T ticks (units_of kind) true refl refl (sym e)).1.1.1)
    go false e = omega arith

pub end_word : (kind T ticks : ℕ) → end_within kind T ticks < 2 ^ 64
unfolding end_within end_units
end_word kind T ticks = go (core_holds kind T ticks core_ticks) refl
  where
    go : (b : Bool) → core_holds kind T ticks core_ticks ≡ b → cond b (scaled_up ticks (units_of kind) T) 0 < 2 ^ 64
    go true e =
        let f = ticks_fit kind T ticks (units_of kind) true refl refl (sym e) in
        omega (arith, f.1.1.1, up_down ticks (units_of kind) f.0)
    go false e = omega arith
