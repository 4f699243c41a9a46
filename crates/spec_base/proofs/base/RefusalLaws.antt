-- Laws of `or_else`, `fault_unless` and `first_of`: what a run of tests, or a loop that leaves at the first fault, has to show.
use Prim.Native.Nat.{ℕ, zero, suc, ◌+◌, ◌-◌, ◌≤◌, ◌<◌}
use mathlib.Core.Bool.{Bool, true, false}
use mathlib.Core.Path.{◌≡◌, refl, sym, ap, subst, ◌∙◌}
use native.Mathlib.Omega.{arith}
use native.Mathlib.Numerals.{add-one}
use native.Mathlib.Nat.{eq-or-lt_of_le}
use mathlib.Core.Logic.{◌⊎◌, inl, inr, ⊎_elim}
use Rattle.spec_base.specs.base.Refusal.{◌or_else◌, fault_unless, first_of}

-- a test that held, and one that failed
pub unless_held : {t : Bool} (k : ℕ) → t ≡ true → fault_unless t k ≡ 0
unfolding fault_unless
unless_held {t} k e = rw e

pub unless_failed : {t : Bool} (k : ℕ) → t ≡ false → fault_unless t k ≡ k
unfolding fault_unless
unless_failed {t} k e = rw e

-- no fault: the test held
pub held : (t : Bool) (k : ℕ) → (k ≡ 0 → ⊥) → fault_unless t k ≡ 0 → t ≡ true
unfolding fault_unless
held true k h e = refl
held false k h e = absurd (h e)

-- no fault in the first: the second decides
pub else_none : {a : ℕ} (b : ℕ) → a ≡ 0 → a or_else b ≡ b
unfolding ◌or_else◌
else_none b e = rw e

-- a fault in the first decides
pub else_found : (a b : ℕ) → (a ≡ 0 → ⊥) → a or_else b ≡ a
unfolding ◌or_else◌
else_found zero b h = absurd (h refl)
else_found (suc a) b h = refl

-- both without a fault, and the way back
pub else_zero : (a b : ℕ) → a or_else b ≡ 0 → (a ≡ 0) × (b ≡ 0)
unfolding ◌or_else◌
else_zero zero b e = (refl, e)
else_zero (suc a) b e = absurd (omega arith)

-- where an answer comes from
pub else_either : (a b v : ℕ) → a or_else b ≡ v → (a ≡ v) ⊎ ((a ≡ 0) × (b ≡ v))
unfolding ◌or_else◌
else_either zero b v e = inr (refl, e)
else_either (suc a) b v e = inl e

-- the first is the result r of a call: r has a fault and is returned; r has none and v, the answer of the rest, is returned
pub else_here : (a b r : ℕ) → r ≡ a → (r ≡ 0 → ⊥) → r ≡ a or_else b
else_here a b r q h = q ∙ sym (else_found a b (λ z. h (q ∙ z)))

pub else_next : (a b r v : ℕ) → r ≡ a → r ≡ 0 → v ≡ b → v ≡ a or_else b
else_next a b r v q z e = e ∙ sym (else_none b (sym q ∙ z))

-- nothing is left
pub none_refused : (f : ℕ → ℕ) (i k : ℕ) → k ≡ 0 → first_of f i k ≡ 0
unfolding first_of
none_refused f i k e = rw e

-- f i has no fault: what is left starts one further, with the count as the code has it
pub first_step : (f : ℕ → ℕ) (i k : ℕ) → f i ≡ 0 → first_of f i (suc k) ≡ first_of f (i + 1) k
unfolding first_of
first_step f i k e = rw add-one (else_none _ e)

-- the same for a loop from i up to e
pub first_next : (f : ℕ → ℕ) (i e : ℕ) → i < e → f i ≡ 0 → first_of f i (e - i) ≡ first_of f (i + 1) (e - (i + 1))
first_next f i e l h =
    let q : e - i ≡ suc (e - (i + 1)) = omega arith in
    ap (first_of f i) q ∙ first_step f i (e - (i + 1)) h

-- f i has a fault: it is the first
here : (f : ℕ → ℕ) (i k : ℕ) → (f i ≡ 0 → ⊥) → first_of f i (suc k) ≡ f i
unfolding first_of
here f i k h = else_found _ _ h

pub first_here : (f : ℕ → ℕ) (i e : ℕ) → i < e → (f i ≡ 0 → ⊥) → first_of f i (e - i) ≡ f i
first_here f i e l h =
    let q : e - i ≡ suc (e - (i + 1)) = omega arith in
    ap (first_of f i) q ∙ here f i (e - (i + 1)) h

-- no first fault: none at each place
pub first_zero : (f : ℕ → ℕ) (i k : ℕ) → first_of f i k ≡ 0 → (j : ℕ) → i ≤ j → j < i + k → f j ≡ 0
unfolding first_of
first_zero f i zero e j a b = absurd (omega arith)
first_zero f i (suc k) e j a b =
    let z : (f i ≡ 0) × (first_of f (suc i) k ≡ 0) = else_zero _ _ e in
    ⊎_elim (λ q. subst (λ (x : ℕ). f x ≡ 0) q z.0) (λ l. first_zero f (suc i) k z.1 j l (omega arith)) (eq-or-lt_of_le a)

-- A loop from i up to e that leaves at the first fault. Its invariant: what is left of the search, `first_of f i (e - i)`, is the whole answer v.
--     left-start    the invariant where the loop begins
--     left-next     f i has no fault: the invariant at i + 1
--     left_here     f i has the fault r, which is returned
--     left-done     the loop is over: 0 is returned
pub left_start : (f : ℕ → ℕ) (i k e : ℕ) → e ≡ i + k → first_of f i (e - i) ≡ first_of f i k
left_start f i k e q = ap (first_of f i) (omega arith)

pub left_next : (f : ℕ → ℕ) (i e v : ℕ) → first_of f i (e - i) ≡ v → i < e → f i ≡ 0 → first_of f (i + 1) (e - (i + 1)) ≡ v
left_next f i e v inv l h = sym (first_next f i e l h) ∙ inv

pub left_here : (f : ℕ → ℕ) (i e v r : ℕ) → first_of f i (e - i) ≡ v → i < e → r ≡ f i → (r ≡ 0 → ⊥) → r ≡ v
left_here f i e v r inv l q h = q ∙ sym (first_here f i e l (λ z. h (q ∙ z))) ∙ inv

pub left_done : (f : ℕ → ℕ) (i e v : ℕ) → first_of f i (e - i) ≡ v → e ≤ i → 0 ≡ v
left_done f i e v inv l = sym (none_refused f i (e - i) (omega arith)) ∙ inv
