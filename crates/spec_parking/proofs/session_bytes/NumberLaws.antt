-- Which numbers refuse a call, and what a told place holds.
use mathlib.Core.Path.{◌≡◌, refl, sym, ap, ◌∙◌}
use mathlib.Core.Logic.{◌⊎◌, inl, inr}
use mathlib.Core.Bool.{Bool, true, false, ◌&&◌, ◌||◌, not, cond}
use mathlib.Core.List.{List}
use Prim.Native.Nat.{ℕ, ◌≤◌, ◌<◌}
use lib.Dec.{eqb, leb}
use native.Mathlib.Omega.{arith}
use borrow.Author.Tests.{ne_eqb, eqb-true, leb-true, le-leb, lt-leb}
use Rattle.spec_base.specs.base.Refusal.{◌or_else◌, fault_unless}
use Rattle.spec_base.proofs.base.Laws.{and_left, and_right}
use Rattle.spec_session.specs.session_state.View.{foreign_of}
use Rattle.spec_parking.specs.parking.Parked.{is_parked, session_in}
use Rattle.spec_parking.specs.parking.Parkings.{take_number}
use Rattle.spec_machine.proofs.session_counts.Numbers.{OfCall}
use Rattle.spec_parking.specs.session_bytes.ByteCalls.{refuses, told_in}
use Rattle.spec_parking.proofs.parking.Kept.{or_cases}

pub refuses_27 : (k : ℕ) → k ≡ 27 → true ≡ refuses k
unfolding refuses
refuses_27 k e = sym (ap (λ (n : ℕ). (leb 15 n && leb n 18) || eqb n 27) e)

pub refuses_below : (k : ℕ) → (k ≡ 27 → ⊥) → k < 15 → false ≡ refuses k
unfolding refuses
refuses_below k n h = sym (rw (ne_eqb k 27 n, lt-leb 15 k h))

or_false : (t : Bool) → (t || false) ≡ t
or_false true = refl
or_false false = refl

pub refuses_above : (k : ℕ) → (k ≡ 27 → ⊥) → 15 ≤ k → leb k 18 ≡ refuses k
unfolding refuses
refuses_above k n h = sym (rw (ne_eqb k 27 n, le-leb 15 k h) (or_false (leb k 18)))

pub told_stays : (k v n : ℕ) (t : Bool) → t ≡ refuses k → t ≡ true → n ≡ told_in k v n
unfolding told_in
told_stays k v n t e z = sym (ap (λ (u : Bool). cond u n v) (sym e ∙ z))

pub told_new : (k v n : ℕ) (t : Bool) → t ≡ refuses k → t ≡ false → v ≡ told_in k v n
unfolding told_in
told_new k v n t e z = sym (ap (λ (u : Bool). cond u n v) (sym e ∙ z))

-- ---- a taking up that is refused refuses the call
by_tests : (p f : Bool) → (fault_unless p 27 or_else fault_unless (not f) 17 ≡ 0 → ⊥) → refuses (fault_unless p 27 or_else fault_unless (not f) 17) ≡ true
unfolding fault_unless ◌or_else◌ refuses
by_tests false f h = refl
by_tests true true h = refl
by_tests true false h = absurd (h refl)

pub take_refuses : (b : List ℕ) → (take_number b ≡ 0 → ⊥) → refuses (take_number b) ≡ true
unfolding take_number
take_refuses b h = by_tests (is_parked b) (foreign_of (session_in b)) h

-- one that is not: the bytes are a parked session
by_zero : (p f : Bool) → fault_unless p 27 or_else fault_unless (not f) 17 ≡ 0 → p ≡ true
unfolding fault_unless ◌or_else◌
by_zero false f e = absurd (let z : ◌≡◌ {A = ℕ} 27 0 = e in omega arith)
by_zero true f e = refl

pub taken_parked : (b : List ℕ) → take_number b ≡ 0 → is_parked b ≡ true
unfolding take_number
taken_parked b e = by_zero (is_parked b) (foreign_of (session_in b)) e

-- ---- a call's own number that refuses is 15 to 18
not_27 : (k : ℕ) → OfCall k → k ≡ 27 → ⊥
not_27 k (inl e) z = omega arith
not_27 k (inr (inl h)) z = omega (arith, h.0, h.1)
not_27 k (inr (inr e)) z = omega arith

pub refuses_between : (k : ℕ) → OfCall k → refuses k ≡ true → (15 ≤ k) × (k ≤ 18)
unfolding refuses
refuses_between k o e = go (or_cases (leb 15 k && leb k 18) (eqb k 27) e)
  where
    go : ((leb 15 k && leb k 18) ≡ true) ⊎ (eqb k 27 ≡ true) → (15 ≤ k) × (k ≤ 18)
    go (inl f) = (leb-true 15 k (and_left (leb 15 k) (leb k 18) f), leb-true k 18 (and_right (leb 15 k) (leb k 18) f))
    go (inr f) = absurd (not_27 k o (eqb-true k 27 f))
