-- Returns under a chain of refusals whose tests are calls: x is what a call answered, and y the definition that it equals.
use mathlib.Core.Path.{◌≡◌, refl, sym, ap, ◌∙◌}
use mathlib.Core.Bool.{Bool, true, false, not, true≢false}
use Prim.Native.Nat.{ℕ, zero, suc, ◌≤◌, ◌<◌}
use native.Mathlib.Omega.{arith}
use lib.Dec.{leb, eqb}
use borrow.Author.Tests.{le-leb, lt-leb, leb-true, eq-eqb, ne_eqb}
use Rattle.spec_base.specs.base.Refusal.{◌or_else◌, fault_unless}
use Rattle.spec_base.proofs.base.RefusalLaws.{unless_held, unless_failed, else_none, else_found}

-- the test of a bad thing
pub stops_bad : {x y : Bool} (k r : ℕ) → leb 1 k ≡ true → x ≡ y → x ≡ true → k ≡ fault_unless (not y) k or_else r
stops_bad {x} {y} k r h e p =
    let f : fault_unless (not y) k ≡ k = unless_failed k (ap not (sym e ∙ p)) in
    let n : 1 ≤ k = leb-true 1 k h in
    sym (else_found (fault_unless (not y) k) r (λ z. omega (arith, f, z, n)) ∙ f)

pub goes_bad : {x y : Bool} (k r v : ℕ) → x ≡ y → x ≡ false → v ≡ r → v ≡ fault_unless (not y) k or_else r
goes_bad k r v e p q = q ∙ sym (else_none r (unless_held k (ap not (sym e ∙ p))))

-- the test of a good thing
pub stops_good : {x y : Bool} (k r : ℕ) → leb 1 k ≡ true → x ≡ y → x ≡ false → k ≡ fault_unless y k or_else r
stops_good {x} {y} k r h e p =
    let f : fault_unless y k ≡ k = unless_failed k (sym e ∙ p) in
    let n : 1 ≤ k = leb-true 1 k h in
    sym (else_found (fault_unless y k) r (λ z. omega (arith, f, z, n)) ∙ f)

pub goes_good : {x y : Bool} (k r v : ℕ) → x ≡ y → x ≡ true → v ≡ r → v ≡ fault_unless y k or_else r
goes_good k r v e p q = q ∙ sym (else_none r (unless_held k (sym e ∙ p)))

-- a limit
pub stops_over : (a b k r : ℕ) → leb 1 k ≡ true → b < a → k ≡ fault_unless (leb a b) k or_else r
stops_over a b k r h l =
    let f : fault_unless (leb a b) k ≡ k = unless_failed k (lt-leb a b l) in
    let n : 1 ≤ k = leb-true 1 k h in
    sym (else_found (fault_unless (leb a b) k) r (λ z. omega (arith, f, z, n)) ∙ f)

pub goes_under : (a b k r v : ℕ) → a ≤ b → v ≡ r → v ≡ fault_unless (leb a b) k or_else r
goes_under a b k r v l q = q ∙ sym (else_none r (unless_held k (le-leb a b l)))

pub last_over : (a b k : ℕ) → b < a → k ≡ fault_unless (leb a b) k
last_over a b k l = sym (unless_failed k (lt-leb a b l))

pub last_under : (a b k : ℕ) → a ≤ b → 0 ≡ fault_unless (leb a b) k
last_under a b k l = sym (unless_held k (le-leb a b l))

pub last_bad : {x y : Bool} (k : ℕ) → x ≡ y → x ≡ true → k ≡ fault_unless (not y) k
last_bad k e p = sym (unless_failed k (ap not (sym e ∙ p)))

pub last_fine : {x y : Bool} (k : ℕ) → x ≡ y → x ≡ false → 0 ≡ fault_unless (not y) k
last_fine k e p = sym (unless_held k (ap not (sym e ∙ p)))

-- two numbers that should be equal
pub stops_other : (a b k r : ℕ) → leb 1 k ≡ true → (a ≡ b → ⊥) → k ≡ fault_unless (eqb a b) k or_else r
stops_other a b zero r h n = absurd (true≢false (sym h))
stops_other a b (suc k) r h n =
    let f : fault_unless (eqb a b) (suc k) ≡ suc k = unless_failed (suc k) (ne_eqb a b n) in
    sym (else_found (fault_unless (eqb a b) (suc k)) r (λ z. omega (arith, f, z)) ∙ f)

pub goes_equal : (a b k r v : ℕ) → a ≡ b → v ≡ r → v ≡ fault_unless (eqb a b) k or_else r
goes_equal a b k r v e q = q ∙ sym (else_none r (unless_held k (eq-eqb a b e)))

pub ruleset refusals = (refl, stops_bad, goes_bad, stops_good, goes_good, stops_over, goes_under, last_over, last_under, last_bad, last_fine)
