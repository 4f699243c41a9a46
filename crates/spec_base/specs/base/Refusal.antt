-- Refusals in the order in which document 01 lists them. A fault is its number, and 0 is none.
--     fault_unless t k     the fault k, unless the test t holds
--     a or_else b          the first of two
--     first_of f i k       the first of f i, f (i + 1), .., k of them
use Rattle.std.specs.Prelude.{ℕ, zero, suc, Bool, true, false, cond, List, [], eqb}

infixr 20 ◌or_else◌
unfoldable pub ◌or_else◌ : ℕ → ℕ → ℕ
◌or_else◌ zero b = b
◌or_else◌ (suc a) b = suc a

unfoldable pub fault_unless : Bool → ℕ → ℕ
fault_unless true k = 0
fault_unless false k = k

unfoldable pub first_of : (ℕ → ℕ) → ℕ → ℕ → ℕ
first_of f i zero = 0
first_of f i (suc k) = f i or_else first_of f (suc i) k

-- what stands in a lent place after an answer: its value where the number is 0, else what stood there
unfoldable pub left_in : (number value before : ℕ) → ℕ
left_in k v n = cond (eqb k 0) v n

-- what is written: nothing where the call is refused
abbrev pub unless_refused : (refusal : ℕ) → List ℕ → List ℕ
unless_refused k v = cond (eqb k 0) v []
