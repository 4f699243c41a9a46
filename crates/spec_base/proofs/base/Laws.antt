-- Laws that every crate cites: `cond` at a known test, tests of what calls answered, shortened slices.
use mathlib.Core.Path.{◌≡◌, refl, sym, ap, subst, ◌∙◌}
use mathlib.Core.Bool.{Bool, true, false, cond, ◌&&◌, ◌||◌, true≢false, not}
use mathlib.Core.List.{List}
use Prim.Native.Nat.{ℕ, ◌-◌, ◌≤◌, ◌<◌, zero, suc}
use native.Mathlib.Omega.{arith}
use borrow.Author.Tests.{lt-ltb, le-ltb, le-leb, lt-leb, eq-eqb, ne_eqb, ltb-true, ltb-false}
use lib.Dec.{eqb, ltb, leb}
use lib.ListN.{length, drop, length-drop, get_or, replicate}

-- ---- a `cond` whose test holds, and one whose test fails
pub yes! : {A : Type 0} {t : Bool} {a r : A} (b : A) → t ≡ true → r ≡ a → r ≡ cond t a b
yes! {A} {t} {a} {r} b e p = p ∙ ap (λ (u : Bool). cond u a b) (sym e)

pub no! : {A : Type 0} {t : Bool} {b r : A} (a : A) → t ≡ false → r ≡ b → r ≡ cond t a b
no! {A} {t} {b} {r} a e p = p ∙ ap (λ (u : Bool). cond u a b) (sym e)

-- a test of what a call answered: x is the answer, and y the definition that it equals
pub via_true : {x y : Bool} → x ≡ y → x ≡ true → y ≡ true
via_true e p = sym e ∙ p

pub via_false : {x y : Bool} → x ≡ y → x ≡ false → y ≡ false
via_false e p = sym e ∙ p

pub lt_via : (a x y : ℕ) → x ≡ y → a < x → ltb a y ≡ true
lt_via a x y e p = lt-ltb a y (subst (λ (n : ℕ). a < n) e p)

pub le_via : (a x y : ℕ) → x ≡ y → x ≤ a → ltb a y ≡ false
le_via a x y e p = le-ltb a y (subst (λ (n : ℕ). n ≤ a) e p)

pub via_lt : (a x y : ℕ) → x ≡ y → x < a → ltb y a ≡ true
via_lt a x y e p = lt-ltb y a (subst (λ (n : ℕ). n < a) e p)

pub via_le : (a x y : ℕ) → x ≡ y → a ≤ x → ltb y a ≡ false
via_le a x y e p = le-ltb y a (subst (λ (n : ℕ). a ≤ n) e p)

pub via_eq : (a x y : ℕ) → x ≡ y → x ≡ a → eqb y a ≡ true
via_eq a x y e p = eq-eqb y a (sym e ∙ p)

pub via_ne : (a x y : ℕ) → x ≡ y → (x ≡ a → ⊥) → eqb y a ≡ false
via_ne a x y e p = ne_eqb y a (λ q. p (e ∙ q))

-- what closes a return under a chain of tests, by `search chain depth 12`; `calls` where the tests are of what calls answered
pub ruleset chain = (yes!, no!, lt-ltb, le-ltb, le-leb, lt-leb, eq-eqb, ne_eqb, refl)

pub ruleset calls = (chain, via_true, via_false, lt_via, le_via, via_lt, via_le, via_eq, via_ne)

-- ---- a slice that a turn shortens
pub drop_less : (t u : List ℕ) (w : ℕ) → u ≡ drop w t → 0 < length t → (w ≡ 0 → ⊥) → length u < length t
drop_less t u w e l n = subst (λ (x : List ℕ). length x < length t) (sym e) (simp length-drop (omega arith))

pub less_less : (n m w : ℕ) → m ≡ n - w → 0 < n → (w ≡ 0 → ⊥) → m < n
less_less n m w e l z = omega arith

-- ---- `||` and `&&` taken apart
pub or_left : (a b : Bool) → (a || b) ≡ false → a ≡ false
or_left true b e = e
or_left false b e = refl

pub or_right : (a b : Bool) → (a || b) ≡ false → b ≡ false
or_right true b e = absurd (true≢false e)
or_right false b e = e

pub and_left : (a b : Bool) → (a && b) ≡ true → a ≡ true
and_left true b e = refl
and_left false b e = e

pub and_right : (a b : Bool) → (a && b) ≡ true → b ≡ true
and_right true b e = e
and_right false b e = absurd (true≢false (sym e))

pub and_false : (a : Bool) → false ≡ (a && false)
and_false true = refl
and_false false = refl

pub and_true : (a : Bool) → (a && true) ≡ a
and_true true = refl
and_true false = refl

pub and_assoc : (a b c : Bool) → ((a && b) && c) ≡ (a && (b && c))
and_assoc true b c = refl
and_assoc false b c = refl

-- ---- `cond s true t` taken apart
pub cond_left : (s t : Bool) → cond s true t ≡ false → s ≡ false
cond_left true t e = absurd (true≢false e)
cond_left false t e = refl

pub cond_right : (s t : Bool) → cond s true t ≡ false → t ≡ false
cond_right true t e = absurd (true≢false e)
cond_right false t e = e

-- ---- tests of numbers
pub pos_of : (n : ℕ) → eqb n 0 ≡ false → 0 < n
pos_of zero q = absurd (true≢false q)
pos_of (suc n) q = omega arith

pub leb_not : (a b : ℕ) → leb a b ≡ not (ltb b a)
leb_not a b = go (ltb b a) refl
  where
    go : (t : Bool) → ltb b a ≡ t → leb a b ≡ not t
    go true e = lt-leb a b (ltb-true b a e)
    go false e = le-leb a b (ltb-false b a e)

-- ---- an element of zeros
pub zero_at : (n k : ℕ) → ◌≡◌ {A = ℕ} (get_or (replicate n 0) k 0) 0
zero_at zero k = refl
zero_at (suc n) zero = refl
zero_at (suc n) (suc k) = zero_at n k
