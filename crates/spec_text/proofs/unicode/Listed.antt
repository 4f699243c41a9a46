-- The white space of `white` is document 01's list, no more and no less.
use mathlib.Core.Path.{◌≡◌, refl, sym, subst}
use mathlib.Core.Bool.{Bool, true, false, cond, ◌&&◌, ◌||◌}
use mathlib.Core.List.{List, [], ◌∷◌}
use Prim.Native.Nat.{ℕ, ◌≤◌, ◌<◌}
use native.Mathlib.Omega.{arith}
use borrow.Author.Tests.{ltb-true, ltb-false, leb-true, leb-false, eqb-true, eqb-false, le-leb}
use lib.Dec.{eqb, ltb, leb}
use lib.ListN.{drop}
use Rattle.spec_text.specs.whitespace.White.{white, white_high}
use Rattle.spec_text.specs.unicode.WhiteSpace.{white_spaces, within}

-- those above U+2000
abbrev high_spaces : List (ℕ × ℕ)
high_spaces = drop 5 white_spaces

-- ---- a choice, by what its test says
if_below : (x y : ℕ) {a b r : Bool} → (x < y → a ≡ r) → (y ≤ x → b ≡ r) → cond (ltb x y) a b ≡ r
if_below x y {a} {b} {r} p q = go (ltb x y) refl
  where
    go : (t : Bool) → ltb x y ≡ t → cond t a b ≡ r
    go true e = p (ltb-true x y e)
    go false e = q (ltb-false x y e)

if_most : (x y : ℕ) {a b r : Bool} → (x ≤ y → a ≡ r) → (y < x → b ≡ r) → cond (leb x y) a b ≡ r
if_most x y {a} {b} {r} p q = go (leb x y) refl
  where
    go : (t : Bool) → leb x y ≡ t → cond t a b ≡ r
    go true e = p (leb-true x y e)
    go false e = q (leb-false x y e)

if_same : (x y : ℕ) {a b r : Bool} → (x ≡ y → a ≡ r) → ((x ≡ y → ⊥) → b ≡ r) → cond (eqb x y) a b ≡ r
if_same x y {a} {b} {r} p q = go (eqb x y) refl
  where
    go : (t : Bool) → eqb x y ≡ t → cond t a b ≡ r
    go true e = p (eqb-true x y e)
    go false e = q (eqb-false x y e)

-- ---- a range that u lies in, and one that it does not lie in
inside : (a b u : ℕ) (rs : List (ℕ × ℕ)) → a ≤ u → u ≤ b → true ≡ within ((a, b) ∷ rs) u
unfolding within
inside a b u rs l h =
    subst (λ (x : Bool). true ≡ ((x && leb u b) || within rs u)) (sym (le-leb a u l)) (subst (λ (y : Bool). true ≡ (y || within rs u)) (sym (le-leb u b h)) refl)

outside : (a b u : ℕ) (rs : List (ℕ × ℕ)) (t : Bool) → (a ≤ u → u ≤ b → ⊥) → t ≡ within rs u → t ≡ within ((a, b) ∷ rs) u
unfolding within
outside a b u rs t n e = go (leb a u) (leb u b) refl refl
  where
    go : (x y : Bool) → leb a u ≡ x → leb u b ≡ y → t ≡ ((x && y) || within rs u)
    go true true p q = absurd (n (leb-true a u p) (leb-true u b q))
    go true false p q = e
    go false y p q = e

in_none : (u : ℕ) → false ≡ within [] u
unfolding within
in_none u = refl

-- a code point that is listed
listed : (c u : ℕ) → true ≡ within white_spaces c → u ≡ c → true ≡ within white_spaces u
listed c u h e = subst (λ (v : ℕ). true ≡ within white_spaces v) (sym e) h

-- in no range up to 1680, and in none at all
past_low : (u : ℕ) (t : Bool) → (0x9 ≤ u → u ≤ 0xD → ⊥) → (u ≡ 0x20 → ⊥) → (u ≡ 0x85 → ⊥) → (u ≡ 0xA0 → ⊥) → (u ≡ 0x1680 → ⊥) → t ≡ within high_spaces u → t ≡ within white_spaces u
past_low u t r a b c d e =
    outside _ _ u _ t r (outside _ _ u _ t (λ l h. a (omega arith)) (outside _ _ u _ t (λ l h. b (omega arith))
    (outside _ _ u _ t (λ l h. c (omega arith)) (outside _ _ u _ t (λ l h. d (omega arith)) e))))

past_high : (u : ℕ) → (0x2000 ≤ u → u ≤ 0x200A → ⊥) → (u ≡ 0x2028 → ⊥) → (u ≡ 0x2029 → ⊥) → (u ≡ 0x202F → ⊥) → (u ≡ 0x205F → ⊥) → (u ≡ 0x3000 → ⊥) → false ≡ within high_spaces u
past_high u r a b c d e =
    outside _ _ u _ false r (outside _ _ u _ false (λ l h. a (omega arith)) (outside _ _ u _ false (λ l h. b (omega arith))
    (outside _ _ u _ false (λ l h. c (omega arith)) (outside _ _ u _ false (λ l h. d (omega arith)) (outside _ _ u _ false (λ l h. e (omega arith)) (in_none u))))))

-- ---- `white` by its tests
high_listed : (u : ℕ) → (0x9 ≤ u → u ≤ 0xD → ⊥) → (u ≡ 0x20 → ⊥) → (u ≡ 0x85 → ⊥) → (u ≡ 0xA0 → ⊥) → (u ≡ 0x1680 → ⊥) → white_high u ≡ within white_spaces u
unfolding white_high within
high_listed u r a b c d =
    let low : (t : Bool) → t ≡ within high_spaces u → t ≡ within white_spaces u = λ t. past_low u t r a b c d in
    if_below u 0x2000 (λ l. low false (past_high u (λ k h. absurd (omega arith)) (λ e. absurd (omega arith)) (λ e. absurd (omega arith)) (λ e. absurd (omega arith)) (λ e. absurd (omega arith)) (λ e. absurd (omega arith)))) (λ l.
    if_most u 0x200A (λ h. low true (inside 0x2000 0x200A u (drop 6 white_spaces) l h)) (λ h.
    if_same u 0x2028 (listed 0x2028 u refl) (λ e1.
    if_same u 0x2029 (listed 0x2029 u refl) (λ e2.
    if_same u 0x202F (listed 0x202F u refl) (λ e3.
    if_same u 0x205F (listed 0x205F u refl) (λ e4.
    last e1 e2 e3 e4 h))))))
  where
    last : (u ≡ 0x2028 → ⊥) → (u ≡ 0x2029 → ⊥) → (u ≡ 0x202F → ⊥) → (u ≡ 0x205F → ⊥) → 0x200A < u → eqb u 0x3000 ≡ within white_spaces u
    last e1 e2 e3 e4 h = go (eqb u 0x3000) refl
      where
        go : (t : Bool) → eqb u 0x3000 ≡ t → t ≡ within white_spaces u
        go true e = listed 0x3000 u refl (eqb-true u 0x3000 e)
        go false e = past_low u false r a b c d (past_high u (λ k l. absurd (omega arith)) e1 e2 e3 e4 (eqb-false u 0x3000 e))

pub white_listed : (u : ℕ) → white u ≡ within white_spaces u
unfolding white within
white_listed u =
    if_below u 0x9 (λ l. none l) (λ l.
    if_most u 0xD (λ h. low l h) (λ h.
    if_same u 0x20 (listed 0x20 u refl) (λ e1.
    if_same u 0x85 (listed 0x85 u refl) (λ e2.
    if_same u 0xA0 (listed 0xA0 u refl) (λ e3.
    if_same u 0x1680 (listed 0x1680 u refl) (λ e4.
    high_listed u (λ k m. absurd (omega arith)) e1 e2 e3 e4))))))
  where
    low : 0x9 ≤ u → u ≤ 0xD → true ≡ within white_spaces u
    low l h = inside 0x9 0xD u (drop 1 white_spaces) l h

    none : u < 0x9 → false ≡ within white_spaces u
    none l =
        past_low u false (λ k h. absurd (omega arith)) (λ e. absurd (omega arith)) (λ e. absurd (omega arith)) (λ e. absurd (omega arith)) (λ e. absurd (omega arith))
        (past_high u (λ k h. absurd (omega arith)) (λ e. absurd (omega arith)) (λ e. absurd (omega arith)) (λ e. absurd (omega arith)) (λ e. absurd (omega arith)) (λ e. absurd (omega arith)))
