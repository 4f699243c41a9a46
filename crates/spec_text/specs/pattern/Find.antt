-- A pattern in a text: at its head, as the whole, where it stands first, and the parts before and after that.
use Rattle.std.specs.Prelude.{ℕ, zero, suc, Bool, true, false, List, [], ◌∷◌, ◌+◌, length, take, drop, eqb, ltb, cond}

-- s begins with p
unfoldable pub starts : List ℕ → List ℕ → Bool
starts [] s = true
starts (a ∷ p) [] = false
starts (a ∷ p) (b ∷ s) = cond (eqb a b) (starts p s) false

-- p and s are the same
unfoldable pub equals : List ℕ → List ℕ → Bool
equals [] [] = true
equals [] (b ∷ s) = false
equals (a ∷ p) [] = false
equals (a ∷ p) (b ∷ s) = cond (eqb a b) (equals p s) false

-- the first position in s from which p stands, or the length of s where there is none
unfoldable pub first : List ℕ → List ℕ → ℕ
first p [] = zero
first p (b ∷ s) = cond (starts p (b ∷ s)) zero (suc (first p s))

-- p stands somewhere in s (p not empty)
unfoldable pub contains : List ℕ → List ℕ → Bool
contains p s = ltb (first p s) (length s)

-- what stands before the first p: all of it where there is none
unfoldable pub up_to : List ℕ → List ℕ → List ℕ
up_to p s = take (first p s) s

-- what stands after the first p: nothing where there is none
unfoldable pub past : List ℕ → List ℕ → List ℕ
past p s = drop (first p s + length p) s
