-- Laws of white space.
use mathlib.Core.Path.{◌≡◌, sym, ◌∙◌}
use mathlib.Core.Bool.{Bool, true, false, not, cond}
use borrow.Author.Tests.{not-true, not-false}
use mathlib.Core.List.{List, [], ◌∷◌}
use Prim.Native.Nat.{ℕ, suc, ◌+◌, ◌≤◌, ◌<◌}
use native.Mathlib.Omega.{arith}
use native.Mathlib.Numerals.{add-one}
use lib.ListN.{length, drop, get_or, drop_of_length-le}
use lib.Seq.{drop-cons}
use Rattle.spec_json.specs.json.Space.{is_space, spaces}

pub space_found : (s : List ℕ) (i : ℕ) (f : Bool) → spaces s ≡ i + spaces (drop i s) → i < length s → f ≡ is_space (get_or s i 0) → not f ≡ true → i ≡ spaces s
unfolding spaces
space_found s i f inv h e q = let z : spaces (drop i s) ≡ 0 = rw (drop-cons s i 0 h, sym e ∙ not-true f q) in omega arith

pub space_again : (s : List ℕ) (i : ℕ) (f : Bool) → spaces s ≡ i + spaces (drop i s) → i < length s → f ≡ is_space (get_or s i 0) → not f ≡ false
    → spaces s ≡ i + 1 + spaces (drop (i + 1) s)
unfolding spaces
space_again s i f inv h e q =
    let z : spaces (drop i s) ≡ suc (spaces (drop (suc i) s)) = rw (drop-cons s i 0 h, sym e ∙ not-false f q) in
    rw add-one (omega arith)

pub space_all : (s : List ℕ) (i : ℕ) → spaces s ≡ i + spaces (drop i s) → length s ≤ i → i ≡ spaces s
unfolding spaces
space_all s i inv h = let z : spaces (drop i s) ≡ 0 = rw (drop_of_length-le s h) in omega arith

pub spaces_le : (s : List ℕ) → spaces s ≤ length s
unfolding spaces
spaces_le [] = omega arith
spaces_le (b ∷ s) = go (is_space b) (spaces_le s)
  where
    go : (t : Bool) → spaces s ≤ length s → cond t (suc (spaces s)) 0 ≤ suc (length s)
    go true h = omega arith
    go false h = omega arith
