-- Parts of lists.
use mathlib.Core.Path.{◌≡◌, ap, ◌∙◌, sym}
use mathlib.Core.List.{List, [], ◌∷◌}
use Prim.Native.Nat.{ℕ, ◌+◌, ◌-◌, zero, suc}
use native.Mathlib.Omega.{arith}
use lib.ListN.{length, take, drop, length-take, length-drop}
use lib.Seq.{take_all, take-nil}
use native.Mathlib.Nat.{sub-zero, zero-sub, suc-sub-suc}

-- the list of `&s[a..]`
pub rest_all : {A : Type 0} (a : ℕ) (s : List A) → take (length s - a) (drop a s) ≡ drop a s
rest_all a s = take_all (length s - a) (drop a s) (omega (arith, length-drop a s))

pub rest_length : {A : Type 0} (a : ℕ) (s : List A) → length (take (length s - a) (drop a s)) ≡ length s - a
rest_length a s = ap length (rest_all a s) ∙ length-drop a s

pub part_lengths : (n : ℕ) (r : List ℕ) → length (take n r) + length (drop n r) ≡ length r
part_lengths n r = simp (length-take, length-drop) (omega arith)

pub drop_take : (a m : ℕ) (l : List ℕ) → drop a (take m l) ≡ take (m - a) (drop a l)
drop_take zero m l = ap (λ (j : ℕ). take j l) (sym (sub-zero m))
drop_take (suc a) zero l = ap (λ (j : ℕ). take j (drop (suc a) l)) (sym (zero-sub (suc a)))
drop_take (suc a) (suc m) [] = sym (take-nil (suc m - suc a))
drop_take (suc a) (suc m) (x ∷ l) = drop_take a m l ∙ ap (λ (j : ℕ). take j (drop a l)) (sym (suc-sub-suc m a))
