-- The number that is printed.
use mathlib.Core.Path.{◌≡◌, sym, ap, subst, ◌∙◌}
use mathlib.Core.List.{List}
use Rattle.std.specs.Prelude.{Result, IfOk}
use Prim.Native.Nat.{ℕ, ◌≤◌, ◌<◌}
use lib.ListN.{length}
use borrow.Author.Tests.{lt-ltb, le-ltb}
use Rattle.spec_base.specs.base.Limits.{most_work}
use Rattle.spec_base.proofs.base.Laws.{yes!, no! }
use Rattle.spec_map.specs.declared.segmap.Made.{Made}
use Rattle.spec_map.specs.segmap.Map.{Map, map_of, made_of}
use Rattle.files_map.specs.Printed.{printed_number}

-- the number of what was made, at a length that is known
made_number_lem : (r : Made) (m : Map) → r ≡ made_of m → r.number ≡ m.number
unfolding made_of
made_number_lem r m e = ap (λ (x : Made). x.number) e

pub number_told : (s l : List ℕ) (d n w : ℕ) (r : Made) → r ≡ made_of (map_of s l d n w) → n ≡ 6144 → r.number ≡ (map_of s l d 6144 w).number
number_told s l d n w r e p = made_number_lem r (map_of s l d n w) e ∙ ap (λ (x : ℕ). (map_of s l d x w).number) p

pub number_zero : (s l : List ℕ) (d n w : ℕ) (r : Made) → r ≡ made_of (map_of s l d n w) → n ≡ 6144 → r.number ≡ 0 → 0 ≡ (map_of s l d 6144 w).number
number_zero s l d n w r e p z = sym z ∙ number_told s l d n w r e p

pub too_large : (s l : List ℕ) (r : ℕ) → 65536 < length s → r ≡ 11 → r ≡ printed_number s l
unfolding printed_number
too_large s l r h e = yes! _ (lt-ltb 65536 (length s) h) e

pub within : (s l : List ℕ) (r w : ℕ) → length s ≤ 65536 → r ≡ (map_of s l 0 6144 w).number → w ≡ most_work → r ≡ printed_number s l
unfolding printed_number
within s l r w h e q = no! _ (le-ltb 65536 (length s) h) (e ∙ ap (λ (x : ℕ). (map_of s l 0 6144 x).number) q)

-- an answer that is one number is another that equals it
pub told_as : {E : Type 0} (r : Result ℕ E) (a b : ℕ) → a ≡ b → IfOk r (λ v. v ≡ a) → IfOk r (λ v. v ≡ b)
told_as {E} r a b e h = subst (λ (x : ℕ). IfOk r (λ v. v ≡ x)) e h
