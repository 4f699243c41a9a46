-- One more element of a piece, copied to the start of a buffer of any type.
use mathlib.Core.Path.{◌≡◌, ap}
use mathlib.Core.List.{List, [], ◌∷◌}
use Prim.Native.Nat.{ℕ, zero, suc, ◌+◌, ◌≤◌, ◌<◌}
use native.Mathlib.Nat.{not-suc-le-zero}
use native.Mathlib.Numerals.{add-one}
use native.Mathlib.Omega.{arith}
use lib.ListN.{length, take, get_or, set}
use Rattle.spec_base.specs.base.Put.{put}

pub next : {A : Type 0} (s l : List A) (i : ℕ) (x : A) → x ≡ get_or s i x → i < length s → length s ≤ length l → set (put (take i s) l) i x ≡ put (take (suc i) s) l
unfolding put
next [] l i x e h k = absurd (not-suc-le-zero h)
next (a ∷ s) [] i x e h k = absurd (omega arith)
next (a ∷ s) (b ∷ l) zero x e h k = ap (λ y. y ∷ l) e
next (a ∷ s) (b ∷ l) (suc i) x e h k = ap (λ t. a ∷ t) (next s l i x e (omega arith) (omega arith))

pub copied_next : {A : Type 0} (s l o : List A) (i : ℕ) (x : A) → o ≡ put (take i s) l → x ≡ get_or s i x → i < length s → length s ≤ length l → set o i x ≡ put (take (i + 1) s) l
copied_next s l o i x p e h k = rw (p, add-one) (next s l i x e h k)
