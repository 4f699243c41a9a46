-- A piece written into a buffer.
use Rattle.std.specs.Prelude.{cond, List, ◌++◌, ℕ, ◌+◌, leb, length, take, drop}

-- v at the start of l, and the rest of l as it was
unfoldable pub put : {A : Type 0} → List A → List A → List A
put v l = v ++ drop (length v) l

-- l with v from the place at on
unfoldable pub put_at : {A : Type 0} → ℕ → List A → List A → List A
put_at at v l = take at l ++ put v (drop at l)

-- l after v was written to its start, where v fits, and the length written
unfoldable pub placed : {A : Type 0} → List A → List A → List A
placed v l = cond (leb (length v) (length l)) (put v l) l

unfoldable pub placed_length : {A : Type 0} → List A → List A → ℕ
placed_length v l = cond (leb (length v) (length l)) (length v) 0

-- the same from the place at on, and the place after it
unfoldable pub placed_at : {A : Type 0} → ℕ → List A → List A → List A
placed_at at v l = cond (leb (at + length v) (length l)) (put_at at v l) l

unfoldable pub place_after : {A : Type 0} → ℕ → List A → List A → ℕ
place_after at v l = cond (leb (at + length v) (length l)) (at + length v) at
