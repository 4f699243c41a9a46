-- Laws of what a record of a sheet says.
use Prim.Native.Nat.{ℕ, ◌+◌, ◌*◌, ◌/◌}
use mathlib.Core.List.{List}
use mathlib.Core.Path.{◌≡◌, sym, ◌∙◌}
use mathlib.Core.Bool.{Bool, true, false}
use native.Mathlib.Omega.{arith}
use lib.Dec.{leb, eqb}
use Rattle.spec_sheet.specs.checked_blocks.Block.{word_at}
use Rattle.spec_sheet.specs.sheet_frames.Frames.{long_of, record_word, decode_in, decode_by, decode_of, sync_of, duration_in, duration_of}

pub long_is : (s : List ℕ) (x : ℕ) → x ≡ word_at s 5 → eqb x 1 ≡ long_of s
unfolding long_of
long_is s x e = rw e

-- the layout told as a constant
pub told_as : (t u v : Bool) → t ≡ u → t ≡ v → v ≡ u
told_as t u v e f = sym f ∙ e

-- x is the word at w, t the layout, d the decode index in the word
pub decode_by_is : (s : List ℕ) (i w x d : ℕ) (t : Bool) → w ≡ record_word t i → x ≡ word_at s w → d ≡ decode_in x → d ≡ decode_by t s i
decode_by_is s i w x d t ew ex ed = ed ∙ rw (ex, ew)

pub decode_is : (s : List ℕ) (i d : ℕ) (t : Bool) → t ≡ long_of s → d ≡ decode_by t s i → d ≡ decode_of s i
unfolding decode_of
decode_is s i d t et ed = ed ∙ rw et

pub sync_is : (s : List ℕ) (i w x : ℕ) (t : Bool) → t ≡ long_of s → w ≡ record_word t i → x ≡ word_at s w → leb 2147483648 x ≡ sync_of s i
unfolding sync_of
sync_is s i w x t et ew ex = rw (ex, ew, et)

-- where a record starts
pub word_long : (i : ℕ) (t : Bool) → t ≡ true → 129 + 2 * (i / 42) + 3 * i ≡ record_word t i
unfolding record_word
word_long i t e = rw e (omega arith)

pub word_short : (i : ℕ) (t : Bool) → t ≡ false → 129 + 2 * (i / 63 + i) ≡ record_word t i
unfolding record_word
word_short i t e = rw e (omega arith)

-- a duration, in one word or in two: t the layout
pub duration_short : (s : List ℕ) (i w x : ℕ) (t : Bool) → t ≡ false → w ≡ record_word false i → x ≡ word_at s (w + 1) → x ≡ duration_in t s (record_word t i)
duration_short s i w x t f ew ex = rw (ex, ew, f)

pub duration_two : (s : List ℕ) (i w x y : ℕ) → w ≡ record_word true i → x ≡ word_at s (w + 1) → y ≡ word_at s (w + 2) → x + 4294967296 * y ≡ duration_in true s (record_word true i)
duration_two s i w x y ew ex ey = rw (ex, ey, ew)

pub duration_long : (s : List ℕ) (i d : ℕ) (t : Bool) → t ≡ true → d ≡ duration_in true s (record_word true i) → d ≡ duration_in t s (record_word t i)
duration_long s i d t f ed = ed ∙ rw f

pub duration_is : (s : List ℕ) (i d : ℕ) (t : Bool) → t ≡ long_of s → d ≡ duration_in t s (record_word t i) → d ≡ duration_of s i
unfolding duration_of
duration_is s i d t et ed = ed ∙ rw et
