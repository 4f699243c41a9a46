-- The limits of a map from both sides, by document 01's numbers: 1,024 segments of six numbers, frame numbers of 32 bits, ends at 2^53.
use mathlib.Core.Path.{◌≡◌, refl, sym}
use mathlib.Core.Bool.{true, false, cond}
use mathlib.Core.List.{List}
use Prim.Native.Nat.{ℕ, ◌+◌, ◌%◌}
use native.Mathlib.Omega.{arith}
use borrow.Author.Tests.{lt-ltb, le-ltb, eq-eqb}
use lib.ListN.{length}
use Rattle.spec_base.proofs.base.Laws.{yes!, no! }
use Rattle.spec_map.specs.segment.Segment.{segments_of, end_bad, segment_bad, any_bad, map_bad}

-- ---- segments
pub segments_1024 : (m : List ℕ) → length m ≡ 6144 → map_bad m ≡ any_bad (segments_of m)
unfolding map_bad
segments_1024 m h = sym (yes! _ (eq-eqb (length m % 6) 0 (omega arith)) (no! _ (le-ltb 6144 (length m) (omega arith)) refl))

pub segments_1025 : (m : List ℕ) → length m ≡ 6150 → map_bad m ≡ true
unfolding map_bad
segments_1025 m h = sym (yes! _ (eq-eqb (length m % 6) 0 (omega arith)) (yes! _ (lt-ltb 6144 (length m) (omega arith)) refl))

-- ---- frame numbers: start, end and count, each at its largest; then each one higher
pub frames_32_bits : (q o d : ℕ) → segment_bad 4294967295 4294967295 q 4294967295 o d ≡ cond (end_bad q d) true (end_bad o d)
unfolding segment_bad
frames_32_bits q o d = refl

pub start_33_bits : (b q k o d : ℕ) → segment_bad 4294967296 b q k o d ≡ true
unfolding segment_bad
start_33_bits b q k o d = refl

pub end_33_bits : (q k o d : ℕ) → segment_bad 0 4294967296 q k o d ≡ true
unfolding segment_bad
end_33_bits q k o d = refl

pub count_33_bits : (q o d : ℕ) → segment_bad 0 0 q 4294967296 o d ≡ true
unfolding segment_bad
count_33_bits q o d = refl

-- ---- ends in ticks, of the source and of the output
pub end_2^53 : (a d : ℕ) → a + d ≡ 9007199254740992 → end_bad a d ≡ false
unfolding end_bad
end_2^53 a d h = le-ltb 9007199254740992 (a + d) (omega arith)

pub end_past_2^53 : (a d : ℕ) → a + d ≡ 9007199254740993 → end_bad a d ≡ true
unfolding end_bad
end_past_2^53 a d h = lt-ltb 9007199254740992 (a + d) (omega arith)
