-- Laws of numbers that are copied into a map.
use Rattle.std.proofs.Common.{◌≡◌, ap, ◌∙◌, ℕ, ◌+◌, ◌-◌, ◌≤◌, List, ◌++◌, length, take, drop, arith}
use borrow.Rule.Slice.PartMut.{put_mid}
use Rattle.spec_base.specs.base.Put.{put, put_at}
use Rattle.spec_map.specs.declared.segment.Segment.{Segment}
use Rattle.spec_map.specs.segment.Segment.{numbers_of}

-- the six numbers of a segment, copied to the place `at`
pub placed_six : (m v w : List ℕ) (t : Segment) (at : ℕ) → v ≡ numbers_of t → w ≡ v → at + 6 ≤ length m → put_mid at (at + 6 - at) m w ≡ put_at at (numbers_of t) m
unfolding put put_at
placed_six m v w t at e f h =
    let n : at + 6 - at ≡ 6 = omega arith in
    ap (λ (x : List ℕ). take at m ++ (x ++ drop (at + 6 - at) (drop at m))) (f ∙ e)
    ∙ ap (λ (k : ℕ). take at m ++ (numbers_of t ++ drop k (drop at m))) n
