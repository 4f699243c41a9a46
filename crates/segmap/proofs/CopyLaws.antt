-- Laws of numbers that are copied into a map.
use Rattle.std.proofs.Common.{◌≡◌, sym, ap, ◌∙◌, ℕ, ◌+◌, ◌-◌, ◌≤◌, List, ◌++◌, append_assoc, length, take, drop, arith}
use Rattle.std.proofs.lemmas.List.{drop-drop}
use Rattle.std.proofs.lemmas.List.Edits.{sets, sets-eq}
use borrow.Rule.Slice.PartMut.{put_mid}
use Rattle.spec_map.specs.declared.segment.Segment.{Segment}
use Rattle.spec_map.specs.segment.Segment.{numbers_of}

-- the six numbers of a segment, copied to the place `at`
pub stored : (m v w : List ℕ) (t : Segment) (at : ℕ) → v ≡ numbers_of t → w ≡ v → at + 6 ≤ length m → put_mid at (at + 6 - at) m w ≡ sets m at (numbers_of t)
stored m v w t at e f h =
    let n : at + 6 - at ≡ 6 = omega arith in
    ap (λ (x : List ℕ). take at m ++ (x ++ drop (at + 6 - at) (drop at m))) (f ∙ e)
    ∙ ap (λ (k : ℕ). take at m ++ (numbers_of t ++ drop k (drop at m))) n
    ∙ ap (λ (x : List ℕ). take at m ++ (numbers_of t ++ x)) (drop-drop 6 at m)
    ∙ sym (sets-eq (numbers_of t) m at h ∙ append_assoc (take at m) (numbers_of t) (drop (at + 6) m))
