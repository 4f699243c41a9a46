-- Any map that open accepts is read back as written, with its path and the other numbers.
use Prim.Native.Nat.{ℕ, ◌*◌, ◌%◌, ◌≤◌}
use mathlib.Core.Path.{◌≡◌, refl, ap, ◌∙◌}
use mathlib.Core.Bool.{Bool, true, false, cond, true≢false}
use mathlib.Core.List.{List, [], ◌∷◌}
use lib.Dec.{eqb, ltb}
use lib.ListN.{length}
use native.Mathlib.Omega.{arith}
use borrow.Author.Tests.{ltb-false, eqb-true}
use Rattle.spec_base.specs.base.Limits.{most_frame, most_segments, most_timescale}
use Rattle.spec_time.specs.caption_time.Convert.{timescale_bad}
use Rattle.spec_map.specs.declared.segment.Segment.{Segment}
use Rattle.spec_map.specs.segment.Segment.{flat_of, segments_of, end_bad, segment_bad, any_bad, map_bad}
use Rattle.spec_map.proofs.segment.SegmentLaws.{end_good}
use Rattle.spec_map_json.specs.map_json_write.Text.{map_text}
use Rattle.spec_map_json.specs.map_json_write.Reads.{Said}
use Rattle.spec_map_json.specs.map_json_write.MapWritten.{RoundTrip}
use Rattle.spec_map_json.proofs.map_json_write.Back.{Narrow, AllNarrow, is_map, said_is}
use Rattle.spec_map_json.proofs.map_json_write.Clean.{text_utf8}
use Rattle.spec_base.proofs.base.Laws.{cond_left, cond_right}

-- ---- flat numbers in sixes
flat_again : (m : List ℕ) → length m % 6 ≡ 0 → flat_of (segments_of m) ≡ m
unfolding flat_of segments_of
flat_again [] e = refl
flat_again (a ∷ []) e = absurd (omega arith)
flat_again (a ∷ b ∷ []) e = absurd (omega arith)
flat_again (a ∷ b ∷ c ∷ []) e = absurd (omega arith)
flat_again (a ∷ b ∷ c ∷ d ∷ []) e = absurd (omega arith)
flat_again (a ∷ b ∷ c ∷ d ∷ f ∷ []) e = absurd (omega arith)
flat_again (a ∷ b ∷ c ∷ d ∷ f ∷ g ∷ r) e = ap (λ (l : List ℕ). a ∷ b ∷ c ∷ d ∷ f ∷ g ∷ l) (flat_again r (omega arith))

-- ---- the limits of a map
narrow : (x : Segment) → segment_bad x.source_start_frame x.source_end_frame x.source_start_dts x.frame_count x.output_start x.duration ≡ false → Narrow x
unfolding segment_bad
narrow x e =
    let e1 = cond_right (ltb most_frame x.source_start_frame) _ e in
    let e2 = cond_right (ltb most_frame x.source_end_frame) _ e1 in
    let e3 = cond_right (ltb most_frame x.frame_count) _ e2 in
    let q = end_good x.source_start_dts x.duration (cond_left (end_bad x.source_start_dts x.duration) _ e3) in
    let o = end_good x.output_start x.duration (cond_right (end_bad x.source_start_dts x.duration) _ e3) in
    record {
      first = ltb-false most_frame x.source_start_frame (cond_left (ltb most_frame x.source_start_frame) _ e);
      last = ltb-false most_frame x.source_end_frame (cond_left (ltb most_frame x.source_end_frame) _ e1);
      source = omega arith;
      frames = ltb-false most_frame x.frame_count (cond_left (ltb most_frame x.frame_count) _ e2);
      output = omega arith;
      span = omega arith;
    }

all_narrow : (xs : List Segment) → any_bad xs ≡ false → AllNarrow xs
unfolding any_bad
all_narrow [] e = tt
all_narrow (x ∷ xs) e = (narrow x (cond_left (segment_bad _ _ _ _ _ _) (any_bad xs) e), all_narrow xs (cond_right (segment_bad _ _ _ _ _ _) (any_bad xs) e))

pub record Good (m : List ℕ) : Type 0 where
  pub sixes : length m % 6 ≡ 0
  pub sound : any_bad (segments_of m) ≡ false

good : (m : List ℕ) → map_bad m ≡ false → Good m
unfolding map_bad
good m e = go (eqb (length m % 6) 0) refl e
  where
    go : (t : Bool) → eqb (length m % 6) 0 ≡ t → cond t (cond (ltb (6 * most_segments) (length m)) true (any_bad (segments_of m))) true ≡ false → Good m
    go true f g = record { sixes = eqb-true (length m % 6) 0 f; sound = cond_right (ltb (6 * most_segments) (length m)) (any_bad (segments_of m)) g }
    go false f g = absurd (true≢false g)

timescale_small : (T : ℕ) → timescale_bad T ≡ false → T ≤ most_frame
unfolding timescale_bad
timescale_small T e = omega (arith, ltb-false most_timescale T (cond_right (ltb T 1) (ltb most_timescale T) e))

-- ---- the promise
pub round_trip : RoundTrip
round_trip m T num den path frames hT hm hn hd hf bytes hu hp =
    let g = good m hm in
    let xs = segments_of m in
    let text = map_text T num den path frames xs in
    let said = said_is T num den path frames xs in
    record {
      good = is_map T num den path frames xs (timescale_small T hT) hn hd hf hp (all_narrow xs g.sound) (text_utf8 T num den path frames xs hu);
      timescale = ap (λ (s : Said). s.timescale) said;
      rate_num = ap (λ (s : Said). s.rate_num) said;
      rate_den = ap (λ (s : Said). s.rate_den) said;
      path = ap (λ (s : Said). s.path) said;
      frames = ap (λ (s : Said). s.frames) said;
      map = ap (λ (s : Said). flat_of s.segments) said ∙ flat_again m g.sixes;
    }
