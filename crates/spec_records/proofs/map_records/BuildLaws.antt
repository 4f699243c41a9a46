-- Laws of a map that is written into records: it is the flat map, read back.
use mathlib.Core.Path.{◌≡◌, refl, sym, ap, ◌∙◌}
use mathlib.Core.List.{List, [], ◌∷◌}
use Prim.Native.Nat.{ℕ, zero, suc, ◌+◌, ◌-◌, ◌*◌, ◌%◌, ◌≤◌, ◌<◌}
use native.Mathlib.Omega.{arith}
use borrow.Author.Tests.{le-leb}
use lib.ListN.{length, take}
use Rattle.spec_base.specs.base.Limits.{most_frames, most_segments}
use Rattle.spec_base.specs.base.Put.{put}
use Rattle.spec_sheet.specs.sheet_frames.Frames.{frames_of}
use Rattle.spec_sheet.proofs.sheet.SheetLaws.{sound_head}
use Rattle.spec_trim.proofs.plan.SnapMeaning.{Bounded}
use Rattle.spec_map.specs.declared.segment.Segment.{Segment}
use Rattle.spec_map.specs.declared.segmap.Made.{Made}
use Rattle.spec_map.specs.segment.Segment.{flat_of, segments_of}
use Rattle.spec_map.specs.segmap.Build.{range_ticks, segment_in, segments_in}
use Rattle.spec_map.specs.segmap.Map.{snapped_of, map_number, map_work, Map, map_of, made, made_of}
use Rattle.spec_map.proofs.segment.SegmentLaws.{flat_back}
use Rattle.spec_map.proofs.segmap.MapLaws.{short_made, short_work}
use Rattle.spec_map.proofs.segmap.Built.{map_count, map_front, told_number, told_count, map_refused, made_parts, made_segments, made_few, made_bounded}
use Rattle.spec_records.specs.map_records.Records.{recorded, map_into, narrowed}

-- ---- the widths of a record hold the segments of a map
narrow_same : (a : ℕ) → a ≤ most_frames → a % 4294967296 ≡ a
narrow_same a h = omega arith

narrow_in : (s : List ℕ) (n o : ℕ) (l : List ℕ) → n ≤ most_frames → Bounded n l → narrowed (segments_in s o l) ≡ segments_in s o l
unfolding segments_in segment_in narrowed
narrow_in s n o [] h b = refl
narrow_in s n o (a ∷ []) h b = refl
narrow_in s n o (a ∷ e ∷ r) h b =
    let fa : a % 4294967296 ≡ a = narrow_same a (omega (arith, b.0)) in
    let fe : e % 4294967296 ≡ e = narrow_same e (omega (arith, b.1.0)) in
    let fk : (e - a) % 4294967296 ≡ e - a = narrow_same (e - a) (omega (arith, b.1.0)) in
    rw (fa, fe, fk, narrow_in s n (o + range_ticks s a e) r h b.1.1)

narrowed_none : narrowed [] ≡ []
unfolding narrowed
narrowed_none = refl

module _ (s list : List ℕ) (d : ℕ) where
  -- the places that are lent count only as enough
  pub map_lent : (lent lent' w : ℕ) → 6 * most_segments ≤ lent → 6 * most_segments ≤ lent' → map_of s list d lent w ≡ map_of s list d lent' w
  unfolding map_of map_number
  map_lent lent lent' w h k = rw (le-leb (6 * most_segments) lent h, le-leb (6 * most_segments) lent' k)

  module _ (lent w : ℕ) where
    map_narrow : narrowed (map_of s list d lent w).segments ≡ (map_of s list d lent w).segments
    map_narrow = go (map_number s list d lent w) refl
      where
        go : (k : ℕ) → map_number s list d lent w ≡ k → narrowed (map_of s list d lent w).segments ≡ (map_of s list d lent w).segments
        go zero e =
            ap narrowed (made_segments s list d lent w e)
            ∙ narrow_in s (frames_of s) 0 (snapped_of s list d) (sound_head s (made_parts s list d lent w e).sheet_sound).frames_high (made_bounded s list d lent w e)
            ∙ sym (made_segments s list d lent w e)
        go (suc k) e = let none = map_refused s list d lent w (omega arith) in ap narrowed none ∙ narrowed_none ∙ sym none

    -- at most 1,024 are written
    pub count_few : (r : Made) → r ≡ made_of (map_of s list d lent w) → r.count ≤ most_segments
    count_few r q = go (map_number s list d lent w) refl
      where
        go : (k : ℕ) → map_number s list d lent w ≡ k → r.count ≤ most_segments
        go zero e = omega (arith, told_count s list d lent w r q, made_few s list d lent w e)
        go (suc k) e =
            let none : length (map_of s list d lent w).segments ≡ 0 = ap length (map_refused s list d lent w (omega arith)) in
            omega (arith, told_count s list d lent w r q, map_count s list d lent w)

  -- ---- the work bytes are wk
  module _ (wk : List ℕ) where
    -- fewer than 1,024 records are lent
    pub short_number : (m : List Segment) → length m < most_segments → made 16 0 0 ≡ made_of (map_into s list d m (length wk))
    short_number m h = short_made s list d (6 * length m) wk (made 16 0 0) (omega arith) refl

    pub short_bytes : (m : List Segment) → length m < most_segments → wk ≡ map_work s d (6 * length m) wk
    short_bytes m h = short_work s list d (6 * length m) wk (omega arith)

    pub short_records : (m : List Segment) → length m < most_segments → m ≡ recorded (map_into s list d m (length wk)).segments m
    unfolding recorded
    short_records m h =
        let e : 16 ≡ map_number s list d (6 * length m) (length wk) = told_number s list d (6 * length m) (length wk) (made 16 0 0) (short_number m h) in
        sym (ap (λ (v : List Segment). recorded v m) (map_refused s list d (6 * length m) (length wk) (omega arith)))

    -- the flat map z, made in 6,144 places, is read back into the records m
    module _ (m : List Segment) (h : most_segments ≤ length m) (r : Made) (e : r ≡ made_of (map_of s list d 6144 (length wk))) where
      same_map : map_of s list d 6144 (length wk) ≡ map_into s list d m (length wk)
      same_map = map_lent 6144 (6 * length m) (length wk) (omega arith) (omega arith)

      pub built_number : r ≡ made_of (map_into s list d m (length wk))
      built_number = e ∙ ap made_of same_map

      pub built_bytes : (v : List ℕ) → v ≡ map_work s d 6144 wk → v ≡ map_work s d (6 * length m) wk
      unfolding map_work
      built_bytes v q = q ∙ rw (le-leb (6 * most_segments) (6 * length m) (omega arith))

      pub built_records : (z z₀ : List ℕ) (w : List Segment) → z ≡ put (flat_of (map_of s list d 6144 (length wk)).segments) z₀ → w ≡ recorded (narrowed (segments_of (take (6 * r.count) z))) m
          → w ≡ recorded (map_into s list d m (length wk)).segments m
      built_records z z₀ w q g =
          let front : take (6 * r.count) z ≡ flat_of (map_of s list d 6144 (length wk)).segments =
          ap (λ (k : ℕ). take (6 * k) z) (told_count s list d 6144 (length wk) r e) ∙ ap (take (6 * (map_of s list d 6144 (length wk)).count)) q ∙ map_front s list d 6144 (length wk) z₀ in
          g ∙ ap (λ (l : List ℕ). recorded (narrowed (segments_of l)) m) front
          ∙ ap (λ (xs : List Segment). recorded (narrowed xs) m) (flat_back (map_of s list d 6144 (length wk)).segments)
          ∙ ap (λ (xs : List Segment). recorded xs m) (map_narrow 6144 (length wk))
          ∙ ap (λ (x : Map). recorded x.segments m) same_map
