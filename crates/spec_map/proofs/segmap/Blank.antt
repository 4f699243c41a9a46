-- What a blank list comes to (document 02, 2.4): the range of all n frames, snapped.
use mathlib.Core.Path.{◌≡◌, refl, sym, subst, ◌∙◌}
use mathlib.Core.Bool.{Bool, true, false, cond}
use mathlib.Core.Logic.{inr}
use mathlib.Core.List.{List, [], ◌∷◌}
use Prim.Native.Nat.{ℕ, zero, suc, ◌+◌, ◌-◌, ◌≤◌, ◌<◌, min}
use native.Mathlib.Omega.{arith}
use borrow.Author.Tests.{le-leb, lt-leb}
use Rattle.spec_base.specs.base.Refusal.{◌or_else◌, fault_unless}
use Rattle.spec_sheet.specs.sheet_frames.Frames.{frames_of, decode_of, sync_of, ticks_from}
use Rattle.spec_text.specs.text.Line.{blank}
use Rattle.spec_trim.specs.plan.Snap.{last_below, first_from, floor_sync, ceil_sync, snap_start, snap_end, snap_all, overlaps_fault}
use Rattle.spec_trim.proofs.plan.SnapMeaning.{NoSync, LastSync, FirstSync, floor_only, ceil_only}
use Rattle.spec_map.specs.segment.Segment.{segment}
use Rattle.spec_map.specs.segmap.Build.{source_start, range_ticks, range_fault, ranges_fault, segment_in, segments_in}
use Rattle.spec_map.specs.segmap.Map.{ranges_for, snapped_of}

below_one : (s : List ℕ) (k : ℕ) → k ≤ 1 → last_below s k ≡ 0
unfolding last_below
below_one s zero h = refl
below_one s (suc zero) h = go (sync_of s 0)
  where
    go : (t : Bool) → ◌≡◌ {A = ℕ} (cond t 0 0) 0
    go true = refl
    go false = refl
below_one s (suc (suc k)) h = absurd (omega arith)

first_end : (s : List ℕ) (i k : ℕ) → k ≡ 0 → first_from s i k ≡ i
unfolding first_from
first_end s i k e = rw e

module _ (sheet list : List ℕ) (b : blank list ≡ true) where
  -- outward it snaps to itself
  pub blank_outward : snapped_of sheet list 0 ≡ 0 ∷ frames_of sheet ∷ []
  unfolding snapped_of ranges_for snap_all snap_start snap_end floor_sync ceil_sync
  blank_outward =
      let n = frames_of sheet in
      let p : last_below sheet (min (0 + 1) n) ≡ 0 = below_one sheet (min (0 + 1) n) (omega arith) in
      let q : first_from sheet (min n n) (n - n) ≡ n = first_end sheet (min n n) (n - n) (omega arith) ∙ omega arith in
      rw (b, p, q)

  -- inward its start goes to the first sync frame (n where there is none) and its end to the last one (0 where there is none)
  inward : snapped_of sheet list 1 ≡ ceil_sync sheet (frames_of sheet) 0 ∷ floor_sync sheet (frames_of sheet) (frames_of sheet) ∷ []
  unfolding snapped_of ranges_for snap_all snap_start snap_end
  inward = rw b

  pub blank_inward : (a e : ℕ) → FirstSync sheet 0 (frames_of sheet) a → LastSync sheet (frames_of sheet) e → snapped_of sheet list 1 ≡ a ∷ e ∷ []
  blank_inward a e f l =
      let n = frames_of sheet in
      let p : min 0 n ≡ 0 = omega arith in
      let q : min (n + 1) n ≡ n = omega arith in
      let u : a ≡ ceil_sync sheet n 0 = ceil_only sheet n 0 a (subst (λ (i : ℕ). FirstSync sheet i n a) (sym p) f) in
      let v : e ≡ floor_sync sheet n n = floor_only sheet n n e (subst (λ (k : ℕ). LastSync sheet k e) (sym q) l) in
      inward ∙ sym (rw (u, v))

  -- without a sync frame that is turned over (9)
  pub blank_no_sync : 0 < frames_of sheet → NoSync sheet 0 (frames_of sheet) → ranges_fault sheet (frames_of sheet) (snapped_of sheet list 1) ≡ 9
  unfolding ranges_fault range_fault fault_unless ◌or_else◌
  blank_no_sync h none =
      let n = frames_of sheet in
      let e : snapped_of sheet list 1 ≡ n ∷ 0 ∷ [] = blank_inward n 0 (inr (refl, none)) (inr (refl, none)) in
      rw (e, lt-leb n 0 h)

  -- one range is never 8
  pub blank_apart : (d : ℕ) → overlaps_fault 0 (snapped_of sheet list d) ≡ 0
  unfolding snapped_of ranges_for snap_all overlaps_fault fault_unless ◌or_else◌
  blank_apart d = rw (b, le-leb 0 (snap_start sheet (frames_of sheet) d 0) (omega arith))

  -- outward it is the whole play, wherever the first frame shown is the first one decoded
  module _ (first : decode_of sheet 0 ≡ 0) where
    pub blank_passes : ranges_fault sheet (frames_of sheet) (snapped_of sheet list 0) ≡ 0
    unfolding ranges_fault range_fault fault_unless ◌or_else◌
    blank_passes =
        let n = frames_of sheet in
        rw (blank_outward, le-leb 0 n (omega arith), first, le-leb (0 + (n - 0)) n (omega arith))

    pub blank_whole : segments_in sheet 0 (snapped_of sheet list 0) ≡ segment 0 (frames_of sheet) 0 (frames_of sheet) 0 (ticks_from sheet 0 (frames_of sheet)) ∷ []
    unfolding segments_in segment_in source_start range_ticks ticks_from
    blank_whole =
        let n = frames_of sheet in
        let q : n - 0 ≡ n = omega arith in
        rw (blank_outward, first, q)
