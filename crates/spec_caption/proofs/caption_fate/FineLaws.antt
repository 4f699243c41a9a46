-- Within the limits the code's decision is document 01's: no conversion is past its limits, and no segment is strange.
use mathlib.Core.Path.{◌≡◌, refl, ap, ◌∙◌}
use mathlib.Core.Bool.{Bool, true, false, cond, true≢false}
use mathlib.Core.List.{List, [], ◌∷◌}
use Prim.Native.Nat.{ℕ, suc, ◌+◌, ◌≤◌, min, max}
use native.Mathlib.Omega.{arith}
use lib.Dec.{ltb}
use Rattle.spec_base.specs.base.Limits.{most_frame}
use Rattle.spec_time.specs.caption_time.Kind.{kind_bad, units_of}
use Rattle.spec_time.specs.caption_time.Convert.{ticks_of, timescale_bad, ticks_within, start_within, end_within, core_timescale, core_units, core_ticks}
use Rattle.spec_time.proofs.caption_time.Limits.{Within, ticks_within_lem, start_within_lem, end_within_lem, timescale_low, timescale_high}
use Rattle.spec_map.specs.declared.segment.Segment.{Segment}
use Rattle.spec_map.specs.segment.Segment.{source_of, output_start_of, segments_of, end_bad, segment_bad, any_bad, map_bad}
use Rattle.spec_caption.specs.declared.caption_fate.Config.{Config}
use Rattle.spec_caption.specs.declared.caption_fate.Met.{Met}
use Rattle.spec_caption.specs.declared.caption_fate.Decision.TheVariants.{Kept}
use Rattle.spec_caption.specs.caption_fate.Hit.{meets, Found, miss, hit, find_from, find_hit, met_of}
use Rattle.spec_caption.specs.caption_fate.Lost.{lost_rule}
use Rattle.spec_caption.specs.caption_fate.Decide.{moved, retimed_by, retimed_at, decide_hit, decide_ticks, decide_of, limited_hit, decide_in}
use Rattle.spec_caption.specs.caption_fate.Says.{Cue, cue}
use Rattle.spec_caption.specs.caption_fate.Emit.{cue_emit, emit_by, emit_of}
use Rattle.spec_caption.specs.caption_fate.Told.{answered, cue_in, part_in}
use Rattle.spec_map.proofs.segment.SegmentLaws.{any_good}
use Rattle.spec_caption.proofs.caption_fate.DecideLaws.{Fits, fits}

-- ---- a setting within the limits: a known kind, and T from 1 to 1,000,000,000
pub record Set (c : Config) : Type 0 where
  pub kind_known : kind_bad c.kind ≡ false
  pub timescale_good : timescale_bad c.timescale ≡ false

module _ (c : Config) (set : Set c) where
  within : (value most : ℕ) → value ≤ most → Within c.kind c.timescale core_timescale value most
  within value most h =
      record {
        kind_known = set.kind_known;
        T-low = timescale_low c.timescale set.timescale_good;
        T-high = omega (arith, timescale_high c.timescale set.timescale_good);
        value_most = h;
      }

  ticks_same : (S : ℕ) → S ≤ core_units → ticks_within c.kind c.timescale S ≡ ticks_of c.timescale (units_of c.kind) S
  ticks_same S h = ticks_within_lem (within S core_units h)

  -- ---- a segment that is met and within the limits
  cond_left : (s t : Bool) → cond s true t ≡ false → s ≡ false
  cond_left true t e = absurd (true≢false e)
  cond_left false t e = refl

  cond_right : (s t : Bool) → cond s true t ≡ false → t ≡ false
  cond_right true t e = absurd (true≢false e)
  cond_right false t e = e

  pub segment_good : (f l q k o d : ℕ) → segment_bad f l q k o d ≡ false → (end_bad q d ≡ false) × (end_bad o d ≡ false)
  unfolding segment_bad
  segment_good f l q k o d e =
      let e1 = cond_right (ltb most_frame f) _ e in
      let e2 = cond_right (ltb most_frame l) _ e1 in
      let e3 = cond_right (ltb most_frame k) _ e2 in
      (cond_left (end_bad q d) (end_bad o d) e3, cond_right (end_bad q d) (end_bad o d) e3)

  abbrev bad_of : Segment → Bool
  bad_of x =
      segment_bad x.source_start_frame x.source_end_frame x.source_start_dts x.frame_count x.output_start x.duration

  abbrev Sound : (a b : ℕ) → Found → Type 0
  Sound a b miss = Unit {0}
  Sound a b (hit i x xs) = (meets x a b ≡ true) × (end_bad (source_of x) x.duration ≡ false) × (end_bad (output_start_of x) x.duration ≡ false)

  find_sound : (i : ℕ) (m : List Segment) (a b : ℕ) → any_bad m ≡ false → Sound a b (find_from i m a b)
  unfolding find_from any_bad
  find_sound i [] a b g = tt
  find_sound i (x ∷ xs) a b g = go (meets x a b) refl (find_sound (suc i) xs a b (cond_right (bad_of x) (any_bad xs) g))
    where
      go : (t : Bool) → meets x a b ≡ t → Sound a b (find_from (suc i) xs a b) → Sound a b (cond t (hit i x xs) (find_from (suc i) xs a b))
      go true e ih = let p = segment_good _ _ _ _ _ _ (cond_left (bad_of x) (any_bad xs) g) in (e, p.0, p.1)
      go false e ih = ih

  retimed_same : (a b : ℕ) (lost : Bool) (x : Met) → Fits x.source x.output x.duration a b
      → retimed_by (start_within c.kind c.timescale) (end_within c.kind c.timescale) a b lost x ≡ retimed_at c.timescale (units_of c.kind) a b lost x
  retimed_same a b lost x f =
      let hs : moved x.source x.output (max a x.source) ≤ core_ticks = omega (arith, f.later, f.long, f.output) in
      let he : moved x.source x.output (min b (x.source + x.duration)) ≤ core_ticks = omega (arith, f.output) in
      rw (start_within_lem (within _ core_ticks hs), end_within_lem (within _ core_ticks he))

  hit_same : (a b : ℕ) (f : Found) → Sound a b f → limited_hit c a b f ≡ decide_hit c.timescale (units_of c.kind) a b f
  hit_same a b miss s = refl
  hit_same a b (hit i x xs) s =
      rw (s.1, s.2) (ap Kept (retimed_same a b (lost_rule xs a b) (met_of i x) (fits (source_of x) (output_start_of x) x.duration a b s.0 s.1 s.2)))

  -- for times that can be read, and a map that open accepts
  pub decide_same : (m : List Segment) (S E : ℕ) → any_bad m ≡ false → S ≤ core_units → E ≤ core_units → decide_in c m S E ≡ decide_of c m S E
  unfolding decide_in decide_of decide_ticks
  decide_same m S E g hs he =
      rw (ticks_same S hs, ticks_same E he)
      (hit_same _ _ (find_hit m (ticks_of c.timescale (units_of c.kind) S) (ticks_of c.timescale (units_of c.kind) E)) (find_sound 0 m _ _ g))

  pub decide_fine : (m : List ℕ) (S E : ℕ) → map_bad m ≡ false → S ≤ core_units → E ≤ core_units → decide_in c (segments_of m) S E ≡ decide_of c (segments_of m) S E
  decide_fine m S E g hs he = decide_same (segments_of m) S E (any_good m g) hs he

-- ---- a cue through the map: document 01's decision is never strange
hit_answered : (kind T U a b : ℕ) (q : Cue) (f : Found) → cue_in kind q (decide_hit T U a b f) ≡ answered (cue_emit kind q (decide_hit T U a b f))
hit_answered kind T U a b q miss = refl
hit_answered kind T U a b q (hit i x xs) = refl

pub cue_fine : (c : Config) → Set c → (m : List ℕ) → map_bad m ≡ false → (q : Cue) → q.start ≤ core_units → q.stop ≤ core_units
    → part_in c (segments_of m) (cue q) ≡ answered (emit_of c (segments_of m) (cue q))
unfolding part_in emit_by decide_of decide_ticks
cue_fine c set m g q hs he =
    ap (cue_in c.kind q) (decide_fine c set m q.start q.stop g hs he) ∙
    hit_answered c.kind c.timescale (units_of c.kind) _ _ q
    (find_hit (segments_of m) (ticks_of c.timescale (units_of c.kind) q.start) (ticks_of c.timescale (units_of c.kind) q.stop))
