-- Laws of the answer: its refusals, a dropped caption, a kept one.
use mathlib.Core.Path.{◌≡◌, refl, sym, ap, subst, ◌∙◌}
use mathlib.Core.Bool.{Bool, true, false, cond, not}
use mathlib.Core.List.{List, [], ◌∷◌}
use Prim.Native.Nat.{ℕ, suc, ◌+◌, ◌-◌, ◌/◌, ◌≤◌}
use native.Mathlib.Omega.{arith}
use mir.Syntax.{w64}
use mir.Val.{Fits}
use lib.Dec.{eqb, leb}
use lib.ListN.{length}
use borrow.Author.Tests.{eq-eqb, ne_eqb, leb-true, not-true}
use Rattle.std.specs.Prelude.{Option, Some, None}
use Rattle.spec_base.specs.base.Limits.{most_units, most_ticks}
use Rattle.spec_base.specs.base.Refusal.{fault_unless}
use Rattle.spec_base.specs.base.Put.{put}
use Rattle.spec_base.proofs.base.RefusalLaws.{held, else_zero}
use Rattle.spec_base.proofs.base.Laws.{yes!, no!, cond_left, cond_right}
use Rattle.spec_time.specs.caption_time.Kind.{kind_bad, units_of}
use Rattle.spec_time.specs.caption_time.Convert.{timescale_bad, ticks_of, ticks_within}
use Rattle.spec_time.proofs.caption_time.Limits.{ticks_within_lem, timescale_low, timescale_high}
use Rattle.spec_map.specs.declared.segment.Segment.{Segment}
use Rattle.spec_map.specs.segment.Segment.{source_of, source_end, segments_of, segment_bad, any_bad, end_bad, map_bad}
use Rattle.spec_map.proofs.segment.SegmentLaws.{end_good, any_good}
use Rattle.spec_caption.specs.declared.caption_fate.Config.{Config}
use Rattle.spec_caption.specs.declared.caption_fate.Counted.{Counted}
use Rattle.spec_caption.specs.declared.caption_fate.Counted.TheVariants.{Nothing, Dropped}
use Rattle.spec_caption.specs.declared.caption_fate.Met.{Met}
use Rattle.spec_caption.specs.caption_fate.Hit.{meets, Found, miss, hit, find_from, find_hit, met_of, hit_of}
use Rattle.spec_caption.proofs.caption_fate.FineLaws.{Set, segment_good}
use Rattle.spec_ask.specs.declared.ask_reason.Why.{Why}
use Rattle.spec_ask.specs.ask_reason.Reason.{causes_of, counted_cut, refused_why, kept_why, why_found, why_number, why_of, causes_found, causes_left}

-- ---- what is not refused
record Taken (m : List ℕ) (T kind S E places : ℕ) : Type 0 where
  timescale : timescale_bad T ≡ false
  map : map_bad m ≡ false
  known : kind_bad kind ≡ false
  start : S ≤ most_units
  stop : E ≤ most_units
  room : length m / 6 ≤ places

taken : (m : List ℕ) (T kind S E places : ℕ) → why_number m T kind S E places ≡ 0 → Taken m T kind S E places
unfolding why_number
taken m T kind S E places e =
    let a = else_zero (fault_unless (not (timescale_bad T)) 15) _ e in
    let b = else_zero (fault_unless (not (map_bad m)) 15) _ a.1 in
    let c = else_zero (fault_unless (not (kind_bad kind)) 16) _ b.1 in
    let d = else_zero (fault_unless (leb S most_units) 16) _ c.1 in
    let f = else_zero (fault_unless (leb E most_units) 16) _ d.1 in
    record {
      timescale = not-true _ (held _ 15 (λ z. omega arith) a.0);
      map = not-true _ (held _ 15 (λ z. omega arith) b.0);
      known = not-true _ (held _ 16 (λ z. omega arith) c.0);
      start = leb-true S most_units (held _ 16 (λ z. omega arith) d.0);
      stop = leb-true E most_units (held _ 16 (λ z. omega arith) f.0);
      room = leb-true (length m / 6) places (held _ 16 (λ z. omega arith) f.1);
    }

ticks_same : (kind T S : ℕ) → kind_bad kind ≡ false → timescale_bad T ≡ false → S ≤ most_units → ticks_within kind T S ≡ ticks_of T (units_of kind) S
ticks_same kind T S hk hT h =
    ticks_within_lem (record { kind_known = hk; T-low = timescale_low T hT; T-high = omega (arith, timescale_high T hT); value_most = omega arith })

-- ---- the segment that is met is within the limits
abbrev Sound : Found → Type 0
Sound miss = Unit {0}
Sound (hit i x xs) = end_bad (source_of x) x.duration ≡ false

find_sound : (c : Config) → Set c → (i : ℕ) (m : List Segment) (a b : ℕ) → any_bad m ≡ false → Sound (find_from i m a b)
unfolding find_from any_bad
find_sound c w i [] a b g = tt
find_sound c w i (x ∷ xs) a b g = go (meets x a b) (find_sound c w (suc i) xs a b (cond_right (segment_bad x.source_start_frame x.source_end_frame x.source_start_dts x.frame_count x.output_start x.duration) (any_bad xs) g))
  where
    go : (t : Bool) → Sound (find_from (suc i) xs a b) → Sound (cond t (hit i x xs) (find_from (suc i) xs a b))
    go true ih = (segment_good c w _ _ _ _ _ _ (cond_left (segment_bad x.source_start_frame x.source_end_frame x.source_start_dts x.frame_count x.output_start x.duration) (any_bad xs) g)).0
    go false ih = ih

-- ---- as the code has it
pub refused_why_lem : (m : List ℕ) (T kind S E places r : ℕ) → r ≡ why_number m T kind S E places → (r ≡ 0 → ⊥)
    → ◌≡◌ {A = Why} (record { number = r; fate = Nothing; place = 0; start_cut = 0; end_cut = 0 }) (why_of m T kind S E places)
unfolding why_of
refused_why_lem m T kind S E places r e n = no! _ (ne_eqb (why_number m T kind S E places) 0 (λ z. n (e ∙ z))) (ap refused_why e)

pub refused_left : (m : List ℕ) (T kind S E r : ℕ) (l : List ℕ) → r ≡ why_number m T kind S E (length l) → (r ≡ 0 → ⊥) → l ≡ causes_left m T kind S E l
unfolding causes_left
refused_left m T kind S E r l e n = no! _ (ne_eqb (why_number m T kind S E (length l)) 0 (λ z. n (e ∙ z))) refl

module _ (m : List ℕ) (T kind S E r : ℕ) (l : List ℕ) (e : r ≡ why_number m T kind S E (length l)) (z : r ≡ 0) where
  k : Taken m T kind S E (length l)
  k = taken m T kind S E (length l) (sym e ∙ z)

  pub room_fill : length m / 6 ≤ length l
  room_fill = k.room

  zero_number : eqb (why_number m T kind S E (length l)) 0 ≡ true
  zero_number = eq-eqb (why_number m T kind S E (length l)) 0 (sym e ∙ z)

  module _ (a b : ℕ) (ea : a ≡ ticks_within kind T S) (eb : b ≡ ticks_within kind T E) where
    ta : ticks_of T (units_of kind) S ≡ a
    ta = sym (ea ∙ ticks_same kind T S k.known k.timescale k.start)

    tb : ticks_of T (units_of kind) E ≡ b
    tb = sym (eb ∙ ticks_same kind T E k.known k.timescale k.stop)

    why_is : why_found a b (find_hit (segments_of m) a b) ≡ why_of m T kind S E (length l)
    unfolding why_of
    why_is = yes! _ zero_number (rw (ta, tb))

    left_is : causes_found (segments_of m) a b (find_hit (segments_of m) a b) l ≡ causes_left m T kind S E l
    unfolding causes_left
    left_is = yes! _ zero_number (rw (ta, tb))

    missing : (f : Found) → hit_of f ≡ None → f ≡ miss
    missing miss q = refl
    missing (hit i x xs) q = absurd (let w : ◌≡◌ {A = ℕ} 0 1 = ap (λ (h : Option Met). elim h [ None ↦ 1 | Some v ↦ 0 ]) q in omega arith)

    module _ (h : Option Met) (eh : h ≡ hit_of (find_hit (segments_of m) a b)) where
      pub dropped_why_lem : h ≡ None → ◌≡◌ {A = Why} (record { number = 0; fate = Dropped; place = 0; start_cut = 0; end_cut = 0 }) (why_of m T kind S E (length l))
      dropped_why_lem q = ap (why_found a b) (sym (missing (find_hit (segments_of m) a b) (sym eh ∙ q))) ∙ why_is

      pub dropped_left : h ≡ None → (l' : List ℕ) → l' ≡ put (causes_of (segments_of m) a b) l → l' ≡ causes_left m T kind S E l
      dropped_left q l' el =
          el ∙ ap (λ (f : Found). causes_found (segments_of m) a b f l) (sym (missing (find_hit (segments_of m) a b) (sym eh ∙ q))) ∙ left_is

      module _ (v : Met) (q : h ≡ Some v) where
        -- the hit as numbers
        by_met : (f : Found) → hit_of f ≡ Some v → Sound f
            → (v.source + v.duration ≤ most_ticks) × (why_found a b f ≡ kept_why v.place (v.source - a) (b - (v.source + v.duration))) × (causes_found (segments_of m) a b f l ≡ l)
        by_met miss p s = absurd (let w : ◌≡◌ {A = ℕ} 0 1 = ap (λ (h : Option Met). elim h [ None ↦ 0 | Some v ↦ 1 ]) p in omega arith)
        by_met (hit i x xs) p s =
            let w : met_of i x ≡ v = ap (λ (h : Option Met). elim h [ None ↦ v | Some v ↦ v ]) p in (
              subst (λ (y : Met). y.source + y.duration ≤ most_ticks) w (end_good (source_of x) x.duration s),
              subst (λ (y : Met). kept_why i (source_of x - a) (b - source_end x) ≡ kept_why y.place (y.source - a) (b - (y.source + y.duration))) w refl,
              refl,
            )

        facts : (v.source + v.duration ≤ most_ticks) × (why_found a b (find_hit (segments_of m) a b) ≡ kept_why v.place (v.source - a) (b - (v.source + v.duration))) × (causes_found (segments_of m) a b (find_hit (segments_of m) a b) l ≡ l)
        facts =
            by_met (find_hit (segments_of m) a b) (sym eh ∙ q)
            (find_sound (record { kind = kind; timescale = T }) (record { kind_known = k.known; timescale_good = k.timescale }) 0 (segments_of m) a b (any_good m k.map))

        pub end_fits : Fits w64 (v.source + v.duration)
        end_fits = record { fits = omega (arith, facts.0) }

        pub kept_why_lem : (s t : ℕ) (c : Counted) → s ≡ v.source - a → t ≡ b - (v.source + v.duration) → c ≡ counted_cut s t
            → ◌≡◌ {A = Why} (record { number = 0; fate = c; place = v.place; start_cut = s; end_cut = t }) (why_of m T kind S E (length l))
        kept_why_lem s t c es et ec = rw (ec, es, et) (sym facts.1 ∙ why_is)

        pub kept_left : l ≡ causes_left m T kind S E l
        kept_left = sym facts.2 ∙ left_is
