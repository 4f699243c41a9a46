-- Laws of the cut, the shift and the decision.
use mathlib.Core.Path.{◌≡◌, refl, sym, ap, subst, ◌∙◌}
use mathlib.Core.Bool.{Bool, true, false, cond, ◌&&◌}
use mathlib.Core.List.{List, [], ◌∷◌}
use Prim.Native.Nat.{ℕ, suc, ◌+◌, ◌-◌, ◌≤◌, ◌<◌, min, max}
use native.Mathlib.Omega.{arith}
use lib.Dec.{ltb}
use Rattle.std.specs.Prelude.{Option, Some, None}
use Rattle.spec_base.specs.base.Limits.{most_ticks}
use Rattle.spec_time.specs.caption_time.Convert.{ticks_within, start_within, end_within}
use Rattle.spec_map.specs.declared.segment.Segment.{Segment}
use Rattle.spec_map.specs.segment.Segment.{end_bad}
use Rattle.spec_map.proofs.segment.SegmentLaws.{end_good}
use Rattle.spec_caption.specs.declared.caption_fate.Config.{Config}
use Rattle.spec_caption.specs.declared.caption_fate.Met.{Met}
use Rattle.spec_caption.specs.declared.caption_fate.Retimed.{Retimed}
use Rattle.spec_caption.specs.declared.caption_fate.Decision.{Decision}
use Rattle.spec_caption.specs.declared.caption_fate.Decision.TheVariants.{Strange, Dropped, Kept}
use Rattle.spec_caption.specs.caption_fate.Hit.{meets_parts, meets, Found, miss, hit, find_from, find_hit, met_of, hit_of}
use Rattle.spec_caption.specs.caption_fate.Lost.{lost_rule}
use Rattle.spec_caption.specs.caption_fate.Decide.{retimed_by, limited_hit, decide_in}
use Rattle.spec_caption.proofs.caption_fate.HitLaws.{meets_long, meets_later, meets_sooner, behind_of}

-- ---- what a met segment within the limits gives
pub record Fits (q o d a b : ℕ) : Type 0 where
  pub source : q + d ≤ most_ticks
  pub output : o + d ≤ most_ticks
  pub long : 0 < d
  pub later : a < q + d
  pub sooner : q < b

pub fits : (q o d a b : ℕ) → meets_parts q d a b ≡ true → end_bad q d ≡ false → end_bad o d ≡ false → Fits q o d a b
fits q o d a b m e f =
    record {
      source = end_good q d e;
      output = end_good o d f;
      long = meets_long q d a b m;
      later = meets_later q d a b m;
      sooner = meets_sooner q d a b m;
    }

pub kept_all : (kind T a b lg sm s e : ℕ) (x : Met) (lost behind : Bool)
    → lg ≡ max a x.source → sm ≡ min b (x.source + x.duration)
    → s ≡ start_within kind T (x.output + (lg - x.source)) → e ≡ end_within kind T (x.output + (sm - x.source))
    → lost ≡ (ltb (x.source + x.duration) b && behind)
    → ◌≡◌ {A = Retimed} (record { start = s; stop = e; start_cut = ltb a x.source; end_cut = ltb (x.source + x.duration) b; lost = lost })
    (retimed_by (start_within kind T) (end_within kind T) a b behind x)
kept_all kind T a b lg sm s e x lost behind el es ef eg eh = rw (eh, eg, ef, el, es)

-- ---- the decision by the hit that the code found
module _ (c : Config) (m : List Segment) (S E a b : ℕ) (ea : a ≡ ticks_within c.kind c.timescale S) (eb : b ≡ ticks_within c.kind c.timescale E) where
  decide_is : decide_in c m S E ≡ limited_hit c a b (find_hit m a b)
  unfolding decide_in
  decide_is = rw (ea, eb)

  gone_of : (r : Found) → hit_of r ≡ None → Dropped ≡ limited_hit c a b r
  gone_of miss p = refl
  gone_of (hit i z zs) p = absurd (let w : ◌≡◌ {A = ℕ} 0 1 = ap (λ (h : Option Met). elim h [ None ↦ 1 | Some v ↦ 0 ]) p in omega arith)

  pub decide_gone : (h : Option Met) → h ≡ hit_of (find_hit m a b) → h ≡ None → Dropped ≡ decide_in c m S E
  decide_gone h p q = gone_of (find_hit m a b) (sym p ∙ q) ∙ sym decide_is

  -- by the segment that was hit, as numbers
  abbrev by_met_lem : List Segment → Met → Decision
  by_met_lem ls z =
      cond (end_bad z.source z.duration) Strange
      (cond (end_bad z.output z.duration) Strange
      (Kept (retimed_by (start_within c.kind c.timescale) (end_within c.kind c.timescale) a b (lost_rule ls a b) z)))

  met_of_lem : (r : Found) (z : Met) → hit_of r ≡ Some z → by_met_lem (behind_of r) z ≡ limited_hit c a b r
  met_of_lem miss z p = absurd (let w : ◌≡◌ {A = ℕ} 0 1 = ap (λ (h : Option Met). elim h [ None ↦ 0 | Some v ↦ 1 ]) p in omega arith)
  met_of_lem (hit i s ss) z p =
      let v : met_of i s ≡ z = ap (λ (h : Option Met). elim h [ None ↦ z | Some v ↦ v ]) p in
      ap (by_met_lem ss) (sym v)

  met_is : (h : Option Met) (z : Met) → h ≡ hit_of (find_hit m a b) → h ≡ Some z → by_met_lem (behind_of (find_hit m a b)) z ≡ decide_in c m S E
  met_is h z p q = met_of_lem (find_hit m a b) z (sym p ∙ q) ∙ sym decide_is

  pub decide_source : (h : Option Met) (z : Met) (f : Bool) → h ≡ hit_of (find_hit m a b) → h ≡ Some z → f ≡ end_bad z.source z.duration → f ≡ true → Strange ≡ decide_in c m S E
  decide_source h z f p q e t = subst (λ (d : Decision). Strange ≡ d) (met_is h z p q) (rw (sym e ∙ t))

  pub decide_output : (h : Option Met) (z : Met) (f g : Bool) → h ≡ hit_of (find_hit m a b) → h ≡ Some z → f ≡ end_bad z.source z.duration → f ≡ false
      → g ≡ end_bad z.output z.duration → g ≡ true → Strange ≡ decide_in c m S E
  decide_output h z f g p q e t e' t' = subst (λ (d : Decision). Strange ≡ d) (met_is h z p q) (rw (sym e ∙ t, sym e' ∙ t'))

  pub decide_kept : (ls : List Segment) (h : Option Met) (z : Met) (f g : Bool) (r : Retimed) → h ≡ hit_of (find_hit m a b) → h ≡ Some z → f ≡ end_bad z.source z.duration → f ≡ false
      → g ≡ end_bad z.output z.duration → g ≡ false → r ≡ retimed_by (start_within c.kind c.timescale) (end_within c.kind c.timescale) a b (lost_rule ls a b) z
      → behind_of (find_hit m a b) ≡ ls → Kept r ≡ decide_in c m S E
  decide_kept ls h z f g r p q e t e' t' er eb =
      subst (λ (d : Decision). Kept r ≡ d) (met_is h z p q)
      (rw (sym e ∙ t, sym e' ∙ t') (ap Kept (er ∙ ap (λ (x : List Segment). retimed_by (start_within c.kind c.timescale) (end_within c.kind c.timescale) a b (lost_rule x a b) z) (sym eb))))

-- the hit that was found meets
meets_of : (i a b : ℕ) (m : List Segment) (z : Met) → hit_of (find_from i m a b) ≡ Some z → meets_parts z.source z.duration a b ≡ true
unfolding find_from
meets_of i a b [] z p = absurd (let w : ◌≡◌ {A = ℕ} 0 1 = ap (λ (h : Option Met). elim h [ None ↦ 0 | Some v ↦ 1 ]) p in omega arith)
meets_of i a b (x ∷ xs) z p = go (meets x a b) refl (meets_of (suc i) a b xs z) p
  where
    go : (t : Bool) → meets x a b ≡ t → (hit_of (find_from (suc i) xs a b) ≡ Some z → meets_parts z.source z.duration a b ≡ true)
        → hit_of (cond t (hit i x xs) (find_from (suc i) xs a b)) ≡ Some z → meets_parts z.source z.duration a b ≡ true
    go true e ih q =
        let v : met_of i x ≡ z = ap (λ (h : Option Met). elim h [ None ↦ z | Some v ↦ v ]) q in
        ap (λ (v : Met). meets_parts v.source v.duration a b) (sym v) ∙ e
    go false e ih q = ih q

pub hit_meets : (a b : ℕ) (m : List Segment) (h : Option Met) (z : Met) → h ≡ hit_of (find_hit m a b) → h ≡ Some z → meets_parts z.source z.duration a b ≡ true
hit_meets a b m h z p q = meets_of 0 a b m z (sym p ∙ q)
