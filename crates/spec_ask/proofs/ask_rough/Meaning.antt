-- The answer means what it says and no other does, and where each range holds a single tick it agrees with the fate of a caption so read.
use mathlib.Core.Path.{◌≡◌, refl, sym, ◌∙◌}
use mathlib.Core.Bool.{Bool, true, false, cond, not, true≢false, ◌||◌}
use mathlib.Core.List.{List}
use Prim.Native.Nat.{ℕ, ◌≤◌}
use native.Mathlib.Omega.{arith}
use native.Mathlib.Nat.{le_refl}
use lib.Dec.{leb}
use borrow.Author.Tests.{leb-true, le-leb, eq-eqb}
use Rattle.spec_base.specs.base.Refusal.{◌or_else◌, fault_unless}
use Rattle.spec_base.proofs.base.RefusalLaws.{held, else_zero}
use Rattle.spec_time.specs.caption_time.Kind.{units_of}
use Rattle.spec_time.specs.caption_time.Convert.{ticks_of}
use Rattle.spec_map.specs.declared.segment.Segment.{Segment}
use Rattle.spec_map.specs.segment.Segment.{segments_of, map_bad}
use Rattle.spec_caption.specs.declared.caption_fate.Config.{Config}
use Rattle.spec_caption.specs.caption_fate.Hit.{Found, miss, hit, find_hit, met_of}
use Rattle.spec_caption.specs.caption_fate.Decide.{retimed_at, decide_hit, decide_ticks, decide_of}
use Rattle.spec_caption.specs.caption_fate.Lost.{lost_rule}
use Rattle.spec_caption.specs.caption_fate.Fates.{shifted, clipped, fate_by, fate_of, NoneMeets}
use Rattle.spec_caption.proofs.caption_fate.FateLaws.{HitRight, find_right}
use Rattle.spec_ask.specs.declared.ask_rough.Judged.{Judged}
use Rattle.spec_ask.specs.declared.ask_rough.Judged.TheVariants.{Refused, SurelyKept, SurelyDropped, Unsure}
use Rattle.spec_ask.specs.ask_rough.Rough.{found, kept_at, MeetsOne, AtEvery, AtOne, Means, Only, judged, rough_number, rough_of, JudgedAs}
use Rattle.spec_ask.proofs.ask_rough.Wider.{kept_wider}

-- ---- two bounds in order: the answer means what it says
module _ (m : List Segment) (a₁ a₂ b₁ b₂ : ℕ) (ha : a₁ ≤ a₂) (hb : b₁ ≤ b₂) where
  surely_kept : kept_at m a₂ b₁ ≡ true → AtEvery m a₁ a₂ b₁ b₂ true
  surely_kept e a b p q r s = kept_wider a₂ b₁ a b (omega (arith, q, ha)) r m e

  surely_dropped : kept_at m a₁ b₂ ≡ false → AtEvery m a₁ a₂ b₁ b₂ false
  surely_dropped e a b p q r s = go (kept_at m a b) refl
    where
      go : (t : Bool) → kept_at m a b ≡ t → kept_at m a b ≡ false
      go true k = absurd (true≢false (sym (kept_wider a b a₁ b₂ p s m k) ∙ e))
      go false k = k

  one : (a b : ℕ) (t : Bool) → a₁ ≤ a → a ≤ a₂ → b₁ ≤ b → b ≤ b₂ → kept_at m a b ≡ t → AtOne m a₁ a₂ b₁ b₂ t
  one a b t p q r s e = record { start = a; stop = b; start_low = p; start_high = q; stop_low = r; stop_high = s; fate = e }

  pub judged_means : Means m a₁ a₂ b₁ b₂ (judged (kept_at m a₂ b₁) (kept_at m a₁ b₂))
  unfolding judged
  judged_means = go (kept_at m a₂ b₁) (kept_at m a₁ b₂) refl refl
    where
      go : (s l : Bool) → kept_at m a₂ b₁ ≡ s → kept_at m a₁ b₂ ≡ l → Means m a₁ a₂ b₁ b₂ (cond s SurelyKept (cond l Unsure SurelyDropped))
      go true l e f = surely_kept e
      go false true e f =
          (one a₁ b₂ true (le_refl a₁) ha hb (le_refl b₂) f, one a₂ b₁ false ha (le_refl a₂) (le_refl b₁) hb e)
      go false false e f = surely_dropped f

-- "surely" and "unsure" exclude each other: an answer that means one thing means no other
pub means_one : (m : List Segment) (a₁ a₂ b₁ b₂ : ℕ) → a₁ ≤ a₂ → b₁ ≤ b₂ → (j k : Judged) → Means m a₁ a₂ b₁ b₂ j → Means m a₁ a₂ b₁ b₂ k → j ≡ k
means_one m a₁ a₂ b₁ b₂ ha hb (Refused n) k p q = absurd p
means_one m a₁ a₂ b₁ b₂ ha hb SurelyKept (Refused n) p q = absurd q
means_one m a₁ a₂ b₁ b₂ ha hb SurelyKept SurelyKept p q = refl
means_one m a₁ a₂ b₁ b₂ ha hb SurelyKept SurelyDropped p q = absurd (true≢false (sym (p a₁ b₁ (le_refl a₁) ha (le_refl b₁) hb) ∙ q a₁ b₁ (le_refl a₁) ha (le_refl b₁) hb))
means_one m a₁ a₂ b₁ b₂ ha hb SurelyKept Unsure p q = let z = q.1 in absurd (true≢false (sym (p z.start z.stop z.start_low z.start_high z.stop_low z.stop_high) ∙ z.fate))
means_one m a₁ a₂ b₁ b₂ ha hb SurelyDropped (Refused n) p q = absurd q
means_one m a₁ a₂ b₁ b₂ ha hb SurelyDropped SurelyKept p q = absurd (true≢false (sym (q a₁ b₁ (le_refl a₁) ha (le_refl b₁) hb) ∙ p a₁ b₁ (le_refl a₁) ha (le_refl b₁) hb))
means_one m a₁ a₂ b₁ b₂ ha hb SurelyDropped SurelyDropped p q = refl
means_one m a₁ a₂ b₁ b₂ ha hb SurelyDropped Unsure p q = let z = q.0 in absurd (true≢false (sym z.fate ∙ p z.start z.stop z.start_low z.start_high z.stop_low z.stop_high))
means_one m a₁ a₂ b₁ b₂ ha hb Unsure (Refused n) p q = absurd q
means_one m a₁ a₂ b₁ b₂ ha hb Unsure SurelyKept p q = let z = p.1 in absurd (true≢false (sym (q z.start z.stop z.start_low z.start_high z.stop_low z.stop_high) ∙ z.fate))
means_one m a₁ a₂ b₁ b₂ ha hb Unsure SurelyDropped p q = let z = p.0 in absurd (true≢false (sym z.fate ∙ q z.start z.stop z.start_low z.start_high z.stop_low z.stop_high))
means_one m a₁ a₂ b₁ b₂ ha hb Unsure Unsure p q = refl

-- ---- what is not refused means what it says
in_order : (m : List ℕ) (a₁ a₂ b₁ b₂ : ℕ) → rough_number m a₁ a₂ b₁ b₂ ≡ 0 → (a₁ ≤ a₂) × (b₁ ≤ b₂)
unfolding rough_number
in_order m a₁ a₂ b₁ b₂ e =
    let p = else_zero (fault_unless (not (map_bad m)) 15) _ e in
    let q = else_zero (fault_unless (leb a₁ a₂) 16) _ p.1 in
    (leb-true a₁ a₂ (held _ 16 (λ z. omega arith) q.0), leb-true b₁ b₂ (held _ 16 (λ z. omega arith) q.1))

pub rough_means : (m : List ℕ) (a₁ a₂ b₁ b₂ : ℕ) → rough_number m a₁ a₂ b₁ b₂ ≡ 0 → Means (segments_of m) a₁ a₂ b₁ b₂ (rough_of m a₁ a₂ b₁ b₂)
unfolding rough_of
rough_means m a₁ a₂ b₁ b₂ e =
    let h = in_order m a₁ a₂ b₁ b₂ e in rw (eq-eqb (rough_number m a₁ a₂ b₁ b₂) 0 e) (judged_means (segments_of m) a₁ a₂ b₁ b₂ h.0 h.1)

-- and no other answer does: surely kept, surely dropped and unsure are told exactly where they hold
pub rough_only : (m : List ℕ) (a₁ a₂ b₁ b₂ : ℕ) → rough_number m a₁ a₂ b₁ b₂ ≡ 0 → Only (segments_of m) a₁ a₂ b₁ b₂ (rough_of m a₁ a₂ b₁ b₂)
rough_only m a₁ a₂ b₁ b₂ e =
    let h = in_order m a₁ a₂ b₁ b₂ e in
    let r = rough_means m a₁ a₂ b₁ b₂ e in
    record { means = r; only = λ k q. means_one (segments_of m) a₁ a₂ b₁ b₂ h.0 h.1 k (rough_of m a₁ a₂ b₁ b₂) q r }

-- ---- "kept" in plain words
kept_found : (m : List Segment) (a b : ℕ) (f : Found) → HitRight m a b f → found f ≡ true → MeetsOne m a b
kept_found m a b miss r e = absurd (true≢false (sym e))
kept_found m a b (hit i x xs) r e = record { segment = x; first = r }

pub kept_plain : (m : List Segment) (a b : ℕ) → kept_at m a b ≡ true → MeetsOne m a b
unfolding kept_at
kept_plain m a b e = kept_found m a b (find_hit m a b) (find_right 0 m a b) e

dropped_found : (m : List Segment) (a b : ℕ) (f : Found) → HitRight m a b f → found f ≡ false → NoneMeets m a b
dropped_found m a b miss r e = r
dropped_found m a b (hit i x xs) r e = absurd (true≢false e)

pub dropped_plain : (m : List Segment) (a b : ℕ) → kept_at m a b ≡ false → NoneMeets m a b
unfolding kept_at
dropped_plain m a b e = dropped_found m a b (find_hit m a b) (find_right 0 m a b) e

-- ---- a single tick each: the fate of a caption so read
module _ (T U a b : ℕ) where
  by_found : (f : Found) → JudgedAs (fate_by (decide_hit T U a b f)) (judged (found f) (found f))
  unfolding judged
  by_found miss = refl
  by_found (hit i x xs) = let r = retimed_at T U a b (lost_rule xs a b) (met_of i x) in go (r.start_cut || r.end_cut) r.start r.stop
    where
      go : (t : Bool) (s e : ℕ) → JudgedAs (cond t (clipped s e) (shifted s e)) SurelyKept
      go true s e = refl
      go false s e = refl

pub single_number : (m : List ℕ) (a b : ℕ) → map_bad m ≡ false → rough_number m a a b b ≡ 0
unfolding rough_number ◌or_else◌ fault_unless
single_number m a b g = rw (g, le-leb a a (le_refl a), le-leb b b (le_refl b))

pub single_tick : (c : Config) (m : List ℕ) (S E : ℕ) → map_bad m ≡ false
    → JudgedAs (fate_of c (segments_of m) S E)
    (rough_of m (ticks_of c.timescale (units_of c.kind) S) (ticks_of c.timescale (units_of c.kind) S)
    (ticks_of c.timescale (units_of c.kind) E) (ticks_of c.timescale (units_of c.kind) E))
unfolding fate_of decide_of decide_ticks rough_of kept_at
single_tick c m S E g =
    let a = ticks_of c.timescale (units_of c.kind) S in
    let b = ticks_of c.timescale (units_of c.kind) E in
    rw (single_number m a b g) (by_found c.timescale (units_of c.kind) a b (find_hit (segments_of m) a b))
