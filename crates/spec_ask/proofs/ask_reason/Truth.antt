-- The reason is the true one.
use mathlib.Core.Path.{◌≡◌, refl, sym, ap, subst, ◌∙◌}
use mathlib.Core.Bool.{Bool, true, false, cond, ◌||◌, true≢false}
use mathlib.Core.List.{List, [], ◌∷◌}
use Prim.Native.Nat.{ℕ, suc, ◌-◌, ◌*◌, ◌/◌, ◌≤◌, ◌<◌}
use native.Mathlib.Omega.{arith}
use lib.Dec.{leb, ltb, eqb}
use lib.ListN.{length, take}
use borrow.Author.Tests.{le-leb, eqb-true, lt-ltb, eq-eqb, ne_eqb, leb-true, leb-false, ltb-true, ltb-false}
use Rattle.spec_base.specs.base.Limits.{most_units}
use Rattle.spec_base.specs.base.Refusal.{◌or_else◌, fault_unless}
use Rattle.spec_base.specs.base.Put.{put}
use Rattle.spec_base.proofs.base.PutLaws.{take_put}
use Rattle.spec_time.specs.caption_time.Kind.{kind_bad, units_of}
use Rattle.spec_time.specs.caption_time.Convert.{ticks_of, timescale_bad}
use Rattle.spec_time.proofs.caption_time.Limits.{units_high}
use Rattle.spec_map.specs.declared.segment.Segment.{Segment}
use Rattle.spec_map.specs.segment.Segment.{source_of, source_end, segments_of, map_bad}
use Rattle.spec_caption.specs.declared.caption_fate.Config.{Config}
use Rattle.spec_caption.specs.declared.caption_fate.Counted.TheVariants.{Shifted, Clipped}
use Rattle.spec_caption.specs.caption_fate.Hit.{meets_parts, meets, Found, miss, hit, find_from, find_hit, met_of}
use Rattle.spec_caption.specs.caption_fate.Lost.{lost_rule}
use Rattle.spec_caption.specs.caption_fate.Decide.{retimed_at, decide_hit, decide_ticks, decide_of}
use Rattle.spec_caption.specs.caption_fate.Fates.{shifted, clipped, fate_by, fate_of}
use Rattle.spec_caption.specs.caption_fate.Emit.{decided}
use Rattle.spec_caption.specs.caption_fate.Told.{counted_of}
use Rattle.spec_ask.specs.declared.ask_reason.Why.{Why}
use Rattle.spec_ask.specs.ask_reason.Reason.{cause_parts, causes_of, Fails, AllFail, TrueHit, TrueReason, counted_cut, why_found, why_number, why_of, causes_found, causes_left}
use Rattle.spec_ask.proofs.ask_reason.Named.{hit_first, first_named}
use Rattle.spec_base.proofs.base.Laws.{pos_of}

-- a segment that is not met fails for its cause
fails : (x : Segment) (a b : ℕ) → meets x a b ≡ false → Fails x a b (cause_parts (source_of x) x.duration a b)
unfolding cause_parts meets_parts
fails x a b e = go (eqb x.duration 0) (leb (source_end x) a) (leb b (source_of x)) refl refl refl
  where
    go : (u v w : Bool) → eqb x.duration 0 ≡ u → leb (source_end x) a ≡ v → leb b (source_of x) ≡ w → Fails x a b (cond u 1 (cond v 2 (cond w 3 0)))
    go true v w p q r = eqb-true x.duration 0 p
    go false true w p q r = (pos_of x.duration p, leb-true (source_end x) a q)
    go false false true p q r = (pos_of x.duration p, leb-false (source_end x) a q, leb-true b (source_of x) r)
    go false false false p q r =
        absurd (true≢false
        (sym (rw (lt-ltb 0 x.duration (pos_of x.duration p), lt-ltb a (source_end x) (leb-false (source_end x) a q), lt-ltb (source_of x) b (leb-false b (source_of x) r))) ∙ e))

-- a dropped caption: every segment fails for its stated cause
pub all_fail : (i : ℕ) (m : List Segment) (a b : ℕ) → find_from i m a b ≡ miss → AllFail m a b (causes_of m a b)
unfolding find_from causes_of
all_fail i [] a b e = tt
all_fail i (x ∷ xs) a b e = go (meets x a b) refl e (λ r. all_fail (suc i) xs a b r)
  where
    go : (t : Bool) → meets x a b ≡ t → cond t (hit i x xs) (find_from (suc i) xs a b) ≡ miss
        → (find_from (suc i) xs a b ≡ miss → AllFail xs a b (causes_of xs a b))
        → Fails x a b (cause_parts (source_of x) x.duration a b) × AllFail xs a b (causes_of xs a b)
    go true q r ih = absurd (let w : ◌≡◌ {A = ℕ} 0 1 = ap (λ (f : Found). elim f [ miss ↦ 1 | hit j y ys ↦ 0 ]) r in omega arith)
    go false q r ih = (fails x a b q, ih r)

-- ---- both, of what is told
causes_many : (m : List Segment) (a b : ℕ) → length (causes_of m a b) ≡ length m
unfolding causes_of
causes_many [] a b = refl
causes_many (x ∷ xs) a b = ap suc (causes_many xs a b)

-- the causes stand at the start of the places
causes_first : (m : List Segment) (a b : ℕ) (l : List ℕ) → take (length m) (put (causes_of m a b) l) ≡ causes_of m a b
causes_first m a b l = ap (λ (n : ℕ). take n (put (causes_of m a b) l)) (sym (causes_many m a b)) ∙ take_put (causes_of m a b) l

by_cut : (m : List Segment) (a b k s e : ℕ) (ks : List ℕ) → TrueHit m a b k s e → TrueReason m a b (counted_cut s e) k s e ks
unfolding counted_cut
by_cut m a b k s e ks t = go (eqb s 0) (eqb e 0) refl refl
  where
    go : (u v : Bool) → eqb s 0 ≡ u → eqb e 0 ≡ v → TrueReason m a b (cond u (cond v Shifted Clipped) Clipped) k s e ks
    go true true p q = (t, eqb-true s 0 p, eqb-true e 0 q)
    go true false p q = (t, omega (arith, pos_of e q))
    go false v p q = (t, omega (arith, pos_of s p))

abbrev Told : List Segment → (a b : ℕ) → Why → List ℕ → Type 0
Told m a b w ks = TrueReason m a b w.fate w.place w.start_cut w.end_cut ks

found_true : (m : List Segment) (a b : ℕ) (l : List ℕ) (f : Found) → find_hit m a b ≡ f → Told m a b (why_found a b f) (causes_found m a b f l)
found_true m a b l miss e = subst (AllFail m a b) (sym (causes_first m a b l)) (all_fail 0 m a b e)
found_true m a b l (hit k x xs) e =
    let f = hit_first m a b k x xs e in
    by_cut m a b k (source_of x - a) (b - source_end x) l
    (record { segment = x; first = f; named = first_named m a b k x xs e f; start_cut = refl; end_cut = refl })

-- what is not refused tells the true reason
pub reason_true : (m : List ℕ) (T kind S E : ℕ) (l : List ℕ) → why_number m T kind S E (length l) ≡ 0
    → TrueReason (segments_of m) (ticks_of T (units_of kind) S) (ticks_of T (units_of kind) E)
    (why_of m T kind S E (length l)).fate (why_of m T kind S E (length l)).place
    (why_of m T kind S E (length l)).start_cut (why_of m T kind S E (length l)).end_cut (causes_left m T kind S E l)
unfolding why_of causes_left
reason_true m T kind S E l e =
    rw (eq-eqb (why_number m T kind S E (length l)) 0 e)
    (found_true (segments_of m) (ticks_of T (units_of kind) S) (ticks_of T (units_of kind) E) l
    (find_hit (segments_of m) (ticks_of T (units_of kind) S) (ticks_of T (units_of kind) E)) refl)

-- the fate is that of the caption rules: the one that a feed gives
cut_off : (a b q e s t : ℕ) → counted_cut (q - a) (b - e) ≡ counted_of (decided (cond (ltb a q || ltb e b) (clipped s t) (shifted s t)))
unfolding counted_cut
cut_off a b q e s t = go (ltb a q) (ltb e b) refl refl
  where
    go : (u v : Bool) → ltb a q ≡ u → ltb e b ≡ v → cond (eqb (q - a) 0) (cond (eqb (b - e) 0) Shifted Clipped) Clipped ≡ counted_of (decided (cond (u || v) (clipped s t) (shifted s t)))
    go true v p r = rw (ne_eqb (q - a) 0 (λ z. omega (arith, z, ltb-true a q p)))
    go false true p r = rw (eq-eqb (q - a) 0 (omega (arith, ltb-false a q p)), ne_eqb (b - e) 0 (λ z. omega (arith, z, ltb-true e b r)))
    go false false p r = rw (eq-eqb (q - a) 0 (omega (arith, ltb-false a q p)), eq-eqb (b - e) 0 (omega (arith, ltb-false e b r)))

why_fate : (T U a b : ℕ) (f : Found) → (why_found a b f).fate ≡ counted_of (decided (fate_by (decide_hit T U a b f)))
why_fate T U a b miss = refl
why_fate T U a b (hit i x xs) = let r = retimed_at T U a b (lost_rule xs a b) (met_of i x) in cut_off a b (source_of x) (source_end x) r.start r.stop

fate_found : (c : Config) (m : List Segment) (S E : ℕ)
    → (why_found (ticks_of c.timescale (units_of c.kind) S) (ticks_of c.timescale (units_of c.kind) E)
    (find_hit m (ticks_of c.timescale (units_of c.kind) S) (ticks_of c.timescale (units_of c.kind) E))).fate
    ≡ counted_of (decided (fate_of c m S E))
unfolding fate_of decide_of decide_ticks
fate_found c m S E = why_fate c.timescale (units_of c.kind) _ _ (find_hit m (ticks_of c.timescale (units_of c.kind) S) (ticks_of c.timescale (units_of c.kind) E))

-- the fate told is that of the caption rules
pub fate_is : (m : List ℕ) (T kind S E places : ℕ) → why_number m T kind S E places ≡ 0
    → (why_of m T kind S E places).fate ≡ counted_of (decided (fate_of (record { kind = kind; timescale = T }) (segments_of m) S E))
unfolding why_of
fate_is m T kind S E places e = rw (eq-eqb (why_number m T kind S E places) 0 e) (fate_found (record { kind = kind; timescale = T }) (segments_of m) S E)

-- ---- a caption of at most 9,999 hours, asked with room for the causes, is not refused where T, map and kind are good
segments_many : (m : List ℕ) → length (segments_of m) ≡ length m / 6
unfolding segments_of
segments_many [] = refl
segments_many (a ∷ []) = refl
segments_many (a ∷ b ∷ []) = refl
segments_many (a ∷ b ∷ c ∷ []) = refl
segments_many (a ∷ b ∷ c ∷ d ∷ []) = refl
segments_many (a ∷ b ∷ c ∷ d ∷ e ∷ []) = refl
segments_many (a ∷ b ∷ c ∷ d ∷ e ∷ f ∷ r) = let ih = segments_many r in omega arith

pub taken_number : (m : List ℕ) (T kind S E places : ℕ) → timescale_bad T ≡ false → map_bad m ≡ false → kind_bad kind ≡ false
    → S < 36000000 * units_of kind → E < 36000000 * units_of kind → length (segments_of m) ≤ places → why_number m T kind S E places ≡ 0
unfolding why_number ◌or_else◌ fault_unless
taken_number m T kind S E places gT gm gk hS hE room =
    let u : units_of kind ≤ 1000 = units_high kind gk in
    let s : leb S most_units ≡ true = le-leb S most_units (omega (arith, u, hS)) in
    let e : leb E most_units ≡ true = le-leb E most_units (omega (arith, u, hE)) in
    let p : leb (length m / 6) places ≡ true = le-leb (length m / 6) places (omega (arith, segments_many m, room)) in
    rw (gT, gm, gk, s, e, p)

pub told_number : (m : List ℕ) (T kind S E places : ℕ) → why_number m T kind S E places ≡ 0 → (why_of m T kind S E places).number ≡ 0
unfolding why_of
told_number m T kind S E places e = rw (eq-eqb (why_number m T kind S E places) 0 e) (found_number _ _ (find_hit (segments_of m) _ _))
  where
    found_number : (a b : ℕ) (f : Found) → (why_found a b f).number ≡ 0
    found_number a b miss = refl
    found_number a b (hit i x xs) = refl
