-- Request 2.12: in a map that ascends, captions keep their order.
use mathlib.Core.Path.{◌≡◌, refl, sym, ap, subst, ◌∙◌}
use mathlib.Core.Bool.{Bool, true, false, ◌||◌, cond, true≢false}
use mathlib.Core.List.{List, [], ◌∷◌}
use Prim.Native.Nat.{ℕ, zero, suc, ◌≤◌, ◌<◌, min, max}
use native.Mathlib.Omega.{arith}
use native.Mathlib.Nat.{le_trans, le_refl}
use borrow.Author.Tests.{lt-ltb, eq-eqb, ne_eqb, ltb-false}
use lib.Dec.{ltb, eqb}
use Rattle.spec_time.specs.caption_time.Kind.{units_of}
use Rattle.spec_time.specs.caption_time.Convert.{ticks_of}
use Rattle.spec_time.proofs.caption_time.Conversions.{ticks_mono, start_mono, end_mono}
use Rattle.spec_map.specs.declared.segment.Segment.{Segment}
use Rattle.spec_map.specs.segment.Segment.{source_of, output_start_of, source_end}
use Rattle.spec_caption.specs.declared.caption_fate.Config.{Config}
use Rattle.spec_caption.specs.declared.caption_fate.Retimed.{Retimed}
use Rattle.spec_caption.specs.caption_fate.Hit.{meets_parts, meets, Found, miss, hit, find_from, find_hit, met_of}
use Rattle.spec_caption.specs.caption_fate.Lost.{lost_rule}
use Rattle.spec_caption.specs.caption_fate.Decide.{moved, retimed_at, decide_hit, decide_ticks, decide_of}
use Rattle.spec_caption.specs.caption_fate.Fates.{Fate, shifted, clipped, fate_for, fate_by, fate_of, Meets}
use Rattle.spec_caption.proofs.caption_fate.FateLaws.{met}
use Rattle.spec_ask.specs.ask_order.Ascending.{output_end, steps_back, after, ascends_from, ascends}
use Rattle.spec_ask.specs.ask_order.Order.{WrittenAs, InOrder}
use Rattle.spec_ask.proofs.ask_order.Moves.{same_start, next_start, same_end, next_end}

-- ---- what a step of the test says
pub record Step (s o : ℕ) (x : Segment) (xs : List Segment) : Type 0 where
  pub source_after : 0 < x.duration → s ≤ source_of x
  pub output_after : 0 < x.duration → o ≤ output_start_of x
  pub rest : ascends_from (after x.duration s (source_end x)) (after x.duration o (output_end x)) xs ≡ true

pub after_empty : (d old new : ℕ) → d ≡ 0 → after d old new ≡ old
unfolding after
after_empty d old new h = ap (λ (t : Bool). cond t old new) (eq-eqb d 0 h)

pub after_long : (d old new : ℕ) → 0 < d → after d old new ≡ new
unfolding after
after_long d old new h = ap (λ (t : Bool). cond t old new) (ne_eqb d 0 (λ e. omega arith))

pub after_grows : (d old new : ℕ) → (0 < d → old ≤ new) → old ≤ after d old new
unfolding after
after_grows d old new h = go (eqb d 0) refl
  where
    go : (t : Bool) → eqb d 0 ≡ t → old ≤ cond t old new
    go true e = le_refl old
    go false e = h (pos_of d e)
      where
        pos_of : (k : ℕ) → eqb k 0 ≡ false → 0 < k
        pos_of zero q = absurd (true≢false q)
        pos_of (suc k) q = omega arith

not_back : (s o q p d : ℕ) → steps_back s o q p d ≡ false → 0 < d → (s ≤ q) × (o ≤ p)
unfolding steps_back
not_back s o q p d e h = go (ltb q s) refl (sym (ap (λ (t : Bool). cond t false (cond (ltb q s) true (ltb p o))) (ne_eqb d 0 (λ z. omega arith))) ∙ e)
  where
    go : (t : Bool) → ltb q s ≡ t → cond t true (ltb p o) ≡ false → (s ≤ q) × (o ≤ p)
    go true k z = absurd (true≢false z)
    go false k z = (ltb-false q s k, ltb-false p o z)

pub step : (s o : ℕ) (x : Segment) (xs : List Segment) → ascends_from s o (x ∷ xs) ≡ true → Step s o x xs
unfolding ascends_from
step s o x xs e = go (steps_back s o (source_of x) (output_start_of x) x.duration) refl e
  where
    go : (t : Bool) → steps_back s o (source_of x) (output_start_of x) x.duration ≡ t
        → cond t false (ascends_from (after x.duration s (source_end x)) (after x.duration o (output_end x)) xs) ≡ true → Step s o x xs
    go true k z = absurd (true≢false (sym z))
    go false k z =
        record {
          source_after = λ h. (not_back s o (source_of x) (output_start_of x) x.duration k h).0;
          output_after = λ h. (not_back s o (source_of x) (output_start_of x) x.duration k h).1;
          rest = z;
        }

-- ---- a segment that is hit lies behind the ticks s and o
record Hits (s o a b : ℕ) (x : Segment) : Type 0 where
  here : Meets x a b
  source_after : s ≤ source_of x
  output_after : o ≤ output_start_of x

abbrev Told : (s o a b : ℕ) → Found → Type 0
Told s o a b miss = Unit {0}
Told s o a b (hit i x xs) = Hits s o a b x

weaker : (s o s' o' a b : ℕ) (h : Found) → s ≤ s' → o ≤ o' → Told s' o' a b h → Told s o a b h
weaker s o s' o' a b miss p q t = tt
weaker s o s' o' a b (hit i x xs) p q t = record { here = t.here; source_after = le_trans p t.source_after; output_after = le_trans q t.output_after }

told : (i : ℕ) (m : List Segment) (s o a b : ℕ) → ascends_from s o m ≡ true → Told s o a b (find_from i m a b)
unfolding find_from
told i [] s o a b w = tt
told i (x ∷ xs) s o a b w =
    let z = step s o x xs w in
    go z (meets x a b) refl (told (suc i) xs (after x.duration s (source_end x)) (after x.duration o (output_end x)) a b z.rest)
  where
    go : Step s o x xs → (t : Bool) → meets x a b ≡ t → Told (after x.duration s (source_end x)) (after x.duration o (output_end x)) a b (find_from (suc i) xs a b)
        → Told s o a b (cond t (hit i x xs) (find_from (suc i) xs a b))
    go z true q ih = let k = met x a b q in record { here = k; source_after = z.source_after k.long; output_after = z.output_after k.long }
    go z false q ih =
        weaker s o _ _ a b (find_from (suc i) xs a b)
        (after_grows x.duration s (source_end x) (λ h. omega (arith, z.source_after h)))
        (after_grows x.duration o (output_end x) (λ h. omega (arith, z.output_after h)))
        ih

-- ---- two captions of ticks a to b and a' to b'
abbrev Starts : (a a' : ℕ) → Found → Found → Type 0
Starts a a' miss k = Unit {0}
Starts a a' (hit i x xs) miss = Unit {0}
Starts a a' (hit i x xs) (hit j y ys) = moved (source_of x) (output_start_of x) (max a (source_of x)) ≤ moved (source_of y) (output_start_of y) (max a' (source_of y))

abbrev Ends : (b b' : ℕ) → Found → Found → Type 0
Ends b b' miss k = Unit {0}
Ends b b' (hit i x xs) miss = Unit {0}
Ends b b' (hit i x xs) (hit j y ys) = moved (source_of x) (output_start_of x) (min b (source_end x)) ≤ moved (source_of y) (output_start_of y) (min b' (source_end y))

-- the first is hit by x, the second by a later segment
then_start : (i : ℕ) (x : Segment) (xs : List Segment) (a b a' b' : ℕ) (k : Found) → Meets x a b → Told (source_end x) (output_end x) a' b' k → Starts a a' (hit i x xs) k
then_start i x xs a b a' b' miss m t = tt
then_start i x xs a b a' b' (hit j y ys) m t =
    next_start (source_of x) (output_start_of x) x.duration (source_of y) (output_start_of y) a a' m.later m.long t.output_after

then_end : (i : ℕ) (x : Segment) (xs : List Segment) (a b a' b' : ℕ) (k : Found) → Meets x a b → Told (source_end x) (output_end x) a' b' k → Ends b b' (hit i x xs) k
then_end i x xs a b a' b' miss m t = tt
then_end i x xs a b a' b' (hit j y ys) m t =
    next_end (source_of x) (output_start_of x) x.duration (source_of y) (output_start_of y) y.duration b b' t.output_after

-- the second is hit by x, the first not: then no later segment hits the first either
missed : (x : Segment) (a b a' b' : ℕ) (k : Found) → meets x a b ≡ false → Meets x a' b' → a ≤ a' → Told (source_end x) (output_end x) a b k → k ≡ miss
unfolding meets_parts
missed x a b a' b' miss e m l t = refl
missed x a b a' b' (hit j y ys) e m l t =
    let p : a < source_end x = omega (arith, m.later) in
    let q : source_of x < b = omega (arith, t.source_after, t.here.sooner) in
    absurd (true≢false (sym (rw (lt-ltb 0 x.duration m.long, lt-ltb a (source_end x) p, lt-ltb (source_of x) b q)) ∙ e))

pub in_order : (i j : ℕ) (m : List Segment) (s o a b a' b' : ℕ) → ascends_from s o m ≡ true → a ≤ a'
    → Starts a a' (find_from i m a b) (find_from j m a' b') × (b ≤ b' → Ends b b' (find_from i m a b) (find_from j m a' b'))
unfolding find_from
in_order i j [] s o a b a' b' w l = (tt, λ h. tt)
in_order i j (x ∷ xs) s o a b a' b' w l =
    let z = step s o x xs w in
    go z (meets x a b) (meets x a' b') refl refl (in_order (suc i) (suc j) xs (after x.duration s (source_end x)) (after x.duration o (output_end x)) a b a' b' z.rest l)
  where
    behind : Step s o x xs → (k c d : ℕ) → 0 < x.duration → Told (source_end x) (output_end x) c d (find_from k xs c d)
    behind z k c d h =
        told k xs (source_end x) (output_end x) c d (rw (after_long x.duration s (source_end x) h, after_long x.duration o (output_end x) h) at z.rest)

    go : Step s o x xs → (t u : Bool) → meets x a b ≡ t → meets x a' b' ≡ u
        → Starts a a' (find_from (suc i) xs a b) (find_from (suc j) xs a' b') × (b ≤ b' → Ends b b' (find_from (suc i) xs a b) (find_from (suc j) xs a' b'))
        → Starts a a' (cond t (hit i x xs) (find_from (suc i) xs a b)) (cond u (hit j x xs) (find_from (suc j) xs a' b'))
        × (b ≤ b' → Ends b b' (cond t (hit i x xs) (find_from (suc i) xs a b)) (cond u (hit j x xs) (find_from (suc j) xs a' b')))
    go z true true p q ih = (same_start (source_of x) (output_start_of x) a a' l, λ h. same_end (source_of x) (output_start_of x) x.duration b b' h)
    go z true false p q ih =
        let k = met x a b p in
        let f = behind z (suc j) a' b' k.long in
        (then_start i x xs a b a' b' (find_from (suc j) xs a' b') k f, λ h. then_end i x xs a b a' b' (find_from (suc j) xs a' b') k f)
    go z false true p q ih =
        let k = met x a' b' q in
        let n : find_from (suc i) xs a b ≡ miss = missed x a b a' b' (find_from (suc i) xs a b) p k l (behind z (suc i) a b k.long) in
        (subst (λ (f : Found). Starts a a' f (hit j x xs)) (sym n) tt, λ h. subst (λ (f : Found). Ends b b' f (hit j x xs)) (sym n) tt)
    go z false false p q ih = ih

-- ---- in units, as written
pub kept_as : (r : Retimed) (s e : ℕ) → WrittenAs (fate_for r) s e → (r.start ≡ s) × (r.stop ≡ e)
kept_as r s e w = go (r.start_cut || r.end_cut) w
  where
    go : (t : Bool) → WrittenAs (cond t (clipped r.start r.stop) (shifted r.start r.stop)) s e → (r.start ≡ s) × (r.stop ≡ e)
    go true w = w
    go false w = w

module _ (T U : ℕ) (pos_t : 0 < T) (a b a' b' : ℕ) where
  abbrev fate_at : (a b : ℕ) → Found → Fate
  fate_at a b f = fate_by (decide_hit T U a b f)

  written : (f g : Found) (s e s' e' : ℕ) → Starts a a' f g → (b ≤ b' → Ends b b' f g) → WrittenAs (fate_at a b f) s e → WrittenAs (fate_at a' b' g) s' e'
      → (s ≤ s') × (b ≤ b' → e ≤ e')
  written miss g s e s' e' p q w w' = absurd w
  written (hit i x xs) miss s e s' e' p q w w' = absurd w'
  written (hit i x xs) (hit j y ys) s e s' e' p q w w' =
      let k = kept_as (retimed_at T U a b (lost_rule xs a b) (met_of i x)) s e w in
      let k' = kept_as (retimed_at T U a' b' (lost_rule ys a' b') (met_of j y)) s' e' w' in
      (both k.0 k'.0 (start_mono T U pos_t p), λ h. both k.1 k'.1 (end_mono T U pos_t (q h)))
    where
      both : {m n m' n' : ℕ} → m ≡ m' → n ≡ n' → m ≤ n → m' ≤ n'
      both u v h = omega (arith, u, v, h)

-- captions keep their order through a map that ascends: every kind, clipped or not
pub keeps_order : (c : Config) (m : List Segment) → 0 < c.timescale → 0 < units_of c.kind → ascends m ≡ true → InOrder c m
unfolding fate_of decide_of decide_ticks ascends
keeps_order c m pos_t pos_u w S E S' E' s e s' e' k k' l =
    let T = c.timescale in
    let U = units_of c.kind in
    let z = in_order 0 0 m 0 0 (ticks_of T U S) (ticks_of T U E) (ticks_of T U S') (ticks_of T U E') w (ticks_mono T U pos_u l) in
    let r = written T U pos_t (ticks_of T U S) (ticks_of T U E) (ticks_of T U S') (ticks_of T U E')
    (find_hit m (ticks_of T U S) (ticks_of T U E)) (find_hit m (ticks_of T U S') (ticks_of T U E')) s e s' e' z.0 z.1 k k' in
    (r.0, λ h. r.1 (ticks_mono T U pos_u h))
