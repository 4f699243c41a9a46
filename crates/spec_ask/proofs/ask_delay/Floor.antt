-- No delay at all, tried or not, loses fewer than the captions that no delay can save.
use mathlib.Core.Path.{◌≡◌, refl, sym, ap, subst, ◌∙◌}
use mathlib.Core.Bool.{Bool, true, false, ◌||◌, cond, not, true≢false}
use mathlib.Core.List.{List, [], ◌∷◌}
use Prim.Native.Nat.{ℕ, suc, ◌+◌, ◌-◌, ◌≤◌, ◌<◌}
use native.Mathlib.Omega.{arith}
use lib.Dec.{ltb}
use lib.IntN.{ℤ, pos, negsuc}
use borrow.Author.Tests.{ltb-true, ltb-false}
use Rattle.std.specs.Prelude.{Some, None}
use Rattle.spec_base.proofs.base.Laws.{and_left, and_right}
use Rattle.spec_time.specs.caption_time.Kind.{units_of}
use Rattle.spec_time.specs.caption_time.Convert.{ticks_of}
use Rattle.spec_time.proofs.caption_time.Conversions.{ticks_add}
use Rattle.spec_map.specs.declared.segment.Segment.{Segment}
use Rattle.spec_map.specs.segment.Segment.{source_of}
use Rattle.spec_caption.specs.declared.caption_fate.Config.{Config}
use Rattle.spec_caption.specs.caption_fate.Hit.{meets, hit, find_from, met_of}
use Rattle.spec_caption.specs.caption_fate.Lost.{lost_rule}
use Rattle.spec_caption.specs.caption_fate.Decide.{retimed_at, decide_hit, decide_ticks, decide_of}
use Rattle.spec_caption.specs.caption_fate.Fates.{shifted, clipped, fate_by, fate_of}
use Rattle.spec_ask.specs.ask_delay.Delay.{delayed_of}
use Rattle.spec_ask.specs.ask_delay.Loss.{whole, lost_at, lost_under, exceeds_all, too_long, count_lost, loss_of, floor_of}

module _ (c : Config) (pos_u : 0 < units_of c.kind) where
  abbrev T : ℕ
  T = c.timescale

  abbrev U : ℕ
  U = units_of c.kind

  -- a caption of n ticks or more, longer than every segment, lies whole in none
  module _ (n a b : ℕ) (h : a + n ≤ b) where
    cut_off : (q d s e : ℕ) → d < n → whole (cond (ltb a q || ltb (q + d) b) (clipped s e) (shifted s e)) ≡ false
    cut_off q d s e l = go (ltb a q) (ltb (q + d) b) refl refl
      where
        go : (u v : Bool) → ltb a q ≡ u → ltb (q + d) b ≡ v → whole (cond (u || v) (clipped s e) (shifted s e)) ≡ false
        go true v p r = refl
        go false true p r = refl
        go false false p r = absurd (omega (arith, ltb-false a q p, ltb-false (q + d) b r))

    never_whole : (i : ℕ) (m : List Segment) → exceeds_all n m ≡ true → whole (fate_by (decide_hit T U a b (find_from i m a b))) ≡ false
    unfolding find_from exceeds_all
    never_whole i [] e = refl
    never_whole i (x ∷ xs) e =
        go (meets x a b) (never_whole (suc i) xs (and_right (ltb x.duration n) (exceeds_all n xs) e))
      where
        go : (t : Bool) → whole (fate_by (decide_hit T U a b (find_from (suc i) xs a b))) ≡ false
            → whole (fate_by (decide_hit T U a b (cond t (hit i x xs) (find_from (suc i) xs a b)))) ≡ false
        go true ih =
            let r = retimed_at T U a b (lost_rule xs a b) (met_of i x) in
            cut_off (source_of x) x.duration r.start r.stop (ltb-true x.duration n (and_left (ltb x.duration n) (exceeds_all n xs) e))
        go false ih = ih

  -- moved by any delay, its length stays
  ticks_apart : (s L : ℕ) → ticks_of T U s + ticks_of T U L ≤ ticks_of T U (s + L)
  ticks_apart s L = ticks_add T U s L pos_u

  module _ (m : List Segment) where
    by_times : (S E s e : ℕ) → e ≡ s + (E - S) → too_long c m S E ≡ true → whole (fate_of c m s e) ≡ false
    unfolding fate_of decide_of decide_ticks too_long
    by_times S E s e p t =
        let x = and_right (ltb S E) (exceeds_all (ticks_of T U (E - S)) m) t in
        let k : ticks_of T U s + ticks_of T U (E - S) ≤ ticks_of T U e = subst (λ (n : ℕ). ticks_of T U s + ticks_of T U (E - S) ≤ ticks_of T U n) (sym p) (ticks_apart s (E - S)) in
        never_whole (ticks_of T U (E - S)) (ticks_of T U s) (ticks_of T U e) k 0 m x

    longer : (S E : ℕ) → too_long c m S E ≡ true → S < E
    unfolding too_long
    longer S E t = ltb-true S E (and_left (ltb S E) (exceeds_all (ticks_of T U (E - S)) m) t)

    too_long_lost : (d : ℤ) (S E : ℕ) → too_long c m S E ≡ true → lost_under c m d S E ≡ true
    unfolding lost_under delayed_of
    too_long_lost (pos n) S E t =
        let l : S < E = longer S E t in
        let p : E + n ≡ S + n + (E - S) = omega arith in
        ap not (by_times S E (S + n) (E + n) p t)
    too_long_lost (negsuc n) S E t = go (ltb S (suc n)) (ltb E (suc n)) refl refl
      where
        go : (u v : Bool) → ltb S (suc n) ≡ u → ltb E (suc n) ≡ v → lost_at c m (cond u None (Some (S - suc n))) (cond v None (Some (E - suc n))) ≡ true
        go true v p q = refl
        go false true p q = refl
        go false false p q =
            let l : S < E = longer S E t in
            let k : suc n ≤ S = ltb-false S (suc n) p in
            let r : E - suc n ≡ S - suc n + (E - S) = omega arith in
            ap not (by_times S E (S - suc n) (E - suc n) r t)

    -- the floor: for every delay, tried or not
    pub floor : (d : ℤ) (cs : List ℕ) → floor_of c m cs ≤ loss_of c m d cs
    unfolding floor_of loss_of
    floor d [] = omega arith
    floor d (S ∷ []) = omega arith
    floor d (S ∷ E ∷ r) = go (too_long c m S E) (lost_under c m d S E) refl refl (floor d r)
      where
        go : (u v : Bool) → too_long c m S E ≡ u → lost_under c m d S E ≡ v → floor_of c m r ≤ loss_of c m d r → count_lost u (floor_of c m r) ≤ count_lost v (loss_of c m d r)
        go true true p q ih = omega arith
        go true false p q ih = absurd (true≢false (sym (too_long_lost d S E p) ∙ q))
        go false true p q ih = omega arith
        go false false p q ih = ih
