-- Captions that no delay can save, counted.
use mathlib.Core.Path.{◌≡◌, refl, sym, ap, ◌∙◌}
use mathlib.Core.Bool.{Bool, true, false, ◌&&◌}
use mathlib.Core.List.{List, [], ◌∷◌}
use Prim.Native.Nat.{ℕ, suc, ◌+◌, ◌-◌, ◌*◌, ◌≤◌, ◌<◌}
use native.Mathlib.Omega.{arith}
use lib.Dec.{ltb}
use lib.ListN.{length, get_or, drop}
use borrow.Author.Tests.{lt-ltb, le-ltb}
use Rattle.spec_time.specs.caption_time.Kind.{kind_bad, units_of}
use Rattle.spec_time.specs.caption_time.Convert.{timescale_bad, ticks_of, ticks_within}
use Rattle.spec_time.proofs.caption_time.Limits.{ticks_within_lem, timescale_low, timescale_high}
use Rattle.spec_map.specs.declared.segment.Segment.{Segment}
use Rattle.spec_map.specs.segment.Segment.{segment, segments_of}
use Rattle.spec_map.proofs.segment.SegmentLaws.{segments_cut, segments_short}
use Rattle.spec_caption.specs.declared.caption_fate.Config.{Config}
use Rattle.spec_ask.specs.ask_delay.Loss.{count_lost, exceeds_all, too_long, floor_of, any_late}
use Rattle.spec_ask.specs.ask_delay.Tally.{config_with}
use Rattle.spec_ask.proofs.ask_delay.TallyLaws.{count_sum, two_cut, late_next}

-- ---- every segment's duration
module _ (m t : List ℕ) (n d : ℕ) (g : exceeds_all n (segments_of t) ≡ exceeds_all n (segments_of m)) (h : 6 ≤ length t) (e : d ≡ get_or t 5 0) where
  abbrev head : Segment
  head = segment (get_or t 0 0) (get_or t 1 0) (get_or t 2 0) (get_or t 3 0) (get_or t 4 0) (get_or t 5 0)

  cut : exceeds_all n (segments_of t) ≡ exceeds_all n (head ∷ segments_of (drop 6 t))
  cut = ap (exceeds_all n) (segments_cut t h)

  pub exceeds_found : n ≤ d → false ≡ exceeds_all n (segments_of m)
  unfolding exceeds_all
  exceeds_found k =
      let z : ltb (get_or t 5 0) n ≡ false = le-ltb (get_or t 5 0) n (omega arith) in
      sym (ap (λ (b : Bool). b && exceeds_all n (segments_of (drop 6 t))) z) ∙ sym cut ∙ g

  pub exceeds_again : (u : List ℕ) → u ≡ drop 6 t → d < n → exceeds_all n (segments_of u) ≡ exceeds_all n (segments_of m)
  unfolding exceeds_all
  exceeds_again u eu k =
      let z : ltb (get_or t 5 0) n ≡ true = lt-ltb (get_or t 5 0) n (omega arith) in
      ap (λ (s : List ℕ). exceeds_all n (segments_of s)) eu ∙ sym (ap (λ (b : Bool). b && exceeds_all n (segments_of (drop 6 t))) z) ∙ sym cut ∙ g

pub exceeds_end : (m t : List ℕ) (n : ℕ) → exceeds_all n (segments_of t) ≡ exceeds_all n (segments_of m) → length t < 6 → true ≡ exceeds_all n (segments_of m)
unfolding exceeds_all
exceeds_end m t n g h = sym (ap (exceeds_all n) (segments_short t h)) ∙ g

-- ---- one caption
module _ (kind T : ℕ) (m : List ℕ) (S E : ℕ) where
  pub short_one : E ≤ S → false ≡ too_long (config_with kind T) (segments_of m) S E
  unfolding too_long
  short_one h = sym (ap (λ (b : Bool). b && exceeds_all (ticks_of T (units_of kind) (E - S)) (segments_of m)) (le-ltb S E h))

  pub long_one : (n : ℕ) (x : Bool) → timescale_bad T ≡ false → kind_bad kind ≡ false → E ≤ 68719476736 → S < E → n ≡ ticks_within kind T (E - S)
      → x ≡ exceeds_all n (segments_of m) → x ≡ too_long (config_with kind T) (segments_of m) S E
  unfolding too_long
  long_one n x hT hk hE l en ex =
      let w : ticks_within kind T (E - S) ≡ ticks_of T (units_of kind) (E - S) =
      ticks_within_lem (record { kind_known = hk; T-low = timescale_low T hT; T-high = omega (arith, timescale_high T hT); value_most = omega arith }) in
      ex ∙ ap (λ (k : ℕ). exceeds_all k (segments_of m)) (en ∙ w)
      ∙ sym (ap (λ (b : Bool). b && exceeds_all (ticks_of T (units_of kind) (E - S)) (segments_of m)) (lt-ltb S E l))

-- ---- all captions: n of those before u
module _ (c : Config) (m : List Segment) where
  floor_most : (cs : List ℕ) → 2 * floor_of c m cs ≤ length cs
  unfolding floor_of
  floor_most [] = omega arith
  floor_most (S ∷ []) = omega arith
  floor_most (S ∷ E ∷ r) = go (too_long c m S E) (floor_most r)
    where
      go : (t : Bool) → 2 * floor_of c m r ≤ length r → 2 * count_lost t (floor_of c m r) ≤ suc (suc (length r))
      go true h = omega arith
      go false h = omega arith

  floor_pair : (S E : ℕ) (r : List ℕ) → floor_of c m (S ∷ E ∷ r) ≡ count_lost (too_long c m S E) (floor_of c m r)
  unfolding floor_of
  floor_pair S E r = refl

  floor_none : (u : List ℕ) → length u < 2 → floor_of c m u ≡ 0
  unfolding floor_of
  floor_none [] h = refl
  floor_none (S ∷ []) h = refl
  floor_none (S ∷ E ∷ r) h = absurd (omega arith)

pub record Flooring (kind T : ℕ) (m cs u : List ℕ) (n : ℕ) : Type 0 where
  pub good : any_late u ≡ false
  pub left : n + floor_of (config_with kind T) (segments_of m) u ≡ floor_of (config_with kind T) (segments_of m) cs

pub floor_start : (kind T : ℕ) (m cs : List ℕ) → any_late cs ≡ false → Flooring kind T m cs cs 0
floor_start kind T m cs e = record { good = e; left = omega arith }

module _ (kind T : ℕ) (m cs u : List ℕ) (n : ℕ) (g : Flooring kind T m cs u n) where
  pub floor_room : length cs ≤ 8192 → n ≤ 4096
  floor_room h = omega (arith, g.left, floor_most (config_with kind T) (segments_of m) cs)

  pub floor_again : (S E n' : ℕ) (x : Bool) (v : List ℕ) → 2 ≤ length u → S ≡ get_or u 0 0 → E ≡ get_or u 1 0 → x ≡ too_long (config_with kind T) (segments_of m) S E
      → n' ≡ count_lost x n → v ≡ drop 2 u → Flooring kind T m cs v n'
  floor_again S E n' x v r eS eE ex en ev =
      let y : x ≡ too_long (config_with kind T) (segments_of m) (get_or u 0 0) (get_or u 1 0) = rw (sym eS, sym eE) ex in
      record {
        good = late_next u g.good r v ev;
        left =
            ap (λ (s : List ℕ). n' + floor_of (config_with kind T) (segments_of m) s) ev
            ∙ ap (λ (k : ℕ). k + floor_of (config_with kind T) (segments_of m) (drop 2 u)) (en ∙ ap (λ (t : Bool). count_lost t n) y)
            ∙ count_sum (too_long (config_with kind T) (segments_of m) (get_or u 0 0) (get_or u 1 0)) n (floor_of (config_with kind T) (segments_of m) (drop 2 u))
            ∙ ap (λ (k : ℕ). n + k) (sym (ap (floor_of (config_with kind T) (segments_of m)) (two_cut u r) ∙ floor_pair (config_with kind T) (segments_of m) (get_or u 0 0) (get_or u 1 0) (drop 2 u)))
            ∙ g.left;
      }

  pub floor_end : length u < 2 → n ≡ floor_of (config_with kind T) (segments_of m) cs
  floor_end h = omega (arith, g.left, floor_none (config_with kind T) (segments_of m) u h)
