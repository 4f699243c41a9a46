-- Losses counted: one caption over every try, then all captions.
use mathlib.Core.Path.{◌≡◌, refl, sym, ap, subst, ◌∙◌}
use mathlib.Core.Bool.{Bool, true, false, cond, true≢false}
use mathlib.Core.List.{List, [], ◌∷◌}
use Prim.Native.Nat.{ℕ, suc, ◌+◌, ◌*◌, ◌≤◌, ◌<◌}
use native.Mathlib.Omega.{arith}
use native.Mathlib.Nat.{le_refl}
use lib.Dec.{ltb, eqb}
use lib.IntN.{ℤ}
use lib.ListN.{length, get_or, set, drop, length-set, length-drop}
use lib.Seq.{get_or-set_same, get_or-set_other}
use borrow.Author.Tests.{lt-ltb, le-ltb, ltb-true, ltb-false, eqb-true, eqb-false}
use Rattle.spec_base.specs.base.Limits.{most_units}
use Rattle.spec_base.proofs.base.Laws.{yes!, no! }
use Rattle.spec_time.specs.caption_time.Kind.{kind_bad, units_of}
use Rattle.spec_time.specs.caption_time.Convert.{timescale_bad}
use Rattle.spec_time.proofs.caption_time.Limits.{timescale_low, units_low}
use Rattle.spec_map.specs.declared.segment.Segment.{Segment}
use Rattle.spec_map.specs.segment.Segment.{segments_of}
use Rattle.spec_caption.specs.declared.caption_fate.Config.{Config}
use Rattle.spec_ask.specs.ask_edges.Edge.{edges_of}
use Rattle.spec_ask.specs.ask_delay.Delay.{delay_of}
use Rattle.spec_ask.specs.ask_delay.Loss.{count_lost, lost_under, loss_of, any_late}
use Rattle.spec_ask.specs.ask_delay.Paint.{Window, lost_by}
use Rattle.spec_ask.specs.ask_delay.Tally.{config_with, AtMost, Zeros, Counted, Losses}
use Rattle.spec_ask.proofs.ask_delay.NearLaws.{near_try}
use Rattle.spec_ask.proofs.ask_delay.LookUp.{looked_up}

-- ---- one more
pub count_up : (n : ℕ) (b : Bool) → b ≡ true → n + 1 ≡ count_lost b n
count_up n true e = omega arith
count_up n false e = absurd (true≢false (sym e))

pub count_same : (n : ℕ) (b : Bool) → b ≡ false → n ≡ count_lost b n
count_same n true e = absurd (true≢false e)
count_same n false e = refl

pub count_sum : (b : Bool) (x y : ℕ) → count_lost b x + y ≡ x + count_lost b y
count_sum true x y = omega arith
count_sum false x y = refl

-- ---- one caption: the tries below k are counted
pub record Counting (ms : List ℕ) (S E tries k : ℕ) (l l' : List ℕ) : Type 0 where
  pub size : length l' ≡ length l
  pub most : k ≤ tries
  pub counts : (j : ℕ) → j < tries → get_or l' j 0 ≡ cond (ltb j k) (count_lost (lost_by ms S E (delay_of j)) (get_or l j 0)) (get_or l j 0)

pub count_start : (ms : List ℕ) (S E tries : ℕ) (l : List ℕ) → Counting ms S E tries 0 l l
count_start ms S E tries l = record { size = refl; most = omega arith; counts = λ j h. no! _ (le-ltb j 0 (omega arith)) refl }

module _ (ms : List ℕ) (S E tries k : ℕ) (l l' : List ℕ) (g : Counting ms S E tries k l l') (h : k < tries) where
  here : get_or l' k 0 ≡ get_or l k 0
  here = g.counts k h ∙ sym (no! _ (le-ltb k k (le_refl k)) refl)

  pub count_value : AtMost tries 4096 l → get_or l' k 0 ≤ 4096
  count_value a = omega (arith, here, a k h)

  pub count_index : length l ≡ 12001 → tries ≤ 12001 → k < length l'
  count_index n t = omega (arith, g.size)

  module _ (b : Bool) (n : ℕ) (eb : b ≡ lost_by ms S E (delay_of k)) (en : n ≡ count_lost b (get_or l' k 0)) (i : k < length l') where
    at_here : get_or (set l' k n) k 0 ≡ cond (ltb k (k + 1)) (count_lost (lost_by ms S E (delay_of k)) (get_or l k 0)) (get_or l k 0)
    at_here =
        yes! _ (lt-ltb k (k + 1) (omega arith))
        (get_or-set_same l' k n 0 i ∙ en ∙ ap (λ (t : Bool). count_lost t (get_or l' k 0)) eb ∙ ap (count_lost (lost_by ms S E (delay_of k))) here)

    at : (j : ℕ) → j < tries → (t : Bool) → eqb j k ≡ t
        → get_or (set l' k n) j 0 ≡ cond (ltb j (k + 1)) (count_lost (lost_by ms S E (delay_of j)) (get_or l j 0)) (get_or l j 0)
    at j r true q =
        subst (λ (j : ℕ). get_or (set l' k n) j 0 ≡ cond (ltb j (k + 1)) (count_lost (lost_by ms S E (delay_of j)) (get_or l j 0)) (get_or l j 0))
        (sym (eqb-true j k q)) at_here
    at j r false q =
        let z : j ≡ k → ⊥ = eqb-false j k q in
        get_or-set_other l' k j n 0 z ∙ g.counts j r ∙ ap (λ (t : Bool). cond t (count_lost (lost_by ms S E (delay_of j)) (get_or l j 0)) (get_or l j 0)) (same (ltb j k) refl z)
      where
        same : (t : Bool) → ltb j k ≡ t → (j ≡ k → ⊥) → ltb j k ≡ ltb j (k + 1)
        same true q n = q ∙ sym (lt-ltb j (k + 1) (omega (arith, ltb-true j k q)))
        same false q n = q ∙ sym (le-ltb j (k + 1) (let a = ltb-false j k q in omega arith))

    again : Counting ms S E tries (k + 1) l (set l' k n)
    again = record { size = length-set l' k n ∙ g.size; most = omega arith; counts = λ j r. at j r (eqb j k) refl }

  pub count_again : (b : Bool) (n : ℕ) → b ≡ lost_by ms S E (delay_of k) → n ≡ count_lost b (get_or l' k 0) → length l ≡ 12001 → tries ≤ 12001
      → Counting ms S E tries (k + 1) l (set l' k n)
  count_again b n eb en e t = again b n eb en (count_index e t)

pub count_end : (ms : List ℕ) (S E tries k : ℕ) (l l' : List ℕ) → Counting ms S E tries k l l' → tries ≤ k → Counted ms S E tries l l'
count_end ms S E tries k l l' g h =
    record { size = g.size; counts = λ j r. g.counts j r ∙ sym (yes! _ (lt-ltb j k (omega arith)) refl) }

pub count_size : (ms : List ℕ) (S E tries k : ℕ) (l l' : List ℕ) → Counting ms S E tries k l l' → length l' ≡ length l
count_size ms S E tries k l l' g = g.size

-- ---- captions, two numbers each
pub two_cut : (u : List ℕ) → 2 ≤ length u → u ≡ get_or u 0 0 ∷ get_or u 1 0 ∷ drop 2 u
two_cut [] h = absurd (omega arith)
two_cut (a ∷ []) h = absurd (omega arith)
two_cut (a ∷ b ∷ r) h = refl

pub two_less : (t u : List ℕ) → u ≡ drop 2 t → 2 ≤ length t → length u < length t
two_less t u e h = rw (e, length-drop) (omega arith)

late_head : (a : ℕ) (r : List ℕ) → any_late (a ∷ r) ≡ false → (a ≤ 68719476736) × (any_late r ≡ false)
unfolding any_late
late_head a r e = go (ltb most_units a) refl e
  where
    go : (t : Bool) → ltb most_units a ≡ t → cond t true (any_late r) ≡ false → (a ≤ 68719476736) × (any_late r ≡ false)
    go true p q = absurd (true≢false q)
    go false p q = (ltb-false most_units a p, q)

module _ (u : List ℕ) (e : any_late u ≡ false) (h : 2 ≤ length u) where
  first : (get_or u 0 0 ≤ 68719476736) × (any_late (get_or u 1 0 ∷ drop 2 u) ≡ false)
  first = late_head (get_or u 0 0) (get_or u 1 0 ∷ drop 2 u) (sym (ap any_late (two_cut u h)) ∙ e)

  second : (get_or u 1 0 ≤ 68719476736) × (any_late (drop 2 u) ≡ false)
  second = late_head (get_or u 1 0) (drop 2 u) first.1

  pub start_near : (S : ℕ) → S ≡ get_or u 0 0 → S ≤ 68719476736
  start_near S z = omega (arith, first.0)

  pub stop_near : (E : ℕ) → E ≡ get_or u 1 0 → E ≤ 68719476736
  stop_near E z = omega (arith, second.0)

  pub late_next : (v : List ℕ) → v ≡ drop 2 u → any_late v ≡ false
  late_next v z = ap any_late z ∙ second.1

module _ (c : Config) (m : List Segment) (d : ℤ) where
  pub loss_most : (cs : List ℕ) → 2 * loss_of c m d cs ≤ length cs
  unfolding loss_of
  loss_most [] = omega arith
  loss_most (S ∷ []) = omega arith
  loss_most (S ∷ E ∷ r) = go (lost_under c m d S E) (loss_most r)
    where
      go : (t : Bool) → 2 * loss_of c m d r ≤ length r → 2 * count_lost t (loss_of c m d r) ≤ suc (suc (length r))
      go true h = omega arith
      go false h = omega arith

  loss_pair : (S E : ℕ) (r : List ℕ) → loss_of c m d (S ∷ E ∷ r) ≡ count_lost (lost_under c m d S E) (loss_of c m d r)
  unfolding loss_of
  loss_pair S E r = refl

  loss_none : (u : List ℕ) → length u < 2 → loss_of c m d u ≡ 0
  unfolding loss_of
  loss_none [] h = refl
  loss_none (S ∷ []) h = refl
  loss_none (S ∷ E ∷ r) h = absurd (omega arith)

  loss_cut : (u : List ℕ) → 2 ≤ length u → loss_of c m d u ≡ count_lost (lost_under c m d (get_or u 0 0) (get_or u 1 0)) (loss_of c m d (drop 2 u))
  loss_cut u h = ap (loss_of c m d) (two_cut u h) ∙ loss_pair (get_or u 0 0) (get_or u 1 0) (drop 2 u)

-- ---- all captions: those before u are counted
pub record Tallying (kind T : ℕ) (m cs u : List ℕ) (tries : ℕ) (ms l : List ℕ) : Type 0 where
  pub window : length ms ≡ 12001
  pub size : length l ≡ 12001
  pub good : any_late u ≡ false
  pub left : (k : ℕ) → k < tries → get_or l k 0 + loss_of (config_with kind T) (segments_of m) (delay_of k) u ≡ loss_of (config_with kind T) (segments_of m) (delay_of k) cs

pub tally_start : (kind T : ℕ) (m cs : List ℕ) (tries : ℕ) (ms l : List ℕ) → length ms ≡ 12001 → length l ≡ 12001 → any_late cs ≡ false → Zeros tries l
    → Tallying kind T m cs cs tries ms l
tally_start kind T m cs tries ms l w n e z =
    record { window = w; size = n; good = e; left = λ k h. omega (arith, z k h) }

module _ (kind T : ℕ) (m cs u : List ℕ) (tries : ℕ) (ms l : List ℕ) (g : Tallying kind T m cs u tries ms l) where
  abbrev c : Config
  c = config_with kind T

  pub tally_size : length l ≡ 12001
  tally_size = g.size

  pub tally_most : length cs ≤ 8192 → AtMost tries 4096 l
  tally_most h k r = omega (arith, g.left k r, loss_most c (segments_of m) (delay_of k) cs)

  module _ (hk : kind_bad kind ≡ false) (hT : timescale_bad T ≡ false) (ht : tries ≤ 12001) (r : 2 ≤ length u) (S E : ℕ) (eS : S ≡ get_or u 0 0) (eE : E ≡ get_or u 1 0)
      (ms' l' v : List ℕ) (w : Window (edges_of T (units_of kind) (segments_of m)) S E ms') (n : Counted ms' S E tries l l') (ev : v ≡ drop 2 u) where
    lost : (k : ℕ) → k < tries → lost_by ms' S E (delay_of k) ≡ lost_under c (segments_of m) (delay_of k) (get_or u 0 0) (get_or u 1 0)
    lost k h =
        looked_up c (segments_of m) (timescale_low T hT) (omega (arith, units_low kind hk)) S E ms' w (delay_of k) (near_try k (delay_of k) refl (omega arith))
        ∙ ap (λ (s : ℕ). lost_under c (segments_of m) (delay_of k) s E) eS ∙ ap (λ (e : ℕ). lost_under c (segments_of m) (delay_of k) (get_or u 0 0) e) eE

    left_next : (k : ℕ) → k < tries → get_or l' k 0 + loss_of c (segments_of m) (delay_of k) (drop 2 u) ≡ loss_of c (segments_of m) (delay_of k) cs
    left_next k h =
        ap (λ (x : ℕ). x + loss_of c (segments_of m) (delay_of k) (drop 2 u)) (n.counts k h ∙ ap (λ (t : Bool). count_lost t (get_or l k 0)) (lost k h))
        ∙ count_sum (lost_under c (segments_of m) (delay_of k) (get_or u 0 0) (get_or u 1 0)) (get_or l k 0) (loss_of c (segments_of m) (delay_of k) (drop 2 u))
        ∙ ap (λ (x : ℕ). get_or l k 0 + x) (sym (loss_cut c (segments_of m) (delay_of k) u r)) ∙ g.left k h

    pub tally_again : Tallying kind T m cs v tries ms' l'
    tally_again =
        record {
          window = w.size;
          size = n.size ∙ g.size;
          good = late_next u g.good r v ev;
          left = λ k h. ap (λ (x : List ℕ). get_or l' k 0 + loss_of c (segments_of m) (delay_of k) x) ev ∙ left_next k h;
        }

  pub tally_end : length u < 2 → Losses c (segments_of m) cs tries l
  tally_end h =
      record {
        size = g.size;
        counts = λ k r. omega (arith, g.left k r, loss_none c (segments_of m) (delay_of k) u h);
      }
