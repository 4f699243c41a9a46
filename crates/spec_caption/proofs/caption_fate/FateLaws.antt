-- The fate of a caption whose times are read is the right one: the plain words of specs/Fates hold of it.
use mathlib.Core.Path.{◌≡◌, refl, sym, ap, ap₂, subst, ◌∙◌}
use mathlib.Core.Logic.{◌⊎◌, inl, inr}
use mathlib.Core.Bool.{Bool, true, false, ◌||◌, cond, true≢false}
use mathlib.Core.List.Memᴰ
use mathlib.Core.List.{List, [], ◌∷◌, Memᴰ}
use Prim.Native.Nat.{ℕ, suc, ◌+◌, ◌≤◌, ◌<◌, min, max}
use native.Mathlib.Omega.{arith}
use lib.Dec.{ltb}
use borrow.Author.Tests.{lt-ltb}
use Rattle.spec_time.specs.caption_time.Kind.{units_of}
use Rattle.spec_time.specs.caption_time.Convert.{ticks_of, start_units, end_units}
use Rattle.spec_time.proofs.caption_time.Drift.{near_start, near_end}
use Rattle.spec_map.specs.declared.segment.Segment.{Segment}
use Rattle.spec_map.specs.segment.Segment.{source_of, output_start_of, source_end}
use Rattle.spec_caption.specs.declared.caption_fate.Config.{Config}
use Rattle.spec_caption.specs.caption_fate.Hit.{meets_parts, meets, Found, miss, hit, find_from, find_hit}
use Rattle.spec_caption.specs.caption_fate.Decide.{moved, decide_hit, decide_ticks, decide_of}
use Rattle.spec_caption.specs.caption_fate.Fates.{shifted, clipped, fate_by, fate_of, Meets, NoneMeets, FirstMet, moved_by, IsKept, Right}
use Rattle.spec_caption.proofs.caption_fate.HitLaws.{meets_long, meets_later, meets_sooner}

-- ---- the test and the plain words
pub met : (x : Segment) (a b : ℕ) → meets x a b ≡ true → Meets x a b
met x a b e =
    record {
      long = meets_long (source_of x) x.duration a b e;
      later = meets_later (source_of x) x.duration a b e;
      sooner = meets_sooner (source_of x) x.duration a b e;
    }

pub meets_true : (x : Segment) (a b : ℕ) → Meets x a b → meets x a b ≡ true
unfolding meets_parts
meets_true x a b k = rw (lt-ltb 0 x.duration k.long, lt-ltb a (source_end x) k.later, lt-ltb (source_of x) b k.sooner)

not_met : (x : Segment) (a b : ℕ) → meets x a b ≡ false → Meets x a b → ⊥
not_met x a b e k = true≢false (sym (meets_true x a b k) ∙ e)

pub none_more : (x : Segment) (xs : List Segment) (a b : ℕ) → meets x a b ≡ false → NoneMeets xs a b → NoneMeets (x ∷ xs) a b
none_more x xs a b e none y i k = go (Memᴰ.cases_cons i)
  where
    go : (y ≡ x) ⊎ Memᴰ y xs → ⊥
    go (inl p) = not_met x a b e (subst (λ (z : Segment). Meets z a b) p k)
    go (inr j) = none y j k

-- ---- the hit is the first that meets
abbrev pub HitRight : List Segment → (a b : ℕ) → Found → Type 0
HitRight m a b miss = NoneMeets m a b
HitRight m a b (hit i x xs) = FirstMet m a b x

later_hit : (x : Segment) (xs : List Segment) (a b : ℕ) (f : Found) → meets x a b ≡ false → HitRight xs a b f → HitRight (x ∷ xs) a b f
later_hit x xs a b miss e r = none_more x xs a b e r
later_hit x xs a b (hit i y ys) e r =
    record {
      earlier = x ∷ r.earlier;
      others = r.others;
      stands = ap (λ (l : List Segment). x ∷ l) r.stands;
      met = r.met;
      none_earlier = none_more x r.earlier a b e r.none_earlier;
    }

first_hit : (i : ℕ) (x : Segment) (xs : List Segment) (a b : ℕ) (t : Bool) → meets x a b ≡ t → HitRight xs a b (find_from (suc i) xs a b)
    → HitRight (x ∷ xs) a b (cond t (hit i x xs) (find_from (suc i) xs a b))
first_hit i x xs a b true e r = record { earlier = []; others = xs; stands = refl; met = met x a b e; none_earlier = λ y j k. Memᴰ.not-nil j }
first_hit i x xs a b false e r = later_hit x xs a b (find_from (suc i) xs a b) e r

pub find_right : (i : ℕ) (m : List Segment) (a b : ℕ) → HitRight m a b (find_from i m a b)
unfolding find_from
find_right i [] a b = λ y j k. Memᴰ.not-nil j
find_right i (x ∷ xs) a b = first_hit i x xs a b (meets x a b) refl (find_right (suc i) xs a b)

-- ---- a tick of the segment moves by exactly d, which may be below zero: the source start is added on both sides
pub moved_shift : (x : Segment) (t : ℕ) → source_of x ≤ t → moved_by x t + source_of x ≡ t + output_start_of x
moved_shift x t h = omega arith

-- both ticks that are moved are such: cut to a segment that is met, they lie at or behind its source start
pub cut_start : (x : Segment) (a : ℕ) → source_of x ≤ max a (source_of x)
cut_start x a = omega arith

pub cut_end : (x : Segment) (a b : ℕ) → Meets x a b → source_of x ≤ min b (source_end x)
cut_end x a b k = omega (arith, k.sooner)

-- ---- a caption read as S to E
module _ (T U : ℕ) (pos_t : 0 < T) (pos_u : 0 < U) (m : List Segment) (S E : ℕ) where
  abbrev a : ℕ
  a = ticks_of T U S

  abbrev b : ℕ
  b = ticks_of T U E

  abbrev start_of : Segment → ℕ
  start_of x = start_units T U (moved (source_of x) (output_start_of x) (max a (source_of x)))

  abbrev end_of : Segment → ℕ
  end_of x = end_units T U (moved (source_of x) (output_start_of x) (min b (source_end x)))

  kept : (x : Segment) (cut : Bool) → FirstMet m a b x → (ltb a (source_of x) || ltb (source_end x) b) ≡ cut → IsKept T U m S E cut (start_of x) (end_of x)
  kept x cut f c =
      record {
        segment = x;
        first = f;
        was_cut = c;
        start_written = refl;
        end_written = refl;
        start_near = λ h. let p : max a (source_of x) ≡ a = omega arith in rw p (near_start T U (source_of x) (output_start_of x) S pos_t pos_u h);
        end_near = λ h. let p : min b (source_end x) ≡ b = omega arith in rw p (near_end T U (source_of x) (output_start_of x) E pos_t pos_u (omega (arith, f.met.sooner)));
      }

  by_cut : (x : Segment) (sc ec : Bool) → FirstMet m a b x → ltb a (source_of x) ≡ sc → ltb (source_end x) b ≡ ec
      → Right T U m S E (cond (sc || ec) (clipped (start_of x) (end_of x)) (shifted (start_of x) (end_of x)))
  by_cut x false false f p q = kept x false f (ap₂ ◌||◌ p q)
  by_cut x false true f p q = kept x true f (ap₂ ◌||◌ p q)
  by_cut x true ec f p q = kept x true f (ap₂ ◌||◌ p q)

  by_hit : (h : Found) → HitRight m a b h → Right T U m S E (fate_by (decide_hit T U a b h))
  by_hit miss r = r
  by_hit (hit i x xs) r = by_cut x (ltb a (source_of x)) (ltb (source_end x) b) r refl refl

  ticks_right : Right T U m S E (fate_by (decide_ticks T U m a b))
  unfolding decide_ticks
  ticks_right = by_hit (find_hit m a b) (find_right 0 m a b)

-- the fate of a caption is the right one
pub fate_right : (c : Config) (m : List Segment) (S E : ℕ) → 0 < c.timescale → 0 < units_of c.kind
    → Right c.timescale (units_of c.kind) m S E (fate_of c m S E)
unfolding fate_of decide_of
fate_right c m S E pos_t pos_u = ticks_right c.timescale (units_of c.kind) pos_t pos_u m S E
