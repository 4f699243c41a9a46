-- Laws of the sums that are kept at every 1,024th sample.
use mathlib.Core.Path.{◌≡◌, refl, sym, ap, ◌∙◌}
use mathlib.Core.Bool.{Bool, true, false}
use mathlib.Core.List.{List}
use Prim.Native.Nat.{ℕ, ◌+◌, ◌*◌, ◌/◌, ◌≤◌, ◌<◌, min}
use native.Mathlib.Omega.{arith}
use borrow.Author.Tests.{eqb-true, eqb-false, leb-true, leb-false}
use lib.Dec.{eqb, leb}
use lib.ListN.{length, get_or, set, length-set}
use lib.Seq.{get_or-set_same, get_or-set_other}
use Rattle.spec_base.specs.base.Limits.{most_frames, most_ticks}
use Rattle.spec_sheet.specs.sheet_frames.Frames.{ticks_from}
use Rattle.spec_sheet.proofs.sheet_frames.TicksLaws.{ticks_none, ticks_more}
use Rattle.segmap.specs.Milestones.{Milestone, Noted, Carried}

-- nothing is added up
pub milestones_start : (s l : List ℕ) → length l ≡ 1025 → Carried s 0 0 (set l 0 0)
milestones_start s l n =
    record {
      size = simp length-set n;
      few = omega arith;
      sum = sym (ticks_none s 0 0 refl);
      kept = λ j h.
          let z : j ≡ 0 = omega arith in
          let q : 1024 * j ≡ 0 = omega arith in
          ap (λ (i : ℕ). get_or (set l 0 0) i 0) z ∙ get_or-set_same l 0 0 0 (omega arith) ∙ sym (ticks_none s 0 (1024 * j) q);
    }

-- a sum, put where its milestone belongs
milestone_set : (s l : List ℕ) (k v : ℕ) → k < length l → v ≡ ticks_from s 0 (1024 * k) → Milestone s (set l k v) k
milestone_set s l k v h e = get_or-set_same l k v 0 h ∙ e

milestone_still : (s l : List ℕ) (k v : ℕ) → k < length l → v ≡ ticks_from s 0 (1024 * k) → (j : ℕ) → Milestone s l j → Milestone s (set l k v) j
milestone_still s l k v h e j m = go (eqb j k) refl
  where
    go : (b : Bool) → eqb j k ≡ b → Milestone s (set l k v) j
    go true q =
        let z : j ≡ k = eqb-true j k q in
        ap (λ (i : ℕ). get_or (set l k v) i 0) z ∙ milestone_set s l k v h e ∙ sym (ap (λ (i : ℕ). ticks_from s 0 (1024 * i)) z)
    go false q = get_or-set_other l k j v 0 (eqb-false j k q) ∙ m

-- ---- from d on to `stop`, the nearer of the next milestone and e; v is the sum there
module _ (s : List ℕ) (d e stop : ℕ) (p : stop ≡ min (1024 * (d / 1024 + 1)) e) where
  pub step_within : ticks_from s 0 e ≤ most_ticks → ticks_from s 0 stop ≤ most_ticks
  step_within m = omega (arith, ticks_more s stop e (omega arith))

  -- no milestone is come to
  pub step_short : (x : ℕ) (l : List ℕ) → x ≡ stop → stop < 1024 * (d / 1024 + 1) → Noted s d x l l
  step_short x l q h = record { size = refl; still = λ j m. m; fresh = λ j a b. absurd (omega arith) }

  pub step_noted : (x v : ℕ) (l : List ℕ) → x ≡ stop → v ≡ ticks_from s 0 stop → 1024 * (d / 1024 + 1) ≤ stop → e ≤ most_frames → length l ≡ 1025
      → Noted s d x l (set l (d / 1024 + 1) v)
  step_noted x v l q r h few n =
      let i : d / 1024 + 1 < length l = omega arith in
      let z : stop ≡ 1024 * (d / 1024 + 1) = omega arith in
      let w : v ≡ ticks_from s 0 (1024 * (d / 1024 + 1)) = r ∙ ap (ticks_from s 0) z in
      record {
        size = length-set l (d / 1024 + 1) v;
        still = milestone_still s l (d / 1024 + 1) v i w;
        fresh = λ j a b.
            let y : j ≡ d / 1024 + 1 = omega arith in
            ap (λ (u : ℕ). get_or (set l (d / 1024 + 1) v) u 0) y ∙ milestone_set s l (d / 1024 + 1) v i w ∙ sym (ap (λ (u : ℕ). ticks_from s 0 (1024 * u)) y);
      }

-- ---- step by step
pub noted_start : (s : List ℕ) (d : ℕ) (l : List ℕ) → Noted s d d l l
noted_start s d l = record { size = refl; still = λ j m. m; fresh = λ j a b. absurd (omega arith) }

pub noted_next : (s : List ℕ) (a b c : ℕ) (l m w : List ℕ) → Noted s a b l m → Noted s b c m w → Noted s a c l w
noted_next s a b c l m w f g =
    record { size = g.size ∙ f.size; still = λ j h. g.still j (f.still j h); fresh = λ j h k. go j h k (leb (1024 * j) b) refl }
  where
    go : (j : ℕ) → a < 1024 * j → 1024 * j ≤ c → (t : Bool) → leb (1024 * j) b ≡ t → Milestone s w j
    go j h k true q = g.still j (f.fresh j h (leb-true (1024 * j) b q))
    go j h k false q = g.fresh j (leb-false (1024 * j) b q) k

pub noted_done : (s : List ℕ) (a b c : ℕ) (l m : List ℕ) → Noted s a b l m → b ≤ c → c ≤ b → Noted s a c l m
noted_done s a b c l m f h k = record { size = f.size; still = f.still; fresh = λ j x y. f.fresh j x (omega arith) }

-- ---- the sum has come to d; one of all samples before e goes on from b
pub milestone_before : (s : List ℕ) (d t e : ℕ) (l : List ℕ) → Carried s d t l → e < d → get_or l (e / 1024) 0 ≡ ticks_from s 0 (1024 * (e / 1024))
milestone_before s d t e l g h = g.kept (e / 1024) (omega arith)

module _ (s : List ℕ) (d t b e : ℕ) (l m : List ℕ) (g : Carried s d t l) (f : Noted s b e l m) where
  -- behind that place, which stays
  pub carried_still : Carried s d t m
  carried_still = record { size = f.size ∙ g.size; few = g.few; sum = g.sum; kept = λ j h. f.still j (g.kept j h) }

  -- past it: x is e, and v the sum there
  pub carried_on : (x v : ℕ) → (d ≤ e → b ≤ d) → d ≤ e → e ≤ most_frames → x ≡ e → v ≡ ticks_from s 0 e → Carried s x v m
  carried_on x v p h few ex ev =
      record { size = f.size ∙ g.size; few = omega arith; sum = ev ∙ sym (ap (ticks_from s 0) ex); kept = λ j k. go j k (leb (1024 * j) d) refl }
    where
      go : (j : ℕ) → 1024 * j ≤ x → (u : Bool) → leb (1024 * j) d ≡ u → Milestone s m j
      go j k true q = f.still j (g.kept j (leb-true (1024 * j) d q))
      go j k false q = f.fresh j (omega (arith, p h, leb-false (1024 * j) d q)) (omega arith)
