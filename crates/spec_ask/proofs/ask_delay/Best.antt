-- The try that is chosen loses least, and is the first of those.
use mathlib.Core.Path.{◌≡◌, refl, sym, subst}
use mathlib.Core.Bool.{Bool, true, false, cond}
use mathlib.Core.Logic.{◌⊎◌, inl, inr}
use mathlib.Core.List.{List}
use Prim.Native.Nat.{ℕ, zero, suc, ◌≤◌, ◌<◌}
use native.Mathlib.Omega.{arith}
use native.Mathlib.Nat.{le_refl, eq-or-lt_of_le}
use lib.Dec.{ltb}
use borrow.Author.Tests.{ltb-true, ltb-false}
use Rattle.spec_map.specs.declared.segment.Segment.{Segment}
use Rattle.spec_caption.specs.declared.caption_fate.Config.{Config}
use Rattle.spec_ask.specs.ask_delay.Delay.{delay_of}
use Rattle.spec_ask.specs.ask_delay.Loss.{loss_of, best_try, Least}

module _ (c : Config) (m : List Segment) (cs : List ℕ) where
  abbrev loss : ℕ → ℕ
  loss k = loss_of c m (delay_of k) cs

  -- k below suc n is n, or below n
  split : (k n : ℕ) → k < suc n → (k ≡ n) ⊎ (k < n)
  split k n h = eq-or-lt_of_le (omega arith)

  step : (k p : ℕ) → Least c m cs (suc k) p → (t : Bool) → ltb (loss (suc k)) (loss p) ≡ t → Least c m cs (suc (suc k)) (cond t (suc k) p)
  step k p w true e =
      let l : loss (suc k) < loss p = ltb-true (loss (suc k)) (loss p) e in
      record {
        tried = omega arith;
        least = λ j h. at j (split j (suc k) h) l;
        first = λ j h. omega (arith, l, w.least j h);
      }
    where
      at : (j : ℕ) → (j ≡ suc k) ⊎ (j < suc k) → loss (suc k) < loss p → loss (suc k) ≤ loss j
      at j (inl q) l = subst (λ (n : ℕ). loss (suc k) ≤ loss n) (sym q) (le_refl (loss (suc k)))
      at j (inr q) l = omega (arith, l, w.least j q)
  step k p w false e =
      record {
        tried = omega (arith, w.tried);
        least = λ j h. at j (split j (suc k) h);
        first = w.first;
      }
    where
      at : (j : ℕ) → (j ≡ suc k) ⊎ (j < suc k) → loss p ≤ loss j
      at j (inl q) = subst (λ (n : ℕ). loss p ≤ loss n) (sym q) (ltb-false (loss (suc k)) (loss p) e)
      at j (inr q) = w.least j q

  pub best_least : (k : ℕ) → Least c m cs (suc k) (best_try c m cs k)
  unfolding best_try
  best_least zero =
      record {
        tried = omega arith;
        least = λ j h. let q : j ≡ 0 = omega arith in subst (λ (n : ℕ). loss 0 ≤ loss n) (sym q) (le_refl (loss 0));
        first = λ j h. absurd (omega arith);
      }
  best_least (suc k) = step k (best_try c m cs k) (best_least k) (ltb (loss (suc k)) (loss (best_try c m cs k))) refl
