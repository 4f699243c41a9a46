-- Each count is the number of captions with that fate.
use mathlib.Core.Path.{◌≡◌, refl, ap, ◌∙◌}
use mathlib.Core.Bool.{Bool, true, false}
use mathlib.Core.List.{List, [], ◌∷◌}
use Prim.Native.Nat.{ℕ, ◌+◌}
use native.Mathlib.Omega.{arith}
use Rattle.spec_caption.specs.caption_fate.Fates.{passed, dropped, shifted, clipped}
use Rattle.spec_caption.specs.caption_fate.Emit.{Caption, none, decided, Emit}
use Rattle.spec_machine.specs.declared.session_counts.Counts.{Counts}
use Rattle.spec_machine.specs.session_counts.Counts.{no_counts, count, count_all, counts_of, was_shifted, was_clipped, was_dropped, was_passed, count_if, how_many, CountedBy}

if_plus : (b : Bool) (n k : ℕ) → n + count_if b k ≡ count_if b n + k
if_plus true n k = omega arith
if_plus false n k = refl

module _ (t : Caption → Bool) (f : Counts → ℕ) (step : (x : Caption) (k : Counts) → f (count x k) ≡ count_if (t x) (f k)) where
  from : (k : Counts) (es : List Emit) → f (count_all k es) ≡ how_many t es + f k
  unfolding count_all how_many
  from k [] = omega arith
  from k (e ∷ es) =
      from (count e.caption k) es ∙ ap (λ (n : ℕ). how_many t es + n) (step e.caption k) ∙ if_plus (t e.caption) (how_many t es) (f k)

shifted_step : (x : Caption) (k : Counts) → (count x k).shifted ≡ count_if (was_shifted x) k.shifted
shifted_step none k = refl
shifted_step (decided passed) k = refl
shifted_step (decided dropped) k = refl
shifted_step (decided (shifted s e)) k = refl
shifted_step (decided (clipped s e)) k = refl

clipped_step : (x : Caption) (k : Counts) → (count x k).clipped ≡ count_if (was_clipped x) k.clipped
clipped_step none k = refl
clipped_step (decided passed) k = refl
clipped_step (decided dropped) k = refl
clipped_step (decided (shifted s e)) k = refl
clipped_step (decided (clipped s e)) k = refl

dropped_step : (x : Caption) (k : Counts) → (count x k).dropped ≡ count_if (was_dropped x) k.dropped
dropped_step none k = refl
dropped_step (decided passed) k = refl
dropped_step (decided dropped) k = refl
dropped_step (decided (shifted s e)) k = refl
dropped_step (decided (clipped s e)) k = refl

passed_step : (x : Caption) (k : Counts) → (count x k).passed ≡ count_if (was_passed x) k.passed
passed_step none k = refl
passed_step (decided passed) k = refl
passed_step (decided dropped) k = refl
passed_step (decided (shifted s e)) k = refl
passed_step (decided (clipped s e)) k = refl

pub counted_by : (es : List Emit) → CountedBy es (counts_of es)
counted_by es =
    record {
      shifted_are = omega (arith, from was_shifted (λ k. k.shifted) shifted_step no_counts es);
      clipped_are = omega (arith, from was_clipped (λ k. k.clipped) clipped_step no_counts es);
      dropped_are = omega (arith, from was_dropped (λ k. k.dropped) dropped_step no_counts es);
      passed_are = omega (arith, from was_passed (λ k. k.passed) passed_step no_counts es);
    }
