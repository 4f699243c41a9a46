-- The number and the values of a hit by the segment that is met, and of a decision by the fate.
use mathlib.Core.Path.{◌≡◌, refl}
use mathlib.Core.Bool.{false}
use mathlib.Core.List.{List, [], ◌∷◌}
use Prim.Native.Nat.{ℕ}
use Rattle.spec_map.specs.declared.segment.Segment.{Segment}
use Rattle.spec_map.specs.segment.Segment.{source_of, output_start_of}
use Rattle.spec_caption.specs.declared.caption_fate.Decision.TheVariants.{Kept}
use Rattle.spec_caption.specs.caption_fate.Hit.{miss, hit, hit_of}
use Rattle.spec_caption.specs.caption_fate.Fates.{shifted, fate_by}
use Rattle.spec_caption.specs.caption_fate.Cases.{told, hit_case, decision_case}

hit_told : (i : ℕ) (x : Segment) (xs : List Segment) → hit_case (hit_of (hit i x xs)) ≡ told 0 (i ∷ source_of x ∷ output_start_of x ∷ x.duration ∷ [])
hit_told i x xs = refl

miss_told : hit_case (hit_of miss) ≡ told 0 []
miss_told = refl

-- shifted from s to e: the values are s and e
kept_told : (s e : ℕ)
    → (fate_by (Kept (record { start = s; stop = e; start_cut = false; end_cut = false; lost = false })) ≡ shifted s e)
    × (decision_case (Kept (record { start = s; stop = e; start_cut = false; end_cut = false; lost = false })) ≡ told 0 (s ∷ e ∷ []))
kept_told s e = (refl, refl)
