-- What a survey of a map leaves, for a map within the limits: the bounds of its groups.
use mathlib.Core.Path.{◌≡◌, refl, sym, ap, ◌∙◌}
use mathlib.Core.Bool.{Bool, true, false, cond, true≢false}
use mathlib.Core.List.{List}
use Prim.Native.Nat.{ℕ, ◌*◌, ◌%◌, ◌≤◌}
use borrow.Author.Tests.{eq-eqb, eqb-true, le-leb, ltb-false}
use lib.Dec.{ltb, eqb}
use lib.ListN.{length, take}
use Rattle.spec_base.specs.base.Limits.{most_segments}
use Rattle.spec_base.specs.base.Put.{put}
use Rattle.spec_base.proofs.base.PutLaws.{take_put}
use Rattle.spec_map.specs.declared.segment.Surveyed.{Surveyed}
use Rattle.spec_map.specs.segment.Segment.{segments_of, any_bad, map_bad}
use Rattle.spec_map.specs.segment.Groups.{groups_of, surveyable, groups_in, Surveys}
use Rattle.spec_map.proofs.segment.GroupLaws.{small_good}

good_whole : (m : List ℕ) → map_bad m ≡ false → (length m % 6 ≡ 0) × (length m ≤ 6 * most_segments)
unfolding map_bad
good_whole m e = go (eqb (length m % 6) 0) (ltb (6 * most_segments) (length m)) refl refl e
  where
    go : (t s : Bool) → eqb (length m % 6) 0 ≡ t → ltb (6 * most_segments) (length m) ≡ s → cond t (cond s true (any_bad (segments_of m))) true ≡ false
        → (length m % 6 ≡ 0) × (length m ≤ 6 * most_segments)
    go true true p q r = absurd (true≢false r)
    go true false p q r = (eqb-true (length m % 6) 0 p, ltb-false (6 * most_segments) (length m) q)
    go false s p q r = absurd (true≢false r)

surveyed : (m g : List ℕ) → length m % 6 ≡ 0 → length m ≤ 6 * most_segments → 128 ≤ length g → groups_in (length g) m ≡ groups_of m
unfolding groups_in surveyable
surveyed m g h k l = rw (eq-eqb (length m % 6) 0 h, le-leb (length m) (6 * most_segments) k, le-leb 128 (length g) l) refl

pub survey_bounds : (m g g' f : List ℕ) (r : Surveyed) → 128 ≤ length g → Surveys m g g' r → f ≡ take r.count g' → map_bad m ≡ false → f ≡ groups_of m
survey_bounds m g g' f r l s e b =
    let w = good_whole m b in
    let c = surveyed m g w.0 w.1 l in
    e ∙ ap (λ (n : ℕ). take n g') (s.count ∙ ap length c) ∙ ap (take (length (groups_of m))) (s.written ∙ ap (λ (x : List ℕ). put x g) c) ∙ take_put (groups_of m) g

pub survey_small : (m g g' : List ℕ) (r : Surveyed) → Surveys m g g' r → r.small ≡ true → map_bad m ≡ false
survey_small m g g' r s e = small_good (length g) m (sym s.small ∙ e)
