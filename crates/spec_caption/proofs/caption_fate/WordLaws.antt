-- The times that a decision writes are words, at every input.
use mathlib.Core.Bool.{Bool, true, false, cond}
use mathlib.Core.List.{List}
use Prim.Native.Nat.{ℕ, ◌*◌, ◌≤◌, ◌<◌, ◌^◌}
use native.Mathlib.Omega.{arith}
use native.Mathlib.Nat.{le_refl, mul-le-mul}
use Rattle.spec_time.specs.caption_time.Convert.{core_ticks, start_within, end_within}
use Rattle.spec_time.proofs.caption_time.Limits.{start_word, end_word}
use Rattle.spec_map.specs.declared.segment.Segment.{Segment}
use Rattle.spec_map.specs.segment.Segment.{source_of, output_start_of, end_bad}
use Rattle.spec_caption.specs.declared.caption_fate.Config.{Config}
use Rattle.spec_caption.specs.declared.caption_fate.Decision.{Decision}
use Rattle.spec_caption.specs.declared.caption_fate.Decision.TheVariants.{Strange, Dropped, Kept}
use Rattle.spec_caption.specs.caption_fate.Hit.{Found, miss, hit, find_hit, met_of}
use Rattle.spec_caption.specs.caption_fate.Lost.{lost_rule}
use Rattle.spec_caption.specs.caption_fate.Decide.{retimed_by, limited_hit, decide_in}

abbrev pub Words : Decision → Type 0
Words Strange = Unit {0}
Words Dropped = Unit {0}
Words (Kept r) = (r.start < 2 ^ 64) × (r.stop < 2 ^ 64)

scaled_below : (x T ticks U : ℕ) → x * T ≤ ticks * U → 1 ≤ T → ticks ≤ core_ticks → U ≤ 1000 → x < 2 ^ 63
scaled_below x T ticks U h t k u =
    let a : x * 1 ≤ x * T = mul-le-mul (le_refl x) t in
    let b : ticks * U ≤ core_ticks * 1000 = mul-le-mul k u in
    omega arith

tested_words : (s t : Bool) (d : Decision) → Words d → Words (cond s Strange (cond t Strange d))
tested_words true t d w = tt
tested_words false true d w = tt
tested_words false false d w = w

hit_words : (c : Config) (a b : ℕ) (f : Found) → Words (limited_hit c a b f)
hit_words c a b miss = tt
hit_words c a b (hit i x xs) =
    tested_words (end_bad (source_of x) x.duration) (end_bad (output_start_of x) x.duration)
    (Kept (retimed_by (start_within c.kind c.timescale) (end_within c.kind c.timescale) a b (lost_rule xs a b) (met_of i x)))
    (start_word c.kind c.timescale _, end_word c.kind c.timescale _)

pub decide_words : (c : Config) (m : List Segment) (S E : ℕ) → Words (decide_in c m S E)
unfolding decide_in
decide_words c m S E = hit_words c _ _ (find_hit m _ _)
