-- When a caption whose end was cut has lost a part (warning 4): document 01's rule and request 2.7's, which is ours.
use Rattle.std.specs.Prelude.{Bool, true, false, ◌&&◌, cond, List, [], ◌∷◌, ℕ, ltb}
use Rattle.spec_map.specs.declared.segment.Segment.{Segment}
use Rattle.spec_map.specs.segment.Segment.{source_of}
use Rattle.spec_caption.specs.caption_fate.Hit.{meets}

-- of the segments behind the one that is met, in the list's order, and the ticks of start and end as they were read
abbrev pub Rule : Type 0
Rule = List Segment → (a b : ℕ) → Bool

-- document 01's: the very next segment has a positive duration and starts before the end. The Rust has it; we no longer do.
abbrev pub lost_next : Rule
lost_next [] a b = false
lost_next (x ∷ xs) a b = ltb 0 x.duration && ltb (source_of x) b

-- request 2.7's: some segment has a positive duration, starts before the end and ends after the start
unfoldable pub lost_later : Rule
lost_later [] a b = false
lost_later (x ∷ xs) a b = cond (meets x a b) true (lost_later xs a b)

-- the rule that warning 4 is given by
abbrev pub lost_rule : Rule
lost_rule = lost_later
