-- Request 2.12, of two captions through one map: if the first's start read is not later, its written start is not later; if also its end read is not
-- later, its written end is not later.
use Rattle.std.specs.Prelude.{◌≡◌, List, ℕ, ◌≤◌}
use Rattle.spec_map.specs.declared.segment.Segment.{Segment}
use Rattle.spec_caption.specs.declared.caption_fate.Config.{Config}
use Rattle.spec_caption.specs.caption_fate.Fates.{Fate, passed, dropped, shifted, clipped, fate_of}

-- a fate that is kept, shifted or clipped, and the units written
abbrev pub WrittenAs : Fate → (s e : ℕ) → Type 0
WrittenAs passed s e = ⊥
WrittenAs dropped s e = ⊥
WrittenAs (shifted t u) s e = (t ≡ s) × (u ≡ e)
WrittenAs (clipped t u) s e = (t ≡ s) × (u ≡ e)

-- captions read as S to E and S' to E', kept and written as s to e and s' to e'
abbrev pub InOrder : Config → List Segment → Type 0
InOrder c m =
    (S E S' E' s e s' e' : ℕ) → WrittenAs (fate_of c m S E) s e → WrittenAs (fate_of c m S' E') s' e'
    → S ≤ S' → (s ≤ s') × (E ≤ E' → e ≤ e')
