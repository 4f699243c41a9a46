-- The counts of a session: how many captions were shifted, clipped, dropped and passed.
use Rattle.std.specs.Prelude.{◌≡◌, Bool, true, false, List, [], ◌∷◌, ℕ, suc, ◌+◌, eqb}
use Rattle.spec_caption.specs.caption_fate.Fates.{Fate, passed, dropped, shifted, clipped}
use Rattle.spec_caption.specs.caption_fate.Emit.{Caption, none, decided, Emit}
use Rattle.spec_machine.specs.declared.session_counts.Counts.{Counts}

abbrev pub no_counts : Counts
no_counts = record { shifted = 0; clipped = 0; dropped = 0; passed = 0 }

-- the counts with one more caption
abbrev pub count_fate : Fate → Counts → Counts
count_fate passed c = record { shifted = c.shifted; clipped = c.clipped; dropped = c.dropped; passed = suc c.passed }
count_fate dropped c = record { shifted = c.shifted; clipped = c.clipped; dropped = suc c.dropped; passed = c.passed }
count_fate (shifted s e) c = record { shifted = suc c.shifted; clipped = c.clipped; dropped = c.dropped; passed = c.passed }
count_fate (clipped s e) c = record { shifted = c.shifted; clipped = suc c.clipped; dropped = c.dropped; passed = c.passed }

abbrev pub count : Caption → Counts → Counts
count none c = c
count (decided f) c = count_fate f c

-- the counts with the captions of what was emitted
unfoldable pub count_all : Counts → List Emit → Counts
count_all c [] = c
count_all c (e ∷ es) = count_all (count e.caption c) es

abbrev pub counts_of : List Emit → Counts
counts_of es = count_all no_counts es

-- captions among what was emitted
abbrev pub one : Caption → ℕ
one none = 0
one (decided f) = 1

unfoldable pub captions : List Emit → ℕ
captions [] = 0
captions (e ∷ es) = one e.caption + captions es

-- shifted + clipped + dropped + passed
abbrev pub total : Counts → ℕ
total c = c.shifted + c.clipped + c.dropped + c.passed

-- ---- the same, fate by fate
abbrev pub fate_number : Caption → ℕ
fate_number none = 0
fate_number (decided (shifted s e)) = 1
fate_number (decided (clipped s e)) = 2
fate_number (decided dropped) = 3
fate_number (decided passed) = 4

abbrev pub was_shifted : Caption → Bool
was_shifted x = eqb (fate_number x) 1

abbrev pub was_clipped : Caption → Bool
was_clipped x = eqb (fate_number x) 2

abbrev pub was_dropped : Caption → Bool
was_dropped x = eqb (fate_number x) 3

abbrev pub was_passed : Caption → Bool
was_passed x = eqb (fate_number x) 4

-- one more where a test holds
abbrev pub count_if : Bool → ℕ → ℕ
count_if true n = suc n
count_if false n = n

-- how many captions a test holds of
unfoldable pub how_many : (Caption → Bool) → List Emit → ℕ
how_many t [] = 0
how_many t (e ∷ es) = count_if (t e.caption) (how_many t es)

-- each count is the number of captions with that fate
pub record CountedBy (es : List Emit) (n : Counts) : Type 0 where
  pub shifted_are : n.shifted ≡ how_many was_shifted es
  pub clipped_are : n.clipped ≡ how_many was_clipped es
  pub dropped_are : n.dropped ≡ how_many was_dropped es
  pub passed_are : n.passed ≡ how_many was_passed es
