-- Counts of starts by edges: of the starts 0 to N − 1, at length L, start by start and segment by segment.
use Rattle.std.specs.Prelude.{List, [], ◌∷◌, ℕ, zero, suc, ◌+◌, ◌-◌, ◌≤◌, min, max}
use Rattle.spec_ask.specs.declared.ask_edges.Edge.{Edge}
use Rattle.spec_ask.specs.ask_edges.Edge.{grade_through}

-- 1 for a caption that is kept, and 1 for one that is shifted
abbrev pub one_kept : ℕ → ℕ
one_kept zero = 0
one_kept (suc k) = 1

abbrev pub one_whole : ℕ → ℕ
one_whole zero = 0
one_whole (suc zero) = 0
one_whole (suc (suc k)) = 1

-- start by start
unfoldable pub count_starts : (ℕ → ℕ) → List Edge → (L N : ℕ) → ℕ
count_starts one es L zero = 0
count_starts one es L (suc N) = count_starts one es L N + one (grade_through es N (N + L))

-- the numbers from lo up to hi, hi excluded, that are below N
unfoldable pub starts_in : (lo hi N : ℕ) → ℕ
starts_in lo hi N = min N hi - min N lo

-- segment by segment; p is where the segment before ends
unfoldable pub kept_fast : List Edge → (p L N : ℕ) → ℕ
kept_fast [] p L N = 0
kept_fast (e ∷ es) p L N = starts_in (max p (e.from - L)) e.till N + kept_fast es e.till L N

unfoldable pub whole_fast : List Edge → (p L N : ℕ) → ℕ
whole_fast [] p L N = 0
whole_fast (e ∷ es) p L N =
    starts_in (max (max p (e.from - L)) e.low) (min e.till (e.high - L)) N + whole_fast es e.till L N

-- the edges ascend without overlap behind p
abbrev pub EdgesAscend : (p : ℕ) → List Edge → Type 0
EdgesAscend p [] = Unit {0}
EdgesAscend p (e ∷ es) = (p ≤ e.low) × (e.low ≤ e.from) × (e.from ≤ e.till) × EdgesAscend e.till es
