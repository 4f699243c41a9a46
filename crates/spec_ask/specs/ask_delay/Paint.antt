-- Fates over a window of delays: grade j belongs to the delay j − 6000.
use Rattle.std.specs.Prelude.{◌≡◌, Bool, true, ◌&&◌, cond, not, List, ℕ, ◌+◌, ◌-◌, ◌≤◌, ◌<◌, ltb, leb, eqb, ℤ, length, get_or, Option, Some, None}
use Rattle.spec_ask.specs.declared.ask_edges.Edge.{Edge}
use Rattle.spec_ask.specs.ask_delay.Delay.{delayed_of}
use Rattle.spec_ask.specs.ask_edges.Edge.{grade_by, grade_through}

abbrev pub reach : ℕ
reach = 6000

-- v from lo up to hi, hi excluded, and the rest as it was
pub record Filled (lo hi v : ℕ) (l l' : List ℕ) : Type 0 where
  pub size : length l' ≡ length l
  pub grades : (j : ℕ) → j < length l → get_or l' j 0 ≡ cond (leb lo j && ltb j hi) v (get_or l j 0)

-- a caption read as S to E, moved by j − 6000, meets the segment, and lies in it whole; both sides are 6000 larger, so that no number is below zero
abbrev pub met_moved : Edge → (S E j : ℕ) → Bool
met_moved e S E j = ltb (S + j) (e.till + reach) && leb (e.from + reach) (E + j)

abbrev pub whole_moved : Edge → (S E j : ℕ) → Bool
whole_moved e S E j = leb (e.low + reach) (S + j) && ltb (E + j) (e.high + reach)

-- one segment painted over the grades of the later ones
pub record Painted (e : Edge) (S E : ℕ) (l l' : List ℕ) : Type 0 where
  pub size : length l' ≡ length l
  pub grades : (j : ℕ) → j < length l → get_or l' j 0 ≡ grade_by (met_moved e S E j) (whole_moved e S E j) (get_or l j 0)

-- the grades of one caption: where both moved times are at least zero, the fate by the edges of the segments
pub record Window (es : List Edge) (S E : ℕ) (l : List ℕ) : Type 0 where
  pub size : length l ≡ 12001
  pub grades : (j : ℕ) → j < 12001 → reach ≤ S + j → reach ≤ E + j → get_or l j 0 ≡ grade_through es (S + j - reach) (E + j - reach)

-- a caption lost under a delay, by its grades
abbrev pub lost_moved : List ℕ → (S : ℕ) → Option ℕ → Option ℕ → Bool
lost_moved l S None e = true
lost_moved l S (Some s) None = true
lost_moved l S (Some s) (Some e) = not (eqb (get_or l (s + reach - S) 0) 2)

unfoldable pub lost_by : List ℕ → (S E : ℕ) → ℤ → Bool
lost_by l S E d = lost_moved l S (delayed_of S d) (delayed_of E d)
