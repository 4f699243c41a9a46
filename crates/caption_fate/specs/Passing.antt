-- Segments that are passed over in the search for a hit. For the private functions.
use Rattle.std.specs.Prelude.{◌≡◌, Bool, ◌&&◌, List, ℕ, ◌+◌, ◌*◌, ◌≤◌, leb, length, drop, get_or}
use Rattle.spec_map.specs.segment.Segment.{segments_of}
use Rattle.spec_caption.specs.caption_fate.Hit.{find_from, find_hit}

-- the first four segments of a row end at or before a
unfoldable pub four_ended : (t : List ℕ) → (a : ℕ) → Bool
four_ended t a =
    leb 24 (length t) && (leb (get_or t 2 0 + get_or t 5 0) a && (leb (get_or t 8 0 + get_or t 11 0) a && (leb (get_or t 14 0 + get_or t 17 0) a && leb (get_or t 20 0 + get_or t 23 0) a)))

-- the first k segments of a row meet nothing that starts at a: a search goes on behind them
pub record Passed (t : List ℕ) (a k : ℕ) : Type 0 where
  pub within : 6 * k ≤ length t
  pub same : (b : ℕ) → find_hit (segments_of t) a b ≡ find_from k (segments_of (drop (6 * k) t)) a b
