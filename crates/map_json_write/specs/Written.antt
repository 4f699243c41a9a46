-- A piece written from a place on, whether it fits or not: the place after it, and its bytes where there is room for it.
use Rattle.std.specs.Prelude.{◌≡◌, List, [], ◌∷◌, ◌++◌, ℕ, ◌+◌, ◌≤◌, length, get_or}
use Rattle.spec_base.specs.base.Put.{put_at}
use Rattle.spec_base.specs.base.Ascii.{ascii}
use Rattle.spec_map.specs.declared.segment.Segment.{Segment}
use Rattle.spec_map.specs.segment.Segment.{segment}
use Rattle.spec_json.specs.json.Quote.{decimal, quoted}
use Rattle.spec_map_json.specs.map_json_write.Text.{line4, segment_text, list_text}

pub record Written (at : ℕ) (v l : List ℕ) (r : ℕ) (l' : List ℕ) : Type 0 where
  pub place : r ≡ at + length v
  pub bytes : r ≤ length l → l' ≡ put_at at v l

-- three numbers, each behind a text
abbrev pub three_text : (la : List ℕ) → (a : ℕ) → (lb : List ℕ) → (b : ℕ) → (lc : List ℕ) → (c : ℕ) → List ℕ
three_text la a lb b lc c = (la ++ decimal a) ++ ((lb ++ decimal b) ++ (lc ++ decimal c))

-- the segment of the first six numbers of a map
abbrev pub segment_at : List ℕ → Segment
segment_at t = segment (get_or t 0 0) (get_or t 1 0) (get_or t 2 0) (get_or t 3 0) (get_or t 4 0) (get_or t 5 0)

-- its text in two parts
unfoldable pub front_text : (first last source : ℕ) → List ℕ
front_text a b c =
    three_text (0x7B ∷ 0x0A ∷ ascii "      \"source_start_frame\": ") a (0x2C ∷ 0x0A ∷ ascii "      \"source_end_frame\": ") b (0x2C ∷ 0x0A ∷ ascii "      \"source_start_dts\": ") c

unfoldable pub back_text : (frames output duration : ℕ) → List ℕ
back_text d e f =
    three_text (0x2C ∷ 0x0A ∷ ascii "      \"frame_count\": ") d (0x2C ∷ 0x0A ∷ ascii "      \"output_start\": ") e (0x2C ∷ 0x0A ∷ ascii "      \"duration\": ") f
    ++ (0x0A ∷ ascii "    }")

-- the text of a map in two parts, the first in two parts too
unfoldable pub rates_text : (timescale rate_num rate_den : ℕ) → List ℕ
rates_text T num den =
    three_text (0x7B ∷ 0x0A ∷ ascii "  \"video_timescale\": ") T (0x2C ∷ 0x0A ∷ ascii "  \"frame_rate_num\": ") num (0x2C ∷ 0x0A ∷ ascii "  \"frame_rate_den\": ") den

unfoldable pub path_text : (path : List ℕ) → (frames : ℕ) → List ℕ
path_text path frames = (0x2C ∷ 0x0A ∷ ascii "  \"input\": ") ++ (quoted path ++ ((0x2C ∷ 0x0A ∷ ascii "  \"total_frames\": ") ++ decimal frames))

abbrev pub head_text : (timescale rate_num rate_den : ℕ) → (path : List ℕ) → (frames : ℕ) → List ℕ
head_text T num den path frames = rates_text T num den ++ path_text path frames

unfoldable pub tail_text : List Segment → List ℕ
tail_text xs = (0x2C ∷ 0x0A ∷ ascii "  \"segments\": ") ++ (list_text xs ++ (0x0A ∷ 0x7D ∷ 0x0A ∷ []))

-- the segments behind the first, each behind a comma, and the end of the list
abbrev pub rest_text : List Segment → List ℕ
rest_text [] = 0x0A ∷ 0x20 ∷ 0x20 ∷ 0x5D ∷ []
rest_text (y ∷ ys) = ((0x2C ∷ line4) ++ segment_text y) ++ rest_text ys
