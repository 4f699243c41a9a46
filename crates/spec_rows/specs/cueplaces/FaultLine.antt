-- THE LINE OF A FAULT, in plain words: the least n from 1 on such that the first n lines of the text, alone, have its fault. For 21 this is the line
-- that is too much, and the line told is the first one of its block.
use Rattle.std.specs.Prelude.{◌≡◌, ◌⊎◌, Bool, true, false, not, ◌&&◌, cond, List, [], ◌∷◌, ◌++◌, ℕ, suc, ◌+◌, ◌≤◌, ◌<◌, eqb, take, drop}
use Rattle.spec_text.specs.text.Line.{lines_of, concat, line_count}
use Rattle.spec_time.specs.caption_time.Kind.{kind_bad}
use Rattle.spec_caption.specs.caption_fate.Bom.{bom, starts_bom, behind_bom}
use Rattle.spec_cue.specs.block_timing.Style.{blank_in}
use Rattle.promise.specs.Plain.{plain_read}
use Rattle.promise.specs.Whole.{ends_blank}
use Rattle.spec_rows.specs.caption_rows.Walk.{walk_of}

-- the first n lines, behind the BOM
abbrev pub first_lines : (n : ℕ) → (text : List ℕ) → List ℕ
first_lines n t = cond (starts_bom t) bom [] ++ concat (take n (lines_of (behind_bom t)))

-- the fault of a whole text (0: none)
abbrev pub text_fault : (kind : ℕ) → (text : List ℕ) → ℕ
text_fault kind t = (plain_read kind true t).fault

-- n is the least from 1 on such that the first n lines alone have the fault; it is a line of the text, or 1
pub record LeastLines (kind : ℕ) (text : List ℕ) (n : ℕ) : Type 0 where
  pub some : 1 ≤ n
  pub same : text_fault kind (first_lines n text) ≡ text_fault kind text
  pub least : (m : ℕ) → 1 ≤ m → m < n → text_fault kind (first_lines m text) ≡ text_fault kind text → ⊥
  pub within : (n ≤ 1) ⊎ (n ≤ line_count (lines_of (behind_bom text)))

-- ---- 21: a block
abbrev pub none_blank : (kind : ℕ) → List (List ℕ) → Bool
none_blank kind [] = true
none_blank kind (l ∷ ls) = not (blank_in kind l) && none_blank kind ls

-- WebVTT's first line is in no block
abbrev pub head_lines : (kind : ℕ) → ℕ
head_lines kind = cond (eqb kind 2) 1 0

-- the lines from `first` to `last` are of one block and `first` is its first: none of them is blank, and a blank line stands before them, or no line
-- but WebVTT's first one
pub record OneBlock (kind : ℕ) (lines : List (List ℕ)) (first last : ℕ) : Type 0 where
  pub before : List (List ℕ)
  pub body : List (List ℕ)
  pub behind : List (List ℕ)
  pub cut : lines ≡ before ++ (body ++ behind)
  pub opens : first ≡ suc (line_count before)
  pub ends : last ≡ line_count before + line_count body
  pub order : first ≤ last
  pub filled : none_blank kind body ≡ true
  pub closed : ends_blank kind (drop (head_lines kind) before) ≡ true

pub record LongBlock (kind : ℕ) (text : List ℕ) (line : ℕ) : Type 0 where
  pub last : ℕ
  pub least : LeastLines kind text last
  pub block : OneBlock kind (lines_of (behind_bom text)) line last

-- ---- the line that is told: 0 where there is no fault
pub record FaultLine (kind : ℕ) (text : List ℕ) (line : ℕ) : Type 0 where
  pub none : text_fault kind text ≡ 0 → line ≡ 0
  pub least : 0 < text_fault kind text → (text_fault kind text ≡ 21 → ⊥) → LeastLines kind text line
  pub long : text_fault kind text ≡ 21 → LongBlock kind text line

abbrev pub FaultLineTold : Type 0
FaultLineTold = (kind : ℕ) (text : List ℕ) → kind_bad kind ≡ false → FaultLine kind text (walk_of kind text).line
