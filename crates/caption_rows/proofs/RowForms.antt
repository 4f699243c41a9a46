-- Laws of the forms of this crate's functions: two reasons for one answer, and a row copied.
use mathlib.Core.Path.{◌≡◌, refl, sym, ◌∙◌}
use mathlib.Core.List.{List, []}
use mathlib.Core.Logic.{◌⊎◌, inl, inr}
use Prim.Native.Nat.{ℕ, ◌+◌, ◌-◌, ◌≤◌, ◌<◌}
use native.Mathlib.Omega.{arith}
use borrow.Rule.Slice.PartMut.{put_mid}
use lib.ListN.{length, drop}
use Rattle.spec_base.specs.base.Put.{put, put_at, placed_at, place_after}
use Rattle.spec_base.proofs.base.PutLaws.{at_yes, at_no, after_no}
use Rattle.spec_text.specs.text.Line.{text_of}
use Rattle.spec_ass.specs.declared.ass_columns.Columns.{Columns}
use Rattle.spec_ass.specs.ass_line.Line.{caption_says}
use Rattle.spec_rows.specs.declared.caption_rows.Said.{Said}
use Rattle.spec_rows.specs.caption_rows.Said.{caption_said, line_said, last_words}
use Rattle.spec_rows.specs.caption_rows.Walk.{six_said}
use Rattle.spec_rows.proofs.caption_rows.RowLaws.{six_place}
use Rattle.spec_rows.proofs.caption_rows.LineLaws.{words_end, words_start, caption_1, caption_2}

-- ---- six numbers
pub six_none : (l : List ℕ) (at n : ℕ) (s : Said) → n ≡ length l - at → n < 6 → (at ≡ place_after at (six_said s) l) × (l ≡ placed_at at (six_said s) l)
six_none l at n s e h = (sym (after_no at (six_said s) l (omega arith)), sym (at_no at (six_said s) l (omega arith)))

six_put : (l : List ℕ) (at : ℕ) (s : Said) → put_mid at 6 l (six_said s) ≡ put_at at (six_said s) l
unfolding put_at put
six_put l at s = refl

pub six_done : (l v : List ℕ) (at n : ℕ) (s : Said) → n ≡ length l - at → 6 ≤ n → v ≡ six_said s
    → (at + 6 ≡ place_after at (six_said s) l) × (put_mid at (at + 6 - at) l v ≡ placed_at at (six_said s) l)
six_done l v at n s e h ev =
    let k : at + 6 - at ≡ 6 = omega arith in
    (six_place l at s (omega arith) (omega arith), rw (k, ev) (six_put l at s ∙ sym (at_yes at (six_said s) l (omega arith))))

-- ---- a kind that is WebVTT's is not ASS's
pub two_some : (k : ℕ) → k ≡ 2 → k ≡ 0 → ⊥
two_some k a b = omega arith

-- ---- a time stands in the last column
pub words_none : (c : Columns) (fs : List (List ℕ)) → (c.columns ≡ c.«end») ⊎ ((c.columns ≡ c.«end» → ⊥) × (c.columns ≡ c.start)) → 0 ≡ last_words c fs
words_none c fs (inl h) = words_end c fs h
words_none c fs (inr q) = words_start c fs q.0 q.1

-- ---- a column is unknown
pub caption_unplaced : (c : Columns) (n i j k : ℕ) (l T : List ℕ) (eT : T ≡ text_of l) (t : Said) → (c.start ≡ 0) ⊎ ((c.start ≡ 0 → ⊥) × (c.«end» ≡ 0))
    → t ≡ caption_said n 1 0 0 i (length T) → t ≡ line_said n i (length (text_of l)) (caption_says c n l [] (drop j (text_of l)))
caption_unplaced c n i j k l T eT t (inl h) e = caption_1 c n i j k l T eT t h e
caption_unplaced c n i j k l T eT t (inr q) e = caption_2 c n i j k l T eT t q.0 q.1 e
