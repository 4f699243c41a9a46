-- Room: the frame of a caption whose times read takes at most three bytes for each of its line.
use mathlib.Core.Path.{◌≡◌, refl, sym, ap, subst, ◌∙◌}
use mathlib.Core.Bool.{Bool, true, false, cond}
use mathlib.Core.List.{List, [], ◌∷◌, ◌++◌}
use Prim.Native.Nat.{ℕ, zero, suc, ◌+◌, ◌*◌, ◌-◌, ◌≤◌, ◌<◌}
use native.Mathlib.Omega.{arith}
use borrow.Author.Tests.{ltb-true, ltb-false, eqb-true}
use lib.Dec.{ltb, eqb}
use lib.ListN.{length, take, drop, length-drop}
use lib.Seq.{length-take-le}
use Rattle.spec_text.specs.pattern.Find.{first}
use Rattle.spec_time.specs.caption_stamp.Read.{stamp, time_in}
use Rattle.spec_time.proofs.caption_stamp.Reading.{time_long}
use Rattle.spec_caption.specs.caption_fate.Says.{Piece, bytes, start, stop}
use Rattle.spec_ass.specs.declared.ass_columns.Columns.{Columns}
use Rattle.spec_ass.specs.ass_columns.Columns.{fields, field_at}
use Rattle.spec_ass.specs.ass_write.Frame.{piece_at, field_pieces, line_frame, frame_most}
use Rattle.spec_ass.proofs.ass_columns.FieldLaws.{fields_more, fields_last, fields_none, fields_one, fields_least, at_first, at_next}
use Rattle.spec_ass.proofs.ass_write.WriteLaws.{frame_one, pieces_more}
use Rattle.spec_text.specs.pattern.Piece.{comma}

-- fields, each with a comma
abbrev pub spread : List (List ℕ) → ℕ
spread [] = 0
spread (f ∷ fs) = length f + 1 + spread fs

-- they are one byte more than the text that they part
pub fields_spread : (n : ℕ) (s : List ℕ) → 0 < n → spread (fields n s) ≡ length s + 1
fields_spread zero s l = absurd (omega arith)
fields_spread (suc n) s l = go (ltb (first comma s) (length s)) refl n (fields_spread n)
  where
    go : (t : Bool) → ltb (first comma s) (length s) ≡ t → (n : ℕ) → ((u : List ℕ) → 0 < n → spread (fields n u) ≡ length u + 1) → spread (fields (suc n) s) ≡ length s + 1
    go false q n ih = ap spread (fields_last (suc n) (first comma s) s (omega arith) refl (ltb-false (first comma s) (length s) q)) ∙ omega arith
    go true q zero ih = ap spread (fields_one s) ∙ omega arith
    go true q (suc n) ih =
        let h : first comma s < length s = ltb-true (first comma s) (length s) q in
        let z : suc (suc n) - 1 ≡ suc n = omega arith in
        let u = drop (first comma s + 1) s in
        let e : fields (suc (suc n)) s ≡ take (first comma s) s ∷ fields (suc n) u =
        fields_more (suc (suc n)) (first comma s) s (omega arith) refl h ∙ ap (λ (k : ℕ). take (first comma s) s ∷ fields k u) z in
        ap spread e ∙ omega (arith, ih u (omega arith), length-take-le (first comma s) s (omega arith), length-drop (first comma s + 1) s)

-- a field is a part of the text
at_spread : (p : ℕ) (fs : List (List ℕ)) → 0 < length (field_at p fs) → length (field_at p fs) + 1 ≤ spread fs
unfolding field_at
at_spread zero fs h = absurd (omega arith)
at_spread (suc k) [] h = absurd (omega arith)
at_spread (suc zero) (f ∷ fs) h = omega arith
at_spread (suc (suc k)) (f ∷ fs) h = omega (arith, at_spread (suc k) fs h)

at_empty : (p : ℕ) → field_at p [] ≡ []
unfolding field_at
at_empty zero = refl
at_empty (suc p) = refl

pub field_part : (n p : ℕ) (s : List ℕ) → 0 < length (field_at p (fields n s)) → length (field_at p (fields n s)) ≤ length s
field_part zero p s h = absurd (let z : length (field_at p (fields 0 s)) ≡ 0 = ap (λ (fs : List (List ℕ)). length (field_at p fs)) (fields_none s) ∙ ap length (at_empty p) in omega arith)
field_part (suc n) p s h = omega (arith, at_spread p (fields (suc n) s) h, fields_spread (suc n) s (omega arith))

-- the field at place p has 7 bytes or more, where fs are the fields from place k on
abbrev LongAt : (p k : ℕ) → List (List ℕ) → Type 0
LongAt p k fs = k ≤ p → 7 ≤ length (field_at (suc p - k) fs)

long_next : (p k : ℕ) (f : List ℕ) (fs : List (List ℕ)) → LongAt p k (f ∷ fs) → LongAt p (suc k) fs
long_next p k f fs h l =
    let z : suc p - k - 1 ≡ suc p - suc k = omega arith in
    let e : field_at (suc p - k) (f ∷ fs) ≡ field_at (suc p - suc k) fs = at_next (suc p - k) f fs (omega arith) ∙ ap (λ (x : ℕ). field_at x fs) z in
    subst (λ (x : List ℕ). 7 ≤ length x) e (h (omega arith))

long_here : (p k : ℕ) (f : List ℕ) (fs : List (List ℕ)) → k ≡ p → LongAt p k (f ∷ fs) → 7 ≤ length f
long_here p k f fs e h =
    let z : suc p - k ≡ 1 = omega arith in
    let q : field_at (suc p - k) (f ∷ fs) ≡ f = ap (λ (x : ℕ). field_at x (f ∷ fs)) z ∙ at_first f fs in
    subst (λ (x : List ℕ). 7 ≤ length x) q (h (omega arith))

module _ (i j : ℕ) where
  piece_most : (k : ℕ) (f : List ℕ) (fs : List (List ℕ)) (ps : List Piece) → LongAt i k (f ∷ fs) → LongAt j k (f ∷ fs)
      → frame_most (piece_at i j k f ∷ ps) + 1 ≤ 3 * (length f + 1) + frame_most ps
  unfolding frame_most piece_at
  piece_most k f fs ps hi hj = go (eqb k j) refl (eqb k i) refl
    where
      go : (x : Bool) → eqb k j ≡ x → (y : Bool) → eqb k i ≡ y → frame_most (cond x stop (cond y start (bytes f)) ∷ ps) + 1 ≤ 3 * (length f + 1) + frame_most ps
      go true p y q = omega (arith, long_here j k f fs (eqb-true k j p) hj)
      go false p true q = omega (arith, long_here i k f fs (eqb-true k i q) hi)
      go false p false q = omega arith

  comma_most : (ps : List Piece) → frame_most (bytes comma ∷ ps) ≡ 1 + frame_most ps
  unfolding frame_most
  comma_most ps = refl

  none_most : frame_most [] ≡ 0
  unfolding frame_most
  none_most = refl

  pieces_most : (k : ℕ) (fs : List (List ℕ)) → 0 < length fs → LongAt i k fs → LongAt j k fs → frame_most (field_pieces i j k fs) + 1 ≤ 3 * spread fs
  pieces_most k [] h hi hj = absurd (omega arith)
  pieces_most k (f ∷ []) h hi hj = rw (frame_one i j k f) (omega (arith, none_most, piece_most k f [] [] hi hj))
  pieces_most k (f ∷ g ∷ fs) h hi hj =
      let R = field_pieces i j (suc k) (g ∷ fs) in
      rw (pieces_more i j k f (g ∷ fs) (omega arith))
      (omega (arith, piece_most k f (g ∷ fs) (bytes comma ∷ R) hi hj, comma_most R, pieces_most (suc k) (g ∷ fs) (omega arith) (long_next i k f (g ∷ fs) hi) (long_next j k f (g ∷ fs) hj)))

pub frame_append : (ps qs : List Piece) → frame_most (ps ++ qs) ≡ frame_most ps + frame_most qs
unfolding frame_most
frame_append [] qs = omega arith
frame_append (bytes l ∷ ps) qs = omega (arith, frame_append ps qs)
frame_append (start ∷ ps) qs = omega (arith, frame_append ps qs)
frame_append (stop ∷ ps) qs = omega (arith, frame_append ps qs)

line_parts : (c : Columns) (v y : List ℕ) (fs : List (List ℕ)) → frame_most (line_frame c v fs y) ≡ length v + (frame_most (field_pieces c.start c.«end» 1 fs) + length y)
unfolding frame_most
line_parts c v y fs =
    ap (λ (n : ℕ). length v + n) (frame_append (field_pieces c.start c.«end» 1 fs) (bytes y ∷ []) ∙ omega arith)

-- both times read
module _ (c : Columns) (v r y : List ℕ) (S a E b : ℕ) (es : time_in 0 (field_at c.start (fields c.columns r)) ≡ stamp S a) (ee : time_in 0 (field_at c.«end» (fields c.columns r)) ≡ stamp E b) where
  start_long : 7 ≤ length (field_at c.start (fields c.columns r))
  start_long = time_long 0 S a _ es

  end_long : 7 ≤ length (field_at c.«end» (fields c.columns r))
  end_long = time_long 0 E b _ ee

  some_column : 0 < c.columns
  some_column = go c.columns start_long
    where
      go : (n : ℕ) → 7 ≤ length (field_at c.start (fields n r)) → 0 < n
      go zero h = absurd (let z : length (field_at c.start (fields 0 r)) ≡ 0 = ap (λ (fs : List (List ℕ)). length (field_at c.start fs)) (fields_none r) ∙ ap length (at_empty c.start) in omega arith)
      go (suc n) h = omega arith

  -- the text after the word has 7 bytes or more
  pub rest_long : 7 ≤ length r
  rest_long = omega (arith, start_long, field_part c.columns c.start r (omega (arith, start_long)))

  from_one : (p : ℕ) → 7 ≤ length (field_at p (fields c.columns r)) → LongAt p 1 (fields c.columns r)
  from_one p h l = let z : suc p - 1 ≡ p = omega arith in subst (λ (x : ℕ). 7 ≤ length (field_at x (fields c.columns r))) (sym z) h

  pub line_most : 1 ≤ length v → frame_most (line_frame c v (fields c.columns r) y) ≤ 3 * (length v + length r + length y)
  line_most h =
      omega (
        arith,
        line_parts c v y (fields c.columns r),
        fields_spread c.columns r some_column,
        pieces_most c.start c.«end» 1 (fields c.columns r) (fields_least c.columns r some_column) (from_one c.start start_long) (from_one c.«end» end_long),
      )
