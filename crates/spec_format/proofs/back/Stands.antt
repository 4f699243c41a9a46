-- A caption that is read stands in its line or block: its frame with the old texts is the old bytes.
use mathlib.Core.Path.{◌≡◌, refl, sym, ap, subst, ◌∙◌}
use mathlib.Core.Bool.{Bool, true, false, cond}
use mathlib.Core.List.{List, [], ◌∷◌, ◌++◌, append_assoc, append-nil}
use Prim.Native.Nat.{ℕ, zero, suc, ◌+◌, ◌<◌}
use native.Mathlib.Omega.{arith}
use borrow.Author.Tests.{eqb-true, ltb-true}
use lib.Dec.{eqb, ltb}
use lib.ListN.{length, take, drop, take-append-drop}
use Rattle.std.specs.Prelude.{Option, Some, None}
use Rattle.spec_text.specs.whitespace.White.{trim_head, trim}
use Rattle.spec_text.specs.pattern.Find.{starts, equals, first, contains, up_to, past}
use Rattle.spec_text.specs.pattern.Piece.{comma}
use Rattle.spec_text.proofs.pattern.PieceLaws.{joined, starts_cut}
use Rattle.spec_text.specs.text.Line.{lines_of, concat, line_count, text_of, terminator_of}
use Rattle.spec_text.proofs.text.LineLaws.{text_terminator, lines_joined}
use Rattle.spec_time.specs.declared.caption_stamp.Stamp.{Stamp}
use Rattle.spec_time.specs.caption_stamp.Read.{stamp, time_in}
use Rattle.spec_time.proofs.caption_stamp.Reading.{time_long}
use Rattle.spec_caption.specs.caption_fate.Says.{Piece, bytes, start, stop, unplaced, short, Cue, stays, passes, cue}
use Rattle.spec_caption.specs.caption_fate.Emit.{render}
use Rattle.spec_ass.specs.declared.ass_columns.Columns.{Columns}
use Rattle.spec_ass.specs.ass_columns.Columns.{columns_in, fields, field_at}
use Rattle.spec_ass.specs.ass_columns.Section.{events_name, bracketed, inside, in_section}
use Rattle.spec_ass.specs.ass_write.Frame.{piece_at, field_pieces, line_frame}
use Rattle.spec_ass.specs.ass_line.Line.{format_word, dialogue_word, comment_word, LineSays, faulty, says, times_say, caption_says, word_says, text_says, line_says}
use Rattle.spec_cue.specs.block_timing.Style.{stamps_in, style_of}
use Rattle.spec_cue.specs.block_timing.Arrow
use Rattle.spec_cue.specs.block_timing.Arrow.{arrow, after_arrow, later, timing_of, Timing}
use Rattle.spec_cue.specs.block_cue.Block.{BlockSays, block_frame, both_say, end_text, trailing, timing_line_says, timing_says, block_says}
use Rattle.spec_cue.specs.block_cue.Block as block
use Rattle.spec_format.specs.back.Stands.{LineStands, old_frame, BlockStands}
use Rattle.spec_format.proofs.back.AssLine.{frame_is}
use Rattle.spec_format.proofs.back.TimingBlock.{Drops, head_drops, Swaps, timing_swaps, concat_at}

-- ---- a text is what stands before a pattern, the pattern, and what stands after it
cut_at : (p s : List ℕ) → first p s < length s → up_to p s ++ (p ++ past p s) ≡ s
unfolding up_to past first
cut_at p [] h = absurd (omega arith)
cut_at p (b ∷ s) h = go (starts p (b ∷ s)) refl h (cut_at p s)
  where
    go : (t : Bool) → starts p (b ∷ s) ≡ t → cond t zero (suc (first p s)) < length (b ∷ s)
        → (first p s < length s → take (first p s) s ++ (p ++ drop (first p s + length p) s) ≡ s)
        → take (cond t zero (suc (first p s))) (b ∷ s) ++ (p ++ drop (cond t zero (suc (first p s)) + length p) (b ∷ s)) ≡ b ∷ s
    go true e h ih = let z : 0 + length p ≡ length p = omega arith in ap (λ (k : ℕ). p ++ drop k (b ∷ s)) z ∙ sym (starts_cut p (b ∷ s) e)
    go false e h ih =
        let z : suc (first p s) + length p ≡ suc (first p s + length p) = omega arith in
        ap (λ (k : ℕ). b ∷ (take (first p s) s ++ (p ++ drop k (b ∷ s)))) z ∙ ap (λ (l : List ℕ). b ∷ l) (ih (omega arith))

pattern_at : (p s : List ℕ) → contains p s ≡ true → up_to p s ++ (p ++ past p s) ≡ s
unfolding contains
pattern_at p s e = cut_at p s (ltb-true (first p s) (length s) e)

-- ---- ASS: the fields with commas between them are the text
joined_more : (f : List ℕ) (fs : List (List ℕ)) → 0 < length fs → joined comma (f ∷ fs) ≡ f ++ (comma ++ joined comma fs)
unfolding joined
joined_more f [] h = absurd (omega arith)
joined_more f (g ∷ fs) h = refl

some_fields : (n : ℕ) (s : List ℕ) → 0 < length (fields (suc n) s)
unfolding fields
some_fields zero s = omega arith
some_fields (suc n) s = go (contains comma s)
  where
    go : (t : Bool) → 0 < length (cond t (up_to comma s ∷ fields (suc n) (past comma s)) (s ∷ []))
    go true = omega arith
    go false = omega arith

fields_joined : (n : ℕ) (s : List ℕ) → 0 < n → joined comma (fields n s) ≡ s
unfolding fields joined
fields_joined zero s h = absurd (omega arith)
fields_joined (suc zero) s h = refl
fields_joined (suc (suc n)) s h = go (contains comma s) refl (fields_joined (suc n) (past comma s) (omega arith))
  where
    go : (t : Bool) → contains comma s ≡ t → joined comma (fields (suc n) (past comma s)) ≡ past comma s
        → joined comma (cond t (up_to comma s ∷ fields (suc n) (past comma s)) (s ∷ [])) ≡ s
    go true e ih =
        joined_more (up_to comma s) (fields (suc n) (past comma s)) (some_fields n (past comma s))
        ∙ ap (λ (x : List ℕ). up_to comma s ++ (comma ++ x)) ih ∙ pattern_at comma s e
    go false e ih = refl

-- the frame of fields, where the texts in the places of the times are the fields that stand there
module _ (i j : ℕ) (S E : List ℕ) where
  piece_stands : (k : ℕ) (f : List ℕ) (ps : List Piece) → (k ≡ i → f ≡ S) → (k ≡ j → f ≡ E) → render (piece_at i j k f ∷ ps) S E ≡ f ++ render ps S E
  unfolding piece_at render
  piece_stands k f ps hs he = go (eqb k j) (eqb k i) refl refl
    where
      go : (x y : Bool) → eqb k j ≡ x → eqb k i ≡ y → render (cond x stop (cond y start (bytes f)) ∷ ps) S E ≡ f ++ render ps S E
      go true y p q = ap (λ (l : List ℕ). l ++ render ps S E) (sym (he (eqb-true k j p)))
      go false true p q = ap (λ (l : List ℕ). l ++ render ps S E) (sym (hs (eqb-true k i q)))
      go false false p q = refl

  comma_stands : (ps : List Piece) → render (bytes comma ∷ ps) S E ≡ comma ++ render ps S E
  unfolding render
  comma_stands ps = refl

  none_stands : render [] S E ≡ []
  unfolding render
  none_stands = refl

  pieces_stand : (k : ℕ) (fs : List (List ℕ)) → ((p : ℕ) → k + p ≡ i → field_at (suc p) fs ≡ S) → ((p : ℕ) → k + p ≡ j → field_at (suc p) fs ≡ E)
      → render (field_pieces i j k fs) S E ≡ joined comma fs
  unfolding field_pieces field_at joined
  pieces_stand k [] hs he = none_stands
  pieces_stand k (f ∷ []) hs he =
      let z : k + 0 ≡ k = omega arith in
      piece_stands k f [] (λ e. hs 0 (z ∙ e)) (λ e. he 0 (z ∙ e)) ∙ ap (λ (l : List ℕ). f ++ l) none_stands ∙ append-nil f
  pieces_stand k (f ∷ g ∷ fs) hs he =
      let z : k + 0 ≡ k = omega arith in
      let on : (p : ℕ) → k + suc p ≡ suc k + p = λ p. omega arith in
      piece_stands k f (bytes comma ∷ field_pieces i j (suc k) (g ∷ fs)) (λ e. hs 0 (z ∙ e)) (λ e. he 0 (z ∙ e))
      ∙ ap (λ (l : List ℕ). f ++ l) (comma_stands (field_pieces i j (suc k) (g ∷ fs))
      ∙ ap (λ (l : List ℕ). comma ++ l) (pieces_stand (suc k) (g ∷ fs) (λ p e. hs (suc p) (on p ∙ e)) (λ p e. he (suc p) (on p ∙ e))))

-- ---- a caption line
line_frame_lem : (c : Columns) (l w r : List ℕ) → text_of l ≡ w ++ r → 0 < c.columns
    → render (line_frame c w (fields c.columns r) (terminator_of l)) (field_at c.start (fields c.columns r)) (field_at c.«end» (fields c.columns r)) ≡ l
line_frame_lem c l w r e h =
    let fs = fields c.columns r in
    let S = field_at c.start fs in
    let E = field_at c.«end» fs in
    frame_is w (terminator_of l) S E (field_pieces c.start c.«end» 1 fs)
    ∙ ap (λ (x : List ℕ). (w ++ x) ++ terminator_of l) (pieces_stand c.start c.«end» S E 1 fs (λ p q. at p c.start q) (λ p q. at p c.«end» q) ∙ fields_joined c.columns r h)
    ∙ ap (λ (x : List ℕ). x ++ terminator_of l) (sym e)
    ∙ text_terminator l
  where
    at : (p k : ℕ) → 1 + p ≡ k → field_at (suc p) (fields c.columns r) ≡ field_at k (fields c.columns r)
    at p k q = let z : suc p ≡ k = omega arith in ap (λ (n : ℕ). field_at n (fields c.columns r)) z

abbrev Stood : List ℕ → LineSays → Type 0
Stood l (faulty f) = Unit {0}
Stood l (says d (stays x)) = Unit {0}
Stood l (says d (passes r k x)) = Unit {0}
Stood l (says d (cue q)) = LineStands l q

-- no columns, no fields: nothing to read
no_field : (k : ℕ) (s : List ℕ) → field_at k (fields 0 s) ≡ []
unfolding fields field_at
no_field zero s = refl
no_field (suc k) s = refl

some_columns : (n k S i : ℕ) (r : List ℕ) → time_in 0 (field_at k (fields n r)) ≡ stamp S i → 0 < n
some_columns zero k S i r p = absurd (let z : length (field_at k (fields 0 r)) ≡ 0 = ap length (no_field k r) in omega (arith, time_long 0 S i (field_at k (fields 0 r)) p))
some_columns (suc n) k S i r p = omega arith

caption_stood : (c : Columns) (n : ℕ) (l w r : List ℕ) → text_of l ≡ w ++ r → Stood l (caption_says c n l w r)
unfolding caption_says
caption_stood c n l w r e =
    go (eqb c.start 0) (eqb c.«end» 0) (ltb (length (fields c.columns r)) c.columns)
    (time_in 0 (field_at c.start (fields c.columns r))) refl (time_in 0 (field_at c.«end» (fields c.columns r))) refl
  where
    go : (x y z : Bool) → (X : Option Stamp) → time_in 0 (field_at c.start (fields c.columns r)) ≡ X → (Y : Option Stamp) → time_in 0 (field_at c.«end» (fields c.columns r)) ≡ Y
        → Stood l
        (cond x (says c (passes unplaced n l))
        (cond y (says c (passes unplaced n l))
        (cond z (says c (passes short n l))
        (times_say c n w (fields c.columns r) (terminator_of l) X Y))))
    go true y z X p Y q = tt
    go false true z X p Y q = tt
    go false false true X p Y q = tt
    go false false false None p Y q = tt
    go false false false (Some S) p None q = tt
    go false false false (Some S) p (Some E) q =
        record { start_text = field_at c.start (fields c.columns r); stop_text = field_at c.«end» (fields c.columns r); start_read = p; stop_read = q; stands = line_frame_lem c l w r e (some_columns c.columns c.start S.units S.mark r p) }

word_stood : (c : Columns) (n : ℕ) (l t : List ℕ) → text_of l ≡ t → Stood l (word_says c n l t)
unfolding word_says
word_stood c n l t e = go (starts format_word t) (starts dialogue_word t) refl (starts comment_word t) refl
  where
    go : (x y : Bool) → starts dialogue_word t ≡ y → (z : Bool) → starts comment_word t ≡ z
        → Stood l
        (cond x (says (columns_in (drop 7 t)) (stays l))
        (cond y (caption_says c (suc n) l dialogue_word (drop 9 t))
        (cond z (caption_says c (suc n) l comment_word (drop 8 t))
        (says c (stays l)))))
    go true y p z q = tt
    go false true p z q = caption_stood c (suc n) l dialogue_word (drop 9 t) (e ∙ starts_cut dialogue_word t p)
    go false false p true q = caption_stood c (suc n) l comment_word (drop 8 t) (e ∙ starts_cut comment_word t q)
    go false false p false q = tt

line_stood : (c : Columns) (n : ℕ) (l : List ℕ) → Stood l (line_says c n l)
unfolding line_says text_says
line_stood c n l = go (bracketed (trim (text_of l))) c.events
  where
    go : (x y : Bool) → Stood l (cond x (says (in_section (equals events_name (inside (trim (text_of l)))) c) (stays l)) (cond y (word_says c n l (text_of l)) (says c (stays l))))
    go true y = tt
    go false true = word_stood c n l (text_of l) refl
    go false false = tt

-- the cue of a line stands in it
pub line_stands : (c : Columns) (n : ℕ) (l : List ℕ) (d : Columns) (q : Cue) → line_says c n l ≡ says d (cue q) → LineStands l q
line_stands c n l d q e = subst (Stood l) e (line_stood c n l)

-- ---- blocks
frame_old : (b S h E t x a : List ℕ) → render (bytes b ∷ start ∷ bytes h ∷ stop ∷ bytes t ∷ bytes x ∷ bytes a ∷ []) S E ≡ b ++ (((S ++ (h ++ (E ++ t))) ++ x) ++ a)
unfolding render
frame_old b S h E t x a = simp (append_assoc, append-nil)

abbrev StoodIn : (kind : ℕ) → List ℕ → BlockSays → Type 0
StoodIn kind s (block.faulty f) = Unit {0}
StoodIn kind s (block.says (stays x)) = Unit {0}
StoodIn kind s (block.says (passes r k x)) = Unit {0}
StoodIn kind s (block.says (cue q)) = BlockStands kind s q

module _ (kind : ℕ) (s : List ℕ) (n : ℕ) (b l a : List ℕ) (whole : s ≡ b ++ (l ++ a)) (has : contains arrow (text_of l) ≡ true) where
  T : List ℕ
  T = text_of l

  D : Drops (past arrow T) (after_arrow T)
  unfolding after_arrow trim_head
  D = head_drops (past arrow T) 0

  space : List ℕ
  space = take D.count (past arrow T)

  behind : space ++ after_arrow T ≡ past arrow T
  unfolding space
  behind = ap (λ (x : List ℕ). take D.count (past arrow T) ++ x) D.is ∙ take-append-drop D.count (past arrow T)

  parts : end_text (style_of kind) T ++ trailing (style_of kind) T ≡ after_arrow T
  parts = take-append-drop ((style_of kind).end_length (after_arrow T)) (after_arrow T)

  trimmed : trim_head (space ++ (end_text (style_of kind) T ++ trailing (style_of kind) T)) ≡ end_text (style_of kind) T ++ trailing (style_of kind) T
  unfolding after_arrow
  trimmed = ap (λ (x : List ℕ). trim_head (space ++ x)) parts ∙ ap trim_head behind ∙ sym parts

  text_stands : up_to arrow T ++ ((arrow ++ space) ++ (end_text (style_of kind) T ++ trailing (style_of kind) T)) ≡ T
  unfolding T
  text_stands =
      ap (λ (x : List ℕ). up_to arrow T ++ ((arrow ++ space) ++ x)) parts
      ∙ ap (λ (x : List ℕ). up_to arrow T ++ x) (append_assoc arrow space (after_arrow T) ∙ ap (λ (x : List ℕ). arrow ++ x) behind)
      ∙ pattern_at arrow T has

  stands : render (old_frame b space (trailing (style_of kind) T) (terminator_of l) a) (up_to arrow T) (end_text (style_of kind) T) ≡ s
  unfolding T
  stands =
      frame_old b (up_to arrow T) (arrow ++ space) (end_text (style_of kind) T) (trailing (style_of kind) T) (terminator_of l) a
      ∙ ap (λ (x : List ℕ). b ++ ((x ++ terminator_of l) ++ a)) text_stands
      ∙ ap (λ (x : List ℕ). b ++ (x ++ a)) (text_terminator l)
      ∙ sym whole

  timing_line_lem : StoodIn kind s (timing_line_says (style_of kind) n b l a)
  unfolding timing_line_says T
  timing_line_lem = go (time_in kind (up_to arrow T)) refl (time_in kind (end_text (style_of kind) T)) refl
    where
      go : (X : Option Stamp) → time_in kind (up_to arrow T) ≡ X → (Y : Option Stamp) → time_in kind (end_text (style_of kind) T) ≡ Y
          → StoodIn kind s (both_say n (stamps_in kind a) (block_frame b (trailing (style_of kind) T) (terminator_of l) a) X Y)
      go None p Y q = tt
      go (Some S) p None q = tt
      go (Some S) p (Some E) q =
          record {
            before = b;
            space = space;
            trailing = trailing (style_of kind) T;
            terminator = terminator_of l;
            after = a;
            start_text = up_to arrow T;
            stop_text = end_text (style_of kind) T;
            framed = refl;
            start_read = p;
            stop_read = q;
            trimmed = trimmed;
            stands = stands;
          }

-- the timing line has an arrow
abbrev Arrowed : Timing → Type 0
Arrowed Arrow.untimed = Unit {0}
Arrowed (Arrow.timed b l a) = contains arrow (text_of l) ≡ true

later_arrowed : (x : List ℕ) (t : Timing) → Arrowed t → Arrowed (later x t)
later_arrowed x Arrow.untimed h = tt
later_arrowed x (Arrow.timed b l a) h = h

timing_arrowed : (ls : List (List ℕ)) → Arrowed (timing_of ls)
unfolding timing_of
timing_arrowed [] = tt
timing_arrowed (x ∷ ls) = go (contains arrow (text_of x)) refl (timing_arrowed ls)
  where
    go : (t : Bool) → contains arrow (text_of x) ≡ t → Arrowed (timing_of ls) → Arrowed (cond t (Arrow.timed [] x ls) (later x (timing_of ls)))
    go true e ih = e
    go false e ih = later_arrowed x (timing_of ls) ih

timing_stood : (kind first : ℕ) (s : List ℕ) (t : Timing) → Swaps (lines_of s) t → Arrowed t → StoodIn kind s (timing_says (style_of kind) first (lines_of s) t)
timing_stood kind first s Arrow.untimed h k = tt
timing_stood kind first s (Arrow.timed b l a) h k =
    timing_line_lem kind s (first + line_count b) (concat b) l (concat a) (sym (lines_joined s) ∙ ap concat h.0 ∙ concat_at b l a) k

block_stood : (kind first : ℕ) (s : List ℕ) → StoodIn kind s (block_says (style_of kind) first (lines_of s))
unfolding block_says
block_stood kind first s = timing_stood kind first s (timing_of (lines_of s)) (timing_swaps (lines_of s)) (timing_arrowed (lines_of s))

-- the cue of a block stands in it
pub block_stands : (kind first : ℕ) (s : List ℕ) (q : Cue) → block_says (style_of kind) first (lines_of s) ≡ block.says (cue q) → BlockStands kind s q
block_stands kind first s q e = subst (StoodIn kind s) e (block_stood kind first s)
