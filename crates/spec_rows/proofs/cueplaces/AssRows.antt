-- ASS: each row stands on its line, and its words are the last field.
use mathlib.Core.Path.{◌≡◌, refl, sym, ap, ap₂, subst, ◌∙◌}
use mathlib.Core.Logic.{◌⊎◌, inl, inr}
use mathlib.Core.Bool.{Bool, true, false, cond}
use mathlib.Core.List.{List, [], ◌∷◌, ◌++◌, append_assoc, append-nil}
use Prim.Native.Nat.{ℕ, zero, suc, ◌+◌, ◌-◌, ◌≤◌}
use native.Mathlib.Omega.{arith}
use borrow.Author.Tests.{ltb-false}
use lib.Dec.{eqb, ltb}
use lib.ListN.{length, take, drop, length-append, take-append-drop}
use Rattle.std.specs.Prelude.{Option, Some, None}
use Rattle.spec_text.specs.whitespace.White.{trim}
use Rattle.spec_text.specs.pattern.Find.{starts, equals, first, contains, up_to, past}
use Rattle.spec_text.specs.pattern.Piece.{comma}
use Rattle.spec_text.specs.text.Line.{lines_of, concat, line_count, text_of, terminator_of}
use Rattle.spec_text.proofs.text.LineLaws.{text_terminator}
use Rattle.spec_time.specs.declared.caption_stamp.Stamp.{Stamp}
use Rattle.spec_time.specs.caption_stamp.Read.{time_in}
use Rattle.spec_caption.specs.caption_fate.Says.{unplaced, short, Part, stays, passes, cue, Fault, long_line, not_utf8, long_block, bad_time, bad_header, fault_number}
use Rattle.spec_caption.specs.caption_fate.Bom.{behind_bom}
use Rattle.spec_ass.specs.declared.ass_columns.Columns.{Columns}
use Rattle.spec_ass.specs.ass_columns.Columns.{columns_in, fields, field_at, no_columns}
use Rattle.spec_ass.specs.ass_columns.Section.{events_name, bracketed, inside, in_section}
use Rattle.spec_ass.proofs.ass_columns.FieldLaws.{fields_most, at_zero}
use Rattle.spec_ass.specs.ass_line.Line.{format_word, dialogue_word, comment_word, LineSays, faulty, says, times_say, caption_says, word_says, text_says, line_says}
use Rattle.spec_ass.specs.ass_line.AssThrough.{columns_after}
use Rattle.spec_format.specs.whole.Ass.{columns_behind}
use Rattle.promise.specs.Plain.{line_fault}
use Rattle.promise.proofs.LinesCut.{many_append, concat_append}
use Rattle.spec_rows.specs.declared.caption_rows.Said.{Said}
use Rattle.spec_rows.specs.caption_rows.Said.{words_length, last_words, at_fault, part_said, line_said}
use Rattle.spec_rows.specs.caption_rows.Walk.{Walk, rows_said, ◌then◌, ass_turn, ass_next, ass_walk}
use Rattle.spec_rows.proofs.caption_rows.LineLaws.{frame_words}
use Rattle.spec_rows.proofs.caption_rows.AgreeAss.{turn_bad, turn_good, next_good}
use Rattle.spec_rows.specs.cueplaces.Rows.{bytes_at, byte_behind, last_field, FieldWords, LineWords, LineRow, RowsStand}
use Rattle.spec_rows.proofs.cueplaces.Bytes.{bytes_there, at_end_lem}
use Rattle.spec_text.proofs.pattern.PieceLaws.{starts_cut}
use Rattle.spec_rows.proofs.caption_rows.WalkLaws.{ass_clause, ass_none}

-- ---- the last of all fields is the end of their text
pub record Ends (s end : List ℕ) : Type 0 where
  pub front : List ℕ
  pub is : s ≡ front ++ end

last_ends : (n : ℕ) (s : List ℕ) → length (fields (suc n) s) ≡ suc n → Ends s (field_at (suc n) (fields (suc n) s))
unfolding fields field_at contains past
last_ends zero s e = record { front = []; is = refl }
last_ends (suc n) s e = go (ltb (first comma s) (length s)) e (last_ends n (drop (first comma s + 1) s))
  where
    go : (t : Bool) → length (cond t (up_to comma s ∷ fields (suc n) (drop (first comma s + 1) s)) (s ∷ [])) ≡ suc (suc n)
        → (length (fields (suc n) (drop (first comma s + 1) s)) ≡ suc n → Ends (drop (first comma s + 1) s) (field_at (suc n) (fields (suc n) (drop (first comma s + 1) s))))
        → Ends s (field_at (suc (suc n)) (cond t (up_to comma s ∷ fields (suc n) (drop (first comma s + 1) s)) (s ∷ [])))
    go true q ih =
        let d = ih (omega arith) in
        record {
          front = take (first comma s + 1) s ++ d.front;
          is =
              sym (take-append-drop (first comma s + 1) s) ∙ ap (λ (y : List ℕ). take (first comma s + 1) s ++ y) d.is
              ∙ sym (append_assoc (take (first comma s + 1) s) d.front (field_at (suc n) (fields (suc n) (drop (first comma s + 1) s))));
        }
    go false q ih = absurd (omega arith)

none_ends : (s : List ℕ) → Ends s []
none_ends s = record { front = s; is = sym (append-nil s) }

field_ends : (c : Columns) (r : List ℕ) → length (fields c.columns r) ≡ c.columns → Ends r (last_field c (fields c.columns r))
field_ends c r e = go (eqb c.columns c.«end») (eqb c.columns c.start)
  where
    some : (k : ℕ) → length (fields k r) ≡ k → Ends r (field_at k (fields k r))
    some zero q = subst (λ (y : List ℕ). Ends r y) (sym (at_zero (fields 0 r))) (none_ends r)
    some (suc k) q = last_ends k r q

    go : (u v : Bool) → Ends r (cond u [] (cond v [] (field_at c.columns (fields c.columns r))))
    go true v = none_ends r
    go false true = none_ends r
    go false false = some c.columns e

-- how long it is, as the reader tells it
last_long : (c : Columns) (fs : List (List ℕ)) → last_words c fs ≡ length (last_field c fs)
unfolding last_words
last_long c fs = go (eqb c.columns c.«end») (eqb c.columns c.start)
  where
    go : (u v : Bool) → cond u 0 (cond v 0 (length (field_at c.columns fs))) ≡ length (cond u [] (cond v [] (field_at c.columns fs)))
    go true v = refl
    go false true = refl
    go false false = refl

-- ---- what a line says is on it
pub record CueOn (c : Columns) (l : List ℕ) (k : ℕ) : Type 0 where
  pub words : List ℕ
  pub field : FieldWords c l words
  pub size : k ≡ length words

abbrev PartOn : Columns → (n : ℕ) → (l : List ℕ) → Part → Type 0
PartOn c n l (stays x) = Unit {0}
PartOn c n l (passes r m x) = m ≡ n
PartOn c n l (cue q) = (q.line ≡ n) × CueOn c l (words_length 0 q)

abbrev SaysOn : Columns → (n : ℕ) → (l : List ℕ) → LineSays → Type 0
SaysOn c n l (faulty f) = Unit {0}
SaysOn c n l (says d p) = PartOn c n l p

module _ (c : Columns) (n : ℕ) (l w r : List ℕ) (named : (w ≡ dialogue_word) ⊎ (w ≡ comment_word)) (et : text_of l ≡ w ++ r) where
  times_on : (enough : length (fields c.columns r) ≡ c.columns) (S E : Option Stamp) → SaysOn c n l (times_say c n w (fields c.columns r) (terminator_of l) S E)
  times_on h None E = tt
  times_on h (Some S) None = tt
  times_on h (Some S) (Some E) = (
    refl,
    record {
      words = last_field c (fields c.columns r);
      field = record { word = w; rest = r; named = named; text = et; enough = h; last = refl };
      size = sym (frame_words c n w (fields c.columns r) (terminator_of l) S.units S.mark E.units E.mark h) ∙ last_long c (fields c.columns r);
    },
  )

  caption_on : SaysOn c n l (caption_says c n l w r)
  unfolding caption_says
  caption_on = go (eqb c.start 0) (eqb c.«end» 0) (ltb (length (fields c.columns r)) c.columns) refl
    where
      go : (x y z : Bool) → ltb (length (fields c.columns r)) c.columns ≡ z
          → SaysOn c n l (cond x (says c (passes unplaced n l)) (cond y (says c (passes unplaced n l)) (cond z (says c (passes short n l)) (times_say c n w (fields c.columns r) (terminator_of l) (time_in 0 (field_at c.start (fields c.columns r))) (time_in 0 (field_at c.«end» (fields c.columns r)))))))
      go true y z q = refl
      go false true z q = refl
      go false false true q = refl
      go false false false q =
          times_on (let h : c.columns ≤ length (fields c.columns r) = ltb-false (length (fields c.columns r)) c.columns q in omega (arith, fields_most c.columns r))
          (time_in 0 (field_at c.start (fields c.columns r))) (time_in 0 (field_at c.«end» (fields c.columns r)))

word_on : (c : Columns) (n : ℕ) (l t : List ℕ) → text_of l ≡ t → SaysOn c (suc n) l (word_says c n l t)
unfolding word_says
word_on c n l t et = go (starts format_word t) (starts dialogue_word t) refl (starts comment_word t) refl
  where
    go : (x y : Bool) → starts dialogue_word t ≡ y → (z : Bool) → starts comment_word t ≡ z
        → SaysOn c (suc n) l (cond x (says (columns_in (drop 7 t)) (stays l)) (cond y (caption_says c (suc n) l dialogue_word (drop 9 t)) (cond z (caption_says c (suc n) l comment_word (drop 8 t)) (says c (stays l)))))
    go true y p z q = tt
    go false true p z q = caption_on c (suc n) l dialogue_word (drop 9 t) (inl refl) (et ∙ starts_cut dialogue_word t p)
    go false false p true q = caption_on c (suc n) l comment_word (drop 8 t) (inr refl) (et ∙ starts_cut comment_word t q)
    go false false p false q = tt

line_on : (c : Columns) (n : ℕ) (l : List ℕ) → SaysOn c (suc n) l (line_says c n l)
unfolding line_says text_says
line_on c n l = go (bracketed (trim (text_of l))) c.events
  where
    go : (x y : Bool) → SaysOn c (suc n) l (cond x (says (in_section (equals events_name (inside (trim (text_of l)))) c) (stays l)) (cond y (word_says c n l (text_of l)) (says c (stays l))))
    go true y = tt
    go false true = word_on c n l (text_of l) refl
    go false false = tt

-- ---- columns behind a line more
columns_more : (c : Columns) (n : ℕ) (done : List (List ℕ)) (l : List ℕ)
    → columns_behind c n (done ++ (l ∷ [])) ≡ columns_after (columns_behind c n done) (line_says (columns_behind c n done) (n + line_count done) l)
unfolding columns_behind
columns_more c n [] l = let z : n ≡ n + 0 = omega arith in ap (λ (m : ℕ). columns_after c (line_says c m l)) z
columns_more c n (d ∷ done) l =
    let z : suc n + line_count done ≡ n + suc (line_count done) = omega arith in
    columns_more (columns_after c (line_says c n d)) (suc n) done l
    ∙ ap (λ (m : ℕ). columns_after (columns_behind (columns_after c (line_says c n d)) (suc n) done) (line_says (columns_behind (columns_after c (line_says c n d)) (suc n) done) m l)) z

-- rows behind a later line are behind an earlier one
pub stand_less : (kind : ℕ) (text : List ℕ) (a b : ℕ) (l : List ℕ) → a ≤ b → RowsStand kind text b l → RowsStand kind text a l
stand_less kind text a b (n ∷ w ∷ S ∷ E ∷ i ∷ k ∷ l) h r = (omega (arith, h, r.0), r.1)
stand_less kind text a b (n ∷ w ∷ S ∷ E ∷ i ∷ []) h r = r
stand_less kind text a b (n ∷ w ∷ S ∷ E ∷ []) h r = r
stand_less kind text a b (n ∷ w ∷ S ∷ []) h r = r
stand_less kind text a b (n ∷ w ∷ []) h r = r
stand_less kind text a b (n ∷ []) h r = r
stand_less kind text a b [] h r = tt

-- ---- the row of a line
module _ (text : List ℕ) (done : List (List ℕ)) (l : List ℕ) (ls : List (List ℕ)) (e : lines_of (behind_bom text) ≡ done ++ (l ∷ ls)) (c : Columns) (ec : c ≡ columns_behind no_columns 0 done) (i : ℕ)
    (ei : i ≡ byte_behind text done) where
  -- words at the end of its text
  end_bytes : (front words : List ℕ) (k : ℕ) → text_of l ≡ front ++ words → k ≡ length words → bytes_at (i + (length (text_of l) - k)) k text ≡ words
  end_bytes front words k p q =
      let all : l ++ concat ls ≡ (front ++ words) ++ (terminator_of l ++ concat ls) =
      ap (λ (y : List ℕ). y ++ concat ls) (sym (text_terminator l) ∙ ap (λ (y : List ℕ). y ++ terminator_of l) p) ∙ append_assoc (front ++ words) (terminator_of l) (concat ls) in
      ap (λ (y : ℕ). bytes_at (i + (length (text_of l) - k)) y text) q
      ∙ bytes_there text done (l ∷ ls) e front words (terminator_of l ++ concat ls) (i + (length (text_of l) - k)) all
      (ap₂ (λ (a b : ℕ). a + b) ei (at_end_lem (text_of l) front words k p q))

  on_line : (w k : ℕ) → k ≤ length (text_of l) → LineWords w c l (bytes_at (i + (length (text_of l) - k)) k text) → LineRow text (suc (line_count done)) w (i + (length (text_of l) - k)) k
  on_line w k h words =
      record {
        before = done;
        line = l;
        behind = ls;
        cut = e;
        number = refl;
        from = omega (arith, ei);
        to = omega (arith, ei, h);
        words = subst (λ (y : Columns). LineWords w y l (bytes_at (i + (length (text_of l) - k)) k text)) ec words;
      }

  -- the whole text of it
  whole_row : (w : ℕ) → LineRow text (suc (line_count done)) (suc w) i (length (text_of l))
  whole_row w =
      let z : i + (length (text_of l) - length (text_of l)) ≡ i = omega arith in
      subst (λ (y : ℕ). LineRow text (suc (line_count done)) (suc w) y (length (text_of l))) z (on_line (suc w) (length (text_of l)) (omega arith) (end_bytes [] (text_of l) (length (text_of l)) refl refl))

  cue_row : (k : ℕ) → CueOn c l k → LineRow text (suc (line_count done)) 0 (i + (length (text_of l) - k)) k
  cue_row k o =
      let f = o.field in
      let d = field_ends c f.rest f.enough in
      let all : text_of l ≡ (f.word ++ d.front) ++ o.words =
      f.text ∙ ap (λ (y : List ℕ). f.word ++ y) (d.is ∙ ap (λ (y : List ℕ). d.front ++ y) (sym f.last)) ∙ sym (append_assoc f.word d.front o.words) in
      let n : length (text_of l) ≡ length (f.word ++ d.front) + length o.words = ap length all ∙ length-append (f.word ++ d.front) o.words in
      let b = end_bytes (f.word ++ d.front) o.words k all o.size in
      on_line 0 k (omega (arith, n, o.size)) (record { word = f.word; rest = f.rest; named = f.named; text = f.text; enough = f.enough; last = b ∙ f.last })

  part_rows : (n : ℕ) (p : Part) (rest : List ℕ) → n ≡ line_count done → PartOn c (suc n) l p → RowsStand 0 text (suc n) rest → RowsStand 0 text n (rows_said (part_said 0 i (length (text_of l)) p) ++ rest)
  part_rows n (stays x) rest en o r = stand_less 0 text n (suc n) rest (omega arith) r
  part_rows n (passes unplaced m x) rest en o r = (
    omega (arith, o),
    (subst (λ (y : ℕ). LineRow text y 1 i (length (text_of l))) (sym (o ∙ ap suc en)) (whole_row 0), subst (λ (y : ℕ). RowsStand 0 text y rest) (sym o) r),
  )
  part_rows n (passes short m x) rest en o r = (
    omega (arith, o),
    (subst (λ (y : ℕ). LineRow text y 2 i (length (text_of l))) (sym (o ∙ ap suc en)) (whole_row 1), subst (λ (y : ℕ). RowsStand 0 text y rest) (sym o) r),
  )
  part_rows n (cue q) rest en o r = (
    omega (arith, o.0),
    (subst (λ (y : ℕ). LineRow text y 0 (i + (length (text_of l) - words_length 0 q)) (words_length 0 q)) (sym (o.0 ∙ ap suc en)) (cue_row (words_length 0 q) o.1), subst (λ (y : ℕ). RowsStand 0 text y rest) (sym o.0) r),
  )

-- ---- the walk
pub fault_rows : (f : Fault) (n : ℕ) (w : Walk) → (at_fault (fault_number f) n then w).rows ≡ []
fault_rows long_line n w = refl
fault_rows not_utf8 n w = refl
fault_rows long_block n w = refl
fault_rows bad_time n w = refl
fault_rows bad_header n w = refl

pub part_then : (i k : ℕ) (p : Part) (w : Walk) → (part_said 0 i k p then w).rows ≡ rows_said (part_said 0 i k p) ++ w.rows
part_then i k (stays x) w = refl
part_then i k (passes r m x) w = refl
part_then i k (cue q) w = refl

pub ass_rows_lem : (text : List ℕ) (ls done : List (List ℕ)) (x : ℕ) (c : Columns) (n i : ℕ) → lines_of (behind_bom text) ≡ done ++ ls → n ≡ line_count done → i ≡ byte_behind text done → c ≡ columns_behind no_columns 0 done
    → RowsStand 0 text n (ass_walk x c n i ls).rows
ass_rows_lem text [] done x c n i e en ei ec = subst (λ (w : Walk). RowsStand 0 text n w.rows) (sym (ass_none x c n i)) tt
ass_rows_lem text (l ∷ ls) done x c n i e en ei ec =
    subst (λ (w : Walk). RowsStand 0 text n w.rows) (sym (ass_clause x c n i l ls)) (go (line_fault x l) refl (λ d q. ass_rows_lem text ls (done ++ (l ∷ [])) 0 d (suc n) (i + length l) more counted placed q))
  where
    more : lines_of (behind_bom text) ≡ (done ++ (l ∷ [])) ++ ls
    more = e ∙ sym (append_assoc done (l ∷ []) ls)

    counted : suc n ≡ line_count (done ++ (l ∷ []))
    counted = let z = many_append done (l ∷ []) in omega (arith, z, en)

    placed : i + length l ≡ byte_behind text (done ++ (l ∷ []))
    placed =
        let z : length (concat (done ++ (l ∷ []))) ≡ length (concat done) + length (l ++ []) = ap length (concat_append done (l ∷ [])) ∙ length-append (concat done) (l ++ []) in
        let y : length (l ++ []) ≡ length l = ap length (append-nil l) in
        omega (arith, z, y, ei)

    after : columns_after c (line_says c n l) ≡ columns_behind no_columns 0 (done ++ (l ∷ []))
    after =
        let z : n ≡ 0 + line_count done = omega (arith, en) in
        ap₂ (λ (y : Columns) (m : ℕ). columns_after y (line_says y m l)) ec z ∙ sym (columns_more no_columns 0 done l)

    say : (s : LineSays) → line_says c n l ≡ s → SaysOn c (suc n) l s
        → ((d : Columns) → d ≡ columns_behind no_columns 0 (done ++ (l ∷ [])) → RowsStand 0 text (suc n) (ass_walk 0 d (suc n) (i + length l) ls).rows)
        → RowsStand 0 text n (line_said (suc n) i (length (text_of l)) s then ass_walk 0 (columns_after c s) (suc n) (i + length l) ls).rows
    say (faulty f) q o ih = subst (λ (r : List ℕ). RowsStand 0 text n r) (sym (fault_rows f (suc n) (ass_walk 0 c (suc n) (i + length l) ls))) tt
    say (says d p) q o ih =
        subst (λ (r : List ℕ). RowsStand 0 text n r) (sym (part_then i (length (text_of l)) p (ass_walk 0 d (suc n) (i + length l) ls)))
        (part_rows text done l ls e c ec i ei n p (ass_walk 0 d (suc n) (i + length l) ls).rows en o (ih d (ap (columns_after c) (sym q) ∙ after)))

    go : (k : ℕ) → line_fault x l ≡ k → ((d : Columns) → d ≡ columns_behind no_columns 0 (done ++ (l ∷ [])) → RowsStand 0 text (suc n) (ass_walk 0 d (suc n) (i + length l) ls).rows)
        → RowsStand 0 text n (ass_turn x c n i l then ass_walk 0 (ass_next x c n l) (suc n) (i + length l) ls).rows
    go (suc k) q ih = subst (λ (s : Said). RowsStand 0 text n (s then ass_walk 0 (ass_next x c n l) (suc n) (i + length l) ls).rows) (sym (turn_bad x c n i l k q)) tt
    go zero q ih =
        subst (λ (s : Said). RowsStand 0 text n (s then ass_walk 0 (ass_next x c n l) (suc n) (i + length l) ls).rows) (sym (turn_good x c n i l q))
        (subst (λ (d : Columns). RowsStand 0 text n (line_said (suc n) i (length (text_of l)) (line_says c n l) then ass_walk 0 d (suc n) (i + length l) ls).rows) (sym (next_good x c n l q))
        (say (line_says c n l) refl (line_on c n l) ih))
