-- A caption line that was written, read again by the same columns, says the same cue with the new times. A start and an end have at most 9,999 hours.
use mathlib.Core.Path.{◌≡◌, refl, sym, ap, subst, ◌∙◌}
use mathlib.Core.Bool.{Bool, true, false, cond}
use mathlib.Core.List.{List, [], ◌∷◌, ◌++◌, append_assoc, append-nil}
use Prim.Native.Nat.{ℕ, zero, suc, ◌+◌, ◌*◌, ◌-◌, ◌/◌, ◌%◌, ◌≤◌, ◌<◌}
use native.Mathlib.Omega.{arith}
use borrow.Author.Tests.{ne_eqb, eqb-true, eqb-false, ltb-true, ltb-false}
use lib.Dec.{eqb, ltb}
use lib.ListN.{length, take, drop}
use Rattle.std.specs.Prelude.{Option, Some, None}
use Rattle.spec_text.specs.whitespace.White.{white, white_high, keep_from, trim_head, trim_tail, trim}
use Rattle.spec_text.specs.pattern.Find.{starts, equals}
use Rattle.spec_text.specs.text.Line.{text_of, terminator_of}
use Rattle.spec_text.proofs.whitespace.Laws.{white_ascii, head_none}
use Rattle.spec_text.proofs.text.LineEnds.{last_of, last_append, last_some, Ended, ended_swap, text_again, terminator_again, line_ended}
use Rattle.spec_time.specs.declared.caption_stamp.Stamp.{Stamp}
use Rattle.spec_time.specs.caption_time.Kind.{kind_bad, units_of, mark_of, fraction_digits, hour_digits}
use Rattle.spec_time.specs.caption_stamp.Read.{stamp, mark_in, time_in}
use Rattle.spec_time.specs.caption_stamp.Write.{pad, widest, text_with, time_text}
use Rattle.spec_text.proofs.pattern.Free.{Free, none_free}
use Rattle.spec_time.proofs.caption_stamp.Reading.{time_long, time_mark_lem}
use Rattle.spec_time.proofs.caption_stamp.ReadFree.{read_free}
use Rattle.spec_time.proofs.caption_stamp.Written.{text_some}
use Rattle.spec_time.proofs.caption_stamp.RoundTrip.{ass_back, text_free}
use Rattle.spec_caption.specs.caption_fate.Says.{Piece, bytes, start, stop, unplaced, short, Cue, with_times, stays, passes, cue}
use Rattle.spec_caption.specs.caption_fate.Emit.{render}
use Rattle.spec_ass.specs.declared.ass_columns.Columns.{Columns}
use Rattle.spec_ass.specs.ass_columns.Columns.{columns_in, fields, field_at}
use Rattle.spec_ass.specs.ass_columns.Section.{events_name, bracketed, inside, in_section}
use Rattle.spec_ass.specs.ass_write.Tags.{holds_any, tagged}
use Rattle.spec_ass.specs.ass_write.Frame.{field_pieces, line_frame}
use Rattle.spec_ass.proofs.ass_columns.ColumnLaws.{Apart, format_apart}
use Rattle.spec_ass.proofs.ass_columns.FieldLaws.{at_none, fields_most}
use Rattle.spec_ass.proofs.ass_write.FieldBack.{new_field, new_fields, new_length, new_start, new_end, new_at, new_pieces, written, fields_back, last_back}
use Rattle.spec_ass.specs.ass_line.Line.{format_word, dialogue_word, comment_word, LineSays, faulty, says, line_cue, times_say, caption_says, word_says, text_says, line_says}
use Rattle.spec_ass.specs.ass_line.AssThrough.{columns_after}
use Rattle.spec_ass.proofs.ass_line.SayLaws.{caption_times, caption_columns}
use Rattle.spec_text.proofs.pattern.PieceLaws.{starts_cut}

-- ---- a written time: no comma, no `\`, and a digit at its end
ass_known : kind_bad 0 ≡ false
unfolding kind_bad
ass_known = refl

comma_free : (units : ℕ) → Free 44 (time_text 0 46 units)
comma_free units = text_free 0 46 units 44 (λ b l h e. omega arith) (λ e. omega arith) (λ e. omega arith)

slash_free : (units : ℕ) → Free 92 (time_text 0 46 units)
slash_free units = text_free 0 46 units 92 (λ b l h e. omega arith) (λ e. omega arith) (λ e. omega arith)

with_last : (U least mark units : ℕ) → 44 ≤ last_of (text_with U 2 least mark units)
unfolding text_with pad
with_last U least mark units =
    let h = units / U / 60 / 60 in
    let a : List ℕ = pad (widest least h) h ++ (58 ∷ pad 2 (units / U / 60 % 60)) ++ (58 ∷ pad 2 (units / U % 60)) in
    let b : List ℕ = mark ∷ pad 2 (units % U) in
    let e : last_of (a ++ b) ≡ 48 + units % U % 10 = last_append a b (omega arith) in
    omega arith

text_last : (units : ℕ) → 44 ≤ last_of (time_text 0 46 units)
unfolding fraction_digits
text_last units = rw (text_some 0 46 units ass_known) (with_last (units_of 0) (hour_digits 0) 46 units)

-- ---- tags: each begins with `\`
untagged : (s : List ℕ) → Free 92 s → tagged s ≡ false
unfolding holds_any
untagged s f = rw (none_free 92 _ s f, none_free 92 _ s f, none_free 92 _ s f, none_free 92 _ s f, none_free 92 _ s f)

slash_other : white 92 ≡ false
unfolding white white_high
slash_other = refl

read_untagged : (S a : ℕ) (f : List ℕ) → time_in 0 f ≡ stamp S a → tagged f ≡ false
unfolding mark_of
read_untagged S a f e =
    untagged f (read_free 92 (omega arith) slash_other (λ b l h q. omega arith) (λ q. omega arith) (λ q. omega arith) 0 S a f (λ q. omega arith) (λ q. omega arith) e)

-- ---- a line that begins with a letter names no section
taken_other : (k b : ℕ) (r : List ℕ) → (b ≡ 91 → ⊥) → bracketed (take k (b ∷ r)) ≡ false
unfolding bracketed
taken_other zero b r h = refl
taken_other (suc k) b r h = rw (ne_eqb b 91 h) (go (ltb (suc (length (take k r))) 2))
  where
    go : (t : Bool) → cond t false false ≡ false
    go true = refl
    go false = refl

no_section : (b : ℕ) (r : List ℕ) → b < 0x80 → white b ≡ false → (b ≡ 91 → ⊥) → bracketed (trim (b ∷ r)) ≡ false
unfolding trim trim_tail
no_section b r l w h =
    let e : b ∷ r ≡ trim_head (b ∷ r) = head_none (b ∷ r) 0 (omega arith) (white_ascii (b ∷ r) b 0 refl l (rw w)) refl in
    subst (λ (t : List ℕ). bracketed (trim_tail t) ≡ false) e (taken_other (keep_from (b ∷ r) (length (b ∷ r)) 0) b r h)

-- ---- the words of captions
record Word (w : List ℕ) : Type 0 where
  pub says_caption : (c : Columns) (n : ℕ) (l r : List ℕ) → word_says c n l (w ++ r) ≡ caption_says c (suc n) l w r
  pub no_name : (r : List ℕ) → bracketed (trim (w ++ r)) ≡ false
  pub last_colon : last_of w ≡ 58

letter_c : white 67 ≡ false
unfolding white white_high
letter_c = refl

letter_d : white 68 ≡ false
unfolding white white_high
letter_d = refl

dialogue_says : (c : Columns) (n : ℕ) (l r : List ℕ) → word_says c n l (dialogue_word ++ r) ≡ caption_says c (suc n) l dialogue_word r
unfolding word_says starts
dialogue_says c n l r = refl

comment_says : (c : Columns) (n : ℕ) (l r : List ℕ) → word_says c n l (comment_word ++ r) ≡ caption_says c (suc n) l comment_word r
unfolding word_says starts
comment_says c n l r = refl

dialogue : Word dialogue_word
dialogue = record { says_caption = dialogue_says; no_name = λ r. no_section 68 _ (omega arith) letter_d (λ e. omega arith); last_colon = refl }

comment : Word comment_word
comment = record { says_caption = comment_says; no_name = λ r. no_section 67 _ (omega arith) letter_c (λ e. omega arith); last_colon = refl }

behind_word_lem : (w r : List ℕ) (b : ℕ) → last_of w ≡ 58 → 0 < b → b < 44 → last_of (w ++ r) ≡ b → last_of r ≡ b
behind_word_lem w [] b h some low e = absurd (omega (arith, ap last_of (append-nil w)))
behind_word_lem w (x ∷ r) b h some low e = sym (last_append w (x ∷ r) (omega arith)) ∙ e

render_append : (ps qs : List Piece) (s e : List ℕ) → render (ps ++ qs) s e ≡ render ps s e ++ render qs s e
unfolding render
render_append [] qs s e = refl
render_append (bytes l ∷ ps) qs s e = ap (λ (x : List ℕ). l ++ x) (render_append ps qs s e) ∙ sym (append_assoc l (render ps s e) (render qs s e))
render_append (start ∷ ps) qs s e = ap (λ (x : List ℕ). s ++ x) (render_append ps qs s e) ∙ sym (append_assoc s (render ps s e) (render qs s e))
render_append (stop ∷ ps) qs s e = ap (λ (x : List ℕ). e ++ x) (render_append ps qs s e) ∙ sym (append_assoc e (render ps s e) (render qs s e))

pub frame_is : (w x s e : List ℕ) (ps : List Piece) → render (bytes w ∷ (ps ++ (bytes x ∷ []))) s e ≡ (w ++ render ps s e) ++ x
unfolding render
frame_is w x s e ps =
    ap (λ (y : List ℕ). w ++ y) (render_append ps (bytes x ∷ []) s e ∙ ap (λ (y : List ℕ). render ps s e ++ y) (append-nil x)) ∙ sym (append_assoc w (render ps s e) x)

-- a caption line with the text w r, whose times read
module _ (c : Columns) (n : ℕ) (l w r : List ℕ) (word : Word w) (ev : c.events ≡ true) (et : text_of l ≡ w ++ r) (hs : c.start ≡ 0 → ⊥) (he : c.«end» ≡ 0 → ⊥) (hf : c.columns ≤ length (fields c.columns r))
    (A a B b : ℕ) (p : time_in 0 (field_at c.start (fields c.columns r)) ≡ stamp A a) (q : time_in 0 (field_at c.«end» (fields c.columns r)) ≡ stamp B b) where
  -- its places are among the fields
  placed : (k S x : ℕ) → time_in 0 (field_at k (fields c.columns r)) ≡ stamp S x → k ≤ length (fields c.columns r)
  placed k S x t = go (ltb (length (fields c.columns r)) k) refl
    where
      go : (y : Bool) → ltb (length (fields c.columns r)) k ≡ y → k ≤ length (fields c.columns r)
      go true y = absurd (let z : length (field_at k (fields c.columns r)) ≡ 0 = ap length (at_none k (fields c.columns r) (ltb-true (length (fields c.columns r)) k y)) in omega (arith, time_long 0 S x _ t))
      go false y = ltb-false (length (fields c.columns r)) k y

  start_in : c.start ≤ length (fields c.columns r)
  start_in = placed c.start A a p

  end_in_lem : c.«end» ≤ length (fields c.columns r)
  end_in_lem = placed c.«end» B b q

  some : 0 < c.columns
  some = omega (arith, start_in, fields_most c.columns r)

  module _ (apart : c.start ≡ c.«end» → ⊥) (s e : ℕ) (ls : s < 36000000 * units_of 0) (le : e < 36000000 * units_of 0) where
    abbrev Old : List (List ℕ)
    Old = fields c.columns r

    abbrev New : List (List ℕ)
    New = new_fields c.start c.«end» (time_text 0 46 s) (time_text 0 46 e) 1 Old

    abbrev Rest : List ℕ
    Rest = written c.start c.«end» (time_text 0 46 s) (time_text 0 46 e) 1 Old

    abbrev Line : List ℕ
    Line = (w ++ Rest) ++ terminator_of l

    -- the text and the terminator
    last_same : (k : ℕ) → 0 < k → k < 44 → last_of (w ++ Rest) ≡ k → last_of (text_of l) ≡ k
    last_same k low high t =
        let u : last_of r ≡ k =
        last_back c.start c.«end» (time_text 0 46 s) (time_text 0 46 e) (text_last s) (text_last e) k low high c.columns 1 r some hf
        (behind_word_lem w Rest k word.last_colon low high t) in
        ap last_of et ∙ last_append w r (last_some r (omega arith)) ∙ u

    ended : Ended (w ++ Rest) (terminator_of l)
    ended = ended_swap (text_of l) (w ++ Rest) (terminator_of l) (last_same 10 (omega arith) (omega arith)) (last_same 13 (omega arith) (omega arith)) (line_ended l)

    -- the fields
    fields_are : fields c.columns Rest ≡ New
    fields_are = fields_back c.start c.«end» (time_text 0 46 s) (time_text 0 46 e) (comma_free s) (comma_free e) c.columns 1 r some hf

    at_place : (k : ℕ) → 0 < k → k ≤ length Old → field_at k New ≡ new_field c.start c.«end» (time_text 0 46 s) (time_text 0 46 e) k (field_at k Old)
    at_place k low high =
        let z : 1 + k - 1 ≡ k = omega arith in
        new_at c.start c.«end» (time_text 0 46 s) (time_text 0 46 e) k 1 Old low high
        ∙ ap (λ (x : ℕ). new_field c.start c.«end» (time_text 0 46 s) (time_text 0 46 e) x (field_at k Old)) z

    start_back : time_in 0 (field_at c.start (fields c.columns Rest)) ≡ stamp s 46
    start_back =
        ap (λ (fs : List (List ℕ)). time_in 0 (field_at c.start fs)) fields_are
        ∙ ap (time_in 0) (at_place c.start (omega arith) start_in ∙ new_start c.start c.«end» (time_text 0 46 s) (time_text 0 46 e) (field_at c.start Old) apart) ∙ ass_back s ls

    end_back : time_in 0 (field_at c.«end» (fields c.columns Rest)) ≡ stamp e 46
    end_back =
        ap (λ (fs : List (List ℕ)). time_in 0 (field_at c.«end» fs)) fields_are
        ∙ ap (time_in 0) (at_place c.«end» (omega arith) end_in_lem ∙ new_end c.start c.«end» (time_text 0 46 s) (time_text 0 46 e) (field_at c.«end» Old)) ∙ ass_back e le

    -- tags in the last field: a time has none
    tag_back : tagged (field_at c.columns New) ≡ tagged (field_at c.columns Old)
    tag_back = ap tagged (at_place c.columns some hf) ∙ go (eqb c.columns c.«end») refl (eqb c.columns c.start) refl
      where
        go : (x : Bool) → eqb c.columns c.«end» ≡ x → (y : Bool) → eqb c.columns c.start ≡ y
            → tagged (cond x (time_text 0 46 e) (cond y (time_text 0 46 s) (field_at c.columns Old))) ≡ tagged (field_at c.columns Old)
        go true f y g =
            untagged (time_text 0 46 e) (slash_free e) ∙ sym (read_untagged B b (field_at c.columns Old) (ap (λ (k : ℕ). time_in 0 (field_at k Old)) (eqb-true c.columns c.«end» f) ∙ q))
        go false f true g =
            untagged (time_text 0 46 s) (slash_free s) ∙ sym (read_untagged A a (field_at c.columns Old) (ap (λ (k : ℕ). time_in 0 (field_at k Old)) (eqb-true c.columns c.start g) ∙ p))
        go false f false g = refl

    -- what is said of the line
    text_says_lem : (t : List ℕ) (m : List ℕ) → text_says c n m (w ++ t) ≡ caption_says c (suc n) m w t
    unfolding text_says
    text_says_lem t m =
        ap (λ (x : Bool). cond x (says (in_section (equals events_name (inside (trim (w ++ t)))) c) (stays m)) (cond c.events (word_says c n m (w ++ t)) (says c (stays m)))) (word.no_name t)
        ∙ ap (λ (x : Bool). cond x (word_says c n m (w ++ t)) (says c (stays m))) ev ∙ word.says_caption c n m t

    written_back : line_says c n (render (line_frame c w Old (terminator_of l)) (time_text 0 46 s) (time_text 0 46 e))
        ≡ says c (cue (with_times (line_cue c (suc n) w Old (terminator_of l) A 46 B 46) s e))
    unfolding line_says
    written_back =
        ap (line_says c n) (frame_is w (terminator_of l) (time_text 0 46 s) (time_text 0 46 e) (field_pieces c.start c.«end» 1 Old))
        ∙ ap (text_says c n Line) (text_again (w ++ Rest) (terminator_of l) ended)
        ∙ text_says_lem Rest Line
        ∙ caption_times c (suc n) Line w Rest hs he (omega (arith, ap length fields_are, new_length c.start c.«end» (time_text 0 46 s) (time_text 0 46 e) 1 Old))
        ∙ ap (λ (X : Option Stamp). times_say c (suc n) w (fields c.columns Rest) (terminator_of Line) X (time_in 0 (field_at c.«end» (fields c.columns Rest)))) start_back
        ∙ ap (times_say c (suc n) w (fields c.columns Rest) (terminator_of Line) (stamp s 46)) end_back
        ∙ ap (λ (fs : List (List ℕ)). says c (cue (line_cue c (suc n) w fs (terminator_of Line) s 46 e 46))) fields_are
        ∙ ap (λ (x : List ℕ). says c (cue (line_cue c (suc n) w New x s 46 e 46))) (terminator_again (w ++ Rest) (terminator_of l) ended)
        ∙ same
      where
        same : says c (cue (line_cue c (suc n) w New (terminator_of l) s 46 e 46)) ≡ says c (cue (with_times (line_cue c (suc n) w Old (terminator_of l) A 46 B 46) s e))
        same = λ i. says c (cue (record {
          line = suc n;
          start = s;
          start_mark = 46;
          stop = e;
          stop_mark = 46;
          tagged = tag_back i;
          stamped = false;
          frame = bytes w ∷ (new_pieces c.start c.«end» (time_text 0 46 s) (time_text 0 46 e) 1 Old i ++ (bytes (terminator_of l) ∷ []));
        }))

-- ---- by what a line says
abbrev Back : Columns → (n : ℕ) → LineSays → Type 0
Back c n (faulty f) = Unit {0}
Back c n (says d (stays l)) = Unit {0}
Back c n (says d (passes r k l)) = Unit {0}
Back c n (says d (cue q)) =
    Apart c → (s e : ℕ) → s < 36000000 * units_of 0 → e < 36000000 * units_of 0
    → line_says c n (render q.frame (time_text 0 q.start_mark s) (time_text 0 q.stop_mark e)) ≡ says d (cue (with_times q s e))

caption_back : (c : Columns) (n : ℕ) (l w r : List ℕ) → Word w → c.events ≡ true → text_of l ≡ w ++ r → Back c n (caption_says c (suc n) l w r)
unfolding caption_says mark_in mark_of
caption_back c n l w r word ev et =
    go (eqb c.start 0) refl (eqb c.«end» 0) refl (ltb (length (fields c.columns r)) c.columns) refl
    (time_in 0 (field_at c.start (fields c.columns r))) refl (time_in 0 (field_at c.«end» (fields c.columns r))) refl
  where
    go : (x : Bool) → eqb c.start 0 ≡ x → (y : Bool) → eqb c.«end» 0 ≡ y → (z : Bool) → ltb (length (fields c.columns r)) c.columns ≡ z
        → (X : Option Stamp) → time_in 0 (field_at c.start (fields c.columns r)) ≡ X → (Y : Option Stamp) → time_in 0 (field_at c.«end» (fields c.columns r)) ≡ Y
        → Back c n
        (cond x (says c (passes unplaced (suc n) l))
        (cond y (says c (passes unplaced (suc n) l))
        (cond z (says c (passes short (suc n) l))
        (times_say c (suc n) w (fields c.columns r) (terminator_of l) X Y))))
    go true a y b z d X e Y f = tt
    go false a true b z d X e Y f = tt
    go false a false b true d X e Y f = tt
    go false a false b false d None e Y f = tt
    go false a false b false d (Some S) e None f = tt
    go false a false b false d (Some S) e (Some E) f =
        let ei : 46 ≡ S.mark = sym (time_mark_lem 0 S.units S.mark (field_at c.start (fields c.columns r)) e) in
        let ej : 46 ≡ E.mark = sym (time_mark_lem 0 E.units E.mark (field_at c.«end» (fields c.columns r)) f) in
        subst (λ (k : ℕ). Back c n (says c (cue (line_cue c (suc n) w (fields c.columns r) (terminator_of l) S.units k E.units E.mark)))) ei
        (subst (λ (k : ℕ). Back c n (says c (cue (line_cue c (suc n) w (fields c.columns r) (terminator_of l) S.units 46 E.units k)))) ej
        (λ apart s u. written_back c n l w r word ev et (eqb-false c.start 0 a) (eqb-false c.«end» 0 b) (ltb-false (length (fields c.columns r)) c.columns d) S.units S.mark E.units E.mark e f (λ k. eqb-false c.start 0 a (apart k)) s u))

word_back : (c : Columns) (n : ℕ) (l t : List ℕ) → c.events ≡ true → text_of l ≡ t → Back c n (word_says c n l t)
unfolding word_says
word_back c n l t ev et = go (starts format_word t) (starts dialogue_word t) refl (starts comment_word t) refl
  where
    go : (x y : Bool) → starts dialogue_word t ≡ y → (z : Bool) → starts comment_word t ≡ z
        → Back c n
        (cond x (says (columns_in (drop 7 t)) (stays l))
        (cond y (caption_says c (suc n) l dialogue_word (drop 9 t))
        (cond z (caption_says c (suc n) l comment_word (drop 8 t))
        (says c (stays l)))))
    go true y p z q = tt
    go false true p z q = caption_back c n l dialogue_word (drop 9 t) dialogue ev (et ∙ starts_cut dialogue_word t p)
    go false false p true q = caption_back c n l comment_word (drop 8 t) comment ev (et ∙ starts_cut comment_word t q)
    go false false p false q = tt

says_back : (c : Columns) (n : ℕ) (l : List ℕ) → Back c n (line_says c n l)
unfolding line_says text_says
says_back c n l = go (bracketed (trim (text_of l))) c.events refl
  where
    go : (x y : Bool) → c.events ≡ y → Back c n (cond x (says (in_section (equals events_name (inside (trim (text_of l)))) c) (stays l)) (cond y (word_says c n l (text_of l)) (says c (stays l))))
    go true y p = tt
    go false true p = word_back c n l (text_of l) p refl
    go false false p = tt

-- the frame of a line's cue with new times, read again: the same cue with these times. Start and End are two columns: a `Format:` line sets
-- such columns (`format_apart`), and each line leaves such (`line_apart`).
pub line_back : (c : Columns) (n : ℕ) (l : List ℕ) (d : Columns) (q : Cue) → line_says c n l ≡ says d (cue q) → Apart c
    → (s e : ℕ) → s < 36000000 * units_of 0 → e < 36000000 * units_of 0
    → line_says c n (render q.frame (time_text 0 q.start_mark s) (time_text 0 q.stop_mark e)) ≡ says d (cue (with_times q s e))
line_back c n l d q p = subst (Back c n) p (says_back c n l)

-- ---- the columns after a line
word_apart : (c : Columns) (n : ℕ) (l t : List ℕ) → Apart c → Apart (columns_after c (word_says c n l t))
unfolding word_says
word_apart c n l t h = go (starts format_word t) (starts dialogue_word t) (starts comment_word t)
  where
    go : (x y z : Bool)
        → Apart
        (columns_after c
        (cond x (says (columns_in (drop 7 t)) (stays l))
        (cond y (caption_says c (suc n) l dialogue_word (drop 9 t))
        (cond z (caption_says c (suc n) l comment_word (drop 8 t))
        (says c (stays l))))))
    go true y z = format_apart (drop 7 t)
    go false true z = subst Apart (sym (caption_columns c (suc n) l dialogue_word (drop 9 t))) h
    go false false true = subst Apart (sym (caption_columns c (suc n) l comment_word (drop 8 t))) h
    go false false false = h

pub line_apart : (c : Columns) (n : ℕ) (l : List ℕ) → Apart c → Apart (columns_after c (line_says c n l))
unfolding line_says text_says
line_apart c n l h = go (bracketed (trim (text_of l))) c.events
  where
    go : (x y : Bool) → Apart (columns_after c (cond x (says (in_section (equals events_name (inside (trim (text_of l)))) c) (stays l)) (cond y (word_says c n l (text_of l)) (says c (stays l)))))
    go true y = h
    go false true = word_apart c n l (text_of l) h
    go false false = h
