-- ASS: the walk's fault and rows are the plain reader's.
use mathlib.Core.Path.{◌≡◌, refl, sym, ap, ap₂, subst, ◌∙◌}
use mathlib.Core.Bool.{Bool, true, false, cond}
use mathlib.Core.List.{List, [], ◌∷◌, ◌++◌, append_assoc, append-nil}
use Prim.Native.Nat.{ℕ, zero, suc, ◌+◌, ◌-◌}
use native.Mathlib.Omega.{arith}
use borrow.Author.Tests.{ne_eqb}
use lib.Dec.{eqb, ltb}
use lib.ListN.{length, drop, length-append}
use Rattle.std.specs.Prelude.{Option, Some, None}
use Rattle.spec_text.specs.whitespace.White.{trim}
use Rattle.spec_text.specs.pattern.Find.{starts, equals}
use Rattle.spec_text.specs.text.Line.{lines_of, concat, line_count, text_of, terminator_of}
use Rattle.spec_time.specs.declared.caption_stamp.Stamp.{Stamp}
use Rattle.spec_time.specs.caption_stamp.Read.{time_in}
use Rattle.spec_caption.specs.caption_fate.Says.{unplaced, short, reason_number, Part, stays, passes, cue, Fault, long_line, not_utf8, long_block, bad_time, bad_header, fault_number}
use Rattle.spec_caption.specs.caption_fate.Bom.{behind_bom}
use Rattle.spec_ass.specs.declared.ass_columns.Columns.{Columns}
use Rattle.spec_ass.specs.ass_columns.Columns.{columns_in, fields, field_at}
use Rattle.spec_ass.specs.ass_columns.Section.{events_name, bracketed, inside, in_section}
use Rattle.spec_ass.specs.ass_line.Line.{format_word, dialogue_word, comment_word, LineSays, faulty, says, times_say, caption_says, word_says, text_says, line_says}
use Rattle.spec_ass.specs.ass_line.AssThrough.{columns_after}
use Rattle.spec_machine.specs.session_counts.Reader.{Reading, fails, ◌⊕◌}
use Rattle.promise.specs.Plain.{bom_length, line_fault, unless_fault, line_then, ass_read}
use Rattle.promise.proofs.LinesCut.{many_append, concat_append}
use Rattle.spec_rows.specs.declared.caption_rows.Said.{Said}
use Rattle.spec_rows.specs.caption_rows.Said.{words_length, at_fault, part_said, line_said}
use Rattle.spec_rows.specs.caption_rows.Walk.{Walk, stopped, rows_said, onward, ◌then◌, ass_turn, ass_next, ass_walk}
use Rattle.spec_rows.specs.caption_rows.Cues.{lines_before, line_of, line_at, words_at, caption_row, rows_of}
use Rattle.spec_rows.proofs.caption_rows.WalkLaws.{ass_clause}

-- ---- a walk and a reading agree
pub record Agree (kind : ℕ) (text : List ℕ) (w : Walk) (r : Reading) : Type 0 where
  pub fault : w.fault ≡ r.fault
  pub rows : w.rows ≡ rows_of kind text r.parts

pub agree_fails : (kind : ℕ) (text : List ℕ) (k n : ℕ) → Agree kind text (stopped k n) (fails k)
agree_fails kind text k n = record { fault = refl; rows = refl }

-- one part more: its row is what was said
pub agree_part : (kind : ℕ) (text : List ℕ) (s : Said) (p : Part) (w : Walk) (r : Reading) → s.number ≡ 0 → rows_said s ≡ caption_row kind text p → Agree kind text w r → Agree kind text (s then w) ((p ∷ []) ⊕ r)
agree_part kind text s p w r z e a =
    let o : (s then w) ≡ record { fault = w.fault; line = w.line; rows = rows_said s ++ w.rows } = ap (λ (m : ℕ). onward m s w) z in
    record {
      fault = ap (λ (x : Walk). x.fault) o ∙ a.fault;
      rows = ap (λ (x : Walk). x.rows) o ∙ ap₂ (λ (x y : List ℕ). x ++ y) e a.rows;
    }

pub agree_fault : (kind : ℕ) (text : List ℕ) (f : Fault) (n : ℕ) (w : Walk) → Agree kind text (at_fault (fault_number f) n then w) (fails (fault_number f))
agree_fault kind text long_line n w = agree_fails kind text 19 n
agree_fault kind text not_utf8 n w = agree_fails kind text 20 n
agree_fault kind text long_block n w = agree_fails kind text 21 n
agree_fault kind text bad_time n w = agree_fails kind text 22 n
agree_fault kind text bad_header n w = agree_fails kind text 24 n

-- ---- lines by their numbers
pub before_lines : (done ls : List (List ℕ)) → lines_before (suc (line_count done)) (done ++ ls) ≡ done
before_lines [] ls = refl
before_lines (d ∷ done) ls = ap (λ (x : List (List ℕ)). d ∷ x) (before_lines done ls)

pub line_of_lem : (done : List (List ℕ)) (l : List ℕ) (ls : List (List ℕ)) → line_of (suc (line_count done)) (done ++ (l ∷ ls)) ≡ l
line_of_lem [] l ls = refl
line_of_lem (d ∷ done) l ls = line_of_lem done l ls

-- ---- what an ASS line says is on its line
abbrev PartOn : (n : ℕ) → (l : List ℕ) → Part → Type 0
PartOn n l (stays x) = Unit {0}
PartOn n l (passes r m x) = (m ≡ n) × (x ≡ l)
PartOn n l (cue q) = q.line ≡ n

abbrev SaysOn : (n : ℕ) → (l : List ℕ) → LineSays → Type 0
SaysOn n l (faulty f) = Unit {0}
SaysOn n l (says d p) = PartOn n l p

times_on : (c : Columns) (n : ℕ) (l w : List ℕ) (fs : List (List ℕ)) (e : List ℕ) (S E : Option Stamp) → SaysOn n l (times_say c n w fs e S E)
times_on c n l w fs e None E = tt
times_on c n l w fs e (Some S) None = tt
times_on c n l w fs e (Some S) (Some E) = refl

caption_on : (c : Columns) (n : ℕ) (l w r : List ℕ) → SaysOn n l (caption_says c n l w r)
unfolding caption_says
caption_on c n l w r =
    go (eqb c.start 0) (eqb c.«end» 0) (ltb (length (fields c.columns r)) c.columns)
  where
    go : (x y z : Bool)
        → SaysOn n l (cond x (says c (passes unplaced n l)) (cond y (says c (passes unplaced n l)) (cond z (says c (passes short n l)) (times_say c n w (fields c.columns r) (terminator_of l) (time_in 0 (field_at c.start (fields c.columns r))) (time_in 0 (field_at c.«end» (fields c.columns r)))))))
    go true y z = (refl, refl)
    go false true z = (refl, refl)
    go false false true = (refl, refl)
    go false false false = times_on c n l w (fields c.columns r) (terminator_of l) (time_in 0 (field_at c.start (fields c.columns r))) (time_in 0 (field_at c.«end» (fields c.columns r)))

word_on : (c : Columns) (n : ℕ) (l t : List ℕ) → SaysOn (suc n) l (word_says c n l t)
unfolding word_says
word_on c n l t = go (starts format_word t) (starts dialogue_word t) (starts comment_word t)
  where
    go : (x y z : Bool)
        → SaysOn (suc n) l (cond x (says (columns_in (drop 7 t)) (stays l)) (cond y (caption_says c (suc n) l dialogue_word (drop 9 t)) (cond z (caption_says c (suc n) l comment_word (drop 8 t)) (says c (stays l)))))
    go true y z = tt
    go false true z = caption_on c (suc n) l dialogue_word (drop 9 t)
    go false false true = caption_on c (suc n) l comment_word (drop 8 t)
    go false false false = tt

line_on : (c : Columns) (n : ℕ) (l : List ℕ) → SaysOn (suc n) l (line_says c n l)
unfolding line_says text_says
line_on c n l = go (bracketed (trim (text_of l))) c.events
  where
    go : (x y : Bool) → SaysOn (suc n) l (cond x (says (in_section (equals events_name (inside (trim (text_of l)))) c) (stays l)) (cond y (word_says c n l (text_of l)) (says c (stays l))))
    go true y = tt
    go false true = word_on c n l (text_of l)
    go false false = tt

-- ---- its row: the line begins at byte i of the text
module _ (text : List ℕ) (done : List (List ℕ)) (l : List ℕ) (ls : List (List ℕ)) (e : lines_of (behind_bom text) ≡ done ++ (l ∷ ls)) where
  at_is : line_at text (suc (line_count done)) ≡ bom_length text + length (concat done)
  at_is = ap (λ (x : List (List ℕ)). bom_length text + length (concat (lines_before (suc (line_count done)) x))) e ∙ ap (λ (x : List (List ℕ)). bom_length text + length (concat x)) (before_lines done (l ∷ ls))

  this_is : line_of (suc (line_count done)) (lines_of (behind_bom text)) ≡ l
  this_is = ap (line_of (suc (line_count done))) e ∙ line_of_lem done l ls

  part_row : (i : ℕ) (p : Part) → i ≡ bom_length text + length (concat done) → PartOn (suc (line_count done)) l p
      → ((part_said 0 i (length (text_of l)) p).number ≡ 0) × (rows_said (part_said 0 i (length (text_of l)) p) ≡ caption_row 0 text p)
  unfolding words_at
  part_row i (stays x) ei h = (refl, refl)
  part_row i (passes r m x) ei h =
      let w : i ≡ line_at text m = ei ∙ sym at_is ∙ ap (line_at text) (sym h.0) in
      (refl, ap₂ (λ (a : ℕ) (b : List ℕ). m ∷ reason_number r ∷ 0 ∷ 0 ∷ a ∷ length (text_of b) ∷ []) w (sym h.1))
  part_row i (cue q) ei h =
      let w : i ≡ line_at text q.line = ei ∙ sym at_is ∙ ap (line_at text) (sym h) in
      let v : l ≡ line_of q.line (lines_of (behind_bom text)) = sym this_is ∙ ap (λ (k : ℕ). line_of k (lines_of (behind_bom text))) (sym h) in
      (refl, ap₂ (λ (a : ℕ) (b : List ℕ). q.line ∷ 0 ∷ q.start ∷ q.stop ∷ (a + (length (text_of b) - words_length 0 q)) ∷ words_length 0 q ∷ []) w v)

read_clause : (z : Reading) (x : ℕ) (c : Columns) (n : ℕ) (l : List ℕ) (ls : List (List ℕ)) → ass_read z x c n (l ∷ ls) ≡ unless_fault (line_fault x l) (line_then (line_says c n l) (λ d. ass_read z 0 d (suc n) ls))
unfolding ass_read
read_clause z x c n l ls = refl

none_none : (text : List ℕ) (x : ℕ) (c : Columns) (n i : ℕ) → Agree 0 text (ass_walk x c n i []) (ass_read (fails 0) x c n [])
unfolding ass_walk ass_read
none_none text x c n i = agree_fails 0 text 0 0

pub turn_bad : (x : ℕ) (c : Columns) (n i : ℕ) (l : List ℕ) (k : ℕ) → line_fault x l ≡ suc k → ass_turn x c n i l ≡ at_fault (suc k) (suc n)
unfolding ass_turn
turn_bad x c n i l k e = rw (e, ne_eqb (suc k) 0 (λ q. omega arith))

pub turn_good : (x : ℕ) (c : Columns) (n i : ℕ) (l : List ℕ) → line_fault x l ≡ 0 → ass_turn x c n i l ≡ line_said (suc n) i (length (text_of l)) (line_says c n l)
unfolding ass_turn
turn_good x c n i l e = rw e

pub next_good : (x : ℕ) (c : Columns) (n : ℕ) (l : List ℕ) → line_fault x l ≡ 0 → ass_next x c n l ≡ columns_after c (line_says c n l)
unfolding ass_next
next_good x c n l e = rw e

pub ass_agree : (text : List ℕ) (ls done : List (List ℕ)) (x : ℕ) (c : Columns) (n i : ℕ) → lines_of (behind_bom text) ≡ done ++ ls → n ≡ line_count done → i ≡ bom_length text + length (concat done)
    → Agree 0 text (ass_walk x c n i ls) (ass_read (fails 0) x c n ls)
ass_agree text [] done x c n i e en ei = none_none text x c n i
ass_agree text (l ∷ ls) done x c n i e en ei =
    subst (λ (r : Reading). Agree 0 text (ass_walk x c n i (l ∷ ls)) r) (sym (read_clause (fails 0) x c n l ls))
    (subst (λ (w : Walk). Agree 0 text w (unless_fault (line_fault x l) (line_then (line_says c n l) (λ d. ass_read (fails 0) 0 d (suc n) ls)))) (sym (ass_clause x c n i l ls))
    (go (line_fault x l) refl (λ d. ass_agree text ls (done ++ (l ∷ [])) 0 d (suc n) (i + length l) more counted placed)))
  where
    more : lines_of (behind_bom text) ≡ (done ++ (l ∷ [])) ++ ls
    more = e ∙ sym (append_assoc done (l ∷ []) ls)

    counted : suc n ≡ line_count (done ++ (l ∷ []))
    counted = let z = many_append done (l ∷ []) in omega (arith, z, en)

    placed : i + length l ≡ bom_length text + length (concat (done ++ (l ∷ [])))
    placed =
        let z : length (concat (done ++ (l ∷ []))) ≡ length (concat done) + length (l ++ []) = ap length (concat_append done (l ∷ [])) ∙ length-append (concat done) (l ++ []) in
        let y : length (l ++ []) ≡ length l = ap length (append-nil l) in
        omega (arith, z, y, ei)

    say : (s : LineSays) → SaysOn (suc n) l s → ((d : Columns) → Agree 0 text (ass_walk 0 d (suc n) (i + length l) ls) (ass_read (fails 0) 0 d (suc n) ls))
        → Agree 0 text (line_said (suc n) i (length (text_of l)) s then ass_walk 0 (columns_after c s) (suc n) (i + length l) ls) (line_then s (λ d. ass_read (fails 0) 0 d (suc n) ls))
    say (faulty f) h ih = agree_fault 0 text f (suc n) (ass_walk 0 c (suc n) (i + length l) ls)
    say (says d p) h ih =
        let on : PartOn (suc (line_count done)) l p = subst (λ (k : ℕ). PartOn (suc k) l p) en h in
        let r = part_row text done l ls e i p ei on in
        agree_part 0 text (part_said 0 i (length (text_of l)) p) p (ass_walk 0 d (suc n) (i + length l) ls) (ass_read (fails 0) 0 d (suc n) ls) r.0 r.1 (ih d)

    go : (k : ℕ) → line_fault x l ≡ k → ((d : Columns) → Agree 0 text (ass_walk 0 d (suc n) (i + length l) ls) (ass_read (fails 0) 0 d (suc n) ls))
        → Agree 0 text (ass_turn x c n i l then ass_walk 0 (ass_next x c n l) (suc n) (i + length l) ls) (unless_fault k (line_then (line_says c n l) (λ d. ass_read (fails 0) 0 d (suc n) ls)))
    go (suc k) q ih =
        subst (λ (s : Said). Agree 0 text (s then ass_walk 0 (ass_next x c n l) (suc n) (i + length l) ls) (fails (suc k))) (sym (turn_bad x c n i l k q)) (agree_fails 0 text (suc k) (suc n))
    go zero q ih =
        subst (λ (s : Said). Agree 0 text (s then ass_walk 0 (ass_next x c n l) (suc n) (i + length l) ls) (line_then (line_says c n l) (λ d. ass_read (fails 0) 0 d (suc n) ls))) (sym (turn_good x c n i l q))
        (subst (λ (d : Columns). Agree 0 text (line_said (suc n) i (length (text_of l)) (line_says c n l) then ass_walk 0 d (suc n) (i + length l) ls) (line_then (line_says c n l) (λ d. ass_read (fails 0) 0 d (suc n) ls))) (sym (next_good x c n l q))
        (say (line_says c n l) (line_on c n l) ih))
