-- ASS: a fault is told on the line at which the walk stops.
use mathlib.Core.Path.{◌≡◌, refl, sym, ap, ◌∙◌}
use mathlib.Core.Bool.{Bool, true, false, cond}
use mathlib.Core.List.{List, [], ◌∷◌}
use Prim.Native.Nat.{ℕ, zero, suc, ◌+◌}
use native.Mathlib.Omega.{arith}
use lib.Dec.{eqb, ltb, leb}
use lib.ListN.{length, drop}
use Rattle.std.specs.Prelude.{Option, Some, None}
use Rattle.spec_base.specs.base.Limits.{most_line}
use Rattle.spec_base.specs.base.Refusal.{◌or_else◌, fault_unless}
use Rattle.spec_text.specs.utf8.Utf8.{utf8}
use Rattle.spec_text.specs.whitespace.White.{trim}
use Rattle.spec_text.specs.pattern.Find.{starts, equals}
use Rattle.spec_text.specs.text.Line.{text_of, terminator_of}
use Rattle.spec_time.specs.declared.caption_stamp.Stamp.{Stamp}
use Rattle.spec_time.specs.caption_stamp.Read.{time_in}
use Rattle.spec_caption.specs.caption_fate.Says.{unplaced, short, stays, passes, cue, fault_number}
use Rattle.spec_ass.specs.declared.ass_columns.Columns.{Columns}
use Rattle.spec_ass.specs.ass_columns.Columns.{columns_in, fields, field_at}
use Rattle.spec_ass.specs.ass_columns.Section.{events_name, bracketed, inside, in_section}
use Rattle.spec_ass.specs.ass_line.Line.{format_word, dialogue_word, comment_word, LineSays, faulty, says, times_say, caption_says, word_says, text_says, line_says}
use Rattle.promise.specs.Plain.{line_fault}
use Rattle.spec_rows.specs.declared.caption_rows.Said.{Said}
use Rattle.spec_rows.specs.caption_rows.Said.{at_fault, line_said}
use Rattle.spec_rows.specs.caption_rows.Walk.{Walk, ass_turn, ass_next, ass_walk}
use Rattle.spec_rows.proofs.cueplaces.Stops.{Stop, stop_now, stop_later, on_fault, on_line, at_fault_lem, at_line, zero_suc}
use Rattle.spec_rows.proofs.caption_rows.WalkLaws.{ass_clause, ass_none}

turn_line : (x : ℕ) (c : Columns) (n i : ℕ) (l : List ℕ) (k : ℕ) → (ass_turn x c n i l).number ≡ suc k → (ass_turn x c n i l).line ≡ suc n
unfolding ass_turn
turn_line x c n i l k e = go (eqb (line_fault x l) 0) (line_says c n l) e
  where
    go : (b : Bool) (y : LineSays) → (cond b (line_said (suc n) i (length (text_of l)) y) (at_fault (line_fault x l) (suc n))).number ≡ suc k
        → (cond b (line_said (suc n) i (length (text_of l)) y) (at_fault (line_fault x l) (suc n))).line ≡ suc n
    go true (faulty f) e = refl
    go true (says d (stays z)) e = zero_suc k e
    go true (says d (passes r m z)) e = zero_suc k e
    go true (says d (cue q)) e = zero_suc k e
    go false y e = refl

-- ---- a line has no fault but 19, 20 and 22
abbrev TimeOnly : LineSays → Type 0
TimeOnly (faulty f) = fault_number f ≡ 22
TimeOnly (says d p) = Unit {0}

times_only : (c : Columns) (n : ℕ) (w : List ℕ) (fs : List (List ℕ)) (e : List ℕ) (S E : Option Stamp) → TimeOnly (times_say c n w fs e S E)
times_only c n w fs e None E = refl
times_only c n w fs e (Some S) None = refl
times_only c n w fs e (Some S) (Some E) = tt

caption_only : (c : Columns) (n : ℕ) (l w r : List ℕ) → TimeOnly (caption_says c n l w r)
unfolding caption_says
caption_only c n l w r = go (eqb c.start 0) (eqb c.«end» 0) (ltb (length (fields c.columns r)) c.columns)
  where
    go : (x y z : Bool)
        → TimeOnly (cond x (says c (passes unplaced n l)) (cond y (says c (passes unplaced n l)) (cond z (says c (passes short n l)) (times_say c n w (fields c.columns r) (terminator_of l) (time_in 0 (field_at c.start (fields c.columns r))) (time_in 0 (field_at c.«end» (fields c.columns r)))))))
    go true y z = tt
    go false true z = tt
    go false false true = tt
    go false false false = times_only c n w (fields c.columns r) (terminator_of l) (time_in 0 (field_at c.start (fields c.columns r))) (time_in 0 (field_at c.«end» (fields c.columns r)))

word_only : (c : Columns) (n : ℕ) (l t : List ℕ) → TimeOnly (word_says c n l t)
unfolding word_says
word_only c n l t = go (starts format_word t) (starts dialogue_word t) (starts comment_word t)
  where
    go : (x y z : Bool)
        → TimeOnly (cond x (says (columns_in (drop 7 t)) (stays l)) (cond y (caption_says c (suc n) l dialogue_word (drop 9 t)) (cond z (caption_says c (suc n) l comment_word (drop 8 t)) (says c (stays l)))))
    go true y z = tt
    go false true z = caption_only c (suc n) l dialogue_word (drop 9 t)
    go false false true = caption_only c (suc n) l comment_word (drop 8 t)
    go false false false = tt

line_only : (c : Columns) (n : ℕ) (l : List ℕ) → TimeOnly (line_says c n l)
unfolding line_says text_says
line_only c n l = go (bracketed (trim (text_of l))) c.events
  where
    go : (x y : Bool) → TimeOnly (cond x (says (in_section (equals events_name (inside (trim (text_of l)))) c) (stays l)) (cond y (word_says c n l (text_of l)) (says c (stays l))))
    go true y = tt
    go false true = word_only c n l (text_of l)
    go false false = tt

checks_only : (x : ℕ) (l : List ℕ) → line_fault x l ≡ 21 → ⊥
unfolding line_fault fault_unless ◌or_else◌
checks_only x l e = go (leb (x + length l) most_line) (utf8 l) e
  where
    go : (a b : Bool) → (fault_unless a 19 or_else fault_unless b 20) ≡ 21 → ⊥
    go false b e = omega arith
    go true false e = omega arith
    go true true e = omega arith

turn_only : (x : ℕ) (c : Columns) (n i : ℕ) (l : List ℕ) → (ass_turn x c n i l).number ≡ 21 → ⊥
unfolding ass_turn
turn_only x c n i l e = go (eqb (line_fault x l) 0) (line_says c n l) (line_only c n l) e
  where
    go : (b : Bool) (y : LineSays) → TimeOnly y → (cond b (line_said (suc n) i (length (text_of l)) y) (at_fault (line_fault x l) (suc n))).number ≡ 21 → ⊥
    go true (faulty f) h e = omega (arith, h, e)
    go true (says d (stays z)) h e = omega arith
    go true (says d (passes r m z)) h e = omega arith
    go true (says d (cue q)) h e = omega arith
    go false y h e = checks_only x l e

module _ (x : ℕ) (c : Columns) (n i : ℕ) (l : List ℕ) where
  abbrev S : Said
  S = ass_turn x c n i l

  abbrev W : List (List ℕ) → Walk
  W ks = ass_walk 0 (ass_next x c n l) (suc n) (i + length l) ks

  fault_on : (ks : List (List ℕ)) → S.number ≡ 0 → (ass_walk x c n i (l ∷ ks)).fault ≡ (W ks).fault
  fault_on ks q = ap (λ (w : Walk). w.fault) (ass_clause x c n i l ks) ∙ on_fault S (W ks) q

  line_on : (ks : List (List ℕ)) → S.number ≡ 0 → (ass_walk x c n i (l ∷ ks)).line ≡ (W ks).line
  line_on ks q = ap (λ (w : Walk). w.line) (ass_clause x c n i l ks) ∙ on_line S (W ks) q

  fault_at : (ks : List (List ℕ)) (h : ℕ) → S.number ≡ suc h → (ass_walk x c n i (l ∷ ks)).fault ≡ suc h
  fault_at ks h q = ap (λ (w : Walk). w.fault) (ass_clause x c n i l ks) ∙ at_fault_lem S (W ks) h q

  line_at : (ks : List (List ℕ)) (h : ℕ) → S.number ≡ suc h → (ass_walk x c n i (l ∷ ks)).line ≡ suc n
  line_at ks h q = ap (λ (w : Walk). w.line) (ass_clause x c n i l ks) ∙ at_line S (W ks) h q ∙ turn_line x c n i l h q

-- no fault, no line
pub ass_quiet : (ls : List (List ℕ)) (x : ℕ) (c : Columns) (n i : ℕ) → (ass_walk x c n i ls).fault ≡ 0 → (ass_walk x c n i ls).line ≡ 0
ass_quiet [] x c n i e = ap (λ (w : Walk). w.line) (ass_none x c n i)
ass_quiet (l ∷ ls) x c n i e = go (ass_turn x c n i l).number refl (ass_quiet ls 0 (ass_next x c n l) (suc n) (i + length l))
  where
    go : (t : ℕ) → (ass_turn x c n i l).number ≡ t
        → ((ass_walk 0 (ass_next x c n l) (suc n) (i + length l) ls).fault ≡ 0 → (ass_walk 0 (ass_next x c n l) (suc n) (i + length l) ls).line ≡ 0)
        → (ass_walk x c n i (l ∷ ls)).line ≡ 0
    go zero q ih = line_on x c n i l ls q ∙ ih (sym (fault_on x c n i l ls q) ∙ e)
    go (suc h) q ih = zero_suc h (sym e ∙ fault_at x c n i l ls h q)

pub ass_stop : (ls : List (List ℕ)) (x : ℕ) (c : Columns) (n i k : ℕ) → (ass_walk x c n i ls).fault ≡ suc k
    → Stop (ass_walk x c n i) ls (suc k) (λ p. (ass_walk x c n i ls).line ≡ suc n + p)
ass_stop [] x c n i k e = zero_suc k (sym (ap (λ (w : Walk). w.fault) (ass_none x c n i)) ∙ e)
ass_stop (l ∷ ls) x c n i k e = go (ass_turn x c n i l).number refl (ass_stop ls 0 (ass_next x c n l) (suc n) (i + length l) k)
  where
    none : (ass_walk x c n i []).fault ≡ suc k → ⊥
    none q = zero_suc k (sym (ap (λ (w : Walk). w.fault) (ass_none x c n i)) ∙ q)

    further : (p a : ℕ) → (ass_walk x c n i (l ∷ ls)).line ≡ a → a ≡ suc (suc n) + p → (ass_walk x c n i (l ∷ ls)).line ≡ suc n + suc p
    further p a u v = u ∙ v ∙ (let z : suc (suc n) + p ≡ suc n + suc p = omega arith in z)

    go : (t : ℕ) → (ass_turn x c n i l).number ≡ t
        → ((ass_walk 0 (ass_next x c n l) (suc n) (i + length l) ls).fault ≡ suc k
        → Stop (ass_walk 0 (ass_next x c n l) (suc n) (i + length l)) ls (suc k) (λ p. (ass_walk 0 (ass_next x c n l) (suc n) (i + length l) ls).line ≡ suc (suc n) + p))
        → Stop (ass_walk x c n i) (l ∷ ls) (suc k) (λ p. (ass_walk x c n i (l ∷ ls)).line ≡ suc n + p)
    go zero q ih =
        stop_later (ass_walk x c n i) (ass_walk 0 (ass_next x c n l) (suc n) (i + length l)) l ls (suc k) (λ p. (ass_walk x c n i (l ∷ ls)).line ≡ suc n + p)
        (λ p. (ass_walk 0 (ass_next x c n l) (suc n) (i + length l) ls).line ≡ suc (suc n) + p) (λ ks. fault_on x c n i l ks q) none
        (λ p v. further p (ass_walk 0 (ass_next x c n l) (suc n) (i + length l) ls).line (line_on x c n i l ls q) v) (ih (sym (fault_on x c n i l ls q) ∙ e))
    go (suc h) q ih =
        stop_now (ass_walk x c n i) l ls (suc k) (λ p. (ass_walk x c n i (l ∷ ls)).line ≡ suc n + p) none (fault_at x c n i l [] h q ∙ sym (fault_at x c n i l ls h q) ∙ e)
        (line_at x c n i l ls h q ∙ (let z : suc n ≡ suc n + 0 = omega arith in z))

-- there is no block in ASS
pub ass_short : (ls : List (List ℕ)) (x : ℕ) (c : Columns) (n i : ℕ) → (ass_walk x c n i ls).fault ≡ 21 → ⊥
ass_short [] x c n i e = zero_suc 20 (sym (ap (λ (w : Walk). w.fault) (ass_none x c n i)) ∙ e)
ass_short (l ∷ ls) x c n i e = go (ass_turn x c n i l).number refl (ass_short ls 0 (ass_next x c n l) (suc n) (i + length l))
  where
    go : (t : ℕ) → (ass_turn x c n i l).number ≡ t → ((ass_walk 0 (ass_next x c n l) (suc n) (i + length l) ls).fault ≡ 21 → ⊥) → ⊥
    go zero q ih = ih (sym (fault_on x c n i l ls q) ∙ e)
    go (suc h) q ih = turn_only x c n i l (q ∙ sym (fault_at x c n i l ls h q) ∙ e)
