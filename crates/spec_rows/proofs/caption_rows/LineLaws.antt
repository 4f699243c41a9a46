-- Laws of what an ASS line gives.
use mathlib.Core.Path.{◌≡◌, refl, sym, ap, ap₂, ◌∙◌}
use mathlib.Core.Bool.{Bool, true, false, cond}
use mathlib.Core.List.{List, [], ◌∷◌, ◌++◌}
use Prim.Native.Nat.{ℕ, suc, ◌+◌, ◌-◌, ◌≤◌, ◌<◌, ◌^◌}
use native.Mathlib.Omega.{arith}
use native.Mathlib.Numerals.{add-one}
use borrow.Author.Tests.{eq-eqb, ne_eqb, leb-true, leb-false, ltb-false}
use lib.Dec.{eqb, ltb, leb}
use lib.ListN.{length, drop}
use Rattle.std.specs.Prelude.{Option, Some, None}
use Rattle.spec_text.specs.whitespace.White.{trim}
use Rattle.spec_text.specs.pattern.Find.{starts, equals}
use Rattle.spec_text.specs.text.Line.{text_of, terminator_of}
use Rattle.spec_time.specs.declared.caption_stamp.Stamp.{Stamp}
use Rattle.spec_time.specs.caption_stamp.Read.{time_in}
use Rattle.spec_caption.specs.caption_fate.Says.{bytes, start, stop, unplaced, short, stays, passes}
use Rattle.spec_ass.specs.declared.ass_columns.Columns.{Columns}
use Rattle.spec_ass.specs.ass_columns.Columns.{columns_in, fields, field_at}
use Rattle.spec_ass.specs.ass_columns.Section.{events_name, bracketed, inside, in_section}
use Rattle.spec_ass.proofs.ass_columns.FieldLaws.{fields_most}
use Rattle.spec_ass.specs.ass_write.Frame.{piece_at, field_pieces}
use Rattle.spec_ass.specs.ass_line.Line.{format_word, dialogue_word, comment_word, LineSays, says, line_cue, times_say, caption_says, word_says, text_says, line_says}
use Rattle.spec_ass.specs.ass_line.AssThrough.{columns_after}
use Rattle.spec_ass.proofs.ass_line.SayLaws.{caption_start, caption_end, caption_few, caption_times, caption_columns}
use Rattle.spec_rows.specs.declared.caption_rows.Said.{Said}
use Rattle.spec_rows.specs.caption_rows.Said.{piece_length, field_length, words_length, at_fault, caption_said, line_said, last_words}

-- ---- the words
pub words_end : (c : Columns) (fs : List (List ℕ)) → c.columns ≡ c.«end» → 0 ≡ last_words c fs
unfolding last_words
words_end c fs e = rw (eq-eqb c.columns c.«end» e)

pub words_start : (c : Columns) (fs : List (List ℕ)) → (c.columns ≡ c.«end» → ⊥) → c.columns ≡ c.start → 0 ≡ last_words c fs
unfolding last_words
words_start c fs n e = rw (ne_eqb c.columns c.«end» n, eq-eqb c.columns c.start e)

pub words_field : (c : Columns) (fs : List (List ℕ)) (f : List ℕ) → (c.columns ≡ c.«end» → ⊥) → (c.columns ≡ c.start → ⊥) → f ≡ field_at c.columns fs → length f ≡ last_words c fs
unfolding last_words
words_field c fs f n m e = rw (ne_eqb c.columns c.«end» n, ne_eqb c.columns c.start m, e)

-- the last piece of the fields
last_piece : (i j k : ℕ) (e f : List ℕ) (fs : List (List ℕ))
    → field_length (field_pieces i j k (f ∷ fs) ++ (bytes e ∷ [])) ≡ piece_length (piece_at i j (k + length fs) (field_at (suc (length fs)) (f ∷ fs)))
unfolding field_pieces field_at
last_piece i j k e f [] = let z : k ≡ k + 0 = omega arith in ap (λ (x : ℕ). piece_length (piece_at i j x f)) z
last_piece i j k e f (g ∷ []) =
    let z : suc k + 0 ≡ k + 1 = omega arith in last_piece i j (suc k) e g [] ∙ ap (λ (x : ℕ). piece_length (piece_at i j x g)) z
last_piece i j k e f (g ∷ h ∷ fs) =
    let z : suc k + suc (length fs) ≡ k + suc (suc (length fs)) = omega arith in
    last_piece i j (suc k) e g (h ∷ fs) ∙ ap (λ (x : ℕ). piece_length (piece_at i j x (field_at (suc (suc (length fs))) (g ∷ h ∷ fs)))) z

piece_long : (i j k : ℕ) (f : List ℕ) → piece_length (piece_at i j k f) ≡ cond (eqb k j) 0 (cond (eqb k i) 0 (length f))
unfolding piece_at
piece_long i j k f = go (eqb k j) (eqb k i)
  where
    go : (u v : Bool) → piece_length (cond u stop (cond v start (bytes f))) ≡ cond u 0 (cond v 0 (length f))
    go true v = refl
    go false true = refl
    go false false = refl

no_words : (u v : Bool) → ◌≡◌ {A = ℕ} (cond u 0 (cond v 0 0)) 0
no_words true v = refl
no_words false true = refl
no_words false false = refl

pub frame_words : (c : Columns) (n : ℕ) (w : List ℕ) (fs : List (List ℕ)) (e : List ℕ) (S a E b : ℕ) → length fs ≡ c.columns
    → last_words c fs ≡ words_length 0 (line_cue c n w fs e S a E b)
unfolding last_words words_length field_pieces field_at
frame_words c n w [] e S a E b q =
    ap (λ (k : ℕ). cond (eqb k c.«end») 0 (cond (eqb k c.start) 0 (length (field_at k [])))) (sym q)
    ∙ no_words (eqb 0 c.«end») (eqb 0 c.start)
frame_words c n w (f ∷ fs) e S a E b q =
    ap (λ (k : ℕ). cond (eqb k c.«end») 0 (cond (eqb k c.start) 0 (length (field_at k (f ∷ fs))))) (sym q)
    ∙ sym (piece_long c.start c.«end» (suc (length fs)) (field_at (suc (length fs)) (f ∷ fs)))
    ∙ ap (λ (k : ℕ). piece_length (piece_at c.start c.«end» k (field_at (suc (length fs)) (f ∷ fs)))) (let z : suc (length fs) ≡ 1 + length fs = omega arith in z)
    ∙ sym (last_piece c.start c.«end» 1 e f fs)

-- what is given does not depend on the word and the terminator
abbrev Given : Columns → (n i k : ℕ) → (w : List ℕ) → List (List ℕ) → (e : List ℕ) → Option Stamp → Option Stamp → Said
Given c n i k w fs e S E = line_said n i k (times_say c n w fs e S E)

given_same : (c : Columns) (n i k : ℕ) (w v : List ℕ) (fs : List (List ℕ)) (e d : List ℕ) (S E : Option Stamp) → length fs ≡ c.columns
    → Given c n i k w fs e S E ≡ Given c n i k v fs d S E
given_same c n i k w v fs e d None E q = refl
given_same c n i k w v fs e d (Some S) None q = refl
given_same c n i k w v fs e d (Some S) (Some E) q =
    ap (λ (m : ℕ). caption_said n 0 S.units E.units (i + (k - m)) m) (sym (frame_words c n w fs e S.units S.mark E.units E.mark q) ∙ frame_words c n v fs d S.units S.mark E.units E.mark q)

-- ---- the times: x and y are what the code read
module _ (c : Columns) (n i k : ℕ) (r f : List ℕ) (x : Option Stamp) (ef : f ≡ field_at c.start (fields c.columns r)) (ex : x ≡ time_in 0 f) where
  abbrev Times : Said
  Times = line_said n i k (times_say c n [] (fields c.columns r) [] (time_in 0 (field_at c.start (fields c.columns r))) (time_in 0 (field_at c.«end» (fields c.columns r))))

  start_is : time_in 0 (field_at c.start (fields c.columns r)) ≡ x
  start_is = sym (ex ∙ ap (time_in 0) ef)

  pub timed_1 : (t : Said) → x ≡ None → t ≡ at_fault 22 n → t ≡ Times
  timed_1 t p q = q ∙ sym (ap (λ (X : Option Stamp). Given c n i k [] (fields c.columns r) [] X (time_in 0 (field_at c.«end» (fields c.columns r)))) (start_is ∙ p))

  module _ (g : List ℕ) (y : Option Stamp) (eg : g ≡ field_at c.«end» (fields c.columns r)) (ey : y ≡ time_in 0 g) (S : Stamp) (p : x ≡ Some S) where
    end_is : time_in 0 (field_at c.«end» (fields c.columns r)) ≡ y
    end_is = sym (ey ∙ ap (time_in 0) eg)

    times_is : (Y : Option Stamp) → y ≡ Y → Times ≡ Given c n i k [] (fields c.columns r) [] (Some S) Y
    times_is Y q =
        ap (λ (X : Option Stamp). Given c n i k [] (fields c.columns r) [] X (time_in 0 (field_at c.«end» (fields c.columns r)))) (start_is ∙ p)
        ∙ ap (Given c n i k [] (fields c.columns r) [] (Some S)) (end_is ∙ q)

    pub timed_2 : (t : Said) → y ≡ None → t ≡ at_fault 22 n → t ≡ Times
    timed_2 t q e = e ∙ sym (times_is None q)

    pub timed_3 : (E : Stamp) (m d : ℕ) → y ≡ Some E → c.columns ≤ length (fields c.columns r) → m ≡ last_words c (fields c.columns r) → d ≡ k - m → caption_said n 0 S.units E.units (i + d) m ≡ Times
    timed_3 E m d q h em ed =
        let z : length (fields c.columns r) ≡ c.columns = omega (arith, fields_most c.columns r) in
        ap (λ (j : ℕ). caption_said n 0 S.units E.units (i + j) m) ed
        ∙ ap (λ (j : ℕ). caption_said n 0 S.units E.units (i + (k - j)) j) (em ∙ frame_words c n [] (fields c.columns r) [] S.units S.mark E.units E.mark z) ∙ sym (times_is (Some E) q)

-- ---- a caption: T is the text of the line, u what stands behind its word
module _ (c : Columns) (n i j k : ℕ) (l T : List ℕ) (eT : T ≡ text_of l) (t : Said) where
  abbrev Caption : Said
  Caption = line_said n i (length (text_of l)) (caption_says c n l [] (drop j (text_of l)))

  passed_is : (x : LineSays) → caption_says c n l [] (drop j (text_of l)) ≡ x → t ≡ line_said n i (length (text_of l)) x → t ≡ Caption
  passed_is x e p = p ∙ ap (line_said n i (length (text_of l))) (sym e)

  size_is : (w : ℕ) → caption_said n w 0 0 i (length T) ≡ caption_said n w 0 0 i (length (text_of l))
  size_is w = ap (λ (x : List ℕ). caption_said n w 0 0 i (length x)) eT

  pub caption_1 : c.start ≡ 0 → t ≡ caption_said n 1 0 0 i (length T) → t ≡ Caption
  caption_1 h p = passed_is (says c (passes unplaced n l)) (caption_start c n l [] (drop j (text_of l)) h) (p ∙ size_is 1)

  module _ (h : c.start ≡ 0 → ⊥) where
    pub caption_2 : c.«end» ≡ 0 → t ≡ caption_said n 1 0 0 i (length T) → t ≡ Caption
    caption_2 e p = passed_is (says c (passes unplaced n l)) (caption_end c n l [] (drop j (text_of l)) h e) (p ∙ size_is 1)

    module _ (e : c.«end» ≡ 0 → ⊥) (u : List ℕ) (eu : u ≡ drop j T) (b : Bool) (eb : b ≡ leb c.columns (length (fields c.columns u))) where
      rest_is : u ≡ drop j (text_of l)
      rest_is = eu ∙ ap (drop j) eT

      asked : leb c.columns (length (fields c.columns (drop j (text_of l)))) ≡ b
      asked = sym (eb ∙ ap (λ (x : List ℕ). leb c.columns (length (fields c.columns x))) rest_is)

      pub caption_3 : b ≡ true
          → t ≡ line_said n i (length T) (times_say c n [] (fields c.columns u) [] (time_in 0 (field_at c.start (fields c.columns u))) (time_in 0 (field_at c.«end» (fields c.columns u))))
          → t ≡ Caption
      caption_3 f p =
          let fits : c.columns ≤ length (fields c.columns (drop j (text_of l))) = leb-true c.columns (length (fields c.columns (drop j (text_of l)))) (asked ∙ f) in
          let z : length (fields c.columns (drop j (text_of l))) ≡ c.columns = omega (arith, fields_most c.columns (drop j (text_of l))) in
          passed_is _ (caption_times c n l [] (drop j (text_of l)) h e fits)
          (p
          ∙ ap₂ (λ (x y : List ℕ). line_said n i (length x) (times_say c n [] (fields c.columns y) [] (time_in 0 (field_at c.start (fields c.columns y))) (time_in 0 (field_at c.«end» (fields c.columns y))))) eT rest_is
          ∙ given_same c n i (length (text_of l)) [] [] (fields c.columns (drop j (text_of l))) [] (terminator_of l)
          (time_in 0 (field_at c.start (fields c.columns (drop j (text_of l))))) (time_in 0 (field_at c.«end» (fields c.columns (drop j (text_of l))))) z)

      pub caption_4 : b ≡ false → t ≡ caption_said n 2 0 0 i (length T) → t ≡ Caption
      caption_4 f p =
          passed_is (says c (passes short n l)) (caption_few c n l [] (drop j (text_of l)) h e (leb-false c.columns (length (fields c.columns (drop j (text_of l)))) (asked ∙ f)))
          (p ∙ size_is 2)

pub caption_fits : (c : Columns) (u : List ℕ) (b : Bool) → b ≡ leb c.columns (length (fields c.columns u)) → b ≡ true → c.columns ≤ length (fields c.columns u)
caption_fits c u b e f = leb-true c.columns (length (fields c.columns u)) (sym e ∙ f)

pub caption_room : (i : ℕ) (l T : List ℕ) → T ≡ text_of l → i + length (text_of l) < 2 ^ 64 → i + length T < 2 ^ 64
caption_room i l T e h = let z : length T ≡ length (text_of l) = ap length e in omega arith

-- the word does not matter
word_same : (c : Columns) (n i k : ℕ) (l w r : List ℕ) → line_said n i k (caption_says c n l [] r) ≡ line_said n i k (caption_says c n l w r)
unfolding caption_says
word_same c n i k l w r = go (eqb c.start 0) (eqb c.«end» 0) (ltb (length (fields c.columns r)) c.columns) refl
  where
    F : List (List ℕ)
    F = fields c.columns r

    S : Option Stamp
    S = time_in 0 (field_at c.start (fields c.columns r))

    E : Option Stamp
    E = time_in 0 (field_at c.«end» (fields c.columns r))

    all : ltb (length (fields c.columns r)) c.columns ≡ false → length (fields c.columns r) ≡ c.columns
    all e = let h : c.columns ≤ length (fields c.columns r) = ltb-false (length (fields c.columns r)) c.columns e in omega (arith, fields_most c.columns r)

    go : (x y z : Bool) → ltb (length (fields c.columns r)) c.columns ≡ z
        → line_said n i k (cond x (says c (passes unplaced n l)) (cond y (says c (passes unplaced n l)) (cond z (says c (passes short n l)) (times_say c n [] F (terminator_of l) S E))))
        ≡ line_said n i k (cond x (says c (passes unplaced n l)) (cond y (says c (passes unplaced n l)) (cond z (says c (passes short n l)) (times_say c n w F (terminator_of l) S E))))
    go true y z e = refl
    go false true z e = refl
    go false false true e = refl
    go false false false e = given_same c n i k [] w F (terminator_of l) (terminator_of l) S E (all e)

-- ---- a line in Events: T is its text, and f, d, g what was told of the three words
module _ (c : Columns) (n i : ℕ) (l T : List ℕ) (eT : T ≡ text_of l) (f : Bool) (ef : f ≡ starts format_word T) (t : Said) where
  abbrev Both : Columns → Type 0
  Both x = (t ≡ line_said (suc n) i (length (text_of l)) (word_says c n l (text_of l))) × (x ≡ columns_after c (word_says c n l (text_of l)))

  by_says : (z : LineSays) (x : Columns) → word_says c n l (text_of l) ≡ z → t ≡ line_said (suc n) i (length (text_of l)) z → x ≡ columns_after c z → Both x
  by_says z x e p q = (p ∙ ap (line_said (suc n) i (length (text_of l))) (sym e), q ∙ ap (columns_after c) (sym e))

  word_is : (p : List ℕ) (b : Bool) → b ≡ starts p T → starts p (text_of l) ≡ b
  word_is p b e = sym (e ∙ ap (starts p) eT)

  pub word_1 : (u : List ℕ) (x : Columns) → f ≡ true → t ≡ at_fault 0 0 → u ≡ drop 7 T → x ≡ columns_in u → Both x
  unfolding word_says
  word_1 u x p q eu ex =
      by_says (says (columns_in (drop 7 (text_of l))) (stays l)) x (rw (word_is format_word f ef ∙ p)) q (ex ∙ ap columns_in (eu ∙ ap (drop 7) eT))

  pub word_1s : (u : List ℕ) (x : Columns) → f ≡ true → t ≡ at_fault 0 0 → u ≡ drop 7 T → x ≡ columns_in u → t ≡ line_said (suc n) i (length (text_of l)) (word_says c n l (text_of l))
  word_1s u x p q eu ex = (word_1 u x p q eu ex).0

  pub word_1c : (u : List ℕ) (x : Columns) → f ≡ true → t ≡ at_fault 0 0 → u ≡ drop 7 T → x ≡ columns_in u → x ≡ columns_after c (word_says c n l (text_of l))
  word_1c u x p q eu ex = (word_1 u x p q eu ex).1

  module _ (p : f ≡ false) (d : Bool) (ed : d ≡ starts dialogue_word T) where
    pub word_2 : (k : ℕ) → d ≡ true → k ≡ n + 1 → t ≡ line_said k i (length (text_of l)) (caption_says c k l [] (drop 9 (text_of l))) → Both c
    unfolding word_says
    word_2 k q ek h =
        by_says (caption_says c (suc n) l dialogue_word (drop 9 (text_of l))) c (rw (word_is format_word f ef ∙ p, word_is dialogue_word d ed ∙ q))
        (h ∙ ap (λ (j : ℕ). line_said j i (length (text_of l)) (caption_says c j l [] (drop 9 (text_of l)))) (ek ∙ add-one n) ∙ word_same c (suc n) i (length (text_of l)) l dialogue_word (drop 9 (text_of l)))
        (sym (caption_columns c (suc n) l dialogue_word (drop 9 (text_of l))))

    pub word_2s : (k : ℕ) → d ≡ true → k ≡ n + 1 → t ≡ line_said k i (length (text_of l)) (caption_says c k l [] (drop 9 (text_of l))) → t ≡ line_said (suc n) i (length (text_of l)) (word_says c n l (text_of l))
    word_2s k q ek h = (word_2 k q ek h).0

    pub word_2c : (k : ℕ) → d ≡ true → k ≡ n + 1 → t ≡ line_said k i (length (text_of l)) (caption_says c k l [] (drop 9 (text_of l))) → c ≡ columns_after c (word_says c n l (text_of l))
    word_2c k q ek h = (word_2 k q ek h).1

    module _ (q : d ≡ false) (g : Bool) (eg : g ≡ starts comment_word T) where
      pub word_3 : (k : ℕ) → g ≡ true → k ≡ n + 1 → t ≡ line_said k i (length (text_of l)) (caption_says c k l [] (drop 8 (text_of l))) → Both c
      unfolding word_says
      word_3 k u ek h =
          by_says (caption_says c (suc n) l comment_word (drop 8 (text_of l))) c (rw (word_is format_word f ef ∙ p, word_is dialogue_word d ed ∙ q, word_is comment_word g eg ∙ u))
          (h ∙ ap (λ (j : ℕ). line_said j i (length (text_of l)) (caption_says c j l [] (drop 8 (text_of l)))) (ek ∙ add-one n) ∙ word_same c (suc n) i (length (text_of l)) l comment_word (drop 8 (text_of l)))
          (sym (caption_columns c (suc n) l comment_word (drop 8 (text_of l))))

      pub word_3s : (k : ℕ) → g ≡ true → k ≡ n + 1 → t ≡ line_said k i (length (text_of l)) (caption_says c k l [] (drop 8 (text_of l))) → t ≡ line_said (suc n) i (length (text_of l)) (word_says c n l (text_of l))
      word_3s k q ek h = (word_3 k q ek h).0

      pub word_3c : (k : ℕ) → g ≡ true → k ≡ n + 1 → t ≡ line_said k i (length (text_of l)) (caption_says c k l [] (drop 8 (text_of l))) → c ≡ columns_after c (word_says c n l (text_of l))
      word_3c k q ek h = (word_3 k q ek h).1

      pub word_4 : g ≡ false → t ≡ at_fault 0 0 → Both c
      unfolding word_says
      word_4 u h =
          by_says (says c (stays l)) c (rw (word_is format_word f ef ∙ p, word_is dialogue_word d ed ∙ q, word_is comment_word g eg ∙ u)) h refl

      pub word_4s : g ≡ false → t ≡ at_fault 0 0 → t ≡ line_said (suc n) i (length (text_of l)) (word_says c n l (text_of l))
      word_4s u h = (word_4 u h).0

      pub word_4c : g ≡ false → t ≡ at_fault 0 0 → c ≡ columns_after c (word_says c n l (text_of l))
      word_4c u h = (word_4 u h).1

-- ---- a line
module _ (c : Columns) (n i : ℕ) (l T u : List ℕ) (b : Bool) (eT : T ≡ text_of l) (eu : u ≡ trim T) (eb : b ≡ bracketed u) (t : Said) where
  abbrev Line : Columns → Type 0
  Line x = (t ≡ line_said (suc n) i (length (text_of l)) (line_says c n l)) × (x ≡ columns_after c (line_says c n l))

  line_by : (z : LineSays) (x : Columns) → line_says c n l ≡ z → t ≡ line_said (suc n) i (length (text_of l)) z → x ≡ columns_after c z → Line x
  line_by z x e p q = (p ∙ ap (line_said (suc n) i (length (text_of l))) (sym e), q ∙ ap (columns_after c) (sym e))

  trim_is : u ≡ trim (text_of l)
  trim_is = eu ∙ ap trim eT

  pub line_section : (e : Bool) (x : Columns) → b ≡ true → e ≡ equals events_name (inside u) → x ≡ in_section e c → t ≡ at_fault 0 0 → Line x
  unfolding line_says text_says
  line_section e x p ee ex q =
      line_by (says (in_section (equals events_name (inside (trim (text_of l)))) c) (stays l)) x (rw (sym (eb ∙ ap bracketed trim_is) ∙ p)) q
      (ex ∙ ap (λ (y : Bool). in_section y c) (ee ∙ ap (λ (y : List ℕ). equals events_name (inside y)) trim_is))

  pub section_s : (e : Bool) (x : Columns) → b ≡ true → e ≡ equals events_name (inside u) → x ≡ in_section e c → t ≡ at_fault 0 0 → t ≡ line_said (suc n) i (length (text_of l)) (line_says c n l)
  section_s e x p ee ex q = (line_section e x p ee ex q).0

  pub section_c : (e : Bool) (x : Columns) → b ≡ true → e ≡ equals events_name (inside u) → x ≡ in_section e c → t ≡ at_fault 0 0 → x ≡ columns_after c (line_says c n l)
  section_c e x p ee ex q = (line_section e x p ee ex q).1

  module _ (p : b ≡ false) where
    no_section : bracketed (trim (text_of l)) ≡ false
    no_section = sym (eb ∙ ap bracketed trim_is) ∙ p

    pub line_events : (x : Columns) → c.events ≡ true → (t ≡ line_said (suc n) i (length (text_of l)) (word_says c n l (text_of l))) × (x ≡ columns_after c (word_says c n l (text_of l))) → Line x
    unfolding line_says text_says
    line_events x q r = line_by (word_says c n l (text_of l)) x (rw (no_section, q)) r.0 r.1

    pub line_other : c.events ≡ false → t ≡ at_fault 0 0 → Line c
    unfolding line_says text_says
    line_other q r = line_by (says c (stays l)) c (rw (no_section, q)) r refl

    pub events_s : c.events ≡ true → t ≡ line_said (suc n) i (length (text_of l)) (word_says c n l (text_of l)) → t ≡ line_said (suc n) i (length (text_of l)) (line_says c n l)
    events_s q r = (line_events (columns_after c (word_says c n l (text_of l))) q (r, refl)).0

    pub events_c : (x : Columns) → c.events ≡ true → t ≡ line_said (suc n) i (length (text_of l)) (word_says c n l (text_of l)) → x ≡ columns_after c (word_says c n l (text_of l)) → x ≡ columns_after c (line_says c n l)
    events_c x q r s = (line_events x q (r, s)).1

    pub other_s : c.events ≡ false → t ≡ at_fault 0 0 → t ≡ line_said (suc n) i (length (text_of l)) (line_says c n l)
    other_s q r = (line_other q r).0

    pub other_c : c.events ≡ false → t ≡ at_fault 0 0 → c ≡ columns_after c (line_says c n l)
    other_c q r = (line_other q r).1
