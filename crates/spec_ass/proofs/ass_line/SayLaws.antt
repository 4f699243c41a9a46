-- Laws of what a line says, case by case, and of what the functions of a line tell.
use mathlib.Core.Path.{◌≡◌, refl, sym, ap, subst, ◌∙◌}
use mathlib.Core.Bool.{Bool, true, false, cond}
use mathlib.Core.List.{List, [], ◌∷◌}
use Prim.Native.Nat.{ℕ, suc, ◌+◌, ◌*◌, ◌-◌, ◌/◌, ◌≤◌, ◌<◌}
use native.Mathlib.Omega.{arith}
use native.Mathlib.Numerals.{add-one}
use borrow.Author.Tests.{lt-ltb, le-ltb, eq-eqb, ne_eqb, leb-true, leb-false}
use lib.Dec.{eqb, ltb, leb}
use lib.ListN.{length, drop, length-append, length-drop}
use Rattle.std.specs.Prelude.{Option, Some, None}
use Rattle.spec_base.specs.base.Put.{put}
use Rattle.spec_text.specs.whitespace.White.{trim}
use Rattle.spec_text.specs.pattern.Find.{starts, equals}
use Rattle.spec_text.specs.text.Line.{text_of, terminator_of}
use Rattle.spec_text.proofs.text.LineLaws.{text_terminator}
use Rattle.spec_time.specs.declared.caption_stamp.Stamp.{Stamp}
use Rattle.spec_time.specs.caption_stamp.Read.{stamp, time_in}
use Rattle.spec_map.specs.declared.segment.Segment.{Segment}
use Rattle.spec_caption.specs.declared.caption_fate.Config.{Config}
use Rattle.spec_caption.specs.declared.caption_fate.Told.{Told}
use Rattle.spec_caption.specs.caption_fate.Decide.{decide_in}
use Rattle.spec_caption.specs.caption_fate.Fates.{passed}
use Rattle.spec_caption.specs.caption_fate.Says.{Reason, unplaced, short, reason_number, stays, passes}
use Rattle.spec_caption.specs.caption_fate.Emit.{none, decided, emit, emit_by, warning}
use Rattle.spec_caption.specs.caption_fate.Told.{refusal, answered, cue_in, part_in, Tells, refused_with}
use Rattle.spec_caption.proofs.caption_fate.TellLaws.{tells_same, tells_refused}
use Rattle.spec_ass.specs.declared.ass_columns.Columns.{Columns}
use Rattle.spec_ass.specs.ass_columns.Columns.{columns_in, fields, field_at}
use Rattle.spec_ass.specs.ass_columns.Section.{events_name, bracketed, inside, in_section}
use Rattle.spec_ass.specs.ass_write.Frame.{line_frame, frame_most}
use Rattle.spec_ass.specs.ass_line.Line.{format_word, dialogue_word, comment_word, LineSays, says, line_cue, times_say, caption_says, word_says, text_says, line_says}
use Rattle.spec_ass.specs.ass_line.AssThrough.{columns_after, line_answer_in, line_in, columns_next, stayed_with}
use Rattle.spec_ass.proofs.ass_line.TellLaws.{tells_stayed}
use Rattle.spec_ass.proofs.ass_write.FitLaws.{line_most}
use Rattle.spec_text.proofs.pattern.PieceLaws.{starts_long}

-- ---- a caption
module _ (c : Columns) (n : ℕ) (l v r : List ℕ) where
  pub caption_start : c.start ≡ 0 → caption_says c n l v r ≡ says c (passes unplaced n l)
  unfolding caption_says
  caption_start h = rw (eq-eqb c.start 0 h)

  module _ (h : c.start ≡ 0 → ⊥) where
    pub caption_end : c.«end» ≡ 0 → caption_says c n l v r ≡ says c (passes unplaced n l)
    unfolding caption_says
    caption_end k = rw (ne_eqb c.start 0 h, eq-eqb c.«end» 0 k)

    module _ (k : c.«end» ≡ 0 → ⊥) where
      pub caption_few : length (fields c.columns r) < c.columns → caption_says c n l v r ≡ says c (passes short n l)
      unfolding caption_says
      caption_few f = rw (ne_eqb c.start 0 h, ne_eqb c.«end» 0 k, lt-ltb (length (fields c.columns r)) c.columns f)

      pub caption_times : c.columns ≤ length (fields c.columns r)
          → caption_says c n l v r ≡ times_say c n v (fields c.columns r) (terminator_of l) (time_in 0 (field_at c.start (fields c.columns r))) (time_in 0 (field_at c.«end» (fields c.columns r)))
      unfolding caption_says
      caption_times f = rw (ne_eqb c.start 0 h, ne_eqb c.«end» 0 k, le-ltb (length (fields c.columns r)) c.columns f)

  -- it leaves the columns
  pub caption_columns : columns_after c (caption_says c n l v r) ≡ c
  unfolding caption_says
  caption_columns =
      go (eqb c.start 0) (eqb c.«end» 0) (ltb (length (fields c.columns r)) c.columns)
      (time_in 0 (field_at c.start (fields c.columns r))) (time_in 0 (field_at c.«end» (fields c.columns r)))
    where
      go : (x y z : Bool) (S E : Option Stamp)
          → columns_after c (cond x (says c (passes unplaced n l)) (cond y (says c (passes unplaced n l)) (cond z (says c (passes short n l)) (times_say c n v (fields c.columns r) (terminator_of l) S E)))) ≡ c
      go true y z S E = refl
      go false true z S E = refl
      go false false true S E = refl
      go false false false None E = refl
      go false false false (Some S) None = refl
      go false false false (Some S) (Some E) = refl

-- a part that stays, and a caption that passes
stays_in : (s : Config) (m : List Segment) (c : Columns) (l : List ℕ) → line_answer_in s m (says c (stays l)) ≡ answered (emit l [] none)
unfolding part_in emit_by
stays_in s m c l = refl

passes_in : (s : Config) (m : List Segment) (c : Columns) (x : Reason) (n : ℕ) (l : List ℕ) → line_answer_in s m (says c (passes x n l)) ≡ answered (emit l (warning (reason_number x) n ∷ []) (decided passed))
unfolding part_in emit_by
passes_in s m c x n l = refl

-- ---- the functions of a caption
module _ (s : Config) (m : List Segment) (c : Columns) (n : ℕ) (l v r : List ℕ) (t : Told) (o o' w w' : List ℕ) where
  pub told_1 : caption_says c n l v r ≡ says c (passes unplaced n l) → Tells (answered (emit l (warning 1 n ∷ []) (decided passed))) t o o' w w' → Tells (line_answer_in s m (caption_says c n l v r)) t o o' w w'
  told_1 e h = tells_same (ap (line_answer_in s m) e ∙ passes_in s m c unplaced n l) h

  -- u is the rest of the line that the code has
  module _ (u : List ℕ) (eu : u ≡ r) (b : Bool) (e : b ≡ leb c.columns (length (fields c.columns u))) (h : c.start ≡ 0 → ⊥) (k : c.«end» ≡ 0 → ⊥) where
    asked : leb c.columns (length (fields c.columns r)) ≡ b
    asked = sym (e ∙ ap (λ (x : List ℕ). leb c.columns (length (fields c.columns x))) eu)

    pub told_2 : b ≡ false → Tells (answered (emit l (warning 2 n ∷ []) (decided passed))) t o o' w w' → Tells (line_answer_in s m (caption_says c n l v r)) t o o' w w'
    told_2 f p =
        tells_same (ap (line_answer_in s m) (caption_few c n l v r h k (leb-false c.columns (length (fields c.columns r)) (asked ∙ f))) ∙ passes_in s m c short n l) p

    pub told_times : b ≡ true
        → Tells (line_answer_in s m (times_say c n v (fields c.columns u) (terminator_of l) (time_in 0 (field_at c.start (fields c.columns u))) (time_in 0 (field_at c.«end» (fields c.columns u))))) t o o' w w'
        → Tells (line_answer_in s m (caption_says c n l v r)) t o o' w w'
    told_times f p =
        tells_same (ap (line_answer_in s m) (caption_times c n l v r h k (leb-true c.columns (length (fields c.columns r)) (asked ∙ f))))
        (subst
        (λ (x : List ℕ). Tells (line_answer_in s m (times_say c n v (fields c.columns x) (terminator_of l) (time_in 0 (field_at c.start (fields c.columns x))) (time_in 0 (field_at c.«end» (fields c.columns x))))) t o o' w w')
        eu p)

pub rest_is : (l T v u : List ℕ) → T ≡ text_of l → u ≡ drop (length v) T → u ≡ drop (length v) (text_of l)
rest_is l T v u eT eu = eu ∙ ap (drop (length v)) eT

-- the parts of a line are no longer than the line
pub parts_room : (l T v r : List ℕ) (k : ℕ) → T ≡ text_of l → k ≡ length v → r ≡ drop k T → length v ≤ length (text_of l) → length v + length r + length (terminator_of l) ≤ length l
parts_room l T v r k eT ek er h =
    let a : length (text_of l) + length (terminator_of l) ≡ length l = sym (length-append (text_of l) (terminator_of l)) ∙ ap length (text_terminator l) in
    let b : length r ≡ length T - k = ap length er ∙ length-drop k T in
    let d : length T ≡ length (text_of l) = ap length eT in
    omega arith

-- ---- the times: x and y are what the code read
module _ (s : Config) (m : List Segment) (c : Columns) (n : ℕ) (l v r f : List ℕ) (x : Option Stamp) (ef : f ≡ field_at c.start (fields c.columns r)) (ex : x ≡ time_in 0 f) where
  abbrev Says : LineSays
  Says = times_say c n v (fields c.columns r) (terminator_of l) (time_in 0 (field_at c.start (fields c.columns r))) (time_in 0 (field_at c.«end» (fields c.columns r)))

  start_is : time_in 0 (field_at c.start (fields c.columns r)) ≡ x
  start_is = sym (ex ∙ ap (time_in 0) ef)

  pub times_1 : (t : Told) (o w : List ℕ) → x ≡ None → t ≡ refused_with 22 → Tells (line_answer_in s m Says) t o o w w
  times_1 t o w p q =
      tells_same (ap (λ (X : Option Stamp). line_answer_in s m (times_say c n v (fields c.columns r) (terminator_of l) X (time_in 0 (field_at c.«end» (fields c.columns r))))) (start_is ∙ p))
      (tells_refused 22 t o w q)

  module _ (g : List ℕ) (y : Option Stamp) (eg : g ≡ field_at c.«end» (fields c.columns r)) (ey : y ≡ time_in 0 g) (S a : ℕ) (p : x ≡ stamp S a) where
    end_is : time_in 0 (field_at c.«end» (fields c.columns r)) ≡ y
    end_is = sym (ey ∙ ap (time_in 0) eg)

    says_is : (Y : Option Stamp) → y ≡ Y → Says ≡ times_say c n v (fields c.columns r) (terminator_of l) (stamp S a) Y
    says_is Y q =
        ap (λ (X : Option Stamp). times_say c n v (fields c.columns r) (terminator_of l) X (time_in 0 (field_at c.«end» (fields c.columns r)))) (start_is ∙ p)
        ∙ ap (times_say c n v (fields c.columns r) (terminator_of l) (stamp S a)) (end_is ∙ q)

    pub times_2 : (t : Told) (o w : List ℕ) → y ≡ None → t ≡ refused_with 22 → Tells (line_answer_in s m Says) t o o w w
    times_2 t o w q e = tells_same (ap (line_answer_in s m) (says_is None q)) (tells_refused 22 t o w e)

    module _ (E b : ℕ) (q : y ≡ stamp E b) (z : List ℕ) (ez : z ≡ terminator_of l) where
      pub times_room : (o : List ℕ) → 3 * length l ≤ length o → 1 ≤ length v → length v + length r + length (terminator_of l) ≤ length l → frame_most (line_frame c v (fields c.columns r) z) ≤ length o
      times_room o h k d =
          let u : length z ≡ length (terminator_of l) = ap length ez in
          omega (arith, line_most c v r z S a E b (start_is ∙ p) (end_is ∙ q) k)

      pub times_3 : (t : Told) (o o' w w' : List ℕ) → Tells (cue_in s.kind (line_cue c n v (fields c.columns r) z S a E b) (decide_in s m S E)) t o o' w w' → Tells (line_answer_in s m Says) t o o' w w'
      unfolding part_in
      times_3 t o o' w w' h =
          tells_same
          (ap (line_answer_in s m) (says_is (stamp E b) q)
          ∙ ap (λ (k : List ℕ). cue_in s.kind (line_cue c n v (fields c.columns r) k S a E b) (decide_in s m S E)) (sym ez))
          h

-- ---- a line in Events, by its word: T is the text that the code has, and f, d, g what it was told of the three words
module _ (s : Config) (m : List Segment) (c : Columns) (n : ℕ) (l T : List ℕ) (eT : T ≡ text_of l) (f : Bool) (ef : f ≡ starts format_word T) (t : Told) (o o' w w' : List ℕ) where
  abbrev Both : Columns → Type 0
  Both x = Tells (line_answer_in s m (word_says c n l (text_of l))) t o o' w w' × (x ≡ columns_after c (word_says c n l (text_of l)))

  by_says : (z : LineSays) (x : Columns) → word_says c n l (text_of l) ≡ z → Tells (line_answer_in s m z) t o o' w w' → x ≡ columns_after c z → Both x
  by_says z x e p q = (tells_same (ap (line_answer_in s m) e) p, q ∙ ap (columns_after c) (sym e))

  stays_told : (z : Columns) → w ≡ w' → (t ≡ stayed_with (length l)) × (o' ≡ put l o) → Tells (line_answer_in s m (says z (stays l))) t o o' w w'
  stays_told z e p = tells_same (stays_in s m z l) (subst (λ (y : List ℕ). Tells (answered (emit l [] none)) t o o' w y) e (tells_stayed l o o' w t p))

  word_is : (p : List ℕ) (b : Bool) → b ≡ starts p T → starts p (text_of l) ≡ b
  word_is p b e = sym (e ∙ ap (starts p) eT)

  pub word_1 : (u : List ℕ) (x : Columns) → f ≡ true → w ≡ w' → (t ≡ stayed_with (length l)) × (o' ≡ put l o) → u ≡ drop 7 T → x ≡ columns_in u → Both x
  unfolding word_says
  word_1 u x p ew q eu ex =
      by_says (says (columns_in (drop 7 (text_of l))) (stays l)) x (rw (word_is format_word f ef ∙ p)) (stays_told (columns_in (drop 7 (text_of l))) ew q) (ex ∙ ap columns_in (eu ∙ ap (drop 7) eT))

  module _ (p : f ≡ false) (d : Bool) (ed : d ≡ starts dialogue_word T) where
    pub word_2 : (k : ℕ) → d ≡ true → k ≡ n + 1 → Tells (line_answer_in s m (caption_says c k l dialogue_word (drop 9 (text_of l)))) t o o' w w' → Both c
    unfolding word_says
    word_2 k q ek h =
        by_says (caption_says c (suc n) l dialogue_word (drop 9 (text_of l))) c (rw (word_is format_word f ef ∙ p, word_is dialogue_word d ed ∙ q))
        (subst (λ (j : ℕ). Tells (line_answer_in s m (caption_says c j l dialogue_word (drop 9 (text_of l)))) t o o' w w') (ek ∙ add-one n) h)
        (sym (caption_columns c (suc n) l dialogue_word (drop 9 (text_of l))))

    module _ (q : d ≡ false) (g : Bool) (eg : g ≡ starts comment_word T) where
      pub word_3 : (k : ℕ) → g ≡ true → k ≡ n + 1 → Tells (line_answer_in s m (caption_says c k l comment_word (drop 8 (text_of l)))) t o o' w w' → Both c
      unfolding word_says
      word_3 k u ek h =
          by_says (caption_says c (suc n) l comment_word (drop 8 (text_of l))) c (rw (word_is format_word f ef ∙ p, word_is dialogue_word d ed ∙ q, word_is comment_word g eg ∙ u))
          (subst (λ (j : ℕ). Tells (line_answer_in s m (caption_says c j l comment_word (drop 8 (text_of l)))) t o o' w w') (ek ∙ add-one n) h)
          (sym (caption_columns c (suc n) l comment_word (drop 8 (text_of l))))

      pub word_4 : g ≡ false → w ≡ w' → (t ≡ stayed_with (length l)) × (o' ≡ put l o) → Both c
      unfolding word_says
      word_4 u ew h =
          by_says (says c (stays l)) c (rw (word_is format_word f ef ∙ p, word_is dialogue_word d ed ∙ q, word_is comment_word g eg ∙ u)) (stays_told c ew h) refl

-- the word at the start of a text is a part of it
pub word_room : (l T p : List ℕ) (f : Bool) → T ≡ text_of l → f ≡ starts p T → f ≡ true → length p ≤ length (text_of l)
word_room l T p f eT ef h = starts_long p (text_of l) (sym (ef ∙ ap (starts p) eT) ∙ h)

-- ---- a line
module _ (s : Config) (m : List Segment) (c : Columns) (n : ℕ) (l : List ℕ) (t : Told) (o o' w w' : List ℕ) where
  abbrev Told-of : Columns → Type 0
  Told-of x = Tells (line_in s m c n l (length o) (length w)) t o o' w w' × (x ≡ columns_next c n l (length o) (length w))

  pub line_short : length o / 3 < length l → o ≡ o' → w ≡ w' → t ≡ refused_with 16 → Told-of c
  unfolding line_in columns_next
  line_short h eo ew p =
      let k : ltb (length o) (3 * length l) ≡ true = lt-ltb (length o) (3 * length l) (omega arith) in
      (rw k (subst (λ (y : List ℕ). Tells (refusal 16) t o y w w') eo (subst (λ (y : List ℕ). Tells (refusal 16) t o o w y) ew (tells_refused 16 t o w p))), rw k)

  module _ (h : length l ≤ length o / 3) where
    far : ltb (length o) (3 * length l) ≡ false
    far = le-ltb (length o) (3 * length l) (omega arith)

    pub line_few : length w < 4 → o ≡ o' → w ≡ w' → t ≡ refused_with 16 → Told-of c
    unfolding line_in columns_next
    line_few k eo ew p =
        let j : ltb (length w) 4 ≡ true = lt-ltb (length w) 4 k in
        (rw (far, j) (subst (λ (y : List ℕ). Tells (refusal 16) t o y w w') eo (subst (λ (y : List ℕ). Tells (refusal 16) t o o w y) ew (tells_refused 16 t o w p))), rw (far, j))

    module _ (k : 4 ≤ length w) where
      line_by : (z : LineSays) (x : Columns) → line_says c n l ≡ z → Tells (line_answer_in s m z) t o o' w w' → x ≡ columns_after c z → Told-of x
      unfolding line_in columns_next
      line_by z x e p q =
          let j : ltb (length w) 4 ≡ false = le-ltb (length w) 4 k in
          (rw (far, j, e) p, rw (far, j, e) q)

      module _ (T u : List ℕ) (b : Bool) (eT : T ≡ text_of l) (eu : u ≡ trim T) (eb : b ≡ bracketed u) where
        trim_is : u ≡ trim (text_of l)
        trim_is = eu ∙ ap trim eT

        pub line_section : (e : Bool) (x : Columns) → b ≡ true → e ≡ equals events_name (inside u) → x ≡ in_section e c → w ≡ w' → (t ≡ stayed_with (length l)) × (o' ≡ put l o) → Told-of x
        unfolding line_says text_says
        line_section e x p ee ex ew q =
            line_by (says (in_section (equals events_name (inside (trim (text_of l)))) c) (stays l)) x (rw (sym (eb ∙ ap bracketed trim_is) ∙ p))
            (tells_same (stays_in s m (in_section (equals events_name (inside (trim (text_of l)))) c) l) (subst (λ (y : List ℕ). Tells (answered (emit l [] none)) t o o' w y) ew (tells_stayed l o o' w t q)))
            (ex ∙ ap (λ (y : Bool). in_section y c) (ee ∙ ap (λ (y : List ℕ). equals events_name (inside y)) trim_is))

        module _ (p : b ≡ false) where
          no_section : bracketed (trim (text_of l)) ≡ false
          no_section = sym (eb ∙ ap bracketed trim_is) ∙ p

          pub line_events : (x : Columns) → c.events ≡ true → Tells (line_answer_in s m (word_says c n l (text_of l))) t o o' w w' × (x ≡ columns_after c (word_says c n l (text_of l))) → Told-of x
          unfolding line_says text_says
          line_events x q r = line_by (word_says c n l (text_of l)) x (rw (no_section, q)) r.0 r.1

          pub line_other : c.events ≡ false → w ≡ w' → (t ≡ stayed_with (length l)) × (o' ≡ put l o) → Told-of c
          unfolding line_says text_says
          line_other q ew r =
              line_by (says c (stays l)) c (rw (no_section, q))
              (tells_same (stays_in s m c l) (subst (λ (y : List ℕ). Tells (answered (emit l [] none)) t o o' w y) ew (tells_stayed l o o' w t r))) refl
