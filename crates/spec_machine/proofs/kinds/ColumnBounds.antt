-- The columns of a session stay within their bounds: a line of ASS leaves them so.
use mathlib.Core.Path.{◌≡◌, refl}
use mathlib.Core.Bool.{Bool, true, false, cond, ◌||◌}
use mathlib.Core.List.{List, [], ◌∷◌}
use Prim.Native.Nat.{ℕ, zero, suc, ◌-◌, ◌≤◌, ◌<◌}
use native.Mathlib.Omega.{arith}
use lib.Dec.{eqb, ltb}
use lib.ListN.{length, drop, length-drop, length-take, length-map}
use borrow.Author.Tests.{le-ltb, ltb-false}
use Rattle.std.specs.Prelude.{Option, Some, None}
use Rattle.spec_base.specs.base.Limits.{most_line, most_columns}
use Rattle.spec_base.proofs.base.Laws.{or_left, or_right}
use Rattle.spec_text.specs.whitespace.White.{trim}
use Rattle.spec_text.specs.pattern.Find.{starts, equals}
use Rattle.spec_text.specs.pattern.Piece.{pieces_from, pieces, comma}
use Rattle.spec_text.specs.pattern.Piece.{onto_first}
use Rattle.spec_text.specs.text.Line.{terminator_length, text_of, terminator_of}
use Rattle.spec_time.specs.declared.caption_stamp.Stamp.{Stamp}
use Rattle.spec_time.specs.caption_stamp.Read.{time_in}
use Rattle.spec_ass.specs.declared.ass_columns.Columns.{Columns}
use Rattle.spec_ass.specs.ass_columns.Columns.{start_name, end_name, names_in, further, place_in, columns_in, fields, field_at}
use Rattle.spec_ass.specs.ass_line.Line.{format_word, dialogue_word, comment_word, times_say, caption_says, word_says, text_says, line_says, LineSays, faulty, says}
use Rattle.spec_ass.specs.ass_columns.Section.{events_name, bracketed, inside, in_section}
use Rattle.spec_machine.specs.kinds.Takes.{no_columns}
use Rattle.spec_machine.specs.kinds.Kit.{columns_bad}

pub record Bounded (c : Columns) : Type 0 where
  pub columns : c.columns ≤ most_columns
  pub start : c.start ≤ c.columns
  pub stop : c.«end» ≤ c.columns

-- bounded is what 17 asks of the columns
pub bounded_good : (c : Columns) → Bounded c → columns_bad c ≡ false
unfolding columns_bad
bounded_good c b =
    rw (le-ltb most_columns c.columns b.columns, le-ltb c.columns c.start b.start, le-ltb c.columns c.«end» b.stop)

pub good_bounded : (c : Columns) → columns_bad c ≡ false → Bounded c
unfolding columns_bad
good_bounded c e =
    let f = or_right (ltb most_columns c.columns) (ltb c.columns c.start || ltb c.columns c.«end») e in
    record {
      columns = ltb-false most_columns c.columns (or_left (ltb most_columns c.columns) _ e);
      start = ltb-false c.columns c.start (or_left (ltb c.columns c.start) _ f);
      stop = ltb-false c.columns c.«end» (or_right (ltb c.columns c.start) (ltb c.columns c.«end») f);
    }

pub none_bounded : Bounded no_columns
none_bounded = record { columns = omega arith; start = omega arith; stop = omega arith }

-- ---- a Format line has no more columns than bytes
onto_count : (b : ℕ) (ps : List (List ℕ)) → 0 < length ps → length (onto_first b ps) ≡ length ps
onto_count b [] h = absurd (let z : 0 < 0 = h in omega arith)
onto_count b (p ∷ ps) h = refl

pub record Counted (s : List ℕ) (n : ℕ) : Type 0 where
  pub some : 0 < n
  pub few : n ≤ suc (length s)

pieces_counted : (p s : List ℕ) (k : ℕ) → Counted s (length (pieces_from p s k))
unfolding pieces_from
pieces_counted p [] k = record { some = omega arith; few = omega arith }
pieces_counted p (b ∷ s) (suc k) = let c = pieces_counted p s k in record { some = c.some; few = omega (arith, c.few) }
pieces_counted p (b ∷ s) zero = go (starts p (b ∷ s)) (pieces_counted p s (length p - 1)) (pieces_counted p s 0)
  where
    go : (t : Bool) → Counted s (length (pieces_from p s (length p - 1))) → Counted s (length (pieces_from p s 0))
        → Counted (b ∷ s) (length (cond t ([] ∷ pieces_from p s (length p - 1)) (onto_first b (pieces_from p s 0))))
    go true x y = record { some = omega arith; few = omega (arith, x.few) }
    go false x y =
        let e = onto_count b (pieces_from p s 0) y.some in
        record { some = omega (arith, y.some); few = omega (arith, y.few) }

names_few : (s : List ℕ) → length (names_in s) ≤ suc (length s)
unfolding names_in pieces
names_few s = omega (arith, length-map (pieces_from comma s 0) trim, (pieces_counted comma s 0).few)

further_le : (p : ℕ) → further p ≤ suc p
further_le zero = omega arith
further_le (suc p) = omega arith

place_le : (name : List ℕ) (cs : List (List ℕ)) → place_in name cs ≤ length cs
unfolding place_in
place_le name [] = omega arith
place_le name (c ∷ cs) = go (equals name c) (place_le name cs)
  where
    go : (t : Bool) → place_in name cs ≤ length cs → cond t 1 (further (place_in name cs)) ≤ suc (length cs)
    go true h = omega arith
    go false h = omega (arith, further_le (place_in name cs))

columns_bounded : (s : List ℕ) → length s < most_columns → Bounded (columns_in s)
unfolding columns_in
columns_bounded s h =
    record {
      columns = omega (arith, names_few s);
      start = place_le start_name (names_in s);
      stop = place_le end_name (names_in s);
    }

pub text_length : (l : List ℕ) → length (text_of l) ≤ length l
unfolding text_of
text_length l = omega (arith, length-take (length l - terminator_length l) l)

-- ---- a line
-- the columns after it
abbrev pub After : (Columns → Type 0) → LineSays → Type 0
After P (faulty f) = Unit {0}
After P (says d p) = P d

abbrev pub either : (P : LineSays → Type 0) (t : Bool) (x y : LineSays) → P x → P y → P (cond t x y)
either P true x y a b = a
either P false x y a b = b

module _ (P : Columns → Type 0) (c : Columns) (h : P c) where
  times_after : (n : ℕ) (word : List ℕ) (fs : List (List ℕ)) (e : List ℕ) (X Y : Option Stamp) → After P (times_say c n word fs e X Y)
  times_after n word fs e None Y = tt
  times_after n word fs e (Some S) None = tt
  times_after n word fs e (Some S) (Some E) = h

  caption_after : (n : ℕ) (l word rest : List ℕ) → After P (caption_says c n l word rest)
  unfolding caption_says
  caption_after n l word rest =
      either (After P) (eqb c.start 0) _ _ h
      (either (After P) (eqb c.«end» 0) _ _ h
      (either (After P) (ltb (length (fields c.columns rest)) c.columns) _ _ h
      (times_after n word (fields c.columns rest) (terminator_of l) (time_in 0 (field_at c.start (fields c.columns rest)))
      (time_in 0 (field_at c.«end» (fields c.columns rest))))))

  -- sections and Format lines set the columns, all other lines leave them
  word_after : (n : ℕ) (l t : List ℕ) → P (columns_in (drop 7 t)) → After P (word_says c n l t)
  unfolding word_says
  word_after n l t f =
      either (After P) (starts format_word t) _ _ f
      (either (After P) (starts dialogue_word t) _ _ (caption_after (suc n) l dialogue_word (drop 9 t))
      (either (After P) (starts comment_word t) _ _ (caption_after (suc n) l comment_word (drop 8 t)) h))

  text_after : (n : ℕ) (l t : List ℕ) → P (columns_in (drop 7 t)) → ((b : Bool) → P (in_section b c)) → After P (text_says c n l t)
  unfolding text_says
  text_after n l t f g =
      either (After P) (bracketed (trim t)) _ _ (g (equals events_name (inside (trim t))))
      (either (After P) c.events _ _ (word_after n l t f) h)

pub line_bounded : (c : Columns) (n : ℕ) (l : List ℕ) → Bounded c → length l ≤ most_line → After Bounded (line_says c n l)
unfolding line_says
line_bounded c n l b h =
    let k : length (drop 7 (text_of l)) < most_columns = omega (arith, length-drop 7 (text_of l), text_length l) in
    text_after Bounded c b n l (text_of l) (columns_bounded (drop 7 (text_of l)) k)
    (λ t. record { columns = b.columns; start = b.start; stop = b.stop })
