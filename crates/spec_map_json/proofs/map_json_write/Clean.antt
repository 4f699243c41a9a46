-- The text that is written is UTF-8.
use Prim.Native.Nat.{ℕ, ◌+◌, ◌/◌, ◌%◌, ◌≤◌, ◌<◌}
use mathlib.Core.Path.{◌≡◌, refl, ap, ap₂, sym, subst, ◌∙◌}
use mathlib.Core.Bool.{Bool, true, false, ◌&&◌, cond}
use mathlib.Core.List.{List, [], ◌∷◌, ◌++◌, append_assoc, append-nil}
use lib.Dec.{eqb, ltb}
use native.Mathlib.Omega.{arith}
use borrow.Author.Tests.{ltb-true, ltb-false}
use Rattle.spec_base.proofs.base.Laws.{and_left, and_right}
use Rattle.spec_text.specs.utf8.Utf8.{utf8}
use Rattle.spec_text.proofs.utf8.Laws.{width_one, utf8_step, utf8_end}
use Rattle.spec_text.specs.unicode.Encode.{encode, encode_all, Scalar, Scalars, none, more}
use Rattle.spec_text.proofs.unicode.Encoding.{utf8_encoded}
use Rattle.spec_text.proofs.unicode.Trailing.{enc_1, enc_2, enc_3, enc_4}
use Rattle.spec_text.proofs.unicode.Decoding.{only_those}
use Rattle.spec_map.specs.declared.segment.Segment.{Segment}
use Rattle.spec_json.specs.json.Quote.{hex_letter, escaped, escaped_all, quoted, decimal}
use Rattle.spec_json.specs.json.Pretty.{item_lines, member_line, member_lines, pretty_object, pretty_array}
use Rattle.spec_json.proofs.json.StringBack.{plain_is}
use Rattle.spec_json.proofs.json.NumberBack.{decimal_digits}
use Rattle.spec_map_json.specs.map_json_write.Text.{field, line0, line2, line4, line6, segment_first, segment_rest, segment_text, segment_texts, list_text, map_rest, map_text}
use Rattle.spec_map_json.specs.map_json_write.Names.{timescale_name, rate_num_name, rate_den_name, input_name, frames_name, segments_name, first_name, last_name, source_name, count_name, output_name, duration_name}
use Rattle.spec_time.proofs.caption_stamp.RoundTrip.{Digits}

-- whole characters: what stands behind them decides
record Clean (v : List ℕ) : Type 0 where
  same : (r : List ℕ) → utf8 (v ++ r) ≡ utf8 r

clean_nil : Clean []
clean_nil = record { same = λ r. refl }

clean_append : (a b : List ℕ) → Clean a → Clean b → Clean (a ++ b)
clean_append a b f g = record { same = λ r. ap utf8 (append_assoc a b r) ∙ f.same (b ++ r) ∙ g.same r }

clean_cons : (b : ℕ) (l : List ℕ) → b < 0x80 → Clean l → Clean (b ∷ l)
clean_cons b l h f =
    record { same = λ r. utf8_step (b ∷ (l ++ r)) 1 (omega arith) (width_one (b ∷ (l ++ r)) b refl h) (λ z. omega arith) ∙ f.same r }

below : List ℕ → Bool
below [] = true
below (b ∷ l) = ltb b 0x80 && below l

clean_below : (l : List ℕ) → below l ≡ true → Clean l
unfolding below
clean_below [] e = clean_nil
clean_below (b ∷ l) e = clean_cons b l (ltb-true b 0x80 (and_left (ltb b 0x80) (below l) e)) (clean_below l (and_right (ltb b 0x80) (below l) e))

clean_cond : (t : Bool) (a b : List ℕ) → Clean a → Clean b → Clean (cond t a b)
clean_cond true a b f g = f
clean_cond false a b f g = g

-- ---- numbers
clean_digits : (l : List ℕ) → Digits l → Clean l
clean_digits [] d = clean_nil
clean_digits (b ∷ l) d = clean_cons b l (omega (arith, d.0.1)) (clean_digits l d.1)

clean_decimal : (n : ℕ) → Clean (decimal n)
clean_decimal n = clean_digits (decimal n) (decimal_digits n)

-- ---- strings
letter_below : (n : ℕ) → n < 16 → hex_letter n < 0x80
unfolding hex_letter
letter_below n h = go (ltb n 10)
  where
    go : (t : Bool) → cond t (0x30 + n) (0x57 + n) < 0x80
    go true = omega arith
    go false = omega arith

short_clean : (x : ℕ) → ltb x 0x80 ≡ true → Clean (0x5C ∷ x ∷ [])
unfolding below
short_clean x e = clean_cons 0x5C (x ∷ []) (omega arith) (clean_cons x [] (ltb-true x 0x80 e) clean_nil)

control_clean : (b : ℕ) → b < 0x80 → Clean (0x5C ∷ 0x75 ∷ 0x30 ∷ 0x30 ∷ hex_letter (b / 16) ∷ hex_letter (b % 16) ∷ [])
control_clean b h =
    clean_cons 0x5C _ (omega arith) (clean_cons 0x75 _ (omega arith) (clean_cons 0x30 _ (omega arith) (clean_cons 0x30 _ (omega arith)
    (clean_cons (hex_letter (b / 16)) _ (letter_below (b / 16) (omega arith)) (clean_cons (hex_letter (b % 16)) [] (letter_below (b % 16) (omega arith)) clean_nil)))))

escaped_clean : (b : ℕ) → b < 0x80 → Clean (escaped b)
unfolding escaped
escaped_clean b h =
    clean_cond (eqb b 0x22) _ _ (short_clean 0x22 refl) (clean_cond (eqb b 0x5C) _ _ (short_clean 0x5C refl) (clean_cond (ltb b 0x20) _ _
    (clean_cond (eqb b 0x08) _ _ (short_clean 0x62 refl) (clean_cond (eqb b 0x09) _ _ (short_clean 0x74 refl) (clean_cond (eqb b 0x0A) _ _ (short_clean 0x6E refl)
    (clean_cond (eqb b 0x0C) _ _ (short_clean 0x66 refl) (clean_cond (eqb b 0x0D) _ _ (short_clean 0x72 refl) (control_clean b h))))))
    (clean_cons b [] h clean_nil)))

escaped_append : (a b : List ℕ) → escaped_all (a ++ b) ≡ escaped_all a ++ escaped_all b
unfolding escaped_all
escaped_append [] b = refl
escaped_append (x ∷ a) b = ap (λ (l : List ℕ). escaped x ++ l) (escaped_append a b) ∙ sym (append_assoc (escaped x) (escaped_all a) (escaped_all b))

abbrev High : List ℕ → Type 0
High [] = Unit {0}
High (b ∷ l) = (0x80 ≤ b) × High l

high_stays : (l : List ℕ) → High l → escaped_all l ≡ l
unfolding escaped_all
high_stays [] h = refl
high_stays (b ∷ l) h = ap₂ (λ (x y : List ℕ). x ++ y) (plain_is b (omega (arith, h.0)) (λ e. omega (arith, h.0)) (λ e. omega (arith, h.0))) (high_stays l h.1)

one_clean : (u : ℕ) → Scalar u → Clean (escaped_all (encode u))
unfolding escaped_all
one_clean u s = low (ltb u 0x80) refl
  where
    stays : High (encode u) → Clean (escaped_all (encode u))
    stays h = subst Clean (sym (high_stays (encode u) h)) (record { same = λ r. utf8_encoded u s r })

    upper : (x : Bool) → ltb u 0x800 ≡ x → 0x80 ≤ u → Clean (escaped_all (encode u))
    upper true e l = stays (subst High (enc_2 u l (ltb-true u 0x800 e)) (omega arith, (omega arith, tt)))
    upper false e l = top (ltb u 0x10000) refl (ltb-false u 0x800 e)
      where
        top : (x : Bool) → ltb u 0x10000 ≡ x → 0x800 ≤ u → Clean (escaped_all (encode u))
        top true f k = stays (subst High (enc_3 u k (ltb-true u 0x10000 f)) (omega arith, (omega arith, (omega arith, tt))))
        top false f k = stays (subst High (enc_4 u (ltb-false u 0x10000 f)) (omega arith, (omega arith, (omega arith, (omega arith, tt)))))

    low : (x : Bool) → ltb u 0x80 ≡ x → Clean (escaped_all (encode u))
    low true e = subst (λ (l : List ℕ). Clean (escaped_all l)) (enc_1 u (ltb-true u 0x80 e)) (subst Clean (sym (append-nil (escaped u))) (escaped_clean u (ltb-true u 0x80 e)))
    low false e = upper (ltb u 0x800) refl (ltb-false u 0x80 e)

all_clean : (us : List ℕ) → Scalars us → Clean (escaped_all (encode_all us))
unfolding encode_all escaped_all
all_clean us none = clean_nil
all_clean us (more {u = u} {us = vs} k r) =
    subst Clean (sym (escaped_append (encode u) (encode_all vs))) (clean_append (escaped_all (encode u)) (escaped_all (encode_all vs)) (one_clean u k) (all_clean vs r))

clean_quoted : (p : List ℕ) → utf8 p ≡ true → Clean (quoted p)
unfolding quoted
clean_quoted p e =
    let w = only_those p e in
    clean_cons 0x22 (escaped_all p ++ 0x22 ∷ []) (omega arith)
    (clean_append (escaped_all p) (0x22 ∷ []) (subst (λ (l : List ℕ). Clean (escaped_all l)) (sym w.2) (all_clean w.0 w.1)) (clean_cons 0x22 [] (omega arith) clean_nil))

-- ---- the pretty form
abbrev CleanAll : List (List ℕ) → Type 0
CleanAll [] = Unit {0}
CleanAll (v ∷ vs) = Clean v × CleanAll vs

lines_clean : (p x : List ℕ) (ys : List (List ℕ)) → Clean p → CleanAll (x ∷ ys) → Clean (item_lines p x ys)
unfolding item_lines
lines_clean p x [] f h = clean_append p x f h.0
lines_clean p x (y ∷ ys) f h = clean_append (p ++ x) (0x2C ∷ item_lines p y ys) (clean_append p x f h.0) (clean_cons 0x2C (item_lines p y ys) (omega arith) (lines_clean p y ys f h.1))

member_clean : (n v : List ℕ) → Clean (quoted n) → Clean v → Clean (member_line (field n v))
member_clean n v f g = clean_append (quoted n) (0x3A ∷ 0x20 ∷ v) f (clean_cons 0x3A (0x20 ∷ v) (omega arith) (clean_cons 0x20 v (omega arith) g))

around_clean : (a b : ℕ) (l q : List ℕ) → a < 0x80 → b < 0x80 → Clean l → Clean q → Clean (a ∷ (l ++ q) ++ b ∷ [])
around_clean a b l q ha hb f g = clean_cons a ((l ++ q) ++ b ∷ []) ha (clean_append (l ++ q) (b ∷ []) (clean_append l q f g) (clean_cons b [] hb clean_nil))

name_clean : (n : List ℕ) → below (quoted n) ≡ true → Clean (quoted n)
name_clean n e = clean_below (quoted n) e

clean2 : Clean line2
unfolding below
clean2 = clean_below line2 refl

clean0 : Clean line0
unfolding below
clean0 = clean_below line0 refl

clean4 : Clean line4
unfolding below
clean4 = clean_below line4 refl

clean6 : Clean line6
unfolding below
clean6 = clean_below line6 refl

segment_clean : (x : Segment) → Clean (segment_text x)
unfolding segment_text pretty_object below quoted escaped_all escaped
segment_clean x =
    around_clean 0x7B 0x7D (item_lines line6 (member_line (segment_first x)) (member_lines (segment_rest x))) line4 (omega arith) (omega arith)
    (lines_clean line6 (member_line (segment_first x)) (member_lines (segment_rest x)) clean6 (
      member_clean first_name _ (name_clean first_name refl) (clean_decimal x.source_start_frame),
      (
        member_clean last_name _ (name_clean last_name refl) (clean_decimal x.source_end_frame),
        (
          member_clean source_name _ (name_clean source_name refl) (clean_decimal x.source_start_dts),
          (
            member_clean count_name _ (name_clean count_name refl) (clean_decimal x.frame_count),
            (
              member_clean output_name _ (name_clean output_name refl) (clean_decimal x.output_start),
              (member_clean duration_name _ (name_clean duration_name refl) (clean_decimal x.duration), tt),
            ),
          ),
        ),
      ),
    )) clean4

segments_clean : (xs : List Segment) → CleanAll (segment_texts xs)
segments_clean [] = tt
segments_clean (x ∷ xs) = (segment_clean x, segments_clean xs)

list_clean : (xs : List Segment) → Clean (list_text xs)
unfolding pretty_array
list_clean [] = clean_cons 0x5B (0x5D ∷ []) (omega arith) (clean_cons 0x5D [] (omega arith) clean_nil)
list_clean (x ∷ xs) =
    around_clean 0x5B 0x5D (item_lines line4 (segment_text x) (segment_texts xs)) line2 (omega arith) (omega arith)
    (lines_clean line4 (segment_text x) (segment_texts xs) clean4 (segments_clean (x ∷ xs))) clean2

map_clean : (T num den : ℕ) (path : List ℕ) (frames : ℕ) (xs : List Segment) → utf8 path ≡ true → Clean (map_text T num den path frames xs)
unfolding map_text pretty_object below quoted escaped_all escaped
map_clean T num den path frames xs e =
    clean_append (pretty_object line2 line0 (field timescale_name (decimal T)) (map_rest num den path frames xs)) line0
    (around_clean 0x7B 0x7D (item_lines line2 (member_line (field timescale_name (decimal T))) (member_lines (map_rest num den path frames xs))) line0 (omega arith) (omega arith)
    (lines_clean line2 (member_line (field timescale_name (decimal T))) (member_lines (map_rest num den path frames xs)) clean2 (
      member_clean timescale_name _ (name_clean timescale_name refl) (clean_decimal T),
      (
        member_clean rate_num_name _ (name_clean rate_num_name refl) (clean_decimal num),
        (
          member_clean rate_den_name _ (name_clean rate_den_name refl) (clean_decimal den),
          (
            member_clean input_name _ (name_clean input_name refl) (clean_quoted path e),
            (
              member_clean frames_name _ (name_clean frames_name refl) (clean_decimal frames),
              (member_clean segments_name _ (name_clean segments_name refl) (list_clean xs), tt),
            ),
          ),
        ),
      ),
    )) clean0) clean0

pub text_utf8 : (T num den : ℕ) (path : List ℕ) (frames : ℕ) (xs : List Segment) → utf8 path ≡ true → utf8 (map_text T num den path frames xs) ≡ true
text_utf8 T num den path frames xs e = ap utf8 (sym (append-nil (map_text T num den path frames xs))) ∙ (map_clean T num den path frames xs e).same [] ∙ sym (utf8_end [] (omega arith))
