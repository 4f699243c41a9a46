-- What is written is read back.
use Prim.Native.Nat.{ℕ, ◌≤◌}
use mathlib.Core.Path.{◌≡◌, refl, ap, ap₂, sym, subst, ◌∙◌}
use mathlib.Core.Bool.{true, ◌&&◌}
use mathlib.Core.List.{List, [], ◌∷◌, ◌++◌, append-nil}
use lib.Dec.{eqb}
use lib.ListN.{length, get_or, length-append}
use native.Mathlib.Omega.{arith}
use borrow.Author.Tests.{eq-eqb, le-leb}
use Rattle.spec_base.specs.base.Limits.{most_frame}
use Rattle.spec_text.specs.utf8.Utf8.{utf8}
use Rattle.spec_text.specs.pattern.Find.{equals}
use Rattle.spec_map.specs.declared.segment.Segment.{Segment}
use Rattle.spec_map.specs.segment.Segment.{segment}
use Rattle.spec_json.specs.json.Space.{is_space, padded}
use Rattle.spec_json.specs.json.Str.{string_bytes}
use Rattle.spec_json.specs.json.Value.{value_width}
use Rattle.spec_json.specs.json.Member.{Member, bare, elements_of, members_of, values_of, field_of}
use Rattle.spec_json.specs.json.Quote.{quoted, decimal}
use Rattle.spec_json.specs.json.Pretty.{pretty_object, pretty_array}
use Rattle.spec_json.proofs.json.StringBack.{string_bytes_lem}
use Rattle.spec_json.proofs.json.NumberBack.{decimal_plain, decimal_value}
use Rattle.spec_json.proofs.json.ValueBack.{AllSpace, Bare, Ends, ends_lf, IsValue, number_value, string_value, padded_back, ends_space, stop_lf}
use Rattle.spec_json.proofs.json.ObjectBack.{Object, AllObjects, AllValues, object_laid, object_value, object_members, array_laid, array_value, array_elements, none_value, none_elements, bare_back}
use Rattle.spec_map_json.specs.map_json_write.Names.{timescale_name, rate_num_name, rate_den_name, input_name, frames_name, segments_name, first_name, last_name, source_name, count_name, output_name, duration_name, most_path, most_word}
use Rattle.spec_map_json.specs.map_json_write.Text.{field, line0, line2, line4, line6, segment_first, segment_rest, segment_text, segment_texts, list_text, map_rest, map_text}
use Rattle.spec_map_json.specs.map_json_write.Reads.{short, long, number_of, segment_said, segment_from, segments_said, segments_from, fields, shallow, path_said, list_said, fields_said, is_map_text, Said, map_said}

space2 : AllSpace line2
unfolding is_space
space2 = (refl, (refl, (refl, tt)))

space4 : AllSpace line4
unfolding is_space
space4 = (refl, (refl, (refl, (refl, (refl, tt)))))

space6 : AllSpace line6
unfolding is_space
space6 = (refl, (refl, (refl, (refl, (refl, (refl, (refl, tt)))))))

end0 : Ends line0
end0 = ends_lf tt

end2 : Ends line2
unfolding is_space
end2 = ends_lf {w = 0x20 ∷ 0x20 ∷ []} (refl, (refl, tt))

end4 : Ends line4
unfolding is_space
end4 = ends_lf {w = 0x20 ∷ 0x20 ∷ 0x20 ∷ 0x20 ∷ []} (refl, (refl, (refl, (refl, tt))))

-- ---- a segment
pub record Narrow (x : Segment) : Type 0 where
  pub first : x.source_start_frame ≤ most_frame
  pub last : x.source_end_frame ≤ most_frame
  pub source : x.source_start_dts ≤ most_word
  pub frames : x.frame_count ≤ most_frame
  pub output : x.output_start ≤ most_word
  pub span : x.duration ≤ most_word

segment_values : (x : Segment) → AllValues 8 (segment_first x ∷ segment_rest x)
segment_values x =
    (number_value 8 x.source_start_frame, (number_value 8 x.source_end_frame, (number_value 8 x.source_start_dts, (number_value 8 x.frame_count, (number_value 8 x.output_start, (number_value 8 x.duration, tt))))))

segment_object : (x : Segment) → Object 9 (segment_text x)
unfolding segment_text
segment_object x =
    record {
      inner = _;
      is = object_laid 8 line6 line4 (segment_first x) (segment_rest x);
      value = subst (IsValue (value_width 9)) (sym (object_laid 8 line6 line4 (segment_first x) (segment_rest x))) (object_value 8 line6 line4 space6 end4 (segment_first x) (segment_rest x) (segment_values x));
    }

segment_members : (x : Segment) → members_of 8 (segment_text x) ≡ segment_first x ∷ segment_rest x
unfolding segment_text
segment_members x =
    ap (members_of 8) (object_laid 8 line6 line4 (segment_first x) (segment_rest x)) ∙ object_members 8 line6 line4 space6 end4 (segment_first x) (segment_rest x) (segment_values x)

brace : (x : Segment) → eqb (get_or (segment_text x) 0 0) 0x7B ≡ true
unfolding segment_text pretty_object
brace x = refl

numbers_said : (x : Segment) → Narrow x → (ms : List Member) → ms ≡ segment_first x ∷ segment_rest x
    → (short first_name ms && (short last_name ms && (long source_name ms && (short count_name ms && (long output_name ms && long duration_name ms))))) ≡ true
unfolding field_of values_of equals
numbers_said x n ms e =
    rw (
      e,
      decimal_plain most_frame x.source_start_frame n.first,
      decimal_plain most_frame x.source_end_frame n.last,
      decimal_plain most_word x.source_start_dts n.source,
      decimal_plain most_frame x.frame_count n.frames,
      decimal_plain most_word x.output_start n.output,
      decimal_plain most_word x.duration n.span,
    )

segment_said_lem : (x : Segment) → Narrow x → segment_said (segment_text x) ≡ true
unfolding segment_said
segment_said_lem x n = rw (brace x) (numbers_said x n (members_of 8 (segment_text x)) (segment_members x))

numbers_from : (x : Segment) (ms : List Member) → ms ≡ segment_first x ∷ segment_rest x
    → segment (number_of first_name ms) (number_of last_name ms) (number_of source_name ms) (number_of count_name ms) (number_of output_name ms) (number_of duration_name ms) ≡ x
unfolding field_of values_of equals
numbers_from x ms e =
    ap (λ (l : List Member). segment (number_of first_name l) (number_of last_name l) (number_of source_name l) (number_of count_name l) (number_of output_name l) (number_of duration_name l)) e
    ∙ (λ i. segment (decimal_value x.source_start_frame i) (decimal_value x.source_end_frame i) (decimal_value x.source_start_dts i) (decimal_value x.frame_count i) (decimal_value x.output_start i) (decimal_value x.duration i))

segment_from_lem : (x : Segment) → segment_from (segment_text x) ≡ x
unfolding segment_from
segment_from_lem x = numbers_from x (members_of 8 (segment_text x)) (segment_members x)

-- ---- the array of segments
abbrev pub AllNarrow : List Segment → Type 0
AllNarrow [] = Unit {0}
AllNarrow (x ∷ xs) = Narrow x × AllNarrow xs

objects : (xs : List Segment) → AllObjects 9 (segment_texts xs)
objects [] = tt
objects (x ∷ xs) = (segment_object x, objects xs)

list_value : (xs : List Segment) → IsValue (value_width 10) (list_text xs)
list_value [] = none_value 9
list_value (x ∷ xs) =
    subst (IsValue (value_width 10)) (sym (array_laid 9 line4 line2 (segment_text x) (segment_texts xs))) (array_value 9 line4 line2 space4 end2 (segment_text x) (segment_texts xs) (objects (x ∷ xs)))

list_elements : (xs : List Segment) → elements_of 9 (list_text xs) ≡ segment_texts xs
list_elements [] = none_elements 9
list_elements (x ∷ xs) =
    ap (elements_of 9) (array_laid 9 line4 line2 (segment_text x) (segment_texts xs)) ∙ array_elements 9 line4 line2 space4 end2 (segment_text x) (segment_texts xs) (objects (x ∷ xs))

bracket : (xs : List Segment) → eqb (get_or (list_text xs) 0 0) 0x5B ≡ true
unfolding pretty_array
bracket [] = refl
bracket (x ∷ xs) = refl

segments_said_lem : (xs : List Segment) → AllNarrow xs → segments_said (segment_texts xs) ≡ true
unfolding segments_said
segments_said_lem [] n = refl
segments_said_lem (x ∷ xs) n = rw (segment_said_lem x n.0) (segments_said_lem xs n.1)

segments_from_lem : (xs : List Segment) → segments_from (segment_texts xs) ≡ xs
unfolding segments_from
segments_from_lem [] = refl
segments_from_lem (x ∷ xs) = ap₂ (λ (y : Segment) (l : List Segment). y ∷ l) (segment_from_lem x) (segments_from_lem xs)

list_said_lem : (xs : List Segment) → AllNarrow xs → list_said (list_text xs) ≡ true
list_said_lem xs n = rw (bracket xs) (ap segments_said (list_elements xs) ∙ segments_said_lem xs n)

path_back : (p : List ℕ) → string_bytes (quoted p) ≡ p
path_back p = ap string_bytes (sym (append-nil (quoted p))) ∙ string_bytes_lem p []

-- ---- the map
module _ (T num den : ℕ) (path : List ℕ) (frames : ℕ) (xs : List Segment) where
  abbrev F : Member
  F = field timescale_name (decimal T)

  abbrev FS : List Member
  FS = map_rest num den path frames xs

  X : List ℕ
  X = pretty_object line2 line0 F FS

  map_values : AllValues 10 (F ∷ FS)
  map_values = (number_value 10 T, (number_value 10 num, (number_value 10 den, (string_value 10 path, (number_value 10 frames, (list_value xs, tt))))))

  map_value : IsValue (value_width 11) X
  unfolding X
  map_value = subst (IsValue (value_width 11)) (sym (object_laid 10 line2 line0 F FS)) (object_value 10 line2 line0 space2 end0 F FS map_values)

  text_is : map_text T num den path frames xs ≡ X ++ line0
  unfolding map_text X
  text_is = refl

  bare_is : bare 11 (map_text T num den path frames xs) ≡ X
  bare_is = ap (bare 11) text_is ∙ bare_back 11 [] X line0 tt map_value end0

  fields_are : fields (map_text T num den path frames xs) ≡ F ∷ FS
  unfolding X
  fields_are = ap (members_of 10) (bare_is ∙ object_laid 10 line2 line0 F FS) ∙ object_members 10 line2 line0 space2 end0 F FS map_values

  none_bare : Bare []
  unfolding is_space
  none_bare = refl

  whole : padded (value_width 11) (map_text T num den path frames xs) ≡ length (map_text T num den path frames xs)
  whole =
      let f = map_value in
      let e : map_text T num den path frames xs ≡ [] ++ (X ++ (line0 ++ [])) = text_is ∙ refl in
      ap (padded (value_width 11)) e
      ∙ padded_back (value_width 11) [] X line0 [] f.less tt (ends_space end0) f.bare_value none_bare f.size (f.taken (line0 ++ []) (stop_lf []))
      ∙ omega (arith, length-append X line0, ap length text_is)

  top_brace : eqb (get_or (bare 11 (map_text T num den path frames xs)) 0 0) 0x7B ≡ true
  unfolding X pretty_object
  top_brace = ap (λ (l : List ℕ). eqb (get_or l 0 0) 0x7B) bare_is

  module _ (hT : T ≤ most_frame) (hn : num ≤ most_frame) (hd : den ≤ most_frame) (hf : frames ≤ most_frame) (hp : length path ≤ most_path) (nx : AllNarrow xs) where
    path_said_lem : path_said (quoted path) ≡ true
    unfolding quoted
    path_said_lem = rw (ap (λ (l : List ℕ). length l) (path_back path)) (le-leb (length path) most_path hp)

    fields_said_lem : (ms : List Member) → ms ≡ F ∷ FS → fields_said ms ≡ true
    unfolding fields_said field_of values_of equals shallow
    fields_said_lem ms e =
        rw (e, decimal_plain most_frame T hT, decimal_plain most_frame num hn, decimal_plain most_frame den hd, path_said_lem, decimal_plain most_frame frames hf, list_said_lem xs nx)

    pub is_map : utf8 (map_text T num den path frames xs) ≡ true → is_map_text (map_text T num den path frames xs) ≡ true
    unfolding is_map_text
    is_map u = rw (u, eq-eqb _ _ whole, top_brace) (fields_said_lem (fields (map_text T num den path frames xs)) fields_are)

  said_by : (ms : List Member) → ms ≡ F ∷ FS
      → ◌≡◌ {A = Said} (record {
        timescale = number_of timescale_name ms;
        rate_num = number_of rate_num_name ms;
        rate_den = number_of rate_den_name ms;
        path = string_bytes (field_of input_name ms);
        frames = number_of frames_name ms;
        segments = segments_from (elements_of 9 (field_of segments_name ms));
      }) (record { timescale = T; rate_num = num; rate_den = den; path = path; frames = frames; segments = xs })
  unfolding field_of values_of equals
  said_by ms e =
      ap (λ (l : List Member). record {
        timescale = number_of timescale_name l;
        rate_num = number_of rate_num_name l;
        rate_den = number_of rate_den_name l;
        path = string_bytes (field_of input_name l);
        frames = number_of frames_name l;
        segments = segments_from (elements_of 9 (field_of segments_name l));
      }) e
      ∙ (λ i. record {
        timescale = decimal_value T i;
        rate_num = decimal_value num i;
        rate_den = decimal_value den i;
        path = path_back path i;
        frames = decimal_value frames i;
        segments = (ap segments_from (list_elements xs) ∙ segments_from_lem xs) i;
      })

  pub said_is : map_said (map_text T num den path frames xs) ≡ record { timescale = T; rate_num = num; rate_den = den; path = path; frames = frames; segments = xs }
  unfolding map_said
  said_is = said_by (fields (map_text T num den path frames xs)) fields_are
