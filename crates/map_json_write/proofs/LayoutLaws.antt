-- The text of a map as its pieces one behind the other.
use mathlib.Core.Path.{◌≡◌, refl, sym, ap, subst, ◌∙◌}
use mathlib.Core.List.{List, [], ◌∷◌, ◌++◌, append_assoc, append-nil}
use Prim.Native.Nat.{ℕ, ◌+◌, ◌*◌, ◌-◌, ◌≤◌, ◌<◌}
use native.Mathlib.Omega.{arith}
use lib.ListN.{length, drop, get_or, length-drop, length-append}
use lib.Seq.{drop_at}
use Rattle.spec_base.specs.base.Ascii.{ascii}
use Rattle.spec_map.specs.declared.segment.Segment.{Segment}
use Rattle.spec_map.specs.segment.Segment.{segment, segments_of}
use Rattle.spec_map.proofs.segment.SegmentLaws.{segments_cut, segments_short}
use Rattle.spec_json.specs.json.Member.{Member}
use Rattle.spec_json.specs.json.Quote.{escaped, escaped_all, quoted, decimal}
use Rattle.spec_json.specs.json.Pretty.{item_lines, member_line, member_lines, pretty_object, pretty_array}
use Rattle.spec_map_json.specs.map_json_write.Text.{field, line0, line2, line4, line6, segment_first, segment_rest, segment_text, segment_texts, list_text, map_rest, map_text}
use Rattle.spec_map_json.specs.map_json_write.Names.{timescale_name, rate_num_name, rate_den_name, input_name, frames_name, segments_name}
use Rattle.map_json_write.specs.Written.{Written, three_text, segment_at, front_text, back_text, rates_text, path_text, head_text, tail_text, rest_text}
use Rattle.map_json_write.proofs.WrittenLaws.{written_then, written_is}
use Rattle.spec_base.proofs.base.PutLaws.{put_at_nil}

-- ---- an object with what stands behind its members
abbrev fields_then_lem : (p : List ℕ) → Member → List Member → List ℕ → List ℕ
fields_then_lem p f [] z = p ++ (quoted f.name ++ (0x3A ∷ 0x20 ∷ (f.value ++ z)))
fields_then_lem p f (g ∷ gs) z = p ++ (quoted f.name ++ (0x3A ∷ 0x20 ∷ (f.value ++ (0x2C ∷ fields_then_lem p g gs z))))

line_then_lem : (p : List ℕ) (f : Member) (z : List ℕ) → (p ++ member_line f) ++ z ≡ p ++ (quoted f.name ++ (0x3A ∷ 0x20 ∷ (f.value ++ z)))
line_then_lem p f z = append_assoc p (member_line f) z ∙ ap (λ (x : List ℕ). p ++ x) (append_assoc (quoted f.name) (0x3A ∷ 0x20 ∷ f.value) z)

fields_then : (p : List ℕ) (f : Member) (fs : List Member) (z : List ℕ) → item_lines p (member_line f) (member_lines fs) ++ z ≡ fields_then_lem p f fs z
unfolding item_lines
fields_then p f [] z = line_then_lem p f z
fields_then p f (g ∷ gs) z =
    append_assoc (p ++ member_line f) (0x2C ∷ item_lines p (member_line g) (member_lines gs)) z
    ∙ ap (λ (x : List ℕ). (p ++ member_line f) ++ (0x2C ∷ x)) (fields_then p g gs z)
    ∙ line_then_lem p f (0x2C ∷ fields_then_lem p g gs z)

object_then : (p q : List ℕ) (f : Member) (fs : List Member) (z : List ℕ) → pretty_object p q f fs ++ z ≡ 0x7B ∷ fields_then_lem p f fs (q ++ (0x7D ∷ z))
unfolding pretty_object
object_then p q f fs z =
    ap (λ (x : List ℕ). 0x7B ∷ x)
    (append_assoc (item_lines p (member_line f) (member_lines fs) ++ q) (0x7D ∷ []) z
    ∙ append_assoc (item_lines p (member_line f) (member_lines fs)) q (0x7D ∷ z)
    ∙ fields_then p f fs (q ++ (0x7D ∷ z)))

three_then : (la : List ℕ) (a : ℕ) (lb : List ℕ) (b : ℕ) (lc : List ℕ) (c : ℕ) (z : List ℕ)
    → three_text la a lb b lc c ++ z ≡ la ++ (decimal a ++ (lb ++ (decimal b ++ (lc ++ (decimal c ++ z)))))
three_then la a lb b lc c z =
    append_assoc (la ++ decimal a) ((lb ++ decimal b) ++ (lc ++ decimal c)) z
    ∙ append_assoc la (decimal a) (((lb ++ decimal b) ++ (lc ++ decimal c)) ++ z)
    ∙ ap (λ (x : List ℕ). la ++ (decimal a ++ x))
    (append_assoc (lb ++ decimal b) (lc ++ decimal c) z
    ∙ append_assoc lb (decimal b) ((lc ++ decimal c) ++ z)
    ∙ ap (λ (x : List ℕ). lb ++ (decimal b ++ x)) (append_assoc lc (decimal c) z))

-- ---- a segment
segment_laid : (x : Segment) → 0x7B ∷ fields_then_lem line6 (segment_first x) (segment_rest x) (line4 ++ (0x7D ∷ []))
    ≡ (0x7B ∷ 0x0A ∷ ascii "      \"source_start_frame\": ") ++ (decimal x.source_start_frame ++ ((0x2C ∷ 0x0A ∷ ascii "      \"source_end_frame\": ") ++ (decimal x.source_end_frame
    ++ ((0x2C ∷ 0x0A ∷ ascii "      \"source_start_dts\": ") ++ (decimal x.source_start_dts ++ ((0x2C ∷ 0x0A ∷ ascii "      \"frame_count\": ") ++ (decimal x.frame_count
    ++ ((0x2C ∷ 0x0A ∷ ascii "      \"output_start\": ") ++ (decimal x.output_start ++ ((0x2C ∷ 0x0A ∷ ascii "      \"duration\": ") ++ (decimal x.duration ++ (0x0A ∷ ascii "    }"))))))))))))
unfolding quoted escaped_all escaped
segment_laid x = refl

segment_flat : (x : Segment)
    → three_text (0x7B ∷ 0x0A ∷ ascii "      \"source_start_frame\": ") x.source_start_frame (0x2C ∷ 0x0A ∷ ascii "      \"source_end_frame\": ") x.source_end_frame (0x2C ∷ 0x0A ∷ ascii "      \"source_start_dts\": ") x.source_start_dts
    ++ (three_text (0x2C ∷ 0x0A ∷ ascii "      \"frame_count\": ") x.frame_count (0x2C ∷ 0x0A ∷ ascii "      \"output_start\": ") x.output_start (0x2C ∷ 0x0A ∷ ascii "      \"duration\": ") x.duration
    ++ (0x0A ∷ ascii "    }")) ≡ segment_text x
unfolding segment_text
segment_flat x =
    ap (λ (y : List ℕ). three_text (0x7B ∷ 0x0A ∷ ascii "      \"source_start_frame\": ") x.source_start_frame (0x2C ∷ 0x0A ∷ ascii "      \"source_end_frame\": ") x.source_end_frame (0x2C ∷ 0x0A ∷ ascii "      \"source_start_dts\": ") x.source_start_dts ++ y)
    (three_then (0x2C ∷ 0x0A ∷ ascii "      \"frame_count\": ") x.frame_count (0x2C ∷ 0x0A ∷ ascii "      \"output_start\": ") x.output_start (0x2C ∷ 0x0A ∷ ascii "      \"duration\": ") x.duration (0x0A ∷ ascii "    }"))
    ∙ three_then (0x7B ∷ 0x0A ∷ ascii "      \"source_start_frame\": ") x.source_start_frame (0x2C ∷ 0x0A ∷ ascii "      \"source_end_frame\": ") x.source_end_frame (0x2C ∷ 0x0A ∷ ascii "      \"source_start_dts\": ") x.source_start_dts _
    ∙ sym (segment_laid x)
    ∙ sym (object_then line6 line4 (segment_first x) (segment_rest x) [])
    ∙ append-nil (pretty_object line6 line4 (segment_first x) (segment_rest x))

parts_are : (a b c d e f : ℕ) → front_text a b c ++ back_text d e f ≡ segment_text (segment a b c d e f)
unfolding front_text back_text
parts_are a b c d e f = segment_flat (segment a b c d e f)

pub front_written : (at r a b c : ℕ) (l l' : List ℕ)
    → Written at (three_text (0x7B ∷ 0x0A ∷ ascii "      \"source_start_frame\": ") a (0x2C ∷ 0x0A ∷ ascii "      \"source_end_frame\": ") b (0x2C ∷ 0x0A ∷ ascii "      \"source_start_dts\": ") c) l r l'
    → Written at (front_text a b c) l r l'
unfolding front_text
front_written at r a b c l l' x = x

pub back_written : (at p r d e f : ℕ) (l l₁ l₂ : List ℕ)
    → Written at (three_text (0x2C ∷ 0x0A ∷ ascii "      \"frame_count\": ") d (0x2C ∷ 0x0A ∷ ascii "      \"output_start\": ") e (0x2C ∷ 0x0A ∷ ascii "      \"duration\": ") f) l p l₁
    → Written p (0x0A ∷ ascii "    }") l₁ r l₂ → Written at (back_text d e f) l r l₂
unfolding back_text
back_written at p r d e f l l₁ l₂ x y = written_then at p r _ _ l l₁ l₂ x y

pub segment_written : (at p r a b c d e f : ℕ) (t l l₁ l₂ : List ℕ) → a ≡ get_or t 0 0 → b ≡ get_or t 1 0 → c ≡ get_or t 2 0 → d ≡ get_or t 3 0 → e ≡ get_or t 4 0 → f ≡ get_or t 5 0
    → Written at (front_text a b c) l p l₁ → Written p (back_text d e f) l₁ r l₂ → Written at (segment_text (segment_at t)) l r l₂
segment_written at p r a b c d e f t l l₁ l₂ ea eb ec ed ee ef x y =
    written_is at r _ (segment_text (segment_at t)) l l₂
    (parts_are a b c d e f
    ∙ ap (λ (k : ℕ). segment_text (segment k b c d e f)) ea ∙ ap (λ (k : ℕ). segment_text (segment (get_or t 0 0) k c d e f)) eb ∙ ap (λ (k : ℕ). segment_text (segment (get_or t 0 0) (get_or t 1 0) k d e f)) ec
    ∙ ap (λ (k : ℕ). segment_text (segment (get_or t 0 0) (get_or t 1 0) (get_or t 2 0) k e f)) ed ∙ ap (λ (k : ℕ). segment_text (segment (get_or t 0 0) (get_or t 1 0) (get_or t 2 0) (get_or t 3 0) k f)) ee
    ∙ ap (λ (k : ℕ). segment_text (segment (get_or t 0 0) (get_or t 1 0) (get_or t 2 0) (get_or t 3 0) (get_or t 4 0) k)) ef)
    (written_then at p r (front_text a b c) (back_text d e f) l l₁ l₂ x y)

-- ---- the list
rest_then : (x : Segment) (xs : List Segment) → item_lines line4 (segment_text x) (segment_texts xs) ++ (line2 ++ 0x5D ∷ []) ≡ (line4 ++ segment_text x) ++ rest_text xs
unfolding item_lines
rest_then x [] = refl
rest_then x (y ∷ ys) =
    append_assoc (line4 ++ segment_text x) (0x2C ∷ item_lines line4 (segment_text y) (segment_texts ys)) (line2 ++ 0x5D ∷ [])
    ∙ ap (λ (z : List ℕ). (line4 ++ segment_text x) ++ (0x2C ∷ z)) (rest_then y ys)

list_then : (x : Segment) (xs : List Segment) → list_text (x ∷ xs) ≡ ((0x5B ∷ line4) ++ segment_text x) ++ rest_text xs
unfolding pretty_array
list_then x xs = ap (λ (z : List ℕ). 0x5B ∷ z) (append_assoc (item_lines line4 (segment_text x) (segment_texts xs)) line2 (0x5D ∷ []) ∙ rest_then x xs)

-- X is the whole text, y what is left of it to be written
pub record Begun (X y : List ℕ) (at : ℕ) (l₀ l : List ℕ) (p : ℕ) : Type 0 where
  pub front : List ℕ
  pub whole : X ≡ front ++ y
  pub done : Written at front l₀ p l

pub begun_end : (X y : List ℕ) (at p r : ℕ) (l₀ l l' : List ℕ) → Begun X y at l₀ l p → Written p y l r l' → Written at X l₀ r l'
begun_end X y at p r l₀ l l' b w = written_is at r (b.front ++ y) X l₀ l' (sym b.whole) (written_then at p r b.front y l₀ l l' b.done w)

begun_more : (X x y : List ℕ) (at p r : ℕ) (l₀ l l' : List ℕ) → Begun X (x ++ y) at l₀ l p → Written p x l r l' → Begun X y at l₀ l' r
begun_more X x y at p r l₀ l l' b w =
    record { front = b.front ++ x; whole = b.whole ∙ sym (append_assoc b.front x y); done = written_then at p r b.front x l₀ l l' b.done w }

-- the same of a map m of which the segments of t are left
pub record ListBegun (m t : List ℕ) (at : ℕ) (l₀ l : List ℕ) (p : ℕ) : Type 0 where
  pub begun : Begun (rest_text (segments_of m)) (rest_text (segments_of t)) at l₀ l p

pub list_none : (m : List ℕ) (at r : ℕ) (l l' : List ℕ) → length m < 6 → Written at (0x5B ∷ 0x5D ∷ []) l r l' → Written at (list_text (segments_of m)) l r l'
list_none m at r l l' h w = written_is at r (0x5B ∷ 0x5D ∷ []) (list_text (segments_of m)) l l' (ap (λ (x : List Segment). list_text x) (sym (segments_short m h))) w

segments_at : (m t : List ℕ) → 6 ≤ length m → t ≡ drop 6 m → segments_of m ≡ segment_at m ∷ segments_of t
segments_at m t h d = segments_cut m h ∙ ap (λ (x : List ℕ). segment_at m ∷ segments_of x) (sym d)

pub list_start : (m t : List ℕ) (at : ℕ) (l : List ℕ) → t ≡ m → ListBegun m t at l l at
list_start m t at l e = record {
  begun = record { front = []; whole = ap (λ (x : List ℕ). rest_text (segments_of x)) (sym e); done = record { place = omega arith; bytes = λ h. sym (put_at_nil at l) } };
}

pub list_written : (m t : List ℕ) (at p r : ℕ) (l l₁ l₂ : List ℕ) → 6 ≤ length m → t ≡ drop 6 m → Written at ((0x5B ∷ line4) ++ segment_text (segment_at m)) l p l₁ → Written p (rest_text (segments_of t)) l₁ r l₂
    → Written at (list_text (segments_of m)) l r l₂
list_written m t at p r l l₁ l₂ h d x y =
    written_is at r (((0x5B ∷ line4) ++ segment_text (segment_at m)) ++ rest_text (segments_of t)) (list_text (segments_of m)) l l₂
    (sym (ap (λ (x : List Segment). list_text x) (segments_at m t h d) ∙ list_then (segment_at m) (segments_of t)))
    (written_then at p r ((0x5B ∷ line4) ++ segment_text (segment_at m)) (rest_text (segments_of t)) l l₁ l₂ x y)

-- six numbers x at the front
segment_front : (x u : List ℕ) → length x ≡ 6 → segment_at x ≡ segment_at (x ++ u)
segment_front [] u h = absurd (omega arith)
segment_front (a ∷ []) u h = absurd (omega arith)
segment_front (a ∷ b ∷ []) u h = absurd (omega arith)
segment_front (a ∷ b ∷ c ∷ []) u h = absurd (omega arith)
segment_front (a ∷ b ∷ c ∷ d ∷ []) u h = absurd (omega arith)
segment_front (a ∷ b ∷ c ∷ d ∷ e ∷ []) u h = absurd (omega arith)
segment_front (a ∷ b ∷ c ∷ d ∷ e ∷ f ∷ []) u h = refl
segment_front (a ∷ b ∷ c ∷ d ∷ e ∷ f ∷ g ∷ x) u h = absurd (omega arith)

module _ (m t u x : List ℕ) (e : t ≡ x ++ u) (h : length x ≡ 6) where
  six_more : length t ≡ 6 + length u
  six_more = ap length e ∙ length-append x u ∙ omega arith

  pub list_again : (at p r : ℕ) (l₀ l l' : List ℕ) → ListBegun m t at l₀ l p → Written p ((0x2C ∷ line4) ++ segment_text (segment_at x)) l r l' → ListBegun m u at l₀ l' r
  list_again at p r l₀ l l' b w =
      let k : segment_at x ≡ segment_at t = segment_front x u h ∙ ap (λ (y : List ℕ). segment_at y) (sym e) in
      let d : u ≡ drop 6 t = sym (ap (drop 6) e ∙ drop_at x u 6 h) in
      let f : 6 ≤ length t = let z = six_more in omega arith in
      record {
        begun =
            begun_more (rest_text (segments_of m)) ((0x2C ∷ line4) ++ segment_text (segment_at t)) (rest_text (segments_of u)) at p r l₀ l l'
            (subst (λ (y : List Segment). Begun (rest_text (segments_of m)) (rest_text y) at l₀ l p) (segments_at t u f d) b.begun)
            (subst (λ (y : Segment). Written p ((0x2C ∷ line4) ++ segment_text y) l r l') k w);
      }

  -- the room that is used
  pub six_left : (at p q n : ℕ) → 6 * p + 540 * length t ≤ 6 * at + 540 * n → q ≤ p + 540 → 6 * q + 540 * length u ≤ 6 * at + 540 * n
  six_left at p q n inv l = let z = six_more in omega arith

pub list_end : (m t : List ℕ) (at p r : ℕ) (l₀ l l' : List ℕ) → ListBegun m t at l₀ l p → length t < 6 → Written p (line2 ++ 0x5D ∷ []) l r l' → Written at (rest_text (segments_of m)) l₀ r l'
list_end m t at p r l₀ l l' b h w =
    begun_end (rest_text (segments_of m)) (line2 ++ 0x5D ∷ []) at p r l₀ l l' (subst (λ (x : List Segment). Begun (rest_text (segments_of m)) (rest_text x) at l₀ l p) (segments_short t h) b.begun) w

-- ---- the map
pub rates_written : (r T num den a b c : ℕ) (l l' : List ℕ)
    → Written 0 (three_text (0x7B ∷ 0x0A ∷ ascii "  \"video_timescale\": ") a (0x2C ∷ 0x0A ∷ ascii "  \"frame_rate_num\": ") b (0x2C ∷ 0x0A ∷ ascii "  \"frame_rate_den\": ") c) l r l'
    → a ≡ T → b ≡ num → c ≡ den → Written 0 (rates_text T num den) l r l'
unfolding rates_text
rates_written r T num den a b c l l' x ea eb ec =
    written_is 0 r _ _ l l'
    (ap (λ (k : ℕ). three_text (0x7B ∷ 0x0A ∷ ascii "  \"video_timescale\": ") k (0x2C ∷ 0x0A ∷ ascii "  \"frame_rate_num\": ") b (0x2C ∷ 0x0A ∷ ascii "  \"frame_rate_den\": ") c) ea
    ∙ ap (λ (k : ℕ). three_text (0x7B ∷ 0x0A ∷ ascii "  \"video_timescale\": ") T (0x2C ∷ 0x0A ∷ ascii "  \"frame_rate_num\": ") k (0x2C ∷ 0x0A ∷ ascii "  \"frame_rate_den\": ") c) eb
    ∙ ap (λ (k : ℕ). three_text (0x7B ∷ 0x0A ∷ ascii "  \"video_timescale\": ") T (0x2C ∷ 0x0A ∷ ascii "  \"frame_rate_num\": ") num (0x2C ∷ 0x0A ∷ ascii "  \"frame_rate_den\": ") k) ec) x

pub path_written : (p q e r frames n : ℕ) (path l₁ l₂ l₃ l₄ : List ℕ)
    → Written p (0x2C ∷ 0x0A ∷ ascii "  \"input\": ") l₁ q l₂ → Written q (quoted path) l₂ e l₃ → Written e ((0x2C ∷ 0x0A ∷ ascii "  \"total_frames\": ") ++ decimal n) l₃ r l₄
    → n ≡ frames → Written p (path_text path frames) l₁ r l₄
unfolding path_text
path_written p q e r frames n path l₁ l₂ l₃ l₄ y z w h =
    written_then p q r _ _ l₁ l₂ l₄ y
    (written_then q e r _ _ l₂ l₃ l₄ z (written_is e r _ _ l₃ l₄ (ap (λ (k : ℕ). (0x2C ∷ 0x0A ∷ ascii "  \"total_frames\": ") ++ decimal k) h) w))

pub tail_written : (at p q r : ℕ) (m l l₁ l₂ l₃ : List ℕ) → Written at (0x2C ∷ 0x0A ∷ ascii "  \"segments\": ") l p l₁ → Written p (list_text (segments_of m)) l₁ q l₂ → Written q (0x0A ∷ 0x7D ∷ 0x0A ∷ []) l₂ r l₃
    → Written at (tail_text (segments_of m)) l r l₃
unfolding tail_text
tail_written at p q r m l l₁ l₂ l₃ x y z = written_then at p r _ _ l l₁ l₃ x (written_then p q r _ _ l₁ l₂ l₃ y z)

map_laid : (T num den : ℕ) (path : List ℕ) (frames : ℕ) (v : List ℕ)
    → 0x7B ∷ fields_then_lem line2 (field timescale_name (decimal T)) (field rate_num_name (decimal num) ∷ field rate_den_name (decimal den) ∷ field input_name (quoted path) ∷ field frames_name (decimal frames) ∷ field segments_name v ∷ []) (line0 ++ (0x7D ∷ line0))
    ≡ (0x7B ∷ 0x0A ∷ ascii "  \"video_timescale\": ") ++ (decimal T ++ ((0x2C ∷ 0x0A ∷ ascii "  \"frame_rate_num\": ") ++ (decimal num ++ ((0x2C ∷ 0x0A ∷ ascii "  \"frame_rate_den\": ") ++ (decimal den
    ++ ((0x2C ∷ 0x0A ∷ ascii "  \"input\": ") ++ (quoted path ++ ((0x2C ∷ 0x0A ∷ ascii "  \"total_frames\": ") ++ (decimal frames ++ ((0x2C ∷ 0x0A ∷ ascii "  \"segments\": ") ++ (v ++ (0x0A ∷ 0x7D ∷ 0x0A ∷ []))))))))))))
unfolding quoted escaped_all escaped
map_laid T num den path frames v = refl

map_flat : (T num den : ℕ) (path : List ℕ) (frames : ℕ) (xs : List Segment) → head_text T num den path frames ++ tail_text xs ≡ map_text T num den path frames xs
unfolding map_text rates_text path_text tail_text
map_flat T num den path frames xs =
    append_assoc (three_text la T lb num lc den) (li ++ (quoted path ++ (lf ++ decimal frames))) (tail_text xs)
    ∙ three_then la T lb num lc den ((li ++ (quoted path ++ (lf ++ decimal frames))) ++ tail_text xs)
    ∙ ap (λ (y : List ℕ). la ++ (decimal T ++ (lb ++ (decimal num ++ (lc ++ (decimal den ++ y))))))
    (append_assoc li (quoted path ++ (lf ++ decimal frames)) (tail_text xs)
    ∙ ap (λ (y : List ℕ). li ++ y) (append_assoc (quoted path) (lf ++ decimal frames) (tail_text xs)
    ∙ ap (λ (y : List ℕ). quoted path ++ y) (append_assoc lf (decimal frames) (tail_text xs))))
    ∙ sym (map_laid T num den path frames (list_text xs))
    ∙ sym (object_then line2 line0 (field timescale_name (decimal T)) (map_rest num den path frames xs) line0)
  where
    la : List ℕ
    la = 0x7B ∷ 0x0A ∷ ascii "  \"video_timescale\": "

    lb : List ℕ
    lb = 0x2C ∷ 0x0A ∷ ascii "  \"frame_rate_num\": "

    lc : List ℕ
    lc = 0x2C ∷ 0x0A ∷ ascii "  \"frame_rate_den\": "

    li : List ℕ
    li = 0x2C ∷ 0x0A ∷ ascii "  \"input\": "

    lf : List ℕ
    lf = 0x2C ∷ 0x0A ∷ ascii "  \"total_frames\": "

pub map_written : (p q r T num den frames : ℕ) (path m l l₁ l₂ l₃ : List ℕ) → Written 0 (rates_text T num den) l p l₁ → Written p (path_text path frames) l₁ q l₂ → Written q (tail_text (segments_of m)) l₂ r l₃
    → Written 0 (map_text T num den path frames (segments_of m)) l r l₃
map_written p q r T num den frames path m l l₁ l₂ l₃ x y z =
    written_is 0 r _ (map_text T num den path frames (segments_of m)) l l₃ (map_flat T num den path frames (segments_of m))
    (written_then 0 q r (head_text T num den path frames) (tail_text (segments_of m)) l l₂ l₃ (written_then 0 p q (rates_text T num den) (path_text path frames) l l₁ l₂ x y) z)

pub close_most : (at p r n : ℕ) (t l l' : List ℕ) → at ≤ 21000 → n ≤ 6144 → 6 * p + 540 * length t ≤ 6 * at + 540 * n → Written p (line2 ++ 0x5D ∷ []) l r l' → r ≤ 600000
close_most at p r n t l l' h k inv w = let a = w.place in omega arith

pub rest_room : (m t : List ℕ) → length m ≤ 6144 → t ≡ drop 6 m → length t ≤ 6144
rest_room m t h d = let a : length t ≡ length m - 6 = ap length d ∙ length-drop 6 m in omega arith
