-- Laws of the list of segments, read element by element.
use mathlib.Core.Path.{◌≡◌, refl, sym, ap, subst, ◌∙◌}
use mathlib.Core.Bool.{Bool, true, false, ◌&&◌, cond}
use mathlib.Core.List.{List, [], ◌∷◌, ◌++◌, append_assoc}
use Prim.Native.Nat.{ℕ, suc, ◌+◌, ◌-◌, ◌*◌, ◌^◌, ◌≤◌, ◌<◌}
use native.Mathlib.Omega.{arith}
use borrow.Author.Tests.{lt-ltb, le-ltb, eq-eqb, ne_eqb}
use lib.Dec.{ltb}
use lib.ListN.{length, take, drop, get_or, length-append}
use lib.Seq.{length-take-le}
use Rattle.spec_base.specs.base.Limits.{most_segments}
use Rattle.spec_base.specs.base.Put.{put, put_at}
use Rattle.spec_base.proofs.base.Laws.{yes!, no! }
use Rattle.spec_base.proofs.base.PutLaws.{put_at_zero, put_at_nil, put_at_put, put_at_front}
use Rattle.spec_map.specs.segment.Segment.{flat_of}
use Rattle.spec_json.specs.json.Value.{value_width}
use Rattle.spec_json.specs.json.Walk.{item_width, items_of, row_in, next_row}
use Rattle.spec_json.specs.json.Member.{bare, bared_all, elements_of}
use Rattle.spec_json.proofs.json.ItemLaws.{item_le}
use Rattle.spec_json.proofs.json.MemberLaws.{items_none, items_end, items_step, next_less, elements_are}
use Rattle.spec_map_json.specs.map_json_write.Reads.{segment_said, segments_said, segments_from, list_said}
use Rattle.map_json_segments.specs.declared.number.Six.{Six}
use Rattle.map_json_segments.specs.declared.number.Element.{Element}
use Rattle.std.proofs.Common.{Option, None, Some}
use Rattle.map_json_segments.specs.Fields.{six_numbers, SixOf, ItemIn}
use Rattle.map_json_segments.specs.Listed.{ListRead, list_said_in}

-- ---- elements that are segments
abbrev pub elements_in : List ℕ → List (List ℕ)
elements_in t = bared_all 9 (items_of 9 0x5B t)

abbrev pub said_in : List ℕ → Bool
said_in t = segments_said (elements_in t)

pub elements_start : (s t : List ℕ) → t ≡ row_in 0x5B s → elements_of 9 s ≡ elements_in t
elements_start s t e = elements_are 9 s ∙ ap elements_in (sym e)

pub elements_none : (k : ℕ) (t : List ℕ) → k ≡ item_width 0x5B (value_width 9) t → k ≡ 0 → elements_in t ≡ []
elements_none k t e z = ap (bared_all 9) (items_none 9 0x5B k t e z)

pub elements_end : (t : List ℕ) → length t ≤ 0 → elements_in t ≡ []
elements_end t h = ap (bared_all 9) (items_end 9 0x5B t h)

pub elements_step : (k : ℕ) (t u i v : List ℕ) → k ≡ item_width 0x5B (value_width 9) t → (k ≡ 0 → ⊥) → i ≡ take k t → v ≡ bare 9 i → u ≡ next_row k t → elements_in t ≡ v ∷ elements_in u
elements_step k t u i v e z ei ev eu = ap (bared_all 9) (items_step 9 0x5B k t u i e z ei eu) ∙ ap (λ (x : List ℕ). x ∷ elements_in u) (sym ev)

pub said_start : (s t : List ℕ) → t ≡ row_in 0x5B s → segments_said (elements_of 9 s) ≡ said_in t
said_start s t e = ap segments_said (elements_start s t e)

abbrev pub flat_left : List ℕ → List ℕ
flat_left t = flat_of (segments_from (elements_in t))

-- ---- a piece behind a piece
put_more : (at n : ℕ) (a b l : List ℕ) → length a ≡ n → at + n ≤ length l → put_at (at + n) b (put_at at a l) ≡ put_at at (a ++ b) l
put_more at n a b l e h =
    let w : length (take at l) ≡ at = length-take-le at l (omega arith) in
    let z : at + n ≡ length (take at l ++ a) = sym (length-append (take at l) a ∙ omega arith) in
    ap (put_at (at + n) b) (put_at_front a l at (omega arith)) ∙ put_at_put (at + n) (take at l ++ a) b l z
    ∙ ap (λ (x : List ℕ). put x l) (append_assoc (take at l) a b) ∙ sym (put_at_front (a ++ b) l at (omega arith))

-- ---- the loop: n segments are read, and t is left
pub record Left (s t : List ℕ) (n : ℕ) (map₀ map : List ℕ) : Type 0 where
  pub said : segments_said (elements_of 9 s) ≡ said_in t
  pub size : length (elements_of 9 s) ≡ n + length (elements_in t)
  pub done : n + length (elements_in t) ≤ most_segments → put_at (6 * n) (flat_left t) map ≡ put (flat_of (segments_from (elements_of 9 s))) map₀

pub left_start : (s t map : List ℕ) → t ≡ row_in 0x5B s → Left s t 0 map map
left_start s t map e =
    let q : length (elements_of 9 s) ≡ length (elements_in t) = ap length (elements_start s t e) in
    record {
      said = said_start s t e;
      size = omega arith;
      done = λ h. put_at_zero (flat_left t) map ∙ ap (λ (x : List (List ℕ)). put (flat_of (segments_from x)) map) (sym (elements_start s t e));
    }

pub left_room : (map map₀ : List ℕ) → length map ≡ length map₀ → length map₀ ≡ 6 * most_segments → length map ≡ 6 * most_segments
left_room map map₀ e h = e ∙ h

module _ (s t map₀ map : List ℕ) (n : ℕ) (inv : Left s t n map₀ map) where
  nothing_left : elements_in t ≡ [] → ListRead (segments_said (elements_of 9 s)) (elements_of 9 s) (Some n) map₀ map
  unfolding segments_said segments_from flat_of
  nothing_left z =
      let l : length (elements_in t) ≡ 0 = ap length z in
      let m : length (elements_of 9 s) ≡ n + length (elements_in t) = inv.size in
      (inv.said ∙ ap segments_said z, omega arith, λ h. sym (put_at_nil (6 * n) map) ∙ ap (λ (x : List (List ℕ)). put_at (6 * n) (flat_of (segments_from x)) map) (sym z) ∙ inv.done (omega arith))

  pub left_stop : item_width 0x5B (value_width 9) t ≡ 0 → ListRead (segments_said (elements_of 9 s)) (elements_of 9 s) (Some n) map₀ map
  left_stop z = nothing_left (elements_none (item_width 0x5B (value_width 9) t) t refl z)

  module _ (x : Element) (S : ItemIn t x) where
    more_elements : (u : List ℕ) → u ≡ next_row x.width t → elements_in t ≡ bare 9 (take x.width t) ∷ elements_in u
    more_elements u eu = elements_step x.width t u (take x.width t) (bare 9 (take x.width t)) S.width_is S.some refl refl eu

    said_step : (u : List ℕ) (g : Bool) → segment_said (bare 9 (take x.width t)) ≡ g → u ≡ next_row x.width t → said_in t ≡ (g && said_in u)
    unfolding segments_said
    said_step u g e eu = ap segments_said (more_elements u eu) ∙ ap (λ (y : Bool). y && said_in u) e

    pub left_bad : x.six ≡ None → segments_said (elements_of 9 s) ≡ false
    left_bad e = inv.said ∙ said_step (next_row x.width t) false (subst (SixOf (bare 9 (take x.width t))) e S.six_are) refl

    pub left_again : (i : Six) (u map' : List ℕ) → x.six ≡ Some i → u ≡ next_row x.width t → length map ≡ length map₀ → length map₀ ≡ 6 * most_segments
        → map' ≡ cond (ltb n 1024) (put_at (6 * n) (six_numbers i) map) map → Left s u (n + 1) map₀ map'
    unfolding segments_from flat_of
    left_again i u map' h eu l l₀ em =
        let st : elements_in t ≡ bare 9 (take x.width t) ∷ elements_in u = more_elements u eu in
        let q : length (elements_in t) ≡ suc (length (elements_in u)) = ap length st in
        let m : length (elements_of 9 s) ≡ n + length (elements_in t) = inv.size in
        let S₆ : SixOf (bare 9 (take x.width t)) (Some i) = subst (SixOf (bare 9 (take x.width t))) h S.six_are in
        record {
          said = inv.said ∙ said_step u true S₆.0 eu;
          size = omega arith;
          done = λ b.
              let f : map' ≡ put_at (6 * n) (six_numbers i) map = em ∙ sym (yes! _ (lt-ltb n 1024 (omega arith)) refl) in
              let w : 6 * (n + 1) ≡ 6 * n + 6 = omega arith in
              ap (λ (j : ℕ). put_at j (flat_left u) map') w
              ∙ ap (put_at (6 * n + 6) (flat_left u)) f
              ∙ put_more (6 * n) 6 (six_numbers i) (flat_left u) map refl (omega arith)
              ∙ ap (λ (y : List ℕ). put_at (6 * n) (y ++ flat_left u) map) S₆.1
              ∙ ap (λ (y : List (List ℕ)). put_at (6 * n) (flat_of (segments_from y)) map) (sym st)
              ∙ inv.done (omega arith);
        }

    item_less : 0 < length t
    item_less = let a = item_le 0x5B 9 t in let b = S.width_is in let z = S.some in omega arith

    pub left_less : (u : List ℕ) → u ≡ next_row x.width t → length u < length t
    left_less u eu = next_less x.width t u eu item_less

    pub size_most : (u : List ℕ) → n + length t ≤ length s → u ≡ next_row x.width t → n + 1 + length u ≤ length s
    size_most u h eu = let b = left_less u eu in omega arith

    pub size_fits : length s < 2 ^ 64 → n + length t ≤ length s → n + 1 < 2 ^ 64
    size_fits l h = let b = item_less in omega arith

-- ---- a value that may be no array
pub list_none : (v : List ℕ) (b : ℕ) → b ≡ get_or v 0 0 → (b ≡ 0x5B → ⊥) → list_said v ≡ false
list_none v b e h = ap (λ (x : Bool). x && segments_said (elements_of 9 v)) (ne_eqb (get_or v 0 0) 0x5B (λ q. h (e ∙ q)))

pub list_some : (v map map' : List ℕ) (b : ℕ) (r : Option ℕ) → b ≡ get_or v 0 0 → b ≡ 0x5B → ListRead (segments_said (elements_of 9 v)) (elements_of 9 v) r map map' → ListRead (list_said v) (elements_of 9 v) r map map'
list_some v map map' b r e h l = subst (λ (x : Bool). ListRead x (elements_of 9 v) r map map') (ap (λ (x : Bool). x && segments_said (elements_of 9 v)) (sym (eq-eqb (get_or v 0 0) 0x5B (sym e ∙ h)))) l

-- ---- where 6,144 places are lent, and where not
pub list_short : (v map : List ℕ) → (length map ≡ 6 * most_segments → ⊥) → list_said_in (length map) v ≡ false
unfolding list_said_in
list_short v map h = ap (λ (x : Bool). x && list_said v) (ne_eqb (length map) (6 * most_segments) h)

lent : (v map : List ℕ) → length map ≡ 6 * most_segments → list_said_in (length map) v ≡ list_said v
unfolding list_said_in
lent v map h = ap (λ (x : Bool). x && list_said v) (eq-eqb (length map) (6 * most_segments) h)

pub list_full : (v map map' : List ℕ) (r : Option ℕ) → length map ≡ 6 * most_segments → ListRead (list_said v) (elements_of 9 v) r map map' → ListRead (list_said_in (length map) v) (elements_of 9 v) r map map'
list_full v map map' r h l = subst (λ (x : Bool). ListRead x (elements_of 9 v) r map map') (sym (lent v map h)) l

pub list_back : (v map map' : List ℕ) (r : Option ℕ) → length map ≡ 6 * most_segments → ListRead (list_said_in (length map) v) (elements_of 9 v) r map map' → ListRead (list_said v) (elements_of 9 v) r map map'
list_back v map map' r h l = subst (λ (x : Bool). ListRead x (elements_of 9 v) r map map') (lent v map h) l

-- ---- one segment written, where there is room
pub six_stored : (at n : ℕ) (v t l : List ℕ) → t ≡ v → length v ≡ n → take at l ++ (t ++ drop (at + n - at) (drop at l)) ≡ put_at at v l
unfolding put_at put
six_stored at n v t l e h =
    let k : at + n - at ≡ length v = omega arith in
    ap (λ (x : List ℕ). take at l ++ (x ++ drop (at + n - at) (drop at l))) e ∙ ap (λ (j : ℕ). take at l ++ (v ++ drop j (drop at l))) k

pub segment_in_lem : (n : ℕ) (v map map' : List ℕ) → n < 1024 → map' ≡ put_at (6 * n) v map → map' ≡ cond (ltb n 1024) (put_at (6 * n) v map) map
segment_in_lem n v map map' h e = yes! _ (lt-ltb n 1024 h) e

pub segment_out : (n : ℕ) (v map : List ℕ) → 1024 ≤ n → map ≡ cond (ltb n 1024) (put_at (6 * n) v map) map
segment_out n v map h = no! _ (le-ltb n 1024 h) refl
