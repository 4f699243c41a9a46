-- Laws of a frame that is written piece by piece: the loop over the fields, the whole line, and what is written where there is room.
use mathlib.Core.Path.{◌≡◌, refl, sym, ap, subst, ◌∙◌}
use mathlib.Core.Bool.{Bool, true, false, cond}
use mathlib.Core.List.{List, [], ◌∷◌, ◌++◌, append_assoc, append-nil}
use Prim.Native.Nat.{ℕ, suc, ◌+◌, ◌-◌, ◌≤◌, ◌<◌}
use native.Mathlib.Omega.{arith}
use native.Mathlib.Nat.{zero-add}
use native.Mathlib.Numerals.{add-one}
use borrow.Author.Tests.{leb-true, eq-eqb, ne_eqb}
use lib.Dec.{eqb, leb}
use lib.ListN.{length, take, drop, length-append, length-drop}
use Rattle.spec_base.specs.base.Put.{put, put_at, placed, placed_length, placed_at, place_after}
use Rattle.spec_base.proofs.base.PutLaws.{put_nil, take_put, placed_yes, length_yes, then_placed, placed_length_lem}
use Rattle.spec_text.specs.pattern.Find.{first}
use Rattle.spec_caption.specs.caption_fate.Says.{Piece, bytes, start, stop}
use Rattle.spec_caption.specs.caption_fate.Emit.{render}
use Rattle.spec_ass.specs.ass_columns.Columns.{fields}
use Rattle.spec_ass.specs.ass_write.Frame.{piece_at, field_pieces, piece_text, frame_placed, frame_after}
use Rattle.spec_ass.proofs.ass_columns.FieldLaws.{fields_none, fields_least, head_last, head_two, head_more}
use Rattle.spec_text.specs.pattern.Piece.{comma}

-- ---- the pieces of fields
pub frame_none : (i j k : ℕ) → field_pieces i j k [] ≡ []
unfolding field_pieces
frame_none i j k = refl

pub frame_one : (i j k : ℕ) (f : List ℕ) → field_pieces i j k (f ∷ []) ≡ piece_at i j k f ∷ []
unfolding field_pieces
frame_one i j k f = refl

pub pieces_more : (i j k : ℕ) (f : List ℕ) (fs : List (List ℕ)) → 0 < length fs → field_pieces i j k (f ∷ fs) ≡ piece_at i j k f ∷ bytes comma ∷ field_pieces i j (suc k) fs
unfolding field_pieces
pieces_more i j k f [] h = absurd (omega arith)
pieces_more i j k f (g ∷ fs) h = refl

-- a piece at the start
pub at_start : (n : ℕ) (v o o' : List ℕ) → (n ≡ placed_length v o) × (o' ≡ placed v o) → (n ≡ place_after 0 v o) × (o' ≡ placed_at 0 v o)
unfolding placed placed_length placed_at place_after put_at
at_start n v o o' p = rw (zero-add (length v)) p

-- ---- a column's text
pub text_new_lem : (b : Bool) (x f o : List ℕ) → b ≡ true → x ≡ f → x ≡ cond b f o
text_new_lem b x f o h p = rw h p

pub text_old : (b : Bool) (x f o : List ℕ) → b ≡ false → x ≡ o → x ≡ cond b f o
text_old b x f o h p = rw h p

-- the place after a piece lies within the output
pub after_room : (at n : ℕ) (v o o' : List ℕ) → at ≤ length o → (n ≡ place_after at v o) × (o' ≡ placed_at at v o) → n ≤ length o'
unfolding place_after
after_room at n v o o' h p = go (leb (at + length v) (length o)) refl p.0
  where
    same : length o' ≡ length o
    same = ap length p.1 ∙ placed_length_lem at v o

    go : (t : Bool) → leb (at + length v) (length o) ≡ t → n ≡ cond t (at + length v) at → n ≤ length o'
    go true e q = omega (arith, leb-true (at + length v) (length o) e, same)
    go false e q = omega (arith, same)

module _ (s e : List ℕ) where
  pub piece_text_lem : (i j k : ℕ) (f : List ℕ) → piece_text s e (piece_at i j k f) ≡ cond (eqb k j) e (cond (eqb k i) s f)
  unfolding piece_at piece_text
  piece_text_lem i j k f = go (eqb k j) (eqb k i)
    where
      go : (x y : Bool) → piece_text s e (cond x stop (cond y start (bytes f))) ≡ cond x e (cond y s f)
      go true y = refl
      go false true = refl
      go false false = refl

  pub is_bytes : (l : List ℕ) → l ≡ piece_text s e (bytes l)
  unfolding piece_text
  is_bytes l = refl

  -- ---- one piece, and pieces one behind the other
  placed_nil : (at : ℕ) (o : List ℕ) → frame_placed s e at [] o ≡ o
  unfolding frame_placed
  placed_nil at o = refl

  after_nil : (at : ℕ) (o : List ℕ) → frame_after s e at [] o ≡ at
  unfolding frame_after
  after_nil at o = refl

  module _ (at n : ℕ) (p : Piece) (ps : List Piece) (b o o' : List ℕ) (eb : b ≡ piece_text s e p) (en : n ≡ place_after at b o) (eo : o' ≡ placed_at at b o) where
    placed_step : frame_placed s e n ps o' ≡ frame_placed s e at (p ∷ ps) o
    unfolding frame_placed
    placed_step = rw (en, eo, eb)

    after_step : frame_after s e n ps o' ≡ frame_after s e at (p ∷ ps) o
    unfolding frame_after
    after_step = rw (en, eo, eb)

  placed_append : (at : ℕ) (ps qs : List Piece) (o : List ℕ) → frame_placed s e at (ps ++ qs) o ≡ frame_placed s e (frame_after s e at ps o) qs (frame_placed s e at ps o)
  unfolding frame_placed frame_after
  placed_append at [] qs o = refl
  placed_append at (p ∷ ps) qs o = placed_append (place_after at (piece_text s e p) o) ps qs (placed_at at (piece_text s e p) o)

  after_append : (at : ℕ) (ps qs : List Piece) (o : List ℕ) → frame_after s e at (ps ++ qs) o ≡ frame_after s e (frame_after s e at ps o) qs (frame_placed s e at ps o)
  unfolding frame_placed frame_after
  after_append at [] qs o = refl
  after_append at (p ∷ ps) qs o = after_append (place_after at (piece_text s e p) o) ps qs (placed_at at (piece_text s e p) o)

  -- ---- one field: the end's time in its column, elsewhere the start's or the field as it stands
  pub field_stop : (i j k n : ℕ) (f b o o' : List ℕ) → k ≡ j → b ≡ e → (n ≡ placed_length b o) × (o' ≡ placed b o)
      → (n ≡ placed_length (piece_text s e (piece_at i j k f)) o) × (o' ≡ placed (piece_text s e (piece_at i j k f)) o)
  field_stop i j k n f b o o' h eb p =
      let z : b ≡ piece_text s e (piece_at i j k f) = eb ∙ sym (piece_text_lem i j k f ∙ ap (λ (t : Bool). cond t e (cond (eqb k i) s f)) (eq-eqb k j h)) in
      (p.0 ∙ ap (λ (x : List ℕ). placed_length x o) z, p.1 ∙ ap (λ (x : List ℕ). placed x o) z)

  pub field_other : (i j k n : ℕ) (f b o o' : List ℕ) → (k ≡ j → ⊥) → b ≡ cond (eqb k i) s f → (n ≡ placed_length b o) × (o' ≡ placed b o)
      → (n ≡ placed_length (piece_text s e (piece_at i j k f)) o) × (o' ≡ placed (piece_text s e (piece_at i j k f)) o)
  field_other i j k n f b o o' h eb p =
      let z : b ≡ piece_text s e (piece_at i j k f) = eb ∙ sym (piece_text_lem i j k f ∙ ap (λ (t : Bool). cond t e (cond (eqb k i) s f)) (ne_eqb k j h)) in
      (p.0 ∙ ap (λ (x : List ℕ). placed_length x o) z, p.1 ∙ ap (λ (x : List ℕ). placed x o) z)

  -- ---- the loop over the fields: what is left to write is the whole. i and j are the places of the two times, m the number of columns
  module _ (i j m : ℕ) (rest o₀ : List ℕ) (from : ℕ) where
    abbrev Whole : List Piece
    Whole = field_pieces i j 1 (fields m rest)

    pub record Unwritten (n at k : ℕ) (t o : List ℕ) : Type 0 where
      pub long : length o ≡ length o₀
      pub room : at ≤ length o
      pub part : k + length t ≤ length rest + 1
      pub some : 0 < n
      pub after : frame_after s e at (field_pieces i j k (fields n t)) o ≡ frame_after s e from Whole o₀
      pub placed : frame_placed s e at (field_pieces i j k (fields n t)) o ≡ frame_placed s e from Whole o₀

    pub unwritten_all : (m ≡ 0 → ⊥) → from ≤ length o₀ → Unwritten m from 1 rest o₀
    unwritten_all h r = record { long = refl; room = r; part = omega arith; some = omega arith; after = refl; placed = refl }

    -- no columns: nothing
    pub no_fields : m ≡ 0 → (from ≡ frame_after s e from Whole o₀) × (o₀ ≡ frame_placed s e from Whole o₀)
    no_fields h =
        let z : Whole ≡ [] = ap (λ (n : ℕ). field_pieces i j 1 (fields n rest)) h ∙ ap (field_pieces i j 1) (fields_none rest) ∙ frame_none i j 1 in
        (sym (ap (λ (ps : List Piece). frame_after s e from ps o₀) z ∙ after_nil from o₀), sym (ap (λ (ps : List Piece). frame_placed s e from ps o₀) z ∙ placed_nil from o₀))

    module _ (n at k l at₁ : ℕ) (t o f o₁ : List ℕ) (inv : Unwritten n at k t o) (el : l ≡ cond (leb n 1) (length t) (first comma t)) (ef : f ≡ take l t)
        (p : (at₁ ≡ place_after at (piece_text s e (piece_at i j k f)) o) × (o₁ ≡ placed_at at (piece_text s e (piece_at i j k f)) o)) where
      pub fields_done : length t ≤ l → (at₁ ≡ frame_after s e from Whole o₀) × (o₁ ≡ frame_placed s e from Whole o₀)
      fields_done h =
          let q : field_pieces i j k (fields n t) ≡ piece_at i j k f ∷ [] =
          ap (field_pieces i j k) (head_last n l t inv.some el h ∙ ap (λ (x : List ℕ). x ∷ []) (sym ef)) ∙ frame_one i j k f in (
            sym (after_nil at₁ o₁) ∙ after_step at at₁ (piece_at i j k f) [] _ o o₁ refl p.0 p.1 ∙ ap (λ (ps : List Piece). frame_after s e at ps o) (sym q) ∙ inv.after,
            sym (placed_nil at₁ o₁) ∙ placed_step at at₁ (piece_at i j k f) [] _ o o₁ refl p.0 p.1 ∙ ap (λ (ps : List Piece). frame_placed s e at ps o) (sym q) ∙ inv.placed,
          )

      pub fields_again : (at₂ : ℕ) (o₂ u : List ℕ) → l < length t → (at₂ ≡ place_after at₁ comma o₁) × (o₂ ≡ placed_at at₁ comma o₁) → u ≡ drop (l + 1) t
          → Unwritten (n - 1) at₂ (k + 1) u o₂
      fields_again at₂ o₂ u h p₂ eu =
          let two = head_two n l t inv.some el h in
          let P = piece_at i j k f in
          let R = field_pieces i j (suc k) (fields (n - 1) u) in
          let q : field_pieces i j k (fields n t) ≡ P ∷ bytes comma ∷ R =
          ap (field_pieces i j k)
          (head_more n l t inv.some el h ∙ ap (λ (x : List ℕ). x ∷ fields (n - 1) (drop (l + 1) t)) (sym ef) ∙ ap (λ (x : List ℕ). f ∷ fields (n - 1) x) (sym eu))
          ∙ pieces_more i j k f (fields (n - 1) u) (fields_least (n - 1) u (omega arith)) in
          record {
            long = ap length p₂.1 ∙ placed_length_lem at₁ comma o₁ ∙ ap length p.1 ∙ placed_length_lem at (piece_text s e P) o ∙ inv.long;
            room = after_room at₁ at₂ comma o₁ o₂ (after_room at at₁ (piece_text s e P) o o₁ inv.room p) p₂;
            part = omega (arith, inv.part, ap length eu, length-drop (l + 1) t);
            some = omega arith;
            after =
                ap (λ (x : ℕ). frame_after s e at₂ (field_pieces i j x (fields (n - 1) u)) o₂) (add-one k)
                ∙ after_step at₁ at₂ (bytes comma) R comma o₁ o₂ (is_bytes comma) p₂.0 p₂.1 ∙ after_step at at₁ P (bytes comma ∷ R) _ o o₁ refl p.0 p.1
                ∙ ap (λ (ps : List Piece). frame_after s e at ps o) (sym q) ∙ inv.after;
            placed =
                ap (λ (x : ℕ). frame_placed s e at₂ (field_pieces i j x (fields (n - 1) u)) o₂) (add-one k)
                ∙ placed_step at₁ at₂ (bytes comma) R comma o₁ o₂ (is_bytes comma) p₂.0 p₂.1 ∙ placed_step at at₁ P (bytes comma ∷ R) _ o o₁ refl p.0 p.1
                ∙ ap (λ (ps : List Piece). frame_placed s e at ps o) (sym q) ∙ inv.placed;
          }

  -- the place after pieces lies within the output
  pub frame_room : (ps : List Piece) (at n : ℕ) (o : List ℕ) → at ≤ length o → n ≡ frame_after s e at ps o → n ≤ length o
  frame_room [] at n o h q = omega (arith, q ∙ after_nil at o)
  frame_room (p ∷ ps) at n o h q =
      let b = piece_text s e p in
      let l : length (placed_at at b o) ≡ length o = placed_length_lem at b o in
      let r : place_after at b o ≤ length (placed_at at b o) = after_room at (place_after at b o) b o (placed_at at b o) h (refl, refl) in
      omega (arith, l, frame_room ps (place_after at b o) n (placed_at at b o) r (q ∙ sym (after_step at _ p ps b o _ refl refl refl)))

  -- ---- the word, the fields, the terminator
  pub line_written : (i j m n₁ n₂ n₃ : ℕ) (w r x o o₁ o₂ o₃ : List ℕ)
      → (n₁ ≡ place_after 0 w o) × (o₁ ≡ placed_at 0 w o)
      → (n₂ ≡ frame_after s e n₁ (field_pieces i j 1 (fields m r)) o₁) × (o₂ ≡ frame_placed s e n₁ (field_pieces i j 1 (fields m r)) o₁)
      → (n₃ ≡ place_after n₂ x o₂) × (o₃ ≡ placed_at n₂ x o₂)
      → (n₃ ≡ frame_after s e 0 (bytes w ∷ (field_pieces i j 1 (fields m r) ++ (bytes x ∷ []))) o) × (o₃ ≡ frame_placed s e 0 (bytes w ∷ (field_pieces i j 1 (fields m r) ++ (bytes x ∷ []))) o)
  line_written i j m n₁ n₂ n₃ w r x o o₁ o₂ o₃ p₁ p₂ p₃ =
      let F = field_pieces i j 1 (fields m r) in
      let E : List Piece = bytes x ∷ [] in (
        sym (after_nil n₃ o₃) ∙ after_step n₂ n₃ (bytes x) [] x o₂ o₃ (is_bytes x) p₃.0 p₃.1
            ∙ ap (λ (n : ℕ). frame_after s e n E o₂) p₂.0 ∙ ap (λ (z : List ℕ). frame_after s e (frame_after s e n₁ F o₁) E z) p₂.1
            ∙ sym (after_append n₁ F E o₁) ∙ after_step 0 n₁ (bytes w) (F ++ E) w o o₁ (is_bytes w) p₁.0 p₁.1,
        sym (placed_nil n₃ o₃) ∙ placed_step n₂ n₃ (bytes x) [] x o₂ o₃ (is_bytes x) p₃.0 p₃.1
            ∙ ap (λ (n : ℕ). frame_placed s e n E o₂) p₂.0 ∙ ap (λ (z : List ℕ). frame_placed s e (frame_after s e n₁ F o₁) E z) p₂.1
            ∙ sym (placed_append n₁ F E o₁) ∙ placed_step 0 n₁ (bytes w) (F ++ E) w o o₁ (is_bytes w) p₁.0 p₁.1,
      )

  -- ---- where there is room, all are written
  pub render_step : (p : Piece) (ps : List Piece) → render (p ∷ ps) s e ≡ piece_text s e p ++ render ps s e
  unfolding render piece_text
  render_step (bytes l) ps = refl
  render_step start ps = refl
  render_step stop ps = refl

  pub render_nil : render [] s e ≡ []
  unfolding render
  render_nil = refl

  frame_more : (ps : List Piece) (at : ℕ) (w l o : List ℕ) → o ≡ put w l → at ≡ length w → length (w ++ render ps s e) ≤ length l
      → (frame_placed s e at ps o ≡ put (w ++ render ps s e) l) × (frame_after s e at ps o ≡ length (w ++ render ps s e))
  frame_more [] at w l o eo ea h =
      let z : w ++ render [] s e ≡ w = ap (λ (x : List ℕ). w ++ x) render_nil ∙ append-nil w in
      (placed_nil at o ∙ eo ∙ ap (λ (x : List ℕ). put x l) (sym z), after_nil at o ∙ ea ∙ ap length (sym z))
  frame_more (p ∷ ps) at w l o eo ea h =
      let b = piece_text s e p in
      let z : (w ++ b) ++ render ps s e ≡ w ++ render (p ∷ ps) s e = append_assoc w b (render ps s e) ∙ ap (λ (x : List ℕ). w ++ x) (sym (render_step p ps)) in
      let r : length ((w ++ b) ++ render ps s e) ≤ length l = subst (λ (x : List ℕ). length x ≤ length l) (sym z) h in
      let r' : length (w ++ b) ≤ length l = omega (arith, length-append (w ++ b) (render ps s e)) in
      let one = then_placed at (place_after at b o) w b l o (placed_at at b o) eo ea r' refl refl in
      let ih = frame_more ps (place_after at b o) (w ++ b) l (placed_at at b o) one.0 one.1 r in
      (sym (placed_step at _ p ps b o _ refl refl refl) ∙ ih.0 ∙ ap (λ (x : List ℕ). put x l) z, sym (after_step at _ p ps b o _ refl refl refl) ∙ ih.1 ∙ ap length z)

  pub frame_put : (ps : List Piece) (o : List ℕ) → length (render ps s e) ≤ length o → (frame_placed s e 0 ps o ≡ put (render ps s e) o) × (frame_after s e 0 ps o ≡ length (render ps s e))
  frame_put ps o h = frame_more ps 0 [] o o (sym (put_nil o)) refl h

-- a text written to the start of an array with room for it, read back
pub text_held_lem : (v z y : List ℕ) (n : ℕ) → length v ≤ length z → n ≡ placed_length v z → y ≡ placed v z → take n y ≡ v
text_held_lem v z y n h en ey =
    let a : n ≡ length v = en ∙ length_yes v z h in
    let b : y ≡ put v z = ey ∙ placed_yes v z h in
    rw (a, b) (take_put v z)
