-- Fields that were written, read again: texts without commas stand in the places of the two times, and the other fields are as they were.
use mathlib.Core.Path.{◌≡◌, refl, sym, ap, ◌∙◌}
use mathlib.Core.Bool.{Bool, true, false, cond}
use mathlib.Core.List.{List, [], ◌∷◌, ◌++◌, append-nil}
use Prim.Native.Nat.{ℕ, zero, suc, ◌+◌, ◌-◌, ◌≤◌, ◌<◌}
use native.Mathlib.Omega.{arith}
use borrow.Author.Tests.{lt-ltb, ltb-true, ltb-false, eq-eqb, ne_eqb, eqb-false}
use lib.Dec.{ltb, eqb}
use lib.ListN.{length, take, drop, length-append}
use Rattle.spec_text.specs.pattern.Find.{starts, first, contains}
use Rattle.spec_text.proofs.text.LineEnds.{last_of, last_append, last_drop, last_some}
use Rattle.spec_text.proofs.pattern.Free.{Free, first_free, up_byte, past_byte}
use Rattle.spec_caption.specs.caption_fate.Says.{Piece, bytes, start, stop}
use Rattle.spec_caption.specs.caption_fate.Emit.{render}
use Rattle.spec_ass.specs.ass_columns.Columns.{fields, field_at}
use Rattle.spec_ass.specs.ass_write.Frame.{piece_at, field_pieces, piece_text}
use Rattle.spec_ass.proofs.ass_columns.FieldLaws.{fields_some, fields_one, fields_last}
use Rattle.spec_ass.proofs.ass_write.WriteLaws.{frame_one, pieces_more, piece_text_lem, is_bytes, render_step, render_nil}
use Rattle.spec_text.specs.pattern.Piece.{comma}

-- ---- commas
-- what stands before the first comma has none
up_comma : (s : List ℕ) → Free 44 (take (first comma s) s)
unfolding first starts
up_comma [] = tt
up_comma (b ∷ s) = go (eqb 44 b) refl (up_comma s)
  where
    go : (t : Bool) → eqb 44 b ≡ t → Free 44 (take (first comma s) s) → Free 44 (take (cond (cond t true false) zero (suc (first comma s))) (b ∷ s))
    go true e ih = tt
    go false e ih = (eqb-false 44 b e, ih)

comma_first : (r : List ℕ) → first comma (44 ∷ r) ≡ 0
unfolding first starts
comma_first r = refl

comma_in : (s r : List ℕ) → Free 44 s → contains comma (s ++ 44 ∷ r) ≡ true
unfolding contains
comma_in s r f =
    lt-ltb (first comma (s ++ 44 ∷ r)) (length (s ++ 44 ∷ r)) (omega (arith, first_free 44 [] s (44 ∷ r) f, comma_first r, length-append s (44 ∷ r)))

-- the field before a comma, and those behind it
fields_cut : (n : ℕ) (s r : List ℕ) → Free 44 s → fields (suc (suc n)) (s ++ 44 ∷ r) ≡ s ∷ fields (suc n) r
unfolding fields
fields_cut n s r f = rw (comma_in s r f, up_byte 44 s r f, past_byte 44 s r f)

-- ---- i and j are the places of the two times, S and E the texts there
module _ (i j : ℕ) (S E : List ℕ) where
  -- the field f at place k, and the fields from place k on
  abbrev pub new_field : (k : ℕ) → List ℕ → List ℕ
  new_field k f = cond (eqb k j) E (cond (eqb k i) S f)

  abbrev pub new_fields : (k : ℕ) → List (List ℕ) → List (List ℕ)
  new_fields k [] = []
  new_fields k (f ∷ fs) = new_field k f ∷ new_fields (suc k) fs

  pub new_length : (k : ℕ) (fs : List (List ℕ)) → length (new_fields k fs) ≡ length fs
  new_length k [] = refl
  new_length k (f ∷ fs) = omega (arith, new_length (suc k) fs)

  pub new_end : (f : List ℕ) → new_field j f ≡ E
  new_end f = rw (eq-eqb j j refl)

  pub new_start : (f : List ℕ) → (i ≡ j → ⊥) → new_field i f ≡ S
  new_start f h = rw (ne_eqb i j h, eq-eqb i i refl)

  -- the field at a place
  pub new_at : (p k : ℕ) (fs : List (List ℕ)) → 0 < p → p ≤ length fs → field_at p (new_fields k fs) ≡ new_field (k + p - 1) (field_at p fs)
  unfolding field_at
  new_at zero k fs l h = absurd (omega arith)
  new_at (suc p) k [] l h = absurd (omega arith)
  new_at (suc zero) k (f ∷ fs) l h = let z : k ≡ k + 1 - 1 = omega arith in ap (λ (n : ℕ). new_field n f) z
  new_at (suc (suc p)) k (f ∷ fs) l h =
      let z : suc k + suc p - 1 ≡ k + suc (suc p) - 1 = omega arith in
      new_at (suc p) (suc k) fs (omega arith) (omega arith) ∙ ap (λ (n : ℕ). new_field n (field_at (suc p) fs)) z

  -- the frame around the times is the same
  new_piece : (k : ℕ) (f : List ℕ) → piece_at i j k (new_field k f) ≡ piece_at i j k f
  unfolding piece_at
  new_piece k f = go (eqb k j) (eqb k i)
    where
      go : (x y : Bool) → cond x stop (cond y start (bytes (cond x E (cond y S f)))) ≡ cond x stop (cond y start (bytes f))
      go true y = refl
      go false true = refl
      go false false = refl

  pub new_pieces : (k : ℕ) (fs : List (List ℕ)) → field_pieces i j k (new_fields k fs) ≡ field_pieces i j k fs
  unfolding field_pieces
  new_pieces k [] = refl
  new_pieces k (f ∷ []) = ap (λ (p : Piece). p ∷ []) (new_piece k f)
  new_pieces k (f ∷ g ∷ fs) =
      ap (λ (p : Piece). p ∷ bytes comma ∷ field_pieces i j (suc k) (new_fields (suc k) (g ∷ fs))) (new_piece k f)
      ∙ ap (λ (ps : List Piece). piece_at i j k f ∷ bytes comma ∷ ps) (new_pieces (suc k) (g ∷ fs))

  -- ---- what is written
  abbrev pub written : (k : ℕ) → List (List ℕ) → List ℕ
  written k fs = render (field_pieces i j k fs) S E

  written_one : (k : ℕ) (f : List ℕ) → written k (f ∷ []) ≡ new_field k f
  written_one k f =
      ap (λ (ps : List Piece). render ps S E) (frame_one i j k f) ∙ render_step S E (piece_at i j k f) []
      ∙ ap (λ (x : List ℕ). piece_text S E (piece_at i j k f) ++ x) (render_nil S E) ∙ append-nil (piece_text S E (piece_at i j k f)) ∙ piece_text_lem S E i j k f

  written_more : (k : ℕ) (f : List ℕ) (fs : List (List ℕ)) → 0 < length fs → written k (f ∷ fs) ≡ new_field k f ++ 44 ∷ written (suc k) fs
  written_more k f fs h =
      ap (λ (ps : List Piece). render ps S E) (pieces_more i j k f fs h) ∙ render_step S E (piece_at i j k f) (bytes comma ∷ field_pieces i j (suc k) fs)
      ∙ ap (λ (x : List ℕ). x ++ render (bytes comma ∷ field_pieces i j (suc k) fs) S E) (piece_text_lem S E i j k f)
      ∙ ap (λ (x : List ℕ). new_field k f ++ x) (render_step S E (bytes comma) (field_pieces i j (suc k) fs) ∙ ap (λ (x : List ℕ). x ++ written (suc k) fs) (sym (is_bytes S E comma)))

  -- ---- the last byte: one below the comma's is that of the text
  module _ (lS : 44 ≤ last_of S) (lE : 44 ≤ last_of E) (b : ℕ) (some : 0 < b) (low : b < 44) where
    new_last : (k : ℕ) (f : List ℕ) → last_of (new_field k f) ≡ b → last_of f ≡ b
    new_last k f = go (eqb k j) (eqb k i)
      where
        go : (x y : Bool) → last_of (cond x E (cond y S f)) ≡ b → last_of f ≡ b
        go true y e = absurd (omega arith)
        go false true e = absurd (omega arith)
        go false false e = e

    behind_comma : (r : List ℕ) → last_of (44 ∷ r) ≡ b → last_of r ≡ b
    behind_comma [] e = absurd (omega arith)
    behind_comma (c ∷ r) e = sym (last_append (44 ∷ []) (c ∷ r) (omega arith)) ∙ e

    pub last_back : (m k : ℕ) (s : List ℕ) → 0 < m → m ≤ length (fields m s) → last_of (written k (fields m s)) ≡ b → last_of s ≡ b
    last_back zero k s l h e = absurd (omega arith)
    last_back (suc zero) k s l h e = new_last k s (sym (ap last_of (ap (written k) (fields_one s) ∙ written_one k s)) ∙ e)
    last_back (suc (suc n)) k s l h e = go (ltb (first comma s) (length s)) refl (λ u r f. last_back (suc n) (suc k) u (omega arith) r f)
      where
        go : (t : Bool) → ltb (first comma s) (length s) ≡ t
            → ((u : List ℕ) → suc n ≤ length (fields (suc n) u) → last_of (written (suc k) (fields (suc n) u)) ≡ b → last_of u ≡ b) → last_of s ≡ b
        go false p ih =
            absurd
            (let z : length (fields (suc (suc n)) s) ≡ 1 = ap length (fields_last (suc (suc n)) (first comma s) s (omega arith) refl (ltb-false (first comma s) (length s) p)) in
            omega arith)
        go true p ih =
            let q = fields_some n s (ltb-true (first comma s) (length s) p) in
            let X = take (first comma s) s in
            let u = drop (first comma s + 1) s in
            let R = fields (suc n) u in
            let r : suc n ≤ length R = omega (arith, ap length q) in
            let w : last_of (44 ∷ written (suc k) R) ≡ b =
            sym (last_append (new_field k X) (44 ∷ written (suc k) R) (omega arith)) ∙ sym (ap last_of (ap (written k) q ∙ written_more k X R (omega arith))) ∙ e in
            let v : last_of u ≡ b = ih u r (behind_comma (written (suc k) R) w) in
            sym (last_drop (first comma s + 1) s (last_some u (omega arith))) ∙ v

  -- ---- the fields of a text s, of which there are m, written with two texts without commas
  module _ (fS : Free 44 S) (fE : Free 44 E) where
    new_free : (k : ℕ) (f : List ℕ) → Free 44 f → Free 44 (new_field k f)
    new_free k f h = go (eqb k j) (eqb k i)
      where
        go : (x y : Bool) → Free 44 (cond x E (cond y S f))
        go true y = fE
        go false true = fS
        go false false = h

    pub fields_back : (m k : ℕ) (s : List ℕ) → 0 < m → m ≤ length (fields m s) → fields m (written k (fields m s)) ≡ new_fields k (fields m s)
    fields_back zero k s l h = absurd (omega arith)
    fields_back (suc zero) k s l h =
        ap (λ (fs : List (List ℕ)). fields 1 (written k fs)) (fields_one s) ∙ ap (fields 1) (written_one k s) ∙ fields_one (new_field k s) ∙ ap (new_fields k) (sym (fields_one s))
    fields_back (suc (suc n)) k s l h = go (ltb (first comma s) (length s)) refl (λ u r. fields_back (suc n) (suc k) u (omega arith) r)
      where
        go : (t : Bool) → ltb (first comma s) (length s) ≡ t → ((u : List ℕ) → suc n ≤ length (fields (suc n) u) → fields (suc n) (written (suc k) (fields (suc n) u)) ≡ new_fields (suc k) (fields (suc n) u))
            → fields (suc (suc n)) (written k (fields (suc (suc n)) s)) ≡ new_fields k (fields (suc (suc n)) s)
        go false e ih =
            absurd
            (let z : length (fields (suc (suc n)) s) ≡ 1 = ap length (fields_last (suc (suc n)) (first comma s) s (omega arith) refl (ltb-false (first comma s) (length s) e)) in
            omega arith)
        go true e ih =
            let q = fields_some n s (ltb-true (first comma s) (length s) e) in
            let X = take (first comma s) s in
            let u = drop (first comma s + 1) s in
            let R = fields (suc n) u in
            let r : suc n ≤ length R = omega (arith, ap length q) in
            ap (λ (fs : List (List ℕ)). fields (suc (suc n)) (written k fs)) q
            ∙ ap (fields (suc (suc n))) (written_more k X R (omega arith))
            ∙ fields_cut n (new_field k X) (written (suc k) R) (new_free k X (up_comma s))
            ∙ ap (λ (fs : List (List ℕ)). new_field k X ∷ fs) (ih u r)
            ∙ ap (new_fields k) (sym q)
