-- Laws of the loop over the fields of a new line, by the place of the field.
use mathlib.Core.Path.{◌≡◌, refl, sym, ap, ◌∙◌}
use mathlib.Core.Bool.{Bool, true, false, cond}
use mathlib.Core.List.{List}
use mathlib.Core.Logic.{◌⊎◌, inl, inr}
use Prim.Native.Nat.{ℕ, ◌+◌, ◌-◌, ◌≤◌, ◌<◌}
use native.Mathlib.Omega.{arith}
use borrow.Author.Tests.{eqb-true, eqb-false, eq-eqb, ne_eqb}
use lib.Dec.{eqb, leb}
use lib.ListN.{length, take, drop}
use Rattle.spec_base.specs.base.Put.{placed_at, place_after}
use Rattle.spec_text.specs.pattern.Find.{first}
use Rattle.spec_text.specs.pattern.Piece.{comma}
use Rattle.spec_ass.specs.ass_columns.Columns.{fields}
use Rattle.spec_ass.specs.ass_write.Frame.{piece_at, field_pieces, piece_text, frame_placed, frame_after}
use Rattle.spec_ass.proofs.ass_columns.FieldLaws.{head_two}
use Rattle.spec_ass.proofs.ass_write.WriteLaws.{piece_text_lem, Unwritten, unwritten_all, no_fields, fields_done, fields_again}

-- ---- a column's text
module _ (s e : List ℕ) (i j k : ℕ) (f : List ℕ) where
  abbrev Text : List ℕ
  Text = piece_text s e (piece_at i j k f)

  pub text_stop : k ≡ j → e ≡ Text
  text_stop h = sym (piece_text_lem s e i j k f ∙ ap (λ (t : Bool). cond t e (cond (eqb k i) s f)) (eq-eqb k j h))

  pub text_start : (k ≡ j → ⊥) → k ≡ i → s ≡ Text
  text_start n h = sym (piece_text_lem s e i j k f ∙ ap (λ (t : Bool). cond t e (cond (eqb k i) s f)) (ne_eqb k j n) ∙ ap (λ (t : Bool). cond t s f) (eq-eqb k i h))

  pub text_field : (k ≡ j → ⊥) → (k ≡ i → ⊥) → f ≡ Text
  text_field n h = sym (piece_text_lem s e i j k f ∙ ap (λ (t : Bool). cond t e (cond (eqb k i) s f)) (ne_eqb k j n) ∙ ap (λ (t : Bool). cond t s f) (ne_eqb k i h))

-- ---- the loop: i and j are the places of the two times, m the number of columns, and k fields are written
module _ (s e : List ℕ) (i j m : ℕ) (rest o₀ : List ℕ) (from : ℕ) where
  -- no columns, or what is left to write is the whole
  abbrev pub Going : (k at : ℕ) (t o : List ℕ) → Type 0
  Going k at t o = ((m ≡ 0) × (at ≡ from) × (o ≡ o₀)) ⊎ ((k < m) × Unwritten s e i j m rest o₀ from (m - k) at (k + 1) t o)

  going : (k at : ℕ) (t o : List ℕ) → k < m → Going k at t o → Unwritten s e i j m rest o₀ from (m - k) at (k + 1) t o
  going k at t o h (inl p) = absurd (omega (arith, p.0))
  going k at t o h (inr p) = p.1

  -- the cursor stands within the output
  pub going_room : (k at : ℕ) (t o : List ℕ) → k < m → Going k at t o → at ≤ length o
  going_room k at t o h g = (going k at t o h g).room

  pub going_all : from ≤ length o₀ → Going 0 from rest o₀
  going_all r = go (eqb m 0) refl
    where
      go : (b : Bool) → eqb m 0 ≡ b → Going 0 from rest o₀
      go true q = inl (eqb-true m 0 q, refl, refl)
      go false q =
          let n : m ≡ 0 → ⊥ = eqb-false m 0 q in
          let z : m - 0 ≡ m = omega arith in
          inr (omega arith, rw z (unwritten_all s e i j m rest o₀ from n r))

  module _ (k n at at₁ : ℕ) (t f b o o₁ : List ℕ) (h : k < m) (g : Going k at t o) (en : n ≡ cond (leb (m - k) 1) (length t) (first comma t)) (ef : f ≡ take n t)
      (eb : b ≡ piece_text s e (piece_at i j (k + 1) f)) (ea : at₁ ≡ place_after at b o) (eo : o₁ ≡ placed_at at b o) where
    left : Unwritten s e i j m rest o₀ from (m - k) at (k + 1) t o
    left = going k at t o h g

    pub going_done : length t ≤ n → (at₁ ≡ frame_after s e from (field_pieces i j 1 (fields m rest)) o₀) × (o₁ ≡ frame_placed s e from (field_pieces i j 1 (fields m rest)) o₀)
    going_done l = fields_done s e i j m rest o₀ from (m - k) at (k + 1) n at₁ t o f o₁ left en ef (rw eb at ea, rw eb at eo) l

    pub going_again : (at₂ : ℕ) (o₂ u : List ℕ) → n < length t → at₂ ≡ place_after at₁ comma o₁ → o₂ ≡ placed_at at₁ comma o₁ → u ≡ drop (n + 1) t → Going (k + 1) at₂ u o₂
    going_again at₂ o₂ u l ea₂ eo₂ eu =
        let two : 1 < m - k = head_two (m - k) n t left.some en l in
        let z : m - k - 1 ≡ m - (k + 1) = omega arith in
        inr (omega arith, rw z at (fields_again s e i j m rest o₀ from (m - k) at (k + 1) n at₁ t o f o₁ left en ef (rw eb at ea, rw eb at eo) at₂ o₂ u l (ea₂, eo₂) eu))

  pub going_none : (k at : ℕ) (t o : List ℕ) → Going k at t o → m ≤ k → (at ≡ frame_after s e from (field_pieces i j 1 (fields m rest)) o₀) × (o ≡ frame_placed s e from (field_pieces i j 1 (fields m rest)) o₀)
  going_none k at t o (inl p) h =
      let q = no_fields s e i j m rest o₀ from p.0 in
      (p.1 ∙ q.0, p.2 ∙ q.1)
  going_none k at t o (inr p) h = absurd (omega (arith, p.0))
