-- A row that was written: items with commas between them and the byte that closes it. It is read back item by item.
use Prim.Native.Nat.{ℕ, zero, suc, ◌+◌, ◌≤◌, ◌<◌}
use mathlib.Core.Path.{◌≡◌, refl, ap, sym, ◌∙◌}
use mathlib.Core.Logic.{◌⊎◌, inl, inr}
use mathlib.Core.Bool.{Bool, true, false}
use mathlib.Core.List.{List, [], ◌∷◌, ◌++◌, append_assoc}
use lib.Dec.{eqb}
use lib.ListN.{length, get_or, take, drop, length-append}
use lib.Seq.{take-append_seam, drop-append_seam, get_or-append_seam}
use native.Mathlib.Omega.{arith}
use borrow.Author.Tests.{eq-eqb, ne_eqb}
use Rattle.spec_base.specs.base.Width.{by_width}
use Rattle.spec_json.specs.json.Space.{joined}
use Rattle.spec_json.specs.json.Value.{row_width, row_items}

-- ---- one step of a row, by what stands behind the item
module _ (item : List ℕ → ℕ) (close : ℕ) where
  step_close : (n : ℕ) (s : List ℕ) (w : ℕ) → item s ≡ suc w → eqb (get_or s (suc w) 0) close ≡ true → row_width item close (suc n) s ≡ suc (suc w)
  unfolding row_width
  step_close n s w e c =
      ap (λ (k : ℕ). by_width k 0 (λ k. elim (eqb (get_or s (suc k) 0) close) [ true ↦ suc (suc k) | false ↦ elim (eqb (get_or s (suc k) 0) 0x2C) [ true ↦ joined (suc (suc k)) (row_width item close n (drop (suc (suc k)) s)) | false ↦ 0 ] ])) e
      ∙ ap (λ (t : Bool). elim t [ true ↦ suc (suc w) | false ↦ elim (eqb (get_or s (suc w) 0) 0x2C) [ true ↦ joined (suc (suc w)) (row_width item close n (drop (suc (suc w)) s)) | false ↦ 0 ] ]) c

  step_comma : (n : ℕ) (s : List ℕ) (w : ℕ) → item s ≡ suc w → eqb (get_or s (suc w) 0) close ≡ false → eqb (get_or s (suc w) 0) 0x2C ≡ true
      → row_width item close (suc n) s ≡ joined (suc (suc w)) (row_width item close n (drop (suc (suc w)) s))
  unfolding row_width
  step_comma n s w e c d =
      ap (λ (k : ℕ). by_width k 0 (λ k. elim (eqb (get_or s (suc k) 0) close) [ true ↦ suc (suc k) | false ↦ elim (eqb (get_or s (suc k) 0) 0x2C) [ true ↦ joined (suc (suc k)) (row_width item close n (drop (suc (suc k)) s)) | false ↦ 0 ] ])) e
      ∙ ap (λ (t : Bool). elim t [ true ↦ suc (suc w) | false ↦ elim (eqb (get_or s (suc w) 0) 0x2C) [ true ↦ joined (suc (suc w)) (row_width item close n (drop (suc (suc w)) s)) | false ↦ 0 ] ]) c
      ∙ ap (λ (t : Bool). elim t [ true ↦ joined (suc (suc w)) (row_width item close n (drop (suc (suc w)) s)) | false ↦ 0 ]) d

  items_step : (n : ℕ) (s : List ℕ) (w : ℕ) (t : Bool) → item s ≡ suc w → eqb (get_or s (suc w) 0) 0x2C ≡ t
      → row_items item close (suc n) s ≡ take (suc w) s ∷ elim t [ true ↦ row_items item close n (drop (suc (suc w)) s) | false ↦ [] ]
  unfolding row_items
  items_step n s w t e d =
      ap (λ (k : ℕ). by_width k [] (λ k. take (suc k) s ∷ elim (eqb (get_or s (suc k) 0) 0x2C) [ true ↦ row_items item close n (drop (suc (suc k)) s) | false ↦ [] ])) e
      ∙ ap (λ (t : Bool). take (suc w) s ∷ elim t [ true ↦ row_items item close n (drop (suc (suc w)) s) | false ↦ [] ]) d

  -- ---- an item: it is taken whole before a comma and before the byte that closes
  pub record Fits (x : List ℕ) : Type 0 where
    pub less : ℕ
    pub size : length x ≡ suc less
    pub taken : (b : ℕ) (r : List ℕ) → (b ≡ 0x2C) ⊎ (b ≡ close) → item (x ++ b ∷ r) ≡ length x

  abbrev pub AllFit : List (List ℕ) → Type 0
  AllFit [] = Unit {0}
  AllFit (x ∷ xs) = Fits x × AllFit xs

  -- the first item, the others behind commas, the byte that closes
  abbrev pub row_text : List ℕ → List (List ℕ) → List ℕ
  row_text x [] = x ++ close ∷ []
  row_text x (y ∷ ys) = x ++ 0x2C ∷ row_text y ys

  abbrev pub count : List (List ℕ) → ℕ
  count [] = 0
  count (x ∷ xs) = suc (count xs)

  behind : (x : List ℕ) (b : ℕ) (r : List ℕ) (w : ℕ) → length x ≡ suc w → get_or (x ++ b ∷ r) (suc w) 0 ≡ b
  behind x b r w e = ap (λ (k : ℕ). get_or (x ++ b ∷ r) k 0) (sym e) ∙ get_or-append_seam x b r 0

  past : (x : List ℕ) (b : ℕ) (r : List ℕ) (w : ℕ) → length x ≡ suc w → drop (suc (suc w)) (x ++ b ∷ r) ≡ r
  past x b r w e =
      let n : suc (suc w) ≡ length (x ++ b ∷ []) = omega (arith, length-append x (b ∷ [])) in
      ap (λ (k : ℕ). drop k (x ++ b ∷ r)) n ∙ ap (drop (length (x ++ b ∷ []))) (sym (append_assoc x (b ∷ []) r)) ∙ drop-append_seam (x ++ b ∷ []) r

  front : (x : List ℕ) (r : List ℕ) (w : ℕ) → length x ≡ suc w → take (suc w) (x ++ r) ≡ x
  front x r w e = ap (λ (k : ℕ). take k (x ++ r)) (sym e) ∙ take-append_seam x r

  joined_suc : (a b : ℕ) → 0 < b → joined a b ≡ a + b
  joined_suc a zero h = absurd (omega arith)
  joined_suc a (suc b) h = refl

  row_some : (x : List ℕ) (ys : List (List ℕ)) → 0 < length (row_text x ys)
  row_some x [] = omega (arith, length-append x (close ∷ []))
  row_some x (y ∷ ys) = omega (arith, length-append x (0x2C ∷ row_text y ys))

  module _ (other : close ≡ 0x2C → ⊥) where
    pub row_width_lem : (n : ℕ) (x : List ℕ) (ys : List (List ℕ)) (r : List ℕ) → count ys ≤ n → AllFit (x ∷ ys)
        → row_width item close (suc n) (row_text x ys ++ r) ≡ length (row_text x ys)
    row_width_lem n x [] r h f =
        let w = f.0.less in
        let e = append_assoc x (close ∷ []) r in
        ap (row_width item close (suc n)) e
        ∙ step_close n (x ++ close ∷ r) w (f.0.taken close r (inr refl) ∙ f.0.size) (eq-eqb _ close (behind x close r w f.0.size))
        ∙ omega (arith, f.0.size, length-append x (close ∷ []))
    row_width_lem zero x (y ∷ ys) r h f = absurd (omega arith)
    row_width_lem (suc n) x (y ∷ ys) r h f =
        let w = f.0.less in
        let e = append_assoc x (0x2C ∷ row_text y ys) r in
        let b = behind x 0x2C (row_text y ys ++ r) w f.0.size in
        let ih = row_width_lem n y ys r (omega arith) f.1 in
        ap (row_width item close (suc (suc n))) e
        ∙ step_comma (suc n) (x ++ 0x2C ∷ (row_text y ys ++ r)) w (f.0.taken 0x2C (row_text y ys ++ r) (inl refl) ∙ f.0.size) (ne_eqb _ close (λ z. other (sym z ∙ b))) (eq-eqb _ 0x2C b)
        ∙ ap (λ (l : List ℕ). joined (suc (suc w)) (row_width item close (suc n) l)) (past x 0x2C (row_text y ys ++ r) w f.0.size)
        ∙ ap (joined (suc (suc w))) ih
        ∙ joined_suc (suc (suc w)) (length (row_text y ys)) (row_some y ys)
        ∙ omega (arith, f.0.size, length-append x (0x2C ∷ row_text y ys))

    pub row_items_lem : (n : ℕ) (x : List ℕ) (ys : List (List ℕ)) (r : List ℕ) → count ys ≤ n → AllFit (x ∷ ys)
        → row_items item close (suc n) (row_text x ys ++ r) ≡ x ∷ ys
    row_items_lem n x [] r h f =
        let w = f.0.less in
        let b = behind x close r w f.0.size in
        ap (row_items item close (suc n)) (append_assoc x (close ∷ []) r)
        ∙ items_step n (x ++ close ∷ r) w false (f.0.taken close r (inr refl) ∙ f.0.size) (ne_eqb _ 0x2C (λ z. other (sym b ∙ z)))
        ∙ ap (λ (l : List ℕ). l ∷ []) (front x (close ∷ r) w f.0.size)
    row_items_lem zero x (y ∷ ys) r h f = absurd (omega arith)
    row_items_lem (suc n) x (y ∷ ys) r h f =
        let w = f.0.less in
        let b = behind x 0x2C (row_text y ys ++ r) w f.0.size in
        ap (row_items item close (suc (suc n))) (append_assoc x (0x2C ∷ row_text y ys) r)
        ∙ items_step (suc n) (x ++ 0x2C ∷ (row_text y ys ++ r)) w true (f.0.taken 0x2C (row_text y ys ++ r) (inl refl) ∙ f.0.size) (eq-eqb _ 0x2C b)
        ∙ ap (λ (l : List ℕ). l ∷ row_items item close (suc n) (drop (suc (suc w)) (x ++ 0x2C ∷ (row_text y ys ++ r)))) (front x (0x2C ∷ (row_text y ys ++ r)) w f.0.size)
        ∙ ap (λ (l : List ℕ). x ∷ row_items item close (suc n) l) (past x 0x2C (row_text y ys ++ r) w f.0.size)
        ∙ ap (λ (l : List (List ℕ)). x ∷ l) (row_items_lem n y ys r (omega arith) f.1)
