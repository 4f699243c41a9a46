-- Laws of values, as the code walks them: sizes, one item of a row, and fuel.
use mathlib.Core.Path.{◌≡◌, refl, sym, ap, subst, ◌∙◌}
use mathlib.Core.Bool.{Bool, true, false, cond, true≢false}
use mathlib.Core.List.{List, [], ◌∷◌}
use Prim.Native.Nat.{ℕ, zero, suc, ◌+◌, ◌-◌, ◌^◌, ◌≤◌, ◌<◌}
use native.Mathlib.Omega.{arith}
use native.Mathlib.Numerals.{add-one}
use borrow.Author.Tests.{eq-eqb, ne_eqb, eqb-true}
use lib.Dec.{eqb}
use lib.ListN.{length, drop, get_or, length-drop}
use Rattle.spec_base.specs.base.Ascii.{ascii}
use Rattle.spec_base.specs.base.Width.{by_width}
use Rattle.spec_base.proofs.base.Laws.{yes!, no! }
use Rattle.spec_text.specs.pattern.Find.{starts}
use Rattle.spec_json.specs.json.Space.{spaces, joined, padded}
use Rattle.spec_json.specs.json.Str.{string_width}
use Rattle.spec_json.specs.json.Num.{number_width}
use Rattle.spec_json.specs.json.Value.{literal_width, scalar_width, colon_at, key_width, member_width, row_width}
use Rattle.spec_json.proofs.json.SpaceLaws.{spaces_le}
use Rattle.spec_json.proofs.json.NumberLaws.{number_le, cut_le}
use Rattle.spec_json.proofs.json.StringLaws.{in_text}
use Rattle.spec_json.proofs.json.CharsLaws.{string_le}
use Rattle.spec_text.proofs.pattern.PieceLaws.{starts_long}

-- ---- scalars
literal_le : (s : List ℕ) → literal_width s ≤ length s
unfolding literal_width
literal_le s = go (starts (ascii "true") s) (starts (ascii "null") s) (starts (ascii "false") s) (starts_long (ascii "true") s) (starts_long (ascii "null") s) (starts_long (ascii "false") s)
  where
    go : (p q r : Bool) → (p ≡ true → 4 ≤ length s) → (q ≡ true → 4 ≤ length s) → (r ≡ true → 5 ≤ length s) → cond p 4 (cond q 4 (cond r 5 0)) ≤ length s
    go true q r f g h = f refl
    go false true r f g h = g refl
    go false false true f g h = h refl
    go false false false f g h = omega arith

-- no literal begins below `f`
pub literal_low : (s : List ℕ) (b : ℕ) → b ≡ get_or s 0 0 → b < 0x66 → 0 ≡ literal_width s
unfolding literal_width starts
literal_low [] b e h = refl
literal_low (x ∷ s) b e h =
    no! _ (sym (no! _ (ne_eqb 0x74 x (λ q. omega arith)) refl)) (no! _ (sym (no! _ (ne_eqb 0x6E x (λ q. omega arith)) refl)) (no! _ (sym (no! _ (ne_eqb 0x66 x (λ q. omega arith)) refl)) refl))

pub scalar_le : (s : List ℕ) → scalar_width s ≤ length s
unfolding scalar_width
scalar_le s = go (eqb (get_or s 0 0) 0x22) (literal_width s) (literal_le s) (string_le s) (number_le s)
  where
    go : (t : Bool) (n : ℕ) → n ≤ length s → string_width s ≤ length s → number_width s ≤ length s → cond t (string_width s) (by_width n (number_width s) (λ k. suc k)) ≤ length s
    go true n a b c = b
    go false zero a b c = c
    go false (suc n) a b c = a

pub scalar_string : (s : List ℕ) (b n : ℕ) → b ≡ get_or s 0 0 → b ≡ 0x22 → n ≡ string_width s → n ≡ scalar_width s
unfolding scalar_width
scalar_string s b n e h p = yes! _ (eq-eqb _ _ (sym e ∙ h)) p

pub scalar_number : (s : List ℕ) (b n m : ℕ) → b ≡ get_or s 0 0 → (b ≡ 0x22 → ⊥) → n ≡ literal_width s → n ≡ 0 → m ≡ number_width s → m ≡ scalar_width s
unfolding scalar_width
scalar_number s b n m e h p z q = no! _ (ne_eqb _ _ (λ k. h (e ∙ k))) (q ∙ ap (λ (k : ℕ). by_width k (number_width s) (λ k. suc k)) (sym z ∙ p))

by_self : (n m : ℕ) → (n ≡ 0 → ⊥) → n ≡ by_width n m (λ k. suc k)
by_self zero m h = absurd (h refl)
by_self (suc n) m h = refl

pub scalar_literal : (s : List ℕ) (b n : ℕ) → b ≡ get_or s 0 0 → (b ≡ 0x22 → ⊥) → n ≡ literal_width s → (n ≡ 0 → ⊥) → n ≡ scalar_width s
unfolding scalar_width
scalar_literal s b n e h p z = no! _ (ne_eqb _ _ (λ k. h (e ∙ k))) (by_self n (number_width s) z ∙ ap (λ (k : ℕ). by_width k (number_width s) (λ k. suc k)) p)

-- ---- keys
module _ (s t : List ℕ) (a k : ℕ) (ea : a ≡ spaces s) (dt : t ≡ drop a s) (ek : k ≡ string_width t) where
  key_by : string_width (drop (spaces s) s) ≡ k
  key_by = ap (λ (n : ℕ). string_width (drop n s)) (sym ea) ∙ ap string_width (sym dt) ∙ sym ek

  pub key_none : k ≡ 0 → 0 ≡ key_width s
  unfolding key_width
  key_none z = rw (key_by ∙ z) refl

  pub key_part : a + k ≤ length s
  key_part = let l = cut_le string_width string_le s t a dt in let m = spaces_le s in omega arith

  pub key_fits : length s < 2 ^ 64 → a + k < 2 ^ 64
  key_fits h = let l = key_part in omega arith

  module _ (u : List ℕ) (x : ℕ) (du : u ≡ drop (a + k) s) (ex : x ≡ spaces u) where
    key_is : (k ≡ 0 → ⊥) → key_width s ≡ colon_at s (a + k + x)
    unfolding key_width
    key_is z = go k z refl
      where
        go : (j : ℕ) → (j ≡ 0 → ⊥) → k ≡ j → key_width s ≡ colon_at s (a + k + x)
        go zero z q = absurd (z refl)
        go (suc j) z q =
            let w : spaces s + suc j ≡ a + k = omega arith in
            let y : spaces (drop (spaces s + suc j) s) ≡ x = ap (λ (n : ℕ). spaces (drop n s)) w ∙ ap spaces (sym du) ∙ sym ex in
            rw (key_by ∙ q) (ap (λ (n : ℕ). colon_at s n) (ap (λ (n : ℕ). n + spaces (drop (spaces s + suc j) s)) w ∙ ap (λ (n : ℕ). a + k + n) y))

    key_most : a + k + x ≤ length s
    key_most = let l = key_part in let m = cut_le spaces spaces_le s u (a + k) du in omega arith

    pub key_fits_2 : length s < 2 ^ 64 → a + k + x < 2 ^ 64
    key_fits_2 h = let l = key_most in omega arith

    pub key_other : (b : ℕ) → (k ≡ 0 → ⊥) → b ≡ get_or s (a + k + x) 0 → (b ≡ 0x3A → ⊥) → 0 ≡ key_width s
    key_other b z e h = no! _ (ne_eqb _ _ (λ q. h (e ∙ q))) refl ∙ sym (key_is z)

    key_in : (b : ℕ) → b ≡ get_or s (a + k + x) 0 → b ≡ 0x3A → a + k + x < length s
    key_in b e h = in_text s (a + k + x) (λ q. omega arith)

    pub key_some : (b : ℕ) → (k ≡ 0 → ⊥) → b ≡ get_or s (a + k + x) 0 → b ≡ 0x3A → a + k + x + 1 ≡ key_width s
    key_some b z e h = rw add-one (yes! _ (eq-eqb _ _ (sym e ∙ h)) refl ∙ sym (key_is z))

    pub key_fits_3 : (b : ℕ) → length s < 2 ^ 64 → b ≡ get_or s (a + k + x) 0 → b ≡ 0x3A → a + k + x + 1 < 2 ^ 64
    key_fits_3 b h e q = let l = key_in b e q in omega arith

pub key_le : (s : List ℕ) → key_width s ≤ length s
unfolding key_width
key_le s = go (string_width (drop (spaces s) s)) refl
  where
    go : (k : ℕ) → string_width (drop (spaces s) s) ≡ k → by_width k 0 (λ k. colon_at s (spaces s + suc k + spaces (drop (spaces s + suc k) s))) ≤ length s
    go zero e = omega arith
    go (suc k) e = col (eqb (get_or s n 0) 0x3A) refl
      where
        n : ℕ
        n = spaces s + suc k + spaces (drop (spaces s + suc k) s)

        col : (t : Bool) → eqb (get_or s n 0) 0x3A ≡ t → cond t (suc n) 0 ≤ length s
        col true q = let z = in_text s n (λ r. let y = eqb-true (get_or s n 0) 0x3A q in omega arith) in omega arith
        col false q = omega arith

-- ---- padded items and members
pub padded_le : (item : List ℕ → ℕ) → ((s : List ℕ) → item s ≤ length s) → (s : List ℕ) → padded item s ≤ length s
unfolding padded
padded_le item le s = go (item (drop (spaces s) s)) (cut_le item le s (drop (spaces s) s) (spaces s) refl)
  where
    go : (k : ℕ) → k ≤ length s - spaces s → by_width k 0 (λ k. spaces s + suc k + spaces (drop (spaces s + suc k) s)) ≤ length s
    go zero h = omega arith
    go (suc k) h = let a = cut_le spaces spaces_le s (drop (spaces s + suc k) s) (spaces s + suc k) refl in let b = spaces_le s in omega arith

pub member_le : (item : List ℕ → ℕ) → ((s : List ℕ) → item s ≤ length s) → (s : List ℕ) → member_width item s ≤ length s
unfolding member_width
member_le item le s = go (key_width s) (key_le s)
  where
    add : (k n : ℕ) → n ≤ length s - k → k ≤ length s → joined k n ≤ length s
    add k zero h l = omega arith
    add k (suc n) h l = omega arith

    go : (k : ℕ) → k ≤ length s → by_width k 0 (λ k. joined (suc k) (padded item (drop (suc k) s))) ≤ length s
    go zero h = omega arith
    go (suc k) h = add (suc k) (padded item (drop (suc k) s)) (cut_le (padded item) (padded_le item le) s (drop (suc k) s) (suc k) refl) h

-- ---- rows
module _ (item : List ℕ → ℕ) (close : ℕ) where
  pub row_open : (n : ℕ) (s : List ℕ) (k : ℕ) → item s ≡ suc k
      → row_width item close (suc n) s ≡ elim (eqb (get_or s (suc k) 0) close) [ true ↦ suc (suc k) | false ↦ elim (eqb (get_or s (suc k) 0) 0x2C) [ true ↦ joined (suc (suc k)) (row_width item close n (drop (suc (suc k)) s)) | false ↦ 0 ] ]
  unfolding row_width
  row_open n s k e = ap (λ (j : ℕ). by_width j 0 (λ k. elim (eqb (get_or s (suc k) 0) close) [ true ↦ suc (suc k) | false ↦ elim (eqb (get_or s (suc k) 0) 0x2C) [ true ↦ joined (suc (suc k)) (row_width item close n (drop (suc (suc k)) s)) | false ↦ 0 ] ])) e

  pub row_shut : (n : ℕ) (s : List ℕ) → item s ≡ 0 → row_width item close n s ≡ 0
  unfolding row_width
  row_shut zero s e = refl
  row_shut (suc n) s e = ap (λ (j : ℕ). by_width j 0 (λ k. elim (eqb (get_or s (suc k) 0) close) [ true ↦ suc (suc k) | false ↦ elim (eqb (get_or s (suc k) 0) 0x2C) [ true ↦ joined (suc (suc k)) (row_width item close n (drop (suc (suc k)) s)) | false ↦ 0 ] ])) e

  module _ (none : item [] ≡ 0) where
    -- fuel above the length changes nothing
    pub row_fuel : (n m : ℕ) (s : List ℕ) → length s ≤ n → length s ≤ m → row_width item close n s ≡ row_width item close m s
    row_fuel zero m [] h l = row_shut zero [] none ∙ sym (row_shut m [] none)
    row_fuel zero m (b ∷ s) h l = absurd (omega arith)
    row_fuel (suc n) zero [] h l = row_shut (suc n) [] none ∙ sym (row_shut zero [] none)
    row_fuel (suc n) zero (b ∷ s) h l = absurd (omega arith)
    row_fuel (suc n) (suc m) s h l = go (item s) refl (λ t a b. row_fuel n m t a b)
      where
        go : (k : ℕ) → item s ≡ k → ((t : List ℕ) → length t ≤ n → length t ≤ m → row_width item close n t ≡ row_width item close m t) → row_width item close (suc n) s ≡ row_width item close (suc m) s
        go zero e ih = row_shut (suc n) s e ∙ sym (row_shut (suc m) s e)
        go (suc k) e ih =
            let q : length (drop (suc (suc k)) s) ≡ length s - suc (suc k) = length-drop (suc (suc k)) s in
            row_open n s k e
            ∙ ap (λ (x : ℕ). elim (eqb (get_or s (suc k) 0) close) [ true ↦ suc (suc k) | false ↦ elim (eqb (get_or s (suc k) 0) 0x2C) [ true ↦ joined (suc (suc k)) x | false ↦ 0 ] ]) (ih (drop (suc (suc k)) s) (omega arith) (omega arith))
            ∙ sym (row_open m s k e)

    -- the row at the head of t, by its item
    abbrev pub Row : List ℕ → ℕ
    Row t = row_width item close (length t) t

    long : (t : List ℕ) (k : ℕ) → item t ≡ suc k → length t ≡ suc (length t - 1)
    long [] k e = absurd (omega (arith, none))
    long (b ∷ t) k e = omega arith

    row_by : (t : List ℕ) (k : ℕ) → item t ≡ suc k
        → Row t ≡ elim (eqb (get_or t (suc k) 0) close) [ true ↦ suc (suc k) | false ↦ elim (eqb (get_or t (suc k) 0) 0x2C) [ true ↦ joined (suc (suc k)) (row_width item close (length t - 1) (drop (suc (suc k)) t)) | false ↦ 0 ] ]
    row_by t k e = ap (λ (n : ℕ). row_width item close n t) (long t k e) ∙ row_open (length t - 1) t k e

    pub row_none : (t : List ℕ) (k : ℕ) → k ≡ item t → k ≡ 0 → Row t ≡ 0
    row_none t k e z = row_shut (length t) t (sym e ∙ z)

    pub row_closed : (t : List ℕ) (k b : ℕ) → k ≡ item t → (k ≡ 0 → ⊥) → b ≡ get_or t k 0 → b ≡ close → Row t ≡ suc k
    row_closed t zero b e z eb h = absurd (z refl)
    row_closed t (suc k) b e z eb h = row_by t k (sym e) ∙ go (eqb (get_or t (suc k) 0) close) (eq-eqb _ _ (sym eb ∙ h))
      where
        go : (x : Bool) → x ≡ true → ◌≡◌ {A = ℕ} (elim x [ true ↦ suc (suc k) | false ↦ elim (eqb (get_or t (suc k) 0) 0x2C) [ true ↦ joined (suc (suc k)) (row_width item close (length t - 1) (drop (suc (suc k)) t)) | false ↦ 0 ] ]) (suc (suc k))
        go true e = refl
        go false e = absurd (true≢false (sym e))

    pub row_other : (t : List ℕ) (k b : ℕ) → k ≡ item t → (k ≡ 0 → ⊥) → b ≡ get_or t k 0 → (b ≡ close → ⊥) → (b ≡ 0x2C → ⊥) → Row t ≡ 0
    row_other t zero b e z eb h l = absurd (z refl)
    row_other t (suc k) b e z eb h l = row_by t k (sym e) ∙ go (eqb (get_or t (suc k) 0) close) (eqb (get_or t (suc k) 0) 0x2C) (ne_eqb _ _ (λ q. h (eb ∙ q))) (ne_eqb _ _ (λ q. l (eb ∙ q)))
      where
        go : (x y : Bool) → x ≡ false → y ≡ false → ◌≡◌ {A = ℕ} (elim x [ true ↦ suc (suc k) | false ↦ elim y [ true ↦ joined (suc (suc k)) (row_width item close (length t - 1) (drop (suc (suc k)) t)) | false ↦ 0 ] ]) 0
        go true y e f = absurd (true≢false e)
        go false true e f = absurd (true≢false f)
        go false false e f = refl

    pub row_more : (t : List ℕ) (k b : ℕ) → k ≡ item t → (k ≡ 0 → ⊥) → b ≡ get_or t k 0 → (b ≡ close → ⊥) → b ≡ 0x2C → Row t ≡ joined (suc k) (Row (drop (suc k) t))
    row_more t zero b e z eb h l = absurd (z refl)
    row_more t (suc k) b e z eb h l =
        row_by t k (sym e) ∙ go (eqb (get_or t (suc k) 0) close) (eqb (get_or t (suc k) 0) 0x2C) (ne_eqb _ _ (λ q. h (eb ∙ q))) (eq-eqb _ _ (sym eb ∙ l))
        ∙ ap (joined (suc (suc k))) (row_fuel (length t - 1) (length (drop (suc (suc k)) t)) (drop (suc (suc k)) t) (omega (arith, length-drop (suc (suc k)) t)) (omega arith))
      where
        go : (x y : Bool) → x ≡ false → y ≡ true → ◌≡◌ {A = ℕ} (elim x [ true ↦ suc (suc k) | false ↦ elim y [ true ↦ joined (suc (suc k)) (row_width item close (length t - 1) (drop (suc (suc k)) t)) | false ↦ 0 ] ]) (joined (suc (suc k)) (row_width item close (length t - 1) (drop (suc (suc k)) t)))
        go true y e f = absurd (true≢false e)
        go false true e f = refl
        go false false e f = absurd (true≢false (sym f))

  pub row_le : (close ≡ 0 → ⊥) → (n : ℕ) (s : List ℕ) → row_width item close n s ≤ length s
  unfolding row_width
  row_le c zero s = omega arith
  row_le c (suc n) s = go (item s) refl (λ t. row_le c n t)
    where
      go : (k : ℕ) → item s ≡ k → ((t : List ℕ) → row_width item close n t ≤ length t) → row_width item close (suc n) s ≤ length s
      go zero e ih = subst (λ (x : ℕ). x ≤ length s) (sym (row_shut (suc n) s e)) (omega arith)
      go (suc k) e ih = subst (λ (x : ℕ). x ≤ length s) (sym (row_open n s k e)) (by (eqb (get_or s (suc k) 0) close) (eqb (get_or s (suc k) 0) 0x2C) refl refl)
        where
          add : (x : ℕ) → suc k < length s → x ≤ length s - suc (suc k) → joined (suc (suc k)) x ≤ length s
          add zero h l = omega arith
          add (suc x) h l = omega arith

          by : (x y : Bool) → eqb (get_or s (suc k) 0) close ≡ x → eqb (get_or s (suc k) 0) 0x2C ≡ y
              → elim x [ true ↦ suc (suc k) | false ↦ elim y [ true ↦ joined (suc (suc k)) (row_width item close n (drop (suc (suc k)) s)) | false ↦ 0 ] ] ≤ length s
          by true y p q = let z = in_text s (suc k) (λ r. c (sym (eqb-true _ _ p) ∙ r)) in omega arith
          by false true p q =
              let z = in_text s (suc k) (λ r. let w = eqb-true (get_or s (suc k) 0) 0x2C q in omega arith) in
              add (row_width item close n (drop (suc (suc k)) s)) z (cut_le (row_width item close n) ih s (drop (suc (suc k)) s) (suc (suc k)) refl)
          by false false p q = omega arith
