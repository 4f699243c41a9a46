-- Laws of fields that are counted byte by byte: a comma is one field fewer that is wanted behind it.
use mathlib.Core.Path.{◌≡◌, refl, sym, ap, ◌∙◌}
use mathlib.Core.Bool.{Bool, true, false, cond}
use mathlib.Core.List.{List, [], ◌∷◌, ◌++◌}
use Prim.Native.Nat.{ℕ, zero, suc, ◌+◌, ◌-◌, ◌≤◌, ◌<◌}
use Rattle.std.proofs.lemmas.List.{take-append-drop}
use native.Mathlib.Omega.{arith}
use borrow.Author.Tests.{eq-eqb, ne_eqb, eqb-true, eqb-false, le-leb, lt-leb, ltb-true, ltb-false, leb-true, leb-false}
use Rattle.std.specs.List.{count_by}
use Rattle.std.proofs.lemmas.List.Sums.{sum_by-cons}
use mathlib.Core.Logic.{◌⊎◌, inl, inr}
use lib.Dec.{eqb, leb, ltb}
use lib.ListN.{length, take, drop}
use Rattle.spec_text.specs.pattern.Find.{starts, first}
use Rattle.spec_text.specs.pattern.Piece.{comma}
use Rattle.spec_ass.specs.ass_columns.Columns.{fields, field_at}
use Rattle.spec_ass.proofs.ass_columns.FieldLaws.{fields_more, fields_last, enough_few, enough_again, enough_all, field_absent, field_past, field_short, field_again, field_found}

-- n fields are there
abbrev There : ℕ → List ℕ → Bool
There n s = leb n (length (fields n s))

pub first_comma : (b : ℕ) (u : List ℕ) → eqb 44 b ≡ true → first comma (b ∷ u) ≡ 0
unfolding first starts
first_comma b u e = rw e

pub first_other : (b : ℕ) (u : List ℕ) → eqb 44 b ≡ false → first comma (b ∷ u) ≡ suc (first comma u)
unfolding first starts
first_other b u e = rw e

leb_both : (n m : ℕ) → leb (suc n) (suc m) ≡ leb n m
leb_both n m = go (leb n m) refl
  where
    go : (t : Bool) → leb n m ≡ t → leb (suc n) (suc m) ≡ t
    go true e = le-leb (suc n) (suc m) (omega (arith, leb-true n m e))
    go false e = lt-leb (suc n) (suc m) (omega (arith, leb-false n m e))

there_none : (s : List ℕ) → There 0 s ≡ true
there_none s = le-leb 0 (length (fields 0 s)) (omega arith)

there_one : (s : List ℕ) → There 1 s ≡ true
unfolding fields
there_one s = refl

-- a comma at the head
comma_head : (n b : ℕ) (u : List ℕ) → eqb 44 b ≡ true → There n (b ∷ u) ≡ There (n - 1) u
comma_head zero b u e = there_none (b ∷ u) ∙ sym (there_none u)
comma_head (suc zero) b u e = there_one (b ∷ u) ∙ sym (there_none u)
comma_head (suc (suc n)) b u e =
    let f : fields (suc (suc n)) (b ∷ u) ≡ take 0 (b ∷ u) ∷ fields (suc (suc n) - 1) (drop (0 + 1) (b ∷ u)) = fields_more (suc (suc n)) 0 (b ∷ u) (omega arith) (sym (first_comma b u e)) (omega arith) in
    let z : suc (suc n) - 1 ≡ suc n = omega arith in
    ap (λ (fs : List (List ℕ)). leb (suc (suc n)) (length fs)) f ∙ rw z (leb_both (suc n) (length (fields (suc n) u)))

-- another byte at the head
other_head : (n b : ℕ) (u : List ℕ) → eqb 44 b ≡ false → There n (b ∷ u) ≡ There n u
other_head zero b u e = there_none (b ∷ u) ∙ sym (there_none u)
other_head (suc zero) b u e = there_one (b ∷ u) ∙ sym (there_one u)
other_head (suc (suc n)) b u e = go (ltb (first comma u) (length u)) refl
  where
    j : suc (first comma u) ≡ first comma (b ∷ u)
    j = sym (first_other b u e)

    go : (t : Bool) → ltb (first comma u) (length u) ≡ t → There (suc (suc n)) (b ∷ u) ≡ There (suc (suc n)) u
    go true q =
        let i = first comma u in
        let N = suc (suc n) in
        let h : i < length u = ltb-true i (length u) q in
        let w : suc i + 1 ≡ suc (i + 1) = omega arith in
        let z : drop (suc i + 1) (b ∷ u) ≡ drop (i + 1) u = ap (λ (k : ℕ). drop k (b ∷ u)) w in
        ap (λ (fs : List (List ℕ)). leb N (length fs)) (fields_more N (suc i) (b ∷ u) (omega arith) j (omega arith))
        ∙ ap (λ (l : List ℕ). leb N (suc (length (fields (N - 1) l)))) z
        ∙ sym (ap (λ (fs : List (List ℕ)). leb N (length fs)) (fields_more N i u (omega arith) refl h))
    go false q =
        let i = first comma u in
        let N = suc (suc n) in
        let h : length u ≤ i = ltb-false i (length u) q in
        ap (λ (fs : List (List ℕ)). leb N (length fs)) (fields_last N (suc i) (b ∷ u) (omega arith) j (omega arith))
        ∙ sym (ap (λ (fs : List (List ℕ)). leb N (length fs)) (fields_last N i u (omega arith) refl h))

pub commas_none : (s : List ℕ) (left : ℕ) → There (left - 0) (drop 0 s) ≡ There left s
commas_none s left =
    let z : left - 0 ≡ left = omega arith in
    ap (λ (n : ℕ). There n s) z

head_left : (n b : ℕ) (u : List ℕ) → There n (b ∷ u) ≡ There (n - cond (eqb b 44) 1 0) u
head_left n b u = go (eqb b 44) refl
  where
    go : (t : Bool) → eqb b 44 ≡ t → There n (b ∷ u) ≡ There (n - cond t 1 0) u
    go true e = comma_head n b u (eq-eqb 44 b (sym (eqb-true b 44 e)))
    go false e = other_head n b u (ne_eqb 44 b (λ q. eqb-false b 44 e (sym q))) ∙ sym (commas_none u n)

-- the commas of the bytes before a rest
abbrev is_comma : ℕ → Bool
is_comma b = eqb b 44

commas_left : (v u : List ℕ) (n : ℕ) → There (n - count_by is_comma v) u ≡ There n (v ++ u)
commas_left [] u n = commas_none u n
commas_left (b ∷ v) u n =
    let z : n - count_by is_comma (b ∷ v) ≡ n - cond (is_comma b) 1 0 - count_by is_comma v = omega (arith, sum_by-cons (λ x. cond (is_comma x) 1 0) b v) in
    ap (λ (m : ℕ). There m u) z ∙ commas_left v u (n - cond (is_comma b) 1 0) ∙ sym (head_left n b (v ++ u))

-- ---- the loop over 16 bytes
module _ (s t : List ℕ) (c n : ℕ) (inv : There n t ≡ There c s) where
  pub counted_some : n ≤ 1 → true ≡ There c s
  counted_some h = sym (go n h) ∙ inv
    where
      go : (n : ℕ) → n ≤ 1 → There n t ≡ true
      go zero h = there_none t
      go (suc zero) h = there_one t
      go (suc (suc n)) h = absurd (omega arith)

  pub counted_again : (v u : List ℕ) (r : ℕ) → v ≡ take 16 t → u ≡ drop 16 t → r ≡ n - count_by is_comma v → There r u ≡ There c s
  counted_again v u r ev eu er =
      rw (er, ev, eu) (commas_left (take 16 t) (drop 16 t) n ∙ ap (There n) (take-append-drop 16 t) ∙ inv)

  pub counted_rest : (r : Bool) → r ≡ There n t → r ≡ There c s
  counted_rest r e = e ∙ inv

-- ---- the loop over the commas, before the comma k
module _ (s t : List ℕ) (c k : ℕ) (inv : There (c + 1 - k) t ≡ There c s) where
  pub by_one_few : (i : ℕ) → k < c → i ≡ first comma t → length t ≤ i → false ≡ There c s
  by_one_few i l e h = enough_few s t c (c + 1 - k) inv i (omega arith) e h

  pub by_one_again : (i : ℕ) (u : List ℕ) → k < c → i ≡ first comma t → i < length t → u ≡ drop (i + 1) t → There (c + 1 - (k + 1)) u ≡ There c s
  by_one_again i u l e h eu =
      let z : c + 1 - (k + 1) ≡ c + 1 - k - 1 = omega arith in
      rw z (enough_again s t c (c + 1 - k) inv i u (omega arith) e h eu)

  pub by_one_all : c ≤ k → true ≡ There c s
  by_one_all h = enough_all s t c (c + 1 - k) inv (omega arith)

pub by_one_none : (s : List ℕ) (c : ℕ) → There (c + 1 - 1) s ≡ There c s
by_one_none s c = let z : c + 1 - 1 ≡ c = omega arith in rw z refl

-- ---- the loop to the field at p, before the comma k
module _ (s t : List ℕ) (c p k : ℕ) (inv : field_at (p + 1 - k) (fields (c + 1 - k) t) ≡ field_at p (fields c s)) (low : p ≤ c) where
  pub at_short : (i : ℕ) (r : List ℕ) → k < p → i ≡ first comma t → length t ≤ i → r ≡ take 0 t → r ≡ field_at p (fields c s)
  at_short i r l e h er = field_short s t c p (c + 1 - k) (p + 1 - k) inv (omega arith) (omega arith) i r (omega arith) e h er

  pub at_again : (i : ℕ) (u : List ℕ) → k < p → i ≡ first comma t → i < length t → u ≡ drop (i + 1) t → field_at (p + 1 - (k + 1)) (fields (c + 1 - (k + 1)) u) ≡ field_at p (fields c s)
  at_again i u l e h eu =
      let y : p + 1 - (k + 1) ≡ p + 1 - k - 1 = omega arith in
      let z : c + 1 - (k + 1) ≡ c + 1 - k - 1 = omega arith in
      rw (y, z) (field_again s t c p (c + 1 - k) (p + 1 - k) inv (omega arith) (omega arith) i u (omega arith) e h eu)

  pub at_found : (i : ℕ) (r : List ℕ) → 1 ≤ p → p ≤ k → k ≤ p → i ≡ cond (leb (c - (p - 1)) 1) (length t) (first comma t) → r ≡ take i t → r ≡ field_at p (fields c s)
  at_found i r l h h' e er =
      let z : c - (p - 1) ≡ c + 1 - k = omega arith in
      field_found s t c p (c + 1 - k) (p + 1 - k) inv (omega arith) (omega arith) i r (omega arith) (rw z at e) er

-- no such place
pub at_absent : (s r : List ℕ) (c p : ℕ) → (p ≡ 0) ⊎ ((p ≡ 0 → ⊥) × (c < p)) → r ≡ [] → r ≡ field_at p (fields c s)
at_absent s r c p (inl z) e = field_absent s r c p z e
at_absent s r c p (inr q) e = field_past s r c p q.1 e

pub at_start : (s : List ℕ) (c p : ℕ) → field_at (p + 1 - 1) (fields (c + 1 - 1) s) ≡ field_at p (fields c s)
at_start s c p =
    let y : p + 1 - 1 ≡ p = omega arith in
    let z : c + 1 - 1 ≡ c = omega arith in
    rw (y, z) refl
