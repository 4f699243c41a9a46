-- Laws of fields: the first one, and those after it.
use mathlib.Core.Path.{◌≡◌, refl, sym, ap, subst, ◌∙◌}
use mathlib.Core.Bool.{Bool, true, false, cond}
use mathlib.Core.List.{List, [], ◌∷◌}
use Prim.Native.Nat.{ℕ, zero, suc, ◌+◌, ◌-◌, ◌≤◌, ◌<◌}
use native.Mathlib.Omega.{arith}
use borrow.Author.Tests.{lt-ltb, le-ltb, le-leb, lt-leb, ltb-true, ltb-false, leb-true, leb-false}
use lib.Dec.{ltb, leb}
use lib.ListN.{length, take, drop, length-drop}
use lib.Seq.{take_all}
use Rattle.spec_text.specs.pattern.Find.{first, contains, up_to, past}
use Rattle.spec_ass.specs.ass_columns.Columns.{fields, field_at}
use Rattle.spec_text.specs.pattern.Piece.{comma}

pub fields_some : (n : ℕ) (s : List ℕ) → first comma s < length s → fields (suc (suc n)) s ≡ take (first comma s) s ∷ fields (suc n) (drop (first comma s + 1) s)
unfolding fields contains up_to past
fields_some n s h = rw (lt-ltb (first comma s) (length s) h)

fields_whole : (n : ℕ) (s : List ℕ) → length s ≤ first comma s → fields (suc (suc n)) s ≡ s ∷ []
unfolding fields contains
fields_whole n s h = rw (le-ltb (first comma s) (length s) h)

pub fields_one : (s : List ℕ) → fields 1 s ≡ s ∷ []
unfolding fields
fields_one s = refl

-- two fields or more are wanted; the comma is at i
pub fields_more : (n i : ℕ) (s : List ℕ) → 1 < n → i ≡ first comma s → i < length s → fields n s ≡ take i s ∷ fields (n - 1) (drop (i + 1) s)
fields_more zero i s l e h = absurd (omega arith)
fields_more (suc zero) i s l e h = absurd (omega arith)
fields_more (suc (suc n)) i s l e h =
    let z : suc (suc n) - 1 ≡ suc n = omega arith in
    rw (z, e) (fields_some n s (subst (λ (j : ℕ). j < length s) e h))

-- no comma, or only one field is wanted
pub fields_last : (n i : ℕ) (s : List ℕ) → 0 < n → i ≡ first comma s → length s ≤ i → fields n s ≡ s ∷ []
fields_last zero i s l e h = absurd (omega arith)
fields_last (suc zero) i s l e h = fields_one s
fields_last (suc (suc n)) i s l e h = fields_whole n s (subst (λ (j : ℕ). length s ≤ j) e h)

-- the first of at most n fields has i bytes
module _ (n i : ℕ) (s : List ℕ) (l : 0 < n) (e : i ≡ cond (leb n 1) (length s) (first comma s)) where
  pub head_last : length s ≤ i → fields n s ≡ take i s ∷ []
  head_last h = go (leb n 1) refl e
    where
      go : (t : Bool) → leb n 1 ≡ t → i ≡ cond t (length s) (first comma s) → fields n s ≡ take i s ∷ []
      go true q f =
          let z : n ≡ 1 = omega (arith, leb-true n 1 q) in
          rw (z, take_all i s h) (fields_one s)
      go false q f = rw (take_all i s h) (fields_last n i s l f h)

  pub head_two : i < length s → 1 < n
  head_two h = go (leb n 1) refl e
    where
      go : (t : Bool) → leb n 1 ≡ t → i ≡ cond t (length s) (first comma s) → 1 < n
      go true q f = absurd (omega arith)
      go false q f = leb-false n 1 q

  pub head_more : i < length s → fields n s ≡ take i s ∷ fields (n - 1) (drop (i + 1) s)
  head_more h = go (leb n 1) refl e
    where
      go : (t : Bool) → leb n 1 ≡ t → i ≡ cond t (length s) (first comma s) → fields n s ≡ take i s ∷ fields (n - 1) (drop (i + 1) s)
      go true q f = absurd (omega arith)
      go false q f = fields_more n i s (leb-false n 1 q) f h

pub fields_none : (s : List ℕ) → fields 0 s ≡ []
unfolding fields
fields_none s = refl

-- how many: at least one where any is wanted, and never more than wanted
pub fields_least : (n : ℕ) (s : List ℕ) → 0 < n → 0 < length (fields n s)
unfolding fields
fields_least zero s l = l
fields_least (suc zero) s l = omega arith
fields_least (suc (suc n)) s l = go (contains comma s)
  where
    go : (t : Bool) → 0 < length (cond t (up_to comma s ∷ fields (suc n) (past comma s)) (s ∷ []))
    go true = omega arith
    go false = omega arith

pub fields_most : (n : ℕ) (s : List ℕ) → length (fields n s) ≤ n
unfolding fields
fields_most zero s = omega arith
fields_most (suc zero) s = omega arith
fields_most (suc (suc n)) s = go (contains comma s) (fields_most (suc n) (past comma s))
  where
    go : (t : Bool) → length (fields (suc n) (past comma s)) ≤ suc n → length (cond t (up_to comma s ∷ fields (suc n) (past comma s)) (s ∷ [])) ≤ suc (suc n)
    go true ih = omega arith
    go false ih = omega arith

-- ---- enough
leb_pred : (n m : ℕ) → 0 < n → leb (n - 1) m ≡ leb n (suc m)
leb_pred n m l = go (leb n (suc m)) refl
  where
    go : (t : Bool) → leb n (suc m) ≡ t → leb (n - 1) m ≡ t
    go true e = le-leb (n - 1) m (omega (arith, leb-true n (suc m) e))
    go false e = lt-leb (n - 1) m (omega (arith, leb-false n (suc m) e))

module _ (s t : List ℕ) (c n : ℕ) (inv : leb n (length (fields n t)) ≡ leb c (length (fields c s))) where
  pub enough_few : (i : ℕ) → 1 < n → i ≡ first comma t → length t ≤ i → false ≡ leb c (length (fields c s))
  enough_few i l e h = sym (lt-leb n 1 l) ∙ ap (λ (fs : List (List ℕ)). leb n (length fs)) (sym (fields_last n i t (omega arith) e h)) ∙ inv

  pub enough_again : (i : ℕ) (u : List ℕ) → 1 < n → i ≡ first comma t → i < length t → u ≡ drop (i + 1) t → leb (n - 1) (length (fields (n - 1) u)) ≡ leb c (length (fields c s))
  enough_again i u l e h eu =
      leb_pred n (length (fields (n - 1) u)) (omega arith)
      ∙ ap (λ (x : List ℕ). leb n (suc (length (fields (n - 1) x)))) eu
      ∙ ap (λ (fs : List (List ℕ)). leb n (length fs)) (sym (fields_more n i t l e h)) ∙ inv

  pub enough_all : n ≤ 1 → true ≡ leb c (length (fields c s))
  enough_all h = sym (le-leb n (length (fields n t)) (go n h)) ∙ inv
    where
      go : (n : ℕ) → n ≤ 1 → n ≤ length (fields n t)
      go zero h = omega arith
      go (suc zero) h = omega (arith, fields_least 1 t (omega arith))
      go (suc (suc n)) h = absurd (omega arith)

-- ---- the field at a place
pub at_none : (k : ℕ) (fs : List (List ℕ)) → length fs < k → field_at k fs ≡ []
unfolding field_at
at_none zero fs h = absurd (omega arith)
at_none (suc k) [] h = refl
at_none (suc zero) (f ∷ fs) h = absurd (omega arith)
at_none (suc (suc k)) (f ∷ fs) h = at_none (suc k) fs (omega arith)

pub at_zero : (fs : List (List ℕ)) → field_at 0 fs ≡ []
unfolding field_at
at_zero fs = refl

pub at_first : (f : List ℕ) (fs : List (List ℕ)) → field_at 1 (f ∷ fs) ≡ f
unfolding field_at
at_first f fs = refl

pub at_next : (k : ℕ) (f : List ℕ) (fs : List (List ℕ)) → 1 < k → field_at k (f ∷ fs) ≡ field_at (k - 1) fs
unfolding field_at
at_next zero f fs h = absurd (omega arith)
at_next (suc zero) f fs h = absurd (omega arith)
at_next (suc (suc k)) f fs h = let z : suc (suc k) - 1 ≡ suc k = omega arith in rw z

pub field_absent : (s r : List ℕ) (c p : ℕ) → p ≡ 0 → r ≡ take 0 s → r ≡ field_at p (fields c s)
field_absent s r c p z e = rw (z, e) (sym (at_zero (fields c s)))

pub field_past : (s r : List ℕ) (c p : ℕ) → c < p → r ≡ take 0 s → r ≡ field_at p (fields c s)
field_past s r c p h e = rw e (sym (at_none p (fields c s) (omega (arith, fields_most c s))))

module _ (s t : List ℕ) (c p n k : ℕ) (inv : field_at k (fields n t) ≡ field_at p (fields c s)) (low : 1 ≤ k) (high : k ≤ n) where
  pub field_short : (i : ℕ) (r : List ℕ) → 1 < k → i ≡ first comma t → length t ≤ i → r ≡ take 0 t → r ≡ field_at p (fields c s)
  field_short i r l e h er =
      rw er (sym (ap (field_at k) (fields_last n i t (omega arith) e h) ∙ at_none k (t ∷ []) l) ∙ inv)

  pub field_again : (i : ℕ) (u : List ℕ) → 1 < k → i ≡ first comma t → i < length t → u ≡ drop (i + 1) t → field_at (k - 1) (fields (n - 1) u) ≡ field_at p (fields c s)
  field_again i u l e h eu =
      rw eu (sym (ap (field_at k) (fields_more n i t (omega arith) e h) ∙ at_next k (take i t) (fields (n - 1) (drop (i + 1) t)) l) ∙ inv)

  pub field_found : (i : ℕ) (r : List ℕ) → k ≤ 1 → i ≡ cond (leb n 1) (length t) (first comma t) → r ≡ take i t → r ≡ field_at p (fields c s)
  field_found i r l e er =
      let z : 1 ≡ k = omega arith in
      er ∙ sym (go (ltb i (length t)) refl) ∙ ap (λ (j : ℕ). field_at j (fields n t)) z ∙ inv
    where
      go : (b : Bool) → ltb i (length t) ≡ b → field_at 1 (fields n t) ≡ take i t
      go true q = ap (field_at 1) (head_more n i t (omega arith) e (ltb-true i (length t) q)) ∙ at_first (take i t) _
      go false q = ap (field_at 1) (head_last n i t (omega arith) e (ltb-false i (length t) q)) ∙ at_first (take i t) _

-- ---- a slice that a turn shortens
pub rest_less : (t u : List ℕ) (i : ℕ) → u ≡ drop (i + 1) t → i < length t → length u < length t
rest_less t u i e h = omega (arith, ap length e, length-drop (i + 1) t)

pub rest_part : (s t u : List ℕ) (i : ℕ) → length t ≤ length s → u ≡ drop (i + 1) t → length u ≤ length s
rest_part s t u i h e = omega (arith, ap length e, length-drop (i + 1) t)
