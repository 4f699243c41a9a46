-- Laws of what std's functions say of a token and of the places of the ranges.
use Rattle.std.proofs.Common.{◌≡◌, refl, sym, ap, ◌∙◌, ℕ, zero, suc, ◌-◌, ◌+◌, ◌<◌, ◌≤◌, Bool, true, false, cond, List, [], ◌∷◌, ◌++◌, length, take, drop, get_or, eqb, nat_eq, ◌&&◌, arith}
use Rattle.std.proofs.lemmas.List.{length-take-le, drop_more, drop_all}
use borrow.Author.Tests.{eq-eqb, ne_eqb, eqb-true, eqb-false}
use Rattle.spec_base.proofs.base.Laws.{and_true}
use Rattle.std.specs.Cmp.Lexicographic.{pointwise}
use Rattle.spec_base.specs.base.Put.{put}
use Rattle.spec_text.specs.pattern.Find.{starts, first}
use Rattle.spec_text.proofs.pattern.Laws.{first_again}
use Rattle.spec_trim.specs.trim.Token.{mark}
use Rattle.spec_trim.proofs.trim.MarkLaws.{mark_found, mark_one}

-- a prefix that is stripped is one that the text starts with
pub starts_told : (p s : List ℕ) → pointwise nat_eq (take (length p) s) p ≡ starts p s
unfolding starts
starts_told [] s = refl
starts_told (a ∷ p) [] = refl
starts_told (a ∷ p) (b ∷ s) = go (eqb a b) refl (starts_told p s)
  where
    go : (t : Bool) → eqb a b ≡ t → pointwise eqb (take (length p) s) p ≡ starts p s → eqb b a && pointwise eqb (take (length p) s) p ≡ cond t (starts p s) false
    go true q ih = rw (eq-eqb b a (sym (eqb-true a b q))) ih
    go false q ih = rw (ne_eqb b a (λ z. eqb-false a b q (sym z))) refl

-- the last byte, and a suffix of one byte that is stripped
last_alone : (r : List ℕ) → 0 < length r → drop (length r - 1) r ≡ get_or r (length r - 1) 0 ∷ []
last_alone r h = drop_more r (length r - 1) 0 (omega arith) ∙ ap (λ (l : List ℕ). get_or r (length r - 1) 0 ∷ l) (drop_all (length r - 1 + 1) r (omega arith))

pub last_told : (r : List ℕ) (a : ℕ) → (a ≡ 0 → ⊥) → pointwise nat_eq (drop (length r - 1) r) (a ∷ []) ≡ eqb (get_or r (length r - 1) 0) a
last_told [] a h = sym (ne_eqb 0 a (λ z. h (sym z)))
last_told (x ∷ r) a h = rw (last_alone (x ∷ r) (omega arith)) (and_true _)

-- the first n numbers copied
pub front_written : (held l w : List ℕ) (n : ℕ) → w ≡ take n held → n ≤ length held → w ++ drop n l ≡ put (take n held) l
unfolding put
front_written held l w n e h = ap (λ (v : List ℕ). v ++ drop n l) e ∙ ap (λ (k : ℕ). take n held ++ drop k l) (sym (length-take-le n held h))

-- ---- the mark
no_mark : (s : List ℕ) (i : ℕ) → (get_or s i 0 ≡ 0x2B → get_or s (suc i) 0 ≡ 0x2B → ⊥) → starts mark (drop i s) ≡ false
unfolding starts
no_mark [] zero n = refl
no_mark [] (suc i) n = refl
no_mark (x ∷ []) zero n = go (eqb 0x2B x)
  where
    go : (t : Bool) → cond t false false ≡ false
    go true = refl
    go false = refl
no_mark (x ∷ y ∷ s) zero n = go (eqb 0x2B x) (eqb 0x2B y) refl refl
  where
    go : (t u : Bool) → eqb 0x2B x ≡ t → eqb 0x2B y ≡ u → cond t (cond u true false) false ≡ false
    go true true e f = absurd (n (sym (eqb-true 0x2B x e)) (sym (eqb-true 0x2B y f)))
    go true false e f = refl
    go false u e f = refl
no_mark (x ∷ s) (suc i) n = no_mark s i n

-- a plus stands within the text
plus_within : (s : List ℕ) (i : ℕ) → get_or s i 0 ≡ 0x2B → i < length s
plus_within [] zero e = absurd (omega arith)
plus_within [] (suc i) e = absurd (omega arith)
plus_within (x ∷ s) zero e = omega arith
plus_within (x ∷ s) (suc i) e = let h : i < length s = plus_within s i e in omega arith

-- two bytes from i on, where none of those before begins a mark
module _ (s : List ℕ) (i : ℕ) (inv : first mark s ≡ i + first mark (drop i s)) where
  pub mark_behind : i + 1 < length s → (get_or s i 0 ≡ 0x2B → ⊥) → get_or s (i + 1) 0 ≡ 0x2B → get_or s (i + 2) 0 ≡ 0x2B → i + 1 ≡ first mark s
  mark_behind h n a b =
      let e : i + 1 + 1 ≡ i + 2 = omega arith in
      let l : i + 2 < length s = plus_within s (i + 2) b in
      mark_found s (i + 1) (mark_one s i inv h n) (omega arith) (ap (λ (k : ℕ). get_or s k 0) e ∙ b) a

  pub mark_skipped : i + 1 < length s → (get_or s i 0 ≡ 0x2B → ⊥) → (get_or s (i + 2) 0 ≡ 0x2B → ⊥) → first mark s ≡ i + 2 + first mark (drop (i + 2) s)
  mark_skipped h n m =
      let e : suc (i + 1) ≡ i + 2 = omega arith in
      let f : i + 1 + 1 ≡ i + 2 = omega arith in
      first_again s mark (i + 1) false (mark_one s i inv h n) (omega arith) (sym (no_mark s (i + 1) (λ a b. m (ap (λ (k : ℕ). get_or s k 0) (sym e) ∙ b)))) refl
      ∙ ap (λ (k : ℕ). k + first mark (drop k s)) f
