-- A line that grows by a byte, and a line behind a BOM.
use mathlib.Core.Path.{◌≡◌, refl, sym, ap, ◌∙◌}
use mathlib.Core.Bool.{Bool, true, false, cond, true≢false}
use mathlib.Core.List.{List, [], ◌∷◌, ◌++◌}
use Prim.Native.Nat.{ℕ, suc, ◌+◌}
use native.Mathlib.Omega.{arith}
use lib.Dec.{eqb}
use lib.ListN.{length, drop}
use borrow.Author.Tests.{eqb-true}
use Rattle.spec_text.specs.pattern.Find.{starts, equals}
use Rattle.spec_text.specs.text.Line.{is_empty, ends_line, has_lf}
use Rattle.spec_machine.specs.session_counts.Machine.{bom, has_bom}

pub has_lf_append : (h : List ℕ) (b : ℕ) → has_lf h ≡ false → eqb b 10 ≡ false → has_lf (h ++ (b ∷ [])) ≡ false
unfolding has_lf
has_lf_append [] b e f = rw f
has_lf_append (x ∷ h) b e f = go (eqb x 10) e (λ (q : has_lf h ≡ false). has_lf_append h b q f)
  where
    go : (t : Bool) → cond t true (has_lf h) ≡ false → (has_lf h ≡ false → has_lf (h ++ (b ∷ [])) ≡ false) → cond t true (has_lf (h ++ (b ∷ []))) ≡ false
    go true e ih = e
    go false e ih = ih e

-- a line that LF has just ended
pub ends_lf : (h : List ℕ) (b : ℕ) → has_lf h ≡ false → eqb b 10 ≡ true → ends_line (h ++ (b ∷ [])) ≡ true
unfolding has_lf ends_line
ends_lf [] b e f = rw f
ends_lf (x ∷ h) b e f = go (eqb x 10) e (λ (q : has_lf h ≡ false). ends_lf h b q f)
  where
    go : (t : Bool) → cond t true (has_lf h) ≡ false → (has_lf h ≡ false → ends_line (h ++ (b ∷ [])) ≡ true)
        → cond t (is_empty (h ++ (b ∷ []))) (ends_line (h ++ (b ∷ []))) ≡ true
    go true e ih = absurd (true≢false e)
    go false e ih = ih e

-- ---- a BOM is three bytes, none of them LF
cond_left : (a b : Bool) → cond a b false ≡ true → a ≡ true
cond_left true b e = refl
cond_left false b e = e

cond_right : (a b : Bool) → cond a b false ≡ true → b ≡ true
cond_right true b e = e
cond_right false b e = absurd (true≢false (sym e))

-- the text behind a BOM
pub record Behind (l : List ℕ) : Type 0 where
  pub text : List ℕ
  pub stands : l ≡ bom ++ text

starts_behind : (l : List ℕ) → starts bom l ≡ true → Behind l
unfolding starts
starts_behind [] q = absurd (true≢false (sym q))
starts_behind (x ∷ []) q = absurd (true≢false (sym (cond_right (eqb 239 x) false q)))
starts_behind (x ∷ y ∷ []) q = absurd (true≢false (sym (cond_right (eqb 187 y) false (cond_right (eqb 239 x) (cond (eqb 187 y) false false) q))))
starts_behind (x ∷ y ∷ z ∷ t) q =
    let r = cond_right (eqb 239 x) (cond (eqb 187 y) (cond (eqb 191 z) true false) false) q in
    let px : 239 ≡ x = eqb-true 239 x (cond_left (eqb 239 x) (cond (eqb 187 y) (cond (eqb 191 z) true false) false) q) in
    let py : 187 ≡ y = eqb-true 187 y (cond_left (eqb 187 y) (cond (eqb 191 z) true false) r) in
    let pz : 191 ≡ z = eqb-true 191 z (cond_left (eqb 191 z) true (cond_right (eqb 187 y) (cond (eqb 191 z) true false) r)) in
    record { text = t; stands = λ i. sym px i ∷ sym py i ∷ sym pz i ∷ t }

pub bom_behind_lem : (l : List ℕ) → has_bom l ≡ true → l ≡ bom ++ drop 3 l
unfolding has_bom
bom_behind_lem l q =
    let k = starts_behind l q in
    k.stands ∙ ap (λ (x : List ℕ). bom ++ drop 3 x) (sym k.stands)

bom_then : (t : List ℕ) → ends_line (bom ++ t) ≡ ends_line t
unfolding ends_line
bom_then t = refl

pub bom_ends : (l : List ℕ) → has_bom l ≡ true → ends_line l ≡ true → ends_line (drop 3 l) ≡ true
bom_ends l q e = sym (bom_then (drop 3 l)) ∙ ap ends_line (sym (bom_behind_lem l q)) ∙ e

bom_then_open : (t : List ℕ) → has_lf (bom ++ t) ≡ has_lf t
unfolding has_lf
bom_then_open t = refl

pub bom_open : (l : List ℕ) → has_bom l ≡ true → has_lf l ≡ false → has_lf (drop 3 l) ≡ false
bom_open l q e = sym (bom_then_open (drop 3 l)) ∙ ap has_lf (sym (bom_behind_lem l q)) ∙ e

pub bom_length_lem : (l : List ℕ) → has_bom l ≡ true → length l ≡ 3 + length (drop 3 l)
bom_length_lem l q = ap length (bom_behind_lem l q) ∙ omega arith

-- a text that equals another has its length
pub equals_length : (p s : List ℕ) → equals p s ≡ true → length s ≡ length p
unfolding equals
equals_length [] [] e = refl
equals_length [] (b ∷ s) e = absurd (true≢false (sym e))
equals_length (a ∷ p) [] e = absurd (true≢false (sym e))
equals_length (a ∷ p) (b ∷ s) e = ap suc (equals_length p s (cond_right (eqb a b) (equals p s) e))
