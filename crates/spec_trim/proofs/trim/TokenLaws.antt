-- Laws of one token: what the functions of `src/token.rt` return, and what every token's number and range keep to.
use mathlib.Core.Path.{◌≡◌, refl, sym, ap, ◌∙◌}
use mathlib.Core.Bool.{Bool, true, false, cond}
use mathlib.Core.List.{List, [], ◌∷◌}
use Prim.Native.Nat.{ℕ, ◌+◌, ◌-◌, ◌≤◌, ◌<◌}
use native.Mathlib.Omega.{arith}
use borrow.Author.Tests.{lt-ltb, le-ltb, eq-eqb, ne_eqb, ltb-false, eqb-false}
use lib.Dec.{eqb, ltb}
use lib.ListN.{length, take, drop, get_or}
use lib.Seq.{take_all}
use Rattle.std.specs.Prelude.{Option, Some, None, Result, Ok, Err}
use Rattle.spec_base.specs.base.Limits.{most_frame}
use Rattle.spec_base.proofs.base.Laws.{yes!, no! }
use Rattle.spec_text.specs.whitespace.White.{trim}
use Rattle.spec_text.specs.pattern.Find.{starts, first}
use Rattle.spec_text.specs.pattern.Piece.{pieces, comma}
use Rattle.spec_text.specs.text.Number.{number}
use Rattle.spec_text.proofs.pattern.PieceLaws.{pieces_head, pieces_one}
use Rattle.spec_text.proofs.text.LineLaws.{number_most}
use Rattle.spec_trim.specs.declared.trim.Range.{Range}
use Rattle.spec_trim.specs.trim.Token.{range, opening, range_of, bounds_of, pair_of, closed_of, token_of, behind_end, step_of}

-- ---- the two numbers
pub bounds_none : (x y : Option ℕ) → x ≡ None → Err 3 ≡ bounds_of x y
unfolding bounds_of
bounds_none x y e = ap (λ (n : Option ℕ). bounds_of n y) (sym e)

pub bounds_none_2 : (x y : Option ℕ) (a : ℕ) → x ≡ Some a → y ≡ None → Err 3 ≡ bounds_of x y
unfolding bounds_of
bounds_none_2 x y a e f = ap (bounds_of (Some a)) (sym f) ∙ ap (λ (n : Option ℕ). bounds_of n y) (sym e)

pub bounds_both : (x y : Option ℕ) (a b : ℕ) (r : Result Range ℕ) → x ≡ Some a → y ≡ Some b → r ≡ range_of a b → r ≡ bounds_of x y
unfolding bounds_of
bounds_both x y a b r e f g = g ∙ ap (bounds_of (Some a)) (sym f) ∙ ap (λ (n : Option ℕ). bounds_of n y) (sym e)

-- ---- the pair
-- one comma at k at least: a piece before it, and those after it
comma_at : (s u : List ℕ) (k : ℕ) → k ≡ first comma s → k < length s → u ≡ drop (k + 1) s → pieces comma s ≡ take k s ∷ pieces comma u
comma_at s u k e h d =
    pieces_head comma s k (omega arith) e ∙ sym (ap (λ (l : List (List ℕ)). take k s ∷ l) (yes! _ (lt-ltb _ _ h) (ap (pieces comma) d)))

comma_none : (s : List ℕ) (k : ℕ) → k ≡ first comma s → length s ≤ k → pieces comma s ≡ take k s ∷ []
comma_none s k e h = pieces_head comma s k (omega arith) e ∙ sym (ap (λ (l : List (List ℕ)). take k s ∷ l) (no! _ (le-ltb _ _ h) refl))

many : (a b : List ℕ) (l : List (List ℕ)) → 0 < length l → Err 2 ≡ pair_of (a ∷ b ∷ l)
unfolding pair_of
many a b [] h = absurd (omega arith)
many a b (c ∷ l) h = refl

pub pair_none : (s : List ℕ) (k : ℕ) → k ≡ first comma s → length s ≤ k → Err 2 ≡ pair_of (pieces comma s)
unfolding pair_of
pair_none s k e h = sym (ap pair_of (comma_none s k e h))

pub pair_more : (s u : List ℕ) (k j : ℕ) → k ≡ first comma s → k < length s → u ≡ drop (k + 1) s → j ≡ first comma u → j < length u → Err 2 ≡ pair_of (pieces comma s)
pair_more s u k j e h d f l =
    many (take k s) (take j u) (pieces comma (drop (j + 1) u)) (pieces_one comma (drop (j + 1) u))
    ∙ sym (ap pair_of (comma_at s u k e h d ∙ ap (λ (ps : List (List ℕ)). take k s ∷ ps) (comma_at u (drop (j + 1) u) j f l refl)))

pub pair_some : (s u f v w : List ℕ) (k j : ℕ) (x y : Option ℕ) (r : Result Range ℕ) → k ≡ first comma s → k < length s → u ≡ drop (k + 1) s → j ≡ first comma u → length u ≤ j
    → f ≡ take k s → v ≡ trim f → x ≡ number most_frame v → w ≡ trim u → y ≡ number most_frame w → r ≡ bounds_of x y → r ≡ pair_of (pieces comma s)
unfolding pair_of
pair_some s u f v w k j x y r e h d g l ef ev ex ew ey er =
    let t : take j u ≡ u = take_all j u l in
    let z : r ≡ bounds_of (number most_frame (trim (take k s))) (number most_frame (trim (take j u))) = cc in
    z ∙ sym (ap pair_of (comma_at s u k e h d ∙ ap (λ (ps : List (List ℕ)). take k s ∷ ps) (comma_none u j g l)))

-- ---- the brackets
pub closed_some : (r f : List ℕ) (n b : ℕ) (q : Result Range ℕ) → n ≡ length r - 1 → b ≡ get_or r n 0 → b ≡ 0x29 → f ≡ take n r → q ≡ pair_of (pieces comma f) → q ≡ closed_of r
unfolding closed_of
closed_some r f n b q e eb h ef eq =
    let p : get_or r (length r - 1) 0 ≡ 0x29 = cc in
    let z : q ≡ pair_of (pieces comma (take (length r - 1) r)) = cc in
    yes! _ (eq-eqb _ _ p) z

pub closed_none : (r : List ℕ) (n b : ℕ) → n ≡ length r - 1 → b ≡ get_or r n 0 → (b ≡ 0x29 → ⊥) → Err 2 ≡ closed_of r
unfolding closed_of
closed_none r n b e eb h = no! _ (ne_eqb _ _ (λ p. h (eb ∙ ap (λ (m : ℕ). get_or r m 0) e ∙ p))) refl

pub token_some : (t u : List ℕ) (f : Bool) (q : Result Range ℕ) → f ≡ starts opening t → f ≡ true → u ≡ drop 5 t → q ≡ closed_of u → q ≡ token_of t
unfolding token_of
token_some t u f q e h d eq = yes! _ (sym e ∙ h) (eq ∙ ap closed_of d)

pub token_none : (t : List ℕ) (f : Bool) → f ≡ starts opening t → f ≡ false → Err 2 ≡ token_of t
unfolding token_of
token_none t f e h = no! _ (sym e ∙ h) refl

-- ---- a token after others
pub step_fault : (prev : ℕ) (t u : List ℕ) (n : ℕ) → u ≡ trim t → Err n ≡ token_of u → Err n ≡ step_of prev t
unfolding step_of behind_end
step_fault prev t u n e f = ap (behind_end prev) (f ∙ ap token_of e)

pub step_crossing : (prev : ℕ) (t u : List ℕ) (r : Range) → u ≡ trim t → Ok r ≡ token_of u → r.start.0 < prev → Err 6 ≡ step_of prev t
unfolding step_of behind_end
step_crossing prev t u r e f l = yes! _ (lt-ltb _ _ l) refl ∙ ap (behind_end prev) (f ∙ ap token_of e)

pub step_range : (prev : ℕ) (t u : List ℕ) (r : Range) → u ≡ trim t → Ok r ≡ token_of u → prev ≤ r.start.0 → Ok r ≡ step_of prev t
unfolding step_of behind_end
step_range prev t u r e f l = no! _ (le-ltb _ _ l) refl ∙ ap (behind_end prev) (f ∙ ap token_of e)

-- ---- what a token keeps to: a number from 2 to 6; a range whose start is below its end, and whose end is a frame number
abbrev pub TokenKept : Result Range ℕ → Type 0
TokenKept (Err n) = (2 ≤ n) × (n ≤ 6)
TokenKept (Ok r) = (r.start.0 < r.«end».0) × (r.«end».0 ≤ most_frame)

-- the two ways of a test
kept_cond : (t : Bool) (x y : Result Range ℕ) → TokenKept x → TokenKept y → TokenKept (cond t x y)
kept_cond true x y h k = h
kept_cond false x y h k = k

range_kept : (a b : ℕ) → b ≤ most_frame → TokenKept (range_of a b)
unfolding range_of
range_kept a b h = go (ltb b a) (eqb b most_frame) refl refl
  where
    go : (x y : Bool) → ltb b a ≡ x → eqb b most_frame ≡ y → TokenKept (cond x (Err 4) (cond y (Err 5) (range a (b + 1))))
    go true y e f = (omega arith, omega arith)
    go false true e f = (omega arith, omega arith)
    go false false e f =
        let n : b ≡ most_frame → ⊥ = eqb-false b most_frame f in
        (omega (arith, ltb-false b a e), omega arith)

bounds_kept : (x y : Option ℕ) → ((b : ℕ) → y ≡ Some b → b ≤ most_frame) → TokenKept (bounds_of x y)
unfolding bounds_of
bounds_kept None y h = (omega arith, omega arith)
bounds_kept (Some a) None h = (omega arith, omega arith)
bounds_kept (Some a) (Some b) h = range_kept a b (h b refl)

pair_kept : (l : List (List ℕ)) → TokenKept (pair_of l)
unfolding pair_of
pair_kept [] = (omega arith, omega arith)
pair_kept (a ∷ []) = (omega arith, omega arith)
pair_kept (a ∷ b ∷ []) = bounds_kept (number most_frame (trim a)) (number most_frame (trim b)) (λ v e. number_most most_frame v (trim b) e)
pair_kept (a ∷ b ∷ c ∷ l) = (omega arith, omega arith)

closed_kept : (r : List ℕ) → TokenKept (closed_of r)
unfolding closed_of
closed_kept r = kept_cond (eqb (get_or r (length r - 1) 0) 0x29) (pair_of (pieces comma (take (length r - 1) r))) (Err 2) (pair_kept _) (omega arith, omega arith)

pub token_kept : (t : List ℕ) → TokenKept (token_of t)
unfolding token_of
token_kept t = kept_cond (starts opening t) (closed_of (drop 5 t)) (Err 2) (closed_kept _) (omega arith, omega arith)

after_kept : (prev : ℕ) (x : Result Range ℕ) → TokenKept x → TokenKept (behind_end prev x)
unfolding behind_end
after_kept prev (Err n) h = h
after_kept prev (Ok r) h = kept_cond (ltb r.start.0 prev) (Err 6) (Ok r) (omega arith, omega arith) h

pub step_kept : (prev : ℕ) (t : List ℕ) → TokenKept (step_of prev t)
unfolding step_of
step_kept prev t = after_kept prev (token_of (trim t)) (token_kept (trim t))

-- a range that is taken after prev begins there or above, and is the token's own
module _ (prev : ℕ) where
  fault_range : {A : Type 0} (n a e : ℕ) → Err n ≡ range a e → A
  fault_range n a e q = absurd (let z : ◌≡◌ {A = ℕ} 0 1 = ap (λ (x : Result Range ℕ). elim x [ Ok r ↦ 1 | Err m ↦ 0 ]) q in omega arith)

  after_range : (x : Result Range ℕ) (a e : ℕ) → behind_end prev x ≡ range a e → (prev ≤ a) × (x ≡ range a e)
  unfolding behind_end
  after_range (Err n) a e q = fault_range n a e q
  after_range (Ok r) a e q = go (ltb r.start.0 prev) refl q
    where
      go : (t : Bool) → ltb r.start.0 prev ≡ t → cond t (Err 6) (Ok r) ≡ range a e → (prev ≤ a) × (Ok r ≡ range a e)
      go true h p = fault_range 6 a e p
      go false h p =
          let z : r.start.0 ≡ a = ap (λ (x : Result Range ℕ). elim x [ Ok r ↦ r.start.0 | Err m ↦ 0 ]) p in
          (omega (arith, ltb-false r.start.0 prev h), p)

  pub step_above : (t : List ℕ) (a e : ℕ) → step_of prev t ≡ range a e → prev ≤ a
  unfolding step_of
  step_above t a e q = (after_range (token_of (trim t)) a e q).0

  pub step_own : (t : List ℕ) (a e : ℕ) → step_of prev t ≡ range a e → token_of (trim t) ≡ range a e
  unfolding step_of
  step_own t a e q = (after_range (token_of (trim t)) a e q).1
