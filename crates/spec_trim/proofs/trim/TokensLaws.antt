-- Laws of the tokens of a list, one after the other. Where their number is 0, their ranges ascend.
use mathlib.Core.Path.{◌≡◌, refl, sym, ap, subst, ◌∙◌}
use mathlib.Core.Logic.{◌⊎◌, inl, inr}
use mathlib.Core.Bool.{cond}
use mathlib.Core.List.{List, [], ◌∷◌, ◌++◌}
use Prim.Native.Nat.{ℕ, zero, suc, ◌+◌, ◌*◌, ◌≤◌, ◌<◌}
use native.Mathlib.Omega.{arith}
use borrow.Author.Tests.{lt-ltb, le-ltb}
use lib.Dec.{ltb}
use lib.ListN.{length, take, drop}
use Rattle.std.specs.Prelude.{Result, Ok, Err}
use Rattle.spec_base.specs.base.Limits.{most_frame}
use Rattle.spec_base.specs.base.Refusal.{◌or_else◌}
use Rattle.spec_base.proofs.base.Laws.{yes!, no! }
use Rattle.spec_base.proofs.base.RefusalLaws.{else_none, else_found}
use Rattle.spec_text.specs.pattern.Find.{first}
use Rattle.spec_text.specs.pattern.Piece.{pieces}
use Rattle.spec_text.proofs.pattern.PieceLaws.{pieces_head, pieces_one}
use Rattle.spec_trim.specs.declared.trim.Range.{Range}
use Rattle.spec_trim.specs.trim.Token.{mark, range, step_of, token_number, token_range, token_end}
use Rattle.spec_trim.specs.trim.TrimList.{tokens_of, tokens_number, ranges_in}
use Rattle.spec_trim.proofs.trim.TokenLaws.{TokenKept, step_kept, step_above, step_own}

-- ---- one turn: the first token p of t ends at k
pub tokens_turn : (t p : List ℕ) (k : ℕ) → k ≡ first mark t → p ≡ take k t → tokens_of t ≡ p ∷ cond (ltb k (length t)) (tokens_of (drop (k + 2) t)) []
unfolding tokens_of
tokens_turn t p k e d = pieces_head mark t k (omega arith) e ∙ ap (λ (x : List ℕ). x ∷ cond (ltb k (length t)) (pieces mark (drop (k + 2) t)) []) (sym d)

pub tokens_last : (t p : List ℕ) (k : ℕ) → k ≡ first mark t → p ≡ take k t → length t ≤ k → tokens_of t ≡ p ∷ []
tokens_last t p k e d h = tokens_turn t p k e d ∙ sym (ap (λ (l : List (List ℕ)). p ∷ l) (no! _ (le-ltb _ _ h) refl))

pub tokens_next : (t p u : List ℕ) (k : ℕ) → k ≡ first mark t → p ≡ take k t → k < length t → u ≡ drop (k + 2) t → tokens_of t ≡ p ∷ tokens_of u
tokens_next t p u k e d h g = tokens_turn t p k e d ∙ sym (ap (λ (l : List (List ℕ)). p ∷ l) (yes! _ (lt-ltb _ _ h) (ap tokens_of g)))

pub tokens_one : (s : List ℕ) → 0 < length (tokens_of s)
unfolding tokens_of
tokens_one s = pieces_one mark s

-- ---- the number of tokens whose first says x
number_by : (left prev : ℕ) (t : List ℕ) (ts : List (List ℕ)) (x : Result Range ℕ) → x ≡ step_of prev t → tokens_number (suc left) prev (t ∷ ts) ≡ token_number x or_else tokens_number left (token_end x) ts
unfolding tokens_number
number_by left prev t ts x e = ap (λ (y : Result Range ℕ). token_number y or_else tokens_number left (token_end y) ts) (sym e)

pub fault_some : (prev n : ℕ) (t : List ℕ) → Err n ≡ step_of prev t → n ≡ 0 → ⊥
fault_some prev n t e z =
    let k : (2 ≤ n) × (n ≤ 6) = subst TokenKept (sym e) (step_kept prev t) in
    omega arith

pub number_fault_lem : (left prev n : ℕ) (t : List ℕ) (ts : List (List ℕ)) → Err n ≡ step_of prev t → tokens_number (suc left) prev (t ∷ ts) ≡ n
unfolding token_number
number_fault_lem left prev n t ts e = number_by left prev t ts (Err n) e ∙ else_found _ _ (fault_some prev n t e)

pub number_range : (left prev a b : ℕ) (t : List ℕ) (ts : List (List ℕ)) → range a b ≡ step_of prev t → tokens_number (suc left) prev (t ∷ ts) ≡ tokens_number left b ts
unfolding token_number token_end
number_range left prev a b t ts e = number_by left prev t ts (range a b) e ∙ else_none _ refl

pub number_many : (prev : ℕ) (ts : List (List ℕ)) → 0 < length ts → tokens_number 0 prev ts ≡ 7
unfolding tokens_number
number_many prev [] h = absurd (omega arith)
number_many prev (t ∷ ts) h = refl

pub number_done : (left prev : ℕ) → tokens_number left prev [] ≡ 0
unfolding tokens_number
number_done left prev = refl

-- ---- the ranges
pub ranges_range : (prev a b : ℕ) (t : List ℕ) (ts : List (List ℕ)) → range a b ≡ step_of prev t → ranges_in (t ∷ ts) ≡ a ∷ b ∷ ranges_in ts
unfolding ranges_in token_range
ranges_range prev a b t ts e = ap (λ (x : Result Range ℕ). token_range x ++ ranges_in ts) (step_own prev t a b (sym e))

pub ranges_done : ranges_in [] ≡ []
unfolding ranges_in
ranges_done = refl

-- ---- the number is 0: every token is a range
-- ranges, two numbers each, from prev on: each starts at the end of the one before it or above, and below its own end, which is a frame number
abbrev pub Ascending : ℕ → List ℕ → Type 0
Ascending prev [] = Unit
Ascending prev (a ∷ []) = ⊥
Ascending prev (a ∷ e ∷ r) = (prev ≤ a) × (a < e) × (e ≤ most_frame) × Ascending e r

-- what tokens whose number is 0 keep to
abbrev Taken : ℕ → ℕ → List (List ℕ) → Type 0
Taken left prev ts = (length ts ≤ left) × (length (ranges_in ts) ≡ 2 * length ts) × Ascending prev (ranges_in ts)

taken_next : (left prev : ℕ) (t : List ℕ) (ts : List (List ℕ)) (x : Result Range ℕ) → x ≡ step_of prev t → tokens_number (suc left) prev (t ∷ ts) ≡ 0
    → ((e : ℕ) → tokens_number left e ts ≡ 0 → Taken left e ts) → Taken (suc left) prev (t ∷ ts)
taken_next left prev t ts (Err n) q z ih = absurd (fault_some prev n t q (sym (number_fault_lem left prev n t ts q) ∙ z))
taken_next left prev t ts (Ok r) q z ih =
    let a = r.start.0 in
    let e = r.«end».0 in
    let h : Taken left e ts = ih e (sym (number_range left prev a e t ts q) ∙ z) in
    let k : (a < e) × (e ≤ most_frame) = subst TokenKept (sym q) (step_kept prev t) in
    let g : ranges_in (t ∷ ts) ≡ a ∷ e ∷ ranges_in ts = ranges_range prev a e t ts q in
    (omega arith, ap length g ∙ omega arith, subst (Ascending prev) (sym g) (step_above prev t a e (sym q), k.0, k.1, h.2))

pub zero_taken : (left prev : ℕ) (ts : List (List ℕ)) → tokens_number left prev ts ≡ 0 → Taken left prev ts
unfolding ranges_in
zero_taken left prev [] z = (omega arith, omega arith, tt)
zero_taken zero prev (t ∷ ts) z = absurd (omega (arith, number_many prev (t ∷ ts) (omega arith)))
zero_taken (suc left) prev (t ∷ ts) z = taken_next left prev t ts (step_of prev t) refl z (λ e. zero_taken left e ts)

-- every number is from the table: 0, or 2 to 7
abbrev pub OfTokens : ℕ → Type 0
OfTokens n = (n ≡ 0) ⊎ ((2 ≤ n) × (n ≤ 7))

pub number_table : (left prev : ℕ) (ts : List (List ℕ)) → OfTokens (tokens_number left prev ts)
number_table left prev [] = inl (number_done left prev)
number_table zero prev (t ∷ ts) = subst OfTokens (sym (number_many prev (t ∷ ts) (omega arith))) (inr (omega arith, omega arith))
number_table (suc left) prev (t ∷ ts) = go (step_of prev t) refl (λ e. number_table left e ts)
  where
    go : (x : Result Range ℕ) → x ≡ step_of prev t → ((e : ℕ) → OfTokens (tokens_number left e ts)) → OfTokens (tokens_number (suc left) prev (t ∷ ts))
    go (Err n) q ih =
        let k : (2 ≤ n) × (n ≤ 6) = subst TokenKept (sym q) (step_kept prev t) in
        subst OfTokens (sym (number_fault_lem left prev n t ts q)) (inr (k.0, omega arith))
    go (Ok r) q ih = subst OfTokens (sym (number_range left prev r.start.0 r.«end».0 t ts q)) (ih r.«end».0)
