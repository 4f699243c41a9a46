-- Laws of a `?` on a refused token, and on an Option that has no value.
use Rattle.std.proofs.Common.{◌≡◌, refl, ap, ◌∙◌, ℕ, ◌+◌, ◌-◌, ◌<◌, ◌≤◌, drop, List, length, take, false, Result, Ok, Err}
use Rattle.std.specs.Prelude.{Option, None}
use Rattle.std.specs.Option.{ok_or}
use Rattle.spec_base.specs.base.Limits.{most_trims}
use Rattle.spec_text.specs.text.Line.{blank}
use Rattle.spec_text.specs.pattern.Find.{first}
use Rattle.spec_trim.specs.declared.trim.Range.{Range}
use Rattle.spec_trim.specs.trim.Token.{mark, step_of}
use Rattle.spec_trim.specs.trim.TrimList.{tokens_of, tokens_number, parsed, list_answer}
use Rattle.spec_trim.proofs.trim.ReadLaws.{read_fault, read_last_lem, count_again}

-- a turn of the loop
module _ (s t p : List ℕ) (prev count k : ℕ) (inv : tokens_number most_trims 0 (tokens_of s) ≡ tokens_number (most_trims - count) prev (tokens_of t)) (h : count < most_trims)
    (e : k ≡ first mark t) (d : p ≡ take k t) where
  -- the number of a refused token is that of the list
  pub fault_read : (n : ℕ) → Err n ≡ step_of prev p → parsed n 0 ≡ list_answer (tokens_number most_trims 0 (tokens_of s)) s
  fault_read n f = read_fault s t p prev count k (Err n) inv h e d f n _ refl refl

  -- a range
  module _ (r : Range) (f : Ok r ≡ step_of prev p) where
    pub last_read : blank s ≡ false → length (tokens_of s) ≡ count + length (tokens_of t) → length t ≤ k → parsed 0 (count + 1) ≡ list_answer (tokens_number most_trims 0 (tokens_of s)) s
    last_read nb c l = read_last_lem s t p prev count k (Ok r) inv h e d f r refl _ nb c l refl

    pub more_read : (u : List ℕ) → length (tokens_of s) ≡ count + length (tokens_of t) → k < length t → u ≡ drop (k + 2) t → length (tokens_of s) ≡ count + 1 + length (tokens_of u)
    more_read = count_again s t p prev count k (Ok r) inv h e d f r refl

-- an Option without a value gives the refusal that stands for it
pub err_given : {A E : Type 0} (x : Option A) (y e : E) → x ≡ None → Err y ≡ ok_or x e → y ≡ e
err_given {A} {E} x y e h p = ap (λ (r : Result A E). elim r [ Ok a ↦ y | Err z ↦ z ]) (p ∙ ap (λ (o : Option A). ok_or o e) h)
