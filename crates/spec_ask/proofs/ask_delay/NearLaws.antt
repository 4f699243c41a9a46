-- Laws of one look-up.
use mathlib.Core.Path.{◌≡◌, refl, sym, ap, subst, ◌∙◌}
use mathlib.Core.Bool.{Bool, true, false, cond, not}
use mathlib.Core.List.{List}
use Prim.Native.Nat.{ℕ, zero, suc, ◌+◌, ◌-◌, ◌/◌, ◌%◌, ◌≤◌}
use native.Mathlib.Omega.{arith}
use mir.Syntax.{w64}
use mir.Val.{Fits, SFits, to_z, of_z}
use mir.ValLaws.{to_z-of_z}
use borrow.Author.Rules.{sfits_of}
use lib.Dec.{ltb, eqb}
use lib.IntN.{ℤ, pos, negsuc, neg_ℤ}
use lib.ListN.{get_or}
use borrow.Author.Tests.{eqb-true, ltb-false}
use Rattle.std.specs.Prelude.{Option, Some, None}
use Rattle.spec_ask.specs.ask_delay.Delay.{delayed_of, delay_of, near, Near}
use Rattle.spec_ask.specs.ask_delay.Paint.{lost_moved, lost_by}

neg_near : (n : ℕ) → near (neg_ℤ (pos n)) ≡ n
neg_near zero = refl
neg_near (suc n) = refl

near_of : (k : ℕ) → k ≤ 12000 → Near (delay_of k)
unfolding delay_of
near_of k h = go (eqb (k % 2) 1) refl
  where
    go : (t : Bool) → eqb (k % 2) 1 ≡ t → near (cond t (pos (k / 2 + 1)) (neg_ℤ (pos (k / 2)))) ≤ 6000
    go true e = let z : k % 2 ≡ 1 = eqb-true (k % 2) 1 e in omega arith
    go false e = rw neg_near (omega arith)

pub near_try : (k : ℕ) (d : ℤ) → d ≡ delay_of k → k ≤ 12000 → Near d
near_try k d e h = subst Near (sym e) (near_of k h)

-- a moved time is at most 6000 away
value : ℕ → Option ℕ → ℕ
value s (Some t) = t
value s None = s

bounds : (t s : ℕ) (d : ℤ) → Near d → delayed_of t d ≡ Some s → (t ≤ s + 6000) × (s ≤ t + 6000)
unfolding delayed_of value
bounds t s (pos n) h e = let z : t + n ≡ s = ap (value 0) e in (omega arith, omega arith)
bounds t s (negsuc n) h e = go (ltb t (suc n)) refl e
  where
    go : (u : Bool) → ltb t (suc n) ≡ u → cond u None (Some (t - suc n)) ≡ Some s → (t ≤ s + 6000) × (s ≤ t + 6000)
    go true p q = absurd (let z : ◌≡◌ {A = ℕ} (value 0 None) (value 0 (Some s)) = ap (value 0) q in let y : ◌≡◌ {A = ℕ} 1 0 = ap (λ (m : Option ℕ). elim m [ Some v ↦ 0 | None ↦ 1 ]) q in omega arith)
    go false p q = let z : t - suc n ≡ s = ap (value 0) q in let y = ltb-false t (suc n) p in (omega arith, omega arith)

-- a signed local, read back from its bits
pub sfits : (d : ℤ) → Near d → SFits w64 d
sfits (pos n) h = sfits_of (omega arith)
sfits (negsuc n) h = sfits_of (omega arith)

pub bits_back : (k : ℕ) (d : ℤ) → d ≡ delay_of k → k ≤ 12000 → to_z w64 (of_z w64 d) ≡ d
bits_back k d e h = to_z-of_z w64 d (sfits d (near_try k d e h))

pub near_back : (k : ℕ) (d : ℤ) → d ≡ delay_of k → k ≤ 12000 → Near (to_z w64 (of_z w64 d))
near_back k d e h = subst Near (sym (bits_back k d e h)) (near_try k d e h)

pub under_is : (t k : ℕ) (d : ℤ) (r : Option ℕ) → d ≡ delay_of k → k ≤ 12000 → r ≡ delayed_of t (to_z w64 (of_z w64 d)) → r ≡ delayed_of t (delay_of k)
under_is t k d r e h q = q ∙ ap (delayed_of t) (bits_back k d e h ∙ e)

module _ (k t s : ℕ) (r : Option ℕ) (hk : k ≤ 12000) (er : r ≡ delayed_of t (delay_of k)) (es : r ≡ Some s) where
  both : (t ≤ s + 6000) × (s ≤ t + 6000)
  both = bounds t s (delay_of k) (near_of k hk) (sym er ∙ es)

  pub sum_fits : t ≤ 68719476736 → Fits w64 (s + 6000)
  sum_fits h = record { fits = omega (arith, both.1) }

  pub less_fits : t ≤ s + 6000
  less_fits = both.0

module _ (l : List ℕ) (S E k : ℕ) (r : Option ℕ) (er : r ≡ delayed_of S (delay_of k)) where
  pub lost_start : r ≡ None → true ≡ lost_by l S E (delay_of k)
  unfolding lost_by
  lost_start q = sym (ap (λ (m : Option ℕ). lost_moved l S m (delayed_of E (delay_of k))) (sym er ∙ q))

  module _ (s : ℕ) (q : r ≡ Some s) (r' : Option ℕ) (er' : r' ≡ delayed_of E (delay_of k)) where
    pub lost_end : r' ≡ None → true ≡ lost_by l S E (delay_of k)
    unfolding lost_by
    lost_end p = sym (ap (λ (m : Option ℕ). lost_moved l S m (delayed_of E (delay_of k))) (sym er ∙ q) ∙ ap (λ (m : Option ℕ). lost_moved l S (Some s) m) (sym er' ∙ p))

    pub lost_grade : (e b : ℕ) → r' ≡ Some e → b ≡ get_or l (s + 6000 - S) 0 → not (eqb b 2) ≡ lost_by l S E (delay_of k)
    unfolding lost_by
    lost_grade e b p eb =
        sym (ap (λ (m : Option ℕ). lost_moved l S m (delayed_of E (delay_of k))) (sym er ∙ q) ∙ ap (λ (m : Option ℕ). lost_moved l S (Some s) m) (sym er' ∙ p) ∙ ap (λ (n : ℕ). not (eqb n 2)) (sym eb))
