-- What the answer says: the three counts sum to N, none of them counts where there is no start, and a refusal has zeros.
use mathlib.Core.Path.{◌≡◌, refl}
use mathlib.Core.Logic.{◌⊎◌, inl, inr}
use mathlib.Core.List.{List}
use Prim.Native.Nat.{ℕ, ◌+◌}
use borrow.Author.Tests.{eq-eqb, ne_eqb}
use Rattle.spec_base.proofs.base.RefusalNumbers.{else_numbers, unless_numbers}
use Rattle.spec_map.specs.segment.Segment.{segments_of}
use Rattle.spec_ask.specs.ask_census.Census.{starts_with, refused_census, census_number, census_of}
use Rattle.spec_ask.proofs.ask_census.Starts.{starts_sum}

module _ (m : List ℕ) (T kind L N : ℕ) where
  pub answer_sum : census_number m T kind L N ≡ 0
      → (census_of m T kind L N).shifted + (census_of m T kind L N).clipped + (census_of m T kind L N).dropped ≡ N
  unfolding census_of
  answer_sum e = rw (eq-eqb (census_number m T kind L N) 0 e) (starts_sum (record { kind = kind; timescale = T }) (segments_of m) L N)

  pub refused_zeros : (census_number m T kind L N ≡ 0 → ⊥) → census_of m T kind L N ≡ refused_census (census_number m T kind L N)
  unfolding census_of
  refused_zeros n = rw (ne_eqb (census_number m T kind L N) 0 n)

  -- the numbers that it can have
  abbrev Given : ℕ → Type 0
  Given k = (k ≡ 0) ⊎ (k ≡ 15) ⊎ (k ≡ 16) ⊎ (k ≡ 28)

  pub census_numbers : Given (census_number m T kind L N)
  unfolding census_number
  census_numbers =
      let none = unless_numbers Given (inl refl) in
      let or = else_numbers Given in
      or _ _ (none _ 15 (inr (inl refl)))
      (or _ _ (none _ 15 (inr (inl refl)))
      (or _ _ (none _ 28 (inr (inr (inr refl))))
      (or _ _ (none _ 16 (inr (inr (inl refl))))
      (or _ _ (none _ 16 (inr (inr (inl refl))))
      (none _ 16 (inr (inr (inl refl))))))))

pub no_starts : (m : List ℕ) (T kind L : ℕ) → census_number m T kind L 0 ≡ 0 → census_of m T kind L 0 ≡ refused_census 0
unfolding census_of starts_with
no_starts m T kind L e = rw (eq-eqb (census_number m T kind L 0) 0 e)
