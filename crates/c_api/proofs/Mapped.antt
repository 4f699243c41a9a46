-- What `make` returned, told: its number, and the two places, which stay where it is refused.
use mathlib.Core.Path.{◌≡◌, sym, ap, ◌∙◌}
use mathlib.Core.Bool.{cond}
use Prim.Native.Nat.{ℕ}
use borrow.Author.Tests.{ne_eqb}
use Rattle.spec_base.specs.base.Refusal.{left_in}
use Rattle.spec_map.specs.declared.segmap.Made.{Made}
use Rattle.spec_map.specs.segmap.Map.{Map, made_of}

module _ (d : Made) (m : Map) (e : d ≡ made_of m) where
  pub number_made : d.number ≡ m.number
  unfolding made_of
  number_made = ap (λ (x : Made). x.number) e

  pub zero_made : d.number ≡ 0 → 0 ≡ m.number
  zero_made z = sym z ∙ number_made

  pub timescale_made : (before : ℕ) → d.timescale ≡ left_in 0 m.timescale before
  unfolding made_of left_in
  timescale_made before = ap (λ (x : Made). x.timescale) e

  pub count_made : (before : ℕ) → d.count ≡ left_in 0 m.count before
  unfolding made_of left_in
  count_made before = ap (λ (x : Made). x.count) e

-- a place that stays
pub stays : (k v before : ℕ) → (k ≡ 0 → ⊥) → before ≡ left_in k v before
unfolding left_in
stays k v before h = sym (ap (λ t. cond t v before) (ne_eqb k 0 h))
