-- Laws of a value with nothing around it, and of its depth.
use mathlib.Core.Path.{◌≡◌, refl, sym, ap, ◌∙◌}
use mathlib.Core.Bool.{false}
use mathlib.Core.List.{List}
use Prim.Native.Nat.{ℕ, zero, suc}
use lib.Dec.{eqb}
use lib.ListN.{length}
use Rattle.spec_json.specs.json.Value.{value_width, is_value}

-- ---- one value with nothing around it
pub value_none : (d w : ℕ) (s : List ℕ) → w ≡ value_width d s → w ≡ 0 → false ≡ is_value d s
value_none d w s e z = ap (λ (n : ℕ). elim n [ zero ↦ false | suc k ↦ eqb (suc k) (length s) ]) (sym z ∙ e)

pub value_some : (d w : ℕ) (s : List ℕ) → w ≡ value_width d s → (w ≡ 0 → ⊥) → eqb w (length s) ≡ is_value d s
value_some d zero s e z = absurd (z refl)
value_some d (suc w) s e z = ap (λ (n : ℕ). elim n [ zero ↦ false | suc k ↦ eqb (suc k) (length s) ]) e
