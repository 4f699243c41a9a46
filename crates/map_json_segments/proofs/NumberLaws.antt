-- Laws of fields that are numbers.
use mathlib.Core.Path.{◌≡◌, refl, sym, ap}
use mathlib.Core.Bool.{Bool, true, false, cond, true≢false}
use mathlib.Core.List.{List, [], ◌∷◌}
use Prim.Native.Nat.{ℕ, ◌≤◌}
use native.Mathlib.Omega.{arith}
use borrow.Author.Tests.{leb-true}
use lib.Dec.{eqb}
use Rattle.spec_text.specs.text.Number.{value_from, digits}
use Rattle.spec_json.specs.json.Num.{is_plain}
use Rattle.map_json_segments.specs.Fields.{field_is}
use Rattle.spec_base.proofs.base.Laws.{and_right}

-- a plain number is at most its limit
pub plain_most : (most : ℕ) (s : List ℕ) → is_plain most s ≡ true → value_from 0 s ≤ most
unfolding is_plain
plain_most most [] e = absurd (true≢false (sym e))
plain_most most (b ∷ s) e = leb-true (value_from 0 (b ∷ s)) most (and_right (cond (eqb b 0x30) _ true) _ (and_right (digits (b ∷ s)) _ e))

pub field_most : (most : ℕ) (s : List ℕ) → (field_is most s).value ≤ most
field_most most s = go (is_plain most s) refl
  where
    go : (t : Bool) → is_plain most s ≡ t → cond t (value_from 0 s) 0 ≤ most
    go true e = plain_most most s e
    go false e = omega arith

pub said_value : (most : ℕ) (s : List ℕ) → is_plain most s ≡ true → (field_is most s).value ≡ value_from 0 s
said_value most s e = ap (λ (t : Bool). cond t (value_from 0 s) 0) e
