-- Which op is about captions as rows.
use mathlib.Core.Path.{◌≡◌, sym}
use mathlib.Core.Bool.{true, false}
use Prim.Native.Nat.{ℕ}
use borrow.Author.Tests.{eq-eqb, ne_eqb}
use lib.Dec.{eqb}

pub op_16 : (op : ℕ) → op ≡ 16 → true ≡ eqb op 16
op_16 op e = sym (eq-eqb op 16 e)

pub op_other : (op : ℕ) → (op ≡ 16 → ⊥) → false ≡ eqb op 16
op_other op e = sym (ne_eqb op 16 e)
