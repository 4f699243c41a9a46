use mathlib.Core.Path.{◌≡◌, refl}
use lib.ListN.{length, get_or, get_or-eq_default, length-drop}
use lib.Seq.{take_all}
use native.Mathlib.Omega.{arith}
use borrow.Author.Tests.{ltb-true}
use Rattle.spec_text.proofs.text.Laws.{number_plus, number_none}
use Prim.Native.Nat.{◌≤◌}
use Rattle.text.proofs.decimal.number_to.Goals as goal
use Rattle.text.proofs.decimal.number_to.Goals.{in_default-via-then-s-lt1, in_default-via-else-s-lt1+in_default-1}

pub returns-in-43 : goal.returns-in-43
returns-in-43 c = let p : get_or c.args.s.now 0 0 ≡ 0x2B = omega arith in number_plus _ _ _ _ _ refl p (take_all _ _ (omega (arith, length-drop 1 c.args.s.now))) c.digits_to.ensures

pub returns-in_default : goal.returns-in_default
returns-in_default c = number_none _ _ _ _ refl (λ q. elim c.in_default.branch [ in_default-via-then-s-lt1 w ↦ (let l : length c.args.s.now ≤ 0 = omega (arith, ltb-true) in let z : get_or c.args.s.now 0 0 ≡ 0 = get_or-eq_default _ 0 l in omega arith) | in_default-via-else-s-lt1+in_default-1 w ↦ omega arith ]) c.digits_to-in_default.ensures
