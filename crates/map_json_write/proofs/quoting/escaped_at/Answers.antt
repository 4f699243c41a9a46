use mathlib.Core.Path.{◌≡◌, refl}
use mathlib.Core.List.{List, [], ◌∷◌}
use Prim.Native.Nat.{ℕ}
use native.Mathlib.Omega.{arith}
use Rattle.std.proofs.lemmas.Grind.{common_steps}
use Rattle.spec_json.specs.json.Quote.{escaped}
use Rattle.map_json_write.proofs.EscapeLaws.{escaped_written, escaped_as}
use Rattle.map_json_write.proofs.quoting.escaped_at.Goals as goal

pub returns-in-34 : goal.returns-in-34
unfolding escaped
returns-in-34 c = (escaped_as _ _ _ 34 _ _ _ c.in-34.is refl c.bytes_at.ensures, omega arith)

pub returns-in-92 : goal.returns-in-92
unfolding escaped
returns-in-92 c = (escaped_as _ _ _ 92 _ _ _ c.in-92.is refl c.bytes_at-in-92.ensures, omega arith)

pub returns-in-8 : goal.returns-in-8
unfolding escaped
returns-in-8 c = (escaped_as _ _ _ 8 _ _ _ c.in-8.is refl c.bytes_at-in-8.ensures, omega arith)

pub returns-in-9 : goal.returns-in-9
unfolding escaped
returns-in-9 c = (escaped_as _ _ _ 9 _ _ _ c.in-9.is refl c.bytes_at-in-9.ensures, omega arith)

pub returns-in-10 : goal.returns-in-10
unfolding escaped
returns-in-10 c = (escaped_as _ _ _ 10 _ _ _ c.in-10.is refl c.bytes_at-in-10.ensures, omega arith)

pub returns-in-12 : goal.returns-in-12
unfolding escaped
returns-in-12 c = (escaped_as _ _ _ 12 _ _ _ c.in-12.is refl c.bytes_at-in-12.ensures, omega arith)

pub returns-in-13 : goal.returns-in-13
unfolding escaped
returns-in-13 c = (escaped_as _ _ _ 13 _ _ _ c.in-13.is refl c.bytes_at-in-13.ensures, omega arith)

pub returns-in-0-to-31 : goal.returns-in-0-to-31
unfolding escaped
returns-in-0-to-31 c =
    let e : ◌≡◌ {A = List ℕ} (0x5C ∷ 0x75 ∷ 0x30 ∷ 0x30 ∷ c.hex_letter.result ∷ c.hex_letter-in-0-to-31.result ∷ []) (escaped c.args.b) = grind (arith, common_steps) in
    (escaped_written _ _ c.args.b _ _ _ e c.bytes_at-in-0-to-31.ensures, omega arith)

pub returns-in_default : goal.returns-in_default
unfolding escaped
returns-in_default c =
    let e : ◌≡◌ {A = List ℕ} (c.args.b ∷ []) (escaped c.args.b) = grind (arith, common_steps) in
    (escaped_written _ _ c.args.b _ _ _ e c.bytes_at-in_default.ensures, omega arith)
