-- Steps of the loops over bytes below 80, and of characters of three bytes.
use Prim.Native.Nat.{ℕ, ◌+◌, ◌-◌, ◌≤◌, ◌<◌, max}
use mathlib.Core.Path.{◌≡◌, ap, ◌∙◌}
use mathlib.Core.Bool.{Bool, true}
use mathlib.Core.List.{List}
use lib.ListN.{length, take, drop, get_or, length-drop, length-take}
use lib.Seq.{take_all, get_or-drop}
use Rattle.std.proofs.lemmas.List.{get_or-take}
use native.Mathlib.Omega.{arith}
use Rattle.spec_text.specs.utf8.Utf8.{utf8, ascii_run}
use Rattle.spec_text.proofs.utf8.Laws.{three_on, run_all, plain_more}

-- what a pattern `[a, b, c, u @ ..]` calls u, where the first three bytes are a character
pub three_past : (s t : List ℕ) (r : Bool) → utf8 s ≡ utf8 t → 3 ≤ length t
    → (r ≡ true → (0xE1 ≤ get_or t 0 0) × (get_or t 0 0 ≤ 0xEC) × (0x80 ≤ get_or t 1 0) × (get_or t 1 0 ≤ 0xBF) × (0x80 ≤ get_or t 2 0) × (get_or t 2 0 ≤ 0xBF)) → r ≡ true
    → utf8 s ≡ utf8 (take (length t - 3) (drop 3 t))
three_past s t r inv l f e = three_on s t _ r inv l f e (take_all (length t - 3) (drop 3 t) (omega (arith, length-drop 3 t)))

-- the run of bytes below 80 is the whole text
pub run_whole : (s : List ℕ) (i : ℕ) → ascii_run s ≡ i + ascii_run (drop i s) → i ≤ length s → length s ≤ i → length s ≡ ascii_run s
run_whole s i inv l h = let e : length s ≡ i = omega arith in e ∙ run_all s i inv h

-- a byte of the 32 from i on
pub plain_on : (s : List ℕ) (i k most x : ℕ) → i + 32 ≤ length s → k < length (take (i + 32 - i) (drop i s)) → x ≡ max most (get_or (take (i + 32 - i) (drop i s)) k 0)
    → (most < 0x80 → ascii_run (drop i s) ≡ k + ascii_run (drop (i + k) s)) → x < 0x80 → ascii_run (drop i s) ≡ k + 1 + ascii_run (drop (i + (k + 1)) s)
plain_on s i k most x l h e inv q =
    let n : k < 32 = omega (arith, length-take (i + 32 - i) (drop i s)) in
    let m : k < i + 32 - i = omega arith in
    let g : get_or (take (i + 32 - i) (drop i s)) k 0 ≡ get_or s (i + k) 0 = get_or-take _ _ _ _ m ∙ get_or-drop i s k 0 in
    plain_more s i k most x l n (e ∙ ap (max most) g) inv q
