-- Laws of the two searches for a sync frame, one step each.
use Prim.Native.Nat.{ℕ, suc, ◌+◌, ◌-◌, ◌<◌, ◌≤◌, min}
use mathlib.Core.Bool.{Bool, true, false}
use mathlib.Core.List.{List}
use mathlib.Core.Path.{◌≡◌, refl, sym, ap, ap₂, ◌∙◌}
use native.Mathlib.Omega.{arith}
use Rattle.spec_sheet.specs.sheet_frames.Frames.{sync_of}
use Rattle.spec_trim.specs.plan.Snap.{last_below, first_from, ceil_sync}

-- one step of each definition
last_suc_here : (s : List ℕ) (k : ℕ) → sync_of s k ≡ true → last_below s (suc k) ≡ k
unfolding last_below
last_suc_here s k e = rw e

last_suc_next : (s : List ℕ) (k : ℕ) → sync_of s k ≡ false → last_below s (suc k) ≡ last_below s k
unfolding last_below
last_suc_next s k e = rw e

first_suc_here : (s : List ℕ) (i k : ℕ) → sync_of s i ≡ true → first_from s i (suc k) ≡ i
unfolding first_from
first_suc_here s i k e = rw e

first_suc_next : (s : List ℕ) (i k : ℕ) → sync_of s i ≡ false → first_from s i (suc k) ≡ first_from s (suc i) k
unfolding first_from
first_suc_next s i k e = rw e

first_zero : (s : List ℕ) (i : ℕ) → first_from s i 0 ≡ i
unfolding first_from
first_zero s i = refl

-- the same as the code has them: k counts down, the frame looked at is k - 1
pub below_here : (s : List ℕ) (k : ℕ) → 0 < k → sync_of s (k - 1) ≡ true → k - 1 ≡ last_below s k
below_here s k l e =
    let q : suc (k - 1) ≡ k = omega arith in
    sym (last_suc_here s (k - 1) e) ∙ ap (last_below s) q

pub below_next : (s : List ℕ) (k : ℕ) → 0 < k → sync_of s (k - 1) ≡ false → last_below s (k - 1) ≡ last_below s k
below_next s k l e =
    let q : suc (k - 1) ≡ k = omega arith in
    sym (last_suc_next s (k - 1) e) ∙ ap (last_below s) q

ceil_here : (s : List ℕ) (n i : ℕ) → i < n → sync_of s i ≡ true → i ≡ ceil_sync s n i
unfolding ceil_sync
ceil_here s n i l e =
    let p : i ≡ min i n = omega arith in
    let q : suc (n - (i + 1)) ≡ n - i = omega arith in
    sym (first_suc_here s i (n - (i + 1)) e) ∙ ap₂ (first_from s) p q

ceil_next : (s : List ℕ) (n i : ℕ) → i < n → sync_of s i ≡ false → ceil_sync s n (i + 1) ≡ ceil_sync s n i
unfolding ceil_sync
ceil_next s n i l e =
    let m : min (i + 1) n ≡ suc i = omega arith in
    let p : i ≡ min i n = omega arith in
    let q : suc (n - (i + 1)) ≡ n - i = omega arith in
    ap (λ (x : ℕ). first_from s x (n - (i + 1))) m ∙ sym (first_suc_next s i (n - (i + 1)) e) ∙ ap₂ (first_from s) p q

ceil_done : (s : List ℕ) (n i : ℕ) → n ≤ i → n ≡ ceil_sync s n i
unfolding ceil_sync
ceil_done s n i l =
    let p : n ≡ min i n = omega arith in
    let q : 0 ≡ n - i = omega arith in
    sym (first_zero s n) ∙ ap₂ (first_from s) p q

-- the search up from i, which is the answer of the one from j: t is what was asked of frame i
pub ceil_found : (s : List ℕ) (n i j : ℕ) (t : Bool) → ceil_sync s n i ≡ ceil_sync s n j → i < n → t ≡ sync_of s i → t ≡ true → i ≡ ceil_sync s n j
ceil_found s n i j t inv l e h = ceil_here s n i l (sym e ∙ h) ∙ inv

pub ceil_again : (s : List ℕ) (n i j : ℕ) (t : Bool) → ceil_sync s n i ≡ ceil_sync s n j → i < n → t ≡ sync_of s i → t ≡ false → ceil_sync s n (i + 1) ≡ ceil_sync s n j
ceil_again s n i j t inv l e h = ceil_next s n i l (sym e ∙ h) ∙ inv

pub ceil_last : (s : List ℕ) (n i j : ℕ) → ceil_sync s n i ≡ ceil_sync s n j → n ≤ i → n ≡ ceil_sync s n j
ceil_last s n i j inv l = ceil_done s n i l ∙ inv
