-- A walk that stops: at the first of some lines such that they alone have its fault.
use mathlib.Core.Path.{◌≡◌, sym, ap, ◌∙◌}
use mathlib.Core.List.{List, [], ◌∷◌}
use Prim.Native.Nat.{ℕ, zero, suc, ◌≤◌, ◌<◌}
use native.Mathlib.Omega.{arith}
use lib.ListN.{take}
use Rattle.spec_text.specs.text.Line.{line_count}
use Rattle.spec_rows.specs.declared.caption_rows.Said.{Said}
use Rattle.spec_rows.specs.caption_rows.Walk.{Walk, onward, ◌then◌}

-- `past` lines come before the one at which the walk stops
pub record Stop (F : List (List ℕ) → Walk) (ls : List (List ℕ)) (k : ℕ) (Told : ℕ → Type 0) : Type 0 where
  pub past : ℕ
  pub within : past < line_count ls
  pub same : (F (take (suc past) ls)).fault ≡ k
  pub least : (m : ℕ) → m ≤ past → (F (take m ls)).fault ≡ k → ⊥
  pub told : Told past

-- at the first line
pub stop_now : (F : List (List ℕ) → Walk) (l : List ℕ) (ls : List (List ℕ)) (k : ℕ) (Told : ℕ → Type 0)
    → ((F []).fault ≡ k → ⊥) → (F (l ∷ [])).fault ≡ k → Told 0 → Stop F (l ∷ ls) k Told
stop_now F l ls k Told none now t = record { past = 0; within = omega arith; same = now; least = least; told = t }
  where
    least : (m : ℕ) → m ≤ 0 → (F (take m (l ∷ ls))).fault ≡ k → ⊥
    least zero h e = none e
    least (suc m) h e = omega arith

-- at a later one
pub stop_later : (F G : List (List ℕ) → Walk) (l : List ℕ) (ls : List (List ℕ)) (k : ℕ) (Told Later : ℕ → Type 0)
    → ((ks : List (List ℕ)) → (F (l ∷ ks)).fault ≡ (G ks).fault) → ((F []).fault ≡ k → ⊥) → ((p : ℕ) → Later p → Told (suc p)) → Stop G ls k Later → Stop F (l ∷ ls) k Told
stop_later F G l ls k Told Later on none more s =
    record { past = suc s.past; within = omega (arith, s.within); same = on (take (suc s.past) ls) ∙ s.same; least = least; told = more s.past s.told }
  where
    least : (m : ℕ) → m ≤ suc s.past → (F (take m (l ∷ ls))).fault ≡ k → ⊥
    least zero h e = none e
    least (suc m) h e = s.least m (omega arith) (sym (on (take m ls)) ∙ e)

-- ---- what was said, then the rest
module _ (s : Said) (w : Walk) where
  pub on_fault : s.number ≡ 0 → (s then w).fault ≡ w.fault
  on_fault e = ap (λ (m : ℕ). (onward m s w).fault) e

  pub on_line : s.number ≡ 0 → (s then w).line ≡ w.line
  on_line e = ap (λ (m : ℕ). (onward m s w).line) e

  pub at_fault_lem : (k : ℕ) → s.number ≡ suc k → (s then w).fault ≡ suc k
  at_fault_lem k e = ap (λ (m : ℕ). (onward m s w).fault) e

  pub at_line : (k : ℕ) → s.number ≡ suc k → (s then w).line ≡ s.line
  at_line k e = ap (λ (m : ℕ). (onward m s w).line) e

pub zero_suc : {A : Type 0} (k : ℕ) → 0 ≡ suc k → A
zero_suc k e = absurd (omega arith)
