-- What every line keeps of a state and of the number of lines before it, a run keeps.
use mathlib.Core.Bool.{Bool, true, false, ◌&&◌}
use mathlib.Core.List.{List, [], ◌∷◌, ◌++◌}
use Prim.Native.Nat.{ℕ, suc}
use lib.Dec.{leb, eqb}
use lib.ListN.{length, drop}
use Rattle.spec_base.specs.base.Limits.{most_line}
use Rattle.spec_caption.specs.caption_fate.Says.{Part}
use Rattle.spec_machine.specs.session_counts.Machine.{Machine, Says, faulty, says, has_bom, with_bom, line_with, take_line, Run, going, stopped, line_end, byte, byte_step, run}

abbrev pub Kept : {σ : Type 0} → (σ → Type 0) → Says σ → Type 0
Kept P (faulty f) = Unit {0}
Kept P (says t ps) = P t

abbrev pub Going : {σ : Type 0} → (σ → ℕ → Type 0) → Run σ → Type 0
Going P (going s n h ps) = P s n
Going P (stopped k ps) = Unit {0}

module _ {σ : Type 0} (M : Machine σ) (P : σ → ℕ → Type 0) (steps : (s : σ) (n : ℕ) (l : List ℕ) → P s n → Kept (λ t. P t (suc n)) (M.step s n l)) where
  bom_keeps : (n : ℕ) (x : Says σ) → Kept (λ t. P t (suc n)) x → Kept (λ t. P t (suc n)) (with_bom x)
  bom_keeps n (faulty f) k = tt
  bom_keeps n (says t ps) k = k

  with_keeps : (b : Bool) (s : σ) (n : ℕ) (l : List ℕ) → P s n → Kept (λ t. P t (suc n)) (line_with M b s n l)
  with_keeps true s n l p = bom_keeps n (M.step s n (drop 3 l)) (steps s n (drop 3 l) p)
  with_keeps false s n l p = steps s n l p

  end_keeps : (n : ℕ) (ps : List Part) (x : Says σ) → Kept (λ t. P t (suc n)) x → Going P (line_end M n ps x)
  end_keeps n ps (faulty f) k = tt
  end_keeps n ps (says t new) k = k

  byte_keeps : (ok lf : Bool) (s : σ) (n : ℕ) (l : List ℕ) (ps : List Part) → P s n → Going P (byte M ok lf s n l ps)
  byte_keeps false lf s n l ps p = tt
  byte_keeps true true s n l ps p = end_keeps n ps (take_line M s n l) (with_keeps (eqb n 0 && has_bom l) s n l p)
  byte_keeps true false s n l ps p = p

  step_keeps : (r : Run σ) (b : ℕ) → Going P r → Going P (byte_step M r b)
  step_keeps (going s n h ps) b p = byte_keeps (leb (length (h ++ (b ∷ []))) most_line) (eqb b 10) s n (h ++ (b ∷ [])) ps p
  step_keeps (stopped k ps) b p = tt

  pub run_keeps : (r : Run σ) (t : List ℕ) → Going P r → Going P (run M r t)
  run_keeps r [] p = p
  run_keeps r (b ∷ t) p = run_keeps (byte_step M r b) t (step_keeps r b p)
