-- A call resumes where the last one stopped: the machine on a text in two parts, and on a text after parts that came before.
use mathlib.Core.Path.{◌≡◌, refl, ap, ◌∙◌}
use mathlib.Core.Bool.{Bool, true, false}
use mathlib.Core.List.{List, [], ◌∷◌, ◌++◌, append_assoc}
use Prim.Native.Nat.{ℕ, suc, ◌<◌}
use lib.Dec.{leb, eqb}
use lib.ListN.{length, take, get_or}
use lib.Seq.{take-suc}
use Rattle.spec_base.specs.base.Limits.{most_line}
use Rattle.spec_caption.specs.caption_fate.Says.{Part, Fault, long_line, not_utf8, long_block, bad_time, bad_header, fault_number}
use Rattle.spec_machine.specs.session_counts.Machine.{Machine, Says, faulty, says, with_bom, take_line, Rest, nothing, bom_alone, last_line, rest_of, Run, going, stopped}
use Rattle.spec_machine.specs.session_counts.Machine.{line_end, byte, byte_step, run, closed, last_end, at_end, finish_run}

-- a run after the parts xs
abbrev pub after : {σ : Type 0} → List Part → Run σ → Run σ
after xs (going s n h ps) = going s n h (xs ++ ps)
after xs (stopped k ps) = stopped k (xs ++ ps)

-- ended by a fault, and not by a finish
abbrev pub ByFault : {σ : Type 0} → Run σ → Type 0
ByFault (going s n h ps) = Unit {0}
ByFault (stopped k ps) = eqb k 0 ≡ false

pub fault_number_lem : (f : Fault) → eqb (fault_number f) 0 ≡ false
fault_number_lem long_line = refl
fault_number_lem not_utf8 = refl
fault_number_lem long_block = refl
fault_number_lem bad_time = refl
fault_number_lem bad_header = refl

module _ {σ : Type 0} (M : Machine σ) where
  pub run_append : (r : Run σ) (xs ys : List ℕ) → run M r (xs ++ ys) ≡ run M (run M r xs) ys
  run_append r [] ys = refl
  run_append r (b ∷ xs) ys = run_append (byte_step M r b) xs ys

  -- one byte more: what a loop over a piece shows at each turn
  pub run_snoc : (r : Run σ) (t : List ℕ) (b : ℕ) → run M r (t ++ (b ∷ [])) ≡ byte_step M (run M r t) b
  run_snoc r t b = run_append r t (b ∷ [])

  pub run_take : (r : Run σ) (t : List ℕ) (i : ℕ) → i < length t → run M r (take (suc i) t) ≡ byte_step M (run M r (take i t)) (get_or t i 0)
  run_take r t i h = ap (run M r) (take-suc t i 0 h) ∙ run_snoc r (take i t) (get_or t i 0)

  -- what came before stays in front
  line_after : (xs : List Part) (n : ℕ) (ps : List Part) (x : Says σ) → line_end M n (xs ++ ps) x ≡ after xs (line_end M n ps x)
  line_after xs n ps (faulty f) = refl
  line_after xs n ps (says t new) = ap (going t (suc n) []) (append_assoc xs ps new)

  byte_after : (xs : List Part) (ok lf : Bool) (s : σ) (n : ℕ) (l : List ℕ) (ps : List Part)
      → byte M ok lf s n l (xs ++ ps) ≡ after xs (byte M ok lf s n l ps)
  byte_after xs false lf s n l ps = refl
  byte_after xs true true s n l ps = line_after xs n ps (take_line M s n l)
  byte_after xs true false s n l ps = refl

  step_after : (xs : List Part) (r : Run σ) (b : ℕ) → byte_step M (after xs r) b ≡ after xs (byte_step M r b)
  step_after xs (going s n h ps) b = byte_after xs (leb (length (h ++ (b ∷ []))) most_line) (eqb b 10) s n (h ++ (b ∷ [])) ps
  step_after xs (stopped k ps) b = refl

  pub run_after : (xs : List Part) (r : Run σ) (t : List ℕ) → run M (after xs r) t ≡ after xs (run M r t)
  run_after xs r [] = refl
  run_after xs r (b ∷ t) = ap (λ (x : Run σ). run M x t) (step_after xs r b) ∙ run_after xs (byte_step M r b) t

  closed_after : (xs ps : List Part) (x : Says σ) → closed M (xs ++ ps) x ≡ after xs (closed M ps x)
  closed_after xs ps (faulty f) = refl
  closed_after xs ps (says t new) = ap (stopped 0) (append_assoc xs ps new)

  last_after : (xs : List Part) (n : ℕ) (ps : List Part) (x : Says σ) → last_end M n (xs ++ ps) x ≡ after xs (last_end M n ps x)
  last_after xs n ps (faulty f) = refl
  last_after xs n ps (says t new) =
      ap (λ (x : List Part). closed M x (M.close t (suc n))) (append_assoc xs ps new)
      ∙ closed_after xs (ps ++ new) (M.close t (suc n))

  end_after : (xs : List Part) (x : Rest) (s : σ) (n : ℕ) (h : List ℕ) (ps : List Part)
      → at_end M x s n h (xs ++ ps) ≡ after xs (at_end M x s n h ps)
  end_after xs nothing s n h ps = closed_after xs ps (M.close s n)
  end_after xs bom_alone s n h ps = closed_after xs ps (with_bom (M.close s n))
  end_after xs last_line s n h ps = last_after xs n ps (take_line M s n h)

  pub finish_after : (xs : List Part) (r : Run σ) → finish_run M (after xs r) ≡ after xs (finish_run M r)
  finish_after xs (going s n h ps) = end_after xs (rest_of n h) s n h ps
  finish_after xs (stopped k ps) = refl

  -- bytes stop a run by a fault only
  line_fault_lem : (n : ℕ) (ps : List Part) (x : Says σ) → ByFault (line_end M n ps x)
  line_fault_lem n ps (faulty f) = fault_number_lem f
  line_fault_lem n ps (says t new) = tt

  byte_fault : (ok lf : Bool) (s : σ) (n : ℕ) (l : List ℕ) (ps : List Part) → ByFault (byte M ok lf s n l ps)
  byte_fault false lf s n l ps = refl
  byte_fault true true s n l ps = line_fault_lem n ps (take_line M s n l)
  byte_fault true false s n l ps = tt

  step_fault : (r : Run σ) (b : ℕ) → ByFault r → ByFault (byte_step M r b)
  step_fault (going s n h ps) b f = byte_fault (leb (length (h ++ (b ∷ []))) most_line) (eqb b 10) s n (h ++ (b ∷ [])) ps
  step_fault (stopped k ps) b f = f

  pub run_fault : (r : Run σ) (t : List ℕ) → ByFault r → ByFault (run M r t)
  run_fault r [] f = f
  run_fault r (b ∷ t) f = run_fault (byte_step M r b) t (step_fault r b f)

  -- a finish always stops
  abbrev pub Stopped : Run σ → Type 0
  Stopped (going s n h ps) = ⊥
  Stopped (stopped k ps) = Unit {0}

  closed_stops : (ps : List Part) (x : Says σ) → Stopped (closed M ps x)
  closed_stops ps (faulty f) = tt
  closed_stops ps (says t new) = tt

  last_stops : (n : ℕ) (ps : List Part) (x : Says σ) → Stopped (last_end M n ps x)
  last_stops n ps (faulty f) = tt
  last_stops n ps (says t new) = closed_stops (ps ++ new) (M.close t (suc n))

  pub finish_stops : (x : Rest) (s : σ) (n : ℕ) (h : List ℕ) (ps : List Part) → Stopped (at_end M x s n h ps)
  finish_stops nothing s n h ps = closed_stops ps (M.close s n)
  finish_stops bom_alone s n h ps = closed_stops ps (with_bom (M.close s n))
  finish_stops last_line s n h ps = last_stops n ps (take_line M s n h)
