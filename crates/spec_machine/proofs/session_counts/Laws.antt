-- What the kinds of captions must obey, so that their sessions are never taken for foreign ones.
use mathlib.Core.Path.{◌≡◌}
use mathlib.Core.Bool.{true, false}
use mathlib.Core.List.{List, []}
use Prim.Native.Nat.{ℕ, suc, ◌+◌, ◌≤◌}
use lib.ListN.{length}
use Rattle.spec_base.specs.base.Limits.{most_line}
use Rattle.spec_text.specs.text.Line.{has_lf, ends_line, line_count}
use Rattle.spec_caption.specs.caption_fate.Says.{Part, captions_in}
use Rattle.spec_machine.specs.session_counts.Cut.{closed_lines}
use Rattle.spec_machine.specs.session_counts.Machine.{Says, faulty, says}
use Rattle.spec_machine.specs.session_counts.Session.{Kit}
use Rattle.spec_machine.proofs.session_counts.Keeps.{Kept}

module _ {σ : Type 0} (Fit : σ → Type 0) (pending size : σ → ℕ) where
  -- a line ends at most one caption, counting one that is still open, and holds no more than its bytes
  pub record StepFacts (s : σ) (l : List ℕ) (t : σ) (ps : List Part) : Type 0 where
    pub fit : ends_line l ≡ true → Fit t
    pub few : captions_in ps + pending t ≤ suc (pending s)
    pub small : size t ≤ size s + length l

  abbrev pub StepOk : σ → List ℕ → Says σ → Type 0
  StepOk s l (faulty f) = Unit {0}
  StepOk s l (says t ps) = StepFacts s l t ps

  -- a finish ends at most the open caption
  abbrev pub CloseOk : σ → Says σ → Type 0
  CloseOk s (faulty f) = Unit {0}
  CloseOk s (says t ps) = captions_in ps ≤ pending s

pub record Lawful {σ κ : Type 0} (K : Kit σ κ) (kind : ℕ) : Type 1 where
  -- what holds of the state between two lines
  pub Fit : σ → Type 0
  -- captions that no further line needs to end: 1 for an open block
  pub pending : σ → ℕ
  -- bytes of finished lines that are held
  pub size : σ → ℕ
  -- finished lines that are held
  pub rows : σ → ℕ
  pub start_rows : rows (K.machine kind).start ≡ 0
  pub step_rows : (s : σ) (n : ℕ) (l : List ℕ) → Kept (λ t. rows t ≤ suc (rows s)) ((K.machine kind).step s n l)
  pub pack_rows : (s : σ) (h : List ℕ) → Fit s → has_lf h ≡ false → line_count (closed_lines (K.pack s h)) ≡ rows s
  pub start_fit : Fit (K.machine kind).start
  pub start_pending : pending (K.machine kind).start ≡ 0
  pub start_size : size (K.machine kind).start ≡ 0
  pub start_pack : K.pack (K.machine kind).start [] ≡ []
  pub step_ok : (s : σ) (n : ℕ) (l : List ℕ) → Fit s → length l ≤ most_line → StepOk Fit pending size s l ((K.machine kind).step s n l)
  pub close_ok : (s : σ) (n : ℕ) → CloseOk Fit pending size s ((K.machine kind).close s n)
  -- a session keeps the state and the unfinished line
  pub pack_length : (s : σ) (h : List ℕ) → length (K.pack s h) ≡ size s + length h
  pub same_state : (s : σ) (h : List ℕ) → Fit s → has_lf h ≡ false → K.state (K.known s) (K.pack s h) ≡ s
  pub same_line : (s : σ) (h : List ℕ) → Fit s → has_lf h ≡ false → K.open_line (K.pack s h) ≡ h
  pub not_strange : (s : σ) (h : List ℕ) → Fit s → length h ≤ most_line → has_lf h ≡ false → K.strange kind (K.known s) (K.pack s h) ≡ false
