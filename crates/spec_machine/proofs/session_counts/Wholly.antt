-- A fault in the front of a text is the whole text's, with the same parts before it; and where a reader goes on, the machine does.
use mathlib.Core.Path.{◌≡◌, sym, ap, ◌∙◌}
use mathlib.Core.Bool.{true, false, true≢false}
use mathlib.Core.List.{List, ◌++◌}
use Prim.Native.Nat.{ℕ, ◌≤◌}
use lib.ListN.{length}
use Rattle.spec_base.specs.base.Limits.{most_taken}
use Rattle.spec_caption.specs.declared.caption_fate.Config.{Config}
use Rattle.spec_caption.specs.caption_fate.Says.{Part}
use Rattle.spec_machine.specs.session_counts.Machine.{Machine, Run, going, stopped, run, finish_run}
use Rattle.spec_machine.specs.session_counts.Reader.{Reading, reading, read_text}
use Rattle.spec_machine.specs.session_counts.Session.{config_bad, Session, Kit}
use Rattle.spec_machine.specs.session_counts.Calls.{Reader}
use Rattle.spec_machine.proofs.session_counts.Bytes.{ran_to, begin, run_stopped, bytes_reading}
use Rattle.spec_machine.proofs.session_counts.Resume.{run_append}
use Rattle.spec_machine.proofs.session_counts.Laws.{Lawful}
use Rattle.spec_machine.proofs.session_counts.Lists.{Inv, live, dead}

module _ {σ : Type 0} (M : Machine σ) where
  by_run : (r : Run σ) (k : ℕ) (ps : List Part) → ran_to r ≡ reading k ps → (k ≡ 0 → ⊥) → r ≡ stopped k ps
  by_run (going s n h qs) k ps e f = absurd (f (sym (ap (λ (x : Reading). x.fault) e)))
  by_run (stopped j qs) k ps e f = λ i. stopped (e i).fault (e i).parts

  pub fault_whole : (u rest : List ℕ) (k : ℕ) (ps : List Part) → read_text M false u ≡ reading k ps → (k ≡ 0 → ⊥) → read_text M true (u ++ rest) ≡ reading k ps
  fault_whole u rest k ps e f =
      let s : run M (begin M) u ≡ stopped k ps = by_run (run M (begin M) u) k ps (bytes_reading M false u ∙ e) f in
      let w : run M (begin M) (u ++ rest) ≡ stopped k ps = run_append M (begin M) u rest ∙ ap (λ (r : Run σ). run M r rest) s ∙ run_stopped M k ps rest in
      sym (bytes_reading M true (u ++ rest)) ∙ ap (λ (r : Run σ). ran_to (finish_run M r)) w

module _ {σ κ : Type 0} (K : Kit σ κ) (c : Config) (m : List ℕ) (L : Lawful K c.kind) (cOk : config_bad c ≡ false) where
  -- of a reader that has not ended: the machine has read its text and goes on
  pub record Alive (ps : List Part) (r : Reader) : Type 0 where
    pub state : σ
    pub lines : ℕ
    pub line : List ℕ
    pub ran : run (K.machine c.kind) (begin (K.machine c.kind)) r.text ≡ going state lines line ps
    pub few : length r.text ≤ most_taken

  pub alive : (s : Session κ) (ps : List Part) (r : Reader) → Inv K c m L cOk s ps r → r.ended ≡ false → Alive ps r
  alive _ _ _ (live t s n h ps e q) f = record { state = s; lines = n; line = h; ran = e; few = q }
  alive _ _ _ (dead t g k ps w o q) f = absurd (true≢false f)
