-- An empty piece changes nothing, whatever session it is fed to: where a session holds what its state and its unfinished line pack to.
use mathlib.Core.Path.{◌≡◌, refl, sym, ap, ap₂, ◌∙◌}
use mathlib.Core.Bool.{Bool, true, false}
use mathlib.Core.List.{List, []}
use Prim.Native.Nat.{ℕ}
use native.Mathlib.Omega.{arith}
use Rattle.spec_map.specs.segment.Segment.{map_bad, segments_of}
use Rattle.spec_machine.specs.declared.session_counts.Counts.{Counts}
use Rattle.spec_machine.specs.session_counts.Counts.{count_all}
use Rattle.spec_machine.specs.session_counts.Session.{Session, Kit, Lent, feed, argument_bad, gate, foreign, respond, answer, emitted}
use Rattle.spec_machine.proofs.session_counts.Emits.{emits_none, count_none}

module _ {σ κ : Type 0} (K : Kit σ κ) (same-held : (k : κ) (h : List ℕ) → K.pack (K.state k h) (K.open_line h) ≡ h)
    (same_known : (k : κ) (h : List ℕ) → K.known (K.state k h) ≡ k) (s : Session κ) (l : Lent) where
  abbrev with : ℕ → List ℕ → κ → Counts → Bool → Session κ
  with t h k x e =
      record {
        config = s.config;
        taken = t;
        lines = s.lines;
        held = h;
        known = k;
        counts = x;
        outcome = s.outcome;
        ended = e;
      }

  no_counts_lem : count_all s.counts (emitted s.config l.map []) ≡ s.counts
  no_counts_lem = ap (count_all s.counts) (emits_none s.config (segments_of l.map)) ∙ count_none s.counts

  by_gate : (f e m a : Bool) → s.ended ≡ e → (respond K (gate f e m a) s (feed l [])).session ≡ s
  by_gate true e m a p = refl
  by_gate false true m a p = refl
  by_gate false false true a p = refl
  by_gate false false false true p = refl
  by_gate false false false false p =
      ap₂ (λ (t : ℕ) (h : List ℕ). with t h (K.known (K.state s.known s.held)) (count_all s.counts (emitted s.config l.map [])) false)
      (omega arith) (same-held s.known s.held)
      ∙ ap₂ (λ (k : κ) (x : Counts). with s.taken s.held k x false) (same_known s.known s.held) no_counts_lem
      ∙ ap (λ (e : Bool). with s.taken s.held s.known s.counts e) (sym p)

  pub empty_piece_lem : (answer K s (feed l [])).session ≡ s
  empty_piece_lem = by_gate (foreign K s) s.ended (map_bad l.map) (argument_bad s.taken (feed l [])) refl
