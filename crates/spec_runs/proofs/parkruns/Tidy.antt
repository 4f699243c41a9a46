-- What open and the calls return is remembered whole: parked and taken up again, it comes back equal.
use mathlib.Core.Path.{◌≡◌, refl, sym, ap, subst, ◌∙◌}
use mathlib.Core.Bool.{Bool, true, false, cond}
use mathlib.Core.List.{List, [], ◌∷◌}
use Prim.Native.Nat.{ℕ, ◌≤◌}
use lib.ListN.{length}
use Rattle.spec_base.specs.base.Limits.{most_held}
use Rattle.spec_caption.specs.declared.caption_fate.Config.{Config}
use Rattle.spec_ass.specs.declared.ass_columns.Columns.{Columns}
use Rattle.spec_machine.specs.declared.session_counts.Counts.{Counts}
use Rattle.spec_machine.specs.session_counts.Machine.{Run, going, stopped, run, finish_run}
use Rattle.spec_machine.specs.session_counts.Session.{Call, feed, finish, Gate, refuse, admit, blank_of, settle, resume, respond}
use Rattle.spec_machine.specs.session_counts.Session as model
use Rattle.spec_machine.specs.kinds.Takes.{State, machine_of}
use Rattle.spec_machine.specs.kinds.Kit.{kit}
use Rattle.spec_session.specs.declared.session_state.Session.{Session}
use Rattle.spec_session.specs.session_state.View.{held_of, view, padded, stored}
use Rattle.spec_session.proofs.session_state.ViewLaws.{held_padded}
use Rattle.spec_session.specs.session.SessionCalls.{session_gate, next_by, next_of}
use Rattle.spec_parked_blocks.specs.parked_blocks.Sealed.{filled}
use Rattle.spec_parking.specs.parking.Parked.{kept_bytes, remembered}
use Rattle.promise.proofs.RunLaws.{Whole, next_small, next_is}

abbrev pub Tidy : Session → Type 0
Tidy s = remembered s ≡ s

-- ---- a session that was stored
pub live_tidy : (t : model.Session Columns) → length t.held ≤ most_held → t.ended ≡ false → Tidy (stored t)
unfolding remembered stored kept_bytes padded
live_tidy t p e =
    let h = held_of (length t.held) (padded t.held) in
    let back : filled most_held h ≡ filled most_held t.held = ap (filled most_held) (held_padded t.held p) in
    ap (λ (b : Bool). record {
      config = t.config;
      ended = t.ended;
      outcome = t.outcome;
      taken = t.taken;
      lines = cond b 0 t.lines;
      counts = t.counts;
      columns = record { events = cond b false t.known.events; columns = cond b 0 t.known.columns; start = cond b 0 t.known.start; «end» = cond b 0 t.known.«end» };
      held_len = cond b 0 (length t.held);
      held = filled most_held (cond b [] h);
    }) e
    ∙ (λ i. record {
      config = t.config;
      ended = t.ended;
      outcome = t.outcome;
      taken = t.taken;
      lines = t.lines;
      counts = t.counts;
      columns = t.known;
      held_len = length t.held;
      held = back i;
    })

pub dead_tidy : (c : Config) (k t : ℕ) (n : Counts) → Tidy (stored (blank_of kit c k true t n))
unfolding remembered stored kept_bytes padded
dead_tidy c k t n = refl

settled_tidy : (v : model.Session Columns) (t : ℕ) (m : List ℕ) (y : Run State) → length (settle kit v t m y).session.held ≤ most_held → Tidy (stored (settle kit v t m y).session)
settled_tidy v t m (going st n h ps) p = live_tidy (settle kit v t m (going st n h ps)).session p refl
settled_tidy v t m (stopped k ps) p = dead_tidy v.config k t (settle kit v t m (stopped k ps)).session.counts

-- ---- the session after a call
module _ (s : Session) (tidy : Tidy s) where
  gate_tidy : (x : Call) (g : Gate) → session_gate s x ≡ g → Tidy (next_by g s x (respond kit g (view s) x).session)
  gate_tidy x (refuse k) e = tidy
  gate_tidy (feed l []) admit e = tidy
  gate_tidy (feed l (b ∷ p)) admit e =
      settled_tidy (view s) _ l.map (run (machine_of s.config.kind) (resume kit (view s)) (b ∷ p)) (next_small s (feed l (b ∷ p)) e)
  gate_tidy (finish l) admit e =
      settled_tidy (view s) s.taken l.map (finish_run (machine_of s.config.kind) (resume kit (view s))) (next_small s (finish l) e)

  pub next_tidy : Whole s → (x : Call) → Tidy (next_of s x)
  next_tidy w x = subst Tidy (sym (next_is s w x)) (gate_tidy x (session_gate s x) refl)
