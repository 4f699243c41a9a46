-- A stored session stands for the model's session that was stored, and a session that passes 17 claims no more than its room.
use mathlib.Core.Path.{◌≡◌, refl, sym, ◌∙◌}
use mathlib.Core.Bool.{false}
use mathlib.Core.List.{List, append-nil}
use Prim.Native.Nat.{ℕ, ◌-◌, ◌≤◌}
use native.Mathlib.Omega.{arith}
use lib.ListN.{length, take, replicate, length-append, length-take, length-replicate}
use lib.Seq.{take-append_seam}
use Rattle.spec_base.specs.base.Limits.{most_held}
use Rattle.spec_ass.specs.declared.ass_columns.Columns.{Columns}
use Rattle.spec_machine.specs.session_counts.Session as model
use Rattle.spec_machine.specs.kinds.Kit.{kit}
use Rattle.spec_machine.proofs.kinds.Native.{Native, is_native}
use Rattle.spec_session.specs.declared.session_state.Session.{Session}
use Rattle.spec_session.specs.session_state.View.{held_of, view, padded, stored, foreign_of}

pub held_length : (n : ℕ) (l : List ℕ) → length (held_of n l) ≡ n
unfolding held_of
held_length n l = simp (length-append, length-take, length-replicate) (omega arith)

pub held_plain : (n : ℕ) (l : List ℕ) → n ≤ length l → held_of n l ≡ take n l
unfolding held_of
held_plain n l h = let e : n - length l ≡ 0 = omega arith in rw e (append-nil (take n l))

pub padded_length : (h : List ℕ) → length h ≤ most_held → length (padded h) ≡ most_held
unfolding padded
padded_length h p = simp (length-append, length-replicate) (omega arith)

padded_take : (h : List ℕ) → take (length h) (padded h) ≡ h
unfolding padded
padded_take h = take-append_seam h (replicate (most_held - length h) 0)

pub held_padded : (h : List ℕ) → length h ≤ most_held → held_of (length h) (padded h) ≡ h
held_padded h p = held_plain (length h) (padded h) (omega (arith, padded_length h p)) ∙ padded_take h

pub view_stored : (t : model.Session Columns) → length t.held ≤ most_held → view (stored t) ≡ t
unfolding stored
view_stored t p =
    λ i. record {
      config = t.config;
      taken = t.taken;
      lines = t.lines;
      held = held_padded t.held p i;
      known = t.known;
      counts = t.counts;
      outcome = t.outcome;
      ended = t.ended;
    }

pub foreign_view : (s : Session) → foreign_of s ≡ model.foreign kit (view s)
unfolding foreign_of
foreign_view s = refl

-- what 17 leaves, for the model's session
pub native_view : (s : Session) → foreign_of s ≡ false → Native (view s)
native_view s e = is_native (view s) (sym (foreign_view s) ∙ e)

module _ (s : Session) (e : foreign_of s ≡ false) where
  pub native_room : s.held_len ≤ most_held
  native_room = omega (arith, (native_view s e).holds.few, held_length s.held_len s.held)
