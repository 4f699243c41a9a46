use mathlib.Core.Path.{◌≡◌}
use mathlib.Core.Bool.{true}
use Rattle.spec_text.specs.utf8.Utf8.{utf8}
use Rattle.spec_text.specs.text.Line.{concat}
use Rattle.spec_machine.specs.session_counts.Cut.{closed_lines}
use Prim.Native.Nat.{◌≤◌, ◌+◌, ◌-◌}
use lib.ListN.{length, drop}
use Rattle.spec_base.specs.base.Limits.{most_taken}
use Rattle.spec_session.specs.session_text.Lined.{Onto}
use Rattle.session_text.proofs.lining.pass_joins.Given as goal

abbrev pub invariant-loop-end : goal.invariant-loop-end
invariant-loop-end l = (l.n ≤ most_taken + l.place) × (l.b ≤ l.place) × (l.begin ≤ l.place) × (l.place ≤ length l.text) × (length l.text ≤ most_taken) × Onto l.kind l.b l.text l.lines l.begin l.n l.place
    × (l.good ≡ true → utf8 (concat (closed_lines (drop l.place l.text))) ≡ true)

abbrev pub decreases-loop-end : goal.decreases-loop-end
decreases-loop-end l = length l.text - l.place
