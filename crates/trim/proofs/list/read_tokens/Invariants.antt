use Prim.Native.Nat.{◌≤◌, ◌+◌, ◌-◌, ◌*◌}
use mathlib.Core.Path.{◌≡◌}
use lib.ListN.{length}
use lib.Seq.{sets}
use Rattle.spec_base.specs.base.Limits.{most_trims}
use Rattle.spec_trim.specs.trim.TrimList.{tokens_of, tokens_number, ranges_in}
use Rattle.trim.proofs.list.read_tokens.Given as goal

abbrev pub invariant-loop-count : goal.invariant-loop-count
invariant-loop-count l = (l.count ≤ most_trims) × (length l.ranges ≡ length l.initial.ranges) × (length l.t ≤ length l.list) × (tokens_number most_trims 0 (tokens_of l.list) ≡ tokens_number (most_trims - l.count) l.prev.0 (tokens_of l.t)) × (length (tokens_of l.list) ≡ l.count + length (tokens_of l.t)) × (sets l.initial.ranges 0 (ranges_in (tokens_of l.list)) ≡ sets l.ranges (l.count * 2) (ranges_in (tokens_of l.t)))
