use mathlib.Core.Path.{◌≡◌}
use Prim.Native.Nat.{◌+◌, ◌≤◌}
use lib.ListN.{drop, length}
use Rattle.spec_base.specs.base.Put.{put_at}
use Rattle.number_lines.specs.Line.{numbers_text}
use Rattle.number_lines.proofs.writing.numbers_at.Given as goal

abbrev pub invariant-loop-n : goal.invariant-loop-n
invariant-loop-n l = (l.p + length (numbers_text (drop l.n-index l.numbers)) ≤ length l.out) ×
    (l.p + length (numbers_text (drop l.n-index l.numbers)) ≡ l.at + length (numbers_text l.numbers)) ×
    (put_at l.p (numbers_text (drop l.n-index l.numbers)) l.out ≡ put_at l.at (numbers_text l.numbers) l.initial.out) × (length l.out ≡ length l.initial.out)
