use mathlib.Core.Path.{◌≡◌}
use lib.Dec.{leb}
use lib.ListN.{drop, length}
use Rattle.number_lines.specs.Line.{numbers_text}
use Rattle.number_lines.proofs.writing.fits.Given as goal

abbrev pub invariant-loop-n : goal.invariant-loop-n
invariant-loop-n l = leb (length (numbers_text (drop l.n-index l.numbers))) l.left ≡ leb (length (numbers_text l.numbers)) l.room
