use lib.ListN.{length}
use Rattle.spec_json.specs.json.Str.{chars_bytes}
use Rattle.spec_json.proofs.json.CharsLaws.{Into}
use Rattle.json_strings.proofs.string.chars_into.Given as goal

abbrev pub invariant-loop-w : goal.invariant-loop-w
invariant-loop-w l = Into (chars_bytes l.s 0) l.t l.initial.out l.out l.at

abbrev pub decreases-loop-w : goal.decreases-loop-w
decreases-loop-w l = length l.t
