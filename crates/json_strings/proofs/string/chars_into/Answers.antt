use mathlib.Core.Path.{sym}
use Rattle.spec_json.proofs.json.CharsLaws.{into_start, into_again, into_stop, into_stop_2}
use Rattle.json_strings.proofs.WideLaws.{wide_less}
use Rattle.json_strings.proofs.string.chars_into.Goals as goal

pub loop-w-init : goal.loop-w-init
loop-w-init c = search into_start

pub loop-w-smaller : goal.loop-w-smaller
loop-w-smaller c = search (wide_less, c.in-Some.ensures.0, c.in-Some.ensures.1)

pub loop-w-preserved : goal.loop-w-preserved
loop-w-preserved c = search (into_again, c.in-Some.ensures.0, c.in-Some.ensures.1)

pub returns : goal.returns
returns c = (search (into_stop, sym c.in_default.ensures), search (into_stop_2, sym c.in_default.ensures))
