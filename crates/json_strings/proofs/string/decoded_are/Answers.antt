use mathlib.Core.Path.{refl, sym, ◌∙◌}
use Rattle.spec_json.proofs.json.CharsLaws.{are_stop}
use Rattle.json_strings.proofs.WideLaws.{wide_less, stripped_none, stripped_some}
use Rattle.json_strings.proofs.string.decoded_are.Goals as goal

pub returns-in-None : goal.returns-in-None
returns-in-None c = search (stripped_none, c.in-Some.ensures.0, c.in-Some.ensures.1, c.in-None.ensures)

pub loop-w-smaller : goal.loop-w-smaller
loop-w-smaller c = search (wide_less, c.in-Some.ensures.0, c.in-Some.ensures.1)

pub loop-w-preserved : goal.loop-w-preserved
loop-w-preserved c = search (stripped_some, c.in-Some.ensures.0, c.in-Some.ensures.1, c.in-Some-char_stripped.ensures.0, c.in-Some-char_stripped.ensures.1)

pub returns : goal.returns
returns c = c.is_empty.ensures ∙ are_stop _ _ _ _ 0 c.loop-w.invariant (sym c.in_default.ensures) refl
