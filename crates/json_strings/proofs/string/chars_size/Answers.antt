use mathlib.Core.Path.{refl, sym}
use Rattle.json_strings.proofs.WideLaws.{wide_less}
use Rattle.spec_json.proofs.json.CharsLaws.{size_stop, size_again, size_most, size_fits}
use Rattle.json_strings.proofs.string.chars_size.Goals as goal

pub overflow_add-n : goal.overflow_add-n
overflow_add-n c = record { fits = search (size_fits, c.in-Some.ensures.0, c.in-Some.ensures.1) }

pub loop-w-smaller : goal.loop-w-smaller
loop-w-smaller c = search (wide_less, c.in-Some.ensures.0, c.in-Some.ensures.1)

pub loop-w-preserved : goal.loop-w-preserved
loop-w-preserved c = (search (size_most, c.in-Some.ensures.0, c.in-Some.ensures.1), search (size_again, c.in-Some.ensures.0, c.in-Some.ensures.1))

pub returns : goal.returns
returns c = size_stop _ _ _ 0 c.loop-w.invariant.1 (sym c.in_default.ensures) refl
