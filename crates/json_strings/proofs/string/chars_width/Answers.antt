use mathlib.Core.Path.{refl, sym, ap, ◌∙◌}
use native.Mathlib.Omega.{arith}
use Rattle.spec_json.proofs.json.CharsLaws.{at_closed, at_stop, chars_again, chars_in, chars_fits}
use Rattle.spec_json.specs.json.Str.{char_wide}
use Rattle.json_strings.proofs.WideLaws.{wide_further}
use Rattle.json_strings.proofs.string.chars_width.Goals as goal

pub overflow_add-at : goal.overflow_add-at
overflow_add-at c = record { fits = search (chars_fits, c.in-Some.ensures.0) }

pub loop-w-smaller : goal.loop-w-smaller
loop-w-smaller c = search (wide_further, c.in-Some.ensures.0, c.in-Some.ensures.1)

pub loop-w-preserved : goal.loop-w-preserved
loop-w-preserved c = (search (chars_in, c.in-Some.ensures.0), search (chars_again, c.in-Some.ensures.0, c.in-Some.ensures.1))

pub returns-then-get_or-eq34 : goal.returns-then-get_or-eq34
returns-then-get_or-eq34 c =
    (at_closed _ _ 0 c.loop-w.invariant.1 (sym c.in_default.ensures) refl (sym c.get_or.ensures ∙ c.if-get_or-eq34.true), λ z. omega arith)

pub returns-else-get_or-eq34 : goal.returns-else-get_or-eq34
returns-else-get_or-eq34 c =
    sym (at_stop _ _ 0 c.loop-w.invariant.1 (sym c.in_default.ensures) refl (λ q. c.if-get_or-eq34.false (c.get_or.ensures ∙ q)))
