use Rattle.spec_json.proofs.json.CharsLaws.{string_none, string_bad, string_some, string_fits}
use mathlib.Core.Path.{sym}
use Rattle.json_strings.proofs.string.string_width.Goals as goal

pub returns-then-get_or-ne34 : goal.returns-then-get_or-ne34
returns-then-get_or-ne34 c = search string_none

pub overflow_add-result : goal.overflow_add-result
overflow_add-result c = record { fits = search (string_fits, c.in-Some.ensures.0) }

pub returns-in-Some : goal.returns-in-Some
returns-in-Some c = search (string_some, c.in-Some.ensures.0, c.in-Some.ensures.1)

pub returns-in-None : goal.returns-in-None
returns-in-None c = search (string_bad, sym c.in-None.ensures)
