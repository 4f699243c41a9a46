use native.Mathlib.Omega.{arith}
use mathlib.Core.Path.{refl}
use Rattle.std.proofs.lemmas.Result.{err_from_is_err_and}
use Rattle.refusals.proofs.Laws.{refused_not_0}
use Rattle.spec_trim.proofs.trim.ReadLaws.{short_told, short_kept, parse_told, parse_kept, parse_filled}
use Rattle.trim.proofs.ReadingLaws.{front_written}
use Rattle.trim.proofs.list.parse.Goals as goal

pub returns-then-ranges-lt-MOST_PLACES-clause-value : goal.returns-then-ranges-lt-MOST_PLACES-clause-value
returns-then-ranges-lt-MOST_PLACES-clause-value c = search short_told

pub returns-then-ranges-lt-MOST_PLACES-clause-ranges_after : goal.returns-then-ranges-lt-MOST_PLACES-clause-ranges_after
returns-then-ranges-lt-MOST_PLACES-clause-ranges_after c = search short_kept

pub returns-in_err-count-clause-value : goal.returns-in_err-count-clause-value
returns-in_err-count-clause-value c = let p = err_from_is_err_and c.from_residual.result c.from_residual.ensures.1 in rw (p.1, p.2) (parse_told _ _ _ c.if-ranges-lt-MOST_PLACES.false c.in_err-count.ensures.value)

pub returns-in_err-count-clause-ranges_after : goal.returns-in_err-count-clause-ranges_after
returns-in_err-count-clause-ranges_after c = parse_kept _ _ _ c.if-ranges-lt-MOST_PLACES.false c.in_err-count.ensures.value (refused_not_0 _)

pub returns-clause-value : goal.returns-clause-value
returns-clause-value c = parse_told _ _ _ c.if-ranges-lt-MOST_PLACES.false c.in_ok-count.ensures.value

pub returns-clause-ranges_after : goal.returns-clause-ranges_after
returns-clause-ranges_after c = let e = c.in_ok-count.ensures in parse_filled _ _ _ _ _ _ c.if-ranges-lt-MOST_PLACES.false e.value refl e.ranges_after (front_written _ _ _ _ c.copy_from_slice.ensures.after (omega arith))
