use mathlib.Core.Path.{refl}
use native.Mathlib.Omega.{arith}
use Rattle.std.proofs.lemmas.Result.{err_from_is_err_and}
use Rattle.refusals.proofs.Laws.{refused_not_0}
use Rattle.spec_map.proofs.segmap.KeptLaws.{kept_overlap, kept_range, kept_over, kept_sound, kept_copied}
use Rattle.trim.proofs.ReadingLaws.{front_written}
use Rattle.segmap.proofs.whole.keep.Goals as goal

pub returns-in_err-overlap-clause-value : goal.returns-in_err-overlap-clause-value
returns-in_err-overlap-clause-value c = let p = err_from_is_err_and c.from_residual.result c.from_residual.ensures.1 in rw (p.1, p.2) (search (kept_overlap, refused_not_0, c.in_err-overlap.ensures))

pub returns-in_err-overlap-clause-map_after : goal.returns-in_err-overlap-clause-map_after
returns-in_err-overlap-clause-map_after c = let p = err_from_is_err_and c.from_residual.result c.from_residual.ensures.1 in rw (p.1, p.2) (λ z. absurd (refused_not_0 _ z))

pub returns-in_err-overlap-clause-map_unchanged : goal.returns-in_err-overlap-clause-map_unchanged
returns-in_err-overlap-clause-map_unchanged c = λ z. refl

pub returns-in_err-ranges_fault-clause-value : goal.returns-in_err-ranges_fault-clause-value
returns-in_err-ranges_fault-clause-value c = let p = err_from_is_err_and c.from_residual-in_err-ranges_fault.result c.from_residual-in_err-ranges_fault.ensures.1 in rw (p.1, p.2) (search (kept_range, refused_not_0, c.in_ok-overlap.ensures, c.in_err-ranges_fault.ensures))

pub returns-in_err-ranges_fault-clause-map_after : goal.returns-in_err-ranges_fault-clause-map_after
returns-in_err-ranges_fault-clause-map_after c = let p = err_from_is_err_and c.from_residual-in_err-ranges_fault.result c.from_residual-in_err-ranges_fault.ensures.1 in rw (p.1, p.2) (λ z. absurd (refused_not_0 _ z))

pub returns-in_err-ranges_fault-clause-map_unchanged : goal.returns-in_err-ranges_fault-clause-map_unchanged
returns-in_err-ranges_fault-clause-map_unchanged c = λ z. refl

pub returns-then-sum-gt-MOST_TICKS-clause-value : goal.returns-then-sum-gt-MOST_TICKS-clause-value
returns-then-sum-gt-MOST_TICKS-clause-value c = search (kept_over, c.in_ok-overlap.ensures, c.in_ok-ranges_fault.ensures)

pub returns-then-sum-gt-MOST_TICKS-clause-map_after : goal.returns-then-sum-gt-MOST_TICKS-clause-map_after
returns-then-sum-gt-MOST_TICKS-clause-map_after c = λ z. absurd (omega arith)

pub returns-then-sum-gt-MOST_TICKS-clause-map_unchanged : goal.returns-then-sum-gt-MOST_TICKS-clause-map_unchanged
returns-then-sum-gt-MOST_TICKS-clause-map_unchanged c = λ z. refl

pub returns-clause-value : goal.returns-clause-value
returns-clause-value c = search (kept_sound, c.in_ok-overlap.ensures, c.in_ok-ranges_fault.ensures)

pub returns-clause-map_after : goal.returns-clause-map_after
returns-clause-map_after c = λ z. kept_copied _ _ _ _ _ _ c.args.count c.requires.3 c.build-sum.ensures.map_after (front_written _ _ _ _ c.copy_from_slice.ensures.after (omega arith))

pub returns-clause-map_unchanged : goal.returns-clause-map_unchanged
returns-clause-map_unchanged c = λ h. absurd (h refl)
