use Rattle.std.proofs.Common.{refl}
use Rattle.files_retime.proofs.WholeLaws.{retimes_large, retimes_refused, retimes_run}
use Rattle.files_retime.proofs.whole.retimed.Goals as goal

pub returns-then-sheet-gt65536-clause-value : goal.returns-then-sheet-gt65536-clause-value
returns-then-sheet-gt65536-clause-value g c = retimes_large _ _ c.if-sheet-gt65536.true

pub returns-then-made-ne0-clause-value : goal.returns-then-made-ne0-clause-value
returns-then-made-ne0-clause-value g c =
    retimes_refused _ _ _ _ _ c.make-made.ensures.value refl refl c.if-sheet-gt65536.false c.if-made-ne0.true

pub returns-in_ok-run-clause-value : goal.returns-in_ok-run-clause-value
returns-in_ok-run-clause-value g c =
    retimes_run _ _ _ _ _ c.make-made.ensures.value refl refl c.if-sheet-gt65536.false c.if-made-ne0.false _ _ _ c.make-made.ensures.map_after
    c.first_segments-kept.ensures _ c.in_ok-number.ensures.value

pub returns-else-number-eq0-clause-value : goal.returns-else-number-eq0-clause-value
returns-else-number-eq0-clause-value g c =
    retimes_run _ _ _ _ _ c.make-made.ensures.value refl refl c.if-sheet-gt65536.false c.if-made-ne0.false _ _ _ c.make-made.ensures.map_after
    c.first_segments-kept.ensures _ c.in_ok-number.ensures.value
