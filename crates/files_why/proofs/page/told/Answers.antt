use Rattle.std.proofs.Common.{refl}
use Rattle.files_why.proofs.PageLaws.{page_large, page_refused, page_long, page_told}
use Rattle.files_why.proofs.page.told.Goals as goal

pub returns-then-sheet-gt65536-clause-value : goal.returns-then-sheet-gt65536-clause-value
returns-then-sheet-gt65536-clause-value g c = page_large _ _ _ c.if-sheet-gt65536.true

pub returns-then-made-ne0-clause-value : goal.returns-then-made-ne0-clause-value
returns-then-made-ne0-clause-value g c = page_refused _ _ _ _ _ _ c.make-made.ensures.value refl refl c.if-sheet-gt65536.false c.if-made-ne0.true

pub returns-then-times-gt65536-clause-value : goal.returns-then-times-gt65536-clause-value
returns-then-times-gt65536-clause-value g c =
    page_long _ _ _ _ _ _ c.make-made.ensures.value refl refl c.if-sheet-gt65536.false c.if-made-ne0.false c.if-times-gt65536.true

pub returns-clause-value : goal.returns-clause-value
returns-clause-value g c =
    page_told _ _ _ _ _ _ c.make-made.ensures.value refl refl c.if-sheet-gt65536.false c.if-made-ne0.false c.if-times-gt65536.false
