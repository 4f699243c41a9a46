use Rattle.files_retime.proofs.PassLaws.{answer_to}
use Rattle.files_retime.proofs.WholeLaws.{runs_refused, runs_passed}
use Rattle.files_retime.proofs.whole.run_file.Goals as goal

pub returns-then-opened-ne0-clause-value : goal.returns-then-opened-ne0-clause-value
returns-then-opened-ne0-clause-value g c = runs_refused _ _ _ _ c.open-opened.ensures c.if-opened-ne0.true

pub returns-clause-value : goal.returns-clause-value
returns-clause-value g c =
    answer_to _ _ _ (λ v p. runs_passed _ _ _ _ c.open-opened.ensures v c.if-opened-ne0.false p) c.pass.ensures.value
