use Rattle.std.proofs.Common.{rules}
use Rattle.files_retime.proofs.PassLaws.{piece_fits, onward_end, onward_fault, onward_turn, answer_to}
use Rattle.files_retime.proofs.pass.pass.Goals as goal

pub returns-then-n-eq0-clause-value : goal.returns-then-n-eq0-clause-value
returns-then-n-eq0-clause-value g c =
    answer_to _ _ _ (λ v e. onward_end _ _ _ c.loop.invariant.0 _ _ v (search rules) (search rules) e) c.end.ensures.value

pub returns-then-fed-ne0-clause-value : goal.returns-then-fed-ne0-clause-value
returns-then-fed-ne0-clause-value g c =
    onward_fault _ _ _ c.loop.invariant.0 _ _ _ _ _ _ _ _ (search rules) (search rules) c.feed-fed.ensures
    (piece_fits c.in_ok-n.n c.read_full.new.buf (search rules)) c.if-fed-ne0.true

pub loop-preserved : goal.loop-preserved
loop-preserved g c = (
  onward_turn _ _ _ c.loop.invariant.0 _ _ _ _ _ _ _ _ (search rules) (search rules) c.feed-fed.ensures
      (piece_fits c.in_ok-n.n c.read_full.new.buf (search rules)) c.if-fed-ne0.false,
  search rules,
  search rules,
)

pub returns-clause-value : goal.returns-clause-value
returns-clause-value g c =
    answer_to _ _ _ (λ v e. onward_end _ _ _ c.loop.invariant.0 _ _ v (search rules) (search rules) e) c.end-2.ensures.value
