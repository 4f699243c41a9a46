use mathlib.Core.Path.{◌∙◌}
use Rattle.parked_blocks.proofs.Parts.{word_put}
use Rattle.parked_blocks.proofs.writing.put_word.Goals as goal

pub returns : goal.returns
returns c = word_put _ _ _ _ (c.copy_from_slice.ensures.after ∙ c.to_le_bytes.ensures)
