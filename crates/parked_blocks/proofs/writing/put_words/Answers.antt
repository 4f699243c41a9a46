use Rattle.std.proofs.Common.{rules, refl}
use Rattle.spec_parked_blocks.proofs.parked_blocks.WriteLaws.{words_none, words_more}
use Rattle.parked_blocks.proofs.writing.put_words.Goals as goal

pub loop-i-init : goal.loop-i-init
loop-i-init c = (search words_none, refl)

pub loop-i-preserved : goal.loop-i-preserved
loop-i-preserved c = (search words_more, search rules)
