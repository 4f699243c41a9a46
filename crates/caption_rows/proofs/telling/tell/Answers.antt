use Rattle.spec_base.proofs.base.PutLaws.{put_two}
use Rattle.caption_rows.proofs.telling.tell.Goals as goal

pub returns : goal.returns
returns c = search put_two
