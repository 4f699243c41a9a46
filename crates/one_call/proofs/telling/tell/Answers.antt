use Rattle.spec_base.specs.base.Put.{put}
use Rattle.one_call.proofs.telling.tell.Goals as goal

pub returns : goal.returns
unfolding put
returns c = rw (c.copy_from_slice.ensures.after, c.from.ensures, c.from-2.ensures, c.from-3.ensures, c.from-4.ensures)
