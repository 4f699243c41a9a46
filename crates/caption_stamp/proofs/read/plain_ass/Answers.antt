use Rattle.caption_stamp.proofs.PlainLaws.{if_some, read_ass}
use Rattle.caption_stamp.proofs.read.plain_ass.Goals as goal

pub returns : goal.returns
returns c =
    if_some _ (λ v p. read_ass c.args.t.now _ _ _ _ v c.if-t-ne10.false c.if-t-ne58.false c.if-t-ne58-2.false c.if-t-ne46.false c.in_ok-h.ensures c.in_ok-m.ensures c.in_ok-s.ensures c.in_ok-f.ensures p) c.parts_units.ensures
