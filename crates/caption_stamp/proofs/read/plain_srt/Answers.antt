use Rattle.caption_stamp.proofs.PlainLaws.{if_some, read_srt}
use Rattle.caption_stamp.proofs.read.plain_srt.Goals as goal

pub returns : goal.returns
returns c =
    if_some _ (λ v p. read_srt c.args.t.now _ _ _ _ _ v c.if-t-ne12.false c.if-t-ne58.false c.if-t-ne58-2.false c.if-t-ne44.false c.in_ok-h.ensures c.in_ok-m.ensures c.in_ok-s.ensures c.in_ok-x.ensures c.in_ok-y.ensures p) c.parts_units.ensures
