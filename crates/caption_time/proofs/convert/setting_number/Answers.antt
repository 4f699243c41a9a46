use Rattle.spec_time.proofs.caption_time.Limits.{setting_15, setting_16, setting_0}
use Rattle.caption_time.proofs.convert.setting_number.Goals as goal

pub returns-then-timescale_bad : goal.returns-then-timescale_bad
returns-then-timescale_bad c = search setting_15

pub returns-then-kind_bad : goal.returns-then-kind_bad
returns-then-kind_bad c = search setting_16

pub returns : goal.returns
returns c = search setting_0
