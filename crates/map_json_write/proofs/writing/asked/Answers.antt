use Rattle.map_json_write.proofs.AnswerLaws.{asked_scale, asked_map, asked_long, asked_utf8, asked_none}
use Rattle.map_json_write.proofs.writing.asked.Goals as goal

pub returns-then-timescale_bad : goal.returns-then-timescale_bad
returns-then-timescale_bad c = search asked_scale

pub returns-then-map_bad : goal.returns-then-map_bad
returns-then-map_bad c = search asked_map

pub returns-then-path-gt1024 : goal.returns-then-path-gt1024
returns-then-path-gt1024 c = search asked_long

pub returns-then-not-is_utf8 : goal.returns-then-not-is_utf8
returns-then-not-is_utf8 c = search asked_utf8

pub returns : goal.returns
returns c = search asked_none
