use Rattle.map_json_read.proofs.GiveLaws.{ask_scale, ask_list, ask_places, ask_bytes, ask_good}
use Rattle.map_json_read.proofs.reading.said_number.Goals as goal

pub returns-then-timescale_bad : goal.returns-then-timescale_bad
returns-then-timescale_bad c = search ask_scale

pub returns-then-list_bad : goal.returns-then-list_bad
returns-then-list_bad c = search ask_list

pub returns-then-places-lt6144 : goal.returns-then-places-lt6144
returns-then-places-lt6144 c = search ask_places

pub returns-then-bytes-lt1024 : goal.returns-then-bytes-lt1024
returns-then-bytes-lt1024 c = search ask_bytes

pub returns : goal.returns
returns c = search ask_good
