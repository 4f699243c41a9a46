use Rattle.spec_json.proofs.json.CharsLaws.{string_short, string_short_2, string_room, string_count, string_written}
use Rattle.json_strings.proofs.string.string_bytes.Goals as goal

pub returns-then-out-string_size : goal.returns-then-out-string_size
returns-then-out-string_size c = (search string_short, search string_short_2)

pub chars_into-requires : goal.chars_into-requires
chars_into-requires c = search string_room

pub returns : goal.returns
returns c = (search string_count, search string_written)
