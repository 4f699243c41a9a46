use Rattle.spec_json.proofs.json.StringLaws.{piece_one, piece_two, piece_three, piece_four}
use Rattle.json_strings.proofs.piece.encoded.Goals as goal

pub returns-then-u-lt128 : goal.returns-then-u-lt128
returns-then-u-lt128 c = search piece_one

pub returns-then-u-lt2048 : goal.returns-then-u-lt2048
returns-then-u-lt2048 c = search piece_two

pub returns-then-u-lt65536 : goal.returns-then-u-lt65536
returns-then-u-lt65536 c = search piece_three

pub returns : goal.returns
returns c = search piece_four
