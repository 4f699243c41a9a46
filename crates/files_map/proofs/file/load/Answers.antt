use Rattle.std.proofs.Common.{arith}
use Rattle.files_map.proofs.FolderLaws.{none_held, file_held}
use Rattle.files_map.proofs.file.load.Goals as goal

pub returns-in_default : goal.returns-in_default
returns-in_default g c = none_held

pub returns : goal.returns
returns g c =
    file_held _ c.read_full.new.buf _ c.in_ok-n.n _ c.front.ensures c.put-length.ensures (omega (arith, c.in_ok-n.ensures.bound))
