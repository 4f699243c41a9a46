use Rattle.std.proofs.Common.{arith, rules}
use Rattle.files_map.proofs.FolderLaws.{path_current, path_short, path_written}
use Rattle.files_map.proofs.file.path_below.Goals as goal

pub returns-then-is_empty : goal.returns-then-is_empty
returns-then-is_empty c = path_current _ _ _ _ _ (search rules) c.put.ensures

pub returns-then-saturating_sub-name : goal.returns-then-saturating_sub-name
returns-then-saturating_sub-name c = path_short _ _ _ (search rules) (omega arith)

pub returns : goal.returns
returns c =
    path_written _ _ _ _ _ _ _ _ _ (search rules) (omega arith) (omega arith) c.put_at-a.ensures c.put_at-b.ensures c.put_at.ensures
