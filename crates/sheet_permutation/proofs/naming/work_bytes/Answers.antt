use Rattle.spec_sheet.specs.sheet_permutation.Once.{work_bytes}
use borrow.Author.Rules.{rules}
use Rattle.sheet_permutation.proofs.naming.work_bytes.Goals as goal

pub returns : goal.returns
unfolding work_bytes
returns c = search rules
