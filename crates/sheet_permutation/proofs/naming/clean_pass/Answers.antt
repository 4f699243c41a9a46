use native.Mathlib.Omega.{arith}
use Rattle.spec_sheet.proofs.sheet_permutation.NamingLaws.{clear_now, clear_all}
use borrow.Author.Rules.{rules}
use Rattle.sheet_permutation.proofs.naming.clean_pass.Goals as goal

pub pass_by_layout-f-requires : goal.pass_by_layout-f-requires
pass_by_layout-f-requires c = let e = c.fill.ensures.after (λ y h. h) in (omega arith, search clear_now)

pub returns : goal.returns
returns c = let e = c.fill-2.ensures.after (λ y h. h) in (search rules, search clear_all)
