use mathlib.Core.Path.{refl}
use borrow.Author.Rules.{rules}
use Rattle.number_lines.proofs.LineLaws.{next_room, next_fits, next_place, next_put, next_long, last_place, last_put}
use Rattle.number_lines.proofs.writing.numbers_at.Goals as goal

pub loop-n-init : goal.loop-n-init
loop-n-init c = (search rules, refl, refl, refl)

pub spaced_at-p-requires : goal.spaced_at-p-requires
spaced_at-p-requires c = search next_room

pub loop-n-preserved : goal.loop-n-preserved
loop-n-preserved c = (search next_fits, search next_place, search next_put, search next_long)

pub returns : goal.returns
returns c = (search last_place, search last_put)
