use mathlib.Core.Path.{refl}
use Rattle.number_lines.proofs.LineLaws.{fits_next, fits_not, fits_last}
use Rattle.number_lines.proofs.writing.fits.Goals as goal

pub loop-n-init : goal.loop-n-init
loop-n-init c = refl

pub returns-then-left-w : goal.returns-then-left-w
returns-then-left-w c = search fits_not

pub loop-n-preserved : goal.loop-n-preserved
loop-n-preserved c = search fits_next

pub returns : goal.returns
returns c = search fits_last
