-- An empty piece changes nothing, whatever session it is fed to.
use mathlib.Core.Path.{◌≡◌, refl}
use mathlib.Core.List.{[]}
use Rattle.spec_ass.specs.declared.ass_columns.Columns.{Columns}
use Rattle.spec_machine.specs.session_counts.Session.{Session, Lent, feed, answer}
use Rattle.spec_machine.proofs.session_counts.CutLaws.{cut_joined}
use Rattle.spec_machine.proofs.session_counts.Empty
use Rattle.spec_machine.specs.kinds.Kit.{kit}

pub empty_piece_lem : (s : Session Columns) (l : Lent) → (answer kit s (feed l [])).session ≡ s
empty_piece_lem s l = Empty.empty_piece_lem kit (λ k h. cut_joined h) (λ k h. refl) s l
