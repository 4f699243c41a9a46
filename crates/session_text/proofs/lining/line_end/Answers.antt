use Rattle.std.proofs.Common.{◌+◌, refl, arith}
use Rattle.spec_session.specs.session_text.Lined.{LineEnd}
use Rattle.spec_session.proofs.session_text.StartLaws.{end_none, end_open, line_last, end_closed}
use Rattle.session_text.proofs.lining.line_end.Goals as goal
use Rattle.session_text.proofs.lining.line_end.Goals.{else-k-ne0-via-then-k-ne0+else-line-k-eq10, else-k-ne0-via-else-k-ne0}

pub bounds-line-k : goal.bounds-line-k
bounds-line-k c = search line_last

pub returns-then-line-k-eq10 : goal.returns-then-line-k-eq10
returns-then-line-k-eq10 c =
    let e : LineEnd c.args.text.now c.args.i (c.args.i + c.line_length-k.result) = search end_closed depth 12 in
    e.closed (λ z. c.if-k-ne0.true (omega (arith, z)))

pub returns-else-k-ne0 : goal.returns-else-k-ne0
returns-else-k-ne0 c = elim c.else-k-ne0.branch [
  | else-k-ne0-via-then-k-ne0+else-line-k-eq10 w ↦ let e : LineEnd c.args.text.now c.args.i 0 = search end_open depth 12 in e.none refl
  | else-k-ne0-via-else-k-ne0 w ↦ let e : LineEnd c.args.text.now c.args.i 0 = search end_none depth 12 in e.none refl
]
