use Rattle.std.proofs.Common.{◌≡◌, ◌+◌, ◌*◌, ℕ, sym, ap, ◌∙◌, drop, arith}
use Rattle.spec_text.specs.pattern.Find.{first}
use Rattle.spec_trim.specs.trim.Token.{mark}
use Rattle.spec_trim.proofs.trim.MarkLaws.{mark_found, mark_two, mark_none}
use Rattle.trim.proofs.ReadingLaws.{mark_behind, mark_skipped}
use Rattle.trim.proofs.list.next_mark.Goals as goal
use Rattle.trim.proofs.list.next_mark.Goals.{then-s-i-eq43+else-s-i-eq43-2+else-get_or-eq43, else-s-i-eq43}

pub returns-then-s-i-eq43-2 : goal.returns-then-s-i-eq43-2
returns-then-s-i-eq43-2 c = mark_found _ _ c.loop-k.invariant.1 (omega arith) c.if-s-i-eq43.true c.if-s-i-eq43-2.true

pub returns-then-get_or-eq43 : goal.returns-then-get_or-eq43
returns-then-get_or-eq43 c = mark_behind _ _ c.loop-k.invariant.1 (omega arith) c.if-s-i-eq43-2.false c.if-s-i-eq43.true (sym c.get_or.ensures ∙ c.if-get_or-eq43.true)

pub loop-k-preserved : goal.loop-k-preserved
loop-k-preserved c =
    let e : 2 * c.loop-k.k + 2 ≡ 2 * (c.loop-k.k + 1) = omega arith in
    let p : first mark c.args.s.now ≡ 2 * c.loop-k.k + 2 + first mark (drop (2 * c.loop-k.k + 2) c.args.s.now) =
    elim c.if-s-i-eq43.branch [
      | then-s-i-eq43+else-s-i-eq43-2+else-get_or-eq43 w ↦ mark_skipped _ _ c.loop-k.invariant.1 (omega arith) w.if-s-i-eq43-2.false (λ q. w.if-get_or-eq43.false (w.get_or.ensures ∙ q))
      | else-s-i-eq43 w ↦ mark_two _ _ c.loop-k.invariant.1 (omega arith) w.if-s-i-eq43.false
    ] in
    (omega arith, p ∙ ap (λ (j : ℕ). j + first mark (drop j c.args.s.now)) e)

pub returns : goal.returns
returns c = mark_none _ _ c.loop-k.invariant.1 c.loop-k.invariant.0 (omega arith)
