use Rattle.std.proofs.Common.{◌≡◌, length, arith, rules}
use Rattle.spec_text.proofs.text.LineLaws.{line_le, line_less}
use Rattle.files_why.proofs.page.print_lines.Goals as goal

pub split_at-requires : goal.split_at-requires
split_at-requires g c = search (arith, line_le)

pub loop-t-smaller : goal.loop-t-smaller
loop-t-smaller g c =
    let k : length c.loop-t.t.now ≡ 0 → ⊥ = search rules in
    line_less _ _ _ c.line_length.ensures (omega (arith, k)) (search rules)
