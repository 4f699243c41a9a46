-- A session that passes 17 holds a state that fits its kind, and an unfinished line that is short and open.
use mathlib.Core.Path.{◌≡◌, sym, ap, ◌∙◌}
use mathlib.Core.Bool.{false, ◌||◌}
use mathlib.Core.List.{List, []}
use Prim.Native.Nat.{ℕ, suc, ◌≤◌}
use native.Mathlib.Omega.{arith}
use lib.Dec.{ltb}
use lib.ListN.{length}
use borrow.Author.Tests.{ltb-false}
use Rattle.spec_base.specs.base.Limits.{most_line, most_block, most_taken, most_held}
use Rattle.spec_base.proofs.base.Laws.{or_left, or_right}
use Rattle.spec_text.specs.text.Line.{concat, has_lf, line_count}
use Rattle.spec_time.specs.caption_time.Kind.{kind_bad}
use Rattle.spec_time.specs.caption_time.Convert.{timescale_bad}
use Rattle.spec_time.proofs.caption_time.Limits.{by_kind}
use Rattle.spec_ass.specs.declared.ass_columns.Columns.{Columns}
use Rattle.spec_machine.specs.session_counts.Cut.{Cut, closed_lines, unfinished}
use Rattle.spec_machine.specs.session_counts.Session.{Session, config_bad, counts_above, outcome_bad, foreign}
use Rattle.spec_machine.proofs.session_counts.CutLaws.{cut_rest, cut_ends, cut_open, cut_length}
use Rattle.spec_machine.specs.kinds.Kit.{lines_bad, held_bad, columns_bad, kit}
use Rattle.spec_machine.proofs.kinds.ColumnBounds.{Bounded, good_bounded}
use Rattle.spec_machine.proofs.kinds.KindLaws.{held_ass, held_block, Fit}

-- what a kind makes of the columns and of the held bytes
pub record Holds (kind : ℕ) (c : Columns) (held : List ℕ) : Type 0 where
  pub fit : Fit kind (record { columns = c; block = closed_lines held })
  pub short : length (unfinished held) ≤ most_line
  pub open_line : has_lf (unfinished held) ≡ false
  pub few : length held ≤ most_held

module _ (c : Columns) (b : Bounded c) (held : List ℕ) where
  holds_ass : held_bad 0 held ≡ false → Holds 0 c held
  holds_ass e =
      let f : (ltb most_line (length held) || has_lf held) ≡ false = sym (held_ass held) ∙ e in
      let short = ltb-false most_line (length held) (or_left (ltb most_line (length held)) (has_lf held) f) in
      let whole = cut_rest held (or_right (ltb most_line (length held)) (has_lf held) f) in
      let none : closed_lines held ≡ [] = ap (λ (x : Cut ℕ). x.pieces) whole in
      let all : unfinished held ≡ held = ap (λ (x : Cut ℕ). x.rest) whole in
      record {
        fit =
            record {
              bounded = b;
              small = omega (arith, ap (λ (ls : List (List ℕ)). length (concat ls)) none);
              lines = ap (lines_bad 0) none;
              block = none;
            };
        short = omega (arith, ap length all);
        open_line = cut_open held;
        few = omega arith;
      }

  holds_block : (j : ℕ) → held_bad (suc j) held ≡ false → Holds (suc j) c held
  holds_block j e =
      let f = sym (held_block j held) ∙ e in
      let g = or_right (ltb most_block (length (concat (closed_lines held)))) (lines_bad (suc j) (closed_lines held) || ltb most_line (length (unfinished held))) f in
      let small = ltb-false most_block (length (concat (closed_lines held))) (or_left (ltb most_block (length (concat (closed_lines held)))) (lines_bad (suc j) (closed_lines held) || ltb most_line (length (unfinished held))) f) in
      let short = ltb-false most_line (length (unfinished held)) (or_right (lines_bad (suc j) (closed_lines held)) (ltb most_line (length (unfinished held))) g) in
      record {
        fit =
            record {
              bounded = b;
              small = small;
              lines = or_left (lines_bad (suc j) (closed_lines held)) (ltb most_line (length (unfinished held))) g;
              block = cut_ends held;
            };
        short = short;
        open_line = cut_open held;
        few = omega (arith, cut_length held);
      }

  holds : (kind : ℕ) → kind_bad kind ≡ false → held_bad kind held ≡ false → Holds kind c held
  holds kind k e = by_kind (λ i. held_bad i held ≡ false → Holds i c held) holds_ass (holds_block 0) (holds_block 1) kind k e

-- what 17 leaves
pub record Native (s : Session Columns) : Type 0 where
  pub kind_known : kind_bad s.config.kind ≡ false
  pub timescale_good : timescale_bad s.config.timescale ≡ false
  pub taken_few : s.taken ≤ most_taken
  pub counts_few : counts_above s.taken s.counts ≡ false
  pub lines_few : s.lines ≤ s.taken
  pub held_few : length s.held ≤ s.taken
  pub holds : Holds s.config.kind s.known s.held
  pub outcome_good : outcome_bad s.ended s.outcome ≡ false
  pub rows_few : line_count (closed_lines s.held) ≤ s.lines

pub is_native : (s : Session Columns) → foreign kit s ≡ false → Native s
is_native s e =
    let e1 = or_right (config_bad s.config) _ e in
    let e2 = or_right (ltb most_taken s.taken) _ e1 in
    let e3 = or_right (counts_above s.taken s.counts) _ e2 in
    let e4 = or_right (ltb s.taken s.lines) _ e3 in
    let e5 = or_right (ltb s.taken (length s.held)) _ e4 in
    let e6 = or_right (columns_bad s.known || held_bad s.config.kind s.held) _ e5 in
    let e7 = or_left (columns_bad s.known || held_bad s.config.kind s.held) _ e5 in
    let g = or_left (config_bad s.config) _ e in
    let k = or_left (kind_bad s.config.kind) (timescale_bad s.config.timescale) g in
    record {
      kind_known = k;
      timescale_good = or_right (kind_bad s.config.kind) (timescale_bad s.config.timescale) g;
      taken_few = ltb-false most_taken s.taken (or_left (ltb most_taken s.taken) _ e1);
      counts_few = or_left (counts_above s.taken s.counts) _ e2;
      lines_few = ltb-false s.taken s.lines (or_left (ltb s.taken s.lines) _ e3);
      held_few = ltb-false s.taken (length s.held) (or_left (ltb s.taken (length s.held)) _ e4);
      holds =
          holds s.known (good_bounded s.known (or_left (columns_bad s.known) (held_bad s.config.kind s.held) e7)) s.held
          s.config.kind k (or_right (columns_bad s.known) (held_bad s.config.kind s.held) e7);
      outcome_good = or_left (outcome_bad s.ended s.outcome) _ e6;
      rows_few = ltb-false s.lines (line_count (closed_lines s.held)) (or_right (outcome_bad s.ended s.outcome) _ e6);
    }
