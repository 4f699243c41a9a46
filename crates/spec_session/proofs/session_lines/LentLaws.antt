-- 16: what is lent for a line or a block.
use mathlib.Core.Path.{◌≡◌, sym, ◌∙◌}
use mathlib.Core.Bool.{Bool, true, false, ◌||◌}
use mathlib.Core.List.{List, []}
use Prim.Native.Nat.{ℕ, ◌/◌, ◌*◌, ◌≤◌, ◌<◌}
use native.Mathlib.Omega.{arith}
use lib.Dec.{ltb}
use lib.ListN.{length, take, drop}
use borrow.Author.Tests.{lt-ltb, le-ltb, ltb-false}
use Rattle.spec_base.proofs.base.Laws.{or_left, or_right}
use Rattle.spec_text.specs.text.Line.{lines_of}
use Rattle.spec_map.specs.declared.segment.Segment.{Segment}
use Rattle.spec_caption.specs.declared.caption_fate.Config.{Config}
use Rattle.spec_ass.specs.declared.ass_columns.Columns.{Columns}
use Rattle.spec_cue.specs.block_timing.Style.{style_of}
use Rattle.spec_cue.specs.block_timing.Header.{header_due}
use Rattle.spec_machine.specs.declared.session_counts.Counts.{Counts}
use Rattle.spec_machine.specs.session_counts.Machine.{take_line}
use Rattle.spec_machine.specs.session_counts.Session.{counts_above}
use Rattle.spec_machine.specs.kinds.Takes.{blank_state, closes, machine_of}
use Rattle.spec_session.specs.declared.session_lines.Taken.{Taken}
use Rattle.spec_session.specs.declared.session_lines.Ended.{Ended}
use Rattle.spec_session.specs.session_lines.LinesThrough.{answer_in, taken_in, most_count, lent_bad, end_in, state_of, bom_size, take_in, EndTells, LineTells}
use Rattle.spec_session.specs.session_lines.Told.{quiet_line, quiet_end}
use Rattle.spec_session.specs.session_lines.Done.{Below, Ample}
use Rattle.spec_session.proofs.session_lines.TellLaws.{end_refused, line_refused}

pub none_above : (k : ℕ) (t : Counts) → counts_above k t ≡ false → Below t k
none_above k t e =
    let a = or_right (ltb k t.shifted) _ e in
    let b = or_right (ltb k t.clipped) _ a in
    record {
      shifted = ltb-false k t.shifted (or_left (ltb k t.shifted) _ e);
      clipped = ltb-false k t.clipped (or_left (ltb k t.clipped) _ a);
      dropped = ltb-false k t.dropped (or_left (ltb k t.dropped) _ b);
      passed = ltb-false k t.passed (or_right (ltb k t.dropped) _ b);
    }

module _ (t : Counts) (k room places : ℕ) where
  pub short_room : room / 3 < k → true ≡ lent_bad t k room places
  unfolding lent_bad
  short_room h = rw (lt-ltb room (3 * k) (omega arith))

  pub few_places : k ≤ room / 3 → places < 4 → true ≡ lent_bad t k room places
  unfolding lent_bad
  few_places h i = rw (le-ltb room (3 * k) (omega arith), lt-ltb places 4 i)

  pub high_count : (b : Bool) → k ≤ room / 3 → 4 ≤ places → b ≡ counts_above most_count t → b ≡ lent_bad t k room places
  unfolding lent_bad
  high_count b h i e = rw (le-ltb room (3 * k) (omega arith), le-ltb places 4 i) e

  lent_good : lent_bad t k room places ≡ false → Ample t k room places
  unfolding lent_bad
  lent_good e =
      let a = or_right (ltb room (3 * k)) (ltb places 4 || counts_above most_count t) e in
      record {
        counts = none_above most_count t (or_right (ltb places 4) (counts_above most_count t) a);
        room_long = ltb-false room (3 * k) (or_left (ltb room (3 * k)) _ e);
        places_long = ltb-false places 4 (or_left (ltb places 4) (counts_above most_count t) a);
      }

  pub lent_fine : Ample t k room places → lent_bad t k room places ≡ false
  unfolding lent_bad
  lent_fine g =
      rw (
        le-ltb room (3 * k) g.room_long,
        le-ltb places 4 g.places_long,
        le-ltb most_count t.shifted g.counts.shifted,
        le-ltb most_count t.clipped g.counts.clipped,
        le-ltb most_count t.dropped g.counts.dropped,
        le-ltb most_count t.passed g.counts.passed,
      )

-- ---- the calls
module _ (c : Config) (m : List Segment) (n : ℕ) (t : Counts) where
  module _ (b : List ℕ) (r : Ended) (o o' w w' : List ℕ) (v : Bool) (e : v ≡ lent_bad t (length b) (length o) (length w)) where
    pub end_16 : v ≡ true → r ≡ quiet_end 16 t → EndTells (end_in c m n t b (length o) (length w)) t r o o w w
    unfolding end_in
    end_16 f q = let g : lent_bad t (length b) (length o) (length w) ≡ true = sym e ∙ f in rw g (end_refused t 16 r o w q)

    pub end_24 : v ≡ false → (d : Bool) → d ≡ header_due c.kind n (lines_of b) → d ≡ true → r ≡ quiet_end 24 t → EndTells (end_in c m n t b (length o) (length w)) t r o o w w
    unfolding end_in
    end_24 f d ed y q =
        let g : lent_bad t (length b) (length o) (length w) ≡ false = sym e ∙ f in
        let z : header_due c.kind n (lines_of b) ≡ true = sym ed ∙ y in
        rw (g, z) (end_refused t 24 r o w q)

    pub end_lent : v ≡ false → (d : Bool) → d ≡ header_due c.kind n (lines_of b) → d ≡ false → EndTells (answer_in c m (closes (style_of c.kind) blank_state n (lines_of b) [])) t r o o' w w' → EndTells (end_in c m n t b (length o) (length w)) t r o o' w w'
    unfolding end_in
    end_lent f d ed y q =
        let g : lent_bad t (length b) (length o) (length w) ≡ false = sym e ∙ f in
        let z : header_due c.kind n (lines_of b) ≡ false = sym ed ∙ y in
        rw (g, z) q

  module _ (k : Columns) (held : List ℕ) (s : ℕ) (r : Taken) (o o' w w' : List ℕ) where
    pub line_past : length held < s → r ≡ quiet_line 16 false t k → LineTells (take_in c m n t k held s (length o) (length w)) t r o o w w
    unfolding take_in
    line_past h q = rw (lt-ltb (length held) s h) (line_refused t 16 k r o w q)

    module _ (v : Bool) (e : v ≡ lent_bad t (length held) (length o) (length w)) (h : s ≤ length held) where
      pub line_16 : v ≡ true → r ≡ quiet_line 16 false t k → LineTells (take_in c m n t k held s (length o) (length w)) t r o o w w
      unfolding take_in
      line_16 f q =
          let g : lent_bad t (length held) (length o) (length w) ≡ true = sym e ∙ f in
          rw (le-ltb (length held) s h, g) (line_refused t 16 k r o w q)

      pub line_lent : v ≡ false
          → LineTells (taken_in c m k (bom_size n (drop s held)) (take_line (machine_of c.kind) (state_of c.kind k (take s held)) n (drop s held))) t r o o' w w'
          → LineTells (take_in c m n t k held s (length o) (length w)) t r o o' w w'
      unfolding take_in
      line_lent f q = let g : lent_bad t (length held) (length o) (length w) ≡ false = sym e ∙ f in rw (le-ltb (length held) s h, g) q

pub lent_asked : (t : Counts) (k room places : ℕ) (v : Bool) → v ≡ lent_bad t k room places → v ≡ false → Ample t k room places
lent_asked t k room places v e f = lent_good t k room places (sym e ∙ f)
