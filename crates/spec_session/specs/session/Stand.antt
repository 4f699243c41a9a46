-- How the loop's numbers and the lent slices stand for the text taken: for the private functions.
use Rattle.std.specs.Prelude.{◌≡◌, Bool, false, ◌&&◌, List, [], ◌++◌, ℕ, ◌+◌, ◌*◌, ◌≤◌, ◌<◌, ◌^◌, eqb, length, take}
use Rattle.spec_base.specs.base.Limits.{most_taken, most_held, most_line, most_block, least_output, least_places}
use Rattle.spec_text.specs.pattern.Find.{equals}
use Rattle.spec_text.specs.text.Line.{concat, line_count}
use Rattle.spec_caption.specs.declared.caption_fate.Config.{Config}
use Rattle.spec_caption.specs.caption_fate.Says.{Part}
use Rattle.spec_machine.specs.declared.session_counts.Counts.{Counts}
use Rattle.spec_machine.specs.session_counts.Counts.{count_all}
use Rattle.spec_machine.specs.session_counts.Cut.{closed_lines, unfinished}
use Rattle.spec_machine.specs.session_counts.Machine.{bom, Run, going, stopped}
use Rattle.spec_machine.specs.session_counts.Session.{emitted}
use Rattle.spec_machine.specs.kinds.Takes.{State}
use Rattle.spec_machine.specs.kinds.Kit.{strange}
use Rattle.spec_session.specs.declared.session_lines.Taken.{Taken}
use Rattle.spec_session.specs.declared.session_lines.Ended.{Ended}
use Rattle.spec_session.specs.session_lines.Done.{Wrote, Below, Parsed}
use Rattle.spec_session.specs.declared.session.Going.{Going}

-- ---- a run as numbers and parts
abbrev pub fault_of : Run State → ℕ
fault_of (going s n h ps) = 0
fault_of (stopped k ps) = k

abbrev pub parts_in : Run State → List Part
parts_in (going s n h ps) = ps
parts_in (stopped k ps) = ps

-- held: the open block's bytes up to `start`, then the unfinished line
pub record Holds (s : State) (n : ℕ) (h : List ℕ) (r : Going) (held : List ℕ) : Type 0 where
  pub lines : r.lines ≡ n
  pub columns : r.columns ≡ s.columns
  pub start : r.start ≡ length (concat s.block)
  pub count : r.held ≡ length (concat s.block ++ h)
  pub bytes : take r.held held ≡ concat s.block ++ h

abbrev pub HoldsIn : Run State → Going → List ℕ → Type 0
HoldsIn (going s n h ps) r held = Holds s n h r held
HoldsIn (stopped k ps) r held = Unit {0}

-- t: the counts, o and w: the buffers, when the call began
pub record Shows (c : Config) (m : List ℕ) (t : Counts) (q : Run State) (o w : List ℕ) (r : Going) (held out places : List ℕ) : Type 0 where
  pub number : r.number ≡ fault_of q
  pub counts : r.counts ≡ count_all t (emitted c m (parts_in q))
  pub wrote : Wrote c m (parts_in q) r.written r.warned o out w places
  pub holds : HoldsIn q r held

-- the open block's bytes are its lines, while the text goes on
abbrev pub ParsedIn : (ass : Bool) → Run State → Type 0
ParsedIn a (going s n h ps) = Parsed a s.block
ParsedIn a (stopped k ps) = eqb k 0 ≡ false

-- ---- room, by the lengths of the three slices
-- for a line that ends where the held bytes end
pub record Room (r : Going) (held out places : ℕ) : Type 0 where
  pub size : held ≡ most_held
  pub order : r.start ≤ r.held
  pub block : r.start ≤ most_block
  pub line : r.held ≤ r.start + most_line
  pub text : r.written + 3 * r.held ≤ out
  pub warnings : r.warned + 4 ≤ places
  pub lines : r.lines ≤ 2 ^ 31
  pub counts : Below r.counts (2 ^ 31)

-- for one more byte
pub record ByteRoom (r : Going) (held out places : ℕ) : Type 0 where
  pub size : held ≡ most_held
  pub order : r.start ≤ r.held
  pub block : r.start ≤ most_block
  pub line : r.held ≤ r.start + most_line
  pub text : r.written + 3 * (r.held + 1) ≤ out
  pub warnings : r.warned + 4 ≤ places
  pub lines : r.lines ≤ 2 ^ 31
  pub counts : Below r.counts (2 ^ 31)

-- for the end of the block
pub record CloseRoom (r : Going) (held out places : ℕ) : Type 0 where
  pub number : r.number ≡ 0
  pub block : r.start ≤ held
  pub text : r.written + 3 * r.start ≤ out
  pub warnings : r.warned + 4 ≤ places
  pub lines : r.lines ≤ 2 ^ 31
  pub counts : Below r.counts (2 ^ 31)

-- a call begins: what 17 and 16 leave
pub record Opening (c : Config) (r : Going) (held : List ℕ) (out places : ℕ) : Type 0 where
  pub number : r.number ≡ 0
  pub written : r.written ≡ 0
  pub warned : r.warned ≡ 0
  pub start : r.start ≡ length (concat (closed_lines (take r.held held)))
  pub size : length held ≡ most_held
  pub count : r.held ≤ most_held
  pub sane : strange c.kind r.columns (take r.held held) ≡ false
  pub rows : line_count (closed_lines (take r.held held)) ≤ r.lines
  pub out_long : least_output ≤ out
  pub places_long : least_places ≤ places
  pub lines : r.lines ≤ most_taken
  pub counts : Below r.counts most_taken

-- what is held, as the text is taken on from it
abbrev pub resume_at : Going → List ℕ → Run State
resume_at r held =
    going (record { columns = r.columns; block = closed_lines (take r.held held) }) r.lines (unfinished (take r.held held)) []

-- ---- the loop's numbers, changed
abbrev pub stopped_at : Going → ℕ → Going
stopped_at r k =
    record {
      number = k;
      lines = r.lines;
      counts = r.counts;
      columns = r.columns;
      start = r.start;
      held = r.held;
      written = r.written;
      warned = r.warned;
    }

abbrev pub holding_to : Going → ℕ → Going
holding_to r m =
    record {
      number = r.number;
      lines = r.lines;
      counts = r.counts;
      columns = r.columns;
      start = r.start;
      held = m;
      written = r.written;
      warned = r.warned;
    }

-- after a line, with an open block of e bytes
abbrev pub lined_to : Going → Taken → ℕ → Going
lined_to r t e =
    record {
      number = 0;
      lines = r.lines + 1;
      counts = t.counts;
      columns = t.columns;
      start = e;
      held = e;
      written = r.written + t.written;
      warned = r.warned + t.warned;
    }

-- after the end of a block
abbrev pub closing_to : Going → Ended → Going
closing_to r e =
    record {
      number = e.number;
      lines = r.lines;
      counts = e.counts;
      columns = r.columns;
      start = r.start;
      held = r.held;
      written = r.written + e.written;
      warned = r.warned + e.warned;
    }

-- after a BOM alone
abbrev pub bom_to : Going → Going
bom_to r =
    record {
      number = r.number;
      lines = r.lines;
      counts = r.counts;
      columns = r.columns;
      start = r.start;
      held = r.held;
      written = 3;
      warned = r.warned;
    }

-- a byte that only joins the unfinished line, of which k bytes are held
pub record Joins (number k b : ℕ) : Type 0 where
  pub live : number ≡ 0
  pub room : k < most_line
  pub no_end : b ≡ 10 → ⊥

-- the text is a BOM with no line
unfoldable pub bom_alone_of : (n : ℕ) → List ℕ → Bool
bom_alone_of n l = eqb n 0 && equals bom l
