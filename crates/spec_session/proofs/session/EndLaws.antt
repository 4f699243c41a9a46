-- A finish: the end of the open block, a BOM alone, and the last line before the end.
use mathlib.Core.Path.{◌≡◌, refl, sym, ap, subst, ◌∙◌}
use mathlib.Core.Bool.{Bool, true, false, ◌&&◌, cond, true≢false}
use mathlib.Core.List.{List, [], ◌∷◌, ◌++◌, append-nil}
use Prim.Native.Nat.{ℕ, zero, suc, ◌+◌, ◌-◌, ◌≤◌, ◌<◌}
use native.Mathlib.Omega.{arith}
use lib.Dec.{eqb}
use lib.ListN.{length, take, drop, length-append, length-take}
use lib.Seq.{take-take, length-take-le}
use borrow.Author.Tests.{eq-eqb, ne_eqb, eqb-false}
use Rattle.spec_base.specs.base.Limits.{most_block}
use Rattle.spec_base.specs.base.Put.{put, placed}
use Rattle.spec_base.proofs.base.Laws.{and_right}
use Rattle.spec_base.proofs.base.PutLaws.{put_nil, tail_back, put_at_nil, placed_yes}
use Rattle.spec_text.specs.pattern.Find.{equals}
use Rattle.spec_text.specs.utf8.Utf8.{utf8}
use Rattle.spec_text.specs.text.Line.{concat, lines_of, line_count, has_lf}
use Rattle.spec_time.specs.caption_time.Kind.{kind_bad}
use Rattle.spec_caption.specs.declared.caption_fate.Config.{Config}
use Rattle.spec_map.specs.segment.Segment.{segments_of}
use Rattle.spec_caption.specs.caption_fate.Says.{Part, stays, not_utf8, bad_header, fault_number}
use Rattle.spec_caption.specs.caption_fate.Emit.{Emit, Warning, emit_by, emits_of, output_of, warnings_of, places_of}
use Rattle.spec_ass.specs.ass_line.Line.{LineSays, line_says, faulty as lineFaulty, says as line_said}
use Rattle.spec_cue.specs.block_timing.Style.{style_of}
use Rattle.spec_cue.specs.block_timing.Header.{header_due}
use Rattle.spec_cue.specs.block_cue.Block.{BlockSays, block_says, faulty as blockFaulty, says as block_said}
use Rattle.spec_machine.specs.declared.session_counts.Counts.{Counts}
use Rattle.spec_machine.specs.session_counts.Counts.{count_all}
use Rattle.spec_machine.specs.session_counts.Cut.{unfinished}
use Rattle.spec_machine.specs.session_counts.Machine.{Machine, Says, faulty, says, bom, has_bom, with_bom, line_with, take_line, rest_for, Run, going, stopped, line_end, closed, last_end, at_end, finish_run}
use Rattle.spec_machine.specs.session_counts.Session.{emitted}
use Rattle.spec_machine.proofs.session_counts.Emits.{emits_none, output_none, count_none}
use Rattle.spec_machine.proofs.session_counts.Resume.{fault_number_lem}
use Rattle.spec_machine.proofs.session_counts.OpenLines.{bom_open}
use Rattle.spec_machine.proofs.session_counts.Laws.{StepOk, Lawful}
use Rattle.spec_machine.proofs.session_counts.Native.{line_ok}
use Rattle.spec_machine.proofs.session_counts.Room.{out_len, warn_len, RoomOf, line_room}
use Rattle.spec_machine.specs.kinds.Takes.{State, blank_state, of_line, line_takes, of_block, closes, takes, block_ends, ends, machine_of}
use Rattle.spec_machine.specs.kinds.Kit.{kit}
use Rattle.spec_machine.proofs.kinds.KindLaws.{takes_ass, takes_srt, takes_vtt, Fit, known_three, lawful_fit, lawful_size, lawful_pending}
use Rattle.spec_machine.proofs.kinds.Native.{Native}
use Rattle.spec_machine.proofs.kinds.KindRoom.{srt_some, block_end, vtt_end_lem}
use Rattle.spec_machine.proofs.kinds.Fits.{places_two, room_of_lem}
use Rattle.spec_session.specs.declared.session_lines.Ended.{Ended}
use Rattle.spec_session.specs.declared.session.Going.{Going}
use Rattle.spec_session.specs.session_lines.LinesThrough.{text_ends, end_in, EndTells}
use Rattle.spec_session.specs.session_lines.Done.{Wrote, Ends, Ready, Parsed}
use Rattle.spec_session.proofs.session_lines.TellLaws.{told_within}
use Rattle.spec_session.proofs.session_lines.BomLaws.{put_under, bom_placed}
use Rattle.spec_session.proofs.session_lines.DoneLaws.{end_done}
use Rattle.spec_session.specs.session.Stand.{Shows, Room, CloseRoom, Opening, resume_at, stopped_at, closing_to, bom_to, bom_alone_of}
use Rattle.spec_session.proofs.session.StandLaws.{lent, back, told_sums, wrote_more, counts_more, held_block, held_line}
use Rattle.spec_session.proofs.session.RunLaws.{counts_grown, fit_parsed, places_none, s₀, begun, begin_sizes, begin_native, begin_shows, L}
use Rattle.spec_base.proofs.base.PartLaws.{drop_take, rest_length}
use Rattle.spec_machine.proofs.session_counts.Keeps.{Kept}

-- ---- what a finish says in each kind
pub finish_ass : (kind : ℕ) (s : State) (n : ℕ) → kind ≡ 0 → ends kind s n ≡ says s []
unfolding ends
finish_ass kind s n e = rw (eq-eqb kind 0 e)

pub finish_blocks : (kind : ℕ) (s : State) (n : ℕ) → (kind ≡ 0 → ⊥)
    → ends kind s n ≡ cond (header_due kind n s.block) (faulty bad_header) (closes (style_of kind) s n s.block [])
unfolding ends block_ends
finish_blocks kind s n e = rw (ne_eqb kind 0 e)

module _ (c : Config) (m : List ℕ) (t : Counts) (e : Ended) (out y places z : List ℕ) where
  block_ended : (s : State) (x : BlockSays) → Ends c m (of_block blank_state [] x) t e out y places z → Ends c m (of_block s [] x) t e out y places z
  block_ended s (blockFaulty g) b = record { number = b.number; counts = b.counts; wrote = b.wrote }
  block_ended s (block_said p) b = record { number = b.number; counts = b.counts; wrote = b.wrote }

  -- whatever else is known between two lines
  lines_ended : (kind : ℕ) (s : State) (n : ℕ) (ls : List (List ℕ)) → Ends c m (closes (style_of kind) blank_state n ls []) t e out y places z → Ends c m (closes (style_of kind) s n ls []) t e out y places z
  lines_ended kind s n [] b = record { number = b.number; counts = b.counts; wrote = b.wrote }
  lines_ended kind s n (l ∷ ls) b = block_ended s (block_says (style_of kind) (suc n - line_count (l ∷ ls)) (l ∷ ls)) b

  text_ended : (due : Bool) (kind : ℕ) (s : State) (n : ℕ) (ls : List (List ℕ))
      → Ends c m (cond due (faulty bad_header) (closes (style_of kind) blank_state n ls [])) t e out y places z
      → Ends c m (cond due (faulty bad_header) (closes (style_of kind) s n ls [])) t e out y places z
  text_ended true kind s n ls b = b
  text_ended false kind s n ls b = lines_ended kind s n ls b

  -- the lines of the held bytes are the open block's
  block_ends_lem : (kind : ℕ) (s : State) (n : ℕ) (bytes : List ℕ) → (kind ≡ 0 → ⊥) → Parsed (eqb kind 0) s.block → bytes ≡ concat s.block
      → Ends c m (text_ends kind n (lines_of bytes)) t e out y places z → Ends c m (ends kind s n) t e out y places z
  block_ends_lem kind s n bytes k p q b =
      let l : lines_of bytes ≡ s.block = ap lines_of q ∙ subst (λ (a : Bool). Parsed a s.block) (ne_eqb kind 0 k) p in
      subst (λ (x : Says State). Ends c m x t e out y places z) (sym (finish_blocks kind s n k))
      (text_ended (header_due kind n s.block) kind s n s.block (subst (λ (ls : List (List ℕ)). Ends c m (text_ends kind n ls) t e out y places z) l b))

-- ---- a block's end with room for it
module _ (c : Config) (m : List ℕ) (at : Going) (held out places : List ℕ) (R : CloseRoom at (length held) (length out) (length places)) (e : Ended) (y z : List ℕ)
    (h : EndTells (end_in c (segments_of m) at.lines at.counts (take at.start held) (length (lent at.written out)) (length (lent at.warned places)))
    at.counts e (lent at.written out) y (lent at.warned places) z) where
  pub block_done : Ready c m → Ends c m (text_ends c.kind at.lines (lines_of (take at.start held))) at.counts e (lent at.written out) y (lent at.warned places) z
  block_done d =
      end_done c m at.lines at.counts (take at.start held) e (lent at.written out) y (lent at.warned places) z d
      (record {
        counts = R.counts;
        room_long = omega (arith, R, length-take-le at.start held R.block, rest_length at.written out);
        places_long = omega (arith, R, rest_length at.warned places);
      })
      h

  pub block_sums : length y ≡ length (lent at.written out) → length z ≡ length (lent at.warned places)
      → (at.written + e.written ≤ length out) × (at.warned + e.warned ≤ length places)
  block_sums i j = told_sums at.written at.warned out places y z _ _ e h (omega (arith, R)) (omega (arith, R)) i j

-- ---- the end of the block
module _ (c : Config) (m : List ℕ) (M : Machine State) (t : Counts) (s : State) (n : ℕ) (ps : List Part) (o w : List ℕ) (at : Going) (held out places : List ℕ)
    (sh : Shows c m t (going s n [] ps) o w at held out places) where
  pub close_none : (x : Says State) → x ≡ says s [] → Shows c m t (closed M ps x) o w at held out places
  close_none x e =
      subst (λ (y : Says State). Shows c m t (closed M ps y) o w at held out places) (sym e)
      (subst (λ (qs : List Part). Shows c m t (stopped 0 qs) o w at held out places) (sym (append-nil ps))
      (record { number = sh.number; counts = sh.counts; wrote = sh.wrote; holds = tt }))

  module _ (y z : List ℕ) (e : Ended) (r : Going) (f : r ≡ closing_to at e) where
    closed_by : (x : Says State) → Ends c m x at.counts e (lent at.written out) y (lent at.warned places) z → Shows c m t (closed M ps x) o w r held (back at.written out y) (back at.warned places z)
    closed_by (faulty g) b =
        rw f
        (record {
          number = b.number;
          counts =
              counts_more c m t ps [] at.counts e.counts sh.counts b.counts
              ∙ ap (λ (qs : List Part). count_all t (emitted c m qs)) (append-nil ps);
          wrote =
              subst (λ (qs : List Part). Wrote c m qs (at.written + e.written) (at.warned + e.warned) o (back at.written out y) w (back at.warned places z)) (append-nil ps)
              (wrote_more c m ps [] at.written at.warned e.written e.warned o w out places y z sh.wrote b.wrote);
          holds = tt;
        })
    closed_by (says u new) b =
        rw f
        (record {
          number = b.number;
          counts = counts_more c m t ps new at.counts e.counts sh.counts b.counts;
          wrote = wrote_more c m ps new at.written at.warned e.written e.warned o w out places y z sh.wrote b.wrote;
          holds = tt;
        })

    pub close_block : (kind : ℕ) → (kind ≡ 0 → ⊥) → Parsed (eqb kind 0) s.block
        → Ends c m (text_ends kind at.lines (lines_of (take at.start held))) at.counts e (lent at.written out) y (lent at.warned places) z
        → Shows c m t (closed M ps (ends kind s n)) o w r held (back at.written out y) (back at.warned places z)
    close_block kind k p b =
        let a : at.start ≡ at.held = sh.holds.start ∙ sym (sh.holds.count ∙ ap length (append-nil (concat s.block))) in
        let q : take at.start held ≡ concat s.block = ap (λ (j : ℕ). take j held) a ∙ sh.holds.bytes ∙ append-nil (concat s.block) in
        closed_by (ends kind s n)
        (subst (λ (j : ℕ). Ends c m (ends kind s j) at.counts e (lent at.written out) y (lent at.warned places) z) sh.holds.lines
        (block_ends_lem c m at.counts e (lent at.written out) y (lent at.warned places) z kind s at.lines (take at.start held) k p q b))

-- ---- a BOM alone
module _ (c : Config) (m : List ℕ) (ps : List Part) where
  bom_output : output_of (emitted c m (stays bom ∷ ps)) ≡ bom ++ output_of (emitted c m ps)
  unfolding emits_of emit_by output_of
  bom_output = refl

  bom_warnings : warnings_of (emitted c m (stays bom ∷ ps)) ≡ warnings_of (emitted c m ps)
  unfolding emits_of emit_by warnings_of
  bom_warnings = refl

  bom_counts : (t : Counts) → count_all t (emitted c m (stays bom ∷ ps)) ≡ count_all t (emitted c m ps)
  unfolding emits_of emit_by count_all
  bom_counts t = refl

module _ (c : Config) (m : List ℕ) (M : Machine State) (at : Going) (held out places : List ℕ) (p : Opening c at held (length out) (length places)) where
  -- the BOM was written, then nothing
  pub bom_only : (s : State) (x : Says State) (r : Going) (o : List ℕ) → x ≡ says s [] → r ≡ bom_to at → o ≡ placed bom out
      → Shows c m at.counts (closed M [] (with_bom x)) out places r held o places
  bom_only s x r o e f g =
      let none = emits_none c (segments_of m) in
      subst (λ (y : Says State). Shows c m at.counts (closed M [] (with_bom y)) out places r held o places) (sym e)
      (rw f
      (record {
        number = p.number;
        counts = sym (bom_counts c m [] at.counts ∙ ap (count_all at.counts) none ∙ count_none at.counts);
        wrote =
            record {
              written = sym (ap length (bom_output c m [] ∙ ap (λ (es : List Emit). bom ++ output_of es) none ∙ ap (λ (l : List ℕ). bom ++ l) output_none));
              warned = p.warned ∙ sym (ap (λ (ws : List Warning). length (places_of ws)) (bom_warnings c m [] ∙ ap warnings_of none) ∙ ap length places_none);
              text = g ∙ placed_yes bom out (omega (arith, p.out_long)) ∙ ap (λ (l : List ℕ). put l out) (sym (bom_output c m [] ∙ ap (λ (es : List Emit). bom ++ output_of es) none ∙ ap (λ (l : List ℕ). bom ++ l) output_none));
              warnings =
                  sym (ap (λ (l : List ℕ). put l places) (ap places_of (bom_warnings c m [] ∙ ap warnings_of none) ∙ places_none) ∙ put_nil places);
            };
        holds = tt;
      }))

  module _ (y z : List ℕ) (e : Ended) where
    -- the block is at fault
    bom_fault : (x : Says State) (r : Going) → Ends c m x at.counts e (lent 3 out) y places z → (e.number ≡ 0 → ⊥) → r ≡ stopped_at at e.number
        → Shows c m at.counts (closed M [] (with_bom x)) out places r held (back 3 out y) z
    bom_fault (says u new) r b k f = absurd (k b.number)
    bom_fault (faulty g) r b k f =
        let none = emits_none c (segments_of m) in
        let v : y ≡ put [] (lent 3 out) = b.wrote.text ∙ ap (λ (l : List ℕ). put l (lent 3 out)) (ap output_of none ∙ output_none) in
        rw f
        (record {
          number = b.number;
          counts = sym (ap (count_all at.counts) none ∙ count_none at.counts);
          wrote =
              record {
                written = p.written ∙ sym (ap length (ap output_of none ∙ output_none));
                warned = p.warned ∙ sym (ap length (ap (λ (es : List Emit). places_of (warnings_of es)) none ∙ places_none));
                text = tail_back 3 [] out y v ∙ put_at_nil 3 out ∙ sym (ap (λ (l : List ℕ). put l out) (ap output_of none ∙ output_none) ∙ put_nil out);
                warnings = b.wrote.warnings;
              };
          holds = tt;
        })

    -- the block passed
    bom_passed : (x : Says State) (next r : Going) (o : List ℕ) → Ends c m x at.counts e (lent 3 out) y places z → e.number ≡ 0 → next ≡ bom_to at → r ≡ closing_to next e
        → o ≡ placed bom (back 3 out y) → Shows c m at.counts (closed M [] (with_bom x)) out places r held o z
    bom_passed (faulty g) next r o b k n f h = absurd (eqb-false (fault_number g) 0 (fault_number_lem g) (sym b.number ∙ k))
    bom_passed (says u new) next r o b k n f h =
        let w : 3 ≤ length out = omega (arith, p.out_long) in
        let v : length (bom ++ output_of (emitted c m new)) ≡ 3 + length (output_of (emitted c m new)) = length-append bom (output_of (emitted c m new)) in
        rw (f, n)
        (record {
          number = k;
          counts = b.counts ∙ sym (bom_counts c m new at.counts);
          wrote =
              record {
                written = ap (λ (j : ℕ). 3 + j) b.wrote.written ∙ sym (ap length (bom_output c m new) ∙ v);
                warned = omega (arith, p.warned, b.wrote.warned, ap (λ (ws : List Warning). length (places_of ws)) (bom_warnings c m new));
                text =
                    h ∙ bom_placed out (y ++ drop (length out - 3) (drop 3 out)) w ∙ ap (put bom) (tail_back 3 (output_of (emitted c m new)) out y b.wrote.text) ∙ put_under bom (output_of (emitted c m new)) out w
                    ∙ ap (λ (l : List ℕ). put l out) (sym (bom_output c m new));
                warnings = b.wrote.warnings ∙ ap (λ (ws : List Warning). put (places_of ws) places) (sym (bom_warnings c m new));
              };
          holds = tt;
        })

    -- the open block's end, behind the room for the BOM
    module _ (d : Ready c m) (h : EndTells (end_in c (segments_of m) at.lines at.counts (take at.start held) (length (lent 3 out)) (length places)) at.counts e (lent 3 out) y places z) where
      start_small : at.start ≤ most_block
      start_small = omega (arith, p.start, (begin_native c m at held (length out) (length places) d p).holds.fit.small)

      pub bom_ends : Ends c m (text_ends c.kind at.lines (lines_of (take at.start held))) at.counts e (lent 3 out) y places z
      bom_ends =
          end_done c m at.lines at.counts (take at.start held) e (lent 3 out) y places z d
          (record {
            counts = omega (arith, p.counts);
            room_long = omega (arith, p.out_long, start_small, length-take at.start held, rest_length 3 out);
            places_long = omega (arith, p.places_long);
          })
          h

      pub bom_sums : length y ≡ length (lent 3 out) → length z ≡ length places → (3 + e.written ≤ length out) × (e.warned ≤ length places)
      bom_sums i j =
          let w = told_within _ _ e (lent 3 out) y places z h i j in
          (omega (arith, w, p.out_long, rest_length 3 out), omega (arith, w))

    module _ (kind : ℕ) (s : State) (k : kind ≡ 0 → ⊥) (q : take at.start held ≡ concat s.block) (g : Parsed (eqb kind 0) s.block)
        (b : Ends c m (text_ends kind at.lines (lines_of (take at.start held))) at.counts e (lent 3 out) y places z) where
      pub bom_stops : (r : Going) → (e.number ≡ 0 → ⊥) → r ≡ stopped_at at e.number
          → Shows c m at.counts (closed M [] (with_bom (ends kind s at.lines))) out places r held (back 3 out y) z
      bom_stops r h f = bom_fault (ends kind s at.lines) r (block_ends_lem c m at.counts e (lent 3 out) y places z kind s at.lines (take at.start held) k g q b) h f

      pub bom_closes : (next r : Going) (o : List ℕ) → e.number ≡ 0 → next ≡ bom_to at → r ≡ closing_to next e → o ≡ placed bom (back 3 out y)
          → Shows c m at.counts (closed M [] (with_bom (ends kind s at.lines))) out places r held o z
      bom_closes next r o h n f w =
          bom_passed (ends kind s at.lines) next r o (block_ends_lem c m at.counts e (lent 3 out) y places z kind s at.lines (take at.start held) k g q b) h n f w

-- ---- whether the text is a BOM with no line
pub alone_no : (n : ℕ) (l : List ℕ) → (n ≡ 0 → ⊥) → false ≡ bom_alone_of n l
unfolding bom_alone_of
alone_no n l e = rw (ne_eqb n 0 e)

pub alone_asked : (n : ℕ) (l : List ℕ) (b : Bool) → n ≡ 0 → b ≡ equals bom l → b ≡ bom_alone_of n l
unfolding bom_alone_of
alone_asked n l b e f = rw (eq-eqb n 0 e) f

-- ---- the last line: it may have no LF
ass_last : (s : State) (n : ℕ) (l : List ℕ) → s.block ≡ [] → Kept (λ (t : State). t.block ≡ []) (line_takes s n l)
unfolding line_takes
ass_last s n l e = go (utf8 l) (line_says s.columns n l)
  where
    go : (u : Bool) (x : LineSays) → Kept (λ (t : State). t.block ≡ []) (cond u (of_line s x) (faulty not_utf8))
    go false x = tt
    go true (lineFaulty f) = tt
    go true (line_said d p) = e

-- after it no block is open in ASS, and in the other kinds the block's bytes are its lines
step_last : (kind : ℕ) → kind_bad kind ≡ false → (s : State) (n : ℕ) (l : List ℕ) → Fit kind s → has_lf l ≡ false
    → Kept (λ (t : State). Parsed (eqb kind 0) t.block) (takes kind s n l)
step_last zero e s n l f h = subst (Kept (λ (t : State). t.block ≡ [])) (sym (takes_ass s n l)) (ass_last s n l f.block)
step_last (suc zero) e s n l f h = subst (Kept (λ (t : State). lines_of (concat t.block) ≡ t.block)) (sym (takes_srt s n l)) (block_end 0 srt_some s n l f.block h)
step_last (suc (suc zero)) e s n l f h = subst (Kept (λ (t : State). lines_of (concat t.block) ≡ t.block)) (sym (takes_vtt s n l)) (vtt_end_lem s n l f.block h (header_due 2 n s.block))
step_last (suc (suc (suc k))) e s n l f h = absurd (known_three k e)

bom_leaves : (P : State → Type 0) (x : Says State) → Kept P x → Kept P (with_bom x)
bom_leaves P (faulty f) o = tt
bom_leaves P (says t ps) o = o

pub last_line : (kind : ℕ) → kind_bad kind ≡ false → (s : State) (n : ℕ) (l : List ℕ) → Fit kind s → has_lf l ≡ false
    → Kept (λ (t : State). Parsed (eqb kind 0) t.block) (take_line (machine_of kind) s n l)
last_line kind e s n l f h = go (eqb n 0 && has_bom l) refl
  where
    go : (b : Bool) → (eqb n 0 && has_bom l) ≡ b → Kept (λ (t : State). Parsed (eqb kind 0) t.block) (line_with (machine_of kind) b s n l)
    go true q =
        bom_leaves (λ (t : State). Parsed (eqb kind 0) t.block) (takes kind s n (drop 3 l))
        (step_last kind e s n (drop 3 l) f (bom_open l (and_right (eqb n 0) (has_bom l) q) h))
    go false q = step_last kind e s n l f h

-- ---- what a finish does, by the rest
module _ (M : Machine State) (s : State) (n : ℕ) where
  alone_run : (b : Bool) (l : List ℕ) → b ≡ true → 0 < length l → closed M [] (with_bom (M.close s n)) ≡ at_end M (rest_for b l) s n l []
  alone_run b [] e h = absurd (omega arith)
  alone_run true (x ∷ l) e h = refl
  alone_run false (x ∷ l) e h = absurd (true≢false (sym e))

  last_run : (b : Bool) (l : List ℕ) → b ≡ false → 0 < length l → last_end M n [] (take_line M s n l) ≡ at_end M (rest_for b l) s n l []
  last_run b [] e h = absurd (omega arith)
  last_run true (x ∷ l) e h = absurd (true≢false e)
  last_run false (x ∷ l) e h = refl

pub no_bytes : (l : List ℕ) → length l ≡ 0 → l ≡ []
no_bytes [] e = refl
no_bytes (b ∷ l) e = absurd (omega arith)

positive : (n : ℕ) → (n ≡ 0 → ⊥) → 0 < n
positive zero f = absurd (f refl)
positive (suc n) f = omega arith

alone_is : (n : ℕ) (l : List ℕ) → bom_alone_of n l ≡ (eqb n 0 && equals bom l)
unfolding bom_alone_of
alone_is n l = refl

module _ (c : Config) (m : List ℕ) (at : Going) (held o w : List ℕ) (d : Ready c m) (p : Opening c at held (length o) (length w)) where
  abbrev kind : ℕ
  kind = c.kind

  abbrev M₀ : Machine State
  M₀ = machine_of c.kind

  abbrev state : State
  state = s₀ c m at held (length o) (length w) d p

  abbrev rest : List ℕ
  rest = unfinished (take at.held held)

  abbrev sane : Native (begun c m at held (length o) (length w) d p)
  sane = begin_native c m at held (length o) (length w) d p

  sizes : at.start + length rest ≡ at.held
  sizes = begin_sizes c m at held (length o) (length w) d p

  small : at.start ≤ most_block
  small = omega (arith, p.start, sane.holds.fit.small)

  pub start_shows : Shows c m at.counts (going state at.lines rest []) o w at held o w
  start_shows = begin_shows c m at held (length o) (length w) d p o w

  pub start_parsed : Parsed (eqb kind 0) state.block
  start_parsed = fit_parsed kind d.kind_known state sane.holds.fit

  pub start_held : take at.start held ≡ concat state.block
  start_held =
      sym (take-take at.start at.held held (omega (arith, sizes))) ∙ held_block state at.lines rest at held start_shows.holds

  pub close_start : CloseRoom at (length held) (length o) (length w)
  close_start =
      record {
        number = p.number;
        block = omega (arith, sizes, p.count, p.size);
        text = omega (arith, p.written, p.out_long, small);
        warnings = omega (arith, p.warned, p.places_long);
        lines = omega (arith, p.lines);
        counts = omega (arith, p.counts);
      }

  pub end_room : Room at (length held) (length o) (length w)
  end_room =
      record {
        size = p.size;
        order = omega (arith, sizes);
        block = small;
        line = omega (arith, sizes, sane.holds.short);
        text = omega (arith, p.written, p.out_long, p.count);
        warnings = omega (arith, p.warned, p.places_long);
        lines = omega (arith, p.lines);
        counts = omega (arith, p.counts);
      }

  -- no rest
  pub finish_none : at.held ≡ at.start → (r : Going) (o' w' : List ℕ)
      → (Shows c m at.counts (going state at.lines [] []) o w at held o w → Shows c m at.counts (closed M₀ [] (ends kind state at.lines)) o w r held o' w')
      → Shows c m at.counts (finish_run M₀ (resume_at at held)) o w r held o' w'
  finish_none e r o' w' f =
      let z : rest ≡ [] = no_bytes rest (omega (arith, sizes, e)) in
      subst (λ (l : List ℕ). Shows c m at.counts (finish_run M₀ (going state at.lines l [])) o w r held o' w') (sym z)
      (f (subst (λ (l : List ℕ). Shows c m at.counts (going state at.lines l []) o w at held o w) z start_shows))

  line_there : take (at.held - at.start) (drop at.start held) ≡ rest
  line_there = sym (drop_take at.start at.held held) ∙ held_line state at.lines rest at held start_shows.holds

  module _ (v : Bool) (z : at.held ≡ at.start → ⊥) (a : v ≡ bom_alone_of at.lines (take (at.held - at.start) (drop at.start held))) where
    some : 0 < length rest
    some = positive (length rest) (λ q. z (omega (arith, sizes, q)))

    asked : (b : Bool) → v ≡ b → (eqb at.lines 0 && equals bom rest) ≡ b
    asked b e = sym (alone_is at.lines rest) ∙ ap (bom_alone_of at.lines) (sym line_there) ∙ sym a ∙ e

    pub finish_bom : v ≡ true → (r : Going) (h' o' w' : List ℕ) → Shows c m at.counts (closed M₀ [] (with_bom (ends kind state at.lines))) o w r h' o' w'
        → Shows c m at.counts (finish_run M₀ (resume_at at held)) o w r h' o' w'
    finish_bom b r h' o' w' g =
        subst (λ (t : Run State). Shows c m at.counts t o w r h' o' w')
        (alone_run M₀ state at.lines (eqb at.lines 0 && equals bom rest) rest (asked true b) some) g

    is_last : v ≡ false → last_end M₀ at.lines [] (take_line M₀ state at.lines rest) ≡ finish_run M₀ (resume_at at held)
    is_last b = last_run M₀ state at.lines (eqb at.lines 0 && equals bom rest) rest (asked false b) some

    fault_run : (x : Says State) (r : Going) (h' o' w' : List ℕ) → Shows c m at.counts (line_end M₀ at.lines [] x) o w r h' o' w' → (r.number ≡ 0 → ⊥)
        → Shows c m at.counts (last_end M₀ at.lines [] x) o w r h' o' w'
    fault_run (faulty f) r h' o' w' sh e = sh
    fault_run (says t new) r h' o' w' sh e = absurd (e sh.number)

    -- the last line is at fault
    pub finish_fault : v ≡ false → (r : Going) (h' o' w' : List ℕ)
        → Shows c m at.counts (line_end M₀ at.lines [] (take_line M₀ state at.lines rest)) o w r h' o' w' → (r.number ≡ 0 → ⊥)
        → Shows c m at.counts (finish_run M₀ (resume_at at held)) o w r h' o' w'
    finish_fault b r h' o' w' sh e =
        subst (λ (t : Run State). Shows c m at.counts t o w r h' o' w') (is_last b) (fault_run (take_line M₀ state at.lines rest) r h' o' w' sh e)

    passed_run : (x : Says State) (l r : Going) (h' o₁ w₁ o' w' : List ℕ) → Kept (λ (t : State). Parsed (eqb kind 0) t.block) x
        → Shows c m at.counts (line_end M₀ at.lines [] x) o w l h' o₁ w₁ → l.number ≡ 0
        → ((t : State) (n : ℕ) (ps : List Part) → Parsed (eqb kind 0) t.block → Shows c m at.counts (going t n [] ps) o w l h' o₁ w₁
        → Shows c m at.counts (closed M₀ ps (ends kind t n)) o w r h' o' w')
        → Shows c m at.counts (last_end M₀ at.lines [] x) o w r h' o' w'
    passed_run (faulty f) l r h' o₁ w₁ o' w' k sh e g = absurd (eqb-false (fault_number f) 0 (fault_number_lem f) (sym sh.number ∙ e))
    passed_run (says t new) l r h' o₁ w₁ o' w' k sh e g = g t (suc at.lines) new k sh

    -- the last line passed, and the block ends
    pub finish_last : v ≡ false → (l r : Going) (h' o₁ w₁ o' w' : List ℕ)
        → Shows c m at.counts (line_end M₀ at.lines [] (take_line M₀ state at.lines rest)) o w l h' o₁ w₁ → l.number ≡ 0
        → ((t : State) (n : ℕ) (ps : List Part) → Parsed (eqb kind 0) t.block → Shows c m at.counts (going t n [] ps) o w l h' o₁ w₁
        → Shows c m at.counts (closed M₀ ps (ends kind t n)) o w r h' o' w')
        → Shows c m at.counts (finish_run M₀ (resume_at at held)) o w r h' o' w'
    finish_last b l r h' o₁ w₁ o' w' sh e g =
        subst (λ (t : Run State). Shows c m at.counts t o w r h' o' w') (is_last b)
        (passed_run (take_line M₀ state at.lines rest) l r h' o₁ w₁ o' w'
        (last_line kind d.kind_known state at.lines rest sane.holds.fit sane.holds.open_line) sh e g)

  abbrev L₀ : Lawful kit c.kind
  L₀ = L c m at held (length o) (length w) d p

  close_after : (x : Says State) (l : Going) (h' o₁ w₁ : List ℕ) → StepOk L₀.Fit L₀.pending L₀.size state rest x → RoomOf c (segments_of m) L₀.size 3 state rest x
      → Shows c m at.counts (line_end M₀ at.lines [] x) o w l h' o₁ w₁ → l.number ≡ 0 → length h' ≡ length held → length o₁ ≡ length o → length w₁ ≡ length w
      → CloseRoom l (length h') (length o₁) (length w₁)
  unfolding out_len warn_len
  close_after (faulty f) l h' o₁ w₁ k g sh e h1 h2 h3 = absurd (eqb-false (fault_number f) 0 (fault_number_lem f) (sym sh.number ∙ e))
  close_after (says t new) l h' o₁ w₁ k g sh e h1 h2 h3 =
      let S = lawful_size kind sane.kind_known state in
      let T = lawful_size kind sane.kind_known t in
      let P = lawful_pending kind sane.kind_known state in
      let W = places_two (warnings_of (emitted c m new)) in
      let G = counts_grown c m at.counts new in
      let z = sizes in
      record {
        number = e;
        block = omega (arith, sh.holds.start, k.small, S, T, z, p.start, h1, p.size, p.count);
        text = omega (arith, sh.holds.start, g.out, sh.wrote.written, S, T, z, p.start, p.count, h2, p.out_long);
        warnings = omega (arith, g.warn, sh.wrote.warned, W, S, z, p.start, p.count, h3, p.places_long);
        lines = omega (arith, sh.holds.lines, p.lines);
        counts = rw sh.counts (omega (arith, G, k.few, P, p.counts));
      }

  pub close_last : (l : Going) (h' o₁ w₁ : List ℕ) → Shows c m at.counts (line_end M₀ at.lines [] (take_line M₀ state at.lines rest)) o w l h' o₁ w₁ → l.number ≡ 0
      → length h' ≡ length held → length o₁ ≡ length o → length w₁ ≡ length w → CloseRoom l (length h') (length o₁) (length w₁)
  close_last l h' o₁ w₁ sh e h1 h2 h3 =
      let f = lawful_fit kind sane.kind_known state sane.holds.fit in
      close_after (take_line M₀ state at.lines rest) l h' o₁ w₁ (line_ok kit kind L₀ 1 state at.lines rest f sane.holds.short)
      (line_room kit kind L₀ c (segments_of m) 3 (room_of_lem (begun c m at held (length o) (length w) d p) sane m d.map_good) state at.lines rest f sane.holds.short)
      sh e h1 h2 h3
