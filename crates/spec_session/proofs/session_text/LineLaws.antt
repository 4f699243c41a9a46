-- The lines of a text that begins with held bytes, one behind the other: what a line leaves.
use mathlib.Core.Path.{◌≡◌, refl, sym, ap, ap₂, subst, ◌∙◌}
use mathlib.Core.Bool.{Bool, true, false, cond, ◌&&◌, true≢false}
use mathlib.Core.List.{List, [], ◌∷◌, ◌++◌, append-nil}
use Prim.Native.Nat.{ℕ, zero, suc, ◌+◌, ◌-◌, ◌*◌, ◌≤◌, ◌<◌, ◌^◌}
use native.Mathlib.Omega.{arith}
use native.Mathlib.Numerals.{add-one}
use lib.Dec.{eqb, ltb}
use lib.ListN.{length, take, drop, length-take, length-drop, take-append-drop, drop_of_length-le}
use lib.Seq.{take-take, take-add, take_all, drop-drop}
use borrow.Author.Tests.{le-leb, le-ltb, ltb-true, ltb-false, eqb-true, eqb-false, ne_eqb}
use Rattle.spec_base.specs.base.Limits.{most_line, most_block, most_taken}
use Rattle.spec_base.specs.base.Put.{put}
use Rattle.spec_base.proofs.base.PutLaws.{length_put}
use Rattle.spec_text.specs.utf8.Utf8.{utf8}
use Rattle.spec_text.specs.text.Line.{concat, has_lf}
use Rattle.spec_cue.specs.block_timing.Style.{blank_in}
use Rattle.spec_cue.specs.block_timing.Header.{header_due}
use Rattle.spec_map.specs.segment.Segment.{segments_of}
use Rattle.spec_caption.specs.declared.caption_fate.Config.{Config}
use Rattle.spec_caption.specs.caption_fate.Says.{Part, fault_number}
use Rattle.spec_caption.specs.caption_fate.Emit.{output_of, warnings_of, places_of}
use Rattle.spec_machine.specs.session_counts.Counts.{count_all}
use Rattle.spec_machine.specs.session_counts.Machine.{Machine, Says, faulty, says, Run, going, stopped, line_end, take_line, run}
use Rattle.spec_machine.specs.session_counts.Cut.{closed_lines}
use Rattle.spec_machine.specs.session_counts.Session.{emitted}
use Rattle.spec_machine.proofs.session_counts.GoodLines.{good_line, good_later}
use Rattle.spec_machine.proofs.session_counts.Emits.{emits_none, count_none}
use Rattle.spec_machine.proofs.session_counts.Bytes.{run_stopped}
use Rattle.spec_machine.proofs.session_counts.Resume.{run_append, fault_number_lem}
use Rattle.spec_machine.proofs.session_counts.Laws.{Lawful}
use Rattle.spec_machine.proofs.session_counts.Native.{Ok, GoingOk}
use Rattle.spec_machine.proofs.session_counts.Room as room
use Rattle.spec_machine.proofs.session_counts.Room.{GoingRoom, out_len, warn_len}
use Rattle.spec_machine.specs.kinds.Takes.{State, block_takes, takes, machine_of}
use Rattle.spec_machine.specs.kinds.Kit.{kit}
use Rattle.spec_machine.proofs.kinds.KindLaws.{Fit, lawful_size, concat_snoc}
use Rattle.spec_machine.proofs.kinds.Native.{Native}
use Rattle.spec_machine.proofs.kinds.Fits.{places_two}
use Rattle.spec_session.specs.declared.session_state.Head.{Head}
use Rattle.spec_session.specs.declared.session_lines.Taken.{Taken}
use Rattle.spec_session.specs.session_lines.LinesThrough.{taken_in, state_of, bom_size, take_in, LineTells}
use Rattle.spec_session.specs.session_lines.Done.{Ample, Below, Wrote, Done, Parsed}
use Rattle.spec_session.proofs.session_lines.LentLaws.{lent_fine, none_above}
use Rattle.spec_session.proofs.session_lines.DoneLaws.{take_done, take_skip, skip_small}
use Rattle.spec_session.proofs.session.StandLaws.{lent, back, wrote_more, counts_more}
use Rattle.spec_session.proofs.session.RunLaws.{Slow, counts_grown, fit_back, fit_parsed, wrote_none}
use Rattle.spec_session.specs.declared.session_text.Lined.{Lined}
use Rattle.spec_session.specs.session_text.Answer.{text_session}
use Rattle.spec_session.specs.session_text.Lined.{Closed, LineEnd, Joins, line_start, start_state, Starts, lined_of, Lining, Onto, text_run, Ends}
use Rattle.spec_session.proofs.session_text.StartLaws.{run_line, run_open, run_long, own, ready, L, text_few, start_within_lem, start_block, start_first, start_run, ran_ok, ran_room, ran_slow}
use Rattle.spec_base.proofs.base.PartLaws.{drop_take, rest_length}
use Rattle.spec_session.proofs.session.EndLaws.{no_bytes}

-- ---- a BOM stands only before a first line
later_none : (n : ℕ) (l : List ℕ) → eqb n 0 ≡ false → bom_size n l ≡ 0
unfolding bom_size
later_none n l e = rw e

-- ---- a line that only joins the open block
header_later : (kind n : ℕ) (b : List (List ℕ)) → (n ≡ 0 → ⊥) → header_due kind n b ≡ false
unfolding header_due
header_later kind zero b h = absurd (h refl)
header_later kind (suc n) b h = go (eqb kind 2)
  where
    go : (t : Bool) → t && false ≡ false
    go true = refl
    go false = refl

join_says : (kind n : ℕ) (s : State) (l : List ℕ) → (kind ≡ 0 → ⊥) → Joins kind n (length (concat s.block) + length l) l
    → take_line (machine_of kind) s n l ≡ says (record { columns = s.columns; block = s.block ++ (l ∷ []) }) []
unfolding takes block_takes
join_says kind n s l z J =
    rw (ne_eqb n 0 J.later, ne_eqb kind 0 z, header_later kind n s.block J.later, J.good, J.filled, le-leb (length (concat s.block) + length l) most_block J.small)

-- ---- the lines so far
-- after a line that ends at e; the open block begins at b
abbrev next_of : Lined → Taken → (b e : ℕ) → Lined
next_of r t b e = lined_of 0 (r.lines + 1) t.counts t.columns b e (r.written + t.written) (r.warned + t.warned)

module _ (h : Head) (m text : List ℕ) (at : Lined) (out₀ out places₀ places : List ℕ) (A : Lining h m text at out₀ out places₀ places) where
  abbrev c : Config
  c = h.config

  abbrev S : Starts h m text (length out₀) (length places₀)
  S = A.starts

  abbrev N : Native (text_session h text)
  N = own h m text (length out₀) (length places₀) S

  abbrev T : Lawful kit c.kind
  T = L h m text (length out₀) (length places₀) S

  abbrev Q : Machine State
  Q = machine_of c.kind

  abbrev from : ℕ
  from = line_start h text

  abbrev front : List ℕ
  front = take (at.place - from) (drop from text)

  front_length : length front ≡ at.place - from
  front_length = length-take (at.place - from) (drop from text) ∙ omega (arith, length-drop from text, A.within)

  few : length text ≤ most_taken
  few = text_few h m text (length out₀) (length places₀) S

  fine : GoingOk kit c.kind T 1 (length front + (h.lines + from)) A.state at.lines [] A.parts
  fine = subst (Ok kit c.kind T 1 (length front + (h.lines + from))) A.ran (ran_ok h m text (length out₀) (length places₀) S front)

  roomy : GoingRoom c (segments_of m) T.size 3 (length front + from) A.state [] A.parts
  roomy = subst (room.Room c (segments_of m) T.size 3 (length front + from)) A.ran (ran_room h m text (length out₀) (length places₀) S front)

  slow : Slow c.kind T h.lines (going A.state at.lines [] A.parts)
  slow = subst (Slow c.kind T h.lines) A.ran (ran_slow h m text (length out₀) (length places₀) S front)

  pub line_few : at.lines ≤ most_taken + at.place
  line_few = omega (arith, fine.bytes, front_length, A.from, N.lines_few, N.taken_few)

  fits : Fit c.kind A.state
  fits = fit_back c.kind N.kind_known A.state fine.fit

  parsed : Parsed (eqb c.kind 0) A.state.block
  parsed = fit_parsed c.kind N.kind_known A.state fits

  block_size : length (concat A.state.block) ≡ at.place - at.begin
  block_size =
      ap length (sym A.block) ∙ length-take (at.place - at.begin) (drop at.begin text)
      ∙ omega (arith, length-drop at.begin text, A.within, A.order)

  -- what the lines so far have written and warned of
  pub lined_few : (at.written ≤ 3 * at.begin) × (3 * at.warned ≤ at.begin)
  unfolding out_len warn_len
  lined_few =
      let z = lawful_size c.kind N.kind_known A.state in
      let w = places_two (warnings_of (emitted c m A.parts)) in
      (omega (arith, roomy.out, A.wrote.written, front_length, A.from, A.order, z, block_size), omega (arith, roomy.warn, A.wrote.warned, w, front_length, A.from, A.order, z, block_size))

  pub lined_long : (length out ≡ length out₀) × (length places ≡ length places₀)
  lined_long = (
    ap length A.wrote.text ∙ length_put _ out₀ (omega (arith, A.wrote.written, lined_few.0, S.output, A.within, A.order)),
    ap length A.wrote.warnings ∙ length_put _ places₀ (omega (arith, A.wrote.warned, lined_few.1, S.placed, A.within, A.order)),
  )

  pub lined_room : (at.written + 3 * (length text - at.begin) ≤ length out) × (at.warned + 4 ≤ length places)
  lined_room = (
    omega (arith, lined_few.0, S.output, lined_long.0, A.within, A.order),
    omega (arith, lined_few.1, S.placed, lined_long.1, A.within, A.order),
  )

  below : at.place < length text → Below at.counts (2 ^ 31)
  below p =
      let G = counts_grown c m h.counts A.parts in
      let D = none_above h.taken h.counts N.counts_few in
      rw A.counts (omega (arith, G, D, N.taken_few, slow, fine.bytes, front_length, A.from, few))

  -- ---- one line more
  module _ (e : ℕ) (C : Closed text at.place e) where
    abbrev held : List ℕ
    held = take (e - at.begin) (drop at.begin text)

    abbrev line : List ℕ
    line = take (e - at.place) (drop at.place text)

    abbrev size : ℕ
    size = at.place - at.begin

    held_length : length held ≡ e - at.begin
    held_length = length-take (e - at.begin) (drop at.begin text) ∙ omega (arith, length-drop at.begin text, C.hi, C.lo, A.order)

    line_length_lem : length line ≡ e - at.place
    line_length_lem = length-take (e - at.place) (drop at.place text) ∙ omega (arith, length-drop at.place text, C.hi, C.lo)

    ample : Ample at.counts (length held) (length (lent at.written out)) (length (lent at.warned places))
    ample =
        record {
          counts = below (omega (arith, C.lo, C.hi));
          room_long = omega (arith, held_length, C.hi, C.lo, A.order, lined_room.0, rest_length at.written out);
          places_long = omega (arith, lined_room.1, rest_length at.warned places);
        }

    there : size ≤ length held
    there = omega (arith, held_length, C.lo, A.order)

    held_front : take size held ≡ concat A.state.block
    held_front = take-take size (e - at.begin) (drop at.begin text) (omega (arith, C.lo, A.order)) ∙ A.block

    held_back : drop size held ≡ line
    held_back =
        let a : e - at.begin - size ≡ e - at.place = omega (arith, C.lo, A.order) in
        let b : at.begin + size ≡ at.place = omega (arith, A.order) in
        drop_take size (e - at.begin) (drop at.begin text)
        ∙ ap₂ (λ (j : ℕ) (x : List ℕ). take j x) a (drop-drop size at.begin text ∙ ap (λ (j : ℕ). drop j text) b)

    text_more : front ++ line ≡ take (e - from) (drop from text)
    text_more =
        let q : at.place - from + (e - at.place) ≡ e - from = omega (arith, C.lo, A.from) in
        let b : from + (at.place - from) ≡ at.place = omega (arith, A.from) in
        ap (λ (x : List ℕ). front ++ take (e - at.place) x) (ap (λ (j : ℕ). drop j text) (sym b) ∙ sym (drop-drop (at.place - from) from text))
        ∙ sym (take-add (at.place - from) (e - at.place) (drop from text)) ∙ ap (λ (j : ℕ). take j (drop from text)) q

    abbrev start : Run State
    start = going (start_state h text) h.lines [] []

    ran_more : run Q start (take (e - from) (drop from text)) ≡ line_end Q at.lines A.parts (take_line Q A.state at.lines line)
    ran_more =
        ap (run Q start) (sym text_more) ∙ run_append Q start front line ∙ ap (λ (r : Run State). run Q r line) A.ran
        ∙ run_line Q A.state at.lines A.parts [] line C.ends (omega (arith, line_length_lem, C.near))

    pub line_joins : (c.kind ≡ 0 → ⊥) → Joins c.kind at.lines (e - at.begin) line
        → Lining h m text (lined_of 0 (at.lines + 1) at.counts at.columns at.begin e at.written at.warned) out₀ out places₀ places
    line_joins z J =
        let q : e - at.begin ≡ length (concat A.state.block) + length line = omega (arith, block_size, line_length_lem, C.lo, A.order) in
        let x = join_says c.kind at.lines A.state line z (subst (λ (j : ℕ). Joins c.kind at.lines j line) q J) in
        record {
          starts = A.starts;
          from = omega (arith, A.from, C.lo);
          within = C.hi;
          order = omega (arith, A.order, C.lo);
          first = λ w. absurd (omega (arith, w));
          state = record { columns = A.state.columns; block = A.state.block ++ (line ∷ []) };
          parts = A.parts ++ [];
          ran = rw add-one (ran_more ∙ ap (line_end Q at.lines A.parts) x);
          columns = A.columns;
          block = sym (take-append-drop size held) ∙ ap₂ (λ (u v : List ℕ). u ++ v) held_front held_back ∙ sym (concat_snoc A.state.block line);
          counts = rw append-nil A.counts;
          wrote = rw append-nil A.wrote;
        }

    module _ (told : Taken) (y z : List ℕ)
        (d₀ : LineTells (take_in c (segments_of m) at.lines at.counts at.columns held size (length (lent at.written out)) (length (lent at.warned places)))
        at.counts told (lent at.written out) y (lent at.warned places) z) where
      done : Done c m A.state line (take_line Q A.state at.lines line) at.counts told (lent at.written out) y (lent at.warned places) z
      done =
          subst (λ (l : List ℕ). Done c m A.state l (take_line Q A.state at.lines l) at.counts told (lent at.written out) y (lent at.warned places) z) held_back
          (take_done c m at.lines at.counts at.columns held size told (lent at.written out) y (lent at.warned places) z ample there d₀ (ready h m text (length out₀) (length places₀) S) A.state A.columns held_front parsed)

      skip_room : told.skip ≤ e - at.place
      skip_room =
          omega (
            arith,
            take_skip c m at.lines at.counts at.columns held size told (lent at.written out) y (lent at.warned places) z ample there d₀,
            held_length,
            A.order,
          )

      pub skip_sum : at.begin + told.skip ≤ e
      skip_sum = omega (arith, skip_room, A.order, C.lo)

      -- only a first line has a BOM before it
      taken : LineTells (taken_in c (segments_of m) at.columns (bom_size at.lines (drop size held)) (take_line Q (state_of c.kind at.columns (take size held)) at.lines (drop size held)))
          at.counts told (lent at.written out) y (lent at.warned places) z
      unfolding take_in
      taken = rw (le-ltb (length held) size there, lent_fine at.counts (length held) (length (lent at.written out)) (length (lent at.warned places)) ample) at d₀

      skip_none : eqb at.lines 0 ≡ false → told.skip ≡ 0
      skip_none q =
          let x = take_line Q (state_of c.kind at.columns (take size held)) at.lines (drop size held) in
          omega (arith, taken.skip, skip_small c (segments_of m) at.columns (bom_size at.lines (drop size held)) x, later_none at.lines (drop size held) q)

      -- the open block is where it was, with the line behind it
      abbrev joined : List ℕ
      joined = take (e - (at.begin + told.skip)) (drop (at.begin + told.skip) text)

      joined_first : at.place ≡ at.begin → joined ≡ concat A.state.block ++ drop told.skip line
      joined_first q =
          let f : concat A.state.block ≡ [] = no_bytes (concat A.state.block) (omega (arith, block_size, q)) in
          let a : e - at.place - told.skip ≡ e - (at.begin + told.skip) = omega (arith, q) in
          let b : at.place + told.skip ≡ at.begin + told.skip = omega (arith, q) in
          sym
          (ap (λ (x : List ℕ). x ++ drop told.skip line) f ∙ drop_take told.skip (e - at.place) (drop at.place text)
          ∙ ap₂ (λ (j : ℕ) (x : List ℕ). take j x) a (drop-drop told.skip at.place text ∙ ap (λ (j : ℕ). drop j text) b))

      joined_later : told.skip ≡ 0 → joined ≡ concat A.state.block ++ drop told.skip line
      joined_later q =
          let a : e - (at.begin + told.skip) ≡ e - at.begin = omega (arith, q) in
          let b : at.begin + told.skip ≡ at.begin = omega (arith, q) in
          ap₂ (λ (j k : ℕ). take j (drop k text)) a b ∙ sym (take-append-drop size held) ∙ ap₂ (λ (u v : List ℕ). u ++ v) held_front held_back
          ∙ ap (λ (j : ℕ). concat A.state.block ++ drop j line) (sym q)

      joined_is : joined ≡ concat A.state.block ++ drop told.skip line
      joined_is = go (eqb at.lines 0) refl
        where
          go : (t : Bool) → eqb at.lines 0 ≡ t → joined ≡ concat A.state.block ++ drop told.skip line
          go true q = joined_first (A.first (eqb-true at.lines 0 q))
          go false q = joined_later (skip_none q)

      block_after : (a : Bool) → take (e - cond a (at.begin + told.skip) e) (drop (cond a (at.begin + told.skip) e) text) ≡ concat (cond a (A.state.block ++ (drop told.skip line ∷ [])) [])
      block_after true = joined_is ∙ sym (concat_snoc A.state.block (drop told.skip line))
      block_after false = let q : e - e ≡ 0 = omega arith in ap (λ (j : ℕ). take j (drop e text)) q

      begin_low : (a : Bool) → cond a (at.begin + told.skip) e ≤ e
      begin_low true = skip_sum
      begin_low false = omega arith

      -- the line passed
      passes : (x : Says State) → Done c m A.state line x at.counts told (lent at.written out) y (lent at.warned places) z
          → run Q start (take (e - from) (drop from text)) ≡ line_end Q at.lines A.parts x → told.number ≡ 0 → (b : ℕ) → b ≡ cond told.added (at.begin + told.skip) e
          → Lining h m text (next_of at told b e) out₀ (back at.written out y) places₀ (back at.warned places z)
      passes (faulty g) d r f b q = absurd (eqb-false (fault_number g) 0 (fault_number_lem g) (sym d.number ∙ f))
      passes (says u new) d r f b q =
          record {
            starts = A.starts;
            from = omega (arith, A.from, C.lo);
            within = C.hi;
            order = rw q (begin_low told.added);
            first = λ w. absurd (omega (arith, w));
            state = u;
            parts = A.parts ++ new;
            ran = rw add-one r;
            columns = d.columns;
            block = rw q (block_after told.added ∙ ap concat (sym (d.block f)));
            counts = counts_more c m h.counts A.parts new at.counts told.counts A.counts d.counts;
            wrote = wrote_more c m A.parts new at.written at.warned told.written told.warned out₀ places₀ out places y z A.wrote d.wrote;
          }

      pub line_passes : told.number ≡ 0 → (b : ℕ) → b ≡ cond told.added (at.begin + told.skip) e
          → Lining h m text (next_of at told b e) out₀ (back at.written out y) places₀ (back at.warned places z)
      line_passes f b q = passes (take_line Q A.state at.lines line) done ran_more f b q

      -- a fault leaves all as it was
      stays_by : (x : Says State) → Done c m A.state line x at.counts told (lent at.written out) y (lent at.warned places) z → (told.number ≡ 0 → ⊥)
          → Wrote c m A.parts at.written at.warned out₀ (back at.written out y) places₀ (back at.warned places z)
      stays_by (says u new) d f = absurd (f d.number)
      stays_by (faulty g) d f =
          let v = wrote_more c m A.parts [] at.written at.warned told.written told.warned out₀ places₀ out places y z A.wrote d.wrote in
          record {
            written = A.wrote.written;
            warned = A.wrote.warned;
            text = v.text ∙ ap (λ (x : List Part). put (output_of (emitted c m x)) out₀) (append-nil A.parts);
            warnings = v.warnings ∙ ap (λ (x : List Part). put (places_of (warnings_of (emitted c m x))) places₀) (append-nil A.parts);
          }

      pub line_stays : (told.number ≡ 0 → ⊥) → Lining h m text at out₀ (back at.written out y) places₀ (back at.warned places z)
      line_stays f =
          record {
            starts = A.starts;
            from = A.from;
            within = A.within;
            order = A.order;
            first = A.first;
            state = A.state;
            parts = A.parts;
            ran = A.ran;
            columns = A.columns;
            block = A.block;
            counts = A.counts;
            wrote = stays_by (take_line Q A.state at.lines line) done f;
          }

      line_stops : (x : Says State) → Done c m A.state line x at.counts told (lent at.written out) y (lent at.warned places) z → (told.number ≡ 0 → ⊥)
          → line_end Q at.lines A.parts x ≡ stopped told.number A.parts
      line_stops (says u new) d f = absurd (f d.number)
      line_stops (faulty g) d f = ap (λ (j : ℕ). stopped j A.parts) (sym d.number)

      rest_after : drop from text ≡ take (e - from) (drop from text) ++ drop (e - from) (drop from text)
      rest_after = sym (take-append-drop (e - from) (drop from text))

      fault_run : (told.number ≡ 0 → ⊥) → text_run h text ≡ stopped told.number A.parts
      fault_run f =
          sym (start_run h m text (length out₀) (length places₀) S) ∙ ap (run Q start) rest_after
          ∙ run_append Q start (take (e - from) (drop from text)) (drop (e - from) (drop from text))
          ∙ ap (λ (r : Run State). run Q r (drop (e - from) (drop from text))) (ran_more ∙ line_stops (take_line Q A.state at.lines line) done f)
          ∙ run_stopped Q told.number A.parts (drop (e - from) (drop from text))

      -- the text ends with the line's fault
      pub ends_fault : (told.number ≡ 0 → ⊥) → (r : Lined) → r ≡ lined_of told.number at.lines at.counts at.columns at.begin at.place at.written at.warned
          → Ends h m text (text_run h text) r out₀ (back at.written out y) places₀ (back at.warned places z)
      ends_fault f r q =
          rw q
          (subst (λ (x : Run State). Ends h m text x (lined_of told.number at.lines at.counts at.columns at.begin at.place at.written at.warned) out₀ (back at.written out y) places₀ (back at.warned places z))
          (sym (fault_run f)) (record { number = refl; counts = A.counts; wrote = stays_by (take_line Q A.state at.lines line) done f; keeps = tt }))

  -- ---- no line more
  abbrev rest : List ℕ
  rest = drop at.place text

  rest_split : drop from text ≡ front ++ rest
  rest_split =
      let b : from + (at.place - from) ≡ at.place = omega (arith, A.from) in
      sym (take-append-drop (at.place - from) (drop from text))
      ∙ ap (λ (x : List ℕ). front ++ x) (drop-drop (at.place - from) from text ∙ ap (λ (j : ℕ). drop j text) b)

  rest_run : text_run h text ≡ run Q (going A.state at.lines [] A.parts) rest
  rest_run =
      sym (start_run h m text (length out₀) (length places₀) S) ∙ ap (run Q (going (start_state h text) h.lines [] [])) rest_split
      ∙ run_append Q (going (start_state h text) h.lines [] []) front rest ∙ ap (λ (r : Run State). run Q r rest) A.ran

  left_length : length rest ≡ length text - at.place
  left_length = length-drop at.place text

  rest_held : drop at.begin text ≡ concat A.state.block ++ rest
  rest_held =
      let b : at.begin + (at.place - at.begin) ≡ at.place = omega (arith, A.order) in
      sym (take-append-drop (at.place - at.begin) (drop at.begin text))
      ∙ ap₂ (λ (x y : List ℕ). x ++ y) A.block (drop-drop (at.place - at.begin) at.begin text ∙ ap (λ (j : ℕ). drop j text) b)

  abbrev numbered : ℕ → Lined
  numbered k = lined_of k at.lines at.counts at.columns at.begin at.place at.written at.warned

  ends_open : text_run h text ≡ going A.state at.lines rest A.parts → Ends h m text (text_run h text) (numbered 0) out₀ out places₀ places
  ends_open q =
      subst (λ (x : Run State). Ends h m text x (numbered 0) out₀ out places₀ places) (sym q)
      (record {
        number = refl;
        counts = A.counts;
        wrote = A.wrote;
        keeps = record { lines = refl; columns = A.columns; within = omega (arith, A.order, A.within); bytes = rest_held };
      })

  ends_long : text_run h text ≡ stopped 19 A.parts → Ends h m text (text_run h text) (numbered 19) out₀ out places₀ places
  ends_long q =
      subst (λ (x : Run State). Ends h m text x (numbered 19) out₀ out places₀ places) (sym q)
      (record { number = refl; counts = A.counts; wrote = A.wrote; keeps = tt })

  take_rest : length rest ≤ most_line → take most_line rest ≡ rest
  take_rest k = take_all most_line rest k

  -- no LF ends a line any more: 19 where more than 4,096 bytes are left
  pub ends_rest : (e : ℕ) → LineEnd text at.place e → e ≡ 0 → (k : ℕ) → k ≡ cond (ltb most_line (length text - at.place)) 19 0 → (r : Lined) → r ≡ numbered k
      → Ends h m text (text_run h text) r out₀ out places₀ places
  ends_rest e C z k f r q = rw q (subst (λ (j : ℕ). Ends h m text (text_run h text) (numbered j) out₀ out places₀ places) (sym f) (go (ltb most_line (length text - at.place)) refl))
    where
      go : (t : Bool) → ltb most_line (length text - at.place) ≡ t → Ends h m text (text_run h text) (numbered (cond t 19 0)) out₀ out places₀ places
      go true x = ends_long (rest_run ∙ run_long Q A.state at.lines A.parts rest (C.none z) (omega (arith, ltb-true most_line (length text - at.place) x, left_length)))
      go false x =
          let y : length rest ≤ most_line = omega (arith, ltb-false most_line (length text - at.place) x, left_length) in
          ends_open (rest_run ∙ run_open Q A.state at.lines A.parts [] rest (ap has_lf (sym (take_rest y)) ∙ C.none z) (omega (arith, y)))

  -- every byte is taken
  pub ends_all : length text ≤ at.place → (r : Lined) → r ≡ numbered 0 → Ends h m text (text_run h text) r out₀ out places₀ places
  ends_all k r q =
      let y : rest ≡ [] = drop_of_length-le text k in
      rw q (ends_open (rest_run ∙ ap (run Q (going A.state at.lines [] A.parts)) y ∙ ap (λ (x : List ℕ). going A.state at.lines x A.parts) (sym y)))

-- ---- lines that only join
pub joins_not : (kind n size : ℕ) (l : List ℕ) → false ≡ true → Joins kind n size l
joins_not kind n size l e = absurd (true≢false (sym e))

pub joins_yes : (kind n size : ℕ) (l : List ℕ) (p r : Bool) → (n ≡ 0 → ⊥) → size ≤ 4096 → p ≡ blank_in kind l → p ≡ false → r ≡ utf8 l → r ≡ true → Joins kind n size l
joins_yes kind n size l p r h s e f g q = record { later = h; small = s; filled = sym e ∙ f; good = sym g ∙ q }

pub joins_known : (kind n size : ℕ) (l : List ℕ) (p g : Bool) → (n ≡ 0 → ⊥) → size ≤ 4096 → p ≡ blank_in kind l → p ≡ false → (g ≡ true → utf8 l ≡ true) → g ≡ true → true ≡ true → Joins kind n size l
joins_known kind n size l p g h s e f u q z = record { later = h; small = s; filled = sym e ∙ f; good = u q }

-- ---- the closed lines from i on are UTF-8 together: the line at i is, and so are the lines behind it
pub closed_good : (text : List ℕ) (i e : ℕ) (g : Bool) → Closed text i e → (g ≡ true → utf8 (concat (closed_lines (drop i text))) ≡ true) → g ≡ true → utf8 (take (e - i) (drop i text)) ≡ true
closed_good text i e g C f h = good_line text i e C.lo C.ends (f h)

pub closed_later : (text : List ℕ) (i e : ℕ) (g : Bool) → Closed text i e → (g ≡ true → utf8 (concat (closed_lines (drop i text))) ≡ true) → g ≡ true → utf8 (concat (closed_lines (drop e text))) ≡ true
closed_later text i e g C f h = good_later text i e C.lo C.ends (f h)

pub onto_none : (kind b : ℕ) (text : List ℕ) (n i : ℕ) → Onto kind b text n i n i
onto_none kind b text n i = λ h m t k o w out₀ out places₀ places q A. A

pub onto_more : (kind b : ℕ) (text : List ℕ) (n₀ i₀ n i e : ℕ) (r : Bool) → Onto kind b text n₀ i₀ n i → (kind ≡ 0 → ⊥) → Closed text i e
    → (r ≡ true → Joins kind n (e - b) (take (e - i) (drop i text))) → r ≡ true → Onto kind b text n₀ i₀ (n + 1) e
onto_more kind b text n₀ i₀ n i e r f z C J y = λ h m t k o w out₀ out places₀ places q A.
    line_joins h m text (lined_of 0 n t k b i o w) out₀ out places₀ places (f h m t k o w out₀ out places₀ places q A) e C (λ x. z (sym q ∙ x))
    (subst (λ (j : ℕ). Joins j n (e - b) (take (e - i) (drop i text))) (sym q) (J y))

-- ---- before the first line
pub lines_start : (h : Head) (m text out places : List ℕ) → Starts h m text (length out) (length places) → (i : ℕ) → i ≡ line_start h text
    → Lining h m text (lined_of 0 h.lines h.counts h.columns 0 i 0 0) out out places places
lines_start h m text out places B i e =
    rw e
    (record {
      starts = B;
      from = omega arith;
      within = start_within_lem h m text (length out) (length places) B;
      order = omega arith;
      first = start_first h m text (length out) (length places) B;
      state = start_state h text;
      parts = [];
      ran = let z : line_start h text - line_start h text ≡ 0 = omega arith in ap (λ (j : ℕ). run (machine_of h.config.kind) (going (start_state h text) h.lines [] []) (take j (drop (line_start h text) text))) z;
      columns = refl;
      block = let z : line_start h text - 0 ≡ line_start h text = omega arith in ap (λ (j : ℕ). take j text) z ∙ start_block h m text (length out) (length places) B;
      counts = sym (ap (count_all h.counts) (emits_none h.config (segments_of m)) ∙ count_none h.counts);
      wrote = wrote_none h.config m out places;
    })
