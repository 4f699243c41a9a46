-- Laws of one line and of a block's end: what the code told is what was said, put through the map.
use mathlib.Core.Path.{◌≡◌, refl, sym, ap, subst, ◌∙◌}
use mathlib.Core.Bool.{true≢false, Bool, true, false, cond, ◌||◌, not, ◌&&◌}
use mathlib.Core.List.{List, [], ◌∷◌, ◌++◌, append-nil}
use Prim.Native.Nat.{ℕ, zero, suc, ◌+◌, ◌-◌, ◌*◌, ◌≤◌, ◌<◌}
use native.Mathlib.Omega.{arith}
use native.Mathlib.Numerals.{add-one}
use lib.Dec.{eqb}
use lib.ListN.{length, take, drop, length-append}
use borrow.Author.Tests.{le-ltb, le-leb, lt-leb, eq-eqb, ne_eqb, eqb-false}
use Rattle.spec_base.specs.base.Limits.{most_block}
use Rattle.spec_base.specs.base.Put.{put, placed_at, place_after}
use Rattle.spec_base.proofs.base.PutLaws.{put_nil, then_placed}
use Rattle.spec_text.specs.utf8.Utf8.{utf8}
use Rattle.spec_text.specs.text.Line.{concat, lines_of, line_count}
use Rattle.spec_text.proofs.text.LineLaws.{lines_cut, lines_end, lines_joined}
use Rattle.spec_map.specs.declared.segment.Segment.{Segment}
use Rattle.spec_caption.specs.declared.caption_fate.Config.{Config}
use Rattle.spec_caption.specs.declared.caption_fate.Told.{Told}
use Rattle.spec_caption.specs.declared.caption_fate.Counted.{Counted}
use Rattle.spec_caption.specs.declared.caption_fate.Counted.TheVariants.{Nothing, Passed, Dropped, Shifted, Clipped}
use Rattle.spec_caption.specs.declared.caption_fate.Decision.{Decision}
use Rattle.spec_caption.specs.declared.caption_fate.Decision.TheVariants.{Strange, Dropped as Gone, Kept}
use Rattle.spec_caption.specs.caption_fate.Decide.{decide_in}
use Rattle.spec_caption.specs.caption_fate.Fates.{passed, dropped, shifted, clipped}
use Rattle.spec_caption.specs.caption_fate.Says.{Part, stays, passes, cue, Fault, fault_number}
use Rattle.spec_caption.specs.caption_fate.Emit.{Emit, emit, Caption, none, decided, emit_by, output_of, warnings_of, places_of}
use Rattle.spec_caption.specs.caption_fate.Told.{Answer, refusal, answered, cue_in, part_in, counted_of, Tells}
use Rattle.spec_ass.specs.declared.ass_columns.Columns.{Columns}
use Rattle.spec_ass.specs.ass_line.Line.{LineSays, line_says, faulty as lineFaulty, says as line_said}
use Rattle.spec_ass.specs.ass_line.AssThrough.{line_answer_in, line_in, columns_next, columns_after}
use Rattle.spec_ass.proofs.ass_line.LineFine.{columns_fine}
use Rattle.spec_cue.specs.block_timing.Style.{style_of, blank_in}
use Rattle.spec_cue.specs.block_timing.Header.{is_header, nothing_yet, header_due}
use Rattle.spec_cue.specs.block_cue.Block.{BlockSays, block_says, faulty as blockFaulty, says as block_said}
use Rattle.spec_cue.specs.block_cue.BlockThrough.{block_answer_in, block_in}
use Rattle.spec_cue.proofs.block_cue.Fits.{block_in_fits}
use Rattle.spec_machine.specs.declared.session_counts.Counts.{Counts}
use Rattle.spec_machine.specs.session_counts.Counts.{count, count_all}
use Rattle.spec_machine.specs.session_counts.Machine.{says}
use Rattle.spec_machine.proofs.session_counts.Emits.{output_append, warnings_append, count_append}
use Rattle.spec_machine.proofs.session_counts.Resume.{fault_number_lem}
use Rattle.spec_machine.specs.kinds.Takes.{State, blank_state, of_line, line_takes, of_block, closes, block_takes, head_takes, takes}
use Rattle.spec_session.specs.declared.session_lines.Taken.{Taken}
use Rattle.spec_session.specs.declared.session_lines.Ended.{Ended}
use Rattle.spec_session.specs.session_lines.LinesThrough.{strange_in, emitted_in, PartsAnswer, parts_refusal, answer_in, line_refusal, is_open, taken_in, state_of, EndTells, LineTells}
use Rattle.spec_session.specs.session_lines.Told.{count_by, quiet_line, quiet_end, blank_line}

-- ---- one more caption
module _ (t : Counts) (k : Counted) where
  pub count_nothing : k ≡ Nothing → t ≡ count_by k t
  count_nothing e = rw e

  pub count_passed : k ≡ Passed → ◌≡◌ {A = Counts} (record { shifted = t.shifted; clipped = t.clipped; dropped = t.dropped; passed = t.passed + 1 }) (count_by k t)
  count_passed e = rw (e, add-one)

  pub count_dropped : k ≡ Dropped → ◌≡◌ {A = Counts} (record { shifted = t.shifted; clipped = t.clipped; dropped = t.dropped + 1; passed = t.passed }) (count_by k t)
  count_dropped e = rw (e, add-one)

  pub count_shifted : k ≡ Shifted → ◌≡◌ {A = Counts} (record { shifted = t.shifted + 1; clipped = t.clipped; dropped = t.dropped; passed = t.passed }) (count_by k t)
  count_shifted e = rw (e, add-one)

  pub count_clipped : k ≡ Clipped → ◌≡◌ {A = Counts} (record { shifted = t.shifted; clipped = t.clipped + 1; dropped = t.dropped; passed = t.passed }) (count_by k t)
  count_clipped e = rw (e, add-one)

counted_same : (x : Caption) (t : Counts) → count_by (counted_of x) t ≡ count x t
counted_same none t = refl
counted_same (decided passed) t = refl
counted_same (decided dropped) t = refl
counted_same (decided (shifted s e)) t = refl
counted_same (decided (clipped s e)) t = refl

pub added_open : (l : List ℕ) (ls : List (List ℕ)) → is_open (ls ++ (l ∷ [])) ≡ true
added_open l [] = refl
added_open l (x ∷ ls) = refl

-- ---- what fits
put_fits : (v o o' : List ℕ) → o' ≡ put v o → length o' ≡ length o → length v ≤ length o
unfolding put
put_fits v o o' e f =
    let g : length (v ++ drop (length v) o) ≡ length o = sym (ap length e) ∙ f in
    let h : length v + length (drop (length v) o) ≡ length o = sym (length-append v (drop (length v) o)) ∙ g in
    omega arith

-- what was told fits in both buffers
pub told_within : (a : PartsAnswer) (t : Counts) (r : Ended) (o o' w w' : List ℕ) → EndTells a t r o o' w w' → length o' ≡ length o → length w' ≡ length w
    → (r.written ≤ length o) × (r.warned ≤ length w)
told_within a t r o o' w w' h p q =
    (omega (arith, h.written, put_fits (output_of a.emitted) o o' h.text p), omega (arith, h.warned, put_fits (places_of (warnings_of a.emitted)) w w' h.warnings q))

pub still_small : (r : Ended) (k : ℕ) (t : Counts) (x : ℕ) → r ≡ quiet_end k t → r.written ≤ x
still_small r k t x e = rw e (omega arith)

pub due_empty : (kind n : ℕ) (b : List (List ℕ)) → header_due kind n b ≡ true → b ≡ []
unfolding header_due
due_empty kind n [] e = refl
due_empty kind n (l ∷ ls) e = absurd (true≢false (sym e ∙ never n (eqb kind 2)))
  where
    never : (n : ℕ) (t : Bool) → (t && nothing_yet n (l ∷ ls)) ≡ false
    never zero true = refl
    never zero false = refl
    never (suc n) true = refl
    never (suc n) false = refl

-- ---- a refusal
pub fault_numbered : (f : Fault) → fault_number f ≡ 0 → ⊥
fault_numbered f e = eqb-false (fault_number f) 0 (fault_number_lem f) e

module _ (t : Counts) where
  pub end_refused : (k : ℕ) (r : Ended) (o w : List ℕ) → r ≡ quiet_end k t → EndTells (parts_refusal k) t r o o w w
  unfolding output_of warnings_of places_of count_all
  end_refused k r o w e = rw e (record { number = refl; counts = refl; written = refl; warned = refl; text = sym (put_nil o); warnings = sym (put_nil w) })

  pub line_refused : (k : ℕ) (c : Columns) (r : Taken) (o w : List ℕ) → r ≡ quiet_line k false t c → LineTells (line_refusal k c) t r o o w w
  line_refused k c r o w e = rw e (record { said = end_refused k (quiet_end k t) o w refl; columns = refl; skip = refl; added = refl })

  -- a callee's
  told_refused : (k : ℕ) (x : Told) (o o' w w' : List ℕ) → Tells (refusal k) x o o' w w' → EndTells (parts_refusal k) t (quiet_end x.number t) o o' w w'
  unfolding output_of warnings_of places_of count_all
  told_refused k x o o' w w' b = record { number = b.number; counts = refl; written = refl; warned = refl; text = b.text; warnings = b.warnings }

  -- a refused end of a block wrote nothing
  end_none_written : (k : ℕ) (e : Ended) (o o' w w' : List ℕ) → EndTells (parts_refusal k) t e o o' w w' → EndTells (parts_refusal k) t (quiet_end e.number t) o o' w w'
  unfolding output_of warnings_of places_of count_all
  end_none_written k e o o' w w' b = record { number = b.number; counts = refl; written = refl; warned = refl; text = b.text; warnings = b.warnings }

  line_of_lem : (k : ℕ) (c : Columns) (n : ℕ) (r : Taken) (o o' w w' : List ℕ) → EndTells (parts_refusal k) t (quiet_end n t) o o' w w' → r ≡ quiet_line n false t c
      → LineTells (line_refusal k c) t r o o' w w'
  line_of_lem k c n r o o' w w' b e = rw e (record { said = b; columns = refl; skip = refl; added = refl })

module _ (c : Config) (m : List Segment) where
  -- ---- a part
  part_strange : (p : Part) → ((part_in c m p).number ≡ 0 → ⊥) → part_in c m p ≡ refusal 15
  unfolding part_in
  part_strange (stays l) z = absurd (z refl)
  part_strange (passes x n l) z = absurd (z refl)
  part_strange (cue q) z = go (decide_in c m q.start q.stop) z
    where
      go : (d : Decision) → ((cue_in c.kind q d).number ≡ 0 → ⊥) → cue_in c.kind q d ≡ refusal 15
      go Strange z = refl
      go Gone z = absurd (z refl)
      go (Kept r) z = absurd (z refl)

  stays_plain : (l : List ℕ) → part_in c m (stays l) ≡ answered (emit l [] none)
  unfolding part_in emit_by
  stays_plain l = refl

  strange_some : (p : Part) (ps : List Part) → ((part_in c m p).number ≡ 0 → ⊥) → strange_in c m (p ∷ ps) ≡ true
  unfolding strange_in
  strange_some p ps z = rw (ne_eqb (part_in c m p).number 0 z)

  pub strange_rest : (p : Part) (ps : List Part) → (part_in c m p).number ≡ 0 → strange_in c m (p ∷ ps) ≡ strange_in c m ps
  unfolding strange_in
  strange_rest p ps e = rw (eq-eqb (part_in c m p).number 0 e)

  pub strange_none : strange_in c m [] ≡ false
  unfolding strange_in
  strange_none = refl

  -- a line that stays is never strange
  pub strange_stays : (l : List ℕ) (ps : List Part) → strange_in c m (stays l ∷ ps) ≡ strange_in c m ps
  strange_stays l ps = strange_rest (stays l) ps (ap (λ (x : Answer). x.number) (stays_plain l))

  pub emits_stays : (l : List ℕ) (ps : List Part) → emitted_in c m (stays l ∷ ps) ≡ emit l [] none ∷ emitted_in c m ps
  unfolding emitted_in
  emits_stays l ps = ap (λ (x : Answer). x.emitted ∷ emitted_in c m ps) (stays_plain l)

  module _ (t : Counts) (x : Told) (o o' w w' : List ℕ) where
    one_strange : (p : Part) → Tells (part_in c m p) x o o' w w' → (x.number ≡ 0 → ⊥)
        → (strange_in c m (p ∷ []) ≡ true) × EndTells (parts_refusal 15) t (quiet_end x.number t) o o' w w'
    one_strange p b z =
        let f : (part_in c m p).number ≡ 0 → ⊥ = λ e. z (b.number ∙ e) in
        (strange_some p [] f, told_refused t 15 x o o' w w' (subst (λ (y : Answer). Tells y x o o' w w') (part_strange p f) b))

    one_plain : (p : Part) → Tells (part_in c m p) x o o' w w' → x.number ≡ 0 → strange_in c m (p ∷ []) ≡ false
    one_plain p b z = strange_rest p [] (sym b.number ∙ z) ∙ strange_none

    one_said : (p : Part) (q : Counts) → Tells (part_in c m p) x o o' w w' → q ≡ count_by x.counted t
        → EndTells (record { number = 0; emitted = emitted_in c m (p ∷ []) }) t (record { number = 0; counts = q; written = x.written; warned = x.warned }) o o' w w'
    unfolding emitted_in output_of warnings_of count_all
    one_said p q b e =
        let f : (part_in c m p).emitted.out ++ [] ≡ (part_in c m p).emitted.out = append-nil (part_in c m p).emitted.out in
        let g = append-nil (part_in c m p).emitted.warnings in
        record {
          number = refl;
          counts = e ∙ ap (λ (k : Counted). count_by k t) b.counted ∙ counted_same (part_in c m p).emitted.caption t;
          written = b.written ∙ ap length (sym f);
          warned = b.warned ∙ ap (λ v. length (places_of v)) (sym g);
          text = b.text ∙ ap (λ (v : List ℕ). put v o) (sym f);
          warnings = b.warnings ∙ ap (λ v. put (places_of v) w) (sym g);
        }

  -- ---- an ASS line
  module _ (n : ℕ) (t : Counts) (k : Columns) (l : List ℕ) where
    abbrev before : State
    before = record { columns = k; block = [] }

    abbrev pub AssTells : Taken → (o o' w w' : List ℕ) → Type 0
    AssTells r o o' w w' = LineTells (taken_in c m k 0 (line_takes before n l)) t r o o' w w'

    pub ass_20 : (r : Taken) (o w : List ℕ) → utf8 l ≡ false → r ≡ quiet_line 20 false t k → AssTells r o o w w
    unfolding line_takes
    ass_20 r o w h e = rw h (line_refused t 20 k r o w e)

    line_room : (o w : List ℕ) → 3 * length l ≤ length o → 4 ≤ length w → line_in c m k n l (length o) (length w) ≡ line_answer_in c m (line_says k n l)
    unfolding line_in
    line_room o w h i = rw (le-ltb (length o) (3 * length l) h, le-ltb (length w) 4 i)

    line_fault_lem : (y : LineSays) (x : Told) (r : Taken) (o o' w w' : List ℕ) → Tells (line_answer_in c m y) x o o' w w' → (x.number ≡ 0 → ⊥)
        → r ≡ quiet_line x.number false t k → LineTells (taken_in c m k 0 (of_line before y)) t r o o' w w'
    line_fault_lem (lineFaulty f) x r o o' w w' b z e = line_of_lem t _ k x.number r o o' w w' (told_refused t _ x o o' w w' b) e
    line_fault_lem (line_said d p) x r o o' w w' b z e =
        let s = one_strange t x o o' w w' p b z in
        rw s.0 (line_of_lem t 15 k x.number r o o' w w' s.1 e)

    pub ass_fault_lem : (x : Told) (r : Taken) (o o' w w' : List ℕ) → 3 * length l ≤ length o → 4 ≤ length w → utf8 l ≡ true
        → Tells (line_in c m k n l (length o) (length w)) x o o' w w' → (x.number ≡ 0 → ⊥) → r ≡ quiet_line x.number false t k → AssTells r o o' w w'
    unfolding line_takes
    ass_fault_lem x r o o' w w' h i u b z e =
        rw u (line_fault_lem (line_says k n l) x r o o' w w' (subst (λ (y : Answer). Tells y x o o' w w') (line_room o w h i) b) z e)

    line_said_lem : (y : LineSays) (x : Told) (v : Columns) (q : Counts) (o o' w w' : List ℕ) → Tells (line_answer_in c m y) x o o' w w' → x.number ≡ 0
        → v ≡ columns_after k y → q ≡ count_by x.counted t
        → LineTells (taken_in c m k 0 (of_line before y)) t (record { number = 0; skip = 0; added = false; counts = q; columns = v; written = x.written; warned = x.warned }) o o' w w'
    line_said_lem (lineFaulty f) x v q o o' w w' b z a e = absurd (fault_numbered f (sym b.number ∙ z))
    line_said_lem (line_said d p) x v q o o' w w' b z a e =
        rw (one_plain t x o o' w w' p b z) (record { said = one_said t x o o' w w' p q b e; columns = a; skip = refl; added = refl })

    pub ass_said_lem : (x : Told) (v : Columns) (q : Counts) (o o' w w' : List ℕ) → 3 * length l ≤ length o → 4 ≤ length w → utf8 l ≡ true
        → Tells (line_in c m k n l (length o) (length w)) x o o' w w' → x.number ≡ 0 → v ≡ columns_next k n l (length o) (length w) → q ≡ count_by x.counted t
        → AssTells (record { number = 0; skip = 0; added = false; counts = q; columns = v; written = x.written; warned = x.warned }) o o' w w'
    unfolding line_takes
    ass_said_lem x v q o o' w w' h i u b z e f =
        rw u
        (line_said_lem (line_says k n l) x v q o o' w w' (subst (λ (y : Answer). Tells y x o o' w w') (line_room o w h i) b) z
        (e ∙ columns_fine k n l (length o) (length w) h i) f)

  -- ---- the end of a block
  module _ (n : ℕ) (t : Counts) (b : List ℕ) where
    abbrev pub BlockTells : Ended → (o o' w w' : List ℕ) → Type 0
    BlockTells r o o' w w' = EndTells (answer_in c m (closes (style_of c.kind) blank_state n (lines_of b) [])) t r o o' w w'

    pub end_empty : (r : Ended) (o w : List ℕ) → length b ≡ 0 → r ≡ quiet_end 0 t → BlockTells r o o w w
    unfolding emitted_in
    end_empty r o w h e = rw (lines_end b (omega arith), strange_none) (end_refused t 0 r o w e)

    -- a block that has a line is read
    closes_some : (s : State) (more : List Part) → 0 < length b
        → closes (style_of c.kind) s n (lines_of b) more ≡ of_block s more (block_says (style_of c.kind) (suc n - line_count (lines_of b)) (lines_of b))
    closes_some s more h = rw (lines_cut b h)

    block_fault_lem : (y : BlockSays) (x : Told) (o o' w w' : List ℕ) → Tells (block_answer_in c m y) x o o' w w' → (x.number ≡ 0 → ⊥)
        → EndTells (answer_in c m (of_block blank_state [] y)) t (quiet_end x.number t) o o' w w'
    block_fault_lem (blockFaulty f) x o o' w w' g z = told_refused t _ x o o' w w' g
    block_fault_lem (block_said p) x o o' w w' g z = let s = one_strange t x o o' w w' p g z in rw s.0 s.1

    block_said_lem : (y : BlockSays) (x : Told) (q : Counts) (o o' w w' : List ℕ) → Tells (block_answer_in c m y) x o o' w w' → x.number ≡ 0 → q ≡ count_by x.counted t
        → EndTells (answer_in c m (of_block blank_state [] y)) t (record { number = 0; counts = q; written = x.written; warned = x.warned }) o o' w w'
    block_said_lem (blockFaulty f) x q o o' w w' g z e = absurd (fault_numbered f (sym g.number ∙ z))
    block_said_lem (block_said p) x q o o' w w' g z e = rw (one_plain t x o o' w w' p g z) (one_said t x o o' w w' p q g e)

    module _ (x : Told) (k first : ℕ) (o o' w w' : List ℕ) (h : 3 * length b ≤ length o) (i : 4 ≤ length w) (some : length b ≡ 0 → ⊥)
        (e : k ≡ line_count (lines_of b)) (f : first ≡ suc n - k) (g : Tells (block_in c m first b (length o) (length w)) x o o' w w') where
      long : 0 < length b
      long = omega (arith, some)

      block_room : block_in c m first b (length o) (length w) ≡ block_answer_in c m (block_says (style_of c.kind) (suc n - line_count (lines_of b)) (lines_of b))
      unfolding block_in
      block_room =
          rw (le-ltb (length o) (3 * length b) h, le-ltb (length w) 4 (omega arith))
          (ap (λ (j : ℕ). block_answer_in c m (block_says (style_of c.kind) j (lines_of b))) (f ∙ ap (λ (j : ℕ). suc n - j) e))

      read : Tells (block_answer_in c m (block_says (style_of c.kind) (suc n - line_count (lines_of b)) (lines_of b))) x o o' w w'
      read = subst (λ (y : Answer). Tells y x o o' w w') block_room g

      pub end_fault : (r : Ended) → (x.number ≡ 0 → ⊥) → r ≡ quiet_end x.number t → BlockTells r o o' w w'
      end_fault r z v =
          rw (closes_some blank_state [] long, v) (block_fault_lem (block_says (style_of c.kind) (suc n - line_count (lines_of b)) (lines_of b)) x o o' w w' read z)

      pub end_said : (q : Counts) → x.number ≡ 0 → q ≡ count_by x.counted t → BlockTells (record { number = 0; counts = q; written = x.written; warned = x.warned }) o o' w w'
      end_said q z v =
          rw (closes_some blank_state [] long) (block_said_lem (block_says (style_of c.kind) (suc n - line_count (lines_of b)) (lines_of b)) x q o o' w w' read z v)

    -- at most three bytes for each of the block
    pub end_fits : (x : Told) (first : ℕ) (o o' w w' : List ℕ) → Tells (block_in c m first b (length o) (length w)) x o o' w w' → x.written ≤ 3 * length b
    end_fits x first o o' w w' g = omega (arith, g.written, (block_in_fits c m first b (length o) (length w)).output)

  -- ---- a line of SRT or WebVTT
  emits_snoc : (ps : List Part) (l : List ℕ) → emitted_in c m (ps ++ (stays l ∷ [])) ≡ emitted_in c m ps ++ (emit l [] none ∷ [])
  unfolding emitted_in
  emits_snoc [] l = emits_stays l []
  emits_snoc (p ∷ ps) l = ap (λ (x : List Emit). (part_in c m p).emitted ∷ x) (emits_snoc ps l)

  strange_snoc : (ps : List Part) (l : List ℕ) → strange_in c m (ps ++ (stays l ∷ [])) ≡ strange_in c m ps
  unfolding strange_in
  strange_snoc [] l = strange_stays l []
  strange_snoc (p ∷ ps) l = ap (λ (x : Bool). not (eqb (part_in c m p).number 0) || x) (strange_snoc ps l)

  -- a line behind what was emitted
  line_behind : (es : List Emit) (l : List ℕ) (t : Counts) (e : Ended) (j : ℕ) (o o' y w w' : List ℕ) → EndTells (record { number = 0; emitted = es }) t e o o' w w'
      → e.written + length l ≤ length o → j ≡ place_after e.written l o' → y ≡ placed_at e.written l o'
      → EndTells (record { number = 0; emitted = es ++ (emit l [] none ∷ []) }) t (record { number = 0; counts = e.counts; written = j; warned = e.warned }) o y w w'
  unfolding output_of warnings_of count_all
  line_behind es l t e j o o' y w w' h r p q =
      let f : output_of (es ++ (emit l [] none ∷ [])) ≡ output_of es ++ l = output_append es (emit l [] none ∷ []) ∙ ap (λ (v : List ℕ). output_of es ++ v) (append-nil l) in
      let g : warnings_of (es ++ (emit l [] none ∷ [])) ≡ warnings_of es = warnings_append es (emit l [] none ∷ []) ∙ append-nil (warnings_of es) in
      let room : length (output_of es ++ l) ≤ length o = rw (length-append (output_of es) l) (omega (arith, h.written, r)) in
      let z = then_placed e.written j (output_of es) l o o' y h.text h.written room p q in
      record {
        number = refl;
        counts = h.counts ∙ sym (count_append t es (emit l [] none ∷ []));
        written = z.1 ∙ ap length (sym f);
        warned = h.warned ∙ ap (λ v. length (places_of v)) (sym g);
        text = z.0 ∙ ap (λ (v : List ℕ). put v o) (sym f);
        warnings = h.warnings ∙ ap (λ v. put (places_of v) w) (sym g);
      }

  module _ (n : ℕ) (t : Counts) (k : Columns) (block l : List ℕ) where
    abbrev holding : State
    holding = record { columns = k; block = lines_of block }

    abbrev pub SrtTells : Taken → (o o' w w' : List ℕ) → Type 0
    SrtTells r o o' w w' = LineTells (taken_in c m k 0 (block_takes (style_of c.kind) holding n l)) t r o o' w w'

    pub srt_20 : (r : Taken) (o w : List ℕ) → utf8 l ≡ false → r ≡ quiet_line 20 false t k → SrtTells r o o w w
    unfolding block_takes
    srt_20 r o w h e = rw h (line_refused t 20 k r o w e)

    -- the parts of a block's end, then the line
    module _ (e : Ended) (o o' w w' : List ℕ) (ps : List Part) (s : State) where
      abbrev Before : Type 0
      Before = EndTells (cond (strange_in c m ps) (parts_refusal 15) (record { number = 0; emitted = emitted_in c m ps })) t e o o' w w'

      parts_fault : (r : Taken) → Before → (e.number ≡ 0 → ⊥) → r ≡ quiet_line e.number false t k → LineTells (taken_in c m k 0 (says s (ps ++ (stays l ∷ [])))) t r o o' w w'
      parts_fault r b z q = rw (strange_snoc ps l) (go (strange_in c m ps) b)
        where
          go : (u : Bool) → EndTells (cond u (parts_refusal 15) (record { number = 0; emitted = emitted_in c m ps })) t e o o' w w'
              → LineTells (cond u (line_refusal 15 k) (record { said = record { number = 0; emitted = emitted_in c m (ps ++ (stays l ∷ [])) }; columns = s.columns; skip = 0; added = is_open s.block })) t r o o' w w'
          go true b = line_of_lem t 15 k e.number r o o' w w' (end_none_written t 15 e o o' w w' b) q
          go false b = absurd (z b.number)

      parts_said : (j : ℕ) (y : List ℕ) → Before → e.number ≡ 0 → s.columns ≡ k → s.block ≡ [] → e.written + length l ≤ length o → j ≡ place_after e.written l o' → y ≡ placed_at e.written l o'
          → LineTells (taken_in c m k 0 (says s (ps ++ (stays l ∷ [])))) t (blank_line k e j) o y w w'
      parts_said j y b z d v i p q = rw (strange_snoc ps l) (go (strange_in c m ps) b)
        where
          go : (u : Bool) → EndTells (cond u (parts_refusal 15) (record { number = 0; emitted = emitted_in c m ps })) t e o o' w w'
              → LineTells (cond u (line_refusal 15 k) (record { said = record { number = 0; emitted = emitted_in c m (ps ++ (stays l ∷ [])) }; columns = s.columns; skip = 0; added = is_open s.block })) t (blank_line k e j) o y w w'
          go true b = absurd (let x : ◌≡◌ {A = ℕ} 0 15 = sym z ∙ b.number in omega arith)
          go false b =
              record {
                said = rw (emits_snoc ps l) (line_behind (emitted_in c m ps) l t e j o o' y w w' b i p q);
                columns = sym d;
                skip = refl;
                added = ap is_open (sym v);
              }

    module _ (e : Ended) (o o' w w' : List ℕ) (ls : List (List ℕ)) (b : EndTells (answer_in c m (closes (style_of c.kind) blank_state n ls [])) t e o o' w w') where
      blank_fault : (r : Taken) → (e.number ≡ 0 → ⊥) → r ≡ quiet_line e.number false t k → LineTells (taken_in c m k 0 (closes (style_of c.kind) holding n ls (stays l ∷ []))) t r o o' w w'
      blank_fault r z q = go ls b
        where
          said : (x : BlockSays) → EndTells (answer_in c m (of_block blank_state [] x)) t e o o' w w' → LineTells (taken_in c m k 0 (of_block holding (stays l ∷ []) x)) t r o o' w w'
          said (blockFaulty f) b = line_of_lem t (fault_number f) k e.number r o o' w w' (end_none_written t (fault_number f) e o o' w w' b) q
          said (block_said p) b = parts_fault e o o' w w' (p ∷ []) (record { columns = k; block = [] }) r b z q

          go : (ls : List (List ℕ)) → EndTells (answer_in c m (closes (style_of c.kind) blank_state n ls [])) t e o o' w w' → LineTells (taken_in c m k 0 (closes (style_of c.kind) holding n ls (stays l ∷ []))) t r o o' w w'
          go [] b = parts_fault e o o' w w' [] (record { columns = k; block = [] }) r b z q
          go (v ∷ ls) b = said (block_says (style_of c.kind) (suc n - line_count (v ∷ ls)) (v ∷ ls)) b

      blank_said : (j : ℕ) (y : List ℕ) → e.number ≡ 0 → e.written + length l ≤ length o → j ≡ place_after e.written l o' → y ≡ placed_at e.written l o'
          → LineTells (taken_in c m k 0 (closes (style_of c.kind) holding n ls (stays l ∷ []))) t (blank_line k e j) o y w w'
      blank_said j y z i p q = go ls b
        where
          said : (x : BlockSays) → EndTells (answer_in c m (of_block blank_state [] x)) t e o o' w w' → LineTells (taken_in c m k 0 (of_block holding (stays l ∷ []) x)) t (blank_line k e j) o y w w'
          said (blockFaulty f) b = absurd (fault_numbered f (sym b.number ∙ z))
          said (block_said u) b = parts_said e o o' w w' (u ∷ []) (record { columns = k; block = [] }) j y b z refl refl i p q

          go : (ls : List (List ℕ)) → EndTells (answer_in c m (closes (style_of c.kind) blank_state n ls [])) t e o o' w w' → LineTells (taken_in c m k 0 (closes (style_of c.kind) holding n ls (stays l ∷ []))) t (blank_line k e j) o y w w'
          go [] b = parts_said e o o' w w' [] (record { columns = k; block = [] }) j y b z refl refl i p q
          go (v ∷ ls) b = said (block_says (style_of c.kind) (suc n - line_count (v ∷ ls)) (v ∷ ls)) b

    pub srt_22 : (e : Ended) (r : Taken) (o o' w w' : List ℕ) → utf8 l ≡ true → blank_in c.kind l ≡ true → BlockTells n t block e o o' w w' → (e.number ≡ 0 → ⊥)
        → r ≡ quiet_line e.number false t k → SrtTells r o o' w w'
    unfolding block_takes
    srt_22 e r o o' w w' h i g z q = rw (h, i) (blank_fault e o o' w w' (lines_of block) g r z q)

    pub srt_blank : (e : Ended) (j : ℕ) (r : Taken) (o o' y w w' : List ℕ) → utf8 l ≡ true → blank_in c.kind l ≡ true → BlockTells n t block e o o' w w' → e.number ≡ 0
        → 3 * (length block + length l) ≤ length o → e.written ≤ 3 * length block → j ≡ place_after e.written l o' → y ≡ placed_at e.written l o'
        → r ≡ blank_line k e j → SrtTells r o y w w'
    unfolding block_takes
    srt_blank e j r o o' y w w' h i g z room f p q d = rw (h, i, d) (blank_said e o o' w w' (lines_of block) g j y z (omega arith) p q)

    pub srt_21 : (r : Taken) (o w : List ℕ) → utf8 l ≡ true → blank_in c.kind l ≡ false → 4096 < length block + length l → r ≡ quiet_line 21 false t k → SrtTells r o o w w
    unfolding block_takes
    srt_21 r o w h i z e =
        let y : most_block < length (concat (lines_of block)) + length l = rw lines_joined z in
        rw (h, i, lt-leb _ _ y) (line_refused t 21 k r o w e)

    pub srt_add : (r : Taken) (o w : List ℕ) → utf8 l ≡ true → blank_in c.kind l ≡ false → length block + length l ≤ 4096 → r ≡ quiet_line 0 true t k → SrtTells r o o w w
    unfolding block_takes emitted_in
    srt_add r o w h i z e =
        let y : length (concat (lines_of block)) + length l ≤ most_block = rw lines_joined z in
        rw (h, i, le-leb _ _ y, strange_none, e)
        (record { said = end_refused t 0 (quiet_end 0 t) o w refl; columns = refl; skip = refl; added = sym (added_open l (lines_of block)) })

  -- ---- the first line of a WebVTT text
  module _ (t : Counts) (k : Columns) (l : List ℕ) where
    abbrev bare : State
    bare = record { columns = k; block = [] }

    abbrev pub HeadTells : Taken → (o o' w w' : List ℕ) → Type 0
    HeadTells r o o' w w' = LineTells (taken_in c m k 0 (head_takes bare l)) t r o o' w w'

    pub head_20 : (r : Taken) (o w : List ℕ) → utf8 l ≡ false → r ≡ quiet_line 20 false t k → HeadTells r o o w w
    unfolding head_takes
    head_20 r o w h e = rw h (line_refused t 20 k r o w e)

    pub head_24 : (r : Taken) (o w : List ℕ) → utf8 l ≡ true → is_header l ≡ false → r ≡ quiet_line 24 false t k → HeadTells r o o w w
    unfolding head_takes
    head_24 r o w h i e = rw (h, i) (line_refused t 24 k r o w e)

    pub head_said_lem : (e : Ended) (j : ℕ) (r : Taken) (o y w : List ℕ) → utf8 l ≡ true → is_header l ≡ true → 3 * length l ≤ length o → e ≡ quiet_end 0 t → j ≡ place_after 0 l o → y ≡ placed_at 0 l o
        → r ≡ blank_line k e j → HeadTells r o y w w
    unfolding head_takes emitted_in
    head_said_lem e j r o y w h i room q p v d =
        rw (h, i, d, q)
        (parts_said 0 t k [] l (quiet_end 0 t) o o w w [] bare j y (rw strange_none (end_refused t 0 (quiet_end 0 t) o w refl)) refl refl refl (omega arith) p v)

  -- ---- a line of any kind
  module _ (n : ℕ) (t : Counts) (k : Columns) (held : List ℕ) (s a : ℕ) where
    abbrev pub AnyTells : Taken → (o o' w w' : List ℕ) → Type 0
    AnyTells r o o' w w' = LineTells (taken_in c m k 0 (takes c.kind (state_of c.kind k (take s held)) n (drop a held))) t r o o' w w'

    pub any_ass : (r : Taken) (l o o' w w' : List ℕ) → c.kind ≡ 0 → l ≡ drop a held → AssTells n t k l r o o' w w' → AnyTells r o o' w w'
    unfolding takes
    any_ass r l o o' w w' z e g = rw (eq-eqb c.kind 0 z, ← e) g

    pub any_srt : (r : Taken) (b l o o' w w' : List ℕ) → (c.kind ≡ 0 → ⊥) → b ≡ take s held → l ≡ drop a held → header_due c.kind n (lines_of b) ≡ false
        → SrtTells n t k b l r o o' w w' → AnyTells r o o' w w'
    unfolding takes
    any_srt r b l o o' w w' z d e y g = rw (ne_eqb c.kind 0 z, ← d, ← e, y) g

    -- no line is held where a header is due
    pub any_head : (r : Taken) (b l o o' w w' : List ℕ) → (c.kind ≡ 0 → ⊥) → b ≡ take s held → l ≡ drop a held → header_due c.kind n (lines_of b) ≡ true
        → HeadTells t k l r o o' w w' → AnyTells r o o' w w'
    unfolding takes
    any_head r b l o o' w w' z d e y g = rw (ne_eqb c.kind 0 z, ← d, ← e, y, due_empty c.kind n (lines_of b) y) g
