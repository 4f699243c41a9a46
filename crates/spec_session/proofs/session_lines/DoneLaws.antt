-- Where kind, timescale and map are good and enough is lent, a line and the end of a block tell what document 01 says of them.
use mathlib.Core.Path.{◌≡◌, refl, sym, ap, ap₂, subst, ◌∙◌}
use mathlib.Core.Bool.{Bool, true, false, cond, ◌&&◌}
use mathlib.Core.List.{List, [], ◌∷◌, ◌++◌}
use Prim.Native.Nat.{ℕ, suc, ◌+◌, ◌-◌, ◌*◌, ◌≤◌}
use native.Mathlib.Omega.{arith}
use lib.Dec.{eqb, leb}
use lib.ListN.{length, take, drop, length-drop}
use borrow.Author.Tests.{le-ltb}
use Rattle.spec_base.specs.base.Limits.{most_block}
use Rattle.spec_base.specs.base.Put.{put}
use Rattle.spec_text.specs.utf8.Utf8.{utf8}
use Rattle.spec_text.specs.text.Line.{concat, lines_of, line_count}
use Rattle.spec_map.specs.declared.segment.Segment.{Segment}
use Rattle.spec_map.specs.segment.Segment.{segments_of}
use Rattle.spec_caption.specs.declared.caption_fate.Config.{Config}
use Rattle.spec_caption.specs.caption_fate.Says.{Part, stays, not_utf8, bad_header}
use Rattle.spec_caption.specs.caption_fate.Emit.{Emit, emit_by, emit_of, emits_of, output_of, warnings_of, places_of}
use Rattle.spec_caption.specs.caption_fate.Told.{Answer, answered, part_in}
use Rattle.spec_caption.proofs.caption_fate.FineLaws.{Set}
use Rattle.spec_ass.specs.declared.ass_columns.Columns.{Columns}
use Rattle.spec_ass.specs.ass_line.Line.{LineSays, line_says, faulty as lineFaulty, says as line_said}
use Rattle.spec_ass.specs.ass_line.AssThrough.{line_answer, line_answer_in, line_in}
use Rattle.spec_ass.proofs.ass_line.LineFine.{line_fine}
use Rattle.spec_cue.specs.block_timing.Style.{style_of}
use Rattle.spec_cue.specs.block_timing.Header.{is_header, header_due}
use Rattle.spec_cue.specs.block_cue.Block.{BlockSays, block_says, faulty as blockFaulty, says as block_said}
use Rattle.spec_cue.specs.block_cue.BlockThrough.{block_answer, block_answer_in, block_in}
use Rattle.spec_cue.proofs.block_cue.FineBlock.{block_fine}
use Rattle.spec_machine.specs.declared.session_counts.Counts.{Counts}
use Rattle.spec_machine.specs.session_counts.Counts.{count_all}
use Rattle.spec_machine.specs.session_counts.Machine.{has_bom, Says, faulty, says, bom, with_bom, line_with, take_line}
use Rattle.spec_machine.specs.session_counts.Session.{emitted}
use Rattle.spec_machine.proofs.session_counts.OpenLines.{bom_length_lem}
use Rattle.spec_machine.specs.kinds.Takes.{State, blank_state, with_block, of_line, line_takes, of_block, closes, adds, block_takes, head_takes, takes, machine_of}
use Rattle.spec_session.specs.declared.session_lines.Taken.{Taken}
use Rattle.spec_session.specs.declared.session_lines.Ended.{Ended}
use Rattle.spec_session.specs.session_lines.LinesThrough.{strange_in, emitted_in, parts_refusal, answer_in, line_refusal, is_open, taken_in, text_ends, end_in, state_of, bom_size, take_in, EndTells, ended_by, LineTells}
use Rattle.spec_session.specs.session_lines.Done.{Ready, Ample, Parsed, Wrote, Ends, Done}
use Rattle.spec_session.proofs.session_lines.TellLaws.{fault_numbered, strange_rest, strange_none, added_open, due_empty}
use Rattle.spec_session.proofs.session_lines.LentLaws.{lent_fine}

-- ---- what is said is decided as document 01 decides it
module _ (c : Config) (m : List ℕ) where
  abbrev segments : List Segment
  segments = segments_of m

  abbrev Fine : Says State → Type 0
  Fine (faulty f) = Unit {0}
  Fine (says s ps) = (strange_in c segments ps ≡ false) × (emitted_in c segments ps ≡ emitted c m ps)

  none_fine : (s : State) → Fine (says s [])
  unfolding emitted_in emits_of
  none_fine s = (strange_none c segments, refl)

  part_fine : (s : State) (p : Part) (ps : List Part) → part_in c segments p ≡ answered (emit_of c segments p) → Fine (says s ps) → Fine (says s (p ∷ ps))
  unfolding emitted_in emits_of
  part_fine s p ps e f = (
    strange_rest c segments p ps (ap (λ (x : Answer). x.number) e) ∙ f.0,
    ap₂ (λ (x : Answer) (es : List Emit). x.emitted ∷ es) e f.1,
  )

  stays_fine : (s : State) (l : List ℕ) (ps : List Part) → Fine (says s ps) → Fine (says s (stays l ∷ ps))
  unfolding part_in emit_by
  stays_fine s l ps f = part_fine s (stays l) ps refl f

  module _ (d : Ready c m) where
    set_of : Set c
    set_of = record { kind_known = d.kind_known; timescale_good = d.timescale_good }

    line_same : (k : Columns) (n : ℕ) (l : List ℕ) → line_answer_in c segments (line_says k n l) ≡ line_answer c segments (line_says k n l)
    unfolding line_in
    line_same k n l =
        rw (le-ltb (3 * length l) (3 * length l) (omega arith)) at (line_fine c set_of m d.map_good k n l (3 * length l) 4 (omega arith) (omega arith))

    ass_fine : (s : State) (n : ℕ) (l : List ℕ) → Fine (line_takes s n l)
    unfolding line_takes
    ass_fine s n l = go (utf8 l) (line_says s.columns n l) (line_same s.columns n l)
      where
        go : (u : Bool) (y : LineSays) → line_answer_in c segments y ≡ line_answer c segments y → Fine (cond u (of_line s y) (faulty not_utf8))
        go false y e = tt
        go true (lineFaulty f) e = tt
        go true (line_said k p) e = part_fine (record { columns = k; block = s.block }) p [] e (none_fine blank_state)

    block_same : (first : ℕ) (b : List ℕ) → block_answer_in c segments (block_says (style_of c.kind) first (lines_of b)) ≡ block_answer c segments (block_says (style_of c.kind) first (lines_of b))
    unfolding block_in
    block_same first b =
        rw (le-ltb (3 * length b) (3 * length b) (omega arith)) at (block_fine c set_of m d.map_good first b (3 * length b) 4 (omega arith) (omega arith))

    closes_fine : (s : State) (n : ℕ) (b : List ℕ) (more : List Part) → Fine (says (with_block [] s) more) → Fine (closes (style_of c.kind) s n (lines_of b) more)
    closes_fine s n b more f = go (lines_of b) (block_same (suc n - line_count (lines_of b)) b)
      where
        said : (y : BlockSays) → block_answer_in c segments y ≡ block_answer c segments y → Fine (of_block s more y)
        said (blockFaulty g) e = tt
        said (block_said p) e = part_fine (with_block [] s) p more e f

        go : (ls : List (List ℕ)) → block_answer_in c segments (block_says (style_of c.kind) (suc n - line_count ls) ls) ≡ block_answer c segments (block_says (style_of c.kind) (suc n - line_count ls) ls)
            → Fine (closes (style_of c.kind) s n ls more)
        go [] e = f
        go (x ∷ ls) e = said (block_says (style_of c.kind) (suc n - line_count (x ∷ ls)) (x ∷ ls)) e

    srt_fine : (k : Columns) (b : List ℕ) (n : ℕ) (l : List ℕ) → Fine (block_takes (style_of c.kind) (record { columns = k; block = lines_of b }) n l)
    unfolding block_takes
    srt_fine k b n l = go (utf8 l) ((style_of c.kind).blank l) (leb (length (concat (lines_of b)) + length l) most_block)
      where
        s : State
        s = record { columns = k; block = lines_of b }

        go : (u v short : Bool) → Fine (cond u (cond v (closes (style_of c.kind) s n (lines_of b) (stays l ∷ [])) (adds short s l)) (faulty not_utf8))
        go false v short = tt
        go true true short = closes_fine s n b (stays l ∷ []) (stays_fine (with_block [] s) l [] (none_fine blank_state))
        go true false true = none_fine blank_state
        go true false false = tt

    head_fine : (s : State) (l : List ℕ) → Fine (head_takes s l)
    unfolding head_takes
    head_fine s l = go (utf8 l) (is_header l)
      where
        go : (u v : Bool) → Fine (cond u (cond v (says s (stays l ∷ [])) (faulty bad_header)) (faulty not_utf8))
        go false v = tt
        go true true = stays_fine s l [] (none_fine blank_state)
        go true false = tt

    takes_fine : (k : Columns) (b : List ℕ) (n : ℕ) (l : List ℕ) → Fine (takes c.kind (state_of c.kind k b) n l)
    unfolding takes
    takes_fine k b n l = go (eqb c.kind 0)
      where
        block : (y : Bool) → Fine (cond y (head_takes (record { columns = k; block = lines_of b }) l) (block_takes (style_of c.kind) (record { columns = k; block = lines_of b }) n l))
        block true = head_fine (record { columns = k; block = lines_of b }) l
        block false = srt_fine k b n l

        go : (a : Bool) → Fine (cond a (line_takes (record { columns = k; block = cond a [] (lines_of b) }) n l) (cond (header_due c.kind n (cond a [] (lines_of b))) (head_takes (record { columns = k; block = cond a [] (lines_of b) }) l) (block_takes (style_of c.kind) (record { columns = k; block = cond a [] (lines_of b) }) n l)))
        go true = ass_fine (record { columns = k; block = [] }) n l
        go false = block (header_due c.kind n (lines_of b))

    pub ends_fine : (n : ℕ) (b : List ℕ) → Fine (text_ends c.kind n (lines_of b))
    ends_fine n b = go (header_due c.kind n (lines_of b))
      where
        go : (z : Bool) → Fine (cond z (faulty bad_header) (closes (style_of c.kind) blank_state n (lines_of b) []))
        go true = tt
        go false = closes_fine blank_state n b [] (none_fine blank_state)

    bom_fine : (x : Says State) → Fine x → Fine (with_bom x)
    bom_fine (faulty f) g = tt
    bom_fine (says s ps) g = stays_fine s bom ps g

    take_fine : (k : Columns) (b : List ℕ) (n : ℕ) (l : List ℕ) → Fine (take_line (machine_of c.kind) (state_of c.kind k b) n l)
    take_fine k b n l = go (eqb n 0 && has_bom l)
      where
        go : (t : Bool) → Fine (line_with (machine_of c.kind) t (state_of c.kind k b) n l)
        go true = bom_fine (takes c.kind (state_of c.kind k b) n (drop 3 l)) (takes_fine k b n (drop 3 l))
        go false = takes_fine k b n l

-- ---- the open block after a line v without BOM: with that line, or none
abbrev Opens : State → (v : List ℕ) → Says State → Type 0
Opens s v (faulty f) = Unit {0}
Opens s v (says u ps) = u.block ≡ cond (is_open u.block) (s.block ++ (v ∷ [])) []

ass_opens : (k : Columns) (n : ℕ) (l : List ℕ) → Opens (record { columns = k; block = [] }) l (line_takes (record { columns = k; block = [] }) n l)
unfolding line_takes
ass_opens k n l = go (utf8 l) (line_says k n l)
  where
    s : State
    s = record { columns = k; block = [] }

    go : (u : Bool) (y : LineSays) → Opens s l (cond u (of_line s y) (faulty not_utf8))
    go false y = tt
    go true (lineFaulty f) = tt
    go true (line_said e p) = refl

closes_opens : (y : ℕ) (s : State) (n : ℕ) (v : List ℕ) (ls : List (List ℕ)) (more : List Part) → Opens s v (closes (style_of y) s n ls more)
closes_opens y s n v [] more = refl
closes_opens y s n v (x ∷ ls) more = go (block_says (style_of y) (suc n - line_count (x ∷ ls)) (x ∷ ls))
  where
    go : (y : BlockSays) → Opens s v (of_block s more y)
    go (blockFaulty f) = tt
    go (block_said p) = refl

srt_opens : (y : ℕ) (s : State) (n : ℕ) (l : List ℕ) → Opens s l (block_takes (style_of y) s n l)
unfolding block_takes
srt_opens y s n l = go (utf8 l) ((style_of y).blank l) (leb (length (concat s.block) + length l) most_block)
  where
    go : (u v short : Bool) → Opens s l (cond u (cond v (closes (style_of y) s n s.block (stays l ∷ [])) (adds short s l)) (faulty not_utf8))
    go false v short = tt
    go true true short = closes_opens y s n l s.block (stays l ∷ [])
    go true false true = rw (added_open l s.block)
    go true false false = tt

head_opens : (s : State) (l : List ℕ) → s.block ≡ [] → Opens s l (head_takes s l)
unfolding head_takes
head_opens s l e = go (utf8 l) (is_header l)
  where
    go : (u v : Bool) → Opens s l (cond u (cond v (says s (stays l ∷ [])) (faulty bad_header)) (faulty not_utf8))
    go false v = tt
    go true true = rw e
    go true false = tt

takes_opens : (kind : ℕ) (k : Columns) (b : List ℕ) (n : ℕ) (l : List ℕ) → Opens (state_of kind k b) l (takes kind (state_of kind k b) n l)
unfolding takes
takes_opens kind k b n l = go (eqb kind 0)
  where
    s : Bool → State
    s a = record { columns = k; block = cond a [] (lines_of b) }

    block : (z : Bool) → header_due kind n (lines_of b) ≡ z → Opens (s false) l (cond z (head_takes (s false) l) (block_takes (style_of kind) (s false) n l))
    block true e = head_opens (s false) l (due_empty kind n (lines_of b) e)
    block false e = srt_opens kind (s false) n l

    go : (a : Bool) → Opens (s a) l (cond a (line_takes (s a) n l) (cond (header_due kind n (s a).block) (head_takes (s a) l) (block_takes (style_of kind) (s a) n l)))
    go true = ass_opens k n l
    go false = block (header_due kind n (lines_of b)) refl

bom_opens : (s : State) (v : List ℕ) (x : Says State) → Opens s v x → Opens s v (with_bom x)
bom_opens s v (faulty f) g = tt
bom_opens s v (says u ps) g = g

take_opens : (kind : ℕ) (k : Columns) (b : List ℕ) (n : ℕ) (l : List ℕ)
    → Opens (state_of kind k b) (drop (bom_size n l) l) (take_line (machine_of kind) (state_of kind k b) n l)
unfolding bom_size
take_opens kind k b n l = go (eqb n 0 && has_bom l)
  where
    go : (t : Bool) → Opens (state_of kind k b) (drop (cond t 3 0) l) (line_with (machine_of kind) t (state_of kind k b) n l)
    go true = bom_opens (state_of kind k b) (drop 3 l) (takes kind (state_of kind k b) n (drop 3 l)) (takes_opens kind k b n (drop 3 l))
    go false = takes_opens kind k b n l

-- ---- what was told
module _ (c : Config) (m : List ℕ) (t : Counts) (o o' w w' : List ℕ) where
  wrote_of : (ps : List Part) (r : Ended) → EndTells (record { number = 0; emitted = emitted_in c (segments_of m) ps }) t r o o' w w'
      → emitted_in c (segments_of m) ps ≡ emitted c m ps → Wrote c m ps r.written r.warned o o' w w'
  wrote_of ps r b e =
      record {
        written = b.written ∙ ap (λ (es : List Emit). length (output_of es)) e;
        warned = b.warned ∙ ap (λ (es : List Emit). length (places_of (warnings_of es))) e;
        text = b.text ∙ ap (λ (es : List Emit). put (output_of es) o) e;
        warnings = b.warnings ∙ ap (λ (es : List Emit). put (places_of (warnings_of es)) w) e;
      }

  wrote_none : (k : ℕ) (r : Ended) → EndTells (parts_refusal k) t r o o' w w' → Wrote c m [] r.written r.warned o o' w w'
  unfolding emits_of
  wrote_none k r b = record { written = b.written; warned = b.warned; text = b.text; warnings = b.warnings }

  counts_none : (k : ℕ) (r : Ended) → EndTells (parts_refusal k) t r o o' w w' → r.counts ≡ count_all t (emitted c m [])
  unfolding emits_of
  counts_none k r b = b.counts

  ends_of : (x : Says State) (r : Ended) → Fine c m x → EndTells (answer_in c (segments_of m) x) t r o o' w w' → Ends c m x t r o o' w w'
  ends_of (faulty f) r g b = record { number = b.number; counts = counts_none _ r b; wrote = wrote_none _ r b }
  ends_of (says s ps) r g b =
      let h : EndTells (record { number = 0; emitted = emitted_in c (segments_of m) ps }) t r o o' w w' = rw g.0 at b in
      record { number = h.number; counts = h.counts ∙ ap (count_all t) g.1; wrote = wrote_of ps r h g.1 }

  done_of : (s : State) (l : List ℕ) (b : ℕ) (x : Says State) (r : Taken) → Fine c m x → Opens s (drop b l) x
      → LineTells (taken_in c (segments_of m) s.columns b x) t r o o' w w' → Done c m s l x t r o o' w w'
  done_of s l b (faulty f) r g q h =
      record {
        number = h.said.number;
        columns = h.columns;
        counts = counts_none _ (ended_by r) h.said;
        wrote = wrote_none _ (ended_by r) h.said;
        block = λ z. absurd (fault_numbered f (sym h.said.number ∙ z));
      }
  done_of s l b (says u ps) r g q h' =
      let h : LineTells (record { said = record { number = 0; emitted = emitted_in c (segments_of m) ps }; columns = u.columns; skip = b; added = is_open u.block }) t r o o' w w' =
      rw g.0 at h' in
      record {
        number = h.said.number;
        columns = h.columns;
        counts = h.said.counts ∙ ap (count_all t) g.1;
        wrote = wrote_of ps (ended_by r) h.said g.1;
        block = λ _. q ∙ ap₂ (λ (a : Bool) (j : ℕ). cond a (s.block ++ (drop j l ∷ [])) []) (sym h.added) (sym h.skip);
      }

-- ---- the end of a block
pub end_done : (c : Config) (m : List ℕ) (n : ℕ) (t : Counts) (b : List ℕ) (r : Ended) (o o' w w' : List ℕ) → Ready c m → Ample t (length b) (length o) (length w)
    → EndTells (end_in c (segments_of m) n t b (length o) (length w)) t r o o' w w' → Ends c m (text_ends c.kind n (lines_of b)) t r o o' w w'
unfolding end_in
end_done c m n t b r o o' w w' d g h =
    ends_of c m t o o' w w' (text_ends c.kind n (lines_of b)) r (ends_fine c m d n b)
    (rw (lent_fine t (length b) (length o) (length w) g) at h)

-- ---- a line
-- the state that the columns and the held bytes of a block show
state_is : (kind : ℕ) (k : Columns) (b : List ℕ) (x : State) → k ≡ x.columns → b ≡ concat x.block → Parsed (eqb kind 0) x.block → state_of kind k b ≡ x
state_is kind k b x e f p = λ i. record { columns = e i; block = same (eqb kind 0) p i }
  where
    same : (a : Bool) → Parsed a x.block → cond a [] (lines_of b) ≡ x.block
    same true p = sym p
    same false p = ap lines_of f ∙ p

bom_small : (n : ℕ) (l : List ℕ) → bom_size n l ≤ length l
unfolding bom_size
bom_small n l = go (eqb n 0) (has_bom l) refl
  where
    go : (a b : Bool) → has_bom l ≡ b → cond (a && b) 3 0 ≤ length l
    go false b e = omega arith
    go true false e = omega arith
    go true true e = omega (arith, bom_length_lem l e)

pub skip_small : (c : Config) (m : List Segment) (k : Columns) (b : ℕ) (x : Says State) → (taken_in c m k b x).skip ≤ b
skip_small c m k b (faulty f) = omega arith
skip_small c m k b (says s ps) = go (strange_in c m ps)
  where
    go : (u : Bool) → (cond u (line_refusal 15 k) (record { said = record { number = 0; emitted = emitted_in c m ps }; columns = s.columns; skip = b; added = is_open s.block })).skip ≤ b
    go true = omega arith
    go false = omega arith

module _ (c : Config) (m : List ℕ) (n : ℕ) (t : Counts) (k : Columns) (held : List ℕ) (s : ℕ) (r : Taken) (o o' w w' : List ℕ)
    (g : Ample t (length held) (length o) (length w)) (a : s ≤ length held) (h : LineTells (take_in c (segments_of m) n t k held s (length o) (length w)) t r o o' w w') where
  taken : LineTells (taken_in c (segments_of m) k (bom_size n (drop s held)) (take_line (machine_of c.kind) (state_of c.kind k (take s held)) n (drop s held))) t r o o' w w'
  unfolding take_in
  taken = rw (le-ltb (length held) s a, lent_fine t (length held) (length o) (length w) g) at h

  -- for every state that the arguments show
  pub take_done : Ready c m → (x : State) → k ≡ x.columns → take s held ≡ concat x.block → Parsed (eqb c.kind 0) x.block
      → Done c m x (drop s held) (take_line (machine_of c.kind) x n (drop s held)) t r o o' w w'
  take_done d x e f p =
      subst (λ (y : State). Done c m y (drop s held) (take_line (machine_of c.kind) y n (drop s held)) t r o o' w w') (state_is c.kind k (take s held) x e f p)
      (done_of c m t o o' w w' (state_of c.kind k (take s held)) (drop s held) (bom_size n (drop s held)) (take_line (machine_of c.kind) (state_of c.kind k (take s held)) n (drop s held)) r
      (take_fine c m d k (take s held) n (drop s held)) (take_opens c.kind k (take s held) n (drop s held)) taken)

  -- the bytes of a BOM are some of the line's
  pub take_skip : r.skip ≤ length held - s
  take_skip =
      omega (
        arith,
        taken.skip,
        bom_small n (drop s held),
        length-drop s held,
        skip_small c (segments_of m) k (bom_size n (drop s held)) (take_line (machine_of c.kind) (state_of c.kind k (take s held)) n (drop s held)),
      )
