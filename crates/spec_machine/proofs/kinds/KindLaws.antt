-- Both kinds obey the laws of a machine: states stay in their bounds, and a line ends at most one caption.
use mathlib.Core.Path.{◌≡◌, refl, sym, ap, subst, ◌∙◌}
use mathlib.Core.Bool.{Bool, true, false, cond, ◌||◌, not}
use mathlib.Core.List.{List, [], ◌∷◌, ◌++◌, append-nil, append_assoc}
use Prim.Native.Nat.{ℕ, zero, suc, ◌+◌, ◌-◌, ◌≤◌}
use native.Mathlib.Omega.{arith}
use lib.Dec.{ltb, leb}
use lib.ListN.{length, length-append}
use borrow.Author.Tests.{ne_eqb, le-ltb, leb-true}
use Rattle.spec_base.specs.base.Limits.{most_line, most_block}
use Rattle.spec_text.specs.utf8.Utf8.{utf8}
use Rattle.spec_text.specs.text.Line.{concat, line_count, has_lf, ends_line}
use Rattle.spec_text.proofs.text.LineLaws.{Finished}
use Rattle.spec_time.specs.caption_time.Kind.{kind_bad}
use Rattle.spec_time.proofs.caption_time.Limits.{by_kind}
use Rattle.spec_caption.specs.caption_fate.Says.{Part, stays, passes, cue, captions_in, Fault, not_utf8, bad_header}
use Rattle.spec_ass.specs.ass_line.Line.{LineSays, line_says, faulty as lineFaulty, says as line_said}
use Rattle.spec_cue.specs.block_timing.Style.{style_of, blank_in}
use Rattle.spec_cue.specs.block_timing.Header.{is_header, header_due}
use Rattle.spec_cue.specs.block_cue.Block.{BlockSays, block_says, faulty as blockFaulty, says as block_said}
use Rattle.spec_machine.specs.session_counts.Cut.{Cut, cut, is_lf, closed_lines, unfinished}
use Rattle.spec_machine.specs.session_counts.Machine.{Says, faulty, says}
use Rattle.spec_machine.proofs.session_counts.CutLaws.{cut_held}
use Rattle.spec_machine.proofs.session_counts.Keeps.{Kept}
use Rattle.spec_machine.proofs.session_counts.Laws.{StepOk, CloseOk, Lawful}
use Rattle.spec_machine.specs.kinds.Takes.{State, blank_state, of_line, line_takes, with_block, of_block, closes, adds, block_takes, head_takes, takes, block_ends, ends}
use Rattle.spec_machine.specs.kinds.Kit.{lines_bad, held_bad, kit}
use Rattle.spec_machine.proofs.kinds.ColumnBounds.{Bounded, bounded_good, none_bounded, After, line_bounded}

-- ---- by kind
pub takes_ass : (s : State) (n : ℕ) (l : List ℕ) → takes 0 s n l ≡ line_takes s n l
unfolding takes
takes_ass s n l = refl

pub takes_srt : (s : State) (n : ℕ) (l : List ℕ) → takes 1 s n l ≡ block_takes (style_of 1) s n l
unfolding takes header_due
takes_srt s n l = refl

pub takes_vtt : (s : State) (n : ℕ) (l : List ℕ) → takes 2 s n l ≡ cond (header_due 2 n s.block) (head_takes s l) (block_takes (style_of 2) s n l)
unfolding takes
takes_vtt s n l = refl

pub ends_ass : (s : State) (n : ℕ) → ends 0 s n ≡ says s []
unfolding ends
ends_ass s n = refl

pub ends_srt : (s : State) (n : ℕ) → ends 1 s n ≡ closes (style_of 1) s n s.block []
unfolding ends block_ends header_due
ends_srt s n = refl

pub ends_vtt : (s : State) (n : ℕ) → ends 2 s n ≡ cond (header_due 2 n s.block) (faulty bad_header) (closes (style_of 2) s n s.block [])
unfolding ends block_ends
ends_vtt s n = refl

pub held_ass : (h : List ℕ) → held_bad 0 h ≡ (ltb most_line (length h) || has_lf h)
unfolding held_bad
held_ass h = refl

pub held_block : (j : ℕ) (h : List ℕ)
    → held_bad (suc j) h ≡ (ltb most_block (length (concat (closed_lines h))) || (lines_bad (suc j) (closed_lines h) || ltb most_line (length (unfinished h))))
unfolding held_bad
held_block j h = rw (ne_eqb (suc j) 0 (λ e. omega arith))

-- ---- what holds of a state between two lines: ASS has no block, that of SRT and WebVTT is of finished lines
abbrev pub BlockFit : (kind : ℕ) → List (List ℕ) → Type 0
BlockFit zero ls = ls ≡ []
BlockFit (suc k) ls = Finished ls

pub record Fit (kind : ℕ) (s : State) : Type 0 where
  pub bounded : Bounded s.columns
  pub small : length (concat s.block) ≤ most_block
  pub lines : lines_bad kind s.block ≡ false
  pub block : BlockFit kind s.block

-- an open block may still give a caption
abbrev pub open_block_lem : List (List ℕ) → ℕ
open_block_lem [] = 0
open_block_lem (l ∷ ls) = 1

abbrev pub pending : State → ℕ
pending s = open_block_lem s.block

abbrev pub size : State → ℕ
size s = length (concat s.block)

pub pending_one : (b : List (List ℕ)) → open_block_lem b ≤ 1
pending_one [] = omega arith
pending_one (l ∷ ls) = omega arith

one_part : (p : Part) → captions_in (p ∷ []) ≤ 1
unfolding captions_in
one_part (stays l) = omega arith
one_part (passes r n l) = omega arith
one_part (cue q) = omega arith

pub no_part : captions_in [] ≡ 0
unfolding captions_in
no_part = refl

part_stays : (p : Part) (l : List ℕ) → captions_in (p ∷ stays l ∷ []) ≤ 1
unfolding captions_in
part_stays (stays k) l = omega arith
part_stays (passes r n k) l = omega arith
part_stays (cue q) l = omega arith

stays_none : (l : List ℕ) → captions_in (stays l ∷ []) ≡ 0
unfolding captions_in
stays_none l = refl

abbrev pub LineOk : (kind : ℕ) → State → List ℕ → Says State → Type 0
LineOk kind s l x = StepOk (Fit kind) pending size s l x

checked : (kind : ℕ) (s : State) (l : List ℕ) (u : Bool) (x : Says State) (f : Fault) → (u ≡ true → LineOk kind s l x) → LineOk kind s l (cond u x (faulty f))
checked kind s l true x f a = a refl
checked kind s l false x f a = tt

-- ---- ASS
said_ok : (s : State) (l : List ℕ) (x : LineSays) → Fit 0 s → After Bounded x → LineOk 0 s l (of_line s x)
said_ok s l (lineFaulty f) h b = tt
said_ok s l (line_said c p) h b =
    record {
      fit = λ e. record { bounded = b; small = h.small; lines = h.lines; block = h.block };
      few = omega (arith, one_part p);
      small = omega arith;
    }

pub ass_step : (s : State) (n : ℕ) (l : List ℕ) → Fit 0 s → length l ≤ most_line → LineOk 0 s l (line_takes s n l)
unfolding line_takes
ass_step s n l h k =
    checked 0 s l (utf8 l) (of_line s (line_says s.columns n l)) not_utf8 (λ e. said_ok s l (line_says s.columns n l) h (line_bounded s.columns n l h.bounded k))

-- ---- SRT and WebVTT
pub concat_snoc : (ls : List (List ℕ)) (l : List ℕ) → concat (ls ++ (l ∷ [])) ≡ concat ls ++ l
concat_snoc [] l = append-nil l
concat_snoc (k ∷ ls) l = ap (λ (x : List ℕ). k ++ x) (concat_snoc ls l) ∙ sym (append_assoc k (concat ls) l)

pub finished_snoc : (ls : List (List ℕ)) (l : List ℕ) → Finished ls → ends_line l ≡ true → Finished (ls ++ (l ∷ []))
finished_snoc [] l f e = (e, tt)
finished_snoc (k ∷ ls) l f e = (f.0, finished_snoc ls l f.1 e)

bad_snoc : (kind : ℕ) (ls : List (List ℕ)) (l : List ℕ) → lines_bad kind ls ≡ false → blank_in kind l ≡ false → utf8 l ≡ true → lines_bad kind (ls ++ (l ∷ [])) ≡ false
bad_snoc kind [] l e p q = rw (p, q)
bad_snoc kind (k ∷ ls) l e p q = go (blank_in kind k || not (utf8 k)) e (λ (x : lines_bad kind ls ≡ false). bad_snoc kind ls l x p q)
  where
    go : (t : Bool) → (t || lines_bad kind ls) ≡ false → (lines_bad kind ls ≡ false → lines_bad kind (ls ++ (l ∷ [])) ≡ false)
        → (t || lines_bad kind (ls ++ (l ∷ []))) ≡ false
    go true e ih = e
    go false e ih = ih e

snoc_open : (ls : List (List ℕ)) (l : List ℕ) → open_block_lem (ls ++ (l ∷ [])) ≡ 1
snoc_open [] l = refl
snoc_open (k ∷ ls) l = refl

-- kind suc j
module _ (j : ℕ) where
  emptied : (s : State) → Fit (suc j) s → Fit (suc j) (with_block [] s)
  emptied s h = record { bounded = h.bounded; small = omega arith; lines = refl; block = tt }

  block_ok : (s : State) (l : List ℕ) (x : BlockSays) → Fit (suc j) s → pending s ≡ 1 → LineOk (suc j) s l (of_block s (stays l ∷ []) x)
  block_ok s l (blockFaulty f) h p = tt
  block_ok s l (block_said q) h p =
      record { fit = λ e. emptied s h; few = omega (arith, part_stays q l); small = omega arith }

  closes_ok : (s : State) (n : ℕ) (l : List ℕ) (b : List (List ℕ)) → s.block ≡ b → Fit (suc j) s → LineOk (suc j) s l (closes (style_of (suc j)) s n b (stays l ∷ []))
  closes_ok s n l [] e h = record { fit = λ z. emptied s h; few = omega (arith, stays_none l); small = omega arith }
  closes_ok s n l (k ∷ ks) e h = block_ok s l (block_says (style_of (suc j)) (suc n - line_count (k ∷ ks)) (k ∷ ks)) h (ap open_block_lem e)

  adds_ok : (s : State) (l : List ℕ) → Fit (suc j) s → blank_in (suc j) l ≡ false → utf8 l ≡ true → (t : Bool) → leb (length (concat s.block) + length l) most_block ≡ t
      → LineOk (suc j) s l (adds t s l)
  adds_ok s l h p q false e = tt
  adds_ok s l h p q true e =
      let k : length (concat (s.block ++ (l ∷ []))) ≡ length (concat s.block) + length l = ap length (concat_snoc s.block l) ∙ length-append (concat s.block) l in
      record {
        fit =
            λ z. record {
              bounded = h.bounded;
              small = omega (arith, leb-true (length (concat s.block) + length l) most_block e);
              lines = bad_snoc (suc j) s.block l h.lines p q;
              block = finished_snoc s.block l h.block z;
            };
        few = omega (arith, snoc_open s.block l, no_part);
        small = omega arith;
      }

  blank_ok : (s : State) (n : ℕ) (l : List ℕ) → Fit (suc j) s → utf8 l ≡ true → (b : Bool) → blank_in (suc j) l ≡ b
      → LineOk (suc j) s l (cond b (closes (style_of (suc j)) s n s.block (stays l ∷ [])) (adds (leb (length (concat s.block) + length l) most_block) s l))
  blank_ok s n l h q true p = closes_ok s n l s.block refl h
  blank_ok s n l h q false p = adds_ok s l h p q (leb (length (concat s.block) + length l) most_block) refl

  pub block_step : (s : State) (n : ℕ) (l : List ℕ) → Fit (suc j) s → LineOk (suc j) s l (block_takes (style_of (suc j)) s n l)
  unfolding block_takes
  block_step s n l h = checked (suc j) s l (utf8 l) _ not_utf8 (λ q. blank_ok s n l h q (blank_in (suc j) l) refl)

  -- a finish ends at most the open block
  block_few : (s : State) (x : BlockSays) → pending s ≡ 1 → CloseOk (Fit (suc j)) pending size s (of_block s [] x)
  block_few s (blockFaulty f) p = tt
  block_few s (block_said q) p = omega (arith, one_part q)

  pub block_close : (s : State) (n : ℕ) (b : List (List ℕ)) → s.block ≡ b → CloseOk (Fit (suc j)) pending size s (closes (style_of (suc j)) s n b [])
  block_close s n [] e = omega (arith, no_part)
  block_close s n (k ∷ ks) e = block_few s (block_says (style_of (suc j)) (suc n - line_count (k ∷ ks)) (k ∷ ks)) (ap open_block_lem e)

-- ---- WebVTT: the first line
head_said_lem : (s : State) (l : List ℕ) → Fit 2 s → (b : Bool) → LineOk 2 s l (cond b (says s (stays l ∷ [])) (faulty bad_header))
head_said_lem s l h true = record { fit = λ e. h; few = omega (arith, stays_none l); small = omega arith }
head_said_lem s l h false = tt

head_ok : (s : State) (l : List ℕ) → Fit 2 s → LineOk 2 s l (head_takes s l)
unfolding head_takes
head_ok s l h = checked 2 s l (utf8 l) _ not_utf8 (λ q. head_said_lem s l h (is_header l))

pub vtt_step : (s : State) (n : ℕ) (l : List ℕ) → Fit 2 s → (b : Bool) → LineOk 2 s l (cond b (head_takes s l) (block_takes (style_of 2) s n l))
vtt_step s n l h true = head_ok s l h
vtt_step s n l h false = block_step 1 s n l h

pub vtt_close : (s : State) (n : ℕ) (b : Bool) → CloseOk (Fit 2) pending size s (cond b (faulty bad_header) (closes (style_of 2) s n s.block []))
vtt_close s n true = tt
vtt_close s n false = block_close 1 s n s.block refl

-- ---- what a session keeps
pub held_cut : (kind : ℕ) (s : State) (h : List ℕ) → Fit kind s → has_lf h ≡ false → cut is_lf (concat s.block ++ h) ≡ record { pieces = s.block; rest = h }
held_cut kind s h f e = cut_held s.block h (all_finished kind s.block f.block) e
  where
    all_finished : (kind : ℕ) (ls : List (List ℕ)) → BlockFit kind ls → Finished ls
    all_finished zero ls e = subst Finished (sym e) tt
    all_finished (suc k) ls e = e

pub held_good_ass : (s : State) (h : List ℕ) → Fit 0 s → length h ≤ most_line → has_lf h ≡ false → held_bad 0 (concat s.block ++ h) ≡ false
held_good_ass s h f k e =
    ap (λ (ls : List (List ℕ)). held_bad 0 (concat ls ++ h)) f.block ∙ held_ass h ∙ rw (le-ltb most_line (length h) k, e)

pub held_good_block : (j : ℕ) (s : State) (h : List ℕ) → Fit (suc j) s → length h ≤ most_line → has_lf h ≡ false → held_bad (suc j) (concat s.block ++ h) ≡ false
held_good_block j s h f k e =
    held_block j (concat s.block ++ h)
    ∙ ap (λ (c : Cut ℕ). ltb most_block (length (concat c.pieces)) || (lines_bad (suc j) c.pieces || ltb most_line (length c.rest))) (held_cut (suc j) s h f e)
    ∙ rw (le-ltb most_block (length (concat s.block)) f.small, f.lines, le-ltb most_line (length h) k)

pub blank_fit : (kind : ℕ) → BlockFit kind [] → Fit kind blank_state
blank_fit kind b = record { bounded = none_bounded; small = omega arith; lines = refl; block = b }

-- ---- the lines held: at most one more with each line
abbrev pub Rows : State → ℕ
Rows s = line_count s.block

abbrev pub Lined : State → Says State → Type 0
Lined s x = Kept (λ t. Rows t ≤ suc (Rows s)) x

pub count_snoc : (ks : List (List ℕ)) (l : List ℕ) → line_count (ks ++ (l ∷ [])) ≡ suc (line_count ks)
count_snoc [] l = refl
count_snoc (k ∷ ks) l = ap suc (count_snoc ks l)

either : (P : Says State → Type 0) (t : Bool) (x y : Says State) → P x → P y → P (cond t x y)
either P true x y a b = a
either P false x y a b = b

said_lined : (s : State) (x : LineSays) → Lined s (of_line s x)
said_lined s (lineFaulty f) = tt
said_lined s (line_said c p) = omega arith

told_lined : (s : State) (more : List Part) (x : BlockSays) → Lined s (of_block s more x)
told_lined s more (blockFaulty f) = tt
told_lined s more (block_said p) = omega arith

closes_lined : (j : ℕ) (s : State) (n : ℕ) (b : List (List ℕ)) (more : List Part) → Lined s (closes (style_of (suc j)) s n b more)
closes_lined j s n [] more = omega arith
closes_lined j s n (k ∷ ks) more = told_lined s more (block_says (style_of (suc j)) (suc n - line_count (k ∷ ks)) (k ∷ ks))

adds_lined : (t : Bool) (s : State) (l : List ℕ) → Lined s (adds t s l)
adds_lined true s l = omega (arith, count_snoc s.block l)
adds_lined false s l = tt

pub ass_lined : (s : State) (n : ℕ) (l : List ℕ) → Lined s (line_takes s n l)
unfolding line_takes
ass_lined s n l = either (Lined s) (utf8 l) (of_line s (line_says s.columns n l)) (faulty not_utf8) (said_lined s (line_says s.columns n l)) tt

pub block_lined : (j : ℕ) (s : State) (n : ℕ) (l : List ℕ) → Lined s (block_takes (style_of (suc j)) s n l)
unfolding block_takes
block_lined j s n l =
    either (Lined s) (utf8 l) _ (faulty not_utf8)
    (either (Lined s) (blank_in (suc j) l) _ _ (closes_lined j s n s.block (stays l ∷ [])) (adds_lined (leb (length (concat s.block) + length l) most_block) s l)) tt

head_lined : (s : State) (l : List ℕ) → Lined s (head_takes s l)
unfolding head_takes
head_lined s l =
    either (Lined s) (utf8 l) _ (faulty not_utf8) (either (Lined s) (is_header l) (says s (stays l ∷ [])) (faulty bad_header) (omega arith) tt) tt

pub vtt_lined : (s : State) (n : ℕ) (l : List ℕ) (b : Bool) → Lined s (cond b (head_takes s l) (block_takes (style_of 2) s n l))
vtt_lined s n l b = either (Lined s) b (head_takes s l) _ (head_lined s l) (block_lined 1 s n l)

-- the fields that all kinds have in common
module _ (kind : ℕ) (b : BlockFit kind [])
    (steps : (s : State) (n : ℕ) (l : List ℕ) → Fit kind s → length l ≤ most_line → LineOk kind s l (takes kind s n l))
    (finishes : (s : State) (n : ℕ) → CloseOk (Fit kind) pending size s (ends kind s n))
    (holds : (s : State) (h : List ℕ) → Fit kind s → length h ≤ most_line → has_lf h ≡ false → held_bad kind (concat s.block ++ h) ≡ false)
    (lined : (s : State) (n : ℕ) (l : List ℕ) → Lined s (takes kind s n l)) where
  abbrev pub laws : Lawful kit kind
  laws =
      record {
        Fit = Fit kind;
        pending = pending;
        size = size;
        rows = λ s. Rows s;
        start_rows = refl;
        step_rows = lined;
        pack_rows = λ s h f e. ap (λ (c : Cut ℕ). line_count c.pieces) (held_cut kind s h f e);
        start_fit = blank_fit kind b;
        start_pending = refl;
        start_size = refl;
        start_pack = refl;
        step_ok = steps;
        close_ok = finishes;
        pack_length = λ s h. length-append (concat s.block) h;
        same_state = λ s h f e. ap (λ (c : Cut ℕ). record { columns = s.columns; block = c.pieces }) (held_cut kind s h f e);
        same_line = λ s h f e. ap (λ (c : Cut ℕ). c.rest) (held_cut kind s h f e);
        not_strange = λ s h f k e. rw (bounded_good s.columns f.bounded, holds s h f k e);
      }

abbrev pub ass_laws : Lawful kit 0
ass_laws =
    laws 0 refl
    (λ s n l h k. subst (LineOk 0 s l) (sym (takes_ass s n l)) (ass_step s n l h k))
    (λ s n. subst (CloseOk (Fit 0) pending size s) (sym (ends_ass s n)) (omega (arith, no_part)))
    (λ s h f k e. held_good_ass s h f k e)
    (λ s n l. subst (Lined s) (sym (takes_ass s n l)) (ass_lined s n l))

abbrev pub srt_laws : Lawful kit 1
srt_laws =
    laws 1 tt
    (λ s n l h k. subst (LineOk 1 s l) (sym (takes_srt s n l)) (block_step 0 s n l h))
    (λ s n. subst (CloseOk (Fit 1) pending size s) (sym (ends_srt s n)) (block_close 0 s n s.block refl))
    (λ s h f k e. held_good_block 0 s h f k e)
    (λ s n l. subst (Lined s) (sym (takes_srt s n l)) (block_lined 0 s n l))

abbrev pub vtt_laws : Lawful kit 2
vtt_laws =
    laws 2 tt
    (λ s n l h k. subst (LineOk 2 s l) (sym (takes_vtt s n l)) (vtt_step s n l h (header_due 2 n s.block)))
    (λ s n. subst (CloseOk (Fit 2) pending size s) (sym (ends_vtt s n)) (vtt_close s n (header_due 2 n s.block)))
    (λ s h f k e. held_good_block 1 s h f k e)
    (λ s n l. subst (Lined s) (sym (takes_vtt s n l)) (vtt_lined s n l (header_due 2 n s.block)))

-- ---- the three kinds
pub known_three : (k : ℕ) → kind_bad (suc (suc (suc k))) ≡ false → ⊥
known_three k e = let z : suc (suc (suc k)) ≤ 2 = by_kind (λ n. n ≤ 2) (omega arith) (omega arith) (omega arith) (suc (suc (suc k))) e in omega arith

abbrev pub lawful : (kind : ℕ) → kind_bad kind ≡ false → Lawful kit kind
lawful zero e = ass_laws
lawful (suc zero) e = srt_laws
lawful (suc (suc zero)) e = vtt_laws
lawful (suc (suc (suc k))) e = absurd (known_three k e)

-- what they are by kind
pub lawful_fit : (kind : ℕ) (e : kind_bad kind ≡ false) (s : State) → Fit kind s → (lawful kind e).Fit s
lawful_fit zero e s f = f
lawful_fit (suc zero) e s f = f
lawful_fit (suc (suc zero)) e s f = f
lawful_fit (suc (suc (suc k))) e s f = absurd (known_three k e)

pub lawful_size : (kind : ℕ) (e : kind_bad kind ≡ false) (s : State) → (lawful kind e).size s ≡ size s
lawful_size zero e s = refl
lawful_size (suc zero) e s = refl
lawful_size (suc (suc zero)) e s = refl
lawful_size (suc (suc (suc k))) e s = absurd (known_three k e)

pub lawful_pending : (kind : ℕ) (e : kind_bad kind ≡ false) (s : State) → (lawful kind e).pending s ≤ 1
lawful_pending zero e s = pending_one s.block
lawful_pending (suc zero) e s = pending_one s.block
lawful_pending (suc (suc zero)) e s = pending_one s.block
lawful_pending (suc (suc (suc k))) e s = absurd (known_three k e)
