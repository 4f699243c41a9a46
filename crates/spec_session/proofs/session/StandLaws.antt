-- How the loop's numbers and the lent slices change with a line's end and with a byte.
use mathlib.Core.Path.{◌≡◌, refl, sym, ap, ap₂, subst, ◌∙◌}
use mathlib.Core.Bool.{Bool, true, false, cond}
use mathlib.Core.List.{List, [], ◌∷◌, ◌++◌, append-nil, append_assoc}
use Prim.Native.Nat.{ℕ, suc, ◌+◌, ◌-◌, ◌≤◌, ◌<◌}
use native.Mathlib.Omega.{arith}
use native.Mathlib.Nat.{add-zero}
use native.Mathlib.Numerals.{add-one}
use lib.Dec.{eqb}
use lib.ListN.{length, take, drop, set, get_or, length-append, length-drop}
use lib.Seq.{take-append_seam, drop-append_seam, drop-append-add, take-suc, take-suc-set, take-take, take-add, drop-drop, drop-set-lt, get_or-drop, length-take-le}
use borrow.Author.Tests.{le-leb, lt-leb, eq-eqb, ne_eqb, eqb-false}
use Rattle.spec_base.specs.base.Limits.{most_line}
use Rattle.spec_base.specs.base.Put.{put}
use Rattle.spec_base.proofs.base.PutLaws.{put_back}
use Rattle.spec_text.specs.text.Line.{concat}
use Rattle.spec_map.specs.segment.Segment.{segments_of}
use Rattle.spec_caption.specs.declared.caption_fate.Config.{Config}
use Rattle.spec_caption.specs.caption_fate.Says.{Part, fault_number}
use Rattle.spec_caption.specs.caption_fate.Emit.{Emit, output_of, warnings_of, places_of}
use Rattle.spec_machine.specs.declared.session_counts.Counts.{Counts}
use Rattle.spec_machine.specs.session_counts.Counts.{count_all}
use Rattle.spec_machine.specs.session_counts.Machine.{Machine, Says, faulty, says, Run, going, stopped, line_end, take_line, byte_step}
use Rattle.spec_machine.specs.session_counts.Session.{emitted}
use Rattle.spec_machine.proofs.session_counts.Emits.{emits_append, output_append, warnings_append, places_append, count_append}
use Rattle.spec_machine.proofs.session_counts.Resume.{fault_number_lem}
use Rattle.spec_machine.specs.kinds.Takes.{State, machine_of}
use Rattle.spec_machine.proofs.kinds.KindLaws.{concat_snoc}
use Rattle.spec_session.specs.declared.session_lines.Taken.{Taken}
use Rattle.spec_session.specs.declared.session_lines.Ended.{Ended}
use Rattle.spec_session.specs.session_lines.LinesThrough.{PartsAnswer, take_in, EndTells, ended_by, LineTells}
use Rattle.spec_session.proofs.session_lines.TellLaws.{told_within}
use Rattle.spec_session.proofs.session_lines.DoneLaws.{take_done, take_skip}
use Rattle.spec_session.specs.declared.session.Going.{Going}
use Rattle.spec_session.specs.session_lines.Done.{state_after, Ready, Ample, Wrote, Done, Parsed}
use Rattle.spec_session.specs.session.Stand.{Holds, Shows, Room, ByteRoom, ParsedIn, stopped_at, holding_to, lined_to}
use Rattle.spec_base.proofs.base.PartLaws.{drop_take, rest_length}

-- ---- parts of the held bytes
-- bytes that go down by k, one at a time
pub moved_more : (held₀ held : List ℕ) (s k n i : ℕ) → s + k + n ≤ length held₀ → i < n → length held ≡ length held₀
    → take (s + i) held ≡ take s held₀ ++ take i (drop (s + k) held₀) → drop (s + k + i) held ≡ drop (s + k + i) held₀
    → take (s + (i + 1)) (set held (s + i) (get_or held (s + k + i) 0)) ≡ take s held₀ ++ take (i + 1) (drop (s + k) held₀)
moved_more held₀ held s k n i h l e p q =
    let a : s + (i + 1) ≡ suc (s + i) = omega arith in
    let b : i + 1 ≡ suc i = omega arith in
    let g : get_or held (s + k + i) 0 ≡ get_or (drop (s + k) held₀) i 0 =
    ap (λ (j : ℕ). get_or held j 0) (sym (add-zero (s + k + i))) ∙ sym (get_or-drop (s + k + i) held 0 0) ∙ ap (λ (x : List ℕ). get_or x 0 0) q
    ∙ get_or-drop (s + k + i) held₀ 0 0 ∙ ap (λ (j : ℕ). get_or held₀ j 0) (add-zero (s + k + i)) ∙ sym (get_or-drop (s + k) held₀ i 0) in
    let d : i < length (drop (s + k) held₀) = rw length-drop (omega arith) in
    ap (λ (j : ℕ). take j (set held (s + i) (get_or held (s + k + i) 0))) a
    ∙ take-suc-set held (s + i) (get_or held (s + k + i) 0) (omega arith)
    ∙ ap₂ (λ (x : List ℕ) (y : ℕ). x ++ (y ∷ [])) p g
    ∙ append_assoc (take s held₀) (take i (drop (s + k) held₀)) (get_or (drop (s + k) held₀) i 0 ∷ [])
    ∙ ap (λ (x : List ℕ). take s held₀ ++ x) (sym (take-suc (drop (s + k) held₀) i 0 d) ∙ ap (λ (j : ℕ). take j (drop (s + k) held₀)) (sym b))

pub moved_rest : (held₀ held : List ℕ) (s k i b : ℕ) → drop (s + k + i) held ≡ drop (s + k + i) held₀
    → drop (s + k + (i + 1)) (set held (s + i) b) ≡ drop (s + k + (i + 1)) held₀
moved_rest held₀ held s k i b q =
    let e : s + k + (i + 1) ≡ s + k + i + 1 = omega arith in
    drop-set-lt (s + k + (i + 1)) held (s + i) b (omega arith)
    ∙ ap (λ (j : ℕ). drop j held) e ∙ sym (drop-drop 1 (s + k + i) held) ∙ ap (drop 1) q ∙ drop-drop 1 (s + k + i) held₀
    ∙ ap (λ (j : ℕ). drop j held₀) (sym e)

-- bytes that stay where they are
pub moved_none : (held : List ℕ) (s k n : ℕ) → k ≡ 0 → take (s + n) held ≡ take s held ++ take n (drop (s + k) held)
moved_none held s k n e =
    let z : s ≡ s + k = omega arith in
    take-add s n held ∙ ap (λ (j : ℕ). take s held ++ take n (drop j held)) z

-- ---- what is lent of a buffer from a on, and the buffer when that came back as y
abbrev pub lent : ℕ → List ℕ → List ℕ
lent a l = take (length l - a) (drop a l)

abbrev pub back : ℕ → List ℕ → (y : List ℕ) → List ℕ
back a l y = take a l ++ (y ++ drop (length l - a) (drop a l))

module _ (c : Config) (m : List ℕ) where
  -- ---- parts after parts
  pub emitted_append : (ps new : List Part) → emitted c m (ps ++ new) ≡ emitted c m ps ++ emitted c m new
  emitted_append ps new = emits_append c (segments_of m) ps new

  output_more : (ps new : List Part) → output_of (emitted c m (ps ++ new)) ≡ output_of (emitted c m ps) ++ output_of (emitted c m new)
  output_more ps new = ap output_of (emitted_append ps new) ∙ output_append (emitted c m ps) (emitted c m new)

  places_more : (ps new : List Part)
      → places_of (warnings_of (emitted c m (ps ++ new))) ≡ places_of (warnings_of (emitted c m ps)) ++ places_of (warnings_of (emitted c m new))
  places_more ps new =
      ap (λ (es : List Emit). places_of (warnings_of es)) (emitted_append ps new)
      ∙ ap places_of (warnings_append (emitted c m ps) (emitted c m new))
      ∙ places_append (warnings_of (emitted c m ps)) (warnings_of (emitted c m new))

  -- new output and warnings behind what was written
  pub wrote_more : (ps new : List Part) (a b n k : ℕ) (o w out places y z : List ℕ) → Wrote c m ps a b o out w places
      → Wrote c m new n k (lent a out) y (lent b places) z → Wrote c m (ps ++ new) (a + n) (b + k) o (back a out y) w (back b places z)
  wrote_more ps new a b n k o w out places y z p q =
      record {
        written =
            rw (output_more ps new, length-append (output_of (emitted c m ps)) (output_of (emitted c m new)), p.written, q.written);
        warned =
            rw (places_more ps new, length-append (places_of (warnings_of (emitted c m ps))) (places_of (warnings_of (emitted c m new))), p.warned, q.warned);
        text =
            rw (output_more ps new)
            (put_back a (output_of (emitted c m ps)) (output_of (emitted c m new)) o out y p.text p.written q.text);
        warnings =
            rw (places_more ps new)
            (put_back b (places_of (warnings_of (emitted c m ps))) (places_of (warnings_of (emitted c m new))) w places z p.warnings p.warned q.warnings);
      }

  pub counts_more : (t : Counts) (ps new : List Part) (x y : Counts) → x ≡ count_all t (emitted c m ps) → y ≡ count_all x (emitted c m new)
      → y ≡ count_all t (emitted c m (ps ++ new))
  counts_more t ps new x y p q =
      q ∙ ap (λ (u : Counts). count_all u (emitted c m new)) p ∙ sym (count_append t (emitted c m ps) (emitted c m new))
      ∙ ap (count_all t) (sym (emitted_append ps new))

-- ---- the held bytes and the line in them
module _ (s : State) (n : ℕ) (l : List ℕ) (r : Going) (held : List ℕ) (h : Holds s n l r held) where
  pub held_block : take r.start (take r.held held) ≡ concat s.block
  held_block = rw (h.bytes, h.start) (take-append_seam (concat s.block) l)

  pub held_line : drop r.start (take r.held held) ≡ l
  held_line = rw (h.bytes, h.start) (drop-append_seam (concat s.block) l)

  pub held_sizes : r.start + length l ≡ r.held
  held_sizes = let q = h.count ∙ length-append (concat s.block) l in omega (arith, q, h.start)

-- ---- what was told, behind what was written before
pub told_sums : (a b : ℕ) (out places y z : List ℕ) (q : PartsAnswer) (t : Counts) (e : Ended) → EndTells q t e (lent a out) y (lent b places) z → a ≤ length out → b ≤ length places
    → length y ≡ length (lent a out) → length z ≡ length (lent b places) → (a + e.written ≤ length out) × (b + e.warned ≤ length places)
told_sums a b out places y z q t e h p r i j =
    let w = told_within q t e (lent a out) y (lent b places) z h i j in
    (omega (arith, w, rest_length a out), omega (arith, w, rest_length b places))

-- ---- a line with room for it
module _ (c : Config) (m : List ℕ) (at : Going) (held out places : List ℕ) (R : Room at (length held) (length out) (length places)) (told : Taken) (y z : List ℕ)
    (h : LineTells (take_in c (segments_of m) at.lines at.counts at.columns (take at.held held) at.start (length (lent at.written out)) (length (lent at.warned places)))
    at.counts told (lent at.written out) y (lent at.warned places) z) where
  held_size : length (take at.held held) ≡ at.held
  held_size = length-take-le at.held held (omega (arith, R))

  room_lent : Ample at.counts (length (take at.held held)) (length (lent at.written out)) (length (lent at.warned places))
  room_lent =
      record {
        counts = R.counts;
        room_long = omega (arith, R, held_size, rest_length at.written out);
        places_long = omega (arith, R, rest_length at.warned places);
      }

  line_there : at.start ≤ length (take at.held held)
  line_there = omega (arith, R, held_size)

  pub line_done : Ready c m → (s : State) → at.columns ≡ s.columns → take at.start (take at.held held) ≡ concat s.block → Parsed (eqb c.kind 0) s.block
      → Done c m s (drop at.start (take at.held held)) (take_line (machine_of c.kind) s at.lines (drop at.start (take at.held held))) at.counts told
      (lent at.written out) y (lent at.warned places) z
  line_done d s e f p =
      take_done c m at.lines at.counts at.columns (take at.held held) at.start told (lent at.written out) y (lent at.warned places) z room_lent line_there h d s e f p

  pub line_skip : told.skip ≤ length (take at.held held) - at.start
  line_skip =
      take_skip c m at.lines at.counts at.columns (take at.held held) at.start told (lent at.written out) y (lent at.warned places) z room_lent line_there h

  pub skip_held : told.skip ≤ at.held - at.start
  skip_held = omega (arith, line_skip, held_size)

  pub line_sums : length y ≡ length (lent at.written out) → length z ≡ length (lent at.warned places)
      → (at.written + told.written ≤ length out) × (at.warned + told.warned ≤ length places)
  line_sums i j = told_sums at.written at.warned out places y z _ _ (ended_by told) h.said (omega (arith, R)) (omega (arith, R)) i j

-- ---- a line's end
module _ (c : Config) (m : List ℕ) (M : Machine State) (t : Counts) (s : State) (n : ℕ) (l : List ℕ) (ps : List Part) (o w : List ℕ) (at : Going)
    (held out places : List ℕ) (sh : Shows c m t (going s n l ps) o w at held out places) (told : Taken) (y z : List ℕ) where
  abbrev LineDone : List ℕ → Says State → Type 0
  LineDone k x = Done c m s k x at.counts told (lent at.written out) y (lent at.warned places) z

  stop_by : (x : Says State) (k : List ℕ) (r : Going) (held' : List ℕ) → LineDone k x → (told.number ≡ 0 → ⊥) → r ≡ stopped_at at told.number
      → Shows c m t (line_end M n ps x) o w r held' (back at.written out y) (back at.warned places z)
  stop_by (says u new) k r held' d e f = absurd (e d.number)
  stop_by (faulty g) k r held' d e f =
      let v = wrote_more c m ps [] at.written at.warned told.written told.warned o w out places y z sh.wrote d.wrote in
      rw f
      (record {
        number = d.number;
        counts = sh.counts;
        wrote =
            record {
              written = sh.wrote.written;
              warned = sh.wrote.warned;
              text = v.text ∙ ap (λ (x : List Part). put (output_of (emitted c m x)) o) (append-nil ps);
              warnings = v.warnings ∙ ap (λ (x : List Part). put (places_of (warnings_of (emitted c m x))) w) (append-nil ps);
            };
        holds = tt;
      })

  -- the line passed, and held' holds the block after it
  pass_by : (x : Says State) (k : List ℕ) (r : Going) (held' : List ℕ) (e : ℕ) → LineDone k x → told.number ≡ 0
      → r ≡ lined_to at told e → e ≡ length (concat (state_after s x).block) → take e held' ≡ concat (state_after s x).block
      → Shows c m t (line_end M n ps x) o w r held' (back at.written out y) (back at.warned places z)
  pass_by (faulty g) k r held' e d f p a b = absurd (eqb-false (fault_number g) 0 (fault_number_lem g) (sym d.number ∙ f))
  pass_by (says u new) k r held' e d f p a b =
      rw p
      (record {
        number = refl;
        counts = counts_more c m t ps new at.counts told.counts sh.counts d.counts;
        wrote = wrote_more c m ps new at.written at.warned told.written told.warned o w out places y z sh.wrote d.wrote;
        holds =
            record {
              lines = omega (arith, sh.holds.lines);
              columns = d.columns;
              start = a;
              count = a ∙ ap length (sym (append-nil (concat u.block)));
              bytes = b ∙ sym (append-nil (concat u.block));
            };
      })

  abbrev LineTaken : Type 0
  LineTaken = LineDone (drop at.start (take at.held held)) (take_line M s at.lines (drop at.start (take at.held held)))

  line_taken : LineTaken → LineDone l (take_line M s n l)
  line_taken d =
      subst (λ (j : ℕ). LineDone l (take_line M s j l)) sh.holds.lines
      (subst (λ (u : List ℕ). LineDone u (take_line M s at.lines u)) (held_line s n l at held sh.holds) d)

  pub end_stop : (r : Going) → LineTaken → (told.number ≡ 0 → ⊥) → r ≡ stopped_at at told.number
      → Shows c m t (line_end M n ps (take_line M s n l)) o w r held (back at.written out y) (back at.warned places z)
  end_stop r d e f = stop_by (take_line M s n l) l r held (line_taken d) e f

  pub end_empty : (r : Going) → LineTaken → told.number ≡ 0 → told.added ≡ false → r ≡ lined_to at told 0
      → Shows c m t (line_end M n ps (take_line M s n l)) o w r held (back at.written out y) (back at.warned places z)
  end_empty r d e a f =
      let b : (state_after s (take_line M s n l)).block ≡ [] = (line_taken d).block e ∙ ap (λ (v : Bool). cond v (s.block ++ (drop told.skip l ∷ [])) []) a in
      pass_by (take_line M s n l) l r held 0 (line_taken d) e f (ap (λ (v : List (List ℕ)). length (concat v)) (sym b)) (ap concat (sym b))

  pub end_added : (r : Going) (held' : List ℕ) → LineTaken → told.number ≡ 0 → told.added ≡ true → told.skip ≤ length (take at.held held) - at.start
      → at.start ≤ at.held → at.held ≤ length held
      → take (at.start + (at.held - at.start - told.skip)) held' ≡ take at.start held ++ take (at.held - at.start - told.skip) (drop (at.start + told.skip) held)
      → r ≡ lined_to at told (at.held - told.skip)
      → Shows c m t (line_end M n ps (take_line M s n l)) o w r held' (back at.written out y) (back at.warned places z)
  end_added r held' d e a small order room g f =
      let b : (state_after s (take_line M s n l)).block ≡ s.block ++ (drop told.skip l ∷ []) =
      (line_taken d).block e ∙ ap (λ (v : Bool). cond v (s.block ++ (drop told.skip l ∷ [])) []) a in
      let b' : concat (state_after s (take_line M s n l)).block ≡ concat s.block ++ drop told.skip l = ap concat b ∙ concat_snoc s.block (drop told.skip l) in
      let size : length (take at.held held) ≡ at.held = length-take-le at.held held room in
      let a1 : at.held - told.skip ≡ at.start + (at.held - at.start - told.skip) = omega arith in
      let x1 : take at.start held ≡ concat s.block = sym (take-take at.start at.held held order) ∙ held_block s n l at held sh.holds in
      let a2 : at.held - at.start - told.skip ≡ at.held - (at.start + told.skip) = omega arith in
      let x2 : take (at.held - at.start - told.skip) (drop (at.start + told.skip) held) ≡ drop told.skip l =
      ap (λ (j : ℕ). take j (drop (at.start + told.skip) held)) a2 ∙ sym (drop_take (at.start + told.skip) at.held held)
      ∙ rw (sh.holds.bytes, sh.holds.start) (drop-append-add (concat s.block) l told.skip) in
      let v : take (at.held - told.skip) held' ≡ concat s.block ++ drop told.skip l =
      ap (λ (j : ℕ). take j held') a1 ∙ g ∙ ap₂ (λ (u v : List ℕ). u ++ v) x1 x2 in
      let len : at.held - told.skip ≡ length (concat s.block ++ drop told.skip l) =
      rw (length-append (concat s.block) (drop told.skip l), length-drop told.skip l)
      (omega (arith, held_sizes s n l at held sh.holds, sh.holds.start, small, size)) in
      pass_by (take_line M s n l) l r held' (at.held - told.skip) (line_taken d) e f (len ∙ ap length (sym b')) (v ∙ sym b')

-- ---- a byte
module _ (c : Config) (m : List ℕ) (M : Machine State) (a : Bool) (t : Counts) (o w : List ℕ) (at : Going) (held out places : List ℕ) (b : ℕ) where
  pub byte_idle : (q : Run State) → Shows c m t q o w at held out places → (at.number ≡ 0 → ⊥) → Shows c m t (byte_step M q b) o w at held out places
  byte_idle (going s n h ps) sh e = absurd (e sh.number)
  byte_idle (stopped k ps) sh e = sh

  pub byte_long : (q : Run State) (r : Going) → ParsedIn a q → Shows c m t q o w at held out places → at.number ≡ 0 → most_line ≤ at.held - at.start → r ≡ stopped_at at 19
      → Shows c m t (byte_step M q b) o w r held out places
  byte_long (stopped k ps) r p sh e f g = absurd (eqb-false k 0 p (sym sh.number ∙ e))
  byte_long (going s n h ps) r p sh e f g =
      let d : most_line < length (h ++ (b ∷ [])) = rw (length-append h (b ∷ [])) (omega (arith, f, held_sizes s n h at held sh.holds)) in
      rw (lt-leb _ _ d, g) (record { number = refl; counts = sh.counts; wrote = sh.wrote; holds = tt })

  more_held : (s : State) (n : ℕ) (h : List ℕ) → Holds s n h at held → at.held < length held → (r : Going) → r ≡ holding_to at (at.held + 1)
      → Holds s n (h ++ (b ∷ [])) r (set held at.held b)
  more_held s n h k d r g =
      rw g
      (record {
        lines = k.lines;
        columns = k.columns;
        start = k.start;
        count = rw (sym (append_assoc (concat s.block) h (b ∷ [])), length-append (concat s.block ++ h) (b ∷ []), k.count) (omega arith);
        bytes = rw (add-one, take-suc-set held at.held b d, k.bytes) (append_assoc (concat s.block) h (b ∷ []));
      })

  more_shows : (s : State) (n : ℕ) (h : List ℕ) (ps : List Part) → Shows c m t (going s n h ps) o w at held out places → at.held < length held → (r : Going) → r ≡ holding_to at (at.held + 1)
      → Shows c m t (going s n (h ++ (b ∷ [])) ps) o w r (set held at.held b) out places
  more_shows s n h ps sh d r g =
      record { number = rw g sh.number; counts = rw g sh.counts; wrote = rw g sh.wrote; holds = more_held s n h sh.holds d r g }

  pub byte_more : (q : Run State) (r : Going) → ParsedIn a q → Shows c m t q o w at held out places → at.number ≡ 0 → at.held - at.start < most_line → at.held < length held
      → r ≡ holding_to at (at.held + 1) → (b ≡ 10 → ⊥) → Shows c m t (byte_step M q b) o w r (set held at.held b) out places
  byte_more (stopped k ps) r p sh e f d g z = absurd (eqb-false k 0 p (sym sh.number ∙ e))
  byte_more (going s n h ps) r p sh e f d g z =
      let k : length (h ++ (b ∷ [])) ≤ most_line = rw (length-append h (b ∷ [])) (omega (arith, f, held_sizes s n h at held sh.holds)) in
      rw (le-leb _ _ k, ne_eqb b 10 z) (more_shows s n h ps sh d r g)

  -- v: what the line's end shows
  pub byte_line : (q : Run State) (more r : Going) (held' out' places' : List ℕ) → ParsedIn a q → Shows c m t q o w at held out places → at.number ≡ 0
      → at.held - at.start < most_line → at.held < length held → more ≡ holding_to at (at.held + 1) → b ≡ 10
      → ((s : State) (n : ℕ) (l : List ℕ) (ps : List Part) → Parsed a s.block → Shows c m t (going s n l ps) o w more (set held at.held b) out places
      → Shows c m t (line_end M n ps (take_line M s n l)) o w r held' out' places')
      → Shows c m t (byte_step M q b) o w r held' out' places'
  byte_line (stopped k ps) more r held' out' places' p sh e f d g z v = absurd (eqb-false k 0 p (sym sh.number ∙ e))
  byte_line (going s n h ps) more r held' out' places' p sh e f d g z v =
      let k : length (h ++ (b ∷ [])) ≤ most_line = rw (length-append h (b ∷ [])) (omega (arith, f, held_sizes s n h at held sh.holds)) in
      rw (le-leb _ _ k, eq-eqb b 10 z) (v s n (h ++ (b ∷ [])) ps p (more_shows s n h ps sh d more g))

-- room for the line when its last byte is held
pub more_room : (at r : Going) (h h' o w : ℕ) → r ≡ holding_to at (at.held + 1) → ByteRoom at h o w → at.held - at.start < most_line → h' ≡ h → Room r h' o w
more_room at r h h' o w e b f g =
    rw e
    (record {
      size = g ∙ b.size;
      order = omega (arith, b.order);
      block = b.block;
      line = omega (arith, f, b.order);
      text = b.text;
      warnings = b.warnings;
      lines = b.lines;
      counts = b.counts;
    })
