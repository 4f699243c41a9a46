-- A text that begins with held bytes: the machine over a line of it, where a line ends, and where its lines begin.
use mathlib.Core.Path.{◌≡◌, refl, sym, ap, ◌∙◌}
use mathlib.Core.Bool.{Bool, true, false, cond, true≢false}
use mathlib.Core.List.{List, [], ◌∷◌, ◌++◌, append-nil, append_assoc}
use Prim.Native.Nat.{ℕ, zero, suc, ◌+◌, ◌-◌, ◌≤◌, ◌<◌, min}
use native.Mathlib.Omega.{arith}
use lib.Dec.{eqb}
use lib.ListN.{length, take, drop, get_or, length-append, length-take, length-drop, take-append-drop}
use lib.Seq.{take-take, take-append_seam, drop-append_seam, length-take-le}
use borrow.Author.Tests.{le-leb, lt-leb, eqb-true, eqb-false}
use Rattle.spec_base.specs.base.Limits.{most_line, most_taken}
use Rattle.spec_text.specs.text.Line.{line_length, ends_line, has_lf, is_empty, concat, line_count}
use Rattle.spec_text.proofs.text.LineLaws.{line_le, line_some}
use Rattle.spec_map.specs.segment.Segment.{segments_of}
use Rattle.spec_caption.specs.caption_fate.Says.{Part}
use Rattle.spec_machine.specs.session_counts.Cut.{closed_lines, unfinished}
use Rattle.spec_machine.specs.session_counts.Machine.{Machine, Run, going, stopped, line_end, take_line, byte, run}
use Rattle.spec_machine.proofs.session_counts.Emits.{parts_none}
use Rattle.spec_machine.proofs.session_counts.CutLaws.{cut_joined, cut_length, has_none}
use Rattle.spec_machine.proofs.session_counts.Bytes.{run_stopped}
use Rattle.spec_machine.proofs.session_counts.Resume.{run_append}
use Rattle.spec_machine.proofs.session_counts.Laws.{Lawful}
use Rattle.spec_machine.proofs.session_counts.Native.{Ok, GoingOk, run_ok}
use Rattle.spec_machine.proofs.session_counts.Room as room
use Rattle.spec_machine.proofs.session_counts.Room.{GoingRoom, out_none, warn_none, run_room}
use Rattle.spec_machine.specs.kinds.Takes.{State, machine_of}
use Rattle.spec_machine.specs.kinds.Kit.{kit}
use Rattle.spec_machine.proofs.kinds.KindLaws.{lawful, lawful_fit, lawful_size, lawful_pending}
use Rattle.spec_machine.proofs.kinds.Native.{Native, is_native}
use Rattle.spec_machine.proofs.kinds.Fits.{room_of_lem}
use Rattle.spec_session.specs.declared.session_state.Head.{Head}
use Rattle.spec_session.specs.session_lines.Done.{Ready}
use Rattle.spec_session.proofs.session.RunLaws.{Slow, run_slow}
use Rattle.spec_session.specs.session_text.Answer.{text_held, text_new, text_session}
use Rattle.spec_session.specs.session_text.Lined.{LineEnd, line_start, start_state, Starts, text_run}

-- ---- the machine over a line
module _ {σ : Type 0} (M : Machine σ) (s : σ) (n : ℕ) (ps : List Part) where
  -- that LF ends
  pub run_line : (h l : List ℕ) → ends_line l ≡ true → length h + length l ≤ most_line → run M (going s n h ps) l ≡ line_end M n ps (take_line M s n (h ++ l))
  unfolding ends_line
  run_line h [] e k = absurd (true≢false (sym e))
  run_line h (b ∷ l) e k =
      let q : length (h ++ (b ∷ [])) ≤ most_line = rw (length-append h (b ∷ [])) (omega arith) in
      let f : length (h ++ (b ∷ [])) + length l ≤ most_line = rw (length-append h (b ∷ [])) (omega arith) in
      rw (le-leb (length (h ++ (b ∷ []))) most_line q) (go (eqb b 10) e (λ z. run_line (h ++ (b ∷ [])) l z f))
    where
      last : (k : List ℕ) → is_empty k ≡ true → run M (line_end M n ps (take_line M s n (h ++ (b ∷ [])))) k ≡ line_end M n ps (take_line M s n (h ++ (b ∷ k)))
      last [] q = refl
      last (x ∷ k) q = absurd (true≢false (sym q))

      go : (t : Bool) → cond t (is_empty l) (ends_line l) ≡ true
          → (ends_line l ≡ true → run M (going s n (h ++ (b ∷ [])) ps) l ≡ line_end M n ps (take_line M s n ((h ++ (b ∷ [])) ++ l)))
          → run M (byte M true t s n (h ++ (b ∷ [])) ps) l ≡ line_end M n ps (take_line M s n (h ++ (b ∷ l)))
      go true q ih = last l q
      go false q ih = ih q ∙ ap (λ (x : List ℕ). line_end M n ps (take_line M s n x)) (append_assoc h (b ∷ []) l)

  -- that no LF ends, while it is short enough
  pub run_open : (h l : List ℕ) → has_lf l ≡ false → length h + length l ≤ most_line → run M (going s n h ps) l ≡ going s n (h ++ l) ps
  unfolding has_lf
  run_open h [] e k = ap (λ (x : List ℕ). going s n x ps) (sym (append-nil h))
  run_open h (b ∷ l) e k =
      let q : length (h ++ (b ∷ [])) ≤ most_line = rw (length-append h (b ∷ [])) (omega arith) in
      let f : length (h ++ (b ∷ [])) + length l ≤ most_line = rw (length-append h (b ∷ [])) (omega arith) in
      rw (le-leb (length (h ++ (b ∷ []))) most_line q) (go (eqb b 10) e (λ z. run_open (h ++ (b ∷ [])) l z f))
    where
      go : (t : Bool) → cond t true (has_lf l) ≡ false → (has_lf l ≡ false → run M (going s n (h ++ (b ∷ [])) ps) l ≡ going s n ((h ++ (b ∷ [])) ++ l) ps)
          → run M (byte M true t s n (h ++ (b ∷ [])) ps) l ≡ going s n (h ++ (b ∷ l)) ps
      go true q ih = absurd (true≢false q)
      go false q ih = ih q ∙ ap (λ (x : List ℕ). going s n x ps) (append_assoc h (b ∷ []) l)

  -- and too long: 19
  run_over : (h l : List ℕ) → most_line ≤ length h → 0 < length l → run M (going s n h ps) l ≡ stopped 19 ps
  run_over h [] k e = absurd (omega arith)
  run_over h (b ∷ l) k e =
      let q : most_line < length (h ++ (b ∷ [])) = rw (length-append h (b ∷ [])) (omega arith) in
      rw (lt-leb (length (h ++ (b ∷ []))) most_line q) (run_stopped M 19 ps l)

  pub run_long : (l : List ℕ) → has_lf (take most_line l) ≡ false → most_line < length l → run M (going s n [] ps) l ≡ stopped 19 ps
  run_long l e k =
      let z : length (take most_line l) ≡ most_line = length-take-le most_line l (omega arith) in
      ap (run M (going s n [] ps)) (sym (take-append-drop most_line l))
      ∙ run_append M (going s n [] ps) (take most_line l) (drop most_line l)
      ∙ ap (λ (r : Run σ). run M r (drop most_line l)) (run_open [] (take most_line l) e (omega (arith, z)))
      ∙ run_over (take most_line l) (drop most_line l) (omega (arith, z)) (omega (arith, length-drop most_line l))

-- ---- where a line ends
ends_hit : (s : List ℕ) → (line_length s ≡ 0 → ⊥) → get_or s (line_length s - 1) 0 ≡ 10 → ends_line (take (line_length s) s) ≡ true
unfolding line_length ends_line
ends_hit [] h e = absurd (h refl)
ends_hit (b ∷ s) h e = go (eqb b 10) refl e (ends_hit s)
  where
    later : (j : ℕ) → j ≡ line_length s → get_or (b ∷ s) j 0 ≡ 10 → eqb b 10 ≡ false
        → ((line_length s ≡ 0 → ⊥) → get_or s (line_length s - 1) 0 ≡ 10 → ends_line (take (line_length s) s) ≡ true) → ends_line (take j s) ≡ true
    later zero q f z ih = absurd (eqb-false b 10 z f)
    later (suc j) q f z ih =
        let w : j ≡ line_length s - 1 = omega (arith, q) in
        let g : get_or s (line_length s - 1) 0 ≡ 10 = ap (λ (i : ℕ). get_or s i 0) (sym w) ∙ f in
        ap (λ (i : ℕ). ends_line (take i s)) q ∙ ih (λ z. omega (arith, q, z)) g

    go : (t : Bool) → eqb b 10 ≡ t → get_or (b ∷ s) (cond t 1 (suc (line_length s)) - 1) 0 ≡ 10
        → ((line_length s ≡ 0 → ⊥) → get_or s (line_length s - 1) 0 ≡ 10 → ends_line (take (line_length s) s) ≡ true)
        → ends_line (take (cond t 1 (suc (line_length s))) (b ∷ s)) ≡ true
    go true z f ih = rw z
    go false z f ih =
        let w : suc (line_length s) - 1 ≡ line_length s = omega arith in
        rw z (later (line_length s) refl (ap (λ (i : ℕ). get_or (b ∷ s) i 0) (sym w) ∙ f) z ih)

ends_miss : (s : List ℕ) → (get_or s (line_length s - 1) 0 ≡ 10 → ⊥) → has_lf s ≡ false
unfolding line_length has_lf
ends_miss [] e = refl
ends_miss (b ∷ s) e = go (eqb b 10) refl e (ends_miss s)
  where
    later : (t : List ℕ) → (get_or (b ∷ t) (line_length t) 0 ≡ 10 → ⊥) → ((get_or t (line_length t - 1) 0 ≡ 10 → ⊥) → has_lf t ≡ false) → has_lf t ≡ false
    later [] f ih = refl
    later (x ∷ t) f ih = deep (eqb x 10) refl
      where
        deep : (u : Bool) → eqb x 10 ≡ u → has_lf (x ∷ t) ≡ false
        deep true z = absurd (f (let w : line_length (x ∷ t) ≡ 1 = rw z in ap (λ (i : ℕ). get_or (b ∷ x ∷ t) i 0) w ∙ eqb-true x 10 z))
        deep false z =
            let w : line_length (x ∷ t) ≡ suc (line_length t) = rw z in
            let v : line_length (x ∷ t) - 1 ≡ line_length t = omega (arith, w) in
            ih (λ q. f (ap (λ (i : ℕ). get_or (b ∷ x ∷ t) i 0) w ∙ ap (λ (i : ℕ). get_or (x ∷ t) i 0) (sym v) ∙ q))

    go : (t : Bool) → eqb b 10 ≡ t → (get_or (b ∷ s) (cond t 1 (suc (line_length s)) - 1) 0 ≡ 10 → ⊥) → ((get_or s (line_length s - 1) 0 ≡ 10 → ⊥) → has_lf s ≡ false)
        → cond t true (has_lf s) ≡ false
    go true z f ih = absurd (f (eqb-true b 10 z))
    go false z f ih =
        let w : suc (line_length s) - 1 ≡ line_length s = omega arith in
        later s (λ q. f (ap (λ (i : ℕ). get_or (b ∷ s) i 0) w ∙ q)) ih

module _ (text u line : List ℕ) (i k : ℕ) (eu : u ≡ drop i text) (el : line ≡ take most_line u) (ek : k ≡ line_length line) where
  line_size : length line ≡ min most_line (length text - i)
  line_size = ap length el ∙ length-take most_line u ∙ ap (λ (x : List ℕ). min most_line (length x)) eu ∙ ap (min most_line) (length-drop i text)

  line_is : line ≡ take most_line (drop i text)
  line_is = el ∙ ap (take most_line) eu

  -- no byte is left
  pub end_none : k ≡ 0 → LineEnd text i 0
  unfolding has_lf
  end_none z = record { closed = λ f. absurd (f refl); none = λ _. ap has_lf (sym line_is) ∙ go line (line_some line) (ek) z }
    where
      go : (l : List ℕ) → (0 < length l → 0 < line_length l) → k ≡ line_length l → k ≡ 0 → has_lf l ≡ false
      go [] f e z = refl
      go (b ∷ l) f e z = absurd (omega (arith, f (omega arith), e, z))

  -- it has no LF
  pub end_open : (get_or line (k - 1) 0 ≡ 10 → ⊥) → LineEnd text i 0
  end_open f =
      record {
        closed = λ g. absurd (g refl);
        none = λ _. ap has_lf (sym line_is) ∙ ends_miss line (λ q. f (ap (λ (j : ℕ). get_or line (j - 1) 0) ek ∙ q));
      }

  module _ (z : k ≡ 0 → ⊥) where
    pub line_last : k - 1 < length line
    line_last = omega (arith, ek, line_le line, z)

    pub line_sum : i + k ≤ length text
    line_sum = omega (arith, ek, line_le line, line_size, z)

    pub end_closed : get_or line (k - 1) 0 ≡ 10 → LineEnd text i (i + k)
    end_closed h =
        let a : i + k - i ≡ line_length line = omega (arith, ek) in
        let b : line_length line ≤ most_line = omega (arith, line_le line, line_size) in
        let f : take (i + k - i) (drop i text) ≡ take (line_length line) line =
        ap (λ (j : ℕ). take j (drop i text)) a ∙ sym (take-take (line_length line) most_line (drop i text) b)
        ∙ ap (take (line_length line)) (sym line_is) in
        record {
          closed = λ _. record {
            lo = omega (arith, z);
            hi = line_sum;
            near = omega (arith, b, ek);
            ends = ap ends_line f ∙ ends_hit line (λ q. z (ek ∙ q)) (ap (λ (j : ℕ). get_or line (j - 1) 0) (sym ek) ∙ h);
          };
          none = λ q. absurd (z (omega (arith, q)));
        }

no_lines : (ls : List (List ℕ)) → line_count ls ≤ 0 → ls ≡ []
no_lines [] e = refl
no_lines (l ∷ ls) e = absurd (omega arith)

-- ---- the start
module _ (h : Head) (m text : List ℕ) (out places : ℕ) (S : Starts h m text out places) where
  abbrev held : List ℕ
  held = text_held h text

  abbrev begin : ℕ
  begin = line_start h text

  pub own : Native (text_session h text)
  own = is_native (text_session h text) S.sound

  pub ready : Ready h.config m
  ready = record { kind_known = own.kind_known; timescale_good = own.timescale_good; map_good = S.map_good }

  abbrev pub L : Lawful kit h.config.kind
  L = lawful h.config.kind own.kind_known

  abbrev pub M : Machine State
  M = machine_of h.config.kind

  held_size : length held ≡ h.held_len
  held_size = length-take-le h.held_len text S.long

  pub text_few : length text ≤ most_taken
  text_few = omega (arith, own.held_few, held_size, S.few, S.long)

  start_size : begin + length (unfinished held) ≡ h.held_len
  start_size = cut_length held ∙ held_size

  pub start_within_lem : begin ≤ length text
  start_within_lem = omega (arith, start_size, S.long)

  pub start_block : take begin text ≡ concat (closed_lines held)
  start_block =
      sym (take-take begin h.held_len text (omega (arith, start_size)))
      ∙ ap (take begin) (sym (cut_joined held)) ∙ take-append_seam (concat (closed_lines held)) (unfinished held)

  start_rest : drop begin text ≡ unfinished held ++ text_new h text
  start_rest =
      ap (drop begin) (sym (take-append-drop h.held_len text) ∙ ap (λ (x : List ℕ). x ++ text_new h text) (sym (cut_joined held)) ∙ append_assoc (concat (closed_lines held)) (unfinished held) (text_new h text))
      ∙ drop-append_seam (concat (closed_lines held)) (unfinished held ++ text_new h text)

  abbrev pub start_run_lem : Run State
  start_run_lem = going (start_state h text) h.lines [] []

  -- from the held unfinished line on it is a feed of the new bytes
  pub start_run : run M start_run_lem (drop begin text) ≡ text_run h text
  start_run =
      ap (run M start_run_lem) start_rest ∙ run_append M start_run_lem (unfinished held) (text_new h text)
      ∙ ap (λ (r : Run State). run M r (text_new h text)) (run_open M (start_state h text) h.lines [] [] (unfinished held) own.holds.open_line (omega (arith, own.holds.short)))

  pub start_first : h.lines ≡ 0 → begin ≡ 0
  start_first e = ap (λ (ls : List (List ℕ)). length (concat ls)) (no_lines (closed_lines held) (omega (arith, own.rows_few, e)))

  start_ok : GoingOk kit h.config.kind L 1 (h.lines + begin) (start_state h text) h.lines [] []
  start_ok =
      record {
        fit = lawful_fit h.config.kind own.kind_known (start_state h text) own.holds.fit;
        short = omega arith;
        open_line = has_none;
        bytes = omega arith;
        room = omega (arith, lawful_size h.config.kind own.kind_known (start_state h text));
        few = omega (arith, lawful_pending h.config.kind own.kind_known (start_state h text), parts_none);
      }

  start_room : GoingRoom h.config (segments_of m) L.size 3 begin (start_state h text) [] []
  start_room =
      let z = lawful_size h.config.kind own.kind_known (start_state h text) in
      record {
        out = rw (out_none h.config (segments_of m)) (omega (arith, z));
        warn = rw (warn_none h.config (segments_of m)) (omega (arith, z));
      }

  pub ran_ok : (xs : List ℕ) → Ok kit h.config.kind L 1 (length xs + (h.lines + begin)) (run M start_run_lem xs)
  ran_ok xs = run_ok kit h.config.kind L 1 (h.lines + begin) start_run_lem xs start_ok

  pub ran_room : (xs : List ℕ) → room.Room h.config (segments_of m) L.size 3 (length xs + begin) (run M start_run_lem xs)
  ran_room xs =
      run_room kit h.config.kind L h.config (segments_of m) 3 (room_of_lem (text_session h text) own m S.map_good) 1 (h.lines + begin) begin start_run_lem xs start_ok start_room

  pub ran_slow : (xs : List ℕ) → Slow h.config.kind L h.lines (run M start_run_lem xs)
  ran_slow xs =
      run_slow h.config.kind L h.lines (h.lines + begin) start_run_lem xs start_ok
      (omega (arith, parts_none, lawful_pending h.config.kind own.kind_known (start_state h text)))
