-- SRT and WebVTT: the walk's fault and rows are those of the machine that reads line by line; by promise/proofs/PlainBlocks they are the plain reader's.
use mathlib.Core.Path.{◌≡◌, refl, sym, ap, ap₂, subst, ◌∙◌}
use mathlib.Core.Bool.{Bool, true, false, cond}
use mathlib.Core.List.{List, [], ◌∷◌, ◌++◌, append_assoc, append-nil}
use Prim.Native.Nat.{ℕ, suc, ◌+◌, ◌-◌}
use native.Mathlib.Omega.{arith}
use borrow.Author.Tests.{ne_eqb}
use lib.Dec.{eqb, leb}
use lib.ListN.{length, length-append}
use Rattle.std.specs.Prelude.{Option, Some, None}
use Rattle.spec_base.specs.base.Limits.{most_line, most_block}
use Rattle.spec_base.specs.base.Refusal.{◌or_else◌, fault_unless}
use Rattle.spec_text.specs.utf8.Utf8.{utf8}
use Rattle.spec_text.specs.pattern.Find.{contains, up_to}
use Rattle.spec_text.specs.text.Line.{lines_of, concat, line_count, text_of, terminator_of}
use Rattle.spec_caption.specs.caption_fate.Says.{Part, stays, cue, not_utf8, bad_time}
use Rattle.spec_caption.specs.caption_fate.Bom.{behind_bom}
use Rattle.spec_cue.specs.block_timing.Style.{style_of, stamps_in, blank_in}
use Rattle.spec_cue.specs.block_timing.Header.{header_due}
use Rattle.spec_cue.specs.block_timing.Arrow.{arrow, Timing, untimed, timed, later, timing_of}
use Rattle.spec_cue.specs.block_cue.Block.{block_frame, block_cue, both_say, end_text, trailing, timing_line_says, timing_says, block_says}
use Rattle.spec_machine.specs.session_counts.Machine.{Machine, Says, faulty, says}
use Rattle.spec_machine.specs.session_counts.Reader.{Reading, reading, fails, ◌⊕◌, read_line, read_close}
use Rattle.spec_machine.specs.kinds.Takes.{State, blank_state, with_block, of_block, closes, adds, block_takes, takes, block_ends, ends, machine_of}
use Rattle.promise.specs.Plain.{bom_length, line_fault}
use Rattle.promise.proofs.Bare.{read_all}
use Rattle.promise.proofs.PlainBlocks.{due_past}
use Rattle.promise.proofs.LinesCut.{Cut, cut_tail, cut_behind, cut_before, cut_lines, many_append, concat_append}
use Rattle.spec_rows.specs.declared.caption_rows.Said.{Said}
use Rattle.spec_rows.specs.caption_rows.Said.{words_length, at_fault, quiet, part_said, held_said, block_said}
use Rattle.spec_rows.specs.caption_rows.Walk.{Walk, stopped, ◌then◌, block_turn, block_walk}
use Rattle.spec_rows.specs.caption_rows.Cues.{lines_before, line_at, words_at}
use Rattle.spec_rows.proofs.caption_rows.AgreeAss.{Agree, agree_fails, agree_part, agree_fault, before_lines}
use Rattle.spec_time.specs.declared.caption_stamp.Stamp.{Stamp}

-- ---- the timing line parts the block's lines
abbrev pub TimedIn : List (List ℕ) → Timing → Type 0
TimedIn ks untimed = Unit {0}
TimedIn ks (timed b l a) = ks ≡ b ++ (l ∷ a)

later_in : (k : List ℕ) (ks : List (List ℕ)) (t : Timing) → TimedIn ks t → TimedIn (k ∷ ks) (later k t)
later_in k ks untimed h = tt
later_in k ks (timed b l a) h = ap (λ (x : List (List ℕ)). k ∷ x) h

pub timed_in : (ks : List (List ℕ)) → TimedIn ks (timing_of ks)
unfolding timing_of
timed_in [] = tt
timed_in (k ∷ ks) = go (contains arrow (text_of k)) (timed_in ks)
  where
    go : (t : Bool) → TimedIn ks (timing_of ks) → TimedIn (k ∷ ks) (cond t (timed [] k ks) (later k (timing_of ks)))
    go true h = refl
    go false h = later_in k ks (timing_of ks) h

-- ---- a kind of blocks
module _ (j : ℕ) (text : List ℕ) where
  abbrev M : Machine State
  M = machine_of (suc j)

  abbrev pub Agrees : Walk → Reading → Type 0
  Agrees w r = Agree (suc j) text w r

  not_ass : eqb (suc j) 0 ≡ false
  not_ass = ne_eqb (suc j) 0 (λ q. omega arith)

  agree_stays : (w : Walk) (r : Reading) (l : List ℕ) → Agrees w r → Agrees w ((stays l ∷ []) ⊕ r)
  agree_stays w r l a = record { fault = a.fault; rows = a.rows }

  -- ---- a closed block of the lines ks, behind the lines `done`; i is where it begins
  module _ (done ks rest : List (List ℕ)) (e : lines_of (behind_bom text) ≡ done ++ (ks ++ rest)) (i : ℕ) (ei : i ≡ bom_length text + length (concat done)) where
    words_place : (b : List (List ℕ)) (l : List ℕ) (a : List (List ℕ)) → ks ≡ b ++ (l ∷ a)
        → i + (length (concat ks) - length (concat a)) ≡ line_at text (suc (suc (line_count done) + line_count b))
    words_place b l a ek =
        let front : List (List ℕ) = done ++ (b ++ (l ∷ [])) in
        let whole : done ++ (ks ++ rest) ≡ front ++ (a ++ rest) =
        ap (λ (x : List (List ℕ)). done ++ (x ++ rest)) ek ∙ ap (λ (x : List (List ℕ)). done ++ x) (append_assoc b (l ∷ a) rest ∙ sym (append_assoc b (l ∷ []) (a ++ rest)))
        ∙ sym (append_assoc done (b ++ (l ∷ [])) (a ++ rest)) in
        let many : suc (suc (line_count done) + line_count b) ≡ suc (line_count front) =
        let p = many_append done (b ++ (l ∷ [])) in let q = many_append b (l ∷ []) in omega (arith, p, q) in
        let before : lines_before (suc (suc (line_count done) + line_count b)) (lines_of (behind_bom text)) ≡ front =
        ap₂ (λ (k : ℕ) (x : List (List ℕ)). lines_before k x) many (e ∙ whole) ∙ before_lines front (a ++ rest) in
        let n1 : length (concat front) ≡ length (concat done) + length (concat (b ++ (l ∷ []))) = ap length (concat_append done (b ++ (l ∷ []))) ∙ length-append (concat done) (concat (b ++ (l ∷ []))) in
        let n2 : length (concat (b ++ (l ∷ []))) ≡ length (concat b) + length (l ++ []) = ap length (concat_append b (l ∷ [])) ∙ length-append (concat b) (l ++ []) in
        let n3 : length (l ++ []) ≡ length l = ap length (append-nil l) in
        let n4 : length (concat ks) ≡ length (concat b) + length (l ++ concat a) = ap (λ (x : List (List ℕ)). length (concat x)) ek ∙ ap length (concat_append b (l ∷ a)) ∙ length-append (concat b) (l ++ concat a) in
        let n5 : length (l ++ concat a) ≡ length l + length (concat a) = length-append l (concat a) in
        let n6 : i + (length (concat ks) - length (concat a)) ≡ bom_length text + length (concat front) = omega (arith, n1, n2, n3, n4, n5, ei) in
        n6 ∙ ap (λ (x : List (List ℕ)). bom_length text + length (concat x)) (sym before)

    module _ (s : State) (more : List Part) (w : Walk) (after : State → Reading) (h : Agrees w (more ⊕ after (with_block [] s))) where
      abbrev F : ℕ
      F = suc (line_count done)

      both_agree : (b : List (List ℕ)) (l : List ℕ) (a : List (List ℕ)) (z : Bool) (B t y : List ℕ) (X Y : Option Stamp) → ks ≡ b ++ (l ∷ a)
          → Agrees (held_said (suc j) F i (length (concat ks)) (timed b l a) (both_say (F + line_count b) z (block_frame B t y (concat a)) X Y) then w)
          (read_line M true (of_block s more (both_say (F + line_count b) z (block_frame B t y (concat a)) X Y)) after)
      unfolding words_length words_at
      both_agree b l a z B t y None Y ek = agree_fault (suc j) text bad_time (F + line_count b) w
      both_agree b l a z B t y (Some S) None ek = agree_fault (suc j) text bad_time (F + line_count b) w
      both_agree b l a z B t y (Some S) (Some E) ek =
          agree_part (suc j) text (part_said (suc j) i (length (concat ks)) (cue (block_cue (F + line_count b) S.units S.mark E.units E.mark z (block_frame B t y (concat a))))) (cue (block_cue (F + line_count b) S.units S.mark E.units E.mark z (block_frame B t y (concat a)))) w (more ⊕ after (with_block [] s)) refl
          (rw not_ass (ap (λ (k : ℕ). (F + line_count b) ∷ 0 ∷ S.units ∷ E.units ∷ k ∷ length (concat a) ∷ []) (words_place b l a ek))) h

      held_agree : (t : Timing) → TimedIn ks t
          → Agrees (held_said (suc j) F i (length (concat ks)) t (timing_says (style_of (suc j)) F ks t) then w) (read_line M true (of_block s more (timing_says (style_of (suc j)) F ks t)) after)
      unfolding timing_line_says
      held_agree untimed u = agree_part (suc j) text quiet (stays (concat ks)) w (more ⊕ after (with_block [] s)) refl refl h
      held_agree (timed b l a) u =
          both_agree b l a (stamps_in (suc j) (concat a)) (concat b) (trailing (style_of (suc j)) (text_of l)) (terminator_of l) ((style_of (suc j)).time (up_to arrow (text_of l))) ((style_of (suc j)).time (end_text (style_of (suc j)) (text_of l))) u

      block_said_lem : lines_of (concat ks) ≡ ks → Agrees (block_said (suc j) F i (concat ks) then w) (read_line M true (of_block s more (block_says (style_of (suc j)) F ks)) after)
      unfolding block_said block_says
      block_said_lem q =
          subst (λ (x : List (List ℕ)). Agrees (held_said (suc j) F i (length (concat ks)) (timing_of x) (timing_says (style_of (suc j)) F x (timing_of x)) then w) (read_line M true (of_block s more (timing_says (style_of (suc j)) F ks (timing_of ks))) after)) (sym q)
          (held_agree (timing_of ks) (timed_in ks))

  -- ---- one line, by its checks: a is the line's length, b UTF-8, w blank, c the block's length
  step : (a b w c : Bool) (s : State) (n f : ℕ) (l : List ℕ) (S : Said) (W1 W2 : Walk) (after : State → Reading) (C : Says State)
      → (w ≡ true → Agrees (S then W1) (read_line M true C after)) → Agrees W2 (after (with_block (s.block ++ (l ∷ [])) s))
      → Agrees (cond (eqb (fault_unless a 19 or_else fault_unless b 20) 0) (cond w S (cond c quiet (at_fault 21 (suc f)))) (at_fault (fault_unless a 19 or_else fault_unless b 20) (suc n)) then cond w W1 W2)
      (read_line M a (cond b (cond w C (adds c s l)) (faulty not_utf8)) after)
  unfolding fault_unless ◌or_else◌
  step false b w c s n f l S W1 W2 after C p q = agree_fails (suc j) text 19 (suc n)
  step true false w c s n f l S W1 W2 after C p q = agree_fails (suc j) text 20 (suc n)
  step true true true c s n f l S W1 W2 after C p q = p refl
  step true true false false s n f l S W1 W2 after C p q = agree_fails (suc j) text 21 (suc f)
  step true true false true s n f l S W1 W2 after C p q = record { fault = q.fault; rows = q.rows }

  -- a block without lines says nothing
  none_said : (F i : ℕ) → block_said (suc j) F i [] ≡ quiet
  unfolding block_said block_says timing_of lines_of
  none_said F i = refl

  takes_is : (s : State) (n : ℕ) (l : List ℕ) → header_due (suc j) n s.block ≡ false
      → takes (suc j) s n l ≡ cond (utf8 l) (cond (blank_in (suc j) l) (closes (style_of (suc j)) s n s.block (stays l ∷ [])) (adds (leb (length (concat s.block) + length l) most_block) s l)) (faulty not_utf8)
  unfolding takes block_takes
  takes_is s n l d = rw (not_ass, d)

  ends_is : (s : State) (n : ℕ) → header_due (suc j) n s.block ≡ false → ends (suc j) s n ≡ closes (style_of (suc j)) s n s.block []
  unfolding ends block_ends
  ends_is s n d = rw (not_ass, d)

  turn_is : (x i f : ℕ) (b : List ℕ) (n : ℕ) (l : List ℕ)
      → block_turn (suc j) x i f b n l
      ≡ cond (eqb (fault_unless (leb (x + length l) most_line) 19 or_else fault_unless (utf8 l) 20) 0) (cond (blank_in (suc j) l) (block_said (suc j) (suc f) i b) (cond (leb (length b + length l) most_block) quiet (at_fault 21 (suc f))))
      (at_fault (fault_unless (leb (x + length l) most_line) 19 or_else fault_unless (utf8 l) 20) (suc n))
  unfolding block_turn line_fault
  turn_is x i f b n l = refl

  walk_clause : (x i f : ℕ) (b : List ℕ) (n : ℕ) (l : List ℕ) (ls : List (List ℕ)) → block_walk (suc j) x i f b n (l ∷ ls)
      ≡ (block_turn (suc j) x i f b n l then cond (blank_in (suc j) l) (block_walk (suc j) 0 (i + length b + length l) (suc n) [] (suc n) ls) (block_walk (suc j) 0 i f (b ++ l) (suc n) ls))
  unfolding block_walk
  walk_clause x i f b n l ls = refl

  walk_end : (x i f : ℕ) (b : List ℕ) (n : ℕ) → block_walk (suc j) x i f b n [] ≡ (block_said (suc j) (suc f) i b then stopped 0 0)
  unfolding block_walk
  walk_end x i f b n = refl

  -- the block closed, whatever its lines
  shut : (done ks rest : List (List ℕ)) → lines_of (behind_bom text) ≡ done ++ (ks ++ rest) → Cut ks → (i n : ℕ) → i ≡ bom_length text + length (concat done) → n ≡ line_count done + line_count ks
      → (s : State) (more : List Part) (w : Walk) (after : State → Reading) → Agrees w (more ⊕ after (with_block [] s))
      → Agrees (block_said (suc j) (suc (line_count done)) i (concat ks) then w) (read_line M true (closes (style_of (suc j)) s n ks more) after)
  shut done [] rest e c i n ei en s more w after h =
      subst (λ (q : Said). Agrees (q then w) (more ⊕ after (with_block [] s))) (sym (none_said (suc (line_count done)) i)) (record { fault = h.fault; rows = h.rows })
  shut done (k ∷ ks) rest e c i n ei en s more w after h =
      let z : suc n - line_count (k ∷ ks) ≡ suc (line_count done) = omega (arith, en) in
      subst (λ (m : ℕ). Agrees (block_said (suc j) (suc (line_count done)) i (concat (k ∷ ks)) then w) (read_line M true (of_block s more (block_says (style_of (suc j)) m (k ∷ ks))) after)) (sym z)
      (block_said_lem done (k ∷ ks) rest e i ei s more w after h (cut_lines (k ∷ ks) c))

  close_same : (x : Says State) (r : State → Reading) → ((t : State) → r t ≡ fails 0) → read_close M x ≡ read_line M true x r
  close_same (faulty f) r h = refl
  close_same (says t ps) r h = ap (λ (q : List Part). reading 0 q) (sym (append-nil ps)) ∙ ap (λ (q : Reading). ps ⊕ q) (sym (h t))

  abbrev at : List (List ℕ) → State
  at ks = with_block ks blank_state

  pub block_agree : (ls done ks : List (List ℕ)) (x i n : ℕ) → lines_of (behind_bom text) ≡ done ++ (ks ++ ls) → Cut (ks ++ ls) → i ≡ bom_length text + length (concat done) → n ≡ line_count done + line_count ks
      → header_due (suc j) n ks ≡ false → Agrees (block_walk (suc j) x i (line_count done) (concat ks) n ls) (read_all M true x ls [] (at ks) n)
  block_agree [] done ks x i n e c ei en d =
      subst (λ (w : Walk). Agrees w (read_close M (ends (suc j) (at ks) n))) (sym (walk_end x i (line_count done) (concat ks) n))
      (subst (λ (q : Says State). Agrees (block_said (suc j) (suc (line_count done)) i (concat ks) then stopped 0 0) (read_close M q)) (sym (ends_is (at ks) n d))
      (subst (λ (r : Reading). Agrees (block_said (suc j) (suc (line_count done)) i (concat ks) then stopped 0 0) r) (sym (close_same (closes (style_of (suc j)) (at ks) n ks []) (λ t. fails 0) (λ t. refl)))
      (shut done ks [] e (cut_before ks [] c) i n ei en (at ks) [] (stopped 0 0) (λ t. fails 0) (agree_fails (suc j) text 0 0))))
  block_agree (l ∷ ls) done ks x i n e c ei en d =
      let after : State → Reading = λ t. read_all M true 0 ls [] t (suc n) in
      let front : List (List ℕ) = done ++ (ks ++ (l ∷ [])) in
      let e1 : lines_of (behind_bom text) ≡ front ++ ([] ++ ls) =
      e ∙ ap (λ (q : List (List ℕ)). done ++ q) (sym (append_assoc ks (l ∷ []) ls)) ∙ sym (append_assoc done (ks ++ (l ∷ [])) ls) in
      let c1 : Cut ls = cut_tail l ls (cut_behind ks (l ∷ ls) c) in
      let m1 = concat_append done (ks ++ (l ∷ [])) in
      let m2 = concat_append ks (l ∷ []) in
      let m3 : length (concat front) ≡ length (concat done) + length (concat (ks ++ (l ∷ []))) = ap length m1 ∙ length-append (concat done) (concat (ks ++ (l ∷ []))) in
      let m4 : length (concat (ks ++ (l ∷ []))) ≡ length (concat ks) + length (l ++ []) = ap length m2 ∙ length-append (concat ks) (l ++ []) in
      let m5 : length (l ++ []) ≡ length l = ap length (append-nil l) in
      let k1 = many_append done (ks ++ (l ∷ [])) in
      let k2 = many_append ks (l ∷ []) in
      let i1 : i + length (concat ks) + length l ≡ bom_length text + length (concat front) = omega (arith, m3, m4, m5, ei) in
      let n1 : suc n ≡ line_count front + line_count [] = omega (arith, k1, k2, en) in
      let n2 : line_count front ≡ suc n = omega (arith, k1, k2, en) in
      let a1 : Agrees (block_walk (suc j) 0 (i + length (concat ks) + length l) (suc n) [] (suc n) ls) (after (at [])) =
      subst (λ (f : ℕ). Agrees (block_walk (suc j) 0 (i + length (concat ks) + length l) f [] (suc n) ls) (after (at []))) n2
      (block_agree ls front [] 0 (i + length (concat ks) + length l) (suc n) e1 c1 i1 n1 (due_past (suc j) n [])) in
      let e2 : lines_of (behind_bom text) ≡ done ++ ((ks ++ (l ∷ [])) ++ ls) = e ∙ ap (λ (q : List (List ℕ)). done ++ q) (sym (append_assoc ks (l ∷ []) ls)) in
      let c2 : Cut ((ks ++ (l ∷ [])) ++ ls) = subst Cut (sym (append_assoc ks (l ∷ []) ls)) c in
      let n3 : suc n ≡ line_count done + line_count (ks ++ (l ∷ [])) = omega (arith, k2, en) in
      let b2 : concat (ks ++ (l ∷ [])) ≡ concat ks ++ l = m2 ∙ ap (λ (q : List ℕ). concat ks ++ q) (append-nil l) in
      let a2 : Agrees (block_walk (suc j) 0 i (line_count done) (concat ks ++ l) (suc n) ls) (after (at (ks ++ (l ∷ [])))) =
      subst (λ (b : List ℕ). Agrees (block_walk (suc j) 0 i (line_count done) b (suc n) ls) (after (at (ks ++ (l ∷ []))))) b2
      (block_agree ls done (ks ++ (l ∷ [])) 0 i (suc n) e2 c2 ei n3 (due_past (suc j) n (ks ++ (l ∷ [])))) in
      let W1 : Walk = block_walk (suc j) 0 (i + length (concat ks) + length l) (suc n) [] (suc n) ls in
      let W2 : Walk = block_walk (suc j) 0 i (line_count done) (concat ks ++ l) (suc n) ls in
      let S : Said = block_said (suc j) (suc (line_count done)) i (concat ks) in
      let C : Says State = closes (style_of (suc j)) (at ks) n ks (stays l ∷ []) in
      subst (λ (w : Walk). Agrees w (read_line M (leb (x + length l) most_line) (takes (suc j) (at ks) n l) after)) (sym (walk_clause x i (line_count done) (concat ks) n l ls))
      (subst (λ (q : Said). Agrees (q then cond (blank_in (suc j) l) W1 W2) (read_line M (leb (x + length l) most_line) (takes (suc j) (at ks) n l) after)) (sym (turn_is x i (line_count done) (concat ks) n l))
      (subst (λ (q : Says State). Agrees
      (cond (eqb (fault_unless (leb (x + length l) most_line) 19 or_else fault_unless (utf8 l) 20) 0) (cond (blank_in (suc j) l) S (cond (leb (length (concat ks) + length l) most_block) quiet (at_fault 21 (suc (line_count done)))))
      (at_fault (fault_unless (leb (x + length l) most_line) 19 or_else fault_unless (utf8 l) 20) (suc n)) then cond (blank_in (suc j) l) W1 W2)
      (read_line M (leb (x + length l) most_line) q after)) (sym (takes_is (at ks) n l d))
      (step (leb (x + length l) most_line) (utf8 l) (blank_in (suc j) l) (leb (length (concat ks) + length l) most_block) (at ks) n (line_count done) l S W1 W2 after C
      (λ p. shut done ks (l ∷ ls) e (cut_before ks (l ∷ ls) c) i n ei en (at ks) (stays l ∷ []) W1 after (agree_stays W1 (after (at [])) l a1))
      a2)))
