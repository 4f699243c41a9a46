-- A block that was written, read again, says the same cue with the new times.
use mathlib.Core.Path.{◌≡◌, refl, sym, ap, subst, ◌∙◌}
use mathlib.Core.Logic.{◌⊎◌, inl, inr}
use mathlib.Core.Bool.{Bool, true, false, cond}
use mathlib.Core.List.{List, [], ◌∷◌, ◌++◌, append_assoc, append-nil}
use Prim.Native.Nat.{ℕ, zero, suc, ◌+◌, ◌*◌, ◌-◌, ◌≤◌, ◌<◌}
use native.Mathlib.Omega.{arith}
use lib.Dec.{eqb}
use lib.Seq.{drop-drop}
use lib.ListN.{length, drop, get_or, length-append}
use Rattle.std.specs.Prelude.{Option, Some, None}
use Rattle.spec_base.specs.base.Width.{by_width}
use Rattle.spec_text.specs.pattern.Find.{first, contains, up_to, past}
use Rattle.spec_text.specs.whitespace.White.{white_head, head_from, trim_head}
use Rattle.spec_text.specs.pattern.Piece.{onto_first}
use Rattle.spec_text.specs.text.Line.{lines_of, concat, line_count, text_of, terminator_of, ends_line, has_lf}
use Rattle.spec_text.proofs.text.LineLaws.{text_terminator, line_then_lem, line_last}
use Rattle.spec_text.proofs.text.LineEnds.{last_of, last_append, last_drop, Ended, ended_swap, text_again, terminator_again, line_ended}
use Rattle.spec_time.specs.declared.caption_stamp.Stamp.{Stamp}
use Rattle.spec_time.specs.caption_time.Kind.{units_of}
use Rattle.spec_time.specs.caption_stamp.Read.{time_in}
use Rattle.spec_time.specs.caption_stamp.Write.{time_text}
use Rattle.spec_time.proofs.caption_stamp.Written.{text_10}
use Rattle.spec_caption.specs.caption_fate.Says.{Cue, stays, passes, cue}
use Rattle.spec_caption.specs.caption_fate.Emit.{render}
use Rattle.spec_cue.specs.block_timing.Style.{end_in, stamps_in, style_of}
use Rattle.spec_cue.specs.block_timing.Arrow
use Rattle.spec_cue.specs.block_timing.Arrow.{arrow, after_arrow, later, timing_of, Timing}
use Rattle.spec_cue.specs.block_cue.Block.{written_arrow, block_frame, block_cue, both_say, end_text, trailing, timing_line_says, timing_says, block_says, BlockSays, faulty, says}
use Rattle.spec_cue.proofs.block_cue.WriteLaws.{frame_pieces}
use Rattle.spec_format.proofs.back.TimingLine.{Plain, Blocked, plain_text, lf_plain, line_text, arrow_back, line_back}
use Rattle.spec_text.proofs.text.LfLaws.{lf_append, ends_append, lf_drop, lf_get, text_lf}

-- ---- what is trailing is the end of the line's text
pub record Drops (s r : List ℕ) : Type 0 where
  pub count : ℕ
  pub is : r ≡ drop count s

pub head_drops : (s : List ℕ) (k : ℕ) → Drops s (head_from s k)
unfolding head_from
head_drops [] k = record { count = 0; is = refl }
head_drops (b ∷ r) (suc k) = let d = head_drops r k in record { count = suc d.count; is = d.is }
head_drops (b ∷ r) zero = go (white_head (b ∷ r)) (λ k. head_drops r k)
  where
    go : (w : ℕ) → ((k : ℕ) → Drops r (head_from r k)) → Drops (b ∷ r) (by_width w (b ∷ r) (λ k. head_from r k))
    go zero ih = record { count = 0; is = refl }
    go (suc k) ih = record { count = suc (ih k).count; is = (ih k).is }

trailing_drops : (kind : ℕ) (t : List ℕ) → Drops t (trailing (style_of kind) t)
unfolding after_arrow past trim_head
trailing_drops kind t =
    let p = first arrow t + length arrow in
    let d = head_drops (drop p t) 0 in
    record {
      count = p + (d.count + end_in kind (trim_head (drop p t)));
      is =
          ap (drop (end_in kind (trim_head (drop p t)))) d.is ∙ drop-drop (end_in kind (trim_head (drop p t))) d.count (drop p t) ∙ drop-drop (d.count + end_in kind (trim_head (drop p t))) p t;
    }

last_trailing : (kind : ℕ) (t : List ℕ) → 0 < length (trailing (style_of kind) t) → last_of (trailing (style_of kind) t) ≡ last_of t
last_trailing kind t h =
    let d = trailing_drops kind t in
    ap last_of d.is ∙ last_drop d.count t (subst (λ (x : List ℕ). 0 < length x) d.is h)

plain_get : (xs : List ℕ) (i : ℕ) → Plain xs → i < length xs → 44 ≤ get_or xs i 0
plain_get [] i p h = absurd (omega arith)
plain_get (x ∷ xs) zero p h = p.0.0
plain_get (x ∷ xs) (suc i) p h = plain_get xs i p.1 (omega arith)

-- ---- a written timing line in place of the line l
module _ (kind : ℕ) (Mark : ℕ → Type 0) (most : ℕ) (K : Blocked kind Mark most) (i j : ℕ) (hi : Mark i) (hj : Mark j) (s e : ℕ) (l : List ℕ) (p : has_lf (text_of l) ≡ false) (he : e < most) where
  stop_plain : Plain (time_text kind j e)
  stop_plain = plain_text kind K.good j (K.either j hj) e

  abbrev new_text_lem : List ℕ
  new_text_lem = line_text kind i j s e (trailing (style_of kind) (text_of l))

  abbrev new_line : List ℕ
  new_line = new_text_lem ++ terminator_of l

  new_lf : has_lf new_text_lem ≡ false
  unfolding has_lf
  new_lf =
      let d = trailing_drops kind (text_of l) in
      lf_append (time_text kind i s) _ (lf_plain (time_text kind i s) (plain_text kind K.good i (K.either i hi) s)) ∙
      lf_append (time_text kind j e) (trailing (style_of kind) (text_of l)) (lf_plain (time_text kind j e) stop_plain) ∙ ap has_lf d.is ∙ lf_drop d.count (text_of l) p

  new_last : last_of new_text_lem ≡ 13 → last_of (text_of l) ≡ 13
  new_last q = go (trailing (style_of kind) (text_of l)) refl
    where
      long : 0 < length (time_text kind j e)
      long = omega (arith, text_10 kind j e K.good)

      behind : (t : List ℕ) → last_of (line_text kind i j s e t) ≡ last_of (time_text kind j e ++ t)
      behind t =
          let n : length (time_text kind j e ++ t) ≡ length (time_text kind j e) + length t = length-append (time_text kind j e) t in
          last_append (time_text kind i s) (written_arrow ++ (time_text kind j e ++ t)) (omega arith) ∙ last_append written_arrow (time_text kind j e ++ t) (omega (arith, n, long))

      go : (t : List ℕ) → trailing (style_of kind) (text_of l) ≡ t → last_of (text_of l) ≡ 13
      go [] z =
          let g : last_of (time_text kind j e) ≡ 13 = ap last_of (sym (append-nil (time_text kind j e))) ∙ sym (behind []) ∙ ap (λ (x : List ℕ). last_of (line_text kind i j s e x)) (sym z) ∙ q in
          absurd (omega (arith, plain_get (time_text kind j e) (length (time_text kind j e) - 1) stop_plain (omega (arith, long))))
      go (b ∷ t) z =
          sym (last_trailing kind (text_of l) (rw z (omega arith))) ∙ ap last_of z ∙
          sym (last_append (time_text kind j e) (b ∷ t) (omega arith)) ∙ sym (behind (b ∷ t)) ∙ ap (λ (x : List ℕ). last_of (line_text kind i j s e x)) (sym z) ∙ q

  new_ended : Ended new_text_lem (terminator_of l)
  new_ended = ended_swap (text_of l) new_text_lem (terminator_of l) (λ q. absurd (lf_get new_text_lem (length new_text_lem - 1) new_lf q)) new_last (line_ended l)

  new_text : text_of new_line ≡ new_text_lem
  new_text = text_again new_text_lem (terminator_of l) new_ended

  new_terminator : terminator_of new_line ≡ terminator_of l
  new_terminator = terminator_again new_text_lem (terminator_of l) new_ended

  new_ends : ends_line l ≡ true → ends_line new_line ≡ true
  new_ends h =
      ends_append new_text_lem (terminator_of l) new_lf ∙ sym (ends_append (text_of l) (terminator_of l) p) ∙ ap ends_line (text_terminator l) ∙ h

  new_open : has_lf l ≡ false → has_lf new_line ≡ false
  new_open h =
      lf_append new_text_lem (terminator_of l) new_lf ∙ sym (lf_append (text_of l) (terminator_of l) p) ∙ ap has_lf (text_terminator l) ∙ h

  new_long : 0 < length new_line
  new_long =
      let n : length new_text_lem ≡ length (time_text kind i s) + (5 + length (time_text kind j e ++ trailing (style_of kind) (text_of l))) =
      length-append (time_text kind i s) (written_arrow ++ (time_text kind j e ++ trailing (style_of kind) (text_of l))) ∙ omega arith in
      omega (arith, length-append new_text_lem (terminator_of l))

  new_arrow : contains arrow (text_of new_line) ≡ true
  new_arrow = ap (contains arrow) new_text ∙ arrow_back kind Mark most K i j hi hj s e (trailing (style_of kind) (text_of l))

  new_says : (n : ℕ) (b a : List ℕ) → s < 36000000 * units_of kind
      → timing_line_says (style_of kind) n b new_line a ≡ says (cue (block_cue n s i e j (stamps_in kind a) (block_frame b (trailing (style_of kind) (text_of l)) (terminator_of l) a)))
  new_says n b a hs = line_back kind Mark most K i j hi hj s e (trailing (style_of kind) (text_of l)) he (K.ends j hj e he (after_arrow (text_of l))) n b (terminator_of l) a new_line hs new_text new_terminator

-- ---- lines as they are cut: each but the last ends in LF, and the last is not empty
abbrev Cut : List (List ℕ) → Type 0
Cut [] = Unit {0}
Cut (l ∷ []) = (ends_line l ≡ true) ⊎ ((has_lf l ≡ false) × (0 < length l))
Cut (l ∷ m ∷ ls) = (ends_line l ≡ true) × Cut (m ∷ ls)

cut_lf : (b : ℕ) (ls : List (List ℕ)) → eqb b 10 ≡ true → Cut ls → Cut ((b ∷ []) ∷ ls)
unfolding ends_line
cut_lf b [] e c = inl (rw e)
cut_lf b (l ∷ ls) e c = (rw e, c)

cut_onto : (b : ℕ) (ls : List (List ℕ)) → eqb b 10 ≡ false → Cut ls → Cut (onto_first b ls)
unfolding ends_line has_lf
cut_onto b [] e c = inr (rw e, omega arith)
cut_onto b (l ∷ []) e (inl q) = inl (rw e q)
cut_onto b (l ∷ []) e (inr q) = inr (rw e q.0, omega arith)
cut_onto b (l ∷ m ∷ ls) e c = (rw e c.0, c.1)

cut_lines : (s : List ℕ) → Cut (lines_of s)
unfolding lines_of
cut_lines [] = tt
cut_lines (b ∷ s) = go (eqb b 10) refl (cut_lines s)
  where
    go : (t : Bool) → eqb b 10 ≡ t → Cut (lines_of s) → Cut (cond t ((b ∷ []) ∷ lines_of s) (onto_first b (lines_of s)))
    go true e c = cut_lf b (lines_of s) e c
    go false e c = cut_onto b (lines_of s) e c

cut_back : (ls : List (List ℕ)) → Cut ls → lines_of (concat ls) ≡ ls
unfolding lines_of
cut_back [] c = refl
cut_back (l ∷ []) (inl q) = line_then_lem l [] q
cut_back (l ∷ []) (inr q) = ap lines_of (append-nil l) ∙ line_last l q.1 q.0
cut_back (l ∷ m ∷ ls) c = line_then_lem l (concat (m ∷ ls)) c.0 ∙ ap (λ (x : List (List ℕ)). l ∷ x) (cut_back (m ∷ ls) c.1)

cut_line : (b : List (List ℕ)) (l : List ℕ) (a : List (List ℕ)) → Cut (b ++ l ∷ a) → (ends_line l ≡ true) ⊎ (has_lf l ≡ false)
cut_line [] l [] (inl q) = inl q
cut_line [] l [] (inr q) = inr q.0
cut_line [] l (m ∷ a) c = inl c.0
cut_line (x ∷ []) l a c = cut_line [] l a c.1
cut_line (x ∷ y ∷ b) l a c = cut_line (y ∷ b) l a c.1

module _ (l m : List ℕ) (f : ends_line l ≡ true → ends_line m ≡ true) (g : has_lf l ≡ false → has_lf m ≡ false) (h : 0 < length m) where
  cut_swap : (b a : List (List ℕ)) → Cut (b ++ l ∷ a) → Cut (b ++ m ∷ a)
  cut_swap [] [] (inl q) = inl (f q)
  cut_swap [] [] (inr q) = inr (g q.0, h)
  cut_swap [] (x ∷ a) c = (f c.0, c.1)
  cut_swap (x ∷ []) a c = (c.0, cut_swap [] a c.1)
  cut_swap (x ∷ y ∷ b) a c = (c.0, cut_swap (y ∷ b) a c.1)

-- ---- another timing line in its place is the timing line
abbrev pub Swaps : List (List ℕ) → Timing → Type 0
Swaps ls Arrow.untimed = Unit {0}
Swaps ls (Arrow.timed b l a) = (ls ≡ b ++ l ∷ a) × ((m : List ℕ) → contains arrow (text_of m) ≡ true → timing_of (b ++ m ∷ a) ≡ Arrow.timed b m a)

timing_here : (m : List ℕ) (a : List (List ℕ)) → contains arrow (text_of m) ≡ true → timing_of (m ∷ a) ≡ Arrow.timed [] m a
unfolding timing_of
timing_here m a h = rw h

timing_later : (x : List ℕ) (ls : List (List ℕ)) → contains arrow (text_of x) ≡ false → timing_of (x ∷ ls) ≡ later x (timing_of ls)
unfolding timing_of
timing_later x ls h = rw h

later_swaps : (x : List ℕ) (ls : List (List ℕ)) (t : Timing) → contains arrow (text_of x) ≡ false → Swaps ls t → Swaps (x ∷ ls) (later x t)
later_swaps x ls Arrow.untimed e h = tt
later_swaps x ls (Arrow.timed b l a) e h =
    (ap (λ (y : List (List ℕ)). x ∷ y) h.0, λ m k. timing_later x (b ++ m ∷ a) e ∙ ap (later x) (h.1 m k))

pub timing_swaps : (ls : List (List ℕ)) → Swaps ls (timing_of ls)
unfolding timing_of
timing_swaps [] = tt
timing_swaps (x ∷ ls) = go (contains arrow (text_of x)) refl (timing_swaps ls)
  where
    go : (t : Bool) → contains arrow (text_of x) ≡ t → Swaps ls (timing_of ls) → Swaps (x ∷ ls) (cond t (Arrow.timed [] x ls) (later x (timing_of ls)))
    go true e ih = (refl, λ m k. timing_here m ls k)
    go false e ih = later_swaps x ls (timing_of ls) e ih

-- ---- the block
pub concat_at : (b : List (List ℕ)) (l : List ℕ) (a : List (List ℕ)) → concat (b ++ l ∷ a) ≡ concat b ++ (l ++ concat a)
concat_at [] l a = refl
concat_at (x ∷ b) l a = ap (λ (y : List ℕ). x ++ y) (concat_at b l a) ∙ sym (append_assoc x (concat b) (l ++ concat a))

pieces_at : (b S w E t x a : List ℕ) → b ++ S ++ w ++ E ++ t ++ x ++ a ≡ b ++ (((S ++ (w ++ (E ++ t))) ++ x) ++ a)
pieces_at b S w E t x a = simp append_assoc

abbrev Back : (kind most first : ℕ) → BlockSays → Type 0
Back kind most first (faulty f) = Unit {0}
Back kind most first (says (stays l)) = Unit {0}
Back kind most first (says (passes r n l)) = Unit {0}
Back kind most first (says (cue q)) =
    (s e : ℕ) → s < 36000000 * units_of kind → e < most
    → block_says (style_of kind) first (lines_of (render q.frame (time_text kind q.start_mark s) (time_text kind q.stop_mark e))) ≡ says (cue (block_cue q.line s q.start_mark e q.stop_mark q.stamped q.frame))

module _ (kind : ℕ) (Mark : ℕ → Type 0) (most : ℕ) (K : Blocked kind Mark most) (first : ℕ) (b : List (List ℕ)) (l : List ℕ) (a : List (List ℕ)) (cut : Cut (b ++ l ∷ a)) (found : (m : List ℕ) → contains arrow (text_of m) ≡ true → timing_of (b ++ m ∷ a) ≡ Arrow.timed b m a) where
  written_back : (i j : ℕ) → Mark i → Mark j → (s e : ℕ) → s < 36000000 * units_of kind → e < most
      → block_says (style_of kind) first (lines_of (render (block_frame (concat b) (trailing (style_of kind) (text_of l)) (terminator_of l) (concat a)) (time_text kind i s) (time_text kind j e)))
      ≡ says (cue (block_cue (first + line_count b) s i e j (stamps_in kind (concat a)) (block_frame (concat b) (trailing (style_of kind) (text_of l)) (terminator_of l) (concat a))))
  unfolding block_says
  written_back i j hi hj s e hs he =
      let p = text_lf l (cut_line b l a cut) in
      let m : List ℕ = new_line kind Mark most K i j hi hj s e l p he in
      let w : render (block_frame (concat b) (trailing (style_of kind) (text_of l)) (terminator_of l) (concat a)) (time_text kind i s) (time_text kind j e) ≡ concat (b ++ m ∷ a) =
      frame_pieces (concat b) (trailing (style_of kind) (text_of l)) (terminator_of l) (concat a) (time_text kind i s) (time_text kind j e) ∙
      pieces_at (concat b) (time_text kind i s) written_arrow (time_text kind j e) (trailing (style_of kind) (text_of l)) (terminator_of l) (concat a) ∙ sym (concat_at b m a) in
      let c : Cut (b ++ m ∷ a) = cut_swap l m (new_ends kind Mark most K i j hi hj s e l p he) (new_open kind Mark most K i j hi hj s e l p he) (new_long kind Mark most K i j hi hj s e l p he) b a cut in
      ap (λ (y : List ℕ). block_says (style_of kind) first (lines_of y)) w ∙ ap (block_says (style_of kind) first) (cut_back (b ++ m ∷ a) c) ∙
      ap (timing_says (style_of kind) first (b ++ m ∷ a)) (found m (new_arrow kind Mark most K i j hi hj s e l p he)) ∙ new_says kind Mark most K i j hi hj s e l p he (first + line_count b) (concat b) (concat a) hs

  line_again : Back kind most first (timing_line_says (style_of kind) (first + line_count b) (concat b) l (concat a))
  unfolding timing_line_says
  line_again = go (time_in kind (up_to arrow (text_of l))) (time_in kind (end_text (style_of kind) (text_of l))) refl refl
    where
      go : (X Y : Option Stamp) → time_in kind (up_to arrow (text_of l)) ≡ X → time_in kind (end_text (style_of kind) (text_of l)) ≡ Y
          → Back kind most first (both_say (first + line_count b) (stamps_in kind (concat a)) (block_frame (concat b) (trailing (style_of kind) (text_of l)) (terminator_of l) (concat a)) X Y)
      go None Y p q = tt
      go (Some S) None p q = tt
      go (Some S) (Some E) p q =
          written_back S.mark E.mark (K.seen S.units S.mark (up_to arrow (text_of l)) p) (K.seen E.units E.mark (end_text (style_of kind) (text_of l)) q)

module _ (kind : ℕ) (Mark : ℕ → Type 0) (most : ℕ) (K : Blocked kind Mark most) where
  timing_back : (first : ℕ) (ls : List (List ℕ)) (t : Timing) → Cut ls → Swaps ls t → Back kind most first (timing_says (style_of kind) first ls t)
  timing_back first ls Arrow.untimed c h = tt
  timing_back first ls (Arrow.timed b l a) c h = line_again kind Mark most K first b l a (subst Cut h.0 c) h.1

  says_back : (first : ℕ) (s : List ℕ) → Back kind most first (block_says (style_of kind) first (lines_of s))
  unfolding block_says
  says_back first s = timing_back first (lines_of s) (timing_of (lines_of s)) (cut_lines s) (timing_swaps (lines_of s))

  -- the frame of a block's cue with new times, read again: the same cue with these times
  pub block_back : (first : ℕ) (s : List ℕ) (q : Cue) → block_says (style_of kind) first (lines_of s) ≡ says (cue q) → (u v : ℕ) → u < 36000000 * units_of kind → v < most
      → block_says (style_of kind) first (lines_of (render q.frame (time_text kind q.start_mark u) (time_text kind q.stop_mark v))) ≡ says (cue (block_cue q.line u q.start_mark v q.stop_mark q.stamped q.frame))
  block_back first s q e = subst (Back kind most first) e (says_back first s)
