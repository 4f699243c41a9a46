-- Laws of the two loops over the lines of a text.
use mathlib.Core.Path.{◌≡◌, refl, sym, ap, ap₂, subst, ◌∙◌}
use mathlib.Core.Bool.{Bool, true, false, cond}
use mathlib.Core.List.{List, [], ◌∷◌, ◌++◌}
use Prim.Native.Nat.{ℕ, zero, suc, ◌+◌, ◌-◌, ◌*◌, ◌≤◌, ◌<◌, ◌^◌}
use native.Mathlib.Omega.{arith}
use native.Mathlib.Numerals.{add-one}
use borrow.Author.Tests.{eq-eqb, ne_eqb}
use lib.Dec.{eqb, leb}
use lib.ListN.{length, take, drop, length-drop}
use lib.Seq.{length-take-le, drop-drop, take-add}
use Rattle.spec_base.specs.base.Limits.{most_taken, most_block}
use Rattle.spec_base.specs.base.Refusal.{◌or_else◌, fault_unless}
use Rattle.spec_base.specs.base.Put.{placed_at, place_after}
use Rattle.spec_base.proofs.base.PutLaws.{put_nil, placed_length_lem}
use Rattle.spec_base.proofs.base.RefusalLaws.{else_found}
use Rattle.spec_text.specs.pattern.Find.{starts}
use Rattle.spec_caption.specs.caption_fate.Bom.{bom, behind_bom}
use Rattle.spec_cue.specs.block_timing.Header.{is_header}
use Rattle.promise.proofs.PlainVtt.{header_headed}
use Rattle.spec_text.specs.text.Line.{line_length, lines_of, text_of}
use Rattle.spec_text.proofs.text.LineLaws.{line_some, line_le, lines_cut, lines_end}
use Rattle.spec_ass.specs.declared.ass_columns.Columns.{Columns}
use Rattle.spec_ass.specs.ass_columns.Columns.{no_columns}
use Rattle.spec_cue.specs.block_timing.Style.{blank_in}
use Rattle.promise.specs.Plain.{bom_length, line_fault, headed, head_fault}
use Rattle.spec_rows.specs.declared.caption_rows.Said.{Said}
use Rattle.spec_rows.specs.declared.caption_rows.Walked.{Walked}
use Rattle.spec_rows.specs.caption_rows.Said.{at_fault, quiet, block_said}
use Rattle.spec_rows.specs.caption_rows.Walk.{Walk, stopped, rows_said, ◌then◌, ass_turn, ass_next, ass_walk, block_turn, block_from, block_first, block_walk, head_turn, vtt_walk, walk_behind, walk_of, line_from, between, WalkedBy}
use Rattle.spec_rows.proofs.caption_rows.RowLaws.{Going, going_start, going_same, going_step, going_stop, going_end}
use Rattle.spec_text.proofs.pattern.PieceLaws.{starts_long}

at_most : (b : Bool) → cond b 1 0 ≤ 1
at_most true = omega arith
at_most false = omega arith

-- ---- the line at byte i
pub record Cut (text : List ℕ) (i : ℕ) (y : List ℕ) : Type 0 where
  pub lines : lines_of (drop i text) ≡ y ∷ lines_of (drop (i + length y) text)
  pub long : length y ≡ line_length (drop i text)
  pub inside : i + length y ≤ length text
  pub some : 0 < length y

pub cut : (text : List ℕ) (i : ℕ) (y : List ℕ) → i < length text → y ≡ line_from i text → Cut text i y
cut text i y h ey =
    let lt : length (drop i text) ≡ length text - i = length-drop i text in
    let some : 0 < length (drop i text) = omega arith in
    let le : line_length (drop i text) ≤ length (drop i text) = line_le (drop i text) in
    let long : length y ≡ line_length (drop i text) = ap length ey ∙ length-take-le (line_length (drop i text)) (drop i text) le in
    let d : drop (line_length (drop i text)) (drop i text) ≡ drop (i + length y) text = drop-drop (line_length (drop i text)) i text ∙ ap (λ (k : ℕ). drop (i + k) text) (sym long) in
    record {
      lines = lines_cut (drop i text) some ∙ ap₂ (λ (a b : List ℕ). a ∷ lines_of b) (sym ey) d;
      long = long;
      inside = omega arith;
      some = omega (arith, line_some (drop i text) some);
    }

-- ---- ASS
pub record AssAt (text : List ℕ) (mark : ℕ) (l₀ l : List ℕ) (c : Columns) (x i n k p : ℕ) : Type 0 where
  pub going : Going (ass_walk mark no_columns 0 mark (lines_of (drop mark text))) (ass_walk x c n i (lines_of (drop i text))) k p l₀ l
  pub inside : i ≤ length text
  pub few : n ≤ i
  pub fewer : k ≤ n
  pub marked : x ≤ mark
  pub mark_in : mark ≤ length text
  pub short : length text ≤ most_taken

pub ass_start : (text : List ℕ) (mark : ℕ) (l : List ℕ) → (mark ≤ length text) × (length text ≤ most_taken) → AssAt text mark l l no_columns mark mark 0 0 0
ass_start text mark l h =
    record {
      going = going_start (ass_walk mark no_columns 0 mark (lines_of (drop mark text))) l;
      inside = h.0;
      few = omega arith;
      fewer = omega arith;
      marked = omega arith;
      mark_in = h.0;
      short = h.1;
    }

pub ass_clause : (x : ℕ) (c : Columns) (n i : ℕ) (y : List ℕ) (ls : List (List ℕ)) → ass_walk x c n i (y ∷ ls) ≡ (ass_turn x c n i y then ass_walk 0 (ass_next x c n y) (suc n) (i + length y) ls)
unfolding ass_walk
ass_clause x c n i y ls = refl

pub ass_none : (x : ℕ) (c : Columns) (n i : ℕ) → ass_walk x c n i [] ≡ stopped 0 0
unfolding ass_walk
ass_none x c n i = refl

ass_cut : (text : List ℕ) (x : ℕ) (c d : Columns) (n i : ℕ) (y : List ℕ) (s : Said) → Cut text i y → s ≡ ass_turn x c n i y → d ≡ ass_next x c n y
    → ass_walk x c n i (lines_of (drop i text)) ≡ (s then ass_walk 0 d (n + 1) (i + length y) (lines_of (drop (i + length y) text)))
ass_cut text x c d n i y s u es ed =
    ap (ass_walk x c n i) u.lines ∙ ass_clause x c n i y (lines_of (drop (i + length y) text))
    ∙ ap (λ (a : ℕ). ass_turn x c n i y then ass_walk 0 (ass_next x c n y) a (i + length y) (lines_of (drop (i + length y) text))) (sym (add-one n))
    ∙ ap₂ (λ (a : Said) (b : Columns). a then ass_walk 0 b (n + 1) (i + length y) (lines_of (drop (i + length y) text))) (sym es) (sym ed)

module _ (text : List ℕ) (mark : ℕ) (l₀ l : List ℕ) (c : Columns) (x i n k p : ℕ) (a : AssAt text mark l₀ l c x i n k p) where
  pub ass_same : length l ≡ length l₀
  ass_same = a.going.same

  pub ass_count : k + 1 < 2 ^ 64
  ass_count = omega (arith, a.fewer, a.few, a.inside, a.short)

  pub ass_over : (r : Walked) → length text ≤ i → r ≡ record { number = 0; line = 0; captions = k } → WalkedBy (ass_walk mark no_columns 0 mark (lines_of (drop mark text))) r l₀ l
  ass_over r h e =
      let z : length (drop i text) ≤ 0 = omega (arith, length-drop i text) in
      going_end (ass_walk mark no_columns 0 mark (lines_of (drop mark text))) k p l₀ l r
      (going_same (ass_walk mark no_columns 0 mark (lines_of (drop mark text))) (ass_walk x c n i (lines_of (drop i text))) (stopped 0 0) k p l₀ l (ap (ass_walk x c n i) (lines_end (drop i text) z) ∙ ass_none x c n i) a.going)
      e

  module _ (y : List ℕ) (h : i < length text) (ey : y ≡ line_from i text) where
    pub ass_room_1 : x + length y < 2 ^ 64
    ass_room_1 = let q = cut text i y h ey in omega (arith, q.inside, a.marked, a.mark_in, a.short)

    pub ass_room_2 : n + 1 < 2 ^ 64
    ass_room_2 = omega (arith, a.few, a.inside, a.short)

    pub ass_room_3 : i + length y < 2 ^ 64
    ass_room_3 = let q = cut text i y h ey in omega (arith, q.inside, a.short)

    pub ass_at : i + length y < 2 ^ 64
    ass_at = let q = cut text i y h ey in omega (arith, q.inside, a.short)

    pub ass_less : length text - (i + length y) < length text - i
    ass_less = let q = cut text i y h ey in omega (arith, q.inside, q.some)

    module _ (s : Said) (d : Columns) (es : s ≡ ass_turn x c n i y) (ed : d ≡ ass_next x c n y) where
      behind : Going (ass_walk mark no_columns 0 mark (lines_of (drop mark text))) (s then ass_walk 0 d (n + 1) (i + length y) (lines_of (drop (i + length y) text))) k p l₀ l
      behind =
          going_same (ass_walk mark no_columns 0 mark (lines_of (drop mark text))) (ass_walk x c n i (lines_of (drop i text))) (s then ass_walk 0 d (n + 1) (i + length y) (lines_of (drop (i + length y) text))) k p l₀ l
          (ass_cut text x c d n i y s (cut text i y h ey) es ed) a.going

      pub ass_stop : (r : Walked) → (s.number ≡ 0 → ⊥) → r ≡ record { number = s.number; line = s.line; captions = k } → WalkedBy (ass_walk mark no_columns 0 mark (lines_of (drop mark text))) r l₀ l
      ass_stop r z er = going_stop (ass_walk mark no_columns 0 mark (lines_of (drop mark text))) (ass_walk 0 d (n + 1) (i + length y) (lines_of (drop (i + length y) text))) k p l₀ l s r behind z er

      pub ass_again : (k' p' : ℕ) (l' : List ℕ) → s.number ≡ 0 → p' ≡ place_after p (rows_said s) l → l' ≡ placed_at p (rows_said s) l → k' ≡ k + cond s.caption 1 0
          → AssAt text mark l₀ l' d 0 (i + length y) (n + 1) k' p'
      ass_again k' p' l' z ep el ek =
          let q = cut text i y h ey in
          let one : cond s.caption 1 0 ≤ 1 = at_most s.caption in
          record {
            going = going_step (ass_walk mark no_columns 0 mark (lines_of (drop mark text))) (ass_walk 0 d (n + 1) (i + length y) (lines_of (drop (i + length y) text))) k k' p p' l₀ l l' s behind z ep el ek;
            inside = q.inside;
            few = omega (arith, q.some, a.few);
            fewer = omega (arith, ek, one, a.fewer);
            marked = omega arith;
            mark_in = a.mark_in;
            short = a.short;
          }

-- ---- SRT and WebVTT
block_clause : (kind x f g : ℕ) (b : List ℕ) (n : ℕ) (y : List ℕ) (ls : List (List ℕ)) → block_walk kind x f g b n (y ∷ ls)
    ≡ (block_turn kind x f g b n y then cond (blank_in kind y) (block_walk kind 0 (f + length b + length y) (suc n) [] (suc n) ls) (block_walk kind 0 f g (b ++ y) (suc n) ls))
unfolding block_walk
block_clause kind x f g b n y ls = refl

block_none : (kind x f g : ℕ) (b : List ℕ) (n : ℕ) → block_walk kind x f g b n [] ≡ (block_said kind (suc g) f b then stopped 0 0)
unfolding block_walk
block_none kind x f g b n = refl

-- a turn without a fault: the line has none
turn_fine : (kind x f g : ℕ) (b : List ℕ) (n : ℕ) (y : List ℕ) → (block_turn kind x f g b n y).number ≡ 0 → eqb (line_fault x y) 0 ≡ true
unfolding block_turn
turn_fine kind x f g b n y z = go (line_fault x y) (cond (blank_in kind y) (block_said kind (suc g) f b) (cond (leb (length b + length y) most_block) quiet (at_fault 21 (suc g)))) z
  where
    go : (m : ℕ) (s : Said) → (cond (eqb m 0) s (at_fault m (suc n))).number ≡ 0 → eqb m 0 ≡ true
    go zero s e = refl
    go (suc m) s e = absurd (let q : ◌≡◌ {A = ℕ} (suc m) 0 = ap (λ (b : Bool). (cond b s (at_fault (suc m) (suc n))).number) (sym (ne_eqb (suc m) 0 (λ q. omega arith))) ∙ e in omega arith)

between_none : (f i : ℕ) (text : List ℕ) → i ≤ f → between f i text ≡ []
between_none f i text h = let z : i - f ≡ 0 = omega arith in ap (λ (k : ℕ). take k (drop f text)) z

between_more : (text : List ℕ) (f i : ℕ) (y : List ℕ) → f ≤ i → i < length text → y ≡ line_from i text → between f i text ++ y ≡ between f (i + length y) text
between_more text f i y h k ey =
    let z : i - f + length y ≡ i + length y - f = omega arith in
    let w : f + (i - f) ≡ i = omega arith in
    let d : drop (i - f) (drop f text) ≡ drop i text = drop-drop (i - f) f text ∙ ap (λ (j : ℕ). drop j text) w in
    let e : y ≡ take (length y) (drop i text) = ey ∙ ap (λ (j : ℕ). take j (drop i text)) (sym (cut text i y k ey).long) in
    ap (λ (v : List ℕ). between f i text ++ v) (e ∙ ap (take (length y)) (sym d)) ∙ sym (take-add (i - f) (length y) (drop f text)) ∙ ap (λ (j : ℕ). take j (drop f text)) z

between_long : (text : List ℕ) (f i : ℕ) → f ≤ i → i ≤ length text → length (between f i text) ≡ i - f
between_long text f i h k = length-take-le (i - f) (drop f text) (omega (arith, length-drop f text))

pub record BlockAt (kind : ℕ) (text : List ℕ) (start mark lines : ℕ) (l₀ l : List ℕ) (x f g i n k p : ℕ) : Type 0 where
  pub going : Going (block_walk kind mark start lines [] lines (lines_of (drop start text))) (block_walk kind x f g (between f i text) n (lines_of (drop i text))) k p l₀ l
  pub inside : i ≤ length text
  pub open_in : f ≤ i
  pub few : n ≤ i
  pub first : g ≤ n
  pub fewer : k ≤ n
  pub marked : x ≤ 3
  pub known : 1 ≤ kind
  pub short : length text ≤ most_taken

pub block_start : (kind : ℕ) (text : List ℕ) (start mark lines : ℕ) (l : List ℕ) → (1 ≤ kind) × ((mark ≤ 3) × ((lines ≤ start) × ((start ≤ length text) × (length text ≤ most_taken))))
    → BlockAt kind text start mark lines l l mark start lines start lines 0 0
block_start kind text start mark lines l h =
    record {
      going =
          going_same (block_walk kind mark start lines [] lines (lines_of (drop start text))) (block_walk kind mark start lines [] lines (lines_of (drop start text))) (block_walk kind mark start lines (between start start text) lines (lines_of (drop start text))) 0 0 l l
          (ap (λ (b : List ℕ). block_walk kind mark start lines b lines (lines_of (drop start text))) (sym (between_none start start text (omega arith))))
          (going_start (block_walk kind mark start lines [] lines (lines_of (drop start text))) l);
      inside = h.1.1.1.0;
      open_in = omega arith;
      few = h.1.1.0;
      first = omega arith;
      fewer = omega arith;
      marked = h.1.0;
      known = h.0;
      short = h.1.1.1.1;
    }

module _ (kind : ℕ) (text : List ℕ) (start mark lines : ℕ) (l₀ l : List ℕ) (x f g i n k p : ℕ) (a : BlockAt kind text start mark lines l₀ l x f g i n k p) where
  abbrev Whole : Walk
  Whole = block_walk kind mark start lines [] lines (lines_of (drop start text))

  pub block_same : length l ≡ length l₀
  block_same = a.going.same

  pub last_same : (v l' : List ℕ) → l' ≡ placed_at p v l → length l' ≡ length l₀
  last_same v l' e = ap length e ∙ placed_length_lem p v l ∙ a.going.same

  pub block_count : k + 1 < 2 ^ 64
  block_count = omega (arith, a.fewer, a.few, a.inside, a.short)

  pub block_known : 1 ≤ kind
  block_known = a.known

  pub block_first_lem : g + 1 < 2 ^ 64
  block_first_lem = omega (arith, a.first, a.few, a.inside, a.short)

  -- the block's bytes as the code has them
  module _ (b : List ℕ) (held : b ≡ between f i text) where
    held_long : length b ≡ i - f
    held_long = ap length held ∙ between_long text f i a.open_in a.inside

    -- behind the last line
    module _ (o : length text ≤ i) where
      pub last_first : g + 1 + length b < 2 ^ 64
      last_first = omega (arith, held_long, a.first, a.few, a.inside, a.short)

      pub last_from : f + length b < 2 ^ 64
      last_from = omega (arith, held_long, a.open_in, a.inside, a.short)

      module _ (s : Said) (g' : ℕ) (eg : g' ≡ g + 1) (es : s ≡ block_said kind g' f b) where
        at_last : Going Whole (s then stopped 0 0) k p l₀ l
        at_last =
            let z : length (drop i text) ≤ 0 = omega (arith, length-drop i text) in
            going_same Whole (block_walk kind x f g (between f i text) n (lines_of (drop i text))) (s then stopped 0 0) k p l₀ l
            (ap (block_walk kind x f g (between f i text) n) (lines_end (drop i text) z) ∙ block_none kind x f g (between f i text) n
            ∙ ap (λ (q : Said). q then stopped 0 0) (sym (es ∙ ap₂ (λ (q : ℕ) (v : List ℕ). block_said kind q f v) (eg ∙ add-one g) held)))
            a.going

        pub last_stop : (r : Walked) → (s.number ≡ 0 → ⊥) → r ≡ record { number = s.number; line = s.line; captions = k } → WalkedBy Whole r l₀ l
        last_stop r z er = going_stop Whole (stopped 0 0) k p l₀ l s r at_last z er

        pub last_over : (k' p' : ℕ) (l' : List ℕ) (r : Walked) → s.number ≡ 0 → p' ≡ place_after p (rows_said s) l → l' ≡ placed_at p (rows_said s) l → k' ≡ k + cond s.caption 1 0
            → r ≡ record { number = 0; line = 0; captions = k' } → WalkedBy Whole r l₀ l'
        last_over k' p' l' r z ep el ek er = going_end Whole k' p' l₀ l' r (going_step Whole (stopped 0 0) k k' p p' l₀ l l' s at_last z ep el ek) er

    module _ (y : List ℕ) (h : i < length text) (ey : y ≡ line_from i text) where
      pub block_room_1 : x + length y < 2 ^ 64
      block_room_1 = let q = cut text i y h ey in omega (arith, q.inside, a.marked, a.short)

      pub block_room_2 : n + 1 < 2 ^ 64
      block_room_2 = omega (arith, a.few, a.inside, a.short)

      pub block_room_3 : g + 1 + length b < 2 ^ 64
      block_room_3 = omega (arith, held_long, a.first, a.few, a.inside, a.short)

      pub block_room_4 : f + length b + length y < 2 ^ 64
      block_room_4 = let q = cut text i y h ey in omega (arith, held_long, q.inside, a.open_in, a.short)

      pub block_at : i + length y < 2 ^ 64
      block_at = let q = cut text i y h ey in omega (arith, q.inside, a.short)

      pub block_less : length text - (i + length y) < length text - i
      block_less = let q = cut text i y h ey in omega (arith, q.inside, q.some)

      module _ (s : Said) (f' g' : ℕ) (es : s ≡ block_turn kind x f g b n y) (ef : f' ≡ block_from kind x f b y) (eg : g' ≡ block_first kind x g n y) where
        turn_is : s ≡ block_turn kind x f g (between f i text) n y
        turn_is = es ∙ ap (λ (v : List ℕ). block_turn kind x f g v n y) held

        abbrev next : Walk
        next = cond (blank_in kind y) (block_walk kind 0 (f + length b + length y) (suc n) [] (suc n) (lines_of (drop (i + length y) text))) (block_walk kind 0 f g (b ++ y) (suc n) (lines_of (drop (i + length y) text)))

        behind_line_lem : Going Whole (s then next) k p l₀ l
        behind_line_lem =
            going_same Whole (block_walk kind x f g (between f i text) n (lines_of (drop i text))) (s then next) k p l₀ l
            (ap (block_walk kind x f g (between f i text) n) (cut text i y h ey).lines ∙ ap (λ (v : List ℕ). block_walk kind x f g v n (y ∷ lines_of (drop (i + length y) text))) (sym held)
            ∙ block_clause kind x f g b n y (lines_of (drop (i + length y) text))
            ∙ ap (λ (q : Said). q then next) (sym (es)))
            a.going

        pub block_stop : (r : Walked) → (s.number ≡ 0 → ⊥) → r ≡ record { number = s.number; line = s.line; captions = k } → WalkedBy Whole r l₀ l
        block_stop r z er = going_stop Whole next k p l₀ l s r behind_line_lem z er

        module _ (z : s.number ≡ 0) where
          fine : eqb (line_fault x y) 0 ≡ true
          fine = turn_fine kind x f g (between f i text) n y (ap (λ (q : Said). q.number) (sym turn_is) ∙ z)

          from_is : f' ≡ cond (blank_in kind y) (f + length b + length y) f
          unfolding block_from
          from_is = ef ∙ rw fine

          first_is : g' ≡ cond (blank_in kind y) (suc n) g
          unfolding block_first
          first_is = eg ∙ rw fine

          abbrev Next : (f g : ℕ) → (b : List ℕ) → Walk
          Next f g b = block_walk kind 0 f g b (suc n) (lines_of (drop (i + length y) text))

          by_blank : (w : Bool) → f' ≡ cond w (f + length b + length y) f → g' ≡ cond w (suc n) g
              → (cond w (Next (f + length b + length y) (suc n) []) (Next f g (b ++ y)) ≡ Next f' g' (between f' (i + length y) text)) × ((f' ≤ i + length y) × (g' ≤ suc n))
          by_blank true ef eg =
              let q = cut text i y h ey in
              let e : f' ≡ i + length y = ef ∙ omega (arith, held_long, a.open_in) in
              (ap₂ (λ (u v : ℕ). Next u v []) (sym ef) (sym eg) ∙ ap (Next f' g') (sym (between_none f' (i + length y) text (omega arith))), (omega arith, omega arith))
          by_blank false ef eg = (
            ap₂ (λ (u v : ℕ). Next u v (b ++ y)) (sym ef) (sym eg)
                ∙ ap (Next f' g') (ap (λ (v : List ℕ). v ++ y) held ∙ between_more text f i y a.open_in h ey ∙ ap (λ (u : ℕ). between u (i + length y) text) (sym ef)),
            (omega (arith, a.open_in), omega (arith, a.first)),
          )

          pub block_again : (k' p' : ℕ) (l' : List ℕ) → p' ≡ place_after p (rows_said s) l → l' ≡ placed_at p (rows_said s) l → k' ≡ k + cond s.caption 1 0
              → BlockAt kind text start mark lines l₀ l' 0 f' g' (i + length y) (n + 1) k' p'
          block_again k' p' l' ep el ek =
              let q = cut text i y h ey in
              let one : cond s.caption 1 0 ≤ 1 = at_most s.caption in
              let w = by_blank (blank_in kind y) from_is first_is in
              record {
                going =
                    going_same Whole next (block_walk kind 0 f' g' (between f' (i + length y) text) (n + 1) (lines_of (drop (i + length y) text))) k' p' l₀ l'
                    (w.0 ∙ ap (λ (u : ℕ). block_walk kind 0 f' g' (between f' (i + length y) text) u (lines_of (drop (i + length y) text))) (sym (add-one n)))
                    (going_step Whole next k k' p p' l₀ l l' s behind_line_lem z ep el ek);
                inside = q.inside;
                open_in = w.1.0;
                few = omega (arith, q.some, a.few);
                first = omega (arith, w.1.1);
                fewer = omega (arith, ek, one, a.fewer);
                marked = omega arith;
                known = a.known;
                short = a.short;
              }

-- ---- parts of a text
pub line_found : (text t r : List ℕ) (i m : ℕ) → t ≡ drop i text → m ≡ line_length t → r ≡ take m t → r ≡ line_from i text
line_found text t r i m et em er = er ∙ ap (λ (k : ℕ). take k t) em ∙ ap (λ (v : List ℕ). take (line_length v) v) et

pub between_found : (text t r : List ℕ) (f i m : ℕ) → t ≡ drop f text → m ≡ i - f → r ≡ take m t → r ≡ between f i text
between_found text t r f i m et em er = er ∙ ap₂ (λ (k : ℕ) (v : List ℕ). take k v) em et

-- ---- WebVTT's first line
vtt_clause : (x i : ℕ) (y : List ℕ) (ls : List (List ℕ)) → vtt_walk x i (y ∷ ls) ≡ (head_turn x y then block_walk 2 0 (i + length y) 1 [] 1 ls)
unfolding vtt_walk
vtt_clause x i y ls = refl

vtt_empty : (x i : ℕ) → vtt_walk x i [] ≡ stopped 24 1
unfolding vtt_walk
vtt_empty x i = refl

head_fault_lem : (x : ℕ) (y : List ℕ) (j : ℕ) → suc j ≡ line_fault x y → head_turn x y ≡ at_fault (suc j) 1
unfolding head_turn head_fault
head_fault_lem x y j q =
    let f : (line_fault x y or_else fault_unless (headed (text_of y)) 24) ≡ suc j = else_found (line_fault x y) (fault_unless (headed (text_of y)) 24) (λ w. omega arith) ∙ sym q in
    rw (f, ne_eqb (suc j) 0 (λ w. omega arith))

head_other : (x : ℕ) (y : List ℕ) → line_fault x y ≡ 0 → is_header y ≡ false → head_turn x y ≡ at_fault 24 1
unfolding head_turn head_fault ◌or_else◌ fault_unless
head_other x y z f = rw (z, sym (header_headed y) ∙ f)

head_fine : (x : ℕ) (y : List ℕ) → line_fault x y ≡ 0 → is_header y ≡ true → head_turn x y ≡ quiet
unfolding head_turn head_fault ◌or_else◌ fault_unless
head_fine x y z f = rw (z, sym (header_headed y) ∙ f)

walked_same : (a b : Walk) (r : Walked) (l l' : List ℕ) → a ≡ b → WalkedBy b r l l' → WalkedBy a r l l'
walked_same a b r l l' e w = subst (λ (x : Walk). WalkedBy x r l l') (sym e) w

walked_stop : (m n : ℕ) (r : Walked) (l : List ℕ) → r ≡ record { number = m; line = n; captions = 0 } → WalkedBy (stopped m n) r l l
walked_stop m n r l e =
    record {
      number = ap (λ (x : Walked). x.number) e;
      line = ap (λ (x : Walked). x.line) e;
      captions = ap (λ (x : Walked). 6 * x.captions) e;
      written = λ h. sym (put_nil l);
    }

module _ (text : List ℕ) (x : ℕ) (r : Walked) (l : List ℕ) where
  pub vtt_none : length text ≤ x → r ≡ record { number = 24; line = 1; captions = 0 } → WalkedBy (vtt_walk x x (lines_of (drop x text))) r l l
  vtt_none h e =
      let z : length (drop x text) ≤ 0 = omega (arith, length-drop x text) in
      walked_same (vtt_walk x x (lines_of (drop x text))) (stopped 24 1) r l l (ap (vtt_walk x x) (lines_end (drop x text) z) ∙ vtt_empty x x) (walked_stop 24 1 r l e)

  module _ (y : List ℕ) (h : x < length text) (ey : y ≡ line_from x text) (m : ℕ) (em : m ≡ line_fault x y) where
    vtt_cut : vtt_walk x x (lines_of (drop x text)) ≡ (head_turn x y then block_walk 2 0 (x + length y) 1 [] 1 (lines_of (drop (x + length y) text)))
    vtt_cut = ap (vtt_walk x x) (cut text x y h ey).lines ∙ vtt_clause x x y (lines_of (drop (x + length y) text))

    stopped_by : (j : ℕ) → head_turn x y ≡ at_fault (suc j) 1 → vtt_walk x x (lines_of (drop x text)) ≡ stopped (suc j) 1
    stopped_by j e = vtt_cut ∙ ap (λ (s : Said). s then block_walk 2 0 (x + length y) 1 [] 1 (lines_of (drop (x + length y) text))) e

    pub vtt_fault : (m ≡ 0 → ⊥) → r ≡ record { number = m; line = 1; captions = 0 } → WalkedBy (vtt_walk x x (lines_of (drop x text))) r l l
    vtt_fault z e = go m em z e
      where
        go : (m : ℕ) → m ≡ line_fault x y → (m ≡ 0 → ⊥) → r ≡ record { number = m; line = 1; captions = 0 } → WalkedBy (vtt_walk x x (lines_of (drop x text))) r l l
        go zero q z e = absurd (z refl)
        go (suc j) q z e = walked_same (vtt_walk x x (lines_of (drop x text))) (stopped (suc j) 1) r l l (stopped_by j (head_fault_lem x y j q)) (walked_stop (suc j) 1 r l e)

    module _ (z : m ≡ 0) (b : Bool) (eb : b ≡ is_header y) where
      pub vtt_other : b ≡ false → r ≡ record { number = 24; line = 1; captions = 0 } → WalkedBy (vtt_walk x x (lines_of (drop x text))) r l l
      vtt_other f e = walked_same (vtt_walk x x (lines_of (drop x text))) (stopped 24 1) r l l (stopped_by 23 (head_other x y (sym em ∙ z) (sym eb ∙ f))) (walked_stop 24 1 r l e)

      pub vtt_head : (l' : List ℕ) → b ≡ true → WalkedBy (block_walk 2 0 (x + length y) 1 [] 1 (lines_of (drop (x + length y) text))) r l l' → WalkedBy (vtt_walk x x (lines_of (drop x text))) r l l'
      vtt_head l' f w = walked_same (vtt_walk x x (lines_of (drop x text))) (block_walk 2 0 (x + length y) 1 [] 1 (lines_of (drop (x + length y) text))) r l l' (vtt_cut ∙ ap (λ (s : Said). s then block_walk 2 0 (x + length y) 1 [] 1 (lines_of (drop (x + length y) text))) (head_fine x y (sym em ∙ z) (sym eb ∙ f))) w

pub vtt_inside : (text : List ℕ) (x : ℕ) (y : List ℕ) → x < length text → y ≡ line_from x text → x + length y ≤ length text
vtt_inside text x y h ey = (cut text x y h ey).inside

pub header_past : (text : List ℕ) (x : ℕ) (y : List ℕ) → x < length text → y ≡ line_from x text → 1 ≤ x + length y
header_past text x y h ey = omega (arith, (cut text x y h ey).some)

-- ---- a text of a kind
pub mark_in_lem : (text : List ℕ) (m : ℕ) → m ≡ bom_length text → m ≤ length text
mark_in_lem text m e = go (starts bom text) refl (e)
  where
    go : (t : Bool) → starts bom text ≡ t → m ≡ cond t 3 0 → m ≤ length text
    go true q f = omega (arith, starts_long bom text q)
    go false q f = omega arith

pub mark_small : (text : List ℕ) (m : ℕ) → m ≡ bom_length text → m ≤ 3
mark_small text m e = go (starts bom text) e
  where
    go : (t : Bool) → m ≡ cond t 3 0 → m ≤ 3
    go true f = omega arith
    go false f = omega arith

behind_is : (text : List ℕ) (m : ℕ) → m ≡ bom_length text → behind_bom text ≡ drop m text
behind_is text m e = go (starts bom text) ∙ ap (λ (k : ℕ). drop k text) (sym e)
  where
    go : (t : Bool) → cond t (drop 3 text) text ≡ drop (cond t 3 0) text
    go true = refl
    go false = refl

module _ (kind : ℕ) (text : List ℕ) (m : ℕ) (em : m ≡ bom_length text) (r : Walked) (l l' : List ℕ) where
  walk_is : walk_of kind text ≡ walk_behind kind m (lines_of (drop m text))
  unfolding walk_of
  walk_is = ap₂ (λ (k : ℕ) (t : List ℕ). walk_behind kind k (lines_of t)) (sym em) (behind_is text m em)

  pub walk_0 : kind ≡ 0 → WalkedBy (ass_walk m no_columns 0 m (lines_of (drop m text))) r l l' → WalkedBy (walk_of kind text) r l l'
  unfolding walk_behind
  walk_0 k w = walked_same (walk_of kind text) (ass_walk m no_columns 0 m (lines_of (drop m text))) r l l' (walk_is ∙ rw (eq-eqb kind 0 k)) w

  pub walk_2 : (kind ≡ 0 → ⊥) → kind ≡ 2 → WalkedBy (vtt_walk m m (lines_of (drop m text))) r l l' → WalkedBy (walk_of kind text) r l l'
  unfolding walk_behind
  walk_2 n k w = walked_same (walk_of kind text) (vtt_walk m m (lines_of (drop m text))) r l l' (walk_is ∙ rw (ne_eqb kind 0 n, eq-eqb kind 2 k)) w

  pub walk_1 : (kind ≡ 0 → ⊥) → (kind ≡ 2 → ⊥) → WalkedBy (block_walk kind m m 0 [] 0 (lines_of (drop m text))) r l l' → WalkedBy (walk_of kind text) r l l'
  unfolding walk_behind
  walk_1 n k w = walked_same (walk_of kind text) (block_walk kind m m 0 [] 0 (lines_of (drop m text))) r l l' (walk_is ∙ rw (ne_eqb kind 0 n, ne_eqb kind 2 k)) w

pub kind_some : (kind : ℕ) → (kind ≡ 0 → ⊥) → 1 ≤ kind
kind_some zero n = absurd (n refl)
kind_some (suc k) n = omega arith
