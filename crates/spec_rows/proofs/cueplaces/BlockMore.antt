-- A block with one line more: its timing line stays where it is, or is the new line.
use mathlib.Core.Path.{◌≡◌, refl, sym, ap, subst, ◌∙◌}
use mathlib.Core.Logic.{◌⊎◌, inl, inr}
use mathlib.Core.Bool.{Bool, true, false, cond}
use mathlib.Core.List.{List, [], ◌∷◌, ◌++◌}
use Prim.Native.Nat.{ℕ, suc, ◌+◌}
use lib.ListN.{length}
use Rattle.std.specs.Prelude.{Option, Some, None}
use Rattle.spec_text.specs.pattern.Find.{contains, up_to}
use Rattle.spec_text.specs.text.Line.{concat, line_count, text_of, terminator_of}
use Rattle.spec_caption.specs.caption_fate.Says.{Piece}
use Rattle.spec_cue.specs.block_timing.Style.{style_of, stamps_in}
use Rattle.spec_cue.specs.block_timing.Arrow.{arrow, Timing, untimed, timed, later, timing_of}
use Rattle.spec_cue.specs.block_cue.Block.{block_frame, both_say, end_text, trailing, timing_line_says, timing_says, block_says}
use Rattle.promise.proofs.LinesCut.{Cut, cut_lines}
use Rattle.spec_rows.specs.declared.caption_rows.Said.{Said}
use Rattle.spec_rows.specs.caption_rows.Said.{held_said, block_said}
use Rattle.spec_rows.proofs.cueplaces.Stops.{zero_suc}
use Rattle.spec_time.specs.declared.caption_stamp.Stamp.{Stamp}

-- ---- the timing line of more lines
abbrev more_timed : (ks : List (List ℕ)) → (l : List ℕ) → Timing → Timing
more_timed ks l untimed = cond (contains arrow (text_of l)) (timed ks l []) untimed
more_timed ks l (timed b y a) = timed b y (a ++ (l ∷ []))

more_later : (k : List ℕ) (ks : List (List ℕ)) (l : List ℕ) (t : Timing) → later k (more_timed ks l t) ≡ more_timed (k ∷ ks) l (later k t)
more_later k ks l (timed b y a) = refl
more_later k ks l untimed = go (contains arrow (text_of l))
  where
    go : (d : Bool) → later k (cond d (timed ks l []) untimed) ≡ cond d (timed (k ∷ ks) l []) untimed
    go true = refl
    go false = refl

timing_more : (ks : List (List ℕ)) (l : List ℕ) → timing_of (ks ++ (l ∷ [])) ≡ more_timed ks l (timing_of ks)
unfolding timing_of
timing_more [] l = refl
timing_more (k ∷ ks) l = go (contains arrow (text_of k)) (timing_more ks l)
  where
    go : (d : Bool) → timing_of (ks ++ (l ∷ [])) ≡ more_timed ks l (timing_of ks)
        → cond d (timed [] k (ks ++ (l ∷ []))) (later k (timing_of (ks ++ (l ∷ [])))) ≡ more_timed (k ∷ ks) l (cond d (timed [] k ks) (later k (timing_of ks)))
    go true ih = refl
    go false ih = ap (later k) ih ∙ more_later k ks l (timing_of ks)

-- ---- what a block gives, by its lines
module _ (kind first i : ℕ) where
  abbrev pub said_by_lem : (k : ℕ) → (ks : List (List ℕ)) → Timing → Said
  said_by_lem k ks t = held_said kind first i k t (timing_says (style_of kind) first ks t)

  -- 22, or 0: by the two times
  abbrev times_number : Option Stamp → Option Stamp → ℕ
  times_number None Y = 22
  times_number (Some S) None = 22
  times_number (Some S) (Some E) = 0

  abbrev line_number_lem : List ℕ → ℕ
  line_number_lem y = times_number ((style_of kind).time (up_to arrow (text_of y))) ((style_of kind).time (end_text (style_of kind) (text_of y)))

  both_number : (k : ℕ) (b : List (List ℕ)) (y : List ℕ) (a : List (List ℕ)) (z : Bool) (ps : List Piece) (X Y : Option Stamp)
      → ((held_said kind first i k (timed b y a) (both_say (first + line_count b) z ps X Y)).number ≡ times_number X Y)
      × ((held_said kind first i k (timed b y a) (both_say (first + line_count b) z ps X Y)).line ≡ first + line_count b)
  both_number k b y a z ps None Y = (refl, refl)
  both_number k b y a z ps (Some S) None = (refl, refl)
  both_number k b y a z ps (Some S) (Some E) = (refl, refl)

  held_number : (k : ℕ) (ks b : List (List ℕ)) (y : List ℕ) (a : List (List ℕ)) → ((said_by_lem k ks (timed b y a)).number ≡ line_number_lem y) × ((said_by_lem k ks (timed b y a)).line ≡ first + line_count b)
  unfolding timing_line_says
  held_number k ks b y a =
      both_number k b y a (stamps_in kind (concat a)) (block_frame (concat b) (trailing (style_of kind) (text_of y)) (terminator_of y) (concat a)) ((style_of kind).time (up_to arrow (text_of y)))
      ((style_of kind).time (end_text (style_of kind) (text_of y)))

  times_only : (X Y : Option Stamp) (h : ℕ) → times_number X Y ≡ suc h → times_number X Y ≡ 22
  times_only None Y h e = refl
  times_only (Some S) None h e = refl
  times_only (Some S) (Some E) h e = zero_suc h e

  held_only : (k : ℕ) (ks : List (List ℕ)) (t : Timing) (h : ℕ) → (said_by_lem k ks t).number ≡ suc h → suc h ≡ 22
  held_only k ks untimed h e = zero_suc h e
  held_only k ks (timed b y a) h e =
      sym (sym (held_number k ks b y a).0 ∙ e)
      ∙ times_only ((style_of kind).time (up_to arrow (text_of y))) ((style_of kind).time (end_text (style_of kind) (text_of y))) h (sym (held_number k ks b y a).0 ∙ e)

  pub said_is : (ks : List (List ℕ)) → Cut ks → block_said kind first i (concat ks) ≡ said_by_lem (length (concat ks)) ks (timing_of ks)
  unfolding block_said block_says
  said_is ks c = ap (λ (x : List (List ℕ)). held_said kind first i (length (concat ks)) (timing_of x) (timing_says (style_of kind) first x (timing_of x))) (cut_lines ks c)

  -- a block has no fault but 22
  pub said_only : (ks : List (List ℕ)) → Cut ks → (h : ℕ) → (block_said kind first i (concat ks)).number ≡ suc h → suc h ≡ 22
  said_only ks c h e = held_only (length (concat ks)) ks (timing_of ks) h (ap (λ (s : Said). s.number) (sym (said_is ks c)) ∙ e)

  -- one line more: the same number and line; or there was no fault, and a fault is on the new line
  pub record Grown (s t : Said) (n : ℕ) : Type 0 where
    pub quiet : s.number ≡ 0
    pub new : (h : ℕ) → t.number ≡ suc h → t.line ≡ n

  abbrev pub Same : Said → Said → Type 0
  Same s t = (t.number ≡ s.number) × (t.line ≡ s.line)

  held_more : (k k' : ℕ) (ks : List (List ℕ)) (l : List ℕ) (t : Timing) → Same (said_by_lem k ks t) (said_by_lem k' (ks ++ (l ∷ [])) (more_timed ks l t)) ⊎ Grown (said_by_lem k ks t) (said_by_lem k' (ks ++ (l ∷ [])) (more_timed ks l t)) (first + line_count ks)
  held_more k k' ks l (timed b y a) =
      let p = held_number k ks b y a in
      let q = held_number k' (ks ++ (l ∷ [])) b y (a ++ (l ∷ [])) in
      inl (q.0 ∙ sym p.0, q.1 ∙ sym p.1)
  held_more k k' ks l untimed = inr (record { quiet = refl; new = go (contains arrow (text_of l)) })
    where
      go : (d : Bool) (h : ℕ) → (said_by_lem k' (ks ++ (l ∷ [])) (cond d (timed ks l []) untimed)).number ≡ suc h → (said_by_lem k' (ks ++ (l ∷ [])) (cond d (timed ks l []) untimed)).line ≡ first + line_count ks
      go true h e = (held_number k' (ks ++ (l ∷ [])) ks l []).1
      go false h e = zero_suc h e

  pub said_more : (ks : List (List ℕ)) (l : List ℕ) → Cut ks → Cut (ks ++ (l ∷ []))
      → Same (block_said kind first i (concat ks)) (block_said kind first i (concat (ks ++ (l ∷ [])))) ⊎ Grown (block_said kind first i (concat ks)) (block_said kind first i (concat (ks ++ (l ∷ [])))) (first + line_count ks)
  said_more ks l c d =
      subst (λ (s : Said). Same s (block_said kind first i (concat (ks ++ (l ∷ [])))) ⊎ Grown s (block_said kind first i (concat (ks ++ (l ∷ [])))) (first + line_count ks)) (sym (said_is ks c))
      (subst (λ (s : Said). Same (said_by_lem (length (concat ks)) ks (timing_of ks)) s ⊎ Grown (said_by_lem (length (concat ks)) ks (timing_of ks)) s (first + line_count ks))
      (sym (said_is (ks ++ (l ∷ [])) d ∙ ap (said_by_lem (length (concat (ks ++ (l ∷ [])))) (ks ++ (l ∷ []))) (timing_more ks l)))
      (held_more (length (concat ks)) (length (concat (ks ++ (l ∷ [])))) ks l (timing_of ks)))
