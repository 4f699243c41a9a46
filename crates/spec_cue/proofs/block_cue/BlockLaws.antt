-- Laws of what the functions of a block answer.
use mathlib.Core.Path.{◌≡◌, refl, sym, ap, ◌∙◌}
use mathlib.Core.Bool.{Bool, true, false, ◌&&◌}
use mathlib.Core.List.{List, ◌++◌}
use Prim.Native.Nat.{ℕ, ◌+◌, ◌*◌, ◌/◌, ◌≤◌, ◌<◌}
use native.Mathlib.Omega.{arith}
use borrow.Author.Tests.{lt-ltb, le-ltb}
use lib.ListN.{length, take, drop}
use Rattle.std.specs.Prelude.{Option, Some, None}
use Rattle.spec_base.specs.base.Put.{put, placed, placed_length}
use Rattle.spec_base.proofs.base.PartLaws.{part_lengths}
use Rattle.spec_base.proofs.base.PutLaws.{put_nil, placed_yes, length_yes}
use Rattle.spec_text.specs.pattern.Find.{up_to}
use Rattle.spec_text.specs.text.Line.{lines_of, text_of, terminator_of}
use Rattle.spec_text.proofs.text.LineLaws.{lines_joined}
use Rattle.spec_time.specs.declared.caption_stamp.Stamp.{Stamp}
use Rattle.spec_time.specs.caption_stamp.Read.{stamp, time_in}
use Rattle.spec_time.specs.caption_stamp.Write.{time_text}
use Rattle.spec_map.specs.declared.segment.Segment.{Segment}
use Rattle.spec_caption.specs.declared.caption_fate.Config.{Config}
use Rattle.spec_caption.specs.declared.caption_fate.Told.{Told}
use Rattle.spec_caption.specs.declared.caption_fate.Counted.{Counted}
use Rattle.spec_caption.specs.declared.caption_fate.Counted.TheVariants.{Nothing}
use Rattle.spec_caption.specs.declared.caption_fate.Retimed.{Retimed}
use Rattle.spec_caption.specs.declared.caption_fate.Decision.TheVariants.{Kept}
use Rattle.spec_caption.specs.caption_fate.Decide.{decide_in}
use Rattle.spec_caption.specs.caption_fate.Fates.{fate_for}
use Rattle.spec_caption.specs.caption_fate.Says.{Piece, stays, bad_time}
use Rattle.spec_caption.specs.caption_fate.Emit.{Warning, decided, warn_if, places_of, render, emit_by}
use Rattle.spec_caption.specs.caption_fate.Told.{refusal, counted_of, cue_in, part_in, Tells, refused_with}
use Rattle.spec_caption.proofs.caption_fate.TellLaws.{tells_same, tells_refused}
use Rattle.spec_cue.specs.declared.block_cue.Times.{Times}
use Rattle.spec_cue.specs.declared.block_timing.Place.{Place}
use Rattle.spec_cue.specs.block_timing.Style.{end_in, stamps_in, style_of}
use Rattle.spec_cue.specs.block_timing.Arrow
use Rattle.spec_cue.specs.block_timing.Arrow.{arrow, after_arrow, timing_of, Timing}
use Rattle.spec_cue.specs.block_cue.Block.{block_frame, block_cue, both_say, end_text, trailing, timing_line_says, timing_says, block_says, faulty, says}
use Rattle.spec_cue.specs.block_cue.BlockThrough.{block_answer_in, block_in, times_read}
use Rattle.spec_cue.specs.block_timing.Place.{timing_place}
use Rattle.spec_cue.proofs.block_timing.PlaceLaws.{Stands, stands}
use Rattle.spec_cue.proofs.block_cue.WriteLaws.{line_long}

-- without a tag there is no warning 3
no_tag : (t : Bool) (n : ℕ) (l : List Warning) → warn_if (t && false) 3 n ++ l ≡ l
no_tag true n l = refl
no_tag false n l = refl

-- ---- keep
pub keep_told : (kind n S a E b : ℕ) (z : Bool) (ps : List Piece) (r : Retimed) (c : Counted) (i j : ℕ) (o o' w w' : List ℕ) → c ≡ counted_of (decided (fate_for r))
    → (o' ≡ put (render ps (time_text kind a r.start) (time_text kind b r.stop)) o) × (i ≡ length (render ps (time_text kind a r.start) (time_text kind b r.stop)))
    → (y : Bool) → y ≡ z → (j ≡ length (places_of (warn_if r.lost 4 n ++ warn_if y 5 n))) × (w' ≡ put (places_of (warn_if r.lost 4 n ++ warn_if y 5 n)) w)
    → Tells (cue_in kind (block_cue n S a E b z ps) (Kept r)) (record { number = 0; counted = c; written = i; warned = j }) o o' w w'
keep_told kind n S a E b z ps r c i j o o' w w' ec eo y ey ew =
    let t : warn_if (r.start_cut && false) 3 n ++ (warn_if r.lost 4 n ++ warn_if z 5 n) ≡ warn_if r.lost 4 n ++ warn_if y 5 n =
    no_tag r.start_cut n (warn_if r.lost 4 n ++ warn_if z 5 n) ∙ ap (λ (u : Bool). warn_if r.lost 4 n ++ warn_if u 5 n) (sym ey) in
    record {
      number = refl;
      counted = ec;
      written = eo.1;
      warned = ew.0 ∙ ap (λ (x : List Warning). length (places_of x)) (sym t);
      text = eo.0;
      warnings = ew.1 ∙ ap (λ (x : List Warning). put (places_of x) w) (sym t);
    }

-- ---- read_times
pub read_1 : (kind : ℕ) (s v : List ℕ) → None ≡ time_in kind s → None ≡ times_read (time_in kind s) (time_in kind v)
read_1 kind s v e = ap (λ (X : Option Stamp). times_read X (time_in kind v)) e

pub read_2 : (kind : ℕ) (s v : List ℕ) (S : Stamp) → Some S ≡ time_in kind s → None ≡ time_in kind v → None ≡ times_read (time_in kind s) (time_in kind v)
read_2 kind s v S e f = ap (λ (Y : Option Stamp). times_read (Some S) Y) f ∙ ap (λ (X : Option Stamp). times_read X (time_in kind v)) e

pub read_3 : (kind : ℕ) (s v : List ℕ) (S E : Stamp) → Some S ≡ time_in kind s → Some E ≡ time_in kind v
    → Some (record { start = S.units; start_mark = S.mark; stop = E.units; stop_mark = E.mark }) ≡ times_read (time_in kind s) (time_in kind v)
read_3 kind s v S E e f = ap (λ (Y : Option Stamp). times_read (Some S) Y) f ∙ ap (λ (X : Option Stamp). times_read X (time_in kind v)) e

not_both : {A : Type 0} {o : Times} → None ≡ Some o → A
not_both e = absurd (let z : ◌≡◌ {A = ℕ} 0 1 = ap (λ (r : Option Times). elim r [ None ↦ 0 | Some o ↦ 1 ]) e in omega arith)

-- a bad time, and both times, told of
times_bad : (n : ℕ) (z : Bool) (ps : List Piece) (X Y : Option Stamp) → times_read X Y ≡ None → both_say n z ps X Y ≡ faulty bad_time
times_bad n z ps None Y e = refl
times_bad n z ps (Some S) None e = refl
times_bad n z ps (Some S) (Some E) e = not_both (sym e)

times_both : (X Y : Option Stamp) (o : Times) → times_read X Y ≡ Some o → (X ≡ stamp o.start o.start_mark) × (Y ≡ stamp o.stop o.stop_mark)
times_both None Y o e = not_both e
times_both (Some S) None o e = not_both e
times_both (Some S) (Some E) o e =
    let v : record { start = S.units; start_mark = S.mark; stop = E.units; stop_mark = E.mark } ≡ o = ap (λ (r : Option Times). elim r [ None ↦ o | Some v ↦ v ]) e in
    (ap (λ (v : Times). stamp v.start v.start_mark) v, ap (λ (v : Times). stamp v.stop v.stop_mark) v)

-- ---- timed
module _ (config : Config) (m : List Segment) (k n : ℕ) (b l a T B t z u v : List ℕ) (x : Option Times) (et : T ≡ text_of l) (eb : B ≡ after_arrow T) (en : n ≡ end_in config.kind B) (ew : t ≡ drop n B) (ez : z ≡ terminator_of l) (eu : u ≡ up_to arrow T) (ev : v ≡ take n B) (ex : x ≡ times_read (time_in config.kind u) (time_in config.kind v)) where
  behind_is : B ≡ after_arrow (text_of l)
  behind_is = eb ∙ ap after_arrow et

  start_is : u ≡ up_to arrow (text_of l)
  start_is = eu ∙ ap (up_to arrow) et

  end_is : v ≡ end_text (style_of config.kind) (text_of l)
  end_is = ev ∙ ap (λ (j : ℕ). take j B) en ∙ ap (λ (c : List ℕ). take (end_in config.kind c) c) behind_is

  trailing_is : t ≡ trailing (style_of config.kind) (text_of l)
  trailing_is = ew ∙ ap (λ (j : ℕ). drop j B) en ∙ ap (λ (c : List ℕ). drop (end_in config.kind c) c) behind_is

  -- the line in the words of the code
  line_is : timing_line_says (style_of config.kind) k b l a ≡ both_say k (stamps_in config.kind a) (block_frame b t z a) (time_in config.kind u) (time_in config.kind v)
  unfolding timing_line_says
  line_is = rw (start_is, end_is, trailing_is, ez)

  pub timed_bad : (r : Told) (o w : List ℕ) → x ≡ None → r ≡ refused_with 22 → Tells (block_answer_in config m (timing_line_says (style_of config.kind) k b l a)) r o o w w
  timed_bad r o w p q =
      tells_same (ap (block_answer_in config m) (line_is ∙ times_bad k (stamps_in config.kind a) (block_frame b t z a) (time_in config.kind u) (time_in config.kind v) (sym ex ∙ p))) (tells_refused 22 r o w q)

  module _ (old : Times) (p : x ≡ Some old) where
    both : (time_in config.kind u ≡ stamp old.start old.start_mark) × (time_in config.kind v ≡ stamp old.stop old.stop_mark)
    both = times_both (time_in config.kind u) (time_in config.kind v) old (sym ex ∙ p)

    pub timed_room : (o : List ℕ) → 3 * (length b + length l + length a) ≤ length o → length b + length t + length z + length a + 51 ≤ length o
    timed_room o h =
        let f = line_long config.kind l old.start old.stop old.start_mark old.stop_mark (ap (time_in config.kind) (sym start_is) ∙ both.0) (ap (time_in config.kind) (sym end_is) ∙ both.1) in
        let g : length t ≡ length (trailing (style_of config.kind) (text_of l)) = ap length trailing_is in
        let d : length z ≡ length (terminator_of l) = ap length ez in
        omega arith

    pub timed_both : (r : Told) (o o' w w' : List ℕ)
        → Tells (cue_in config.kind (block_cue k old.start old.start_mark old.stop old.stop_mark (stamps_in config.kind a) (block_frame b t z a)) (decide_in config m old.start old.stop)) r o o' w w'
        → Tells (block_answer_in config m (timing_line_says (style_of config.kind) k b l a)) r o o' w w'
    unfolding part_in
    timed_both r o o' w w' h =
        tells_same
        (ap (block_answer_in config m)
        (line_is ∙ ap (λ (X : Option Stamp). both_say k (stamps_in config.kind a) (block_frame b t z a) X (time_in config.kind v)) both.0 ∙
        ap (λ (Y : Option Stamp). both_say k (stamps_in config.kind a) (block_frame b t z a) (stamp old.start old.start_mark) Y) both.1))
        h

-- ---- block
module _ (config : Config) (m : List Segment) (first : ℕ) (s : List ℕ) (room places : ℕ) where
  pub answer_1 : room / 3 < length s → block_in config m first s room places ≡ refusal 16
  unfolding block_in
  answer_1 h = rw (lt-ltb room (3 * length s) (omega arith))

  pub answer_2 : length s ≤ room / 3 → places < 4 → block_in config m first s room places ≡ refusal 16
  unfolding block_in
  answer_2 h i = rw (le-ltb room (3 * length s) (omega arith), lt-ltb places 4 i)

  pub answer_3 : length s ≤ room / 3 → 4 ≤ places → block_in config m first s room places ≡ block_answer_in config m (block_says (style_of config.kind) first (lines_of s))
  unfolding block_in
  answer_3 h i = rw (le-ltb room (3 * length s) (omega arith), le-ltb places 4 i)

module _ (config : Config) (m : List Segment) (first : ℕ) (s : List ℕ) (x : Option Place) (e : x ≡ timing_place (lines_of s) 0 0) where
  says_of : (t : Timing) (p : Place) → Stands s (Some p) t
      → timing_says (style_of config.kind) first (lines_of s) t ≡ timing_line_says (style_of config.kind) (first + p.lines) (take p.at s) (take p.size (drop p.at s)) (drop p.size (drop p.at s))
  says_of Arrow.untimed p h = absurd h
  says_of (Arrow.timed b l a) p h = rw (h.before, h.line, h.after, h.lines)

  block_timed : (p : Place) → x ≡ Some p
      → block_says (style_of config.kind) first (lines_of s) ≡ timing_line_says (style_of config.kind) (first + p.lines) (take p.at s) (take p.size (drop p.at s)) (drop p.size (drop p.at s))
  unfolding block_says
  block_timed p f = says_of (timing_of (lines_of s)) p (stands s x (Some p) e f)

  untimed_of : (t : Timing) → Stands s None t → t ≡ Arrow.untimed
  untimed_of Arrow.untimed h = refl
  untimed_of (Arrow.timed b l a) h = absurd h

  block_untimed : x ≡ None → block_says (style_of config.kind) first (lines_of s) ≡ says (stays s)
  unfolding block_says
  block_untimed f =
      ap (timing_says (style_of config.kind) first (lines_of s)) (untimed_of (timing_of (lines_of s)) (stands s x None e f)) ∙ ap (λ (x : List ℕ). says (stays x)) (lines_joined s)

  pub block_4 : (n : ℕ) (o o' w : List ℕ) → x ≡ None → length s ≤ length o / 3 → 4 ≤ length w → (n ≡ placed_length s o) × (o' ≡ placed s o)
      → Tells (block_in config m first s (length o) (length w)) (record { number = 0; counted = Nothing; written = n; warned = 0 }) o o' w w
  unfolding part_in emit_by places_of
  block_4 n o o' w f h i q =
      let r : length s ≤ length o = omega arith in
      tells_same (answer_3 config m first s (length o) (length w) h i ∙ ap (block_answer_in config m) (block_untimed f))
      (record {
        number = refl;
        counted = refl;
        written = q.0 ∙ length_yes s o r;
        warned = refl;
        text = q.1 ∙ placed_yes s o r;
        warnings = sym (put_nil w);
      })

  pub block_3 : (p : Place) (k : ℕ) (r0 f1 f2 r2 : List ℕ) (r : Told) (o o' w w' : List ℕ) → length s ≤ length o / 3 → 4 ≤ length w → x ≡ Some p
      → k ≡ first + p.lines → r0 ≡ drop p.at s → f1 ≡ take p.at s → f2 ≡ take p.size r0 → r2 ≡ drop p.size r0
      → Tells (block_answer_in config m (timing_line_says (style_of config.kind) k f1 f2 r2)) r o o' w w' → Tells (block_in config m first s (length o) (length w)) r o o' w w'
  block_3 p k r0 f1 f2 r2 r o o' w w' h i f ek e0 e1 e2 e3 t =
      let line : timing_line_says (style_of config.kind) (first + p.lines) (take p.at s) (take p.size (drop p.at s)) (drop p.size (drop p.at s)) ≡ timing_line_says (style_of config.kind) k f1 f2 r2 = rw (ek, e3, e2, e1, e0) in
      tells_same (answer_3 config m first s (length o) (length w) h i ∙ ap (block_answer_in config m) (block_timed p f ∙ line)) t

pub block_room : (s r0 f1 f2 r2 o : List ℕ) (i n : ℕ) → r0 ≡ drop i s → f1 ≡ take i s → f2 ≡ take n r0 → r2 ≡ drop n r0 → length s ≤ length o / 3 → 3 * (length f1 + length f2 + length r2) ≤ length o
block_room s r0 f1 f2 r2 o i n e0 e1 e2 e3 h =
    let b : length f2 + length r2 ≡ length r0 = ap (λ (x : List ℕ). length x + length r2) e2 ∙ ap (λ (x : List ℕ). length (take n r0) + length x) e3 ∙ part_lengths n r0 in
    let c : length f1 + length r0 ≡ length s = ap (λ (x : List ℕ). length x + length r0) e1 ∙ ap (λ (x : List ℕ). length (take i s) + length x) e0 ∙ part_lengths i s in
    omega arith
