-- Every part that a text says is put through the map rightly: its fate, its bytes and its warnings. And passed counts warnings 1 and 2.
use mathlib.Core.Path.{◌≡◌, refl, sym, ap, ap₂, ◌∙◌}
use mathlib.Core.Bool.{Bool, true, false, cond, ◌&&◌, ◌||◌}
use mathlib.Core.List.Memᴰ
use mathlib.Core.List.{List, [], ◌∷◌, ◌++◌}
use Prim.Native.Nat.{ℕ, suc, ◌+◌, ◌<◌}
use native.Mathlib.Omega.{arith}
use lib.Dec.{ltb}
use Rattle.spec_time.specs.caption_time.Kind.{units_of}
use Rattle.spec_time.specs.caption_time.Convert.{ticks_of}
use Rattle.spec_time.specs.caption_stamp.Write.{time_text}
use Rattle.spec_map.specs.declared.segment.Segment.{Segment}
use Rattle.spec_map.specs.segment.Segment.{source_of, source_end}
use Rattle.spec_caption.specs.declared.caption_fate.Config.{Config}
use Rattle.spec_caption.specs.declared.caption_fate.Retimed.{Retimed}
use Rattle.spec_caption.specs.declared.caption_fate.Decision.{Decision}
use Rattle.spec_caption.specs.declared.caption_fate.Decision.TheVariants.{Strange, Dropped, Kept}
use Rattle.spec_caption.specs.caption_fate.Hit.{meets_parts, meets, Found, miss, hit, find_from, find_hit, met_of}
use Rattle.spec_caption.specs.caption_fate.Lost.{lost_later, lost_rule}
use Rattle.spec_caption.specs.caption_fate.Decide.{retimed_at, decide_hit, decide_ticks, decide_of}
use Rattle.spec_caption.specs.caption_fate.Fates.{passed, dropped, shifted, clipped, fate_for, fate_by, fate_of, FirstMet}
use Rattle.spec_caption.specs.caption_fate.Says.{Reason, unplaced, short, Cue, Part, stays, passes, cue}
use Rattle.spec_caption.specs.caption_fate.Emit.{Warning, warn_if, decided, Emit, render, cue_emit, emit_by, emit_of, emits_of, warnings_of}
use Rattle.spec_caption.proofs.caption_fate.FateLaws.{met, fate_right, none_more}
use Rattle.spec_machine.specs.declared.session_counts.Counts.{Counts}
use Rattle.spec_machine.specs.session_counts.Counts.{no_counts, count_fate, count_all, counts_of}
use Rattle.promise.specs.Demand.{lost_among, Warned, Leaves, CueRight, PartRight, AllRight, passings}

-- ---- the first segment that is met, and those behind it
record HitFirst (m : List Segment) (a b : ℕ) (x : Segment) (xs : List Segment) : Type 0 where
  first : FirstMet m a b x
  behind : first.others ≡ xs

abbrev HitAt : List Segment → (a b : ℕ) → Found → Type 0
HitAt m a b miss = Unit {0}
HitAt m a b (hit i x xs) = HitFirst m a b x xs

later_hit : (x : Segment) (xs : List Segment) (a b : ℕ) (f : Found) → meets x a b ≡ false → HitAt xs a b f → HitAt (x ∷ xs) a b f
later_hit x xs a b miss e r = tt
later_hit x xs a b (hit i y ys) e r =
    record {
      first =
          record {
            earlier = x ∷ r.first.earlier;
            others = r.first.others;
            stands = ap (λ (l : List Segment). x ∷ l) r.first.stands;
            met = r.first.met;
            none_earlier = none_more x r.first.earlier a b e r.first.none_earlier;
          };
      behind = r.behind;
    }

first_hit : (i : ℕ) (x : Segment) (xs : List Segment) (a b : ℕ) (t : Bool) → meets x a b ≡ t → HitAt xs a b (find_from (suc i) xs a b)
    → HitAt (x ∷ xs) a b (cond t (hit i x xs) (find_from (suc i) xs a b))
first_hit i x xs a b true e r =
    record {
      first = record { earlier = []; others = xs; stands = refl; met = met x a b e; none_earlier = λ y j k. Memᴰ.not-nil j };
      behind = refl;
    }
first_hit i x xs a b false e r = later_hit x xs a b (find_from (suc i) xs a b) e r

find_first : (i : ℕ) (m : List Segment) (a b : ℕ) → HitAt m a b (find_from i m a b)
unfolding find_from
find_first i [] a b = tt
find_first i (x ∷ xs) a b = first_hit i x xs a b (meets x a b) refl (find_first (suc i) xs a b)

-- ---- a cue
module _ (c : Config) (m : List Segment) (q : Cue) where
  abbrev T : ℕ
  T = c.timescale

  abbrev U : ℕ
  U = units_of c.kind

  abbrev a : ℕ
  a = ticks_of T U q.start

  abbrev b : ℕ
  b = ticks_of T U q.stop

  -- the part-lost rule by the segments behind
  lost_among_lem : (xs : List Segment) → lost_rule xs a b ≡ lost_among xs a b
  unfolding lost_later meets_parts
  lost_among_lem [] = refl
  lost_among_lem (x ∷ xs) = go (ltb 0 x.duration) (ltb a (source_end x)) (ltb (source_of x) b) (lost_among_lem xs)
    where
      go : (p q r : Bool) → lost_rule xs a b ≡ lost_among xs a b → cond (p && (q && r)) true (lost_rule xs a b) ≡ ((p && (r && q)) || lost_among xs a b)
      go true true true e = refl
      go true true false e = e
      go true false true e = e
      go true false false e = e
      go false q r e = e

  abbrev written : (s e : ℕ) → List ℕ
  written s e = render q.frame (time_text c.kind q.start_mark s) (time_text c.kind q.stop_mark e)

  warned : (x : Segment) (xs : List Segment) (sc ec : Bool) → HitFirst m a b x xs → ltb a (source_of x) ≡ sc → ltb (source_end x) b ≡ ec
      → Warned c m q (warn_if (sc && q.tagged) 3 q.line ++ (warn_if (ec && lost_rule xs a b) 4 q.line ++ warn_if q.stamped 5 q.line))
  warned x xs sc ec h p r =
      record {
        segment = x;
        first = h.first;
        warnings =
            ap₂ (λ (s e : Bool). warn_if (s && q.tagged) 3 q.line ++ (warn_if (e && lost_rule xs a b) 4 q.line ++ warn_if q.stamped 5 q.line)) (sym p) (sym r)
            ∙ ap (λ (l : Bool). warn_if (ltb a (source_of x) && q.tagged) 3 q.line ++ (warn_if (ltb (source_end x) b && l) 4 q.line ++ warn_if q.stamped 5 q.line))
            (lost_among_lem xs ∙ ap (λ (ys : List Segment). lost_among ys a b) (sym h.behind));
      }

  leaves_by : (x : Segment) (xs : List Segment) (s e : ℕ) (sc ec : Bool) → HitFirst m a b x xs → ltb a (source_of x) ≡ sc → ltb (source_end x) b ≡ ec
      → Leaves c m q (cond (sc || ec) (clipped s e) (shifted s e)) (written s e)
      (warn_if (sc && q.tagged) 3 q.line ++ (warn_if (ec && lost_rule xs a b) 4 q.line ++ warn_if q.stamped 5 q.line))
  leaves_by x xs s e false false h p r = (refl, refl)
  leaves_by x xs s e false true h p r = (refl, warned x xs false true h p r)
  leaves_by x xs s e true ec h p r = (refl, warned x xs true ec h p r)

  hit_leaves : (f : Found) → HitAt m a b f
      → Leaves c m q (fate_by (decide_hit T U a b f)) (cue_emit c.kind q (decide_hit T U a b f)).out (cue_emit c.kind q (decide_hit T U a b f)).warnings
  hit_leaves miss h = (refl, refl)
  hit_leaves (hit i x xs) h =
      let r : Retimed = retimed_at T U a b (lost_rule xs a b) (met_of i x) in
      leaves_by x xs r.start r.stop (ltb a (source_of x)) (ltb (source_end x) b) h refl refl

  caption_fate : (d : Decision) → (cue_emit c.kind q d).caption ≡ decided (fate_by d)
  caption_fate Strange = refl
  caption_fate Dropped = refl
  caption_fate (Kept r) = refl

  pub cue_right : 0 < T → 0 < U → CueRight c m q (emit_of c m (cue q))
  unfolding emit_by fate_of decide_of decide_ticks
  cue_right pos_t pos_u =
      record {
        fate = fate_of c m q.start q.stop;
        caption = caption_fate (decide_of c m q.start q.stop);
        right = fate_right c m q.start q.stop pos_t pos_u;
        leaves = hit_leaves (find_hit m a b) (find_first 0 m a b);
      }

part_right : (c : Config) (m : List Segment) → 0 < c.timescale → 0 < units_of c.kind → (p : Part) → PartRight c m p (emit_of c m p)
unfolding emit_by
part_right c m pos_t pos_u (stays l) = (refl, refl, refl)
part_right c m pos_t pos_u (passes r n l) = (refl, refl, refl)
part_right c m pos_t pos_u (cue q) = cue_right c m q pos_t pos_u

pub all_right : (c : Config) (m : List Segment) → 0 < c.timescale → 0 < units_of c.kind → (ps : List Part) → AllRight c m ps
all_right c m pos_t pos_u [] = tt
all_right c m pos_t pos_u (p ∷ ps) = (part_right c m pos_t pos_u p, all_right c m pos_t pos_u ps)

-- ---- passed counts warnings 1 and 2
abbrev Counted : List Emit → Type 0
Counted es = (k : Counts) → (count_all k es).passed ≡ passings (warnings_of es) + k.passed

fate_keeps : (r : Retimed) (k : Counts) → (count_fate (fate_for r) k).passed ≡ k.passed
fate_keeps r k = go r.start_cut r.end_cut
  where
    go : (sc ec : Bool) → (count_fate (cond (sc || ec) (clipped r.start r.stop) (shifted r.start r.stop)) k).passed ≡ k.passed
    go false false = refl
    go false true = refl
    go true ec = refl

none_passing : (s t u : Bool) (n : ℕ) (ws : List Warning) → passings ((warn_if s 3 n ++ (warn_if t 4 n ++ warn_if u 5 n)) ++ ws) ≡ passings ws
unfolding passings
none_passing true true true n ws = refl
none_passing true true false n ws = refl
none_passing true false true n ws = refl
none_passing true false false n ws = refl
none_passing false true true n ws = refl
none_passing false true false n ws = refl
none_passing false false true n ws = refl
none_passing false false false n ws = refl

module _ (c : Config) (m : List Segment) where
  cue_counted : (q : Cue) (d : Decision) (es : List Emit) → Counted es → Counted (cue_emit c.kind q d ∷ es)
  unfolding count_all warnings_of
  cue_counted q Strange es i k = i (count_fate dropped k)
  cue_counted q Dropped es i k = i (count_fate dropped k)
  cue_counted q (Kept r) es i k =
      i (count_fate (fate_for r) k)
      ∙ ap (λ (n : ℕ). passings (warnings_of es) + n) (fate_keeps r k)
      ∙ ap (λ (n : ℕ). n + k.passed) (sym (none_passing (r.start_cut && q.tagged) r.lost q.stamped q.line (warnings_of es)))

  pass_counted : (r : Reason) (n : ℕ) (l : List ℕ) (es : List Emit) → Counted es → Counted (emit_of c m (passes r n l) ∷ es)
  unfolding count_all warnings_of emit_by passings
  pass_counted unplaced n l es i k = i (count_fate passed k) ∙ omega arith
  pass_counted short n l es i k = i (count_fate passed k) ∙ omega arith

  counted : (ps : List Part) → Counted (emits_of c m ps)
  unfolding emits_of emit_by count_all warnings_of passings
  counted [] k = omega arith
  counted (stays l ∷ ps) k = counted ps k
  counted (passes r n l ∷ ps) k = pass_counted r n l (emits_of c m ps) (counted ps) k
  counted (cue q ∷ ps) k = cue_counted q (decide_of c m q.start q.stop) (emits_of c m ps) (counted ps) k

  pub passed_warnings : (ps : List Part) → (counts_of (emits_of c m ps)).passed ≡ passings (warnings_of (emits_of c m ps))
  passed_warnings ps = counted ps no_counts ∙ omega arith
