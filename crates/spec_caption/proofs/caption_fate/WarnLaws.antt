-- The warnings of parts by a rule for lost parts: ours are those by request 2.7's, and over a map whose segments of positive length ascend in the
-- source without overlap these are those by document 01's and more.
use mathlib.Core.Path.{◌≡◌, refl, ap, ap₂}
use mathlib.Core.Bool.{Bool, true, false, ◌&&◌}
use mathlib.Core.List.{List, [], ◌∷◌, ◌++◌}
use Prim.Native.Nat.{ℕ}
use lib.Dec.{ltb}
use Rattle.spec_time.specs.caption_time.Kind.{units_of}
use Rattle.spec_time.specs.caption_time.Convert.{ticks_of}
use Rattle.spec_map.specs.declared.segment.Segment.{Segment}
use Rattle.spec_map.specs.segment.Segment.{source_of, source_end}
use Rattle.spec_caption.specs.declared.caption_fate.Config.{Config}
use Rattle.spec_caption.specs.caption_fate.Hit.{Found, miss, hit, find_hit}
use Rattle.spec_caption.specs.caption_fate.Lost.{lost_next, lost_later}
use Rattle.spec_caption.specs.caption_fate.Decide.{decide_hit, decide_ticks, decide_of}
use Rattle.spec_caption.specs.caption_fate.Says.{Cue, Part, stays, passes, cue}
use Rattle.spec_caption.specs.caption_fate.Emit.{Warning, warn_if, cue_emit, emit_by, emit_of, emits_of, warnings_of}
use Rattle.spec_caption.specs.caption_fate.Warns.{found_warns, part_warns, warns_by, Apart}
use Rattle.spec_caption.proofs.caption_fate.LostLaws.{StandsIn, stands_in, adds}

-- ---- the warnings of parts through a map are those by request 2.7's rule
module _ (c : Config) (m : List Segment) where
  found_warns_lem : (q : Cue) (a b : ℕ) (f : Found) → (cue_emit c.kind q (decide_hit c.timescale (units_of c.kind) a b f)).warnings ≡ found_warns lost_later q a b f
  found_warns_lem q a b miss = refl
  found_warns_lem q a b (hit i x xs) = refl

  part_warns_lem : (p : Part) → (emit_of c m p).warnings ≡ part_warns lost_later c m p
  unfolding emit_by part_warns decide_of decide_ticks
  part_warns_lem (stays l) = refl
  part_warns_lem (passes r n l) = refl
  part_warns_lem (cue q) =
      let a = ticks_of c.timescale (units_of c.kind) q.start in
      let b = ticks_of c.timescale (units_of c.kind) q.stop in
      found_warns_lem q a b (find_hit m a b)

  pub warns_later : (ps : List Part) → warnings_of (emits_of c m ps) ≡ warns_by lost_later c m ps
  unfolding emits_of warnings_of warns_by
  warns_later [] = refl
  warns_later (p ∷ ps) = ap₂ (λ (x y : List Warning). x ++ y) (part_warns_lem p) (warns_later ps)

-- ---- the warnings of a part by 2.7's rule are those by document 01's, and more in one place among them
pub record More (old new : List Warning) : Type 0 where
  pub before : List Warning
  pub more : List Warning
  pub behind : List Warning
  pub were : old ≡ before ++ behind
  pub added : new ≡ before ++ (more ++ behind)

more_none : (ws : List Warning) → More ws ws
more_none ws = record { before = []; more = []; behind = ws; were = refl; added = refl }

found_adds : (q : Cue) (m : List Segment) (a b : ℕ) (f : Found) → Apart m → StandsIn m a b f → More (found_warns lost_next q a b f) (found_warns lost_later q a b f)
found_adds q m a b miss w s = more_none []
found_adds q m a b (hit i x xs) w s = go (ltb (source_end x) b) (lost_next xs a b) (lost_later xs a b) (adds m xs a b x w s)
  where
    three : List Warning
    three = warn_if (ltb a (source_of x) && q.tagged) 3 q.line

    five : List Warning
    five = warn_if q.stamped 5 q.line

    go : (cut old new : Bool) → (old ≡ true → new ≡ true) → More (three ++ (warn_if (cut && old) 4 q.line ++ five)) (three ++ (warn_if (cut && new) 4 q.line ++ five))
    go false old new h = more_none (three ++ five)
    go true true new h =
        record {
          before = three;
          more = [];
          behind = warn_if true 4 q.line ++ five;
          were = refl;
          added = ap (λ (t : Bool). three ++ (warn_if t 4 q.line ++ five)) (h refl);
        }
    go true false new h = record { before = three; more = warn_if new 4 q.line; behind = five; were = refl; added = refl }

pub part_adds : (c : Config) (m : List Segment) (p : Part) → Apart m → More (part_warns lost_next c m p) (part_warns lost_later c m p)
unfolding part_warns
part_adds c m (stays l) w = more_none []
part_adds c m (passes r n l) w = more_none _
part_adds c m (cue q) w =
    let a = ticks_of c.timescale (units_of c.kind) q.start in
    let b = ticks_of c.timescale (units_of c.kind) q.stop in
    found_adds q m a b (find_hit m a b) w (stands_in 0 m a b)
