-- The emits that are right for the parts of a text are the only ones (`one_right`), and they are those that are computed (`right_is_computed`).
use mathlib.Core.Path.{◌≡◌, refl, sym, ap, ap₂, subst, ◌∙◌}
use mathlib.Core.Bool.{false, ◌&&◌}
use mathlib.Core.List.{List, [], ◌∷◌, ◌++◌, Forall₂}
use Prim.Native.Nat.{ℕ}
use native.Mathlib.Omega.{arith}
use lib.Dec.{ltb}
use Rattle.spec_time.specs.caption_time.Kind.{units_of, kind_bad}
use Rattle.spec_time.specs.caption_time.Convert.{timescale_bad}
use Rattle.spec_time.proofs.caption_time.Limits.{units_low, timescale_low}
use Rattle.spec_map.specs.declared.segment.Segment.{Segment}
use Rattle.spec_map.specs.segment.Segment.{source_of, source_end}
use Rattle.spec_caption.specs.declared.caption_fate.Config.{Config}
use Rattle.spec_caption.specs.caption_fate.Fates.{Fate, passed, dropped, shifted, clipped}
use Rattle.spec_caption.specs.caption_fate.Says.{Cue, Part, stays, passes, cue}
use Rattle.spec_caption.specs.caption_fate.Emit.{Warning, warn_if, decided, Emit, emits_of}
use Rattle.spec_caption.proofs.caption_fate.OnlyFate.{first_only, fate_only}
use Rattle.promise.specs.Demand.{lost_among, ticks, Warned, Leaves, CueRight, PartRight, AllRight}
use Rattle.promise.specs.Stronger.{OneRight, RightIsComputed}
use Rattle.promise.proofs.PartLaws.{all_right}

emit_same : (e f : Emit) → e.out ≡ f.out → e.warnings ≡ f.warnings → e.caption ≡ f.caption → e ≡ f
emit_same e f o w p = λ i. record { out = o i; warnings = w i; caption = p i }

module _ (c : Config) (m : List Segment) where
  -- the warnings of a cue that is kept, by the segment that it meets first and those behind it
  module _ (q : Cue) where
    abbrev warnings_by : Segment → (others : List Segment) → List Warning
    warnings_by x xs =
        warn_if (ltb (ticks c m q.start) (source_of x) && q.tagged) 3 q.line
        ++ (warn_if (ltb (source_end x) (ticks c m q.stop) && lost_among xs (ticks c m q.start) (ticks c m q.stop)) 4 q.line ++ warn_if q.stamped 5 q.line)

    warned_only : (v w : List Warning) → Warned c m q v → Warned c m q w → v ≡ w
    warned_only v w a b =
        let k = first_only m (ticks c m q.start) (ticks c m q.stop) a.segment b.segment a.first b.first in
        a.warnings ∙ ap₂ warnings_by k.0 k.1 ∙ sym b.warnings

    leaves_only : (f : Fate) (o p : List ℕ) (v w : List Warning) → Leaves c m q f o v → Leaves c m q f p w → (o ≡ p) × (v ≡ w)
    leaves_only passed o p v w a b = absurd a
    leaves_only dropped o p v w a b = (a.0 ∙ sym b.0, a.1 ∙ sym b.1)
    leaves_only (shifted s e) o p v w a b = (a.0 ∙ sym b.0, a.1 ∙ sym b.1)
    leaves_only (clipped s e) o p v w a b = (a.0 ∙ sym b.0, warned_only v w a.1 b.1)

    cue_only : (e f : Emit) → CueRight c m q e → CueRight c m q f → e ≡ f
    cue_only e f a b =
        let k = fate_only c.timescale (units_of c.kind) m q.start q.stop a.fate b.fate a.right b.right in
        let l = leaves_only b.fate e.out f.out e.warnings f.warnings (subst (λ (x : Fate). Leaves c m q x e.out e.warnings) k a.leaves) b.leaves in
        emit_same e f l.0 l.1 (a.caption ∙ ap decided k ∙ sym b.caption)

  part_only : (p : Part) (e f : Emit) → PartRight c m p e → PartRight c m p f → e ≡ f
  part_only (stays l) e f a b = emit_same e f (a.0 ∙ sym b.0) (a.1 ∙ sym b.1) (a.2 ∙ sym b.2)
  part_only (passes r n l) e f a b = emit_same e f (a.0 ∙ sym b.0) (a.1 ∙ sym b.1) (a.2 ∙ sym b.2)
  part_only (cue q) e f a b = cue_only q e f a b

pub one_right : OneRight
one_right c m [] [] [] Forall₂.nil Forall₂.nil = refl
one_right c m [] [] (f ∷ fs) _ b = elim b [ ]
one_right c m [] (e ∷ es) fs a _ = elim a [ ]
one_right c m (p ∷ ps) [] fs a _ = elim a [ ]
one_right c m (p ∷ ps) (e ∷ es) [] _ b = elim b [ ]
one_right c m (p ∷ ps) (e ∷ es) (f ∷ fs) (Forall₂.cons a xs) (Forall₂.cons b ys) =
    ap₂ (λ (x : Emit) (xs : List Emit). x ∷ xs) (part_only c m p e f a b) (one_right c m ps es fs xs ys)

-- ---- those that are computed are right
pub computed_right : (c : Config) (m : List Segment) (ps : List Part) → AllRight c m ps → Forall₂ (PartRight c m) ps (emits_of c m ps)
unfolding emits_of
computed_right c m [] a = Forall₂.nil
computed_right c m (p ∷ ps) a = Forall₂.cons a.0 (computed_right c m ps a.1)

pub all_right_of : (c : Config) (m : List Segment) (ps : List Part) → timescale_bad c.timescale ≡ false → kind_bad c.kind ≡ false → AllRight c m ps
all_right_of c m ps t k = all_right c m (timescale_low c.timescale t) (omega (arith, units_low c.kind k)) ps

pub right_is_computed : RightIsComputed
right_is_computed c m ps es t k a = one_right c m ps es (emits_of c m ps) a (computed_right c m ps (all_right_of c m ps t k))
