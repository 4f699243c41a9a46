-- Parts, and what they become, in two rows: output, warnings, counts and captions.
use mathlib.Core.Path.{◌≡◌, refl, sym, ap, ◌∙◌}
use mathlib.Core.List.{List, [], ◌∷◌, ◌++◌, append_assoc}
use Prim.Native.Nat.{ℕ, ◌+◌}
use native.Mathlib.Omega.{arith}
use Rattle.spec_map.specs.declared.segment.Segment.{Segment}
use Rattle.spec_caption.specs.declared.caption_fate.Config.{Config}
use Rattle.spec_caption.specs.declared.caption_fate.Decision.{Decision}
use Rattle.spec_caption.specs.declared.caption_fate.Decision.TheVariants.{Strange, Dropped, Kept}
use Rattle.spec_caption.specs.caption_fate.Decide.{decide_of}
use Rattle.spec_caption.specs.caption_fate.Fates.{Fate, passed, dropped, shifted, clipped}
use Rattle.spec_caption.specs.caption_fate.Says.{Cue, Part, stays, passes, cue, captions_in}
use Rattle.spec_caption.specs.caption_fate.Emit.{Warning, Caption, none, decided, Emit, cue_emit, emit_by, emit_of, emits_of, output_of, warnings_of, places_of}
use Rattle.spec_machine.specs.declared.session_counts.Counts.{Counts}
use Rattle.spec_machine.specs.session_counts.Counts.{no_counts, count_fate, count, count_all, counts_of, one, captions, total}

pub emits_append : (c : Config) (m : List Segment) (xs ys : List Part) → emits_of c m (xs ++ ys) ≡ emits_of c m xs ++ emits_of c m ys
unfolding emits_of
emits_append c m [] ys = refl
emits_append c m (p ∷ xs) ys = ap (λ (es : List Emit). emit_of c m p ∷ es) (emits_append c m xs ys)

pub emits_none : (c : Config) (m : List Segment) → emits_of c m [] ≡ []
unfolding emits_of
emits_none c m = refl

pub output_append : (xs ys : List Emit) → output_of (xs ++ ys) ≡ output_of xs ++ output_of ys
unfolding output_of
output_append [] ys = refl
output_append (e ∷ xs) ys = ap (λ (l : List ℕ). e.out ++ l) (output_append xs ys) ∙ sym (append_assoc e.out (output_of xs) (output_of ys))

pub output_none : output_of [] ≡ []
unfolding output_of
output_none = refl

pub warnings_none : warnings_of [] ≡ []
unfolding warnings_of
warnings_none = refl

pub warnings_append : (xs ys : List Emit) → warnings_of (xs ++ ys) ≡ warnings_of xs ++ warnings_of ys
unfolding warnings_of
warnings_append [] ys = refl
warnings_append (e ∷ xs) ys =
    ap (λ (l : List Warning). e.warnings ++ l) (warnings_append xs ys) ∙ sym (append_assoc e.warnings (warnings_of xs) (warnings_of ys))

pub places_append : (xs ys : List Warning) → places_of (xs ++ ys) ≡ places_of xs ++ places_of ys
unfolding places_of
places_append [] ys = refl
places_append (w ∷ xs) ys = ap (λ (l : List ℕ). w.kind ∷ w.line ∷ l) (places_append xs ys)

pub count_append : (c : Counts) (xs ys : List Emit) → count_all c (xs ++ ys) ≡ count_all (count_all c xs) ys
unfolding count_all
count_append c [] ys = refl
count_append c (e ∷ xs) ys = count_append (count e.caption c) xs ys

pub count_none : (c : Counts) → count_all c [] ≡ c
unfolding count_all
count_none c = refl

-- ---- captions by the text alone
pub parts_append : (xs ys : List Part) → captions_in (xs ++ ys) ≡ captions_in xs + captions_in ys
unfolding captions_in
parts_append [] ys = omega arith
parts_append (stays l ∷ xs) ys = parts_append xs ys
parts_append (passes r n l ∷ xs) ys = omega (arith, parts_append xs ys)
parts_append (cue q ∷ xs) ys = omega (arith, parts_append xs ys)

pub parts_none : captions_in [] ≡ 0
unfolding captions_in
parts_none = refl

pub parts_stay : (l : List ℕ) (ps : List Part) → captions_in (stays l ∷ ps) ≡ captions_in ps
unfolding captions_in
parts_stay l ps = refl

cue_one : (kind : ℕ) (q : Cue) (d : Decision) → one (cue_emit kind q d).caption ≡ 1
cue_one kind q Strange = refl
cue_one kind q Dropped = refl
cue_one kind q (Kept r) = refl

-- each cue and each caption that passes is given one fate
pub captions_emitted : (c : Config) (m : List Segment) (ps : List Part) → captions (emits_of c m ps) ≡ captions_in ps
unfolding captions emits_of emit_by captions_in
captions_emitted c m [] = refl
captions_emitted c m (stays l ∷ ps) = omega (arith, captions_emitted c m ps)
captions_emitted c m (passes r n l ∷ ps) = omega (arith, captions_emitted c m ps)
captions_emitted c m (cue q ∷ ps) =
    omega (arith, cue_one c.kind q (decide_of c m q.start q.stop), captions_emitted c m ps)

-- ---- captions decided = shifted + clipped + dropped + passed
total_fate : (f : Fate) (c : Counts) → total (count_fate f c) ≡ 1 + total c
total_fate passed c = omega arith
total_fate dropped c = omega arith
total_fate (shifted s e) c = omega arith
total_fate (clipped s e) c = omega arith

total_one : (x : Caption) (c : Counts) → total (count x c) ≡ one x + total c
total_one none c = omega arith
total_one (decided f) c = total_fate f c

pub total_all : (c : Counts) (es : List Emit) → total (count_all c es) ≡ captions es + total c
unfolding count_all captions
total_all c [] = omega arith
total_all c (e ∷ es) = omega (arith, total_all (count e.caption c) es, total_one e.caption c)

pub total_counts : (es : List Emit) → total (counts_of es) ≡ captions es
total_counts es = omega (arith, total_all no_counts es)

pub total_parts : (c : Config) (m : List Segment) (ps : List Part) → total (counts_of (emits_of c m ps)) ≡ captions_in ps
total_parts c m ps = total_counts (emits_of c m ps) ∙ captions_emitted c m ps
