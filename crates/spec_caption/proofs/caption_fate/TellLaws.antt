-- Laws of what is told: answers that are equal, refusals, and a caption by its decision.
use mathlib.Core.Path.{◌≡◌, refl, sym, ap, subst, ◌∙◌}
use mathlib.Core.List.{List}
use Prim.Native.Nat.{ℕ}
use Rattle.spec_base.proofs.base.PutLaws.{put_nil}
use Rattle.spec_caption.specs.declared.caption_fate.Told.{Told}
use Rattle.spec_caption.specs.declared.caption_fate.Counted.TheVariants.{Dropped as Lost}
use Rattle.spec_caption.specs.declared.caption_fate.Retimed.{Retimed}
use Rattle.spec_caption.specs.declared.caption_fate.Decision.{Decision}
use Rattle.spec_caption.specs.declared.caption_fate.Decision.TheVariants.{Strange, Dropped, Kept}
use Rattle.spec_caption.specs.caption_fate.Says.{Cue}
use Rattle.spec_caption.specs.caption_fate.Emit.{places_of}
use Rattle.spec_caption.specs.caption_fate.Told.{Answer, refusal, cue_in, refused_with, Tells}

-- an answer that is equal to another
pub tells_same : {a b : Answer} {r : Told} {o o' w w' : List ℕ} → a ≡ b → Tells b r o o' w w' → Tells a r o o' w w'
tells_same {a} {b} {r} {o} {o'} {w} {w'} e h = subst (λ (x : Answer). Tells x r o o' w w') (sym e) h

-- an answer that writes nothing
pub tells_refused : (n : ℕ) (r : Told) (o w : List ℕ) → r ≡ refused_with n → Tells (refusal n) r o o w w
unfolding places_of
tells_refused n r o w e =
    record {
      number = ap (λ (d : Told). d.number) e;
      counted = ap (λ (d : Told). d.counted) e;
      written = ap (λ (d : Told). d.written) e;
      warned = ap (λ (d : Told). d.warned) e;
      text = sym (put_nil o);
      warnings = sym (put_nil w);
    }

-- ---- by the decision: D is that of the definition, and d the one that the code was told
module _ (kind : ℕ) (q : Cue) (D d : Decision) (ed : d ≡ D) where
  by_told : (v : Decision) → d ≡ v → cue_in kind q D ≡ cue_in kind q v
  by_told v p = ap (cue_in kind q) (sym ed ∙ p)

  pub settle_strange : (r : Told) (o w : List ℕ) → d ≡ Strange → r ≡ refused_with 15 → Tells (cue_in kind q D) r o o w w
  settle_strange r o w p e = tells_same (by_told Strange p) (tells_refused 15 r o w e)

  pub settle_dropped : (o w : List ℕ) → d ≡ Dropped → Tells (cue_in kind q D) (record { number = 0; counted = Lost; written = 0; warned = 0 }) o o w w
  unfolding places_of
  settle_dropped o w p =
      tells_same (by_told Dropped p)
      (record { number = refl; counted = refl; written = refl; warned = refl; text = sym (put_nil o); warnings = sym (put_nil w) })

  pub settle_kept : (x : Retimed) (r : Told) (o o' w w' : List ℕ) → d ≡ Kept x → Tells (cue_in kind q (Kept x)) r o o' w w' → Tells (cue_in kind q D) r o o' w w'
  settle_kept x r o o' w w' p h = tells_same (by_told (Kept x) p) h
