-- Laws of the whole call.
use mathlib.Core.Path.{◌≡◌, refl, sym, ap, ap₂, ◌∙◌}
use mathlib.Core.Bool.{Bool, true, false, not, cond}
use mathlib.Core.List.{List, [], ◌∷◌}
use Prim.Native.Nat.{ℕ, zero, suc, ◌*◌, ◌≤◌}
use native.Mathlib.Omega.{arith}
use borrow.Author.Tests.{leb-true, ne_eqb, not-true}
use lib.Dec.{eqb, leb}
use lib.ListN.{length}
use Rattle.spec_base.specs.base.Limits.{most_taken}
use Rattle.spec_base.specs.base.Refusal.{◌or_else◌, fault_unless, unless_refused}
use Rattle.spec_base.specs.base.Put.{put}
use Rattle.spec_base.proofs.base.PutLaws.{put_nil}
use Rattle.spec_time.specs.caption_time.Kind.{kind_bad}
use Rattle.spec_caption.specs.caption_fate.Says.{Part, stays, passes, cue, captions_in}
use Rattle.promise.specs.Plain.{plain_read}
use Rattle.spec_rows.specs.declared.caption_rows.Walked.{Walked}
use Rattle.spec_rows.specs.caption_rows.Walk.{walk_of, WalkedBy}
use Rattle.spec_rows.specs.caption_rows.Cues.{rows_of, cues_refused, cues_number, cues_told, CuesRead}
use Rattle.spec_rows.proofs.caption_rows.AgreeAss.{Agree}

-- six numbers a caption
pub rows_many : (kind : ℕ) (text : List ℕ) (ps : List Part) → length (rows_of kind text ps) ≡ 6 * captions_in ps
unfolding captions_in
rows_many kind text [] = refl
rows_many kind text (stays l ∷ ps) = rows_many kind text ps
rows_many kind text (passes r n l ∷ ps) = let z = rows_many kind text ps in omega (arith, z)
rows_many kind text (cue q ∷ ps) = let z = rows_many kind text ps in omega (arith, z)

unless_zero : (t : Bool) → fault_unless t 16 ≡ 0 → t ≡ true
unfolding fault_unless
unless_zero true e = refl
unless_zero false e = absurd (let z : ◌≡◌ {A = ℕ} 16 0 = e in omega arith)

else_both : (a b : ℕ) → (a or_else b) ≡ 0 → (a ≡ 0) × (b ≡ 0)
unfolding ◌or_else◌
else_both zero b e = (refl, e)
else_both (suc a) b e = absurd (let z : ◌≡◌ {A = ℕ} (suc a) 0 = e in omega arith)

else_longer : (a b c d : ℕ) → ((a or_else b or_else c) ≡ 0 → ⊥) → (a or_else b or_else c or_else d) ≡ (a or_else b or_else c)
unfolding ◌or_else◌
else_longer (suc a) b c d n = refl
else_longer zero (suc b) c d n = refl
else_longer zero zero (suc c) d n = refl
else_longer zero zero zero d n = absurd (n refl)

module _ (kind text told bad : ℕ) (e : bad ≡ (fault_unless (not (kind_bad kind)) 16 or_else fault_unless (leb text most_taken) 16 or_else fault_unless (leb 2 told) 16)) (z : bad ≡ 0) where
  parts : (fault_unless (not (kind_bad kind)) 16 ≡ 0) × ((fault_unless (leb text most_taken) 16 ≡ 0) × (fault_unless (leb 2 told) 16 ≡ 0))
  parts =
      let p = else_both (fault_unless (not (kind_bad kind)) 16) (fault_unless (leb text most_taken) 16 or_else fault_unless (leb 2 told) 16) (sym e ∙ z) in
      (p.0, else_both (fault_unless (leb text most_taken) 16) (fault_unless (leb 2 told) 16) p.1)

  pub text_short : text ≤ most_taken
  text_short = leb-true text most_taken (unless_zero (leb text most_taken) parts.1.0)

  pub told_room : 2 ≤ told
  told_room = leb-true 2 told (unless_zero (leb 2 told) parts.1.1)

  pub kind_known : kind_bad kind ≡ false
  kind_known = not-true (kind_bad kind) (unless_zero (not (kind_bad kind)) parts.0)

-- a refusal
number_of : (kind : ℕ) (text : List ℕ) (a b k : ℕ) → cues_refused kind text a b ≡ suc k → cues_number kind text a b ≡ suc k
unfolding cues_number ◌or_else◌
number_of kind text a b k e = rw e

number_none : (kind : ℕ) (text : List ℕ) (a b : ℕ) → cues_refused kind text a b ≡ 0 → cues_number kind text a b ≡ (plain_read kind true text).fault
unfolding cues_number ◌or_else◌
number_none kind text a b e = rw e

refused : (kind : ℕ) (text rows told : List ℕ) (k : ℕ) → cues_refused kind text (length rows) (length told) ≡ k → (k ≡ 0 → ⊥) → CuesRead kind text rows rows told told k
refused kind text rows told zero e n = absurd (n refl)
refused kind text rows told (suc k) e n =
    let q : eqb (cues_refused kind text (length rows) (length told)) 0 ≡ false = ap (λ (m : ℕ). eqb m 0) e ∙ ne_eqb (suc k) 0 n in
    record {
      answer = sym (number_of kind text (length rows) (length told) k e);
      written = sym (ap (λ (t : Bool). put (cond t (rows_of kind text (plain_read kind true text).parts) []) rows) q ∙ put_nil rows);
      tells = sym (ap (λ (t : Bool). put (cond t (cues_told kind text) []) told) q ∙ put_nil told);
    }

pub read_refused : (kind : ℕ) (text rows told : List ℕ) (bad : ℕ)
    → bad ≡ (fault_unless (not (kind_bad kind)) 16 or_else fault_unless (leb (length text) most_taken) 16 or_else fault_unless (leb 2 (length told)) 16) → (bad ≡ 0 → ⊥) → CuesRead kind text rows rows told told bad
unfolding cues_refused
read_refused kind text rows told bad e n =
    refused kind text rows told bad
    (else_longer (fault_unless (not (kind_bad kind)) 16) (fault_unless (leb (length text) most_taken) 16) (fault_unless (leb 2 (length told)) 16) (fault_unless (leb (6 * captions_in (plain_read kind true text).parts) (length rows)) 16) (λ z. n (e ∙ z)) ∙ sym e) n

-- walked, with the plain reader's fault and rows
module _ (kind : ℕ) (text : List ℕ) (agrees : kind_bad kind ≡ false → Agree kind text (walk_of kind text) (plain_read kind true text)) (rows told : List ℕ) (bad : ℕ)
    (e : bad ≡ (fault_unless (not (kind_bad kind)) 16 or_else fault_unless (leb (length text) most_taken) 16 or_else fault_unless (leb 2 (length told)) 16)) (z : bad ≡ 0) where
  A : Agree kind text (walk_of kind text) (plain_read kind true text)
  A = agrees (kind_known kind (length text) (length told) bad e z)

  -- the refusal left: the places
  left_is : cues_refused kind text (length rows) (length told) ≡ fault_unless (leb (6 * captions_in (plain_read kind true text).parts) (length rows)) 16
  unfolding cues_refused ◌or_else◌
  left_is = let p = parts kind (length text) (length told) bad e z in rw (p.0, p.1.0, p.1.1)

  count_is : (w : Walked) (l l' : List ℕ) → WalkedBy (walk_of kind text) w l l' → w.captions ≡ captions_in (plain_read kind true text).parts
  count_is w l l' h = let q : 6 * w.captions ≡ 6 * captions_in (plain_read kind true text).parts = h.captions ∙ ap length A.rows ∙ rows_many kind text (plain_read kind true text).parts in omega (arith, q)

  -- places enough for the walk's rows
  module _ (fits : Bool) (ef : fits ≡ leb (length (walk_of kind text).rows) (length rows)) where
    rows_are : length (walk_of kind text).rows ≡ 6 * captions_in (plain_read kind true text).parts
    rows_are = ap length A.rows ∙ rows_many kind text (plain_read kind true text).parts

    places_are : leb (6 * captions_in (plain_read kind true text).parts) (length rows) ≡ fits
    places_are = ap (λ (n : ℕ). leb n (length rows)) (sym rows_are) ∙ sym ef

    pub read_few : fits ≡ false → CuesRead kind text rows rows told told 16
    unfolding fault_unless
    read_few f = refused kind text rows told 16 (left_is ∙ rw (places_are ∙ f)) (λ y. omega arith)

    pub read_told : (v : Walked) (rows' told' : List ℕ) → fits ≡ true → WalkedBy (walk_of kind text) v rows rows' → told' ≡ put (v.captions ∷ v.line ∷ []) told
        → CuesRead kind text rows rows' told told' v.number
    unfolding fault_unless cues_told
    read_told v rows' told' f g et =
        let r = count_is v rows rows' g in
        let none : cues_refused kind text (length rows) (length told) ≡ 0 = left_is ∙ rw (places_are ∙ f) in
        let room : length (walk_of kind text).rows ≤ length rows = leb-true (length (walk_of kind text).rows) (length rows) (sym ef ∙ f) in
        record {
          answer = g.number ∙ A.fault ∙ sym (number_none kind text (length rows) (length told) none);
          written = g.written room ∙ ap (λ (x : List ℕ). put x rows) A.rows ∙ ap (λ (k : ℕ). put (unless_refused k (rows_of kind text (plain_read kind true text).parts)) rows) (sym none);
          tells = et ∙ ap₂ (λ (a b : ℕ). put (a ∷ b ∷ []) told) r g.line ∙ ap (λ (k : ℕ). put (unless_refused k (cues_told kind text)) told) (sym none);
        }
