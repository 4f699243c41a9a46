-- Trimming a text strips exactly the encoded White_Space at both ends: what is left is the text of the row of code points so stripped.
use mathlib.Core.Path.{◌≡◌, refl, sym, ap, ◌∙◌}
use mathlib.Core.Bool.{Bool, true, false, cond}
use mathlib.Core.List.{List, [], ◌∷◌, ◌++◌, append_assoc, append-nil}
use Prim.Native.Nat.{ℕ}
use Rattle.spec_text.specs.whitespace.White.{head_from, keep_from, trim_head, trim_tail, trim}
use Rattle.spec_text.specs.unicode.WhiteSpace.{white_spaces, within}
use Rattle.spec_text.specs.unicode.Encode.{encode, Scalar, Scalars, encode_all, strip_head, strip_tail, if_left}
use Rattle.spec_text.proofs.unicode.Encoding.{head_white, head_other}
use Rattle.spec_text.proofs.unicode.Listed.{white_listed}
use Rattle.spec_text.proofs.unicode.Trailing.{tail_white, tail_other}

-- ---- at the head
pub head_stripped : (us : List ℕ) → Scalars us → trim_head (encode_all us) ≡ encode_all (strip_head us)
unfolding encode_all strip_head trim_head head_from
head_stripped us Scalars.none = refl
head_stripped us (Scalars.more {u = u} {us = vs} k r) = go (head_stripped vs r) (within white_spaces u) refl
  where
    go : trim_head (encode_all vs) ≡ encode_all (strip_head vs) → (w : Bool) → within white_spaces u ≡ w → trim_head (encode u ++ encode_all vs) ≡ encode_all (cond w (strip_head vs) (u ∷ vs))
    go ih true h = head_white u k (encode_all vs) (white_listed u ∙ h) ∙ ih
    go ih false h = head_other u k (encode_all vs) (white_listed u ∙ h)

-- ---- at the end: a row by its last code point
data Ends : List ℕ → Type 0 where
  none : Ends []
  last : (us : List ℕ) (u : ℕ) → Ends us → Ends (us ++ (u ∷ []))

more_ends : (v : ℕ) (us : List ℕ) → Ends us → Ends (v ∷ us)
more_ends v us none = last [] v none
more_ends v us (last ws w e) = last (v ∷ ws) w (more_ends v ws e)

ends : (us : List ℕ) → Ends us
ends [] = none
ends (u ∷ us) = more_ends u us (ends us)

encode_last : (us : List ℕ) (u : ℕ) → encode_all (us ++ (u ∷ [])) ≡ encode_all us ++ encode u
unfolding encode_all
encode_last [] u = append-nil (encode u)
encode_last (v ∷ us) u = ap (λ (l : List ℕ). encode v ++ l) (encode_last us u) ∙ sym (append_assoc (encode v) (encode_all us) (encode u))

scalars_but_last : (us : List ℕ) (u : ℕ) → Scalars (us ++ (u ∷ [])) → Scalars us × Scalar u
scalars_but_last [] u (Scalars.more k r) = (Scalars.none, k)
scalars_but_last (v ∷ us) u (Scalars.more k r) = let p = scalars_but_last us u r in (Scalars.more k p.0, p.1)

if_left_last : (v : ℕ) (us : List ℕ) (u : ℕ) → if_left v (us ++ (u ∷ [])) ≡ v ∷ (us ++ (u ∷ []))
unfolding if_left
if_left_last v [] u = refl
if_left_last v (w ∷ us) u = refl

strip_last : (us : List ℕ) (u : ℕ) → strip_tail (us ++ (u ∷ [])) ≡ cond (within white_spaces u) (strip_tail us) (us ++ (u ∷ []))
unfolding strip_tail if_left
strip_last [] u = refl
strip_last (v ∷ us) u = ap (if_left v) (strip_last us u) ∙ go (within white_spaces u)
  where
    go : (w : Bool) → if_left v (cond w (strip_tail us) (us ++ (u ∷ []))) ≡ cond w (if_left v (strip_tail us)) (v ∷ (us ++ (u ∷ [])))
    go true = refl
    go false = if_left_last v us u

tail_by : (us : List ℕ) → Ends us → Scalars us → trim_tail (encode_all us) ≡ encode_all (strip_tail us)
unfolding encode_all strip_tail trim_tail keep_from
tail_by us none k = refl
tail_by us (last vs v e) k = let p = scalars_but_last vs v k in go p.1 (tail_by vs e p.0) (within white_spaces v) refl
  where
    go : Scalar v → trim_tail (encode_all vs) ≡ encode_all (strip_tail vs) → (w : Bool) → within white_spaces v ≡ w → trim_tail (encode_all (vs ++ (v ∷ []))) ≡ encode_all (strip_tail (vs ++ (v ∷ [])))
    go q ih true h =
        ap trim_tail (encode_last vs v) ∙ tail_white v q (encode_all vs) (white_listed v ∙ h) ∙ ih
        ∙ sym (ap encode_all (strip_last vs v ∙ ap (λ (t : Bool). cond t (strip_tail vs) (vs ++ (v ∷ []))) h))
    go q ih false h =
        ap trim_tail (encode_last vs v) ∙ tail_other v q (encode_all vs) (white_listed v ∙ h) ∙ sym (encode_last vs v)
        ∙ sym (ap encode_all (strip_last vs v ∙ ap (λ (t : Bool). cond t (strip_tail vs) (vs ++ (v ∷ []))) h))

pub tail_stripped : (us : List ℕ) → Scalars us → trim_tail (encode_all us) ≡ encode_all (strip_tail us)
tail_stripped us k = tail_by us (ends us) k

-- ---- at both ends
strip_scalars : (us : List ℕ) → Scalars us → Scalars (strip_head us)
unfolding strip_head
strip_scalars us Scalars.none = Scalars.none
strip_scalars us (Scalars.more {u = u} {us = vs} k r) = go (strip_scalars vs r) (within white_spaces u)
  where
    go : Scalars (strip_head vs) → (w : Bool) → Scalars (cond w (strip_head vs) (u ∷ vs))
    go ih true = ih
    go ih false = Scalars.more k r

pub trim_stripped : (us : List ℕ) → Scalars us → trim (encode_all us) ≡ encode_all (strip_tail (strip_head us))
unfolding trim
trim_stripped us k = ap trim_tail (head_stripped us k) ∙ tail_stripped (strip_head us) (strip_scalars us k)
