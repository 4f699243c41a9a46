-- Bytes of a text by its lines.
use mathlib.Core.Path.{◌≡◌, refl, sym, ap, ◌∙◌}
use mathlib.Core.Bool.{Bool, true, false, cond}
use mathlib.Core.List.{List, ◌++◌, append_assoc}
use Prim.Native.Nat.{ℕ, ◌+◌, ◌-◌}
use native.Mathlib.Omega.{arith}
use lib.ListN.{length, take, drop, length-append}
use lib.Seq.{drop-append_seam, take-append_seam, drop-drop}
use Rattle.spec_text.specs.text.Line.{lines_of, concat}
use Rattle.spec_text.proofs.text.LineLaws.{lines_joined}
use Rattle.spec_caption.specs.caption_fate.Bom.{starts_bom, behind_bom}
use Rattle.promise.specs.Plain.{bom_length}
use Rattle.promise.proofs.LinesCut.{concat_append}
use Rattle.spec_rows.specs.cueplaces.Rows.{bytes_at, byte_behind}

-- behind the BOM
behind_mark : (text : List ℕ) → drop (bom_length text) text ≡ behind_bom text
behind_mark text = go (starts_bom text)
  where
    go : (b : Bool) → drop (cond b 3 0) text ≡ cond b (drop 3 text) text
    go true = refl
    go false = refl

module _ (text : List ℕ) (before rest : List (List ℕ)) (e : lines_of (behind_bom text) ≡ before ++ rest) where
  -- behind some lines stand the others
  pub bytes_behind : drop (byte_behind text before) text ≡ concat rest
  bytes_behind =
      sym (drop-drop (length (concat before)) (bom_length text) text)
      ∙ ap (drop (length (concat before))) (behind_mark text ∙ sym (lines_joined (behind_bom text)) ∙ ap concat e ∙ concat_append before rest)
      ∙ drop-append_seam (concat before) (concat rest)

  -- k bytes that stand j bytes further on
  pub bytes_there : (front words back : List ℕ) (i : ℕ) → concat rest ≡ (front ++ words) ++ back → i ≡ byte_behind text before + length front → bytes_at i (length words) text ≡ words
  bytes_there front words back i p q =
      ap (λ (j : ℕ). take (length words) (drop j text)) q
      ∙ ap (take (length words)) (sym (drop-drop (length front) (byte_behind text before) text) ∙ ap (drop (length front)) (bytes_behind ∙ p ∙ append_assoc front words back) ∙ drop-append_seam front (words ++ back))
      ∙ take-append_seam words back

-- words at the end of a line's text, or of a block
pub at_end_lem : (all front words : List ℕ) (k : ℕ) → all ≡ front ++ words → k ≡ length words → length all - k ≡ length front
at_end_lem all front words k e q = let z : length all ≡ length front + length words = ap length e ∙ length-append front words in omega (arith, z, q)
