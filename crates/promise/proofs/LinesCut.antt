-- Lines as a text has them: each ends in its only LF, but the last may have none. Put one behind the other they are the same lines.
use mathlib.Core.Path.{◌≡◌, refl, sym, ap, subst, ◌∙◌}
use mathlib.Core.Logic.{◌⊎◌, inl, inr}
use mathlib.Core.Bool.{Bool, true, false}
use mathlib.Core.List.{List, [], ◌∷◌, ◌++◌, append-nil, append_assoc}
use Prim.Native.Nat.{ℕ, ◌+◌, ◌<◌}
use native.Mathlib.Omega.{arith}
use lib.ListN.{length}
use Rattle.spec_text.specs.text.Line.{lines_of, concat, line_count, ends_line, has_lf}
use Rattle.spec_text.proofs.text.LineLaws.{line_then_lem, line_last, Finished}
use Rattle.spec_machine.specs.session_counts.Cut.{closed_lines, unfinished}
use Rattle.spec_machine.proofs.session_counts.CutLaws.{cut_ends, cut_open, has_none, rest_lines, lines_of_cut}
use Rattle.promise.specs.Plain.{lines_read}

abbrev pub Cut : List (List ℕ) → Type 0
Cut [] = Unit {0}
Cut (l ∷ []) = (ends_line l ≡ true) ⊎ ((0 < length l) × (has_lf l ≡ false))
Cut (l ∷ (k ∷ ls)) = (ends_line l ≡ true) × Cut (k ∷ ls)

pub cut_tail : (l : List ℕ) (ls : List (List ℕ)) → Cut (l ∷ ls) → Cut ls
cut_tail l [] c = tt
cut_tail l (k ∷ ls) c = c.1

pub cut_behind : (ks ls : List (List ℕ)) → Cut (ks ++ ls) → Cut ls
cut_behind [] ls c = c
cut_behind (k ∷ ks) ls c = cut_behind ks ls (cut_tail k (ks ++ ls) c)

pub cut_before : (ks ls : List (List ℕ)) → Cut (ks ++ ls) → Cut ks
cut_before [] ls c = tt
cut_before (k ∷ []) [] c = c
cut_before (k ∷ []) (l ∷ ls) c = inl c.0
cut_before (k ∷ (j ∷ ks)) ls c = (c.0, cut_before (j ∷ ks) ls c.1)

pub cut_lines : (ls : List (List ℕ)) → Cut ls → lines_of (concat ls) ≡ ls
unfolding lines_of
cut_lines [] c = refl
cut_lines (l ∷ []) (inl e) = ap lines_of (sym (append-nil (l ++ []))) ∙ ap (λ (x : List ℕ). lines_of x) (append_assoc l [] []) ∙ line_then_lem l [] e
cut_lines (l ∷ []) (inr e) = ap lines_of (append-nil l) ∙ line_last l e.0 e.1
cut_lines (l ∷ (k ∷ ls)) c = line_then_lem l (concat (k ∷ ls)) c.0 ∙ ap (λ (x : List (List ℕ)). l ∷ x) (cut_lines (k ∷ ls) c.1)

finished_cut : (ls : List (List ℕ)) (r : List ℕ) → Finished ls → has_lf r ≡ false → Cut (ls ++ rest_lines r)
finished_cut [] [] f h = tt
finished_cut [] (b ∷ r) f h = inr (omega arith, h)
finished_cut (l ∷ []) [] f h = inl f.0
finished_cut (l ∷ []) (b ∷ r) f h = (f.0, inr (omega arith, h))
finished_cut (l ∷ (k ∷ ls)) r f h = (f.0, finished_cut (k ∷ ls) r f.1 h)

pub text_cut : (f : Bool) (t : List ℕ) → Cut (lines_read f t)
text_cut true t = subst Cut (sym (lines_of_cut t)) (finished_cut (closed_lines t) (unfinished t) (cut_ends t) (cut_open t))
text_cut false t = subst Cut (append-nil (closed_lines t)) (finished_cut (closed_lines t) [] (cut_ends t) has_none)

-- ---- lines and further lines
pub many_append : (ks ls : List (List ℕ)) → line_count (ks ++ ls) ≡ line_count ks + line_count ls
many_append [] ls = omega arith
many_append (k ∷ ks) ls = omega (arith, many_append ks ls)

pub concat_append : (ks ls : List (List ℕ)) → concat (ks ++ ls) ≡ concat ks ++ concat ls
concat_append [] ls = refl
concat_append (k ∷ ks) ls = ap (λ (x : List ℕ). k ++ x) (concat_append ks ls) ∙ sym (append_assoc k (concat ks) (concat ls))
