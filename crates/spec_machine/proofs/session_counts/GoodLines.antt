-- The lines that LF closes are UTF-8 together: then each of them is.
use mathlib.Core.Path.{◌≡◌, sym, ap, ◌∙◌}
use mathlib.Core.Bool.{Bool, true, false, true≢false}
use mathlib.Core.List.{List, ◌++◌}
use Prim.Native.Nat.{ℕ, ◌+◌, ◌-◌, ◌<◌}
use native.Mathlib.Omega.{arith}
use lib.ListN.{length, take, drop, take-append-drop}
use lib.Seq.{drop-drop, take-append_seam}
use Rattle.spec_text.specs.utf8.Utf8.{utf8}
use Rattle.spec_text.specs.text.Line.{concat, ends_line}
use Rattle.spec_text.proofs.unicode.Utf8Parts.{line_head, line_tail}
use Rattle.spec_machine.specs.session_counts.Cut.{Cut, closed_lines, unfinished}
use Rattle.spec_machine.proofs.session_counts.CutLaws.{cut_joined, cut_line}

-- as many bytes as the closed lines have are the closed lines
pub good_front : (s u : List ℕ) (n : ℕ) (b : Bool) → n ≡ length (concat (closed_lines s)) → u ≡ take n s → b ≡ utf8 u → b ≡ true → utf8 (concat (closed_lines s)) ≡ true
good_front s u n b en eu eb h =
    let c = concat (closed_lines s) in
    let f : take n s ≡ c = ap (λ (k : ℕ). take k s) en ∙ ap (take (length c)) (sym (cut_joined s)) ∙ take-append_seam c (unfinished s) in
    ap utf8 (sym (eu ∙ f)) ∙ sym eb ∙ h

-- where they were not looked at, and from a place on
pub good_not : (s : List ℕ) → false ≡ true → utf8 (concat (closed_lines s)) ≡ true
good_not s e = absurd (true≢false (sym e))

pub good_rest : (text u : List ℕ) (i : ℕ) (g : Bool) → u ≡ drop i text → (g ≡ true → utf8 (concat (closed_lines u)) ≡ true) → g ≡ true → utf8 (concat (closed_lines (drop i text))) ≡ true
good_rest text u i g e f h = ap (λ (x : List ℕ). utf8 (concat (closed_lines x))) (sym e) ∙ f h

-- the line from i to e, and what is behind it
module _ (text : List ℕ) (i e : ℕ) (lo : i < e) (ends : ends_line (take (e - i) (drop i text)) ≡ true) (good : utf8 (concat (closed_lines (drop i text))) ≡ true) where
  abbrev line : List ℕ
  line = take (e - i) (drop i text)

  closed : concat (closed_lines (drop i text)) ≡ line ++ concat (closed_lines (drop e text))
  closed =
      let q : i + (e - i) ≡ e = omega (arith, lo) in
      let f : drop (e - i) (drop i text) ≡ drop e text = drop-drop (e - i) i text ∙ ap (λ (k : ℕ). drop k text) q in
      let g : drop i text ≡ line ++ drop e text = sym (take-append-drop (e - i) (drop i text)) ∙ ap (λ (x : List ℕ). line ++ x) f in
      ap (λ (x : List ℕ). concat (closed_lines x)) g ∙ ap (λ (c : Cut ℕ). concat c.pieces) (cut_line line (drop e text) ends)

  joined : utf8 (line ++ concat (closed_lines (drop e text))) ≡ true
  joined = ap utf8 (sym closed) ∙ good

  pub good_line : utf8 line ≡ true
  good_line = line_head line (concat (closed_lines (drop e text))) ends joined

  pub good_later : utf8 (concat (closed_lines (drop e text))) ≡ true
  good_later = line_tail line (concat (closed_lines (drop e text))) ends joined
