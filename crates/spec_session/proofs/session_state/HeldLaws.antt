-- 17: the held bytes. Where the finished lines end, lines one by one, and the tests of each kind.
use mathlib.Core.Path.{◌≡◌, refl, sym, ap, ◌∙◌}
use mathlib.Core.Bool.{Bool, true, false, ◌||◌, not, cond, true≢false}
use mathlib.Core.List.{List, [], ◌∷◌, ◌++◌, append-nil, append_assoc}
use Prim.Native.Nat.{ℕ, zero, suc, ◌+◌, ◌-◌, ◌≤◌, ◌<◌}
use native.Mathlib.Omega.{arith}
use native.Mathlib.Nat.{not-suc-le-zero}
use native.Mathlib.Numerals.{add-one}
use lib.Dec.{eqb, ltb}
use lib.ListN.{length, take, drop, get_or, length-append}
use lib.Seq.{length-take-le, take-suc, take-length, take-append_seam}
use borrow.Author.Tests.{lt-ltb, le-ltb, ltb-false, eq-eqb, ne_eqb}
use Rattle.spec_base.specs.base.Limits.{most_line, most_block, most_held}
use Rattle.spec_base.proofs.base.Laws.{or_left, or_right}
use Rattle.spec_text.specs.utf8.Utf8.{utf8}
use Rattle.spec_text.specs.text.Line.{concat, lines_of, line_length, has_lf}
use Rattle.spec_text.proofs.text.LineLaws.{lines_back, lines_cut, lines_end}
use Rattle.spec_cue.specs.block_timing.Style.{blank_in}
use Rattle.spec_machine.specs.session_counts.Cut.{Cut, cut, is_lf, closed_lines, unfinished}
use Rattle.spec_machine.proofs.session_counts.CutLaws.{cut_joined, cut_length, cut_ends, cut_open, cut_rest, cut_held, has_none}
use Rattle.spec_machine.proofs.session_counts.OpenLines.{has_lf_append, ends_lf}
use Rattle.spec_machine.specs.kinds.Kit.{lines_bad, held_bad}
use Rattle.spec_machine.proofs.kinds.KindLaws.{concat_snoc, finished_snoc}

-- ---- where the finished lines end
abbrev pub closed_length : List ℕ → ℕ
closed_length h = length (concat (closed_lines h))

-- one more byte: LF ends all there is, any other byte ends nothing
end_snoc : (t : List ℕ) (b : ℕ) → closed_length (t ++ (b ∷ [])) ≡ cond (eqb b 10) (length t + 1) (closed_length t)
end_snoc t b = go (eqb b 10) refl
  where
    ps : List (List ℕ)
    ps = closed_lines t

    r : List ℕ
    r = unfinished t

    go : (z : Bool) → eqb b 10 ≡ z → closed_length (t ++ (b ∷ [])) ≡ cond z (length t + 1) (closed_length t)
    go false e =
        let f : t ++ (b ∷ []) ≡ concat ps ++ (r ++ (b ∷ [])) = ap (λ (x : List ℕ). x ++ (b ∷ [])) (sym (cut_joined t)) ∙ append_assoc (concat ps) r (b ∷ []) in
        let c = ap (cut is_lf) f ∙ cut_held ps (r ++ (b ∷ [])) (cut_ends t) (has_lf_append r b (cut_open t) e) in
        ap (λ (x : Cut ℕ). length (concat x.pieces)) c
    go true e =
        let g : concat (ps ++ ((r ++ (b ∷ [])) ∷ [])) ≡ t ++ (b ∷ []) =
        concat_snoc ps (r ++ (b ∷ [])) ∙ sym (append_assoc (concat ps) r (b ∷ [])) ∙ ap (λ (x : List ℕ). x ++ (b ∷ [])) (cut_joined t) in
        let f : t ++ (b ∷ []) ≡ concat (ps ++ ((r ++ (b ∷ [])) ∷ [])) ++ [] = sym g ∙ sym (append-nil (concat (ps ++ ((r ++ (b ∷ [])) ∷ [])))) in
        let c = ap (cut is_lf) f ∙ cut_held (ps ++ ((r ++ (b ∷ [])) ∷ [])) [] (finished_snoc ps (r ++ (b ∷ [])) (cut_ends t) (ends_lf r b (cut_open t) e)) has_none in
        ap (λ (x : Cut ℕ). length (concat x.pieces)) c ∙ ap length g ∙ length-append t (b ∷ [])

-- the last of the first n bytes
end_last : (h : List ℕ) (n : ℕ) → n ≤ length h → 0 < n → closed_length (take n h) ≡ cond (eqb (get_or h (n - 1) 0) 10) n (closed_length (take (n - 1) h))
end_last h zero p q = absurd (not-suc-le-zero q)
end_last h (suc n) p q =
    let m : suc n - 1 ≡ n = omega arith in
    rw m (ap closed_length (take-suc h n 0 (omega arith)) ∙ end_snoc (take n h) (get_or h n 0)
    ∙ ap (λ (x : ℕ). cond (eqb (get_or h n 0) 10) x (closed_length (take n h))) (ap (λ (x : ℕ). x + 1) (length-take-le n h (omega arith)) ∙ add-one n))

pub end_start : (h : List ℕ) → closed_length h ≡ closed_length (take (length h) h)
end_start h = ap closed_length (sym (take-length h))

module _ (h : List ℕ) (n : ℕ) (p : n ≤ length h) (inv : closed_length h ≡ closed_length (take n h)) where
  pub end_found : 0 < n → get_or h (n - 1) 0 ≡ 10 → n ≡ closed_length h
  end_found q e = sym (inv ∙ end_last h n p q ∙ ap (λ (b : Bool). cond b n (closed_length (take (n - 1) h))) (eq-eqb (get_or h (n - 1) 0) 10 e))

  pub end_again : 0 < n → (get_or h (n - 1) 0 ≡ 10 → ⊥) → closed_length h ≡ closed_length (take (n - 1) h)
  end_again q e = inv ∙ end_last h n p q ∙ ap (λ (b : Bool). cond b n (closed_length (take (n - 1) h))) (ne_eqb (get_or h (n - 1) 0) 10 e)

  pub end_none : n ≤ 0 → 0 ≡ closed_length h
  end_none q = let z : n ≡ 0 = omega arith in sym (inv ∙ ap (λ (j : ℕ). closed_length (take j h)) z)

-- ---- a line, and lines
module _ (kind : ℕ) (l : List ℕ) (a : Bool) (e : a ≡ blank_in kind l) where
  pub line_blank : a ≡ true → true ≡ (blank_in kind l || not (utf8 l))
  line_blank p = let k : blank_in kind l ≡ true = sym e ∙ p in rw k

  pub line_utf8 : (b : Bool) → a ≡ false → b ≡ utf8 l → not b ≡ (blank_in kind l || not (utf8 l))
  line_utf8 b p q = let k : blank_in kind l ≡ false = sym e ∙ p in rw k (ap not q)

module _ (kind : ℕ) (s t : List ℕ) (inv : lines_bad kind (lines_of s) ≡ lines_bad kind (lines_of t)) where
  pub lines_empty : length t ≤ 0 → false ≡ lines_bad kind (lines_of s)
  lines_empty h = sym (inv ∙ ap (lines_bad kind) (lines_end t h))

  module _ (h : 0 < length t) (k : ℕ) (e : k ≡ line_length t) (l : List ℕ) (f : l ≡ take k t) (b : Bool) (g : b ≡ (blank_in kind l || not (utf8 l))) where
    lines_step : lines_bad kind (lines_of s) ≡ (b || lines_bad kind (lines_of (drop k t)))
    lines_step =
        inv ∙ ap (lines_bad kind) (lines_cut t h) ∙ ap (λ (j : ℕ). lines_bad kind (take j t ∷ lines_of (drop j t))) (sym e)
        ∙ ap (λ (x : List ℕ). lines_bad kind (x ∷ lines_of (drop k t))) (sym f) ∙ ap (λ (x : Bool). x || lines_bad kind (lines_of (drop k t))) (sym g)

    pub lines_hit : b ≡ true → true ≡ lines_bad kind (lines_of s)
    lines_hit p = sym (lines_step ∙ ap (λ (x : Bool). x || lines_bad kind (lines_of (drop k t))) p)

    pub lines_again : (u : List ℕ) → b ≡ false → u ≡ drop k t → lines_bad kind (lines_of s) ≡ lines_bad kind (lines_of u)
    lines_again u p q =
        lines_step ∙ ap (λ (x : Bool). x || lines_bad kind (lines_of (drop k t))) p ∙ ap (λ (x : List ℕ). lines_bad kind (lines_of x)) (sym q)

-- ---- ASS: no finished line is no LF
end_lf : (h : List ℕ) → ltb 0 (closed_length h) ≡ has_lf h
end_lf h = go (has_lf h) refl
  where
    some : has_lf h ≡ true → (x : List ℕ) → concat (closed_lines h) ≡ x → 0 < length x
    some e (b ∷ x) q = omega arith
    some e [] q =
        absurd (true≢false (sym e ∙ ap has_lf (sym (cut_joined h) ∙ ap (λ (y : List ℕ). y ++ unfinished h) q) ∙ cut_open h))

    go : (b : Bool) → has_lf h ≡ b → ltb 0 (closed_length h) ≡ b
    go false e = ap (λ (c : Cut ℕ). ltb 0 (length (concat c.pieces))) (cut_rest h e)
    go true e = lt-ltb 0 (closed_length h) (some e (concat (closed_lines h)) refl)

-- ---- SRT and WebVTT: the lines of the bytes before that end are the finished lines
pub end_lines : (h : List ℕ) → lines_of (take (closed_length h) h) ≡ closed_lines h
end_lines h =
    ap lines_of (ap (take (closed_length h)) (sym (cut_joined h)) ∙ take-append_seam (concat (closed_lines h)) (unfinished h) ∙ sym (append-nil (concat (closed_lines h))))
    ∙ lines_back (closed_lines h) [] (cut_ends h) ∙ ap (λ (x : List (List ℕ)). closed_lines h ++ x) (lines_end [] (omega arith)) ∙ append-nil (closed_lines h)

-- ---- the tests
module _ (kind : ℕ) (h : List ℕ) where
  held_0 : kind ≡ 0 → held_bad kind h ≡ (ltb most_line (length h) || has_lf h)
  unfolding held_bad
  held_0 z = rw (eq-eqb kind 0 z)

  held_1 : (kind ≡ 0 → ⊥) → held_bad kind h ≡ (ltb most_block (closed_length h) || (lines_bad kind (closed_lines h) || ltb most_line (length (unfinished h))))
  unfolding held_bad
  held_1 z = rw (ne_eqb kind 0 z)

  pub held_long : kind ≡ 0 → most_line < length h → true ≡ held_bad kind h
  held_long z p = rw (held_0 z, lt-ltb most_line (length h) p)

  pub held_lf : (e : ℕ) → e ≡ closed_length h → kind ≡ 0 → length h ≤ most_line → ltb 0 e ≡ held_bad kind h
  held_lf e d z p = rw (held_0 z, le-ltb most_line (length h) p) (ap (ltb 0) d ∙ end_lf h)

  module _ (e : ℕ) (d : e ≡ closed_length h) (z : kind ≡ 0 → ⊥) where
    pub held_block : most_block < e → true ≡ held_bad kind h
    held_block p = let k : most_block < closed_length h = omega arith in rw (held_1 z, lt-ltb most_block (closed_length h) k)

    module _ (p : e ≤ most_block) (f : List ℕ) (q : f ≡ take e h) (b : Bool) (g : b ≡ lines_bad kind (lines_of f)) where
      same_lines : b ≡ lines_bad kind (closed_lines h)
      same_lines = g ∙ ap (λ (x : List ℕ). lines_bad kind (lines_of x)) (q ∙ ap (λ (j : ℕ). take j h) d) ∙ ap (lines_bad kind) (end_lines h)

      pub held_lines : b ≡ true → true ≡ held_bad kind h
      held_lines t =
          let k : closed_length h ≤ most_block = omega arith in
          let m : lines_bad kind (closed_lines h) ≡ true = sym same_lines ∙ t in
          rw (held_1 z, le-ltb most_block (closed_length h) k, m)

      pub held_rest : (n : ℕ) → b ≡ false → n ≡ length h - e → ltb most_line n ≡ held_bad kind h
      held_rest n t r =
          let k : closed_length h ≤ most_block = omega arith in
          let m : lines_bad kind (closed_lines h) ≡ false = sym same_lines ∙ t in
          let l : n ≡ length (unfinished h) = omega (arith, cut_length h) in
          rw (held_1 z, le-ltb most_block (closed_length h) k, m) (ap (ltb most_line) l)

-- more than the room can hold is no session's, whatever the kind
held_small : (kind : ℕ) (h : List ℕ) → held_bad kind h ≡ false → length h ≤ most_held
held_small zero h e = let z = ltb-false most_line (length h) (or_left (ltb most_line (length h)) (has_lf h) (sym (held_0 0 h refl) ∙ e)) in omega arith
held_small (suc k) h e =
    let f = sym (held_1 (suc k) h (λ q. absurd (omega arith))) ∙ e in
    let x = or_left (ltb most_block (closed_length h)) (lines_bad (suc k) (closed_lines h) || ltb most_line (length (unfinished h))) f in
    let y = or_right (ltb most_block (closed_length h)) (lines_bad (suc k) (closed_lines h) || ltb most_line (length (unfinished h))) f in
    let w = or_right (lines_bad (suc k) (closed_lines h)) (ltb most_line (length (unfinished h))) y in
    omega (arith, ltb-false most_block (closed_length h) x, ltb-false most_line (length (unfinished h)) w, cut_length h)

pub held_large : (kind : ℕ) (h : List ℕ) → most_held < length h → held_bad kind h ≡ true
held_large kind h p = go (held_bad kind h) refl
  where
    go : (c : Bool) → held_bad kind h ≡ c → c ≡ true
    go true e = refl
    go false e = absurd (let q = held_small kind h e in omega arith)
