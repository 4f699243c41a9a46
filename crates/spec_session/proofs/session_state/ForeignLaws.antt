-- 17: its tests in order.
use mathlib.Core.Path.{◌≡◌, refl, sym, ap, ◌∙◌}
use mathlib.Core.Bool.{Bool, true, false, ◌||◌}
use mathlib.Core.List.{List}
use Prim.Native.Nat.{ℕ, ◌≤◌, ◌<◌}
use native.Mathlib.Omega.{arith}
use lib.Dec.{ltb}
use lib.ListN.{length, take}
use borrow.Author.Tests.{lt-ltb, le-ltb}
use Rattle.spec_base.specs.base.Limits.{most_taken, most_held, most_line}
use Rattle.spec_ass.specs.declared.ass_columns.Columns.{Columns}
use Rattle.spec_base.proofs.base.Laws.{or_right}
use Rattle.spec_text.specs.text.Line.{has_lf, line_count}
use Rattle.spec_machine.specs.session_counts.Cut.{Cut, closed_lines}
use Rattle.spec_machine.specs.session_counts.Session.{config_bad, counts_above, outcome_bad}
use Rattle.spec_machine.proofs.session_counts.CutLaws.{cut_rest}
use Rattle.spec_machine.specs.session_counts.Session as model
use Rattle.spec_machine.specs.kinds.Kit.{kit, columns_bad, held_bad, strange}
use Rattle.spec_machine.proofs.kinds.KindLaws.{held_ass}
use Rattle.spec_session.specs.declared.session_state.Session.{Session}
use Rattle.spec_session.specs.declared.session_state.Head.{Head}
use Rattle.spec_session.specs.session_state.Head.{view_of}
use Rattle.spec_session.specs.session_state.View.{held_of, foreign_of}
use Rattle.spec_session.proofs.session_state.HeldLaws.{held_large}
use Rattle.spec_session.proofs.session_state.MarkLaws.{or_none}
use Rattle.spec_session.proofs.session_state.ViewLaws.{held_length, held_plain, foreign_view}

-- ---- the outcome, the columns and the held bytes
abbrev pub marks_bad : (ended : Bool) → (outcome lines : ℕ) → (held : List ℕ) → Bool
marks_bad e k l held = outcome_bad e k || ltb l (line_count (closed_lines held))

module _ (e : Bool) (k l : ℕ) (held : List ℕ) (a : Bool) (f : a ≡ outcome_bad e k) where
  pub marks_outcome : a ≡ true → true ≡ marks_bad e k l held
  marks_outcome p = let q : outcome_bad e k ≡ true = sym f ∙ p in rw q

  pub marks_lines : (n : ℕ) → a ≡ false → n ≡ line_count (closed_lines held) → ltb l n ≡ marks_bad e k l held
  marks_lines n p g = let q : outcome_bad e k ≡ false = sym f ∙ p in rw q (ap (ltb l) g)

abbrev pub kept_bad : (kind taken : ℕ) → Columns → (ended : Bool) → (outcome lines : ℕ) → (held : List ℕ) → Bool
kept_bad kind taken c e k l held = ltb taken (length held) || (strange kind c held || marks_bad e k l held)

module _ (kind taken : ℕ) (c : Columns) (ended : Bool) (outcome lines : ℕ) (held : List ℕ) where
  pub kept_many : taken < length held → true ≡ kept_bad kind taken c ended outcome lines held
  kept_many p = rw (lt-ltb taken (length held) p)

  module _ (p : length held ≤ taken) (a : Bool) (e : a ≡ columns_bad c) where
    pub kept_columns : a ≡ true → true ≡ kept_bad kind taken c ended outcome lines held
    kept_columns q = let k : columns_bad c ≡ true = sym e ∙ q in rw (le-ltb taken (length held) p, k)

    module _ (q : a ≡ false) (b : Bool) (g : b ≡ held_bad kind held) where
      pub kept_held : b ≡ true → true ≡ kept_bad kind taken c ended outcome lines held
      kept_held h =
          let k : columns_bad c ≡ false = sym e ∙ q in
          let y : held_bad kind held ≡ true = sym g ∙ h in
          rw (le-ltb taken (length held) p, k, y)

      pub kept_marks : (x : Bool) → b ≡ false → x ≡ marks_bad ended outcome lines held → x ≡ kept_bad kind taken c ended outcome lines held
      kept_marks x h w =
          let k : columns_bad c ≡ false = sym e ∙ q in
          let y : held_bad kind held ≡ false = sym g ∙ h in
          rw (le-ltb taken (length held) p, k, y) w

      -- ASS holds no LF
      pub kept_ass : (x : Bool) → b ≡ false → kind ≡ 0 → x ≡ outcome_bad ended outcome → x ≡ kept_bad kind taken c ended outcome lines held
      kept_ass x h i w =
          let y : (ltb most_line (length held) || has_lf held) ≡ false = sym (held_ass held) ∙ ap (λ (j : ℕ). held_bad j held) (sym i) ∙ sym g ∙ h in
          let none : line_count (closed_lines held) ≡ 0 = ap (λ (y : Cut ℕ). line_count y.pieces) (cut_rest held (or_right (ltb most_line (length held)) (has_lf held) y)) in
          let low : ltb lines (line_count (closed_lines held)) ≡ false = le-ltb lines (line_count (closed_lines held)) (omega arith) in
          kept_marks x h (w ∙ or_none (outcome_bad ended outcome) ∙ ap (λ (t : Bool). outcome_bad ended outcome || t) (sym low))

-- ---- the whole
module _ (s : Head) (held : List ℕ) where
  abbrev Foreign : Bool
  Foreign = model.foreign kit (view_of s held)

  module _ (a : Bool) (e : a ≡ config_bad s.config) where
    pub foreign_config : a ≡ true → true ≡ Foreign
    foreign_config p = let k : config_bad s.config ≡ true = sym e ∙ p in rw k

    module _ (p : a ≡ false) where
      after_config : config_bad s.config ≡ false
      after_config = sym e ∙ p

      pub foreign_taken : most_taken < s.taken → true ≡ Foreign
      foreign_taken q = rw (after_config, lt-ltb most_taken s.taken q)

      module _ (q : s.taken ≤ most_taken) (b : Bool) (f : b ≡ counts_above s.taken s.counts) where
        pub foreign_counts : b ≡ true → true ≡ Foreign
        foreign_counts r = let k : counts_above s.taken s.counts ≡ true = sym f ∙ r in rw (after_config, le-ltb most_taken s.taken q, k)

        module _ (r : b ≡ false) where
          after_counts : counts_above s.taken s.counts ≡ false
          after_counts = sym f ∙ r

          pub foreign_lines : s.taken < s.lines → true ≡ Foreign
          foreign_lines t = rw (after_config, le-ltb most_taken s.taken q, after_counts, lt-ltb s.taken s.lines t)

          pub foreign_kept : (k : Bool) → s.lines ≤ s.taken → k ≡ kept_bad s.config.kind s.taken s.columns s.ended s.outcome s.lines held → k ≡ Foreign
          foreign_kept k t g = rw (after_config, le-ltb most_taken s.taken q, after_counts, le-ltb s.taken s.lines t) g

-- ---- a session with its room
abbrev numbers_of : Session → Head
numbers_of s =
    record {
      config = s.config;
      ended = s.ended;
      outcome = s.outcome;
      taken = s.taken;
      lines = s.lines;
      counts = s.counts;
      columns = s.columns;
      held_len = s.held_len;
    }

later : (t u : Bool) → u ≡ true → (t || u) ≡ true
later true u e = refl
later false u e = e

module _ (s : Session) where
  -- a session that claims more than its room
  pub foreign_large : most_held < s.held_len → true ≡ foreign_of s
  foreign_large p =
      let held = held_of s.held_len s.held in
      let h : held_bad s.config.kind held ≡ true = held_large s.config.kind held (omega (arith, held_length s.held_len s.held)) in
      let bad : strange s.config.kind s.columns held ≡ true = later (columns_bad s.columns) (held_bad s.config.kind held) h in
      let rest : (strange s.config.kind s.columns held || marks_bad s.ended s.outcome s.lines held) ≡ true = ap (λ (t : Bool). t || marks_bad s.ended s.outcome s.lines held) bad in
      sym
      (foreign_view s ∙ later (config_bad s.config) _
      (later (ltb most_taken s.taken) _ (later (counts_above s.taken s.counts) _ (later (ltb s.taken s.lines) _ (later (ltb s.taken (length held)) _ rest)))))

  pub foreign_plain : (l : List ℕ) (t : Bool) → s.held_len ≤ most_held → length s.held ≡ most_held → l ≡ take s.held_len s.held → t ≡ model.foreign kit (view_of (numbers_of s) l) → t ≡ foreign_of s
  foreign_plain l t p q e f =
      f ∙ ap (λ (h : List ℕ). model.foreign kit (view_of (numbers_of s) h)) (e ∙ sym (held_plain s.held_len s.held (omega arith))) ∙ sym (foreign_view s)
