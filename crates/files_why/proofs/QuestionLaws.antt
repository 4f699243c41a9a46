-- Laws of the questions.
use mathlib.Core.Path.{◌≡◌, sym, ap, ◌∙◌}
use mathlib.Core.List.{List}
use Prim.Native.Nat.{ℕ}
use Rattle.std.specs.Prelude.{Result, Ok, Err, None, Some}
use Rattle.std.specs.declared.option.Option.{Option}
use Rattle.spec_text.specs.whitespace.White.{trim}
use Rattle.spec_time.specs.declared.caption_stamp.Stamp.{Stamp}
use Rattle.spec_time.specs.caption_stamp.Read.{time_in}
use Rattle.files_why.specs.declared.question.Question.{Question}
use Rattle.files_why.specs.declared.question.Unread.{Unread}
use Rattle.files_why.specs.declared.question.Unread.TheVariants.{Kind, Times}
use Rattle.files_why.specs.Question.{kind_of, word_of, behind_word, both_read, asked_by, question_of}

pub trimmed_past : (t u r : List ℕ) → r ≡ trim u → u ≡ t → r ≡ trim t
trimmed_past t u r e p = e ∙ ap trim p

-- ---- a line
module _ (l t w : List ℕ) (k : Option ℕ) (et : t ≡ trim l) (ew : w ≡ word_of t) (ek : k ≡ kind_of w) where
  kind_is : k ≡ kind_of (word_of (trim l))
  kind_is = ek ∙ ap kind_of (ew ∙ ap word_of et)

  by_kind : (v : Result Question Unread) → v ≡ asked_by k (behind_word t) → v ≡ question_of l
  unfolding question_of
  by_kind v e = e ∙ ap (λ (o : Option ℕ). asked_by o (behind_word t)) kind_is ∙ ap (λ (s : List ℕ). asked_by (kind_of (word_of (trim l))) (behind_word s)) et

  pub kind_unread : k ≡ None → ◌≡◌ {A = Result Question Unread} (Err Kind) (question_of l)
  kind_unread h = by_kind (Err Kind) (ap (λ (o : Option ℕ). asked_by o (behind_word t)) (sym h))

  pub line_read : (kind : ℕ) (u f g : List ℕ) (x y : Option Stamp) (v : Result Question Unread) → k ≡ Some kind → u ≡ behind_word t → f ≡ word_of u → x ≡ time_in kind f → g ≡ behind_word u → y ≡ time_in kind g
      → v ≡ both_read kind x y → v ≡ question_of l
  line_read kind u f g x y v h eu ef ex eg ey ev =
      let p : x ≡ time_in kind (word_of (behind_word t)) = ex ∙ ap (time_in kind) (ef ∙ ap word_of eu) in
      let q : y ≡ time_in kind (behind_word (behind_word t)) = ey ∙ ap (time_in kind) (eg ∙ ap behind_word eu) in
      by_kind v
      (ev ∙ ap (λ (z : Option Stamp). both_read kind z y) p ∙ ap (both_read kind (time_in kind (word_of (behind_word t)))) q ∙ ap (λ (o : Option ℕ). asked_by o (behind_word t)) (sym h))
