-- One call over the bytes of a session that open and the calls lead to: it is the call on the session itself, and leaves the bytes of the next one.
use mathlib.Core.Path.{◌≡◌, refl, sym, ap, ap₂, ◌∙◌}
use mathlib.Core.Logic.{inl, inr}
use mathlib.Core.Bool.{Bool, true, false, ◌||◌, cond, true≢false}
use mathlib.Core.List.{List, [], ◌∷◌, ◌++◌, append-nil}
use Prim.Native.Nat.{ℕ, suc, ◌≤◌}
use lib.ListN.{length, drop}
use lib.Seq.{drop-length}
use native.Mathlib.Omega.{arith}
use borrow.Author.Tests.{eqb-true}
use Rattle.spec_base.specs.base.Put.{put}
use Rattle.spec_base.proofs.base.RefusalLaws.{else_none}
use Rattle.spec_base.proofs.base.PutLaws.{put_nil}
use Rattle.spec_caption.specs.caption_fate.Emit.{Emit, output_of, warnings_of, places_of}
use Rattle.spec_machine.specs.session_counts.Session.{Call, feed, finish, Gate, refuse, admit, Answer, accepted, respond}
use Rattle.spec_machine.specs.session_counts.Session as model
use Rattle.spec_ass.specs.declared.ass_columns.Columns.{Columns}
use Rattle.spec_machine.proofs.session_counts.Numbers.{OfText, accepted_number, call_number_lem, refused_same}
use Rattle.spec_machine.specs.kinds.Kit.{kit}
use Rattle.spec_session.specs.declared.session_state.Session.{Session}
use Rattle.spec_session.specs.session_state.View.{view, foreign_of}
use Rattle.spec_session.specs.session.SessionCalls.{answer_of, next_of, session_gate, next_by}
use Rattle.spec_session.proofs.session.CallLaws.{answer_by}
use Rattle.spec_parking.specs.parking.Parked.{parked_of, session_in}
use Rattle.spec_parking.specs.parking.Parkings.{take_number}
use Rattle.spec_parking.proofs.parking.Kept.{parked_again, parked_length}
use Rattle.spec_parking.specs.session_bytes.ByteCalls.{refuses, call_number, empty_piece, bytes_after, text_out, places_in}
use Rattle.spec_parking.proofs.session_bytes.NumberLaws.{refuses_between}
use Rattle.spec_runs.proofs.parkruns.Tidy.{Tidy}

-- ---- a refused call returns the session as it came
not_text : {A : Type 0} (k : ℕ) → OfText k → 15 ≤ k → k ≤ 18 → A
not_text k (inl e) l h = absurd (omega arith)
not_text k (inr (inl g)) l h = absurd (omega (arith, g.0))
not_text k (inr (inr e)) l h = absurd (omega arith)

module _ (s : Session) (x : Call) (t : refuses (answer_of s x).number ≡ true) where
  between : (15 ≤ (answer_of s x).number) × ((answer_of s x).number ≤ 18)
  unfolding answer_of
  between = refuses_between (answer_of s x).number (call_number_lem kit (view s) x) t

  pub none_emitted : (answer_of s x).emits ≡ []
  unfolding answer_of
  none_emitted = (refused_same kit (view s) x between.0 between.1).1

  by_gate : (g : Gate) → session_gate s x ≡ g → next_by g s x (answer_of s x).session ≡ s
  by_gate (refuse k) e = refl
  by_gate admit e =
      let n : (answer_of s x).number ≡ (accepted kit (view s) x).number = ap (λ (a : Answer Columns). a.number) (answer_by s x ∙ ap (λ (g : Gate). respond kit g (view s) x) e) in
      not_text (accepted kit (view s) x).number (accepted_number kit (view s) x) (omega (arith, n, between.0)) (omega (arith, n, between.1))

  pub stays : next_of s x ≡ s
  unfolding next_of
  stays = by_gate (session_gate s x) refl

-- ---- so does an empty piece
empty_gate : (g : Gate) (s : Session) (x : Call) (t : model.Session Columns) → empty_piece x ≡ true → next_by g s x t ≡ s
empty_gate (refuse k) s x t e = refl
empty_gate admit s (feed l []) t e = refl
empty_gate admit s (feed l (b ∷ p)) t e = absurd (let z : suc (length p) ≡ 0 = eqb-true (suc (length p)) 0 e in omega arith)
empty_gate admit s (finish l) t e = absurd (true≢false (sym e))

empty_same : (s : Session) (x : Call) → empty_piece x ≡ true → next_of s x ≡ s
unfolding next_of
empty_same s x e = empty_gate (session_gate s x) s x (answer_of s x).session e

-- ---- bytes that fill their place
put_whole : (v l : List ℕ) → length v ≡ length l → put v l ≡ v
unfolding put
put_whole v l e = ap (λ (n : ℕ). v ++ drop n l) e ∙ ap (λ (r : List ℕ). v ++ r) (drop-length l) ∙ append-nil v

-- ---- the bytes of a session that is not foreign and comes back equal
module _ (s : Session) (native : foreign_of s ≡ false) (tidy : Tidy s) where
  took : take_number (parked_of 2 s) ≡ 0
  took = (parked_again 2 s (inr refl) native).answer

  pub names : session_in (parked_of 2 s) ≡ s
  names = (parked_again 2 s (inr refl) native).same ∙ tidy

  module _ (x : Call) where
    pub number_is : call_number (parked_of 2 s) x ≡ (answer_of s x).number
    unfolding call_number
    number_is = else_none (answer_of (session_in (parked_of 2 s)) x).number took ∙ ap (λ (y : Session). (answer_of y x).number) names

    by_number : {A : Type 0} (f : Session → A) (e : A) → (refuses (answer_of s x).number ≡ true → f s ≡ e) → cond (refuses (call_number (parked_of 2 s) x)) e (f (session_in (parked_of 2 s))) ≡ f s
    by_number f e h = ap₂ (λ (n : ℕ) (y : Session). cond (refuses n) e (f y)) number_is names ∙ go (refuses (answer_of s x).number) refl
      where
        go : (t : Bool) → refuses (answer_of s x).number ≡ t → cond t e (f s) ≡ f s
        go true q = sym (h q)
        go false q = refl

    nothing_out : output_of [] ≡ []
    unfolding output_of
    nothing_out = refl

    nothing_told : places_of (warnings_of []) ≡ []
    unfolding warnings_of places_of
    nothing_told = refl

    pub text_is : text_out (parked_of 2 s) x ≡ output_of (answer_of s x).emits
    unfolding text_out
    text_is = by_number (λ (y : Session). output_of (answer_of y x).emits) [] (λ t. ap output_of (none_emitted s x t) ∙ nothing_out)

    pub places_are : places_in (parked_of 2 s) x ≡ places_of (warnings_of (answer_of s x).emits)
    unfolding places_in
    places_are = by_number (λ (y : Session). places_of (warnings_of (answer_of y x).emits)) [] (λ t. ap (λ (l : List Emit). places_of (warnings_of l)) (none_emitted s x t) ∙ nothing_told)

    pub bytes_are : foreign_of (next_of s x) ≡ false → bytes_after (parked_of 2 s) x ≡ parked_of 2 (next_of s x)
    unfolding bytes_after
    bytes_are after =
        ap₂ (λ (n : ℕ) (y : Session). put (cond (refuses n || empty_piece x) [] (parked_of 2 (next_of y x))) (parked_of 2 s)) number_is names
        ∙ go (refuses (answer_of s x).number) (empty_piece x) refl refl
      where
        go : (t u : Bool) → refuses (answer_of s x).number ≡ t → empty_piece x ≡ u → put (cond (t || u) [] (parked_of 2 (next_of s x))) (parked_of 2 s) ≡ parked_of 2 (next_of s x)
        go true u q r = put_nil (parked_of 2 s) ∙ ap (parked_of 2) (sym (stays s x q))
        go false true q r = put_nil (parked_of 2 s) ∙ ap (parked_of 2) (sym (empty_same s x r))
        go false false q r = put_whole (parked_of 2 (next_of s x)) (parked_of 2 s) (parked_length (next_of s x) after 2 (inr refl) ∙ sym (parked_length s native 2 (inr refl)))
