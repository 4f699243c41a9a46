-- A pass over pieces, call by call.
use mathlib.Core.Path.{◌≡◌, refl, sym, ap, subst, ◌∙◌}
use mathlib.Core.List.{List, [], ◌∷◌}
use Rattle.std.specs.Prelude.{Result, Ok, Err, IfOk}
use Prim.Native.Nat.{ℕ, ◌≤◌}
use lib.ListN.{length, take, length-take}
use native.Mathlib.Omega.{arith}
use Rattle.spec_base.proofs.base.RefusalLaws.{else_none, else_found}
use Rattle.spec_session.specs.declared.session_state.Session.{Session}
use Rattle.spec_session.specs.declared.session.Fed.{Fed}
use Rattle.spec_session.specs.session.SessionCalls.{Answered, feed_call, finish_call, answer_of, next_of}
use Rattle.files_retime.specs.Retimed.{feeding, finishing, pass_number, Sized, Passes}

pub piece_fits : (n : ℕ) (q : List ℕ) → length q ≡ 1024 → length (take n q) ≤ 1024
piece_fits n q e = omega (arith, length-take n q)

-- what is left to feed from t on gives a number of the whole
abbrev pub Onward : Session → (map : List ℕ) → Session → Type 0
Onward s m t = (ps : List (List ℕ)) → Sized ps → Passes s m (pass_number t m ps)

pub onward_start : (s : Session) (m : List ℕ) → Onward s m s
onward_start s m ps z = record { pieces = ps; sized = z; number = refl }

module _ (s : Session) (m : List ℕ) (t : Session) (on : Onward s m t) where
  -- the text has ended
  pub onward_end : (o w k : ℕ) → o ≡ 32768 → w ≡ 4096 → k ≡ (answer_of t (finish_call m o w)).number → Passes s m k
  unfolding pass_number
  onward_end o w k p q e =
      let f : k ≡ (answer_of t (finishing m)).number =
      e ∙ ap (λ (x : ℕ). (answer_of t (finish_call m x w)).number) p ∙ ap (λ (x : ℕ). (answer_of t (finish_call m 32768 x)).number) q in
      subst (Passes s m) (sym f) (on [] tt)

  -- one more piece: the call, as it was lent
  piece_number : (p : List ℕ) (o w : ℕ) (r : Fed) (out out' places places' : List ℕ) → o ≡ 32768 → w ≡ 4096 → Answered t (feed_call m p o w) r out out' places places'
      → r.number ≡ (answer_of t (feeding m p)).number
  piece_number p o w r out out' places places' e f a = a.number ∙ ap (λ (x : ℕ). (answer_of t (feed_call m p x w)).number) e ∙ ap (λ (x : ℕ). (answer_of t (feed_call m p 32768 x)).number) f

  piece_session : (p : List ℕ) (o w : ℕ) (r : Fed) (out out' places places' : List ℕ) → o ≡ 32768 → w ≡ 4096 → Answered t (feed_call m p o w) r out out' places places'
      → r.session ≡ next_of t (feeding m p)
  piece_session p o w r out out' places places' e f a = a.session ∙ ap (λ (x : ℕ). next_of t (feed_call m p x w)) e ∙ ap (λ (x : ℕ). next_of t (feed_call m p 32768 x)) f

  -- a fault ends the pass
  pub onward_fault : (p : List ℕ) (o w : ℕ) (r : Fed) (out out' places places' : List ℕ) → o ≡ 32768 → w ≡ 4096 → Answered t (feed_call m p o w) r out out' places places'
      → length p ≤ 1024 → (r.number ≡ 0 → ⊥) → Passes s m r.number
  unfolding pass_number
  onward_fault p o w r out out' places places' e f a z h =
      let n : r.number ≡ (answer_of t (feeding m p)).number = piece_number p o w r out out' places places' e f a in
      let q : pass_number t m (p ∷ []) ≡ (answer_of t (feeding m p)).number = else_found _ _ (λ x. h (n ∙ x)) in
      subst (Passes s m) (q ∙ sym n) (on (p ∷ []) (z, tt))

  -- else the rest goes on from the session that came back
  pub onward_turn : (p : List ℕ) (o w : ℕ) (r : Fed) (out out' places places' : List ℕ) → o ≡ 32768 → w ≡ 4096 → Answered t (feed_call m p o w) r out out' places places'
      → length p ≤ 1024 → r.number ≡ 0 → Onward s m r.session
  unfolding pass_number
  onward_turn p o w r out out' places places' e f a z h ps k =
      let n : (answer_of t (feeding m p)).number ≡ 0 = sym (piece_number p o w r out out' places places' e f a) ∙ h in
      let q : pass_number t m (p ∷ ps) ≡ pass_number (next_of t (feeding m p)) m ps = else_none _ n in
      let v : pass_number (next_of t (feeding m p)) m ps ≡ pass_number r.session m ps = ap (λ (x : Session). pass_number x m ps) (sym (piece_session p o w r out out' places places' e f a)) in
      subst (Passes s m) (q ∙ v) (on (p ∷ ps) (z, k))

-- what holds of an answer holds of what follows from it
pub answer_to : {E : Type 0} (r : Result ℕ E) (P Q : ℕ → Type 0) → ((v : ℕ) → P v → Q v) → IfOk r P → IfOk r Q
answer_to (Ok v) P Q f h = f v h
answer_to (Err e) P Q f h = tt
