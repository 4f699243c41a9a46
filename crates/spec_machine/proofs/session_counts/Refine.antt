-- From the contracts to the list: any run of calls, each of whose results is as its contract says, plays as the model plays.
use mathlib.Core.Path.{◌≡◌, refl, ap, ap₂, ◌∙◌}
use mathlib.Core.List.{List, [], ◌∷◌, ◌++◌}
use Prim.Native.Nat.{ℕ}
use Rattle.spec_caption.specs.caption_fate.Emit.{Warning, output_of, warnings_of}
use Rattle.spec_machine.specs.session_counts.Session.{Session, Kit, Call, answer}
use Rattle.spec_machine.specs.session_counts.Calls.{Played, play}

-- C is the sessions as the code has them: what a call returned, and what it wrote into what it was lent
pub record Returned (C : Type 0) : Type 0 where
  pub number : ℕ
  pub session : C
  pub output : List ℕ
  pub warnings : List Warning

module _ {σ κ C : Type 0} (K : Kit σ κ) (view : C → Session κ) where
  -- what the contracts of feed and finish say of a call
  pub record Answers (s : C) (x : Call) (a : Returned C) : Type 0 where
    pub number : a.number ≡ (answer K (view s) x).number
    pub session : view a.session ≡ (answer K (view s) x).session
    pub output : a.output ≡ output_of (answer K (view s) x).emits
    pub warnings : a.warnings ≡ warnings_of (answer K (view s) x).emits

  -- a run: each call is given the session that the last call returned
  pub data Trace : C → List Call → List (Returned C) → Type 0 where
    done : {s : C} → Trace s [] []
    next : {s : C} {x : Call} {a : Returned C} {xs : List Call} {rs : List (Returned C)}
        → Answers s x a → Trace a.session xs rs → Trace s (x ∷ xs) (a ∷ rs)

  -- its numbers, its last session, and what it wrote, joined in order
  abbrev pub traced : C → List (Returned C) → Played κ
  traced s [] = record { numbers = []; session = view s; output = []; warnings = [] }
  traced s (a ∷ rs) =
      record {
        numbers = a.number ∷ (traced a.session rs).numbers;
        session = (traced a.session rs).session;
        output = a.output ++ (traced a.session rs).output;
        warnings = a.warnings ++ (traced a.session rs).warnings;
      }

  abbrev joined : ℕ → List ℕ → List Warning → Played κ → Played κ
  joined k o w p = record { numbers = k ∷ p.numbers; session = p.session; output = o ++ p.output; warnings = w ++ p.warnings }

  one : (s : C) (x : Call) (a : Returned C) (xs : List Call) (rs : List (Returned C)) → Answers s x a
      → traced a.session rs ≡ play K (view a.session) xs → traced s (a ∷ rs) ≡ play K (view s) (x ∷ xs)
  one s x a xs rs t e =
      ap (joined a.number a.output a.warnings) (e ∙ ap (λ (y : Session κ). play K y xs) t.session)
      ∙ ap (λ (k : ℕ). joined k a.output a.warnings later) t.number
      ∙ ap₂ (λ (o : List ℕ) (w : List Warning). joined (answer K (view s) x).number o w later) t.output t.warnings
    where
      later : Played κ
      later = play K (answer K (view s) x).session xs

  pub trace_plays : {s : C} {xs : List Call} {rs : List (Returned C)} → Trace s xs rs → traced s rs ≡ play K (view s) xs
  trace_plays done = refl
  trace_plays (next {s = s} {x = x} {a = a} {xs = xs} {rs = rs} t r) = one s x a xs rs t (trace_plays r)
