-- No call of a run from a session that open answered with 0 is answered 17: the sessions that calls return are never foreign.
use mathlib.Core.Path.{◌≡◌, sym, ap, subst, ◌∙◌}
use mathlib.Core.Logic.{inl, inr}
use mathlib.Core.Bool.{Bool, true, false}
use mathlib.Core.List.{List, [], ◌∷◌, ◌++◌}
use Prim.Native.Nat.{ℕ}
use native.Mathlib.Omega.{arith}
use lib.ListN.{length}
use Rattle.spec_time.specs.caption_time.Kind.{kind_bad}
use Rattle.spec_map.specs.segment.Segment.{map_bad}
use Rattle.spec_machine.specs.session_counts.Cut.{closed_lines, unfinished}
use Rattle.spec_machine.specs.session_counts.Reader.{Reading}
use Rattle.spec_machine.specs.session_counts.Session.{Call, feed, finish, lent_of, argument_bad, gate}
use Rattle.spec_machine.specs.session_counts.Calls.{Proper, Reader, ReaderAnswer, new_reader, reader_accepts, reader_answer, hear}
use Rattle.spec_machine.proofs.session_counts.ReaderGate.{reader_responds, reader_gated}
use Rattle.spec_machine.proofs.session_counts.Numbers.{OfText, lines_number, opened}
use Rattle.spec_machine.specs.kinds.Takes.{machine_of, blank_state}
use Rattle.spec_machine.specs.kinds.Kit.{kit}
use Rattle.spec_session.specs.declared.session.Opened.{Opened}
use Rattle.spec_session.specs.session.SessionCalls.{OpenAnswered, open_of}
use Rattle.promise.specs.Plain.{plain_read}
use Rattle.promise.specs.Runs.{Made, calls_of, Ran, outcome}
use Rattle.promise.specs.Promise.{config_of}
use Rattle.promise.proofs.PlainText.{said_plain}
use Rattle.promise.proofs.TheDemand.{demand_opened}

-- none of the numbers is 17
abbrev pub Not17 : List ℕ → Type 0
Not17 [] = Unit {0}
Not17 (k ∷ ks) = (k ≡ 17 → ⊥) × Not17 ks

plain_number_lem : (kind : ℕ) → kind_bad kind ≡ false → (f : Bool) (t : List ℕ) → OfText (plain_read kind f t).fault
plain_number_lem kind k f t =
    subst (λ (r : Reading). OfText r.fault) (said_plain kind k f t)
    (lines_number (machine_of kind) f (closed_lines t) (unfinished t) blank_state 0)

-- ---- the reader's numbers
text_not_17 : (k : ℕ) → OfText k → k ≡ 17 → ⊥
text_not_17 k (inl e) z = omega arith
text_not_17 k (inr (inl h)) z = omega (arith, h.0)
text_not_17 k (inr (inr h)) z = omega (arith, h)

module _ (read : Bool → List ℕ → Reading) (texts : (f : Bool) (t : List ℕ) → OfText (read f t).fault) where
  accepts_number : (r : Reader) (x : Call) → OfText (reader_accepts read r x).number
  accepts_number r (feed l piece) = texts false (r.text ++ piece)
  accepts_number r (finish l) = texts true r.text

  by_gate : (e m a : Bool) (r : Reader) (x : Call) → (reader_responds read (gate false e m a) r x).number ≡ 17 → ⊥
  by_gate true m a r x z = let y : ◌≡◌ {A = ℕ} 18 17 = z in omega arith
  by_gate false true a r x z = let y : ◌≡◌ {A = ℕ} 15 17 = z in omega arith
  by_gate false false true r x z = let y : ◌≡◌ {A = ℕ} 16 17 = z in omega arith
  by_gate false false false r x z = text_not_17 (reader_accepts read r x).number (accepts_number r x) z

  heard_17 : (r : Reader) (xs : List Call) → Not17 (hear read r xs).numbers
  heard_17 r [] = tt
  heard_17 r (x ∷ xs) =
      (λ z. by_gate r.ended (map_bad (lent_of x).map) (argument_bad (length r.text) x) r x (sym (ap (λ (a : ReaderAnswer). a.number) (reader_gated read r x)) ∙ z), heard_17 (reader_answer read r x).reader xs)

-- ---- the run
known : (kind T : ℕ) (m : List ℕ) (o : Opened) → OpenAnswered kind T m o → o.number ≡ 0 → kind_bad kind ≡ false
unfolding open_of
known kind T m o a z = (opened kit (config_of kind T) m (sym a.number ∙ z)).kind_known

pub never_foreign : (kind T : ℕ) (m : List ℕ) (o : Opened) → OpenAnswered kind T m o → o.number ≡ 0
    → (cs : List Made) → Proper m (calls_of cs) → Ran o.session cs → Not17 (outcome o.session cs).numbers
never_foreign kind T m o a z cs p r =
    subst Not17 (sym (demand_opened kind T m o a z cs p r).same.numbers)
    (heard_17 (λ f t. plain_read kind f t) (plain_number_lem kind (known kind T m o a z)) new_reader (calls_of cs))
