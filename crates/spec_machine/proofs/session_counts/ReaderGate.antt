-- The plain reader's own refusals are those of a session that is not foreign.
use mathlib.Core.Path.{◌≡◌, refl, ap, ◌∙◌}
use mathlib.Core.Bool.{Bool, true, false, not, ◌||◌}
use mathlib.Core.List.{List}
use Prim.Native.Nat.{ℕ, ◌+◌}
use lib.Dec.{ltb}
use lib.ListN.{length}
use Rattle.spec_base.specs.base.Limits.{most_piece, least_output, least_places, most_taken}
use Rattle.spec_base.specs.base.Refusal.{◌or_else◌, fault_unless}
use Rattle.spec_map.specs.segment.Segment.{map_bad}
use Rattle.spec_machine.specs.session_counts.Reader.{Reading}
use Rattle.spec_machine.specs.session_counts.Session.{Call, lent_of, piece_of, argument_bad, Gate, refuse, admit, gate}
use Rattle.spec_machine.specs.session_counts.Calls.{Reader, ReaderAnswer, reader_accepts, reader_refusal, reader_by, reader_answer}
use Rattle.spec_base.proofs.base.Laws.{leb_not}

abbrev refused_by_lem : Gate → ℕ
refused_by_lem (refuse k) = k
refused_by_lem admit = 0

abbrev tests : (e m a b c d : Bool) → ℕ
tests e m a b c d =
    fault_unless e 18 or_else fault_unless m 15 or_else fault_unless a 16 or_else fault_unless b 16 or_else fault_unless c 16 or_else fault_unless d 16

tests_gate : (e m a b c d : Bool) → tests (not e) (not m) (not a) (not b) (not c) (not d) ≡ refused_by_lem (gate false e m (a || (b || (c || d))))
unfolding ◌or_else◌ fault_unless
tests_gate true m a b c d = refl
tests_gate false true a b c d = refl
tests_gate false false true b c d = refl
tests_gate false false false true c d = refl
tests_gate false false false false true d = refl
tests_gate false false false false false true = refl
tests_gate false false false false false false = refl

refusal_gate : (r : Reader) (x : Call) → reader_refusal r x ≡ refused_by_lem (gate false r.ended (map_bad (lent_of x).map) (argument_bad (length r.text) x))
unfolding reader_refusal
refusal_gate r x =
    rw
    (leb_not (length (piece_of x)) most_piece, leb_not least_output (lent_of x).out_length, leb_not least_places (lent_of x).place_count, leb_not (length r.text + length (piece_of x)) most_taken)
    (tests_gate r.ended (map_bad (lent_of x).map) (ltb most_piece (length (piece_of x))) (ltb (lent_of x).out_length least_output)
    (ltb (lent_of x).place_count least_places) (ltb most_taken (length r.text + length (piece_of x))))

module _ (read : Bool → List ℕ → Reading) where
  -- the reader's answer by a session's gate
  abbrev pub reader_responds : Gate → Reader → Call → ReaderAnswer
  reader_responds (refuse k) r x = record { number = k; reader = r }
  reader_responds admit r x = reader_accepts read r x

  responds : (e m a : Bool) (r : Reader) (x : Call) → reader_by read (refused_by_lem (gate false e m a)) r x ≡ reader_responds (gate false e m a) r x
  responds true m a r x = refl
  responds false true a r x = refl
  responds false false true r x = refl
  responds false false false r x = refl

  pub reader_gated : (r : Reader) (x : Call)
      → reader_answer read r x ≡ reader_responds (gate false r.ended (map_bad (lent_of x).map) (argument_bad (length r.text) x)) r x
  reader_gated r x =
      ap (λ (k : ℕ). reader_by read k r x) (refusal_gate r x) ∙ responds r.ended (map_bad (lent_of x).map) (argument_bad (length r.text) x) r x
