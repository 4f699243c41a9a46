-- A whole text read from the start, line by line. No timescale and no map.
use Rattle.std.specs.Prelude.{Bool, true, false, List, [], ◌∷◌, ◌++◌, ℕ, suc, leb, length}
use Rattle.spec_base.specs.base.Limits.{most_line}
use Rattle.spec_caption.specs.caption_fate.Says.{Part, fault_number}
use Rattle.spec_machine.specs.session_counts.Cut.{closed_lines, unfinished}
use Rattle.spec_machine.specs.session_counts.Machine.{Machine, Says, faulty, says, with_bom, take_line, Rest, nothing, bom_alone, last_line, rest_of}

-- the first fault (0: none) and the parts before its line or block
pub record Reading : Type 0 where
  pub fault : ℕ
  pub parts : List Part

abbrev pub reading : ℕ → List Part → Reading
reading k ps = record { fault = k; parts = ps }

abbrev pub fails : ℕ → Reading
fails k = record { fault = k; parts = [] }

-- parts before a reading
abbrev pub ◌⊕◌ : List Part → Reading → Reading
ps ⊕ r = record { fault = r.fault; parts = ps ++ r.parts }

infixr 60 ◌⊕◌
module _ {σ : Type 0} (M : Machine σ) where
  -- a line: 19, then its other faults, then the lines after it
  abbrev pub read_line : (short : Bool) → Says σ → (σ → Reading) → Reading
  read_line false x after = fails 19
  read_line true (faulty f) after = fails (fault_number f)
  read_line true (says s ps) after = ps ⊕ after s

  abbrev pub read_close : Says σ → Reading
  read_close (faulty f) = fails (fault_number f)
  read_close (says s ps) = reading 0 ps

  -- after a finish the rest is a last line, unless it is empty or a BOM alone
  abbrev pub read_last : Rest → σ → ℕ → List ℕ → Reading
  read_last nothing s n r = read_close (M.close s n)
  read_last bom_alone s n r = read_close (with_bom (M.close s n))
  read_last last_line s n r = read_line true (take_line M s n r) (λ t. read_close (M.close t (suc n)))

  -- the rest: is it short enough; has a finish come
  abbrev pub read_rest : (short finished : Bool) → σ → ℕ → List ℕ → Reading
  read_rest false finished s n r = fails 19
  read_rest true false s n r = fails 0
  read_rest true true s n r = read_last (rest_of n r) s n r

  abbrev pub read_lines : (finished : Bool) → List (List ℕ) → List ℕ → σ → ℕ → Reading
  read_lines finished [] r s n = read_rest (leb (length r) most_line) finished s n r
  read_lines finished (l ∷ ls) r s n =
      read_line (leb (length l) most_line) (take_line M s n l) (λ t. read_lines finished ls r t (suc n))

  abbrev pub read_text : (finished : Bool) → List ℕ → Reading
  read_text finished text = read_lines finished (closed_lines text) (unfinished text) M.start 0
