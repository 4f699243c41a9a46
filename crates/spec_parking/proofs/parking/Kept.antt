-- A session that is not foreign is taken up as it is remembered.
use Prim.Native.Nat.{ℕ, ◌^◌, ◌≤◌, ◌<◌}
use mathlib.Core.Path.{◌≡◌, refl, ap, sym, ◌∙◌}
use mathlib.Core.Logic.{◌⊎◌, inl, inr}
use mathlib.Core.Bool.{Bool, true, false, ◌&&◌, ◌||◌, not, cond}
use mathlib.Core.List.{List, []}
use lib.Dec.{eqb, leb, ltb}
use lib.ListN.{length}
use native.Mathlib.Omega.{arith}
use borrow.Author.Tests.{eqb-true, leb-true, ltb-false, not-false, le-ltb}
use Rattle.spec_base.specs.base.Limits.{most_held, most_taken}
use Rattle.spec_base.specs.base.Refusal.{◌or_else◌, fault_unless}
use Rattle.spec_base.proofs.base.Laws.{or_left, or_right, and_right}
use Rattle.spec_time.specs.caption_time.Kind.{kind_bad}
use Rattle.spec_time.proofs.caption_time.Limits.{by_kind, timescale_high}
use Rattle.spec_ass.specs.declared.ass_columns.Columns.{Columns}
use Rattle.spec_machine.specs.declared.session_counts.Counts.{Counts}
use Rattle.spec_machine.specs.session_counts.Session.{is_outcome, outcome_bad, counts_above}
use Rattle.spec_machine.specs.session_counts.Session as model
use Rattle.spec_machine.specs.kinds.Kit.{kit}
use Rattle.spec_machine.proofs.kinds.Native.{Native}
use Rattle.spec_machine.proofs.kinds.KindLaws.{lawful}
use Rattle.spec_machine.specs.kinds.Takes.{blank_state, no_columns}
use Rattle.spec_machine.specs.kinds.Kit.{strange}
use Rattle.spec_machine.proofs.session_counts.CutLaws.{has_none}
use Rattle.spec_session.specs.declared.session_state.Session.{Session}
use Rattle.spec_session.specs.session_state.View.{held_of, view, foreign_of, padded}
use Rattle.spec_session.proofs.session_state.ViewLaws.{held_length, held_plain, held_padded, foreign_view, native_view, native_room}
use Rattle.spec_parked_blocks.specs.parked_blocks.Sealed.{sealed_length, filled}
use Rattle.spec_parking.specs.parking.Parked.{flag, head_words, kept_bytes, parked_of, is_parked, session_in, remembered}
use Rattle.spec_parking.specs.parking.Parkings.{Mark, take_number, ParkedAgain}
use Rattle.spec_parked_blocks.proofs.parked_blocks.Bytes.{Words}
use Rattle.spec_parking.proofs.parking.Again.{session_is, parked_sound, whole_length}

-- ---- the words are below 2^32
mark_small : (k : ℕ) → Mark k → k < 2 ^ 32
mark_small k (inl e) = omega arith
mark_small k (inr e) = omega arith

flag_small : (t : Bool) → flag t < 2 ^ 32
flag_small true = omega arith
flag_small false = omega arith

cond_small : (t : Bool) (x : ℕ) → x < 2 ^ 32 → cond t 0 x < 2 ^ 32
cond_small true x h = omega arith
cond_small false x h = h

pub or_cases : (a b : Bool) → (a || b) ≡ true → (a ≡ true) ⊎ (b ≡ true)
or_cases true b e = inl refl
or_cases false b e = inr e

outcome_by : (k : ℕ) → (eqb k 0 ≡ true) ⊎ ((((leb 19 k && leb k 22) || eqb k 24) ≡ true)) → k ≤ 24
outcome_by k (inl e) = omega (arith, eqb-true k 0 e)
outcome_by k (inr e) = go (or_cases (leb 19 k && leb k 22) (eqb k 24) e)
  where
    go : ((leb 19 k && leb k 22) ≡ true) ⊎ (eqb k 24 ≡ true) → k ≤ 24
    go (inl f) = omega (arith, leb-true k 22 (and_right (leb 19 k) (leb k 22) f))
    go (inr f) = omega (arith, eqb-true k 24 f)

outcome_small : (k : ℕ) → is_outcome k ≡ true → k ≤ 24
unfolding is_outcome
outcome_small k e = outcome_by k (or_cases (eqb k 0) ((leb 19 k && leb k 22) || eqb k 24) e)

outcome_good : (e : Bool) (k : ℕ) → outcome_bad e k ≡ false → is_outcome k ≡ true
unfolding outcome_bad
outcome_good e k h = not-false (is_outcome k) (or_left (not (is_outcome k)) (not e && not (eqb k 0)) h)

pub record Small (t : ℕ) (c : Counts) : Type 0 where
  pub shifted : c.shifted ≤ t
  pub clipped : c.clipped ≤ t
  pub dropped : c.dropped ≤ t
  pub passed : c.passed ≤ t

counts_small : (t : ℕ) (c : Counts) → counts_above t c ≡ false → Small t c
counts_small t c e =
    let e1 = or_right (ltb t c.shifted) _ e in
    let e2 = or_right (ltb t c.clipped) _ e1 in
    record {
      shifted = ltb-false t c.shifted (or_left (ltb t c.shifted) _ e);
      clipped = ltb-false t c.clipped (or_left (ltb t c.clipped) _ e1);
      dropped = ltb-false t c.dropped (or_left (ltb t c.dropped) _ e2);
      passed = ltb-false t c.passed (or_right (ltb t c.dropped) _ e2);
    }

module _ (s : Session) (e : foreign_of s ≡ false) where
  N : Native (view s)
  N = native_view s e

  kind_small : s.config.kind ≤ 2
  kind_small = by_kind (λ (k : ℕ). k ≤ 2) (omega arith) (omega arith) (omega arith) s.config.kind N.kind_known

  words : (k : ℕ) → Mark k → Words (head_words k s)
  unfolding head_words
  words k m =
      let c = counts_small s.taken s.counts N.counts_few in
      let b = N.holds.fit.bounded in
      let T = timescale_high s.config.timescale N.timescale_good in
      let o = outcome_small s.outcome (outcome_good s.ended s.outcome N.outcome_good) in
      let t : s.taken ≤ most_taken = N.taken_few in
      let l : s.lines ≤ s.taken = N.lines_few in
      let h = native_room s e in (
        mark_small k m,
        (
          omega (arith, kind_small),
          (
            omega arith,
            (
              flag_small s.ended,
              (
                omega arith,
                (
                  omega arith,
                  (
                    cond_small s.ended s.lines (omega arith),
                    (
                      omega (arith, c.shifted),
                      (
                        omega (arith, c.clipped),
                        (
                          omega (arith, c.dropped),
                          (
                            omega (arith, c.passed),
                            (
                              cond_small s.ended (flag s.columns.events) (flag_small s.columns.events),
                              (
                                cond_small s.ended s.columns.columns (omega (arith, b.columns)),
                                (
                                  cond_small s.ended s.columns.start (omega (arith, b.columns, b.start)),
                                  (
                                    cond_small s.ended s.columns.«end» (omega (arith, b.columns, b.stop)),
                                    (cond_small s.ended s.held_len (omega arith), tt),
                                  ),
                                ),
                              ),
                            ),
                          ),
                        ),
                      ),
                    ),
                  ),
                ),
              ),
            ),
          ),
        ),
      )

  pub sound : (k : ℕ) → Mark k → is_parked (parked_of k s) ≡ true
  sound k m = parked_sound k s m (words k m) (outcome_good s.ended s.outcome N.outcome_good) (native_room s e)

  pub parked_length : (k : ℕ) → Mark k → length (parked_of k s) ≡ sealed_length
  parked_length k m = whole_length k s m (words k m) (outcome_good s.ended s.outcome N.outcome_good) (native_room s e)

  pub names : (k : ℕ) → Mark k → session_in (parked_of k s) ≡ remembered s
  names k m = session_is k s m (words k m) (outcome_good s.ended s.outcome N.outcome_good) (native_room s e)

  -- ---- what is remembered is not foreign
  live_view : s.ended ≡ false → view (remembered s) ≡ view s
  unfolding remembered kept_bytes padded
  live_view z =
      let h = held_of s.held_len s.held in
      let n = held_length s.held_len s.held in
      let back : held_of s.held_len (filled most_held h) ≡ h = ap (λ (i : ℕ). held_of i (filled most_held h)) (sym n) ∙ held_padded h (omega (arith, native_room s e)) in
      ap (λ (t : Bool). record {
        config = s.config;
        taken = s.taken;
        lines = cond t 0 s.lines;
        held = held_of (cond t 0 s.held_len) (filled most_held (cond t [] h));
        known = record { events = cond t false s.columns.events; columns = cond t 0 s.columns.columns; start = cond t 0 s.columns.start; «end» = cond t 0 s.columns.«end» };
        counts = s.counts;
        outcome = s.outcome;
        ended = s.ended;
      }) z
      ∙ (λ i. record { config = s.config; taken = s.taken; lines = s.lines; held = back i; known = s.columns; counts = s.counts; outcome = s.outcome; ended = s.ended })

  dead_strange : strange s.config.kind no_columns [] ≡ false
  dead_strange = let L = lawful s.config.kind N.kind_known in blank_strange s.config.kind N.kind_known
    where
      blank_strange : (k : ℕ) (f : kind_bad k ≡ false) → strange k no_columns [] ≡ false
      blank_strange k f = (lawful k f).not_strange blank_state [] (lawful k f).start_fit (omega arith) has_none

  D : model.Session Columns
  D = record { config = s.config; taken = s.taken; lines = 0; held = []; known = no_columns; counts = s.counts; outcome = s.outcome; ended = true }

  dead_view : s.ended ≡ true → view (remembered s) ≡ D
  unfolding D remembered kept_bytes
  dead_view z =
      let h = held_of s.held_len s.held in
      let none : held_of 0 (filled most_held []) ≡ [] = held_plain 0 (filled most_held []) (omega arith) in
      ap (λ (t : Bool). record {
        config = s.config;
        taken = s.taken;
        lines = cond t 0 s.lines;
        held = held_of (cond t 0 s.held_len) (filled most_held (cond t [] h));
        known = record { events = cond t false s.columns.events; columns = cond t 0 s.columns.columns; start = cond t 0 s.columns.start; «end» = cond t 0 s.columns.«end» };
        counts = s.counts;
        outcome = s.outcome;
        ended = t;
      }) z
      ∙ (λ i. record { config = s.config; taken = s.taken; lines = 0; held = none i; known = no_columns; counts = s.counts; outcome = s.outcome; ended = true })

  dead_fine : outcome_bad true s.outcome ≡ false → model.foreign kit D ≡ false
  unfolding D
  dead_fine o = rw (N.kind_known, N.timescale_good, le-ltb most_taken s.taken N.taken_few, N.counts_few, le-ltb s.taken 0 (omega arith), dead_strange, o)

  remembered_native : (t : Bool) → s.ended ≡ t → foreign_of (remembered s) ≡ false
  remembered_native false z = foreign_view (remembered s) ∙ ap (model.foreign kit) (live_view z) ∙ sym (foreign_view s) ∙ e
  remembered_native true z = foreign_view (remembered s) ∙ ap (model.foreign kit) (dead_view z) ∙ dead_fine (ap (λ (t : Bool). outcome_bad t s.outcome) (sym z) ∙ N.outcome_good)

zero_number : (b : List ℕ) → is_parked b ≡ true → foreign_of (session_in b) ≡ false → take_number b ≡ 0
unfolding take_number fault_unless ◌or_else◌
zero_number b p f = rw (p, f)

pub parked_again : ParkedAgain
parked_again k s m e =
    record {
      answer = zero_number (parked_of k s) (sound s e k m) (ap foreign_of (names s e k m) ∙ remembered_native s e s.ended refl);
      same = names s e k m;
    }
