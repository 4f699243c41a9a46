-- Demand 3 over the bytes of a session: `kept_promise`, `kept_chain`.
use mathlib.Core.Path.{◌≡◌, refl, sym, ap, subst, ◌∙◌}
use mathlib.Core.Logic.{inr}
use mathlib.Core.Bool.{Bool, true, false, cond}
use mathlib.Core.List.{List, [], ◌∷◌, ◌++◌}
use Prim.Native.Nat.{ℕ}
use lib.ListN.{length, take}
use Rattle.spec_base.specs.base.Put.{put}
use Rattle.spec_base.proofs.base.RefusalLaws.{else_zero}
use Rattle.spec_base.proofs.base.PutLaws.{take_put}
use Rattle.spec_caption.specs.declared.caption_fate.Config.{Config}
use Rattle.spec_caption.specs.caption_fate.Emit.{Warning, output_of, warnings_of, places_of}
use Rattle.spec_ass.specs.declared.ass_columns.Columns.{Columns}
use Rattle.spec_machine.specs.session_counts.Session.{Call}
use Rattle.spec_machine.specs.session_counts.Calls.{Played, ProperCall, Proper}
use Rattle.spec_machine.proofs.session_counts.Numbers as numbers
use Rattle.spec_session.specs.declared.session_state.Session.{Session}
use Rattle.spec_session.specs.session_state.View.{view, stored, foreign_of}
use Rattle.spec_session.specs.declared.session.Fed.{Fed}
use Rattle.spec_session.specs.declared.session.Opened.{Opened}
use Rattle.spec_session.specs.session.SessionCalls.{feed_call, finish_call, answer_of, next_of, Answered, open_of, OpenAnswered}
use Rattle.spec_parked_blocks.specs.parked_blocks.Sealed.{sealed_length}
use Rattle.spec_parking.specs.parking.Parked.{parked_of, session_in}
use Rattle.spec_parking.specs.parking.Parkings.{when_done, keep_number}
use Rattle.spec_parking.proofs.parking.Kept.{parked_length}
use Rattle.promise.specs.Demand.{Demand}
use Rattle.promise.specs.Promise.{config_of}
use Rattle.promise.specs.Runs.{Made, fed, finished, calls_of, Ran, warnings_in, outcome}
use Rattle.promise.proofs.TheDemand.{demand_opened}
use Rattle.spec_runs.proofs.parkruns.Walk.{At, at_native, at_next}
use Rattle.spec_runs.proofs.parkruns.Two.{sound, at_open}
use Rattle.spec_parking.specs.session_bytes.ByteCalls.{open_number, open_bytes, refuses, told_in}
use Rattle.spec_runs.specs.keptruns.Kept.{Left, KeptCall, kept_call_of, kept_calls, Leaves, KeptRan, text_left, warnings_left, kept_outcome}
use Rattle.spec_runs.specs.keptruns.Kept as kept
use Rattle.spec_runs.specs.keptruns.Claims.{first_bytes, KeptPromise}
use Rattle.spec_runs.proofs.keptruns.Steps.{none_emitted, names, number_is, text_is, places_are, bytes_are}

-- ---- the call on the session itself
abbrev fed_of : Session → Call → Fed
fed_of s x =
    record {
      number = (answer_of s x).number;
      written = length (output_of (answer_of s x).emits);
      warned = length (places_of (warnings_of (answer_of s x).emits));
      session = next_of s x;
    }

abbrev made_of : Session → KeptCall → Made
made_of s (kept.fed map piece out places w v a) = fed map piece out places (fed_of s (feed_call map piece (length out) (length places))) a.out a.places
made_of s (kept.finished map out places w v a) = finished map out places (fed_of s (finish_call map (length out) (length places))) a.out a.places

abbrev mades_of : Session → List KeptCall → List Made
mades_of s [] = []
mades_of s (x ∷ xs) = made_of s x ∷ mades_of (next_of s (kept_call_of x)) xs

-- as much as was told is what was written
told_part : (k n w before : ℕ) (l : List ℕ) → w ≡ told_in k n before → (refuses k ≡ true → n ≡ 0) → cond (refuses k) [] (take w l) ≡ take n l
unfolding told_in
told_part k n w before l e h = ap (λ (i : ℕ). cond (refuses k) [] (take i l)) e ∙ go (refuses k) refl
  where
    go : (t : Bool) → refuses k ≡ t → cond t [] (take (cond t before n) l) ≡ take n l
    go true q = ap (λ (i : ℕ). take i l) (sym (h q))
    go false q = refl

no_output : length (output_of []) ≡ 0
unfolding output_of
no_output = refl

no_places : length (places_of (warnings_of [])) ≡ 0
unfolding warnings_of places_of
no_places = refl

module _ (c : Config) (m : List ℕ) (o : numbers.Opened c m) (s : Session) (at : At c m o s) where
  native : foreign_of s ≡ false
  native = at_native c m o s at

  module _ (x : Call) (p : ProperCall m x) where
    next_at : At c m o (next_of s x)
    next_at = at_next c m o s x (next_of s x) at p refl

    next_native : foreign_of (next_of s x) ≡ false
    next_native = at_native c m o (next_of s x) next_at

    module _ (b out places : List ℕ) (w v : ℕ) (a : Left) (e : b ≡ parked_of 2 s) (q : Leaves b x out places w v a) where
      Q : Leaves (parked_of 2 s) x out places w v a
      Q = subst (λ (l : List ℕ). Leaves l x out places w v a) e q

      left_number : a.number ≡ (answer_of s x).number
      left_number = Q.number ∙ number_is s native at.tidy x

      left_bytes : a.bytes ≡ parked_of 2 (next_of s x)
      left_bytes = Q.bytes ∙ bytes_are s native at.tidy x next_native

      answered : Answered s x (fed_of s x) out a.out places a.places
      answered =
          record {
            number = refl;
            written = refl;
            warned = refl;
            session = refl;
            text = Q.text ∙ ap (λ (l : List ℕ). put l out) (text_is s native at.tidy x);
            warnings = Q.warnings ∙ ap (λ (l : List ℕ). put l places) (places_are s native at.tidy x);
          }

      silent : refuses a.number ≡ true → (answer_of s x).emits ≡ []
      silent t = none_emitted s x (ap refuses (sym left_number) ∙ t)

      left_text : text_left a ≡ take (fed_of s x).written a.out
      left_text =
          told_part a.number (fed_of s x).written a.written w a.out
          (Q.told_written ∙ ap (λ (l : List ℕ). told_in a.number (length l) w) (text_is s native at.tidy x))
          (λ t. ap (λ l. length (output_of l)) (silent t) ∙ no_output)

      left_warnings : warnings_left a ≡ warnings_in (take (fed_of s x).warned a.places)
      left_warnings =
          ap warnings_in
          (told_part a.number (fed_of s x).warned a.warned v a.places
          (Q.told_warned ∙ ap (λ (l : List ℕ). told_in a.number (length l) v) (places_are s native at.tidy x))
          (λ t. ap (λ l. length (places_of (warnings_of l))) (silent t) ∙ no_places))

-- ---- the list
module _ (c : Config) (m : List ℕ) (o : numbers.Opened c m) where
  record Walked (s : Session) (b : List ℕ) (xs : List KeptCall) : Type 0 where
    ran : Ran s (mades_of s xs)
    calls : calls_of (mades_of s xs) ≡ kept_calls xs
    same : kept_outcome b xs ≡ outcome s (mades_of s xs)

  join : (n n' : ℕ) (t t' : List ℕ) (w w' : List Warning) (P R : Played Columns) → n ≡ n' → t ≡ t' → w ≡ w' → P ≡ R
      → ◌≡◌ {A = Played Columns} (record { numbers = n ∷ P.numbers; session = P.session; output = t ++ P.output; warnings = w ++ P.warnings })
      (record { numbers = n' ∷ R.numbers; session = R.session; output = t' ++ R.output; warnings = w' ++ R.warnings })
  join n n' t t' w w' P R e f g h = λ i. record { numbers = e i ∷ (h i).numbers; session = (h i).session; output = f i ++ (h i).output; warnings = g i ++ (h i).warnings }

  walk : (s : Session) → At c m o s → (b : List ℕ) → b ≡ parked_of 2 s → (xs : List KeptCall) → Proper m (kept_calls xs) → KeptRan b xs → Walked s b xs
  walk s at b e [] p r =
      record {
        ran = tt;
        calls = refl;
        same = ap (λ (y : Session). record { numbers = []; session = view y; output = []; warnings = [] }) (ap session_in e ∙ names s (at_native c m o s at) at.tidy);
      }
  walk s at b e (kept.fed map piece out places w v a ∷ xs) p r =
      let x = feed_call map piece (length out) (length places) in
      let y = walk (next_of s x) (next_at c m o s at x p.0) a.bytes (left_bytes c m o s at x p.0 b out places w v a e r.0) xs p.1 r.1 in
      record {
        ran = (((refl, refl), answered c m o s at x p.0 b out places w v a e r.0), y.ran);
        calls = ap (λ (l : List Call). x ∷ l) y.calls;
        same = join a.number (answer_of s x).number (text_left a) (take (fed_of s x).written a.out) (warnings_left a) (warnings_in (take (fed_of s x).warned a.places))
            (kept_outcome a.bytes xs) (outcome (next_of s x) (mades_of (next_of s x) xs))
            (left_number c m o s at x p.0 b out places w v a e r.0) (left_text c m o s at x p.0 b out places w v a e r.0) (left_warnings c m o s at x p.0 b out places w v a e r.0) y.same;
      }
  walk s at b e (kept.finished map out places w v a ∷ xs) p r =
      let x = finish_call map (length out) (length places) in
      let y = walk (next_of s x) (next_at c m o s at x p.0) a.bytes (left_bytes c m o s at x p.0 b out places w v a e r.0) xs p.1 r.1 in
      record {
        ran = (((refl, refl), answered c m o s at x p.0 b out places w v a e r.0), y.ran);
        calls = ap (λ (l : List Call). x ∷ l) y.calls;
        same = join a.number (answer_of s x).number (text_left a) (take (fed_of s x).written a.out) (warnings_left a) (warnings_in (take (fed_of s x).warned a.places))
            (kept_outcome a.bytes xs) (outcome (next_of s x) (mades_of (next_of s x) xs))
            (left_number c m o s at x p.0 b out places w v a e r.0) (left_text c m o s at x p.0 b out places w v a e r.0) (left_warnings c m o s at x p.0 b out places w v a e r.0) y.same;
      }

-- ---- the bytes that open left
module _ (kind T : ℕ) (m lent : List ℕ) (z : open_number kind T m (length lent) ≡ 0) where
  O : Opened
  O = record { number = (open_of kind T m).number; session = stored (open_of kind T m).session }

  A : OpenAnswered kind T m O
  unfolding O
  A = record { number = refl; session = refl }

  zero_is : O.number ≡ 0
  unfolding O open_number
  zero_is = (else_zero (open_of kind T m).number (keep_number (length lent)) z).0

  start : At (config_of kind T) m (sound kind T m O A zero_is) O.session
  start = at_open kind T m O A zero_is

  bytes_first : first_bytes kind T m lent ≡ parked_of 2 O.session
  unfolding O open_bytes
  bytes_first =
      let s = stored (open_of kind T m).session in
      let n : sealed_length ≡ length (parked_of 2 s) = sym (parked_length s (at_native (config_of kind T) m (sound kind T m O A zero_is) O.session start) 2 (inr refl)) in
      ap (λ (i : ℕ). take sealed_length (put (when_done i (parked_of 2 s)) lent)) z
      ∙ ap (λ (i : ℕ). take i (put (parked_of 2 s) lent)) n ∙ take_put (parked_of 2 s) lent

pub kept_promise : KeptPromise
kept_promise kind T m lent z xs p r =
    let o = O kind T m lent z in
    let w = walk (config_of kind T) m (sound kind T m o (A kind T m lent z) (zero_is kind T m lent z)) o.session (start kind T m lent z) (first_bytes kind T m lent) (bytes_first kind T m lent z) xs p r in
    let d = demand_opened kind T m o (A kind T m lent z) (zero_is kind T m lent z) (mades_of o.session xs) (subst (Proper m) (sym w.calls) p) w.ran in
    subst (λ (cs : List Call). Demand (config_of kind T) m cs (kept_outcome (first_bytes kind T m lent) xs)) w.calls
    (subst (Demand (config_of kind T) m (calls_of (mades_of o.session xs))) (sym w.same) d)
