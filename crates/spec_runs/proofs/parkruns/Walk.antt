-- Steps walked through: no parking is refused, each gives the very session back, and the calls alone are a run of the same outcome.
use mathlib.Core.Path.{◌≡◌, refl, sym, ap, subst, ◌∙◌}
use mathlib.Core.Logic.{inr}
use mathlib.Core.Bool.{false, cond}
use mathlib.Core.List.{List, [], ◌∷◌, ◌++◌}
use Prim.Native.Nat.{ℕ, ◌≤◌}
use lib.Dec.{eqb}
use lib.ListN.{length, take}
use borrow.Author.Tests.{le-leb}
use Rattle.spec_base.specs.base.Refusal.{◌or_else◌, fault_unless}
use Rattle.spec_base.specs.base.Put.{put}
use Rattle.spec_base.proofs.base.PutLaws.{take_put}
use Rattle.spec_caption.specs.declared.caption_fate.Config.{Config}
use Rattle.spec_ass.specs.declared.ass_columns.Columns.{Columns}
use Rattle.spec_machine.specs.session_counts.Session.{Call, answer, fresh, foreign}
use Rattle.spec_machine.specs.session_counts.Session as model
use Rattle.spec_machine.specs.session_counts.Calls.{Played, play, ProperCall, Proper}
use Rattle.spec_machine.proofs.session_counts.Numbers.{Opened, opened_config}
use Rattle.spec_machine.proofs.session_counts.Lists.{led_native}
use Rattle.spec_machine.specs.kinds.Kit.{kit}
use Rattle.spec_machine.proofs.kinds.KindLaws.{lawful}
use Rattle.spec_session.specs.declared.session_state.Session.{Session}
use Rattle.spec_session.specs.session_state.View.{view, stored, foreign_of}
use Rattle.spec_session.proofs.session_state.ViewLaws.{foreign_view}
use Rattle.spec_session.specs.session.SessionCalls.{next_of}
use Rattle.spec_parking.specs.declared.parking.TakenUp.{TakenUp}
use Rattle.spec_parked_blocks.specs.parked_blocks.Sealed.{sealed_length}
use Rattle.spec_parking.specs.parking.Parked.{parked_of, session_in}
use Rattle.spec_parking.specs.parking.Parkings.{park_number, when_done, Parks, TakesUp, Kept}
use Rattle.spec_parking.proofs.parking.Kept.{parked_again, parked_length}
use Rattle.promise.specs.Runs.{Made, calls_of, Met, Ran, written_by, warned_by, outcome}
use Rattle.promise.proofs.RunLaws.{Whole, next_whole, next_view}
use Rattle.spec_runs.specs.parkruns.Steps.{Step, call, parking, handed, StepMet, Stepped, made_in, AllKept, outcome_of}
use Rattle.spec_runs.proofs.parkruns.Tidy.{Tidy, next_tidy}
use Rattle.spec_runs.proofs.parkruns.Parts.{play_snoc, proper_snoc}

-- ---- one parking of a tidy session that is not foreign
park_done : (s : Session) (n : ℕ) → foreign_of s ≡ false → sealed_length ≤ n → park_number s n ≡ 0
unfolding park_number fault_unless ◌or_else◌
park_done s n e h = rw (e, le-leb sealed_length n h)

pub record Back (s : Session) (k : ℕ) (t : TakenUp) : Type 0 where
  pub parked : k ≡ 0
  pub up : t.number ≡ 0
  pub same : t.session ≡ s

pub taken_back : (s : Session) (b : List ℕ) (t : TakenUp) → Tidy s → Kept b s → TakesUp b t → (t.number ≡ 0) × (t.session ≡ s)
taken_back s b t tidy p a =
    let z : t.number ≡ 0 = a.number ∙ p.answer in
    (z, a.session ∙ ap (λ (n : ℕ). cond (eqb n 0) (session_in b) (stored (model.no_session kit))) z ∙ p.same ∙ tidy)

pub parking_back : (s : Session) → Tidy s → foreign_of s ≡ false → (out : List ℕ) (k : ℕ) (out' : List ℕ) (t : TakenUp) → StepMet s (parking out k out' t) → Back s k t
parking_back s tidy e out k out' t r =
    let p : Parks s k out out' = r.1 in
    let z : k ≡ 0 = p.answer ∙ park_done s (length out) e r.0 in
    let n : sealed_length ≡ length (parked_of 2 s) = sym (parked_length s e 2 (inr refl)) in
    let b : take sealed_length out' ≡ parked_of 2 s =
    ap (take sealed_length) (p.bytes ∙ ap (λ (i : ℕ). put (when_done i (parked_of 2 s)) out) z)
    ∙ ap (λ (i : ℕ). take i (put (parked_of 2 s) out)) n ∙ take_put (parked_of 2 s) out in
    let u = taken_back s (parked_of 2 s) t tidy (parked_again 2 s (inr refl) e) (subst (λ (l : List ℕ). TakesUp l t) b r.2) in
    record { parked = z; up = u.0; same = u.1 }

-- ---- the list
module _ (c : Config) (m : List ℕ) (o : Opened c m) where
  -- where the calls so far have led to
  pub record At (s : Session) : Type 0 where
    pub whole : Whole s
    pub tidy : Tidy s
    pub past : List Call
    pub proper : Proper m past
    pub is : view s ≡ (play kit (fresh kit c) past).session

  pub at_native : (s : Session) → At s → foreign_of s ≡ false
  at_native s a = foreign_view s ∙ ap (foreign kit) a.is ∙ led_native kit c m (lawful c.kind o.kind_known) (opened_config c m o) a.past a.proper

  met_next : (s : Session) (x : Made) → Met s x → x.result.session ≡ next_of s x.call
  met_next s x a = a.1.session

  -- a call that returned the session of the contract
  pub at_next : (s : Session) (x : Call) (t : Session) → At s → ProperCall m x → t ≡ next_of s x → At t
  at_next s x t a p e =
      record {
        whole = subst Whole (sym e) (next_whole s a.whole x);
        tidy = subst Tidy (sym e) (next_tidy s a.tidy a.whole x);
        past = a.past ++ (x ∷ []);
        proper = proper_snoc m a.past x a.proper p;
        is = ap view e ∙ next_view s a.whole x ∙ ap (λ (y : model.Session Columns). (answer kit y x).session) a.is ∙ sym (play_snoc (fresh kit c) a.past x);
      }

  pub record Walked (s : Session) (xs : List Step) : Type 0 where
    pub kept : AllKept xs
    pub ran : Ran s (made_in xs)
    pub same : outcome_of s xs ≡ outcome s (made_in xs)

  pub walk : (s : Session) → At s → (xs : List Step) → Proper m (calls_of (made_in xs)) → Stepped s xs → Walked s xs
  walk s a [] p r = record { kept = tt; ran = tt; same = refl }
  walk s a (call x ∷ xs) p r =
      let w = walk x.result.session (at_next s x.call x.result.session a p.0 (met_next s x r.0)) xs p.1 r.1 in
      record {
        kept = w.kept;
        ran = (r.0, w.ran);
        same = ap (λ (q : Played Columns). record {
          numbers = x.result.number ∷ q.numbers;
          session = q.session;
          output = written_by x ++ q.output;
          warnings = warned_by x ++ q.warnings;
        }) w.same;
      }
  walk s a (parking out k out' t ∷ xs) p r =
      let b = parking_back s a.tidy (at_native s a) out k out' t r.0 in
      let w = walk t.session (subst At (sym b.same) a) xs p r.1 in
      record {
        kept = (b.parked, b.up, w.kept);
        ran = subst (λ (z : Session). Ran z (made_in xs)) b.same w.ran;
        same = w.same ∙ ap (λ (z : Session). outcome z (made_in xs)) b.same;
      }
  walk s a (handed k t ∷ xs) p r =
      let b = taken_back s (parked_of k s) t a.tidy (parked_again k s r.0.0 (at_native s a)) r.0.1 in
      let w = walk t.session (subst At (sym b.1) a) xs p r.1 in
      record {
        kept = (b.0, w.kept);
        ran = subst (λ (z : Session). Ran z (made_in xs)) b.1 w.ran;
        same = w.same ∙ ap (λ (z : Session). outcome z (made_in xs)) b.1;
      }
