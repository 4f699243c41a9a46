-- Steps as a caller makes them: feeds and finishes (promise/specs/Runs), and parkings, each a session stored and taken up again.
use Rattle.std.specs.Prelude.{◌≡◌, List, [], ◌∷◌, ◌++◌, ℕ, ◌≤◌, length, take}
use Rattle.spec_caption.specs.caption_fate.Lost.{Rule}
use Rattle.spec_caption.specs.caption_fate.Says.{Part}
use Rattle.spec_caption.specs.caption_fate.Emit.{Warning, output_of, places_of}
use Rattle.spec_caption.specs.caption_fate.Warns.{warns_by}
use Rattle.spec_map.specs.segment.Segment.{segments_of}
use Rattle.spec_base.specs.base.Put.{put}
use Rattle.spec_ass.specs.declared.ass_columns.Columns.{Columns}
use Rattle.spec_machine.specs.session_counts.Machine.{run, finish_run}
use Rattle.spec_machine.specs.session_counts.Session.{Call, feed, finish, lent_of, Gate, refuse, admit, gate_of, resume}
use Rattle.spec_machine.specs.session_counts.Session as model
use Rattle.spec_machine.specs.session_counts.Calls.{Played}
use Rattle.spec_machine.specs.kinds.Takes.{machine_of}
use Rattle.spec_machine.specs.kinds.Kit.{kit}
use Rattle.spec_session.specs.declared.session_state.Session.{Session}
use Rattle.spec_session.specs.session_state.View.{view}
use Rattle.spec_session.specs.declared.session.Fed.{Fed}
use Rattle.spec_session.specs.session.SessionCalls.{answer_of, next_of}
use Rattle.spec_session.specs.session.Stand.{parts_in}
use Rattle.spec_parking.specs.declared.parking.TakenUp.{TakenUp}
use Rattle.spec_parked_blocks.specs.parked_blocks.Sealed.{sealed_length}
use Rattle.spec_parking.specs.parking.Parked.{parked_of}
use Rattle.spec_parking.specs.parking.Parkings.{Parks, TakesUp, Mark}
use Rattle.promise.specs.Runs.{Made, Lends, Met, written_by, warned_by}

-- ---- ours
-- a parking: what was lent and what stood there afterwards, the number of park, and what taking these bytes up answered; or the blocks that a house with either
-- mark stores of this session, and what taking them up answered
pub data Step : Type 0 where
  call : Made → Step
  parking : (out : List ℕ) → (number : ℕ) → (out' : List ℕ) → TakenUp → Step
  handed : (mark : ℕ) → TakenUp → Step

abbrev pub StepMet : Session → Step → Type 0
StepMet s (call x) = Met s x
StepMet s (parking out k out' t) = (sealed_length ≤ length out) × Parks s k out out' × TakesUp (take sealed_length out') t
StepMet s (handed k t) = Mark k × TakesUp (parked_of k s) t

abbrev pub session_after : Step → Session
session_after (call x) = x.result.session
session_after (parking out k out' t) = t.session
session_after (handed k t) = t.session

abbrev pub Stepped : Session → List Step → Type 0
Stepped s [] = Unit {0}
Stepped s (x ∷ xs) = StepMet s x × Stepped (session_after x) xs

-- the calls alone
abbrev pub made_in : List Step → List Made
made_in [] = []
made_in (call x ∷ xs) = x ∷ made_in xs
made_in (parking out k out' t ∷ xs) = made_in xs
made_in (handed k t ∷ xs) = made_in xs

-- every parking was answered 0, and so was every taking up
abbrev pub AllKept : List Step → Type 0
AllKept [] = Unit {0}
AllKept (call x ∷ xs) = AllKept xs
AllKept (parking out k out' t ∷ xs) = (k ≡ 0) × (t.number ≡ 0) × AllKept xs
AllKept (handed k t ∷ xs) = (t.number ≡ 0) × AllKept xs

-- the numbers of the calls in order, the last session, and what the calls wrote, joined
abbrev pub outcome_of : Session → List Step → Played Columns
outcome_of s [] = record { numbers = []; session = view s; output = []; warnings = [] }
outcome_of s (call x ∷ xs) =
    record {
      numbers = x.result.number ∷ (outcome_of x.result.session xs).numbers;
      session = (outcome_of x.result.session xs).session;
      output = written_by x ++ (outcome_of x.result.session xs).output;
      warnings = warned_by x ++ (outcome_of x.result.session xs).warnings;
    }
outcome_of s (parking out k out' t ∷ xs) = outcome_of t.session xs
outcome_of s (handed k t ∷ xs) = outcome_of t.session xs

-- ---- a house with another rule for a lost part: its calls differ from ours in the warnings alone
-- the parts that a call says: none where it is refused
abbrev pub parts_by : Gate → model.Session Columns → Call → List Part
parts_by (refuse k) v x = []
parts_by admit v (feed l piece) = parts_in (run (machine_of v.config.kind) (resume kit v) piece)
parts_by admit v (finish l) = parts_in (finish_run (machine_of v.config.kind) (resume kit v))

unfoldable pub parts_of : model.Session Columns → Call → List Part
parts_of v x = parts_by (gate_of kit v x) v x

abbrev pub warns_of : Rule → Session → Call → List Warning
warns_of lost s x = warns_by lost s.config (segments_of (lent_of x).map) (parts_of (view s) x)

-- the contract of feed and finish in a house with this rule
pub record AnsweredBy (lost : Rule) (s : Session) (x : Call) (r : Fed) (out out' places places' : List ℕ) : Type 0 where
  pub number : r.number ≡ (answer_of s x).number
  pub written : r.written ≡ length (output_of (answer_of s x).emits)
  pub warned : r.warned ≡ length (places_of (warns_of lost s x))
  pub session : r.session ≡ next_of s x
  pub text : out' ≡ put (output_of (answer_of s x).emits) out
  pub warnings : places' ≡ put (places_of (warns_of lost s x)) places

abbrev pub MetBy : Rule → Session → Made → Type 0
MetBy lost s x = Lends x × AnsweredBy lost s x.call x.result x.out x.out' x.places x.places'

abbrev pub RanBy : Rule → Session → List Made → Type 0
RanBy lost s [] = Unit {0}
RanBy lost s (x ∷ xs) = MetBy lost s x × RanBy lost x.result.session xs

-- what they warned of
abbrev pub warned_all : List Made → List Warning
warned_all [] = []
warned_all (x ∷ xs) = warned_by x ++ warned_all xs

abbrev pub written_all : List Made → List ℕ
written_all [] = []
written_all (x ∷ xs) = written_by x ++ written_all xs

abbrev pub numbers_all : List Made → List ℕ
numbers_all [] = []
numbers_all (x ∷ xs) = x.result.number ∷ numbers_all xs
