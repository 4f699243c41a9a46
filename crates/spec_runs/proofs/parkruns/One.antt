-- A session that another house parked with mark 1: what it wrote and counted, and our steps after taking it up, are the reader's for all the calls;
-- the captions that it decided keep the warnings of its rule, later ones have those of ours (`under_rules`, `under_one`).
use mathlib.Core.Path.{◌≡◌, refl, sym, ap, ap₂, subst, ◌∙◌}
use mathlib.Core.Logic.{inl}
use mathlib.Core.List.{List, [], ◌∷◌, ◌++◌, append_assoc}
use Prim.Native.Nat.{ℕ}
use Rattle.spec_map.specs.declared.segment.Segment.{Segment}
use Rattle.spec_map.specs.segment.Segment.{segments_of}
use Rattle.spec_caption.specs.declared.caption_fate.Config.{Config}
use Rattle.spec_caption.specs.caption_fate.Lost.{Rule, lost_next, lost_later}
use Rattle.spec_caption.specs.caption_fate.Says.{Part}
use Rattle.spec_caption.specs.caption_fate.Emit.{Warning, emits_of, output_of, warnings_of, places_of}
use Rattle.spec_caption.specs.caption_fate.Warns.{part_warns, warns_by}
use Rattle.spec_caption.proofs.caption_fate.WarnLaws.{warns_later}
use Rattle.spec_ass.specs.declared.ass_columns.Columns.{Columns}
use Rattle.spec_machine.specs.session_counts.Session.{Call, lent_of, answer, fresh}
use Rattle.spec_machine.specs.session_counts.Session as model
use Rattle.spec_machine.specs.session_counts.Calls.{Played, play, ProperCall, Proper}
use Rattle.spec_machine.proofs.session_counts.Numbers.{Opened}
use Rattle.spec_machine.specs.kinds.Kit.{kit}
use Rattle.spec_session.specs.declared.session_state.Session.{Session}
use Rattle.spec_session.specs.session_state.View.{view}
use Rattle.spec_session.specs.session.SessionCalls.{answer_of, next_of}
use Rattle.spec_parking.specs.parking.Parked.{parked_of}
use Rattle.spec_parking.proofs.parking.Kept.{parked_again}
use Rattle.promise.specs.Demand.{Demand}
use Rattle.promise.specs.Promise.{config_of}
use Rattle.promise.specs.Runs.{Made, calls_of, warnings_in, written_by, warned_by, last_of}
use Rattle.promise.proofs.DemandText.{demand}
use Rattle.promise.proofs.RunLaws.{front, warnings_back, next_view}
use Rattle.promise.proofs.TheDemand.{open_number_lem}
use Rattle.spec_runs.specs.parkruns.Steps.{made_in, outcome_of, parts_of, warns_of, MetBy, RanBy, warned_all, written_all, numbers_all}
use Rattle.spec_runs.specs.parkruns.Claims.{UnderRules, UnderOne}
use Rattle.spec_runs.proofs.parkruns.Parts.{emits_are, config_same, by_map, parts_all, said_more, said_all}
use Rattle.spec_runs.proofs.parkruns.Walk.{taken_back, At, at_native, at_next, walk}
use Rattle.spec_runs.proofs.parkruns.Two.{ran_plays, sound, is_fresh, open_fresh, at_open}

-- ---- warnings by a rule
warns_none : (lost : Rule) (c : Config) (m : List Segment) → warns_by lost c m [] ≡ []
unfolding warns_by
warns_none lost c m = refl

warns_append : (lost : Rule) (c : Config) (m : List Segment) (ps qs : List Part) → warns_by lost c m (ps ++ qs) ≡ warns_by lost c m ps ++ warns_by lost c m qs
unfolding warns_by
warns_append lost c m [] qs = refl
warns_append lost c m (p ∷ ps) qs =
    ap (λ (l : List Warning). part_warns lost c m p ++ l) (warns_append lost c m ps qs) ∙ sym (append_assoc (part_warns lost c m p) (warns_by lost c m ps) (warns_by lost c m qs))

-- the rule by which we warn
abbrev pub OurRule : Rule → Type 0
OurRule lost = (c : Config) (m : List Segment) (ps : List Part) → warnings_of (emits_of c m ps) ≡ warns_by lost c m ps

-- ---- the model's calls, joined
join_numbers : (v : model.Session Columns) (xs ys : List Call) → (play kit v (xs ++ ys)).numbers ≡ (play kit v xs).numbers ++ (play kit (play kit v xs).session ys).numbers
join_numbers v [] ys = refl
join_numbers v (x ∷ xs) ys = ap (λ (l : List ℕ). (answer kit v x).number ∷ l) (join_numbers (answer kit v x).session xs ys)

join_output : (v : model.Session Columns) (xs ys : List Call) → (play kit v (xs ++ ys)).output ≡ (play kit v xs).output ++ (play kit (play kit v xs).session ys).output
join_output v [] ys = refl
join_output v (x ∷ xs) ys =
    let w = (answer kit v x).session in
    ap (λ (l : List ℕ). output_of (answer kit v x).emits ++ l) (join_output w xs ys)
    ∙ sym (append_assoc (output_of (answer kit v x).emits) (play kit w xs).output (play kit (play kit w xs).session ys).output)

join_session : (v : model.Session Columns) (xs ys : List Call) → (play kit v (xs ++ ys)).session ≡ (play kit (play kit v xs).session ys).session
join_session v [] ys = refl
join_session v (x ∷ xs) ys = join_session (answer kit v x).session xs ys

join_proper : (m : List ℕ) (xs ys : List Call) → Proper m xs → Proper m ys → Proper m (xs ++ ys)
join_proper m [] ys p q = q
join_proper m (x ∷ xs) ys p q = (p.0, join_proper m xs ys p.1 q)

play_config : (v : model.Session Columns) (xs : List Call) → (play kit v xs).session.config ≡ v.config
play_config v [] = refl
play_config v (x ∷ xs) = play_config (answer kit v x).session xs ∙ config_same v x

-- ---- the warnings of a call
module _ (lost : Rule) (c : Config) (m : List ℕ) where
  own_warns : (v : model.Session Columns) (x : Call) → v.config ≡ c → ProperCall m x
      → warns_by lost v.config (segments_of (lent_of x).map) (parts_of v x) ≡ warns_by lost c (segments_of m) (parts_of v x)
  own_warns v x e p =
      by_map (λ (l : List ℕ) (ps : List Part). warns_by lost v.config (segments_of l) ps ≡ warns_by lost c (segments_of m) ps) m v x p
      (warns_none lost v.config (segments_of (lent_of x).map) ∙ sym (warns_none lost c (segments_of m)))
      (λ q. ap₂ (λ (d : Config) (l : List ℕ). warns_by lost d (segments_of l) (parts_of v x)) e q)

  our_warns : OurRule lost → (v : model.Session Columns) → v.config ≡ c → (xs : List Call) → Proper m xs
      → (play kit v xs).warnings ≡ warns_by lost c (segments_of m) (parts_all v xs)
  our_warns law v e [] p = sym (warns_none lost c (segments_of m))
  our_warns law v e (x ∷ xs) p =
      let w = (answer kit v x).session in
      ap₂ (λ (a b : List Warning). a ++ b)
      (ap warnings_of (emits_are v x) ∙ law v.config (segments_of (lent_of x).map) (parts_of v x) ∙ own_warns v x e p.0)
      (our_warns law w (config_same v x ∙ e) xs p.1)
      ∙ sym (warns_append lost c (segments_of m) (parts_of v x) (parts_all w xs))

-- ---- the other house
record Read (lost : Rule) (s : Session) (x : Made) : Type 0 where
  number : x.result.number ≡ (answer kit (view s) x.call).number
  session : x.result.session ≡ next_of s x.call
  output : written_by x ≡ output_of (answer kit (view s) x.call).emits
  warnings : warned_by x ≡ warns_of lost s x.call

module _ (lost : Rule) (s : Session) where
  read_met : (x : Made) → MetBy lost s x → Read lost s x
  unfolding answer_of
  read_met x (l, a) =
      record {
        number = a.number;
        session = a.session;
        output = front (output_of (answer kit (view s) x.call).emits) x.out x.out' x.result.written a.written a.text;
        warnings =
            ap warnings_in (front (places_of (warns_of lost s x.call)) x.places x.places' x.result.warned a.warned a.warnings)
            ∙ warnings_back (warns_of lost s x.call);
      }

module _ (lost : Rule) (c : Config) (m : List ℕ) (o : Opened c m) where
  record Theirs (s : Session) (cs : List Made) : Type 0 where
    at : At c m o (last_of s cs)
    numbers : numbers_all cs ≡ (play kit (view s) (calls_of cs)).numbers
    output : written_all cs ≡ (play kit (view s) (calls_of cs)).output
    session : view (last_of s cs) ≡ (play kit (view s) (calls_of cs)).session
    warnings : warned_all cs ≡ warns_by lost c (segments_of m) (parts_all (view s) (calls_of cs))

  at_config : (s : Session) → At c m o s → s.config ≡ c
  at_config s a = ap (λ (v : model.Session Columns). v.config) a.is ∙ play_config (fresh kit c) a.past

  theirs : (s : Session) → At c m o s → (cs : List Made) → Proper m (calls_of cs) → RanBy lost s cs → Theirs s cs
  theirs s a [] p r = record { at = a; numbers = refl; output = refl; session = refl; warnings = sym (warns_none lost c (segments_of m)) }
  theirs s a (x ∷ cs) p r =
      let y = x.call in
      let d = read_met lost s x r.0 in
      let t = x.result.session in
      let i = theirs t (at_next c m o s y t a p.0 d.session) cs p.1 r.1 in
      let v : view t ≡ (answer kit (view s) y).session = ap view d.session ∙ next_view s a.whole y in
      let w = (answer kit (view s) y).session in
      record {
        at = i.at;
        numbers = ap₂ (λ (n : ℕ) (l : List ℕ). n ∷ l) d.number (i.numbers ∙ ap (λ (z : model.Session Columns). (play kit z (calls_of cs)).numbers) v);
        output = ap₂ (λ (l k : List ℕ). l ++ k) d.output (i.output ∙ ap (λ (z : model.Session Columns). (play kit z (calls_of cs)).output) v);
        session = i.session ∙ ap (λ (z : model.Session Columns). (play kit z (calls_of cs)).session) v;
        warnings =
            ap₂ (λ (l k : List Warning). l ++ k)
            (d.warnings ∙ own_warns lost c m (view s) y (at_config s a) p.0)
            (i.warnings ∙ ap (λ (z : model.Session Columns). warns_by lost c (segments_of m) (parts_all z (calls_of cs))) v)
            ∙ sym (warns_append lost c (segments_of m) (parts_of (view s) y) (parts_all w (calls_of cs)));
      }

pub under_rules : (before ours : Rule) → OurRule ours → UnderRules before ours
under_rules before ours law kind T m o a z cs p r t u xs q st =
    let c = config_of kind T in
    let ok = sound kind T m o a z in
    let start = at_open kind T m o a z in
    let A = calls_of cs in
    let B = calls_of (made_in xs) in
    let F = fresh kit c in
    let i = theirs before c m ok o.session start cs p r in
    let last = last_of o.session cs in
    let back = taken_back last (parked_of 1 last) t i.at.tidy (parked_again 1 last (inl refl) (at_native c m ok last i.at)) u in
    let here : At c m ok t.session = subst (At c m ok) (sym back.1) i.at in
    let w = walk c m ok t.session here xs q st in
    let fresh-view : view o.session ≡ F = open_fresh kind T m o a z in
    let G = (play kit F A).session in
    let middle : view t.session ≡ G = ap view back.1 ∙ i.session ∙ ap (λ (v : model.Session Columns). (play kit v A).session) fresh-view in
    let after : outcome_of t.session xs ≡ play kit G B =
    w.same ∙ ran_plays t.session here.whole (made_in xs) w.ran ∙ ap (λ (v : model.Session Columns). play kit v B) middle in
    let d : Demand c m (A ++ B) (play kit F (A ++ B)) =
    subst (λ (v : model.Session Columns). Demand c m (A ++ B) (play kit v (A ++ B))) (is_fresh kind T m o a z)
    (demand c m (sym (open_number_lem kind T m o a) ∙ z) (A ++ B) (join_proper m A B p q)) in
    let ended : (outcome_of t.session xs).session ≡ (play kit F (A ++ B)).session = ap (λ (y : Played Columns). y.session) after ∙ sym (join_session F A B) in
    record {
      up = back.0;
      parked = w.kept;
      numbers =
          ap₂ (λ (l k : List ℕ). l ++ k) (i.numbers ∙ ap (λ (v : model.Session Columns). (play kit v A).numbers) fresh-view) (ap (λ (y : Played Columns). y.numbers) after)
          ∙ sym (join_numbers F A B) ∙ d.same.numbers;
      output =
          ap₂ (λ (l k : List ℕ). l ++ k) (i.output ∙ ap (λ (v : model.Session Columns). (play kit v A).output) fresh-view) (ap (λ (y : Played Columns). y.output) after)
          ∙ sym (join_output F A B) ∙ d.same.output;
      end_outcome = ap (λ (v : model.Session Columns). v.outcome) ended ∙ d.same.outcome;
      counts = ap (λ (v : model.Session Columns). v.counts) ended ∙ d.same.counts;
      taken = ap (λ (v : model.Session Columns). v.taken) ended ∙ d.same.taken;
      ended = ap (λ (v : model.Session Columns). v.ended) ended ∙ d.same.ended;
      later = parts_all G B;
      all_parts = said_more c m ok A p B q;
      warnings =
          ap₂ (λ (l k : List Warning). l ++ k)
          (i.warnings ∙ ap (λ (v : model.Session Columns). warns_by before c (segments_of m) (parts_all v A)) fresh-view ∙ ap (warns_by before c (segments_of m)) (sym (said_all c m ok A p)))
          (ap (λ (y : Played Columns). y.warnings) after ∙ our_warns ours c m law G (play_config F A) B q);
    }

pub later_rule : OurRule lost_later
later_rule c m ps = warns_later c m ps

pub under_one : UnderOne
under_one = under_rules lost_next lost_later later_rule
