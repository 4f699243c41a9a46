-- From an open on, then from the bytes of a sheet and a list on.
use mathlib.Core.Path.{◌≡◌, refl, ap, ◌∙◌}
use mathlib.Core.List.{List, []}
use Prim.Native.Nat.{ℕ, ◌≤◌, ◌<◌, ◌*◌}
use lib.ListN.{length, take}
use borrow.Author.Tests.{lt-ltb, le-ltb}
use native.Mathlib.Omega.{arith}
use Rattle.spec_base.specs.base.Limits.{most_work}
use Rattle.spec_base.specs.base.Put.{put}
use Rattle.spec_base.proofs.base.Laws.{yes!, no! }
use Rattle.spec_base.proofs.base.RefusalLaws.{else_here, else_next}
use Rattle.spec_map.specs.declared.segmap.Made.{Made}
use Rattle.spec_map.specs.segment.Segment.{flat_of}
use Rattle.spec_map.specs.segmap.Map.{Map, map_of, made_of}
use Rattle.spec_map.proofs.segmap.Built.{map_front}
use Rattle.spec_session.specs.declared.session_state.Session.{Session}
use Rattle.spec_session.specs.declared.session.Opened.{Opened}
use Rattle.spec_session.specs.session.SessionCalls.{OpenAnswered}
use Rattle.files_retime.specs.Retimed.{pass_number, run_number, through_map, retime_number, Passes, Runs, Chooses, Retimes}

-- ---- one file
module _ (k t : ℕ) (m : List ℕ) (r : Opened) (a : OpenAnswered k t m r) where
  pub runs_refused : (r.number ≡ 0 → ⊥) → Runs k t m r.number
  unfolding run_number
  runs_refused h = record { pieces = []; sized = tt; number = else_here _ _ r.number a.number h }

  pub runs_passed : (v : ℕ) → r.number ≡ 0 → Passes r.session m v → Runs k t m v
  unfolding run_number
  runs_passed v z p =
      record {
        pieces = p.pieces;
        sized = p.sized;
        number = else_next _ _ r.number v a.number z (p.number ∙ ap (λ (s : Session). pass_number s m p.pieces) a.session);
      }

pub chooses : (k t : ℕ) (m : List ℕ) (v : ℕ) → k ≤ 2 → Runs k t m v → Chooses t m v
chooses k t m v h p = record { kind = k; known = h; runs = p }

-- ---- the whole
module _ (s l : List ℕ) where
  pub retimes_large : 65536 < length s → Retimes s l 11
  unfolding retime_number
  retimes_large h = record { kind = 0; known = omega arith; pieces = []; sized = tt; number = yes! _ (lt-ltb 65536 (length s) h) refl }

  -- what was made, with the places that were lent
  module _ (n w : ℕ) (r : Made) (e : r ≡ made_of (map_of s l 0 n w)) (q : n ≡ 6144) (u : w ≡ most_work) where
    map_is : map_of s l 0 n w ≡ map_of s l 0 6144 most_work
    map_is = ap (λ (x : ℕ). map_of s l 0 x w) q ∙ ap (map_of s l 0 6144) u

    made_map : r ≡ made_of (map_of s l 0 6144 most_work)
    made_map = e ∙ ap made_of map_is

    told_number : r.number ≡ (map_of s l 0 6144 most_work).number
    unfolding made_of
    told_number = ap (λ (x : Made). x.number) made_map

    told_timescale : r.timescale ≡ (map_of s l 0 6144 most_work).timescale
    unfolding made_of
    told_timescale = ap (λ (x : Made). x.timescale) made_map

    told_count : r.count ≡ (map_of s l 0 6144 most_work).count
    unfolding made_of
    told_count = ap (λ (x : Made). x.count) made_map

    pub retimes_refused : length s ≤ 65536 → (r.number ≡ 0 → ⊥) → Retimes s l r.number
    unfolding retime_number through_map
    retimes_refused h z =
        record {
          kind = 0;
          known = omega arith;
          pieces = [];
          sized = tt;
          number = no! _ (le-ltb 65536 (length s) h) (else_here _ _ r.number told_number z);
        }

    -- the first segments of the places are the map
    kept_map : (m₀ m kept : List ℕ) → m ≡ put (flat_of (map_of s l 0 n w).segments) m₀ → kept ≡ take (6 * r.count) m → kept ≡ flat_of (map_of s l 0 6144 most_work).segments
    kept_map m₀ m kept f g =
        let a : m ≡ put (flat_of (map_of s l 0 6144 most_work).segments) m₀ = f ∙ ap (λ (x : Map). put (flat_of x.segments) m₀) map_is in
        let b : take (6 * r.count) m ≡ take (6 * (map_of s l 0 6144 most_work).count) m = ap (λ (x : ℕ). take (6 * x) m) told_count in
        g ∙ b ∙ ap (take (6 * (map_of s l 0 6144 most_work).count)) a ∙ map_front s l 0 6144 most_work m₀

    pub retimes_run : length s ≤ 65536 → r.number ≡ 0 → (m₀ m kept : List ℕ) → m ≡ put (flat_of (map_of s l 0 n w).segments) m₀ → kept ≡ take (6 * r.count) m
        → (v : ℕ) → Chooses r.timescale kept v → Retimes s l v
    unfolding retime_number through_map
    retimes_run h z m₀ m kept f g v c =
        let ps : List (List ℕ) = c.runs.pieces in
        let a : v ≡ run_number c.kind (map_of s l 0 6144 most_work).timescale (flat_of (map_of s l 0 6144 most_work).segments) ps =
        c.runs.number
        ∙ ap (λ (x : ℕ). run_number c.kind x kept ps) told_timescale
        ∙ ap (λ (x : List ℕ). run_number c.kind (map_of s l 0 6144 most_work).timescale x ps) (kept_map m₀ m kept f g) in
        record {
          kind = c.kind;
          known = c.known;
          pieces = ps;
          sized = c.runs.sized;
          number = no! _ (le-ltb 65536 (length s) h) (else_next _ _ r.number v told_number z a);
        }
