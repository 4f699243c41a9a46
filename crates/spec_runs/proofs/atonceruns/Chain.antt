-- From the bytes of a sheet and a trim list: the numbers that `retimer_map` wrote are the map, the text is not refused, and the promise is kept (`text_chain`).
use mathlib.Core.Path.{◌≡◌, sym, ap, subst, ◌∙◌}
use mathlib.Core.Bool.{false}
use mathlib.Core.List.{List}
use Prim.Native.Nat.{ℕ, ◌*◌}
use lib.ListN.{length, take}
use Rattle.spec_base.specs.base.Refusal.{◌or_else◌, fault_unless}
use Rattle.spec_time.specs.caption_time.Kind.{kind_bad}
use Rattle.spec_map.specs.segment.Segment.{flat_of}
use Rattle.spec_map.specs.segmap.Map.{map_of, map_number}
use Rattle.spec_map.proofs.segmap.Built.{map_front, map_number_lem, made_good}
use Rattle.promise.proofs.TheDemand.{built_timescale}
use Rattle.spec_runs.specs.one_call.Text.{lengths_fault, refused_with, Retimed}
use Rattle.spec_runs.specs.atonceruns.Claims.{TextHolds, TextChain}
use Rattle.spec_runs.proofs.atonceruns.Text.{text_promise}

module _ (sheet list : List ℕ) (d l work kind : ℕ) (e : (map_of sheet list d l work).number ≡ 0) where
  not_refused : kind_bad kind ≡ false → (n o w t : ℕ) → lengths_fault n o w t ≡ 0
      → refused_with kind (map_of sheet list d l work).timescale (flat_of (map_of sheet list d l work).segments) n o w t ≡ 0
  unfolding refused_with fault_unless ◌or_else◌
  not_refused k n o w t h =
      let g : map_number sheet list d l work ≡ 0 = sym (map_number_lem sheet list d l work) ∙ e in
      rw (built_timescale sheet list d l work e, made_good sheet list d l work g, k, h)

pub text_chain : TextChain
text_chain sheet list d work kind map map' text out out' places places' told told' number e p k h a =
    let M = map_of sheet list d (length map) work in
    let f : take (6 * M.count) map' ≡ flat_of M.segments = ap (take (6 * M.count)) p ∙ map_front sheet list d (length map) work map in
    let b : Retimed kind M.timescale (flat_of M.segments) text out out' places places' told told' number =
    subst (λ (m : List ℕ). Retimed kind M.timescale m text out out' places places' told told' number) f a in
    subst (λ (m : List ℕ). TextHolds kind M.timescale m text number out' places' told') (sym f)
    (text_promise kind M.timescale (flat_of M.segments) text out out' places places' told told' number b
    (not_refused sheet list d (length map) work kind e k (length text) (length out) (length places) (length told) h))
