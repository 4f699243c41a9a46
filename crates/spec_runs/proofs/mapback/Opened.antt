-- What the reader handed back opens, and the promise is kept for it; what was written is handed back.
use mathlib.Core.Path.{◌≡◌, sym, ap, ap₂, subst, ◌∙◌}
use mathlib.Core.Bool.{true, false, not}
use mathlib.Core.List.{List}
use Prim.Native.Nat.{ℕ, ◌*◌, ◌≤◌}
use native.Mathlib.Omega.{arith}
use lib.Dec.{leb}
use lib.ListN.{length, take}
use borrow.Author.Tests.{not-true, leb-true, le-leb}
use Rattle.spec_base.specs.base.Limits.{most_segments}
use Rattle.spec_base.specs.base.Refusal.{◌or_else◌, fault_unless}
use Rattle.spec_base.specs.base.Put.{put}
use Rattle.spec_base.proofs.base.RefusalLaws.{held, else_zero}
use Rattle.spec_base.proofs.base.PutLaws.{take_put}
use Rattle.spec_text.specs.utf8.Utf8.{utf8}
use Rattle.spec_time.specs.caption_time.Kind.{kind_bad}
use Rattle.spec_time.specs.caption_time.Convert.{timescale_bad}
use Rattle.spec_map.specs.segment.Segment.{segments_of, flat_of, map_bad}
use Rattle.spec_session.specs.session.SessionCalls.{open_of}
use Rattle.promise.proofs.TheDemand.{demand_opened}
use Rattle.spec_map_json.specs.map_json_write.Names.{most_path}
use Rattle.spec_map_json.specs.map_json_write.Text.{map_text}
use Rattle.spec_map_json.specs.map_json_write.Reads.{is_map_text, map_said}
use Rattle.spec_map_json.specs.map_json_write.MapWritten.{write_number, when_done}
use Rattle.spec_map_json.specs.map_json_read.MapRead.{read_number, value_when_done, Reads}
use Rattle.spec_map_json.proofs.map_json_write.Whole.{round_trip}
use Rattle.spec_runs.specs.mapback.Claims.{ReadOpens, WrittenBack}

-- ---- an answer of 0
pub record Fine (text : List ℕ) (places bytes : ℕ) : Type 0 where
  pub good : is_map_text text ≡ true
  pub timescale : timescale_bad (map_said text).timescale ≡ false
  pub map : map_bad (flat_of (map_said text).segments) ≡ false

pub fine : (text : List ℕ) (p b : ℕ) → read_number text p b ≡ 0 → Fine text p b
unfolding read_number
fine text p b e =
    let one = else_zero (fault_unless (is_map_text text) 23) _ e in
    let two = else_zero (fault_unless (not (timescale_bad (map_said text).timescale)) 15) _ one.1 in
    let three = else_zero (fault_unless (not (map_bad (flat_of (map_said text).segments))) 15) _ two.1 in
    record {
      good = held (is_map_text text) 23 (λ z. omega arith) one.0;
      timescale = not-true _ (held (not (timescale_bad (map_said text).timescale)) 15 (λ z. omega arith) two.0);
      map = not-true _ (held (not (map_bad (flat_of (map_said text).segments))) 15 (λ z. omega arith) three.0);
    }

done_list : (k : ℕ) (v : List ℕ) → k ≡ 0 → when_done k v ≡ v
done_list k v e = ap (λ (n : ℕ). when_done n v) e

pub done_value : (k v : ℕ) → k ≡ 0 → value_when_done k v ≡ v
done_value k v e = ap (λ (n : ℕ). value_when_done n v) e

-- what was put, taken again
pub taken_back : (n k : ℕ) (v l l' : List ℕ) → k ≡ 0 → n ≡ length (when_done k v) → l' ≡ put (when_done k v) l → take n l' ≡ v
taken_back n k v l l' e a b = ap₂ take a b ∙ take_put (when_done k v) l ∙ done_list k v e

opens_zero : (kind T : ℕ) (m : List ℕ) → kind_bad kind ≡ false → timescale_bad T ≡ false → map_bad m ≡ false → (open_of kind T m).number ≡ 0
unfolding open_of
opens_zero kind T m a b c = rw (a, b, c)

pub read_opens : ReadOpens
read_opens kind text r map map' path path' hk a z o h =
    let f = fine text (length map) (length path) (sym a.number ∙ z) in
    let t : r.timescale ≡ (map_said text).timescale = a.timescale ∙ done_value r.number (map_said text).timescale z in
    let m : take r.places map' ≡ flat_of (map_said text).segments = taken_back r.places r.number (flat_of (map_said text).segments) map map' z a.places a.numbers in
    let zero : o.number ≡ 0 =
    h.number ∙ opens_zero kind r.timescale (take r.places map') hk (ap timescale_bad t ∙ f.timescale) (ap map_bad m ∙ f.map) in
    record { number = zero; kept = demand_opened kind r.timescale (take r.places map') o h zero }

-- ---- the writer, then the reader
record Written (m : List ℕ) (T : ℕ) (path text : List ℕ) (lent : ℕ) : Type 0 where
  timescale : timescale_bad T ≡ false
  map : map_bad m ≡ false
  short : length path ≤ most_path
  utf : utf8 path ≡ true

written : (m : List ℕ) (T : ℕ) (path text : List ℕ) (lent : ℕ) → write_number m T path text lent ≡ 0 → Written m T path text lent
unfolding write_number
written m T path text lent e =
    let one = else_zero (fault_unless (not (timescale_bad T)) 15) _ e in
    let two = else_zero (fault_unless (not (map_bad m)) 15) _ one.1 in
    let three = else_zero (fault_unless (leb (length path) most_path) 16) _ two.1 in
    let four = else_zero (fault_unless (utf8 path) 20) _ three.1 in
    record {
      timescale = not-true _ (held (not (timescale_bad T)) 15 (λ z. omega arith) one.0);
      map = not-true _ (held (not (map_bad m)) 15 (λ z. omega arith) two.0);
      short = leb-true (length path) most_path (held (leb (length path) most_path) 16 (λ z. omega arith) three.0);
      utf = held (utf8 path) 20 (λ z. omega arith) four.0;
    }

reads_zero : (text : List ℕ) (p b : ℕ) → is_map_text text ≡ true → timescale_bad (map_said text).timescale ≡ false → map_bad (flat_of (map_said text).segments) ≡ false
    → 6 * most_segments ≤ p → most_path ≤ b → read_number text p b ≡ 0
unfolding read_number fault_unless ◌or_else◌
reads_zero text p b g t m hp hb = rw (g, t, m, le-leb (6 * most_segments) p hp, le-leb most_path b hb)

pub written_back : WrittenBack
written_back map T num den path frames w text text' hn hd hf bytes a z r places places' bs bs' hp hb e =
    let full = map_text T num den path frames (segments_of map) in
    let f = written map T path full (length text) (sym a.number ∙ z) in
    let back = round_trip map T num den path frames f.timescale f.map hn hd hf bytes f.utf f.short in
    let same : take w.written text' ≡ full = taken_back w.written w.number full text text' z a.written a.bytes in
    let e' : Reads full r places places' bs bs' = subst (λ (l : List ℕ). Reads l r places places' bs bs') same e in
    let zero : r.number ≡ 0 =
    e'.number
    ∙ reads_zero full (length places) (length bs) back.good (ap timescale_bad back.timescale ∙ f.timescale) (ap map_bad back.map ∙ f.map) hp hb in
    record {
      number = zero;
      timescale = e'.timescale ∙ done_value r.number (map_said full).timescale zero ∙ back.timescale;
      rate_num = e'.rate_num ∙ done_value r.number (map_said full).rate_num zero ∙ back.rate_num;
      rate_den = e'.rate_den ∙ done_value r.number (map_said full).rate_den zero ∙ back.rate_den;
      frame_count = e'.frames ∙ done_value r.number (map_said full).frames zero ∙ back.frames;
      map_back = taken_back r.places r.number (flat_of (map_said full).segments) places places' zero e'.places e'.numbers ∙ back.map;
      path_back = taken_back r.path_len r.number (map_said full).path bs bs' zero e'.path_length e'.path_bytes ∙ back.path;
    }
