-- What the reader handed back can be written: its path is UTF-8.
use mathlib.Core.Path.{◌≡◌, sym, ap, ◌∙◌}
use mathlib.Core.Bool.{true, false}
use mathlib.Core.List.{List}
use Prim.Native.Nat.{ℕ}
use lib.Dec.{eqb, leb}
use lib.ListN.{length, get_or, take}
use borrow.Author.Tests.{eqb-true}
use Rattle.spec_base.specs.base.Refusal.{◌or_else◌, fault_unless}
use Rattle.spec_base.proofs.base.Laws.{and_left, and_right}
use Rattle.spec_text.specs.utf8.Utf8.{utf8}
use Rattle.spec_time.specs.caption_time.Convert.{timescale_bad}
use Rattle.spec_map.specs.segment.Segment.{flat_of, map_bad}
use Rattle.spec_json.specs.json.Space.{padded}
use Rattle.spec_json.specs.json.Str.{string_bytes}
use Rattle.spec_json.specs.json.Value.{value_width}
use Rattle.spec_json.specs.json.Member.{Member, bare, field_of}
use Rattle.spec_json.proofs.json.MemberUtf8.{part_whole, bare_in, field_in_lem, string_utf8}
use Rattle.spec_map_json.specs.map_json_write.Names.{timescale_name, rate_num_name, rate_den_name, input_name, most_path}
use Rattle.spec_map_json.specs.map_json_write.Reads.{short, fields, path_said, fields_said, is_map_text, map_said}
use Rattle.spec_map_json.specs.map_json_write.MapWritten.{write_number}
use Rattle.spec_runs.specs.mapback.Claims.{ReadWritten}
use Rattle.spec_runs.proofs.mapback.Opened.{fine, done_value, taken_back}

-- ---- the path of a map's text
path_in : (ms : List Member) → fields_said ms ≡ true → path_said (field_of input_name ms) ≡ true
unfolding fields_said
path_in ms e =
    and_left (path_said (field_of input_name ms)) _
    (and_right (short rate_den_name ms) _ (and_right (short rate_num_name ms) _ (and_right (short timescale_name ms) _ e)))

record PathOf (s : List ℕ) : Type 0 where
  pub text : utf8 s ≡ true
  pub path : path_said (field_of input_name (fields s)) ≡ true

path_of : (s : List ℕ) → is_map_text s ≡ true → PathOf s
unfolding is_map_text
path_of s e =
    record {
      text = and_left (utf8 s) _ e;
      path = path_in (fields s) (and_right (eqb (get_or (bare 11 s) 0 0) 0x7B) _ (and_right (eqb (padded (value_width 11) s) (length s)) _ (and_right (utf8 s) _ e)));
    }

pub path_utf8 : (s : List ℕ) → is_map_text s ≡ true → utf8 (map_said s).path ≡ true
unfolding map_said
path_utf8 s e =
    let p = path_of s e in
    let v = field_of input_name (fields s) in
    string_utf8 s v p.text (field_in_lem input_name 10 s (bare 11 s) (bare_in 11 s s (part_whole s)).part) (eqb-true (get_or v 0 0) 0x22 (and_left (eqb (get_or v 0 0) 0x22) _ p.path))

path_short : (s : List ℕ) → is_map_text s ≡ true → leb (length (map_said s).path) most_path ≡ true
unfolding map_said
path_short s e = let v = field_of input_name (fields s) in and_right (eqb (get_or v 0 0) 0x22) (leb (length (string_bytes v)) most_path) (path_of s e).path

-- ---- the writer's number
writes_all : (m : List ℕ) (T : ℕ) (path text : List ℕ) (lent : ℕ) → timescale_bad T ≡ false → map_bad m ≡ false → leb (length path) most_path ≡ true → utf8 path ≡ true
    → write_number m T path text lent ≡ fault_unless (leb (length text) lent) 16
unfolding write_number ◌or_else◌ fault_unless
writes_all m T path text lent a b c d = rw (a, b, c, d)

pub read_written : ReadWritten
read_written text r places places' bytes bytes' a z w out out' k =
    let f = fine text (length places) (length bytes) (sym a.number ∙ z) in
    let t : r.timescale ≡ (map_said text).timescale = a.timescale ∙ done_value r.number (map_said text).timescale z in
    let m : take r.places places' ≡ flat_of (map_said text).segments = taken_back r.places r.number (flat_of (map_said text).segments) places places' z a.places a.numbers in
    let p : take r.path_len bytes' ≡ (map_said text).path = taken_back r.path_len r.number (map_said text).path bytes bytes' z a.path_length a.path_bytes in
    let utf : utf8 (take r.path_len bytes') ≡ true = ap utf8 p ∙ path_utf8 text f.good in
    record {
      utf = utf;
      answer = k.number ∙ writes_all (take r.places places') r.timescale (take r.path_len bytes') _ (length out) (ap timescale_bad t ∙ f.timescale) (ap map_bad m ∙ f.map)
          (ap (λ (l : List ℕ). leb (length l) most_path) p ∙ path_short text f.good) utf;
    }
