-- A map's text, written and read: what the answers say of the lent places.
use mathlib.Core.Path.{◌≡◌, refl, sym, ap, ◌∙◌}
use mathlib.Core.Bool.{Bool, true, false, cond}
use mathlib.Core.List.{List, []}
use Prim.Native.Nat.{ℕ}
use lib.Dec.{eqb}
use lib.ListN.{length}
use Rattle.spec_base.specs.base.Put.{put}
use Rattle.spec_base.specs.base.Refusal.{left_in}
use Rattle.spec_map.specs.segment.Segment.{segments_of, flat_of}
use Rattle.spec_map_json.specs.declared.map_json_write.Wrote.{Wrote}
use Rattle.spec_map_json.specs.map_json_write.Text.{map_text}
use Rattle.spec_map_json.specs.map_json_write.Reads.{map_said}
use Rattle.spec_map_json.specs.map_json_write.MapWritten.{write_number, when_done, Writes}
use Rattle.spec_map_json.specs.declared.map_json_read.Taken.{Taken}
use Rattle.spec_map_json.specs.map_json_read.MapRead.{read_number, value_when_done, Reads}

length_left : (b : Bool) (x : List ℕ) (n : ℕ) → cond b (length (cond b x [])) n ≡ cond b (length x) n
length_left true x n = refl
length_left false x n = refl

-- ---- the writer
module _ (m : List ℕ) (T num den : ℕ) (path : List ℕ) (frames : ℕ) (w : Wrote) (t t' : List ℕ) (a : Writes m T num den path frames w t t') where
  pub write_number_lem : w.number ≡ write_number m T path (map_text T num den path frames (segments_of m)) (length t)
  write_number_lem = a.number

  pub write_bytes : t' ≡ put (when_done w.number (map_text T num den path frames (segments_of m))) t
  write_bytes = a.bytes

pub written_left : (m : List ℕ) (T num den : ℕ) (path : List ℕ) (frames : ℕ) (w : Wrote) (t t' : List ℕ) → Writes m T num den path frames w t t' → (n v : ℕ)
    → v ≡ left_in w.number w.written n → v ≡ left_in w.number (length (map_text T num den path frames (segments_of m))) n
unfolding left_in
written_left m T num den path frames w t t' a n v e =
    e
    ∙ ap (λ (k : ℕ). cond (eqb w.number 0) k n) a.written
    ∙ length_left (eqb w.number 0) (map_text T num den path frames (segments_of m)) n

-- ---- the reader, refused: a place stays
module _ (text : List ℕ) (t : Taken) (map map' path path' : List ℕ) (a : Reads text t map map' path path') where
  pub read_number_lem : t.number ≡ read_number text (length map) (length path)
  read_number_lem = a.number

  pub read_map : map' ≡ put (when_done t.number (flat_of (map_said text).segments)) map
  read_map = a.numbers

  pub read_path : path' ≡ put (when_done t.number (map_said text).path) path
  read_path = a.path_bytes

-- ---- and done
module _ (text : List ℕ) (t : Taken) (map map' path path' : List ℕ) (a : Reads text t map map' path path') (z : t.number ≡ 0) where
  pub done_number : 0 ≡ read_number text (length map) (length path)
  done_number = sym z ∙ a.number

  pub done_map : map' ≡ put (when_done 0 (flat_of (map_said text).segments)) map
  done_map = a.numbers ∙ ap (λ (k : ℕ). put (when_done k (flat_of (map_said text).segments)) map) z

  pub done_path : path' ≡ put (when_done 0 (map_said text).path) path
  done_path = a.path_bytes ∙ ap (λ (k : ℕ). put (when_done k (map_said text).path) path) z

  pub done_timescale : (n : ℕ) → t.timescale ≡ left_in 0 (map_said text).timescale n
  unfolding left_in
  done_timescale n = a.timescale ∙ ap (λ (k : ℕ). value_when_done k (map_said text).timescale) z

  pub done_rate_num : (n : ℕ) → t.rate_num ≡ left_in 0 (map_said text).rate_num n
  unfolding left_in
  done_rate_num n = a.rate_num ∙ ap (λ (k : ℕ). value_when_done k (map_said text).rate_num) z

  pub done_rate_den : (n : ℕ) → t.rate_den ≡ left_in 0 (map_said text).rate_den n
  unfolding left_in
  done_rate_den n = a.rate_den ∙ ap (λ (k : ℕ). value_when_done k (map_said text).rate_den) z

  pub done_frames : (n : ℕ) → t.frames ≡ left_in 0 (map_said text).frames n
  unfolding left_in
  done_frames n = a.frames ∙ ap (λ (k : ℕ). value_when_done k (map_said text).frames) z

  pub done_numbers : (n : ℕ) → t.places ≡ left_in 0 (length (flat_of (map_said text).segments)) n
  unfolding left_in
  done_numbers n = a.places ∙ ap (λ (k : ℕ). length (when_done k (flat_of (map_said text).segments))) z

  pub done_length : (n : ℕ) → t.path_len ≡ left_in 0 (length (map_said text).path) n
  unfolding left_in
  done_length n = a.path_length ∙ ap (λ (k : ℕ). length (when_done k (map_said text).path)) z
