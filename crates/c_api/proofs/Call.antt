-- What a call over bytes told, place by place.
use mathlib.Core.Path.{◌≡◌, ap, ◌∙◌}
use mathlib.Core.List.{List}
use Prim.Native.Nat.{ℕ}
use lib.ListN.{length}
use Rattle.spec_base.specs.base.Put.{put}
use Rattle.spec_machine.specs.session_counts.Session.{Call}
use Rattle.spec_parking.specs.declared.session_bytes.Told.{Told}
use Rattle.spec_parking.specs.session_bytes.ByteCalls.{call_number, bytes_after, text_out, places_in, told_in, Called}

module _ (x : Call) (r : Told) (b b' out out' places places' : List ℕ) (a : Called x r b b' out out' places places') where
  pub number_called : r.number ≡ call_number b x
  number_called = a.number

  pub bytes_called : b' ≡ bytes_after b x
  bytes_called = a.bytes

  pub text_called : out' ≡ put (text_out b x) out
  text_called = a.text

  pub warnings_called : places' ≡ put (places_in b x) places
  warnings_called = a.warnings

  pub written_called : (n v : ℕ) → v ≡ told_in r.number r.written n → v ≡ told_in r.number (length (text_out b x)) n
  written_called n v e = e ∙ ap (λ (w : ℕ). told_in r.number w n) a.written

  pub warned_called : (n v : ℕ) → v ≡ told_in r.number r.warned n → v ≡ told_in r.number (length (places_in b x)) n
  warned_called n v e = e ∙ ap (λ (w : ℕ). told_in r.number w n) a.warned
