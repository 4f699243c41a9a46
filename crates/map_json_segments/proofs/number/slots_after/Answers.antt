use mathlib.Core.Path.{refl}
use Rattle.map_json_segments.proofs.SlotLaws.{after_all}
use Rattle.map_json_segments.proofs.number.slots_after.Goals as goal

pub returns-in-Some-First : goal.returns-in-Some-First
returns-in-Some-First c = after_all _ _ _ 1 _ _ _ _ _ _ (rw c.in-Some-First.field-0-is at c.in-Some-First.ensures) c.slot_with.ensures refl refl refl refl refl

pub returns-in-Some-Last : goal.returns-in-Some-Last
returns-in-Some-Last c = after_all _ _ _ 2 _ _ _ _ _ _ (rw c.in-Some-Last.field-0-is at c.in-Some-Last.ensures) refl c.slot_with-in-Some-Last.ensures refl refl refl refl

pub returns-in-Some-Source : goal.returns-in-Some-Source
returns-in-Some-Source c = after_all _ _ _ 3 _ _ _ _ _ _ (rw c.in-Some-Source.field-0-is at c.in-Some-Source.ensures) refl refl c.slot_with-in-Some-Source.ensures refl refl refl

pub returns-in-Some-Frames : goal.returns-in-Some-Frames
returns-in-Some-Frames c = after_all _ _ _ 4 _ _ _ _ _ _ (rw c.in-Some-Frames.field-0-is at c.in-Some-Frames.ensures) refl refl refl c.slot_with-in-Some-Frames.ensures refl refl

pub returns-in-Some-Output : goal.returns-in-Some-Output
returns-in-Some-Output c = after_all _ _ _ 5 _ _ _ _ _ _ (rw c.in-Some-Output.field-0-is at c.in-Some-Output.ensures) refl refl refl refl c.slot_with-in-Some-Output.ensures refl

pub returns-in-Some-Duration : goal.returns-in-Some-Duration
returns-in-Some-Duration c = after_all _ _ _ 6 _ _ _ _ _ _ (rw c.in-Some-Duration.field-0-is at c.in-Some-Duration.ensures) refl refl refl refl refl c.slot_with-in-Some-Duration.ensures

pub returns-in-None : goal.returns-in-None
returns-in-None c = after_all _ _ _ 0 _ _ _ _ _ _ c.in-None.ensures refl refl refl refl refl refl
