-- What stands where the reader is.
-- Assumes nothing.
use Rattle.std.proofs.Common.{◌≡◌, List, ℕ, false, arith, Option, Some, None, Ok, refl}
use Rattle.record.specs.declared.types.Device.{Device}
use Rattle.history.specs.Entries.{LogEntry, header, call, stated, entry_in}
use Rattle.history.specs.Recording.{cannot_follow}
use Rattle.history.specs.declared.recorder.Recorder.{Recorder}
use Rattle.recorded.specs.Chain.{Misfit, misfit, unless, said_there, entry_told}

can_follow : (r : Recorder) (d : Device) (e : LogEntry) → misfit r d e ≡ None → cannot_follow r e ≡ false
unfolding misfit
can_follow r d (header f s t) h = refl
can_follow r d (call c) h = grind arith
can_follow r d (stated n s shown) h = grind arith

-- what was told of a line, the entry is what it says, and nothing is amiss
unless_none : (m : Option Misfit) (f e : LogEntry) → unless m f ≡ Ok e → (f ≡ e) × (m ≡ None)
unless_none None f e h = (cc, refl)
unless_none (Some why) f e h = cc

at_said : (r : Recorder) (d : Device) (o : Option LogEntry) (e : LogEntry) → said_there r d o ≡ Ok e
    → (o ≡ Some e) × (misfit r d e ≡ None)
at_said r d None e h = cc
at_said r d (Some f) e h =
    let q = unless_none (misfit r d f) f e h in
    (cc, cc)

pub entry_said : (r : Recorder) (d : Device) (l : List ℕ) (e : LogEntry) → entry_told r d l ≡ Ok e
    → (entry_in l ≡ Some e) × (misfit r d e ≡ None)
entry_said r d l e h = at_said r d (entry_in l) e h

pub stands_follow : (r : Recorder) (d : Device) (l : List ℕ) (e : LogEntry) → entry_told r d l ≡ Ok e
    → cannot_follow r e ≡ false
stands_follow r d l e h = can_follow r d e (entry_said r d l e h).1
