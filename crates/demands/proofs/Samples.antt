-- The sample device, opened at place 0, on which the wrong boards fall; and the longest replies, which 32 inputs
-- reach in Class 1 (RULES, Inputs) and an input's name in Class 2 (RULES, Class 2). A line shorter than a digest is
-- not led by it: so are those that somebody without the password sends here.
-- Assumes nothing.
use Rattle.std.proofs.Common.{ℕ, ◌<◌, ◌≡◌, false, List, [], arith, length, codes, refl, sym, ap, ◌∙◌, ◌==◌, eq-eqb}
use Rattle.text.specs.Scans.{is_same_by, itself}
use Rattle.text.proofs.Scanning.{long_differs}
use Rattle.digest.specs.Hex.{leading_digest}
use Rattle.digest.proofs.Laws.{length-leading_digest}
use Rattle.device.specs.Receiving.{digest_long}
use Rattle.std.proofs.lemmas.Bool.{false≢true}
use Rattle.record.specs.Limits.{phase_open}
use Rattle.record.specs.declared.types.Device.{Device}
use Rattle.device.specs.Calls.{longest_reply}
use Rattle.ours.specs.Board.{ours}
use Rattle.demands.specs.SpeaksPjlink.{BetweenLines}
use Rattle.demands.specs.ClassOne.{longest_of_class_1}
use Rattle.demands.specs.Sample.{sample, sockets, long_named, memory, opened_after}
use Rattle.demands.specs.Computing.{computing}

pub is_same_by-leading_digest : (random : ℕ) (password l : List ℕ) → length l < digest_long
    → is_same_by itself l (leading_digest random password) ≡ false
is_same_by-leading_digest random password l short = grind (arith, long_differs, length-leading_digest)

-- who sends `x`
pub x_unled : is_same_by itself (codes "x") (leading_digest 7 (codes "JBMIAProjectorLink")) ≡ false
x_unled = is_same_by-leading_digest 7 (codes "JBMIAProjectorLink") (codes "x") (omega arith)

-- what is said equal, and differs by a number of it
pub apart : {A : Type 0} {x y : A} (f : A → ℕ) → x ≡ y → (f x == f y) ≡ false → ⊥
apart {x = x} {y = y} f e differs = false≢true (sym differs ∙ eq-eqb (f x) (f y) (ap f e))

-- off, open, between lines
abbrev pub opened_sample : Device
opened_sample = opened_after sample

pub ready : BetweenLines phase_open opened_sample 0
unfolding computing
ready = record { legal = refl; there = omega arith; in_phase = refl; unmarked = refl; none_held = refl }

pub most_of_class_1_reached :
    (ours.receive (opened_after sockets) 0 (codes "%1INST ?\r") memory).length ≡ longest_of_class_1
unfolding computing
most_of_class_1_reached = refl

pub longest_reply_reached :
    (ours.receive (opened_after long_named) 0 (codes "%2INNM ?11\r") memory).length ≡ longest_reply
unfolding computing
longest_reply_reached = refl

pub nothing_loads : (ours.load []).number ≡ 21
unfolding computing
nothing_loads = refl
