-- What an event came to says what is printed for it, in no more bytes than there is room for.
-- Assumes nothing.
use Rattle.std.proofs.Common.{ℕ, ◌≤◌, ◌≡◌, List, arith, length}
use Rattle.std.proofs.Common.{length-append, length-take, codes, Result, Ok, Err}
use Rattle.std.proofs.Math.Seq.{take-append_seam}
use Rattle.text.specs.Words.{over}
use Rattle.text.specs.Outcomes.{CallResult}
use Rattle.text.proofs.Choices.{if_all}
use Rattle.numbers.specs.Decimal.{digits}
use Rattle.numbers.proofs.Digits.{digits_at_most_10, long_at_most_20}
use Rattle.record.specs.declared.refusal.Refusal.{Refusal}
use Rattle.record.specs.declared.types.Device.{Device}
use Rattle.device.specs.Calls.{reply_room}
use Rattle.device.specs.Outcomes.{as_opened, opened_said}
use Rattle.device.specs.declared.calls.Opened.{Opened}
use Rattle.floorlog.specs.declared.outcome.EventOutcome.{EventOutcome}
use Rattle.floorlog.specs.declared.outcome.EventOutcome.TheVariants.{Served}
use Rattle.floorlog.specs.Outcomes.{refusal_shown, outcome_text, IsReplyWithin}
use Rattle.floorlog.specs.Doing.{EventResult, number_said, with_numbers, outcome}

module _ (r : EventResult) where
  -- a call that was served, its reply over the memory
  pub served_text : {n : ℕ} {m : List ℕ} (out : List ℕ) → Ok tt ≡ r.says → n ≡ length r.bytes → m ≡ over r.bytes out
      → outcome_text (Served n) m ≡ outcome r
  served_text {n} {m} out e long put = grind (arith, take-append_seam)

-- what opening returns is served with the greeting's length
said_served : (s : Result ℕ Refusal) (n : ℕ) {o : Opened} → Ok o ≡ as_opened s n
    → (Ok tt ≡ number_said s) × (o.length ≡ n)
said_served (Ok p) n e = grind arith
said_served (Err why) n e = cc

pub opened_text : (c : CallResult Refusal ℕ Device) {o : Opened} {m : List ℕ} (out : List ℕ) → Ok o ≡ opened_said c
    → m ≡ over c.bytes out → outcome_text (Served o.length) m ≡ outcome (with_numbers c)
opened_text c out e put =
    let (served, long) = said_served c.says (length c.bytes) e in served_text (with_numbers c) out served long put

refusal_short : (n : ℕ) → length (refusal_shown n) ≤ 12
refusal_short n = omega (arith, length-append (codes "! ") (digits n), digits_at_most_10 n)

pub outcome_short : (o : EventOutcome) (m : List ℕ) → IsReplyWithin o reply_room
    → length (outcome_text o m) ≤ reply_room
outcome_short o m h = grind (arith, if_all, length-take, refusal_short)

pub ruleset line_lengths =
    (digits_at_most_10, long_at_most_20, outcome_short, length-append, length-take)
