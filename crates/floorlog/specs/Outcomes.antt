-- What an event of a log comes to, and how it is printed (RULES, Floor log).
--   reply_text s           what is printed for the reply s: "the reply without CR, or `-` for none"
--   refusal_shown n        "`! ` and the number of a refusal"
--   outcome_text o m       what is printed for the outcome o, where its reply is at the start of m
--   answer_of o            the number of its call; None for a line of no form
--   IsReplyWithin o n      its reply, if any, has at most n bytes
--   printed_most           how many bytes a printed line has at most; the last line has no more
-- Assumes nothing.
use Rattle.std.specs.Prelude.{ℕ, ◌-◌, ◌≤◌, List, ◌++◌, length, take, if◌then◌else◌, ◌==◌, codes}
use Rattle.std.specs.Prelude.{Some, None}
use Rattle.std.specs.declared.option.Option.{Option}
use Rattle.numbers.specs.Decimal.{digits}
use Rattle.record.specs.Refusals.{refusal_number}
use Rattle.floorlog.specs.declared.outcome.EventOutcome.{EventOutcome}
use Rattle.floorlog.specs.declared.outcome.EventOutcome.TheVariants.{Served, Refused, AlreadyOpen, NoSuch}

abbrev pub reply_text : List ℕ → List ℕ
reply_text s = if length s == 0 then codes "-" else take (length s - 1) s

abbrev pub refusal_shown : ℕ → List ℕ
refusal_shown n = codes "! " ++ digits n

abbrev pub outcome_text : EventOutcome → List ℕ → List ℕ
outcome_text (Served n) m = reply_text (take n m)
outcome_text (Refused r) m = refusal_shown (refusal_number r)
outcome_text AlreadyOpen m = refusal_shown 5
outcome_text NoSuch m = codes "?"

abbrev pub answer_of : EventOutcome → Option ℕ
answer_of (Served n) = Some 0
answer_of (Refused r) = Some (refusal_number r)
answer_of AlreadyOpen = Some 5
answer_of NoSuch = None

abbrev pub IsReplyWithin : EventOutcome → ℕ → Type 0
IsReplyWithin (Served n) most = n ≤ most
IsReplyWithin o most = Unit {0}

abbrev pub printed_most : ℕ
printed_most = 158
