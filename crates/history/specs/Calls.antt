-- A call that can change a record, as a log of a board's history keeps it (RULES, History of a board).
--   LogCall            such a call, at any place; its memory is not kept
--   call_seen c        the same of a call as the code has it
--   received_most      the most bytes that one call of a log receives
--   is_sayable c       a line can say the call: a place and a lamp that there can be, no more bytes than that, error
--                      digits 0 to 2
--   IsTyped c          its numbers are those that the code's types have: every call in the code has it
-- Assumes nothing.
use Rattle.std.specs.List.{list_all}
use Rattle.std.specs.Prelude.{ℕ, ◌≡◌, ◌<◌, ◌^◌, ◌&&◌, Bool, true, List, length, nat_le, nat_lt}
use Rattle.words.specs.ErrorDigits.{is_errors}
use Rattle.history.specs.declared.call.RecordedCall.{RecordedCall}
use Rattle.history.specs.declared.call.RecordedCall.TheVariants.{Opens, Receives, Passes, Closes, Fault, Errors, Mark}

pub data LogCall : Type 0 where
  opens : (place random : ℕ) → LogCall
  receives : (place : ℕ) (bytes : List ℕ) → LogCall
  passes : (seconds : ℕ) → LogCall
  closes : (place : ℕ) → LogCall
  faults : (fault : Bool) → LogCall
  reports : (errors : List ℕ) → LogCall
  enables : (lamp : ℕ) (mark : Bool) → LogCall

abbrev pub call_seen : RecordedCall → LogCall
call_seen (Opens p r) = opens p r
call_seen (Receives p bs) = receives p bs.now
call_seen (Passes n) = passes n
call_seen (Closes p) = closes p
call_seen (Fault m) = faults m
call_seen (Errors status) = reports status.digits
call_seen (Mark k m) = enables k m

abbrev pub received_most : ℕ
received_most = 2046

abbrev pub is_place_number : ℕ → Bool
is_place_number p = nat_le p 3

abbrev pub is_lamp_number : ℕ → Bool
is_lamp_number k = nat_le k 7

abbrev pub is_sayable : LogCall → Bool
is_sayable (opens p r) = is_place_number p
is_sayable (receives p bs) = is_place_number p && nat_le (length bs) received_most
is_sayable (passes n) = true
is_sayable (closes p) = is_place_number p
is_sayable (faults m) = true
is_sayable (reports ds) = is_errors ds
is_sayable (enables k m) = is_lamp_number k

abbrev pub is_byte : ℕ → Bool
is_byte b = nat_lt b 256

abbrev pub IsTyped : LogCall → Type 0
IsTyped (opens p r) = r < 2 ^ 32
IsTyped (receives p bs) = list_all is_byte bs ≡ true
IsTyped (passes n) = n < 2 ^ 32
IsTyped c = Unit {0}
