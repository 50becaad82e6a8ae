-- A board: anything that answers the calls of RULES, those of the stored form and of the lamps' marks too, with four
-- places for controllers (RULES, Places), set up for Class 1 or Class 2 (RULES, Class 2). The demands are stated over
-- it, so that wrong boards can be tried.
--   Given R       what a call gives: its number, and the record
--   Lent R        what a call gives that is lent reply memory: its number, the bytes taken, the reply's length, the
--                 memory as the call leaves it, and the record
--   reply r       the reply: as many bytes of the memory as the length tells
--   Board R       the calls, on a record R: it may hold more than the device record, which `shows` gives
--   given_in why c      the call's result c in a board's numbers: the number, by `why`, and the record
--   lent_in why taken c m   the same of one that borrows the reply memory m and takes so many bytes
--   received_in c m, opened_in c m   of receiving, which answers how many bytes it takes; of opening, which takes none
--   wrote_in why c m    of one that writes, and leaves no record;    wrote_as why r m   of what it returned, and the
--                       memory that it left
--   ours          our calls: beside each, the function whose contract says this very definition
-- Assumes nothing.
use Rattle.std.specs.Prelude.{ℕ, Bool, List, Option, Result, length, take}
use Rattle.text.specs.Words.{over}
use Rattle.digest.specs.Md5.{md5_of}
use Rattle.pjlink.specs.declared.command.Command.{Command}
use Rattle.record.specs.declared.types.Device.{Device}
use Rattle.record.specs.Wanted.{Wanted}
use Rattle.record.specs.SetUp.{set_up}
use Rattle.record.specs.HostCalls.{fault_set, errors_set, mark_set}
use Rattle.stored.specs.Form.{stored_by}
use Rattle.stored.specs.Loading.{loaded_from}
use Rattle.stored.specs.Told.{load_error_number}
use Rattle.clock.specs.Passing.{time_passed}
use Rattle.device.specs.Calls.{opened_by, closed_by, received_at}
use Rattle.text.specs.Outcomes.{CallResult, call_number, outcome_number, answer_number, number_answered, with_length}
use Rattle.record.specs.Refusals.{refusal_number}
use Rattle.record.specs.SetUpErrors.{set_up_error_number}
use Rattle.record.specs.declared.refusal.Refusal.{Refusal}
use Rattle.controller.specs.Writing.{written_command, unwritten_number}
use Rattle.controller.specs.Reading.{ReadAs, read_reply}
use Rattle.pjlink.specs.Greetings.{read_greeting}
use Rattle.pjlink.specs.declared.greeting.Greeting.{Greeting}

pub record Given (R : Type 0) : Type 0 where
  pub number : ℕ
  pub device : R

pub record Lent (R : Type 0) : Type 0 where
  pub number : ℕ
  pub taken : ℕ
  pub length : ℕ
  pub memory : List ℕ
  pub device : R

abbrev pub reply : {R : Type 0} → Lent R → List ℕ
reply r = take r.length r.memory

-- what the controller's writer and storing give: they are lent memory, and give no record
pub record Wrote : Type 0 where
  pub number : ℕ
  pub length : ℕ
  pub memory : List ℕ

abbrev pub bytes_written : Wrote → List ℕ
bytes_written w = take w.length w.memory

-- memory is the last argument wherever it is lent; closing and receiving are at a place
pub record Board (R : Type 0) : Type 0 where
  pub shows : R → Device
  pub set_up : Wanted → Given R
  pub opening : R → ℕ → List ℕ → Lent R
  -- what an opening tells beside that: the place
  pub place_opened : R → ℕ → List ℕ → ℕ
  pub closing : R → ℕ → Given R
  pub receive : R → ℕ → List ℕ → List ℕ → Lent R
  pub pass : R → ℕ → Given R
  pub set_fault : R → Bool → Given R
  pub set_errors : R → List ℕ → Given R
  pub set_mark : R → ℕ → Bool → Given R
  pub store : R → List ℕ → Wrote
  pub load : List ℕ → Given R
  pub md5 : List ℕ → List ℕ
  pub write : Command → Bool → ℕ → List ℕ → List ℕ → Wrote
  pub read_reply : Command → List ℕ → ReadAs
  pub read_greeting : List ℕ → Option Greeting

-- the results of the crates below; the reply's length is its own, and it lies over the lent memory
abbrev pub given_in : {E A D : Type 0} → (E → ℕ) → CallResult E A D → Given D
given_in why c = record { number = call_number why c; device = c.leaves }

abbrev pub lent_in : {E A D : Type 0} → (E → ℕ) → ℕ → CallResult E A D → List ℕ → Lent D
lent_in why taken c m = record {
  number = call_number why c;
  taken = taken;
  length = length c.bytes;
  memory = over c.bytes m;
  device = c.leaves;
}

abbrev pub received_in : CallResult Refusal ℕ Device → List ℕ → Lent Device
received_in c m = lent_in refusal_number (number_answered c) c m

abbrev pub opened_in : CallResult Refusal ℕ Device → List ℕ → Lent Device
opened_in c m = lent_in refusal_number 0 c m

-- of what a call returned that writes, and the memory that it left
abbrev pub wrote_as : {E : Type 0} → (E → ℕ) → Result ℕ E → List ℕ → Wrote
wrote_as why r m = record { number = outcome_number why r; length = answer_number (λ n. n) r; memory = m }

abbrev pub wrote_in : {E : Type 0} → (E → ℕ) → CallResult E (Unit {0}) (Unit {0}) → List ℕ → Wrote
wrote_in why c m = wrote_as why (with_length c) (over c.bytes m)

abbrev pub ours : Board Device
ours = record {
  shows = λ d. d;
  -- setup::set_up; what it cannot be lent, a class that there is not, is out of range
  set_up = λ w. given_in set_up_error_number (set_up w);
  -- device::calls::open
  opening = λ d random m. opened_in (opened_by d random (length m)) m;
  place_opened = λ d random m. number_answered (opened_by d random (length m));
  -- device::calls::close
  closing = λ d p. given_in refusal_number (closed_by d p);
  -- device::calls::receive
  receive = λ d p bs m. received_in (received_at d p bs (length m)) m;
  -- clock::pass::pass
  pass = λ d n. given_in refusal_number (time_passed d n);
  -- record::legality::Legal::set_fault (record/src/host.rt)
  set_fault = λ d mark. given_in refusal_number (fault_set d mark);
  -- record::legality::Legal::set_errors (record/src/host.rt)
  set_errors = λ d digits. given_in refusal_number (errors_set d digits);
  -- record::legality::Legal::set_mark (record/src/host.rt)
  set_mark = λ d lamp mark. given_in refusal_number (mark_set d lamp mark);
  -- stored::storing::store
  store = λ d m. wrote_in refusal_number (stored_by d (length m)) m;
  -- stored::loading::load
  load = λ s. given_in load_error_number (loaded_from s);
  -- digest::md5
  md5 = md5_of;
  -- controller::writing::write_command
  write = λ c secured random password m.
      wrote_in unwritten_number (written_command c secured random password (length m)) m;
  -- controller::reading::read_reply
  read_reply = read_reply;
  -- pjlink::greeting::Greeting::read
  read_greeting = read_greeting;
}
