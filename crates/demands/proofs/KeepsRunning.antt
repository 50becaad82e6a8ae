-- DEMAND 1 holds of our calls: every call stays inside its memory, whatever bytes arrive, on any record; it gives the
-- number of the first row of the table that applies to it; one that gives a number returns the record that it was
-- given, takes nothing and writes nothing; and none makes a legal record otherwise. A refusal replies nothing; a
-- reply has at most 136 bytes, and a digest with a command's line at most 168: no more than what the calls ask for.
-- Assumes nothing.
use Rattle.std.proofs.Common.{ℕ, ◌≤◌, ◌≡◌, ap, List, [], arith, length, take, drop, length-append, length-drop, Bool}
use Rattle.std.proofs.Common.{◌++◌, true, false, refl, ◌∙◌, not, ◌∷◌, if◌then◌else◌}
use Rattle.std.proofs.Math.Seq.{take-append_seam, drop-append_seam}
use Rattle.text.specs.Outcomes.{CallResult, call_number, number_answered}
use Rattle.text.specs.Words.{over}
use Rattle.digest.proofs.Laws.{length-leading_digest}
use Rattle.pjlink.specs.Commands.{command_line, body_of, command_class}
use Rattle.pjlink.specs.declared.command.Command.{Command}
use Rattle.pjlink.proofs.CommandLines.{command_length, length-command_line}
use Rattle.record.specs.declared.refusal.Refusal.{Refusal}
use Rattle.record.specs.Refusals.{refusal_number}
use Rattle.record.specs.declared.types.Device.{Device}
use Rattle.stored.specs.Form.{stored_form}
use Rattle.stored.proofs.Results.{storing_by, refused_store_writes_nothing, storing_number, loading_number}
use Rattle.stored.proofs.Results.{refused_load_blank, accepted_legal}
use Rattle.device.specs.Receiving.{digest_long}
use Rattle.device.specs.Calls.{longest_reply, received_at, opened_by}
use Rattle.device.proofs.Cases.{received_by, opened_by_lem}
use Rattle.device.proofs.Counts.{received_within}
use Rattle.device.proofs.Short.{longest_greeting, receiving_short, opening_short}
use Rattle.controller.specs.Writing.{led_by, unwritten_number}
use Rattle.controller.proofs.Cases.{written_by}
use Rattle.pjlink.proofs.GreetingCases.{greeting_open_lem, greeting_refused, greeting_secured_lem, greeting_none}
use Rattle.ours.specs.Board.{lent_in, wrote_in, ours}
use Rattle.demands.specs.Calls.{Call, opens, receives, number_of, after}
use Rattle.demands.specs.KeepsRunning.{Inside, WroteInside, StaysInside, rows_of, set_up_rows, writer_rows, reader_rows}
use Rattle.demands.specs.KeepsRunning.{greeting_rows, Untouched, WritesNothing, KeepsRunning}
use Rattle.text.specs.Rows.{◌when◌, first_of}
use Rattle.text.specs.Scans.{is_same_by, itself}
use Rattle.pjlink.specs.Forms.{erra_line, greeting_open, is_reply_form, head_body, reply_parameter}
use Rattle.pjlink.specs.Bodies.{is_body}
use Rattle.pjlink.specs.Writings.{IsAllowed}
use Rattle.record.specs.Wanted.{Wanted}
use Rattle.record.specs.Legal.{is_legal}
use Rattle.record.proofs.Results.{set_up_number as set-up-table, fault_number, errors_number, mark_number}
use Rattle.record.proofs.Results.{fault_refusal, errors_refusal, mark_refusal, set_up_refusal}
use Rattle.clock.proofs.Results.{passed_number, passed_refusal}
use Rattle.device.proofs.Numbers.{received_number, opened_number, closed_number}
use Rattle.controller.specs.Reading.{reading_outcome_number, means_it, erra_said, not_a_line, other_command, disallowed}
use Rattle.pjlink.specs.Greetings.{greets, random_in, read_greeting, greeting_number}
use Rattle.controller.proofs.Refusals.{written_number, refusal_writes_nothing, number_means_nothing}
use Rattle.controller.proofs.ReadsSound.{outcome_is_first}
use Rattle.device.proofs.Refusals.{Refused, receiving_refused, opening_refused, closing_refused, none_answered}
use Rattle.record.proofs.HostKept.{fault_legal, errors_legal, mark_legal}
use Rattle.clock.proofs.TimeLegal.{passed_legal}
use Rattle.device.proofs.Legal.{receiving_legal, opening_legal, closing_legal}
use Rattle.record.proofs.Started.{blank_illegal, set_up_legal}

module _ (r m : List ℕ) where
  pub over_front : take (length r) (over r m) ≡ r
  over_front = take-append_seam r (drop (length r) m)

  pub over_later : drop (length r) (over r m) ≡ drop (length r) m
  over_later = drop-append_seam r (drop (length r) m)

  pub length-over : length r ≤ length m → length (over r m) ≡ length m
  length-over h = omega (arith, length-append r (drop (length r) m), length-drop (length r) m)

  pub over_nothing : r ≡ [] → over r m ≡ m
  over_nothing e = ap (λ (s : List ℕ). over s m) e

led_by_long : (secured : Bool) (random : ℕ) (password : List ℕ) → length (led_by secured random password) ≤ digest_long
led_by_long secured random password = grind (arith, length-leading_digest)

module _ (d : Device) (m : List ℕ) where
  abbrev Fits : CallResult Refusal ℕ Device → Type 0
  Fits r = length r.bytes ≤ length m

  received_fits : (p : ℕ) (bs : List ℕ) → Fits (received_at d p bs (length m))
  received_fits p bs =
      received_by d p bs (length m) (λ r. length r.bytes ≤ longest_reply → Fits r) (λ n z short. omega arith)
      (λ h s t c short. omega arith)
      (receiving_short d p bs (length m))

  opened_fits : (random : ℕ) → Fits (opened_by d random (length m))
  opened_fits random =
      opened_by_lem d random (length m) (λ r. length r.bytes ≤ longest_greeting → Fits r) (λ n z short. omega arith)
      (λ h s c short. omega arith)
      (opening_short d random (length m))

  lent_inside : (n : ℕ) (r : CallResult Refusal ℕ Device) → Fits r → Inside m (lent_in refusal_number n r m)
  lent_inside n r h = record { room = length-over r.bytes m h; fits = h; later = over_later r.bytes m }

pub stays_inside : (d : Device) (c : Call) → StaysInside ours d c
stays_inside d (opens random m) = lent_inside d m 0 _ (opened_fits d m random)
stays_inside d (receives p bs m) = (
  lent_inside d m (number_answered (received_at d p bs (length m))) _ (received_fits d m p bs),
  received_within d p bs (length m),
)
stays_inside d c = tt

-- what a call that writes gives in numbers has its number
pub wrote_number : {E : Type 0} (why : E → ℕ) (c : CallResult E (Unit {0}) (Unit {0})) (m : List ℕ)
    → (wrote_in why c m).number ≡ call_number why c
wrote_number why c m = grind arith

wrote_inside : (m bs : List ℕ) (n : ℕ) → length bs ≤ length m
    → WroteInside m (record { number = n; length = length bs; memory = over bs m })
wrote_inside m bs n h = record { room = length-over bs m h; fits = h; later = over_later bs m }

module _ (c : Command) (secured : Bool) (random : ℕ) (password m : List ℕ) where
  pub writer_stays_inside : WroteInside m (ours.write c secured random password m)
  writer_stays_inside =
      written_by c secured random password (length m) (λ r. WroteInside m (wrote_in unwritten_number r m))
      (λ h. wrote_inside m [] 2 (omega arith)) (λ h w. wrote_inside m [] 3 (omega arith))
      (λ h w. wrote_inside m (led_by secured random password ++ command_line c) 0
      (omega (
        arith,
        length-append (led_by secured random password) (command_line c),
        led_by_long secured random password,
        length-command_line c,
        command_length c,
      )))

pub store_stays_inside : (d : Device) (m : List ℕ) → WroteInside m (ours.store d m)
store_stays_inside d m =
    storing_by d (length m) (λ r. WroteInside m (wrote_in refusal_number r m))
    (λ e. wrote_inside m [] (refusal_number e) (omega arith)) (λ h l. wrote_inside m (stored_form d) 0 l)

pub number_is_first : (d : Device) (c : Call) → number_of ours d c ≡ first_of (rows_of d c)
number_is_first d c =
    grind (
      arith,
      opened_number,
      closed_number,
      received_number,
      passed_number,
      fault_number,
      errors_number,
      mark_number,
    )

pub set_up_number : (w : Wanted) → (ours.set_up w).number ≡ first_of (set_up_rows w)
set_up_number = set-up-table

pub writer_number : (c : Command) (secured : Bool) (random : ℕ) (password m : List ℕ)
    → (ours.write c secured random password m).number ≡ first_of (writer_rows c secured password m)
writer_number c secured random password m =
    wrote_number unwritten_number _ m ∙ written_number c secured random password (length m)

-- the outcomes in the order of the tests, and their numbers
by_tests : (erra formed named allowed : Bool)
    → reading_outcome_number
    (if erra then erra_said else if not formed then not_a_line else if not named then other_command
    else if not allowed then disallowed else means_it)
    ≡ first_of ((0 when erra) ∷ (10 when not formed) ∷ (11 when not named) ∷ (12 when not allowed) ∷ [])
by_tests erra formed named allowed = grind arith

pub reader_number : (c : Command) (l : List ℕ) (allowed : Bool) → IsAllowed c (reply_parameter l) allowed
    → reading_outcome_number (ours.read_reply c l).outcome ≡ first_of (reader_rows c l allowed)
reader_number c l allowed said =
    ap reading_outcome_number (outcome_is_first c l said)
    ∙ by_tests (is_same_by itself l erra_line) (is_reply_form (command_class c) l)
    (is_body (command_class c) (head_body l) (body_of c)) allowed

module _ (l : List ℕ) where
  greeting_number-read_greeting : (plain erra secured : Bool) → is_same_by itself l greeting_open ≡ plain
      → is_same_by itself l erra_line ≡ erra → greets l (random_in l) ≡ secured
      → greeting_number (read_greeting l)
      ≡ first_of ((0 when plain) ∷ (0 when erra) ∷ (0 when secured) ∷ (10 when true) ∷ [])
  greeting_number-read_greeting true erra secured p e g = ap greeting_number (greeting_open_lem l p)
  greeting_number-read_greeting false true secured p e g = ap greeting_number (greeting_refused l p e)
  greeting_number-read_greeting false false true p e g = ap greeting_number (greeting_secured_lem l p e g)
  greeting_number-read_greeting false false false p e g = ap greeting_number (greeting_none l p e g)

  pub greeting_reader_number : greeting_number (ours.read_greeting l) ≡ first_of (greeting_rows l)
  greeting_reader_number = greeting_number-read_greeting _ _ _ refl refl refl

lent_untouched : (d : Device) (n : ℕ) (r : CallResult Refusal ℕ Device) (m : List ℕ) → Refused d r → n ≡ 0
    → Untouched m (lent_in refusal_number n r m)
lent_untouched d n r m h none = grind (arith, over_nothing)

pub refused_keeps : (d : Device) (c : Call) → (number_of ours d c ≡ 0 → ⊥)
    → (after ours d c ≡ d) × WritesNothing ours d c
refused_keeps d c n =
    grind (
      arith,
      opening_refused,
      lent_untouched,
      receiving_refused,
      none_answered,
      closing_refused,
      passed_refusal,
      fault_refusal,
      errors_refusal,
      mark_refusal,
    )

pub refused_writer : (c : Command) (secured : Bool) (random : ℕ) (password m : List ℕ)
    → let w = ours.write c secured random password m in
    (w.number ≡ 0 → ⊥) → (w.length ≡ 0) × (w.memory ≡ m)
refused_writer c secured random password m n = grind (arith, refusal_writes_nothing, over_nothing)

pub refused_store : (d : Device) (m : List ℕ) → ((ours.store d m).number ≡ 0 → ⊥)
    → ((ours.store d m).length ≡ 0) × ((ours.store d m).memory ≡ m)
refused_store d m n = grind (arith, refused_store_writes_nothing, over_nothing)

pub stays_legal : (d : Device) (c : Call) → is_legal d ≡ true → is_legal (after ours d c) ≡ true
stays_legal d c h =
    grind (arith, opening_legal, closing_legal, receiving_legal, passed_legal, fault_legal, errors_legal, mark_legal)

pub ours_keeps_running : KeepsRunning ours
ours_keeps_running = record {
  stays_inside = stays_inside;
  writer_stays_inside = writer_stays_inside;
  store_stays_inside = store_stays_inside;
  number_is_first = number_is_first;
  set_up_number = set_up_number;
  writer_number = writer_number;
  reader_number = reader_number;
  greeting_reader_number = greeting_reader_number;
  store_number = λ d m. wrote_number refusal_number _ m ∙ storing_number d (length m);
  load_number = loading_number;
  refused_keeps = refused_keeps;
  refused_opening_place = λ d random m. none_answered (opened_by d random (length m));
  refused_writer_writes_nothing = refused_writer;
  refused_store_writes_nothing = refused_store;
  refused_reader_means_nothing = number_means_nothing;
  refused_set_up_blank = set_up_refusal;
  blank_illegal = blank_illegal;
  set_up_legal = set_up_legal;
  refused_load_blank = refused_load_blank;
  load_legal = accepted_legal;
  stays_legal = stays_legal;
}
