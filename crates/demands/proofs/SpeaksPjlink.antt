-- DEMAND 2 holds of our calls: here that a name which set-up accepts is one that the reader accepts (RULES, Texts), and
-- what set-up and opening leave; the rest stands in the files that it names.
-- Assumes nothing.
use Rattle.std.proofs.Common.{◌≡◌, ◌++◌, arith, codes, ℕ, refl, List, length}
use Rattle.text.specs.Outcomes.{call_number, number_answered}
use Rattle.pjlink.specs.declared.command.Command.TheVariants.{Query}
use Rattle.pjlink.specs.declared.body.Body.TheVariants.{Name}
use Rattle.pjlink.specs.Said.{text_is}
use Rattle.record.specs.Refusals.{refusal_number}
use Rattle.record.specs.SetUpErrors.{set_up_error_number}
use Rattle.record.specs.Wanted.{Wanted}
use Rattle.record.specs.declared.types.Device.{Device}
use Rattle.record.specs.declared.types.Setting.TheVariants.{Name as ItsName}
use Rattle.record.proofs.Calls.{set_up_by}
use Rattle.record.proofs.OutOfRange.{each_in_range}
use Rattle.controller.specs.Reading.{meaning}
use Rattle.controller.proofs.NamesRead.{accepted_name_is_read}
use Rattle.ours.specs.Board.{ours, opened_in}
use Rattle.record.specs.Record.{start_device}
use Rattle.record.proofs.Started.{set_up_started}
use Rattle.device.specs.Calls.{greeting}
use Rattle.device.proofs.Cases.{opened_by_lem}
use Rattle.demands.specs.CallsDone.{OpenedAs, Leaves}
use Rattle.demands.proofs.KeepsRunning.{over_front}
use Rattle.device.proofs.Short.{receiving_short}
use Rattle.pjlink.proofs.GreetingsHeard.{heard_exactly}
use Rattle.controller.proofs.ReadsSound.{means_what_was_written, what_was_written_is_meant, erra_exactly}
use Rattle.controller.proofs.Refusals.{erra_read}
use Rattle.demands.proofs.Received.{received}
use Rattle.demands.specs.Calls.{closes, faults, reports, enables}
use Rattle.demands.specs.SpeaksPjlink.{SpeaksPjlink}
use Rattle.demands.proofs.LinesAnswered.{line_answered, led_line_answered, same_however_cut, outsider_refused}
use Rattle.demands.proofs.OutsiderHasNoSay.{outsider_has_no_say, outsiders_have_no_say}
use Rattle.demands.proofs.CallsKeep.{others_untouched}
use Rattle.demands.proofs.CallsDo.{served_after}
use Rattle.demands.proofs.WrittenAndRead.{writes, reads_back, reads_back_secured, greets_back}

pub names_read : (w : Wanted) → (ours.set_up w).number ≡ 0
    → ours.read_reply (Query Name) (codes "%1NAME=" ++ w.name ++ codes "\r") ≡ meaning (text_is w.name)
names_read w =
    set_up_by w
    (λ c. call_number set_up_error_number c ≡ 0
    → ours.read_reply (Query Name) (codes "%1NAME=" ++ w.name ++ codes "\r") ≡ meaning (text_is w.name))
    (λ s e. absurd (omega arith)) (λ e. absurd (omega arith))
    (λ h e. accepted_name_is_read w.name (each_in_range w h ItsName))

pub set_up_shows : (w : Wanted) → Leaves ours (ours.set_up w) (start_device w)
set_up_shows w accepted = set_up_started w accepted

module _ (d : Device) where
  pub opens : (random : ℕ) (m : List ℕ) → (ours.opening d random m).number ≡ 0
      → OpenedAs ours d random (ours.place_opened d random m) (ours.opening d random m)
  opens random m =
      opened_by_lem d random (length m)
      (λ c. call_number refusal_number c ≡ 0 → OpenedAs ours d random (number_answered c) (opened_in c m))
      (λ n z e. absurd (z e))
      (λ h k c e. record {
        taken = refl;
        replied = over_front (greeting d.settings random) m;
        lowest = refl;
        device = refl;
      })

pub ours_speaks_pjlink : SpeaksPjlink ours
ours_speaks_pjlink = record {
  digest = λ s. refl;
  answers = λ d p l m between plain enough. line_answered d p l m plain enough between;
  answers_led = λ d p l m between plain short enough. led_line_answered d p l m plain enough between short;
  reply_short = λ d p bs m. receiving_short d p bs (length m);
  reads_what_is_said = means_what_was_written;
  what_is_said_is_read = what_was_written_is_meant;
  erra_exactly = erra_exactly;
  erra_means_nothing = erra_read;
  writes = writes;
  reads_back = λ d p c random password paper m between writable roomy enough.
      reads_back d p c paper m writable roomy enough random password between;
  reads_back_secured = λ d p c paper m between writable roomy enough.
      reads_back_secured d p c paper m writable roomy enough between;
  names_read = names_read;
  outsider_refused = outsider_refused;
  outsider_has_no_say = λ d p cs legal secured. outsider_has_no_say d cs legal secured p;
  outsiders_have_no_say = outsiders_have_no_say;
  set_up_shows = set_up_shows;
  opens = opens;
  receives = received;
  closes = λ d p. served_after d (closes p);
  marks = λ d fault. served_after d (faults fault);
  reports = λ d errors. served_after d (reports errors);
  enables = λ d lamp mark. served_after d (enables lamp mark);
  greets_back = greets_back;
  greeting_is = heard_exactly;
  same_however_cut = same_however_cut;
  others_untouched = λ d c q. others_untouched d q c;
}
