-- A line of a log of the second kind that does not belong leaves the watch where it stood; and what each line is.
-- Assumes nothing.
use Rattle.std.proofs.Common.{ℕ, ◌≡◌, refl, Bool, true, false, arith, Result, Ok, Err, Option, Some}
use Rattle.std.proofs.Common.{None, IfSome}
use Rattle.record.specs.declared.types.Device.{Device}
use Rattle.textio.specs.Lines.{LogLine}
use Rattle.history.specs.Entries.{LogEntry}
use Rattle.history.specs.declared.recorder.Recorder.{Recorder}
use Rattle.recorded.specs.Chain.{Misfit, unended, entry_told, made_told, log_made}
use Rattle.recorded.specs.declared.chain.Why.{Why}
use Rattle.recorded.proofs.Followed.{line_unended, line_misfit, line_stray, line_belongs}
use Rattle.recorded.proofs.StrayKeeps.{KeepsOwn}
use Rattle.watch.specs.CallSteps.{entry_step}
use Rattle.watch.specs.Watching.{Watching, is_sound}
use Rattle.watch.specs.States.{IsLeft, IsMade, misfit_made, misfit_seen, IsLineStray, LineLeaves}

module _ (s : Watching) {d : Device} (keeps : KeepsOwn s.device d) where
  abbrev left : Watching
  left = record { device = d; time = s.time; from = s.from; burnt = s.burnt }

  pub is_left : IsLeft s left
  is_left = record { settings = keeps.settings; own = keeps.own; time = refl; from = refl; burnt = refl }

  pub left_sound : is_sound s ≡ true → is_sound left ≡ true
  unfolding is_sound
  left_sound sound = grind (arith, keeps.own)

-- ---- a line of a log of the second kind, by what it is

module _ (s : Watching) (log : Recorder) (l : LogLine) where
  stays : IsLeft s s
  stays = record { settings = refl; own = refl; time = refl; from = refl; burnt = refl }

  belongs_so : (m : Result ℕ Misfit) → None ≡ misfit_made m → (n : ℕ) × (m ≡ Ok n)
  belongs_so (Ok n) h = (n, refl)
  belongs_so (Err why) h = cc

  strays_so : (m : Result ℕ Misfit) {why : Misfit} → Some why ≡ misfit_made m → m ≡ Err why
  strays_so (Ok n) h = cc
  strays_so (Err why) h = cc

  pub unended_strays : l.ended ≡ false → IsLineStray s log l s unended
  unended_strays h = record { told = line_unended log s.device l h; left = stays }

  module _ (ended : l.ended ≡ true) where
    pub misfit_strays : {why : Misfit} → entry_told log s.device l.text ≡ Err why → IsLineStray s log l s why
    misfit_strays h = record { told = line_misfit log s.device l ended h; left = stays }

    module _ {e : LogEntry} (told : entry_told log s.device l.text ≡ Ok e) (after : Watching) (later : Recorder) where
      pub line_made : (r : Option (Result Bool Why)) → IfSome r (IsMade s (entry_step s.device e) after)
          → IfSome r (λ q. misfit_seen q ≡ misfit_made (made_told s.device e))
          → IfSome r (λ q. later ≡ log_made log s.device e l.text)
          → IfSome r (LineLeaves s log l after later)
      line_made None made misfit next = tt
      line_made (Some (Ok t)) made misfit next =
          let (n, is) = belongs_so (made_told s.device e) misfit in
          record {
            entry = e;
            said = line_belongs log s.device l ended told is;
            watched = made;
            log = next;
          }
      line_made (Some (Err why)) made misfit next = record {
        told = line_stray log s.device l ended told (strays_so (made_told s.device e) misfit);
        left = made;
      }
