-- Lines that were followed to their end belong, each of them, and say the calls.
--   Says r d ls f     what the lines ls say, which lead a reader from r and d to f
-- Assumes nothing.
use Rattle.std.specs.Option.{option_map}
use Rattle.std.specs.Result.{result_ok}
use Rattle.std.proofs.Common.{ℕ, ◌+◌, ◌≤◌, ◌≡◌, refl, sym, ap, subst, ◌∙◌, List, [], ◌∷◌, ◌++◌, arith, length, map}
use Rattle.std.proofs.Common.{All, Option, Some, None, Result, Ok, Err}
use Rattle.std.proofs.lemmas.List.Elements.{All-nil, All-cons}
use Rattle.words.specs.Codec.{◌>>=◌}
use Rattle.record.specs.declared.types.Device.{Device}
use Rattle.textio.specs.Lines.{LogLine, ended_line}
use Rattle.history.specs.Calls.{LogCall}
use Rattle.history.specs.Entries.{LogEntry, header, call, stated}
use Rattle.history.specs.declared.recorder.Recorder.{Recorder}
use Rattle.history.proofs.Fits.{entry_fits}
use Rattle.history.proofs.OnlyLines.{only_line}
use Rattle.recorded.specs.Playing.{entry_calls}
use Rattle.recorded.specs.Chain.{Misfit, entry_told, made_told, device_made, log_made, Followed, and_reply, followed}
use Rattle.recorded.specs.Following.{belonging, stray_from}
use Rattle.recorded.proofs.Chained.{entry_said}
use Rattle.recorded.proofs.Followed.{line_belongs, belonging_more, stray_more}

pub record Says (r : Recorder) (d : Device) (ls : List (List ℕ)) (f : Followed) : Type 0 where
  pub es : List LogEntry
  pub calls : entry_calls es ≡ f.calls
  pub belong : (tail : List LogLine)
      → belonging r d (map ended_line ls ++ tail) ≡ es ++ belonging f.log f.device tail
  pub stray : (n : ℕ) (tail : List LogLine)
      → stray_from n r d (map ended_line ls ++ tail) ≡ stray_from (n + length ls) f.log f.device tail
  pub short : All (λ (l : List ℕ). length l ≤ 4096) ls

no_line : (r : Recorder) (d : Device) (f : Followed)
    → ◌≡◌ {A = Option Followed} (Some (record { log = r; device = d; calls = []; replies = [] })) (Some f)
    → Says r d [] f
no_line r d f h =
    let here : record { log = r; device = d; calls = []; replies = [] } ≡ f = cc in
    subst (Says r d []) here
    (record {
      es = [];
      calls = refl;
      belong = λ tail. refl;
      stray = λ n tail. ap (λ (m : ℕ). stray_from m r d tail) (omega arith);
      short = All-nil (λ (l : List ℕ). length l ≤ 4096);
    })

-- one line more
module _ (r : Recorder) (d : Device) (l : List ℕ) (ls : List (List ℕ)) (e : LogEntry) (n : ℕ) (f : Followed)
    (told : entry_told r d l ≡ Ok e) (made : made_told d e ≡ Ok n)
    (rest : Says (log_made r d e l) (device_made d e) ls f) where
  same_log : (and_reply d e f).log ≡ f.log
  same_log = grind arith

  same_device : (and_reply d e f).device ≡ f.device
  same_device = grind arith

  with_calls : entry_calls (e ∷ rest.es) ≡ (and_reply d e f).calls
  with_calls = by e
    where
      by : (x : LogEntry) → entry_calls (x ∷ rest.es) ≡ (and_reply d x f).calls
      by (header file s t) = rest.calls
      by (stated m s shown) = rest.calls
      by (call c) = ap (λ (cs : List LogCall). c ∷ cs) rest.calls

  line_says : Says r d (l ∷ ls) (and_reply d e f)
  line_says =
      let line : LogLine = ended_line l in
      let is = line_belongs r d line refl told made in
      record {
        es = e ∷ rest.es;
        calls = with_calls;
        belong = λ tail. belonging_more r d line (map ended_line ls ++ tail) is
            ∙ ap (λ (es : List LogEntry). e ∷ es) (rest.belong tail)
            ∙ sym (λ i. e ∷ (rest.es ++ belonging (same_log i) (same_device i) tail));
        stray = λ m tail. stray_more r d line (map ended_line ls ++ tail) m is
            ∙ rest.stray (m + 1) tail
            ∙ ap (λ (k : ℕ). stray_from k f.log f.device tail) (omega arith)
            ∙ sym (λ i. stray_from (m + length (l ∷ ls)) (same_log i) (same_device i) tail);
        short =
            let only = only_line l e (entry_said r d l e told).0 in
            All-cons (λ (x : List ℕ). length x ≤ 4096) l ls
            (omega (arith, ap length only.0, entry_fits e only.1)) rest.short;
      }

abbrev EachSays : List (List ℕ) → Type 0
EachSays ls = (r : Recorder) (d : Device) (f : Followed) → followed r d ls ≡ Some f → Says r d ls f

module _ (r : Recorder) (d : Device) (l : List ℕ) (ls : List (List ℕ)) (f : Followed) (each : EachSays ls) where
  by_rest : (e : LogEntry) (n : ℕ) → entry_told r d l ≡ Ok e → made_told d e ≡ Ok n → (o : Option Followed)
      → followed (log_made r d e l) (device_made d e) ls ≡ o
      → option_map (and_reply d e) o ≡ Some f
      → Says r d (l ∷ ls) f
  by_rest e n told made (Some g) rest is =
      let same : and_reply d e g ≡ f = cc in
      subst (Says r d (l ∷ ls)) same
      (line_says r d l ls e n g told made (each (log_made r d e l) (device_made d e) g rest))
  by_rest e n told made None rest is = cc

  by_made : (e : LogEntry) → entry_told r d l ≡ Ok e → (m : Result ℕ Misfit) → made_told d e ≡ m
      → (result_ok m
      >>= λ n. option_map (and_reply d e) (followed (log_made r d e l) (device_made d e) ls)) ≡ Some f
      → Says r d (l ∷ ls) f
  by_made e told (Ok n) made is = by_rest e n told made (followed (log_made r d e l) (device_made d e) ls) refl is
  by_made e told (Err why) made is = cc

  by_told : (t : Result LogEntry Misfit) → entry_told r d l ≡ t
      → (result_ok t
      >>= λ e. result_ok (made_told d e)
      >>= λ n. option_map (and_reply d e) (followed (log_made r d e l) (device_made d e) ls)) ≡ Some f
      → Says r d (l ∷ ls) f
  by_told (Ok e) told is = by_made e told (made_told d e) refl is
  by_told (Err why) told is = cc

pub followed_says : (ls : List (List ℕ)) → EachSays ls
followed_says [] r d f h = no_line r d f h
followed_says (l ∷ ls) r d f h = by_told r d l ls f (followed_says ls) (entry_told r d l) refl h
