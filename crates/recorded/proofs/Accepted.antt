-- What a reader accepts is a history of the form that the record and the sum began with, and such a history is accepted
-- where it holds for the record.
-- Assumes nothing.
use Rattle.std.specs.Result.{result_ok}
use Rattle.std.specs.Option.{option_map}
use Rattle.std.proofs.Common.{ℕ, ◌+◌, ◌≤◌, ◌≡◌, true, List, [], ◌∷◌, ◌++◌, arith, refl, sym, ap, ◌∙◌, subst, map}
use Rattle.std.proofs.Common.{Option, Some, None, Result, Ok, Err, codes}
use Rattle.std.proofs.lemmas.Bool.Decides.{nat_tests}
use Rattle.text.specs.Scans.{is_same_by, itself}
use Rattle.text.proofs.Choices.{if_yes}
use Rattle.text.proofs.Sameness.{same_is}
use Rattle.crc32.specs.Crc.{crc32_on, crc32_of}
use Rattle.crc32.proofs.GoesOn.{crc32_on-crc32_of}
use Rattle.words.specs.Codec.{◌>>=◌}
use Rattle.words.specs.Combinations.{bind_some}
use Rattle.record.specs.declared.types.Device.{Device}
use Rattle.history.specs.Lines.{number_most}
use Rattle.history.specs.Entries.{LogEntry, header, call, stated, entry_text, entry_line, entry_in}
use Rattle.history.specs.Shown.{device_shown}
use Rattle.history.specs.Logs.{LogPosition, begun_at, past, FitsAt, IsHistory, Sayable}
use Rattle.history.specs.Recording.{read_past, recorder_begun}
use Rattle.history.specs.declared.recorder.Recorder.{Recorder}
use Rattle.history.proofs.OnlyLines.{only_line}
use Rattle.recorded.specs.Played.{PlayTold, call_told}
use Rattle.recorded.specs.Chain.{misfit, call_made, entry_told, made_told, device_made, is_made, log_made}
use Rattle.recorded.specs.Chain.{Followed, and_reply, followed}
use Rattle.recorded.specs.Chain.{HoldsFor, AllHold}
use Rattle.recorded.proofs.Chained.{entry_said}
use Rattle.recorded.proofs.Believed.{same_itself, told_again, line_made}

-- the reader keeps where the log stands
record At (r : Recorder) (p : LogPosition) : Type 0 where
  file : r.file ≡ p.file
  lines : r.lines ≡ p.lines
  sum : r.sum ≡ crc32_of p.before
  few : r.lines ≤ number_most

module _ (r : Recorder) (p : LogPosition) (k : At r p) where
  sum_on : (l : List ℕ) (e : LogEntry) → l ≡ entry_text e
      → crc32_on r.sum (l ++ codes "\n") ≡ crc32_of (p.before ++ entry_line e)
  sum_on l e same =
      ap (λ (l : List ℕ). crc32_on r.sum (l ++ codes "\n")) same
      ∙ ap (λ (c : ℕ). crc32_on c (entry_line e)) k.sum
      ∙ crc32_on-crc32_of p.before (entry_line e)

  at_past : (l : List ℕ) (e : LogEntry) → l ≡ entry_text e → (read_past r e l).lines ≤ number_most
      → At (read_past r e l) (past p e)
  at_past l (header f s t) same few =
      record { file = refl; lines = refl; sum = sum_on l (header f s t) same; few = few }
  at_past l (call c) same few =
      record { file = k.file; lines = ap (λ (n : ℕ). n + 1) k.lines; sum = sum_on l (call c) same; few = few }
  at_past l (stated n s shown) same few =
      record { file = k.file; lines = ap (λ (n : ℕ). n + 1) k.lines; sum = sum_on l (stated n s shown) same; few = few }

  module _ (d : Device) where
    fits_at : (e : LogEntry) → misfit r d e ≡ None → FitsAt p e
    unfolding misfit
    fits_at (header f s t) h = (grind (arith, nat_tests, k.file), grind (arith, nat_tests, k.sum))
    fits_at (call c) h = grind (arith, nat_tests, k.file)
    fits_at (stated n s shown) h =
        (grind (arith, nat_tests, k.file), grind (arith, nat_tests, k.lines), grind (arith, nat_tests, k.sum))

    -- one line more at most
    few_then : (l : List ℕ) (e : LogEntry) → misfit r d e ≡ None → (read_past r e l).lines ≤ number_most
    unfolding misfit
    few_then l (header f s t) h = omega arith
    few_then l (call c) h = grind (arith, nat_tests, k.few)
    few_then l (stated n s shown) h = grind (arith, nat_tests, k.few)

    -- what is shown is what the record shows, a call belongs, and a line more can be counted
    holds_if : (e : LogEntry) → misfit r d e ≡ None → is_made d e ≡ true → HoldsFor p d e
    unfolding misfit
    holds_if (header f s t) h m = tt
    holds_if (call c) h m = (grind (arith, nat_tests, k.lines, k.few), m)
    holds_if (stated n s shown) h m =
        let same : is_same_by itself shown (device_shown d) ≡ true = grind (arith, nat_tests) in
        (grind (arith, nat_tests, k.lines, k.few), same_is shown (device_shown d) same)

    stands_if : (e : LogEntry) → FitsAt p e → HoldsFor p d e → misfit r d e ≡ None
    unfolding misfit
    stands_if (header f s t) (file, sum) m = grind (arith, nat_tests, file, sum, k.file, k.sum)
    stands_if (call c) there (more, m) = grind (arith, nat_tests, there, more, k.file, k.lines)
    stands_if (stated n s shown) (there, lines, sum) (more, text) =
        let same : is_same_by itself shown (device_shown d) ≡ true
        = ap (λ (l : List ℕ). is_same_by itself l (device_shown d)) text ∙ same_itself (device_shown d) in
        grind (arith, nat_tests, there, lines, sum, more, same, k.file, k.lines, k.sum)

ok_is : {T E : Type 0} (r : Result T E) (x : T) → result_ok r ≡ Some x → r ≡ Ok x
ok_is (Ok y) x e = cc
ok_is (Err why) x e = cc

map_some : {A B : Type 0} (g : A → B) (o : Option A) (y : B) → option_map g o ≡ Some y → (x : A) × (o ≡ Some x)
map_some g None y e = cc
map_some g (Some x) y e = (x, refl)

belonging_made : (t : PlayTold) (n : ℕ) → call_made t ≡ Ok n → t.belonging ≡ true
belonging_made t n e = grind arith

made_is : (d : Device) (e : LogEntry) (n : ℕ) → made_told d e ≡ Ok n → is_made d e ≡ true
made_is d (header f s t) n h = refl
made_is d (call c) n h = belonging_made (call_told d c) n h
made_is d (stated k s shown) n h = refl

made_if : (p : LogPosition) (d : Device) (e : LogEntry) → HoldsFor p d e
    → (is_made d e ≡ true) × ((n : ℕ) × (made_told d e ≡ Ok n))
made_if p d (header f s t) h = (refl, (0, refl))
made_if p d (call c) h = (h.1, ((call_told d c).length, if_yes _ _ h.1))
made_if p d (stated k s shown) h = (refl, (0, refl))

history_from : (ls : List (List ℕ)) (r : Recorder) (d : Device) (p : LogPosition) (f : Followed) → At r p
    → followed r d ls ≡ Some f
    → (es : List LogEntry) × (map entry_in ls ≡ map Some es) × IsHistory p es × AllHold p d es
history_from [] r d p f k h = ([], refl, tt, tt)
history_from (l ∷ ls) r d p f k h =
    let (e, told, more) = bind_some (result_ok (entry_told r d l))
    (λ e. result_ok (made_told d e) >>= λ n. option_map (and_reply d e)
    (followed (log_made r d e l) (device_made d e) ls)) h in
    let (n, made, rest) = bind_some (result_ok (made_told d e))
    (λ n. option_map (and_reply d e) (followed (log_made r d e l) (device_made d e) ls)) more in
    let (g, next) = map_some (and_reply d e) (followed (log_made r d e l) (device_made d e) ls) f rest in
    let (said, stands) = entry_said r d l e (ok_is (entry_told r d l) e told) in
    let there : is_made d e ≡ true = made_is d e n (ok_is (made_told d e) n made) in
    let log : log_made r d e l ≡ read_past r e l = if_yes _ _ there in
    let same = only_line l e said in
    let (es, all, history, hold) = history_from ls (log_made r d e l) (device_made d e) (past p e) g
    (subst (λ (q : Recorder). At q (past p e)) (sym log)
    (at_past r p k l e same.0 (few_then r p k d l e stands))) next in (
      e ∷ es,
      (λ i. said i ∷ all i),
      (fits_at r p k d e stands, history),
      (holds_if r p k d e stands there, hold),
    )

accepted_from : (es : List LogEntry) (r : Recorder) (d : Device) (p : LogPosition) → At r p → Sayable es
    → IsHistory p es
    → AllHold p d es
    → (f : Followed) × (followed r d (map entry_text es) ≡ Some f)
accepted_from [] r d p k s h m = (record { log = r; device = d; calls = []; replies = [] }, refl)
accepted_from (e ∷ es) r d p k (typed, ok, s) (fits, h) (holds, m) =
    let (there, (n, made)) = made_if p d e holds in
    let log : log_made r d e (entry_text e) ≡ read_past r e (entry_text e) = if_yes _ _ there in
    let stands = stands_if r p k d e fits holds in
    let (f, rest) = accepted_from es (read_past r e (entry_text e)) (device_made d e) (past p e)
    (at_past r p k (entry_text e) e refl (few_then r p k d (entry_text e) e stands)) s h m in (
      and_reply d e f,
      line_made r d e (entry_text e) (map entry_text es) n (read_past r e (entry_text e)) (device_made d e) f
          (told_again r d e typed ok stands) made log refl rest,
    )

at_begin : (form : List ℕ) → At (recorder_begun form) (begun_at form)
at_begin form = record { file = refl; lines = refl; sum = refl; few = omega arith }

pub accepted_is : (form : List ℕ) (d : Device) (ls : List (List ℕ)) (f : Followed)
    → followed (recorder_begun form) d ls ≡ Some f
    → (es : List LogEntry) × (map entry_in ls ≡ map Some es) × IsHistory (begun_at form) es
    × AllHold (begun_at form) d es
accepted_is form d ls f h =
    history_from ls (recorder_begun form) d (begun_at form) f (at_begin form) h

pub is_accepted : (form : List ℕ) (d : Device) (es : List LogEntry) → Sayable es → IsHistory (begun_at form) es
    → AllHold (begun_at form) d es
    → (f : Followed) × (followed (recorder_begun form) d (map entry_text es) ≡ Some f)
is_accepted form d es =
    accepted_from es (recorder_begun form) d (begun_at form) (at_begin form)
