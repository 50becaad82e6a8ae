-- A log of the second kind from its beginning, and where a read of it fails.
-- Assumes nothing.
use Rattle.std.proofs.Common.{ℕ, ◌+◌, ◌*◌, ◌^◌, ◌≤◌, ◌≡◌, refl, sym, subst, ap, ◌∙◌, List, [], ◌∷◌, ◌++◌}
use Rattle.std.proofs.Common.{arith, length, inl, inr, ◌⊎◌, ⊎_elim, sum_by, Option, Some, None, option_map}
use Rattle.std.proofs.lemmas.List.{length-map}
use Rattle.std.proofs.lemmas.List.Sums.{sum_by-cons}
use Rattle.record.specs.declared.types.Device.{Device}
use Rattle.clock.specs.Passing.{seconds_most}
use Rattle.textio.specs.Lines.{LogLine, texts_of, lines_in, lines_of, IsTooLong}
use Rattle.textio.proofs.LinesCounted.{lines_fit, too_long_bytes}
use Rattle.floorlog.specs.Kept.{kept, kept_lines}
use Rattle.recorded.specs.Following.{chain_begun, FirstStray, belonging}
use Rattle.recorded.proofs.Followed.{belonging_none, stray_none}
use Rattle.watch.specs.CallSteps.{entry_steps, said_seconds}
use Rattle.watch.specs.Watching.{Watching, watching_from}
use Rattle.watch.specs.Telling.{after_log}
use Rattle.watch.specs.States.{state_of, IsLeft}
use Rattle.watch.proofs.SecondsSaid.{said_most}
use Rattle.watch.proofs.TellingsSpelt.{after_none}
use Rattle.report.specs.declared.Report.{Report}
use Rattle.burnt.specs.Told.{tellings_text, report_after, told_from, told_within}
use Rattle.burnt.specs.ChainTold.{entries_left, stray_left, chain_ended, chain_told_from, chain_told}
use Rattle.burnt.specs.ChainTold.{IsChainUntold}
use Rattle.burnt.specs.ChainTelling.{stray_now, entries_of, steps_of, stray_then, teller_writes, IsChainLeft}
use Rattle.burnt.specs.ChainTelling.{ChainOverflows}
use Rattle.burnt.specs.declared.chained.ChainTeller.{ChainTeller}
use Rattle.burnt.proofs.TellingsTold.{report_within_none}
use Rattle.burnt.proofs.LinesTold.{text_so_far}
use Rattle.burnt.proofs.ChainLines.{left_told}
use Rattle.burnt.proofs.ChainObserved.{is_left_itself}

-- no line more
module _ (t : ChainTeller) where
  none_of : (o : Option FirstStray) → entries_left o t.log t.watch.tested.device [] ≡ []
  none_of (Some s) = refl
  none_of None = belonging_none t.log t.watch.tested.device

  still_of : (o : Option FirstStray) → stray_left o t.lines t.log t.watch.tested.device [] ≡ o
  still_of (Some s) = refl
  still_of None = stray_none t.log t.watch.tested.device t.lines

  no_entries : entries_of t [] ≡ []
  no_entries = none_of (stray_now t)

  still_stray : stray_then t [] ≡ stray_now t
  still_stray = still_of (stray_now t)

  counted : t.lines + length (entries_of t []) ≡ t.lines
  counted = omega (arith, ap length no_entries)

  pub end_told : teller_writes t []
      ≡ told_from (chain_ended t.starts t.lines (stray_now t)) t.report (state_of t.watch) []
  end_told =
      (λ i. told_from (chain_ended t.starts (counted i) (still_stray i)) t.report (state_of t.watch)
      (entry_steps t.watch.tested.device (no_entries i)))

  pub left_itself : IsChainLeft t [] t
  left_itself = record {
    starts = refl;
    report = sym (report_within_none t.report (state_of t.watch))
        ∙ sym (λ i. report_after t.report
        (told_within (state_of t.watch) (entry_steps t.watch.tested.device (no_entries i))));
    watch = subst (λ (x : Watching). IsLeft x (state_of t.watch))
        (sym ((λ i. after_log (state_of t.watch) (entry_steps t.watch.tested.device (no_entries i)))
        ∙ after_none (state_of t.watch)))
        (is_left_itself (state_of t.watch));
    lines = sym counted;
    stray = sym still_stray;
  }

module _ (begun : Device) (sum : ℕ) (head : List ℕ) (way : Report) (t : ChainTeller)
    (starts : t.starts ≡ begun.own.lamps) (report : t.report ≡ way) (watch : state_of t.watch ≡ watching_from begun)
    (log_is : t.log ≡ chain_begun sum) (lines : t.lines ≡ 0) (none : t.stray ≡ None) where
  none_now : stray_now t ≡ None
  none_now = ap (option_map _) none

  pub chain_begins : (log : List ℕ)
      → head ++ teller_writes t (kept_lines log) ≡ chain_told begun sum head way log
  chain_begins log =
      (λ i. head
      ++ chain_told_from (starts i) (none_now i) (lines i) (log_is i) (report i) (watch i) (kept_lines log))

  pub begun_entries : (ls : List LogLine) → entries_of t ls ≡ belonging (chain_begun sum) begun ls
  begun_entries ls = (λ i. entries_left (none_now i) (log_is i) (watch i).device ls)

  pub begun_stray : (ls : List LogLine) → stray_then t ls ≡ stray_left None 0 (chain_begun sum) begun ls
  begun_stray ls = (λ i. stray_left (none_now i) (lines i) (log_is i) (watch i).device ls)

  -- where a read fails
  module _ (after : ChainTeller) (ls : List LogLine) (at : IsChainLeft t ls after) where
    abbrev end : Report → Watching → List ℕ
    end = chain_ended t.starts (t.lines + length (entries_of t ls)) (stray_then t ls)

    abbrev last : Report
    last = report_after t.report (told_within (state_of t.watch) (steps_of t ls))

    same_end : told_from (chain_ended after.starts after.lines (stray_now after)) after.report
        (state_of after.watch) []
        ≡ told_from end last (state_of after.watch) []
    same_end = (λ i. told_from (chain_ended (at.starts i) (at.lines i) (at.stray i)) (at.report i)
        (state_of after.watch) [])

    pub chain_so_far : (text : List ℕ) → teller_writes t ls ≡ text ++ teller_writes after []
        → text ≡ tellings_text way
        (told_within (watching_from begun) (entry_steps begun (belonging (chain_begun sum) begun ls)))
    chain_so_far text all =
        text_so_far end t.report (state_of t.watch) (steps_of t ls) all
        (end_told after ∙ same_end
        ∙ sym (left_told t.starts (t.lines + length (entries_of t ls)) (stray_then t ls) last at.watch))
        ∙ (λ i. tellings_text (report i)
        (told_within (watch i)
        (entry_steps (watch i).device (entries_left (none_now i) (log_is i) (watch i).device ls))))

-- ---- a log that cannot be told has many bytes

said_together : (ls : List (List ℕ)) → sum_by said_seconds ls ≤ length ls * seconds_most
said_together [] = omega arith
said_together (l ∷ ls) = omega (arith, said_most l, said_together ls, sum_by-cons said_seconds l ls)

kept_many : (log : List ℕ) → length (texts_of (kept_lines log)) ≡ length (lines_of log)
kept_many log =
    length-map (kept_lines log) (λ (l : LogLine). l.text) ∙ length-map (lines_in log) kept
    ∙ sym (length-map (lines_in log) (λ (l : LogLine). l.text))

pub chain_untold_bytes : (log : List ℕ) → IsChainUntold log → 2 ^ 32 ≤ length log
chain_untold_bytes log h =
    ⊎_elim (λ (e : IsTooLong log). omega (arith, too_long_bytes log e))
    (λ (e : 2 ^ 64 ≤ sum_by said_seconds (texts_of (kept_lines log))).
    omega (arith, e, said_together (texts_of (kept_lines log)), kept_many log, lines_fit log)) h

pub chain_untold : (t : ChainTeller) → t.lines ≡ 0 → t.watch.time ≡ 0 → (log : List ℕ)
    → IsTooLong log ⊎ ChainOverflows t (kept_lines log) → IsChainUntold log
chain_untold t lines time log (inl e) = inl e
chain_untold t lines time log (inr (inl h)) =
    inl (inl (omega (
      arith,
      h,
      lines,
      length-map (lines_in log) kept,
      length-map (lines_in log) (λ (l : LogLine). l.text),
    )))
chain_untold t lines time log (inr (inr h)) = inr (omega (arith, h, time))
