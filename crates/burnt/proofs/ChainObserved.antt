-- What a `ChainTeller` does with a line, by what the line is: the last of these, one that comes after a line that did
-- not belong.
-- Assumes nothing.
use Rattle.std.proofs.Common.{ℕ, ◌+◌, ◌^◌, ◌≤◌, ◌≡◌, refl, sym, subst, ap, ◌∙◌, Bool, true, false, List, [], ◌∷◌, ◌++◌}
use Rattle.std.proofs.Common.{arith, length, inl, inr, sum_by, Option, Some, None, option_map, is_some}
use Rattle.std.proofs.lemmas.List.Sums.{sum_by-cons}
use Rattle.std.specs.Io.KnownBytes.{Appends}
use Rattle.std.proofs.KnownBytes.{Appends-nil}
use Rattle.textio.specs.Fronts.{WritesFront}
use Rattle.textio.specs.Lines.{LogLine, texts_of}
use Rattle.history.specs.declared.recorder.Recorder.{Recorder}
use Rattle.floorlog.specs.Observing.{Observes}
use Rattle.history.specs.Entries.{LogEntry}
use Rattle.recorded.specs.Chain.{Misfit}
use Rattle.recorded.specs.Following.{FirstStray, stray_seen}
use Rattle.recorded.specs.declared.stray.StrayLine.{StrayLine}
use Rattle.recorded.proofs.Followed.{belonging_stray, stray_here}
use Rattle.watch.specs.CallSteps.{said_seconds, entry_steps}
use Rattle.watch.specs.Watching.{Watching}
use Rattle.watch.specs.Telling.{lit_stretch_if, after_log}
use Rattle.watch.specs.States.{IsLeft, IsLineMade, IsLineStray, state_of}
use Rattle.watch.proofs.TellingsSpelt.{after_none}
use Rattle.burnt.specs.Told.{tellings_text, report_after, told_from, told_within}
use Rattle.burnt.specs.ChainTold.{entries_left, stray_left, chain_ended, chain_told_from}
use Rattle.burnt.specs.ChainTelling.{stray_now, entries_of, stray_then, teller_writes, IsChainLeft, ChainOverflows}
use Rattle.burnt.specs.declared.chained.ChainTeller.{ChainTeller}
use Rattle.burnt.proofs.TellingsTold.{report_within_none}
use Rattle.burnt.proofs.ChainLines.{made_cut, entries, stray, made_told, made_reported, made_left, made_seconds}
use Rattle.burnt.proofs.ChainLines.{stray_told}

-- what is left is as it was
pub is_left_itself : (s : Watching) → IsLeft s s
is_left_itself s = record { settings = refl; own = refl; time = refl; from = refl; burnt = refl }

is_left_then : {s t u : Watching} → IsLeft s t → IsLeft t u → IsLeft s u
is_left_then a b = record {
  settings = b.settings ∙ a.settings;
  own = b.own ∙ a.own;
  time = b.time ∙ a.time;
  from = b.from ∙ a.from;
  burnt = b.burnt ∙ a.burnt;
}

-- whether a line before did not belong
some_stray : (o : Option StrayLine) → is_some o ≡ true → (x : FirstStray) × (option_map stray_seen o ≡ Some x)
some_stray (Some x) h = (stray_seen x, refl)
some_stray None h = cc

pub no_stray : (o : Option StrayLine) → is_some o ≡ false → ◌≡◌ {A = Option FirstStray} (option_map stray_seen o) None
no_stray (Some x) h = cc
no_stray None h = refl

module _ (t : ChainTeller) (l : LogLine) where
  -- a line before it did not belong
  module _ (before : is_some t.stray ≡ true) where
    was : (x : FirstStray) × (stray_now t ≡ Some x)
    was = some_stray t.stray before

    same_entries : (ls : List LogLine) → entries_of t (l ∷ ls) ≡ entries_of t ls
    same_entries ls =
        (λ i. entries_left (was.1 i) t.log t.watch.tested.device (l ∷ ls))
        ∙ sym (λ i. entries_left (was.1 i) t.log t.watch.tested.device ls)

    same_stray : (ls : List LogLine) → stray_then t (l ∷ ls) ≡ stray_then t ls
    same_stray ls =
        (λ i. stray_left (was.1 i) t.lines t.log t.watch.tested.device (l ∷ ls))
        ∙ sym (λ i. stray_left (was.1 i) t.lines t.log t.watch.tested.device ls)

    more_overflow : (ls : List LogLine) → ChainOverflows t ls → ChainOverflows t (l ∷ ls)
    more_overflow ls (inl h) = inl (omega (arith, h))
    more_overflow ls (inr h) = inr (omega (arith, h, sum_by-cons said_seconds l.text (texts_of ls)))

    pub strayed_before : (w : Option (List ℕ)) → Observes teller_writes IsChainLeft ChainOverflows t t l w w
    strayed_before w = record {
      text = [];
      written = Appends-nil w;
      then = λ ls. (λ i. told_from (chain_ended t.starts (t.lines + length (same_entries ls i)) (same_stray ls i))
          t.report (state_of t.watch) (entry_steps t.watch.tested.device (same_entries ls i)));
      leaves = λ ls last h. record {
        starts = h.starts;
        report = h.report
            ∙ sym (λ i. report_after t.report
            (told_within (state_of t.watch) (entry_steps t.watch.tested.device (same_entries ls i))));
        watch = subst (λ (es : List LogEntry). IsLeft
            (after_log (state_of t.watch) (entry_steps t.watch.tested.device es)) (state_of last.watch))
            (sym (same_entries ls)) h.watch;
        lines = h.lines ∙ sym (λ i. t.lines + length (same_entries ls i));
        stray = h.stray ∙ sym (same_stray ls);
      };
      overflows = more_overflow;
    }

  pub too_many : 2 ^ 64 ≤ t.lines + 1 → (ls : List LogLine) → ChainOverflows t (l ∷ ls)
  too_many h ls = inl (omega (arith, h))

  pub uncounted : 2 ^ 64 ≤ t.watch.time + said_seconds l.text → (ls : List LogLine) → ChainOverflows t (l ∷ ls)
  uncounted h ls = inr (omega (arith, h, sum_by-cons said_seconds l.text (texts_of ls)))

  pub belongs_cut : stray_now t ≡ None → {after : Watching} {later : Recorder} {ended : Bool}
      → IsLineMade (state_of t.watch) t.log l after later ended
      → {old new : Option (List ℕ)} → WritesFront old new (tellings_text t.report (lit_stretch_if ended after))
      → (ls : List LogLine) → WritesFront old new (teller_writes t (l ∷ ls))
  belongs_cut none m {old} {new} f ls =
      subst (λ (o : Option FirstStray). WritesFront old new
      (chain_told_from t.starts o t.lines t.log t.report (state_of t.watch) (l ∷ ls))) (sym none)
      (made_cut t.starts t.lines t.log t.report (state_of t.watch) l ls m f)

  module _ (none_before : stray_now t ≡ None) (u : ChainTeller) (starts : u.starts ≡ t.starts) where
    -- it belongs
    module _ {ended : Bool} (lines : u.lines ≡ t.lines + 1) (none : stray_now u ≡ None)
        (m : IsLineMade (state_of t.watch) t.log l (state_of u.watch) u.log ended) where
      belongs_entries : (ls : List LogLine) → entries_of t (l ∷ ls) ≡ m.entry ∷ entries_of u ls
      belongs_entries ls =
          (λ i. entries_left (none_before i) t.log t.watch.tested.device (l ∷ ls))
          ∙ entries t.starts t.lines t.log t.report (state_of t.watch) l ls m
          ∙ sym (λ i. m.entry ∷ entries_left (none i) u.log u.watch.tested.device ls)

      belongs_stray : (ls : List LogLine) → stray_then t (l ∷ ls) ≡ stray_then u ls
      belongs_stray ls =
          (λ i. stray_left (none_before i) t.lines t.log t.watch.tested.device (l ∷ ls))
          ∙ stray t.starts t.lines t.log t.report (state_of t.watch) l ls m
          ∙ sym (λ i. stray_left (none i) (lines i) u.log u.watch.tested.device ls)

      time : (ls : List LogLine) → u.watch.time + sum_by said_seconds (texts_of ls)
          ≡ t.watch.time + sum_by said_seconds (texts_of (l ∷ ls))
      time ls = made_seconds t.starts t.lines t.log t.report (state_of t.watch) l ls m

      belongs_overflow : (ls : List LogLine) → ChainOverflows u ls → ChainOverflows t (l ∷ ls)
      belongs_overflow ls (inl h) = inl (omega (arith, h, lines))
      belongs_overflow ls (inr h) = inr (omega (arith, h, time ls))

      module _ (reported : u.report ≡ report_after t.report (lit_stretch_if ended (state_of u.watch))) where
        belongs_then : (ls : List LogLine) → teller_writes t (l ∷ ls)
            ≡ tellings_text t.report (lit_stretch_if ended (state_of u.watch)) ++ teller_writes u ls
        belongs_then ls =
            (λ i. chain_told_from t.starts (none_before i) t.lines t.log t.report (state_of t.watch) (l ∷ ls))
            ∙ made_told t.starts t.lines t.log t.report (state_of t.watch) l ls m reported
            ∙ sym (λ i. tellings_text t.report (lit_stretch_if ended (state_of u.watch))
            ++ chain_told_from (starts i) (none i) (lines i) u.log u.report (state_of u.watch) ls)

        belongs_left : (ls : List LogLine) (last : ChainTeller) → IsChainLeft u ls last → IsChainLeft t (l ∷ ls) last
        belongs_left ls last h = record {
          starts = h.starts ∙ starts;
          report = made_reported t.starts t.lines t.log t.report (state_of t.watch) l ls m reported
              (h.report ∙ (λ i. report_after u.report (told_within (state_of u.watch)
              (entry_steps u.watch.tested.device (entries_left (none i) u.log u.watch.tested.device ls)))))
              ∙ sym (λ i. report_after t.report (told_within (state_of t.watch)
              (entry_steps t.watch.tested.device (entries_left (none_before i) t.log t.watch.tested.device (l ∷ ls)))));
          watch = subst (λ (x : Watching). IsLeft x (state_of last.watch))
              ((λ i. after_log (state_of u.watch)
              (entry_steps u.watch.tested.device (entries_left (none i) u.log u.watch.tested.device ls)))
              ∙ made_left t.starts t.lines t.log t.report (state_of t.watch) l ls m
              ∙ sym (λ i. after_log (state_of t.watch)
              (entry_steps t.watch.tested.device (entries_left (none_before i) t.log t.watch.tested.device (l ∷ ls)))))
              h.watch;
          lines = omega (arith, h.lines, lines, ap length (belongs_entries ls));
          stray = h.stray ∙ sym (belongs_stray ls);
        }

        pub belongs : {old new : Option (List ℕ)}
            → Appends old new (tellings_text t.report (lit_stretch_if ended (state_of u.watch)))
            → Observes teller_writes IsChainLeft ChainOverflows t u l old new
        belongs written = record {
          text = _;
          written = written;
          then = belongs_then;
          leaves = belongs_left;
          overflows = belongs_overflow;
        }

    -- it does not
    module _ {why : Misfit} (lines : u.lines ≡ t.lines) (report : u.report ≡ t.report)
        (here : stray_now u ≡ Some (record { line = t.lines + 1; why = why }))
        (x : IsLineStray (state_of t.watch) t.log l (state_of u.watch) why) where
      abbrev first : FirstStray
      first = record { line = t.lines + 1; why = why }

      stray_entries : (ls : List LogLine) → entries_of t (l ∷ ls) ≡ []
      stray_entries ls =
          (λ i. entries_left (none_before i) t.log t.watch.tested.device (l ∷ ls))
          ∙ belonging_stray t.log t.watch.tested.device l ls x.told

      no_entries : (ls : List LogLine) → entries_of u ls ≡ []
      no_entries ls = (λ i. entries_left (here i) u.log u.watch.tested.device ls)

      is_stray : (ls : List LogLine) → stray_then t (l ∷ ls) ≡ Some first
      is_stray ls =
          (λ i. stray_left (none_before i) t.lines t.log t.watch.tested.device (l ∷ ls))
          ∙ stray_here t.log t.watch.tested.device l ls t.lines x.told

      still_stray : (ls : List LogLine) → stray_then u ls ≡ Some first
      still_stray ls = (λ i. stray_left (here i) u.lines u.log u.watch.tested.device ls)

      strays_then : (ls : List LogLine) → teller_writes t (l ∷ ls) ≡ teller_writes u ls
      strays_then ls =
          (λ i. chain_told_from t.starts (none_before i) t.lines t.log t.report (state_of t.watch) (l ∷ ls))
          ∙ stray_told t.starts t.lines t.log t.report (state_of t.watch) l ls u.log x
          ∙ sym (λ i. chain_told_from (starts i) (here i) (lines i) u.log (report i) (state_of u.watch) ls)

      strays_left : (ls : List LogLine) (last : ChainTeller) → IsChainLeft u ls last → IsChainLeft t (l ∷ ls) last
      strays_left ls last h = record {
        starts = h.starts ∙ starts;
        report = h.report
            ∙ (λ i. report_after (report i)
            (told_within (state_of u.watch) (entry_steps u.watch.tested.device (no_entries ls i))))
            ∙ report_within_none t.report (state_of u.watch)
            ∙ sym (report_within_none t.report (state_of t.watch))
            ∙ sym (λ i. report_after t.report
            (told_within (state_of t.watch) (entry_steps t.watch.tested.device (stray_entries ls i))));
        watch = subst (λ (es : List LogEntry). IsLeft
            (after_log (state_of t.watch) (entry_steps t.watch.tested.device es)) (state_of last.watch))
            (sym (stray_entries ls))
            (subst (λ (y : Watching). IsLeft y (state_of last.watch)) (sym (after_none (state_of t.watch)))
            (is_left_then x.left
            (subst (λ (y : Watching). IsLeft y (state_of last.watch))
            ((λ i. after_log (state_of u.watch) (entry_steps u.watch.tested.device (no_entries ls i)))
            ∙ after_none (state_of u.watch)) h.watch)));
        lines = omega (arith, h.lines, lines, ap length (no_entries ls), ap length (stray_entries ls));
        stray = h.stray ∙ still_stray ls ∙ sym (is_stray ls);
      }

      strays_overflow : (ls : List LogLine) → ChainOverflows u ls → ChainOverflows t (l ∷ ls)
      strays_overflow ls (inl h) = inl (omega (arith, h, lines))
      strays_overflow ls (inr h) =
          inr (omega (arith, h, x.left.time, sum_by-cons said_seconds l.text (texts_of ls)))

      pub strays : (w : Option (List ℕ)) → Observes teller_writes IsChainLeft ChainOverflows t u l w w
      strays w = record {
        text = [];
        written = Appends-nil w;
        then = strays_then;
        leaves = strays_left;
        overflows = strays_overflow;
      }
