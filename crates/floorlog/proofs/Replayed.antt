-- What a log prints and leaves, by what comes: no line any more, or a line and the rest.
-- Assumes nothing.
use Rattle.std.proofs.Common.{IfSome, ℕ, ◌+◌, ◌^◌, ◌≤◌, ◌≡◌, refl, ap, List, [], ◌∷◌, ◌++◌}
use Rattle.std.proofs.Common.{◌⊎◌, append_assoc, append-nil, subst, sym, ◌∙◌, arith, length, map}
use Rattle.std.proofs.lemmas.List.{length-map, append_cancel_right}
use Rattle.std.proofs.Common.{Result, Ok, Err, OnOk}
use Rattle.std.specs.declared.option.Option.{Option}
use Rattle.std.specs.Io.KnownBytes.{Appends}
use Rattle.record.specs.declared.types.Device.{Device}
use Rattle.textio.specs.Lines.{LogLine, texts_of, IsTooLong}
use Rattle.floorlog.specs.Kept.{kept_lines}
use Rattle.floorlog.specs.LastLine.{last_device_line}
use Rattle.floorlog.specs.Events.{LogEvent, event}
use Rattle.floorlog.specs.Doing.{event_result, printed_line}
use Rattle.floorlog.specs.Playing.{state_after, lines_printed, replay_text}
use Rattle.floorlog.specs.Replaying.{IsReplayed, IsPlayedSoFar}
use Rattle.floorlog.specs.Observing.{Observes, BreaksOff}
use Rattle.floorlog.specs.declared.playing.Player.{Player}
use Rattle.floorlog.specs.Unplayed.{answer, left_by_event, why_misread, line_noted, said_line}
use Rattle.floorlog.specs.Unplayed.{unplayed_by}
use Rattle.floorlog.proofs.UnplayedBy.{unplayed_none, unplayed_more}
use Rattle.floorlog.proofs.KeptText.{events_kept}

abbrev pub printed_from : ℕ → Device → List LogEvent → List ℕ
printed_from n d es = lines_printed n d es ++ last_device_line (state_after d es)

module _ (d : Device) where
  pub state_none : state_after d [] ≡ d
  unfolding state_after
  state_none = refl

  pub printed_none : (n : ℕ) → printed_from n d [] ≡ last_device_line d
  unfolding lines_printed state_after
  printed_none n = refl

  module _ (e : LogEvent) {after : Device} (is : after ≡ (event_result d e).leaves) (es : List LogEvent) where
    pub state_more : state_after after es ≡ state_after d (e ∷ es)
    unfolding state_after
    state_more = ap (λ (x : Device). state_after x es) is

    pub printed_more : (n : ℕ)
        → printed_from n d (e ∷ es) ≡ printed_line (n + 1) e (event_result d e) ++ printed_from (n + 1) after es
    unfolding lines_printed state_after
    printed_more n = grind (arith, append_assoc)

-- from the start of a log on
module _ {begun d : Device} {n : ℕ} (first : n ≡ 0) (is : d ≡ begun) where
  pub all_printed : (log : List ℕ) → printed_from n d (map event (texts_of (kept_lines log))) ≡ replay_text begun log
  unfolding replay_text
  all_printed log = (λ i. printed_from (first i) (is i) (events_kept log i))

  pub all_played : (a old new : Option (List ℕ)) (after : Device)
      → IfSome a (λ log. Appends old new (printed_from n d (map event (texts_of (kept_lines log)))))
      → IfSome a (λ log. after ≡ state_after d (map event (texts_of (kept_lines log))))
      → IfSome a (λ log. IsReplayed begun log old new after)
  all_played a old new after h g = grind (arith, all_printed, events_kept)

  pub too_long : (log : List ℕ) → IsTooLong log ⊎ (2 ^ 64 ≤ n + length (kept_lines log)) → IsTooLong log
  too_long log h = grind (arith, length-map)

abbrev pub player_prints : Player → List LogLine → List ℕ
player_prints p ls = printed_from p.played p.tested.device (map event (texts_of ls))

abbrev pub PlayerLeft : Player → List LogLine → Player → Type 0
PlayerLeft p ls last =
    (last.tested.device ≡ state_after p.tested.device (map event (texts_of ls)))
    × (last.unplayed
    ≡ unplayed_by answer left_by_event p.unplayed p.played p.tested.device (map (said_line event) (texts_of ls)))

abbrev pub PlayerOverflows : Player → List LogLine → Type 0
PlayerOverflows p ls = 2 ^ 64 ≤ p.played + length ls

pub left_so : (p : Player) → PlayerLeft p [] p
left_so p = (
  sym (state_none p.tested.device),
  sym (unplayed_none answer left_by_event p.unplayed p.played p.tested.device),
)

pub left_by_none : {T E : Type 0} (p : Player) (r : Result T E) → OnOk r (PlayerLeft p [] p)
left_by_none p (Ok v) = left_so p
left_by_none p (Err e) = tt

module _ {p after : Player} {line : LogLine} (more : after.played ≡ p.played + 1)
    (is : after.tested.device ≡ left_by_event p.tested.device (event line.text))
    (unplayed : after.unplayed ≡ line_noted p.unplayed (p.played + 1) (why_misread line.text)
    (answer p.tested.device (event line.text))) where
  -- a line that is played, and what comes after it
  pub line_observed : {old new : Option (List ℕ)}
      → Appends old new
      (printed_line (p.played + 1) (event line.text) (event_result p.tested.device (event line.text)))
      → Observes player_prints PlayerLeft PlayerOverflows p after line old new
  line_observed {old} {new} put = record {
    text = printed_line (p.played + 1) (event line.text) (event_result p.tested.device (event line.text));
    written = put;
    then = λ ls. printed_more p.tested.device (event line.text) is (map event (texts_of ls)) p.played
        ∙ (λ i. printed_line (p.played + 1) (event line.text) (event_result p.tested.device (event line.text))
        ++ printed_from (sym more i) after.tested.device (map event (texts_of ls)));
    leaves = λ ls last left. (
      left.0 ∙ state_more p.tested.device (event line.text) is (map event (texts_of ls)),
      left.1
          ∙ (λ i. unplayed_by answer left_by_event (unplayed i) (more i) (is i) (map (said_line event) (texts_of ls)))
          ∙ sym (unplayed_more answer left_by_event p.unplayed p.played p.tested.device (said_line event line.text)
          (map (said_line event) (texts_of ls))),
    );
    overflows = λ ls over. omega (arith, more, over);
  }

-- where a read fails
pub played_so_far : {p after : Player} {begun : Device} {log left : List ℕ} {old new : Option (List ℕ)} → p.played ≡ 0
    → p.tested.device ≡ begun
    → BreaksOff player_prints PlayerLeft p after log left old new
    → IsPlayedSoFar begun log left old new
played_so_far {p} {after} {begun} {log} {left} {old} {new} first is b = record {
  told = b.told;
  part = b.part;
  one_line = b.one_line;
  lines = b.lines;
  printed = subst (Appends old new) (sym text ∙ (λ i. lines_printed (first i) (is i) es)) b.written;
}
  where
    es : List LogEvent
    es = map event (texts_of b.told)

    end : List ℕ
    end = last_device_line (state_after p.tested.device es)

    left_at : after.tested.device ≡ state_after p.tested.device es
    left_at = (b.leaves after (left_so after)).0

    text : lines_printed p.played p.tested.device es ≡ b.text
    text =
        append_cancel_right _ _ end
        (ap (λ ls. printed_from p.played p.tested.device (map event (texts_of ls))) (sym (append-nil b.told))
        ∙ b.then []
        ∙ ap (λ (t : List ℕ). b.text ++ t)
        (printed_none after.tested.device after.played ∙ ap last_device_line left_at))
