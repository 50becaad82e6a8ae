-- Demand 2, of lines: any line of any controller is answered as the tables of RULES say, on an open connection and
-- behind the matching digest; a stream gives the same reply bytes and end state however it is cut; who does not send
-- the digest gets the refusal line only, reads it as such, and changes nothing, whatever he sends after it. What is
-- read of the lent memory is the reply, so our calls on it are the calls of `device`, and its laws of streams hold of
-- them.
-- Assumes nothing.
use Rattle.std.proofs.lemmas.Grind.{common_steps}
use Rattle.std.proofs.Common.{ℕ, ◌≤◌, ◌<◌, ◌≡◌, refl, sym, ap, true, List, ◌++◌, ⊎_elim, arith, length}
use Rattle.std.proofs.Common.{length-append, le-leb, codes, false, append_assoc}
use Rattle.std.proofs.lemmas.Bool.{lt-leb}
use Rattle.text.specs.Outcomes.{CallResult}
use Rattle.text.proofs.Choices.{if_yes, if_no}
use Rattle.text.proofs.Orders.{le_or_lt}
use Rattle.digest.proofs.Laws.{length-leading_digest}
use Rattle.words.specs.Bytes.{is_cr_free, command_most}
use Rattle.record.specs.declared.refusal.Refusal.{Refusal}
use Rattle.record.specs.Limits.{phase_awaiting, phase_open, places_count}
use Rattle.record.specs.Places.{connection_at, is_closed}
use Rattle.record.specs.declared.types.Device.{Device}
use Rattle.device.specs.Answering.{Answered, line_answer, line_swallowed}
use Rattle.device.specs.Receiving.{is_match}
use Rattle.device.specs.Calls.{reply_room, received_at}
use Rattle.device.proofs.LinesReceived.{line_result, line_received, overlong_line_received, led_line_received}
use Rattle.ours.specs.Board.{received_in, ours}
use Rattle.demands.specs.SpeaksPjlink.{BetweenLines, AnsweredAs, answer_to, digest_for, call_on, handed_on, is_led}
use Rattle.demands.specs.SpeaksPjlink.{RefusalOnly}
use Rattle.demands.proofs.KeepsRunning.{over_front}
use Rattle.record.specs.Legal.{is_legal, held_most}
use Rattle.stream.specs.Machine.{Took, handed_parts, stream_of}
use Rattle.device.proofs.SameCuts.{receives, received_however_cut}
use Rattle.device.proofs.Outsiders.{unmatched_line_refused}
use Rattle.device.proofs.OutsiderStreams.{outsider_stream_keeps_own, outsider_stream_keeps_settings}
use Rattle.device.proofs.OutsiderStreams.{outsider_stream_refused, connection_at-handed_parts, outsider_stream_fails}
use Rattle.device.proofs.OutsiderStreams.{outsider_stream_age}
use Rattle.device.proofs.FirstLines.{first-line_ends, unled_unmatched}
use Rattle.demands.proofs.WrittenAndRead.{is_between}
use Rattle.pjlink.specs.declared.command.Command.{Command}
use Rattle.stream.specs.Collecting.{gathered_from}
use Rattle.device.proofs.Cases.{received_taken}
use Rattle.controller.specs.Reading.{outcome_alone, read_reply, erra_said}
use Rattle.controller.proofs.Refusals.{erra_read}

module _ (d : Device) (p : ℕ) (bs m : List ℕ) where
  answered_as : (a : Answered) {n : ℕ} → n ≡ length bs → AnsweredAs ours d p bs a (received_in (line_result d p a n) m)
  answered_as a count = record { number = refl; taken = count; replied = over_front a.reply m; device = refl }

  result_answers : {n : ℕ} {r : CallResult Refusal ℕ Device} (a b : Answered) → r ≡ line_result d p a n
      → n ≡ length bs → a ≡ b
      → AnsweredAs ours d p bs b (received_in r m)
  result_answers a b e count same = grind (arith, line_result, answered_as)

module _ (d : Device) (p : ℕ) (l m : List ℕ) (plain : is_cr_free l ≡ true) (enough : reply_room ≤ length m) where
  abbrev tables : Answered
  tables = line_answer d.settings d.own l

  short_answered : length l ≤ command_most → tables ≡ answer_to d l
  short_answered short = sym (if_yes tables (line_swallowed d.own) (le-leb (length l) command_most short))

  long_swallowed : command_most < length l → line_swallowed d.own ≡ answer_to d l
  long_swallowed long = sym (if_no tables (line_swallowed d.own) (lt-leb (length l) command_most long))

  pub line_answered : BetweenLines phase_open d p
      → let bs = l ++ codes "\r" in AnsweredAs ours d p bs (answer_to d l) (ours.receive d p bs m)
  line_answered between =
      grind (
        arith,
        common_steps,
        length-append,
        ⊎_elim,
        result_answers,
        line_received,
        short_answered,
        overlong_line_received,
        long_swallowed,
        le_or_lt,
      )

  pub led_line_answered : BetweenLines phase_awaiting d p → length l ≤ command_most
      → let bs = digest_for d p ++ l ++ codes "\r" in AnsweredAs ours d p bs (answer_to d l) (ours.receive d p bs m)
  led_line_answered between short =
      grind (
        arith,
        common_steps,
        length-append,
        length-leading_digest,
        result_answers,
        led_line_received,
        short_answered,
      )

same_calls : (m : List ℕ) (p : ℕ) → call_on ours m p ≡ receives (length m) p
same_calls m p = grind (arith, over_front)

pub handed_alike : (m : List ℕ) (p : ℕ) (d : Device) (ps : List (List ℕ))
    → handed_on ours m p d ps ≡ handed_parts (receives (length m) p) d ps
handed_alike m p d ps = ap (λ (f : Device → List ℕ → Took Device). handed_parts f d ps) (same_calls m p)

pub same_however_cut : (d : Device) (p : ℕ) (m : List ℕ) (ps qs : List (List ℕ)) → is_legal d ≡ true
    → p < places_count → is_closed (connection_at d p) ≡ false → reply_room ≤ length m → stream_of ps ≡ stream_of qs
    → handed_on ours m p d ps ≡ handed_on ours m p d qs
same_however_cut d p m ps qs legal there live enough e = grind (arith, handed_alike, received_however_cut)

pub outsider_refused : (d : Device) (p : ℕ) (l more m : List ℕ) (ps : List (List ℕ))
    → BetweenLines phase_awaiting d p → is_cr_free l ≡ true → is_led d p l ≡ false → reply_room ≤ length m
    → stream_of ps ≡ l ++ codes "\r" ++ more
    → RefusalOnly ours d p (handed_on ours m p d ps)
outsider_refused d p l more m ps between plain unled enough all =
    grind (
      arith,
      is_between,
      append_assoc,
      unled_unmatched,
      first-line_ends,
      handed_alike,
      outsider_stream_refused,
      outsider_stream_keeps_settings,
      outsider_stream_keeps_own,
      outsider_stream_fails,
      outsider_stream_age,
      connection_at-handed_parts,
    )

pub outsider_reads_erra : (d : Device) (p : ℕ) (bs : List ℕ) (room : ℕ) (c : Command) → is_legal d ≡ true
    → reply_room ≤ room → p < places_count
    → let k = connection_at d p in
    k.phase ≡ phase_awaiting
    → let g = gathered_from (held_most k.phase) k.line bs in
    g.ended ≡ true → is_match d.settings k g.line ≡ false
    → read_reply c (received_at d p bs room).bytes ≡ outcome_alone erra_said
outsider_reads_erra d p bs room c legal enough there phase cr unmatched =
    grind (arith, received_taken, unmatched_line_refused, erra_read)
