-- The wrong boards of specs/ fall, each to what the demand that it was made against says of one sample: what is said
-- equal there differs by a number.
-- Assumes nothing.
use Rattle.std.proofs.Common.{ℕ, refl, sym, ◌∙◌, List, arith, replicate, [], ◌∷◌, length, codes, ap, true, false}
use Rattle.std.proofs.Common.{slice_index_or, ◌≡◌}
use Rattle.text.specs.Flags.{is_raised}
use Rattle.words.specs.Bytes.{◌at◌}
use Rattle.record.specs.Places.{connection_at}
use Rattle.record.specs.declared.types.Device.{Device}
use Rattle.demands.specs.Calls.{receives, Call, opens, passes, Gave}
use Rattle.demands.specs.KeepsRunning.{KeepsRunning}
use Rattle.demands.specs.Sample.{with_cr, memory, class_2_sample, opened_after, says, sample, rounds, two_opened}
use Rattle.demands.specs.Sample.{halves}
use Rattle.demands.specs.WrongRefusals.{writes_first, changes_refused}
use Rattle.demands.specs.Computing.{computing}
use Rattle.demands.proofs.SpeaksPjlink.{ours_speaks_pjlink}
use Rattle.demands.proofs.Samples.{apart, opened_sample, ready, is_same_by-leading_digest, x_unled}
use Rattle.pjlink.specs.declared.command.Command.TheVariants.{Query}
use Rattle.pjlink.specs.declared.body.Body.TheVariants.{Name, Inpt, Powr, Snum}
use Rattle.pjlink.specs.Said.{text_is, said_bytes, chosen_is}
use Rattle.pjlink.specs.CanSay.{CanSay, tells, text, input}
use Rattle.pjlink.specs.declared.body.TextRule.TheVariants as rule
use Rattle.words.specs.declared.class.ClassNumber.TheVariants.{One}
use Rattle.record.specs.Limits.{phase_open, on, volume_most, volume_start}
use Rattle.stream.specs.Machine.{Out}
use Rattle.controller.specs.Reading.{ReadAs, LineSays, reading_outcome_number}
use Rattle.ours.specs.Board.{Board, ours}
use Rattle.demands.specs.SpeaksPjlink.{SpeaksPjlink, BetweenLines, AnsweredAs, answer_to}
use Rattle.demands.specs.WrongLines.{drops_all, ok_to_all, refuses_all, made_up_length, made_up_taken, upper_cases}
use Rattle.demands.specs.WrongLines.{forgets_at_nothing, others_nameless, off_at_erra, darkens_swallowing}
use Rattle.words.specs.declared.input.Source.TheVariants.{Internal}
use Rattle.words.specs.declared.input.Input.{Input}
use Rattle.record.specs.Updates.{with_own, with_power_left, with_volumes}
use Rattle.controller.specs.Writing.{command_room}
use Rattle.demands.specs.WrongClasses.{answers_class_2, refuses_letters, volume_wraps}
use Rattle.std.proofs.lemmas.Bool.{false≢true}
use Rattle.demands.specs.WrongDoors.{secured_sample, forgets_password, ignores_password, greets_with_zero, time_opens}
use Rattle.demands.specs.WrongDoors.{failed_answers, never_closes, hides_faults, hides_errors, takes_at_opening}
use Rattle.record.specs.declared.types.Own.{Own}
use Rattle.record.specs.declared.types.Connection.{Connection}
use Rattle.demands.specs.WrongOutsiders.{closes_next, counts_failures, refuses_elsewhere}
use Rattle.demands.specs.Unheard.{AllAlike, no_calls, one_more, same_call, other_bytes, Unheard}
use Rattle.demands.proofs.UnheardSamples.{nothing}
use Rattle.demands.specs.History.{burning_seconds, lamp_with}
use Rattle.demands.specs.CountsSeconds.{CountsSeconds, TimeAdds, sets_up, all_enabled, IsAccepted, run_of, history_of}
use Rattle.demands.specs.WrongClocks.{still_clock, first_only, drops_part_hour}
use Rattle.demands.specs.Interleaved.{Interleaved, heard, alone_at}
use Rattle.demands.specs.WrongPlaces.{forgets_others_power, one_line_for_all}
use Rattle.demands.specs.WrongLamps.{two_lamps, one_rests, burns_all_lamps, counts_disabled, forgets_marks}

-- ---- demand 1: what a refusal leaves, here of memory one byte short

abbrev short : List ℕ
short = replicate 135 0

-- the first byte of the memory: `%`, and what it was
pub writes_first_falls : KeepsRunning writes_first → ⊥
unfolding computing
writes_first_falls h =
    let kept = h.refused_keeps opened_sample (receives 0 (with_cr "%1POWR ?") short) (λ e. omega arith) in
    apart (λ (bs : List ℕ). bs at 0) kept.1.memory refl

-- the phase: closed, and open
pub changes_refused_falls : KeepsRunning changes_refused → ⊥
unfolding computing
changes_refused_falls h =
    let kept = h.refused_keeps opened_sample (receives 0 (with_cr "%1POWR ?") short) (λ e. omega arith) in
    apart (λ (d : Device). (connection_at d 0).phase) kept.0 refl

-- ---- demand 2: lines. Here a power query, its body in small letters

module _ {R : Type 0} (B : Board R) (h : SpeaksPjlink B) (d : R) (between : BetweenLines phase_open (B.shows d) 0) where
  queried : AnsweredAs B d 0 (with_cr "%1powr ?") (answer_to (B.shows d) (codes "%1powr ?"))
      (B.receive d 0 (with_cr "%1powr ?") memory)
  unfolding computing
  queried = h.answers d 0 (codes "%1powr ?") memory between refl (omega arith)

-- the reply's length; the right one is `%1powr=0` and CR
pub drops_all_falls : SpeaksPjlink drops_all → ⊥
unfolding computing
drops_all_falls h = apart length (queried drops_all h opened_sample ready).replied refl

pub ok_to_all_falls : SpeaksPjlink ok_to_all → ⊥
unfolding computing
ok_to_all_falls h = apart length (queried ok_to_all h opened_sample ready).replied refl

pub made_up_length_falls : SpeaksPjlink made_up_length → ⊥
unfolding computing
made_up_length_falls h = apart length (queried made_up_length h opened_sample ready).replied refl

pub refuses_all_falls : SpeaksPjlink refuses_all → ⊥
unfolding computing
refuses_all_falls h = apart (λ (n : ℕ). n) (queried refuses_all h opened_sample ready).number refl

pub made_up_taken_falls : SpeaksPjlink made_up_taken → ⊥
unfolding computing
made_up_taken_falls h = apart (λ (n : ℕ). n) (queried made_up_taken h opened_sample ready).taken refl

-- the first letter of the body: P and p
pub upper_cases_falls : SpeaksPjlink upper_cases → ⊥
unfolding computing
upper_cases_falls h = apart (λ (bs : List ℕ). bs at 2) (queried upper_cases h opened_sample ready).replied refl

-- the query whole, and in three parts of which the second is empty
pub forgets_at_nothing_falls : SpeaksPjlink forgets_at_nothing → ⊥
unfolding computing
forgets_at_nothing_falls h =
    let parts : List (List ℕ) = codes "%1POWR" ∷ [] ∷ with_cr " ?" ∷ [] in
    let whole : List (List ℕ) = with_cr "%1POWR ?" ∷ [] in
    apart (λ (o : Out Device). length o.reply)
    (h.same_however_cut opened_sample 0 memory parts whole refl (omega arith) refl (omega arith) refl) refl

-- the text that is read of another maker's reply
pub others_nameless_falls : SpeaksPjlink others_nameless → ⊥
unfolding computing
others_nameless_falls h =
    let foo = codes "Foo" in
    let named : CanSay (Query Name) (text_is foo) = tells refl (text rule.Name foo refl) in
    let line : LineSays (Query Name) (with_cr "%1name=Foo") (text_is foo)
    = record { form = refl; body = refl; says = record { can = named; written = refl } } in
    apart (λ (r : ReadAs). length (said_bytes r.said))
    (h.what_is_said_is_read (Query Name) (with_cr "%1name=Foo") (text_is foo) line) refl

-- the bytes that say what is read: `0`, and none
pub off_at_erra_falls : SpeaksPjlink off_at_erra → ⊥
unfolding computing
off_at_erra_falls h = apart (λ (r : ReadAs). length (said_bytes r.said)) (h.erra_means_nothing (Query Powr)) refl

-- a byte more than a line may have: the picture is dark, and by our board, which does what is said, it is not
abbrev overlong : List ℕ
overlong = replicate 136 0

taken : (ours.receive opened_sample 0 overlong memory).number ≡ 0
unfolding computing
taken = refl

shown : is_raised (ours.receive opened_sample 0 overlong memory).device.own.video_muted ≡ false
unfolding computing
shown = refl

darkened : is_raised (darkens_swallowing.receive opened_sample 0 overlong memory).device.own.video_muted ≡ true
unfolding computing
darkened = refl

pub darkens_swallowing_falls : SpeaksPjlink darkens_swallowing → ⊥
darkens_swallowing_falls h =
    let by_both = ours_speaks_pjlink.receives opened_sample 0 overlong memory taken
    ∙ sym (h.receives opened_sample 0 overlong memory taken) in
    false≢true (sym shown ∙ ap (λ (d : Device). is_raised d.own.video_muted) by_both ∙ darkened)

-- ---- demand 2: the class

-- the reply's length: a set-up of Class 1 replies nothing to `%2SNUM ?`
pub answers_class_2_falls : SpeaksPjlink answers_class_2 → ⊥
unfolding computing
answers_class_2_falls h =
    let said = h.reads_back opened_sample 0 (Query Snum) 0 [] (replicate command_room 0) memory ready refl (omega arith)
    (omega arith) in
    apart length (said.higher (omega arith)).left.replied refl

-- the number of the outcome: `6A` is an input of Class 2, which `%1INPT ?` may be told
pub refuses_letters_falls : SpeaksPjlink refuses_letters → ⊥
unfolding computing
refuses_letters_falls h =
    let i : Input = record { source = Internal; number = 10 } in
    let line : LineSays (Query (Inpt One)) (with_cr "%1INPT=6A") (chosen_is i)
    = record { form = refl; body = refl; says = record { can = tells refl (input i refl); written = refl } } in
    apart (λ (r : ReadAs). reading_outcome_number r.outcome)
    (h.what_is_said_is_read (Query (Inpt One)) (with_cr "%1INPT=6A") (chosen_is i) line) refl

-- set up for Class 2, on, the speaker at the top
abbrev loudest : Device
loudest =
    let d = opened_after class_2_sample in
    with_own d (with_volumes (with_power_left d.own on 0) volume_most volume_start)

loud : BetweenLines phase_open loudest 0
unfolding computing
loud = record { legal = refl; there = omega arith; in_phase = refl; unmarked = refl; none_held = refl }

-- the speaker after one step up
pub volume_wraps_falls : SpeaksPjlink volume_wraps → ⊥
unfolding computing
volume_wraps_falls h =
    apart (λ (d : Device). d.own.speaker)
    (h.answers loudest 0 (codes "%2SVOL 1") memory loud refl (omega arith)).device refl

-- ---- demand 2: who is let in. The password is on; nobody sends the digest

-- closed, off, with a password
abbrev secured : Device
secured = (ours.set_up secured_sample).device

-- the password's length
pub forgets_password_falls : SpeaksPjlink forgets_password → ⊥
unfolding computing
forgets_password_falls h = apart (λ (d : Device). d.settings.password.len) (h.set_up_shows secured_sample refl) refl

-- the phase: open, and awaiting
pub ignores_password_falls : SpeaksPjlink ignores_password → ⊥
unfolding computing
ignores_password_falls h = apart (λ (d : Device). (connection_at d 0).phase) (h.opens secured 7 memory refl).device refl

-- the number that the connection keeps
pub greets_with_zero_falls : SpeaksPjlink greets_with_zero → ⊥
unfolding computing
greets_with_zero_falls h =
    apart (λ (d : Device). (connection_at d 0).random) (h.opens secured 7 memory refl).device refl

-- the bytes taken
pub takes_at_opening_falls : SpeaksPjlink takes_at_opening → ⊥
unfolding computing
takes_at_opening_falls h = apart (λ (n : ℕ). n) (h.opens secured 7 memory refl).taken refl

-- ---- the outsider, who powers on

-- the power that he leaves, and the one that he found
pub time_opens_falls : SpeaksPjlink time_opens → ⊥
unfolding computing
time_opens_falls h =
    let calls : List Call = opens 7 memory ∷ passes 1 ∷ says "%1POWR 1" ∷ [] in
    let out = h.outsider_has_no_say secured 0 calls refl refl refl
    (refl, (refl, (is_same_by-leading_digest 7 (codes "JBMIAProjectorLink") (codes "%1POWR 1") (omega arith), tt))) in
    apart (λ o. o.power) (out.kept.1.1.0 refl).own refl

pub failed_answers_falls : SpeaksPjlink failed_answers → ⊥
unfolding computing
failed_answers_falls h =
    let calls : List Call = opens 7 memory ∷ says "x" ∷ passes 1 ∷ says "%1POWR 1" ∷ [] in
    let out = h.outsider_has_no_say secured 0 calls refl refl refl (refl, (x_unled, (x_unled, (x_unled, tt)))) in
    apart (λ o. o.power) (out.kept.1.1.1.0 refl).own refl

-- ---- calls that do nothing

-- the phase: open, and closed
pub never_closes_falls : SpeaksPjlink never_closes → ⊥
unfolding computing
never_closes_falls h = apart (λ (d : Device). (connection_at d 0).phase) (h.closes opened_sample 0 refl) refl

pub hides_faults_falls : SpeaksPjlink hides_faults → ⊥
unfolding computing
hides_faults_falls h = false≢true (ap (λ (d : Device). is_raised d.own.fault) (h.marks opened_sample true refl))

-- the first error digit
pub hides_errors_falls : SpeaksPjlink hides_errors → ⊥
unfolding computing
hides_errors_falls h =
    let digits : List ℕ = 2 ∷ 0 ∷ 0 ∷ 0 ∷ 0 ∷ 0 ∷ [] in
    apart (λ (d : Device). slice_index_or d.own.errors 0 0) (h.reports opened_sample digits refl) refl

-- ---- an outsider: two runs in which someone at place 0 sends `x` with its CR and is refused, or without it

abbrev calls : List ℕ → List Call
calls bs = opens 7 memory ∷ opens 8 memory ∷ receives 0 bs memory ∷ receives 1 (codes "y") memory ∷ []

alike : AllAlike 0 (calls (with_cr "x")) (calls (codes "x"))
alike = one_more same_call (one_more same_call (one_more other_bytes (one_more same_call no_calls)))

-- the phase of place 1: awaiting, and closed
pub closes_next_falls : Unheard closes_next → ⊥
unfolding computing
closes_next_falls h =
    let out = h.outsider_unheard secured_sample 0 (calls (with_cr "x")) (calls (codes "x")) refl refl alike
    (refl, (refl, (x_unled, (x_unled, tt)))) (refl, (refl, (refl, (refl, tt))))
    ((λ z. absurd (z refl)), ((λ z. absurd (z refl)), ((λ z. refl), ((λ z. refl), tt)))) in
    apart (λ (c : Connection). c.phase) (out.left.others 1 (λ z. omega arith)) refl

-- the last error digit
pub counts_failures_falls : Unheard counts_failures → ⊥
unfolding computing
counts_failures_falls h =
    let out = h.outsider_unheard secured_sample 0 (calls (with_cr "x")) (calls (codes "x")) refl refl alike
    (refl, (refl, (x_unled, (x_unled, tt)))) (refl, (refl, (refl, (refl, tt))))
    ((λ z. absurd (z refl)), ((λ z. absurd (z refl)), ((λ z. refl), ((λ z. refl), tt)))) in
    apart (λ (o : Own). slice_index_or o.errors 5 0) out.left.device.own refl

-- the length of what place 1 is answered: the refusal line, and nothing
pub refuses_elsewhere_falls : Unheard refuses_elsewhere → ⊥
unfolding computing
refuses_elsewhere_falls h =
    let out = h.outsider_unheard secured_sample 0 (calls (with_cr "x")) (calls (codes "x")) refl refl alike
    (refl, (refl, (x_unled, (x_unled, tt)))) (refl, (refl, (refl, (refl, tt))))
    ((λ z. absurd (z refl)), ((λ z. absurd (z refl)), ((λ z. refl), ((λ z. refl), tt)))) in
    apart (λ (l : List Gave). (slice_index_or l 2 nothing).length) out.got refl

-- ---- demand 3: the clock, over two sessions of twenty seconds (each second is computed)

abbrev sessions : List Call
sessions = opens 0 memory ∷ rounds 2 (says "%1POWR 1" ∷ passes 20 ∷ says "%1POWR 0" ∷ passes 60 ∷ [])

module _ {R : Type 0} (B : Board R) (h : CountsSeconds B) (accepted : IsAccepted B sets_up sample) where
  -- what the demand says of the one lamp
  told : slice_index_or (B.shows (run_of B sets_up sample sessions)).own.lamps 0 0
      ≡ lamp_with (burning_seconds sample (all_enabled sample) 0 (history_of B sets_up sample sessions)) 0
  told = h.lamps_tell_the_history sets_up sample sessions 0 accepted (omega arith)

-- stored, and burnt: its power stays in warm-up, so one set is answered OK and every second burns
pub still_clock_falls : CountsSeconds still_clock → ⊥
unfolding computing
still_clock_falls h = apart (λ (n : ℕ). n) (told still_clock h refl) refl

pub first_only_falls : CountsSeconds first_only → ⊥
unfolding computing
first_only_falls h = apart (λ (n : ℕ). n) (told first_only h refl) refl

pub drops_part_hour_falls : CountsSeconds drops_part_hour → ⊥
unfolding computing
drops_part_hour_falls h = apart (λ (n : ℕ). n) (told drops_part_hour h refl) refl

-- yet a clock that does nothing obeys the adding law
pub still_clock_adds : TimeAdds still_clock
still_clock_adds d a b legal within = refl

-- ---- demand 3, and lines that are interleaved

-- on at place 0, and place 1 asks for the power in between
abbrev in_turn : List Call
in_turn =
    opens 0 memory ∷ opens 0 memory
    ∷ receives 0 (with_cr "%1POWR 1") memory ∷ passes 30
    ∷ receives 1 (with_cr "%1POWR ?") memory ∷ passes 100 ∷ []

-- the seconds stored, and burnt
pub forgets_others_power_falls : CountsSeconds forgets_others_power → ⊥
unfolding computing
forgets_others_power_falls h =
    apart (λ (n : ℕ). n) (h.lamps_tell_the_history sets_up sample in_turn 0 refl (omega arith)) refl

-- the length of what is replied at place 1, and of what that place alone gets: `%1POWR=0` and CR
pub one_line_for_all_falls : Interleaved one_line_for_all → ⊥
unfolding computing alone_at
one_line_for_all_falls h =
    let alone = h.as_alone (two_opened one_line_for_all) 1 halves (tt, (tt, (tt, (tt, tt)))) in
    apart length alone.replies refl

-- ours answers both, and what place 1 asks for is what place 0 did: warm-up
pub ours_answers_halves : ((heard ours 0 (two_opened ours) halves).replied ≡ with_cr "%1POWR=OK")
    × ((heard ours 1 (two_opened ours) halves).replied ≡ with_cr "%1POWR=3")
unfolding computing
ours_answers_halves = (refl, refl)

-- ---- demand 3: the second of two lamps, whose mark was cleared before they burnt for 100 seconds

module _ {R : Type 0} (B : Board R) (h : CountsSeconds B) (accepted : IsAccepted B sets_up two_lamps) where
  -- what the demand says of the second lamp
  rests_told : slice_index_or (B.shows (run_of B sets_up two_lamps one_rests)).own.lamps 1 0
      ≡ lamp_with (burning_seconds two_lamps (all_enabled two_lamps) 1 (history_of B sets_up two_lamps one_rests)) 0
  rests_told = h.lamps_tell_the_history sets_up two_lamps one_rests 1 accepted (omega arith)

-- stored, and burnt
pub burns_all_lamps_falls : CountsSeconds burns_all_lamps → ⊥
unfolding computing
burns_all_lamps_falls h = apart (λ (n : ℕ). n) (rests_told burns_all_lamps h refl) refl

pub counts_disabled_falls : CountsSeconds counts_disabled → ⊥
unfolding computing
counts_disabled_falls h = apart (λ (n : ℕ). n) (rests_told counts_disabled h refl) refl

pub forgets_marks_falls : CountsSeconds forgets_marks → ⊥
unfolding computing
forgets_marks_falls h = apart (λ (n : ℕ). n) (rests_told forgets_marks h refl) refl

-- ours: the first burns, the second rests
pub ours_rests : (slice_index_or (run_of ours sets_up two_lamps one_rests).own.lamps 0 0 ≡ 100)
    × (slice_index_or (run_of ours sets_up two_lamps one_rests).own.lamps 1 0 ≡ 0)
unfolding computing
ours_rests = (refl, refl)
