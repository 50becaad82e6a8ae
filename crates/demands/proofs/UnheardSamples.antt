-- RULES, Places is not empty: the two runs of specs/TwoRuns.antt differ in what is given to place 0 only and meet every
-- premise of it; place 0 has failed in the one and is still awaited in the other, and what place 1 did is the same in
-- both. And its premise about openings is needed.
-- Assumes nothing.
use Rattle.std.proofs.Common.{ℕ, ◌≡◌, true, false, List, ◌∷◌, refl, ap, ◌∙◌, [], arith, length, slice_index_or, codes}
use Rattle.text.specs.Outcomes.{CallResult}
use Rattle.record.specs.declared.refusal.Refusal.{Refusal}
use Rattle.record.specs.declared.types.Device.{Device}
use Rattle.device.specs.Receiving.{set_up_password}
use Rattle.ours.specs.Board.{ours, reply, received_in}
use Rattle.demands.specs.Calls.{opens, receives, passes, after, Call, run, Gave}
use Rattle.demands.specs.Outsider.{Session, unopened, noted, is_matched, IsNeverMatched}
use Rattle.demands.specs.Sample.{memory, with_cr}
use Rattle.demands.specs.TwoRuns.{fresh_secured, led_on, calls_later, calls_given, asking, waiting}
use Rattle.demands.specs.Unheard.{AllAlike, no_calls, one_more, same_call, other_bytes, QuietOnceApart, phase_at}
use Rattle.demands.specs.Unheard.{HeardAlike}
use Rattle.record.specs.Limits.{phase_awaiting, phase_failed, cooling}
use Rattle.record.specs.Wanted.{Wanted}
use Rattle.record.specs.declared.types.Own.{Own}
use Rattle.device.specs.Answering.{line_answer}
use Rattle.device.specs.Calls.{received_at, has_password}
use Rattle.device.proofs.LinesReceived.{line_result, led_line_received}
use Rattle.demands.specs.WrongDoors.{secured_sample}
use Rattle.demands.specs.Computing.{computing}
use Rattle.demands.proofs.Unheard.{ours_unheard, nobody_opens}
use Rattle.demands.proofs.Samples.{is_same_by-leading_digest}

abbrev pub password : List ℕ
password = set_up_password fresh_secured.settings

pub alike : AllAlike 0 (calls_given asking) (calls_given waiting)
alike =
    one_more same_call (one_more same_call (one_more other_bytes (one_more same_call (one_more same_call (one_more
    same_call no_calls)))))

-- ---- place 0 never matches

is_matched-noted : (d : Device) (s : Session) (bs : List ℕ) → is_matched password s ≡ false
    → is_matched password (noted ours 0 d s (receives 1 bs memory)) ≡ false
is_matched-noted d s bs h = grind arith

pub later_never : (d : Device) (s : Session) → is_matched password s ≡ false
    → IsNeverMatched ours 0 password d s (receives 1 led_on memory ∷ calls_later)
later_never d s h = grind (arith, is_matched-noted)

-- the records and the sessions of the first calls
abbrev pub greeted_one : Device
greeted_one = after ours fresh_secured (opens 7 memory)

abbrev pub greeted_two : Device
greeted_two = after ours greeted_one (opens 8 memory)

abbrev pub spoken_to : List ℕ → Device
spoken_to bs = after ours greeted_two (receives 0 bs memory)

abbrev pub session_one : Session
session_one = noted ours 0 fresh_secured unopened (opens 7 memory)

abbrev pub session_two : Session
session_two = noted ours 0 greeted_one session_one (opens 8 memory)

abbrev pub session_three : List ℕ → Session
session_three bs = noted ours 0 greeted_two session_two (receives 0 bs memory)

-- ---- place 0 never matches

unmatched_one : is_matched password session_one ≡ false
unfolding computing
unmatched_one = refl

unmatched_two : is_matched password session_two ≡ false
unfolding computing
unmatched_two = refl

pub unmatched_asks : is_matched password (session_three asking) ≡ false
unfolding computing
unmatched_asks = is_same_by-leading_digest 7 (codes "JBMIAProjectorLink") (codes "%1POWR 1") (omega arith)

pub unmatched_waits : is_matched password (session_three waiting) ≡ false
unfolding computing
unmatched_waits = refl

pub never : (bs : List ℕ) → is_matched password (session_three bs) ≡ false
    → IsNeverMatched ours 0 password fresh_secured unopened (calls_given bs)
never bs unmatched = grind (arith, unmatched_one, unmatched_two, later_never)

-- ---- they differ after the last opening

pub quiet : QuietOnceApart ours 0 fresh_secured fresh_secured (calls_given asking) (calls_given waiting)
unfolding computing
quiet = grind (arith, nobody_opens)

pub accepted : (ours.set_up secured_sample).number ≡ 0
unfolding computing
accepted = refl

pub secured : has_password fresh_secured.settings ≡ true
unfolding computing
secured = refl

pub unheard : HeardAlike ours 0 fresh_secured fresh_secured (calls_given asking) (calls_given waiting)
unheard =
    ours_unheard.outsider_unheard secured_sample 0 (calls_given asking) (calls_given waiting) accepted secured alike
    (never asking unmatched_asks) (never waiting unmatched_waits) quiet

-- ---- where they end

-- place 1 is let in, and powers on
abbrev let_in : List ℕ → CallResult Refusal ℕ Device
let_in bs =
    let d = spoken_to bs in
    line_result d 1 (line_answer d.settings d.own (codes "%1POWR 1")) 41

abbrev PowersOn : List ℕ → Type 0
PowersOn bs = received_at (spoken_to bs) 1 led_on (length memory) ≡ let_in bs

asks_powers_on : PowersOn asking
unfolding computing
asks_powers_on =
    led_line_received (spoken_to asking) 1 (omega arith) (length memory) refl (omega arith) refl refl
    (codes "%1POWR 1") refl refl (omega arith)

waits_powers_on : PowersOn waiting
unfolding computing
waits_powers_on =
    led_line_received (spoken_to waiting) 1 (omega arith) (length memory) refl (omega arith) refl refl
    (codes "%1POWR 1") refl refl (omega arith)

ends_as : (bs : List ℕ) → PowersOn bs
    → run ours fresh_secured (calls_given bs) ≡ run ours (let_in bs).leaves calls_later
ends_as bs on = ap (λ (c : CallResult Refusal ℕ Device). run ours c.leaves calls_later) on

-- what place 0 is: failed, or awaiting
pub asks_failed : phase_at ours 0 (run ours fresh_secured (calls_given asking)) ≡ phase_failed
unfolding computing
asks_failed = ap (phase_at ours 0) (ends_as asking asks_powers_on)

pub waits_awaited : phase_at ours 0 (run ours fresh_secured (calls_given waiting)) ≡ phase_awaiting
unfolding computing
waits_awaited = ap (phase_at ours 0) (ends_as waiting waits_powers_on)

-- what place 1 was answered and did, which is the same in both runs: the lamp burnt for 20 seconds, and the projector
-- cools down
pub power_on_answered : reply (ours.receive (spoken_to asking) 1 led_on memory) ≡ with_cr "%1POWR=OK"
unfolding computing
power_on_answered = ap (λ (c : CallResult Refusal ℕ Device). reply (received_in c memory)) asks_powers_on

pub asks_cools : (run ours fresh_secured (calls_given asking)).own.power ≡ cooling
unfolding computing
asks_cools = ap (λ (d : Device). d.own.power) (ends_as asking asks_powers_on)

pub asks_burnt : slice_index_or (run ours fresh_secured (calls_given asking)).own.lamps 0 0 ≡ 20
unfolding computing
asks_burnt = ap (λ (d : Device). slice_index_or d.own.lamps 0 0) (ends_as asking asks_powers_on)

pub waits_cools : (run ours fresh_secured (calls_given waiting)).own.power ≡ cooling
waits_cools = ap (λ (o : Own). o.power) unheard.left.device.own ∙ asks_cools

-- ---- openings: "as closing frees a place"

-- he at place 0 fails when the connection is 29 seconds old, and so holds his place for 30 seconds more; or he sends no
-- CR, and it is closed a second later: who opens then is told place 1, or place 0
abbrev parting : List ℕ → List Call
parting bs = opens 7 memory ∷ passes 29 ∷ receives 0 bs memory ∷ passes 1 ∷ opens 8 memory ∷ []

parted : AllAlike 0 (parting (with_cr "x")) (parting (codes "x"))
parted =
    one_more same_call (one_more same_call (one_more other_bytes (one_more same_call (one_more same_call no_calls))))

never_failed : IsNeverMatched ours 0 password fresh_secured unopened (parting (with_cr "x"))
unfolding computing
never_failed =
    let unled = is_same_by-leading_digest 7 (codes "JBMIAProjectorLink") (codes "x") (omega arith) in
    (refl, (refl, (unled, (unled, (unled, tt)))))

never_awaited : IsNeverMatched ours 0 password fresh_secured unopened (parting (codes "x"))
unfolding computing
never_awaited = (refl, (refl, (refl, (refl, (refl, tt)))))

abbrev pub nothing : Gave
nothing = record { number = 0; taken = 0; place = 0; length = 0; memory = [] }

-- without the premise, our board is not so
pub openings_matter :
    ((w : Wanted) (p : ℕ) (xs ys : List Call)
    → let d = (ours.set_up w).device in
    let password = set_up_password d.settings in
    (ours.set_up w).number ≡ 0 → has_password d.settings ≡ true
    → AllAlike p xs ys
    → IsNeverMatched ours p password d unopened xs → IsNeverMatched ours p password d unopened ys
    → HeardAlike ours p d d xs ys)
    → ⊥
unfolding computing
openings_matter h =
    let heard = h secured_sample 0 (parting (with_cr "x")) (parting (codes "x")) refl refl parted never_failed
    never_awaited in
    let e : ◌≡◌ {A = ℕ} 1 0 = ap (λ (l : List Gave). (slice_index_or l 3 nothing).place) heard.got in
    absurd (omega arith)
