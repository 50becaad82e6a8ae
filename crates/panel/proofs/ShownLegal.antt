-- What is shown of a legal entry is in the reader's range: what an accepted reply says is, and it leaves the rest as it
-- was.
-- Assumes nothing.
use Rattle.std.specs.List.{list_all}
use Rattle.std.proofs.Common.{ℕ, ◌≤◌, ◌≡◌, refl, sym, ◌∙◌, subst, Bool, true, false, ◌&&◌, List, []}
use Rattle.std.proofs.Common.{map, arith, length, nat_le, ◌==◌}
use Rattle.std.proofs.lemmas.List.{length-map, map-append}
use Rattle.text.proofs.Choices.{both}
use Rattle.text.proofs.FlagsTold.{flags_legal, lowered_replicate}
use Rattle.text.specs.Flags.{is_flag, is_lowered, is_raised, flag_of}
use Rattle.text.specs.Rooms.{filled_room, Uses}
use Rattle.text.proofs.RoomsTold.{uses_told, kept_used}
use Rattle.text.proofs.Scanning.{list_all-map}
use Rattle.words.specs.Inputs.{is_input}
use Rattle.words.specs.declared.input.Source.{Source}
use Rattle.words.specs.declared.input.Input.{Input}
use Rattle.words.specs.Lamps.{is_lamp_hours}
use Rattle.words.specs.declared.power.PowerStatus.{PowerStatus}
use Rattle.words.specs.declared.lamp.LampHours.{LampHours}
use Rattle.pjlink.specs.declared.command.Command.{Command}
use Rattle.pjlink.specs.Said.{Said, chosen_is}
use Rattle.pjlink.specs.Carried.{lamps_carried}
use Rattle.pjlink.specs.declared.body.AnswerKind.{AnswerKind}
use Rattle.pjlink.specs.CanSay.{CanSay, done, refuses, tells, IsOfKind}
use Rattle.codes.specs.Commands.{source_number}
use Rattle.codes.specs.Readings.{hours_of, is_lit_lamp, power_at_face}
use Rattle.panel.specs.Entries.{Shown, nothing_shown}
use Rattle.panel.specs.Showing.{showing}
use Rattle.panel.specs.LegalPanels.{is_power_shown, is_input_shown, is_lamp_count, is_hours, is_hours_room, is_lit_room}
use Rattle.panel.specs.LegalPanels.{shows_lamps, is_shown}
use Rattle.panel.proofs.PanelsTold.{room_told}

-- the parts of is_shown
pub record ShownTold (s : Shown) : Type 0 where
  pub power : is_power_shown (is_raised s.power_known) s.power ≡ true
  pub input : is_input_shown (is_raised s.input_known) s.input_type s.input_number ≡ true
  pub lamps : shows_lamps (is_raised s.lamps_known) s.lamp_count s.hours s.lit ≡ true
  pub flags : (is_flag s.power_known && is_flag s.input_known && is_flag s.lamps_known) ≡ true

module _ (s : Shown) where
  pub shown_told : is_shown s ≡ true → ShownTold s
  unfolding is_shown
  shown_told h = grind arith

  shown_legal : ShownTold s → is_shown s ≡ true
  unfolding is_shown
  shown_legal k = grind (arith, k.power, k.input, k.lamps, k.flags)

is_power_shown-power_at_face : (p : PowerStatus) → is_power_shown true (power_at_face p) ≡ true
unfolding is_power_shown
is_power_shown-power_at_face p = grind arith

is_input_shown-source_number : (s : Source) (n : ℕ) → (nat_le 1 n && nat_le n 35) ≡ true →
    is_input_shown true (source_number s) n ≡ true
unfolding is_input_shown
is_input_shown-source_number s n h = grind arith

-- a cleared room that is filled from its start keeps these things
room_used : {A : Type 0} (blank : A → Bool) (x : A) (rule : List A → Bool) (xs : List A) {n : ℕ} → n ≡ length xs
    → length xs ≤ lamps_carried → blank x ≡ true → rule xs ≡ true
    → Uses blank lamps_carried rule (filled_room x lamps_carried xs) n
room_used blank x rule xs long few blanks follows =
    subst (Uses blank lamps_carried rule (filled_room x lamps_carried xs)) (sym long)
    (kept_used blank x lamps_carried rule xs few blanks follows)

module _ (n : ℕ) (few : n ≤ lamps_carried) where
  -- the flags of the room are the room of the flags
  flags_room : (bs : List Bool)
      → map flag_of (filled_room false lamps_carried bs) ≡ filled_room 0 lamps_carried (map flag_of bs)
  flags_room bs = grind (arith, map-append, lowered_replicate, length-map)

  lit_shown : (bs : List Bool) → n ≡ length bs → is_lit_room (map flag_of (filled_room false lamps_carried bs)) n ≡ true
  unfolding is_lit_room
  lit_shown bs long =
      let many = length-map bs flag_of in
      let room =
      room_used is_lowered 0 (λ _. true) (map flag_of bs) (long ∙ sym many) (omega (arith, many)) refl refl in
      let used = subst (λ (l : List ℕ). Uses is_lowered lamps_carried (λ _. true) l n) (sym (flags_room bs)) room in
      both ((room_told is_lowered lamps_carried _ n).1 used) (flags_legal (filled_room false lamps_carried bs))

  hours_shown : (hs : List ℕ) → n ≡ length hs → is_hours hs ≡ true
      → is_hours_room (filled_room 0 lamps_carried hs) n ≡ true
  hours_shown hs long e = (uses_told _ _ _ _ _).1 (room_used (λ x. x == 0) 0 is_hours hs long (omega arith) refl e)

lamps_shown : (ls : List LampHours) → 1 ≤ length ls → length ls ≤ lamps_carried → list_all is_lamp_hours ls ≡ true
    → shows_lamps true (length ls) (filled_room 0 lamps_carried (map hours_of ls))
    (map flag_of (filled_room false lamps_carried (map is_lit_lamp ls))) ≡ true
unfolding shows_lamps is_lamp_count
lamps_shown ls low high e = grind (arith, hours_shown, length-map, list_all-map, lit_shown)

-- what is said in reply to a command; a chosen input under either class
module _ (s : Shown) where
  chosen_shown : (i : Input) → is_input i ≡ true → is_shown s ≡ true → is_shown (showing s (chosen_is i)) ≡ true
  chosen_shown i e h = grind (arith, shown_told, shown_legal, is_input_shown-source_number)

  kind_shown : {k : AnswerKind} {m : Said} → IsOfKind k m → is_shown s ≡ true → is_shown (showing s m) ≡ true
  kind_shown h g = grind (arith, shown_told, shown_legal, is_power_shown-power_at_face, chosen_shown, lamps_shown)

  pub said_shown : {c : Command} {m : Said} → CanSay c m → is_shown s ≡ true → is_shown (showing s m) ≡ true
  said_shown (done set) g = grind (arith, shown_told, shown_legal)
  said_shown (refuses n low high t) g = grind (arith, shown_told, shown_legal)
  said_shown (tells asks of) g = kind_shown of g

pub nothing_shown_legal : is_shown nothing_shown ≡ true
unfolding is_shown is_power_shown is_input_shown shows_lamps is_lamp_count
nothing_shown_legal =
    let hours = hours_shown 0 (omega arith) [] refl refl in
    let lit = lit_shown 0 (omega arith) [] refl in
    grind (arith, hours, lit)
