-- What stands past the count of a legal panel is all zero: an entry that is legal and unused is the blank one.
--   NoneKept e      nothing but zero is kept in e, part by part
--   NothingKnown e  what an unused entry says;    RoomsKept e    the lamps that are shown, part by part
-- Assumes nothing.
use Rattle.std.specs.List.{list_all}
use Rattle.std.proofs.Common.{ℕ, ◌<◌, ◌≤◌, ◌+◌, ◌-◌, ◌≡◌, refl, sym, ap, ◌∙◌, Bool, true, false, List, [], ◌∷◌}
use Rattle.std.proofs.Common.{arith, ◌&&◌, ◌||◌, length, slice_index_or, drop, replicate, length-drop, get_or-drop}
use Rattle.std.proofs.Common.{eqb-true, ◌==◌}
use Rattle.text.specs.Flags.{is_lowered, is_raised}
use Rattle.text.proofs.RoomsTold.{uses_told}
use Rattle.text.proofs.Choices.{both_left, both_right}
use Rattle.text.proofs.Scanning.{list_all_at}
use Rattle.pjlink.specs.Carried.{lamps_carried}
use Rattle.panel.specs.Entries.{talk_of, shown_of, ungreeted, is_secured_talk, blank_entry}
use Rattle.panel.specs.LegalPanels.{is_command_kept, is_power_shown, is_input_shown, is_lamp_count, is_lit_room}
use Rattle.panel.specs.LegalPanels.{is_hours_room, shows_lamps, is_entry, is_unused, is_panel}
use Rattle.panel.specs.PanelCalls.{entry_at}
use Rattle.panel.specs.declared.types.PanelEntry.{PanelEntry}
use Rattle.panel.specs.declared.types.Panel.{Panel}
use Rattle.panel.proofs.PanelsTold.{entry_told, password_uses, room_told, panel_told}
use Rattle.panel.proofs.TalksTold.{talk_told}
use Rattle.panel.proofs.ShownLegal.{shown_told}

-- a room of which nothing is used is blank
module _ {A : Type 0} (blank : A → Bool) (x : A) (only : (y : A) → blank y ≡ true → y ≡ x) where
  all_blank : (l : List A) → list_all blank l ≡ true → l ≡ replicate (length l) x
  all_blank [] h = refl
  all_blank (y ∷ l) h = grind (arith, all_blank l (both_right (blank y) (list_all blank l) h))

  unused_room : {room : ℕ} (s : List A) {n : ℕ} → length s ≡ room → list_all blank (drop n s) ≡ true → n ≡ 0
      → s ≡ replicate room x
  unused_room s long clear none = grind (arith, all_blank)

module _ (e : PanelEntry) where
  record NoneKept : Type 0 where
    len : e.password.len ≡ 0
    greeting : e.greeting ≡ ungreeted
    random : e.random ≡ 0
    led : e.led ≡ 0
    under_way : e.under_way ≡ 0
    code : e.command.code ≡ 0
    first : e.command.first ≡ 0
    second : e.command.second ≡ 0
    power_known : e.power_known ≡ 0
    input_known : e.input_known ≡ 0
    lamps_known : e.lamps_known ≡ 0
    power : e.power ≡ 0
    input_type : e.input_type ≡ 0
    input_number : e.input_number ≡ 0
    lamp_count : e.lamp_count ≡ 0
    hours : is_hours_room e.hours e.lamp_count ≡ true
    lit : is_lit_room e.lit e.lamp_count ≡ true
    strays : e.strays ≡ 0

  record NothingKnown : Type 0 where
    len : e.password.len ≡ 0
    greeting : e.greeting ≡ ungreeted
    power_known : e.power_known ≡ 0
    input_known : e.input_known ≡ 0
    lamps_known : e.lamps_known ≡ 0
    strays : e.strays ≡ 0

  nothing_known : is_unused e ≡ true → NothingKnown
  unfolding is_unused
  nothing_known h = record {
    len = grind (arith, h);
    greeting = grind (arith, h);
    power_known = grind (arith, h);
    input_known = grind (arith, h);
    lamps_known = grind (arith, h);
    strays = grind (arith, h);
  }

  -- before a greeting there is neither a digest nor a command
  no_secrets : e.greeting ≡ ungreeted → (is_secured_talk (talk_of e) || (e.random == 0 && is_lowered e.led)) ≡ true
      → (e.random ≡ 0) × (e.led ≡ 0)
  no_secrets none h = (grind (arith, none, h), grind (arith, none, h))

  no_command : e.greeting ≡ ungreeted → is_command_kept (talk_of e) ≡ true
      → (e.under_way ≡ 0) × ((e.command.code ≡ 0) × ((e.command.first ≡ 0) × (e.command.second ≡ 0)))
  unfolding is_command_kept
  no_command none h =
      (grind (arith, none, h), (grind (arith, none, h), (grind (arith, none, h), grind (arith, none, h))))

  no_power : is_raised e.power_known ≡ false → is_power_shown (is_raised e.power_known) e.power ≡ true → e.power ≡ 0
  unfolding is_power_shown
  no_power none h = grind (arith, none, h)

  no_input : is_raised e.input_known ≡ false
      → is_input_shown (is_raised e.input_known) e.input_type e.input_number ≡ true
      → (e.input_type ≡ 0) × (e.input_number ≡ 0)
  unfolding is_input_shown
  no_input none h = (grind (arith, none, h), grind (arith, none, h))

  no_lamps : is_raised e.lamps_known ≡ false → is_lamp_count (is_raised e.lamps_known) e.lamp_count ≡ true
      → e.lamp_count ≡ 0
  unfolding is_lamp_count
  no_lamps none h = grind (arith, none, h)

  record RoomsKept : Type 0 where
    count : is_lamp_count (is_raised e.lamps_known) e.lamp_count ≡ true
    hours : is_hours_room e.hours e.lamp_count ≡ true
    lit : is_lit_room e.lit e.lamp_count ≡ true

  rooms_kept : shows_lamps (is_raised e.lamps_known) e.lamp_count e.hours e.lit ≡ true → RoomsKept
  unfolding shows_lamps
  rooms_kept h = record {
    count = both_left _ _ (both_left _ _ h);
    hours = both_right _ _ (both_left _ _ h);
    lit = both_right _ _ h;
  }

  module _ (legal : is_entry e ≡ true) (unused : is_unused e ≡ true) where
    none_kept : NoneKept
    none_kept =
        let known = nothing_known unused in
        let told = entry_told e legal in
        let talk = talk_told (talk_of e) told.talk in
        let shown = shown_told (shown_of e) told.shown in
        let secrets = no_secrets known.greeting talk.secrets in
        let command = no_command known.greeting talk.command in
        let input = no_input (ap is_raised known.input_known) shown.input in
        let rooms = rooms_kept shown.lamps in record {
          len = known.len;
          greeting = known.greeting;
          random = secrets.0;
          led = secrets.1;
          under_way = command.0;
          code = command.1.0;
          first = command.1.1.0;
          second = command.1.1.1;
          power_known = known.power_known;
          input_known = known.input_known;
          lamps_known = known.lamps_known;
          power = no_power (ap is_raised known.power_known) shown.power;
          input_type = input.0;
          input_number = input.1;
          lamp_count = no_lamps (ap is_raised known.lamps_known) rooms.count;
          hours = rooms.hours;
          lit = rooms.lit;
          strays = known.strays;
        }

    none_lit : e.lit ≡ replicate lamps_carried 0
    unfolding is_lit_room
    none_lit =
        let room = (room_told is_lowered lamps_carried e.lit e.lamp_count).0 (both_left _ _ none_kept.lit) in
        unused_room is_lowered 0 (λ y. eqb-true y 0) e.lit room.long room.clear none_kept.lamp_count

    pub unused_is_blank : e ≡ blank_entry
    unused_is_blank =
        let none = none_kept in
        let password = password_uses e legal in
        let hours = (uses_told _ _ _ e.hours e.lamp_count).0 none.hours in
        let is_nought = λ (x : ℕ). x == 0 in
        let zero = λ (x : ℕ). eqb-true x 0 in
        let no_bytes = unused_room is_nought 0 zero e.password.bytes password.long password.clear none.len in
        let no_hours = unused_room is_nought 0 zero e.hours hours.long hours.clear none.lamp_count in
        let lit = none_lit in
        (λ i. record {
          password = record { len = none.len i; bytes = no_bytes i };
          greeting = none.greeting i;
          random = none.random i;
          led = none.led i;
          under_way = none.under_way i;
          command = record { code = none.code i; first = none.first i; second = none.second i };
          power_known = none.power_known i;
          input_known = none.input_known i;
          lamps_known = none.lamps_known i;
          power = none.power i;
          input_type = none.input_type i;
          input_number = none.input_number i;
          lamp_count = none.lamp_count i;
          hours = no_hours i;
          lit = lit i;
          strays = none.strays i;
        })

-- each place past the count
pub past_count_blank : (p : Panel) → is_panel p ≡ true → (i : ℕ) → p.count ≤ i → i < length p.entries
    → entry_at p i ≡ blank_entry
past_count_blank p legal i past inside =
    let known = panel_told p legal in
    let n = p.count in
    let there : n + (i - n) ≡ i = omega arith in
    let short : i - n < length (drop n p.entries) = omega (arith, length-drop n p.entries) in
    let unused = list_all_at is_unused (drop n p.entries) blank_entry known.unused (i - n) short in
    unused_is_blank (entry_at p i) (list_all_at is_entry p.entries blank_entry known.entries i inside)
    (ap is_unused (ap (λ (j : ℕ). slice_index_or p.entries j blank_entry) (sym there)
    ∙ sym (get_or-drop n p.entries (i - n) blank_entry))
    ∙ unused)
