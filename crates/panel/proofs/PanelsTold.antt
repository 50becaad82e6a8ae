-- What a legal entry and a legal panel tell, part by part, and how they are shown.
--   EntryTold e      the parts of is_entry
--   PanelTold p      the parts of is_panel
-- Assumes nothing.
use Rattle.std.specs.List.{list_all}
use Rattle.std.proofs.Common.{ℕ, ◌≤◌, ◌<◌, ◌≡◌, ◌↔◌, Bool, true, List, arith, length, slice_index_or, drop, Option}
use Rattle.std.proofs.Common.{is_some, ◌==◌}
use Rattle.text.specs.Rooms.{used_part, holds, Uses}
use Rattle.text.proofs.RoomsTold.{uses_told}
use Rattle.text.proofs.Scanning.{list_all_at}
use Rattle.words.specs.Texts.{is_password}
use Rattle.panel.specs.Passwords.{password_room, is_password_kept}
use Rattle.panel.specs.Entries.{talk_of, shown_of, password_in, blank_entry}
use Rattle.panel.specs.Stepping.{strays_most}
use Rattle.panel.specs.LegalPanels.{panel_most, is_talk, is_shown, is_entry, is_unused, is_panel}
use Rattle.panel.specs.PanelCalls.{entry_at}
use Rattle.panel.specs.declared.types.PanelEntry.{PanelEntry}
use Rattle.panel.specs.declared.types.Panel.{Panel}

pub record EntryTold (e : PanelEntry) : Type 0 where
  pub password : is_password_kept e.password ≡ true
  pub talk : is_talk (talk_of e) ≡ true
  pub shown : is_shown (shown_of e) ≡ true
  pub strays : e.strays ≤ strays_most

module _ (e : PanelEntry) where
  pub entry_told : is_entry e ≡ true → EntryTold e
  unfolding is_entry
  entry_told h = grind arith

  pub entry_legal : EntryTold e → is_entry e ≡ true
  unfolding is_entry
  entry_legal k = grind (arith, k.password, k.talk, k.shown, k.strays)

  -- its password is in its room, and one that the writer takes
  pub password_uses : is_entry e ≡ true
      → Uses (λ x. x == 0) password_room is_password e.password.bytes e.password.len
  password_uses legal = (uses_told _ _ _ _ _).0 (entry_told legal).password

  pub is_password-password_in : is_entry e ≡ true → is_password (password_in e) ≡ true
  is_password-password_in legal = (password_uses legal).follows

-- a room of which something is used
some_holds : {A : Type 0} (u : Option (List A)) → is_some u ≡ holds (λ _. true) u
some_holds u = grind arith

pub room_told : {A : Type 0} (blank : A → Bool) (room : ℕ) (s : List A) (n : ℕ)
    → (is_some (used_part blank room s n) ≡ true) ↔ Uses blank room (λ _. true) s n
room_told blank room s n = grind (arith, some_holds, uses_told)

pub record PanelTold (p : Panel) : Type 0 where
  pub count : p.count ≤ panel_most
  pub long : length p.entries ≡ panel_most
  pub entries : list_all is_entry p.entries ≡ true
  pub unused : list_all is_unused (drop p.count p.entries) ≡ true

module _ (p : Panel) where
  pub panel_told : is_panel p ≡ true → PanelTold p
  unfolding is_panel
  panel_told h = grind (arith, room_told)

  pub panel_legal : PanelTold p → is_panel p ≡ true
  unfolding is_panel
  panel_legal k = grind (arith, room_told)

  pub few_projectors : is_panel p ≡ true → p.count ≤ panel_most
  few_projectors legal = (panel_told legal).count

  module _ (legal : is_panel p ≡ true) (i : ℕ) (there : i < p.count) where
    -- whatever stands for what is past the end
    pub is_entry-slice_index_or : (d : PanelEntry) → is_entry (slice_index_or p.entries i d) ≡ true
    is_entry-slice_index_or d = grind (arith, panel_told, list_all_at)

    pub entry_at_legal : is_entry (entry_at p i) ≡ true
    entry_at_legal = is_entry-slice_index_or blank_entry

    pub fits_there : (d : PanelEntry) → (slice_index_or p.entries i d).password.len ≤ password_room
    fits_there d = (password_uses (slice_index_or p.entries i d) (is_entry-slice_index_or d)).inside
