-- What the panel keeps of a projector (RULES, Panel), in its parts: its password, its greeting, one command under way,
-- its last known power, input and lamps, and its count of strays. What is not known or not under way is zero.
--   Talk                 the state of its connection: its greeting, whether the digest was sent, its command
--   Shown                what is shown of it: power, input and lamps, each known or not
--   talk_of e, shown_of e, password_in e   these parts of the entry e, and its password
--   entry_of t l s n     the entry with the password l, the talk t, what is shown s, and the count of strays n
--   no_talk              the talk before a greeting
--   greeted_by n r       the talk after a greeting: n is its number, r the random number
--   sent_on t k          the talk t after the command k was sent
--   rested_on t          the talk t without a command under way
--   leads_next t         the next command of the talk t is the first after a secured greeting, so the digest leads it
--   nothing_shown        what is shown if all is unknown
--   fresh_entry s        the entry of a projector that was just added, with the password s
--   blank_entry          the entry in which all is zero
-- Assumes nothing.
use Rattle.std.specs.Prelude.{ℕ, Bool, not, ◌&&◌, List, take, replicate, ◌==◌}
use Rattle.text.specs.Flags.{is_raised, flag_of}
use Rattle.pjlink.specs.Carried.{lamps_carried}
use Rattle.codes.specs.Commands.{code_with}
use Rattle.codes.specs.declared.command.Coded.{Coded}
use Rattle.panel.specs.Passwords.{password_of, no_password}
use Rattle.panel.specs.declared.types.Password.{Password}
use Rattle.panel.specs.declared.types.PanelEntry.{PanelEntry}

pub record Talk : Type 0 where
  pub greeting : ℕ
  pub random : ℕ
  pub led : ℕ
  pub under_way : ℕ
  pub command : Coded

pub record Shown : Type 0 where
  pub power_known : ℕ
  pub input_known : ℕ
  pub lamps_known : ℕ
  pub power : ℕ
  pub input_type : ℕ
  pub input_number : ℕ
  pub lamp_count : ℕ
  pub hours : List ℕ
  pub lit : List ℕ

-- the number of a greeting: 0 none yet, 1 `PJLINK 0`, 2 `PJLINK 1`
abbrev pub ungreeted : ℕ
ungreeted = 0

abbrev pub greeted_open : ℕ
greeted_open = 1

abbrev pub greeted_secured : ℕ
greeted_secured = 2

abbrev pub talk_of : PanelEntry → Talk
talk_of e = record {
  greeting = e.greeting;
  random = e.random;
  led = e.led;
  under_way = e.under_way;
  command = e.command;
}

abbrev pub shown_of : PanelEntry → Shown
shown_of e = record {
  power_known = e.power_known;
  input_known = e.input_known;
  lamps_known = e.lamps_known;
  power = e.power;
  input_type = e.input_type;
  input_number = e.input_number;
  lamp_count = e.lamp_count;
  hours = e.hours;
  lit = e.lit;
}

abbrev pub password_in : PanelEntry → List ℕ
password_in e = take e.password.len e.password.bytes

abbrev pub entry_of : Password → Talk → Shown → ℕ → PanelEntry
entry_of password talk shown strays = record {
  password = password;
  greeting = talk.greeting;
  random = talk.random;
  led = talk.led;
  under_way = talk.under_way;
  command = talk.command;
  power_known = shown.power_known;
  input_known = shown.input_known;
  lamps_known = shown.lamps_known;
  power = shown.power;
  input_type = shown.input_type;
  input_number = shown.input_number;
  lamp_count = shown.lamp_count;
  hours = shown.hours;
  lit = shown.lit;
  strays = strays;
}

abbrev pub none_coded : Coded
none_coded = code_with 0 0 0

abbrev pub greeted_by : ℕ → ℕ → Talk
greeted_by n r = record { greeting = n; random = r; led = 0; under_way = 0; command = none_coded }

abbrev pub no_talk : Talk
no_talk = greeted_by ungreeted 0

abbrev pub is_secured_talk : Talk → Bool
is_secured_talk t = t.greeting == greeted_secured

abbrev pub leads_next : Talk → Bool
leads_next t = is_secured_talk t && not (is_raised t.led)

abbrev pub sent_on : Talk → Coded → Talk
sent_on t k = record {
  greeting = t.greeting;
  random = t.random;
  led = flag_of (is_secured_talk t);
  under_way = 1;
  command = k;
}

abbrev pub rested_on : Talk → Talk
rested_on t = record {
  greeting = t.greeting;
  random = t.random;
  led = t.led;
  under_way = 0;
  command = none_coded;
}

-- no lamps: their arrays are all zero
abbrev pub nothing_shown : Shown
nothing_shown = record {
  power_known = 0;
  input_known = 0;
  lamps_known = 0;
  power = 0;
  input_type = 0;
  input_number = 0;
  lamp_count = 0;
  hours = replicate lamps_carried 0;
  lit = replicate lamps_carried 0;
}

abbrev pub fresh_entry : List ℕ → PanelEntry
fresh_entry s = entry_of (password_of s) no_talk nothing_shown 0

abbrev pub blank_entry : PanelEntry
blank_entry = entry_of no_password no_talk nothing_shown 0
