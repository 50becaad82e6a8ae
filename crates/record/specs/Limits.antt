-- The numbers of the device record, each named once (RULES, The legal record, Connection and Commands).
--   text_room, listed_most, ..   the room of each array, and how much of it a set-up may use
--   password_least               a password that secures has this many characters and more (RULES, Passwords)
--   lamp_limit                   a lamp's seconds stop here: 99,999 hours and 3,599 seconds
--   volume_most, volume_start    a volume is 0 to this; that of set-up (RULES, Class 2)
--   is_class_number k            there are two classes (RULES, Class 2)
--   only_in_2 k n                what Class 2 alone has: n of it there, none in any other class
--   transition_most                 warm-up and cooling last 1 to this many seconds
--   places_count                 so many controllers are connected at once (RULES, Places)
--   age_end                      an awaiting or failed connection closes when its age reaches this
--   off, on, cooling, warming    the power, as POWR answers it: is_power p says that p is one of them
--   is_lit power                 warm-up or on: the lamps burn
--   is_between power             warm-up or cooling: seconds are left
--   phase_closed, phase_awaiting, phase_open, phase_failed    the phase of a connection: is_phase p says that p is one
--   of them
-- Assumes nothing.
use Rattle.std.specs.Prelude.{ℕ, ◌*◌, Bool, ◌||◌, if◌then◌else◌, nat_le, ◌==◌}
use Rattle.words.specs.Texts.{name_most}

-- of the longest text
abbrev pub text_room : ℕ
text_room = name_most

-- of the inputs that a set-up lists (RULES, Inputs: as many as the standard allows)
abbrev pub listed_most : ℕ
listed_most = 32

-- two characters an input
abbrev pub input_room : ℕ
input_room = 2 * listed_most

abbrev pub password_least : ℕ
password_least = 8

abbrev pub lamps_most : ℕ
lamps_most = 8

abbrev pub lamp_limit : ℕ
lamp_limit = 359999999

abbrev pub volume_most : ℕ
volume_most = 20

abbrev pub volume_start : ℕ
volume_start = 10

abbrev pub is_class_number : ℕ → Bool
is_class_number k = k == 1 || k == 2

abbrev pub only_in_2 : ℕ → ℕ → ℕ
only_in_2 k n = if k == 2 then n else 0

abbrev pub transition_most : ℕ
transition_most = 600

-- fan, lamp, temperature, cover, filter, other: each 0 to 2
abbrev pub errors_count : ℕ
errors_count = 6

abbrev pub error_most : ℕ
error_most = 2

-- a digest of 32 bytes and a line of 135
abbrev pub line_room : ℕ
line_room = 167

abbrev pub places_count : ℕ
places_count = 4

abbrev pub age_end : ℕ
age_end = 30

abbrev pub off : ℕ
off = 0

abbrev pub on : ℕ
on = 1

abbrev pub cooling : ℕ
cooling = 2

abbrev pub warming : ℕ
warming = 3

abbrev pub is_power : ℕ → Bool
is_power p = nat_le p warming

abbrev pub is_lit : ℕ → Bool
is_lit power = power == warming || power == on

abbrev pub is_between : ℕ → Bool
is_between power = power == warming || power == cooling

abbrev pub phase_closed : ℕ
phase_closed = 0

abbrev pub phase_awaiting : ℕ
phase_awaiting = 1

abbrev pub phase_open : ℕ
phase_open = 2

abbrev pub phase_failed : ℕ
phase_failed = 3

abbrev pub is_phase : ℕ → Bool
is_phase p = nat_le p phase_failed
