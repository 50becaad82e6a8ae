-- The words of a command line (RULES, The programs).
--   use_of p name      what a name with `-` asks for, of a program that knows `--page` or does not
--   is_dashed w        the word begins with `-`, and is not that alone
--   ArgumentParser            the words read so far: which word comes next, what they asked for, and those that are
--                             files
--   Stopped            why a command line asks for no log
--   after_word p r w   what the words r and w behind them ask for
--   read_on p r ws     and the words ws behind them;    begun   before any
--   ended r            what they ask for where they end
--   AskedFor           that: what is written, of a log that began when, from how many hours on a stretch is long, how
--                      many a lamp lives, by which form, into which file, of which logs
--   asked_by p ws      what the words of a command line ask for, the program's name not among them
--   GoesOn, Asks       the same of what the code has, which may be out of memory too
-- Assumes nothing.
use Rattle.std.specs.Prelude.{⊤, ℕ, ◌≡◌, Bool, true, false, ◌&&◌, ◌||◌, List, [], ◌∷◌, ◌++◌, length, codes}
use Rattle.std.specs.Prelude.{if◌then◌else◌, ◌==◌, nat_le, Option, Some, None, is_some, option_map}
use Rattle.std.specs.Prelude.{Result, Ok, Err, map}
use Rattle.std.specs.Str.{bytes_eq}
use Rattle.std.specs.Borrow.{Bor}
use Rattle.std.specs.List.{before_first, after_first}
use Rattle.text.specs.Words.{◌is◌}
use Rattle.words.specs.Bytes.{◌at◌}
use Rattle.numbers.specs.Decimal.{read_number}
use Rattle.command.specs.declared.asked.Use.{Use}
use Rattle.command.specs.declared.asked.Use.TheVariants as use_case
use Rattle.command.specs.declared.asked.Next.{Next}
use Rattle.command.specs.declared.asked.Next.TheVariants.{Any, FormName, OutputName, Moment as MomentNext, Free}
use Rattle.command.specs.declared.asked.Next.TheVariants.{Long as LongNext, Life as LifeNext}
use Rattle.command.specs.declared.asked.Shape.{Shape}
use Rattle.command.specs.declared.asked.Shape.TheVariants.{Lines, Page, Csv}
use Rattle.calendar.specs.declared.Moment.{Moment}
use Rattle.calendar.specs.Moments.{moment_in}
use Rattle.command.specs.declared.asked.Stop.{Stop}
use Rattle.command.specs.declared.asked.Stop.TheVariants.{Help, Version, Unknown, Alone, Twice, NoForm, NoMoment}
use Rattle.command.specs.declared.asked.Stop.TheVariants.{NoHours, Apart, NoMemory}
use Rattle.command.specs.declared.asked.ArgumentParser.{ArgumentParser as ReadingCase}
use Rattle.command.specs.declared.asked.Arguments.{Arguments}

abbrev pub use_of : Bool → List ℕ → Use
use_of has_page w =
    if bytes_eq w (codes "-h") || bytes_eq w (codes "--help") then use_case.Help
    else if bytes_eq w (codes "-V") || bytes_eq w (codes "--version") then use_case.Version
    else if has_page && bytes_eq w (codes "--page") then use_case.Page
    else if has_page && bytes_eq w (codes "--csv") then use_case.Csv
    else if has_page && bytes_eq w (codes "--began") then use_case.Began
    else if has_page && bytes_eq w (codes "--long") then use_case.Long
    else if has_page && bytes_eq w (codes "--life") then use_case.Life
    else if bytes_eq w (codes "--form") then use_case.Form
    else if bytes_eq w (codes "-o") || bytes_eq w (codes "--output") then use_case.Output
    else use_case.Unknown

abbrev pub dash : List ℕ
dash = codes "-"

abbrev pub is_dashed : List ℕ → Bool
is_dashed w = nat_le 2 (length w) && w at 0 is "-"

abbrev pub is_equals : ℕ → Bool
is_equals b = b is "="

pub record ArgumentParser : Type 0 where
  pub next : Next
  pub shape : Shape
  pub began : Option Moment
  pub long : Option ℕ
  pub life : Option ℕ
  pub form : Option (List ℕ)
  pub output : Option (List ℕ)
  pub free : List (List ℕ)
  pub has_dash : Bool

pub data Stopped : Type 0 where
  help : Stopped
  version : Stopped
  unknown : List ℕ → Stopped
  alone : List ℕ → Stopped
  twice : List ℕ → Stopped
  no_form : List ℕ → Stopped
  no_moment : List ℕ → Stopped
  no_hours : List ℕ → Stopped
  apart : List ℕ → Stopped

abbrev pub begun : ArgumentParser
begun = record {
  next = Any;
  shape = Lines;
  began = None;
  long = None;
  life = None;
  form = None;
  output = None;
  free = [];
  has_dash = false;
}

abbrev pub with_moment : ArgumentParser → List ℕ → Option Moment → Result ArgumentParser Stopped
with_moment r w None = Err (no_moment w)
with_moment r w (Some m) = Ok (record r { next = Any; began = Some m })

abbrev pub with_began : ArgumentParser → List ℕ → Result ArgumentParser Stopped
with_began r w = if is_some r.began then Err (twice (codes "--began")) else with_moment r w (moment_in w)

-- a number of hours has one to five digits
abbrev pub with_long_hours : ArgumentParser → List ℕ → Option ℕ → Result ArgumentParser Stopped
with_long_hours r w None = Err (no_hours w)
with_long_hours r w (Some n) = Ok (record r { next = Any; long = Some n })

abbrev pub with_long : ArgumentParser → List ℕ → Result ArgumentParser Stopped
with_long r w = if is_some r.long then Err (twice (codes "--long")) else with_long_hours r w (read_number w)

abbrev pub with_life_hours : ArgumentParser → List ℕ → Option ℕ → Result ArgumentParser Stopped
with_life_hours r w None = Err (no_hours w)
with_life_hours r w (Some n) = Ok (record r { next = Any; life = Some n })

abbrev pub with_life : ArgumentParser → List ℕ → Result ArgumentParser Stopped
with_life r w = if is_some r.life then Err (twice (codes "--life")) else with_life_hours r w (read_number w)

-- one output has one shape
abbrev pub page_from : Shape → ArgumentParser → List ℕ → Result ArgumentParser Stopped
page_from Csv r w = Err (apart w)
page_from Lines r w = Ok (record r { shape = Page })
page_from Page r w = Ok (record r { shape = Page })

abbrev pub with_page : ArgumentParser → List ℕ → Result ArgumentParser Stopped
with_page r w = page_from r.shape r w

abbrev pub csv_from : Shape → ArgumentParser → List ℕ → Result ArgumentParser Stopped
csv_from Page r w = Err (apart w)
csv_from Lines r w = Ok (record r { shape = Csv })
csv_from Csv r w = Ok (record r { shape = Csv })

abbrev pub with_csv : ArgumentParser → List ℕ → Result ArgumentParser Stopped
with_csv r w = csv_from r.shape r w

abbrev pub with_form : ArgumentParser → List ℕ → Result ArgumentParser Stopped
with_form r name =
    if is_some r.form then Err (twice (codes "--form")) else Ok (record r { next = Any; form = Some name })

abbrev pub with_output : ArgumentParser → List ℕ → Result ArgumentParser Stopped
with_output r name =
    if is_some r.output then Err (twice (codes "--output")) else Ok (record r { next = Any; output = Some name })

abbrev pub with_free : ArgumentParser → List ℕ → Result ArgumentParser Stopped
with_free r w =
    let is_dash = bytes_eq w dash in
    if is_dash && r.has_dash then Err (twice w)
    else Ok (record r { free = r.free ++ (w ∷ []); has_dash = r.has_dash || is_dash })

abbrev pub by_use : Use → Bool → ArgumentParser → List ℕ → List ℕ → Result ArgumentParser Stopped
by_use use_case.Help true r w value = Err help
by_use use_case.Help false r w value = Err (unknown w)
by_use use_case.Version true r w value = Err version
by_use use_case.Version false r w value = Err (unknown w)
by_use use_case.Page true r w value = with_page r w
by_use use_case.Page false r w value = Err (unknown w)
by_use use_case.Csv true r w value = with_csv r w
by_use use_case.Csv false r w value = Err (unknown w)
by_use use_case.Began true r w value = Ok (record r { next = MomentNext })
by_use use_case.Began false r w value = with_began r value
by_use use_case.Long true r w value = Ok (record r { next = LongNext })
by_use use_case.Long false r w value = with_long r value
by_use use_case.Life true r w value = Ok (record r { next = LifeNext })
by_use use_case.Life false r w value = with_life r value
by_use use_case.Form true r w value = Ok (record r { next = FormName })
by_use use_case.Form false r w value = with_form r value
by_use use_case.Output true r w value = Ok (record r { next = OutputName })
by_use use_case.Output false r w value = with_output r value
by_use use_case.Unknown whole r w value = Err (unknown w)

abbrev pub by_option : Bool → ArgumentParser → List ℕ → Result ArgumentParser Stopped
by_option has_page r w =
    let name = before_first is_equals w in
    by_use (use_of has_page name) (length name == length w) r w (after_first is_equals w)

abbrev pub by_next : Next → Bool → ArgumentParser → List ℕ → Result ArgumentParser Stopped
by_next FormName has_page r w = with_form r w
by_next OutputName has_page r w = with_output r w
by_next MomentNext has_page r w = with_began r w
by_next LongNext has_page r w = with_long r w
by_next LifeNext has_page r w = with_life r w
by_next Free has_page r w = with_free r w
by_next Any has_page r w =
    if bytes_eq w (codes "--") then Ok (record r { next = Free })
    else if is_dashed w then by_option has_page r w
    else with_free r w

unfoldable pub after_word : Bool → ArgumentParser → List ℕ → Result ArgumentParser Stopped
after_word has_page r w = by_next r.next has_page r w

abbrev pub and_then : {A B : Type 0} → Result A Stopped → (A → Result B Stopped) → Result B Stopped
and_then (Ok a) f = f a
and_then (Err why) f = Err why

unfoldable pub read_on : Bool → ArgumentParser → List (List ℕ) → Result ArgumentParser Stopped
read_on has_page r [] = Ok r
read_on has_page r (w ∷ ws) = and_then (after_word has_page r w) (λ s. read_on has_page s ws)

pub record AskedFor : Type 0 where
  pub shape : Shape
  pub began : Option Moment
  pub long : Option ℕ
  pub life : Option ℕ
  pub form : Option (List ℕ)
  pub output : Option (List ℕ)
  pub logs : List (List ℕ)

abbrev pub asked_for_by : ArgumentParser → Option (List ℕ) → List (List ℕ) → AskedFor
asked_for_by r form logs = record {
  shape = r.shape;
  began = r.began;
  long = r.long;
  life = r.life;
  form = form;
  output = r.output;
  logs = logs;
}

abbrev pub by_first : ArgumentParser → List (List ℕ) → Result AskedFor Stopped
by_first r [] = Ok (asked_for_by r None [])
by_first r (w ∷ ws) = if bytes_eq w dash then Err (no_form w) else Ok (asked_for_by r (Some w) ws)

abbrev pub by_files : Option (List ℕ) → ArgumentParser → Result AskedFor Stopped
by_files (Some name) r = Ok (asked_for_by r (Some name) r.free)
by_files None r = by_first r r.free

abbrev pub by_end : Next → ArgumentParser → Result AskedFor Stopped
by_end FormName r = Err (alone (codes "--form"))
by_end OutputName r = Err (alone (codes "--output"))
by_end MomentNext r = Err (no_moment (codes "--began"))
by_end LongNext r = Err (no_hours (codes "--long"))
by_end LifeNext r = Err (no_hours (codes "--life"))
by_end Any r = by_files r.form r
by_end Free r = by_files r.form r

unfoldable pub ended : ArgumentParser → Result AskedFor Stopped
ended r = by_end r.next r

unfoldable pub asked_by : Bool → List (List ℕ) → Result AskedFor Stopped
asked_by has_page ws = and_then (read_on has_page begun ws) ended

abbrev pub text_seen : Option (Bor (List ℕ)) → Option (List ℕ)
text_seen t = option_map (λ b. b.now) t

abbrev pub seen_in : ReadingCase → ArgumentParser
seen_in r = record {
  next = r.next;
  shape = r.shape;
  began = r.began;
  long = r.long;
  life = r.life;
  form = text_seen r.form;
  output = text_seen r.output;
  free = map (λ (b : Bor (List ℕ)). b.now) r.free.items;
  has_dash = r.dash;
}

abbrev pub StopsBy : {A : Type 0} → Stop → Result A Stopped → Type 0
StopsBy Help r = r ≡ Err help
StopsBy Version r = r ≡ Err version
StopsBy (Unknown w) r = r ≡ Err (unknown w.now)
StopsBy (Alone w) r = r ≡ Err (alone w.now)
StopsBy (Twice w) r = r ≡ Err (twice w.now)
StopsBy (NoForm w) r = r ≡ Err (no_form w.now)
StopsBy (NoMoment w) r = r ≡ Err (no_moment w.now)
StopsBy (NoHours w) r = r ≡ Err (no_hours w.now)
StopsBy (Apart w) r = r ≡ Err (apart w.now)
StopsBy NoMemory r = ⊤

abbrev pub GoesOn : Result ReadingCase Stop → Result ArgumentParser Stopped → Type 0
GoesOn (Ok r) s = s ≡ Ok (seen_in r)
GoesOn (Err why) s = StopsBy why s

abbrev pub asked_seen : Arguments → AskedFor
asked_seen c = record {
  shape = c.shape;
  began = c.began;
  long = c.long;
  life = c.life;
  form = text_seen c.form;
  output = text_seen c.output;
  logs = map (λ (b : Bor (List ℕ)). b.now) c.logs.items;
}

abbrev pub Asks : Result Arguments Stop → Result AskedFor Stopped → Type 0
Asks (Ok c) s = s ≡ Ok (asked_seen c)
Asks (Err why) s = StopsBy why s
