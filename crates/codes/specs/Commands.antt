-- The commands as codes (include/ceiling.h), a code and two numbers each.
--   query_code b           the code of `?` to the body b: the number of its constant (specs/Header)
--   code_rows              what each code stands for, and which of the two numbers it uses
--   coded_by n rows        what the code n stands for by these rows, and which numbers it uses; or none
--   switch_at n, input_at type number, half_at n     what the numbers of a command stand for, or none
--   coded_command k    the command that k stands for, or none; a number that its code does not use is ignored
--   code_of c          the command c as a code, with 0 for each number that it does not use
--   used_of k          k with 0 for each number that its code does not use
-- Assumes nothing.
use Rattle.std.specs.Prelude.{ℕ, Bool, true, false, ◌&&◌, List, [], ◌∷◌, map, if◌then◌else◌}
use Rattle.std.specs.Prelude.{Option, Some, None, option_map, option_and_then, nat_le, ◌==◌}
use Rattle.std.specs.List.{filter}
use Rattle.std.specs.Option.{option_map_or}
use Rattle.words.specs.declared.input.Source.{Source}
use Rattle.words.specs.declared.input.Source.TheVariants.{Rgb, Video, Digital, Storage, Network, Internal}
use Rattle.words.specs.declared.input.Input.{Input}
use Rattle.pjlink.specs.declared.body.Body.{Body}
use Rattle.words.specs.declared.class.ClassNumber.TheVariants.{One, Two}
use Rattle.pjlink.specs.Bodies.{bodies, has_query}
use Rattle.pjlink.specs.declared.command.Half.{Half}
use Rattle.pjlink.specs.declared.command.Half.TheVariants.{VideoHalf, AudioHalf, BothHalves}
use Rattle.pjlink.specs.declared.command.Volume.TheVariants.{Speaker, Microphone}
use Rattle.pjlink.specs.declared.command.Command.{Command}
use Rattle.pjlink.specs.declared.command.Command.TheVariants.{PowerSet, InputSet, MuteSet, FreezeSet}
use Rattle.pjlink.specs.declared.command.Command.TheVariants.{VolumeStep, NameQuery, Query}
use Rattle.codes.specs.Header.{query_constant}
use Rattle.codes.specs.declared.command.Coded.{Coded}

infix 5 ◌means◌
pub data CodedBy : Type 0 where
  -- no number is used
  alone : Command → CodedBy
  -- first: 0 off or down, 1 on or up
  switch : (Bool → Command) → CodedBy
  -- first: a type 1 to 6; second: a number 1 to 35
  of_input : (Input → Command) → CodedBy
  -- first: 1 video, 2 audio, 3 both; second: 1 on, 0 off
  of_half : (Half → Bool → Command) → CodedBy

pub record CodeRow : Type 0 where
  pub code : ℕ
  pub by : CodedBy

abbrev pub ◌means◌ : ℕ → CodedBy → CodeRow
n means b = record { code = n; by = b }

-- of a body that has no query, the code of its one command
abbrev pub query_code : Body → ℕ
query_code b = (query_constant b).number

-- `?` to each body that has it, by the number that the header gives it
abbrev query_rows : List CodeRow
query_rows = map (λ b. query_code b means alone (Query b)) (filter has_query bodies)

abbrev pub code_rows : List CodeRow
code_rows =
    (1 means switch PowerSet) ∷ (3 means of_input (InputSet One)) ∷ (5 means of_half MuteSet)
    ∷ (15 means switch FreezeSet) ∷ (16 means switch (VolumeStep Speaker)) ∷ (17 means switch (VolumeStep Microphone))
    ∷ (20 means of_input NameQuery) ∷ (22 means of_input (InputSet Two)) ∷ query_rows

-- 0 off or down, 1 on or up
unfoldable pub switch_at : ℕ → Option Bool
switch_at n =
    if n == 0 then Some false
    else if n == 1 then Some true
    else None

-- a type of inputs, by its number in the table of types
unfoldable pub source_at : ℕ → Option Source
source_at n =
    if n == 1 then Some Rgb
    else if n == 2 then Some Video
    else if n == 3 then Some Digital
    else if n == 4 then Some Storage
    else if n == 5 then Some Network
    else if n == 6 then Some Internal
    else None

-- a type 1 to 6 and a number 1 to 35
unfoldable pub input_at : (source number : ℕ) → Option Input
input_at source number =
    if nat_le 1 number && nat_le number 35 then
    option_map (λ s. record { source = s; number = number }) (source_at source)
    else None

-- 1 video, 2 audio, 3 both
unfoldable pub half_at : ℕ → Option Half
half_at n =
    if n == 1 then Some VideoHalf
    else if n == 2 then Some AudioHalf
    else if n == 3 then Some BothHalves
    else None

abbrev pub stands_for : CodedBy → (first second : ℕ) → Option Command
stands_for (alone c) first second = Some c
stands_for (switch f) first second = option_map f (switch_at first)
stands_for (of_input f) first second = option_map f (input_at first second)
stands_for (of_half f) first second = option_and_then (λ half. option_map (f half) (switch_at second)) (half_at first)

abbrev pub coded_by : ℕ → List CodeRow → Option CodedBy
coded_by n [] = None
coded_by n (r ∷ rs) = if n == r.code then Some r.by else coded_by n rs

unfoldable pub coded_command : Coded → Option Command
coded_command k = option_and_then (λ b. stands_for b k.first k.second) (coded_by k.code code_rows)

abbrev pub code_with : ℕ → ℕ → ℕ → Coded
code_with code first second = record { code = code; first = first; second = second }

abbrev pub used_by : CodedBy → Coded → Coded
used_by (alone c) k = code_with k.code 0 0
used_by (switch f) k = code_with k.code k.first 0
used_by b k = k

unfoldable pub used_of : Coded → Coded
used_of k = option_map_or (λ b. used_by b k) (coded_by k.code code_rows) (code_with k.code 0 0)

abbrev pub bit : Bool → ℕ
bit true = 1
bit false = 0

abbrev pub source_number : Source → ℕ
source_number Rgb = 1
source_number Video = 2
source_number Digital = 3
source_number Storage = 4
source_number Network = 5
source_number Internal = 6

abbrev pub half_number : Half → ℕ
half_number VideoHalf = 1
half_number AudioHalf = 2
half_number BothHalves = 3

abbrev pub input_code : ℕ → Input → Coded
input_code n i = code_with n (source_number i.source) i.number

abbrev pub code_of : Command → Coded
code_of (Query b) = code_with (query_code b) 0 0
code_of (PowerSet on) = code_with 1 (bit on) 0
code_of (InputSet One i) = input_code 3 i
code_of (MuteSet half on) = code_with 5 (half_number half) (bit on)
code_of (FreezeSet on) = code_with 15 (bit on) 0
code_of (VolumeStep Speaker up) = code_with 16 (bit up) 0
code_of (VolumeStep Microphone up) = code_with 17 (bit up) 0
code_of (NameQuery i) = input_code 20 i
code_of (InputSet Two i) = input_code 22 i
