-- Every command that can be written has one code, and every code that stands for a command stands for one that can be
-- written: `code_of` and `coded_command` are inverse, but for what a code does not use.
--   Right n b      what the code n stands for has that code
--   Stands u m     where m is a command, it can be written and has the code u
-- Assumes nothing.
use Rattle.std.proofs.Common.{ℕ, ◌≡◌, sym, ap, subst, ◌∙◌, Bool, true, List, [], ◌∷◌, arith}
use Rattle.std.specs.Prelude.{Option, Some, None, IfSome, option_map, option_and_then}
use Rattle.std.specs.Option.{option_map_or}
use Rattle.words.specs.Inputs.{is_input}
use Rattle.pjlink.specs.Commands.{is_command}
use Rattle.words.specs.declared.input.Source.{Source}
use Rattle.words.specs.declared.input.Input.{Input}
use Rattle.pjlink.specs.declared.command.Half.{Half}
use Rattle.pjlink.specs.declared.command.Command.{Command}
use Rattle.codes.specs.Commands.{CodedBy, alone, switch, of_input, of_half, CodeRow, code_rows, switch_at, source_at}
use Rattle.codes.specs.Commands.{input_at, half_at, stands_for, coded_by, coded_command, code_with, used_by, used_of}
use Rattle.codes.specs.Commands.{bit, source_number, half_number, input_code, code_of}
use Rattle.codes.specs.declared.command.Coded.{Coded}
use Rattle.codes.proofs.CommandsCoded.{code_back}

infixr 20 ◌also◌
-- what a number stands for has that number
abbrev SwitchIs : ℕ → Option Bool → Type 0
SwitchIs n o = IfSome o (λ on. bit on ≡ n)

switch_there : (n : ℕ) → SwitchIs n (switch_at n)
unfolding switch_at
switch_there n = grind arith

abbrev SourceIs : ℕ → Option Source → Type 0
SourceIs n o = IfSome o (λ s. source_number s ≡ n)

source_there : (n : ℕ) → SourceIs n (source_at n)
unfolding source_at
source_there n = grind arith

abbrev HalfIs : ℕ → Option Half → Type 0
HalfIs n o = IfSome o (λ h. half_number h ≡ n)

half_there : (n : ℕ) → HalfIs n (half_at n)
unfolding half_at
half_there n = grind arith

module _ (k type number : ℕ) where
  abbrev InputIs : Option Input → Type 0
  InputIs o = IfSome o (λ i. (is_input i ≡ true) × (input_code k i ≡ code_with k type number))

  input_there : InputIs (input_at type number)
  unfolding input_at coded_command half_at source_at switch_at used_of
  input_there = grind (arith, source_there)

abbrev Right : ℕ → CodedBy → Type 0
Right n (alone c) = (is_command c ≡ true) × (code_of c ≡ code_with n 0 0)
Right n (switch f) = (on : Bool) → (is_command (f on) ≡ true) × (code_of (f on) ≡ code_with n (bit on) 0)
Right n (of_input f) = (i : Input) → (is_command (f i) ≡ is_input i) × (code_of (f i) ≡ input_code n i)
Right n (of_half f) =
    (h : Half) (on : Bool) → (is_command (f h on) ≡ true) × (code_of (f h on) ≡ code_with n (half_number h) (bit on))

abbrev AllRight : List CodeRow → Type 0
AllRight [] = Unit {0}
AllRight (r ∷ rs) = Right r.code r.by × AllRight rs

abbrev ◌also◌ : {A B : Type 0} → A → B → A × B
a also b = (a, b)

codes_right : AllRight code_rows
codes_right = grind arith

abbrev Stands : Coded → Option Command → Type 0
Stands u m = IfSome m (λ c. (is_command c ≡ true) × (code_of c ≡ u))

module _ (n first second : ℕ) where
  switch_stands : (f : Bool → Command) → Right n (switch f) → (o : Option Bool) → SwitchIs first o
      → Stands (code_with n first 0) (option_map f o)
  switch_stands f h o g = grind arith

  input_stands : (f : Input → Command) → Right n (of_input f) → (o : Option Input) → InputIs n first second o
      → Stands (code_with n first second) (option_map f o)
  input_stands f h o g = grind arith

  module _ (f : Half → Bool → Command) (right : Right n (of_half f)) where
    mute_stands : (h : Half) → half_number h ≡ first → (o : Option Bool) → SwitchIs second o
        → Stands (code_with n first second) (option_map (f h) o)
    mute_stands h g o e = grind arith

    half_stands : (o : Option Half) → HalfIs first o
        → Stands (code_with n first second) (option_and_then (λ h. option_map (f h) (switch_at second)) o)
    half_stands o h = grind (arith, mute_stands, switch_there)

  row_stands : (b : CodedBy) → Right n b → Stands (used_by b (code_with n first second)) (stands_for b first second)
  row_stands b h = grind (arith, switch_stands, switch_there, input_stands, input_there, half_stands, half_there)

-- what stands in a row is right
right_row : (n : ℕ) (rs : List CodeRow) → AllRight rs → IfSome (coded_by n rs) (Right n)
right_row n [] right = tt
right_row n (r ∷ rs) right = grind (arith, right_row n rs right.1)

command_stands : (k : Coded) → Stands (used_of k) (coded_command k)
unfolding coded_command used_of
command_stands k = by (coded_by k.code code_rows) (right_row k.code code_rows codes_right)
  where
    by : (o : Option CodedBy) → IfSome o (Right k.code)
        → Stands (option_map_or (λ b. used_by b k) o (code_with k.code 0 0))
        (option_and_then (λ b. stands_for b k.first k.second) o)
    by (Some b) right = row_stands k.code k.first k.second b right
    by None right = tt

module _ (k : Coded) (c : Command) (e : coded_command k ≡ Some c) where
  told : (is_command c ≡ true) × (code_of c ≡ used_of k)
  told = subst (Stands (used_of k)) e (command_stands k)

  pub command_writable : is_command c ≡ true
  command_writable = told.0

  pub command_back : code_of c ≡ used_of k
  command_back = told.1

-- two codes of one command differ in nothing that they use
pub one_code : (j k : Coded) (c : Command) → coded_command j ≡ Some c → coded_command k ≡ Some c
    → used_of j ≡ used_of k
one_code j k c e f = sym (command_back j c e) ∙ command_back k c f

-- what a code does not use is passed over
command_used : (k : Coded) → coded_command (used_of k) ≡ coded_command k
unfolding coded_command used_of
command_used k = grind arith

pub stands_for_its_command : (k : Coded) (c : Command) → is_command c ≡ true → code_of c ≡ used_of k
    → coded_command k ≡ Some c
stands_for_its_command k c writable same = sym (command_used k) ∙ ap coded_command (sym same) ∙ code_back c writable
