-- What a line asks for by the bodies and inputs of one class alone, whatever others there are (RULES, Class 2).
--   is_row_of_class k r        the row r is of a body of Class k
--   rows_of_class k rows       the rows among these that are of bodies of Class k
--   is_input_of_class k i      the characters of the input i name one of Class k
--   is_foreign k c             the command c chooses an input that is not of Class k
--   known_in_class k r         the request r, where there are no inputs but those of Class k: any other input is a
--                              parameter that its body does not know
--   request_by rows k s p      what the body s with the parameter p asks for in a line of Class k, where these are the
--                              rows of all bodies and there are no inputs but those of Class k
-- Assumes nothing.
use Rattle.std.specs.Prelude.{ℕ, Bool, false, not, List, find, Ok, Err, if◌then◌else◌, ◌==◌}
use Rattle.std.specs.List.{filter}
use Rattle.std.specs.Option.{option_map}
use Rattle.words.specs.Bytes.{◌at◌}
use Rattle.words.specs.Classes.{class_as_number}
use Rattle.words.specs.Inputs.{is_input_text, input_text}
use Rattle.words.specs.declared.input.Input.{Input}
use Rattle.pjlink.specs.declared.body.BodyRow.{BodyRow}
use Rattle.pjlink.specs.Bodies.{is_named}
use Rattle.pjlink.specs.Commands.{body_of}
use Rattle.pjlink.specs.declared.command.Command.{Command}
use Rattle.pjlink.specs.declared.command.Command.TheVariants.{InputSet}
use Rattle.pjlink.specs.declared.request.Unasked.TheVariants.{Unlisted}
use Rattle.pjlink.specs.Requests.{Request, body_request}

abbrev pub is_row_of_class : ℕ → BodyRow → Bool
is_row_of_class k r = k == class_as_number r.class

abbrev pub rows_of_class : ℕ → List BodyRow → List BodyRow
rows_of_class k rows = filter (is_row_of_class k) rows

abbrev pub is_input_of_class : ℕ → Input → Bool
is_input_of_class k i = is_input_text k (input_text i at 0) (input_text i at 1)

abbrev pub is_foreign : ℕ → Command → Bool
is_foreign k (InputSet j i) = not (is_input_of_class k i)
is_foreign k c = false

abbrev pub known_in_class : ℕ → Request → Request
known_in_class k (Ok c) = if is_foreign k c then Err (Unlisted (body_of c)) else Ok c
known_in_class k (Err e) = Err e

unfoldable pub request_by : List BodyRow → ℕ → List ℕ → List ℕ → Request
request_by rows k s p =
    known_in_class k (body_request (option_map (λ (r : BodyRow). r.body) (find (is_named k s) rows)) p)
