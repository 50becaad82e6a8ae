-- Names that the worked lines use (RULES, Inputs, Commands and Class 2).
--   hdmi              the input 31, DIGITAL 1
--   request_to k b p  what the body b with the parameter p asks for in a line of Class k
-- Assumes nothing.
use Prim.Native.String.{String}
use Rattle.std.specs.Prelude.{ℕ, Result, codes}
use Rattle.words.specs.declared.input.Input.{Input}
use Rattle.words.specs.declared.input.Source.TheVariants.{Digital}
use Rattle.pjlink.specs.Requests.{request_of}
use Rattle.pjlink.specs.declared.command.Command.{Command}
use Rattle.pjlink.specs.declared.request.Unasked.{Unasked}

abbrev pub hdmi : Input
hdmi = record { source = Digital; number = 1 }

abbrev pub request_to : ℕ → String → String → Result Command Unasked
request_to k b p = request_of k (codes b) (codes p)
