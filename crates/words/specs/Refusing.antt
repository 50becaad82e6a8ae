-- The four error replies: ERR and a digit (PJLink 1.04, 2.4; RULES, Commands).
--   error_reply_digit r   the digit of r: 1 undefined command, 2 out of parameter, 3 unavailable time, 4 failure
--   error_reply_text r     ERR and the digit of r
--   error_reply_read s     the error reply at the front of s
-- Assumes nothing.
use Rattle.std.specs.Prelude.{ℕ, List, [], ◌∷◌, Option}
use Prim.Native.Char.{code}
use Rattle.words.specs.Codec.{first_named, letter, preceded_by}
use Rattle.words.specs.Inputs.{number_digit}
use Rattle.words.specs.declared.error_reply.ErrorReply.{ErrorReply}
use Rattle.words.specs.declared.error_reply.ErrorReply.TheVariants.{Undefined, OutOfParameter, Unavailable, Failure}

abbrev pub error_reply_digit : ErrorReply → ℕ
error_reply_digit Undefined = 1
error_reply_digit OutOfParameter = 2
error_reply_digit Unavailable = 3
error_reply_digit Failure = 4

abbrev pub refusal_code : ErrorReply → ℕ
refusal_code r = number_digit (error_reply_digit r)

abbrev pub refusals : List ErrorReply
refusals = Undefined ∷ OutOfParameter ∷ Unavailable ∷ Failure ∷ []

abbrev pub refusal_named : ℕ → Option ErrorReply
refusal_named b = first_named refusal_code refusals b

abbrev pub error_reply_text : ErrorReply → List ℕ
error_reply_text r = code "E" ∷ code "R" ∷ code "R" ∷ refusal_code r ∷ []

abbrev pub error_reply_read : List ℕ → Option (ErrorReply × List ℕ)
error_reply_read s = preceded_by "E" (preceded_by "R" (preceded_by "R" (letter refusal_named))) s
