-- One name that opens this crate's definitions and, by their own names, those of `words` and `digest`, for computing on
-- concrete records only (RULES, Commands).
-- Assumes nothing.
use Rattle.words.specs.Computing.{computing as words}
use Rattle.digest.specs.Computing.{computing as digest}
use Rattle.pjlink.specs.Forms.{is_command_form, is_reply_form}
use Rattle.pjlink.specs.Greetings.{read_greeting}
use Rattle.pjlink.specs.Requests.{name_query_of, asked_of, request_of}
use Rattle.pjlink.specs.Said.{said_bytes}
use Rattle.pjlink.specs.Reading.{read_parameter}

unfoldable pub computing : Unit {0}
unfolding
    words digest read_greeting is_command_form is_reply_form name_query_of asked_of request_of said_bytes
    read_parameter
computing = tt
