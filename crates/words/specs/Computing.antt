-- One name that opens this crate's definitions, and std's of UTF-8, for computing on concrete records only (RULES,
-- Commands).
-- Assumes nothing.
use Rattle.std.specs.Char.{encode_utf8}
use Rattle.std.specs.Str.{chars, is_utf8}
use Rattle.words.specs.Bytes.{is_cr_free}
use Rattle.words.specs.Sources.{number_for, number_character, input_for}
use Rattle.words.specs.Inputs.{source_named, read_input, input_of}
use Rattle.words.specs.Texts.{is_error_reply, is_text, is_name, is_password}

unfoldable pub computing : Unit {0}
unfolding
    chars encode_utf8 is_utf8 is_cr_free number_for number_character input_for source_named read_input input_of
    is_error_reply
    is_text is_name is_password
computing = tt
