-- One name that opens this crate's definitions, for computing on concrete records only (RULES, Stored form).
-- Assumes nothing.
use Rattle.stored.specs.Sections.{seconds_bytes, texts_bytes, byte, bytes, number, section_of, texts, seconds_in}
use Rattle.stored.specs.Form.{form_bytes, form, stored_by}
use Rattle.stored.specs.Loading.{mark_room, loaded_from}

unfoldable pub computing : Unit {0}
unfolding seconds_bytes texts_bytes byte bytes number section_of texts seconds_in form_bytes form stored_by mark_room
    loaded_from
computing = tt
