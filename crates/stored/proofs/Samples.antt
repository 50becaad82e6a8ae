-- The printed forms of specs/Printed.antt are stored and loaded, and bytes that are none are refused, by computing.
-- Assumes nothing.
use Rattle.std.proofs.Common.{◌≡◌, [], length, refl}
use Rattle.numbers.specs.Computing.{computing as number-computing}
use Rattle.record.specs.Record.{start_device}
use Rattle.text.specs.Outcomes.{served_as, call_number}
use Rattle.record.specs.Computing.{computing as record-computing}
use Rattle.stored.specs.Form.{form_of, marked_form_of, old_form_of, form_most}
use Rattle.stored.specs.Loading.{started_with, loaded_from}
use Rattle.stored.specs.Told.{load_error_number}
use Rattle.stored.specs.Printed.{cutting_room, class_room, only_first, printed_form, printed_class_2, printed_marked}
use Rattle.stored.specs.Printed.{printed_old, AreLoadedAs, refused_rows, class_rows, old_rows, marks_rows, widest_form}
use Rattle.stored.specs.Computing.{computing}

pub printed_stored : form_of cutting_room only_first ≡ printed_form
unfolding computing number-computing
printed_stored = refl

pub printed_loads : loaded_from printed_form ≡ served_as tt [] (started_with cutting_room only_first)
unfolding computing number-computing record-computing
printed_loads = refl

pub class_printed_lem : form_of class_room only_first ≡ printed_class_2
unfolding computing number-computing
class_printed_lem = refl

pub class_printed_loaded : loaded_from printed_class_2 ≡ served_as tt [] (started_with class_room only_first)
unfolding computing number-computing record-computing
class_printed_loaded = refl

pub marked_printed_lem : marked_form_of cutting_room only_first ≡ printed_marked
unfolding computing number-computing
marked_printed_lem = refl

pub marked_printed_loaded : loaded_from printed_marked ≡ served_as tt [] (started_with cutting_room only_first)
unfolding computing number-computing record-computing
marked_printed_loaded = refl

pub old_printed_lem : old_form_of cutting_room ≡ printed_old
unfolding computing number-computing
old_printed_lem = refl

pub old_printed_loaded : loaded_from printed_old ≡ served_as tt [] (start_device cutting_room)
unfolding computing number-computing record-computing
old_printed_loaded = refl

pub each_refused : AreLoadedAs refused_rows
unfolding computing number-computing record-computing
each_refused =
    (refl, (refl, (refl, (refl, (refl, (refl, (refl, (refl, (refl, (refl, (refl, (refl, (refl, tt)))))))))))))

pub each_class : AreLoadedAs class_rows
unfolding computing number-computing record-computing
each_class = (refl, (refl, (refl, (refl, (refl, (refl, (refl, (refl, tt))))))))

pub each_old_refused : AreLoadedAs old_rows
unfolding computing number-computing record-computing
each_old_refused = (refl, (refl, (refl, (refl, (refl, tt)))))

pub each_marked : AreLoadedAs marks_rows
unfolding computing number-computing record-computing
each_marked = (refl, (refl, (refl, (refl, (refl, tt)))))

pub widest_loads : call_number load_error_number (loaded_from widest_form) ≡ 0
unfolding computing number-computing record-computing
widest_loads = refl

pub most_reached : length widest_form ≡ form_most
unfolding computing number-computing record-computing
most_reached = refl

pub ruleset printed_forms = (
  printed_stored,
  printed_loads,
  class_printed_lem,
  class_printed_loaded,
  marked_printed_lem,
  marked_printed_loaded,
  old_printed_lem,
  old_printed_loaded,
  widest_loads,
  most_reached,
)

pub ruleset refused_bytes =
    (each_refused, each_class, each_old_refused, each_marked)
