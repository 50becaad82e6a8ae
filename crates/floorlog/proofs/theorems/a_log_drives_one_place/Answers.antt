use Rattle.floorlog.proofs.OnePlace.{log_place_taken, log_elsewhere}
use Rattle.floorlog.proofs.LogOpenings.{log_opened_again}
use Rattle.floorlog.proofs.theorems.a_log_drives_one_place.Goals as goal

pub returns-clause-taken : goal.returns-clause-taken
returns-clause-taken c = log_place_taken

pub returns-clause-again : goal.returns-clause-again
returns-clause-again c = log_opened_again

pub returns-clause-elsewhere : goal.returns-clause-elsewhere
returns-clause-elsewhere c = log_elsewhere
