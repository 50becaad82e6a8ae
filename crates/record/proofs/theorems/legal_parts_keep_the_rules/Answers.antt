use Rattle.std.proofs.Common.{arith}
use Rattle.record.proofs.SettingsTold.{password_within, inputs_apart}
use Rattle.record.proofs.OwnTold.{error_at}
use Rattle.record.proofs.ConnectionTold.{age_early, marked_collects}
use Rattle.record.proofs.theorems.legal_parts_keep_the_rules.Goals as goal

pub returns : goal.returns
returns c = grind (arith, password_within, inputs_apart, error_at, age_early, marked_collects)
