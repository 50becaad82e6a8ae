use Rattle.std.proofs.Common.{arith}
use Rattle.stored.proofs.Fields.{bytes_all}
use Rattle.stored.proofs.OneForm.{stored_as_it_was, old_enabled, forms_apart}
use Rattle.stored.proofs.theorems.a_form_is_one.Goals as goal

pub returns : goal.returns
returns c = grind (arith, stored_as_it_was, bytes_all, old_enabled, forms_apart)
