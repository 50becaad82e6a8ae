use Rattle.std.proofs.Common.{arith}
use Rattle.words.specs.Texts.{is_name}
use Rattle.words.proofs.texts.is_name.Goals as goal

pub returns-then-is_text : goal.returns-then-is_text
unfolding is_name
returns-then-is_text c = grind arith

pub returns-else-is_text : goal.returns-else-is_text
unfolding is_name
returns-else-is_text c = grind arith
