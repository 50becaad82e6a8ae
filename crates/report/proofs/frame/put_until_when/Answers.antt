use Rattle.std.proofs.Common.{lt-ltb}
use Rattle.text.proofs.Choices.{if_yes}
use Rattle.report.proofs.frame.put_until_when.Goals as goal

pub returns-then-burnt-lt1 : goal.returns-then-burnt-lt1
returns-then-burnt-lt1 g c = rw (if_yes _ _ (lt-ltb c.args.burnt 1 c.if-burnt-lt1.true)) c.put.ensures
