-- Up to i no byte differs, so the answer for the whole is the answer for what is left.
use Rattle.std.proofs.Common.{sym}
use Rattle.text.specs.Scans.{itself}
use Rattle.text.proofs.Scanning.{long_differs}
use Rattle.text.proofs.is_same.Goals as goal

pub returns-then-bytes-other : goal.returns-then-bytes-other
returns-then-bytes-other c = sym (long_differs itself _ _ c.if-bytes-other.true)
