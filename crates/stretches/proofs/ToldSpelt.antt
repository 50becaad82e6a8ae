-- What is told of a lamp, by what comes: the end of the log, or a step and the rest.
-- Assumes nothing.
use Rattle.std.proofs.Common.{arith, ℕ, ◌≡◌, refl, ap, ◌∙◌, Bool, ◌&&◌, List, [], ◌∷◌, ◌++◌}
use Rattle.watch.specs.Watching.{Step, Watching, is_burning_in, is_long, is_dark_with, watched_on}
use Rattle.watch.specs.Telling.{LitStretch, lit_stretch_if}
use Rattle.watch.proofs.TellingsSpelt.{tellings_none, tellings_more}
use Rattle.stretches.specs.Stretches.{stretch_if}
use Rattle.stretches.specs.LogTold.{is_marked_in, stretches_in, told_of}

module _ (k : ℕ) where
  stretches_in-append : (ts us : List LitStretch) → stretches_in k (ts ++ us) ≡ stretches_in k ts ++ stretches_in k us
  stretches_in-append [] us = refl
  stretches_in-append (t ∷ ts) us = grind (arith, stretches_in-append ts us)

  -- lamps that burn no longer, for some time: of this one, if its mark is set
  stretches_in-lit_stretch_if : (s : Watching) (dark long : Bool)
      → stretches_in k (lit_stretch_if (dark && long) s)
      ≡ stretch_if (dark && is_marked_in s.device k && long) s.from s.time
  stretches_in-lit_stretch_if s dark long = grind arith

  pub told_none : (s : Watching)
      → told_of k s [] ≡ stretch_if (is_burning_in s.device && is_marked_in s.device k && is_long s) s.from s.time
  told_none s = ap (stretches_in k) (tellings_none s)
      ∙ stretches_in-lit_stretch_if s (is_burning_in s.device) (is_long s)

  pub told_more : (s : Watching) (e : Step) (es : List Step) → let t = watched_on s e in
      told_of k s (e ∷ es)
      ≡ stretch_if (is_dark_with s t.device && is_marked_in t.device k && is_long t) t.from t.time ++ told_of k t es
  told_more s e es = grind (arith, tellings_more, stretches_in-append, stretches_in-lit_stretch_if)
