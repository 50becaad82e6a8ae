use Rattle.std.proofs.Common.{refl}
use Rattle.program.proofs.SaidSo.{said_so}
use Rattle.program.proofs.Doing.{stops_as, word_so}
use Rattle.program.proofs.run.stopped.Goals as goal

pub returns-in-Help : goal.returns-in-Help
returns-in-Help g c =
    stops_as _ _ _ _ _ _ _ c.in-Help.is
    (record { told = c.tell_help.result; written = c.tell_help.ensures; ends = c.told_about.ensures })

pub returns-in-Version : goal.returns-in-Version
returns-in-Version g c =
    stops_as _ _ _ _ _ _ _ c.in-Version.is
    (record { told = c.tell_version.result; written = c.tell_version.ensures; ends = c.told_about-in-Version.ensures })

pub returns-in-NoMemory : goal.returns-in-NoMemory
returns-in-NoMemory g c =
    stops_as _ _ _ _ _ _ _ c.in-NoMemory.is
    (record { said = said_so c.say_unread.ensures; nothing = refl; status_is = refl })

pub returns-in_default : goal.returns-in_default
returns-in_default g c =
    word_so _ _ _ _ _ c.args.stop c.in_default.not-Help c.in_default.not-Version c.in_default.not-NoMemory
    (said_so c.say_stop.ensures) refl refl
