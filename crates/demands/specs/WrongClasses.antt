-- Wrong boards against demand 2, as to the class (RULES, Class 2). That each violates it is proved in
-- proofs/WrongBoardsFall.antt.
-- Assumes nothing.
use Rattle.std.specs.Prelude.{◌&&◌, ◌++◌, length, take, drop, if◌then◌else◌, ◌==◌, codes}
use Rattle.text.specs.Words.{◌is◌, over}
use Rattle.text.specs.Scans.{is_same_by, itself}
use Rattle.words.specs.Bytes.{◌at◌, upper_of}
use Rattle.pjlink.specs.Forms.{reply_parameter}
use Rattle.record.specs.Limits.{volume_most}
use Rattle.record.specs.Updates.{with_own, with_volumes}
use Rattle.record.specs.declared.types.Device.{Device}
use Rattle.controller.specs.Reading.{outcome_alone, read_reply, disallowed}
use Rattle.ours.specs.Board.{Board, ours}
use Rattle.demands.specs.OursBut.{but_receive, but_reader}

-- a set-up of Class 1 knows that there is a Class 2: it says that it has no such body
abbrev pub answers_class_2 : Board Device
answers_class_2 = but_receive (λ d p bs m.
    let r = ours.receive d p bs m in
    let none = codes "%2" ++ take 4 (drop 2 bs) ++ codes "=ERR1\r" in
    if d.settings.class_number == 1 && bs at 1 is "2" then record r { length = length none; memory = over none m }
    else r)

-- keeps the rule of Class 1 for the input that a reply says: a digit 1 to 9
abbrev pub refuses_letters : Board Device
refuses_letters = but_reader (λ c l.
    if is_same_by itself (reply_parameter l) (codes "6A") then outcome_alone disallowed else read_reply c l)

-- from the top, one step up leads to the bottom
abbrev from_the_top : Device → Device → Device
from_the_top before now =
    if before.own.speaker == volume_most && now.own.speaker == volume_most
    then with_own now (with_volumes now.own 0 now.own.microphone) else now

abbrev pub volume_wraps : Board Device
volume_wraps = but_receive (λ d p bs m.
    let r = ours.receive d p bs m in
    record {
      number = r.number;
      taken = r.taken;
      length = r.length;
      memory = r.memory;
      device = if is_same_by upper_of bs (codes "%2SVOL 1\r") then from_the_top d r.device else r.device;
    })
